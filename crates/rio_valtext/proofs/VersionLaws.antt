-- What is resolved leaves no version open.
use Rattle.std.proofs.Common.{◌≡◌, ◌&&◌, ℕ, ℤ, pos, List, [], ◌∷◌, Bool, true, false, not, cond, map, length, codes, ◌==◌, Option, Some, None, is_some, if◌then◌else◌, refl, sym, ap, subst, ◌∙◌}
use Rattle.std.proofs.{lemmas.Bool.{and_parts, Decides.{Decides-int_eq}}, lemmas.Option.{option_and_then_some}}
use Rattle.std.specs.{List.{list_all}, Option.{option_map, option_map_or, option_or}, Ordering.{int_eq}, Str.{bytes_eq}}
use Rattle.rio_format.specs.{Classes.{find_in}, declared.class.Base.{Base}, declared.class.ClassDef.{ClassDef}, declared.value.Part.{Part, Part-F}}
use Rattle.rio_format.specs.declared.value.Value.{Value, Int, Bits32, Bits64, Bool as Truth, Text, List as Items, Object, Pointed, Null, Back, Opaque, TheOpen.{Value-F}, TheFolds.{fold_out-Part}}
use Rattle.rio_format.specs.{Bodies.{form_of, part}, Slots.{is_headed}}
use Rattle.rio_format.proofs.ValueCases.{Each, by_cases, fold_Int, fold_Bits32, fold_Bits64, fold_Bool, fold_Text, fold_List, fold_Object, fold_Pointed, fold_Null, fold_Back, fold_Opaque}
use Rattle.rio_model.specs.Resolving.{ResolvedHasVersions, Resolving, bases_in_version, built_in_version, each_resolved, has_all_versions, has_versions_step, is_known_version, meant_version, object_resolved, part_resolved, resolved_version, resolving_of, resolving_of_part, resolving_step}
use Rattle.rio_valtext.proofs.ResolveLaws.{at, is_known_then, mapped, resolving-List, resolving-Object, resolving-Pointed}

-- ---- versions

abbrev is_closed : ℤ → Bool
is_closed version = not (int_eq version (pos 0))

same_version : (own version : ℤ) → is_closed own ≡ true → int_eq own version ≡ true → is_closed version ≡ true
same_version own version closed e = subst (λ (z : ℤ). is_closed z ≡ true) ((Decides-int_eq own version).0 e) closed

own_version : (version own : ℤ) → is_closed own ≡ true → int_eq version own ≡ true → is_closed version ≡ true
own_version version own closed e = subst (λ (z : ℤ). is_closed z ≡ true) (sym ((Decides-int_eq version own).0 e)) closed

found_closed : (classes : List ClassDef) (class : List ℕ) (version : ℤ) → list_all (λ c. is_closed c.version) classes ≡ true → is_some (find_in classes class version) ≡ true → is_closed version ≡ true
found_closed [] class version closed e = absurd cc
found_closed (d ∷ ds) class version closed e =
    let c = and_parts (is_closed d.version) (list_all (λ x. is_closed x.version) ds) closed in
    by c.0 (bytes_eq d.name class && int_eq d.version version) refl e (found_closed ds class version c.1)
  where
    by : is_closed d.version ≡ true → (b : Bool) → (bytes_eq d.name class && int_eq d.version version) ≡ b → is_some (cond b (Some d) (find_in ds class version)) ≡ true → (is_some (find_in ds class version) ≡ true → is_closed version ≡ true) → is_closed version ≡ true
    by own true t e rest = same_version d.version version own (and_parts (bytes_eq d.name class) (int_eq d.version version) t).1
    by own false t e rest = rest e

built_by : (version : ℤ) (named string list array headed : Bool)
    → option_map_or (int_eq version) (option_or (if named then Some (pos 1) else if string then Some (pos 1) else if list then Some (pos 5) else if array then Some (pos 3) else None) (if headed then None else Some (pos 1))) false ≡ true
    → is_closed version ≡ true
built_by version true string list array headed e = own_version version (pos 1) refl e
built_by version false true list array headed e = own_version version (pos 1) refl e
built_by version false false true array headed e = own_version version (pos 5) refl e
built_by version false false false true headed e = own_version version (pos 3) refl e
built_by version false false false false true e = absurd cc
built_by version false false false false false e = own_version version (pos 1) refl e

built_closed : (class : List ℕ) (version : ℤ) → option_map_or (int_eq version) (built_in_version class) false ≡ true → is_closed version ≡ true
built_closed class version e =
    built_by version (bytes_eq class (codes "TNamed")) (bytes_eq class (codes "TObjString")) (bytes_eq class (codes "TList")) (bytes_eq class (codes "TObjArray")) (is_headed (form_of class)) e

known_by : (P : Type 0) (version : ℤ) (own : Option ℤ) (declared : Bool) → (option_map_or (int_eq version) own false ≡ true → P) → (declared ≡ true → P) → option_map_or (int_eq version) own declared ≡ true → P
known_by P version (Some own) declared built found e = built e
known_by P version None declared built found e = found e

known_closed : (classes : List ClassDef) (class : List ℕ) (version : ℤ) → list_all (λ c. is_closed c.version) classes ≡ true → is_known_version classes class version ≡ true → is_closed version ≡ true
known_closed classes class version closed e =
    known_by (is_closed version ≡ true) version (built_in_version class) (is_some (find_in classes class version)) (built_closed class version) (found_closed classes class version closed) e

-- ---- lists

module _ {A : Type 0} (f : A → Resolving A) (test : A → Bool) (bases : List Base) where
  abbrev PassesIn : A → Type 0
  PassesIn x = (y : A) → f x bases ≡ Some y → test y ≡ true

  all_pass : (xs ys : List A) → Each PassesIn xs → each_resolved bases (map f xs) ≡ Some ys → list_all (λ b. b) (map test ys) ≡ true
  all_pass [] ys s h = let e : [] ≡ ys = cc in subst (λ (l : List A). list_all (λ b. b) (map test l) ≡ true) e refl
  all_pass (x ∷ xs) ys s h =
      option_and_then_some (λ y. option_map (λ l. y ∷ l) (each_resolved bases (map f xs))) (f x bases) ys h (λ y first rest.
      mapped (λ l. y ∷ l) (each_resolved bases (map f xs)) ys rest (λ l others e.
      let one : test y ≡ true = s.0 y first in
      let more : list_all (λ b. b) (map test l) ≡ true = all_pass xs l s.1 others in
      subst (λ (z : List A). list_all (λ b. b) (map test z) ≡ true) e (rw (one, more) refl)))

-- ---- values

abbrev part_step : Part-F Bool Bool → Bool
part_step = λ p. p.value

abbrev part_has_versions : Part → Bool
part_has_versions p = has_all_versions p.value

versions-List : (vs : List Value) → has_all_versions (Items vs) ≡ list_all (λ b. b) (map has_all_versions vs)
versions-List vs = fold_List has_versions_step part_step vs

versions-Object : (class : List ℕ) (version : ℤ) (parts : List Part) → has_all_versions (Object class version parts) ≡ (is_closed version && list_all (λ b. b) (map part_has_versions parts))
versions-Object class version parts =
    fold_Object has_versions_step part_step class version parts
    ∙ ap (λ (f : Part → Bool). is_closed version && list_all (λ b. b) (map f parts)) (λ i p. fold_out-Part Bool Bool has_versions_step part_step p i)

versions-Pointed : (label : ℕ) (object : Value) → has_all_versions (Pointed label object) ≡ has_all_versions object
versions-Pointed label object = fold_Pointed has_versions_step part_step label object

module _ (classes : List ClassDef) (closed : list_all (λ c. is_closed c.version) classes ≡ true) where
  abbrev step : Value-F (Resolving Value) (Resolving Part) → Resolving Value
  step = resolving_step classes

  abbrev resolving_part_step : Part-F (Resolving Value) (Resolving Part) → Resolving Part
  resolving_part_step = λ p. part_resolved p.name p.value

  abbrev Closes : Value → Type 0
  Closes v = (bases : List Base) → PassesIn (resolving_of classes) has_all_versions bases v

  leaf : (v : Value) → (r : Resolving Value) → resolving_of classes v ≡ r → ((bases : List Base) → r bases ≡ Some v) → has_all_versions v ≡ true → Closes v
  leaf v r folds same has bases w h =
      let both : Some v ≡ Some w = sym (at classes bases v r folds ∙ same bases) ∙ h in
      let e : v ≡ w = cc in
      subst (λ (z : Value). has_all_versions z ≡ true) e has

  each_in : (bases : List Base) (vs : List Value) → Each Closes vs → Each (PassesIn (resolving_of classes) has_all_versions bases) vs
  each_in bases [] s = tt
  each_in bases (v ∷ vs) s = (s.0 bases, each_in bases vs s.1)

  list_closes : (vs : List Value) → Each Closes vs → Closes (Items vs)
  list_closes vs s bases w h =
      mapped Items (each_resolved [] (map (resolving_of classes) vs)) w (sym (resolving-List classes vs bases) ∙ h) (λ ws items e.
      subst (λ (z : Value). has_all_versions z ≡ true) e (versions-List ws ∙ all_pass (resolving_of classes) has_all_versions [] vs ws (each_in [] vs s) items))

  pointed_closes : (label : ℕ) (object : Value) → Closes object → Closes (Pointed label object)
  pointed_closes label object s bases w h =
      mapped (Pointed label) (resolving_of classes object []) w (sym (resolving-Pointed classes label object bases) ∙ h) (λ o inner e.
      subst (λ (z : Value). has_all_versions z ≡ true) e (versions-Pointed label o ∙ s [] o inner))

  part_closes : (bases : List Base) (p : Part) → Closes p.value → PassesIn (resolving_of_part classes) part_has_versions bases p
  part_closes bases p s q h =
      let within : List Base = if length p.name == 0 then bases else [] in
      mapped (part p.name) (resolving_of classes p.value within) q h (λ w inner e.
      subst (λ (z : Part). part_has_versions z ≡ true) e (s within w inner))

  each_part : (bases : List Base) (ps : List Part) → Each (λ p. Closes p.value) ps → Each (PassesIn (resolving_of_part classes) part_has_versions bases) ps
  each_part bases [] s = tt
  each_part bases (p ∷ ps) s = (part_closes bases p s.0, each_part bases ps s.1)

  object_closes : (class : List ℕ) (version : ℤ) (parts : List Part) → Each (λ p. Closes p.value) parts → Closes (Object class version parts)
  object_closes class version parts s bases w h =
      option_and_then_some (object_resolved classes class (map (resolving_of_part classes) parts)) (resolved_version classes bases class version) w (sym (resolving-Object classes class version parts bases) ∙ h) (λ v picks made.
      let within : List Base = bases_in_version classes class v in
      mapped (Object class v) (each_resolved within (map (resolving_of_part classes) parts)) w made (λ ps inner e.
      let known : is_known_version classes class v ≡ true = (is_known_then (is_known_version classes class) (meant_version classes bases class version) v picks).1 in
      let own : is_closed v ≡ true = known_closed classes class v closed known in
      let more : list_all (λ b. b) (map part_has_versions ps) ≡ true = all_pass (resolving_of_part classes) part_has_versions within parts ps (each_part within parts s) inner in
      subst (λ (z : Value). has_all_versions z ≡ true) e (versions-Object class v ps ∙ rw (own, more) refl)))

  each_value_closes : (v : Value) → Closes v
  each_value_closes = by_cases Closes (record {
    int = λ z. leaf (Int z) _ (fold_Int step resolving_part_step z) (λ bases. refl) (fold_Int has_versions_step part_step z);
    bits32 = λ n. leaf (Bits32 n) _ (fold_Bits32 step resolving_part_step n) (λ bases. refl) (fold_Bits32 has_versions_step part_step n);
    bits64 = λ n. leaf (Bits64 n) _ (fold_Bits64 step resolving_part_step n) (λ bases. refl) (fold_Bits64 has_versions_step part_step n);
    truth = λ b. leaf (Truth b) _ (fold_Bool step resolving_part_step b) (λ bases. refl) (fold_Bool has_versions_step part_step b);
    text = λ t. leaf (Text t) _ (fold_Text step resolving_part_step t) (λ bases. refl) (fold_Text has_versions_step part_step t);
    list = list_closes;
    object = object_closes;
    pointed = pointed_closes;
    null = leaf Null _ (fold_Null step resolving_part_step) (λ bases. refl) (fold_Null has_versions_step part_step);
    back = λ label. leaf (Back label) _ (fold_Back step resolving_part_step label) (λ bases. refl) (fold_Back has_versions_step part_step label);
    opaque = λ class len. leaf (Opaque class len) _ (fold_Opaque step resolving_part_step class len) (λ bases. refl) (fold_Opaque has_versions_step part_step class len);
  })

pub resolved_has_versions_so : ResolvedHasVersions
resolved_has_versions_so classes v w closed h = each_value_closes classes closed v [] w h
