-- What is resolved stays as it is when it is resolved again.
use Rattle.std.proofs.Common.{◌≡◌, ℕ, ℤ, pos, List, [], ◌∷◌, Bool, true, false, map, length, ◌==◌, Option, Some, None, if◌then◌else◌, refl, sym, ap, subst, ◌∙◌}
use Rattle.std.proofs.lemmas.Option.{option_and_then_some}
use Rattle.std.specs.{Prelude.{option_and_then}, Option.{option_map}, Ordering.{int_eq}}
use Rattle.rio_format.specs.{declared.class.Base.{Base}, declared.class.ClassDef.{ClassDef}, declared.value.Part.{Part, Part-F}}
use Rattle.rio_format.specs.{declared.value.Value.{Value, Int, Bits32, Bits64, Bool as Truth, Text, List as Items, Object, Pointed, Null, Back, Opaque, TheOpen.{Value-F}, TheFolds.{fold-Part, fold_out-Part}}, Bodies.{part}}
use Rattle.rio_format.proofs.ValueCases.{Each, by_cases, fold_Int, fold_Bits32, fold_Bits64, fold_Bool, fold_Text, fold_List, fold_Object, fold_Pointed, fold_Null, fold_Back, fold_Opaque}
use Rattle.rio_model.specs.Resolving.{ResolvedStays, Resolving, bases_in_version, each_resolved, is_known_version, object_resolved, part_resolved, resolved_version, resolving_of, resolving_of_part, resolving_step}

-- ---- options

pub mapped : {A B P : Type 0} (g : A → B) (o : Option A) (y : B) → option_map g o ≡ Some y → ((x : A) → o ≡ Some x → g x ≡ y → P) → P
mapped g None y h k = absurd cc
mapped g (Some x) y h k = k x refl (let e : g x ≡ y = cc in e)

-- ---- versions

module _ (known : ℤ → Bool) where
  abbrev pub if_known : ℤ → Option ℤ
  if_known v = if known v then Some v else None

  known_by : (u v : ℤ) (b : Bool) → known u ≡ b → (if b then Some u else None) ≡ Some v → (u ≡ v) × (known v ≡ true)
  known_by u v true k h = let e : u ≡ v = cc in (e, subst (λ (z : ℤ). known z ≡ true) e k)
  known_by u v false k h = absurd cc

  pub is_known_then : (o : Option ℤ) (v : ℤ) → option_and_then if_known o ≡ Some v → (o ≡ Some v) × (known v ≡ true)
  is_known_then None v h = absurd cc
  is_known_then (Some u) v h = let k = known_by u v (known u) refl h in (ap (λ (z : ℤ). let o : Option ℤ = Some z in o) k.0, k.1)

  stated_by : (o : Option ℤ) (version v : ℤ) (omitted stated : Bool) → int_eq version (pos 0) ≡ omitted → int_eq v (pos 0) ≡ stated → (if omitted then o else Some version) ≡ Some v → (if stated then o else Some v) ≡ Some v
  stated_by o version v a false i j h = refl
  stated_by o version v true true i j h = h
  stated_by o version v false true i j h =
      let e : version ≡ v = cc in absurd (let wrong : false ≡ true = sym i ∙ ap (λ (z : ℤ). int_eq z (pos 0)) e ∙ j in cc)

  version_again : (o : Option ℤ) (version v : ℤ) → option_and_then if_known (if int_eq version (pos 0) then o else Some version) ≡ Some v → option_and_then if_known (if int_eq v (pos 0) then o else Some v) ≡ Some v
  version_again o version v h =
      let k = is_known_then (if int_eq version (pos 0) then o else Some version) v h in
      rw (stated_by o version v (int_eq version (pos 0)) (int_eq v (pos 0)) refl refl k.0, k.1) refl

-- ---- lists

module _ {A : Type 0} (f : A → Resolving A) (bases : List Base) where
  abbrev StaysIn : A → Type 0
  StaysIn x = (y : A) → f x bases ≡ Some y → f y bases ≡ Some y

  each_stays : (xs ys : List A) → Each StaysIn xs → each_resolved bases (map f xs) ≡ Some ys → each_resolved bases (map f ys) ≡ Some ys
  each_stays [] ys s h = let e : [] ≡ ys = cc in subst (λ (l : List A). each_resolved bases (map f l) ≡ Some l) e refl
  each_stays (x ∷ xs) ys s h =
      option_and_then_some (λ y. option_map (λ l. y ∷ l) (each_resolved bases (map f xs))) (f x bases) ys h (λ y first rest.
      mapped (λ l. y ∷ l) (each_resolved bases (map f xs)) ys rest (λ l others e.
      let one : f y bases ≡ Some y = s.0 y first in
      let more : each_resolved bases (map f l) ≡ Some l = each_stays xs l s.1 others in
      subst (λ (z : List A). each_resolved bases (map f z) ≡ Some z) e (rw (one, more) refl)))

-- ---- values

module _ (classes : List ClassDef) where
  abbrev step : Value-F (Resolving Value) (Resolving Part) → Resolving Value
  step = resolving_step classes

  abbrev part_step : Part-F (Resolving Value) (Resolving Part) → Resolving Part
  part_step = λ p. part_resolved p.name p.value

  part_folds : (p : Part) → fold-Part (Resolving Value) (Resolving Part) step part_step p ≡ resolving_of_part classes p
  part_folds p = fold_out-Part (Resolving Value) (Resolving Part) step part_step p

  pub resolving-List : (vs : List Value) (bases : List Base) → resolving_of classes (Items vs) bases ≡ option_map Items (each_resolved [] (map (resolving_of classes) vs))
  resolving-List vs bases = ap (λ (r : Resolving Value). r bases) (fold_List step part_step vs)

  pub resolving-Object : (class : List ℕ) (version : ℤ) (parts : List Part) (bases : List Base) → resolving_of classes (Object class version parts) bases ≡ option_and_then (object_resolved classes class (map (resolving_of_part classes) parts)) (resolved_version classes bases class version)
  resolving-Object class version parts bases =
      ap (λ (r : Resolving Value). r bases) (fold_Object step part_step class version parts)
      ∙ ap (λ (f : Part → Resolving Part). option_and_then (object_resolved classes class (map f parts)) (resolved_version classes bases class version)) (λ i p. part_folds p i)

  pub resolving-Pointed : (label : ℕ) (object : Value) (bases : List Base) → resolving_of classes (Pointed label object) bases ≡ option_map (Pointed label) (resolving_of classes object [])
  resolving-Pointed label object bases = ap (λ (r : Resolving Value). r bases) (fold_Pointed step part_step label object)

  abbrev Stays : Value → Type 0
  Stays v = (bases : List Base) → StaysIn (resolving_of classes) bases v

  leaf : (v : Value) → ((bases : List Base) → resolving_of classes v bases ≡ Some v) → Stays v
  leaf v same bases w h =
      let e : v ≡ w = let both : Some v ≡ Some w = sym (same bases) ∙ h in cc in
      subst (λ (z : Value). resolving_of classes z bases ≡ Some z) e (same bases)

  pub at : (bases : List Base) (v : Value) (r : Resolving Value) → resolving_of classes v ≡ r → resolving_of classes v bases ≡ r bases
  at bases v r e = ap (λ (g : Resolving Value). g bases) e

  each_in : (bases : List Base) (vs : List Value) → Each Stays vs → Each (StaysIn (resolving_of classes) bases) vs
  each_in bases [] s = tt
  each_in bases (v ∷ vs) s = (s.0 bases, each_in bases vs s.1)

  list_stays : (vs : List Value) → Each Stays vs → Stays (Items vs)
  list_stays vs s bases w h =
      mapped Items (each_resolved [] (map (resolving_of classes) vs)) w (sym (resolving-List vs bases) ∙ h) (λ ws items e.
      let again : each_resolved [] (map (resolving_of classes) ws) ≡ Some ws = each_stays (resolving_of classes) [] vs ws (each_in [] vs s) items in
      subst (λ (z : Value). resolving_of classes z bases ≡ Some z) e (resolving-List ws bases ∙ ap (option_map Items) again))

  pointed_stays : (label : ℕ) (object : Value) → Stays object → Stays (Pointed label object)
  pointed_stays label object s bases w h =
      mapped (Pointed label) (resolving_of classes object []) w (sym (resolving-Pointed label object bases) ∙ h) (λ o inner e.
      subst (λ (z : Value). resolving_of classes z bases ≡ Some z) e (resolving-Pointed label o bases ∙ ap (option_map (Pointed label)) (s [] o inner)))

  part_stays : (bases : List Base) (p : Part) → Stays p.value → StaysIn (resolving_of_part classes) bases p
  part_stays bases p s q h =
      let within : List Base = if length p.name == 0 then bases else [] in
      mapped (part p.name) (resolving_of classes p.value within) q h (λ w inner e.
      subst (λ (z : Part). resolving_of_part classes z bases ≡ Some z) e (ap (option_map (part p.name)) (s within w inner)))

  each_part : (bases : List Base) (ps : List Part) → Each (λ p. Stays p.value) ps → Each (StaysIn (resolving_of_part classes) bases) ps
  each_part bases [] s = tt
  each_part bases (p ∷ ps) s = (part_stays bases p s.0, each_part bases ps s.1)

  object_stays : (class : List ℕ) (version : ℤ) (parts : List Part) → Each (λ p. Stays p.value) parts → Stays (Object class version parts)
  object_stays class version parts s bases w h =
      option_and_then_some (object_resolved classes class (map (resolving_of_part classes) parts)) (resolved_version classes bases class version) w (sym (resolving-Object class version parts bases) ∙ h) (λ v picks made.
      let within : List Base = bases_in_version classes class v in
      mapped (Object class v) (each_resolved within (map (resolving_of_part classes) parts)) w made (λ ps inner e.
      let version_stays : resolved_version classes bases class v ≡ Some v = version_again (is_known_version classes class) _ version v picks in
      let parts_stay : each_resolved within (map (resolving_of_part classes) ps) ≡ Some ps = each_stays (resolving_of_part classes) within parts ps (each_part within parts s) inner in
      subst (λ (z : Value). resolving_of classes z bases ≡ Some z) e
      (resolving-Object class v ps bases ∙ ap (option_and_then (object_resolved classes class (map (resolving_of_part classes) ps))) version_stays ∙ ap (option_map (Object class v)) parts_stay)))

  each_value_stays : (v : Value) → Stays v
  each_value_stays = by_cases Stays (record {
    int = λ z. leaf (Int z) (λ bases. at bases (Int z) _ (fold_Int step part_step z));
    bits32 = λ n. leaf (Bits32 n) (λ bases. at bases (Bits32 n) _ (fold_Bits32 step part_step n));
    bits64 = λ n. leaf (Bits64 n) (λ bases. at bases (Bits64 n) _ (fold_Bits64 step part_step n));
    truth = λ b. leaf (Truth b) (λ bases. at bases (Truth b) _ (fold_Bool step part_step b));
    text = λ t. leaf (Text t) (λ bases. at bases (Text t) _ (fold_Text step part_step t));
    list = list_stays;
    object = object_stays;
    pointed = pointed_stays;
    null = leaf Null (λ bases. at bases Null _ (fold_Null step part_step));
    back = λ label. leaf (Back label) (λ bases. at bases (Back label) _ (fold_Back step part_step label));
    opaque = λ class len. leaf (Opaque class len) (λ bases. at bases (Opaque class len) _ (fold_Opaque step part_step class len));
  })

pub resolved_stays_so : ResolvedStays
resolved_stays_so classes v w h = each_value_stays classes v [] w h
