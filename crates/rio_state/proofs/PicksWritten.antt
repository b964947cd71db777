-- What a header picks of the classes of a state is what is written by.
use Rattle.std.proofs.Common.{◌≡◌, ◌⊎◌, inl, inr, ℕ, ℤ, pos, Bool, true, false, cond, ◌&&◌, List, [], ◌∷◌, ◌++◌, Option, Some, None, not, refl, sym, ap, subst, ◌∙◌, append_assoc, append-nil}
use Rattle.std.proofs.{lemmas.Bool.{and_from, and_parts, not-true}, lemmas.Bool.Decides.{Decides-int_eq}, lemmas.Slice.Eq.{bytes_eq-Decides}}
use Rattle.std.specs.{Prelude.{◌==◌, unwrap_or, is_some, if◌then◌else◌}, List.{find, list_all}, Option.{option_map, option_map_or, option_or}, Ordering.{int_eq}, Str.{bytes_eq}}
use Rattle.rio_format.specs.{Classes.{find_in, find_sum_in}, declared.class.ClassDef.{ClassDef}, Members.{can_read_all}, TreeClasses.{tree_classes, written_classes}, Slots.{declared_body}}
use Rattle.rio_format.specs.Bodies.{Body, arrayed, body_of, built_in, by_description, described, headed_classes, listed, opaque, picked, stated_version}
use Rattle.rio_format.proofs.BuiltInLaws.{of_body}
use Rattle.rio_model.specs.{Declaring.{declare_fault, is_reserved_name, knows_all, holds_itself, limit_fault}, StateClasses.{AreAccepted, StateClasses}}
use Rattle.rio_model.specs.declared.declare.DeclareFault.{DeclareFault, TheVariants.{NoSuchClass, SameVersion, HoldsItself}}
use Rattle.rio_state.proofs.{AheadForms.{PicksAreWritten}, Members.{In, found}}

-- ---- one description of a name and a version

abbrev is_of : List ℕ → ℤ → ClassDef → Bool
is_of name version c = bytes_eq c.name name && int_eq c.version version

own_test : (c : ClassDef) → is_of c.name c.version c ≡ true
own_test c = and_from _ _ ((bytes_eq-Decides c.name c.name).1 refl) ((Decides-int_eq c.version c.version).1 refl)

-- behind these each is the first of its name and version
abbrev AreFresh : List ClassDef → List ClassDef → Type 0
AreFresh before [] = Unit {0}
AreFresh before (c ∷ cs) = (find_in before c.name c.version ≡ None) × AreFresh (before ++ c ∷ []) cs

found_behind : (test : ClassDef → Bool) (before : List ClassDef) (c : ClassDef) (cs : List ClassDef) → find test before ≡ None → test c ≡ true → find test (before ++ c ∷ cs) ≡ Some c
found_behind test [] c cs none is = ap (λ b. cond b (Some c) (find test cs)) is
found_behind test (d ∷ ds) c cs none is = by (test d) none (found_behind test ds c cs)
  where
    by : (b : Bool) → cond b (Some d) (find test ds) ≡ None → (find test ds ≡ None → test c ≡ true → find test (ds ++ c ∷ cs) ≡ Some c) → cond b (Some d) (find test (ds ++ c ∷ cs)) ≡ Some c
    by true none rest = absurd cc
    by false none rest = rest none is

none_behind : (test : ClassDef → Bool) (before after : List ClassDef) → find test before ≡ None → find test after ≡ None → find test (before ++ after) ≡ None
none_behind test [] after one two = two
none_behind test (d ∷ ds) after one two = by (test d) one (λ e. none_behind test ds after e two)
  where
    by : (b : Bool) → cond b (Some d) (find test ds) ≡ None → (find test ds ≡ None → find test (ds ++ after) ≡ None) → cond b (Some d) (find test (ds ++ after)) ≡ None
    by true one rest = absurd cc
    by false one rest = rest one

fresh_found : (before cs : List ClassDef) → AreFresh before cs → (c : ClassDef) → In c cs → find_in (before ++ cs) c.name c.version ≡ Some c
fresh_found before [] fresh c i = absurd i
fresh_found before (d ∷ ds) fresh c (inl same) =
    subst (λ (x : ClassDef). find_in (before ++ d ∷ ds) x.name x.version ≡ Some x) same (found_behind (is_of d.name d.version) before d ds fresh.0 (own_test d))
fresh_found before (d ∷ ds) fresh c (inr i) =
    ap (λ (xs : List ClassDef). find_in xs c.name c.version) (sym (append_assoc before (d ∷ []) ds)) ∙ fresh_found (before ++ d ∷ []) ds fresh.1 c i

fresh_append : (before xs ys : List ClassDef) → AreFresh before xs → AreFresh (before ++ xs) ys → AreFresh before (xs ++ ys)
fresh_append before [] ys one two = subst (λ (zs : List ClassDef). AreFresh zs ys) (append-nil before) two
fresh_append before (x ∷ xs) ys one two = (one.0, fresh_append (before ++ x ∷ []) xs ys one.1 (subst (λ (zs : List ClassDef). AreFresh zs ys) (sym (append_assoc before (x ∷ []) xs)) two))

-- ---- the classes of a state

trees_fresh : AreFresh [] tree_classes
unfolding tree_classes
trees_fresh = (refl, (refl, (refl, (refl, (refl, (refl, (refl, (refl, (refl, (refl, (refl, (refl, tt))))))))))))

trees_reserved : list_all (λ c. is_reserved_name c.name) tree_classes ≡ true
unfolding tree_classes
trees_reserved = refl

none_reserved : (cs : List ClassDef) (name : List ℕ) (version : ℤ) → list_all (λ c. is_reserved_name c.name) cs ≡ true → is_reserved_name name ≡ false → find_in cs name version ≡ None
none_reserved [] name version all free = refl
none_reserved (c ∷ cs) name version all free =
    let parts = and_parts (is_reserved_name c.name) (list_all (λ c. is_reserved_name c.name) cs) all in
    by (bytes_eq c.name name) refl parts.0 (none_reserved cs name version parts.1 free)
  where
    by : (b : Bool) → bytes_eq c.name name ≡ b → is_reserved_name c.name ≡ true → find_in cs name version ≡ None → cond (b && int_eq c.version version) (Some c) (find_in cs name version) ≡ None
    by true e reserved rest = let f : true ≡ false = sym reserved ∙ ap is_reserved_name ((bytes_eq-Decides c.name name).0 e) ∙ free in absurd cc
    by false e reserved rest = rest

no_version : (before : List ClassDef) (c : ClassDef) → declare_fault before c ≡ None → find_in before c.name c.version ≡ None
no_version before c none = by (not (knows_all before c)) (find_in before c.name c.version) (limit_fault before) none
  where
    by : (unknown : Bool) (o : Option ClassDef) (limit : Option DeclareFault)
        → option_or (if unknown then Some NoSuchClass else if is_some o then Some SameVersion else if holds_itself before c then Some HoldsItself else None) limit ≡ None → o ≡ None
    by true o limit e = absurd cc
    by false None limit e = refl
    by false (Some d) limit e = absurd cc

declared_fresh : (before cs : List ClassDef) → AreAccepted before cs → AreFresh (tree_classes ++ before) cs
declared_fresh before [] accepted = tt
declared_fresh before (c ∷ cs) accepted =
    let one = accepted.0 in
    let trees = none_reserved tree_classes c.name c.version trees_reserved (not-true _ one.free) in (
      none_behind (is_of c.name c.version) tree_classes before trees (no_version before c one.allowed),
      subst (λ (zs : List ClassDef). AreFresh zs cs) (sym (append_assoc tree_classes before (c ∷ []))) (declared_fresh (before ++ c ∷ []) cs accepted.2),
    )

-- a description that a checksum picks is the first of its name and version
pub one_each : (declared : List ClassDef) → StateClasses declared → (class : List ℕ) (sum : ℕ) (c : ClassDef) → find_sum_in (written_classes declared) class sum ≡ Some c → find_in (written_classes declared) class c.version ≡ Some c
one_each declared state class sum c e =
    let f = found (λ d. bytes_eq d.name class && (d.sum == sum)) c (written_classes declared) e in
    let fresh = fresh_append [] tree_classes declared trees_fresh (subst (λ (zs : List ClassDef). AreFresh zs declared) (append-nil tree_classes) (declared_fresh [] declared state)) in
    let name : c.name ≡ class = (bytes_eq-Decides c.name class).0 (and_parts (bytes_eq c.name class) (c.sum == sum) f.passes).0 in
    ap (λ (n : List ℕ). find_in (written_classes declared) n c.version) (sym name) ∙ fresh_found [] (written_classes declared) fresh c f.among

-- ---- what is picked

version_of : (classes : List ClassDef) (class : List ℕ) (version : ℤ) (c : ClassDef) → find_in classes class version ≡ Some c → c.version ≡ version
version_of classes class version c e =
    let f = found (is_of class version) c classes e in
    (Decides-int_eq c.version version).0 (and_parts (bytes_eq c.name class) (int_eq c.version version) f.passes).1

-- a built-in class is so in its own version
own_version : (class : List ℕ) (version : ℤ) (c : ClassDef) → built_in class version ≡ Some (described c) → built_in class c.version ≡ Some (described c)
own_version class version c is =
    of_body (λ (o : Option Body). (d : ClassDef) → o ≡ Some (described d) → built_in class d.version ≡ Some (described d)) headed_classes class version (
      (λ name at d e. subst (λ (x : List ℕ × ClassDef). built_in x.0 x.1.version ≡ Some (described x.1)) (λ i. (sym name i, described_one e i)) refl),
      (
        (λ name at d e. subst (λ (x : List ℕ × ClassDef). built_in x.0 x.1.version ≡ Some (described x.1)) (λ i. (sym name i, described_one e i)) refl),
        ((λ name at d e. absurd cc), ((λ name at d e. absurd cc), tt)),
      ),
    )
    (λ d e. absurd cc) c is
  where
    described_one : {x y : ClassDef} → Some (described x) ≡ Some (described y) → x ≡ y
    described_one e = cc

listed_version : (class : List ℕ) (version : ℤ) → built_in class version ≡ Some listed → built_in class (pos 5) ≡ Some listed
listed_version class version is =
    of_body (λ (o : Option Body). o ≡ Some listed → built_in class (pos 5) ≡ Some listed) headed_classes class version
    ((λ name at e. absurd cc), ((λ name at e. absurd cc), ((λ name at e. subst (λ (x : List ℕ). built_in x (pos 5) ≡ Some listed) (sym name) refl), ((λ name at e. absurd cc), tt))))
    (λ e. absurd cc) is

arrayed_version : (class : List ℕ) (version : ℤ) → built_in class version ≡ Some arrayed → built_in class (pos 3) ≡ Some arrayed
arrayed_version class version is =
    of_body (λ (o : Option Body). o ≡ Some arrayed → built_in class (pos 3) ≡ Some arrayed) headed_classes class version
    ((λ name at e. absurd cc), ((λ name at e. absurd cc), ((λ name at e. absurd cc), ((λ name at e. subst (λ (x : List ℕ). built_in x (pos 3) ≡ Some arrayed) (sym name) refl), tt))))
    (λ e. absurd cc) is

module _ (classes : List ClassDef) (one : (class : List ℕ) (sum : ℕ) (c : ClassDef) → find_sum_in classes class sum ≡ Some c → find_in classes class c.version ≡ Some c) where
  -- a built-in body is written where it is, and else what is found
  written_built : (class : List ℕ) (version : ℤ) (x : Body) → built_in class version ≡ Some x → declared_body classes class version ≡ Some x
  written_built class version x is = by (built_in class version) is
    where
      by : (o : Option Body) → o ≡ Some x → (elim o as (λ z. Option Body) [ None ↦ option_map described (find_in classes class version) | Some y ↦ Some y ]) ≡ Some x
      by None e = absurd cc
      by (Some y) e = e

  abbrev seen : Option Body → Option ClassDef → Body
  seen own found = unwrap_or own (by_description found)

  by_found : (own : Option Body) (o : Option ClassDef) (c : ClassDef) → seen own o ≡ described c → (own ≡ Some (described c)) ⊎ ((own ≡ None) × (o ≡ Some c))
  by_found (Some x) o c e = inl (ap (λ (y : Body). let z : Option Body = Some y in z) e)
  by_found None None c e = absurd cc
  by_found None (Some d) c e = by (can_read_all [] d.members) e
    where
      by : (b : Bool) → cond b (described d) opaque ≡ described c → (let z : Option Body = None in z ≡ Some (described c)) ⊎ ((let z : Option Body = None in z ≡ None) × (Some d ≡ Some c))
      by true e = inr (refl, (let same : d ≡ c = cc in ap (λ (y : ClassDef). let z : Option ClassDef = Some y in z) same))
      by false e = absurd cc

  never_found : (own : Option Body) (o : Option ClassDef) (x : Body) → ((c : ClassDef) → x ≡ described c → ⊥) → (x ≡ opaque → ⊥) → seen own o ≡ x → own ≡ Some x
  never_found (Some y) o x undescribed never e = ap (λ (z : Body). let w : Option Body = Some z in w) e
  never_found None None x undescribed never e = absurd (never (sym e))
  never_found None (Some d) x undescribed never e = by (can_read_all [] d.members) e
    where
      by : (b : Bool) → cond b (described d) opaque ≡ x → (let z : Option Body = None in z) ≡ Some x
      by true e = absurd (undescribed d (sym e))
      by false e = absurd (never (sym e))

  not_built : (class : List ℕ) (version : ℤ) (c : ClassDef) → built_in class version ≡ None → find_in classes class version ≡ Some c → declared_body classes class version ≡ Some (described c)
  not_built class version c none is = by (built_in class version) none ∙ ap (option_map described) is
    where
      by : (o : Option Body) → o ≡ None → (elim o as (λ z. Option Body) [ None ↦ option_map described (find_in classes class version) | Some y ↦ Some y ]) ≡ option_map described (find_in classes class version)
      by None e = refl
      by (Some y) e = absurd cc

  described_is : (class : List ℕ) (version : ℤ) (sum : Option ℕ) (c : ClassDef) → body_of classes class version sum ≡ described c → declared_body classes class c.version ≡ Some (described c)
  described_is class version None c e = by (by_found (built_in class version) (find_in classes class version) c e)
    where
      by : (built_in class version ≡ Some (described c)) ⊎ ((built_in class version ≡ None) × (find_in classes class version ≡ Some c)) → declared_body classes class c.version ≡ Some (described c)
      by (inl own) = written_built class c.version (described c) (own_version class version c own)
      by (inr (none, is)) = let same = version_of classes class version c is in not_built class c.version c (ap (built_in class) same ∙ none) (ap (find_in classes class) same ∙ is)
  described_is class version (Some sum) c e = by (by_found (built_in class (stated_version classes class version (Some sum))) (find_sum_in classes class sum) c e)
    where
      by : (built_in class (stated_version classes class version (Some sum)) ≡ Some (described c)) ⊎ ((built_in class (stated_version classes class version (Some sum)) ≡ None) × (find_sum_in classes class sum ≡ Some c)) → declared_body classes class c.version ≡ Some (described c)
      by (inl own) = written_built class c.version (described c) (own_version class (stated_version classes class version (Some sum)) c own)
      by (inr (none, is)) =
          let same : stated_version classes class version (Some sum) ≡ c.version = ap (λ (o : Option ClassDef). option_map_or (λ d. d.version) o (pos 0)) is in
          not_built class c.version c (ap (built_in class) (sym same) ∙ none) (one class sum c is)

  picks_written : PicksAreWritten classes
  picks_written = record {
    described_is = described_is;
    listed_is = λ class version sum e. written_built class (pos 5) listed (listed_version class (stated_version classes class version sum)
        (never_found (built_in class (stated_version classes class version sum)) (picked classes class version sum) listed (λ c f. absurd cc) (λ f. absurd cc) e));
    arrayed_is = λ class version sum e. written_built class (pos 3) arrayed (arrayed_version class (stated_version classes class version sum)
        (never_found (built_in class (stated_version classes class version sum)) (picked classes class version sum) arrayed (λ c f. absurd cc) (λ f. absurd cc) e));
  }

pub state_picks : (declared : List ClassDef) → StateClasses declared → PicksAreWritten (written_classes declared)
state_picks declared state = picks_written (written_classes declared) (one_each declared state)
