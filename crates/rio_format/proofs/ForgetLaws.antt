-- The maps of an index once the last class is taken out again.
use Rattle.std.proofs.Common.{◌≡◌, ◌≢◌, ℕ, ℤ, ◌<◌, List, [], ◌∷◌, ◌++◌, length, get_or, set, take, Bool, true, false, ◌&&◌, if◌then◌else◌, ⊎_elim, Option, Some, None, refl, sym, ap, ◌∙◌, arith}
use Rattle.std.proofs.{lemmas.List.{length-append, length-take-le}, lemmas.Option.{slice_get-get_or}, lemmas.Slice.Eq.{bytes_eq-Decides}}
use Rattle.std.proofs.lemmas.Bool.{cases_Bool}
use Rattle.std.specs.{Prelude.{int_le}, List.{slice_get}, Ordering.{int_eq}, Option.{option_and_then}, Str.{bytes_eq}}
use Rattle.rio_format.specs.{Classes.{newest_in, newer_of}, Index.{has_number, NamesLead, NumbersLead, NewestLead}, Places.{place, is_named}, declared.class.ClassDef.{ClassDef}}
use Rattle.rio_format.proofs.LeadLaws.{slice_get-front, slice_get-either, int_self, one_name, place-push_found}
use Rattle.rio_format.proofs.{NewestLaws.{newest_with, newest-push, no_newest_fails, place_below, slice_get-set_other, slice_get-set_same, slice_get-take}, PlaceLaws.{place_passes, no_place_fails}}

-- ---- names and numbers

kept_by : (test : ClassDef → Bool) (cs : List ClassDef) (c : ClassDef) (k : ℕ) (x : ClassDef) (o : Option ℕ) → slice_get cs k ≡ Some x → test x ≡ true → place test cs ≡ o → place test (cs ++ c ∷ []) ≡ place test cs
kept_by test cs c k x None at t none =
    let clash : true ≡ false = sym t ∙ no_place_fails test cs k x none at in absurd (cc clash)
kept_by test cs c k x (Some j) at t some = place-push_found test cs c j some ∙ sym some

-- a test that a class passes has its first place without the last class too
place_kept : (test : ClassDef → Bool) (cs : List ClassDef) (c : ClassDef) (k : ℕ) (x : ClassDef) → slice_get cs k ≡ Some x → test x ≡ true → place test (cs ++ c ∷ []) ≡ place test cs
place_kept test cs c k x at t = kept_by test cs c k x (place test cs) at t refl

pub names_back : (cs : List ClassDef) (c : ClassDef) (at : List ℕ → Option ℕ) → NamesLead (cs ++ c ∷ []) at → NamesLead cs at
names_back cs c at lead = λ k x e.
    lead k x (slice_get-front cs c k x e) ∙ place_kept (is_named x.name) cs c k x e ((bytes_eq-Decides x.name x.name).1 refl)

pub numbers_back : (number : ClassDef → ℤ) (cs : List ClassDef) (c : ClassDef) (at : ℕ → ℤ → Option ℕ) → NumbersLead number (cs ++ c ∷ []) at → NumbersLead number cs at
numbers_back number cs c at lead = λ k x first e met.
    let self : has_number number x.name (number x) x ≡ true = ap (λ (b : Bool). b && int_eq (number x) (number x)) ((bytes_eq-Decides x.name x.name).1 refl) ∙ int_self (number x) in
    lead k x first (slice_get-front cs c k x e) (place-push_found (is_named x.name) cs c first met)
    ∙ place_kept (has_number number x.name (number x)) cs c k x e self

-- ---- the newest of a name

named_one : (name : List ℕ) (b : Bool) (c x d : ClassDef) → bytes_eq c.name name ≡ true → bytes_eq x.name name ≡ true → (if b then c else x) ≡ d → bytes_eq d.name name ≡ true
named_one name true c x d h k e = ap (λ (y : ClassDef). bytes_eq y.name name) (sym e) ∙ h
named_one name false c x d h k e = ap (λ (y : ClassDef). bytes_eq y.name name) (sym e) ∙ k

some_same : (x y : ClassDef) → Some x ≡ Some y → x ≡ y
some_same x y e = cc

named_if : (name : List ℕ) (b : Bool) (c d : ClassDef) (o : Option ClassDef) → bytes_eq c.name name ≡ b → ((x : ClassDef) → o ≡ Some x → bytes_eq x.name name ≡ true) → (if b then Some (newer_of c o) else o) ≡ Some d → bytes_eq d.name name ≡ true
named_if name true c d None is ih e = ap (λ (y : ClassDef). bytes_eq y.name name) (sym (some_same c d e)) ∙ is
named_if name true c d (Some x) is ih e =
    named_one name (int_le x.version c.version) c x d is (ih x refl) (some_same (newer_of c (Some x)) d e)
named_if name false c d o is ih e = ih d e

newest_named : (cs : List ClassDef) (name : List ℕ) (d : ClassDef) → newest_in cs name ≡ Some d → bytes_eq d.name name ≡ true
newest_named [] name d e = absurd (cc)
newest_named (c ∷ cs) name d e =
    named_if name (bytes_eq c.name name) c d (newest_in cs name) refl (λ x h. newest_named cs name x h) e

pub none_newest : (cs : List ClassDef) (name : List ℕ) (first : ℕ) → place (is_named name) cs ≡ Some first → None ≡ newest_in cs name → ⊥
none_newest cs name first met none =
    let x = place_passes (is_named name) cs first met in
    let clash : true ≡ false = sym x.2 ∙ no_newest_fails cs name first x.0 (sym none) x.1 in cc clash

module _ (cs : List ClassDef) (c : ClassDef) (newest : List ℕ) (lead : NewestLead (cs ++ c ∷ []) newest) (one_each : length newest ≡ length (cs ++ c ∷ [])) where
  rest_length : length (take (length cs) newest) ≡ length cs
  rest_length = length-take-le (length cs) newest (omega (arith, one_each, length-append cs (c ∷ [])))

  -- without the last class it stands where it stood, if it isn't that class
  stands : (q : ℕ) (name : List ℕ) (o : Option ClassDef) → bytes_eq c.name name ≡ false → o ≢ None → newest_in cs name ≡ o → slice_get (cs ++ c ∷ []) q ≡ o → slice_get cs q ≡ o
  stands q name None e some is at = absurd (some refl)
  stands q name (Some d) e some is at =
      ⊎_elim
      (λ before. before)
      (λ last. let clash : true ≡ false = sym (newest_named cs name d is) ∙ ap (λ (y : ClassDef). bytes_eq y.name name) last ∙ e in absurd (cc clash))
      (slice_get-either cs c q d at)

  -- the newest of another name
  other : (name : List ℕ) (first : ℕ) → bytes_eq c.name name ≡ false → place (is_named name) cs ≡ Some first → option_and_then (slice_get cs) (slice_get (take (length cs) newest) first) ≡ newest_in cs name
  other name first e met =
      let lt : first < length cs = place_below (is_named name) cs first met in
      let q = get_or newest first 0 in
      let at : slice_get newest first ≡ Some q = slice_get-get_or newest first 0 (omega (arith, one_each, length-append cs (c ∷ []))) in
      let is : slice_get (cs ++ c ∷ []) q ≡ newest_in cs name =
      sym (ap (option_and_then (slice_get (cs ++ c ∷ []))) at)
      ∙ lead name first (place-push_found (is_named name) cs c first met)
      ∙ newest-push cs c name
      ∙ ap (λ (b : Bool). newest_with b (newest_in cs name) c) e in
      ap (option_and_then (slice_get cs)) (slice_get-take newest (length cs) first lt ∙ at)
      ∙ stands q name (newest_in cs name) e (λ none. none_newest cs name first met (sym none)) refl is

  -- the last class was the one of its name
  pub back_alone : place (is_named c.name) cs ≡ None → NewestLead cs (take (length cs) newest)
  back_alone none = λ name first met.
      ⊎_elim
      (λ t. let same : c.name ≡ name = (bytes_eq-Decides c.name name).0 t in
      let clash : Some first ≡ None = sym met ∙ ap (λ (m : List ℕ). place (is_named m) cs) (sym same) ∙ none in absurd (cc clash))
      (λ e. other name first e met)
      (cases_Bool (bytes_eq c.name name))

  -- another class of its name is the newest again
  pub back_beside : (f best : ℕ) → place (is_named c.name) cs ≡ Some f → slice_get cs best ≡ newest_in cs c.name → NewestLead cs (set (take (length cs) newest) f best)
  back_beside f best named is = λ name first met.
      let rest = take (length cs) newest in
      ⊎_elim
      (λ t. let same : c.name ≡ name = (bytes_eq-Decides c.name name).0 t in
      let goes : Some first ≡ Some f = sym met ∙ ap (λ (m : List ℕ). place (is_named m) cs) (sym same) ∙ named in
      let is_f : first ≡ f = cc in
      let lt : f < length rest = omega (arith, rest_length, place_below (is_named c.name) cs f named) in
      ap (λ (k : ℕ). option_and_then (slice_get cs) (slice_get (set rest f best) k)) is_f
      ∙ ap (option_and_then (slice_get cs)) (slice_get-set_same rest f best lt)
      ∙ is
      ∙ ap (newest_in cs) same)
      (λ e.
      let ne : first ≢ f = λ eq.
      let same : name ≡ c.name = one_name cs name c.name f (met ∙ ap Some eq) named in
      let clash : true ≡ false = sym ((bytes_eq-Decides c.name c.name).1 refl) ∙ ap (bytes_eq c.name) (sym same) ∙ e in
      cc clash in
      ap (option_and_then (slice_get cs)) (slice_get-set_other rest f first best ne) ∙ other name first e met)
      (cases_Bool (bytes_eq c.name name))
