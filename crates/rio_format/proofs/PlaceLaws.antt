-- The place of the first class that passes a test.
use Rattle.std.proofs.Common.{◌≡◌, ℕ, suc, zero, List, [], ◌∷◌, ◌++◌, length, Bool, true, false, cond, if◌then◌else◌, Option, Some, None, refl, sym, ap, ◌∙◌}
use Rattle.std.specs.{List.{slice_get, find}, Option.{option_and_then, option_map, option_or, option_map_or}}
use Rattle.rio_format.specs.{Index.{passing}, Places.{place}, declared.class.ClassDef.{ClassDef}}

-- the place that a new last class has, if it passes and no other does
abbrev pub last_place : (ClassDef → Bool) → List ClassDef → ClassDef → Option ℕ
last_place test cs c = if test c then Some (length cs) else None

module _ (test : ClassDef → Bool) where
  and_then_suc : (c : ClassDef) (cs : List ClassDef) (o : Option ℕ) → option_and_then (slice_get (c ∷ cs)) (option_map suc o) ≡ option_and_then (slice_get cs) o
  and_then_suc c cs None = refl
  and_then_suc c cs (Some k) = refl

  find_if : (b : Bool) (c : ClassDef) (cs : List ClassDef) → option_and_then (slice_get cs) (place test cs) ≡ find test cs → option_and_then (slice_get (c ∷ cs)) (if b then Some 0 else option_map suc (place test cs)) ≡ cond b (Some c) (find test cs)
  find_if true c cs ih = refl
  find_if false c cs ih = and_then_suc c cs (place test cs) ∙ ih

  -- the class at the place is the first that passes
  pub place-find : (cs : List ClassDef) → option_and_then (slice_get cs) (place test cs) ≡ find test cs
  place-find [] = refl
  place-find (c ∷ cs) = find_if (test c) c cs (place-find cs)

  passes_suc : (c : ClassDef) (cs : List ClassDef) (o : Option ℕ) (k : ℕ) → ((j : ℕ) → o ≡ Some j → (x : ClassDef) × (slice_get cs j ≡ Some x) × (test x ≡ true)) → option_map suc o ≡ Some k → (x : ClassDef) × (slice_get (c ∷ cs) k ≡ Some x) × (test x ≡ true)
  passes_suc c cs None k ih e = absurd (cc)
  passes_suc c cs (Some j) k ih e =
      let found = ih j refl in
      let same : suc j ≡ k = cc in
      (found.0, ap (slice_get (c ∷ cs)) (sym same) ∙ found.1, found.2)

  passes_if : (b : Bool) (c : ClassDef) (cs : List ClassDef) (k : ℕ) → test c ≡ b → ((j : ℕ) → place test cs ≡ Some j → (x : ClassDef) × (slice_get cs j ≡ Some x) × (test x ≡ true)) → (if b then Some 0 else option_map suc (place test cs)) ≡ Some k → (x : ClassDef) × (slice_get (c ∷ cs) k ≡ Some x) × (test x ≡ true)
  passes_if true c cs k t ih e =
      let same : 0 ≡ k = cc in
      (c, ap (slice_get (c ∷ cs)) (sym same), t)
  passes_if false c cs k t ih e = passes_suc c cs (place test cs) k ih e

  -- a class that passes stands there
  pub place_passes : (cs : List ClassDef) (k : ℕ) → place test cs ≡ Some k → (x : ClassDef) × (slice_get cs k ≡ Some x) × (test x ≡ true)
  place_passes [] k e = absurd (cc)
  place_passes (c ∷ cs) k e = passes_if (test c) c cs k refl (place_passes cs) e

  -- which stands in the list is below its length
  none_suc : (o : Option ℕ) → option_map suc o ≡ None → o ≡ None
  none_suc None e = refl
  none_suc (Some k) e = absurd (cc)

  none_if : (b : Bool) (cs : List ClassDef) → (if b then Some 0 else option_map suc (place test cs)) ≡ None → (b ≡ false) × (place test cs ≡ None)
  none_if true cs e = absurd (cc)
  none_if false cs e = (refl, none_suc (place test cs) e)

  -- where there is no place, none passes
  pub no_place_fails : (cs : List ClassDef) (k : ℕ) (x : ClassDef) → place test cs ≡ None → slice_get cs k ≡ Some x → test x ≡ false
  no_place_fails [] k x e at = absurd (cc)
  no_place_fails (c ∷ cs) zero x e at =
      let same : c ≡ x = cc in
      ap test (sym same) ∙ (none_if (test c) cs e).0
  no_place_fails (c ∷ cs) (suc k) x e at = no_place_fails cs k x (none_if (test c) cs e).1 at

  map_or : (o : Option ℕ) (b : Bool) (n : ℕ) → option_map suc (option_or o (if b then Some n else None)) ≡ option_or (option_map suc o) (if b then Some (suc n) else None)
  map_or None true n = refl
  map_or None false n = refl
  map_or (Some k) b n = refl

  push_if : (b : Bool) (cs : List ClassDef) (c : ClassDef) → place test (cs ++ c ∷ []) ≡ option_or (place test cs) (last_place test cs c) → (if b then Some 0 else option_map suc (place test (cs ++ c ∷ []))) ≡ option_or (if b then Some 0 else option_map suc (place test cs)) (if test c then Some (suc (length cs)) else None)
  push_if true cs c ih = refl
  push_if false cs c ih = ap (option_map suc) ih ∙ map_or (place test cs) (test c) (length cs)

  end_if : (b : Bool) (k : ℕ) → (if b then Some k else None) ≡ option_or None (if b then Some k else None)
  end_if true k = refl
  end_if false k = refl

  -- one more class at the end
  pub place-push : (cs : List ClassDef) (c : ClassDef) → place test (cs ++ c ∷ []) ≡ option_or (place test cs) (last_place test cs c)
  place-push [] c = end_if (test c) 0
  place-push (d ∷ cs) c = push_if (test d) cs c (place-push cs c)

  passing_if : (cs : List ClassDef) (k : ℕ) (found : Option ClassDef) → slice_get cs k ≡ found → place test cs ≡ None → (if option_map_or test found false then Some k else None) ≡ None
  passing_if cs k None at e = refl
  passing_if cs k (Some x) at e = ap (λ (b : Bool). if b then Some k else None) (no_place_fails cs k x e at)

  -- where none passes, no place is given
  pub passing_none : (cs : List ClassDef) (o : Option ℕ) → place test cs ≡ None → passing test cs o ≡ None
  passing_none cs None e = refl
  passing_none cs (Some k) e = passing_if cs k (slice_get cs k) refl e

  -- the place of the first that passes is given
  pub passing_some : (cs : List ClassDef) (k : ℕ) → place test cs ≡ Some k → passing test cs (Some k) ≡ Some k
  passing_some cs k e =
      let found = place_passes cs k e in
      ap (λ (o : Option ClassDef). if option_map_or test o false then Some k else None) found.1
      ∙ ap (λ (b : Bool). if b then Some k else None) found.2
