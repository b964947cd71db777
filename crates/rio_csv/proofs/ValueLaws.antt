-- The values of fields, one after the other.
use Rattle.std.proofs.Common.{◌≡◌, ◌≢◌, ◌<◌, ◌+◌, ◌∷◌, ◌++◌, ◌∙◌, [], ℕ, suc, zero, List, Option, Some, None, length, drop, get_or, refl, sym, ap, arith, append_assoc}
use Rattle.std.specs.Option.{option_and_then, option_map}
use Rattle.std.proofs.lemmas.List.{append-nil}
use Rattle.csv.specs.Records.{field_at}
use Rattle.rio_csv.specs.{Fields.{value_in_field}, Rows.{values_in}}
use Rattle.rio_format.specs.declared.value.Value.{Value}

-- more values behind these
abbrev pub with_front : {A : Type 0} → List A → Option (List A) → Option (List A)
with_front front = option_map (λ vs. front ++ vs)

with_none : (o : Option (List Value)) → with_front [] o ≡ o
with_none None = refl
with_none (Some vs) = refl

-- a value more in front
behind_one : (front : List Value) (v : Value) (o : Option (List Value))
    → with_front front (option_map (λ vs. v ∷ vs) o) ≡ with_front (front ++ v ∷ []) o
behind_one front v None = refl
behind_one front v (Some vs) = ap (λ (xs : List Value). let o : Option (List Value) = Some xs in o) (sym (append_assoc front (v ∷ []) vs))

nothing_more : (o : Option Value) (vs : Option (List Value)) → vs ≡ None → option_and_then (λ v. option_map (λ vs. v ∷ vs) vs) o ≡ None
nothing_more None vs h = refl
nothing_more (Some v) vs h = rw h refl

pub unequal : (letters : List ℕ) (fields : List (List ℕ)) → length fields ≢ length letters → values_in letters fields ≡ None
unequal [] [] h = absurd (h refl)
unequal [] (field ∷ fields) h = refl
unequal (letter ∷ letters) [] h = refl
unequal (letter ∷ letters) (field ∷ fields) h =
    nothing_more (value_in_field letter field) (values_in letters fields) (unequal letters fields (λ e. h (ap suc e)))

-- the values from a place on, by the field there
at_next : (letters : List ℕ) (fields : List (List ℕ)) (i : ℕ) (field : List ℕ) (front : List Value)
    → i < length letters → field_at fields i ≡ Some field
    → with_front front (values_in (drop i letters) (drop i fields))
    ≡ option_and_then (λ v. with_front (front ++ v ∷ []) (values_in (drop (suc i) letters) (drop (suc i) fields))) (value_in_field (get_or letters i 0) field)
unfolding field_at
at_next [] fields i field front l f = absurd (omega (arith, l))
at_next (a ∷ letters) [] i field front l f = cc f
at_next (a ∷ letters) (b ∷ fields) zero field front l f =
    let fb : field ≡ b = cc f in
    rw fb (by (value_in_field a b))
  where
    by : (o : Option Value)
        → with_front front (option_and_then (λ v. option_map (λ vs. v ∷ vs) (values_in letters fields)) o)
        ≡ option_and_then (λ v. with_front (front ++ v ∷ []) (values_in letters fields)) o
    by None = refl
    by (Some v) = behind_one front v (values_in letters fields)
at_next (a ∷ letters) (b ∷ fields) (suc i) field front l f = at_next letters fields i field front (omega (arith, l)) f

pub at_field : (letters : List ℕ) (fields : List (List ℕ)) (i : ℕ) (field : List ℕ) (front : List Value)
    → i < length letters → field_at fields i ≡ Some field
    → with_front front (values_in (drop i letters) (drop i fields))
    ≡ option_and_then (λ v. with_front (front ++ v ∷ []) (values_in (drop (i + 1) letters) (drop (i + 1) fields))) (value_in_field (get_or letters i 0) field)
at_field letters fields i field front l f =
    let one : i + 1 ≡ suc i = omega arith in
    rw one (at_next letters fields i field front l f)

-- there is a field at each place
pub some_field : (fields : List (List ℕ)) (i : ℕ) → i < length fields → field_at fields i ≢ None
unfolding field_at
some_field [] i l = absurd (omega (arith, l))
some_field (field ∷ fields) zero l = λ e. cc e
some_field (field ∷ fields) (suc i) l = some_field fields i (omega (arith, l))
