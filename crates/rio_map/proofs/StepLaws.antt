-- The zeros of parts, one after the other.
use Rattle.std.proofs.Common.{◌≡◌, ℕ, ◌+◌, List, [], ◌∷◌, ◌++◌, drop, Option, Some, None, slice_get, sym, ap, refl, ◌∙◌, append_assoc}
use Rattle.std.proofs.lemmas.List.{append-nil}
use Rattle.std.specs.{Prelude.{option_and_then}, Option.{option_map}}
use Rattle.rio_format.specs.{declared.value.Part.{Part}, declared.value.Value.{Value}, Bodies.{part}, Slots.{Field}}
use Rattle.rio_format.proofs.FieldLaws.{found_first, none_left}
use Rattle.rio_model.specs.Mapping.{parts_zero, slot_zero}

front_joined : {A : Type 0} (front : List A) (x : A) (o : Option (List A)) → option_map (λ xs. front ++ xs) (option_map (λ xs. x ∷ xs) o) ≡ option_map (λ xs. (front ++ x ∷ []) ++ xs) o
front_joined front x None = refl
front_joined front x (Some xs) = ap (λ (l : List _). let o : Option (List _) = Some l in o) (sym (append_assoc front (x ∷ []) xs))

module _ (object : List ℕ → Option Value) (fields : List Field) (k : ℕ) (front : List Part) (total : Option (List Part)) where
  abbrev so_far : List Part → List Field → Option (List Part)
  so_far done rest = option_map (λ ps. done ++ ps) (parts_zero object rest)

  abbrev with_first : Field → Option Value → Option (List Part)
  with_first f o = option_map (λ ps. front ++ ps) (option_and_then (λ v. option_map (λ ps. part f.name v ∷ ps) (parts_zero object (drop (k + 1) fields))) o)

  pub zero_goes_on : (f : Field) (v : Value) → slice_get fields k ≡ Some f → slot_zero object f.slot ≡ Some v → so_far front (drop k fields) ≡ total → so_far (front ++ part f.name v ∷ []) (drop (k + 1) fields) ≡ total
  zero_goes_on f v found e h =
      sym (ap (so_far front) (found_first fields k f found) ∙ ap (with_first f) e ∙ front_joined front (part f.name v) (parts_zero object (drop (k + 1) fields))) ∙ h

  pub zero_lacks : (f : Field) → slice_get fields k ≡ Some f → slot_zero object f.slot ≡ None → so_far front (drop k fields) ≡ total → total ≡ None
  zero_lacks f found e h = sym h ∙ ap (so_far front) (found_first fields k f found) ∙ ap (with_first f) e

  pub zeros_end : slice_get fields k ≡ None → so_far front (drop k fields) ≡ total → total ≡ Some front
  zeros_end none h =
      sym h ∙ ap (so_far front) (none_left fields k none) ∙ ap (λ (l : List Part). let o : Option (List Part) = Some l in o) (append-nil front)
