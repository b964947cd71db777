-- The longest list of a value, by those in it.
use Rattle.std.proofs.{Common.{◌≡◌, ℕ, ℤ, max, List, length, map, ap, sym, ◌∙◌}, lemmas.List.{length-map}}
use Rattle.rio_format.specs.{Depth.{greatest}, LongestList.{longest_list_of, longest_step}}
use Rattle.rio_format.specs.{declared.value.Value.{Value, List as Items, Object, TheVariants.{rolls-List, rolls-Object}, TheFolds.{fold-roll-Value, fold-Part, fold_out-Part}}, declared.value.Part.{Part}}
use Rattle.rio_format.specs.declared.value.Value.TheOpen as layer

pub longest-List : (vs : List Value) → longest_list_of (Items vs) ≡ max (length vs) (greatest (map longest_list_of vs))
longest-List vs =
    ap longest_list_of (sym (rolls-List vs)) ∙ fold-roll-Value ℕ ℕ longest_step (λ p. p.value) (layer.List vs)
    ∙ ap (λ (n : ℕ). max n (greatest (map longest_list_of vs))) (length-map vs longest_list_of)

part_longest : (p : Part) → fold-Part ℕ ℕ longest_step (λ p. p.value) p ≡ longest_list_of p.value
part_longest p = fold_out-Part ℕ ℕ longest_step (λ p. p.value) p

pub longest-Object : (class : List ℕ) (version : ℤ) (parts : List Part) → longest_list_of (Object class version parts) ≡ greatest (map (λ p. longest_list_of p.value) parts)
longest-Object class version parts =
    ap longest_list_of (sym (rolls-Object class version parts)) ∙ fold-roll-Value ℕ ℕ longest_step (λ p. p.value) (layer.Object class version parts)
    ∙ ap (λ (f : Part → ℕ). greatest (map f parts)) (λ i p. part_longest p i)
