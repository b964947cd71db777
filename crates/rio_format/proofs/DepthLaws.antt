-- The depth of an object, by its parts.
use Rattle.std.proofs.Common.{◌≡◌, ℕ, ◌+◌, List, map, ap, sym, ◌∙◌}
use Rattle.rio_format.specs.{Depth.{greatest, depth_step, depth_of}, declared.value.Value.{Object, TheVariants.{rolls-Object}, TheFolds.{fold-roll-Value, fold-Part, fold_out-Part}}, declared.value.Part.{Part}}
use Rattle.rio_format.specs.declared.value.Value.TheOpen as layer

pub part_depth : (p : Part) → fold-Part ℕ ℕ depth_step (λ p. p.value) p ≡ depth_of p.value
part_depth p = fold_out-Part ℕ ℕ depth_step (λ p. p.value) p

pub depth_of-Object : (class : List ℕ) (version : _) (parts : List Part) → depth_of (Object class version parts) ≡ greatest (map (λ p. depth_of p.value) parts) + 1
depth_of-Object class version parts =
    ap depth_of (sym (rolls-Object class version parts)) ∙ fold-roll-Value ℕ ℕ depth_step (λ p. p.value) (layer.Object class version parts) ∙ ap (λ (f : Part → ℕ). greatest (map f parts) + 1) (λ i p. part_depth p i)
