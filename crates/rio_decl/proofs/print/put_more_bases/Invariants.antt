use Rattle.std.proofs.Common.{◌≡◌, ◌++◌, codes, drop}
use Rattle.std.specs.List.{flat_map}
use Rattle.rio_model.specs.ClassText.{base_text}
use Rattle.rio_decl.proofs.print.put_more_bases.Given as goal

abbrev pub invariant-loop-base : goal.invariant-loop-base
invariant-loop-base l = l.text.bytes ++ flat_map (λ b. codes ", " ++ base_text b) (drop l.base-index l.bases) ≡ l.fn.text.bytes ++ flat_map (λ b. codes ", " ++ base_text b) l.bases
