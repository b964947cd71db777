use Rattle.std.proofs.Common.{◌≡◌, drop}
use Rattle.std.specs.List.{fold}
use Rattle.rio_model.specs.ClassGrammar.{summed}
use Rattle.rio_decl.proofs.sum.sum_of.Given as goal

abbrev pub invariant-loop-byte : goal.invariant-loop-byte
invariant-loop-byte l = fold summed l.sum (drop l.byte-index l.text) ≡ fold summed 0 l.text
