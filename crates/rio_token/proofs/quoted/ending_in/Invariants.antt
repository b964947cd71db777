use Rattle.std.proofs.Common.{◌≡◌, drop}
use Rattle.rio_token.specs.{Quoted.{later, quoted}, declared.quoted.Within.TheVariants.{Between}}
use Rattle.rio_token.proofs.quoted.ending_in.Given as goal

abbrev pub invariant-loop-i : goal.invariant-loop-i
invariant-loop-i l = later l.i (quoted l.within (drop l.i l.bytes)).ending ≡ (quoted Between l.bytes).ending
