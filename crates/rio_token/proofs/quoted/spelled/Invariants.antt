use Rattle.std.proofs.Common.{◌≡◌, ◌++◌, drop}
use Rattle.rio_token.specs.{Quoted.{quoted}, declared.quoted.Within.TheVariants.{Between}}
use Rattle.rio_token.proofs.quoted.spelled.Given as goal

abbrev pub invariant-loop-byte : goal.invariant-loop-byte
invariant-loop-byte l = l.text ++ (quoted l.within (drop l.byte-index l.bytes)).text ≡ (quoted Between l.bytes).text
