use Rattle.std.proofs.Common.{◌≡◌, ◌++◌, length}
use Rattle.rio_gen.specs.Generated.{gen_script}
use Rattle.rio_gen.proofs.script.generated.Given as goal

abbrev pub invariant-loop-commands : goal.invariant-loop-commands
invariant-loop-commands l = l.commands ++ l.script ≡ gen_script l.fn.entries

abbrev pub decreases-loop-commands : goal.decreases-loop-commands
decreases-loop-commands l = length l.script
