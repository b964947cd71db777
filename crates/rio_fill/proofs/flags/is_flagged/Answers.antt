use Rattle.std.proofs.Common.{sym, ◌∙◌}
use Rattle.rio_fill.proofs.FlagLaws.{flag_last, flag_next}
use Rattle.rio_fill.proofs.flags.is_flagged.Goals as goal

pub loop-k-preserved : goal.loop-k-preserved
loop-k-preserved c = sym (flag_next c.loop-k.rest c.loop-k.k c.loop-k-test.true) ∙ c.loop-k.invariant

pub returns : goal.returns
returns c = sym (flag_last c.loop-k.rest c.loop-k.k c.loop-k-test.false) ∙ c.loop-k.invariant
