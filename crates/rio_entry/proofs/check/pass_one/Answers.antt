use Rattle.std.proofs.Common.{subst}
use Rattle.rio_format.specs.Frames.{ReadsAs, Step}
use Rattle.rio_entry.proofs.KeptEntries.{one_passed}
use Rattle.rio_entry.proofs.check.pass_one.Goals as goal

pub returns-clause-exact : goal.returns-clause-exact
returns-clause-exact c = λ counts.
    subst (λ (r : Step (Unit {0})). ReadsAs (λ (x : Unit {0}). x) c.pass_next.result r c.pass_next.new.reader) (one_passed c.args.classes.now c.args.class.now counts c.args.reader.now) c.pass_next.ensures.exact
