use Rattle.std.proofs.lemmas.Result.{err_from_is_err_and}
use Rattle.rio_num.specs.Meanings.{read}
use Rattle.rio_leaf.specs.declared.branch.Shape.TheVariants.{Leaves}
use Rattle.rio_machine.specs.Entries.{entry_values}
use Rattle.rio_entry.proofs.LeafNumbers.{numbers_broke}
use Rattle.rio_entry.proofs.check_leaves.check_leaves.Goals as goal

pub returns-in_err-pass_counting-clause-exact : goal.returns-in_err-pass_counting-clause-exact
returns-in_err-pass_counting-clause-exact c = λ classes.
    let p = err_from_is_err_and c.from_residual.result c.from_residual.ensures.1 in
    rw (p.1, p.2) (λ ne. numbers_broke (read (entry_values classes (Leaves c.args.leaves.now) c.args.counts.now) c.args.reader.now) c.in_err-pass_counting.field-0.0 (c.in_err-pass_counting.ensures.exact classes ne))
