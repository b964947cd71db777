use Rattle.std.proofs.Common.{List, subst, arith}
use Rattle.rio_num.specs.{Answers.{GivesUnless}, Meanings.{read}}
use Rattle.rio_format.specs.{ReaderState.{no_words, standing}, declared.value.Value.{Value}}
use Rattle.rio_read.specs.Passing.{pass_of}
use Rattle.rio_machine.specs.{Entries.{entry_values, only_values}, declared.entry_fault.EntryFault.TheVariants.{NoMemory}}
use Rattle.rio_entry.proofs.KeptEntries.{kept_is_broken, kept_is_spelled, told_as_kept}
use Rattle.rio_entry.proofs.check.check_entry.Goals as goal

pub returns-clause-found : goal.returns-clause-found
returns-clause-found c =
    let given = subst (λ (cs : List Value). GivesUnless NoMemory (λ done. done) c.check_shape.result (only_values (read (pass_of (entry_values c.args.classes.now c.args.branch.now.shape cs)) (standing 0 c.args.bytes.now no_words)))) c.as_slice.ensures c.check_shape.ensures in
    let told = told_as_kept (λ (row : List Value). tt) c.args.classes.now c.args.branch.now.shape c.args.counts.now c.args.bytes.now c.check_shape.result given in
    kept_is_spelled (λ (row : List Value). tt) c.args.classes.now c.args.branch.now.shape c.args.counts.now c.args.bytes.now c.check_shape.result told (λ i. omega (arith, c.type_inv.bytes i))

pub returns-clause-broken : goal.returns-clause-broken
returns-clause-broken c =
    let given = subst (λ (cs : List Value). GivesUnless NoMemory (λ done. done) c.check_shape.result (only_values (read (pass_of (entry_values c.args.classes.now c.args.branch.now.shape cs)) (standing 0 c.args.bytes.now no_words)))) c.as_slice.ensures c.check_shape.ensures in
    let told = told_as_kept (λ (row : List Value). tt) c.args.classes.now c.args.branch.now.shape c.args.counts.now c.args.bytes.now c.check_shape.result given in
    kept_is_broken (λ (row : List Value). tt) c.args.classes.now c.args.branch.now.shape c.args.counts.now c.args.bytes.now c.check_shape.result told

pub returns-clause-exact : goal.returns-clause-exact
returns-clause-exact c =
    let given = subst (λ (cs : List Value). GivesUnless NoMemory (λ done. done) c.check_shape.result (only_values (read (pass_of (entry_values c.args.classes.now c.args.branch.now.shape cs)) (standing 0 c.args.bytes.now no_words)))) c.as_slice.ensures c.check_shape.ensures in
    told_as_kept (λ (row : List Value). tt) c.args.classes.now c.args.branch.now.shape c.args.counts.now c.args.bytes.now c.check_shape.result given
