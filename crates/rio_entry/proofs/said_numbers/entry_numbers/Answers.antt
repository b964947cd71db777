use Rattle.std.proofs.Common.{List, map, subst, arith}
use Rattle.rio_num.specs.{Answers.{GivesUnless}, Meanings.{read}}
use Rattle.rio_format.specs.{ReaderState.{no_words, standing}, declared.value.Value.{Value}}
use Rattle.rio_entry.specs.Leaves.{number_alone, numbers_of_values}
use Rattle.rio_machine.specs.{Entries.{entry_values, only_values}, declared.entry_fault.EntryFault.TheVariants.{NoMemory}}
use Rattle.rio_entry.proofs.KeptEntries.{kept_is_broken, kept_is_found, told_as_kept}
use Rattle.rio_entry.proofs.said_numbers.entry_numbers.Goals as goal

pub returns-clause-found : goal.returns-clause-found
returns-clause-found c =
    let given = subst (λ (cs : List Value). GivesUnless NoMemory (λ numbers. numbers) c.numbers_in_bytes.result (only_values (read (numbers_of_values (entry_values c.args.classes.now c.args.branch.now.shape cs)) (standing 0 c.args.bytes.now no_words)))) c.as_slice.ensures c.numbers_in_bytes.ensures in
    let told = told_as_kept (map number_alone) c.args.classes.now c.args.branch.now.shape c.args.counts.now c.args.bytes.now c.numbers_in_bytes.result given in
    kept_is_found (map number_alone) c.args.classes.now c.args.branch.now.shape c.args.counts.now c.args.bytes.now c.numbers_in_bytes.result told (λ i. omega (arith, c.type_inv.bytes i))

pub returns-clause-broken : goal.returns-clause-broken
returns-clause-broken c =
    let given = subst (λ (cs : List Value). GivesUnless NoMemory (λ numbers. numbers) c.numbers_in_bytes.result (only_values (read (numbers_of_values (entry_values c.args.classes.now c.args.branch.now.shape cs)) (standing 0 c.args.bytes.now no_words)))) c.as_slice.ensures c.numbers_in_bytes.ensures in
    let told = told_as_kept (map number_alone) c.args.classes.now c.args.branch.now.shape c.args.counts.now c.args.bytes.now c.numbers_in_bytes.result given in
    kept_is_broken (map number_alone) c.args.classes.now c.args.branch.now.shape c.args.counts.now c.args.bytes.now c.numbers_in_bytes.result told

pub returns-clause-exact : goal.returns-clause-exact
returns-clause-exact c =
    let given = subst (λ (cs : List Value). GivesUnless NoMemory (λ numbers. numbers) c.numbers_in_bytes.result (only_values (read (numbers_of_values (entry_values c.args.classes.now c.args.branch.now.shape cs)) (standing 0 c.args.bytes.now no_words)))) c.as_slice.ensures c.numbers_in_bytes.ensures in
    told_as_kept (map number_alone) c.args.classes.now c.args.branch.now.shape c.args.counts.now c.args.bytes.now c.numbers_in_bytes.result given
