use Rattle.std.proofs.Common.{List, subst, arith}
use Rattle.rio_format.specs.declared.value.Value.{Value}
use Rattle.rio_num.specs.Answers.{GivesUnless}
use Rattle.rio_machine.specs.{Entries.{entry_in}, declared.entry_fault.EntryFault.TheVariants.{NoMemory}}
use Rattle.rio_entry.proofs.EntryLaws.{is_broken, is_found, is_only}
use Rattle.rio_entry.proofs.read.read_entry.Goals as goal

pub returns-clause-found : goal.returns-clause-found
returns-clause-found c =
    let given = subst (λ (cs : List Value). GivesUnless NoMemory (λ row. row) c.read_shape.result (entry_in c.args.classes.now c.args.branch.now.shape cs c.args.bytes.now)) c.as_slice.ensures c.read_shape.ensures in
    is_found c.args.classes.now c.args.branch.now.shape c.args.counts.now c.args.bytes.now c.read_shape.result given (λ i. omega (arith, c.type_inv.bytes i))

pub returns-clause-only : goal.returns-clause-only
returns-clause-only c =
    let given = subst (λ (cs : List Value). GivesUnless NoMemory (λ row. row) c.read_shape.result (entry_in c.args.classes.now c.args.branch.now.shape cs c.args.bytes.now)) c.as_slice.ensures c.read_shape.ensures in
    is_only c.args.classes.now c.args.branch.now.shape c.args.counts.now c.args.bytes.now c.read_shape.result given

pub returns-clause-broken : goal.returns-clause-broken
returns-clause-broken c =
    let given = subst (λ (cs : List Value). GivesUnless NoMemory (λ row. row) c.read_shape.result (entry_in c.args.classes.now c.args.branch.now.shape cs c.args.bytes.now)) c.as_slice.ensures c.read_shape.ensures in
    is_broken c.args.classes.now c.args.branch.now.shape c.args.counts.now c.args.bytes.now c.read_shape.result given
