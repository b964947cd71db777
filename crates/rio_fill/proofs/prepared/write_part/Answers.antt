use Rattle.std.proofs.Common.{ℕ, List, Result, map, subst, ap, ◌∙◌}
use Rattle.rio_leaf.specs.{Stated.{leaves_of}, declared.leaf.Leaf.{Leaf}}
use Rattle.rio_num.specs.Answers.{GivesUnless}
use Rattle.rio_machine.specs.Rows.{leaf_column}
use Rattle.rio_format.specs.declared.value.Value.{Value}
use Rattle.rio_entry.specs.Entries.{entry_written}
use Rattle.rio_machine.specs.declared.entry_fault.EntryFault.{EntryFault, TheVariants.{NoMemory as OutOfMemory}}
use Rattle.rio_machine.specs.RowEntries.{counts_before}
use Rattle.rio_fill.proofs.Walk.{part_is}
use Rattle.rio_fill.proofs.prepared.write_part.Goals as goal

pub returns : goal.returns
returns c = λ leaves before says have stated.
    let classes = c.args.classes.now in
    let shape = c.args.branch.now.shape in
    let counts = c.in_ok-counts.ensures before says ∙ ap (λ (ls : List Leaf). counts_before (map leaf_column ls) before) c.leaves_of.ensures in
    let same =
    ap (λ (cs : List Value). entry_written classes shape cs c.in_ok-copies.field-0) counts
    ∙ ap (λ (row : List Value). entry_written classes shape (counts_before (map leaf_column (leaves_of shape)) before) row) c.in_ok-copies.ensures
    ∙ part_is classes shape c.args.values.now leaves before have stated in
    subst (λ (r : Result (List ℕ) EntryFault). GivesUnless OutOfMemory (λ room. room.bytes) c.write_entry-2.result r) same c.write_entry-2.ensures.exact
