use Rattle.std.proofs.Common.{◌≡◌, ℕ, List, [], true, Result, Ok, ◌∙◌, sym, ap, arith}
use Rattle.rio_num.specs.Room.{Room}
use Rattle.rio_leaf.specs.declared.branch.Shape.TheVariants.{Leaves}
use Rattle.rio_entry.specs.Leaves.{leaves_bytes, leaves_fit}
use Rattle.rio_machine.specs.declared.entry_fault.EntryFault.{EntryFault}
use Rattle.rio_entry.proofs.{Answered.{too_long, unfit, written}, LeafBytes.{bytes_is, fits_is, other_length}}
use Rattle.rio_entry.proofs.write.write_leaves.Goals as goal

pub returns-then-not-leaves_fit : goal.returns-then-not-leaves_fit
returns-then-not-leaves_fit c = λ classes ne. unfit classes (Leaves c.args.leaves.now) c.args.counts.now c.args.row.now (fits_is classes c.args.leaves.now c.args.counts.now c.args.row.now [] ∙ sym c.leaves_fit.ensures ∙ c.if-not-leaves_fit.true)

pub leaves_length-requires : goal.leaves_length-requires
leaves_length-requires c = other_length c.args.leaves.now c.args.counts.now c.args.row.now [] (sym c.leaves_fit.ensures ∙ c.if-not-leaves_fit.false)

pub returns-then-branch-gt-LENGTH_LIMIT : goal.returns-then-branch-gt-LENGTH_LIMIT
returns-then-branch-gt-LENGTH_LIMIT c = λ classes ne.
    let own : leaves_fit c.args.leaves.now c.args.counts.now c.args.row.now [] ≡ true = sym c.leaves_fit.ensures ∙ c.if-not-leaves_fit.false in
    too_long classes (Leaves c.args.leaves.now) c.args.counts.now c.args.row.now (fits_is classes c.args.leaves.now c.args.counts.now c.args.row.now [] ∙ own) (leaves_bytes c.args.leaves.now c.args.row.now) (bytes_is classes c.args.leaves.now c.args.counts.now c.args.row.now [] own) (omega (arith, c.in_ok-leaves_length.ensures, c.if-branch-gt-LENGTH_LIMIT.true))

pub leaves_written-requires-clause-one_each : goal.leaves_written-requires-clause-one_each
leaves_written-requires-clause-one_each c = other_length c.args.leaves.now c.args.counts.now c.args.row.now [] (sym c.leaves_fit.ensures ∙ c.if-not-leaves_fit.false)

pub returns : goal.returns
returns c = λ classes.
    let own : leaves_fit c.args.leaves.now c.args.counts.now c.args.row.now [] ≡ true = sym c.leaves_fit.ensures ∙ c.if-not-leaves_fit.false in
    written classes (Leaves c.args.leaves.now) c.args.counts.now c.args.row.now (fits_is classes c.args.leaves.now c.args.counts.now c.args.row.now [] ∙ own) (leaves_bytes c.args.leaves.now c.args.row.now) (bytes_is classes c.args.leaves.now c.args.counts.now c.args.row.now [] own) (omega (arith, c.in_ok-leaves_length.ensures, c.if-branch-gt-LENGTH_LIMIT.false))
    ∙ ap (λ (b : List ℕ). let r : Result (List ℕ) EntryFault = Ok b in r) (sym (ap (λ (room : Room). room.bytes) c.in_ok-leaves_written.ensures))
