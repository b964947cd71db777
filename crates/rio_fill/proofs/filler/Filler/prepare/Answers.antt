use Rattle.std.proofs.Common.{ℕ, List, Result, subst, ap, ◌∙◌}
use Rattle.rio_leaf.specs.{Stated.{are_stated_branches}}
use Rattle.rio_num.specs.Answers.{GivesUnless}
use Rattle.rio_format.specs.declared.value.Value.{Value}
use Rattle.rio_machine.specs.declared.entry_fault.EntryFault.{EntryFault, TheVariants.{NoMemory as OutOfMemory}}
use Rattle.rio_fill.specs.{Fill.{BranchFill, TreeFill, defs_of}, Prepare.{row_prepared}}
use Rattle.rio_fill.proofs.Walked.{if_prepared}
use Rattle.rio_fill.proofs.filler.Filler.prepare.Goals as goal

pub prepare_row-requires : goal.prepare_row-requires
prepare_row-requires c = ap (λ (bs : List BranchFill). are_stated_branches (defs_of bs)) c.as_slice.ensures.value ∙ c.self.invariant.defs.stated

pub returns-clause-exact : goal.returns-clause-exact
returns-clause-exact c =
    let classes = c.args.classes.now in
    let same =
    ap (λ (bs : List BranchFill). row_prepared classes (defs_of bs) c.as_slice-2.result.now) (c.as_slice.ensures.value ∙ ap (λ (t : TreeFill). t.branches) c.self.view_is)
    ∙ ap (λ (row : List Value). row_prepared classes (defs_of c.args.self.now.branches) row) c.as_slice-2.ensures in
    subst (λ (r : Result (List (List ℕ)) EntryFault). GivesUnless OutOfMemory (λ (entries : List (List ℕ)). entries) c.prepare_row.result r) same c.prepare_row.ensures

pub returns-clause-sized : goal.returns-clause-sized
returns-clause-sized c =
    let classes = c.args.classes.now in
    let same =
    ap (λ (bs : List BranchFill). row_prepared classes (defs_of bs) c.as_slice-2.result.now) (c.as_slice.ensures.value ∙ ap (λ (t : TreeFill). t.branches) c.self.view_is)
    ∙ ap (λ (row : List Value). row_prepared classes (defs_of c.args.self.now.branches) row) c.as_slice-2.ensures in
    if_prepared classes (defs_of c.args.self.now.branches) c.args.row.now c.prepare_row.result
    (subst (λ (r : Result (List (List ℕ)) EntryFault). GivesUnless OutOfMemory (λ (entries : List (List ℕ)). entries) c.prepare_row.result r) same c.prepare_row.ensures)
