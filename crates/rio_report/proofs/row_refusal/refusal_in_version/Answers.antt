use Rattle.std.proofs.Common.{◌≡◌, Bool, not, List, Option, sym, ap, ◌∙◌, false, true}
use Rattle.std.specs.{Option.{option_or}}
use Rattle.rio_machine.specs.declared.refusal.Refusal.{Refusal, TheVariants.{NoVersion}}
use Rattle.rio_model.specs.{Declaring.{is_declared}, Resolving.{is_known_version}}
use Rattle.rio_step.specs.Refusing.{refused_if}
use Rattle.rio_entry.specs.BranchRows.{rows_of}
use Rattle.rio_report.proofs.SeenLaws.{refused_behind, refused_class}
use Rattle.rio_report.proofs.row_refusal.refusal_in_version.Goals as goal

pub returns-then-not-is_declared-clause-refusal : goal.returns-then-not-is_declared-clause-refusal
returns-then-not-is_declared-clause-refusal g c file told =
    let classes = c.args.tree.now.classes.now in
    let unknown : is_declared classes c.args.asked.now.name ≡ false = ap (is_declared classes) (sym c.as_slice.ensures) ∙ sym c.is_declared.ensures ∙ c.if-not-is_declared.true in
    refused_class classes c.args.form.now.class c.args.asked.now c.requires.asked (rows_of file classes c.args.tree.now.branches.now c.args.refusals.now c.args.entries) unknown

pub returns-clause-refusal : goal.returns-clause-refusal
returns-clause-refusal g c file told =
    let classes = c.args.tree.now.classes.now in
    let asked = c.args.asked.now in
    let rows = rows_of file classes c.args.tree.now.branches.now c.args.refusals.now c.args.entries in
    let declared : is_declared classes asked.name ≡ true = ap (is_declared classes) (sym c.as_slice.ensures) ∙ sym c.is_declared.ensures ∙ c.if-not-is_declared.false in
    c.or_no_version.ensures
    ∙ ap (λ (b : Bool). option_or c.in_ok-refusal.refusal (refused_if (not b) NoVersion)) c.is_asked_known-known.ensures
    ∙ ap (λ (o : Option Refusal). option_or o (refused_if (not (is_known_version classes asked.name asked.version)) NoVersion)) (c.in_ok-refusal.ensures.refusal file told)
    ∙ refused_behind classes c.args.form.now.class asked c.requires.asked rows declared
