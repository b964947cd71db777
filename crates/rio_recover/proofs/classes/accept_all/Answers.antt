use Rattle.std.proofs.{Common.{◌∙◌, length, sym, ap, arith}, lemmas.Bool.{eqb-false, eqb-true}}
use Rattle.rio_format.specs.TreeClasses.{written_classes}
use Rattle.rio_recover.proofs.{Accepting.{not_if_long, state_if_empty, state_if_short}, Declared.{not_declared}}
use Rattle.rio_recover.proofs.classes.accept_all.Goals.{then-is_empty, else-is_empty+in_ok-has_short_list}
use Rattle.rio_recover.proofs.classes.accept_all.Goals as goal

pub returns-in_default-2 : goal.returns-in_default-2
returns-in_default-2 c =
    let listed = rw c.in-Some.is at c.in_ok-declared.ensures in
    let none = rw c.in_default-2.is at c.in_ok-registry.ensures in
    not_declared c.args.classes.now c.in-Some.declared.now listed none

pub returns-then-branch : goal.returns-then-branch
returns-then-branch c =
    let listed = rw c.in-Some.is at c.in_ok-declared.ensures in
    let told = rw c.in-Some-2.is at c.in_ok-registry.ensures in
    let declared = c.in-Some.declared.now in
    let registry = c.in-Some-2.registry in (
      listed ∙ ap written_classes (sym told.1),
      elim c.if-is_empty.branch [
        | then-is_empty w ↦ state_if_empty declared registry told.1 (eqb-true (length declared) 0 (sym c.is_empty.ensures ∙ w.if-is_empty.true))
        | else-is_empty+in_ok-has_short_list w ↦
            state_if_short declared registry w.classes.result.now w.in_ok-has_short_list.field-0 told.1 told.0 w.classes.ensures w.in_ok-has_short_list.ensures (sym w.value-is ∙ c.if-branch.true)
      ],
    )

pub returns-else-branch : goal.returns-else-branch
returns-else-branch c =
    let listed = rw c.in-Some.is at c.in_ok-declared.ensures in
    let told = rw c.in-Some-2.is at c.in_ok-registry.ensures in
    let declared = c.in-Some.declared.now in
    let registry = c.in-Some-2.registry in
    elim c.if-is_empty.branch [
      | then-is_empty w ↦ absurd cc
      | else-is_empty+in_ok-has_short_list w ↦
          not_if_long c.args.classes.now declared registry w.classes.result.now w.in_ok-has_short_list.field-0 listed (omega (arith, eqb-false (length declared) 0 (sym c.is_empty.ensures ∙ w.if-is_empty.false)))
          told.1 w.classes.ensures w.in_ok-has_short_list.ensures (sym w.value-is ∙ c.if-branch.false)
    ]
