use Rattle.std.proofs.{Common.{◌-◌, ◌∙◌, ℕ, length, drop, sym, ap, arith}, lemmas.List.{drop_all, length-drop, take_all}}
use Rattle.rio_report.proofs.Summaries.{tree_count}
use Rattle.rio_report.proofs.summary.declared_in.Goals as goal

pub returns-then-classes-lt-TREE_CLASSES : goal.returns-then-classes-lt-TREE_CLASSES
returns-then-classes-lt-TREE_CLASSES c =
    let few = c.if-classes-lt-TREE_CLASSES.true in
    sym (drop_all _ c.args.classes.now (omega (arith, tree_count, few)))

pub returns-else-classes-lt-TREE_CLASSES : goal.returns-else-classes-lt-TREE_CLASSES
returns-else-classes-lt-TREE_CLASSES c =
    take_all (length c.args.classes.now - 12) (drop 12 c.args.classes.now) (omega (arith, length-drop 12 c.args.classes.now))
    ∙ ap (λ (n : ℕ). drop n c.args.classes.now) (sym tree_count)
