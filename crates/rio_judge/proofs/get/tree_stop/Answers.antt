use Rattle.std.proofs.Common.{◌≡◌, ◌∙◌, ℕ, Option, Some, None, eqb, ap, sym, subst, arith}
use Rattle.std.proofs.lemmas.Bool.{eq-eqb, ne_eqb}
use Rattle.rio_num.proofs.Cases.{some_of}
use Rattle.rio_tree_table.specs.Table.{tree_of}
use Rattle.rio_machine.specs.{declared.command.Command.TheVariants.{Get}, declared.refusal.Refusal.TheVariants.{NameIsTree, NoSuchCycle}}
use Rattle.rio_step.specs.Refusing.{refusal_of}
use Rattle.rio_judge.proofs.{GetTests.{is_tree, is_tree_in_cycle, no_tree_cycle}, ItemsOfState.{names_one_tree}}
use Rattle.rio_judge.proofs.get.tree_stop.Goals as goal

pub returns-in_default : goal.returns-in_default
returns-in_default c heads trees m name version are key tree =
    let t = some_of (tree_of name trees) tree in
    let facts = names_one_tree heads trees m are name t.0 t.1 in
    subst (λ (cycle : Option ℕ). refusal_of m (Get name cycle version) None ≡ Some NameIsTree) (sym c.in_default.is)
    (is_tree heads m name version t.0 facts c.args.newest.now key)

pub returns-then-from-cycle : goal.returns-then-from-cycle
returns-then-from-cycle c heads trees m name version are key tree =
    let t = some_of (tree_of name trees) tree in
    let facts = names_one_tree heads trees m are name t.0 t.1 in
    subst (λ (cycle : Option ℕ). refusal_of m (Get name cycle version) None ≡ Some NoSuchCycle) (sym c.in-Some.is)
    (no_tree_cycle heads m name version t.0 facts c.args.newest.now key c.in-Some.cycle (ap (λ n. eqb n c.in-Some.cycle) (sym c.from.ensures) ∙ ne_eqb _ _ c.if-from-cycle.true))

pub returns : goal.returns
returns c heads trees m name version are key tree =
    let t = some_of (tree_of name trees) tree in
    let facts = names_one_tree heads trees m are name t.0 t.1 in
    let same : c.args.newest.now.cycle ≡ c.in-Some.cycle = omega (arith, c.from.ensures, c.if-from-cycle.false) in
    subst (λ (cycle : Option ℕ). refusal_of m (Get name cycle version) None ≡ Some NameIsTree) (sym c.in-Some.is)
    (is_tree_in_cycle heads m name version t.0 facts c.args.newest.now key c.in-Some.cycle (eq-eqb _ _ same))
