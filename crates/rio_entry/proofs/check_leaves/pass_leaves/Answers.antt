use Rattle.std.proofs.{Common.{[], ◌∷◌, drop, refl, rules, ◌∙◌, ap}, lemmas.Result.{err_from_is_err_and}}
use Rattle.std.specs.Prelude.{pos}
use Rattle.rio_num.specs.Meanings.{read}
use Rattle.rio_format.specs.Bodies.{Counters}
use Rattle.rio_machine.specs.Rows.{leaf_kind}
use Rattle.rio_entry.specs.Leaves.{kind_layout, said_by, number_of_value}
use Rattle.rio_machine.specs.Entries.{given_count, said_count}
use Rattle.rio_entry.proofs.LeafPasses.{none_counted, passes_done, passes_fail, passes_on, same_counter}
use Rattle.rio_entry.proofs.check_leaves.pass_leaves.Goals as goal

pub loop-leaf-init : goal.loop-leaf-init
loop-leaf-init c = (λ classes counts. ([], refl), c.requires, search rules)

pub returns-in_err-pass_leaf-clause-exact : goal.returns-in_err-pass_leaf-clause-exact
returns-in_err-pass_leaf-clause-exact c = λ classes counts.
    let p = err_from_is_err_and c.from_residual.result c.from_residual.ensures.1 in
    let l = c.leaf-item.result in
    let k = c.loop-leaf.leaf-index in
    let i = c.loop-leaf.invariant.0 classes counts in
    let none = none_counted c.args.leaves.now k l c.loop-leaf-test.true c.leaf-item.is c.loop-leaf.invariant.1 in
    let layout = ap (λ (cs : Counters). read (number_of_value (kind_layout (leaf_kind cs l))) c.loop-leaf.reader) (same_counter l.dim (said_count l.dim (given_count (drop k counts)) i.0) (pos 0) none.0) in
    rw (p.1, p.2) (λ ne. passes_fail classes c.args.leaves.now counts k i.0 c.loop-leaf.reader _ l c.loop-leaf-test.true c.leaf-item.is c.in_err-pass_leaf.field-0.0 (layout ∙ c.in_err-pass_leaf.ensures.exact ne) i.1)

pub loop-leaf-preserved : goal.loop-leaf-preserved
loop-leaf-preserved c =
    let l = c.leaf-item.result in
    let k = c.loop-leaf.leaf-index in
    let none = none_counted c.args.leaves.now k l c.loop-leaf-test.true c.leaf-item.is c.loop-leaf.invariant.1 in
    let n = said_by c.in_ok-pass_leaf.field-0 in (
      (λ classes counts.
          let i = c.loop-leaf.invariant.0 classes counts in
          let layout = ap (λ (cs : Counters). read (number_of_value (kind_layout (leaf_kind cs l))) c.loop-leaf.reader) (same_counter l.dim (said_count l.dim (given_count (drop k counts)) i.0) (pos 0) none.0) in
          ((l.name, n) ∷ i.0, passes_on classes c.args.leaves.now counts k i.0 c.loop-leaf.reader _ l c.loop-leaf-test.true c.leaf-item.is n c.pass_leaf.new.reader (layout ∙ c.in_ok-pass_leaf.ensures.exact) i.1)),
      none.1,
      search rules,
    )

pub returns-clause-exact : goal.returns-clause-exact
returns-clause-exact c = λ classes counts.
    let i = c.loop-leaf.invariant.0 classes counts in
    passes_done classes c.args.leaves.now counts c.loop-leaf.leaf-index i.0 c.loop-leaf.reader _ c.loop-leaf-test.false i.1
