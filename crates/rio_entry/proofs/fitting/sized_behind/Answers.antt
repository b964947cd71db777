use Rattle.std.proofs.{Common.{ℤ, Option, Some, rules, ap, sym, ◌∙◌}, lemmas.Int.{to_z-of_z}}
use Rattle.std.specs.Int.{w128}
use Rattle.rio_leaf.specs.declared.leaf.Dim.{Dim}
use Rattle.rio_format.specs.Counts.{number_by_name}
use Rattle.rio_machine.specs.Rows.{counted_leaf_kind, sized_kind}
use Rattle.rio_entry.specs.Leaves.{kind_fits}
use Rattle.rio_entry.proofs.fitting.sized_behind.Goals as goal

pub returns-in-Some : goal.returns-in-Some
returns-in-Some c = λ before says.
    let of = c.args.of in
    let v = c.args.value.now in
    let times = c.in-Counted.times in
    c.counted_fits.ensures
    ∙ ap (λ (n : ℤ). kind_fits (counted_leaf_kind of times (Some n)) v) (to_z-of_z w128 c.in-Some.count (search rules))
    ∙ ap (λ (o : Option ℤ). kind_fits (counted_leaf_kind of times o) v) (c.in-Some.ensures ∙ ap (number_by_name c.args.numbers.now) c.as_slice.ensures ∙ says c.in-Counted.counter)
    ∙ ap (λ (d : Dim). kind_fits (sized_kind before of d) v) (sym c.in-Counted.is)

pub returns-in-None : goal.returns-in-None
returns-in-None c = λ before says.
    let of = c.args.of in
    let v = c.args.value.now in
    ap (λ (o : Option ℤ). kind_fits (counted_leaf_kind of c.in-Counted.times o) v) (c.in-None.ensures ∙ ap (number_by_name c.args.numbers.now) c.as_slice.ensures ∙ says c.in-Counted.counter)
    ∙ ap (λ (d : Dim). kind_fits (sized_kind before of d) v) (sym c.in-Counted.is)
