use Rattle.std.proofs.{Common.{◌≤◌, ◌∙◌, ℤ, cond, List, length, Option, Some, sym, ap, arith, rules, ℕ}, lemmas.Bool.{ltb-false, ltb-true}}
use Rattle.std.proofs.lemmas.Int.{to_z-of_z}
use Rattle.std.specs.{Int.{w128}, Map.{lookup}, Str.{bytes_eq}}
use Rattle.rio_format.specs.{Accessors.{number_in}, declared.value.Value.{out-Value}, Counts.{number_by_name}}
use Rattle.rio_entry.specs.Leaves.{numbers_with}
use Rattle.rio_entry.proofs.RowReads.{noted_all, noted_next, noted_past}
use Rattle.rio_entry.proofs.numbers.note_leaves.Goals as goal

pub returns-in-None : goal.returns-in-None
returns-in-None c = λ before says.
    let i = c.loop-k.invariant before says in
    let past : length c.args.values.now ≤ c.loop-k.k = ltb-false _ _ (sym c.in-None.ensures.lookup.0) in
    let same = noted_past c.args.leaves.now c.args.values.now c.loop-k.k i.0 _ past i.2 in
    λ name. i.1 name ∙ ap (lookup (bytes_eq name)) same

pub returns : goal.returns
returns c = λ before says.
    let i = c.loop-k.invariant before says in
    let same = noted_all c.args.leaves.now c.args.values.now c.loop-k.k i.0 _ (omega arith) i.2 in
    λ name. i.1 name ∙ ap (lookup (bytes_eq name)) same

pub loop-k-preserved : goal.loop-k-preserved
loop-k-preserved c = λ before says.
    let i = c.loop-k.invariant before says in
    let l = c.index-leaves-k.result in
    let v = c.in-Some.value.now in
    let n = number_in (out-Value v) in
    let said = to_z-of_z w128 c.number.result (search rules) ∙ c.number.ensures in
    let there = ltb-true _ _ (sym c.in-Some.ensures.lookup.0) in
    let own : Option ℤ = Some n in (
      numbers_with l v i.0,
      (λ q. c.in_ok-put_number-in-Some.ensures q
          ∙ ap (λ (z : ℤ). cond (bytes_eq q c.as_slice.result.now) (Some z) (number_by_name c.loop-k.numbers q)) said
          ∙ ap (λ (name : List ℕ). cond (bytes_eq q name) own (number_by_name c.loop-k.numbers q)) c.as_slice.ensures
          ∙ ap (λ (o : Option ℤ). cond (bytes_eq q l.name) own o) (i.1 q)),
      noted_next c.args.leaves.now c.args.values.now c.loop-k.k i.0 _ l v (omega arith) there c.index-leaves-k.is c.in-Some.ensures.lookup.1 i.2,
    )
