use Rattle.std.proofs.{Common.{ℕ, ℤ, List, map, cond, Option, Some, rules, sym, ap, subst, ◌∙◌, arith}, lemmas.Int.{to_z-of_z}, lemmas.List.{length-map}}
use Rattle.std.specs.{Int.{w128}, Str.{bytes_eq}}
use Rattle.rio_format.specs.{Accessors.{number_in}, declared.value.Value.{out-Value}, Bodies.{Counters}, Counts.{SaysAsFirst, number_by_name}}
use Rattle.rio_machine.specs.Rows.{leaf_column, leaf_numbers_behind}
use Rattle.rio_entry.proofs.FitsBehind.{leaf_fails, leaf_more, leaves_done, too_few}
use Rattle.rio_entry.proofs.fitting.leaves_stand.Goals as goal

pub returns-then-leaves-values : goal.returns-then-leaves-values
returns-then-leaves-values c = λ classes before says. record {
  fits = sym (too_few classes (map leaf_column c.args.leaves.now) c.args.values.now before (λ e. c.if-leaves-values.true (sym (length-map c.args.leaves.now leaf_column) ∙ e)));
  says = λ no. absurd cc;
}

pub returns-then-not-fits_behind : goal.returns-then-not-fits_behind
returns-then-not-fits_behind c = λ classes before says.
    let i = c.loop-k.invariant classes before says in
    let l = c.index-leaves-k.result in
    let v = c.index-values-k.result in
    let none = sym (c.fits_behind.ensures i.0 i.1) ∙ c.if-not-fits_behind.true in
    record {
      fits = sym (leaf_fails classes c.args.leaves.now c.args.values.now before c.loop-k.k i.0 i.2 l v (omega arith) (omega arith) c.index-leaves-k.is c.index-values-k.is none);
      says = λ no. absurd cc;
    }

pub loop-k-preserved : goal.loop-k-preserved
loop-k-preserved c = λ classes before says.
    let i = c.loop-k.invariant classes before says in
    let l = c.index-leaves-k.result in
    let v = c.index-values-k.result in
    let n = number_in (out-Value v) in
    let fit = sym (c.fits_behind.ensures i.0 i.1) ∙ c.if-not-fits_behind.false in
    let said = to_z-of_z w128 c.number.result (search rules) ∙ c.number.ensures in
    let own : Option ℤ = Some n in (
      leaf_numbers_behind (leaf_column l) v i.0,
      (λ q. c.in_ok-put_number.ensures q
          ∙ ap (λ (z : ℤ). cond (bytes_eq q c.as_slice.result.now) (Some z) (number_by_name c.loop-k.numbers q)) said
          ∙ ap (λ (name : List ℕ). cond (bytes_eq q name) own (number_by_name c.loop-k.numbers q)) c.as_slice.ensures
          ∙ ap (λ (o : Option ℤ). cond (bytes_eq q l.name) own o) (i.1 q)),
      leaf_more classes c.args.leaves.now c.args.values.now before c.loop-k.k i.0 i.2 l v (omega arith) (omega arith) c.index-leaves-k.is c.index-values-k.is fit,
    )

pub returns : goal.returns
returns c = λ classes before says.
    let i = c.loop-k.invariant classes before says in
    let done = leaves_done classes c.args.leaves.now c.args.values.now before c.loop-k.k i.0 i.2 (omega arith) c.if-leaves-values.false in
    record {
      fits = sym done.0;
      says = λ yes. subst (λ (now : Counters). SaysAsFirst c.loop-k.numbers now) done.1 i.1;
    }
