use Rattle.std.proofs.{Common.{arith, ◌≡◌, ℕ, ℤ, Bool, cond, Option, Some, ap, ◌∙◌, nat_cmp, int_cmp, is_eq, w64, to_z, of_z}, lemmas.Int.{to_z-of_z}}
use Rattle.std.specs.Ordering.{ordering_then}
use Rattle.rio_format.specs.Index.{number_place}
use Rattle.rio_format.proofs.MapLaws.{pair_is_at}
use Rattle.rio_format.proofs.index.put_number.Goals as goal

pub returns-clause-ok : goal.returns-clause-ok
returns-clause-ok c = λ a z.
    let old : Option ℕ = number_place c.args.numbers.now a z in
    let key : to_z w64 (of_z w64 c.args.number) ≡ c.args.number = grind (arith, to_z-of_z) in
    c.in_ok-insert.ensures.updates.0 (a, z)
    ∙ ap (λ (n : ℤ). cond (is_eq (ordering_then (nat_cmp c.args.first a) (int_cmp n z))) (Some c.args.place) old) key
    ∙ ap (λ (b : Bool). cond b (Some c.args.place) old) (pair_is_at c.args.first a c.args.number z)
