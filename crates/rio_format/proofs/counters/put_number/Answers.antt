use Rattle.std.proofs.{Common.{◌≡◌, w32, to_z, of_z, arith, ℤ, Bool, cond, Option, Some, ap, ◌∙◌, nat_cmp}, lemmas.Int.{to_z-of_z}}
use Rattle.std.proofs.lemmas.Map.Text.{is_eq-slice_cmp}
use Rattle.std.specs.{Map.{lookup}, Ordering.{is_eq}, Cmp.Lexicographic.{slice_cmp}, Str.{bytes_eq}}
use Rattle.rio_format.proofs.MapLaws.{bytes-insert}
use Rattle.rio_format.specs.Counts.{number_by_name}
use Rattle.rio_format.proofs.counters.put_number.Goals as goal

pub returns-clause-ok : goal.returns-clause-ok
returns-clause-ok c = λ q.
    let old : Option ℤ = number_by_name c.args.numbers.now q in
    let number : to_z w32 (of_z w32 c.args.said) ≡ c.args.said = grind (arith, to_z-of_z) in
    ap (lookup (λ k. is_eq (slice_cmp nat_cmp q k.now))) c.in_ok-insert.ensures.entries
    ∙ bytes-insert (λ k. k.now) c.args.numbers.now.entries c.args.name (to_z w32 (of_z w32 c.args.said)) q
    ∙ ap (λ (b : Bool). cond b (Some (to_z w32 (of_z w32 c.args.said))) old) (is_eq-slice_cmp q c.args.name.now)
    ∙ ap (λ (z : ℤ). cond (bytes_eq q c.args.name.now) (Some z) old) number
