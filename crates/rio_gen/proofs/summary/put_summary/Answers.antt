use Rattle.std.proofs.{Common.{rules, ◌++◌, ◌∙◌, ℕ, ℤ, ap}, lemmas.Int.{to_z-of_z}}
use Rattle.std.specs.{Fmt.{decimal, signed_decimal}, Int.{w128}, Prelude.{codes}}
use Rattle.rio_num.specs.Room.{Room}
use Rattle.rio_gen.proofs.LineLaws.{appended, line_joined}
use Rattle.rio_gen.proofs.summary.put_summary.Goals as goal

pub returns : goal.returns
returns c =
    let s = c.args.summary.now in
    let old = c.args.text.now.bytes in
    let one = c.in_ok-put_between.ensures ∙ ap (λ (n : ℕ). old ++ (codes "gen " ++ (decimal n ++ codes " entries 20 branches "))) c.from.ensures in
    let sum = ap (λ (z : ℤ). c.put_between-2.new.text.bytes ++ signed_decimal z) (to_z-of_z w128 s.sum (search rules)) in
    let three = ap (λ (r : Room). r.bytes) c.in_ok-put_integer.ensures ∙ sum in
    appended c.put_integer.new.self c.put.new.self (codes "\n") c.put.result
    (λ e. line_joined old c.put_between.new.text.bytes c.put_between-2.new.text.bytes c.put_integer.new.self.bytes c.put.new.self.bytes
    (codes "gen ") (decimal s.entries) (codes " entries 20 branches ") (decimal s.baskets) (codes " baskets sum ") (signed_decimal s.sum) (codes "\n")
    one c.in_ok-put_between-2.ensures three (ap (λ (r : Room). r.bytes) e)) c.put.ensures
