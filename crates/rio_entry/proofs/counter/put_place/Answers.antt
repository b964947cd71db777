use Rattle.std.proofs.{Common.{Bool, cond, Option, Some, ap, ◌∙◌, nat_cmp, ℕ}, lemmas.Map.Text.{is_eq-slice_cmp}}
use Rattle.std.specs.{Map.{lookup}, Ordering.{is_eq}, Cmp.Lexicographic.{slice_cmp}}
use Rattle.rio_format.proofs.MapLaws.{bytes-insert}
use Rattle.rio_entry.specs.Counting.{place_by_name}
use Rattle.rio_entry.proofs.counter.put_place.Goals as goal

pub returns : goal.returns
returns c = λ q.
    let old : Option ℕ = place_by_name c.args.places.now q in
    ap (lookup (λ k. is_eq (slice_cmp nat_cmp q k.now))) c.in_ok-insert.ensures.entries
    ∙ bytes-insert (λ k. k.now) c.args.places.now.entries c.args.name c.args.k q
    ∙ ap (λ (b : Bool). cond b (Some c.args.k) old) (is_eq-slice_cmp q c.args.name.now)
