use Rattle.std.proofs.{Common.{◌≡◌, ◌∙◌, Bool, true, false, cond, Option, Some, refl, ap, nat_cmp, ℕ}, lemmas.Map.Text.{is_eq-slice_cmp}}
use Rattle.std.specs.{Prelude.{unwrap_or}, BTreeMap.{get_by}, Map.{lookup}, Ordering.{is_eq}, Cmp.Lexicographic.{slice_cmp}, Str.{bytes_eq}}
use Rattle.rio_format.proofs.MapLaws.{bytes-insert}
use Rattle.rio_judge.proofs.batch.count_put.Goals as goal

either : (b : Bool) (n : ℕ) (o : Option ℕ) → unwrap_or (cond b (Some n) o) 0 ≡ cond b n (unwrap_or o 0)
either true n o = refl
either false n o = refl

pub returns : goal.returns
returns c = λ q.
    let old : Option ℕ = get_by (λ k. slice_cmp nat_cmp q k.now) c.args.counts.now in
    let named = bytes_eq q c.args.name.now in
    ap (λ (o : Option ℕ). unwrap_or o 0)
    (ap (lookup (λ k. is_eq (slice_cmp nat_cmp q k.now))) c.in_ok-insert.ensures.entries
    ∙ bytes-insert (λ k. k.now) c.args.counts.now.entries c.args.name c.args.times q
    ∙ ap (λ (b : Bool). cond b (Some c.args.times) old) (is_eq-slice_cmp q c.args.name.now))
    ∙ either named c.args.times old
