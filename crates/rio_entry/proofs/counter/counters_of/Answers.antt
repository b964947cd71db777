use Rattle.std.proofs.Common.{ℕ, cond, List, Option, Some, ap, ◌∙◌, ◌∷◌, arith}
use Rattle.std.specs.{Str.{bytes_eq}}
use Rattle.rio_entry.specs.Counting.{place_by_name}
use Rattle.rio_entry.proofs.Counting.{counters_go_on}
use Rattle.rio_entry.proofs.counter.counters_of.Goals as goal

pub loop-k-preserved : goal.loop-k-preserved
loop-k-preserved c =
    let i = c.loop-k.invariant in
    let k = c.loop-k.k in
    let l = c.index-leaves-k.result in
    let own : Option ℕ = Some k in
    let counter = c.counter_among.ensures i.0 i.1 in (
      (l.name, k) ∷ i.0,
      (λ q. c.in_ok-put_place.ensures q
          ∙ ap (λ (name : List ℕ). cond (bytes_eq q name) own (place_by_name c.loop-k.places q)) c.as_slice.ensures
          ∙ ap (λ (o : Option ℕ). cond (bytes_eq q l.name) own o) (i.1 q)),
      rw (c.in_ok-push.ensures.items, counter) (counters_go_on c.args.leaves.now k i.0 c.loop-k.counters.items _ l (omega arith) c.index-leaves-k.is i.2),
    )
