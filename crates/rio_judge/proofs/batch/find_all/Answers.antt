use Rattle.std.proofs.Common.{◌≡◌, ◌+◌, ◌∙◌, ℕ, List, cond, take, ap, arith, rules}
use Rattle.std.specs.Str.{bytes_eq}
use Rattle.rio_step.specs.Refusing.{times_put}
use Rattle.rio_judge.specs.Lowest.{times_by_name}
use Rattle.rio_judge.proofs.Finding.{counts_go_on, found_begins, found_ends, found_goes_on, times_few}
use Rattle.rio_judge.proofs.batch.find_all.Goals.{After-times_put-times}
use Rattle.rio_judge.proofs.batch.find_all.Goals as goal

-- how often the name was put before
times : (c : After-times_put-times) → c.times_put-times.result ≡ times_put c.put-item.result.name (take c.loop-put.put-index c.args.puts.now)
times c =
    c.times_put-times.ensures ∙ ap (times_by_name c.loop-put.counts) c.as_slice-name.ensures ∙ c.loop-put.invariant.counted c.put-item.result.name

pub loop-put-init : goal.loop-put-init
loop-put-init c = record {
  found = found_begins c.args.classes.now c.args.table.now.heads c.args.trees.now.trees c.args.puts.now _ c.too_many-lowest.ensures c.new-objects.ensures;
  counted = λ name. search rules;
}

pub overflow_add-total : goal.overflow_add-total
overflow_add-total c =
    let few = times_few c.put-item.result.name c.loop-put.put-index c.args.puts.now in
    omega (arith, few, times (goal.at.overflow_add-total c).After-times_put-times)

pub loop-put-preserved : goal.loop-put-preserved
loop-put-preserved c =
    let k = c.loop-put.put-index in
    let p = c.put-item.result in
    let named = c.as_slice-name.ensures in
    let counts = c.loop-put.counts in
    let put = λ (q : List ℕ).
    c.in_ok-count_put.ensures q
    ∙ ap (λ (name : List ℕ). cond (bytes_eq q name) (c.times_put-times.result + 1) (times_by_name counts q)) named
    ∙ ap (λ (n : ℕ). cond (bytes_eq q p.name) (n + 1) (times_by_name counts q)) (c.times_put-times.ensures ∙ ap (times_by_name counts) named) in
    record {
      found =
          found_goes_on c.args.classes.now c.args.table.now.heads c.args.trees.now.trees c.args.puts.now k p c.loop-put-test.true c.put-item.is c.loop-put.found c.in_ok-more.more
          c.loop-put.invariant.found c.times_put-times.result c.put_behind-next.result (times (goal.at.loop-put-preserved c).After-times_put-times) c.put_behind-next.ensures.told
          c.put_behind-next.ensures.named c.put_behind-next.ensures.can c.in_ok-more.ensures;
      counted = counts_go_on c.args.classes.now c.args.table.now.heads c.args.trees.now.trees c.args.puts.now k p c.loop-put-test.true c.put-item.is counts c.count_put.new.counts c.loop-put.invariant.counted put;
    }

pub returns : goal.returns
returns c =
    let loop = c.loop-put in
    found_ends c.args.classes.now c.args.table.now.heads c.args.trees.now.trees c.args.puts.now loop.put-index loop.found loop.invariant.found (omega (arith, c.loop-put-test.false))
