use Rattle.std.proofs.Common.{◌≡◌, ◌∙◌, ℕ, ◌+◌, ◌≤◌, ◌<◌, ◌^◌, List, [], ◌∷◌, ◌++◌, length, sum, Bool, sym, ap, arith}
use Rattle.std.proofs.lemmas.List.{length-append, Sums.{sum_by_push}}
use Rattle.rio_fill.specs.Fill.{entry_count}
use Rattle.rio_session.specs.{Fillings.{open_list, put_open}, Fills.{FilledTree}, SavePlans.{put_now}}
use Rattle.rio_session.proofs.SaveLengths.{lengths_now}
use Rattle.rio_session.proofs.save.save_lengths.Goals as goal

pub returns-clause-exact : goal.returns-clause-exact
returns-clause-exact c s h sound =
    let t : FilledTree = c.args.tree.now in
    let opens = c.in_ok-lengths.ensures.exact s.datime (entry_count t.fill) s.segments ∙ ap (λ (fs : List Bool). (put_open s.datime t.name (entry_count t.fill) s.segments t.fill.branches fs).lengths) c.open_flags.ensures in
    let header = c.next_header_length.ensures.exact in
    c.in_ok-push.ensures.ok ∙ (λ i. opens i ++ header i ∷ []) ∙ sym (lengths_now s t sound h)

pub returns-clause-few : goal.returns-clause-few
returns-clause-few c =
    let long = length-append c.in_ok-lengths.lengths (c.next_header_length.result ∷ []) in
    (omega (arith, long, ap length c.in_ok-push.ensures.ok), omega (arith, long, ap length c.in_ok-push.ensures.ok, c.in_ok-lengths.ensures.few))

pub returns-clause-small : goal.returns-clause-small
returns-clause-small c =
    let all : sum (c.in_ok-lengths.lengths ++ c.next_header_length.result ∷ []) ≡ sum c.in_ok-lengths.lengths + c.next_header_length.result = sum_by_push (λ (x : ℕ). x) c.in_ok-lengths.lengths c.next_header_length.result in
    omega (arith, all, ap sum c.in_ok-push.ensures.ok, c.in_ok-lengths.ensures.small, c.next_header_length.ensures.low)
