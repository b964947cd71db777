use Rattle.std.proofs.{Common.{List, [], ◌∷◌, ◌++◌, ◌+◌, length, take, drop, Option, refl, sym, ap, ◌∙◌, arith}, lemmas.List.{length-append}, lemmas.Result.{IfOk-at_ok}}
use Rattle.rio_host.proofs.ReadsLaws.{reads_join, reads_none}
use Rattle.rio_tree.specs.declared.refusal.BranchRefusal.{BranchRefusal}
use Rattle.rio_entry.specs.Refusals.{refusals_behind, refusals_of}
use Rattle.rio_entry.proofs.{Left.{at_place, was_ok}, Walks.{refusal_more}}
use Rattle.rio_entry.proofs.refusals.first_refusals.Goals as goal

pub loop-k-init : goal.loop-k-init
unfolding refusals_of
loop-k-init g c = record {
  calls = reads_none (g.H.Host.view c.args.host.now);
  calm = refl;
  refusals = λ file told. ap (λ (rs : List (Option BranchRefusal)). refusals_behind file c.args.tree.now.classes.now 0 [] rs c.args.tree.now.branches.now) c.new-refusals.ensures;
  count = ap length c.new-refusals.ensures;
}

pub loop-k-preserved : goal.loop-k-preserved
loop-k-preserved g c =
    let bs = c.args.tree.now.branches.now in
    let k = c.loop-k.k in
    let p = at_place bs k c.loop-k-test.true in
    let pushed = IfOk-at_ok _ (was_ok _ c.push.result c.map_err.result _ c.map_err.ensures.cases c.in_ok-map_err.was) c.push.ensures.ok in
    let size = ap length pushed ∙ length-append c.loop-k.refusals (c.in_ok-refusal.refusal ∷ []) in
    record {
      calls = reads_join (g.met.H.Host.lawful c.loop-k.host) c.loop-k.invariant.calls c.in_ok-refusal.ensures.calls;
      calm = c.in_ok-refusal.ensures.cause ∙ c.loop-k.invariant.calm;
      refusals = λ file told.
          ap (λ (rs : List (Option BranchRefusal)). refusals_behind file c.args.tree.now.classes.now 0 (take (k + 1) bs) rs (drop (k + 1) bs))
          (pushed ∙ ap (λ (o : Option BranchRefusal). c.loop-k.refusals ++ o ∷ []) (c.in_ok-refusal.ensures.refusal file (c.loop-k.invariant.calls.holds ∙ told) p.0 p.1))
          ∙ sym (refusal_more file c.args.tree.now.classes.now bs 0 k p.0 c.loop-k.refusals c.loop-k-test.true p.2)
          ∙ c.loop-k.invariant.refusals file told;
      count = omega (arith, size, c.loop-k.invariant.count);
    }
