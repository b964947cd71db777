use Rattle.std.proofs.{Common.{get_or, length-set, refl, ◌∙◌, arith}, lemmas.Option.{slice_get-get_or}}
use Rattle.rio_host.proofs.ReadsLaws.{reads_join, reads_none}
use Rattle.rio_entry.specs.HeldLanes.{HoldsEntry}
use Rattle.rio_entry.proofs.{HeldRows.{holds_set}, Walks.{lanes_set}}
use Rattle.rio_entry.proofs.saved.hold_all.Goals as goal

pub loop-k-init : goal.loop-k-init
loop-k-init g c = record {
  calls = reads_none (g.H.Host.view c.args.host.now);
  calm = refl;
  held = λ file told are. (are, λ k b lane lt is there. absurd (omega (arith, lt)));
  width = refl;
}

pub loop-k-preserved : goal.loop-k-preserved
loop-k-preserved g c =
    let bs = c.args.tree.now.branches.now in
    let e = c.args.entry in
    let k = c.loop-k.k in
    let b = c.index-tree-k.result in
    let lane = c.index-lanes-k.result in
    let there = slice_get-get_or bs k b (omega arith) in
    let held = slice_get-get_or c.loop-k.lanes k lane (omega arith) in
    record {
      calls = reads_join (g.met.H.Host.lawful c.loop-k.host) c.loop-k.invariant.calls c.in_ok-hold.ensures.calls;
      calm = c.in_ok-hold.ensures.cause ∙ c.loop-k.invariant.calm;
      held = λ file told are.
          let was = c.loop-k.invariant.held file told are in
          let own = was.0 k _ _ there held in
          let number = c.in_ok-hold.ensures.number own.0 in
          let as_there = c.in_ok-hold.ensures.held file (c.loop-k.invariant.calls.holds ∙ told) own.1 in
          let one : HoldsEntry file e (get_or bs k b) c.hold.new.lane = record { number = number; some = c.in_ok-hold.ensures.some; held = as_there } in (
            lanes_set file e bs c.loop-k.lanes k (get_or bs k b) c.hold.new.lane was.0 there (omega (arith, number), as_there),
            holds_set file e bs c.loop-k.lanes k (get_or bs k b) c.hold.new.lane was.1 there one,
          );
      width = length-set c.loop-k.lanes k c.hold.new.lane ∙ c.loop-k.invariant.width;
    }
