use Rattle.std.proofs.{Common.{get_or, length-set, refl, sym, ◌∙◌, arith}, lemmas.Option.{slice_get-get_or}}
use Rattle.rio_host.proofs.ReadsLaws.{reads_join, reads_none}
use Rattle.rio_session.proofs.HeldLanes.{holds_set, lane_at, lanes_set}
use Rattle.rio_session.proofs.scan_rows.hold_all.Goals as goal

pub loop-k-init : goal.loop-k-init
loop-k-init g c = record {
  calls = reads_none (g.H.Host.view c.args.host.now);
  calm = refl;
  held = λ file links told chain are. (are, λ k b lane lt is there low. absurd (omega (arith, lt)));
  width = refl;
}

pub hold_branch-requires-clause-holds : goal.hold_branch-requires-clause-holds
hold_branch-requires-clause-holds g c = λ file told. c.requires.holds file (sym c.loop-k.invariant.calls.holds ∙ told)

pub loop-k-preserved : goal.loop-k-preserved
loop-k-preserved g c =
    let t = c.args.tree.now.filler.now in
    let e = c.args.entry in
    let k = c.loop-k.k in
    let lane = c.index-lanes-k.result in
    let held = slice_get-get_or c.loop-k.lanes k lane (omega arith) in
    record {
      calls = reads_join (g.met.H.Host.lawful c.loop-k.host) c.loop-k.invariant.calls c.in_ok-hold_branch.ensures.calls;
      calm = c.in_ok-hold_branch.ensures.cause ∙ c.loop-k.invariant.calm;
      held = λ file links told chain are.
          let was = c.loop-k.invariant.held file links told chain are in
          let own = lane_at links t e c.loop-k.lanes k (get_or c.loop-k.lanes k lane) was.0 held in
          let now = c.loop-k.invariant.calls.holds ∙ told in (
            lanes_set links t e c.loop-k.lanes k c.hold_branch.new.lane was.0 (c.in_ok-hold_branch.ensures.kept file links now chain own),
            holds_set links t e c.loop-k.lanes k c.hold_branch.new.lane was.1 (c.in_ok-hold_branch.ensures.held file links now chain own),
          );
      width = length-set c.loop-k.lanes k c.hold_branch.new.lane ∙ c.loop-k.invariant.width;
    }

pub returns-clause-kept : goal.returns-clause-kept
returns-clause-kept g c = λ file links told chain are. (c.loop-k.invariant.held file links told chain are).0

pub returns-clause-held : goal.returns-clause-held
returns-clause-held g c = λ file links told chain are k b lane lt is there low.
    (c.loop-k.invariant.held file links told chain are).1 k b lane (omega (arith, lt, c.loop-k.invariant.width, c.requires.lanes)) is there low
