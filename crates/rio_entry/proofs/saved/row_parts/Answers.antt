use Rattle.std.proofs.{Common.{length, refl, arith}, lemmas.Option.{slice_get_read}}
use Rattle.rio_tree.specs.declared.head.Branch.{Branch}
use Rattle.rio_entry.specs.SavedRows.{filled_entry}
use Rattle.rio_entry.proofs.HeldRows.{defs_more, entries_all, entries_more, entries_stop}
use Rattle.rio_entry.proofs.saved.row_parts.Goals as goal

pub loop-k-preserved : goal.loop-k-preserved
loop-k-preserved c =
    let bs = c.args.branches.now in
    let k = c.loop-k.k in
    let b = c.index-branches-k.result in
    let lane = c.index-lanes-k.result in
    record {
      branches = defs_more bs k c.loop-k.parts.items b (omega arith) c.index-branches-k.is c.push.new.self.items _ c.in_ok-push-in-Some.ensures.items (λ part. part.branch.now) _ refl c.loop-k.invariant.branches;
      entries = λ file hold.
          let one = hold k b lane (omega arith) (slice_get_read bs (length bs) k b refl (omega arith) c.index-branches-k.is) (slice_get_read c.args.lanes.now (length c.args.lanes.now) k lane refl (omega arith) c.index-lanes-k.is) in
          let own = c.in-Some.ensures.there file one.number one.some one.held in
          entries_more bs k c.loop-k.parts.items b (omega arith) c.index-branches-k.is c.push.new.self.items _ c.in_ok-push-in-Some.ensures.items (λ (x : Branch). filled_entry file x c.args.entry) (λ part. part.entry.now) _ own (c.loop-k.invariant.entries file hold);
    }

pub returns-in-None-clause-entries : goal.returns-in-None-clause-entries
returns-in-None-clause-entries c = λ file hold.
    let bs = c.args.branches.now in
    let k = c.loop-k.k in
    let b = c.index-branches-k.result in
    let lane = c.index-lanes-k.result in
    let one = hold k b lane (omega arith) (slice_get_read bs (length bs) k b refl (omega arith) c.index-branches-k.is) (slice_get_read c.args.lanes.now (length c.args.lanes.now) k lane refl (omega arith) c.index-lanes-k.is) in
    let own = c.in-None.ensures.there file one.number one.some one.held in
    entries_stop bs k c.loop-k.parts.items b (omega arith) c.index-branches-k.is (λ (x : Branch). filled_entry file x c.args.entry) (λ part. part.entry.now) _ own (c.loop-k.invariant.entries file hold)

pub returns-clause-entries : goal.returns-clause-entries
returns-clause-entries c = λ file hold.
    entries_all c.args.branches.now c.loop-k.k c.loop-k.parts.items (λ (x : Branch). filled_entry file x c.args.entry) (λ part. part.entry.now) _ (omega arith) (c.loop-k.invariant.entries file hold)
