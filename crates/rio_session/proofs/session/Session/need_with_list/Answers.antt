use Rattle.std.proofs.Common.{◌≡◌, ◌∙◌, ◌+◌, ◌≤◌, ℕ, length, map, ap, sym, arith}
use Rattle.rio_dir.specs.Table.{heads_size}
use Rattle.rio_state.specs.{Closing.{end_limit}, Sizes.{close_size}}
use Rattle.rio_recover.specs.Closable.{list_count}
use Rattle.rio_session.specs.{Due.{due_of}, Fills.{bare_tree, places_of_trees}, Session.{SessionState}, SessionState.{baskets_of}}
use Rattle.rio_session.proofs.{FillSums.{need_by_due}, Needs.{kept_bounds}}
use Rattle.rio_session.proofs.session.Session.need_with_list.Goals.{in-None, in-Some}
use Rattle.rio_session.proofs.session.Session.need_with_list.Goals as goal

pub overflow_add-count : goal.overflow_add-count
overflow_add-count c =
    let b = kept_bounds _ _ _ _ _ (c.self.invariant.kept (ap (λ (s : SessionState). s.failed) c.self.view_is ∙ c.requires.fresh)) in
    omega (arith, b.count, c.live.ensures)

pub need_by-requires-clause-heads : goal.need_by-requires-clause-heads
need_by-requires-clause-heads c =
    let fresh = ap (λ (s : SessionState). s.failed) c.self.view_is ∙ c.requires.fresh in
    let b = kept_bounds _ _ _ _ _ (c.self.invariant.kept fresh) in
    omega (arith, b.heads, c.self.invariant.bytes fresh)

pub need_by-requires-clause-count : goal.need_by-requires-clause-count
need_by-requires-clause-count c =
    let b = kept_bounds _ _ _ _ _ (c.self.invariant.kept (ap (λ (s : SessionState). s.failed) c.self.view_is ∙ c.requires.fresh)) in
    let low : c.match-self.count ≤ end_limit + 1 = elim c.match-self.branch [
      | in-Some w ↦ omega (arith, b.count, w.live-count.ensures, w.count-is)
      | in-None w ↦ omega (arith, b.count, w.live.ensures, w.count-is)
    ] in
    omega (arith, low)

pub returns : goal.returns
returns c =
    let s = c.args.self.now in
    let fresh = ap (λ (s : SessionState). s.failed) c.self.view_is ∙ c.requires.fresh in
    let heads = c.self.invariant.bytes fresh ∙ ap (λ (s : SessionState). heads_size s.heads) c.self.view_is in
    let own = (c.self.invariant.kept fresh).closable.count in
    let count_in : c.match-self.count ≡ 2 + length c.self.inside.table.heads + length (places_of_trees (map bare_tree c.self.inside.filled.trees)) = elim c.match-self.branch [
      | in-Some w ↦ omega (arith, own, ap list_count w.in-Some.is, w.live-count.ensures, w.count-is)
      | in-None w ↦ omega (arith, own, ap list_count w.in-None.is, w.live.ensures, w.count-is)
    ] in
    let count = count_in ∙ ap (λ (s : SessionState). 2 + length s.heads + length (baskets_of s)) c.self.view_is in
    c.need_by.ensures
    ∙ (λ i. (due_of s.trees).bytes + close_size s.name (heads i) (count i + (due_of s.trees).baskets))
    ∙ sym (need_by_due s.name s.heads (2 + length s.heads + length (baskets_of s)) s.trees)
