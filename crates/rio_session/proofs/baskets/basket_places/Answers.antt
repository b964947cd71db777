use Rattle.std.proofs.Common.{◌≡◌, ◌∙◌, ◌++◌, ℕ, List, length, map, slice_get, sym, ap, arith}
use Rattle.std.specs.Option.{option_copied, option_map}
use Rattle.rio_fill.specs.Fill.{BranchFill}
use Rattle.rio_session.specs.Fills.{FilledTree}
use Rattle.rio_session.proofs.BranchPlaces.{branch_there, places_more}
use Rattle.rio_session.proofs.baskets.basket_places.Goals.{in-Some+in_ok-push_places-in-Some, in-None}
use Rattle.rio_session.proofs.baskets.basket_places.Goals as goal

pub loop-k-preserved : goal.loop-k-preserved
loop-k-preserved c =
    let bs = c.args.tree.now.fill.branches in
    let k = c.loop-k.k in
    let same : c.tree.inside.filler.branches ≡ bs = ap (λ (t : FilledTree). t.fill.branches) c.tree.view_is in
    let found = ap (λ (l : List BranchFill). option_map (λ (b : BranchFill). b.baskets) (slice_get l k)) (sym same) ∙ sym c.baskets.ensures in
    elim c.match-baskets.branch [
      | in-Some+in_ok-push_places-in-Some w ↦
          rw (w.places-is, w.in_ok-push_places-in-Some.ensures)
          (ap (λ (ps : List ℕ). ps ++ map (λ at. at.seek) w.in-Some.baskets.now) c.loop-k.invariant ∙ sym (places_more bs k w.in-Some.baskets.now (found ∙ ap option_copied w.in-Some.is)))
      | in-None w ↦ absurd (branch_there bs k (omega (arith, c.loop-k-test.true, c.width-k-end.ensures, ap (λ (l : List BranchFill). length l) same)) (found ∙ ap option_copied w.in-None.is))
    ]
