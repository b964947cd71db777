use Rattle.std.proofs.Common.{◌≡◌, ◌∙◌, ℕ, List, ◌∷◌, ap, subst, sym}
use Rattle.rio_chain.specs.Adjoining.{AreSegments}
use Rattle.rio_recover.specs.Closable.{IsClosable}
use Rattle.rio_session.specs.{Kept.{tree_places}, Releases.{AreReleasable}, Session.{SessionState}, SessionState.{baskets_of}}
use Rattle.rio_session.proofs.TreePlaces.{all_releasable, released_are}
use Rattle.rio_session.proofs.session.Session.released_by.Goals as goal

pub returns-clause-records : goal.returns-clause-records
returns-clause-records c =
    let s = c.args.self.now in
    let v = c.self.view_is in
    let shape : AreSegments s.segments = subst AreSegments (ap (λ (x : SessionState). x.segments) v) c.end-end.ensures.shape in
    let kept : IsClosable s.segments s.heads s.info (baskets_of s) s.name =
    subst (λ (x : SessionState). IsClosable x.segments x.heads x.info (baskets_of x) x.name) v (c.self.invariant.kept (ap (λ (x : SessionState). x.failed) v ∙ c.requires.fresh)).closable in
    let are = c.in_ok-insert.ensures.items
    ∙ ap (λ (ps : List ℕ). c.args.head.now.seek ∷ ps) (c.in_ok-places.ensures ∙ ap (tree_places s) c.as_slice.ensures)
    ∙ sym (released_are s shape kept c.args.head.now c.requires.there) in
    subst (λ (ps : List ℕ). AreReleasable s.segments ps) (sym are) (all_releasable s shape kept c.args.head.now c.requires.there)
