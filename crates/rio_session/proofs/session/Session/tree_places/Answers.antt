use Rattle.std.proofs.Common.{◌≡◌, ◌∙◌, List, ap, subst, sym}
use Rattle.rio_chain.specs.Adjoining.{AreSegments}
use Rattle.rio_recover.specs.Closable.{IsClosable}
use Rattle.std.specs.{List.{find, Sorted.{IsPermutation}}, Option.{option_map}}
use Rattle.rio_session.specs.{Fills.{bare_tree, is_tree_of}, Session.{SessionState}, SessionState.{baskets_of}}
use Rattle.rio_session.proofs.{Bare.{bare_found, places_bare}, TreePlaces.{no_places, sorted_places}}
use Rattle.rio_session.proofs.session.Session.tree_places.Goals as goal

pub returns-in_ok-places-in-Some : goal.returns-in_ok-places-in-Some
returns-in_ok-places-in-Some c =
    let s = c.args.self.now in
    let v = c.self.view_is in
    let shape : AreSegments s.segments = subst AreSegments (ap (λ (x : SessionState). x.segments) v) c.end-end.ensures.shape in
    let kept : IsClosable s.segments s.heads s.info (baskets_of s) s.name =
    subst (λ (x : SessionState). IsClosable x.segments x.heads x.info (baskets_of x) x.name) v (c.self.invariant.kept (ap (λ (x : SessionState). x.failed) v ∙ c.requires.fresh)).closable in
    let found = ap (λ (x : SessionState). find (is_tree_of c.args.name.now) x.trees) (sym v) ∙ bare_found c.args.name.now c.self.inside.filled.trees ∙ ap (option_map bare_tree) (sym c.in-Some.ensures) in
    let moved = subst (λ (ps : List _). IsPermutation ps c.sort_unstable.new.self.items) (c.in_ok-places-in-Some.ensures ∙ sym (places_bare c.in-Some.tree.now.fill)) c.sort_unstable.ensures.permutation in
    sorted_places s shape kept c.args.name.now (bare_tree c.in-Some.tree.now) found c.sort_unstable.new.self.items moved c.sort_unstable.ensures.sorted

pub returns-in-None : goal.returns-in-None
returns-in-None c =
    let s = c.args.self.now in
    let v = c.self.view_is in
    let shape : AreSegments s.segments = subst AreSegments (ap (λ (x : SessionState). x.segments) v) c.end-end.ensures.shape in
    let kept : IsClosable s.segments s.heads s.info (baskets_of s) s.name =
    subst (λ (x : SessionState). IsClosable x.segments x.heads x.info (baskets_of x) x.name) v (c.self.invariant.kept (ap (λ (x : SessionState). x.failed) v ∙ c.requires.fresh)).closable in
    let none = ap (λ (x : SessionState). find (is_tree_of c.args.name.now) x.trees) (sym v) ∙ bare_found c.args.name.now c.self.inside.filled.trees ∙ ap (option_map bare_tree) (sym c.in-None.ensures) in
    c.new.ensures.items ∙ sym (no_places s shape kept c.args.name.now none)
