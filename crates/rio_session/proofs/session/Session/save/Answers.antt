use Rattle.std.proofs.Common.{◌≡◌, ◌∙◌, ℕ, List, Some, None, map, refl, sym, ap}
use Rattle.std.specs.List.{find}
use Rattle.rio_session.specs.Fills.{is_tree_of}
use Rattle.rio_session.proofs.CostOfSave.{never_none, there_at}
use Rattle.rio_session.proofs.session.Session.save.Goals as goal

pub save_at-requires-clause-there : goal.save_at-requires-clause-there
save_at-requires-clause-there g c =
    let k = c.args.before.now in
    let trees = c.self.inside.filled.trees in
    there_at c.args.self.now _ c.self.view_is trees refl k.name c.requires.can.1 c.in-Some.at (ap (λ (n : List ℕ). find (is_tree_of n) trees) (sym c.as_slice.ensures) ∙ c.in-Some.ensures.at)

pub unreachable-requires : goal.unreachable-requires
unreachable-requires g c =
    let k = c.args.before.now in
    let trees = c.self.inside.filled.trees in
    never_none c.args.self.now _ c.self.view_is trees refl k.name c.requires.can.1 (ap (λ (n : List ℕ). find (is_tree_of n) trees) (sym c.as_slice.ensures) ∙ c.in-None.ensures.none refl)
