use Rattle.std.proofs.{Common.{◌≡◌, ◌∙◌, ◌≤◌, ℕ, List, Some, refl, sym, ap}}
use Rattle.std.specs.{List.{find}}
use Rattle.rio_fill.specs.Fill.{defs_of}
use Rattle.rio_session.specs.{Fills.{FilledTree, bare_tree, is_tree_of}, Session.{SessionState}}
use Rattle.rio_session.proofs.{CostOfSave.{never_none}, RowJudged.{named_seen, prepared_seen}}
use Rattle.rio_session.proofs.session.Session.fill.Goals as goal

pub fill_by-requires-clause-there : goal.fill_by-requires-clause-there
fill_by-requires-clause-there g c =
    let s = c.args.self.now in
    let trees = c.self.inside.filled.trees in
    let u = c.in-Some-find.tree.now in
    let name = c.args.row.name in
    let found : find (is_tree_of name) trees ≡ Some u = ap (λ (n : List ℕ). find (is_tree_of n) trees) (sym c.as_slice-name.ensures) ∙ sym c.in-Some-find.ensures in
    let there = sym c.in-Some.ensures.at ∙ sym c.in-Some-find.ensures in
    let named = named_seen s _ c.self.view_is trees refl name c.in-Some.at u found there in
    let classes = c.classes.ensures ∙ ap (λ (x : SessionState). x.classes) c.self.view_is in
    (bare_tree u, named, prepared_seen s c.args.row u c.classes.result.now _ c.args.row.row c.prepare-found.result classes (ap (λ (v : FilledTree). defs_of v.fill.branches) c.tree.view_is) refl c.prepare-found.ensures.exact c.prepare-found.ensures.sized c.stays_bounded.ensures.few)

pub unreachable-requires : goal.unreachable-requires
unreachable-requires g c =
    let trees = c.self.inside.filled.trees in
    never_none c.args.self.now _ c.self.view_is trees refl c.args.row.name c.requires.can.0 (ap (λ (n : List ℕ). find (is_tree_of n) trees) (sym c.as_slice-name.ensures) ∙ c.in_default.ensures.none refl)

pub unreachable-requires-in_default-find : goal.unreachable-requires-in_default-find
unreachable-requires-in_default-find g c =
    let trees = c.self.inside.filled.trees in
    never_none c.args.self.now _ c.self.view_is trees refl c.args.row.name c.requires.can.0 (ap (λ (n : List ℕ). find (is_tree_of n) trees) (sym c.as_slice-name.ensures) ∙ sym c.in_default-find.ensures)
