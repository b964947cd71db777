use Rattle.std.proofs.Common.{◌≡◌, ◌∙◌, ap, sym, subst, Some, IfOk}
use Rattle.std.specs.{Prelude.{IsSome}, List.{find}}
use Rattle.rio_fill.specs.Fill.{entry_count}
use Rattle.rio_reply.specs.Scanned.{scan_start}
use Rattle.rio_session.specs.{Fills.{FilledTree, is_tree_of}, HeldBaskets.{IsTreeStored}, Scans.{Scans}, SessionState.{SessionState}}
use Rattle.rio_session.proofs.ScanCalls.{not_missing, scans_named, tree_stored}
use Rattle.rio_session.proofs.session.Session.text_of_scan.Goals as goal

pub unreachable-requires : goal.unreachable-requires
unreachable-requires g c =
    let name = c.args.name.now in
    not_missing name c.self.inside.filled.trees c.in-None.ensures (subst (λ (s : SessionState). IsSome (find (is_tree_of name) s.trees)) (sym c.self.view_is) c.requires.there)

pub text_of_rows-requires-clause-stored : goal.text_of_rows-requires-clause-stored
text_of_rows-requires-clause-stored g c =
    let tree = c.in-Some.tree.now in
    let kept = c.self.invariant.kept (ap (λ (s : SessionState). s.failed) c.self.view_is ∙ c.requires.fresh) in
    subst (λ (s : SessionState). IsTreeStored s.segments tree.fill) c.self.view_is
    (tree_stored c.self.inside.chain.segments c.self.inside.filled.trees c.args.name.now tree kept.closable.stored c.in-Some.ensures)

pub returns-clause-rows : goal.returns-clause-rows
returns-clause-rows g c =
    let name = c.args.name.now in
    let s = c.args.self.now in
    let v = g.H.Host.view c.args.host.now in
    let class = c.args.class.now in
    subst (λ (x : SessionState). IfOk c.text_of_rows.result (λ told. (t : FilledTree) → find (is_tree_of name) x.trees ≡ Some t → Scans v s.segments s.classes class t.fill (scan_start name (entry_count t.fill)) (λ text. text.bytes) told))
    c.self.view_is
    (scans_named v s.segments s.classes class name c.self.inside.filled.trees c.in-Some.tree.now (λ text. text.bytes) c.text_of_rows.result c.in-Some.ensures c.text_of_rows.ensures.rows)
