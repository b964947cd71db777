use Rattle.std.proofs.{Common.{◌≡◌, ◌∙◌, ◌+◌, ℕ, List, Some, refl, sym, ap, subst, arith}, lemmas.Result.{err_from_is_err_and}}
use Rattle.std.specs.List.{find}
use Rattle.rio_step.specs.Step.{row_added}
use Rattle.rio_session.specs.{Fills.{AreNamesOrdered, is_tree_of}, Replying.{reply_text}, RowPlans.{LacksRowRoom, row_cost}, Session.{SessionState}, Sound.{IsSoundState}}
use Rattle.rio_session.proofs.{OnlyReplies.{does_nothing}, RowDoes.{row_is_done, row_is_full}, RowPut.{ordered_bare, rows_seen}}
use Rattle.rio_session.proofs.session.Session.fill_with.Goals as goal

pub fill_cost-cost-requires-clause-few : goal.fill_cost-cost-requires-clause-few
fill_cost-cost-requires-clause-few g c = omega (arith, c.requires.can.2.few)

pub fill_cost-cost-requires-clause-small : goal.fill_cost-cost-requires-clause-small
fill_cost-cost-requires-clause-small g c = c.requires.can.2.small

pub plan_row-requires-clause-row : goal.plan_row-requires-clause-row
plan_row-requires-clause-row g c =
    let t = c.requires.can.0 in
    (t, subst (λ (n : List ℕ). find (is_tree_of n) c.args.self.now.trees ≡ Some t) (sym c.as_slice.ensures) c.requires.can.1.found, c.requires.can.2)

pub put_row-requires-clause-can : goal.put_row-requires-clause-can
put_row-requires-clause-can g c =
    let t = c.requires.can.0 in
    let named = c.requires.can.1 in
    let rows = rows_seen c.args.self.now _ c.self.view_is c.self.inside.filled.trees refl c.args.at t named.there c.rows-saved.result.0 c.rows-saved.result.1 c.rows-saved.ensures.exact in
    (t, named, c.requires.can.2, omega (arith, rows.0, rows.1, c.saturating_add-count.ensures, c.if-count-ge-ROWS_LIMIT.false), c.in-Ok.ensures.plan t (subst (λ (n : List ℕ). find (is_tree_of n) c.args.self.now.trees ≡ Some t) (sym c.as_slice.ensures) named.found))

pub returns-in_err-text-in-Ok-clause-does : goal.returns-in_err-text-in-Ok-clause-does
returns-in_err-text-in-Ok-clause-does g c command is =
    let p = err_from_is_err_and c.from_residual.result c.from_residual.ensures.1 in
    rw (p.1, p.2) (does_nothing c.args.replies (g.H.Host.view c.args.host.now) c.args.self.now command (g.met.H.Host.lawful c.args.host.now) c.requires.ready c.requires.fresh)

pub returns-in-Ok-clause-does : goal.returns-in-Ok-clause-does
returns-in-Ok-clause-does g c command is =
    let s = c.args.self.now in
    let t = c.requires.can.0 in
    let named = c.requires.can.1 in
    let v = c.self.view_is in
    let sound : IsSoundState s = subst IsSoundState v (record { classes = c.self.invariant.classes; kept = c.self.invariant.kept }) in
    let ordered : AreNamesOrdered s.trees = subst (λ (x : SessionState). AreNamesOrdered x.trees) v (ordered_bare c.self.inside.filled.trees c.rows-saved.ensures.ordered) in
    let rows = rows_seen s _ v c.self.inside.filled.trees refl c.args.at t named.there c.rows-saved.result.0 c.rows-saved.result.1 c.rows-saved.ensures.exact in
    let count : c.saturating_add-count.result ≡ t.fill.saved + t.fill.pending = omega (arith, rows.0, rows.1, c.saturating_add-count.ensures, c.if-count-ge-ROWS_LIMIT.false) in
    let cost = c.fill_cost-cost.ensures ∙ ap (row_cost c.args.entries) rows.1 in
    let text = c.as_slice-in-Ok-2.ensures ∙ c.in_ok-text-in-Ok.ensures ∙ (λ i. reply_text c.args.replies (row_added (c.as_slice-in-Ok.ensures i) (count i))) in
    let plan = c.in-Ok.ensures.plan t (subst (λ (n : List ℕ). find (is_tree_of n) s.trees ≡ Some t) (sym c.as_slice.ensures) named.found) in
    row_is_done c.args.replies (g.H.Host.view c.args.host.now) (g.H.Host.view c.put_row.new.host) s c.put_row.new.self (g.met.H.Host.lawful c.args.host.now) (g.met.H.Host.lawful c.put_row.new.host)
    c.requires.ready c.requires.fresh sound (omega (arith, ap (λ (x : SessionState). x.datime) v)) c.put_row.result c.args.row.now c.args.entries t named.found c.requires.can.2 ordered c.fill_cost-cost.result cost command is
    c.as_slice-in-Ok-2.result.now text plan.room (c.put_row.ensures.changes t named) c.put_row.ensures.outcome

pub returns-in-Err-Full-clause-does : goal.returns-in-Err-Full-clause-does
returns-in-Err-Full-clause-does g c command is =
    let s = c.args.self.now in
    let t = c.requires.can.0 in
    let named = c.requires.can.1 in
    let v = c.self.view_is in
    let sound : IsSoundState s = subst IsSoundState v (record { classes = c.self.invariant.classes; kept = c.self.invariant.kept }) in
    let ordered : AreNamesOrdered s.trees = subst (λ (x : SessionState). AreNamesOrdered x.trees) v (ordered_bare c.self.inside.filled.trees c.rows-saved.ensures.ordered) in
    let rows = rows_seen s _ v c.self.inside.filled.trees refl c.args.at t named.there c.rows-saved.result.0 c.rows-saved.result.1 c.rows-saved.ensures.exact in
    let cost = c.fill_cost-cost.ensures ∙ ap (row_cost c.args.entries) rows.1 in
    let fault = c.in-Err-Full.ensures.full t (subst (λ (n : List ℕ). find (is_tree_of n) s.trees ≡ Some t) (sym c.as_slice.ensures) named.found) in
    let full = subst (LacksRowRoom s t c.args.entries) c.in-Err-Full.field-0-is fault in
    row_is_full c.args.replies (g.H.Host.view c.args.host.now) (g.H.Host.view c.refuse.new.host) s c.refuse.new.self (g.met.H.Host.lawful c.args.host.now) (g.met.H.Host.lawful c.refuse.new.host)
    c.requires.ready c.requires.fresh sound (omega (arith, ap (λ (x : SessionState). x.datime) v)) c.refuse.result c.args.row.now c.args.entries t named.found c.requires.can.2 ordered c.fill_cost-cost.result cost command is
    c.in-Err-Full.end c.in-Err-Full.wanted full.1 full.2 full.0 c.refuse.ensures.says c.refuse.ensures.outcome
