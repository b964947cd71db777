use Rattle.std.proofs.{Common.{◌≡◌, ◌∙◌, ◌+◌, ◌-◌, ◌*◌, ◌<◌, ◌≤◌, ◌^◌, ℕ, List, Option, true, false, length, sum, sym, ap, subst, arith}, lemmas.Result.{err_from_is_err_and}}
use Rattle.std.specs.{Prelude.{IfSome}, List.{find}}
use Rattle.rio_num.proofs.Cases.{none_from}
use Rattle.rio_format.specs.declared.class.ClassDef.{ClassDef}
use Rattle.rio_model.specs.StateClasses.{StateClasses}
use Rattle.rio_chain.specs.{Placing.{end_after, places_of, space_of}, Plans.{IsFull}}
use Rattle.rio_chain.specs.declared.fault.PlanFault.TheVariants.{Full}
use Rattle.rio_state.specs.Closing.{is_full}
use Rattle.rio_tree.specs.{HeaderLength.{basket_count, header_length, header_size}, WrittenLaws.{stated_defs}, declared.head.TreeHead.{TreeHead}}
use Rattle.rio_effect.specs.TreeRecords.{new_head}
use Rattle.rio_step.specs.{Costs.{info_size}, Step.{tree_made}}
use Rattle.rio_session.specs.{Fills.{is_tree_of}, Replying.{reply_text}, Session.{SessionState}, Sound.{IsSoundState}, TreePlans.{head_now, lengths_with, making_now, need_of_tree, records_more}}
use Rattle.rio_session.proofs.{PlanRoom.{plan_has_room, plan_lacks_room}, OnlyReplies.{does_nothing}, TreeDoes.{tree_is_done, tree_is_full}, TreePlanned.{bytes_are, first_low, header_short, none_named_so, planned_lengths, planned_need, planned_sum, size_low}}
use Rattle.rio_session.proofs.session.Session.tree.Goals as goal

pub header_bytes-requires : goal.header_bytes-requires
header_bytes-requires g c =
    let classes = ap (λ (l : List ClassDef). new_head l c.args.new.branches) (c.classes-classes.ensures ∙ ap (λ (s : SessionState). s.classes) c.self.view_is) in
    let head : c.in_ok-head.head ≡ head_now c.args.self.now c.args.new.branches = c.in_ok-head.ensures ∙ ap (new_head c.classes-classes.result.now) c.as_slice-2.ensures ∙ classes in
    let short = header_short c.args.self.now c.args.new c.requires.can in
    let low = subst (λ (x : List ℕ × TreeHead). header_length x.0 (stated_defs x.1.branches) (basket_count x.1) < 2 ^ 30 - 200) (λ i. (sym c.as_slice-3.ensures i, sym head i)) short in
    omega (arith, low)

pub returns-in_err-header-clause-does : goal.returns-in_err-header-clause-does
returns-in_err-header-clause-does g c command todo =
    let p = err_from_is_err_and c.from_residual-in_err-header.result c.from_residual-in_err-header.ensures.1 in
    rw (p.1, p.2) (does_nothing c.args.replies (g.H.Host.view c.args.host.now) c.args.self.now command (g.met.H.Host.lawful c.args.host.now) c.requires.ready c.requires.fresh)

pub returns-in_err-list_length-clause-does : goal.returns-in_err-list_length-clause-does
returns-in_err-list_length-clause-does g c command todo =
    let p = err_from_is_err_and c.from_residual-in_err-list_length.result c.from_residual-in_err-list_length.ensures.1 in
    rw (p.1, p.2) (does_nothing c.args.replies (g.H.Host.view c.args.host.now) c.args.self.now command (g.met.H.Host.lawful c.args.host.now) c.requires.ready c.requires.fresh)

pub returns-in_err-lengths-clause-does : goal.returns-in_err-lengths-clause-does
returns-in_err-lengths-clause-does g c command todo =
    let p = err_from_is_err_and c.from_residual-in_err-lengths.result c.from_residual-in_err-lengths.ensures.1 in
    rw (p.1, p.2) (does_nothing c.args.replies (g.H.Host.view c.args.host.now) c.args.self.now command (g.met.H.Host.lawful c.args.host.now) c.requires.ready c.requires.fresh)

pub returns-in_err-text-in-Ok-clause-does : goal.returns-in_err-text-in-Ok-clause-does
returns-in_err-text-in-Ok-clause-does g c command todo =
    let p = err_from_is_err_and c.from_residual-in_err-text-in-Ok.result c.from_residual-in_err-text-in-Ok.ensures.1 in
    rw (p.1, p.2) (does_nothing c.args.replies (g.H.Host.view c.args.host.now) c.args.self.now command (g.met.H.Host.lawful c.args.host.now) c.requires.ready c.requires.fresh)

pub returns-in_err-made-in-Ok-clause-does : goal.returns-in_err-made-in-Ok-clause-does
returns-in_err-made-in-Ok-clause-does g c command todo =
    let p = err_from_is_err_and c.from_residual-in_err-made-in-Ok.result c.from_residual-in_err-made-in-Ok.ensures.1 in
    rw (p.1, p.2) (does_nothing c.args.replies (g.H.Host.view c.args.host.now) c.args.self.now command (g.met.H.Host.lawful c.args.host.now) c.requires.ready c.requires.fresh)

pub returns-clause-does : goal.returns-clause-does
returns-clause-does g c command todo = does_nothing c.args.replies (g.H.Host.view c.args.host.now) c.args.self.now command (g.met.H.Host.lawful c.args.host.now) c.requires.ready c.requires.fresh

pub make_tree-requires-clause-header : goal.make_tree-requires-clause-header
make_tree-requires-clause-header g c =
    let classes = ap (λ (l : List ClassDef). new_head l c.args.new.branches) (c.classes-classes.ensures ∙ ap (λ (s : SessionState). s.classes) c.self.view_is) in
    let head : c.in_ok-head.head ≡ head_now c.args.self.now c.args.new.branches = c.in_ok-head.ensures ∙ ap (new_head c.classes-classes.result.now) c.as_slice-2.ensures ∙ classes in
    c.in_ok-header.ensures ∙ (λ i. header_size (c.as_slice-3.ensures i) (stated_defs (head i).branches)) ∙ bytes_are c.args.self.now c.args.new c.requires.can

pub tree_lengths-requires-clause-header : goal.tree_lengths-requires-clause-header
tree_lengths-requires-clause-header g c =
    let s = c.args.self.now in
    let new = c.args.new in
    let own = c.requires.can in
    let v = c.self.view_is in
    let are : StateClasses s.classes = subst StateClasses (ap (λ (x : SessionState). x.classes) v) c.self.invariant.classes in
    let soon : s.datime < 2 ^ 32 = omega (arith, ap (λ (x : SessionState). x.datime) v) in
    let head : c.in_ok-head.head ≡ head_now s new.branches =
    c.in_ok-head.ensures ∙ ap (new_head c.classes-classes.result.now) c.as_slice-2.ensures ∙ ap (λ (l : List ClassDef). new_head l new.branches) (c.classes-classes.ensures ∙ ap (λ (x : SessionState). x.classes) v) in
    let header : c.in_ok-header.header ≡ header_size new.name new.branches = c.in_ok-header.ensures ∙ (λ i. header_size (c.as_slice-3.ensures i) (stated_defs (head i).branches)) ∙ bytes_are s new own in
    omega (arith, header, size_low s new own)

pub overflow_mul-cost : goal.overflow_mul-cost
overflow_mul-cost g c =
    let s = c.args.self.now in
    let new = c.args.new in
    let own = c.requires.can in
    let v = c.self.view_is in
    let are : StateClasses s.classes = subst StateClasses (ap (λ (x : SessionState). x.classes) v) c.self.invariant.classes in
    let soon : s.datime < 2 ^ 32 = omega (arith, ap (λ (x : SessionState). x.datime) v) in
    let head : c.in_ok-head.head ≡ head_now s new.branches =
    c.in_ok-head.ensures ∙ ap (new_head c.classes-classes.result.now) c.as_slice-2.ensures ∙ ap (λ (l : List ClassDef). new_head l new.branches) (c.classes-classes.ensures ∙ ap (λ (x : SessionState). x.classes) v) in
    let header : c.in_ok-header.header ≡ header_size new.name new.branches = c.in_ok-header.ensures ∙ (λ i. header_size (c.as_slice-3.ensures i) (stated_defs (head i).branches)) ∙ bytes_are s new own in
    omega (arith, header, size_low s new own)

pub overflow_add-cost-2 : goal.overflow_add-cost-2
overflow_add-cost-2 g c =
    let s = c.args.self.now in
    let new = c.args.new in
    let own = c.requires.can in
    let v = c.self.view_is in
    let are : StateClasses s.classes = subst StateClasses (ap (λ (x : SessionState). x.classes) v) c.self.invariant.classes in
    let soon : s.datime < 2 ^ 32 = omega (arith, ap (λ (x : SessionState). x.datime) v) in
    let head : c.in_ok-head.head ≡ head_now s new.branches =
    c.in_ok-head.ensures ∙ ap (new_head c.classes-classes.result.now) c.as_slice-2.ensures ∙ ap (λ (l : List ClassDef). new_head l new.branches) (c.classes-classes.ensures ∙ ap (λ (x : SessionState). x.classes) v) in
    let header : c.in_ok-header.header ≡ header_size new.name new.branches = c.in_ok-header.ensures ∙ (λ i. header_size (c.as_slice-3.ensures i) (stated_defs (head i).branches)) ∙ bytes_are s new own in
    omega (arith, header, size_low s new own, c.in_ok-list_length.ensures.low)

pub plan-requires : goal.plan-requires
plan-requires g c =
    let s = c.args.self.now in
    let new = c.args.new in
    let own = c.requires.can in
    let v = c.self.view_is in
    let are : StateClasses s.classes = subst StateClasses (ap (λ (x : SessionState). x.classes) v) c.self.invariant.classes in
    let soon : s.datime < 2 ^ 32 = omega (arith, ap (λ (x : SessionState). x.datime) v) in
    let head : c.in_ok-head.head ≡ head_now s new.branches =
    c.in_ok-head.ensures ∙ ap (new_head c.classes-classes.result.now) c.as_slice-2.ensures ∙ ap (λ (l : List ClassDef). new_head l new.branches) (c.classes-classes.ensures ∙ ap (λ (x : SessionState). x.classes) v) in
    let header : c.in_ok-header.header ≡ header_size new.name new.branches = c.in_ok-header.ensures ∙ (λ i. header_size (c.as_slice-3.ensures i) (stated_defs (head i).branches)) ∙ bytes_are s new own in
    let low = first_low s.info c.in_ok-list_length.list_length c.in_ok-list_length.ensures.low in
    let sum_low = planned_sum s new own c.headers_have_records.ensures are soon c.first_list_length-list.result c.in_ok-list_length.list_length c.in_ok-header.header c.in_ok-list_length.ensures.exact c.first_list_length-list.ensures header
    (subst (λ (o : Option ℕ). IfSome o (λ k. k ≤ 16777216)) (sym c.first_list_length-list.ensures) low) in
    subst (λ (l : List ℕ). sum l < 2 ^ 64) (sym (c.in_ok-lengths.ensures ∙ ap (λ (x : List ℕ). lengths_with c.first_list_length-list.result x c.in_ok-header.header) c.as_slice-4.ensures)) sum_low

pub make_tree-requires-clause-places : goal.make_tree-requires-clause-places
make_tree-requires-clause-places g c =
    let s = c.args.self.now in
    let new = c.args.new in
    let own = c.requires.can in
    let v = c.self.view_is in
    let are : StateClasses s.classes = subst StateClasses (ap (λ (x : SessionState). x.classes) v) c.self.invariant.classes in
    let soon : s.datime < 2 ^ 32 = omega (arith, ap (λ (x : SessionState). x.datime) v) in
    let head : c.in_ok-head.head ≡ head_now s new.branches =
    c.in_ok-head.ensures ∙ ap (new_head c.classes-classes.result.now) c.as_slice-2.ensures ∙ ap (λ (l : List ClassDef). new_head l new.branches) (c.classes-classes.ensures ∙ ap (λ (x : SessionState). x.classes) v) in
    let header : c.in_ok-header.header ≡ header_size new.name new.branches = c.in_ok-header.ensures ∙ (λ i. header_size (c.as_slice-3.ensures i) (stated_defs (head i).branches)) ∙ bytes_are s new own in
    let lengths : c.in_ok-lengths.lengths ≡ (making_now s new.name new.branches).lengths =
    c.in_ok-lengths.ensures ∙ ap (λ (x : List ℕ). lengths_with c.first_list_length-list.result x c.in_ok-header.header) c.as_slice-4.ensures
    ∙ planned_lengths s new own c.headers_have_records.ensures are soon c.first_list_length-list.result c.in_ok-list_length.list_length c.in_ok-header.header c.in_ok-list_length.ensures.exact c.first_list_length-list.ensures header in
    c.in-Ok.ensures.places ∙ (λ i. places_of (lengths i) (space_of (v i).segments))

pub make_tree-requires-clause-room : goal.make_tree-requires-clause-room
make_tree-requires-clause-room g c =
    let s = c.args.self.now in
    let new = c.args.new in
    let own = c.requires.can in
    let v = c.self.view_is in
    let are : StateClasses s.classes = subst StateClasses (ap (λ (x : SessionState). x.classes) v) c.self.invariant.classes in
    let soon : s.datime < 2 ^ 32 = omega (arith, ap (λ (x : SessionState). x.datime) v) in
    let head : c.in_ok-head.head ≡ head_now s new.branches =
    c.in_ok-head.ensures ∙ ap (new_head c.classes-classes.result.now) c.as_slice-2.ensures ∙ ap (λ (l : List ClassDef). new_head l new.branches) (c.classes-classes.ensures ∙ ap (λ (x : SessionState). x.classes) v) in
    let header : c.in_ok-header.header ≡ header_size new.name new.branches = c.in_ok-header.ensures ∙ (λ i. header_size (c.as_slice-3.ensures i) (stated_defs (head i).branches)) ∙ bytes_are s new own in
    let lengths : c.in_ok-lengths.lengths ≡ (making_now s new.name new.branches).lengths =
    c.in_ok-lengths.ensures ∙ ap (λ (x : List ℕ). lengths_with c.first_list_length-list.result x c.in_ok-header.header) c.as_slice-4.ensures
    ∙ planned_lengths s new own c.headers_have_records.ensures are soon c.first_list_length-list.result c.in_ok-list_length.list_length c.in_ok-header.header c.in_ok-list_length.ensures.exact c.first_list_length-list.ensures header in
    let need : c.need_with_tree-need.result ≡ need_of_tree s new.name (length (making_now s new.name new.branches).lengths) =
    c.need_with_tree-need.ensures ∙ ap (λ (x : List ℕ). need_of_tree s x (records_more c.first_list_length-list.result)) c.as_slice-5.ensures
    ∙ planned_need s new own c.headers_have_records.ensures are soon c.first_list_length-list.result c.in_ok-list_length.list_length c.in_ok-header.header c.in_ok-list_length.ensures.exact c.first_list_length-list.ensures header in
    let end = subst (λ (x : SessionState). end_after c.in_ok-lengths.lengths (space_of x.segments) ≤ c.saturating_sub.result) v c.in-Ok.ensures.fits in
    let room : is_full s.segments (making_now s new.name new.branches).lengths (need_of_tree s new.name (length (making_now s new.name new.branches).lengths)) ≡ false =
    subst (λ (x : List ℕ × ℕ). is_full s.segments x.0 x.1 ≡ false) (λ i. (lengths i, need i)) (plan_has_room s.segments c.in_ok-lengths.lengths c.need_with_tree-need.result c.saturating_sub.result c.saturating_sub.ensures end) in
    room

pub put_tree-requires-clause-can : goal.put_tree-requires-clause-can
put_tree-requires-clause-can g c =
    let none = c.position.ensures.none (none_from c.position.result (sym c.is_some.ensures ∙ c.if-is_some.false)) in
    let unnamed = none_named_so c.args.self.now c.self.inside.filled.trees (ap (λ (x : SessionState). x.trees) (sym c.self.view_is)) c.args.new.name (ap (λ (n : List ℕ). find (is_tree_of n) c.self.inside.filled.trees) (sym c.as_slice.ensures) ∙ none) in
    (c.args.new, c.requires.can, unnamed, c.in_ok-made-in-Ok.ensures)

pub returns-in-Ok-clause-does : goal.returns-in-Ok-clause-does
returns-in-Ok-clause-does g c command todo =
    let s = c.args.self.now in
    let new = c.args.new in
    let own = c.requires.can in
    let v = c.self.view_is in
    let are : StateClasses s.classes = subst StateClasses (ap (λ (x : SessionState). x.classes) v) c.self.invariant.classes in
    let soon : s.datime < 2 ^ 32 = omega (arith, ap (λ (x : SessionState). x.datime) v) in
    let head : c.in_ok-head.head ≡ head_now s new.branches =
    c.in_ok-head.ensures ∙ ap (new_head c.classes-classes.result.now) c.as_slice-2.ensures ∙ ap (λ (l : List ClassDef). new_head l new.branches) (c.classes-classes.ensures ∙ ap (λ (x : SessionState). x.classes) v) in
    let header : c.in_ok-header.header ≡ header_size new.name new.branches = c.in_ok-header.ensures ∙ (λ i. header_size (c.as_slice-3.ensures i) (stated_defs (head i).branches)) ∙ bytes_are s new own in
    let lengths : c.in_ok-lengths.lengths ≡ (making_now s new.name new.branches).lengths =
    c.in_ok-lengths.ensures ∙ ap (λ (x : List ℕ). lengths_with c.first_list_length-list.result x c.in_ok-header.header) c.as_slice-4.ensures
    ∙ planned_lengths s new own c.headers_have_records.ensures are soon c.first_list_length-list.result c.in_ok-list_length.list_length c.in_ok-header.header c.in_ok-list_length.ensures.exact c.first_list_length-list.ensures header in
    let need : c.need_with_tree-need.result ≡ need_of_tree s new.name (length (making_now s new.name new.branches).lengths) =
    c.need_with_tree-need.ensures ∙ ap (λ (x : List ℕ). need_of_tree s x (records_more c.first_list_length-list.result)) c.as_slice-5.ensures
    ∙ planned_need s new own c.headers_have_records.ensures are soon c.first_list_length-list.result c.in_ok-list_length.list_length c.in_ok-header.header c.in_ok-list_length.ensures.exact c.first_list_length-list.ensures header in
    let end = subst (λ (x : SessionState). end_after c.in_ok-lengths.lengths (space_of x.segments) ≤ c.saturating_sub.result) v c.in-Ok.ensures.fits in
    let room : is_full s.segments (making_now s new.name new.branches).lengths (need_of_tree s new.name (length (making_now s new.name new.branches).lengths)) ≡ false =
    subst (λ (x : List ℕ × ℕ). is_full s.segments x.0 x.1 ≡ false) (λ i. (lengths i, need i)) (plan_has_room s.segments c.in_ok-lengths.lengths c.need_with_tree-need.result c.saturating_sub.result c.saturating_sub.ensures end) in
    let sound : IsSoundState s = subst IsSoundState v (record { classes = c.self.invariant.classes; kept = c.self.invariant.kept }) in
    let cost : 600 + c.in_ok-list_length.list_length + 2 * c.in_ok-header.header ≡ 600 + info_size s.classes + 2 * header_size new.name new.branches = λ i. 600 + c.in_ok-list_length.ensures.exact i + 2 * header i in
    let text = c.as_slice-in-Ok-2.ensures ∙ c.in_ok-text-in-Ok.ensures ∙ ap (λ (n : List ℕ). reply_text c.args.replies (tree_made n 1)) c.as_slice-in-Ok.ensures in
    tree_is_done c.args.replies c.headers_have_records.ensures (g.H.Host.view c.args.host.now) (g.H.Host.view c.put_tree.new.host) s c.put_tree.new.self (g.met.H.Host.lawful c.args.host.now) (g.met.H.Host.lawful c.put_tree.new.host)
    c.requires.ready c.requires.fresh sound soon c.put_tree.result new own (600 + c.in_ok-list_length.list_length + 2 * c.in_ok-header.header) cost command todo
    c.as_slice-in-Ok-2.result.now text room (c.put_tree.ensures.changes new.name new.branches c.in_ok-made-in-Ok.ensures) c.put_tree.ensures.outcome

pub returns-in-Err-Full-clause-does : goal.returns-in-Err-Full-clause-does
returns-in-Err-Full-clause-does g c command todo =
    let s = c.args.self.now in
    let new = c.args.new in
    let own = c.requires.can in
    let v = c.self.view_is in
    let are : StateClasses s.classes = subst StateClasses (ap (λ (x : SessionState). x.classes) v) c.self.invariant.classes in
    let soon : s.datime < 2 ^ 32 = omega (arith, ap (λ (x : SessionState). x.datime) v) in
    let head : c.in_ok-head.head ≡ head_now s new.branches =
    c.in_ok-head.ensures ∙ ap (new_head c.classes-classes.result.now) c.as_slice-2.ensures ∙ ap (λ (l : List ClassDef). new_head l new.branches) (c.classes-classes.ensures ∙ ap (λ (x : SessionState). x.classes) v) in
    let header : c.in_ok-header.header ≡ header_size new.name new.branches = c.in_ok-header.ensures ∙ (λ i. header_size (c.as_slice-3.ensures i) (stated_defs (head i).branches)) ∙ bytes_are s new own in
    let lengths : c.in_ok-lengths.lengths ≡ (making_now s new.name new.branches).lengths =
    c.in_ok-lengths.ensures ∙ ap (λ (x : List ℕ). lengths_with c.first_list_length-list.result x c.in_ok-header.header) c.as_slice-4.ensures
    ∙ planned_lengths s new own c.headers_have_records.ensures are soon c.first_list_length-list.result c.in_ok-list_length.list_length c.in_ok-header.header c.in_ok-list_length.ensures.exact c.first_list_length-list.ensures header in
    let need : c.need_with_tree-need.result ≡ need_of_tree s new.name (length (making_now s new.name new.branches).lengths) =
    c.need_with_tree-need.ensures ∙ ap (λ (x : List ℕ). need_of_tree s x (records_more c.first_list_length-list.result)) c.as_slice-5.ensures
    ∙ planned_need s new own c.headers_have_records.ensures are soon c.first_list_length-list.result c.in_ok-list_length.list_length c.in_ok-header.header c.in_ok-list_length.ensures.exact c.first_list_length-list.ensures header in
    let sound : IsSoundState s = subst IsSoundState v (record { classes = c.self.invariant.classes; kept = c.self.invariant.kept }) in
    let cost : 600 + c.in_ok-list_length.list_length + 2 * c.in_ok-header.header ≡ 600 + info_size s.classes + 2 * header_size new.name new.branches = λ i. 600 + c.in_ok-list_length.ensures.exact i + 2 * header i in
    let fault = subst (λ (x : SessionState). IsFull x.segments c.in_ok-lengths.lengths c.saturating_sub.result (Full c.in-Err-Full.end c.in-Err-Full.wanted)) v (subst (IsFull c.self.inside.chain.segments c.in_ok-lengths.lengths c.saturating_sub.result) c.in-Err-Full.field-0-is c.in-Err-Full.ensures.full) in
    let full : is_full s.segments (making_now s new.name new.branches).lengths (need_of_tree s new.name (length (making_now s new.name new.branches).lengths)) ≡ true =
    subst (λ (x : List ℕ × ℕ). is_full s.segments x.0 x.1 ≡ true) (λ i. (lengths i, need i)) (plan_lacks_room s.segments c.in_ok-lengths.lengths c.need_with_tree-need.result c.saturating_sub.result c.saturating_sub.ensures fault.0) in
    tree_is_full c.args.replies c.headers_have_records.ensures (g.H.Host.view c.args.host.now) (g.H.Host.view c.refuse.new.host) s c.refuse.new.self (g.met.H.Host.lawful c.args.host.now) (g.met.H.Host.lawful c.refuse.new.host)
    c.requires.ready c.requires.fresh sound soon c.refuse.result new own (600 + c.in_ok-list_length.list_length + 2 * c.in_ok-header.header) cost command todo
    c.in-Err-Full.end c.in-Err-Full.wanted fault.1 (fault.2 ∙ ap sum lengths) full c.refuse.ensures.says c.refuse.ensures.outcome
