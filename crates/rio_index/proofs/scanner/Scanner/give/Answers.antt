use Rattle.std.proofs.Common.{◌≡◌, ◌<◌, ◌∙◌, ◌++◌, ℕ, List, length, drop, take, Some, slice_set, subst, sym, ap, arith}
use Rattle.std.proofs.lemmas.List.{append-nil, drop_all, take_all}
use Rattle.rio_tree.specs.declared.head.Branch.{Branch}
use Rattle.rio_index.specs.{Scan.{CanGoOn, IsWanted, RowScan, baskets_at, first_entry, holding, lane_at, wanting}, declared.lane.Lane.{Lane}}
use Rattle.rio_index.proofs.GivenLaws.{given_fewer, given_goes_on, given_within}
use Rattle.rio_index.proofs.scanner.Scanner.give.Goals as goal

pub hold-requires : goal.hold-requires
hold-requires c =
    let inside = c.self.inside in
    let seen : RowScan = record { head = inside.head; lanes = inside.lanes.items; next = inside.next } in
    let wanted = subst (λ (s : RowScan). IsWanted s c.args.branch c.args.basket (length c.args.entries)) (sym c.self.view_is) c.requires in
    let within = given_within seen c.args.branch c.args.basket c.args.entries c.self.invariant.going wanted in
    let same = ap (λ (lanes : List Lane). length lanes) c.as_mut_slice.ensures.value in
    omega (arith, within, same)

lanes_are : (branches : List Branch) (lanes slice : List Lane) (branch basket first : ℕ) (es : List (List ℕ)) → slice ≡ lanes → first ≡ first_entry (baskets_at branches branch) basket
    → slice_set slice branch (record (lane_at slice branch) { held = Some (record { first = first; entries = es }) }) ≡ slice_set lanes branch (record (lane_at lanes branch) { held = Some (record { first = first_entry (baskets_at branches branch) basket; entries = es }) })
lanes_are branches lanes slice branch basket first es e f =
    ap (λ (now : List Lane). slice_set now branch (record (lane_at now branch) { held = Some (record { first = first; entries = es }) })) e
    ∙ ap (λ (n : ℕ). slice_set lanes branch (record (lane_at lanes branch) { held = Some (record { first = n; entries = es }) })) f

-- all items are written through the slice
all_written : (len : ℕ) (new old : List Lane) → len ≡ length old → length new ≡ length old → take len (new ++ drop (length new) old) ≡ new
all_written len new old whole e =
    ap (λ (rest : List Lane). take len (new ++ rest)) (drop_all (length new) old (omega (arith, e)))
    ∙ ap (take len) (append-nil new) ∙ take_all len new (omega (arith, e, whole))

pub invariant_of-self : goal.invariant_of-self
invariant_of-self c =
    let inside = c.self.inside in
    let seen : RowScan = record { head = inside.head; lanes = inside.lanes.items; next = inside.next } in
    let wanted = subst (λ (s : RowScan). IsWanted s c.args.branch c.args.basket (length c.args.entries)) (sym c.self.view_is) c.requires in
    let goes = given_goes_on seen c.args.branch c.args.basket c.args.entries c.self.invariant.going wanted in
    let first = c.first_entry-first.ensures ∙ ap (λ (bs : List Branch). first_entry (baskets_at bs c.args.branch) c.args.basket) c.as_slice.ensures in
    let lanes = c.hold.ensures ∙ lanes_are inside.head.branches inside.lanes.items c.as_mut_slice.result.now c.args.branch c.args.basket c.first_entry-first.result c.args.entries c.as_mut_slice.ensures.value first in
    let kept : length c.hold.new.lanes ≡ length inside.lanes.items = omega (arith, c.hold.auto.lanes, ap (λ (lanes : List Lane). length lanes) c.as_mut_slice.ensures.value) in
    let all = all_written inside.lanes.len c.hold.new.lanes inside.lanes.items inside.lanes.ok.0 kept ∙ lanes in
    record {
      going = subst (λ (lanes : List Lane). CanGoOn inside.head.entries inside.head.branches lanes) (sym all) goes;
      counted = c.self.invariant.counted;
    }

pub returns-clause-fewer : goal.returns-clause-fewer
returns-clause-fewer c =
    let inside = c.self.inside in
    let seen : RowScan = record { head = inside.head; lanes = inside.lanes.items; next = inside.next } in
    let wanted = subst (λ (s : RowScan). IsWanted s c.args.branch c.args.basket (length c.args.entries)) (sym c.self.view_is) c.requires in
    let less = given_fewer seen c.args.branch c.args.basket c.args.entries c.self.invariant.going wanted in
    let first = c.first_entry-first.ensures ∙ ap (λ (bs : List Branch). first_entry (baskets_at bs c.args.branch) c.args.basket) c.as_slice.ensures in
    let lanes = c.hold.ensures ∙ lanes_are inside.head.branches inside.lanes.items c.as_mut_slice.result.now c.args.branch c.args.basket c.first_entry-first.result c.args.entries c.as_mut_slice.ensures.value first in
    let kept : length c.hold.new.lanes ≡ length inside.lanes.items = omega (arith, c.hold.auto.lanes, ap (λ (lanes : List Lane). length lanes) c.as_mut_slice.ensures.value) in
    let all = all_written inside.lanes.len c.hold.new.lanes inside.lanes.items inside.lanes.ok.0 kept ∙ lanes in
    let new = ap (λ (lanes : List Lane). let s : RowScan = record { head = inside.head; lanes = lanes; next = inside.next } in wanting s) all in
    let old = ap wanting c.self.view_is in
    subst (λ (n : ℕ). n < wanting c.args.self.now) (sym new) (subst (λ (n : ℕ). wanting (holding seen c.args.branch c.args.basket c.args.entries) < n) old less)
