use Rattle.std.proofs.Common.{◌≡◌, ◌∙◌, ◌<◌, ◌≤◌, ◌^◌, ◌-◌, ℕ, List, refl, sym, ap, subst, arith}
use Rattle.std.specs.Prelude.{slice_get}
use Rattle.rio_model.specs.StateClasses.{StateClasses}
use Rattle.rio_chain.specs.Adjoining.{AreSegments}
use Rattle.rio_tree.specs.{HeaderLength.{basket_count, header_length, header_size}, WrittenLaws.{stated_defs}, declared.head.TreeHead.{TreeHead}}
use Rattle.rio_effect.specs.TreeRecords.{header_key, header_record}
use Rattle.rio_fill.specs.{Fill.{TreeFill, defs_of, fill_of}, Heads.{CanBeFilled}}
use Rattle.rio_session.specs.{Due.{IsClosableWith}, Fills.{FilledTree, kept_tree_of}, Measures.{IsBoundedTree}, Session.{SessionState}, TreePlans.{head_now, header_place}}
use Rattle.rio_session.proofs.{TreeMaking.{can_list_first, header_low, header_there, tree_made}, TreePlanned.{bounded, can_be_filled, defs_then, header_short, kept_then}}
use Rattle.rio_session.proofs.session.Session.make_tree.Goals as goal

pub first_list-requires : goal.first_list-requires
first_list-requires c =
    let s = c.args.self.now in
    let v = c.self.view_is in
    let are : StateClasses s.classes = subst StateClasses (ap (λ (x : SessionState). x.classes) v) c.self.invariant.classes in
    let form : AreSegments s.segments = subst (λ (x : SessionState). AreSegments x.segments) v c.end-end.ensures.shape in
    let kept = c.self.invariant.kept (ap (λ (x : SessionState). x.failed) v ∙ c.requires.fresh) in
    can_list_first s are (omega (arith, c.time-datime.ensures)) c.headers_have_records.ensures c.args.new c.requires.new form c.args.places.now c.requires.places c.requires.room
    (subst (λ (x : SessionState). IsClosableWith x.segments x.heads x.trees x.info x.name) v kept)

pub header_record-requires-clause-place : goal.header_record-requires-clause-place
header_record-requires-clause-place c =
    let s = c.args.self.now in
    let v = c.self.view_is in
    let are : StateClasses s.classes = subst StateClasses (ap (λ (x : SessionState). x.classes) v) c.self.invariant.classes in
    let form : AreSegments s.segments = subst (λ (x : SessionState). AreSegments x.segments) v c.end-end.ensures.shape in
    let soon : s.datime < 2 ^ 32 = omega (arith, c.time-datime.ensures) in
    let low = header_low s are soon c.headers_have_records.ensures c.args.new c.requires.new form c.args.places.now c.requires.places c.requires.room in
    let there = header_there s are soon c.headers_have_records.ensures c.args.new c.requires.new form c.args.places.now c.requires.places c.requires.room in
    let place = c.place_at-place.ensures (header_place s c.args.new.name c.args.new.branches) (ap (λ (k : ℕ). slice_get c.args.places.now k) c.in_ok-first.ensures.count ∙ there) in
    omega (arith, place, low)

pub header_record-requires-clause-short : goal.header_record-requires-clause-short
header_record-requires-clause-short c =
    subst (λ (x : List ℕ × TreeHead). header_length x.0 (stated_defs x.1.branches) (basket_count x.1) < 2 ^ 30 - 200) (λ i. (sym c.as_slice.ensures i, sym c.requires.head i)) (header_short c.args.self.now c.args.new c.requires.new)

pub new-requires : goal.new-requires
new-requires c = subst CanBeFilled (sym c.requires.head) (can_be_filled c.args.self.now c.args.new c.requires.new)

pub invariant_of-tree : goal.invariant_of-tree
invariant_of-tree c =
    let s = c.args.self.now in
    let new = c.args.new in
    let filler : c.in_ok-filler.filler ≡ fill_of (head_now s new.branches) = c.in_ok-filler.ensures ∙ ap fill_of c.requires.head in
    record {
      header = c.requires.header ∙ ap (header_size new.name) (sym (defs_then s new c.requires.new) ∙ ap (λ (f : TreeFill). defs_of f.branches) (sym filler));
      bounded = subst (IsBoundedTree new.name) (sym filler) (bounded s new c.requires.new);
    }

pub returns : goal.returns
returns c =
    let s = c.args.self.now in
    let v = c.self.view_is in
    let new = c.args.new in
    let are : StateClasses s.classes = subst StateClasses (ap (λ (x : SessionState). x.classes) v) c.self.invariant.classes in
    let form : AreSegments s.segments = subst (λ (x : SessionState). AreSegments x.segments) v c.end-end.ensures.shape in
    let soon : s.datime < 2 ^ 32 = omega (arith, c.time-datime.ensures) in
    let there = header_there s are soon c.headers_have_records.ensures new c.requires.new form c.args.places.now c.requires.places c.requires.room in
    let place = c.place_at-place.ensures (header_place s new.name new.branches) (ap (λ (k : ℕ). slice_get c.args.places.now k) c.in_ok-first.ensures.count ∙ there) in
    let date : c.time-datime.result ≡ s.datime = c.time-datime.ensures in
    let r = c.in_ok-record.record in
    let head : r.head ≡ header_key c.place_at-place.result s.datime new.name 1 (head_now s new.branches) =
    c.in_ok-record.ensures.head ∙ (λ i. header_key c.place_at-place.result (date i) (c.as_slice.ensures i) 1 (c.requires.head i)) in
    let bytes : r.bytes.bytes ≡ header_record c.place_at-place.result s.datime new.name 1 (head_now s new.branches) =
    c.in_ok-record.ensures.bytes ∙ (λ i. header_record c.place_at-place.result (date i) (c.as_slice.ensures i) 1 (c.requires.head i)) in
    let filler : c.in_ok-filler.filler ≡ fill_of (head_now s new.branches) = c.in_ok-filler.ensures ∙ ap fill_of c.requires.head in
    let tree : ◌≡◌ {A = FilledTree} (record { name = new.name; fill = c.in_ok-filler.filler }) (record { name = new.name; fill = fill_of (head_now s new.branches) }) = λ i. record { name = new.name; fill = filler i } in
    tree_made s are soon c.headers_have_records.ensures new c.requires.new form c.args.places.now c.requires.places c.requires.room c.in_ok-first.first c.in_ok-first.ensures c.place_at-place.result place r.bytes bytes c.in_ok-record.ensures.spare c.in_ok-record.ensures.whole
    _ c.in_ok-puts.ensures refl head tree ((λ i. record { name = c.in_ok-own.ensures i; branches = new.branches; saved = 0; pending = 0 }) ∙ sym (ap kept_tree_of tree ∙ kept_then s new c.requires.new))
