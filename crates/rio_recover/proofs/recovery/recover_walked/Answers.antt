use Rattle.std.proofs.{Common.{◌≡◌, ◌∙◌, ◌+◌, ◌-◌, ◌^◌, List, Option, length, min, sym, ap, subst, arith}, lemmas.Result.{err_from_is_err_and}}
use Rattle.std.specs.List.{All, filter}
use Rattle.rio_key.specs.declared.head.KeyHead.{KeyHead}
use Rattle.rio_chain.specs.{Found.{IsShortKey}, Placing.{file_end}}
use Rattle.rio_dir.specs.Table.{AreOrdered}
use Rattle.rio_state.specs.{Closing.{name_in}, KeyedRecords.{info_key, is_top_key, keyed_records, top_keys}, Left.{info_head}}
use Rattle.rio_recover.specs.{Checks.{HasChecked}, Classes.{HasListCycle}, Keys.{keyed_by}, Recovered.{other_count}, Trees.{places_of}, TreeTable.{AreInOrder}}
use Rattle.rio_chain.specs.Keyed.{IsRecordKey}
use Rattle.rio_recover.specs.Keys.{HeadsRise}
use Rattle.rio_recover.proofs.Closables.{rise_later, rises}
use Rattle.rio_recover.proofs.{Gathering.{all_gathered}, Judging.{cause_alone_on}, LinkRecords.{all_stand}}
use Rattle.rio_recover.proofs.{Recovering.{has_room, name_short, no_room, some_room}, StateJudged.{state_refused}, WholeFile.{all_items, whole_file}}
use Rattle.rio_recover.proofs.recovery.recover_walked.Goals as goal

pub returns-in_err-state-clause-told : goal.returns-in_err-state-clause-told
returns-in_err-state-clause-told g c file links told chain same =
    let p = err_from_is_err_and c.from_residual-in_err-state.result c.from_residual-in_err-state.ensures.1 in
    rw (p.1, p.2)
    (state_refused links c.in_err-state.field-0.0 (c.in_err-state.ensures.told file (keyed_records links) told (all_stand file 100 links chain.chain.links_are) (c.as_slice-heads.ensures ∙ same)))

pub read_state-requires-clause-rising : goal.read_state-requires-clause-rising
read_state-requires-clause-rising g c =
    subst (HeadsRise 0) (sym c.as_slice-heads.ensures)
    (rise_later 0 100 c.args.walked.heads (omega arith) (rises IsRecordKey (λ place n head is. is.0.1) 100 c.args.walked.segments c.args.walked.heads c.requires.whole.shape.adjacent c.requires.whole.keyed))

pub returns-in_err-name-clause-told : goal.returns-in_err-name-clause-told
returns-in_err-name-clause-told g c file links told chain same =
    let p = err_from_is_err_and c.from_residual-in_err-name.result c.from_residual-in_err-name.ensures.1 in
    rw (p.1, p.2) tt

pub returns-in_err-name-clause-cause : goal.returns-in_err-name-clause-cause
returns-in_err-name-clause-cause g c =
    let p = err_from_is_err_and c.from_residual-in_err-name.result c.from_residual-in_err-name.ensures.1 in
    rw (p.1, p.2) c.in_ok-state.ensures.cause

pub check_room-requires-clause-name : goal.check_room-requires-clause-name
check_room-requires-clause-name g c =
    let long : length c.as_slice-2.result.now ≡ length (name_in (keyed_by c.args.walked.heads)) =
    ap length (c.as_slice-2.ensures ∙ c.in_ok-name.ensures ∙ ap (λ (hs : List KeyHead). name_in (keyed_by hs)) c.as_slice-heads.ensures) in
    omega (arith, long, name_short c.args.walked.heads c.requires.short)

pub check_room-requires-clause-short : goal.check_room-requires-clause-short
check_room-requires-clause-short g c =
    all_items IsShortKey _ c.as_slice-heads.result.now c.in_ok-state.state.check.items.heads c.in_ok-state.ensures.checked.items (subst (All IsShortKey) (sym c.as_slice-heads.ensures) c.requires.short)

pub returns-in_err-check_room-clause-told : goal.returns-in_err-check_room-clause-told
returns-in_err-check_room-clause-told g c file links told chain same =
    let walked = c.args.walked in
    let seen = c.as_slice-heads.ensures in
    let stand = all_stand file 100 links chain.chain.links_are in
    let state = c.in_ok-state.state in
    let items = c.in_ok-state.ensures.told file (keyed_records links) told stand (seen ∙ same) in
    let named = c.in_ok-name.ensures ∙ ap (λ (hs : List KeyHead). name_in (keyed_by hs)) seen in
    let counts = c.in_ok-info.ensures ∙ c.info_head.ensures ∙ ap (λ (hs : List KeyHead). info_head (info_key (keyed_by hs))) seen in
    let other = c.count_others.ensures ∙ (λ i. min (other_count (c.as_ref-2.ensures.value i) (c.as_slice-3.ensures.all i)) (2 ^ 64 - 1)) in
    let ends = c.end_of-end.ensures ∙ ap file_end c.as_slice.ensures in
    let p = err_from_is_err_and c.from_residual-in_err-check_room.result c.from_residual-in_err-check_room.ensures.1 in
    rw (p.1, p.2)
    (no_room file links walked chain same state items c.in_ok-name.name named c.in_ok-info.info counts c.end_of-end.result ends c.as_slice-2.result.now c.as_slice-2.ensures {X = Unit {0}}
    c.in_err-check_room.field-0.0 (λ x. Unit {0}) (c.in_err-check_room.ensures.told (other_count c.in_ok-info.info state.check.trees) other))

pub returns-in_err-check_room-clause-cause : goal.returns-in_err-check_room-clause-cause
returns-in_err-check_room-clause-cause g c =
    let p = err_from_is_err_and c.from_residual-in_err-check_room.result c.from_residual-in_err-check_room.ensures.1 in
    rw (p.1, p.2)
    (cause_alone_on (Unit {0}) (Unit {0}) (g.H.Host.view c.args.host.now) (g.H.Host.view c.read_state.new.host) c.in_err-check_room.field-0.0 c.in_ok-state.ensures.cause c.in_err-check_room.ensures.alone)

pub returns-clause-told : goal.returns-clause-told
returns-clause-told g c file links told chain same =
    let walked = c.args.walked in
    let seen = c.as_slice-heads.ensures in
    let stand = all_stand file 100 links chain.chain.links_are in
    let state = c.in_ok-state.state in
    let items = c.in_ok-state.ensures.told file (keyed_records links) told stand (seen ∙ same) in
    let named = c.in_ok-name.ensures ∙ ap (λ (hs : List KeyHead). name_in (keyed_by hs)) seen in
    let counts = c.in_ok-info.ensures ∙ c.info_head.ensures ∙ ap (λ (hs : List KeyHead). info_head (info_key (keyed_by hs))) seen in
    let other = c.count_others.ensures ∙ (λ i. min (other_count (c.as_ref-2.ensures.value i) (c.as_slice-3.ensures.all i)) (2 ^ 64 - 1)) in
    let ends = c.end_of-end.ensures ∙ ap file_end c.as_slice.ensures in
    let room = some_room file links walked chain same state items c.in_ok-name.name named c.in_ok-info.info counts c.end_of-end.result ends c.as_slice-2.result.now c.as_slice-2.ensures
    (c.in_ok-check_room.ensures.told (other_count c.in_ok-info.info state.check.trees) other).0 in
    let checked = subst (λ (hs : List KeyHead). HasChecked hs (filter is_top_key hs) state.check) seen c.in_ok-state.ensures.checked in
    all_gathered file links walked chain same state c.in_ok-name.name c.in_ok-info.info c.in_ok-gather.field-0 items room named counts c.in_ok-gather.ensures.parts
    (c.in_ok-gather.ensures.garbage (top_keys (keyed_by walked.heads)) (places_of state.check.trees) checked.names checked.named)

pub returns-clause-ordered : goal.returns-clause-ordered
returns-clause-ordered g c = subst AreOrdered (λ i. (sym c.in_ok-gather.ensures.parts.table i).heads) c.as_slice-ordered.ensures.ordered

pub returns-clause-named : goal.returns-clause-named
returns-clause-named g c = subst AreInOrder (sym c.in_ok-gather.ensures.parts.trees) c.as_slice-named.ensures.ordered

pub returns-clause-room : goal.returns-clause-room
returns-clause-room g c =
    let state = c.in_ok-state.state in
    let other = c.count_others.ensures ∙ (λ i. min (other_count (c.as_ref-2.ensures.value i) (c.as_slice-3.ensures.all i)) (2 ^ 64 - 1)) in
    let ends = c.end_of-end.ensures ∙ ap file_end c.as_slice.ensures in
    has_room c.args.walked c.in_ok-name.name c.as_slice-2.result.now c.in_ok-info.info state c.in_ok-gather.field-0 c.end_of-end.result c.in_ok-gather.ensures.parts ends
    c.as_slice-2.ensures (c.in_ok-check_room.ensures.told (other_count c.in_ok-info.info state.check.trees) other).0

pub returns-clause-whole : goal.returns-clause-whole
returns-clause-whole g c =
    let seen = c.as_slice-heads.ensures in
    let walked = c.args.walked in
    let state = c.in_ok-state.state in
    let named = c.in_ok-name.ensures ∙ ap (λ (hs : List KeyHead). name_in (keyed_by hs)) seen in
    let counts = c.in_ok-info.ensures ∙ c.info_head.ensures ∙ ap (λ (hs : List KeyHead). info_head (info_key (keyed_by hs))) seen in
    let checked = subst (λ (hs : List KeyHead). HasChecked hs (filter is_top_key hs) state.check) seen c.in_ok-state.ensures.checked in
    let listed = subst (λ (o : Option KeyHead). HasListCycle o state.registry) c.as_ref.ensures.value c.in_ok-state.ensures.listed in
    whole_file walked c.requires.whole c.in_ok-name.name c.in_ok-info.info state c.in_ok-gather.field-0 c.in_ok-gather.ensures.parts checked c.in_ok-state.ensures.classes listed counts named
    (c.in_ok-gather.ensures.garbage (top_keys (keyed_by walked.heads)) (places_of state.check.trees) checked.names checked.named)
