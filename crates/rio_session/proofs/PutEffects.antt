-- What the record of a put makes of the state that a session stands for.
use Rattle.std.proofs.Common.{◌≡◌, ◌==◌, ◌&&◌, inl, ℕ, ◌+◌, ◌<◌, ◌≤◌, ◌^◌, List, length, map, None, true, false, refl, sym, ap, subst, ◌∙◌, arith}
use Rattle.std.proofs.lemmas.Bool.{eqb-true}
use Rattle.rio_num.specs.Word.{is_item_text}
use Rattle.rio_key.specs.declared.head.KeyHead.{KeyHead}
use Rattle.rio_format.specs.declared.value.Value.{Value}
use Rattle.rio_chain.specs.{Adjoining.{AreSegments}, Changes.{with_record}, Placing.{IsPlaceFor, place_of}, Segments.{Link, segment_of}}
use Rattle.rio_model.specs.StateClasses.{StateClasses}
use Rattle.rio_machine.specs.{State.{State}, declared.command.Command.TheVariants.{Put}}
use Rattle.rio_state.specs.{Closing.{held_with, kept_in, kept_with}, DirectoryKeys.{AreKeysOf}, KeyedRecords.{begins_at, info_key, is_top_key, keyed_records, top_keys, tree_records}, Left.{info_head}, OneMore.{HasOneMoreIn, keyed_bytes}, Reads.{AreRecordsOf}, TreeLengths.{none_pending, pending_in}}
use Rattle.rio_state.proofs.{Insertion.{filter_more}, Members.{none_from}, MoreRecords.{record_more}, ObjectStands.{trees_same}, Stays.{info_stays}}
use Rattle.rio_step.specs.{Costs.{cost_of}, Refusing.{refusal_of}, Runs.{saved_of}, Step.{state_behind}}
use Rattle.rio_effect.specs.{Laws.{IsPutRecord}, More.{KeepsOneMore}, ObjectRecord.{key_of_put, object_key, record_of_put}}
use Rattle.rio_effect.proofs.{AllItems.{items_stay_with}, FileChanges.{put_length}, Held.{chain_segments, held_grows}, Needs.{need_grows}, OldLists.{place_apart}, PutEffect.{puts_have_records, saved_put_takes_effect}, PutKeys.{saved_put_key_follows}}
use Rattle.rio_close.proofs.Fitting.{count_with, place_low}
use Rattle.rio_recover.specs.Trees.{AreTreesOf}
use Rattle.rio_session.specs.{Effects.{IsKeptAfter, TakesEffect, links_by}, Kept.{kept_by, place_of_put}}
use Rattle.rio_effect.specs.BasketRuns.{places_put}
use Rattle.rio_session.specs.{Fills.{put_in}, Session.{HoldsPutRows, HoldsState, SessionState}, SessionState.{headers_of}, Sound.{IsSoundState}}
use Rattle.rio_session.proofs.{RowsBeside.{hold_with}, RowsStay.{rows_stay, say_alike}, FillableBehind.{fillable_behind}, TreesOfFile.{headers_still}}

module _ (s : SessionState) (m : State) (file : List ℕ) (h : HoldsState s m file) (sound : IsSoundState s) (fresh : s.failed ≡ false) (soon : s.datime < 2 ^ 32)
    (name : List ℕ) (v : Value) (named : is_item_text name ≡ true) (free : refusal_of m (Put name v) None ≡ None) where
  abbrev at : ℕ
  at = place_of_put s m name v

  abbrev bytes : List ℕ
  bytes = record_of_put m (place_of_put s m name v) s.datime name v

  abbrev key : KeyHead
  key = key_of_put m (place_of_put s m name v) s.datime name v

  abbrev after : List Link
  after = with_record (place_of_put s m name v) (record_of_put m (place_of_put s m name v) s.datime name v) h.links

  shape : AreSegments s.segments
  shape = subst AreSegments (sym h.chain.same) (chain_segments file h.links h.chain.chain)

  -- the place of the rule is before END
  pub put_low : place_of_put s m name v < 2 ^ 32
  put_low = omega (arith, place_low s.segments at (length (record_of_put m 0 s.datime name v)) shape refl, (sound.kept fresh).closable.room)

  -- the record is as long wherever it is
  pub put_placed : place_of_put s m name v ≡ place_of (map segment_of h.links) (length (record_of_put m (place_of_put s m name v) s.datime name v))
  put_placed =
      let long : length (record_of_put m 0 s.datime name v) ≡ length bytes = sym (put_length m 0 s.datime name v) ∙ put_length m at s.datime name v in
      λ i. place_of (h.chain.same i) (long i)

  pub put_classes : StateClasses m.classes
  put_classes = subst StateClasses (sym h.stands.classes) sound.classes

  placed : IsPlaceFor (map segment_of h.links) (length (record_of_put m (place_of_put s m name v) s.datime name v)) (place_of_put s m name v)
  placed = inl put_placed

  -- no record begins there
  pub put_free : begins_at (keyed_records h.links) (place_of_put s m name v) ≡ false
  put_free = none_from (λ r. r.head.seek == at) (keyed_records h.links) (λ r i same. place_apart file at (length bytes) r h.links h.chain.chain placed i (eqb-true r.head.seek at same))

  pr : IsPutRecord m (place_of_put s m name v) s.datime name v
  pr = puts_have_records m at s.datime name v None put_low soon put_classes named free

  grows : KeepsOneMore (kept_with (pending_in m) h.links) (kept_with (pending_in m) after) key
  grows = need_grows (pending_in m) file h.links at bytes key h.chain.chain pr.read pr.key.top pr.key.object

  pub put_named : (kept_in (with_record (place_of_put s m name v) (record_of_put m (place_of_put s m name v) s.datime name v) h.links)).name ≡ (kept_in h.links).name
  put_named = (need_grows none_pending file h.links at bytes key h.chain.chain pr.read pr.key.top pr.key.object).name

  records_after : AreRecordsOf (keyed_records after) (saved_of (state_behind m (Put name v)))
  records_after = saved_put_takes_effect h.links m at s.datime name v None put_low soon put_free h.records named free

  keys_after : AreKeysOf (keyed_records after) (kept_by s m (Put name v)).heads
  keys_after = saved_put_key_follows h.links m s.heads at s.datime name v None put_low soon h.records named free h.keys

  more : HasOneMoreIn (keyed_records h.links) (keyed_records after) (keyed_bytes key bytes)
  more = record_more h.links at bytes key pr.read

  pub put_info : info_key (keyed_records (with_record (place_of_put s m name v) (record_of_put m (place_of_put s m name v) s.datime name v) h.links)) ≡ info_key (keyed_records h.links)
  put_info = info_stays (keyed_records h.links) (keyed_records after) (keyed_bytes key bytes) more pr.key.other

  put_headers : tree_records (top_keys (keyed_records after)) ≡ tree_records (top_keys (keyed_records h.links))
  put_headers =
      let tops = filter_more (λ r. is_top_key r.head) (keyed_bytes key bytes) (keyed_records h.links) (keyed_records after) more pr.key.top in
      trees_same (top_keys (keyed_records h.links)) (top_keys (keyed_records after)) (keyed_bytes key bytes) tops pr.key.object

  -- the new record stands where no basket does
  put_rows : HoldsPutRows (kept_by s m (Put name v)) (state_behind m (Put name v)) after
  unfolding object_key
  put_rows =
      rows_stay s (kept_by s m (Put name v)) m (state_behind m (Put name v)) h.links after (say_alike h.links after put_info put_headers) refl refl (λ own x there. refl)
      (λ own. hold_with (keyed_records h.links) (keyed_records after) (keyed_bytes key bytes) more (put_free) (places_put (put_in s.trees own))) h.rows

  pub put_trees : AreTreesOf (keyed_records (with_record (place_of_put s m name v) (record_of_put m (place_of_put s m name v) s.datime name v) h.links)) (headers_of s)
  put_trees = headers_still (keyed_records h.links) (keyed_records after) (headers_of s) put_info put_headers h.trees

  held_after : held_with (pending_in m) after ≤ held_with (pending_in m) h.links + cost_of m (Put name v)
  held_after = held_grows (pending_in m) file h.links m at s.datime name v put_low soon h.chain.chain placed put_classes named free

  pub put_is_kept : IsKeptAfter s m (Put name v) h.links (with_record (place_of_put s m name v) (record_of_put m (place_of_put s m name v) s.datime name v) h.links)
  put_is_kept = record {
    keys = keys_after;
    records = records_after;
    trees = put_trees;
    items = items_stay_with h.links at bytes key pr.read (inl (λ i. pr.key.top i && pr.key.object i)) h.items;
    fillable = fillable_behind m (Put name v) named free h.fillable;
    rows = put_rows;
    opens = h.opens;
    info = h.info ∙ ap info_head (sym put_info);
    name = put_named;
    count = grows.count ∙ ap (λ (n : ℕ). n + 1) h.count ∙ sym (count_with at (length bytes) s.segments);
    held = held_after;
  }

  pub put_takes_effect_on : TakesEffect s m (Put name v) h.links
  put_takes_effect_on = record {
    turn = 0;
    within = omega arith;
    early = λ k low passed.
        let none : 0 ≡ k = omega (arith, low) in
        subst (λ (n : ℕ). AreRecordsOf (keyed_records (links_by s m (Put name v) n h.links)) (saved_of m)) none h.records;
    late = λ k later low passed.
        let one : 1 ≡ k = omega (arith, later, low) in
        subst (λ (n : ℕ). AreRecordsOf (keyed_records (links_by s m (Put name v) n h.links)) (saved_of (state_behind m (Put name v)))) one records_after;
    ends = λ passed. put_is_kept;
  }
