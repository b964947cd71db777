-- A batch by the records of a file agrees with that by what is kept beside it.
use Rattle.std.proofs.Common.{◌≡◌, ◌⊎◌, inl, inr, ℕ, ◌+◌, ◌<◌, ◌≤◌, ◌^◌, List, [], ◌∷◌, length, map, Bool, Option, Some, None, true, false, refl, sym, ap, ◌∙◌, arith}
use Rattle.std.proofs.lemmas.Bool.{cases_lt}
use Rattle.std.specs.{Prelude.{if◌then◌else◌, sum}, List.{sum_by}}
use Rattle.rio_key.specs.declared.head.KeyHead.{KeyHead}
use Rattle.rio_dir.specs.Table.{with_heads}
use Rattle.rio_chain.specs.{Changes.{with_records}, Placing.{file_end, place_of, record_count, with_segments}, Segments.{Link, segment_of}}
use Rattle.rio_chain.proofs.PutChain.{map_all}
use Rattle.rio_machine.specs.{State.{State}, declared.command.Command.TheVariants.{Batch}, declared.command.PutItem.{PutItem}}
use Rattle.rio_state.specs.{Closing.{close_need, end_limit, kept_with}, TreeLengths.{pending_in}}
use Rattle.rio_step.specs.{Refusing.{FullMark, refusal_of}, Statable.{is_statable}, Step.{state_behind}}
use Rattle.rio_effect.specs.FileRuns.{Change, all_changed, batch_added, batch_place, lengths_of, mark_of_changes}
use Rattle.rio_effect.specs.ObjectRecord.{keys_of_batch, records_of_batch, records_of_puts, size_of_batch}
use Rattle.rio_effect.proofs.FileChanges.{batch_size, records_are}
use Rattle.rio_recover.specs.Closable.{is_sized, list_count}
use Rattle.rio_session.specs.{Items.{IsOfKeys}, Kept.{kept_by, place_of_batch}, Marks.{basket_total, command_lengths, length_of_put, mark_of_command, state_need}, Session.{HoldsState, SessionState}, Sound.{IsSoundState}}
use Rattle.rio_session.proofs.{Agreeing.{AgreesWithFile}, BatchCounts.{all_with_all, count_with_all, length_with_all}, BatchEffects.{batch_classes, batch_is_kept, records_many}, BatchKeys.{batch_of_keys, batch_sized, keys_many}, BatchRoom.{batch_long, batch_long_at, batch_shape, full_past}}
use Rattle.rio_session.proofs.{FileNeeds.{mark_by, mark_by_file, mark_by_kept, need_behind}, FilledFiles.{all_begun, filled_after}, Needs.{baskets_counted}}

module _ (s : SessionState) (m : State) (file : List ℕ) (h : HoldsState s m file) (sound : IsSoundState s) (fresh : s.failed ≡ false) (soon : s.datime < 2 ^ 32)
    (puts : List PutItem) (statable : is_statable (Batch puts) ≡ true) where
  abbrev changes : List Change
  changes = batch_added (records_of_puts s.datime m puts) ∷ []

  abbrev at : ℕ
  at = place_of_batch s m puts

  abbrev records : List (List ℕ)
  records = records_of_batch m (place_of_batch s m puts) s.datime puts

  abbrev keys : List KeyHead
  keys = keys_of_batch m (place_of_batch s m puts) s.datime puts

  abbrev after : List Link
  after = with_records (place_of_batch s m puts) (records_of_batch m (place_of_batch s m puts) s.datime puts) h.links

  -- the place by the records
  place_is : batch_place h.links (records_of_puts s.datime m puts) ≡ place_of_batch s m puts
  place_is = λ i. place_of (sym h.chain.same i) (batch_size m 0 s.datime puts i)

  after_is : all_changed h.links (batch_added (records_of_puts s.datime m puts) ∷ []) ≡ after
  after_is =
      let p = batch_place h.links (records_of_puts s.datime m puts) in
      ap (λ (rs : List (List ℕ)). with_records p rs h.links) (records_are m p s.datime puts)
      ∙ ap (λ (q : ℕ). with_records q (records_of_batch m q s.datime puts) h.links) place_is

  segments_are : map segment_of (all_changed h.links (batch_added (records_of_puts s.datime m puts) ∷ [])) ≡ (kept_by s m (Batch puts)).segments
  segments_are = ap (map segment_of) after_is ∙ map_all records at h.links ∙ ap (with_segments at (map length records)) (sym h.chain.same)

  module _ (free : refusal_of m (Batch puts) None ≡ None) where
    abbrev n : ℕ
    n = sum_by (λ (p : PutItem). length_of_put m p.name p.value) puts

    batch_lengths_are : lengths_of (batch_added (records_of_puts s.datime m puts) ∷ []) ≡ command_lengths s m (Batch puts)
    unfolding command_lengths
    batch_lengths_are = ap (λ (k : ℕ). k ∷ []) (batch_long s m file h sound fresh soon puts statable free)

    -- what a close needs, where the records end below 2^32
    batch_need : at + size_of_batch m at s.datime puts < 2 ^ 32
        → close_need (kept_with (pending_in (state_behind m (Batch puts))) (all_changed h.links (batch_added (records_of_puts s.datime m puts) ∷ []))) ≡ state_need s.name (list_count s.info) s.trees (state_behind m (Batch puts))
    batch_need low =
        let kept = sound.kept fresh in
        let are = batch_classes s m file h sound fresh soon puts statable free low in
        let those : IsOfKeys (kept_by s m (Batch puts)) (state_behind m (Batch puts)) = batch_of_keys s m h.stands puts free are in
        let filled = filled_after s m (Batch puts) h.links after refl h.name (batch_is_kept s m file h sound fresh soon puts statable free low) those (all_begun s.trees kept.sound) in
        let count : record_count (kept_by s m (Batch puts)).segments ≡ 1 + list_count s.info + length (with_heads keys s.heads) + basket_total s.trees
        = omega (arith, count_with_all (map length records) at s.segments, records_many puts m at s.datime, keys_many puts m at s.datime, kept.closable.count, length_with_all keys s.heads, baskets_counted s.trees) in
        ap (λ (l : List Link). close_need (kept_with (pending_in (state_behind m (Batch puts))) l)) after_is
        ∙ need_behind s m (Batch puts) after filled those (all_with_all is_sized keys s.heads (batch_sized puts m at s.datime) kept.closable.sized) refl refl count

    file_mark : mark_of_changes (pending_in (state_behind m (Batch puts))) h.links changes
        ≡ mark_by s.segments (command_lengths s m (Batch puts)) (close_need (kept_with (pending_in (state_behind m (Batch puts))) (all_changed h.links changes)))
    file_mark =
        mark_by_file (pending_in (state_behind m (Batch puts))) h.links changes
        ∙ (λ i. mark_by (sym h.chain.same i) (batch_lengths_are i) (close_need (kept_with (pending_in (state_behind m (Batch puts))) (all_changed h.links changes))))

    -- else there is no room, whatever a close needs
    past_mark : end_limit < at + size_of_batch m at s.datime puts → (need : ℕ)
        → mark_by s.segments (command_lengths s m (Batch puts)) need ≡ Some (record { end = file_end s.segments; wanted = sum (command_lengths s m (Batch puts)) })
    unfolding command_lengths
    past_mark past need =
        let there : at ≡ place_of s.segments n = ap (place_of s.segments) (batch_long_at s m file h sound fresh soon puts statable free 0) in
        let long = batch_long_at s m file h sound fresh soon puts statable free at in
        let full = full_past s.segments n need (batch_shape s m file h sound fresh soon puts statable) (omega (arith, past, there, long)) in
        ap (λ (b : Bool). let x : Option FullMark = if b then Some (record { end = file_end s.segments; wanted = sum (n ∷ []) }) else None in x) full

    batch_mark : mark_of_changes (pending_in (state_behind m (Batch puts))) h.links (batch_added (records_of_puts s.datime m puts) ∷ []) ≡ mark_of_command s m (Batch puts)
    batch_mark = file_mark ∙ by (cases_lt end_limit (at + size_of_batch m at s.datime puts)) ∙ sym (mark_by_kept s m (Batch puts))
      where
        by : (end_limit < at + size_of_batch m at s.datime puts) ⊎ (at + size_of_batch m at s.datime puts ≤ end_limit)
            → mark_by s.segments (command_lengths s m (Batch puts)) (close_need (kept_with (pending_in (state_behind m (Batch puts))) (all_changed h.links changes)))
            ≡ mark_by s.segments (command_lengths s m (Batch puts)) (state_need s.name (list_count s.info) s.trees (state_behind m (Batch puts)))
        by (inl past) =
            past_mark past (close_need (kept_with (pending_in (state_behind m (Batch puts))) (all_changed h.links changes)))
            ∙ sym (past_mark past (state_need s.name (list_count s.info) s.trees (state_behind m (Batch puts))))
        by (inr low) = ap (mark_by s.segments (command_lengths s m (Batch puts))) (batch_need (omega (arith, low)))

  pub batch_agrees : AgreesWithFile s m (Batch puts) h.links
  batch_agrees = record {
    changes = changes;
    changes_are = refl;
    done = λ free. after_is;
    segments = λ free. segments_are;
    puts = λ free own. refl;
    mark = batch_mark;
  }
