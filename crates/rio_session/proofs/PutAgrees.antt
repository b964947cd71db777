-- A put by the records of a file agrees with that by what is kept beside it.
use Rattle.std.proofs.Common.{◌≡◌, ℕ, ◌+◌, ◌<◌, ◌^◌, List, [], ◌∷◌, length, map, None, true, false, refl, sym, ap, ◌∙◌, arith}
use Rattle.std.proofs.lemmas.Bool.{eq-eqb}
use Rattle.rio_num.specs.Word.{is_item_text}
use Rattle.rio_key.specs.{Written.{written_key}, declared.head.KeyHead.{KeyHead}}
use Rattle.rio_format.specs.declared.value.Value.{Value}
use Rattle.rio_dir.specs.Table.{with_head}
use Rattle.rio_chain.specs.{Changes.{with_record}, Placing.{place_of, record_count, with_segment}, Segments.{Link, segment_of}, declared.key_words.KeyWords.{KeyWords}, declared.segment.Segment.{Segment}}
use Rattle.rio_chain.proofs.Records.{key_long}
use Rattle.rio_model.specs.StateClasses.{StateClasses}
use Rattle.rio_machine.specs.{Limits.{head_length}, State.{State}, declared.command.Command.TheVariants.{Put}}
use Rattle.rio_state.specs.{Closing.{close_need, kept_with}, TreeLengths.{pending_in}}
use Rattle.rio_step.specs.{Refusing.{refusal_of}, Step.{state_behind}}
use Rattle.rio_effect.specs.FileRuns.{Change, added, added_length, added_place, all_changed, lengths_of, mark_of_changes}
use Rattle.rio_effect.specs.{Laws.{IsPutRecord}, ObjectRecord.{data_of_put, key_of_put, object_key, record_of_put, words_of_put}}
use Rattle.rio_effect.proofs.{FileChanges.{put_bytes, put_length, segments_follow}, PutEffect.{puts_have_records}}
use Rattle.rio_close.proofs.Fitting.{count_with}
use Rattle.rio_recover.specs.Closable.{is_sized, list_count}
use Rattle.rio_session.specs.{Items.{IsOfKeys}, Kept.{kept_by, place_of_put}, Marks.{basket_total, command_lengths, mark_of_command, state_need}, Session.{HoldsState, SessionState}, Sound.{IsSoundState}}
use Rattle.rio_session.proofs.{Agreeing.{AgreesWithFile}, FileNeeds.{mark_by, mark_by_file, mark_by_kept, need_behind}, FilledFiles.{all_begun, filled_after}, Keeps.{all_with, length_with}, Needs.{baskets_counted}}
use Rattle.rio_session.proofs.{PutEffects.{put_classes, put_is_kept, put_low}, PutKeys.{put_stands, put_tree_keys}}

module _ (s : SessionState) (m : State) (file : List ℕ) (h : HoldsState s m file) (sound : IsSoundState s) (fresh : s.failed ≡ false) (soon : s.datime < 2 ^ 32)
    (name : List ℕ) (v : Value) (named : is_item_text name ≡ true) where
  abbrev words : KeyWords
  words = words_of_put m 0 s.datime name v

  abbrev contents : List ℕ
  contents = data_of_put m 0 s.datime name v

  abbrev changes : List Change
  changes = added (words_of_put m 0 s.datime name v) (data_of_put m 0 s.datime name v) ∷ []

  abbrev at : ℕ
  at = place_of_put s m name v

  -- the place by the records
  place_is : added_place h.links (words_of_put m 0 s.datime name v) (data_of_put m 0 s.datime name v) ≡ place_of_put s m name v
  place_is = λ i. place_of (sym h.chain.same i) (put_length m 0 s.datime name v i)

  abbrev its_record : List ℕ
  its_record = record_of_put m (place_of_put s m name v) s.datime name v

  abbrev key : KeyHead
  key = key_of_put m (place_of_put s m name v) s.datime name v

  abbrev after : List Link
  after = with_record (place_of_put s m name v) (record_of_put m (place_of_put s m name v) s.datime name v) h.links

  after_is : all_changed h.links (added (words_of_put m 0 s.datime name v) (data_of_put m 0 s.datime name v) ∷ []) ≡ after
  after_is =
      let p = added_place h.links words contents in
      ap (λ (b : List ℕ). with_record p b h.links) (put_bytes m p s.datime name v)
      ∙ ap (λ (q : ℕ). with_record q (record_of_put m q s.datime name v) h.links) place_is

  segments_are : map segment_of (all_changed h.links (added (words_of_put m 0 s.datime name v) (data_of_put m 0 s.datime name v) ∷ [])) ≡ (kept_by s m (Put name v)).segments
  segments_are =
      segments_follow h.links (added words contents)
      ∙ ap (λ (x : List Segment). with_segment (place_of x (added_length words contents)) (added_length words contents) x) (sym h.chain.same)
      ∙ ap (λ (n : ℕ). with_segment (place_of s.segments n) n s.segments) (put_length m 0 s.datime name v)
      ∙ ap (λ (n : ℕ). with_segment at n s.segments) (sym (put_length m 0 s.datime name v) ∙ put_length m at s.datime name v)

  key_sized : is_sized key ≡ true
  unfolding object_key
  key_sized = eq-eqb (length (written_key key)) (head_length key.class key.name) (key_long (words_of_put m at s.datime name v) (length (data_of_put m at s.datime name v)))

  module _ (free : refusal_of m (Put name v) None ≡ None) where
    low : place_of_put s m name v < 2 ^ 32
    low = put_low s m file h sound fresh soon name v named free

    classes : StateClasses m.classes
    classes = put_classes s m file h sound fresh soon name v named free

    pr : IsPutRecord m (place_of_put s m name v) s.datime name v
    pr = puts_have_records m at s.datime name v None low soon classes named free

    put_need : close_need (kept_with (pending_in (state_behind m (Put name v))) (all_changed h.links (added (words_of_put m 0 s.datime name v) (data_of_put m 0 s.datime name v) ∷ [])))
        ≡ state_need s.name (list_count s.info) s.trees (state_behind m (Put name v))
    put_need =
        let kept = sound.kept fresh in
        let then : IsOfKeys (kept_by s m (Put name v)) (state_behind m (Put name v)) = record { classes = h.stands.classes; keys = put_stands s m h.stands name v free at classes; trees = put_tree_keys s m h.stands name v free at classes } in
        let filled = filled_after s m (Put name v) h.links after refl h.name (put_is_kept s m file h sound fresh soon name v named free) then (all_begun s.trees kept.sound) in
        let count : record_count (kept_by s m (Put name v)).segments ≡ 1 + list_count s.info + length (with_head key s.heads) + basket_total s.trees
        = omega (arith, count_with at (length its_record) s.segments, kept.closable.count, length_with key s.heads, baskets_counted s.trees) in
        ap (λ (l : List Link). close_need (kept_with (pending_in m) l)) after_is
        ∙ need_behind s m (Put name v) after filled then (all_with is_sized key s.heads key_sized kept.closable.sized) refl refl count

    put_lengths : lengths_of (added (words_of_put m 0 s.datime name v) (data_of_put m 0 s.datime name v) ∷ []) ≡ command_lengths s m (Put name v)
    unfolding command_lengths
    put_lengths = ap (λ (n : ℕ). n ∷ []) (put_length m at s.datime name v ∙ pr.long)

    put_mark : mark_of_changes (pending_in (state_behind m (Put name v))) h.links (added (words_of_put m 0 s.datime name v) (data_of_put m 0 s.datime name v) ∷ []) ≡ mark_of_command s m (Put name v)
    put_mark =
        mark_by_file (pending_in (state_behind m (Put name v))) h.links changes
        ∙ (λ i. mark_by (sym h.chain.same i) (put_lengths i) (put_need i))
        ∙ sym (mark_by_kept s m (Put name v))

  pub put_agrees : AgreesWithFile s m (Put name v) h.links
  put_agrees = record {
    changes = changes;
    changes_are = refl;
    done = λ free. after_is;
    segments = λ free. segments_are;
    puts = λ free own. refl;
    mark = put_mark;
  }
