-- A class command by the records of a file agrees with that by what is kept beside it.
use Rattle.std.proofs.Common.{◌≡◌, ℕ, ◌+◌, ◌<◌, ◌^◌, List, [], ◌∷◌, length, map, true, false, Option, Some, None, refl, sym, ap, ◌∙◌, arith}
use Rattle.rio_format.specs.declared.class.ClassDef.{ClassDef}
use Rattle.rio_key.specs.declared.head.KeyHead.{KeyHead}
use Rattle.rio_chain.specs.{Changes.{with_record}, Placing.{place_of, record_count, with_segment}, Segments.{Link, segment_of}, declared.key_words.KeyWords.{KeyWords}}
use Rattle.rio_chain.proofs.{FewerRecords.{keeps_segments}, PutChain.{map_with}}
use Rattle.rio_model.specs.Stated.{is_stated_class}
use Rattle.rio_machine.specs.{State.{State}, declared.command.Command.TheVariants.{Class}}
use Rattle.rio_state.specs.{Closing.{close_need, kept_with, padded_length}, KeyedRecords.{KeyedRecord, info_key, keyed_records}, Left.{info_head}, TreeLengths.{PendingRows, pending_in}}
use Rattle.rio_step.specs.{Costs.{info_size}, Refusing.{refusal_of, with_class}, Step.{state_behind}}
use Rattle.rio_recover.specs.Closable.{list_count}
use Rattle.rio_effect.specs.ClassRecord.{key_of_class, list_data, list_key_size, list_words, next_list_cycle, record_of_class}
use Rattle.rio_effect.specs.{Classes.{list_in}, FileRuns.{added, added_length, added_place, all_changed, changed, changes_of_class, lengths_of, mark_of_changes, release_of}}
use Rattle.rio_effect.proofs.{FileChanges.{class_bytes, class_length}, OldLists.{info_among, list_is_later, place_apart}}
use Rattle.rio_session.specs.{Items.{IsOfKeys}, Kept.{all_done, changes_by, kept_by, place_of_class, released_link, released_segment}, Marks.{command_lengths, mark_of_command, state_need}, Session.{HoldsState}, SessionState.{SessionState}, Sound.{IsSoundState}}
use Rattle.rio_session.proofs.{ClassEffects.{IsListed, class_listed, count_replaced, list_placed, opens_then, with_list}, FilledFiles.{AreFilled, all_begun}, ListsReleased.{list_released}}
use Rattle.rio_session.proofs.{Agreeing.{AgreesWithFile}, FileNeeds.{mark_by, mark_by_file, mark_by_kept, need_behind}, Needs.{baskets_counted}}
use Rattle.rio_session.proofs.ClassSteps.{class_stands}

-- ---- the release of the list before

same_release : (o : Option KeyedRecord) (links : List Link) → all_changed links (release_of o) ≡ all_done (released_link (info_head o)) links
same_release None links = refl
same_release (Some r) links = refl

released_segments : (o : Option KeyHead) (links : List Link) → map segment_of (all_done (released_link o) links) ≡ released_segment o (map segment_of links)
released_segments None links = refl
released_segments (Some k) links = keeps_segments links k.seek

-- it puts nothing
no_length : (o : Option KeyedRecord) → ◌≡◌ {A = List ℕ} (lengths_of (release_of o)) []
no_length None = refl
no_length (Some r) = refl

module _ (s : SessionState) (m : State) (file : List ℕ) (h : HoldsState s m file) (sound : IsSoundState s) (fresh : s.failed ≡ false) (soon : s.datime < 2 ^ 32)
    (class : ClassDef) (stated : is_stated_class class ≡ true) where
  abbrev all : List ClassDef
  all = with_class m.classes class

  abbrev words : KeyWords
  words = list_words 0 s.datime (next_list_cycle (list_in h.links))

  abbrev contents : List ℕ
  contents = list_data (list_words 0 s.datime (next_list_cycle (list_in h.links))) (with_class m.classes class)

  abbrev found : Option KeyedRecord
  found = info_key (keyed_records h.links)

  abbrev at : ℕ
  at = place_of_class s m class

  abbrev bytes : List ℕ
  bytes = record_of_class s.info m (place_of_class s m class) s.datime class

  abbrev more : List Link
  more = with_list s m class h.links

  -- the record is as long at each place
  long_is : (place : ℕ) → added_length words contents ≡ length (record_of_class s.info m place s.datime class)
  long_is place = class_length (list_in h.links) m place s.datime class ∙ ap (λ (o : Option KeyHead). length (record_of_class o m place s.datime class)) (sym h.info)

  -- the place by the records
  place_is : added_place h.links words contents ≡ place_of_class s m class
  place_is = λ i. place_of (sym h.chain.same i) (long_is 0 i)

  more_is : changed h.links (added words contents) ≡ more
  more_is =
      let place = added_place h.links words contents in
      ap (λ (b : List ℕ). with_record place b h.links) (class_bytes (list_in h.links) m place s.datime class)
      ∙ (λ i. with_record (place_is i) (record_of_class (sym h.info i) m (place_is i) s.datime class) h.links)

  class_done : all_changed h.links (changes_of_class s.datime found (with_class m.classes class)) ≡ all_done (changes_by s m (Class class)) h.links
  class_done =
      ap (λ (l : List Link). all_changed l (release_of found)) more_is
      ∙ same_release found more
      ∙ ap (λ (o : Option KeyHead). all_done (released_link o) more) (sym h.info)

  class_segments : map segment_of (all_changed h.links (changes_of_class s.datime found (with_class m.classes class))) ≡ (kept_by s m (Class class)).segments
  class_segments =
      ap (map segment_of) class_done
      ∙ released_segments s.info more
      ∙ ap (released_segment s.info) (map_with at bytes h.links ∙ ap (with_segment at (length bytes)) (sym h.chain.same))

  module _ (free : refusal_of m (Class class) None ≡ None) where
    listed : IsListed s m class h.links
    listed = class_listed s m file h sound fresh soon class stated free

    abbrev then_pending : PendingRows
    then_pending = pending_in (state_behind m (Class class))

    -- the list before is released, and the file keeps what it kept
    still_kept : (o : Option KeyedRecord) → info_key (keyed_records h.links) ≡ o → kept_with then_pending (all_done (released_link (info_head o)) more) ≡ kept_with then_pending more
    still_kept None none = refl
    still_kept (Some r) is =
        let its = info_among (keyed_records h.links) r is in
        let apart = place_apart file at (length (record_of_class (list_in h.links) m at s.datime class)) r h.links h.chain.chain (list_placed s m file h sound fresh soon class stated free) its.among in
        list_released file at bytes (key_of_class s.info m at s.datime class) listed.read r apart h.links h.chain.chain its.among its.key (list_is_later file h.links r h.chain.chain its) (listed.old r is) then_pending

    kept_same : kept_with then_pending (all_changed h.links (changes_of_class s.datime found (with_class m.classes class))) ≡ kept_with then_pending more
    kept_same =
        ap (λ (l : List Link). kept_with then_pending (all_changed l (release_of found))) more_is
        ∙ ap (kept_with then_pending) (same_release found more)
        ∙ still_kept found refl

    stands_then : IsOfKeys (kept_by s m (Class class)) (state_behind m (Class class))
    stands_then = record { classes = refl; keys = class_stands s m h.stands class; trees = h.stands.trees }

    count_then : record_count (kept_by s m (Class class)).segments + list_count s.info ≡ record_count s.segments + 1
    count_then = count_replaced s at (length bytes) (sound.kept fresh).closable.listed

    filled : AreFilled (kept_by s m (Class class)) (state_behind m (Class class)) more
    filled = record {
      records = listed.records;
      keys = listed.keys;
      trees = listed.trees;
      kept = h.stands.keys.kept;
      begun = all_begun s.trees (sound.kept fresh).sound;
      rows = listed.rows;
      opens = opens_then s m file h sound fresh soon class stated free;
      name = listed.name ∙ h.name;
      count = omega (arith, listed.count, h.count, count_then);
    }

    class_need : close_need (kept_with then_pending (all_changed h.links (changes_of_class s.datime found (with_class m.classes class)))) ≡ state_need s.name 1 s.trees (state_behind m (Class class))
    class_need =
        let kept = (sound.kept fresh).closable in
        ap close_need kept_same
        ∙ need_behind s m (Class class) more filled stands_then kept.sized refl refl (omega (arith, count_then, kept.count, baskets_counted s.trees))

    class_lengths : lengths_of (changes_of_class s.datime found (with_class m.classes class)) ≡ command_lengths s m (Class class)
    unfolding command_lengths
    class_lengths =
        let long : added_length words contents ≡ padded_length (list_key_size + info_size (with_class m.classes class)) = long_is at ∙ listed.long in
        let none = no_length found in
        λ i. long i ∷ none i

    class_mark : mark_of_changes (pending_in (state_behind m (Class class))) h.links (changes_of_class s.datime found (with_class m.classes class)) ≡ mark_of_command s m (Class class)
    class_mark =
        mark_by_file then_pending h.links (changes_of_class s.datime found (with_class m.classes class))
        ∙ (λ i. mark_by (sym h.chain.same i) (class_lengths i) (class_need i))
        ∙ sym (mark_by_kept s m (Class class))

pub class_agrees : (s : SessionState) (m : State) (file : List ℕ) (h : HoldsState s m file) → IsSoundState s → s.failed ≡ false → s.datime < 2 ^ 32 → (class : ClassDef) → is_stated_class class ≡ true
    → AgreesWithFile s m (Class class) h.links
class_agrees s m file h sound fresh soon class stated = record {
  changes = changes_of_class s.datime (info_key (keyed_records h.links)) (with_class m.classes class);
  changes_are = refl;
  done = λ free. class_done s m file h sound fresh soon class stated;
  segments = λ free. class_segments s m file h sound fresh soon class stated;
  puts = λ free name. refl;
  mark = class_mark s m file h sound fresh soon class stated;
}
