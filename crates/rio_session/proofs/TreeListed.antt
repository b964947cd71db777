-- The class list is put in front of a tree's header where a file has none.
use Rattle.std.proofs.Common.{◌≡◌, inl, ℕ, zero, suc, ◌+◌, ◌%◌, ◌<◌, ◌≤◌, ◌^◌, ◌∙◌, List, [], ◌∷◌, length, map, take, false, Option, Some, None, refl, sym, ap, subst, arith}
use Rattle.rio_format.specs.{declared.class.ClassDef.{ClassDef}, Growth.{PicksStay}, TreeClasses.{tree_classes}}
use Rattle.rio_key.specs.declared.head.KeyHead.{KeyHead}
use Rattle.rio_chain.specs.{Adjoining.{AreSegments}, Changes.{with_record}, Placing.{IsPlaceFor, file_end, place_of, record_count, with_segment}, Segments.{IsChain, IsRecord, Link, segment_of}, declared.segment.Segment.{Segment}}
use Rattle.rio_model.specs.StateClasses.{HasShortList}
use Rattle.rio_machine.specs.State.{State}
use Rattle.rio_state.specs.{Contents.{file_classes}, KeyedRecords.{KeyedRecord, info_key, keyed_records, record_at}, Left.{info_head}, Reads.{AreRecordsOf}}
use Rattle.rio_step.specs.Runs.{saved_of}
use Rattle.rio_effect.specs.AllItems.{AreAllItems}
use Rattle.rio_effect.specs.Changes.{Change, added, added_length, all_changed, changed, lengths_of}
use Rattle.rio_effect.specs.{ClassRecord.{list_data, list_key, list_record, list_words}, TreeChanges.{list_if_none}, TreeMade.{HasFirstList, with_first_list}}
use Rattle.rio_effect.proofs.{FileChanges.{same_length, segments_follow}, FirstList.{first_list_is_put}, Held.{chain_segments}, PutEffect.{classes_of_records}}
use Rattle.rio_chain.proofs.{Laying.{laid_put}, Words.{whole_long, whole_small}}
use Rattle.rio_close.proofs.Fitting.{count_with, place_low, placed_low}
use Rattle.rio_recover.specs.Trees.{AreTreesOf}
use Rattle.rio_session.specs.{Fillings.{Done, LinksChange, listing_if_none, nothing_done}, Kept.{all_done}, Session.{HoldsState}, SessionState.{SessionState, headers_of}, Sound.{IsSoundState}}
use Rattle.rio_session.proofs.{EmptyList.{state_short}, FirstLists.{first_alike, first_counts, first_still, first_trees}, HeadersWritten.{tree_described}, PutFiles.{put_file}, RowsKept.{HoldStill}, RowsStay.{SayAlike, say_alike}}

-- what is kept on these links, with their class list
abbrev pub kept_on : SessionState → List Link → SessionState
kept_on s links = record s { segments = map segment_of links; info = info_head (info_key (keyed_records links)) }

-- What the class list, if it is put, makes of the records and of what is kept: they say the same, and the classes of trees are described.
pub record IsListed (s : SessionState) (m : State) (links : List Link) (d : Done) (cs : List Change) : Type 0 where
  pub records : AreRecordsOf (keyed_records (all_changed links cs)) (saved_of m)
  pub image : (file : List ℕ) × IsChain (all_changed links cs) file
  pub items : AreAllItems (all_changed links cs)
  pub shape : AreSegments (map segment_of (all_changed links cs))
  pub low : file_end (map segment_of (all_changed links cs)) < 2 ^ 32
  pub count : record_count (map segment_of (all_changed links cs)) ≡ record_count (map segment_of links) + length cs
  pub many : length d.changes ≡ length cs
  pub done : (k : ℕ) → all_done (take k d.changes) links ≡ all_changed links (take k cs)
  pub lengths : d.lengths ≡ lengths_of cs
  pub kept : d.kept ≡ kept_on s (all_changed links cs)
  pub alike : SayAlike links (all_changed links cs)
  pub still : (places : List ℕ) → HoldStill (record_at (keyed_records links)) (record_at (keyed_records (all_changed links cs))) places
  pub trees : AreTreesOf (keyed_records (all_changed links cs)) (headers_of s)
  pub described : PicksStay tree_classes (file_classes (info_key (keyed_records (all_changed links cs)))).described

-- ---- the record of the list

-- it is put where the rule places it
list_step : (links : List Link) (datime : ℕ) (classes : List ClassDef)
    → with_record (place_of (map segment_of links) (length (list_record 0 datime 1 classes))) (list_record (place_of (map segment_of links) (length (list_record 0 datime 1 classes))) datime 1 classes) links
    ≡ changed links (added (list_words 0 datime 1) (list_data (list_words 0 datime 1) classes))
unfolding list_record
list_step links datime classes = refl

pub list_long : (datime : ℕ) (classes : List ClassDef) → added_length (list_words 0 datime 1) (list_data (list_words 0 datime 1) classes) ≡ length (list_record 0 datime 1 classes)
unfolding list_record
list_long datime classes = refl

-- it is as long at each place
list_at : (place datime : ℕ) (classes : List ClassDef) → length (list_record place datime 1 classes) ≡ length (list_record 0 datime 1 classes)
unfolding list_record
list_at place datime classes = same_length place (list_words 0 datime 1) (list_data (list_words 0 datime 1) classes)

same_classes : (m : State) → (saved_of m).classes ≡ m.classes
unfolding saved_of
same_classes m = refl

module _ (s : SessionState) (m : State) (file : List ℕ) (h : HoldsState s m file) (sound : IsSoundState s) (fresh : s.failed ≡ false) (soon : s.datime < 2 ^ 32) where
  abbrev saved : State
  saved = saved_of m

  pub short : HasShortList m.classes
  short = subst HasShortList (same_classes m) (state_short (saved_of m).classes (classes_of_records (keyed_records h.links) (saved_of m) h.records))

  links_shape : AreSegments (map segment_of h.links)
  links_shape = chain_segments file h.links h.chain.chain

  links_end : file_end (map segment_of h.links) ≤ 1999999996
  links_end = omega (arith, ap file_end h.chain.same, (sound.kept fresh).closable.room)

  links_low : file_end (map segment_of h.links) < 2 ^ 32
  links_low = omega (arith, links_end)

  -- ---- where there is a list

  listed_before : (r : KeyedRecord) → info_key (keyed_records h.links) ≡ Some r → IsListed s m h.links (nothing_done s) []
  listed_before r is = record {
    records = h.records;
    image = (file, h.chain.chain);
    items = h.items;
    shape = chain_segments file h.links h.chain.chain;
    low = links_low;
    count = omega arith;
    many = refl;
    done = λ k. none k;
    lengths = refl;
    kept = λ i. record s { segments = h.chain.same i; info = h.info i };
    alike = say_alike h.links h.links refl refl;
    still = λ places offsets at entries i hold. hold;
    trees = h.trees;
    described = tree_described (keyed_records h.links) (saved_of m) r h.records is;
  }
    where
      none : (k : ℕ) → all_done (take k (nothing_done s).changes) h.links ≡ all_changed h.links (take k [])
      none zero = refl
      none (suc k) = refl

  -- ---- where there is none

  abbrev pub list_size : ℕ
  list_size = length (list_record 0 s.datime 1 m.classes)

  abbrev pub list_place : ℕ
  list_place = place_of (map segment_of h.links) (length (list_record 0 s.datime 1 m.classes))

  pub list_low : place_of (map segment_of h.links) (length (list_record 0 s.datime 1 m.classes)) < 2 ^ 32
  list_low = omega (arith, place_low (map segment_of h.links) list_place list_size links_shape refl, links_low)

  abbrev first : Change
  first = let words = list_words 0 s.datime 1 in added words (list_data words m.classes)

  abbrev listed : List Link
  listed = all_changed h.links (first ∷ [])

  module _ (none : info_key (keyed_records h.links) ≡ None) where
    rule : IsPlaceFor (map segment_of h.links) (length (list_record list_place s.datime 1 saved.classes)) list_place
    rule = inl (ap (place_of (map segment_of h.links)) (sym (ap (λ (cs : List ClassDef). length (list_record list_place s.datime 1 cs)) (same_classes m) ∙ list_at list_place s.datime m.classes)))

    its_short : HasShortList (saved_of m).classes
    its_short = subst HasShortList (sym (same_classes m)) short

    has : HasFirstList h.links (saved_of m) list_place s.datime
    has = first_list_is_put file h.links saved list_place s.datime list_low soon h.chain.chain h.records none its_short rule

    listed_is : with_record list_place (list_record list_place s.datime 1 saved.classes) h.links ≡ listed
    listed_is = ap (λ (cs : List ClassDef). with_record list_place (list_record list_place s.datime 1 cs) h.links) (same_classes m) ∙ list_step h.links s.datime m.classes

    -- the change
    abbrev by_segments : List Segment → Done
    by_segments segments = record {
      lengths = list_size ∷ [];
      changes = with_record (place_of segments list_size) (list_record (place_of segments list_size) s.datime 1 m.classes) ∷ [];
      kept = record s { segments = with_segment (place_of segments list_size) list_size segments; info = Some (list_key (place_of segments list_size) s.datime 1 m.classes) };
    }

    one_done : (k : ℕ) → all_done (take k (with_record list_place (list_record list_place s.datime 1 m.classes) ∷ [])) h.links ≡ all_changed h.links (take k (first ∷ []))
    one_done zero = refl
    one_done (suc zero) = list_step h.links s.datime m.classes
    one_done (suc (suc k)) = list_step h.links s.datime m.classes

    segments_then : with_segment list_place list_size (map segment_of h.links) ≡ map segment_of listed
    segments_then =
        ap (λ (n : ℕ). with_segment (place_of (map segment_of h.links) n) n (map segment_of h.links)) (sym (list_long s.datime m.classes)) ∙ sym (segments_follow h.links first)

    info_then : ◌≡◌ {A = Option KeyHead} (Some (list_key list_place s.datime 1 m.classes)) (info_head (info_key (keyed_records listed)))
    info_then =
        ap (λ (cs : List ClassDef). let o : Option KeyHead = Some (list_key list_place s.datime 1 cs) in o) (sym (same_classes m))
        ∙ sym has.info
        ∙ ap (λ (l : List Link). info_head (info_key (keyed_records l))) listed_is

    records_then : AreRecordsOf (keyed_records listed) (saved_of m)
    records_then = subst (λ (l : List Link). AreRecordsOf (keyed_records l) (saved_of m)) listed_is has.records

    described_then : PicksStay tree_classes (file_classes (info_key (keyed_records listed))).described
    described_then =
        let counts = first_counts file h.links saved list_place s.datime list_low soon h.chain.chain h.records none its_short in
        tree_described (keyed_records listed) (saved_of m) counts.0 records_then (ap (λ (l : List Link). info_key (keyed_records l)) (sym listed_is) ∙ counts.1)

    whole : IsRecord list_place (list_record list_place s.datime 1 m.classes)
    whole = subst (λ (cs : List ClassDef). IsRecord list_place (list_record list_place s.datime 1 cs)) (same_classes m) has.whole

    some : 4 ≤ list_size
    some = omega (arith, whole_long list_place (list_record list_place s.datime 1 m.classes) whole, list_at list_place s.datime m.classes)

    aligned : list_size % 4 ≡ 0
    aligned = ap (λ (n : ℕ). n % 4) (sym (list_at list_place s.datime m.classes)) ∙ whole.aligned

    shape_then : AreSegments (map segment_of listed)
    shape_then = subst AreSegments segments_then (laid_put (map segment_of h.links) list_size links_shape some aligned).0

    low_then : file_end (map segment_of listed) < 2 ^ 32
    low_then =
        let end = placed_low (map segment_of h.links) list_size links_shape some aligned in
        let small = whole_small list_place (list_record list_place s.datime 1 m.classes) whole in
        omega (arith, ap file_end segments_then, end, small, list_at list_place s.datime m.classes, links_end)

    image_then : (image : List ℕ) × IsChain listed image
    image_then =
        let put = put_file file h.links list_place (list_record list_place s.datime 1 m.classes) h.chain.chain whole (ap (place_of (map segment_of h.links)) (sym (list_at list_place s.datime m.classes))) in
        (put.0, subst (λ (l : List Link). IsChain l put.0) (list_step h.links s.datime m.classes) put.1)

    by_links : IsListed s m h.links (by_segments (map segment_of h.links)) (first ∷ [])
    unfolding by_segments
    by_links = record {
      records = records_then;
      image = image_then;
      items = subst AreAllItems listed_is (has.items h.items);
      shape = shape_then;
      low = low_then;
      count = ap record_count (sym segments_then) ∙ count_with list_place list_size (map segment_of h.links);
      many = refl;
      done = one_done;
      lengths = ap (λ (n : ℕ). n ∷ []) (sym (list_long s.datime m.classes));
      kept = λ i. record s { segments = segments_then i; info = info_then i };
      alike = subst (SayAlike h.links) listed_is (first_alike file h.links saved list_place s.datime list_low soon h.chain.chain h.records none its_short);
      still = λ places. subst (λ (l : List Link). HoldStill (record_at (keyed_records h.links)) (record_at (keyed_records l)) places) listed_is
          (first_still file h.links saved list_place s.datime list_low soon h.chain.chain h.records none its_short rule places);
      trees = subst (λ (l : List Link). AreTreesOf (keyed_records l) (headers_of s)) listed_is
          (first_trees file h.links saved list_place s.datime list_low soon h.chain.chain h.records none its_short (headers_of s) h.trees);
      described = described_then;
    }

    listed_first : IsListed s m h.links (listing_if_none s m None) (first ∷ [])
    unfolding by_segments
    listed_first = subst (λ (segments : List Segment). IsListed s m h.links (by_segments segments) (first ∷ [])) (sym h.chain.same) by_links

  -- ---- in each case

  pub listed_stands : IsListed s m h.links (listing_if_none s m s.info) (list_if_none s.datime (info_key (keyed_records h.links)) m.classes)
  listed_stands =
      subst (λ (o : Option KeyHead). IsListed s m h.links (listing_if_none s m o) (list_if_none s.datime (info_key (keyed_records h.links)) m.classes)) (sym h.info)
      (by (info_key (keyed_records h.links)) refl)
    where
      by : (o : Option KeyedRecord) → info_key (keyed_records h.links) ≡ o → IsListed s m h.links (listing_if_none s m (info_head o)) (list_if_none s.datime o m.classes)
      by None e = listed_first e
      by (Some r) e = listed_before r e
