-- What a session keeps is sound with the records of a batch.
use Rattle.std.proofs.Common.{◌≡◌, ◌∙◌, ℕ, ◌+◌, ◌<◌, ◌≤◌, true, List, [], ◌∷◌, length, map, Option, refl, sym, ap, subst, arith}
use Rattle.std.specs.{Prelude.{IfSome, sum}, List.{list_all, list_any}}
use Rattle.rio_key.specs.declared.head.KeyHead.{KeyHead}
use Rattle.rio_dir.specs.Table.{heads_size, with_head, with_heads}
use Rattle.rio_chain.specs.{Adjoining.{AreSegments}, Batches.{AreLengths}, declared.segment.Segment.{Segment}}
use Rattle.rio_chain.specs.Placing.{file_end, place_of, record_count, with_segment, with_segments}
use Rattle.rio_chain.proofs.PutsNoted.{HasRoomFor, lengths_of, noted, room_for_all}
use Rattle.rio_close.proofs.Fitting.{count_with}
use Rattle.rio_state.specs.Closing.{close_need, end_limit}
use Rattle.rio_recover.specs.{Closable.{IsClosable, begins_at, is_fit_key, is_owned, is_placed, is_sized, kept_with, list_count}, Whole.{HoldsDirectory}}
use Rattle.rio_session.specs.declared.batch.NewBatch.{NewBatch}
use Rattle.rio_session.specs.{Due.{IsClosableWith, need_with}, Fills.{FilledTree, places_of_trees}, SessionState.{SessionState}}
use Rattle.rio_session.specs.Puts.{AreNewKeys, CanPutAll, places_from}
use Rattle.rio_session.proofs.{BatchCounts.{count_with_all, place_rooms, size_with_all}, CloseRoom.{directory_stays}, FillSums.{need_bounds}, KeepsTrees.{with_saves}, Needs.{need_least}}
use Rattle.rio_session.proofs.Keeps.{all_owned, all_placed, all_with, length_with, listed_still, new_begins, stored_still}

-- ---- records and keys

-- what holds of records and keys wherever the file ends
record AreKept (segments : List Segment) (heads : List KeyHead) (info : Option KeyHead) (baskets : List ℕ) : Type 0 where
  sized : list_all is_sized heads ≡ true
  fit : list_all is_fit_key heads ≡ true
  placed : list_all (is_placed segments) heads ≡ true
  listed : IfSome info (λ h. is_placed segments h ≡ true)
  stored : list_all (λ p. list_any (begins_at p) segments) baskets ≡ true
  owned : list_all (is_owned info heads baskets) segments ≡ true
  count : record_count segments ≡ 1 + list_count info + length heads + length baskets

module _ (info : Option KeyHead) (baskets : List ℕ) where
  one_more : (segments : List Segment) (heads : List KeyHead) (n : ℕ) (h : KeyHead) → AreKept segments heads info baskets → is_sized h ≡ true → is_fit_key h ≡ true
      → AreKept (with_segment h.seek n segments) (with_head h heads) info baskets
  one_more segments heads n h kept sized fit = record {
    sized = all_with is_sized h heads sized kept.sized;
    fit = all_with is_fit_key h heads fit kept.fit;
    placed = all_with (is_placed (with_segment h.seek n segments)) h heads (new_begins h.seek n segments) (all_placed h.seek n segments heads kept.placed);
    listed = listed_still info h.seek n segments kept.listed;
    stored = stored_still h.seek n segments baskets kept.stored;
    owned = all_owned info h baskets n segments heads kept.owned;
    count = (let count = kept.count in omega (arith, count_with h.seek n segments, length_with h heads, count));
  }

  several_more : (hs : List KeyHead) (lengths : List ℕ) (place : ℕ) (segments : List Segment) (heads : List KeyHead) → map (λ h. h.seek) hs ≡ places_from place lengths → AreNewKeys heads hs
      → AreKept segments heads info baskets → AreKept (with_segments place lengths segments) (with_heads hs heads) info baskets
  several_more [] [] place segments heads places new kept = kept
  several_more [] (n ∷ lengths) place segments heads places new kept = absurd cc
  several_more (h ∷ hs) [] place segments heads places new kept = absurd cc
  several_more (h ∷ hs) (n ∷ lengths) place segments heads places new kept =
      let first : h.seek ≡ place = cc in
      let others : map (λ (k : KeyHead). k.seek) hs ≡ places_from (place + n) lengths = cc in
      let one = one_more segments heads n h kept new.1 new.2 in
      several_more hs lengths (place + n) (with_segment place n segments) (with_head h heads) others new.3
      (subst (λ (p : ℕ). AreKept (with_segment p n segments) (with_head h heads) info baskets) first one)

-- ---- segments

shape_all : (lengths : List ℕ) (place : ℕ) (segments : List Segment) → AreSegments segments → AreLengths lengths → HasRoomFor segments place lengths → AreSegments (with_segments place lengths segments)
shape_all [] place segments shape are room = shape
shape_all (n ∷ lengths) place segments shape are room =
    let one = noted segments place n lengths shape are room in
    shape_all lengths (place + n) (with_segment place n segments) one.shape are.2 one.room

directory_after : (nbytes_name : ℕ) (lengths : List ℕ) (place : ℕ) (segments : List Segment) → HoldsDirectory nbytes_name segments → HoldsDirectory nbytes_name (with_segments place lengths segments)
directory_after nbytes_name [] place segments within = within
directory_after nbytes_name (n ∷ lengths) place segments within =
    directory_after nbytes_name lengths (place + n) (with_segment place n segments) (directory_stays nbytes_name place n segments (with_segment place n segments) refl within)

-- the directory stays where it is
pub directory_stays_all : (nbytes_name place : ℕ) (lengths : List ℕ) (segments segments' : List Segment) → segments' ≡ with_segments place lengths segments → HoldsDirectory nbytes_name segments → HoldsDirectory nbytes_name segments'
directory_stays_all nbytes_name place lengths segments segments' put within = subst (HoldsDirectory nbytes_name) (sym put) (directory_after nbytes_name lengths place segments within)

-- ---- all of it

module _ (s : SessionState) (made : NewBatch) (can : CanPutAll s made) where
  -- the bytes of all keys are few
  pub key_bytes_all : heads_size s.heads + heads_size made.heads.items ≤ end_limit
  key_bytes_all =
      let room = can.room in
      let low = need_bounds s.name (with_heads made.heads.items s.heads) (record_count s.segments + length made.lengths) s.trees end_limit (omega (arith, room)) in
      let few = low.heads in
      omega (arith, few, size_with_all made.heads.items s.heads)

  -- and the file doesn't end too late
  pub ends_low : file_end (with_segments made.place made.lengths s.segments) ≤ end_limit
  ends_low = let room = can.room in omega (arith, room)

  module _ (info : Option KeyHead) (shape : AreSegments s.segments) (kept : IsClosableWith s.segments s.heads s.trees info s.name) where
    abbrev segments_then : List Segment
    segments_then = with_segments made.place made.lengths s.segments

    abbrev heads_then : List KeyHead
    heads_then = with_heads made.heads.items s.heads

    shape_then : AreSegments (with_segments made.place made.lengths s.segments)
    shape_then =
        let at = can.place ∙ ap (place_of s.segments) can.whole.long in
        shape_all made.lengths made.place s.segments shape (lengths_of made.place made.lengths made.records.bytes can.whole)
        (room_for_all s.segments made.place made.lengths (place_rooms s.segments (sum made.lengths) made.place shape at))

    are_kept : AreKept s.segments s.heads info (places_of_trees s.trees)
    are_kept = let k = kept.closable in record { sized = k.sized; fit = k.fit; placed = k.placed; listed = k.listed; stored = k.stored; owned = k.owned; count = k.count }

    kept_then : AreKept (with_segments made.place made.lengths s.segments) (with_heads made.heads.items s.heads) info (places_of_trees s.trees)
    kept_then = several_more info (places_of_trees s.trees) made.heads.items made.lengths made.place s.segments s.heads can.places can.new are_kept

    room_then : file_end segments_then + need_with s.name heads_then (record_count segments_then) s.trees ≤ end_limit
    room_then = subst (λ (k : ℕ). file_end segments_then + need_with s.name heads_then k s.trees ≤ end_limit) (sym (count_with_all made.lengths made.place s.segments)) can.room

    close_then : file_end segments_then + close_need (kept_with s.name heads_then (record_count segments_then)) ≤ end_limit
    close_then = omega (arith, room_then, need_least s.name heads_then (record_count segments_then) s.trees)

    closes_then : IsClosableWith (with_segments made.place made.lengths s.segments) (with_heads made.heads.items s.heads) s.trees info s.name
    closes_then =
        let k = kept_then in
        let closable : IsClosable segments_then heads_then info (places_of_trees s.trees) s.name = record {
          sized = k.sized;
          fit = k.fit;
          placed = k.placed;
          listed = k.listed;
          stored = k.stored;
          owned = k.owned;
          short = kept.closable.short;
          count = k.count;
          room = close_then;
        } in
        with_saves segments_then heads_then s.trees info s.name shape_then closable room_then kept.sound

  -- what a session keeps can be closed then
  pub kept_put_all : (segments segments' : List Segment) (heads heads' : List KeyHead) (trees : List FilledTree) (info : Option KeyHead) (name : List ℕ) → AreSegments segments → IsClosableWith segments heads trees info name
      → s.segments ≡ segments → s.heads ≡ heads → s.trees ≡ trees → s.name ≡ name → segments' ≡ with_segments made.place made.lengths segments → heads' ≡ with_heads made.heads.items heads
      → IsClosableWith segments' heads' trees info name
  kept_put_all segments segments' heads heads' trees info name shape kept a b t c put more =
      let own : IsClosableWith s.segments s.heads s.trees info s.name =
      subst (λ (x : List Segment × (List KeyHead × (List FilledTree × List ℕ))). IsClosableWith x.0 x.1.0 x.1.1.0 info x.1.1.1) (λ i. (sym a i, (sym b i, (sym t i, sym c i)))) kept in
      let after = closes_then info (subst AreSegments (sym a) shape) own in
      let first = ap (λ (x : List Segment). with_segments made.place made.lengths x) a ∙ sym put in
      let second = ap (λ (x : List KeyHead). with_heads made.heads.items x) b ∙ sym more in
      subst (λ (x : List Segment × (List KeyHead × (List FilledTree × List ℕ))). IsClosableWith x.0 x.1.0 x.1.1.0 info x.1.1.1) (λ i. (first i, (second i, (t i, c i)))) after

-- what a session keeps with these records more
pub stored_all_is : (before v : SessionState) (segments : List Segment) (heads : List KeyHead) (place : ℕ) (lengths : List ℕ) (hs : List KeyHead) → v ≡ before → segments ≡ with_segments place lengths v.segments → heads ≡ with_heads hs v.heads
    → ◌≡◌ {A = SessionState} (record v { segments = segments; heads = heads }) (record before { segments = with_segments place lengths before.segments; heads = with_heads hs before.heads })
stored_all_is before v segments heads place lengths hs is a b =
    let one : ◌≡◌ {A = SessionState} (record v { segments = segments; heads = heads }) (record v { segments = with_segments place lengths v.segments; heads = with_heads hs v.heads }) = λ i. record v { segments = a i; heads = b i } in
    one ∙ ap (λ (s : SessionState). let t : SessionState = record s { segments = with_segments place lengths s.segments; heads = with_heads hs s.heads } in t) is
