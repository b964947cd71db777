-- The records of a file's links, one after the other.
use Rattle.std.proofs.Common.{◌≡◌, ◌∙◌, ℕ, zero, suc, ◌+◌, ◌-◌, ◌≤◌, add-one, pos, List, [], ◌∷◌, map, length, drop, Option, Some, None, Ok, refl, sym, ap, subst, slice_get, arith}
use Rattle.std.proofs.{lemmas.List.Elements.{All-cons, All-nil}, lemmas.Int.{of_z-to_z}}
use Rattle.std.specs.{List.{All, cons_option}, Int.{w32, cast_signed, cast_unsigned}}
use Rattle.rio_host.specs.Image.{Has}
use Rattle.rio_host.proofs.Images.{has_length}
use Rattle.rio_num.proofs.Plain.{standing}
use Rattle.rio_key.proofs.{KeyAgain.{key_again}, Signed.{signed_is}}
use Rattle.rio_num.specs.Plain.{value_of}
use Rattle.rio_key.specs.{Key.{key_at}, declared.head.KeyHead.{KeyHead}}
use Rattle.rio_chain.specs.{declared.segment.Segment.{Segment, TheVariants.{Record, Gap}}, Adjoining.{AreAdjacent, segment_length, segment_place, segments_end}}
use Rattle.rio_chain.specs.Segments.{Link, RecordAt, GapAt, HoldsLink, HoldsLinks, HoldsRecord, IsRecord, link_length, segment_of}
use Rattle.rio_chain.proofs.{Placed.{end-le}, Words.{has_same, held_long, held_positive}}
use Rattle.rio_state.specs.KeyedRecords.{KeyedRecord, keyed_records, record_in_link, record_with_head}
use Rattle.rio_recover.specs.Keys.{StandsIn, record_end, record_heads}

-- ---- one record

-- the key that is read of a record is its own
key_of : (place : ℕ) (bytes : List ℕ) (r : IsRecord place bytes) → key_at (record { place = place; rest = bytes }) ≡ Ok r.head
key_of place bytes r = ap (λ (b : List ℕ). key_at (standing place b)) r.key.2 ∙ ap value_of (key_again r.head r.key.0 place r.key.1 r.key.3)

pub link_record : (place : ℕ) (bytes : List ℕ) (r : IsRecord place bytes) → record_in_link (RecordAt place bytes) ≡ Some (record { head = r.head; bytes = bytes })
link_record place bytes r = ap (record_with_head bytes) (key_of place bytes r)

pub stands_here : (file : List ℕ) (place : ℕ) (bytes : List ℕ) (h : HoldsRecord file place bytes) → StandsIn file (record { head = h.whole.head; bytes = bytes })
stands_here file place bytes h =
    let long = held_long file place bytes h in
    let within = has_length file place bytes (length bytes - 1) (omega (arith, long)) h.there in
    record {
      there = subst (λ (p : ℕ). Has file p bytes) (sym h.whole.seek) h.there;
      nbytes = h.whole.nbytes;
      small = (held_positive file place bytes h).1;
      within = omega (arith, within, h.whole.seek);
    }

-- the record of a key that says so ends there
pub end_of_record : (file : List ℕ) (r : KeyedRecord) → StandsIn file r → record_end r.head ≤ length file
end_of_record file r s =
    let n = length r.bytes in
    let signed : cast_signed w32 n ≡ pos n = signed_is n s.small in
    let same : cast_unsigned w32 r.head.nbytes ≡ n = ap (cast_unsigned w32) (s.nbytes ∙ sym signed) ∙ of_z-to_z w32 n (omega (arith, s.small)) in
    omega (arith, same, s.within)

pub length_of_record : (file : List ℕ) (r : KeyedRecord) → StandsIn file r → cast_unsigned w32 r.head.nbytes ≡ length r.bytes
length_of_record file r s =
    let n = length r.bytes in
    let signed : cast_signed w32 n ≡ pos n = signed_is n s.small in
    ap (cast_unsigned w32) (s.nbytes ∙ sym signed) ∙ of_z-to_z w32 n (omega (arith, s.small))

-- as many bytes that stand at a record's place are the record's; the length goes through a cast
pub bytes_same : (file : List ℕ) (r : KeyedRecord) (head : KeyHead) (bytes : List ℕ) → StandsIn file r → r.head ≡ head
    → length bytes ≡ cast_unsigned w32 (cast_signed w32 (cast_unsigned w32 head.nbytes)) → Has file head.seek bytes → bytes ≡ r.bytes
bytes_same file r head bytes s e long has =
    let there : Has file head.seek r.bytes = subst (λ (h : KeyHead). Has file h.seek r.bytes) e s.there in
    let n : cast_unsigned w32 head.nbytes ≡ length r.bytes = ap (λ (h : KeyHead). cast_unsigned w32 h.nbytes) (sym e) ∙ length_of_record file r s in
    let back = of_z-to_z w32 (cast_unsigned w32 head.nbytes) (omega (arith, n, s.small)) in
    has_same file head.seek bytes r.bytes (long ∙ back ∙ n) has there

-- ---- all of them

cons_by : (file : List ℕ) (links : List Link) (o : Option KeyedRecord) (r : KeyedRecord) → o ≡ Some r → StandsIn file r → All (StandsIn file) (keyed_records links)
    → All (StandsIn file) (cons_option o (keyed_records links))
cons_by file links o r is here rest =
    subst (λ (x : Option KeyedRecord). All (StandsIn file) (cons_option x (keyed_records links))) (sym is) (All-cons (StandsIn file) r (keyed_records links) here rest)

pub all_stand : (file : List ℕ) (place : ℕ) (links : List Link) → HoldsLinks file place links → All (StandsIn file) (keyed_records links)
all_stand file place [] h = All-nil (StandsIn file)
all_stand file place (RecordAt p bytes ∷ links) h =
    let here : HoldsRecord file p bytes = subst (λ (q : ℕ). HoldsRecord file q bytes) (sym h.0.0) h.0.1 in
    cons_by file links (record_in_link (RecordAt p bytes)) (record { head = here.whole.head; bytes = bytes }) (link_record p bytes here.whole) (stands_here file p bytes here)
    (all_stand file (place + length bytes) links h.1)
all_stand file place (GapAt p n ∷ links) h = all_stand file (place + n) links h.1

-- ---- the link of a segment

-- the link at an index: it is held somewhere, and stands in front of those behind it
pub record NextLink (file : List ℕ) (links : List Link) (k : ℕ) (s : Segment) : Type 0 where
  pub link : Link
  pub is : segment_of link ≡ s
  pub rest : drop k links ≡ link ∷ drop (k + 1) links
  pub place : ℕ
  pub held : HoldsLink file place link

later_link : (file : List ℕ) (l : Link) (links : List Link) (k : ℕ) (s : Segment) → NextLink file links k s → NextLink file (l ∷ links) (suc k) s
later_link file l links k s n = record {
  link = n.link;
  is = n.is;
  rest = n.rest ∙ ap (λ (j : ℕ). n.link ∷ drop j links) (add-one k) ∙ sym (ap (λ (j : ℕ). n.link ∷ drop j (l ∷ links)) (add-one (suc k)));
  place = n.place;
  held = n.held;
}

pub next_link : (file : List ℕ) (p : ℕ) (links : List Link) (k : ℕ) (s : Segment) → HoldsLinks file p links → slice_get (map segment_of links) k ≡ Some s → NextLink file links k s
next_link file p [] k s h e = absurd cc
next_link file p (l ∷ links) zero s h e = record { link = l; is = some_same e; rest = refl; place = p; held = h.0 }
  where
    some_same : {x y : Segment} → Some x ≡ Some y → x ≡ y
    some_same e = cc
next_link file p (l ∷ links) (suc k) s h e = later_link file l links k s (next_link file (p + link_length l) links k s h.1 e)

record_link : (link : Link) (place n : ℕ) → segment_of link ≡ Record place n → (bytes : List ℕ) × (link ≡ RecordAt place bytes) × (length bytes ≡ n)
record_link (RecordAt p bytes) place n e = (bytes, ap (λ (q : ℕ). RecordAt q bytes) (let same : p ≡ place = cc in same), (let same : length bytes ≡ n = cc in same))
record_link (GapAt p m) place n e = absurd cc

gap_link : (link : Link) (place n : ℕ) → segment_of link ≡ Gap place n → record_in_link link ≡ None
gap_link (RecordAt p bytes) place n e = absurd cc
gap_link (GapAt p m) place n e = refl

-- a record's link, and its bytes
pub record NextRecord (file : List ℕ) (links : List Link) (k place n : ℕ) : Type 0 where
  pub bytes : List ℕ
  pub long : length bytes ≡ n
  pub held : HoldsRecord file place bytes
  pub rest : drop k links ≡ RecordAt place bytes ∷ drop (k + 1) links

pub next_record : (file : List ℕ) (links : List Link) (k place n : ℕ) → NextLink file links k (Record place n) → NextRecord file links k place n
next_record file links k place n next =
    let r = record_link next.link place n next.is in
    let held : HoldsLink file next.place (RecordAt place r.0) = subst (HoldsLink file next.place) r.1 next.held in
    record {
      bytes = r.0;
      long = r.2;
      held = subst (λ (q : ℕ). HoldsRecord file q r.0) (sym held.0) held.1;
      rest = next.rest ∙ ap (λ (l : Link). l ∷ drop (k + 1) links) r.1;
    }

-- a gap has no record
pub next_gap : (file : List ℕ) (links : List Link) (k place n : ℕ) → NextLink file links k (Gap place n) → keyed_records (drop k links) ≡ keyed_records (drop (k + 1) links)
next_gap file links k place n next = ap keyed_records next.rest ∙ ap (λ (o : Option KeyedRecord). cons_option o (keyed_records (drop (k + 1) links))) (gap_link next.link place n next.is)

-- the records behind it, with this one in front
pub record_next : (file : List ℕ) (links : List Link) (k place n : ℕ) (next : NextRecord file links k place n) (head : KeyHead)
    → record_in_link (RecordAt place next.bytes) ≡ Some (record { head = head; bytes = next.bytes })
    → record_heads (keyed_records (drop k links)) ≡ head ∷ record_heads (keyed_records (drop (k + 1) links))
record_next file links k place n next head is =
    ap (λ (ls : List Link). record_heads (keyed_records ls)) next.rest
    ∙ ap (λ (o : Option KeyedRecord). record_heads (cons_option o (keyed_records (drop (k + 1) links)))) is

-- ---- where segments end

pub within_end : (p : ℕ) (segments : List Segment) (k : ℕ) (s : Segment) → AreAdjacent p segments → slice_get segments k ≡ Some s → segment_place s + segment_length s ≤ segments_end p segments
within_end p [] k s are e = absurd cc
within_end p (t ∷ segments) zero s are e =
    let same : t ≡ s = cc in
    let le = end-le (p + segment_length t) segments in
    subst (λ (u : Segment). segment_place u + segment_length u ≤ segments_end (p + segment_length t) segments) same (omega (arith, le, are.0.there))
within_end p (t ∷ segments) (suc k) s are e = within_end (p + segment_length t) segments k s are.1 e
