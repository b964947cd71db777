-- A put of records into a chain, by its links.
use Rattle.std.proofs.Common.{◌≡◌, inl, inr, ⊎_elim, ℕ, zero, suc, ◌+◌, ◌-◌, ◌≤◌, Bool, true, false, cond, eqb, List, [], ◌∷◌, ◌++◌, length, length-append, length-drop, map, take, drop, Option, Some, None, refl, sym, ap, subst, ◌∙◌, append_assoc, arith}
use Rattle.std.proofs.{lemmas.Bool.{eq-eqb, ne_eqb}, lemmas.List.{append-nil, take_all}}
use Rattle.std.specs.Prelude.{MatchOption}
use Rattle.byteorder.specs.Endian.{big_bytes}
use Rattle.rio_host.specs.{Host.{View, Elapses}, Image.{Torn}}
use Rattle.rio_host.proofs.Moments.{elapses_as}
use Rattle.rio_chain.specs.{declared.segment.Segment.{Segment, TheVariants.{Record, Gap}}, Adjoining.{segment_length, segments_end}}
use Rattle.rio_chain.specs.{Batches.{AreRecordsFrom}, Segments.{Link, RecordAt, GapAt, link_length, end_from, segment_of, IsChain, IsRecord}, Changes.{with_record, with_records, with_rest}}
use Rattle.rio_chain.specs.{Chains.{HasChain}, Placing.{HasRest, file_end, rest_of_gap, with_segment, with_segments, word_behind}}
use Rattle.rio_chain.specs.Stops.{BodyThenWord, IsBodyBehind, IsEither, KeepsFront}
use Rattle.rio_chain.proofs.{Words.{record_word, whole_long}, Chains.{PlainLinks, end-append, end-le, parts_of}}
use Rattle.rio_chain.proofs.Puts.{IsRest, Tail, gap_plain, end_later, end_put, end_torn, end_torn_front, end_within, filler, gap_later, gap_put, gap_torn, gap_torn_front, gap_within, joined, joined_aligned, links_from, put_front, rest_links, stands, tail_fits}

-- ---- segments of links

pub segment_of-length : (l : Link) → segment_length (segment_of l) ≡ link_length l
segment_of-length (RecordAt p bytes) = refl
segment_of-length (GapAt p n) = refl

pub map_end : (p : ℕ) (links : List Link) → segments_end p (map segment_of links) ≡ end_from p links
map_end p [] = refl
map_end p (l ∷ links) = ap (λ (k : ℕ). segments_end (p + k) (map segment_of links)) (segment_of-length l) ∙ map_end (p + link_length l) links

-- a gap among the segments is one among the links
pub record Cut (links : List Link) (front : List Segment) (place n : ℕ) : Type 0 where
  pub before : List Link
  pub behind : List Link
  pub is : links ≡ before ++ GapAt place n ∷ behind

cut_more : (l : Link) (links : List Link) (front front' : List Segment) (place n : ℕ) → Cut links front place n → Cut (l ∷ links) front' place n
cut_more l links front front' place n c = record { before = l ∷ c.before; behind = c.behind; is = ap (λ (x : List Link). l ∷ x) c.is }

pub cut_map : (links : List Link) (front back : List Segment) (place n : ℕ) → map segment_of links ≡ front ++ Gap place n ∷ back → Cut links front place n
cut_map [] [] back place n e = absurd cc
cut_map [] (s ∷ front) back place n e = absurd cc
cut_map (RecordAt p bytes ∷ links) [] back place n e = absurd cc
cut_map (GapAt p m ∷ links) [] back place n e =
    let there : p ≡ place = cc in
    let long : m ≡ n = cc in
    record { before = []; behind = links; is = λ i. GapAt (there i) (long i) ∷ links }
cut_map (l ∷ links) (s ∷ front) back place n e =
    let rest : map segment_of links ≡ front ++ Gap place n ∷ back = cc in cut_more l links front (s ∷ front) place n (cut_map links front back place n rest)

-- ---- what a record makes of the links

rest_is : (k place : ℕ) (links : List Link) → rest_links place k links ≡ with_rest place k links
rest_is zero place links = refl
rest_is (suc k) place links = let other : eqb (suc k) 0 ≡ false = ne_eqb (suc k) 0 (omega arith) in rw other refl

-- gaps among links stand where the links before them end
abbrev InOrder : ℕ → List Link → Type 0
InOrder place [] = Unit {0}
InOrder place (RecordAt p bytes ∷ links) = InOrder (place + length bytes) links
InOrder place (GapAt p n ∷ links) = (p ≡ place) × (4 ≤ n) × InOrder (place + n) links

in_order : (file : List ℕ) (place : ℕ) (links : List Link) → PlainLinks file place links → InOrder place links
in_order file place [] plain = tt
in_order file place (RecordAt p bytes ∷ links) plain = in_order file (place + length bytes) links plain.1
in_order file place (GapAt p n ∷ links) plain = (plain.0.0, plain.0.1.some, in_order file (place + n) links plain.1)

order_more : (place p : ℕ) (bytes : List ℕ) (links : List Link) → InOrder place links → InOrder place (links ++ RecordAt p bytes ∷ [])
order_more place p bytes [] order = tt
order_more place p bytes (RecordAt q others ∷ links) order = order_more (place + length others) p bytes links order
order_more place p bytes (GapAt q n ∷ links) order = (order.0, order.1, order_more (place + n) p bytes links order.2)

module _ (place : ℕ) (bytes : List ℕ) where
  pub with_front : (p k : ℕ) (front back : List Link) → InOrder p front → place ≡ end_from p front
      → with_record place bytes (front ++ GapAt place (length bytes + k) ∷ back) ≡ front ++ RecordAt place bytes ∷ rest_links (place + length bytes) k back
  with_front p k [] back order is =
      let same : eqb place place ≡ true = eq-eqb place place refl in
      let left : length bytes + k - length bytes ≡ k = omega arith in
      rw same (ap (λ (m : ℕ). RecordAt place bytes ∷ with_rest (place + length bytes) m back) left ∙ ap (λ (l : List Link). RecordAt place bytes ∷ l) (sym (rest_is k (place + length bytes) back)))
  with_front p k (RecordAt q others ∷ front) back order is = ap (λ (l : List Link). RecordAt q others ∷ l) (with_front (p + length others) k front back order is)
  with_front p k (GapAt q m ∷ front) back order is =
      let le = end-le (p + m) front in
      let other : eqb q place ≡ false = ne_eqb _ _ (omega (arith, is, le, order.0, order.1)) in
      rw other (ap (λ (l : List Link). GapAt q m ∷ l) (with_front (p + m) k front back order.2 is))

  pub with_end : (p : ℕ) (links : List Link) → InOrder p links → place ≡ end_from p links → with_record place bytes links ≡ links ++ RecordAt place bytes ∷ []
  with_end p [] order is = refl
  with_end p (RecordAt q others ∷ links) order is = ap (λ (l : List Link). RecordAt q others ∷ l) (with_end (p + length others) links order is)
  with_end p (GapAt q m ∷ links) order is =
      let le = end-le (p + m) links in
      let other : eqb q place ≡ false = ne_eqb _ _ (omega (arith, is, le, order.0, order.1)) in
      rw other (ap (λ (l : List Link). GapAt q m ∷ l) (with_end (p + m) links order.2 is))

  -- and of their segments
  pub map_with : (links : List Link) → map segment_of (with_record place bytes links) ≡ with_segment place (length bytes) (map segment_of links)
  map_with [] = refl
  map_with (RecordAt q others ∷ links) = ap (λ (l : List Segment). Record q (length others) ∷ l) (map_with links)
  map_with (GapAt q m ∷ links) = by (eqb q place) (map_with links)
    where
      left : (b : Bool) (k : ℕ) → map segment_of (cond b links (GapAt (place + length bytes) k ∷ links)) ≡ cond b (map segment_of links) (Gap (place + length bytes) k ∷ map segment_of links)
      left true k = refl
      left false k = refl

      by : (b : Bool) → map segment_of (with_record place bytes links) ≡ with_segment place (length bytes) (map segment_of links)
          → map segment_of (cond b (RecordAt place bytes ∷ with_rest (place + length bytes) (m - length bytes) links) (GapAt q m ∷ with_record place bytes links))
          ≡ cond b (Record place (length bytes) ∷ rest_of_gap (place + length bytes) (m - length bytes) (map segment_of links)) (Gap q m ∷ with_segment place (length bytes) (map segment_of links))
      by true ih = ap (λ (l : List Segment). Record place (length bytes) ∷ l) (left (eqb (m - length bytes) 0) (m - length bytes))
      by false ih = ap (λ (l : List Segment). Gap q m ∷ l) ih

-- ---- what records one behind the other make of the links

-- the front ends behind one record more
end_more : (p place : ℕ) (bytes : List ℕ) (front : List Link) → place ≡ end_from p front → place + length bytes ≡ end_from p (front ++ RecordAt place bytes ∷ [])
end_more p place bytes front is = ap (λ (q : ℕ). q + length bytes) is ∙ sym (end-append p front (RecordAt place bytes ∷ []))

-- a record is long, so that a rest which holds it is some
some_rest : (place n k : ℕ) (records : List (List ℕ)) (bytes : List ℕ) (back : List Link) → AreRecordsFrom place (bytes ∷ records) → n ≡ length (joined (bytes ∷ records)) + k → rest_links place n back ≡ GapAt place n ∷ back
unfolding joined
some_rest place zero k records bytes back whole is = absurd (omega (arith, is, whole_long place bytes whole.0, length-append bytes (joined records)))
some_rest place (suc n) k records bytes back whole is = refl

-- in a gap
records_in_gap : (records : List (List ℕ)) (place p n k : ℕ) (bytes : List ℕ) (front back : List Link) → AreRecordsFrom place (bytes ∷ records) → InOrder p front → place ≡ end_from p front
    → n ≡ length (joined (bytes ∷ records)) + k
    → with_records place (bytes ∷ records) (front ++ GapAt place n ∷ back) ≡ front ++ (links_from place (bytes ∷ records) ++ rest_links (place + length (joined (bytes ∷ records))) k back)
unfolding joined
records_in_gap [] place p n k bytes front back whole order is long =
    let same : n ≡ length bytes + k = omega (arith, long, length-append bytes []) in
    let none : length bytes ≡ length (bytes ++ []) = omega (arith, length-append bytes []) in
    ap (λ (m : ℕ). with_record place bytes (front ++ GapAt place m ∷ back)) same
    ∙ with_front place bytes p k front back order is
    ∙ ap (λ (m : ℕ). front ++ RecordAt place bytes ∷ rest_links (place + m) k back) none
records_in_gap (next ∷ records) place p n k bytes front back whole order is long =
    let later = place + length bytes in
    let left = length (joined (next ∷ records)) + k in
    let same : n ≡ length bytes + left = omega (arith, long, length-append bytes (joined (next ∷ records))) in
    let end : later + length (joined (next ∷ records)) ≡ place + length (joined (bytes ∷ next ∷ records)) = omega (arith, length-append bytes (joined (next ∷ records))) in
    let more = front ++ RecordAt place bytes ∷ [] in
    ap (λ (m : ℕ). with_records later (next ∷ records) (with_record place bytes (front ++ GapAt place m ∷ back))) same
    ∙ ap (with_records later (next ∷ records)) (with_front place bytes p left front back order is)
    ∙ ap (λ (l : List Link). with_records later (next ∷ records) (front ++ RecordAt place bytes ∷ l)) (some_rest later left k records next back whole.1 refl)
    ∙ ap (with_records later (next ∷ records)) (sym (append_assoc front (RecordAt place bytes ∷ []) (GapAt later left ∷ back)))
    ∙ records_in_gap records later p left k next more back whole.1 (order_more p place bytes front order) (end_more p place bytes front is) refl
    ∙ append_assoc front (RecordAt place bytes ∷ []) (links_from later (next ∷ records) ++ rest_links (later + length (joined (next ∷ records))) k back)
    ∙ ap (λ (m : ℕ). front ++ RecordAt place bytes ∷ (links_from later (next ∷ records) ++ rest_links m k back)) end

-- at END
records_at_end : (records : List (List ℕ)) (place p : ℕ) (links : List Link) → InOrder p links → place ≡ end_from p links → with_records place records links ≡ links ++ links_from place records
records_at_end [] place p links order is = sym (append-nil links)
records_at_end (bytes ∷ records) place p links order is =
    let later = place + length bytes in
    let more = links ++ RecordAt place bytes ∷ [] in
    ap (with_records later records) (with_end place bytes p links order is)
    ∙ records_at_end records later p more (order_more p place bytes links order) (end_more p place bytes links is)
    ∙ append_assoc links (RecordAt place bytes ∷ []) (links_from later records)

-- and of their segments
pub map_all : (records : List (List ℕ)) (place : ℕ) (links : List Link) → map segment_of (with_records place records links) ≡ with_segments place (map length records) (map segment_of links)
map_all [] place links = refl
map_all (bytes ∷ records) place links =
    map_all records (place + length bytes) (with_record place bytes links) ∙ ap (with_segments (place + length bytes) (map length records)) (map_with place bytes links)

-- ---- the put

pub record Putting (file : List ℕ) (links : List Link) (place word : ℕ) (records : List (List ℕ)) (tail : List ℕ) : Type 0 where
  pub within : place + 4 ≤ length file
  pub torn : (image : List ℕ) → Torn (place + 4) (length tail) file image → IsChain links image × KeepsFront file image
  pub put : (image : List ℕ) → BodyThenWord file place tail (big_bytes 4 word) image → IsChain (with_records place records links) image × KeepsFront file image

word_is : (k : ℕ) → word_behind (Some k) ≡ filler k
word_is zero = refl
word_is (suc k) = refl

-- the first word is the length of the first record
tail_of : (bytes : List ℕ) (records : List (List ℕ)) (tail more : List ℕ) (place : ℕ) → IsRecord place bytes → tail ≡ drop 4 (joined (bytes ∷ records) ++ more) → Tail (length bytes) (joined (bytes ∷ records)) tail more
unfolding joined
tail_of bytes records tail more place whole is =
    let w = record_word place bytes whole in
    let front = big_bytes 4 (length bytes) in
    let others = w.others ++ joined records in
    let all : bytes ++ joined records ≡ front ++ others = ap (λ (b : List ℕ). b ++ joined records) w.spelled ∙ append_assoc front w.others (joined records) in
    record {
      others = others;
      records_are = all;
      tail_is = is ∙ ap (λ (b : List ℕ). drop 4 (b ++ more)) all ∙ ap (drop 4) (append_assoc front others more);
    }

pub putting : (file : List ℕ) (links : List Link) (segments : List Segment) (place : ℕ) (bytes : List ℕ) (records : List (List ℕ)) (tail : List ℕ) (rest : Option ℕ) → HasChain links segments file → AreRecordsFrom place (bytes ∷ records)
    → MatchOption rest (place ≡ file_end segments) (λ k. HasRest segments place (length (joined (bytes ∷ records))) k) → tail ≡ drop 4 (joined (bytes ∷ records) ++ word_behind rest) → Putting file links place (length bytes) (bytes ∷ records) tail
putting file links segments place bytes records tail None has whole end tail_is =
    let all = bytes ∷ records in
    let word = length bytes in
    let at = end ∙ ap file_end has.same ∙ map_end 100 links in
    let t = tail_of bytes records tail (big_bytes 4 0) place whole.0 tail_is in
    let order = in_order file 100 links (parts_of links file has.chain).plain in
    record {
      within = end_within links file has.chain place at;
      torn = λ image torn. (end_torn links file has.chain place at (length tail) image torn, end_torn_front links file has.chain place at (length tail) image torn);
      put = λ image put. (
        subst (λ (l : List Link). IsChain l image) (sym (records_at_end all place 100 links order at)) (end_put links file has.chain place at all word tail image whole t put),
        put_front file place word (joined all) tail (big_bytes 4 0) image t put (end_later links file has.chain place at),
      );
    }
putting file links segments place bytes records tail (Some k) has whole rest tail_is =
    let all = bytes ∷ records in
    let word = length bytes in
    let size = length (joined all) in
    let c = cut_map links rest.0 rest.1 place (size + k) (sym has.same ∙ rest.2) in
    let t = tail_of bytes records tail (filler k) place whole.0 (tail_is ∙ ap (λ (m : List ℕ). drop 4 (joined all ++ m)) (word_is k)) in
    let plain = (gap_plain links c.before c.behind place (size + k) c.is file has.chain) in
    let some : IsRest k = ⊎_elim (λ none. inl none) (λ four. inr (four, omega (arith, plain.1.aligned, joined_aligned place all whole))) rest.3 in
    let at = stands links c.before c.behind place (size + k) c.is file has.chain in
    let after : with_records place all links ≡ c.before ++ (links_from place all ++ rest_links (place + size) k c.behind) = ap (with_records place all) c.is ∙ records_in_gap records place 100 (size + k) k bytes c.before c.behind whole (in_order file 100 c.before plain.0) at refl in
    let later = gap_later links c.before c.behind place (size + k) c.is file has.chain in
    record {
      within = gap_within links c.before c.behind place (size + k) c.is file has.chain;
      torn = λ image torn. (
        gap_torn links c.before c.behind place (size + k) c.is file has.chain (length tail) image (tail_fits links c.before c.behind place (size + k) c.is file has.chain all word tail k refl some whole t) torn,
        gap_torn_front links c.before c.behind place (size + k) c.is file has.chain (length tail) image torn,
      );
      put = λ image put. (
        subst (λ (l : List Link). IsChain l image) (sym after) (gap_put links c.before c.behind place (size + k) c.is file has.chain all word tail k refl some whole t image put),
        put_front file place word (joined all) tail (filler k) image t put later,
      );
    }

-- ---- what a stop leaves, and what the host holds

pub put_time : (old new : View) (file : List ℕ) (links : List Link) (place word n : ℕ) (records : List (List ℕ)) (tail : List ℕ) → Putting file links place word records tail → n ≡ word → Elapses old new (IsBodyBehind old file place tail (big_bytes 4 n)) → Elapses old new (IsEither old file links (with_records place records links))
put_time old new file links place word n records tail p is time = elapses_as (IsEither old file links (with_records place records links)) (IsBodyBehind old file place tail (big_bytes 4 n)) time (λ image said behind.
    let b = subst (λ (k : ℕ). IsBodyBehind old file place tail (big_bytes 4 k) image said) is behind in
    record {
      links = ⊎_elim (λ torn. inl (p.torn image torn).0) (λ put. inr (p.put image put).0) b.image_is;
      front = ⊎_elim (λ torn. (p.torn image torn).1) (λ put. (p.put image put).1) b.image_is;
      text = b.text;
    })

pub put_holds : (held : Option (List ℕ)) (file : List ℕ) (links : List Link) (segments : List Segment) (place word n : ℕ) (records : List (List ℕ)) (lengths tail : List ℕ) → Putting file links place word records tail → segments ≡ map segment_of links → n ≡ word → map length records ≡ lengths
    → (new : List ℕ) × (held ≡ Some new) × BodyThenWord file place tail (big_bytes 4 n) new → (new : List ℕ) × (held ≡ Some new) × HasChain (with_records place records links) (with_segments place lengths segments) new × KeepsFront file new
put_holds held file links segments place word n records lengths tail p same is long new =
    let put = p.put new.0 (subst (λ (k : ℕ). BodyThenWord file place tail (big_bytes 4 k) new.0) is new.2) in
    let after = ap (with_segments place lengths) same ∙ ap (λ (ns : List ℕ). with_segments place ns (map segment_of links)) (sym long) ∙ sym (map_all records place links) in
    (new.0, new.1, record { chain = put.0; same = after }, put.1)

-- all behind a word
pub behind_word : (xs : List ℕ) → take (length xs - 4) (drop 4 xs) ≡ drop 4 xs
behind_word xs = take_all (length xs - 4) (drop 4 xs) (omega (arith, length-drop 4 xs))
