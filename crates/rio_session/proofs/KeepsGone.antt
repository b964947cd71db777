-- What a session keeps is sound without the records that a delete releases.
use Rattle.std.proofs.Common.{◌≡◌, ◌==◌, ◌||◌, ℕ, ◌+◌, ◌<◌, ◌≤◌, Bool, true, false, List, [], ◌∷◌, ◌++◌, length, Option, Some, nat_lt, refl, sym, ap, subst, ◌∙◌, arith}
use Rattle.std.proofs.{lemmas.Bool.{and_from, and_parts, lt-ltb, ne_eqb, or_parts}}
use Rattle.std.proofs.lemmas.List.{Sums.{AllPass-from_list_all, list_all-from_AllPass}, Sorted.{All-permutation, length_permutation, list_any-IsPermutation}}
use Rattle.std.specs.List.{list_all, list_any, Sorted.{IsPermutation}}
use Rattle.rio_key.specs.{declared.head.KeyHead.{KeyHead}, Written.{written_key}}
use Rattle.rio_dir.specs.Table.{head_of, heads_size, is_at_cycle, without_head}
use Rattle.rio_chain.specs.{Adjoining.{AreSegments}, FewerRecords.{IsLeftWithout}, Placing.{file_end, record_count}, Releasing.{without_segment}}
use Rattle.rio_chain.specs.declared.segment.Segment.{Segment, TheVariants.{Record, Gap}}
use Rattle.rio_state.specs.{Closing.{close_need, end_limit}, Sizes.{close_size}}
use Rattle.rio_recover.specs.{Cleaning.{without_segments}, Closable.{IsClosable, begins_at, is_fit_key, is_list_at, is_owned, is_placed, is_sized, kept_with}, Whole.{HoldsDirectory}}
use Rattle.rio_session.specs.{Due.{due_of, need_with}, Fills.{FilledTree}, Releases.{AreApart, AreReleasable}}
use Rattle.rio_session.proofs.{Apart.{is_among}, CloseRoom.{directory_left}, FillSums.{need_by_due}, Needs.{need_is_size}}
use Rattle.rio_session.proofs.KeepsLess.{IsOneLess, IsTakenOut, all_owned, alone, any_append, baskets_in, first_in, heads_in, is_later, left_without, list_in, list_place, listed_less, own_places, owned_by, owned_less, owns_counted, placed_less, seeks, seeks_any, stored_less, taken_out}

-- ---- what a close needs

size_less : (name : List ℕ) (a b c d : ℕ) → b ≤ a → d ≤ c → close_size name b d ≤ close_size name a c
unfolding close_size
size_less name a b c d bytes records = omega (arith, bytes, records)

-- fewer bytes of keys and fewer records need no more
pub need_less : (name : List ℕ) (heads left : List KeyHead) (count few : ℕ) → heads_size left ≤ heads_size heads → few ≤ count → close_need (kept_with name left few) ≤ close_need (kept_with name heads count)
need_less name heads left count few bytes records =
    omega (arith, need_is_size name left few, need_is_size name heads count, size_less name (heads_size heads) (heads_size left) count few bytes records)

low_size : (name : List ℕ) (heads live : ℕ) → close_size name heads live ≤ end_limit → heads ≤ end_limit
unfolding close_size
low_size name heads live le = omega (arith, le)

-- where there is room for a close, the keys are few bytes
pub heads_low : (segments : List Segment) (heads : List KeyHead) (info : Option KeyHead) (baskets name : List ℕ) → IsClosable segments heads info baskets name → heads_size heads ≤ end_limit
heads_low segments heads info baskets name kept =
    let is = need_is_size name heads (record_count segments) in
    let room : close_need (kept_with name heads (record_count segments)) ≤ end_limit = omega (arith, kept.room) in
    low_size name (heads_size heads) (record_count segments) (subst (λ (n : ℕ). n ≤ end_limit) is room)

-- with fewer saves that are due
pub need_with_less : (name : List ℕ) (heads left : List KeyHead) (count few : ℕ) (trees fewer : List FilledTree) → heads_size left ≤ heads_size heads → few ≤ count → (due_of fewer).bytes ≤ (due_of trees).bytes → (due_of fewer).baskets ≤ (due_of trees).baskets
    → need_with name left few fewer ≤ need_with name heads count trees
need_with_less name heads left count few trees fewer bytes records due baskets =
    omega (
      arith,
      need_by_due name left few fewer,
      need_by_due name heads count trees,
      size_less name (heads_size heads) (heads_size left) (count + (due_of trees).baskets) (few + (due_of fewer).baskets) bytes (omega (arith, records, baskets)),
      due,
    )

-- ---- the record of a key

-- of two lists, where what is in the first part but for one is still there
or_still : (a b c d : Bool) → (a || (b || d)) ≡ true → (b ≡ true → c ≡ true) → (a || (c || d)) ≡ true
or_still true b c d e next = refl
or_still false true c d e next = ap (λ (x : Bool). x || d) (next refl)
or_still false false true d e next = refl
or_still false false false d e next = e

module _ (segments : List Segment) (heads : List KeyHead) (info : Option KeyHead) (baskets name : List ℕ) (h : KeyHead) (shape : AreSegments segments) (kept : IsClosable segments heads info baskets name)
    (found : head_of h.name (Some h.cycle) heads ≡ Some h) where
  abbrev fewer : List KeyHead
  fewer = without_head h.name h.cycle heads

  out : IsTakenOut h heads (without_head h.name h.cycle heads)
  out = taken_out (is_at_cycle h.name h.cycle) h heads found

  pub key_begins : list_any (begins_at h.seek) segments ≡ true
  key_begins = out.own (is_placed segments) kept.placed

  abbrev owners : List ℕ
  owners = own_places info heads baskets

  abbrev left : List ℕ
  left = own_places info (without_head h.name h.cycle heads) baskets

  others : (p : ℕ) → is_among owners p ≡ true → (h.seek ≡ p → ⊥) → is_among left p ≡ true
  others p e other =
      let parts = any_append p (seeks heads) baskets in
      let parts' = any_append p (seeks fewer) baskets in
      by (100 == p) (is_among (list_place info) p) (is_among (seeks heads) p) (is_among (seeks fewer) p) (is_among baskets p)
      (sym (ap (λ (b : Bool). (100 == p) || b) (any_append p (list_place info) (seeks heads ++ baskets) ∙ ap (λ (b : Bool). is_among (list_place info) p || b) parts)) ∙ e)
      (λ f. seeks_any fewer p ∙ out.any (λ k. k.seek == p) (sym (seeks_any heads p) ∙ f) (ne_eqb h.seek p other))
      (ap (λ (b : Bool). (100 == p) || b) (any_append p (list_place info) (seeks fewer ++ baskets) ∙ ap (λ (b : Bool). is_among (list_place info) p || b) parts'))
    where
      by : (a l b c d : Bool) → (a || (l || (b || d))) ≡ true → (b ≡ true → c ≡ true) → is_among (own_places info (without_head h.name h.cycle heads) baskets) p ≡ (a || (l || (c || d))) → is_among (own_places info (without_head h.name h.cycle heads) baskets) p ≡ true
      by true l b c d e next is = is
      by false l b c d e next is = is ∙ or_still l b c d e next

  less : IsOneLess h.seek (own_places info heads baskets) (own_places info (without_head h.name h.cycle heads) baskets)
  less = record { one = omega (arith, owns_counted info heads baskets, owns_counted info fewer baskets, out.one); others = others }

  owned : list_all (owned_by (own_places info heads baskets)) segments ≡ true
  owned = sym (all_owned info heads baskets segments) ∙ kept.owned

  count : record_count segments ≡ length (own_places info heads baskets)
  count = kept.count ∙ sym (owns_counted info heads baskets)

  pub key_later : 100 < h.seek
  key_later = is_later h.seek owners left less segments shape owned count (first_in info fewer baskets) key_begins

  pub key_left : (n : ℕ) × IsLeftWithout h.seek n segments (without_segment h.seek segments)
  key_left = left_without h.seek owners left less segments shape owned count (first_in info fewer baskets) key_begins

  -- no basket stands at its place
  pub key_apart : is_among baskets h.seek ≡ false
  key_apart =
      let none = alone h.seek owners left less segments shape owned count in
      let one = or_parts (100 == h.seek) (is_among (list_place info ++ (seeks fewer ++ baskets)) h.seek) none in
      let two = or_parts (is_among (list_place info) h.seek) (is_among (seeks fewer ++ baskets) h.seek) (sym (any_append h.seek (list_place info) (seeks fewer ++ baskets)) ∙ one.1) in
      (or_parts (is_among (seeks fewer) h.seek) (is_among baskets h.seek) (sym (any_append h.seek (seeks fewer) baskets) ∙ two.1)).1

  pub kept_less : IsClosable (without_segment h.seek segments) (without_head h.name h.cycle heads) info baskets name
  kept_less =
      let without = key_left.1 in
      record {
        sized = out.all is_sized kept.sized;
        fit = out.all is_fit_key kept.fit;
        placed = placed_less h.seek owners left less segments shape owned count fewer (heads_in info fewer baskets) (out.all (is_placed segments) kept.placed);
        listed = listed_less h.seek owners left less segments shape owned count info (list_in info fewer baskets) kept.listed;
        stored = stored_less h.seek owners left less segments shape owned count baskets (baskets_in info fewer baskets) kept.stored;
        owned = all_owned info fewer baskets (without_segment h.seek segments) ∙ owned_less h.seek owners left less segments shape owned count 100 segments shape.adjacent owned;
        short = kept.short;
        count = omega (arith, without.count, out.one, kept.count);
        room =
            let need = need_less name heads fewer (record_count segments) (record_count (without_segment h.seek segments)) (omega (arith, out.bytes)) (omega (arith, without.count)) in
            omega (arith, need, without.end, kept.room);
      }

pub bytes_less : (heads : List KeyHead) (h : KeyHead) → head_of h.name (Some h.cycle) heads ≡ Some h → heads_size (without_head h.name h.cycle heads) + length (written_key h) ≡ heads_size heads
bytes_less heads h found = (taken_out (is_at_cycle h.name h.cycle) h heads found).bytes

-- ---- the record of a basket

module _ (segments : List Segment) (heads : List KeyHead) (info : Option KeyHead) (q : ℕ) (baskets name : List ℕ) (shape : AreSegments segments) (kept : IsClosable segments heads info (q ∷ baskets) name) where
  abbrev all : List ℕ
  all = own_places info heads (q ∷ baskets)

  abbrev rest : List ℕ
  rest = own_places info heads baskets

  or_moved : (a l k b c : Bool) → (a || (l || (k || (b || c)))) ≡ true → b ≡ false → (a || (l || (k || c))) ≡ true
  or_moved true l k b c e none = refl
  or_moved false true k b c e none = refl
  or_moved false false true b c e none = refl
  or_moved false false false b c e none = sym (ap (λ (x : Bool). x || c) none) ∙ e

  spread : (some : List ℕ) (p : ℕ) → is_among (own_places info heads some) p ≡ ((100 == p) || (is_among (list_place info) p || (is_among (seeks heads) p || is_among some p)))
  spread some p = ap (λ (b : Bool). (100 == p) || b) (any_append p (list_place info) (seeks heads ++ some) ∙ ap (λ (b : Bool). is_among (list_place info) p || b) (any_append p (seeks heads) some))

  one_less : IsOneLess q (own_places info heads (q ∷ baskets)) (own_places info heads baskets)
  one_less = record {
    one = omega (arith, owns_counted info heads (q ∷ baskets), owns_counted info heads baskets);
    others = λ p e other. spread baskets p ∙ or_moved (100 == p) (is_among (list_place info) p) (is_among (seeks heads) p) (q == p) (is_among baskets p) (sym (spread (q ∷ baskets) p) ∙ e) (ne_eqb q p other);
  }

  all_are_owned : list_all (owned_by (own_places info heads (q ∷ baskets))) segments ≡ true
  all_are_owned = sym (all_owned info heads (q ∷ baskets) segments) ∙ kept.owned

  all_count : record_count segments ≡ length (own_places info heads (q ∷ baskets))
  all_count = kept.count ∙ sym (owns_counted info heads (q ∷ baskets))

  parts : (list_any (begins_at q) segments ≡ true) × (list_all (λ p. list_any (begins_at p) segments) baskets ≡ true)
  parts = and_parts (list_any (begins_at q) segments) (list_all (λ p. list_any (begins_at p) segments) baskets) kept.stored

  pub basket_begins : list_any (begins_at q) segments ≡ true
  basket_begins = parts.0

  later_stored : list_all (λ p. list_any (begins_at p) segments) baskets ≡ true
  later_stored = parts.1

  pub basket_later : 100 < q
  basket_later = is_later q all rest one_less segments shape all_are_owned all_count (first_in info heads baskets) basket_begins

  pub basket_left : (n : ℕ) × IsLeftWithout q n segments (without_segment q segments)
  basket_left = left_without q all rest one_less segments shape all_are_owned all_count (first_in info heads baskets) basket_begins

  -- it stands once
  pub basket_apart : is_among baskets q ≡ false
  basket_apart = by (is_among baskets q) refl
    where
      by : (b : Bool) → is_among baskets q ≡ b → b ≡ false
      by false e = refl
      by true e =
          let there : is_among rest q ≡ true = baskets_in info heads baskets q e in
          let none = alone q all rest one_less segments shape all_are_owned all_count in
          absurd (let f : true ≡ false = sym there ∙ none in cc)

  pub basket_less : IsClosable (without_segment q segments) heads info baskets name
  basket_less =
      let without = basket_left.1 in
      record {
        sized = kept.sized;
        fit = kept.fit;
        placed = placed_less q all rest one_less segments shape all_are_owned all_count heads (heads_in info heads baskets) kept.placed;
        listed = listed_less q all rest one_less segments shape all_are_owned all_count info (list_in info heads baskets) kept.listed;
        stored = stored_less q all rest one_less segments shape all_are_owned all_count baskets (baskets_in info heads baskets) later_stored;
        owned = all_owned info heads baskets (without_segment q segments) ∙ owned_less q all rest one_less segments shape all_are_owned all_count 100 segments shape.adjacent all_are_owned;
        short = kept.short;
        count = omega (arith, without.count, kept.count);
        room =
            let need = need_less name heads heads (record_count segments) (record_count (without_segment q segments)) (omega arith) (omega (arith, without.count)) in
            omega (arith, need, without.end, kept.room);
      }

-- ---- several records of baskets

-- it doesn't matter in which order the baskets are
pub baskets_moved : (segments : List Segment) (heads : List KeyHead) (info : Option KeyHead) (one two name : List ℕ) → IsPermutation one two → IsClosable segments heads info one name → IsClosable segments heads info two name
baskets_moved segments heads info one two name moved kept = record {
  sized = kept.sized;
  fit = kept.fit;
  placed = kept.placed;
  listed = kept.listed;
  stored = all_moved (λ p. list_any (begins_at p) segments) one two moved kept.stored;
  owned = sym (λ i. list_all (λ x. owned_alike x i) segments) ∙ kept.owned;
  short = kept.short;
  count = omega (arith, kept.count, length_permutation one two moved);
  room = kept.room;
}
  where
    all_moved : (test : ℕ → Bool) (xs ys : List ℕ) → IsPermutation xs ys → list_all test xs ≡ true → list_all test ys ≡ true
    all_moved test xs ys is each = list_all-from_AllPass test ys (All-permutation (λ x. test x ≡ true) xs ys is (AllPass-from_list_all test xs each))

    owned_alike : (x : Segment) → is_owned info heads one x ≡ is_owned info heads two x
    owned_alike (Record p n) = ap (λ (b : Bool). (((p == 100) || is_list_at p info) || list_any (λ h. h.seek == p) heads) || b) (list_any-IsPermutation (λ q. q == p) one two moved)
    owned_alike (Gap p n) = refl

module _ (heads : List KeyHead) (info : Option KeyHead) (rest name : List ℕ) where
  pub baskets_gone : (places : List ℕ) (segments : List Segment) → AreSegments segments → IsClosable segments heads info (places ++ rest) name → IsClosable (without_segments places segments) heads info rest name
  baskets_gone [] segments shape kept = kept
  baskets_gone (q ∷ places) segments shape kept =
      baskets_gone places (without_segment q segments) (basket_left segments heads info q (places ++ rest) name shape kept).1.shape (basket_less segments heads info q (places ++ rest) name shape kept)

  -- the segments keep their form, and end no later
  pub baskets_left : (places : List ℕ) (segments : List Segment) → AreSegments segments → IsClosable segments heads info (places ++ rest) name
      → AreSegments (without_segments places segments) × (file_end (without_segments places segments) ≤ file_end segments)
  baskets_left [] segments shape kept = (shape, omega arith)
  baskets_left (q ∷ places) segments shape kept =
      let one = (basket_left segments heads info q (places ++ rest) name shape kept).1 in
      let more = baskets_left places (without_segment q segments) one.shape (basket_less segments heads info q (places ++ rest) name shape kept) in
      (more.0, omega (arith, more.1, one.end))

  front_all : (test : ℕ → Bool) (xs ys : List ℕ) → list_all test (xs ++ ys) ≡ true → list_all test xs ≡ true
  front_all test [] ys each = refl
  front_all test (x ∷ xs) ys each = let two = and_parts (test x) (list_all test (xs ++ ys)) each in and_from (test x) (list_all test xs) two.0 (front_all test xs ys two.1)

  places_later : (places : List ℕ) (segments : List Segment) → AreSegments segments → IsClosable segments heads info (places ++ rest) name → (list_all (nat_lt 100) places ≡ true) × AreApart places
  places_later [] segments shape kept = (refl, tt)
  places_later (q ∷ places) segments shape kept =
      let later = basket_later segments heads info q (places ++ rest) name shape kept in
      let more = places_later places (without_segment q segments) (basket_left segments heads info q (places ++ rest) name shape kept).1.shape (basket_less segments heads info q (places ++ rest) name shape kept) in
      let none = basket_apart segments heads info q (places ++ rest) name shape kept in (
        and_from (nat_lt 100 q) (list_all (nat_lt 100) places) (lt-ltb 100 q later) more.0,
        ((or_parts (is_among places q) (is_among rest q) (sym (any_append q places rest) ∙ none)).0, more.1),
      )

  pub places_releasable : (places : List ℕ) (segments : List Segment) → AreSegments segments → IsClosable segments heads info (places ++ rest) name → AreReleasable segments places
  places_releasable places segments shape kept =
      let later = places_later places segments shape kept in
      record { there = front_all (λ p. list_any (begins_at p) segments) places rest kept.stored; later = later.0; apart = later.1 }

  -- the directory record stays where it is
  pub directory_gone : (nbytes_name : ℕ) (places : List ℕ) (segments : List Segment) → AreSegments segments → IsClosable segments heads info (places ++ rest) name → HoldsDirectory nbytes_name segments
      → HoldsDirectory nbytes_name (without_segments places segments)
  directory_gone nbytes_name [] segments shape kept within = within
  directory_gone nbytes_name (q ∷ places) segments shape kept within =
      directory_gone nbytes_name places (without_segment q segments) (basket_left segments heads info q (places ++ rest) name shape kept).1.shape (basket_less segments heads info q (places ++ rest) name shape kept)
      (directory_left nbytes_name q segments (without_segment q segments) refl (basket_later segments heads info q (places ++ rest) name shape kept) shape.adjacent within)
