-- Too many items, and no room for a close.
use Rattle.std.proofs.Common.{◌≡◌, ◌∙◌, refl, sym, ℕ, ◌+◌, ◌-◌, ◌*◌, ◌^◌, ◌<◌, ◌≤◌, min, List, [], ◌∷◌, ◌++◌, length, Bool, ltb, Some, ap, slice_get, arith}
use Rattle.std.proofs.{lemmas.Bool.{le-ltb, lt-ltb, ltb-false}, lemmas.List.Elements.{All-head, All-tail}, lemmas.List.Sums.{sum_by-cons}}
use Rattle.std.specs.List.{All, sum_by}
use Rattle.rio_key.specs.{Written.{written_key}, declared.head.KeyHead.{KeyHead}}
use Rattle.rio_head.specs.declared.reason.Reason.TheVariants.{NoRoom, TooMany}
use Rattle.rio_chain.specs.Found.{IsShortKey}
use Rattle.rio_dir.specs.Table.{heads_size}
use Rattle.rio_machine.specs.Limits.{item_limit}
use Rattle.rio_state.proofs.{CloseSizes.{close_size_is_need, closing_sum}, Unreasoned.{if_none, nil_two}, NoReason.{none_if}}
use Rattle.rio_state.specs.{Closing.{KeptRecords, close_need, end_limit, free_length, list_length, open_count, padded_length, saved_lengths}, Reasons.{ReasonAt, reason_at, reason_if}, Sizes.{close_size}}

-- short keys take few bytes together
pub sizes_short : (heads : List KeyHead) → All IsShortKey heads → heads_size heads ≤ 65535 * length heads
sizes_short [] all = omega arith
sizes_short (h ∷ hs) all =
    let short = All-head IsShortKey h hs all in
    let rest = sizes_short hs (All-tail IsShortKey h hs all) in
    omega (arith, rest, short.size, sum_by-cons (λ k. length (written_key k)) h hs)

-- the records that are kept, by the table of the items' keys, with no rows pending
abbrev pub kept_for : List ℕ → List KeyHead → ℕ → KeptRecords
kept_for name heads others = record { name = name; heads = heads; count = others + length heads; trees = [] }

abbrev pub room_of : ℕ → ℕ → KeptRecords → List ReasonAt
room_of items end kept = reason_if (ltb item_limit items) 0 TooMany ++ reason_if (ltb end_limit (end + close_need kept)) 0 NoRoom

-- by numbers that are known
pub need_by : (name : List ℕ) (heads : List KeyHead) (others size count n : ℕ) → size ≡ heads_size heads → count ≡ others + length heads
    → n ≡ close_size name size count → n ≡ close_need (kept_for name heads others)
need_by name heads others size count n sized counted is =
    let kept = kept_for name heads others in
    let saved : sum_by padded_length (saved_lengths kept) ≡ 0 = refl in
    let all : count ≡ kept.count + open_count kept = omega (arith, counted) in
    let same : close_size name size count ≡ close_size name (heads_size heads) (kept.count + open_count kept) = λ i. close_size name (sized i) (all i) in
    omega (arith, is, same, saved, close_size_is_need kept)

few_items : (items : ℕ) → items ≤ item_limit → reason_if (ltb item_limit items) 0 TooMany ≡ []
few_items items le = none_if (ltb item_limit items) 0 TooMany (le-ltb item_limit items le)

pub room_full : (items end : ℕ) (kept : KeptRecords) → items ≤ item_limit → end_limit < end + close_need kept → slice_get (room_of items end kept) 0 ≡ Some (reason_at 0 NoRoom)
room_full items end kept le lt =
    ap (λ (xs : List ReasonAt). slice_get (xs ++ reason_if (ltb end_limit (end + close_need kept)) 0 NoRoom) 0) (few_items items le)
    ∙ ap (λ (b : Bool). slice_get (reason_if b 0 NoRoom) 0) (lt-ltb end_limit (end + close_need kept) lt)

pub room_left : (items end : ℕ) (kept : KeptRecords) → items ≤ item_limit → end + close_need kept ≤ end_limit → room_of items end kept ≡ []
room_left items end kept few low =
    ap (λ (xs : List ReasonAt). xs ++ reason_if (ltb end_limit (end + close_need kept)) 0 NoRoom) (few_items items few)
    ∙ none_if (ltb end_limit (end + close_need kept)) 0 NoRoom (le-ltb end_limit (end + close_need kept) low)

-- and back
pub record LeavesRoom (items end : ℕ) (kept : KeptRecords) : Type 0 where
  pub few : items ≤ item_limit
  pub low : end + close_need kept ≤ end_limit

pub leaves_room : (items end : ℕ) (kept : KeptRecords) → room_of items end kept ≡ [] → LeavesRoom items end kept
leaves_room items end kept e =
    let x = nil_two (reason_if (ltb item_limit items) 0 TooMany) (reason_if (ltb end_limit (end + close_need kept)) 0 NoRoom) e in
    record {
      few = ltb-false item_limit items (if_none (ltb item_limit items) 0 TooMany x.0);
      low = ltb-false end_limit (end + close_need kept) (if_none (ltb end_limit (end + close_need kept)) 0 NoRoom x.1);
    }

-- so many records leave no room
need_large : (kept : KeptRecords) → 10 * kept.count ≤ close_need kept
unfolding close_need
need_large kept = omega (arith, closing_sum padded_length kept)

pub too_many_records : (items end others count : ℕ) (name : List ℕ) (heads : List KeyHead) → items ≤ item_limit → 200000000 ≤ others → others ≡ min count (2 ^ 64 - 1)
    → slice_get (room_of items end (kept_for name heads count)) 0 ≡ Some (reason_at 0 NoRoom)
too_many_records items end others count name heads few many is =
    room_full items end (kept_for name heads count) few (omega (arith, need_large (kept_for name heads count), many, is))

pub count_known : (others count : ℕ) → others < 200000000 → others ≡ min count (2 ^ 64 - 1) → count ≡ others
count_known others count few is = omega (arith, few, is)

-- by the number that was counted
pub room_full_as : (items end others count : ℕ) (name : List ℕ) (heads : List KeyHead) → count ≡ others → slice_get (room_of items end (kept_for name heads others)) 0 ≡ Some (reason_at 0 NoRoom)
    → slice_get (room_of items end (kept_for name heads count)) 0 ≡ Some (reason_at 0 NoRoom)
room_full_as items end others count name heads same is = ap (λ (n : ℕ). slice_get (room_of items end (kept_for name heads n)) 0) same ∙ is

pub room_left_as : (items end others count : ℕ) (name : List ℕ) (heads : List KeyHead) → count ≡ others → room_of items end (kept_for name heads others) ≡ [] → room_of items end (kept_for name heads count) ≡ []
room_left_as items end others count name heads same is = ap (λ (n : ℕ). room_of items end (kept_for name heads n)) same ∙ is
