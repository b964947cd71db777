-- What a session keeps is sound with one record more.
use Rattle.std.proofs.Common.{◌≡◌, ◌==◌, ◌||◌, ℕ, ◌+◌, ◌-◌, ◌≤◌, Bool, true, false, List, [], ◌∷◌, length, Option, Some, None, refl, sym, ap, subst, ◌∙◌, arith}
use Rattle.std.proofs.{lemmas.Bool.{and_from, and_parts, eq-eqb, or_left, or_right}, lemmas.List.Sums.{sum_by-cons}}
use Rattle.std.specs.{Prelude.{IfSome, if◌then◌else◌}, List.{list_all, list_any}}
use Rattle.rio_key.specs.{declared.head.KeyHead.{KeyHead}, Written.{written_key}}
use Rattle.rio_dir.specs.Table.{heads_size, is_before, with_head}
use Rattle.rio_chain.specs.{Placing.{file_end, record_count, rest_of_gap, with_segment}, declared.segment.Segment.{Segment, TheVariants.{Record, Gap}}}
use Rattle.rio_state.specs.Closing.{close_need, end_limit}
use Rattle.rio_close.proofs.Fitting.{count_with}
use Rattle.rio_recover.specs.Closable.{IsClosable, begins_at, is_fit_key, is_list_at, is_owned, is_placed, is_sized, kept_with}

-- ---- segments

rest_count : (place n : ℕ) (segments : List Segment) → record_count (rest_of_gap place n segments) ≡ record_count segments
rest_count place n segments = elim (n == 0) as (λ b. record_count (if b then segments else Gap place n ∷ segments) ≡ record_count segments) [ true ↦ refl | false ↦ refl ]

same_place : (place : ℕ) → (place == place) ≡ true
same_place place = eq-eqb place place refl

pub rest_any : (q place n : ℕ) (segments : List Segment) → list_any (begins_at q) (rest_of_gap place n segments) ≡ list_any (begins_at q) segments
rest_any q place n segments = elim (n == 0) as (λ b. list_any (begins_at q) (if b then segments else Gap place n ∷ segments) ≡ list_any (begins_at q) segments) [ true ↦ refl | false ↦ refl ]

or_both : (a b c : Bool) → (a || b) ≡ true → (b ≡ true → c ≡ true) → (a || c) ≡ true
or_both true b c e next = refl
or_both false b c e next = next e

-- a record begins at its own place
pub new_begins : (place n : ℕ) (segments : List Segment) → list_any (begins_at place) (with_segment place n segments) ≡ true
new_begins place n [] = or_left (place == place) false (same_place place)
new_begins place n (Record p m ∷ segments) = or_right (p == place) (list_any (begins_at place) (with_segment place n segments)) (new_begins place n segments)
new_begins place n (Gap p m ∷ segments) =
    elim (p == place) as (λ b. list_any (begins_at place) (if b then Record place n ∷ rest_of_gap (place + n) (m - n) segments else Gap p m ∷ with_segment place n segments) ≡ true) [
      | true ↦ or_left (place == place) (list_any (begins_at place) (rest_of_gap (place + n) (m - n) segments)) (same_place place)
      | false ↦ new_begins place n segments
    ]

-- and the others where they did
pub begins_still : (q place n : ℕ) (segments : List Segment) → list_any (begins_at q) segments ≡ true → list_any (begins_at q) (with_segment place n segments) ≡ true
begins_still q place n [] e = absurd cc
begins_still q place n (Record p m ∷ segments) e =
    or_both (p == q) (list_any (begins_at q) segments) (list_any (begins_at q) (with_segment place n segments)) e (λ f. begins_still q place n segments f)
begins_still q place n (Gap p m ∷ segments) e =
    elim (p == place) as (λ b. list_any (begins_at q) (if b then Record place n ∷ rest_of_gap (place + n) (m - n) segments else Gap p m ∷ with_segment place n segments) ≡ true) [
      | true ↦ or_right (place == q) (list_any (begins_at q) (rest_of_gap (place + n) (m - n) segments)) (rest_any q (place + n) (m - n) segments ∙ e)
      | false ↦ begins_still q place n segments e
    ]

-- ---- keys

pub all_with : (test : KeyHead → Bool) (h : KeyHead) (heads : List KeyHead) → test h ≡ true → list_all test heads ≡ true → list_all test (with_head h heads) ≡ true
all_with test h [] one all = and_from (test h) true one refl
all_with test h (k ∷ ks) one all =
    let parts = and_parts (test k) (list_all test ks) all in
    elim (is_before h.name h.cycle k) as (λ b. list_all test (if b then k ∷ with_head h ks else h ∷ k ∷ ks) ≡ true) [
      | true ↦ and_from (test k) (list_all test (with_head h ks)) parts.0 (all_with test h ks one parts.1)
      | false ↦ and_from (test h) (list_all test (k ∷ ks)) one all
    ]

pub all_placed : (place n : ℕ) (segments : List Segment) (heads : List KeyHead) → list_all (is_placed segments) heads ≡ true → list_all (is_placed (with_segment place n segments)) heads ≡ true
all_placed place n segments [] all = refl
all_placed place n segments (h ∷ heads) all =
    let parts = and_parts (is_placed segments h) (list_all (is_placed segments) heads) all in
    and_from (is_placed (with_segment place n segments) h) (list_all (is_placed (with_segment place n segments)) heads) (begins_still h.seek place n segments parts.0) (all_placed place n segments heads parts.1)

pub length_with : (h : KeyHead) (heads : List KeyHead) → length (with_head h heads) ≡ length heads + 1
length_with h [] = refl
length_with h (k ∷ ks) =
    elim (is_before h.name h.cycle k) as (λ b. length (if b then k ∷ with_head h ks else h ∷ k ∷ ks) ≡ length (k ∷ ks) + 1) [
      | true ↦ omega (arith, length_with h ks)
      | false ↦ omega arith
    ]

pub size_with : (h : KeyHead) (heads : List KeyHead) → heads_size (with_head h heads) ≡ heads_size heads + length (written_key h)
size_with h [] = sum_by-cons (λ k. length (written_key k)) h [] ∙ omega arith
size_with h (k ∷ ks) =
    elim (is_before h.name h.cycle k) as (λ b. heads_size (if b then k ∷ with_head h ks else h ∷ k ∷ ks) ≡ heads_size (k ∷ ks) + length (written_key h)) [
      | true ↦ omega (arith, size_with h ks, sum_by-cons (λ j. length (written_key j)) k (with_head h ks), sum_by-cons (λ j. length (written_key j)) k ks)
      | false ↦ omega (arith, sum_by-cons (λ j. length (written_key j)) h (k ∷ ks), sum_by-cons (λ j. length (written_key j)) k ks)
    ]

-- ---- records have keys

pub any_new : (test : KeyHead → Bool) (h : KeyHead) (heads : List KeyHead) → test h ≡ true → list_any test (with_head h heads) ≡ true
any_new test h [] one = or_left (test h) false one
any_new test h (k ∷ ks) one =
    elim (is_before h.name h.cycle k) as (λ b. list_any test (if b then k ∷ with_head h ks else h ∷ k ∷ ks) ≡ true) [
      | true ↦ or_right (test k) (list_any test (with_head h ks)) (any_new test h ks one)
      | false ↦ or_left (test h) (list_any test (k ∷ ks)) one
    ]

pub any_still : (test : KeyHead → Bool) (h : KeyHead) (heads : List KeyHead) → list_any test heads ≡ true → list_any test (with_head h heads) ≡ true
any_still test h [] e = absurd cc
any_still test h (k ∷ ks) e =
    elim (is_before h.name h.cycle k) as (λ b. list_any test (if b then k ∷ with_head h ks else h ∷ k ∷ ks) ≡ true) [
      | true ↦ or_both (test k) (list_any test ks) (list_any test (with_head h ks)) e (λ f. any_still test h ks f)
      | false ↦ or_right (test h) (list_any test (k ∷ ks)) e
    ]

-- each record is the first, that of the class list, one of a key, or a basket, with one more too
module _ (info : Option KeyHead) (h : KeyHead) (baskets : List ℕ) where
  still : (a b c d : Bool) → ((a || b) || d) ≡ true → (b ≡ true → c ≡ true) → ((a || c) || d) ≡ true
  still true b c d e next = refl
  still false true c d e next = ap (λ (x : Bool). x || d) (next refl)
  still false false true d e next = refl
  still false false false d e next = e

  owned_still : (heads : List KeyHead) (x : Segment) → is_owned info heads baskets x ≡ true → is_owned info (with_head h heads) baskets x ≡ true
  owned_still heads (Record p n) e =
      still ((p == 100) || is_list_at p info) (list_any (λ k. k.seek == p) heads) (list_any (λ k. k.seek == p) (with_head h heads)) (list_any (λ q. q == p) baskets) e
      (λ f. any_still (λ k. k.seek == p) h heads f)
  owned_still heads (Gap p n) e = refl

  all_still : (heads : List KeyHead) (segments : List Segment) → list_all (is_owned info heads baskets) segments ≡ true → list_all (is_owned info (with_head h heads) baskets) segments ≡ true
  all_still heads [] all = refl
  all_still heads (x ∷ xs) all =
      let parts = and_parts (is_owned info heads baskets x) (list_all (is_owned info heads baskets) xs) all in
      and_from (is_owned info (with_head h heads) baskets x) (list_all (is_owned info (with_head h heads) baskets) xs) (owned_still heads x parts.0) (all_still heads xs parts.1)

  rest_owned : (heads : List KeyHead) (place n : ℕ) (segments : List Segment) → list_all (is_owned info heads baskets) segments ≡ true → list_all (is_owned info heads baskets) (rest_of_gap place n segments) ≡ true
  rest_owned heads place n segments all = elim (n == 0) as (λ b. list_all (is_owned info heads baskets) (if b then segments else Gap place n ∷ segments) ≡ true) [ true ↦ all | false ↦ all ]

  owned_new : (heads : List KeyHead) (n : ℕ) → is_owned info (with_head h heads) baskets (Record h.seek n) ≡ true
  owned_new heads n =
      or_left (((h.seek == 100) || is_list_at h.seek info) || list_any (λ k. k.seek == h.seek) (with_head h heads)) (list_any (λ q. q == h.seek) baskets)
      (or_right ((h.seek == 100) || is_list_at h.seek info) (list_any (λ k. k.seek == h.seek) (with_head h heads)) (any_new (λ k. k.seek == h.seek) h heads (same_place h.seek)))

  pub all_owned : (n : ℕ) (segments : List Segment) (heads : List KeyHead) → list_all (is_owned info heads baskets) segments ≡ true → list_all (is_owned info (with_head h heads) baskets) (with_segment h.seek n segments) ≡ true
  all_owned n [] heads all = and_from (is_owned info (with_head h heads) baskets (Record h.seek n)) true (owned_new heads n) refl
  all_owned n (Record p m ∷ segments) heads all =
      let parts = and_parts (is_owned info heads baskets (Record p m)) (list_all (is_owned info heads baskets) segments) all in
      and_from (is_owned info (with_head h heads) baskets (Record p m)) (list_all (is_owned info (with_head h heads) baskets) (with_segment h.seek n segments)) (owned_still heads (Record p m) parts.0) (all_owned n segments heads parts.1)
  all_owned n (Gap p m ∷ segments) heads all =
      elim (p == h.seek) as (λ b. list_all (is_owned info (with_head h heads) baskets) (if b then Record h.seek n ∷ rest_of_gap (h.seek + n) (m - n) segments else Gap p m ∷ with_segment h.seek n segments) ≡ true) [
        | true ↦ and_from (is_owned info (with_head h heads) baskets (Record h.seek n)) (list_all (is_owned info (with_head h heads) baskets) (rest_of_gap (h.seek + n) (m - n) segments)) (owned_new heads n)
            (rest_owned (with_head h heads) (h.seek + n) (m - n) segments (all_still heads segments all))
        | false ↦ all_owned n segments heads all
      ]

-- and so do the records of baskets
pub stored_still : (place n : ℕ) (segments : List Segment) (baskets : List ℕ) → list_all (λ p. list_any (begins_at p) segments) baskets ≡ true → list_all (λ p. list_any (begins_at p) (with_segment place n segments)) baskets ≡ true
stored_still place n segments [] all = refl
stored_still place n segments (q ∷ baskets) all =
    let parts = and_parts (list_any (begins_at q) segments) (list_all (λ p. list_any (begins_at p) segments) baskets) all in
    and_from (list_any (begins_at q) (with_segment place n segments)) (list_all (λ p. list_any (begins_at p) (with_segment place n segments)) baskets) (begins_still q place n segments parts.0) (stored_still place n segments baskets parts.1)

-- the class list stays where it is
pub listed_still : (info : Option KeyHead) (place n : ℕ) (segments : List Segment) → IfSome info (λ h. is_placed segments h ≡ true) → IfSome info (λ h. is_placed (with_segment place n segments) h ≡ true)
listed_still None place n segments there = tt
listed_still (Some h) place n segments there = begins_still h.seek place n segments there

-- ---- all of it

pub kept_more : (segments : List Segment) (heads : List KeyHead) (info : Option KeyHead) (baskets name : List ℕ) (n : ℕ) (h : KeyHead) → IsClosable segments heads info baskets name → is_sized h ≡ true → is_fit_key h ≡ true
    → file_end (with_segment h.seek n segments) + close_need (kept_with name (with_head h heads) (record_count segments + 1)) ≤ end_limit
    → IsClosable (with_segment h.seek n segments) (with_head h heads) info baskets name
kept_more segments heads info baskets name n h kept sized fit room = record {
  sized = all_with is_sized h heads sized kept.sized;
  fit = all_with is_fit_key h heads fit kept.fit;
  placed = all_with (is_placed (with_segment h.seek n segments)) h heads (new_begins h.seek n segments) (all_placed h.seek n segments heads kept.placed);
  listed = listed_still info h.seek n segments kept.listed;
  stored = stored_still h.seek n segments baskets kept.stored;
  owned = all_owned info h baskets n segments heads kept.owned;
  short = kept.short;
  count = omega (arith, count_with h.seek n segments, length_with h heads, kept.count);
  room = subst (λ (k : ℕ). file_end (with_segment h.seek n segments) + close_need (kept_with name (with_head h heads) k) ≤ end_limit) (sym (count_with h.seek n segments)) room;
}
