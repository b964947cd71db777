-- A file without its garbage: each of its records is the first, that of the class list, or an item's.
use Rattle.std.proofs.Common.{◌≡◌, ◌∙◌, inl, inr, ℕ, ◌+◌, ◌<◌, ◌≤◌, Bool, true, false, cond, not, ◌==◌, ◌||◌, ◌&&◌, ltb, List, [], ◌∷◌, codes, length, Option, Some, None, refl, sym, ap, arith}
use Rattle.std.proofs.lemmas.{Bool.{and_from, and_parts, eq-eqb, eqb-true, ne_eqb}, List.{Sorted.{list_any-IsPermutation}}}
use Rattle.std.specs.{List.{filter, list_all, list_any, Sorted.{IsPermutation}}, Option.{IfSome}, Str.{bytes_eq}}
use Rattle.rio_key.specs.declared.head.KeyHead.{KeyHead}
use Rattle.rio_chain.specs.declared.segment.Segment.{Segment, TheVariants.{Record, Gap}}
use Rattle.rio_state.specs.KeyedRecords.{KeyedRecord, has_class, is_info_key, is_internal, is_in_directory, has_info_name, is_top_key}
use Rattle.rio_state.proofs.Members.{In, any_from, in_filter, filter_in}
use Rattle.rio_chain.specs.Keyed.{AreKeyed}
use Rattle.rio_recover.specs.{Checks.{is_item_key}, Closable.{is_list_at, is_owned, list_count}, Keys.{HeadsRise}, Recovered.{is_left_over, place_in}}
use Rattle.rio_recover.proofs.{BasketKeys.{same_key}, Closables.{IsPlaced}, Keyed.{info_head_of, later_head}}

-- ---- the class list that counts

pub record IsListKey (heads : List KeyHead) (h : KeyHead) : Type 0 where
  pub among : In h heads
  pub info : is_info_key h ≡ true

behind_list : (k : KeyHead) (heads : List KeyHead) (o : Option KeyHead) → IfSome o (IsListKey heads) → IfSome o (IsListKey (k ∷ heads))
behind_list k heads None is = tt
behind_list k heads (Some h) is = record { among = inr is.among; info = is.info }

pub list_found : (heads : List KeyHead) → IfSome (info_head_of heads) (IsListKey heads)
list_found [] = tt
list_found (k ∷ heads) = by (is_info_key k) refl (behind_list k heads (info_head_of heads) (list_found heads))
  where
    later : (o : Option KeyHead) → is_info_key k ≡ true → IfSome o (IsListKey (k ∷ heads)) → IfSome (later_head k o) (IsListKey (k ∷ heads))
    later None e rest = record { among = inl refl; info = e }
    later (Some l) e rest = either (ltb l.cycle k.cycle)
      where
        either : (b : Bool) → IfSome (cond b (Some k) (Some l)) (IsListKey (k ∷ heads))
        either true = record { among = inl refl; info = e }
        either false = rest

    by : (b : Bool) → is_info_key k ≡ b → IfSome (info_head_of heads) (IsListKey (k ∷ heads)) → IfSome (cond b (later_head k (info_head_of heads)) (info_head_of heads)) (IsListKey (k ∷ heads))
    by true e rest = later (info_head_of heads) e rest
    by false e rest = rest

-- it is no item's
pub list_no_top : (h : KeyHead) → is_info_key h ≡ true → is_top_key h ≡ false
list_no_top h e = let parts = and_parts (is_in_directory h) (has_info_name h) e in ap (λ (b : Bool). is_in_directory h && not b) parts.1 ∙ and_no (is_in_directory h)
  where
    and_no : (b : Bool) → (b && false) ≡ false
    and_no true = refl
    and_no false = refl

-- the first record is neither
first_internal : (h : KeyHead) → h.class ≡ codes "TFile" → is_internal h ≡ true
first_internal h class = ap (λ (c : List ℕ). bytes_eq c (codes "TFile") || bytes_eq c (codes "TBasket")) class

outside : (h : KeyHead) → h.class ≡ codes "TFile" → is_in_directory h ≡ false
outside h class = ap (λ (b : Bool). (h.pdir == 100) && not b) (first_internal h class) ∙ and_no (h.pdir == 100)
  where
    and_no : (b : Bool) → (b && false) ≡ false
    and_no true = refl
    and_no false = refl

pub first_no_top : (h : KeyHead) → h.class ≡ codes "TFile" → is_top_key h ≡ false
first_no_top h class = ap (λ (b : Bool). b && not (has_info_name h)) (outside h class)

pub first_no_list : (h : KeyHead) → h.class ≡ codes "TFile" → is_info_key h ≡ false
first_no_list h class = ap (λ (b : Bool). b && has_info_name h) (outside h class)

-- ---- how many are kept

-- a key of an item: of each name of trees that of the greatest cycle
abbrev pub is_own : List KeyedRecord → KeyHead → Bool
is_own tops h = is_top_key h && is_item_key tops h

-- the first, the list's, and those of items
abbrev pub is_plain : List KeyedRecord → ℕ → KeyHead → Bool
is_plain tops info h = (h.seek == 100) || (h.seek == info) || is_own tops h

abbrev pub is_stored : List ℕ → KeyHead → Bool
is_stored baskets h = list_any (λ p. p == h.seek) baskets

abbrev pub is_kept : List KeyedRecord → ℕ → List ℕ → KeyHead → Bool
is_kept tops info baskets h = not (is_left_over tops info baskets h)

pub kept_parts : (tops : List KeyedRecord) (info : ℕ) (baskets : List ℕ) (h : KeyHead) → is_kept tops info baskets h ≡ (is_plain tops info h || is_stored baskets h)
kept_parts tops info baskets h = twice (is_plain tops info h || is_stored baskets h)
  where
    twice : (c : Bool) → not (not c) ≡ c
    twice true = refl
    twice false = refl

abbrev pub count_of : (KeyHead → Bool) → List KeyHead → ℕ
count_of p heads = length (filter p heads)

counted : (p : KeyHead → Bool) (h : KeyHead) (heads : List KeyHead) (b : Bool) → p h ≡ b → count_of p (h ∷ heads) ≡ cond b 1 0 + count_of p heads
counted p h heads b e = ap (λ (c : Bool). length (cond c (h ∷ filter p heads) (filter p heads))) e ∙ by b
  where
    by : (c : Bool) → length (cond c (h ∷ filter p heads) (filter p heads)) ≡ cond c 1 0 + length (filter p heads)
    by true = omega arith
    by false = omega arith

-- two tests that no key passes both of
pub count_either : (p q r : KeyHead → Bool) (heads : List KeyHead) → ((h : KeyHead) → r h ≡ (p h || q h)) → ((h : KeyHead) → In h heads → q h ≡ true → p h ≡ false) → count_of r heads ≡ count_of p heads + count_of q heads
count_either p q r [] either apart = refl
count_either p q r (h ∷ heads) either apart =
    by (p h) (q h) refl refl (count_either p q r heads either (λ k i. apart k (inr i)))
  where
    by : (a b : Bool) → p h ≡ a → q h ≡ b → count_of r heads ≡ count_of p heads + count_of q heads → count_of r (h ∷ heads) ≡ count_of p (h ∷ heads) + count_of q (h ∷ heads)
    by true true x y e = let f = apart h (inl refl) y in absurd cc
    by true false x y e = let z : r h ≡ true = either h ∙ (λ i. x i || y i) in omega (arith, e, counted r h heads true z, counted p h heads true x, counted q h heads false y)
    by false true x y e = let z : r h ≡ true = either h ∙ (λ i. x i || y i) in omega (arith, e, counted r h heads true z, counted p h heads false x, counted q h heads true y)
    by false false x y e = let z : r h ≡ false = either h ∙ (λ i. x i || y i) in omega (arith, e, counted r h heads false z, counted p h heads false x, counted q h heads false y)

module _ (tops : List KeyedRecord) where
  plain_as : (info : ℕ) (h : KeyHead) (a b : Bool) → (h.seek == 100) ≡ a → (h.seek == info) ≡ b → is_plain tops info h ≡ (a || b || is_own tops h)
  plain_as info h a b x y = λ i. x i || y i || is_own tops h

  no_own : (h : KeyHead) → is_top_key h ≡ false → is_own tops h ≡ false
  no_own h e = ap (λ (b : Bool). b && is_item_key tops h) e

  -- behind a place that is neither the first's nor the list's the items alone are kept
  items_kept : (info p : ℕ) (heads : List KeyHead) → 100 < p → info < p → HeadsRise p heads → count_of (is_plain tops info) heads ≡ count_of (is_own tops) heads
  items_kept info p [] late low rise = refl
  items_kept info p (h ∷ heads) late low rise =
      let kept = plain_as info h false false (ne_eqb h.seek 100 (omega (arith, late, rise.0))) (ne_eqb h.seek info (omega (arith, low, rise.0))) in
      let one = counted (is_plain tops info) h heads (is_own tops h) kept in
      let two = counted (is_own tops) h heads (is_own tops h) refl in
      let rest = items_kept info (h.seek + 1) heads (omega (arith, late, rise.0)) (omega (arith, low, rise.0)) rise.1 in
      omega (arith, one, two, rest)

  -- and the list's
  list_kept : (l : KeyHead) (p : ℕ) (heads : List KeyHead) → 100 < p → is_top_key l ≡ false → In l heads → HeadsRise p heads → count_of (is_plain tops l.seek) heads ≡ 1 + count_of (is_own tops) heads
  list_kept l p [] late none i rise = absurd i
  list_kept l p (h ∷ heads) late none (inl same) rise =
      let seek : h.seek ≡ l.seek = ap (λ (k : KeyHead). k.seek) same in
      let top : is_own tops h ≡ false = ap (is_own tops) same ∙ no_own l none in
      let kept = plain_as l.seek h false true (ne_eqb h.seek 100 (omega (arith, late, rise.0))) (eq-eqb h.seek l.seek seek) in
      let one = counted (is_plain tops l.seek) h heads true kept in
      let two = counted (is_own tops) h heads false top in
      let rest = items_kept l.seek (h.seek + 1) heads (omega (arith, late, rise.0)) (omega (arith, seek)) rise.1 in
      omega (arith, one, two, rest)
  list_kept l p (h ∷ heads) late none (inr i) rise =
      let far = rise_in (h.seek + 1) heads l rise.1 i in
      let kept = plain_as l.seek h false false (ne_eqb h.seek 100 (omega (arith, late, rise.0))) (ne_eqb h.seek l.seek (omega (arith, far))) in
      let one = counted (is_plain tops l.seek) h heads (is_own tops h) kept in
      let two = counted (is_own tops) h heads (is_own tops h) refl in
      let rest = list_kept l (h.seek + 1) heads (omega (arith, late, rise.0)) none i rise.1 in
      omega (arith, one, two, rest)
    where
      rise_in : (q : ℕ) (hs : List KeyHead) (k : KeyHead) → HeadsRise q hs → In k hs → q ≤ k.seek
      rise_in q [] k rise i = absurd i
      rise_in q (x ∷ hs) k rise (inl same) = omega (arith, ap (λ (y : KeyHead). y.seek) same, rise.0)
      rise_in q (x ∷ hs) k rise (inr i) = omega (arith, rise_in (x.seek + 1) hs k rise.1 i, rise.0)

  pub kept_count : (first : KeyHead) (heads : List KeyHead) (info : Option KeyHead) → first.seek ≡ 100 → first.class ≡ codes "TFile" → HeadsRise 101 heads → IfSome info (IsListKey (first ∷ heads))
      → count_of (is_plain tops (place_in info)) (first ∷ heads) ≡ 1 + list_count info + count_of (is_own tops) (first ∷ heads)
  kept_count first heads None at class rise is =
      let one = counted (is_plain tops 0) first heads true (plain_as 0 first true (first.seek == 0) (eq-eqb first.seek 100 at) refl) in
      let two = counted (is_own tops) first heads false (no_own first (first_no_top first class)) in
      omega (arith, one, two, items_kept 0 101 heads (omega arith) (omega arith) rise)
  kept_count first heads (Some l) at class rise is =
      let one = counted (is_plain tops l.seek) first heads true (plain_as l.seek first true (first.seek == l.seek) (eq-eqb first.seek 100 at) refl) in
      let two = counted (is_own tops) first heads false (no_own first (first_no_top first class)) in
      omega (arith, one, two, by is.among)
    where
      by : In l (first ∷ heads) → count_of (is_plain tops l.seek) heads ≡ 1 + count_of (is_own tops) heads
      by (inl same) = let f : true ≡ false = sym is.info ∙ ap is_info_key (sym same) ∙ first_no_list first class in absurd cc
      by (inr i) = list_kept l 101 heads (omega arith) (list_no_top l is.info) i rise

-- ---- a basket's key

-- the key of a basket is neither the first, nor the list's, nor an item's
basket_internal : (h : KeyHead) → has_class (codes "TBasket") h ≡ true → is_internal h ≡ true
basket_internal h e = or_last (has_class (codes "TFile") h) e
  where
    or_last : (a : Bool) {b : Bool} → b ≡ true → (a || b) ≡ true
    or_last true e = refl
    or_last false e = e

basket_outside : (h : KeyHead) → has_class (codes "TBasket") h ≡ true → is_in_directory h ≡ false
basket_outside h e = ap (λ (b : Bool). (h.pdir == 100) && not b) (basket_internal h e) ∙ and_no (h.pdir == 100)
  where
    and_no : (b : Bool) → (b && false) ≡ false
    and_no true = refl
    and_no false = refl

module _ (tops : List KeyedRecord) (heads : List KeyHead) (rise : HeadsRise 100 heads) (first : KeyHead) (begins : In first heads) (class : first.class ≡ codes "TFile") (info : Option KeyHead) (listed : IfSome info (IsListKey heads)) where
  no_first : (h : KeyHead) → In h heads → has_class (codes "TBasket") h ≡ true → first.seek ≡ 100 → (h.seek == 100) ≡ false
  no_first h i basket at = ne_eqb h.seek 100 (λ same.
      let one : h ≡ first = same_key 100 heads h first rise i begins (same ∙ sym at) in
      let f : true ≡ false = sym basket ∙ ap (λ (k : KeyHead). has_class (codes "TBasket") k) one ∙ ap (λ (c : List ℕ). bytes_eq c (codes "TBasket")) class in
      cc)

  no_list : (h : KeyHead) (o : Option KeyHead) → IfSome o (IsListKey heads) → In h heads → has_class (codes "TBasket") h ≡ true → (h.seek == place_in o) ≡ false
  no_list h None is i basket = ne_eqb h.seek 0 (λ same. omega (arith, same, late_in 100 heads h rise i))
    where
      late_in : (p : ℕ) (hs : List KeyHead) (k : KeyHead) → HeadsRise p hs → In k hs → p ≤ k.seek
      late_in p [] k up j = absurd j
      late_in p (x ∷ hs) k up (inl e) = omega (arith, ap (λ (y : KeyHead). y.seek) e, up.0)
      late_in p (x ∷ hs) k up (inr j) = omega (arith, late_in (x.seek + 1) hs k up.1 j, up.0)
  no_list h (Some l) is i basket = ne_eqb h.seek l.seek (λ same.
      let one : h ≡ l = same_key 100 heads h l rise i is.among same in
      let inside : is_in_directory h ≡ true = ap is_in_directory one ∙ (and_parts (is_in_directory l) (has_info_name l) is.info).0 in
      let f : true ≡ false = sym inside ∙ basket_outside h basket in
      cc)

  pub stored_apart : (h : KeyHead) → In h heads → has_class (codes "TBasket") h ≡ true → first.seek ≡ 100 → is_plain tops (place_in info) h ≡ false
  stored_apart h i basket at =
      let own : is_own tops h ≡ false = ap (λ (b : Bool). (b && not (has_info_name h)) && is_item_key tops h) (basket_outside h basket) in
      λ j. no_first h i basket at j || no_list h info listed i basket j || own j

-- ---- whose they are

module _ (P : ℕ → ℕ → KeyHead → Type 0) (placed : IsPlaced P) (info : Option KeyHead) (table : List KeyHead) (baskets : List ℕ) where
  pub owned_by : (segments : List Segment) (heads : List KeyHead) → AreKeyed P segments heads → ((h : KeyHead) → In h heads → is_owned info table baskets (Record h.seek 0) ≡ true)
      → list_all (is_owned info table baskets) segments ≡ true
  owned_by [] [] keyed each = refl
  owned_by [] (h ∷ heads) keyed each = absurd keyed
  owned_by (Record p n ∷ segments) [] keyed each = absurd keyed
  owned_by (Record p n ∷ segments) (h ∷ heads) keyed each =
      and_from _ _ (ap (λ (q : ℕ). is_owned info table baskets (Record q 0)) (sym (placed p n h keyed.0)) ∙ each h (inl refl)) (owned_by segments heads keyed.1 (λ k i. each k (inr i)))
  owned_by (Gap p n ∷ segments) heads keyed each = and_from _ _ refl (owned_by segments heads keyed each)

-- a key that isn't left over is the first, the list's, an item's, or a basket's
pub owner : (tops : List KeyedRecord) (heads : List KeyHead) (info : Option KeyHead) (table : List KeyHead) (baskets : List ℕ) (h : KeyHead) → IsPermutation (filter (is_item_key tops) (filter is_top_key heads)) table → 0 < h.seek
    → In h (filter (is_kept tops (place_in info) baskets) heads) → is_owned info table baskets (Record h.seek 0) ≡ true
owner tops heads info table baskets h moved some i =
    let f = filter_in (is_kept tops (place_in info) baskets) h heads i in
    by (h.seek == 100) (h.seek == place_in info) (is_own tops h) (is_stored baskets h) refl refl refl refl (sym (kept_parts tops (place_in info) baskets h) ∙ f.1) f.0
  where
    listed : (o : Option KeyHead) → (h.seek == place_in o) ≡ true → is_list_at h.seek o ≡ true
    listed None e = absurd (omega (arith, eqb-true h.seek 0 e, some))
    listed (Some l) e = eq-eqb l.seek h.seek (sym (eqb-true h.seek l.seek e))

    or_two : (a b c d : Bool) → b ≡ true → (a || b || c || d) ≡ true
    or_two true b c d e = refl
    or_two false true c d e = refl
    or_two false false c d e = absurd cc

    or_three : (a b c d : Bool) → c ≡ true → (a || b || c || d) ≡ true
    or_three true b c d e = refl
    or_three false true c d e = refl
    or_three false false true d e = refl
    or_three false false false d e = absurd cc

    or_last : (x d : Bool) → d ≡ true → (x || d) ≡ true
    or_last true d e = refl
    or_last false d e = e

    by : (a b c d : Bool) → (h.seek == 100) ≡ a → (h.seek == place_in info) ≡ b → is_own tops h ≡ c → is_stored baskets h ≡ d → (a || b || c || d) ≡ true → In h heads
        → ((h.seek == 100) || is_list_at h.seek info || list_any (λ k. k.seek == h.seek) table || list_any (λ q. q == h.seek) baskets) ≡ true
    by true b c d x y z w e j = ap (λ (t : Bool). t || is_list_at h.seek info || list_any (λ k. k.seek == h.seek) table || list_any (λ q. q == h.seek) baskets) x
    by false true c d x y z w e j = or_two (h.seek == 100) (is_list_at h.seek info) (list_any (λ k. k.seek == h.seek) table) (list_any (λ q. q == h.seek) baskets) (listed info y)
    by false false true d x y z w e j =
        let parts = and_parts (is_top_key h) (is_item_key tops h) z in
        or_three (h.seek == 100) (is_list_at h.seek info) (list_any (λ k. k.seek == h.seek) table) (list_any (λ q. q == h.seek) baskets)
        (sym (list_any-IsPermutation (λ k. k.seek == h.seek) (filter (is_item_key tops) (filter is_top_key heads)) table moved)
        ∙ any_from (λ k. k.seek == h.seek) h (filter (is_item_key tops) (filter is_top_key heads)) (in_filter (is_item_key tops) h (filter is_top_key heads) (in_filter is_top_key h heads j parts.0) parts.1) (eq-eqb h.seek h.seek refl))
    by false false false true x y z w e j = or_last ((h.seek == 100) || is_list_at h.seek info || list_any (λ k. k.seek == h.seek) table) (list_any (λ q. q == h.seek) baskets) w
    by false false false false x y z w e j = absurd cc
