-- A basket that is given has the entry for which it was wanted, and then one branch less wants one.
use Rattle.std.proofs.Common.{◌≡◌, ◌&&◌, ℕ, zero, suc, ◌+◌, ◌-◌, ◌<◌, ◌≤◌, ltb, leb, Bool, true, false, cond, List, [], ◌∷◌, length, Option, Some, None, refl, sym, ap, subst, ◌∙◌, slice_index_or, arith}
use Rattle.std.proofs.{lemmas.Bool.{le-leb, lt-ltb, ltb-true, ltb-false}, lemmas.Option.{get_or_from_slice_get, slice_get_within}}
use Rattle.std.specs.{Option.{option_map}, Prelude.{is_none, slice_get, slice_set, not, option_and_then, unwrap_or}}
use Rattle.rio_tree.specs.{Index.{IsIndex, RisesFrom, basket_counts, counts_from}, declared.basket_at.BasketAt.{BasketAt}, declared.head.Branch.{Branch}}
use Rattle.rio_tree.specs.declared.refusal.BranchRefusal.{BranchRefusal}
use Rattle.rio_entry.specs.Index.{basket_holding, holder}
use Rattle.rio_index.specs.Scan.{CanGoOn, CanHold, IsWanted, RowScan, baskets_at, first_behind, entry_count, first_entry, first_wanted, has_entry, holding, holds_entry, lane_at, one_wanted, wanted_by, wanted_from, wanting, wanting_from}
use Rattle.rio_index.specs.{declared.lane.Held.{Held}, declared.lane.Lane.{Lane}}
use Rattle.rio_index.proofs.ScanLaws.{goes_on, index_at}

-- ---- the entries of the basket that holds an entry

some_is : (i j : ℕ) → (let o : Option ℕ = Some i in o) ≡ Some j → i ≡ j
some_is i j e = cc

pair_is : (x y : ℕ × ℕ) → (let o : Option (ℕ × ℕ) = Some x in o) ≡ Some y → x ≡ y
pair_is x y e = cc

one_more_is : (o : Option ℕ) (k : ℕ) → option_map (λ j. j + 1) o ≡ Some k → (j : ℕ) × (o ≡ Some j) × (suc j ≡ k)
one_more_is None k e = absurd cc
one_more_is (Some j) k e = let same = some_is (j + 1) k e in (j, refl, omega (arith, same))

abbrev pub HasIt : ℕ → ℕ → ℕ → Type 0
HasIt first entry n = (first ≤ entry) × (entry < first + n)

has_it_from : (b : BasketAt) (bs : List BasketAt) (entries entry k n : ℕ) → RisesFrom b.first bs entries → b.first ≤ entry → holder (counts_from b.first bs entries) (entry - b.first) ≡ Some k → slice_get (counts_from b.first bs entries) k ≡ Some n → HasIt (first_entry (b ∷ bs) k) entry n
has_it_from b [] entries entry k n rise le is count = by (ltb (entry - b.first) (entries - b.first)) refl is
  where
    by : (t : Bool) → ltb (entry - b.first) (entries - b.first) ≡ t → cond t (Some 0) None ≡ Some k → HasIt (first_entry (b ∷ []) k) entry n
    by false e own = absurd cc
    by true e own =
        let lt = ltb-true _ _ e in
        let zeroth = some_is 0 k own in
        let P : ℕ → Type 0 = λ i. slice_get ((entries - b.first) ∷ []) i ≡ Some n → HasIt (first_entry (b ∷ []) i) entry n in
        subst P zeroth (λ c. let same = some_is (entries - b.first) n c in (le, omega (arith, lt, same, le))) count
has_it_from b (c ∷ bs) entries entry k n rise le is count = by (λ j behind there own. has_it_from c bs entries entry j n rise.1 behind there own) (ltb (entry - b.first) (c.first - b.first)) refl is
  where
    by : ((j : ℕ) → c.first ≤ entry → holder (counts_from c.first bs entries) (entry - c.first) ≡ Some j → slice_get (counts_from c.first bs entries) j ≡ Some n → HasIt (first_entry (c ∷ bs) j) entry n) → (t : Bool) → ltb (entry - b.first) (c.first - b.first) ≡ t → cond t (Some 0) (option_map (λ j. j + 1) (holder (counts_from c.first bs entries) ((entry - b.first) - (c.first - b.first)))) ≡ Some k → HasIt (first_entry (b ∷ c ∷ bs) k) entry n
    by others true e own =
        let lt = ltb-true _ _ e in
        let zeroth = some_is 0 k own in
        let P : ℕ → Type 0 = λ i. slice_get ((c.first - b.first) ∷ counts_from c.first bs entries) i ≡ Some n → HasIt (first_entry (b ∷ c ∷ bs) i) entry n in
        subst P zeroth (λ d. let same = some_is (c.first - b.first) n d in (le, omega (arith, lt, same, le))) count
    by others false e own =
        let high = ltb-false _ _ e in
        let inner = one_more_is (holder (counts_from c.first bs entries) ((entry - b.first) - (c.first - b.first))) k own in
        let same : (entry - b.first) - (c.first - b.first) ≡ entry - c.first = omega (arith, rise.0, high, le) in
        let behind : c.first ≤ entry = omega (arith, rise.0, high, le) in
        let there = ap (holder (counts_from c.first bs entries)) (sym same) ∙ inner.1 in
        let P : ℕ → Type 0 = λ i. slice_get ((c.first - b.first) ∷ counts_from c.first bs entries) i ≡ Some n → HasIt (first_entry (b ∷ c ∷ bs) i) entry n in
        subst P inner.2 (λ d. others inner.0 behind there d) count

pub has_it : (baskets : List BasketAt) (entries entry k n : ℕ) → IsIndex baskets entries → basket_holding baskets entries entry ≡ Some k → slice_get (basket_counts baskets entries) k ≡ Some n → HasIt (first_entry baskets k) entry n
has_it [] entries entry k n index is count = absurd cc
has_it (b ∷ bs) entries entry k n index is count =
    let same : entry - b.first ≡ entry = omega (arith, index.0) in
    has_it_from b bs entries entry k n index.1 (omega (arith, index.0)) (ap (holder (counts_from b.first bs entries)) same ∙ is) count

-- ---- how many entries a basket has

counts_at : (b : BasketAt) (bs : List BasketAt) (entries k : ℕ) → slice_get (counts_from b.first bs entries) k ≡ option_map (λ own. first_behind (b ∷ bs) (suc k) entries - own.first) (slice_get (b ∷ bs) k)
counts_at b [] entries zero = refl
counts_at b [] entries (suc k) = refl
counts_at b (c ∷ bs) entries zero = refl
counts_at b (c ∷ bs) entries (suc k) = counts_at c bs entries k

pub count_is : (baskets : List BasketAt) (entries k : ℕ) → slice_get (basket_counts baskets entries) k ≡ option_map (λ own. first_behind baskets (k + 1) entries - own.first) (slice_get baskets k)
count_is [] entries k = refl
count_is (b ∷ bs) entries k =
    let same : suc k ≡ k + 1 = omega arith in
    counts_at b bs entries k ∙ ap (λ (i : ℕ). option_map (λ own. first_behind (b ∷ bs) i entries - own.first) (slice_get (b ∷ bs) k)) same

-- ---- what is wanted

module _ (entry : ℕ) where
  -- what is wanted is of a branch that is read
  pub wanted_of : (b : Branch) (lane : Lane) (basket : ℕ) → wanted_by entry b lane ≡ Some basket → (lane.refused ≡ None) × (basket_holding b.baskets b.entries entry ≡ Some basket)
  wanted_of b lane basket e = by lane.refused refl (not (holds_entry entry lane.held)) e
    where
      by : (r : Option BranchRefusal) → lane.refused ≡ r → (t : Bool) → cond (is_none r && t) (basket_holding b.baskets b.entries entry) None ≡ Some basket → (lane.refused ≡ None) × (basket_holding b.baskets b.entries entry ≡ Some basket)
      by (Some why) is t own = absurd cc
      by None is true own = (is, own)
      by None is false own = absurd cc

  -- a basket that has the entry leaves nothing to want
  pub wants_none : (b : Branch) (r : Option BranchRefusal) (h : Held) → HasIt h.first entry (length h.entries) → wanted_by entry b (record { refused = r; held = Some h }) ≡ None
  wants_none b r h has =
      let low : leb h.first entry ≡ true = le-leb _ _ has.0 in
      let high : ltb entry (h.first + length h.entries) ≡ true = lt-ltb _ _ has.1 in
      let there : has_entry entry h ≡ true = rw (low, high) refl in
      ap (λ (t : Bool). cond (is_none r && not t) (basket_holding b.baskets b.entries entry) None) there ∙ nothing (is_none r)
    where
      nothing : (t : Bool) → cond (t && false) (basket_holding b.baskets b.entries entry) None ≡ None
      nothing true = refl
      nothing false = refl

  abbrev pub WantedAt : List Branch → List Lane → ℕ → ℕ → Type 0
  WantedAt bs lanes i basket = (b : Branch) × (lane : Lane) × (slice_get bs i ≡ Some b) × (slice_get lanes i ≡ Some lane) × (wanted_by entry b lane ≡ Some basket)

  -- the branch of the number that is told
  pub wanted_is : (k : ℕ) (bs : List Branch) (lanes : List Lane) (j basket : ℕ) → wanted_from k entry bs lanes ≡ Some (j, basket) → (i : ℕ) × (k + i ≡ j) × WantedAt bs lanes i basket
  wanted_is k [] lanes j basket e = absurd cc
  wanted_is k (b ∷ bs) [] j basket e = absurd cc
  wanted_is k (b ∷ bs) (lane ∷ lanes) j basket e = by (wanted_by entry b lane) refl e (λ rest. wanted_is (k + 1) bs lanes j basket rest)
    where
      by : (o : Option ℕ) → wanted_by entry b lane ≡ o → first_wanted k o (wanted_from (k + 1) entry bs lanes) ≡ Some (j, basket) → (wanted_from (k + 1) entry bs lanes ≡ Some (j, basket) → (i : ℕ) × (k + 1 + i ≡ j) × WantedAt bs lanes i basket) → (i : ℕ) × (k + i ≡ j) × WantedAt (b ∷ bs) (lane ∷ lanes) i basket
      by (Some found) is own behind =
          let pair = pair_is (k, found) (j, basket) own in
          let number : k ≡ j = ap (λ (p : ℕ × ℕ). p.0) pair in
          let same : found ≡ basket = ap (λ (p : ℕ × ℕ). p.1) pair in
          (0, omega (arith, number), (b, lane, refl, refl, is ∙ ap (λ (n : ℕ). let o : Option ℕ = Some n in o) same))
      by None is own behind = let rest = behind own in (suc rest.0, omega (arith, rest.1), rest.2)

  -- one branch less wants a basket
  pub fewer : (bs : List Branch) (lanes : List Lane) (i basket : ℕ) (new : Lane) → WantedAt bs lanes i basket → ((b : Branch) → slice_get bs i ≡ Some b → wanted_by entry b new ≡ None) → wanting_from entry bs (slice_set lanes i new) < wanting_from entry bs lanes
  fewer [] lanes i basket new at none = absurd (let e = at.2 in cc)
  fewer (b ∷ bs) [] i basket new at none = absurd (let e = at.3 in cc)
  fewer (b ∷ bs) (lane ∷ lanes) zero basket new at none =
      let branch : b ≡ at.0 = let e = at.2 in cc in
      let own : lane ≡ at.1 = let e = at.3 in cc in
      let was : wanted_by entry b lane ≡ Some basket = rw (branch, own) at.4 in
      let is : wanted_by entry b new ≡ None = none b refl in
      let before : one_wanted (wanted_by entry b lane) ≡ 1 = ap one_wanted was in
      let after : one_wanted (wanted_by entry b new) ≡ 0 = ap one_wanted is in
      omega (arith, before, after)
  fewer (b ∷ bs) (lane ∷ lanes) (suc i) basket new at none =
      let rest = fewer bs lanes i basket new at none in omega (arith, rest)

-- ---- a scan that is given the basket

module _ (s : RowScan) (branch basket : ℕ) (es : List (List ℕ)) (can : CanGoOn s.head.entries s.head.branches s.lanes) (w : IsWanted s branch basket (length es)) where
  found : (i : ℕ) × (0 + i ≡ branch) × WantedAt s.next s.head.branches s.lanes i basket
  found = wanted_is s.next 0 s.head.branches s.lanes branch basket w.first

  number : found.0 ≡ branch
  number = omega (arith, found.1)

  at : WantedAt s.next s.head.branches s.lanes branch basket
  at = subst (λ (i : ℕ). WantedAt s.next s.head.branches s.lanes i basket) number found.2

  pub given_within : branch < length s.lanes
  given_within = slice_get_within s.lanes branch at.1 at.3

  branch_within : branch < length s.head.branches
  branch_within = slice_get_within s.head.branches branch at.0 at.2

  lane_is : lane_at s.lanes branch ≡ at.1
  lane_is = ap (λ (o : Option Lane). unwrap_or o (record { refused = None; held = None })) at.3

  baskets_are : baskets_at s.head.branches branch ≡ at.0.baskets
  baskets_are = ap (λ (o : Option Branch). unwrap_or (option_map (λ b. b.baskets) o) []) at.2

  abbrev held : Held
  held = record { first = first_entry (baskets_at s.head.branches branch) basket; entries = es }

  has : HasIt held.first s.next (length es)
  has =
      let own = wanted_of s.next at.0 at.1 basket at.4 in
      let b_is : at.0 ≡ slice_index_or s.head.branches branch at.0 = sym (get_or_from_slice_get s.head.branches branch at.0 at.0 at.2) in
      let l_is : at.1 ≡ slice_index_or s.lanes branch at.1 = sym (get_or_from_slice_get s.lanes branch at.1 at.1 at.3) in
      let index = index_at s.head.entries s.head.branches s.lanes can branch at.0 at.1 branch_within b_is l_is own.0 in
      let count : entry_count at.0 basket ≡ Some (length es) = ap (λ (o : Option Branch). option_and_then (λ b. entry_count b basket) o) (sym at.2) ∙ w.count in
      let inside = has_it at.0.baskets at.0.entries s.next basket (length es) index own.1 count in
      subst (λ (baskets : List BasketAt). HasIt (first_entry baskets basket) s.next (length es)) (sym baskets_are) inside

  pub given_fewer : wanting (holding s branch basket es) < wanting s
  given_fewer = fewer s.next s.head.branches s.lanes branch basket (record (lane_at s.lanes branch) { held = Some held }) at (λ b e. wants_none s.next b (lane_at s.lanes branch).refused held has)

  pub given_goes_on : CanGoOn s.head.entries s.head.branches (holding s branch basket es).lanes
  given_goes_on =
      goes_on s.head.entries s.head.branches s.lanes branch (record (lane_at s.lanes branch) { held = Some held }) can
      (λ b lane e can_hold. subst (λ (z : Lane). CanHold s.head.entries b z.refused) (same lane e) can_hold)
    where
      same : (lane : Lane) → lane ≡ slice_index_or s.lanes branch lane → lane ≡ lane_at s.lanes branch
      same lane e = e ∙ get_or_from_slice_get s.lanes branch at.1 lane at.3 ∙ sym lane_is
