-- Loops over branches, baskets and entries, one step on and at the end.
use Rattle.std.proofs.Common.{◌≡◌, ℕ, zero, suc, ◌+◌, ◌<◌, ◌≤◌, List, [], ◌∷◌, ◌++◌, length, take, drop, get_or, slice_get, slice_set, Bool, true, false, ◌&&◌, leb, Option, Some, unwrap_or, refl, sym, ap, subst, ◌∙◌, arith}
use Rattle.std.proofs.{lemmas.Bool.{le-leb, leb-true}, lemmas.List.{drop_all}}
use Rattle.std.specs.List.{prefix_len}
use Rattle.rio_format.specs.declared.class.ClassDef.{ClassDef}
use Rattle.rio_tree.specs.{Index.{basket_number}, declared.basket_at.BasketAt.{BasketAt}, declared.head.Branch.{Branch}}
use Rattle.rio_tree.specs.declared.refusal.BranchRefusal.{BranchRefusal, TheVariants.{Compressed}}
use Rattle.rio_entry.proofs.NumberLaws.{begins_by}
use Rattle.rio_entry.specs.{declared.tree_row.TreeRow.{TreeRow}, Refusals.{branch_refusal, refusals_behind}}
use Rattle.rio_entry.specs.StoredEntries.{StoredEntries, are_filled, entry_behind, has_compressed, is_compressed_basket, is_filled, refusal_by, stored_basket}
use Rattle.rio_entry.specs.Sweeps.{sweep_behind, sweep_one}
use Rattle.rio_entry.specs.{declared.lane.Lane.{Lane}, Lanes.{AreLanes, IsHeld, IsLane}}
use Rattle.rio_entry.proofs.Left.{left, passed_one}

-- ---- baskets

and_assoc : (a b c : Bool) → (a && (b && c)) ≡ ((a && b) && c)
and_assoc true b c = refl
and_assoc false b c = refl

module _ (file : List ℕ) (offsets : Bool) (entries : ℕ) (bs : List BasketAt) where
  -- what the baskets from this one on, and those before it, tell
  abbrev pub told_by : ℕ → Bool → Option BranchRefusal
  told_by k filled = refusal_by (has_compressed file offsets (drop k bs)) (filled && are_filled file offsets entries (drop k bs))

  module _ (k : ℕ) (at : BasketAt) (lt : k < length bs) (is : at ≡ get_or bs k at) (found : StoredEntries) (stored : found ≡ stored_basket file offsets at) (filled : Bool) where
    pub one_compressed : is_compressed_basket found ≡ true → told_by k filled ≡ Some Compressed
    one_compressed e = rw (left bs k at lt is, sym stored, e) refl

    pub one_filled : is_compressed_basket found ≡ false → told_by k filled ≡ told_by (k + 1) (filled && is_filled at (entry_behind (drop (k + 1) bs) entries) found)
    one_filled e =
        rw (left bs k at lt is, sym stored, e)
        (ap (refusal_by (has_compressed file offsets (drop (k + 1) bs))) (and_assoc filled (is_filled at (entry_behind (drop (k + 1) bs) entries) found) (are_filled file offsets entries (drop (k + 1) bs))))

  pub all_told : (k : ℕ) (filled : Bool) → length bs ≤ k → told_by k filled ≡ refusal_by false (filled && true)
  all_told k filled le = rw (drop_all k bs le) refl

-- ---- refusals

module _ (file : List ℕ) (classes : List ClassDef) (bs : List Branch) where
  pub refusal_more : (n k : ℕ) (b : Branch) (rs : List (Option BranchRefusal)) → k < length bs → b ≡ get_or bs k b
      → refusals_behind file classes n (take k bs) rs (drop k bs) ≡ refusals_behind file classes n (take (k + 1) bs) (rs ++ branch_refusal file classes n (take k bs) rs b ∷ []) (drop (k + 1) bs)
  refusal_more n k b rs lt is =
      ap (refusals_behind file classes n (take k bs) rs) (left bs k b lt is)
      ∙ ap (λ (before : List Branch). refusals_behind file classes n before (rs ++ branch_refusal file classes n (take k bs) rs b ∷ []) (drop (k + 1) bs)) (passed_one bs k b lt is)

  pub refusal_last : (n k : ℕ) (rs : List (Option BranchRefusal)) → length bs ≤ k → refusals_behind file classes n (take k bs) rs (drop k bs) ≡ rs
  refusal_last n k rs le = ap (refusals_behind file classes n (take k bs) rs) (drop_all k bs le)

  pub sweep_more : (e k : ℕ) (b : Branch) (r : Option BranchRefusal) (rs : List (Option BranchRefusal)) (row : TreeRow) → k < length bs → b ≡ get_or bs k b → k < length rs → r ≡ get_or rs k r
      → sweep_behind file classes e (take k bs) row (drop k bs) (drop k rs) ≡ sweep_behind file classes e (take (k + 1) bs) (sweep_one file classes e (take k bs) row b r) (drop (k + 1) bs) (drop (k + 1) rs)
  sweep_more e k b r rs row lt is low are =
      ap (λ (ds : List Branch). sweep_behind file classes e (take k bs) row ds (drop k rs)) (left bs k b lt is)
      ∙ ap (sweep_behind file classes e (take k bs) row (b ∷ drop (k + 1) bs)) (left rs k r low are)
      ∙ ap (λ (before : List Branch). sweep_behind file classes e before (sweep_one file classes e (take k bs) row b r) (drop (k + 1) bs) (drop (k + 1) rs)) (passed_one bs k b lt is)

  pub sweep_last : (e k : ℕ) (rs : List (Option BranchRefusal)) (row : TreeRow) → length bs ≤ k → sweep_behind file classes e (take k bs) row (drop k bs) (drop k rs) ≡ row
  sweep_last e k rs row le = ap (λ (ds : List Branch). sweep_behind file classes e (take k bs) row ds (drop k rs)) (drop_all k bs le)

-- ---- lanes

-- more baskets begin at a later entry or before it
later_passes : (e : ℕ) (bs : List BasketAt) → prefix_len (begins_by e) bs ≤ prefix_len (begins_by (e + 1)) bs
later_passes e [] = omega arith
later_passes e (b ∷ bs) = by (later_passes e bs) (leb b.first e) refl
  where
    by : prefix_len (begins_by e) bs ≤ prefix_len (begins_by (e + 1)) bs → (c : Bool) → leb b.first e ≡ c → prefix_len (begins_by e) (b ∷ bs) ≤ prefix_len (begins_by (e + 1)) (b ∷ bs)
    by rest false is = rw is (omega arith)
    by rest true is =
        let low = leb-true _ _ is in
        let also : leb b.first (e + 1) ≡ true = le-leb _ _ (omega (arith, low)) in
        rw (is, also) (omega (arith, rest))

pub later_basket : (e : ℕ) (bs : List BasketAt) → basket_number e bs ≤ basket_number (e + 1) bs
later_basket e bs = later_passes e (drop 1 bs)

pub lanes_later : (file : List ℕ) (e : ℕ) (branches : List Branch) (lanes : List Lane) → AreLanes file e branches lanes → AreLanes file (e + 1) branches lanes
lanes_later file e branches lanes are = λ k b lane is there.
    let one = are k b lane is there in
    let more = later_basket e b.baskets in
    (omega (arith, one.0, more), one.1)

pub lane_same : (file : List ℕ) (e : ℕ) (b : Branch) (m n : ℕ) (h i : Option StoredEntries) → n ≡ m → i ≡ h → (m ≤ basket_number e b.baskets) × IsHeld file b m h → (n ≤ basket_number e b.baskets) × IsHeld file b n i
lane_same file e b m n h i same held lane =
    (subst (λ (l : ℕ). l ≤ basket_number e b.baskets) (sym same) lane.0, subst (λ (l : ℕ). IsHeld file b l i) (sym same) (subst (λ (o : Option StoredEntries). IsHeld file b m o) (sym held) lane.1))

-- another lane in one place
set_get : (lanes : List Lane) (k j : ℕ) (new lane : Lane) → slice_get (slice_set lanes k new) j ≡ Some lane → (P : ℕ → Lane → Type 0) → (k < length lanes → P k new) → ((i : ℕ) (old : Lane) → slice_get lanes i ≡ Some old → P i old) → P j lane
set_get [] k j new lane is P one others = others j lane is
set_get (l ∷ ls) zero zero new lane is P one others = subst (P 0) (some_same new lane is) (one (omega arith))
  where
    some_same : (x y : Lane) → Some x ≡ Some y → x ≡ y
    some_same x y e = ap (λ (o : Option Lane). unwrap_or o x) e
set_get (l ∷ ls) zero (suc j) new lane is P one others = others (suc j) lane is
set_get (l ∷ ls) (suc k) zero new lane is P one others = others 0 lane is
set_get (l ∷ ls) (suc k) (suc j) new lane is P one others = set_get ls k j new lane is (λ i. P (suc i)) (λ lt. one (omega (arith, lt))) (λ i. others (suc i))

pub lanes_set : (file : List ℕ) (e : ℕ) (branches : List Branch) (lanes : List Lane) (k : ℕ) (b : Branch) (new : Lane) → AreLanes file e branches lanes → slice_get branches k ≡ Some b → IsLane file e b new → AreLanes file e branches (slice_set lanes k new)
lanes_set file e branches lanes k b new are there one = λ j c lane is held.
    set_get lanes k j new lane held (λ i l. (d : Branch) → slice_get branches i ≡ Some d → IsLane file e d l)
    (λ lt d same. subst (λ (x : Branch). IsLane file e x new) (ap (λ (o : Option Branch). unwrap_or o b) (sym there ∙ same)) one)
    (λ i old was d same. are i d old same was) c is
