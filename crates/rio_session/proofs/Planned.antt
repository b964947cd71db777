-- The loops that plan the puts of the open baskets of a tree.
use Rattle.std.proofs.Common.{◌≡◌, ℕ, ◌+◌, ◌*◌, ◌≤◌, ◌<◌, ◌^◌, sum, append_assoc, List, [], ◌∷◌, ◌++◌, length, drop, slice_get, Bool, true, false, Option, Some, refl, sym, ap, subst, ◌∙◌, arith}
use Rattle.std.proofs.lemmas.{List.{append-nil, drop-drop, drop_all, length-append, length-drop}, List.Elements.{recursion_from_All}, List.Sums.{sum_by_push}}
use Rattle.std.specs.List.{All}
use Rattle.rio_tree.specs.declared.basket_at.BasketAt.{BasketAt}
use Rattle.rio_effect.specs.TreeRecords.{basket_at}
use Rattle.rio_fill.specs.Fill.{BranchFill, count_before, entry_count, has_flag}
use Rattle.rio_session.specs.{Fillings.{put_open, words_of_open}, Fills.{FilledTree}, Measures.{IsBoundedBranch, IsBoundedTree, flags_for}}
use Rattle.rio_session.specs.Noted.{AreBasketSteps, ArePlanned, IsPlannedMore, PlansBaskets, ats_of, flagged, lengths_of_flagged, open_length_of}
use Rattle.rio_session.specs.declared.steps.Step.{Step}
use Rattle.rio_session.proofs.{NotedLaws.{flag_at}, PutOpen.{are_planned}, Summed.{found, left_of}}

-- ---- the branches that are left

module _ (bs : List BranchFill) (flags k : ℕ) (b : BranchFill) (here : slice_get bs k ≡ Some b) (lt : k < length bs) where
  abbrev fs : List Bool
  fs = flags_for bs flags

  fs_left : (t : Bool) → has_flag flags k ≡ t → drop k fs ≡ t ∷ drop (k + 1) fs
  fs_left t is = left_of fs k t (flag_at (length bs) flags k lt ∙ ap (λ (u : Bool). let o : Option Bool = Some u in o) is)

  pub flagged_here : has_flag flags k ≡ true → flagged (drop k bs) (drop k fs) ≡ b ∷ flagged (drop (k + 1) bs) (drop (k + 1) fs)
  flagged_here is = λ i. flagged (left_of bs k b here i) (fs_left true is i)

  pub flagged_later : has_flag flags k ≡ false → flagged (drop k bs) (drop k fs) ≡ flagged (drop (k + 1) bs) (drop (k + 1) fs)
  flagged_later is = λ i. flagged (left_of bs k b here i) (fs_left false is i)

pub none_left : (bs : List BranchFill) (flags k : ℕ) → length bs ≤ k → flagged (drop k bs) (drop k (flags_for bs flags)) ≡ []
none_left bs flags k end = ap (λ (l : List BranchFill). flagged l (drop k (flags_for bs flags))) (drop_all k bs end)

-- ---- their lengths

sum_more : (xs : List ℕ) (n : ℕ) → sum (xs ++ n ∷ []) ≡ sum xs + n
sum_more xs n = sum_by_push (λ (x : ℕ). x) xs n

pub record Measuring (tree : List ℕ) (bs : List BranchFill) (flags k : ℕ) (lengths : List ℕ) : Type 0 where
  pub all : lengths ++ lengths_of_flagged tree (flagged (drop k bs) (drop k (flags_for bs flags))) ≡ lengths_of_flagged tree (flagged bs (flags_for bs flags))
  pub few : length lengths ≤ k
  pub small : sum lengths ≤ k * 67108863
  pub within : k ≤ length bs

pub measuring_begins : (tree : List ℕ) (bs : List BranchFill) (flags : ℕ) → Measuring tree bs flags 0 []
measuring_begins tree bs flags = record { all = refl; few = omega arith; small = omega arith; within = omega arith }

module _ (tree : List ℕ) (bs : List BranchFill) (flags k : ℕ) (lengths : List ℕ) (sofar : Measuring tree bs flags k lengths) (lt : k < length bs) where
  b_at : (b : BranchFill) × (slice_get bs k ≡ Some b)
  b_at = found bs k lt

  pub measured_other : has_flag flags k ≡ false → Measuring tree bs flags (k + 1) lengths
  measured_other is = record {
    all = ap (λ (l : List BranchFill). lengths ++ lengths_of_flagged tree l) (sym (flagged_later bs flags k b_at.0 b_at.1 lt is)) ∙ sofar.all;
    few = omega (arith, sofar.few);
    small = omega (arith, sofar.small);
    within = omega (arith, lt);
  }

  pub measured_this : has_flag flags k ≡ true → (n : ℕ) → ((b : BranchFill) → slice_get bs k ≡ Some b → n ≡ open_length_of tree b) → n < 2 ^ 26 → (new : List ℕ) → new ≡ lengths ++ n ∷ [] → Measuring tree bs flags (k + 1) new
  measured_this is n n_is low new new_is =
      let others = lengths_of_flagged tree (flagged (drop (k + 1) bs) (drop (k + 1) (flags_for bs flags))) in
      record {
        all = ap (λ (l : List ℕ). l ++ others) new_is ∙ append_assoc lengths (n ∷ []) others
            ∙ ap (λ (m : ℕ). lengths ++ m ∷ others) (n_is b_at.0 b_at.1)
            ∙ ap (λ (l : List BranchFill). lengths ++ lengths_of_flagged tree l) (sym (flagged_here bs flags k b_at.0 b_at.1 lt is)) ∙ sofar.all;
        few = omega (arith, ap length new_is, length-append lengths (n ∷ []), sofar.few);
        small = omega (arith, ap sum new_is, sum_more lengths n, low, sofar.small);
        within = omega (arith, lt);
      }

pub measuring_ends : (tree : List ℕ) (bs : List BranchFill) (flags k : ℕ) (lengths : List ℕ) → Measuring tree bs flags k lengths → length bs ≤ k → lengths ≡ lengths_of_flagged tree (flagged bs (flags_for bs flags))
measuring_ends tree bs flags k lengths sofar end =
    sym (ap (λ (l : List BranchFill). lengths ++ lengths_of_flagged tree l) (none_left bs flags k end) ∙ append-nil lengths) ∙ sofar.all

-- ---- their puts

pub record Planning (datime : ℕ) (tree : List ℕ) (count : ℕ) (bs : List BranchFill) (flags : ℕ) (places : List ℕ) (k next : ℕ) (steps : List Step) (ats : List BasketAt) : Type 0 where
  pub early : next ≤ k
  pub left : drop next (flagged bs (flags_for bs flags)) ≡ flagged (drop k bs) (drop k (flags_for bs flags))
  pub steps_are : (more : List Step) → AreBasketSteps datime tree (drop next (flagged bs (flags_for bs flags))) (drop next places) more → AreBasketSteps datime tree (flagged bs (flags_for bs flags)) places (steps ++ more)
  pub ats_are : ats ++ ats_of datime tree count (drop next places) (drop next (flagged bs (flags_for bs flags))) ≡ ats_of datime tree count places (flagged bs (flags_for bs flags))

pub planning_begins : (datime : ℕ) (tree : List ℕ) (count : ℕ) (bs : List BranchFill) (flags : ℕ) (places : List ℕ) → Planning datime tree count bs flags places 0 0 [] []
planning_begins datime tree count bs flags places = record { early = omega arith; left = refl; steps_are = λ more are. are; ats_are = refl }

module _ (datime : ℕ) (tree : List ℕ) (count : ℕ) (bs : List BranchFill) (flags : ℕ) (places : List ℕ) (k next : ℕ) (steps : List Step) (ats : List BasketAt)
    (sofar : Planning datime tree count bs flags places k next steps ats) (lt : k < length bs) where
  abbrev all : List BranchFill
  all = flagged bs (flags_for bs flags)

  b_here : (b : BranchFill) × (slice_get bs k ≡ Some b)
  b_here = found bs k lt

  pub planned_other : has_flag flags k ≡ false → Planning datime tree count bs flags places (k + 1) next steps ats
  planned_other is = record { early = omega (arith, sofar.early); left = sofar.left ∙ flagged_later bs flags k b_here.0 b_here.1 lt is; steps_are = sofar.steps_are; ats_are = sofar.ats_are }

  module _ (is : has_flag flags k ≡ true) where
    all_left : drop next all ≡ b_here.0 ∷ flagged (drop (k + 1) bs) (drop (k + 1) (flags_for bs flags))
    all_left = sofar.left ∙ flagged_here bs flags k b_here.0 b_here.1 lt is

    later : drop (next + 1) all ≡ flagged (drop (k + 1) bs) (drop (k + 1) (flags_for bs flags))
    later = sym (drop-drop 1 next all) ∙ ap (drop 1) all_left

    all_here : drop next all ≡ b_here.0 ∷ drop (next + 1) all
    all_here = all_left ∙ ap (λ (l : List BranchFill). b_here.0 ∷ l) (sym later)

    pub place_there : length all ≤ length places → next < length places
    place_there enough = omega (arith, length-drop next all, ap length all_here, enough)

    pub planned_this : (place : ℕ) → slice_get places next ≡ Some place → (steps' : List Step) (ats' : List BasketAt)
        → ((b : BranchFill) → slice_get bs k ≡ Some b → IsPlannedMore datime tree count b place steps ats steps' ats') → Planning datime tree count bs flags places (k + 1) (next + 1) steps' ats'
    planned_this place place_is steps' ats' more_is =
        let m = more_is b_here.0 b_here.1 in
        let places_left = left_of places next place place_is in
        let b = b_here.0 in
        record {
          early = omega (arith, sofar.early);
          left = later;
          steps_are = λ more are.
              subst (AreBasketSteps datime tree all places) (sym (ap (λ (l : List Step). l ++ more) m.steps_are ∙ append_assoc steps (m.step ∷ []) more))
              (sofar.steps_are (m.step ∷ more) (subst (λ (x : List BranchFill × List ℕ). AreBasketSteps datime tree x.0 x.1 (m.step ∷ more)) (let one = sym all_here in let two = sym places_left in λ i. (one i, two i)) (m.puts, are)));
          ats_are =
              ap (λ (l : List BasketAt). l ++ ats_of datime tree count (drop (next + 1) places) (drop (next + 1) all)) m.ats_are
              ∙ append_assoc ats (basket_at place (count_before count b) (words_of_open tree datime b) ∷ []) (ats_of datime tree count (drop (next + 1) places) (drop (next + 1) all))
              ∙ (let one = sym all_here in let two = sym places_left in λ i. ats ++ ats_of datime tree count (two i) (one i))
              ∙ sofar.ats_are;
        }

module _ (datime : ℕ) (tree : List ℕ) (count : ℕ) (bs : List BranchFill) (flags : ℕ) (places : List ℕ) (k next : ℕ) (steps : List Step) (ats : List BasketAt)
    (sofar : Planning datime tree count bs flags places k next steps ats) (end : length bs ≤ k) where
  none : drop next (flagged bs (flags_for bs flags)) ≡ []
  none = sofar.left ∙ none_left bs flags k end

  pub all_steps : AreBasketSteps datime tree (flagged bs (flags_for bs flags)) places steps
  all_steps =
      subst (AreBasketSteps datime tree (flagged bs (flags_for bs flags)) places) (append-nil steps)
      (sofar.steps_are [] (subst (λ (l : List BranchFill). AreBasketSteps datime tree l (drop next places) []) (sym none) refl))

  pub all_ats : ats ≡ ats_of datime tree count places (flagged bs (flags_for bs flags))
  all_ats = sym (ap (λ (l : List BranchFill). ats ++ ats_of datime tree count (drop next places) l) none ∙ append-nil ats) ∙ sofar.ats_are

-- ---- one more, and all

module _ (datime : ℕ) (tree : List ℕ) (count : ℕ) (bs : List BranchFill) (flags : ℕ) (places : List ℕ) (k next : ℕ) (steps : List Step) (ats : List BasketAt)
    (sofar : Planning datime tree count bs flags places k next steps ats) (lt : k < length bs) (is : has_flag flags k ≡ true) (enough : length (flagged bs (flags_for bs flags)) ≤ length places) where
  pub planned_next : (steps' : List Step) (ats' : List BasketAt)
      → ((b : BranchFill) (place : ℕ) → slice_get bs k ≡ Some b → slice_get places next ≡ Some place → IsPlannedMore datime tree count b place steps ats steps' ats')
      → Planning datime tree count bs flags places (k + 1) (next + 1) steps' ats'
  planned_next steps' ats' more =
      let f = found places next (place_there datime tree count bs flags places k next steps ats sofar lt is enough) in
      planned_this datime tree count bs flags places k next steps ats sofar lt is f.0 f.1 steps' ats' (λ b h. more b f.0 h f.1)

pub plans_all : (datime : ℕ) (t : FilledTree) (flags : ℕ) (places : List ℕ) (k next : ℕ) (steps : List Step) (ats : List BasketAt) → Planning datime t.name (entry_count t.fill) t.fill.branches flags places k next steps ats
    → length t.fill.branches ≤ k → IsBoundedTree t.name t.fill → datime < 2 ^ 32 → All (λ p. p < 2 ^ 32) places → PlansBaskets datime t flags places steps ats
plans_all datime t flags places k next steps ats sofar end bounded time low segments more shape are last =
    let bs = t.fill.branches in
    let fs = flags_for bs flags in
    let count = entry_count t.fill in
    let planned = are_planned t.name datime bounded.named time count bs fs segments places more steps (recursion_from_All IsBoundedBranch bs bounded.each) (recursion_from_All (λ p. p < 2 ^ 32) places low) shape are last
    (all_steps datime t.name count bs flags places k next steps ats sofar end) in
    subst (ArePlanned count (put_open datime t.name count segments bs fs) segments bs fs steps) (sym (all_ats datime t.name count bs flags places k next steps ats sofar end)) planned
