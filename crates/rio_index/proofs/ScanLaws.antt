-- What a scan holds and wants, branch by branch.
use Rattle.std.proofs.Common.{◌≡◌, ℕ, zero, suc, ◌+◌, ◌<◌, ◌≤◌, List, [], ◌∷◌, length, map, drop, Option, Some, None, refl, sym, ap, subst, ◌∙◌, slice_index_or, arith}
use Rattle.std.proofs.lemmas.List.{drop_all, drop_more}
use Rattle.std.specs.Prelude.{slice_set}
use Rattle.rio_tree.specs.{Index.{IsIndex}, declared.head.Branch.{Branch}, declared.refusal.BranchRefusal.{BranchRefusal}}
use Rattle.rio_index.specs.{Scan.{CanGoOn, CanHold, CanScan, empty_lane, first_wanted, wanted_by, wanted_from}, declared.lane.Lane.{Lane}}

-- ---- where a scan can go on

module _ (entries : ℕ) where
  pub starts : (bs : List Branch) → CanScan entries bs → CanGoOn entries bs (map empty_lane bs)
  starts [] can = tt
  starts (b ∷ bs) can = (can.0, starts bs can.1)

  pub same_length : (bs : List Branch) (lanes : List Lane) → CanGoOn entries bs lanes → length bs ≡ length lanes
  same_length [] [] can = refl
  same_length [] (lane ∷ lanes) can = absurd can
  same_length (b ∷ bs) [] can = absurd can
  same_length (b ∷ bs) (lane ∷ lanes) can = let rest = same_length bs lanes can.1 in omega (arith, rest)

  held_index : (b : Branch) (r : Option BranchRefusal) → CanHold entries b r → r ≡ None → IsIndex b.baskets b.entries
  held_index b None can e = subst (IsIndex b.baskets) (sym can.0) can.1
  held_index b (Some why) can e = absurd cc

  pub index_at : (bs : List Branch) (lanes : List Lane) → CanGoOn entries bs lanes → (k : ℕ) (b : Branch) (lane : Lane) → k < length bs → b ≡ slice_index_or bs k b → lane ≡ slice_index_or lanes k lane → lane.refused ≡ None → IsIndex b.baskets b.entries
  index_at [] lanes can k b lane lt e f read = absurd (omega (arith, lt))
  index_at (c ∷ bs) [] can k b lane lt e f read = absurd can
  index_at (c ∷ bs) (l ∷ lanes) can zero b lane lt e f read = subst (λ (z : Branch). IsIndex z.baskets z.entries) (sym e) (held_index c l.refused can.0 (ap (λ (z : Lane). z.refused) (sym f) ∙ read))
  index_at (c ∷ bs) (l ∷ lanes) can (suc k) b lane lt e f read = index_at bs lanes can.1 k b lane (omega (arith, lt)) e f read

  -- one lane changes, and can still be held
  pub goes_on : (bs : List Branch) (lanes : List Lane) (k : ℕ) (new : Lane) → CanGoOn entries bs lanes → ((b : Branch) (lane : Lane) → lane ≡ slice_index_or lanes k lane → CanHold entries b lane.refused → CanHold entries b new.refused) → CanGoOn entries bs (slice_set lanes k new)
  goes_on [] [] k new can keeps = tt
  goes_on [] (lane ∷ lanes) k new can keeps = absurd can
  goes_on (b ∷ bs) [] k new can keeps = absurd can
  goes_on (b ∷ bs) (lane ∷ lanes) zero new can keeps = (keeps b lane refl can.0, can.1)
  goes_on (b ∷ bs) (lane ∷ lanes) (suc k) new can keeps = (can.0, goes_on bs lanes k new can.1 keeps)

-- ---- the branch that wants a basket

module _ (entry : ℕ) where
  pub wanted_next : (bs : List Branch) (lanes : List Lane) (k : ℕ) (b : Branch) (lane : Lane) → k < length bs → k < length lanes → b ≡ slice_index_or bs k b → lane ≡ slice_index_or lanes k lane → wanted_from k entry (drop k bs) (drop k lanes) ≡ first_wanted k (wanted_by entry b lane) (wanted_from (k + 1) entry (drop (k + 1) bs) (drop (k + 1) lanes))
  wanted_next bs lanes k b lane lt low e f =
      let branch : drop k bs ≡ b ∷ drop (k + 1) bs = drop_more bs k b lt ∙ ap (λ (z : Branch). z ∷ drop (k + 1) bs) (sym e) in
      let own : drop k lanes ≡ lane ∷ drop (k + 1) lanes = drop_more lanes k lane low ∙ ap (λ (z : Lane). z ∷ drop (k + 1) lanes) (sym f) in
      rw (branch, own) refl

  module _ (bs : List Branch) (lanes : List Lane) (k : ℕ) (total : Option (ℕ × ℕ)) (so_far : wanted_from k entry (drop k bs) (drop k lanes) ≡ total) where
    pub wanted_here : (b : Branch) (lane : Lane) (basket : ℕ) → k < length bs → k < length lanes → b ≡ slice_index_or bs k b → lane ≡ slice_index_or lanes k lane → wanted_by entry b lane ≡ Some basket → Some (k, basket) ≡ total
    wanted_here b lane basket lt low e f is =
        sym (ap (λ (o : Option ℕ). first_wanted k o (wanted_from (k + 1) entry (drop (k + 1) bs) (drop (k + 1) lanes))) is) ∙ sym (wanted_next bs lanes k b lane lt low e f) ∙ so_far

    pub wanted_behind : (b : Branch) (lane : Lane) → k < length bs → k < length lanes → b ≡ slice_index_or bs k b → lane ≡ slice_index_or lanes k lane → wanted_by entry b lane ≡ None → wanted_from (k + 1) entry (drop (k + 1) bs) (drop (k + 1) lanes) ≡ total
    wanted_behind b lane lt low e f is =
        sym (ap (λ (o : Option ℕ). first_wanted k o (wanted_from (k + 1) entry (drop (k + 1) bs) (drop (k + 1) lanes))) is) ∙ sym (wanted_next bs lanes k b lane lt low e f) ∙ so_far

    pub none_wanted : length bs ≤ k → None ≡ total
    none_wanted le = ap (λ (rest : List Branch). wanted_from k entry rest (drop k lanes)) (sym (drop_all k bs le)) ∙ so_far
