-- The parts of the next row, branch by branch.
use Rattle.std.proofs.Common.{◌≡◌, ℕ, zero, suc, ◌+◌, ◌-◌, ◌<◌, ◌≤◌, Bool, true, false, cond, List, [], ◌∷◌, ◌++◌, length, drop, Option, Some, None, refl, sym, ap, ◌∙◌, append_assoc, slice_index_or, arith}
use Rattle.std.proofs.lemmas.List.{append-nil, drop_all, drop_more}
use Rattle.std.specs.Prelude.{is_none, slice_get}
use Rattle.rio_leaf.specs.declared.branch.BranchDef.{BranchDef}
use Rattle.rio_tree.specs.declared.head.Branch.{Branch}
use Rattle.rio_index.specs.{Scan.{held_entry, read_branches, read_entries, read_numbers}, declared.lane.Lane.{Lane}}

module _ (lanes : List Lane) (k : ℕ) (lane : Lane) (low : k < length lanes) (f : lane ≡ slice_index_or lanes k lane) where
  own_lane : drop k lanes ≡ lane ∷ drop (k + 1) lanes
  own_lane = drop_more lanes k lane low ∙ ap (λ (z : Lane). z ∷ drop (k + 1) lanes) (sym f)

  -- ---- the branches that are read

  module _ (bs : List Branch) (b : Branch) (lt : k < length bs) (e : b ≡ slice_index_or bs k b) where
    next_branches : read_branches (drop k bs) (drop k lanes) ≡ cond (is_none lane.refused) (b.def ∷ read_branches (drop (k + 1) bs) (drop (k + 1) lanes)) (read_branches (drop (k + 1) bs) (drop (k + 1) lanes))
    next_branches =
        let branch : drop k bs ≡ b ∷ drop (k + 1) bs = drop_more bs k b lt ∙ ap (λ (z : Branch). z ∷ drop (k + 1) bs) (sym e) in
        let own = own_lane in
        rw (branch, own) refl

    pub branches_skip : (front total : List BranchDef) → is_none lane.refused ≡ false → front ++ read_branches (drop k bs) (drop k lanes) ≡ total → front ++ read_branches (drop (k + 1) bs) (drop (k + 1) lanes) ≡ total
    branches_skip front total refused so_far =
        ap (λ (t : Bool). front ++ cond t (b.def ∷ read_branches (drop (k + 1) bs) (drop (k + 1) lanes)) (read_branches (drop (k + 1) bs) (drop (k + 1) lanes))) (sym refused)
        ∙ ap (λ (rest : List BranchDef). front ++ rest) (sym next_branches) ∙ so_far

    pub branches_more : (front total : List BranchDef) → is_none lane.refused ≡ true → front ++ read_branches (drop k bs) (drop k lanes) ≡ total → (front ++ b.def ∷ []) ++ read_branches (drop (k + 1) bs) (drop (k + 1) lanes) ≡ total
    branches_more front total is_read so_far =
        append_assoc front (b.def ∷ []) (read_branches (drop (k + 1) bs) (drop (k + 1) lanes))
        ∙ ap (λ (t : Bool). front ++ cond t (b.def ∷ read_branches (drop (k + 1) bs) (drop (k + 1) lanes)) (read_branches (drop (k + 1) bs) (drop (k + 1) lanes))) (sym is_read)
        ∙ ap (λ (rest : List BranchDef). front ++ rest) (sym next_branches) ∙ so_far

  -- ---- their entries

  module _ (entry : ℕ) where
    next_entries : read_entries entry (drop k lanes) ≡ cond (is_none lane.refused) (held_entry entry lane.held ∷ read_entries entry (drop (k + 1) lanes)) (read_entries entry (drop (k + 1) lanes))
    next_entries = let own = own_lane in rw own refl

    pub entries_skip : (front total : List (List ℕ)) → is_none lane.refused ≡ false → front ++ read_entries entry (drop k lanes) ≡ total → front ++ read_entries entry (drop (k + 1) lanes) ≡ total
    entries_skip front total refused so_far =
        ap (λ (t : Bool). front ++ cond t (held_entry entry lane.held ∷ read_entries entry (drop (k + 1) lanes)) (read_entries entry (drop (k + 1) lanes))) (sym refused)
        ∙ ap (λ (rest : List (List ℕ)). front ++ rest) (sym next_entries) ∙ so_far

    pub entries_more : (front total : List (List ℕ)) → is_none lane.refused ≡ true → front ++ read_entries entry (drop k lanes) ≡ total → (front ++ held_entry entry lane.held ∷ []) ++ read_entries entry (drop (k + 1) lanes) ≡ total
    entries_more front total is_read so_far =
        append_assoc front (held_entry entry lane.held ∷ []) (read_entries entry (drop (k + 1) lanes))
        ∙ ap (λ (t : Bool). front ++ cond t (held_entry entry lane.held ∷ read_entries entry (drop (k + 1) lanes)) (read_entries entry (drop (k + 1) lanes))) (sym is_read)
        ∙ ap (λ (rest : List (List ℕ)). front ++ rest) (sym next_entries) ∙ so_far

  -- ---- their numbers

  next_numbers : read_numbers k (drop k lanes) ≡ cond (is_none lane.refused) (k ∷ read_numbers (k + 1) (drop (k + 1) lanes)) (read_numbers (k + 1) (drop (k + 1) lanes))
  next_numbers = let own = own_lane in rw own refl

  pub numbers_skip : (left : ℕ) (total : Option ℕ) → is_none lane.refused ≡ false → slice_get (read_numbers k (drop k lanes)) left ≡ total → slice_get (read_numbers (k + 1) (drop (k + 1) lanes)) left ≡ total
  numbers_skip left total refused so_far =
      ap (λ (t : Bool). slice_get (cond t (k ∷ read_numbers (k + 1) (drop (k + 1) lanes)) (read_numbers (k + 1) (drop (k + 1) lanes))) left) (sym refused)
      ∙ ap (λ (ns : List ℕ). slice_get ns left) (sym next_numbers) ∙ so_far

  pub numbers_found : (left : ℕ) (total : Option ℕ) → left ≡ 0 → is_none lane.refused ≡ true → slice_get (read_numbers k (drop k lanes)) left ≡ total → Some k ≡ total
  numbers_found left total first is_read so_far =
      ap (λ (t : Bool). slice_get (cond t (k ∷ read_numbers (k + 1) (drop (k + 1) lanes)) (read_numbers (k + 1) (drop (k + 1) lanes))) 0) (sym is_read)
      ∙ ap (λ (ns : List ℕ). slice_get ns 0) (sym next_numbers) ∙ ap (slice_get (read_numbers k (drop k lanes))) (sym first) ∙ so_far

  pub numbers_more : (left : ℕ) (total : Option ℕ) → 0 < left → is_none lane.refused ≡ true → slice_get (read_numbers k (drop k lanes)) left ≡ total → slice_get (read_numbers (k + 1) (drop (k + 1) lanes)) (left - 1) ≡ total
  numbers_more zero total some is_read so_far = absurd (omega (arith, some))
  numbers_more (suc left) total some is_read so_far =
      let same : suc left - 1 ≡ left = omega arith in
      ap (slice_get (read_numbers (k + 1) (drop (k + 1) lanes))) same
      ∙ ap (λ (t : Bool). slice_get (cond t (k ∷ read_numbers (k + 1) (drop (k + 1) lanes)) (read_numbers (k + 1) (drop (k + 1) lanes))) (suc left)) (sym is_read)
      ∙ ap (λ (ns : List ℕ). slice_get ns (suc left)) (sym next_numbers) ∙ so_far

pub branches_done : (bs : List Branch) (lanes : List Lane) (k : ℕ) (front total : List BranchDef) → length bs ≤ k → front ++ read_branches (drop k bs) (drop k lanes) ≡ total → front ≡ total
branches_done bs lanes k front total le so_far =
    sym (append-nil front) ∙ ap (λ (rest : List Branch). front ++ read_branches rest (drop k lanes)) (sym (drop_all k bs le)) ∙ so_far

pub entries_done : (lanes : List Lane) (k entry : ℕ) (front total : List (List ℕ)) → length lanes ≤ k → front ++ read_entries entry (drop k lanes) ≡ total → front ≡ total
entries_done lanes k entry front total le so_far =
    sym (append-nil front) ∙ ap (λ (rest : List Lane). front ++ read_entries entry rest) (sym (drop_all k lanes le)) ∙ so_far

pub numbers_done : (lanes : List Lane) (k left : ℕ) (total : Option ℕ) → length lanes ≤ k → slice_get (read_numbers k (drop k lanes)) left ≡ total → None ≡ total
numbers_done lanes k left total le so_far =
    ap (λ (rest : List Lane). slice_get (read_numbers k rest) left) (sym (drop_all k lanes le)) ∙ so_far
