-- The counters of the branches of a tree, one by one.
use Rattle.std.proofs.{Common.{◌≡◌, ◌<◌, ◌∙◌, ℕ, List, length, slice_get, slice_index_or, Option, Some, refl, sym, ap, arith}, lemmas.List.{length-map}, lemmas.Option.{same_Some, slice_get-map, slice_get_read}}
use Rattle.std.specs.Option.{option_map}
use Rattle.rio_entry.specs.Counting.{counters_within}
use Rattle.rio_tree.specs.declared.head.Branch.{Branch}
use Rattle.rio_entry.specs.TreeCounters.{tree_counters}

-- there are counters of each branch
pub counters_for_all : (branches : List Branch) (counters : List (List (Option ℕ))) (k : ℕ) → counters ≡ tree_counters branches → k < length branches → k < length counters
counters_for_all branches counters k counted lt = omega (arith, lt, ap (λ (cs : List (List (Option ℕ))). length cs) counted, length-map branches (λ (b : Branch). counters_within b.def.shape))

-- those at a place are those of the branch there
pub counters_there : (branches : List Branch) (counters : List (List (Option ℕ))) (k : ℕ) (b : Branch) (own : List (Option ℕ)) → counters ≡ tree_counters branches → k < length branches → b ≡ slice_index_or branches k b → slice_get counters k ≡ Some own
    → own ≡ counters_within b.def.shape
counters_there branches counters k b own counted lt is found =
    let here : slice_get branches k ≡ Some b = slice_get_read branches (length branches) k b refl lt is in
    let all : slice_get counters k ≡ option_map (λ (c : Branch). counters_within c.def.shape) (slice_get branches k) = ap (λ (cs : List (List (Option ℕ))). slice_get cs k) counted ∙ slice_get-map (λ (c : Branch). counters_within c.def.shape) branches k in
    same_Some own (counters_within b.def.shape) (sym found ∙ all ∙ ap (option_map (λ (c : Branch). counters_within c.def.shape)) here)
