-- The trees of a file, by the headers that count.
use Rattle.std.proofs.Common.{◌≡◌, List, sym, subst}
use Rattle.std.specs.List.Sorted.{IsPermutation}
use Rattle.rio_state.specs.{Contents.{file_classes}, KeyedRecords.{KeyedRecord, info_key, top_keys, tree_records}}
use Rattle.rio_recover.specs.{Trees.{AreTreesOf, trees_at}, declared.trees.TreeAt.{TreeAt}}

-- where the same headers count and say the same, the trees are the same
pub trees_still : (old new : List KeyedRecord) (trees : List TreeAt)
    → trees_at (file_classes (info_key new)) (tree_records (top_keys new)) ≡ trees_at (file_classes (info_key old)) (tree_records (top_keys old)) → AreTreesOf old trees → AreTreesOf new trees
trees_still old new trees same are = record { ordered = are.ordered; each = subst (λ (ts : List TreeAt). IsPermutation ts trees) (sym same) are.each }

pub headers_still : (old new : List KeyedRecord) (trees : List TreeAt) → info_key new ≡ info_key old → tree_records (top_keys new) ≡ tree_records (top_keys old) → AreTreesOf old trees → AreTreesOf new trees
headers_still old new trees info headers are = trees_still old new trees (λ i. trees_at (file_classes (info i)) (headers i)) are
