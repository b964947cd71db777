-- A generated script can be stated, its rows fit its tree, and their sum is known.
use Rattle.std.specs.Prelude.{◌≡◌, ℕ, ◌+◌, ◌*◌, ◌<◌, pos, List, true, false}
use Rattle.rio_num.specs.Word.{is_item_text}
use Rattle.rio_leaf.specs.Stated.{are_stated_branches}
use Rattle.rio_machine.specs.{Limits.{has_many_branches}, Rows.{row_fits}}
use Rattle.rio_format.specs.declared.class.ClassDef.{ClassDef}
use Rattle.rio_gen.specs.{Generated.{generated_branches, generated_row, generated_rows, tree_name}, Summary.{sum_of_rows}}

-- a line of the script can state the tree, and it hasn't too many branches
pub record TreeIsStated : Type 0 where
  pub name : is_item_text tree_name ≡ true
  pub branches : are_stated_branches generated_branches ≡ true
  pub few : has_many_branches generated_branches ≡ false

-- the row of each of the first 1,000,000 entries fits, whatever classes there are
abbrev pub GeneratedRowsFit : Type 0
GeneratedRowsFit = (classes : List ClassDef) (e : ℕ) → e < 1000000 → row_fits classes generated_branches (generated_row e) ≡ true

-- n rows have the integers from 0 to 20 * n - 1: twice their sum is 20 * n * (20 * n - 1)
abbrev pub SumIsKnown : Type 0
SumIsKnown = (n s : ℕ) → s + 10 * n ≡ 200 * (n * n) → sum_of_rows (generated_rows n) ≡ pos s
