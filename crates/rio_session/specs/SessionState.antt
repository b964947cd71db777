-- What a session keeps beside its file.
use Rattle.std.specs.Prelude.{ℕ, ◌+◌, ◌-◌, ◌^◌, min, map, Bool, List, Option}
use Rattle.rio_format.specs.declared.class.ClassDef.{ClassDef}
use Rattle.rio_key.specs.declared.head.KeyHead.{KeyHead}
use Rattle.rio_chain.specs.declared.segment.Segment.{Segment}
use Rattle.rio_tree_table.specs.declared.table.KeptTree.{KeptTree}
use Rattle.rio_recover.specs.declared.trees.TreeAt.{TreeAt}
pub use Rattle.rio_session.specs.Fills.{FilledTree, filled_tree_of, header_of, kept_tree_of, places_of_trees, tree_at_of}

pub record SessionState : Type 0 where
  pub segments : List Segment
  pub classes : List ClassDef
  -- the keys of objects and trees, in the order of the key list
  pub heads : List KeyHead
  -- the trees in order of names: their baskets that were written, and their pending rows
  pub trees : List FilledTree
  -- the key of the class list that counts
  pub info : Option KeyHead
  -- the file's name, and what its header says how long key and texts of the first record are
  pub name : List ℕ
  pub nbytes_name : ℕ
  pub datime : ℕ
  -- the file's length when it was opened, 0 for one that wasn't made yet, and the costs of all commands together
  pub opened : ℕ
  pub costs : ℕ
  pub failed : Bool

-- with a cost counted, as far as 64 bits hold the costs
abbrev pub with_cost : ℕ → SessionState → SessionState
with_cost cost s = record s { costs = min (s.costs + cost) (2 ^ 64 - 1) }

-- ---- trees

abbrev pub kept_trees : SessionState → List KeptTree
kept_trees s = map kept_tree_of s.trees

-- the trees as their headers say that count
abbrev pub headers_of : SessionState → List TreeAt
headers_of s = map tree_at_of s.trees

-- where the baskets begin that were written: those that headers name, and those that were put since
abbrev pub baskets_of : SessionState → List ℕ
baskets_of s = places_of_trees s.trees
