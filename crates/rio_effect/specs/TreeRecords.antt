-- The records of a tree as commands write them: its header, and the baskets of its branches.
use Rattle.std.specs.Prelude.{ℕ, ℤ, pos, List, [], ◌∷◌, ◌++◌, codes, length, Bool, None}
use Rattle.std.specs.Option.{option_map_or}
use Rattle.rio_leaf.specs.{Stated.{leaves_of}, declared.branch.BranchDef.{BranchDef}, declared.branch.Shape.{Shape, TheVariants.{Leaves, Class}}}
use Rattle.rio_format.specs.{Classes.{newest_in}, declared.class.ClassDef.{ClassDef}, TreeClasses.{tree_classes}, Written.{written_form}}
use Rattle.rio_key.specs.{declared.head.KeyHead.{KeyHead}, OpenBasket.{OpenBasket}, BasketRecord.{basket_data, basket_key, basket_key_length, basket_record, basket_record_length}}
use Rattle.rio_chain.specs.{Record.{key_size, new_key, record_bytes}, declared.key_words.KeyWords.{KeyWords}}
use Rattle.rio_tree.specs.{Header.{has_offsets}, WrittenLaws.{counting_branches}, WrittenTree.{tree_value_of}}
use Rattle.rio_tree.specs.{declared.basket_at.BasketAt.{BasketAt}, declared.head.Branch.{Branch}, declared.head.TreeHead.{TreeHead}}
use Rattle.rio_effect.specs.ObjectRecord.{object_words}

-- ---- the header's record

-- what its key says: place, time, the tree's name and its cycle, in the directory of the file, without a title
abbrev pub header_words : ℕ → ℕ → List ℕ → ℕ → KeyWords
header_words place datime name cycle = object_words place datime name cycle (codes "TTree")

-- the data: the header as it is written by the classes of trees, whose places count from the key's first byte
abbrev pub header_data : KeyWords → List ℕ → TreeHead → List ℕ
header_data words name head = written_form tree_classes (key_size words) (tree_value_of name head)

-- the key, and the whole record
unfoldable pub header_key : ℕ → ℕ → List ℕ → ℕ → TreeHead → KeyHead
header_key place datime name cycle head =
    let words = header_words place datime name cycle in new_key words (length (header_data words name head))

unfoldable pub header_record : ℕ → ℕ → List ℕ → ℕ → TreeHead → List ℕ
header_record place datime name cycle head =
    let words = header_words place datime name cycle in record_bytes words (header_data words name head)

-- ---- headers

-- the version that the header of a new tree gives the class of a branch: the newest
abbrev pub version_in_header : List ClassDef → Shape → ℤ
version_in_header classes (Leaves leaves) = pos 0
version_in_header classes (Class class) = option_map_or (λ c. c.version) (newest_in classes class) (pos 0)

-- a branch behind others, without entries and baskets
abbrev pub new_branch : List ClassDef → List BranchDef → BranchDef → Branch
new_branch classes before def = record {
  def = def;
  class_version = version_in_header classes def.shape;
  entries = 0;
  offsets = has_offsets def.shape;
  baskets = [];
  counted_by = counting_branches before (leaves_of def.shape);
  refused = None;
}

abbrev pub new_branches : List ClassDef → List BranchDef → List BranchDef → List Branch
new_branches classes before [] = []
new_branches classes before (b ∷ bs) = new_branch classes before b ∷ new_branches classes (before ++ b ∷ []) bs

-- the header of a tree that is made
abbrev pub new_head : List ClassDef → List BranchDef → TreeHead
new_head classes branches = record { entries = 0; branches = new_branches classes [] branches }

-- a branch of a tree of so many entries, with more baskets behind those that it has
abbrev pub branch_with : ℕ → Branch → List BasketAt → Branch
branch_with count b ats = record b { entries = count; baskets = b.baskets ++ ats }

abbrev pub branches_with : ℕ → List Branch → List (List BasketAt) → List Branch
branches_with count [] more = []
branches_with count (b ∷ bs) [] = branch_with count b [] ∷ branches_with count bs []
branches_with count (b ∷ bs) (ats ∷ more) = branch_with count b ats ∷ branches_with count bs more

-- a header with so many entries, and in each branch more baskets
abbrev pub head_with : ℕ → TreeHead → List (List BasketAt) → TreeHead
head_with count head more = record { entries = count; branches = branches_with count head.branches more }

-- ---- a basket's record

-- What it says, but for its place.
pub record BasketWords : Type 0 where
  pub tree : List ℕ
  pub branch : List ℕ
  pub datime : ℕ
  pub offsets : Bool
  pub entries : List (List ℕ)

-- of these entries of a branch
abbrev pub words_of_basket : List ℕ → BranchDef → ℕ → List (List ℕ) → BasketWords
words_of_basket tree b datime entries =
    record { tree = tree; branch = b.name; datime = datime; offsets = has_offsets b.shape; entries = entries }

abbrev pub basket_with_words : BasketWords → OpenBasket
basket_with_words words = record { offsets = words.offsets; entries = words.entries; rooms = 0; spare = 0 }

-- the key, the record, and how long it is
abbrev pub key_of_basket : ℕ → BasketWords → KeyHead
key_of_basket place words =
    basket_key place words.tree words.branch words.datime (length (basket_data (basket_key_length words.tree words.branch) (basket_with_words words)))

abbrev pub record_of_basket : ℕ → BasketWords → List ℕ
record_of_basket place words = basket_record place words.tree words.branch words.datime (basket_with_words words)

abbrev pub length_of_basket : BasketWords → ℕ
length_of_basket words = basket_record_length words.tree words.branch (basket_with_words words)

-- as a header names it, with the number of its first entry
abbrev pub basket_at : ℕ → ℕ → BasketWords → BasketAt
basket_at place first words = record { bytes = length_of_basket words; first = first; seek = place }
