-- The headers of two trees, part for part.
use Rattle.std.proofs.Common.{◌≡◌, ℕ, pos, List, [], ◌∷◌, Bool, true, false, None, refl}
use Rattle.std.specs.Prelude.{codes}
use Rattle.rio_format.specs.{WrittenList.{array_object, plain_object, titled_object}, declared.value.Part.{Part}, declared.value.Value.{Value, Int, Bool as Truth, Text, List as Items, Object, Pointed, Null, Back}}
use Rattle.rio_leaf.specs.{declared.branch.Shape.TheVariants.{Leaves}, declared.leaf.Dim.{Dim, TheVariants.{One, Counted}}, declared.leaf.Leaf.{Leaf}}
use Rattle.rio_tree.specs.{declared.basket_at.BasketAt.{BasketAt}, declared.head.Branch.{Branch}, declared.head.TreeHead.{TreeHead}}
use Rattle.rio_tree.specs.WrittenTree.{backs_from, basket_numbers, branch_object, branch_pointers, labels_behind, leaf_backs, leaf_object, leaf_pointers, plain_branch_object, plain_leaf_object, tree_value_of}

-- ---- parts

abbrev base : Value → Part
base object = record { name = []; value = object }

abbrev said : List ℕ → Value → Part
said name value = record { name = name; value = value }

abbrev number : List ℕ → ℕ → Part
number name n = said name (Int (pos n))

abbrev numbers : List ℕ → List Value → Part
numbers name items = said name (Items items)

abbrev object : Value
object = Object (codes "TObject") (pos 1) (number (codes "fUniqueID") 0 ∷ number (codes "fBits") 0 ∷ [])

abbrev named : List ℕ → List ℕ → Part
named name title = base (Object (codes "TNamed") (pos 1) (base object ∷ said (codes "fName") (Text name) ∷ said (codes "fTitle") (Text title) ∷ []))

abbrev pointers : List ℕ → List Value → Part
pointers name items = said name (Object (codes "TObjArray") (pos 3) (base object ∷ said (codes "fName") (Text []) ∷ number (codes "fLowerBound") 0 ∷ numbers (codes "items") items ∷ []))

-- ---- leaves and branches

abbrev leaf_of : List ℕ → ℕ → Dim → Leaf
leaf_of name letter dim = record { name = name; letter = letter; dim = dim }

-- a branch of one leaf
abbrev branch_of : List ℕ → Leaf → ℕ → Bool → List BasketAt → List ℕ → Branch
branch_of name leaf entries offsets baskets counted_by = record {
  def = record { name = name; shape = Leaves (leaf ∷ []) };
  class_version = pos 0;
  entries = entries;
  offsets = offsets;
  baskets = baskets;
  counted_by = counted_by;
  refused = None;
}

-- ---- tree T with the branch x=x/I, of which nothing is saved

abbrev tree_t : TreeHead
tree_t = record { entries = 0; branches = branch_of (codes "x") (leaf_of (codes "x") 73 One) 0 false [] [] ∷ [] }

abbrev value_of_leaf_x : Value
value_of_leaf_x =
    Object (codes "TLeafI") (pos 101) (base (Object (codes "TLeaf") (pos 102) (named (codes "x") (codes "x")
    ∷ number (codes "fLen") 1 ∷ number (codes "fLenType") 4 ∷ said (codes "fIsUnsigned") (Truth false) ∷ said (codes "fLeafCount") Null ∷ [])) ∷ [])

abbrev value_of_x : Value
value_of_x =
    Object (codes "TBranch") (pos 113) (named (codes "x") (codes "x/I")
    ∷ number (codes "fEntryOffsetLen") 0 ∷ number (codes "fWriteBasket") 0 ∷ number (codes "fMaxBaskets") 1 ∷ number (codes "fEntries") 0
    ∷ pointers (codes "fBranches") [] ∷ pointers (codes "fLeaves") (Pointed 1 value_of_leaf_x ∷ []) ∷ pointers (codes "fBaskets") []
    ∷ numbers (codes "fBasketBytes") (Int (pos 0) ∷ []) ∷ numbers (codes "fBasketEntry") (Int (pos 0) ∷ []) ∷ numbers (codes "fBasketSeek") (Int (pos 0) ∷ []) ∷ [])

abbrev value_of_t : Value
value_of_t =
    Object (codes "TTree") (pos 120) (named (codes "T") [] ∷ number (codes "fEntries") 0
    ∷ pointers (codes "fBranches") (Pointed 0 value_of_x ∷ []) ∷ pointers (codes "fLeaves") (Back 1 ∷ []) ∷ [])

t_is_written : tree_value_of (codes "T") tree_t ≡ value_of_t
unfolding tree_value_of branch_pointers branch_object plain_branch_object leaf_pointers labels_behind leaf_object plain_leaf_object leaf_backs backs_from basket_numbers titled_object array_object plain_object
t_is_written = refl

-- ---- tree V with the branches n=n/I and v=v[n]/F, after three entries were saved in a basket each

abbrev basket : ℕ → ℕ → BasketAt
basket bytes seek = record { bytes = bytes; first = 0; seek = seek }

abbrev tree_v : TreeHead
tree_v = record {
  entries = 3;
  branches =
      branch_of (codes "n") (leaf_of (codes "n") 73 One) 3 false (basket 72 208 ∷ []) []
      ∷ branch_of (codes "v") (leaf_of (codes "v") 70 (Counted (codes "n") 1)) 3 true (basket 92 280 ∷ []) (0 ∷ [])
      ∷ [];
}

abbrev value_of_leaf_n : Value
value_of_leaf_n =
    Object (codes "TLeafI") (pos 101) (base (Object (codes "TLeaf") (pos 102) (named (codes "n") (codes "n")
    ∷ number (codes "fLen") 1 ∷ number (codes "fLenType") 4 ∷ said (codes "fIsUnsigned") (Truth false) ∷ said (codes "fLeafCount") Null ∷ [])) ∷ [])

abbrev value_of_n : Value
value_of_n =
    Object (codes "TBranch") (pos 113) (named (codes "n") (codes "n/I")
    ∷ number (codes "fEntryOffsetLen") 0 ∷ number (codes "fWriteBasket") 1 ∷ number (codes "fMaxBaskets") 2 ∷ number (codes "fEntries") 3
    ∷ pointers (codes "fBranches") [] ∷ pointers (codes "fLeaves") (Pointed 1 value_of_leaf_n ∷ []) ∷ pointers (codes "fBaskets") []
    ∷ numbers (codes "fBasketBytes") (Int (pos 72) ∷ Int (pos 0) ∷ []) ∷ numbers (codes "fBasketEntry") (Int (pos 0) ∷ Int (pos 3) ∷ [])
    ∷ numbers (codes "fBasketSeek") (Int (pos 208) ∷ Int (pos 0) ∷ []) ∷ [])

abbrev value_of_leaf_v : Value
value_of_leaf_v =
    Object (codes "TLeafF") (pos 101) (base (Object (codes "TLeaf") (pos 102) (named (codes "v") (codes "v[n]")
    ∷ number (codes "fLen") 1 ∷ number (codes "fLenType") 4 ∷ said (codes "fIsUnsigned") (Truth false) ∷ said (codes "fLeafCount") (Back 1) ∷ [])) ∷ [])

abbrev value_of_v : Value
value_of_v =
    Object (codes "TBranch") (pos 113) (named (codes "v") (codes "v[n]/F")
    ∷ number (codes "fEntryOffsetLen") 1000 ∷ number (codes "fWriteBasket") 1 ∷ number (codes "fMaxBaskets") 2 ∷ number (codes "fEntries") 3
    ∷ pointers (codes "fBranches") [] ∷ pointers (codes "fLeaves") (Pointed 3 value_of_leaf_v ∷ []) ∷ pointers (codes "fBaskets") []
    ∷ numbers (codes "fBasketBytes") (Int (pos 92) ∷ Int (pos 0) ∷ []) ∷ numbers (codes "fBasketEntry") (Int (pos 0) ∷ Int (pos 3) ∷ [])
    ∷ numbers (codes "fBasketSeek") (Int (pos 280) ∷ Int (pos 0) ∷ []) ∷ [])

abbrev value_of_tree_v : Value
value_of_tree_v =
    Object (codes "TTree") (pos 120) (named (codes "V") [] ∷ number (codes "fEntries") 3
    ∷ pointers (codes "fBranches") (Pointed 0 value_of_n ∷ Pointed 2 value_of_v ∷ []) ∷ pointers (codes "fLeaves") (Back 1 ∷ Back 3 ∷ []) ∷ [])

v_is_written : tree_value_of (codes "V") tree_v ≡ value_of_tree_v
unfolding tree_value_of branch_pointers branch_object plain_branch_object leaf_pointers labels_behind leaf_object plain_leaf_object leaf_backs backs_from basket_numbers titled_object array_object plain_object
v_is_written = refl
