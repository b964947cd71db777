-- The header that is written for a tree, as the value of a TTree.
use Rattle.std.specs.{Prelude.{ℕ, ◌+◌, pos, List, [], ◌∷◌, ◌++◌, length, map, codes, Bool, ◌==◌, Option, Some, None, if◌then◌else◌}, List.{list_any}}
use Rattle.std.specs.{Map.{lookup}, Str.{bytes_eq}}
use Rattle.rio_leaf.specs.{Spelling.{text_of_dim, text_of_leaves}, declared.branch.Shape.{Shape, TheVariants.{Leaves, Class}}}
use Rattle.rio_leaf.specs.{declared.leaf.Dim.{Dim, TheVariants.{Fixed, Counted}}, declared.leaf.Leaf.{Leaf}}
use Rattle.rio_format.specs.{declared.value.Part.{Part}, declared.value.Value.{Value, Int, Bool as Truth, Text, List as Items, Object, Pointed, Null, Back}}
use Rattle.rio_format.specs.{Bodies.{part}, WrittenList.{array_object, number_part, titled_object}}
use Rattle.rio_tree.specs.{declared.basket_at.BasketAt.{BasketAt}, declared.head.Branch.{Branch}, declared.head.TreeHead.{TreeHead}, Header.{branch_leaves}}

-- ---- what the letter of a leaf says

abbrev pub is_letter_among : List ℕ → ℕ → Bool
is_letter_among letters letter = list_any (λ l. letter == l) letters

-- the class of such leaves
abbrev pub class_of_letter : ℕ → List ℕ
class_of_letter letter =
    if is_letter_among (codes "Bb") letter then codes "TLeafB"
    else if is_letter_among (codes "Ss") letter then codes "TLeafS"
    else if is_letter_among (codes "Ii") letter then codes "TLeafI"
    else if is_letter_among (codes "Ll") letter then codes "TLeafL"
    else if is_letter_among (codes "F") letter then codes "TLeafF"
    else if is_letter_among (codes "D") letter then codes "TLeafD"
    else if is_letter_among (codes "O") letter then codes "TLeafO"
    else codes "TLeafC"

-- how many bytes a value has; a text says 1
abbrev pub width_of_letter : ℕ → ℕ
width_of_letter letter =
    if is_letter_among (codes "LlD") letter then 8
    else if is_letter_among (codes "IiF") letter then 4
    else if is_letter_among (codes "Ss") letter then 2
    else 1

-- whether the values are integers without a sign
abbrev pub is_unsigned_letter : ℕ → Bool
is_unsigned_letter letter = is_letter_among (codes "bsil") letter

-- ---- leaves

-- the labels of leaves by their names, the last one first
abbrev pub LeafLabels : Type 0
LeafLabels = List (List ℕ × ℕ)

abbrev pub back_or_null : Option ℕ → Value
back_or_null (Some label) = Back label
back_or_null None = Null

-- what points to the leaf that counts: the last one of its name before
abbrev pub counter_pointer : LeafLabels → Dim → Value
counter_pointer known (Counted counter times) = back_or_null (lookup (bytes_eq counter) known)
counter_pointer known other = Null

-- how many values there are, or are for each that a leaf counts
abbrev pub written_count : Dim → ℕ
written_count (Fixed count) = count
written_count other = 1

-- a TLeaf, whose title is the leaf's text without its letter
unfoldable pub plain_leaf_object : LeafLabels → Leaf → Value
plain_leaf_object known leaf =
    Object (codes "TLeaf") (pos 102) (part [] (titled_object leaf.name (leaf.name ++ text_of_dim leaf.dim))
    ∷ number_part (codes "fLen") (written_count leaf.dim)
    ∷ number_part (codes "fLenType") (width_of_letter leaf.letter)
    ∷ part (codes "fIsUnsigned") (Truth (is_unsigned_letter leaf.letter))
    ∷ part (codes "fLeafCount") (counter_pointer known leaf.dim)
    ∷ [])

-- an object of the leaf's own class
unfoldable pub leaf_object : LeafLabels → Leaf → Value
leaf_object known leaf = Object (class_of_letter leaf.letter) (pos 101) (part [] (plain_leaf_object known leaf) ∷ [])

-- pointers to leaves, which have the labels from this one on
unfoldable pub leaf_pointers : LeafLabels → ℕ → List Leaf → List Value
leaf_pointers known label [] = []
leaf_pointers known label (leaf ∷ leaves) = Pointed label (leaf_object known leaf) ∷ leaf_pointers ((leaf.name, label) ∷ known) (label + 1) leaves

-- the labels that are known behind these leaves
unfoldable pub labels_behind : LeafLabels → ℕ → List Leaf → LeafLabels
labels_behind known label [] = known
labels_behind known label (leaf ∷ leaves) = labels_behind ((leaf.name, label) ∷ known) (label + 1) leaves

-- ---- branches

-- how many labels a branch takes: one for itself, and one for each leaf
abbrev pub branch_label_count : Branch → ℕ
branch_label_count b = length (branch_leaves b) + 1

-- the list of its leaves, or its class
abbrev pub title_of_branch : Shape → List ℕ
title_of_branch (Leaves leaves) = text_of_leaves leaves
title_of_branch (Class class) = class

-- an array of a number for each basket, and a last one
unfoldable pub basket_numbers : (BasketAt → ℕ) → List BasketAt → ℕ → Value
basket_numbers number baskets last = Items (map (λ b. Int (pos (number b))) baskets ++ Int (pos last) ∷ [])

-- what a TBranch says of itself
abbrev pub branch_numbers : Branch → List Part
branch_numbers b =
    part [] (titled_object b.def.name (title_of_branch b.def.shape))
    ∷ number_part (codes "fEntryOffsetLen") (if b.offsets then 1000 else 0)
    ∷ number_part (codes "fWriteBasket") (length b.baskets)
    ∷ number_part (codes "fMaxBaskets") (length b.baskets + 1)
    ∷ number_part (codes "fEntries") b.entries
    ∷ []

-- where its baskets stand
abbrev pub basket_arrays : Branch → List Part
basket_arrays b =
    part (codes "fBasketBytes") (basket_numbers (λ basket. basket.bytes) b.baskets 0)
    ∷ part (codes "fBasketEntry") (basket_numbers (λ basket. basket.first) b.baskets b.entries)
    ∷ part (codes "fBasketSeek") (basket_numbers (λ basket. basket.seek) b.baskets 0)
    ∷ []

-- its leaves, which have the labels from this one on, beside no branches of its own and no baskets in the header
abbrev pub branch_pointer_arrays : LeafLabels → ℕ → Branch → List Part
branch_pointer_arrays known label b =
    part (codes "fBranches") (array_object [])
    ∷ part (codes "fLeaves") (array_object (leaf_pointers known label (branch_leaves b)))
    ∷ part (codes "fBaskets") (array_object [])
    ∷ []

-- a TBranch
unfoldable pub plain_branch_object : LeafLabels → ℕ → Branch → Value
plain_branch_object known label b = Object (codes "TBranch") (pos 113) (branch_numbers b ++ (branch_pointer_arrays known label b ++ basket_arrays b))

-- a TBranch, or a TBranchElement where its entries are objects
abbrev pub shaped_object : Value → Branch → Shape → Value
shaped_object plain b (Leaves leaves) = plain
shaped_object plain b (Class class) = Object (codes "TBranchElement") (pos 110) (part [] plain ∷ part (codes "fClassName") (Text class) ∷ part (codes "fClassVersion") (Int b.class_version) ∷ [])

unfoldable pub branch_object : LeafLabels → ℕ → Branch → Value
branch_object known label b = shaped_object (plain_branch_object known label b) b b.def.shape

-- pointers to branches, which have the labels from this one on, each with its leaves behind it
unfoldable pub branch_pointers : LeafLabels → ℕ → List Branch → List Value
branch_pointers known label [] = []
branch_pointers known label (b ∷ bs) =
    Pointed label (branch_object known (label + 1) b) ∷ branch_pointers (labels_behind known (label + 1) (branch_leaves b)) (label + branch_label_count b) bs

-- ---- the tree

-- what points to so many objects, which have the labels from this one on
unfoldable pub backs_from : {A : Type 0} → ℕ → List A → List Value
backs_from label [] = []
backs_from label (x ∷ xs) = Back label ∷ backs_from (label + 1) xs

-- what points to the leaves of all branches
unfoldable pub leaf_backs : ℕ → List Branch → List Value
leaf_backs label [] = []
leaf_backs label (b ∷ bs) = backs_from (label + 1) (branch_leaves b) ++ leaf_backs (label + branch_label_count b) bs

-- the header of the tree of this name: a TTree
unfoldable pub tree_value_of : List ℕ → TreeHead → Value
tree_value_of name head =
    Object (codes "TTree") (pos 120) (part [] (titled_object name [])
    ∷ number_part (codes "fEntries") head.entries
    ∷ part (codes "fBranches") (array_object (branch_pointers [] 0 head.branches))
    ∷ part (codes "fLeaves") (array_object (leaf_backs 0 head.branches))
    ∷ [])
