-- The classes of trees, and the list of classes that is written with the declared ones.
use Rattle.std.specs.Prelude.{ℕ, pos, List, [], ◌∷◌, ◌++◌, codes}
use Rattle.rio_format.specs.{declared.class.Base.{Base}, declared.class.ClassDef.{ClassDef}, declared.class.Member.{Member}, declared.kind.Kind.TheVariants.{Plain, Counter, Counted, Text, Inline, Pointer}}
use Rattle.rio_format.specs.{declared.kind.Primitive.{Primitive, TheVariants.{I32, I64, Bool}}, Bodies.{member}, Descriptions.{describing, named_base}}

-- ---- members

-- an array of pointers within the object
abbrev pub array_member : List ℕ → Member
array_member name = member name (Inline (codes "TObjArray"))

abbrev pub i32_member : List ℕ → Member
i32_member name = member name (Plain I32)

abbrev pub i64_member : List ℕ → Member
i64_member name = member name (Plain I64)

-- ---- bases

abbrev pub branch_base : Base
branch_base = record { name = codes "TBranch"; version = pos 113 }

abbrev pub leaf_base : Base
leaf_base = record { name = codes "TLeaf"; version = pos 102 }

-- ---- classes, each with the checksum of its declaration

unfoldable pub tree_members : List Member
tree_members = i64_member (codes "fEntries") ∷ array_member (codes "fBranches") ∷ array_member (codes "fLeaves") ∷ []

abbrev pub tree_class : ClassDef
tree_class = describing (codes "TTree") (pos 120) 2390821405 named_base tree_members

-- an array with a number for each basket
abbrev pub of_baskets : List ℕ → Primitive → Member
of_baskets name prim = member name (Counted prim (codes "fMaxBaskets"))

unfoldable pub branch_members : List Member
branch_members =
    i32_member (codes "fEntryOffsetLen") ∷ i32_member (codes "fWriteBasket") ∷ member (codes "fMaxBaskets") Counter ∷ i64_member (codes "fEntries")
    ∷ array_member (codes "fBranches") ∷ array_member (codes "fLeaves") ∷ array_member (codes "fBaskets")
    ∷ of_baskets (codes "fBasketBytes") I32 ∷ of_baskets (codes "fBasketEntry") I64 ∷ of_baskets (codes "fBasketSeek") I64 ∷ []

abbrev pub branch_class : ClassDef
branch_class = describing (codes "TBranch") (pos 113) 3955859836 named_base branch_members

-- a branch whose entries are objects
unfoldable pub object_branch_members : List Member
object_branch_members = member (codes "fClassName") Text ∷ i32_member (codes "fClassVersion") ∷ []

abbrev pub object_branch_class : ClassDef
object_branch_class = describing (codes "TBranchElement") (pos 110) 1729852984 branch_base object_branch_members

unfoldable pub leaf_members : List Member
leaf_members = i32_member (codes "fLen") ∷ i32_member (codes "fLenType") ∷ member (codes "fIsUnsigned") (Plain Bool) ∷ member (codes "fLeafCount") (Pointer (codes "TLeaf")) ∷ []

abbrev pub leaf_class : ClassDef
leaf_class = describing (codes "TLeaf") (pos 102) 2244545638 named_base leaf_members

-- a leaf of one kind of values
abbrev pub kind_leaf : List ℕ → ℕ → ClassDef
kind_leaf name sum = describing name (pos 101) sum leaf_base []

-- the classes of trees, in the order in which they are written
unfoldable pub tree_classes : List ClassDef
tree_classes =
    tree_class ∷ branch_class ∷ object_branch_class ∷ leaf_class
    ∷ kind_leaf (codes "TLeafB") 2112258162 ∷ kind_leaf (codes "TLeafS") 2844052419 ∷ kind_leaf (codes "TLeafI") 2413585209 ∷ kind_leaf (codes "TLeafL") 2542725372
    ∷ kind_leaf (codes "TLeafF") 2284445046 ∷ kind_leaf (codes "TLeafD") 2198351604 ∷ kind_leaf (codes "TLeafO") 2671865535 ∷ kind_leaf (codes "TLeafC") 2155304883 ∷ []

-- the classes that are written with these declared ones
abbrev pub written_classes : List ClassDef → List ClassDef
written_classes declared = tree_classes ++ declared
