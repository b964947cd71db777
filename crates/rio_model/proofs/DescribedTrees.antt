-- The classes of trees are stated, each with the checksum of its declaration.
use Rattle.std.proofs.Common.{◌≡◌, true, codes, refl}
use Rattle.std.specs.Fmt.{digits}
use Rattle.rio_num.specs.Printed.{name_text}
use Rattle.rio_model.specs.{ClassGrammar.{checksum_of, primitive_of}, ClassText.{text_of_class}, Stated.{is_stated_class}, Described.{TreeClassesAreStated}}
use Rattle.rio_format.specs.TreeClasses.{branch_class, branch_members, kind_leaf, leaf_class, leaf_members, object_branch_class, object_branch_members, tree_class, tree_classes, tree_members}

tree_stated : is_stated_class tree_class ≡ true
unfolding is_stated_class checksum_of text_of_class name_text primitive_of digits tree_members
tree_stated = refl

branch_stated : is_stated_class branch_class ≡ true
unfolding is_stated_class checksum_of text_of_class name_text primitive_of digits branch_members
branch_stated = refl

object_branch_stated : is_stated_class object_branch_class ≡ true
unfolding is_stated_class checksum_of text_of_class name_text primitive_of digits object_branch_members
object_branch_stated = refl

leaf_stated : is_stated_class leaf_class ≡ true
unfolding is_stated_class checksum_of text_of_class name_text primitive_of digits leaf_members
leaf_stated = refl

-- the leaves of one kind
record LeavesAreStated : Type 0 where
  bytes : is_stated_class (kind_leaf (codes "TLeafB") 2112258162) ≡ true
  shorts : is_stated_class (kind_leaf (codes "TLeafS") 2844052419) ≡ true
  ints : is_stated_class (kind_leaf (codes "TLeafI") 2413585209) ≡ true
  longs : is_stated_class (kind_leaf (codes "TLeafL") 2542725372) ≡ true
  floats : is_stated_class (kind_leaf (codes "TLeafF") 2284445046) ≡ true
  doubles : is_stated_class (kind_leaf (codes "TLeafD") 2198351604) ≡ true
  bools : is_stated_class (kind_leaf (codes "TLeafO") 2671865535) ≡ true
  texts : is_stated_class (kind_leaf (codes "TLeafC") 2155304883) ≡ true

leaves_stated : LeavesAreStated
unfolding is_stated_class checksum_of text_of_class name_text primitive_of digits
leaves_stated = record { bytes = refl; shorts = refl; ints = refl; longs = refl; floats = refl; doubles = refl; bools = refl; texts = refl }

pub trees_stated : TreeClassesAreStated
unfolding tree_classes
trees_stated =
    let l = leaves_stated in
    rw (tree_stated, branch_stated, object_branch_stated, leaf_stated, l.bytes, l.shorts, l.ints, l.longs, l.floats, l.doubles, l.bools, l.texts) refl
