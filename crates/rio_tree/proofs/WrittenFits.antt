-- The header that is written for a tree fits the classes of trees.
use Rattle.std.proofs.Common.{◌≡◌, ◌∙◌, ◌&&◌, ◌^◌, ◌<◌, ℕ, ◌+◌, ℤ, pos, Bool, true, false, cond, List, [], ◌∷◌, ◌++◌, length, map, codes, Option, Some, None, refl, ap, sym, subst, append-nil, append_assoc, arith, is_some, nat_lt}
use Rattle.std.proofs.{lemmas.Bool.{and_from, and_parts, eq-eqb, leb-true, lt-ltb, ltb-true}, lemmas.List.{length-append, length-map}}
use Rattle.std.specs.{List.{list_all}, Prelude.{option_and_then, not, ◌==◌, nat_le}}
use Rattle.rio_leaf.specs.Stated.{all_leaves, are_branches_behind, are_stated_leaves, has_branch, is_stated_branch, is_stated_leaf, is_stated_shape, leaves_of}
use Rattle.rio_leaf.specs.{declared.branch.Shape.{Shape, TheVariants.{Leaves, Class}}, declared.leaf.Leaf.{Leaf}}
use Rattle.rio_leaf.specs.{declared.leaf.Dim.{Dim, TheVariants.{One, Fixed, Counted}}, declared.branch.BranchDef.{BranchDef}}
use Rattle.rio_leaf.specs.Leaves.{has_counting_leaf, has_leaf, is_dim, is_letter_of}
use Rattle.rio_num.specs.Word.{is_name_text}
use Rattle.rio_format.specs.{declared.kind.Kind.TheVariants.{Plain, Fixed as FixedArray, Inline}, declared.kind.Primitive.{Primitive, TheVariants.{I32, I64}}, declared.value.Value.{Value, Int, Text, Object, Pointed}}
use Rattle.rio_format.specs.{Bodies.{part}, Fits.{Labels, Fitting, all_fit, fits_prim, fits_signed, fitting_of, fitting_step, object_may_stand}}
use Rattle.rio_format.specs.{Slots.{Slot, kinded, based, any_pointer}, TreeClasses.{tree_classes, tree_members, branch_members, object_branch_members}}
use Rattle.rio_format.proofs.{ValueCases.{Each, fold_Int, fold_List}, WrittenParts.{FitsIn, array_fits, int_fits, pointer_to, text_fits, titled_fits}, WrittenValues.{fit_object}}
use Rattle.rio_tree.specs.{declared.basket_at.BasketAt.{BasketAt}, declared.head.Branch.{Branch}, declared.head.TreeHead.{TreeHead}, Header.{branch_leaves}}
use Rattle.rio_tree.specs.WrittenLaws.{WrittenTreeFits, basket_fits_header, branch_fits_header, stated_defs}
use Rattle.rio_tree.specs.WrittenTree.{LeafLabels, backs_from, basket_numbers, branch_label_count, branch_object, branch_pointers, labels_behind, leaf_backs, leaf_pointers, plain_branch_object, shaped_object, title_of_branch, tree_value_of, written_count}
use Rattle.rio_tree.proofs.WrittenLeaves.{IsLeafAt, KnowsLeaves, count_fits, get_behind, leaf_back_fits, leaf_label, leaves_fit, knows_longer}

-- ---- numbers of baskets

pub record BasketsFit (baskets : List BasketAt) : Type 0 where
  pub bytes : list_all (λ b. fits_prim I32 (pos b.bytes)) baskets ≡ true
  pub first : list_all (λ b. fits_prim I64 (pos b.first)) baskets ≡ true
  pub seek : list_all (λ b. fits_prim I64 (pos b.seek)) baskets ≡ true

baskets_fit : (baskets : List BasketAt) → list_all basket_fits_header baskets ≡ true → BasketsFit baskets
baskets_fit [] e = record { bytes = refl; first = refl; seek = refl }
baskets_fit (b ∷ bs) e =
    let h = and_parts (basket_fits_header b) (list_all basket_fits_header bs) e in
    let own = and_parts (nat_lt b.bytes (2 ^ 31) && nat_lt b.first (2 ^ 63)) (nat_lt b.seek (2 ^ 63)) h.0 in
    let others = and_parts (nat_lt b.bytes (2 ^ 31)) (nat_lt b.first (2 ^ 63)) own.0 in
    let rest = baskets_fit bs h.1 in
    record {
      bytes = and_from _ _ others.0 rest.bytes;
      first = and_from _ _ others.1 rest.first;
      seek = and_from _ _ own.1 rest.seek;
    }

-- ---- arrays with a number for each basket

numbers_each : (of : Primitive) (number : BasketAt → ℕ) (last : ℕ) (baskets : List BasketAt) (labels : Labels)
    → list_all (λ b. fits_prim of (pos (number b))) baskets ≡ true → fits_prim of (pos last) ≡ true
    → all_fit (kinded (Plain of)) (map (fitting_of tree_classes) (map (λ b. Int (pos (number b))) baskets ++ Int (pos last) ∷ [])) labels ≡ Some labels
numbers_each of number last [] labels all e = rw (int_fits tree_classes (pos last) of labels e) refl
numbers_each of number last (b ∷ bs) labels all e =
    let h = and_parts (fits_prim of (pos (number b))) (list_all (λ b. fits_prim of (pos (number b))) bs) all in
    rw (int_fits tree_classes (pos (number b)) of labels h.0) (numbers_each of number last bs labels h.1 e)

-- there is one more than baskets
numbers_fit : (of : Primitive) (number : BasketAt → ℕ) (baskets : List BasketAt) (last : ℕ) (labels : Labels)
    → list_all (λ b. fits_prim of (pos (number b))) baskets ≡ true → fits_prim of (pos last) ≡ true
    → FitsIn tree_classes (kinded (FixedArray of (length baskets + 1))) (basket_numbers number baskets last) labels labels
unfolding basket_numbers
numbers_fit of number baskets last labels all e =
    let items = map (λ b. Int (pos (number b))) baskets ++ Int (pos last) ∷ [] in
    let count : length (map (fitting_of tree_classes) items) ≡ length baskets + 1 = omega (arith, length-map items (fitting_of tree_classes), length-append (map (λ b. Int (pos (number b))) baskets) (Int (pos last) ∷ []), length-map baskets (λ b. Int (pos (number b)))) in
    rw (fold_List (fitting_step tree_classes) (λ p. (p.name, p.value)) items, eq-eqb (length (map (fitting_of tree_classes) items)) (length baskets + 1) count) (numbers_each of number last baskets labels all e)

-- ---- one branch

offset_number_fits : (offsets : Bool) → fits_signed 32 (pos (cond offsets 1000 0)) ≡ true
offset_number_fits true = refl
offset_number_fits false = refl

-- the labels of a branch: its own, and those of its leaves
abbrev own_branch_label : Shape → List ℕ × ℤ
own_branch_label (Leaves leaves) = (codes "TBranch", pos 113)
own_branch_label (Class class) = (codes "TBranchElement", pos 110)

abbrev branch_labels : Branch → Labels
branch_labels b = own_branch_label b.def.shape ∷ map leaf_label (branch_leaves b)

pub record BranchNumbers (b : Branch) : Type 0 where
  pub version : fits_signed 32 b.class_version ≡ true
  pub entries : nat_lt b.entries (2 ^ 63) ≡ true
  pub count : nat_lt (length b.baskets) (2 ^ 31) ≡ true
  pub room : nat_lt (length b.baskets + 1) (2 ^ 31) ≡ true
  pub baskets : BasketsFit b.baskets

record PlainFits (plain : Value) (before after : Labels) : Type 0 where
  class : (fitting_of tree_classes plain).class ≡ Some (codes "TBranch", pos 113)
  base : FitsIn tree_classes (based (codes "TBranch") (pos 113)) plain before after
  own : FitsIn tree_classes (kinded (Inline (codes "TBranch"))) plain before after

plain_branch_in : (slot : Slot) (known : LeafLabels) (label : ℕ) (b : Branch) (before after : Labels) → object_may_stand (codes "TBranch") (pos 113) slot ≡ true → BranchNumbers b
    → all_fit any_pointer (map (fitting_of tree_classes) (leaf_pointers known label (branch_leaves b))) before ≡ Some after
    → FitsIn tree_classes slot (plain_branch_object known label b) before after
unfolding plain_branch_object tree_classes branch_members
plain_branch_in slot known label b before after stands fit each =
    rw (
      fit_object tree_classes (codes "TBranch") (pos 113) _,
      stands,
      titled_fits tree_classes b.def.name (title_of_branch b.def.shape) before,
      int_fits tree_classes (pos (cond b.offsets 1000 0)) I32 before (offset_number_fits b.offsets),
      int_fits tree_classes (pos (length b.baskets)) I32 before fit.count,
      fold_Int (fitting_step tree_classes) (λ p. (p.name, p.value)) (pos (length b.baskets + 1)),
      fit.room,
      int_fits tree_classes (pos b.entries) I64 before fit.entries,
      array_fits tree_classes [] before before refl,
      array_fits tree_classes (leaf_pointers known label (branch_leaves b)) before after each,
      array_fits tree_classes [] after after refl,
      numbers_fit I32 (λ basket. basket.bytes) b.baskets 0 after fit.baskets.bytes refl,
      numbers_fit I64 (λ basket. basket.first) b.baskets b.entries after fit.baskets.first fit.entries,
      numbers_fit I64 (λ basket. basket.seek) b.baskets 0 after fit.baskets.seek refl,
    ) refl

plain_class : (known : LeafLabels) (label : ℕ) (b : Branch) → (fitting_of tree_classes (plain_branch_object known label b)).class ≡ Some (codes "TBranch", pos 113)
unfolding plain_branch_object
plain_class known label b = rw (fit_object tree_classes (codes "TBranch") (pos 113) _) refl

plain_branch_fits : (known : LeafLabels) (label : ℕ) (b : Branch) (before after : Labels) → BranchNumbers b
    → all_fit any_pointer (map (fitting_of tree_classes) (leaf_pointers known label (branch_leaves b))) before ≡ Some after
    → PlainFits (plain_branch_object known label b) before after
plain_branch_fits known label b before after fit each = record {
  class = plain_class known label b;
  base = plain_branch_in (based (codes "TBranch") (pos 113)) known label b before after refl fit each;
  own = plain_branch_in (kinded (Inline (codes "TBranch"))) known label b before after refl fit each;
}

-- a pointer to the branch fits where its TBranch does
shaped_fits : (plain : Value) (label : ℕ) (b : Branch) (shape : Shape) (labels after : Labels) → label ≡ length labels → fits_signed 32 b.class_version ≡ true
    → PlainFits plain (labels ++ own_branch_label shape ∷ []) after → FitsIn tree_classes any_pointer (Pointed label (shaped_object plain b shape)) labels after
unfolding tree_classes object_branch_members
shaped_fits plain label b (Leaves leaves) labels after next version fit =
    pointer_to tree_classes label plain (codes "TBranch", pos 113) any_pointer labels after fit.class next refl fit.own
shaped_fits plain label b (Class class) labels after next version fit =
    let own : Labels = labels ++ (codes "TBranchElement", pos 110) ∷ [] in
    let parts = part [] plain ∷ part (codes "fClassName") (Text class) ∷ part (codes "fClassVersion") (Int b.class_version) ∷ [] in
    let is = ap (λ (f : Fitting). f.class) (fit_object tree_classes (codes "TBranchElement") (pos 110) parts) in
    let inside : FitsIn tree_classes (kinded (Inline (codes "TBranchElement"))) (Object (codes "TBranchElement") (pos 110) parts) own after =
    rw (fit_object tree_classes (codes "TBranchElement") (pos 110) parts, fit.base, text_fits tree_classes class after, int_fits tree_classes b.class_version I32 after version) refl in
    pointer_to tree_classes label (Object (codes "TBranchElement") (pos 110) parts) (codes "TBranchElement", pos 110) any_pointer labels after is next refl inside

record BranchFits (known : LeafLabels) (label : ℕ) (b : Branch) (labels : Labels) : Type 0 where
  pointer : FitsIn tree_classes any_pointer (Pointed label (branch_object known (label + 1) b)) labels (labels ++ branch_labels b)
  knows : KnowsLeaves (labels_behind known (label + 1) (branch_leaves b)) (labels ++ branch_labels b)

branch_fits : (known : LeafLabels) (label : ℕ) (b : Branch) (labels : Labels) → label ≡ length labels → KnowsLeaves known labels → BranchNumbers b → list_all count_fits (branch_leaves b) ≡ true → BranchFits known label b labels
unfolding branch_object
branch_fits known label b labels next knows fit counts =
    let first : Labels = own_branch_label b.def.shape ∷ [] in
    let own : Labels = labels ++ first in
    let leaves = leaves_fit known (label + 1) (branch_leaves b) own (omega (arith, next, length-append labels first)) (knows_longer known labels first knows) counts in
    let same : own ++ map leaf_label (branch_leaves b) ≡ labels ++ branch_labels b = append_assoc labels first (map leaf_label (branch_leaves b)) in
    let plain = plain_branch_fits known (label + 1) b own (labels ++ branch_labels b) fit (leaves.each ∙ ap (λ (l : Labels). Some l) same) in
    record {
      pointer = shaped_fits (plain_branch_object known (label + 1) b) label b b.def.shape labels (labels ++ branch_labels b) next fit.version plain;
      knows = subst (λ (l : Labels). KnowsLeaves (labels_behind known (label + 1) (branch_leaves b)) l) same leaves.knows;
    }

-- ---- all branches

abbrev tree_labels : List Branch → Labels
tree_labels [] = []
tree_labels (b ∷ bs) = branch_labels b ++ tree_labels bs

-- what is to be known of a branch
abbrev IsFitting : Branch → Type 0
IsFitting b = BranchNumbers b × (list_all count_fits (branch_leaves b) ≡ true)

branch_length : (b : Branch) (label : ℕ) (labels : Labels) → label ≡ length labels → label + branch_label_count b ≡ length (labels ++ branch_labels b)
branch_length b label labels next = omega (arith, next, length-append labels (branch_labels b), length-map (branch_leaves b) leaf_label)

branches_fit : (known : LeafLabels) (label : ℕ) (bs : List Branch) (labels : Labels) → label ≡ length labels → KnowsLeaves known labels → Each IsFitting bs
    → all_fit any_pointer (map (fitting_of tree_classes) (branch_pointers known label bs)) labels ≡ Some (labels ++ tree_labels bs)
unfolding branch_pointers
branches_fit known label [] labels next knows each = ap (λ (l : Labels). Some l) (sym (append-nil labels))
branches_fit known label (b ∷ bs) labels next knows each =
    let own : Labels = labels ++ branch_labels b in
    let one = branch_fits known label b labels next knows each.0.0 each.0.1 in
    let rest = branches_fit (labels_behind known (label + 1) (branch_leaves b)) (label + branch_label_count b) bs own (branch_length b label labels next) one.knows each.1 in
    rw one.pointer (rest ∙ ap (λ (l : Labels). Some l) (append_assoc labels (branch_labels b) (tree_labels bs)))

-- ---- what points to the leaves

abbrev each_fits : List Value → Labels → Option Labels
each_fits xs labels = all_fit any_pointer (map (fitting_of tree_classes) xs) labels

behind_one : (xs ys : List Value) (o : Option Labels) → ((l : Labels) → each_fits (xs ++ ys) l ≡ option_and_then (each_fits ys) (each_fits xs l)) → option_and_then (each_fits (xs ++ ys)) o ≡ option_and_then (each_fits ys) (option_and_then (each_fits xs) o)
behind_one xs ys None known = refl
behind_one xs ys (Some l) known = known l

all_both : (xs ys : List Value) (labels : Labels) → each_fits (xs ++ ys) labels ≡ option_and_then (each_fits ys) (each_fits xs labels)
all_both [] ys labels = refl
all_both (x ∷ xs) ys labels = behind_one xs ys ((fitting_of tree_classes x).fits any_pointer labels) (all_both xs ys)

all_then : (xs ys : List Value) (labels : Labels) → each_fits xs labels ≡ Some labels → each_fits ys labels ≡ Some labels → each_fits (xs ++ ys) labels ≡ Some labels
all_then xs ys labels e f = all_both xs ys labels ∙ ap (option_and_then (each_fits ys)) e ∙ f

-- leaves that have their labels behind these
backs_fit : (front : Labels) (leaves : List Leaf) (rest : Labels) (label : ℕ) (labels : Labels) → label ≡ length front → labels ≡ front ++ (map leaf_label leaves ++ rest)
    → all_fit any_pointer (map (fitting_of tree_classes) (backs_from label leaves)) labels ≡ Some labels
unfolding backs_from
backs_fit front [] rest label labels next is = refl
backs_fit front (leaf ∷ leaves) rest label labels next is =
    let here : IsLeafAt labels label = (leaf.letter, rw (is, next) (get_behind front (map leaf_label leaves ++ rest) (leaf_label leaf))) in
    let others = backs_fit (front ++ leaf_label leaf ∷ []) leaves rest (label + 1) labels (omega (arith, next, length-append front (leaf_label leaf ∷ []))) (is ∙ sym (append_assoc front (leaf_label leaf ∷ []) (map leaf_label leaves ++ rest))) in
    rw (leaf_back_fits labels label here) others

tree_backs_fit : (front : Labels) (bs : List Branch) (label : ℕ) (labels : Labels) → label ≡ length front → labels ≡ front ++ tree_labels bs → all_fit any_pointer (map (fitting_of tree_classes) (leaf_backs label bs)) labels ≡ Some labels
unfolding leaf_backs
tree_backs_fit front [] label labels next is = refl
tree_backs_fit front (b ∷ bs) label labels next is =
    let first : Labels = own_branch_label b.def.shape ∷ [] in
    let leaves = map leaf_label (branch_leaves b) in
    let split : labels ≡ (front ++ first) ++ (leaves ++ tree_labels bs) = is ∙ sym (append_assoc front first (leaves ++ tree_labels bs)) in
    let own = backs_fit (front ++ first) (branch_leaves b) (tree_labels bs) (label + 1) labels (omega (arith, next, length-append front first)) split in
    let others = tree_backs_fit (front ++ branch_labels b) bs (label + branch_label_count b) labels (branch_length b label front next) (is ∙ sym (append_assoc front (branch_labels b) (tree_labels bs))) in
    all_then (backs_from (label + 1) (branch_leaves b)) (leaf_backs (label + branch_label_count b) bs) labels own others

-- ---- the tree

pub tree_fits : (name : List ℕ) (head : TreeHead) → nat_lt head.entries (2 ^ 63) ≡ true → Each IsFitting head.branches → is_some ((fitting_of tree_classes (tree_value_of name head)).fits (kinded (Inline (codes "TTree"))) []) ≡ true
unfolding tree_value_of tree_classes tree_members
tree_fits name head entries each =
    let all : Labels = tree_labels head.branches in
    let branches = branches_fit [] 0 head.branches [] refl (λ name label e. absurd cc) each in
    let backs = tree_backs_fit [] head.branches 0 all refl refl in
    rw (
      fit_object tree_classes (codes "TTree") (pos 120) _,
      titled_fits tree_classes name [] [],
      int_fits tree_classes (pos head.entries) I64 [] entries,
      array_fits tree_classes (branch_pointers [] 0 head.branches) [] all branches,
      array_fits tree_classes (leaf_backs 0 head.branches) all all backs,
    ) refl

-- ---- branches that can be declared

pub dim_count_fits : (counts : List ℕ → Bool) (dim : Dim) → is_dim counts dim ≡ true → nat_lt (written_count dim) (2 ^ 31) ≡ true
dim_count_fits counts One e = refl
dim_count_fits counts (Fixed n) e =
    let h = and_parts (nat_le 2 n) (nat_le n 100000) e in
    lt-ltb n (2 ^ 31) (omega (arith, leb-true n 100000 h.1))
dim_count_fits counts (Counted counter times) e = refl

stated_leaves_fit : (before leaves : List Leaf) → are_stated_leaves before leaves ≡ true → list_all count_fits leaves ≡ true
stated_leaves_fit before [] e = refl
stated_leaves_fit before (leaf ∷ leaves) e =
    let h = and_parts (is_stated_leaf before leaf) (are_stated_leaves (before ++ leaf ∷ []) leaves) e in
    let letter = and_parts (is_name_text leaf.name && not (has_leaf before leaf.name) && is_dim (has_counting_leaf before) leaf.dim) (is_letter_of leaf.dim leaf.letter) h.0 in
    let dim = and_parts (is_name_text leaf.name && not (has_leaf before leaf.name)) (is_dim (has_counting_leaf before) leaf.dim) letter.0 in
    and_from (count_fits leaf) (list_all count_fits leaves) (dim_count_fits (has_counting_leaf before) leaf.dim dim.1) (stated_leaves_fit (before ++ leaf ∷ []) leaves h.1)

stated_shape_fits : (before : List Leaf) (shape : Shape) → is_stated_shape before shape ≡ true → list_all count_fits (leaves_of shape) ≡ true
stated_shape_fits before (Leaves leaves) e = stated_leaves_fit before leaves (and_parts (not (length leaves == 0)) (are_stated_leaves before leaves) e).1
stated_shape_fits before (Class class) e = refl

pub numbers_of : (b : Branch) → branch_fits_header b ≡ true → BranchNumbers b
numbers_of b e =
    let baskets = and_parts (fits_signed 32 b.class_version && nat_lt b.entries (2 ^ 63) && nat_lt (length b.baskets + 1) (2 ^ 31)) (list_all basket_fits_header b.baskets) e in
    let room = and_parts (fits_signed 32 b.class_version && nat_lt b.entries (2 ^ 63)) (nat_lt (length b.baskets + 1) (2 ^ 31)) baskets.0 in
    let version = and_parts (fits_signed 32 b.class_version) (nat_lt b.entries (2 ^ 63)) room.0 in
    let low : length b.baskets + 1 < 2 ^ 31 = ltb-true (length b.baskets + 1) (2 ^ 31) room.1 in
    record {
      version = version.0;
      entries = version.1;
      count = lt-ltb (length b.baskets) (2 ^ 31) (omega (arith, low));
      room = room.1;
      baskets = baskets_fit b.baskets baskets.1;
    }

stated_fit : (before : List BranchDef) (bs : List Branch) → are_branches_behind before (stated_defs bs) ≡ true → list_all branch_fits_header bs ≡ true → Each IsFitting bs
stated_fit before [] e f = tt
stated_fit before (b ∷ bs) e f =
    let h = and_parts (is_stated_branch before b.def) (are_branches_behind (before ++ b.def ∷ []) (stated_defs bs)) e in
    let n = and_parts (branch_fits_header b) (list_all branch_fits_header bs) f in
    let shape = and_parts (is_name_text b.def.name && not (has_branch before b.def.name)) (is_stated_shape (all_leaves before) b.def.shape) h.0 in
    ((numbers_of b n.0, stated_shape_fits (all_leaves before) b.def.shape shape.1), stated_fit (before ++ b.def ∷ []) bs h.1 n.1)

pub written_tree_fits : WrittenTreeFits
written_tree_fits name head stated numbers =
    let behind = and_parts (not (length (stated_defs head.branches) == 0)) (are_branches_behind [] (stated_defs head.branches)) stated in
    tree_fits name head numbers.entries (stated_fit [] head.branches behind.1 numbers.branches)
