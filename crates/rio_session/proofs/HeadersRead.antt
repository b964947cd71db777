-- The header of a tree of a file is such as a save writes it: it is read from the value that is written for it.
use Rattle.std.proofs.Common.{◌≡◌, ◌∙◌, inl, inr, ◌<◌, ◌≤◌, ◌^◌, ◌&&◌, ℕ, ◌+◌, ℤ, pos, List, [], ◌∷◌, ◌++◌, codes, length, Bool, true, nat_lt, Option, Some, Result, Ok, Err, refl, sym, ap, subst, arith}
use Rattle.std.proofs.lemmas.{Bool.{and_from, and_parts, lt-ltb}, List.{Elements.{All-cons, All-head, All-nil, All-tail}, Sorted.{IsPermutation-sym}, Sums.{sum_by-cons}}}
use Rattle.std.specs.{Prelude.{option_and_then}, List.{All, list_all, sum_by}, Result.{result_ok}}
use Rattle.rio_num.specs.{Reading.{some_if}, Room.{is_padding}}
use Rattle.rio_num.proofs.ReadLaws.{if_is, ok_is}
use Rattle.rio_leaf.specs.{declared.branch.BranchDef.{BranchDef}, declared.branch.Shape.{Shape, TheVariants.{Leaves, Class}}}
use Rattle.rio_leaf.specs.Stated.{are_stated_branches}
use Rattle.rio_format.specs.{CodeLaws.{coded_decides}, Integers.{fits_signed}, declared.value.Value.{Value, Object, Pointed}, Frames.{Step}, ReaderState.{ReaderState}}
use Rattle.rio_format.specs.contracts.value.Value as values
use Rattle.rio_format.specs.{Bodies.{part}, Objects.{first_at}, WrittenList.{array_object, number_part, titled_object}}
use Rattle.rio_tree.specs.{Header.{branch_leaves, tree_head_in}, HeaderLength.{basket_count}, declared.basket_at.BasketAt.{BasketAt}, declared.fault.TreeFault.{TreeFault}, declared.head.Branch.{Branch}, declared.head.TreeHead.{TreeHead}}
use Rattle.rio_tree.specs.WrittenLaws.{AreReadableBranches, FitsTreeHeader, IsVersionFor, WrittenTreeIsRead, branch_fits_header, counting_branches, stated_defs}
use Rattle.rio_tree.specs.WrittenTree.{LeafLabels, backs_from, branch_label_count, branch_object, branch_pointers, labels_behind, leaf_backs, plain_branch_object, shaped_object, tree_value_of}
use Rattle.rio_fill.specs.Heads.{BranchCanBeFilled, CanBeFilled}
use Rattle.rio_recover.specs.{Trees.{AreTreesOf, AreWholeBranches, tree_at, trees_at}, declared.trees.TreeAt.{TreeAt}}
use Rattle.rio_state.specs.{Closing.{end_limit}, Contents.{FileClasses, file_classes}, KeyedRecords.{KeyedRecord, info_key, record_data, top_keys, tree_records}}
use Rattle.rio_state.specs.Trees.{can_be_branches, header_by, header_in, is_same_value, is_written_header}
use Rattle.rio_state.proofs.Members.{In}
use Rattle.rio_session.specs.Opening.{IsOpenHead}
use Rattle.rio_session.proofs.{HeadNumbers.{IsReadBranch, all_can, mapped_some, numbers_read}, ItemsOpened.{given_in, moved_in}}

-- ---- what a record's header is

-- the value that is written for it says it, and a tree can be declared with its branches
pub record IsHeaderRead (classes : FileClasses) (r : KeyedRecord) (head : TreeHead) : Type 0 where
  pub reads : tree_head_in (tree_value_of r.head.name head) ≡ Ok head
  pub branches : can_be_branches classes.declared (stated_defs head.branches) ≡ true

pub header_read : (classes : FileClasses) (r : KeyedRecord) (head : TreeHead) → header_in classes r ≡ Some head → IsHeaderRead classes r head
unfolding header_in is_written_header
header_read classes r head e = by (first_at classes.described r.head.class r.head.keylen (record_data r)) e
  where
    of_test : (v : Value) (h : TreeHead) (padded : Bool) → tree_head_in v ≡ Ok h
        → some_if (padded && (can_be_branches classes.declared (stated_defs h.branches) && is_same_value v (tree_value_of r.head.name h))) h ≡ Some head → IsHeaderRead classes r head
    of_test v h padded told some =
        let branches = can_be_branches classes.declared (stated_defs h.branches) in
        let same = is_same_value v (tree_value_of r.head.name h) in
        let test = if_is (padded && (branches && same)) h head some in
        let two = and_parts branches same (and_parts padded (branches && same) test.0).1 in
        let value : v ≡ tree_value_of r.head.name h = (coded_decides values.the_row.coded v (tree_value_of r.head.name h)).0 two.1 in
        subst (λ (x : TreeHead). IsHeaderRead classes r x) test.1 (record { reads = ap tree_head_in (sym value) ∙ told; branches = two.0 })

    of_head : (x : Value × ReaderState) (o : Result TreeHead TreeFault) → tree_head_in x.0 ≡ o
        → option_and_then (λ h. some_if (is_padding x.1.at.rest && (can_be_branches classes.declared (stated_defs h.branches) && is_same_value x.0 (tree_value_of r.head.name h))) h) (result_ok o) ≡ Some head
        → IsHeaderRead classes r head
    of_head x (Err e) is some = absurd cc
    of_head x (Ok h) is some = of_test x.0 h (is_padding x.1.at.rest) is some

    by : (s : Step Value) → header_by classes.declared r.head.name s ≡ Some head → IsHeaderRead classes r head
    by (Err e) some = absurd cc
    by (Ok x) some = of_head x (tree_head_in x.0) refl some

-- ---- what follows from what is declared

-- only a branch of objects has a version
abbrev version_as : Shape → ℤ → ℤ
version_as (Leaves leaves) version = pos 0
version_as (Class class) version = version

abbrev as_declared : List BranchDef → Branch → Branch
as_declared before b = record b { class_version = version_as b.def.shape b.class_version; counted_by = counting_branches before (branch_leaves b) }

abbrev all_declared : List BranchDef → List Branch → List Branch
all_declared before [] = []
all_declared before (b ∷ bs) = as_declared before b ∷ all_declared (before ++ b.def ∷ []) bs

abbrev head_declared : TreeHead → TreeHead
head_declared head = record { entries = head.entries; branches = all_declared [] head.branches }

-- ---- the same value is written for it

shaped_same : (plain : Value) (b : Branch) (counted : List ℕ) (shape : Shape) → b.def.shape ≡ shape
    → shaped_object plain (record b { class_version = version_as b.def.shape b.class_version; counted_by = counted }) shape ≡ shaped_object plain b shape
shaped_same plain b counted (Leaves leaves) is = refl
shaped_same plain b counted (Class class) is = ap (λ (s : Shape). shaped_object plain (record b { class_version = version_as s b.class_version; counted_by = counted }) (Class class)) is

object_same : (known : LeafLabels) (label : ℕ) (before : List BranchDef) (b : Branch) → branch_object known label (as_declared before b) ≡ branch_object known label b
unfolding branch_object plain_branch_object
object_same known label before b = shaped_same (plain_branch_object known label b) b (counting_branches before (branch_leaves b)) b.def.shape refl

pointers_same : (known : LeafLabels) (label : ℕ) (before : List BranchDef) (bs : List Branch) → branch_pointers known label (all_declared before bs) ≡ branch_pointers known label bs
unfolding branch_pointers
pointers_same known label before [] = refl
pointers_same known label before (b ∷ bs) =
    let one = object_same known (label + 1) before b in
    let rest = pointers_same (labels_behind known (label + 1) (branch_leaves b)) (label + branch_label_count b) (before ++ b.def ∷ []) bs in
    λ i. Pointed label (one i) ∷ rest i

backs_same : (label : ℕ) (before : List BranchDef) (bs : List Branch) → leaf_backs label (all_declared before bs) ≡ leaf_backs label bs
unfolding leaf_backs
backs_same label before [] = refl
backs_same label before (b ∷ bs) = ap (λ (l : List Value). backs_from (label + 1) (branch_leaves b) ++ l) (backs_same (label + branch_label_count b) (before ++ b.def ∷ []) bs)

value_same : (name : List ℕ) (head : TreeHead) → tree_value_of name (head_declared head) ≡ tree_value_of name head
unfolding tree_value_of
value_same name head =
    let pointers = pointers_same [] 0 [] head.branches in
    let backs = backs_same 0 [] head.branches in
    λ i.
    Object (codes "TTree") (pos 120) (part [] (titled_object name [])
    ∷ number_part (codes "fEntries") head.entries
    ∷ part (codes "fBranches") (array_object (pointers i))
    ∷ part (codes "fLeaves") (array_object (backs i))
    ∷ [])

defs_same : (before : List BranchDef) (bs : List Branch) → stated_defs (all_declared before bs) ≡ stated_defs bs
defs_same before [] = refl
defs_same before (b ∷ bs) = ap (λ (ds : List BranchDef). b.def ∷ ds) (defs_same (before ++ b.def ∷ []) bs)

-- ---- it can be read

version_for : (shape : Shape) (version : ℤ) → IsVersionFor shape (version_as shape version)
version_for (Leaves leaves) version = refl
version_for (Class class) version = tt

readable : (entries : ℕ) (before : List BranchDef) (bs : List Branch) → All (BranchCanBeFilled entries) bs → AreReadableBranches entries before (all_declared before bs)
readable entries before [] can = tt
readable entries before (b ∷ bs) can =
    let own = All-head (BranchCanBeFilled entries) b bs can in (
      record {
        refused = own.refused;
        entries_as_tree = own.entries_as_tree;
        offsets_as_shape = own.offsets_as_shape;
        version_as_shape = version_for b.def.shape b.class_version;
        counted = refl;
        in_order = own.in_order;
      },
      readable entries (before ++ b.def ∷ []) bs (All-tail (BranchCanBeFilled entries) b bs can),
    )

version_fits : (shape : Shape) (version : ℤ) → fits_signed 32 version ≡ true → fits_signed 32 (version_as shape version) ≡ true
version_fits (Leaves leaves) version e = refl
version_fits (Class class) version e = e

branch_fits : (before : List BranchDef) (b : Branch) → IsReadBranch b → nat_lt b.entries (2 ^ 63) ≡ true → length b.baskets + 1 < 2 ^ 31 → branch_fits_header (as_declared before b) ≡ true
branch_fits before b read low few =
    and_from _ _ (and_from _ _ (and_from _ _ (version_fits b.def.shape b.class_version read.version) low) (lt-ltb (length b.baskets + 1) (2 ^ 31) few)) read.baskets

all_fit : (entries : ℕ) (before : List BranchDef) (bs : List Branch) → nat_lt entries (2 ^ 63) ≡ true → All IsReadBranch bs → All (BranchCanBeFilled entries) bs → sum_by (λ (b : Branch). length b.baskets) bs ≤ 1999999996
    → list_all branch_fits_header (all_declared before bs) ≡ true
all_fit entries before [] low read can few = refl
all_fit entries before (b ∷ bs) low read can few =
    let sum = sum_by-cons (λ (c : Branch). length c.baskets) b bs in
    let own = All-head (BranchCanBeFilled entries) b bs can in
    let later = before ++ b.def ∷ [] in
    and_from (branch_fits_header (as_declared before b)) (list_all branch_fits_header (all_declared later bs))
    (branch_fits before b (All-head IsReadBranch b bs read) (ap (λ (n : ℕ). nat_lt n (2 ^ 63)) own.entries_as_tree ∙ low) (omega (arith, few, sum)))
    (all_fit entries later bs low (All-tail IsReadBranch b bs read) (All-tail (BranchCanBeFilled entries) b bs can) (omega (arith, few, sum)))

-- ---- so it is the header

pub open_head : WrittenTreeIsRead → (classes : FileClasses) (r : KeyedRecord) (head : TreeHead) → header_in classes r ≡ Some head → CanBeFilled head → basket_count head ≤ end_limit → IsOpenHead head
open_head law classes r head is can few =
    let own = header_read classes r head is in
    let numbers = numbers_read (tree_value_of r.head.name head) head own.reads in
    let reads = readable head.entries [] head.branches can.branches in
    let fits : FitsTreeHeader (head_declared head) = record { entries = numbers.entries; branches = all_fit head.entries [] head.branches numbers.entries numbers.branches can.branches few } in
    let stated : are_stated_branches (stated_defs (all_declared [] head.branches)) ≡ true = ap are_stated_branches (defs_same [] head.branches) ∙ can.defs.stated in
    let again = law r.head.name (head_declared head) stated fits reads in
    let same : head_declared head ≡ head = ok_is {E = TreeFault} (head_declared head) head (sym again ∙ ap tree_head_in (value_same r.head.name head) ∙ own.reads) in
    record {
      can = can;
      readable = subst (λ (h : TreeHead). AreReadableBranches h.entries [] h.branches) same reads;
      fits = subst FitsTreeHeader same fits;
    }

-- ---- all trees

module _ (law : WrittenTreeIsRead) (records : List KeyedRecord) (trees : List TreeAt) (are : AreTreesOf records trees) where
  abbrev classes : FileClasses
  classes = file_classes (info_key records)

  abbrev headers : List KeyedRecord
  headers = tree_records (top_keys records)

  open_one : (t : TreeAt) → In t trees → CanBeFilled t.head → basket_count t.head ≤ end_limit → IsOpenHead t.head
  open_one t i can few =
      let from = given_in (tree_at classes) t headers (moved_in t trees (trees_at classes headers) (IsPermutation-sym (trees_at classes headers) trees are.each) i) in
      let head = mapped_some (header_in classes from.0) _ t from.2 in
      let same : head.0 ≡ t.head = ap (λ (u : TreeAt). u.head) head.2 in
      open_head law classes from.0 t.head (head.1 ∙ ap (λ (h : TreeHead). let o : Option TreeHead = Some h in o) same) can few

  open_all : (ts : List TreeAt) → ((t : TreeAt) → In t ts → In t trees) → All (λ t. CanBeFilled t.head) ts → All (λ t. basket_count t.head ≤ end_limit) ts → All (λ t. IsOpenHead t.head) ts
  open_all [] within can few = All-nil (λ (t : TreeAt). IsOpenHead t.head)
  open_all (t ∷ ts) within can few =
      All-cons (λ (u : TreeAt). IsOpenHead u.head) t ts
      (open_one t (within t (inl refl)) (All-head (λ (u : TreeAt). CanBeFilled u.head) t ts can) (All-head (λ (u : TreeAt). basket_count u.head ≤ end_limit) t ts few))
      (open_all ts (λ u i. within u (inr i)) (All-tail (λ (u : TreeAt). CanBeFilled u.head) t ts can) (All-tail (λ (u : TreeAt). basket_count u.head ≤ end_limit) t ts few))

  -- a tree whose branches are whole can be filled and saved
  pub open_heads : All (λ t. AreWholeBranches t.head) trees → All (λ t. basket_count t.head ≤ end_limit) trees → All (λ t. IsOpenHead t.head) trees
  open_heads whole few = open_all trees (λ t i. i) (all_can trees whole) few
