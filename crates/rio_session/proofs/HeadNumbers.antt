-- What holds of a header that is read from a value, whatever value it is: its numbers are such as the members of a header may be. So a tree
-- of it can be filled, if its branches are whole.
use Rattle.std.proofs.Common.{◌≡◌, ◌∙◌, ◌<◌, ◌≤◌, ◌^◌, ◌&&◌, ℕ, zero, suc, ◌+◌, ℤ, pos, negsuc, List, [], ◌∷◌, ◌++◌, codes, Bool, true, false, nat_lt, Option, Some, None, Result, Ok, Err, refl, sym, ap, subst, arith}
use Rattle.std.proofs.lemmas.{Bool.{and_from, and_parts, lt-ltb, ltb-true}, List.{length-map}, List.Elements.{All-append, All-cons, All-head, All-nil, All-tail}, Option.{same_Some}}
use Rattle.std.specs.{Prelude.{if◌then◌else◌, is_none, option_and_then, slice_get, unwrap_or}, List.{All, list_all}, Option.{ok_or, option_map}, Ordering.{int_eq}}
use Rattle.rio_num.proofs.ReadLaws.{bind_ok}
use Rattle.rio_format.specs.{Accessors.{integer_in, layer_integer}, Integers.{fits_signed}, PartsWithBases.{member_in}, declared.value.Part.{Part}}
use Rattle.rio_format.specs.declared.value.Value.{Value, out-Value, TheOpen.{Value-F, Int, Bits32, Bits64, Bool as Truth, Text, List as Items, Object, Pointed, Null, Back, Opaque}}
use Rattle.rio_tree.specs.{BranchMembers.{BranchSaid, class_version_said, leaf_items}, Header.{branch_in, branch_known, branches_from, entries_member, has_offsets, known_branch, met_behind, or_refused, tree_head_in}}
use Rattle.rio_tree.specs.{HeaderLeaves.{LeavesMet, LeavesSaid, name_said, no_leaves_met}, Labels.{ObjectLabels, labels_in, object_behind}, Members.{integer_member, natural, pointers_member}}
use Rattle.rio_tree.specs.Refusals.{are_in_order, basket_numbered, basket_said, baskets_from, leaves_from, listed_baskets, natural_in, no_leaves, number_baskets, readable_branch, unless_refused}
use Rattle.rio_tree.specs.WrittenLaws.{basket_fits_header}
use Rattle.rio_tree.specs.declared.refusal.BranchRefusal.{BranchRefusal, TheVariants.{BadBasketList, EntryCount}}
use Rattle.rio_tree.specs.{declared.basket_at.BasketAt.{BasketAt}, declared.fault.TreeFault.{TheVariants.{MissingMember}}, declared.head.Branch.{Branch}, declared.head.TreeHead.{TreeHead}}
use Rattle.rio_entry.specs.{SavedRows.{IsInOrder, have_entries, is_whole}, StoredEntries.{entry_behind}}
use Rattle.rio_entry.proofs.HeadOrder.{head_in_order}
use Rattle.rio_fill.specs.Heads.{BranchCanBeFilled, CanBeFilled}
use Rattle.rio_recover.specs.{Trees.{AreWholeBranches}, declared.trees.TreeAt.{TreeAt}}

-- ---- what is there

then_some : {A B : Type 0} (o : Option A) (f : A → Option B) (y : B) → option_and_then f o ≡ Some y → (x : A) × (o ≡ Some x) × (f x ≡ Some y)
then_some None f y e = absurd cc
then_some (Some x) f y e = (x, refl, e)

pub mapped_some : {A B : Type 0} (o : Option A) (f : A → B) (y : B) → option_map f o ≡ Some y → (x : A) × (o ≡ Some x) × (f x ≡ y)
mapped_some None f y e = absurd cc
mapped_some (Some x) f y e = (x, refl, same_Some (f x) y e)

is_there : {A E : Type 0} (o : Option A) (why : E) (x : A) → ok_or o why ≡ Ok x → o ≡ Some x
is_there None why x e = absurd cc
is_there {A} (Some y) why x e = let same : y ≡ x = cc in ap (λ (z : A). let p : Option A = Some z in p) same

-- ---- numbers

if_fits : (bits : ℕ) (y z : ℤ) (b : Bool) → fits_signed bits y ≡ b → (if b then Some y else None) ≡ Some z → fits_signed bits z ≡ true
if_fits bits y z true is e = ap (fits_signed bits) (sym (same_Some y z e)) ∙ is
if_fits bits y z false is e = absurd cc

layer_fits : (bits : ℕ) (layer : Value-F Value Part) (z : ℤ) → layer_integer bits layer ≡ Some z → fits_signed bits z ≡ true
layer_fits bits (Int y) z e = if_fits bits y z (fits_signed bits y) refl e
layer_fits bits (Bits32 n) z e = absurd cc
layer_fits bits (Bits64 n) z e = absurd cc
layer_fits bits (Truth b) z e = absurd cc
layer_fits bits (Text t) z e = absurd cc
layer_fits bits (Items items) z e = absurd cc
layer_fits bits (Object class version parts) z e = absurd cc
layer_fits bits (Pointed label object) z e = absurd cc
layer_fits bits Null z e = absurd cc
layer_fits bits (Back label) z e = absurd cc
layer_fits bits (Opaque class len) z e = absurd cc

integer_fits : (bits : ℕ) (v : Value) (z : ℤ) → integer_in bits v ≡ Some z → fits_signed bits z ≡ true
integer_fits bits v z e = layer_fits bits (out-Value v) z e

member_fits : (bits : ℕ) (name : List ℕ) (v : Value) (z : ℤ) → integer_member bits name v ≡ Some z → fits_signed bits z ≡ true
member_fits bits name v z e = let m = then_some (member_in name v) (integer_in bits) z e in integer_fits bits m.0 z m.2

number_fits : (bits : ℕ) (o : Option ℤ) (n : ℕ) → ((z : ℤ) → o ≡ Some z → fits_signed bits z ≡ true) → option_and_then natural o ≡ Some n → fits_signed bits (pos n) ≡ true
number_fits bits None n fit e = absurd cc
number_fits bits (Some (pos k)) n fit e = ap (λ (x : ℕ). fits_signed bits (pos x)) (sym (same_Some k n e)) ∙ fit (pos k) refl
number_fits bits (Some (negsuc k)) n fit e = absurd cc

natural_fits : (bits : ℕ) (v : Value) (n : ℕ) → natural_in bits v ≡ Some n → fits_signed bits (pos n) ≡ true
natural_fits bits v n e = number_fits bits (integer_in bits v) n (λ z is. integer_fits bits v z is) e

low_32 : (n : ℕ) → fits_signed 32 (pos n) ≡ true → nat_lt n (2 ^ 31) ≡ true
low_32 n e = e

low_64 : (n : ℕ) → fits_signed 64 (pos n) ≡ true → nat_lt n (2 ^ 63) ≡ true
low_64 n e = e

version_fits : (object : Option Value) → fits_signed 32 (class_version_said object) ≡ true
version_fits None = refl
version_fits (Some v) = by (integer_member 32 (codes "fClassVersion") v) refl
  where
    by : (o : Option ℤ) → integer_member 32 (codes "fClassVersion") v ≡ o → fits_signed 32 (unwrap_or o (pos 0)) ≡ true
    by None is = refl
    by (Some z) is = member_fits 32 (codes "fClassVersion") v z is

-- ---- baskets

basket_fits : (bytes first seek : Value) (at : BasketAt) → basket_said bytes first seek ≡ Some at → basket_fits_header at ≡ true
unfolding basket_said
basket_fits bytes first seek at e =
    let n = then_some (natural_in 32 bytes) _ at e in
    let f = then_some (natural_in 64 first) _ at n.2 in
    let s = mapped_some (natural_in 64 seek) _ at f.2 in
    ap basket_fits_header (sym s.2)
    ∙ and_from (nat_lt n.0 (2 ^ 31) && nat_lt f.0 (2 ^ 63)) (nat_lt s.0 (2 ^ 63))
    (and_from (nat_lt n.0 (2 ^ 31)) (nat_lt f.0 (2 ^ 63)) (low_32 n.0 (natural_fits 32 bytes n.0 n.1)) (low_64 f.0 (natural_fits 64 first f.0 f.1)))
    (low_64 s.0 (natural_fits 64 seek s.0 s.1))

numbered_fits : (said : BranchSaid) (k : ℕ) (at : BasketAt) → basket_numbered said k ≡ Some at → basket_fits_header at ≡ true
unfolding basket_numbered
numbered_fits said k at e =
    let b = then_some (slice_get said.bytes k) _ at e in
    let f = then_some (slice_get said.firsts k) _ at b.2 in
    let s = then_some (slice_get said.seeks k) _ at f.2 in
    basket_fits b.0 f.0 s.0 at s.2

all_numbered : (said : BranchSaid) (k n : ℕ) (ats : List BasketAt) → baskets_from said k n ≡ Some ats → list_all basket_fits_header ats ≡ true
all_numbered said k zero ats e = ap (list_all basket_fits_header) (sym (same_Some [] ats e))
all_numbered said k (suc n) ats e =
    let one = then_some (basket_numbered said k) _ ats e in
    let rest = mapped_some (baskets_from said (k + 1) n) _ ats one.2 in
    ap (list_all basket_fits_header) (sym rest.2)
    ∙ and_from (basket_fits_header one.0) (list_all basket_fits_header rest.0) (numbered_fits said k one.0 one.1) (all_numbered said (k + 1) n rest.0 rest.1)

counted_fits : (said : BranchSaid) (z : ℤ) (ats : List BasketAt) → number_baskets said z ≡ Some ats → list_all basket_fits_header ats ≡ true
counted_fits said (pos n) ats e = all_numbered said 0 n ats e
counted_fits said (negsuc n) ats e = absurd cc

listed_fits : (entries : ℕ) (said : BranchSaid) (ats : List BasketAt) → listed_baskets entries said ≡ Ok ats → list_all basket_fits_header ats ≡ true
unfolding listed_baskets
listed_fits entries said ats e =
    let one = bind_ok (unless_refused (int_eq said.entries (pos entries)) EntryCount) _ ats e in
    let two = bind_ok (ok_or (number_baskets said said.write_basket) BadBasketList) _ ats one.2 in
    let three = bind_ok (unless_refused (are_in_order entries two.0) BadBasketList) _ ats two.2 in
    let same : two.0 ≡ ats = let ends = three.2 in cc in
    ap (list_all basket_fits_header) (sym same) ∙ counted_fits said said.write_basket two.0 (is_there (number_baskets said said.write_basket) BadBasketList two.0 two.1)

-- ---- a branch

-- it has offsets as its shape says, and its numbers fit the members
pub record IsReadBranch (b : Branch) : Type 0 where
  pub offsets : b.offsets ≡ has_offsets b.def.shape
  pub version : fits_signed 32 b.class_version ≡ true
  pub baskets : list_all basket_fits_header b.baskets ≡ true

known_read : (entries : ℕ) (name : List ℕ) (version : ℤ) (said : BranchSaid) (read : LeavesSaid) (r : Result (List BasketAt) BranchRefusal) → listed_baskets entries said ≡ r → fits_signed 32 version ≡ true
    → IsReadBranch (branch_known name version said read r)
known_read entries name version said read (Err why) e fits = record { offsets = refl; version = fits; baskets = refl }
known_read entries name version said read (Ok ats) e fits = record { offsets = refl; version = fits; baskets = listed_fits entries said ats e }

module _ (entries : ℕ) (labels : ObjectLabels) (branches : List Branch) (met : LeavesMet) (item : Value) where
  known_is : (b : Branch) → known_branch entries labels branches met item ≡ Ok b → IsReadBranch b
  unfolding known_branch
  known_is b e =
      let object = object_behind labels item in
      let one = bind_ok (readable_branch labels item) _ b e in
      let two = bind_ok (leaves_from labels branches (leaf_items object) met no_leaves) _ b one.2 in
      let made = branch_known (name_said object) (class_version_said object) one.0 two.0 (listed_baskets entries one.0) in
      let same : made ≡ b = let ends = two.2 in cc in
      subst IsReadBranch same (known_read entries (name_said object) (class_version_said object) one.0 two.0 (listed_baskets entries one.0) refl (version_fits object))

  read_or_refused : (r : Result Branch BranchRefusal) → ((b : Branch) → r ≡ Ok b → IsReadBranch b) → IsReadBranch (or_refused (name_said (object_behind labels item)) r)
  read_or_refused (Ok b) known = known b refl
  read_or_refused (Err why) known = record { offsets = refl; version = refl; baskets = refl }

  branch_is : IsReadBranch (branch_in entries labels branches met item)
  unfolding branch_in
  branch_is = read_or_refused (known_branch entries labels branches met item) known_is

-- ---- the header

branches_are : (entries : ℕ) (labels : ObjectLabels) (items : List Value) (branches : List Branch) (met : LeavesMet) → All IsReadBranch branches → All IsReadBranch (branches_from entries labels items branches met)
branches_are entries labels [] branches met all = all
branches_are entries labels (item ∷ items) branches met all =
    let b = branch_in entries labels branches met item in
    branches_are entries labels items (branches ++ b ∷ []) (met_behind labels branches met item)
    (All-append IsReadBranch branches (b ∷ []) all (All-cons IsReadBranch b [] (branch_is entries labels branches met item) (All-nil IsReadBranch)))

pub record HasReadNumbers (head : TreeHead) : Type 0 where
  pub entries : nat_lt head.entries (2 ^ 63) ≡ true
  pub branches : All IsReadBranch head.branches

pub numbers_read : (v : Value) (head : TreeHead) → tree_head_in v ≡ Ok head → HasReadNumbers head
unfolding tree_head_in
numbers_read v head e =
    let one = bind_ok (ok_or (entries_member v) (MissingMember (codes "fEntries"))) _ head e in
    let two = bind_ok (ok_or (pointers_member (codes "fBranches") v) (MissingMember (codes "fBranches"))) _ head one.2 in
    let made : TreeHead = record { entries = one.0; branches = branches_from one.0 (labels_in v) two.0 [] no_leaves_met } in
    let same : made ≡ head = let ends = two.2 in cc in
    let there : entries_member v ≡ Some one.0 = is_there (entries_member v) (MissingMember (codes "fEntries")) one.0 one.1 in
    subst HasReadNumbers same (record {
      entries = low_64 one.0 (number_fits 64 (integer_member 64 (codes "fEntries") v) one.0 (λ z is. member_fits 64 (codes "fEntries") v z is) there);
      branches = branches_are one.0 (labels_in v) two.0 [] no_leaves_met (All-nil IsReadBranch);
    })

-- ---- the tree can be filled

behind_low : (ats : List BasketAt) (n : ℕ) → have_entries ats n ≡ true → entry_behind ats n ≤ n
behind_low [] n e = omega arith
behind_low (at ∷ more) n e =
    let two = and_parts (nat_lt at.first (entry_behind more n)) (have_entries more n) e in
    omega (arith, ltb-true at.first (entry_behind more n) two.0, behind_low more n two.1)

before_end : (ats : List BasketAt) (n : ℕ) → have_entries ats n ≡ true → list_all (λ at. nat_lt at.first n) ats ≡ true
before_end [] n e = refl
before_end (at ∷ more) n e =
    let two = and_parts (nat_lt at.first (entry_behind more n)) (have_entries more n) e in
    and_from (nat_lt at.first n) (list_all (λ a. nat_lt a.first n) more) (lt-ltb at.first n (omega (arith, ltb-true at.first (entry_behind more n) two.0, behind_low more n two.1))) (before_end more n two.1)

none_is : (o : Option BranchRefusal) → is_none o ≡ true → o ≡ None
none_is None e = refl
none_is (Some why) e = absurd cc

abbrev IsOrdered : ℕ → Branch → Type 0
IsOrdered entries b = b.refused ≡ None → IsInOrder entries b

branch_can : (entries : ℕ) (b : Branch) → IsReadBranch b → IsOrdered entries b → is_whole b ≡ true → BranchCanBeFilled entries b
branch_can entries b read ordered whole =
    let two = and_parts (is_none b.refused) (have_entries b.baskets b.entries) whole in
    let none = none_is b.refused two.0 in
    let order = ordered none in
    record {
      refused = none;
      entries_as_tree = order.as_tree;
      offsets_as_shape = read.offsets;
      in_order = order.rising;
      before_end = before_end b.baskets entries (ap (have_entries b.baskets) (sym order.as_tree) ∙ two.1);
    }

branches_can : (entries : ℕ) (bs : List Branch) → All IsReadBranch bs → All (IsOrdered entries) bs → list_all is_whole bs ≡ true → All (BranchCanBeFilled entries) bs
branches_can entries [] read ordered whole = All-nil (BranchCanBeFilled entries)
branches_can entries (b ∷ bs) read ordered whole =
    let two = and_parts (is_whole b) (list_all is_whole bs) whole in
    All-cons (BranchCanBeFilled entries) b bs (branch_can entries b (All-head IsReadBranch b bs read) (All-head (IsOrdered entries) b bs ordered) two.0)
    (branches_can entries bs (All-tail IsReadBranch b bs read) (All-tail (IsOrdered entries) b bs ordered) two.1)

pub can_be_filled : (head : TreeHead) → AreWholeBranches head → CanBeFilled head
can_be_filled head is = record {
  defs = record { few = omega (arith, is.read.few, length-map head.branches (λ (b : Branch). b.def)); stated = is.read.stated };
  branches = branches_can head.entries head.branches (numbers_read is.read.value head is.read.reads).branches (head_in_order is.read.value head is.read.reads) is.whole;
}

-- ---- all trees

pub all_can : (trees : List TreeAt) → All (λ t. AreWholeBranches t.head) trees → All (λ t. CanBeFilled t.head) trees
all_can trees all k d lt = can_be_filled _ (all k d lt)

abbrev pub HasFewEntries : TreeAt → Type 0
HasFewEntries t = t.head.entries < 2 ^ 63

few_entries : (head : TreeHead) → AreWholeBranches head → head.entries < 2 ^ 63
few_entries head is = ltb-true head.entries (2 ^ 63) (numbers_read is.read.value head is.read.reads).entries

pub all_few : (trees : List TreeAt) → All (λ t. AreWholeBranches t.head) trees → All HasFewEntries trees
all_few trees all k d lt = few_entries _ (all k d lt)
