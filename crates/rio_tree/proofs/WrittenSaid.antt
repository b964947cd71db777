-- What leaves and branches of a header that is written say.
use Rattle.std.proofs.Common.{◌≡◌, ◌∙◌, ◌||◌, ◌^◌, ℕ, zero, suc, ◌+◌, pos, Bool, true, false, cond, List, [], ◌∷◌, ◌++◌, length, map, take, codes, Option, Some, None, refl, ap, sym, subst, append-nil, nat_lt}
use Rattle.std.proofs.lemmas.Bool.{and_parts, eqb-true}
use Rattle.std.specs.{List.{list_all}, Map.{lookup}, Prelude.{◌==◌, unwrap_or}, Str.{bytes_eq}}
use Rattle.rio_leaf.specs.{Marks.{is_leaf_letter}, Spelling.{text_of_dim}, declared.branch.Shape.{Shape, TheVariants.{Leaves, Class}}}
use Rattle.rio_leaf.specs.{declared.leaf.Dim.{Dim, TheVariants.{One, Fixed, Counted}}, declared.leaf.Leaf.{Leaf}}
use Rattle.rio_format.specs.{declared.value.Part.{Part}, declared.value.Value.{Value, Int, Bool as Truth, Text, TheVariants.{outs-Back, outs-Bool, outs-Int, outs-List, outs-Null, outs-Object, outs-Text}}}
use Rattle.rio_format.specs.{Accessors.{class_of_object}, PartsWithBases.{member_in, parts_with_bases}, Bodies.{part}, Fits.{fits_signed}, WrittenList.{array_object, number_part, plain_object, titled_object}}
use Rattle.rio_tree.specs.{declared.basket_at.BasketAt.{BasketAt}, declared.head.Branch.{Branch}, Header.{branch_leaves}}
use Rattle.rio_tree.specs.BranchMembers.{BranchSaid, branch_said, entry_class, leaf_items}
use Rattle.rio_tree.specs.HeaderLeaves.{LeafSaid, counter_in, leaf_said, letter_of_class}
use Rattle.rio_tree.specs.Members.{integer_member, integers_in, integers_member, is_integer, is_pointer, name_member, pointers_member, truth_member}
use Rattle.rio_tree.specs.WrittenLaws.{IsVersionFor}
use Rattle.rio_tree.specs.WrittenTree.{LeafLabels, back_or_null, basket_numbers, branch_object, class_of_letter, counter_pointer, is_unsigned_letter, leaf_object, leaf_pointers, plain_branch_object, plain_leaf_object, shaped_object, title_of_branch, width_of_letter, written_count}
use Rattle.rio_tree.proofs.WrittenMembers.{leaves_are_pointers, object_parts, pointers_written, titled_parts}

-- ---- letters

this_or : (P : ℕ → Type 0) (letter n : ℕ) (rest : Bool) → ((letter == n) || rest) ≡ true → P n → (rest ≡ true → P letter) → P letter
this_or P letter n rest e here there =
    elim (letter == n) as (λ b. (letter == n) ≡ b → (b || rest) ≡ true → P letter) [
      | true ↦ λ is h. subst P (sym (eqb-true letter n is)) here
      | false ↦ λ is h. there h
    ] refl e

-- what holds of each letter
record OfLetters (P : ℕ → Type 0) : Type 0 where
  signed_1 : P 66
  unsigned_1 : P 98
  signed_2 : P 83
  unsigned_2 : P 115
  signed_4 : P 73
  unsigned_4 : P 105
  signed_8 : P 76
  unsigned_8 : P 108
  float : P 70
  double : P 68
  truth : P 79
  text : P 67

by_letter : (P : ℕ → Type 0) (letter : ℕ) → is_leaf_letter letter ≡ true → OfLetters P → P letter
by_letter P letter e each =
    this_or P letter 66 _ e each.signed_1 (λ e. this_or P letter 98 _ e each.unsigned_1
    (λ e. this_or P letter 83 _ e each.signed_2 (λ e. this_or P letter 115 _ e each.unsigned_2
    (λ e. this_or P letter 73 _ e each.signed_4 (λ e. this_or P letter 105 _ e each.unsigned_4
    (λ e. this_or P letter 76 _ e each.signed_8 (λ e. this_or P letter 108 _ e each.unsigned_8
    (λ e. this_or P letter 70 _ e each.float (λ e. this_or P letter 68 _ e each.double
    (λ e. this_or P letter 79 _ e each.truth (λ e. this_or P letter 67 _ e each.text (λ e. absurd cc))))))))))))

letter_again : (letter : ℕ) → is_leaf_letter letter ≡ true → letter_of_class (class_of_letter letter) (is_unsigned_letter letter) ≡ Some letter
letter_again letter e =
    by_letter (λ n. letter_of_class (class_of_letter n) (is_unsigned_letter n) ≡ Some n) letter e
    (record {
      signed_1 = refl;
      unsigned_1 = refl;
      signed_2 = refl;
      unsigned_2 = refl;
      signed_4 = refl;
      unsigned_4 = refl;
      signed_8 = refl;
      unsigned_8 = refl;
      float = refl;
      double = refl;
      truth = refl;
      text = refl;
    })

-- ---- one leaf

-- the label of what counts it
abbrev pub counter_label : LeafLabels → Dim → Option ℕ
counter_label known (Counted counter times) = lookup (bytes_eq counter) known
counter_label known other = None

counter_found : (found : Option ℕ) → counter_in (back_or_null found) ≡ Some found
counter_found None = rw outs-Null refl
counter_found (Some label) = rw (outs-Back label) refl

counter_again : (known : LeafLabels) (dim : Dim) → counter_in (counter_pointer known dim) ≡ Some (counter_label known dim)
counter_again known One = rw outs-Null refl
counter_again known (Fixed count) = rw outs-Null refl
counter_again known (Counted counter times) = counter_found (lookup (bytes_eq counter) known)

abbrev leaf_title : Leaf → Value
leaf_title leaf = titled_object leaf.name (leaf.name ++ text_of_dim leaf.dim)

leaf_parts : (known : LeafLabels) (leaf : Leaf) → parts_with_bases (leaf_object known leaf)
    ≡ part [] (plain_leaf_object known leaf)
    ∷ part [] (leaf_title leaf)
    ∷ number_part (codes "fLen") (written_count leaf.dim)
    ∷ number_part (codes "fLenType") (width_of_letter leaf.letter)
    ∷ part (codes "fIsUnsigned") (Truth (is_unsigned_letter leaf.letter))
    ∷ part (codes "fLeafCount") (counter_pointer known leaf.dim)
    ∷ parts_with_bases (leaf_title leaf)
unfolding leaf_object plain_leaf_object
leaf_parts known leaf =
    rw (
      object_parts (class_of_letter leaf.letter) (pos 101) _,
      object_parts (codes "TLeaf") (pos 102) _,
      append-nil (parts_with_bases (leaf_title leaf)),
    ) (ap (λ (ps : List Part). part [] (plain_leaf_object known leaf) ∷ ps) (append-nil _))

pub leaf_name : (known : LeafLabels) (leaf : Leaf) → name_member (codes "fName") (leaf_object known leaf) ≡ Some leaf.name
leaf_name known leaf = rw (leaf_parts known leaf, titled_parts leaf.name (leaf.name ++ text_of_dim leaf.dim), outs-Text leaf.name) refl

leaf_class : (known : LeafLabels) (leaf : Leaf) → class_of_object (leaf_object known leaf) ≡ class_of_letter leaf.letter
unfolding leaf_object
leaf_class known leaf = rw (outs-Object (class_of_letter leaf.letter) (pos 101) _) refl

abbrev pub said_of_leaf : LeafLabels → Leaf → LeafSaid
said_of_leaf known leaf = record { name = leaf.name; letter = leaf.letter; len = pos (written_count leaf.dim); counter = counter_label known leaf.dim }

pub leaf_again : (known : LeafLabels) (leaf : Leaf) → is_leaf_letter leaf.letter ≡ true → nat_lt (written_count leaf.dim) (2 ^ 31) ≡ true → leaf_said (leaf_object known leaf) ≡ Some (said_of_leaf known leaf)
unfolding leaf_said
leaf_again known leaf letter count =
    let v = leaf_object known leaf in
    let len : integer_member 32 (codes "fLen") v ≡ Some (pos (written_count leaf.dim)) = rw (leaf_parts known leaf, outs-Int (pos (written_count leaf.dim)), count) refl in
    let unsigned : truth_member (codes "fIsUnsigned") v ≡ Some (is_unsigned_letter leaf.letter) = rw (leaf_parts known leaf, outs-Bool (is_unsigned_letter leaf.letter)) refl in
    let pointer : member_in (codes "fLeafCount") v ≡ Some (counter_pointer known leaf.dim) = rw (leaf_parts known leaf) refl in
    rw (leaf_name known leaf, len, unsigned, pointer, counter_again known leaf.dim, leaf_class known leaf, letter_again leaf.letter letter) refl

-- ---- arrays with a number for each basket

abbrev pub numbers_list : (BasketAt → ℕ) → List BasketAt → ℕ → List Value
numbers_list number baskets last = map (λ b. Int (pos (number b))) baskets ++ Int (pos last) ∷ []

integer_fits : (bits n : ℕ) → fits_signed bits (pos n) ≡ true → is_integer bits (Int (pos n)) ≡ true
integer_fits bits n e = rw (outs-Int (pos n), e) refl

each_integer : (bits : ℕ) (number : BasketAt → ℕ) (baskets : List BasketAt) (last : ℕ) → list_all (λ b. fits_signed bits (pos (number b))) baskets ≡ true → fits_signed bits (pos last) ≡ true → list_all (is_integer bits) (numbers_list number baskets last) ≡ true
each_integer bits number [] last all e = rw (integer_fits bits last e) refl
each_integer bits number (b ∷ bs) last all e =
    let h = and_parts (fits_signed bits (pos (number b))) (list_all (λ b. fits_signed bits (pos (number b))) bs) all in
    rw (integer_fits bits (number b) h.0) (each_integer bits number bs last h.1 e)

first_of_all : {X : Type 0} (p : X → Bool) (n : ℕ) (xs : List X) → list_all p xs ≡ true → list_all p (take n xs) ≡ true
first_of_all p zero xs e = refl
first_of_all p (suc n) [] e = refl
first_of_all p (suc n) (x ∷ xs) e = let h = and_parts (p x) (list_all p xs) e in rw h.0 (first_of_all p n xs h.1)

numbers_again : (bits used : ℕ) (number : BasketAt → ℕ) (baskets : List BasketAt) (last : ℕ) → list_all (λ b. fits_signed bits (pos (number b))) baskets ≡ true → fits_signed bits (pos last) ≡ true → integers_in bits used (basket_numbers number baskets last) ≡ Some (numbers_list number baskets last)
unfolding basket_numbers
numbers_again bits used number baskets last all e =
    let items = numbers_list number baskets last in
    rw (outs-List items, first_of_all (is_integer bits) used items (each_integer bits number baskets last all e)) refl

-- ---- one branch

abbrev branch_title : Branch → Value
branch_title b = titled_object b.def.name (title_of_branch b.def.shape)

plain_parts : (known : LeafLabels) (label : ℕ) (b : Branch) → parts_with_bases (plain_branch_object known label b)
    ≡ part [] (branch_title b)
    ∷ number_part (codes "fEntryOffsetLen") (cond b.offsets 1000 0)
    ∷ number_part (codes "fWriteBasket") (length b.baskets)
    ∷ number_part (codes "fMaxBaskets") (length b.baskets + 1)
    ∷ number_part (codes "fEntries") b.entries
    ∷ part (codes "fBranches") (array_object [])
    ∷ part (codes "fLeaves") (array_object (leaf_pointers known label (branch_leaves b)))
    ∷ part (codes "fBaskets") (array_object [])
    ∷ part (codes "fBasketBytes") (basket_numbers (λ basket. basket.bytes) b.baskets 0)
    ∷ part (codes "fBasketEntry") (basket_numbers (λ basket. basket.first) b.baskets b.entries)
    ∷ part (codes "fBasketSeek") (basket_numbers (λ basket. basket.seek) b.baskets 0)
    ∷ parts_with_bases (branch_title b)
unfolding plain_branch_object
plain_parts known label b = rw (object_parts (codes "TBranch") (pos 113) _, append-nil (parts_with_bases (branch_title b))) refl

-- a name that no part has that a branch of objects adds
record IsOfPlain (name : List ℕ) : Type 0 where
  base : bytes_eq [] name ≡ false
  class : bytes_eq (codes "fClassName") name ≡ false
  version : bytes_eq (codes "fClassVersion") name ≡ false

shaped_member : (plain : Value) (b : Branch) (shape : Shape) (name : List ℕ) → IsOfPlain name → member_in name (shaped_object plain b shape) ≡ member_in name plain
shaped_member plain b (Leaves leaves) name h = refl
shaped_member plain b (Class class) name h = rw (object_parts (codes "TBranchElement") (pos 110) _, h.base, h.class, h.version, append-nil (parts_with_bases plain)) refl

-- what a branch's objects are of
abbrev pub class_of_shape : Shape → Option (List ℕ)
class_of_shape (Leaves leaves) = None
class_of_shape (Class class) = Some class

entry_class_again : (known : LeafLabels) (label : ℕ) (b : Branch) (shape : Shape) → entry_class (shaped_object (plain_branch_object known label b) b shape) ≡ Some (class_of_shape shape)
unfolding plain_branch_object
entry_class_again known label b (Leaves leaves) = rw (outs-Object (codes "TBranch") (pos 113) _) refl
entry_class_again known label b (Class class) =
    rw (outs-Object (codes "TBranchElement") (pos 110) _, object_parts (codes "TBranchElement") (pos 110) _, outs-Text class) refl

no_version : (known : LeafLabels) (label : ℕ) (b : Branch) → member_in (codes "fClassVersion") (plain_branch_object known label b) ≡ None
unfolding plain_object
no_version known label b = rw (plain_parts known label b, titled_parts b.def.name (title_of_branch b.def.shape), object_parts (codes "TObject") (pos 1) _) refl

shaped_version : (known : LeafLabels) (label : ℕ) (b : Branch) (shape : Shape) → fits_signed 32 b.class_version ≡ true → IsVersionFor shape b.class_version
    → unwrap_or (integer_member 32 (codes "fClassVersion") (shaped_object (plain_branch_object known label b) b shape)) (pos 0) ≡ b.class_version
shaped_version known label b (Leaves leaves) fits is = rw (no_version known label b) (sym is)
shaped_version known label b (Class class) fits is = rw (object_parts (codes "TBranchElement") (pos 110) _, outs-Int b.class_version, fits) refl

pub record HasNumbers (b : Branch) : Type 0 where
  pub entries : nat_lt b.entries (2 ^ 63) ≡ true
  pub count : nat_lt (length b.baskets) (2 ^ 31) ≡ true
  pub bytes : list_all (λ basket. fits_signed 32 (pos basket.bytes)) b.baskets ≡ true
  pub firsts : list_all (λ basket. fits_signed 64 (pos basket.first)) b.baskets ≡ true
  pub seeks : list_all (λ basket. fits_signed 64 (pos basket.seek)) b.baskets ≡ true

abbrev pub said_of_branch : LeafLabels → ℕ → Branch → BranchSaid
said_of_branch known label b = record {
  class = class_of_shape b.def.shape;
  write_basket = pos (length b.baskets);
  entries = pos b.entries;
  branches = [];
  leaves = leaf_pointers known label (branch_leaves b);
  baskets = [];
  bytes = numbers_list (λ basket. basket.bytes) b.baskets 0;
  firsts = numbers_list (λ basket. basket.first) b.baskets b.entries;
  seeks = numbers_list (λ basket. basket.seek) b.baskets 0;
}

module _ (known : LeafLabels) (label : ℕ) (b : Branch) where
  abbrev plain : Value
  plain = plain_branch_object known label b

  abbrev whole : Value
  whole = branch_object known label b

  -- a member is that of its TBranch
  plain_member : (name : List ℕ) (v : Value) → IsOfPlain name → member_in name plain ≡ Some v → member_in name whole ≡ Some v
  unfolding branch_object
  plain_member name v h e = shaped_member plain b b.def.shape name h ∙ e

  pub branch_name : name_member (codes "fName") whole ≡ Some b.def.name
  branch_name =
      let e : member_in (codes "fName") plain ≡ Some (Text b.def.name) = rw (plain_parts known label b, titled_parts b.def.name (title_of_branch b.def.shape)) refl in
      rw (plain_member (codes "fName") (Text b.def.name) (record { base = refl; class = refl; version = refl }) e, outs-Text b.def.name) refl

  number_again : (bits : ℕ) (name : List ℕ) (n : ℕ) → IsOfPlain name → member_in name plain ≡ Some (Int (pos n)) → fits_signed bits (pos n) ≡ true → integer_member bits name whole ≡ Some (pos n)
  number_again bits name n h e fits = rw (plain_member name (Int (pos n)) h e, outs-Int (pos n), fits) refl

  array_again : (name : List ℕ) (items : List Value) → IsOfPlain name → list_all is_pointer items ≡ true → member_in name plain ≡ Some (array_object items) → pointers_member name whole ≡ Some items
  array_again name items h all e = rw (plain_member name (array_object items) h e, pointers_written items all) refl

  list_again : (bits used : ℕ) (name : List ℕ) (number : BasketAt → ℕ) (last : ℕ) → IsOfPlain name → member_in name plain ≡ Some (basket_numbers number b.baskets last)
      → list_all (λ basket. fits_signed bits (pos (number basket))) b.baskets ≡ true → fits_signed bits (pos last) ≡ true → integers_member bits name used whole ≡ Some (numbers_list number b.baskets last)
  list_again bits used name number last h e all fits = rw (plain_member name (basket_numbers number b.baskets last) h e, numbers_again bits used number b.baskets last all fits) refl

  pub leaves_again : leaf_items (Some whole) ≡ leaf_pointers known label (branch_leaves b)
  leaves_again = rw (array_again (codes "fLeaves") (leaf_pointers known label (branch_leaves b)) (record { base = refl; class = refl; version = refl }) (leaves_are_pointers known label (branch_leaves b)) (rw (plain_parts known label b) refl)) refl

  class_again : entry_class whole ≡ Some (class_of_shape b.def.shape)
  unfolding branch_object
  class_again = entry_class_again known label b b.def.shape

  pub branch_again : HasNumbers b → branch_said whole ≡ Some (said_of_branch known label b)
  unfolding branch_said
  branch_again h =
      rw (
        class_again,
        branch_name,
        number_again 32 (codes "fWriteBasket") (length b.baskets) (record { base = refl; class = refl; version = refl }) (rw (plain_parts known label b) refl) h.count,
        number_again 64 (codes "fEntries") b.entries (record { base = refl; class = refl; version = refl }) (rw (plain_parts known label b) refl) h.entries,
        array_again (codes "fBranches") [] (record { base = refl; class = refl; version = refl }) refl (rw (plain_parts known label b) refl),
        array_again (codes "fLeaves") (leaf_pointers known label (branch_leaves b)) (record { base = refl; class = refl; version = refl }) (leaves_are_pointers known label (branch_leaves b)) (rw (plain_parts known label b) refl),
        array_again (codes "fBaskets") [] (record { base = refl; class = refl; version = refl }) refl (rw (plain_parts known label b) refl),
        list_again 32 (length b.baskets) (codes "fBasketBytes") (λ basket. basket.bytes) 0 (record { base = refl; class = refl; version = refl }) (rw (plain_parts known label b) refl) h.bytes refl,
        list_again 64 (length b.baskets) (codes "fBasketEntry") (λ basket. basket.first) b.entries (record { base = refl; class = refl; version = refl }) (rw (plain_parts known label b) refl) h.firsts h.entries,
        list_again 64 (length b.baskets) (codes "fBasketSeek") (λ basket. basket.seek) 0 (record { base = refl; class = refl; version = refl }) (rw (plain_parts known label b) refl) h.seeks refl,
      ) refl

  -- the version of its class, 0 where it isn't of objects
  pub version_again : fits_signed 32 b.class_version ≡ true → IsVersionFor b.def.shape b.class_version → unwrap_or (integer_member 32 (codes "fClassVersion") whole) (pos 0) ≡ b.class_version
  unfolding branch_object
  version_again fits is = shaped_version known label b b.def.shape fits is
