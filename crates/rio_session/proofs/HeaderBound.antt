-- How long at most the header of a tree is, without baskets.
use Rattle.std.proofs.Common.{◌≡◌, ◌==◌, ◌&&◌, ◌||◌, ℕ, ◌+◌, ◌*◌, ◌<◌, ◌≤◌, ◌^◌, pos, Bool, true, false, cond, not, codes, List, [], ◌∷◌, ◌++◌, length, map, Option, Some, None, refl, sym, ap, subst, ◌∙◌, arith}
use Rattle.std.proofs.{lemmas.Bool.{and_parts, leb-true, ltb-false, or_parts}, lemmas.Fmt.{length-decimal-le}, lemmas.List.{length-append}}
use Rattle.std.specs.{Prelude.{if◌then◌else◌, nat_lt}, Fmt.{decimal}, List.{flat_map, list_any}, Map.{lookup}, Str.{bytes_eq}}
use Rattle.rio_num.specs.Word.{is_name_text}
use Rattle.rio_format.specs.{declared.class.ClassDef.{ClassDef}, declared.value.Part.{Part}, declared.value.Value.{Value, Int, Bool as Truth, Text, List as Items, Object, Pointed, Null, Back}}
use Rattle.rio_leaf.specs.{Leaves.{has_counting_leaf, has_leaf, is_dim, is_leaf, is_leaf_count, is_letter_of}, Marks.{before_dimension, before_letter, behind_dimension, between_leaves}, Spelling.{text_of_dim, text_of_leaf, text_of_leaves}}
use Rattle.rio_leaf.specs.{Stated.{all_leaves, are_branches_behind, are_stated_branches, are_stated_leaves, has_branch, is_stated_branch, is_stated_leaf, is_stated_shape, leaves_of}, declared.branch.BranchDef.{BranchDef}, declared.branch.Shape.{Shape, TheVariants.{Leaves, Class}}}
use Rattle.rio_leaf.specs.{declared.leaf.Dim.{Dim, TheVariants.{One, Fixed, Counted}}, declared.leaf.Leaf.{Leaf}}
use Rattle.rio_format.specs.{Bodies.{part}, TreeClasses.{tree_classes}, Written.{written_form, writing_of}, WrittenList.{array_object, number_part, plain_object, titled_object}, declared.kind.Kind.TheVariants.{Inline}}
use Rattle.rio_format.specs.{ReaderState.{no_words}, Slots.{kinded}}
use Rattle.rio_machine.specs.Limits.{branch_limit, has_many_branches, has_many_leaves, leaf_limit}
use Rattle.rio_tree.specs.{Header.{branch_leaves}, HeaderLength.{bare_branch, bare_head, header_size}, declared.basket_at.BasketAt.{BasketAt}, declared.head.Branch.{Branch}}
use Rattle.rio_tree.specs.WrittenTree.{LeafLabels, back_or_null, backs_from, basket_arrays, basket_numbers, branch_label_count, branch_numbers, branch_object, branch_pointer_arrays, branch_pointers, class_of_letter, counter_pointer, is_letter_among, is_unsigned_letter, labels_behind, leaf_backs, leaf_object, leaf_pointers, plain_branch_object, plain_leaf_object, shaped_object, title_of_branch, tree_value_of, width_of_letter, written_count}
use Rattle.rio_session.proofs.LowForms.{AllLow, LowValue, all_less, low_append, low_back, low_int, low_less, low_list, low_null, low_object, low_pointed, low_text, low_truth}

-- ---- short names

short_name : (name : List ℕ) → is_name_text name ≡ true → length name ≤ 100
short_name [] e = absurd cc
short_name (b ∷ bs) e = leb-true _ _ (and_parts _ _ e).1

-- a leaf has a short name and dimension
pub record IsShortLeaf (leaf : Leaf) : Type 0 where
  pub name : length leaf.name ≤ 100
  pub dim : length (text_of_dim leaf.dim) ≤ 102

abbrev pub AreShortLeaves : List Leaf → Type 0
AreShortLeaves [] = Unit {0}
AreShortLeaves (leaf ∷ leaves) = IsShortLeaf leaf × AreShortLeaves leaves

abbrev pub IsShortShape : Shape → Type 0
IsShortShape (Leaves leaves) = AreShortLeaves leaves × (length leaves ≤ 64)
IsShortShape (Class class) = length class ≤ 100

abbrev pub AreShortDefs : List BranchDef → Type 0
AreShortDefs [] = Unit {0}
AreShortDefs (b ∷ bs) = (length b.name ≤ 100) × IsShortShape b.shape × AreShortDefs bs

short_dim : (counts : List ℕ → Bool) (dim : Dim) → is_dim counts dim ≡ true → length (text_of_dim dim) ≤ 102
short_dim counts One e = omega arith
short_dim counts (Fixed n) e =
    let low = leb-true n 100000 (and_parts _ _ e).1 in
    let digits = length-decimal-le 6 n (omega arith) (omega (arith, low)) (omega (arith, low)) in
    omega (arith, length-append (decimal n) (behind_dimension ∷ []), digits)
short_dim counts (Counted counter times) e =
    let name = short_name counter (and_parts _ _ (and_parts _ _ e).0).0 in
    omega (arith, length-append counter (behind_dimension ∷ []), name)

short_leaf : (before : List Leaf) (leaf : Leaf) → is_stated_leaf before leaf ≡ true → IsShortLeaf leaf
short_leaf before leaf e =
    let first = and_parts (is_name_text leaf.name && not (has_leaf before leaf.name) && is_dim (has_counting_leaf before) leaf.dim) (is_letter_of leaf.dim leaf.letter) e in
    let second = and_parts (is_name_text leaf.name && not (has_leaf before leaf.name)) (is_dim (has_counting_leaf before) leaf.dim) first.0 in
    let third = and_parts (is_name_text leaf.name) (not (has_leaf before leaf.name)) second.0 in
    record { name = short_name leaf.name third.0; dim = short_dim (has_counting_leaf before) leaf.dim second.1 }

short_leaves : (before leaves : List Leaf) → are_stated_leaves before leaves ≡ true → AreShortLeaves leaves
short_leaves before [] e = tt
short_leaves before (leaf ∷ leaves) e =
    let parts = and_parts (is_stated_leaf before leaf) (are_stated_leaves (before ++ leaf ∷ []) leaves) e in (short_leaf before leaf parts.0, short_leaves (before ++ leaf ∷ []) leaves parts.1)

short_shape : (before : List Leaf) (shape : Shape) → is_stated_shape before shape ≡ true → has_many_leaves shape ≡ false → IsShortShape shape
short_shape before (Leaves leaves) e few = (short_leaves before leaves (and_parts _ _ e).1, ltb-false leaf_limit (length leaves) few)
short_shape before (Class class) e few = short_name class e

pub short_defs : (before bs : List BranchDef) → are_branches_behind before bs ≡ true → list_any (λ b. has_many_leaves b.shape) bs ≡ false → AreShortDefs bs
short_defs before [] e few = tt
short_defs before (b ∷ bs) e few =
    let parts = and_parts (is_stated_branch before b) (are_branches_behind (before ++ b ∷ []) bs) e in
    let own = and_parts (is_name_text b.name && not (has_branch before b.name)) (is_stated_shape (all_leaves before) b.shape) parts.0 in
    let named = and_parts (is_name_text b.name) (not (has_branch before b.name)) own.0 in
    let fewer = or_parts (has_many_leaves b.shape) (list_any (λ c. has_many_leaves c.shape) bs) few in
    (short_name b.name named.0, short_shape (all_leaves before) b.shape own.1 fewer.0, short_defs (before ++ b ∷ []) bs parts.1 fewer.1)

-- ---- texts

leaf_text : (leaf : Leaf) → IsShortLeaf leaf → length (text_of_leaf leaf) ≤ 204
leaf_text leaf short =
    omega (arith, length-append leaf.name (text_of_dim leaf.dim ++ before_letter ∷ leaf.letter ∷ []), length-append (text_of_dim leaf.dim) (before_letter ∷ leaf.letter ∷ []), short.name, short.dim)

more_texts : (leaves : List Leaf) → AreShortLeaves leaves → length (flat_map (λ l. between_leaves ∷ text_of_leaf l) leaves) ≤ 205 * length leaves
more_texts [] short = omega arith
more_texts (leaf ∷ leaves) short =
    let rest = more_texts leaves short.1 in
    omega (arith, length-append (between_leaves ∷ text_of_leaf leaf) (flat_map (λ l. between_leaves ∷ text_of_leaf l) leaves), leaf_text leaf short.0, rest)

all_texts : (leaves : List Leaf) → AreShortLeaves leaves → length (text_of_leaves leaves) ≤ 205 * length leaves
all_texts [] short = omega arith
all_texts (leaf ∷ leaves) short =
    let rest = more_texts leaves short.1 in
    omega (arith, length-append (text_of_leaf leaf) (flat_map (λ l. between_leaves ∷ text_of_leaf l) leaves), leaf_text leaf short.0, rest)

title_most : (shape : Shape) → IsShortShape shape → length (title_of_branch shape) ≤ 205 * length (leaves_of shape) + 100
title_most (Leaves leaves) short = let l = all_texts leaves short.0 in omega (arith, l)
title_most (Class class) short = omega (arith, short)

-- ---- the parts of a header

module _ (classes : List ClassDef) where
  abbrev Low : Value → ℕ → Type 0
  Low v n = LowValue classes v n

  pub low_plain : LowValue classes plain_object 33
  unfolding plain_object
  low_plain = low_object classes (codes "TObject") (pos 1) (number_part (codes "fUniqueID") 0 ∷ number_part (codes "fBits") 0 ∷ []) 16 (8, 8, low_int classes (pos 0), (8, 0, low_int classes (pos 0), tt, omega arith), omega arith)

  pub low_titled : (name title : List ℕ) → LowValue classes (titled_object name title) (59 + length name + length title)
  unfolding titled_object
  low_titled name title =
      let parts = part [] plain_object ∷ part (codes "fName") (Text name) ∷ part (codes "fTitle") (Text title) ∷ [] in
      low_less classes (Object (codes "TNamed") (pos 1) parts) (43 + length name + length title + 10 + 6) (59 + length name + length title) (omega arith)
      (low_object classes (codes "TNamed") (pos 1) parts (43 + length name + length title)
      (33, 10 + length name + length title, low_plain, (length name + 5, length title + 5, low_text classes name, (length title + 5, 0, low_text classes title, tt, omega arith), omega arith), omega arith))

  pub low_array : (items : List Value) (n : ℕ) → AllLow (map (writing_of classes) items) n → LowValue classes (array_object items) (n + 66)
  unfolding array_object
  low_array items n low =
      let parts = part [] plain_object ∷ part (codes "fName") (Text []) ∷ number_part (codes "fLowerBound") 0 ∷ part (codes "items") (Items items) ∷ [] in
      low_less classes (Object (codes "TObjArray") (pos 3) parts) (n + 47 + 10 + 9) (n + 66) (omega arith)
      (low_object classes (codes "TObjArray") (pos 3) parts (n + 47)
      (33, n + 14, low_plain, (5, n + 9, low_text classes [], (8, n + 1, low_int classes (pos 0), (n + 1, 0, low_list classes items n low, tt, omega arith), omega arith), omega arith), omega arith))

  low_known : (o : Option ℕ) → Low (back_or_null o) 4
  low_known (Some label) = low_back classes label
  low_known None = low_null classes

  low_counter : (known : LeafLabels) (dim : Dim) → Low (counter_pointer known dim) 4
  low_counter known One = low_null classes
  low_counter known (Fixed n) = low_null classes
  low_counter known (Counted counter times) = low_known (lookup (bytes_eq counter) known)

  low_plain_leaf : (known : LeafLabels) (leaf : Leaf) → IsShortLeaf leaf → Low (plain_leaf_object known leaf) 400
  unfolding plain_leaf_object
  low_plain_leaf known leaf short =
      let title = leaf.name ++ text_of_dim leaf.dim in
      let long = length-append leaf.name (text_of_dim leaf.dim) in
      let parts = part [] (titled_object leaf.name title) ∷ number_part (codes "fLen") (written_count leaf.dim) ∷ number_part (codes "fLenType") (width_of_letter leaf.letter)
      ∷ part (codes "fIsUnsigned") (Truth (is_unsigned_letter leaf.letter)) ∷ part (codes "fLeafCount") (counter_pointer known leaf.dim) ∷ [] in
      let titled : Low (titled_object leaf.name title) 361 = low_less classes (titled_object leaf.name title) (59 + length leaf.name + length title) 361 (omega (arith, long, short.name, short.dim)) (low_titled leaf.name title) in
      low_less classes (Object (codes "TLeaf") (pos 102) parts) (382 + 10 + 5) 400 (omega arith)
      (low_object classes (codes "TLeaf") (pos 102) parts 382 (
        361,
        21,
        titled,
        (
          8,
          13,
          low_int classes (pos (written_count leaf.dim)),
          (
            8,
            5,
            low_int classes (pos (width_of_letter leaf.letter)),
            (1, 4, low_truth classes (is_unsigned_letter leaf.letter), (4, 0, low_counter known leaf.dim, tt, omega arith), omega arith),
            omega arith,
          ),
          omega arith,
        ),
        omega arith,
      ))

  -- the name of a leaf's class
  class_most : (letter : ℕ) → length (class_of_letter letter) ≤ 6
  class_most letter = by (is_letter_among (codes "Bb") letter) (is_letter_among (codes "Ss") letter) (is_letter_among (codes "Ii") letter) (is_letter_among (codes "Ll") letter) (is_letter_among (codes "F") letter)
      (is_letter_among (codes "D") letter) (is_letter_among (codes "O") letter)
    where
      by : (a b c d e f g : Bool) → length (if a then codes "TLeafB" else if b then codes "TLeafS" else if c then codes "TLeafI" else if d then codes "TLeafL" else if e then codes "TLeafF" else if f then codes "TLeafD" else if g then codes "TLeafO" else codes "TLeafC") ≤ 6
      by true b c d e f g = omega arith
      by false true c d e f g = omega arith
      by false false true d e f g = omega arith
      by false false false true e f g = omega arith
      by false false false false true f g = omega arith
      by false false false false false true g = omega arith
      by false false false false false false true = omega arith
      by false false false false false false false = omega arith

  low_leaf : (known : LeafLabels) (leaf : Leaf) → IsShortLeaf leaf → Low (leaf_object known leaf) 420
  unfolding leaf_object
  low_leaf known leaf short =
      let class = class_of_letter leaf.letter in
      low_less classes (Object class (pos 101) (part [] (plain_leaf_object known leaf) ∷ [])) (400 + 10 + length class) 420 (omega (arith, class_most leaf.letter))
      (low_object classes class (pos 101) (part [] (plain_leaf_object known leaf) ∷ []) 400 (400, 0, low_plain_leaf known leaf short, tt, omega arith))

  low_leaves : (known : LeafLabels) (label : ℕ) (leaves : List Leaf) → AreShortLeaves leaves → AllLow (map (writing_of classes) (leaf_pointers known label leaves)) (430 * length leaves)
  unfolding leaf_pointers
  low_leaves known label [] short = tt
  low_leaves known label (leaf ∷ leaves) short = (
    430,
    430 * length leaves,
    low_less classes (Pointed label (leaf_object known leaf)) (420 + 9) 430 (omega arith) (low_pointed classes label (leaf_object known leaf) 420 (low_leaf known leaf short.0)),
    low_leaves ((leaf.name, label) ∷ known) (label + 1) leaves short.1,
    omega arith,
  )

  all_less_values : (vs : List Value) (a b : ℕ) → a ≤ b → AllLow (map (writing_of classes) vs) a → AllLow (map (writing_of classes) vs) b
  all_less_values vs a b le low = all_less (map (writing_of classes) vs) a b le low

  parts_append : (ps qs : List Part) (m n : ℕ) → AllLow (map (λ y. writing_of classes y.value) ps) m → AllLow (map (λ y. writing_of classes y.value) qs) n → AllLow (map (λ y. writing_of classes y.value) (ps ++ qs)) (m + n)
  parts_append [] qs m n one two = all_less (map (λ y. writing_of classes y.value) qs) n (m + n) (omega arith) two
  parts_append (p ∷ ps) qs m n one two =
      let rest = parts_append ps qs one.1 n one.3 two in
      let le = one.4 in
      (one.0, one.1 + n, one.2, rest, omega (arith, le))

  -- ---- a branch without baskets

  -- of so many leaves
  module _ (b : BranchDef) (named : length b.name ≤ 100) (short : IsShortShape b.shape) where
    abbrev count : ℕ
    count = length (leaves_of b.shape)

    abbrev bare : Branch
    bare = bare_branch b

    title_low : length (title_of_branch b.shape) ≤ 205 * count + 100
    title_low = title_most b.shape short

    low_numbers : AllLow (map (λ y. writing_of classes y.value) (branch_numbers (bare_branch b))) (291 + 205 * count)
    low_numbers =
        let title = title_of_branch b.shape in
        let titled : Low (titled_object b.name title) (259 + 205 * count) = low_less classes (titled_object b.name title) (59 + length b.name + length title) (259 + 205 * count) (omega (arith, named, title_low)) (low_titled b.name title) in
        (259 + 205 * count, 32, titled, (8, 24, low_int classes _, (8, 16, low_int classes _, (8, 8, low_int classes _, (8, 0, low_int classes _, tt, omega arith), omega arith), omega arith), omega arith), omega arith)

    short_leaves_of : AreShortLeaves (leaves_of b.shape)
    short_leaves_of = by b.shape short
      where
        by : (shape : Shape) → IsShortShape shape → AreShortLeaves (leaves_of shape)
        by (Leaves leaves) short = short.0
        by (Class class) short = tt

    low_none : Low (array_object []) 66
    low_none = low_array [] 0 tt

    low_pointers : (known : LeafLabels) (label : ℕ) → AllLow (map (λ y. writing_of classes y.value) (branch_pointer_arrays known label (bare_branch b))) (198 + 430 * count)
    low_pointers known label =
        let leaves = leaf_pointers known label (leaves_of b.shape) in
        let own = low_array leaves (430 * count) (low_leaves known label (leaves_of b.shape) short_leaves_of) in
        (66, 132 + 430 * count, low_none, (430 * count + 66, 66, own, (66, 0, low_none, tt, omega arith), omega arith), omega arith)

    low_basket_numbers : (number : BasketAt → ℕ) → Low (basket_numbers number [] 0) 9
    unfolding basket_numbers
    low_basket_numbers number = low_list classes (Int (pos 0) ∷ []) 8 (8, 0, low_int classes (pos 0), tt, omega arith)

    low_baskets : AllLow (map (λ y. writing_of classes y.value) (basket_arrays (bare_branch b))) 27
    low_baskets =
        (9, 18, low_basket_numbers (λ a. a.bytes), (9, 9, low_basket_numbers (λ a. a.first), (9, 0, low_basket_numbers (λ a. a.seek), tt, omega arith), omega arith), omega arith)

    low_plain_branch : (known : LeafLabels) (label : ℕ) → Low (plain_branch_object known label (bare_branch b)) (533 + 635 * count)
    unfolding plain_branch_object
    low_plain_branch known label =
        let parts = branch_numbers bare ++ (branch_pointer_arrays known label bare ++ basket_arrays bare) in
        let all = parts_append (branch_numbers bare) (branch_pointer_arrays known label bare ++ basket_arrays bare) (291 + 205 * count) (198 + 430 * count + 27) low_numbers
        (parts_append (branch_pointer_arrays known label bare) (basket_arrays bare) (198 + 430 * count) 27 (low_pointers known label) low_baskets) in
        low_less classes (Object (codes "TBranch") (pos 113) parts) (291 + 205 * count + (198 + 430 * count + 27) + 10 + 7) (533 + 635 * count) (omega arith)
        (low_object classes (codes "TBranch") (pos 113) parts (291 + 205 * count + (198 + 430 * count + 27)) all)

    low_shaped : (plain : Value) (shape : Shape) → IsShortShape shape → Low plain (533 + 635 * count) → Low (shaped_object plain (bare_branch b) shape) (700 + 635 * count)
    low_shaped plain (Leaves leaves) short low = low_less classes plain (533 + 635 * count) (700 + 635 * count) (omega arith) low
    low_shaped plain (Class class) short low =
        let parts = part [] plain ∷ part (codes "fClassName") (Text class) ∷ part (codes "fClassVersion") (Int (pos 0)) ∷ [] in
        low_less classes (Object (codes "TBranchElement") (pos 110) parts) (646 + 635 * count + 10 + 14) (700 + 635 * count) (omega arith)
        (low_object classes (codes "TBranchElement") (pos 110) parts (646 + 635 * count)
        (533 + 635 * count, length class + 13, low, (length class + 5, 8, low_text classes class, (8, 0, low_int classes (pos 0), tt, omega arith), omega arith), omega (arith, short)))

    few_leaves : count ≤ 64
    few_leaves = by b.shape short
      where
        by : (shape : Shape) → IsShortShape shape → length (leaves_of shape) ≤ 64
        by (Leaves leaves) short = short.1
        by (Class class) short = omega arith

    low_branch : (known : LeafLabels) (label : ℕ) → Low (branch_object known label (bare_branch b)) 41340
    unfolding branch_object
    low_branch known label =
        low_less classes (shaped_object (plain_branch_object known label bare) bare b.shape) (700 + 635 * count) 41340 (omega (arith, few_leaves)) (low_shaped (plain_branch_object known label bare) b.shape short (low_plain_branch known label))

  -- ---- all branches

  low_branches : (known : LeafLabels) (label : ℕ) (bs : List BranchDef) → AreShortDefs bs → AllLow (map (writing_of classes) (branch_pointers known label (map bare_branch bs))) (41350 * length bs)
  unfolding branch_pointers
  low_branches known label [] short = tt
  low_branches known label (b ∷ bs) short =
      let first = branch_object known (label + 1) (bare_branch b) in (
        41350,
        41350 * length bs,
        low_less classes (Pointed label first) (41340 + 9) 41350 (omega arith) (low_pointed classes label first 41340 (low_branch b short.0 short.1 known (label + 1))),
        low_branches (labels_behind known (label + 1) (leaves_of b.shape)) (label + branch_label_count (bare_branch b)) bs short.2,
        omega arith,
      )

  low_backs : {A : Type 0} (label : ℕ) (xs : List A) → AllLow (map (writing_of classes) (backs_from label xs)) (4 * length xs)
  unfolding backs_from
  low_backs label [] = tt
  low_backs label (x ∷ xs) = (4, 4 * length xs, low_back classes label, low_backs (label + 1) xs, omega arith)

  low_all_backs : (label : ℕ) (bs : List BranchDef) → AreShortDefs bs → AllLow (map (writing_of classes) (leaf_backs label (map bare_branch bs))) (256 * length bs)
  unfolding leaf_backs
  low_all_backs label [] short = tt
  low_all_backs label (b ∷ bs) short =
      let few = few_leaves b short.0 short.1 in
      all_less_values (backs_from (label + 1) (leaves_of b.shape) ++ leaf_backs (label + branch_label_count (bare_branch b)) (map bare_branch bs)) (4 * length (leaves_of b.shape) + 256 * length bs) (256 * length (b ∷ bs)) (omega (arith, few))
      (low_append classes (backs_from (label + 1) (leaves_of b.shape)) (leaf_backs (label + branch_label_count (bare_branch b)) (map bare_branch bs)) (4 * length (leaves_of b.shape)) (256 * length bs)
      (low_backs (label + 1) (leaves_of b.shape)) (low_all_backs (label + branch_label_count (bare_branch b)) bs short.2))

  -- ---- the tree

  low_tree : (name : List ℕ) (bs : List BranchDef) → length name ≤ 100 → AreShortDefs bs → Low (tree_value_of name (bare_head bs)) (400 + 41606 * length bs)
  unfolding tree_value_of
  low_tree name bs named short =
      let branches = branch_pointers [] 0 (map bare_branch bs) in
      let backs = leaf_backs 0 (map bare_branch bs) in
      let parts = part [] (titled_object name []) ∷ number_part (codes "fEntries") 0 ∷ part (codes "fBranches") (array_object branches) ∷ part (codes "fLeaves") (array_object backs) ∷ [] in
      let titled : Low (titled_object name []) 159 = low_less classes (titled_object name []) (59 + length name + 0) 159 (omega (arith, named)) (low_titled name []) in
      let one = low_array branches (41350 * length bs) (low_branches [] 0 bs short) in
      let two = low_array backs (256 * length bs) (low_all_backs 0 bs short) in
      low_less classes (Object (codes "TTree") (pos 120) parts) (299 + 41606 * length bs + 10 + 5) (400 + 41606 * length bs) (omega arith)
      (low_object classes (codes "TTree") (pos 120) parts (299 + 41606 * length bs)
      (159, 140 + 41606 * length bs, titled, (8, 132 + 41606 * length bs, low_int classes (pos 0), (41350 * length bs + 66, 256 * length bs + 66, one, (256 * length bs + 66, 0, two, tt, omega arith), omega arith), omega arith), omega arith))

-- ---- headers

-- A tree that can be declared has a short header.
pub header_low : (name : List ℕ) (bs : List BranchDef) → length name ≤ 100 → are_stated_branches bs ≡ true → has_many_branches bs ≡ false → header_size name bs ≤ 3000000
unfolding header_size
header_low name bs named stated few =
    let parts = or_parts (nat_lt branch_limit (length bs)) (list_any (λ b. has_many_leaves b.shape) bs) few in
    let fewer : length bs ≤ 64 = ltb-false branch_limit (length bs) parts.0 in
    let short = short_defs [] bs (and_parts (not (length bs == 0)) (are_branches_behind [] bs) stated).1 parts.1 in
    let v = tree_value_of name (bare_head bs) in
    let w = writing_of tree_classes v in
    let low = low_tree tree_classes name bs named short (kinded (Inline w.class)) 0 no_words in
    omega (arith, low, fewer)
