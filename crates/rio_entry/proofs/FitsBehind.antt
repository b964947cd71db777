-- Columns that fit a row, one after the other, and those of a branch before those behind it.
use Rattle.std.proofs.Common.{◌≡◌, ◌&&◌, ◌≢◌, ℕ, zero, suc, ◌+◌, ◌<◌, ◌≤◌, Bool, true, false, List, [], ◌∷◌, ◌++◌, length, map, min, take, drop, get_or, refl, sym, ap, ◌∙◌, arith}
use Rattle.std.proofs.lemmas.List.{drop_all}
use Rattle.rio_leaf.specs.declared.leaf.Leaf.{Leaf}
use Rattle.rio_format.specs.{Bodies.{Counters}, declared.class.ClassDef.{ClassDef}, declared.value.Value.{Value}}
use Rattle.rio_machine.specs.Rows.{Column, leaf_column, column_slot, columns_fit, columns_of, leaf_kind, leaf_numbers_after, leaf_numbers_behind, shape_columns, stands_in}
use Rattle.rio_tree.specs.{WrittenLaws.{stated_defs}, declared.head.Branch.{Branch}}
use Rattle.rio_entry.specs.Leaves.{kind_fits}
use Rattle.rio_entry.proofs.{Counting.{left_begins}, LeafKinds.{kind_leafy}, Singles.{stands_is}}

-- ---- the columns of one branch, and those behind

and_assoc : (a b c : Bool) → (a && (b && c)) ≡ ((a && b) && c)
and_assoc true b c = refl
and_assoc false b c = refl

module _ (classes : List ClassDef) where
  pub split_fits : (cs rest : List Column) (row : List Value) (before : Counters) → columns_fit classes (cs ++ rest) row before ≡ (columns_fit classes cs (take (length cs) row) before && columns_fit classes rest (drop (length cs) row) (leaf_numbers_after cs row before))
  split_fits [] rest row before = refl
  split_fits (c ∷ cs) rest [] before = refl
  split_fits (c ∷ cs) rest (v ∷ vs) before =
      let now = leaf_numbers_behind c v before in
      ap (λ (b : Bool). stands_in classes (column_slot before c) v && b) (split_fits cs rest vs now)
      ∙ and_assoc (stands_in classes (column_slot before c) v) (columns_fit classes cs (take (length cs) vs) now) (columns_fit classes rest (drop (length cs) vs) (leaf_numbers_after cs vs now))

  -- not as many values as columns
  pub too_few : (cs : List Column) (vs : List Value) (before : Counters) → length cs ≢ length vs → columns_fit classes cs vs before ≡ false
  too_few [] [] before ne = absurd (ne refl)
  too_few [] (v ∷ vs) before ne = refl
  too_few (c ∷ cs) [] before ne = refl
  too_few (c ∷ cs) (v ∷ vs) before ne = by (stands_in classes (column_slot before c) v) (too_few cs vs (leaf_numbers_behind c v before) (λ e. ne (ap suc e)))
    where
      by : (b : Bool) → columns_fit classes cs vs (leaf_numbers_behind c v before) ≡ false → (b && columns_fit classes cs vs (leaf_numbers_behind c v before)) ≡ false
      by true e = e
      by false e = refl

pub front_numbers : (cs : List Column) (row : List Value) (before : Counters) → leaf_numbers_after cs (take (length cs) row) before ≡ leaf_numbers_after cs row before
front_numbers [] row before = refl
front_numbers (c ∷ cs) [] before = refl
front_numbers (c ∷ cs) (v ∷ vs) before = front_numbers cs vs (leaf_numbers_behind c v before)

-- ---- leaves, one after the other

-- the leaves from this one on are left, behind leaves that say these numbers
pub record LeavesLeft (classes : List ClassDef) (leaves : List Leaf) (values : List Value) (before : Counters) (k : ℕ) (now : Counters) : Type 0 where
  pub fits : columns_fit classes (map leaf_column (drop k leaves)) (drop k values) now ≡ columns_fit classes (map leaf_column leaves) values before
  pub says : leaf_numbers_after (map leaf_column (drop k leaves)) (drop k values) now ≡ leaf_numbers_after (map leaf_column leaves) values before

module _ (classes : List ClassDef) (leaves : List Leaf) (values : List Value) (before : Counters) (k : ℕ) (now : Counters) (is_left : LeavesLeft classes leaves values before k now) where
  module _ (l : Leaf) (v : Value) (lt : k < length leaves) (low : k < length values) (e : l ≡ get_or leaves k l) (f : v ≡ get_or values k v) where
    abbrev next : Counters
    next = leaf_numbers_behind (leaf_column l) v now

    abbrev behind : Bool
    behind = columns_fit classes (map leaf_column (drop (k + 1) leaves)) (drop (k + 1) values) next

    stands : stands_in classes (column_slot now (leaf_column l)) v ≡ kind_fits (leaf_kind now l) v
    stands = stands_is classes (leaf_kind now l) v (kind_leafy now l)

    one_on : columns_fit classes (map leaf_column (drop k leaves)) (drop k values) now ≡ (kind_fits (leaf_kind now l) v && behind)
    one_on =
        ap (λ (ls : List Leaf). columns_fit classes (map leaf_column ls) (drop k values) now) (left_begins leaves k l lt e)
        ∙ ap (λ (vs : List Value). columns_fit classes (map leaf_column (l ∷ drop (k + 1) leaves)) vs now) (left_begins values k v low f)
        ∙ ap (λ (b : Bool). b && behind) stands

    pub leaf_more : kind_fits (leaf_kind now l) v ≡ true → LeavesLeft classes leaves values before (k + 1) next
    leaf_more fit = record {
      fits = ap (λ (b : Bool). b && behind) (sym fit) ∙ sym one_on ∙ is_left.fits;
      says =
          ap (λ (vs : List Value). leaf_numbers_after (map leaf_column (l ∷ drop (k + 1) leaves)) vs now) (sym (left_begins values k v low f))
          ∙ ap (λ (ls : List Leaf). leaf_numbers_after (map leaf_column ls) (drop k values) now) (sym (left_begins leaves k l lt e))
          ∙ is_left.says;
    }

    pub leaf_fails : kind_fits (leaf_kind now l) v ≡ false → columns_fit classes (map leaf_column leaves) values before ≡ false
    leaf_fails none = sym is_left.fits ∙ one_on ∙ ap (λ (b : Bool). b && behind) none

  module _ (last : length leaves ≤ k) (size : length leaves ≡ length values) where
    none_left : drop k leaves ≡ []
    none_left = drop_all k leaves last

    none_behind : drop k values ≡ []
    none_behind = drop_all k values (omega (arith, last, size))

    pub leaves_done : (columns_fit classes (map leaf_column leaves) values before ≡ true) × (now ≡ leaf_numbers_after (map leaf_column leaves) values before)
    leaves_done = (
      sym is_left.fits
          ∙ ap (λ (ls : List Leaf). columns_fit classes (map leaf_column ls) (drop k values) now) none_left
          ∙ ap (λ (vs : List Value). columns_fit classes [] vs now) none_behind,
      ap (λ (vs : List Value). leaf_numbers_after [] vs now) (sym none_behind)
          ∙ ap (λ (ls : List Leaf). leaf_numbers_after (map leaf_column ls) (drop k values) now) (sym none_left)
          ∙ is_left.says,
    )

-- ---- a row, branch after branch

pub take_min : {X : Type 0} (n : ℕ) (xs : List X) → take (min n (length xs)) xs ≡ take n xs
take_min zero xs = let e : min 0 (length xs) ≡ 0 = omega arith in rw e refl
take_min (suc n) [] = let e : min (suc n) 0 ≡ 0 = omega arith in rw e refl
take_min (suc n) (x ∷ xs) = let e : min (suc n) (suc (length xs)) ≡ suc (min n (length xs)) = omega arith in rw e (ap (λ (ys : List _). x ∷ ys) (take_min n xs))

pub drop_min : {X : Type 0} (n : ℕ) (xs : List X) → drop (min n (length xs)) xs ≡ drop n xs
drop_min zero xs = let e : min 0 (length xs) ≡ 0 = omega arith in rw e refl
drop_min (suc n) [] = let e : min (suc n) 0 ≡ 0 = omega arith in rw e refl
drop_min (suc n) (x ∷ xs) = let e : min (suc n) (suc (length xs)) ≡ suc (min n (length xs)) = omega arith in rw e (drop_min n xs)

module _ (classes : List ClassDef) (bs : List Branch) (k : ℕ) (b : Branch) (lt : k < length bs) (e : b ≡ get_or bs k b) (rest : List Value) (now : Counters) where
  abbrev own : List Column
  own = shape_columns b.def.shape

  abbrev others : Bool
  others = columns_fit classes (columns_of (stated_defs (drop (k + 1) bs))) (drop (length own) rest) (leaf_numbers_after own (take (length own) rest) now)

  branch_on : columns_fit classes (columns_of (stated_defs (drop k bs))) rest now ≡ (columns_fit classes own (take (length own) rest) now && others)
  branch_on =
      ap (λ (l : List Branch). columns_fit classes (columns_of (stated_defs l)) rest now) (left_begins bs k b lt e)
      ∙ split_fits classes own (columns_of (stated_defs (drop (k + 1) bs))) rest now
      ∙ ap (λ (after : Counters). columns_fit classes own (take (length own) rest) now && columns_fit classes (columns_of (stated_defs (drop (k + 1) bs))) (drop (length own) rest) after) (sym (front_numbers own rest now))

  pub branch_fails : (total : Bool) → columns_fit classes own (take (length own) rest) now ≡ false → columns_fit classes (columns_of (stated_defs (drop k bs))) rest now ≡ total → total ≡ false
  branch_fails total none so_far = sym so_far ∙ branch_on ∙ ap (λ (f : Bool). f && others) none

  pub branch_fits : (total : Bool) → columns_fit classes own (take (length own) rest) now ≡ true → columns_fit classes (columns_of (stated_defs (drop k bs))) rest now ≡ total → others ≡ total
  branch_fits total fit so_far = ap (λ (f : Bool). f && others) (sym fit) ∙ sym branch_on ∙ so_far

pub branches_done : (classes : List ClassDef) (bs : List Branch) (k : ℕ) (rest : List Value) (now : Counters) (total : Bool) → length bs ≤ k → columns_fit classes (columns_of (stated_defs (drop k bs))) rest now ≡ total → columns_fit classes [] rest now ≡ total
branches_done classes bs k rest now total le so_far = ap (λ (l : List Branch). columns_fit classes (columns_of (stated_defs l)) rest now) (sym (drop_all k bs le)) ∙ so_far
