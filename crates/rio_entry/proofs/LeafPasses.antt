-- Passing over the values of leaves one after the other, as a loop does.
use Rattle.std.proofs.Common.{◌≡◌, ℕ, ◌+◌, ◌<◌, ◌≤◌, Bool, true, false, ◌||◌, List, [], ◌∷◌, length, map, min, drop, slice_index_or, Ok, Err, refl, sym, ap, ◌∙◌}
use Rattle.std.proofs.lemmas.List.{drop_all}
use Rattle.std.specs.Prelude.{ℤ}
use Rattle.rio_leaf.specs.{Leaves.{is_counted_dim}, declared.leaf.Dim.{Dim, TheVariants.{One, Fixed, Counted}}, declared.leaf.Leaf.{Leaf}}
use Rattle.rio_num.specs.{Layout.{times}, Meanings.{read}}
use Rattle.rio_format.specs.{Frames.{Step}, ReaderState.{ReaderState}, declared.fault.ObjFault.{ObjFault}, Bodies.{Counters}, Objects.{depth_limit, kind_value, number_value, numbers, object_of}, Accessors.{number_in}}
use Rattle.rio_format.specs.declared.value.Value.{Value, List as Items, Null, out-Value, out-roll-Value, TheVariants.{rolls-List, rolls-Null}}
use Rattle.rio_machine.specs.Rows.{leaf_column}
use Rattle.rio_read.specs.Passing.{pass_of}
use Rattle.rio_read.proofs.Steps.{step_as-err, step_as-ok, step_as-twice, unkept}
use Rattle.rio_format.specs.{declared.class.ClassDef.{ClassDef}, declared.kind.Kind.{Kind}, declared.kind.Primitive.{Primitive}}
use Rattle.rio_format.specs.declared.value.Value.TheOpen as layer
use Rattle.rio_entry.specs.Bounds.{most_values}
use Rattle.rio_machine.specs.Entries.{counter_saying}
use Rattle.rio_entry.specs.Leaves.{entry_kind, is_any_counted, kind_layout, said_by, number_of_value}
use Rattle.rio_machine.specs.Entries.{columns_values}
use Rattle.rio_entry.proofs.{Counting.{left_begins}, LeafBytes.{drop_next}, LeafReads.{leaf_alone}, Totals.{list_fails, list_is_read}}

-- ---- leaves that aren't counted

pub same_counter : (dim : Dim) (n m : ℤ) → is_counted_dim dim ≡ false → counter_saying dim n ≡ counter_saying dim m
same_counter One n m e = refl
same_counter (Fixed count) n m e = refl
same_counter (Counted counter times) n m e = absurd cc

pub none_counted : (ls : List Leaf) (k : ℕ) (l : Leaf) → k < length ls → l ≡ slice_index_or ls k l → is_any_counted (drop k ls) ≡ false → (is_counted_dim l.dim ≡ false) × (is_any_counted (drop (k + 1) ls) ≡ false)
none_counted ls k l lt e none = both (is_counted_dim l.dim) (is_any_counted (drop (k + 1) ls)) (ap is_any_counted (sym split) ∙ none)
  where
    split : drop k ls ≡ l ∷ drop (k + 1) ls
    split = left_begins ls k l lt e

    both : (a b : Bool) → (a || b) ≡ false → (a ≡ false) × (b ≡ false)
    both true b f = absurd cc
    both false b f = (refl, f)

-- ---- a loop

module _ (classes : List ClassDef) (ls : List Leaf) (counts : List Value) (k : ℕ) (own : Counters) (s : ReaderState) (total : Step (Unit {0})) where
  abbrev pub passes_from : ℕ → Counters → ReaderState → Step (Unit {0})
  passes_from j ns u = read (pass_of (columns_values classes (map leaf_column (drop j ls)) (drop j counts) ns)) u

  module _ (l : Leaf) (lt : k < length ls) (e : l ≡ slice_index_or ls k l) where
    abbrev kind : Kind
    kind = entry_kind l (drop k counts) own

    pub passes_on : (n : ℤ) (s1 : ReaderState) → read (number_of_value (kind_layout kind)) s ≡ Ok (n, s1) → passes_from k own s ≡ total → passes_from (k + 1) ((l.name, n) ∷ own) s1 ≡ total
    unfolding columns_values
    passes_on n s1 h so_far =
        let there = step_as-ok said_by (read (kind_layout kind) s) n s1 h in
        let v = there.0 in
        let first : read (kind_value (object_of depth_limit classes) [] kind) s ≡ Ok (v, s1) = leaf_alone classes counts k own s l ∙ there.1 in
        let rest = read (columns_values classes (map leaf_column (drop (k + 1) ls)) (drop 1 (drop k counts)) ((l.name, said_by v) ∷ own)) s1 in
        let split : passes_from k own s ≡ unkept rest = rw (left_begins ls k l lt e, first) (step_as-twice (λ (vs : List Value). v ∷ vs) (λ vs. tt) rest) in
        ap (λ (m : ℤ). passes_from (k + 1) ((l.name, m) ∷ own) s1) (sym there.2)
        ∙ ap (λ (cs : List Value). read (pass_of (columns_values classes (map leaf_column (drop (k + 1) ls)) cs ((l.name, said_by v) ∷ own))) s1) (sym (drop_next counts k))
        ∙ sym split
        ∙ so_far

    pub passes_fail : (d : ObjFault) → read (number_of_value (kind_layout kind)) s ≡ Err d → passes_from k own s ≡ total → total ≡ Err d
    unfolding columns_values
    passes_fail d h so_far =
        let there = step_as-err said_by (read (kind_layout kind) s) d h in
        let first : read (kind_value (object_of depth_limit classes) [] kind) s ≡ Err d = leaf_alone classes counts k own s l ∙ there in
        let split : passes_from k own s ≡ Err d = rw (left_begins ls k l lt e, first) refl in
        sym so_far ∙ split

  pub passes_done : length ls ≤ k → passes_from k own s ≡ total → total ≡ Ok (tt, s)
  unfolding columns_values
  passes_done le so_far =
      let none : drop k ls ≡ [] = drop_all k ls le in
      let one : passes_from k own s ≡ Ok (tt, s) = rw none refl in
      sym so_far ∙ one

-- ---- lists

-- a list says what nothing says
list_says : (vs : List Value) → said_by (Items vs) ≡ said_by Null
list_says vs = ap number_in (ap out-Value (sym (rolls-List vs)) ∙ out-roll-Value (layer.List vs)) ∙ sym (ap number_in (ap out-Value (sym rolls-Null) ∙ out-roll-Value layer.Null))

module _ (of : Primitive) (count n m : ℕ) (s : ReaderState) (e : n ≡ min count most_values) (f : m ≡ min n (length s.at.rest + 1)) (few : length s.at.rest < most_values) where
  pub list_is_passed : (s1 : ReaderState) → read (pass_of (times m (number_value of))) s ≡ Ok (tt, s1) → read (number_of_value (numbers of count)) s ≡ Ok (said_by Null, s1)
  list_is_passed s1 h =
      let there = step_as-ok (λ vs. tt) (read (times m (number_value of)) s) tt s1 h in
      rw (list_is_read of count n m s e f few there.0 s1 there.1) (ap (λ (n : ℤ). let r : Step ℤ = Ok (n, s1) in r) (list_says there.0))

  pub list_breaks : (d : ObjFault) → read (pass_of (times m (number_value of))) s ≡ Err d → read (number_of_value (numbers of count)) s ≡ Err d
  list_breaks d h = rw (list_fails of count n m s e f few d (step_as-err (λ vs. tt) (read (times m (number_value of)) s) d h)) refl
