-- What the values of leaves say is kept, one number after the other, as a loop does.
use Rattle.std.proofs.Common.{◌≡◌, ℕ, ◌+◌, ◌<◌, ◌≤◌, List, [], ◌∷◌, ◌++◌, length, map, take, drop, slice_index_or, Ok, Err, refl, sym, ap, ◌∙◌, arith}
use Rattle.std.proofs.lemmas.List.{append-nil, drop_all, length-take}
use Rattle.std.specs.Prelude.{ℤ}
use Rattle.rio_leaf.specs.declared.leaf.Leaf.{Leaf}
use Rattle.rio_num.specs.{Meanings.{read}, Reading.{◌>>=◌}}
use Rattle.rio_format.specs.{Frames.{Step}, ReaderState.{ReaderState}, declared.fault.ObjFault.{ObjFault}, Bodies.{Counters}, Objects.{depth_limit, kind_value, object_of}}
use Rattle.rio_machine.specs.Rows.{leaf_column}
use Rattle.rio_read.specs.Lists.{with_front}
use Rattle.rio_read.proofs.{Each.{with_front-more}, Steps.{step_as, step_as-err, step_as-ok, step_as-twice, unkept}}
use Rattle.rio_format.specs.{declared.class.ClassDef.{ClassDef}, declared.kind.Kind.{Kind}, Accessors.{number_in}, declared.value.Value.{Value, Int, out-Value, out-roll-Value, TheVariants.{rolls-Int}}}
use Rattle.rio_format.specs.declared.value.Value.TheOpen as layer
use Rattle.rio_entry.specs.Leaves.{entry_kind, kind_layout, number_alone, numbers_after, numbers_with, said_by, number_of_value, numbers_of_values}
use Rattle.rio_machine.specs.Entries.{columns_values}
use Rattle.rio_entry.proofs.{Counting.{left_begins, numbers_more}, LeafBytes.{drop_next}, LeafReads.{leaf_alone}}

-- an integer says itself
pub integer_says : (n : ℤ) → said_by (Int n) ≡ n
integer_says n = ap number_in (ap out-Value (sym (rolls-Int n)) ∙ out-roll-Value (layer.Int n))

-- ---- of what was read the numbers

abbrev only_numbers : Step (List Value) → Step (List Value)
only_numbers r = step_as (map number_alone) r

numbers_front : (front : List Value) (v : Value) (r : Step (List Value)) → with_front front (only_numbers (r >>= λ x. Ok (v ∷ x.0, x.1))) ≡ with_front (front ++ number_alone v ∷ []) (only_numbers r)
numbers_front front v r =
    let apart = step_as-twice (λ (vs : List Value). v ∷ vs) (map number_alone) r in
    let behind = step_as-twice (map number_alone) (λ (vs : List Value). number_alone v ∷ vs) r in
    ap (with_front front) (apart ∙ sym behind) ∙ with_front-more front (number_alone v) (only_numbers r)

-- what broke behind numbers breaks behind nothing
pub numbers_broke : (r : Step (List Value)) (d : ObjFault) → only_numbers r ≡ Err d → unkept r ≡ Err d
numbers_broke r d e = ap unkept (step_as-err (map number_alone) r d e)

-- ---- a loop

module _ (classes : List ClassDef) (ls : List Leaf) (counts kept : List Value) (k : ℕ) (s : ReaderState) (total : Step (List Value)) where
  abbrev pub own : Counters
  own = numbers_after (take k ls) kept []

  abbrev pub numbers_from : ℕ → List Value → Counters → ReaderState → Step (List Value)
  numbers_from j front ns u = with_front front (read (numbers_of_values (columns_values classes (map leaf_column (drop j ls)) (drop j counts) ns)) u)

  module _ (l : Leaf) (lt : k < length ls) (e : l ≡ slice_index_or ls k l) where
    abbrev kind : Kind
    kind = entry_kind l (drop k counts) own

    pub numbers_go_on : (n : ℤ) (s1 : ReaderState) → length kept ≡ k → read (number_of_value (kind_layout kind)) s ≡ Ok (n, s1) → numbers_from k kept own s ≡ total
        → numbers_from (k + 1) (kept ++ Int n ∷ []) (numbers_after (take (k + 1) ls) (kept ++ Int n ∷ []) []) s1 ≡ total
    unfolding columns_values
    numbers_go_on n s1 len h so_far =
        let there = step_as-ok said_by (read (kind_layout kind) s) n s1 h in
        let v = there.0 in
        let first : read (kind_value (object_of depth_limit classes) [] kind) s ≡ Ok (v, s1) = leaf_alone classes counts k own s l ∙ there.1 in
        let same : length (take k ls) ≡ length kept = omega (arith, length-take k ls, lt, len) in
        let numbers = numbers_more ls kept k l (Int n) lt e same in
        let rest = read (columns_values classes (map leaf_column (drop (k + 1) ls)) (drop 1 (drop k counts)) (numbers_with l v own)) s1 in
        let split : numbers_from k kept own s ≡ with_front (kept ++ number_alone v ∷ []) (only_numbers rest) = rw (left_begins ls k l lt e, first) (numbers_front kept v rest) in
        ap (λ (ns : Counters). numbers_from (k + 1) (kept ++ Int n ∷ []) ns s1) numbers
        ∙ ap (λ (m : ℤ). numbers_from (k + 1) (kept ++ Int n ∷ []) ((l.name, m) ∷ own) s1) (integer_says n)
        ∙ ap (λ (m : ℤ). numbers_from (k + 1) (kept ++ Int m ∷ []) ((l.name, m) ∷ own) s1) (sym there.2)
        ∙ ap (λ (cs : List Value). with_front (kept ++ number_alone v ∷ []) (read (numbers_of_values (columns_values classes (map leaf_column (drop (k + 1) ls)) cs (numbers_with l v own))) s1)) (sym (drop_next counts k))
        ∙ sym split
        ∙ so_far

    pub numbers_fail : (d : ObjFault) → read (number_of_value (kind_layout kind)) s ≡ Err d → numbers_from k kept own s ≡ total → total ≡ Err d
    unfolding columns_values
    numbers_fail d h so_far =
        let there = step_as-err said_by (read (kind_layout kind) s) d h in
        let first : read (kind_value (object_of depth_limit classes) [] kind) s ≡ Err d = leaf_alone classes counts k own s l ∙ there in
        let split : numbers_from k kept own s ≡ Err d = rw (left_begins ls k l lt e, first) refl in
        sym so_far ∙ split

  pub numbers_done : length ls ≤ k → numbers_from k kept own s ≡ total → total ≡ Ok (kept, s)
  unfolding columns_values
  numbers_done le so_far =
      let none : drop k ls ≡ [] = drop_all k ls le in
      let one : numbers_from k kept own s ≡ Ok (kept, s) = rw none (ap (λ (vs : List Value). let r : Step (List Value) = Ok (vs, s) in r) (append-nil kept)) in
      sym so_far ∙ one
