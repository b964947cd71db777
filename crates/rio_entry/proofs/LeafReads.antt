-- Reading the values of leaves one after the other, as a loop does.
use Rattle.std.proofs.Common.{◌≡◌, ℕ, ◌+◌, ◌<◌, ◌≤◌, List, [], ◌∷◌, ◌++◌, length, map, take, drop, slice_index_or, Ok, Err, refl, sym, ap, ◌∙◌, arith}
use Rattle.std.proofs.lemmas.List.{append-nil, drop_all, length-take}
use Rattle.rio_leaf.specs.declared.leaf.Leaf.{Leaf}
use Rattle.rio_num.specs.Meanings.{read}
use Rattle.rio_format.specs.{Frames.{Step}, ReaderState.{ReaderState}, declared.fault.ObjFault.{ObjFault}, Bodies.{Counters}, Objects.{Objects, depth_limit, kind_value, object_of}}
use Rattle.rio_machine.specs.Rows.{leaf_column}
use Rattle.rio_format.specs.{declared.class.ClassDef.{ClassDef}, declared.kind.Kind.{Kind, TheVariants.{Plain, Fixed, Text as Texted, Other}}, declared.value.Value.{Value}}
use Rattle.rio_read.specs.Lists.{with_front}
use Rattle.rio_read.proofs.Each.{with_front-more}
use Rattle.rio_entry.specs.Leaves.{entry_kind, kind_layout, numbers_after, numbers_with}
use Rattle.rio_machine.specs.Entries.{counter_saying, given_count, said_count}
use Rattle.rio_machine.specs.Entries.{columns_values}
use Rattle.rio_entry.proofs.{Counting.{left_begins, numbers_more}, LeafBytes.{drop_next}, LeafKinds.{IsLeafy, kind_leafy}}

-- what stands there for a leaf is read alike whatever the objects are
pub layout_is : (object : Objects) (kind : Kind) (s : ReaderState) → IsLeafy kind → read (kind_value object [] kind) s ≡ read (kind_layout kind) s
unfolding kind_value
layout_is object (Plain of) s leafy = refl
layout_is object (Fixed of count) s leafy = refl
layout_is object Texted s leafy = refl
layout_is object (Other code) s leafy = refl
layout_is object other s leafy = absurd leafy

-- so is the next leaf, behind the numbers of the earlier ones
pub leaf_alone : (classes : List ClassDef) (counts : List Value) (k : ℕ) (own : Counters) (s : ReaderState) (l : Leaf)
    → read (kind_value (object_of depth_limit classes) [] (entry_kind l (drop k counts) own)) s ≡ read (kind_layout (entry_kind l (drop k counts) own)) s
leaf_alone classes counts k own s l =
    layout_is (object_of depth_limit classes) (entry_kind l (drop k counts) own) s (kind_leafy (counter_saying l.dim (said_count l.dim (given_count (drop k counts)) own)) l)

module _ (classes : List ClassDef) (ls : List Leaf) (counts values : List Value) (k : ℕ) (s : ReaderState) (total : Step (List Value)) where
  abbrev pub own : Counters
  own = numbers_after (take k ls) values []

  abbrev pub reads_from : ℕ → List Value → Counters → ReaderState → Step (List Value)
  reads_from j front ns u = with_front front (read (columns_values classes (map leaf_column (drop j ls)) (drop j counts) ns) u)

  module _ (l : Leaf) (lt : k < length ls) (e : l ≡ slice_index_or ls k l) where
    pub leaves_go_on : (v : Value) (s1 : ReaderState) → length values ≡ k → read (kind_layout (entry_kind l (drop k counts) own)) s ≡ Ok (v, s1) → reads_from k values own s ≡ total
        → reads_from (k + 1) (values ++ v ∷ []) (numbers_after (take (k + 1) ls) (values ++ v ∷ []) []) s1 ≡ total
    unfolding columns_values
    leaves_go_on v s1 len h so_far =
        let first : read (kind_value (object_of depth_limit classes) [] (entry_kind l (drop k counts) own)) s ≡ Ok (v, s1) = leaf_alone classes counts k own s l ∙ h in
        let same : length (take k ls) ≡ length values = omega (arith, length-take k ls, lt, len) in
        let numbers = numbers_more ls values k l v lt e same in
        let rest = read (columns_values classes (map leaf_column (drop (k + 1) ls)) (drop 1 (drop k counts)) (numbers_with l v own)) s1 in
        let split : reads_from k values own s ≡ with_front (values ++ v ∷ []) rest = rw (left_begins ls k l lt e, first) (with_front-more values v rest) in
        ap (λ (ns : Counters). reads_from (k + 1) (values ++ v ∷ []) ns s1) numbers
        ∙ ap (λ (cs : List Value). with_front (values ++ v ∷ []) (read (columns_values classes (map leaf_column (drop (k + 1) ls)) cs (numbers_with l v own)) s1)) (sym (drop_next counts k))
        ∙ sym split
        ∙ so_far

    pub leaves_fail : (d : ObjFault) → read (kind_layout (entry_kind l (drop k counts) own)) s ≡ Err d → reads_from k values own s ≡ total → total ≡ Err d
    unfolding columns_values
    leaves_fail d h so_far =
        let first : read (kind_value (object_of depth_limit classes) [] (entry_kind l (drop k counts) own)) s ≡ Err d = leaf_alone classes counts k own s l ∙ h in
        let split : reads_from k values own s ≡ Err d = rw (left_begins ls k l lt e, first) refl in
        sym so_far ∙ split

  pub leaves_done : length ls ≤ k → reads_from k values own s ≡ total → total ≡ Ok (values, s)
  unfolding columns_values
  leaves_done le so_far =
      let none : drop k ls ≡ [] = drop_all k ls le in
      let one : reads_from k values own s ≡ Ok (values, s) = rw none (ap (λ (vs : List Value). let r : Step (List Value) = Ok (vs, s) in r) (append-nil values)) in
      sym so_far ∙ one
