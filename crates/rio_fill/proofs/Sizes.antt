-- Entries that don't vary in length are as long as their leaves say.
use Rattle.std.proofs.Common.{◌≡◌, ◌==◌, ℕ, ◌+◌, ◌*◌, List, [], ◌∷◌, length, map, Bool, true, false, cond, Option, Some, None, refl, sym, ap, ◌∙◌, arith}
use Rattle.std.proofs.{lemmas.Bool.{and_parts, eq-eqb, eqb-true, or_parts, or_left, or_right}, lemmas.List.{length-append, Sums.{sum_by-cons}}, lemmas.Slice.Eq.{bytes_eq-Decides}}
use Rattle.std.specs.{List.{flat_map, list_all, list_any, sum_by}, Prelude.{codes, get_or}, Str.{bytes_eq}}
use Rattle.byteorder.specs.{Numbers.{length-bytes_high_first}}
use Rattle.rio_leaf.specs.{declared.branch.Shape.{Shape, TheVariants.{Leaves, Class}}, declared.leaf.Dim.{Dim, TheVariants.{One, Fixed as Several, Counted}}}
use Rattle.rio_leaf.specs.{Leaves.{is_counted_dim}, Marks.{letter_of_texts}, declared.leaf.Leaf.{Leaf}}
use Rattle.rio_format.specs.{ReaderState.{no_words}, Bodies.{Counters}, Prims.{width_of}, Slots.{kinded}, Written.{writing_of}}
use Rattle.rio_machine.specs.Rows.{leaf_column, column_slot, columns_bytes, columns_fit, kind_of_nothing, leaf_kind, leaf_numbers_behind, letter_kind, shape_columns, sized_kind, stands_in}
use Rattle.rio_format.specs.{declared.class.ClassDef.{ClassDef}, declared.kind.Kind.{Kind, TheVariants.{Fixed, Text as Texted}}, declared.kind.Primitive.{Primitive, TheVariants.{Bool as Boolean, F32, F64}}}
use Rattle.rio_format.specs.{declared.value.Part.{Part}, declared.value.Value.{Value, out-Value, TheOpen.{Value-F}}}
use Rattle.rio_format.specs.declared.value.Value.TheOpen as layer
use Rattle.rio_tree.specs.Header.{has_offsets, varies_in_length}
use Rattle.rio_entry.specs.Leaves.{kind_fits, layer_bytes, layer_fits, layer_fits_kind, layer_value_bytes, single_bytes, single_fits, value_bytes, without_number}
use Rattle.rio_entry.proofs.{LeafKinds.{kind_leafy, kind_none, kind_some}, Singles.{leaf_written, stands_is}}
use Rattle.rio_fill.specs.Prepare.{entry_size, is_sized, leaf_size, single_width, value_count}

-- ---- single values

four : (of : Primitive) (n : ℕ) → layer_fits of (layer.Bits32 n) ≡ true → 4 ≡ width_of of
four F32 n fit = refl
four other n fit = absurd cc

eight : (of : Primitive) (n : ℕ) → layer_fits of (layer.Bits64 n) ≡ true → 8 ≡ width_of of
eight F64 n fit = refl
eight other n fit = absurd cc

one : (of : Primitive) (b : Bool) → layer_fits of (layer.Bool b) ≡ true → 1 ≡ width_of of
one Boolean b fit = refl
one other b fit = absurd cc

layer_sized : (of : Primitive) (x : Value-F Value Part) → layer_fits of x ≡ true → length (layer_bytes of x) ≡ width_of of
layer_sized of (layer.Int z) fit = length-bytes_high_first (width_of of) _
layer_sized of (layer.Bits32 n) fit = length-bytes_high_first 4 n ∙ four of n fit
layer_sized of (layer.Bits64 n) fit = length-bytes_high_first 8 n ∙ eight of n fit
layer_sized of (layer.Bool b) fit = one of b fit
layer_sized of other fit = absurd cc

all_sized : (of : Primitive) (vs : List Value) → list_all (single_fits of) vs ≡ true → length (flat_map (single_bytes of) vs) ≡ length vs * width_of of
all_sized of [] fit = omega arith
all_sized of (v ∷ vs) fit =
    let parts = and_parts (single_fits of v) (list_all (single_fits of) vs) fit in
    let len = length-append (single_bytes of v) (flat_map (single_bytes of) vs) in
    let own = layer_sized of (out-Value v) parts.0 in
    let more = all_sized of vs parts.1 in
    grind (arith, len, own, more)

-- ---- the value of a leaf

plain_sized : (of : Primitive) (x : Value-F Value Part) → layer_fits of x ≡ true → length (layer_value_bytes (Some of) x) ≡ width_of of
plain_sized of (layer.Int z) fit = layer_sized of (layer.Int z) fit
plain_sized of (layer.Bits32 n) fit = layer_sized of (layer.Bits32 n) fit
plain_sized of (layer.Bits64 n) fit = layer_sized of (layer.Bits64 n) fit
plain_sized of (layer.Bool b) fit = layer_sized of (layer.Bool b) fit
plain_sized of other fit = absurd cc

fixed_sized : (of : Primitive) (count : ℕ) (x : Value-F Value Part) → layer_fits_kind (Fixed of count) x ≡ true → length (layer_value_bytes (Some of) x) ≡ count * width_of of
fixed_sized of count (layer.List vs) fit =
    let parts = and_parts (length vs == count) (list_all (single_fits of) vs) fit in
    all_sized of vs parts.1 ∙ ap (λ (n : ℕ). n * width_of of) (eqb-true (length vs) count parts.0)
fixed_sized of count other fit = absurd cc

dim_sized : (counters : Counters) (of : Primitive) (dim : Dim) (x : Value-F Value Part) → is_counted_dim dim ≡ false → layer_fits_kind (sized_kind counters of dim) x ≡ true → length (layer_value_bytes (Some of) x) ≡ value_count dim * width_of of
dim_sized counters of One x steady fit = plain_sized of x fit ∙ omega arith
dim_sized counters of (Several n) x steady fit = fixed_sized of n x fit
dim_sized counters of (Counted counter times) x steady fit = absurd cc

no_text : (leaf : Leaf) (v : Value) → (leaf.letter == letter_of_texts) ≡ false → kind_fits (without_number leaf.letter) v ≡ true → ⊥
no_text leaf v steady fit = by (bytes_eq (leaf.letter ∷ []) (codes "C")) refl fit
  where
    by : (b : Bool) → bytes_eq (leaf.letter ∷ []) (codes "C") ≡ b → layer_fits_kind (cond b Texted kind_of_nothing) (out-Value v) ≡ true → ⊥
    by true e fit =
        let same : leaf.letter ∷ [] ≡ codes "C" = (bytes_eq-Decides (leaf.letter ∷ []) (codes "C")).0 e in
        let letter : leaf.letter ≡ letter_of_texts = ap (λ (l : List ℕ). get_or l 0 0) same in
        let yes = eq-eqb leaf.letter letter_of_texts letter in
        absurd cc
    by false e fit = absurd cc

leaf_sized : (counters : Counters) (leaf : Leaf) (v : Value) → varies_in_length leaf ≡ false → kind_fits (leaf_kind counters leaf) v ≡ true → length (value_bytes (letter_kind leaf.letter) v) ≡ leaf_size leaf
leaf_sized counters leaf v steady fit = by (letter_kind leaf.letter) refl
  where
    by : (o : Option Primitive) → letter_kind leaf.letter ≡ o → length (value_bytes (letter_kind leaf.letter) v) ≡ leaf_size leaf
    by (Some of) e =
        let parts = or_parts (leaf.letter == letter_of_texts) (is_counted_dim leaf.dim) steady in
        let sized = dim_sized counters of leaf.dim (out-Value v) parts.1 (ap (λ (k : Kind). kind_fits k v) (sym (kind_some counters leaf of e)) ∙ fit) in
        ap (λ (o : Option Primitive). length (value_bytes o v)) e ∙ sized ∙ ap (λ (o : Option Primitive). value_count leaf.dim * single_width o) (sym e)
    by None e =
        let parts = or_parts (leaf.letter == letter_of_texts) (is_counted_dim leaf.dim) steady in
        absurd (no_text leaf v parts.0 (ap (λ (k : Kind). kind_fits k v) (sym (kind_none counters leaf e)) ∙ fit))

-- ---- an entry

module _ (classes : List ClassDef) where
  leaves_sized : (ls : List Leaf) (row : List Value) (before : Counters) → list_any varies_in_length ls ≡ false → columns_fit classes (map leaf_column ls) row before ≡ true → length (columns_bytes classes (map leaf_column ls) row before) ≡ sum_by leaf_size ls
  leaves_sized [] [] before steady fit = refl
  leaves_sized [] (v ∷ vs) before steady fit = absurd cc
  leaves_sized (l ∷ ls) [] before steady fit = absurd cc
  leaves_sized (l ∷ ls) (v ∷ vs) before steady fit =
      let both = or_parts (varies_in_length l) (list_any varies_in_length ls) steady in
      let parts = and_parts (stands_in classes (column_slot before (leaf_column l)) v) (columns_fit classes (map leaf_column ls) vs (leaf_numbers_behind (leaf_column l) v before)) fit in
      let fits : kind_fits (leaf_kind before l) v ≡ true = sym (stands_is classes (leaf_kind before l) v (kind_leafy before l)) ∙ parts.0 in
      let own = leaf_sized before l v both.0 fits in
      let bytes : ((writing_of classes v).bytes (kinded (leaf_kind before l)) 0 no_words).0 ≡ value_bytes (letter_kind l.letter) v = ap (λ b. b.0) (leaf_written classes before l v 0 no_words fits) in
      let more = leaves_sized ls vs (leaf_numbers_behind (leaf_column l) v before) both.1 parts.1 in
      let len = length-append ((writing_of classes v).bytes (kinded (leaf_kind before l)) 0 no_words).0 (columns_bytes classes (map leaf_column ls) vs (leaf_numbers_behind (leaf_column l) v before)) in
      len
      ∙ ap (λ (n : ℕ). n + length (columns_bytes classes (map leaf_column ls) vs (leaf_numbers_behind (leaf_column l) v before))) (ap length bytes ∙ own)
      ∙ ap (λ (n : ℕ). leaf_size l + n) more
      ∙ sym (sum_by-cons leaf_size l ls)

  pub part_sized : (shape : Shape) (row : List Value) (before : Counters) → columns_fit classes (shape_columns shape) row before ≡ true → is_sized shape (columns_bytes classes (shape_columns shape) row before) ≡ true
  part_sized (Leaves ls) row before fit = by (list_any varies_in_length ls) refl
    where
      by : (b : Bool) → list_any varies_in_length ls ≡ b → is_sized (Leaves ls) (columns_bytes classes (map leaf_column ls) row before) ≡ true
      by true e = or_left (has_offsets (Leaves ls)) _ e
      by false e = or_right (has_offsets (Leaves ls)) _ (eq-eqb _ _ (leaves_sized ls row before e fit))
  part_sized (Class class) row before fit = or_left (has_offsets (Class class)) (length (columns_bytes classes (shape_columns (Class class)) row before) == entry_size (Class class)) refl
