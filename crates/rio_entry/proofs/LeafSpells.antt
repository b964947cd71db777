-- What is written for the values of leaves that fit spells them.
use Rattle.std.proofs.Common.{◌≡◌, ◌==◌, inl, inr, ℕ, ◌+◌, ◌*◌, ◌^◌, ◌<◌, ℤ, Bool, true, false, cond, ltb, Option, Some, None, List, [], ◌∷◌, ◌++◌, length, map, drop, refl, sym, ap, subst, ◌∙◌, arith}
use Rattle.std.proofs.{lemmas.Bool.{and_parts, eqb-true, ltb-true}, lemmas.List.{append-nil, length-append}}
use Rattle.std.specs.{Prelude.{codes, negsuc, pos}, List.{flat_map, list_all}, Map.{lookup}, Str.{bytes_eq}}
use Rattle.byteorder.specs.Endian.{big_bytes}
use Rattle.rio_num.specs.{Layout.{each, text, times}, Text.{SpellsText, long_form, short_form, text_bytes}}
use Rattle.rio_num.proofs.Intro.{IsSo, both_are, done_is, ends_with, number_then, so_by}
use Rattle.rio_leaf.specs.{declared.leaf.Dim.{Dim, TheVariants.{One, Fixed as Several, Counted}}, declared.leaf.Leaf.{Leaf}}
use Rattle.rio_format.specs.{ReaderState.{WordsMet}, declared.fault.ObjFault.TheVariants.{Short}, Bodies.{Counters}, Objects.{Objects, depth_limit, kind_value, number_value, numbers, object_of, text_value}}
use Rattle.rio_format.specs.{Prims.{value_of_prim, width_of}, declared.class.ClassDef.{ClassDef}, declared.kind.Kind.{Kind, TheVariants.{Plain, Fixed, Text as Texted}}}
use Rattle.rio_format.proofs.{Composed.{IsNumber}, ValueCases.{Each, Steps, by_cases}, WrittenNumbers.{bits32_number, bits64_number, int_number, truth_number}}
use Rattle.rio_machine.specs.Rows.{counted_leaf_kind, kind_of_nothing, leaf_column, leaf_kind, letter_kind, sized_kind}
use Rattle.rio_format.specs.{declared.kind.Primitive.{Primitive, TheVariants.{Bool as Boolean, F32, F64}}, declared.value.Part.{Part}}
use Rattle.rio_format.specs.declared.value.Value.{Value, Int, Bits32, Bits64, Bool as Truth, Text, List as Items, Object, Pointed, Null, Back, Opaque, out-Value, out-roll-Value, TheOpen.{Value-F}, TheVariants.{rolls-Int, rolls-Bits32, rolls-Bits64, rolls-Bool, rolls-Text, rolls-List, rolls-Object, rolls-Pointed, rolls-Null, rolls-Back, rolls-Opaque}}
use Rattle.rio_format.specs.declared.value.Value.TheOpen as layer
use Rattle.rio_machine.specs.Entries.{counter_saying, given_count, said_count}
use Rattle.rio_entry.specs.Leaves.{entry_kind, kind_fits, layer_bytes, layer_fits_kind, layer_value_bytes, leaves_bytes, leaves_fit, numbers_with, single_bytes, single_fits, value_bytes}
use Rattle.rio_machine.specs.Entries.{columns_values}
use Rattle.rio_entry.proofs.LeafKinds.{kind_none, kind_some}

-- ---- numbers and texts

number_is : (of : Primitive) (end p : ℕ) (t : WordsMet) (v : Value) (b : List ℕ) (t' : WordsMet) → IsNumber of t v b t' → IsSo (number_value of) end p t v b t'
unfolding number_value
number_is of end p t v b t' c =
    let all : IsSo (number_value of) end p t (value_of_prim of c.n) (big_bytes (width_of of) c.n ++ []) t = number_then c.n c.fits done_is in
    so_by all c.value (c.spelled ∙ sym (append-nil (big_bytes (width_of of) c.n))) c.words

text_by : (own : List ℕ) (b : Bool) → ltb (length own) 255 ≡ b → length (cond b (short_form own) (long_form own)) < 2 ^ 32 → SpellsText own (cond b (short_form own) (long_form own))
text_by own true e room = inl (ltb-true _ _ e, refl)
text_by own false e room = inr (omega (arith, room), refl)

text_is : (end p : ℕ) (t : WordsMet) (own : List ℕ) → length (text_bytes own) < 2 ^ 32 → IsSo text_value end p t (Text own) (text_bytes own) t
unfolding text_value
text_is end p t own room =
    let spelled : IsSo (text Short) end p t own (text_bytes own) t = record { so = (text_by own (ltb (length own) 255) refl room, refl) } in
    ends_with own t spelled done_is

-- ---- values by cases

-- the bytes of a value, by its kind
abbrev layer_kind_bytes : Kind → Value-F Value Part → List ℕ
layer_kind_bytes (Plain of) x = layer_bytes of x
layer_kind_bytes (Fixed of count) (layer.List vs) = flat_map (single_bytes of) vs
layer_kind_bytes Texted (layer.Text own) = text_bytes own
layer_kind_bytes other x = []

module _ (object : Objects) where
  abbrev IsLayerSpelled : Value → Value-F Value Part → Type 0
  IsLayerSpelled v x = (kind : Kind) (end p : ℕ) (t : WordsMet) → layer_fits_kind kind x ≡ true → length (layer_kind_bytes kind x) < 2 ^ 32 → IsSo (kind_value object [] kind) end p t v (layer_kind_bytes kind x) t

  abbrev IsSpelled : Value → Type 0
  IsSpelled v = IsLayerSpelled v (out-Value v)

  by_layer : (v : Value) (x : Value-F Value Part) → out-Value v ≡ x → IsLayerSpelled v x → IsSpelled v
  by_layer v x e h = subst (IsLayerSpelled v) (sym e) h

  int_in : (z : ℤ) → IsLayerSpelled (Int z) (layer.Int z)
  unfolding kind_value
  int_in z (Plain of) end p t fit room = number_is of end p t (Int z) _ t (int_number of z t fit)
  int_in z other end p t fit room = absurd cc

  bits32_in : (n : ℕ) → IsLayerSpelled (Bits32 n) (layer.Bits32 n)
  unfolding kind_value
  bits32_in n (Plain F32) end p t fit room = number_is F32 end p t (Bits32 n) _ t (bits32_number n t fit)
  bits32_in n other end p t fit room = absurd cc

  bits64_in : (n : ℕ) → IsLayerSpelled (Bits64 n) (layer.Bits64 n)
  unfolding kind_value
  bits64_in n (Plain F64) end p t fit room = number_is F64 end p t (Bits64 n) _ t (bits64_number n t fit)
  bits64_in n other end p t fit room = absurd cc

  truth_in : (b : Bool) → IsLayerSpelled (Truth b) (layer.Bool b)
  unfolding kind_value
  truth_in b (Plain Boolean) end p t fit room = number_is Boolean end p t (Truth b) _ t (truth_number b t)
  truth_in b other end p t fit room = absurd cc

  text_in : (own : List ℕ) → IsLayerSpelled (Text own) (layer.Text own)
  unfolding kind_value
  text_in own Texted end p t fit room = text_is end p t own room
  text_in own other end p t fit room = absurd cc

  times_in : (of : Primitive) (vs : List Value) → Each IsSpelled vs → (end p : ℕ) (t : WordsMet) → list_all (single_fits of) vs ≡ true → length (flat_map (single_bytes of) vs) < 2 ^ 32 → IsSo (times (length vs) (number_value of)) end p t vs (flat_map (single_bytes of) vs) t
  unfolding each kind_value
  times_in of [] known end p t fit room = done_is
  times_in of (v ∷ vs) known end p t fit room =
      let parts = and_parts (single_fits of v) (list_all (single_fits of) vs) fit in
      let len = length-append (single_bytes of v) (flat_map (single_bytes of) vs) in
      let first : IsSo (number_value of) end p t v (single_bytes of v) t = known.0 (Plain of) end p t parts.0 (omega (arith, room, len)) in
      let others = times_in of vs known.1 end (p + length (single_bytes of v)) t parts.1 (omega (arith, room, len)) in
      both_are v t first (ends_with vs t others done_is)

  list_in : (vs : List Value) → Each IsSpelled vs → IsLayerSpelled (Items vs) (layer.List vs)
  unfolding kind_value numbers
  list_in vs known (Fixed of count) end p t fit room =
      let parts = and_parts (length vs == count) (list_all (single_fits of) vs) fit in
      let own : IsSo (numbers of (length vs)) end p t (Items vs) (flat_map (single_bytes of) vs) t = ends_with vs t (times_in of vs known end p t parts.1 room) done_is in
      subst (λ (n : ℕ). IsSo (numbers of n) end p t (Items vs) (flat_map (single_bytes of) vs) t) (eqb-true _ _ parts.0) own
  list_in vs known other end p t fit room = absurd cc

  object_in : (class : List ℕ) (version : ℤ) (parts : List Part) → IsLayerSpelled (Object class version parts) (layer.Object class version parts)
  object_in class version parts kind end p t fit room = by kind fit
    where
      by : (kind : Kind) → layer_fits_kind kind (layer.Object class version parts) ≡ true → IsSo (kind_value object [] kind) end p t (Object class version parts) (layer_kind_bytes kind (layer.Object class version parts)) t
      by (Plain of) fit = absurd cc
      by other fit = absurd cc

  pointed_in : (label : ℕ) (inner : Value) → IsLayerSpelled (Pointed label inner) (layer.Pointed label inner)
  pointed_in label inner (Plain of) end p t fit room = absurd cc
  pointed_in label inner other end p t fit room = absurd cc

  null_in : IsLayerSpelled Null layer.Null
  null_in (Plain of) end p t fit room = absurd cc
  null_in other end p t fit room = absurd cc

  back_in : (label : ℕ) → IsLayerSpelled (Back label) (layer.Back label)
  back_in label (Plain of) end p t fit room = absurd cc
  back_in label other end p t fit room = absurd cc

  opaque_in : (class : List ℕ) (len : ℕ) → IsLayerSpelled (Opaque class len) (layer.Opaque class len)
  opaque_in class len (Plain of) end p t fit room = absurd cc
  opaque_in class len other end p t fit room = absurd cc

  steps : Steps IsSpelled
  steps = record {
    int = λ z. by_layer (Int z) (layer.Int z) (ap out-Value (sym (rolls-Int z)) ∙ out-roll-Value (layer.Int z)) (int_in z);
    bits32 = λ n. by_layer (Bits32 n) (layer.Bits32 n) (ap out-Value (sym (rolls-Bits32 n)) ∙ out-roll-Value (layer.Bits32 n)) (bits32_in n);
    bits64 = λ n. by_layer (Bits64 n) (layer.Bits64 n) (ap out-Value (sym (rolls-Bits64 n)) ∙ out-roll-Value (layer.Bits64 n)) (bits64_in n);
    truth = λ b. by_layer (Truth b) (layer.Bool b) (ap out-Value (sym (rolls-Bool b)) ∙ out-roll-Value (layer.Bool b)) (truth_in b);
    text = λ own. by_layer (Text own) (layer.Text own) (ap out-Value (sym (rolls-Text own)) ∙ out-roll-Value (layer.Text own)) (text_in own);
    list = λ vs known. by_layer (Items vs) (layer.List vs) (ap out-Value (sym (rolls-List vs)) ∙ out-roll-Value (layer.List vs)) (list_in vs known);
    object = λ class version parts known. by_layer (Object class version parts) (layer.Object class version parts) (ap out-Value (sym (rolls-Object class version parts)) ∙ out-roll-Value (layer.Object class version parts)) (object_in class version parts);
    pointed = λ label inner known. by_layer (Pointed label inner) (layer.Pointed label inner) (ap out-Value (sym (rolls-Pointed label inner)) ∙ out-roll-Value (layer.Pointed label inner)) (pointed_in label inner);
    null = by_layer Null layer.Null (ap out-Value (sym rolls-Null) ∙ out-roll-Value layer.Null) null_in;
    back = λ label. by_layer (Back label) (layer.Back label) (ap out-Value (sym (rolls-Back label)) ∙ out-roll-Value (layer.Back label)) (back_in label);
    opaque = λ class len. by_layer (Opaque class len) (layer.Opaque class len) (ap out-Value (sym (rolls-Opaque class len)) ∙ out-roll-Value (layer.Opaque class len)) (opaque_in class len);
  }

  pub kind_spelled : (v : Value) → IsSpelled v
  kind_spelled v = by_cases IsSpelled steps v

-- ---- leaves

-- the kind of a leaf's single values says which bytes a value that fits has
abbrev SameBytes : Option Primitive → Kind → Type 0
SameBytes of kind = (x : Value-F Value Part) → layer_fits_kind kind x ≡ true → layer_kind_bytes kind x ≡ layer_value_bytes of x

plain_same : (of : Primitive) → SameBytes (Some of) (Plain of)
plain_same of (layer.List vs) fit = absurd cc
plain_same of other fit = refl

fixed_same : (of : Primitive) (count : ℕ) → SameBytes (Some of) (Fixed of count)
fixed_same of count (layer.List vs) fit = refl
fixed_same of count other fit = absurd cc

counted_same : (of : Primitive) (times : ℕ) (n : Option ℤ) → SameBytes (Some of) (counted_leaf_kind of times n)
counted_same of times None x fit = absurd cc
counted_same of times (Some (pos n)) x fit = fixed_same of (n * times) x fit
counted_same of times (Some (negsuc n)) x fit = absurd cc

sized_same : (counters : Counters) (of : Primitive) (dim : Dim) → SameBytes (Some of) (sized_kind counters of dim)
sized_same counters of One x fit = plain_same of x fit
sized_same counters of (Several n) x fit = fixed_same of n x fit
sized_same counters of (Counted counter times) x fit = counted_same of times (lookup (bytes_eq counter) counters) x fit

text_same : (b : Bool) → SameBytes None (cond b Texted kind_of_nothing)
text_same true (layer.Text own) fit = refl
text_same true other fit = absurd cc
text_same false x fit = absurd cc

leaf_same : (counters : Counters) (leaf : Leaf) (o : Option Primitive) → letter_kind leaf.letter ≡ o → SameBytes o (leaf_kind counters leaf)
leaf_same counters leaf (Some of) e = subst (SameBytes (Some of)) (sym (kind_some counters leaf of e)) (sized_same counters of leaf.dim)
leaf_same counters leaf None e = subst (SameBytes None) (sym (kind_none counters leaf e)) (text_same (bytes_eq (leaf.letter ∷ []) (codes "C")))

module _ (classes : List ClassDef) where
  pub leaves_spelled : (ls : List Leaf) (counts row : List Value) (own : Counters) (end p : ℕ) (t : WordsMet) → leaves_fit ls counts row own ≡ true → length (leaves_bytes ls row) < 2 ^ 32 → IsSo (columns_values classes (map leaf_column ls) counts own) end p t row (leaves_bytes ls row) t
  unfolding columns_values
  leaves_spelled [] counts [] own end p t fit room = done_is
  leaves_spelled [] counts (v ∷ vs) own end p t fit room = absurd cc
  leaves_spelled (l ∷ ls) counts [] own end p t fit room = absurd cc
  leaves_spelled (l ∷ ls) counts (v ∷ vs) own end p t fit room =
      let parts = and_parts (kind_fits (entry_kind l counts own) v) (leaves_fit ls (drop 1 counts) vs (numbers_with l v own)) fit in
      let same : layer_kind_bytes (entry_kind l counts own) (out-Value v) ≡ value_bytes (letter_kind l.letter) v = leaf_same (counter_saying l.dim (said_count l.dim (given_count counts) own)) l (letter_kind l.letter) refl (out-Value v) parts.0 in
      let len = length-append (value_bytes (letter_kind l.letter) v) (leaves_bytes ls vs) in
      let first = kind_spelled (object_of depth_limit classes) v (entry_kind l counts own) end p t parts.0 (omega (arith, room, len, ap length same)) in
      let one : IsSo (kind_value (object_of depth_limit classes) [] (entry_kind l counts own)) end p t v (value_bytes (letter_kind l.letter) v) t = so_by first refl (sym same) refl in
      let others = leaves_spelled ls (drop 1 counts) vs (numbers_with l v own) end (p + length (value_bytes (letter_kind l.letter) v)) t parts.1 (omega (arith, room, len)) in
      both_are v t one (ends_with vs t others done_is)
