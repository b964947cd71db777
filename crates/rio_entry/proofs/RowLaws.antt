-- The entries of a tree's branches are those of its rows.
use Rattle.std.proofs.Common.{◌≡◌, ◌&&◌, ℕ, ℤ, List, [], ◌∷◌, ◌++◌, drop, Bool, true, cond, Option, Some, None, refl, sym, ap, ◌∙◌}
use Rattle.std.specs.{Prelude.{is_some, unwrap_or}, Map.{lookup}, Str.{bytes_eq}}
use Rattle.rio_leaf.specs.{declared.leaf.Dim.{Dim, TheVariants.{One, Fixed as Several, Counted}}, declared.leaf.Leaf.{Leaf}}
use Rattle.rio_format.specs.{ReaderState.{no_words}, Bodies.{Counters}, Slots.{Slot, kinded}, Written.{writing_of}, declared.class.ClassDef.{ClassDef}, declared.kind.Primitive.{Primitive}, declared.value.Value.{Value}}
use Rattle.rio_format.proofs.CounterLaws.{lookup_behind}
use Rattle.rio_machine.specs.Rows.{Column, leaf_column, object_column, column_slot, columns_bytes, columns_fit, counted_leaf_kind, leaf_kind, leaf_numbers_behind, letter_kind, sized_kind, stands_in}
use Rattle.rio_entry.specs.Entries.{entry_slot, values_bytes, values_fit}
use Rattle.rio_machine.specs.Entries.{counter_saying, given_count, said_count}
use Rattle.rio_entry.specs.Laws.{AreCounts, EntryIsPartOfRow, IsCount, IsCountFor}
use Rattle.rio_entry.proofs.LeafKinds.{kind_none, kind_some, sized_counted}

-- what counts is found there
found_is : (name : List ℕ) (given : ℤ) (own before : Counters) → (lookup (bytes_eq name) own ≡ None → lookup (bytes_eq name) before ≡ Some given) → lookup (bytes_eq name) (own ++ before) ≡ Some (unwrap_or (lookup (bytes_eq name) own) given)
found_is name given own before count = lookup_behind (bytes_eq name) own before ∙ by (lookup (bytes_eq name) own) count
  where
    by : (o : Option ℤ) → (o ≡ None → lookup (bytes_eq name) before ≡ Some given) → cond (is_some o) o (lookup (bytes_eq name) before) ≡ Some (unwrap_or o given)
    by None count = count refl
    by (Some n) count = refl

sized_is : (of : Primitive) (dim : Dim) (given : ℤ) (own before : Counters) → IsCount dim given own before → sized_kind (counter_saying dim (said_count dim given own)) of dim ≡ sized_kind (own ++ before) of dim
sized_is of One given own before count = refl
sized_is of (Several n) given own before count = refl
sized_is of (Counted counter times) given own before count =
    sized_counted of counter times (said_count (Counted counter times) given own) ∙ ap (counted_leaf_kind of times) (sym (found_is counter given own before count))

kind_is : (leaf : Leaf) (given : ℤ) (own before : Counters) → (is_some (letter_kind leaf.letter) ≡ true → IsCount leaf.dim given own before) → leaf_kind (counter_saying leaf.dim (said_count leaf.dim given own)) leaf ≡ leaf_kind (own ++ before) leaf
kind_is leaf given own before count = by (letter_kind leaf.letter) refl
  where
    by : (o : Option Primitive) → letter_kind leaf.letter ≡ o → leaf_kind (counter_saying leaf.dim (said_count leaf.dim given own)) leaf ≡ leaf_kind (own ++ before) leaf
    by (Some of) e = kind_some (counter_saying leaf.dim (said_count leaf.dim given own)) leaf of e ∙ sized_is of leaf.dim given own before (count (ap is_some e)) ∙ sym (kind_some (own ++ before) leaf of e)
    by None e = kind_none (counter_saying leaf.dim (said_count leaf.dim given own)) leaf e ∙ sym (kind_none (own ++ before) leaf e)

slot_is : (c : Column) (counts : List Value) (own before : Counters) → IsCountFor c (given_count counts) own before → entry_slot c counts own ≡ column_slot (own ++ before) c
slot_is (leaf_column leaf) counts own before count = ap kinded (kind_is leaf (given_count counts) own before count)
slot_is (object_column class) counts own before count = refl

-- a leaf more
pub behind_is : (c : Column) (v : Value) (own before : Counters) → leaf_numbers_behind c v own ++ before ≡ leaf_numbers_behind c v (own ++ before)
behind_is (leaf_column leaf) v own before = refl
behind_is (object_column class) v own before = refl

module _ (classes : List ClassDef) (before : Counters) where
  fits_as_row : (cs : List Column) (counts row : List Value) (own : Counters) → AreCounts cs counts row own before → values_fit classes cs counts row own ≡ columns_fit classes cs row (own ++ before)
  fits_as_row [] counts [] own given = refl
  fits_as_row [] counts (v ∷ vs) own given = refl
  fits_as_row (c ∷ cs) counts [] own given = refl
  fits_as_row (c ∷ cs) counts (v ∷ vs) own given =
      ap (λ (s : Slot). stands_in classes s v && values_fit classes cs (drop 1 counts) vs (leaf_numbers_behind c v own)) (slot_is c counts own before given.0)
      ∙ ap (λ (b : Bool). stands_in classes (column_slot (own ++ before) c) v && b) (fits_as_row cs (drop 1 counts) vs (leaf_numbers_behind c v own) given.1 ∙ ap (columns_fit classes cs vs) (behind_is c v own before))

  bytes_as_row : (cs : List Column) (counts row : List Value) (own : Counters) → AreCounts cs counts row own before → values_bytes classes cs counts row own ≡ columns_bytes classes cs row (own ++ before)
  bytes_as_row [] counts row own given = refl
  bytes_as_row (c ∷ cs) counts [] own given = refl
  bytes_as_row (c ∷ cs) counts (v ∷ vs) own given =
      ap (λ (s : Slot). ((writing_of classes v).bytes s 0 no_words).0 ++ values_bytes classes cs (drop 1 counts) vs (leaf_numbers_behind c v own)) (slot_is c counts own before given.0)
      ∙ ap (λ (b : List ℕ). ((writing_of classes v).bytes (column_slot (own ++ before) c) 0 no_words).0 ++ b) (bytes_as_row cs (drop 1 counts) vs (leaf_numbers_behind c v own) given.1 ∙ ap (columns_bytes classes cs vs) (behind_is c v own before))

pub entry_is_part_of_row : EntryIsPartOfRow
entry_is_part_of_row classes shape counts row before given = (fits_as_row classes before _ counts row [] given, bytes_as_row classes before _ counts row [] given)
