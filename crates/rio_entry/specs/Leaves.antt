-- The values of leaves, by cases on the leaf and the value, without classes: what fits, and its bytes.
use Rattle.std.specs.Prelude.{ℕ, ℤ, List, [], ◌∷◌, ◌++◌, codes, drop, length, map, Bool, true, false, ◌&&◌, ◌==◌, Option, Some, None, if◌then◌else◌}
use Rattle.std.specs.{List.{flat_map, list_all, list_any}, Str.{bytes_eq}}
use Rattle.byteorder.specs.Endian.{big_bytes}
use Rattle.rio_num.specs.{Text.{text_bytes}, Layout.{broken, done, here, ◌>>=◌}}
use Rattle.rio_leaf.specs.{declared.leaf.Leaf.{Leaf}, Leaves.{is_counted_dim}}
use Rattle.rio_format.specs.{Frames.{ObjLayout}, declared.fault.ObjFault.TheVariants.{NoCount}, Bodies.{Counters}, Fits.{bits32_fits, bits64_fits, int_fits, truth_fits}, Objects.{number_value, numbers, text_value}}
use Rattle.rio_format.specs.{Slots.{kinded}, Written.{int_bytes, truth_byte}, Accessors.{number_in}, declared.value.Part.{Part}}
use Rattle.rio_format.specs.declared.value.Value.{Value, out-Value, Int as Integer, TheOpen.{Value-F, Int, Bits32, Bits64, Bool as Truth, Text, List as Items}}
use Rattle.rio_machine.specs.Rows.{kind_of_nothing, leaf_kind, letter_kind}
use Rattle.rio_format.specs.{declared.kind.Kind.{Kind, TheVariants.{Plain, Fixed, Text as Texted}}, declared.kind.Primitive.{Primitive}}
use Rattle.rio_machine.specs.Entries.{counter_saying, given_count, said_count}

-- ---- single values

abbrev pub layer_fits : Primitive → Value-F Value Part → Bool
layer_fits prim (Int z) = int_fits z (kinded (Plain prim))
layer_fits prim (Bits32 n) = bits32_fits n (kinded (Plain prim))
layer_fits prim (Bits64 n) = bits64_fits n (kinded (Plain prim))
layer_fits prim (Truth b) = truth_fits (kinded (Plain prim))
layer_fits prim other = false

-- it is a value of the kind
abbrev pub single_fits : Primitive → Value → Bool
single_fits prim v = layer_fits prim (out-Value v)

abbrev pub layer_bytes : Primitive → Value-F Value Part → List ℕ
layer_bytes prim (Int z) = int_bytes z (kinded (Plain prim))
layer_bytes prim (Bits32 n) = big_bytes 4 n
layer_bytes prim (Bits64 n) = big_bytes 8 n
layer_bytes prim (Truth b) = truth_byte b ∷ []
layer_bytes prim other = []

abbrev pub single_bytes : Primitive → Value → List ℕ
single_bytes prim v = layer_bytes prim (out-Value v)

-- ---- lists and texts

abbrev pub layer_fits_kind : Kind → Value-F Value Part → Bool
layer_fits_kind (Plain prim) x = layer_fits prim x
layer_fits_kind (Fixed prim count) (Items vs) = (length vs == count) && list_all (single_fits prim) vs
layer_fits_kind Texted (Text t) = true
layer_fits_kind other x = false

abbrev pub kind_fits : Kind → Value → Bool
kind_fits kind v = layer_fits_kind kind (out-Value v)

-- what stands in the bytes
abbrev pub kind_layout : Kind → ObjLayout Value
kind_layout (Plain prim) = number_value prim
kind_layout (Fixed prim count) = numbers prim count
kind_layout Texted = text_value
kind_layout other = do place ← here; broken (NoCount place)

-- the kind of a leaf whose letter stands for no single values
abbrev pub without_number : ℕ → Kind
without_number letter = if bytes_eq (letter ∷ []) (codes "C") then Texted else kind_of_nothing

-- ---- leaves

-- the kind of a leaf, behind these leaves of its branch, the nearest first
abbrev pub entry_kind : Leaf → List Value → Counters → Kind
entry_kind leaf counts own = leaf_kind (counter_saying leaf.dim (said_count leaf.dim (given_count counts) own)) leaf

abbrev pub numbers_with : Leaf → Value → Counters → Counters
numbers_with leaf v own = (leaf.name, number_in (out-Value v)) ∷ own

-- the numbers of leaves, behind others, the nearest first
abbrev pub numbers_after : List Leaf → List Value → Counters → Counters
numbers_after [] vs own = own
numbers_after (l ∷ ls) [] own = own
numbers_after (l ∷ ls) (v ∷ vs) own = numbers_after ls vs (numbers_with l v own)

-- the number of the last of the leaves that has the name, or else what was found before
abbrev pub last_number : List ℕ → List Leaf → List Value → Option ℤ → Option ℤ
last_number name [] vs found = found
last_number name (l ∷ ls) [] found = found
last_number name (l ∷ ls) (v ∷ vs) found = last_number name ls vs (if bytes_eq name l.name then Some (number_in (out-Value v)) else found)

abbrev pub leaves_fit : List Leaf → List Value → List Value → Counters → Bool
leaves_fit [] counts [] own = true
leaves_fit [] counts (v ∷ vs) own = false
leaves_fit (l ∷ ls) counts [] own = false
leaves_fit (l ∷ ls) counts (v ∷ vs) own = kind_fits (entry_kind l counts own) v && leaves_fit ls (drop 1 counts) vs (numbers_with l v own)

-- the bytes of a value of a leaf that fits, by the kind of its single values; without one it is a text
abbrev pub layer_value_bytes : Option Primitive → Value-F Value Part → List ℕ
layer_value_bytes (Some prim) (Items vs) = flat_map (single_bytes prim) vs
layer_value_bytes (Some prim) other = layer_bytes prim other
layer_value_bytes None (Text t) = text_bytes t
layer_value_bytes None other = []

abbrev pub value_bytes : Option Primitive → Value → List ℕ
value_bytes prim v = layer_value_bytes prim (out-Value v)

abbrev pub leaves_bytes : List Leaf → List Value → List ℕ
leaves_bytes [] vs = []
leaves_bytes (l ∷ ls) [] = []
leaves_bytes (l ∷ ls) (v ∷ vs) = value_bytes (letter_kind l.letter) v ++ leaves_bytes ls vs

-- ---- leaves that are not kept

-- the number that a value says by which later leaves are counted
abbrev pub said_by : Value → ℤ
said_by v = number_in (out-Value v)

-- what stands there, of which no more is kept than the number that it says
abbrev pub number_of_value : ObjLayout Value → ObjLayout ℤ
number_of_value l = l >>= λ v. done (said_by v)

-- a value in whose place stands only the number that it says
abbrev pub number_alone : Value → Value
number_alone v = Integer (said_by v)

-- values that stand there, of each of which no more is kept
abbrev pub numbers_of_values : ObjLayout (List Value) → ObjLayout (List Value)
numbers_of_values l = l >>= λ vs. done (map number_alone vs)

abbrev pub is_any_counted : List Leaf → Bool
is_any_counted ls = list_any (λ l. is_counted_dim l.dim) ls
