-- The entries of a basket, read by their places.
use Rattle.std.specs.Prelude.{ℕ, zero, suc, ◌+◌, ◌-◌, ◌*◌, ◌/◌, List, map, drop, Option, Some, None, Result, Ok, Err, Bool, nat_lt, ◌==◌, ◌||◌, ◌&&◌, not, slice_range, if◌then◌else◌}
use Rattle.std.specs.List.{range_with_len}
use Rattle.byteorder.specs.Endian.{big_number}
use Rattle.rio_num.specs.Reading.{◌>>=◌}
use Rattle.rio_key.specs.{declared.basket_fault.BasketFault.{BasketFault, TheVariants.{BadOffsets}}, declared.basket_layout.Layout.{Layout}, StoredLayout.{layout_in}}

-- the number in the four bytes at a place
abbrev pub number_there : List ℕ → ℕ → ℕ
number_there bytes place = big_number 4 (drop place bytes)

-- ---- offsets

-- Behind the entries stands how many offsets there are, and then each of them.
abbrev pub offset_place : Layout → ℕ → ℕ
offset_place layout k = layout.last + 4 + 4 * k

-- where the k-th entry begins
abbrev pub offset_at : Layout → List ℕ → ℕ → ℕ
offset_at layout bytes k = number_there bytes (offset_place layout k)

-- four bytes of the record stand there
abbrev pub is_whole_at : Layout → ℕ → Bool
is_whole_at layout place = not (nat_lt layout.end (place + 4))

-- where the entry before the k-th begins, or the data of all
abbrev pub offset_before : Layout → List ℕ → ℕ → ℕ
offset_before layout bytes zero = layout.first
offset_before layout bytes (suc k) = offset_at layout bytes k

-- the k-th offset is whole, and neither below the one before nor behind the data
abbrev pub is_offset : Layout → List ℕ → ℕ → Bool
is_offset layout bytes k =
    is_whole_at layout (offset_place layout k)
    && not (nat_lt (offset_at layout bytes k) (offset_before layout bytes k) || nat_lt layout.last (offset_at layout bytes k))

-- the k-th offset, if it can stand
abbrev pub sound_offset : Layout → List ℕ → ℕ → Option ℕ
sound_offset layout bytes k = if is_offset layout bytes k then Some (offset_at layout bytes k) else None

-- so many offsets from the k-th on, or the first that can't stand
abbrev pub offsets_from : Layout → List ℕ → ℕ → ℕ → Result (Unit {0}) BasketFault
offsets_from layout bytes zero k = Ok tt
offsets_from layout bytes (suc n) k =
    if is_offset layout bytes k then offsets_from layout bytes n (k + 1) else Err (BadOffsets (offset_place layout k))

-- an offset behind those of the entries says nothing, but is whole
abbrev pub spare_offset : Layout → ℕ → Result (Unit {0}) BasketFault
spare_offset layout said =
    if (said == layout.count) || is_whole_at layout (offset_place layout layout.count) then Ok tt
    else Err (BadOffsets (offset_place layout layout.count))

-- how many there are said to be: one for each entry, or one more
abbrev pub has_count : Layout → List ℕ → Bool
has_count layout bytes =
    is_whole_at layout layout.last
    && ((number_there bytes layout.last == layout.count) || (number_there bytes layout.last == layout.count + 1))

-- the offsets behind the entries' data, or the first that can't stand
abbrev pub offsets_in : Layout → List ℕ → Result (Unit {0}) BasketFault
offsets_in layout bytes =
    if has_count layout bytes
    then (offsets_from layout bytes layout.count 0 >>= λ all. spare_offset layout (number_there bytes layout.last))
    else Err (BadOffsets layout.last)

-- ---- entries

-- the length of each entry where there are no offsets
abbrev pub entry_length : Layout → ℕ
entry_length layout = (layout.last - layout.first) / layout.count

-- where the k-th entry begins there
abbrev pub equal_place : Layout → ℕ → ℕ
equal_place layout k = layout.first + k * entry_length layout

-- where the k-th entry ends: where the next one begins, or with the data
abbrev pub offset_behind : Layout → List ℕ → ℕ → ℕ
offset_behind layout bytes k = if k + 1 == layout.count then layout.last else offset_at layout bytes (k + 1)

-- the bytes of the k-th entry
abbrev pub laid_entry : Bool → Layout → List ℕ → ℕ → List ℕ
laid_entry offsets layout bytes k =
    if offsets then slice_range bytes (offset_at layout bytes k) (offset_behind layout bytes k)
    else slice_range bytes (equal_place layout k) (equal_place layout k + entry_length layout)

abbrev pub laid_entries : Bool → Layout → List ℕ → List (List ℕ)
laid_entries offsets layout bytes = map (laid_entry offsets layout bytes) (range_with_len 0 layout.count)

-- how the entries are laid out, where their offsets can stand too
unfoldable pub sound_layout_in : Bool → List ℕ → Result Layout BasketFault
sound_layout_in offsets bytes = do
  layout ← layout_in offsets bytes
  all ← (if offsets then offsets_in layout bytes else Ok tt)
  Ok layout

-- the entries of a basket, with offsets or without, or the first fault
unfoldable pub entries_in : Bool → List ℕ → Result (List (List ℕ)) BasketFault
entries_in offsets bytes = do
  layout ← sound_layout_in offsets bytes
  Ok (laid_entries offsets layout bytes)
