-- How the entries of a basket are laid out in its bytes: the numbers of its head, or the first fault.
use Rattle.std.specs.Prelude.{ℕ, ◌+◌, ◌-◌, ◌%◌, ℤ, pos, List, length, Result, Ok, Err, Bool, int_lt, int_le, nat_lt, ◌==◌, ◌||◌, ◌&&◌, not, unsigned_abs, if◌then◌else◌}
use Rattle.rio_num.specs.{Meanings.{read}, Plain.{plain, value_of}}
use Rattle.rio_key.specs.{BasketFront.{basket_front}, Key.{is_compressed}, declared.basket_head.BasketFront.{BasketFront}, declared.basket_head.BasketHead.{BasketHead}, declared.fault.KeyFault.{KeyFault}}
use Rattle.rio_key.specs.{declared.basket_fault.BasketFault.{BasketFault, TheVariants.{BadLast, Compressed}}, declared.basket_layout.Layout.{Layout}}

-- A number is so many times another; of those of 0 there is 0 alone.
abbrev pub is_multiple : ℕ → ℕ → Bool
is_multiple n of = if of == 0 then n == 0 else n % of == 0

abbrev pub is_negative : ℤ → Bool
is_negative z = int_lt z (pos 0)

abbrev pub has_negative : BasketHead → Bool
has_negative head = is_negative head.buffer_size || is_negative head.nev_size || is_negative head.nev

-- the last entry ends behind the key and within the record
abbrev pub ends_within : BasketFront → Bool
ends_within front = int_le (pos front.key.keylen) front.head.last && int_le front.head.last front.key.nbytes

-- all entries can have one length
abbrev pub has_one_length : BasketFront → Bool
has_one_length front = is_multiple (unsigned_abs front.head.last - front.key.keylen) (unsigned_abs front.head.nev)

-- the numbers of the head can stand, in a basket with offsets or without
abbrev pub is_sound : Bool → BasketFront → Bool
is_sound offsets front = not (has_negative front.head) && ends_within front && (offsets || has_one_length front)

-- where the entries' data begin and end, where the record ends, and how many entries there are
abbrev pub layout_of : BasketFront → Layout
layout_of front = record {
  first = front.key.keylen;
  last = unsigned_abs front.head.last;
  end = unsigned_abs front.key.nbytes;
  count = unsigned_abs front.head.nev;
}

-- the place of fLast
abbrev pub last_place : BasketFront → ℕ
last_place front = front.place + 14

abbrev pub layout_by : Bool → ℕ → Result BasketFront KeyFault → Result Layout BasketFault
layout_by offsets n (Err e) = Err (BadLast 0)
layout_by offsets n (Ok front) =
    if nat_lt n (unsigned_abs front.key.nbytes) then Err (BadLast 0)
    else if is_compressed front.key then Err Compressed
    else if not (is_sound offsets front) then Err (BadLast (last_place front))
    else Ok (layout_of front)

-- what the key and the head of a basket say, or their first fault
abbrev pub layout_in : Bool → List ℕ → Result Layout BasketFault
layout_in offsets bytes = layout_by offsets (length bytes) (value_of (read basket_front (plain (record { place = 0; rest = bytes }))))
