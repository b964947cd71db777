-- What the key of a basket has behind its title: as it is read, and as it is written.
use Rattle.std.specs.{Prelude.{ℕ, ◌^◌, ◌<◌, ℤ, List, ◌++◌}, Int.{w32, cast_signed, cast_unsigned, RustNames.{FitsSigned}}}
use Rattle.byteorder.specs.Endian.{big_bytes}
use Rattle.rio_num.specs.{At.{At}, Layout.{done, number, ◌>>=◌}, Meanings.{Reading, read, Breaks}, Reading.{short}, declared.cursor.Short.{Short as Shortage}}
use Rattle.rio_num.specs.Plain.{Plain, plain}
use Rattle.rio_key.specs.declared.basket_head.BasketHead.{BasketHead}

-- the fields, each of them a number of so many bytes; an integer of 4 bytes may be negative
unfoldable pub basket_head_of : {F : Type 0} → (ℕ → Plain F ℕ) → Plain F BasketHead
basket_head_of field = do
  version ← field 2
  buffer_size ← field 4
  nev_size ← field 4
  nev ← field 4
  last ← field 4
  flag ← field 1
  done (record { version = version; buffer_size = cast_signed w32 buffer_size; nev_size = cast_signed w32 nev_size; nev = cast_signed w32 nev; last = cast_signed w32 last; flag = flag })

abbrev pub basket_head_layout : Plain Shortage BasketHead
basket_head_layout = basket_head_of (number short)

-- the fields, and where the last one ends, or the first fault
abbrev pub basket_head_at : At → Reading (Unit {0}) Shortage BasketHead
basket_head_at s = read basket_head_layout (plain s)

-- the bytes there begin with no head of a basket: this field is the first that isn't whole
unfoldable pub BreaksBasketHead : At → Shortage → Type 0
BreaksBasketHead s fault = Breaks basket_head_layout s.place tt s.rest fault

unfoldable pub integer_bytes : ℤ → List ℕ
integer_bytes z = big_bytes 4 (cast_unsigned w32 z)

-- the sizes, the number of entries and where the last one ends
unfoldable pub sizes_bytes : BasketHead → List ℕ
sizes_bytes h = integer_bytes h.buffer_size ++ (integer_bytes h.nev_size ++ (integer_bytes h.nev ++ integer_bytes h.last))

-- the fields, as they are written
abbrev pub basket_head_bytes : BasketHead → List ℕ
basket_head_bytes h = big_bytes 2 h.version ++ (sizes_bytes h ++ big_bytes 1 h.flag)

-- each number within its field
pub record AreInRange (h : BasketHead) : Type 0 where
  pub version : h.version < 2 ^ 16
  pub buffer_size : FitsSigned w32 h.buffer_size
  pub nev_size : FitsSigned w32 h.nev_size
  pub nev : FitsSigned w32 h.nev
  pub last : FitsSigned w32 h.last
  pub flag : h.flag < 256
