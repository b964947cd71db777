-- The key table: heads in the order of the key list, no two of one name and cycle.
use Rattle.std.specs.Prelude.{◌≡◌, ◌==◌, ◌&&◌, ℕ, ◌^◌, ◌<◌, ◌≤◌, Bool, true, false, List, [], ◌∷◌, ◌++◌, length, max, Option, None, Some, nat_lt, if◌then◌else◌}
use Rattle.std.specs.{List.{find, flat_map, sum_by}, Set.{remove_key}, Str.{bytes_eq}, Ordering.{nat_cmp}, Cmp.Lexicographic.{slice_cmp}}
use Rattle.std.specs.declared.cmp.Ordering.{Ordering, TheVariants.{Less, Equal, Greater}}
use Rattle.byteorder.specs.Endian.{big_bytes}
use Rattle.rio_key.specs.{declared.head.KeyHead.{KeyHead}, KeyList.{SpellsKeyList}, Written.{FitsKey, HoldsItself, written_key}}

-- heads in order, and for how many more there is room
pub record TableRoom : Type 0 where
  pub heads : List KeyHead
  pub spare : ℕ

-- the keys are as before, and there is room for no fewer, but not for so many
pub record HasRoomBelow (old new : TableRoom) (count : ℕ) : Type 0 where
  pub heads : new.heads ≡ old.heads
  pub more : old.spare ≤ new.spare
  pub few : new.spare < count

-- the head of a name, and that of a name and cycle
abbrev pub is_of_name : List ℕ → KeyHead → Bool
is_of_name name h = bytes_eq h.name name

abbrev pub is_at_cycle : List ℕ → ℕ → KeyHead → Bool
is_at_cycle name cycle h = bytes_eq h.name name && (h.cycle == cycle)

-- which of two names or cycles is first, by how the names compare
abbrev pub first_by : Ordering → Bool → Bool
first_by Less same = true
first_by Equal same = same
first_by Greater same = false

-- the order: by name, bytes ascending, and then by cycle, the greatest first
abbrev pub comes_before : List ℕ → ℕ → List ℕ → ℕ → Bool
comes_before name cycle other_name other_cycle = first_by (slice_cmp nat_cmp name other_name) (nat_lt other_cycle cycle)

-- a head comes before one of this name and cycle
abbrev pub is_before : List ℕ → ℕ → KeyHead → Bool
is_before name cycle h = comes_before h.name h.cycle name cycle

-- each of these comes behind a name and cycle
abbrev pub AreBehind : List ℕ → ℕ → List KeyHead → Type 0
AreBehind name cycle [] = Unit {0}
AreBehind name cycle (h ∷ hs) = (comes_before name cycle h.name h.cycle ≡ true) × AreBehind name cycle hs

-- heads in order: all behind one come behind it, so no two have the same name and cycle
abbrev pub AreOrdered : List KeyHead → Type 0
AreOrdered [] = Unit {0}
AreOrdered (h ∷ hs) = AreBehind h.name h.cycle hs × AreOrdered hs

-- the name of a head comes before a name
abbrev pub is_name_before : List ℕ → KeyHead → Bool
is_name_before name h = first_by (slice_cmp nat_cmp h.name name) false

-- the heads with one more in its place
abbrev pub with_head : KeyHead → List KeyHead → List KeyHead
with_head h [] = h ∷ []
with_head h (k ∷ ks) = if is_before h.name h.cycle k then k ∷ with_head h ks else h ∷ k ∷ ks

-- and with several more, one after the other
abbrev pub with_heads : List KeyHead → List KeyHead → List KeyHead
with_heads [] heads = heads
with_heads (h ∷ hs) heads = with_heads hs (with_head h heads)

-- the heads without that of a name and cycle
abbrev pub without_head : List ℕ → ℕ → List KeyHead → List KeyHead
without_head name cycle heads = remove_key (is_at_cycle name cycle) heads

-- the head of a name and cycle, or that of the greatest cycle, which is the first of its name
abbrev pub head_of : List ℕ → Option ℕ → List KeyHead → Option KeyHead
head_of name None heads = find (is_of_name name) heads
head_of name (Some cycle) heads = find (is_at_cycle name cycle) heads

-- a head that passes a test
abbrev pub if_matching : (KeyHead → Bool) → Option KeyHead → Option KeyHead
if_matching test None = None
if_matching test (Some h) = if test h then Some h else None

-- the greatest cycle of a name, 0 where there is none
abbrev pub greatest_cycle : List ℕ → List KeyHead → ℕ
greatest_cycle name [] = 0
greatest_cycle name (h ∷ hs) = if is_of_name name h then max h.cycle (greatest_cycle name hs) else greatest_cycle name hs

-- how many bytes are written of the heads
abbrev pub heads_size : List KeyHead → ℕ
heads_size heads = sum_by (λ h. length (written_key h)) heads

-- the data of the key list: the count, and the heads in order
abbrev pub key_list_bytes : List KeyHead → List ℕ
key_list_bytes heads = big_bytes 4 (length heads) ++ flat_map written_key heads

-- heads that fit what is written of them, in records that hold them
abbrev pub AreWritable : List KeyHead → Type 0
AreWritable [] = Unit {0}
AreWritable (h ∷ hs) = (FitsKey h × HoldsItself h) × AreWritable hs

-- what is written of such heads spells them as a key list, so it is read as they are
abbrev pub WrittenKeysAreSpelled : Type 0
WrittenKeysAreSpelled = (heads : List KeyHead) → length heads < 2 ^ 32 → AreWritable heads → SpellsKeyList heads (key_list_bytes heads)
