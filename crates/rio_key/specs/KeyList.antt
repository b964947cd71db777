-- A list of key heads: their count, and so many heads, one behind the other.
use Rattle.std.specs.Prelude.{ℕ, List, Option, Some, None}
use Rattle.rio_num.specs.{At.{At}, Layout.{number, here, times, retold, ◌>>=◌}, Meanings.{Reading, read, Breaks}, Plain.{IsSpelledBy, Plain, plain}}
use Rattle.rio_key.specs.{Key.{key_layout}, declared.head.KeyHead.{KeyHead}, declared.fault.KeyFault.{KeyFault, TheVariants.{Short, NoMemory}}, declared.fault.ListFault.{ListFault}}

-- a fault of the list, in the head at a place or in the count
abbrev pub listed_fault : Option ℕ → KeyFault → ListFault
listed_fault place fault = record { head = place; fault = fault }

-- the fault of memory, which is told of no head
abbrev pub list_memory : ListFault
list_memory = listed_fault None NoMemory

-- one head of the list
unfoldable pub listed_key : Plain ListFault KeyHead
listed_key = do
  place ← here
  retold (listed_fault (Some place)) key_layout

-- how many heads the list has
abbrev pub head_count : Plain ListFault ℕ
head_count = number (λ place wanted. listed_fault None (Short place wanted)) 4

unfoldable pub key_list_layout : Plain ListFault (List KeyHead)
key_list_layout = do
  count ← head_count
  times count listed_key

-- the heads of a list, and where the last one's title ends, or the first fault
abbrev pub key_list_at : At → Reading (Unit {0}) ListFault (List KeyHead)
key_list_at s = read key_list_layout (plain s)

-- the bytes are a list's from its count to the end of its last head's title
unfoldable pub SpellsKeyList : List KeyHead → List ℕ → Type 0
SpellsKeyList heads bytes = IsSpelledBy key_list_layout heads bytes

-- the bytes there begin with no list: what stands before is right, and this is the first fault
unfoldable pub BreaksKeyList : At → ListFault → Type 0
BreaksKeyList s fault = Breaks key_list_layout s.place tt s.rest fault
