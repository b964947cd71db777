-- Looking a key up by name and cycle.
use Rattle.std.specs.{Prelude.{ℕ, List, [], ◌∷◌, Option, Some, None, Result, Ok, Err, Bool, ◌==◌, ◌&&◌, nat_le, find, if◌then◌else◌}, List.{list_any}}
use Rattle.rio_key.specs.declared.head.KeyHead.{KeyHead}
use Rattle.rio_dir.specs.Table.{is_of_name}
use Rattle.rio_machine.specs.declared.refusal.Refusal.{Refusal, TheVariants.{NoSuchName, NoSuchCycle}}
use Rattle.rio_report.specs.declared.item.Item.{Item}

-- the first key, or one of the rest that has a greater cycle
abbrev pub greater_cycle_of : KeyHead → Option KeyHead → KeyHead
greater_cycle_of k None = k
greater_cycle_of k (Some other) = if nat_le other.cycle k.cycle then k else other

-- the key of the name with the greatest cycle, the first of several
abbrev pub with_greatest_cycle : List ℕ → List KeyHead → Option KeyHead
with_greatest_cycle name [] = None
with_greatest_cycle name (k ∷ ks) = if is_of_name name k then Some (greater_cycle_of k (with_greatest_cycle name ks)) else with_greatest_cycle name ks

-- the first key of the name and cycle
abbrev pub with_cycle : List ℕ → ℕ → List KeyHead → Option KeyHead
with_cycle name cycle keys = find (λ k. is_of_name name k && (k.cycle == cycle)) keys

-- the key of an item: of the greatest cycle, where none is said
abbrev pub key_of_item : Item → List KeyHead → Option KeyHead
key_of_item item keys = by item.cycle
  where
    by : Option ℕ → Option KeyHead
    by None = with_greatest_cycle item.name keys
    by (Some cycle) = with_cycle item.name cycle keys

-- or why there is none: no key has the name, or none of the name the cycle
abbrev pub or_no_key : Bool → Option KeyHead → Result KeyHead Refusal
or_no_key named (Some key) = Ok key
or_no_key named None = if named then Err NoSuchCycle else Err NoSuchName

abbrev pub found_item : Item → List KeyHead → Result KeyHead Refusal
found_item item keys = or_no_key (list_any (is_of_name item.name) keys) (key_of_item item keys)
