-- The key table is a map from name and cycle: what is found once a key was put in, or taken out.
use Rattle.std.specs.{Prelude.{◌≡◌, ◌==◌, ◌&&◌, ℕ, List, Some, None, if◌then◌else◌}, Option.{option_map_or}, Str.{bytes_eq}}
use Rattle.rio_key.specs.declared.head.KeyHead.{KeyHead}
use Rattle.rio_dir.specs.Table.{AreOrdered, greatest_cycle, head_of, is_at_cycle, with_head, without_head}

-- a key of a new name and cycle is found by them once it was put in, and each other one as before
abbrev pub PutInIsFound : Type 0
PutInIsFound = (h : KeyHead) (heads : List KeyHead) → head_of h.name (Some h.cycle) heads ≡ None → (name : List ℕ) (cycle : ℕ)
    → head_of name (Some cycle) (with_head h heads) ≡ (if is_at_cycle name cycle h then Some h else head_of name (Some cycle) heads)

-- one that was taken out isn't found, and each other one as before
abbrev pub TakenOutIsGone : Type 0
TakenOutIsGone = (heads : List KeyHead) → AreOrdered heads → (taken : List ℕ) (at : ℕ) (name : List ℕ) (cycle : ℕ)
    → head_of name (Some cycle) (without_head taken at heads) ≡ (if bytes_eq name taken && (cycle == at) then None else head_of name (Some cycle) heads)

-- without a cycle the one of the name's greatest cycle is found
abbrev pub GreatestIsFound : Type 0
GreatestIsFound = (heads : List KeyHead) → AreOrdered heads → (name : List ℕ)
    → option_map_or (λ (h : KeyHead). h.cycle) (head_of name None heads) 0 ≡ greatest_cycle name heads
