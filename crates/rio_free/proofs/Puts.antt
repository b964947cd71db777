-- What a put that finds no room answers.
use Rattle.std.proofs.Common.{◌≡◌, ◌<◌, List, ℕ, length, Result, Ok, Err, IsErr, rules}
use Rattle.rio_num.specs.{Room.{Room, Appends}, declared.no_memory.NoMemory.{NoMemory}}

pub refuses : (old new : Room) (more : List ℕ) (result : Result (Unit {0}) NoMemory) → IsErr result → (new ≡ old) × (old.spare < length more) → Appends old new more result
refuses old new more (Ok x) err why = absurd (search rules)
refuses old new more (Err e) err why = why
