-- What an input is to its callers.
use Rattle.std.specs.Prelude.{◌≡◌, ℕ, ◌<◌, List, [], ◌++◌, length, take, Option}

pub record Input : Type 0 where
  -- the bytes that reads will give, where told
  pub remaining : Option (List ℕ)
  -- how many reads failed
  pub faults : ℕ

-- The first n bytes of the buffer are the front of what remained. None are given to a buffer only where it has no room or nothing remained.
pub record Fills (n : ℕ) (buffer old new : List ℕ) : Type 0 where
  pub front : old ≡ take n buffer ++ new
  pub end : n ≡ 0 → 0 < length buffer → old ≡ []
