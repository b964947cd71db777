-- Which calls of a device in memory fail.
use Rattle.std.specs.Prelude.{◌≡◌, ◌⊎◌, ℕ, ◌+◌, min, List, Result, Ok, Err, Contains}
use Rattle.rio_host.specs.declared.host.Failed.{Failed}

pub record Tally : Type 0 where
  -- how many calls were made, which is the number of the next one
  pub made : ℕ
  -- the numbers of the calls that fail
  pub failing : List ℕ
  -- how many calls found no memory for what they had to keep
  pub shortages : ℕ

-- one more, where 64 bits hold it
abbrev pub next_count : ℕ → ℕ
next_count n = min (n + 1) 18446744073709551615

-- the next call is one of those that fail
abbrev pub IsToFail : Tally → Type 0
IsToFail t = Contains t.failing t.made

-- a call took its number
abbrev pub Counts : Tally → Tally → Type 0
Counts old new = new ≡ record old { made = next_count old.made }

-- a call took its number, and found no memory
abbrev pub RanShort : Tally → Tally → Type 0
RanShort old new = new ≡ record old { made = next_count old.made; shortages = next_count old.shortages }

-- It failed exactly where it is one of those that fail.
abbrev pub FailsByNumber : {A : Type 0} → Tally → Tally → Result A Failed → Type 0
FailsByNumber old new (Ok x) = Counts old new × ¬ IsToFail old
FailsByNumber old new (Err e) = Counts old new × IsToFail old

-- It failed where it is one of those that fail, and else only where it found no memory. Where it found memory, it did P.
abbrev pub FailsOrRunsShort : {A : Type 0} → Type 0 → Tally → Tally → Result A Failed → Type 0
FailsOrRunsShort P old new (Ok x) = Counts old new × ¬ IsToFail old × P
FailsOrRunsShort P old new (Err e) = (Counts old new × IsToFail old × P) ⊎ RanShort old new
