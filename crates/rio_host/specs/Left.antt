-- What a stop leaves of a small file in memory.
use Rattle.std.specs.Prelude.{List, [], ◌∷◌}
use Rattle.rio_host.specs.{Host.{View}, Memory.{mem_view}, declared.call.Call.{Call, TheVariants.{Write, FailedWrite, Sync, Saying, Said}}}
use Rattle.rio_host.specs.declared.change.Change.TheVariants.{Range, Whole}

-- a host in memory with four zero bytes, after these calls
abbrev pub zeros_after : List Call → View
zeros_after calls = mem_view (record { first = 0 ∷ 0 ∷ 0 ∷ 0 ∷ []; calls = calls }) 0 0 0

-- a write of 1, 2, 3 at place 3
abbrev pub three_written : List Call
three_written = Write (Range 3 (1 ∷ 2 ∷ 3 ∷ [])) ∷ []

-- the same, but it failed
abbrev pub failed : List Call
failed = FailedWrite (Range 3 (1 ∷ 2 ∷ 3 ∷ [])) ∷ []

-- the word 01020304 at place 0
abbrev pub word_written : List Call
word_written = Write (Whole 0 16909060) ∷ []

-- the text 7, 8
abbrev pub said : List Call
said = Saying (7 ∷ 8 ∷ []) ∷ Said ∷ []

abbrev pub synced : List Call
synced = Write (Range 3 (1 ∷ 2 ∷ 3 ∷ [])) ∷ Sync ∷ []
