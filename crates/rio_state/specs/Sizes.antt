-- How long the records of a close are.
use Rattle.std.specs.{Prelude.{◌≡◌, ℕ, ◌+◌, List, []}, List.{sum_by}}
use Rattle.rio_dir.specs.Table.{heads_size}
use Rattle.rio_state.specs.Closing.{KeptRecords, close_need, free_length, list_length, open_count, padded_length, saved_lengths}

-- what a file of this name keeps with so many records, without the heads of its keys
abbrev pub headless : List ℕ → ℕ → KeptRecords
headless name live = record { name = name; heads = []; count = live; trees = [] }

-- how long key list and free record are together, with so many bytes of heads and so many records that are kept
unfoldable pub close_size : List ℕ → ℕ → ℕ → ℕ
close_size name heads live =
    let kept = headless name live in padded_length (list_length kept + heads) + padded_length (free_length kept)

-- With the records of the saves that are due it is what a close needs.
abbrev pub CloseSizeIsNeed : Type 0
CloseSizeIsNeed = (kept : KeptRecords) → close_need kept ≡ sum_by padded_length (saved_lengths kept) + close_size kept.name (heads_size kept.heads) (kept.count + open_count kept)
