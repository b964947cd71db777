use Rattle.std.proofs.Common.{◌≡◌, None, length}
use Rattle.rio_num.specs.At.{AreBytes}
use Rattle.rio_free.specs.EntryList.{AreEntriesAbove, free_entries_at, free_entries_in}
use Rattle.rio_free.proofs.EntryReads.{last_in, with_entries}
use Rattle.rio_free.proofs.read.read_entries.Given as goal

-- behind the entries so far stand the others
abbrev pub invariant-loop-cursor : goal.invariant-loop-cursor
invariant-loop-cursor l = record {
  so_far : with_entries l.entries (free_entries_at (length l.cursor.rest) (record { at = l.cursor; words = l.before })) ≡ free_entries_in l.fn.bytes;
  fits : AreBytes l.cursor.rest;
  rise : AreEntriesAbove None l.entries;
  last : l.before ≡ last_in None l.entries;
}

abbrev pub decreases-loop-cursor : goal.decreases-loop-cursor
decreases-loop-cursor l = length l.cursor.rest
