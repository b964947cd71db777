use Rattle.std.proofs.Common.{◌≡◌, drop}
use Rattle.std.specs.List.{list_all}
use Rattle.rio_entry.specs.SavedRows.{AreByPlace, has_baskets}
use Rattle.rio_entry.proofs.records.have_baskets.Given as goal

abbrev pub invariant-loop-branch : goal.invariant-loop-branch
invariant-loop-branch l = AreByPlace l.keys → list_all (has_baskets l.keys) (drop l.branch-index l.branches) ≡ list_all (has_baskets l.keys) l.branches
