use Rattle.std.proofs.Common.{◌≡◌, drop}
use Rattle.std.specs.List.{list_all}
use Rattle.rio_entry.specs.SavedRows.{AreByPlace, has_basket}
use Rattle.rio_entry.proofs.records.has_baskets.Given as goal

abbrev pub invariant-loop-at : goal.invariant-loop-at
invariant-loop-at l = AreByPlace l.keys → list_all (has_basket l.keys) (drop l.at-index l.at-items) ≡ list_all (has_basket l.keys) l.at-items
