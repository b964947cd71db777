-- The rows of a header, by the records of a file and by the keys of these.
use Rattle.std.proofs.Common.{◌≡◌, ℕ, List, sym}
use Rattle.rio_format.specs.declared.class.ClassDef.{ClassDef}
use Rattle.rio_key.specs.declared.head.KeyHead.{KeyHead}
use Rattle.rio_machine.specs.RowEntries.{fitting_row}
use Rattle.rio_tree.specs.{SavedEntries.{rows_by}, WrittenLaws.{stated_defs}, declared.head.TreeHead.{TreeHead}}
use Rattle.rio_entry.specs.SavedRows as keyed_rows
use Rattle.rio_state.specs.Trees.{RecordsAt, saved_rows}
use Rattle.rio_recover.specs.Baskets.{AreKeyedIn}

-- they are the same
pub rows_keyed : (classes : List ClassDef) (file : List ℕ) (heads : List KeyHead) (at_place : RecordsAt) (head : TreeHead) → AreKeyedIn heads file at_place
    → keyed_rows.saved_rows classes (keyed_rows.keyed_baskets heads file) head ≡ saved_rows classes at_place head
unfolding saved_rows
rows_keyed classes file heads at_place head keyed = sym (λ i. rows_by (fitting_row classes (stated_defs head.branches)) (λ at. keyed at i) head)
