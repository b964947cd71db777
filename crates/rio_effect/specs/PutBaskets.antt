-- What stands behind the header of a save: the baskets that were put since the one before are read as the entries that they hold, and the
-- entries of pending rows as the rows.
use Rattle.std.specs.Prelude.{◌≡◌, ◌<◌, ℕ, List, [], ◌∷◌, length, map, true, false, ◌||◌, Some}
use Rattle.rio_leaf.specs.declared.branch.BranchDef.{BranchDef}
use Rattle.rio_format.specs.declared.class.ClassDef.{ClassDef}
use Rattle.rio_chain.specs.{Changes.{with_record}, Segments.{IsRecord, Link}}
use Rattle.rio_model.specs.StateClasses.{StateClasses}
use Rattle.rio_machine.specs.{Rows.{entries_of}, State.{Row}}
use Rattle.rio_key.specs.{Cut.{Cut, firsts_from}, OpenBasket.{have_one_length}, BasketRecord.{FitsBasketRecord}}
use Rattle.rio_tree.specs.{declared.basket_at.BasketAt.{BasketAt}, declared.head.Branch.{Branch}}
use Rattle.rio_state.specs.{KeyedRecords.{begins_at, keyed_records, record_at}, OneMore.{KeyIsRead}, Trees.{RecordsAt}}
use Rattle.rio_machine.specs.RowEntries.{fitting_row}
use Rattle.rio_step.specs.Storable.{is_stored_row}
use Rattle.rio_effect.specs.{SavedRows.{HoldAllEntries, HoldsEntries}, TreeRecords.{BasketWords, basket_at, basket_with_words, key_of_basket, record_of_basket}}

-- ---- baskets

-- the numbers of a basket's record fit their fields, and it has entries, with offsets or of one length
pub record CanBePut (place : ℕ) (words : BasketWords) : Type 0 where
  pub fits : FitsBasketRecord place words.tree words.branch words.datime (basket_with_words words)
  pub even : words.offsets || have_one_length words.entries ≡ true
  pub some : 0 < length words.entries

-- Such a record is a whole one, with this key.
pub record IsWholeBasket (place : ℕ) (words : BasketWords) : Type 0 where
  pub whole : IsRecord place (record_of_basket place words)
  pub read : KeyIsRead place (record_of_basket place words) (key_of_basket place words)

abbrev pub BasketsHaveRecords : Type 0
BasketsHaveRecords = (place : ℕ) (words : BasketWords) → CanBePut place words → IsWholeBasket place words

-- Put at a place where no record begins it is there, as a header names it, and is read as its entries.
abbrev pub PutBasketIsRead : Type 0
PutBasketIsRead = (links : List Link) (place first : ℕ) (words : BasketWords) → begins_at (keyed_records links) place ≡ false → CanBePut place words
    → HoldsEntries (record_at (keyed_records (with_record place (record_of_basket place words) links))) words.offsets (basket_at place first words) words.entries

-- ---- rows

-- A row that a state can hold is read of the entries that are written for it.
abbrev pub PendingRowsAreRead : Type 0
PendingRowsAreRead = (classes : List ClassDef) (branches : List BranchDef) (row : Row) → StateClasses classes → is_stored_row classes branches row ≡ true
    → fitting_row classes branches (entries_of classes branches row) ≡ Some row

-- ---- what a session keeps of them

-- These baskets of a branch hold the entries of the pending rows that were put, in order, from the entry on that follows the saved ones.
pub record ArePutBaskets (at_place : RecordsAt) (saved : ℕ) (b : Branch) (cut : Cut) (ats : List BasketAt) : Type 0 where
  pub firsts : map (λ at. at.first) ats ≡ firsts_from saved cut.put
  pub hold : HoldAllEntries at_place b.offsets ats cut.put

abbrev pub AreAllPut : RecordsAt → ℕ → List Branch → List Cut → List (List BasketAt) → Type 0
AreAllPut at_place saved [] cuts [] = Unit {0}
AreAllPut at_place saved [] cuts (ats ∷ put) = ⊥
AreAllPut at_place saved (b ∷ bs) (cut ∷ cuts) (ats ∷ put) = ArePutBaskets at_place saved b cut ats × AreAllPut at_place saved bs cuts put
AreAllPut at_place saved (b ∷ bs) (cut ∷ cuts) [] = ArePutBaskets at_place saved b cut [] × AreAllPut at_place saved bs cuts []
AreAllPut at_place saved (b ∷ bs) [] put = ⊥
