-- What holds of every basket's record.
use Rattle.std.specs.Prelude.{◌≡◌, ℕ, ◌%◌, List, ◌++◌, length, true, ◌||◌, Ok}
use Rattle.rio_num.specs.Plain.{IsSpelledIn}
use Rattle.rio_key.specs.{Key.{SpellsKey}, BasketEntries.{entries_in}, OpenBasket.{OpenBasket, have_one_length}}
use Rattle.rio_key.specs.BasketRecord.{FitsBasketRecord, basket_data, basket_key, basket_key_length, basket_record, basket_record_length}

-- A record as long as its key says, a multiple of four: its key stands first in it, and whatever follows it, its entries are
-- read.
pub record IsBasketRecord (place : ℕ) (tree branch : List ℕ) (datime : ℕ) (basket : OpenBasket) : Type 0 where
  pub size : length (basket_record place tree branch datime basket) ≡ basket_record_length tree branch basket
  pub aligned : length (basket_record place tree branch datime basket) % 4 ≡ 0
  pub key : IsSpelledIn (SpellsKey (basket_key place tree branch datime (length (basket_data (basket_key_length tree branch) basket)))) (basket_record place tree branch datime basket)
  pub entries_are : (rest : List ℕ) → entries_in basket.offsets (basket_record place tree branch datime basket ++ rest) ≡ Ok basket.entries

-- of every basket whose entries have offsets or one length, where its numbers fit their fields
abbrev pub AreBasketRecords : Type 0
AreBasketRecords =
    (place : ℕ) (tree branch : List ℕ) (datime : ℕ) (basket : OpenBasket) → FitsBasketRecord place tree branch datime basket → basket.offsets || have_one_length basket.entries ≡ true → IsBasketRecord place tree branch datime basket
