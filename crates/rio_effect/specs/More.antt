-- One key more among those that a close lists.
use Rattle.std.specs.Prelude.{◌≡◌, ◌≤◌, ◌+◌, length}
use Rattle.rio_key.specs.{Written.{written_key}, declared.head.KeyHead.{KeyHead}}
use Rattle.rio_state.specs.{Closing.{KeptRecords, close_need, free_length, list_length, padded_length}, OneMore.{HasOneMoreIn}}

-- A file keeps one key of an object more, and so one record more, and the same of its trees. A close then needs what one head more in the key list and one more part
-- in the free record take.
pub record KeepsOneMore (old new : KeptRecords) (head : KeyHead) : Type 0 where
  pub name : new.name ≡ old.name
  pub heads : HasOneMoreIn old.heads new.heads head
  pub count : new.count ≡ old.count + 1
  pub trees : new.trees ≡ old.trees
  pub list : list_length new ≡ list_length old + length (written_key head)
  pub free : free_length new ≡ free_length old + 10
  pub need : close_need new ≤ close_need old + padded_length (length (written_key head)) + padded_length 10
