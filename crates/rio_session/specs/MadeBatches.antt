-- The records of a batch while they are made, one after the other.
use Rattle.std.specs.Prelude.{◌≡◌, ◌≤◌, ℕ, [], ◌∷◌, ◌++◌, length}
use Rattle.rio_num.specs.Room.{with_more}
use Rattle.rio_chain.specs.declared.record.NewRecord.{NewRecord}
use Rattle.rio_judge.specs.declared.work.StoredObject.{StoredObject}
use Rattle.rio_session.specs.declared.batch.NewBatch.{NewBatch}

-- the class and the name of an object are such as keys have
abbrev pub HasShortWords : StoredObject → Type 0
HasShortWords o = (length o.class ≤ 100) × (length o.name ≤ 100)

-- a batch for a place without records, with memory for so many bytes
pub record IsBegun (place room : ℕ) (batch : NewBatch) : Type 0 where
  pub place_is : batch.place ≡ place
  pub lengths : batch.lengths ≡ []
  pub heads : batch.heads.items ≡ []
  pub bytes : batch.records.bytes ≡ []
  pub spare : room ≤ batch.records.spare

-- one with a record behind the others
pub record HasOneMore (old new : NewBatch) (made : NewRecord) : Type 0 where
  pub place : new.place ≡ old.place
  pub lengths : new.lengths ≡ old.lengths ++ length made.bytes.bytes ∷ []
  pub heads : new.heads.items ≡ old.heads.items ++ made.head ∷ []
  pub records : new.records ≡ with_more old.records made.bytes.bytes
