-- A file reads as at most one state.
use Rattle.std.proofs.Common.{◌≡◌, ◌∙◌, ℕ, List, Bool, true, false, MatchBool, Option, sym, subst}
use Rattle.rio_chain.proofs.OneChain.{chain_one}
use Rattle.rio_chain.specs.Segments.{Link}
use Rattle.rio_dir.specs.Unborn.{is_unborn}
use Rattle.rio_machine.proofs.OrderLaws.{same_state}
use Rattle.rio_machine.specs.State.{State, empty_state}
use Rattle.rio_state.specs.{KeyedRecords.{KeyedRecord, keyed_records}, Laws.{ReadsAsOneState}, Reads.{AreRecordsOf, ReadsAsMade, StandsForState}}

-- the same keys with the same records stand for one state
pub stand_one : (records : List KeyedRecord) (info : Option KeyedRecord) (tops : List KeyedRecord) (m n : State)
    → StandsForState records info tops m → StandsForState records info tops n → m ≡ n
stand_one records info tops m n a b =
    same_state m n (a.classes ∙ sym b.classes) (λ item. a.objects item ∙ sym (b.objects item)) (λ name. a.trees name ∙ sym (b.trees name))

made_one : (file : List ℕ) (m n : State) → ReadsAsMade file m → ReadsAsMade file n → m ≡ n
made_one file m n a b =
    let same : b.links ≡ a.links = chain_one file b.links a.links b.chain a.chain in
    let other : AreRecordsOf (keyed_records a.links) n = subst (λ (links : List Link). AreRecordsOf (keyed_records links) n) same b.records in
    stand_one _ _ _ m n a.records.stand other.stand

state_by : (unborn : Bool) (file : List ℕ) (m n : State) → MatchBool unborn (m ≡ empty_state) (ReadsAsMade file m)
    → MatchBool unborn (n ≡ empty_state) (ReadsAsMade file n) → m ≡ n
state_by true file m n a b = a ∙ sym b
state_by false file m n a b = made_one file m n a b

pub reads_one : ReadsAsOneState
reads_one file m n a b = state_by (is_unborn file) file m n a b
