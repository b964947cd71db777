-- What is left of a file's garbage when it is released, one record after the other.
use Rattle.std.specs.{Prelude.{◌≡◌, ℕ, List, ◌∷◌, not}, List.{filter}}
use Rattle.rio_chain.specs.Segments.{IsChain, Link}
use Rattle.rio_state.specs.{KeyedRecords.{KeyedRecord, keyed_records}, OneLess.{links_without}, Referred.{is_referred}}

-- the records that nothing refers to
abbrev pub unreferred : List KeyedRecord → List KeyedRecord
unreferred records = filter (λ r. not (is_referred records r)) records

-- without the first of them the others are left
abbrev pub GarbageIsLeft : Type 0
GarbageIsLeft = (file : List ℕ) (links : List Link) (r : KeyedRecord) (others : List KeyedRecord) → IsChain links file → unreferred (keyed_records links) ≡ r ∷ others
    → unreferred (keyed_records (links_without links r)) ≡ others
