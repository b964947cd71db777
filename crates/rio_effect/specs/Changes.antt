-- Changes of a file's records: one record more, at the place that the rule gives for the records before it, or one less.
use Rattle.std.specs.Prelude.{ℕ, ◌+◌, List, [], ◌∷◌, length, map, sum}
use Rattle.std.specs.List.{fold}
use Rattle.rio_chain.specs.{Changes.{with_record, with_records, without_record}, Placing.{place_of}, Record.{record_bytes}, Segments.{Link, segment_of}, declared.key_words.KeyWords.{KeyWords}}
use Rattle.rio_effect.specs.TreeRecords.{BasketWords, length_of_basket, record_of_basket}

-- One change.
pub data Change : Type 0 where
  -- a record more: what its key says, whose place isn't looked at, and its data
  added : KeyWords → List ℕ → Change
  -- several records more, one after the other, at the place of one that is as long as they are together
  batch_added : List (KeyWords × List ℕ) → Change
  -- a basket more
  basket_added : BasketWords → Change
  -- the record at a place less
  released : ℕ → Change

-- the record at a place
abbrev pub bytes_at : ℕ → KeyWords → List ℕ → List ℕ
bytes_at place words contents = record_bytes (record words { place = place }) contents

-- how long it is, wherever it is
abbrev pub added_length : KeyWords → List ℕ → ℕ
added_length words contents = length (bytes_at 0 words contents)

-- where the rule places it, and a basket
abbrev pub added_place : List Link → KeyWords → List ℕ → ℕ
added_place links words contents = place_of (map segment_of links) (added_length words contents)

abbrev pub basket_place : List Link → BasketWords → ℕ
basket_place links words = place_of (map segment_of links) (length_of_basket words)

-- how long the records of a batch are, and where the rule places them
abbrev pub batch_lengths : List (KeyWords × List ℕ) → List ℕ
batch_lengths records = map (λ r. added_length r.0 r.1) records

abbrev pub batch_place : List Link → List (KeyWords × List ℕ) → ℕ
batch_place links records = place_of (map segment_of links) (sum (batch_lengths records))

-- and they, one after the other from a place on
abbrev pub batch_bytes : ℕ → List (KeyWords × List ℕ) → List (List ℕ)
batch_bytes place [] = []
batch_bytes place (r ∷ records) = bytes_at place r.0 r.1 ∷ batch_bytes (place + added_length r.0 r.1) records

-- the records after a change
abbrev pub changed : List Link → Change → List Link
changed links (added words contents) =
    let place = added_place links words contents in with_record place (bytes_at place words contents) links
changed links (batch_added records) = let place = batch_place links records in with_records place (batch_bytes place records) links
changed links (basket_added words) = let place = basket_place links words in with_record place (record_of_basket place words) links
changed links (released place) = without_record place links

-- and after several, one after the other
abbrev pub all_changed : List Link → List Change → List Link
all_changed links changes = fold changed links changes

-- how long the records are that the changes add, those of a batch as one length
abbrev pub lengths_of : List Change → List ℕ
lengths_of [] = []
lengths_of (added words contents ∷ changes) = added_length words contents ∷ lengths_of changes
lengths_of (batch_added records ∷ changes) = sum (batch_lengths records) ∷ lengths_of changes
lengths_of (basket_added words ∷ changes) = length_of_basket words ∷ lengths_of changes
lengths_of (released place ∷ changes) = lengths_of changes
