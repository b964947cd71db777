-- What a put and a release make of a file's segments.
use Rattle.std.specs.Prelude.{◌≡◌, ℕ, ◌+◌, ◌-◌, ◌%◌, ◌^◌, ◌<◌, ◌≤◌, ◌==◌, List, [], ◌∷◌, ◌++◌, length, if◌then◌else◌}
use Rattle.rio_chain.specs.Segments.{Link, RecordAt, GapAt, chain_end, end_from}

-- ---- a put

-- what is left of a gap, in front of the links behind it
abbrev pub with_rest : ℕ → ℕ → List Link → List Link
with_rest place n links = if n == 0 then links else GapAt place n ∷ links

-- the links with a record at this place, which is that of a gap, or END
abbrev pub with_record : ℕ → List ℕ → List Link → List Link
with_record place bytes [] = RecordAt place bytes ∷ []
with_record place bytes (RecordAt p others ∷ links) = RecordAt p others ∷ with_record place bytes links
with_record place bytes (GapAt p n ∷ links) =
    if p == place then RecordAt place bytes ∷ with_rest (place + length bytes) (n - length bytes) links else GapAt p n ∷ with_record place bytes links

-- the links with records one behind the other from this place on
abbrev pub with_records : ℕ → List (List ℕ) → List Link → List Link
with_records place [] links = links
with_records place (bytes ∷ records) links = with_records (place + length bytes) records (with_record place bytes links)

-- ---- a release

-- Free bytes in front of links: with a gap that the links begin with they are one gap, and where no link is behind them END is
-- at their place.
abbrev pub with_gap : ℕ → ℕ → List Link → List Link
with_gap place n [] = []
with_gap place n (RecordAt p bytes ∷ links) = GapAt place n ∷ RecordAt p bytes ∷ links
with_gap place n (GapAt p m ∷ links) = GapAt place (n + m) ∷ links

-- the links without the record at this place: its bytes are free, and the gaps on both sides are one with them
abbrev pub without_record : ℕ → List Link → List Link
without_record place [] = []
without_record place (RecordAt p bytes ∷ links) =
    if p == place then with_gap p (length bytes) links else RecordAt p bytes ∷ without_record place links
without_record place (GapAt p n ∷ links) = with_gap p n (without_record place links)

-- the records among links, each with its place and its bytes
abbrev pub records_among : List Link → List Link
records_among [] = []
records_among (RecordAt p bytes ∷ links) = RecordAt p bytes ∷ records_among links
records_among (GapAt p n ∷ links) = records_among links

-- n free bytes in front of links, the first of which is a record: a gap, or END where there are none
abbrev pub free_links : ℕ → ℕ → List Link → List Link
free_links place n [] = []
free_links place n (link ∷ links) = GapAt place n ∷ link ∷ links

-- and their word: a gap's, or END's
abbrev pub free_word : ℕ → List Link → ℕ
free_word n [] = 0
free_word n (link ∷ links) = 2 ^ 32 - n

-- One word makes of the links those without the record at a place: what stands before it stays, and what stands behind the n
-- bytes that are free.
pub record IsFreedBy (links : List Link) (place at word : ℕ) : Type 0 where
  pub front : List Link
  pub mid : List Link
  pub back : List Link
  pub n : ℕ
  pub is : links ≡ front ++ (mid ++ back)
  pub after : without_record place links ≡ front ++ free_links at n back
  pub at_is : at ≡ chain_end front
  pub long : end_from at mid ≡ at + n
  pub word_is : word ≡ free_word n back
  pub later : 100 < at
  pub some : 4 ≤ n
  pub small : n ≤ 2 ^ 31
  pub aligned : n % 4 ≡ 0
