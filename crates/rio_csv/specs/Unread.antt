-- What is still to be read of a text: the records that the crate csv has yet to read, and the rows that they are.
use Rattle.std.specs.{Prelude.{◌≡◌, ℕ, ◌+◌, List, [], ◌∷◌, length, map, Option, Some, None, IsSome, option_map, Bool, true, false}, Borrow.{Bor}}
use Rattle.csv.specs.Machine.{ends_at_end}
use Rattle.csv.specs.Reading.{Ready, default_config, is_flexible, reader_config, reader_state, reader_trim, records_from, source_of}
use Rattle.csv.specs.declared.parser.State.{State}
use Rattle.csv.specs.declared.reader.Reader.{Reader}
use Rattle.csv.specs.declared.reader.Trim.TheVariants.{None as NoTrim}
use Rattle.rio_csv.specs.Rows.{row_in}
use Rattle.rio_csv.specs.declared.reader.Progress.{Progress, TheVariants.{Reading, Ended, Failed}}
use Rattle.rio_format.specs.declared.value.Value.{Value}

-- ---- records

-- a reader of bytes that are in memory
abbrev pub TextReader : Type 0
TextReader = Reader (Bor (List ℕ))

-- the bytes that it has yet to read; None where it failed
abbrev pub text_left : TextReader → Option (List ℕ)
text_left reader = source_of (λ s. Some s.now) reader

-- between two records
abbrev pub IsBetween : State → Type 0
IsBetween s = ends_at_end s ≡ false

-- the records of a text, from between two records on
abbrev pub records_left : State → List ℕ → List (List (List ℕ))
records_left s text = records_from default_config (length text + 1) s text

abbrev pub records_of : TextReader → Option (List (List (List ℕ)))
records_of reader = option_map (records_left (reader_state reader)) (text_left reader)

-- it reads records of any length as they stand, without a header, and is between two of them
pub record ReadsRecords (reader : TextReader) : Type 0 where
  pub trim : reader_trim reader ≡ NoTrim
  pub ready : Ready reader
  pub config : reader_config reader ≡ default_config
  pub flexible : is_flexible reader ≡ true
  pub between : IsBetween (reader_state reader)
  pub text : IsSome (text_left reader)

-- ---- what is taken

-- the first item is taken, if there is one; nothing is taken of what isn't known
abbrev pub TakesFirst : {A : Type 0} → Option (List A) → Option A → Option (List A) → Type 0
TakesFirst {A} old None new = (old ≡ Some []) × (new ≡ Some [])
TakesFirst {A} old (Some item) new = (rest : List A) × (old ≡ Some (item ∷ rest)) × (new ≡ Some rest)

-- the reader read a record with these fields, or there was none
abbrev pub TakesRecord : TextReader → Bool → List (List ℕ) → TextReader → Type 0
TakesRecord old false fields new = records_of old ≡ Some []
TakesRecord old true fields new = ReadsRecords new × TakesFirst (records_of old) (Some fields) (records_of new)

-- ---- rows

-- the rows that a reader has yet to read; None where it failed
abbrev pub rows_left : Progress → List ℕ → TextReader → Option (List (List Value))
rows_left Reading letters reader = option_map (map (row_in letters)) (records_of reader)
rows_left Ended letters reader = Some []
rows_left Failed letters reader = None

-- while it reads, the reader below is between two records
abbrev pub IsAtRow : Progress → TextReader → Type 0
IsAtRow Reading reader = ReadsRecords reader
IsAtRow Ended reader = Unit {0}
IsAtRow Failed reader = Unit {0}
