-- The records that are left, when the next of them is read.
use Rattle.std.proofs.Common.{◌≡◌, ◌<◌, ◌+◌, ◌∷◌, ◌∙◌, [], ℕ, suc, zero, List, Option, Some, None, IsSome, Bool, Bor, true, false, length, map, refl, sym, ap, arith}
use Rattle.std.specs.Option.{option_map}
use Rattle.csv.specs.Machine.{Read, next_record}
use Rattle.csv.specs.Reading.{Reached, ReadRecord, ReadsOn, default_config, reader_state, records_from, records_next}
use Rattle.csv.specs.declared.parser.State.{State}
use Rattle.csv.proofs.ReadFacts.{rows-end, rows-more}
use Rattle.rio_csv.specs.{Rows.{row_in}, Unread.{IsBetween, ReadsRecords, TakesFirst, TakesRecord, TextReader, records_left, records_of, rows_left, text_left}}
use Rattle.rio_csv.specs.declared.reader.Progress.TheVariants.{Reading}
use Rattle.rio_format.specs.declared.value.Value.{Value}
use Rattle.rio_csv.proofs.RecordLaws.{takes}

-- more turns than bytes make no difference
pub turns_agree : (n m : ℕ) (s : State) (text : List ℕ) → IsBetween s → length text < n → length text < m
    → records_from default_config n s text ≡ records_from default_config m s text
unfolding records_from
turns_agree zero m s text between n_more m_more = absurd (omega (arith, n_more))
turns_agree (suc n) zero s text between n_more m_more = absurd (omega (arith, m_more))
turns_agree (suc n) (suc m) s text between n_more m_more =
    by (next_record default_config s [] [] text) refl (λ p. turns_agree n m p.1 p.2)
  where
    by : (read : Option Read) → next_record default_config s [] [] text ≡ read
        → ((p : Read) → IsBetween p.1 → length p.2 < n → length p.2 < m → records_from default_config n p.1 p.2 ≡ records_from default_config m p.1 p.2)
        → records_next (records_from default_config n) read ≡ records_next (records_from default_config m) read
    by None is again = refl
    by (Some p) is again =
        let taken = takes s text p between is in
        rw (again p taken.1 (omega (arith, taken.0, n_more)) (omega (arith, taken.0, m_more))) refl

-- the next record, and those behind it
pub one_more : (s : State) (text : List ℕ) (p : Read) → IsBetween s → next_record default_config s [] [] text ≡ Some p
    → records_left s text ≡ p.0 ∷ records_left p.1 p.2
unfolding records_from
one_more s text p between is =
    let taken = takes s text p between is in
    let turns : length text + 1 ≡ suc (length text) = omega arith in
    rw (turns, is, turns_agree (length text) (length p.2 + 1) p.1 p.2 taken.1 taken.0 (omega arith)) refl

pub no_more : (s : State) (text : List ℕ) → next_record default_config s [] [] text ≡ None → records_left s text ≡ []
unfolding records_from
no_more s text is =
    let turns : length text + 1 ≡ suc (length text) = omega arith in
    rw (turns, is) refl

-- ---- the reader

known : {A : Type 0} (o : Option A) → IsSome o → (x : A) × (o ≡ Some x)
known None h = absurd cc
known (Some x) h = (x, refl)

abbrev bytes_left : Bor (List ℕ) → Option (List ℕ)
bytes_left s = Some s.now

-- one record was reached, and nothing behind it
one_reached : (s last : State) (text left : List ℕ) (fields : List (List ℕ)) → IsBetween s
    → Reached default_config s text (fields ∷ []) last left
    → IsBetween last × (records_left s text ≡ fields ∷ records_left last left)
unfolding Reached
one_reached s last text left fields between r =
    let p = r.0 in
    let taken = takes s text p between r.1 in
    (rw r.3.0 at taken.1, one_more s text p between r.1 ∙ rw (r.2, r.3.0, r.3.1) refl)

none_reached : (s : State) (text : List ℕ) → Reached default_config s text [] s text
unfolding Reached
none_reached s text = (refl, refl)

no_record : (old new : TextReader) (fields : List (List ℕ)) → ReadsRecords old → ReadRecord bytes_left old new false fields → records_of old ≡ Some []
no_record old new fields reads r =
    let text = known (text_left old) reads.text in
    let none = rows-end bytes_left old new fields default_config text.0 reads.config text.1 r in
    ap (option_map (records_left (reader_state old))) text.1 ∙ ap (λ (rs : List (List (List ℕ))). Some rs) (no_more (reader_state old) text.0 none)

one_record : (old new : TextReader) (fields : List (List ℕ)) → ReadsRecords old → ReadRecord bytes_left old new true fields → ReadsOn old new
    → TakesRecord old true fields new
one_record old new fields reads r on =
    let text = known (text_left old) reads.text in
    let s = reader_state old in
    let m = rows-more bytes_left old new fields default_config s text.0 text.0 [] reads.config text.1 (none_reached s text.0) r in
    let one = one_reached s (reader_state new) text.0 m.0 fields reads.between m.2 in (
      record {
        trim = on.1 ∙ reads.trim;
        ready = (on.4 reads.ready).0;
        config = on.0 ∙ reads.config;
        flexible = on.2 ∙ reads.flexible;
        between = one.0;
        text = rw m.1 refl;
      },
      (
        records_left (reader_state new) m.0,
        ap (option_map (records_left s)) text.1 ∙ ap (λ (rs : List (List (List ℕ))). Some rs) one.1,
        ap (option_map (records_left (reader_state new))) m.1,
      ),
    )

pub taken : (old new : TextReader) (found : Bool) (fields : List (List ℕ)) → ReadsRecords old → ReadRecord bytes_left old new found fields
    → (found ≡ true → ReadsOn old new) → TakesRecord old found fields new
taken old new false fields reads r on = no_record old new fields reads r
taken old new true fields reads r on = one_record old new fields reads r (on refl)

-- ---- rows

pub row_taken : (letters : List ℕ) (old new : TextReader) (fields : List (List ℕ)) (row : List Value)
    → TakesFirst (records_of old) (Some fields) (records_of new) → row ≡ row_in letters fields
    → TakesFirst (rows_left Reading letters old) (Some row) (rows_left Reading letters new)
row_taken letters old new fields row t is =
    (map (row_in letters) t.0, rw (t.1, is) refl, rw t.2 refl)

pub no_row_taken : (letters : List ℕ) (old : TextReader) → records_of old ≡ Some [] → rows_left Reading letters old ≡ Some []
no_row_taken letters old none = rw none refl
