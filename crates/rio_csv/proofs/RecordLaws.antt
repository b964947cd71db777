-- The records that are read one by one are those of the text.
use Rattle.std.proofs.Common.{◌≡◌, ◌<◌, ◌≤◌, ◌+◌, ◌==◌, ◌∷◌, ◌++◌, [], ℕ, suc, zero, List, Bool, true, false, Option, Some, None, length, refl, sym, arith}
use Rattle.std.specs.Prelude.{if◌then◌else◌}
use Rattle.csv.specs.Machine.{Read, ends_at_end, ends_with, field_after, fields_after, in_field, is_end, next_record, start_field, start_record, step}
use Rattle.csv.specs.Reading.{AreRecords, Reached, default_config, records, records_from}
use Rattle.rio_csv.specs.Unread.{IsBetween}
use Rattle.csv.specs.declared.parser.Action.{Action}
use Rattle.csv.specs.declared.parser.State.{State}
use Rattle.csv.specs.declared.parser.State.TheVariants as st
use Rattle.csv.specs.declared.parser.Terminator.TheVariants as term

-- where the record ends with it, the state is one between two records
abbrev EndsBetween : State × Action → Type 0
EndsBetween p = is_end p.1 ≡ true → IsBetween p.0

either : (b : Bool) (p q : State × Action) → EndsBetween p → EndsBetween q → EndsBetween (if b then p else q)
either true p q hp hq = hp
either false p q hp hq = hq

after_end_between : (b : Bool) → IsBetween (if b then st.AfterCr else st.StartRecord)
after_end_between true = refl
after_end_between false = refl

in_field_ends : (c : ℕ) → EndsBetween (in_field default_config c)
in_field_ends c = either (c == 44) _ _ (λ h. cc h) (either (ends_with term.CRLF c) _ _ (λ h. after_end_between (c == 13)) (λ h. cc h))

start_field_ends : (c : ℕ) → EndsBetween (start_field default_config c)
start_field_ends c = either (c == 34) _ _ (λ h. cc h) (in_field_ends c)

start_record_ends : (c : ℕ) → EndsBetween (start_record default_config c)
start_record_ends c = either (ends_with term.CRLF c) _ _ (λ h. cc) (start_field_ends c)

step_ends : (s : State) (c : ℕ) → EndsBetween (step default_config s c)
step_ends st.StartRecord c = start_record_ends c
step_ends st.StartField c = start_field_ends c
step_ends st.InField c = in_field_ends c
step_ends st.InQuoted c = either (c == 34) _ _ (λ h. cc) (λ h. cc h)
step_ends st.InEscape c = λ h. cc h
step_ends st.AfterQuote c = either (c == 34) _ _ (λ h. cc h) (in_field_ends c)
step_ends st.InComment c = either (c == 10) _ _ (λ h. cc h) (λ h. cc h)
step_ends st.AfterCr c = either (c == 10) _ _ (λ h. cc h) (start_record_ends c)

-- a record takes some of the text, and ends between two records
abbrev Goes : ℕ → Read → Type 0
Goes n p = (length p.2 ≤ n) × IsBetween p.1

-- the fields and the field at hand behind a byte, and what is read of the rest
abbrev after_byte : State → List (List ℕ) → List ℕ → ℕ → List ℕ → Option Read
after_byte s fields field c rest =
    let next = step default_config s c in
    next_record default_config next.0 (fields_after next.1 fields field) (field_after next.1 c field) rest

one_byte : (s : State) (fields : List (List ℕ)) (field : List ℕ) (c : ℕ) (rest : List ℕ) (p : Read)
    → (after_byte s fields field c rest ≡ Some p → Goes (length rest) p)
    → next_record default_config s fields field (c ∷ rest) ≡ Some p → (length p.2 < suc (length rest)) × IsBetween p.1
unfolding next_record
one_byte s fields field c rest p more h = by (is_end (step default_config s c).1) refl h
  where
    by : (b : Bool) → is_end (step default_config s c).1 ≡ b
        → (if b then Some (fields_after (step default_config s c).1 fields field, (step default_config s c).0, rest) else after_byte s fields field c rest) ≡ Some p
        → (length p.2 < suc (length rest)) × IsBetween p.1
    by true is e =
        let same : p ≡ (fields_after (step default_config s c).1 fields field, (step default_config s c).0, rest) = cc e in
        rw same (omega arith, step_ends s c is)
    by false is e = let rest_goes = more e in (omega (arith, rest_goes.0), rest_goes.1)

goes_on : (s : State) (fields : List (List ℕ)) (field text : List ℕ) (p : Read)
    → next_record default_config s fields field text ≡ Some p → Goes (length text) p
unfolding next_record
goes_on s fields field [] p h = by (ends_at_end s) h
  where
    by : (b : Bool) → (if b then Some (fields ++ (field ∷ []), st.StartRecord, []) else None) ≡ Some p → Goes 0 p
    by true e =
        let same : p ≡ (fields ++ (field ∷ []), st.StartRecord, []) = cc e in
        rw same (omega arith, refl)
    by false e = cc e
goes_on s fields field (c ∷ rest) p h =
    let next = step default_config s c in
    let more = one_byte s fields field c rest p (goes_on next.0 (fields_after next.1 fields field) (field_after next.1 c field) rest p) h in
    (omega (arith, more.0), more.1)

-- from between two records it takes a byte
pub takes : (s : State) (text : List ℕ) (p : Read) → IsBetween s → next_record default_config s [] [] text ≡ Some p
    → (length p.2 < length text) × IsBetween p.1
unfolding next_record
takes s [] p between h = cc (rw between at h)
takes s (c ∷ rest) p between h =
    let next = step default_config s c in
    one_byte s [] [] c rest p (goes_on next.0 (fields_after next.1 [] []) (field_after next.1 c []) rest p) h

reached : (read : List (List (List ℕ))) (n : ℕ) (s last : State) (text left : List ℕ) → IsBetween s → length text < n
    → Reached default_config s text read last left → next_record default_config last [] [] left ≡ None
    → records_from default_config n s text ≡ read
unfolding Reached records_from
reached read zero s last text left between most r end = absurd (omega (arith, most))
reached [] (suc n) s last text left between most r end = rw (r.0, r.1, end) refl
reached (one ∷ more) (suc n) s last text left between most r end =
    let taken = takes s text r.0 between r.1 in
    let rest = reached more n r.0.1 last r.0.2 left taken.1 (omega (arith, taken.0, most)) r.3 end in
    rw (r.1, rest, r.2) refl

pub are_records : (text : List ℕ) (read : List (List (List ℕ))) → AreRecords default_config st.StartRecord text read
    → read ≡ records default_config text
are_records text read r = sym (reached read (length text + 1) st.StartRecord r.0 text r.1 refl (omega arith) r.2 r.3)
