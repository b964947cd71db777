-- What is read of the bytes of a record is read of the file.
use Rattle.std.proofs.Common.{◌≡◌, ◌⊎◌, ⊎_elim, ℕ, Some, ◌+◌, ◌<◌, ◌≤◌, ◌^◌, List, length, take, drop, Result, Ok, Err, refl, sym, ap, subst, ◌∙◌, arith}
use Rattle.byteorder.specs.Endian.{big_number}
use Rattle.rio_num.specs.{At.{At}, Reading.{◌>>=◌}}
use Rattle.rio_num.proofs.Plain.{standing}
use Rattle.rio_key.specs.{declared.head.KeyHead.{KeyHead}, declared.fault.KeyFault.{KeyFault}, Key.{key_at}}
use Rattle.rio_key.proofs.{KeyFront.{key_in_front_lem, key_from_front_lem}, KeyRecord.{key_record, key_whole}}
use Rattle.rio_head.specs.declared.fault.HeadFault.{HeadFault}
use Rattle.rio_dir.specs.Closed.{data_at, file_at, or_fault, record_at}
use Rattle.rio_close.specs.{Opens.{IsRecordAt, Opens, record_in}, declared.fault.ReportFault.{ReportFault}}

abbrev pub Keyed : Type 0
Keyed = Result KeyHead KeyFault

-- no record begins there
abbrev pub NoRecord : List ℕ → Type 0
NoRecord bytes = (length bytes < 4) ⊎ ((2 ^ 31 ≤ big_number 4 bytes) × (big_number 4 bytes < 2 ^ 32))

module _ (fault : HeadFault) where
  -- the same key, or none, from the record's bytes as from all
  same_key : (place : ℕ) (bytes : List ℕ) → big_number 4 bytes < 2 ^ 32 → (whole front : Keyed) → key_at (standing place bytes) ≡ whole → key_at (standing place (take (big_number 4 bytes) bytes)) ≡ front → or_fault fault whole ≡ or_fault fault front
  same_key place bytes lt (Ok h) front w f =
      let r = key_record place bytes h lt w in
      let again = key_in_front_lem place (big_number 4 bytes) bytes h r.key_held w in
      ap (or_fault fault) (sym again ∙ f)
  same_key place bytes lt (Err d) (Ok h) w f = absurd (let whole = key_from_front_lem place (big_number 4 bytes) bytes h f in cc)
  same_key place bytes lt (Err d) (Err e) w f = refl

  no_key : (place : ℕ) (bytes : List ℕ) (read : Keyed) → NoRecord bytes → key_at (standing place bytes) ≡ read → or_fault fault read ≡ Err fault
  no_key place bytes (Err e) none is = refl
  no_key place bytes (Ok h) none is =
      absurd (⊎_elim (λ few. omega (arith, key_whole place bytes h is, few)) (λ much. omega (arith, (key_record place bytes h much.1 is).small, much.0)) none)

module _ {A : Type 0} (fault : HeadFault) (read : KeyHead → At → Result A HeadFault) (file : List ℕ) (place : ℕ) where
  abbrev behind : List ℕ → Result KeyHead HeadFault → Result A HeadFault
  behind bytes key = key >>= λ key. read key (standing (place + key.keylen) (drop key.keylen bytes))

  -- the record's bytes, where a key begins them
  record_by : (whole : Keyed) → big_number 4 (drop place file) < 2 ^ 32 → key_at (file_at file place) ≡ whole
      → (or_fault fault whole >>= λ key. read key (data_at file place key)) ≡ behind (take (big_number 4 (drop place file)) (drop place file)) (or_fault fault whole)
  record_by (Ok h) lt is =
      let r = key_record place (drop place file) h lt is in
      ap (λ (n : ℕ). read h (standing (place + h.keylen) (drop h.keylen (take n (drop place file))))) r.length_is
  record_by (Err d) lt is = refl

  pub record_same : big_number 4 (drop place file) < 2 ^ 32 → record_at fault read file place ≡ record_in fault read place (take (big_number 4 (drop place file)) (drop place file))
  record_same lt =
      let bytes = drop place file in
      record_by (key_at (file_at file place)) lt refl
      ∙ ap (behind (take (big_number 4 bytes) bytes)) (same_key fault place bytes lt (key_at (standing place bytes)) (key_at (standing place (take (big_number 4 bytes) bytes))) refl refl)

  -- where no record begins, no key does
  pub record_none : NoRecord (drop place file) → record_at fault read file place ≡ Err fault
  record_none none =
      ap (λ (k : Result KeyHead HeadFault). k >>= λ key. read key (data_at file place key)) (no_key fault place (drop place file) (key_at (file_at file place)) none refl)

  -- what is answered of the record's bytes is answered of the file
  pub record_found : (found : List ℕ) (r : Result A ReportFault) → IsRecordAt (drop place file) (Some found) → Opens r (record_in fault read place found) → Opens r (record_at fault read file place)
  record_found found r is opens =
      subst (λ (of : Result A HeadFault). Opens r of) (ap (record_in fault read place) is.2 ∙ sym (record_same (omega (arith, is.1)))) opens
