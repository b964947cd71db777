-- The entries of a free record: reading, spelling and first faults are one.
use Rattle.std.proofs.Common.{◌≡◌, ℕ, zero, suc, ◌+◌, ◌-◌, ◌≤◌, Bool, true, false, cond, List, [], ◌∷◌, length, Option, None, Some, Result, Ok, Err, refl, ap, subst, ◌∙◌, arith}
use Rattle.rio_num.specs.{At.{AreBytes}, Meanings.{read, stand}, Room.{is_padding}}
use Rattle.rio_num.proofs.{Agree.{broken_is_fault, fault_is_broken}, ReadLaws.{bind_ok, ok_is}}
use Rattle.rio_free.specs.{declared.entry.FreeEntry.{FreeEntry}, declared.fault.FreeFault.{FreeFault}, Entry.{next_entry}}
use Rattle.rio_free.specs.{EntryList.{free_entries_at}, Laws.{EntriesAgree}, Spelling.{BreaksEntries, HasEntry, SpellsEntries}}
use Rattle.rio_free.proofs.EntryReads.{Behind, Entries, at_end, before_all, nothing_left, one_less, then_at}
use Rattle.rio_free.proofs.EntrySpells.{entry_again, entry_found, goes_on_behind, rest_shorter}

-- ---- what is spelled is read, and what breaks is the fault

-- one entry, and what is read behind it
one_then : (n p : ℕ) (before : Option ℕ) (e : FreeEntry) (bytes rest : List ℕ) → HasEntry before e bytes rest
    → free_entries_at (suc n) (stand p bytes before) ≡ before_all e (free_entries_at n (stand (p + (length bytes - length rest)) rest (Some e.last)))
unfolding free_entries_at
one_then n p before e bytes rest h =
    let more : is_padding bytes ≡ false = goes_on_behind bytes (omega (arith, rest_shorter before e bytes rest h)) in
    rw (more, entry_again p before e bytes rest h) refl

pub spelled_again : (n p : ℕ) (before : Option ℕ) (es : List FreeEntry) (bytes : List ℕ) → length bytes ≤ n → SpellsEntries before es bytes → free_entries_at n (stand p bytes before) ≡ Ok es
spelled_again n p before [] bytes le c = at_end n (stand p bytes before) c
spelled_again zero p before (e ∷ es) bytes le c = absurd (omega (arith, le, rest_shorter before e bytes c.0 c.1))
spelled_again (suc n) p before (e ∷ es) bytes le c =
    one_then n p before e bytes c.0 c.1
    ∙ ap (before_all e) (spelled_again n (p + (length bytes - length c.0)) (Some e.last) es c.0 (omega (arith, le, rest_shorter before e bytes c.0 c.1)) c.2)

-- no end of the list is empty
no_end_some : (bytes : List ℕ) (n : ℕ) → length bytes ≤ 0 → is_padding bytes ≡ false → suc n ≤ 0
no_end_some bytes n le more = absurd (let ends = nothing_left bytes le in cc)

pub broken_again : (n p : ℕ) (before : Option ℕ) (fault : FreeFault) (es : List FreeEntry) (bytes : List ℕ) → length bytes ≤ n → BreaksEntries before p fault es bytes → free_entries_at n (stand p bytes before) ≡ Err fault
unfolding free_entries_at
broken_again zero p before fault [] bytes le c = absurd (omega (arith, no_end_some bytes 0 le c.0))
broken_again (suc n) p before fault [] bytes le c = rw (c.0, broken_is_fault next_entry p before bytes fault c.1) refl
broken_again zero p before fault (e ∷ es) bytes le c = absurd (omega (arith, le, rest_shorter before e bytes c.0 c.1))
broken_again (suc n) p before fault (e ∷ es) bytes le c =
    one_then n p before e bytes c.0 c.1
    ∙ ap (before_all e) (broken_again n (p + (length bytes - length c.0)) (Some e.last) fault es c.0 (omega (arith, le, rest_shorter before e bytes c.0 c.1)) c.2)

-- ---- what is read is spelled, and what fails is broken

abbrev given : List FreeEntry → Entries
given es = Ok es

-- what is read where the list has ended
ended : (s : Behind) (es : List FreeEntry) → is_padding s.at.rest ≡ true → given [] ≡ Ok es → SpellsEntries s.words es s.at.rest
ended s es ends h = subst (λ (l : List FreeEntry). SpellsEntries s.words l s.at.rest) (ok_is {E = FreeFault} [] es h) ends

abbrev Spelled : ℕ → Type 0
Spelled n = (s : Behind) (es : List FreeEntry) → length s.at.rest ≤ n → AreBytes s.at.rest → free_entries_at n s ≡ Ok es → SpellsEntries s.words es s.at.rest

spelled_behind : (n : ℕ) → Spelled n → (s : Behind) (es : List FreeEntry) (r : Result (FreeEntry × Behind) FreeFault) → length s.at.rest ≤ suc n → AreBytes s.at.rest → read next_entry s ≡ r → then_at n r ≡ Ok es → SpellsEntries s.words es s.at.rest
spelled_behind n others s es (Err d) le fits is h = absurd cc
spelled_behind n others s es (Ok y) le fits is h =
    let one = one_less s y.0 y.1 fits is in
    let found = entry_found s y.0 y.1 fits is in
    let b = bind_ok (free_entries_at n y.1) (λ entries. given (y.0 ∷ entries)) es h in
    let rest = others y.1 b.0 (omega (arith, le, one.less)) one.fits b.1 in
    let behind : SpellsEntries (Some y.0.last) b.0 y.1.at.rest = subst (λ (w : Option ℕ). SpellsEntries w b.0 y.1.at.rest) found.words rest in
    subst (λ (l : List FreeEntry). SpellsEntries s.words l s.at.rest) (ok_is {E = FreeFault} (y.0 ∷ b.0) es b.2) (y.1.at.rest, found.has, behind)

pub found_spelled : (n : ℕ) → Spelled n
unfolding free_entries_at
found_spelled zero s es le fits h = ended s es (nothing_left s.at.rest le) h
found_spelled (suc n) s es le fits h = by (found_spelled n) (is_padding s.at.rest) refl h
  where
    by : Spelled n → (b : Bool) → is_padding s.at.rest ≡ b → cond b (Ok []) (then_at n (read next_entry s)) ≡ Ok es → SpellsEntries s.words es s.at.rest
    by others true ends h = ended s es ends h
    by others false more h = spelled_behind n others s es (read next_entry s) le fits refl h

abbrev IsBroken : FreeFault → Behind → Type 0
IsBroken fault s = (es : List FreeEntry) × BreaksEntries s.words s.at.place fault es s.at.rest

abbrev Broken : ℕ → Type 0
Broken n = (s : Behind) (fault : FreeFault) → length s.at.rest ≤ n → AreBytes s.at.rest → free_entries_at n s ≡ Err fault → IsBroken fault s

then_broken : (e : FreeEntry) (r : Entries) (fault : FreeFault) → before_all e r ≡ Err fault → r ≡ Err fault
then_broken e (Ok es) fault h = absurd cc
then_broken e (Err d) fault h = let same : d ≡ fault = cc in ap (λ (f : FreeFault). let r : Entries = Err f in r) same

broken_behind : (n : ℕ) → Broken n → (s : Behind) (fault : FreeFault) (r : Result (FreeEntry × Behind) FreeFault) → length s.at.rest ≤ suc n → AreBytes s.at.rest → is_padding s.at.rest ≡ false → read next_entry s ≡ r → then_at n r ≡ Err fault → IsBroken fault s
broken_behind n others s fault (Err d) le fits more is h =
    let same : d ≡ fault = cc in
    let here : read next_entry s ≡ Err fault = is ∙ ap (λ (f : FreeFault). let r : Result (FreeEntry × Behind) FreeFault = Err f in r) same in
    ([], (more, fault_is_broken next_entry s fault fits here))
broken_behind n others s fault (Ok y) le fits more is h =
    let one = one_less s y.0 y.1 fits is in
    let found = entry_found s y.0 y.1 fits is in
    let rest = others y.1 fault (omega (arith, le, one.less)) one.fits (then_broken y.0 (free_entries_at n y.1) fault h) in
    let placed = subst (λ (p : ℕ). BreaksEntries y.1.words p fault rest.0 y.1.at.rest) found.place rest.1 in
    let behind = subst (λ (w : Option ℕ). BreaksEntries w (s.at.place + (length s.at.rest - length y.1.at.rest)) fault rest.0 y.1.at.rest) found.words placed in
    (y.0 ∷ rest.0, (y.1.at.rest, found.has, behind))

pub found_broken : (n : ℕ) → Broken n
unfolding free_entries_at
found_broken zero s fault le fits h = absurd cc
found_broken (suc n) s fault le fits h = by (found_broken n) (is_padding s.at.rest) refl h
  where
    by : Broken n → (b : Bool) → is_padding s.at.rest ≡ b → cond b (Ok []) (then_at n (read next_entry s)) ≡ Err fault → IsBroken fault s
    by others true ends h = absurd cc
    by others false more h = broken_behind n others s fault (read next_entry s) le fits more refl h

pub entries_agree : (bytes : List ℕ) → EntriesAgree bytes
entries_agree bytes = record {
  spelled_is_read = λ es c. spelled_again (length bytes) 0 None es bytes (omega arith) c;
  broken_is_fault = λ fault es c. broken_again (length bytes) 0 None fault es bytes (omega arith) c;
  read_is_spelled = λ es fits h. found_spelled (length bytes) (stand 0 bytes None) es (omega arith) fits h;
  fault_is_broken = λ fault fits h. found_broken (length bytes) (stand 0 bytes None) fault (omega arith) fits h;
}
