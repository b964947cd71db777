-- Reading the entries of a free record, one behind the other.
use Rattle.std.proofs.Common.{◌≡◌, ℕ, zero, suc, ◌-◌, ◌^◌, ◌<◌, ◌≤◌, Bool, true, false, cond, List, [], ◌∷◌, ◌++◌, length, drop, Option, Some, Result, Ok, Err, refl, sym, ap, subst, ◌∙◌, append_assoc, arith}
use Rattle.std.proofs.lemmas.List.{append-nil, drop_at, length-append}
use Rattle.byteorder.specs.Numbers.{length-bytes_high_first}
use Rattle.rio_num.specs.{At.{AreBytes}, Meanings.{HasTaken, Standing, read}, Reading.{◌>>=◌}, Room.{is_padding}}
use Rattle.rio_num.proofs.{Agree.{read_is_spelled}, ReadLaws.{IsBytes-drop}}
use Rattle.rio_free.specs.{declared.entry.FreeEntry.{FreeEntry}, declared.fault.FreeFault.{FreeFault}, Entry.{is_above, next_entry}}
use Rattle.rio_free.specs.EntryList.{AreEntriesAbove, free_entries_at}

abbrev pub Behind : Type 0
Behind = Standing (Option ℕ)

abbrev pub Entries : Type 0
Entries = Result (List FreeEntry) FreeFault

-- entries before those that are read
abbrev pub with_entries : List FreeEntry → Entries → Entries
with_entries front read = read >>= λ entries. Ok (front ++ entries)

abbrev pub before_all : FreeEntry → Entries → Entries
before_all e read = read >>= λ entries. Ok (e ∷ entries)

with_entries-more : (front : List FreeEntry) (e : FreeEntry) (r : Entries) → with_entries front (before_all e r) ≡ with_entries (front ++ e ∷ []) r
with_entries-more front e (Ok es) = ap (λ (l : List FreeEntry). let r : Entries = Ok l in r) (sym (append_assoc front (e ∷ []) es))
with_entries-more front e (Err d) = refl

pub with_entries-none : (r : Entries) → with_entries [] r ≡ r
with_entries-none (Ok es) = refl
with_entries-none (Err d) = refl

-- what is behind an entry has fewer bytes
pub record IsLess (s s' : Behind) : Type 0 where
  pub less : length s'.at.rest < length s.at.rest
  pub fits : AreBytes s'.at.rest

pub one_less : (s : Behind) (e : FreeEntry) (s' : Behind) → AreBytes s.at.rest → read next_entry s ≡ Ok (e, s') → IsLess s s'
unfolding next_entry
one_less s e s' fits h =
    let took : HasTaken next_entry s e s' = read_is_spelled next_entry s e s' fits h in
    let c = took.spelled in
    let version : 2 ≤ length took.front = omega (arith, ap length c.4, length-append c.1 c.2, ap length c.6.4, length-append c.6.1 c.6.2, ap length c.6.5.1, length-bytes_high_first 2 c.6.0) in
    record {
      less = omega (arith, version, ap length took.parts, length-append took.front s'.at.rest);
      fits = subst AreBytes (ap (drop (length took.front)) took.parts ∙ drop_at took.front s'.at.rest (length took.front) refl) (IsBytes-drop (length took.front) s.at.rest fits);
    }

-- ---- how many entries are looked for doesn't matter, where there are no fewer than bytes

pub nothing_left : (rest : List ℕ) → length rest ≤ 0 → is_padding rest ≡ true
nothing_left [] le = refl
nothing_left (b ∷ rest) le = absurd (omega (arith, le))

pub at_end : (n : ℕ) (s : Behind) → is_padding s.at.rest ≡ true → free_entries_at n s ≡ Ok []
unfolding free_entries_at
at_end zero s e = refl
at_end (suc n) s e = rw e refl

abbrev pub then_at : ℕ → Result (FreeEntry × Behind) FreeFault → Entries
then_at n r = r >>= λ entry. before_all entry.0 (free_entries_at n entry.1)

pub enough : (n m : ℕ) (s : Behind) → AreBytes s.at.rest → length s.at.rest ≤ n → length s.at.rest ≤ m → free_entries_at n s ≡ free_entries_at m s
unfolding free_entries_at
enough zero zero s fits le more = refl
enough zero (suc m) s fits le more = rw (nothing_left s.at.rest le) refl
enough (suc n) zero s fits le more = rw (nothing_left s.at.rest more) refl
enough (suc n) (suc m) s fits le more = by (λ t. enough n m t) (is_padding s.at.rest) (read next_entry s) refl
  where
    by : ((t : Behind) → AreBytes t.at.rest → length t.at.rest ≤ n → length t.at.rest ≤ m → free_entries_at n t ≡ free_entries_at m t) → (b : Bool) (r : Result (FreeEntry × Behind) FreeFault) → read next_entry s ≡ r → cond b (Ok []) (then_at n r) ≡ cond b (Ok []) (then_at m r)
    by same true r h = refl
    by same false (Err d) h = refl
    by same false (Ok y) h =
        let one = one_less s y.0 y.1 fits h in
        ap (before_all y.0) (same y.1 one.fits (omega (arith, one.less, le)) (omega (arith, one.less, more)))

-- ---- the loop

module _ (front : List FreeEntry) (s : Behind) (total : Entries) (so_far : with_entries front (free_entries_at (length s.at.rest) s) ≡ total) where
  some_left : (rest : List ℕ) → is_padding rest ≡ false → length rest ≡ suc (length rest - 1)
  some_left [] e = absurd cc
  some_left (b ∷ rest) e = omega arith

  pub goes_on : (e : FreeEntry) (s' : Behind) → AreBytes s.at.rest → is_padding s.at.rest ≡ false → read next_entry s ≡ Ok (e, s') → with_entries (front ++ e ∷ []) (free_entries_at (length s'.at.rest) s') ≡ total
  unfolding free_entries_at
  goes_on e s' fits more h =
      let one = one_less s e s' fits h in
      let split : length s.at.rest ≡ suc (length s.at.rest - 1) = some_left s.at.rest more in
      let same : free_entries_at (length s.at.rest - 1) s' ≡ free_entries_at (length s'.at.rest) s' = enough (length s.at.rest - 1) (length s'.at.rest) s' one.fits (omega (arith, one.less)) (omega arith) in
      let next : free_entries_at (length s.at.rest) s ≡ before_all e (free_entries_at (length s'.at.rest) s') = rw (split, more, h) (ap (before_all e) same) in
      sym (with_entries-more front e (free_entries_at (length s'.at.rest) s')) ∙ ap (with_entries front) (sym next) ∙ so_far

  pub fails : (d : FreeFault) → is_padding s.at.rest ≡ false → read next_entry s ≡ Err d → total ≡ Err d
  unfolding free_entries_at
  fails d more h =
      let split : length s.at.rest ≡ suc (length s.at.rest - 1) = some_left s.at.rest more in
      let next : free_entries_at (length s.at.rest) s ≡ Err d = rw (split, more, h) refl in
      sym so_far ∙ ap (with_entries front) next

  pub all_read : is_padding s.at.rest ≡ true → total ≡ Ok front
  all_read e = sym so_far ∙ ap (with_entries front) (at_end (length s.at.rest) s e) ∙ ap (λ (l : List FreeEntry). let r : Entries = Ok l in r) (append-nil front)

-- ---- entries in order

-- the last byte of the last entry
abbrev pub last_in : Option ℕ → List FreeEntry → Option ℕ
last_in before [] = before
last_in before (e ∷ entries) = last_in (Some e.last) entries

pub last_in-more : (before : Option ℕ) (entries : List FreeEntry) (e : FreeEntry) → last_in before (entries ++ e ∷ []) ≡ Some e.last
last_in-more before [] e = refl
last_in-more before (f ∷ entries) e = last_in-more (Some f.last) entries e

pub above_more : (before : Option ℕ) (entries : List FreeEntry) (e : FreeEntry) → AreEntriesAbove before entries → is_above (last_in before entries) e.first ≡ true → e.first ≤ e.last → e.last < 2 ^ 64 → AreEntriesAbove before (entries ++ e ∷ [])
above_more before [] e are above le fits = (above, le, fits, tt)
above_more before (f ∷ entries) e are above le fits = (are.0, are.1, are.2, above_more (Some f.last) entries e are.3 above le fits)
