-- What the writer of objects takes stands at its end.
use Rattle.std.proofs.Common.{◌≡◌, suc, false, IsTrue, arith, ◌<◌, length, ℕ, ◌+◌, List, [], Bool, true, Some, Result, Ok, Err, refl, sym, ap, subst, ◌∙◌}
use Rattle.std.proofs.{Math.Nat.{lt_of_not-le}, lemmas.List.{get_or_past}}
use Rattle.std.specs.Prelude.{◌↔◌, slice_index}
use Rattle.byteorder.specs.Endian.{big_bytes}
use Rattle.rio_num.specs.declared.no_memory.NoMemory.{NoMemory}
use Rattle.rio_format.specs.{ReaderState.{no_words}, Writer.{Begins, Puts, Writer, WriterState, ended, innermost, nothing_written}, Written.{just, reference_bytes}}
use Rattle.rio_write.specs.{Sinks.{Accepted, Accepts, Closes, Opened, OpensIn, StandsWithin}, Writing.{Writes, with_written}}
use Rattle.rio_write.proofs.WriteLaws.{first_written, just_writes}

abbrev pub is_state : WriterState × List (List ℕ) → WriterState → Type 0
is_state x s = x.0 ≡ s

module _ (old new : WriterState) (names names' : List (List ℕ)) where
  pub written_accepted : (f : Writer) (r : Result (Unit {0}) NoMemory) → Writes f r old new → Accepts is_state f r (old, names) (new, names')
  unfolding Accepted
  written_accepted f (Ok x) w = λ s e. w ∙ ap (with_written f) e
  written_accepted f (Err x) w = tt

  pub put_accepted : (bytes : List ℕ) (r : Result (Unit {0}) NoMemory) → Puts bytes r old new → Accepts is_state (just bytes) r (old, names) (new, names')
  put_accepted bytes r put = written_accepted (just bytes) r (just_writes bytes old new r put)

  -- a reference to the place of the label
  pub back_accepted : (label : ℕ) (r : Result (Unit {0}) NoMemory) → Puts (big_bytes 4 (slice_index old.words.labels label + 2)) r old new → Accepts is_state (reference_bytes label) r (old, names) (new, names')
  unfolding with_written
  back_accepted label (Ok x) put = written_accepted (reference_bytes label) (Ok x) put
  back_accepted label (Err x) put = tt

  pub begun_opens : (begin : WriterState → WriterState) (r : Result ℕ NoMemory) → Begins begin r old new → OpensIn is_state true (λ (n : ℕ). n) begin r (old, names) (new, names')
  unfolding Opened
  begun_opens begin (Ok place) b = λ s e. (b.1 ∙ ap begin e, λ yes. b.0 ∙ ap (λ (z : WriterState). length z.bytes) e)
  begun_opens begin (Err x) b = tt

  pub ended_closes : (place : ℕ) → innermost old.opened ≡ Some place → new ≡ ended place old → Closes is_state (old, names) (new, names')
  unfolding Closes
  ended_closes place inner is = λ s place2 e other low.
      let there : Some place ≡ Some place2 = sym inner ∙ ap (λ (z : WriterState). innermost z.opened) e ∙ other in
      let one : place ≡ place2 = cc in
      is ∙ ap (ended place) e ∙ ap (λ (n : ℕ). ended n s) one

module _ (P : WriterState → Type 0) (w : WriterState) (names : List (List ℕ)) where
  -- a writer stands for itself
  pub held : StandsWithin is_state true P (w, names) → P w
  unfolding StandsWithin
  held h = let a = h refl in subst P (sym a.1) a.2

-- the whole, from its beginning
pub whole_written : (f : Writer) (start : ℕ) (old new : WriterState) (names names' : List (List ℕ)) → old ≡ nothing_written start → Accepted is_state f (old, names) (new, names') → (new.bytes ≡ (f start no_words).0) × (new.opened ≡ [])
unfolding Accepted
whole_written f start old new names names' e taken = first_written f start new (taken (nothing_written start) e)

-- a label that no object has
pub no_label : (b : Bool) (labels : List ℕ) (label : ℕ) → b ≡ false → IsTrue b ↔ (label < length labels) → slice_index labels label ≡ 0
no_label true labels label e has = absurd cc
no_label false labels label e has =
    let past : length labels < suc label = lt_of_not-le (λ lt. let never : IsTrue false = has.1 lt in absurd cc) in
    get_or_past labels label 0 (omega (arith, past))
