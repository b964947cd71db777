-- An input, piece after piece.
use Rattle.std.proofs.Common.{◌≡◌, ℕ, ◌+◌, ◌-◌, ◌<◌, ◌≤◌, List, [], ◌++◌, length, length-append, length-take, take, append_assoc, Option, Some, None, Err, refl, sym, ap, ◌∙◌, arith}
use Rattle.std.proofs.lemmas.List.{append-nil}
use Rattle.rio_host.specs.{Host.{Becomes}, Source.{Fills, Input}}
use Rattle.rio_host.proofs.Images.{becomes_as, becomes_join, becomes_some}
use Rattle.rootio.specs.{Causes.{NoInputFault}, Input.{IsTooLong, ReadsAll, Taken, TakenAll, TakesMore, TakesPiece, input_limit}}
use Rattle.rootio.specs.declared.input.InputError.{InputError, TheVariants.{Fault, NoMemory, TooLong}}

-- ---- one piece

module _ (before after : Input) (n : ℕ) (buffer : List ℕ) (gives : Becomes (Fills n buffer) before.remaining after.remaining) where
  pub nothing_left : n ≡ 0 → 0 < length buffer → Becomes (TakenAll []) before.remaining after.remaining
  nothing_left none some = becomes_as (Fills n buffer) (TakenAll []) before.remaining after.remaining (λ old new given.
      let all : old ≡ [] = given.end none some in
      let same : old ≡ new = given.front ∙ ap (λ k. take k buffer ++ new) none in
      (all, sym same ∙ all)) gives

  pub piece_taken : Becomes (Taken (take n buffer)) before.remaining after.remaining
  piece_taken = becomes_as (Fills n buffer) (Taken (take n buffer)) before.remaining after.remaining (λ old new given. given.front) gives

  pub many_left : n ≤ length buffer → (rest : List ℕ) → before.remaining ≡ Some rest → n ≤ length rest
  many_left within rest told =
      let given = becomes_some (Fills n buffer) before.remaining after.remaining rest told gives in
      omega (arith, within, ap length given.2.front, length-append (take n buffer) given.0, length-take n buffer)

-- ---- all of them

-- these bytes were taken since the start
pub record ReadUpTo (start now : Input) (bytes : List ℕ) : Type 0 where
  pub taken : Becomes (Taken bytes) start.remaining now.remaining
  pub within : length bytes ≤ input_limit
  pub faults : NoInputFault start now

-- how many more may come
abbrev pub bytes_left : List ℕ → ℕ
bytes_left bytes = input_limit - length bytes

taken_none : (o : Option (List ℕ)) → Becomes (Taken []) o o
taken_none None = refl
taken_none (Some x) = (x, refl, refl)

pub nothing_read : (start : Input) → ReadUpTo start start []
nothing_read start = record { taken = taken_none start.remaining; within = omega arith; faults = refl }

pub piece_more : (start v now : Input) (old new : List ℕ) → ReadUpTo start v old → TakesMore v now old new → NoInputFault v now → ReadUpTo start now new
piece_more start v now old new so more faults = record {
  taken = becomes_join (Taken old) (Taken more.piece) (Taken new) start.remaining v.remaining now.remaining
      (λ x y z p q. p ∙ ap (λ l. old ++ l) q ∙ sym (append_assoc old more.piece z) ∙ ap (λ l. l ++ z) (sym more.grown))
      so.taken more.taken;
  within = more.within;
  faults = faults ∙ so.faults;
}

pub all_read : (start v now : Input) (bytes : List ℕ) → ReadUpTo start v bytes → Becomes (TakenAll []) v.remaining now.remaining
    → Becomes (TakenAll bytes) start.remaining now.remaining
all_read start v now bytes so ended =
    becomes_join (Taken bytes) (TakenAll []) (TakenAll bytes) start.remaining v.remaining now.remaining
    (λ x y z p q. (p ∙ ap (λ l. bytes ++ l) q.0 ∙ append-nil bytes, q.1)) so.taken ended

pub is_too_long : (start v : Input) (bytes : List ℕ) → ReadUpTo start v bytes → ((rest : List ℕ) → v.remaining ≡ Some rest → input_limit < length bytes + length rest) → IsTooLong start
is_too_long start v bytes so longer all told =
    let rest = becomes_some (Taken bytes) start.remaining v.remaining all told so.taken in
    let more = longer rest.0 rest.1 in
    omega (arith, more, ap length rest.2, length-append bytes rest.0)

-- it ends otherwise
pub stopped : (start v now : Input) (old new : List ℕ) (e : InputError) → ReadUpTo start v old → TakesPiece v now old new (Err e) → ReadsAll start now (Err e)
stopped start v now old new Fault so rose = rw (← so.faults) rose
stopped start v now old new NoMemory so none = none ∙ so.faults
stopped start v now old new TooLong so longer = (is_too_long start v old so longer.0, longer.1 ∙ so.faults)
