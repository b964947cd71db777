-- How a run of calls goes on: one line for each call.
use Rattle.std.proofs.Common.{◌≡◌, ◌⊎◌, inl, inr, ⊎_elim, ℕ, List, Some, subst, sym, refl, ◌∙◌, arith}
use Rattle.rio_host.specs.{Image.{Torn, PutOrNot, Same}, Host.{View, Leaves, Elapses, After, OnDisk, IsLawful, IsQuiet, Speaking}}

-- what may be left, as images with their texts
abbrev pub Outcomes : Type 1
Outcomes = List ℕ → List ℕ → Type 0

-- a stop since the start leaves what has P, and a stop now what has Q
pub record Run (start now : View) (P Q : List ℕ → List ℕ → Type 0) : Type 0 where
  pub time : Elapses start now P
  pub here : (image said : List ℕ) → Leaves now image said → Q image said

pub begins : (v : View) (P Q : Outcomes) → ((image said : List ℕ) → Leaves v image said → Q image said) → Run v v P Q
begins v P Q here = record {
  time = record { later = omega arith; nothing_else = λ t i s le left. inl left; keeps = λ t i s le left. left };
  here = here;
}

-- ---- two times after each other

pub elapses_join : {a b c : View} {P : Outcomes} (R : Outcomes) → Elapses a b P → Elapses b c R → ((i s : List ℕ) → R i s → P i s) → Elapses a c P
elapses_join R first then has = record {
  later = omega (arith, first.later, then.later);
  nothing_else = λ t i s le left. ⊎_elim (λ was. first.nothing_else t i s le was) (λ r. inr (has i s r)) (then.nothing_else t i s (omega (arith, le, first.later)) left);
  keeps = λ t i s le left. then.keeps t i s (omega (arith, le, first.later)) (first.keeps t i s le left);
}

pub elapses_as : {a b : View} (P R : Outcomes) → Elapses a b R → ((i s : List ℕ) → R i s → P i s) → Elapses a b P
elapses_as P R time has = record {
  later = time.later;
  nothing_else = λ t i s le left. ⊎_elim (λ was. inl was) (λ r. inr (has i s r)) (time.nothing_else t i s le left);
  keeps = time.keeps;
}

-- what a stop leaves now, it might have left before, or it has P
pub leaves_back : {old new : View} {P : Outcomes} → IsLawful new → Elapses old new P → (i s : List ℕ) → Leaves new i s → (Leaves old i s) ⊎ (P i s)
leaves_back law time i s left = time.nothing_else _ i s (omega arith) (law.earlier _ _ i s time.later left)

-- ---- one call more

-- any call
pub goes_on : {start old new : View} {P Q : Outcomes} (R Q' : Outcomes) → IsLawful new → Run start old P Q → Elapses old new R
    → ((i s : List ℕ) → R i s → Q' i s) → ((i s : List ℕ) → Q i s → Q' i s) → ((i s : List ℕ) → Q' i s → P i s) → Run start new P Q'
goes_on R Q' law run call has stays ok = record {
  time = elapses_join R run.time call (λ i s r. ok i s (has i s r));
  here = λ i s left. ⊎_elim (λ was. stays i s (run.here i s was)) (λ r. has i s r) (leaves_back law call i s left);
}

-- a call on the file
pub changes : {start old new : View} {P Q : Outcomes} (change : List ℕ → List ℕ → Type 0) (Q' : Outcomes) → ((d : List ℕ) → change d d) → IsLawful new → Run start old P Q → OnDisk change old new
    → ((d i s : List ℕ) → Q d s → change d i → Q' i s) → ((i s : List ℕ) → Q' i s → P i s) → Run start new P Q'
changes {start} {old} change Q' same law run call has ok =
    goes_on (After change old) Q' law run call.time (λ i s after. has after.0 i s (run.here after.0 s after.1) after.2) (λ i s q. has i i s q (same i)) ok

pub torn_same : (place n : ℕ) (d : List ℕ) → Torn place n d d
torn_same place n d = record { outside = λ i x out at. at; no_shorter = omega arith; no_longer = omega arith }

-- a write
pub writes : {start old new : View} {P Q : Outcomes} (place n : ℕ) (Q' : Outcomes) → IsLawful new → Run start old P Q → OnDisk (Torn place n) old new
    → ((d i s : List ℕ) → Q d s → Torn place n d i → Q' i s) → ((i s : List ℕ) → Q' i s → P i s) → Run start new P Q'
writes place n Q' law run call has ok = changes (Torn place n) Q' (torn_same place n) law run call has ok

-- a word
pub writes_word : {start old new : View} {P Q : Outcomes} (place : ℕ) (bytes : List ℕ) (Q' : Outcomes) → IsLawful new → Run start old P Q → OnDisk (PutOrNot place bytes) old new
    → ((d i s : List ℕ) → Q d s → PutOrNot place bytes d i → Q' i s) → ((i s : List ℕ) → Q' i s → P i s) → Run start new P Q'
writes_word place bytes Q' law run call has ok = changes (PutOrNot place bytes) Q' (λ d. inl refl) law run call has ok

-- a read, or a sync whatever it answers
pub stays : {start old new : View} {P Q : Outcomes} → IsLawful new → Run start old P Q → OnDisk Same old new → ((i s : List ℕ) → Q i s → P i s) → Run start new P Q
stays {start} {old} {new} {P} {Q} law run call ok = changes Same Q (λ d. refl) law run call (λ d i s q same. subst (λ (f : List ℕ). Q f s) (sym same) q) ok

-- and then a sync that succeeded
pub settles : {start v : View} {P Q : Outcomes} (bytes : List ℕ) → Run start v P Q → IsQuiet v → v.holds ≡ Some bytes → Run start v P (λ i s. (i ≡ bytes) × Q i s)
settles bytes run quiet told = record { time = run.time; here = λ i s left. (quiet i s bytes left told, run.here i s left) }

-- what is said leaves the images as they were
pub says_quiet : {old new : View} (bytes : List ℕ) → IsLawful new → IsQuiet old → Elapses old new (Speaking bytes old) → new.holds ≡ old.holds → IsQuiet new
says_quiet bytes law quiet time same i s file left told =
    ⊎_elim (λ was. quiet i s file was (sym same ∙ told)) (λ speaks. quiet i speaks.0 file speaks.1 (sym same ∙ told)) (leaves_back law time i s left)
