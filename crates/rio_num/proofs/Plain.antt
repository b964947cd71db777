-- What holds of every description of what refers to nothing that stands before it.
use Rattle.std.proofs.{Common.{◌≡◌, ℕ, ◌+◌, List, ◌++◌, length, take, Result, Ok, Err, refl, sym, ap, ◌∙◌, arith}, lemmas.List.{length-append, take_at}}
use Rattle.rio_num.specs.{At.{At, AreBytes, end_place}, Meanings.{Standing, read, stand, Breaks}, Plain.{IsOne, IsSpelledBy, Plain, plain, value_of}}
use Rattle.rio_num.proofs.Agree as Agree
use Rattle.rio_num.proofs.{Intro.{IsSo}, ReadLaws.{ok_is}}

abbrev pub standing : ℕ → List ℕ → At
standing place rest = record { place = place; rest = rest }

pub value_ok : {A B E : Type 0} (r : Result (A × B) E) (y : A) → value_of r ≡ Ok y → (t : B) × (r ≡ Ok (y, t))
value_ok {A = A} {B = B} {E = E} (Ok x) y e = (x.1, ap (λ (z : A). let r : Result (A × B) E = Ok (z, x.1) in r) (ok_is {E = E} x.0 y e))
value_ok (Err d) y e = absurd cc

pub value_err : {A B E : Type 0} (r : Result (A × B) E) (d : E) → value_of r ≡ Err d → r ≡ Err d
value_err (Ok x) d e = absurd cc
value_err (Err f) d e = cc

-- what is spelled is read, whatever follows
pub spelled_again : {F A : Type 0} (l : Plain F A) (y : A) (bytes : List ℕ) (p : ℕ) (rest : List ℕ) → IsSpelledBy l y bytes → read l (stand p (bytes ++ rest) tt) ≡ Ok (y, stand (p + length bytes) rest tt)
spelled_again l y bytes p rest c = Agree.spelled_is_read l (p + length bytes) p tt y bytes rest tt (omega (arith, length-append bytes rest)) (c p)

pub one_spelled : {F A : Type 0} (l : Plain F A) → IsOne (λ y bytes. IsSpelledBy l y bytes)
one_spelled {F = F} {A = A} l a b xs ys more others e first second =
    let both = sym (spelled_again l a xs 0 more first) ∙ ap (λ (bytes : List ℕ). read l (stand 0 bytes tt)) e ∙ spelled_again l b ys 0 others second in
    let same = ok_is {E = F} (a, stand (0 + length xs) more tt) (b, stand (0 + length ys) others tt) both in
    let long : length ys ≡ length xs = omega (arith, ap (λ (q : A × Standing (Unit {0})). q.1.at.place) same) in
    (ap (λ (q : A × Standing (Unit {0})). q.0) same, sym (take_at xs more (length xs) refl) ∙ ap (take (length xs)) e ∙ take_at ys others (length xs) long)

-- what was read is spelled by a front of the bytes
pub record HasFront {F A : Type 0} (l : Plain F A) (s : At) (y : A) : Type 0 where
  pub front : List ℕ
  pub rest : List ℕ
  pub parts : s.rest ≡ front ++ rest
  pub spelled : IsSo l (end_place s) s.place tt y front tt

pub value_found : {F A : Type 0} (l : Plain F A) (s : At) (y : A) → AreBytes s.rest → value_of (read l (plain s)) ≡ Ok y → HasFront l s y
value_found l s y fits e =
    let v = value_ok (read l (plain s)) y e in
    let a = Agree.read_is_spelled l (plain s) y v.0 fits v.1 in
    record { front = a.front; rest = v.0.at.rest; parts = a.parts; spelled = record { so = a.spelled } }

pub value_broken : {F A : Type 0} (l : Plain F A) (s : At) (d : F) → AreBytes s.rest → value_of (read l (plain s)) ≡ Err d → Breaks l s.place tt s.rest d
value_broken l s d fits e = Agree.fault_is_broken l (plain s) d fits (value_err (read l (plain s)) d e)
