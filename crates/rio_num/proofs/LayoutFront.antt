-- What is read by numbers and texts depends on the bytes that it takes, and not on those behind.
use Rattle.std.proofs.Common.{◌≡◌, ℕ, ◌+◌, true, false, List, [], ◌++◌, length, Result, Ok, Err, refl, sym, ap, subst, ◌∙◌, append_assoc, arith}
use Rattle.std.proofs.lemmas.List.{length-append}
use Rattle.rio_num.specs.{At.{At}, Reading.{number_at, text_at}, declared.cursor.Short.{Short}}
use Rattle.rio_num.specs.Layout.{done, broken, number, bytes, text, name, here, reaches, met, note, choice, behind}
use Rattle.rio_num.specs.{Meanings.{Reading, Standing, of_bytes, read, stand}, Plain.{Plain, plain}}
use Rattle.rio_num.proofs.{ReadLaws.{bind_ok, ok_is}, Front.{TakesFront, number_front, text_front}}

-- numbers and texts, one behind the other
abbrev pub AreFields : {F A : Type 0} → Plain F A → Type 0
AreFields (done a) = Unit {0}
AreFields (broken f) = Unit {0}
AreFields (number f n) = Unit {0}
AreFields (bytes f n) = ⊥
AreFields (text f) = Unit {0}
AreFields (name f) = ⊥
AreFields here = ⊥
AreFields (reaches e f) = ⊥
AreFields met = ⊥
AreFields (note u) = ⊥
AreFields (choice b l m) = AreFields l × AreFields m
AreFields (behind {B = B} l k) = AreFields l × ((x : B) → AreFields (k x))

-- what was taken from the front is taken again, whatever follows
pub record TakesAgain {F A : Type 0} (l : Plain F A) (s : At) (y : A) (s' : At) : Type 0 where
  pub front : List ℕ
  pub parts : s.rest ≡ front ++ s'.rest
  pub place : s'.place ≡ s.place + length front
  pub again : (more : List ℕ) → read l (stand s.place (front ++ more) tt) ≡ Ok (y, stand (s.place + length front) more tt)

-- what is read of the bytes alone
again_by : {F A : Type 0} (l : Plain F A) (f : ℕ → ℕ → F) (reads : At → Result (A × At) Short) → ((s : At) → read l (plain s) ≡ of_bytes f (plain s) (reads s)) → ((s : At) (x : A) (t : At) → reads s ≡ Ok (x, t) → TakesFront reads s x t)
    → (s : At) (y : A) (s' : Standing (Unit {0})) (r : Result (A × At) Short) → reads s ≡ r → of_bytes f (plain s) r ≡ Ok (y, s') → TakesAgain l s y s'.at
again_by l f reads same front s y s' (Err d) is e = absurd cc
again_by {F = F} {A = A} l f reads same front s y s' (Ok x) is e =
    let t = front s x.0 x.1 is in
    let made : TakesAgain l s x.0 x.1 = record { front = t.front; parts = t.parts; place = t.place; again = λ more. same (record { place = s.place; rest = t.front ++ more }) ∙ rw (t.again more) refl } in
    subst (λ (q : A × Standing (Unit {0})). TakesAgain l s q.0 q.1.at) (ok_is {E = F} (x.0, plain x.1) (y, s') e) made

pub front_again : {F A : Type 0} (l : Plain F A) → AreFields l → (s : At) (y : A) (s' : Standing (Unit {0})) → read l (plain s) ≡ Ok (y, s') → TakesAgain l s y s'.at
front_again {F = F} {A = A} (done a) are s y s' e =
    let made : TakesAgain {F = F} (done a) s a s = record { front = []; parts = refl; place = omega arith; again = λ more. ap (λ (p : ℕ). let r : Reading (Unit {0}) F A = Ok (a, stand p more tt) in r) (omega arith) } in
    subst (λ (q : A × Standing (Unit {0})). TakesAgain {F = F} (done a) s q.0 q.1.at) (ok_is {E = F} (a, plain s) (y, s') e) made
front_again (broken f) are s y s' e = absurd cc
front_again (number f n) are s y s' e = again_by (number f n) f (number_at n) (λ t. refl) (number_front n) s y s' (number_at n s) refl e
front_again (bytes f n) are s y s' e = absurd are
front_again (text f) are s y s' e = again_by (text f) f text_at (λ t. refl) text_front s y s' (text_at s) refl e
front_again (name f) are s y s' e = absurd are
front_again here are s y s' e = absurd are
front_again (reaches end f) are s y s' e = absurd are
front_again met are s y s' e = absurd are
front_again (note u) are s y s' e = absurd are
front_again (choice true l m) are s y s' e = let c = front_again l are.0 s y s' e in record { front = c.front; parts = c.parts; place = c.place; again = c.again }
front_again (choice false l m) are s y s' e = let c = front_again m are.1 s y s' e in record { front = c.front; parts = c.parts; place = c.place; again = c.again }
front_again (behind l k) are s y s' e =
    let w = bind_ok (read l (plain s)) (λ x. read (k x.0) x.1) (y, s') e in
    let a = front_again l are.0 s w.0.0 w.0.1 w.1 in
    let b = front_again (k w.0.0) (are.1 w.0.0) w.0.1.at y s' w.2 in
    record {
      front = a.front ++ b.front;
      parts = a.parts ∙ ap (λ (z : List ℕ). a.front ++ z) b.parts ∙ sym (append_assoc a.front b.front s'.at.rest);
      place = omega (arith, a.place, b.place, length-append a.front b.front);
      again = λ more.
          let end : s.place + length a.front + length b.front ≡ s.place + length (a.front ++ b.front) = omega (arith, length-append a.front b.front) in
          let second : read (k w.0.0) (stand (s.place + length a.front) (b.front ++ more) tt) ≡ Ok (y, stand (s.place + length a.front + length b.front) more tt) =
          subst (λ (p : ℕ). read (k w.0.0) (stand p (b.front ++ more) tt) ≡ Ok (y, stand (p + length b.front) more tt)) a.place (b.again more) in
          rw (append_assoc a.front b.front more, a.again (b.front ++ more), second, end) refl;
    }
