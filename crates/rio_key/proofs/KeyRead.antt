-- What a reader of a key returned is spelled, and what is spelled is returned.
use Rattle.std.proofs.Common.{◌≡◌, ℕ, List, ◌++◌, Result, Ok, Err, ap, subst, ◌∙◌}
use Rattle.std.specs.Prelude.{IfOk}
use Rattle.rio_num.specs.{Answers.{GivesUnless, ReadsUnless, TellsUnless}, At.{At, AreBytes}, Plain.{IsSpelledIn, plain, value_of}}
use Rattle.rio_num.proofs.Agree as Agree
use Rattle.rio_key.specs.{Key.{BreaksKey, SpellsKey, key_head_at, key_layout}, declared.head.KeyHead.{KeyHead}, declared.fault.KeyFault.{KeyFault, TheVariants.{NoMemory}}}
use Rattle.rio_num.proofs.Plain.{standing}
use Rattle.rio_key.proofs.KeyAgain.{key_again, key_found}

-- what a reader that goes on returned, without where it stands
pub value_given : {X S E : Type 0} (lack : E) (r : Result X E) (q : Result (X × S) E) (new : S) → ReadsUnless lack (λ x. x) r q new → GivesUnless lack (λ x. x) r (value_of q)
value_given lack (Ok x) q new given = ap value_of given
value_given lack (Err e) q new given = λ ne. ap value_of (given ne)

module _ (s new : At) where
  pub is_found : (r : Result KeyHead KeyFault) → AreBytes s.rest → ReadsUnless NoMemory (λ x. x) r (key_head_at s) (plain new) → IfOk r (λ h. IsSpelledIn (SpellsKey h) s.rest)
  unfolding SpellsKey
  is_found (Err e) fits given = tt
  is_found (Ok h) fits given = let f = key_found s h new fits given in (f.bytes, new.rest, f.parts, f.spelled)

  pub is_broken : (r : Result KeyHead KeyFault) → AreBytes s.rest → ReadsUnless NoMemory (λ x. x) r (key_head_at s) (plain new) → TellsUnless NoMemory (BreaksKey s) r
  unfolding BreaksKey
  is_broken (Ok h) fits given = tt
  is_broken (Err e) fits given = λ ne. Agree.fault_is_broken key_layout (plain s) e fits (given ne)

  pub is_only : (r : Result KeyHead KeyFault) (h : KeyHead) (front rest : List ℕ) → ReadsUnless NoMemory (λ x. x) r (key_head_at s) (plain new) → s.rest ≡ front ++ rest → SpellsKey h front → GivesUnless NoMemory (λ x. x) r (Ok h)
  is_only r h front rest given e spelled =
      let one = ap (λ (b : List ℕ). key_head_at (standing s.place b)) e ∙ key_again h front s.place rest spelled in
      subst (λ (q : Result KeyHead KeyFault). GivesUnless NoMemory (λ x. x) r q) (ap value_of one) (value_given NoMemory r (key_head_at s) (plain new) given)
