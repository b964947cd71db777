-- A name that passes a test: what is read, and where it can't stand.
use Rattle.std.proofs.Common.{◌≡◌, ℕ, ◌<◌, ◌^◌, List, [], ◌∷◌, Bool, true, option_and_then, refl, ◌∙◌, ap, subst}
use Rattle.rio_token.specs.Reading.{next_word, word_that_at}
use Rattle.rio_model.specs.Lexemes.{Lexeme, word}
use Rattle.rio_num.proofs.ReadLaws.{if_is}
use Rattle.rio_step.proofs.{AlikeLaws.{Tells}, TellsLaws.{SaysOne, SaysWord, one_tells, word_said}, TreeTells.{tested}, TurnLaws.{tells_as}}

-- a name that passes a test
abbrev pub Named : (List ℕ → Bool) → List ℕ → List Lexeme → Type 0
Named test name ls = (ls ≡ word name ∷ []) × (test name ≡ true)

module _ (strict : Bool) where
  pub named_tells : (test : List ℕ → Bool) (n : ℕ) → (n < 2 ^ 32 → (name : List ℕ) × (test name ≡ true)) → Tells strict (word_that_at test) (Named test) (Named test) n
  unfolding word_that_at
  named_tells test n some =
      tells_as strict (λ s. word_that_at test s) (SaysOne (SaysWord (tested test))) (SaysOne (SaysWord (tested test))) (Named test) (Named test) n
      (one_tells strict (λ s. option_and_then (tested test) (next_word s)) (SaysWord (tested test)) (word_said strict (tested test)) n
      (λ few. let c = some few in (c.0, word c.0, (c.0, let goes_so = c.1 in rw goes_so refl, refl))))
      to to (λ w ls c. c)
    where
      to : (w : List ℕ) (ls : List Lexeme) → SaysOne (SaysWord (tested test)) w ls → Named test w ls
      to w ls c =
          let i = if_is (test c.2.0) c.2.0 w c.2.1 in
          (c.1 ∙ ap (λ (l : Lexeme). l ∷ []) (c.2.2 ∙ ap (λ (v : List ℕ). word v) i.1), subst (λ (v : List ℕ). test v ≡ true) i.1 i.0)
