-- Readers of single tokens, and one reader behind another: what they read, and the first tokens that can't stand.
use Rattle.std.proofs.Common.{◌≡◌, ℕ, ◌<◌, ◌^◌, List, [], ◌∷◌, Bool, true, ◌&&◌, Option, Some, None, option_and_then, Ok, Err, refl, sym, ◌∙◌, ap, subst, arith}
use Rattle.std.proofs.lemmas.Bool.{and_parts, eq-eqb}
use Rattle.rio_num.specs.At.{At}
use Rattle.rio_num.proofs.ReadLaws.{if_is}
use Rattle.rio_token.specs.{declared.fault.TextFault.{TextFault, TheVariants.{BadText}}, declared.token.Token.{Token}}
use Rattle.rio_token.specs.{Reading.{Read, bad_at, is_mark, marked, next_word, some_if, taken_at}, Tokens.{behind, is_glued, token_place}}
use Rattle.rio_model.specs.Lexemes.{IsNext, Lexeme, glued, mark, word}
use Rattle.rio_model.proofs.{LexemeLaws.{marked_again, marked_is, next_word_is, taken_is, then_is}, ToldLaws.{bad_is}}
use Rattle.rio_step.specs.{CommandLaws.{HaveSameToken, IsFirstBadToken}, TreeGrammar.{glued_word, is_glued_mark}}
use Rattle.rio_step.proofs.AlikeLaws.{BeginBehind, IsKnown, Tells, bad_token}

-- one token, by which this is said
abbrev pub SaysOne : {A : Type 0} → (A → Lexeme → Type 0) → A → List Lexeme → Type 0
SaysOne P x ls = (l : Lexeme) × (ls ≡ l ∷ []) × P x l

abbrev pub SaysWord : {A : Type 0} → (List ℕ → Option A) → A → Lexeme → Type 0
SaysWord f x l = (w : List ℕ) × (f w ≡ Some x) × (l ≡ word w)

abbrev pub SaysGluedWord : {A : Type 0} → (List ℕ → Option A) → A → Lexeme → Type 0
SaysGluedWord f x l = (w : List ℕ) × (f w ≡ Some x) × (l ≡ glued (word w))

pub next_again : (w : List ℕ) (s : At) → IsNext (word w) s → next_word s ≡ Some w
next_again w s h = rw (h.0, h.1) refl

abbrev pub IsLexeme : Lexeme → Unit {0} → Lexeme → Type 0
IsLexeme k x l = l ≡ k

module _ (strict : Bool) where
  behind_alike : {A : Type 0} (x : A) (t n : At) → n ≡ behind t → (let r : Read A = Ok (x, behind t) in r ≡ Ok (x, n))
  behind_alike x t n h = rw h refl

  taken_some : {A : Type 0} (o : Option A) (x : A) (t : At) → o ≡ Some x → taken_at o t ≡ Ok (x, behind t)
  taken_some o x t h = rw h refl

  pub taken_none : {A : Type 0} (o : Option A) (t : At) → o ≡ None → taken_at o t ≡ bad_at t
  taken_none o t h = rw h refl

  pub taken_bad : {A : Type 0} (o : Option A) (s : At) (e : TextFault) → taken_at o s ≡ Err e → (o ≡ None) × (e ≡ BadText (token_place s))
  taken_bad {A} None s e h = (refl, bad_is {A = A} s e h)
  taken_bad (Some x) s e h = absurd (cc)

  -- ---- one token

  -- what the next token says
  pub record IsSaid {A : Type 0} (o : At → Option A) (P : A → Lexeme → Type 0) : Type 0 where
    pub same : (s t : At) → HaveSameToken strict s t → o s ≡ o t
    pub is : (s : At) (x : A) → o s ≡ Some x → (l : Lexeme) × IsNext l s × P x l
    pub back : (x : A) (l : Lexeme) (s : At) → P x l → IsNext l s → o s ≡ Some x

  module _ {A : Type 0} (o : At → Option A) (P : A → Lexeme → Type 0) (said : IsSaid o P) (n : ℕ) (some : n < 2 ^ 32 → (x : A) × (l : Lexeme) × P x l) where
    one_known : (s : At) (x : A) (m : At) → taken_at (o s) s ≡ Ok (x, m) → IsKnown strict (λ t. taken_at (o t) t) (SaysOne P) s x m
    one_known s x m h =
        let t = taken_is (o s) s x m h in
        let l = said.is s x t.0 in
        record {
          passed = l.0 ∷ [];
          spelled = (l.0, refl, l.2);
          stands = (l.1, t.1);
          again = λ u k st. taken_some (o u) x u (said.back x l.0 u l.2 st.0) ∙ behind_alike x u k st.2.0;
        }

    one_told : (s : At) (e : TextFault) → taken_at (o s) s ≡ Err e → IsFirstBadToken strict (λ t. taken_at (o t) t) (BeginBehind n (SaysOne P)) s e
    one_told s e h =
        let t = taken_bad (o s) s e h in
        bad_token strict (λ t. taken_at (o t) t) (BeginBehind n (SaysOne P)) s e (λ u same. taken_none (o u) u (sym (said.same s u same) ∙ t.0))
        (λ few. let c = some (omega (arith, few)) in (c.1 ∷ [], c.0, (c.1, refl, c.2))) t.1

    pub one_tells : Tells strict (λ t. taken_at (o t) t) (SaysOne P) (SaysOne P) n
    one_tells = record { known = one_known; up = λ x ls c. c; told = one_told }

  -- ---- words

  pub word_said : {A : Type 0} (f : List ℕ → Option A) → IsSaid (λ s. option_and_then f (next_word s)) (SaysWord f)
  word_said f = record {
    same = λ s t h. ap (option_and_then f) h.next.word;
    is = λ s x h. let q = then_is f (next_word s) x h in (word q.0, next_word_is s q.0 q.1, (q.0, q.2, refl));
    back = λ x l s p h.
        let next : next_word s ≡ Some p.0 = next_again p.0 s (subst (λ (k : Lexeme). IsNext k s) p.2 h) in
        ap (option_and_then f) next ∙ p.1;
  }

  -- ---- punctuation

  -- a test of the next token
  pub record IsTest (test : At → Bool) (k : Lexeme) : Type 0 where
    pub same : (s t : At) → HaveSameToken strict s t → test s ≡ test t
    pub is : (s : At) → test s ≡ true → IsNext k s
    pub back : (s : At) → IsNext k s → test s ≡ true

  pub test_said : (test : At → Bool) (k : Lexeme) → IsTest test k → IsSaid (λ s. some_if (test s) tt) (IsLexeme k)
  test_said test k i = record {
    same = λ s t h. ap (λ (b : Bool). some_if b tt) (i.same s t h);
    is = λ s x h. (k, i.is s (if_is (test s) tt x h).0, refl);
    back = λ x l s p h. let yes = i.back s (subst (λ (j : Lexeme). IsNext j s) p h) in rw yes refl;
  }

  pub mark_test : (b : ℕ) → IsTest (marked b) (mark b)
  mark_test b = record {
    same = λ s t h. ap (is_mark b) h.next.token;
    is = λ s h. marked_is b s h;
    back = λ s h. marked_again b b s h ∙ eq-eqb b b refl;
  }

pub glued_again : (w : List ℕ) (s : At) → IsNext (glued (word w)) s → glued_word s ≡ Some w
glued_again w s h = rw (h.1.0, h.1.1, h.0) refl

pub glued_word_is : (s : At) (w : List ℕ) → glued_word s ≡ Some w → IsNext (glued (word w)) s
glued_word_is s w h =
    let q = then_is (λ v. some_if (is_glued s) v) (next_word s) w h in
    let i = if_is (is_glued s) q.0 w q.2 in
    (i.0, subst (λ (v : List ℕ). IsNext (word v) s) i.1 (next_word_is s q.0 q.1))

pub glued_word_same : (s t : At) → HaveSameToken true s t → glued_word s ≡ glued_word t
glued_word_same s t h =
    ap (λ (b : Bool). option_and_then (λ v. some_if b v) (next_word s)) (h.glue refl)
    ∙ ap (option_and_then (λ v. some_if (is_glued t) v)) h.next.word

pub glued_word_said : {A : Type 0} (f : List ℕ → Option A) → IsSaid true (λ s. option_and_then f (glued_word s)) (SaysGluedWord f)
glued_word_said f = record {
  same = λ s t h. ap (option_and_then f) (glued_word_same s t h);
  is = λ s x h. let q = then_is f (glued_word s) x h in (glued (word q.0), glued_word_is s q.0 q.1, (q.0, q.2, refl));
  back = λ x l s p h.
      let next : glued_word s ≡ Some p.0 = glued_again p.0 s (subst (λ (k : Lexeme). IsNext k s) p.2 h) in
      ap (option_and_then f) next ∙ p.1;
}

pub glued_mark_test : (b : ℕ) → IsTest true (is_glued_mark b) (glued (mark b))
glued_mark_test b = record {
  same = λ s t h. ap (λ (g : Bool). g && marked b s) (h.glue refl) ∙ ap (λ (k : Token). is_glued t && is_mark b k) h.next.token;
  is = λ s h. let p = and_parts (is_glued s) (marked b s) h in (p.0, marked_is b s p.1);
  back = λ s h. let m : marked b s ≡ true = marked_again b b s h.1 ∙ eq-eqb b b refl in rw (h.0, m) refl;
}
