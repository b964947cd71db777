-- Whole lines: what is read, and the first token that can't stand.
use Rattle.std.proofs.Common.{◌≡◌, inl, inr, List, [], ◌∷◌, ◌++◌, Bool, true, false, if◌then◌else◌, Ok, Err, refl, sym, ◌∙◌, ap, subst, arith}
use Rattle.std.proofs.lemmas.List.{append-nil}
use Rattle.rio_num.specs.{At.{At}, Reading.{◌>>=◌}}
use Rattle.rio_token.specs.{declared.fault.TextFault.{TextFault}, declared.token.Token.{Token}, Reading.{Read, bad_at, end_at, is_end, some_if}}
use Rattle.rio_token.specs.Tokens.{behind, next_at}
use Rattle.rio_model.specs.Lexemes.{Lexeme}
use Rattle.rio_model.proofs.{ItemLaws.{read_is}, LexemeLaws.{then_ok}, ToldLaws.{bad_is, bind_bad}, ClassFound.{end_found}}
use Rattle.rio_step.specs.CommandLaws.{IsFirstBadToken, StandToEnd}
use Rattle.rio_step.proofs.{AlikeLaws.{BeginBehind, Tells, bad_behind, bad_there, bad_token}, TellsLaws.{IsTest, taken_bad, taken_none}}

abbrev Empty : List Lexeme → Type 0
Empty ls = ls ≡ []

abbrev pub AfterWord : {A : Type 0} → Lexeme → (A → List Lexeme → Type 0) → A → List Lexeme → Type 0
AfterWord k G x ls = G x (k ∷ ls)

module _ (strict : Bool) where
  -- what a line reads and tells
  pub record TellsLine {A : Type 0} (r : At → Read A) (G H : A → List Lexeme → Type 0) : Type 0 where
    pub known : (s : At) (x : A) (m : At) → r s ≡ Ok (x, m) → (ls : List Lexeme) × G x ls × StandToEnd ls s m
    pub told : (s : At) (e : TextFault) → r s ≡ Err e → IsFirstBadToken strict r (BeginBehind 0 H) s e

  end_told : (s : At) (e : TextFault) → end_at s ≡ Err e → IsFirstBadToken strict end_at Empty s e
  unfolding end_at
  end_told s e h =
      let t = taken_bad strict (some_if (is_end (next_at s).token) tt) s e h in
      bad_token strict end_at Empty s e
      (λ u same. taken_none strict (some_if (is_end (next_at u).token) tt) u (ap (λ (k : Token). some_if (is_end k) tt) (sym same.next.token) ∙ t.0)) refl t.1

  module _ {A : Type 0} (r : At → Read A) (G H : A → List Lexeme → Type 0) (t : Tells strict r G H 0) where
    -- what was read, and the end
    abbrev with_end : At → Read A
    with_end s = r s >>= λ x. end_at x.1 >>= λ done. Ok (x.0, done.1)

    end_known : (s : At) (x : A) (m : At) → with_end s ≡ Ok (x, m) → (ls : List Lexeme) × G x ls × StandToEnd ls s m
    end_known s x m h =
        let a = then_ok (r s) (λ y. end_at y.1 >>= λ done. Ok (y.0, done.1)) x m h in
        let b = then_ok (end_at a.0.1) (λ done. Ok (a.0.0, done.1)) x m a.2 in
        let e = read_is a.0.0 x b.0.1 m b.2 in
        let f = end_found a.0.1 b.0.0 b.0.1 b.1 in
        let k = t.known s a.0.0 a.0.1 a.1 in
        (k.passed, subst (λ (y : A). G y k.passed) e.0 k.spelled, (a.0.1, k.stands, f.0, sym e.1 ∙ f.1))

    whole : (x : A) (passed ms : List Lexeme) → G x passed → ms ≡ [] → BeginBehind 0 H (passed ++ ms)
    whole x passed ms c e few = ([], x, subst (H x) (sym (ap (λ (l : List Lexeme). (passed ++ l) ++ []) e ∙ append-nil (passed ++ []) ∙ append-nil passed)) (t.up x passed c))

    abbrev only : A → Unit {0} × At → Read A
    only x done = Ok (x, done.1)

    after_bad : (s : At) (x : A) (m : At) (e : TextFault) → r s ≡ Ok (x, m) → (end_at m >>= only x) ≡ Err e → IsFirstBadToken strict with_end (BeginBehind 0 H) s e
    after_bad s x m e one h =
        let k = t.known s x m one in
        elim (bind_bad A (end_at m) (only x) e h) [
          | inl bad ↦
              bad_behind strict with_end end_at Empty (BeginBehind 0 H) k.passed s m e k.stands
              (λ u v st g fault. let here = k.again u v st in rw (here, fault) refl) (λ ms empty. whole x k.passed ms k.spelled empty) (end_told m e bad)
          | inr w ↦ let never = w.2 in absurd (cc)
        ]

    with_end_told : (s : At) (e : TextFault) → with_end s ≡ Err e → IsFirstBadToken strict with_end (BeginBehind 0 H) s e
    with_end_told s e h =
        elim (bind_bad A (r s) (λ y. end_at y.1 >>= λ done. Ok (y.0, done.1)) e h) [
          | inl bad ↦ bad_there strict with_end r (BeginBehind 0 H) (BeginBehind 0 H) s e (λ u same g fault. rw fault refl) (λ ms b. b) (t.told s e bad)
          | inr w ↦ after_bad s w.0.0 w.0.1 e w.1 w.2
        ]

    pub line_tells : TellsLine (λ s. r s >>= λ x. end_at x.1 >>= λ done. Ok (x.0, done.1)) G H
    line_tells = record { known = end_known; told = with_end_told }

  -- ---- one or the other, by the first word

  module _ {A : Type 0} (test : At → Bool) (k : Lexeme) (i : IsTest strict test k) (yes no : At → Read A) (G H : A → List Lexeme → Type 0) (t : TellsLine yes (AfterWord k G) (AfterWord k H)) (t2 : TellsLine no G H) where
    either_known : (b : Bool) (s : At) (x : A) (m : At) → test s ≡ b → (if b then yes (behind s) else no s) ≡ Ok (x, m) → (ls : List Lexeme) × G x ls × StandToEnd ls s m
    either_known true s x m tested h = let o = t.known (behind s) x m h in (k ∷ o.0, o.1, (o.2.0, (i.is s tested, o.2.1), o.2.2, o.2.3))
    either_known false s x m tested h = t2.known s x m h

    either_told : (b : Bool) (s : At) (e : TextFault) → test s ≡ b → (if b then yes (behind s) else no s) ≡ Err e → IsFirstBadToken strict (λ u. if test u then yes (behind u) else no u) (BeginBehind 0 H) s e
    either_told true s e tested h =
        bad_behind strict (λ u. if test u then yes (behind u) else no u) yes (BeginBehind 0 (AfterWord k H)) (BeginBehind 0 H) (k ∷ []) s (behind s) e (i.is s tested, refl)
        (λ u v st g fault.
        let here = i.back u st.0 in
        let one : yes (behind u) ≡ Err g = subst (λ (a : At). yes a ≡ Err g) st.2.0 fault in
        rw (here, one) refl)
        (λ ms b few. b (omega (arith, few))) (t.told (behind s) e h)
    either_told false s e tested h =
        bad_there strict (λ u. if test u then yes (behind u) else no u) no (BeginBehind 0 H) (BeginBehind 0 H) s e
        (λ u same g fault. let here : test u ≡ false = sym (i.same s u same) ∙ tested in rw (here, fault) refl) (λ ms b. b) (t2.told s e h)

    pub either_line : TellsLine (λ u. if test u then yes (behind u) else no u) G H
    either_line = record { known = λ s x m h. either_known (test s) s x m refl h; told = λ s e h. either_told (test s) s e refl h }

  -- no line of those that are known
  pub no_line : {A : Type 0} (G H : A → List Lexeme → Type 0) (x : A) (ls : List Lexeme) → H x ls → TellsLine {A = A} (λ s. bad_at s) G H
  no_line {A} G H x ls c = record {
    known = λ s y m h. absurd (cc);
    told = λ s e h. bad_token strict (λ u. bad_at u) (BeginBehind 0 H) s e (λ u same. refl) (λ few. (ls, x, c)) (bad_is {A = A} s e h);
  }

  -- what two readers that read alike tell
  pub line_equal : {A : Type 0} (r r' : At → Read A) (G H : A → List Lexeme → Type 0) → ((s : At) → r' s ≡ r s) → TellsLine r G H → TellsLine r' G H
  line_equal r r' G H same t = record {
    known = λ s x m h. t.known s x m (sym (same s) ∙ h);
    told = λ s e h.
        let b = t.told s e (sym (same s) ∙ h) in
        record { before = b.before; here = b.here; cut = b.cut; stands = b.stands; unended = b.unended; told = b.told; always = λ u v st. same u ∙ b.always u v st; begins = b.begins };
  }

  -- one that begins with a word, or another
  module _ {A : Type 0} (test : At → Bool) (k : Lexeme) (i : IsTest strict test k) (yes no : At → Read A) (G H : A → List Lexeme → Type 0) (t : TellsLine yes G H) (t2 : TellsLine no G H) where
    first_known : (b : Bool) (s : At) (x : A) (m : At) → (if b then yes s else no s) ≡ Ok (x, m) → (ls : List Lexeme) × G x ls × StandToEnd ls s m
    first_known true s x m h = t.known s x m h
    first_known false s x m h = t2.known s x m h

    first_told : (b : Bool) (s : At) (e : TextFault) → test s ≡ b → (if b then yes s else no s) ≡ Err e → IsFirstBadToken strict (λ u. if test u then yes u else no u) (BeginBehind 0 H) s e
    first_told true s e tested h =
        bad_there strict (λ u. if test u then yes u else no u) yes (BeginBehind 0 H) (BeginBehind 0 H) s e
        (λ u same g fault. let here : test u ≡ true = sym (i.same s u same) ∙ tested in rw (here, fault) refl) (λ ms b. b) (t.told s e h)
    first_told false s e tested h =
        bad_there strict (λ u. if test u then yes u else no u) no (BeginBehind 0 H) (BeginBehind 0 H) s e
        (λ u same g fault. let here : test u ≡ false = sym (i.same s u same) ∙ tested in rw (here, fault) refl) (λ ms b. b) (t2.told s e h)

    pub first_line : TellsLine (λ u. if test u then yes u else no u) G H
    first_line = record { known = λ s x m h. first_known (test s) s x m h; told = λ s e h. first_told (test s) s e refl h }
