-- One reader behind another, and one or another by the next token: what they read, and the first tokens that can't stand.
use Rattle.std.proofs.Common.{◌≡◌, ◌⊎◌, inl, inr, ℕ, ◌+◌, ◌<◌, ◌≤◌, ◌^◌, List, [], ◌∷◌, ◌++◌, length, Bool, true, false, if◌then◌else◌, Ok, Err, refl, sym, ◌∙◌, subst, arith, append_assoc, length-append}
use Rattle.rio_num.specs.{At.{At}, Reading.{◌>>=◌}}
use Rattle.rio_token.specs.{declared.fault.TextFault.{TextFault}, Reading.{Read}, Tokens.{behind}}
use Rattle.rio_model.specs.Lexemes.{Lexeme, Stand}
use Rattle.rio_model.proofs.{ItemLaws.{read_is}, LexemeLaws.{stand_joined, then_ok, with_place}, ToldLaws.{bind_bad, handed_bad}}
use Rattle.rio_step.specs.CommandLaws.{IsFirstBadToken}
use Rattle.rio_step.proofs.{AlikeLaws.{BeginBehind, IsKnown, Tells, alike_first, alike_split, bad_behind, bad_there, begin_as}, TellsLaws.{IsTest}}

abbrev pub Nothing : {A : Type 0} → A → A → List Lexeme → Type 0
Nothing x y ls = (y ≡ x) × (ls ≡ [])

abbrev pub InTurn : {A B : Type 0} → (A → List Lexeme → Type 0) → (A → B → List Lexeme → Type 0) → B → List Lexeme → Type 0
InTurn {A} G G2 y ls = (x : A) × (own : List Lexeme) × (others : List Lexeme) × (ls ≡ own ++ others) × G x own × G2 x y others

abbrev pub Behind : {A : Type 0} → Lexeme → (A → List Lexeme → Type 0) → A → List Lexeme → Type 0
Behind k G x ls = (own : List Lexeme) × (ls ≡ k ∷ own) × G x own

abbrev pub EitherOf : {A : Type 0} → (A → List Lexeme → Type 0) → (A → List Lexeme → Type 0) → A → List Lexeme → Type 0
EitherOf G G2 x ls = G x ls ⊎ G2 x ls

module _ (strict : Bool) where
  -- ---- in another form

  module _ {A B : Type 0} (r : At → Read A) (g : A → B) (G H : A → List Lexeme → Type 0) (G' H' : B → List Lexeme → Type 0) (n : ℕ) (t : Tells strict r G H n)
      (to : (x : A) (ls : List Lexeme) → G x ls → G' (g x) ls) (begun : (x : A) (ls : List Lexeme) → H x ls → H' (g x) ls) (up : (y : B) (ls : List Lexeme) → G' y ls → H' y ls) where
    pub handed_tells : Tells strict (λ s. r s >>= with_place g) G' H' n
    handed_tells = record {
      known = λ s y m h.
          let a = then_ok (r s) (with_place g) y m h in
          let e = read_is (g a.0.0) y a.0.1 m a.2 in
          let k = t.known s a.0.0 a.0.1 a.1 in
          record {
            passed = k.passed;
            spelled = subst (λ (z : B). G' z k.passed) e.0 (to a.0.0 k.passed k.spelled);
            stands = subst (λ (z : At). Stand k.passed s z) e.1 k.stands;
            again = λ u v st. let one = k.again u v st in rw (one, e.0) refl;
          };
      up = up;
      told = λ s e h.
          bad_there strict (λ u. r u >>= with_place g) r (BeginBehind n H) (BeginBehind n H') s e (λ u same f bad. rw bad refl)
          (begin_as n g H H' begun) (t.told s e (handed_bad (r s) g e h));
    }

  -- the same, of what isn't handed on
  module _ {A : Type 0} (r : At → Read A) (G H G' H' : A → List Lexeme → Type 0) (n : ℕ) (t : Tells strict r G H n)
      (to : (x : A) (ls : List Lexeme) → G x ls → G' x ls) (begun : (x : A) (ls : List Lexeme) → H x ls → H' x ls) (up : (y : A) (ls : List Lexeme) → G' y ls → H' y ls) where
    pub tells_as : Tells strict r G' H' n
    tells_as = record {
      known = λ s x m h. let k = t.known s x m h in record { passed = k.passed; spelled = to x k.passed k.spelled; stands = k.stands; again = k.again };
      up = up;
      told = λ s e h. bad_there strict r r (BeginBehind n H) (BeginBehind n H') s e (λ u same f bad. bad) (begin_as n (λ x. x) H H' begun) (t.told s e h);
    }

  -- where fewer names stand before
  pub fewer : {A : Type 0} (r : At → Read A) (G H : A → List Lexeme → Type 0) (m n : ℕ) → m ≤ n → Tells strict r G H m → Tells strict r G H n
  fewer r G H m n le t = record {
    known = t.known;
    up = t.up;
    told = λ s e h. bad_there strict r r (BeginBehind m H) (BeginBehind n H) s e (λ u same g bad. bad) (λ ls b few. b (omega (arith, few, le))) (t.told s e h);
  }

  -- ---- nothing is read

  pub nothing_tells : {A : Type 0} (x : A) (n : ℕ) → Tells strict {A = A} (λ s. Ok (x, s)) (Nothing x) (Nothing x) n
  nothing_tells {A} x n = record {
    known = λ s y m h.
        let e = read_is x y s m h in
        record { passed = []; spelled = (sym e.0, refl); stands = sym e.1; again = λ u v st. rw (e.0, st.0) refl };
    up = λ y ls c. c;
    told = λ s e h. absurd (cc);
  }

  -- ---- one behind the other

  module _ {A B : Type 0} (r : At → Read A) (f : A → At → Read B) (G H : A → List Lexeme → Type 0) (G2 H2 : A → B → List Lexeme → Type 0) (n : ℕ) (names : A → ℕ)
      (t : Tells strict r G H n) (t2 : (x : A) → Tells strict (f x) (G2 x) (H2 x) (names x))
      (grows : (x : A) (own : List Lexeme) → G x own → names x ≤ n + length own) (some : (x : A) → n < 2 ^ 32 → (y : B) × (ls : List Lexeme) × H2 x y ls) where
    turn_known : (s : At) (y : B) (m : At) → (r s >>= λ x. f x.0 x.1) ≡ Ok (y, m) → IsKnown strict (λ u. r u >>= λ x. f x.0 x.1) (InTurn G G2) s y m
    turn_known s y m h =
        let a = then_ok (r s) (λ x. f x.0 x.1) y m h in
        let k = t.known s a.0.0 a.0.1 a.1 in
        let k2 = (t2 a.0.0).known a.0.1 y m a.2 in
        record {
          passed = k.passed ++ k2.passed;
          spelled = (a.0.0, k.passed, k2.passed, refl, k.spelled, k2.spelled);
          stands = stand_joined k.passed k2.passed s a.0.1 m k.stands k2.stands;
          again = λ u v st.
              let c = alike_split strict k.passed k2.passed s a.0.1 u v k.stands st in
              let one = k.again u c.0 c.1 in
              let two = k2.again c.0 v c.2 in
              rw (one, two) refl;
        }

    begin_first : (ls : List Lexeme) → BeginBehind n H ls → BeginBehind n (InTurn H H2) ls
    begin_first ls b few =
        let o = b few in
        let c = some o.1 (omega (arith, few)) in
        (o.0 ++ c.1, c.0, (o.1, ls ++ o.0, c.1, sym (append_assoc ls o.0 c.1), o.2, c.2))

    begin_second : (x : A) (own ls : List Lexeme) → G x own → BeginBehind (names x) (H2 x) ls → BeginBehind n (InTurn H H2) (own ++ ls)
    begin_second x own ls spelled b few =
        let o = b (omega (arith, few, length-append own ls, grows x own spelled)) in
        (o.0, o.1, (x, own, ls ++ o.0, append_assoc own ls o.0, t.up x own spelled, o.2))

    turn_told : (s : At) (e : TextFault) → (r s >>= λ x. f x.0 x.1) ≡ Err e → IsFirstBadToken strict (λ u. r u >>= λ x. f x.0 x.1) (BeginBehind n (InTurn H H2)) s e
    turn_told s e h =
        elim (bind_bad B (r s) (λ x. f x.0 x.1) e h) [
          | inl bad ↦ bad_there strict (λ u. r u >>= λ x. f x.0 x.1) r (BeginBehind n H) (BeginBehind n (InTurn H H2)) s e (λ u same g fault. rw fault refl) begin_first (t.told s e bad)
          | inr w ↦
              let k = t.known s w.0.0 w.0.1 w.1 in
              bad_behind strict (λ u. r u >>= λ x. f x.0 x.1) (f w.0.0) (BeginBehind (names w.0.0) (H2 w.0.0)) (BeginBehind n (InTurn H H2)) k.passed s w.0.1 e k.stands
              (λ u v st g fault. let one = k.again u v st in rw one fault)
              (λ ms b. begin_second w.0.0 k.passed ms k.spelled b) ((t2 w.0.0).told w.0.1 e w.2)
        ]

    pub turn_tells : Tells strict (λ u. r u >>= λ x. f x.0 x.1) (InTurn G G2) (InTurn H H2) n
    turn_tells = record {
      known = turn_known;
      up = λ y ls c. (c.0, c.1, c.2, c.3, t.up c.0 c.1 c.4, (t2 c.0).up y c.2 c.5);
      told = turn_told;
    }

  -- ---- one or the other, by the next token

  module _ {A : Type 0} (test : At → Bool) (k : Lexeme) (i : IsTest strict test k) (yes no : At → Read A) (G H G2 H2 : A → List Lexeme → Type 0) (n : ℕ) (t : Tells strict yes G H n) (t2 : Tells strict no G2 H2 n) where
    choice_known : (b : Bool) (s : At) (x : A) (m : At) → test s ≡ b → (if b then yes (behind s) else no s) ≡ Ok (x, m) → IsKnown strict (λ u. if test u then yes (behind u) else no u) (EitherOf (Behind k G) G2) s x m
    choice_known true s x m tested h =
        let o = t.known (behind s) x m h in
        record {
          passed = k ∷ o.passed;
          spelled = inl (o.passed, refl, o.spelled);
          stands = (i.is s tested, o.stands);
          again = λ u v st. let here = i.back u st.0 in let one = o.again (behind u) v st.2 in rw (here, one) refl;
        }
    choice_known false s x m tested h =
        let o = t2.known s x m h in
        record {
          passed = o.passed;
          spelled = inr o.spelled;
          stands = o.stands;
          again = λ u v st. let here : test u ≡ false = sym (i.same s u (alike_first strict o.passed s u v st)) ∙ tested in let one = o.again u v st in rw (here, one) refl;
        }

    choice_told : (b : Bool) (s : At) (e : TextFault) → test s ≡ b → (if b then yes (behind s) else no s) ≡ Err e
        → IsFirstBadToken strict (λ u. if test u then yes (behind u) else no u) (BeginBehind n (EitherOf (Behind k H) H2)) s e
    choice_told true s e tested h =
        bad_behind strict (λ u. if test u then yes (behind u) else no u) yes (BeginBehind n H) (BeginBehind n (EitherOf (Behind k H) H2)) (k ∷ []) s (behind s) e (i.is s tested, refl)
        (λ u v st g fault.
        let here = i.back u st.0 in
        let one : yes (behind u) ≡ Err g = subst (λ (a : At). yes a ≡ Err g) st.2.0 fault in
        rw (here, one) refl)
        (λ ms b few. let o = b (omega (arith, few)) in (o.0, o.1, inl (ms ++ o.0, refl, o.2))) (t.told (behind s) e h)
    choice_told false s e tested h =
        bad_there strict (λ u. if test u then yes (behind u) else no u) no (BeginBehind n H2) (BeginBehind n (EitherOf (Behind k H) H2)) s e
        (λ u same g fault. let here : test u ≡ false = sym (i.same s u same) ∙ tested in rw (here, fault) refl)
        (λ ms b few. let o = b few in (o.0, o.1, inr o.2)) (t2.told s e h)

    choice_up : (x : A) (ls : List Lexeme) → EitherOf (Behind k G) G2 x ls → EitherOf (Behind k H) H2 x ls
    choice_up x ls (inl p) = inl (p.0, p.1, t.up x p.0 p.2)
    choice_up x ls (inr p) = inr (t2.up x ls p)

    pub choice_tells : Tells strict (λ u. if test u then yes (behind u) else no u) (EitherOf (Behind k G) G2) (EitherOf (Behind k H) H2) n
    choice_tells = record {
      known = λ s x m h. choice_known (test s) s x m refl h;
      up = choice_up;
      told = λ s e h. choice_told (test s) s e refl h;
    }
