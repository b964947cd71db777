-- How first tokens that can't stand are found in texts that stand alike.
use Rattle.std.proofs.Common.{◌≡◌, ℕ, ◌+◌, ◌<◌, ◌^◌, List, [], ◌∷◌, ◌++◌, length, false, Ok, Err, refl, sym, subst, append_assoc, Bool}
use Rattle.rio_num.specs.At.{At}
use Rattle.rio_token.specs.{declared.fault.TextFault.{TextFault, TheVariants.{BadText}}, Reading.{Read, bad_at}, Tokens.{behind, token_place}}
use Rattle.rio_model.specs.{Lexemes.{Lexeme, Stand}, ToldPlaces.{Begin, TellsBadToken, told_place}}
use Rattle.rio_model.proofs.LexemeLaws.{stand_joined}
use Rattle.rio_step.specs.CommandLaws.{HaveSameToken, IsFirstBadToken, StandAlike}

-- they begin something, if they are few, with so many names before
abbrev pub BeginBehind : {A : Type 0} → ℕ → (A → List Lexeme → Type 0) → List Lexeme → Type 0
BeginBehind n H ls = n + length ls < 2 ^ 32 → Begin H ls

abbrev pub begin_as : {A B : Type 0} (n : ℕ) (g : A → B) (H : A → List Lexeme → Type 0) (J : B → List Lexeme → Type 0) → ((x : A) (ls : List Lexeme) → H x ls → J (g x) ls)
    → (ls : List Lexeme) → BeginBehind n H ls → BeginBehind n J ls
begin_as n g H J to ls b few = let o = b few in (o.0, g o.1, to o.1 (ls ++ o.0) o.2)

module _ (strict : Bool) where
  -- ---- texts that stand alike

  pub alike_first : (ls : List Lexeme) (s t n : At) → StandAlike strict ls s t n → HaveSameToken strict s t
  alike_first [] s t n h = h.1
  alike_first (l ∷ ls) s t n h = h.1

  pub alike_stand : (ls : List Lexeme) (s t n : At) → StandAlike strict ls s t n → Stand ls t n
  alike_stand [] s t n h = h.0
  alike_stand (l ∷ ls) s t n h = (h.0, alike_stand ls (behind s) (behind t) n h.2)

  pub alike_end : (ls : List Lexeme) (s m t n : At) → Stand ls s m → StandAlike strict ls s t n → HaveSameToken strict m n
  alike_end [] s m t n e h = subst (λ (x : At). HaveSameToken strict x n) (sym e) (subst (λ (x : At). HaveSameToken strict s x) (sym h.0) h.1)
  alike_end (l ∷ ls) s m t n e h = alike_end ls (behind s) m (behind t) n e.1 h.2

  -- the front of what stands alike, and the rest
  pub alike_split : (ls ms : List Lexeme) (s m t n : At) → Stand ls s m → StandAlike strict (ls ++ ms) s t n → (k : At) × StandAlike strict ls s t k × StandAlike strict ms m k n
  alike_split [] ms s m t n e h = (t, (refl, alike_first ms s t n h), subst (λ (x : At). StandAlike strict ms x t n) (sym e) h)
  alike_split (l ∷ ls) ms s m t n e h = let r = alike_split ls ms (behind s) m (behind t) n e.1 h.2 in (r.0, (h.0, h.1, r.1), r.2)

  -- ---- behind other tokens

  module _ {A B : Type 0} (r : At → Read B) (r2 : At → Read A) (P2 P : List Lexeme → Type 0) where
    pub bad_behind : (ls : List Lexeme) (s m : At) (e : TextFault) → Stand ls s m
        → ((t n : At) → StandAlike strict ls s t n → (g : TextFault) → r2 n ≡ Err g → r t ≡ Err g) → ((ms : List Lexeme) → P2 ms → P (ls ++ ms))
        → IsFirstBadToken strict r2 P2 m e → IsFirstBadToken strict r P s e
    bad_behind ls s m e stands pass grows b = record {
      before = ls ++ b.before;
      here = b.here;
      cut = b.cut;
      stands = stand_joined ls b.before s m b.here stands b.stands;
      unended = b.unended;
      told = b.told;
      always = λ t c h.
          let k = alike_split ls b.before s m t c stands h in
          pass t k.0 k.1 (BadText (told_place b.cut c)) (b.always k.0 c k.2);
      begins = λ last is. subst P (sym (append_assoc ls b.before last)) (grows (b.before ++ last) (b.begins last is));
    }

    pub bad_there : (s : At) (e : TextFault) → ((t : At) → HaveSameToken strict s t → (g : TextFault) → r2 t ≡ Err g → r t ≡ Err g) → ((ms : List Lexeme) → P2 ms → P ms)
        → IsFirstBadToken strict r2 P2 s e → IsFirstBadToken strict r P s e
    bad_there s e pass grows b =
        bad_behind [] s s e refl (λ t n h g bad. pass t h.1 g (subst (λ (x : At). r2 x ≡ Err g) h.0 bad)) grows b

  -- the next token itself
  pub bad_token : {A : Type 0} (r : At → Read A) (P : List Lexeme → Type 0) (s : At) (e : TextFault) → ((t : At) → HaveSameToken strict s t → r t ≡ bad_at t) → P [] → e ≡ BadText (token_place s) → IsFirstBadToken strict r P s e
  bad_token r P s e always empty told = record {
    before = [];
    here = s;
    cut = false;
    stands = refl;
    unended = λ never. absurd (cc);
    told = told;
    always = λ t c h. subst (λ (x : At). r t ≡ bad_at x) (sym h.0) (always t h.1);
    begins = λ last is. subst P (sym is) empty;
  }

  -- what is bad wherever the same tokens stand is so where they stand alike
  pub bad_alike : {A : Type 0} (r : At → Read A) (P : List Lexeme → Type 0) (s : At) (e : TextFault) → TellsBadToken r P s e → IsFirstBadToken strict r P s e
  bad_alike r P s e b = record {
    before = b.before;
    here = b.here;
    cut = b.cut;
    stands = b.stands;
    unended = b.unended;
    told = b.told;
    always = λ t c h. b.always t c (alike_stand b.before s t c h) (alike_end b.before s b.here t c b.stands h).next;
    begins = b.begins;
  }

  -- ---- what a reader reads and tells

  -- a thing is read behind these tokens, and so it is where they stand alike
  pub record IsKnown {A : Type 0} (r : At → Read A) (G : A → List Lexeme → Type 0) (s : At) (x : A) (m : At) : Type 0 where
    pub passed : List Lexeme
    pub spelled : G x passed
    pub stands : Stand passed s m
    pub again : (t n : At) → StandAlike strict passed s t n → r t ≡ Ok (x, n)

  -- what is read is spelled in one way, what is begun in another, which has all that the first has
  pub record Tells {A : Type 0} (r : At → Read A) (G H : A → List Lexeme → Type 0) (n : ℕ) : Type 0 where
    pub known : (s : At) (x : A) (m : At) → r s ≡ Ok (x, m) → IsKnown r G s x m
    pub up : (x : A) (ls : List Lexeme) → G x ls → H x ls
    pub told : (s : At) (e : TextFault) → r s ≡ Err e → IsFirstBadToken strict r (BeginBehind n H) s e
