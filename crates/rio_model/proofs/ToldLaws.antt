-- How first tokens that can't stand are found, one reading after the other.
use Rattle.std.proofs.Common.{◌≡◌, ◌⊎◌, inl, inr, ℕ, List, [], ◌∷◌, ◌++◌, Bool, true, false, ◌||◌, Option, Some, None, option_and_then, Result, Ok, Err, refl, sym, ◌∙◌, ap, subst, append_assoc}
use Rattle.rio_num.specs.{At.{At, end_place}, Reading.{◌>>=◌}}
use Rattle.rio_token.specs.declared.fault.TextFault.{TextFault, TheVariants.{BadText}}
use Rattle.rio_token.specs.declared.token.Token.{Token, TheVariants.{Word, Text, Mark, Bad, Cut, End}}
use Rattle.rio_token.specs.Reading.{Read, bad_at, cut_at, end_at, is_end, is_mark, mark_at, marked, next_word, num_at, num_between_at, some_if, string_at, string_by, taken_at, word_at, word_that_at}
use Rattle.rio_token.specs.{Tokens.{next_at, token_place}, Words.{num_between_of, num_of}}
use Rattle.rio_model.specs.{Lexemes.{IsNext, Lexeme, Stand, chars, glued, mark, word}, ToldPlaces.{HaveSameNext, TellsBadToken, told_place}}
use Rattle.rio_model.proofs.LexemeLaws.{next_word_is, stand_joined, stand_split, with_place}

-- ---- the same token

pub is_same : (l : Lexeme) (s t : At) → IsNext l s → IsNext l t → HaveSameNext s t
is_same (word w) s t h k = record { token = h.0 ∙ sym k.0; word = rw (h.0, h.1, k.0, k.1) refl }
is_same (chars x) s t h k = record { token = h.0 ∙ sym k.0; word = rw (h.0, k.0) refl }
is_same (mark b) s t h k = record { token = h ∙ sym k; word = rw (h, k) refl }
is_same (glued l) s t h k = is_same l s t h.1 k.1

pub next_same : (ls : List Lexeme) (s t s' t' : At) → Stand ls s s' → Stand ls t t' → HaveSameNext s' t' → HaveSameNext s t
next_same [] s t s' t' h k same = subst (λ (x : At). HaveSameNext x t) h (subst (λ (x : At). HaveSameNext s' x) k same)
next_same (l ∷ ls) s t s' t' h k same = is_same l s t h.0 k.0

pub marked_same : (b : ℕ) (s t : At) → HaveSameNext s t → marked b s ≡ marked b t
marked_same b s t same = ap (is_mark b) same.token

pub opens_same : (s t : At) → HaveSameNext s t → (marked 123 s || marked 35 s) ≡ (marked 123 t || marked 35 t)
opens_same s t same = ap (λ (k : Token). is_mark 123 k || is_mark 35 k) same.token

pub mark_same : (b : ℕ) (s t : At) → HaveSameNext s t → IsNext (mark b) s → IsNext (mark b) t
mark_same b s t same h = sym same.token ∙ h

pub word_same : (w : List ℕ) (s t : At) → HaveSameNext s t → IsNext (word w) s → IsNext (word w) t
word_same w s t same h =
    let here : next_word s ≡ Some w = rw (h.0, h.1) refl in
    next_word_is t w (sym same.word ∙ here)

-- ---- behind other tokens

module _ {A B : Type 0} (r : At → Read B) (r2 : At → Read A) (P2 P : List Lexeme → Type 0) where
  pub told_behind : (ls : List Lexeme) (s m : At) (e : TextFault) → Stand ls s m
      → ((t n : At) → Stand ls t n → HaveSameNext m n → (g : TextFault) → r2 n ≡ Err g → r t ≡ Err g) → ((ms : List Lexeme) → P2 ms → P (ls ++ ms))
      → TellsBadToken r2 P2 m e → TellsBadToken r P s e
  told_behind ls s m e stands pass grows b = record {
    before = ls ++ b.before;
    here = b.here;
    cut = b.cut;
    stands = stand_joined ls b.before s m b.here stands b.stands;
    unended = b.unended;
    told = b.told;
    always = λ t c h same.
        let k = stand_split ls b.before t c h in
        let here : HaveSameNext m k.0 = next_same b.before m k.0 b.here c b.stands k.2 same in
        pass t k.0 k.1 here (BadText (told_place b.cut c)) (b.always k.0 c k.2 same);
    begins = λ last is. subst P (sym (append_assoc ls b.before last)) (grows (b.before ++ last) (b.begins last is));
  }

  pub told_here : (s : At) (e : TextFault) → ((t : At) → HaveSameNext s t → (g : TextFault) → r2 t ≡ Err g → r t ≡ Err g) → ((ms : List Lexeme) → P2 ms → P ms) → TellsBadToken r2 P2 s e → TellsBadToken r P s e
  told_here s e pass grows b =
      told_behind [] s s e refl (λ t n h same g bad. subst (λ (x : At). r x ≡ Err g) h (pass n same g bad)) grows b

-- ---- single tokens

pub bad_here : {A : Type 0} (r : At → Read A) (P : List Lexeme → Type 0) (s : At) (e : TextFault) → ((t : At) → HaveSameNext s t → r t ≡ bad_at t) → P [] → e ≡ BadText (token_place s) → TellsBadToken r P s e
bad_here r P s e always empty told = record {
  before = [];
  here = s;
  cut = false;
  stands = refl;
  unended = λ never. absurd (cc);
  told = told;
  always = λ t c h same. subst (λ (x : At). r x ≡ bad_at c) h (always c same);
  begins = λ last is. subst P (sym is) empty;
}

pub err_is : {A : Type 0} (d e : TextFault) → (let x : Result A TextFault = Err d in x ≡ Err e) → d ≡ e
err_is d e h = cc

pub bad_is : {A : Type 0} (s : At) (e : TextFault) → (let x : Read A = bad_at s in x ≡ Err e) → e ≡ BadText (token_place s)
bad_is {A} s e h = sym (err_is {A = A × At} (BadText (token_place s)) e h)

taken_bad : {A : Type 0} (o : Option A) (s : At) (e : TextFault) → taken_at o s ≡ Err e → (o ≡ None) × (e ≡ BadText (token_place s))
taken_bad {A} None s e h = (refl, bad_is {A = A} s e h)
taken_bad (Some x) s e h = absurd (cc)

none_is_bad : {A : Type 0} (o : Option A) (t : At) → o ≡ None → taken_at o t ≡ bad_at t
none_is_bad o t h = rw h refl

pub mark_bad : (b : ℕ) (s : At) (e : TextFault) → mark_at b s ≡ Err e → (e ≡ BadText (token_place s)) × ((t : At) → HaveSameNext s t → mark_at b t ≡ bad_at t)
unfolding mark_at
mark_bad b s e h =
    let t = taken_bad (some_if (marked b s) tt) s e h in
    (t.1, λ u same. none_is_bad (some_if (marked b u) tt) u (subst (λ (k : Token). some_if (is_mark b k) tt ≡ None) same.token t.0))

pub mark_told : (b : ℕ) (P : List Lexeme → Type 0) (s : At) (e : TextFault) → P [] → mark_at b s ≡ Err e → TellsBadToken (mark_at b) P s e
mark_told b P s e empty h = let bad = mark_bad b s e h in bad_here (mark_at b) P s e bad.1 empty bad.0

pub end_told : (P : List Lexeme → Type 0) (s : At) (e : TextFault) → P [] → end_at s ≡ Err e → TellsBadToken end_at P s e
unfolding end_at
end_told P s e empty h =
    let t = taken_bad (some_if (is_end (next_at s).token) tt) s e h in
    bad_here end_at P s e (λ u same. none_is_bad (some_if (is_end (next_at u).token) tt) u (subst (λ (k : Token). some_if (is_end k) tt ≡ None) same.token t.0)) empty t.1

-- a word that says something
pub from_word : {A : Type 0} (f : List ℕ → Option A) (P : List Lexeme → Type 0) (s : At) (e : TextFault) → P [] → taken_at (option_and_then f (next_word s)) s ≡ Err e → TellsBadToken (λ t. taken_at (option_and_then f (next_word t)) t) P s e
from_word f P s e empty h =
    let t = taken_bad (option_and_then f (next_word s)) s e h in
    bad_here (λ t. taken_at (option_and_then f (next_word t)) t) P s e (λ u same. none_is_bad (option_and_then f (next_word u)) u (subst (λ (o : Option (List ℕ)). option_and_then f o ≡ None) same.word t.0)) empty t.1

pub word_that_told : (test : List ℕ → Bool) (P : List Lexeme → Type 0) (s : At) (e : TextFault) → P [] → word_that_at test s ≡ Err e → TellsBadToken (word_that_at test) P s e
unfolding word_that_at
word_that_told test P s e empty h = from_word (λ w. some_if (test w) w) P s e empty h

pub num_told : (P : List Lexeme → Type 0) (s : At) (e : TextFault) → P [] → num_at s ≡ Err e → TellsBadToken num_at P s e
unfolding num_at
num_told P s e empty h = from_word num_of P s e empty h

pub num_between_told : (low high : ℕ) (P : List Lexeme → Type 0) (s : At) (e : TextFault) → P [] → num_between_at low high s ≡ Err e → TellsBadToken (num_between_at low high) P s e
unfolding num_between_at
num_between_told low high P s e empty h = from_word (num_between_of low high) P s e empty h

pub word_told : (P : List Lexeme → Type 0) (s : At) (e : TextFault) → P [] → word_at s ≡ Err e → TellsBadToken word_at P s e
unfolding word_at
word_told P s e empty h =
    let t = taken_bad (next_word s) s e h in
    bad_here word_at P s e (λ u same. none_is_bad (next_word u) u (sym same.word ∙ t.0)) empty t.1

module _ (P : List Lexeme → Type 0) (s : At) (e : TextFault) (empty : P []) (strings : (text : List ℕ) → P (chars text ∷ [])) where
  no_string : (token : Token) → (next_at s).token ≡ token → ((t : At) → string_by token t ≡ bad_at t) → e ≡ BadText (token_place s) → TellsBadToken string_at P s e
  unfolding string_at
  no_string token next bad told =
      bad_here string_at P s e (λ t same. ap (λ (k : Token). string_by k t) (sym same.token ∙ next) ∙ bad t) empty told

  cut_string : (next_at s).token ≡ Cut → e ≡ BadText (end_place s) → TellsBadToken string_at P s e
  unfolding string_at
  cut_string next told = record {
    before = [];
    here = s;
    cut = true;
    stands = refl;
    unended = λ _. next;
    told = told;
    always = λ t c h same.
        let one : string_at c ≡ cut_at c = ap (λ (k : Token). string_by k c) (sym same.token ∙ next) in
        subst (λ (x : At). string_at x ≡ cut_at c) h one;
    begins = λ last is. subst P (sym is.1) (strings is.0);
  }

  string_by_told : (token : Token) → (next_at s).token ≡ token → string_by token s ≡ Err e → TellsBadToken string_at P s e
  string_by_told Text next h = absurd (cc)
  string_by_told Cut next h = cut_string next (sym (err_is {A = List ℕ × At} (BadText (end_place s)) e h))
  string_by_told Word next h = no_string Word next (λ t. refl) (bad_is {A = List ℕ} s e h)
  string_by_told (Mark b) next h = no_string (Mark b) next (λ t. refl) (bad_is {A = List ℕ} s e h)
  string_by_told Bad next h = no_string Bad next (λ t. refl) (bad_is {A = List ℕ} s e h)
  string_by_told End next h = no_string End next (λ t. refl) (bad_is {A = List ℕ} s e h)

  pub string_told : string_at s ≡ Err e → TellsBadToken string_at P s e
  unfolding string_at
  string_told h = string_by_told (next_at s).token refl h

-- ---- one reading after the other

pub bind_bad : {A : Type 0} (B : Type 0) (r : Read A) (f : A × At → Read B) (e : TextFault) → (r >>= f) ≡ Err e → (r ≡ Err e) ⊎ ((x : A × At) × (r ≡ Ok x) × (f x ≡ Err e))
bind_bad B (Ok x) f e h = inr (x, refl, h)
bind_bad {A} B (Err d) f e h = inl (ap (λ (g : TextFault). let y : Read A = Err g in y) (err_is {A = B × At} d e h))

-- what was read is only handed on
pub handed_bad : {A B : Type 0} (r : Read A) (f : A → B) (e : TextFault) → (r >>= with_place f) ≡ Err e → r ≡ Err e
handed_bad (Ok x) f e h = absurd (cc)
handed_bad {A} {B} (Err d) f e h = ap (λ (g : TextFault). let y : Read A = Err g in y) (err_is {A = B × At} d e h)
