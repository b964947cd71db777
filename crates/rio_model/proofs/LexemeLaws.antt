-- Takes at tokens that are known, and which tokens takes pass over.
use Rattle.std.proofs.Common.{◌≡◌, ℕ, ◌+◌, ◌<◌, ◌≤◌, List, [], ◌∷◌, ◌++◌, length, Bool, true, false, ◌==◌, ◌&&◌, nat_le, if◌then◌else◌, Option, Some, None, option_and_then, Ok, Err, refl, sym, ap, subst, arith}
use Rattle.std.proofs.lemmas.Bool.{and_parts, eq-eqb, eqb-true, Decides.{nat_tests}}
use Rattle.rio_num.specs.{At.{At}, Reading.{◌>>=◌}}
use Rattle.rio_num.proofs.ReadLaws.{if_is, ok_is}
use Rattle.rio_token.specs.{declared.token.Token.{Token, TheVariants.{Word, Text, Mark, Bad, Cut, End}}, declared.fault.TextFault.{TextFault}}
use Rattle.rio_token.specs.Reading.{Read, bad_at, is_mark, is_word, mark_at, marked, next_word, num_at, num_between_at, some_if, string_at, string_by, taken_at, word_at, word_that_at}
use Rattle.rio_token.specs.{Tokens.{behind, next_at}, Words.{num_between_of, num_of}, Further.{can_be_passed}}
use Rattle.rio_token.proofs.PassLaws.{passed_takes_some}
use Rattle.rio_model.specs.Lexemes.{IsNext, Lexeme, Stand, chars, glued, mark, word}

-- ---- what comes next is taken

pub mark_again : (b : ℕ) (s : At) → IsNext (mark b) s → mark_at b s ≡ Ok (tt, behind s)
unfolding mark_at
mark_again b s h = let same : (b == b) ≡ true = eq-eqb b b refl in rw (h, same) refl

pub marked_again : (b k : ℕ) (s : At) → IsNext (mark b) s → marked k s ≡ (b == k)
marked_again b k s h = rw h refl

pub word_not_marked : (w : List ℕ) (k : ℕ) (s : At) → IsNext (word w) s → marked k s ≡ false
word_not_marked w k s h = rw h.0 refl

pub word_again : (w : List ℕ) (s : At) → IsNext (word w) s → word_at s ≡ Ok (w, behind s)
unfolding word_at
word_again w s h = rw (h.0, h.1) refl

pub word_that_again : (test : List ℕ → Bool) (w : List ℕ) (s : At) → IsNext (word w) s → test w ≡ true → word_that_at test s ≡ Ok (w, behind s)
unfolding word_that_at
word_that_again test w s h t = rw (h.0, h.1, t) refl

pub num_again : (w : List ℕ) (n : ℕ) (s : At) → IsNext (word w) s → num_of w ≡ Some n → num_at s ≡ Ok (n, behind s)
unfolding num_at
num_again w n s h t = rw (h.0, h.1, t) refl

pub num_between_again : (low high : ℕ) (w : List ℕ) (n : ℕ) (s : At) → IsNext (word w) s → num_of w ≡ Some n → low ≤ n → n ≤ high → num_between_at low high s ≡ Ok (n, behind s)
unfolding num_between_at
num_between_again low high w n s h t above below =
    let a : nat_le low n ≡ true = grind (arith, nat_tests) in
    let b : nat_le n high ≡ true = grind (arith, nat_tests) in
    rw (h.0, h.1, t, a, b) refl

pub bounded_again : (low high : ℕ) (w : List ℕ) (n : ℕ) (s : At) → IsNext (word w) s → num_between_of low high w ≡ Some n → num_between_at low high s ≡ Ok (n, behind s)
unfolding num_between_at
bounded_again low high w n s h t = rw (h.0, h.1, t) refl

pub string_again : (t : List ℕ) (s : At) → IsNext (chars t) s → string_at s ≡ Ok (t, behind s)
unfolding string_at
string_again t s h = rw (h.0, h.1) refl

-- ---- tokens one behind the other

pub stand_split : (ls ms : List Lexeme) (s t : At) → Stand (ls ++ ms) s t → (m : At) × Stand ls s m × Stand ms m t
stand_split [] ms s t h = (s, refl, h)
stand_split (l ∷ ls) ms s t h = let r = stand_split ls ms (behind s) t h.1 in (r.0, (h.0, r.1), r.2)

pub stand_joined : (ls ms : List Lexeme) (s m t : At) → Stand ls s m → Stand ms m t → Stand (ls ++ ms) s t
stand_joined [] ms s m t e h = subst (λ (x : At). Stand ms x t) e h
stand_joined (l ∷ ls) ms s m t h k = (h.0, stand_joined ls ms (behind s) m t h.1 k)

-- ---- what was taken came next

-- what was read is handed on, in another form
abbrev pub with_place : {A B : Type 0} → (A → B) → A × At → Read B
with_place f x = Ok (f x.0, x.1)

-- what was read first, and what then
pub then_ok : {A B : Type 0} (r : Read A) (f : A × At → Read B) (y : B) (t : At) → (r >>= f) ≡ Ok (y, t) → (x : A × At) × (r ≡ Ok x) × (f x ≡ Ok (y, t))
then_ok (Ok x) f y t h = (x, refl, h)
then_ok (Err e) f y t h = absurd (cc)

pub bad_not_ok : {A : Type 0} (s : At) (y : A × At) → bad_at s ≡ Ok y → ⊥
bad_not_ok s y h = cc

-- what a take took, and where reading goes on
pub taken_is : {A : Type 0} (o : Option A) (s : At) (x : A) (t : At) → taken_at o s ≡ Ok (x, t) → (o ≡ Some x) × (t ≡ behind s)
taken_is None s x t h = absurd (cc)
taken_is {A} (Some y) s x t h =
    let e = ok_is {A = A × At} {E = TextFault} (y, behind s) (x, t) h in
    (ap (λ (q : A × At). Some q.0) e, sym (ap (λ (q : A × At). q.1) e))

is_mark_is : (b : ℕ) (token : Token) → is_mark b token ≡ true → token ≡ Mark b
is_mark_is b (Mark k) h = ap (λ (i : ℕ). let t : Token = Mark i in t) (eqb-true k b h)
is_mark_is b Word h = absurd (cc)
is_mark_is b Text h = absurd (cc)
is_mark_is b Bad h = absurd (cc)
is_mark_is b Cut h = absurd (cc)
is_mark_is b End h = absurd (cc)

pub marked_is : (b : ℕ) (s : At) → marked b s ≡ true → IsNext (mark b) s
marked_is b s h = is_mark_is b (next_at s).token h

pub mark_found : (b : ℕ) (s : At) (x : Unit {0}) (t : At) → mark_at b s ≡ Ok (x, t) → IsNext (mark b) s × (t ≡ behind s)
unfolding mark_at
mark_found b s x t h =
    let w = taken_is (some_if (marked b s) tt) s x t h in
    (marked_is b s (if_is (marked b s) tt x w.0).0, w.1)

is_word_is : (token : Token) → is_word token ≡ true → token ≡ Word
is_word_is Word h = refl
is_word_is (Mark k) h = absurd (cc)
is_word_is Text h = absurd (cc)
is_word_is Bad h = absurd (cc)
is_word_is Cut h = absurd (cc)
is_word_is End h = absurd (cc)

pub next_word_is : (s : At) (w : List ℕ) → next_word s ≡ Some w → IsNext (word w) s
next_word_is s w h =
    let p = if_is (is_word (next_at s).token) (next_at s).bytes w h in
    (is_word_is (next_at s).token p.0, p.1)

pub word_found : (s : At) (w : List ℕ) (t : At) → word_at s ≡ Ok (w, t) → IsNext (word w) s × (t ≡ behind s)
unfolding word_at
word_found s w t h = let p = taken_is (next_word s) s w t h in (next_word_is s w p.0, p.1)

-- what follows from a word
pub then_is : {A : Type 0} (f : List ℕ → Option A) (o : Option (List ℕ)) (x : A) → option_and_then f o ≡ Some x → (w : List ℕ) × (o ≡ Some w) × (f w ≡ Some x)
then_is f None x h = absurd (cc)
then_is f (Some w) x h = (w, refl, h)

pub word_that_found : (test : List ℕ → Bool) (s : At) (w : List ℕ) (t : At) → word_that_at test s ≡ Ok (w, t) → IsNext (word w) s × (test w ≡ true) × (t ≡ behind s)
unfolding word_that_at
word_that_found test s w t h =
    let p = taken_is (option_and_then (λ v. some_if (test v) v) (next_word s)) s w t h in
    let q = then_is (λ v. some_if (test v) v) (next_word s) w p.0 in
    let i = if_is (test q.0) q.0 w q.2 in
    (subst (λ (v : List ℕ). IsNext (word v) s) i.1 (next_word_is s q.0 q.1), subst (λ (v : List ℕ). test v ≡ true) i.1 i.0, p.1)

pub num_found : (s : At) (n : ℕ) (t : At) → num_at s ≡ Ok (n, t) → (w : List ℕ) × IsNext (word w) s × (num_of w ≡ Some n) × (t ≡ behind s)
unfolding num_at
num_found s n t h =
    let p = taken_is (option_and_then num_of (next_word s)) s n t h in
    let q = then_is num_of (next_word s) n p.0 in
    (q.0, next_word_is s q.0 q.1, q.2, p.1)

bounded : (low high : ℕ) (o : Option ℕ) (n : ℕ) → option_and_then (λ m. if nat_le low m && nat_le m high then Some m else None) o ≡ Some n → (o ≡ Some n) × ((nat_le low n && nat_le n high) ≡ true)
bounded low high None n h = absurd (cc)
bounded low high (Some m) n h =
    let p = if_is (nat_le low m && nat_le m high) m n h in
    (ap (λ (k : ℕ). let o : Option ℕ = Some k in o) p.1, subst (λ (k : ℕ). (nat_le low k && nat_le k high) ≡ true) p.1 p.0)

pub num_between_found : (low high : ℕ) (s : At) (n : ℕ) (t : At) → num_between_at low high s ≡ Ok (n, t)
    → (w : List ℕ) × IsNext (word w) s × (num_of w ≡ Some n) × (low ≤ n) × (n ≤ high) × (t ≡ behind s)
unfolding num_between_at
num_between_found low high s n t h =
    let p = taken_is (option_and_then (num_between_of low high) (next_word s)) s n t h in
    let q = then_is (num_between_of low high) (next_word s) n p.0 in
    let b = bounded low high (num_of q.0) n q.2 in
    let tests = and_parts (nat_le low n) (nat_le n high) b.1 in
    let above : low ≤ n = grind (arith, nat_tests) in
    let below : n ≤ high = grind (arith, nat_tests) in
    (q.0, next_word_is s q.0 q.1, b.0, above, below, p.1)

pub bounded_found : (low high : ℕ) (s : At) (n : ℕ) (t : At) → num_between_at low high s ≡ Ok (n, t) → (w : List ℕ) × IsNext (word w) s × (num_between_of low high w ≡ Some n) × (t ≡ behind s)
unfolding num_between_at
bounded_found low high s n t h =
    let p = taken_is (option_and_then (num_between_of low high) (next_word s)) s n t h in
    let q = then_is (num_between_of low high) (next_word s) n p.0 in
    (q.0, next_word_is s q.0 q.1, q.2, p.1)

string_by_found : (token : Token) (s : At) (text : List ℕ) (t : At) → string_by token s ≡ Ok (text, t) → (token ≡ Text) × ((next_at s).bytes ≡ text) × (t ≡ behind s)
string_by_found Text s text t h =
    let e = ok_is {A = List ℕ × At} {E = TextFault} ((next_at s).bytes, behind s) (text, t) h in
    (refl, ap (λ (q : List ℕ × At). q.0) e, sym (ap (λ (q : List ℕ × At). q.1) e))
string_by_found Cut s text t h = absurd (cc)
string_by_found Word s text t h = absurd (cc)
string_by_found (Mark k) s text t h = absurd (cc)
string_by_found Bad s text t h = absurd (cc)
string_by_found End s text t h = absurd (cc)

pub string_found : (s : At) (text : List ℕ) (t : At) → string_at s ≡ Ok (text, t) → IsNext (chars text) s × (t ≡ behind s)
unfolding string_at
string_found s text t h = let p = string_by_found (next_at s).token s text t h in ((p.0, p.1), p.2)

-- ---- each token takes some of the text

next_passes : (l : Lexeme) (s : At) → IsNext l s → can_be_passed (next_at s).token ≡ true
next_passes (word w) s h = rw h.0 refl
next_passes (chars t) s h = rw h.0 refl
next_passes (mark b) s h = rw h refl
next_passes (glued l) s h = next_passes l s h.1

pub takes_some : (l : Lexeme) (s : At) → IsNext l s → length (behind s).rest < length s.rest
takes_some l s h = passed_takes_some s (next_passes l s h)

-- so there are no more tokens than bytes
pub stand_within : (ls : List Lexeme) (s t : At) → Stand ls s t → length ls + length t.rest ≤ length s.rest
stand_within [] s t e = let same : length t.rest ≡ length s.rest = ap (λ (x : At). length x.rest) e in omega (arith, same)
stand_within (l ∷ ls) s t h =
    let more = stand_within ls (behind s) t h.1 in
    let some = takes_some l s h.0 in
    omega (arith, more, some)
