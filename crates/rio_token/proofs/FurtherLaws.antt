-- Reading goes on in the same text.
use Rattle.std.proofs.Common.{◌≡◌, ℕ, zero, suc, ◌+◌, ◌≤◌, List, [], ◌∷◌, ◌++◌, length, take, drop, min, Bool, true, false, ◌==◌, if◌then◌else◌, Option, Some, None, Ok, Err, refl, sym, ◌∙◌, ap, arith, append_assoc, length-append}
use Rattle.std.proofs.{lemmas.List.{length-drop, length-take, take-append-drop, Sums.{prefix_len-le-length}}, Math.Nat.{min-eq_left}}
use Rattle.std.specs.List.{prefix_len}
use Rattle.rio_num.specs.{At.{At}, Reading.{◌>>=◌}, Word.{is_blank_byte, is_word_byte}}
use Rattle.rio_token.specs.{declared.token.Token.{Token, TheVariants.{Text, Mark, Cut}}, declared.quoted.Ending.{Ending, TheVariants.{Closed, Broken, Unended}}}
use Rattle.rio_token.specs.{declared.quoted.Step.{Step, TheVariants.{Goes, Spells, Closes, Breaks}}, declared.quoted.Within.{Within, TheVariants.{Between}}}
use Rattle.rio_token.specs.{Further.{EndsFurther, FurtherGoesOn, FurtherIsInText, IsFurther, TakesEndFurther}, Quoted.{later, onward, quoted, step_of}}
use Rattle.rio_token.specs.Reading.{Read, end_at, list_at, mark_at, marked, more_at, num_at, num_between_at, some_at, string_at, string_by, taken_at, word_at, word_that_at}
use Rattle.rio_token.specs.Tokens.{behind, next_at, scan_from, scan_of, string_scan, word_scan}
use Rattle.rio_token.proofs.StandLaws.{drop_front}

-- ---- a token ends within the bytes that it is found in

later_within : (e : Ending) (k : ℕ) → ((n : ℕ) → e ≡ Closed n → n ≤ k) → (n : ℕ) → later 1 e ≡ Closed n → n ≤ suc k
later_within (Closed m) k ih n h = let e : 1 + m ≡ n = cc in let le = ih m refl in omega arith
later_within Broken k ih n h = absurd cc
later_within Unended k ih n h = absurd cc

onward_within : (step : Step) (bs : List ℕ) → ((w : Within) (n : ℕ) → (quoted w bs).ending ≡ Closed n → n ≤ length bs) → (n : ℕ) → (onward step (λ w. quoted w bs)).ending ≡ Closed n → n ≤ suc (length bs)
onward_within (Goes w) bs ih n h = later_within (quoted w bs).ending (length bs) (ih w) n h
onward_within (Spells b) bs ih n h = later_within (quoted Between bs).ending (length bs) (ih Between) n h
onward_within Closes bs ih n h = let e : 1 ≡ n = cc in omega arith
onward_within Breaks bs ih n h = absurd cc

quoted_within : (bs : List ℕ) (w : Within) (n : ℕ) → (quoted w bs).ending ≡ Closed n → n ≤ length bs
quoted_within [] w n h = absurd cc
quoted_within (b ∷ bs) w n h = onward_within (step_of w b) bs (λ v k q. quoted_within bs v k q) n h

string_within : (start k : ℕ) (text : List ℕ) (e : Ending) → ((n : ℕ) → e ≡ Closed n → n ≤ k) → (string_scan start text e).stop ≤ start + suc k
string_within start k text (Closed n) h = let le = h n refl in omega arith
string_within start k text Broken h = omega arith
string_within start k text Unended h = omega arith

chosen_within : (start b : ℕ) (bs : List ℕ) (word quote : Bool) →
    (if word then word_scan start (prefix_len is_word_byte (b ∷ bs)) (b ∷ bs) else if quote then (let q = quoted Between bs in string_scan start q.text q.ending) else record { token = Mark b; start = start; stop = start + 1; bytes = [] }).stop ≤ start + suc (length bs)
chosen_within start b bs true quote = let le = prefix_len-le-length is_word_byte (b ∷ bs) in omega arith
chosen_within start b bs false true = string_within start (length bs) (quoted Between bs).text (quoted Between bs).ending (quoted_within bs Between)
chosen_within start b bs false false = omega arith

from_within : (start : ℕ) (bs : List ℕ) → (scan_from start bs).stop ≤ start + length bs
from_within start [] = omega arith
from_within start (b ∷ bs) = chosen_within start b bs (is_word_byte b) (b == 34)

pub scan_within : (bs : List ℕ) → (scan_of bs).stop ≤ length bs
unfolding scan_of
scan_within bs =
    let n = prefix_len is_blank_byte bs in
    let le = prefix_len-le-length is_blank_byte bs in
    let found = from_within n (drop n bs) in
    omega (arith, le, found, length-drop n bs)

-- ---- further, and further again

pub further_here : (s : At) → IsFurther s s
further_here s = record { passed = []; parts = refl; place = omega arith }

pub further_then : (a b c : At) → IsFurther a b → IsFurther b c → IsFurther a c
further_then a b c p q = record {
  passed = p.passed ++ q.passed;
  parts = p.parts ∙ ap (λ (l : List ℕ). p.passed ++ l) q.parts ∙ sym (append_assoc p.passed q.passed c.rest);
  place = omega (arith, p.place, q.place, length-append p.passed q.passed);
}

pub behind_further : (s : At) → IsFurther s (behind s)
behind_further s =
    let n = (next_at s).stop in
    let le = scan_within s.rest in
    let count : length (take n s.rest) ≡ n = omega (arith, le, length-take n s.rest) in
    record { passed = take n s.rest; parts = sym (take-append-drop n s.rest); place = omega (arith, count) }

-- ---- single tokens

pub taken_further : {A : Type 0} (o : Option A) (s : At) → EndsFurther s (taken_at o s)
taken_further None s = tt
taken_further (Some x) s = behind_further s

string_by_further : (token : Token) (s : At) → EndsFurther s (string_by token s)
string_by_further Text s = behind_further s
string_by_further Cut s = tt
string_by_further other s = tt

pub takes_end_further : TakesEndFurther
unfolding mark_at word_at word_that_at num_at num_between_at string_at end_at
takes_end_further = record {
  mark = λ mark s. taken_further _ s;
  word = λ s. taken_further _ s;
  tested_word = λ test s. taken_further _ s;
  num = λ s. taken_further _ s;
  num_between = λ low high s. taken_further _ s;
  string = λ s. string_by_further (next_at s).token s;
  end = λ s. taken_further _ s;
}

-- ---- one reading after the other

-- a reading that begins further on, and ends further on
pub from_further : {A : Type 0} (s t : At) (r : Read A) → IsFurther s t → EndsFurther t r → EndsFurther s r
from_further s t (Ok x) p q = further_then s t x.1 p q
from_further s t (Err e) p q = tt

pub bind_further : {A B : Type 0} (s : At) (r : Read A) (f : A × At → Read B) → EndsFurther s r → ((x : A × At) → EndsFurther x.1 (f x)) → EndsFurther s (r >>= f)
bind_further s (Ok x) f p q = from_further s x.1 (f x) p (q x)
bind_further s (Err e) f p q = tt

pub if_further : {A : Type 0} (s : At) (b : Bool) (x y : Read A) → EndsFurther s x → EndsFurther s y → EndsFurther s (if b then x else y)
if_further s true x y p q = p
if_further s false x y p q = q

-- ---- lists

module _ {A : Type 0} (close : ℕ) (item : List A → At → Read A) (each : (before : List A) (s : At) → EndsFurther s (item before s)) where
  pub more_further : (left : ℕ) (items : List A) (s : At) → EndsFurther s (more_at left close item items s)
  unfolding more_at
  more_further zero items s = tt
  more_further (suc left) items s =
      if_further s (marked close s) _ _ (behind_further s)
      (bind_further s (mark_at 44 s) _ (takes_end_further.mark 44 s) (λ comma. bind_further comma.1 (item items comma.1) _ (each items comma.1) (λ next. more_further left (items ++ next.0 ∷ []) next.1)))

  pub some_further : (s : At) → EndsFurther s (some_at close item s)
  unfolding some_at
  some_further s = bind_further s (item [] s) _ (each [] s) (λ first. more_further (length first.1.rest) (first.0 ∷ []) first.1)

  pub list_further : (s : At) → EndsFurther s (list_at close item s)
  unfolding list_at
  list_further s = if_further s (marked close s) _ _ (behind_further s) (some_further s)

-- ---- in the text

pub further_is_in_text : FurtherIsInText
further_is_in_text text place s p =
    let front = take place text ++ p.passed in
    let whole : front ++ s.rest ≡ text = append_assoc (take place text) p.passed s.rest ∙ ap (λ (l : List ℕ). take place text ++ l) (sym p.parts) ∙ take-append-drop place text in
    let count : length front ≡ s.place = length-append (take place text) p.passed ∙ ap (λ (n : ℕ). n + length p.passed) (length-take place text) ∙ sym p.place in
    let all : length text ≡ length front + length s.rest = ap length (sym whole) ∙ length-append front s.rest in
    let left : drop s.place text ≡ s.rest = ap (λ (n : ℕ). drop n text) (sym count) ∙ ap (drop (length front)) (sym whole) ∙ drop_front front s.rest in
    let here : min s.place (length text) ≡ s.place = min-eq_left {n = s.place} {m = length text} (omega (arith, count, all)) in
    rw (here, left) refl

pub further_goes_on : FurtherGoesOn
further_goes_on old new p =
    let left = ap length p.parts in
    record { forward = omega (arith, p.place); same_end = omega (arith, p.place, left, length-append p.passed new.rest) }
