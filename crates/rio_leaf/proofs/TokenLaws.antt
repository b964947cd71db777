-- What stands next in a text hangs on its next token alone.
use Rattle.std.proofs.Common.{◌≡◌, ℕ, suc, ◌+◌, List, [], ◌∷◌, ◌++◌, length, take, drop, Bool, true, false, ◌==◌, refl, sym, ap, ◌∙◌, arith}
use Rattle.std.proofs.{lemmas.Bool.Decides.{nat_tests}, lemmas.List.Folds.{length-prefix_len}}
use Rattle.std.specs.List.{list_all, prefix_len}
use Rattle.rio_num.specs.Word.{is_blank_byte, is_word_byte}
use Rattle.rio_num.proofs.Words.{item_no_blank}
use Rattle.rio_leaf.specs.{Reading.{begins_with, word_length}, ToldPlaces.{next_token}}

one_on : (n b : ℕ) (bs : List ℕ) → take (1 + n) (b ∷ bs) ≡ b ∷ take n bs
one_on n b bs = let same : 1 + n ≡ suc n = omega arith in ap (λ (k : ℕ). take k (b ∷ bs)) same

one_off : (n b : ℕ) (bs : List ℕ) → drop (1 + n) (b ∷ bs) ≡ drop n bs
one_off n b bs = let same : 1 + n ≡ suc n = omega arith in ap (λ (k : ℕ). drop k (b ∷ bs)) same

-- ---- words

-- the bytes of the next word
abbrev pub word_of : List ℕ → List ℕ
word_of bytes = take (word_length bytes) bytes

pub word_goes : (b : ℕ) (bs : List ℕ) → is_word_byte b ≡ true → word_of (b ∷ bs) ≡ b ∷ word_of bs
word_goes b bs t = rw t (one_on (word_length bs) b bs)

pub word_ends : (b : ℕ) (bs : List ℕ) → is_word_byte b ≡ false → word_of (b ∷ bs) ≡ []
word_ends b bs t = rw t refl

all_by : (b : ℕ) (bs : List ℕ) (t : Bool) → is_word_byte b ≡ t → list_all is_word_byte (word_of bs) ≡ true → list_all is_word_byte (word_of (b ∷ bs)) ≡ true
all_by b bs true t ih = ap (list_all is_word_byte) (word_goes b bs t) ∙ rw (t, ih) refl
all_by b bs false t ih = ap (list_all is_word_byte) (word_ends b bs t)

pub all_of_word : (bytes : List ℕ) → list_all is_word_byte (word_of bytes) ≡ true
all_of_word [] = refl
all_of_word (b ∷ bs) = all_by b bs (is_word_byte b) refl (all_of_word bs)

stops_by : (b : ℕ) (bs : List ℕ) (t : Bool) → is_word_byte b ≡ t → word_length (drop (word_length bs) bs) ≡ 0 → word_length (drop (word_length (b ∷ bs)) (b ∷ bs)) ≡ 0
stops_by b bs true t ih = rw t (ap word_length (one_off (word_length bs) b bs) ∙ ih)
stops_by b bs false t ih = let none : word_length (b ∷ bs) ≡ 0 = rw t refl in ap (λ (n : ℕ). word_length (drop n (b ∷ bs))) none ∙ none

-- behind a word comes no byte of one
pub word_stops : (bytes : List ℕ) → word_length (drop (word_length bytes) bytes) ≡ 0
word_stops [] = refl
word_stops (b ∷ bs) = stops_by b bs (is_word_byte b) refl (word_stops bs)

again_by : (b : ℕ) (bs : List ℕ) (t : Bool) → is_word_byte b ≡ t → word_of (word_of bs) ≡ word_of bs → word_of (word_of (b ∷ bs)) ≡ word_of (b ∷ bs)
again_by b bs true t ih = ap word_of (word_goes b bs t) ∙ word_goes b (word_of bs) t ∙ ap (λ (w : List ℕ). b ∷ w) ih ∙ sym (word_goes b bs t)
again_by b bs false t ih = ap word_of (word_ends b bs t) ∙ sym (word_ends b bs t)

word_again : (bytes : List ℕ) → word_of (word_of bytes) ≡ word_of bytes
word_again [] = refl
word_again (b ∷ bs) = again_by b bs (is_word_byte b) refl (word_again bs)

-- ---- the next token

pub passes_blank : (b : ℕ) (bs : List ℕ) → is_blank_byte b ≡ true → next_token (b ∷ bs) ≡ b ∷ next_token bs
passes_blank b bs h = rw h refl

pub takes_word : (b : ℕ) (bs : List ℕ) → is_word_byte b ≡ true → next_token (b ∷ bs) ≡ b ∷ word_of bs
takes_word b bs h = rw (item_no_blank b h, h) refl

pub takes_byte : (b : ℕ) (bs : List ℕ) → is_blank_byte b ≡ false → is_word_byte b ≡ false → next_token (b ∷ bs) ≡ b ∷ []
takes_byte b bs h k = rw (h, k) refl

-- which of the three the first byte is
pub data Kind (b : ℕ) : Type 0 where
  blank : is_blank_byte b ≡ true → is_word_byte b ≡ false → Kind b
  item : is_word_byte b ≡ true → Kind b
  other : is_blank_byte b ≡ false → is_word_byte b ≡ false → Kind b

kind_by : (b : ℕ) (t u : Bool) → is_word_byte b ≡ t → is_blank_byte b ≡ u → Kind b
kind_by b true u t e = item t
kind_by b false true t e = blank e t
kind_by b false false t e = other e t

pub kind_of : (b : ℕ) → Kind b
kind_of b = kind_by b (is_word_byte b) (is_blank_byte b) refl refl

-- a token begins with the first byte
cons_by : (b : ℕ) (bs : List ℕ) → Kind b → (xs : List ℕ) × (next_token (b ∷ bs) ≡ b ∷ xs)
cons_by b bs (blank h k) = (next_token bs, passes_blank b bs h)
cons_by b bs (item h) = (word_of bs, takes_word b bs h)
cons_by b bs (other h k) = ([], takes_byte b bs h k)

first_byte : (b : ℕ) (bs : List ℕ) → (xs : List ℕ) × (next_token (b ∷ bs) ≡ b ∷ xs)
first_byte b bs = cons_by b bs (kind_of b)

token_begins : (b : ℕ) (q : List ℕ) → begins_with b (next_token q) ≡ begins_with b q
token_begins b [] = refl
token_begins b (c ∷ cs) = ap (begins_with b) (first_byte c cs).1

token_empty : (q : List ℕ) → (length (next_token q) == 0) ≡ (length q == 0)
token_empty [] = refl
token_empty (c ∷ cs) = ap (λ (xs : List ℕ). length xs == 0) (first_byte c cs).1 ∙ grind (arith, nat_tests)

token_word_by : (b : ℕ) (bs : List ℕ) → Kind b → word_of (next_token (b ∷ bs)) ≡ word_of (b ∷ bs)
token_word_by b bs (item h) = ap word_of (takes_word b bs h) ∙ word_goes b (word_of bs) h ∙ ap (λ (w : List ℕ). b ∷ w) (word_again bs) ∙ sym (word_goes b bs h)
token_word_by b bs (blank h k) = ap word_of (passes_blank b bs h) ∙ word_ends b (next_token bs) k ∙ sym (word_ends b bs k)
token_word_by b bs (other h k) = ap word_of (takes_byte b bs h k) ∙ word_ends b [] k ∙ sym (word_ends b bs k)

token_word : (q : List ℕ) → word_of (next_token q) ≡ word_of q
token_word [] = refl
token_word (b ∷ bs) = token_word_by b bs (kind_of b)

abbrev pub blanks : List ℕ → ℕ
blanks q = prefix_len is_blank_byte q

blanks_by : (b : ℕ) (bs : List ℕ) → Kind b → blanks (next_token bs) ≡ blanks bs → blanks (next_token (b ∷ bs)) ≡ blanks (b ∷ bs)
blanks_by b bs (blank h k) ih = ap blanks (passes_blank b bs h) ∙ rw h (ap (λ (n : ℕ). 1 + n) ih)
blanks_by b bs (item h) ih = ap blanks (takes_word b bs h) ∙ rw (item_no_blank b h) refl
blanks_by b bs (other h k) ih = ap blanks (takes_byte b bs h k) ∙ rw h refl

token_blanks : (q : List ℕ) → blanks (next_token q) ≡ blanks q
token_blanks [] = refl
token_blanks (b ∷ bs) = blanks_by b bs (kind_of b) (token_blanks bs)

-- ---- texts with the same next token

module _ (q r : List ℕ) (same : next_token q ≡ next_token r) where
  pub same_begins : (b : ℕ) → begins_with b q ≡ begins_with b r
  same_begins b = sym (token_begins b q) ∙ ap (begins_with b) same ∙ token_begins b r

  pub same_empty : (length q == 0) ≡ (length r == 0)
  same_empty = sym (token_empty q) ∙ ap (λ (xs : List ℕ). length xs == 0) same ∙ token_empty r

  pub same_word : word_of q ≡ word_of r
  same_word = sym (token_word q) ∙ ap word_of same ∙ token_word r

  pub same_length : word_length q ≡ word_length r
  same_length = sym (length-prefix_len is_word_byte q) ∙ ap length same_word ∙ length-prefix_len is_word_byte r

  pub same_blanks : blanks q ≡ blanks r
  same_blanks = sym (token_blanks q) ∙ ap blanks same ∙ token_blanks r

-- ---- the same behind other bytes

word_behind_by : (b : ℕ) (f q r : List ℕ) (t : Bool) → is_word_byte b ≡ t → word_of (f ++ q) ≡ word_of (f ++ r) → word_of (b ∷ (f ++ q)) ≡ word_of (b ∷ (f ++ r))
word_behind_by b f q r true t ih = word_goes b (f ++ q) t ∙ ap (λ (w : List ℕ). b ∷ w) ih ∙ sym (word_goes b (f ++ r) t)
word_behind_by b f q r false t ih = word_ends b (f ++ q) t ∙ sym (word_ends b (f ++ r) t)

word_behind : (f q r : List ℕ) → word_of q ≡ word_of r → word_of (f ++ q) ≡ word_of (f ++ r)
word_behind [] q r same = same
word_behind (b ∷ f) q r same = word_behind_by b f q r (is_word_byte b) refl (word_behind f q r same)

behind_by : (b : ℕ) (f q r : List ℕ) → Kind b → next_token (f ++ q) ≡ next_token (f ++ r) → word_of (f ++ q) ≡ word_of (f ++ r) → next_token (b ∷ (f ++ q)) ≡ next_token (b ∷ (f ++ r))
behind_by b f q r (blank h k) ih w = passes_blank b (f ++ q) h ∙ ap (λ (xs : List ℕ). b ∷ xs) ih ∙ sym (passes_blank b (f ++ r) h)
behind_by b f q r (item h) ih w = takes_word b (f ++ q) h ∙ ap (λ (xs : List ℕ). b ∷ xs) w ∙ sym (takes_word b (f ++ r) h)
behind_by b f q r (other h k) ih w = takes_byte b (f ++ q) h k ∙ sym (takes_byte b (f ++ r) h k)

pub same_behind : (f q r : List ℕ) → next_token q ≡ next_token r → next_token (f ++ q) ≡ next_token (f ++ r)
same_behind [] q r same = same
same_behind (b ∷ f) q r same = behind_by b f q r (kind_of b) (same_behind f q r same) (word_behind f q r (same_word q r same))
