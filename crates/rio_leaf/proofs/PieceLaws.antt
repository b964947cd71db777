-- A text up to its first colon, and what stands from there on.
use Rattle.std.proofs.Common.{◌≡◌, ◌⊎◌, inl, inr, ℕ, ◌+◌, List, [], ◌∷◌, ◌++◌, Bool, true, false, ◌==◌, not, if◌then◌else◌, refl, sym, ap, ◌∙◌, arith}
use Rattle.std.proofs.{lemmas.Bool.{and_parts, eqb-true, Decides.{nat_tests}}, lemmas.List.Splits.{slice_split-cons_no, slice_split-cons_yes}}
use Rattle.std.specs.List.{list_all, onto_first}
use Rattle.rio_num.specs.Word.{is_blank_byte, is_word_byte}
use Rattle.rio_leaf.specs.{Marks.{between_leaves}, Reading.{pieces, word_length}, ToldPlaces.{next_token}}
use Rattle.rio_leaf.proofs.TokenLaws.{Kind, blank, item, other, blanks, kind_of, passes_blank, takes_byte, takes_word, word_ends, word_goes, word_of}

abbrev pub no_colon : ℕ → Bool
no_colon b = not (b == between_leaves)

pub is_no_colon : (b : ℕ) → no_colon b ≡ true → (b == between_leaves) ≡ false
is_no_colon b h = grind (arith, nat_tests)

pub item_no_colon : (b : ℕ) → is_word_byte b ≡ true → no_colon b ≡ true
item_no_colon b h = grind (arith, nat_tests)

abbrev pub before_colon : List ℕ → List ℕ
before_colon [] = []
before_colon (b ∷ bs) = if b == between_leaves then [] else b ∷ before_colon bs

abbrev pub from_colon : List ℕ → List ℕ
from_colon [] = []
from_colon (b ∷ bs) = if b == between_leaves then b ∷ bs else from_colon bs

-- the pieces but for the first
abbrev pub more_pieces : List ℕ → List (List ℕ)
more_pieces [] = []
more_pieces (b ∷ bs) = if b == between_leaves then pieces bs else more_pieces bs

stops : (b : ℕ) (bs : List ℕ) → (b == between_leaves) ≡ true → before_colon (b ∷ bs) ≡ []
stops b bs t = rw t refl

goes : (b : ℕ) (bs : List ℕ) → (b == between_leaves) ≡ false → before_colon (b ∷ bs) ≡ b ∷ before_colon bs
goes b bs t = rw t refl

-- ---- the first piece and the others

cut_by : (b : ℕ) (bs : List ℕ) (t : Bool) → (b == between_leaves) ≡ t → pieces bs ≡ before_colon bs ∷ more_pieces bs → pieces (b ∷ bs) ≡ before_colon (b ∷ bs) ∷ more_pieces (b ∷ bs)
cut_by b bs true t ih = slice_split-cons_yes (λ c. c == between_leaves) b bs t ∙ rw t refl
cut_by b bs false t ih = slice_split-cons_no (λ c. c == between_leaves) b bs t ∙ ap (onto_first b) ih ∙ rw t refl

pub pieces_cut : (t : List ℕ) → pieces t ≡ before_colon t ∷ more_pieces t
pieces_cut [] = refl
pieces_cut (b ∷ bs) = cut_by b bs (b == between_leaves) refl (pieces_cut bs)

whole_by : (b : ℕ) (bs : List ℕ) (t : Bool) → (b == between_leaves) ≡ t → bs ≡ before_colon bs ++ from_colon bs → b ∷ bs ≡ before_colon (b ∷ bs) ++ from_colon (b ∷ bs)
whole_by b bs true t ih = rw t refl
whole_by b bs false t ih = rw t (ap (λ (xs : List ℕ). b ∷ xs) ih)

pub whole_cut : (t : List ℕ) → t ≡ before_colon t ++ from_colon t
whole_cut [] = refl
whole_cut (b ∷ bs) = whole_by b bs (b == between_leaves) refl (whole_cut bs)

-- no colon stands at all, or the other pieces are those of what stands behind the first
abbrev Rest : List ℕ → Type 0
Rest t = ((more_pieces t ≡ []) × (t ≡ before_colon t)) ⊎ ((u : List ℕ) × (t ≡ before_colon t ++ 58 ∷ u) × (more_pieces t ≡ pieces u))

rest_by : (b : ℕ) (bs : List ℕ) (t : Bool) → (b == between_leaves) ≡ t → Rest bs → Rest (b ∷ bs)
rest_by b bs true t ih = inr (bs, rw t (ap (λ (k : ℕ). k ∷ bs) (eqb-true b 58 t)), rw t refl)
rest_by b bs false t (inl none) = inl (rw t none.0, rw t (ap (λ (xs : List ℕ). b ∷ xs) none.1))
rest_by b bs false t (inr w) = inr (w.0, rw t (ap (λ (xs : List ℕ). b ∷ xs) w.1), rw t w.2)

pub rest_is : (t : List ℕ) → Rest t
rest_is [] = inl (refl, refl)
rest_is (b ∷ bs) = rest_by b bs (b == between_leaves) refl (rest_is bs)

-- ---- where colons stand

none_by : (b : ℕ) (bs : List ℕ) (t : Bool) → (b == between_leaves) ≡ t → list_all no_colon (before_colon bs) ≡ true → list_all no_colon (before_colon (b ∷ bs)) ≡ true
none_by b bs true t ih = ap (list_all no_colon) (stops b bs t)
none_by b bs false t ih = ap (list_all no_colon) (goes b bs t) ∙ rw (t, ih) refl

pub none_before : (t : List ℕ) → list_all no_colon (before_colon t) ≡ true
none_before [] = refl
none_before (b ∷ bs) = none_by b bs (b == between_leaves) refl (none_before bs)

pub before_behind : (f q : List ℕ) → list_all no_colon f ≡ true → before_colon (f ++ q) ≡ f ++ before_colon q
before_behind [] q h = refl
before_behind (b ∷ f) q h =
    let parts = and_parts (no_colon b) (list_all no_colon f) h in
    goes b (f ++ q) (is_no_colon b parts.0) ∙ ap (λ (xs : List ℕ). b ∷ xs) (before_behind f q parts.1)

from_by : (b : ℕ) (bs : List ℕ) (t : Bool) → (b == between_leaves) ≡ t → before_colon (from_colon bs) ≡ [] → before_colon (from_colon (b ∷ bs)) ≡ []
from_by b bs true t ih = let same : from_colon (b ∷ bs) ≡ b ∷ bs = rw t refl in ap before_colon same ∙ stops b bs t
from_by b bs false t ih = let same : from_colon (b ∷ bs) ≡ from_colon bs = rw t refl in ap before_colon same ∙ ih

pub none_at_colon : (t : List ℕ) → before_colon (from_colon t) ≡ []
none_at_colon [] = refl
none_at_colon (b ∷ bs) = from_by b bs (b == between_leaves) refl (none_at_colon bs)

-- ---- the next token, up to the first colon

item_goes : (b : ℕ) (bs : List ℕ) → is_word_byte b ≡ true → before_colon (b ∷ bs) ≡ b ∷ before_colon bs
item_goes b bs h = goes b bs (is_no_colon b (item_no_colon b h))

blank_goes : (b : ℕ) (bs : List ℕ) → is_blank_byte b ≡ true → before_colon (b ∷ bs) ≡ b ∷ before_colon bs
blank_goes b bs h = let other : (b == between_leaves) ≡ false = grind (arith, nat_tests) in goes b bs other

no_word_by : (b : ℕ) (bs : List ℕ) (t : Bool) → (b == between_leaves) ≡ t → is_word_byte b ≡ false → word_of (before_colon (b ∷ bs)) ≡ []
no_word_by b bs true t h = ap word_of (stops b bs t)
no_word_by b bs false t h = ap word_of (goes b bs t) ∙ word_ends b (before_colon bs) h

word_by : (b : ℕ) (bs : List ℕ) (t : Bool) → is_word_byte b ≡ t → word_of (before_colon bs) ≡ before_colon (word_of bs) → word_of (before_colon (b ∷ bs)) ≡ before_colon (word_of (b ∷ bs))
word_by b bs true t ih =
    ap word_of (item_goes b bs t) ∙ word_goes b (before_colon bs) t ∙ ap (λ (w : List ℕ). b ∷ w) ih ∙ sym (item_goes b (word_of bs) t) ∙ ap before_colon (sym (word_goes b bs t))
word_by b bs false t ih = no_word_by b bs (b == between_leaves) refl t ∙ ap before_colon (sym (word_ends b bs t))

word_before : (q : List ℕ) → word_of (before_colon q) ≡ before_colon (word_of q)
word_before [] = refl
word_before (b ∷ bs) = word_by b bs (is_word_byte b) refl (word_before bs)

other_by : (b : ℕ) (bs : List ℕ) (t : Bool) → (b == between_leaves) ≡ t → is_blank_byte b ≡ false → is_word_byte b ≡ false → next_token (before_colon (b ∷ bs)) ≡ before_colon (b ∷ [])
other_by b bs true t h k = ap next_token (stops b bs t) ∙ sym (stops b [] t)
other_by b bs false t h k = ap next_token (goes b bs t) ∙ takes_byte b (before_colon bs) h k ∙ sym (goes b [] t)

token_by : (b : ℕ) (bs : List ℕ) → Kind b → next_token (before_colon bs) ≡ before_colon (next_token bs) → next_token (before_colon (b ∷ bs)) ≡ before_colon (next_token (b ∷ bs))
token_by b bs (blank h k) ih =
    ap next_token (blank_goes b bs h) ∙ passes_blank b (before_colon bs) h ∙ ap (λ (xs : List ℕ). b ∷ xs) ih ∙ sym (blank_goes b (next_token bs) h) ∙ ap before_colon (sym (passes_blank b bs h))
token_by b bs (item h) ih =
    ap next_token (item_goes b bs h) ∙ takes_word b (before_colon bs) h ∙ ap (λ (w : List ℕ). b ∷ w) (word_before bs) ∙ sym (item_goes b (word_of bs) h) ∙ ap before_colon (sym (takes_word b bs h))
token_by b bs (other h k) ih = other_by b bs (b == between_leaves) refl h k ∙ ap before_colon (sym (takes_byte b bs h k))

pub token_before : (q : List ℕ) → next_token (before_colon q) ≡ before_colon (next_token q)
token_before [] = refl
token_before (b ∷ bs) = token_by b bs (kind_of b) (token_before bs)

no_blanks_by : (b : ℕ) (bs : List ℕ) (t : Bool) → (b == between_leaves) ≡ t → is_blank_byte b ≡ false → blanks (before_colon (b ∷ bs)) ≡ blanks (b ∷ bs)
no_blanks_by b bs true t h = ap blanks (stops b bs t) ∙ (let none : blanks (b ∷ bs) ≡ 0 = rw h refl in sym none)
no_blanks_by b bs false t h = ap blanks (goes b bs t) ∙ rw h refl

blanks_by : (b : ℕ) (bs : List ℕ) (t : Bool) → is_blank_byte b ≡ t → blanks (before_colon bs) ≡ blanks bs → blanks (before_colon (b ∷ bs)) ≡ blanks (b ∷ bs)
blanks_by b bs true t ih = ap blanks (blank_goes b bs t) ∙ rw t (ap (λ (n : ℕ). 1 + n) ih)
blanks_by b bs false t ih = no_blanks_by b bs (b == between_leaves) refl t

pub blanks_before : (q : List ℕ) → blanks (before_colon q) ≡ blanks q
blanks_before [] = refl
blanks_before (b ∷ bs) = blanks_by b bs (is_blank_byte b) refl (blanks_before bs)

stops_by : (b : ℕ) (bs : List ℕ) (t : Bool) → is_word_byte b ≡ t → word_length (before_colon (b ∷ bs)) ≡ 0 → word_length (b ∷ bs) ≡ 0
stops_by b bs true t h = absurd (let some : 1 + word_length (before_colon bs) ≡ 0 = (let one : word_length (b ∷ before_colon bs) ≡ 1 + word_length (before_colon bs) = rw t refl in sym one ∙ ap word_length (sym (item_goes b bs t)) ∙ h) in omega arith)
stops_by b bs false t h = rw t refl

-- where no word begins before the colon, none begins at all
pub stops_before : (q : List ℕ) → word_length (before_colon q) ≡ 0 → word_length q ≡ 0
stops_before [] h = refl
stops_before (b ∷ bs) h = stops_by b bs (is_word_byte b) refl h
