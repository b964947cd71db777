-- What is read as a leaf is written so.
use Rattle.std.proofs.Common.{inl, inr, ◌≡◌, ℕ, ◌+◌, ◌<◌, ◌≤◌, List, [], ◌∷◌, ◌++◌, length, take, drop, get_or, slice_index, true, false, ◌==◌, ◌&&◌, not, Option, Some, None, Ok, refl, sym, ap, subst, ◌∙◌, arith, append_assoc, length-append}
use Rattle.std.proofs.{lemmas.Bool.{and_parts, eqb-true}, lemmas.Fmt.{decimal-digits_value}, lemmas.List.{take-append-drop, Folds.{length-prefix_len}}}
use Rattle.std.proofs.lemmas.Option.{same_Some}
use Rattle.std.specs.{Fmt.{decimal}, List.{list_all}, Str.{all_ascii_digits, Parse.{digits_value}}}
use Rattle.rio_num.specs.{At.{At}, Reading.{◌>>=◌, skip, some_if}, Word.{is_word_byte, is_name_text}}
use Rattle.rio_num.proofs.{ReadLaws.{bind_ok, ok_is, chosen, if_is}, Cases.{nothing_left}}
use Rattle.rio_leaf.specs.{declared.fault.LeafFault.{LeafFault}, declared.leaf.Dim.{Dim, TheVariants.{One, Fixed, Counted}}, declared.leaf.Leaf.{Leaf}}
use Rattle.rio_leaf.specs.Leaves.{counts_for, is_dim, is_leaf_count, is_letter_of, is_taken}
use Rattle.rio_leaf.specs.Reading.{ReadLeaf, begins_with, bracketed_at, byte_at, dim_at, dim_of, found_at, is_dimension, leaf_at, leaf_name_of, letter_in, no_more_at, said_at, word_length}
use Rattle.rio_leaf.specs.Spelling.{is_leaf_behind, text_of_dim, text_of_leaf}
use Rattle.rio_leaf.proofs.{LeafAgain.{count_bounds, ends_dim, own}, TokenLaws.{all_of_word, word_stops}}

-- a word was passed, which says this
pub record Said {A : Type 0} (says : List ℕ → Option A) (x : A) (s s' : At) : Type 0 where
  pub word : List ℕ
  pub is : says word ≡ Some x
  pub parts : s.rest ≡ word ++ s'.rest
  pub place : s'.place ≡ s.place + length word
  pub all : list_all is_word_byte word ≡ true
  pub ends : word_length s'.rest ≡ 0

module _ {A : Type 0} (x : A) (s s' : At) where
  found_some : (o : Option A) (n : ℕ) → found_at o n s ≡ Ok (x, s') → (o ≡ Some x) × (skip n s ≡ s')
  found_some None n e = absurd cc
  found_some (Some y) n e =
      let same = ok_is {E = LeafFault} (y, skip n s) (x, s') e in
      (ap (λ (q : A × At). let o : Option A = Some q.0 in o) same, ap (λ (q : A × At). q.1) same)

  pub said_found : (says : List ℕ → Option A) → said_at says s ≡ Ok (x, s') → Said says x s s'
  unfolding said_at
  said_found says e =
      let n = word_length s.rest in
      let both = found_some (says (take n s.rest)) n e in
      record {
        word = take n s.rest;
        is = both.0;
        parts = sym (take-append-drop n s.rest) ∙ ap (λ (t : At). take n s.rest ++ t.rest) both.1;
        place = ap (λ (t : At). t.place) (sym both.1) ∙ ap (λ (k : ℕ). s.place + k) (sym (length-prefix_len is_word_byte s.rest));
        all = all_of_word s.rest;
        ends = ap (λ (t : At). word_length t.rest) (sym both.1) ∙ word_stops s.rest;
      }

-- what this byte begins
pub begins : (b : ℕ) (rest : List ℕ) → begins_with b rest ≡ true → rest ≡ b ∷ drop 1 rest
begins b [] e = absurd cc
begins b (c ∷ cs) e = ap (λ (k : ℕ). k ∷ cs) (eqb-true c b e)

pub byte_found : (b : ℕ) (s : At) (u : Unit {0}) (s' : At) → byte_at b s ≡ Ok (u, s') → (s.rest ≡ b ∷ s'.rest) × (s'.place ≡ s.place + 1)
unfolding byte_at
byte_found b s u s' e =
    let both = found_some u s s' (some_if (begins_with b s.rest) tt) 1 e in
    (begins b s.rest (if_is (begins_with b s.rest) tt u both.0).0 ∙ ap (λ (t : At). b ∷ t.rest) both.1, ap (λ (t : At). t.place) (sym both.1))

end_found : (s : At) (u : Unit {0}) (s' : At) → no_more_at s ≡ Ok (u, s') → s.rest ≡ []
unfolding no_more_at
end_found s u s' e =
    let both = found_some u s s' (some_if (length s.rest == 0) tt) 0 e in
    nothing_left s.rest (if_is (length s.rest == 0) tt u both.0).0

-- ---- dimensions

some_digits : (word : List ℕ) → 2 ≤ digits_value 10 word → 0 < length word
some_digits [] h = absurd (omega arith)
some_digits (b ∷ bs) h = omega arith

not_zero : (word : List ℕ) → not (slice_index word 0 == 48) ≡ true → get_or word 0 0 ≡ 48 → length word ≡ 1
not_zero word h e = absurd (let test : (slice_index word 0 == 48) ≡ true = rw e refl in let clash : false ≡ true = sym (ap not test) ∙ h in cc)

number_back : (word : List ℕ) → is_dimension word ≡ true → decimal (digits_value 10 word) ≡ word
number_back word h =
    let outer = and_parts (not (slice_index word 0 == 48) && all_ascii_digits word) (is_leaf_count (digits_value 10 word)) h in
    let inner = and_parts (not (slice_index word 0 == 48)) (all_ascii_digits word) outer.0 in
    let bounds = count_bounds (digits_value 10 word) outer.1 in
    decimal-digits_value own word inner.1 (some_digits word bounds.0) (not_zero word inner.0) (omega arith)

-- a dimension that may stand, and what is written for it
pub record IsDimOf (before : List Leaf) (name : List ℕ) (dim : Dim) (bytes : List ℕ) : Type 0 where
  pub fits : is_dim (counts_for before name) dim ≡ true
  pub text : bytes ≡ text_of_dim dim
  pub ends : (rest : List ℕ) → ends_dim dim rest ≡ true

abbrev gives : Dim × At → ReadLeaf Dim
gives x = Ok x

module _ (before : List Leaf) (name word : List ℕ) (dim : Dim) where
  is_fixed : is_dimension word ≡ true → Some (Fixed (digits_value 10 word)) ≡ Some dim → IsDimOf before name dim (91 ∷ (word ++ 93 ∷ []))
  is_fixed test e =
      let outer = and_parts (not (slice_index word 0 == 48) && all_ascii_digits word) (is_leaf_count (digits_value 10 word)) test in
      let made : IsDimOf before name (Fixed (digits_value 10 word)) (91 ∷ (word ++ 93 ∷ [])) = record { fits = outer.1; text = ap (λ (w : List ℕ). 91 ∷ (w ++ 93 ∷ [])) (sym (number_back word test)); ends = λ rest. refl } in
      subst (λ (d : Dim). IsDimOf before name d (91 ∷ (word ++ 93 ∷ []))) (same_Some (Fixed (digits_value 10 word)) dim e) made

  is_counted : some_if (is_name_text word && counts_for before name word) (Counted word 1) ≡ Some dim → IsDimOf before name dim (91 ∷ (word ++ 93 ∷ []))
  is_counted e =
      let both = if_is (is_name_text word && counts_for before name word) (Counted word 1) dim e in
      let made : IsDimOf before name (Counted word 1) (91 ∷ (word ++ 93 ∷ [])) = record { fits = rw both.0 refl; text = refl; ends = λ rest. refl } in
      subst (λ (d : Dim). IsDimOf before name d (91 ∷ (word ++ 93 ∷ []))) both.1 made

  pub dim_word : dim_of before name word ≡ Some dim → IsDimOf before name dim (91 ∷ (word ++ 93 ∷ []))
  unfolding dim_of
  dim_word e = elim (chosen (is_dimension word) (Some (Fixed (digits_value 10 word))) (some_if (is_name_text word && counts_for before name word) (Counted word 1)) (Some dim) e) [
    | inl w ↦ is_fixed w.0 w.1
    | inr w ↦ is_counted w.1
  ]

pub record DimFound (before : List Leaf) (name : List ℕ) (dim : Dim) (s s' : At) : Type 0 where
  pub fits : is_dim (counts_for before name) dim ≡ true
  pub parts : s.rest ≡ text_of_dim dim ++ s'.rest
  pub place : s'.place ≡ s.place + length (text_of_dim dim)
  pub ends : ends_dim dim s'.rest ≡ true

module _ (before : List Leaf) (name : List ℕ) (s : At) (dim : Dim) (s' : At) where
  bracket_found : s.rest ≡ 91 ∷ drop 1 s.rest → bracketed_at before name (skip 1 s) ≡ Ok (dim, s') → DimFound before name dim s s'
  bracket_found opened e =
      let one = bind_ok (said_at (dim_of before name) (skip 1 s)) (λ d. ◌>>=◌ {B = Dim × At} (byte_at 93 d.1) (λ closed. Ok (d.0, closed.1))) (dim, s') e in
      let two = bind_ok (byte_at 93 one.0.1) (λ closed. Ok (one.0.0, closed.1)) (dim, s') one.2 in
      let said = said_found one.0.0 (skip 1 s) one.0.1 (dim_of before name) one.1 in
      let close = byte_found 93 one.0.1 two.0.0 two.0.1 two.1 in
      let closed = close.0 in
      let same = ok_is {E = LeafFault} (one.0.0, two.0.1) (dim, s') two.2 in
      let is = dim_word before name said.word one.0.0 said.is in
      let rest : s.rest ≡ text_of_dim one.0.0 ++ two.0.1.rest =
      opened ∙ ap (λ (bs : List ℕ). 91 ∷ bs) (said.parts ∙ ap (λ (bs : List ℕ). said.word ++ bs) closed ∙ sym (append_assoc said.word (93 ∷ []) two.0.1.rest)) ∙ ap (λ (bs : List ℕ). bs ++ two.0.1.rest) is.text in
      let long : two.0.1.place ≡ s.place + length (91 ∷ (said.word ++ 93 ∷ [])) = omega (arith, close.1, said.place, length-append said.word (93 ∷ [])) in
      let place : two.0.1.place ≡ s.place + length (text_of_dim one.0.0) = long ∙ ap (λ (bs : List ℕ). s.place + length bs) is.text in
      let made : DimFound before name one.0.0 s two.0.1 = record { fits = is.fits; parts = rest; place = place; ends = is.ends two.0.1.rest } in
      subst (λ (q : Dim × At). DimFound before name q.0 s q.1) same made

  none_found : begins_with 91 s.rest ≡ false → gives (One, s) ≡ gives (dim, s') → DimFound before name dim s s'
  none_found ends e =
      let same = ok_is {E = LeafFault} (One, s) (dim, s') e in
      let made : DimFound before name One s s = record { fits = refl; parts = refl; place = omega arith; ends = rw ends refl } in
      subst (λ (q : Dim × At). DimFound before name q.0 s q.1) same made

  pub dim_found : dim_at before name s ≡ Ok (dim, s') → DimFound before name dim s s'
  unfolding dim_at
  dim_found e = let none : ReadLeaf Dim = Ok (One, s) in elim (chosen (begins_with 91 s.rest) (bracketed_at before name (skip 1 s)) none (Ok (dim, s')) e) [
    | inl w ↦ bracket_found (begins 91 s.rest w.0) w.1
    | inr w ↦ none_found w.0 w.1
  ]

-- ---- a leaf

pub letter_one : (dim : Dim) (word : List ℕ) (letter : ℕ) → letter_in dim word ≡ Some letter → (word ≡ letter ∷ []) × (is_letter_of dim letter ≡ true)
letter_one dim [] letter e = absurd cc
letter_one dim (b ∷ []) letter e =
    let both = if_is (is_letter_of dim b) b letter e in
    (ap (λ (k : ℕ). k ∷ []) both.1, subst (λ (k : ℕ). is_letter_of dim k ≡ true) both.1 both.0)
letter_one dim (b ∷ c ∷ bs) letter e = absurd cc

-- it may stand there, and its text is what was read
pub record LeafFound (before : List Leaf) (leaf : Leaf) (text : List ℕ) : Type 0 where
  pub fits : is_leaf_behind before leaf ≡ true
  pub parts : text ≡ text_of_leaf leaf

abbrev pub leaf_is : List ℕ → Dim → ℕ → Leaf
leaf_is name dim letter = record { name = name; letter = letter; dim = dim }

-- how the reading of a leaf goes on
abbrev pub to_leaf : List ℕ → Dim → ℕ → At → ReadLeaf Leaf
to_leaf name dim letter m = no_more_at m >>= λ ended. Ok (leaf_is name dim letter, ended.1)

abbrev pub to_letter : List ℕ → Dim → At → ReadLeaf Leaf
to_letter name dim m = said_at (letter_in dim) m >>= λ letter. to_leaf name dim letter.0 letter.1

abbrev pub to_slash : List ℕ → Dim → At → ReadLeaf Leaf
to_slash name dim m = byte_at 47 m >>= λ passed. to_letter name dim passed.1

abbrev pub to_dim : List Leaf → List ℕ → At → ReadLeaf Leaf
to_dim before name m = dim_at before name m >>= λ dim. to_slash name dim.0 dim.1

pub leaf_found : (before : List Leaf) (leaf : Leaf) (s s' : At) → leaf_at before s ≡ Ok (leaf, s') → LeafFound before leaf s.rest
unfolding leaf_at
leaf_found before leaf s s' e =
    let one = bind_ok (said_at (leaf_name_of before) s) (λ y. to_dim before y.0 y.1) (leaf, s') e in
    let name = one.0.0 in
    let two = bind_ok (dim_at before name one.0.1) (λ y. to_slash name y.0 y.1) (leaf, s') one.2 in
    let dim = two.0.0 in
    let three = bind_ok (byte_at 47 two.0.1) (λ y. to_letter name dim y.1) (leaf, s') two.2 in
    let four = bind_ok (said_at (letter_in dim) three.0.1) (λ y. to_leaf name dim y.0 y.1) (leaf, s') three.2 in
    let letter = four.0.0 in
    let five = bind_ok (no_more_at four.0.1) (λ y. Ok (leaf_is name dim letter, y.1)) (leaf, s') four.2 in
    let named = said_found name s one.0.1 (leaf_name_of before) one.1 in
    let is_named = if_is (is_name_text named.word && not (is_taken before named.word)) named.word name named.is in
    let new : (is_name_text name && not (is_taken before name)) ≡ true = subst (λ (w : List ℕ). (is_name_text w && not (is_taken before w)) ≡ true) is_named.1 is_named.0 in
    let sized = dim_found before name one.0.1 dim two.0.1 two.1 in
    let passed = (byte_found 47 two.0.1 three.0.0 three.0.1 three.1).0 in
    let lettered = said_found letter three.0.1 four.0.1 (letter_in dim) four.1 in
    let is_letter = letter_one dim lettered.word letter lettered.is in
    let end = end_found four.0.1 five.0.0 five.0.1 five.1 in
    let same = ok_is {E = LeafFault} (leaf_is name dim letter, five.0.1) (leaf, s') five.2 in
    let last : three.0.1.rest ≡ letter ∷ [] = lettered.parts ∙ rw (is_letter.0, end) refl in
    let rest : s.rest ≡ name ++ (text_of_dim dim ++ 47 ∷ letter ∷ []) =
    named.parts ∙ ap (λ (w : List ℕ). w ++ one.0.1.rest) is_named.1 ∙ ap (λ (bs : List ℕ). name ++ bs) (sized.parts ∙ ap (λ (bs : List ℕ). text_of_dim dim ++ bs) (passed ∙ ap (λ (bs : List ℕ). 47 ∷ bs) last)) in
    let made : LeafFound before (leaf_is name dim letter) s.rest = record { fits = rw (new, sized.fits, is_letter.1) refl; parts = rest } in
    subst (λ (q : Leaf × At). LeafFound before q.0 s.rest) same made
