-- The first token that can't stand in the text of a leaf.
use Rattle.std.proofs.Common.{◌≡◌, inl, inr, ℕ, ◌+◌, ◌^◌, ◌<◌, List, [], ◌∷◌, ◌++◌, length, true, false, ◌&&◌, not, Option, Some, Ok, Err, refl, sym, ap, subst, ◌∙◌, append_assoc}
use Rattle.std.proofs.{lemmas.Bool.{and_parts, eq-eqb, not-true}, lemmas.List.{append-nil}}
use Rattle.std.specs.Fmt.{decimal}
use Rattle.rio_num.specs.{At.{At}, Reading.{◌>>=◌, skip}, Word.{is_word_byte, is_name_text}}
use Rattle.rio_num.proofs.ReadLaws.{chosen, if_is}
use Rattle.rio_leaf.specs.{declared.fault.LeafFault.{LeafFault}, declared.leaf.Dim.{Dim, TheVariants.{One, Fixed, Counted}}, declared.leaf.Leaf.{Leaf}}
use Rattle.rio_leaf.specs.Leaves.{counts_for, is_dim, is_letter_of, is_taken}
use Rattle.rio_leaf.specs.Reading.{ReadLeaf, begins_with, bracketed_at, byte_at, dim_at, dim_of, from_place, leaf_at, leaf_name_of, letter_in, no_more_at, said_at}
use Rattle.rio_leaf.specs.{Spelling.{is_leaf_behind, text_of_dim, text_of_leaf}, ToldPlaces.{next_token}}
use Rattle.rio_leaf.proofs.{FreshNames.{name_left}, LeafAgain.{dim_again, ends_dim, said_there}}
use Rattle.rio_leaf.proofs.LeafFound.{begins, byte_found, dim_found, dim_word, leaf_is, letter_one, said_found, to_dim, to_leaf, to_letter, to_slash}
use Rattle.rio_leaf.proofs.TokenLaws.{same_begins, same_length}
use Rattle.rio_leaf.proofs.ToldLaws.{Known, NoWordRuns, Told, bind_told, byte_told, end_told, ends_behind, ends_in_word, handed_told, said_told, told_behind}

-- ---- what was read

said_known : {A : Type 0} (says : List ℕ → Option A) (s : At) (x : A) (m : At) → said_at says s ≡ Ok (x, m) → Known (λ y w. says w ≡ Some y) (said_at says) s x m
said_known says s x m h =
    let f = said_found x s m says h in
    record {
      passed = f.word;
      is = f.is;
      parts = f.parts;
      place = f.place;
      apart = inr f.ends;
      again = λ p q same. said_there says p f.word q x f.all (same_length q m.rest same ∙ f.ends) f.is;
    }

byte_there : (b p : ℕ) (q : List ℕ) → byte_at b (from_place p (b ∷ q)) ≡ Ok (tt, from_place (p + 1) q)
unfolding byte_at
byte_there b p q = rw (eq-eqb b b refl) refl

byte_known : (b : ℕ) → is_word_byte b ≡ false → (s : At) (u : Unit {0}) (m : At) → byte_at b s ≡ Ok (u, m) → Known (λ _ bytes. bytes ≡ b ∷ []) (byte_at b) s u m
byte_known b mark s u m h =
    let f = byte_found b s u m h in
    record {
      passed = b ∷ [];
      is = refl;
      parts = f.0;
      place = f.1;
      apart = inl mark;
      again = λ p q same. byte_there b p q;
    }

dim_ends : (dim : Dim) → ends_in_word (text_of_dim dim) ≡ false
dim_ends One = refl
dim_ends (Fixed n) = ends_behind (91 ∷ decimal n) 93 []
dim_ends (Counted counter times) = ends_behind (91 ∷ counter) 93 []

ends_same : (dim : Dim) (q r : List ℕ) → next_token q ≡ next_token r → ends_dim dim r ≡ true → ends_dim dim q ≡ true
ends_same One q r same h = ap not (same_begins q r same 91) ∙ h
ends_same (Fixed n) q r same h = refl
ends_same (Counted counter times) q r same h = refl

-- a dimension that may stand behind the name, and its text
abbrev SaysDim : List Leaf → List ℕ → Dim → List ℕ → Type 0
SaysDim before name dim bytes = (is_dim (counts_for before name) dim ≡ true) × (bytes ≡ text_of_dim dim)

dim_known : (before : List Leaf) (name : List ℕ) (s : At) (dim : Dim) (m : At) → dim_at before name s ≡ Ok (dim, m) → Known (SaysDim before name) (dim_at before name) s dim m
dim_known before name s dim m h =
    let f = dim_found before name s dim m h in
    record {
      passed = text_of_dim dim;
      is = (f.fits, refl);
      parts = f.parts;
      place = f.place;
      apart = inl (dim_ends dim);
      again = λ p q same. dim_again before name p dim q f.fits (ends_same dim q m.rest same f.ends);
    }

-- ---- what can be completed

-- other bytes behind these make them the text of a leaf that may stand behind those before
abbrev pub LeafBegins : List Leaf → List ℕ → Type 0
LeafBegins before front =
    length before < 2 ^ 32 → (more : List ℕ) × (leaf : Leaf) × NoWordRuns front more × (is_leaf_behind before leaf ≡ true) × (front ++ more ≡ text_of_leaf leaf)

letter_i : (dim : Dim) → is_letter_of dim 73 ≡ true
letter_i One = refl
letter_i (Fixed n) = refl
letter_i (Counted counter times) = refl

may_stand : (before : List Leaf) (name : List ℕ) (dim : Dim) (letter : ℕ) → is_name_text name ≡ true → is_taken before name ≡ false → is_dim (counts_for before name) dim ≡ true → is_letter_of dim letter ≡ true
    → is_leaf_behind before (leaf_is name dim letter) ≡ true
may_stand before name dim letter named free fits lettered = rw (named, free, fits, lettered) refl

start_begins : (before : List Leaf) → LeafBegins before []
start_begins before lt =
    let n = name_left before lt in
    let leaf = leaf_is n.name One 73 in
    (text_of_leaf leaf, leaf, inl refl, may_stand before n.name One 73 n.named n.free refl refl, refl)

module _ (before : List Leaf) (name : List ℕ) (named : is_name_text name ≡ true) (free : is_taken before name ≡ false) where
  bracket_begins : LeafBegins before (name ++ 91 ∷ [])
  bracket_begins lt =
      let more = decimal 2 ++ 93 ∷ 47 ∷ 73 ∷ [] in
      let text : (name ++ 91 ∷ []) ++ more ≡ text_of_leaf (leaf_is name (Fixed 2) 73) =
      append_assoc name (91 ∷ []) more ∙ ap (λ (bs : List ℕ). name ++ 91 ∷ bs) (sym (append_assoc (decimal 2) (93 ∷ []) (47 ∷ 73 ∷ []))) in
      (more, leaf_is name (Fixed 2) 73, inl (ends_behind name 91 []), may_stand before name (Fixed 2) 73 named free refl refl, text)

  closing_begins : (word : List ℕ) (dim : Dim) → dim_of before name word ≡ Some dim → LeafBegins before (name ++ 91 ∷ (word ++ []))
  closing_begins word dim says lt =
      let d = dim_word before name word dim says in
      let more = 93 ∷ 47 ∷ 73 ∷ [] in
      let text : (name ++ 91 ∷ (word ++ [])) ++ more ≡ text_of_leaf (leaf_is name dim 73) =
      append_assoc name (91 ∷ (word ++ [])) more
      ∙ ap (λ (bs : List ℕ). name ++ 91 ∷ (bs ++ more)) (append-nil word)
      ∙ ap (λ (bs : List ℕ). name ++ 91 ∷ bs) (sym (append_assoc word (93 ∷ []) (47 ∷ 73 ∷ [])))
      ∙ ap (λ (bs : List ℕ). name ++ (bs ++ 47 ∷ 73 ∷ [])) d.text in
      (more, leaf_is name dim 73, inr refl, may_stand before name dim 73 named free d.fits (letter_i dim), text)

  module _ (dim : Dim) (fits : is_dim (counts_for before name) dim ≡ true) where
    slash_begins : LeafBegins before (name ++ (text_of_dim dim ++ []))
    slash_begins lt =
        let more = 47 ∷ 73 ∷ [] in
        let text : (name ++ (text_of_dim dim ++ [])) ++ more ≡ text_of_leaf (leaf_is name dim 73) =
        append_assoc name (text_of_dim dim ++ []) more ∙ ap (λ (bs : List ℕ). name ++ (bs ++ more)) (append-nil (text_of_dim dim)) in
        (more, leaf_is name dim 73, inr refl, may_stand before name dim 73 named free fits (letter_i dim), text)

    letter_begins : LeafBegins before (name ++ (text_of_dim dim ++ 47 ∷ []))
    letter_begins lt =
        let more = 73 ∷ [] in
        let text : (name ++ (text_of_dim dim ++ 47 ∷ [])) ++ more ≡ text_of_leaf (leaf_is name dim 73) =
        append_assoc name (text_of_dim dim ++ 47 ∷ []) more ∙ ap (λ (bs : List ℕ). name ++ bs) (append_assoc (text_of_dim dim) (47 ∷ []) more) in
        let apart : ends_in_word (name ++ (text_of_dim dim ++ 47 ∷ [])) ≡ false =
        ap ends_in_word (sym (append_assoc name (text_of_dim dim) (47 ∷ []))) ∙ ends_behind (name ++ text_of_dim dim) 47 [] in
        (more, leaf_is name dim 73, inl apart, may_stand before name dim 73 named free fits (letter_i dim), text)

    end_begins : (letter : ℕ) → is_letter_of dim letter ≡ true → LeafBegins before (name ++ (text_of_dim dim ++ 47 ∷ letter ∷ []))
    end_begins letter lettered lt =
        ([], leaf_is name dim letter, inr refl, may_stand before name dim letter named free fits lettered, append-nil (text_of_leaf (leaf_is name dim letter)))

-- ---- the first token that can't stand

module _ (before : List Leaf) (name : List ℕ) (named : is_name_text name ≡ true) (free : is_taken before name ≡ false) where
  bracket_told : (s : At) (e : LeafFault) → bracketed_at before name s ≡ Err e → Told (bracketed_at before name) (λ ms. LeafBegins before (name ++ 91 ∷ ms)) s e
  bracket_told s e h =
      bind_told Dim (λ d w. dim_of before name w ≡ Some d) (said_at (dim_of before name)) (λ d m. byte_at 93 m >>= λ closed. Ok (d, closed.1)) (λ ms. LeafBegins before (name ++ 91 ∷ ms)) s e
      (said_told (λ ms. LeafBegins before (name ++ 91 ∷ ms)) s e (bracket_begins before name named free) (dim_of before name))
      (said_known (dim_of before name) s)
      (λ d m w is bad. handed_told (byte_at 93) (λ closed. (d, closed.1)) (λ ms. LeafBegins before (name ++ 91 ∷ (w ++ ms))) m e (byte_told (λ ms. LeafBegins before (name ++ 91 ∷ (w ++ ms))) m e (closing_begins before name named free w d is) 93) bad)
      h

  dim_told : (s : At) (e : LeafFault) → dim_at before name s ≡ Err e → Told (dim_at before name) (λ ms. LeafBegins before (name ++ ms)) s e
  unfolding dim_at
  dim_told s e h = let none : ReadLeaf Dim = Ok (One, s) in elim (chosen (begins_with 91 s.rest) (bracketed_at before name (skip 1 s)) none (Err e) h) [
    | inl w ↦
        told_behind (dim_at before name) (bracketed_at before name) (λ ms. LeafBegins before (name ++ ms)) s e (91 ∷ []) (skip 1 s) (begins 91 s.rest w.0) refl (inl refl)
        (λ p q g next bad. bad) (bracket_told (skip 1 s) e w.1)
    | inr w ↦ absurd (let clash = w.1 in cc)
  ]

  module _ (dim : Dim) (fits : is_dim (counts_for before name) dim ≡ true) where
    abbrev Completes : List ℕ → Type 0
    Completes ms = LeafBegins before (name ++ (text_of_dim dim ++ ms))

    end_told_behind : (letter : ℕ) (word : List ℕ) (s : At) (e : LeafFault) → letter_in dim word ≡ Some letter → to_leaf name dim letter s ≡ Err e → Told (to_leaf name dim letter) (λ ms. Completes (47 ∷ (word ++ ms))) s e
    end_told_behind letter word s e is h =
        let one = letter_one dim word letter is in
        let empty : Completes (47 ∷ (word ++ [])) = subst (λ (w : List ℕ). Completes (47 ∷ (w ++ []))) (sym one.0) (end_begins before name named free dim fits letter one.1) in
        handed_told no_more_at (λ ended. (leaf_is name dim letter, ended.1)) (λ ms. Completes (47 ∷ (word ++ ms))) s e (end_told (λ ms. Completes (47 ∷ (word ++ ms))) s e empty) h

    letter_told : (s : At) (e : LeafFault) → to_letter name dim s ≡ Err e → Told (to_letter name dim) (λ ms. Completes (47 ∷ ms)) s e
    letter_told s e h =
        bind_told Leaf (λ x w. letter_in dim w ≡ Some x) (said_at (letter_in dim)) (to_leaf name dim) (λ ms. Completes (47 ∷ ms)) s e
        (said_told (λ ms. Completes (47 ∷ ms)) s e (letter_begins before name named free dim fits) (letter_in dim))
        (said_known (letter_in dim) s)
        (λ letter m w is bad. end_told_behind letter w m e is bad)
        h

    slash_told : (s : At) (e : LeafFault) → to_slash name dim s ≡ Err e → Told (to_slash name dim) Completes s e
    slash_told s e h =
        bind_told Leaf (λ _ bytes. bytes ≡ 47 ∷ []) (byte_at 47) (λ _. to_letter name dim) Completes s e
        (byte_told Completes s e (slash_begins before name named free dim fits) 47)
        (byte_known 47 refl s)
        (λ _ m bytes is bad. subst (λ (bs : List ℕ). Told (to_letter name dim) (λ ms. Completes (bs ++ ms)) m e) (sym is) (letter_told m e bad))
        h

  name_told : (s : At) (e : LeafFault) → to_dim before name s ≡ Err e → Told (to_dim before name) (λ ms. LeafBegins before (name ++ ms)) s e
  name_told s e h =
      bind_told Leaf (SaysDim before name) (dim_at before name) (to_slash name) (λ ms. LeafBegins before (name ++ ms)) s e
      (dim_told s e)
      (dim_known before name s)
      (λ dim m bytes is bad. subst (λ (bs : List ℕ). Told (to_slash name dim) (λ ms. LeafBegins before (name ++ (bs ++ ms))) m e) (sym is.1) (slash_told dim is.0 m e bad))
      h

pub leaf_told : (before : List Leaf) (s : At) (e : LeafFault) → leaf_at before s ≡ Err e → Told (leaf_at before) (LeafBegins before) s e
unfolding leaf_at
leaf_told before s e h =
    bind_told Leaf (λ x w. leaf_name_of before w ≡ Some x) (said_at (leaf_name_of before)) (to_dim before) (LeafBegins before) s e
    (said_told (LeafBegins before) s e (start_begins before) (leaf_name_of before))
    (said_known (leaf_name_of before) s)
    (λ name m word is bad.
    let both = if_is (is_name_text word && not (is_taken before word)) word name is in
    let tests = and_parts (is_name_text word) (not (is_taken before word)) both.0 in
    let fails : to_dim before word m ≡ Err e = subst (λ (w : List ℕ). to_dim before w m ≡ Err e) (sym both.1) bad in
    subst (λ (w : List ℕ). Told (to_dim before w) (λ ms. LeafBegins before (word ++ ms)) m e) both.1 (name_told before word tests.0 (not-true (is_taken before word) tests.1) m e fails))
    h
