-- Lists of leaves: what is written is read, and what is read is written so.
use Rattle.std.proofs.Common.{◌≡◌, inl, inr, ℕ, ◌+◌, List, [], ◌∷◌, ◌++◌, length, Bool, true, ◌==◌, ◌&&◌, ◌||◌, not, Result, Ok, refl, sym, ap, subst, ◌∙◌, arith, append_assoc, length-append}
use Rattle.std.proofs.{lemmas.Bool.{and_from, and_parts}, lemmas.Fmt.{digits_decimal}, lemmas.Grind.{flat_map-append}}
use Rattle.std.proofs.lemmas.List.{append-nil, Folds.{list_all-append}, Splits.{slice_split-cons_no, slice_split-cons_yes}}
use Rattle.std.specs.{Fmt.{decimal}, List.{flat_map, list_all, onto_first}}
use Rattle.rio_num.specs.{At.{At}, Word.{is_word_byte, is_name_text}}
use Rattle.rio_num.proofs.{ReadLaws.{bind_ok, ok_is}, Words.{name_of_word}}
use Rattle.rio_leaf.specs.{declared.fault.LeafFault.{LeafFault}, declared.leaf.Dim.{Dim, TheVariants.{One, Fixed, Counted}}, declared.leaf.Leaf.{Leaf}}
use Rattle.rio_leaf.specs.{Leaves.{counts_for, is_dim, is_letter_of, is_one, is_taken}, Marks.{between_leaves, is_leaf_letter, letter_of_texts}}
use Rattle.rio_leaf.specs.Reading.{from_place, leaf_at, leaves_at, leaves_in, pieces}
use Rattle.rio_leaf.specs.Spelling.{are_leaves_behind, is_leaf_behind, is_leaf_list, text_of_dim, text_of_leaf, text_of_leaves}
use Rattle.rio_leaf.proofs.{LeafAgain.{count_bounds, digits_of_word, leaf_again, letter_item, own}, LeafFound.{leaf_found}}
use Rattle.rio_leaf.proofs.PieceLaws.{before_colon, item_no_colon, is_no_colon, more_pieces, no_colon, pieces_cut, rest_is}

-- ---- no colon stands in a leaf's text

pub cut_there : (xs ys : List ℕ) → list_all no_colon xs ≡ true → pieces (xs ++ 58 ∷ ys) ≡ xs ∷ pieces ys
cut_there [] ys h = slice_split-cons_yes (λ b. b == between_leaves) 58 ys refl
cut_there (x ∷ xs) ys h =
    let parts = and_parts (no_colon x) (list_all no_colon xs) h in
    slice_split-cons_no (λ b. b == between_leaves) x (xs ++ 58 ∷ ys) (is_no_colon x parts.0) ∙ ap (onto_first x) (cut_there xs ys parts.1)

cut_none : (xs : List ℕ) → list_all no_colon xs ≡ true → pieces xs ≡ xs ∷ []
cut_none [] h = refl
cut_none (x ∷ xs) h =
    let parts = and_parts (no_colon x) (list_all no_colon xs) h in
    slice_split-cons_no (λ b. b == between_leaves) x xs (is_no_colon x parts.0) ∙ ap (onto_first x) (cut_none xs parts.1)

word_no_colon : (bs : List ℕ) → list_all is_word_byte bs ≡ true → list_all no_colon bs ≡ true
word_no_colon [] h = refl
word_no_colon (b ∷ bs) h = let parts = and_parts (is_word_byte b) (list_all is_word_byte bs) h in rw (item_no_colon b parts.0, word_no_colon bs parts.1) refl

both_no_colon : (xs ys : List ℕ) → list_all no_colon xs ≡ true → list_all no_colon ys ≡ true → list_all no_colon (xs ++ ys) ≡ true
both_no_colon xs ys p q = list_all-append no_colon xs ys ∙ rw (p, q) refl

dim_no_colon : (counts : List ℕ → Bool) (dim : Dim) → is_dim counts dim ≡ true → list_all no_colon (text_of_dim dim) ≡ true
dim_no_colon counts One h = refl
dim_no_colon counts (Fixed n) h =
    let bounds = count_bounds n h in
    both_no_colon (decimal n) (93 ∷ []) (word_no_colon (decimal n) (digits_of_word (decimal n) (digits_decimal own n (omega arith)))) refl
dim_no_colon counts (Counted counter times) h =
    let outer = and_parts (is_name_text counter && counts counter) (times == 1) h in
    both_no_colon counter (93 ∷ []) (word_no_colon counter (name_of_word counter (and_parts (is_name_text counter) (counts counter) outer.0).0)) refl

pub leaf_no_colon : (before : List Leaf) (leaf : Leaf) → is_leaf_behind before leaf ≡ true → list_all no_colon (text_of_leaf leaf) ≡ true
leaf_no_colon before leaf h =
    let name = leaf.name in
    let outer = and_parts (is_name_text name && not (is_taken before name) && is_dim (counts_for before name) leaf.dim) (is_letter_of leaf.dim leaf.letter) h in
    let middle = and_parts (is_name_text name && not (is_taken before name)) (is_dim (counts_for before name) leaf.dim) outer.0 in
    let named = and_parts (is_name_text name) (not (is_taken before name)) middle.0 in
    let lettered = and_parts (is_leaf_letter leaf.letter) (is_one leaf.dim || not (leaf.letter == letter_of_texts)) outer.1 in
    let letter : list_all no_colon (47 ∷ leaf.letter ∷ []) ≡ true = rw (item_no_colon leaf.letter (letter_item leaf.letter lettered.0)) refl in
    both_no_colon name (text_of_dim leaf.dim ++ 47 ∷ leaf.letter ∷ []) (word_no_colon name (name_of_word name named.0))
    (both_no_colon (text_of_dim leaf.dim) (47 ∷ leaf.letter ∷ []) (dim_no_colon (counts_for before name) leaf.dim middle.1) letter)

-- ---- what is written is read

-- one leaf, and then the others
pub one_more : (before : List Leaf) (leaf : Leaf) (p : ℕ) (texts : List (List ℕ)) → is_leaf_behind before leaf ≡ true → leaves_at before p (text_of_leaf leaf ∷ texts) ≡ leaves_at (before ++ leaf ∷ []) (p + length (text_of_leaf leaf) + 1) texts
unfolding leaves_at
one_more before leaf p texts h = let there = leaf_again before leaf p h in rw there.1 refl

leaves_again : (before : List Leaf) (leaf : Leaf) (more : List Leaf) (p : ℕ) → are_leaves_behind before (leaf ∷ more) ≡ true → leaves_at before p (pieces (text_of_leaves (leaf ∷ more))) ≡ Ok (before ++ leaf ∷ more)
unfolding leaves_at
leaves_again before leaf [] p h =
    let parts = and_parts (is_leaf_behind before leaf) true h in
    let text = text_of_leaf leaf in
    let one : pieces (text ++ []) ≡ text ∷ [] = ap pieces (append-nil text) ∙ cut_none text (leaf_no_colon before leaf parts.0) in
    ap (leaves_at before p) one ∙ one_more before leaf p [] parts.0
leaves_again before leaf (next ∷ more) p h =
    let parts = and_parts (is_leaf_behind before leaf) (are_leaves_behind (before ++ leaf ∷ []) (next ∷ more)) h in
    let text = text_of_leaf leaf in
    let cut : pieces (text ++ 58 ∷ text_of_leaves (next ∷ more)) ≡ text ∷ pieces (text_of_leaves (next ∷ more)) = cut_there text (text_of_leaves (next ∷ more)) (leaf_no_colon before leaf parts.0) in
    let others = leaves_again (before ++ leaf ∷ []) next more (p + length text + 1) parts.1 in
    let joined : (before ++ leaf ∷ []) ++ next ∷ more ≡ before ++ leaf ∷ next ∷ more = append_assoc before (leaf ∷ []) (next ∷ more) in
    ap (leaves_at before p) cut ∙ one_more before leaf p (pieces (text_of_leaves (next ∷ more))) parts.0 ∙ others ∙ ap (λ (l : List Leaf). let r : Result (List Leaf) LeafFault = Ok l in r) joined

pub list_again : (leaves : List Leaf) → is_leaf_list leaves ≡ true → leaves_in (text_of_leaves leaves) ≡ Ok leaves
list_again [] h = absurd cc
list_again (leaf ∷ more) h = leaves_again [] leaf more 0 h

-- ---- the leaves before

-- a leaf with the colon behind it
abbrev pub with_colon : Leaf → List ℕ
with_colon leaf = text_of_leaf leaf ++ between_leaves ∷ []

-- leaves, each with the colon behind it
abbrev pub lead : List Leaf → List ℕ
lead leaves = flat_map with_colon leaves

pub lead_more : (before : List Leaf) (leaf : Leaf) → lead (before ++ leaf ∷ []) ≡ lead before ++ with_colon leaf
lead_more before leaf = flat_map-append with_colon before (leaf ∷ []) ∙ ap (λ (bs : List ℕ). lead before ++ bs) (append-nil (with_colon leaf))

pub lead_first : (leaf : Leaf) (more : List Leaf) (t : List ℕ) → lead (leaf ∷ more) ++ t ≡ text_of_leaf leaf ++ 58 ∷ (lead more ++ t)
lead_first leaf more t = append_assoc (with_colon leaf) (lead more) t ∙ append_assoc (text_of_leaf leaf) (58 ∷ []) (lead more ++ t)

pub lead_last : (before : List Leaf) (leaf : Leaf) → text_of_leaves (before ++ leaf ∷ []) ≡ lead before ++ text_of_leaf leaf
lead_last [] leaf = append-nil (text_of_leaf leaf)
lead_last (x ∷ []) leaf = ap (λ (bs : List ℕ). text_of_leaf x ++ 58 ∷ bs) (lead_last [] leaf) ∙ sym (lead_first x [] (text_of_leaf leaf))
lead_last (x ∷ y ∷ ys) leaf = ap (λ (bs : List ℕ). text_of_leaf x ++ 58 ∷ bs) (lead_last (y ∷ ys) leaf) ∙ sym (lead_first x (y ∷ ys) (text_of_leaf leaf))

pub one_behind : (front before : List Leaf) (leaf : Leaf) → are_leaves_behind front before ≡ true → is_leaf_behind (front ++ before) leaf ≡ true → are_leaves_behind front (before ++ leaf ∷ []) ≡ true
one_behind front [] leaf h k = and_from (is_leaf_behind front leaf) true (subst (λ (leaves : List Leaf). is_leaf_behind leaves leaf ≡ true) (append-nil front) k) refl
one_behind front (x ∷ xs) leaf h k =
    let parts = and_parts (is_leaf_behind front x) (are_leaves_behind (front ++ x ∷ []) xs) h in
    let fits : is_leaf_behind ((front ++ x ∷ []) ++ xs) leaf ≡ true = subst (λ (leaves : List Leaf). is_leaf_behind leaves leaf ≡ true) (sym (append_assoc front (x ∷ []) xs)) k in
    and_from (is_leaf_behind front x) (are_leaves_behind (front ++ x ∷ []) (xs ++ leaf ∷ [])) parts.0 (one_behind (front ++ x ∷ []) xs leaf parts.1 fits)

pub listed : (before : List Leaf) (leaf : Leaf) → are_leaves_behind [] (before ++ leaf ∷ []) ≡ true → is_leaf_list (before ++ leaf ∷ []) ≡ true
listed [] leaf h = h
listed (x ∷ xs) leaf h = h

-- ---- what is read is written so

abbrev pub to_leaves : List Leaf → ℕ → List (List ℕ) → Leaf × At → Result (List Leaf) LeafFault
to_leaves before p texts leaf = leaves_at (before ++ leaf.0 ∷ []) p texts

pub cons_is : {A : Type 0} (x y : A) (xs ys : List A) → x ∷ xs ≡ y ∷ ys → (x ≡ y) × (xs ≡ ys)
cons_is x y xs ys h = (cc, cc)

-- a leaf that was read, and the text behind its colon
module _ (before : List Leaf) (leaf : Leaf) (x t u : List ℕ) (own : before_colon t ≡ x) (is : x ≡ text_of_leaf leaf) where
  pub lead_place : length (lead before) + length x + 1 ≡ length (lead (before ++ leaf ∷ []))
  lead_place = omega (arith, ap length is, ap length (lead_more before leaf), length-append (lead before) (with_colon leaf), length-append (text_of_leaf leaf) (58 ∷ []))

  pub lead_whole : t ≡ before_colon t ++ 58 ∷ u → lead (before ++ leaf ∷ []) ++ u ≡ lead before ++ t
  lead_whole cut =
      ap (λ (bs : List ℕ). bs ++ u) (lead_more before leaf)
      ∙ append_assoc (lead before) (with_colon leaf) u
      ∙ ap (λ (bs : List ℕ). lead before ++ bs) (append_assoc (text_of_leaf leaf) (58 ∷ []) u ∙ ap (λ (bs : List ℕ). bs ++ 58 ∷ u) (sym is ∙ sym own) ∙ sym cut)

-- a leaf list, and its text
pub record ListFound (text : List ℕ) (leaves : List Leaf) : Type 0 where
  pub is : is_leaf_list leaves ≡ true
  pub parts : text ≡ text_of_leaves leaves

none_more : (leaves others : List Leaf) (p : ℕ) (texts : List (List ℕ)) → texts ≡ [] → leaves_at leaves p texts ≡ Ok others → leaves ≡ others
unfolding leaves_at
none_more leaves others p [] is h = ok_is {E = LeafFault} leaves others h
none_more leaves others p (t ∷ ts) is h = absurd cc

found_behind : (texts : List (List ℕ)) (before : List Leaf) (t : List ℕ) (leaves : List Leaf) → pieces t ≡ texts → are_leaves_behind [] before ≡ true → leaves_at before (length (lead before)) texts ≡ Ok leaves
    → ListFound (lead before ++ t) leaves
unfolding leaves_at
found_behind [] before t leaves is fits h = absurd (let clash = sym (pieces_cut t) ∙ is in cc)
found_behind (x ∷ xs) before t leaves is fits h =
    let p = length (lead before) in
    let own = cons_is (before_colon t) x (more_pieces t) xs (sym (pieces_cut t) ∙ is) in
    let one = bind_ok (leaf_at before (from_place p x)) (to_leaves before (p + length x + 1) xs) leaves h in
    let leaf = one.0.0 in
    let f = leaf_found before leaf (from_place p x) one.0.1 one.1 in
    let behind = one_behind [] before leaf fits f.fits in
    elim (rest_is t) [
      | inl none ↦
          let all : before ++ leaf ∷ [] ≡ leaves = none_more (before ++ leaf ∷ []) leaves (p + length x + 1) xs (sym own.1 ∙ none.0) one.2 in
          let text : lead before ++ t ≡ text_of_leaves (before ++ leaf ∷ []) = ap (λ (bs : List ℕ). lead before ++ bs) (none.1 ∙ own.0 ∙ f.parts) ∙ sym (lead_last before leaf) in
          subst (λ (ls : List Leaf). ListFound (lead before ++ t) ls) all (record { is = listed before leaf behind; parts = text })
      | inr u ↦
          let there = ap (λ (k : ℕ). leaves_at (before ++ leaf ∷ []) k xs) (sym (lead_place before leaf x t u.0 own.0 f.parts)) ∙ one.2 in
          subst (λ (bs : List ℕ). ListFound bs leaves) (lead_whole before leaf x t u.0 own.0 f.parts u.1)
          (found_behind xs (before ++ leaf ∷ []) u.0 leaves (sym u.2 ∙ own.1) behind there)
    ]

pub list_found : (text : List ℕ) (leaves : List Leaf) → leaves_in text ≡ Ok leaves → ListFound text leaves
list_found text leaves h = found_behind (pieces text) [] text leaves refl refl h
