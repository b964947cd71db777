-- Which bytes stand in a word, and how far it goes.
use Rattle.std.proofs.Common.{◌≡◌, ℕ, suc, ◌+◌, List, [], ◌∷◌, ◌++◌, length, true, false, ◌&&◌, nat_le, refl, arith}
use Rattle.std.proofs.lemmas.Bool.{and_parts, Decides.{nat_tests}}
use Rattle.std.specs.List.{list_all, prefix_len}
use Rattle.rio_num.specs.Word.{begins_name, goes_on_name, is_blank_byte, is_word_byte, is_name_text}

-- no byte of a word comes next
abbrev pub Stops : List ℕ → Type 0
Stops rest = prefix_len is_word_byte rest ≡ 0

abbrev pub IsOfWord : List ℕ → Type 0
IsOfWord word = list_all is_word_byte word ≡ true

pub word_ends_there : (word rest : List ℕ) → IsOfWord word → Stops rest → prefix_len is_word_byte (word ++ rest) ≡ length word
word_ends_there [] rest h e = e
word_ends_there (x ∷ xs) rest h e =
    let parts = and_parts (is_word_byte x) (list_all is_word_byte xs) h in
    let one : 1 + length xs ≡ suc (length xs) = omega arith in
    rw (parts.0, word_ends_there xs rest parts.1 e) one

pub item_no_blank : (b : ℕ) → is_word_byte b ≡ true → is_blank_byte b ≡ false
item_no_blank b h = grind (arith, nat_tests)

-- ---- names are words

goes_on_item : (b : ℕ) → goes_on_name b ≡ true → is_word_byte b ≡ true
goes_on_item b h = grind arith

begins_item : (b : ℕ) → begins_name b ≡ true → is_word_byte b ≡ true
begins_item b h = grind arith

all_go_on : (bs : List ℕ) → list_all goes_on_name bs ≡ true → IsOfWord bs
all_go_on [] h = refl
all_go_on (b ∷ bs) h = let parts = and_parts (goes_on_name b) (list_all goes_on_name bs) h in rw (goes_on_item b parts.0, all_go_on bs parts.1) refl

pub name_of_word : (name : List ℕ) → is_name_text name ≡ true → IsOfWord name
name_of_word [] h = absurd (cc)
name_of_word (b ∷ bs) h =
    let outer = and_parts (begins_name b && list_all goes_on_name bs) (nat_le (length (b ∷ bs)) 100) h in
    let inner = and_parts (begins_name b) (list_all goes_on_name bs) outer.0 in
    rw (begins_item b inner.0, all_go_on bs inner.1) refl
