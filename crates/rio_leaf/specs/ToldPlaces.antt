-- The place that is told of a text that lists no leaves is that of its first token that can't stand.
use Rattle.std.specs.{Prelude.{◌≡◌, ℕ, ◌+◌, ◌-◌, ◌^◌, ◌<◌, List, [], ◌∷◌, ◌++◌, length, take, slice_index, Err, false, ◌&&◌, if◌then◌else◌}, List.{prefix_len}}
use Rattle.rio_num.specs.Word.{is_blank_byte, is_word_byte}
use Rattle.rio_leaf.specs.{declared.fault.LeafFault.{LeafFault, TheVariants.{BadLeaf}}, declared.leaf.Leaf.{Leaf}, Reading.{leaves_in, word_length}}
use Rattle.rio_leaf.specs.Spelling.{SpellsLeaves}

-- The next token, with the blanks before it: a word, another byte, or nothing at the end.
abbrev pub next_token : List ℕ → List ℕ
next_token [] = []
next_token (b ∷ bs) =
    if is_blank_byte b then b ∷ next_token bs else b ∷ (if is_word_byte b then take (word_length bs) bs else [])

-- No word goes on from the one text into the other: the last byte of the one and the first of the other aren't both of words.
abbrev pub NoWordGoesOn : List ℕ → List ℕ → Type 0
NoWordGoesOn front behind = (is_word_byte (slice_index front (length front - 1)) && is_word_byte (slice_index behind 0)) ≡ false

-- Behind the front comes a token that can't stand, and its place is told, whatever stands behind that token. Other tokens
-- behind the front complete it to a text that spells leaves, where it hasn't used up all names: with fewer than 2^32 bytes.
pub record IsFirstBadLeaf (text : List ℕ) (fault : LeafFault) : Type 0 where
  pub front : List ℕ
  pub behind : List ℕ
  pub parts : text ≡ front ++ behind
  pub apart : NoWordGoesOn front behind
  pub told : fault ≡ BadLeaf (length front + prefix_len is_blank_byte behind)
  pub always : (other : List ℕ) → next_token other ≡ next_token behind → leaves_in (front ++ other) ≡ Err fault
  pub begins :
      length front < 2 ^ 32 → (more : List ℕ) × (leaves : List Leaf) × NoWordGoesOn front more × SpellsLeaves leaves (front ++ more)
