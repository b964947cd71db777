-- Where reading stands, and the words of pointers that stand earlier.
use Rattle.std.specs.{Prelude.{ℕ, List, [], map, nat_eq}, Borrow.{Bor}}
use Rattle.indexmap.specs.{IndexSet.{insert_key}, IndexMap.{insert_entry}}
use Rattle.rio_num.specs.Meanings.{Standing, stand}

-- the words of pointers that were met, to which later words may refer
pub record WordsMet : Type 0 where
  -- the places of the count words of pointed objects, in order: an object's label is its number in this list
  pub labels : List ℕ
  -- the names of classes, each with the place of the class word that spells it out
  pub names : List (ℕ × List ℕ)

abbrev pub no_words : WordsMet
no_words = record { labels = []; names = [] }

-- the names, which lie in the data, by themselves
abbrev pub plain_names : List (ℕ × Bor (List ℕ)) → List (ℕ × List ℕ)
plain_names entries = map (λ e. (e.0, e.1.now)) entries

-- one more object, the last one, whose count word stands at the place
abbrev pub with_label : WordsMet → ℕ → WordsMet
with_label t place = record t { labels = insert_key nat_eq t.labels place }

-- one more name, whose class word stands at the place
abbrev pub with_name : WordsMet → ℕ → List ℕ → WordsMet
with_name t place name = record t { names = insert_entry nat_eq t.names place name }

abbrev pub ReaderState : Type 0
ReaderState = Standing WordsMet

-- reading stands at a place, before the bytes, behind the words
abbrev pub standing : ℕ → List ℕ → WordsMet → ReaderState
standing place rest t = stand place rest t
