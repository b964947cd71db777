-- A small format that has parts of every kind: a list of books, on which the laws are told.
use Rattle.std.specs.{Prelude.{ℕ, ◌==◌, ◌+◌, List, ◌∷◌, nat_eq}, Map.{lookup}}
use Rattle.rio_num.specs.Layout.{Layout, done, number, bytes, text, name, here, reaches, met, note, known, times, ◌>>=◌, when◌then◌else◌}

-- the authors met, by the places of the words that spell them out
abbrev pub Authors : Type 0
Authors = List (ℕ × List ℕ)

-- how a list can be broken
pub data Flaw : Type 0 where
  -- at the place so many bytes are wanted
  too_few : ℕ → ℕ → Flaw
  -- the count at the place goes past the end of the data
  too_far : ℕ → Flaw
  -- the word at the place names no earlier author
  nobody : ℕ → ℕ → Flaw

pub record Book : Type 0 where
  pub title : List ℕ
  pub author : List ℕ
  pub shelf : List ℕ

-- an author who is spelled out behind the word 0 at the place
abbrev pub new_author : ℕ → Layout Authors Flaw (List ℕ)
new_author place = do
  a ← name too_few
  t ← met
  _ ← note ((place, a) ∷ t)
  done a

-- the author who is spelled out behind an earlier word, whose place is given
abbrev pub known_author : ℕ → ℕ → Layout Authors Flaw (List ℕ)
known_author place w = do
  t ← met
  known (nobody place w) (lookup (nat_eq w) t)

unfoldable pub author : Layout Authors Flaw (List ℕ)
author = do
  place ← here
  w ← number too_few 2
  when w == 0 then new_author place else known_author place w

-- a count of bytes that the data have, a title, an author, and the four bytes of a shelf
unfoldable pub book : Layout Authors Flaw Book
book = do
  place ← here
  count ← number too_few 2
  q ← here
  _ ← reaches (q + count) (too_far place)
  title ← text too_few
  a ← author
  shelf ← bytes too_few 4
  done (record { title = title; author = a; shelf = shelf })

abbrev pub books : ℕ → Layout Authors Flaw (List Book)
books n = times n book
