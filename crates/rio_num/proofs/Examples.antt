-- Some bytes, what they are read as, what spells them, and how they break. All hold by computation.
use Rattle.std.proofs.Common.{◌≡◌, ℕ, List, [], ◌∷◌, ◌++◌, codes, Ok, Err, inl, inr, refl, lit<}
use Rattle.byteorder.specs.Endian.{big_bytes}
use Rattle.rio_num.specs.{Reading.{short, text_at}, declared.cursor.Short.{Short}, Books.{Authors, Book, too_few, too_far, nobody, book, books, author}, At.{place_len_of}}
use Rattle.rio_num.specs.{Layout.{Layout, done, number, text, each, times, retold, ◌>>=◌}, Meanings.{read, stand, Spells, Breaks}}

-- ---- books

no_authors : Authors
no_authors = []

-- the book `ab` of the author `X`, who is spelled out, at the place 100
abbrev first_bytes : List ℕ
first_bytes = 0 ∷ 11 ∷ 2 ∷ 97 ∷ 98 ∷ 0 ∷ 0 ∷ 88 ∷ 0 ∷ 1 ∷ 2 ∷ 3 ∷ 4 ∷ []

-- a book without a title, of the author of the word at the place 105
abbrev second_bytes : List ℕ
second_bytes = 0 ∷ 7 ∷ 0 ∷ 0 ∷ 105 ∷ 5 ∷ 6 ∷ 7 ∷ 8 ∷ []

abbrev one : Book
one = record { title = codes "ab"; author = codes "X"; shelf = 1 ∷ 2 ∷ 3 ∷ 4 ∷ [] }

abbrev two : Book
two = record { title = []; author = codes "X"; shelf = 5 ∷ 6 ∷ 7 ∷ 8 ∷ [] }

abbrev met_there : Authors
met_there = (105, codes "X") ∷ []

-- both are read, and reading stands before what follows
two_books : read (books 2) (stand 100 (first_bytes ++ (second_bytes ++ 9 ∷ [])) []) ≡ Ok (one ∷ two ∷ [], stand 122 (9 ∷ []) met_there)
unfolding each book author text_at
two_books = refl

-- the second alone has no author
no_author : read (books 1) (stand 113 second_bytes []) ≡ Err (nobody 116 105)
unfolding each book author text_at
no_author = refl

-- its count is 8, and 7 bytes are left
count_too_far : read (books 1) (stand 113 (0 ∷ 8 ∷ 0 ∷ 0 ∷ 105 ∷ 5 ∷ 6 ∷ 7 ∷ 8 ∷ []) met_there) ≡ Err (too_far 113)
unfolding each book
count_too_far = refl

-- a count that is too small is no fault of this format
small_count : read book (stand 113 (0 ∷ 0 ∷ 0 ∷ 0 ∷ 105 ∷ 5 ∷ 6 ∷ 7 ∷ 8 ∷ []) met_there) ≡ Ok (two, stand 122 [] met_there)
unfolding book author text_at
small_count = refl

-- a title of three bytes, of which two are there
cut_title : read book (stand 100 (0 ∷ 3 ∷ 3 ∷ 97 ∷ 98 ∷ []) []) ≡ Err (too_few 102 4)
unfolding book text_at
cut_title = refl

-- four bytes of a length are to follow the byte 255, and one does
cut_length : read book (stand 100 (0 ∷ 2 ∷ 255 ∷ 0 ∷ []) []) ≡ Err (too_few 102 5)
unfolding book text_at
cut_length = refl

-- no zero byte ends the author's name
endless_name : read author (stand 105 (0 ∷ 0 ∷ 88 ∷ 89 ∷ []) []) ≡ Err (too_few 109 1)
unfolding author
endless_name = refl

-- the author's name spelled out, and its place among the words met
new_author_spelled : Spells author 109 105 [] (codes "X") (0 ∷ 0 ∷ 88 ∷ 0 ∷ []) met_there
unfolding author
new_author_spelled = (
  105,
  [],
  0 ∷ 0 ∷ 88 ∷ 0 ∷ [],
  [],
  refl,
  (refl, refl, refl),
  (
    0,
    0 ∷ 0 ∷ [],
    88 ∷ 0 ∷ [],
    [],
    refl,
    (lit< tt, refl, refl),
    (
      codes "X",
      88 ∷ 0 ∷ [],
      [],
      [],
      refl,
      ((refl, tt), refl, refl),
      ([], [], [], [], refl, (refl, refl, refl), (tt, [], [], met_there, refl, (refl, refl), (refl, refl, refl))),
    ),
  ),
)

-- and a word that names nobody
nobody_there : Breaks author 105 [] (0 ∷ 7 ∷ []) (nobody 105 7)
unfolding author
nobody_there = inr (105, [], 0 ∷ 7 ∷ [], [], refl, (refl, refl, refl), inr (7, 0 ∷ 7 ∷ [], [], [], refl, (lit< tt, refl, refl), inr ([], [], [], [], refl, (refl, refl, refl), refl)))

-- ---- records of a file

-- the layout of a record that refers to nothing
abbrev Plain : Type 0 → Type 1
Plain A = Layout (Unit {0}) Short A

-- an entry of a free list: the first and the last free byte of a gap
unfoldable free_entry : Plain (ℕ × ℕ)
free_entry = do
  version ← number short 2
  first ← number short (place_len_of version)
  last ← number short (place_len_of version)
  done (first, last)

-- the entry of a file that ends at 304
small_free : read free_entry (stand 292 (0 ∷ 1 ∷ 0 ∷ 0 ∷ 1 ∷ 0x30 ∷ 0x77 ∷ 0x35 ∷ 0x94 ∷ 0 ∷ 0 ∷ 0 ∷ []) tt) ≡ Ok ((304, 2000000000), stand 302 (0 ∷ 0 ∷ []) tt)
unfolding free_entry
small_free = refl

-- the same in the large form
large_free : read free_entry (stand 292 (big_bytes 2 1001 ++ (big_bytes 8 304 ++ big_bytes 8 2000000000)) tt) ≡ Ok ((304, 2000000000), stand 310 [] tt)
unfolding free_entry
large_free = refl

free_spelled : Spells free_entry 302 292 tt (304, 2000000000) (0 ∷ 1 ∷ 0 ∷ 0 ∷ 1 ∷ 0x30 ∷ 0x77 ∷ 0x35 ∷ 0x94 ∷ 0 ∷ []) tt
unfolding free_entry
free_spelled = (
  1,
  0 ∷ 1 ∷ [],
  0 ∷ 0 ∷ 1 ∷ 0x30 ∷ 0x77 ∷ 0x35 ∷ 0x94 ∷ 0 ∷ [],
  tt,
  refl,
  (lit< tt, refl, refl),
  (
    304,
    0 ∷ 0 ∷ 1 ∷ 0x30 ∷ [],
    0x77 ∷ 0x35 ∷ 0x94 ∷ 0 ∷ [],
    tt,
    refl,
    (lit< tt, refl, refl),
    (2000000000, 0x77 ∷ 0x35 ∷ 0x94 ∷ 0 ∷ [], [], tt, refl, (lit< tt, refl, refl), (refl, refl, refl)),
  ),
)

-- its last field has three bytes of four
free_cut : Breaks free_entry 292 tt (0 ∷ 1 ∷ 0 ∷ 0 ∷ 1 ∷ 0x30 ∷ 0x77 ∷ 0x35 ∷ 0x94 ∷ []) (short 298 4)
unfolding free_entry
free_cut = inr (1, 0 ∷ 1 ∷ [], 0 ∷ 0 ∷ 1 ∷ 0x30 ∷ 0x77 ∷ 0x35 ∷ 0x94 ∷ [], tt, refl, (lit< tt, refl, refl), inr (304, 0 ∷ 0 ∷ 1 ∷ 0x30 ∷ [], 0x77 ∷ 0x35 ∷ 0x94 ∷ [], tt, refl, (lit< tt, refl, refl), inl (lit< tt, refl)))

-- the fields of a key
unfoldable key_fields : Plain (List ℕ × List (List ℕ))
key_fields = do
  nbytes ← number short 4
  version ← number short 2
  objlen ← number short 4
  datime ← number short 4
  keylen ← number short 2
  cycle ← number short 2
  seek ← number short (place_len_of version)
  pdir ← number short (place_len_of version)
  class ← text short
  title ← times 2 (text short)
  done (nbytes ∷ version ∷ objlen ∷ datime ∷ keylen ∷ cycle ∷ seek ∷ pdir ∷ [], class ∷ title)

-- the key of the key list of an empty file `a.root`, at the place 208
abbrev key_bytes : List ℕ
key_bytes = big_bytes 4 0x2C ++ (big_bytes 2 4 ++ (big_bytes 4 4 ++ (big_bytes 4 1 ++ (big_bytes 2 0x28 ++ (big_bytes 2 1 ++ (big_bytes 4 0xD0 ++ (big_bytes 4 0x64 ++ (5 ∷ codes "TFile" ++ (6 ∷ codes "a.root" ++ 0 ∷ [])))))))))

key_read : read key_fields (stand 208 (key_bytes ++ (0 ∷ 0 ∷ 0 ∷ 0 ∷ [])) tt)
    ≡ Ok ((44 ∷ 4 ∷ 4 ∷ 1 ∷ 40 ∷ 1 ∷ 208 ∷ 100 ∷ [], codes "TFile" ∷ codes "a.root" ∷ [] ∷ []), stand 248 (0 ∷ 0 ∷ 0 ∷ 0 ∷ []) tt)
unfolding key_fields each text_at
key_read = refl

-- a list of keys tells a fault by the place of the head that it stands in
head_fault : read (retold (λ (e : Short). let f : ℕ × Short = (208, e) in f) key_fields) (stand 208 (0 ∷ 0 ∷ 0 ∷ 0x2C ∷ 0 ∷ []) tt) ≡ Err (208, short 212 2)
unfolding retold key_fields
head_fault = refl
