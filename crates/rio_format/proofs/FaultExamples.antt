-- Some bytes, and how they break: the first fault of each kind, with its place.
use Rattle.std.proofs.Common.{◌<◌, pos, [], ◌∷◌, ◌++◌, codes, None, inl, inr, refl, arith, lit<, lit≤}
use Rattle.byteorder.specs.Endian.{big_bytes}
use Rattle.rio_format.specs.{declared.kind.Primitive.TheVariants.{U8}, Frames.{class_word, finish, header, pointer_word}, ReaderState.{WordsMet, no_words}}
use Rattle.rio_num.specs.{Layout.{number}, Meanings.{Breaks}}
use Rattle.rio_format.specs.declared.fault.ObjFault.{ObjFault, TheVariants.{Short, BadCount, UnknownClassWord, UnknownRef, NoCount, BadFlag, CountMismatch, TooDeep}}
use Rattle.rio_format.specs.Objects.{BreaksObject, bare_layout, body, count_of, counted_values, formed, headed, object_of, unread}

-- nothing stands where a header is wanted
no_header : BreaksObject [] 34 (codes "TNamed") [] (Short 34 4)
unfolding BreaksObject object_of formed headed header
no_header = inl (inr (34, [], [], no_words, refl, (refl, refl, refl), inl (lit< tt, refl)))

-- the word of a header has no byte count
no_count : BreaksObject [] 34 (codes "TNamed") (big_bytes 4 51 ++ (0 ∷ 1 ∷ [])) (NoCount 34)
unfolding BreaksObject object_of formed headed header
no_count = inl (inr (34, [], big_bytes 4 51 ++ (0 ∷ 1 ∷ []), no_words, refl, (refl, refl, refl), inr (51, big_bytes 4 51, 0 ∷ 1 ∷ [], no_words, refl, (lit< tt, refl, refl), inl refl)))

-- it has both upper bits
both_bits : BreaksObject [] 34 (codes "TNamed") (big_bytes 4 0xC0000006 ++ (0 ∷ 1 ∷ [])) (BadCount 34)
unfolding BreaksObject object_of formed headed header
both_bits = inl (inr (34, [], big_bytes 4 0xC0000006 ++ (0 ∷ 1 ∷ []), no_words, refl, (refl, refl, refl), inr (0xC0000006, big_bytes 4 0xC0000006, 0 ∷ 1 ∷ [], no_words, refl, (lit< tt, refl, refl), inl refl)))

-- it counts six bytes, and two are left
past_the_end : BreaksObject [] 34 (codes "TNamed") (big_bytes 4 0x40000006 ++ (0 ∷ 1 ∷ [])) (BadCount 34)
unfolding BreaksObject object_of formed headed header
past_the_end = inl (inr (34, [], big_bytes 4 0x40000006 ++ (0 ∷ 1 ∷ []), no_words, refl, (refl, refl, refl), inr (0x40000006, big_bytes 4 0x40000006, 0 ∷ 1 ∷ [], no_words, refl, (lit< tt, refl, refl), inl (inl (lit< tt, refl)))))

-- an opaque object counts one byte, and its version has two
opaque_short : BreaksObject [] 34 (codes "Nobody") (big_bytes 4 0x40000001 ++ (0 ∷ 1 ∷ 0 ∷ [])) (CountMismatch 34 1 2)
unfolding BreaksObject object_of formed headed header body unread
opaque_short = inr (
  record { place = 34; end = 39; version = pos 1; sum = None },
  big_bytes 4 0x40000001 ++ (0 ∷ 1 ∷ []),
  0 ∷ [],
  no_words,
  refl,
  (
    34,
    [],
    big_bytes 4 0x40000001 ++ (0 ∷ 1 ∷ []),
    no_words,
    refl,
    (refl, refl, refl),
    (
      0x40000001,
      big_bytes 4 0x40000001,
      0 ∷ 1 ∷ [],
      no_words,
      refl,
      (lit< tt, refl, refl),
      (
        39,
        [],
        0 ∷ 1 ∷ [],
        no_words,
        refl,
        (tt, [], [], no_words, refl, (lit≤ tt, refl, refl), (refl, refl, refl)),
        (1, 0 ∷ 1 ∷ [], [], no_words, refl, (lit< tt, refl, refl), (None, [], [], no_words, refl, (refl, refl, refl), (refl, refl, refl))),
      ),
    ),
  ),
  inr (40, [], 0 ∷ [], no_words, refl, (refl, refl, refl), inl refl),
)

-- the object at level 257
too_deep : Breaks (object_of 0 [] (codes "TNamed")) 4647 no_words [] (TooDeep 4647)
unfolding object_of
too_deep = inr (4647, [], [], no_words, refl, (refl, refl, refl), refl)

-- a TObject of version 2
another_version : BreaksObject [] 34 (codes "TObject") (0 ∷ 2 ∷ 0 ∷ []) (NoCount 34)
unfolding BreaksObject object_of formed bare_layout
another_version = inr (34, [], 0 ∷ 2 ∷ 0 ∷ [], no_words, refl, (refl, refl, refl), inr (2, 0 ∷ 2 ∷ [], 0 ∷ [], no_words, refl, (lit< tt, refl, refl), inl refl))

-- the byte before a counted array is 2
bad_flag : Breaks (counted_values U8 (pos 2)) 44 no_words (2 ∷ 7 ∷ 255 ∷ []) (BadFlag 44)
unfolding counted_values
bad_flag = inr (44, [], 2 ∷ 7 ∷ 255 ∷ [], no_words, refl, (refl, refl, refl), inr (2, 2 ∷ [], 7 ∷ 255 ∷ [], no_words, refl, (lit< tt, refl, refl), refl))

-- a reference to nothing, at its word
unknown_ref : Breaks pointer_word 44 no_words (big_bytes 4 36) (UnknownRef 44 36)
unfolding pointer_word
unknown_ref = inr (44, [], big_bytes 4 36, no_words, refl, (refl, refl, refl), inr (36, big_bytes 4 36, [], no_words, refl, (lit< tt, refl, refl), inr (no_words, [], [], no_words, refl, (refl, refl, refl), inl refl)))

-- a class word that names no earlier one
unknown_class : Breaks class_word 48 no_words (big_bytes 4 0x80000032) (UnknownClassWord 48 0x80000032)
unfolding class_word
unknown_class = inr (48, [], big_bytes 4 0x80000032, no_words, refl, (refl, refl, refl), inr (0x80000032, big_bytes 4 0x80000032, [], no_words, refl, (lit< tt, refl, refl), inr (no_words, [], [], no_words, refl, (refl, refl, refl), refl)))

-- three bytes are short of a number of four, and four are not
three_are_short : Breaks {W = WordsMet} (number Short 4) 34 no_words (0 ∷ 0 ∷ 1 ∷ []) (Short 34 4)
three_are_short = (lit< tt, refl)

four_are_whole : (fault : ObjFault) → Breaks {W = WordsMet} (number Short 4) 34 no_words (0 ∷ 0 ∷ 0 ∷ 1 ∷ []) fault → ⊥
four_are_whole fault short = let less : 4 < 4 = short.0 in omega arith

-- three bytes are counted, and two are used
miscounted : Breaks (finish 34 41) 40 no_words (5 ∷ []) (CountMismatch 34 3 2)
miscounted = inr (40, [], 5 ∷ [], no_words, refl, (refl, refl, refl), refl)

-- two items of four bytes in seven bytes
too_many : Breaks (count_of 4) 51 no_words (big_bytes 4 2 ++ (0 ∷ 0 ∷ 0 ∷ 0 ∷ 0 ∷ 0 ∷ 0 ∷ [])) (BadCount 51)
unfolding count_of
too_many = inr (
  51,
  [],
  big_bytes 4 2 ++ (0 ∷ 0 ∷ 0 ∷ 0 ∷ 0 ∷ 0 ∷ 0 ∷ []),
  no_words,
  refl,
  (refl, refl, refl),
  inr (
    2,
    big_bytes 4 2,
    0 ∷ 0 ∷ 0 ∷ 0 ∷ 0 ∷ 0 ∷ 0 ∷ [],
    no_words,
    refl,
    (lit< tt, refl, refl),
    inr (55, [], 0 ∷ 0 ∷ 0 ∷ 0 ∷ 0 ∷ 0 ∷ 0 ∷ [], no_words, refl, (refl, refl, refl), inr (tt, [], 0 ∷ 0 ∷ 0 ∷ 0 ∷ 0 ∷ 0 ∷ 0 ∷ [], no_words, refl, (refl, refl, refl), inl (lit< tt, refl))),
  ),
)
