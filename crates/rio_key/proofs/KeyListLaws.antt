-- What spells a list of key heads is read as it, and what is read as one spells it.
use Rattle.std.proofs.Common.{◌≡◌, ℕ, ◌+◌, ◌<◌, ◌^◌, Some, List, [], ◌∷◌, ◌++◌, length, Result, Ok, Err, ap, subst, ◌∙◌, arith}
use Rattle.std.specs.Prelude.{IfOk}
use Rattle.byteorder.specs.Endian.{big_bytes}
use Rattle.rio_num.specs.{Answers.{GivesUnless, ReadsUnless, TellsUnless}, At.{At, AreBytes}, Layout.{each, times}, Meanings.{Spells}}
use Rattle.rio_num.specs.Plain.{IsSpelledIn, plain, value_of}
use Rattle.rio_num.proofs.Agree as Agree
use Rattle.rio_num.proofs.{Intro.{IsSo, both_are, done_is, ends_with, here_then, number_then}, Retold.{retold_spelled, told_before}, Apart.{here_of}}
use Rattle.rio_num.proofs.{Plain.{spelled_again, standing}, Moves.{IsFound, Moves, found, moves_behind, moves_number, moves_times}}
use Rattle.rio_key.specs.{Key.{SpellsKey, key_layout}, KeyList.{BreaksKeyList, SpellsKeyList, listed_fault, key_list_at, key_list_layout, list_memory, listed_key}}
use Rattle.rio_key.specs.{declared.head.KeyHead.{KeyHead}, declared.fault.ListFault.{ListFault}}
use Rattle.rio_key.proofs.{KeyParts.{key_moves}, KeyRead.{value_given}}

-- ---- a list stands anywhere

told_key : (end q : ℕ) (h : KeyHead) (bytes : List ℕ) → Spells key_layout end q tt h bytes tt → IsSo listed_key end q tt h bytes tt
unfolding listed_key
told_key end q h bytes c = here_then (record { so = retold_spelled (listed_fault (Some q)) key_layout end q tt h bytes tt c })

listed_moves : Moves listed_key
unfolding listed_key
listed_moves = record {
  moves = λ end end' p q t h bytes t' c.
      let so : IsSo listed_key end p t h bytes t' = record { so = c } in
      let key = told_before (listed_fault (Some p)) key_layout end p tt h bytes tt (here_of so).so in
      (told_key end' q h bytes (key_moves.moves end end' p q tt h bytes tt key)).so;
}

list_moves : Moves key_list_layout
unfolding key_list_layout
list_moves = moves_behind (moves_number _ 4) (λ count. moves_times count listed_key listed_moves)

pub key_list_again : (hs : List KeyHead) (bytes : List ℕ) (p : ℕ) (rest : List ℕ) → SpellsKeyList hs bytes → key_list_at (standing p (bytes ++ rest)) ≡ Ok (hs, plain (standing (p + length bytes) rest))
unfolding SpellsKeyList
key_list_again hs bytes p rest c = spelled_again key_list_layout hs bytes p rest c

pub key_list_found : (s : At) (hs : List KeyHead) (s' : At) → AreBytes s.rest → key_list_at s ≡ Ok (hs, plain s') → IsFound key_list_layout s hs s'
key_list_found s hs s' fits e = found key_list_layout list_moves s hs s' fits e

-- ---- a list is put together

-- so many heads, one behind the other
abbrev pub SpellsHeads : List KeyHead → List ℕ → Type 0
SpellsHeads hs bytes = (end p : ℕ) → IsSo (times (length hs) listed_key) end p tt hs bytes tt

pub no_heads : SpellsHeads [] []
unfolding each
no_heads = λ end p. done_is

pub more_heads : (h : KeyHead) (hs : List KeyHead) (first others : List ℕ) → SpellsKey h first → SpellsHeads hs others → SpellsHeads (h ∷ hs) (first ++ others)
unfolding each SpellsKey
more_heads h hs first others c d = λ end p.
    let key = told_key end p h first (key_moves.moves (0 + length first) end 0 p tt h first tt (c 0)) in
    both_are h tt key (ends_with hs tt (d end (p + length first)) done_is)

pub list_of : (hs : List KeyHead) (bytes : List ℕ) → length hs < 2 ^ 32 → SpellsHeads hs bytes → SpellsKeyList hs (big_bytes 4 (length hs) ++ bytes)
unfolding SpellsKeyList key_list_layout
list_of hs bytes few c = λ p.
    let end = p + length (big_bytes 4 (length hs) ++ bytes) in
    let all : IsSo key_list_layout end p tt hs (big_bytes 4 (length hs) ++ bytes) tt = number_then (length hs) (omega (arith, few)) (c end (p + 4)) in
    all.so

-- ---- what a reader returned

module _ (s new : At) where
  pub is_list_found : (r : Result (List KeyHead) ListFault) → AreBytes s.rest → ReadsUnless list_memory (λ x. x) r (key_list_at s) (plain new) → IfOk r (λ hs. IsSpelledIn (SpellsKeyList hs) s.rest)
  unfolding SpellsKeyList
  is_list_found (Err e) fits given = tt
  is_list_found (Ok hs) fits given = let f = key_list_found s hs new fits given in (f.bytes, new.rest, f.parts, f.spelled)

  pub is_list_broken : (r : Result (List KeyHead) ListFault) → AreBytes s.rest → ReadsUnless list_memory (λ x. x) r (key_list_at s) (plain new) → TellsUnless list_memory (BreaksKeyList s) r
  unfolding BreaksKeyList
  is_list_broken (Ok hs) fits given = tt
  is_list_broken (Err e) fits given = λ ne. Agree.fault_is_broken key_list_layout (plain s) e fits (given ne)

  pub is_list_only : (r : Result (List KeyHead) ListFault) (hs : List KeyHead) (front rest : List ℕ) → ReadsUnless list_memory (λ x. x) r (key_list_at s) (plain new) → s.rest ≡ front ++ rest → SpellsKeyList hs front → GivesUnless list_memory (λ x. x) r (Ok hs)
  is_list_only r hs front rest given e spelled =
      let one = ap (λ (b : List ℕ). key_list_at (standing s.place b)) e ∙ key_list_again hs front s.place rest spelled in
      subst (λ (q : Result (List KeyHead) ListFault). GivesUnless list_memory (λ x. x) r q) (ap value_of one) (value_given list_memory r (key_list_at s) (plain new) given)
