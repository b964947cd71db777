-- A chain as its parts: what stands at each place, and gaps that are apart in the list.
use Rattle.std.proofs.Common.{◌≡◌, ℕ, ◌+◌, ◌-◌, ◌%◌, ◌^◌, ◌<◌, ◌≤◌, List, [], ◌∷◌, ◌++◌, length, Some, refl, subst, arith}
use Rattle.std.specs.List.{slice_get}
use Rattle.rio_host.proofs.Images.{has_keeps}
use Rattle.rio_chain.specs.Segments.{Link, RecordAt, GapAt, link_length, end_from, chain_end, HasWord, HoldsEnd, HoldsLinks, HoldsRecord, IsChain, IsFirst, IsPositive}
use Rattle.rio_chain.specs.Stops.{KeepsFront}
use Rattle.rio_chain.proofs.Words.{held_positive, held_word, word_keeps, word_one, word_within}

-- a gap, whatever stands behind it
pub record PlainGap (file : List ℕ) (place n : ℕ) : Type 0 where
  pub later : 100 < place
  pub word : HasWord file place (2 ^ 32 - n)
  pub some : 4 ≤ n
  pub small : n ≤ 2 ^ 31
  pub aligned : n % 4 ≡ 0

abbrev pub PlainLink : List ℕ → ℕ → Link → Type 0
PlainLink file place (RecordAt p bytes) = (p ≡ place) × HoldsRecord file place bytes
PlainLink file place (GapAt p n) = (p ≡ place) × PlainGap file place n

abbrev pub PlainLinks : List ℕ → ℕ → List Link → Type 0
PlainLinks file place [] = Unit {0}
PlainLinks file place (link ∷ links) = PlainLink file place link × PlainLinks file (place + link_length link) links

-- a record is the first of them
abbrev pub BeginsRecord : List Link → Type 0
BeginsRecord [] = ⊥
BeginsRecord (RecordAt p bytes ∷ links) = Unit {0}
BeginsRecord (GapAt p n ∷ links) = ⊥

-- a record stands behind each gap
abbrev pub Spaced : List Link → Type 0
Spaced [] = Unit {0}
Spaced (RecordAt p bytes ∷ links) = Spaced links
Spaced (GapAt p n ∷ links) = BeginsRecord links × Spaced links

-- a chain by its parts
pub record Parts (links : List Link) (file : List ℕ) : Type 0 where
  pub plain : PlainLinks file 100 links
  pub spaced : Spaced links
  pub ends : HoldsEnd file (chain_end links)

-- ---- one form and the other

begins : (file : List ℕ) (place : ℕ) (links : List Link) → HoldsLinks file place links → HoldsEnd file (end_from place links) → ((word : ℕ) → HasWord file place word → IsPositive word) → BeginsRecord links
begins file place [] stand end alone = absurd (let p = alone 0 end.zero_word in omega (arith, p.0))
begins file place (RecordAt p bytes ∷ links) stand end alone = tt
begins file place (GapAt p n ∷ links) stand end alone = absurd (let p = alone (2 ^ 32 - n) stand.0.1.word in omega (arith, p.1, stand.0.1.small))

spaced_of : (file : List ℕ) (place : ℕ) (links : List Link) → HoldsLinks file place links → HoldsEnd file (end_from place links) → Spaced links
spaced_of file place [] stand end = tt
spaced_of file place (RecordAt p bytes ∷ links) stand end = spaced_of file (place + length bytes) links stand.1 end
spaced_of file place (GapAt p n ∷ links) stand end = (begins file (place + n) links stand.1 end stand.0.1.alone, spaced_of file (place + n) links stand.1 end)

plain_of : (file : List ℕ) (place : ℕ) (links : List Link) → HoldsLinks file place links → PlainLinks file place links
plain_of file place [] stand = tt
plain_of file place (RecordAt p bytes ∷ links) stand = (stand.0, plain_of file (place + length bytes) links stand.1)
plain_of file place (GapAt p n ∷ links) stand = (
  (stand.0.0, record { later = stand.0.1.later; word = stand.0.1.word; some = stand.0.1.some; small = stand.0.1.small; aligned = stand.0.1.aligned }),
  plain_of file (place + n) links stand.1,
)

pub parts_of : (links : List Link) (file : List ℕ) → IsChain links file → Parts links file
parts_of links file chain = record { plain = plain_of file 100 links chain.links_are; spaced = spaced_of file 100 links chain.links_are chain.ends; ends = chain.ends }

-- a record's word is positive, and within the file
record_first : (file : List ℕ) (place : ℕ) (links : List Link) → PlainLinks file place links → BeginsRecord links → (n : ℕ) × HasWord file place n × IsPositive n
record_first file place [] plain begins = absurd begins
record_first file place (RecordAt p bytes ∷ links) plain begins = (length bytes, held_word file place bytes plain.0.1, held_positive file place bytes plain.0.1)
record_first file place (GapAt p n ∷ links) plain begins = absurd begins

links_of : (file : List ℕ) (place : ℕ) (links : List Link) → PlainLinks file place links → Spaced links → HoldsLinks file place links
links_of file place [] plain spaced = tt
links_of file place (RecordAt p bytes ∷ links) plain spaced = (plain.0, links_of file (place + length bytes) links plain.1 spaced)
links_of file place (GapAt p n ∷ links) plain spaced =
    let next = record_first file (place + n) links plain.1 spaced.0 in
    let fits = word_within file (place + n) next.0 next.1 in
    let gap = plain.0.1 in (
      (
        plain.0.0,
        record {
          later = gap.later;
          word = gap.word;
          some = gap.some;
          small = gap.small;
          aligned = gap.aligned;
          within = omega (arith, fits);
          alone = λ word has. subst IsPositive (word_one file (place + n) next.0 word next.1 has) next.2;
        },
      ),
      links_of file (place + n) links plain.1 spaced.1,
    )

pub chain_of : (links : List Link) (file : List ℕ) → Parts links file → IsChain links file
chain_of links file parts = record { links_are = links_of file 100 links parts.plain parts.spaced; ends = parts.ends }

-- ---- places

pub end-le : (place : ℕ) (links : List Link) → place ≤ end_from place links
end-le place [] = omega arith
end-le place (l ∷ links) = omega (arith, end-le (place + link_length l) links)

pub end-append : (place : ℕ) (front back : List Link) → end_from place (front ++ back) ≡ end_from (end_from place front) back
end-append place [] back = refl
end-append place (l ∷ front) back = end-append (place + link_length l) front back

-- ---- what stays in another image

-- bytes from one place up to another stay
abbrev pub KeepsIn : ℕ → ℕ → List ℕ → List ℕ → Type 0
KeepsIn from to old new = (i x : ℕ) → from ≤ i → i < to → slice_get old i ≡ Some x → slice_get new i ≡ Some x

pub first_keeps : (old new bytes : List ℕ) → KeepsFront old new → IsFirst old bytes → IsFirst new bytes
first_keeps old new bytes keeps f = record {
  head = f.head;
  key = f.key;
  class = f.class;
  directory = f.directory;
  texts = f.texts;
  room = f.room;
  small = f.small;
  nbytes_name = word_keeps old new 28 f.directory.place (λ i x low high was. keeps i x (omega (arith, high)) was) f.nbytes_name;
}

-- links stay where their bytes do, and what makes a record the first one
pub plain_held : (old new : List ℕ) (place : ℕ) (links : List Link) → ((bytes : List ℕ) → place ≤ 100 → IsFirst old bytes → IsFirst new bytes) → KeepsIn place (end_from place links) old new
    → PlainLinks old place links → PlainLinks new place links
plain_held old new place [] first keeps plain = tt
plain_held old new place (RecordAt p bytes ∷ links) first keeps plain =
    let record_there = plain.0.1 in (
      (
        plain.0.0,
        record {
          there = has_keeps old new place bytes (λ i x low high was. keeps i x low (omega (arith, high, end-le (place + length bytes) links)) was) record_there.there;
          whole = record_there.whole;
          first = λ is. first bytes (omega (arith, is)) (record_there.first is);
        },
      ),
      plain_held old new (place + length bytes) links (λ own low. first own (omega (arith, low))) (λ i x low high was. keeps i x (omega (arith, low)) high was) plain.1,
    )
plain_held old new place (GapAt p n ∷ links) first keeps plain =
    let gap = plain.0.1 in (
      (
        plain.0.0,
        record {
          later = gap.later;
          word = word_keeps old new place (2 ^ 32 - n) (λ i x low high was. keeps i x low (omega (arith, high, gap.some, end-le (place + n) links)) was) gap.word;
          some = gap.some;
          small = gap.small;
          aligned = gap.aligned;
        },
      ),
      plain_held old new (place + n) links (λ own low. first own (omega (arith, low))) (λ i x low high was. keeps i x (omega (arith, low)) high was) plain.1,
    )

pub plain_keeps : (old new : List ℕ) (place : ℕ) (links : List Link) → KeepsFront old new → KeepsIn place (end_from place links) old new → PlainLinks old place links → PlainLinks new place links
plain_keeps old new place links front = plain_held old new place links (λ bytes low. first_keeps old new bytes front)

pub end_keeps : (old new : List ℕ) (place : ℕ) → KeepsIn place (place + 4) old new → HoldsEnd old place → HoldsEnd new place
end_keeps old new place keeps e = record { later = e.later; zero_word = word_keeps old new place 0 keeps e.zero_word }

-- ---- lists that are joined and cut

pub plain-append : (file : List ℕ) (place : ℕ) (front back : List Link) → PlainLinks file place front → PlainLinks file (end_from place front) back → PlainLinks file place (front ++ back)
plain-append file place [] back one two = two
plain-append file place (l ∷ front) back one two = (one.0, plain-append file (place + link_length l) front back one.1 two)

pub plain_cut : (file : List ℕ) (place : ℕ) (front back : List Link) → PlainLinks file place (front ++ back) → PlainLinks file place front × PlainLinks file (end_from place front) back
plain_cut file place [] back plain = (tt, plain)
plain_cut file place (l ∷ front) back plain = let rest = plain_cut file (place + link_length l) front back plain.1 in ((plain.0, rest.0), rest.1)

-- what stands behind a front may be another list that begins with a record
pub spaced_as : (front one two : List Link) → Spaced (front ++ one) → (BeginsRecord one → BeginsRecord two) → Spaced two → Spaced (front ++ two)
spaced_as [] one two spaced begins other = other
spaced_as (RecordAt p bytes ∷ front) one two spaced begins other = spaced_as front one two spaced begins other
spaced_as (GapAt p n ∷ []) one two spaced begins other = (begins spaced.0, other)
spaced_as (GapAt p n ∷ RecordAt q bytes ∷ front) one two spaced begins other = (tt, spaced_as front one two spaced.1 begins other)
spaced_as (GapAt p n ∷ GapAt q m ∷ front) one two spaced begins other = absurd spaced.0

pub spaced_back : (front back : List Link) → Spaced (front ++ back) → Spaced back
spaced_back [] back spaced = spaced
spaced_back (RecordAt p bytes ∷ front) back spaced = spaced_back front back spaced
spaced_back (GapAt p n ∷ front) back spaced = spaced_back front back spaced.1
