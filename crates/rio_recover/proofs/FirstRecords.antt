-- The directory record of a file: where the header says it stands, and that it is within the first record.
use Rattle.std.proofs.Common.{◌≡◌, ◌∙◌, ℕ, ◌+◌, ◌-◌, ◌<◌, ◌≤◌, Bool, false, cond, ltb, List, [], ◌∷◌, ◌++◌, codes, map, length, length-append, length-drop, drop, Ok, refl, sym, ap, subst, arith}
use Rattle.std.proofs.lemmas.Bool.{le-ltb, lt-leb}
use Rattle.byteorder.specs.{Endian.{big_bytes}, Numbers.{length-bytes_high_first}}
use Rattle.rio_num.specs.{At.{At, standing_at}, Reading.{◌>>=◌, text_at}, declared.cursor.Short.{Short}}
use Rattle.rio_num.proofs.{Front.{text_front}, ReadLaws.{bind_ok, ok_is}}
use Rattle.rio_host.specs.Image.{Has}
use Rattle.rio_host.proofs.Images.{has_back, has_front}
use Rattle.rio_head.specs.{Form.{is_large_head, place_len}, Head.{BeginsAsHead, head_bytes}, declared.head.FileHead.{FileHead}}
use Rattle.rio_chain.specs.{Chains.{HasChain}, Segments.{GapAt, HasWord, IsChain, Link, RecordAt, segment_of, texts_end_at}, declared.segment.Segment.{Segment}}
use Rattle.rio_chain.proofs.Words.{word_of_bytes, word_one}
use Rattle.rio_recover.specs.Whole.{HoldsDirectory}

-- ---- the word in the header that says where the directory record stands

module _ (head : FileHead) (small : is_large_head head.version ≡ false) where
  abbrev n : ℕ
  n = place_len (is_large_head head.version)

  abbrev behind_name : List ℕ
  behind_name = big_bytes 1 head.units ++ (big_bytes 4 head.compress ++ (big_bytes n head.seek_info ++ (big_bytes 4 head.nbytes_info ++ head.uuid)))

  abbrev from_name : List ℕ
  from_name = big_bytes 4 head.nbytes_name ++ behind_name

  abbrev from_free : List ℕ
  from_free = big_bytes 4 head.nbytes_free ++ (big_bytes 4 head.nfree ++ from_name)

  abbrev from_end : List ℕ
  from_end = big_bytes n head.end ++ (big_bytes n head.seek_free ++ from_free)

  four : (x : ℕ) → length (big_bytes n x) ≡ 4
  four x = length-bytes_high_first n x ∙ ap place_len small

  long : (x : ℕ) → length (big_bytes 4 x) ≡ 4
  long x = length-bytes_high_first 4 x

  name_in_bytes : (file : List ℕ) → Has file 0 (head_bytes head) → Has file 28 (big_bytes 4 head.nbytes_name)
  name_in_bytes file h0 =
      let h4 = has_back file 0 4 (codes "root") (big_bytes 4 head.version ++ (big_bytes 4 head.begin ++ from_end)) refl h0 in
      let h8 = has_back file 4 8 (big_bytes 4 head.version) (big_bytes 4 head.begin ++ from_end) (omega (arith, long head.version)) h4 in
      let h12 = has_back file 8 12 (big_bytes 4 head.begin) from_end (omega (arith, long head.begin)) h8 in
      let h16 = has_back file 12 16 (big_bytes n head.end) (big_bytes n head.seek_free ++ from_free) (omega (arith, four head.end)) h12 in
      let h20 = has_back file 16 20 (big_bytes n head.seek_free) from_free (omega (arith, four head.seek_free)) h16 in
      let h24 = has_back file 20 24 (big_bytes 4 head.nbytes_free) (big_bytes 4 head.nfree ++ from_name) (omega (arith, long head.nbytes_free)) h20 in
      let h28 = has_back file 24 28 (big_bytes 4 head.nfree) from_name (omega (arith, long head.nfree)) h24 in
      has_front file 28 (big_bytes 4 head.nbytes_name) behind_name h28

pub name_by_front : (file front seen : List ℕ) (head : FileHead) → Has file 0 front → seen ≡ front → BeginsAsHead head seen → head.version < 1000000 → HasWord file 28 head.nbytes_name
name_by_front file front seen head has same begins low =
    let all : Has file 0 (head_bytes head ++ begins.rest) = subst (Has file 0) (sym same ∙ begins.spelled) has in
    word_of_bytes file 28 head.nbytes_name begins.is_head.nbytes_name (name_in_bytes head (lt-leb 1000000 head.version low) file (has_front file 0 (head_bytes head) begins.rest all))

-- ---- the directory record

-- texts and what stands after them are within the bytes
directory_end : (k : ℕ) (bytes : List ℕ) (directory : At) → texts_end_at k bytes ≡ Ok directory → 1 ≤ length directory.rest → directory.place + length directory.rest ≤ length bytes
unfolding texts_end_at
directory_end k bytes directory e some =
    let s = standing_at 0 k bytes in
    let one = bind_ok (text_at s) (λ name. text_at name.1 >>= λ title. Ok title.1) directory e in
    let two = bind_ok (text_at one.0.1) (λ title. Ok title.1) directory one.2 in
    let same : two.0.1 ≡ directory = ok_is {E = Short} two.0.1 directory two.2 in
    let a = text_front s one.0.0 one.0.1 one.1 in
    let b = text_front one.0.1 two.0.0 two.0.1 two.1 in
    let no : ltb k 0 ≡ false = le-ltb k 0 (omega arith) in
    let rest : length s.rest ≡ length (drop (k - 0) bytes) = ap (λ (x : Bool). length (cond x [] (drop (k - 0) bytes))) no in
    let first : length s.rest ≡ length a.front + length one.0.1.rest = ap length a.parts ∙ length-append a.front one.0.1.rest in
    let second : length one.0.1.rest ≡ length b.front + length two.0.1.rest = ap length b.parts ∙ length-append b.front two.0.1.rest in
    let place : two.0.1.place ≡ directory.place = ap (λ (t : At). t.place) same in
    let left : length two.0.1.rest ≡ length directory.rest = ap (λ (t : At). length t.rest) same in
    omega (arith, a.place, b.place, first, second, rest, length-drop (k - 0) bytes, place, left, some)

-- it is within the first record
pub directory_fits : (segments : List Segment) (links : List Link) (file : List ℕ) (nbytes_name : ℕ) → HasChain links segments file → HasWord file 28 nbytes_name → HoldsDirectory nbytes_name segments
directory_fits segments links file nbytes_name chain word = subst (HoldsDirectory nbytes_name) (sym chain.same) (by links chain.chain)
  where
    by : (links : List Link) → IsChain links file → HoldsDirectory nbytes_name (map segment_of links)
    by [] c = let late = c.ends.later in absurd (omega (arith, late))
    by (GapAt p n ∷ links) c = let late = c.links_are.0.1.later in absurd (omega (arith, late, c.links_are.0.0))
    by (RecordAt p bytes ∷ links) c =
        let first = c.links_are.0.1.first refl in
        let place : nbytes_name ≡ first.directory.place = word_one file 28 nbytes_name first.directory.place word first.nbytes_name in
        let far = directory_end first.head.keylen bytes first.directory first.texts (omega (arith, first.room)) in
        omega (arith, place, far, first.room)
