-- A file that begins with the bytes of a new one.
use Rattle.std.proofs.Common.{◌≡◌, ℕ, ◌+◌, ◌-◌, ◌^◌, ◌<◌, ◌≤◌, ltb, cond, Bool, false, List, [], ◌∷◌, ◌++◌, length, drop, codes, Ok, Some, slice_get, refl, sym, ap, subst, ◌∙◌, append_assoc, length-append, arith}
use Rattle.std.proofs.lemmas.Bool.{le-ltb}
use Rattle.std.specs.Prelude.{MatchBool, replicate}
use Rattle.byteorder.specs.Endian.{big_bytes}
use Rattle.rio_num.specs.{At.{At, standing_at}, Text.{text_bytes}}
use Rattle.rio_num.proofs.{ReadLaws.{text_again}, Plain.{standing}}
use Rattle.rio_host.specs.{Image.{Has}, ImageLaws.{slice_get-drop}}
use Rattle.rio_host.proofs.Images.{has_back, has_front, has_length}
use Rattle.rio_head.specs.{Head.{IsHead, head_at, head_bytes}, Written.{written_dir, written_head}, declared.dir.DirRecord.{DirRecord}}
use Rattle.rio_head.specs.declared.head.FileHead.{FileHead}
use Rattle.rio_head.proofs.HeadAgain.{head_only}
use Rattle.rio_chain.specs.{Chains.{HasChain}, Segments.{HasWord, HoldsRecord, IsChain, IsFirst, texts_end_at}}
use Rattle.rio_chain.specs.declared.segment.Segment.{Segment, TheVariants.{Record}}
use Rattle.rio_chain.proofs.Words.{word_of_bytes, word_one}
use Rattle.rio_chain.specs.{NewRecords.{IsNewRecord}, Record.{key_size}}
use Rattle.rio_machine.specs.State.{empty_state}
use Rattle.rio_state.specs.{Left.{HasOpenHead, IsLeftAs, open_end}, Reads.{ReadsAsMade}}
use Rattle.rio_create.specs.NewFile.{file_bytes, file_texts, first_data, first_record, first_segments, first_words, nbytes_name_of, new_directory, new_head}
use Rattle.rio_create.proofs.{Born.{begins_with, root_born}, Lengths.{dir_long, head_long, nbytes_name_low, short_spelled}}
use Rattle.rio_create.proofs.NewFiles.{first_size, head_of_first, links, made, new_records}

-- what stands behind the first bytes of some that a file has
has_drop : (file : List ℕ) (place k : ℕ) (bytes : List ℕ) → Has file place bytes → Has file (place + k) (drop k bytes)
has_drop file place k bytes has i x at =
    subst (λ (j : ℕ). slice_get file j ≡ Some x) (let e : place + (k + i) ≡ place + k + i = omega arith in e) (has (k + i) x (sym (slice_get-drop k i (k + i) bytes refl) ∙ at))

stands_at : (k : ℕ) (bytes rest : List ℕ) → drop k bytes ≡ rest → standing_at 0 k bytes ≡ standing k rest
stands_at k bytes rest is =
    let within : ltb k 0 ≡ false = le-ltb k 0 (omega arith) in
    let same : k - 0 ≡ k = omega arith in
    ap (λ (b : Bool). standing k (cond b [] (drop (k - 0) bytes))) within ∙ ap (λ (m : ℕ). standing k (drop m bytes)) same ∙ ap (standing k) is

module _ (name uuid : List ℕ) (datime : ℕ) (short : length name ≤ 200) (long : length uuid ≡ 18) (low : datime < 2 ^ 32) where
  abbrev head : FileHead
  head = new_head (nbytes_name_of name) uuid

  abbrev directory : DirRecord
  directory = new_directory uuid datime

  abbrev first : List ℕ
  first = first_record name uuid datime

  abbrev first_is : IsNewRecord (first_words name datime) (first_data name uuid datime)
  first_is = made name uuid datime short long low

  abbrev zeros : List ℕ
  zeros = replicate first_is.zeros 0

  -- ---- the first record

  -- the texts and the directory record stand behind its key
  behind : drop (key_size (first_words name datime)) first ≡ text_bytes name ++ (text_bytes [] ++ (written_dir directory ++ zeros))
  behind = first_is.contents_are ∙ append_assoc (file_texts name) (written_dir directory) zeros ∙ append_assoc (text_bytes name) (text_bytes []) (written_dir directory ++ zeros)

  abbrev directory_at : At
  directory_at = standing (key_size (first_words name datime) + length (text_bytes name) + length (text_bytes [])) (written_dir directory ++ zeros)

  texts_end : texts_end_at (key_size (first_words name datime)) first ≡ Ok directory_at
  unfolding texts_end_at
  texts_end =
      let k = key_size (first_words name datime) in
      let r2 = written_dir directory ++ zeros in
      let r1 = text_bytes [] ++ r2 in
      let e1 = stands_at k first (text_bytes name ++ r1) behind in
      let e2 = text_again name (text_bytes name) k r1 (short_spelled name (omega (arith, short))) in
      let e3 = text_again [] (text_bytes []) (k + length (text_bytes name)) r2 (short_spelled [] (omega arith)) in
      rw (e1, e2, e3) refl

  place_is : directory_at.place ≡ nbytes_name_of name
  place_is = omega (arith, length-append (text_bytes name) (text_bytes []))

  is_head : IsHead head
  is_head = record {
    version = omega arith;
    begin = refl;
    end = omega arith;
    seek_free = omega arith;
    nbytes_free = omega arith;
    nfree = omega arith;
    nbytes_name = omega (arith, nbytes_name_low name short);
    units = refl;
    compress = omega arith;
    seek_info = omega arith;
    nbytes_info = omega arith;
    uuid = long;
  }

  -- the parts of the header
  abbrev before_end : List ℕ
  before_end = codes "root" ++ (big_bytes 4 60000 ++ big_bytes 4 100)

  abbrev before_name : List ℕ
  before_name = before_end ++ (big_bytes 4 open_end ++ (big_bytes 4 0 ++ (big_bytes 4 0 ++ big_bytes 4 0)))

  abbrev behind_name : List ℕ
  behind_name = big_bytes 1 4 ++ (big_bytes 4 0 ++ (big_bytes 4 0 ++ (big_bytes 4 0 ++ (uuid ++ replicate 37 0))))

  abbrev behind_end : List ℕ
  behind_end = big_bytes 4 0 ++ (big_bytes 4 0 ++ (big_bytes 4 0 ++ (big_bytes 4 (nbytes_name_of name) ++ behind_name)))

  module _ (file : List ℕ) (has : Has file 0 (file_bytes name uuid datime)) where
    has_head : Has file 0 (written_head head)
    has_head = has_front file 0 (written_head head) (first ++ big_bytes 4 0) has

    at_first : Has file 100 (first ++ big_bytes 4 0)
    at_first = has_back file 0 100 (written_head head) (first ++ big_bytes 4 0) (omega (arith, head_long head long)) has

    has_root : Has file 0 (codes "root")
    has_root = has_front file 0 (codes "root") (drop 4 (written_head head)) has_head

    -- ---- its header

    head_read : head_at file ≡ Ok head
    head_read =
        let within : length (written_head head) ≤ length file = omega (arith, head_long head long, has_length file 0 (written_head head) 99 (omega (arith, head_long head long)) has_head) in
        let rest = drop (length (written_head head)) file in
        let spelled = begins_with file (written_head head) within has_head in
        head_only head 0 file (record { is_head = is_head; rest = replicate 37 0 ++ rest; spelled = spelled ∙ append_assoc (head_bytes head) (replicate 37 0) rest })

    pub end_word : HasWord file 12 open_end
    end_word = word_of_bytes file 12 open_end (omega arith) (has_front file 12 (big_bytes 4 open_end) behind_end (has_back file 0 12 before_end (big_bytes 4 open_end ++ behind_end) refl has_head))

    name_word : HasWord file 28 (nbytes_name_of name)
    name_word =
        word_of_bytes file 28 (nbytes_name_of name) (omega (arith, nbytes_name_low name short))
        (has_front file 28 (big_bytes 4 (nbytes_name_of name)) behind_name (has_back file 0 28 before_name (big_bytes 4 (nbytes_name_of name) ++ behind_name) refl has_head))

    pub open_head : HasOpenHead file (nbytes_name_of name)
    open_head = record { head = head; head_is = head_read; small = refl; end = refl; name = refl }

    -- ---- its segments

    is_first : IsFirst file first
    is_first = record {
      head = head_of_first name uuid datime short long low;
      key = first_is.key;
      class = refl;
      directory = directory_at;
      texts = texts_end;
      room = omega (arith, dir_long directory long, length-append (written_dir directory) zeros);
      small = omega arith;
      nbytes_name = subst (HasWord file 28) (sym place_is) name_word;
    }

    first_holds : HoldsRecord file 100 first
    first_holds = record { there = has_front file 100 first (big_bytes 4 0) at_first; whole = first_is.whole; first = λ is. is_first }

    chain : IsChain (links name uuid datime short long low) file
    chain = record {
      links_are = ((refl, first_holds), tt);
      ends = record {
        later = omega (arith, first_size name uuid datime short long low);
        zero_word = word_of_bytes file (100 + length first) 0 (omega arith) (has_back file 100 (100 + length first) first (big_bytes 4 0) refl at_first);
      };
    }

    one_record : ℕ → List Segment
    one_record n = Record 100 n ∷ []

    pub new_chain : HasChain (links name uuid datime short long low) (first_segments name) file
    unfolding one_record
    new_chain = record { chain = chain; same = ap one_record (sym (first_size name uuid datime short long low)) }

    -- the directory record behind the first record's key and texts
    pub has_directory : Has file (100 + nbytes_name_of name) (written_dir directory)
    has_directory =
        let k = key_size (first_words name datime) in
        let texts : Has file (100 + k) (text_bytes name ++ (text_bytes [] ++ (written_dir directory ++ zeros))) = subst (Has file (100 + k)) behind (has_drop file 100 k first first_holds.there) in
        let title = has_back file (100 + k) (100 + k + length (text_bytes name)) (text_bytes name) (text_bytes [] ++ (written_dir directory ++ zeros)) refl texts in
        let place : 100 + nbytes_name_of name ≡ 100 + k + length (text_bytes name) + length (text_bytes []) = omega (arith, place_is) in
        has_front file (100 + nbytes_name_of name) (written_dir directory) zeros (has_back file (100 + k + length (text_bytes name)) (100 + nbytes_name_of name) (text_bytes []) (written_dir directory ++ zeros) place title)

    -- ---- what it reads as

    as_made : ReadsAsMade file empty_state
    as_made = record { head = head; head_is = head_read; small = refl; links = links name uuid datime short long low; chain = chain; records = new_records name uuid datime short long low }

    pub new_left : IsLeftAs empty_state file
    new_left = record {
      reads = subst (λ (b : Bool). MatchBool b (empty_state ≡ empty_state) (ReadsAsMade file empty_state)) (sym (root_born file has_root)) as_made;
      closed = λ word root has_word not_open. absurd (not_open (word_one file 12 word open_end has_word end_word));
    }
