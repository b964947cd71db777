-- A new file is put together in memory.
use Rattle.std.proofs.Common.{◌≡◌, ℕ, ◌+◌, ◌-◌, ◌^◌, ◌<◌, ◌≤◌, List, [], ◌++◌, length, length-append, length-drop, take, drop, codes, ap, ◌∙◌, append_assoc, arith}
use Rattle.std.proofs.lemmas.List.{take_all}
use Rattle.byteorder.specs.Endian.{big_bytes}
use Rattle.rio_num.specs.Room.{Room, room_of, with_more}
use Rattle.rio_head.specs.{Uuid.{uuid_of_file}, Written.{FitsHead, written_dir, written_head}, declared.dir.DirRecord.{DirRecord}}
use Rattle.rio_head.specs.declared.head.FileHead.{FileHead}
use Rattle.rio_chain.specs.{Record.{record_bytes}, declared.key_words.KeyWords.{KeyWords}}
use Rattle.rio_create.specs.NewFile.{file_texts, first_length, first_record, first_words, nbytes_name_of, new_directory, new_file, new_head}
use Rattle.rio_create.proofs.{Lengths.{first_low, head_long}, NewFiles.{first_size}, Uuids.{length-uuid}}

-- the first record by what was put into its data
pub first_is : (name uuid : List ℕ) (datime : ℕ) (words : KeyWords) (texts filled : Room) (directory : DirRecord) (contents bytes : List ℕ) → words ≡ first_words name datime → texts.bytes ≡ file_texts name → directory ≡ new_directory uuid datime
    → filled ≡ with_more texts (written_dir directory) → contents ≡ filled.bytes → bytes ≡ record_bytes words contents → bytes ≡ first_record name uuid datime
first_is name uuid datime words texts filled directory contents bytes words_are texts_are directory_is filled_is contents_are is =
    let all : contents ≡ file_texts name ++ written_dir (new_directory uuid datime) =
    contents_are ∙ ap (λ (r : Room). r.bytes) filled_is ∙ (λ i. texts_are i ++ written_dir (directory_is i)) in
    is ∙ (λ i. record_bytes (words_are i) (all i))

pub head_fits : (nbytes_name : ℕ) (uuid : List ℕ) → FitsHead (new_head nbytes_name uuid)
head_fits nbytes_name uuid = record { end = omega arith; seek_free = omega arith; seek_info = omega arith }

module _ (name : List ℕ) (datime n : ℕ) (head : FileHead) (first : List ℕ) (none headed filled ended : Room) (name_is : n ≡ nbytes_name_of name) (head_is : head ≡ new_head n (uuid_of_file name))
    (first_are : first ≡ first_record name (uuid_of_file name) datime) (began : none ≡ room_of []) (header : headed ≡ with_more none (written_head head)) (put : filled ≡ with_more headed first)
    (end : ended ≡ with_more filled (big_bytes 4 0)) where
  -- the header, the first record and the zero word
  all_is : ended.bytes ≡ written_head head ++ (first ++ big_bytes 4 0)
  all_is = ap (λ (r : Room). r.bytes) end ∙ ap (λ (r : Room). r.bytes ++ big_bytes 4 0) put ∙ ap (λ (r : Room). (r.bytes ++ first) ++ big_bytes 4 0) header
      ∙ ap (λ (r : Room). ((r.bytes ++ written_head head) ++ first) ++ big_bytes 4 0) began ∙ append_assoc (written_head head) first (big_bytes 4 0)

  same_head : head ≡ new_head (nbytes_name_of name) (uuid_of_file name)
  same_head = head_is ∙ ap (λ (k : ℕ). new_head k (uuid_of_file name)) name_is

  pub drafted : ended.bytes ≡ new_file name datime
  unfolding new_file
  drafted = all_is ∙ (λ i. written_head (same_head i) ++ (first_are i ++ big_bytes 4 0))

  module _ (short : length name ≤ 200) (low : datime < 2 ^ 32) where
    pub drafted_long : length ended.bytes ≡ 104 + first_length name
    drafted_long =
        let long = length-uuid name in
        let front : length (written_head head) ≡ 100 = ap (λ (h : FileHead). length (written_head h)) same_head ∙ head_long (new_head (nbytes_name_of name) (uuid_of_file name)) long in
        let size : length first ≡ first_length name = ap length first_are ∙ first_size name (uuid_of_file name) datime short long low in
        omega (arith, ap length all_is, length-append (written_head head) (first ++ big_bytes 4 0), length-append first (big_bytes 4 0), front, size)

    pub drafted_low : length ended.bytes ≤ 1000
    drafted_low = omega (arith, drafted_long, first_low name short)

-- the bytes behind the word root, with it in front
pub rooted : (name : List ℕ) (datime : ℕ) (bytes : List ℕ) → bytes ≡ new_file name datime → codes "root" ++ take (length bytes - 4) (drop 4 bytes) ≡ new_file name datime
unfolding new_file
rooted name datime bytes is =
    let all : take (length bytes - 4) (drop 4 bytes) ≡ drop 4 bytes = take_all (length bytes - 4) (drop 4 bytes) (omega (arith, length-drop 4 bytes)) in
    ap (λ (b : List ℕ). codes "root" ++ b) (all ∙ ap (drop 4) is)
