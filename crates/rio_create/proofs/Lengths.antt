-- How long the parts of a new file are.
use Rattle.std.proofs.{Common.{◌≡◌, inl, ℕ, ◌+◌, ◌^◌, ◌<◌, ◌≤◌, Bool, cond, List, [], length, length-append, codes, sym, ap, ◌∙◌, arith}, lemmas.Bool.{lt-ltb}}
use Rattle.rio_num.specs.Text.{SpellsText, long_form, short_form, text_bytes}
use Rattle.rio_key.specs.Written.{padded_size}
use Rattle.rio_head.proofs.Lengths.{dir_parts, head_parts, length-dir, length-head}
use Rattle.rio_head.specs.{Written.{written_dir, written_head}, declared.dir.DirRecord.{DirRecord}, declared.head.FileHead.{FileHead}}
use Rattle.rio_machine.specs.Limits.{head_length}
use Rattle.rio_chain.specs.Record.{FitsWords, key_size}
use Rattle.rio_create.specs.NewFile.{file_texts, first_data, first_length, first_words, nbytes_name_of, new_directory}

-- a text of fewer than 255 bytes has one byte of length
pub short_is : (text : List ℕ) → length text < 255 → text_bytes text ≡ short_form text
short_is text lt = ap (λ (b : Bool). cond b (short_form text) (long_form text)) (lt-ltb (length text) 255 lt)

pub short_long : (text : List ℕ) → length text < 255 → length (text_bytes text) ≡ 1 + length text
short_long text lt = ap length (short_is text lt) ∙ omega arith

pub short_spelled : (text : List ℕ) → length text < 255 → SpellsText text (text_bytes text)
short_spelled text lt = inl (lt, short_is text lt)

pub dir_long : (d : DirRecord) → length d.uuid ≡ 18 → length (written_dir d) ≡ 60
dir_long d long = ap length (dir_parts d) ∙ sym (length-dir d long)

pub head_long : (h : FileHead) → length h.uuid ≡ 18 → length (written_head h) ≡ 100
head_long h long = ap length (head_parts h) ∙ sym (length-head h long)

module _ (name : List ℕ) (short : length name ≤ 200) where
  pub name_long : length (text_bytes name) ≡ 1 + length name
  name_long = short_long name (omega arith)

  pub texts_long : length (file_texts name) ≡ 2 + length name
  texts_long = omega (arith, length-append (text_bytes name) (text_bytes []), name_long)

  -- the key has the name and 34 bytes more
  pub key_long : head_length (codes "TFile") name ≡ 34 + length name
  key_long = omega (arith, name_long)

  pub nbytes_name_low : nbytes_name_of name ≤ 436
  nbytes_name_low = omega (arith, key_long, texts_long)

  pub first_low : first_length name ≤ 499
  first_low = omega (arith, nbytes_name_low)

  module _ (uuid : List ℕ) (datime : ℕ) (long : length uuid ≡ 18) where
    pub data_long : length (first_data name uuid datime) ≡ length (file_texts name) + 60
    data_long = length-append (file_texts name) (written_dir (new_directory uuid datime)) ∙ ap (λ (n : ℕ). length (file_texts name) + n) (dir_long (new_directory uuid datime) long)

    -- the first record's words and data are as long as the segment
    pub size_is : key_size (first_words name datime) + padded_size (key_size (first_words name datime)) (length (first_data name uuid datime)) ≡ first_length name
    size_is = omega (arith, data_long)

    pub words_fit : datime < 2 ^ 32 → FitsWords (first_words name datime) (length (first_data name uuid datime))
    words_fit low = record {
      place = omega arith;
      directory = omega arith;
      datime = low;
      cycle = omega arith;
      key = omega (arith, key_long);
      whole = omega (arith, size_is, first_low);
    }
