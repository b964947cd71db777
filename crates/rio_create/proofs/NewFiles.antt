-- What a new file's bytes stand for.
use Rattle.std.proofs.Common.{◌≡◌, ℕ, ◌+◌, ◌^◌, ◌<◌, ◌≤◌, List, [], ◌∷◌, length, Result, None, refl, sym, ap, subst, ◌∙◌, arith}
use Rattle.std.specs.List.{cons_option, sum_by}
use Rattle.rio_key.specs.{declared.head.KeyHead.{KeyHead}, declared.fault.KeyFault.{KeyFault}}
use Rattle.rio_chain.specs.Segments.{Link, RecordAt}
use Rattle.rio_chain.specs.{NewRecords.{IsNewRecord}, Record.{new_key}}
use Rattle.rio_chain.proofs.Records.{are_new_records}
use Rattle.rio_machine.specs.State.{empty_state}
use Rattle.rio_state.specs.Closing.{KeptRecords, closing_lengths, free_length, held_beside, held_of, held_with, item_heads, kept_in, kept_of, kept_with, list_length, name_in}
use Rattle.rio_state.specs.{DirectoryKeys.{AreKeysOf}, KeyedRecords.{KeyedRecord, info_key, keyed_records, record_with_head, top_keys, tree_records}, Reads.{AreRecordsOf}, TreeLengths.{none_pending, put_among}}
use Rattle.rio_state.proofs.EmptyState.{none_counts}
use Rattle.rio_create.specs.NewFile.{first_data, first_length, first_record, first_words}
use Rattle.rio_create.proofs.Lengths.{first_low, key_long, size_is, words_fit}

-- ---- the records

-- the one record of a new file
abbrev first_only : KeyHead → List ℕ → List KeyedRecord
first_only head bytes = record { head = head; bytes = bytes } ∷ []

-- what is kept of it
abbrev kept : List ℕ → KeptRecords
kept name = record { name = name; heads = []; count = 1; trees = [] }

-- by the key that the words make, whatever its lengths are
module _ (name : List ℕ) (datime n : ℕ) (bytes : List ℕ) where
  abbrev first_key : KeyHead
  first_key = new_key (first_words name datime) n

  only_stands : AreRecordsOf (first_only first_key bytes) empty_state
  only_stands = none_counts (first_only first_key bytes) refl refl refl

  only_keys : AreKeysOf (first_only first_key bytes) []
  only_keys = record { ordered = tt; each = λ head. (λ c. c, λ c. c) }

  only_info : info_key (first_only first_key bytes) ≡ None
  only_info = refl

module _ (name uuid : List ℕ) (datime : ℕ) (short : length name ≤ 200) (long : length uuid ≡ 18) (low : datime < 2 ^ 32) where
  abbrev first : List ℕ
  first = first_record name uuid datime

  abbrev count : ℕ
  count = length (first_data name uuid datime)

  abbrev pub head_of_first : KeyHead
  head_of_first = new_key (first_words name datime) count

  pub made : IsNewRecord (first_words name datime) (first_data name uuid datime)
  made = are_new_records (first_words name datime) (first_data name uuid datime) (words_fit name short uuid datime long low)

  pub first_size : length (first_record name uuid datime) ≡ first_length name
  first_size = made.size ∙ size_is name short uuid datime long

  abbrev pub links : List Link
  links = RecordAt 100 (first_record name uuid datime) ∷ []

  keyed : keyed_records links ≡ first_only head_of_first first
  keyed = ap (λ (r : Result KeyHead KeyFault). cons_option (record_with_head first r) []) (made.key_read 100)

  pub new_records : AreRecordsOf (keyed_records links) empty_state
  new_records = subst (λ (rs : List KeyedRecord). AreRecordsOf rs empty_state) (sym keyed) (only_stands name datime count first)

  pub new_keys : AreKeysOf (keyed_records links) []
  new_keys = subst (λ (rs : List KeyedRecord). AreKeysOf rs []) (sym keyed) (only_keys name datime count first)

  pub new_info : info_key (keyed_records links) ≡ None
  new_info = ap info_key keyed ∙ only_info name datime count first

  abbrev keep : List KeyedRecord → KeptRecords
  keep records = let tops = top_keys records in kept_of none_pending (name_in records) (info_key records) (item_heads tops) (tree_records tops)

  pub new_kept : kept_in links ≡ kept name
  unfolding kept_with put_among
  new_kept = ap keep keyed

  pub new_held : held_of links ≤ 10000
  unfolding held_with
  new_held =
      let closing : sum_by (λ n. n + 3) (closing_lengths (kept_in links)) ≡ list_length (kept name) + 3 + (free_length (kept name) + 3) = ap (λ (k : KeptRecords). sum_by (λ n. n + 3) (closing_lengths k)) new_kept ∙ omega arith in
      let beside : held_beside (kept_in links) ≡ 0 = ap held_beside new_kept in
      omega (arith, closing, beside, key_long name short, first_size, first_low name short)
