-- The record of the list of all classes, as it is made.
use Rattle.std.proofs.Common.{◌≡◌, ℕ, ◌+◌, ◌^◌, ◌<◌, ◌≤◌, List, length, Result, Ok, Err, IfOk, refl, sym, ap, subst, ◌∙◌, arith}
use Rattle.rio_format.specs.{Descriptions.{description_classes}, TreeClasses.{written_classes}, WrittenList.{class_list_value}}
use Rattle.rio_chain.specs.{NewRecords.{IsNewRecord}, Record.{FitsWords, key_size, new_key, record_bytes}, Segments.{IsRecord}, declared.key_words.KeyWords.{KeyWords}}
use Rattle.rio_chain.specs.declared.record.NewRecord.{NewRecord}
use Rattle.rio_chain.proofs.Records.{are_new_records}
use Rattle.rio_state.specs.Closing.{padded_length}
use Rattle.rio_step.specs.Costs.{info_size}
use Rattle.rio_effect.specs.ClassRecord.{list_data, list_key, list_key_size, list_record, list_words, next_list_cycle}
use Rattle.rio_effect.proofs.{PutEffect.{padded_as}}
use Rattle.rio_tree.proofs.WrittenLengths.{written_length}
use Rattle.rio_session.specs.{Lists.{CanBeListedAt, IsListRecord}, SessionState.{SessionState}}

-- what its key says, and its data
abbrev pub words_for : SessionState → ℕ → KeyWords
words_for s place = list_words place s.datime (next_list_cycle s.info)

abbrev pub data_for : SessionState → ℕ → List ℕ
data_for s place = list_data (words_for s place) s.classes

module _ (s : SessionState) (place : ℕ) (at : CanBeListedAt s place) (soon : s.datime < 2 ^ 32) (few : length s.classes ≤ 4096) where
  keylen_is : key_size (words_for s place) ≡ 64
  keylen_is = refl

  data_short : length (data_for s place) ≤ 16777216
  data_short = at.short (key_size (words_for s place))

  -- the list is as long wherever it begins
  same_length : length (data_for s place) ≡ info_size s.classes
  same_length = written_length description_classes (key_size (words_for s place)) 0 (class_list_value (written_classes s.classes))

  pub list_fits : FitsWords (words_for s place) (length (data_for s place))
  list_fits = record {
    place = at.low;
    directory = omega arith;
    datime = soon;
    cycle = omega (arith, at.cycle, few);
    key = omega (arith, keylen_is);
    whole = omega (arith, keylen_is, data_short);
  }

  list_long : length (record_bytes (words_for s place) (data_for s place)) ≡ padded_length (list_key_size + info_size s.classes)
  list_long =
      let new : IsNewRecord (words_for s place) (data_for s place) = are_new_records (words_for s place) (data_for s place) list_fits in
      new.size ∙ padded_as (key_size (words_for s place)) (length (data_for s place)) (info_size s.classes) same_length

  -- what is made of words and data that are equal
  module _ (words : KeyWords) (contents : List ℕ) (w : words ≡ words_for s place) (d : contents ≡ data_for s place) where
    pub made_fits : FitsWords words (length contents)
    made_fits = subst (λ (x : KeyWords × List ℕ). FitsWords x.0 (length x.1)) (λ i. (sym w i, sym d i)) list_fits

    pub made_list : {E : Type 0} (r : Result NewRecord E) → IfOk r (λ made. made.head ≡ new_key words (length contents)) → IfOk r (λ made. made.bytes.bytes ≡ record_bytes words contents)
        → IfOk r (λ made. 4 ≤ made.bytes.spare) → IfOk r (λ made. IsRecord words.place made.bytes.bytes) → IfOk r (IsListRecord s place)
    unfolding list_key list_record
    made_list (Err e) head bytes spare whole = tt
    made_list (Ok made) head bytes spare whole =
        let all : made.bytes.bytes ≡ record_bytes (words_for s place) (data_for s place) = bytes ∙ (λ i. record_bytes (w i) (d i)) in
        record {
          head = head ∙ (λ i. new_key (w i) (length (d i)));
          bytes = all;
          spare = spare;
          whole = subst (λ (x : KeyWords). IsRecord x.place made.bytes.bytes) w whole;
          long = ap length all ∙ list_long;
        }
