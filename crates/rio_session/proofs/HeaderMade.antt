-- The record of a tree's header, of data that are equal.
use Rattle.std.proofs.Common.{◌≡◌, ℕ, ◌-◌, ◌≤◌, ◌<◌, ◌^◌, List, [], codes, length, Result, IfOk, sym, subst, ap, ◌∙◌, refl, arith}
use Rattle.rio_num.specs.Text.{text_bytes}
use Rattle.rio_num.proofs.TextLengths.{short_text_bytes}
use Rattle.rio_format.specs.{declared.class.ClassDef.{ClassDef}, declared.value.Value.{Value}, TreeClasses.{tree_classes}, Written.{written_form}}
use Rattle.rio_machine.specs.Limits.{head_length}
use Rattle.rio_chain.specs.{Record.{FitsWords, new_key, record_bytes}, Segments.{IsRecord}, declared.record.NewRecord.{NewRecord}, declared.key_words.KeyWords.{KeyWords}}
use Rattle.rio_tree.specs.{HeaderLength.{basket_count, header_length}, WrittenLaws.{stated_defs}, WrittenTree.{tree_value_of}, declared.head.TreeHead.{TreeHead}}
use Rattle.rio_tree.proofs.HeaderLengths.{header_length_is_known}
use Rattle.rio_effect.specs.TreeRecords.{header_data, header_key, header_record, header_words}

pub same_written : (classes : List ClassDef) (v : Value) (start : ℕ) (name : List ℕ) (head : TreeHead) → classes ≡ tree_classes → v ≡ tree_value_of name head → written_form classes start v ≡ written_form tree_classes start (tree_value_of name head)
same_written classes v start name head a b = λ i. written_form (a i) start (b i)

pub written_long : (classes : List ClassDef) (v : Value) (start : ℕ) (name : List ℕ) (head : TreeHead) → classes ≡ tree_classes → v ≡ tree_value_of name head
    → length (written_form classes start v) ≡ header_length name (stated_defs head.branches) (basket_count head)
written_long classes v start name head a b = ap length (same_written classes v start name head a b) ∙ header_length_is_known start name head

pub key_low : (name : List ℕ) → length name ≤ 100 → head_length (codes "TTree") name ≤ 134
key_low name short =
    let class : length (text_bytes (codes "TTree")) ≡ 6 = refl in
    let title : length (text_bytes []) ≡ 1 = refl in
    omega (arith, class, title, short_text_bytes name short)

module _ (place datime cycle : ℕ) (name : List ℕ) (head : TreeHead) (words : KeyWords) (is : words ≡ header_words place datime name cycle) (contents : List ℕ) (start : ℕ) (at : start ≡ head_length (codes "TTree") name)
    (made : contents ≡ written_form tree_classes start (tree_value_of name head)) where
  pub data_is : contents ≡ header_data (header_words place datime name cycle) name head
  data_is = made ∙ ap (λ (n : ℕ). written_form tree_classes n (tree_value_of name head)) at

  pub fits_words : place < 2 ^ 32 → datime < 2 ^ 32 → cycle < 2 ^ 16 → length name ≤ 100 → header_length name (stated_defs head.branches) (basket_count head) < 2 ^ 30 - 200 → FitsWords words (length contents)
  fits_words low time small short fits =
      let long : length contents ≡ header_length name (stated_defs head.branches) (basket_count head) = ap length made ∙ header_length_is_known start name head in
      let key = key_low name short in
      subst (λ (w : KeyWords). FitsWords w (length contents)) (sym is) (record {
        place = low;
        directory = omega arith;
        datime = time;
        cycle = small;
        key = omega (arith, key);
        whole = omega (arith, key, long, fits);
      })

  pub made_key : {E : Type 0} (r : Result NewRecord E) → IfOk r (λ made. made.head ≡ new_key words (length contents)) → IfOk r (λ made. made.head ≡ header_key place datime name cycle head)
  unfolding header_key
  made_key r m_is = subst (λ (x : KeyWords × List ℕ). IfOk r (λ m. m.head ≡ new_key x.0 (length x.1))) (λ i. (is i, data_is i)) m_is

  pub made_record : {E : Type 0} (r : Result NewRecord E) → IfOk r (λ made. made.bytes.bytes ≡ record_bytes words contents) → IfOk r (λ made. made.bytes.bytes ≡ header_record place datime name cycle head)
  unfolding header_record
  made_record r m_is = subst (λ (x : KeyWords × List ℕ). IfOk r (λ m. m.bytes.bytes ≡ record_bytes x.0 x.1)) (λ i. (is i, data_is i)) m_is

  pub made_whole : {E : Type 0} (r : Result NewRecord E) → IfOk r (λ made. IsRecord words.place made.bytes.bytes) → IfOk r (λ made. IsRecord place made.bytes.bytes)
  made_whole r m_is = subst (λ (w : KeyWords). IfOk r (λ m. IsRecord w.place m.bytes.bytes)) is m_is
