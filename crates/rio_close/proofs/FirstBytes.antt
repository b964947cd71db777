-- The records of a file whose first record has other bytes stand for the same state.
use Rattle.std.proofs.Common.{◌≡◌, ℕ, ◌∙◌, List, ◌∷◌, codes, Bool, true, false, cond, ◌==◌, ◌&&◌, ◌||◌, length, Option, Some, refl, sym, ap, subst}
use Rattle.std.specs.{Prelude.{is_some, option_and_then}, List.{cons_option, find}, Str.{bytes_eq}}
use Rattle.rio_num.specs.Reading.{some_if}
use Rattle.rio_key.specs.declared.head.KeyHead.{KeyHead}
use Rattle.rio_chain.proofs.Keys.{spelled_one}
use Rattle.rio_chain.specs.Segments.{IsFirst, IsRecord, Link, RecordAt}
use Rattle.rio_machine.specs.State.{State}
use Rattle.rio_state.specs.{Contents.{file_classes}, KeyedRecords.{KeyedRecord, has_class, info_key, is_internal, keyed_records, record_at, top_keys, tree_records}}
use Rattle.rio_state.specs.{OneMore.{keyed_bytes}, Reads.{AreRecordsOf, StandsForState}, Trees.{basket_bytes, bytes_as_said, tree_of}}
use Rattle.rio_state.proofs.{Insertion.{here}, MoreRecords.{keyed_link, own_key}, Stays.{info_same, not_info, not_top, tops_same}}
use Rattle.rio_state.proofs.TreesSame.{all_agree, among_new, among_old, found_agree, tree_same}

-- a whole record is the first of those that follow
pub first_keyed : (place : ℕ) (bytes : List ℕ) (others : List Link) (w : IsRecord place bytes) → keyed_records (RecordAt place bytes ∷ others) ≡ keyed_bytes w.head bytes ∷ keyed_records others
first_keyed place bytes others w = ap (λ (o : Option KeyedRecord). cons_option o (keyed_records others)) (keyed_link place bytes w.head (own_key place bytes w))

-- the class of a file's first record
pub first_class : (file bytes : List ℕ) (w : IsRecord 100 bytes) → IsFirst file bytes → w.head.class ≡ codes "TFile"
first_class file bytes w f = ap (λ (h : KeyHead). h.class) (sym (spelled_one f.head w.head bytes f.key w.key)) ∙ f.class

module _ (head : KeyHead) (class : head.class ≡ codes "TFile") (a b : List ℕ) (records : List KeyedRecord) where
  abbrev one : List KeyedRecord
  one = keyed_bytes head a ∷ records

  abbrev two : List KeyedRecord
  two = keyed_bytes head b ∷ records

  -- the file itself needs it, and it is no basket
  internal : is_internal head ≡ true
  internal = ap (λ (c : List ℕ). bytes_eq c (codes "TFile") || bytes_eq c (codes "TBasket")) class

  no_basket : has_class (codes "TBasket") head ≡ false
  no_basket = ap (λ (c : List ℕ). bytes_eq c (codes "TBasket")) class

  pub tops_change : top_keys two ≡ top_keys one
  tops_change =
      tops_same records two (keyed_bytes head b) (here (keyed_bytes head b) records) (not_top head internal)
      ∙ sym (tops_same records one (keyed_bytes head a) (here (keyed_bytes head a) records) (not_top head internal))

  pub info_changes : info_key two ≡ info_key one
  info_changes =
      info_same records two (keyed_bytes head b) (here (keyed_bytes head b) records) (not_info head internal)
      ∙ sym (info_same records one (keyed_bytes head a) (here (keyed_bytes head a) records) (not_info head internal))

  -- what its bytes are is in no basket
  said_same : (at : _) → bytes_as_said at (keyed_bytes head a) ≡ bytes_as_said at (keyed_bytes head b)
  said_same at =
      ap (λ (c : Bool). some_if (c && (length a == at.bytes)) a) no_basket
      ∙ sym (ap (λ (c : Bool). some_if (c && (length b == at.bytes)) b) no_basket)

  basket_same : (at : _) → basket_bytes (record_at one) at ≡ basket_bytes (record_at two) at
  unfolding basket_bytes
  basket_same at = by (head.seek == at.seek)
    where
      others : Option KeyedRecord
      others = find (λ r. r.head.seek == at.seek) records

      by : (c : Bool) → option_and_then (bytes_as_said at) (cond c (Some (keyed_bytes head a)) others) ≡ option_and_then (bytes_as_said at) (cond c (Some (keyed_bytes head b)) others)
      by true = said_same at
      by false = refl

  -- so each tree is the same
  trees_same : (info : Option KeyedRecord) (tops : List KeyedRecord) (r : KeyedRecord)
      → tree_of (among_old (file_classes info) (tree_records tops) one two r) r ≡ tree_of (among_new (file_classes info) (tree_records tops) one two r) r
  trees_same info tops r = tree_same (file_classes info) (tree_records tops) one two r (λ at names. basket_same at)

  among_others : (info : Option KeyedRecord) (tops : List KeyedRecord) (m : State) → StandsForState one info tops m → StandsForState two info tops m
  among_others info tops m s =
      let headers = tree_records tops in
      let old = λ (r : KeyedRecord). tree_of (among_old (file_classes info) headers one two r) r in
      let new = λ (r : KeyedRecord). tree_of (among_new (file_classes info) headers one two r) r in
      record {
        listed = s.listed;
        classes = s.classes;
        named = s.named;
        distinct = s.distinct;
        apart = s.apart;
        readable = s.readable;
        objects = s.objects;
        tree_readable = sym (all_agree (λ r. is_some (old r)) (λ r. is_some (new r)) headers (λ r i. ap is_some (trees_same info tops r))) ∙ s.tree_readable;
        trees = λ name. s.trees name ∙ found_agree old new (λ r. bytes_eq r.head.name name) headers (λ r i. trees_same info tops r);
      }

  pub records_change : (m : State) → AreRecordsOf one m → AreRecordsOf two m
  records_change m is =
      let stand = among_others (info_key one) (top_keys one) m is.stand in
      let with_tops = subst (λ (ts : List KeyedRecord). StandsForState two (info_key one) ts m) (sym tops_change) stand in
      record { here = is.here; stand = subst (λ (o : Option KeyedRecord). StandsForState two o (top_keys two) m) (sym info_changes) with_tops }
