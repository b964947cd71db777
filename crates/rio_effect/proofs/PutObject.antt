-- The record of an object that a put adds holds the object.
use Rattle.std.proofs.Common.{◌≡◌, ℕ, ◌^◌, ◌<◌, ◌≤◌, ◌∙◌, List, [], ◌++◌, length, replicate, Bool, true, false, not, Option, Some, None, Ok, refl, ap, arith}
use Rattle.std.proofs.lemmas.Bool.{and_from, ltb-false, not-false, or_parts}
use Rattle.std.specs.{Prelude.{if◌then◌else◌, unwrap_or}, Option.{option_map_or}}
use Rattle.rio_num.specs.{Text.{text_bytes}, Word.{is_item_text}, Room.{is_padding}}
use Rattle.rio_num.proofs.{Puts.{zeros_pad}, TextLengths.{short_text_bytes}}
use Rattle.rio_format.specs.{declared.class.ClassDef.{ClassDef}, Depth.{depth_of}, declared.value.Value.{Value}, ReaderState.{ReaderState}}
use Rattle.rio_key.specs.Written.{padded_size}
use Rattle.rio_format.specs.{Fits.{fits}, Objects.{SpellsObject, depth_limit, first_at}, Slots.{can_be_put}, WrittenBytes.{length_limit}}
use Rattle.rio_format.proofs.{ObjectLaws.{spelled_is_read}, WrittenValues.{written_is_spelled}}
use Rattle.rio_model.specs.StateClasses.{StateClasses}
use Rattle.rio_machine.specs.{Limits.{cycle_limit, data_length, has_long_list, is_too_deep, is_too_long}, State.{State, names_tree, next_cycle}}
use Rattle.rio_machine.specs.declared.command.Command.TheVariants.{Put}
use Rattle.rio_machine.specs.declared.refusal.Refusal.TheVariants.{BadName, NameIsTree, NoSuchClass, CycleLimit, TooLarge, TooDeep, TooMany}
use Rattle.rio_chain.specs.{Record.{FitsWords, key_size, new_key, record_bytes}, NewRecords.{IsNewRecord}, declared.key_words.KeyWords.{KeyWords}}
use Rattle.rio_chain.proofs.Records.{are_new_records}
use Rattle.rio_state.specs.{Contents.{can_be_stored, object_in, stored_in}, KeyedRecords.{KeyedRecord, record_data}}
use Rattle.rio_step.proofs.{ApartLaws.{none_at, not_refused}, FitStays.{unrefused_fit}}
use Rattle.rio_step.specs.Refusing.{FullMark, goes_too_deep, has_too_many, is_at_last_cycle, is_list_name, is_too_large, is_tree_name, lacks_class, object_class, object_class_name, put_value, refusal_of, refusals}
use Rattle.rio_effect.specs.ObjectRecord.{data_of_put, words_of_put}
use Rattle.rio_effect.proofs.{PutClasses.{IsObjectClass, object_class_is, short_item, versions_in_range}, Versions.{fits_in_versions}}
use Rattle.rio_tree.proofs.WrittenLengths.{written_length}

-- ---- what an accepted put knows

-- an object of a class that a put takes, which fits and passes no limit, under a name that an object may have
pub record IsAccepted (m : State) (name : List ℕ) (v : Value) : Type 0 where
  pub free : is_list_name name ≡ false
  pub no_tree : names_tree m name ≡ false
  pub fit : fits m.classes (object_class_name v) v ≡ true
  pub taken : can_be_put m.classes (object_class_name v) ≡ true
  pub cycle : next_cycle m name ≤ cycle_limit
  pub short : is_too_long (data_length m.classes (object_class_name v) name v) ≡ false
  pub shallow : is_too_deep v ≡ false
  pub few : has_long_list v ≡ false

module _ (classes : List ClassDef) (v : Value) where
  fit_class : (own : Option (List ℕ)) → option_map_or (λ c. fits classes c v) own false ≡ true → fits classes (unwrap_or own []) v ≡ true
  fit_class None e = absurd cc
  fit_class (Some c) e = e

  taken_class : (own : Option (List ℕ)) → option_map_or (λ c. fits classes c v) own false ≡ true → option_map_or (λ c. not (can_be_put classes c)) own false ≡ false
      → can_be_put classes (unwrap_or own []) ≡ true
  taken_class None fit e = absurd cc
  taken_class (Some c) fit e = not-false _ e

pub accepted : (m : State) (name : List ℕ) (v : Value) (mark : Option FullMark) → refusal_of m (Put name v) mark ≡ None → IsAccepted m name (put_value m v)
unfolding refusal_of
accepted m name v mark e =
    let tests = refusals m (Put name v) mark in
    let w = put_value m v in
    let free = not_refused (is_list_name name) BadName (none_at tests 1 e) in
    let tree = not_refused (is_tree_name m (Put name v)) NameIsTree (none_at tests 4 e) in
    let lacks = not_refused (lacks_class m (Put name v)) NoSuchClass (none_at tests 7 e) in
    let last = not_refused (is_at_last_cycle m (Put name v)) CycleLimit (none_at tests 14 e) in
    let large = not_refused (is_too_large m (Put name v)) TooLarge (none_at tests 15 e) in
    let deep = not_refused (goes_too_deep m (Put name v)) TooDeep (none_at tests 16 e) in
    let many = not_refused (has_too_many m (Put name v)) TooMany (none_at tests 17 e) in
    let fit = unrefused_fit m name v mark e in
    record {
      free = free;
      no_tree = tree;
      fit = fit_class m.classes w (object_class w) fit;
      taken = taken_class m.classes w (object_class w) fit ((or_parts _ _ lacks).1);
      cycle = ltb-false cycle_limit (next_cycle m name) last;
      short = large;
      shallow = deep;
      few = (or_parts _ _ many).0;
    }

-- ---- the record

module _ (m : State) (place datime : ℕ) (name : List ℕ) (v : Value) (ok : IsAccepted m name (put_value m v)) (are : StateClasses m.classes) (named : is_item_text name ≡ true) where
  abbrev value : Value
  value = put_value m v

  abbrev class : List ℕ
  class = object_class_name value

  abbrev words : KeyWords
  words = words_of_put m place datime name v

  abbrev contents : List ℕ
  contents = data_of_put m place datime name v

  abbrev keylen : ℕ
  keylen = key_size words

  pub own_class : IsObjectClass class
  own_class = object_class_is m.classes class are ok.taken

  pub key_short : keylen ≤ 229
  key_short =
      let one = short_text_bytes class own_class.short in
      let two = short_text_bytes name (short_item name named) in
      let title : length (text_bytes []) ≡ 1 = refl in
      omega (arith, one, two, title)

  -- the data are as long as the rule of what is too long takes them
  same_length : padded_size keylen (length contents) ≡ data_length m.classes class name value
  same_length = ap (padded_size keylen) (written_length m.classes keylen 0 value)

  data_short : padded_size keylen (length contents) ≤ length_limit
  data_short = let below = ltb-false length_limit (data_length m.classes class name value) ok.short in omega (arith, below, same_length)

  module _ (low : place < 2 ^ 32) (soon : datime < 2 ^ 32) where
    pub words_fit : FitsWords words (length contents)
    words_fit = record {
      place = low;
      directory = omega arith;
      datime = soon;
      cycle = let last = ok.cycle in omega (arith, last);
      key = omega (arith, key_short);
      whole = omega (arith, key_short, data_short);
    }

    pub new_record : IsNewRecord words contents
    new_record = are_new_records words contents words_fit

    abbrev zeros : List ℕ
    zeros = replicate new_record.zeros 0

    abbrev pub put_record : KeyedRecord
    put_record = record { head = new_key words (length contents); bytes = record_bytes words contents }

    spelled : SpellsObject m.classes keylen class value contents
    spelled =
        let shallow = ltb-false depth_limit (depth_of value) ok.shallow in
        let versions = fits_in_versions m.classes (versions_in_range m.classes are) class value ok.fit in
        written_is_spelled m.classes class keylen value ok.fit shallow versions (omega (arith, key_short, data_short))

    stored : (bytes : List ℕ) (s : ReaderState) → s.at.rest ≡ zeros → bytes ≡ contents ++ zeros → first_at m.classes class keylen (contents ++ zeros) ≡ Ok (value, s)
        → stored_in m.classes put_record (first_at m.classes class keylen bytes) ≡ Some value
    stored bytes s rest is read =
        let padded : is_padding s.at.rest ≡ true = ap is_padding rest ∙ zeros_pad new_record.zeros new_record.few in
        let short : is_too_long (padded_size keylen (length contents)) ≡ false = ap is_too_long same_length ∙ ok.short in
        let fit = and_from _ _ ok.fit ok.taken in
        let long = and_from _ _ fit (ap not short) in
        let deep = and_from _ _ long (ap not ok.shallow) in
        let can : can_be_stored m.classes put_record value ≡ true = and_from _ _ deep (ap not ok.few) in
        ap (λ (b : List ℕ). stored_in m.classes put_record (first_at m.classes class keylen b)) is
        ∙ ap (stored_in m.classes put_record) read
        ∙ ap (λ (b : Bool). if b then Some value else None) (and_from _ _ padded can)

    -- it is read back
    pub object_read : object_in m.classes put_record ≡ Some value
    unfolding object_in
    object_read =
        let read = spelled_is_read m.classes class keylen value contents zeros spelled in
        stored (record_data put_record) read.0 read.2 new_record.contents_are read.1
