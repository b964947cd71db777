-- A key list or a free record in the chain of a file: its key, its data, and that the file reads as before.
use Rattle.std.proofs.Common.{◌≡◌, ℕ, List, ◌++◌, length, drop, replicate, true, Some, refl, sym, ap, subst, ◌∙◌}
use Rattle.std.specs.Int.{w32, cast_unsigned}
use Rattle.rio_num.specs.{Plain.{IsSpelledIn}, Room.{is_padding}}
use Rattle.rio_num.proofs.Puts.{zeros_pad}
use Rattle.rio_key.specs.{Key.{SpellsKey}, declared.head.KeyHead.{KeyHead}}
use Rattle.rio_key.proofs.KeyRecord.{unsigned_is}
use Rattle.rio_chain.specs.{Changes.{with_record}, Segments.{IsChain, IsRecord, Link, RecordAt}}
use Rattle.rio_machine.specs.State.{State}
use Rattle.rio_chain.specs.{NewRecords.{IsNewRecord}, Record.{FitsWords, key_size, new_key, record_bytes}, declared.key_words.KeyWords.{KeyWords}}
use Rattle.rio_chain.proofs.Records.{are_new_records}
use Rattle.rio_state.specs.{DirectoryKeys.{AreKeysOf}, KeyedRecords.{KeyedRecord, info_key, is_internal, keyed_records, record_in_link}}
use Rattle.rio_state.specs.{Reads.{AreRecordsOf}, OneMore.{KeyIsRead, keyed_bytes, HasOneMoreIn}}
use Rattle.rio_state.proofs.{MoreRecords.{keyed_link, record_more}, Places.{places_differ}, Stays.{info_same, internal_stays, keys_stay, not_info}}
use Rattle.rio_close.specs.Written.{own_words}

module _ (place datime : ℕ) (name contents bytes : List ℕ) (fits : FitsWords (own_words place datime name) (length contents)) (is : bytes ≡ record_bytes (own_words place datime name) contents) where
  abbrev words : KeyWords
  words = own_words place datime name

  abbrev pub own_key : KeyHead
  own_key = new_key words (length contents)

  new : IsNewRecord words contents
  new = are_new_records words contents fits

  pub own_whole : IsRecord place bytes
  own_whole = subst (IsRecord place) (sym is) new.whole

  pub own_aligned_size : length bytes ≡ length (record_bytes words contents)
  own_aligned_size = ap length is

  key_read : KeyIsRead place bytes (new_key words (length contents))
  key_read = subst (λ (b : List ℕ). KeyIsRead place b (new_key words (length contents))) (sym is) (new.key_read place)

  pub own_link : record_in_link (RecordAt place bytes) ≡ Some (keyed_bytes (new_key words (length contents)) bytes)
  own_link = keyed_link place bytes (new_key words (length contents)) key_read

  pub own_spelled : IsSpelledIn (SpellsKey (new_key words (length contents))) bytes
  own_spelled = subst (IsSpelledIn (SpellsKey (new_key words (length contents)))) (sym is) new.key

  -- how long the record's key says it is
  pub own_nbytes : cast_unsigned w32 (new_key words (length contents)).nbytes ≡ length bytes
  own_nbytes =
      let size = new.size in
      unsigned_is _ fits.whole ∙ sym (ap length is ∙ size)

  -- the data, and zero bytes
  pub own_zeros : List ℕ
  own_zeros = replicate new.zeros 0

  pub own_data : drop (key_size words) bytes ≡ contents ++ own_zeros
  unfolding own_zeros
  own_data = ap (drop (key_size words)) is ∙ new.contents_are

  pub own_padding : is_padding own_zeros ≡ true
  unfolding own_zeros
  own_padding = zeros_pad new.zeros new.few

  -- ---- in the chain

  module _ (links : List Link) where
    abbrev old : List KeyedRecord
    old = keyed_records links

    abbrev after : List KeyedRecord
    after = keyed_records (with_record place bytes links)

    abbrev own : KeyedRecord
    own = keyed_bytes (new_key words (length contents)) bytes

    more : HasOneMoreIn old after own
    more = record_more links place bytes (new_key words (length contents)) key_read

    internal : is_internal (new_key words (length contents)) ≡ true
    internal = refl

    pub own_stays : (file : List ℕ) → IsChain (with_record place bytes links) file → (m : State) → AreRecordsOf (keyed_records links) m → AreRecordsOf (keyed_records (with_record place bytes links)) m
    own_stays file chain m stand = internal_stays old after own m more internal (places_differ file (with_record place bytes links) old own chain more) stand

    pub own_info : info_key (keyed_records (with_record place bytes links)) ≡ info_key (keyed_records links)
    own_info = info_same old after own more (not_info (new_key words (length contents)) internal)

    pub own_keys : (heads : List KeyHead) → AreKeysOf (keyed_records links) heads → AreKeysOf (keyed_records (with_record place bytes links)) heads
    own_keys heads keys = keys_stay old after own heads more internal keys
