-- What one change makes of a file's segments.
use Rattle.std.proofs.Common.{◌≡◌, ℕ, ◌+◌, ◌-◌, ◌%◌, List, [], ◌∷◌, length, length-append, map, Option, refl, sym, ap, ◌∙◌}
use Rattle.std.proofs.lemmas.List.{length-replicate}
use Rattle.rio_chain.specs.{Placing.{with_segment, with_segments}, Segments.{segment_of}}
use Rattle.rio_chain.proofs.{FewerRecords.{keeps_segments}, PutChain.{map_all, map_with}}
use Rattle.rio_format.specs.{declared.class.ClassDef.{ClassDef}, declared.value.Value.{Value}}
use Rattle.rio_key.specs.{Written.{written_key}, declared.head.KeyHead.{KeyHead}}
use Rattle.rio_machine.specs.State.{State}
use Rattle.rio_num.specs.Room.{padding}
use Rattle.rio_chain.specs.{Record.{key_size, new_key, record_bytes, unpadded}, declared.key_words.KeyWords.{KeyWords}}
use Rattle.rio_chain.proofs.Records.{key_long}
use Rattle.std.specs.Prelude.{sum}
use Rattle.rio_machine.specs.declared.command.PutItem.{PutItem}
use Rattle.rio_step.specs.{Refusing.{with_class}, Step.{with_object}}
use Rattle.rio_effect.proofs.BasketLength.{record_long}
use Rattle.rio_effect.specs.ClassRecord.{list_data, list_record, list_words, next_list_cycle, record_of_class}
use Rattle.rio_effect.specs.{FileRuns.{SegmentsFollow, added, basket_added, basket_place, batch_added, batch_bytes, batch_lengths, batch_place, released, added_length, added_place, bytes_at}, TreeRecords.{record_of_basket}, ObjectRecord.{data_of_put, object_record, record_of_put, records_of_batch, records_of_puts, size_of_batch, size_of_put, words_of_put}}

-- how long a front is with its zero bytes
abbrev filled : ℕ → ℕ
filled n = n + (4 - n % 4) % 4

record_size : (words : KeyWords) (contents : List ℕ) → length (record_bytes words contents) ≡ filled (key_size words + length contents)
unfolding record_bytes
record_size words contents =
    let front : List ℕ = unpadded words contents in
    let long : length (unpadded words contents) ≡ key_size words + length contents = length-append (written_key (new_key words (length contents))) contents ∙ ap (λ (n : ℕ). n + length contents) (key_long words (length contents)) in
    length-append front (padding front)
    ∙ ap (λ (n : ℕ). length front + n) (length-replicate ((4 - length front % 4) % 4) 0)
    ∙ ap filled long

-- a record is as long at each place
pub same_length : (place : ℕ) (words : KeyWords) (contents : List ℕ) → length (bytes_at place words contents) ≡ added_length words contents
same_length place words contents = record_size (record words { place = place }) contents ∙ sym (record_size (record words { place = 0 }) contents)

pub batch_long : (place : ℕ) (records : List (KeyWords × List ℕ)) → map length (batch_bytes place records) ≡ batch_lengths records
batch_long place [] = refl
batch_long place (r ∷ records) =
    let first = same_length place r.0 r.1 in
    let rest = batch_long (place + added_length r.0 r.1) records in
    λ i. first i ∷ rest i

-- an added record is one segment more, at the place of the rule; a released one is one less
pub segments_follow : SegmentsFollow
segments_follow links (released place) = keeps_segments links place
segments_follow links (batch_added records) =
    let place = batch_place links records in
    map_all (batch_bytes place records) place links ∙ ap (λ (ns : List ℕ). with_segments place ns (map segment_of links)) (batch_long place records)
segments_follow links (basket_added words) =
    let place = basket_place links words in
    map_with place (record_of_basket place words) links ∙ ap (λ (n : ℕ). with_segment place n (map segment_of links)) (record_long place words)
segments_follow links (added words contents) =
    let place = added_place links words contents in
    map_with place (bytes_at place words contents) links
    ∙ ap (λ (n : ℕ). with_segment place n (map segment_of links)) (same_length place words contents)

-- ---- a put

-- the record that a put adds is that of its object
pub put_bytes : (m : State) (place datime : ℕ) (name : List ℕ) (v : Value)
    → bytes_at place (words_of_put m 0 datime name v) (data_of_put m 0 datime name v) ≡ record_of_put m place datime name v
unfolding object_record
put_bytes m place datime name v = refl

pub put_length : (m : State) (place datime : ℕ) (name : List ℕ) (v : Value)
    → added_length (words_of_put m 0 datime name v) (data_of_put m 0 datime name v) ≡ length (record_of_put m place datime name v)
put_length m place datime name v =
    sym (same_length place (words_of_put m 0 datime name v) (data_of_put m 0 datime name v)) ∙ ap length (put_bytes m place datime name v)

-- ---- a batch

-- the records that a batch adds are those of its objects, from any place on
pub records_are : (m : State) (place datime : ℕ) (puts : List PutItem) → batch_bytes place (records_of_puts datime m puts) ≡ records_of_batch m place datime puts
records_are m place datime [] = refl
records_are m place datime (p ∷ ps) =
    let next = with_object m p.name p.value in
    let long = put_length m place datime p.name p.value in
    let rest = ap (λ (n : ℕ). batch_bytes (place + n) (records_of_puts datime next ps)) long ∙ records_are next (place + size_of_put m place datime p) datime ps in
    let first = put_bytes m place datime p.name p.value in
    λ i. first i ∷ rest i

-- they are as long together
pub batch_size : (m : State) (place datime : ℕ) (puts : List PutItem) → sum (batch_lengths (records_of_puts datime m puts)) ≡ size_of_batch m place datime puts
batch_size m place datime puts =
    ap (λ (ns : List ℕ). sum ns) (sym (batch_long place (records_of_puts datime m puts)) ∙ ap (λ (rs : List (List ℕ)). map length rs) (records_are m place datime puts))

-- ---- a class command

-- the record that a class command adds is that of the longer class list
pub class_bytes : (info : Option KeyHead) (m : State) (place datime : ℕ) (class : ClassDef)
    → bytes_at place (list_words 0 datime (next_list_cycle info)) (list_data (list_words 0 datime (next_list_cycle info)) (with_class m.classes class)) ≡ record_of_class info m place datime class
unfolding list_record
class_bytes info m place datime class = refl

pub class_length : (info : Option KeyHead) (m : State) (place datime : ℕ) (class : ClassDef)
    → added_length (list_words 0 datime (next_list_cycle info)) (list_data (list_words 0 datime (next_list_cycle info)) (with_class m.classes class)) ≡ length (record_of_class info m place datime class)
class_length info m place datime class =
    let words = list_words 0 datime (next_list_cycle info) in
    sym (same_length place words (list_data words (with_class m.classes class))) ∙ ap length (class_bytes info m place datime class)
