-- Keys beside the segments of which they are the records' keys.
use Rattle.std.proofs.Common.{◌≡◌, ◌∙◌, ℕ, ◌+◌, List, [], ◌∷◌, map, length, Option, Some, refl, sym, ap, subst}
use Rattle.std.proofs.lemmas.List.Elements.{All-cons, All-nil}
use Rattle.std.specs.List.{All, cons_option}
use Rattle.rio_host.specs.Image.{Has}
use Rattle.rio_key.specs.declared.head.KeyHead.{KeyHead}
use Rattle.rio_key.proofs.KeyLaws.{one_key_lem}
use Rattle.rio_chain.specs.{Adjoining.{AreSegments}, Keyed.{AreKeyed, HasKeyAt, IsWalkedKey}, declared.segment.Segment.{Segment, TheVariants.{Record, Gap}}}
use Rattle.rio_chain.specs.Segments.{Link, RecordAt, GapAt, HoldsLinks, IsChain, segment_of}
use Rattle.rio_state.specs.KeyedRecords.{KeyedRecord, keyed_records, record_in_link}
use Rattle.rio_recover.specs.{Keys.{record_heads}, Whole.{BeginsWithFile}}
use Rattle.rio_recover.proofs.LinkRecords.{link_record}

module _ (P : ℕ → ℕ → KeyHead → Type 0) where
  pub keyed_weaker : (Q : ℕ → ℕ → KeyHead → Type 0) → ((place n : ℕ) (head : KeyHead) → P place n head → Q place n head)
      → (segments : List Segment) (heads : List KeyHead) → AreKeyed P segments heads → AreKeyed Q segments heads
  keyed_weaker Q weaker [] [] keyed = tt
  keyed_weaker Q weaker [] (h ∷ heads) keyed = absurd keyed
  keyed_weaker Q weaker (Record place n ∷ segments) [] keyed = absurd keyed
  keyed_weaker Q weaker (Record place n ∷ segments) (h ∷ heads) keyed = (weaker place n h keyed.0, keyed_weaker Q weaker segments heads keyed.1)
  keyed_weaker Q weaker (Gap place n ∷ segments) heads keyed = keyed_weaker Q weaker segments heads keyed

  pub keyed_all : (R : KeyHead → Type 0) → ((place n : ℕ) (head : KeyHead) → P place n head → R head)
      → (segments : List Segment) (heads : List KeyHead) → AreKeyed P segments heads → All R heads
  keyed_all R each [] [] keyed = All-nil R
  keyed_all R each [] (h ∷ heads) keyed = absurd keyed
  keyed_all R each (Record place n ∷ segments) [] keyed = absurd keyed
  keyed_all R each (Record place n ∷ segments) (h ∷ heads) keyed = All-cons R h heads (each place n h keyed.0) (keyed_all R each segments heads keyed.1)
  keyed_all R each (Gap place n ∷ segments) heads keyed = keyed_all R each segments heads keyed

-- the first key of a file is that of a first record
pub begins_with_file : (segments : List Segment) (heads : List KeyHead) → AreSegments segments → AreKeyed IsWalkedKey segments heads → BeginsWithFile heads
begins_with_file [] heads shape keyed = absurd shape.first
begins_with_file (Gap place n ∷ segments) heads shape keyed = absurd shape.first
begins_with_file (Record place n ∷ segments) [] shape keyed = absurd keyed
begins_with_file (Record place n ∷ segments) (h ∷ heads) shape keyed = keyed.0.1 shape.adjacent.0.there

-- the keys that stand at the records of a file's links are theirs
pub keys_of_links : (file : List ℕ) (place : ℕ) (links : List Link) (heads : List KeyHead) → HoldsLinks file place links
    → AreKeyed (λ p n head. HasKeyAt head p n file) (map segment_of links) heads → heads ≡ record_heads (keyed_records links)
keys_of_links file place [] [] held keyed = refl
keys_of_links file place [] (h ∷ heads) held keyed = absurd keyed
keys_of_links file place (RecordAt p bytes ∷ links) [] held keyed = absurd keyed
keys_of_links file place (RecordAt p bytes ∷ links) (h ∷ heads) held keyed =
    let is : p ≡ place = held.0.0 in
    let whole = held.0.1.whole in
    let there : Has file p bytes = subst (λ (q : ℕ). Has file q bytes) (sym is) held.0.1.there in
    let a = keyed.0 bytes refl there in
    let b = whole.key in
    let own : h ≡ whole.head = (one_key_lem h whole.head a.0 b.0 a.1 b.1 (sym a.2 ∙ b.2) a.3 b.3).0 in
    let mine : record_in_link (RecordAt place bytes) ≡ Some (record { head = whole.head; bytes = bytes }) = link_record place bytes whole in
    let here : record_in_link (RecordAt p bytes) ≡ Some (record { head = whole.head; bytes = bytes }) = subst (λ (q : ℕ). record_in_link (RecordAt q bytes) ≡ Some (record { head = whole.head; bytes = bytes })) (sym is) mine in
    let others = keys_of_links file (place + length bytes) links heads held.1 keyed.1 in
    (λ i. own i ∷ others i) ∙ sym (ap (λ (o : Option KeyedRecord). record_heads (cons_option o (keyed_records links))) here)
keys_of_links file place (GapAt p n ∷ links) heads held keyed = keys_of_links file (place + n) links heads held.1 keyed

-- the keys that a walk finds are those of the file's records
pub walked_keys : (file : List ℕ) (links : List Link) (segments : List Segment) (heads : List KeyHead) → IsChain links file → segments ≡ map segment_of links
    → AreKeyed (λ p n head. HasKeyAt head p n file) segments heads → heads ≡ record_heads (keyed_records links)
walked_keys file links segments heads chain same keyed =
    keys_of_links file 100 links heads chain.links_are (subst (λ (ss : List Segment). AreKeyed (λ p n head. HasKeyAt head p n file) ss heads) same keyed)
