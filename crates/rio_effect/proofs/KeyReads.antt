-- The record of an object is found at the place that its key says, and read back as the object.
use Rattle.std.proofs.Common.{◌≡◌, ◌⊎◌, inl, inr, ℕ, ◌+◌, ◌∙◌, List, [], ◌∷◌, drop, length, not, Option, Some, Result, Ok, refl, sym, ap, subst}
use Rattle.std.proofs.lemmas.Option.{same_Some}
use Rattle.std.specs.{FinMap.{get}, List.{Contains, cons_option}}
use Rattle.rio_format.specs.{declared.value.Value.{Value}, declared.fault.ObjFault.{ObjFault}, Objects.{value_at}}
use Rattle.rio_key.specs.{declared.head.KeyHead.{KeyHead}, declared.fault.KeyFault.{KeyFault}}
use Rattle.rio_chain.specs.Segments.{GapAt, HoldsLinks, IsChain, IsRecord, Link, RecordAt}
use Rattle.rio_machine.specs.State.{State}
use Rattle.rio_state.specs.{DirectoryKeys.{AreKeysOf}, KeyedRecords.{KeyedRecord, is_top_key, is_tree_key, item_of_key, keyed_records, top_keys}}
use Rattle.rio_state.specs.{Reads.{AreRecordsOf}, OneMore.{keyed_bytes}}
use Rattle.rio_effect.specs.Laws.{HasRecordOf, KeysHaveRecords}
use Rattle.rio_state.proofs.KeyRecords.{ObjectOf, TreeOf, holder, item_is, key_record, object_of, tree_apart}
use Rattle.rio_state.proofs.{Members.{In, contains_in, filter_in, in_contained}, MoreRecords.{keyed_link, own_key}}
use Rattle.rio_effect.proofs.ReadClasses.{object_is_read}

-- the record stands at the place of its key
pub record Placed (links : List Link) (r : KeyedRecord) : Type 0 where
  pub there : In (RecordAt r.head.seek r.bytes) links
  pub whole : IsRecord r.head.seek r.bytes
  pub key : whole.head ≡ r.head

placed_later : (l : Link) (links : List Link) (r : KeyedRecord) → Placed links r → Placed (l ∷ links) r
placed_later l links r p = record { there = inr p.there; whole = p.whole; key = p.key }

-- a whole record is one for the place that its key says
abbrev at_place : (place q : ℕ) (bytes : List ℕ) (w : IsRecord place bytes) → w.head.seek ≡ q → IsRecord q bytes
at_place place q bytes w e = record { head = w.head; key = w.key; small = w.small; seek = e; nbytes = w.nbytes; parts = w.parts; aligned = w.aligned }

own_placed : (place : ℕ) (bytes : List ℕ) (links : List Link) (w : IsRecord place bytes) → Placed (RecordAt place bytes ∷ links) (keyed_bytes w.head bytes)
own_placed place bytes links w = record {
  there = inl (ap (λ (k : ℕ). RecordAt k bytes) (sym w.seek));
  whole = at_place place w.head.seek bytes w refl;
  key = refl;
}

pub placed : (file : List ℕ) (place : ℕ) (links : List Link) → HoldsLinks file place links → (r : KeyedRecord) → In r (keyed_records links) → Placed links r
placed file place [] holds r i = absurd i
placed file place (RecordAt q bytes ∷ links) holds r i =
    let w = holds.0.1.whole in
    let whole = at_place place q bytes w (w.seek ∙ sym holds.0.0) in
    by whole (placed file (place + length bytes) links holds.1 r) (subst (λ (o : Option KeyedRecord). In r (cons_option o (keyed_records links))) (keyed_link q bytes whole.head (own_key q bytes whole)) i)
  where
    by : (whole : IsRecord q bytes) → (In r (keyed_records links) → Placed links r) → (keyed_bytes whole.head bytes ≡ r) ⊎ In r (keyed_records links) → Placed (RecordAt q bytes ∷ links) r
    by whole later (inl same) = subst (Placed (RecordAt q bytes ∷ links)) same (own_placed q bytes links whole)
    by whole later (inr j) = placed_later (RecordAt q bytes) links r (later j)
placed file place (GapAt q n ∷ links) holds r i = placed_later (GapAt q n) links r (placed file (place + n) links holds.1 r i)

module _ (file : List ℕ) (links : List Link) (heads : List KeyHead) (m : State) (head : KeyHead) (v : Value) (chain : IsChain links file)
    (are : AreKeysOf (keyed_records links) heads) (is : AreRecordsOf (keyed_records links) m) (i : In head heads) (held : get m.objects (head.name, head.cycle) ≡ Some v) where
  abbrev records : List KeyedRecord
  records = keyed_records links

  of_object : ObjectOf records m is head → HasRecordOf links m head v
  of_object o =
      let x = object_of records m is o.r o.among in
      let among = (filter_in (λ t. is_top_key t.head) o.r records (filter_in (λ t. not (is_tree_key t.head)) o.r (top_keys records) o.among).0).0 in
      let p = placed file 100 links chain.links_are o.r among in
      let key : item_of_key o.r.head ≡ (head.name, head.cycle) = ap (λ (k : KeyHead). item_of_key k) o.head_is in
      let same = same_Some x.v v (sym x.object ∙ ap (get m.objects) key ∙ held) in
      let read = (object_is_read m.classes o.r x.v x.read).read in
      let there = subst (λ (k : KeyHead). Contains links (RecordAt k.seek o.r.bytes)) o.head_is (contains_in (RecordAt o.r.head.seek o.r.bytes) links p.there) in
      record {
        bytes = o.r.bytes;
        there = there;
        whole = at_place o.r.head.seek head.seek o.r.bytes p.whole (ap (λ (k : KeyHead). k.seek) (p.key ∙ o.head_is));
        key = own_key head.seek o.r.bytes (at_place o.r.head.seek head.seek o.r.bytes p.whole (ap (λ (k : KeyHead). k.seek) (p.key ∙ o.head_is))) ∙ ap key_ok (p.key ∙ o.head_is);
        read = ap (λ (k : KeyHead). value_at m.classes k.class k.keylen (drop k.keylen o.r.bytes)) (sym o.head_is) ∙ read ∙ ap ok same;
      }
    where
      ok : Value → Result Value ObjFault
      ok x = Ok x

      key_ok : KeyHead → Result KeyHead KeyFault
      key_ok h = Ok h

  of_tree : TreeOf records m is head → HasRecordOf links m head v
  of_tree t =
      let x = holder records m is (head.name, head.cycle) v held in
      let name = (item_is (head.name, head.cycle) x.r x.has).0 in
      absurd (tree_apart records m is t.r x.r t.among x.among (ap (λ (k : KeyHead). k.name) t.head_is ∙ sym name))

  pub has_record : HasRecordOf links m head v
  has_record = by (key_record records m is heads are head i)
    where
      by : ObjectOf records m is head ⊎ TreeOf records m is head → HasRecordOf links m head v
      by (inl o) = of_object o
      by (inr t) = of_tree t

pub keys_have_records : KeysHaveRecords
keys_have_records file links heads m head v chain are is c held = has_record file links heads m head v chain are is (in_contained head heads c) held
