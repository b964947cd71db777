-- What a close needs by the objects of the state.
use Rattle.std.proofs.Common.{◌≡◌, ◌⊎◌, inl, inr, ℕ, ◌+◌, ◌*◌, ◌≤◌, ◌∙◌, List, [], ◌∷◌, ◌++◌, length, map, Bool, true, false, cond, not, ltb, ◌==◌, refl, sym, ap, subst, arith}
use Rattle.std.proofs.{lemmas.Bool.{and_parts, le-ltb}, lemmas.List.{length-append, length-map, Sums.{sum_by-cons}}}
use Rattle.std.specs.{Prelude.{if◌then◌else◌}, FinMap.{entries}, Int.{w32, cast_unsigned}, List.{sum_by}}
use Rattle.byteorder.specs.{Endian.{big_bytes}, Numbers.{length-bytes_high_first}}
use Rattle.rio_num.specs.{Text.{text_bytes}, At.{place_len_of}}
use Rattle.rio_num.proofs.Cases.{nothing_left}
use Rattle.rio_format.specs.declared.value.Value.{Value}
use Rattle.rio_key.specs.{Written.{number_bytes, written_key}, declared.head.KeyHead.{KeyHead}}
use Rattle.rio_chain.specs.Segments.{IsChain, Link}
use Rattle.rio_machine.specs.{Limits.{head_length}, State.{NameAndCycle, State}}
use Rattle.rio_state.specs.{Closing.{item_heads, kept_with}, DirectoryKeys.{AreKeysOf}}
use Rattle.rio_state.specs.KeyedRecords.{KeyedRecord, is_top_key, is_tree_key, is_tree_record, keyed_records, top_keys}
use Rattle.rio_state.specs.Reads.{AreRecordsOf, is_named_key}
use Rattle.rio_step.specs.{ItemKeys.{told_by_key}, Step.{Listed, listed_object, object_listed, tree_listed}}
use Rattle.rio_effect.specs.Laws.{NeedOfState, listed_length, object_keys}
use Rattle.rio_effect.proofs.{KeyReads.{placed}, KeysOfState.{Told, object_keys_stand}, NeedsByKeys.{items_same}}
use Rattle.rio_state.proofs.{KeyRecords.{ObjectOf, TreeOf, key_record}, Members.{In, all_at, filter_in}}

-- ---- the length of a head

number_length : (n x : ℕ) → length (big_bytes n x) ≡ n
number_length n x = length-bytes_high_first n x

numbers_length : (h : KeyHead) (nbytes : ℕ) → length (number_bytes h nbytes) ≡ 18 + 2 * place_len_of h.version
numbers_length h nbytes = simp (length-append, number_length) (omega arith)

-- a small key without a title
head_long : (h : KeyHead) → h.version ≤ 1000 → h.title ≡ [] → length (written_key h) ≡ head_length h.class h.name
head_long h small none =
    let nbytes = cast_unsigned w32 h.nbytes in
    let large : ltb 1000 h.version ≡ false = le-ltb 1000 h.version small in
    let place : place_len_of h.version ≡ 4 = ap (λ (b : Bool). if b then 8 else 4) large in
    let numbers = numbers_length h nbytes in
    let title : length (text_bytes h.title) ≡ length (text_bytes []) = ap (λ (t : List ℕ). length (text_bytes t)) none in
    let whole = length-append (number_bytes h nbytes) (text_bytes h.class ++ (text_bytes h.name ++ text_bytes h.title)) in
    let texts = length-append (text_bytes h.class) (text_bytes h.name ++ text_bytes h.title) in
    let last = length-append (text_bytes h.name) (text_bytes h.title) in
    omega (arith, whole, texts, last, numbers, place, title)

-- ---- sums

-- how long a head is that tells this
abbrev told_length : Told → ℕ
told_length t = by t.1
  where
    by : Listed → ℕ
    by (object_listed class) = head_length class t.0.0
    by (tree_listed saved pending) = 0

sum_told : (f : KeyHead → ℕ) (heads : List KeyHead) → ((h : KeyHead) → In h heads → f h ≡ told_length (told_by_key h)) → sum_by f heads ≡ sum_by told_length (map told_by_key heads)
sum_told f [] same = refl
sum_told f (h ∷ hs) same =
    let here = same h (inl refl) in
    let rest = sum_told f hs (λ k i. same k (inr i)) in
    let one = sum_by-cons f h hs in
    let two = sum_by-cons told_length (told_by_key h) (map told_by_key hs) in
    omega (arith, here, rest, one, two)

sum_listed : (es : List (NameAndCycle × Value)) → sum_by told_length (map listed_object es) ≡ sum_by listed_length es
sum_listed [] = refl
sum_listed (e ∷ es) =
    let rest = sum_listed es in
    let one = sum_by-cons told_length (listed_object e) (map listed_object es) in
    let two = sum_by-cons listed_length e es in
    omega (arith, rest, one, two)

-- ---- the keys of a file

module _ (file : List ℕ) (links : List Link) (heads : List KeyHead) (m : State) (chain : IsChain links file) (are : AreKeysOf (keyed_records links) heads) (is : AreRecordsOf (keyed_records links) m) where
  abbrev records : List KeyedRecord
  records = keyed_records links

  top_long : (r : KeyedRecord) → In r (top_keys records) → length (written_key r.head) ≡ head_length r.head.class r.head.name
  top_long r i =
      let untitled = (and_parts _ (length r.head.title == 0) (all_at (λ t. is_named_key t.head) r (top_keys records) is.stand.named i)).1 in
      let p = placed file 100 links chain.links_are r (filter_in (λ t. is_top_key t.head) r records i).0 in
      let small : r.head.version ≤ 1000 = subst (λ (h : KeyHead). h.version ≤ 1000) p.key p.whole.small in
      head_long r.head small (nothing_left r.head.title untitled)

  key_long : (h : KeyHead) → In h heads → length (written_key h) ≡ head_length h.class h.name
  key_long h i = by (key_record records m is heads are h i)
    where
      by : ObjectOf records m is h ⊎ TreeOf records m is h → length (written_key h) ≡ head_length h.class h.name
      by (inl o) = subst (λ (k : KeyHead). length (written_key k) ≡ head_length k.class k.name) o.head_is (top_long o.r (filter_in (λ t. not (is_tree_key t.head)) o.r (top_keys records) o.among).0)
      by (inr t) = subst (λ (k : KeyHead). length (written_key k) ≡ head_length k.class k.name) t.head_is (top_long t.r (filter_in (is_tree_record (top_keys records)) t.r (top_keys records) t.among).0)

  -- the keys of the file's objects, in whatever order
  abbrev listed : List KeyHead
  listed = item_heads (top_keys records)

  objects_long : sum_by (λ h. length (written_key h)) (object_keys heads) ≡ sum_by listed_length (entries m.objects)
  objects_long =
      sum_told (λ h. length (written_key h)) (object_keys heads) (λ h i. key_long h (filter_in (λ k. not (is_tree_key k)) h heads i).0)
      ∙ ap (sum_by told_length) (object_keys_stand records heads m are is)
      ∙ sum_listed (entries m.objects)

  -- one if it is an object's
  abbrev counted : (KeyHead → ℕ) → KeyHead → ℕ
  counted f h = if not (is_tree_key h) then f h else 0

  filtered_sum : (f : KeyHead → ℕ) (hs : List KeyHead) → sum_by f (object_keys hs) ≡ sum_by (counted f) hs
  filtered_sum f [] = refl
  filtered_sum f (h ∷ hs) = by (not (is_tree_key h)) (filtered_sum f hs) ∙ sym (sum_by-cons (counted f) h hs)
    where
      by : (b : Bool) → sum_by f (object_keys hs) ≡ sum_by (counted f) hs → sum_by f (cond b (h ∷ object_keys hs) (object_keys hs)) ≡ (if b then f h else 0) + sum_by (counted f) hs
      by true rest = sum_by-cons f h (object_keys hs) ∙ ap (λ (n : ℕ). f h + n) rest
      by false rest = rest ∙ omega arith

  same_objects : (f : KeyHead → ℕ) → sum_by f (object_keys listed) ≡ sum_by f (object_keys heads)
  same_objects f = filtered_sum f listed ∙ sym (items_same records heads m are is (counted f)).sum ∙ sym (filtered_sum f heads)

  count_is : (hs : List KeyHead) → length hs ≡ sum_by (λ h. 1) hs
  count_is [] = refl
  count_is (h ∷ hs) = let rest = count_is hs in let one = sum_by-cons (λ (k : KeyHead). 1) h hs in omega (arith, rest, one)

  state_heads : sum_by (λ h. length (written_key h)) (object_keys listed) ≡ sum_by listed_length (entries m.objects)
  state_heads = same_objects (λ h. length (written_key h)) ∙ objects_long

  state_count : length (object_keys listed) ≡ length (entries m.objects)
  state_count =
      count_is (object_keys listed)
      ∙ same_objects (λ h. 1)
      ∙ sym (count_is (object_keys heads))
      ∙ sym (length-map (object_keys heads) told_by_key)
      ∙ ap length (object_keys_stand records heads m are is)
      ∙ length-map (entries m.objects) listed_object

pub need_of_state : NeedOfState
unfolding kept_with
need_of_state pending file links heads m chain are is = record {
  heads = state_heads file links heads m chain are is;
  count = state_count file links heads m chain are is;
}
