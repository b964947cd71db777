-- No header is outdated, with one record less or more.
use Rattle.std.proofs.Common.{◌≡◌, ◌⊎◌, inl, inr, ⊎_elim, ◌∙◌, List, Bool, true, false, not, ◌&&◌, ◌||◌, nat_lt, refl, sym, ap, arith}
use Rattle.std.proofs.lemmas.Bool.{and_from, and_parts, le-ltb, not-true}
use Rattle.std.specs.{List.{list_all, list_any}, Str.{bytes_eq}}
use Rattle.rio_num.proofs.BytesEq.{bytes_eq-sym}
use Rattle.rio_state.specs.{OneMore.{HasOneMoreIn, keyed_bytes}, Referred.{is_item_record}}
use Rattle.rio_state.specs.KeyedRecords.{KeyedRecord, is_outdated, is_top_key, is_tree_key, is_tree_record, keyed_records, top_keys}
use Rattle.rio_state.proofs.{KeysFollow.{in_before, in_still}, LessRecords.{record_less}, Members.{In, all_at, all_from, filter_in, in_filter, none_at, none_from}, MoreRecords.{record_more}}
use Rattle.rio_effect.specs.AllItems.{ItemsStayWith, ItemsStayWithout}

abbrev pub AllItems : List KeyedRecord → Type 0
AllItems records = list_all (is_item_record (top_keys records)) (top_keys records) ≡ true

-- no header among them is outdated
pub newest : (records : List KeyedRecord) → AllItems records → (s : KeyedRecord) → In s (top_keys records) → is_tree_key s.head ≡ true → is_outdated (top_keys records) s ≡ false
newest records items s i key =
    let tops = top_keys records in
    let item = and_parts (is_top_key s.head) (not (is_tree_key s.head) || is_tree_record tops s) (all_at (is_item_record tops) s tops items i) in
    by (is_tree_key s.head) key item.1
  where
    by : (b : Bool) → b ≡ true → (not b || (b && not (is_outdated (top_keys records) s))) ≡ true → is_outdated (top_keys records) s ≡ false
    by true e f = not-true _ f
    by false e f = absurd cc

-- so all are items
pub items_from : (records : List KeyedRecord) → ((s : KeyedRecord) → In s (top_keys records) → is_tree_key s.head ≡ true → is_outdated (top_keys records) s ≡ false) → AllItems records
items_from records none = all_from (is_item_record (top_keys records)) (top_keys records) (λ s i.
    and_from _ _ (filter_in (λ t. is_top_key t.head) s records i).1 (by s i (is_tree_key s.head) refl))
  where
    by : (s : KeyedRecord) → In s (top_keys records) → (b : Bool) → is_tree_key s.head ≡ b → (not b || (b && not (is_outdated (top_keys records) s))) ≡ true
    by s i false e = refl
    by s i true e = ap not (none s i e)

-- a record is outdated by another
abbrev beats : KeyedRecord → KeyedRecord → Bool
beats s t = is_tree_key t.head && bytes_eq t.head.name s.head.name && nat_lt s.head.cycle t.head.cycle

-- some of the records
pub items_within : (old new : List KeyedRecord) → ((s : KeyedRecord) → In s new → In s old) → AllItems old → AllItems new
items_within old new within items = items_from new (λ s i key.
    none_from (beats s) (top_keys new) (λ t j e. none_at (beats s) t (top_keys old) (newest old items s (top_within s i) key) (top_within t j) e))
  where
    top_within : (s : KeyedRecord) → In s (top_keys new) → In s (top_keys old)
    top_within s i = let is = filter_in (λ t. is_top_key t.head) s new i in in_filter (λ t. is_top_key t.head) s old (within s is.0) is.1

pub items_less : (old new : List KeyedRecord) (r : KeyedRecord) → HasOneMoreIn new old r → AllItems old → AllItems new
items_less old new r less items = items_within old new (λ s i. in_still new old r less s i) items

-- one more, which neither is outdated nor outdates another
module _ (old new : List KeyedRecord) (r : KeyedRecord) (more : HasOneMoreIn old new r)
    (apart : (is_top_key r.head && is_tree_key r.head ≡ false) ⊎ (list_any (λ s. bytes_eq s.head.name r.head.name) (top_keys old) ≡ false)) where
  -- one of the keys, and no header
  before : (s : KeyedRecord) → In s (top_keys new) → (r ≡ s) ⊎ In s (top_keys old)
  before s i =
      let is = filter_in (λ t. is_top_key t.head) s new i in
      ⊎_elim (λ e. inl e) (λ j. inr (in_filter (λ t. is_top_key t.head) s old j is.1)) (in_before old new r more s is.0)

  -- neither of two keys outdates the other, where one of them is the new one
  no_header : (s t : KeyedRecord) → r ≡ t → In t (top_keys new) → is_top_key r.head && is_tree_key r.head ≡ false → beats s t ≡ true → ⊥
  no_header s t same i none e =
      let top = (filter_in (λ k. is_top_key k.head) t new i).1 in
      let tree = (and_parts (is_tree_key t.head) (bytes_eq t.head.name s.head.name) (and_parts (is_tree_key t.head && bytes_eq t.head.name s.head.name) (nat_lt s.head.cycle t.head.cycle) e).0).0 in
      let f : true ≡ false = sym (and_from _ _ top tree) ∙ ap (λ (k : KeyedRecord). is_top_key k.head && is_tree_key k.head) (sym same) ∙ none in
      absurd cc

  name_of : (s t : KeyedRecord) → beats s t ≡ true → bytes_eq t.head.name s.head.name ≡ true
  name_of s t e = (and_parts (is_tree_key t.head) (bytes_eq t.head.name s.head.name) (and_parts (is_tree_key t.head && bytes_eq t.head.name s.head.name) (nat_lt s.head.cycle t.head.cycle) e).0).1

  not_lower : (s : KeyedRecord) → beats s s ≡ true → ⊥
  not_lower s e =
      let low = (and_parts (is_tree_key s.head && bytes_eq s.head.name s.head.name) (nat_lt s.head.cycle s.head.cycle) e).1 in
      let f : true ≡ false = sym low ∙ le-ltb s.head.cycle s.head.cycle (omega arith) in absurd cc

  apart_names : (t : KeyedRecord) → In t (top_keys old) → bytes_eq t.head.name r.head.name ≡ true → list_any (λ s. bytes_eq s.head.name r.head.name) (top_keys old) ≡ false → ⊥
  apart_names t i e none = none_at (λ s. bytes_eq s.head.name r.head.name) t (top_keys old) none i e

  not_beaten : AllItems old → (s : KeyedRecord) → In s (top_keys new) → is_tree_key s.head ≡ true → (t : KeyedRecord) → In t (top_keys new) → beats s t ≡ true → ⊥
  not_beaten items s i key t j e = by (before s i) (before t j)
    where
      by : (r ≡ s) ⊎ In s (top_keys old) → (r ≡ t) ⊎ In t (top_keys old) → ⊥
      by (inl a) (inl b) = not_lower s (ap (beats s) (sym a ∙ b) ∙ e)
      by (inr a) (inr b) = none_at (beats s) t (top_keys old) (newest old items s a key) b e
      by (inl a) (inr b) = ⊎_elim (λ none. no_tree none) (λ none. apart_names t b (ap (λ (k : KeyedRecord). bytes_eq t.head.name k.head.name) a ∙ name_of s t e) none) apart
        where
          no_tree : is_top_key r.head && is_tree_key r.head ≡ false → ⊥
          no_tree none =
              let f : true ≡ false = sym (and_from _ _ (filter_in (λ k. is_top_key k.head) s new i).1 key) ∙ ap (λ (k : KeyedRecord). is_top_key k.head && is_tree_key k.head) (sym a) ∙ none in
              absurd cc
      by (inr a) (inl b) = ⊎_elim (λ none. no_header s t b j none e) (λ none. apart_names s a (ap (λ (k : KeyedRecord). bytes_eq s.head.name k.head.name) b ∙ bytes_eq-sym s.head.name t.head.name ∙ name_of s t e) none) apart

  pub items_more : AllItems old → AllItems new
  items_more items = items_from new (λ s i key. none_from (beats s) (top_keys new) (λ t j e. not_beaten items s i key t j e))

pub items_stay_without : ItemsStayWithout
items_stay_without file links r has items = items_less (keyed_records links) _ r (record_less file links r has) items

pub items_stay_with : ItemsStayWith
items_stay_with links place bytes head read apart items = items_more (keyed_records links) _ (keyed_bytes head bytes) (record_more links place bytes head read) apart items
