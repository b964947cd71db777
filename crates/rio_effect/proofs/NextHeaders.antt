-- The header of a save stands in place of the one before.
use Rattle.std.proofs.Common.{◌≡◌, ◌≢◌, ◌↔◌, inr, ℕ, ◌∙◌, List, [], ◌∷◌, Bool, true, false, cond, not, ◌&&◌, ◌==◌, Option, refl, sym, ap, subst, nat_lt}
use Rattle.std.proofs.{lemmas.Bool.{and_from, eq-eqb, lt-ltb, ne_eqb, or_parts}, lemmas.Slice.Eq.{bytes_eq-Decides}}
use Rattle.std.specs.{List.{Contains, filter, list_any}, Str.{bytes_eq}}
use Rattle.rio_key.specs.declared.head.KeyHead.{KeyHead}
use Rattle.rio_chain.specs.{Changes.{with_record}, Segments.{Link}}
use Rattle.rio_dir.specs.Table.{with_head, without_head}
use Rattle.rio_machine.specs.State.{State}
use Rattle.rio_tree.specs.declared.head.TreeHead.{TreeHead}
use Rattle.rio_state.specs.{Closing.{kept_with, name_in}, Contents.{file_classes}, DirectoryKeys.{AreKeysOf}, OneLess.{HasRecord, links_without}, OneMore.{HasOneMoreIn, keyed_bytes}}
use Rattle.rio_state.specs.KeyedRecords.{KeyedRecord, begins_at, first_place, info_key, is_outdated, is_top_key, is_tree_key, keyed_records, top_keys, tree_records}
use Rattle.rio_state.specs.{Referred.{is_tree_item}, TreeLengths.{PendingRows}, Trees.{header_in}}
use Rattle.rio_state.proofs.{Insertion.{filter_more, filter_same}, KeyRecords.{tree_apart}, KeysFollow.{in_new, in_still}, LessRecords.{first_is_kept, record_less, top_is_later}}
use Rattle.rio_state.proofs.Members.{In, any_from, contains_in, filter_in, in_contained, in_filter, none_at, none_from}
use Rattle.rio_state.proofs.{MoreRecords.{first_stays, record_more}, Places.{places_differ}, Stays.{info_same}, Unreferred.{IsPart, items_same, part_outdated}}
use Rattle.rio_effect.specs.{NextHeaders.{HeaderIsReplaced, IsReplaced, LaterHeaderReplaces, links_replaced}, TreeDeletes.{KeepsTreeLess}}
use Rattle.rio_effect.proofs.{AllItems.{AllItems, items_less, items_more}, DeleteKeys.{keys_less}, HeaderLess.{heads_less, headers_less, none_left, none_named, top, tree}, HeaderMore.{counts}, KeysMore.{keys_more}, Needs.{not_info}}
use Rattle.rio_effect.proofs.{NewHeaders.{none_kept}, TreeNeeds.{keeps_tree_less, tree_delete_keeps_less}}

-- ---- lists

-- all are elsewhere
filter_all : (place : ℕ) (rs : List KeyedRecord) → begins_at rs place ≡ false → filter (λ r. not (r.head.seek == place)) rs ≡ rs
filter_all place [] none = refl
filter_all place (r ∷ rs) none =
    let parts = or_parts (r.head.seek == place) (begins_at rs place) none in
    let rest = filter_all place rs parts.1 in
    ap (λ (b : Bool). cond (not b) (r ∷ filter (λ s. not (s.head.seek == place)) rs) (filter (λ s. not (s.head.seek == place)) rs)) parts.0 ∙ ap (λ (xs : List KeyedRecord). r ∷ xs) rest

-- the records without one are those that begin elsewhere
without_is : (left all : List KeyedRecord) (s : KeyedRecord) → HasOneMoreIn left all s → begins_at left s.head.seek ≡ false → filter (λ r. not (r.head.seek == s.head.seek)) all ≡ left
without_is left all s h none = filter_same (λ r. not (r.head.seek == s.head.seek)) s left all h (ap not (eq-eqb s.head.seek s.head.seek refl)) ∙ filter_all s.head.seek left none

-- ---- the headers

module _ (file image : List ℕ) (links : List Link) (m : State) (s : KeyedRecord) (before : TreeHead) (place : ℕ) (bytes : List ℕ) (head : KeyHead) (said : TreeHead)
    (is : IsReplaced file image links m s before place bytes head said) where
  abbrev with_it : List Link
  with_it = with_record place bytes links

  abbrev old : List KeyedRecord
  old = keyed_records links

  abbrev new : List KeyedRecord
  new = keyed_records with_it

  abbrev mid : List KeyedRecord
  mid = keyed_records (links_without links s)

  abbrev final : List KeyedRecord
  final = keyed_records (links_without with_it s)

  abbrev x : KeyedRecord
  x = keyed_bytes head bytes

  more : HasOneMoreIn old new x
  more = record_more links place bytes head is.later.read

  less : HasOneMoreIn mid old s
  less = record_less file links s is.has.record_is

  pub there : HasRecord image with_it s
  there = record { chain = is.chain; among = contains_in s new (in_still old new x more s (in_contained s old is.has.record_is.among)) }

  then_less : HasOneMoreIn final new s
  then_less = record_less image with_it s there

  -- it begins elsewhere than the one before
  elsewhere : not (head.seek == s.head.seek) ≡ true
  elsewhere =
      let free = places_differ image with_it old x is.chain more in
      ap not (ne_eqb head.seek s.head.seek (λ same. none_at (λ r. r.head.seek == head.seek) s old free (in_contained s old is.has.record_is.among) (eq-eqb s.head.seek head.seek (sym same))))

  -- so it is one more of the records without that
  final_more : HasOneMoreIn mid final x
  final_more =
      subst (λ (rs : List KeyedRecord). HasOneMoreIn mid rs x) (without_is final new s then_less (places_differ image with_it final s is.chain then_less))
      (subst (λ (rs : List KeyedRecord). HasOneMoreIn rs (filter (λ r. not (r.head.seek == s.head.seek)) new) x) (without_is mid old s less (places_differ file links mid s is.has.record_is.chain less))
      (filter_more (λ r. not (r.head.seek == s.head.seek)) x old new more elsewhere))

  -- ---- keys

  new_name : list_any (λ t. bytes_eq t.head.name head.name) (top_keys mid) ≡ false
  new_name = none_from (λ t. bytes_eq t.head.name head.name) (top_keys mid) (λ t i e.
      let name : bytes_eq t.head.name s.head.name ≡ true = ap (bytes_eq t.head.name) (sym is.later.name) ∙ e in
      by t i name (is_tree_key t.head) refl)
    where
      header : In s (tree_records (top_keys old))
      header = (in_new (tree_records (top_keys mid)) (tree_records (top_keys old)) s (headers_less old mid s less is.has.items is.has.tree))

      by : (t : KeyedRecord) → In t (top_keys mid) → bytes_eq t.head.name s.head.name ≡ true → (b : Bool) → is_tree_key t.head ≡ b → ⊥
      by t i name true key = none_at (λ k. bytes_eq k.head.name s.head.name && is_tree_key k.head) t (top_keys mid) (none_named old mid s less is.has.items is.has.tree is.records.stand.distinct) i (and_from _ _ name key)
      by t i name false key =
          let top_of = filter_in (λ k. is_top_key k.head) t mid i in
          let object = in_filter (λ k. not (is_tree_key k.head)) t (top_keys old) (in_filter (λ k. is_top_key k.head) t old (in_still mid old s less t top_of.0) top_of.1) (ap not key) in
          tree_apart old m is.records s t header object (sym ((bytes_eq-Decides t.head.name s.head.name).0 name))

  items_mid : AllItems mid
  items_mid = items_less old mid s less is.has.items

  pub items_final : AllItems final
  items_final = items_more mid final x final_more (inr new_name) items_mid

  header_counts : is_tree_item (top_keys final) x ≡ true
  header_counts = counts mid final x final_more (inr new_name) items_mid is.later.top is.later.tree

  keys_final : (heads : List KeyHead) → AreKeysOf old heads → AreKeysOf final (with_head head (without_head s.head.name s.head.cycle heads))
  keys_final heads are =
      let left = keys_less old mid s.head (heads_less old mid s less is.has.items is.has.tree) (none_left old mid s less is.has.items is.has.tree is.records.stand.distinct) heads are in
      keys_more mid final head (without_head s.head.name s.head.cycle heads) (heads_less final mid x final_more items_final header_counts) (none_kept mid head new_name (without_head s.head.name s.head.cycle heads) left) left

  -- the one before is outdated
  pub outdated : is_outdated (top_keys new) s ≡ true
  outdated =
      let among_new = in_filter (λ k. is_top_key k.head) x new (in_new old new x more) is.later.top in
      any_from (λ t. is_tree_key t.head && bytes_eq t.head.name s.head.name && nat_lt s.head.cycle t.head.cycle) x (top_keys new) among_new
      (and_from _ _ (and_from _ _ is.later.tree ((bytes_eq-Decides head.name s.head.name).1 is.later.name)) (lt-ltb _ _ is.later.later))

  part : IsPart (top_keys new) (top_keys final)
  part = part_outdated (top_keys new) (top_keys final) s (filter_more (λ k. is_top_key k.head) s final new then_less (top old mid s less is.has.items is.has.tree)) (tree old mid s less is.has.items is.has.tree) outdated

  keys_new : (heads : List KeyHead) → AreKeysOf old heads → AreKeysOf new (with_head head (without_head s.head.name s.head.cycle heads))
  keys_new heads are =
      let later = keys_final heads are in
      record { ordered = later.ordered; each = subst (λ (hs : List KeyHead). (h : KeyHead) → Contains (with_head head (without_head s.head.name s.head.cycle heads)) h ↔ Contains hs h) (items_same (top_keys new) (top_keys final) part) later.each }

  -- ---- what is kept

  info_new : info_key new ≡ info_key old
  info_new = info_same old new x more (not_info head is.later.top)

  info_final : info_key final ≡ info_key old
  info_final = sym (info_same final new s then_less (not_info s.head (top old mid s less is.has.items is.has.tree))) ∙ info_new

  late : s.head.seek ≢ first_place
  late = top_is_later file links s is.has.record_is (top old mid s less is.has.items is.has.tree)

  same_name : name_in mid ≡ name_in final
  same_name = first_is_kept file links s is.has.record_is late ∙ sym (first_stays file links place bytes is.has.record_is.chain) ∙ sym (first_is_kept image with_it s there late)

  kept_final : (pending : PendingRows) → KeepsTreeLess pending (file_classes (info_key old)) x said (kept_with pending (links_replaced links s place bytes)) (kept_with pending (links_without links s))
  unfolding kept_with
  kept_final pending =
      subst (λ (o : Option KeyedRecord). KeepsTreeLess pending (file_classes o) x said (kept_with pending (links_replaced links s place bytes)) (kept_with pending (links_without links s))) info_final
      (keeps_tree_less final mid x final_more items_final header_counts said (ap (λ (o : Option KeyedRecord). header_in (file_classes o) x) info_final ∙ is.later.header) same_name pending)

  pub replaced : HeaderIsReplaced links s before place bytes head said
  replaced = record {
    put = keys_new;
    keys = keys_final;
    info = info_final;
    items = items_final;
    kept_before = λ pending. tree_delete_keeps_less pending file links s before is.has;
    kept = kept_final;
  }

pub later_header_replaces : LaterHeaderReplaces
later_header_replaces file image links m s before place bytes head said is = replaced file image links m s before place bytes head said is
