-- The trees of a file in which the header of a tree stands in place of the one before.
use Rattle.std.proofs.Common.{◌≡◌, ◌⊎◌, inl, inr, ⊎_elim, ◌∙◌, ℕ, codes, List, [], ◌∷◌, length, Bool, true, false, cond, not, ◌&&◌, ◌==◌, Option, Some, None, refl, sym, ap, subst}
use Rattle.std.proofs.{lemmas.Bool.{and_from, and_parts, eq-eqb, eqb-true, ne_eqb, or_parts}, lemmas.Slice.Eq.{bytes_eq-Decides}}
use Rattle.std.specs.{Prelude.{is_some, option_and_then}, List.{filter, list_any, Sorted.{IsPermutation}}, Option.{option_map_or}, Str.{bytes_eq}}
use Rattle.rio_num.specs.Reading.{some_if}
use Rattle.rio_key.specs.declared.head.KeyHead.{KeyHead}
use Rattle.rio_chain.specs.{Changes.{with_record}, Segments.{Link}}
use Rattle.rio_machine.specs.State.{State}
use Rattle.rio_tree.specs.declared.{basket_at.BasketAt.{BasketAt}, head.TreeHead.{TreeHead}}
use Rattle.rio_state.specs.{Contents.{file_classes}, KeyedRecords.{KeyedRecord, begins_at, info_key, is_top_key, is_tree_key, is_tree_record, keyed_records, record_at, top_keys, tree_records}}
use Rattle.rio_state.specs.{OneLess.{links_without}, OneMore.{HasOneMoreIn, keyed_bytes}, Referred.{is_tree_item}, Trees.{all_places_named, basket_bytes, basket_places, bytes_as_said, header_in, places_named}}
use Rattle.rio_state.proofs.{Insertion.{filter_more, filter_same, find_more, find_same}, KeysFollow.{in_before, in_new, in_still}, LessRecords.{record_less}}
use Rattle.rio_state.proofs.Members.{In, filter_in, found, in_contained, in_filter, none_at, none_from}
use Rattle.rio_state.proofs.{MoreRecords.{record_more}, Places.{flat_map_in, one_record, places_differ}, TreesSame.{in_flat_map, none_there, place_same}}
use Rattle.rio_effect.specs.{NextHeaders.{IsReplaced, links_replaced}, SavedRows.{HoldsEntries}, TreeChanges.{header_record_of}}
use Rattle.rio_effect.proofs.{AllItems.{AllItems, newest}, HeaderLess.{headers_less, info as same_info}, NextHeaders.{items_final, replaced, there}, TreeDeletes.{last}}
use Rattle.rio_recover.specs.{TreeTable.{without_tree}, Trees.{AreTreesOf, trees_at}, declared.trees.TreeAt.{TreeAt}}
use Rattle.rio_session.proofs.{NewTrees.{one_tree_more, tree_by}, TreesGone.{tree_is_gone}}

-- all are elsewhere
filter_all : (place : ℕ) (rs : List KeyedRecord) → begins_at rs place ≡ false → filter (λ r. not (r.head.seek == place)) rs ≡ rs
filter_all place [] none = refl
filter_all place (r ∷ rs) none =
    let parts = or_parts (r.head.seek == place) (begins_at rs place) none in
    let rest = filter_all place rs parts.1 in
    ap (λ (b : Bool). cond (not b) (r ∷ filter (λ s. not (s.head.seek == place)) rs) (filter (λ s. not (s.head.seek == place)) rs)) parts.0 ∙ ap (λ (xs : List KeyedRecord). r ∷ xs) rest

-- the records without one are those that begin elsewhere
without_is : (left all : List KeyedRecord) (s : KeyedRecord) → HasOneMoreIn left all s → begins_at left s.head.seek ≡ false → filter (λ r. not (r.head.seek == s.head.seek)) all ≡ left
without_is left all s h none = filter_same (λ r. not (r.head.seek == s.head.seek)) s left all h (ap not (eq-eqb s.head.seek s.head.seek refl)) ∙ filter_all s.head.seek left none

module _ (file image : List ℕ) (links : List Link) (m : State) (s : KeyedRecord) (before : TreeHead) (place : ℕ) (bytes : List ℕ) (head : KeyHead) (said : TreeHead)
    (is : IsReplaced file image links m s before place bytes head said) where
  abbrev with_it : List Link
  with_it = with_record place bytes links

  abbrev old : List KeyedRecord
  old = keyed_records links

  abbrev mid : List KeyedRecord
  mid = keyed_records (links_without links s)

  abbrev final : List KeyedRecord
  final = keyed_records (links_without with_it s)

  abbrev x : KeyedRecord
  x = keyed_bytes head bytes

  more : HasOneMoreIn old (keyed_records with_it) x
  more = record_more links place bytes head is.later.read

  less : HasOneMoreIn mid old s
  less = record_less file links s is.has.record_is

  then_less : HasOneMoreIn final (keyed_records with_it) s
  then_less = record_less image with_it s (there file image links m s before place bytes head said is)

  -- it begins elsewhere than the one before
  elsewhere : not (head.seek == s.head.seek) ≡ true
  elsewhere =
      let free = places_differ image with_it old x is.chain more in
      ap not (ne_eqb head.seek s.head.seek (λ same. none_at (λ r. r.head.seek == head.seek) s old free (in_contained s old is.has.record_is.among) (eq-eqb s.head.seek head.seek (sym same))))

  -- so it is one more of the records without that
  pub final_more : HasOneMoreIn (keyed_records (links_without links s)) (keyed_records (links_replaced links s place bytes)) (keyed_bytes head bytes)
  final_more =
      subst (λ (rs : List KeyedRecord). HasOneMoreIn mid rs x) (without_is final (keyed_records with_it) s then_less (places_differ image with_it final s is.chain then_less))
      (subst (λ (rs : List KeyedRecord). HasOneMoreIn rs (filter (λ r. not (r.head.seek == s.head.seek)) (keyed_records with_it)) x) (without_is mid old s less (places_differ file links mid s is.has.record_is.chain less))
      (filter_more (λ r. not (r.head.seek == s.head.seek)) x old (keyed_records with_it) more elsewhere))

  items : AllItems final
  items = items_final file image links m s before place bytes head said is

  -- its header counts
  pub counts : is_tree_item (top_keys (keyed_records (links_replaced links s place bytes))) (keyed_bytes head bytes) ≡ true
  counts =
      let among = in_filter (λ k. is_top_key k.head) x final (in_new mid final x final_more) is.later.top in
      and_from _ _ is.later.top (and_from _ _ is.later.tree (ap not (newest final items x among is.later.tree)))

  info_mid : info_key mid ≡ info_key old
  info_mid = same_info old mid s less is.has.items is.has.tree

  -- its tree is one more of those without the tree of the one before
  pub tree_replaced : (trees : List TreeAt) → AreTreesOf (keyed_records links) trees
      → IsPermutation (trees_at (file_classes (info_key (keyed_records (links_replaced links s place bytes)))) (tree_records (top_keys (keyed_records (links_replaced links s place bytes)))))
      (tree_by (keyed_bytes head bytes) said ∷ without_tree s.head.name trees)
  tree_replaced trees are =
      let gone = tree_is_gone file links m s before trees is.has is.records are in
      let info = (replaced file image links m s before place bytes head said is).info in
      one_tree_more mid final x said (without_tree s.head.name trees) final_more items counts (info ∙ sym info_mid) (ap (λ (o : Option KeyedRecord). header_in (file_classes o) x) info_mid ∙ is.later.header) gone

  -- ---- the headers that count

  fewer : HasOneMoreIn (tree_records (top_keys mid)) (tree_records (top_keys old)) s
  fewer = headers_less old mid s less is.has.items is.has.tree

  one_more : HasOneMoreIn (tree_records (top_keys mid)) (tree_records (top_keys final)) x
  one_more = headers_less final mid x final_more items counts

  -- without the one before no header has the name
  alone : list_any (λ r. bytes_eq r.head.name s.head.name) (tree_records (top_keys mid)) ≡ false
  alone = none_from (λ r. bytes_eq r.head.name s.head.name) (tree_records (top_keys mid)) (λ r i e.
      let among = filter_in (is_tree_record (top_keys mid)) r (top_keys mid) i in
      let tree = (and_parts (is_tree_key r.head) _ among.1).0 in
      none_at (λ t. bytes_eq t.head.name s.head.name && is_tree_key t.head) r (top_keys mid) (last file links m s before is.has is.records).last among.0 (λ j. e j && tree j))

  pub own_header : header_record_of (links_replaced links s place bytes) s.head.name ≡ Some (keyed_bytes head bytes)
  own_header =
      find_more (λ r. bytes_eq r.head.name s.head.name) x (tree_records (top_keys mid)) (tree_records (top_keys final)) one_more ((bytes_eq-Decides head.name s.head.name).1 is.later.name) alone

  pub other_header : (name : List ℕ) → bytes_eq s.head.name name ≡ false → header_record_of (links_replaced links s place bytes) name ≡ header_record_of links name
  other_header name apart =
      find_same (λ r. bytes_eq r.head.name name) x (tree_records (top_keys mid)) (tree_records (top_keys final)) one_more (ap (λ (n : List ℕ). bytes_eq n name) is.later.name ∙ apart)
      ∙ sym (find_same (λ r. bytes_eq r.head.name name) s (tree_records (top_keys mid)) (tree_records (top_keys old)) fewer apart)

  pub info_then : info_key (keyed_records (links_replaced links s place bytes)) ≡ info_key (keyed_records links)
  info_then = (replaced file image links m s before place bytes head said is).info

  pub header_then : header_in (file_classes (info_key (keyed_records (links_replaced links s place bytes)))) (keyed_bytes head bytes) ≡ Some said
  header_then = ap (λ (o : Option KeyedRecord). header_in (file_classes o) x) info_then ∙ is.later.header

  -- the places that they name
  pub named_then : (p : ℕ) → In p (all_places_named (file_classes (info_key (keyed_records (links_replaced links s place bytes)))) (tree_records (top_keys (keyed_records (links_replaced links s place bytes)))))
      → In p (basket_places said) ⊎ In p (all_places_named (file_classes (info_key (keyed_records links))) (tree_records (top_keys (keyed_records links))))
  unfolding places_named
  named_then p i =
      let classes = file_classes (info_key final) in
      let from = flat_map_in (places_named classes) p (tree_records (top_keys final)) i in
      ⊎_elim
      (λ (same : x ≡ from.0). inl (subst (λ (ps : List ℕ). In p ps) (ap (λ (r : KeyedRecord). places_named classes r) (sym same) ∙ ap (λ (o : Option TreeHead). option_map_or basket_places o []) header_then) from.2))
      (λ (j : In from.0 (tree_records (top_keys mid))).
      let kept = in_still (tree_records (top_keys mid)) (tree_records (top_keys old)) s fewer from.0 j in
      let named = subst (λ (o : Option KeyedRecord). In p (places_named (file_classes o) from.0)) info_then from.2 in
      inr (in_flat_map (places_named (file_classes (info_key old))) p from.0 (tree_records (top_keys old)) kept named))
      (in_before (tree_records (top_keys mid)) (tree_records (top_keys final)) x one_more from.0 from.1)

  -- ---- baskets

  -- the record of a header is no basket
  no_basket : (r : KeyedRecord) → is_tree_key r.head ≡ true → (at : BasketAt) → bytes_as_said at r ≡ None
  no_basket r tree at =
      let class : r.head.class ≡ codes "TTree" = (bytes_eq-Decides r.head.class (codes "TTree")).0 tree in
      ap (λ (c : List ℕ). some_if (bytes_eq c (codes "TBasket") && (length r.bytes == at.bytes)) r.bytes) class

  elsewhere_from : (at : BasketAt) (read : List ℕ) → basket_bytes (record_at old) at ≡ Some read → (s.head.seek == at.seek) ≡ false
  unfolding basket_bytes
  elsewhere_from at read e = by (s.head.seek == at.seek) refl
    where
      at_s : s.head.seek ≡ at.seek → (o : Option KeyedRecord) → record_at old at.seek ≡ o → option_and_then (bytes_as_said at) o ≡ Some read → ⊥
      at_s same None there f = absurd cc
      at_s same (Some r) there f =
          let own = found (λ k. k.head.seek == at.seek) r old there in
          let is_s : r ≡ s = one_record file links r s is.has.record_is.chain own.among (in_contained s old is.has.record_is.among) (eqb-true r.head.seek at.seek own.passes ∙ sym same) in
          let tree = (and_parts (is_tree_key s.head) _ (and_parts (is_top_key s.head) _ is.has.tree).1).0 in
          let none : bytes_as_said at r ≡ None = ap (bytes_as_said at) is_s ∙ no_basket s tree at in
          absurd (let g = sym none ∙ f in cc)

      by : (b : Bool) → (s.head.seek == at.seek) ≡ b → b ≡ false
      by true same = absurd (at_s (eqb-true s.head.seek at.seek same) (record_at old at.seek) refl e)
      by false same = refl

  new_from : (at : BasketAt) (read : List ℕ) → basket_bytes (record_at old) at ≡ Some read → (head.seek == at.seek) ≡ false
  new_from at read e = by (head.seek == at.seek) refl
    where
      by : (b : Bool) → (head.seek == at.seek) ≡ b → b ≡ false
      by true same =
          let free = places_differ image with_it old x is.chain more in
          let none = none_there old at (ap (begins_at old) (sym (eqb-true head.seek at.seek same)) ∙ free) in
          absurd (let f : false ≡ true = sym none ∙ ap is_some e in cc)
      by false same = refl

  basket_still : (at : BasketAt) (read : List ℕ) → basket_bytes (record_at old) at ≡ Some read → basket_bytes (record_at final) at ≡ Some read
  basket_still at read e =
      sym (place_same mid final x final_more at (new_from at read e)) ∙ place_same mid old s less at (elsewhere_from at read e) ∙ e

  -- those that were there are there still
  pub baskets_still : (offsets : Bool) (at : BasketAt) (entries : List (List ℕ)) → HoldsEntries (record_at (keyed_records links)) offsets at entries
      → HoldsEntries (record_at (keyed_records (links_replaced links s place bytes))) offsets at entries
  baskets_still offsets at entries h = record { bytes = h.bytes; there = basket_still at h.bytes h.there; read = h.read; some = h.some }
