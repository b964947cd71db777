-- The keys and the headers among some records, without the header of a tree.
use Rattle.std.proofs.Common.{◌≡◌, ◌≤◌, ◌∙◌, List, [], ◌∷◌, ◌++◌, map, Bool, true, false, not, ◌&&◌, nat_lt, refl, sym, ap, subst, arith}
use Rattle.std.proofs.{lemmas.Bool.{and_from, and_parts, eq-eqb, ltb-false}}
use Rattle.std.specs.{List.{list_any}, Str.{bytes_eq}}
use Rattle.rio_num.proofs.BytesEq.{bytes_eq-sym}
use Rattle.rio_state.specs.{Closing.{item_heads}, OneMore.{HasOneMoreIn}, Reads.{are_distinct}, Referred.{is_tree_item}}
use Rattle.rio_state.specs.KeyedRecords.{KeyedRecord, has_item, info_key, is_outdated, is_top_key, is_tree_key, is_tree_record, item_of_key, object_records, top_keys, tree_records}
use Rattle.rio_state.proofs.{Insertion.{behind, filter_more, filter_same, map_more}, KeysFollow.{in_new, in_still}, Members.{In, any_from, none_from, none_at}}
use Rattle.rio_state.proofs.{Removal.{distinct_less}, Stays.{info_same}, TreeGone.{filter_agree_in}}
use Rattle.rio_effect.proofs.{AllItems.{AllItems, items_less, newest}, Needs.{not_info}}

-- ---- lists

-- one more behind others
more_behind : {A : Type 0} (x : A) (front old new : List A) → HasOneMoreIn old new x → HasOneMoreIn (front ++ old) (front ++ new) x
more_behind x [] old new h = h
more_behind x (y ∷ front) old new h = behind x y (front ++ old) (front ++ new) (more_behind x front old new h)

-- ---- without the header

module _ (old new : List KeyedRecord) (r : KeyedRecord) (less : HasOneMoreIn new old r) (items : AllItems old)
    (header : is_tree_item (top_keys old) r ≡ true) where
  abbrev tops : List KeyedRecord
  tops = top_keys old

  abbrev left : List KeyedRecord
  left = top_keys new

  pub top : is_top_key r.head ≡ true
  top = (and_parts (is_top_key r.head) (is_tree_record tops r) header).0

  greatest : is_tree_record tops r ≡ true
  greatest = (and_parts (is_top_key r.head) (is_tree_record tops r) header).1

  pub tree : is_tree_key r.head ≡ true
  tree = (and_parts (is_tree_key r.head) (not (is_outdated tops r)) greatest).0

  pub tops_less : HasOneMoreIn left tops r
  tops_less = filter_more (λ s. is_top_key s.head) r new old less top

  pub among : In r tops
  among = in_new left tops r tops_less

  same_greatest : (s : KeyedRecord) → In s left → is_tree_record left s ≡ is_tree_record tops s
  same_greatest s i = by (is_tree_key s.head) refl
    where
      by : (b : Bool) → is_tree_key s.head ≡ b → (b && not (is_outdated left s)) ≡ (b && not (is_outdated tops s))
      by false e = refl
      by true e = ap not (newest new (items_less old new r less items) s i e ∙ sym (newest old items s (in_still left tops r tops_less s i) e))

  pub headers_less : HasOneMoreIn (tree_records left) (tree_records tops) r
  headers_less =
      subst (λ (hs : List KeyedRecord). HasOneMoreIn hs (tree_records tops) r) (sym (filter_agree_in (is_tree_record left) (is_tree_record tops) left same_greatest))
      (filter_more (is_tree_record tops) r left tops tops_less greatest)

  same_objects : object_records tops ≡ object_records left
  same_objects = filter_same (λ s. not (is_tree_key s.head)) r left tops tops_less (ap not tree)

  pub info : info_key new ≡ info_key old
  info = sym (info_same new old r less (not_info r.head top))

  pub heads_less : HasOneMoreIn (item_heads left) (item_heads tops) r.head
  heads_less =
      subst (λ (os : List KeyedRecord). HasOneMoreIn (item_heads left) (map (λ s. s.head) (os ++ tree_records tops)) r.head) (sym same_objects)
      (map_more (λ (s : KeyedRecord). s.head) r (object_records left ++ tree_records left) (object_records left ++ tree_records tops)
      (more_behind r (object_records left) (tree_records left) (tree_records tops) headers_less))

  -- ---- names

  module _ (distinct : are_distinct tops ≡ true) where
    pub none_left : list_any (has_item (item_of_key r.head)) left ≡ false
    none_left = (distinct_less r tops left tops_less distinct).1

    -- a header of the name would have the same cycle
    pub none_named : list_any (λ s. bytes_eq s.head.name r.head.name && is_tree_key s.head) left ≡ false
    none_named = none_from (λ s. bytes_eq s.head.name r.head.name && is_tree_key s.head) left (λ s i e.
        let parts = and_parts (bytes_eq s.head.name r.head.name) (is_tree_key s.head) e in
        let there = in_still left tops r tops_less s i in
        let later = beaten s r (newest old items s there parts.1) tree (bytes_eq-sym r.head.name s.head.name ∙ parts.0) among in
        let earlier = beaten r s (newest old items r among tree) parts.1 parts.0 there in
        none_at (has_item (item_of_key r.head)) s left none_left i (and_from _ _ parts.0 (eq-eqb s.head.cycle r.head.cycle (omega arith))))
      where
        -- neither is later than the other
        beaten : (s t : KeyedRecord) → is_outdated tops s ≡ false → is_tree_key t.head ≡ true → bytes_eq t.head.name s.head.name ≡ true → In t tops → t.head.cycle ≤ s.head.cycle
        beaten s t none key name i = by (nat_lt s.head.cycle t.head.cycle) refl
          where
            by : (b : Bool) → nat_lt s.head.cycle t.head.cycle ≡ b → t.head.cycle ≤ s.head.cycle
            by false e = ltb-false _ _ e
            by true e =
                let there = any_from (λ x. is_tree_key x.head && bytes_eq x.head.name s.head.name && nat_lt s.head.cycle x.head.cycle) t tops i (and_from _ _ (and_from _ _ key name) e) in
                let f : true ≡ false = sym there ∙ none in absurd cc
