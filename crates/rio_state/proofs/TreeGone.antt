-- Without the header of a tree the records stand for the state without the tree.
use Rattle.std.proofs.Common.{◌≡◌, ◌⊎◌, inl, inr, ℕ, ◌∙◌, List, [], ◌∷◌, length, codes, Bool, true, false, cond, not, ◌&&◌, ◌||◌, ◌==◌, Option, Some, None, nat_lt, refl, sym, ap, subst, arith}
use Rattle.std.proofs.{lemmas.Bool.{and_from, and_left, and_parts, and_right, eq-eqb, eqb-true, ltb-false, ltb-true, ne_eqb, not-true, or_right}}
use Rattle.std.proofs.{lemmas.Slice.Eq.{bytes_eq-Decides}}
use Rattle.std.specs.{Prelude.{is_some, option_and_then}, FinMap.{get, get-remove, remove}, List.{filter, find, list_all, list_any}, Str.{bytes_eq}}
use Rattle.rio_num.specs.Reading.{some_if}
use Rattle.rio_num.proofs.BytesEq.{bytes_eq-sym}
use Rattle.rio_chain.specs.Segments.{Link}
use Rattle.rio_machine.proofs.OrderLaws.{names_total}
use Rattle.rio_machine.specs.State.{Row, State}
use Rattle.rio_tree.specs.{declared.basket_at.BasketAt.{BasketAt}, declared.head.TreeHead.{TreeHead}}
use Rattle.rio_state.specs.{Contents.{FileClasses, file_classes, object_in, state_classes}, OneMore.{HasOneMoreIn}, Reads.{AreRecordsOf, StandsForState, info_place, is_named_key}, Referred.{is_item_record, is_named_basket, is_referred}}
use Rattle.rio_state.specs.KeyedRecords.{KeyedRecord, begins_at, first_place, has_class, has_info_name, has_item, info_key, is_in_directory, is_internal, is_elsewhere, is_info_key, is_mixed_name, is_outdated, is_top_key, is_tree_key, is_tree_record, keyed_records, object_records, record_at, top_keys, tree_records}
use Rattle.rio_state.specs.OneLess.{HasRecord, IsLastHeader, TreeGoes, links_without, without_tree}
use Rattle.rio_state.specs.Trees.{TreesBeside, all_places_named, are_named_once, basket_bytes, basket_places, bytes_as_said, header_in, is_named_place, places_named, records_before, saved_rows, saved_tree, tree_by, tree_of, tree_under}
use Rattle.rio_state.proofs.{Collected.{name_same}, Insertion.{any_more, filter_more, filter_same, find_none, find_same}, KeysFollow.{in_before, in_new, in_still}}
use Rattle.rio_state.proofs.{LessRecords.{record_less}, Members.{In, all_at, filter_in, found, in_contained, in_filter, none_at, none_from}}
use Rattle.rio_state.proofs.{Places.{basket_later, basket_there, flat_map_in, info_among, later_apart, one_record, places_differ, records_rise, rising_late}, Removal.{all_less, all_weaker, distinct_less}, SavedRows.{rows_same}, Stays.{info_same, not_info as not_info_key, not_top}, Unreferred.{mixed_less}}
use Rattle.rio_state.proofs.TreesSame.{HoldsTree, NamesBasket, all_agree, baskets_there, found_agree, holds_tree, in_flat_map, place_same}

-- ---- lists

-- two tests that agree at the elements of a list keep the same of them
pub filter_agree_in : {A : Type 0} (p q : A → Bool) (xs : List A) → ((x : A) → In x xs → p x ≡ q x) → filter p xs ≡ filter q xs
filter_agree_in p q [] same = refl
filter_agree_in p q (x ∷ xs) same =
    let here = same x (inl refl) in
    let rest = filter_agree_in p q xs (λ y i. same y (inr i)) in
    λ i. cond (here i) (x ∷ rest i) (rest i)

-- with fewer others they are named once too
pub once_fewer : (fewer others ps : List ℕ) → ((p : ℕ) → In p fewer → In p others) → are_named_once others ps ≡ true → are_named_once fewer ps ≡ true
once_fewer fewer others [] within once = refl
once_fewer fewer others (q ∷ qs) within once =
    let parts = and_parts (not (list_any (λ o. q == o) others)) (are_named_once (q ∷ others) qs) once in
    let none = none_from (λ o. q == o) fewer (λ p i e. none_at (λ o. q == o) p others (not-true _ parts.0) (within p i) e) in
    let rest = once_fewer (q ∷ fewer) (q ∷ others) qs (λ p i. more p i) parts.1 in
    and_from _ _ (ap not none) rest
  where
    more : (p : ℕ) → (q ≡ p) ⊎ In p fewer → (q ≡ p) ⊎ In p others
    more p (inl same) = inl same
    more p (inr i) = inr (within p i)

-- ---- a tree, by its parts

pub tree_from : (beside : TreesBeside) (r : KeyedRecord) (head : TreeHead) (rows : List Row) → header_in beside.classes r ≡ Some head
    → saved_rows beside.classes.declared (record_at beside.records) head ≡ Some rows
    → are_named_once (all_places_named beside.classes (records_before beside.headers r)) (basket_places head) ≡ true → tree_of beside r ≡ Some (saved_tree r head rows)
unfolding tree_of tree_by
tree_from beside r head rows is rows_are once =
    let before = all_places_named beside.classes (records_before beside.headers r) in
    ap (option_and_then (tree_by beside.classes.declared (record_at beside.records) before r)) is
    ∙ ap (option_and_then (λ rs. some_if (are_named_once before (basket_places head)) (saved_tree r head rs))) rows_are
    ∙ ap (λ (b : Bool). some_if b (saved_tree r head rows)) once

-- ---- without the header

module _ (file : List ℕ) (links : List Link) (r : KeyedRecord) (has : HasRecord file links r) (header : IsLastHeader links r) where
  abbrev old : List KeyedRecord
  old = keyed_records links

  abbrev new : List KeyedRecord
  new = keyed_records (links_without links r)

  abbrev tops : List KeyedRecord
  tops = top_keys old

  abbrev left : List KeyedRecord
  left = top_keys new

  less : HasOneMoreIn new old r
  less = record_less file links r has

  top : is_top_key r.head ≡ true
  top = (and_parts (is_top_key r.head) (is_tree_record tops r) header.tree).0

  greatest : is_tree_record tops r ≡ true
  greatest = (and_parts (is_top_key r.head) (is_tree_record tops r) header.tree).1

  tree : is_tree_key r.head ≡ true
  tree = (and_parts (is_tree_key r.head) (not (is_outdated tops r)) greatest).0

  not_info : is_info_key r.head ≡ false
  not_info = and_right (is_in_directory r.head) (has_info_name r.head) (not-true _ (and_parts (is_in_directory r.head) (not (has_info_name r.head)) top).1)

  tops_less : HasOneMoreIn left tops r
  tops_less = filter_more (λ s. is_top_key s.head) r new old less top

  free : begins_at new r.head.seek ≡ false
  free = places_differ file links new r has.chain less

  -- headers that are left have other names
  other_name : (s : KeyedRecord) → In s left → is_tree_key s.head ≡ true → bytes_eq s.head.name r.head.name ≡ false
  other_name s i key = by (bytes_eq s.head.name r.head.name) refl
    where
      by : (b : Bool) → bytes_eq s.head.name r.head.name ≡ b → b ≡ false
      by false e = refl
      by true e = absurd (none_at (λ t. bytes_eq t.head.name r.head.name && is_tree_key t.head) s left header.last i (and_from _ _ e key))

  same_greatest : (s : KeyedRecord) → In s left → is_tree_record left s ≡ is_tree_record tops s
  same_greatest s i = by (is_tree_key s.head) refl
    where
      by : (b : Bool) → is_tree_key s.head ≡ b → (b && not (is_outdated left s)) ≡ (b && not (is_outdated tops s))
      by false e = refl
      by true e =
          let apart : bytes_eq r.head.name s.head.name ≡ false = bytes_eq-sym r.head.name s.head.name ∙ other_name s i e in
          let unbeaten = and_left (is_tree_key r.head && bytes_eq r.head.name s.head.name) (nat_lt s.head.cycle r.head.cycle) (and_right (is_tree_key r.head) (bytes_eq r.head.name s.head.name) apart) in
          ap not (sym (any_more (λ t. is_tree_key t.head && bytes_eq t.head.name s.head.name && nat_lt s.head.cycle t.head.cycle) r left tops tops_less unbeaten))

  headers_are : tree_records left ≡ filter (is_tree_record tops) left
  headers_are = filter_agree_in (is_tree_record left) (is_tree_record tops) left same_greatest

  headers_less : HasOneMoreIn (tree_records left) (tree_records tops) r
  headers_less = subst (λ (hs : List KeyedRecord). HasOneMoreIn hs (tree_records tops) r) (sym headers_are) (filter_more (is_tree_record tops) r left tops tops_less greatest)

  same_objects : object_records tops ≡ object_records left
  same_objects = filter_same (λ s. not (is_tree_key s.head)) r left tops tops_less (ap not tree)

  info : info_key old ≡ info_key new
  info = info_same new old r less not_info

  abbrev classes : FileClasses
  classes = file_classes (info_key old)

  abbrev beside_old : TreesBeside
  beside_old = record { classes = classes; records = old; headers = tree_records tops }

  abbrev beside_new : TreesBeside
  beside_new = record { classes = classes; records = new; headers = tree_records left }

  -- ---- baskets

  -- the record that stands at the place of the header is no basket
  no_basket : (at : BasketAt) → r.head.seek ≡ at.seek → is_some (basket_bytes (record_at old) at) ≡ false
  unfolding basket_bytes
  no_basket at same = by (find (λ s. s.head.seek == at.seek) old) refl
    where
      not_basket : (s : KeyedRecord) → r ≡ s → is_some (bytes_as_said at s) ≡ false
      not_basket s is =
          let class = (bytes_eq-Decides s.head.class (codes "TTree")).0 (ap (λ (k : KeyedRecord). is_tree_key k.head) (sym is) ∙ tree) in
          let other : has_class (codes "TBasket") s.head ≡ false = ap (λ (c : List ℕ). bytes_eq c (codes "TBasket")) class in
          ap (λ (b : Bool). is_some (some_if (b && (length s.bytes == at.bytes)) s.bytes)) other

      by : (o : Option KeyedRecord) → find (λ s. s.head.seek == at.seek) old ≡ o → is_some (option_and_then (bytes_as_said at) o) ≡ false
      by None e = refl
      by (Some s) e =
          let f = found (λ t. t.head.seek == at.seek) s old e in
          which (in_before new old r less s f.among) f.passes
        where
          which : (r ≡ s) ⊎ In s new → (s.head.seek == at.seek) ≡ true → is_some (bytes_as_said at s) ≡ false
          which (inl is) passes = not_basket s is
          which (inr i) passes = absurd (none_at (λ t. t.head.seek == r.head.seek) s new free i (eq-eqb _ _ (eqb-true _ _ passes ∙ sym same)))

  -- a tree that is left is read as before
  tree_left : (s : KeyedRecord) → In s (tree_records left) → is_some (tree_of beside_old s) ≡ true → tree_of beside_new s ≡ tree_of beside_old s
  tree_left s i some =
      let h = holds_tree beside_old s some in
      let rows = rows_same (record_at new) (record_at old) classes.declared h.head (λ at b. sym (same at (h.head, h.header, b) (r.head.seek == at.seek) refl)) in
      tree_from beside_new s h.head h.rows h.header (rows ∙ h.rows_are)
      (once_fewer (all_places_named classes (records_before (tree_records left) s)) (all_places_named classes (records_before (tree_records tops) s)) (basket_places h.head) within h.once)
      ∙ sym h.tree
    where
      same : (at : BasketAt) → NamesBasket classes s at → (b : Bool) → (r.head.seek == at.seek) ≡ b → basket_bytes (record_at old) at ≡ basket_bytes (record_at new) at
      same at names true e =
          let none = no_basket at (eqb-true _ _ e) in
          let there = baskets_there classes (tree_records tops) old new s some at names in
          let f : true ≡ false = sym there ∙ none in absurd cc
      same at names false e = sym (place_same new old r less at e)

      within : (p : ℕ) → In p (all_places_named classes (records_before (tree_records left) s)) → In p (all_places_named classes (records_before (tree_records tops) s))
      within p j =
          let from = flat_map_in (places_named classes) p (records_before (tree_records left) s) j in
          let parts = filter_in (λ t. nat_lt t.head.seek s.head.seek) from.0 (tree_records left) from.1 in
          let there = in_filter (λ t. nat_lt t.head.seek s.head.seek) from.0 (tree_records tops) (in_still (tree_records left) (tree_records tops) r headers_less from.0 parts.0) parts.1 in
          in_flat_map (places_named classes) p from.0 (records_before (tree_records tops) s) there from.2

  -- ---- the state

  module _ (m : State) (is : AreRecordsOf old m) where
    abbrev s : StandsForState old (info_key old) tops m
    s = is.stand

    read_before : (t : KeyedRecord) → In t (tree_records left) → is_some (tree_of beside_old t) ≡ true
    read_before t i = all_at (λ k. is_some (tree_of beside_old k)) t (tree_records tops) s.tree_readable (in_still (tree_records left) (tree_records tops) r headers_less t i)

    same_tree : (t : KeyedRecord) → In t (tree_records left) → tree_of beside_new t ≡ tree_of beside_old t
    same_tree t i = tree_left t i (read_before t i)

    trees_hold : (name : List ℕ) → get (remove m.trees r.head.name) name ≡ tree_under beside_new name
    trees_hold name =
        get-remove names_total m.trees r.head.name name
        ∙ ap (λ b. cond b None (get m.trees name)) (name_same name r)
        ∙ by (bytes_eq r.head.name name) refl
      where
        none_named : bytes_eq r.head.name name ≡ true → list_any (λ t. bytes_eq t.head.name name) (tree_records left) ≡ false
        none_named e =
            none_from (λ t. bytes_eq t.head.name name) (tree_records left) (λ t i same.
            let parts = filter_in (is_tree_record left) t left i in
            let key = (and_parts (is_tree_key t.head) (not (is_outdated left t)) parts.1).0 in
            let name_is : name ≡ r.head.name = sym ((bytes_eq-Decides r.head.name name).0 e) in
            let f : true ≡ false = sym same ∙ ap (bytes_eq t.head.name) name_is ∙ other_name t parts.0 key in
            absurd cc)

        by : (b : Bool) → bytes_eq r.head.name name ≡ b → cond b None (get m.trees name) ≡ tree_under beside_new name
        by true e = sym (ap (option_and_then (tree_of beside_new)) (find_none (λ t. bytes_eq t.head.name name) (tree_records left) (none_named e)))
        by false e =
            s.trees name
            ∙ ap (option_and_then (tree_of beside_old)) (find_same (λ t. bytes_eq t.head.name name) r (tree_records left) (tree_records tops) headers_less e)
            ∙ sym (found_agree (tree_of beside_new) (tree_of beside_old) (λ t. bytes_eq t.head.name name) (tree_records left) same_tree)

    readable : list_all (λ t. is_some (tree_of beside_new t)) (tree_records left) ≡ true
    readable =
        all_agree (λ t. is_some (tree_of beside_new t)) (λ t. is_some (tree_of beside_old t)) (tree_records left) (λ t i. ap is_some (same_tree t i))
        ∙ all_less (λ t. is_some (tree_of beside_old t)) r (tree_records tops) (tree_records left) headers_less s.tree_readable

    names_apart : list_all (λ t. not (is_mixed_name left t.head.name)) left ≡ true
    names_apart =
        all_weaker (λ t. not (is_mixed_name tops t.head.name)) (λ t. not (is_mixed_name left t.head.name)) (λ t e. ap not (mixed_less tops left r tops_less t.head.name (not-true _ e))) left
        (all_less (λ t. not (is_mixed_name tops t.head.name)) r tops left tops_less s.apart)

    stands : StandsForState new (info_key old) left (without_tree m r.head.name)
    stands = record {
      listed = s.listed;
      classes = s.classes;
      named = all_less (λ t. is_named_key t.head) r tops left tops_less s.named;
      distinct = (distinct_less r tops left tops_less s.distinct).0;
      apart = names_apart;
      readable = ap (list_all (λ t. is_some (object_in (state_classes (info_key old)) t))) (sym same_objects) ∙ s.readable;
      objects = λ item. s.objects item ∙ ap (λ (rs : List KeyedRecord). option_and_then (object_in (state_classes (info_key old))) (find (has_item item) rs)) same_objects;
      tree_readable = readable;
      trees = trees_hold;
    }

    pub records_less : AreRecordsOf new (without_tree m r.head.name)
    records_less = record {
      here = all_less (λ t. not (is_elsewhere t.head)) r old new less is.here;
      stand = subst (λ (o : Option KeyedRecord). StandsForState new o left (without_tree m r.head.name)) info stands;
    }

    -- ---- its baskets

    among : In r (tree_records tops)
    among = in_new (tree_records left) (tree_records tops) r headers_less

    holds : (t : KeyedRecord) → In t (tree_records tops) → HoldsTree beside_old t
    holds t i = holds_tree beside_old t (all_at (λ k. is_some (tree_of beside_old k)) t (tree_records tops) s.tree_readable i)

    module _ (b : KeyedRecord) (i : In b old) (named : In b.head.seek (places_named classes r)) where
      is_basket : has_class (codes "TBasket") b.head ≡ true
      is_basket =
          let t = basket_there beside_old r (holds r among) b.head.seek named in
          ap (λ (k : KeyedRecord). has_class (codes "TBasket") k.head) (sym (one_record file links t.b b has.chain t.among i t.seek)) ∙ t.basket

      internal : is_internal b.head ≡ true
      internal = or_right (has_class (codes "TFile") b.head) (has_class (codes "TBasket") b.head) is_basket

      not_first : (b.head.seek == first_place) ≡ false
      not_first = ne_eqb _ _ (basket_later file links b has.chain i is_basket)

      not_list : (b.head.seek == info_place (info_key new)) ≡ false
      not_list = by (info_key new) refl
        where
          by : (o : Option KeyedRecord) → info_key new ≡ o → (b.head.seek == info_place o) ≡ false
          by None e = let late = rising_late 100 old (records_rise file 100 links has.chain.links_are) b i in ne_eqb _ _ (omega (arith, late))
          by (Some k) e =
              let f = info_among new k e in
              ne_eqb _ _ (λ same.
              let is = one_record file links b k has.chain i (in_still new old r less k f.0) same in
              let g : true ≡ false = sym f.1 ∙ ap (λ (t : KeyedRecord). is_info_key t.head) (sym is) ∙ not_info_key b.head internal in
              absurd cc)

      not_item : is_item_record left b ≡ false
      not_item = and_left (is_top_key b.head) (not (is_tree_key b.head) || is_tree_record left b) (not_top b.head internal)

      other_header : (t : KeyedRecord) → In t (tree_records left) → In b.head.seek (places_named classes t) → ⊥
      other_header t j k = by (nat_lt r.head.seek t.head.seek) refl (nat_lt t.head.seek r.head.seek) refl
        where
          there : In t (tree_records tops)
          there = in_still (tree_records left) (tree_records tops) r headers_less t j

          by : (x : Bool) → nat_lt r.head.seek t.head.seek ≡ x → (y : Bool) → nat_lt t.head.seek r.head.seek ≡ y → ⊥
          by true e y f = later_apart beside_old r t (holds t there) among (ltb-true _ _ e) b.head.seek named k
          by false e true f = later_apart beside_old t r (holds r among) there (ltb-true _ _ f) b.head.seek k named
          by false e false f =
              let of_left = (filter_in (is_tree_record left) t left j).0 in
              let of_new = (filter_in (λ x. is_top_key x.head) t new of_left).0 in
              none_at (λ x. x.head.seek == r.head.seek) t new free of_new (eq-eqb _ _ (omega (arith, ltb-false _ _ e, ltb-false _ _ f)))

      not_named : is_named_basket new b ≡ false
      not_named =
          ap (λ (o : Option KeyedRecord). is_named_place (file_classes o) (tree_records left) b.head.seek) (sym info)
          ∙ none_from (λ p. p == b.head.seek) (all_places_named classes (tree_records left)) (λ p j e.
          let from = flat_map_in (places_named classes) p (tree_records left) j in
          other_header from.0 from.1 (subst (λ (q : ℕ). In q (places_named classes from.0)) (eqb-true p b.head.seek e) from.2))

      pub not_referred : is_referred new b ≡ false
      not_referred = λ j. not_first j || not_list j || not_item j || not_named j

pub tree_goes : TreeGoes
tree_goes file links r has header = record {
  records = records_less file links r has header;
  baskets = λ m is b i named. not_referred file links r has header m is b (in_contained b (keyed_records links) i)
      (in_contained b.head.seek (places_named (file_classes (info_key (keyed_records links))) r) named);
}
