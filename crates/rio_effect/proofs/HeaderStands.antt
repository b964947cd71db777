-- With the header of a tree the records stand for the state with the tree.
use Rattle.std.proofs.Common.{◌≡◌, ◌⊎◌, inl, inr, ℕ, ◌∙◌, List, [], ◌∷◌, Bool, true, false, cond, not, ◌&&◌, ◌||◌, ◌==◌, Option, Some, None, nat_lt, refl, sym, ap, subst, arith}
use Rattle.std.proofs.{lemmas.Bool.{and_from, and_left, and_parts, and_right, eq-eqb, eqb-true, ltb-true, not-true}, lemmas.Slice.Eq.{bytes_eq-Decides}}
use Rattle.std.specs.{Prelude.{is_some, option_and_then}, FinMap.{get, get-insert, insert}, List.{filter, find, list_all, list_any}, Option.{option_map_or}, Str.{bytes_eq}}
use Rattle.rio_num.proofs.BytesEq.{bytes_eq-sym}
use Rattle.rio_machine.proofs.OrderLaws.{names_total}
use Rattle.rio_machine.specs.State.{Row, State}
use Rattle.rio_tree.specs.{declared.basket_at.BasketAt.{BasketAt}, declared.head.TreeHead.{TreeHead}}
use Rattle.rio_state.specs.{Contents.{FileClasses, file_classes, object_in, state_classes}, OneMore.{HasOneMoreIn}, Reads.{AreRecordsOf, StandsForState, is_named_key}}
use Rattle.rio_state.specs.KeyedRecords.{KeyedRecord, begins_at, first_place, has_info_name, has_item, info_key, is_elsewhere, is_in_directory, is_internal, is_mixed_name, is_outdated, is_top_key, is_tree_key, is_tree_record, item_of_key, object_records, record_at, top_keys, tree_records}
use Rattle.rio_state.specs.Trees.{TreesBeside, all_places_named, are_named_once, basket_bytes, basket_places, header_in, places_named, records_before, saved_rows, saved_tree, tree_of, tree_under}
use Rattle.rio_state.proofs.{Collected.{name_same}, Insertion.{all_more, any_more, filter_more, filter_same, find_same}, KeysFollow.{in_before, in_new, in_still}}
use Rattle.rio_state.proofs.{Members.{In, all_at, any_from, contains_in, filter_in, found, in_filter, none_at, none_from}, ObjectStands.{distinct_more}, Places.{flat_map_in}, SavedRows.{HasBasket, rows_same, rows_there}, Stays.{info_same}}
use Rattle.rio_state.proofs.{TreeGone.{tree_from}, TreesSame.{HoldsTree, holds_tree, in_flat_map, none_there, place_same}}
use Rattle.rio_effect.proofs.Needs.{not_info}
use Rattle.rio_effect.specs.Headers.{HeaderTakesEffect, IsNextHeader, stands_against, with_saved_tree}

-- ---- lists

-- with other places before, of which none is among these but one of those before, they are named once too
once_still : (before after ps : List ℕ) → ((p : ℕ) → In p ps → In p after → In p before) → are_named_once before ps ≡ true → are_named_once after ps ≡ true
once_still before after [] within once = refl
once_still before after (q ∷ qs) within once =
    let parts = and_parts (not (list_any (λ o. q == o) before)) (are_named_once (q ∷ before) qs) once in
    let none = none_from (λ o. q == o) after (λ o i e. none_at (λ o. q == o) q before (not-true _ parts.0) (within q (inl refl) (subst (λ (k : ℕ). In k after) (sym (eqb-true q o e)) i)) (eq-eqb q q refl)) in
    and_from _ _ (ap not none) (once_still (q ∷ before) (q ∷ after) qs more parts.1)
  where
    more : (p : ℕ) → In p qs → (q ≡ p) ⊎ In p after → (q ≡ p) ⊎ In p before
    more p i (inl same) = inl same
    more p i (inr j) = inr (within p (inr i) j)

find_filter : {A : Type 0} (p q : A → Bool) (xs : List A) → find p (filter q xs) ≡ find (λ x. q x && p x) xs
find_filter p q [] = refl
find_filter p q (x ∷ xs) = by (q x) (find_filter p q xs)
  where
    by : (b : Bool) → find p (filter q xs) ≡ find (λ y. q y && p y) xs → find p (cond b (x ∷ filter q xs) (filter q xs)) ≡ cond (b && p x) (Some x) (find (λ y. q y && p y) xs)
    by true rest = ap (cond (p x) (Some x)) rest
    by false rest = rest

find_agree : {A : Type 0} (p q : A → Bool) (xs : List A) → ((x : A) → In x xs → p x ≡ q x) → find p xs ≡ find q xs
find_agree p q [] same = refl
find_agree p q (x ∷ xs) same =
    let here = same x (inl refl) in
    let rest = find_agree p q xs (λ y i. same y (inr i)) in
    λ i. cond (here i) (Some x) (rest i)

-- the one that passes is found, where no other does
find_only : {A : Type 0} (p : A → Bool) (x : A) (xs : List A) → p x ≡ true → ((y : A) → In y xs → p y ≡ true → y ≡ x) → In x xs → find p xs ≡ Some x
find_only p x [] passes only i = absurd i
find_only p x (y ∷ ys) passes only i = by (p y) refl i (λ j. find_only p x ys passes (λ z k. only z (inr k)) j)
  where
    by : (b : Bool) → p y ≡ b → (y ≡ x) ⊎ In x ys → (In x ys → find p ys ≡ Some x) → cond b (Some y) (find p ys) ≡ Some x
    by true e i rest = ap Some (only y (inl refl) e)
    by false e (inl same) rest = let f : false ≡ true = sym e ∙ ap p same ∙ passes in absurd cc
    by false e (inr j) rest = rest j

each_true : {A : Type 0} (p : A → Bool) (xs : List A) → ((x : A) → In x xs → p x ≡ true) → list_all p xs ≡ true
each_true p [] passes = refl
each_true p (x ∷ xs) passes = and_from _ _ (passes x (inl refl)) (each_true p xs (λ y i. passes y (inr i)))

-- the places that a header names which is read
places_of : (classes : FileClasses) (r : KeyedRecord) (head : TreeHead) → header_in classes r ≡ Some head → places_named classes r ≡ basket_places head
unfolding places_named
places_of classes r head is = ap (λ (o : Option TreeHead). option_map_or basket_places o []) is

module _ (old new : List KeyedRecord) (r : KeyedRecord) (head : TreeHead) (rows : List Row) (m : State) (h : HasOneMoreIn old new r) (free : begins_at old r.head.seek ≡ false)
    (next : IsNextHeader old r head rows) (is : AreRecordsOf old m) where
  abbrev tops : List KeyedRecord
  tops = top_keys old

  abbrev more : List KeyedRecord
  more = top_keys new

  abbrev classes : FileClasses
  classes = file_classes (info_key old)

  abbrev s : StandsForState old (info_key old) tops m
  s = is.stand

  tops_more : HasOneMoreIn tops more r
  tops_more = filter_more (λ k. is_top_key k.head) r old new h next.top

  info : info_key new ≡ info_key old
  info = info_same old new r h (not_info r.head next.top)

  -- ---- keys of the name

  -- a key of the name is a header of a lower cycle
  of_name : (k : KeyedRecord) → In k tops → bytes_eq k.head.name r.head.name ≡ true → (is_tree_key k.head ≡ true) × (nat_lt k.head.cycle r.head.cycle ≡ true)
  of_name k i e = by (is_tree_key k.head) (nat_lt k.head.cycle r.head.cycle) (against (stands_against r k) refl)
    where
      against : (b : Bool) → stands_against r k ≡ b → (not (is_tree_key k.head) || not (nat_lt k.head.cycle r.head.cycle)) ≡ false
      against true a = absurd (none_at (stands_against r) k tops next.newest i a)
      against false a = sym (ap (λ (b : Bool). b && (not (is_tree_key k.head) || not (nat_lt k.head.cycle r.head.cycle))) e) ∙ a

      by : (a b : Bool) → (not a || not b) ≡ false → (a ≡ true) × (b ≡ true)
      by true true e = (refl, refl)
      by true false e = absurd cc
      by false b e = absurd cc

  abbrev beats : KeyedRecord → KeyedRecord → Bool
  beats k t = is_tree_key t.head && bytes_eq t.head.name k.head.name && nat_lt k.head.cycle t.head.cycle

  -- of another name it is outdated where it was
  same_outdated : (k : KeyedRecord) → bytes_eq k.head.name r.head.name ≡ false → is_outdated more k ≡ is_outdated tops k
  same_outdated k other =
      any_more (beats k) r tops more tops_more
      (and_left _ (nat_lt k.head.cycle r.head.cycle) (and_right (is_tree_key r.head) _ (bytes_eq-sym r.head.name k.head.name ∙ other)))

  same_greatest : (k : KeyedRecord) → bytes_eq k.head.name r.head.name ≡ false → is_tree_record more k ≡ is_tree_record tops k
  same_greatest k other = ap (λ b. is_tree_key k.head && not b) (same_outdated k other)

  -- of the name it is outdated
  beaten : (k : KeyedRecord) → In k tops → bytes_eq k.head.name r.head.name ≡ true → is_tree_record more k ≡ false
  beaten k i e =
      let lower = of_name k i e in
      let own : beats k r ≡ true = and_from _ _ (and_from _ _ next.tree (bytes_eq-sym r.head.name k.head.name ∙ e)) lower.1 in
      and_right (is_tree_key k.head) (not (is_outdated more k)) (ap not (any_from (beats k) r more (in_new tops more r tops_more) own))

  -- r isn't
  unbeaten : is_tree_record more r ≡ true
  unbeaten =
      and_from _ _ next.tree (ap not (none_from (beats r) more (λ t i e. which t (in_before tops more r tops_more t i) e)))
    where
      which : (t : KeyedRecord) → (r ≡ t) ⊎ In t tops → beats r t ≡ true → ⊥
      which t (inl same) e =
          let lower = (and_parts (is_tree_key t.head && bytes_eq t.head.name r.head.name) (nat_lt r.head.cycle t.head.cycle) e).1 in
          let lt = ltb-true r.head.cycle t.head.cycle lower in
          let cycle = ap (λ (k : KeyedRecord). k.head.cycle) same in
          omega (arith, lt, cycle)
      which t (inr i) e =
          let parts = and_parts (is_tree_key t.head && bytes_eq t.head.name r.head.name) (nat_lt r.head.cycle t.head.cycle) e in
          let name = (and_parts (is_tree_key t.head) (bytes_eq t.head.name r.head.name) parts.0).1 in
          let lower = ltb-true t.head.cycle r.head.cycle (of_name t i name).1 in
          let lt = ltb-true r.head.cycle t.head.cycle parts.1 in
          omega (arith, lt, lower)

  -- ---- headers

  abbrev before : List KeyedRecord
  before = tree_records tops

  abbrev after : List KeyedRecord
  after = tree_records more

  r_after : In r after
  r_after = in_filter (is_tree_record more) r more (in_new tops more r tops_more) unbeaten

  -- a header that counts is this one, or one of before of another name
  data Counts (t : KeyedRecord) : Type 0 where
    own_header : r ≡ t → Counts t
    other_header : In t before → bytes_eq t.head.name r.head.name ≡ false → Counts t

  counts : (t : KeyedRecord) → In t after → Counts t
  counts t i = by (in_before tops more r tops_more t kept.0) (bytes_eq t.head.name r.head.name) refl
    where
      kept : In t more × (is_tree_record more t ≡ true)
      kept = filter_in (is_tree_record more) t more i

      by : (r ≡ t) ⊎ In t tops → (b : Bool) → bytes_eq t.head.name r.head.name ≡ b → Counts t
      by (inl same) b e = own_header same
      by (inr j) true e = let f : true ≡ false = sym kept.1 ∙ beaten t j e in absurd cc
      by (inr j) false e = other_header (in_filter (is_tree_record tops) t tops j (sym (same_greatest t e) ∙ kept.1)) e

  still_counts : (t : KeyedRecord) → In t before → bytes_eq t.head.name r.head.name ≡ false → In t after
  still_counts t i e =
      let kept = filter_in (is_tree_record tops) t tops i in
      in_filter (is_tree_record more) t more (in_still tops more r tops_more t kept.0) (same_greatest t e ∙ kept.1)

  abbrev beside_old : TreesBeside
  beside_old = record { classes = classes; records = old; headers = before }

  abbrev beside_new : TreesBeside
  beside_new = record { classes = classes; records = new; headers = after }

  -- ---- trees

  -- the rows of a header that has them among the old records
  rows_still : (hd : TreeHead) (rs : List Row) → saved_rows classes.declared (record_at old) hd ≡ Some rs → saved_rows classes.declared (record_at new) hd ≡ Some rs
  rows_still hd rs e = sym (rows_same (record_at old) (record_at new) classes.declared hd (λ at has. by at has (r.head.seek == at.seek) refl)) ∙ e
    where
      by : (at : BasketAt) → HasBasket hd at → (b : Bool) → (r.head.seek == at.seek) ≡ b → basket_bytes (record_at old) at ≡ basket_bytes (record_at new) at
      by at has true same =
          let none = none_there old at (ap (begins_at old) (sym (eqb-true _ _ same)) ∙ free) in
          let there = rows_there (record_at old) classes.declared hd (ap is_some e) at has in
          let f : true ≡ false = sym there ∙ none in absurd cc
      by at has false other = place_same old new r h at other

  own_tree : tree_of beside_new r ≡ Some (saved_tree r head rows)
  own_tree =
      tree_from beside_new r head rows next.header (rows_still head rows next.rows_are)
      (once_still [] (all_places_named classes (records_before after r)) (basket_places head) (λ p i j. absurd (unnamed p i j)) next.once)
    where
      unnamed : (p : ℕ) → In p (basket_places head) → In p (all_places_named classes (records_before after r)) → ⊥
      unnamed p i j =
          let from = flat_map_in (places_named classes) p (records_before after r) j in
          let kept = filter_in (λ k. nat_lt k.head.seek r.head.seek) from.0 after from.1 in
          by from.0 (counts from.0 kept.0) kept.1 from.2
        where
          by : (t : KeyedRecord) → Counts t → nat_lt t.head.seek r.head.seek ≡ true → In p (places_named classes t) → ⊥
          by t (own_header same) low k =
              let lt = ltb-true t.head.seek r.head.seek low in
              let seek = ap (λ (k : KeyedRecord). k.head.seek) same in omega (arith, lt, seek)
          by t (other_header among name) low k = next.apart t p (contains_in t before among) name (contains_in p (places_named classes t) k) (contains_in p (basket_places head) i)

  other_tree : (t : KeyedRecord) → In t before → bytes_eq t.head.name r.head.name ≡ false → tree_of beside_new t ≡ tree_of beside_old t
  other_tree t i_t other =
      let held = holds_tree beside_old t (all_at (λ k. is_some (tree_of beside_old k)) t before s.tree_readable i_t) in
      tree_from beside_new t held.head held.rows held.header (rows_still held.head held.rows held.rows_are)
      (once_still (all_places_named classes (records_before before t)) (all_places_named classes (records_before after t)) (basket_places held.head) (within held) held.once)
      ∙ sym held.tree
    where
      within : (held : HoldsTree beside_old t) → (p : ℕ) → In p (basket_places held.head) → In p (all_places_named classes (records_before after t)) → In p (all_places_named classes (records_before before t))
      within held p i j =
          let from = flat_map_in (places_named classes) p (records_before after t) j in
          let kept = filter_in (λ k. nat_lt k.head.seek t.head.seek) from.0 after from.1 in
          by from.0 (counts from.0 kept.0) kept.1 from.2
        where
          own_places : In p (places_named classes t)
          own_places = subst (λ (ps : List ℕ). In p ps) (sym (places_of classes t held.head held.header)) i

          by : (u : KeyedRecord) → Counts u → nat_lt u.head.seek t.head.seek ≡ true → In p (places_named classes u) → In p (all_places_named classes (records_before before t))
          by u (other_header among name) low k = in_flat_map (places_named classes) p u (records_before before t) (in_filter (λ x. nat_lt x.head.seek t.head.seek) u before among low) k
          by u (own_header same) low k =
              let own = subst (λ (x : KeyedRecord). In p (places_named classes x)) (sym same) k in
              let named = subst (λ (ps : List ℕ). In p ps) (places_of classes r head next.header) own in
              absurd (next.apart t p (contains_in t before i_t) other (contains_in p (places_named classes t) own_places) (contains_in p (basket_places head) named))

  -- a tree that counts is read
  tree_read : (t : KeyedRecord) → In t after → is_some (tree_of beside_new t) ≡ true
  tree_read t i = by (counts t i)
    where
      by : Counts t → is_some (tree_of beside_new t) ≡ true
      by (own_header same) = ap (λ (k : KeyedRecord). is_some (tree_of beside_new k)) (sym same) ∙ ap is_some own_tree
      by (other_header among other) = ap is_some (other_tree t among other) ∙ all_at (λ k. is_some (tree_of beside_old k)) t before s.tree_readable among

  -- ---- the trees of the state

  module _ (name : List ℕ) where
    abbrev is_named : KeyedRecord → Bool
    is_named t = bytes_eq t.head.name name

    own_found : is_named r ≡ true → find is_named after ≡ Some r
    own_found e = find_only is_named r after e (λ t i same. by t (counts t i) same) r_after
      where
        name_is : name ≡ r.head.name
        name_is = sym ((bytes_eq-Decides r.head.name name).0 e)

        by : (t : KeyedRecord) → Counts t → is_named t ≡ true → t ≡ r
        by t (own_header same) n = sym same
        by t (other_header among other) n = let f : true ≡ false = sym n ∙ ap (bytes_eq t.head.name) name_is ∙ other in absurd cc

    other_name : is_named r ≡ false → (t : KeyedRecord) → is_named t ≡ true → bytes_eq t.head.name r.head.name ≡ false
    other_name e t n =
        let same = (bytes_eq-Decides t.head.name name).0 n in
        ap (λ (k : List ℕ). bytes_eq k r.head.name) same ∙ bytes_eq-sym name r.head.name ∙ e

    other_found : is_named r ≡ false → find is_named after ≡ find is_named before
    other_found e =
        find_filter is_named (is_tree_record more) more
        ∙ find_same (λ x. is_tree_record more x && is_named x) r tops more tops_more (and_right (is_tree_record more r) (is_named r) e)
        ∙ find_agree (λ x. is_tree_record more x && is_named x) (λ x. is_tree_record tops x && is_named x) tops (λ x i. by x (is_named x) refl)
        ∙ sym (find_filter is_named (is_tree_record tops) tops)
      where
        by : (x : KeyedRecord) (b : Bool) → is_named x ≡ b → (is_tree_record more x && is_named x) ≡ (is_tree_record tops x && is_named x)
        by x true n = ap (λ (b : Bool). b && is_named x) (same_greatest x (other_name e x n))
        by x false n = and_right (is_tree_record more x) (is_named x) n ∙ sym (and_right (is_tree_record tops x) (is_named x) n)

    under_same : is_named r ≡ false → tree_under beside_new name ≡ tree_under beside_old name
    under_same e = ap (option_and_then (tree_of beside_new)) (other_found e) ∙ by (find is_named before) refl
      where
        by : (o : Option KeyedRecord) → find is_named before ≡ o → option_and_then (tree_of beside_new) o ≡ option_and_then (tree_of beside_old) o
        by None f = refl
        by (Some t) f = let x = found is_named t before f in other_tree t x.among (other_name e t x.passes)

    trees_hold : get (insert m.trees r.head.name (saved_tree r head rows)) name ≡ tree_under beside_new name
    trees_hold =
        get-insert names_total m.trees r.head.name (saved_tree r head rows) name
        ∙ ap (λ b. cond b (Some (saved_tree r head rows)) (get m.trees name)) (name_same name r)
        ∙ by (is_named r) refl
      where
        by : (b : Bool) → is_named r ≡ b → cond b (Some (saved_tree r head rows)) (get m.trees name) ≡ tree_under beside_new name
        by true e = sym (ap (option_and_then (tree_of beside_new)) (own_found e) ∙ own_tree)
        by false e = s.trees name ∙ sym (under_same e)

  -- ---- names

  new_item : list_any (has_item (item_of_key r.head)) tops ≡ false
  new_item =
      none_from (has_item (item_of_key r.head)) tops (λ k i e.
      let parts = and_parts (bytes_eq k.head.name r.head.name) (k.head.cycle == r.head.cycle) e in
      let lower = ltb-true k.head.cycle r.head.cycle (of_name k i parts.0).1 in
      let same = eqb-true k.head.cycle r.head.cycle parts.1 in
      omega (arith, lower, same))

  abbrev is_object_named : List ℕ → KeyedRecord → Bool
  is_object_named name k = bytes_eq k.head.name name && not (is_tree_key k.head)

  abbrev is_header_named : List ℕ → KeyedRecord → Bool
  is_header_named name k = bytes_eq k.head.name name && is_tree_key k.head

  unmixed : (t : KeyedRecord) → In t more → is_mixed_name more t.head.name ≡ false
  unmixed t i = by (bytes_eq r.head.name t.head.name) refl (in_before tops more r tops_more t i)
    where
      no_object : bytes_eq r.head.name t.head.name ≡ true → (k : KeyedRecord) → (r ≡ k) ⊎ In k tops → is_object_named t.head.name k ≡ true → ⊥
      no_object e k (inl same) o =
          let parts = and_parts (bytes_eq k.head.name t.head.name) (not (is_tree_key k.head)) o in
          let tree : is_tree_key k.head ≡ true = ap (λ (x : KeyedRecord). is_tree_key x.head) (sym same) ∙ next.tree in
          let f : false ≡ true = sym (ap not tree) ∙ parts.1 in absurd cc
      no_object e k (inr j) o =
          let parts = and_parts (bytes_eq k.head.name t.head.name) (not (is_tree_key k.head)) o in
          let name = ap (bytes_eq k.head.name) ((bytes_eq-Decides r.head.name t.head.name).0 e) ∙ parts.0 in
          let f : false ≡ true = sym (ap not (of_name k j name).0) ∙ parts.1 in absurd cc

      by : (b : Bool) → bytes_eq r.head.name t.head.name ≡ b → (r ≡ t) ⊎ In t tops → is_mixed_name more t.head.name ≡ false
      by true e j =
          and_right (list_any (is_header_named t.head.name) more) _ (none_from (is_object_named t.head.name) more (λ k x o. no_object e k (in_before tops more r tops_more k x) o))
      by false e (inl same) = let f : false ≡ true = sym e ∙ (bytes_eq-Decides r.head.name t.head.name).1 (ap (λ (k : KeyedRecord). k.head.name) same) in absurd cc
      by false e (inr j) =
          let headers = any_more (is_header_named t.head.name) r tops more tops_more (and_left (bytes_eq r.head.name t.head.name) (is_tree_key r.head) e) in
          let objects = any_more (is_object_named t.head.name) r tops more tops_more (and_left (bytes_eq r.head.name t.head.name) (not (is_tree_key r.head)) e) in
          (λ x. headers x && objects x) ∙ not-true _ (all_at (λ k. not (is_mixed_name tops k.head.name)) t tops s.apart j)

  -- ---- the state

  same_objects : object_records more ≡ object_records tops
  same_objects = filter_same (λ t. not (is_tree_key t.head)) r tops more tops_more (ap not next.tree)

  not_elsewhere : is_elsewhere r.head ≡ false
  not_elsewhere =
      let inside = (and_parts (is_in_directory r.head) (not (has_info_name r.head)) next.top).0 in
      let at = (and_parts (r.head.pdir == first_place) (not (is_internal r.head)) inside).0 in
      and_left (not (r.head.pdir == first_place)) (not (is_internal r.head)) (ap not at)

  stands : StandsForState new (info_key old) more (with_saved_tree m r head rows)
  stands = record {
    listed = s.listed;
    classes = s.classes;
    named = all_more (λ t. is_named_key t.head) r tops more tops_more next.named s.named;
    distinct = distinct_more r tops more tops_more s.distinct new_item;
    apart = each_true (λ t. not (is_mixed_name more t.head.name)) more (λ t i. ap not (unmixed t i));
    readable = ap (list_all (λ t. is_some (object_in (state_classes (info_key old)) t))) same_objects ∙ s.readable;
    objects = λ item. s.objects item ∙ ap (λ (rs : List KeyedRecord). option_and_then (object_in (state_classes (info_key old))) (find (has_item item) rs)) (sym same_objects);
    tree_readable = each_true (λ t. is_some (tree_of beside_new t)) after tree_read;
    trees = trees_hold;
  }

  pub header_stands : AreRecordsOf new (with_saved_tree m r head rows)
  header_stands = record {
    here = all_more (λ t. not (is_elsewhere t.head)) r old new h (ap not not_elsewhere) is.here;
    stand = subst (λ (o : Option KeyedRecord). StandsForState new o more (with_saved_tree m r head rows)) (sym info) stands;
  }

pub header_takes_effect : HeaderTakesEffect
header_takes_effect old new r head rows m h free next is = header_stands old new r head rows m h free next is
