-- The trees of a file without the header of one, and without records that nothing refers to.
use Rattle.std.proofs.Common.{◌≡◌, ◌∙◌, inl, inr, ℕ, zero, suc, ◌≤◌, ◌==◌, Bool, true, false, cond, not, ◌&&◌, ◌||◌, List, [], ◌∷◌, ◌++◌, length, take, Option, Some, None, refl, sym, ap, subst, arith}
use Rattle.std.proofs.lemmas.{Bool.{and_parts, eq-eqb, or_parts}, List.Sorted.{Contains-permutation}, Slice.Eq.{bytes_eq-Decides}}
use Rattle.std.specs.{List.{cons_option, filter, find, list_any, Sorted.{IsPermutation}}, Option.{option_map, option_map_or}, Set.{remove_key}, Str.{bytes_eq}}
use Rattle.rio_chain.specs.{Changes.{without_record}, Segments.{IsChain, Link}}
use Rattle.rio_machine.specs.State.{State}
use Rattle.rio_tree.specs.declared.head.TreeHead.{TreeHead}
use Rattle.rio_state.specs.{Contents.{FileClasses, file_classes}, KeyedRecords.{KeyedRecord, begins_at, first_place, info_key, is_tree_key, is_tree_record, keyed_records, top_keys, tree_records}}
use Rattle.rio_state.specs.{OneLess.{HasRecord, links_without}, OneMore.{HasOneMoreIn}, Reads.{AreRecordsOf, info_place}, Referred.{is_item_record, is_named_basket}, Trees.{basket_places, header_in, places_named, trees_beside}}
use Rattle.rio_state.proofs.{KeysFollow.{in_new}, LessRecords.{record_less}, Members.{In, any_from, contains_in, filter_in, in_contained, none_at, none_from}, Places.{AreDistinct, basket_there, once_distinct}, Unreferred.{part_without}}
use Rattle.rio_effect.specs.{Changes.{all_changed}, Garbage.{AreGarbage, ArePassed, IsGarbageAt, releases}, TreeDeletes.{HasHeader}}
use Rattle.rio_effect.proofs.{Garbage.{garbage_is_released}, HeaderLess.{headers_less, info}, TreeDeletes.{holds, last}}
use Rattle.rio_recover.specs.{TreeTable.{AreAfter, AreInOrder, has_name, is_name_before, without_tree}, Trees.{AreTreesOf, trees_at}}
use Rattle.rio_recover.specs.declared.trees.TreeAt.{TreeAt}
use Rattle.rio_recover.proofs.{TreeOrder.{before_other, behind_other}, TreesTaken.{ordered_without}}
use Rattle.rio_session.proofs.{Permuted.{filter_moved}}

-- ---- trees in order

-- a tree in order is found by its name
own_found : (t : TreeAt) (trees : List TreeAt) → AreInOrder trees → In t trees → find (has_name t.name) trees ≡ Some t
own_found t [] are i = absurd i
own_found t (u ∷ us) are (inl same) =
    ap (λ (b : Bool). cond b (Some u) (find (has_name t.name) us)) ((bytes_eq-Decides u.name t.name).1 (ap (λ (v : TreeAt). v.name) same)) ∙ ap (λ (v : TreeAt). let o : Option TreeAt = Some v in o) same
own_found t (u ∷ us) are (inr i) =
    ap (λ (b : Bool). cond b (Some u) (find (has_name t.name) us)) (before_other u.name t.name (later u.name us are.0 i)) ∙ own_found t us are.1 i
  where
    later : (name : List ℕ) (ts : List TreeAt) → AreAfter name ts → In t ts → is_name_before name t.name ≡ true
    later name [] are i = absurd i
    later name (v ∷ vs) are (inl same) = subst (λ (w : TreeAt). is_name_before name w.name ≡ true) same are.0
    later name (v ∷ vs) are (inr i) = later name vs are.1 i

abbrev others : List ℕ → TreeAt → Bool
others name t = not (has_name name t)

-- behind a name there are no trees of that name
none_behind : (name : List ℕ) (ts : List TreeAt) → AreAfter name ts → filter (others name) ts ≡ ts
none_behind name [] are = refl
none_behind name (t ∷ ts) are =
    ap (λ (b : Bool). cond (not b) (t ∷ filter (others name) ts) (filter (others name) ts)) (behind_other name t.name are.0) ∙ ap (λ (l : List TreeAt). t ∷ l) (none_behind name ts are.1)

left_in_order : (name : List ℕ) (trees : List TreeAt) → AreInOrder trees → filter (others name) trees ≡ without_tree name trees
left_in_order name [] are = refl
left_in_order name (t ∷ ts) are = by (has_name name t) refl (left_in_order name ts are.1)
  where
    by : (b : Bool) → has_name name t ≡ b → filter (others name) ts ≡ remove_key (has_name name) ts
        → cond (not b) (t ∷ filter (others name) ts) (filter (others name) ts) ≡ cond b ts (t ∷ remove_key (has_name name) ts)
    by true is rest = none_behind name ts (subst (λ (n : List ℕ). AreAfter n ts) ((bytes_eq-Decides t.name name).0 is) are.0)
    by false is rest = ap (λ (l : List TreeAt). t ∷ l) rest

-- ---- the trees of some headers

module _ (classes : FileClasses) where
  named : List ℕ → KeyedRecord → Bool
  named name r = bytes_eq r.head.name name

  -- those of other names are left
  others_kept : (name : List ℕ) (headers : List KeyedRecord) → list_any (named name) headers ≡ false → filter (others name) (trees_at classes headers) ≡ trees_at classes headers
  unfolding named
  others_kept name [] none = refl
  others_kept name (r ∷ rs) none = by (header_in classes r) (others_kept name rs parts.1)
    where
      parts : (named name r ≡ false) × (list_any (named name) rs ≡ false)
      parts = or_parts (named name r) (list_any (named name) rs) none

      by : (o : Option TreeHead) → filter (others name) (trees_at classes rs) ≡ trees_at classes rs
          → filter (others name) (cons_option (option_map (λ (head : TreeHead). let t : TreeAt = record { name = r.head.name; head = head } in t) o) (trees_at classes rs))
          ≡ cons_option (option_map (λ (head : TreeHead). let t : TreeAt = record { name = r.head.name; head = head } in t) o) (trees_at classes rs)
      by None rest = rest
      by (Some head) rest =
          let t : TreeAt = record { name = r.head.name; head = head } in
          ap (λ (b : Bool). cond (not b) (t ∷ filter (others name) (trees_at classes rs)) (filter (others name) (trees_at classes rs))) parts.0
          ∙ ap (λ (l : List TreeAt). t ∷ l) rest

  -- without the header of the name
  one_left : (name : List ℕ) (r : KeyedRecord) → r.head.name ≡ name → (front back : List KeyedRecord) → list_any (named name) (front ++ back) ≡ false
      → filter (others name) (trees_at classes (front ++ r ∷ back)) ≡ trees_at classes (front ++ back)
  unfolding named
  one_left name r own [] back none = by (header_in classes r)
    where
      by : (o : Option TreeHead)
          → filter (others name) (cons_option (option_map (λ (head : TreeHead). let t : TreeAt = record { name = r.head.name; head = head } in t) o) (trees_at classes back)) ≡ trees_at classes back
      by None = others_kept name back none
      by (Some head) =
          let t : TreeAt = record { name = r.head.name; head = head } in
          ap (λ (b : Bool). cond (not b) (t ∷ filter (others name) (trees_at classes back)) (filter (others name) (trees_at classes back))) ((bytes_eq-Decides r.head.name name).1 own)
          ∙ others_kept name back none
  one_left name r own (s ∷ front) back none = by (header_in classes s) (one_left name r own front back parts.1)
    where
      parts : (named name s ≡ false) × (list_any (named name) (front ++ back) ≡ false)
      parts = or_parts (named name s) (list_any (named name) (front ++ back)) none

      by : (o : Option TreeHead) → filter (others name) (trees_at classes (front ++ r ∷ back)) ≡ trees_at classes (front ++ back)
          → filter (others name) (cons_option (option_map (λ (head : TreeHead). let t : TreeAt = record { name = s.head.name; head = head } in t) o) (trees_at classes (front ++ r ∷ back)))
          ≡ cons_option (option_map (λ (head : TreeHead). let t : TreeAt = record { name = s.head.name; head = head } in t) o) (trees_at classes (front ++ back))
      by None rest = rest
      by (Some head) rest =
          let t : TreeAt = record { name = s.head.name; head = head } in
          ap (λ (b : Bool). cond (not b) (t ∷ filter (others name) (trees_at classes (front ++ r ∷ back))) (filter (others name) (trees_at classes (front ++ r ∷ back)))) parts.0
          ∙ ap (λ (l : List TreeAt). t ∷ l) rest

  -- a header that is read has its tree
  pub tree_among : (r : KeyedRecord) (head : TreeHead) (headers : List KeyedRecord) → header_in classes r ≡ Some head → In r headers → In (record { name = r.head.name; head = head }) (trees_at classes headers)
  tree_among r head [] read i = absurd i
  tree_among r head (s ∷ ss) read (inl same) =
      let is = ap (λ (k : KeyedRecord). header_in classes k) same ∙ read in
      subst (λ (o : Option TreeHead). In (record { name = r.head.name; head = head }) (cons_option (option_map (λ (h : TreeHead). let t : TreeAt = record { name = s.head.name; head = h } in t) o) (trees_at classes ss)))
      (sym is) (inl (λ i. record { name = (same i).head.name; head = head }))
  tree_among r head (s ∷ ss) read (inr i) = by (header_in classes s) (tree_among r head ss read i)
    where
      by : (o : Option TreeHead) → In (record { name = r.head.name; head = head }) (trees_at classes ss)
          → In (record { name = r.head.name; head = head }) (cons_option (option_map (λ (h : TreeHead). let t : TreeAt = record { name = s.head.name; head = h } in t) o) (trees_at classes ss))
      by None there = there
      by (Some h) there = inr there

-- ---- without the header

module _ (file : List ℕ) (links : List Link) (m : State) (r : KeyedRecord) (head : TreeHead) (trees : List TreeAt) (has : HasHeader file links r head) (is : AreRecordsOf (keyed_records links) m) (are : AreTreesOf (keyed_records links) trees) where
  abbrev old : List KeyedRecord
  old = keyed_records links

  abbrev new : List KeyedRecord
  new = keyed_records (links_without links r)

  abbrev classes : FileClasses
  classes = file_classes (info_key old)

  less : HasOneMoreIn (keyed_records (links_without links r)) (keyed_records links) r
  less = record_less file links r has.record_is

  fewer : HasOneMoreIn (tree_records (top_keys (keyed_records (links_without links r)))) (tree_records (top_keys (keyed_records links))) r
  fewer = headers_less old new r less has.items has.tree

  -- no other header has the name
  alone : list_any (λ s. bytes_eq s.head.name r.head.name) (tree_records (top_keys (keyed_records (links_without links r)))) ≡ false
  alone = none_from (λ s. bytes_eq s.head.name r.head.name) (tree_records (top_keys new)) (λ s i e.
      let among = filter_in (is_tree_record (top_keys new)) s (top_keys new) i in
      let tree = (and_parts (is_tree_key s.head) _ among.1).0 in
      none_at (λ t. bytes_eq t.head.name r.head.name && is_tree_key t.head) s (top_keys new) (last file links m r head has is).last among.0 (λ j. e j && tree j))

  left : filter (others r.head.name) (trees_at (file_classes (info_key (keyed_records links))) (tree_records (top_keys (keyed_records links))))
      ≡ trees_at (file_classes (info_key (keyed_records links))) (tree_records (top_keys (keyed_records (links_without links r))))
  unfolding named
  left =
      ap (λ (hs : List KeyedRecord). filter (others r.head.name) (trees_at classes hs)) fewer.after
      ∙ one_left classes r.head.name r refl fewer.front fewer.back (ap (list_any (λ s. bytes_eq s.head.name r.head.name)) (sym fewer.before) ∙ alone)
      ∙ ap (trees_at classes) (sym fewer.before)

  pub tree_is_gone : AreTreesOf (keyed_records (links_without links r)) (without_tree r.head.name trees)
  tree_is_gone =
      let same = info old new r less has.items has.tree in
      let moved = filter_moved (others r.head.name) (trees_at classes (tree_records (top_keys old))) trees are.each in
      record {
        ordered = ordered_without (has_name r.head.name) trees are.ordered;
        each = subst (λ (x : List TreeAt × List TreeAt). IsPermutation x.0 x.1) (λ i. ((left ∙ ap (λ (o : Option KeyedRecord). trees_at (file_classes o) (tree_records (top_keys new))) (sym same)) i, left_in_order r.head.name trees are.ordered i)) moved;
      }

  among : In r (tree_records (top_keys (keyed_records links)))
  among = in_new (tree_records (top_keys new)) (tree_records (top_keys old)) r fewer

  -- a record begins at the place of each of its baskets
  pub place_begins : (p : ℕ) → In p (basket_places head) → begins_at (keyed_records links) p ≡ true
  unfolding places_named
  place_begins p i =
      let named_is : places_named classes r ≡ basket_places head = ap (λ (o : Option TreeHead). option_map_or basket_places o []) has.header in
      let b = basket_there (trees_beside (info_key old) old (top_keys old)) r (holds old m r is among) p (subst (λ (ps : List ℕ). In p ps) (sym named_is) i) in
      any_from (λ k. k.head.seek == p) b.b old b.among (eq-eqb b.b.head.seek p b.seek)

  -- the header's tree is the one of its name
  pub own_tree : find (has_name r.head.name) trees ≡ Some (record { name = r.head.name; head = head })
  own_tree =
      let t : TreeAt = record { name = r.head.name; head = head } in
      let there = tree_among classes r head (tree_records (top_keys old)) has.header among in
      own_found t trees are.ordered (in_contained t trees (Contains-permutation (trees_at classes (tree_records (top_keys old))) trees t are.each (contains_in t (trees_at classes (tree_records (top_keys old))) there)))

-- ---- without records that nothing refers to

-- the headers stay
headers_stay : (links : List Link) (places : List ℕ) (k : ℕ) → ((p : ℕ) → In p places → IsGarbageAt links p) → AreDistinct places → k ≤ length places → ArePassed links (releases places) k
    → tree_records (top_keys (keyed_records (all_changed links (take k (releases places))))) ≡ tree_records (top_keys (keyed_records links))
headers_stay links [] zero each apart within passed = refl
headers_stay links [] (suc k) each apart within passed = absurd (omega (arith, within))
headers_stay links (p ∷ ps) zero each apart within passed = refl
headers_stay links (p ∷ ps) (suc k) each apart within passed =
    let now = passed 0 (omega arith) in
    let one = garbage_is_released now.0 links p now.1 (each p (inl refl)) in
    let rest = headers_stay (without_record p links) ps k (λ q i. one.others q (λ same. apart.0 (subst (λ (x : ℕ). In x ps) same i)) (each q (inr i))) apart.1 (omega (arith, within))
    (λ j low. passed (suc j) (omega (arith, low))) in
    rest ∙ first now.0 now.1
  where
    first : (file : List ℕ) → IsChain links file → tree_records (top_keys (keyed_records (without_record p links))) ≡ tree_records (top_keys (keyed_records links))
    first file chain =
        let g = each p (inl refl) in
        let has : HasRecord file links g.r = record { chain = chain; among = g.among } in
        let none = (or_parts ((g.r.head.seek == first_place) || (g.r.head.seek == info_place (info_key (keyed_records links)))) (is_item_record (top_keys (keyed_records links)) g.r)
        (or_parts ((g.r.head.seek == first_place) || (g.r.head.seek == info_place (info_key (keyed_records links))) || is_item_record (top_keys (keyed_records links)) g.r) (is_named_basket (keyed_records links) g.r) g.free).0).1 in
        let part = part_without (keyed_records links) (keyed_records (links_without links g.r)) g.r (record_less file links g.r has) none in
        ap (λ (q : ℕ). tree_records (top_keys (keyed_records (without_record q links)))) (sym g.seek) ∙ part.trees

pub headers_after : (links : List Link) (places : List ℕ) (k : ℕ) → AreGarbage links places → k ≤ length places → ArePassed links (releases places) k
    → tree_records (top_keys (keyed_records (all_changed links (take k (releases places))))) ≡ tree_records (top_keys (keyed_records links))
headers_after links places k are within passed = headers_stay links places k (λ p i. are.each p (contains_in p places i)) (once_distinct [] places are.once) within passed
