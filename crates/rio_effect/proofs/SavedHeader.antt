-- The header of a save represents all rows of the tree, once the open baskets are put.
use Rattle.std.proofs.Common.{◌≡◌, ⊎_elim, ℕ, ◌+◌, ◌∙◌, List, [], ◌++◌, length, map, true, false, not, ◌||◌, ◌==◌, nat_lt, Option, Some, refl, sym, ap, subst, arith}
use Rattle.std.proofs.lemmas.{Bool.{and_parts, eqb-true, lt-ltb}, List.{length-append, length-map}, Option.{same_Some}}
use Rattle.std.specs.{List.{Contains, find, list_all, list_any}, Option.{option_map_or}, Str.{bytes_eq}}
use Rattle.rio_leaf.specs.declared.branch.BranchDef.{BranchDef}
use Rattle.rio_format.specs.declared.class.ClassDef.{ClassDef}
use Rattle.rio_key.specs.{declared.head.KeyHead.{KeyHead}, Cut.{cut_of}}
use Rattle.rio_chain.specs.Segments.{IsChain, Link}
use Rattle.rio_machine.specs.{Rows.{entries_of}, State.{Row, State, Tree}}
use Rattle.rio_tree.specs.{WrittenLaws.{stated_defs}, declared.basket_at.BasketAt.{BasketAt}, declared.head.TreeHead.{TreeHead}}
use Rattle.rio_state.specs.{Contents.{file_classes}, KeyedRecords.{KeyedRecord, info_key, is_tree_key, keyed_records, record_at, top_keys, tree_records}, OneMore.{keyed_bytes}, Reads.{AreRecordsOf}}
use Rattle.rio_state.specs.{TreeLengths.{entries_by_branch}, Trees.{RecordsAt, all_places_named, are_named_once, basket_places, header_in, places_named, records_before, saved_rows}}
use Rattle.rio_state.proofs.Members.{In, filter_in, found, in_contained, in_map, none_from, passing}
use Rattle.rio_state.proofs.{Places.{AreDistinct, basket_there, once_apart, once_distinct, places_are}, TreesSame.{in_flat_map}}
use Rattle.rio_step.specs.{Refusing.{rows_of_tree}, Runs.{saved_of}, Storable.{is_stored_row}}
use Rattle.rio_effect.specs.{BasketRuns.{AreBasketsPut, ArePlaced, places_put}, Headers.{IsNextHeader, stands_against}, PutBaskets.{AreAllPut}, SavedRows.{AreBranchesSaved, IsHeadSaved}}
use Rattle.rio_effect.specs.{Saves.{CanBeSaved, links_put, next_cycle_of, next_head, next_key, next_place}, TreeChanges.{FileRecords, all_behind, baskets_placed, open_of_tree}, TreeRecords.{header_key, header_record}}
use Rattle.rio_effect.proofs.{DistinctPlaces.{behind_in, distinct_behind, distinct_with, once_from, with_in}, FillNeeds.{HeaderOfTree, header_of_tree}, HeaderNames.{only_key, trees_apart}}
use Rattle.rio_effect.proofs.{SavedHeads.{all_begin, all_put_still, branches_are_saved, open_of, stored_rows_read}, SavedRows.{rows_long, same_defs, saved_rows_are_read}, TreeDeletes.{beside_in, holds}}

module _ (datime : ℕ) (file : List ℕ) (now : FileRecords) (m : State) (name : List ℕ) (t : Tree) (can : CanBeSaved datime file now m name t) (image : List ℕ) (chain : IsChain (links_put datime now m name t) image)
    (put : AreBasketsPut datime name (length (rows_of_tree t)) now.links t.branches (open_of_tree m t)) where
  abbrev count : ℕ
  count = length (rows_of_tree t)

  abbrev links : List Link
  links = links_put datime now m name t

  abbrev before : List KeyedRecord
  before = keyed_records now.links

  abbrev records : List KeyedRecord
  records = keyed_records links

  abbrev f : RecordsAt
  f = record_at records

  abbrev r : KeyedRecord
  r = can.kept.r

  abbrev head : TreeHead
  head = can.kept.head

  abbrev said : TreeHead
  said = next_head datime now m name t can.kept

  abbrev placed : List (List BasketAt)
  placed = baskets_placed datime name count now.links t.branches (open_of_tree m t)

  pub records_then : AreRecordsOf records (saved_of m)
  records_then = put.alike.records (saved_of m) can.records

  -- ---- the header before

  pub h : HeaderOfTree image links m name t
  h = header_of_tree image links m name t chain records_then (put.alike.items can.items) can.tree

  pub r_is : h.under.r ≡ r
  r_is = same_Some h.under.r r (sym h.under.counts ∙ ap (λ (tops : List KeyedRecord). find (λ s. bytes_eq s.head.name name) (tree_records tops)) put.leaves.tops ∙ can.kept.record_is)

  pub head_is : h.under.held.head ≡ head
  head_is =
      let info = put.alike.info in
      let same = r_is in
      same_Some h.under.held.head head (sym h.under.held.header ∙ (λ i. header_in (file_classes (info i)) (same i)) ∙ can.kept.head_is)

  pub defs_are : stated_defs head.branches ≡ t.branches
  defs_are = ap (λ (x : TreeHead). stated_defs x.branches) (sym head_is) ∙ h.defs

  pub cycle_is : r.head.cycle ≡ t.cycle
  cycle_is = ap (λ (x : KeyedRecord). x.head.cycle) (sym r_is) ∙ h.cycle

  pub name_is : r.head.name ≡ name
  name_is = ap (λ (x : KeyedRecord). x.head.name) (sym r_is) ∙ h.under.name_is

  pub rows_are : saved_rows m.classes f head ≡ Some t.saved
  rows_are =
      let classes = h.classes in
      let same = head_is in
      (λ i. saved_rows (sym classes i) f (sym same i)) ∙ h.under.held.rows_are ∙ ap (λ (rows : List Row). let o : Option (List Row) = Some rows in o) h.saved

  -- ---- the rows of the next one

  abbrev rows_by : List BranchDef → List (List (List ℕ))
  rows_by defs = map (entries_of m.classes defs) t.pending

  many : count ≡ head.entries + length (rows_by (stated_defs head.branches))
  many = omega (arith, length-append t.saved t.pending, rows_long m.classes f head t.saved rows_are, length-map t.pending (entries_of m.classes (stated_defs head.branches)))

  all_put : AreAllPut f head.entries head.branches (map cut_of (entries_by_branch (stated_defs head.branches) (rows_by (stated_defs head.branches)))) (now.put name)
  all_put =
      subst (λ (defs : List BranchDef). AreAllPut f head.entries head.branches (map cut_of (entries_by_branch defs (rows_by defs))) (now.put name)) (sym defs_are)
      (all_put_still (record_at before) f put.leaves.hold head.entries head.branches (map cut_of (entries_by_branch t.branches (rows_by t.branches))) (now.put name) can.kept.put)

  all_placed : ArePlaced f count (stated_defs head.branches) (open_of (stated_defs head.branches) (rows_by (stated_defs head.branches))) placed
  all_placed = subst (λ (defs : List BranchDef). ArePlaced f count defs (open_of defs (rows_by defs)) placed) (sym defs_are) put.placed

  pub branches_then : AreBranchesSaved f head.entries count (entries_by_branch (stated_defs head.branches) (rows_by (stated_defs head.branches))) head.branches said.branches
  branches_then = branches_are_saved f head.entries count [] head.branches (rows_by (stated_defs head.branches)) (now.put name) placed many can.kept.readable all_put all_placed

  pub head_saved : IsHeadSaved m.classes f f head said t.pending
  head_saved = record {
    readable = can.kept.readable;
    entries = omega (arith, many, length-map t.pending (entries_of m.classes (stated_defs head.branches)));
    branches = branches_then;
    kept = refl;
    rows = stored_rows_read m.classes (stated_defs head.branches) t.pending can.fillable.classes
        (ap (λ (defs : List BranchDef). list_all (is_stored_row m.classes defs) t.pending) defs_are ∙ (can.fillable.trees name t can.tree).rows);
  }

  pub rows_saved : saved_rows m.classes f said ≡ Some (t.saved ++ t.pending)
  rows_saved = saved_rows_are_read m.classes f f head said t.saved t.pending rows_are head_saved

  pub defs_then : stated_defs said.branches ≡ t.branches
  defs_then = same_defs f head.entries count (entries_by_branch (stated_defs head.branches) (rows_by (stated_defs head.branches))) head.branches said.branches branches_then ∙ defs_are

  -- ---- its baskets

  -- where the baskets of a tree stand that counts a record begins, in the file from before
  named_begins : (s : KeyedRecord) → In s (tree_records (top_keys before)) → (p : ℕ) → In p (places_named (file_classes (info_key before)) s) → In p (map (λ k. k.head.seek) before)
  named_begins s i p j =
      let b = basket_there (beside_in before) s (holds before (saved_of m) s can.records i) p j in
      subst (λ (q : ℕ). In q (map (λ (k : KeyedRecord). k.head.seek) before)) b.seek (in_map (λ (k : KeyedRecord). k.head.seek) b.b before b.among)

  r_among : In r (tree_records (top_keys before))
  r_among = (found (λ s. bytes_eq s.head.name name) r (tree_records (top_keys before)) can.kept.record_is).among

  own_places : places_named (file_classes (info_key before)) r ≡ basket_places head
  unfolding places_named
  own_places = ap (λ (o : Option TreeHead). option_map_or basket_places o []) can.kept.head_is

  put_begins : (p : ℕ) → In p (places_put (now.put name)) → In p (map (λ k. k.head.seek) before)
  put_begins p i =
      let there = passing (λ k. k.head.seek == p) before (all_begin before head.entries head.branches (map cut_of (entries_by_branch t.branches (rows_by t.branches))) (now.put name) can.kept.put p i) in
      subst (λ (q : ℕ). In q (map (λ (k : KeyedRecord). k.head.seek) before)) (eqb-true there.x.head.seek p there.passes) (in_map (λ (k : KeyedRecord). k.head.seek) there.x before there.among)

  -- the places of the open baskets are new
  placed_new : (p : ℕ) → In p (places_put placed) → In p (map (λ k. k.head.seek) before) → ⊥
  placed_new p i j = once_apart (map (λ (k : KeyedRecord). k.head.seek) before) (places_put placed) put.new p i j

  -- and no tree names those that were put
  put_fresh : (s : KeyedRecord) → In s (tree_records (top_keys before)) → (p : ℕ) → In p (places_named (file_classes (info_key before)) s) → In p (places_put (now.put name)) → ⊥
  put_fresh s i p j k =
      once_apart (all_places_named (file_classes (info_key before)) (tree_records (top_keys before))) (places_put (now.put name)) can.kept.fresh p k
      (in_flat_map (places_named (file_classes (info_key before))) p s (tree_records (top_keys before)) i j)

  -- where the baskets of a tree stand none of those stand that the header names more
  more_apart : (s : KeyedRecord) → In s (tree_records (top_keys before)) → (p : ℕ) → In p (places_named (file_classes (info_key before)) s) → In p (places_put (all_behind (now.put name) placed)) → ⊥
  more_apart s i p j k = ⊎_elim (λ l. put_fresh s i p j l) (λ l. placed_new p l (named_begins s i p j)) (behind_in p (now.put name) placed k)

  own_named : (p : ℕ) → In p (basket_places head) → In p (places_named (file_classes (info_key before)) r)
  own_named p i = subst (λ (ps : List ℕ). In p ps) (sym own_places) i

  once : are_named_once [] (basket_places said) ≡ true
  once =
      let held = holds before (saved_of m) r can.records r_among in
      let own = subst AreDistinct (sym (places_are (beside_in before) r held) ∙ own_places)
      (once_distinct (all_places_named (file_classes (info_key before)) (records_before (tree_records (top_keys before)) r)) (basket_places held.head) held.once) in
      let first = once_distinct (all_places_named (file_classes (info_key before)) (tree_records (top_keys before))) (places_put (now.put name)) can.kept.fresh in
      let second = once_distinct (map (λ (k : KeyedRecord). k.head.seek) before) (places_put placed) put.new in
      let more = distinct_behind (now.put name) placed first second (λ p i j. placed_new p j (put_begins p i)) in
      once_from [] (basket_places said) (distinct_with count head.branches (all_behind (now.put name) placed) own more (λ p i j. more_apart r r_among p (own_named p i) j)) (λ p i j. j)

  -- ---- it is the next header

  abbrev key : KeyHead
  key = next_key datime now m name t can.kept

  abbrev x : KeyedRecord
  x = keyed_bytes key (header_record (next_place datime now m name t can.kept) datime name (next_cycle_of datime now m name t can.kept) said)

  pub key_name : key.name ≡ name
  unfolding header_key
  key_name = refl

  pub key_cycle : key.cycle ≡ r.head.cycle + 1
  unfolding header_key
  key_cycle = refl

  newest : list_any (stands_against x) (top_keys records) ≡ false
  newest = none_from (stands_against x) (top_keys records) (λ s i e.
      let parts = and_parts (bytes_eq s.head.name key.name) (not (is_tree_key s.head) || not (nat_lt s.head.cycle key.cycle)) e in
      let named : bytes_eq s.head.name h.under.r.head.name ≡ true = ap (bytes_eq s.head.name) (h.under.name_is ∙ sym key_name) ∙ parts.0 in
      let same = only_key image links (saved_of m) h.under.r h.under.held.head h.has records_then s i named in
      stands s (sym r_is ∙ same) parts.1)
    where
      stands : (s : KeyedRecord) → r ≡ s → (not (is_tree_key s.head) || not (nat_lt s.head.cycle key.cycle)) ≡ true → ⊥
      stands s same e =
          let tree : is_tree_key s.head ≡ true = ap (λ (k : KeyedRecord). is_tree_key k.head) (sym same) ∙ (and_parts (is_tree_key r.head) _ (filter_in _ r (top_keys before) r_among).1).0 in
          let cycle = ap (λ (k : KeyedRecord). k.head.cycle) same in
          let low : nat_lt s.head.cycle key.cycle ≡ true = lt-ltb _ _ (omega (arith, cycle, key_cycle)) in
          let f : false ≡ true = sym (λ i. not (tree i) || not (low i)) ∙ e in
          absurd cc

  -- no other tree names one of its baskets
  apart : (s : KeyedRecord) (p : ℕ) → Contains (tree_records (top_keys records)) s → bytes_eq s.head.name key.name ≡ false → Contains (places_named (file_classes (info_key records)) s) p
      → Contains (basket_places said) p → ⊥
  apart s p c other named mine =
      let tops = put.leaves.tops in
      let info = put.alike.info in
      let i = subst (λ (rs : List KeyedRecord). In s (tree_records rs)) tops (in_contained s (tree_records (top_keys records)) c) in
      let j = subst (λ (o : Option KeyedRecord). In p (places_named (file_classes o) s)) info (in_contained p (places_named (file_classes (info_key records)) s) named) in
      ⊎_elim
      (λ k. trees_apart file now.links (saved_of m) can.chain can.records r s r_among i (ap (bytes_eq s.head.name) (name_is ∙ sym key_name) ∙ other) p (own_named p k) j)
      (λ k. more_apart s i p j k)
      (with_in p count head.branches (all_behind (now.put name) placed) (in_contained p (basket_places said) mine))

  pub next_header : IsNextHeader records x said (t.saved ++ t.pending)
  next_header =
      let info = put.alike.info in
      let classes = h.classes in
      record {
        top = can.written.top;
        tree = can.written.tree;
        named = can.written.named;
        header = ap (λ (o : Option KeyedRecord). header_in (file_classes o) x) info ∙ can.written.header;
        rows_are = ap (λ (cs : List ClassDef). saved_rows cs f said) classes ∙ rows_saved;
        newest = newest;
        once = once;
        apart = apart;
      }
