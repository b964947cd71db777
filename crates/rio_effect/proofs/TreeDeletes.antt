-- Without the record of its header a tree is gone: the records stand for the state without it, and nothing refers to its baskets.
use Rattle.std.proofs.Common.{◌≡◌, ⊎_elim, ℕ, ◌∙◌, codes, List, [], ◌++◌, Bool, true, false, not, ◌||◌, ◌==◌, Option, Some, None, refl, sym, ap, subst}
use Rattle.std.proofs.{lemmas.Bool.{and_from, and_left, eqb-true, or_from, or_parts, or_right}, lemmas.Slice.Eq.{bytes_eq-Decides}}
use Rattle.std.specs.{Prelude.{if◌then◌else◌, is_some, option_and_then}, FinMap.{contains_key, get, remove}, List.{find}, Option.{option_map_or}, Str.{bytes_eq}}
use Rattle.rio_num.proofs.Cases.{some_of}
use Rattle.rio_dir.specs.Table.{is_at_cycle}
use Rattle.rio_chain.specs.Segments.{IsChain, Link}
use Rattle.rio_machine.specs.{State.{NameAndCycle, State, Tree, names_tree}}
use Rattle.rio_tree.specs.declared.head.TreeHead.{TreeHead}
use Rattle.rio_state.specs.{Closing.{item_heads}, Contents.{FileClasses, file_classes}, OneMore.{HasOneMoreIn}, Reads.{AreRecordsOf, info_place}}
use Rattle.rio_state.specs.KeyedRecords.{KeyedRecord, first_place, has_class, info_key, is_top_key, is_tree_key, is_tree_record, keyed_records, object_records, top_keys, tree_records}
use Rattle.rio_state.specs.{OneLess.{IsLastHeader, IsWithoutTree, links_without}, Referred.{is_item_record, is_named_basket, is_referred}}
use Rattle.rio_state.specs.Trees.{TreesBeside, all_places_named, basket_places, is_named_place, places_named, saved_tree, tree_of, trees_beside}
use Rattle.rio_state.proofs.{Insertion.{any_none}, KeyRecords.{holder, item_is, tree_apart}, KeysFollow.{in_before, in_new, in_still, items_in}, LessRecords.{record_less}}
use Rattle.rio_state.proofs.Members.{In, all_at, contains_in, filter_in, found, in_contained, in_filter, in_map, in_right, none_at, none_from}
use Rattle.rio_state.proofs.{Places.{basket_there, flat_map_in}, TreeGone.{tree_goes}, TreesSame.{HoldsTree, holds_tree, in_flat_map}}
use Rattle.rio_step.specs.{Refusing.{tree_passes}, Runs.{saved_of}}
use Rattle.rio_effect.specs.{AllItems.{AreAllItems}, Deletes.{state_without}, Garbage.{AreGarbage, IsGarbageAt}}
use Rattle.rio_effect.specs.TreeDeletes.{AreBasketsOf, BasketsAreGarbage, DeletesHaveHeaders, HasHeader, IsTreeGone, TreeDeleteTakesEffect}
use Rattle.rio_effect.proofs.{AllItems.{items_stay_without}, DeleteEffect.{cycle_there, head_found, no_basket}, HeaderLess.{among as among_keys, headers_less, info, none_named, top}}
use Rattle.rio_effect.proofs.{SavedDeletes.{deletes_ignore_pending}, SavedPuts.{trees_named}}

abbrev pub beside_in : List KeyedRecord → TreesBeside
beside_in records = trees_beside (info_key records) records (top_keys records)

-- what a header that counts holds
pub holds : (records : List KeyedRecord) (m : State) (r : KeyedRecord) → AreRecordsOf records m → In r (tree_records (top_keys records)) → HoldsTree (beside_in records) r
holds records m r is i =
    holds_tree (beside_in records) r (all_at (λ t. is_some (tree_of (beside_in records) t)) r (tree_records (top_keys records)) is.stand.tree_readable i)

-- the header of a name that is a tree's, and its tree
pub record TreeUnder (records : List KeyedRecord) (m : State) (name : List ℕ) : Type 0 where
  pub r : KeyedRecord
  pub counts : find (λ t. bytes_eq t.head.name name) (tree_records (top_keys records)) ≡ Some r
  pub among : In r (tree_records (top_keys records))
  pub name_is : r.head.name ≡ name
  pub held : HoldsTree (beside_in records) r
  pub tree_is : get m.trees name ≡ Some (saved_tree r held.head held.rows)

pub tree_named : (records : List KeyedRecord) (m : State) (name : List ℕ) → AreRecordsOf records m → names_tree m name ≡ true → TreeUnder records m name
tree_named records m name is named = by (find (λ t. bytes_eq t.head.name name) (tree_records (top_keys records))) refl
  where
    by : (o : Option KeyedRecord) → find (λ t. bytes_eq t.head.name name) (tree_records (top_keys records)) ≡ o → TreeUnder records m name
    by None e =
        let none = is.stand.trees name ∙ ap (option_and_then (tree_of (beside_in records))) e in
        let f : true ≡ false = sym named ∙ ap is_some none in absurd cc
    by (Some r) e =
        let f = found (λ t. bytes_eq t.head.name name) r (tree_records (top_keys records)) e in
        let h = holds records m r is f.among in
        record {
          r = r;
          counts = e;
          among = f.among;
          name_is = (bytes_eq-Decides r.head.name name).0 f.passes;
          held = h;
          tree_is = is.stand.trees name ∙ ap (option_and_then (tree_of (beside_in records))) e ∙ h.tree;
        }

-- ---- the state

abbrev pub item_gone : Bool → State → List ℕ → ℕ → State
item_gone b m name cycle = if b then record m { trees = remove m.trees name } else record m { objects = remove m.objects (name, cycle) }

module _ (file : List ℕ) (links : List Link) (m : State) (r : KeyedRecord) (head : TreeHead) (has : HasHeader file links r head) (is : AreRecordsOf (keyed_records links) m) where
  abbrev old : List KeyedRecord
  old = keyed_records links

  abbrev new : List KeyedRecord
  new = keyed_records (links_without links r)

  abbrev tops : List KeyedRecord
  tops = top_keys old

  abbrev left : List KeyedRecord
  left = top_keys new

  abbrev classes : FileClasses
  classes = file_classes (info_key old)

  less : HasOneMoreIn new old r
  less = record_less file links r has.record_is

  fewer : HasOneMoreIn (tree_records left) (tree_records tops) r
  fewer = headers_less old new r less has.items has.tree

  pub last : IsLastHeader links r
  last = record { tree = has.tree; last = none_named old new r less has.items has.tree is.stand.distinct }

  goes : IsWithoutTree links r
  goes = tree_goes file links r has.record_is last

  among : In r (tree_records tops)
  among = in_new (tree_records left) (tree_records tops) r fewer

  named : names_tree m r.head.name ≡ true
  named = by (find (λ t. bytes_eq t.head.name r.head.name) (tree_records tops)) refl
    where
      own : bytes_eq r.head.name r.head.name ≡ true
      own = (bytes_eq-Decides r.head.name r.head.name).1 refl

      by : (o : Option KeyedRecord) → find (λ t. bytes_eq t.head.name r.head.name) (tree_records tops) ≡ o → names_tree m r.head.name ≡ true
      by None e = absurd (none_at (λ t. bytes_eq t.head.name r.head.name) r (tree_records tops) (any_none (λ t. bytes_eq t.head.name r.head.name) (tree_records tops) e) among own)
      by (Some t) e =
          let f = found (λ t. bytes_eq t.head.name r.head.name) t (tree_records tops) e in
          ap is_some (is.stand.trees r.head.name ∙ ap (option_and_then (tree_of (beside_in old))) e) ∙ ap is_some (holds old m t is f.among).tree

  pub behind_is : item_gone true m r.head.name r.head.cycle ≡ state_without m r
  behind_is = ap (λ b. item_gone b m r.head.name r.head.cycle) (sym named)

  pub gone : IsTreeGone (links_without links r) (state_without m r)
  gone = record {
    records = subst (λ (n : State). AreRecordsOf new n) behind_is (goes.records m is);
    items = items_stay_without file links r has.record_is has.items;
  }

  -- ---- the baskets

  -- the header is no basket, and something refers to it
  not_basket : has_class (codes "TBasket") r.head ≡ false
  not_basket = no_basket r.head (top old new r less has.items has.tree)

  referred : is_referred old r ≡ true
  referred =
      let item : is_item_record tops r ≡ true = all_at (is_item_record tops) r tops has.items (among_keys old new r less has.items has.tree) in
      or_left ((r.head.seek == first_place) || (r.head.seek == info_place (info_key old)) || is_item_record tops r) (is_named_basket old r) (or_right ((r.head.seek == first_place) || (r.head.seek == info_place (info_key old))) (is_item_record tops r) item)
    where
      or_left : (b c : Bool) → b ≡ true → (b || c) ≡ true
      or_left true c e = refl
      or_left false c e = absurd cc

  -- a record that it names
  basket_free : (place : ℕ) → In place (basket_places head) → IsGarbageAt (links_without links r) place
  unfolding places_named
  basket_free place i =
      let named_is : places_named classes r ≡ basket_places head = ap (λ (o : Option TreeHead). option_map_or basket_places o []) has.header in
      let j : In place (places_named classes r) = subst (λ (ps : List ℕ). In place ps) (sym named_is) i in
      let b = basket_there (beside_in old) r (holds old m r is among) place j in
      let there = subst (λ (p : ℕ). In p (places_named classes r)) (sym b.seek) j in
      record {
        r = b.b;
        among = contains_in b.b new (⊎_elim (λ same. absurd (let f : false ≡ true = sym not_basket ∙ ap (λ (k : KeyedRecord). has_class (codes "TBasket") k.head) same ∙ b.basket in cc)) (λ k. k) (in_before new old r less b.b b.among));
        seek = b.seek;
        free = goes.baskets m is b.b (contains_in b.b old b.among) (contains_in b.b.head.seek (places_named classes r) there);
      }

  -- what nothing refers to nothing refers to without the header
  free_still : (s : KeyedRecord) → In s old → is_referred old s ≡ false → is_referred new s ≡ false
  free_still s i e =
      let whole = or_parts ((s.head.seek == first_place) || (s.head.seek == info_place (info_key old)) || is_item_record tops s) (is_named_basket old s) e in
      let parts = or_parts ((s.head.seek == first_place) || (s.head.seek == info_place (info_key old))) (is_item_record tops s) whole.0 in
      let sides = or_parts (s.head.seek == first_place) (s.head.seek == info_place (info_key old)) parts.0 in
      let same = info old new r less has.items has.tree in
      let list : (s.head.seek == info_place (info_key new)) ≡ false = ap (λ (o : Option KeyedRecord). s.head.seek == info_place o) same ∙ sides.1 in
      or_from _ _ (or_from _ _ (or_from _ _ sides.0 list) (no_item parts.1)) (unnamed whole.1)
    where
      -- it is no key of the directory, for these are all items
      no_item : is_item_record tops s ≡ false → is_item_record left s ≡ false
      no_item none = and_left (is_top_key s.head) (not (is_tree_key s.head) || is_tree_record left s) (by (is_top_key s.head) refl)
        where
          by : (b : Bool) → is_top_key s.head ≡ b → b ≡ false
          by false t = refl
          by true t = let f : true ≡ false = sym (all_at (is_item_record tops) s tops has.items (in_filter (λ k. is_top_key k.head) s old i t)) ∙ none in absurd cc

      unnamed : is_named_basket old s ≡ false → is_named_basket new s ≡ false
      unnamed none =
          ap (λ (o : Option KeyedRecord). is_named_place (file_classes o) (tree_records left) s.head.seek) (info old new r less has.items has.tree)
          ∙ none_from (λ p. p == s.head.seek) (all_places_named classes (tree_records left)) (λ p j e.
          let from = flat_map_in (places_named classes) p (tree_records left) j in
          none_at (λ q. q == s.head.seek) p (all_places_named classes (tree_records tops)) none
          (in_flat_map (places_named classes) p from.0 (tree_records tops) (in_still (tree_records left) (tree_records tops) r fewer from.0 from.1) from.2) e)

  garbage_still : (place : ℕ) → IsGarbageAt links place → IsGarbageAt (links_without links r) place
  garbage_still place g =
      let i = in_contained g.r old g.among in
      record {
        r = g.r;
        among = contains_in g.r new (⊎_elim (λ same. absurd (let f : true ≡ false = sym referred ∙ ap (is_referred old) same ∙ g.free in cc)) (λ k. k) (in_before new old r less g.r i));
        seek = g.seek;
        free = free_still g.r i g.free;
      }

  pub baskets_free : (places : List ℕ) → AreBasketsOf links head places → AreGarbage (links_without links r) places
  baskets_free places are = record {
    each = λ place c. ⊎_elim (λ i. basket_free place (in_contained place (basket_places head) i)) (λ g. garbage_still place g) (are.each place c);
    once = are.once;
  }

-- the state behind, where the records stand for the state without its pending rows
pub saved_behind_is : (file : List ℕ) (links : List Link) (m : State) (r : KeyedRecord) (head : TreeHead) → HasHeader file links r head → AreRecordsOf (keyed_records links) (saved_of m)
    → item_gone true m r.head.name r.head.cycle ≡ state_without m r
saved_behind_is file links m r head has is =
    ap (λ b. item_gone b m r.head.name r.head.cycle) (sym (sym (trees_named m r.head.name) ∙ named file links (saved_of m) r head has is))

pub tree_delete_takes_effect : TreeDeleteTakesEffect (λ m. m)
tree_delete_takes_effect file links m r head has is = gone file links m r head has is

-- the same of the state without its pending rows
pub saved_tree_delete_takes_effect : TreeDeleteTakesEffect saved_of
saved_tree_delete_takes_effect file links m r head has is =
    subst (λ (n : State). IsTreeGone (links_without links r) n) (deletes_ignore_pending m r.head.name r.head.cycle).behind (gone file links (saved_of m) r head has is)

pub baskets_are_garbage : BasketsAreGarbage
baskets_are_garbage file links m r head places has is are = baskets_free file links m r head has is places are

-- ---- the header of a delete

-- the tree has the cycle that is named, for no object has the name
cycle_of_tree : (records : List KeyedRecord) (m : State) (name : List ℕ) (cycle : ℕ) (t : TreeUnder records m name) → AreRecordsOf records m
    → (contains_key m.objects (name, cycle) || tree_passes m name (λ x. x.cycle == cycle)) ≡ true → t.r.head.cycle ≡ cycle
cycle_of_tree records m name cycle t is some = by (contains_key m.objects (name, cycle)) refl some
  where
    no_object : contains_key m.objects (name, cycle) ≡ true → ⊥
    no_object e =
        let held = some_of (get m.objects (name, cycle)) e in
        let x = holder records m is (name, cycle) held.0 held.1 in
        tree_apart records m is t.r x.r t.among x.among (t.name_is ∙ sym (item_is (name, cycle) x.r x.has).0)

    by : (b : Bool) → contains_key m.objects (name, cycle) ≡ b → (b || tree_passes m name (λ x. x.cycle == cycle)) ≡ true → t.r.head.cycle ≡ cycle
    by true e some = absurd (no_object e)
    by false e some = eqb-true t.r.head.cycle cycle (sym (ap (λ (o : Option Tree). option_map_or (λ x. x.cycle == cycle) o false) t.tree_is) ∙ some)

pub has_header : (file : List ℕ) (links : List Link) (m : State) (name : List ℕ) → IsChain links file → AreAllItems links → (t : TreeUnder (keyed_records links) m name) → HasHeader file links t.r t.held.head
has_header file links m name chain items t =
    let records = keyed_records links in
    let greatest = filter_in (is_tree_record (top_keys records)) t.r (top_keys records) t.among in
    let there = filter_in (λ s. is_top_key s.head) t.r records greatest.0 in
    record { record_is = record { chain = chain; among = contains_in t.r records there.0 }; items = items; tree = and_from _ _ there.1 greatest.1; header = t.held.header }

pub deletes_have_headers : DeletesHaveHeaders
deletes_have_headers file links heads m name cycle mark chain are is items named e =
    let records = keyed_records links in
    let tops = top_keys records in
    let n = saved_of m in
    let t = tree_named records n name is (trees_named m name ∙ named) in
    let cycle_is = cycle_of_tree records n name cycle t is (cycle_there n name cycle mark ((deletes_ignore_pending m name cycle).refused mark ∙ e)) in
    let name_is = t.name_is in
    let item : In t.r.head (item_heads tops) = in_map (λ (s : KeyedRecord). s.head) t.r (object_records tops ++ tree_records tops) (in_right t.r (object_records tops) (tree_records tops) t.among) in
    let among = items_in records heads are t.r.head item in
    record {
      r = t.r;
      head = t.held.head;
      has = has_header file links n name chain items t;
      name_is = name_is;
      cycle_is = cycle_is;
      found = ap (λ (k : NameAndCycle). find (is_at_cycle k.0 k.1) heads) (λ i. (sym name_is i, sym cycle_is i)) ∙ head_found t.r.head heads are.ordered among;
      counts = t.counts;
    }
