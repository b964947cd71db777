-- The keys and trees of a file stand for the objects and trees of the state as which it reads.
use Rattle.std.proofs.Common.{◌≡◌, ◌⊎◌, inl, inr, ℕ, List, [], ◌∷◌, ◌++◌, map, Bool, true, false, cond, not, Option, Some, None, refl, sym, ap, subst, ◌∙◌}
use Rattle.std.proofs.lemmas.{Bool.{and_parts, not-true}, List.Sorted.{Contains-permutation, IsPermutation-sym}, Option.{same_Some}, Slice.Eq.{bytes_eq-Decides}}
use Rattle.std.specs.{FinMap.{entries}, List.{cons_option, filter, filter_map, list_any, Sorted.{IsPermutation}}, Option.{option_map}}
use Rattle.rio_key.specs.declared.head.KeyHead.{KeyHead}
use Rattle.rio_machine.specs.State.{NameAndCycle, State, Tree}
use Rattle.rio_recover.specs.{Trees.{AreTreesOf, tree_at, trees_at}, declared.trees.TreeAt.{TreeAt}}
use Rattle.rio_recover.proofs.Tables.{some_found}
use Rattle.rio_state.specs.{Contents.{FileClasses, file_classes}, DirectoryKeys.{AreKeysOf}, Reads.{AreRecordsOf}, Trees.{header_in}}
use Rattle.rio_state.specs.KeyedRecords.{KeyedRecord, info_key, is_tree_key, is_tree_record, object_records, top_keys, tree_records}
use Rattle.rio_state.proofs.{KeyRecords.{ObjectOf, TreeOf, key_record, tree_apart}, KeysFollow.{items_in}}
use Rattle.rio_state.proofs.Members.{In, any_from, contains_in, filter_in, in_contained, in_filter, in_map, in_right, map_in, passing}
use Rattle.rio_step.specs.KeptItems.{AreItemsOfState, item_of_key, item_of_tree, kept_tree}
use Rattle.rio_step.specs.KeptItems as items
use Rattle.rio_step.specs.{ItemKeys.{told_by_key}}
use Rattle.rio_tree.specs.{declared.head.TreeHead.{TreeHead}}
use Rattle.rio_tree_table.specs.{Table.{is_of_name}, declared.table.KeptTree.{KeptTree}}
use Rattle.rio_effect.proofs.KeysOfState.{object_keys_stand}
use Rattle.rio_session.specs.Items.{AreTreeKeys}
use Rattle.rio_session.proofs.{FillLists.{opened_tree}, HeaderOfFill.{defs_begun}}
use Rattle.rio_session.proofs.ItemsOrder.{ItemBefore, TreeBefore, entry_of_tree, items_one_way, items_rise, kept_trees_rise, tree_items_rise, tree_of_entry, trees_one_way, trees_rise}
use Rattle.rio_session.proofs.{Rising.{same_rising}, TreesRead.{IsTreeOf, header_of_tree, tree_of_header}}

-- ---- lists

pub moved_in : {A : Type 0} (x : A) (xs ys : List A) → IsPermutation xs ys → In x xs → In x ys
moved_in x xs ys moved i = in_contained x ys (Contains-permutation xs ys x moved (contains_in x xs i))

module _ {A B : Type 0} (f : A → Option B) where
  in_given : (x : A) (y : B) (xs : List A) → In x xs → f x ≡ Some y → In y (filter_map f xs)
  in_given x y [] i e = absurd i
  in_given x y (z ∷ zs) (inl same) e =
      let there : f z ≡ Some y = ap f same ∙ e in
      subst (λ (o : Option B). In y (cons_option o (filter_map f zs))) (sym there) (inl refl)
  in_given x y (z ∷ zs) (inr i) e = by (f z) (in_given x y zs i e)
    where
      by : (o : Option B) → In y (filter_map f zs) → In y (cons_option o (filter_map f zs))
      by None j = j
      by (Some w) j = inr j

  pub given_in : (y : B) (xs : List A) → In y (filter_map f xs) → (x : A) × In x xs × (f x ≡ Some y)
  given_in y [] i = absurd i
  given_in y (z ∷ zs) i = by (f z) refl i (given_in y zs)
    where
      by : (o : Option B) → f z ≡ o → In y (cons_option o (filter_map f zs)) → (In y (filter_map f zs) → (x : A) × In x zs × (f x ≡ Some y)) → (x : A) × In x (z ∷ zs) × (f x ≡ Some y)
      by None is i rest = let r = rest i in (r.0, inr r.1, r.2)
      by (Some w) is (inl same) rest = (z, inl refl, is ∙ ap (λ (v : B). let o : Option B = Some v in o) same)
      by (Some w) is (inr i) rest = let r = rest i in (r.0, inr r.1, r.2)

-- ---- one file

module _ (records : List KeyedRecord) (heads : List KeyHead) (trees : List TreeAt) (m : State) (keys : AreKeysOf records heads) (are : AreTreesOf records trees) (is : AreRecordsOf records m) where
  abbrev tops : List KeyedRecord
  tops = top_keys records

  abbrev classes : FileClasses
  classes = file_classes (info_key records)

  abbrev kept : List KeptTree
  kept = map opened_tree trees

  abbrev headers : List KeyedRecord
  headers = tree_records tops

  -- ---- keys of trees

  key_of_header : (r : KeyedRecord) → In r headers → In r.head (filter is_tree_key heads)
  key_of_header r i =
      let tree = (and_parts (is_tree_key r.head) _ (filter_in (is_tree_record tops) r tops i).1).0 in
      in_filter is_tree_key r.head heads (items_in records heads keys r.head (in_map (λ (s : KeyedRecord). s.head) r (object_records tops ++ headers) (in_right r (object_records tops) headers i))) tree

  header_of_key : (h : KeyHead) → In h heads → is_tree_key h ≡ true → TreeOf records m is h
  header_of_key h i tree = by (key_record records m is heads keys h i)
    where
      by : ObjectOf records m is h ⊎ TreeOf records m is h → TreeOf records m is h
      by (inl o) =
          let object = not-true _ (filter_in (λ t. not (is_tree_key t.head)) o.r tops o.among).1 in
          let f : false ≡ true = sym object ∙ ap is_tree_key o.head_is ∙ tree in absurd cc
      by (inr t) = t

  tree_item : (r : KeyedRecord) (tree : Tree) → IsTreeOf records r tree → item_of_tree (r.head.name, tree) ≡ item_of_key r.head
  tree_item r tree told = λ i. (r.head.name, (sym told.tree i).cycle)

  cycles_into : (z : NameAndCycle) → In z (map item_of_key (filter is_tree_key heads)) → In z (map item_of_tree (entries m.trees))
  cycles_into z i =
      let (h, among, same) = map_in item_of_key z (filter is_tree_key heads) i in
      let kept_key = filter_in is_tree_key h heads among in
      let t = header_of_key h kept_key.0 kept_key.1 in
      let (tree, there, told) = tree_of_header records m is t.r t.among in
      subst (λ (x : NameAndCycle). In x (map item_of_tree (entries m.trees))) (tree_item t.r tree told ∙ ap item_of_key t.head_is ∙ same) (in_map item_of_tree (t.r.head.name, tree) (entries m.trees) (entry_of_tree m t.r.head.name tree there))

  cycles_back : (z : NameAndCycle) → In z (map item_of_tree (entries m.trees)) → In z (map item_of_key (filter is_tree_key heads))
  cycles_back z i =
      let (e, among, same) = map_in item_of_tree z (entries m.trees) i in
      let h = header_of_tree records m is e.0 e.1 (tree_of_entry m e among) in
      let cycle : h.r.head.cycle ≡ e.1.cycle = ap (λ (u : Tree). u.cycle) h.tree.tree in
      let item : item_of_key h.r.head ≡ z = (λ i. (h.named i, cycle i)) ∙ same in
      subst (λ (x : NameAndCycle). In x (map item_of_key (filter is_tree_key heads))) item (in_map item_of_key h.r.head (filter is_tree_key heads) (key_of_header h.r h.among))

  cycles_are : map item_of_key (filter is_tree_key heads) ≡ map item_of_tree (entries m.trees)
  cycles_are =
      same_rising ItemBefore items_one_way (map item_of_key (filter is_tree_key heads)) (map item_of_tree (entries m.trees)) (items_rise is_tree_key heads keys.ordered) (tree_items_rise m) cycles_into cycles_back

  -- ---- kept trees

  at_header : (r : KeyedRecord) (head : TreeHead) → header_in classes r ≡ Some head → tree_at classes r ≡ Some (record { name = r.head.name; head = head })
  at_header r head e = ap (option_map (λ (h : TreeHead). let t : TreeAt = record { name = r.head.name; head = h } in t)) e

  kept_same : (r : KeyedRecord) (t : Tree) (told : IsTreeOf records r t) → opened_tree (record { name = r.head.name; head = told.head }) ≡ kept_tree (r.head.name, t)
  kept_same r t told =
      (λ i. record { name = r.head.name; branches = defs_begun told.head.branches i; saved = sym told.long i; pending = 0 }) ∙ ap (λ (u : Tree). kept_tree (r.head.name, u)) told.tree

  -- a kept tree is that of a header
  header_of_kept : (t : TreeAt) → In t trees → (r : KeyedRecord) × In r headers × (tree_at classes r ≡ Some t)
  header_of_kept t i = given_in (tree_at classes) t headers (moved_in t trees (trees_at classes headers) (IsPermutation-sym (trees_at classes headers) trees are.each) i)

  pub kept_of_header : (r : KeyedRecord) (head : TreeHead) → In r headers → header_in classes r ≡ Some head → In (record { name = r.head.name; head = head }) trees
  kept_of_header r head i e = moved_in _ (trees_at classes headers) trees are.each (in_given (tree_at classes) r (record { name = r.head.name; head = head }) headers i (at_header r head e))

  kept_into : (z : KeptTree) → In z kept → In z (map kept_tree (entries m.trees))
  kept_into z i =
      let (t, among, same) = map_in opened_tree z trees i in
      let (r, counts, at) = header_of_kept t among in
      let (tree, there, told) = tree_of_header records m is r counts in
      let header : record { name = r.head.name; head = told.head } ≡ t = same_Some _ t (sym (at_header r told.head told.header) ∙ at) in
      let whole : kept_tree (r.head.name, tree) ≡ z = sym (kept_same r tree told) ∙ ap opened_tree header ∙ same in
      subst (λ (x : KeptTree). In x (map kept_tree (entries m.trees))) whole (in_map kept_tree (r.head.name, tree) (entries m.trees) (entry_of_tree m r.head.name tree there))

  kept_back : (z : KeptTree) → In z (map kept_tree (entries m.trees)) → In z kept
  kept_back z i =
      let (e, among, same) = map_in kept_tree z (entries m.trees) i in
      let h = header_of_tree records m is e.0 e.1 (tree_of_entry m e among) in
      let whole : opened_tree (record { name = h.r.head.name; head = h.tree.head }) ≡ z = kept_same h.r e.1 h.tree ∙ ap (λ (n : List ℕ). kept_tree (n, e.1)) h.named ∙ same in
      subst (λ (x : KeptTree). In x kept) whole (in_map opened_tree _ trees (kept_of_header h.r h.tree.head h.among h.tree.header))

  kept_are : kept ≡ map kept_tree (entries m.trees)
  kept_are = same_rising TreeBefore trees_one_way kept (map kept_tree (entries m.trees)) (trees_rise trees are.ordered) (kept_trees_rise m) kept_into kept_back

  -- ---- names of trees

  -- a key under the name of a kept tree isn't an object's
  no_object : (h : KeyHead) (o : ObjectOf records m is h) → (b : Bool) → list_any (is_of_name h.name) kept ≡ b → b ≡ false
  no_object h o false e = refl
  no_object h o true e =
      let p = passing (is_of_name h.name) kept e in
      let (t, among, same) = map_in opened_tree p.x trees p.among in
      let (r, counts, at) = header_of_kept t among in
      let (tree, there, told) = tree_of_header records m is r counts in
      let header : record { name = r.head.name; head = told.head } ≡ t = same_Some _ t (sym (at_header r told.head told.header) ∙ at) in
      let named : r.head.name ≡ o.r.head.name = ap (λ (x : TreeAt). x.name) header ∙ ap (λ (x : KeptTree). x.name) same ∙ (bytes_eq-Decides p.x.name h.name).0 p.passes ∙ ap (λ (k : KeyHead). k.name) (sym o.head_is) in
      absurd (tree_apart records m is r o.r counts o.among named)

  tree_there : (h : KeyHead) (t : TreeOf records m is h) → list_any (is_of_name h.name) kept ≡ true
  tree_there h t =
      let (tree, there, told) = tree_of_header records m is t.r t.among in
      any_from (is_of_name h.name) _ kept (in_map opened_tree _ trees (kept_of_header t.r told.head t.among told.header)) ((bytes_eq-Decides t.r.head.name h.name).1 (ap (λ (k : KeyHead). k.name) t.head_is))

  one_key : (h : KeyHead) → In h heads → items.is_tree_key kept h ≡ is_tree_key h
  one_key h i = some_found (is_of_name h.name) kept ∙ by (key_record records m is heads keys h i)
    where
      by : ObjectOf records m is h ⊎ TreeOf records m is h → list_any (is_of_name h.name) kept ≡ is_tree_key h
      by (inl o) =
          no_object h o (list_any (is_of_name h.name) kept) refl
          ∙ sym (not-true _ (filter_in (λ t. not (is_tree_key t.head)) o.r tops o.among).1)
          ∙ ap is_tree_key o.head_is
      by (inr t) =
          tree_there h t
          ∙ sym (and_parts (is_tree_key t.r.head) _ (filter_in (is_tree_record tops) t.r tops t.among).1).0
          ∙ ap is_tree_key t.head_is

  all_keys : (hs : List KeyHead) → ((h : KeyHead) → In h hs → In h heads) → AreTreeKeys hs kept
  all_keys [] within = tt
  all_keys (h ∷ hs) within = (one_key h (within h (inl refl)), all_keys hs (λ k i. within k (inr i)))

  pub tree_keys_of : AreTreeKeys heads kept
  tree_keys_of = all_keys heads (λ h i. i)

  -- ---- all of them

  filters_same : (test : Bool → Bool) (hs : List KeyHead) → AreTreeKeys hs kept → filter (λ h. test (items.is_tree_key kept h)) hs ≡ filter (λ h. test (is_tree_key h)) hs
  filters_same test [] told = refl
  filters_same test (h ∷ hs) told =
      let here = told.0 in
      let rest = filters_same test hs told.1 in
      λ i. cond (test (here i)) (h ∷ rest i) (rest i)

  pub items_of : AreItemsOfState heads kept m
  items_of = record {
    ordered = keys.ordered;
    objects = ap (map told_by_key) (filters_same not heads tree_keys_of) ∙ object_keys_stand records heads m keys is;
    cycles = ap (map item_of_key) (filters_same (λ b. b) heads tree_keys_of) ∙ cycles_are;
    kept = kept_are;
  }
