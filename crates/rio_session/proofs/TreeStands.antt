-- What a session keeps once a tree is made stands for the state with it.
use Rattle.std.proofs.Common.{◌≡◌, ◌||◌, ◌&&◌, ◌==◌, ℕ, List, [], ◌∷◌, map, Bool, true, false, cond, not, Option, Some, None, refl, sym, ap, subst, ◌∙◌}
use Rattle.std.proofs.lemmas.{Bool.{or_parts}, Slice.Eq.{bytes_eq-Decides}}
use Rattle.std.specs.{Prelude.{if◌then◌else◌, is_some}, FinMap.{entries, entries-insert, find as find_key, get, get-entries, insert, Entries.{by_order, put}}}
use Rattle.std.specs.{List.{filter, find}, Ordering.{eq_by_cmp, is_eq, is_lt, ordering_reverse}, Str.{bytes_eq}, declared.cmp.Ordering.{Ordering, TheVariants.{Less, Equal, Greater}}}
use Rattle.rio_num.specs.Word.{name_order}
use Rattle.rio_num.proofs.{BytesEq.{bytes_eq-sym}, Cases.{none_from}}
use Rattle.rio_leaf.specs.declared.branch.BranchDef.{BranchDef}
use Rattle.rio_key.specs.declared.head.KeyHead.{KeyHead}
use Rattle.rio_dir.proofs.TableLists.{ordered_with}
use Rattle.rio_dir.specs.Table.{AreOrdered, head_of, is_at_cycle, is_of_name as is_key_named, with_head}
use Rattle.rio_tree_table.specs.{Table.{is_of_name, tree_of, with_tree as with_kept}, declared.table.KeptTree.{KeptTree}}
use Rattle.rio_machine.proofs.OrderLaws.{names_total}
use Rattle.rio_machine.specs.State.{State, Tree, names_item, names_object, names_tree}
use Rattle.rio_state.specs.KeyedRecords.{is_tree_key}
use Rattle.rio_state.proofs.{Insertion.{filter_same}, KeysFollow.{head_more}}
use Rattle.rio_judge.proofs.ItemsOfState.{names_objects, tree_is}
use Rattle.rio_step.specs.KeptItems as items
use Rattle.rio_step.specs.{ItemKeys.{told_by_key}, KeptItems.{AreItemsOfState, is_object_key, item_of_key, item_of_tree, kept_tree}, Step.{listed_object, new_tree}}
use Rattle.rio_session.specs.{Fills.{FilledTree, kept_tree_of, with_filled}, Items.{AreTreeKeys, IsOfKeys}, SessionState.{SessionState, kept_trees}}
use Rattle.rio_session.proofs.{FillLists.{kept_with}, KeysBehind.{filter_with}, KeysWithout.{none_parts}, SaveStands.{Named, keys_with, kinds_with}}

-- ---- trees with one more

some_with : (q : KeptTree → Bool) (t : KeptTree) (ts : List KeptTree) → is_some (find q (with_kept t ts)) ≡ (q t || is_some (find q ts))
some_with q t [] = by (q t)
  where
    by : (b : Bool) → is_some (cond b (Some t) None) ≡ (b || false)
    by true = refl
    by false = refl
some_with q t (u ∷ us) = by (is_lt (name_order u.name t.name)) (some_with q t us)
  where
    front : (c d : Bool) → is_some (find q (with_kept t us)) ≡ (c || is_some (find q us)) → is_some (cond d (Some u) (find q (with_kept t us))) ≡ (c || is_some (cond d (Some u) (find q us)))
    front true true e = refl
    front false true e = refl
    front true false e = e
    front false false e = e

    back : (c d : Bool) → is_some (cond c (Some t) (cond d (Some u) (find q us))) ≡ (c || is_some (cond d (Some u) (find q us)))
    back true d = refl
    back false d = refl

    by : (b : Bool) → is_some (find q (with_kept t us)) ≡ (q t || is_some (find q us)) → is_some (find q (if b then u ∷ with_kept t us else t ∷ u ∷ us)) ≡ (q t || is_some (find q (u ∷ us)))
    by true later = front (q t) (q u) later
    by false later = back (q t) (q u)

-- a tree of a new name has its place among those of a state
kept_put : (name : List ℕ) (v : Tree) (es : List Named) → find_key name_order name es ≡ None → map kept_tree (put name_order name v es) ≡ with_kept (kept_tree (name, v)) (map kept_tree es)
kept_put name v [] none = refl
kept_put name v (e ∷ es) none = by (name_order name e.0) refl (kept_put name v es parts.1)
  where
    parts : (eq_by_cmp name_order name e.0 ≡ false) × (find_key name_order name es ≡ None)
    parts = none_parts (eq_by_cmp name_order name e.0) e.1 (find_key name_order name es) none

    by : (o : Ordering) → name_order name e.0 ≡ o → map kept_tree (put name_order name v es) ≡ with_kept (kept_tree (name, v)) (map kept_tree es)
        → map kept_tree (by_order o ((name, v) ∷ e ∷ es) ((e.0, v) ∷ es) (e ∷ put name_order name v es)) ≡ with_kept (kept_tree (name, v)) (map kept_tree (e ∷ es))
    by Less is later =
        let test : is_lt (name_order e.0 name) ≡ false = ap is_lt (names_total.antisymm e.0 name ∙ ap ordering_reverse is) in
        sym (ap (λ (b : Bool). if b then kept_tree e ∷ with_kept (kept_tree (name, v)) (map kept_tree es) else kept_tree (name, v) ∷ kept_tree e ∷ map kept_tree es) test)
    by Equal is later = let never : true ≡ false = sym (ap is_eq is) ∙ parts.0 in absurd cc
    by Greater is later =
        let test : is_lt (name_order e.0 name) ≡ true = ap is_lt (names_total.antisymm e.0 name ∙ ap ordering_reverse is) in
        ap (λ (l : List KeptTree). kept_tree e ∷ l) later
        ∙ sym (ap (λ (b : Bool). if b then kept_tree e ∷ with_kept (kept_tree (name, v)) (map kept_tree es) else kept_tree (name, v) ∷ kept_tree e ∷ map kept_tree es) test)

-- ---- keys of other names

module _ (a b : List KeptTree) (name : List ℕ) (same : (n : List ℕ) → bytes_eq n name ≡ false → is_some (tree_of n a) ≡ is_some (tree_of n b)) where
  key_parts : (k : KeyHead) (ks : List KeyHead) → find (is_key_named name) (k ∷ ks) ≡ None → (bytes_eq k.name name ≡ false) × (find (is_key_named name) ks ≡ None)
  key_parts k ks e = none_parts (bytes_eq k.name name) k (find (is_key_named name) ks) e

  filter_alike : (f : Bool → Bool) (ks : List KeyHead) → find (is_key_named name) ks ≡ None → filter (λ k. f (items.is_tree_key a k)) ks ≡ filter (λ k. f (items.is_tree_key b k)) ks
  filter_alike f [] none = refl
  filter_alike f (k ∷ ks) none =
      let parts = key_parts k ks none in
      let one = same k.name parts.0 in
      let rest = filter_alike f ks parts.1 in
      λ i. cond (f (one i)) (k ∷ rest i) (rest i)

  kinds_alike : (ks : List KeyHead) → find (is_key_named name) ks ≡ None → AreTreeKeys ks b → AreTreeKeys ks a
  kinds_alike [] none are = tt
  kinds_alike (k ∷ ks) none are = let parts = key_parts k ks none in (same k.name parts.0 ∙ are.0, kinds_alike ks parts.1 are.1)

-- without a key of a name there is none of a cycle
none_at_cycle : (name : List ℕ) (cycle : ℕ) (ks : List KeyHead) → find (is_key_named name) ks ≡ None → find (is_at_cycle name cycle) ks ≡ None
none_at_cycle name cycle [] none = refl
none_at_cycle name cycle (k ∷ ks) none =
    let parts = none_parts (bytes_eq k.name name) k (find (is_key_named name) ks) none in
    let rest = none_at_cycle name cycle ks parts.1 in
    let one : is_at_cycle name cycle k ≡ false = ap (λ (b : Bool). b && (k.cycle == cycle)) parts.0 in
    ap (λ (b : Bool). cond b (Some k) (find (is_at_cycle name cycle) ks)) one ∙ rest

-- ---- a tree is made

module _ (s : SessionState) (m : State) (are : IsOfKeys s m) (name : List ℕ) (branches : List BranchDef) (unnamed : names_item m name ≡ false) where
  no_tree : names_tree m name ≡ false
  no_tree = (or_parts (names_object m name) (names_tree m name) unnamed).1

  pub none_there : get m.trees name ≡ None
  none_there = none_from (get m.trees name) no_tree

  pub none_kept : tree_of name (kept_trees s) ≡ None
  none_kept = none_from (tree_of name (kept_trees s)) (sym (tree_is s.heads (kept_trees s) m are.keys name) ∙ no_tree)

  pub none_headed : head_of name None s.heads ≡ None
  none_headed =
      none_from (head_of name None s.heads) (sym (names_objects s.heads (kept_trees s) m are.keys name none_kept).named ∙ (or_parts (names_object m name) (names_tree m name) unnamed).0)

  abbrev es : List Named
  es = entries m.trees

  none_entry : find_key name_order name (entries m.trees) ≡ None
  none_entry = sym (get-entries m.trees name) ∙ none_there

  entries_are : entries (insert m.trees name (new_tree branches)) ≡ put name_order name (new_tree branches) (entries m.trees)
  entries_are = entries-insert names_total m.trees name (new_tree branches)

  -- with what is kept of it, and its key
  module _ (t : FilledTree) (kept : kept_tree_of t ≡ kept_tree (name, new_tree branches)) (key : KeyHead) (name_is : key.name ≡ name) (first : key.cycle ≡ 1) (tree_key : is_tree_key key ≡ true) where
    abbrev before : List KeptTree
    before = map kept_tree_of s.trees

    abbrev trees_then : List KeptTree
    trees_then = map kept_tree_of (with_filled t s.trees)

    trees_are : map kept_tree_of (with_filled t s.trees) ≡ with_kept (kept_tree (name, new_tree branches)) (map kept_tree_of s.trees)
    trees_are = kept_with t s.trees ∙ ap (λ (k : KeptTree). with_kept k (map kept_tree_of s.trees)) kept

    kept_then : map kept_tree_of (with_filled t s.trees) ≡ map kept_tree (entries (insert m.trees name (new_tree branches)))
    kept_then =
        trees_are
        ∙ ap (with_kept (kept_tree (name, new_tree branches))) are.keys.kept
        ∙ sym (kept_put name (new_tree branches) es none_entry)
        ∙ ap (map kept_tree) (sym entries_are)

    some_then : (n : List ℕ) → is_some (tree_of n trees_then) ≡ (bytes_eq name n || is_some (tree_of n before))
    some_then n = ap (λ (ts : List KeptTree). is_some (tree_of n ts)) trees_are ∙ some_with (is_of_name n) (kept_tree (name, new_tree branches)) before

    others : (n : List ℕ) → bytes_eq n name ≡ false → is_some (tree_of n trees_then) ≡ is_some (tree_of n before)
    others n apart = some_then n ∙ ap (λ (b : Bool). b || is_some (tree_of n before)) (bytes_eq-sym name n ∙ apart)

    own_kind : items.is_tree_key trees_then key ≡ true
    own_kind =
        ap (λ (n : List ℕ). is_some (tree_of n trees_then)) name_is
        ∙ some_then name
        ∙ ap (λ (b : Bool). b || is_some (tree_of name before)) ((bytes_eq-Decides name name).1 refl)

    none : find (is_at_cycle key.name key.cycle) s.heads ≡ None
    none = ap (λ (n : List ℕ). find (is_at_cycle n key.cycle) s.heads) name_is ∙ none_at_cycle name key.cycle s.heads none_headed

    item_is : item_of_key key ≡ item_of_tree (name, new_tree branches)
    item_is = λ i. (name_is i, first i)

    cycles : map item_of_key (filter (items.is_tree_key trees_then) (with_head key s.heads)) ≡ map item_of_tree (entries (insert m.trees name (new_tree branches)))
    cycles =
        ap (map item_of_key) (filter_with (items.is_tree_key trees_then) key own_kind s.heads are.keys.ordered none)
        ∙ ap (λ (ks : List KeyHead). map item_of_key (with_head key ks)) (filter_alike trees_then before name others (λ b. b) s.heads none_headed)
        ∙ keys_with key name (new_tree branches) item_is (filter (items.is_tree_key before) s.heads) es are.keys.cycles none_entry
        ∙ ap (map item_of_tree) (sym entries_are)

    objects : map told_by_key (filter (is_object_key trees_then) (with_head key s.heads)) ≡ map listed_object (entries m.objects)
    objects =
        ap (map told_by_key) (filter_same (is_object_key trees_then) key s.heads (with_head key s.heads) (head_more key s.heads) (ap not own_kind)
        ∙ filter_alike trees_then before name others not s.heads none_headed)
        ∙ are.keys.objects

    -- whatever segments and class list are kept
    pub tree_stands : (next : SessionState) → next.classes ≡ s.classes → next.heads ≡ with_head key s.heads → next.trees ≡ with_filled t s.trees → IsOfKeys next (record m { trees = insert m.trees name (new_tree branches) })
    tree_stands next classes heads trees =
        let now : List KeyHead × List KeptTree = (with_head key s.heads, trees_then) in
        let same : ◌≡◌ {A = List KeyHead × List KeptTree} now (next.heads, kept_trees next) = λ i. (sym heads i, map kept_tree_of (sym trees i)) in
        let whole : AreItemsOfState (with_head key s.heads) trees_then (record m { trees = insert m.trees name (new_tree branches) }) = record {
          ordered = ordered_with key s.heads are.keys.ordered none;
          objects = objects;
          cycles = cycles;
          kept = kept_then;
        } in
        let kinds : AreTreeKeys (with_head key s.heads) trees_then = kinds_with trees_then key s.heads (own_kind ∙ sym tree_key) (kinds_alike trees_then before name others s.heads none_headed are.trees) in
        record {
          classes = are.classes ∙ sym classes;
          keys = subst (λ (p : List KeyHead × List KeptTree). AreItemsOfState p.0 p.1 (record m { trees = insert m.trees name (new_tree branches) })) same whole;
          trees = subst (λ (p : List KeyHead × List KeptTree). AreTreeKeys p.0 p.1) same kinds;
        }
