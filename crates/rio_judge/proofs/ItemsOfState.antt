-- What keys and trees tell of the state for whose objects and trees they stand.
use Rattle.std.proofs.Common.{◌≡◌, ℕ, ◌+◌, ◌∙◌, List, [], ◌∷◌, map, length, Bool, true, false, cond, not, eqb, Option, Some, None, refl, sym, ap, subst, arith}
use Rattle.std.proofs.lemmas.{Cmp.{nat_list_eq_equiv}, List.{length-map}, List.Filters.{length-filter_both}, Map.Text.{is_eq-slice_cmp}, Slice.Eq.{bytes_eq-Decides}}
use Rattle.std.specs.{Prelude.{is_some}, FinMap.{contains_key, entries, get, get-entries, len, len-entries}}
use Rattle.std.specs.FinMap.Entries as entry
use Rattle.std.specs.{List.{filter, find}, Option.{option_map, option_map_or}, Ordering.{eq_by_cmp}, Str.{bytes_eq}}
use Rattle.rio_num.proofs.Cases.{none_from, some_of}
use Rattle.rio_num.specs.Word.{name_order}
use Rattle.rio_key.specs.declared.head.KeyHead.{KeyHead}
use Rattle.rio_dir.specs.Table.{AreOrdered, greatest_cycle, head_of, is_at_cycle, is_of_name}
use Rattle.rio_dir.proofs.{TableLists.{cycle_of, greatest_is}, TableOrder.{at_is}}
use Rattle.rio_tree_table.specs.{Table.{tree_of}, declared.table.KeptTree.{KeptTree}}
use Rattle.rio_machine.specs.State.{NameAndCycle, State, Tree, item_count, last_cycle, names_object, names_tree}
use Rattle.rio_step.specs.{ItemKeys.{told_by_key}, KeptItems.{AreItemsOfState, is_object_key, is_tree_key, item_of_key, item_of_tree, kept_tree}, Step.{listed_object}}
use Rattle.rio_judge.proofs.{Divided.{find_dropped, find_kept, greatest_kept}, KeysOfState.{contains_is, cycles_are, names_are}}

-- ---- names of trees

tied_names : (a b : List ℕ) → eq_by_cmp name_order a b ≡ bytes_eq b a
tied_names a b = is_eq-slice_cmp a b ∙ nat_list_eq_equiv.symm a b

-- the kept tree of a name is what is kept of the tree of the name
kept_found : (name : List ℕ) (es : List (List ℕ × Tree)) → tree_of name (map kept_tree es) ≡ option_map (λ t. kept_tree (name, t)) (entry.find name_order name es)
kept_found name [] = refl
kept_found name (e ∷ es) = by (bytes_eq e.0 name) refl (kept_found name es)
  where
    by : (b : Bool) → bytes_eq e.0 name ≡ b → tree_of name (map kept_tree es) ≡ option_map (λ t. kept_tree (name, t)) (entry.find name_order name es)
        → cond b (Some (kept_tree e)) (tree_of name (map kept_tree es)) ≡ option_map (λ t. kept_tree (name, t)) (cond (eq_by_cmp name_order name e.0) (Some e.1) (entry.find name_order name es))
    by true is ih =
        let same : e.0 ≡ name = (bytes_eq-Decides e.0 name).0 is in
        ap (λ n. let o : Option KeptTree = Some (kept_tree (n, e.1)) in o) same
        ∙ ap (λ b. option_map (λ t. kept_tree (name, t)) (cond b (Some e.1) (entry.find name_order name es))) (sym (tied_names name e.0 ∙ is))
    by false is ih = ih ∙ ap (λ b. option_map (λ t. kept_tree (name, t)) (cond b (Some e.1) (entry.find name_order name es))) (sym (tied_names name e.0 ∙ is))

-- the first key of a name among the trees' has the cycle of the tree of the name
cycle_found : (name : List ℕ) (hs : List KeyHead) (es : List (List ℕ × Tree)) → map item_of_key hs ≡ map item_of_tree es
    → option_map (λ h. h.cycle) (find (is_of_name name) hs) ≡ option_map (λ t. t.cycle) (entry.find name_order name es)
cycle_found name [] [] same = refl
cycle_found name [] (e ∷ es) same = absurd cc
cycle_found name (h ∷ hs) [] same = absurd cc
cycle_found name (h ∷ hs) (e ∷ es) same = by (bytes_eq e.0 name) refl (cycle_found name hs es rest)
  where
    first : item_of_key h ≡ item_of_tree e
    first = cc

    rest : map item_of_key hs ≡ map item_of_tree es
    rest = cc

    by : (b : Bool) → bytes_eq e.0 name ≡ b → option_map (λ h. h.cycle) (find (is_of_name name) hs) ≡ option_map (λ t. t.cycle) (entry.find name_order name es)
        → option_map (λ h. h.cycle) (cond (bytes_eq h.name name) (Some h) (find (is_of_name name) hs)) ≡ option_map (λ t. t.cycle) (cond (eq_by_cmp name_order name e.0) (Some e.1) (entry.find name_order name es))
    by b is ih =
        let named : bytes_eq h.name name ≡ b = ap (λ (x : NameAndCycle). bytes_eq x.0 name) first ∙ is in
        let tied : eq_by_cmp name_order name e.0 ≡ b = tied_names name e.0 ∙ is in
        ap (λ x. option_map (λ (h : KeyHead). h.cycle) (cond x (Some h) (find (is_of_name name) hs))) named
        ∙ at b ih
        ∙ ap (λ x. option_map (λ (t : Tree). t.cycle) (cond x (Some e.1) (entry.find name_order name es))) (sym tied)
      where
        at : (b : Bool) → option_map (λ h. h.cycle) (find (is_of_name name) hs) ≡ option_map (λ t. t.cycle) (entry.find name_order name es)
            → option_map (λ (h : KeyHead). h.cycle) (cond b (Some h) (find (is_of_name name) hs)) ≡ option_map (λ (t : Tree). t.cycle) (cond b (Some e.1) (entry.find name_order name es))
        at true ih = ap (λ (x : NameAndCycle). let o : Option ℕ = Some x.1 in o) first
        at false ih = ih

mapped_some : {A B : Type 0} (f : A → B) (o : Option A) → is_some (option_map f o) ≡ is_some o
mapped_some f None = refl
mapped_some f (Some x) = refl

-- ---- what is told of a name

-- no tree has the name: the keys of the name are those of its objects
pub record NamesObjects (heads : List KeyHead) (m : State) (name : List ℕ) : Type 0 where
  pub tree : get m.trees name ≡ None
  pub named : names_object m name ≡ is_some (head_of name None heads)
  pub has : (cycle : ℕ) → contains_key m.objects (name, cycle) ≡ is_some (head_of name (Some cycle) heads)
  pub last : last_cycle m name ≡ greatest_cycle name heads

-- a tree has the name: no object has it, and its key has the tree's cycle
pub record NamesTree (heads : List KeyHead) (m : State) (name : List ℕ) (k : KeptTree) : Type 0 where
  pub tree : Tree
  pub there : get m.trees name ≡ Some tree
  pub kept : kept_tree (name, tree) ≡ k
  pub free : names_object m name ≡ false
  pub key : KeyHead
  pub found : head_of name None heads ≡ Some key
  pub cycle : tree.cycle ≡ key.cycle
  pub has : (cycle : ℕ) → contains_key m.objects (name, cycle) ≡ false

module _ (heads : List KeyHead) (trees : List KeptTree) (m : State) (are : AreItemsOfState heads trees m) where
  tree_found : (name : List ℕ) → option_map (λ t. kept_tree (name, t)) (get m.trees name) ≡ tree_of name trees
  tree_found name = ap (option_map (λ t. kept_tree (name, t))) (get-entries m.trees name) ∙ sym (kept_found name (entries m.trees)) ∙ ap (tree_of name) (sym are.kept)

  -- a tree has the name exactly where a kept tree has it
  pub tree_is : (name : List ℕ) → names_tree m name ≡ is_some (tree_of name trees)
  tree_is name = sym (mapped_some (λ t. kept_tree (name, t)) (get m.trees name)) ∙ ap is_some (tree_found name)

  abbrev objects : List KeyHead
  objects = filter (is_object_key trees) heads

  -- the keys of a name are all kept or all left out
  of_tree : (name : List ℕ) (b : Bool) → is_some (tree_of name trees) ≡ b → (h : KeyHead) → is_of_name name h ≡ true → is_tree_key trees h ≡ b
  of_tree name b is h named = ap (λ n. is_some (tree_of n trees)) ((bytes_eq-Decides h.name name).0 named) ∙ is

  at_name : (name : List ℕ) (cycle : ℕ) (h : KeyHead) → is_at_cycle name cycle h ≡ true → is_of_name name h ≡ true
  at_name name cycle h at = (bytes_eq-Decides h.name name).1 (at_is name cycle h at).0

  pub names_objects : (name : List ℕ) → tree_of name trees ≡ None → NamesObjects heads m name
  names_objects name none =
      let out : is_some (tree_of name trees) ≡ false = ap is_some none in
      let kept = λ (h : KeyHead) (named : is_of_name name h ≡ true). ap not (of_tree name false out h named) in
      record {
        tree = none_from (get m.trees name) (tree_is name ∙ out);
        named = names_are objects m name are.objects ∙ ap is_some (find_kept (is_object_key trees) (is_of_name name) kept heads);
        has = λ cycle. contains_is objects m name cycle are.objects ∙ ap is_some (find_kept (is_object_key trees) (is_at_cycle name cycle) (λ h at. kept h (at_name name cycle h at)) heads);
        last = cycles_are objects m name are.objects ∙ greatest_kept (is_object_key trees) name kept heads;
      }

  pub names_one_tree : (name : List ℕ) (k : KeptTree) → tree_of name trees ≡ Some k → NamesTree heads m name k
  names_one_tree name k some =
      let in_trees : is_some (tree_of name trees) ≡ true = ap is_some some in
      let dropped = λ (h : KeyHead) (named : is_of_name name h ≡ true). ap not (of_tree name true in_trees h named) in
      let t = some_of (get m.trees name) (tree_is name ∙ in_trees) in
      let kept : kept_tree (name, t.0) ≡ k = some_is _ k (ap (option_map (λ t. kept_tree (name, t))) (sym t.1) ∙ tree_found name ∙ some) in
      let all = find_kept (is_tree_key trees) (is_of_name name) (of_tree name true in_trees) heads in
      let cycles : option_map (λ h. h.cycle) (find (is_of_name name) heads) ≡ Some t.0.cycle =
      ap (option_map (λ (h : KeyHead). h.cycle)) (sym all) ∙ cycle_found name (filter (is_tree_key trees) heads) (entries m.trees) are.cycles ∙ ap (option_map (λ (t : Tree). t.cycle)) (sym (get-entries m.trees name) ∙ t.1) in
      let h = some_of (find (is_of_name name) heads) (sym (mapped_some (λ (h : KeyHead). h.cycle) (find (is_of_name name) heads)) ∙ ap is_some cycles) in
      record {
        tree = t.0;
        there = t.1;
        kept = kept;
        free = names_are objects m name are.objects ∙ ap is_some (find_dropped (is_object_key trees) (is_of_name name) dropped heads);
        key = h.0;
        found = h.1;
        cycle = some_is _ _ (sym cycles ∙ ap (option_map (λ (h : KeyHead). h.cycle)) h.1);
        has = λ cycle. contains_is objects m name cycle are.objects ∙ ap is_some (find_dropped (is_object_key trees) (is_at_cycle name cycle) (λ h at. dropped h (at_name name cycle h at)) heads);
      }
    where
      some_is : {A : Type 0} (x y : A) → ◌≡◌ {A = Option A} (Some x) (Some y) → x ≡ y
      some_is x y e = cc

  -- ---- all items

  -- there are as many items as keys
  pub count_is : item_count m ≡ length heads
  count_is =
      let listed = sym (length-map (entries m.objects) listed_object) ∙ ap length (sym are.objects) ∙ length-map objects told_by_key in
      let keyed = sym (length-map (entries m.trees) item_of_tree) ∙ ap length (sym are.cycles) ∙ length-map (filter (is_tree_key trees) heads) item_of_key in
      let all = length-filter_both (is_tree_key trees) (is_object_key trees) (λ h. refl) heads in
      omega (arith, listed, keyed, all, len-entries m.objects, len-entries m.trees)

  -- the first key of a name without a tree has the greatest cycle of its objects
  pub first_is_greatest : (name : List ℕ) (h : KeyHead) → NamesObjects heads m name → head_of name None heads ≡ Some h → last_cycle m name ≡ h.cycle
  first_is_greatest name h facts found = facts.last ∙ greatest_is name heads are.ordered ∙ ap cycle_of found
