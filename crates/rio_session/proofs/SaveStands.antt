-- What a session keeps after a save stands for the state after it.
use Rattle.std.proofs.Common.{◌≡◌, ℕ, ◌+◌, List, [], ◌∷◌, ◌++◌, length, map, Bool, true, false, cond, not, Option, Some, None, refl, sym, ap, subst, ◌∙◌, arith}
use Rattle.std.proofs.lemmas.{List.{length-append}, Slice.Eq.{bytes_eq-Decides}}
use Rattle.std.specs.{Prelude.{if◌then◌else◌, is_some, nat_lt}, FinMap.{entries, entries-insert, find as find_key, get, get-insert, get-remove, insert, remove, same_map, Entries.{by_order, put}}}
use Rattle.std.specs.{List.{filter, find}, Option.{option_map, option_map_or}, Ordering.{eq_by_cmp, is_eq, ordering_reverse}, Set.{remove_key}, Str.{bytes_eq}, declared.cmp.Ordering.{Ordering, TheVariants.{Less, Equal, Greater}}}
use Rattle.rio_num.specs.Word.{name_order}
use Rattle.rio_key.specs.declared.head.KeyHead.{KeyHead}
use Rattle.rio_dir.proofs.TableLists.{ordered_with, ordered_without}
use Rattle.rio_chain.specs.declared.segment.Segment.{Segment}
use Rattle.rio_dir.specs.Table.{AreOrdered, first_by, head_of, is_at_cycle, is_before, with_head, without_head}
use Rattle.rio_tree_table.specs.{Table.{tree_of}, declared.table.KeptTree.{KeptTree}}
use Rattle.rio_machine.proofs.OrderLaws.{names_tie, names_total}
use Rattle.rio_machine.specs.{State.{NameAndCycle, State, Tree}, declared.command.Command.TheVariants.{Save}}
use Rattle.rio_state.specs.KeyedRecords.{is_tree_key}
use Rattle.rio_state.proofs.{Insertion.{filter_same}, KeysFollow.{head_more}}
use Rattle.rio_judge.proofs.{ItemsOfState.{NamesTree, names_one_tree}, KeysOfState.{first_is_found, none_above_first}}
use Rattle.rio_fill.specs.Fill.{BranchFill, TreeFill, all_saved, defs_of}
use Rattle.rio_step.specs.KeptItems as items
use Rattle.rio_step.specs.{ItemKeys.{told_by_key}, KeptItems.{AreItemsOfState, is_object_key, item_of_key, item_of_tree, kept_tree}, Step.{listed_object, state_behind, tree_saved}}
use Rattle.rio_session.specs.{Fillings.{branches_become}, Fills.{FilledTree, is_tree_of, kept_tree_of, with_change}, Items.{AreTreeKeys, IsOfKeys}, SessionState.{SessionState, kept_trees}}
use Rattle.rio_session.proofs.{FillLists.{kept_found as kept_named}, KeysBehind.{filter_with, same_kind}, KeysWithout.{apart_name, back, cycles_without, filter_dropped, kinds_less, none_left, none_parts, tree_cycle, trees_left}}

-- ---- a tree is changed

abbrev pub Named : Type 0
Named = List ℕ × Tree

-- those of other names stay
unchanged : (name : List ℕ) (change : TreeFill → TreeFill) (ts : List FilledTree) (es : List Named) → map kept_tree_of ts ≡ map kept_tree es → find_key name_order name es ≡ None → with_change name change ts ≡ ts
unchanged name change [] es same none = refl
unchanged name change (t ∷ ts) [] same none = absurd cc
unchanged name change (t ∷ ts) (e ∷ es) same none =
    let first : kept_tree_of t ≡ kept_tree e = cc in
    let rest : map kept_tree_of ts ≡ map kept_tree es = cc in
    let parts = none_parts (eq_by_cmp name_order name e.0) e.1 (find_key name_order name es) none in
    let other : is_tree_of name t ≡ false = ap (λ (k : KeptTree). bytes_eq k.name name) first ∙ apart_name name e.0 parts.0 in
    λ i. (if other i then record t { fill = change t.fill } else t) ∷ unchanged name change ts es rest parts.1 i

module _ (name : List ℕ) (change : TreeFill → TreeFill) (before after : Tree)
    (becomes : (t : FilledTree) → kept_tree_of t ≡ kept_tree (name, before) → kept_tree_of (record t { fill = change t.fill }) ≡ kept_tree (name, after)) where
  -- the kept trees with that of a name changed are those of the state with it changed
  pub kept_changed : (es : List Named) → find_key name_order name es ≡ None → (ts : List FilledTree) → map kept_tree_of ts ≡ map kept_tree (put name_order name before es)
      → map kept_tree_of (with_change name change ts) ≡ map kept_tree (put name_order name after es)
  kept_changed [] none [] same = absurd cc
  kept_changed [] none (t ∷ ts) same =
      let first : kept_tree_of t ≡ kept_tree (name, before) = cc in
      let rest : map kept_tree_of ts ≡ [] = cc in
      own t ts [] first rest refl
    where
      own : (t : FilledTree) (ts : List FilledTree) (es : List Named) → kept_tree_of t ≡ kept_tree (name, before) → map kept_tree_of ts ≡ map kept_tree es → find_key name_order name es ≡ None
          → map kept_tree_of (with_change name change (t ∷ ts)) ≡ kept_tree (name, after) ∷ map kept_tree es
      own t ts es first rest none =
          let named : is_tree_of name t ≡ true = (bytes_eq-Decides t.name name).1 (ap (λ (k : KeptTree). k.name) first) in
          let one = ap (λ (b : Bool). kept_tree_of (if b then record t { fill = change t.fill } else t)) named ∙ becomes t first in
          let more = ap (map kept_tree_of) (unchanged name change ts es rest none) ∙ rest in
          λ i. one i ∷ more i
  kept_changed (e ∷ es) none [] same = by (name_order name e.0) same
    where
      by : (o : Ordering) → map kept_tree_of [] ≡ map kept_tree (by_order o ((name, before) ∷ e ∷ es) ((e.0, before) ∷ es) (e ∷ put name_order name before es))
          → map kept_tree_of (with_change name change []) ≡ map kept_tree (by_order (name_order name e.0) ((name, after) ∷ e ∷ es) ((e.0, after) ∷ es) (e ∷ put name_order name after es))
      by Less same = absurd cc
      by Equal same = absurd cc
      by Greater same = absurd cc
  kept_changed (e ∷ es) none (t ∷ ts) same = by (name_order name e.0) refl same (kept_changed es parts.1 ts)
    where
      parts : (eq_by_cmp name_order name e.0 ≡ false) × (find_key name_order name es ≡ None)
      parts = none_parts (eq_by_cmp name_order name e.0) e.1 (find_key name_order name es) none

      by : (o : Ordering) → name_order name e.0 ≡ o → map kept_tree_of (t ∷ ts) ≡ map kept_tree (by_order o ((name, before) ∷ e ∷ es) ((e.0, before) ∷ es) (e ∷ put name_order name before es))
          → (map kept_tree_of ts ≡ map kept_tree (put name_order name before es) → map kept_tree_of (with_change name change ts) ≡ map kept_tree (put name_order name after es))
          → map kept_tree_of (with_change name change (t ∷ ts)) ≡ map kept_tree (by_order o ((name, after) ∷ e ∷ es) ((e.0, after) ∷ es) (e ∷ put name_order name after es))
      by Less is same later =
          let first : kept_tree_of t ≡ kept_tree (name, before) = cc in
          let rest : map kept_tree_of ts ≡ map kept_tree (e ∷ es) = cc in
          let named : is_tree_of name t ≡ true = (bytes_eq-Decides t.name name).1 (ap (λ (k : KeptTree). k.name) first) in
          let one = ap (λ (b : Bool). kept_tree_of (if b then record t { fill = change t.fill } else t)) named ∙ becomes t first in
          let more = ap (map kept_tree_of) (unchanged name change ts (e ∷ es) rest none) ∙ rest in
          λ i. one i ∷ more i
      by Equal is same later = let never : true ≡ false = sym (ap is_eq is) ∙ parts.0 in absurd cc
      by Greater is same later =
          let first : kept_tree_of t ≡ kept_tree e = cc in
          let rest : map kept_tree_of ts ≡ map kept_tree (put name_order name before es) = cc in
          let other : is_tree_of name t ≡ false = ap (λ (k : KeptTree). bytes_eq k.name name) first ∙ apart_name name e.0 parts.0 in
          let one = ap (λ (b : Bool). kept_tree_of (if b then record t { fill = change t.fill } else t)) other ∙ first in
          let more = later rest in
          λ i. one i ∷ more i

-- it has the names that it had
pub names_still : (n name : List ℕ) (change : TreeFill → TreeFill) (ts : List FilledTree) → is_some (tree_of n (map kept_tree_of (with_change name change ts))) ≡ is_some (tree_of n (map kept_tree_of ts))
names_still n name change [] = refl
names_still n name change (t ∷ ts) = by (is_tree_of name t) (bytes_eq t.name n) (names_still n name change ts)
  where
    by : (b c : Bool) → is_some (tree_of n (map kept_tree_of (with_change name change ts))) ≡ is_some (tree_of n (map kept_tree_of ts))
        → is_some (cond (bytes_eq (if b then record t { fill = change t.fill } else t).name n) (Some (kept_tree_of (if b then record t { fill = change t.fill } else t))) (tree_of n (map kept_tree_of (with_change name change ts))))
        ≡ is_some (cond (bytes_eq t.name n) (Some (kept_tree_of t)) (tree_of n (map kept_tree_of ts)))
    by true c later = at (bytes_eq t.name n)
      where
        at : (d : Bool) → is_some (cond d (Some (kept_tree_of (record t { fill = change t.fill }))) (tree_of n (map kept_tree_of (with_change name change ts)))) ≡ is_some (cond d (Some (kept_tree_of t)) (tree_of n (map kept_tree_of ts)))
        at true = refl
        at false = later
    by false c later = at (bytes_eq t.name n)
      where
        at : (d : Bool) → is_some (cond d (Some (kept_tree_of t)) (tree_of n (map kept_tree_of (with_change name change ts)))) ≡ is_some (cond d (Some (kept_tree_of t)) (tree_of n (map kept_tree_of ts)))
        at true = refl
        at false = later

-- ---- its key

-- the keys of trees with one more are those of the state's trees with one more
module _ (h : KeyHead) (name : List ℕ) (t : Tree) (own : item_of_key h ≡ item_of_tree (name, t)) where
  name_is : h.name ≡ name
  name_is = ap (λ (x : NameAndCycle). x.0) own

  pub keys_with : (ks : List KeyHead) (es : List Named) → map item_of_key ks ≡ map item_of_tree es → find_key name_order name es ≡ None → map item_of_key (with_head h ks) ≡ map item_of_tree (put name_order name t es)
  keys_with [] [] same none = λ i. own i ∷ []
  keys_with [] (e ∷ es) same none = absurd cc
  keys_with (k ∷ ks) [] same none = absurd cc
  keys_with (k ∷ ks) (e ∷ es) same none = by (name_order name e.0) refl (keys_with ks es rest parts.1)
    where
      first : item_of_key k ≡ item_of_tree e
      first = cc

      rest : map item_of_key ks ≡ map item_of_tree es
      rest = cc

      parts : (eq_by_cmp name_order name e.0 ≡ false) × (find_key name_order name es ≡ None)
      parts = none_parts (eq_by_cmp name_order name e.0) e.1 (find_key name_order name es) none

      order_is : name_order k.name h.name ≡ ordering_reverse (name_order name e.0)
      order_is = (λ i. name_order (first i).0 (name_is i)) ∙ names_total.antisymm e.0 name

      by : (o : Ordering) → name_order name e.0 ≡ o → map item_of_key (with_head h ks) ≡ map item_of_tree (put name_order name t es)
          → map item_of_key (with_head h (k ∷ ks)) ≡ map item_of_tree (by_order o ((name, t) ∷ e ∷ es) ((e.0, t) ∷ es) (e ∷ put name_order name t es))
      by Less is later =
          let b : is_before h.name h.cycle k ≡ false = ap (λ (o : Ordering). first_by o (nat_lt h.cycle k.cycle)) (order_is ∙ ap ordering_reverse is) in
          let one : map item_of_key (h ∷ k ∷ ks) ≡ map item_of_tree ((name, t) ∷ e ∷ es) = λ i. own i ∷ first i ∷ rest i in
          ap (λ (c : Bool). map item_of_key (if c then k ∷ with_head h ks else h ∷ k ∷ ks)) b ∙ one
      by Equal is later = let never : true ≡ false = sym (ap is_eq is) ∙ parts.0 in absurd cc
      by Greater is later =
          let b : is_before h.name h.cycle k ≡ true = ap (λ (o : Ordering). first_by o (nat_lt h.cycle k.cycle)) (order_is ∙ ap ordering_reverse is) in
          let one : map item_of_key (k ∷ with_head h ks) ≡ map item_of_tree (e ∷ put name_order name t es) = λ i. first i ∷ later i in
          ap (λ (c : Bool). map item_of_key (if c then k ∷ with_head h ks else h ∷ k ∷ ks)) b ∙ one

pub kinds_with : (trees : List KeptTree) (h : KeyHead) (ks : List KeyHead) → items.is_tree_key trees h ≡ is_tree_key h → AreTreeKeys ks trees → AreTreeKeys (with_head h ks) trees
kinds_with trees h [] own are = (own, tt)
kinds_with trees h (k ∷ ks) own are = by (is_before h.name h.cycle k) (kinds_with trees h ks own are.1)
  where
    by : (b : Bool) → AreTreeKeys (with_head h ks) trees → AreTreeKeys (if b then k ∷ with_head h ks else h ∷ k ∷ ks) trees
    by true later = (are.0, later)
    by false later = (own, are)

pub kinds_as : (a b : List KeptTree) → ((h : KeyHead) → items.is_tree_key a h ≡ items.is_tree_key b h) → (ks : List KeyHead) → AreTreeKeys ks b → AreTreeKeys ks a
kinds_as a b same [] are = tt
kinds_as a b same (k ∷ ks) are = (same k ∙ are.0, kinds_as a b same ks are.1)

-- ---- a tree of the name

pub none_without : (t q : KeyHead → Bool) (hs : List KeyHead) → find t hs ≡ None → find t (remove_key q hs) ≡ None
none_without t q [] none = refl
none_without t q (h ∷ hs) none = by (q h) (none_without t q hs parts.1)
  where
    parts : (t h ≡ false) × (find t hs ≡ None)
    parts = none_parts (t h) h (find t hs) none

    by : (b : Bool) → find t (remove_key q hs) ≡ None → find t (cond b hs (h ∷ remove_key q hs)) ≡ None
    by true later = parts.1
    by false later = ap (λ (c : Bool). cond c (Some h) (find t (remove_key q hs))) parts.0 ∙ later

-- ---- a save

module _ (s : SessionState) (m : State) (h : KeyHead) (are : IsOfKeys s m) (t : FilledTree) (found : find (is_tree_of h.name) s.trees ≡ Some t) (first : head_of h.name None s.heads ≡ Some h) where
  abbrev trees : List KeptTree
  trees = kept_trees s

  kept_found : tree_of h.name (kept_trees s) ≡ Some (kept_tree_of t)
  kept_found = kept_named h.name s.trees ∙ ap (option_map kept_tree_of) found

  pub named : NamesTree s.heads m h.name (kept_tree_of t)
  named = names_one_tree s.heads (kept_trees s) m are.keys h.name (kept_tree_of t) kept_found

  own : head_of h.name (Some h.cycle) s.heads ≡ Some h
  own = first_is_found h.name s.heads h first

  abbrev pub tree_before : Tree
  tree_before = named.tree

  pub cycle_is : named.tree.cycle ≡ h.cycle
  cycle_is = tree_cycle s.heads (kept_trees s) m h are.keys own (kept_tree_of t) kept_found named.tree named.there

  abbrev others : List Named
  others = entries (remove m.trees h.name)

  -- the state with the tree saved
  replaced : insert m.trees h.name (tree_saved named.tree) ≡ insert (remove m.trees h.name) h.name (tree_saved named.tree)
  replaced = same_map names_total names_tie (insert m.trees h.name (tree_saved named.tree)) (insert (remove m.trees h.name) h.name (tree_saved named.tree)) (λ q.
      let v = tree_saved named.tree in
      get-insert names_total m.trees h.name v q
      ∙ by q (eq_by_cmp name_order q h.name)
      ∙ sym (get-insert names_total (remove m.trees h.name) h.name v q ∙ ap (cond (eq_by_cmp name_order q h.name) (Some v)) (get-remove names_total m.trees h.name q)))
    where
      by : (q : List ℕ) (b : Bool) → cond b (Some (tree_saved named.tree)) (get m.trees q) ≡ cond b (Some (tree_saved named.tree)) (cond b None (get m.trees q))
      by q true = refl
      by q false = refl

  entries_are : entries (insert m.trees h.name (tree_saved named.tree)) ≡ put name_order h.name (tree_saved named.tree) (entries (remove m.trees h.name))
  entries_are = ap entries replaced ∙ entries-insert names_total (remove m.trees h.name) h.name (tree_saved named.tree)

  pub behind_is : state_behind m (Save h.name) ≡ record m { trees = insert m.trees h.name (tree_saved named.tree) }
  behind_is = ap (λ (o : Option Tree). option_map_or (λ x. record m { trees = insert m.trees h.name (tree_saved x) }) o m) named.there

  module _ (branches : List BranchFill) (defs : defs_of branches ≡ defs_of t.fill.branches) (key : KeyHead) (name_is : key.name ≡ h.name) (next : key.cycle ≡ h.cycle + 1) (tree_key : is_tree_key key ≡ true) where
    abbrev change : TreeFill → TreeFill
    change f = all_saved (branches_become branches f)

    abbrev trees_then : List KeptTree
    trees_then = map kept_tree_of (with_change h.name (λ f. all_saved (branches_become branches f)) s.trees)

    abbrev left : List KeyHead
    left = without_head h.name h.cycle s.heads

    saved_long : length (named.tree.saved ++ named.tree.pending) ≡ length named.tree.saved + length named.tree.pending
    saved_long = length-append named.tree.saved named.tree.pending

    becomes : (u : FilledTree) → kept_tree_of u ≡ kept_tree (h.name, named.tree) → kept_tree_of (record u { fill = all_saved (branches_become branches u.fill) }) ≡ kept_tree (h.name, tree_saved named.tree)
    becomes u is =
        let own_defs : defs_of branches ≡ named.tree.branches = defs ∙ ap (λ (k : KeptTree). k.branches) (sym named.kept) in
        let one : u.name ≡ h.name = ap (λ (k : KeptTree). k.name) is in
        let two : u.fill.saved + u.fill.pending ≡ length (named.tree.saved ++ named.tree.pending) =
        (λ i. (is i).saved + (is i).pending) ∙ sym saved_long in
        λ i. record { name = one i; branches = own_defs i; saved = two i; pending = 0 }

    kept_then : map kept_tree_of (with_change h.name (λ f. all_saved (branches_become branches f)) s.trees) ≡ map kept_tree (entries (insert m.trees h.name (tree_saved named.tree)))
    kept_then =
        kept_changed h.name (λ f. all_saved (branches_become branches f)) named.tree (tree_saved named.tree) becomes others (none_left names_total names_tie m.trees h.name) s.trees
        (are.keys.kept ∙ ap (map kept_tree) (back names_total names_tie m.trees h.name named.tree named.there))
        ∙ ap (map kept_tree) (sym entries_are)

    kinds : items.is_tree_key trees_then ≡ items.is_tree_key trees
    kinds = λ i k. names_still k.name h.name (λ f. all_saved (branches_become branches f)) s.trees i

    own_kind : items.is_tree_key trees key ≡ true
    own_kind = ap (λ (n : List ℕ). is_some (tree_of n trees)) name_is ∙ ap is_some kept_found

    none : find (is_at_cycle key.name key.cycle) left ≡ None
    none =
        let above = none_above_first s.heads key.name h key.cycle are.keys.ordered (ap (λ (n : List ℕ). head_of n None s.heads) name_is ∙ first) (omega (arith, next)) in
        none_without (is_at_cycle key.name key.cycle) (is_at_cycle h.name h.cycle) s.heads above

    left_ordered : AreOrdered left
    left_ordered = ordered_without (is_at_cycle h.name h.cycle) s.heads are.keys.ordered

    item_is : item_of_key key ≡ item_of_tree (h.name, tree_saved named.tree)
    item_is = let cycle : key.cycle ≡ named.tree.cycle + 1 = next ∙ ap (λ (n : ℕ). n + 1) (sym cycle_is) in λ i. (name_is i, cycle i)

    cycles : map item_of_key (filter (items.is_tree_key trees) (with_head key left)) ≡ map item_of_tree (entries (insert m.trees h.name (tree_saved named.tree)))
    cycles =
        ap (map item_of_key) (filter_with (items.is_tree_key trees) key own_kind left left_ordered none)
        ∙ ap (λ (ks : List KeyHead). map item_of_key (with_head key ks)) (trees_left s.heads trees m h are.keys (kept_tree_of t) kept_found named.tree named.there cycle_is)
        ∙ keys_with key h.name (tree_saved named.tree) item_is (remove_key (is_at_cycle h.name h.cycle) (filter (items.is_tree_key trees) s.heads)) others
        (cycles_without s.heads trees m h are.keys (kept_tree_of t) kept_found named.tree named.there cycle_is) (none_left names_total names_tie m.trees h.name)
        ∙ ap (map item_of_tree) (sym entries_are)

    objects : map told_by_key (filter (is_object_key trees) (with_head key left)) ≡ map listed_object (entries m.objects)
    objects =
        ap (map told_by_key) (filter_same (is_object_key trees) key left (with_head key left) (head_more key left) (ap not own_kind)
        ∙ filter_dropped (is_object_key trees) (is_at_cycle h.name h.cycle) (λ k at. ap not (same_kind trees h.name h.cycle k at ∙ ap is_some kept_found)) s.heads)
        ∙ are.keys.objects

    items_then : AreItemsOfState (with_head key left) trees_then (record m { trees = insert m.trees h.name (tree_saved named.tree) })
    items_then = record {
      ordered = ordered_with key left left_ordered none;
      objects = ap (λ (p : KeyHead → Bool). map told_by_key (filter (λ k. not (p k)) (with_head key left))) kinds ∙ objects;
      cycles = ap (λ (p : KeyHead → Bool). map item_of_key (filter p (with_head key left))) kinds ∙ cycles;
      kept = kept_then;
    }

    kinds_then : AreTreeKeys (with_head key left) trees_then
    kinds_then =
        kinds_as trees_then trees (λ k. ap (λ (p : KeyHead → Bool). p k) kinds) (with_head key left)
        (kinds_with trees key left (own_kind ∙ sym tree_key) (kinds_less trees (is_at_cycle h.name h.cycle) s.heads are.trees))

    -- whatever the segments are
    pub save_stands : (segments : List Segment)
        → IsOfKeys (record s { segments = segments; heads = with_head key (without_head h.name h.cycle s.heads); trees = with_change h.name (λ f. all_saved (branches_become branches f)) s.trees }) (state_behind m (Save h.name))
    save_stands segments =
        let state = behind_is in
        record {
          classes = ap (λ (n : State). n.classes) state ∙ are.classes;
          keys = subst (λ (n : State). AreItemsOfState (with_head key left) trees_then n) (sym state) items_then;
          trees = kinds_then;
        }
