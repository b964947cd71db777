-- The orders of a session's keys and trees, and of the entries of a state's trees.
use Rattle.std.proofs.Common.{◌≡◌, inl, inr, ℕ, List, [], ◌∷◌, map, Bool, true, false, cond, Option, Some, refl, sym, ap, ◌∙◌}
use Rattle.std.proofs.{lemmas.Bool.{and_parts}, lemmas.Map.Views.{tells_apart}, lemmas.Option.{same_Some}}
use Rattle.std.specs.FinMap.{entries, entries_sorted, find as find_key, get, get-entries, is_sorted}
use Rattle.std.specs.FinMap.Entries.{below_all}
use Rattle.std.specs.{Cmp.{eq_by_cmp_equiv}, List.{filter}, Ordering.{eq_by_cmp, is_eq, is_lt}}
use Rattle.std.specs.declared.cmp.Ordering.{Ordering, TheVariants.{Less, Equal, Greater}}
use Rattle.rio_num.specs.Word.{name_order}
use Rattle.rio_num.proofs.Cases.{is_true}
use Rattle.rio_key.specs.declared.head.KeyHead.{KeyHead}
use Rattle.rio_dir.specs.Table.{AreBehind, AreOrdered, comes_before, first_by}
use Rattle.rio_dir.proofs.TableOrder.{before_itself, before_trans}
use Rattle.rio_machine.proofs.OrderLaws.{names_tie, names_total}
use Rattle.rio_machine.specs.State.{NameAndCycle, State, Tree}
use Rattle.rio_recover.specs.{TreeTable.{AreAfter, AreInOrder}, declared.trees.TreeAt.{TreeAt}}
use Rattle.rio_state.proofs.Members.{In}
use Rattle.rio_step.specs.KeptItems.{item_of_key, item_of_tree, kept_tree}
use Rattle.rio_tree_table.specs.declared.table.KeptTree.{KeptTree}
use Rattle.rio_session.proofs.FillLists.{opened_tree}
use Rattle.rio_session.proofs.Rising.{AllBehind, AreRising}

abbrev pub Named : Type 0
Named = List ℕ × Tree

-- ---- the orders

abbrev pub ItemBefore : NameAndCycle → NameAndCycle → Type 0
ItemBefore a b = comes_before a.0 a.1 b.0 b.1 ≡ true

abbrev pub TreeBefore : KeptTree → KeptTree → Type 0
TreeBefore a b = comes_before a.name 0 b.name 0 ≡ true

not_both : (a : List ℕ) (m : ℕ) (b : List ℕ) (n : ℕ) → comes_before a m b n ≡ true → comes_before b n a m ≡ true → ⊥
not_both a m b n one two = let f : true ≡ false = sym (before_trans a m b n a m one two) ∙ before_itself a m in cc

pub items_one_way : (a b : NameAndCycle) → ItemBefore a b → ItemBefore b a → ⊥
items_one_way a b one two = not_both a.0 a.1 b.0 b.1 one two

pub trees_one_way : (a b : KeptTree) → TreeBefore a b → TreeBefore b a → ⊥
trees_one_way a b one two = not_both a.name 0 b.name 0 one two

-- ---- keys

module _ (keep : KeyHead → Bool) where
  items_behind : (name : List ℕ) (cycle : ℕ) (heads : List KeyHead) → AreBehind name cycle heads → AllBehind ItemBefore (name, cycle) (map item_of_key (filter keep heads))
  items_behind name cycle [] are = tt
  items_behind name cycle (h ∷ hs) are = by (keep h) (items_behind name cycle hs are.1)
    where
      by : (b : Bool) → AllBehind ItemBefore (name, cycle) (map item_of_key (filter keep hs)) → AllBehind ItemBefore (name, cycle) (map item_of_key (cond b (h ∷ filter keep hs) (filter keep hs)))
      by true rest = (are.0, rest)
      by false rest = rest

  -- some of the keys rise
  pub items_rise : (heads : List KeyHead) → AreOrdered heads → AreRising ItemBefore (map item_of_key (filter keep heads))
  items_rise [] are = tt
  items_rise (h ∷ hs) are = by (keep h) (items_rise hs are.1)
    where
      by : (b : Bool) → AreRising ItemBefore (map item_of_key (filter keep hs)) → AreRising ItemBefore (map item_of_key (cond b (h ∷ filter keep hs) (filter keep hs)))
      by true rest = (items_behind h.name h.cycle hs are.0, rest)
      by false rest = rest

-- ---- kept trees

trees_behind : (t : TreeAt) (us : List TreeAt) → AreAfter t.name us → AllBehind TreeBefore (opened_tree t) (map opened_tree us)
trees_behind t [] are = tt
trees_behind t (u ∷ us) are = (are.0, trees_behind t us are.1)

pub trees_rise : (trees : List TreeAt) → AreInOrder trees → AreRising TreeBefore (map opened_tree trees)
trees_rise [] are = tt
trees_rise (t ∷ ts) are = (trees_behind t ts are.0, trees_rise ts are.1)

-- ---- entries

lower_first : (r : Ordering) (b : Bool) → is_lt r ≡ true → first_by r b ≡ true
lower_first Less b e = refl
lower_first Equal b e = absurd cc
lower_first Greater b e = absurd cc

module _ {B : Type 0} (Before : B → B → Type 0) (f : Named → B) (as_names : (x y : Named) → is_lt (name_order x.0 y.0) ≡ true → Before (f x) (f y)) where
  entries_behind : (x : Named) (es : List Named) → below_all name_order x.0 es ≡ true → AllBehind Before (f x) (map f es)
  entries_behind x [] e = tt
  entries_behind x (y ∷ ys) e = let p = and_parts (is_lt (name_order x.0 y.0)) (below_all name_order x.0 ys) e in (as_names x y p.0, entries_behind x ys p.1)

  entries_rise : (es : List Named) → is_sorted name_order es ≡ true → AreRising Before (map f es)
  entries_rise [] e = tt
  entries_rise (x ∷ es) e = let p = and_parts (below_all name_order x.0 es) (is_sorted name_order es) e in (entries_behind x es p.0, entries_rise es p.1)

sorted : (m : State) → is_sorted name_order (entries m.trees) ≡ true
sorted m = is_true (is_sorted name_order (entries m.trees)) (entries_sorted m.trees)

pub tree_items_rise : (m : State) → AreRising ItemBefore (map item_of_tree (entries m.trees))
tree_items_rise m = entries_rise ItemBefore item_of_tree (λ x y e. lower_first (name_order x.0 y.0) _ e) (entries m.trees) (sorted m)

pub kept_trees_rise : (m : State) → AreRising TreeBefore (map kept_tree (entries m.trees))
kept_trees_rise m = entries_rise TreeBefore kept_tree (λ x y e. lower_first (name_order x.0 y.0) _ e) (entries m.trees) (sorted m)

-- ---- the tree of an entry

below_at : (name : List ℕ) (e : Named) (es : List Named) → below_all name_order name es ≡ true → In e es → is_lt (name_order name e.0) ≡ true
below_at name e [] all i = absurd i
below_at name e (x ∷ es) all (inl same) = ap (λ (y : Named). is_lt (name_order name y.0)) (sym same) ∙ (and_parts (is_lt (name_order name x.0)) (below_all name_order name es) all).0
below_at name e (x ∷ es) all (inr i) = below_at name e es (and_parts (is_lt (name_order name x.0)) (below_all name_order name es) all).1 i

not_lower : (r : Ordering) → is_lt r ≡ true → is_eq r ≡ true → ⊥
not_lower Less a b = cc
not_lower Equal a b = cc
not_lower Greater a b = cc

own_tie : (name : List ℕ) → eq_by_cmp name_order name name ≡ true
own_tie name = (eq_by_cmp_equiv names_total).refl name

behind_apart : (a b : List ℕ) → is_lt (name_order a b) ≡ true → eq_by_cmp name_order b a ≡ false
behind_apart a b e = by (eq_by_cmp name_order b a) refl
  where
    by : (c : Bool) → eq_by_cmp name_order b a ≡ c → c ≡ false
    by false tie = refl
    by true tie =
        let same : b ≡ a = tells_apart names_tie b a tie in
        absurd (not_lower (name_order a a) (ap (λ (n : List ℕ). is_lt (name_order a n)) (sym same) ∙ e) (own_tie a))

found_entry : (e : Named) (es : List Named) → is_sorted name_order es ≡ true → In e es → find_key name_order e.0 es ≡ Some e.1
found_entry e [] s i = absurd i
found_entry e (x ∷ es) s (inl same) =
    let tied : eq_by_cmp name_order e.0 x.0 ≡ true = ap (λ (y : Named). eq_by_cmp name_order e.0 y.0) same ∙ own_tie e.0 in
    ap (λ (b : Bool). cond b (Some x.1) (find_key name_order e.0 es)) tied ∙ ap (λ (y : Named). let o : Option Tree = Some y.1 in o) same
found_entry e (x ∷ es) s (inr i) =
    let p = and_parts (below_all name_order x.0 es) (is_sorted name_order es) s in
    ap (λ (b : Bool). cond b (Some x.1) (find_key name_order e.0 es)) (behind_apart x.0 e.0 (below_at x.0 e es p.0 i)) ∙ found_entry e es p.1 i

entry_found : (name : List ℕ) (t : Tree) (es : List Named) → find_key name_order name es ≡ Some t → In (name, t) es
entry_found name t [] e = absurd cc
entry_found name t (x ∷ es) e = by (eq_by_cmp name_order name x.0) refl e (entry_found name t es)
  where
    by : (b : Bool) → eq_by_cmp name_order name x.0 ≡ b → cond b (Some x.1) (find_key name_order name es) ≡ Some t → (find_key name_order name es ≡ Some t → In (name, t) es) → In (name, t) (x ∷ es)
    by true tie e rest =
        let named : name ≡ x.0 = tells_apart names_tie name x.0 tie in
        let same : x.1 ≡ t = same_Some x.1 t e in
        inl (λ i. (sym named i, same i))
    by false tie e rest = inr (rest e)

-- an entry is the tree of its name
pub tree_of_entry : (m : State) (e : Named) → In e (entries m.trees) → get m.trees e.0 ≡ Some e.1
tree_of_entry m e i = get-entries m.trees e.0 ∙ found_entry e (entries m.trees) (sorted m) i

pub entry_of_tree : (m : State) (name : List ℕ) (t : Tree) → get m.trees name ≡ Some t → In (name, t) (entries m.trees)
entry_of_tree m name t e = entry_found name t (entries m.trees) (sym (get-entries m.trees name) ∙ e)
