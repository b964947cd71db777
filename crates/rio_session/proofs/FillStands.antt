-- What a session keeps after a fill stands for the state after it.
use Rattle.std.proofs.Common.{◌≡◌, ◌∙◌, ℕ, ◌+◌, List, [], ◌∷◌, ◌++◌, length, map, Bool, true, false, cond, not, Option, Some, None, refl, sym, ap, subst, arith}
use Rattle.std.proofs.lemmas.List.{length-append}
use Rattle.std.specs.{FinMap.{entries, entries-insert, get, get-insert, get-remove, insert, remove, same_map, Entries.{by_order, put}}, Option.{option_map_or}, Ordering.{eq_by_cmp}}
use Rattle.std.specs.declared.cmp.Ordering.{Ordering, TheVariants.{Less, Equal, Greater}}
use Rattle.rio_num.specs.Word.{name_order}
use Rattle.rio_leaf.specs.declared.branch.BranchDef.{BranchDef}
use Rattle.rio_chain.specs.declared.segment.Segment.{Segment}
use Rattle.rio_tree_table.specs.declared.table.KeptTree.{KeptTree}
use Rattle.rio_machine.proofs.OrderLaws.{names_tie, names_total}
use Rattle.rio_machine.specs.{State.{NameAndCycle, Row, State, Tree}, declared.command.Command.TheVariants.{Fill}}
use Rattle.rio_fill.specs.Fill.{BranchFill, TreeFill, defs_of, row_added}
use Rattle.rio_fill.proofs.Kept.{defs_added}
use Rattle.rio_key.specs.declared.head.KeyHead.{KeyHead}
use Rattle.rio_step.specs.KeptItems as items
use Rattle.rio_step.specs.{ItemKeys.{told_by_key}, KeptItems.{AreItemsOfState, item_of_key, item_of_tree, kept_tree}, Refusing.{fill_row}, Step.{state_behind, tree_filled}}
use Rattle.std.specs.List.{filter}
use Rattle.rio_session.specs.{Fillings.{branches_become}, Fills.{FilledTree, kept_tree_of, with_change}, Items.{AreTreeKeys, IsOfKeys}, SessionState.{SessionState, kept_trees}}
use Rattle.rio_session.proofs.{FilledTrees.{IsFilledOf}, KeysWithout.{back, none_left}, SaveStands.{Named, kept_changed, names_still}}

-- ---- a tree of the state is changed

-- as one that is taken out and put back changed
pub replaced_entries : (m : State) (name : List ℕ) (v : Tree) → entries (insert m.trees name v) ≡ put name_order name v (entries (remove m.trees name))
replaced_entries m name v =
    ap entries (same_map names_total names_tie (insert m.trees name v) (insert (remove m.trees name) name v) (λ q.
    get-insert names_total m.trees name v q
    ∙ by q (eq_by_cmp name_order q name)
    ∙ sym (get-insert names_total (remove m.trees name) name v q ∙ ap (cond (eq_by_cmp name_order q name) (Some v)) (get-remove names_total m.trees name q))))
    ∙ entries-insert names_total (remove m.trees name) name v
  where
    by : (q : List ℕ) (b : Bool) → cond b (Some v) (get m.trees q) ≡ cond b (Some v) (cond b None (get m.trees q))
    by q true = refl
    by q false = refl

-- of one cycle they are the same items
items_put : (name : List ℕ) (x y : Tree) → x.cycle ≡ y.cycle → (es : List Named) → map item_of_tree (put name_order name x es) ≡ map item_of_tree (put name_order name y es)
items_put name x y same [] = λ i. (name, same i) ∷ []
items_put name x y same (e ∷ es) = by (name_order name e.0) (items_put name x y same es)
  where
    by : (o : Ordering) → map item_of_tree (put name_order name x es) ≡ map item_of_tree (put name_order name y es)
        → map item_of_tree (by_order o ((name, x) ∷ e ∷ es) ((e.0, x) ∷ es) (e ∷ put name_order name x es)) ≡ map item_of_tree (by_order o ((name, y) ∷ e ∷ es) ((e.0, y) ∷ es) (e ∷ put name_order name y es))
    by Less later = λ i. (name, same i) ∷ item_of_tree e ∷ map item_of_tree es
    by Equal later = λ i. (e.0, same i) ∷ map item_of_tree es
    by Greater later = ap (λ (l : List NameAndCycle). item_of_tree e ∷ l) later

pub kinds_as : (a b : List KeptTree) → ((h : KeyHead) → items.is_tree_key a h ≡ items.is_tree_key b h) → (ks : List KeyHead) → AreTreeKeys ks b → AreTreeKeys ks a
kinds_as a b same [] are = tt
kinds_as a b same (k ∷ ks) are = (same k ∙ are.0, kinds_as a b same ks are.1)

-- ---- a fill

module _ (s : SessionState) (m : State) (keys : IsOfKeys s m) (name : List ℕ) (t : FilledTree) (x : Tree) (is : IsFilledOf s m name t x) (row : Row) where
  abbrev filled : Tree
  filled = tree_filled (fill_row m row) x

  pub fill_behind : state_behind m (Fill name row) ≡ record m { trees = insert m.trees name (tree_filled (fill_row m row) x) }
  fill_behind = ap (λ (o : Option Tree). option_map_or (λ y. record m { trees = insert m.trees name (tree_filled (fill_row m row) y) }) o m) is.there

  module _ (branches : List BranchFill) (defs : defs_of branches ≡ defs_of t.fill.branches) (entries_added : List (List ℕ)) where
    abbrev change : TreeFill → TreeFill
    change f = row_added (branches_become branches f) entries_added

    abbrev trees_then : List KeptTree
    trees_then = map kept_tree_of (with_change name (λ f. row_added (branches_become branches f) entries_added) s.trees)

    becomes : (u : FilledTree) → kept_tree_of u ≡ kept_tree (name, x) → kept_tree_of (record u { fill = row_added (branches_become branches u.fill) entries_added }) ≡ kept_tree (name, tree_filled (fill_row m row) x)
    becomes u own =
        let own_defs = defs_added branches entries_added ∙ defs ∙ ap (λ (k : KeptTree). k.branches) is.kept in
        let one : u.name ≡ name = ap (λ (k : KeptTree). k.name) own in
        let two : u.fill.saved ≡ length x.saved = ap (λ (k : KeptTree). k.saved) own in
        let three : u.fill.pending + 1 ≡ length (x.pending ++ fill_row m row ∷ []) = omega (arith, ap (λ (k : KeptTree). k.pending) own, length-append x.pending (fill_row m row ∷ [])) in
        λ i. record { name = one i; branches = own_defs i; saved = two i; pending = three i }

    kept_then : map kept_tree_of (with_change name (λ f. row_added (branches_become branches f) entries_added) s.trees) ≡ map kept_tree (entries (insert m.trees name (tree_filled (fill_row m row) x)))
    kept_then =
        kept_changed name (λ f. row_added (branches_become branches f) entries_added) x (tree_filled (fill_row m row) x) becomes (entries (remove m.trees name)) (none_left names_total names_tie m.trees name) s.trees
        (keys.keys.kept ∙ ap (map kept_tree) (back names_total names_tie m.trees name x is.there))
        ∙ ap (map kept_tree) (sym (replaced_entries m name (tree_filled (fill_row m row) x)))

    kinds : (h : KeyHead) → items.is_tree_key trees_then h ≡ items.is_tree_key (kept_trees s) h
    kinds h = names_still h.name name (λ f. row_added (branches_become branches f) entries_added) s.trees

    kinds_same : items.is_tree_key trees_then ≡ items.is_tree_key (kept_trees s)
    kinds_same = λ i h. kinds h i

    cycles_then : map item_of_tree (entries m.trees) ≡ map item_of_tree (entries (insert m.trees name (tree_filled (fill_row m row) x)))
    cycles_then =
        ap (map item_of_tree) (back names_total names_tie m.trees name x is.there)
        ∙ items_put name x (tree_filled (fill_row m row) x) refl (entries (remove m.trees name))
        ∙ ap (map item_of_tree) (sym (replaced_entries m name (tree_filled (fill_row m row) x)))

    items_then : AreItemsOfState s.heads trees_then (record m { trees = insert m.trees name (tree_filled (fill_row m row) x) })
    items_then = record {
      ordered = keys.keys.ordered;
      objects = ap (λ (p : KeyHead → Bool). map told_by_key (filter (λ k. not (p k)) s.heads)) kinds_same ∙ keys.keys.objects;
      cycles = ap (λ (p : KeyHead → Bool). map item_of_key (filter p s.heads)) kinds_same ∙ keys.keys.cycles ∙ cycles_then;
      kept = kept_then;
    }

    pub fill_stands : (segments : List Segment)
        → IsOfKeys (record s { segments = segments; trees = with_change name (λ f. row_added (branches_become branches f) entries_added) s.trees }) (state_behind m (Fill name row))
    fill_stands segments =
        let state = fill_behind in
        record {
          classes = ap (λ (n : State). n.classes) state ∙ keys.classes;
          keys = subst (λ (n : State). AreItemsOfState s.heads trees_then n) (sym state) items_then;
          trees = kinds_as trees_then (kept_trees s) kinds s.heads keys.trees;
        }
