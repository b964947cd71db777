-- What is listed of a state by the keys of its objects and trees.
use Rattle.std.proofs.Common.{◌≡◌, ◌&&◌, ℕ, ltb, eqb, Bool, true, false, cond, not, List, [], ◌∷◌, ◌++◌, codes, map, length, Option, Some, None, Result, Ok, Err, IfOk, refl, sym, ap, subst, ◌∙◌}
use Rattle.std.proofs.lemmas.{Bool.{and_from, and_parts, not-true}, Cmp.{nat_list_eq_equiv}, Float.{T_from_true}, List.{length-map}, Map.Text.{is_eq-slice_cmp}, Map.Views.{tells_apart}, Slice.Eq.{bytes_eq-Decides}}
use Rattle.std.specs.{Prelude.{is_some}, List.{filter, flat_map}, Cmp.{eq_by_cmp_equiv}, Option.{option_map, option_or}, Ordering.{eq_by_cmp, is_eq, is_lt, nat_cmp, ordering_reverse, ordering_then}, Str.{bytes_eq}}
use Rattle.std.specs.FinMap.{entries, entries-from_sorted, entries_sorted, from_entries, from_sorted, get-from_entries, get-from_sorted, is_sorted, same_map, Entries.{below_all}}
use Rattle.std.specs.FinMap.Entries as entry
use Rattle.std.specs.declared.cmp.Ordering.{Ordering, TheVariants.{Less, Equal, Greater}}
use Rattle.rio_num.proofs.Cases.{is_true, none_from, or_none}
use Rattle.rio_num.specs.{Printed.{numbered}, Room.{Room}, Word.{name_order}}
use Rattle.rio_key.specs.declared.head.KeyHead.{KeyHead}
use Rattle.rio_dir.specs.Table.{AreBehind, AreOrdered, first_by}
use Rattle.rio_tree_table.specs.{Table.{tree_of}, declared.table.KeptTree.{KeptTree}}
use Rattle.rio_machine.specs.State.{NameAndCycle, State, Tree, item_order}
use Rattle.rio_machine.proofs.OrderLaws.{items_tie, items_total, names_total}
use Rattle.rio_step.specs.{ItemKeys.{told_by_key}, KeptItems.{AreItemsOfState, is_object_key, is_tree_key, item_of_key, item_of_tree, kept_tree, listed_by, told_of_item}, ReplyText.{item_lines, text_of}}
use Rattle.rio_step.specs.Step.{Listed, items_listed, items_of, listed_object, listed_tree}
use Rattle.rio_reply.specs.Told.{item_line, item_listing_of}

-- ---- orders

less_is : (a b : ℕ) → is_lt (nat_cmp a b) ≡ ltb a b
less_is a b = by (ltb a b) (eqb a b)
  where
    by : (l e : Bool) → is_lt (cond l Less (cond e Equal Greater)) ≡ l
    by true e = refl
    by false true = refl
    by false false = refl

first_is : (o : Ordering) (a b : ℕ) → is_lt (ordering_then o (nat_cmp a b)) ≡ first_by o (ltb a b)
first_is Less a b = refl
first_is Equal a b = less_is a b
first_is Greater a b = refl

not_tied : (r : Ordering) → is_lt r ≡ true → is_eq (ordering_reverse r) ≡ false
not_tied Less e = refl
not_tied Equal e = absurd cc
not_tied Greater e = absurd cc

untied : (r : Ordering) → is_lt r ≡ true → is_eq r ≡ false
untied Less e = refl
untied Equal e = absurd cc
untied Greater e = absurd cc

-- ---- trees by name

tied_names : (a b : List ℕ) → eq_by_cmp name_order a b ≡ bytes_eq b a
tied_names a b = is_eq-slice_cmp a b ∙ nat_list_eq_equiv.symm a b

kept_found : (name : List ℕ) (es : List (List ℕ × Tree)) → tree_of name (map kept_tree es) ≡ option_map (λ t. kept_tree (name, t)) (entry.find name_order name es)
kept_found name [] = refl
kept_found name (e ∷ es) = by (bytes_eq e.0 name) refl (kept_found name es)
  where
    by : (b : Bool) → bytes_eq e.0 name ≡ b → tree_of name (map kept_tree es) ≡ option_map (λ t. kept_tree (name, t)) (entry.find name_order name es)
        → cond b (Some (kept_tree e)) (tree_of name (map kept_tree es)) ≡ option_map (λ t. kept_tree (name, t)) (cond (eq_by_cmp name_order name e.0) (Some e.1) (entry.find name_order name es))
    by true is ih =
        let same : e.0 ≡ name = (bytes_eq-Decides e.0 name).0 is in
        ap (λ n. let o : Option KeptTree = Some (kept_tree (n, e.1)) in o) same
        ∙ ap (λ b. option_map (λ t. kept_tree (name, t)) (cond b (Some e.1) (entry.find name_order name es))) (sym (tied_names name e.0 ∙ is))
    by false is ih = ih ∙ ap (λ b. option_map (λ t. kept_tree (name, t)) (cond b (Some e.1) (entry.find name_order name es))) (sym (tied_names name e.0 ∙ is))

-- an entry before others isn't found by their names
skipped : (e : List ℕ × Tree) (es xs : List (List ℕ × Tree)) → below_all name_order e.0 xs ≡ true
    → map (λ x. entry.find name_order x.0 (e ∷ es)) xs ≡ map (λ x. entry.find name_order x.0 es) xs
skipped e es [] below = refl
skipped e es (x ∷ xs) below =
    let parts = and_parts (is_lt (name_order e.0 x.0)) (below_all name_order e.0 xs) below in
    let apart : eq_by_cmp name_order x.0 e.0 ≡ false = ap is_eq (names_total.antisymm x.0 e.0) ∙ not_tied (name_order e.0 x.0) parts.0 in
    let rest = skipped e es xs parts.1 in
    λ i. cond (apart i) (Some e.1) (entry.find name_order x.0 es) ∷ rest i

each_found : (es : List (List ℕ × Tree)) → is_sorted name_order es ≡ true → map (λ e. entry.find name_order e.0 es) es ≡ map (λ e. let o : Option Tree = Some e.1 in o) es
each_found [] rising = refl
each_found (e ∷ es) rising =
    let parts = and_parts (below_all name_order e.0 es) (is_sorted name_order es) rising in
    let rest = skipped e es es parts.0 ∙ each_found es parts.1 in
    let first = (eq_by_cmp_equiv names_total).refl e.0 in
    λ i. cond (first i) (Some e.1) (entry.find name_order e.0 es) ∷ rest i

-- each of the trees is found by its name
kept_each : (all es : List (List ℕ × Tree)) → map (λ e. entry.find name_order e.0 all) es ≡ map (λ e. let o : Option Tree = Some e.1 in o) es
    → map (λ e. tree_of e.0 (map kept_tree all)) es ≡ map (λ e. let o : Option KeptTree = Some (kept_tree e) in o) es
kept_each all [] found = refl
kept_each all (e ∷ es) found =
    let first : entry.find name_order e.0 all ≡ Some e.1 = cc in
    let later : map (λ x. entry.find name_order x.0 all) es ≡ map (λ x. let o : Option Tree = Some x.1 in o) es = cc in
    let one = kept_found e.0 all ∙ ap (option_map (λ t. kept_tree (e.0, t))) first in
    let rest = kept_each all es later in
    λ i. one i ∷ rest i

-- ---- what keys tell of their items

module _ (trees : List KeptTree) where
  trees_told : (hs : List KeyHead) (es : List (List ℕ × Tree)) → map item_of_key hs ≡ map item_of_tree es
      → map (λ e. tree_of e.0 trees) es ≡ map (λ e. let o : Option KeptTree = Some (kept_tree e) in o) es → map (told_of_item trees) hs ≡ map listed_tree es
  trees_told [] [] same found = refl
  trees_told [] (e ∷ es) same found = absurd cc
  trees_told (h ∷ hs) [] same found = absurd cc
  trees_told (h ∷ hs) (e ∷ es) same found =
      let first : item_of_key h ≡ item_of_tree e = cc in
      let later : map item_of_key hs ≡ map item_of_tree es = cc in
      let kept : tree_of e.0 trees ≡ Some (kept_tree e) = cc in
      let others : map (λ x. tree_of x.0 trees) es ≡ map (λ x. let o : Option KeptTree = Some (kept_tree x) in o) es = cc in
      let tree = ap (λ (x : NameAndCycle). tree_of x.0 trees) first ∙ kept in
      let rest = trees_told hs es later others in
      λ i. (first i, listed_by (tree i) h) ∷ rest i

  objects_told : (hs : List KeyHead) → map (told_of_item trees) (filter (is_object_key trees) hs) ≡ map told_by_key (filter (is_object_key trees) hs)
  objects_told [] = refl
  objects_told (h ∷ hs) = by (is_object_key trees h) refl (objects_told hs)
    where
      by : (b : Bool) → is_object_key trees h ≡ b → map (told_of_item trees) (filter (is_object_key trees) hs) ≡ map told_by_key (filter (is_object_key trees) hs)
          → map (told_of_item trees) (cond b (h ∷ filter (is_object_key trees) hs) (filter (is_object_key trees) hs)) ≡ map told_by_key (cond b (h ∷ filter (is_object_key trees) hs) (filter (is_object_key trees) hs))
      by true is ih =
          let none = none_from (tree_of h.name trees) (not-true _ is) in
          λ i. (item_of_key h, listed_by (none i) h) ∷ ih i
      by false is ih = ih

  -- ---- they stand in order

  below_told : (name : List ℕ) (cycle : ℕ) (hs : List KeyHead) → AreBehind name cycle hs → below_all item_order (name, cycle) (map (told_of_item trees) hs) ≡ true
  below_told name cycle [] are = refl
  below_told name cycle (h ∷ hs) are = and_from _ _ (first_is (name_order name h.name) h.cycle cycle ∙ are.0) (below_told name cycle hs are.1)

  rising : (hs : List KeyHead) → AreOrdered hs → is_sorted item_order (map (told_of_item trees) hs) ≡ true
  rising [] are = refl
  rising (h ∷ hs) are = and_from _ _ (below_told h.name h.cycle hs are.0) (rising hs are.1)

  -- ---- a search among them

  module _ (q : NameAndCycle) where
    abbrev found : List KeyHead → Option Listed
    found hs = entry.find item_order q (map (told_of_item trees) hs)

    find_both : (xs ys : List (NameAndCycle × Listed)) → entry.find item_order q (xs ++ ys) ≡ option_or (entry.find item_order q xs) (entry.find item_order q ys)
    find_both [] ys = refl
    find_both (x ∷ xs) ys = by (eq_by_cmp item_order q x.0) (find_both xs ys)
      where
        by : (b : Bool) → entry.find item_order q (xs ++ ys) ≡ option_or (entry.find item_order q xs) (entry.find item_order q ys)
            → cond b (Some x.1) (entry.find item_order q (xs ++ ys)) ≡ option_or (cond b (Some x.1) (entry.find item_order q xs)) (entry.find item_order q ys)
        by true ih = refl
        by false ih = ih

    -- none of those behind a key has its name and cycle
    none_behind : (h : KeyHead) (hs : List KeyHead) → eq_by_cmp item_order q (item_of_key h) ≡ true → AreBehind h.name h.cycle hs → found hs ≡ None
    none_behind h [] tied are = refl
    none_behind h (k ∷ ks) tied are =
        let same : q ≡ item_of_key h = tells_apart items_tie q (item_of_key h) tied in
        let less : is_lt (item_order (item_of_key h) (item_of_key k)) ≡ true = first_is (name_order h.name k.name) k.cycle h.cycle ∙ are.0 in
        let apart : eq_by_cmp item_order q (item_of_key k) ≡ false = ap (λ x. eq_by_cmp item_order x (item_of_key k)) same ∙ untied (item_order (item_of_key h) (item_of_key k)) less in
        ap (λ b. cond b (Some (told_of_item trees k).1) (found ks)) apart ∙ none_behind h ks tied are.1

    none_first : (x y : Option Listed) → option_or x y ≡ None → x ≡ None
    none_first None y e = refl
    none_first (Some v) y e = absurd cc

    divided : (hs : List KeyHead) → AreOrdered hs → option_or (found (filter (is_object_key trees) hs)) (found (filter (is_tree_key trees) hs)) ≡ found hs
    divided [] are = refl
    divided (h ∷ hs) are = by (is_tree_key trees h) (eq_by_cmp item_order q (item_of_key h)) refl (divided hs are.1)
      where
        told : Listed
        told = (told_of_item trees h).1

        by : (t b : Bool) → eq_by_cmp item_order q (item_of_key h) ≡ b → option_or (found (filter (is_object_key trees) hs)) (found (filter (is_tree_key trees) hs)) ≡ found hs
            → option_or (found (cond (not t) (h ∷ filter (is_object_key trees) hs) (filter (is_object_key trees) hs))) (found (cond t (h ∷ filter (is_tree_key trees) hs) (filter (is_tree_key trees) hs))) ≡ cond b (Some (told_of_item trees h).1) (found hs)
        by true true tied ih =
            let none = none_first (found (filter (is_object_key trees) hs)) (found (filter (is_tree_key trees) hs)) (ih ∙ none_behind h hs tied are.0) in
            ap (λ (x : Option Listed). option_or x (cond (eq_by_cmp item_order q (item_of_key h)) (Some (told_of_item trees h).1) (found (filter (is_tree_key trees) hs)))) none
            ∙ ap (λ b. cond b (Some (told_of_item trees h).1) (found (filter (is_tree_key trees) hs))) tied
        by true false tied ih = ap (λ b. option_or (found (filter (is_object_key trees) hs)) (cond b (Some (told_of_item trees h).1) (found (filter (is_tree_key trees) hs)))) tied ∙ ih
        by false true tied ih = ap (λ b. option_or (cond b (Some (told_of_item trees h).1) (found (filter (is_object_key trees) hs))) (found (filter (is_tree_key trees) hs))) tied
        by false false tied ih = ap (λ b. option_or (cond b (Some (told_of_item trees h).1) (found (filter (is_object_key trees) hs))) (found (filter (is_tree_key trees) hs))) tied ∙ ih

-- ---- all items

pub items_told : (heads : List KeyHead) (trees : List KeptTree) (m : State) → AreItemsOfState heads trees m → items_of m ≡ map (told_of_item trees) heads
items_told heads trees m are =
    let all = map (told_of_item trees) heads in
    let sorted = T_from_true _ (rising trees heads are.ordered) in
    let objects = map (told_of_item trees) (filter (is_object_key trees) heads) in
    let of_trees = map (told_of_item trees) (filter (is_tree_key trees) heads) in
    let objects_are : map listed_object (entries m.objects) ≡ objects = sym are.objects ∙ sym (objects_told trees heads) in
    let found = each_found (entries m.trees) (is_true _ (entries_sorted m.trees)) in
    let kept = ap (λ (ts : List KeptTree). map (λ e. tree_of e.0 ts) (entries m.trees)) are.kept ∙ kept_each (entries m.trees) (entries m.trees) found in
    let trees_are : map listed_tree (entries m.trees) ≡ of_trees = sym (trees_told trees (filter (is_tree_key trees) heads) (entries m.trees) are.cycles kept) in
    (λ i. entries (from_entries {R = item_order} (objects_are i ++ trees_are i)))
    ∙ ap entries (same_map items_total items_tie (from_entries {R = item_order} (objects ++ of_trees)) (from_sorted {R = item_order} all)
    (λ q. get-from_entries items_total (objects ++ of_trees) q ∙ find_both trees q objects of_trees ∙ divided trees q heads are.ordered ∙ sym (get-from_sorted item_order all q sorted)))
    ∙ entries-from_sorted item_order all sorted

lines_told : (trees : List KeptTree) (heads : List KeyHead) → item_lines (map (told_of_item trees) heads) ≡ flat_map (item_line trees) heads
lines_told trees [] = refl
lines_told trees (h ∷ heads) = ap (λ (l : List ℕ). item_line trees h ++ l) (lines_told trees heads)

pub listing_is : (heads : List KeyHead) (trees : List KeptTree) (m : State) → AreItemsOfState heads trees m → item_listing_of trees heads ≡ text_of (items_listed (items_of m))
unfolding text_of item_listing_of
listing_is heads trees m are =
    ap (λ (l : List ℕ). codes "ok ls" ++ numbered (length heads) ++ codes "\n" ++ l) (sym (lines_told trees heads))
    ∙ ap (λ (n : ℕ). codes "ok ls" ++ numbered n ++ codes "\n" ++ item_lines (map (told_of_item trees) heads)) (sym (length-map heads (told_of_item trees)))
    ∙ ap (λ (l : List (NameAndCycle × Listed)). codes "ok ls" ++ numbered (length l) ++ codes "\n" ++ item_lines l) (sym (items_told heads trees m are))

pub listing_told : {E : Type 0} (heads : List KeyHead) (trees : List KeptTree) (r : Result Room E) → IfOk r (λ text. text.bytes ≡ item_listing_of trees heads)
    → IfOk r (λ text. (m : State) → AreItemsOfState heads trees m → text.bytes ≡ text_of (items_listed (items_of m)))
listing_told heads trees (Ok text) is = λ m are. is ∙ listing_is heads trees m are
listing_told heads trees (Err e) is = tt
