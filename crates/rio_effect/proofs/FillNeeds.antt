-- A fill raises what the file holds by no more than its cost.
use Rattle.std.proofs.Common.{◌≡◌, ℕ, ◌+◌, ◌*◌, ◌≤◌, ◌∙◌, codes, List, [], ◌∷◌, ◌++◌, length, map, sum, true, false, cond, ◌==◌, ◌&&◌, not, Option, Some, refl, sym, ap, subst, arith}
use Rattle.std.proofs.{lemmas.Bool.{and_parts}, lemmas.List.{map-append}, lemmas.Option.{same_Some}}
use Rattle.std.specs.{Prelude.{if◌then◌else◌, is_some}, Cmp.{eq_by_cmp_equiv}, FinMap.{get, get-insert, insert}, List.{sum_by}, Option.{option_map, option_map_or}, Ordering.{eq_by_cmp}, Str.{bytes_eq}}
use Rattle.rio_num.specs.Word.{is_name_text, name_order}
use Rattle.rio_num.proofs.BytesEq.{bytes_eq-sym}
use Rattle.rio_leaf.specs.{Stated.{are_branches_behind, are_stated_branches, has_branch, is_stated_branch}, declared.branch.BranchDef.{BranchDef}}
use Rattle.rio_chain.specs.Segments.{IsChain, Link}
use Rattle.rio_machine.proofs.OrderLaws.{names_total}
use Rattle.rio_key.specs.Cut.{cut_of}
use Rattle.rio_machine.specs.{Limits.{head_length}, Rows.{entries_of}, State.{Row, State, Tree}, declared.command.Command.TheVariants.{Fill}, declared.refusal.Refusal.{Refusal}}
use Rattle.rio_tree.specs.{HeaderLength.{basket_count, header_length}, WrittenLaws.{stated_defs}, declared.head.TreeHead.{TreeHead}}
use Rattle.rio_state.specs.{Closing.{KeptRecords, held_with, kept_with}, KeyedRecords.{KeyedRecord, info_key, keyed_records}, Contents.{FileClasses, file_classes, state_classes}, Reads.{AreRecordsOf}, Trees.{saved_tree}}
use Rattle.rio_state.specs.TreeLengths.{PendingRows, cuts_of, entries_by_branch, pending_in, put_count, tree_lengths}
use Rattle.rio_state.proofs.Collected.{name_same}
use Rattle.rio_step.proofs.ClosedLaws.{saved_keeps_the_rest}
use Rattle.rio_step.specs.{Costs.{accepted_cost, cost_of, fill_cost}, Refusing.{fill_row}, Runs.{saved_of, saved_tree as tree_without_pending}, Step.{state_behind, tree_filled}, Storable.{IsFillableTree}}
use Rattle.rio_effect.specs.{AllItems.{AreAllItems}, BasketRuns.{AreBasketsPut}, Changes.{all_changed, lengths_of}, FillNeeds.{CanBeFilled, FillHeldGrows, FillKeepsBaskets, KeepsMoreRecords}, TreeChanges.{changes_of_fill, full_of_tree}, TreeDeletes.{HasHeader, put_since}}
use Rattle.rio_effect.proofs.{BasketRuns.{baskets_are_put}, CutWeights.{AreShort, cuts_weight, put_more, row_first, row_length, row_more}, PutClasses.{short_item, short_name}, SavedPuts.{trees_named}, SavedRows.{one_each}}
use Rattle.rio_effect.proofs.{TreeDeletes.{TreeUnder, has_header, tree_named}, TreeNeeds.{held_is, tree_weight}, TreeReplaced.{own_weight, replaced_count, replaced_heads, replaced_name, replaced_weight, weight_of_rows}}

-- ---- names

short_behind : (before bs : List BranchDef) → are_branches_behind before bs ≡ true → AreShort bs
short_behind before [] e = tt
short_behind before (b ∷ bs) e =
    let parts = and_parts (is_stated_branch before b) (are_branches_behind (before ++ b ∷ []) bs) e in
    let named = and_parts (is_name_text b.name && not (has_branch before b.name)) _ parts.0 in
    (short_name b.name (and_parts (is_name_text b.name) (not (has_branch before b.name)) named.0).0, short_behind (before ++ b ∷ []) bs parts.1)

pub short_branches : (bs : List BranchDef) → are_stated_branches bs ≡ true → AreShort bs
short_branches bs e = short_behind [] bs (and_parts (not (length bs == 0)) (are_branches_behind [] bs) e).1

-- ---- the tree in the file

-- the header that counts of a tree of the state
pub record HeaderOfTree (file : List ℕ) (links : List Link) (m : State) (name : List ℕ) (t : Tree) : Type 0 where
  pub under : TreeUnder (keyed_records links) (saved_of m) name
  pub has : HasHeader file links under.r under.held.head
  pub classes : state_classes (info_key (keyed_records links)) ≡ m.classes
  pub defs : stated_defs under.held.head.branches ≡ t.branches
  pub saved : under.held.rows ≡ t.saved
  pub cycle : under.r.head.cycle ≡ t.cycle

saved_classes : (m : State) → (saved_of m).classes ≡ m.classes
unfolding saved_of
saved_classes m = refl

pub header_of_tree : (file : List ℕ) (links : List Link) (m : State) (name : List ℕ) (t : Tree) → IsChain links file → AreRecordsOf (keyed_records links) (saved_of m) → AreAllItems links → get m.trees name ≡ Some t
    → HeaderOfTree file links m name t
header_of_tree file links m name t chain is items e =
    let u = tree_named (keyed_records links) (saved_of m) name is (trees_named m name ∙ ap is_some e) in
    let same : saved_tree u.r u.held.head u.held.rows ≡ tree_without_pending t =
    same_Some (saved_tree u.r u.held.head u.held.rows) (tree_without_pending t) (sym u.tree_is ∙ saved_keeps_the_rest m name ∙ ap (option_map tree_without_pending) e) in
    record {
      under = u;
      has = has_header file links (saved_of m) name chain items u;
      classes = sym is.stand.classes ∙ saved_classes m;
      defs = ap (λ (x : Tree). x.branches) same;
      saved = ap (λ (x : Tree). x.saved) same;
      cycle = ap (λ (x : Tree). x.cycle) same;
    }

-- ---- other pending rows

own_name : (name : List ℕ) → eq_by_cmp name_order name name ≡ true
own_name name = (eq_by_cmp_equiv names_total).refl name

-- the rows of a tree that is changed, and those of the others
pub changed_rows : (m : State) (name : List ℕ) (t : Tree) → pending_in (record m { trees = insert m.trees name t }) name ≡ t.pending
changed_rows m name t = ap (λ (o : Option Tree). option_map_or (λ x. x.pending) o []) (get-insert names_total m.trees name t name ∙ ap (λ b. cond b (Some t) (get m.trees name)) (own_name name))

pub other_rows : (m : State) (r : KeyedRecord) (name : List ℕ) (t : Tree) → r.head.name ≡ name → (other : List ℕ) → bytes_eq other r.head.name ≡ false
    → pending_in m other ≡ pending_in (record m { trees = insert m.trees name t }) other
other_rows m r name t is other apart =
    let differ : eq_by_cmp name_order other name ≡ false = ap (eq_by_cmp name_order other) (sym is) ∙ name_same other r ∙ bytes_eq-sym r.head.name other ∙ apart in
    sym (ap (λ (o : Option Tree). option_map_or (λ x. x.pending) o []) (get-insert names_total m.trees name t other ∙ ap (λ b. cond b (Some t) (get m.trees other)) differ))

-- ---- a fill

module _ (datime : ℕ) (file : List ℕ) (links : List Link) (m : State) (name : List ℕ) (row : Row) (t : Tree) (can : CanBeFilled datime file links m name row t) where
  h : HeaderOfTree file links m name t
  h = header_of_tree file links m name t can.chain can.records can.items can.tree

  abbrev after : State
  after = record m { trees = insert m.trees name (tree_filled (fill_row m row) t) }

  behind_is : state_behind m (Fill name row) ≡ after
  behind_is = ap (λ (o : Option Tree). option_map_or (λ x. record m { trees = insert m.trees name (tree_filled (fill_row m row) x) }) o m) can.tree

  abbrev entries : List (List ℕ)
  entries = entries_of m.classes t.branches (fill_row m row)

  abbrev rows : List (List (List ℕ))
  rows = map (entries_of m.classes t.branches) t.pending

  long : length entries ≡ length t.branches
  long = one_each m.classes t.branches (fill_row m row) []

  own_rows : pending_in m name ≡ t.pending
  own_rows = ap (λ (o : Option Tree). option_map_or (λ x. x.pending) o []) can.tree

  rows_then : pending_in after name ≡ t.pending ++ fill_row m row ∷ []
  rows_then = changed_rows m name (tree_filled (fill_row m row) t)

  put : AreBasketsPut datime name 0 links t.branches (full_of_tree m row t)
  put = baskets_are_put datime name 0 links t.branches (full_of_tree m row t) can.put can.passed

  abbrev r : KeyedRecord
  r = h.under.r

  abbrev head : TreeHead
  head = h.under.held.head

  abbrev classes : FileClasses
  classes = file_classes (info_key (keyed_records links))

  -- what the tree weighs beside its baskets
  abbrev bare : ℕ
  bare = head_length (codes "TTree") r.head.name + header_length r.head.name (stated_defs head.branches) (basket_count head) + 3

  weight_at : (p : PendingRows) (rs : List Row) → p name ≡ rs → own_weight classes r head p ≡ cuts_weight name t.branches (entries_by_branch t.branches (map (entries_of m.classes t.branches) rs)) + bare
  weight_at p rs is =
      let named = h.under.name_is in
      let defs = h.defs in
      let same = h.classes in
      ap (λ (x : List Row). 10 * put_count (cuts_of classes.declared (stated_defs head.branches) x) + tree_weight (tree_lengths classes.declared r.head.name x head)) (ap p named ∙ is)
      ∙ weight_of_rows classes.declared r.head.name head rs
      ∙ (λ i. cuts_weight (named i) (defs i) (entries_by_branch (defs i) (map (entries_of (same i) (defs i)) rs)) + bare)

  count_at : (p : PendingRows) (rs : List Row) → p name ≡ rs → put_since p classes r head ≡ put_count (map cut_of (entries_by_branch t.branches (map (entries_of m.classes t.branches) rs)))
  count_at p rs is =
      let named = h.under.name_is in
      let defs = h.defs in
      let same = h.classes in
      ap (λ (x : List Row). put_count (cuts_of classes.declared (stated_defs head.branches) x)) (ap p named ∙ is) ∙ (λ i. put_count (cuts_of (same i) (defs i) rs))

  all_rows : map (entries_of m.classes t.branches) (t.pending ++ fill_row m row ∷ []) ≡ rows ++ entries ∷ []
  all_rows = map-append (entries_of m.classes t.branches) t.pending (fill_row m row ∷ [])

  agree : (other : List ℕ) → bytes_eq other r.head.name ≡ false → pending_in m other ≡ pending_in after other
  agree other apart = other_rows m r name (tree_filled (fill_row m row) t) h.under.name_is other apart

  -- one row more, with the baskets that are put first
  heavier : cuts_weight name t.branches (entries_by_branch t.branches (rows ++ entries ∷ [])) + sum (lengths_of (changes_of_fill datime m name row t))
      ≤ cuts_weight name t.branches (entries_by_branch t.branches rows) + fill_cost m row t
  heavier = by t.pending
    where
      fillable : IsFillableTree m.classes t
      fillable = can.fillable.trees name t can.tree

      short : length name ≤ 100
      short = short_item name (can.fillable.tree_names name t can.tree).item

      by : (pending : List Row) → cuts_weight name t.branches (entries_by_branch t.branches (map (entries_of m.classes t.branches) pending ++ entries ∷ [])) + row_length datime name t.branches (map (entries_of m.classes t.branches) pending) entries
          ≤ cuts_weight name t.branches (entries_by_branch t.branches (map (entries_of m.classes t.branches) pending)) + (sum_by (λ entry. 2 * length entry + 5) entries + (if length pending == 0 then 330 * length t.branches else 0))
      by [] = omega (arith, row_first name datime short t.branches entries (short_branches t.branches fillable.stated) long)
      by (p ∷ ps) = omega (arith, row_more name datime short t.branches (entries_of m.classes t.branches p) (map (entries_of m.classes t.branches) ps) entries (short_branches t.branches fillable.stated) long)

  cost_is : cost_of m (Fill name row) ≡ fill_cost m row t
  unfolding cost_of
  cost_is = ap (λ (o : Option Refusal). if is_some o then 0 else accepted_cost m (Fill name row)) can.taken ∙ ap (λ (o : Option Tree). option_map_or (fill_cost m row) o 0) can.tree

  held_low : held_with (pending_in after) (all_changed links (changes_of_fill datime m name row t)) ≤ held_with (pending_in m) links + cost_of m (Fill name row)
  held_low =
      let before = weight_at (pending_in m) t.pending own_rows in
      let later = weight_at (pending_in after) (t.pending ++ fill_row m row ∷ []) rows_then ∙ ap (λ (x : List (List (List ℕ))). cuts_weight name t.branches (entries_by_branch t.branches x) + bare) all_rows in
      let replaced = replaced_weight file links (saved_of m) r head h.has can.records (pending_in m) (pending_in after) agree in
      omega (arith, put.held (pending_in after), before, later, replaced, heavier, cost_is, held_is (pending_in after) links, held_is (pending_in m) links)

  keeps : KeepsMoreRecords (kept_with (pending_in m) links) (kept_with (pending_in after) (all_changed links (changes_of_fill datime m name row t))) (length (changes_of_fill datime m name row t))
  keeps =
      let same = put.alike.kept (pending_in after) in
      let counts = replaced_count file links (saved_of m) r head h.has can.records (pending_in m) (pending_in after) agree in
      let before = count_at (pending_in m) t.pending own_rows in
      let later = count_at (pending_in after) (t.pending ++ fill_row m row ∷ []) rows_then ∙ ap (λ (x : List (List (List ℕ))). put_count (map cut_of (entries_by_branch t.branches x))) all_rows in
      let more = put_more datime name t.branches rows entries long in
      record {
        name = ap (λ (k : KeptRecords). k.name) same ∙ replaced_name file links (saved_of m) r head h.has can.records (pending_in m) (pending_in after) agree;
        heads = ap (λ (k : KeptRecords). k.heads) same ∙ replaced_heads file links (saved_of m) r head h.has can.records (pending_in m) (pending_in after) agree;
        count = omega (arith, ap (λ (k : KeptRecords). k.count) same, counts, before, later, more);
      }

  pub held_by_cost : held_with (pending_in (state_behind m (Fill name row))) (all_changed links (changes_of_fill datime m name row t)) ≤ held_with (pending_in m) links + cost_of m (Fill name row)
  held_by_cost = subst (λ (n : State). held_with (pending_in n) (all_changed links (changes_of_fill datime m name row t)) ≤ held_with (pending_in m) links + cost_of m (Fill name row)) (sym behind_is) held_low

  pub keeps_baskets : KeepsMoreRecords (kept_with (pending_in m) links) (kept_with (pending_in (state_behind m (Fill name row))) (all_changed links (changes_of_fill datime m name row t))) (length (changes_of_fill datime m name row t))
  keeps_baskets = subst (λ (n : State). KeepsMoreRecords (kept_with (pending_in m) links) (kept_with (pending_in n) (all_changed links (changes_of_fill datime m name row t))) (length (changes_of_fill datime m name row t))) (sym behind_is) keeps

pub fill_keeps_baskets : FillKeepsBaskets
fill_keeps_baskets datime file links m name row t can = keeps_baskets datime file links m name row t can

pub fill_held_grows : FillHeldGrows
fill_held_grows datime file links m name row t can = held_by_cost datime file links m name row t can
