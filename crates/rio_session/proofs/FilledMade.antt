-- The trees of a file are begun to be filled, one after the other, in order of their names.
use Rattle.std.proofs.Common.{◌≡◌, ◌∙◌, ℕ, zero, suc, ◌+◌, ◌-◌, ◌<◌, ◌≤◌, ◌^◌, ◌||◌, List, [], ◌∷◌, ◌++◌, length, map, take, get_or, Bool, true, false, cond, nat_lt, Some, None, refl, sym, ap, subst, arith}
use Rattle.std.proofs.lemmas.{Bool.{le-ltb, ltb-false, or_parts}, List.{length-append, length-map, map_push}, List.{Elements.{All-cons, All-nil}, Sums.{sum_by-cons}}}
use Rattle.std.proofs.Math.Seq.{take-suc}
use Rattle.std.specs.List.{All, find, flat_map, list_any, sum_by}
use Rattle.rio_leaf.specs.declared.branch.BranchDef.{BranchDef}
use Rattle.rio_machine.specs.Limits.{branch_limit, has_many_branches, has_many_leaves}
use Rattle.rio_tree.specs.{HeaderLength.{bare_branch, bare_head, basket_count, header_length, header_size}, WrittenLaws.{stated_defs}, declared.basket_at.BasketAt.{BasketAt}, declared.head.Branch.{Branch}, declared.head.TreeHead.{TreeHead}}
use Rattle.rio_fill.specs.{Fill.{TreeFill, defs_of, fill_of}, Heads.{AreFillable, CanBeFilled}}
use Rattle.rio_state.specs.{Closing.{end_limit}, Trees.{basket_places}}
use Rattle.rio_recover.specs.{Recovered.{HasRoomBehind, other_count}, TreeTable.{AreInOrder, is_name_before}, Trees.{places_of}, declared.recovery.Recovered.{Recovered}, declared.trees.TreeAt.{TreeAt}}
use Rattle.rio_recover.proofs.TreeOrder.{before_other}
use Rattle.rio_session.specs.{Fills.{FilledTree, filled_tree_of, is_tree_of, with_filled}, Measures.{IsBoundedTree}}
use Rattle.rio_session.proofs.{BoundsKept.{bounded_begun}, FillSums.{need_bounds}, HeaderBound.{header_low}, HeaderOfFill.{defs_begun}, KeptMade.{after_at}}

-- ---- in order

-- no tree of its name is begun yet
pub none_filled : (trees : List TreeAt) (k : ℕ) (d : TreeAt) → AreInOrder trees → k < length trees → find (is_tree_of (get_or trees k d).name) (map filled_tree_of (take k trees)) ≡ None
none_filled [] k d are low = absurd (omega (arith, low))
none_filled (t ∷ ts) zero d are low = refl
none_filled (t ∷ ts) (suc k) d are low =
    let name = (get_or ts k d).name in
    let other = before_other t.name name (after_at t.name ts are.0 k d (omega (arith, low))) in
    ap (λ (b : Bool). cond b (Some (filled_tree_of t)) (find (is_tree_of name) (map filled_tree_of (take k ts)))) other ∙ none_filled ts k d are.1 (omega (arith, low))

-- and its place is the last
filled_last : (trees : List TreeAt) (k : ℕ) (d : TreeAt) → AreInOrder trees → k < length trees
    → with_filled (filled_tree_of (get_or trees k d)) (map filled_tree_of (take k trees)) ≡ map filled_tree_of (take k trees) ++ filled_tree_of (get_or trees k d) ∷ []
filled_last [] k d are low = absurd (omega (arith, low))
filled_last (t ∷ ts) zero d are low = refl
filled_last (t ∷ ts) (suc k) d are low =
    let next = filled_tree_of (get_or ts k d) in
    let rest = map filled_tree_of (take k ts) in
    let behind : is_name_before t.name next.name ≡ true = after_at t.name ts are.0 k d (omega (arith, low)) in
    ap (λ (b : Bool). cond b (filled_tree_of t ∷ with_filled next rest) (next ∷ filled_tree_of t ∷ rest)) behind
    ∙ ap (λ (us : List FilledTree). filled_tree_of t ∷ us) (filled_last ts k d are.1 (omega (arith, low)))

-- so with one tree more those of one more header are begun
pub filled_more : (trees : List TreeAt) (k : ℕ) (d : TreeAt) → AreInOrder trees → k < length trees → with_filled (filled_tree_of (get_or trees k d)) (map filled_tree_of (take k trees)) ≡ map filled_tree_of (take (k + 1) trees)
filled_more trees k d are low =
    filled_last trees k d are low
    ∙ sym (map_push filled_tree_of (take k trees) (get_or trees k d))
    ∙ ap (map filled_tree_of) (sym (take-suc trees k d low))
    ∙ ap (λ (n : ℕ). map filled_tree_of (take n trees)) (let e : suc k ≡ k + 1 = omega arith in e)

-- ---- few baskets

-- as many places as baskets
places_many : (bs : List Branch) → length (flat_map (λ (b : Branch). map (λ (at : BasketAt). at.seek) b.baskets) bs) ≡ sum_by (λ (b : Branch). length b.baskets) bs
places_many [] = refl
places_many (b ∷ bs) =
    let own = map (λ (at : BasketAt). at.seek) b.baskets in
    omega (
      arith,
      length-append own (flat_map (λ (c : Branch). map (λ (at : BasketAt). at.seek) c.baskets) bs),
      length-map b.baskets (λ (at : BasketAt). at.seek),
      places_many bs,
      sum_by-cons (λ (c : Branch). length c.baskets) b bs,
    )

abbrev pub HasFewBaskets : TreeAt → Type 0
HasFewBaskets t = basket_count t.head ≤ end_limit

each_few : (trees : List TreeAt) → length (places_of trees) ≤ end_limit → All HasFewBaskets trees
each_few [] low = All-nil HasFewBaskets
each_few (t ∷ ts) low =
    let all = length-append (basket_places t.head) (places_of ts) in
    All-cons HasFewBaskets t ts (omega (arith, low, all, places_many t.head.branches)) (each_few ts (omega (arith, low, all)))

-- where there is room for a close, each tree has few baskets
pub few_baskets : (r : Recovered) → HasRoomBehind r → All HasFewBaskets r.trees
few_baskets r room =
    let low = need_bounds r.name r.table.heads (other_count r.info r.trees + length r.table.heads) [] end_limit (omega (arith, room.close)) in
    each_few r.trees (omega (arith, low.count))

-- ---- a header without baskets

pub bare_defs : (defs : List BranchDef) → stated_defs (bare_head defs).branches ≡ defs
bare_defs [] = refl
bare_defs (d ∷ ds) = ap (λ (l : List BranchDef). d ∷ l) (bare_defs ds)

none_in : (defs : List BranchDef) → basket_count (bare_head defs) ≡ 0
none_in [] = refl
none_in (d ∷ ds) = omega (arith, none_in ds, sum_by-cons (λ (b : Branch). length b.baskets) (bare_branch d) (map bare_branch ds))

-- a short name, and branches without too many leaves
pub record IsShortTree (name : List ℕ) (defs : List BranchDef) : Type 0 where
  pub named : length name ≤ 100
  pub few : list_any (λ b. has_many_leaves b.shape) defs ≡ false

pub not_long : (name : List ℕ) (defs : List BranchDef) → (nat_lt 100 (length name) || list_any (λ b. has_many_leaves b.shape) defs) ≡ false → IsShortTree name defs
not_long name defs e =
    let two = or_parts (nat_lt 100 (length name)) (list_any (λ b. has_many_leaves b.shape) defs) e in
    record { named = ltb-false 100 (length name) two.0; few = two.1 }

module _ (name : List ℕ) (defs : List BranchDef) (fillable : AreFillable defs) (short : IsShortTree name defs) where
  not_many : has_many_branches defs ≡ false
  not_many = (λ i. le-ltb branch_limit (length defs) fillable.few i || list_any (λ b. has_many_leaves b.shape) defs) ∙ short.few

  size_low : header_size name defs ≤ 3000000
  size_low = header_low name defs short.named fillable.stated not_many

  pub bare_low : (head : TreeHead) → head ≡ bare_head defs → header_length name (stated_defs head.branches) (basket_count head) < 2 ^ 30 - 2
  bare_low head is =
      let size : header_size name (stated_defs head.branches) ≡ header_size name defs = ap (λ (h : TreeHead). header_size name (stated_defs h.branches)) is ∙ ap (header_size name) (bare_defs defs) in
      let none : basket_count head ≡ 0 = ap basket_count is ∙ none_in defs in
      omega (arith, size_low, size, none)

  -- what is kept of it
  pub bounded : (head : TreeHead) → stated_defs head.branches ≡ defs → basket_count head ≤ end_limit → IsBoundedTree name (fill_of head)
  bounded head is few =
      bounded_begun name head short.named (subst AreFillable (sym is) fillable) (omega (arith, few)) (omega (arith, size_low, ap (header_size name) is))

-- ---- a tree that is begun

-- by whether a name and branches that are the tree's are long
module _ (t : TreeAt) (can : CanBeFilled t.head) (few : basket_count t.head ≤ end_limit) (name : List ℕ) (named : name ≡ t.name) (defs : List BranchDef) (stated : defs ≡ stated_defs t.head.branches)
    (long : Bool) (told : long ≡ (nat_lt 100 (length name) || list_any (λ b. has_many_leaves b.shape) defs)) (other : long ≡ false) where
  short : IsShortTree t.name (stated_defs t.head.branches)
  short = subst (λ (x : List ℕ × List BranchDef). IsShortTree x.0 x.1) (λ i. (named i, stated i)) (not_long name defs (sym told ∙ other))

  pub begun_low : (own : List ℕ) (head : TreeHead) → own ≡ t.name → head ≡ bare_head (stated_defs t.head.branches) → header_length own (stated_defs head.branches) (basket_count head) < 2 ^ 30 - 2
  begun_low own head same is =
      subst (λ (n : List ℕ). header_length n (stated_defs head.branches) (basket_count head) < 2 ^ 30 - 2) (sym same) (bare_low t.name (stated_defs t.head.branches) can.defs short head is)

  pub begun_bytes : (own copy : List ℕ) (head : TreeHead) (fill : TreeFill) (bytes : ℕ) → own ≡ t.name → head ≡ bare_head (stated_defs t.head.branches) → bytes ≡ header_size own (stated_defs head.branches) → copy ≡ t.name
      → fill ≡ fill_of t.head → bytes ≡ header_size copy (defs_of fill.branches)
  begun_bytes own copy head fill bytes same is size copied filled =
      size
      ∙ (λ i. header_size (same i) (stated_defs (is i).branches))
      ∙ ap (header_size t.name) (bare_defs (stated_defs t.head.branches) ∙ sym (defs_begun t.head.branches))
      ∙ (λ i. header_size (sym copied i) (defs_of (sym filled i).branches))

  pub begun_bounded : (copy : List ℕ) (fill : TreeFill) → copy ≡ t.name → fill ≡ fill_of t.head → IsBoundedTree copy fill
  begun_bounded copy fill copied filled =
      subst (λ (x : List ℕ × TreeFill). IsBoundedTree x.0 x.1) (λ i. (sym copied i, sym filled i)) (bounded t.name (stated_defs t.head.branches) can.defs short t.head refl few)
