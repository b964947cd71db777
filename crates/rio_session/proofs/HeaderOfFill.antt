-- A tree that is begun to be filled: its header, what is kept of it, where its baskets stand, and that nothing is due.
use Rattle.std.proofs.Common.{◌≡◌, ◌∙◌, ℕ, ◌+◌, ◌-◌, ◌<◌, ◌^◌, List, [], ◌∷◌, ◌++◌, map, length, nat_lt, Bool, true, cond, refl, sym, ap, arith}
use Rattle.std.proofs.lemmas.{Bool.{and_parts}, List.{Elements.{All-cons, All-head, All-nil, All-tail}, Sums.{sum_by-cons}}}
use Rattle.std.specs.List.{All, filter, flat_map, list_all}
use Rattle.rio_leaf.specs.declared.branch.BranchDef.{BranchDef}
use Rattle.rio_tree.specs.{Refusals.{are_in_order}, WrittenLaws.{stated_defs}, declared.basket_at.BasketAt.{BasketAt}, declared.head.Branch.{Branch}, declared.head.TreeHead.{TreeHead}}
use Rattle.rio_fill.specs.{Fill.{BranchFill, TreeFill, branch_fill_of, branches_added, defs_of, fill_of, row_added}, Heads.{BranchCanBeFilled, CanBeFilled}, Room.{without_room}}
use Rattle.rio_recover.specs.{Trees.{places_of}, declared.trees.TreeAt.{TreeAt}}
use Rattle.rio_session.specs.{Due.{IsBranchSound, due_of, due_of_fill, open_lengths}, Fills.{FilledTree, bare_tree, branch_in_header, filled_tree_of, header_of, places_of_trees, tree_at_of}}
use Rattle.rio_session.specs.{Opening.{IsOpenHead}, declared.open_tree.Due.{Due}}

-- ---- branches

filter_all : {A : Type 0} (p : A → Bool) (xs : List A) → list_all p xs ≡ true → filter p xs ≡ xs
filter_all p [] all = refl
filter_all p (x ∷ xs) all =
    let parts = and_parts (p x) (list_all p xs) all in
    ap (λ (b : Bool). cond b (x ∷ filter p xs) (filter p xs)) parts.0 ∙ ap (λ (l : List _). x ∷ l) (filter_all p xs parts.1)

branch_back : (entries : ℕ) (b : Branch) → BranchCanBeFilled entries b → branch_in_header entries (branch_fill_of b) ≡ b
branch_back entries b can =
    let baskets = filter_all (λ (at : BasketAt). nat_lt at.first entries) b.baskets can.before_end in
    let count = can.entries_as_tree in
    let offsets = can.offsets_as_shape in
    let none = can.refused in
    λ i. record {
      def = b.def;
      class_version = b.class_version;
      entries = sym count i;
      offsets = sym offsets i;
      baskets = baskets i;
      counted_by = b.counted_by;
      refused = sym none i;
    }

branches_back : (entries : ℕ) (bs : List Branch) → All (BranchCanBeFilled entries) bs → map (branch_in_header entries) (map branch_fill_of bs) ≡ bs
branches_back entries [] all = refl
branches_back entries (b ∷ bs) all =
    let one = branch_back entries b (All-head (BranchCanBeFilled entries) b bs all) in
    let rest = branches_back entries bs (All-tail (BranchCanBeFilled entries) b bs all) in
    λ i. one i ∷ rest i

-- the header of a tree with nothing pending is the one that it began with
pub header_back : (head : TreeHead) → CanBeFilled head → header_of (fill_of head) ≡ head
header_back head can = let same = branches_back head.entries head.branches can.branches in λ i. record { entries = head.entries; branches = same i }

pub trees_back : (trees : List TreeAt) → All (λ t. CanBeFilled t.head) trees → map tree_at_of (map filled_tree_of trees) ≡ trees
trees_back [] all = refl
trees_back (t ∷ ts) all =
    let one = header_back t.head (All-head (λ (u : TreeAt). CanBeFilled u.head) t ts all) in
    let rest = trees_back ts (All-tail (λ (u : TreeAt). CanBeFilled u.head) t ts all) in
    λ i. record { name = t.name; head = one i } ∷ rest i

-- ---- what is kept

pub defs_begun : (bs : List Branch) → defs_of (map branch_fill_of bs) ≡ stated_defs bs
defs_begun [] = refl
defs_begun (b ∷ bs) = ap (λ (l : List BranchDef). b.def ∷ l) (defs_begun bs)

bare_branches : (bs : List Branch) → map without_room (map branch_fill_of bs) ≡ map branch_fill_of bs
bare_branches [] = refl
bare_branches (b ∷ bs) = ap (λ (l : List BranchFill). branch_fill_of b ∷ l) (bare_branches bs)

-- no room was made yet
pub bare_begun : (trees : List TreeAt) → map bare_tree (map filled_tree_of trees) ≡ map filled_tree_of trees
bare_begun [] = refl
bare_begun (t ∷ ts) =
    let one = bare_branches t.head.branches in
    let rest = bare_begun ts in
    λ i. record { name = t.name; fill = record { saved = t.head.entries; pending = 0; branches = one i } } ∷ rest i

places_begun_in : (bs : List Branch) → flat_map (λ (b : BranchFill). map (λ (at : BasketAt). at.seek) b.baskets) (map branch_fill_of bs) ≡ flat_map (λ (b : Branch). map (λ (at : BasketAt). at.seek) b.baskets) bs
places_begun_in [] = refl
places_begun_in (b ∷ bs) = ap (λ (l : List ℕ). map (λ (at : BasketAt). at.seek) b.baskets ++ l) (places_begun_in bs)

-- its baskets are those that the header names
pub places_begun : (trees : List TreeAt) → places_of_trees (map filled_tree_of trees) ≡ places_of trees
places_begun [] = refl
places_begun (t ∷ ts) = λ i. places_begun_in t.head.branches i ++ places_begun ts i

-- ---- nothing is due

none_open : (name : List ℕ) (bs : List Branch) → open_lengths name (map branch_fill_of bs) ≡ []
none_open name [] = refl
none_open name (b ∷ bs) = none_open name bs

none_due_of : (name : List ℕ) (head : TreeHead) → due_of_fill name (fill_of head) ≡ record { bytes = 0; baskets = 0 }
none_due_of name head = let none = none_open name head.branches in λ i. record { bytes = 0; baskets = length (none i) }

pub none_due : (trees : List TreeAt) → due_of (map filled_tree_of trees) ≡ record { bytes = 0; baskets = 0 }
none_due [] = refl
none_due (t ∷ ts) =
    let one = none_due_of t.name t.head in
    let rest = none_due ts in
    let bytes : (due_of (map filled_tree_of (t ∷ ts))).bytes ≡ 0 =
    omega (arith, sum_by-cons (λ (u : FilledTree). (due_of_fill u.name u.fill).bytes) (filled_tree_of t) (map filled_tree_of ts), ap (λ (d : Due). d.bytes) one, ap (λ (d : Due). d.bytes) rest) in
    let baskets : (due_of (map filled_tree_of (t ∷ ts))).baskets ≡ 0 =
    omega (arith, sum_by-cons (λ (u : FilledTree). (due_of_fill u.name u.fill).baskets) (filled_tree_of t) (map filled_tree_of ts), ap (λ (d : Due). d.baskets) one, ap (λ (d : Due). d.baskets) rest) in
    λ i. record { bytes = bytes i; baskets = baskets i }

-- ---- it is sound

branch_sound : (entries : ℕ) (b : Branch) → entries < 2 ^ 63 → BranchCanBeFilled entries b → IsBranchSound entries 0 (branch_fill_of b)
branch_sound entries b low can =
    let all : entries + 0 - 0 ≡ entries = omega arith in
    record {
      few = omega arith;
      begins = ap (λ (n : ℕ). list_all (λ (at : BasketAt). nat_lt at.first n) b.baskets) all ∙ can.before_end;
      order = ap (λ (n : ℕ). are_in_order n b.baskets) all ∙ can.in_order;
      small = omega (arith, low);
    }

branches_sound : (entries : ℕ) (bs : List Branch) → entries < 2 ^ 63 → All (BranchCanBeFilled entries) bs → All (IsBranchSound entries 0) (map branch_fill_of bs)
branches_sound entries [] low all = All-nil (IsBranchSound entries 0)
branches_sound entries (b ∷ bs) low all =
    All-cons (IsBranchSound entries 0) (branch_fill_of b) (map branch_fill_of bs) (branch_sound entries b low (All-head (BranchCanBeFilled entries) b bs all))
    (branches_sound entries bs low (All-tail (BranchCanBeFilled entries) b bs all))

pub all_fillable : (trees : List TreeAt) → All (λ t. IsOpenHead t.head) trees → All (λ t. CanBeFilled t.head) trees
all_fillable trees all k d lt = (all k d lt).can

pub trees_sound : (trees : List TreeAt) → All (λ t. CanBeFilled t.head) trees → All (λ t. t.head.entries < 2 ^ 63) trees → All (λ t. All (IsBranchSound t.fill.saved t.fill.pending) t.fill.branches) (map filled_tree_of trees)
trees_sound [] all few = All-nil (λ (t : FilledTree). All (IsBranchSound t.fill.saved t.fill.pending) t.fill.branches)
trees_sound (t ∷ ts) all few =
    let can = All-head (λ (u : TreeAt). CanBeFilled u.head) t ts all in
    let low = All-head (λ (u : TreeAt). u.head.entries < 2 ^ 63) t ts few in
    All-cons (λ (u : FilledTree). All (IsBranchSound u.fill.saved u.fill.pending) u.fill.branches) (filled_tree_of t) (map filled_tree_of ts)
    (branches_sound t.head.entries t.head.branches low can.branches)
    (trees_sound ts (All-tail (λ (u : TreeAt). CanBeFilled u.head) t ts all) (All-tail (λ (u : TreeAt). u.head.entries < 2 ^ 63) t ts few))

-- ---- what a row and a save leave of the header

added_says : (saved : ℕ) (bs : List BranchFill) (row : List (List ℕ)) → map (branch_in_header saved) (branches_added bs row) ≡ map (branch_in_header saved) bs
added_says saved [] row = refl
added_says saved (b ∷ bs) [] = refl
added_says saved (b ∷ bs) (entry ∷ row) = ap (λ (l : List Branch). branch_in_header saved b ∷ l) (added_says saved bs row)

-- a row that is pending isn't in it
pub header_stays : (t : TreeFill) (row : List (List ℕ)) → header_of (row_added t row) ≡ header_of t
header_stays t row = let same = added_says t.saved t.branches row in λ i. record { entries = t.saved; branches = same i }
