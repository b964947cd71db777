-- The header that is written for a tree is read as it.
use Rattle.std.proofs.Common.{◌≡◌, ◌∙◌, ◌&&◌, ◌^◌, ◌⊎◌, inl, inr, ℕ, ◌+◌, pos, Bool, true, false, cond, List, [], ◌∷◌, ◌++◌, length, codes, Option, Some, None, refl, ap, sym, subst, append-nil, append_assoc, arith, nat_lt}
use Rattle.std.proofs.{lemmas.List.{length-append, length-map, map-append, Folds.{list_any-append}}, lemmas.Iterator.Adapters.{position_from-zero}}
use Rattle.std.proofs.lemmas.Bool.{and_parts, or_parts, Decides.{Decides-int_eq}}
use Rattle.std.specs.{List.{list_all, position_from}, Ordering.{int_eq}, Prelude.{◌==◌, not, slice_get, Result, Ok}, Str.{bytes_eq}}
use Rattle.rio_num.specs.{Reading.{◌>>=◌}, Word.{is_name_text}}
use Rattle.rio_leaf.specs.{Leaves.{can_count, has_counting_leaf, has_leaf}, Marks.{is_leaf_letter}}
use Rattle.rio_leaf.specs.Stated.{all_leaves, are_branches_behind, are_stated_leaves, has_branch, is_stated_branch, is_stated_leaf, is_stated_shape, leaves_of}
use Rattle.rio_leaf.specs.{declared.branch.BranchDef.{BranchDef}, declared.branch.Shape.{Shape, TheVariants.{Leaves, Class}}, declared.leaf.Leaf.{Leaf}}
use Rattle.rio_format.specs.{declared.value.Value.{Int, Pointed, TheVariants.{outs-Int, outs-Pointed}}, PartsWithBases.{parts_with_bases}}
use Rattle.rio_format.specs.{Fits.{fits_signed}, Bodies.{part}, WrittenList.{array_object, number_part, titled_object}}
use Rattle.rio_format.proofs.ValueCases.{Each}
use Rattle.rio_tree.specs.{declared.basket_at.BasketAt.{BasketAt}, declared.head.Branch.{Branch}, declared.head.TreeHead.{TreeHead}}
use Rattle.rio_tree.specs.declared.refusal.BranchRefusal.{BranchRefusal}
use Rattle.rio_tree.specs.Header.{branch_in, branch_leaves, branches_from, entries_member, has_offsets, known_branch, met_behind, shape_said, tree_head_in}
use Rattle.rio_tree.specs.{Labels.{ObjectLabels, labels_in}, Members.{pointers_member}}
use Rattle.rio_tree.specs.HeaderLeaves.{LeafMet, LeavesMet, LeavesSaid, is_leafy, is_plain_number, leaf_by, leaf_met, leaves_met, no_leaves_met, says_values, with_counter, with_leaf_met}
use Rattle.rio_tree.specs.Refusals.{are_in_order, basket_numbered, basket_said, baskets_from, has_leaf_class, leaf_behind, leaves_from, listed_baskets, natural_in, no_leaves, readable_branch}
use Rattle.rio_tree.specs.WrittenLaws.{AreReadableBranches, IsReadableBranch, WrittenTreeIsRead, branch_fits_header, branch_of_leaf, counting_branches_behind, stated_defs}
use Rattle.rio_tree.specs.WrittenTree.{LeafLabels, branch_label_count, branch_object, branch_pointers, labels_behind, leaf_backs, leaf_object, leaf_pointers, tree_value_of, written_count}
use Rattle.rio_tree.proofs.WrittenCounters.{AllLead, Leads, OwnPlace, EarlierPlace, all_lead_more, leaf_reads, stated_leaf, written_met}
use Rattle.rio_tree.proofs.{WrittenFits.{dim_count_fits, numbers_of}, WrittenLeaves.{get_behind, get_front}, WrittenMembers.{branches_are_pointers, object_parts, pointers_written}}
use Rattle.rio_tree.proofs.WrittenSaid.{HasNumbers, branch_again, branch_name, class_of_shape, leaves_again, leaf_again, leaf_name, numbers_list, said_of_branch, said_of_leaf, version_again}

-- ---- baskets

natural_again : (bits n : ℕ) → fits_signed bits (pos n) ≡ true → natural_in bits (Int (pos n)) ≡ Some n
natural_again bits n e = rw (outs-Int (pos n), e) refl

basket_again : (b : BasketAt) → fits_signed 32 (pos b.bytes) ≡ true → fits_signed 64 (pos b.first) ≡ true → fits_signed 64 (pos b.seek) ≡ true → basket_said (Int (pos b.bytes)) (Int (pos b.first)) (Int (pos b.seek)) ≡ Some b
unfolding basket_said
basket_again b bytes first seek = rw (natural_again 32 b.bytes bytes, natural_again 64 b.first first, natural_again 64 b.seek seek) refl

-- the number of the basket behind these
number_at : (number : BasketAt → ℕ) (front : List BasketAt) (b : BasketAt) (rest : List BasketAt) (last : ℕ) → slice_get (numbers_list number (front ++ b ∷ rest) last) (length front) ≡ Some (Int (pos (number b)))
number_at number [] b rest last = refl
number_at number (x ∷ xs) b rest last = number_at number xs b rest last

record FitEach (baskets : List BasketAt) : Type 0 where
  bytes : list_all (λ basket. fits_signed 32 (pos basket.bytes)) baskets ≡ true
  firsts : list_all (λ basket. fits_signed 64 (pos basket.first)) baskets ≡ true
  seeks : list_all (λ basket. fits_signed 64 (pos basket.seek)) baskets ≡ true

module _ (known : LeafLabels) (label : ℕ) (b : Branch) where
  numbered_again : (front : List BasketAt) (basket : BasketAt) (rest : List BasketAt) → b.baskets ≡ front ++ basket ∷ rest → fits_signed 32 (pos basket.bytes) ≡ true → fits_signed 64 (pos basket.first) ≡ true → fits_signed 64 (pos basket.seek) ≡ true
      → basket_numbered (said_of_branch known label b) (length front) ≡ Some basket
  unfolding basket_numbered
  numbered_again front basket rest is bytes first seek =
      rw (
        is,
        number_at (λ x. x.bytes) front basket rest 0,
        number_at (λ x. x.first) front basket rest b.entries,
        number_at (λ x. x.seek) front basket rest 0,
        basket_again basket bytes first seek,
      ) refl

  baskets_again : (front rest : List BasketAt) (k : ℕ) → k ≡ length front → b.baskets ≡ front ++ rest → FitEach rest → baskets_from (said_of_branch known label b) k (length rest) ≡ Some rest
  baskets_again front [] k at is fit = refl
  baskets_again front (basket ∷ rest) k at is fit =
      let bytes = and_parts (fits_signed 32 (pos basket.bytes)) (list_all (λ x. fits_signed 32 (pos x.bytes)) rest) fit.bytes in
      let firsts = and_parts (fits_signed 64 (pos basket.first)) (list_all (λ x. fits_signed 64 (pos x.first)) rest) fit.firsts in
      let seeks = and_parts (fits_signed 64 (pos basket.seek)) (list_all (λ x. fits_signed 64 (pos x.seek)) rest) fit.seeks in
      let here : basket_numbered (said_of_branch known label b) k ≡ Some basket = ap (basket_numbered (said_of_branch known label b)) at ∙ numbered_again front basket rest is bytes.0 firsts.0 seeks.0 in
      let more = baskets_again (front ++ basket ∷ []) rest (k + 1) (omega (arith, at, length-append front (basket ∷ []))) (is ∙ sym (append_assoc front (basket ∷ []) rest)) (record { bytes = bytes.1; firsts = firsts.1; seeks = seeks.1 }) in
      rw (here, more) refl

listed_again : (entries : ℕ) (known : LeafLabels) (label : ℕ) (b : Branch) → HasNumbers b → b.entries ≡ entries → are_in_order entries b.baskets ≡ true → listed_baskets entries (said_of_branch known label b) ≡ Ok b.baskets
unfolding listed_baskets
listed_again entries known label b numbers same ordered =
    let level : int_eq (pos b.entries) (pos entries) ≡ true = (Decides-int_eq (pos b.entries) (pos entries)).1 (ap pos same) in
    let all = baskets_again known label b [] b.baskets 0 refl refl (record { bytes = numbers.bytes; firsts = numbers.firsts; seeks = numbers.seeks }) in
    rw (level, all, ordered) refl

-- ---- leaves of a branch

-- it has a letter of leaves, and how many values it has is within its member
abbrev IsGoodLeaf : Leaf → Type 0
IsGoodLeaf leaf = (is_leaf_letter leaf.letter ≡ true) × (nat_lt (written_count leaf.dim) (2 ^ 31) ≡ true)

leaf_known : (labels : ObjectLabels) (known : LeafLabels) (label : ℕ) (leaf : Leaf) → IsGoodLeaf leaf → has_leaf_class labels (Pointed label (leaf_object known leaf)) ≡ true
leaf_known labels known label leaf good = rw (outs-Pointed label (leaf_object known leaf), leaf_again known leaf good.0 good.1) refl

leaves_known : (labels : ObjectLabels) (known : LeafLabels) (label : ℕ) (leaves : List Leaf) → Each IsGoodLeaf leaves → list_all (has_leaf_class labels) (leaf_pointers known label leaves) ≡ true
unfolding leaf_pointers
leaves_known labels known label [] each = refl
leaves_known labels known label (leaf ∷ leaves) each = rw (leaf_known labels known label leaf each.0) (leaves_known labels ((leaf.name, label) ∷ known) (label + 1) leaves each.1)

-- what those behind it see of a leaf that is written
met_again : (labels : ObjectLabels) (branch : ℕ) (known : LeafLabels) (label : ℕ) (leaf : Leaf) → IsGoodLeaf leaf → is_plain_number (said_of_leaf known leaf) ≡ can_count leaf → leaf_met labels branch (Pointed label (leaf_object known leaf)) ≡ written_met branch label leaf
met_again labels branch known label leaf good counts =
    rw (outs-Pointed label (leaf_object known leaf), leaf_name known leaf, leaf_again known leaf good.0 good.1, counts) refl

-- the leaves that were met behind these of a branch
abbrev met_behind_leaves : ℕ → ℕ → List Leaf → LeavesMet → LeavesMet
met_behind_leaves branch label [] met = met
met_behind_leaves branch label (leaf ∷ leaves) met = met_behind_leaves branch (label + 1) leaves (with_leaf_met (written_met branch label leaf) met)

-- how leaves are read, and what is known behind them
record LeavesRead (labels : ObjectLabels) (branches : List Branch) (before done : List Leaf) (known : LeafLabels) (met : LeavesMet) (next : ℕ) (leaves : List Leaf) : Type 0 where
  read : (said : LeavesSaid) → leaves_from labels branches (leaf_pointers known next leaves) met said
      ≡ Ok (record { leaves = said.leaves ++ leaves; counted_by = counting_branches_behind (stated_defs branches) said.counted_by leaves })
  met_then : leaves_met labels (length branches) (leaf_pointers known next leaves) met ≡ met_behind_leaves (length branches) next leaves met
  last : ℕ
  last_is : last ≡ next + length leaves
  leads : AllLead branches (before ++ leaves) (done ++ leaves) (labels_behind known next leaves) (met_behind_leaves (length branches) next leaves met) last

-- no leaf of these branches has a name that none of the leaves before has
abbrev NamesOf : List Branch → List Leaf → Type 0
NamesOf branches before = (name : List ℕ) → has_leaf before name ≡ false → branch_of_leaf (stated_defs branches) name ≡ None

names_more : (branches : List Branch) (before : List Leaf) (leaf : Leaf) → NamesOf branches before → NamesOf branches (before ++ leaf ∷ [])
names_more branches before leaf names name e = names name ((or_parts (has_leaf before name) (has_leaf (leaf ∷ []) name) (sym (list_any-append (λ l. bytes_eq l.name name) before (leaf ∷ [])) ∙ e)).0)

leaves_read : (labels : ObjectLabels) (branches : List Branch) (before done : List Leaf) (known : LeafLabels) (met : LeavesMet) (next : ℕ) (leaves : List Leaf)
    → are_stated_leaves before leaves ≡ true → NamesOf branches before → AllLead branches before done known met next → LeavesRead labels branches before done known met next leaves
unfolding leaf_pointers labels_behind leaf_behind
leaves_read labels branches before done known met next [] stated names leads = record {
  read = λ said. ap (λ (l : List Leaf). Ok (record { leaves = l; counted_by = said.counted_by })) (sym (append-nil said.leaves));
  met_then = refl;
  last = next;
  last_is = omega arith;
  leads = rw (append-nil before, append-nil done) leads;
}
leaves_read labels branches before done known met next (leaf ∷ leaves) stated names leads =
    let h = and_parts (is_stated_leaf before leaf) (are_stated_leaves (before ++ leaf ∷ []) leaves) stated in
    let own = stated_leaf before leaf h.0 in
    let good : IsGoodLeaf leaf = (own.letter, dim_count_fits (has_counting_leaf before) leaf.dim own.dim) in
    let step = leaf_reads branches before done known met next leaf own leads in
    let m = written_met (length branches) next leaf in
    let met_is = met_again labels (length branches) known next leaf good step.counts in
    let more = all_lead_more branches before done known met next leaf own.fresh (names leaf.name own.fresh) leads in
    let rest = leaves_read labels branches (before ++ leaf ∷ []) (done ++ leaf ∷ []) ((leaf.name, next) ∷ known) (with_leaf_met m met) (next + 1) leaves h.1 (names_more branches before leaf names) more in
    record {
      read = λ said.
          let item = Pointed next (leaf_object known leaf) in
          let items = leaf_pointers ((leaf.name, next) ∷ known) (next + 1) leaves in
          let own_said : LeavesSaid = record { leaves = said.leaves ++ leaf_by (said_of_leaf known leaf) step.counter ∷ []; counted_by = with_counter (length branches) step.counter said.counted_by } in
          let one : leaf_behind labels branches item met said ≡ Ok own_said = rw (outs-Pointed next (leaf_object known leaf), leaf_again known leaf good.0 good.1, step.found) refl in
          ap (λ (r : Result LeavesSaid BranchRefusal). r >>= (λ more. leaves_from labels branches items (with_leaf_met (leaf_met labels (length branches) item) met) more)) one
          ∙ ap (λ (l : LeafMet). leaves_from labels branches items (with_leaf_met l met) own_said) met_is
          ∙ (rest.read own_said ∙ rw (step.again, step.numbers said.counted_by, append_assoc said.leaves (leaf ∷ []) leaves) refl);
      met_then = ap (λ (l : LeafMet). leaves_met labels (length branches) (leaf_pointers ((leaf.name, next) ∷ known) (next + 1) leaves) (with_leaf_met l met)) met_is ∙ rest.met_then;
      last = rest.last;
      last_is = omega (arith, rest.last_is);
      leads = rw (append_assoc before (leaf ∷ []) leaves, append_assoc done (leaf ∷ []) leaves) at rest.leads;
    }

-- ---- one branch

good_leaves : (before leaves : List Leaf) → are_stated_leaves before leaves ≡ true → Each IsGoodLeaf leaves
good_leaves before [] e = tt
good_leaves before (leaf ∷ leaves) e =
    let h = and_parts (is_stated_leaf before leaf) (are_stated_leaves (before ++ leaf ∷ []) leaves) e in
    let own = stated_leaf before leaf h.0 in
    ((own.letter, dim_count_fits (has_counting_leaf before) leaf.dim own.dim), good_leaves (before ++ leaf ∷ []) leaves h.1)

stated_leaves : (before : List Leaf) (shape : Shape) → is_stated_shape before shape ≡ true → are_stated_leaves before (leaves_of shape) ≡ true
stated_leaves before (Leaves leaves) e = (and_parts (not (length leaves == 0)) (are_stated_leaves before leaves) e).1
stated_leaves before (Class class) e = refl

readable_again : (labels : ObjectLabels) (at : ℕ) (known : LeafLabels) (label : ℕ) (b : Branch) → HasNumbers b → Each IsGoodLeaf (branch_leaves b) → readable_branch labels (Pointed at (branch_object known label b)) ≡ Ok (said_of_branch known label b)
unfolding readable_branch
readable_again labels at known label b numbers good =
    rw (outs-Pointed at (branch_object known label b), branch_again known label b numbers, leaves_known labels known label (branch_leaves b) good) refl

shape_again : (shape : Shape) → shape_said (class_of_shape shape) (leaves_of shape) ≡ shape
shape_again (Leaves leaves) = refl
shape_again (Class class) = refl

-- the branch that all this makes
abbrev made_branch : Branch → Shape → Bool → List ℕ → Option BranchRefusal → Branch
made_branch b shape offsets counted_by refused = record {
  def = record { name = b.def.name; shape = shape };
  class_version = b.class_version;
  entries = b.entries;
  offsets = offsets;
  baskets = b.baskets;
  counted_by = counted_by;
  refused = refused;
}

made_again : (b : Branch) (shape : Shape) (offsets : Bool) (counted_by : List ℕ) (refused : Option BranchRefusal) → shape ≡ b.def.shape → offsets ≡ b.offsets → counted_by ≡ b.counted_by → refused ≡ b.refused → made_branch b shape offsets counted_by refused ≡ b
made_again b shape offsets counted_by refused s o c r = rw (s, o, c, r) refl

branch_read : (entries : ℕ) (labels : ObjectLabels) (branches : List Branch) (before : List Leaf) (known : LeafLabels) (met : LeavesMet) (at : ℕ) (b : Branch)
    → HasNumbers b → fits_signed 32 b.class_version ≡ true → Each IsGoodLeaf (branch_leaves b) → IsReadableBranch entries (stated_defs branches) b → LeavesRead labels branches before [] known met (at + 1) (branch_leaves b)
    → branch_in entries labels branches met (Pointed at (branch_object known (at + 1) b)) ≡ b
unfolding branch_in known_branch
branch_read entries labels branches before known met at b numbers version good is leaves =
    let whole = branch_object known (at + 1) b in
    let offsets : has_offsets (shape_said (class_of_shape b.def.shape) (branch_leaves b)) ≡ b.offsets = ap has_offsets (shape_again b.def.shape) ∙ sym is.offsets_as_shape in
    rw (
      readable_again labels at known (at + 1) b numbers good,
      outs-Pointed at whole,
      leaves_again known (at + 1) b,
      leaves.read no_leaves,
      branch_name known (at + 1) b,
      version_again known (at + 1) b version is.version_as_shape,
      listed_again entries known (at + 1) b numbers is.entries_as_tree is.in_order,
    )
    (made_again b (shape_said (class_of_shape b.def.shape) (branch_leaves b)) (has_offsets (shape_said (class_of_shape b.def.shape) (branch_leaves b))) (counting_branches_behind (stated_defs branches) [] (branch_leaves b)) None
    (shape_again b.def.shape) offsets (sym is.counted) (sym is.refused))

-- ---- from one branch to the next

none_from : (i : ℕ) (defs : List BranchDef) (name : List ℕ) → has_leaf (all_leaves defs) name ≡ false → position_from (λ b. has_leaf (leaves_of b.shape) name) i defs ≡ None
none_from i [] name e = refl
none_from i (b ∷ bs) name e =
    let split = sym (list_any-append (λ l. bytes_eq l.name name) (leaves_of b.shape) (all_leaves bs)) ∙ e in
    rw ((or_parts (has_leaf (leaves_of b.shape) name) (has_leaf (all_leaves bs) name) split).0) (none_from (i + 1) bs name ((or_parts (has_leaf (leaves_of b.shape) name) (has_leaf (all_leaves bs) name) split).1))

from_zero : (defs : List BranchDef) (name : List ℕ) → branch_of_leaf defs name ≡ position_from (λ b. has_leaf (leaves_of b.shape) name) 0 defs
from_zero defs name = position_from-zero (λ b. has_leaf (leaves_of b.shape) name) defs

module _ (has : BranchDef → Bool) where
  found_front : (i : ℕ) (xs ys : List BranchDef) (n : ℕ) → position_from has i xs ≡ Some n → position_from has i (xs ++ ys) ≡ Some n
  found_front i [] ys n e = absurd cc
  found_front i (x ∷ xs) ys n e = elim (has x) as (λ t. cond t (Some i) (position_from has (i + 1) xs) ≡ Some n → cond t (Some i) (position_from has (i + 1) (xs ++ ys)) ≡ Some n) [ true ↦ λ h. h | false ↦ λ h. found_front (i + 1) xs ys n h ] e

  found_last : (i : ℕ) (xs : List BranchDef) (y : BranchDef) (n : ℕ) → n ≡ i + length xs → position_from has i xs ≡ None → has y ≡ true → position_from has i (xs ++ y ∷ []) ≡ Some n
  found_last i [] y n is e h = let same : i ≡ n = omega (arith, is) in rw (h, same) refl
  found_last i (x ∷ xs) y n is e h = elim (has x) as (λ t. cond t (Some i) (position_from has (i + 1) xs) ≡ None → cond t (Some i) (position_from has (i + 1) (xs ++ y ∷ [])) ≡ Some n) [ true ↦ λ k. absurd cc | false ↦ λ k. found_last (i + 1) xs y n (omega (arith, is)) k h ] e

says_front : (xs ys : List Branch) (n : ℕ) → says_values (slice_get xs n) ≡ true → says_values (slice_get (xs ++ ys) n) ≡ true
says_front xs ys n e = elim (slice_get xs n) as (λ o. slice_get xs n ≡ o → says_values o ≡ true → says_values (slice_get (xs ++ ys) n) ≡ true) [
  | None ↦ λ is h. absurd cc
  | Some b ↦ λ is h. rw (get_front xs ys n b is) h
] refl e

says_own : (b : Branch) (shape : Shape) (name : List ℕ) → has_leaf (leaves_of shape) name ≡ true → is_leafy shape ≡ true
says_own b (Leaves leaves) name e = refl
says_own b (Class class) name e = absurd cc

defs_more : (branches : List Branch) (b : Branch) → stated_defs (branches ++ b ∷ []) ≡ stated_defs branches ++ b.def ∷ []
defs_more branches b = map-append (λ b. b.def) branches (b ∷ [])

place_next : (branches : List Branch) (b : Branch) (name : List ℕ) (n : ℕ) → b.refused ≡ None → OwnPlace branches (branch_leaves b) name n ⊎ EarlierPlace branches name n → EarlierPlace (branches ++ b ∷ []) name n
place_next branches b name n fine (inl own) =
    let leafy = says_own b b.def.shape name own.2 in
    let says : says_values (slice_get (branches ++ b ∷ []) n) ≡ true = rw (own.0, get_behind branches [] b, fine, leafy) refl in
    let last : n ≡ 0 + length (stated_defs branches) = omega (arith, own.0, length-map branches (λ b. b.def)) in
    let found = found_last (λ d. has_leaf (leaves_of d.shape) name) 0 (stated_defs branches) b.def n last (sym (from_zero (stated_defs branches) name) ∙ own.1) own.2 in
    (omega (arith, own.0, length-append branches (b ∷ [])), rw (defs_more branches b) (from_zero (stated_defs branches ++ b.def ∷ []) name ∙ found), says)
place_next branches b name n fine (inr earlier) =
    (omega (arith, earlier.0, length-append branches (b ∷ [])), rw (defs_more branches b) (from_zero (stated_defs branches ++ b.def ∷ []) name ∙ found_front (λ d. has_leaf (leaves_of d.shape) name) 0 (stated_defs branches) (b.def ∷ []) n (sym (from_zero (stated_defs branches) name) ∙ earlier.1)), says_front branches (b ∷ []) n earlier.2)

lead_next : (branches : List Branch) (b : Branch) (known : LeafLabels) (met : LeavesMet) (next : ℕ) (name : List ℕ) → b.refused ≡ None → Leads branches (branch_leaves b) known met next name → Leads (branches ++ b ∷ []) [] known met next name
lead_next branches b known met next name fine to = record {
  label = to.label;
  leaf = to.leaf;
  below = to.below;
  found = to.found;
  by_label = to.by_label;
  by_name = to.by_name;
  own_label = to.own_label;
  named = to.named;
  counts = to.counts;
  place = inr (place_next branches b name to.leaf.branch fine to.place);
}

-- a label more is taken by the branch itself
lead_label : (branches : List Branch) (known : LeafLabels) (met : LeavesMet) (next : ℕ) (name : List ℕ) → Leads branches [] known met next name → Leads branches [] known met (next + 1) name
lead_label branches known met next name to = record {
  label = to.label;
  leaf = to.leaf;
  below = omega (arith, to.below);
  found = to.found;
  by_label = to.by_label;
  by_name = to.by_name;
  own_label = to.own_label;
  named = to.named;
  counts = to.counts;
  place = to.place;
}

-- ---- all branches

-- what is known of the numbers of a branch
abbrev pub HasAllNumbers : Branch → Type 0
HasAllNumbers b = HasNumbers b × (fits_signed 32 b.class_version ≡ true)

met_items : (labels : ObjectLabels) (branches : List Branch) (met : LeavesMet) (at : ℕ) (known : LeafLabels) (label : ℕ) (b : Branch) → HasNumbers b
    → met_behind labels branches met (Pointed at (branch_object known label b)) ≡ leaves_met labels (length branches) (leaf_pointers known label (branch_leaves b)) met
met_items labels branches met at known label b numbers = rw (outs-Pointed at (branch_object known label b), leaves_again known label b) refl

leaves_more : (before : List BranchDef) (b : BranchDef) → all_leaves (before ++ b ∷ []) ≡ all_leaves before ++ leaves_of b.shape
leaves_more [] b = append-nil (leaves_of b.shape)
leaves_more (d ∷ ds) b = ap (λ (l : List Leaf). leaves_of d.shape ++ l) (leaves_more ds b) ∙ sym (append_assoc (leaves_of d.shape) (all_leaves ds) (leaves_of b.shape))

branches_read : (entries : ℕ) (labels : ObjectLabels) (bs branches : List Branch) (known : LeafLabels) (met : LeavesMet) (label : ℕ)
    → Each HasAllNumbers bs → are_branches_behind (stated_defs branches) (stated_defs bs) ≡ true → AreReadableBranches entries (stated_defs branches) bs
    → AllLead branches (all_leaves (stated_defs branches)) [] known met label
    → branches_from entries labels (branch_pointers known label bs) branches met ≡ branches ++ bs
unfolding branch_pointers
branches_read entries labels [] branches known met label numbers stated readable leads = sym (append-nil branches)
branches_read entries labels (b ∷ bs) branches known met label numbers stated readable leads =
    let defs = stated_defs branches in
    let before = all_leaves defs in
    let own = branch_leaves b in
    let h = and_parts (is_stated_branch defs b.def) (are_branches_behind (defs ++ b.def ∷ []) (stated_defs bs)) stated in
    let shape = and_parts (is_name_text b.def.name && not (has_branch defs b.def.name)) (is_stated_shape before b.def.shape) h.0 in
    let fine = stated_leaves before b.def.shape shape.1 in
    let leaves = leaves_read labels branches before [] known met (label + 1) own fine (λ name e. from_zero defs name ∙ none_from 0 defs name e) (λ name e. lead_label branches known met label name (leads name e)) in
    let branch_is = branch_read entries labels branches before known met label b numbers.0.0 numbers.0.1 (good_leaves before own fine) readable.0 leaves in
    let met_is = met_items labels branches met label known (label + 1) b numbers.0.0 ∙ leaves.met_then in
    let next : leaves.last ≡ label + branch_label_count b = omega (arith, leaves.last_is) in
    let more : stated_defs (branches ++ b ∷ []) ≡ defs ++ b.def ∷ [] = defs_more branches b in
    let all_more : all_leaves (stated_defs (branches ++ b ∷ [])) ≡ before ++ own = ap all_leaves more ∙ leaves_more defs b.def in
    let ends = λ (name : List ℕ) (e : has_counting_leaf (all_leaves (stated_defs (branches ++ b ∷ []))) name ≡ true).
    let here = lead_next branches b (labels_behind known (label + 1) own) (met_behind_leaves (length branches) (label + 1) own met) leaves.last name readable.0.refused (leaves.leads name (ap (λ (l : List Leaf). has_counting_leaf l name) (sym all_more) ∙ e)) in
    subst (λ (n : ℕ). Leads (branches ++ b ∷ []) [] (labels_behind known (label + 1) own) (met_behind_leaves (length branches) (label + 1) own met) n name) next here in
    let rest = branches_read entries labels bs (branches ++ b ∷ []) (labels_behind known (label + 1) own) (met_behind_leaves (length branches) (label + 1) own met) (label + branch_label_count b) numbers.1
    (ap (λ (d : List BranchDef). are_branches_behind d (stated_defs bs)) more ∙ h.1)
    (subst (λ (d : List BranchDef). AreReadableBranches entries d bs) (sym more) readable.1)
    ends in
    let item = Pointed label (branch_object known (label + 1) b) in
    let items = branch_pointers (labels_behind known (label + 1) own) (label + branch_label_count b) bs in
    ap (λ (x : Branch). branches_from entries labels items (branches ++ x ∷ []) (met_behind labels branches met item)) branch_is
    ∙ ap (λ (l : LeavesMet). branches_from entries labels items (branches ++ b ∷ []) l) met_is
    ∙ (rest ∙ append_assoc branches (b ∷ []) bs)

-- ---- the tree

tree_parts : (name : List ℕ) (head : TreeHead) → parts_with_bases (tree_value_of name head)
    ≡ part [] (titled_object name [])
    ∷ number_part (codes "fEntries") head.entries
    ∷ part (codes "fBranches") (array_object (branch_pointers [] 0 head.branches))
    ∷ part (codes "fLeaves") (array_object (leaf_backs 0 head.branches))
    ∷ parts_with_bases (titled_object name [])
unfolding tree_value_of
tree_parts name head = rw (object_parts (codes "TTree") (pos 120) _, append-nil (parts_with_bases (titled_object name []))) refl

entries_again : (name : List ℕ) (head : TreeHead) → nat_lt head.entries (2 ^ 63) ≡ true → entries_member (tree_value_of name head) ≡ Some head.entries
entries_again name head e = rw (tree_parts name head, outs-Int (pos head.entries), e) refl

items_again : (name : List ℕ) (head : TreeHead) → pointers_member (codes "fBranches") (tree_value_of name head) ≡ Some (branch_pointers [] 0 head.branches)
items_again name head = rw (tree_parts name head, pointers_written (branch_pointers [] 0 head.branches) (branches_are_pointers [] 0 head.branches)) refl

numbers_of_branch : (b : Branch) → branch_fits_header b ≡ true → HasAllNumbers b
numbers_of_branch b e =
    let n = numbers_of b e in
    (record { entries = n.entries; count = n.count; bytes = n.baskets.bytes; firsts = n.baskets.first; seeks = n.baskets.seek }, n.version)

each_number : (bs : List Branch) → list_all branch_fits_header bs ≡ true → Each HasAllNumbers bs
each_number [] e = tt
each_number (b ∷ bs) e =
    let h = and_parts (branch_fits_header b) (list_all branch_fits_header bs) e in
    (numbers_of_branch b h.0, each_number bs h.1)

pub written_tree_is_read : WrittenTreeIsRead
unfolding tree_head_in
written_tree_is_read name head stated numbers readable =
    let behind = and_parts (not (length (stated_defs head.branches) == 0)) (are_branches_behind [] (stated_defs head.branches)) stated in
    let value = tree_value_of name head in
    rw (
      entries_again name head numbers.entries,
      items_again name head,
      branches_read head.entries (labels_in value) head.branches [] [] no_leaves_met 0 (each_number head.branches numbers.branches) behind.1 readable (λ name e. absurd cc),
    ) refl
