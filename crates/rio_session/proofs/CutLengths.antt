-- A tree whose open baskets and put baskets are those of its pending rows: a close writes of it what its header and these rows tell.
use Rattle.std.proofs.Common.{◌≡◌, ◌∙◌, ℕ, ◌+◌, ◌==◌, Bool, true, false, cond, not, List, [], ◌∷◌, ◌++◌, codes, length, map, nat_lt, refl, sym, ap, arith}
use Rattle.std.proofs.lemmas.{Bool.{and_parts, lt-ltb, ltb-true}, List.{length-append, length-map, Elements.{All-head, All-tail}, Sums.{sum_by-cons}}}
use Rattle.std.specs.List.{All, filter, list_all, sum_by}
use Rattle.rio_leaf.specs.declared.branch.BranchDef.{BranchDef}
use Rattle.rio_format.specs.declared.class.ClassDef.{ClassDef}
use Rattle.rio_key.specs.Cut.{Cut, basket_with, baskets_of_cut, firsts_from}
use Rattle.rio_machine.specs.{Limits.{head_length}, State.{Row}}
use Rattle.rio_tree.specs.{HeaderLength.{basket_count, header_length}, WrittenLaws.{stated_defs}, declared.basket_at.BasketAt.{BasketAt}, declared.head.Branch.{Branch}}
use Rattle.rio_state.specs.{TreeLengths.{TreeLengths, basket_lengths, cut_count, cuts_of, open_baskets, put_count, tree_lengths}, Trees.{RecordsAt}}
use Rattle.rio_fill.specs.Fill.{BranchFill, TreeFill, count_before, defs_of}
use Rattle.rio_effect.specs.PutBaskets.{AreAllPut}
use Rattle.rio_session.specs.{Due.{begins_before, lengths_of_fill, open_lengths, written_count}, Fills.{branch_in_header, header_of, put_baskets}}

-- ---- lists

-- what passes a test and what doesn't are all
filter_both : {A : Type 0} (p : A → Bool) (xs : List A) → length (filter p xs) + length (filter (λ x. not (p x)) xs) ≡ length xs
filter_both p [] = refl
filter_both p (x ∷ xs) = by (p x) (filter_both p xs)
  where
    by : (b : Bool) → length (filter p xs) + length (filter (λ x. not (p x)) xs) ≡ length xs
        → length (cond b (x ∷ filter p xs) (filter p xs)) + length (cond (not b) (x ∷ filter (λ x. not (p x)) xs) (filter (λ x. not (p x)) xs)) ≡ length (x ∷ xs)
    by true rest = omega (arith, rest)
    by false rest = omega (arith, rest)

firsts_counted : (first : ℕ) (baskets : List (List (List ℕ))) → length (firsts_from first baskets) ≡ length baskets
firsts_counted first [] = refl
firsts_counted first (es ∷ baskets) = omega (arith, firsts_counted (first + length es) baskets)

-- ---- branch by branch

-- the branches of the header are those that are kept
pub defs_said : (saved : ℕ) (bs : List BranchFill) → stated_defs (map (branch_in_header saved) bs) ≡ defs_of bs
defs_said saved [] = refl
defs_said saved (b ∷ bs) = ap (λ (l : List BranchDef). b.def ∷ l) (defs_said saved bs)

-- the open baskets are as long
open_alike : (tree : List ℕ) (bs : List BranchFill) (cuts : List Cut) → map (λ b. b.entries) bs ≡ map (λ cut. cut.rest) cuts → open_baskets tree (defs_of bs) cuts ≡ open_lengths tree bs
open_alike tree [] [] same = refl
open_alike tree [] (cut ∷ cuts) same = absurd cc
open_alike tree (b ∷ bs) [] same = absurd cc
open_alike tree (b ∷ bs) (cut ∷ cuts) same =
    let first : b.entries ≡ cut.rest = cc in
    let others : map (λ b. b.entries) bs ≡ map (λ cut. cut.rest) cuts = cc in
    let rest = open_alike tree bs cuts others in
    λ i. map (basket_lengths tree b.def) (basket_with (sym first i)) ++ rest i

-- as many baskets were put
pub put_alike : (f : RecordsAt) (saved n : ℕ) (bs : List BranchFill) (cuts : List Cut) → map (λ b. b.entries) bs ≡ map (λ cut. cut.rest) cuts
    → AreAllPut f n (map (branch_in_header saved) bs) cuts (map (put_baskets saved) bs) → map (λ b. length (put_baskets saved b)) bs ≡ map (λ cut. length cut.put) cuts
put_alike f saved n [] [] same put = refl
put_alike f saved n [] (cut ∷ cuts) same put = absurd cc
put_alike f saved n (b ∷ bs) [] same put = absurd put
put_alike f saved n (b ∷ bs) (cut ∷ cuts) same put =
    let others : map (λ b. b.entries) bs ≡ map (λ cut. cut.rest) cuts = cc in
    let firsts = put.0.firsts in
    let one : length (put_baskets saved b) ≡ length cut.put = omega (arith, length-map (put_baskets saved b) (λ (at : BasketAt). at.first), ap length firsts, firsts_counted n cut.put) in
    let rest = put_alike f saved n bs cuts others put.1 in
    λ i. one i ∷ rest i

-- where no rows are pending none was put
none_left : {A : Type 0} (p q : A → Bool) → ((x : A) → p x ≡ true → q x ≡ false) → (xs : List A) → list_all p xs ≡ true → filter q xs ≡ []
none_left p q not_both [] all = refl
none_left p q not_both (x ∷ xs) all =
    let parts = and_parts (p x) (list_all p xs) all in
    ap (λ (b : Bool). cond b (x ∷ filter q xs) (filter q xs)) (not_both x parts.0) ∙ none_left p q not_both xs parts.1

-- the baskets that were written begin before the open basket, in a tree of so many saved and pending entries
abbrev pub HasBegun : ℕ → ℕ → BranchFill → Type 0
HasBegun saved pending b = list_all (λ at. begins_before (saved + pending) b at) b.baskets ≡ true

pub none_since : (saved : ℕ) (b : BranchFill) → HasBegun saved 0 b → length (put_baskets saved b) ≡ 0
none_since saved b sound =
    ap length (none_left (λ (at : BasketAt). nat_lt at.first (count_before (saved + 0) b)) (λ (at : BasketAt). not (nat_lt at.first saved))
    (λ at e. ap not (lt-ltb at.first saved (omega (arith, ltb-true at.first (count_before (saved + 0) b) e)))) b.baskets sound)

pub put_idle : (classes : List ClassDef) (saved : ℕ) (bs : List BranchFill) → All (HasBegun saved 0) bs → map (λ b. length (put_baskets saved b)) bs ≡ map (λ cut. length cut.put) (cuts_of classes (defs_of bs) [])
put_idle classes saved [] sound = refl
put_idle classes saved (b ∷ bs) sound =
    let one = none_since saved b (All-head (HasBegun saved 0) b bs sound) in
    let rest = put_idle classes saved bs (All-tail (HasBegun saved 0) b bs sound) in
    λ i. one i ∷ rest i

-- all baskets are those that the header names and those that were put since
written_split : (saved : ℕ) (bs : List BranchFill) (cuts : List Cut) → map (λ b. length (put_baskets saved b)) bs ≡ map (λ cut. length cut.put) cuts
    → written_count bs ≡ sum_by (λ (b : Branch). length b.baskets) (map (branch_in_header saved) bs) + put_count cuts
written_split saved [] [] same = refl
written_split saved [] (cut ∷ cuts) same = absurd cc
written_split saved (b ∷ bs) [] same = absurd cc
written_split saved (b ∷ bs) (cut ∷ cuts) same =
    let one : length (put_baskets saved b) ≡ length cut.put = cc in
    let others : map (λ b. length (put_baskets saved b)) bs ≡ map (λ cut. length cut.put) cuts = cc in
    omega (
      arith,
      one,
      filter_both (λ (at : BasketAt). nat_lt at.first saved) b.baskets,
      written_split saved bs cuts others,
      sum_by-cons (λ (b : BranchFill). length b.baskets) b bs,
      sum_by-cons (λ (b : Branch). length b.baskets) (branch_in_header saved b) (map (branch_in_header saved) bs),
      sum_by-cons (λ (cut : Cut). length cut.put) cut cuts,
    )

-- the next header names those that were put and the open ones
cuts_counted : (tree : List ℕ) (bs : List BranchFill) (cuts : List Cut) → map (λ b. b.entries) bs ≡ map (λ cut. cut.rest) cuts → cut_count cuts ≡ put_count cuts + length (open_baskets tree (defs_of bs) cuts)
cuts_counted tree [] [] same = refl
cuts_counted tree [] (cut ∷ cuts) same = absurd cc
cuts_counted tree (b ∷ bs) [] same = absurd cc
cuts_counted tree (b ∷ bs) (cut ∷ cuts) same =
    let others : map (λ b. b.entries) bs ≡ map (λ cut. cut.rest) cuts = cc in
    omega (
      arith,
      cuts_counted tree bs cuts others,
      sum_by-cons (λ (cut : Cut). length (baskets_of_cut cut)) cut cuts,
      sum_by-cons (λ (cut : Cut). length cut.put) cut cuts,
      length-append cut.put (basket_with cut.rest),
      length-append (map (basket_lengths tree b.def) (basket_with cut.rest)) (open_baskets tree (defs_of bs) cuts),
      length-map (basket_with cut.rest) (basket_lengths tree b.def),
    )

-- ---- a tree

module _ (classes : List ClassDef) (name : List ℕ) (rows : List Row) (t : TreeFill) (pending : t.pending ≡ length rows)
    (opens : map (λ b. b.entries) t.branches ≡ map (λ cut. cut.rest) (cuts_of classes (defs_of t.branches) rows))
    (puts : map (λ b. length (put_baskets t.saved b)) t.branches ≡ map (λ cut. length cut.put) (cuts_of classes (defs_of t.branches) rows)) where
  abbrev cuts : List Cut
  cuts = cuts_of classes (defs_of t.branches) rows

  abbrev by_defs : List BranchDef → TreeLengths
  by_defs defs = record {
    pending = not (length rows == 0);
    header = head_length (codes "TTree") name + header_length name defs (basket_count (header_of t) + cut_count (cuts_of classes defs rows));
    baskets = open_baskets name defs (cuts_of classes defs rows);
  }

  told_by_defs : tree_lengths classes name rows (header_of t) ≡ by_defs (stated_defs (header_of t).branches)
  unfolding tree_lengths
  told_by_defs = refl

  count : written_count t.branches + length (open_lengths name t.branches) ≡ basket_count (header_of t) + cut_count (cuts_of classes (defs_of t.branches) rows)
  count =
      omega (
        arith,
        written_split t.saved t.branches cuts puts,
        cuts_counted name t.branches cuts opens,
        ap length (open_alike name t.branches cuts opens),
      )

  pub lengths_alike : lengths_of_fill name t ≡ tree_lengths classes name rows (header_of t)
  lengths_alike =
      let opened = open_alike name t.branches cuts opens in
      let mine : lengths_of_fill name t ≡ by_defs (defs_of t.branches) = λ i. record {
        pending = not (pending i == 0);
        header = head_length (codes "TTree") name + header_length name (defs_of t.branches) (count i);
        baskets = sym opened i;
      } in
      mine ∙ ap by_defs (sym (defs_said t.saved t.branches)) ∙ sym told_by_defs

  -- as many baskets were put since
  pub puts_alike : written_count t.branches ≡ basket_count (header_of t) + put_count (cuts_of classes (defs_of t.branches) rows)
  puts_alike = written_split t.saved t.branches cuts puts
