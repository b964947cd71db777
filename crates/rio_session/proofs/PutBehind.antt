-- The baskets of pending rows with those that a row finds full.
use Rattle.std.proofs.Common.{◌≡◌, ◌∙◌, ℕ, zero, suc, ◌+◌, ◌-◌, List, [], ◌∷◌, length, map, Bool, true, false, cond, not, ◌==◌, nat_lt, refl, sym, ap, subst, arith}
use Rattle.std.proofs.lemmas.{Bool.{and_parts, eqb-true, lt-ltb, ltb-true, ne_eqb}, List.Elements.{All-head, All-tail}}
use Rattle.std.specs.{Prelude.{if◌then◌else◌}, List.{All, filter, list_all}}
use Rattle.rio_tree.specs.declared.basket_at.BasketAt.{BasketAt}
use Rattle.rio_fill.specs.Fill.{BranchFill, TreeFill, count_before, row_added}
use Rattle.rio_effect.specs.TreeChanges.{all_behind}
use Rattle.rio_session.specs.{Due.{IsBranchSound, begins_before}, Fillings.{branches_become}, Fills.{put_baskets, put_of}}
use Rattle.rio_session.proofs.{BasketsPlaced.{BeginLater, puts_added}, PutCounts.{none_before}}

-- the open baskets begin behind the saved entries
pub begin_later : (saved pending : ℕ) (bs : List BranchFill) → All (IsBranchSound saved pending) bs → BeginLater saved (saved + pending) bs
begin_later saved pending [] sound = tt
begin_later saved pending (b ∷ bs) sound =
    let few = (All-head (IsBranchSound saved pending) b bs sound).few in
    (omega (arith, few), begin_later saved pending bs (All-tail (IsBranchSound saved pending) b bs sound))

-- ---- where no rows are pending none was put

none_later : (saved : ℕ) (b : BranchFill) (ats : List BasketAt) → list_all (λ at. begins_before (saved + 0) b at) ats ≡ true → filter (λ at. not (nat_lt at.first saved)) ats ≡ []
none_later saved b [] begin = refl
none_later saved b (at ∷ ats) begin =
    let parts = and_parts (begins_before (saved + 0) b at) (list_all (λ a. begins_before (saved + 0) b a) ats) begin in
    let low = ltb-true at.first (count_before (saved + 0) b) parts.0 in
    let first : nat_lt at.first saved ≡ true = lt-ltb at.first saved (omega (arith, low)) in
    let rest = none_later saved b ats parts.1 in
    λ i. cond (not (first i)) (at ∷ filter (λ a. not (nat_lt a.first saved)) ats) (rest i)

none_put : (saved : ℕ) (bs : List BranchFill) → All (IsBranchSound saved 0) bs → map (put_baskets saved) bs ≡ map (λ b. []) bs
none_put saved [] sound = refl
none_put saved (b ∷ bs) sound =
    let first = none_later saved b b.baskets (All-head (IsBranchSound saved 0) b bs sound).begins in
    let rest = none_put saved bs (All-tail (IsBranchSound saved 0) b bs sound) in
    λ i. first i ∷ rest i

-- ---- behind those from before

put_still : (t : TreeFill) (placed : List (List BasketAt)) → All (IsBranchSound t.saved t.pending) t.branches → length placed ≡ length t.branches
    → all_behind (map (put_baskets t.saved) t.branches) placed ≡ all_behind (put_of t) placed
put_still t placed sound long = by (t.pending == 0) refl
  where
    by : (b : Bool) → (t.pending == 0) ≡ b → all_behind (map (put_baskets t.saved) t.branches) placed ≡ all_behind (if b then [] else map (put_baskets t.saved) t.branches) placed
    by true e =
        let none = eqb-true t.pending 0 e in
        none_before t.saved t.branches placed long (none_put t.saved t.branches (subst (λ (n : ℕ). All (IsBranchSound t.saved n) t.branches) none sound))
    by false e = refl

pub put_behind : (t : TreeFill) (branches : List BranchFill) (row : List (List ℕ)) (placed : List (List BasketAt)) → All (IsBranchSound t.saved t.pending) t.branches → length placed ≡ length t.branches
    → map (put_baskets t.saved) branches ≡ all_behind (map (put_baskets t.saved) t.branches) placed
    → put_of (row_added (branches_become branches t) row) ≡ all_behind (put_of t) placed
put_behind t branches row placed sound long behind =
    let some : (t.pending + 1 == 0) ≡ false = ne_eqb (t.pending + 1) 0 (omega arith) in
    ap (λ (b : Bool). if b then [] else map (put_baskets t.saved) (row_added (branches_become branches t) row).branches) some
    ∙ puts_added t.saved branches row
    ∙ behind
    ∙ put_still t placed sound long
