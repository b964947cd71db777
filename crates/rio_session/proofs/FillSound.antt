-- The branches of a tree stay sound with a row more, once the open baskets are put that it finds full.
use Rattle.std.proofs.Common.{◌≡◌, ℕ, zero, suc, ◌+◌, ◌-◌, ◌<◌, ◌≤◌, List, [], ◌∷◌, ◌++◌, length, Bool, true, false, ◌==◌, nat_lt, refl, sym, ap, subst, ◌∙◌, arith}
use Rattle.std.proofs.lemmas.{Bool.{and_from, lt-ltb}, List.{length-append, Elements.{All-cons, All-head, All-nil, All-tail}}}
use Rattle.std.specs.List.{All, list_all}
use Rattle.rio_tree.specs.{Refusals.{are_in_order}, declared.basket_at.BasketAt.{BasketAt}}
use Rattle.rio_fill.specs.Fill.{BranchFill, branch_added, branch_put, branches_added, count_before, has_no_entries}
use Rattle.rio_session.specs.Due.{IsBranchSound, begins_before}
use Rattle.rio_session.proofs.{BasketsPlaced.{ArePut}, ChangesAlike.{HaveEntries}, SaveHeads.{early_append, early_at, early_before, order_more}}

-- it is so with one more pending row, but for the limit on their number
pub record IsRowSound (saved pending : ℕ) (b : BranchFill) : Type 0 where
  pub few : length b.entries ≤ pending + 1
  pub begins : list_all (λ at. begins_before (saved + (pending + 1)) b at) b.baskets ≡ true
  pub order : are_in_order (count_before (saved + (pending + 1)) b) b.baskets ≡ true

module _ (saved pending : ℕ) (b : BranchFill) (e : List ℕ) (sound : IsBranchSound saved pending b) where
  -- the open basket takes the entry
  taken_sound : IsRowSound saved pending (branch_added b e)
  taken_sound =
      let few = sound.few in
      let more = length-append b.entries (e ∷ []) in
      let same : count_before (saved + pending) b ≡ count_before (saved + (pending + 1)) (branch_added b e) = omega (arith, few, more) in
      record {
        few = omega (arith, few, more);
        begins = subst (λ (n : ℕ). list_all (λ at. nat_lt at.first n) b.baskets ≡ true) same sound.begins;
        order = subst (λ (n : ℕ). are_in_order n b.baskets ≡ true) same sound.order;
      }

  some_entries : has_no_entries b ≡ false → 0 < length b.entries
  some_entries some = not_zero (length b.entries) refl
    where
      not_zero : (n : ℕ) → length b.entries ≡ n → 0 < length b.entries
      not_zero zero is = let f : true ≡ false = ap (λ (k : ℕ). k == 0) (sym is) ∙ some in absurd cc
      not_zero (suc n) is = omega (arith, is)

  -- or it is put first
  put_sound : (at : BasketAt) → at.first ≡ count_before (saved + pending) b → has_no_entries b ≡ false → IsRowSound saved pending (branch_added (branch_put at b) e)
  put_sound at first some =
      let few = sound.few in
      let one = some_entries some in
      let low : at.first < saved + pending = omega (arith, first, few, one) in
      let same : saved + pending ≡ count_before (saved + (pending + 1)) (branch_added (branch_put at b) e) = omega arith in
      let last : nat_lt at.first (saved + pending) ≡ true = lt-ltb at.first (saved + pending) low in
      let all = early_append (saved + pending) b.baskets (at ∷ []) (early_before (saved + pending) b b.baskets sound.begins) (and_from (nat_lt at.first (saved + pending)) true last refl) in
      let early = subst (λ (n : ℕ). list_all (λ a. nat_lt a.first n) b.baskets ≡ true) (sym first) (early_at (saved + pending) b b.baskets sound.begins) in
      let order = subst (λ (n : ℕ). are_in_order n b.baskets ≡ true) (sym first) sound.order in
      record {
        few = omega arith;
        begins = subst (λ (n : ℕ). list_all (λ a. nat_lt a.first n) (b.baskets ++ at ∷ []) ≡ true) same all;
        order = subst (λ (n : ℕ). are_in_order n (b.baskets ++ at ∷ []) ≡ true) same (order_more (saved + pending) b.baskets at early order);
      }

  one_sound : (c : BranchFill) (bs cs : List BranchFill) (flag : Bool) (flags : List Bool) → HaveEntries (b ∷ bs) (flag ∷ flags) → ArePut (saved + pending) (b ∷ bs) (flag ∷ flags) (c ∷ cs) → IsRowSound saved pending (branch_added c e)
  one_sound c bs cs true flags have are = subst (λ (d : BranchFill). IsRowSound saved pending (branch_added d e)) (sym are.0.is) (put_sound are.0.at are.0.first (have.0 refl))
  one_sound c bs cs false flags have are = subst (λ (d : BranchFill). IsRowSound saved pending (branch_added d e)) (sym are.0) taken_sound

others_are : (count : ℕ) (b c : BranchFill) (bs cs : List BranchFill) (flag : Bool) (flags : List Bool) → ArePut count (b ∷ bs) (flag ∷ flags) (c ∷ cs) → ArePut count bs flags cs
others_are count b c bs cs true flags are = are.1
others_are count b c bs cs false flags are = are.1

none_are : (count : ℕ) (b : BranchFill) (bs : List BranchFill) (flag : Bool) (flags : List Bool) → ArePut count (b ∷ bs) (flag ∷ flags) [] → ⊥
none_are count b bs true flags are = are
none_are count b bs false flags are = are

pub rows_sound : (saved pending : ℕ) (bs : List BranchFill) (flags : List Bool) (cs : List BranchFill) (row : List (List ℕ)) → length row ≡ length bs → length flags ≡ length bs → All (IsBranchSound saved pending) bs → HaveEntries bs flags
    → ArePut (saved + pending) bs flags cs → All (IsRowSound saved pending) (branches_added cs row)
rows_sound saved pending [] flags [] row long wide sound have are = All-nil (IsRowSound saved pending)
rows_sound saved pending [] flags (c ∷ cs) row long wide sound have are = absurd are
rows_sound saved pending (b ∷ bs) [] cs row long wide sound have are = absurd (omega (arith, wide))
rows_sound saved pending (b ∷ bs) (flag ∷ flags) [] row long wide sound have are = absurd (none_are (saved + pending) b bs flag flags are)
rows_sound saved pending (b ∷ bs) (flag ∷ flags) (c ∷ cs) [] long wide sound have are = absurd (omega (arith, long))
rows_sound saved pending (b ∷ bs) (flag ∷ flags) (c ∷ cs) (e ∷ row) long wide sound have are =
    All-cons (IsRowSound saved pending) (branch_added c e) (branches_added cs row)
    (one_sound saved pending b e (All-head (IsBranchSound saved pending) b bs sound) c bs cs flag flags have are)
    (rows_sound saved pending bs flags cs row (omega (arith, long)) (omega (arith, wide)) (All-tail (IsBranchSound saved pending) b bs sound) have.1 (others_are (saved + pending) b c bs cs flag flags are))
