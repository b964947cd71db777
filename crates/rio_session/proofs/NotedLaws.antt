-- The loop that notes where open baskets stand once they are put.
use Rattle.std.proofs.Common.{◌≡◌, ℕ, zero, suc, ◌+◌, ◌==◌, ◌&&◌, ◌/◌, ◌≤◌, ◌<◌, List, [], ◌∷◌, length, drop, slice_get, Bool, true, false, Option, Some, unwrap_or, refl, sym, ap, ◌∙◌, arith}
use Rattle.std.proofs.lemmas.{Bool.{and_parts}, List.{length-drop}}
use Rattle.std.specs.Option.{option_map_or}
use Rattle.rio_tree.specs.declared.basket_at.BasketAt.{BasketAt}
use Rattle.rio_fill.specs.Fill.{BranchFill, TreeFill, basket_put, branch_put, changed_at, entry_count, has_flag, may_be_put, may_put}
use Rattle.rio_session.specs.{Measures.{flags_for, flags_in}, Noted.{IsPlaceNext, branches_put, can_be_noted, flagged, noted}}
use Rattle.rio_session.proofs.Summed.{found, left_of}

-- ---- flags

pub flag_at : (n flags k : ℕ) → k < n → slice_get (flags_in n flags) k ≡ Some (has_flag flags k)
flag_at zero flags k lt = absurd (omega (arith, lt))
flag_at (suc n) flags zero lt = refl
flag_at (suc n) flags (suc k) lt = flag_at n (flags / 2) k (omega (arith, lt))

-- ---- branches of which some are noted already

-- those from number k on are put
abbrev pub put_behind : ℕ → List BasketAt → List Bool → List BranchFill → List BranchFill
put_behind zero ats fs bs = branches_put ats fs bs
put_behind (suc k) ats fs [] = []
put_behind (suc k) ats fs (b ∷ bs) = b ∷ put_behind k ats (drop 1 fs) bs

put_all : (k : ℕ) (ats : List BasketAt) (fs : List Bool) (bs : List BranchFill) → length bs ≤ k → put_behind k ats fs bs ≡ bs
put_all zero ats fs [] le = refl
put_all zero ats fs (b ∷ bs) le = absurd (omega (arith, le))
put_all (suc k) ats fs [] le = refl
put_all (suc k) ats fs (b ∷ bs) le = ap (λ (l : List BranchFill). b ∷ l) (put_all k ats (drop 1 fs) bs (omega (arith, le)))

flag_head : (t u : Bool) (fs : List Bool) → slice_get (t ∷ fs) 0 ≡ Some u → t ≡ u
flag_head t u fs is = ap (λ (o : Option Bool). unwrap_or o t) is

put_other : (k : ℕ) (ats : List BasketAt) (fs : List Bool) (bs : List BranchFill) → k < length bs → slice_get fs k ≡ Some false → put_behind k ats fs bs ≡ put_behind (suc k) ats fs bs
put_other k ats fs [] lt is = absurd (omega (arith, lt))
put_other zero ats [] (b ∷ bs) lt is = absurd cc
put_other zero ats (t ∷ fs) (b ∷ bs) lt is = ap (λ (u : Bool). branches_put ats (u ∷ fs) (b ∷ bs)) (flag_head t false fs is)
put_other (suc k) ats [] (b ∷ bs) lt is = absurd cc
put_other (suc k) ats (t ∷ fs) (b ∷ bs) lt is = ap (λ (l : List BranchFill). b ∷ l) (put_other k ats fs bs (omega (arith, lt)) is)

put_this : (k : ℕ) (at : BasketAt) (ats : List BasketAt) (fs : List Bool) (bs : List BranchFill) → k < length bs → slice_get fs k ≡ Some true → put_behind k (at ∷ ats) fs bs ≡ put_behind (suc k) ats fs (changed_at (branch_put at) bs k)
put_this k at ats fs [] lt is = absurd (omega (arith, lt))
put_this zero at ats [] (b ∷ bs) lt is = absurd cc
put_this zero at ats (t ∷ fs) (b ∷ bs) lt is = ap (λ (u : Bool). branches_put (at ∷ ats) (u ∷ fs) (b ∷ bs)) (flag_head t true fs is)
put_this (suc k) at ats [] (b ∷ bs) lt is = absurd cc
put_this (suc k) at ats (t ∷ fs) (b ∷ bs) lt is = ap (λ (l : List BranchFill). b ∷ l) (put_this k at ats fs bs (omega (arith, lt)) is)

pub changed_long : (f : BranchFill → BranchFill) (bs : List BranchFill) (k : ℕ) → length (changed_at f bs k) ≡ length bs
changed_long f [] k = refl
changed_long f (b ∷ bs) zero = refl
changed_long f (b ∷ bs) (suc k) = ap suc (changed_long f bs k)

behind_changed : (f : BranchFill → BranchFill) (bs : List BranchFill) (k : ℕ) → drop (suc k) (changed_at f bs k) ≡ drop (suc k) bs
behind_changed f [] k = refl
behind_changed f (b ∷ bs) zero = refl
behind_changed f (b ∷ bs) (suc k) = behind_changed f bs k

-- ---- the loop

pub record Noting (ats : List BasketAt) (flags : ℕ) (before : TreeFill) (k next : ℕ) (now : TreeFill) : Type 0 where
  pub early : next ≤ k
  pub rest : put_behind k (drop next ats) (flags_for before.branches flags) now.branches ≡ (noted ats flags before).branches
  pub can : can_be_noted (entry_count before) (drop next ats) (flagged (drop k now.branches) (drop k (flags_for before.branches flags))) ≡ true
  pub long : length now.branches ≡ length before.branches
  pub saved : now.saved ≡ before.saved
  pub pending : now.pending ≡ before.pending

pub noting_begins : (ats : List BasketAt) (flags : ℕ) (before : TreeFill) → can_be_noted (entry_count before) ats (flagged before.branches (flags_for before.branches flags)) ≡ true → Noting ats flags before 0 0 before
noting_begins ats flags before can = record { early = omega arith; rest = refl; can = can; long = refl; saved = refl; pending = refl }

pub noting_ends : (ats : List BasketAt) (flags : ℕ) (before : TreeFill) (k next : ℕ) (now : TreeFill) → Noting ats flags before k next now → length now.branches ≤ k → now ≡ noted ats flags before
noting_ends ats flags before k next now sofar end =
    let all = sym (put_all k (drop next ats) (flags_for before.branches flags) now.branches end) ∙ sofar.rest in
    let saved = sofar.saved in
    let pending = sofar.pending in
    λ i. record { saved = saved i; pending = pending i; branches = all i }

module _ (ats : List BasketAt) (flags : ℕ) (before : TreeFill) (k next : ℕ) (now : TreeFill) (sofar : Noting ats flags before k next now) (lt : k < length now.branches) where
  abbrev fs : List Bool
  fs = flags_for before.branches flags

  flag_is : slice_get fs k ≡ Some (has_flag flags k)
  flag_is = flag_at (length before.branches) flags k (omega (arith, lt, sofar.long))

  fs_left : (t : Bool) → has_flag flags k ≡ t → drop k fs ≡ t ∷ drop (k + 1) fs
  fs_left t is = left_of fs k t (flag_is ∙ ap (λ (u : Bool). let o : Option Bool = Some u in o) is)

  one : suc k ≡ k + 1
  one = omega arith

  pub not_noted : has_flag flags k ≡ false → Noting ats flags before (k + 1) next now
  not_noted is =
      let flag : slice_get fs k ≡ Some false = flag_is ∙ ap (λ (u : Bool). let o : Option Bool = Some u in o) is in
      let b = found now.branches k lt in
      let here : flagged (drop k now.branches) (drop k fs) ≡ flagged (drop (k + 1) now.branches) (drop (k + 1) fs) =
      (λ i. flagged (left_of now.branches k b.0 b.1 i) (fs_left false is i)) in
      record {
        early = omega (arith, sofar.early);
        rest = ap (λ (n : ℕ). put_behind n (drop next ats) fs now.branches) (sym one) ∙ sym (put_other k (drop next ats) fs now.branches lt flag) ∙ sofar.rest;
        can = ap (can_be_noted (entry_count before) (drop next ats)) (sym here) ∙ sofar.can;
        long = sofar.long;
        saved = sofar.saved;
        pending = sofar.pending;
      }

  module _ (is : has_flag flags k ≡ true) where
    b_at : (b : BranchFill) × (slice_get now.branches k ≡ Some b)
    b_at = found now.branches k lt

    here : flagged (drop k now.branches) (drop k fs) ≡ b_at.0 ∷ flagged (drop (k + 1) now.branches) (drop (k + 1) fs)
    here = λ i. flagged (left_of now.branches k b_at.0 b_at.1 i) (fs_left true is i)

    can_here : can_be_noted (entry_count before) (drop next ats) (b_at.0 ∷ flagged (drop (k + 1) now.branches) (drop (k + 1) fs)) ≡ true
    can_here = ap (can_be_noted (entry_count before) (drop next ats)) (sym here) ∙ sofar.can

    -- there is a place for it
    pub place_there : next < length ats
    place_there = by (drop next ats) refl can_here
      where
        by : (l : List BasketAt) → drop next ats ≡ l → can_be_noted (entry_count before) l (b_at.0 ∷ flagged (drop (k + 1) now.branches) (drop (k + 1) fs)) ≡ true → next < length ats
        by [] none can = absurd cc
        by (a ∷ l) some can = omega (arith, length-drop next ats, ap length some)

    module _ (at : BasketAt) (at_is : slice_get ats next ≡ Some at) where
      ats_left : drop next ats ≡ at ∷ drop (next + 1) ats
      ats_left = left_of ats next at at_is

      parts : (may_be_put (entry_count before) at b_at.0 ≡ true) × (can_be_noted (entry_count before) (drop (next + 1) ats) (flagged (drop (k + 1) now.branches) (drop (k + 1) fs)) ≡ true)
      parts =
          let rest = flagged (drop (k + 1) now.branches) (drop (k + 1) fs) in
          and_parts (may_be_put (entry_count before) at b_at.0) (can_be_noted (entry_count before) (drop (next + 1) ats) rest)
          (ap (λ (l : List BasketAt). can_be_noted (entry_count before) l (b_at.0 ∷ rest)) (sym ats_left) ∙ can_here)

      pub may_here : may_put now k at ≡ true
      may_here =
          let count : entry_count now ≡ entry_count before = λ i. sofar.saved i + sofar.pending i in
          (λ i. option_map_or (may_be_put (count i) at) (b_at.1 i) false) ∙ parts.0

      pub is_noted : (new : TreeFill) → new ≡ basket_put now k at → Noting ats flags before (k + 1) (next + 1) new
      is_noted new new_is =
          let flag : slice_get fs k ≡ Some true = flag_is ∙ ap (λ (u : Bool). let o : Option Bool = Some u in o) is in
          let f = branch_put at in
          let branches : new.branches ≡ changed_at f now.branches k = ap (λ (t : TreeFill). t.branches) new_is in
          let behind : drop (k + 1) new.branches ≡ drop (k + 1) now.branches = ap (drop (k + 1)) branches ∙ ap (λ (n : ℕ). drop n (changed_at f now.branches k)) (sym one) ∙ behind_changed f now.branches k ∙ ap (λ (n : ℕ). drop n now.branches) one in
          record {
            early = omega (arith, sofar.early);
            rest = (let two = sym one in λ i. put_behind (two i) (drop (next + 1) ats) fs (branches i)) ∙ sym (put_this k at (drop (next + 1) ats) fs now.branches lt flag)
                ∙ ap (λ (l : List BasketAt). put_behind k l fs now.branches) (sym ats_left) ∙ sofar.rest;
            can = ap (λ (bs : List BranchFill). can_be_noted (entry_count before) (drop (next + 1) ats) (flagged bs (drop (k + 1) fs))) behind ∙ parts.1;
            long = ap length branches ∙ changed_long f now.branches k ∙ sofar.long;
            saved = ap (λ (t : TreeFill). t.saved) new_is ∙ sofar.saved;
            pending = ap (λ (t : TreeFill). t.pending) new_is ∙ sofar.pending;
          }

  -- the place that is next, and the branch once it stands there
  pub next_place : has_flag flags k ≡ true → IsPlaceNext now k ats next
  next_place is = let f = found ats next (place_there is) in record { at = f.0; there = f.1; may = may_here is f.0 f.1 }

  pub noted_one : has_flag flags k ≡ true → (new : TreeFill) → ((at : BasketAt) → slice_get ats next ≡ Some at → new ≡ basket_put now k at) → Noting ats flags before (k + 1) (next + 1) new
  noted_one is new put = let f = found ats next (place_there is) in is_noted is f.0 f.1 new (put f.0 f.1)
