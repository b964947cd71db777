-- What a close leaves: no row is pending, so a header names each basket of its tree, and the last state of the close is the closed one.
use Rattle.std.proofs.Common.{◌≡◌, ◌∙◌, ℕ, ◌+◌, List, [], ◌∷◌, ◌++◌, length, map, Bool, true, nat_lt, Option, Some, None, refl, sym, subst, slice_get, arith}
use Rattle.std.proofs.lemmas.{Bool.{and_parts, eqb-true}, List.Elements.{All-head, All-tail}}
use Rattle.std.specs.{FinMap.{get, same_map}, List.{All, find, flat_map, fold, list_all}, Option.{option_map, option_map_or}}
use Rattle.rio_key.specs.declared.head.KeyHead.{KeyHead}
use Rattle.rio_dir.specs.Table.{head_of}
use Rattle.rio_machine.proofs.OrderLaws.{names_tie, names_total}
use Rattle.rio_machine.specs.{State.{State, Tree}, declared.command.Command.{Command}}
use Rattle.rio_tree.specs.{declared.basket_at.BasketAt.{BasketAt}, declared.head.Branch.{Branch}}
use Rattle.rio_fill.specs.Fill.{BranchFill}
use Rattle.rio_step.proofs.ClosedLaws.{closed_has_none_pending, saved_keeps_the_rest}
use Rattle.rio_step.specs.{Runs.{closed_of, closing_saves, saved_of, saved_tree, states_behind, states_of_run}, Step.{state_behind}}
use Rattle.rio_recover.specs.Trees.{places_of}
use Rattle.rio_session.specs.{Due.{IsBranchSound}, Fillings.{closing, nothing_done, pending_names, saving, saving_all, saving_tree, saving_with}, Fills.{FilledTree, branch_in_header, is_tree_of, places_of_trees, tree_at_of}}
use Rattle.rio_session.specs.SessionState.{SessionState}
use Rattle.rio_session.proofs.{ClosingPlans.{is_idle}, Follows.{saving_file}, SaveHeads.{early_all, early_before}}

-- ---- baskets

-- where nothing is pending each basket that was written is saved
branches_named : (saved pending : ℕ) (bs : List BranchFill) → pending ≡ 0 → All (IsBranchSound saved pending) bs
    → flat_map (λ (b : Branch). map (λ (at : BasketAt). at.seek) b.baskets) (map (branch_in_header saved) bs) ≡ flat_map (λ (b : BranchFill). map (λ (at : BasketAt). at.seek) b.baskets) bs
branches_named saved pending [] none sound = refl
branches_named saved pending (b ∷ bs) none sound =
    let own = All-head (IsBranchSound saved pending) b bs sound in
    let all = saved + pending in
    let same : all ≡ saved = omega (arith, none) in
    let one = early_all saved b.baskets (subst (λ (n : ℕ). list_all (λ (at : BasketAt). nat_lt at.first n) b.baskets ≡ true) same (early_before (saved + pending) b b.baskets own.begins)) in
    let rest = branches_named saved pending bs none (All-tail (IsBranchSound saved pending) b bs sound) in
    λ i. map (λ (at : BasketAt). at.seek) (one i) ++ rest i

pub places_named : (trees : List FilledTree) → list_all is_idle trees ≡ true → All (λ (t : FilledTree). All (IsBranchSound t.fill.saved t.fill.pending) t.fill.branches) trees → places_of (map tree_at_of trees) ≡ places_of_trees trees
places_named [] idle sound = refl
places_named (t ∷ ts) idle sound =
    let parts = and_parts (is_idle t) (list_all is_idle ts) idle in
    let none = eqb-true t.fill.pending 0 parts.0 in
    let one = branches_named t.fill.saved t.fill.pending t.fill.branches none (All-head (λ (u : FilledTree). All (IsBranchSound u.fill.saved u.fill.pending) u.fill.branches) t ts sound) in
    let rest = places_named ts parts.1 (All-tail (λ (u : FilledTree). All (IsBranchSound u.fill.saved u.fill.pending) u.fill.branches) t ts sound) in
    λ i. one i ++ rest i

-- ---- what saves keep

info_headed : (s : SessionState) (name : List ℕ) (t : FilledTree) (o : Option KeyHead) → (option_map_or (saving_with s name t.fill) o (nothing_done s)).kept.info ≡ s.info
info_headed s name t None = refl
info_headed s name t (Some h) = refl

info_saved : (s : SessionState) (name : List ℕ) (o : Option FilledTree) → (option_map_or (saving_tree s name) o (nothing_done s)).kept.info ≡ s.info
info_saved s name None = refl
info_saved s name (Some t) = info_headed s name t (head_of name None s.heads)

pub record KeepsFields (s then_kept : SessionState) : Type 0 where
  pub info_is : then_kept.info ≡ s.info
  pub name_is : then_kept.name ≡ s.name
  pub nbytes_is : then_kept.nbytes_name ≡ s.nbytes_name
  pub datime_is : then_kept.datime ≡ s.datime

keeps_by_all : (s : SessionState) (names : List (List ℕ)) → KeepsFields s (saving_all s names).kept
keeps_by_all s [] = record { info_is = refl; name_is = refl; nbytes_is = refl; datime_is = refl }
keeps_by_all s (name ∷ names) =
    let one = saving_file s name in
    let rest = keeps_by_all (saving s name).kept names in
    record {
      info_is = rest.info_is ∙ info_saved s name (find (is_tree_of name) s.trees);
      name_is = rest.name_is ∙ one.name;
      nbytes_is = rest.nbytes_is ∙ one.nbytes_name;
      datime_is = rest.datime_is ∙ one.datime;
    }

pub closing_keeps : (s : SessionState) → KeepsFields s (closing s).kept
closing_keeps s = keeps_by_all s (pending_names s)

-- ---- the closed state

-- it has no pending rows
pub closed_saved : (m : State) → saved_of (closed_of m) ≡ closed_of m
unfolding saved_of
closed_saved m =
    let closed : State = closed_of m in
    let each : (name : List ℕ) (o : Option Tree) → get closed.trees name ≡ o → option_map saved_tree o ≡ o = λ name o is. tree_saved name o is in
    let same : (saved_of closed).trees ≡ closed.trees = same_map names_total names_tie (saved_of closed).trees closed.trees (λ name. saved_keeps_the_rest closed name ∙ each name (get closed.trees name) refl) in
    λ i. record closed { trees = same i }
  where
    tree_saved : (name : List ℕ) (o : Option Tree) → get (closed_of m).trees name ≡ o → option_map saved_tree o ≡ o
    tree_saved name None is = refl
    tree_saved name (Some t) is =
        let none = closed_has_none_pending m name t is in
        λ i. Some (record t { pending = sym none i })

last_behind : (m : State) (cs : List Command) → slice_get (m ∷ states_behind m cs) (length cs) ≡ Some (fold state_behind m cs)
unfolding states_behind
last_behind m [] = refl
last_behind m (c ∷ cs) = last_behind (state_behind m c) cs

-- and is the last one of a close
pub closed_last : (m : State) → slice_get (states_of_run m [] []) (length (closing_saves m)) ≡ Some (closed_of m)
unfolding states_of_run closed_of
closed_last m = last_behind m (closing_saves m)
