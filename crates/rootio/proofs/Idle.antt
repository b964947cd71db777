-- When a file is opened no row of its trees is pending.
use Rattle.std.proofs.Common.{◌≡◌, ◌∙◌, ◌==◌, inl, inr, ℕ, List, [], ◌∷◌, length, map, cond, not, Option, Some, None, refl, sym, ap}
use Rattle.std.proofs.lemmas.Option.{same_Some}
use Rattle.std.specs.{Prelude.{if◌then◌else◌}, FinMap.{get}, List.{filter, find}, Option.{option_map, option_map_or}}
use Rattle.rio_machine.specs.{State.{State, Tree}, declared.command.Command.{Command}}
use Rattle.rio_state.proofs.Members.{In}
use Rattle.rio_tree_table.specs.declared.table.KeptTree.{KeptTree}
use Rattle.rio_step.proofs.ClosedLaws.{saved_keeps_the_rest}
use Rattle.rio_step.specs.Runs.{closing_saves, saved_of, saved_tree, state_after}
use Rattle.rio_effect.specs.FileRuns.{FileRecords, file_run, records_behind, saved_records}
use Rattle.rio_session.specs.{Fillings.{has_pending_rows}, Fills.{FilledTree, is_tree_of, put_baskets, put_in, put_of}, Session.{HoldsState, file_records}, SessionState.{SessionState}}
use Rattle.rio_session.proofs.{ClosingNames.{closing_names}, ClosingStages.{saves_of}, FillLists.{ordered_of, own_found}, FilledTrees.{tree_of_fill}}
use Rattle.rootio.specs.Writing.{closed_records, without_pending}

-- none of these trees has pending rows
none_due : (trees : List FilledTree) → ((t : FilledTree) → In t trees → t.fill.pending ≡ 0) → filter has_pending_rows trees ≡ []
none_due [] idle = refl
none_due (t ∷ trees) idle =
    ap (λ (n : ℕ). cond (not (n == 0)) (t ∷ filter has_pending_rows trees) (filter has_pending_rows trees)) (idle t (inl refl))
    ∙ none_due trees (λ u among. idle u (inr among))

module _ (s : SessionState) (m : State) (file : List ℕ) (h : HoldsState s m file) (saved : saved_of m ≡ m) where
  tree_idle : (name : List ℕ) (t : FilledTree) → find (is_tree_of name) s.trees ≡ Some t → t.fill.pending ≡ 0
  tree_idle name t found =
      let own = tree_of_fill s m h.stands name t found in
      let still : Some own.0 ≡ Some (saved_tree own.0) =
      sym own.1.there ∙ ap (λ (n : State). get n.trees name) (sym saved) ∙ saved_keeps_the_rest m name ∙ ap (option_map saved_tree) own.1.there in
      let same : own.0 ≡ saved_tree own.0 = same_Some own.0 (saved_tree own.0) still in
      ap (λ (k : KeptTree). k.pending) own.1.kept ∙ ap (λ (y : Tree). length y.pending) same

  none_put : (name : List ℕ) → put_in s.trees name ≡ []
  none_put name = by (find (is_tree_of name) s.trees) refl
    where
      by : (o : Option FilledTree) → find (is_tree_of name) s.trees ≡ o → option_map_or (λ t. put_of t.fill) o [] ≡ []
      by None is = refl
      by (Some t) is = ap (λ (n : ℕ). if n == 0 then [] else map (put_baskets t.fill.saved) t.fill.branches) (tree_idle name t is)

  -- no record is a basket of pending rows
  pub records_idle : file_records s h.links ≡ without_pending h.links
  records_idle = λ i. record { links = h.links; put = λ name. none_put name i }

  -- and a close saves no tree
  pub none_saved : closing_saves m ≡ []
  none_saved =
      let ordered = ordered_of s.trees h.trees.ordered in
      let none = none_due s.trees (λ t among. tree_idle t.name t (own_found t s.trees ordered among)) in
      sym (closing_names s m h.stands) ∙ ap (λ (trees : List FilledTree). saves_of (map (λ t. t.name) trees)) none

-- where nothing is saved a run of no command leaves the records as they are
pub nothing_left : (datime : ℕ) (now : FileRecords) (m : State) → closing_saves m ≡ [] → closed_records datime now m [] ≡ now.links
unfolding file_run state_after saved_records
nothing_left datime now m none = ap (λ (saves : List Command). (records_behind datime now m saves).links) none
