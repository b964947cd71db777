-- A fill is the step of its command.
use Rattle.std.proofs.Common.{◌≡◌, ◌∙◌, ◌==◌, ℕ, ◌+◌, ◌*◌, List, ◌++◌, length, Bool, true, false, Option, Some, None, refl, sym, ap, subst, arith}
use Rattle.std.proofs.lemmas.List.{length-append, length-map}
use Rattle.std.specs.{Prelude.{if◌then◌else◌, is_some, unwrap_or}, FinMap.{get}, List.{find, sum_by}, Option.{option_map_or}}
use Rattle.rio_leaf.specs.declared.branch.BranchDef.{BranchDef}
use Rattle.rio_tree_table.specs.declared.table.KeptTree.{KeptTree}
use Rattle.rio_machine.specs.{Rows.{entries_of}, State.{Row, State, Tree}, declared.command.Command.TheVariants.{Fill}, declared.refusal.Refusal.{Refusal}}
use Rattle.rio_state.specs.Closing.{is_full}
use Rattle.rio_fill.specs.Fill.{BranchFill, defs_of, entry_count}
use Rattle.rio_step.specs.{Costs.{accepted_cost, cost_of, fill_cost}, Refusing.{fill_row, refusal_of, rows_of_tree}, ReplyText.{text_of}, Step.{no_tree, reply_to, row_added, row_reply, state_behind}}
use Rattle.rio_recover.specs.Closable.{list_count}
use Rattle.rio_session.specs.{Effects.{IsChangeOf}, Fillings.{BasketsPut, Done, filling, filling_with, full_list, nothing_done, put_open}, Fills.{FilledTree, is_tree_of}}
use Rattle.rio_session.specs.{Items.{IsOfKeys}, Kept.{kept_by}, Marks.{command_lengths, state_need}, SessionState.{SessionState}, TreeWorks.{doing}}
use Rattle.rio_session.proofs.{BasketsPlaced.{defs_put, puts_are}, FilledTrees.{IsFilledOf}, FillStands.{fill_stands}, FullCommands.{free_still}}

module _ (s : SessionState) (m : State) (keys : IsOfKeys s m) (name : List ℕ) (t : FilledTree) (x : Tree) (is : IsFilledOf s m name t x) (row : Row) (entries : List (List ℕ))
    (made : entries_of m.classes (defs_of t.fill.branches) (fill_row m row) ≡ entries) where
  pub filling_one : filling s m name row ≡ filling_with s name entries t.fill
  filling_one =
      ap (λ (o : Option FilledTree). option_map_or (λ (u : FilledTree). filling_with s name (entries_of m.classes (defs_of u.fill.branches) (fill_row m row)) u.fill) o (nothing_done s)) is.found
      ∙ ap (λ (es : List (List ℕ)). filling_with s name es t.fill) made

  abbrev put : BasketsPut
  put = put_open s.datime name (entry_count t.fill) s.segments t.fill.branches (full_list t.fill.branches entries)

  pub fill_stands_by : IsOfKeys (kept_by s m (Fill name row)) (state_behind m (Fill name row))
  fill_stands_by =
      let flags = full_list t.fill.branches entries in
      let defs = defs_put (entry_count t.fill) t.fill.branches flags put.branches (puts_are s.datime name (entry_count t.fill) s.segments t.fill.branches flags) in
      subst (λ (d : Done). IsOfKeys d.kept (state_behind m (Fill name row))) (sym filling_one) (fill_stands s m keys name t x is row put.branches defs entries put.segments)

  defs : defs_of t.fill.branches ≡ x.branches
  defs = ap (λ (k : KeptTree). k.branches) is.kept

  -- what is printed
  reply_is : reply_to m (Fill name row) ≡ row_added name (t.fill.saved + t.fill.pending)
  reply_is =
      let rows : length (x.saved ++ x.pending) ≡ t.fill.saved + t.fill.pending =
      omega (arith, length-append x.saved x.pending, ap (λ (k : KeptTree). k.saved) is.kept, ap (λ (k : KeptTree). k.pending) is.kept) in
      ap (λ (o : Option Tree). row_reply name (unwrap_or o no_tree)) is.there ∙ ap (row_added name) rows

  -- what it costs
  abbrev pub row_cost : ℕ
  row_cost = sum_by (λ entry. 2 * length entry + 5) entries + (if t.fill.pending == 0 then 330 * length t.fill.branches else 0)

  pub fill_cost_is : refusal_of m (Fill name row) None ≡ None → sum_by (λ entry. 2 * length entry + 5) entries + (if t.fill.pending == 0 then 330 * length t.fill.branches else 0) ≡ cost_of m (Fill name row)
  unfolding cost_of
  fill_cost_is free =
      let its : entries ≡ entries_of m.classes x.branches (fill_row m row) = sym made ∙ ap (λ (ds : List BranchDef). entries_of m.classes ds (fill_row m row)) defs in
      let wide : length t.fill.branches ≡ length x.branches = sym (length-map t.fill.branches (λ (b : BranchFill). b.def)) ∙ ap length defs in
      let pending : t.fill.pending ≡ length x.pending = ap (λ (k : KeptTree). k.pending) is.kept in
      (λ i. sum_by (λ entry. 2 * length entry + 5) (its i) + (if pending i == 0 then 330 * wide i else 0))
      ∙ sym (ap (λ (o : Option Refusal). if is_some o then 0 else accepted_cost m (Fill name row)) free ∙ ap (λ (o : Option Tree). option_map_or (fill_cost m row) o 0) is.there)

  pub fill_lengths_are : command_lengths s m (Fill name row) ≡ (filling_with s name entries t.fill).lengths
  unfolding command_lengths
  fill_lengths_are = ap (λ (d : Done). d.lengths) filling_one

  pub fill_need_is : state_need s.name (list_count s.info) (filling s m name row).kept.trees (state_behind m (Fill name row)) ≡ state_need s.name (list_count s.info) (filling_with s name entries t.fill).kept.trees (state_behind m (Fill name row))
  fill_need_is = ap (λ (d : Done). state_need s.name (list_count s.info) d.kept.trees (state_behind m (Fill name row))) filling_one

  pub fill_is_change : (text : List ℕ) (cost need : ℕ) → refusal_of m (Fill name row) None ≡ None
      → state_need s.name (list_count s.info) (filling_with s name entries t.fill).kept.trees (state_behind m (Fill name row)) ≡ need
      → is_full s.segments (filling_with s name entries t.fill).lengths need ≡ false → text ≡ text_of (row_added name (t.fill.saved + t.fill.pending))
      → cost ≡ sum_by (λ entry. 2 * length entry + 5) entries + (if t.fill.pending == 0 then 330 * length t.fill.branches else 0)
      → IsChangeOf (doing (filling_with s name entries t.fill) text cost) s m (Fill name row)
  fill_is_change text cost need free needed room text_is costs = record {
    free = free_still s m (Fill name row) (filling_with s name entries t.fill).lengths need fill_lengths_are (fill_need_is ∙ needed) free room;
    changes = ap (λ (d : Done). d.changes) (sym filling_one);
    kept = ap (λ (d : Done). d.kept) (sym filling_one);
    text = text_is ∙ ap text_of (sym reply_is);
    cost = costs ∙ fill_cost_is free;
    stands = fill_stands_by;
  }
