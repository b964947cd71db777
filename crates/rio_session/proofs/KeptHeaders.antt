-- The header that is kept of a tree says what the state's tree is.
use Rattle.std.proofs.Common.{◌≡◌, ◌∙◌, ℕ, List, length, map, Option, Some, sym, ap}
use Rattle.std.proofs.lemmas.Option.{same_Some}
use Rattle.std.specs.FinMap.{get}
use Rattle.rio_leaf.specs.declared.branch.BranchDef.{BranchDef}
use Rattle.rio_chain.specs.Segments.{IsChain, Link}
use Rattle.rio_machine.specs.State.{Row, State, Tree}
use Rattle.rio_tree.specs.{WrittenLaws.{stated_defs}, declared.head.TreeHead.{TreeHead}}
use Rattle.rio_state.specs.{Contents.{file_classes}, KeyedRecords.{KeyedRecord, info_key, keyed_records, record_at}, Reads.{AreRecordsOf}, Trees.{header_in, saved_rows}}
use Rattle.rio_step.specs.Runs.{saved_of}
use Rattle.rio_effect.specs.{AllItems.{AreAllItems}, TreeChanges.{FileRecords}, TreeCommands.{KeepsTree}}
use Rattle.rio_effect.proofs.{FillNeeds.{HeaderOfTree, header_of_tree}, SavedRows.{rows_long}}

module _ (file : List ℕ) (now : FileRecords) (m : State) (name : List ℕ) (t : Tree) (chain : IsChain now.links file) (records : AreRecordsOf (keyed_records now.links) (saved_of m)) (items : AreAllItems now.links)
    (there : get m.trees name ≡ Some t) (k : KeepsTree now m name t) where
  h : HeaderOfTree file now.links m name t
  h = header_of_tree file now.links m name t chain records items there

  r_is : h.under.r ≡ k.r
  r_is = same_Some h.under.r k.r (sym h.under.counts ∙ k.record_is)

  head_is : h.under.held.head ≡ k.head
  head_is = same_Some h.under.held.head k.head (sym h.under.held.header ∙ ap (λ (s : KeyedRecord). header_in (file_classes (info_key (keyed_records now.links))) s) r_is ∙ k.head_is)

  pub kept_defs : stated_defs k.head.branches ≡ t.branches
  kept_defs = ap (λ (x : TreeHead). stated_defs x.branches) (sym head_is) ∙ h.defs

  rows_are : saved_rows m.classes (record_at (keyed_records now.links)) k.head ≡ Some t.saved
  rows_are =
      let classes = h.classes in
      let same = head_is in
      (λ i. saved_rows (sym classes i) (record_at (keyed_records now.links)) (sym same i)) ∙ h.under.held.rows_are ∙ ap (λ (rows : List Row). let o : Option (List Row) = Some rows in o) h.saved

  -- as many entries are saved as rows
  pub kept_entries : length t.saved ≡ k.head.entries
  kept_entries = rows_long m.classes (record_at (keyed_records now.links)) k.head t.saved rows_are

  pub kept_name : k.r.head.name ≡ name
  kept_name = ap (λ (s : KeyedRecord). s.head.name) (sym r_is) ∙ h.under.name_is

  pub kept_cycle : k.r.head.cycle ≡ t.cycle
  kept_cycle = ap (λ (s : KeyedRecord). s.head.cycle) (sym r_is) ∙ h.cycle
