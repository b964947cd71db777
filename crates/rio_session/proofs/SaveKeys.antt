-- The tree of a save: its key, its header and its open baskets, as they are kept and as the file has them.
use Rattle.std.proofs.Common.{◌≡◌, ℕ, ◌+◌, List, [], ◌∷◌, ◌++◌, length, not, ◌==◌, Option, Some, None, refl, sym, ap, subst, ◌∙◌, Bool, false, arith}
use Rattle.std.proofs.lemmas.{Bool.{ne_eqb}, List.{length-append}, Option.{same_Some}}
use Rattle.std.specs.{FinMap.{get}, List.{find}, Option.{option_map, option_map_or}}
use Rattle.rio_key.specs.declared.head.KeyHead.{KeyHead}
use Rattle.rio_dir.specs.Table.{head_of, is_at_cycle}
use Rattle.rio_machine.specs.State.{NameAndCycle, State, Tree}
use Rattle.rio_tree.specs.declared.head.TreeHead.{TreeHead}
use Rattle.rio_tree_table.specs.declared.table.KeptTree.{KeptTree}
use Rattle.rio_fill.specs.Fill.{BranchFill, defs_of, entry_count}
use Rattle.rio_state.specs.{Contents.{file_classes}, KeyedRecords.{KeyedRecord, info_key, keyed_records, object_records, top_keys, tree_records}, Trees.{header_in}}
use Rattle.rio_state.proofs.{KeysFollow.{items_in}, Members.{In, in_map, in_right}}
use Rattle.rio_step.specs.{Refusing.{rows_of_tree}, Runs.{saved_of}}
use Rattle.rio_judge.proofs.KeysOfState.{first_is_found}
use Rattle.rio_effect.specs.{TreeChanges.{open_of_tree}, TreeCommands.{KeepsTree}, TreeDeletes.{HasHeader}}
use Rattle.rio_effect.proofs.{DeleteEffect.{head_found}, FillNeeds.{HeaderOfTree, header_of_tree}}
use Rattle.rio_recover.specs.{TreeTable.{has_name}, declared.trees.TreeAt.{TreeAt}}
use Rattle.rio_session.specs.{Fillings.{open_list}, Fills.{FilledTree, header_of, is_tree_of, put_of, tree_at_of}, Session.{file_records}, SessionState.{SessionState, headers_of}}
use Rattle.rio_session.proofs.StandsOn.{StandsOn}
use Rattle.rio_session.proofs.{ChangesAlike.{flagged_entries}, CutFills.{opened}, FillLists.{header_found}, SaveStands.{cycle_is, named}, TreesGone.{own_tree}}

-- all open baskets are put that have entries, so of the others nothing
pub all_flagged : (bs : List BranchFill) → flagged_entries bs (open_list bs) ≡ opened bs
all_flagged [] = refl
all_flagged (b ∷ bs) = by b.entries (all_flagged bs)
  where
    by : (es : List (List ℕ)) → flagged_entries bs (open_list bs) ≡ opened bs → flagged_entries (record b { entries = es } ∷ bs) (not (length es == 0) ∷ open_list bs) ≡ es ∷ opened bs
    by [] later = ap (λ (l : List (List (List ℕ))). [] ∷ l) later
    by (e ∷ es) later =
        let some : (length (e ∷ es) == 0) ≡ false = ne_eqb (length (e ∷ es)) 0 (λ same. omega (arith, same)) in
        ap (λ (t : Bool). flagged_entries (record b { entries = e ∷ es } ∷ bs) (not t ∷ open_list bs)) some ∙ ap (λ (l : List (List (List ℕ))). (e ∷ es) ∷ l) later

module _ (s : SessionState) (m : State) (file : List ℕ) (h : StandsOn s m file) (k : KeyHead) (t : FilledTree) (found : find (is_tree_of k.name) s.trees ≡ Some t) (first : head_of k.name None s.heads ≡ Some k) where
  abbrev pub x : Tree
  x = (named s m k h.stands t found first).tree

  pub there : get m.trees k.name ≡ Some (named s m k h.stands t found first).tree
  there = (named s m k h.stands t found first).there

  -- what is kept is of the state's tree
  pub defs_are : defs_of t.fill.branches ≡ (named s m k h.stands t found first).tree.branches
  defs_are = ap (λ (u : KeptTree). u.branches) (sym (named s m k h.stands t found first).kept)

  pub rows_are : entry_count t.fill ≡ length (rows_of_tree (named s m k h.stands t found first).tree)
  rows_are =
      let kept = (named s m k h.stands t found first).kept in
      (λ i. (sym kept i).saved + (sym kept i).pending) ∙ sym (length-append x.saved x.pending)

  pub saved_are : t.fill.saved ≡ length (named s m k h.stands t found first).tree.saved
  saved_are = ap (λ (u : KeptTree). u.saved) (sym (named s m k h.stands t found first).kept)

  pub pending_are : t.fill.pending ≡ length (named s m k h.stands t found first).tree.pending
  pending_are = ap (λ (u : KeptTree). u.pending) (sym (named s m k h.stands t found first).kept)

  pub opens_are : flagged_entries t.fill.branches (open_list t.fill.branches) ≡ open_of_tree m (named s m k h.stands t found first).tree
  opens_are = all_flagged t.fill.branches ∙ h.opens k.name t x found there

  pub put_is : (file_records s h.links).put k.name ≡ put_of t.fill
  put_is = ap (λ (o : Option FilledTree). option_map_or (λ u. put_of u.fill) o []) found

  -- ---- the header in the file

  pub keeps : KeepsTree (file_records s h.links) m k.name (named s m k h.stands t found first).tree
  keeps = h.rows k.name x there

  pub under : HeaderOfTree file h.links m k.name (named s m k h.stands t found first).tree
  under = header_of_tree file h.links m k.name x h.chain.chain h.records h.items there

  pub record_is : under.under.r ≡ keeps.r
  record_is = same_Some under.under.r keeps.r (sym under.under.counts ∙ keeps.record_is)

  pub said_is : under.under.held.head ≡ keeps.head
  said_is =
      let same = record_is in
      same_Some under.under.held.head keeps.head (sym under.under.held.header ∙ ap (header_in (file_classes (info_key (keyed_records h.links)))) same ∙ keeps.head_is)

  pub has : HasHeader file h.links keeps.r keeps.head
  has =
      let one = record_is in
      let two = said_is in
      subst (λ (p : KeyedRecord × TreeHead). HasHeader file h.links p.0 p.1) (λ i. (one i, two i)) under.has

  pub name_is : keeps.r.head.name ≡ k.name
  name_is = ap (λ (r : KeyedRecord). r.head.name) (sym record_is) ∙ under.under.name_is

  own_cycle : keeps.r.head.cycle ≡ k.cycle
  own_cycle = ap (λ (r : KeyedRecord). r.head.cycle) (sym record_is) ∙ under.cycle ∙ cycle_is s m k h.stands t found first

  -- its key is the one that is kept
  pub key_is : keeps.r.head ≡ k
  key_is =
      let tops = top_keys (keyed_records h.links) in
      let among = subst (λ (r : KeyedRecord). In r (tree_records tops)) record_is under.under.among in
      let item = in_map (λ (r : KeyedRecord). r.head) keeps.r (object_records tops ++ tree_records tops) (in_right keeps.r (object_records tops) (tree_records tops) among) in
      let own = items_in (keyed_records h.links) s.heads h.keys keeps.r.head item in
      let name = name_is in
      let cycle = own_cycle in
      same_Some keeps.r.head k (
      sym (head_found keeps.r.head s.heads h.keys.ordered own)
      ∙ ap (λ (c : NameAndCycle). find (is_at_cycle c.0 c.1) s.heads) (λ i. (name i, cycle i))
      ∙ first_is_found k.name s.heads k first
      )

  -- and the header says what is kept
  pub head_is : keeps.head ≡ header_of t.fill
  head_is =
      let own = own_tree file h.links (saved_of m) keeps.r keeps.head (headers_of s) has h.records h.trees in
      let same = ap (λ (n : List ℕ). find (has_name n) (headers_of s)) (sym name_is) ∙ own in
      let one : ◌≡◌ {A = TreeAt} (record { name = keeps.r.head.name; head = keeps.head }) (tree_at_of t) =
      same_Some (record { name = keeps.r.head.name; head = keeps.head }) (tree_at_of t) (sym same ∙ header_found k.name s.trees ∙ ap (option_map tree_at_of) found) in
      ap (λ (u : TreeAt). u.head) one
