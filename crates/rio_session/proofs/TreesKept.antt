-- The trees of a file are the same with one class more.
use Rattle.std.proofs.Common.{◌≡◌, ◌∙◌, inl, inr, List, [], ◌∷◌, ◌++◌, Some, refl, sym, ap, subst}
use Rattle.std.specs.{List.{cons_option}, Option.{option_map}, Prelude.{is_some}}
use Rattle.rio_format.specs.{declared.class.ClassDef.{ClassDef}, Growth.{PicksStay}}
use Rattle.rio_machine.specs.State.{State}
use Rattle.rio_tree.specs.declared.head.TreeHead.{TreeHead}
use Rattle.rio_state.specs.{Contents.{HasStateClasses, IsStateList, file_classes, state_classes}, KeyedRecords.{KeyedRecord, info_key, top_keys, tree_records}, Reads.{AreRecordsOf}, Trees.{all_places_named, header_in, tree_of, trees_beside}}
use Rattle.rio_state.proofs.{Members.{In, all_at}, TreesSame.{holds_tree}}
use Rattle.rio_effect.proofs.{ClassEffect.{appended, described_longer}, TreesGrow.{LeavesTrees, all_places_grow, header_stays, one_class_more}}
use Rattle.rio_recover.specs.{Trees.{AreTreesOf, trees_at}, declared.trees.TreeAt.{TreeAt}}
use Rattle.rio_session.proofs.TreesOfFile.{trees_still}

module _ (old new : List KeyedRecord) (m n : State) (class : ClassDef) (r : KeyedRecord) (is : AreRecordsOf old m) (then : AreRecordsOf new n) (grown : n.classes ≡ m.classes ++ class ∷ []) (info : info_key new ≡ Some r)
    (same : tree_records (top_keys new) ≡ tree_records (top_keys old)) where
  abbrev headers : List KeyedRecord
  headers = tree_records (top_keys old)

  list : IsStateList r (m.classes ++ class ∷ [])
  list =
      let own : IsStateList r (state_classes (Some r)) = subst HasStateClasses info then.stand.listed in
      subst (IsStateList r) (sym (then.stand.classes ∙ ap state_classes info) ∙ grown) own

  longer : (file_classes (Some r)).declared ≡ (file_classes (info_key old)).declared ++ class ∷ []
  longer = appended old new (info_key old) r (top_keys old) m class is.stand list

  picks : PicksStay (file_classes (info_key old)).described (file_classes (Some r)).described
  picks = described_longer old new (info_key old) r (top_keys old) m class is.stand list (info_key old) is.stand.listed longer

  more : LeavesTrees (file_classes (info_key old)).declared (file_classes (Some r)).declared
  more = one_class_more (file_classes (info_key old)).declared (file_classes (Some r)).declared class longer

  -- the headers name the same baskets
  pub places_same : all_places_named (file_classes (Some r)) (tree_records (top_keys old)) ≡ all_places_named (file_classes (info_key old)) (tree_records (top_keys old))
  places_same = all_places_grow (file_classes (info_key old)) (file_classes (Some r)) more picks old headers is.stand.tree_readable

  -- each header says the same
  pub header_same : (s : KeyedRecord) → In s (tree_records (top_keys old)) → header_in (file_classes (Some r)) s ≡ header_in (file_classes (info_key old)) s
  header_same s i =
      let h = holds_tree (trees_beside (info_key old) old (top_keys old)) s (all_at (λ t. is_some (tree_of (trees_beside (info_key old) old (top_keys old)) t)) s headers is.stand.tree_readable i) in
      header_stays (file_classes (info_key old)) (file_classes (Some r)) more picks s h.head h.header ∙ sym h.header

  all_same : (ss : List KeyedRecord) → ((s : KeyedRecord) → In s ss → In s headers) → trees_at (file_classes (Some r)) ss ≡ trees_at (file_classes (info_key old)) ss
  all_same [] within = refl
  all_same (s ∷ ss) within =
      let one = header_same s (within s (inl refl)) in
      let rest = all_same ss (λ t i. within t (inr i)) in
      λ j. cons_option (option_map (λ (head : TreeHead). let t : TreeAt = record { name = s.head.name; head = head } in t) (one j)) (rest j)

  pub trees_with_class : (trees : List TreeAt) → AreTreesOf old trees → AreTreesOf new trees
  trees_with_class trees are = trees_still old new trees ((λ i. trees_at (file_classes (info i)) (same i)) ∙ all_same headers (λ s i. i)) are
