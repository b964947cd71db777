-- A save takes effect with its header.
use Rattle.std.proofs.Common.{◌≡◌, inl, ℕ, ◌+◌, ◌<◌, ◌≤◌, ◌∙◌, List, [], ◌∷◌, ◌++◌, length, map, take, Bool, true, false, not, ◌==◌, nat_lt, Option, refl, sym, ap, subst, arith}
use Rattle.std.proofs.lemmas.{Bool.{and_parts, and_right, eqb-true, ltb-false, ltb-true}, List.{length-append, take-append-le, Sums.{fold-append}}}
use Rattle.std.proofs.Math.Seq.{take-append-add, take-append_seam}
use Rattle.std.specs.{FinMap.{insert}, Option.{option_map_or}}
use Rattle.rio_key.specs.declared.head.KeyHead.{KeyHead}
use Rattle.rio_chain.specs.{Changes.{with_record}, Placing.{IsPlaceFor, place_of}, Segments.{IsChain, Link, segment_of}, declared.key_words.KeyWords.{KeyWords}}
use Rattle.rio_machine.specs.{State.{State, Tree}, declared.command.Command.TheVariants.{Save}}
use Rattle.rio_tree.specs.{declared.head.TreeHead.{TreeHead}}
use Rattle.rio_state.specs.{Contents.{file_classes}, KeyedRecords.{KeyedRecord, begins_at, is_outdated, is_tree_key, is_tree_record, is_top_key, keyed_records, top_keys}, OneLess.{links_without}, OneMore.{keyed_bytes}, Reads.{AreRecordsOf}, Trees.{header_in, saved_tree}}
use Rattle.rio_state.proofs.{Members.{none_from}, MoreRecords.{record_more}}
use Rattle.rio_step.specs.{Refusing.{rows_of_tree}, Runs.{saved_of, saved_tree as tree_without_pending}, Step.{state_behind, tree_saved}}
use Rattle.rio_effect.specs.{BasketRuns.{AreBasketsPut}, Changes.{Change, added_length, all_changed, changed, released}, Garbage.{ArePassed}, Headers.{with_saved_tree}, NextHeaders.{IsReplaced}, TreeDeletes.{HasHeader}}
use Rattle.rio_effect.specs.Saves.{CanBeSaved, SaveChanges, SaveEffect, SaveTakesEffect, links_put, next_cycle_of, next_head, next_key, next_place, save_baskets}
use Rattle.rio_effect.specs.{TreeChanges.{FileRecords, changes_by_header, changes_of_save, header_added, header_of, open_of_tree}, TreeRecords.{header_data, header_key, header_record, header_words}}
use Rattle.rio_effect.proofs.{BasketRuns.{baskets_are_put, baskets_keep_all}, FileChanges.{same_length}, Garbage.{garbage_is_released}, HeaderStands.{header_takes_effect}, NextHeaders.{outdated, there}, OldLists.{place_apart}, OutdatedHeaders.{outdated_header_goes}}
use Rattle.rio_effect.proofs.{SavedHeader.{cycle_is, defs_then, h, head_is, key_cycle, key_name, name_is, next_header, r_is, records_then}, SavedTrees.{saved_with}}

module _ (datime : ℕ) (file : List ℕ) (now : FileRecords) (m : State) (name : List ℕ) (t : Tree) (can : CanBeSaved datime file now m name t) where
  abbrev r : KeyedRecord
  r = can.kept.r

  abbrev head : TreeHead
  head = can.kept.head

  abbrev said : TreeHead
  said = next_head datime now m name t can.kept

  abbrev cycle : ℕ
  cycle = next_cycle_of datime now m name t can.kept

  abbrev place : ℕ
  place = next_place datime now m name t can.kept

  abbrev key : KeyHead
  key = next_key datime now m name t can.kept

  abbrev bytes : List ℕ
  bytes = header_record place datime name cycle said

  abbrev x : KeyedRecord
  x = keyed_bytes key bytes

  -- ---- the changes

  abbrev baskets : List Change
  baskets = save_baskets datime now m name t

  abbrev header : Change
  header = header_added datime name cycle said

  abbrev pub all : List Change
  all = baskets ++ header ∷ released r.head.seek ∷ []

  pub changes : changes_of_save datime now m name t ≡ all
  changes =
      ap (λ (o : Option KeyedRecord). option_map_or (λ s. option_map_or (changes_by_header datime now m name t s) (header_of now.links s) []) o []) can.kept.record_is
      ∙ ap (λ (o : Option TreeHead). option_map_or (changes_by_header datime now m name t r) o []) can.kept.head_is

  -- ---- the links between

  abbrev put : List Link
  put = links_put datime now m name t

  abbrev pub with_header : List Link
  with_header = with_record place bytes put

  abbrev pub ended : List Link
  ended = links_without with_header r

  header_put : changed put header ≡ with_header
  unfolding header_record
  header_put = refl

  at_seam : all_changed now.links (take (length baskets) all) ≡ put
  at_seam = ap (all_changed now.links) (take-append_seam baskets (header ∷ released r.head.seek ∷ []))

  at_header : all_changed now.links (take (length baskets + 1) all) ≡ with_header
  at_header = ap (all_changed now.links) (take-append-add baskets (header ∷ released r.head.seek ∷ []) 1) ∙ fold-append changed now.links baskets (header ∷ []) ∙ header_put

  pub at_end : all_changed now.links all ≡ ended
  at_end = fold-append changed now.links baskets (header ∷ released r.head.seek ∷ []) ∙ ap (λ (l : List Link). changed l (released r.head.seek)) header_put

  at_last : all_changed now.links (take (length baskets + 2) all) ≡ ended
  at_last = ap (all_changed now.links) (take-append-add baskets (header ∷ released r.head.seek ∷ []) 2) ∙ at_end

  abbrev pub IsPassed : ℕ → Type 0
  IsPassed k = ArePassed now.links all k

  pub chain_put : (k : ℕ) → length baskets < k → IsPassed k → (image : List ℕ) × IsChain put image
  chain_put k low passed = let p = passed (length baskets) low in (p.0, subst (λ (l : List Link). IsChain l p.0) at_seam p.1)

  pub chain_header : (k : ℕ) → length baskets + 1 < k → IsPassed k → (image : List ℕ) × IsChain with_header image
  chain_header k low passed = let p = passed (length baskets + 1) low in (p.0, subst (λ (l : List Link). IsChain l p.0) at_header p.1)

  passed_before : (k n : ℕ) → n ≤ length baskets → n ≤ k → IsPassed k → ArePassed now.links baskets n
  passed_before k n within low passed j less =
      let p = passed j (omega (arith, less, low)) in
      (p.0, subst (λ (cs : List Change). IsChain (all_changed now.links cs) p.0) (take-append-le j baskets (header ∷ released r.head.seek ∷ []) (omega (arith, less, within))) p.1)

  pub baskets_put : (k : ℕ) → length baskets ≤ k → IsPassed k → AreBasketsPut datime name (length (rows_of_tree t)) now.links t.branches (open_of_tree m t)
  baskets_put k low passed = baskets_are_put datime name (length (rows_of_tree t)) now.links t.branches (open_of_tree m t) can.put (passed_before k (length baskets) (omega arith) low passed)

  -- ---- the state

  abbrev behind : State
  behind = record m { trees = insert m.trees name (tree_saved t) }

  pub behind_is : state_behind m (Save name) ≡ behind
  behind_is = ap (λ (o : Option Tree). option_map_or (λ s. record m { trees = insert m.trees name (tree_saved s) }) o m) can.tree

  early : (k : ℕ) → k ≤ length baskets → IsPassed k → AreRecordsOf (keyed_records (all_changed now.links (take k all))) (saved_of m)
  early k within passed =
      let alike = baskets_keep_all datime name now.links t.branches (open_of_tree m t) k can.put within (passed_before k k within (omega arith) passed) in
      subst (λ (cs : List Change). AreRecordsOf (keyed_records (all_changed now.links cs)) (saved_of m)) (sym (take-append-le k baskets (header ∷ released r.head.seek ∷ []) within)) (alike.records (saved_of m) can.records)

  -- where the baskets are put
  module _ (image : List ℕ) (chain : IsChain put image) (are : AreBasketsPut datime name (length (rows_of_tree t)) now.links t.branches (open_of_tree m t)) where
    key_seek : key.seek ≡ place
    unfolding header_key
    key_seek = refl

    abbrev words : KeyWords
    words = header_words 0 datime name cycle

    bytes_long : length bytes ≡ added_length words (header_data words name said)
    unfolding header_record
    bytes_long = same_length place words (header_data words name said)

    pub at_rule : IsPlaceFor (map segment_of put) (length bytes) place
    at_rule = inl (ap (place_of (map segment_of put)) (sym bytes_long))

    free : begins_at (keyed_records put) key.seek ≡ false
    free = none_from (λ s. s.head.seek == key.seek) (keyed_records put) (λ s i e. place_apart image place (length bytes) s put chain at_rule i (eqb-true s.head.seek key.seek e ∙ key_seek))

    -- the state with the tree of the header is the one after the save
    state_is : with_saved_tree (saved_of m) x said (t.saved ++ t.pending) ≡ saved_of behind
    state_is =
        let cycle_then : key.cycle ≡ t.cycle + 1 = key_cycle datime file now m name t can image chain are ∙ ap (λ (n : ℕ). n + 1) (cycle_is datime file now m name t can image chain are) in
        let defs = defs_then datime file now m name t can image chain are in
        let named = key_name datime file now m name t can image chain are in
        let tree : saved_tree x said (t.saved ++ t.pending) ≡ tree_without_pending (tree_saved t) = λ i. record { cycle = cycle_then i; branches = defs i; saved = t.saved ++ t.pending; pending = [] } in
        (λ i. record (saved_of m) { trees = insert (saved_of m).trees (named i) (tree i) }) ∙ sym (saved_with m name (tree_saved t))

    pub records_with : AreRecordsOf (keyed_records with_header) (saved_of behind)
    records_with =
        subst (λ (s : State). AreRecordsOf (keyed_records with_header) s) state_is
        (header_takes_effect (keyed_records put) (keyed_records with_header) x said (t.saved ++ t.pending) (saved_of m) (record_more put place bytes key can.written.read) free
        (next_header datime file now m name t can image chain are) (records_then datime file now m name t can image chain are))

    pub has_before : HasHeader image put r head
    has_before =
        let record_is = r_is datime file now m name t can image chain are in
        let same = head_is datime file now m name t can image chain are in
        subst (λ (p : KeyedRecord × TreeHead). HasHeader image put p.0 p.1) (λ i. (record_is i, same i)) (h datime file now m name t can image chain are).has

    module _ (other : List ℕ) (chain_then : IsChain with_header other) where
      pub replaced_by : IsReplaced image other put (saved_of m) r head place bytes key said
      replaced_by = record {
        has = has_before;
        records = records_then datime file now m name t can image chain are;
        later = record {
          read = can.written.read;
          top = can.written.top;
          tree = can.written.tree;
          name = key_name datime file now m name t can image chain are ∙ sym (name_is datime file now m name t can image chain are);
          later = omega (arith, key_cycle datime file now m name t can image chain are);
          header = ap (λ (o : Option KeyedRecord). header_in (file_classes o) x) are.alike.info ∙ can.written.header;
        };
        chain = chain_then;
      }

      pub records_ended : AreRecordsOf (keyed_records ended) (saved_of behind)
      records_ended =
          let is = there image other put (saved_of m) r head place bytes key said replaced_by in
          let old = outdated image other put (saved_of m) r head place bytes key said replaced_by in
          let item = and_parts (is_top_key r.head) (is_tree_record (top_keys (keyed_records put)) r) has_before.tree in
          let tree = (and_parts (is_tree_key r.head) (not (is_outdated (top_keys (keyed_records put)) r)) item.1).0 in
          let unreferred = outdated_header_goes other with_header (saved_of behind) r chain_then records_with is.among item.0 tree (and_right (is_tree_key r.head) (not (is_outdated (top_keys (keyed_records with_header)) r)) (ap not old)) in
          (garbage_is_released other with_header r.head.seek chain_then (record { r = r; among = is.among; seek = refl; free = unreferred })).same.alike.records (saved_of behind) records_with

  late : (k : ℕ) → length baskets < k → k ≤ length all → IsPassed k → AreRecordsOf (keyed_records (all_changed now.links (take k all))) (saved_of (state_behind m (Save name)))
  late k low high passed = by (nat_lt (length baskets + 1) k) refl
    where
      long : length all ≡ length baskets + 2
      long = length-append baskets (header ∷ released r.head.seek ∷ [])

      state : AreRecordsOf (keyed_records (all_changed now.links (take k all))) (saved_of behind) → AreRecordsOf (keyed_records (all_changed now.links (take k all))) (saved_of (state_behind m (Save name)))
      state is = subst (λ (s : State). AreRecordsOf (keyed_records (all_changed now.links (take k all))) (saved_of s)) (sym behind_is) is

      by : (b : Bool) → nat_lt (length baskets + 1) k ≡ b → AreRecordsOf (keyed_records (all_changed now.links (take k all))) (saved_of (state_behind m (Save name)))
      by true e =
          let later : length baskets + 1 < k = ltb-true _ _ e in
          let last : length baskets + 2 ≡ k = omega (arith, later, high, long) in
          let within : length baskets ≤ k = omega (arith, low) in
          let one = chain_put k low passed in
          let two = chain_header k later passed in
          state (subst (λ (n : ℕ). AreRecordsOf (keyed_records (all_changed now.links (take n all))) (saved_of behind)) last
          (subst (λ (l : List Link). AreRecordsOf (keyed_records l) (saved_of behind)) (sym at_last) (records_ended one.0 one.1 (baskets_put k within passed) two.0 two.1)))
      by false e =
          let next : length baskets + 1 ≡ k = omega (arith, ltb-false _ _ e, low) in
          let within : length baskets ≤ k = omega (arith, low) in
          let one = chain_put k low passed in
          state (subst (λ (n : ℕ). AreRecordsOf (keyed_records (all_changed now.links (take n all))) (saved_of behind)) next
          (subst (λ (l : List Link). AreRecordsOf (keyed_records l) (saved_of behind)) (sym at_header) (records_with one.0 one.1 (baskets_put k within passed))))

  abbrev EarlyBy : List Change → Type 0
  EarlyBy cs = (k : ℕ) → k ≤ length baskets → ArePassed now.links cs k → AreRecordsOf (keyed_records (all_changed now.links (take k cs))) (saved_of m)

  abbrev LateBy : List Change → Type 0
  LateBy cs = (k : ℕ) → length baskets < k → k ≤ length cs → ArePassed now.links cs k → AreRecordsOf (keyed_records (all_changed now.links (take k cs))) (saved_of (state_behind m (Save name)))

  pub effect : SaveEffect datime now m name t
  effect = record { early = subst EarlyBy (sym changes) early; late = subst LateBy (sym changes) late }

pub save_changes : SaveChanges
save_changes datime file now m name t can = changes datime file now m name t can

pub save_takes_effect : SaveTakesEffect
save_takes_effect datime file now m name t can = effect datime file now m name t can
