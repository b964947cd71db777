-- Trees are the same with one class more.
use Rattle.std.proofs.Common.{◌≡◌, ◌∙◌, inl, inr, ℕ, ◌+◌, codes, length, ◌==◌, List, [], ◌∷◌, ◌++◌, map, Bool, true, false, not, ◌&&◌, ◌||◌, Option, Some, None, Result, Ok, Err, refl, sym, ap}
use Rattle.std.proofs.lemmas.{Bool.{and_from, and_parts, not-false, not-true, or_parts}, List.Sums.{sum_by-cons}}
use Rattle.std.specs.{Prelude.{is_some, nat_lt, option_and_then}, List.{cons_option, list_all, list_any, range_with_len, sum_by}, Option.{option_map, option_map_or}, Result.{result_ok}, Str.{bytes_eq}}
use Rattle.rio_num.specs.{Reading.{some_if}, Room.{is_padding}}
use Rattle.rio_leaf.specs.{Stated.{are_stated_branches}, declared.branch.BranchDef.{BranchDef}, declared.branch.Shape.{Shape, TheVariants.{Leaves, Class}}}
use Rattle.rio_format.specs.{declared.class.ClassDef.{ClassDef}, CodeLaws.{coded_decides}, declared.value.Value.{Value}, Frames.{Step}, Growth.{PicksStay, is_all_read}, Objects.{first_at}}
use Rattle.rio_format.specs.contracts.value.Value as values
use Rattle.rio_format.proofs.GrowthLaws.{read_stays}
use Rattle.rio_model.specs.Declaring.{is_declared, shape_lacks_class}
use Rattle.rio_machine.specs.{Limits.{has_many_branches, head_length}, RowEntries.{row_in}, Rows.{entries_of, row_fits}, State.{Row}}
use Rattle.rio_machine.specs.declared.entry_fault.EntryFault.{EntryFault}
use Rattle.rio_entry.proofs.FittingRows.{fitting_row_stays}
use Rattle.rio_key.specs.Cut.{cut_of}
use Rattle.rio_step.proofs.{FitStays.{rows_more}, StorableLaws.{entries_same}}
use Rattle.rio_tree.specs.{Header.{tree_head_in}, HeaderLength.{basket_count, header_length}, WrittenLaws.{stated_defs}, WrittenTree.{tree_value_of}}
use Rattle.rio_tree.specs.{declared.fault.TreeFault.{TreeFault}, declared.head.TreeHead.{TreeHead}}
use Rattle.rio_state.specs.{Contents.{FileClasses}, KeyedRecords.{KeyedRecord, record_at, record_data}}
use Rattle.rio_machine.specs.RowEntries.{fitting_row}
use Rattle.rio_tree.specs.SavedEntries.{all_there, branch_entries, entries_at, rows_by, rows_of}
use Rattle.rio_state.specs.Trees.{RecordsAt, TreesBeside, all_places_named, are_named_once, basket_bytes, basket_places, can_be_branches, header_by, header_in, is_same_value, is_written_header, places_named, records_before, saved_rows, tree_of}
use Rattle.rio_state.specs.TreeLengths.{PendingRows, cut_count, cuts_of, entries_by_branch, open_baskets, put_among, put_count, tree_lengths, trees_among}
use Rattle.rio_state.proofs.{Members.{In, all_at, filter_in}, TreeGone.{tree_from}, TreesSame.{HoldsTree, holds_tree}}
use Rattle.rio_effect.proofs.HeaderRead.{header_all_read}

some_same : {A : Type 0} {a b : A} → Some a ≡ Some b → a ≡ b
some_same e = cc

-- ---- branches of known classes

module _ (classes : List ClassDef) (class : ClassDef) where
  abbrev more : List ClassDef
  more = classes ++ class ∷ []

  any_more : (p : ClassDef → Bool) (cs : List ClassDef) → list_any p cs ≡ true → list_any p (cs ++ class ∷ []) ≡ true
  any_more p [] e = absurd cc
  any_more p (c ∷ cs) e = by (p c) e (any_more p cs)
    where
      by : (b : Bool) → (b || list_any p cs) ≡ true → (list_any p cs ≡ true → list_any p (cs ++ class ∷ []) ≡ true) → (b || list_any p (cs ++ class ∷ [])) ≡ true
      by true f later = refl
      by false f later = later f

  shape_known : (s : Shape) → shape_lacks_class classes s ≡ false → shape_lacks_class more s ≡ false
  shape_known (Leaves leaves) e = refl
  shape_known (Class name) e = ap not (any_more (λ c. bytes_eq c.name name) classes (not-false (is_declared classes name) e))

  shapes_known : (bs : List BranchDef) → list_any (λ b. shape_lacks_class classes b.shape) bs ≡ false → list_any (λ b. shape_lacks_class more b.shape) bs ≡ false
  shapes_known [] e = refl
  shapes_known (b ∷ bs) e =
      let parts = or_parts (shape_lacks_class classes b.shape) (list_any (λ b. shape_lacks_class classes b.shape) bs) e in
      rw (shape_known b.shape parts.0, shapes_known bs parts.1) refl

  branches_known : (bs : List BranchDef) → can_be_branches classes bs ≡ true → can_be_branches more bs ≡ true
  branches_known bs e =
      let two = and_parts (are_stated_branches bs && not (has_many_branches bs)) (not (list_any (λ b. shape_lacks_class classes b.shape) bs)) e in
      and_from _ _ two.0 (ap not (shapes_known bs (not-true _ two.1)))

  -- ---- rows

  row_stays : (bs : List BranchDef) (entries : List (List ℕ)) (row : Row) → fitting_row classes bs entries ≡ Some row → fitting_row more bs entries ≡ Some row
  row_stays bs entries row e = by (row_in classes bs entries) refl e
    where
      by : (r : Result (List Value) EntryFault) → row_in classes bs entries ≡ r → option_and_then (λ x. some_if (row_fits classes bs x) x) (result_ok r) ≡ Some row → fitting_row more bs entries ≡ Some row
      by (Err fault) is e = absurd cc
      by (Ok read) is e = fit (row_fits classes bs read) refl e
        where
          fit : (b : Bool) → row_fits classes bs read ≡ b → some_if b read ≡ Some row → fitting_row more bs entries ≡ Some row
          fit false fits e = absurd cc
          fit true fits e =
              let still = (and_parts (row_fits more bs read) true (rows_more classes class bs (read ∷ []) (and_from _ _ fits refl))).0 in
              let again = fitting_row_stays classes class bs entries read fits is in
              let same = some_same e in
              rw (again, still) (ap Some same)

  module _ {A : Type 0} (f g : A → Option Row) (stays : (x : A) (row : Row) → f x ≡ Some row → g x ≡ Some row) where
    stays_behind : (x : A) (xs : List A) (rows : List Row) → ((ys : List Row) → all_there (map f xs) ≡ Some ys → all_there (map g xs) ≡ Some ys)
        → (row : Row) → f x ≡ Some row → (o : Option (List Row)) → all_there (map f xs) ≡ o → option_map (λ ys. row ∷ ys) o ≡ Some rows → all_there (map g (x ∷ xs)) ≡ Some rows
    stays_behind x xs rows others row is None there e = absurd cc
    stays_behind x xs rows others row is (Some ys) there e = rw (stays x row is, others ys there) e

    stays_first : (x : A) (xs : List A) (rows : List Row) → ((ys : List Row) → all_there (map f xs) ≡ Some ys → all_there (map g xs) ≡ Some ys)
        → (o : Option Row) → f x ≡ o → all_there (o ∷ map f xs) ≡ Some rows → all_there (map g (x ∷ xs)) ≡ Some rows
    stays_first x xs rows others None is e = absurd cc
    stays_first x xs rows others (Some row) is e = stays_behind x xs rows others row is (all_there (map f xs)) refl e

    all_stay : (xs : List A) (rows : List Row) → all_there (map f xs) ≡ Some rows → all_there (map g xs) ≡ Some rows
    all_stay [] rows e = e
    all_stay (x ∷ xs) rows e = stays_first x xs rows (λ ys there. all_stay xs ys there) (f x) refl e

  -- the saved rows of a header
  rows_stay : (at_place : RecordsAt) (head : TreeHead) (rows : List Row) → saved_rows classes at_place head ≡ Some rows → saved_rows more at_place head ≡ Some rows
  unfolding saved_rows rows_by
  rows_stay at_place head rows e = by (all_there (map (branch_entries (basket_bytes at_place)) head.branches)) e
    where
      by : (o : Option (List (List (List ℕ)))) → option_and_then (rows_of (fitting_row classes (stated_defs head.branches)) head.entries) o ≡ Some rows → option_and_then (rows_of (fitting_row more (stated_defs head.branches)) head.entries) o ≡ Some rows
      by None e = absurd cc
      by (Some entries) e =
          all_stay (λ n. fitting_row classes (stated_defs head.branches) (entries_at entries n)) (λ n. fitting_row more (stated_defs head.branches) (entries_at entries n))
          (λ n row is. row_stays (stated_defs head.branches) (entries_at entries n) row is) (range_with_len 0 head.entries) rows e

  -- what is written for rows that fit
  rows_written : (bs : List BranchDef) (rows : List Row) → list_all (row_fits classes bs) rows ≡ true → map (entries_of more bs) rows ≡ map (entries_of classes bs) rows
  rows_written bs [] fit = refl
  rows_written bs (row ∷ rows) fit =
      let parts = and_parts (row_fits classes bs row) (list_all (row_fits classes bs) rows) fit in
      let one = entries_same classes class bs row [] parts.0 in
      let rest = rows_written bs rows parts.1 in
      λ i. one i ∷ rest i

  cuts_same : (bs : List BranchDef) (rows : List Row) → list_all (row_fits classes bs) rows ≡ true → cuts_of more bs rows ≡ cuts_of classes bs rows
  cuts_same bs rows fit = ap (λ (es : List (List (List ℕ))). map cut_of (entries_by_branch bs es)) (rows_written bs rows fit)

-- ---- more classes

-- with these classes trees are as with those: a tree can have its branches, its rows are read and fit, and are cut into the same baskets
pub record LeavesTrees (old new : List ClassDef) : Type 0 where
  pub known : (bs : List BranchDef) → can_be_branches old bs ≡ true → can_be_branches new bs ≡ true
  pub rows : (at_place : RecordsAt) (head : TreeHead) (rows : List Row) → saved_rows old at_place head ≡ Some rows → saved_rows new at_place head ≡ Some rows
  pub cuts : (bs : List BranchDef) (rows : List Row) → list_all (row_fits old bs) rows ≡ true → cuts_of new bs rows ≡ cuts_of old bs rows

pub one_class_more : (old new : List ClassDef) (class : ClassDef) → new ≡ old ++ class ∷ [] → LeavesTrees old new
one_class_more old new class longer = record {
  known = λ bs e. ap (λ (cs : List ClassDef). can_be_branches cs bs) longer ∙ branches_known old class bs e;
  rows = λ at_place head rows e. ap (λ (cs : List ClassDef). saved_rows cs at_place head) longer ∙ rows_stay old class at_place head rows e;
  cuts = λ bs rows fit. ap (λ (cs : List ClassDef). cuts_of cs bs rows) longer ∙ cuts_same old class bs rows fit;
}

pub same_declared : (old new : List ClassDef) → new ≡ old → LeavesTrees old new
same_declared old new same = record {
  known = λ bs e. ap (λ (cs : List ClassDef). can_be_branches cs bs) same ∙ e;
  rows = λ at_place head rows e. ap (λ (cs : List ClassDef). saved_rows cs at_place head) same ∙ e;
  cuts = λ bs rows fit. ap (λ (cs : List ClassDef). cuts_of cs bs rows) same;
}

-- ---- headers

module _ (old new : FileClasses) (longer : LeavesTrees old.declared new.declared) (picks : PicksStay old.described new.described) where
  module _ (r : KeyedRecord) (head : TreeHead) where
    abbrev tests : FileClasses → Value → Bool → TreeHead → Option TreeHead
    tests classes v padded h = some_if (padded && is_written_header classes.declared r.head.name v h) h

    written_stays : (v : Value) → is_written_header old.declared r.head.name v head ≡ true → (is_written_header new.declared r.head.name v head ≡ true) × (is_all_read v ≡ true)
    unfolding is_written_header
    written_stays v e =
        let parts = and_parts (can_be_branches old.declared (stated_defs head.branches)) (is_same_value v (tree_value_of r.head.name head)) e in
        let same = (coded_decides values.the_row.coded v (tree_value_of r.head.name head)).0 parts.1 in (
          and_from _ _ (longer.known (stated_defs head.branches) parts.0) parts.1,
          ap is_all_read same ∙ header_all_read r.head.name head,
        )

    by_read : (x : Step Value) → first_at old.described r.head.class r.head.keylen (record_data r) ≡ x → header_by old.declared r.head.name x ≡ Some head → header_in new r ≡ Some head
    unfolding header_in
    by_read (Err e) is h = absurd cc
    by_read (Ok x) is h = by_head (tree_head_in x.0) refl h
      where
        by_test : (found : TreeHead) → tree_head_in x.0 ≡ Ok found → (b : Bool) → (is_padding x.1.at.rest && is_written_header old.declared r.head.name x.0 found) ≡ b → some_if b found ≡ Some head → header_in new r ≡ Some head
        by_test found there false test h = absurd cc
        by_test found there true test h =
            let same : found ≡ head = some_same h in
            let parts = and_parts (is_padding x.1.at.rest) (is_written_header old.declared r.head.name x.0 found) test in
            let stays = written_stays x.0 (ap (is_written_header old.declared r.head.name x.0) (sym same) ∙ parts.1) in
            let again = read_stays old.described new.described picks r.head.class r.head.keylen (record_data r) x.0 x.1 stays.1 is in
            let tested : (is_padding x.1.at.rest && is_written_header new.declared r.head.name x.0 head) ≡ true = and_from _ _ parts.0 stays.0 in
            ap (header_by new.declared r.head.name) again
            ∙ ap (λ (t : Result TreeHead TreeFault). option_and_then (λ h. some_if (is_padding x.1.at.rest && is_written_header new.declared r.head.name x.0 h) h) (result_ok t)) (there ∙ ap Ok same)
            ∙ ap (λ (b : Bool). some_if b head) tested

        by_head : (t : Result TreeHead TreeFault) → tree_head_in x.0 ≡ t → option_and_then (λ h. some_if (is_padding x.1.at.rest && is_written_header old.declared r.head.name x.0 h) h) (result_ok t) ≡ Some head → header_in new r ≡ Some head
        by_head (Err e) there h = absurd cc
        by_head (Ok found) there h = by_test found there (is_padding x.1.at.rest && is_written_header old.declared r.head.name x.0 found) refl h

    pub header_stays : header_in old r ≡ Some head → header_in new r ≡ Some head
    unfolding header_in
    header_stays e = by_read (first_at old.described r.head.class r.head.keylen (record_data r)) refl e

  -- ---- trees

  module _ (records headers : List KeyedRecord) where
    abbrev beside_old : TreesBeside
    beside_old = record { classes = old; records = records; headers = headers }

    abbrev beside_new : TreesBeside
    beside_new = record { classes = new; records = records; headers = headers }

    module _ (all : list_all (λ s. is_some (tree_of beside_old s)) headers ≡ true) where
      held : (s : KeyedRecord) → In s headers → HoldsTree beside_old s
      held s i = holds_tree beside_old s (all_at (λ t. is_some (tree_of beside_old t)) s headers all i)

      places_same : (s : KeyedRecord) → In s headers → places_named new s ≡ places_named old s
      unfolding places_named
      places_same s i =
          let h = held s i in
          ap (λ (o : Option TreeHead). option_map_or basket_places o []) (header_stays s h.head h.header ∙ sym h.header)

      all_places_same : (ss : List KeyedRecord) → ((s : KeyedRecord) → In s ss → In s headers) → all_places_named new ss ≡ all_places_named old ss
      all_places_same [] within = refl
      all_places_same (s ∷ ss) within =
          let one = places_same s (within s (inl refl)) in
          let rest = all_places_same ss (λ t i. within t (inr i)) in
          λ i. one i ++ rest i

      -- each tree is the same
      pub tree_grows : (s : KeyedRecord) → In s headers → tree_of beside_new s ≡ tree_of beside_old s
      tree_grows s i =
          let h = held s i in
          let rows = longer.rows (record_at records) h.head h.rows h.rows_are in
          let before = all_places_same (records_before headers s) (λ t j. (filter_in (λ k. nat_lt k.head.seek s.head.seek) t headers j).0) in
          tree_from beside_new s h.head h.rows (header_stays s h.head h.header) rows (ap (λ (ps : List ℕ). are_named_once ps (basket_places h.head)) before ∙ h.once) ∙ sym h.tree

      pub all_places_grow : all_places_named new headers ≡ all_places_named old headers
      all_places_grow = all_places_same headers (λ s i. i)

      -- ---- what a close writes of them

      module _ (pending : PendingRows) (fit : (s : KeyedRecord) (head : TreeHead) → In s headers → header_in old s ≡ Some head → list_all (row_fits old.declared (stated_defs head.branches)) (pending s.head.name) ≡ true) where
        cuts_grow : (s : KeyedRecord) → (i : In s headers) → cuts_of new.declared (stated_defs (held s i).head.branches) (pending s.head.name) ≡ cuts_of old.declared (stated_defs (held s i).head.branches) (pending s.head.name)
        cuts_grow s i =
            let h = held s i in
            longer.cuts (stated_defs h.head.branches) (pending s.head.name) (fit s h.head i h.header)

        lengths_grow : (s : KeyedRecord) → In s headers
            → option_map (tree_lengths new.declared s.head.name (pending s.head.name)) (header_in new s) ≡ option_map (tree_lengths old.declared s.head.name (pending s.head.name)) (header_in old s)
        unfolding tree_lengths
        lengths_grow s i =
            let h = held s i in
            let cuts = cuts_grow s i in
            let branches = stated_defs h.head.branches in
            ap (option_map (tree_lengths new.declared s.head.name (pending s.head.name))) (header_stays s h.head h.header)
            ∙ (λ j. Some (record {
              pending = not (length (pending s.head.name) == 0);
              header = head_length (codes "TTree") s.head.name + header_length s.head.name branches (basket_count h.head + cut_count (cuts j));
              baskets = open_baskets s.head.name branches (cuts j);
            }))
            ∙ ap (option_map (tree_lengths old.declared s.head.name (pending s.head.name))) (sym h.header)

        puts_grow : (s : KeyedRecord) → In s headers
            → option_map_or (λ head. put_count (cuts_of new.declared (stated_defs head.branches) (pending s.head.name))) (header_in new s) 0
            ≡ option_map_or (λ head. put_count (cuts_of old.declared (stated_defs head.branches) (pending s.head.name))) (header_in old s) 0
        puts_grow s i =
            let h = held s i in
            ap (λ (o : Option TreeHead). option_map_or (λ head. put_count (cuts_of new.declared (stated_defs head.branches) (pending s.head.name))) o 0) (header_stays s h.head h.header)
            ∙ ap put_count (cuts_grow s i)
            ∙ ap (λ (o : Option TreeHead). option_map_or (λ head. put_count (cuts_of old.declared (stated_defs head.branches) (pending s.head.name))) o 0) (sym h.header)

        pub trees_grow : trees_among new pending headers ≡ trees_among old pending headers
        trees_grow = each headers (λ s i. i)
          where
            each : (ss : List KeyedRecord) → ((s : KeyedRecord) → In s ss → In s headers) → trees_among new pending ss ≡ trees_among old pending ss
            each [] within = refl
            each (s ∷ ss) within =
                let one = lengths_grow s (within s (inl refl)) in
                let rest = each ss (λ t i. within t (inr i)) in
                λ j. cons_option (one j) (rest j)

        pub put_grows : put_among new pending headers ≡ put_among old pending headers
        unfolding put_among
        put_grows = each headers (λ s i. i)
          where
            each : (ss : List KeyedRecord) → ((s : KeyedRecord) → In s ss → In s headers)
                → sum_by (λ r. option_map_or (λ head. put_count (cuts_of new.declared (stated_defs head.branches) (pending r.head.name))) (header_in new r) 0) ss
                ≡ sum_by (λ r. option_map_or (λ head. put_count (cuts_of old.declared (stated_defs head.branches) (pending r.head.name))) (header_in old r) 0) ss
            each [] within = refl
            each (s ∷ ss) within =
                let one = puts_grow s (within s (inl refl)) in
                let rest = each ss (λ t i. within t (inr i)) in
                let f : KeyedRecord → ℕ = λ r. option_map_or (λ head. put_count (cuts_of new.declared (stated_defs head.branches) (pending r.head.name))) (header_in new r) 0 in
                let g : KeyedRecord → ℕ = λ r. option_map_or (λ head. put_count (cuts_of old.declared (stated_defs head.branches) (pending r.head.name))) (header_in old r) 0 in
                sum_by-cons f s ss ∙ (λ j. one j + rest j) ∙ sym (sum_by-cons g s ss)
