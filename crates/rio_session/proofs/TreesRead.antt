-- The trees of a state, by the headers of the file that reads as it.
use Rattle.std.proofs.Common.{◌≡◌, ◌⊎◌, inl, inr, ℕ, ◌≤◌, ltb, List, [], ◌∷◌, length, map, Bool, true, false, cond, not, ◌&&◌, ◌==◌, Option, Some, None, refl, sym, ap, ◌∙◌, arith}
use Rattle.std.proofs.lemmas.{Bool.{and_from, and_parts, cases_lt, eq-eqb, lt-ltb, not-true}, List.FromFn.{length-map-range_with_len}, Option.{same_Some}, Slice.Eq.{bytes_eq-Decides}}
use Rattle.std.specs.{Prelude.{is_some, option_and_then}, FinMap.{get, same_map}, List.{find, range_with_len}, Option.{option_map}, Str.{bytes_eq}}
use Rattle.rio_machine.proofs.OrderLaws.{names_tie, names_total}
use Rattle.rio_machine.specs.{RowEntries.{fitting_row}, State.{Row, State, Tree}}
use Rattle.rio_format.specs.declared.class.ClassDef.{ClassDef}
use Rattle.rio_tree.specs.{SavedEntries.{all_there, branch_entries, entries_at, rows_by, rows_of}, WrittenLaws.{stated_defs}, declared.head.TreeHead.{TreeHead}}
use Rattle.rio_state.specs.{KeyedRecords.{KeyedRecord, has_item, info_key, is_outdated, is_tree_key, is_tree_record, item_of_key, record_at, top_keys, tree_records}, Reads.{AreRecordsOf}}
use Rattle.rio_state.specs.Trees.{RecordsAt, TreesBeside, basket_bytes, header_in, saved_rows, saved_tree, tree_of, trees_beside}
use Rattle.rio_state.proofs.{KeyRecords.{distinct_found}, Members.{In, all_at, filter_in, found, none_at}, TreesSame.{HoldsTree, holds_tree}}
use Rattle.rio_step.specs.Runs.{saved_of}
use Rattle.rio_step.specs.Runs as runs
use Rattle.rio_step.proofs.ClosedLaws.{saved_keeps_the_rest}

-- ---- so many rows as entries

all_long : {A : Type 0} (os : List (Option A)) (xs : List A) → all_there os ≡ Some xs → length xs ≡ length os
all_long [] xs e = ap length (sym (same_Some [] xs e))
all_long (None ∷ os) xs e = absurd cc
all_long {A} (Some x ∷ os) xs e = by (all_there os) (λ ys is. all_long os ys is) e
  where
    by : (o : Option (List A)) → ((ys : List A) → o ≡ Some ys → length ys ≡ length os) → option_map (λ ys. x ∷ ys) o ≡ Some xs → length xs ≡ length (Some x ∷ os)
    by None rest e = absurd cc
    by (Some ys) rest e = let long = rest ys refl in let same : length xs ≡ length (x ∷ ys) = ap length (sym (same_Some (x ∷ ys) xs e)) in omega (arith, same, long)

pub rows_long : (classes : List ClassDef) (at_place : RecordsAt) (head : TreeHead) (rows : List Row) → saved_rows classes at_place head ≡ Some rows → length rows ≡ head.entries
unfolding saved_rows rows_by
rows_long classes at_place head rows e = by (all_there (map (branch_entries (basket_bytes at_place)) head.branches)) e
  where
    row_of : List (List ℕ) → Option Row
    row_of = fitting_row classes (stated_defs head.branches)

    by : (o : Option (List (List (List ℕ)))) → option_and_then (rows_of (fitting_row classes (stated_defs head.branches)) head.entries) o ≡ Some rows → length rows ≡ head.entries
    by None e = absurd cc
    by (Some entries) e =
        all_long (map (λ n. fitting_row classes (stated_defs head.branches) (entries_at entries n)) (range_with_len 0 head.entries)) rows e
        ∙ length-map-range_with_len (λ n. fitting_row classes (stated_defs head.branches) (entries_at entries n)) 0 head.entries

-- ---- one header of a name

find_only : {A : Type 0} (p : A → Bool) (x : A) (xs : List A) → p x ≡ true → ((y : A) → In y xs → p y ≡ true → y ≡ x) → In x xs → find p xs ≡ Some x
find_only p x [] passes only i = absurd i
find_only p x (y ∷ ys) passes only i = by (p y) refl i (λ j. find_only p x ys passes (λ z k. only z (inr k)) j)
  where
    by : (b : Bool) → p y ≡ b → (y ≡ x) ⊎ In x ys → (In x ys → find p ys ≡ Some x) → cond b (Some y) (find p ys) ≡ Some x
    by true is i rest = ap (λ (z : _). let o : Option _ = Some z in o) (only y (inl refl) is)
    by false is (inl same) rest = let f : false ≡ true = sym is ∙ ap p same ∙ passes in absurd cc
    by false is (inr j) rest = rest j

module _ (tops : List KeyedRecord) where
  none_higher : (r s : KeyedRecord) → is_tree_record tops r ≡ true → is_tree_key s.head ≡ true → In s tops → s.head.name ≡ r.head.name → s.head.cycle ≤ r.head.cycle
  none_higher r s counts tree i named =
      elim (cases_lt r.head.cycle s.head.cycle) [
        | inl lt ↦
            let fresh = not-true (is_outdated tops r) (and_parts (is_tree_key r.head) (not (is_outdated tops r)) counts).1 in
            absurd (none_at (λ t. is_tree_key t.head && bytes_eq t.head.name r.head.name && ltb r.head.cycle t.head.cycle) s tops fresh i
            (and_from _ _ (and_from _ _ tree ((bytes_eq-Decides s.head.name r.head.name).1 named)) (lt-ltb r.head.cycle s.head.cycle lt)))
        | inr ge ↦ ge
      ]

  same_cycle : (r s : KeyedRecord) → is_tree_record tops r ≡ true → is_tree_record tops s ≡ true → In r tops → In s tops → s.head.name ≡ r.head.name → s.head.cycle ≡ r.head.cycle
  same_cycle r s a b i j named =
      let x = none_higher r s a (and_parts (is_tree_key s.head) (not (is_outdated tops s)) b).0 j named in
      let y = none_higher s r b (and_parts (is_tree_key r.head) (not (is_outdated tops r)) a).0 i (sym named) in
      omega (arith, x, y)

-- ---- the trees of the state

-- the header of a tree, and what it and its baskets hold
pub record IsTreeOf (records : List KeyedRecord) (r : KeyedRecord) (t : Tree) : Type 0 where
  pub head : TreeHead
  pub header : header_in (trees_beside (info_key records) records (top_keys records)).classes r ≡ Some head
  pub rows : List Row
  pub tree : saved_tree r head rows ≡ t
  pub long : length rows ≡ head.entries

module _ (records : List KeyedRecord) (m : State) (is : AreRecordsOf records m) where
  abbrev tops : List KeyedRecord
  tops = top_keys records

  abbrev pub headers_of : List KeyedRecord
  headers_of = tree_records tops

  abbrev beside : TreesBeside
  beside = trees_beside (info_key records) records tops

  held : (r : KeyedRecord) → In r headers_of → HoldsTree beside r
  held r i = holds_tree beside r (all_at (λ t. is_some (tree_of beside t)) r headers_of is.stand.tree_readable i)

  tree_by_header : (r : KeyedRecord) (t : Tree) → In r headers_of → tree_of beside r ≡ Some t → IsTreeOf records r t
  tree_by_header r t i e =
      let h = held r i in
      record {
        head = h.head;
        header = h.header;
        rows = h.rows;
        tree = same_Some (saved_tree r h.head h.rows) t (sym h.tree ∙ e);
        long = rows_long beside.classes.declared (record_at records) h.head h.rows h.rows_are;
      }

  one_header : (r : KeyedRecord) → In r headers_of → (s : KeyedRecord) → In s headers_of → bytes_eq s.head.name r.head.name ≡ true → s ≡ r
  one_header r i s j named =
      let a = filter_in (is_tree_record tops) r tops i in
      let b = filter_in (is_tree_record tops) s tops j in
      let name : s.head.name ≡ r.head.name = (bytes_eq-Decides s.head.name r.head.name).0 named in
      let cycle = same_cycle tops r s a.1 b.1 a.0 b.0 name in
      let has : has_item (item_of_key r.head) s ≡ true = and_from (bytes_eq s.head.name r.head.name) (s.head.cycle == r.head.cycle) named (eq-eqb s.head.cycle r.head.cycle cycle) in
      let own : has_item (item_of_key r.head) r ≡ true = and_from (bytes_eq r.head.name r.head.name) (r.head.cycle == r.head.cycle) ((bytes_eq-Decides r.head.name r.head.name).1 refl) (eq-eqb r.head.cycle r.head.cycle refl) in
      same_Some s r (sym (distinct_found (item_of_key r.head) s tops is.stand.distinct b.0 has) ∙ distinct_found (item_of_key r.head) r tops is.stand.distinct a.0 own)

  -- a header that counts is that of a tree of the state
  pub tree_of_header : (r : KeyedRecord) → In r headers_of → (t : Tree) × (get m.trees r.head.name ≡ Some t) × IsTreeOf records r t
  tree_of_header r i =
      let h = held r i in
      let t = saved_tree r h.head h.rows in
      let there = find_only (λ s. bytes_eq s.head.name r.head.name) r headers_of ((bytes_eq-Decides r.head.name r.head.name).1 refl) (one_header r i) i in
      (t, is.stand.trees r.head.name ∙ ap (option_and_then (tree_of beside)) there ∙ h.tree, tree_by_header r t i h.tree)

  -- and each tree has one
  pub record HeaderOf (name : List ℕ) (t : Tree) : Type 0 where
    pub r : KeyedRecord
    pub found : find (λ s. bytes_eq s.head.name name) headers_of ≡ Some r
    pub among : In r headers_of
    pub named : r.head.name ≡ name
    pub tree : IsTreeOf records r t

  pub header_of_tree : (name : List ℕ) (t : Tree) → get m.trees name ≡ Some t → HeaderOf name t
  header_of_tree name t e = by (find (λ r. bytes_eq r.head.name name) headers_of) refl (sym (is.stand.trees name) ∙ e)
    where
      by : (o : Option KeyedRecord) → find (λ r. bytes_eq r.head.name name) headers_of ≡ o → option_and_then (tree_of beside) o ≡ Some t → HeaderOf name t
      by None there e = absurd cc
      by (Some r) there e =
          let f = found (λ s. bytes_eq s.head.name name) r headers_of there in
          record { r = r; found = there; among = f.among; named = (bytes_eq-Decides r.head.name name).0 f.passes; tree = tree_by_header r t f.among e }

  -- ---- no rows are pending

  saved_same : (name : List ℕ) (o : Option Tree) → get m.trees name ≡ o → option_map runs.saved_tree o ≡ o
  saved_same name None e = refl
  saved_same name (Some t) e =
      let h = header_of_tree name t e in
      ap (λ (u : Tree). let o : Option Tree = Some (record u { pending = [] }) in o) (sym h.tree.tree) ∙ ap (λ (u : Tree). let o : Option Tree = Some u in o) h.tree.tree

  pub records_saved : saved_of m ≡ m
  unfolding saved_of
  records_saved =
      let same : (saved_of m).trees ≡ m.trees = same_map names_total names_tie (saved_of m).trees m.trees (λ name. saved_keeps_the_rest m name ∙ saved_same name (get m.trees name) refl) in
      λ i. record m { trees = same i }
