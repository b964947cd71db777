-- A row whose entries are made, branch after branch.
use Rattle.std.proofs.Common.{◌≡◌, ◌&&◌, ◌||◌, ℕ, Bool, true, false, cond, List, [], ◌∷◌, ◌++◌, length, take, drop, Result, Ok, Err, refl, sym, ap, subst, ◌∙◌, append_assoc}
use Rattle.std.proofs.{lemmas.Bool.{and_parts}, lemmas.List.{append-nil, Concat.{flat_map-append}}}
use Rattle.std.specs.{List.{list_any}, Prelude.{IfOk, IsTrue, not, ◌==◌}}
use Rattle.rio_num.specs.Word.{is_name_text}
use Rattle.rio_leaf.specs.Stated.{all_leaves, are_branches_behind, are_stated_branches, has_branch, is_stated_branch, is_stated_shape, leaves_of}
use Rattle.rio_leaf.specs.{declared.branch.BranchDef.{BranchDef}, declared.branch.Shape.{Shape, TheVariants.{Leaves, Class}}, declared.leaf.Leaf.{Leaf}}
use Rattle.rio_format.specs.{Bodies.{Counters}, declared.class.ClassDef.{ClassDef}, declared.value.Value.{Value}}
use Rattle.rio_machine.specs.Limits.{has_long_entry, is_too_long}
use Rattle.rio_machine.specs.Rows.{Column, columns_bytes, columns_fit, columns_of, entries_from, entries_of, leaf_numbers_after, row_fits, shape_columns}
use Rattle.rio_machine.specs.declared.entry_fault.EntryFault.{EntryFault, TheVariants.{BadRow, TooLarge, NoMemory as OutOfMemory}}
use Rattle.rio_num.specs.Answers.{GivesUnless}
use Rattle.rio_entry.specs.Leaves.{numbers_after}
use Rattle.rio_entry.proofs.{FitsBehind.{front_numbers, split_fits}, RowReads.{numbers_as_columns}}
use Rattle.rio_fill.specs.{Parts.{whole_row, with_part}, Prepare.{HaveNumbers, are_sized, is_sized, row_prepared, within_limits}, declared.prepared.Parts.{Parts}}
use Rattle.rio_fill.proofs.{Sizes.{part_sized}, Walk.{front_bytes, have_shape}}

abbrev pub any_long : List (List ℕ) → Bool
any_long entries = list_any (λ entry. is_too_long (length entry)) entries

-- These branches and values are left, behind leaves that say these numbers, and of the others there are these entries.
pub record Walked (classes : List ClassDef) (defs : List BranchDef) (row : List Value) (left : List BranchDef) (rest : List Value) (parts : Parts) (before : Counters) : Type 0 where
  pub done : List BranchDef
  pub fits : row_fits classes defs row ≡ columns_fit classes (columns_of left) rest before
  pub long : has_long_entry classes defs row ≡ (parts.long || any_long (entries_from classes left rest before))
  pub entries : parts.long ≡ false → entries_of classes defs row ≡ parts.entries ++ entries_from classes left rest before
  pub stated : are_branches_behind done left ≡ true
  pub numbers : HaveNumbers (all_leaves done) before

module _ (classes : List ClassDef) (defs : List BranchDef) (row : List Value) where
  pub walk_begins : (parts : Parts) → parts ≡ record { entries = []; long = false } → are_stated_branches defs ≡ true → Walked classes defs row defs row parts []
  walk_begins parts is stated = subst (λ (p : Parts). Walked classes defs row defs row p []) (sym is) (record {
    done = [];
    fits = refl;
    long = refl;
    entries = λ _. refl;
    stated = (and_parts (not (length defs == 0)) (are_branches_behind [] defs) stated).1;
    numbers = λ name has. absurd cc;
  })

  long_on : (t : Bool) (p : Parts) (entry : List ℕ) (m : Bool) → (p.long || (t || m)) ≡ ((let now : Parts = cond t (record { entries = p.entries; long = true }) (record { entries = p.entries ++ entry ∷ []; long = p.long }) in now.long) || m)
  long_on true p entry m = by p.long
    where
      by : (l : Bool) → (l || (true || m)) ≡ (true || m)
      by true = refl
      by false = refl
  long_on false p entry m = refl

  entries_on : (t : Bool) (p : Parts) (entry : List ℕ) (more all : List (List ℕ)) → (p.long ≡ false → all ≡ p.entries ++ (entry ∷ more))
      → (let now : Parts = cond t (record { entries = p.entries; long = true }) (record { entries = p.entries ++ entry ∷ []; long = p.long }) in now.long ≡ false → all ≡ now.entries ++ more)
  entries_on true p entry more all so_far = λ h. absurd cc
  entries_on false p entry more all so_far = λ h. so_far h ∙ sym (append_assoc p.entries (entry ∷ []) more)

  module _ (b : BranchDef) (left : List BranchDef) (rest : List Value) (parts : Parts) (before : Counters) (w : Walked classes defs row (b ∷ left) rest parts before) where
    abbrev cs : List Column
    cs = shape_columns b.shape

    abbrev own : List Value
    own = take (length cs) rest

    abbrev more : List (List ℕ)
    more = entries_from classes left (drop (length cs) rest) (leaf_numbers_after cs own before)

    branch_stated : (is_stated_branch w.done b ≡ true) × (are_branches_behind (w.done ++ b ∷ []) left ≡ true)
    branch_stated = and_parts (is_stated_branch w.done b) (are_branches_behind (w.done ++ b ∷ []) left) w.stated

    pub shape_stated : is_stated_shape (all_leaves w.done) b.shape ≡ true
    shape_stated = (and_parts (is_name_text b.name && not (has_branch w.done b.name)) (is_stated_shape (all_leaves w.done) b.shape) branch_stated.0).1

    rest_fits : row_fits classes defs row ≡ (columns_fit classes cs own before && columns_fit classes (columns_of left) (drop (length cs) rest) (leaf_numbers_after cs own before))
    rest_fits =
        w.fits
        ∙ split_fits classes cs (columns_of left) rest before
        ∙ ap (λ (now : Counters). columns_fit classes cs own before && columns_fit classes (columns_of left) (drop (length cs) rest) now) (sym (front_numbers cs rest before))

    -- the entry of this branch, and those of the ones behind
    entries_split : entries_from classes (b ∷ left) rest before ≡ columns_bytes classes cs own before ∷ more
    entries_split =
        ap (λ (bytes : List ℕ). bytes ∷ entries_from classes left (drop (length cs) rest) (leaf_numbers_after cs rest before)) (sym (front_bytes classes cs rest before))
        ∙ ap (λ (now : Counters). columns_bytes classes cs own before ∷ entries_from classes left (drop (length cs) rest) now) (sym (front_numbers cs rest before))

    leaves_more : all_leaves (w.done ++ b ∷ []) ≡ all_leaves w.done ++ leaves_of b.shape
    leaves_more = flat_map-append (λ (d : BranchDef). leaves_of d.shape) w.done (b ∷ []) ∙ ap (λ (l : List Leaf). all_leaves w.done ++ l) (append-nil (leaves_of b.shape))

    pub walk_on : (new : Parts) → columns_fit classes cs own before ≡ true → new ≡ with_part parts (columns_bytes classes cs own before) → Walked classes defs row left (drop (length cs) rest) new (leaf_numbers_after cs own before)
    walk_on new fit is =
        let bytes = columns_bytes classes cs own before in
        let t = is_too_long (length bytes) in
        subst (λ (p : Parts). Walked classes defs row left (drop (length cs) rest) p (leaf_numbers_after cs own before)) (sym is) (record {
          done = w.done ++ b ∷ [];
          fits = rest_fits ∙ ap (λ (f : Bool). f && columns_fit classes (columns_of left) (drop (length cs) rest) (leaf_numbers_after cs own before)) fit;
          long = w.long ∙ ap (λ (es : List (List ℕ)). parts.long || any_long es) entries_split ∙ long_on t parts bytes (any_long more);
          entries = entries_on t parts bytes more (entries_of classes defs row) (λ h. w.entries h ∙ ap (λ (es : List (List ℕ)). parts.entries ++ es) entries_split);
          stated = branch_stated.1;
          numbers = subst (λ (ls : List Leaf). HaveNumbers ls (leaf_numbers_after cs own before)) (sym leaves_more) (have_shape classes b.shape own (all_leaves w.done) before fit w.numbers);
        })

    pub walk_breaks : columns_fit classes cs own before ≡ false → row_prepared classes defs row ≡ Err BadRow
    walk_breaks fit =
        let none : row_fits classes defs row ≡ false = rest_fits ∙ ap (λ (f : Bool). f && columns_fit classes (columns_of left) (drop (length cs) rest) (leaf_numbers_after cs own before)) fit in
        rw none refl

  or_nothing : (l : Bool) → (l || false) ≡ l
  or_nothing true = refl
  or_nothing false = refl

  pub walk_ends : (rest : List Value) (parts : Parts) (before : Counters) → Walked classes defs row [] rest parts before → whole_row parts rest ≡ row_prepared classes defs row
  walk_ends (v ∷ vs) parts before w = let none = w.fits in rw none refl
  walk_ends [] parts before w =
      let whole : row_fits classes defs row ≡ true = w.fits in
      let long : has_long_entry classes defs row ≡ parts.long = w.long ∙ or_nothing parts.long in
      sym (
      ap (λ (f : Bool). cond f (within_limits (has_long_entry classes defs row) (entries_of classes defs row)) (Err BadRow)) whole
      ∙ ap (λ (l : Bool). within_limits l (entries_of classes defs row)) long
      ∙ by parts.long (λ h. w.entries h ∙ append-nil parts.entries)
      )
    where
      by : (l : Bool) → (l ≡ false → entries_of classes defs row ≡ parts.entries) → within_limits l (entries_of classes defs row) ≡ cond l (Err TooLarge) (Ok parts.entries)
      by true e = refl
      by false e = ap (λ (es : List (List ℕ)). let r : Result (List (List ℕ)) EntryFault = Ok es in r) (e refl)

-- ---- the lengths of entries

module _ (classes : List ClassDef) where
  row_sized : (defs : List BranchDef) (row : List Value) (before : Counters) → columns_fit classes (columns_of defs) row before ≡ true → are_sized defs (entries_from classes defs row before) ≡ true
  row_sized [] row before fit = refl
  row_sized (b ∷ bs) row before fit =
      let cs = shape_columns b.shape in
      let parts = and_parts (columns_fit classes cs (take (length cs) row) before) (columns_fit classes (columns_of bs) (drop (length cs) row) (leaf_numbers_after cs row before)) (sym (split_fits classes cs (columns_of bs) row before) ∙ fit) in
      let own : is_sized b.shape (columns_bytes classes cs row before) ≡ true = ap (is_sized b.shape) (sym (front_bytes classes cs row before)) ∙ part_sized classes b.shape (take (length cs) row) before parts.0 in
      let others = row_sized bs (drop (length cs) row) (leaf_numbers_after cs row before) parts.1 in
      rw (own, others) refl

  pub prepared_sized : (defs : List BranchDef) (row : List Value) (entries : List (List ℕ)) → row_prepared classes defs row ≡ Ok entries → are_sized defs entries ≡ true
  prepared_sized defs row entries e = by (row_fits classes defs row) (has_long_entry classes defs row) refl e
    where
      by : (f l : Bool) → row_fits classes defs row ≡ f → (let r : Result (List (List ℕ)) EntryFault = cond f (within_limits l (entries_of classes defs row)) (Err BadRow) in r ≡ Ok entries) → are_sized defs entries ≡ true
      by true false fits is =
          let same : entries_of classes defs row ≡ entries = cc in
          ap (are_sized defs) (sym same) ∙ row_sized defs row [] fits
      by true true fits is = absurd cc
      by false l fits is = absurd cc

  pub if_prepared : (defs : List BranchDef) (row : List Value) (r : Result (List (List ℕ)) EntryFault) → GivesUnless OutOfMemory (λ entries. entries) r (row_prepared classes defs row) → IfOk r (λ entries. IsTrue (are_sized defs entries))
  if_prepared defs row (Ok entries) e = prepared_sized defs row entries e
  if_prepared defs row (Err fault) e = tt

pub gives_itself : (r read : Result (List (List ℕ)) EntryFault) → r ≡ read → GivesUnless OutOfMemory (λ (entries : List (List ℕ)). entries) r read
gives_itself (Ok entries) read e = sym e
gives_itself (Err fault) read e = λ ne. sym e

-- what the leaves of a branch say, as columns
pub shape_numbers : (shape : Shape) (row : List Value) (before : Counters) → numbers_after (leaves_of shape) row before ≡ leaf_numbers_after (shape_columns shape) row before
shape_numbers (Leaves ls) row before = numbers_as_columns ls row before
shape_numbers (Class class) [] before = refl
shape_numbers (Class class) (v ∷ vs) before = refl
