-- The rows of a tree of a state, saved and pending, are those that a scan reads.
use Rattle.std.proofs.Common.{◌≡◌, inl, inr, ◌⊎◌, ℕ, zero, suc, ◌+◌, ◌-◌, ◌<◌, ◌≤◌, List, [], ◌∷◌, ◌++◌, length, map, drop, slice_get, get_or, Bool, true, false, cond, ◌==◌, Option, Some, None, Result, Ok, Err, unwrap_or, refl, sym, ap, subst, ◌∙◌, arith}
use Rattle.std.proofs.lemmas.{Bool.{and_parts, eqb-true, ltb-false, ltb-true}, List.{length-append, length-map}, Option.{same_Some, slice_get-get_or, slice_get-map, slice_get_within}}
use Rattle.std.specs.{Prelude.{if◌then◌else◌, nat_lt, option_and_then}, FinMap.{get}, List.{All, AllByRecursion, find, list_all, range_with_len}, Option.{option_map, option_map_or}, Result.{result_ok}}
use Rattle.rio_num.specs.Reading.{some_if}
use Rattle.rio_leaf.specs.declared.branch.BranchDef.{BranchDef}
use Rattle.rio_format.specs.declared.class.ClassDef.{ClassDef}
use Rattle.rio_key.specs.Cut.{Cut, cut_of}
use Rattle.rio_chain.specs.{Chains.{HasChain}, Segments.{Link}}
use Rattle.rio_machine.specs.{RowEntries.{fitting_row, row_in}, Rows.{entries_of, row_fits}, State.{Row, State, Tree}}
use Rattle.rio_machine.specs.declared.entry_fault.EntryFault.{EntryFault}
use Rattle.rio_effect.proofs.{FillNeeds.{HeaderOfTree, header_of_tree}, PutBaskets.{pending_rows_are_read}, SavedEntries.{as_many, entries_from}, SavedRows.{one_each, rows_long}}
use Rattle.rio_effect.specs.{PutBaskets.{AreAllPut, ArePutBaskets}}
use Rattle.rio_fill.specs.{Fill.{BranchFill, TreeFill, defs_of, entry_count}, Laws.{IsSmall}}
use Rattle.rio_state.proofs.Members.{In}
use Rattle.rio_state.specs.{Contents.{file_classes}, KeyedRecords.{info_key, keyed_records, record_at}, TreeLengths.{entries_by_branch}, Trees.{RecordsAt, basket_bytes, header_in, saved_rows}}
use Rattle.rio_step.specs.{KeptItems.{kept_tree}, Refusing.{rows_of_tree}, Storable.{is_stored_row}}
use Rattle.rio_tree.specs.{Header.{has_offsets}, Index.{basket_counts}, SavedEntries.{all_there, branch_entries, entries_at, entries_of_baskets, rows_by, rows_of}, WrittenLaws.{AreReadableBranches, stated_defs}}
use Rattle.rio_tree.specs.{declared.basket_at.BasketAt.{BasketAt}, declared.head.TreeHead.{TreeHead}}
use Rattle.rio_tree_table.specs.declared.table.KeptTree.{KeptTree}
use Rattle.rio_session.specs.{Due.{IsBranchSound, IsClosableWith}, Fills.{FilledTree, branch_in_header, header_of, is_tree_of, kept_tree_of, put_baskets, put_of, saved_baskets}, Scans.{AllPairs, AreEntriesOf, AreRowsOf}}
use Rattle.rio_session.specs.{Session.{HoldsState, file_records}, SessionState.{SessionState}}
use Rattle.rio_session.proofs.{BranchEntries.{entries_are}, CutLengths.{defs_said}, FilledFiles.{AreFilled, IsStateTree, filled_now, head_is, keeps, state_tree, tree_found}}
use Rattle.rio_session.proofs.{FilledTrees.{found_among, found_name}, SaveHeads.{idle_put, parted}, SizedRows.{AreFitOpens, opens_fit}}

-- ---- rows by number

module _ {A : Type 0} (f : ℕ → Option A) where
  by_rest : (start n j : ℕ) (x y : A) (xs : List A) → ((ys : List A) (k : ℕ) → all_there (map f (range_with_len (start + 1) n)) ≡ Some ys → slice_get ys k ≡ Some x → f (start + 1 + k) ≡ Some x) → f start ≡ Some y
      → (o : Option (List A)) → all_there (map f (range_with_len (start + 1) n)) ≡ o → option_map (λ ys. y ∷ ys) o ≡ Some xs → slice_get xs j ≡ Some x → f (start + j) ≡ Some x
  by_rest start n j x y xs later first None rest e is = absurd cc
  by_rest start n zero x y xs later first (Some ys) rest e is =
      let same : y ∷ ys ≡ xs = cc in
      let own : y ≡ x = same_Some y x (ap (λ (l : List A). slice_get l 0) same ∙ is) in
      ap f (omega arith) ∙ first ∙ ap (λ (z : A). let o : Option A = Some z in o) own
  by_rest start n (suc j) x y xs later first (Some ys) rest e is =
      let same : y ∷ ys ≡ xs = cc in
      ap f (let k : start + suc j ≡ start + 1 + j = omega arith in k) ∙ later ys j rest (ap (λ (l : List A). slice_get l (suc j)) same ∙ is)

  -- of rows that are all there each is that of its number
  row_there : (start n j : ℕ) (xs : List A) (x : A) → all_there (map f (range_with_len start n)) ≡ Some xs → slice_get xs j ≡ Some x → f (start + j) ≡ Some x
  row_there start zero j xs x e is = let none : [] ≡ xs = cc in absurd (let never : slice_get [] j ≡ Some x = ap (λ (l : List A). slice_get l j) none ∙ is in cc)
  row_there start (suc n) j xs x e is = by (f start) (λ ys k rest there. row_there (start + 1) n k ys x rest there) refl e
    where
      by : (o : Option A) → ((ys : List A) (k : ℕ) → all_there (map f (range_with_len (start + 1) n)) ≡ Some ys → slice_get ys k ≡ Some x → f (start + 1 + k) ≡ Some x) → f start ≡ o
          → all_there (o ∷ map f (range_with_len (start + 1) n)) ≡ Some xs → f (start + j) ≡ Some x
      by None later first e = absurd cc
      by (Some y) later first e = by_rest start n j x y xs later first (all_there (map f (range_with_len (start + 1) n))) refl e is

abbrev read_as : Row → Result Row EntryFault
read_as row = Ok row

-- a row that fits was read
row_read : (classes : List ClassDef) (defs : List BranchDef) (entries : List (List ℕ)) (row : Row) → fitting_row classes defs entries ≡ Some row → row_in classes defs entries ≡ Ok row
row_read classes defs entries row fit = by (row_in classes defs entries) fit
  where
    by_fit : (r : Row) (b : Bool) → some_if b r ≡ Some row → read_as r ≡ read_as row
    by_fit r false e = absurd cc
    by_fit r true e = ap read_as (same_Some r row e)

    by : (r : Result Row EntryFault) → option_and_then (λ x. some_if (row_fits classes defs x) x) (result_ok r) ≡ Some row → r ≡ Ok row
    by (Err e) fit = absurd cc
    by (Ok r) fit = by_fit r (row_fits classes defs r) fit

-- ---- the entries of pending rows

first_and_rest : (n : ℕ) (es : List (List ℕ)) → length es ≡ suc n → unwrap_or (slice_get es 0) [] ∷ drop 1 es ≡ es
first_and_rest n [] long = absurd (omega arith)
first_and_rest n (e ∷ es) long = refl

shorter : (n : ℕ) (es : List (List ℕ)) → length es ≡ suc n → length (drop 1 es) ≡ n
shorter n [] long = absurd (omega arith)
shorter n (x ∷ xs) long = omega arith

-- those of one number are a row's
row_again : (defs : List BranchDef) (rows : List (List (List ℕ))) (j : ℕ) (es : List (List ℕ)) → slice_get rows j ≡ Some es → length es ≡ length defs → entries_at (entries_by_branch defs rows) j ≡ es
row_again [] rows j [] e long = refl
row_again [] rows j (x ∷ es) e long = absurd (omega arith)
row_again (b ∷ bs) rows j es e long =
    let rest = row_again bs (map (λ entries. drop 1 entries) rows) j (drop 1 es) (slice_get-map (λ entries. drop 1 entries) rows j ∙ ap (option_map (λ entries. drop 1 entries)) e) (shorter (length bs) es long) in
    let here : unwrap_or (slice_get (map (λ entries. unwrap_or (slice_get entries 0) []) rows) j) [] ≡ unwrap_or (slice_get es 0) []
    = ap (λ (o : Option (List ℕ)). unwrap_or o []) (slice_get-map (λ entries. unwrap_or (slice_get entries 0) []) rows j ∙ ap (option_map (λ entries. unwrap_or (slice_get entries 0) [])) e) in
    ap (λ (x : List ℕ). x ∷ entries_at (entries_by_branch bs (map (λ entries. drop 1 entries) rows)) j) here
    ∙ ap (λ (l : List (List ℕ)). unwrap_or (slice_get es 0) [] ∷ l) rest
    ∙ first_and_rest (length bs) es long

-- ---- the entries of all branches

-- of each branch the saved ones, and the pending ones behind them
abbrev both_entries : List (List (List ℕ)) → List (List (List ℕ)) → List (List (List ℕ))
both_entries [] ps = []
both_entries (xs ∷ xss) [] = xs ∷ both_entries xss []
both_entries (xs ∷ xss) (p ∷ ps) = (xs ++ p) ∷ both_entries xss ps

abbrev AreLong : ℕ → List (List (List ℕ)) → Type 0
AreLong n xss = AllByRecursion (λ xs. length xs ≡ n) xss

left_of : (xs ys : List (List ℕ)) (j : ℕ) → j < length xs → slice_get (xs ++ ys) j ≡ slice_get xs j
left_of [] ys j low = absurd (omega arith)
left_of (x ∷ xs) ys zero low = refl
left_of (x ∷ xs) ys (suc j) low = left_of xs ys j (omega arith)

right_of : (xs ys : List (List ℕ)) (i j : ℕ) → j ≡ length xs + i → slice_get (xs ++ ys) j ≡ slice_get ys i
right_of [] ys i j e = ap (slice_get ys) (let k : j ≡ i = omega arith in k)
right_of (x ∷ xs) ys i zero e = absurd (omega arith)
right_of (x ∷ xs) ys i (suc j) e = right_of xs ys i j (omega arith)

saved_at : (n j : ℕ) (xss ps : List (List (List ℕ))) → AreLong n xss → j < n → entries_at (both_entries xss ps) j ≡ entries_at xss j
saved_at n j [] ps long low = refl
saved_at n j (xs ∷ xss) [] long low = ap (λ (l : List (List ℕ)). unwrap_or (slice_get xs j) [] ∷ l) (saved_at n j xss [] long.1 low)
saved_at n j (xs ∷ xss) (p ∷ ps) long low =
    let many = long.0 in
    let here = left_of xs p j (omega arith) in
    ap (λ (o : Option (List ℕ)). unwrap_or o [] ∷ entries_at (both_entries xss ps) j) here ∙ ap (λ (l : List (List ℕ)). unwrap_or (slice_get xs j) [] ∷ l) (saved_at n j xss ps long.1 low)

pending_at : (n i j : ℕ) (xss ps : List (List (List ℕ))) → AreLong n xss → length xss ≡ length ps → j ≡ n + i → entries_at (both_entries xss ps) j ≡ entries_at ps i
pending_at n i j [] [] long same at = refl
pending_at n i j [] (p ∷ ps) long same at = absurd (omega arith)
pending_at n i j (xs ∷ xss) [] long same at = absurd (omega arith)
pending_at n i j (xs ∷ xss) (p ∷ ps) long same at =
    let many = long.0 in
    let here = right_of xs p i j (omega arith) in
    ap (λ (o : Option (List ℕ)). unwrap_or o [] ∷ entries_at (both_entries xss ps) j) here ∙ ap (λ (l : List (List ℕ)). unwrap_or (slice_get p i) [] ∷ l) (pending_at n i j xss ps long.1 (omega arith) at)

-- what is read of all branches
record AreBoth (links : List Link) (saved count : ℕ) (bs : List BranchFill) (rows : List (List (List ℕ))) (xss : List (List (List ℕ))) : Type 0 where
  each : AllPairs (AreEntriesOf links count) bs (both_entries xss (entries_by_branch (defs_of bs) rows))
  long : AreLong saved xss
  many : length xss ≡ length (entries_by_branch (defs_of bs) rows)

same_put : (f : RecordsAt) (saved : ℕ) (b : BranchFill) (cut : Cut) → put_baskets saved b ≡ [] → ArePutBaskets f saved (branch_in_header saved b) cut [] → ArePutBaskets f saved (branch_in_header saved b) cut (put_baskets saved b)
same_put f saved b cut none put = subst (ArePutBaskets f saved (branch_in_header saved b) cut) (sym none) put

-- those that were put, where none are named
all_put : (f : RecordsAt) (saved : ℕ) (bs : List BranchFill) (cuts : List Cut) → AllByRecursion (λ b. put_baskets saved b ≡ []) bs → AreAllPut f saved (map (branch_in_header saved) bs) cuts []
    → AreAllPut f saved (map (branch_in_header saved) bs) cuts (map (put_baskets saved) bs)
all_put f saved [] cuts none put = tt
all_put f saved (b ∷ bs) [] none put = absurd put
all_put f saved (b ∷ bs) (cut ∷ cuts) none put = (same_put f saved b cut none.0 put.0, all_put f saved bs cuts none.1 put.1)

module _ (links : List Link) (saved pending count : ℕ) where
  abbrev f : RecordsAt
  f = record_at (keyed_records links)

  both_are : (bs : List BranchFill) (before : List BranchDef) (rows : List (List (List ℕ))) (xss : List (List (List ℕ))) → count ≡ saved + length rows
      → all_there (map (branch_entries (basket_bytes (record_at (keyed_records links)))) (map (branch_in_header saved) bs)) ≡ Some xss → AreReadableBranches saved before (map (branch_in_header saved) bs)
      → AllByRecursion (IsBranchSound saved pending) bs → AreAllPut (record_at (keyed_records links)) saved (map (branch_in_header saved) bs) (map cut_of (entries_by_branch (defs_of bs) rows)) (map (put_baskets saved) bs)
      → map (λ b. b.entries) bs ≡ map (λ cut. cut.rest) (map cut_of (entries_by_branch (defs_of bs) rows)) → AllByRecursion (λ b. IsSmall b.entries) bs → AreBoth links saved count bs rows xss
  both_are [] before rows xss many read readable sound put opens small = let none : [] ≡ xss = cc in subst (AreBoth links saved count [] rows) none (record { each = tt; long = tt; many = refl })
  both_are (b ∷ bs) before rows xss many read readable sound put opens small =
      by_first (branch_entries (basket_bytes f) (branch_in_header saved b))
      (λ yss rest. both_are bs (before ++ b.def ∷ []) (map (λ entries. drop 1 entries) rows) yss (many ∙ ap (λ (n : ℕ). saved + n) (sym (length-map rows (λ entries. drop 1 entries)))) rest readable.1 sound.1 put.1 later small.1) refl read
    where
      opened : b.entries ≡ (cut_of (map (λ entries. unwrap_or (slice_get entries 0) []) rows)).rest
      opened = cc

      later : map (λ b. b.entries) bs ≡ map (λ cut. cut.rest) (map cut_of (entries_by_branch (defs_of bs) (map (λ entries. drop 1 entries) rows)))
      later = cc

      by_rest : (xs : List (List ℕ)) → branch_entries (basket_bytes f) (branch_in_header saved b) ≡ Some xs
          → ((yss : List (List (List ℕ))) → all_there (map (branch_entries (basket_bytes f)) (map (branch_in_header saved) bs)) ≡ Some yss → AreBoth links saved count bs (map (λ entries. drop 1 entries) rows) yss)
          → (o : Option (List (List (List ℕ)))) → all_there (map (branch_entries (basket_bytes f)) (map (branch_in_header saved) bs)) ≡ o → option_map (λ yss. xs ∷ yss) o ≡ Some xss → AreBoth links saved count (b ∷ bs) rows xss
      by_rest xs first again None rest e = absurd cc
      by_rest xs first again (Some yss) rest e =
          let all : xs ∷ yss ≡ xss = cc in
          let more = again yss rest in
          let read_as = sym (entries_from f (branch_in_header saved b) refl) ∙ first in
          let own = entries_are links saved count b (map (λ entries. unwrap_or (slice_get entries 0) []) rows) xs readable.0.in_order read_as (parted saved pending b sound.0) put.0 opened
          (many ∙ ap (λ (n : ℕ). saved + n) (sym (length-map rows (λ entries. unwrap_or (slice_get entries 0) [])))) small.0 in
          let long = as_many f (has_offsets b.def.shape) saved (saved_baskets saved b) xs readable.0.in_order read_as in
          subst (AreBoth links saved count (b ∷ bs) rows) all (record {
            each = (own, more.each);
            long = (long, more.long);
            many = ap suc more.many;
          })

      by_first : (o : Option (List (List ℕ)))
          → ((yss : List (List (List ℕ))) → all_there (map (branch_entries (basket_bytes f)) (map (branch_in_header saved) bs)) ≡ Some yss → AreBoth links saved count bs (map (λ entries. drop 1 entries) rows) yss)
          → branch_entries (basket_bytes f) (branch_in_header saved b) ≡ o → all_there (o ∷ map (branch_entries (basket_bytes f)) (map (branch_in_header saved) bs)) ≡ Some xss → AreBoth links saved count (b ∷ bs) rows xss
      by_first None again first e = absurd cc
      by_first (Some xs) again first e = by_rest xs first again (all_there (map (branch_entries (basket_bytes f)) (map (branch_in_header saved) bs))) refl e

-- ---- a tree

all_small : (bs : List BranchFill) (opens : List (List (List ℕ))) → map (λ b. b.entries) bs ≡ opens → AreFitOpens (defs_of bs) opens → AllByRecursion (λ b. IsSmall b.entries) bs
all_small [] opens same fit = tt
all_small (b ∷ bs) [] same fit = absurd cc
all_small (b ∷ bs) (o ∷ opens) same fit =
    let first : b.entries ≡ o = cc in
    let rest : map (λ b. b.entries) bs ≡ opens = cc in
    (subst IsSmall (sym first) fit.0.small, all_small bs opens rest fit.1)

below_or_behind : (n j : ℕ) → (j < n) ⊎ ((i : ℕ) × (j ≡ n + i))
below_or_behind n j = by (nat_lt j n) refl
  where
    by : (b : Bool) → nat_lt j n ≡ b → (j < n) ⊎ ((i : ℕ) × (j ≡ n + i))
    by true e = inl (ltb-true j n e)
    by false e = let up = ltb-false j n e in inr (j - n, omega arith)

each_at : (p : Row → Bool) (rows : List Row) (k : ℕ) (row : Row) → list_all p rows ≡ true → slice_get rows k ≡ Some row → p row ≡ true
each_at p [] k row all is = absurd cc
each_at p (r ∷ rows) zero row all is = ap p (sym (same_Some r row is)) ∙ (and_parts (p r) (list_all p rows) all).0
each_at p (r ∷ rows) (suc k) row all is = each_at p rows k row (and_parts (p r) (list_all p rows) all).1 is

row_left : (xs ys : List Row) (j : ℕ) → j < length xs → slice_get (xs ++ ys) j ≡ slice_get xs j
row_left [] ys j low = absurd (omega arith)
row_left (x ∷ xs) ys zero low = refl
row_left (x ∷ xs) ys (suc j) low = row_left xs ys j (omega arith)

row_right : (xs ys : List Row) (i j : ℕ) → j ≡ length xs + i → slice_get (xs ++ ys) j ≡ slice_get ys i
row_right [] ys i j e = ap (slice_get ys) (let k : j ≡ i = omega arith in k)
row_right (x ∷ xs) ys i zero e = absurd (omega arith)
row_right (x ∷ xs) ys i (suc j) e = row_right xs ys i j (omega arith)

-- ---- what holds of each

all_each : {A : Type 0} (P : A → Type 0) (xs : List A) → All P xs → AllByRecursion P xs
all_each P [] all = tt
all_each P (x ∷ xs) all = (all 0 x (omega arith), all_each P xs (λ i d lt. all (suc i) d (omega (arith, lt))))

at_one : {A : Type 0} (P : A → Type 0) (x : A) (xs : List A) → AllByRecursion P xs → In x xs → P x
at_one P x [] all i = absurd i
at_one P x (y ∷ ys) all (inl same) = subst P same all.0
at_one P x (y ∷ ys) all (inr i) = at_one P x ys all.1 i

-- of each of the branches of a tree that is kept
pub sound_branches : (s : SessionState) (name : List ℕ) (t : FilledTree) → find (is_tree_of name) s.trees ≡ Some t → IsClosableWith s.segments s.heads s.trees s.info s.name → AllByRecursion (IsBranchSound t.fill.saved t.fill.pending) t.fill.branches
sound_branches s name t found kept =
    all_each (IsBranchSound t.fill.saved t.fill.pending) t.fill.branches
    (at_one (λ (u : FilledTree). All (IsBranchSound u.fill.saved u.fill.pending) u.fill.branches) t s.trees (all_each (λ (u : FilledTree). All (IsBranchSound u.fill.saved u.fill.pending) u.fill.branches) s.trees kept.sound) (found_among name t s.trees found))

module _ (s : SessionState) (m : State) (file : List ℕ) (h : HoldsState s m file) (name : List ℕ) (t : FilledTree) (found : find (is_tree_of name) s.trees ≡ Some t)
    (kept : IsClosableWith s.segments s.heads s.trees s.info s.name) where
  sound : AllByRecursion (IsBranchSound t.fill.saved t.fill.pending) t.fill.branches
  sound = sound_branches s name t found kept

  filled : AreFilled s m h.links
  filled = filled_now s m file h kept

  among : In t s.trees
  among = found_among name t s.trees found

  it : IsStateTree s m h.links (filled_now s m file h kept) t
  it = state_tree s m h.links (filled_now s m file h kept) t (found_among name t s.trees found)

  abbrev tree : Tree
  tree = it.x

  abbrev bs : List BranchFill
  bs = t.fill.branches

  abbrev saved : ℕ
  saved = t.fill.saved

  abbrev at_place : RecordsAt
  at_place = record_at (keyed_records h.links)

  defs_are : it.x.branches ≡ defs_of t.fill.branches
  defs_are = ap (λ (k : KeptTree). k.branches) it.kept

  abbrev pending_rows : List BranchDef → List (List (List ℕ))
  pending_rows defs = map (entries_of m.classes defs) tree.pending

  abbrev cuts : List BranchDef → List Cut
  cuts defs = map cut_of (entries_by_branch defs (pending_rows defs))

  -- ---- its header

  own : HeaderOfTree file h.links m t.name it.x
  own = header_of_tree file h.links m t.name it.x h.chain.chain h.records h.items it.there

  own_head : own.under.held.head ≡ header_of t.fill
  own_head =
      let k = keeps s m h.links (filled_now s m file h kept) t (found_among name t s.trees found) in
      let record_is = same_Some own.under.r k.r (sym own.under.counts ∙ k.record_is) in
      same_Some own.under.held.head k.head (sym own.under.held.header ∙ (λ i. header_in (file_classes (info_key (keyed_records h.links))) (record_is i)) ∙ k.head_is)
      ∙ head_is s m h.links (filled_now s m file h kept) t (found_among name t s.trees found)

  rows_are : saved_rows m.classes (record_at (keyed_records h.links)) (header_of t.fill) ≡ Some it.x.saved
  rows_are =
      let classes = own.classes in
      let same = own_head in
      (λ i. saved_rows (sym classes i) at_place (sym same i)) ∙ own.under.held.rows_are ∙ ap (λ (rows : List Row). let o : Option (List Row) = Some rows in o) own.saved

  readable : AreReadableBranches t.fill.saved [] (map (branch_in_header t.fill.saved) t.fill.branches)
  readable =
      let k = keeps s m h.links (filled_now s m file h kept) t (found_among name t s.trees found) in
      subst (λ (head : TreeHead). AreReadableBranches head.entries [] head.branches) (head_is s m h.links (filled_now s m file h kept) t (found_among name t s.trees found)) k.readable

  -- ---- its pending rows

  puts : AreAllPut (record_at (keyed_records h.links)) t.fill.saved (map (branch_in_header t.fill.saved) t.fill.branches) (cuts (defs_of t.fill.branches)) (map (put_baskets t.fill.saved) t.fill.branches)
  unfolding it
  puts =
      let k = keeps s m h.links (filled_now s m file h kept) t (found_among name t s.trees found) in
      let head = head_is s m h.links (filled_now s m file h kept) t (found_among name t s.trees found) in
      let named : (file_records s h.links).put t.name ≡ put_of t.fill = ap (λ (o : Option FilledTree). option_map_or (λ (u : FilledTree). put_of u.fill) o []) (tree_found s m h.links (filled_now s m file h kept) t (found_among name t s.trees found)) in
      let defs = defs_are in
      let those = subst (λ (y : TreeHead × (List BranchDef × List (List BasketAt))). AreAllPut (record_at (keyed_records h.links)) y.0.entries y.0.branches (cuts y.1.0) y.1.1) (λ i. (head i, (defs i, named i))) k.put in
      by (t.fill.pending == 0) refl those
    where
      by : (b : Bool) → (t.fill.pending == 0) ≡ b → AreAllPut (record_at (keyed_records h.links)) t.fill.saved (map (branch_in_header t.fill.saved) t.fill.branches) (cuts (defs_of t.fill.branches)) (if b then [] else map (put_baskets t.fill.saved) t.fill.branches)
          → AreAllPut (record_at (keyed_records h.links)) t.fill.saved (map (branch_in_header t.fill.saved) t.fill.branches) (cuts (defs_of t.fill.branches)) (map (put_baskets t.fill.saved) t.fill.branches)
      by true is put = all_put at_place saved bs (cuts (defs_of bs)) (idle_put saved t.fill.pending bs (eqb-true t.fill.pending 0 is) sound) put
      by false is put = put

  opens : map (λ b. b.entries) t.fill.branches ≡ map (λ cut. cut.rest) (cuts (defs_of t.fill.branches))
  opens =
      let defs = defs_are in
      h.opens t.name t it.x (tree_found s m h.links (filled_now s m file h kept) t (found_among name t s.trees found)) it.there
      ∙ (λ i. map (λ cut. cut.rest) (cuts (defs i)))

  small : AllByRecursion (λ b. IsSmall b.entries) t.fill.branches
  small =
      all_small bs (map (λ cut. cut.rest) (cuts (defs_of bs))) opens
      (subst (λ (defs : List BranchDef). AreFitOpens defs (map (λ cut. cut.rest) (cuts defs))) defs_are (opens_fit m.classes it.x (h.fillable.trees t.name it.x it.there)))

  saved_count : length it.x.saved ≡ t.fill.saved
  saved_count = ap (λ (k : KeptTree). k.saved) it.kept

  pending_count : length it.x.pending ≡ t.fill.pending
  pending_count = ap (λ (k : KeptTree). k.pending) it.kept

  stored : (i : ℕ) (row : Row) → slice_get it.x.pending i ≡ Some row → is_stored_row m.classes (defs_of t.fill.branches) row ≡ true
  stored i row is =
      each_at (is_stored_row m.classes (defs_of bs)) tree.pending i row
      (subst (λ (defs : List BranchDef). list_all (is_stored_row m.classes defs) it.x.pending ≡ true) defs_are (h.fillable.trees t.name it.x it.there).rows) is

  -- ---- its rows

  module _ (xss : List (List (List ℕ))) (read : all_there (map (branch_entries (basket_bytes (record_at (keyed_records h.links)))) (map (branch_in_header t.fill.saved) t.fill.branches)) ≡ Some xss)
      (fit : rows_of (fitting_row m.classes (stated_defs (map (branch_in_header t.fill.saved) t.fill.branches))) t.fill.saved xss ≡ Some it.x.saved) where
    abbrev ps : List (List (List ℕ))
    ps = entries_by_branch (defs_of bs) (pending_rows (defs_of bs))

    rows_long_then : entry_count t.fill ≡ t.fill.saved + length (pending_rows (defs_of t.fill.branches))
    rows_long_then = omega (arith, pending_count, length-map it.x.pending (entries_of m.classes (defs_of t.fill.branches)))

    both : AreBoth h.links t.fill.saved (entry_count t.fill) t.fill.branches (pending_rows (defs_of t.fill.branches)) xss
    both = both_are h.links t.fill.saved t.fill.pending (entry_count t.fill) t.fill.branches [] (pending_rows (defs_of t.fill.branches)) xss rows_long_then read readable sound puts opens small

    saved_read : (e : ℕ) (row : Row) → e < t.fill.saved → slice_get it.x.saved e ≡ Some row → row_in m.classes (defs_of t.fill.branches) (entries_at (both_entries xss ps) e) ≡ Ok row
    saved_read e row low is =
        let there = row_there (λ (k : ℕ). fitting_row m.classes (stated_defs (map (branch_in_header saved) bs)) (entries_at xss k)) 0 saved e tree.saved row fit is in
        let own_row = row_read m.classes (stated_defs (map (branch_in_header saved) bs)) (entries_at xss e) row (ap (λ (k : ℕ). fitting_row m.classes (stated_defs (map (branch_in_header saved) bs)) (entries_at xss k)) (let k : e ≡ 0 + e = omega arith in k) ∙ there) in
        let defs = defs_said saved bs in
        let entries = saved_at saved e xss ps both.long low in
        (λ i. row_in m.classes (sym defs i) (entries i)) ∙ own_row

    pending_read : (e i : ℕ) (row : Row) → e ≡ t.fill.saved + i → slice_get it.x.pending i ≡ Some row → row_in m.classes (defs_of t.fill.branches) (entries_at (both_entries xss ps) e) ≡ Ok row
    pending_read e i row at is =
        let defs = defs_of bs in
        let written = slice_get-map (entries_of m.classes defs) tree.pending i ∙ ap (option_map (entries_of m.classes defs)) is in
        let again = row_again defs (pending_rows defs) i (entries_of m.classes defs row) written (one_each m.classes defs row []) in
        let entries = pending_at saved i e xss ps both.long both.many at ∙ again in
        ap (row_in m.classes defs) entries
        ∙ row_read m.classes defs (entries_of m.classes defs row) row (pending_rows_are_read m.classes defs row h.fillable.classes (stored i row is))

    read_at : (e : ℕ) (row : Row) → slice_get (it.x.saved ++ it.x.pending) e ≡ Some row → row_in m.classes (defs_of t.fill.branches) (entries_at (both_entries xss ps) e) ≡ Ok row
    read_at e row is = by (below_or_behind saved e)
      where
        by : (e < t.fill.saved) ⊎ ((i : ℕ) × (e ≡ t.fill.saved + i)) → row_in m.classes (defs_of t.fill.branches) (entries_at (both_entries xss ps) e) ≡ Ok row
        by (inl low) = saved_read e row low (sym (row_left tree.saved tree.pending e (omega (arith, low, saved_count))) ∙ is)
        by (inr (i, at)) = pending_read e i row at (sym (row_right tree.saved tree.pending i e (omega (arith, at, saved_count))) ∙ is)

    told_so : AreRowsOf s.classes h.links t.fill (rows_of_tree it.x)
    told_so = record {
      entries = both_entries xss ps;
      each = both.each;
      count = omega (arith, length-append it.x.saved it.x.pending, saved_count, pending_count);
      read = λ e row is. ap (λ (classes : List ClassDef). row_in classes (defs_of bs) (entries_at (both_entries xss ps) e)) (sym h.stands.classes) ∙ read_at e row is;
    }

  -- what a scan reads are the rows of the state's tree
  pub rows_told : (x : Tree) → get m.trees name ≡ Some x → AreRowsOf s.classes h.links t.fill (rows_of_tree x)
  unfolding saved_rows rows_by
  rows_told x there =
      let same : it.x ≡ x = same_Some it.x x (sym it.there ∙ ap (get m.trees) (found_name name t s.trees found) ∙ there) in
      subst (λ (y : Tree). AreRowsOf s.classes h.links t.fill (rows_of_tree y)) same (by (all_there (map (branch_entries (basket_bytes at_place)) (map (branch_in_header saved) bs))) refl rows_are)
    where
      by : (o : Option (List (List (List ℕ)))) → all_there (map (branch_entries (basket_bytes at_place)) (map (branch_in_header saved) bs)) ≡ o
          → option_and_then (rows_of (fitting_row m.classes (stated_defs (map (branch_in_header saved) bs))) saved) o ≡ Some it.x.saved → AreRowsOf s.classes h.links t.fill (rows_of_tree it.x)
      by None read fit = absurd cc
      by (Some xss) read fit = told_so xss read fit
