-- What the changes of a fill make of the state that a session stands for: it stays but for the row, which is pending.
use Rattle.std.proofs.Common.{◌≡◌, ℕ, ◌+◌, ◌*◌, ◌<◌, ◌≤◌, ◌^◌, List, [], ◌∷◌, length, map, take, Bool, true, false, cond, Option, Some, None, refl, sym, ap, subst, ◌∙◌, arith}
use Rattle.std.proofs.lemmas.{Bool.{ltb-false, or_parts}, List.{length-append, length-map, map-append}, Map.Views.{tells_apart}, Option.{same_Some}}
use Rattle.std.specs.{FinMap.{get, get-insert, insert}, List.{All, find}, Option.{option_map_or}, Ordering.{eq_by_cmp}, Str.{bytes_eq}}
use Rattle.rio_num.specs.Word.{is_item_text, name_order}
use Rattle.rio_num.proofs.BytesEq.{bytes_eq-sym}
use Rattle.rio_leaf.specs.declared.branch.BranchDef.{BranchDef}
use Rattle.rio_chain.specs.{Placing.{file_end, record_count}, Segments.{IsChain, Link, segment_of}, declared.segment.Segment.{Segment}}
use Rattle.rio_key.specs.Cut.{Cut, cut_of}
use Rattle.rio_machine.proofs.OrderLaws.{names_tie, names_total}
use Rattle.rio_machine.specs.{Limits.{branch_limit}, Rows.{entries_of}, State.{Row, State, Tree}, declared.command.Command.TheVariants.{Fill}}
use Rattle.rio_tree.specs.{WrittenLaws.{stated_defs}, declared.basket_at.BasketAt.{BasketAt}, declared.head.Branch.{Branch}}
use Rattle.rio_tree_table.specs.declared.table.KeptTree.{KeptTree}
use Rattle.rio_state.specs.{Closing.{KeptRecords, kept_with}, Contents.{file_classes}, DirectoryKeys.{AreKeysOf}, KeyedRecords.{info_key, keyed_records, record_at, top_keys, tree_records}, Left.{info_head}, Reads.{AreRecordsOf}}
use Rattle.rio_state.specs.{TreeLengths.{entries_by_branch, none_pending, pending_in}, Trees.{RecordsAt, all_places_named, are_named_once}}
use Rattle.rio_step.specs.{Refusing.{fill_row, refusal_of, rows_of_tree}, Runs.{saved_of}, Step.{state_behind, tree_filled}, Storable.{IsFillableTree}}
use Rattle.rio_fill.specs.Fill.{BranchFill, TreeFill, branches_added, defs_of, entry_count, row_added}
use Rattle.rio_effect.specs.Changes.{Change, all_changed}
use Rattle.rio_effect.specs.Garbage as garbage
use Rattle.rio_effect.specs.{BasketRuns.{AreBasketsPut, ArePlaced, CanAllBePut, places_put}, FillNeeds.{CanBeFilled, KeepsMoreRecords}, PutBaskets.{AreAllPut}, TreeChanges.{all_behind, basket_changes, baskets_placed, changes_of_fill, cuts_of_tree, full_entries, full_of_tree}, TreeCommands.{KeepsTree}}
use Rattle.rio_effect.proofs.{BasketRuns.{baskets_are_put, baskets_keep_all}, FillNeeds.{fill_held_grows, fill_keeps_baskets, short_branches}, Held.{chain_segments}, PutClasses.{short_item}, SavedHeads.{all_begin, all_put_still}, SavedRows.{one_each}, SavedTrees.{fill_saves_nothing}}
use Rattle.rio_recover.specs.Trees.{AreTreesOf}
use Rattle.rio_session.specs.{Due.{IsBranchSound}, Effects.{ArePassed, IsKeptAfter, TakesEffect, links_by}, Fillings.{BasketsPut, Done, branches_become, filling, filling_with, full_list, nothing_done, put_open}}
use Rattle.rio_session.specs.{Fills.{FilledTree, header_of, is_tree_of, put_baskets, put_in, put_of, tree_at_of, with_change}, Kept.{all_done, changes_by, kept_by}, Session.{HoldsPutRows, HoldsState, OpensRows, file_records}, SessionState.{SessionState, headers_of}, Sound.{IsSoundState}}
use Rattle.rio_session.proofs.{BasketsFit.{baskets_fit}, BasketsPlaced.{ArePut, BeginLater, baskets_behind, defs_put, headers_added, headers_put, puts_added, puts_are}, ChangesAlike.{AreAlike, all_alike, flagged_entries, puts_alike}}
use Rattle.rio_session.proofs.{CutFills.{cuts_behind, cuts_more, full_agree, full_have, opened, opened_added, rests}, FillLists.{ordered_of}, FilledChanges.{changed_other, changed_own, map_changed, put_other, put_own}, FilledFiles.{all_in}}
use Rattle.rio_session.proofs.{FillStands.{fill_behind}, FilledTrees.{IsFilledOf, fill_of_tree, found_among}, KeptHeaders.{kept_defs, kept_entries}, KeysWithout.{apart_name}, PutBehind.{begin_later, put_behind}, PutCounts.{count_put}, PutRows.{all_put_more, fresh_behind, placed_long}}
use Rattle.rio_session.proofs.{RowsKept.{header_same, named_same, record_same, rows_beside}, SizedRows.{full_fit, opens_fit}, FillableBehind.{fillable_behind}, TreeNamed.{filled_tree}, TreesOfFile.{headers_still}}

module _ (s : SessionState) (m : State) (file : List ℕ) (h : HoldsState s m file) (sound : IsSoundState s) (fresh : s.failed ≡ false) (soon : s.datime < 2 ^ 32)
    (name : List ℕ) (row : Row) (named : is_item_text name ≡ true) (free : refusal_of m (Fill name row) None ≡ None) where
  -- ---- the tree

  pub there : (x : Tree) × (get m.trees name ≡ Some x)
  there = filled_tree m name row free

  pub own : (t : FilledTree) × IsFilledOf s m name t there.0
  own = fill_of_tree s m h.stands name there.0 there.1

  abbrev x : Tree
  x = there.0

  abbrev t : FilledTree
  t = own.0

  abbrev bs : List BranchFill
  bs = own.0.fill.branches

  pub defs : defs_of own.0.fill.branches ≡ there.0.branches
  defs = ap (λ (k : KeptTree). k.branches) own.1.kept

  pub count_is : entry_count own.0.fill ≡ length (rows_of_tree there.0)
  count_is = omega (arith, ap (λ (k : KeptTree). k.saved) own.1.kept, ap (λ (k : KeptTree). k.pending) own.1.kept, length-append x.saved x.pending)

  pub tree_sound : All (IsBranchSound own.0.fill.saved own.0.fill.pending) own.0.fill.branches
  tree_sound = all_in (λ (u : FilledTree). All (IsBranchSound u.fill.saved u.fill.pending) u.fill.branches) t s.trees (sound.kept fresh).sound (found_among name t s.trees own.1.found)

  later : BeginLater own.0.fill.saved (entry_count own.0.fill) own.0.fill.branches
  later = begin_later own.0.fill.saved own.0.fill.pending bs tree_sound

  -- ---- what is put

  abbrev pub entries : List (List ℕ)
  entries = entries_of m.classes (defs_of own.0.fill.branches) (fill_row m row)

  -- the entries by the state's tree
  abbrev its_entries : List (List ℕ)
  its_entries = entries_of m.classes there.0.branches (fill_row m row)

  entries_are : entries_of m.classes (defs_of own.0.fill.branches) (fill_row m row) ≡ entries_of m.classes there.0.branches (fill_row m row)
  entries_are = ap (λ (ds : List BranchDef). entries_of m.classes ds (fill_row m row)) defs

  abbrev pub flags : List Bool
  flags = full_list own.0.fill.branches (entries_of m.classes (defs_of own.0.fill.branches) (fill_row m row))

  abbrev pub put : BasketsPut
  put = put_open s.datime name (entry_count own.0.fill) s.segments own.0.fill.branches flags

  abbrev change : TreeFill → TreeFill
  change f = row_added (branches_become put.branches f) entries

  abbrev pub kept_then : SessionState
  kept_then = (filling_with s name entries own.0.fill).kept

  pub filling_is : filling s m name row ≡ filling_with s name entries own.0.fill
  filling_is = ap (λ (o : Option FilledTree). option_map_or (λ (u : FilledTree). filling_with s name (entries_of m.classes (defs_of u.fill.branches) (fill_row m row)) u.fill) o (nothing_done s)) own.1.found

  pub kept_is : kept_by s m (Fill name row) ≡ kept_then
  kept_is = ap (λ (d : Done). d.kept) filling_is

  pub put_are : ArePut (entry_count own.0.fill) own.0.fill.branches flags put.branches
  put_are = puts_are s.datime name (entry_count own.0.fill) s.segments bs flags

  opens_now : opened own.0.fill.branches ≡ rests (cuts_of_tree m there.0)
  opens_now = h.opens name t x own.1.found own.1.there

  full_is : flagged_entries own.0.fill.branches flags ≡ full_of_tree m row there.0
  full_is = full_agree bs (cuts_of_tree m x) entries opens_now ∙ ap (full_entries (cuts_of_tree m x)) entries_are

  -- by the records
  abbrev pub cs : List Change
  cs = changes_of_fill s.datime m name row there.0

  pub alike : AreAlike h.links put cs
  alike =
      subst (λ (p : List Segment × (List BranchDef × List (List (List ℕ)))). AreAlike h.links (put_open s.datime name (entry_count own.0.fill) p.0 bs flags) (basket_changes s.datime name p.1.0 p.1.1))
      (λ i. (sym h.chain.same i, (defs i, full_is i)))
      (puts_alike s.datime name (entry_count own.0.fill) h.links bs flags (full_have bs entries))

  tree_stored : IsFillableTree m.classes there.0
  tree_stored = h.fillable.trees name x there.1

  few : length there.0.branches ≤ branch_limit
  few = ltb-false branch_limit (length there.0.branches) (or_parts _ _ tree_stored.few).0

  low : file_end (map segment_of h.links) ≤ 1999999996
  low = omega (arith, ap file_end h.chain.same, (sound.kept fresh).room)

  pub fit : CanAllBePut s.datime name h.links there.0.branches (full_of_tree m row there.0)
  fit =
      baskets_fit s.datime name h.links x.branches (full_of_tree m row x) soon (short_item name named) (short_branches x.branches tree_stored.stated)
      (full_fit x.branches (cuts_of_tree m x) its_entries (opens_fit m.classes x tree_stored)) (chain_segments file h.links h.chain.chain) (omega (arith, low, few))

  -- ---- the links

  links_are : (k : ℕ) → links_by s m (Fill name row) k h.links ≡ all_changed h.links (take k cs)
  links_are k = ap (λ (d : Done). all_done (take k d.changes) h.links) filling_is ∙ alike.done k

  pub all_are : all_done (changes_by s m (Fill name row)) h.links ≡ all_changed h.links cs
  all_are = ap (λ (d : Done). all_done d.changes h.links) filling_is ∙ all_alike h.links put cs alike

  many : length (changes_by s m (Fill name row)) ≡ length cs
  many = ap (λ (d : Done). length d.changes) filling_is ∙ alike.many

  passed_then : (k : ℕ) → ArePassed s m (Fill name row) k h.links → garbage.ArePassed h.links cs k
  passed_then k passed j low = let p = passed j low in (p.0, subst (λ (l : List Link). IsChain l p.0) (links_are j) p.1)

  early : (k : ℕ) → k ≤ length (changes_by s m (Fill name row)) → ArePassed s m (Fill name row) k h.links → AreRecordsOf (keyed_records (links_by s m (Fill name row) k h.links)) (saved_of m)
  early k within passed =
      let keep = baskets_keep_all s.datime name h.links x.branches (full_of_tree m row x) k fit (omega (arith, within, many)) (passed_then k passed) in
      subst (λ (l : List Link). AreRecordsOf (keyed_records l) (saved_of m)) (sym (links_are k)) (keep.records (saved_of m) h.records)

  -- ---- the state

  abbrev filled : Tree
  filled = tree_filled (fill_row m row) there.0

  abbrev behind : State
  behind = record m { trees = insert m.trees name (tree_filled (fill_row m row) there.0) }

  pub behind_is : state_behind m (Fill name row) ≡ behind
  behind_is = fill_behind s m h.stands name t x own.1 row

  cuts_then : cuts_of_tree behind filled ≡ cuts_more (cuts_of_tree m there.0) its_entries
  cuts_then =
      ap (λ (rows : List (List (List ℕ))). map cut_of (entries_by_branch x.branches rows)) (map-append (entries_of m.classes x.branches) x.pending (fill_row m row ∷ []))
      ∙ cuts_behind x.branches (map (entries_of m.classes x.branches) x.pending) its_entries

  get_then : (other : List ℕ) → get behind.trees other ≡ cond (eq_by_cmp name_order other name) (Some filled) (get m.trees other)
  get_then other = get-insert names_total m.trees name filled other

  other_name : (other : List ℕ) → eq_by_cmp name_order other name ≡ false → bytes_eq other name ≡ false
  other_name other e = bytes_eq-sym other name ∙ apart_name other name e

  -- ---- what is kept

  header_then : header_of (row_added (branches_become put.branches own.0.fill) entries) ≡ header_of own.0.fill
  header_then =
      let same = headers_added t.fill.saved put.branches entries ∙ headers_put t.fill.saved (entry_count t.fill) bs flags put.branches later put_are in
      λ i. record { entries = t.fill.saved; branches = same i }

  pub headers_then : headers_of kept_then ≡ headers_of s
  headers_then =
      map_changed name change tree_at_of t s.trees (ordered_of s.trees h.trees.ordered) own.1.found (λ i. record { name = t.name; head = header_then i })

  abbrev placed : List (List BasketAt)
  placed = baskets_placed s.datime name (length (rows_of_tree there.0)) h.links there.0.branches (full_of_tree m row there.0)

  own_placed : map (put_baskets own.0.fill.saved) put.branches ≡ all_behind (map (put_baskets own.0.fill.saved) own.0.fill.branches) placed
  own_placed =
      ap (λ (segments : List Segment). map (put_baskets t.fill.saved) (put_open s.datime name (entry_count t.fill) segments bs flags).branches) h.chain.same
      ∙ baskets_behind s.datime name t.fill.saved (entry_count t.fill) h.links bs flags (full_have bs entries) later
      ∙ (λ i. all_behind (map (put_baskets t.fill.saved) bs) (baskets_placed s.datime name (count_is i) h.links (defs i) (full_is i)))

  long : length placed ≡ length there.0.branches
  long = placed_long s.datime name (length (rows_of_tree x)) h.links x.branches (full_of_tree m row x)

  wide : length own.0.fill.branches ≡ length there.0.branches
  wide = sym (length-map bs (λ (b : BranchFill). b.def)) ∙ ap length defs

  pub put_then : put_in kept_then.trees name ≡ all_behind (put_in s.trees name) placed
  put_then =
      put_own name change t s.trees own.1.found
      ∙ put_behind t.fill put.branches entries placed tree_sound (long ∙ sym wide) own_placed
      ∙ ap (λ (o : Option FilledTree). all_behind (option_map_or (λ (u : FilledTree). put_of u.fill) o []) placed) (sym own.1.found)

  -- ---- where all baskets are put

  module _ (passed : garbage.ArePassed h.links cs (length cs)) where
    abbrev after : List Link
    after = all_changed h.links cs

    are : AreBasketsPut s.datime name (length (rows_of_tree there.0)) h.links there.0.branches (full_of_tree m row there.0)
    are = baskets_are_put s.datime name (length (rows_of_tree x)) h.links x.branches (full_of_tree m row x) fit passed

    can : CanBeFilled s.datime file h.links m name row there.0
    can = record {
      chain = h.chain.chain;
      records = h.records;
      items = h.items;
      fillable = h.fillable;
      tree = there.1;
      taken = free;
      put = fit;
      passed = passed;
    }

    k : KeepsTree (file_records s h.links) m name there.0
    k = h.rows name x there.1

    -- ---- the rows of the tree

    abbrev rows_by : List BranchDef → List (List (List ℕ))
    rows_by ds = map (entries_of m.classes ds) there.0.pending

    abbrev cuts_by : List BranchDef → List Cut
    cuts_by ds = map cut_of (entries_by_branch ds (rows_by ds))

    abbrev row_by : List BranchDef → List (List ℕ)
    row_by ds = entries_of m.classes ds (fill_row m row)

    abbrev f : RecordsAt
    f = record_at (keyed_records after)

    said : stated_defs k.head.branches ≡ there.0.branches
    said = kept_defs file (file_records s h.links) m name x h.chain.chain h.records h.items there.1 k

    entries_said : length there.0.saved ≡ k.head.entries
    entries_said = kept_entries file (file_records s h.links) m name x h.chain.chain h.records h.items there.1 k

    still : AreAllPut f k.head.entries k.head.branches (cuts_by (stated_defs k.head.branches)) (put_in s.trees name)
    still =
        subst (λ (ds : List BranchDef). AreAllPut f k.head.entries k.head.branches (cuts_by ds) (put_in s.trees name)) (sym said)
        (all_put_still (record_at (keyed_records h.links)) f are.leaves.hold k.head.entries k.head.branches (cuts_of_tree m x) (put_in s.trees name) k.put)

    placed_said : ArePlaced f (length (rows_of_tree there.0)) (stated_defs k.head.branches) (full_entries (cuts_by (stated_defs k.head.branches)) (row_by (stated_defs k.head.branches))) placed
    placed_said = subst (λ (ds : List BranchDef). ArePlaced f (length (rows_of_tree x)) ds (full_entries (cuts_by ds) (row_by ds)) placed) (sym said) are.placed

    as_many : length (rows_of_tree there.0) ≡ k.head.entries + length (rows_by (stated_defs k.head.branches))
    as_many = omega (arith, entries_said, length-append x.saved x.pending, length-map x.pending (entries_of m.classes (stated_defs k.head.branches)))

    as_wide : length (row_by (stated_defs k.head.branches)) ≡ length k.head.branches
    as_wide = one_each m.classes (stated_defs k.head.branches) (fill_row m row) [] ∙ length-map k.head.branches (λ (b : Branch). b.def)

    as_long : length placed ≡ length k.head.branches
    as_long = long ∙ ap length (sym said) ∙ length-map k.head.branches (λ (b : Branch). b.def)

    all_put : AreAllPut f k.head.entries k.head.branches (cuts_more (cuts_of_tree m there.0) its_entries) (all_behind (put_in s.trees name) placed)
    all_put =
        subst (λ (ds : List BranchDef). AreAllPut f k.head.entries k.head.branches (cuts_more (cuts_by ds) (row_by ds)) (all_behind (put_in s.trees name) placed)) said
        (all_put_more f k.head.entries (length (rows_of_tree x)) [] k.head.branches (rows_by (stated_defs k.head.branches)) (row_by (stated_defs k.head.branches)) (put_in s.trees name) placed
        as_many as_wide as_long k.readable still placed_said)

    new_fresh : are_named_once (all_places_named (file_classes (info_key (keyed_records h.links))) (tree_records (top_keys (keyed_records h.links)))) (places_put (all_behind (put_in s.trees name) placed)) ≡ true
    new_fresh =
        fresh_behind (keyed_records h.links) (saved_of m) h.records (put_in s.trees name) placed
        (λ p i. all_begin (keyed_records h.links) k.head.entries k.head.branches (cuts_of_tree m x) (put_in s.trees name) k.put p i) k.fresh are.new

    own_rows : KeepsTree (file_records kept_then after) behind name filled
    own_rows =
        let named = named_same h.links after are.leaves are.alike.info in
        record {
          r = k.r;
          record_is = record_same h.links after are.leaves are.alike.info name ∙ k.record_is;
          head = k.head;
          head_is = header_same h.links after are.leaves are.alike.info k.r ∙ k.head_is;
          readable = k.readable;
          fits = k.fits;
          put = subst (λ (p : List Cut × List (List BasketAt)). AreAllPut f k.head.entries k.head.branches p.0 p.1) (λ i. (sym cuts_then i, sym put_then i)) all_put;
          fresh = (λ i. are_named_once (named i) (places_put (put_then i))) ∙ new_fresh;
        }

    -- ---- and those of the others

    rows_then : HoldsPutRows kept_then behind after
    rows_then other y e = by (eq_by_cmp name_order other name) refl (sym (get_then other) ∙ e)
      where
        by : (b : Bool) → eq_by_cmp name_order other name ≡ b → cond b (Some filled) (get m.trees other) ≡ Some y → KeepsTree (file_records kept_then after) behind other y
        by true tie e =
            let same = sym (tells_apart names_tie other name tie) in
            let tree : filled ≡ y = same_Some filled y e in
            subst (λ (p : List ℕ × Tree). KeepsTree (file_records kept_then after) behind p.0 p.1) (λ i. (same i, tree i)) own_rows
        by false apart e =
            rows_beside h.links after are.leaves are.alike.info (put_in s.trees) (put_in kept_then.trees) m behind other y y (h.rows other y e)
            (put_other name change other s.trees (other_name other apart)) refl

    opens_own : opened (branches_added put.branches entries) ≡ rests (cuts_of_tree behind filled)
    opens_own =
        let row_long = one_each m.classes (defs_of bs) (fill_row m row) [] ∙ length-map bs (λ (b : BranchFill). b.def) in
        opened_added (entry_count t.fill) bs (cuts_of_tree m x) entries put.branches row_long opens_now put_are
        ∙ ap (λ (es : List (List ℕ)). rests (cuts_more (cuts_of_tree m x) es)) entries_are
        ∙ ap rests (sym cuts_then)

    opens_then : OpensRows kept_then behind
    opens_then other u y found e = by (eq_by_cmp name_order other name) refl (sym (get_then other) ∙ e)
      where
        by : (b : Bool) → eq_by_cmp name_order other name ≡ b → cond b (Some filled) (get m.trees other) ≡ Some y → opened u.fill.branches ≡ rests (cuts_of_tree behind y)
        by true tie e =
            let same = tells_apart names_tie other name tie in
            let tree : filled ≡ y = same_Some filled y e in
            let changed : ◌≡◌ {A = FilledTree} (record t { fill = change t.fill }) u =
            same_Some _ u (sym (changed_own name change t s.trees own.1.found) ∙ ap (λ (n : List ℕ). find (is_tree_of n) kept_then.trees) (sym same) ∙ found) in
            sym (ap (λ (v : FilledTree). opened v.fill.branches) changed) ∙ opens_own ∙ ap (λ (z : Tree). rests (cuts_of_tree behind z)) tree
        by false apart e = h.opens other u y (sym (changed_other name change other s.trees (other_name other apart)) ∙ found) e

    -- ---- the end

    trees_then : AreTreesOf (keyed_records after) (headers_of kept_then)
    trees_then =
        subst (AreTreesOf (keyed_records after)) (sym headers_then)
        (headers_still (keyed_records h.links) (keyed_records after) (headers_of s) are.alike.info (ap tree_records are.leaves.tops) h.trees)

    keeps : KeepsMoreRecords (kept_with (pending_in m) h.links) (kept_with (pending_in (state_behind m (Fill name row))) after) (length cs)
    keeps = fill_keeps_baskets s.datime file h.links m name row x can

    count_then : (kept_with (pending_in (state_behind m (Fill name row))) after).count ≡ record_count kept_then.segments
    count_then = omega (arith, keeps.count, h.count, count_put s.datime name (entry_count t.fill) s.segments bs flags, alike.many)

    pub fill_is_kept : IsKeptAfter s m (Fill name row) h.links after
    fill_is_kept =
        let kept = sym kept_is in
        let state = sym behind_is in
        record {
          keys = subst (λ (v : SessionState). AreKeysOf (keyed_records after) v.heads) kept (are.alike.keys s.heads h.keys);
          records = subst (λ (n : State). AreRecordsOf (keyed_records after) n) (sym (fill_saves_nothing m name row)) (are.alike.records (saved_of m) h.records);
          trees = subst (λ (v : SessionState). AreTreesOf (keyed_records after) (headers_of v)) kept trees_then;
          items = are.alike.items h.items;
          fillable = fillable_behind m (Fill name row) named free h.fillable;
          rows = subst (λ (p : SessionState × State). HoldsPutRows p.0 p.1 after) (λ i. (kept i, state i)) rows_then;
          opens = subst (λ (p : SessionState × State). OpensRows p.0 p.1) (λ i. (kept i, state i)) opens_then;
          info = ap (λ (v : SessionState). v.info) kept_is ∙ h.info ∙ ap info_head (sym are.alike.info);
          name = ap (λ (r : KeptRecords). r.name) (are.alike.kept none_pending);
          count = count_then ∙ ap (λ (v : SessionState). record_count v.segments) kept;
          held = fill_held_grows s.datime file h.links m name row x can;
        }

  ends : ArePassed s m (Fill name row) (length (changes_by s m (Fill name row))) h.links → IsKeptAfter s m (Fill name row) h.links (all_done (changes_by s m (Fill name row)) h.links)
  ends passed =
      let all : ArePassed s m (Fill name row) (length cs) h.links = λ j low. passed j (omega (arith, low, many)) in
      subst (IsKeptAfter s m (Fill name row) h.links) (sym all_are) (fill_is_kept (passed_then (length cs) all))

  pub fill_takes_effect_on : TakesEffect s m (Fill name row) h.links
  fill_takes_effect_on = record {
    turn = length (changes_by s m (Fill name row));
    within = omega arith;
    early = early;
    late = λ k later low passed. absurd (omega (arith, later, low));
    ends = ends;
  }
