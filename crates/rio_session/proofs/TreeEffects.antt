-- What the changes of a tree command make of the state that a session stands for: the class list is put where there is none, and then the
-- header, with which the tree is there.
use Rattle.std.proofs.Common.{◌≡◌, inl, inr, ℕ, zero, suc, ◌+◌, ◌<◌, ◌≤◌, ◌^◌, ◌∙◌, ◌==◌, ◌&&◌, List, [], ◌∷◌, ◌++◌, length, map, take, Bool, true, false, cond, not, Option, Some, None, refl, sym, ap, subst, arith}
use Rattle.std.proofs.{Math.Seq.{take-append_seam}, lemmas.{Bool.{and_parts, cases_lt, eqb-true, or_parts}, List.{Elements.{All-cons, All-head, All-nil, All-tail}, length-append, Sorted.{IsPermutation-trans}, Sums.{fold-append, sum_by-cons}, take_all}, Option.{same_Some}, Slice.Eq.{bytes_eq-Decides}}}
use Rattle.std.specs.{Prelude.{◌||◌, if◌then◌else◌, is_some}, Cmp.{eq_by_cmp_equiv}, FinMap.{get, get-insert, insert}, List.{All, find, flat_map, list_all, list_any}, Option.{option_map, option_map_or}, Str.{bytes_eq}}
use Rattle.rio_num.specs.Word.{is_item_text}
use Rattle.rio_format.specs.declared.class.ClassDef.{ClassDef}
use Rattle.rio_leaf.specs.{Stated.{are_stated_branches}, declared.branch.BranchDef.{BranchDef}}
use Rattle.rio_key.specs.declared.head.KeyHead.{KeyHead}
use Rattle.rio_dir.specs.Table.{with_head}
use Rattle.rio_model.specs.{Declaring.{shape_lacks_class}, StateClasses.{StateClasses}}
use Rattle.rio_chain.specs.{Changes.{with_record}, Placing.{IsPlaceFor, place_of, record_count, with_segment}, Segments.{IsChain, Link, segment_of}}
use Rattle.rio_close.proofs.Fitting.{count_with, place_low}
use Rattle.rio_machine.proofs.OrderLaws.{names_total}
use Rattle.rio_machine.specs.{Limits.{has_all_items, has_many_branches}, State.{State, Tree, names_item, names_object}, declared.command.Command.{Command, TheVariants.{Tree as MakeTree}}, declared.refusal.Refusal.TheVariants.{BadName, NoSuchClass, TooMany}}
use Rattle.rio_tree.specs.{WrittenLaws.{stated_defs}, declared.basket_at.BasketAt.{BasketAt}, declared.head.TreeHead.{TreeHead}}
use Rattle.rio_state.specs.{Closing.{close_need, held_with, kept_with}, Contents.{FileClasses, file_classes}, DirectoryKeys.{AreKeysOf}, KeyedRecords.{KeyedRecord, begins_at as has_at, info_key, is_tree_record, keyed_records, record_at, top_keys, tree_records}, Left.{info_head}}
use Rattle.rio_state.specs.{OneMore.{HasOneMoreIn, keyed_bytes}, Reads.{AreRecordsOf}, Referred.{is_tree_item}, TreeLengths.{PendingRows, none_pending, pending_in}, Trees.{are_named_once, basket_places, header_in, places_named}}
use Rattle.rio_state.proofs.{Insertion.{find_more, find_same}, Members.{filter_in, none_at, none_from}, MoreRecords.{record_more}, Stays.{info_same}}
use Rattle.rio_step.proofs.{ApartLaws.{no_name_in_use, none_at as test_at, not_refused}, ClosedLaws.{saved_keeps_the_rest}}
use Rattle.rio_step.specs.{Costs.{cost_of}, Refusing.{has_bad_name, has_too_many, is_list_name, lacks_class, refusal_of, refusals}, Runs.{saved_of, saved_tree as tree_without_pending}, Statable.{is_statable}, Step.{new_tree, state_behind}}
use Rattle.rio_effect.specs.{AllItems.{AreAllItems, IsNewName}, BasketRuns.{places_put}, Changes.{Change, all_changed, changed, lengths_of}, FileRuns.{mark_of_changes}, HeaderRecords.{HeadersHaveRecords, IsHeaderRecord}, PutBaskets.{AreAllPut}}
use Rattle.rio_effect.specs.Garbage as garbage
use Rattle.rio_effect.specs.{TreeChanges.{changes_of_tree, cuts_of_tree, header_added, list_if_none}, TreeCommands.{KeepsTree}, TreeMade.{CanBeMade, TreeEffect, TreeEnd, links_made, tree_place}}
use Rattle.rio_effect.specs.TreeRecords.{header_key, header_record, new_branch, new_branches, new_head}
use Rattle.rio_effect.proofs.{AllItems.{AllItems, items_more}, FileChanges.{segments_follow}, FreeNames.{no_key_named}, HeaderLess.{headers_less}, HeaderMore.{counts}, Needs.{not_info}, NewHeaders.{new_defs, new_places}, OldLists.{place_apart}, TreeMade.{tree_ends, tree_takes_effect}}
use Rattle.rio_recover.proofs.TreeOrder.{ordered_with, with_moved}
use Rattle.rio_recover.specs.{Closable.{is_sized, list_count}, TreeTable.{has_name, is_name_before, with_tree}, Trees.{AreTreesOf, trees_at}, declared.trees.TreeAt.{TreeAt}}
use Rattle.rio_fill.specs.Fill.{BranchFill, branch_fill_of}
use Rattle.rio_session.specs.{Due.{written_count}, Effects.{ArePassed, IsKeptAfter, TakesEffect, links_by}, Fillings.{BasketsPut, Done, LinksChange, both_done, heading, listing_if_none, making}}
use Rattle.rio_session.specs.{Fills.{FilledTree, is_tree_of, kept_tree_of, put_in, put_of, tree_at_of, with_filled}, Items.{IsOfKeys}, Kept.{all_done, changes_by, kept_by}, Marks.{basket_total, command_lengths, mark_of_command, state_need}, Session.{HoldsPutRows, HoldsState, OpensRows, file_records}, SessionState.{SessionState, headers_of}, Sound.{IsSoundState}}
use Rattle.rio_session.proofs.{ChangesAlike.{AreAlike}, CutFills.{opened, rests}, CutLengths.{HasBegun}, FileNeeds.{mark_by, mark_by_file, mark_by_kept, need_behind}, FilledFiles.{AreFilled, all_begun, filled_after}, FillLists.{header_found, headers_with, kept_found}, HeadersWritten.{header_written, new_fits, new_is_readable, none_named}, NewFills.{found_other, found_own, new_filled, new_kept, new_opened, new_put, new_said, none_mapped}}
use Rattle.rio_session.proofs.{FillSums.{sum_with}, Keeps.{all_with, length_with}, Needs.{baskets_counted}, SaveAgrees.{header_sized}}
use Rattle.rio_session.proofs.{NewTrees.{one_tree_more, tree_by}, RowsBeside.{hold_with}, RowsKept.{named_in, rows_still}, RowsStay.{tree_rows_stay}, SaveChanges.{done_behind, header_step, lengths_behind}, SaveEffects.{header_at, header_places}, SaveRows.{other_tree}}
use Rattle.rio_session.proofs.{FillableBehind.{fillable_behind}, TreeListed.{IsListed, kept_on, list_long, list_low, listed_stands, short}, TreeStands.{none_kept, tree_stands}}

-- the name is that of the first record, whatever rows are pending
name_same : (pending other : PendingRows) (links : List Link) → (kept_with pending links).name ≡ (kept_with other links).name
unfolding kept_with
name_same pending other links = refl

same_classes : (m : State) → (saved_of m).classes ≡ m.classes
unfolding saved_of
same_classes m = refl

same_objects : (m : State) (name : List ℕ) → names_object (saved_of m) name ≡ names_object m name
unfolding saved_of
same_objects m name = refl

is_some_map : (o : Option Tree) → is_some (option_map tree_without_pending o) ≡ is_some o
is_some_map None = refl
is_some_map (Some t) = refl

-- without its pending rows a state has the same items
same_items : (m : State) (name : List ℕ) → names_item (saved_of m) name ≡ names_item m name
same_items m name =
    let objects = same_objects m name in
    let trees = ap is_some (saved_keeps_the_rest m name) ∙ is_some_map (get m.trees name) in
    λ i. objects i || trees i

-- one that gives nothing changes nothing
none_between : {A : Type 0} (f : A → List ℕ) (x : A) (front back : List A) → f x ≡ [] → flat_map f (front ++ x ∷ back) ≡ flat_map f (front ++ back)
none_between f x [] back none = ap (λ (l : List ℕ). l ++ flat_map f back) none
none_between f x (y ∷ front) back none = ap (λ (l : List ℕ). f y ++ l) (none_between f x front back none)

-- ---- a new tree among others

pub all_filled : (P : FilledTree → Type 0) (t : FilledTree) → P t → (ts : List FilledTree) → All P ts → All P (with_filled t ts)
all_filled P t own [] all = All-cons P t [] own all
all_filled P t own (u ∷ us) all = by (is_name_before u.name t.name) (all_filled P t own us (All-tail P u us all))
  where
    by : (b : Bool) → All P (with_filled t us) → All P (if b then u ∷ with_filled t us else t ∷ u ∷ us)
    by true later = All-cons P u (with_filled t us) (All-head P u us all) later
    by false later = All-cons P t (u ∷ us) own all

-- nothing of it is written
new_begun : (classes : List ClassDef) (before branches : List BranchDef) → All (HasBegun 0 0) (map branch_fill_of (new_branches classes before branches))
new_begun classes before [] = All-nil (HasBegun 0 0)
new_begun classes before (b ∷ bs) = All-cons (HasBegun 0 0) (branch_fill_of (new_branch classes before b)) (map branch_fill_of (new_branches classes (before ++ b ∷ []) bs)) refl (new_begun classes (before ++ b ∷ []) bs)

new_unwritten : (classes : List ClassDef) (before branches : List BranchDef) → written_count (map branch_fill_of (new_branches classes before branches)) ≡ 0
new_unwritten classes before [] = refl
new_unwritten classes before (b ∷ bs) =
    let rest = new_unwritten classes (before ++ b ∷ []) bs in
    omega (arith, rest, sum_by-cons (λ (c : BranchFill). length c.baskets) (branch_fill_of (new_branch classes before b)) (map branch_fill_of (new_branches classes (before ++ b ∷ []) bs)))

module _ (headers : HeadersHaveRecords) (s : SessionState) (m : State) (file : List ℕ) (h : HoldsState s m file) (sound : IsSoundState s) (fresh : s.failed ≡ false) (soon : s.datime < 2 ^ 32)
    (name : List ℕ) (branches : List BranchDef) (statable : is_statable (MakeTree name branches) ≡ true) (free : refusal_of m (MakeTree name branches) None ≡ None) where
  abbrev c : Command
  c = MakeTree name branches

  pub item : is_item_text name ≡ true
  item = (and_parts (is_item_text name) (are_stated_branches branches) statable).0

  stated : are_stated_branches branches ≡ true
  stated = (and_parts (is_item_text name) (are_stated_branches branches) statable).1

  -- ---- what isn't refused

  not_list : is_list_name name ≡ false
  unfolding refusal_of
  not_list = not_refused (has_bad_name (MakeTree name branches)) BadName (test_at (refusals m (MakeTree name branches) None) 1 free)

  known : list_any (λ b. shape_lacks_class m.classes b.shape) branches ≡ false
  unfolding refusal_of
  known = not_refused (lacks_class m (MakeTree name branches)) NoSuchClass (test_at (refusals m (MakeTree name branches) None) 7 free)

  few : has_many_branches branches ≡ false
  unfolding refusal_of
  few = (or_parts (has_all_items m) (has_many_branches branches) (not_refused (has_too_many m (MakeTree name branches)) TooMany (test_at (refusals m (MakeTree name branches) None) 17 free))).1

  pub unnamed : names_item m name ≡ false
  unnamed = no_name_in_use m (MakeTree name branches) None free

  -- ---- the class list

  abbrev first : Done
  first = listing_if_none s m s.info

  abbrev added_list : List Change
  added_list = list_if_none s.datime (info_key (keyed_records h.links)) m.classes

  abbrev listed : List Link
  listed = all_changed h.links (list_if_none s.datime (info_key (keyed_records h.links)) m.classes)

  pub is : IsListed s m h.links (listing_if_none s m s.info) (list_if_none s.datime (info_key (keyed_records h.links)) m.classes)
  is = listed_stands s m file h sound fresh soon

  abbrev classes_then : FileClasses
  classes_then = file_classes (info_key (keyed_records listed))

  -- ---- the header

  abbrev pub head : TreeHead
  head = new_head m.classes branches

  abbrev pub n : ℕ
  n = length (header_record 0 s.datime name 1 (new_head m.classes branches))

  abbrev pub place : ℕ
  place = place_of (map segment_of (all_changed h.links (list_if_none s.datime (info_key (keyed_records h.links)) m.classes))) (length (header_record 0 s.datime name 1 (new_head m.classes branches)))

  abbrev bytes : List ℕ
  bytes = header_record place s.datime name 1 head

  abbrev key : KeyHead
  key = header_key place s.datime name 1 head

  abbrev x : KeyedRecord
  x = keyed_bytes key bytes

  place_is : tree_place s.datime h.links m name branches ≡ place
  place_is = ap (place_of (map segment_of listed)) (header_places 0 s.datime name 1 head)

  place_short : place < 2 ^ 32
  place_short = omega (arith, place_low (map segment_of listed) place n is.shape refl, is.low)

  defs : stated_defs head.branches ≡ branches
  defs = new_defs m.classes [] branches

  their_classes : classes_then.declared ≡ m.classes
  their_classes = sym is.records.stand.classes ∙ same_classes m

  state_classes_are : StateClasses m.classes
  state_classes_are = subst StateClasses (sym h.stands.classes) sound.classes

  can_be : are_stated_branches branches && not (has_many_branches branches) && not (list_any (λ b. shape_lacks_class m.classes b.shape) branches) ≡ true
  can_be = λ i. stated i && not (few i) && not (known i)

  pub written : IsHeaderRecord (file_classes (info_key (keyed_records listed))) place s.datime name 1 (new_head m.classes branches)
  written =
      header_written headers classes_then place s.datime name 1 head item not_list
      (subst (λ (p : List ClassDef × List BranchDef). are_stated_branches p.1 && not (has_many_branches p.1) && not (list_any (λ b. shape_lacks_class p.0 b.shape) p.1) ≡ true) (λ i. (sym their_classes i, sym defs i)) can_be)
      is.described (new_fits m.classes branches state_classes_are) (new_is_readable m.classes branches) place_short soon (omega arith) (omega (arith, none_named m.classes [] branches))

  pub can : CanBeMade s.datime file h.links m name branches
  can = record {
    chain = h.chain.chain;
    records = h.records;
    items = h.items;
    fillable = h.fillable;
    taken = free;
    item = item;
    soon = soon;
    short = short s m file h sound fresh soon;
    low = subst (λ (k : ℕ). place_of (map segment_of h.links) k < 2 ^ 32) (sym (list_long s.datime m.classes)) (list_low s m file h sound fresh soon);
    written = subst (λ (p : ℕ). IsHeaderRecord classes_then p s.datime name 1 head) (sym place_is) written;
  }

  -- ---- the changes

  abbrev making_by : SessionState → Done
  making_by kept = both_done first (heading kept name head)

  making_is : making s m name branches ≡ making_by (kept_on s listed)
  making_is = ap making_by is.kept

  abbrev cs : List Change
  cs = changes_of_tree s.datime h.links m name branches

  abbrev all_segments : BasketsPut
  all_segments = record { lengths = first.lengths; changes = first.changes; segments = first.kept.segments; branches = [] }

  list_alike : AreAlike h.links all_segments added_list
  list_alike = record { lengths = is.lengths; many = is.many; done = is.done; segments = ap (λ (k : SessionState). k.segments) is.kept }

  header_change : (j : ℕ) → all_done (take j (with_record place bytes ∷ [])) listed ≡ all_changed listed (take j (header_added s.datime name 1 head ∷ []))
  header_change zero = refl
  header_change (suc zero) = header_step listed s.datime name 1 head
  header_change (suc (suc j)) = header_step listed s.datime name 1 head

  pub links_are : (k : ℕ) → links_by s m (MakeTree name branches) k h.links ≡ links_made s.datime h.links m name branches k
  links_are k =
      ap (λ (d : Done). all_done (take k d.changes) h.links) making_is
      ∙ done_behind h.links all_segments added_list list_alike (with_record place bytes ∷ []) (header_added s.datime name 1 head ∷ []) header_change k

  pub many : length (changes_by s m (MakeTree name branches)) ≡ length (changes_of_tree s.datime h.links m name branches)
  many =
      ap (λ (d : Done). length d.changes) making_is
      ∙ length-append first.changes (with_record place bytes ∷ [])
      ∙ ap (λ (k : ℕ). k + 1) is.many
      ∙ sym (length-append added_list (header_added s.datime name 1 head ∷ []))

  passed_by : (k : ℕ) → ArePassed s m (MakeTree name branches) k h.links → garbage.ArePassed h.links (changes_of_tree s.datime h.links m name branches) k
  passed_by k passed j low = let p = passed j low in (p.0, subst (λ (l : List Link). IsChain l p.0) (links_are j) p.1)

  effect : TreeEffect s.datime h.links m name branches
  effect = tree_takes_effect s.datime file h.links m name branches can

  long : length cs ≡ length added_list + 1
  long = length-append added_list (header_added s.datime name 1 head ∷ [])

  -- ---- what is kept

  abbrev t : FilledTree
  t = new_filled name m.classes branches

  abbrev kept_then : SessionState
  kept_then = (making_by (kept_on s listed)).kept

  kept_is : kept_by s m (MakeTree name branches) ≡ kept_then
  kept_is = ap (λ (d : Done). d.kept) making_is

  abbrev ended : List Link
  ended = with_record place bytes listed

  abbrev mid : List KeyedRecord
  mid = keyed_records listed

  abbrev final : List KeyedRecord
  final = keyed_records ended

  all_made : all_changed h.links cs ≡ ended
  all_made = fold-append changed h.links added_list (header_added s.datime name 1 head ∷ []) ∙ sym (header_step listed s.datime name 1 head)

  all_is : all_done (changes_by s m (MakeTree name branches)) h.links ≡ ended
  all_is =
      let all = changes_by s m (MakeTree name branches) in
      ap (λ (l : List LinksChange). all_done l h.links) (sym (take_all (length all) all (omega arith)))
      ∙ links_are (length all)
      ∙ ap (λ (k : ℕ). all_changed h.links (take k cs)) many
      ∙ ap (all_changed h.links) (take_all (length cs) cs (omega arith))
      ∙ all_made

  abbrev behind : State
  behind = record m { trees = insert m.trees name (new_tree branches) }

  -- ---- the header among the others

  key_name : key.name ≡ name
  unfolding header_key
  key_name = refl

  key_cycle : key.cycle ≡ 1
  unfolding header_key
  key_cycle = refl

  key_seek : key.seek ≡ place
  unfolding header_key
  key_seek = refl

  more : HasOneMoreIn mid final x
  more = record_more listed place bytes key written.read

  fresh_name : IsNewName listed name
  fresh_name = no_key_named mid (saved_of m) name is.records (same_items m name ∙ unnamed)

  fresh_key : IsNewName listed key.name
  fresh_key = subst (λ (k : List ℕ). IsNewName listed k) (sym key_name) fresh_name

  counted : is_tree_item (top_keys final) x ≡ true
  counted = counts mid final x more (inr fresh_key) is.items written.top written.tree

  final_items : AllItems final
  final_items = items_more mid final x more (inr fresh_key) is.items

  info_then : info_key final ≡ info_key mid
  info_then = info_same mid final x more (not_info key written.top)

  abbrev old_headers : List KeyedRecord
  old_headers = tree_records (top_keys mid)

  abbrev new_headers : List KeyedRecord
  new_headers = tree_records (top_keys final)

  one_more : HasOneMoreIn old_headers new_headers x
  one_more = headers_less final mid x more final_items counted

  alone : list_any (λ r. bytes_eq r.head.name name) old_headers ≡ false
  alone = none_from (λ r. bytes_eq r.head.name name) old_headers (λ r i e.
      none_at (λ k. bytes_eq k.head.name name) r (top_keys mid) fresh_name (filter_in (is_tree_record (top_keys mid)) r (top_keys mid) i).0 e)

  own_places : places_named classes_then x ≡ []
  unfolding places_named
  own_places = ap (λ (o : Option TreeHead). option_map_or basket_places o []) written.header ∙ new_places m.classes [] branches

  named_then : named_in ended ≡ named_in listed
  named_then =
      (λ i. flat_map (places_named (file_classes (info_then i))) (one_more.after i))
      ∙ none_between (places_named classes_then) x one_more.front one_more.back own_places
      ∙ ap (flat_map (places_named classes_then)) (sym one_more.before)

  -- ---- the trees

  pub none_filled : find (is_tree_of name) s.trees ≡ None
  none_filled = none_mapped kept_tree_of (find (is_tree_of name) s.trees) (sym (kept_found name s.trees) ∙ none_kept s m h.stands name branches unnamed)

  abbrev its : TreeAt
  its = tree_by x head

  headers_then : headers_of kept_then ≡ with_tree its (headers_of s)
  headers_then =
      let said = new_said name m.classes branches in
      headers_with t s.trees ∙ (λ i. with_tree (record { name = sym key_name i; head = said i }) (headers_of s))

  none_headed : find (has_name its.name) (headers_of s) ≡ None
  none_headed = ap (λ (k : List ℕ). find (has_name k) (headers_of s)) key_name ∙ header_found name s.trees ∙ ap (option_map tree_at_of) none_filled

  trees_then : AreTreesOf final (headers_of kept_then)
  trees_then =
      subst (AreTreesOf final) (sym headers_then) (record {
        ordered = ordered_with its (headers_of s) is.trees.ordered none_headed;
        each = IsPermutation-trans (trees_at (file_classes (info_key final)) new_headers) (its ∷ headers_of s) (with_tree its (headers_of s))
            (one_tree_more mid final x head (headers_of s) more final_items counted info_then written.header is.trees) (with_moved its (headers_of s));
      })

  own_put : put_in kept_then.trees name ≡ []
  own_put = ap (λ (o : Option FilledTree). option_map_or (λ (u : FilledTree). put_of u.fill) o []) (found_own t s.trees none_filled)

  there_then : get (insert m.trees name (new_tree branches)) name ≡ Some (new_tree branches)
  there_then =
      get-insert names_total m.trees name (new_tree branches) name ∙ ap (λ (b : Bool). cond b (Some (new_tree branches)) (get m.trees name)) ((eq_by_cmp_equiv names_total).refl name)

  opens_then : OpensRows kept_then behind
  opens_then other u y found e = by (bytes_eq name other) refl
    where
      by : (b : Bool) → bytes_eq name other ≡ b → opened u.fill.branches ≡ rests (cuts_of_tree behind y)
      by true tie =
          let same : name ≡ other = (bytes_eq-Decides name other).0 tie in
          let tree : new_tree branches ≡ y = same_Some (new_tree branches) y (sym there_then ∙ ap (get behind.trees) same ∙ e) in
          let its_fill : ◌≡◌ {A = FilledTree} t u = same_Some t u (sym (found_own t s.trees none_filled) ∙ ap (λ (k : List ℕ). find (is_tree_of k) kept_then.trees) same ∙ found) in
          sym (ap (λ (v : FilledTree). opened v.fill.branches) its_fill) ∙ new_opened name m.classes branches m.classes ∙ ap (λ (z : Tree). rests (cuts_of_tree behind z)) tree
      by false apart = h.opens other u y (sym (found_other t other apart s.trees) ∙ found) (sym (other_tree m name other (new_tree branches) apart) ∙ e)

  -- ---- where a file had the class list

  module _ (image : List ℕ) (chain : IsChain listed image) where
    rule : IsPlaceFor (map segment_of listed) (length bytes) place
    rule = inl (ap (place_of (map segment_of listed)) (sym (header_at place s.datime name 1 head)))

    free_place : has_at mid x.head.seek ≡ false
    free_place = ap (has_at mid) key_seek ∙ none_from (λ r. r.head.seek == place) mid (λ r i e. place_apart image place (length bytes) r listed chain rule i (eqb-true r.head.seek place e))

    other_rows : (other : List ℕ) (y : Tree) → bytes_eq name other ≡ false → get m.trees other ≡ Some y → KeepsTree (file_records kept_then ended) behind other y
    other_rows other y apart e =
        let places = places_put (put_in s.trees other) in
        let amid = tree_rows_stay s s m m h.links listed is.alike other y y (h.rows other y e) refl refl (is.still places) in
        rows_still (file_records s listed) (file_records kept_then ended) m behind other y y amid
        (find_same (λ r. bytes_eq r.head.name other) x old_headers new_headers one_more (ap (λ (k : List ℕ). bytes_eq k other) key_name ∙ apart) ∙ amid.record_is)
        (ap (λ (o : Option KeyedRecord). header_in (file_classes o) amid.r) info_then ∙ amid.head_is)
        (ap (λ (o : Option FilledTree). option_map_or (λ (u : FilledTree). put_of u.fill) o []) (found_other t other apart s.trees))
        refl
        (hold_with mid final x more free_place places)
        (ap (λ (ps : List ℕ). are_named_once ps places) named_then ∙ amid.fresh)

    own_rows : KeepsTree (file_records kept_then ended) behind name (new_tree branches)
    own_rows = record {
      r = x;
      record_is = find_more (λ r. bytes_eq r.head.name name) x old_headers new_headers one_more (ap (λ (k : List ℕ). bytes_eq k name) key_name ∙ (bytes_eq-Decides name name).1 refl) alone;
      head = head;
      head_is = ap (λ (o : Option KeyedRecord). header_in (file_classes o) x) info_then ∙ written.header;
      readable = new_is_readable m.classes branches;
      fits = new_fits m.classes branches state_classes_are;
      put = subst (λ (p : List (List BasketAt)). AreAllPut (record_at final) 0 head.branches (cuts_of_tree behind (new_tree branches)) p) (sym own_put) (new_put (record_at final) m.classes m.classes [] branches);
      fresh = ap (λ (p : List (List BasketAt)). are_named_once (named_in ended) (places_put p)) own_put;
    }

    rows_then : HoldsPutRows kept_then behind ended
    rows_then other y e = by (bytes_eq name other) refl
      where
        by : (b : Bool) → bytes_eq name other ≡ b → KeepsTree (file_records kept_then ended) behind other y
        by true tie =
            let same : name ≡ other = (bytes_eq-Decides name other).0 tie in
            let tree : new_tree branches ≡ y = same_Some (new_tree branches) y (sym there_then ∙ ap (get behind.trees) same ∙ e) in
            subst (λ (p : List ℕ × Tree). KeepsTree (file_records kept_then ended) behind p.0 p.1) (λ i. (same i, tree i)) own_rows
        by false apart = other_rows other y apart (sym (other_tree m name other (new_tree branches) apart) ∙ e)

    -- ---- the end

    pub tree_is_kept : garbage.ArePassed h.links (changes_of_tree s.datime h.links m name branches) (length (changes_of_tree s.datime h.links m name branches)) → IsKeptAfter s m (MakeTree name branches) h.links ended
    tree_is_kept passed =
        let end : TreeEnd s.datime h.links m name branches = tree_ends s.datime file h.links m name branches can passed in
        let made : AreRecordsOf (keyed_records (all_changed h.links cs)) (saved_of behind) =
        subst (λ (l : List Change). AreRecordsOf (keyed_records (all_changed h.links l)) (saved_of behind)) (take_all (length cs) cs (omega arith)) (effect.late (length cs) (omega (arith, long)) (omega arith) passed) in
        let kept = sym kept_is in
        let all = all_made in
        let at = place_is in
        record {
          keys = subst (λ (v : SessionState). AreKeysOf (keyed_records ended) v.heads) kept
              (subst (λ (p : List Link × List KeyHead). AreKeysOf (keyed_records p.0) p.1) (λ i. (all i, with_head (header_key (at i) s.datime name 1 head) s.heads)) (end.keys s.heads h.keys));
          records = subst (λ (l : List Link). AreRecordsOf (keyed_records l) (saved_of behind)) all made;
          trees = subst (λ (v : SessionState). AreTreesOf (keyed_records ended) (headers_of v)) kept trees_then;
          items = final_items;
          fillable = fillable_behind m (MakeTree name branches) statable free h.fillable;
          rows = subst (λ (v : SessionState). HoldsPutRows v behind ended) kept rows_then;
          opens = subst (λ (v : SessionState). OpensRows v behind) kept opens_then;
          info = ap (λ (v : SessionState). v.info) kept_is ∙ ap info_head (sym info_then);
          name = name_same none_pending (pending_in behind) ended ∙ ap (λ (l : List Link). (kept_with (pending_in behind) l).name) (sym all) ∙ end.name_is ∙ name_same (pending_in m) none_pending h.links;
          count = ap (λ (l : List Link). (kept_with (pending_in behind) l).count) (sym all) ∙ records_then end.count ∙ ap (λ (v : SessionState). record_count v.segments) kept;
          held = subst (λ (l : List Link). held_with (pending_in behind) l ≤ held_with (pending_in m) h.links + cost_of m (MakeTree name branches)) all end.held;
        }
      where
        records_then : (kept_with (pending_in behind) (all_changed h.links cs)).count ≡ (kept_with (pending_in m) h.links).count + length cs → (kept_with (pending_in behind) (all_changed h.links cs)).count ≡ record_count kept_then.segments
        records_then more_by = omega (arith, more_by, h.count, ap record_count h.chain.same, is.count, count_with place n (map segment_of listed), long)

  ends : ArePassed s m (MakeTree name branches) (length (changes_by s m (MakeTree name branches))) h.links → IsKeptAfter s m (MakeTree name branches) h.links (all_done (changes_by s m (MakeTree name branches)) h.links)
  ends passed =
      let all : garbage.ArePassed h.links cs (length cs) = passed_by (length cs) (λ j low. passed j (omega (arith, low, many))) in
      let seam : all_changed h.links (take (length added_list) cs) ≡ listed = ap (all_changed h.links) (take-append_seam added_list (header_added s.datime name 1 head ∷ [])) in
      let amid = all (length added_list) (omega (arith, long)) in
      subst (IsKeptAfter s m (MakeTree name branches) h.links) (sym all_is) (tree_is_kept amid.0 (subst (λ (l : List Link). IsChain l amid.0) seam amid.1) all)

  pub tree_takes_effect_on : TakesEffect s m (MakeTree name branches) h.links
  tree_takes_effect_on = record {
    turn = length added_list;
    within = omega (arith, many, long);
    early = λ k low passed. subst (λ (l : List Link). AreRecordsOf (keyed_records l) (saved_of m)) (sym (links_are k)) (effect.early k low (passed_by k passed));
    late = λ k later low passed.
        subst (λ (l : List Link). AreRecordsOf (keyed_records l) (saved_of (state_behind m (MakeTree name branches)))) (sym (links_are k)) (effect.late k later (omega (arith, low, many)) (passed_by k passed));
    ends = ends;
  }

  -- ---- the state of the keys

  pub tree_stands_by : IsOfKeys (kept_by s m (MakeTree name branches)) (state_behind m (MakeTree name branches))
  tree_stands_by =
      subst (λ (v : SessionState). IsOfKeys v (state_behind m (MakeTree name branches))) (sym kept_is)
      (tree_stands s m h.stands name branches unnamed t (new_kept name m.classes branches) key key_name key_cycle written.tree kept_then refl refl refl)

  -- ---- by the records of the file

  pub tree_done_at : all_changed h.links (changes_of_tree s.datime h.links m name branches) ≡ all_done (changes_by s m (MakeTree name branches)) h.links
  tree_done_at = all_made ∙ sym all_is

  segments_are : map segment_of (changed listed (header_added s.datime name 1 head)) ≡ with_segment place n (map segment_of listed)
  segments_are =
      segments_follow listed (header_added s.datime name 1 head)
      ∙ ap (λ (k : ℕ). with_segment (place_of (map segment_of listed) k) k (map segment_of listed)) (header_places 0 s.datime name 1 head)

  pub tree_segments_at : map segment_of (all_changed h.links (changes_of_tree s.datime h.links m name branches)) ≡ (kept_by s m (MakeTree name branches)).segments
  tree_segments_at =
      ap (map segment_of) (fold-append changed h.links added_list (header_added s.datime name 1 head ∷ []))
      ∙ segments_are
      ∙ ap (λ (v : SessionState). v.segments) (sym kept_is)

  pub tree_ended : map segment_of ended ≡ (kept_by s m (MakeTree name branches)).segments
  tree_ended = ap (map segment_of) (sym all_made) ∙ tree_segments_at

  pub tree_puts_at : (other : List ℕ) → put_in s.trees other ≡ put_in (kept_by s m (MakeTree name branches)).trees other
  tree_puts_at other = by (bytes_eq name other) refl ∙ ap (λ (v : SessionState). put_in v.trees other) (sym kept_is)
    where
      by : (b : Bool) → bytes_eq name other ≡ b → put_in s.trees other ≡ put_in kept_then.trees other
      by true tie =
          let none : put_in s.trees name ≡ [] = ap (λ (o : Option FilledTree). option_map_or (λ (u : FilledTree). put_of u.fill) o []) none_filled in
          subst (λ (k : List ℕ). put_in s.trees k ≡ put_in kept_then.trees k) ((bytes_eq-Decides name other).0 tie) (none ∙ sym own_put)
      by false apart = ap (λ (o : Option FilledTree). option_map_or (λ (u : FilledTree). put_of u.fill) o []) (sym (found_other t other apart s.trees))

  -- ---- the mark

  -- there are files of all the links between
  lists_one : list_count s.info + length added_list ≡ 1
  lists_one = ap (λ (o : Option KeyHead). list_count o + length added_list) h.info ∙ one_of (info_key (keyed_records h.links))
    where
      one_of : (o : Option KeyedRecord) → list_count (info_head o) + length (list_if_none s.datime o m.classes) ≡ 1
      one_of None = refl
      one_of (Some r) = refl

  one_list : length added_list ≤ 1
  one_list = omega (arith, lists_one)

  passed : garbage.ArePassed h.links cs (length cs)
  passed j low = elim (cases_lt j (length added_list)) [
    | inl early ↦
        let none : j ≡ 0 = omega (arith, early, one_list) in
        (file, subst (λ (i : ℕ). IsChain (all_changed h.links (take i cs)) file) (sym none) h.chain.chain)
    | inr late ↦
        let last : j ≡ length added_list = omega (arith, low, long, late) in
        let seam : all_changed h.links (take (length added_list) cs) ≡ listed = ap (all_changed h.links) (take-append_seam added_list (header_added s.datime name 1 head ∷ [])) in
        (is.image.0, subst (λ (l : List Link). IsChain l is.image.0) (sym (ap (λ (i : ℕ). all_changed h.links (take i cs)) last ∙ seam)) is.image.1)
  ]

  pub after_is : IsKeptAfter s m (MakeTree name branches) h.links ended
  after_is = tree_is_kept is.image.0 is.image.1 passed

  begun_then : All (λ u. All (HasBegun u.fill.saved u.fill.pending) u.fill.branches) (kept_by s m (MakeTree name branches)).trees
  begun_then =
      subst (λ (v : SessionState). All (λ u. All (HasBegun u.fill.saved u.fill.pending) u.fill.branches) v.trees) (sym kept_is)
      (all_filled (λ (u : FilledTree). All (HasBegun u.fill.saved u.fill.pending) u.fill.branches) t (new_begun m.classes [] branches) s.trees (all_begun s.trees (sound.kept fresh).sound))

  pub filled : AreFilled (kept_by s m (MakeTree name branches)) (state_behind m (MakeTree name branches)) ended
  filled = filled_after s m (MakeTree name branches) h.links ended (ap (λ (v : SessionState). v.name) kept_is) h.name after_is tree_stands_by begun_then

  count_then : record_count kept_then.segments ≡ 1 + 1 + length kept_then.heads + basket_total kept_then.trees
  count_then =
      let f = λ (u : FilledTree). written_count u.fill.branches in
      omega (
        arith,
        count_with place n (map segment_of listed),
        is.count,
        ap record_count h.chain.same,
        (sound.kept fresh).closable.count,
        lists_one,
        length_with key s.heads,
        baskets_counted s.trees,
        sum_with f t s.trees,
        new_unwritten m.classes [] branches,
      )

  tree_need : close_need (kept_with (pending_in behind) (all_changed h.links cs)) ≡ state_need s.name 1 (making s m name branches).kept.trees behind
  tree_need =
      ap (λ (l : List Link). close_need (kept_with (pending_in behind) l)) all_made
      ∙ need_behind s m (MakeTree name branches) ended filled tree_stands_by
      (ap (λ (v : SessionState). list_all is_sized v.heads) kept_is ∙ all_with is_sized key s.heads (header_sized place s.datime name 1 head) (sound.kept fresh).closable.sized)
      (ap (λ (v : SessionState). v.name) kept_is) refl
      (subst (λ (v : SessionState). record_count v.segments ≡ 1 + 1 + length v.heads + basket_total v.trees) (sym kept_is) count_then)

  lengths_then : lengths_of cs ≡ command_lengths s m (MakeTree name branches)
  unfolding command_lengths
  lengths_then =
      lengths_behind added_list (header_added s.datime name 1 head ∷ [])
      ∙ (λ i. sym is.lengths i ++ header_places 0 s.datime name 1 head i ∷ [])
      ∙ ap (λ (d : Done). d.lengths) (sym making_is)

  pub tree_mark_at : mark_of_changes (pending_in (state_behind m (MakeTree name branches))) h.links (changes_of_tree s.datime h.links m name branches) ≡ mark_of_command s m (MakeTree name branches)
  tree_mark_at =
      mark_by_file (pending_in behind) h.links cs
      ∙ (λ i. mark_by (sym h.chain.same i) (lengths_then i) (tree_need i))
      ∙ sym (mark_by_kept s m (MakeTree name branches))
