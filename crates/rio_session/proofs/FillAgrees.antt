-- A fill by the records of a file agrees with that by what is kept beside it.
use Rattle.std.proofs.Common.{◌≡◌, ℕ, ◌+◌, ◌<◌, ◌^◌, List, [], ◌∷◌, length, map, Bool, true, false, Option, Some, None, refl, sym, ap, subst, ◌∙◌, arith}
use Rattle.std.proofs.lemmas.{List.{length-map, Elements.{All-weaker}}, Slice.Eq.{bytes_eq-Decides}}
use Rattle.std.specs.{Prelude.{if◌then◌else◌}, FinMap.{get}, List.{All, list_all}, Option.{option_map_or}, Str.{bytes_eq}}
use Rattle.rio_num.specs.Word.{is_item_text}
use Rattle.rio_chain.specs.{Placing.{record_count}, Segments.{Link, segment_of}}
use Rattle.rio_machine.specs.{State.{Row, State, Tree}, declared.command.Command.TheVariants.{Fill}}
use Rattle.rio_state.specs.{Closing.{close_need, kept_with}, TreeLengths.{pending_in}}
use Rattle.rio_step.specs.{Refusing.{fill_row, refusal_of}, Step.{state_behind}}
use Rattle.rio_fill.specs.Fill.{BranchFill, TreeFill, branches_added, defs_of, entry_count, row_added}
use Rattle.rio_effect.specs.FileRuns.{Change, all_changed, lengths_of, mark_of_changes}
use Rattle.rio_effect.specs.Garbage as garbage
use Rattle.rio_effect.specs.TreeChanges.{changes_of_fill, full_of_tree, put_by_fill}
use Rattle.rio_effect.proofs.SavedRows.{one_each}
use Rattle.rio_recover.specs.Closable.{is_sized, list_count}
use Rattle.rio_session.specs.{Due.{written_count}, Fillings.{Done, branches_become, filling, full_list}, Fills.{FilledTree, put_in}, Items.{IsOfKeys}, Kept.{kept_by}}
use Rattle.rio_session.specs.{Marks.{basket_total, command_lengths, mark_of_command, state_need}, Session.{HoldsState, file_records}, SessionState.{SessionState}, Sound.{IsSoundState}}
use Rattle.rio_session.proofs.{Agreeing.{AgreesWithFile}, BasketsPlaced.{defs_put}, CutFills.{full_have}, CutLengths.{HasBegun}, FileNeeds.{mark_by, mark_by_file, mark_by_kept, need_behind}, FilledChanges.{changed_all, put_other}, FilledFiles.{AreFilled, all_begun, filled_after}}
use Rattle.rio_session.proofs.{FillEffects.{alike, all_are, cs, entries, fill_is_kept, filling_is, fit, flags, kept_is, kept_then, own, put, put_are, put_then, there, tree_sound}, FillLists.{ordered_of}}
use Rattle.rio_session.proofs.{FillSound.{IsRowSound, rows_sound}, FillStands.{fill_stands}, FillSums.{sum_changed}, Needs.{baskets_counted}, PutCounts.{count_put, written_added, written_put}, PutFiles.{files_put}}

-- a flag for each branch
pub flags_long : (bs : List BranchFill) (row : List (List ℕ)) → length (full_list bs row) ≡ length bs
flags_long [] row = refl
flags_long (b ∷ bs) [] = let rest = flags_long bs [] in omega (arith, rest)
flags_long (b ∷ bs) (e ∷ row) = let rest = flags_long bs row in omega (arith, rest)

module _ (s : SessionState) (m : State) (file : List ℕ) (h : HoldsState s m file) (sound : IsSoundState s) (fresh : s.failed ≡ false) (soon : s.datime < 2 ^ 32)
    (name : List ℕ) (row : Row) (named : is_item_text name ≡ true) where
  module _ (free : refusal_of m (Fill name row) None ≡ None) where
    abbrev x : Tree
    x = (there s m file h sound fresh soon name row named free).0

    abbrev t : FilledTree
    t = (own s m file h sound fresh soon name row named free).0

    abbrev its_entries : List (List ℕ)
    its_entries = entries s m file h sound fresh soon name row named free

    abbrev then : SessionState
    then = kept_then s m file h sound fresh soon name row named free

    abbrev changes : List Change
    changes = cs s m file h sound fresh soon name row named free

    abbrev after : List Link
    after = all_changed h.links (cs s m file h sound fresh soon name row named free)

    -- there are files of all the links between
    pub passed : garbage.ArePassed h.links changes (length changes)
    passed j low = files_put s.datime name file h.links x.branches (full_of_tree m row x) j h.chain.chain (fit s m file h sound fresh soon name row named free) (omega (arith, low))

    stands_then : IsOfKeys (kept_by s m (Fill name row)) (state_behind m (Fill name row))
    stands_then =
        let o = own s m file h sound fresh soon name row named free in
        let p = put s m file h sound fresh soon name row named free in
        subst (λ (v : SessionState). IsOfKeys v (state_behind m (Fill name row))) (sym (kept_is s m file h sound fresh soon name row named free))
        (fill_stands s m h.stands name o.0 x o.1 row p.branches (defs_put (entry_count t.fill) t.fill.branches (flags s m file h sound fresh soon name row named free) p.branches (put_are s m file h sound fresh soon name row named free))
        its_entries p.segments)

    row_long : length its_entries ≡ length t.fill.branches
    row_long = one_each m.classes (defs_of t.fill.branches) (fill_row m row) [] ∙ length-map t.fill.branches (λ (b : BranchFill). b.def)

    pub rows_are_sound : All (IsRowSound t.fill.saved t.fill.pending) (branches_added (put s m file h sound fresh soon name row named free).branches its_entries)
    rows_are_sound =
        rows_sound t.fill.saved t.fill.pending t.fill.branches (flags s m file h sound fresh soon name row named free) (put s m file h sound fresh soon name row named free).branches its_entries
        row_long (flags_long t.fill.branches its_entries) (tree_sound s m file h sound fresh soon name row named free) (full_have t.fill.branches its_entries) (put_are s m file h sound fresh soon name row named free)

    abbrev change : TreeFill → TreeFill
    change f = row_added (branches_become (put s m file h sound fresh soon name row named free).branches f) its_entries

    begun_then : All (λ u. All (HasBegun u.fill.saved u.fill.pending) u.fill.branches) (kept_by s m (Fill name row)).trees
    begun_then =
        let o = own s m file h sound fresh soon name row named free in
        let all = all_begun s.trees (sound.kept fresh).sound in
        let mine = All-weaker (IsRowSound t.fill.saved t.fill.pending) (HasBegun t.fill.saved (t.fill.pending + 1)) (λ b is. is.begins) (change t.fill).branches rows_are_sound in
        subst (λ (v : SessionState). All (λ u. All (HasBegun u.fill.saved u.fill.pending) u.fill.branches) v.trees) (sym (kept_is s m file h sound fresh soon name row named free))
        (changed_all name change (λ (u : FilledTree). All (HasBegun u.fill.saved u.fill.pending) u.fill.branches) t s.trees (ordered_of s.trees h.trees.ordered) o.1.found mine all)

    pub filled : AreFilled (kept_by s m (Fill name row)) (state_behind m (Fill name row)) after
    filled =
        let same = ap (λ (v : SessionState). v.name) (kept_is s m file h sound fresh soon name row named free) in
        filled_after s m (Fill name row) h.links after same h.name (fill_is_kept s m file h sound fresh soon name row named free passed) stands_then begun_then

    total_then : basket_total then.trees ≡ basket_total s.trees + length (put s m file h sound fresh soon name row named free).changes
    total_then =
        let o = own s m file h sound fresh soon name row named free in
        let p = put s m file h sound fresh soon name row named free in
        let f = λ (u : FilledTree). written_count u.fill.branches in
        omega (
          arith,
          sum_changed f name change t s.trees (ordered_of s.trees h.trees.ordered) o.1.found,
          written_added p.branches its_entries,
          written_put s.datime name (entry_count t.fill) s.segments t.fill.branches (flags s m file h sound fresh soon name row named free),
        )

    count_then : record_count then.segments ≡ 1 + list_count s.info + length s.heads + basket_total then.trees
    count_then =
        omega (
          arith,
          count_put s.datime name (entry_count t.fill) s.segments t.fill.branches (flags s m file h sound fresh soon name row named free),
          total_then,
          (sound.kept fresh).closable.count,
          baskets_counted s.trees,
        )

    fill_need : close_need (kept_with (pending_in (state_behind m (Fill name row))) after) ≡ state_need s.name (list_count s.info) (filling s m name row).kept.trees (state_behind m (Fill name row))
    fill_need =
        let kept = kept_is s m file h sound fresh soon name row named free in
        need_behind s m (Fill name row) after filled stands_then (ap (λ (v : SessionState). list_all is_sized v.heads) kept ∙ (sound.kept fresh).closable.sized) (ap (λ (v : SessionState). v.name) kept) refl
        (subst (λ (v : SessionState). record_count v.segments ≡ 1 + list_count s.info + length v.heads + basket_total v.trees) (sym kept) count_then)

    fill_lengths : lengths_of changes ≡ command_lengths s m (Fill name row)
    unfolding command_lengths
    fill_lengths = sym (alike s m file h sound fresh soon name row named free).lengths ∙ ap (λ (d : Done). d.lengths) (sym (filling_is s m file h sound fresh soon name row named free))

    fill_mark : mark_of_changes (pending_in (state_behind m (Fill name row))) h.links changes ≡ mark_of_command s m (Fill name row)
    fill_mark =
        mark_by_file (pending_in (state_behind m (Fill name row))) h.links changes
        ∙ (λ i. mark_by (sym h.chain.same i) (fill_lengths i) (fill_need i))
        ∙ sym (mark_by_kept s m (Fill name row))

    -- the changes by the state's tree
    changes_then : option_map_or (changes_of_fill s.datime m name row) (get m.trees name) [] ≡ changes
    changes_then = ap (λ (o : Option Tree). option_map_or (changes_of_fill s.datime m name row) o []) (there s m file h sound fresh soon name row named free).1

    pub segments_then : map segment_of after ≡ (kept_by s m (Fill name row)).segments
    segments_then = sym (alike s m file h sound fresh soon name row named free).segments ∙ ap (λ (v : SessionState). v.segments) (sym (kept_is s m file h sound fresh soon name row named free))

    puts_then : (other : List ℕ) → (if bytes_eq other name then option_map_or (put_by_fill s.datime (file_records s h.links) m name row) (get m.trees name) [] else put_in s.trees other) ≡ put_in (kept_by s m (Fill name row)).trees other
    puts_then other = by (bytes_eq other name) refl ∙ ap (λ (v : SessionState). put_in v.trees other) (sym (kept_is s m file h sound fresh soon name row named free))
      where
        by : (b : Bool) → bytes_eq other name ≡ b → (if b then option_map_or (put_by_fill s.datime (file_records s h.links) m name row) (get m.trees name) [] else put_in s.trees other) ≡ put_in then.trees other
        by true is =
            let same = (bytes_eq-Decides other name).0 is in
            ap (λ (o : Option Tree). option_map_or (put_by_fill s.datime (file_records s h.links) m name row) o []) (there s m file h sound fresh soon name row named free).1
            ∙ sym (put_then s m file h sound fresh soon name row named free)
            ∙ ap (put_in then.trees) (sym same)
        by false is = sym (put_other name change other s.trees is)

  pub fill_agrees : AgreesWithFile s m (Fill name row) h.links
  fill_agrees = record {
    changes = option_map_or (changes_of_fill s.datime m name row) (get m.trees name) [];
    changes_are = refl;
    done = λ free. ap (all_changed h.links) (changes_then free) ∙ sym (all_are s m file h sound fresh soon name row named free);
    segments = λ free. ap (λ (l : List Change). map segment_of (all_changed h.links l)) (changes_then free) ∙ segments_then free;
    puts = λ free other. puts_then free other;
    mark = λ free. ap (mark_of_changes (pending_in (state_behind m (Fill name row))) h.links) (changes_then free) ∙ fill_mark free;
  }
