-- A save by the records of a file agrees with that by what is kept beside it.
use Rattle.std.proofs.Common.{◌≡◌, inl, inr, ℕ, ◌+◌, ◌<◌, ◌≤◌, List, [], ◌∷◌, length, map, take, Bool, true, false, nat_lt, ◌-◌, Some, None, refl, sym, ap, subst, ◌∙◌, arith}
use Rattle.std.proofs.lemmas.{Bool.{cases_lt, eq-eqb}, List.{take-append-le, take_all, Elements.{All-cons, All-nil}}, Slice.Eq.{bytes_eq-Decides}}
use Rattle.std.specs.{Prelude.{if◌then◌else◌}, List.{All, find, list_all, list_any}, Str.{bytes_eq}}
use Rattle.rio_key.specs.declared.head.KeyHead.{KeyHead}
use Rattle.rio_dir.specs.Table.{head_of, is_at_cycle, without_head}
use Rattle.rio_chain.specs.{Placing.{place_of, record_count}, Segments.{IsChain, Link, segment_of}, declared.segment.Segment.{Segment}}
use Rattle.rio_chain.proofs.Records.{key_long}
use Rattle.rio_machine.specs.{State.{State, Tree}, declared.command.Command.TheVariants.{Save}}
use Rattle.rio_tree.specs.declared.head.TreeHead.{TreeHead}
use Rattle.rio_state.specs.{Closing.{close_need, kept_with}, TreeLengths.{pending_in}}
use Rattle.rio_step.specs.Step.{state_behind}
use Rattle.rio_fill.specs.Fill.{BranchFill, TreeFill, all_saved, entry_count}
use Rattle.rio_judge.proofs.KeysOfState.{first_is_found}
use Rattle.rio_effect.specs.FileRuns.{Change, all_changed, lengths_of, mark_of_changes}
use Rattle.rio_effect.specs.Saves.{links_put, next_cycle_of, next_head, next_place, save_baskets}
use Rattle.rio_effect.specs.{TreeChanges.{changes_of_save, header_added, open_of_tree}, Changes.{released}, TreeRecords.{header_data, header_key, header_record, header_words}}
use Rattle.rio_effect.proofs.SaveEffect.{all, changes as told_changes, with_header}
use Rattle.rio_recover.specs.Closable.{begins_at, is_sized, list_count}
use Rattle.rio_session.specs.{Due.{AreApart, IsClosableWith, written_count}, Effects.{ArePassed}, Fillings.{BasketsPut, Done, branches_become, open_list, put_open, saving, saving_with}, Fills.{FilledTree, header_of, is_tree_of, places_of_trees, put_in, with_change}}
use Rattle.rio_session.specs.{Items.{IsOfKeys}, Kept.{all_done, changes_by, kept_by}, Marks.{basket_total, command_lengths, mark_of_command, state_need}, Session.{HoldsState, file_records}, SessionState.{SessionState}}
use Rattle.rio_session.proofs.{CutLengths.{HasBegun}, FileNeeds.{mark_by, mark_by_file, mark_by_kept, need_behind}, FilledChanges.{changed_all, put_other, put_own}, FilledFiles.{AreFilled, all_begun, filled_after}}
use Rattle.rio_session.proofs.{FillLists.{ordered_of}, FillSums.{sum_changed}, Keeps.{all_with, length_with}, KeepsLess.{IsTakenOut, taken_out}, Needs.{baskets_counted}, PutCounts.{written_put}, PutFiles.{files_put, put_file}}
use Rattle.rio_session.proofs.{SaveChanges.{IsSavable, can, save_lengths, save_segments, saving_is}, SaveEffects.{all_is, all_long, at_header, counted, header_places, kept_then, links_are, many, put_many}, SaveHeads.{AreReady, AreSound, are_ready}, SaveKeys.{keeps, there, x}}
use Rattle.rio_session.proofs.{SaveSteps.{save_stands_by}, StandsOn.{StandsOn, holds_on}}

-- the key of a header is as long as class and name make it
pub header_sized : (place datime : ℕ) (name : List ℕ) (cycle : ℕ) (head : TreeHead) → is_sized (header_key place datime name cycle head) ≡ true
unfolding header_key
header_sized place datime name cycle head =
    let words = header_words place datime name cycle in
    eq-eqb _ _ (key_long words (length (header_data words name head)))

-- baskets that are saved have begun
ready_begun : (saved count : ℕ) (bs cs : List BranchFill) → AreReady saved count bs cs → All (HasBegun count 0) cs
ready_begun saved count [] [] are = All-nil (HasBegun count 0)
ready_begun saved count [] (c ∷ cs) are = absurd are
ready_begun saved count (b ∷ bs) [] are = absurd are
ready_begun saved count (b ∷ bs) (c ∷ cs) are =
    let all : count ≡ count + 0 - length c.entries = omega (arith, ap length are.0.none) in
    All-cons (HasBegun count 0) c cs (subst (λ (n : ℕ). list_all (λ at. nat_lt at.first n) c.baskets ≡ true) all are.0.early) (ready_begun saved count bs cs are.1)

module _ (s : SessionState) (m : State) (file : List ℕ) (h : HoldsState s m file) (closable : IsClosableWith s.segments s.heads s.trees s.info s.name)
    (k : KeyHead) (t : FilledTree) (found : find (is_tree_of k.name) s.trees ≡ Some t) (first : head_of k.name None s.heads ≡ Some k)
    (sound : AreSound t.fill.saved t.fill.pending t.fill.branches) (savable : IsSavable s m file (holds_on s m file h) k t found first sound) (apart : AreApart (places_of_trees s.trees))
    (begins : list_any (begins_at k.seek) s.segments ≡ true) (later : 100 < k.seek) where
  abbrev on : StandsOn s m file
  on = holds_on s m file h

  abbrev own : Tree
  own = x s m file on k t found first

  abbrev changes : List Change
  changes = changes_of_save s.datime (file_records s h.links) m k.name own

  abbrev baskets : List Change
  baskets = save_baskets s.datime (file_records s h.links) m k.name own

  abbrev after : List Link
  after = all_changed h.links changes

  -- ---- files of the links between

  put_images : (j : ℕ) → j ≤ length baskets → (image : List ℕ) × IsChain (all_changed h.links (take j baskets)) image
  put_images j low = files_put s.datime k.name file h.links own.branches (open_of_tree m own) j h.chain.chain savable.put low

  abbrev said : TreeHead
  said = next_head s.datime (file_records s h.links) m k.name own (keeps s m file on k t found first)

  abbrev cycle : ℕ
  cycle = next_cycle_of s.datime (file_records s h.links) m k.name own (keeps s m file on k t found first)

  header_image : (image : List ℕ) × IsChain (with_header s.datime file (file_records s h.links) m k.name own (can s m file on k t found first sound savable)) image
  header_image =
      let there = put_images (length baskets) (omega arith) in
      let put : IsChain (links_put s.datime (file_records s h.links) m k.name own) there.0 = subst (λ (cs : List Change). IsChain (all_changed h.links cs) there.0) (take_all (length baskets) baskets (omega arith)) there.1 in
      let place = next_place s.datime (file_records s h.links) m k.name own (keeps s m file on k t found first) in
      put_file there.0 (links_put s.datime (file_records s h.links) m k.name own) place (header_record place s.datime k.name cycle said) put savable.written.whole
      (ap (place_of (map segment_of (links_put s.datime (file_records s h.links) m k.name own))) (header_places place s.datime k.name cycle said))

  -- the changes are those that the law of a save tells
  abbrev all_changes : List Change
  all_changes = all s.datime file (file_records s h.links) m k.name own (can s m file on k t found first sound savable)

  told : changes_of_save s.datime (file_records s h.links) m k.name own ≡ all_changes
  told = told_changes s.datime file (file_records s h.links) m k.name own (can s m file on k t found first sound savable)

  images : (j : ℕ) → j < length changes → (image : List ℕ) × IsChain (all_changed h.links (take j changes)) image
  images j low = subst (λ (cs : List Change). (image : List ℕ) × IsChain (all_changed h.links (take j cs)) image) (sym told) (elim (cases_lt (length baskets) j) [
    | inl far ↦
        let long = all_long s m file on k t found first sound savable apart begins later in
        let at : length baskets + 1 ≡ j = omega (arith, far, low, long) in
        let image = header_image in
        subst (λ (n : ℕ). (image : List ℕ) × IsChain (all_changed h.links (take n all_changes)) image) at
        (image.0, subst (λ (l : List Link). IsChain l image.0) (sym (at_header s.datime file (file_records s h.links) m k.name own (can s m file on k t found first sound savable))) image.1)
    | inr near ↦
        subst (λ (cs : List Change). (image : List ℕ) × IsChain (all_changed h.links cs) image)
        (sym (take-append-le j baskets (header_added s.datime k.name cycle said ∷ released (keeps s m file on k t found first).r.head.seek ∷ []) near)) (put_images j near)
  ])

  passed : ArePassed s m (Save k.name) (length (changes_by s m (Save k.name))) h.links
  passed j low =
      let p = images j (omega (arith, low, many s m file on k t found first sound savable apart begins later)) in
      (p.0, subst (λ (l : List Link). IsChain l p.0) (sym (links_are s m file on k t found first sound savable apart begins later j)) p.1)

  -- ---- what is kept

  abbrev kept_done : Done
  kept_done = saving_with s k.name t.fill k

  saving_same : saving s k.name ≡ saving_with s k.name t.fill k
  saving_same = saving_is s m file on k t found first sound

  abbrev put : BasketsPut
  put = put_open s.datime k.name (entry_count t.fill) s.segments t.fill.branches (open_list t.fill.branches)

  abbrev change : TreeFill → TreeFill
  change f = all_saved (branches_become put.branches f)

  stands : IsOfKeys (kept_by s m (Save k.name)) (state_behind m (Save k.name))
  stands = save_stands_by s m k h.stands t found first

  pub save_done_at : all_changed h.links (changes_of_save s.datime (file_records s h.links) m k.name (x s m file (holds_on s m file h) k t found first)) ≡ all_done (changes_by s m (Save k.name)) h.links
  save_done_at = sym (all_is s m file on k t found first sound savable apart begins later)

  pub save_segments_at : map segment_of (all_changed h.links (changes_of_save s.datime (file_records s h.links) m k.name (x s m file (holds_on s m file h) k t found first))) ≡ (kept_by s m (Save k.name)).segments
  save_segments_at = sym (save_segments s m file on k t found first sound savable) ∙ ap (λ (d : Done). d.kept.segments) (sym saving_same)

  pub save_puts_at : (other : List ℕ) → (if bytes_eq other k.name then [] else put_in s.trees other) ≡ put_in (kept_by s m (Save k.name)).trees other
  save_puts_at other = by (bytes_eq other k.name) refl ∙ ap (λ (d : Done). put_in d.kept.trees other) (sym saving_same)
    where
      by : (b : Bool) → bytes_eq other k.name ≡ b → (if b then [] else put_in s.trees other) ≡ put_in (with_change k.name change s.trees) other
      by true is = sym (put_own k.name change t s.trees found) ∙ ap (put_in (with_change k.name change s.trees)) (sym ((bytes_eq-Decides other k.name).0 is))
      by false is = sym (put_other k.name change other s.trees is)

  -- ---- the mark

  begun : All (λ u. All (HasBegun u.fill.saved u.fill.pending) u.fill.branches) (kept_by s m (Save k.name)).trees
  begun =
      let ready = subst (λ (segs : List Segment). AreReady t.fill.saved (entry_count t.fill) t.fill.branches (put_open s.datime k.name (entry_count t.fill) segs t.fill.branches (open_list t.fill.branches)).branches)
      (sym h.chain.same) (are_ready s.datime k.name h.links t.fill sound) in
      let mine = ready_begun t.fill.saved (entry_count t.fill) t.fill.branches put.branches ready in
      subst (λ (d : Done). All (λ u. All (HasBegun u.fill.saved u.fill.pending) u.fill.branches) d.kept.trees) (sym saving_same)
      (changed_all k.name change (λ (u : FilledTree). All (HasBegun u.fill.saved u.fill.pending) u.fill.branches) t s.trees (ordered_of s.trees h.trees.ordered) found mine (all_begun s.trees closable.sound))

  filled : AreFilled (kept_by s m (Save k.name)) (state_behind m (Save k.name)) (all_done (changes_by s m (Save k.name)) h.links)
  filled =
      filled_after s m (Save k.name) h.links (all_done (changes_by s m (Save k.name)) h.links) (ap (λ (d : Done). d.kept.name) saving_same) h.name
      (kept_then s m file on k t found first sound savable apart begins later passed) stands begun

  out : IsTakenOut k s.heads (without_head k.name k.cycle s.heads)
  out = taken_out (is_at_cycle k.name k.cycle) k s.heads (first_is_found k.name s.heads k first)

  abbrev next : KeyHead
  next =
      let head = header_of (all_saved (branches_become put.branches t.fill)) in
      header_key (place_of put.segments (length (header_record 0 s.datime k.name (k.cycle + 1) head))) s.datime k.name (k.cycle + 1) head

  sized : list_all is_sized (kept_by s m (Save k.name)).heads ≡ true
  sized =
      let head = header_of (all_saved (branches_become put.branches t.fill)) in
      ap (λ (d : Done). list_all is_sized d.kept.heads) saving_same
      ∙ all_with is_sized next (without_head k.name k.cycle s.heads) (header_sized (place_of put.segments (length (header_record 0 s.datime k.name (k.cycle + 1) head))) s.datime k.name (k.cycle + 1) head)
      (out.all is_sized closable.closable.sized)

  count_then : record_count kept_done.kept.segments ≡ 1 + list_count s.info + length kept_done.kept.heads + basket_total kept_done.kept.trees
  count_then =
      let f = λ (u : FilledTree). written_count u.fill.branches in
      omega (
        arith,
        counted s m file on k t found first sound savable apart begins later,
        closable.closable.count,
        baskets_counted s.trees,
        length_with next (without_head k.name k.cycle s.heads),
        out.one,
        sum_changed f k.name change t s.trees (ordered_of s.trees h.trees.ordered) found,
        written_put s.datime k.name (entry_count t.fill) s.segments t.fill.branches (open_list t.fill.branches),
        put_many s m file on k t found first sound savable apart begins later,
      )

  save_need : close_need (kept_with (pending_in (state_behind m (Save k.name))) after) ≡ state_need s.name (list_count s.info) (saving s k.name).kept.trees (state_behind m (Save k.name))
  save_need =
      ap (λ (l : List Link). close_need (kept_with (pending_in (state_behind m (Save k.name))) l)) save_done_at
      ∙ need_behind s m (Save k.name) (all_done (changes_by s m (Save k.name)) h.links) filled stands sized (ap (λ (d : Done). d.kept.name) saving_same) refl
      (subst (λ (d : Done). record_count d.kept.segments ≡ 1 + list_count s.info + length d.kept.heads + basket_total d.kept.trees) (sym saving_same) count_then)

  lengths_then : lengths_of changes ≡ command_lengths s m (Save k.name)
  unfolding command_lengths
  lengths_then = sym (save_lengths s m file on k t found first sound savable) ∙ ap (λ (d : Done). d.lengths) (sym saving_same)

  pub save_mark_at : mark_of_changes (pending_in (state_behind m (Save k.name))) h.links (changes_of_save s.datime (file_records s h.links) m k.name (x s m file (holds_on s m file h) k t found first)) ≡ mark_of_command s m (Save k.name)
  save_mark_at =
      mark_by_file (pending_in (state_behind m (Save k.name))) h.links changes
      ∙ (λ i. mark_by (sym h.chain.same i) (lengths_then i) (save_need i))
      ∙ sym (mark_by_kept s m (Save k.name))
