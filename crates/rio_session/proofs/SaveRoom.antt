-- What is kept can be closed behind a save for which there is room, whatever a host tells; and what a close needs then.
use Rattle.std.proofs.Common.{◌≡◌, ◌∙◌, ℕ, ◌+◌, ◌-◌, ◌%◌, ◌<◌, ◌≤◌, ◌^◌, List, [], ◌∷◌, length, true, false, Some, None, refl, ap, subst, arith}
use Rattle.std.proofs.lemmas.{Bool.{and_from, le-leb, lt-ltb}}
use Rattle.std.specs.List.{All, find, list_all}
use Rattle.rio_key.specs.declared.head.KeyHead.{KeyHead}
use Rattle.rio_dir.specs.Table.{head_of, heads_size, without_head}
use Rattle.rio_chain.specs.{Adjoining.{AreSegments}, FewerRecords.{IsLeftWithout}, Placing.{FreeSpace, end_after, file_end, place_of, record_count, space_of}, Releasing.{without_segment}, declared.segment.Segment.{Segment}}
use Rattle.rio_chain.proofs.Laying.{laid_put}
use Rattle.rio_close.proofs.Fitting.{count_with, place_low}
use Rattle.rio_machine.specs.{State.{State}, declared.command.Command.TheVariants.{Save}}
use Rattle.rio_tree.specs.declared.head.TreeHead.{TreeHead}
use Rattle.rio_fill.specs.Fill.{BranchFill, TreeFill, all_saved, entry_count}
use Rattle.rio_state.specs.{Closing.{end_limit, is_full}, Sizes.{close_size}, TreeLengths.{BasketLengths}}
use Rattle.rio_step.specs.Step.{state_behind}
use Rattle.rio_recover.specs.Closable.{is_fit_key, is_sized, list_count}
use Rattle.rio_effect.specs.TreeRecords.{header_key, header_record}
use Rattle.rio_session.specs.{Due.{IsBranchSound, IsClosableWith, due_of, due_of_fill, need_with, open_lengths, written_count}, Fillings.{BasketsPut, Done, branches_become, open_list, saving, saving_with}}
use Rattle.rio_session.specs.{Fills.{AreNamesOrdered, FilledTree, is_tree_of}, Items.{IsOfKeys}, Marks.{basket_total, state_need}}
use Rattle.rio_session.specs.{SavePlans.{due_of_save, head_now, need_of_save, put_now, saving_now}, SessionState.{SessionState, kept_trees}, declared.open_tree.Due.{Due}}
use Rattle.rio_session.proofs.{FilledFiles.{all_in}, FilledTrees.{found_among}, FillRoom.{many_lengths}, FillSums.{need_by_due, sum_changed, sum_without}, Keeps.{all_with, length_with}, Needs.{baskets_counted, need_by_keys}, Places.{end_stays}}
use Rattle.rio_session.proofs.{PlanRoom.{plan_room_is}, PutCounts.{written_put}, PutsKept.{ArePutsKept, puts_kept}, SaveAgrees.{header_sized}, SaveHeads.{AreReady}, SaveLengths.{next_aligned, next_some, ready_now}, SaveSteps.{save_stands_by, saving_one}}
use Rattle.rio_session.proofs.SaveKept.{heads_then, key, left, out, save_kept, trees_then, with_both}

-- behind a save no basket is open
none_open : (saved count : ℕ) (tree : List ℕ) (bs cs : List BranchFill) → AreReady saved count bs cs → open_lengths tree cs ≡ []
none_open saved count tree [] [] are = refl
none_open saved count tree [] (c ∷ cs) are = absurd are
none_open saved count tree (b ∷ bs) [] are = absurd are
none_open saved count tree (b ∷ bs) (c ∷ cs) are =
    ap (λ (es : List (List ℕ)). open_lengths tree (record c { entries = es } ∷ cs)) are.0.none ∙ none_open saved count tree bs cs are.1

-- the key of a header can be written
key_fits : (place datime : ℕ) (name : List ℕ) (cycle : ℕ) (head : TreeHead) → place < 2 ^ 32 → length name ≤ 100 → is_fit_key (header_key place datime name cycle head) ≡ true
unfolding header_key
key_fits place datime name cycle head low short =
    and_from _ _ (and_from _ _ (and_from _ _ (and_from _ _ (lt-ltb place (256 ^ 4) (omega (arith, low))) refl) refl) (le-leb (length name) 65535 (omega (arith, short)))) refl

-- a tree with the name of a key
abbrev pub tree_named : KeyHead → TreeFill → FilledTree
tree_named k f = record { name = k.name; fill = f }

module _ (s : SessionState) (k : KeyHead) (f : TreeFill) (found : find (is_tree_of k.name) s.trees ≡ Some (tree_named k f)) (first : head_of k.name None s.heads ≡ Some k)
    (closable : IsClosableWith s.segments s.heads s.trees s.info s.name) (ordered : AreNamesOrdered s.trees) (form : AreSegments s.segments) where
  abbrev t : FilledTree
  t = tree_named k f

  abbrev put : BasketsPut
  put = put_now s (tree_named k f)

  abbrev n : ℕ
  n = length (header_record 0 s.datime k.name (k.cycle + 1) (head_now s (tree_named k f)))

  abbrev place : ℕ
  place = place_of put.segments n

  abbrev trees_later : List FilledTree
  trees_later = trees_then s k t found first closable ordered form

  abbrev heads_later : List KeyHead
  heads_later = heads_then s k t found first closable ordered form

  abbrev both : List Segment
  both = with_both s k t found first closable ordered form

  abbrev change : TreeFill → TreeFill
  change g = all_saved (branches_become put.branches g)

  pub sound_here : All (IsBranchSound f.saved f.pending) f.branches
  sound_here = all_in (λ (u : FilledTree). All (IsBranchSound u.fill.saved u.fill.pending) u.fill.branches) t s.trees closable.sound (found_among k.name t s.trees found)

  -- ---- what saves write then

  abbrev bytes_of : FilledTree → ℕ
  bytes_of u = (due_of_fill u.name u.fill).bytes

  abbrev baskets_of : FilledTree → ℕ
  baskets_of u = (due_of_fill u.name u.fill).baskets

  abbrev changed_one : FilledTree
  changed_one = record t { fill = all_saved (branches_become put.branches f) }

  none_baskets : baskets_of changed_one ≡ 0
  none_baskets = ap (λ (ls : List BasketLengths). length ls) (none_open f.saved (entry_count f) k.name f.branches put.branches (ready_now s t sound_here))

  pub saved_due : due_of trees_later ≡ due_of_save s (tree_named k f)
  saved_due =
      let none_bytes : bytes_of changed_one ≡ 0 = refl in
      let bytes = sum_changed bytes_of k.name change t s.trees ordered found in
      let baskets = sum_changed baskets_of k.name change t s.trees ordered found in
      let less_bytes = sum_without bytes_of k.name t s.trees found in
      let less_baskets = sum_without baskets_of k.name t s.trees found in
      let one : (due_of trees_later).bytes ≡ (due_of s.trees).bytes - bytes_of t + 0 = omega (arith, bytes, none_bytes, less_bytes) in
      let two : (due_of trees_later).baskets ≡ (due_of s.trees).baskets - baskets_of t + 0 = omega (arith, baskets, none_baskets, less_baskets) in
      λ i. record { bytes = one i; baskets = two i }

  -- ---- the records

  some : 4 ≤ n
  some = next_some s t sound_here k

  aligned : n % 4 ≡ 0
  aligned = next_aligned s t sound_here k

  put_kept : ArePutsKept s.segments put
  put_kept = puts_kept s.datime k.name (entry_count f) s.segments f.branches (open_list f.branches) form

  both_end : file_end both ≡ end_after (saving_now s (tree_named k f) k).lengths (space_of s.segments)
  both_end =
      let own : file_end both ≡ end_after (n ∷ []) (space_of put.segments) = ap (λ (sp : FreeSpace). sp.end) (laid_put put.segments n put_kept.shape some aligned).1 in
      own ∙ put_kept.end (n ∷ [])

  pub both_shape : AreSegments (with_both s k (tree_named k f) found first closable ordered form)
  both_shape = (laid_put put.segments n put_kept.shape some aligned).0

  sized : is_sized (key s k t found first closable ordered form) ≡ true
  sized = header_sized place s.datime k.name (k.cycle + 1) (head_now s t)

  count_all : 1 + list_count s.info + length heads_later + basket_total trees_later ≡ record_count s.segments + length put.lengths
  count_all =
      let g = λ (u : FilledTree). written_count u.fill.branches in
      let taken = out s k t found first closable ordered form in
      omega (
        arith,
        closable.closable.count,
        baskets_counted s.trees,
        sum_changed g k.name change t s.trees ordered found,
        written_put s.datime k.name (entry_count f) s.segments f.branches (open_list f.branches),
        many_lengths s.datime k.name (entry_count f) s.segments f.branches (open_list f.branches),
        length_with (key s k t found first closable ordered form) (without_head k.name k.cycle s.heads),
        taken.one,
      )

  -- ---- a close behind it

  module _ (short : length k.name ≤ 100) (room : is_full s.segments (saving_now s (tree_named k f) k).lengths (need_of_save s (tree_named k f) k) ≡ false) where
    within : file_end both + need_of_save s (tree_named k f) k ≤ end_limit
    within = omega (arith, both_end, plan_room_is s.segments (saving_now s t k).lengths (need_of_save s t k) room)

    put_end : file_end put.segments ≤ file_end both
    put_end =
        let own : file_end both ≡ end_after (n ∷ []) (space_of put.segments) = ap (λ (sp : FreeSpace). sp.end) (laid_put put.segments n put_kept.shape some aligned).1 in
        omega (arith, own, end_stays n put.segments)

    fit : is_fit_key (key s k t found first closable ordered form) ≡ true
    fit = key_fits place s.datime k.name (k.cycle + 1) (head_now s t) (omega (arith, place_low put.segments place n put_kept.shape refl, put_end, within)) short

    without : IsLeftWithout k.seek (left s k t found first closable ordered form some aligned sized fit).0 both (without_segment k.seek both)
    without = (left s k t found first closable ordered form some aligned sized fit).1

    count_then : record_count (without_segment k.seek both) ≡ record_count s.segments + length put.lengths
    count_then = omega (arith, without.count, count_with place n put.segments, put_kept.count)

    need_then : need_with s.name heads_later (record_count (without_segment k.seek both)) trees_later ≡ need_of_save s (tree_named k f) k
    need_then =
        let due = saved_due in
        let count = count_then in
        need_by_due s.name heads_later (record_count (without_segment k.seek both)) trees_later ∙ (λ i. (due i).bytes + close_size s.name (heads_size heads_later) (count i + (due i).baskets))

    pub room_then : file_end (without_segment k.seek both) + need_with s.name heads_later (record_count (without_segment k.seek both)) trees_later ≤ end_limit
    room_then = omega (arith, without.end, need_then, within)

    pub save_closable : IsClosableWith (saving_with s k.name f k).kept.segments (saving_with s k.name f k).kept.heads (saving_with s k.name f k).kept.trees s.info s.name
    save_closable = save_kept s k t found first closable ordered form some aligned sized fit room_then

  -- ---- what a close needs in a state

  module _ (m : State) (keys : IsOfKeys s m) where
    stands : IsOfKeys (saving_with s k.name f k).kept (state_behind m (Save k.name))
    stands = subst (λ (d : Done). IsOfKeys d.kept (state_behind m (Save k.name))) (saving_one s m k keys t found first) (save_stands_by s m k keys t found first)

    all_sized : list_all is_sized heads_later ≡ true
    all_sized =
        let taken = out s k t found first closable ordered form in
        all_with is_sized (key s k t found first closable ordered form) (without_head k.name k.cycle s.heads) sized (taken.all is_sized closable.closable.sized)

    pub save_need_is : state_need s.name (list_count s.info) (saving s k.name).kept.trees (state_behind m (Save k.name)) ≡ need_of_save s (tree_named k f) k
    save_need_is =
        let due = saved_due in
        let count = count_all in
        ap (λ (d : Done). state_need s.name (list_count s.info) d.kept.trees (state_behind m (Save k.name))) (saving_one s m k keys t found first)
        ∙ need_by_keys heads_later (kept_trees (saving_with s k.name f k).kept) (state_behind m (Save k.name)) stands.keys stands.trees all_sized s.name (list_count s.info) trees_later
        ∙ need_by_due s.name heads_later (1 + list_count s.info + length heads_later + basket_total trees_later) trees_later
        ∙ (λ i. (due i).bytes + close_size s.name (heads_size heads_later) (count i + (due i).baskets))
