-- A save that is due takes no more room than a close needs for it: behind it there is room for a close again.
use Rattle.std.proofs.Common.{◌≡◌, ◌∙◌, ◌==◌, ℕ, ◌+◌, ◌%◌, ◌<◌, ◌≤◌, ◌^◌, codes, false, List, length, map, Some, None, refl, sym, ap, subst, arith}
use Rattle.std.specs.List.{find}
use Rattle.rio_key.specs.declared.head.KeyHead.{KeyHead}
use Rattle.rio_dir.specs.Table.{head_of}
use Rattle.rio_chain.specs.{Adjoining.{AreSegments}, Placing.{place_of}, Segments.{segment_of}, declared.segment.Segment.{Segment}}
use Rattle.rio_chain.proofs.Words.{whole_long}
use Rattle.rio_close.proofs.Fitting.{place_low}
use Rattle.rio_machine.specs.{Limits.{head_length}, State.{State}, declared.command.Command.TheVariants.{Save}}
use Rattle.rio_tree.specs.{HeaderLength.{basket_count, header_length}, WrittenLaws.{stated_defs}, declared.head.TreeHead.{TreeHead}}
use Rattle.rio_fill.specs.Fill.{BranchFill, all_saved, entry_count}
use Rattle.rio_state.specs.{Closing.{padded_length}, KeyedRecords.{KeyedRecord, keyed_records, top_keys, tree_records}}
use Rattle.rio_state.proofs.Members.{In}
use Rattle.rio_step.specs.Refusing.{refusal_of}
use Rattle.rio_effect.specs.{HeaderRecords.{HeadersHaveRecords}, Saves.{next_head, next_place}, TreeRecords.{header_record}}
use Rattle.rio_effect.proofs.Held.{chain_segments}
use Rattle.rio_session.specs.{Due.{IsClosableWith, lengths_of_fill, open_lengths, written_count}, Fillings.{branches_become, open_list, put_open, saving_with}}
use Rattle.rio_session.specs.{Fills.{AreNamesOrdered, FilledTree, header_of, is_tree_of}, Session.{file_records}, SessionState.{SessionState}}
use Rattle.rio_session.proofs.StandsOn.{StandsOn}
use Rattle.rio_session.proofs.{FillLists.{ordered_of}, KeptRoom.{closable_by_kept, reckoned}, NoClasses.{tree_class}, PutCounts.{written_put}, PutsKept.{puts_kept}}
use Rattle.rio_session.proofs.{SaveCan.{end_here, is_savable, many_here, said_is, short, stated_here}, SaveEffects.{as_many, header_at}, SaveKept.{long, put_segments}}
use Rattle.rio_session.proofs.SaveKeys.{defs_are, keeps, key_is, record_is, under, x}

-- ---- the save of a tree with pending rows

module _ (headers : HeadersHaveRecords) (s : SessionState) (m : State) (file : List ℕ) (h : StandsOn s m file) (k : KeyHead) (t : FilledTree) (found_tree : find (is_tree_of k.name) s.trees ≡ Some t) (first : head_of k.name None s.heads ≡ Some k)
    (closable : IsClosableWith s.segments s.heads s.trees s.info s.name) (soon : s.datime < 2 ^ 32) (free : refusal_of m (Save k.name) None ≡ None) where
  ordered : AreNamesOrdered s.trees
  ordered = ordered_of s.trees h.trees.ordered

  begin : AreSegments s.segments
  begin = subst AreSegments (sym h.chain.same) (chain_segments file h.links h.chain.chain)

  abbrev n : ℕ
  n = long s k t found_tree first closable ordered begin

  abbrev cs : List BranchFill
  cs = (put_open s.datime k.name (entry_count t.fill) s.segments t.fill.branches (open_list t.fill.branches)).branches

  abbrev head : TreeHead
  head = header_of (all_saved (branches_become cs t.fill))

  -- the header's record
  same_head : head ≡ next_head s.datime (file_records s h.links) m k.name (x s m file h k t found_tree first) (keeps s m file h k t found_tree first)
  same_head =
      ap (λ (segs : List Segment). header_of (all_saved (branches_become (put_open s.datime k.name (entry_count t.fill) segs t.fill.branches (open_list t.fill.branches)).branches t.fill))) h.chain.same
      ∙ said_is s m file h k t found_tree first closable

  own_cycle : (keeps s m file h k t found_tree first).r.head.cycle ≡ k.cycle
  own_cycle = ap (λ (j : KeyHead). j.cycle) (key_is s m file h k t found_tree first)

  abbrev place : ℕ
  place = next_place s.datime (file_records s h.links) m k.name (x s m file h k t found_tree first) (keeps s m file h k t found_tree first)

  -- as long as the record at its place
  long_is : length (header_record place s.datime k.name ((keeps s m file h k t found_tree first).r.head.cycle + 1) (next_head s.datime (file_records s h.links) m k.name (x s m file h k t found_tree first) (keeps s m file h k t found_tree first))) ≡ n
  long_is =
      let same = same_head in
      let cycle = own_cycle in
      (λ i. length (header_record place s.datime k.name (cycle i + 1) (sym same i))) ∙ header_at place s.datime k.name (k.cycle + 1) head

  some : 4 ≤ n
  some =
      let whole = (is_savable s m file h k t found_tree first closable headers soon free).written.whole in
      let least = whole_long _ _ whole in
      omega (arith, least, long_is)

  aligned : n % 4 ≡ 0
  aligned = ap (λ (l : ℕ). l % 4) (sym long_is) ∙ (is_savable s m file h k t found_tree first closable headers soon free).written.whole.aligned

  low : place_of (put_segments s k t found_tree first closable ordered begin) n < 2 ^ 32
  low =
      let put = puts_kept s.datime k.name (entry_count t.fill) s.segments t.fill.branches (open_list t.fill.branches) begin in
      let at = place_low (put_segments s k t found_tree first closable ordered begin) (place_of (put_segments s k t found_tree first closable ordered begin) n) n put.shape refl in
      omega (arith, at, end_here s m file h k t found_tree first closable)

  kind : k.class ≡ codes "TTree"
  kind =
      let among = subst (λ (r : KeyedRecord). In r (tree_records (top_keys (keyed_records h.links)))) (record_is s m file h k t found_tree first) (under s m file h k t found_tree first).under.among in
      ap (λ (j : KeyHead). j.class) (sym (key_is s m file h k t found_tree first)) ∙ tree_class (top_keys (keyed_records h.links)) (keeps s m file h k t found_tree first).r among

  -- the header is as long as a close reckons
  header_reckoned : n ≡ padded_length (lengths_of_fill k.name t.fill).header
  header_reckoned =
      let told = (is_savable s m file h k t found_tree first closable headers soon free).written.long in
      let same = said_is s m file h k t found_tree first closable in
      let defs = ap (λ (hd : TreeHead). stated_defs hd.branches) (sym same) ∙ stated_here s m file h k t found_tree first closable ∙ sym (defs_are s m file h k t found_tree first) in
      let baskets = ap basket_count (sym same) ∙ many_here s m file h k t found_tree first closable in
      let put = written_put s.datime k.name (entry_count t.fill) (map segment_of h.links) t.fill.branches (open_list t.fill.branches) in
      let each = as_many s.datime k.name (entry_count t.fill) (map segment_of h.links) t.fill.branches (open_list t.fill.branches) in
      let asked_here = (reckoned s.datime k.name (entry_count t.fill) (map segment_of h.links) t.fill.branches).many in
      let count : basket_count (next_head s.datime (file_records s h.links) m k.name (x s m file h k t found_tree first) (keeps s m file h k t found_tree first)) ≡ written_count t.fill.branches + length (open_lengths k.name t.fill.branches) = omega (arith, baskets, put, each, asked_here) in
      sym long_is ∙ told ∙ (λ i. padded_length (head_length (codes "TTree") k.name + header_length k.name (defs i) (count i)))

  -- so it can be closed then
  pub kept_closable : (t.fill.pending == 0) ≡ false
      → IsClosableWith (saving_with s k.name t.fill k).kept.segments (saving_with s k.name t.fill k).kept.heads (saving_with s k.name t.fill k).kept.trees s.info s.name
  kept_closable due = closable_by_kept s k t found_tree first closable ordered begin some aligned header_reckoned low (short s m file h k t found_tree first closable) kind due
