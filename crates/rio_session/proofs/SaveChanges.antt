-- A save makes the same changes of a file by what is kept beside it as by its records: the open baskets, the next header, and the release of
-- the header before.
use Rattle.std.proofs.Common.{◌≡◌, inl, inr, ℕ, zero, suc, ◌+◌, ◌-◌, List, [], ◌∷◌, ◌++◌, length, map, sum, take, Option, Some, None, refl, sym, ap, subst, ◌∙◌, arith}
use Rattle.std.proofs.{Math.Seq.{take-append-add}, lemmas.Bool.{cases_lt}, lemmas.List.{length-append, take-append-le, take_all, Sums.{fold-append}}}
use Rattle.std.specs.{List.{find}, Option.{option_map_or}}
use Rattle.rio_leaf.specs.declared.branch.BranchDef.{BranchDef}
use Rattle.rio_key.specs.declared.head.KeyHead.{KeyHead}
use Rattle.rio_dir.specs.Table.{head_of}
use Rattle.rio_chain.specs.{Changes.{with_record, without_record}, Placing.{place_of, with_segment}, Releasing.{without_segment}, Segments.{Link, segment_of}, declared.segment.Segment.{Segment}}
use Rattle.rio_machine.specs.{State.{State, Tree}, declared.command.Command.TheVariants.{Save}}
use Rattle.rio_tree.specs.{WrittenLaws.{FitsTreeHeader}, declared.head.TreeHead.{TreeHead}}
use Rattle.rio_fill.specs.Fill.{all_saved, entry_count}
use Rattle.rio_step.specs.Refusing.{refusal_of}
use Rattle.rio_state.specs.{Contents.{file_classes}, KeyedRecords.{info_key, keyed_records}}
use Rattle.rio_effect.specs.{BasketRuns.{CanAllBePut}, HeaderRecords.{IsHeaderRecord}, TreeRecords.{length_of_basket}}
use Rattle.rio_effect.specs.Changes.{Change, added, added_length, all_changed, basket_added, batch_added, batch_lengths, changed, lengths_of, released}
use Rattle.rio_effect.specs.Saves.{CanBeSaved, next_cycle_of, next_head, next_place}
use Rattle.rio_effect.specs.{TreeChanges.{FileRecords, all_behind, basket_changes, baskets_placed, changes_of_save, header_added, head_of_save, open_of_tree}, TreeCommands.{KeepsTree}}
use Rattle.rio_effect.specs.TreeRecords.{head_with, header_data, header_record, header_words}
use Rattle.rio_effect.proofs.{FileChanges.{segments_follow}, SaveEffect.{save_changes}}
use Rattle.rio_session.specs.{Fillings.{BasketsPut, LinksChange, branches_become, open_list, put_open, saving, saving_tree, saving_with, nothing_done}, Fills.{FilledTree, header_of, is_tree_of}}
use Rattle.rio_session.specs.{Kept.{all_done}, Session.{file_records}, SessionState.{SessionState}}
use Rattle.rio_session.proofs.StandsOn.{StandsOn}
use Rattle.rio_session.proofs.{ChangesAlike.{AreAlike, puts_alike}, CutFills.{open_have}, SaveHeads.{AreSound, next_header}, SaveKeys.{defs_are, head_is, keeps, key_is, opens_are, put_is, rows_are, there, x}}

-- ---- further changes behind those of baskets

pub lengths_behind : (cs es : List Change) → lengths_of (cs ++ es) ≡ lengths_of cs ++ lengths_of es
lengths_behind [] es = refl
lengths_behind (c ∷ cs) es = by c (lengths_behind cs es)
  where
    by : (c : Change) → lengths_of (cs ++ es) ≡ lengths_of cs ++ lengths_of es → lengths_of (c ∷ cs ++ es) ≡ lengths_of (c ∷ cs) ++ lengths_of es
    by (added words contents) later = ap (λ (l : List ℕ). added_length words contents ∷ l) later
    by (batch_added records) later = ap (λ (l : List ℕ). sum (batch_lengths records) ∷ l) later
    by (basket_added words) later = ap (λ (l : List ℕ). length_of_basket words ∷ l) later
    by (released place) later = later

module _ (links : List Link) (p : BasketsPut) (cs : List Change) (are : AreAlike links p cs) (ds : List LinksChange) (es : List Change)
    (later : (j : ℕ) → all_done (take j ds) (all_changed links cs) ≡ all_changed (all_changed links cs) (take j es)) where
  many : length p.changes ≡ length cs
  many = are.many

  front_done : all_done p.changes links ≡ all_changed links cs
  front_done =
      let whole = are.done (length p.changes) in
      ap (λ (l : List LinksChange). all_done l links) (sym (take_all (length p.changes) p.changes (omega arith)))
      ∙ whole
      ∙ ap (all_changed links) (take_all (length p.changes) cs (omega (arith, many)))

  pub done_behind : (k : ℕ) → all_done (take k (p.changes ++ ds)) links ≡ all_changed links (take k (cs ++ es))
  done_behind k = elim (cases_lt (length cs) k) [
    | inl low ↦ beyond k (k - length cs) (omega (arith, low))
    | inr within ↦
        ap (λ (l : List LinksChange). all_done l links) (take-append-le k p.changes ds (omega (arith, many, within)))
        ∙ are.done k
        ∙ sym (ap (all_changed links) (take-append-le k cs es within))
  ]
    where
      beyond : (k j : ℕ) → k ≡ length cs + j → all_done (take k (p.changes ++ ds)) links ≡ all_changed links (take k (cs ++ es))
      beyond k j is =
          let own : k ≡ length p.changes + j = omega (arith, is, many) in
          ap (λ (n : ℕ). all_done (take n (p.changes ++ ds)) links) own
          ∙ ap (λ (l : List LinksChange). all_done l links) (take-append-add p.changes ds j)
          ∙ fold-append (λ l change. change l) links p.changes (take j ds)
          ∙ ap (all_done (take j ds)) front_done
          ∙ later j
          ∙ sym (fold-append changed links cs (take j es))
          ∙ sym (ap (all_changed links) (take-append-add cs es j))
          ∙ sym (ap (λ (n : ℕ). all_changed links (take n (cs ++ es))) is)

-- the header's record is put where the rule places it
pub header_step : (links : List Link) (datime : ℕ) (name : List ℕ) (cycle : ℕ) (head : TreeHead)
    → with_record (place_of (map segment_of links) (length (header_record 0 datime name cycle head))) (header_record (place_of (map segment_of links) (length (header_record 0 datime name cycle head))) datime name cycle head) links
    ≡ changed links (header_added datime name cycle head)
unfolding header_record
header_step links datime name cycle head = refl

header_long : (datime : ℕ) (name : List ℕ) (cycle : ℕ) (head : TreeHead)
    → added_length (header_words 0 datime name cycle) (header_data (header_words 0 datime name cycle) name head) ≡ length (header_record 0 datime name cycle head)
unfolding header_record
header_long datime name cycle head = refl

header_segments : (links : List Link) (datime : ℕ) (name : List ℕ) (cycle : ℕ) (head : TreeHead)
    → map segment_of (changed links (header_added datime name cycle head))
    ≡ with_segment (place_of (map segment_of links) (length (header_record 0 datime name cycle head))) (length (header_record 0 datime name cycle head)) (map segment_of links)
header_segments links datime name cycle head =
    let words = header_words 0 datime name cycle in
    segments_follow links (header_added datime name cycle head) ∙ ap (λ (n : ℕ). with_segment (place_of (map segment_of links) n) n (map segment_of links)) (header_long datime name cycle head)

-- ---- a save

module _ (s : SessionState) (m : State) (file : List ℕ) (h : StandsOn s m file) (k : KeyHead) (t : FilledTree) (found : find (is_tree_of k.name) s.trees ≡ Some t) (first : head_of k.name None s.heads ≡ Some k)
    (sound : AreSound t.fill.saved t.fill.pending t.fill.branches) where
  -- it is that of this tree and key
  pub saving_is : saving s k.name ≡ saving_with s k.name t.fill k
  saving_is = ap (λ (o : Option FilledTree). option_map_or (saving_tree s k.name) o (nothing_done s)) found ∙ ap (λ (o : Option KeyHead). option_map_or (saving_with s k.name t.fill) o (nothing_done s)) first

  abbrev pub own_tree_of : Tree
  own_tree_of = x s m file h k t found first

  abbrev pub segments : List Segment
  segments = map segment_of h.links

  -- the baskets that are put, as what is kept says
  abbrev pub put : BasketsPut
  put = put_open s.datime k.name (entry_count t.fill) (map segment_of h.links) t.fill.branches (open_list t.fill.branches)

  abbrev pub put_changes : List Change
  put_changes = basket_changes s.datime k.name (x s m file h k t found first).branches (open_of_tree m (x s m file h k t found first))

  pub put_same : AreAlike h.links put put_changes
  put_same =
      let defs = defs_are s m file h k t found first in
      let opens = opens_are s m file h k t found first in
      subst (λ (p : List BranchDef × List (List (List ℕ))). AreAlike h.links put (basket_changes s.datime k.name p.0 p.1)) (λ i. (defs i, opens i))
      (puts_alike s.datime k.name (entry_count t.fill) h.links t.fill.branches (open_list t.fill.branches) (open_have t.fill.branches))

  -- the next header, as what is kept says
  abbrev pub head_then : TreeHead
  head_then = header_of (all_saved (branches_become put.branches t.fill))

  pub head_same : head_then ≡ head_of_save s.datime (file_records s h.links) m k.name (x s m file h k t found first) (keeps s m file h k t found first).head
  head_same =
      let defs = defs_are s m file h k t found first in
      let opens = opens_are s m file h k t found first in
      let rows = rows_are s m file h k t found first in
      let own = head_is s m file h k t found first in
      let puts = put_is s m file h k t found first in
      next_header s.datime k.name h.links t.fill sound
      ∙ (λ i. head_with (rows i) (sym own i) (all_behind (sym puts i) (baskets_placed s.datime k.name (rows i) h.links (defs i) (opens i))))

  abbrev pub now : FileRecords
  now = file_records s h.links

  abbrev pub kept : KeepsTree (file_records s h.links) m k.name (x s m file h k t found first)
  kept = keeps s m file h k t found first

  -- Nothing refuses the save, each open basket can be put, and the next header can be written: its numbers fit.
  pub record IsSavable : Type 0 where
    pub free : refusal_of m (Save k.name) None ≡ None
    pub put : CanAllBePut s.datime k.name h.links (x s m file h k t found first).branches (open_of_tree m (x s m file h k t found first))
    pub written : IsHeaderRecord (file_classes (info_key (keyed_records h.links))) (next_place s.datime (file_records s h.links) m k.name (x s m file h k t found first) (keeps s m file h k t found first)) s.datime k.name
        (next_cycle_of s.datime (file_records s h.links) m k.name (x s m file h k t found first) (keeps s m file h k t found first))
        (next_head s.datime (file_records s h.links) m k.name (x s m file h k t found first) (keeps s m file h k t found first))
    pub fits : FitsTreeHeader (next_head s.datime (file_records s h.links) m k.name (x s m file h k t found first) (keeps s m file h k t found first))

  module _ (savable : IsSavable) where
    abbrev pub can : CanBeSaved s.datime file (file_records s h.links) m k.name (x s m file h k t found first)
    can = record {
      chain = h.chain.chain;
      records = h.records;
      items = h.items;
      fillable = h.fillable;
      tree = there s m file h k t found first;
      kept = keeps s m file h k t found first;
      taken = savable.free;
      put = savable.put;
      written = savable.written;
    }

    abbrev pub now_changes : List Change
    now_changes = changes_of_save s.datime (file_records s h.links) m k.name (x s m file h k t found first)

    abbrev pub further : List Change
    further = header_added s.datime k.name (k.cycle + 1) head_then ∷ released k.seek ∷ []

    -- by the records they are the puts of the baskets, that of the header, and the release of the one before
    pub changes_are : changes_of_save s.datime (file_records s h.links) m k.name (x s m file h k t found first) ≡ put_changes ++ further
    changes_are =
        let key = key_is s m file h k t found first in
        let said = head_same in
        save_changes s.datime file (file_records s h.links) m k.name (x s m file h k t found first) can
        ∙ (λ i. put_changes ++ header_added s.datime k.name ((key i).cycle + 1) (sym said i) ∷ released (key i).seek ∷ [])

    -- and so it is by what is kept
    abbrev links_then : List Link
    links_then = all_changed h.links put_changes

    segments_then : put.segments ≡ map segment_of links_then
    segments_then = put_same.segments

    abbrev bytes_long : ℕ
    bytes_long = length (header_record 0 s.datime k.name (k.cycle + 1) head_then)

    abbrev pub place_then : List Segment → ℕ
    place_then segments = place_of segments bytes_long

    abbrev further_by : List Segment → List LinksChange
    further_by segs = with_record (place_then segs) (header_record (place_then segs) s.datime k.name (k.cycle + 1) head_then) ∷ without_record k.seek ∷ []

    further_done : (j : ℕ) → all_done (take j (further_by (map segment_of links_then))) links_then ≡ all_changed links_then (take j further)
    further_done zero = refl
    further_done (suc zero) = header_step links_then s.datime k.name (k.cycle + 1) head_then
    further_done (suc (suc zero)) = ap (without_record k.seek) (header_step links_then s.datime k.name (k.cycle + 1) head_then)
    further_done (suc (suc (suc j))) = ap (without_record k.seek) (header_step links_then s.datime k.name (k.cycle + 1) head_then)

    saving_changes : (saving_with s k.name t.fill k).changes ≡ put.changes ++ further_by (map segment_of links_then)
    saving_changes =
        let same : put_open s.datime k.name (entry_count t.fill) s.segments t.fill.branches (open_list t.fill.branches) ≡ put =
        ap (λ (segs : List Segment). put_open s.datime k.name (entry_count t.fill) segs t.fill.branches (open_list t.fill.branches)) h.chain.same in
        ap (λ (p : BasketsPut). p.changes ++ with_record (place_of p.segments (length (header_record 0 s.datime k.name (k.cycle + 1) (header_of (all_saved (branches_become p.branches t.fill))))))
        (header_record (place_of p.segments (length (header_record 0 s.datime k.name (k.cycle + 1) (header_of (all_saved (branches_become p.branches t.fill)))))) s.datime k.name (k.cycle + 1) (header_of (all_saved (branches_become p.branches t.fill))))
        ∷ without_record k.seek ∷ []) same
        ∙ ap (λ (segs : List Segment). put.changes ++ further_by segs) segments_then

    pub save_done : (n : ℕ) → all_done (take n (saving_with s k.name t.fill k).changes) h.links
        ≡ all_changed h.links (take n (changes_of_save s.datime (file_records s h.links) m k.name (x s m file h k t found first)))
    save_done n =
        ap (λ (cs : List LinksChange). all_done (take n cs) h.links) saving_changes
        ∙ done_behind h.links put put_changes put_same (further_by (map segment_of links_then)) further further_done n
        ∙ sym (ap (λ (cs : List Change). all_changed h.links (take n cs)) changes_are)

    pub save_many : length (saving_with s k.name t.fill k).changes ≡ length (changes_of_save s.datime (file_records s h.links) m k.name (x s m file h k t found first))
    save_many =
        ap length saving_changes
        ∙ length-append put.changes (further_by (map segment_of links_then))
        ∙ ap (λ (n : ℕ). n + 2) put_same.many
        ∙ sym (length-append put_changes further)
        ∙ sym (ap length changes_are)

    pub save_all : all_done (saving_with s k.name t.fill k).changes h.links ≡ all_changed h.links (changes_of_save s.datime (file_records s h.links) m k.name (x s m file h k t found first))
    save_all =
        let long = length (saving_with s k.name t.fill k).changes in
        let many = save_many in
        ap (λ (cs : List LinksChange). all_done cs h.links) (sym (take_all long (saving_with s k.name t.fill k).changes (omega arith)))
        ∙ save_done long
        ∙ ap (all_changed h.links) (take_all long now_changes (omega (arith, many)))

    -- ---- what is kept

    -- the next header's place is the one that the records tell
    pub next_place_is : next_place s.datime (file_records s h.links) m k.name (x s m file h k t found first) (keeps s m file h k t found first)
        ≡ place_of (put_open s.datime k.name (entry_count t.fill) s.segments t.fill.branches (open_list t.fill.branches)).segments bytes_long
    next_place_is =
        let key = key_is s m file h k t found first in
        let said = head_same in
        let words = header_words 0 s.datime k.name (k.cycle + 1) in
        (λ i. place_of (map segment_of links_then) (added_length (header_words 0 s.datime k.name ((key i).cycle + 1)) (header_data (header_words 0 s.datime k.name ((key i).cycle + 1)) k.name (sym said i))))
        ∙ ap (place_of (map segment_of links_then)) (header_long s.datime k.name (k.cycle + 1) head_then)
        ∙ ap (λ (segs : List Segment). place_of segs bytes_long)
        (sym (ap (λ (segs : List Segment). (put_open s.datime k.name (entry_count t.fill) segs t.fill.branches (open_list t.fill.branches)).segments) h.chain.same ∙ segments_then))

    abbrev segments_after : BasketsPut → List Segment
    segments_after p =
        let n = length (header_record 0 s.datime k.name (k.cycle + 1) (header_of (all_saved (branches_become p.branches t.fill)))) in
        without_segment k.seek (with_segment (place_of p.segments n) n p.segments)

    pub save_segments : (saving_with s k.name t.fill k).kept.segments ≡ map segment_of (all_changed h.links (changes_of_save s.datime (file_records s h.links) m k.name (x s m file h k t found first)))
    save_segments =
        let header = header_added s.datime k.name (k.cycle + 1) head_then in
        ap (λ (segs : List Segment). segments_after (put_open s.datime k.name (entry_count t.fill) segs t.fill.branches (open_list t.fill.branches))) h.chain.same
        ∙ ap (λ (segs : List Segment). without_segment k.seek (with_segment (place_of segs bytes_long) bytes_long segs)) segments_then
        ∙ ap (without_segment k.seek) (sym (header_segments links_then s.datime k.name (k.cycle + 1) head_then))
        ∙ sym (segments_follow (changed links_then header) (released k.seek))
        ∙ sym (ap (map segment_of) (fold-append changed h.links put_changes further))
        ∙ sym (ap (λ (cs : List Change). map segment_of (all_changed h.links cs)) changes_are)

    abbrev lengths_with : BasketsPut → List ℕ
    lengths_with p = p.lengths ++ length (header_record 0 s.datime k.name (k.cycle + 1) (header_of (all_saved (branches_become p.branches t.fill)))) ∷ []

    pub save_lengths : (saving_with s k.name t.fill k).lengths ≡ lengths_of (changes_of_save s.datime (file_records s h.links) m k.name (x s m file h k t found first))
    save_lengths =
        ap (λ (segs : List Segment). lengths_with (put_open s.datime k.name (entry_count t.fill) segs t.fill.branches (open_list t.fill.branches))) h.chain.same
        ∙ (λ i. put_same.lengths i ++ sym (header_long s.datime k.name (k.cycle + 1) head_then) i ∷ [])
        ∙ sym (lengths_behind put_changes further)
        ∙ sym (ap lengths_of changes_are)
