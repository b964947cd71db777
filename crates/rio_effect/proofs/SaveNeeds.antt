-- What a file keeps after a save, and that it holds no more than the save costs.
use Rattle.std.proofs.Common.{◌≡◌, ℕ, ◌+◌, ◌*◌, ◌≤◌, ◌∙◌, codes, List, [], ◌∷◌, ◌++◌, length, map, sum, true, not, ◌==◌, Option, refl, sym, ap, subst, arith}
use Rattle.std.proofs.{lemmas.Bool.{and_parts, eqb-true}, lemmas.List.{length-append, length-map}, lemmas.Slice.Eq.{bytes_eq-Decides}, Math.Nat.{mul-add, mul_assoc}}
use Rattle.std.specs.{Prelude.{if◌then◌else◌, is_some}, Int.{w32, cast_unsigned}, FinMap.{insert}, Option.{option_map_or}}
use Rattle.rio_num.specs.Text.{text_bytes}
use Rattle.rio_key.specs.{Written.{number_bytes, written_key}, declared.head.KeyHead.{KeyHead}, Cut.{cut_of}}
use Rattle.rio_dir.specs.Table.{with_head, without_head}
use Rattle.rio_leaf.specs.declared.branch.BranchDef.{BranchDef}
use Rattle.rio_chain.specs.{Segments.{IsChain, Link, chain_end}}
use Rattle.rio_chain.proofs.Records.{key_long}
use Rattle.rio_machine.specs.{Limits.{head_length}, Rows.{entries_of}, State.{Row, State, Tree}, declared.command.Command.TheVariants.{Save}, declared.refusal.Refusal.{Refusal}}
use Rattle.rio_tree.specs.{HeaderLength.{basket_count, header_length, header_size}, WrittenLaws.{stated_defs}, declared.head.TreeHead.{TreeHead}}
use Rattle.rio_state.specs.{Closing.{KeptRecords, held_with, kept_with, padded_length}, Contents.{FileClasses, file_classes}, DirectoryKeys.{AreKeysOf}, KeyedRecords.{KeyedRecord, info_key, is_outdated, is_top_key, is_tree_key, is_tree_record, keyed_records, record_at, top_keys, tree_records}, OneLess.{links_without}, OneMore.{keyed_bytes}, Reads.{is_named_key}, Trees.{basket_places, header_in}}
use Rattle.rio_state.specs.TreeLengths.{cut_count, cuts_of, entries_by_branch, pending_in, put_count, tree_lengths}
use Rattle.rio_state.proofs.{KeySums.{numbers_length, place_some}, LessNeeds.{end_less}, Members.{all_at, in_contained, in_filter}}
use Rattle.rio_step.specs.{Costs.{accepted_cost, cost_of, save_cost}, Refusing.{rows_of_tree}, Runs.{saved_of}, Step.{tree_saved}}
use Rattle.rio_effect.specs.{BasketRuns.{AreBasketsPut}, AllItems.{AreAllItems}, Changes.{Change, all_changed, lengths_of, released}, Garbage.{ArePassed}, NextHeaders.{HeaderIsReplaced}, TreeDeletes.{put_since}}
use Rattle.rio_effect.specs.Saves.{CanBeSaved, SaveEnd, SaveEnds, links_put, next_cycle_of, next_head, next_key, next_place, save_baskets}
use Rattle.rio_effect.specs.{TreeChanges.{FileRecords, changes_of_save, header_added, open_of_tree}, TreeRecords.{header_data, header_key, header_record, header_words}}
use Rattle.rio_effect.proofs.{CutWeights.{cuts_weight, open_counted, open_low}, FillNeeds.{changed_rows, other_rows}, Held.{chain_low}, NewHeaders.{idle_weight, key_short, none_put}, NextHeaders.{replaced}, PendingNames.{pending_by_names}}
use Rattle.rio_effect.proofs.SaveEffect.{all, at_end, at_rule, baskets_put, behind_is, chain_header, chain_put, changes, ended, has_before, replaced_by, with_header}
use Rattle.rio_effect.proofs.{SavedHeader.{branches_then, defs_are, defs_then, h, key_name, name_is, records_then, rows_are}, SavedHeads.{as_many_each, names_more, places_count}, SavedRows.{baskets_in, rows_baskets, rows_long}}
use Rattle.rio_effect.proofs.{TreeNeeds.{held_is, other_name, tree_weight, weight, weight_is}, TreeReplaced.{own_weight, weight_of_rows}}

-- ---- the key of a header

-- it is as long as class and name make it, or longer
key_at_least : (head : KeyHead) → is_tree_key head ≡ true → is_named_key head ≡ true → head_length (codes "TTree") head.name ≤ length (written_key head)
key_at_least head tree named =
    let class = (bytes_eq-Decides head.class (codes "TTree")).0 tree in
    let empty = eqb-true (length head.title) 0 (and_parts _ (length head.title == 0) named).1 in
    let numbers = numbers_length head (cast_unsigned w32 head.nbytes) in
    let own = ap (λ (c : List ℕ). length (text_bytes c)) class in
    let title = title_long head.title empty in
    omega (
      arith,
      numbers,
      place_some head.version,
      own,
      title,
      length-append (number_bytes head (cast_unsigned w32 head.nbytes)) (text_bytes head.class ++ (text_bytes head.name ++ text_bytes head.title)),
      length-append (text_bytes head.class) (text_bytes head.name ++ text_bytes head.title),
      length-append (text_bytes head.name) (text_bytes head.title),
    )
  where
    title_long : (title : List ℕ) → length title ≡ 0 → length (text_bytes title) ≡ length (text_bytes [])
    title_long [] e = refl
    title_long (b ∷ bs) e = absurd (omega (arith, e))

-- ---- what is kept

module _ (datime : ℕ) (file : List ℕ) (now : FileRecords) (m : State) (name : List ℕ) (t : Tree) (can : CanBeSaved datime file now m name t)
    (image other : List ℕ) (chain : IsChain (links_put datime now m name t) image) (chain_then : IsChain (with_header datime file now m name t can) other)
    (put : AreBasketsPut datime name (length (rows_of_tree t)) now.links t.branches (open_of_tree m t)) where
  abbrev links : List Link
  links = links_put datime now m name t

  abbrev last : List Link
  last = ended datime file now m name t can

  abbrev r : KeyedRecord
  r = can.kept.r

  abbrev head : TreeHead
  head = can.kept.head

  abbrev said : TreeHead
  said = next_head datime now m name t can.kept

  abbrev key : KeyHead
  key = next_key datime now m name t can.kept

  abbrev bytes : List ℕ
  bytes = header_record (next_place datime now m name t can.kept) datime name (next_cycle_of datime now m name t can.kept) said

  abbrev x : KeyedRecord
  x = keyed_bytes key bytes

  abbrev behind : State
  behind = record m { trees = insert m.trees name (tree_saved t) }

  abbrev classes : FileClasses
  classes = file_classes (info_key (keyed_records links))

  pub is : HeaderIsReplaced links r head (next_place datime now m name t can.kept) bytes key said
  is = replaced image other links (saved_of m) r head (next_place datime now m name t can.kept) bytes key said (replaced_by datime file now m name t can image chain put other chain_then)

  name_r : r.head.name ≡ name
  name_r = name_is datime file now m name t can image chain put

  name_x : key.name ≡ name
  name_x = key_name datime file now m name t can image chain put

  -- the others' rows are the same
  same_mid : kept_with (pending_in m) (links_without links r) ≡ kept_with (pending_in behind) (links_without links r)
  same_mid = pending_by_names (pending_in m) (pending_in behind) (links_without links r) (λ s c.
      other_rows m r name (tree_saved t) name_r s.head.name
      (other_name image links (saved_of m) r head (has_before datime file now m name t can image chain put) (records_then datime file now m name t can image chain put) s
      (in_contained s (tree_records (top_keys (keyed_records (links_without links r)))) c)))

  same_put : kept_with (pending_in m) links ≡ kept_with (pending_in m) now.links
  same_put = put.alike.kept (pending_in m)

  -- ---- rows and baskets

  abbrev defs : List BranchDef
  defs = stated_defs head.branches

  abbrev rows : List (List (List ℕ))
  rows = map (entries_of m.classes defs) t.pending

  abbrev cuts_count : ℕ
  cuts_count = cut_count (map cut_of (entries_by_branch defs rows))

  declared : classes.declared ≡ m.classes
  declared = (h datime file now m name t can image chain put).classes

  own_rows : pending_in m r.head.name ≡ t.pending
  own_rows = ap (pending_in m) name_r ∙ ap (λ (o : Option Tree). option_map_or (λ s. s.pending) o []) can.tree

  no_rows : pending_in behind key.name ≡ []
  no_rows = ap (pending_in behind) name_x ∙ changed_rows m name (tree_saved t)

  more : baskets_in said.branches ≡ baskets_in head.branches + cuts_count
  more = (names_more (record_at (keyed_records links)) head.entries (length (rows_of_tree t)) (length rows) (entries_by_branch defs rows) head.branches said.branches (as_many_each defs rows)
      (branches_then datime file now m name t can image chain put)).more

  few : cuts_count ≤ length head.branches * length rows
  few = (names_more (record_at (keyed_records links)) head.entries (length (rows_of_tree t)) (length rows) (entries_by_branch defs rows) head.branches said.branches (as_many_each defs rows)
      (branches_then datime file now m name t can image chain put)).few

  put_is : put_since (pending_in m) classes r head ≡ put_count (map cut_of (entries_by_branch defs rows))
  put_is =
      let same = declared in
      ap (λ rs. put_count (cuts_of classes.declared defs rs)) own_rows ∙ (λ i. put_count (cuts_of (same i) defs t.pending))

  none_then : put_since (pending_in behind) classes x said ≡ 0
  none_then = none_put (pending_in behind) classes x said (ap (λ (o : Option KeyedRecord). header_in (file_classes o) x) put.alike.info ∙ can.written.header) no_rows

  -- one basket more for each open one
  opened : length (save_baskets datime now m name t) + put_count (map cut_of (entries_by_branch defs rows)) ≡ cuts_count
  opened =
      let same = defs_are datime file now m name t can image chain put in
      subst (λ (ds : List BranchDef). length (save_baskets datime now m name t) + put_count (map cut_of (entries_by_branch ds (map (entries_of m.classes ds) t.pending)))
      ≡ cut_count (map cut_of (entries_by_branch ds (map (entries_of m.classes ds) t.pending)))) (sym same) (open_counted datime name t.branches (map (entries_of m.classes t.branches) t.pending))

  pub counted : (kept_with (pending_in behind) last).count ≡ (kept_with (pending_in m) now.links).count + length (save_baskets datime now m name t)
  counted =
      let a = (is.kept_before (pending_in m)).count in
      let b = (is.kept (pending_in behind)).count in
      let mid = ap (λ (k : KeptRecords). k.count) same_mid in
      let front = ap (λ (k : KeptRecords). k.count) same_put in
      omega (arith, a, b, mid, front, more, put_is, none_then, opened, places_count head.branches, places_count said.branches)

  pub named : (kept_with (pending_in behind) last).name ≡ (kept_with (pending_in m) now.links).name
  named =
      let mid = ap (λ (k : KeptRecords). k.name) same_mid in
      sym (is.kept (pending_in behind)).name ∙ sym mid ∙ (is.kept_before (pending_in m)).name ∙ ap (λ (k : KeptRecords). k.name) same_put

  -- ---- what is held

  abbrev hl : ℕ
  hl = head_length (codes "TTree") name

  abbrev size : ℕ
  size = header_size name t.branches

  -- what the headers are long, with so many baskets
  header_is : (n : ℕ) → head_length (codes "TTree") r.head.name + header_length r.head.name defs n ≡ hl + (size + 20 * n)
  header_is n =
      let same = defs_are datime file now m name t can image chain put in
      let own = name_r in
      λ i. head_length (codes "TTree") (own i) + header_length (own i) (same i) n

  header_then : head_length (codes "TTree") key.name + header_length key.name (stated_defs said.branches) (basket_count said) ≡ hl + (size + 20 * baskets_in said.branches)
  header_then =
      let same = defs_then datime file now m name t can image chain put in
      let own = name_x in
      λ i. head_length (codes "TTree") (own i) + header_length (own i) (same i) (basket_count said)

  weight_before : own_weight classes r head (pending_in m) ≡ cuts_weight name defs (entries_by_branch defs rows) + (hl + (size + 20 * baskets_in head.branches) + 3)
  weight_before =
      let same = declared in
      let own = name_r in
      ap (λ (rs : List Row). 10 * put_count (cuts_of classes.declared defs rs) + tree_weight (tree_lengths classes.declared r.head.name rs head)) own_rows
      ∙ weight_of_rows classes.declared r.head.name head t.pending
      ∙ (λ i. cuts_weight (own i) defs (entries_by_branch defs (map (entries_of (same i) defs) t.pending)) + (header_is (baskets_in head.branches) i + 3))

  weight_then : tree_weight (tree_lengths classes.declared key.name (pending_in behind key.name) said) ≡ hl + (size + 20 * baskets_in said.branches) + 3
  weight_then =
      ap (λ (rs : List Row). tree_weight (tree_lengths classes.declared key.name rs said)) no_rows
      ∙ idle_weight classes.declared key.name said
      ∙ ap (λ (n : ℕ). n + 3) header_then

  -- the open baskets weigh as much as their records
  open_within : sum (lengths_of (save_baskets datime now m name t)) + 10 * length (save_baskets datime now m name t) + 20 * cuts_count + 10 * put_count (map cut_of (entries_by_branch defs rows))
      ≤ cuts_weight name defs (entries_by_branch defs rows)
  open_within =
      let same = defs_are datime file now m name t can image chain put in
      subst (λ (ds : List BranchDef). sum (lengths_of (save_baskets datime now m name t)) + 10 * length (save_baskets datime now m name t)
      + 20 * cut_count (map cut_of (entries_by_branch ds (map (entries_of m.classes ds) t.pending))) + 10 * put_count (map cut_of (entries_by_branch ds (map (entries_of m.classes ds) t.pending)))
      ≤ cuts_weight name ds (entries_by_branch ds (map (entries_of m.classes ds) t.pending))) (sym same) (open_low datime name t.branches (map (entries_of m.classes t.branches) t.pending))

  -- the key is no longer than that of the header before
  key_low : length (written_key key) ≤ length (written_key r.head)
  unfolding header_key
  key_low =
      let words = header_words (next_place datime now m name t can.kept) datime name (next_cycle_of datime now m name t can.kept) in
      let own = key_long words (length (header_data words name said)) in
      let has = has_before datime file now m name t can image chain put in
      let parts = and_parts (is_top_key r.head) (is_tree_record (top_keys (keyed_records links)) r) has.tree in
      let tree = (and_parts (is_tree_key r.head) (not (is_outdated (top_keys (keyed_records links)) r)) parts.1).0 in
      let top = in_filter (λ s. is_top_key s.head) r (keyed_records links) (in_contained r (keyed_records links) has.record_is.among) parts.0 in
      let written = all_at (λ s. is_named_key s.head) r (top_keys (keyed_records links)) (records_then datime file now m name t can image chain put).stand.named top in
      let least = key_at_least r.head tree written in
      let same = ap (head_length (codes "TTree")) name_r in
      omega (arith, own, least, same)

  -- there are no more baskets than rows, in each branch
  baskets_few : 20 * baskets_in said.branches ≤ 20 * length t.branches * length (rows_of_tree t)
  baskets_few =
      let old = rows_baskets m.classes (record_at (keyed_records links)) head t.saved can.kept.readable (rows_are datime file now m name t can image chain put) in
      let long = rows_long m.classes (record_at (keyed_records links)) head t.saved (rows_are datime file now m name t can image chain put) in
      let branches : length head.branches ≡ length t.branches = sym (length-map head.branches (λ b. b.def)) ∙ ap length (defs_are datime file now m name t can image chain put) in
      let pending = length-map t.pending (entries_of m.classes defs) in
      let all = length-append t.saved t.pending in
      let one : length head.branches * head.entries ≡ length t.branches * length t.saved = λ i. branches i * sym long i in
      let two : length head.branches * length rows ≡ length t.branches * length t.pending = λ i. branches i * pending i in
      let product : length t.branches * length (rows_of_tree t) ≡ length t.branches * length t.saved + length t.branches * length t.pending =
      ap (λ (n : ℕ). length t.branches * n) all ∙ mul-add (length t.branches) (length t.saved) (length t.pending) in
      omega (arith, old, few, more, one, two, product, mul_assoc 20 (length t.branches) (length (rows_of_tree t)))

  cost_is : cost_of m (Save name) ≡ save_cost name t
  unfolding cost_of
  cost_is = ap (λ (o : Option Refusal). if is_some o then 0 else accepted_cost m (Save name)) can.taken ∙ ap (λ (o : Option Tree). option_map_or (save_cost name) o 0) can.tree

  end_low : chain_end last ≤ chain_end links + (hl + (size + 20 * baskets_in said.branches) + 3)
  end_low =
      let long : length bytes ≡ padded_length (hl + (size + 20 * baskets_in said.branches)) =
      can.written.long ∙ ap padded_length ((λ i. head_length (codes "TTree") name + header_length name (defs_then datime file now m name t can image chain put i) (basket_count said))) in
      let with_it = chain_low image links (next_place datime now m name t can.kept) bytes chain (omega (arith, long)) can.written.whole.aligned (at_rule datime file now m name t can image chain put) in
      let without = end_less r.head.seek 100 (with_header datime file now m name t can) in
      omega (arith, with_it, without, long)

  pub held_low : held_with (pending_in behind) last ≤ held_with (pending_in m) now.links + cost_of m (Save name)
  held_low =
      let a = is.kept_before (pending_in m) in
      let b = is.kept (pending_in behind) in
      let one = weight_is (kept_with (pending_in m) links) (kept_with (pending_in m) (links_without links r)) r.head (tree_lengths classes.declared r.head.name (pending_in m r.head.name) head)
      (1 + length (basket_places head) + put_since (pending_in m) classes r head) a.name a.heads a.count a.trees in
      let two = weight_is (kept_with (pending_in behind) last) (kept_with (pending_in behind) (links_without links r)) key (tree_lengths classes.declared key.name (pending_in behind key.name) said)
      (1 + length (basket_places said) + put_since (pending_in behind) classes x said) b.name b.heads b.count b.trees in
      let mid = ap weight same_mid in
      let short = key_short 0 datime name 0 (can.fillable.tree_names name t can.tree).item in
      let put_held = put.held (pending_in m) in
      omega (
        arith,
        one,
        two,
        mid,
        weight_before,
        weight_then,
        open_within,
        key_low,
        baskets_few,
        cost_is,
        end_low,
        put_held,
        more,
        none_then,
        opened,
        places_count head.branches,
        places_count said.branches,
        held_is (pending_in m) links,
        held_is (pending_in behind) last,
        short,
      )

  -- ---- the end

  last_is : all_changed now.links (changes_of_save datime now m name t) ≡ last
  last_is = ap (all_changed now.links) (changes datime file now m name t can) ∙ at_end datime file now m name t can

  pub ends : SaveEnd datime now m name t can.kept
  ends =
      let state = behind_is datime file now m name t can in
      let end = last_is in
      record {
        keys = λ heads are. subst (λ (l : List Link). AreKeysOf (keyed_records l) (with_head key (without_head r.head.name r.head.cycle heads))) (sym end) (is.keys heads (put.alike.keys heads are));
        info = ap (λ (l : List Link). info_key (keyed_records l)) end ∙ is.info ∙ put.alike.info;
        items = subst AreAllItems (sym end) is.items;
        name_is = (λ i. (kept_with (pending_in (state i)) (end i)).name) ∙ named;
        count = (λ i. (kept_with (pending_in (state i)) (end i)).count) ∙ counted;
        held = subst (λ (p : State × List Link). held_with (pending_in p.0) p.1 ≤ held_with (pending_in m) now.links + cost_of m (Save name)) (λ i. (sym state i, sym end i)) held_low;
      }

pub save_ends : SaveEnds
save_ends datime file now m name t can passed =
    let all_passed = subst (λ (cs : List Change). ArePassed now.links cs (length cs)) (changes datime file now m name t can) passed in
    let long = length-append (save_baskets datime now m name t) (header_added datime name (next_cycle_of datime now m name t can.kept) (next_head datime now m name t can.kept) ∷ released can.kept.r.head.seek ∷ []) in
    let one = chain_put datime file now m name t can (length (all datime file now m name t can)) (omega (arith, long)) all_passed in
    let two = chain_header datime file now m name t can (length (all datime file now m name t can)) (omega (arith, long)) all_passed in
    let put = baskets_put datime file now m name t can (length (all datime file now m name t can)) (omega (arith, long)) all_passed in
    ends datime file now m name t can one.0 two.0 one.1 two.1 put
