-- A save takes effect on a file: baskets are put, then the next header, with which the rows are saved, and then the header before goes.
use Rattle.std.proofs.Common.{◌≡◌, ℕ, ◌+◌, ◌%◌, ◌<◌, ◌≤◌, List, [], ◌∷◌, length, map, take, Bool, true, false, cond, Option, Some, None, refl, sym, ap, subst, ◌∙◌, arith}
use Rattle.std.proofs.{Math.Seq.{take-append-add}, lemmas.{List.{length-append, Sorted.{IsPermutation-trans}, Sums.{fold-append}}, Option.{same_Some}, Slice.Eq.{bytes_eq-Decides}}}
use Rattle.std.specs.{Cmp.{eq_by_cmp_equiv}, FinMap.{get, get-insert, insert}, List.{find, list_any, Sorted.{IsPermutation}}, Option.{option_map_or}, Str.{bytes_eq}}
use Rattle.rio_num.proofs.BytesEq.{bytes_eq-sym}
use Rattle.rio_leaf.specs.declared.branch.BranchDef.{BranchDef}
use Rattle.rio_format.specs.declared.class.ClassDef.{ClassDef}
use Rattle.rio_key.specs.declared.head.KeyHead.{KeyHead}
use Rattle.rio_dir.specs.Table.{head_of, with_head, without_head}
use Rattle.rio_chain.specs.{Adjoining.{AreSegments}, Changes.{with_record, without_record}, Placing.{place_of, record_count, with_segment}, Releasing.{without_segment}, Segments.{IsChain, IsRecord, Link}, declared.segment.Segment.{Segment}}
use Rattle.rio_chain.proofs.{FewerRecords.{left_by_releases}, Laying.{laid_put}, Words.{whole_long}}
use Rattle.rio_close.proofs.Fitting.{count_with}
use Rattle.rio_machine.proofs.OrderLaws.{names_total}
use Rattle.rio_machine.specs.{State.{State, Tree}, declared.command.Command.{Command, TheVariants.{Save}}}
use Rattle.rio_tree.specs.declared.head.TreeHead.{TreeHead}
use Rattle.rio_fill.specs.Fill.{BranchFill, TreeFill, all_saved, defs_of, entry_count}
use Rattle.rio_state.specs.{Closing.{held_with, kept_with}, Contents.{file_classes}, DirectoryKeys.{AreKeysOf}, KeyedRecords.{KeyedRecord, info_key, keyed_records, top_keys, tree_records}}
use Rattle.rio_state.specs.{Left.{info_head}, Reads.{AreRecordsOf}, TreeLengths.{PendingRows, cuts_of, none_pending, pending_in}}
use Rattle.rio_step.specs.{Costs.{cost_of}, Refusing.{rows_of_tree}, Runs.{saved_of}, Step.{state_behind, tree_saved}}
use Rattle.rio_effect.specs.{AllItems.{AreAllItems}, BasketRuns.{AreBasketsPut}, Changes.{Change, added_length, all_changed, changed, released}, TreeRecords.{header_data, header_key, header_record, header_words, length_of_basket}}
use Rattle.rio_effect.specs.Garbage as garbage
use Rattle.rio_effect.specs.Saves.{CanBeSaved, SaveEffect, SaveEnd, links_saved, next_cycle_of, next_head, next_place, save_baskets}
use Rattle.rio_effect.specs.TreeChanges.{FileRecords, changes_of_save, cuts_of_tree, header_added, open_of_tree}
use Rattle.rio_effect.proofs.{FileChanges.{same_length}, Held.{chain_segments}, SaveEffect.{all, at_end, baskets_put, chain_header, chain_put, changes, records_ended, save_takes_effect, with_header}, SaveNeeds.{save_ends}, SavedHeader.{key_name}}
use Rattle.rio_recover.proofs.Released.{record_segment}
use Rattle.rio_recover.specs.{Closable.{begins_at}, TreeTable.{without_tree}, Trees.{AreTreesOf, trees_at}, declared.trees.TreeAt.{TreeAt}}
use Rattle.rio_session.specs.{Due.{AreApart}, Effects.{ArePassed, IsKeptAfter, TakesEffect, links_by}, Fillings.{BasketsPut, Done, branches_become, open_list, put_open, saving, saving_with, words_of_open}}
use Rattle.rio_session.specs.{Fills.{FilledTree, header_of, is_tree_of, places_of_trees, tree_at_of, with_change}, Kept.{all_done, changes_by}, Session.{HoldsPutRows, OpensRows, file_records}, SessionState.{SessionState, headers_of}}
use Rattle.rio_session.proofs.StandsOn.{StandsOn}
use Rattle.rio_session.proofs.{CutFills.{opened, rests}, FilledChanges.{changed_other, changed_own}, FilledTrees.{found_name}, Keeps.{begins_still}, NewTrees.{changed_moved, changed_ordered}, PutsKept.{ArePutsKept, puts_kept}, ReplacedHeaders.{tree_replaced}}
use Rattle.rio_session.proofs.{SaveChanges.{IsSavable, can, head_same, next_place_is, save_all, save_done, save_many, saving_is}, SaveHeads.{AreReady, AreSound, are_ready}, SaveKeys.{defs_are, key_is, keeps, name_is, there, x}}
use Rattle.rio_session.proofs.{SaveRows.{is, key, last_links, other_tree, put_links, rows_then, state_then, trees_then}, FillableBehind.{fillable_behind}, TreesOfFile.{headers_still}}

-- ---- without pending rows no basket is open

all_empty : (saved count : ℕ) (bs cs : List BranchFill) → AreReady saved count bs cs → opened cs ≡ map (λ d. []) (defs_of cs)
all_empty saved count [] [] are = refl
all_empty saved count [] (c ∷ cs) are = absurd are
all_empty saved count (b ∷ bs) [] are = absurd are
all_empty saved count (b ∷ bs) (c ∷ cs) are = let one = are.0.none in let rest = all_empty saved count bs cs are.1 in λ i. one i ∷ rest i

no_rests : (classes : List ClassDef) (ds : List BranchDef) → rests (cuts_of classes ds []) ≡ map (λ d. []) ds
no_rests classes [] = refl
no_rests classes (d ∷ ds) = ap (λ (l : List (List (List ℕ))). [] ∷ l) (no_rests classes ds)

defs_ready : (saved count : ℕ) (bs cs : List BranchFill) → AreReady saved count bs cs → defs_of cs ≡ defs_of bs
defs_ready saved count [] [] are = refl
defs_ready saved count [] (c ∷ cs) are = absurd are
defs_ready saved count (b ∷ bs) [] are = absurd are
defs_ready saved count (b ∷ bs) (c ∷ cs) are = let one = are.0.def in let rest = defs_ready saved count bs cs are.1 in λ i. one i ∷ rest i

-- the name is that of the first record, whatever rows are pending
name_same : (pending other : PendingRows) (links : List Link) → (kept_with pending links).name ≡ (kept_with other links).name
unfolding kept_with
name_same pending other links = refl

-- one length for each change
pub as_many : (datime : ℕ) (tree : List ℕ) (count : ℕ) (segments : List Segment) (bs : List BranchFill) (flags : List Bool)
    → length (put_open datime tree count segments bs flags).lengths ≡ length (put_open datime tree count segments bs flags).changes
as_many datime tree count segments [] flags = refl
as_many datime tree count segments (b ∷ bs) [] = refl
as_many datime tree count segments (b ∷ bs) (true ∷ flags) =
    let n = length_of_basket (words_of_open tree datime b) in
    omega (arith, as_many datime tree count (with_segment (place_of segments n) n segments) bs flags)
as_many datime tree count segments (b ∷ bs) (false ∷ flags) = as_many datime tree count segments bs flags

-- a header is as long at each place
pub header_at : (place datime : ℕ) (name : List ℕ) (cycle : ℕ) (head : TreeHead) → length (header_record place datime name cycle head) ≡ length (header_record 0 datime name cycle head)
unfolding header_record
header_at place datime name cycle head = same_length place (header_words 0 datime name cycle) (header_data (header_words 0 datime name cycle) name head)

-- it is put where the rule places it
pub header_places : (place datime : ℕ) (name : List ℕ) (cycle : ℕ) (head : TreeHead)
    → added_length (header_words 0 datime name cycle) (header_data (header_words 0 datime name cycle) name head) ≡ length (header_record place datime name cycle head)
unfolding header_record
header_places place datime name cycle head = sym (same_length place (header_words 0 datime name cycle) (header_data (header_words 0 datime name cycle) name head))

-- the links once the baskets and the header are put
pub at_header : (datime : ℕ) (file : List ℕ) (now : FileRecords) (m : State) (name : List ℕ) (t : Tree) (can : CanBeSaved datime file now m name t)
    → all_changed now.links (take (length (save_baskets datime now m name t) + 1) (all datime file now m name t can)) ≡ with_header datime file now m name t can
unfolding header_record
at_header datime file now m name t can =
    let baskets = save_baskets datime now m name t in
    let header = header_added datime name (next_cycle_of datime now m name t can.kept) (next_head datime now m name t can.kept) in
    ap (all_changed now.links) (take-append-add baskets (header ∷ released can.kept.r.head.seek ∷ []) 1) ∙ fold-append changed now.links baskets (header ∷ [])

module _ (s : SessionState) (m : State) (file : List ℕ) (h : StandsOn s m file) (k : KeyHead) (t : FilledTree) (found : find (is_tree_of k.name) s.trees ≡ Some t) (first : head_of k.name None s.heads ≡ Some k)
    (sound : AreSound t.fill.saved t.fill.pending t.fill.branches) (savable : IsSavable s m file h k t found first sound) (apart : AreApart (places_of_trees s.trees))
    (begins : list_any (begins_at k.seek) s.segments ≡ true) (later : 100 < k.seek) where
  abbrev own : Tree
  own = x s m file h k t found first

  abbrev c : Command
  c = Save k.name

  abbrev done : Done
  done = saving_with s k.name t.fill k

  pub saving_same : saving s k.name ≡ saving_with s k.name t.fill k
  saving_same = saving_is s m file h k t found first sound

  -- ---- the changes

  pub links_are : (n : ℕ) → links_by s m (Save k.name) n h.links ≡ links_saved s.datime (file_records s h.links) m k.name (x s m file h k t found first) n
  links_are n = ap (λ (d : Done). all_done (take n d.changes) h.links) saving_same ∙ save_done s m file h k t found first sound savable n

  pub many : length (changes_by s m (Save k.name)) ≡ length (changes_of_save s.datime (file_records s h.links) m k.name (x s m file h k t found first))
  many = ap (λ (d : Done). length d.changes) saving_same ∙ save_many s m file h k t found first sound savable

  passed_by : (n : ℕ) → ArePassed s m (Save k.name) n h.links → garbage.ArePassed h.links (changes_of_save s.datime (file_records s h.links) m k.name (x s m file h k t found first)) n
  passed_by n passed j low = let p = passed j low in (p.0, subst (λ (l : List Link). IsChain l p.0) (links_are j) p.1)

  effect : SaveEffect s.datime (file_records s h.links) m k.name (x s m file h k t found first)
  effect = save_takes_effect s.datime file (file_records s h.links) m k.name own (can s m file h k t found first sound savable)

  abbrev turn_of : ℕ
  turn_of = length (save_baskets s.datime (file_records s h.links) m k.name own)

  pub all_long : length (changes_of_save s.datime (file_records s h.links) m k.name (x s m file h k t found first)) ≡ turn_of + 2
  all_long =
      ap length (changes s.datime file (file_records s h.links) m k.name own (can s m file h k t found first sound savable))
      ∙ length-append (save_baskets s.datime (file_records s h.links) m k.name own)
      (header_added s.datime k.name (next_cycle_of s.datime (file_records s h.links) m k.name own (keeps s m file h k t found first)) (next_head s.datime (file_records s h.links) m k.name own (keeps s m file h k t found first))
      ∷ released (keeps s m file h k t found first).r.head.seek ∷ [])

  -- ---- what is kept then

  last_is : all_changed h.links (changes_of_save s.datime (file_records s h.links) m k.name (x s m file h k t found first)) ≡ last_links s m file h k t found first sound savable apart
  last_is =
      ap (all_changed h.links) (changes s.datime file (file_records s h.links) m k.name own (can s m file h k t found first sound savable))
      ∙ at_end s.datime file (file_records s h.links) m k.name own (can s m file h k t found first sound savable)

  pub all_is : all_done (changes_by s m (Save k.name)) h.links ≡ all_changed h.links (changes_of_save s.datime (file_records s h.links) m k.name (x s m file h k t found first))
  all_is = ap (λ (d : Done). all_done d.changes h.links) saving_same ∙ save_all s m file h k t found first sound savable

  state_is : state_behind m (Save k.name) ≡ state_then s m file h k t found first sound savable apart
  state_is = ap (λ (o : Option Tree). option_map_or (λ y. record m { trees = insert m.trees k.name (tree_saved y) }) o m) (there s m file h k t found first)

  abbrev put_by : List Segment → BasketsPut
  put_by segments = put_open s.datime k.name (entry_count t.fill) segments t.fill.branches (open_list t.fill.branches)

  -- the key of the next header
  abbrev key_by : BasketsPut → KeyHead
  key_by p =
      let head = header_of (all_saved (branches_become p.branches t.fill)) in
      header_key (place_of p.segments (length (header_record 0 s.datime k.name (k.cycle + 1) head))) s.datime k.name (k.cycle + 1) head

  key_then : key s m file h k t found first sound savable apart ≡ key_by (put_by s.segments)
  key_then =
      let place = next_place_is s m file h k t found first sound savable in
      let own_key = key_is s m file h k t found first in
      let said = head_same s m file h k t found first sound in
      (λ i. header_key (place i) s.datime k.name ((own_key i).cycle + 1) (sym said i))
      ∙ ap (λ (segs : List Segment).
      let head = header_of (all_saved (branches_become (put_by segs).branches t.fill)) in
      header_key (place_of (put_by s.segments).segments (length (header_record 0 s.datime k.name (k.cycle + 1) head))) s.datime k.name (k.cycle + 1) head)
      (sym h.chain.same)

  said_then : header_of (all_saved (branches_become (put_by s.segments).branches t.fill)) ≡ next_head s.datime (file_records s h.links) m k.name own (keeps s m file h k t found first)
  said_then = ap (λ (segs : List Segment). header_of (all_saved (branches_become (put_by segs).branches t.fill))) h.chain.same ∙ head_same s m file h k t found first sound

  -- ---- how many records there are

  shape : AreSegments s.segments
  shape = subst AreSegments (sym h.chain.same) (chain_segments file h.links h.chain.chain)

  puts : ArePutsKept s.segments (put_by s.segments)
  puts = puts_kept s.datime k.name (entry_count t.fill) s.segments t.fill.branches (open_list t.fill.branches) shape

  abbrev bytes_long : ℕ
  bytes_long = length (header_record 0 s.datime k.name (k.cycle + 1) (header_of (all_saved (branches_become (put_by s.segments).branches t.fill))))

  whole : (place : ℕ) × IsRecord place (header_record place s.datime k.name (k.cycle + 1) (header_of (all_saved (branches_become (put_by s.segments).branches t.fill))))
  whole =
      let own_key = key_is s m file h k t found first in
      let said = said_then in
      let place = next_place s.datime (file_records s h.links) m k.name own (keeps s m file h k t found first) in
      (place, subst (λ (y : KeyHead × TreeHead). IsRecord place (header_record place s.datime k.name (y.0.cycle + 1) y.1)) (λ i. (own_key i, sym said i)) savable.written.whole)

  some : 4 ≤ bytes_long
  some = let long = whole_long whole.0 _ whole.1 in let same = header_at whole.0 s.datime k.name (k.cycle + 1) (header_of (all_saved (branches_become (put_by s.segments).branches t.fill))) in omega (arith, long, same)

  aligned : bytes_long % 4 ≡ 0
  aligned = let own_aligned = whole.1.aligned in let same = header_at whole.0 s.datime k.name (k.cycle + 1) (header_of (all_saved (branches_become (put_by s.segments).branches t.fill))) in omega (arith, own_aligned, same)

  with_header_shape : AreSegments (with_segment (place_of (put_by s.segments).segments bytes_long) bytes_long (put_by s.segments).segments)
  with_header_shape = (laid_put (put_by s.segments).segments bytes_long puts.shape some aligned).0

  -- a change for each basket
  pub put_many : length (put_by s.segments).changes ≡ length (save_baskets s.datime (file_records s h.links) m k.name (x s m file h k t found first))
  put_many =
      let changes = save_many s m file h k t found first sound savable in
      let all = length-append (put_by s.segments).changes (with_record (place_of (put_by s.segments).segments bytes_long) (header_record (place_of (put_by s.segments).segments bytes_long) s.datime k.name (k.cycle + 1) (header_of (all_saved (branches_become (put_by s.segments).branches t.fill)))) ∷ without_record k.seek ∷ []) in
      omega (arith, changes, all, all_long)

  pub counted : record_count (saving_with s k.name t.fill k).kept.segments ≡ record_count s.segments + turn_of
  counted =
      let place = place_of (put_by s.segments).segments bytes_long in
      let there_still = begins_still k.seek place bytes_long (put_by s.segments).segments (puts.begins k.seek begins) in
      let r = record_segment k.seek (with_segment place bytes_long (put_by s.segments).segments) there_still in
      let left = left_by_releases r.0 r.2 k.seek r.1 (subst AreSegments r.3 with_header_shape) later in
      let one : record_count (without_segment k.seek (with_segment place bytes_long (put_by s.segments).segments)) + 1 ≡ record_count (with_segment place bytes_long (put_by s.segments).segments) =
      subst (λ (ss : List Segment). record_count (without_segment k.seek ss) + 1 ≡ record_count ss) (sym r.3) left.count in
      let more = count_with place bytes_long (put_by s.segments).segments in
      let baskets = puts.count in
      let lengths = as_many s.datime k.name (entry_count t.fill) s.segments t.fill.branches (open_list t.fill.branches) in
      omega (arith, one, more, baskets, lengths, put_many)

  -- ---- in files that were reached

  module _ (passed : ArePassed s m (Save k.name) (length (changes_by s m (Save k.name))) h.links) where
    abbrev can_be : CanBeSaved s.datime file (file_records s h.links) m k.name (x s m file h k t found first)
    can_be = can s m file h k t found first sound savable

    abbrev all_changes : List Change
    all_changes = changes_of_save s.datime (file_records s h.links) m k.name own

    reached : garbage.ArePassed h.links all_changes (length all_changes)
    reached = passed_by (length all_changes) (λ j low. passed j (omega (arith, low, many)))

    reached_all : garbage.ArePassed h.links (all s.datime file (file_records s h.links) m k.name own can_be) (length all_changes)
    reached_all = subst (λ (cs : List Change). garbage.ArePassed h.links cs (length all_changes)) (changes s.datime file (file_records s h.links) m k.name own can_be) reached

    one : (image : List ℕ) × IsChain (put_links s m file h k t found first sound savable apart) image
    one = chain_put s.datime file (file_records s h.links) m k.name own can_be (length all_changes) (omega (arith, all_long)) reached_all

    two : (image : List ℕ) × IsChain (with_header s.datime file (file_records s h.links) m k.name own can_be) image
    two = chain_header s.datime file (file_records s h.links) m k.name own can_be (length all_changes) (omega (arith, all_long)) reached_all

    put : AreBasketsPut s.datime k.name (length (rows_of_tree own)) h.links own.branches (open_of_tree m own)
    put = baskets_put s.datime file (file_records s h.links) m k.name own can_be (length all_changes) (omega (arith, all_long)) reached_all

    end : SaveEnd s.datime (file_records s h.links) m k.name own (keeps s m file h k t found first)
    end = save_ends s.datime file (file_records s h.links) m k.name own can_be reached

    abbrev last : List Link
    last = last_links s m file h k t found first sound savable apart

    -- ---- the trees

    trees_put : AreTreesOf (keyed_records (put_links s m file h k t found first sound savable apart)) (headers_of s)
    trees_put =
        headers_still (keyed_records h.links) (keyed_records (put_links s m file h k t found first sound savable apart)) (headers_of s) put.alike.info
        (ap (λ (tops : List KeyedRecord). tree_records tops) put.leaves.tops) h.trees

    abbrev change : TreeFill → TreeFill
    change f = all_saved (branches_become (put_by s.segments).branches f)

    trees_last : AreTreesOf (keyed_records last) (map tree_at_of (trees_then s m file h k t found first sound savable apart))
    trees_last =
        let kr = keeps s m file h k t found first in
        let named = name_is s m file h k t found first in
        let replaced = is s m file h k t found first sound savable apart one.0 two.0 one.1 two.1 put in
        let moved = tree_replaced one.0 two.0 (put_links s m file h k t found first sound savable apart) (saved_of m) kr.r kr.head (next_place s.datime (file_records s h.links) m k.name own kr)
        (header_record (next_place s.datime (file_records s h.links) m k.name own kr) s.datime k.name (next_cycle_of s.datime (file_records s h.links) m k.name own kr) (next_head s.datime (file_records s h.links) m k.name own kr))
        (key s m file h k t found first sound savable apart) (next_head s.datime (file_records s h.links) m k.name own kr) replaced (headers_of s) trees_put in
        let names : (key s m file h k t found first sound savable apart).name ≡ t.name = key_name s.datime file (file_records s h.links) m k.name own can_be one.0 one.1 put ∙ sym (found_name k.name t s.trees found) in
        let said = said_then in
        let first_is : ◌≡◌ {A = TreeAt} (record { name = (key s m file h k t found first sound savable apart).name; head = next_head s.datime (file_records s h.links) m k.name own kr }) (tree_at_of (record t { fill = change t.fill })) =
        λ i. record { name = names i; head = sym said i } in
        let own_moved = subst (λ (y : TreeAt × List ℕ). IsPermutation (trees_at (file_classes (info_key (keyed_records last))) (tree_records (top_keys (keyed_records last)))) (y.0 ∷ without_tree y.1 (headers_of s)))
        (λ i. (first_is i, named i)) moved in
        record {
          ordered = changed_ordered k.name change s.trees h.trees.ordered;
          each = IsPermutation-trans (trees_at (file_classes (info_key (keyed_records last))) (tree_records (top_keys (keyed_records last)))) (tree_at_of (record t { fill = change t.fill }) ∷ without_tree k.name (headers_of s))
              (map tree_at_of (with_change k.name change s.trees)) own_moved (changed_moved k.name change t s.trees h.trees.ordered found);
        }

    -- ---- the open baskets

    ready : AreReady t.fill.saved (entry_count t.fill) t.fill.branches (put_by s.segments).branches
    ready =
        subst (λ (segs : List Segment). AreReady t.fill.saved (entry_count t.fill) t.fill.branches (put_by segs).branches) (sym h.chain.same) (are_ready s.datime k.name h.links t.fill sound)

    opens_last : (name : List ℕ) (v : FilledTree) (y : Tree) → find (is_tree_of name) (trees_then s m file h k t found first sound savable apart) ≡ Some v → get (insert m.trees k.name (tree_saved own)) name ≡ Some y
        → opened v.fill.branches ≡ rests (cuts_of_tree m y)
    opens_last name v y found_then at = by (bytes_eq k.name name) refl
      where
        by : (b : Bool) → bytes_eq k.name name ≡ b → opened v.fill.branches ≡ rests (cuts_of_tree m y)
        by true e =
            let same : k.name ≡ name = (bytes_eq-Decides k.name name).0 e in
            let here : get (insert m.trees k.name (tree_saved own)) k.name ≡ Some (tree_saved own) =
            get-insert names_total m.trees k.name (tree_saved own) k.name ∙ ap (λ (c : Bool). cond c (Some (tree_saved own)) (get m.trees k.name)) ((eq_by_cmp_equiv names_total).refl k.name) in
            let tree : tree_saved own ≡ y = same_Some (tree_saved own) y (sym here ∙ ap (get (insert m.trees k.name (tree_saved own))) same ∙ at) in
            let filled : record t { fill = change t.fill } ≡ v =
            same_Some (record t { fill = change t.fill }) v (sym (changed_own k.name change t s.trees found) ∙ ap (λ (n : List ℕ). find (is_tree_of n) (with_change k.name change s.trees)) same ∙ found_then) in
            let defs : defs_of (put_by s.segments).branches ≡ own.branches = defs_ready t.fill.saved (entry_count t.fill) t.fill.branches (put_by s.segments).branches ready ∙ defs_are s m file h k t found first in
            ap (λ (w : FilledTree). opened w.fill.branches) (sym filled)
            ∙ all_empty t.fill.saved (entry_count t.fill) t.fill.branches (put_by s.segments).branches ready
            ∙ ap (map (λ d. [])) defs
            ∙ sym (no_rests m.classes own.branches)
            ∙ ap (λ (z : Tree). rests (cuts_of_tree m z)) tree
        by false e =
            let other : bytes_eq name k.name ≡ false = bytes_eq-sym name k.name ∙ e in
            h.opens name v y (sym (changed_other k.name change name s.trees other) ∙ found_then) (sym (other_tree m k.name name (tree_saved own) e) ∙ at)

    -- ---- all of it

    pub kept_then : IsKeptAfter s m (Save k.name) h.links (all_done (changes_by s m (Save k.name)) h.links)
    kept_then =
        let done_is = sym saving_same in
        let links = sym all_is in
        let own_key = key_is s m file h k t found first in
        let next_key = key_then in
        let state = sym state_is in
        record {
          keys = subst (λ (y : List Link × Done). AreKeysOf (keyed_records y.0) y.1.kept.heads) (λ i. (links i, done_is i))
              (subst (λ (y : KeyHead × KeyHead). AreKeysOf (keyed_records (all_changed h.links all_changes)) (with_head y.0 (without_head y.1.name y.1.cycle s.heads))) (λ i. (next_key i, own_key i)) (end.keys s.heads h.keys));
          records = subst (λ (y : List Link × State). AreRecordsOf (keyed_records y.0) (saved_of y.1)) (λ i. ((sym last_is ∙ links) i, state i))
              (records_ended s.datime file (file_records s h.links) m k.name own can_be one.0 one.1 put two.0 two.1);
          trees = subst (λ (y : List Link × Done). AreTreesOf (keyed_records y.0) (headers_of y.1.kept)) (λ i. ((sym last_is ∙ links) i, done_is i)) trees_last;
          items = subst AreAllItems links end.items;
          fillable = fillable_behind m (Save k.name) (h.fillable.tree_names k.name own (there s m file h k t found first)).item savable.free h.fillable;
          rows = subst (λ (y : List Link × (Done × State)). HoldsPutRows y.1.0.kept y.1.1 y.0) (λ i. ((sym last_is ∙ links) i, (done_is i, state i)))
              (λ name u at. rows_then s m file h k t found first sound savable apart one.0 two.0 one.1 two.1 put name u at);
          opens = subst (λ (y : Done × State). OpensRows y.0.kept y.1) (λ i. (done_is i, state i)) (λ name v y f at. opens_last name v y f at);
          info = ap (λ (d : Done). d.kept.info) saving_same ∙ h.info ∙ ap info_head (sym end.info) ∙ ap (λ (l : List Link). info_head (info_key (keyed_records l))) links;
          name = name_same none_pending (pending_in (state_behind m (Save k.name))) (all_done (changes_by s m (Save k.name)) h.links)
              ∙ ap (λ (l : List Link). (kept_with (pending_in (state_behind m (Save k.name))) l).name) all_is
              ∙ end.name_is
              ∙ name_same (pending_in m) none_pending h.links;
          count = ap (λ (l : List Link). (kept_with (pending_in (state_behind m (Save k.name))) l).count) all_is
              ∙ end.count
              ∙ ap (λ (n : ℕ). n + turn_of) h.count
              ∙ sym counted
              ∙ ap (λ (d : Done). record_count d.kept.segments) (sym saving_same);
          held = subst (λ (l : List Link). held_with (pending_in (state_behind m (Save k.name))) l ≤ held_with (pending_in m) h.links + cost_of m (Save k.name)) links end.held;
        }

  pub save_takes : TakesEffect s m (Save k.name) h.links
  save_takes = record {
    turn = turn_of;
    within = omega (arith, many, all_long);
    early = λ n low passed. subst (λ (l : List Link). AreRecordsOf (keyed_records l) (saved_of m)) (sym (links_are n)) (effect.early n low (passed_by n passed));
    late = λ n low within passed.
        subst (λ (l : List Link). AreRecordsOf (keyed_records l) (saved_of (state_behind m (Save k.name)))) (sym (links_are n)) (effect.late n low (omega (arith, within, many)) (passed_by n passed));
    ends = λ passed. kept_then passed;
  }
