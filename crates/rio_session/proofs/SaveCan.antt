-- A save that nothing refuses can be made: its open baskets and its header can be written, on a file that can be closed.
use Rattle.std.proofs.Common.{◌≡◌, inl, inr, ℕ, ℤ, ◌+◌, ◌<◌, ◌≤◌, ◌^◌, List, [], ◌∷◌, ◌++◌, length, map, Bool, true, not, nat_lt, Some, None, refl, sym, ap, subst, ◌∙◌, arith}
use Rattle.std.proofs.lemmas.{Bool.{and_from, and_parts, lt-ltb, ltb-false, ltb-true, or_parts}, List.{Elements.{recursion_from_All}, Sums.{sum_by-cons}}}
use Rattle.std.specs.List.{All, find, list_all}
use Rattle.rio_leaf.specs.{Stated.{are_stated_branches}, declared.branch.BranchDef.{BranchDef}}
use Rattle.rio_format.specs.{declared.class.ClassDef.{ClassDef}, Integers.{fits_signed}, Growth.{PicksStay}, TreeClasses.{tree_classes}}
use Rattle.rio_key.specs.declared.head.KeyHead.{KeyHead}
use Rattle.rio_dir.specs.Table.{head_of}
use Rattle.rio_chain.specs.{Adjoining.{AreSegments}, Placing.{file_end}, Segments.{segment_of}, declared.segment.Segment.{Segment}}
use Rattle.rio_machine.specs.{Limits.{branch_limit}, State.{State, Tree}, declared.command.Command.TheVariants.{Save}}
use Rattle.rio_tree.specs.{HeaderLength.{basket_count}, WrittenLaws.{AreReadableBranches, FitsTreeHeader, basket_fits_header, branch_fits_header, stated_defs}}
use Rattle.rio_tree.specs.{declared.basket_at.BasketAt.{BasketAt}, declared.head.Branch.{Branch}, declared.head.TreeHead.{TreeHead}}
use Rattle.rio_fill.specs.Fill.{BranchFill, count_before, defs_of, entry_count}
use Rattle.rio_state.specs.{Contents.{FileClasses, file_classes}, KeyedRecords.{KeyedRecord, info_key, keyed_records, top_keys, tree_records}, Trees.{can_be_branches}}
use Rattle.rio_state.proofs.Members.{In, all_at}
use Rattle.rio_step.specs.{Refusing.{refusal_of}, Runs.{saved_of}, Storable.{IsTreeName, IsFillableTree}}
use Rattle.rio_close.proofs.Fitting.{place_low}
use Rattle.rio_effect.specs.Saves.{next_cycle_of, next_head, next_place}
use Rattle.rio_effect.specs.{HeaderRecords.{HeadersHaveRecords, IsHeaderRecord}, TreeChanges.{open_of_tree}}
use Rattle.rio_effect.proofs.{CutWeights.{AreShort}, FillNeeds.{short_branches}, Held.{chain_segments}, PutClasses.{short_item}}
use Rattle.rio_session.specs.{Due.{AreApart, IsBranchSound, IsClosableWith, begins_before, key_place, written_count}, Fillings.{open_list, put_open}, Fills.{FilledTree, branch_in_header, is_tree_of, places_of_trees, saved_baskets}}
use Rattle.rio_session.specs.{Session.{file_records}, SessionState.{SessionState}}
use Rattle.rio_session.proofs.StandsOn.{StandsOn}
use Rattle.rio_session.proofs.{BasketsFew.{basket_ends, baskets_few}, BasketsFit.{baskets_fit}, BasketsPlaced.{defs_put, puts_are}, CutLengths.{defs_said}, FilledFiles.{all_in}, FilledTrees.{found_among}, HeadersWritten.{header_written, tree_described}}
use Rattle.rio_session.proofs.{NoClasses.{has_list, tree_class}, PutsApart.{apart_back}, PutsFit.{HaveFitBaskets, IsPutFit, puts_fit}, SaveChanges.{IsSavable, head_same, head_then, put_same}, SaveFree.{free_cycle}, SaveHeads.{AreReady, AreSound, are_ready, early_all, readable_then}}
use Rattle.rio_session.proofs.{SaveKeys.{defs_are, head_is, keeps, key_is, record_is, there, under, x}, SaveStands.{cycle_is}, SizedRows.{AreFitOpens, opens_fit}}

-- ---- lists

all_from : (p : BasketAt → Bool) (ats : List BasketAt) → ((at : BasketAt) → In at ats → p at ≡ true) → list_all p ats ≡ true
all_from p [] each = refl
all_from p (a ∷ ats) each = and_from (p a) (list_all p ats) (each a (inl refl)) (all_from p ats (λ at i. each at (inr i)))

fits_from : (bs : List BranchFill) → ((b : BranchFill) → In b bs → (at : BasketAt) → In at b.baskets → basket_fits_header at ≡ true) → HaveFitBaskets bs
fits_from [] each = tt
fits_from (b ∷ bs) each = (all_from basket_fits_header b.baskets (each b (inl refl)), fits_from bs (λ c i. each c (inr i)))

sound_at : (saved pending : ℕ) (bs : List BranchFill) → AreSound saved pending bs → (b : BranchFill) → In b bs → IsBranchSound saved pending b
sound_at saved pending [] sound b i = absurd i
sound_at saved pending (c ∷ bs) sound b (inl same) = subst (IsBranchSound saved pending) same sound.0
sound_at saved pending (c ∷ bs) sound b (inr i) = sound_at saved pending bs sound.1 b i

count_low : (saved pending : ℕ) (bs : List BranchFill) → are_stated_branches (defs_of bs) ≡ true → AreSound saved pending bs → saved + pending < 2 ^ 63
count_low saved pending [] stated sound = absurd cc
count_low saved pending (b ∷ bs) stated sound = sound.0.small

-- ---- the header

ready_many : (saved count : ℕ) (bs cs : List BranchFill) → AreReady saved count bs cs → basket_count (record { entries = count; branches = map (branch_in_header count) cs }) ≡ written_count cs
ready_many saved count [] [] are = refl
ready_many saved count [] (c ∷ cs) are = absurd are
ready_many saved count (b ∷ bs) [] are = absurd are
ready_many saved count (b ∷ bs) (c ∷ cs) are =
    let own = ap length (early_all count c.baskets are.0.early) in
    omega (
      arith,
      own,
      ready_many saved count bs cs are.1,
      sum_by-cons (λ (d : Branch). length d.baskets) (branch_in_header count c) (map (branch_in_header count) cs),
      sum_by-cons (λ (d : BranchFill). length d.baskets) c cs,
    )

ready_fit : (saved count : ℕ) (bs cs : List BranchFill) → AreReady saved count bs cs → count < 2 ^ 63 → written_count cs < 100000000 → HaveFitBaskets cs → list_all branch_fits_header (map (branch_in_header saved) bs) ≡ true
    → list_all branch_fits_header (map (branch_in_header count) cs) ≡ true
ready_fit saved count [] [] are low few fits old = refl
ready_fit saved count [] (c ∷ cs) are low few fits old = absurd are
ready_fit saved count (b ∷ bs) [] are low few fits old = absurd are
ready_fit saved count (b ∷ bs) (c ∷ cs) are low few fits old =
    let parts = and_parts (branch_fits_header (branch_in_header saved b)) (list_all branch_fits_header (map (branch_in_header saved) bs)) old in
    let version = (and_parts _ _ (and_parts _ _ (and_parts _ _ parts.0).0).0).0 in
    let own : fits_signed 32 c.class_version ≡ true = ap (λ (v : ℤ). fits_signed 32 v) are.0.version ∙ version in
    let all = early_all count c.baskets are.0.early in
    let sum = sum_by-cons (λ (d : BranchFill). length d.baskets) c cs in
    let many : nat_lt (length (saved_baskets count c) + 1) (2 ^ 31) ≡ true = lt-ltb (length (saved_baskets count c) + 1) (2 ^ 31) (omega (arith, ap length all, few, sum)) in
    let each : list_all basket_fits_header (saved_baskets count c) ≡ true = ap (list_all basket_fits_header) all ∙ fits.0 in
    and_from (branch_fits_header (branch_in_header count c)) (list_all branch_fits_header (map (branch_in_header count) cs))
    (and_from _ _ (and_from _ _ (and_from _ _ own (lt-ltb count (2 ^ 63) low)) many) each)
    (ready_fit saved count bs cs are.1 low (omega (arith, few, sum)) fits.1 parts.1)

-- ---- a save

module _ (s : SessionState) (m : State) (file : List ℕ) (h : StandsOn s m file) (k : KeyHead) (t : FilledTree) (found_tree : find (is_tree_of k.name) s.trees ≡ Some t) (first : head_of k.name None s.heads ≡ Some k)
    (closable : IsClosableWith s.segments s.heads s.trees s.info s.name) where
  pub own_sound : AreSound t.fill.saved t.fill.pending t.fill.branches
  own_sound =
      recursion_from_All (IsBranchSound t.fill.saved t.fill.pending) t.fill.branches (all_in (λ (u : FilledTree). All (IsBranchSound u.fill.saved u.fill.pending) u.fill.branches) t s.trees closable.sound (found_among k.name t s.trees found_tree))

  pub own_apart : AreApart (places_of_trees s.trees)
  own_apart = apart_back (key_place s.info ++ map (λ (j : KeyHead). j.seek) s.heads) (places_of_trees s.trees) closable.apart

  abbrev own : Tree
  own = x s m file h k t found_tree first

  abbrev bs : List BranchFill
  bs = t.fill.branches

  abbrev cs : List BranchFill
  cs = (put_open s.datime k.name (entry_count t.fill) (map segment_of h.links) t.fill.branches (open_list t.fill.branches)).branches

  stored : IsFillableTree m.classes own
  stored = h.fillable.trees k.name own (there s m file h k t found_tree first)

  named : IsTreeName k.name
  named = h.fillable.tree_names k.name own (there s m file h k t found_tree first)

  pub short : length k.name ≤ 100
  short = short_item k.name named.item

  few : length own.branches ≤ branch_limit
  few = ltb-false branch_limit (length own.branches) (or_parts _ _ stored.few).0

  low : file_end s.segments ≤ 1999999996
  low = omega (arith, closable.room)

  low_here : file_end (map segment_of h.links) ≤ 1999999996
  low_here = omega (arith, low, ap file_end h.chain.same)

  pub count_fits : entry_count t.fill < 2 ^ 63
  count_fits = count_low t.fill.saved t.fill.pending t.fill.branches (ap are_stated_branches (defs_are s m file h k t found_tree first) ∙ stored.stated) own_sound

  -- the baskets that were put before
  one_fits : (b : BranchFill) → In b t.fill.branches → (at : BasketAt) → In at b.baskets → basket_fits_header at ≡ true
  one_fits b i at j =
      let sound = sound_at t.fill.saved t.fill.pending t.fill.branches own_sound b i in
      let begins = ltb-true at.first (count_before (t.fill.saved + t.fill.pending) b) (all_at (begins_before (t.fill.saved + t.fill.pending) b) at b.baskets sound.begins j) in
      let ends = basket_ends s m file h k t found_tree first own_sound own_apart b i at j in
      and_from _ _ (and_from _ _ (lt-ltb at.bytes (2 ^ 31) (omega (arith, ends, low))) (lt-ltb at.first (2 ^ 63) (omega (arith, begins, count_fits)))) (lt-ltb at.seek (2 ^ 63) (omega (arith, ends, low)))

  same_many : length t.fill.branches ≡ length own.branches
  same_many = sym (many t.fill.branches) ∙ ap length (defs_are s m file h k t found_tree first)
    where
      many : (ds : List BranchFill) → length (defs_of ds) ≡ length ds
      many [] = refl
      many (d ∷ ds) = omega (arith, many ds)

  put_fit : IsPutFit (map segment_of h.links) t.fill.branches (put_open s.datime k.name (entry_count t.fill) (map segment_of h.links) t.fill.branches (open_list t.fill.branches))
  put_fit =
      let defs = defs_are s m file h k t found_tree first in
      let opens = h.opens k.name t own found_tree (there s m file h k t found_tree first) in
      let fits = opens_fit m.classes own stored in
      let room = same_many in
      puts_fit s.datime k.name (entry_count t.fill) short count_fits (map segment_of h.links) t.fill.branches (open_list t.fill.branches)
      (subst AreShort (sym defs) (short_branches own.branches stored.stated))
      (subst (λ (p : List BranchDef × List (List (List ℕ))). AreFitOpens p.0 p.1) (λ i. (sym defs i, sym opens i)) fits)
      (chain_segments file h.links h.chain.chain) (fits_from t.fill.branches one_fits) (omega (arith, low_here, few, room))

  -- ---- its header

  few_then : written_count cs ≤ 42000000
  few_then =
      let before = baskets_few s m file h k t found_tree first own_sound own_apart in
      omega (arith, put_fit.many, before, low, few, same_many)

  ready : AreReady t.fill.saved (entry_count t.fill) t.fill.branches cs
  ready = are_ready s.datime k.name h.links t.fill own_sound

  abbrev pub said : TreeHead
  said = head_then s m file h k t found_tree first own_sound

  pub said_is : said ≡ next_head s.datime (file_records s h.links) m k.name (x s m file h k t found_tree first) (keeps s m file h k t found_tree first)
  said_is = head_same s m file h k t found_tree first own_sound

  fits_here : FitsTreeHeader said
  fits_here =
      let kept = keeps s m file h k t found_tree first in
      let old : list_all branch_fits_header (map (branch_in_header t.fill.saved) t.fill.branches) ≡ true = subst (λ (hd : TreeHead). list_all branch_fits_header hd.branches ≡ true) (head_is s m file h k t found_tree first) kept.fits.branches in
      record {
        entries = lt-ltb (entry_count t.fill) (2 ^ 63) count_fits;
        branches = ready_fit t.fill.saved (entry_count t.fill) t.fill.branches cs ready count_fits (omega (arith, few_then)) put_fit.fits old;
      }

  readable_here : AreReadableBranches said.entries [] said.branches
  readable_here =
      let kept = keeps s m file h k t found_tree first in
      let old = subst (λ (hd : TreeHead). AreReadableBranches hd.entries [] hd.branches) (head_is s m file h k t found_tree first) kept.readable in
      readable_then t.fill.saved (entry_count t.fill) [] t.fill.branches cs ready old

  pub many_here : basket_count said ≡ written_count cs
  many_here = ready_many t.fill.saved (entry_count t.fill) t.fill.branches cs ready

  -- END once the baskets are put
  pub end_here : file_end (put_open s.datime k.name (entry_count t.fill) s.segments t.fill.branches (open_list t.fill.branches)).segments < 4294967296
  end_here =
      let same = ap (λ (segs : List Segment). file_end (put_open s.datime k.name (entry_count t.fill) segs t.fill.branches (open_list t.fill.branches)).segments) h.chain.same in
      omega (arith, same, put_fit.end, low_here, few, same_many)

  few_here : basket_count said ≤ 50000000
  few_here = omega (arith, many_here, few_then)

  pub stated_here : stated_defs said.branches ≡ own.branches
  stated_here =
      defs_said (entry_count t.fill) cs
      ∙ defs_put (entry_count t.fill) t.fill.branches (open_list t.fill.branches) cs (puts_are s.datime k.name (entry_count t.fill) (map segment_of h.links) t.fill.branches (open_list t.fill.branches))
      ∙ defs_are s m file h k t found_tree first

  abbrev classes : FileClasses
  classes = file_classes (info_key (keyed_records h.links))

  branches_here : can_be_branches classes.declared (stated_defs said.branches) ≡ true
  branches_here =
      let known = (under s m file h k t found_tree first).classes in
      let stated = stated_here in
      let can : can_be_branches m.classes own.branches ≡ true = and_from _ _ (and_from _ _ stored.stated (ap not stored.few)) (ap not stored.known) in
      subst (λ (p : List ClassDef × List BranchDef). can_be_branches p.0 p.1 ≡ true) (λ i. (sym known i, sym stated i)) can

  described : PicksStay tree_classes classes.described
  described =
      let kept = keeps s m file h k t found_tree first in
      let is = under s m file h k t found_tree first in
      let among = subst (λ (r : KeyedRecord). In r (tree_records (top_keys (keyed_records h.links)))) (record_is s m file h k t found_tree first) is.under.among in
      let list = has_list (keyed_records h.links) kept.r kept.head (tree_class (top_keys (keyed_records h.links)) kept.r among) kept.head_is in
      tree_described (keyed_records h.links) (saved_of m) list.info h.records list.is

  place_here : next_place s.datime (file_records s h.links) m k.name (x s m file h k t found_tree first) (keeps s m file h k t found_tree first) < 2 ^ 32
  place_here =
      let same = put_same s m file h k t found_tree first own_sound in
      let shape = subst AreSegments same.segments put_fit.shape in
      let place = place_low _ (next_place s.datime (file_records s h.links) m k.name (x s m file h k t found_tree first) (keeps s m file h k t found_tree first)) _ shape refl in
      omega (arith, place, ap file_end same.segments, put_fit.end, low_here, few, same_many)

  module _ (headers : HeadersHaveRecords) (soon : s.datime < 2 ^ 32) (free : refusal_of m (Save k.name) None ≡ None) where
    cycle_low : next_cycle_of s.datime (file_records s h.links) m k.name (x s m file h k t found_tree first) (keeps s m file h k t found_tree first) < 2 ^ 16
    cycle_low =
        let low = free_cycle m k.name own (there s m file h k t found_tree first) free in
        let own_key = ap (λ (j : KeyHead). j.cycle) (key_is s m file h k t found_tree first) in
        omega (arith, own_key, cycle_is s m k h.stands t found_tree first, low)

    pub is_savable : IsSavable s m file h k t found_tree first own_sound
    is_savable = record {
      free = free;
      put = baskets_fit s.datime k.name h.links own.branches (open_of_tree m own) soon short (short_branches own.branches stored.stated) (opens_fit m.classes own stored) (chain_segments file h.links h.chain.chain)
          (omega (arith, low_here, few));
      written = subst (λ (hd : TreeHead). IsHeaderRecord classes (next_place s.datime (file_records s h.links) m k.name (x s m file h k t found_tree first) (keeps s m file h k t found_tree first)) s.datime k.name
          (next_cycle_of s.datime (file_records s h.links) m k.name (x s m file h k t found_tree first) (keeps s m file h k t found_tree first)) hd) said_is
          (header_written headers classes (next_place s.datime (file_records s h.links) m k.name (x s m file h k t found_tree first) (keeps s m file h k t found_tree first)) s.datime k.name
          (next_cycle_of s.datime (file_records s h.links) m k.name (x s m file h k t found_tree first) (keeps s m file h k t found_tree first)) said
          named.item named.free branches_here described fits_here readable_here place_here soon cycle_low few_here);
      fits = subst FitsTreeHeader said_is fits_here;
    }
