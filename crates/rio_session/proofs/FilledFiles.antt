-- What a close of a file needs, with the rows pending that a session keeps, and what the file holds then.
use Rattle.std.proofs.Common.{◌≡◌, ◌∙◌, inl, inr, ℕ, ◌+◌, ◌*◌, ◌≤◌, ◌==◌, Bool, true, false, List, [], ◌∷◌, codes, length, map, Option, Some, None, refl, sym, ap, subst, arith}
use Rattle.std.proofs.lemmas.{Bool.{eqb-true}, List.{nil_from_length, Elements.{All-head, All-tail, All-weaker}, Sorted.{Contains-permutation, sum_by-IsPermutation}, Sums.{sum_by-append, sum_by-cons, sum_by-le-sum_by}}, Option.{same_Some}, Slice.Eq.{bytes_eq-Decides}}
use Rattle.std.specs.{Prelude.{if◌then◌else◌}, FinMap.{entries, get}, List.{All, cons_option, find, flat_map, sum_by}, Option.{option_map, option_map_or}, Str.{bytes_eq}}
use Rattle.rio_key.specs.{Written.{written_key}, declared.head.KeyHead.{KeyHead}, Cut.{Cut}}
use Rattle.rio_dir.specs.Table.{heads_size}
use Rattle.rio_chain.specs.{Placing.{file_end, record_count}, Segments.{Link, chain_end, segment_of}}
use Rattle.rio_chain.proofs.PutChain.{map_end}
use Rattle.rio_machine.specs.{Limits.{head_length}, State.{Row, State, Tree}, declared.command.Command.{Command}}
use Rattle.rio_tree.specs.{declared.basket_at.BasketAt.{BasketAt}, declared.head.TreeHead.{TreeHead}}
use Rattle.rio_tree_table.specs.declared.table.KeptTree.{KeptTree}
use Rattle.rio_fill.specs.Fill.{defs_of}
use Rattle.rio_state.proofs.{CloseSizes.{close_size_is_need, closing_sum}, Members.{In, contains_in, found, in_contained, in_map, map_in}}
use Rattle.rio_state.specs.Closing.{KeptRecords, close_need, free_length, held_with, kept_in, kept_with, list_length, open_count, padded_length, saved_lengths}
use Rattle.rio_state.specs.{Contents.{FileClasses, file_classes}, KeyedRecords.{KeyedRecord, info_key, keyed_records, record_at, top_keys, tree_records}, Sizes.{close_size}, Trees.{header_in}}
use Rattle.rio_state.specs.TreeLengths.{PendingRows, TreeLengths, cuts_of, pending_in, save_lengths, tree_lengths, trees_among}
use Rattle.rio_state.specs.{DirectoryKeys.{AreKeysOf}, Reads.{AreRecordsOf}}
use Rattle.rio_step.specs.{KeptItems.{kept_tree}, Runs.{saved_of}, Step.{state_behind}}
use Rattle.rio_effect.proofs.NeedsByKeys.{items_same}
use Rattle.rio_effect.specs.{PutBaskets.{AreAllPut}, TreeCommands.{KeepsTree}}
use Rattle.rio_recover.specs.{Trees.{AreTreesOf, trees_at}, declared.trees.TreeAt.{TreeAt}}
use Rattle.rio_session.specs.{Due.{IsBranchSound, IsClosableWith, due_of, kept_records, lengths_of, lengths_of_fill, need_with}, Fills.{AreNamesOrdered, FilledTree, header_of, is_tree_of, kept_tree_of, put_baskets, put_of, tree_at_of}}
use Rattle.rio_session.specs.{Effects.{IsKeptAfter}, Items.{IsOfKeys}, Kept.{kept_by}, Session.{HoldsPutRows, HoldsState, OpensRows, file_records}, SessionState.{SessionState, headers_of, kept_trees}}
use Rattle.rio_session.proofs.{CutLengths.{HasBegun, lengths_alike, put_alike, put_idle}, FillLists.{ordered_of, own_found, sum_mapped}, FillSums.{due_bytes}, ItemsOrder.{tree_of_entry}, TreesGone.{tree_among}}

-- ---- sums

pub flat_sum : {A : Type 0} (g : A → List ℕ) (f : ℕ → ℕ) (xs : List A) → sum_by f (flat_map g xs) ≡ sum_by (λ x. sum_by f (g x)) xs
flat_sum g f [] = refl
flat_sum g f (x ∷ xs) = omega (arith, sum_by-append f (g x) (flat_map g xs), flat_sum g f xs, sum_by-cons (λ x. sum_by f (g x)) x xs)

pub same_sum : {A : Type 0} (f g : A → ℕ) (xs : List A) → ((x : A) → In x xs → f x ≡ g x) → sum_by f xs ≡ sum_by g xs
same_sum f g [] same = refl
same_sum f g (x ∷ xs) same = omega (arith, same x (inl refl), same_sum f g xs (λ y i. same y (inr i)), sum_by-cons f x xs, sum_by-cons g x xs)

-- what holds of all holds of one
pub all_in : {A : Type 0} (P : A → Type 0) (x : A) (xs : List A) → All P xs → In x xs → P x
all_in P x [] all i = absurd i
all_in P x (y ∷ ys) all (inl same) = subst P same (All-head P y ys all)
all_in P x (y ∷ ys) all (inr i) = all_in P x ys (All-tail P y ys all) i

-- ---- trees in a file

-- what a close writes of the trees of some headers
trees_told : (classes : FileClasses) (pending : PendingRows) (headers : List KeyedRecord)
    → trees_among classes pending headers ≡ map (λ (t : TreeAt). tree_lengths classes.declared t.name (pending t.name) t.head) (trees_at classes headers)
trees_told classes pending [] = refl
trees_told classes pending (r ∷ rs) = by (header_in classes r) (trees_told classes pending rs)
  where
    by : (o : Option TreeHead) → trees_among classes pending rs ≡ map (λ (t : TreeAt). tree_lengths classes.declared t.name (pending t.name) t.head) (trees_at classes rs)
        → cons_option (option_map (tree_lengths classes.declared r.head.name (pending r.head.name)) o) (trees_among classes pending rs)
        ≡ map (λ (t : TreeAt). tree_lengths classes.declared t.name (pending t.name) t.head) (cons_option (option_map (λ (head : TreeHead). let t : TreeAt = record { name = r.head.name; head = head } in t) o) (trees_at classes rs))
    by None rest = rest
    by (Some head) rest = ap (λ (l : List TreeLengths). tree_lengths classes.declared r.head.name (pending r.head.name) head ∷ l) rest

-- the classes of a state are those that its file declares
classes_are : (m : State) → (saved_of m).classes ≡ m.classes
unfolding saved_of
classes_are m = refl

-- What a session keeps of its trees is that of these links and of the pending rows of the state.
pub record AreFilled (s : SessionState) (m : State) (links : List Link) : Type 0 where
  pub records : AreRecordsOf (keyed_records links) (saved_of m)
  pub keys : AreKeysOf (keyed_records links) s.heads
  pub trees : AreTreesOf (keyed_records links) (headers_of s)
  pub kept : kept_trees s ≡ map kept_tree (entries m.trees)
  pub begun : All (λ t. All (HasBegun t.fill.saved t.fill.pending) t.fill.branches) s.trees
  pub rows : HoldsPutRows s m links
  pub opens : OpensRows s m
  pub name : (kept_in links).name ≡ s.name
  pub count : (kept_with (pending_in m) links).count ≡ record_count s.segments

pub all_begun : (trees : List FilledTree) → All (λ t. All (IsBranchSound t.fill.saved t.fill.pending) t.fill.branches) trees → All (λ t. All (HasBegun t.fill.saved t.fill.pending) t.fill.branches) trees
all_begun trees sound =
    All-weaker (λ (t : FilledTree). All (IsBranchSound t.fill.saved t.fill.pending) t.fill.branches) (λ (t : FilledTree). All (HasBegun t.fill.saved t.fill.pending) t.fill.branches)
    (λ t all. All-weaker (IsBranchSound t.fill.saved t.fill.pending) (HasBegun t.fill.saved t.fill.pending) (λ b is. is.begins) t.fill.branches all) trees sound

pub filled_now : (s : SessionState) (m : State) (file : List ℕ) (h : HoldsState s m file) → IsClosableWith s.segments s.heads s.trees s.info s.name → AreFilled s m h.links
filled_now s m file h kept = record {
  records = h.records;
  keys = h.keys;
  trees = h.trees;
  kept = h.stands.keys.kept;
  begun = all_begun s.trees kept.sound;
  rows = h.rows;
  opens = h.opens;
  name = h.name;
  count = h.count;
}

-- the same after a command
pub filled_after : (s : SessionState) (m : State) (c : Command) (links after : List Link) → (kept_by s m c).name ≡ s.name → (kept_in links).name ≡ s.name → IsKeptAfter s m c links after → IsOfKeys (kept_by s m c) (state_behind m c)
    → All (λ t. All (HasBegun t.fill.saved t.fill.pending) t.fill.branches) (kept_by s m c).trees → AreFilled (kept_by s m c) (state_behind m c) after
filled_after s m c links after still name k stands begun = record {
  records = k.records;
  keys = k.keys;
  trees = k.trees;
  kept = stands.keys.kept;
  begun = begun;
  rows = k.rows;
  opens = k.opens;
  name = k.name ∙ name ∙ sym still;
  count = k.count;
}

module _ (s : SessionState) (m : State) (links : List Link) (h : AreFilled s m links) where
  abbrev records : List KeyedRecord
  records = keyed_records links

  abbrev classes : FileClasses
  classes = file_classes (info_key (keyed_records links))

  abbrev headers : List KeyedRecord
  headers = tree_records (top_keys (keyed_records links))

  pub declared_are : (file_classes (info_key (keyed_records links))).declared ≡ m.classes
  declared_are = sym h.records.stand.classes ∙ classes_are m

  pub trees_ordered : AreNamesOrdered s.trees
  trees_ordered = ordered_of s.trees h.trees.ordered

  -- ---- one tree

  -- the tree of the state that is kept so
  pub record IsStateTree (t : FilledTree) : Type 0 where
    pub x : Tree
    pub there : get m.trees t.name ≡ Some x
    pub kept : kept_tree (t.name, x) ≡ kept_tree_of t

  pub state_tree : (t : FilledTree) → In t s.trees → IsStateTree t
  state_tree t i =
      let (e, among, same) = map_in kept_tree (kept_tree_of t) (entries m.trees) (subst (λ (l : List KeptTree). In (kept_tree_of t) l) h.kept (in_map kept_tree_of t s.trees i)) in
      let named : e.0 ≡ t.name = ap (λ (k : KeptTree). k.name) same in
      record {
        x = e.1;
        there = ap (get m.trees) (sym named) ∙ tree_of_entry m e among;
        kept = (λ j. kept_tree (sym named j, e.1)) ∙ same;
      }

  pub tree_found : (t : FilledTree) → In t s.trees → find (is_tree_of t.name) s.trees ≡ Some t
  tree_found t i = own_found t s.trees trees_ordered i

  module _ (t : FilledTree) (i : In t s.trees) where
    abbrev it : IsStateTree t
    it = state_tree t i

    pub keeps : KeepsTree (file_records s links) m t.name it.x
    keeps = h.rows t.name it.x it.there

    -- its header is the one of the file
    pub head_is : keeps.head ≡ header_of t.fill
    head_is =
        let f = found (λ (r : KeyedRecord). bytes_eq r.head.name t.name) keeps.r headers keeps.record_is in
        let named : keeps.r.head.name ≡ t.name = (bytes_eq-Decides keeps.r.head.name t.name).0 f.passes in
        let own : TreeAt = record { name = keeps.r.head.name; head = keeps.head } in
        let at = tree_among classes keeps.r keeps.head headers keeps.head_is f.among in
        let moved = in_contained own (headers_of s) (Contains-permutation (trees_at classes headers) (headers_of s) own h.trees.each (contains_in own (trees_at classes headers) at)) in
        let (u, among, same) = map_in tree_at_of own s.trees moved in
        let names : u.name ≡ t.name = ap (λ (v : TreeAt). v.name) same ∙ named in
        let one : u ≡ t = same_Some u t (sym (tree_found u among) ∙ ap (λ (n : List ℕ). find (is_tree_of n) s.trees) names ∙ tree_found t i) in
        sym (ap (λ (v : TreeAt). v.head) same) ∙ ap (λ (v : FilledTree). header_of v.fill) one

    defs_are : it.x.branches ≡ defs_of t.fill.branches
    defs_are = ap (λ (k : KeptTree). k.branches) it.kept

    rows_are : pending_in m t.name ≡ it.x.pending
    rows_are = ap (λ (o : Option Tree). option_map_or (λ (x : Tree). x.pending) o []) it.there

    cuts_are : cuts_of m.classes it.x.branches it.x.pending ≡ cuts_of m.classes (defs_of t.fill.branches) (pending_in m t.name)
    cuts_are = λ j. cuts_of m.classes (defs_are j) (sym rows_are j)

    pub opens_are : map (λ b. b.entries) t.fill.branches ≡ map (λ cut. cut.rest) (cuts_of m.classes (defs_of t.fill.branches) (pending_in m t.name))
    opens_are = h.opens t.name t it.x (tree_found t i) it.there ∙ ap (map (λ (cut : Cut). cut.rest)) cuts_are

    put_is : (file_records s links).put t.name ≡ put_of t.fill
    put_is = ap (λ (o : Option FilledTree). option_map_or (λ (u : FilledTree). put_of u.fill) o []) (tree_found t i)

    pub pending_is : t.fill.pending ≡ length (pending_in m t.name)
    pending_is = sym (ap (λ (k : KeptTree). k.pending) it.kept) ∙ ap length (sym rows_are)

    own_begun : All (HasBegun t.fill.saved t.fill.pending) t.fill.branches
    own_begun = all_in (λ (u : FilledTree). All (HasBegun u.fill.saved u.fill.pending) u.fill.branches) t s.trees h.begun i

    pub puts_are : map (λ b. length (put_baskets t.fill.saved b)) t.fill.branches ≡ map (λ cut. length cut.put) (cuts_of m.classes (defs_of t.fill.branches) (pending_in m t.name))
    puts_are = by (t.fill.pending == 0) refl
      where
        by : (b : Bool) → (t.fill.pending == 0) ≡ b
            → map (λ b. length (put_baskets t.fill.saved b)) t.fill.branches ≡ map (λ cut. length cut.put) (cuts_of m.classes (defs_of t.fill.branches) (pending_in m t.name))
        by true none =
            let zero : t.fill.pending ≡ 0 = eqb-true t.fill.pending 0 none in
            let rows : pending_in m t.name ≡ [] = nil_from_length (pending_in m t.name) (sym pending_is ∙ zero) in
            put_idle m.classes t.fill.saved t.fill.branches (subst (λ (n : ℕ). All (HasBegun t.fill.saved n) t.fill.branches) zero own_begun)
            ∙ ap (λ (l : List Row). map (λ (cut : Cut). length cut.put) (cuts_of m.classes (defs_of t.fill.branches) l)) (sym rows)
        by false some =
            let put : (file_records s links).put t.name ≡ map (put_baskets t.fill.saved) t.fill.branches = put_is ∙ ap (λ (b : Bool). if b then [] else map (put_baskets t.fill.saved) t.fill.branches) some in
            put_alike (record_at records) t.fill.saved t.fill.saved t.fill.branches (cuts_of m.classes (defs_of t.fill.branches) (pending_in m t.name)) opens_are
            (subst (λ (y : TreeHead × (List Cut × List (List BasketAt))). AreAllPut (record_at records) y.0.entries y.0.branches y.1.0 y.1.1) (λ j. (head_is j, (cuts_are j, put j))) keeps.put)

    pub tree_alike : lengths_of_fill t.name t.fill ≡ tree_lengths m.classes t.name (pending_in m t.name) (header_of t.fill)
    tree_alike =
        lengths_alike m.classes t.name (pending_in m t.name) t.fill pending_is opens_are puts_are

  -- ---- all trees

  abbrev kept : KeptRecords
  kept = kept_with (pending_in m) links

  abbrev mine : KeptRecords
  mine = kept_records s.name s.heads (record_count s.segments) s.trees

  trees_are : kept.trees ≡ trees_among (file_classes (info_key (keyed_records links))) (pending_in m) (tree_records (top_keys (keyed_records links)))
  unfolding kept_with
  trees_are = refl

  -- a sum over the file's trees is one over those that are kept
  pub trees_summed : (f : TreeLengths → ℕ) → sum_by f (kept_with (pending_in m) links).trees ≡ sum_by f (lengths_of s.trees)
  trees_summed f =
      let g = λ (t : TreeAt). tree_lengths classes.declared t.name (pending_in m t.name) t.head in
      ap (sum_by f) (trees_are ∙ trees_told classes (pending_in m) headers)
      ∙ sum_mapped f g (trees_at classes headers)
      ∙ sym (sum_by-IsPermutation (λ (t : TreeAt). f (g t)) (trees_at classes headers) (headers_of s) h.trees.each)
      ∙ sum_mapped (λ (t : TreeAt). f (g t)) tree_at_of s.trees
      ∙ same_sum (λ (t : FilledTree). f (g (tree_at_of t))) (λ (t : FilledTree). f (lengths_of_fill t.name t.fill)) s.trees
      (λ t i. ap f ((λ j. tree_lengths (declared_are j) t.name (pending_in m t.name) (header_of t.fill)) ∙ sym (tree_alike t i)))
      ∙ sym (sum_mapped f (λ (t : FilledTree). lengths_of_fill t.name t.fill) s.trees)

  name_is : (kept_with (pending_in m) links).name ≡ s.name
  unfolding kept_with
  name_is = h.name

  size_is : heads_size (kept_with (pending_in m) links).heads ≡ heads_size s.heads
  unfolding kept_with
  size_is = sym (items_same records s.heads (saved_of m) h.keys h.records (λ (k : KeyHead). length (written_key k))).sum

  saves_are : (f : ℕ → ℕ) → sum_by f (saved_lengths (kept_with (pending_in m) links)) ≡ sum_by f (flat_map save_lengths (lengths_of s.trees))
  saves_are f = flat_sum save_lengths f kept.trees ∙ trees_summed (λ (l : TreeLengths). sum_by f (save_lengths l)) ∙ sym (flat_sum save_lengths f (lengths_of s.trees))

  opened_are : open_count (kept_with (pending_in m) links) ≡ sum_by (λ (l : TreeLengths). length l.baskets) (lengths_of s.trees)
  opened_are = trees_summed (λ (l : TreeLengths). length l.baskets)

  -- a close of the file needs what is kept of it
  pub need_in_file : close_need (kept_with (pending_in m) links) ≡ need_with s.name s.heads (record_count s.segments) s.trees
  need_in_file =
      close_size_is_need kept
      ∙ (λ i. saves_are padded_length i + close_size (name_is i) (size_is i) (h.count i + opened_are i))
      ∙ sym (close_size_is_need mine)

  -- END, the saves that are due, and what a close writes then
  pub held_most : map segment_of links ≡ s.segments
      → file_end s.segments + (due_of s.trees).bytes + (list_length (kept_records s.name s.heads (record_count s.segments) s.trees) + 3 + (free_length (kept_records s.name s.heads (record_count s.segments) s.trees) + 3))
      ≤ held_with (pending_in m) links
  unfolding held_with
  held_most same =
      let end : chain_end links ≡ file_end s.segments = sym (map_end 100 links) ∙ ap file_end same in
      let long : list_length kept ≡ list_length mine = (λ i. head_length (codes "TFile") (name_is i) + 4 + size_is i) in
      let free : free_length kept ≡ free_length mine = (λ i. head_length (codes "TFile") (name_is i) + 10 * (h.count i + opened_are i + 2)) in
      let more : sum_by padded_length (saved_lengths kept) ≤ sum_by (λ n. n + 3) (saved_lengths kept) = sum_by-le-sum_by padded_length (λ n. n + 3) (saved_lengths kept) (λ n. omega arith) in
      omega (arith, closing_sum (λ n. n + 3) kept, end, long, free, more, saves_are padded_length, due_bytes s.trees)
