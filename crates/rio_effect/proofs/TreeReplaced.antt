-- What a file keeps where other rows of a tree are pending.
use Rattle.std.proofs.Common.{◌≡◌, ℕ, ◌+◌, ◌*◌, codes, List, [], ◌∷◌, length, map, Bool, false, not, ◌==◌, refl, ap, arith}
use Rattle.std.proofs.lemmas.{Bool.{ne_eqb}, List.Sums.{sum_by-append, sum_by-cons}}
use Rattle.std.specs.{Str.{bytes_eq}}
use Rattle.rio_leaf.specs.declared.branch.BranchDef.{BranchDef}
use Rattle.rio_format.specs.declared.class.ClassDef.{ClassDef}
use Rattle.rio_chain.specs.Segments.{Link}
use Rattle.rio_machine.specs.{Limits.{head_length}, Rows.{entries_of}, State.{Row, State}}
use Rattle.rio_key.specs.Cut.{cut_of}
use Rattle.rio_tree.specs.{HeaderLength.{basket_count, header_length}, WrittenLaws.{stated_defs}, declared.head.TreeHead.{TreeHead}}
use Rattle.rio_state.specs.{Closing.{KeptRecords, kept_with}, Contents.{FileClasses, file_classes}, KeyedRecords.{KeyedRecord, info_key, keyed_records, top_keys, tree_records}, OneLess.{links_without}, Reads.{AreRecordsOf}, Trees.{basket_places}}
use Rattle.rio_state.specs.TreeLengths.{PendingRows, cut_count, cuts_of, entries_by_branch, open_baskets, put_count, tree_lengths}
use Rattle.rio_state.proofs.Members.{in_contained}
use Rattle.rio_effect.specs.TreeDeletes.{HasHeader, put_since}
use Rattle.rio_effect.proofs.{CutWeights.{cuts_weight, weight_by_cuts}, NewHeaders.{idle_weight}, PendingNames.{pending_by_names}, TreeNeeds.{other_name, tree_delete_keeps_less, tree_weight, weight, weight_is}}

-- ---- by its rows

nothing_weighs : (tree : List ℕ) (bs : List BranchDef) → cuts_weight tree bs (entries_by_branch bs []) ≡ 0
nothing_weighs tree [] = refl
nothing_weighs tree (b ∷ bs) = let rest = nothing_weighs tree bs in omega (arith, rest)

-- a tree weighs its open baskets and its next header
pub weight_of_rows : (classes : List ClassDef) (name : List ℕ) (head : TreeHead) (rows : List Row)
    → 10 * put_count (cuts_of classes (stated_defs head.branches) rows) + tree_weight (tree_lengths classes name rows head)
    ≡ cuts_weight name (stated_defs head.branches) (entries_by_branch (stated_defs head.branches) (map (entries_of classes (stated_defs head.branches)) rows))
    + (head_length (codes "TTree") name + header_length name (stated_defs head.branches) (basket_count head) + 3)
unfolding tree_lengths
weight_of_rows classes name head [] =
    let none = nothing_weighs name (stated_defs head.branches) in
    omega (arith, idle_weight classes name head, none, weight_by_cuts name (stated_defs head.branches) [])
weight_of_rows classes name head (row ∷ rows) =
    let defs = stated_defs head.branches in
    let all = map (entries_of classes defs) (row ∷ rows) in
    let cuts = map cut_of (entries_by_branch defs all) in
    let header = head_length (codes "TTree") name + header_length name defs (basket_count head + cut_count cuts) in
    let some : (length (row ∷ rows) == 0) ≡ false = ne_eqb (length (row ∷ rows)) 0 (omega arith) in
    let is = ap (λ (none : Bool). tree_weight (record { pending = not none; header = header; baskets = open_baskets name defs cuts })) some in
    let saves = sum_by-append (λ n. n + 3) (map (λ b. b.size) (open_baskets name defs cuts)) (header ∷ []) in
    omega (arith, is, weight_by_cuts name defs all, saves, sum_by-cons (λ n. n + 3) header [])

-- ---- other rows

-- what a tree weighs with these rows pending
abbrev pub own_weight : FileClasses → KeyedRecord → TreeHead → PendingRows → ℕ
own_weight classes r head p = 10 * put_since p classes r head + tree_weight (tree_lengths classes.declared r.head.name (p r.head.name) head)

module _ (file : List ℕ) (links : List Link) (m : State) (r : KeyedRecord) (head : TreeHead) (has : HasHeader file links r head) (is : AreRecordsOf (keyed_records links) m)
    (pending other : PendingRows) (agree : (name : List ℕ) → bytes_eq name r.head.name ≡ false → pending name ≡ other name) where
  abbrev classes : FileClasses
  classes = file_classes (info_key (keyed_records links))

  same_without : kept_with pending (links_without links r) ≡ kept_with other (links_without links r)
  same_without = pending_by_names pending other (links_without links r) (λ s c. agree s.head.name (other_name file links m r head has is s (in_contained s (tree_records (top_keys (keyed_records (links_without links r)))) c)))

  pub replaced_weight : weight (kept_with other links) + own_weight classes r head pending ≡ weight (kept_with pending links) + own_weight classes r head other
  replaced_weight =
      let a = tree_delete_keeps_less pending file links r head has in
      let b = tree_delete_keeps_less other file links r head has in
      let one = weight_is (kept_with pending links) (kept_with pending (links_without links r)) r.head (tree_lengths classes.declared r.head.name (pending r.head.name) head)
      (1 + length (basket_places head) + put_since pending classes r head) a.name a.heads a.count a.trees in
      let two = weight_is (kept_with other links) (kept_with other (links_without links r)) r.head (tree_lengths classes.declared r.head.name (other r.head.name) head)
      (1 + length (basket_places head) + put_since other classes r head) b.name b.heads b.count b.trees in
      let same = ap weight same_without in
      omega (arith, one, two, same)

  pub replaced_count : (kept_with other links).count + put_since pending classes r head ≡ (kept_with pending links).count + put_since other classes r head
  replaced_count =
      let a = tree_delete_keeps_less pending file links r head has in
      let b = tree_delete_keeps_less other file links r head has in
      let same = ap (λ (k : KeptRecords). k.count) same_without in
      omega (arith, a.count, b.count, same)

  pub replaced_name : (kept_with other links).name ≡ (kept_with pending links).name
  unfolding kept_with
  replaced_name = refl

  pub replaced_heads : (kept_with other links).heads ≡ (kept_with pending links).heads
  unfolding kept_with
  replaced_heads = refl
