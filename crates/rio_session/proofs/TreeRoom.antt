-- What a close needs with a new tree.
use Rattle.std.proofs.Common.{◌≡◌, ◌∙◌, ℕ, ◌+◌, List, [], ◌∷◌, ◌++◌, codes, length, map, true, Option, Some, None, refl, sym, ap, arith}
use Rattle.std.proofs.lemmas.{Bool.{eqb-true}, List.{length-append}}
use Rattle.std.specs.List.{list_all, sum_by}
use Rattle.std.proofs.lemmas.List.Sums.{sum_by-cons}
use Rattle.rio_leaf.specs.declared.branch.BranchDef.{BranchDef}
use Rattle.rio_format.specs.declared.class.ClassDef.{ClassDef}
use Rattle.rio_key.specs.{Written.{written_key}, declared.head.KeyHead.{KeyHead}}
use Rattle.rio_dir.specs.Table.{heads_size, with_head}
use Rattle.rio_chain.specs.Placing.{place_of, record_count}
use Rattle.rio_machine.specs.{Limits.{head_length}, State.{State}, declared.command.Command.TheVariants.{Tree as MakeTree}}
use Rattle.rio_state.specs.Sizes.{close_size}
use Rattle.rio_tree.specs.declared.head.TreeHead.{TreeHead}
use Rattle.rio_fill.specs.Fill.{BranchFill, branch_fill_of, fill_of}
use Rattle.rio_step.specs.{Refusing.{refusal_of}, Step.{state_behind}}
use Rattle.rio_effect.specs.TreeRecords.{header_key, header_record, new_branch, new_branches, new_head}
use Rattle.rio_recover.specs.Closable.{is_sized, list_count}
use Rattle.rio_session.specs.{Due.{IsClosableWith, due_of, due_of_fill, need_with, open_lengths, written_count}, Fillings.{Done, listing_if_none, making}, Fills.{FilledTree, with_filled}}
use Rattle.rio_session.specs.{Items.{IsOfKeys}, Marks.{basket_total, state_need}, SessionState.{SessionState, kept_trees}, TreePlans.{need_of_tree}}
use Rattle.rio_session.proofs.{FillSums.{need_by_due, sum_with}, Keeps.{all_with, length_with, size_with}, Needs.{baskets_counted, need_by_keys}, NewFills.{new_filled}, SaveAgrees.{header_sized}, TreeSteps.{tree_stands_kept}}

-- ---- a new tree

pub none_open : (tree : List ℕ) (classes : List ClassDef) (before branches : List BranchDef) → length (open_lengths tree (map branch_fill_of (new_branches classes before branches))) ≡ 0
none_open tree classes before [] = refl
none_open tree classes before (b ∷ bs) = none_open tree classes (before ++ b ∷ []) bs

none_written : (classes : List ClassDef) (before branches : List BranchDef) → written_count (map branch_fill_of (new_branches classes before branches)) ≡ 0
none_written classes before [] = refl
none_written classes before (b ∷ bs) =
    let rest = none_written classes (before ++ b ∷ []) bs in
    omega (arith, rest, sum_by-cons (λ (c : BranchFill). length c.baskets) (branch_fill_of (new_branch classes before b)) (map branch_fill_of (new_branches classes (before ++ b ∷ []) bs)))

-- without rows a save of it isn't due
pub no_bytes : (name : List ℕ) (classes : List ClassDef) (branches : List BranchDef) → (due_of_fill name (fill_of (new_head classes branches))).bytes ≡ 0
no_bytes name classes branches = refl

-- ---- its key

key_class : (place datime : ℕ) (name : List ℕ) (head : TreeHead) → (header_key place datime name 1 head).class ≡ codes "TTree"
unfolding header_key
key_class place datime name head = refl

key_name : (place datime : ℕ) (name : List ℕ) (head : TreeHead) → (header_key place datime name 1 head).name ≡ name
unfolding header_key
key_name place datime name head = refl

pub key_long : (place datime : ℕ) (name : List ℕ) (head : TreeHead) → length (written_key (header_key place datime name 1 head)) ≡ head_length (codes "TTree") name
key_long place datime name head =
    let key = header_key place datime name 1 head in
    let class = key_class place datime name head in
    let named = key_name place datime name head in
    eqb-true (length (written_key key)) (head_length key.class key.name) (header_sized place datime name 1 head) ∙ (λ i. head_length (class i) (named i))

-- ---- the class list

list_heads : (s : SessionState) (m : State) (o : Option KeyHead) → (listing_if_none s m o).kept.heads ≡ s.heads
list_heads s m None = refl
list_heads s m (Some h) = refl

list_trees : (s : SessionState) (m : State) (o : Option KeyHead) → (listing_if_none s m o).kept.trees ≡ s.trees
list_trees s m None = refl
list_trees s m (Some h) = refl

one_list : (s : SessionState) (m : State) (o : Option KeyHead) → list_count o + length (listing_if_none s m o).lengths ≡ 1
one_list s m None = refl
one_list s m (Some h) = refl

module _ (s : SessionState) (m : State) (keys : IsOfKeys s m) (kept : IsClosableWith s.segments s.heads s.trees s.info s.name) (name : List ℕ) (branches : List BranchDef)
    (free : refusal_of m (MakeTree name branches) None ≡ None) where
  abbrev listed : SessionState
  listed = (listing_if_none s m s.info).kept

  abbrev head : TreeHead
  head = new_head m.classes branches

  abbrev place : ℕ
  place = place_of listed.segments (length (header_record 0 listed.datime name 1 head))

  abbrev key : KeyHead
  key = header_key place listed.datime name 1 head

  abbrev t : FilledTree
  t = new_filled name m.classes branches

  abbrev then : SessionState
  then = (making s m name branches).kept

  heads_are : then.heads ≡ with_head key s.heads
  heads_are = ap (with_head key) (list_heads s m s.info)

  trees_are : then.trees ≡ with_filled t s.trees
  trees_are = ap (with_filled t) (list_trees s m s.info)

  sized : list_all is_sized then.heads ≡ true
  sized = ap (list_all is_sized) heads_are ∙ all_with is_sized key s.heads (header_sized place listed.datime name 1 head) kept.closable.sized

  size_is : heads_size then.heads ≡ heads_size s.heads + head_length (codes "TTree") name
  size_is = ap heads_size heads_are ∙ size_with key s.heads ∙ ap (λ (n : ℕ). heads_size s.heads + n) (key_long place listed.datime name head)

  bytes_are : (due_of then.trees).bytes ≡ (due_of s.trees).bytes
  bytes_are =
      let one = no_bytes name m.classes branches in
      let more = sum_with (λ (u : FilledTree). (due_of_fill u.name u.fill).bytes) t s.trees in
      ap (λ (ts : List FilledTree). (due_of ts).bytes) trees_are ∙ omega (arith, one, more)

  baskets_are : (due_of then.trees).baskets ≡ (due_of s.trees).baskets
  baskets_are =
      let one = none_open name m.classes [] branches in
      let more = sum_with (λ (u : FilledTree). (due_of_fill u.name u.fill).baskets) t s.trees in
      ap (λ (ts : List FilledTree). (due_of ts).baskets) trees_are ∙ omega (arith, one, more)

  lengths_many : length (making s m name branches).lengths ≡ length (listing_if_none s m s.info).lengths + 1
  lengths_many = length-append (listing_if_none s m s.info).lengths (length (header_record 0 listed.datime name 1 head) ∷ [])

  count_is : 1 + 1 + length then.heads + basket_total then.trees ≡ record_count s.segments + length (making s m name branches).lengths
  count_is =
      let f = λ (u : FilledTree). written_count u.fill.branches in
      omega (
        arith,
        kept.closable.count,
        baskets_counted s.trees,
        one_list s m s.info,
        lengths_many,
        ap length heads_are,
        length_with key s.heads,
        ap basket_total trees_are,
        sum_with f t s.trees,
        none_written m.classes [] branches,
      )

  pub tree_need_is : state_need s.name 1 (making s m name branches).kept.trees (state_behind m (MakeTree name branches)) ≡ need_of_tree s name (length (making s m name branches).lengths)
  tree_need_is =
      let stands = tree_stands_kept s m keys name branches free in
      need_by_keys then.heads (kept_trees then) (state_behind m (MakeTree name branches)) stands.keys stands.trees sized s.name 1 then.trees
      ∙ need_by_due s.name then.heads (1 + 1 + length then.heads + basket_total then.trees) then.trees
      ∙ (λ i. bytes_are i + close_size s.name (size_is i) (count_is i + baskets_are i))
