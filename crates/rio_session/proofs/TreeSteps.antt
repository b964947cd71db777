-- A tree command is the step of its command.
use Rattle.std.proofs.Common.{◌≡◌, ◌∙◌, ℕ, ◌+◌, ◌*◌, List, length, Bool, true, false, Option, Some, None, refl, sym, ap, subst}
use Rattle.std.specs.Prelude.{if◌then◌else◌, is_some}
use Rattle.rio_leaf.specs.declared.branch.BranchDef.{BranchDef}
use Rattle.rio_format.specs.declared.class.ClassDef.{ClassDef}
use Rattle.rio_key.specs.declared.head.KeyHead.{KeyHead}
use Rattle.rio_dir.specs.Table.{with_head}
use Rattle.rio_chain.specs.Placing.{place_of}
use Rattle.rio_machine.specs.{State.{State, empty_state, names_item}, declared.command.Command.TheVariants.{Tree as MakeTree}, declared.refusal.Refusal.{Refusal}}
use Rattle.rio_state.specs.{Closing.{is_full}, KeyedRecords.{is_tree_key}}
use Rattle.rio_tree.specs.{HeaderLength.{header_size}, declared.head.TreeHead.{TreeHead}}
use Rattle.rio_step.proofs.ApartLaws.{no_name_in_use}
use Rattle.rio_step.specs.{Costs.{accepted_cost, cost_of, info_size}, Refusing.{refusal_of}, ReplyText.{text_of}, Step.{state_behind, tree_made}}
use Rattle.rio_effect.specs.TreeRecords.{header_key, header_record, new_head}
use Rattle.rio_session.specs.{Effects.{IsChangeOf}, Fillings.{Done, both_done, heading, listing_if_none, making}, Fills.{FilledTree, with_filled}}
use Rattle.rio_session.specs.{Items.{IsOfKeys}, Kept.{kept_by}, Marks.{command_lengths, state_need}, SessionState.{SessionState}, TreeWorks.{doing}}
use Rattle.rio_session.proofs.{FullCommands.{free_still}, NewFills.{new_filled, new_kept}, TreeStands.{tree_stands}}

-- ---- the key of a header

key_named : (place datime : ℕ) (name : List ℕ) (head : TreeHead) → (header_key place datime name 1 head).name ≡ name
unfolding header_key
key_named place datime name head = refl

key_first : (place datime : ℕ) (name : List ℕ) (head : TreeHead) → (header_key place datime name 1 head).cycle ≡ 1
unfolding header_key
key_first place datime name head = refl

key_of_tree : (place datime : ℕ) (name : List ℕ) (head : TreeHead) → is_tree_key (header_key place datime name 1 head) ≡ true
unfolding header_key
key_of_tree place datime name head = refl

-- ---- by what is kept

-- the class list leaves classes, keys and trees
record Leaves (s next : SessionState) : Type 0 where
  classes : next.classes ≡ s.classes
  heads : next.heads ≡ s.heads
  trees : next.trees ≡ s.trees

listing_leaves : (s : SessionState) (m : State) (o : Option KeyHead) → Leaves s (listing_if_none s m o).kept
listing_leaves s m None = record { classes = refl; heads = refl; trees = refl }
listing_leaves s m (Some h) = record { classes = refl; heads = refl; trees = refl }

-- of a state it needs the classes
listing_same : (s : SessionState) (m n : State) → m.classes ≡ n.classes → (o : Option KeyHead) → listing_if_none s m o ≡ listing_if_none s n o
listing_same s m n same None = ap (λ (cs : List ClassDef). listing_if_none s (record empty_state { classes = cs }) None) same
listing_same s m n same (Some h) = refl

pub making_same : (s : SessionState) (m n : State) (name : List ℕ) (branches : List BranchDef) → m.classes ≡ n.classes → making s m name branches ≡ making s n name branches
making_same s m n name branches same =
    let first = listing_same s m n same s.info in
    λ i. both_done (first i) (heading (first i).kept name (new_head (same i) branches))

module _ (s : SessionState) (m : State) (keys : IsOfKeys s m) (name : List ℕ) (branches : List BranchDef) (free : refusal_of m (MakeTree name branches) None ≡ None) where
  unnamed : names_item m name ≡ false
  unnamed = no_name_in_use m (MakeTree name branches) None free

  abbrev listed : SessionState
  listed = (listing_if_none s m s.info).kept

  left : Leaves s listed
  left = listing_leaves s m s.info

  pub tree_stands_kept : IsOfKeys (kept_by s m (MakeTree name branches)) (state_behind m (MakeTree name branches))
  tree_stands_kept =
      let head = new_head m.classes branches in
      let place = place_of listed.segments (length (header_record 0 listed.datime name 1 head)) in
      let key = header_key place listed.datime name 1 head in
      tree_stands s m keys name branches unnamed (new_filled name m.classes branches) (new_kept name m.classes branches) key (key_named place listed.datime name head) (key_first place listed.datime name head)
      (key_of_tree place listed.datime name head) (making s m name branches).kept left.classes (ap (with_head key) left.heads) (ap (with_filled (new_filled name m.classes branches)) left.trees)

  -- what it costs
  pub tree_cost_is : 600 + info_size m.classes + 2 * header_size name branches ≡ cost_of m (MakeTree name branches)
  unfolding cost_of
  tree_cost_is = sym (ap (λ (o : Option Refusal). if is_some o then 0 else accepted_cost m (MakeTree name branches)) free)

  pub tree_lengths_are : command_lengths s m (MakeTree name branches) ≡ (making s m name branches).lengths
  unfolding command_lengths
  tree_lengths_are = refl

  pub tree_is_change : (text : List ℕ) (cost need : ℕ) → state_need s.name 1 (making s m name branches).kept.trees (state_behind m (MakeTree name branches)) ≡ need
      → is_full s.segments (making s m name branches).lengths need ≡ false → text ≡ text_of (tree_made name 1) → cost ≡ 600 + info_size m.classes + 2 * header_size name branches
      → IsChangeOf (doing (making s m name branches) text cost) s m (MakeTree name branches)
  tree_is_change text cost need needed room text_is costs = record {
    free = free_still s m (MakeTree name branches) (making s m name branches).lengths need tree_lengths_are needed free room;
    changes = refl;
    kept = refl;
    text = text_is;
    cost = costs ∙ tree_cost_is;
    stands = tree_stands_kept;
  }
