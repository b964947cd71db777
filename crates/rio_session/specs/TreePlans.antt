-- What is planned for a new tree.
use Rattle.std.specs.{Prelude.{◌≡◌, ◌≤◌, ℕ, ◌+◌, List, [], ◌∷◌, codes, length, false, slice_get, Option, Some, None}, Option.{option_or}}
use Rattle.rio_leaf.specs.declared.branch.BranchDef.{BranchDef}
use Rattle.rio_key.specs.declared.head.KeyHead.{KeyHead}
use Rattle.rio_dir.specs.Table.{heads_size}
use Rattle.rio_chain.specs.Placing.{file_end, place_of, record_count}
use Rattle.rio_machine.specs.{Limits.{head_length}, State.{empty_state}}
use Rattle.rio_tree.specs.declared.head.TreeHead.{TreeHead}
use Rattle.rio_fill.specs.Fill.{fill_of}
use Rattle.rio_state.specs.{Closing.{end_limit, is_full, padded_length}, Sizes.{close_size}}
use Rattle.rio_effect.specs.{ClassRecord.{list_key_size}, TreeRecords.{header_key, header_record, new_head}}
use Rattle.rio_session.specs.{Due.{due_of}, Fillings.{Done, listing_if_none, making}, Fills.{FilledTree, kept_tree_of}, Lists.{CanBeListedAt}}
use Rattle.rio_session.specs.{SessionState.{SessionState}, Steps.{CanRun, all_stepped, changes_of}, declared.tree.ListMade.{ListMade}, declared.tree.TreeMade.{TreeMade}}

-- what is done for a tree by the session's classes
abbrev pub making_now : SessionState → List ℕ → List BranchDef → Done
making_now s name branches = making s (record empty_state { classes = s.classes }) name branches

-- and first for the class list
abbrev pub listing_now : SessionState → Done
listing_now s = listing_if_none s (record empty_state { classes = s.classes }) s.info

-- the header of the tree, and where the rule places it behind the class list
abbrev pub head_now : SessionState → List BranchDef → TreeHead
head_now s branches = new_head s.classes branches

abbrev pub header_place : SessionState → List ℕ → List BranchDef → ℕ
header_place s name branches = place_of (listing_now s).kept.segments (length (header_record 0 s.datime name 1 (head_now s branches)))

-- ---- lengths

-- how long the class list is that has to be put, if one has to be
abbrev pub first_length : Option KeyHead → ℕ → Option ℕ
first_length None n = Some n
first_length (Some h) n = None

-- how long the records are: the class list, where one is put, and a header of so many bytes
abbrev pub lengths_with : Option ℕ → List ℕ → ℕ → List ℕ
lengths_with None name header = padded_length (head_length (codes "TTree") name + header) ∷ []
lengths_with (Some list) name header = padded_length (list_key_size + list) ∷ padded_length (head_length (codes "TTree") name + header) ∷ []

abbrev pub records_more : Option ℕ → ℕ
records_more None = 1
records_more (Some list) = 2

-- what a close needs with the tree
abbrev pub need_of_tree : SessionState → List ℕ → ℕ → ℕ
need_of_tree s name more =
    (due_of s.trees).bytes + close_size s.name (heads_size s.heads + head_length (codes "TTree") name) (record_count s.segments + more + (due_of s.trees).baskets)

-- ---- records

-- where there is no class list, one can be put at the first of these places
abbrev pub CanListFirst : SessionState → List ℕ → Type 0
CanListFirst s places = s.info ≡ None → (place : ℕ) × (slice_get places 0 ≡ Some place) × CanBeListedAt s place

-- The steps put the class list, where there is none, at the place of the rule.
pub record IsListMade (s : SessionState) (made : ListMade) : Type 0 where
  pub run : CanRun made.steps.items s.segments
  pub changes : changes_of made.steps.items ≡ (listing_now s).changes
  pub segments_are : all_stepped made.steps.items s.segments ≡ (listing_now s).kept.segments
  pub list : option_or made.list s.info ≡ (listing_now s).kept.info
  pub many : length made.steps.items ≡ length (listing_now s).lengths
  pub count : made.count ≡ length (listing_now s).lengths

-- The steps put the records at the places of the rule; the key and the tree are those that are kept then.
pub record IsTreeMade (s : SessionState) (name : List ℕ) (branches : List BranchDef) (made : TreeMade) : Type 0 where
  pub run : CanRun made.steps.items s.segments
  pub few : length made.steps.items ≤ 2
  pub changes : changes_of made.steps.items ≡ (making_now s name branches).changes
  pub segments_are : all_stepped made.steps.items s.segments ≡ (making_now s name branches).kept.segments
  pub list : option_or made.list s.info ≡ (listing_now s).kept.info
  pub head : made.head ≡ header_key (header_place s name branches) s.datime name 1 (head_now s branches)
  pub tree : made.tree ≡ record { name = name; fill = fill_of (head_now s branches) }
  pub kept : made.kept ≡ kept_tree_of made.tree
  pub room : is_full s.segments (making_now s name branches).lengths (need_of_tree s name (length (making_now s name branches).lengths)) ≡ false
  pub fits : file_end (all_stepped made.steps.items s.segments) + need_of_tree s name (length (making_now s name branches).lengths) ≤ end_limit
