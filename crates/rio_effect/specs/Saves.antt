-- What a save makes of a file: the open baskets are put, then the next header, and the header before is released.
use Rattle.std.specs.{Prelude.{◌≡◌, ◌<◌, ◌≤◌, ℕ, ◌+◌, List, [], ◌∷◌, ◌++◌, length, take, None, Some}, FinMap.{get}}
use Rattle.rio_key.specs.declared.head.KeyHead.{KeyHead}
use Rattle.rio_chain.specs.Segments.{IsChain, Link}
use Rattle.rio_dir.specs.Table.{with_head, without_head}
use Rattle.rio_machine.specs.{State.{State, Tree}, declared.command.Command.TheVariants.{Save}}
use Rattle.rio_tree.specs.declared.head.TreeHead.{TreeHead}
use Rattle.rio_state.specs.{Closing.{held_with, kept_with}, Contents.{file_classes}, DirectoryKeys.{AreKeysOf}, KeyedRecords.{info_key, keyed_records}, Reads.{AreRecordsOf}, TreeLengths.{pending_in}}
use Rattle.rio_step.specs.{Costs.{cost_of}, Refusing.{refusal_of}, Runs.{saved_of}, Step.{state_behind}, Storable.{IsFillable}}
use Rattle.rio_effect.specs.{AllItems.{AreAllItems}, BasketRuns.{CanAllBePut}, Changes.{Change, added_place, all_changed, released}, Garbage.{ArePassed}}
use Rattle.rio_effect.specs.{HeaderRecords.{IsHeaderRecord}, TreeChanges.{FileRecords, basket_changes, changes_of_save, head_of_save, header_added, open_of_tree}, TreeCommands.{KeepsTree}}
use Rattle.rio_effect.specs.TreeRecords.{header_data, header_key, header_words}

module _ (datime : ℕ) (now : FileRecords) (m : State) (name : List ℕ) (t : Tree) where
  -- the baskets, and the links with them
  abbrev pub save_baskets : List Change
  save_baskets = basket_changes datime name t.branches (open_of_tree m t)

  abbrev pub links_put : List Link
  links_put = all_changed now.links save_baskets

  module _ (k : KeepsTree now m name t) where
    -- the next header, where it is put, and its key
    abbrev pub next_head : TreeHead
    next_head = head_of_save datime now m name t k.head

    abbrev pub next_cycle_of : ℕ
    next_cycle_of = k.r.head.cycle + 1

    abbrev pub next_place : ℕ
    next_place = let words = header_words 0 datime name next_cycle_of in added_place links_put words (header_data words name next_head)

    abbrev pub next_key : KeyHead
    next_key = header_key next_place datime name next_cycle_of next_head

-- The records of the file stand for the state without its pending rows, and no header is outdated. The state has this tree, whose header and
-- baskets are kept, and whose save nothing refuses. Each open basket can be put, and the next header can be written.
pub record CanBeSaved (datime : ℕ) (file : List ℕ) (now : FileRecords) (m : State) (name : List ℕ) (t : Tree) : Type 0 where
  pub chain : IsChain now.links file
  pub records : AreRecordsOf (keyed_records now.links) (saved_of m)
  pub items : AreAllItems now.links
  pub fillable : IsFillable m
  pub tree : get m.trees name ≡ Some t
  pub kept : KeepsTree now m name t
  pub taken : refusal_of m (Save name) None ≡ None
  pub put : CanAllBePut datime name now.links t.branches (open_of_tree m t)
  pub written : IsHeaderRecord (file_classes (info_key (keyed_records now.links))) (next_place datime now m name t kept) datime name (next_cycle_of datime now m name t kept) (next_head datime now m name t kept)

-- ---- the changes

abbrev pub SaveChanges : Type 0
SaveChanges = (datime : ℕ) (file : List ℕ) (now : FileRecords) (m : State) (name : List ℕ) (t : Tree) (can : CanBeSaved datime file now m name t)
    → changes_of_save datime now m name t
    ≡ save_baskets datime now m name t
    ++ header_added datime name (next_cycle_of datime now m name t can.kept) (next_head datime now m name t can.kept) ∷ released can.kept.r.head.seek ∷ []

-- the links after the first k of them, where some file has those before each
abbrev pub links_saved : ℕ → FileRecords → State → List ℕ → Tree → ℕ → List Link
links_saved datime now m name t k = all_changed now.links (take k (changes_of_save datime now m name t))

abbrev pub ArePassedBy : ℕ → FileRecords → State → List ℕ → Tree → ℕ → Type 0
ArePassedBy datime now m name t k = ArePassed now.links (changes_of_save datime now m name t) k

-- Until the header is put the records stand for the state before, and from then on for that after the save.
pub record SaveEffect (datime : ℕ) (now : FileRecords) (m : State) (name : List ℕ) (t : Tree) : Type 0 where
  pub early : (k : ℕ) → k ≤ length (save_baskets datime now m name t) → ArePassedBy datime now m name t k → AreRecordsOf (keyed_records (links_saved datime now m name t k)) (saved_of m)
  pub late : (k : ℕ) → length (save_baskets datime now m name t) < k → k ≤ length (changes_of_save datime now m name t) → ArePassedBy datime now m name t k
      → AreRecordsOf (keyed_records (links_saved datime now m name t k)) (saved_of (state_behind m (Save name)))

abbrev pub SaveTakesEffect : Type 0
SaveTakesEffect = (datime : ℕ) (file : List ℕ) (now : FileRecords) (m : State) (name : List ℕ) (t : Tree) → CanBeSaved datime file now m name t → SaveEffect datime now m name t

-- ---- what is kept then

-- Among the keys that of the next header stands in place of that of the one before. The open baskets are kept more, and the file holds no
-- more than the save costs.
pub record SaveEnd (datime : ℕ) (now : FileRecords) (m : State) (name : List ℕ) (t : Tree) (k : KeepsTree now m name t) : Type 0 where
  pub keys : (heads : List KeyHead) → AreKeysOf (keyed_records now.links) heads
      → AreKeysOf (keyed_records (all_changed now.links (changes_of_save datime now m name t))) (with_head (next_key datime now m name t k) (without_head k.r.head.name k.r.head.cycle heads))
  pub info : info_key (keyed_records (all_changed now.links (changes_of_save datime now m name t))) ≡ info_key (keyed_records now.links)
  pub items : AreAllItems (all_changed now.links (changes_of_save datime now m name t))
  pub name_is : (kept_with (pending_in (state_behind m (Save name))) (all_changed now.links (changes_of_save datime now m name t))).name ≡ (kept_with (pending_in m) now.links).name
  pub count : (kept_with (pending_in (state_behind m (Save name))) (all_changed now.links (changes_of_save datime now m name t))).count
      ≡ (kept_with (pending_in m) now.links).count + length (save_baskets datime now m name t)
  pub held : held_with (pending_in (state_behind m (Save name))) (all_changed now.links (changes_of_save datime now m name t)) ≤ held_with (pending_in m) now.links + cost_of m (Save name)

abbrev pub SaveEnds : Type 0
SaveEnds = (datime : ℕ) (file : List ℕ) (now : FileRecords) (m : State) (name : List ℕ) (t : Tree) (can : CanBeSaved datime file now m name t)
    → ArePassedBy datime now m name t (length (changes_of_save datime now m name t)) → SaveEnd datime now m name t can.kept
