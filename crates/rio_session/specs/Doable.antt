-- What a command is to do, as a session does it.
use Rattle.std.specs.{Prelude.{◌≡◌, ◌⊎◌, ◌<◌, ℕ, List, length, Some, None, IsSome, true, false}, List.{find}}
use Rattle.rio_machine.specs.Limits.{cycle_limit, item_limit}
use Rattle.rio_dir.specs.Table.{head_of}
use Rattle.rio_machine.specs.declared.command.Command.{Command}
use Rattle.rio_num.specs.Word.{is_item_text}
use Rattle.rio_state.specs.Trees.{can_be_branches}
use Rattle.rio_step.specs.{Refusing.{is_list_name}, Statable.{IsStatable}}
use Rattle.rio_judge.specs.{Trees.{AnyWorkCanBeDone, IsJudgementOfItems}, declared.work.JudgedWithTrees.TheVariants.{Accepted}}
use Rattle.rio_judge.specs.declared.work.NewTree.{NewTree}
use Rattle.rio_judge.specs.declared.work.{AnyWork.{AnyWork, TheVariants.{Item, Tree}}, Work.{Work, TheVariants.{Class, Put, Batch, Delete, Get, Ls}}}
use Rattle.rio_judge.specs.declared.work.TreeWork.TheVariants.{Make, Fill, Save, Delete as DeleteTree, Scan}
use Rattle.rio_key.specs.declared.head.KeyHead.{KeyHead}
use Rattle.rio_session.specs.{Lists.{IsDeclarable}, Puts.{CanStoreAll, IsStored}, Session.{SessionState}, Fills.{is_tree_of}, SessionState.{kept_trees}}

-- It can be done by what the session keeps: no rule and no limit is broken, and no key has the name and cycle yet; or the key is the session's.
abbrev pub CanBeDone : SessionState → Work → Type 0
CanBeDone s (Put o) = IsStored s.classes o × (head_of o.name (Some o.cycle) s.heads ≡ None)
CanBeDone s (Batch os) = CanStoreAll s os
CanBeDone s (Class d) = IsDeclarable s.classes d
CanBeDone s (Delete h) = head_of h.name (Some h.cycle) s.heads ≡ Some h
CanBeDone s (Get h version) = head_of h.name (Some h.cycle) s.heads ≡ Some h
CanBeDone s Ls = Unit {0}

-- a tree of the name is kept, and its key has this cycle
abbrev pub HasKey : SessionState → List ℕ → ℕ → Type 0
HasKey s name cycle = IsSome (find (is_tree_of name) s.trees) × ((h : KeyHead) × (head_of name None s.heads ≡ Some h) × (h.cycle ≡ cycle))

-- The tree has a name that no key has, and branches that a header can say by the declared classes; there is one key more at most.
pub record IsNewTree (s : SessionState) (t : NewTree) : Type 0 where
  pub new : head_of t.name None s.heads ≡ None
  pub room : length s.heads < item_limit
  pub item : is_item_text t.name ≡ true
  pub free : is_list_name t.name ≡ false
  pub branches : can_be_branches s.classes t.branches ≡ true

-- the same of work with a tree: the tree is made with a name that no key has, or its key is the session's
abbrev pub AnyCanBeDone : SessionState → AnyWork → Type 0
AnyCanBeDone s (Item work) = CanBeDone s work
AnyCanBeDone s (Tree (DeleteTree h)) = head_of h.name (Some h.cycle) s.heads ≡ Some h
AnyCanBeDone s (Tree (Make t)) = IsNewTree s t
AnyCanBeDone s (Tree (Fill r)) = HasKey s r.name r.cycle
AnyCanBeDone s (Tree (Save h)) = (head_of h.name None s.heads ≡ Some h) × IsSome (find (is_tree_of h.name) s.trees) × (h.cycle < cycle_limit)
AnyCanBeDone s (Tree (Scan h class)) = (head_of h.name None s.heads ≡ Some h) × IsSome (find (is_tree_of h.name) s.trees)

-- the work is what the command is to do, by the classes, keys and trees that the session keeps
pub record IsToDo (s : SessionState) (c : Command) (work : AnyWork) : Type 0 where
  pub statable : IsStatable c
  pub can : AnyWorkCanBeDone s.classes s.heads (kept_trees s) c work
  pub judged : IsJudgementOfItems s.classes s.heads (kept_trees s) c (Accepted work)

-- the delete of the object or of the tree of this key
abbrev pub IsToDelete : SessionState → Command → KeyHead → Type 0
IsToDelete s c h = IsToDo s c (Item (Delete h)) ⊎ IsToDo s c (Tree (DeleteTree h))

-- work that doesn't read the file again
abbrev pub ReadsNothing : AnyWork → Type 0
ReadsNothing (Item (Get h version)) = ⊥
ReadsNothing (Tree (Scan h class)) = ⊥
ReadsNothing other = Unit {0}
