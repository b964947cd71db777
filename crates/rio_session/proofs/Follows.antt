-- What no command changes of what a session keeps: the file's name, how long its header says that the first record's key and texts are, the time, and
-- the file's length at its opening; and how the costs are counted.
use Rattle.std.proofs.Common.{◌≡◌, List, Option, Some, None, ℕ, ◌+◌, ◌-◌, ◌^◌, min, Bool, true, false, cond, refl, ap, ◌∙◌}
use Rattle.std.specs.{List.{find}, Option.{option_map_or}}
use Rattle.rio_key.specs.declared.head.KeyHead.{KeyHead}
use Rattle.rio_leaf.specs.declared.branch.BranchDef.{BranchDef}
use Rattle.rio_dir.specs.Table.{head_of}
use Rattle.rio_fill.specs.Fill.{defs_of}
use Rattle.rio_machine.specs.{Rows.{entries_of}, State.{Row, State}, declared.command.Command.{Command, TheVariants.{Bad, Class, Put, Batch, Delete, Tree, Fill, Save, Get, Scan, Ls}}}
use Rattle.rio_step.specs.{Costs.{cost_of}, Refusing.{fill_row}}
use Rattle.rio_effect.specs.TreeRecords.{new_head}
use Rattle.rio_session.specs.{Fillings.{both_done, filling_with, heading, listing_if_none, nothing_done, saving, saving_tree, saving_with}, Fills.{FilledTree, is_tree_of}}
use Rattle.rio_session.specs.{Kept.{kept_after, kept_by}, Marks.{is_refused}, Session.{FollowsCommand}, SessionState.{SessionState}}

pub record IsSameFile (old new : SessionState) : Type 0 where
  pub name : new.name ≡ old.name
  pub nbytes_name : new.nbytes_name ≡ old.nbytes_name
  pub datime : new.datime ≡ old.datime
  pub opened : new.opened ≡ old.opened
  pub costs : new.costs ≡ old.costs
  pub failed : new.failed ≡ old.failed

abbrev same_file : (s : SessionState) → IsSameFile s s
same_file s = record { name = refl; nbytes_name = refl; datime = refl; opened = refl; costs = refl; failed = refl }

made_file : (s : SessionState) (m : State) (name : List ℕ) (branches : List BranchDef) (o : Option KeyHead)
    → IsSameFile s (both_done (listing_if_none s m o) (heading (listing_if_none s m o).kept name (new_head m.classes branches))).kept
made_file s m name branches None = record { name = refl; nbytes_name = refl; datime = refl; opened = refl; costs = refl; failed = refl }
made_file s m name branches (Some h) = record { name = refl; nbytes_name = refl; datime = refl; opened = refl; costs = refl; failed = refl }

filled_file : (s : SessionState) (m : State) (name : List ℕ) (row : Row) (o : Option FilledTree)
    → IsSameFile s (option_map_or (λ t. filling_with s name (entries_of m.classes (defs_of t.fill.branches) (fill_row m row)) t.fill) o (nothing_done s)).kept
filled_file s m name row None = same_file s
filled_file s m name row (Some t) = record { name = refl; nbytes_name = refl; datime = refl; opened = refl; costs = refl; failed = refl }

headed_file : (s : SessionState) (name : List ℕ) (t : FilledTree) (o : Option KeyHead) → IsSameFile s (option_map_or (saving_with s name t.fill) o (nothing_done s)).kept
headed_file s name t None = same_file s
headed_file s name t (Some h) = record { name = refl; nbytes_name = refl; datime = refl; opened = refl; costs = refl; failed = refl }

saved_file : (s : SessionState) (name : List ℕ) (o : Option FilledTree) → IsSameFile s (option_map_or (saving_tree s name) o (nothing_done s)).kept
saved_file s name None = same_file s
saved_file s name (Some t) = headed_file s name t (head_of name None s.heads)

pub saving_file : (s : SessionState) (name : List ℕ) → IsSameFile s (saving s name).kept
saving_file s name = saved_file s name (find (is_tree_of name) s.trees)

pub kept_by_file : (s : SessionState) (m : State) (c : Command) → IsSameFile s (kept_by s m c)
kept_by_file s m (Bad line place) = same_file s
kept_by_file s m (Class class) = record { name = refl; nbytes_name = refl; datime = refl; opened = refl; costs = refl; failed = refl }
kept_by_file s m (Put name v) = record { name = refl; nbytes_name = refl; datime = refl; opened = refl; costs = refl; failed = refl }
kept_by_file s m (Batch puts) = record { name = refl; nbytes_name = refl; datime = refl; opened = refl; costs = refl; failed = refl }
kept_by_file s m (Delete name cycle) = record { name = refl; nbytes_name = refl; datime = refl; opened = refl; costs = refl; failed = refl }
kept_by_file s m (Tree name branches) = made_file s m name branches s.info
kept_by_file s m (Fill name row) = filled_file s m name row (find (is_tree_of name) s.trees)
kept_by_file s m (Save name) = saving_file s name
kept_by_file s m (Get name cycle version) = same_file s
kept_by_file s m (Scan name class) = same_file s
kept_by_file s m Ls = same_file s

by_refused : (s : SessionState) (m : State) (c : Command) (b : Bool) → IsSameFile s (cond b s (kept_by s m c))
by_refused s m c true = same_file s
by_refused s m c false = kept_by_file s m c

pub kept_after_file : (s : SessionState) (m : State) (c : Command) → IsSameFile s (kept_after s m c)
unfolding kept_after
kept_after_file s m c = by_refused s m c (is_refused s m c)

module _ (old new : SessionState) (m : State) (c : Command) (f : FollowsCommand old new m c) where
  pub follows_name : new.name ≡ old.name
  follows_name = ap (λ (s : SessionState). s.name) f ∙ (kept_after_file old m c).name

  pub follows_datime : new.datime ≡ old.datime
  follows_datime = ap (λ (s : SessionState). s.datime) f ∙ (kept_after_file old m c).datime

  pub follows_opened : new.opened ≡ old.opened
  follows_opened = ap (λ (s : SessionState). s.opened) f ∙ (kept_after_file old m c).opened

  pub follows_costs : new.costs ≡ min (old.costs + cost_of m c) (2 ^ 64 - 1)
  follows_costs = ap (λ (s : SessionState). s.costs) f ∙ ap (λ (k : ℕ). min (k + cost_of m c) (2 ^ 64 - 1)) (kept_after_file old m c).costs
