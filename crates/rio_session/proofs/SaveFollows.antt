-- A save's changes by the records of a file are those by what is kept beside it.
use Rattle.std.proofs.Common.{◌≡◌, ◌∙◌, ℕ, ◌<◌, ◌^◌, List, [], map, true, false, Option, Some, None, refl, sym, ap, subst}
use Rattle.std.specs.{Prelude.{if◌then◌else◌}, FinMap.{get}, List.{find, list_any}, Option.{option_map_or}, Str.{bytes_eq}}
use Rattle.rio_key.specs.declared.head.KeyHead.{KeyHead}
use Rattle.rio_dir.specs.Table.{head_of}
use Rattle.rio_chain.specs.{Adjoining.{AreSegments}, Segments.{segment_of}}
use Rattle.rio_machine.specs.{State.{State, Tree}, declared.command.Command.TheVariants.{Save}}
use Rattle.rio_judge.proofs.KeysOfState.{first_is_found}
use Rattle.rio_state.specs.TreeLengths.{pending_in}
use Rattle.rio_step.specs.{Refusing.{refusal_of}, Step.{state_behind}}
use Rattle.rio_effect.specs.{FileRuns.{Change, all_changed, mark_of_changes}, HeaderRecords.{HeadersHaveRecords}, TreeChanges.{changes_of_save}}
use Rattle.rio_effect.proofs.Held.{chain_segments}
use Rattle.rio_recover.specs.Closable.{begins_at}
use Rattle.rio_session.specs.{Due.{IsClosableWith}, Fills.{FilledTree, is_tree_of, places_of_trees, put_in}, Kept.{all_done, changes_by, kept_by}, Marks.{mark_of_command}, Session.{HoldsState, file_records}, SessionState.{SessionState}, Sound.{IsSoundState}}
use Rattle.rio_session.proofs.{Agreeing.{AgreesWithFile}, FilledTrees.{fill_of_tree}, KeepsGone.{key_begins, key_later}, SaveAgrees.{save_done_at, save_mark_at, save_puts_at, save_segments_at}}
use Rattle.rio_session.proofs.{SaveCan.{is_savable, own_apart, own_sound}, SaveChanges.{IsSavable}, SaveKeys.{there, x}, StandsOn.{StandsOn, holds_on}, TreeFirst.{tree_first}, TreeNamed.{saved_tree}}

module _ (headers : HeadersHaveRecords) (s : SessionState) (m : State) (file : List ℕ) (h : HoldsState s m file) (sound : IsSoundState s) (fresh : s.failed ≡ false) (soon : s.datime < 2 ^ 32) (name : List ℕ) where
  abbrev on : StandsOn s m file
  on = holds_on s m file h

  -- by the records, where the state has the tree
  abbrev told : List ℕ → List Change
  told n = option_map_or (changes_of_save s.datime (file_records s h.links) m n) (get m.trees n) []

  module _ (free : refusal_of m (Save name) None ≡ None) where
    closable : IsClosableWith s.segments s.heads s.trees s.info s.name
    closable = sound.kept fresh

    saved : (y : Tree) × (get m.trees name ≡ Some y)
    saved = saved_tree m name free

    abbrev k : KeyHead
    k = (tree_first s m file on name saved.0 saved.1).k

    named : k.name ≡ name
    named = (tree_first s m file on name saved.0 saved.1).named

    abbrev t : FilledTree
    t = (fill_of_tree s m h.stands name saved.0 saved.1).0

    found : find (is_tree_of k.name) s.trees ≡ Some t
    found = subst (λ (n : List ℕ). find (is_tree_of n) s.trees ≡ Some t) (sym named) (fill_of_tree s m h.stands name saved.0 saved.1).1.found

    first : head_of k.name None s.heads ≡ Some k
    first = subst (λ (n : List ℕ). head_of n None s.heads ≡ Some k) (sym named) (tree_first s m file on name saved.0 saved.1).first

    free_key : refusal_of m (Save k.name) None ≡ None
    free_key = ap (λ (n : List ℕ). refusal_of m (Save n) None) named ∙ free

    savable : IsSavable s m file on k t found first (own_sound s m file on k t found first closable)
    savable = is_savable s m file on k t found first closable headers soon free_key

    shape : AreSegments s.segments
    shape = subst AreSegments (sym h.chain.same) (chain_segments file h.links h.chain.chain)

    begins : list_any (begins_at k.seek) s.segments ≡ true
    begins = key_begins s.segments s.heads s.info (places_of_trees s.trees) s.name k shape closable.closable (first_is_found k.name s.heads k first)

    later : 100 < k.seek
    later = key_later s.segments s.heads s.info (places_of_trees s.trees) s.name k shape closable.closable (first_is_found k.name s.heads k first)

    told_is : told k.name ≡ changes_of_save s.datime (file_records s h.links) m k.name (x s m file on k t found first)
    told_is = ap (λ (o : Option Tree). option_map_or (changes_of_save s.datime (file_records s h.links) m k.name) o []) (there s m file on k t found first)

    done_then : all_changed h.links (told name) ≡ all_done (changes_by s m (Save name)) h.links
    done_then =
        subst (λ (n : List ℕ). all_changed h.links (told n) ≡ all_done (changes_by s m (Save n)) h.links) named
        (ap (all_changed h.links) told_is ∙ save_done_at s m file h closable k t found first (own_sound s m file on k t found first closable) savable (own_apart s m file on k t found first closable) begins later)

    segments_then : map segment_of (all_changed h.links (told name)) ≡ (kept_by s m (Save name)).segments
    segments_then =
        subst (λ (n : List ℕ). map segment_of (all_changed h.links (told n)) ≡ (kept_by s m (Save n)).segments) named
        (ap (λ (cs : List Change). map segment_of (all_changed h.links cs)) told_is
        ∙ save_segments_at s m file h closable k t found first (own_sound s m file on k t found first closable) savable (own_apart s m file on k t found first closable) begins later)

    puts_then : (other : List ℕ) → (if bytes_eq other name then [] else put_in s.trees other) ≡ put_in (kept_by s m (Save name)).trees other
    puts_then other =
        subst (λ (n : List ℕ). (if bytes_eq other n then [] else put_in s.trees other) ≡ put_in (kept_by s m (Save n)).trees other) named
        (save_puts_at s m file h closable k t found first (own_sound s m file on k t found first closable) savable (own_apart s m file on k t found first closable) begins later other)

    mark_then : mark_of_changes (pending_in (state_behind m (Save name))) h.links (told name) ≡ mark_of_command s m (Save name)
    mark_then =
        subst (λ (n : List ℕ). mark_of_changes (pending_in (state_behind m (Save n))) h.links (told n) ≡ mark_of_command s m (Save n)) named
        (ap (mark_of_changes (pending_in (state_behind m (Save k.name))) h.links) told_is
        ∙ save_mark_at s m file h closable k t found first (own_sound s m file on k t found first closable) savable (own_apart s m file on k t found first closable) begins later)

  pub save_agrees : AgreesWithFile s m (Save name) h.links
  save_agrees = record {
    changes = option_map_or (changes_of_save s.datime (file_records s h.links) m name) (get m.trees name) [];
    changes_are = refl;
    done = λ free. done_then free;
    segments = λ free. segments_then free;
    puts = λ free other. puts_then free other;
    mark = λ free. mark_then free;
  }
