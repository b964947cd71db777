-- Each save of a close can be done, and leaves what the next one asks for.
use Rattle.std.proofs.Common.{◌≡◌, ◌∙◌, ◌==◌, inl, inr, ℕ, ◌<◌, ◌^◌, List, [], ◌∷◌, length, map, Bool, true, false, cond, not, Some, None, refl, sym, ap, subst}
use Rattle.std.proofs.lemmas.{Option.{same_Some}, Slice.Eq.{bytes_eq-Decides}}
use Rattle.std.specs.{Prelude.{if◌then◌else◌, is_some}, Cmp.{eq_by_cmp_equiv}, FinMap.{get, get-insert, insert}, List.{filter, find}, Ordering.{eq_by_cmp}, Str.{bytes_eq}}
use Rattle.rio_num.specs.Word.{name_order}
use Rattle.rio_key.specs.declared.head.KeyHead.{KeyHead}
use Rattle.rio_dir.specs.Table.{head_of}
use Rattle.rio_chain.specs.{Adjoining.{AreSegments}, Segments.{Link, segment_of}}
use Rattle.rio_machine.proofs.OrderLaws.{names_total}
use Rattle.rio_machine.specs.{Limits.{cycle_limit}, State.{State, Tree, names_object, names_tree}, declared.command.Command.TheVariants.{Save}}
use Rattle.rio_tree_table.specs.declared.table.KeptTree.{KeptTree}
use Rattle.rio_fill.specs.Fill.{TreeFill, all_saved, entry_count}
use Rattle.rio_judge.proofs.KeysOfState.{first_is_found}
use Rattle.rio_state.proofs.Members.{In}
use Rattle.rio_step.specs.{Refusing.{refusal_of}, Step.{state_behind, tree_saved}}
use Rattle.rio_effect.specs.HeaderRecords.{HeadersHaveRecords}
use Rattle.rio_effect.proofs.{Held.{chain_segments}, SaveEffect.{behind_is}}
use Rattle.rio_session.specs.{Due.{IsClosableWith}, Fillings.{Done, branches_become, has_pending_rows, open_list, pending_names, put_open, saving, saving_with}}
use Rattle.rio_session.specs.{Fills.{AreAfterName, AreNamesOrdered, FilledTree, is_tree_of, places_of_trees, with_change}, Kept.{all_done, kept_by}, Session.{file_records}, SessionState.{SessionState}}
use Rattle.rio_session.proofs.StandsOn.{StandsOn}
use Rattle.rio_session.proofs.{ClosingRoom.{kept_closable}, ClosingStages.{IsSaveDone}, FillLists.{ordered_of, own_found}, FilledChanges.{none_changed}, FilledTrees.{tree_of_fill}, KeepsGone.{key_begins, key_later}, SaveCan.{is_savable, own_apart, own_sound}, SaveChanges.{can, save_all, save_segments, saving_is}}
use Rattle.rio_session.proofs.{SaveEffects.{save_takes}, SaveFree.{save_free}, SaveKeys.{there, x}, SaveRows.{other_tree}, SaveStands.{named}, SaveSteps.{save_stands_by}, TreeFirst.{tree_first}}

-- ---- the trees that are due

-- the first of them
pub record IsFirstDue (name : List ℕ) (trees : List FilledTree) : Type 0 where
  pub t : FilledTree
  pub among : In t trees
  pub named : t.name ≡ name
  pub due : (t.fill.pending == 0) ≡ false

not_idle : (b : Bool) → not b ≡ true → b ≡ false
not_idle true e = absurd cc
not_idle false e = refl

pub first_due : (name : List ℕ) (names : List (List ℕ)) (trees : List FilledTree) → map (λ t. t.name) (filter has_pending_rows trees) ≡ name ∷ names → IsFirstDue name trees
first_due name names [] e = absurd cc
first_due name names (u ∷ us) e = by (has_pending_rows u) refl e (first_due name names us)
  where
    by : (b : Bool) → has_pending_rows u ≡ b → map (λ (t : FilledTree). t.name) (cond b (u ∷ filter has_pending_rows us) (filter has_pending_rows us)) ≡ name ∷ names
        → (map (λ t. t.name) (filter has_pending_rows us) ≡ name ∷ names → IsFirstDue name us) → IsFirstDue name (u ∷ us)
    by true is e later = let own : u.name ≡ name = cc in record { t = u; among = inl refl; named = own; due = not_idle (u.fill.pending == 0) is }
    by false is e later = let rest = later e in record { t = rest.t; among = inr rest.among; named = rest.named; due = rest.due }

-- behind its save the others are due
module _ (name : List ℕ) (change : TreeFill → TreeFill) (idle : (f : TreeFill) → (change f).pending ≡ 0) where
  changed_idle : (u : FilledTree) → has_pending_rows (record u { fill = change u.fill }) ≡ false
  changed_idle u = ap (λ (n : ℕ). not (n == 0)) (idle u.fill)

  still_due : (u : FilledTree) → has_pending_rows u ≡ false → (b : Bool) → has_pending_rows (if b then record u { fill = change u.fill } else u) ≡ false
  still_due u none true = changed_idle u
  still_due u none false = none

  others_due : (names : List (List ℕ)) (trees : List FilledTree) → AreNamesOrdered trees → map (λ t. t.name) (filter has_pending_rows trees) ≡ name ∷ names → map (λ t. t.name) (filter has_pending_rows (with_change name change trees)) ≡ names
  others_due names [] ordered e = absurd cc
  others_due names (u ∷ us) ordered e = by (has_pending_rows u) refl e (others_due names us ordered.1)
    where
      by : (b : Bool) → has_pending_rows u ≡ b → map (λ (t : FilledTree). t.name) (cond b (u ∷ filter has_pending_rows us) (filter has_pending_rows us)) ≡ name ∷ names
          → (map (λ t. t.name) (filter has_pending_rows us) ≡ name ∷ names → map (λ t. t.name) (filter has_pending_rows (with_change name change us)) ≡ names)
          → map (λ (t : FilledTree). t.name) (filter has_pending_rows (with_change name change (u ∷ us))) ≡ names
      by true is e later =
          let own : u.name ≡ name = cc in
          let rest : map (λ (t : FilledTree). t.name) (filter has_pending_rows us) ≡ names = cc in
          let test : is_tree_of name u ≡ true = (bytes_eq-Decides u.name name).1 own in
          let none : has_pending_rows (if is_tree_of name u then record u { fill = change u.fill } else u) ≡ false = ap (λ (b : Bool). has_pending_rows (if b then record u { fill = change u.fill } else u)) test ∙ changed_idle u in
          let still : with_change name change us ≡ us = none_changed name change us (subst (λ (n : List ℕ). AreAfterName n us) own ordered.0) in
          ap (λ (b : Bool). map (λ (t : FilledTree). t.name) (cond b ((if is_tree_of name u then record u { fill = change u.fill } else u) ∷ filter has_pending_rows (with_change name change us)) (filter has_pending_rows (with_change name change us)))) none
          ∙ ap (λ (l : List FilledTree). map (λ (t : FilledTree). t.name) (filter has_pending_rows l)) still
          ∙ rest
      by false is e later =
          let none = still_due u is (is_tree_of name u) in
          ap (λ (b : Bool). map (λ (t : FilledTree). t.name) (cond b ((if is_tree_of name u then record u { fill = change u.fill } else u) ∷ filter has_pending_rows (with_change name change us)) (filter has_pending_rows (with_change name change us)))) none
          ∙ later e

-- ---- what a close asks for

-- These trees are due, what is kept can be closed, and no pending tree is at its last cycle.
pub record CanBeClosing (s : SessionState) (m : State) (names : List (List ℕ)) : Type 0 where
  pub due : pending_names s ≡ names
  pub closable : IsClosableWith s.segments s.heads s.trees s.info s.name
  pub soon : s.datime < 2 ^ 32
  pub low : (name : List ℕ) (y : Tree) → get m.trees name ≡ Some y → (length y.pending == 0) ≡ false → y.cycle < cycle_limit

-- so it is with another state that has one tree saved
low_behind : (m : State) (name : List ℕ) (y : Tree) → ((other : List ℕ) (z : Tree) → get m.trees other ≡ Some z → (length z.pending == 0) ≡ false → z.cycle < cycle_limit)
    → (other : List ℕ) (z : Tree) → get (insert m.trees name (tree_saved y)) other ≡ Some z → (length z.pending == 0) ≡ false → z.cycle < cycle_limit
low_behind m name y low other z is due = by (bytes_eq name other) refl
  where
    by : (b : Bool) → bytes_eq name other ≡ b → z.cycle < cycle_limit
    by false apart = low other z (sym (other_tree m name other (tree_saved y) apart) ∙ is) due
    by true same =
        let own : name ≡ other = (bytes_eq-Decides name other).0 same in
        let test : eq_by_cmp name_order other name ≡ true = ap (eq_by_cmp name_order other) own ∙ (eq_by_cmp_equiv names_total).refl other in
        let there : get (insert m.trees name (tree_saved y)) other ≡ Some (tree_saved y) = get-insert names_total m.trees name (tree_saved y) other ∙ ap (λ (b : Bool). cond b (Some (tree_saved y)) (get m.trees other)) test in
        let one : tree_saved y ≡ z = same_Some (tree_saved y) z (sym there ∙ is) in
        let idle : (length z.pending == 0) ≡ true = ap (λ (w : Tree). length w.pending == 0) (sym one) in
        absurd (let never : true ≡ false = sym idle ∙ due in cc)

module _ (headers : HeadersHaveRecords) (s : SessionState) (m : State) (file : List ℕ) (h : StandsOn s m file) (names : List (List ℕ)) (k : KeyHead) (t : FilledTree) (found_tree : find (is_tree_of k.name) s.trees ≡ Some t)
    (first : head_of k.name None s.heads ≡ Some k) (due : (t.fill.pending == 0) ≡ false) (good : CanBeClosing s m (k.name ∷ names)) where
  abbrev own : Tree
  own = x s m file h k t found_tree first

  own_there : get m.trees k.name ≡ Some own
  own_there = there s m file h k t found_tree first

  own_due : (length own.pending == 0) ≡ false
  own_due = ap (λ (u : KeptTree). u.pending == 0) (named s m k h.stands t found_tree first).kept ∙ due

  no_object : names_object m k.name ≡ false
  no_object = by (names_object m k.name) refl
    where
      by : (b : Bool) → names_object m k.name ≡ b → b ≡ false
      by false e = refl
      by true e =
          let none = h.fillable.apart k.name e in
          let some : names_tree m k.name ≡ true = ap is_some own_there in
          absurd (let never : true ≡ false = sym some ∙ none in cc)

  pub free : refusal_of m (Save k.name) None ≡ None
  free = save_free m k.name own own_there no_object (good.low k.name own own_there own_due)

  abbrev closable : IsClosableWith s.segments s.heads s.trees s.info s.name
  closable = good.closable

  pub shape : AreSegments s.segments
  shape = subst AreSegments (sym h.chain.same) (chain_segments file h.links h.chain.chain)

  pub saving_same : saving s k.name ≡ saving_with s k.name t.fill k
  saving_same = saving_is s m file h k t found_tree first (own_sound s m file h k t found_tree first closable)

  pub done_here : IsSaveDone s m k.name h.links
  done_here =
      let sound = own_sound s m file h k t found_tree first closable in
      let can_be = is_savable s m file h k t found_tree first closable headers good.soon free in
      let found_key = first_is_found k.name s.heads k first in
      let same = saving_same in
      record {
        takes = save_takes s m file h k t found_tree first sound can_be (own_apart s m file h k t found_tree first closable)
            (key_begins s.segments s.heads s.info (places_of_trees s.trees) s.name k shape closable.closable found_key) (key_later s.segments s.heads s.info (places_of_trees s.trees) s.name k shape closable.closable found_key);
        stands = save_stands_by s m k h.stands t found_tree first;
        segments =
            ap (λ (d : Done). d.kept.segments) same
            ∙ save_segments s m file h k t found_tree first sound can_be
            ∙ sym (ap (λ (l : List Link). map segment_of l) (ap (λ (d : Done). all_done d.changes h.links) same ∙ save_all s m file h k t found_tree first sound can_be));
        name_is = ap (λ (d : Done). d.kept.name) same;
      }

  abbrev pub change : TreeFill → TreeFill
  change f = all_saved (branches_become (put_open s.datime k.name (entry_count t.fill) s.segments t.fill.branches (open_list t.fill.branches)).branches f)

  pub good_then : CanBeClosing (kept_by s m (Save k.name)) (state_behind m (Save k.name)) names
  good_then =
      let same = saving_same in
      let sound = own_sound s m file h k t found_tree first closable in
      let can_be = is_savable s m file h k t found_tree first closable headers good.soon free in
      let behind = behind_is s.datime file (file_records s h.links) m k.name own (can s m file h k t found_tree first sound can_be) in
      record {
        due = ap (λ (d : Done). pending_names d.kept) same ∙ others_due k.name change (λ f. refl) names s.trees (ordered_of s.trees h.trees.ordered) good.due;
        closable = subst (λ (d : Done). IsClosableWith d.kept.segments d.kept.heads d.kept.trees d.kept.info d.kept.name) (sym same) (kept_closable headers s m file h k t found_tree first closable good.soon free due);
        soon = subst (λ (d : Done). d.kept.datime < 2 ^ 32) (sym same) good.soon;
        low = subst (λ (n : State). (name : List ℕ) (y : Tree) → get n.trees name ≡ Some y → (length y.pending == 0) ≡ false → y.cycle < cycle_limit) (sym behind) (low_behind m k.name own good.low);
      }

pub closing_step : HeadersHaveRecords → (s : SessionState) (m : State) (file : List ℕ) (name : List ℕ) (names : List (List ℕ)) (h : StandsOn s m file) → CanBeClosing s m (name ∷ names)
    → IsSaveDone s m name h.links × CanBeClosing (kept_by s m (Save name)) (state_behind m (Save name)) names
closing_step headers s m file name names h good =
    let one = first_due name names s.trees good.due in
    let found = subst (λ (n : List ℕ). find (is_tree_of n) s.trees ≡ Some one.t) one.named (own_found one.t s.trees (ordered_of s.trees h.trees.ordered) one.among) in
    let own = tree_of_fill s m h.stands name one.t found in
    let key = tree_first s m file h name own.0 own.1.there in
    let found_key = subst (λ (n : List ℕ). find (is_tree_of n) s.trees ≡ Some one.t) (sym key.named) found in
    let first = subst (λ (n : List ℕ). head_of n None s.heads ≡ Some key.k) (sym key.named) key.first in
    let here = subst (λ (n : List ℕ). CanBeClosing s m (n ∷ names)) (sym key.named) good in
    subst (λ (n : List ℕ). IsSaveDone s m n h.links × CanBeClosing (kept_by s m (Save n)) (state_behind m (Save n)) names) key.named
    (done_here headers s m file h names key.k one.t found_key first one.due here, good_then headers s m file h names key.k one.t found_key first one.due here)
