-- The saves of a close, planned one after the other: the steps of those that are planned make the changes of their saves, and the trees that
-- are left are still as they were.
use Rattle.std.proofs.Common.{◌≡◌, ◌∙◌, inl, ℕ, ◌+◌, ◌-◌, ◌<◌, ◌≤◌, ◌==◌, List, [], ◌∷◌, ◌++◌, length, map, max, drop, get_or, Bool, true, false, cond, not, Option, Some, None, refl, sym, ap, subst, arith}
use Rattle.std.proofs.lemmas.{Bool.{and_from, and_parts}, List.{append-nil, append_assoc, drop_all, drop_more, map-append}, Slice.Eq.{bytes_eq-Decides}}
use Rattle.std.specs.{Prelude.{if◌then◌else◌}, List.{filter, find, list_all}, Option.{option_map_or}}
use Rattle.rio_key.specs.declared.head.KeyHead.{KeyHead}
use Rattle.rio_dir.specs.Table.{head_of}
use Rattle.rio_chain.specs.{Chains.{ChainState}, declared.segment.Segment.{Segment}}
use Rattle.rio_fill.specs.Fill.{TreeFill, all_saved, entry_count}
use Rattle.rio_state.proofs.Members.{In, in_right}
use Rattle.rio_session.specs.{ClosingPlans.{ArePlannedSaves, CanPlanSaves, CanPlanTree, IsPlannedBehind}, Due.{IsClosableWith}, Fillings.{Done, both_done, branches_become, closing, has_pending_rows, nothing_done, open_list, put_open, saving, saving_all, saving_with}}
use Rattle.rio_session.specs.{Fills.{AreAfterName, AreNamesOrdered, FilledTree, bare_tree, filled_if, is_tree_of, with_change}, SavePlans.{saving_now}, SessionState.{SessionState}}
use Rattle.rio_session.specs.{Steps.{CanRun, CanStep, all_stepped, change_of, stepped}, TreeWorks.{AreStepsOf}, declared.steps.Step.{Step}}
use Rattle.rio_session.proofs.{FillLists.{own_found}, FilledChanges.{none_changed}}

-- ---- steps behind steps

pub run_both : (steps more : List Step) (segments : List Segment) → CanRun steps segments → CanRun more (all_stepped steps segments) → CanRun (steps ++ more) segments
run_both [] more segments one two = two
run_both (step ∷ steps) more segments one two = (one.0, run_both steps more (stepped step segments) one.1 two)

pub stepped_both : (steps more : List Step) (segments : List Segment) → all_stepped (steps ++ more) segments ≡ all_stepped more (all_stepped steps segments)
stepped_both [] more segments = refl
stepped_both (step ∷ steps) more segments = stepped_both steps more (stepped step segments)

steps_both : (a b : Done) (segments : List Segment) (steps more : List Step) → AreStepsOf a segments steps → AreStepsOf b a.kept.segments more → AreStepsOf (both_done a b) segments (steps ++ more)
steps_both a b segments steps more one two = record {
  run = run_both steps more segments one.run (subst (CanRun more) (sym one.segments_are) two.run);
  changes = let first = one.changes in let then_done = two.changes in map-append change_of steps more ∙ (λ i. first i ++ then_done i);
  segments_are = stepped_both steps more segments ∙ ap (all_stepped more) one.segments_are ∙ two.segments_are;
}

steps_none : (s : SessionState) → AreStepsOf (nothing_done s) s.segments []
steps_none s = record { run = tt; changes = refl; segments_are = refl }

-- ---- steps that are noted, one after the other

-- The first k steps are noted on the chain, and stand behind those of before.
pub record AreNoted (segments : List Segment) (before steps : List Step) (k : ℕ) (chain : ChainState) (now : List Step) : Type 0 where
  pub run : CanRun (drop k steps) chain.segments
  pub segments_are : all_stepped (drop k steps) chain.segments ≡ all_stepped steps segments
  pub room : length steps ≤ chain.spare + k
  pub fresh : chain.spent ≡ false
  pub steps_are : now ++ drop k steps ≡ before ++ steps

module _ (segments : List Segment) (before steps : List Step) (k : ℕ) (chain : ChainState) (now : List Step) (noted : AreNoted segments before steps k chain now)
    (step : Step) (lt : k < length steps) (step_is : step ≡ get_or steps k step) where
  left_steps : drop k steps ≡ step ∷ drop (k + 1) steps
  left_steps = drop_more steps k step lt ∙ ap (λ (x : Step). x ∷ drop (k + 1) steps) (sym step_is)

  left_runs : CanRun (step ∷ drop (k + 1) steps) chain.segments
  left_runs = subst (λ (ss : List Step). CanRun ss chain.segments) left_steps noted.run

  pub can_note : CanStep chain.segments step
  can_note = left_runs.0

  pub one_noted : (after : ChainState) → after ≡ record chain { segments = stepped step chain.segments; spare = chain.spare - 1 } → AreNoted segments before steps (k + 1) after (now ++ step ∷ [])
  one_noted after is =
      let segments_are : stepped step chain.segments ≡ after.segments = sym (ap (λ (c : ChainState). c.segments) is) in
      record {
        run = subst (CanRun (drop (k + 1) steps)) segments_are left_runs.1;
        segments_are = ap (all_stepped (drop (k + 1) steps)) (sym segments_are) ∙ sym (ap (λ (ss : List Step). all_stepped ss chain.segments) left_steps) ∙ noted.segments_are;
        room = omega (arith, ap (λ (c : ChainState). c.spare) is, noted.room, lt);
        fresh = ap (λ (c : ChainState). c.spent) is ∙ noted.fresh;
        steps_are = append_assoc now (step ∷ []) (drop (k + 1) steps) ∙ ap (λ (l : List Step). now ++ l) (sym left_steps) ∙ noted.steps_are;
      }

pub nothing_noted : (before chain : ChainState) (prior steps : List Step) (n : ℕ) → CanRun steps before.segments → before.spent ≡ false → chain ≡ record before { spare = max before.spare n } → n ≡ length steps
    → AreNoted before.segments prior steps 0 chain prior
nothing_noted before chain prior steps n run fresh is many =
    let segments_are : before.segments ≡ chain.segments = sym (ap (λ (c : ChainState). c.segments) is) in
    record {
      run = subst (CanRun steps) segments_are run;
      segments_are = ap (all_stepped steps) (sym segments_are);
      room = omega (arith, ap (λ (c : ChainState). c.spare) is, many);
      fresh = ap (λ (c : ChainState). c.spent) is ∙ fresh;
      steps_are = refl;
    }

module _ (segments : List Segment) (before steps : List Step) (k : ℕ) (chain : ChainState) (now : List Step) (noted : AreNoted segments before steps k chain now) (all : k ≡ length steps) where
  none_left : drop k steps ≡ []
  none_left = drop_all k steps (omega (arith, all))

  pub all_noted : chain.segments ≡ all_stepped steps segments
  all_noted = sym (ap (λ (ss : List Step). all_stepped ss chain.segments) none_left) ∙ noted.segments_are

  pub steps_noted : now ≡ before ++ steps
  steps_noted = sym (append-nil now) ∙ sym (ap (λ (ss : List Step). now ++ ss) none_left) ∙ noted.steps_are

-- ---- saves behind saves

both_assoc : (a b c : Done) → both_done a (both_done b c) ≡ both_done (both_done a b) c
both_assoc a b c =
    let lengths = append_assoc a.lengths b.lengths c.lengths in
    let changes = append_assoc a.changes b.changes c.changes in
    λ i. record { lengths = sym lengths i; changes = sym changes i; kept = c.kept }

none_behind : (a : Done) → both_done a (nothing_done a.kept) ≡ a
none_behind a =
    let lengths = append-nil a.lengths in
    let changes = append-nil a.changes in
    λ i. record { lengths = lengths i; changes = changes i; kept = a.kept }

-- ---- the trees

abbrev pub names_due : List FilledTree → List (List ℕ)
names_due trees = map (λ t. t.name) (filter has_pending_rows trees)

abbrev pub is_idle : FilledTree → Bool
is_idle t = t.fill.pending == 0

due_first : (t : FilledTree) (left : List FilledTree) → (t.fill.pending == 0) ≡ false → names_due (t ∷ left) ≡ t.name ∷ names_due left
due_first t left due = ap (λ (b : Bool). map (λ (u : FilledTree). u.name) (cond (not b) (t ∷ filter has_pending_rows left) (filter has_pending_rows left))) due

idle_first : (t : FilledTree) (left : List FilledTree) → (t.fill.pending == 0) ≡ true → names_due (t ∷ left) ≡ names_due left
idle_first t left idle = ap (λ (b : Bool). map (λ (u : FilledTree). u.name) (cond (not b) (t ∷ filter has_pending_rows left) (filter has_pending_rows left))) idle

all_idle : (front : List FilledTree) (t : FilledTree) → list_all is_idle front ≡ true → is_idle t ≡ true → list_all is_idle (front ++ t ∷ []) ≡ true
all_idle [] t front_idle idle = and_from (is_idle t) true idle refl
all_idle (u ∷ us) t front_idle idle =
    let parts = and_parts (is_idle u) (list_all is_idle us) front_idle in and_from (is_idle u) (list_all is_idle (us ++ t ∷ [])) parts.0 (all_idle us t parts.1 idle)

-- behind a tree the others come after its name
after_in : (front : List FilledTree) (t : FilledTree) (left : List FilledTree) → AreNamesOrdered (front ++ t ∷ left) → AreAfterName t.name left
after_in [] t left are = are.0
after_in (u ∷ us) t left are = after_in us t left are.1

module _ (name : List ℕ) (change : TreeFill → TreeFill) where
  after_changed : (other : List ℕ) (trees : List FilledTree) → AreAfterName other trees → AreAfterName other (with_change name change trees)
  after_changed other [] are = tt
  after_changed other (u ∷ us) are = by (is_tree_of name u) (after_changed other us are.1)
    where
      by : (b : Bool) → AreAfterName other (with_change name change us) → AreAfterName other ((if b then record u { fill = change u.fill } else u) ∷ with_change name change us)
      by true later = (are.0, later)
      by false later = (are.0, later)

  ordered_still : (trees : List FilledTree) → AreNamesOrdered trees → AreNamesOrdered (with_change name change trees)
  ordered_still [] are = tt
  ordered_still (u ∷ us) are = by (is_tree_of name u) (after_changed u.name us are.0) (ordered_still us are.1)
    where
      by : (b : Bool) → AreAfterName u.name (with_change name change us) → AreNamesOrdered (with_change name change us) → AreNamesOrdered ((if b then record u { fill = change u.fill } else u) ∷ with_change name change us)
      by true after later = (after, later)
      by false after later = (after, later)

  module _ (none : (f : TreeFill) → (change f).pending ≡ 0) where
    idle_if : (b : Bool) (u : FilledTree) → (b ≡ false → is_idle u ≡ true) → is_idle (if b then record u { fill = change u.fill } else u) ≡ true
    idle_if true u idle = ap (λ (n : ℕ). n == 0) (none u.fill)
    idle_if false u idle = idle refl

    -- the tree of the name itself
    own_idle : (u : FilledTree) → u.name ≡ name → is_idle (filled_if name change u) ≡ true
    own_idle u named =
        let test : is_tree_of name u ≡ true = (bytes_eq-Decides u.name name).1 named in
        ap (λ (b : Bool). is_idle (if b then record u { fill = change u.fill } else u)) test ∙ ap (λ (n : ℕ). n == 0) (none u.fill)

    idle_changed : (trees : List FilledTree) → list_all is_idle trees ≡ true → list_all is_idle (with_change name change trees) ≡ true
    idle_changed [] all = refl
    idle_changed (u ∷ us) all =
        let parts = and_parts (is_idle u) (list_all is_idle us) all in
        and_from (is_idle (filled_if name change u)) (list_all is_idle (with_change name change us)) (idle_if (is_tree_of name u) u (λ e. parts.0)) (idle_changed us parts.1)

-- ---- what is planned so far

-- The saves of the trees before those that are left are planned.
pub record ArePlannedSoFar (s : SessionState) (left : List FilledTree) (segments : List Segment) (heads : List KeyHead) (steps : List Step) : Type 0 where
  pub done : Done
  pub rest : both_done done (saving_all done.kept (names_due left)) ≡ closing s
  pub segments_are : segments ≡ done.kept.segments
  pub heads_are : heads ≡ done.kept.heads
  pub steps_are : AreStepsOf done s.segments steps
  pub datime_is : done.kept.datime ≡ s.datime
  pub front : List FilledTree
  pub trees_are : done.kept.trees ≡ front ++ left
  pub idle : list_all is_idle front ≡ true
  pub ordered : AreNamesOrdered done.kept.trees
  pub closable : IsClosableWith done.kept.segments done.kept.heads done.kept.trees done.kept.info done.kept.name

pub planned_begins : (s : SessionState) (segments : List Segment) (heads : List KeyHead) (trees : List FilledTree) (datime : ℕ) → CanPlanSaves s segments heads trees datime → ArePlannedSoFar s (map bare_tree trees) segments heads []
planned_begins s segments heads trees datime can = record {
  done = nothing_done s;
  rest = ap (λ (ts : List FilledTree). saving_all s (names_due ts)) (sym can.trees_are);
  segments_are = sym can.segments_are;
  heads_are = sym can.heads_are;
  steps_are = steps_none s;
  datime_is = refl;
  front = [];
  trees_are = can.trees_are;
  idle = refl;
  ordered = can.ordered;
  closable = can.closable;
}

pub planned_ends : (s : SessionState) (segments : List Segment) (heads : List KeyHead) (steps : List Step) → ArePlannedSoFar s [] segments heads steps → ArePlannedSaves s segments heads steps
planned_ends s segments heads steps p =
    let same : p.done ≡ closing s = sym (none_behind p.done) ∙ p.rest in
    let trees : p.done.kept.trees ≡ p.front = p.trees_are ∙ append-nil p.front in
    record {
      segments_are = p.segments_are ∙ ap (λ (d : Done). d.kept.segments) same;
      heads_are = p.heads_are ∙ ap (λ (d : Done). d.kept.heads) same;
      steps_are = subst (λ (d : Done). AreStepsOf d s.segments steps) same p.steps_are;
      none_left = ap (λ (d : Done). list_all is_idle d.kept.trees) (sym same) ∙ ap (list_all is_idle) trees ∙ p.idle;
      closable = subst (λ (d : Done). IsClosableWith d.kept.segments d.kept.heads d.kept.trees d.kept.info d.kept.name) same p.closable;
    }

-- ---- one tree more

module _ (s : SessionState) (t : FilledTree) (left : List FilledTree) (segments : List Segment) (heads : List KeyHead) (steps : List Step) (p : ArePlannedSoFar s (bare_tree t ∷ left) segments heads steps) where
  there : find (is_tree_of t.name) p.done.kept.trees ≡ Some (bare_tree t)
  there =
      own_found (bare_tree t) p.done.kept.trees p.ordered (subst (In (bare_tree t)) (sym p.trees_are) (in_right (bare_tree t) p.front (bare_tree t ∷ left) (inl refl)))

  -- it has no pending rows
  pub planned_idle : (t.fill.pending == 0) ≡ true → ArePlannedSoFar s left segments heads steps
  planned_idle idle = record {
    done = p.done;
    rest = ap (λ (names : List (List ℕ)). both_done p.done (saving_all p.done.kept names)) (sym (idle_first (bare_tree t) left idle)) ∙ p.rest;
    segments_are = p.segments_are;
    heads_are = p.heads_are;
    steps_are = p.steps_are;
    datime_is = p.datime_is;
    front = p.front ++ bare_tree t ∷ [];
    trees_are = p.trees_are ∙ sym (append_assoc p.front (bare_tree t ∷ []) left);
    idle = all_idle p.front (bare_tree t) p.idle idle;
    ordered = p.ordered;
    closable = p.closable;
  }

  module _ (due : (t.fill.pending == 0) ≡ false) where
    pub can_plan : (datime : ℕ) → s.datime ≡ datime → CanPlanTree p.done.kept segments heads t datime
    can_plan datime is = record {
      segments_are = sym p.segments_are;
      heads_are = sym p.heads_are;
      datime_is = p.datime_is ∙ is;
      there = there;
      due = due;
      ordered = p.ordered;
      closable = p.closable;
    }

    -- its save is planned
    pub planned_more : (segments_then : List Segment) (heads_then : List KeyHead) (steps_then : List Step) → IsPlannedBehind p.done.kept t steps segments_then heads_then steps_then
        → ArePlannedSoFar s left segments_then heads_then steps_then
    planned_more segments_then heads_then steps_then planned =
        let one = planned.2 in
        let kept : SessionState = p.done.kept in
        let d : Done = saving_now kept (bare_tree t) one.key in
        let change : TreeFill → TreeFill =
        λ f. all_saved (branches_become (put_open kept.datime t.name (entry_count (bare_tree t).fill) kept.segments (bare_tree t).fill.branches (open_list (bare_tree t).fill.branches)).branches f) in
        let by_tree : saving kept t.name ≡ option_map_or (saving_with kept t.name (bare_tree t).fill) (head_of t.name None kept.heads) (nothing_done kept) =
        ap (λ (o : Option FilledTree). option_map_or (λ (u : FilledTree). option_map_or (saving_with kept t.name u.fill) (head_of t.name None kept.heads) (nothing_done kept)) o (nothing_done kept)) there in
        let by_key : option_map_or (saving_with kept t.name (bare_tree t).fill) (head_of t.name None kept.heads) (nothing_done kept) ≡ d =
        ap (λ (o : Option KeyHead). option_map_or (saving_with kept t.name (bare_tree t).fill) o (nothing_done kept)) one.first in
        let same : saving kept t.name ≡ d = by_tree ∙ by_key in
        let ordered : AreNamesOrdered (p.front ++ bare_tree t ∷ left) = subst AreNamesOrdered p.trees_are p.ordered in
        let still : with_change t.name change left ≡ left = none_changed t.name change left (after_in p.front (bare_tree t) left ordered) in
        let front_then : List FilledTree = with_change t.name change p.front ++ filled_if t.name change (bare_tree t) ∷ [] in
        let whole : with_change t.name change (p.front ++ bare_tree t ∷ left) ≡ front_then ++ left =
        map-append (filled_if t.name change) p.front (bare_tree t ∷ left)
        ∙ ap (λ (l : List FilledTree). with_change t.name change p.front ++ filled_if t.name change (bare_tree t) ∷ l) still
        ∙ sym (append_assoc (with_change t.name change p.front) (filled_if t.name change (bare_tree t) ∷ []) left) in
        record {
          done = both_done p.done d;
          rest =
              sym (both_assoc p.done d (saving_all d.kept (names_due left)))
              ∙ ap (λ (x : Done). both_done p.done (both_done x (saving_all x.kept (names_due left)))) (sym same)
              ∙ ap (λ (names : List (List ℕ)). both_done p.done (saving_all kept names)) (sym (due_first (bare_tree t) left due))
              ∙ p.rest;
          segments_are = one.segments_are;
          heads_are = one.heads_are;
          steps_are = subst (AreStepsOf (both_done p.done d) s.segments) (sym planned.1) (steps_both p.done d s.segments steps planned.0 p.steps_are one.steps_are);
          datime_is = p.datime_is;
          front = front_then;
          trees_are = ap (with_change t.name change) p.trees_are ∙ whole;
          idle =
              all_idle (with_change t.name change p.front) (filled_if t.name change (bare_tree t)) (idle_changed t.name change (λ f. refl) p.front p.idle)
              (own_idle t.name change (λ f. refl) (bare_tree t) refl);
          ordered = ordered_still t.name change kept.trees p.ordered;
          closable = one.closable;
        }

-- ---- the loop

module _ (start : List Segment) (keys : List KeyHead) (trees : List FilledTree) (datime i : ℕ) (segments : List Segment) (heads : List KeyHead) (steps : List Step)
    (sofar : (s : SessionState) → CanPlanSaves s start keys trees datime → ArePlannedSoFar s (map bare_tree (drop i trees)) segments heads steps) where
  -- one tree more
  module _ (t d : FilledTree) (lt : i < length trees) (is : t ≡ get_or trees i d) where
    split : drop i trees ≡ t ∷ drop (i + 1) trees
    split = drop_more trees i d lt ∙ ap (λ (u : FilledTree). u ∷ drop (i + 1) trees) (sym is)

    here : (s : SessionState) → CanPlanSaves s start keys trees datime → ArePlannedSoFar s (bare_tree t ∷ map bare_tree (drop (i + 1) trees)) segments heads steps
    here s can = subst (λ (ts : List FilledTree). ArePlannedSoFar s (map bare_tree ts) segments heads steps) split (sofar s can)

    idle_of : has_pending_rows t ≡ false → (t.fill.pending == 0) ≡ true
    idle_of none = by (t.fill.pending == 0) none
      where
        by : (b : Bool) → not b ≡ false → b ≡ true
        by true e = refl
        by false e = absurd cc

    due_of_test : has_pending_rows t ≡ true → (t.fill.pending == 0) ≡ false
    due_of_test some = by (t.fill.pending == 0) some
      where
        by : (b : Bool) → not b ≡ true → b ≡ false
        by true e = absurd cc
        by false e = refl

    pub idle_more : has_pending_rows t ≡ false → (s : SessionState) → CanPlanSaves s start keys trees datime → ArePlannedSoFar s (map bare_tree (drop (i + 1) trees)) segments heads steps
    idle_more none s can = planned_idle s t (map bare_tree (drop (i + 1) trees)) segments heads steps (here s can) (idle_of none)

    pub can_next : has_pending_rows t ≡ true → (s : SessionState) → CanPlanSaves s start keys trees datime → (kept : SessionState) × CanPlanTree kept segments heads t datime
    can_next some s can =
        let p = here s can in (p.done.kept, can_plan s t (map bare_tree (drop (i + 1) trees)) segments heads steps p (due_of_test some) datime can.datime_is)

    pub due_more : has_pending_rows t ≡ true → (segments_then : List Segment) (heads_then : List KeyHead) (steps_then : List Step)
        → ((s : SessionState) → CanPlanTree s segments heads t datime → IsPlannedBehind s t steps segments_then heads_then steps_then)
        → (s : SessionState) → CanPlanSaves s start keys trees datime → ArePlannedSoFar s (map bare_tree (drop (i + 1) trees)) segments_then heads_then steps_then
    due_more some segments_then heads_then steps_then planned s can =
        let p = here s can in
        let due = due_of_test some in
        let left = map bare_tree (drop (i + 1) trees) in
        planned_more s t left segments heads steps p due segments_then heads_then steps_then (planned p.done.kept (can_plan s t left segments heads steps p due datime can.datime_is))

  -- all of them
  pub all_planned : length trees ≤ i → (s : SessionState) → CanPlanSaves s start keys trees datime → ArePlannedSaves s segments heads steps
  all_planned le s can =
      planned_ends s segments heads steps (subst (λ (ts : List FilledTree). ArePlannedSoFar s (map bare_tree ts) segments heads steps) (drop_all i trees le) (sofar s can))
