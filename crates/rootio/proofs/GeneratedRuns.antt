-- The commands of a generated file, one after the other: nothing but want of room refuses one, and what they cost together.
use Rattle.std.proofs.Common.{◌≡◌, ◌∙◌, ◌<◌, ◌≤◌, ◌+◌, ◌*◌, ℕ, zero, suc, List, [], ◌∷◌, ◌++◌, length, map, take, drop, Bool, true, false, cond, not, ◌==◌, ◌||◌, Option, Some, None, refl, sym, ap, subst, arith, append_assoc}
use Rattle.std.proofs.{lemmas.List.{append-nil, nil_from_length}, lemmas.Option.{same_Some}, Math.Dec.{eqb-suc-zero}}
use Rattle.std.specs.{Prelude.{if◌then◌else◌, is_some, nat_le, slice_get, unwrap_or}, Cmp.{eq_by_cmp_equiv}, List.{filter, fold, list_any, sum_by}, Option.{option_map_or}, Str.{bytes_eq}}
use Rattle.std.specs.declared.cmp.Ordering.{Ordering}
use Rattle.std.specs.FinMap.{empty, entries, entries-insert, find, get, get-empty, get-entries, get-insert, insert, len-empty, len-entries, put}
use Rattle.rio_num.specs.Word.{name_order}
use Rattle.rio_gen.specs.Generated.{fills_from, gen_script, generated_branches, generated_row, numbers_from, rows_from, tree_command, tree_name}
use Rattle.rio_gen.proofs.RowLaws.{generated_rows_fit, tree_is_stated}
use Rattle.rio_machine.proofs.OrderLaws.{names_total}
use Rattle.rio_machine.specs.{Limits.{cycle_limit, has_long_entry, has_long_list, is_too_deep, item_limit}, Rows.{entries_of, row_fits}}
use Rattle.rio_machine.specs.State.{NameAndCycle, Row, State, Tree, empty_state, item_order, names_object}
use Rattle.rio_machine.specs.declared.command.{Command.{Command, TheVariants.{Fill, Save}}, Outcome.TheVariants.{Accepted}}
use Rattle.rio_machine.specs.declared.refusal.Refusal.{Refusal, TheVariants.{BadName, NoSuchName, NoSuchCycle, NameIsTree, NotATree, NameInUse, NoSuchClass, SameVersion, HoldsItself, DoesNotFit, BadRow, NoVersion, CycleLimit, TooLarge, TooDeep, TooMany}}
use Rattle.rio_session.proofs.{EmptyList.{state_short}, HeaderBound.{header_low}}
use Rattle.rio_step.specs.Costs.{HasFileRoom, accepted_cost, cost_of, costs_of_run, fill_cost, info_size, room_limit}
use Rattle.rio_step.specs.Refusing.{FullMark, fill_row, first_of, is_at_last_cycle, is_bad_row, is_too_large, lacks_class, marked_full, refusal_of, refused_if}
use Rattle.rio_step.specs.{Runs.{Marks, closed_of, closing_saves, first_mark, first_step, has_pending, later_marks, state_after}, Step.{by_refusal, new_tree, outcome_of, reply_to, state_behind, step, tree_filled, tree_saved}}
use Rattle.rio_tree.specs.HeaderLength.{header_size}
use Rattle.rio_format.specs.declared.value.Value.{Value}
use Rattle.rio_step.proofs.RunLaws.{drop_later}
use Rattle.rootio.specs.{GeneratedRuns.{GeneratedFilesAreWhole, IsDone, IsTaken, generated_state, generated_tree, marked_run}, Headline.{AllFindRoom, IsWantOfRoom}}
use Rattle.rootio.proofs.GeneratedRows.{row_not_deep, row_not_listed, row_not_long, row_resolved, row_weight}

-- ---- states

-- without classes and objects, and with this tree of the branches in its first cycle
record HasTree (m : State) (t : Tree) : Type 0 where
  classes : m.classes ≡ []
  objects : entries m.objects ≡ []
  trees : entries m.trees ≡ (tree_name, t) ∷ []
  branches : t.branches ≡ generated_branches
  cycle : t.cycle ≡ 1

tree_there : (m : State) (t : Tree) → HasTree m t → get m.trees tree_name ≡ Some t
tree_there m t h =
    get-entries m.trees tree_name ∙ ap (find name_order tree_name) h.trees
    ∙ ap (λ (b : Bool). cond b (Some t) None) ((eq_by_cmp_equiv names_total).refl tree_name)

no_objects : (m : State) (t : Tree) → HasTree m t → (name : List ℕ) → names_object m name ≡ false
no_objects m t h name = ap (λ (es : List (NameAndCycle × Value)). list_any (λ item. bytes_eq item.0 name) (map (λ e. e.0) es)) h.objects

no_entries : {K X : Type 0} (R : K → K → Ordering) → entries (empty {X = X} {R = R}) ≡ []
no_entries {K} {X} R = nil_from_length _ (sym (len-entries empty) ∙ len-empty R X)

made : HasTree (state_behind empty_state tree_command) (new_tree generated_branches)
made = record {
  classes = refl;
  objects = no_entries item_order;
  trees = entries-insert names_total empty tree_name (new_tree generated_branches) ∙ ap (put name_order tree_name (new_tree generated_branches)) (no_entries name_order);
  branches = refl;
  cycle = refl;
}

abbrev fill : ℕ → Command
fill e = Fill tree_name (generated_row e)

-- a row more
abbrev behind_fill : State → Row → Option Tree → State
behind_fill m row o = option_map_or (λ t. record m { trees = insert m.trees tree_name (tree_filled row t) }) o m

module _ (m : State) (t : Tree) (h : HasTree m t) (e : ℕ) where
  same_row : fill_row m (generated_row e) ≡ generated_row e
  same_row = ap (λ (o : Option Row). unwrap_or o (generated_row e)) (row_resolved m.classes e)

  filled : HasTree (state_behind m (fill e)) (tree_filled (generated_row e) t)
  filled = subst (λ (x : Row × Option Tree). HasTree (behind_fill m x.0 x.1) (tree_filled (generated_row e) t)) (λ i. (sym same_row i, sym (tree_there m t h) i)) one_more
    where
      one_more : HasTree (behind_fill m (generated_row e) (Some t)) (tree_filled (generated_row e) t)
      one_more = record {
        classes = h.classes;
        objects = h.objects;
        trees = entries-insert names_total m.trees tree_name (tree_filled (generated_row e) t) ∙ ap (put name_order tree_name (tree_filled (generated_row e) t)) h.trees;
        branches = h.branches;
        cycle = h.cycle;
      }

-- ---- refusals

-- the first refusal, by the tests that a tree or a fill may fail
abbrev verdict : Bool → Bool → Bool → Bool → Bool → Bool → Bool → Bool → Bool → Option FullMark → Option Refusal
verdict lacks object in_use class bad last large deep many mark =
    first_of (None ∷ refused_if false BadName ∷ refused_if lacks NoSuchName ∷ refused_if false NoSuchCycle ∷ refused_if false NameIsTree ∷ refused_if object NotATree ∷ refused_if in_use NameInUse
    ∷ refused_if class NoSuchClass ∷ refused_if false SameVersion ∷ refused_if false HoldsItself ∷ refused_if false DoesNotFit ∷ refused_if bad BadRow ∷ None ∷ refused_if false NoVersion
    ∷ refused_if last CycleLimit ∷ refused_if large TooLarge ∷ refused_if deep TooDeep ∷ refused_if many TooMany ∷ marked_full mark ∷ [])

only_mark : (mark : Option FullMark) → verdict false false false false false false false false false mark ≡ marked_full mark
only_mark None = refl
only_mark (Some full) = refl

class_there : lacks_class empty_state tree_command ≡ false
unfolding numbers_from
class_there = refl

taken_tree : (mark : Option FullMark) → refusal_of empty_state tree_command mark ≡ marked_full mark
unfolding refusal_of
taken_tree mark =
    let object : names_object empty_state tree_name ≡ false =
    ap (λ (es : List (NameAndCycle × Value)). list_any (λ item. bytes_eq item.0 tree_name) (map (λ e. e.0) es)) (no_entries item_order) in
    let tree : is_some (get (empty {X = Tree} {R = name_order}) tree_name) ≡ false = ap is_some (get-empty name_order tree_name) in
    let items = len-empty item_order Value in
    let trees = len-empty name_order Tree in
    (λ i. verdict false false (object i || tree i) (class_there i) false false false false (nat_le item_limit (items i + trees i) || tree_is_stated.few i) mark) ∙ only_mark mark

module _ (m : State) (t : Tree) (h : HasTree m t) (e : ℕ) (low : e < 1000000) where
  there : get m.trees tree_name ≡ Some t
  there = tree_there m t h

  same : fill_row m (generated_row e) ≡ generated_row e
  same = same_row m t h e

  fitting : is_bad_row m (fill e) ≡ false
  fitting =
      ap (λ (o : Option Tree). option_map_or (λ u. not (row_fits m.classes u.branches (fill_row m (generated_row e)))) o false) there
      ∙ (λ i. not (row_fits m.classes (h.branches i) (same i)))
      ∙ ap not (generated_rows_fit m.classes e low)

  small : is_too_large m (fill e) ≡ false
  small =
      ap (λ (o : Option Tree). option_map_or (λ u. has_long_entry m.classes u.branches (fill_row m (generated_row e))) o false) there
      ∙ (λ i. has_long_entry m.classes (h.branches i) (same i))
      ∙ row_not_long m.classes e

  early : is_at_last_cycle m (fill e) ≡ false
  early = ap (λ (o : Option Tree). option_map_or (λ u. nat_le cycle_limit u.cycle) o false) there ∙ ap (nat_le cycle_limit) h.cycle

  known : lacks_class m (fill e) ≡ false
  known = ap (λ (o : Option Row). not (is_some o)) (row_resolved m.classes e)

  object : names_object m tree_name ≡ false
  object = no_objects m t h tree_name

  taken_fill : (mark : Option FullMark) → refusal_of m (fill e) mark ≡ marked_full mark
  unfolding refusal_of
  taken_fill mark =
      let deep = ap (list_any is_too_deep) same ∙ row_not_deep e in
      let many = ap (list_any has_long_list) same ∙ row_not_listed e in
      (λ i. verdict (not (object i || is_some (there i))) (object i) false (known i) (fitting i) (early i) (small i) (deep i) (many i) mark) ∙ only_mark mark

-- ---- all commands

abbrev HasSome : State → Type 0
HasSome m = (t : Tree) × HasTree m t

-- whatever the marks are, the tree stays
stepped : (m : State) (e : ℕ) (mark : Option FullMark) → HasSome m → HasSome (step m (fill e) mark).state
unfolding step
stepped m e mark h = by (refusal_of m (fill e) mark)
  where
    by : (r : Option Refusal) → HasSome (by_refusal m (fill e) r).state
    by None = (tree_filled (generated_row e) h.0, filled m h.0 h.1 e)
    by (Some refusal) = h

keeps : (first n k : ℕ) (m : State) (marks : Marks) → HasSome m → HasSome (state_after m (take k (fills_from first n)) marks)
unfolding numbers_from state_after
keeps first zero zero m marks h = h
keeps first zero (suc k) m marks h = h
keeps first (suc n) zero m marks h = h
keeps first (suc n) (suc k) m marks h = keeps (first + 1) n k (first_step m (fill first) marks).state (later_marks marks) (stepped m first (first_mark marks) h)

tree_kept : (marks : Marks) → first_mark marks ≡ None → HasSome (first_step empty_state tree_command marks).state
unfolding step
tree_kept marks none =
    let taken : refusal_of empty_state tree_command (first_mark marks) ≡ None = taken_tree (first_mark marks) ∙ ap marked_full none in
    subst (λ (r : Option Refusal). HasSome (by_refusal empty_state tree_command r).state) (sym taken) (new_tree generated_branches, made)

fill_at : (first n k : ℕ) (c : Command) → slice_get (fills_from first n) k ≡ Some c → (e : ℕ) × (c ≡ fill e) × (e < first + n)
unfolding numbers_from
fill_at first zero k c is = absurd cc
fill_at first (suc n) zero c is = (first, sym (same_Some (fill first) c is), omega arith)
fill_at first (suc n) (suc k) c is =
    let rest = fill_at (first + 1) n k c is in
    (rest.0, rest.1, omega (arith, rest.2))

all_taken : (entries : ℕ) → entries ≤ 1000000 → IsTaken entries
unfolding state_after
all_taken entries most zero c marks mark none is =
    subst (λ (x : Command). refusal_of empty_state x mark ≡ marked_full mark) (same_Some tree_command c is) (taken_tree mark)
all_taken entries most (suc k) c marks mark none is =
    let at = fill_at 0 entries k c is in
    let there = keeps 0 entries k (first_step empty_state tree_command marks).state (later_marks marks) (tree_kept marks none) in
    let m = state_after (first_step empty_state tree_command marks).state (take k (fills_from 0 entries)) (later_marks marks) in
    subst (λ (x : Command). refusal_of m x mark ≡ marked_full mark) (sym at.1) (taken_fill m there.0 there.1 at.0 (omega (arith, at.2, most)) mark)

-- ---- where no command lacks room

abbrev with_rows : Tree → List Row → Tree
with_rows t rows = record t { pending = t.pending ++ rows }

-- a fill is done
next : (m : State) (t : Tree) (h : HasTree m t) (e : ℕ) → e < 1000000 → HasTree (first_step m (fill e) []).state (tree_filled (generated_row e) t)
unfolding step
next m t h e low =
    let none : refusal_of m (fill e) None ≡ None = taken_fill m t h e low None in
    subst (λ (r : Option Refusal). HasTree (by_refusal m (fill e) r).state (tree_filled (generated_row e) t)) (sym none) (filled m t h e)

first_tree : HasTree (first_step empty_state tree_command []).state (new_tree generated_branches)
unfolding step
first_tree =
    let none : refusal_of empty_state tree_command None ≡ None = taken_tree None in
    subst (λ (r : Option Refusal). HasTree (by_refusal empty_state tree_command r).state (new_tree generated_branches)) (sym none) made

all_filled : (first n : ℕ) (m : State) (t : Tree) → HasTree m t → first + n ≤ 1000000 → HasTree (state_after m (fills_from first n) []) (with_rows t (rows_from first n))
unfolding numbers_from state_after
all_filled first zero m t h most = subst (λ (rows : List Row). HasTree m (record t { pending = rows })) (sym (append-nil t.pending)) h
all_filled first (suc n) m t h most =
    let m1 = (first_step m (fill first) []).state in
    let h1 = next m t h first (omega (arith, most)) in
    let rest = all_filled (first + 1) n m1 (tree_filled (generated_row first) t) h1 (omega (arith, most)) in
    subst (λ (rows : List Row). HasTree (state_after m1 (fills_from (first + 1) n) []) (record t { pending = rows })) (append_assoc t.pending (generated_row first ∷ []) (rows_from (first + 1) n)) rest

-- ---- what they cost

twenty : length generated_branches ≡ 20
unfolding numbers_from
twenty = refl

abbrev first_cost : Bool → ℕ
first_cost b = if b then 330 * length generated_branches else 0

first_most : (b : Bool) → first_cost b ≤ 6600
first_most true = omega (arith, twenty)
first_most false = omega arith

fill_cost_is : (m : State) (t : Tree) (h : HasTree m t) (e : ℕ) → e < 1000000 → cost_of m (fill e) ≡ 260 + first_cost (length t.pending == 0)
unfolding cost_of
fill_cost_is m t h e low =
    let none : refusal_of m (fill e) None ≡ None = taken_fill m t h e low None in
    let same = same_row m t h e in
    ap (λ (r : Option Refusal). if is_some r then 0 else accepted_cost m (fill e)) none
    ∙ ap (λ (o : Option Tree). option_map_or (fill_cost m (generated_row e)) o 0) (tree_there m t h)
    ∙ (λ i. sum_by (λ entry. 2 * length entry + 5) (entries_of m.classes (h.branches i) (same i)) + (if length t.pending == 0 then 330 * length (h.branches i) else 0))
    ∙ ap (λ (n : ℕ). n + first_cost (length t.pending == 0)) (row_weight m.classes e)

some_pending : (rows : List Row) (row : Row) → (length (rows ++ row ∷ []) == 0) ≡ false
some_pending [] row = refl
some_pending (r ∷ rows) row = eqb-suc-zero (length (rows ++ row ∷ []))

fills_cost : (first n : ℕ) (m : State) (t : Tree) → HasTree m t → (length t.pending == 0) ≡ false → first + n ≤ 1000000 → costs_of_run m (fills_from first n) [] ≡ 260 * n
unfolding numbers_from costs_of_run
fills_cost first zero m t h some most = refl
fills_cost first (suc n) m t h some most =
    let m1 = (first_step m (fill first) []).state in
    let one : cost_of m (fill first) ≡ 260 = fill_cost_is m t h first (omega (arith, most)) ∙ ap (λ (b : Bool). 260 + first_cost b) some in
    let rest = fills_cost (first + 1) n m1 (tree_filled (generated_row first) t) (next m t h first (omega (arith, most))) (some_pending t.pending (generated_row first)) (omega (arith, most)) in
    let sum : cost_of m (fill first) + costs_of_run m1 (fills_from (first + 1) n) [] ≡ 260 * suc n = omega (arith, one, rest) in
    sum

tree_cost : cost_of empty_state tree_command ≤ 30000000
unfolding cost_of
tree_cost =
    let none : refusal_of empty_state tree_command None ≡ None = taken_tree None in
    let is : cost_of empty_state tree_command ≡ 600 + info_size [] + 2 * header_size tree_name generated_branches =
    ap (λ (r : Option Refusal). if is_some r then 0 else accepted_cost empty_state tree_command) none in
    let info : info_size [] ≤ 16777216 = state_short [] tt in
    let name : length tree_name ≤ 100 = omega arith in
    let header : header_size tree_name generated_branches ≤ 3000000 = header_low tree_name generated_branches name tree_is_stated.branches tree_is_stated.few in
    omega (arith, is, info, header)

has_room : (n : ℕ) → suc n ≤ 1000000 → HasFileRoom 0 empty_state (gen_script (suc n)) []
unfolding numbers_from costs_of_run
has_room n most =
    let m1 = (first_step empty_state tree_command []).state in
    let t = new_tree generated_branches in
    let m2 = (first_step m1 (fill 0) []).state in
    let first = fill_cost_is m1 t first_tree 0 (omega arith) in
    let rest = fills_cost 1 n m2 (tree_filled (generated_row 0) t) (next m1 t first_tree 0 (omega arith)) (some_pending [] (generated_row 0)) (omega (arith, most)) in
    let sum : 3 * 0 + (cost_of empty_state tree_command + (cost_of m1 (fill 0) + costs_of_run m2 (fills_from 1 n) [])) ≤ 1900000000 =
    omega (arith, tree_cost, first, first_most (length t.pending == 0), rest, most) in
    sum

-- ---- marks

-- no command that finds room beside what was spent is refused for want of it
abbrev FindRoom : ℕ → State → List Command → Marks → Type 0
FindRoom spent m cs marks = (k : ℕ) (c : Command) → slice_get cs k ≡ Some c → spent + costs_of_run m (take (k + 1) cs) marks ≤ room_limit
    → IsWantOfRoom (first_step (state_after m (take k cs) marks) c (drop k marks)).reply → ⊥

find_later : (spent : ℕ) (m : State) (c : Command) (cs : List Command) (marks : Marks) → FindRoom spent m (c ∷ cs) marks → FindRoom (spent + cost_of m c) (first_step m c marks).state cs (later_marks marks)
unfolding costs_of_run state_after
find_later spent m c cs marks find k d is room want =
    let m1 = (first_step m c marks).state in
    let e : suc (k + 1) ≡ suc k + 1 = omega arith in
    let sum : spent + (cost_of m c + costs_of_run m1 (take (k + 1) cs) (later_marks marks)) ≤ room_limit = omega (arith, room) in
    find (suc k) d is (subst (λ (n : ℕ). spent + costs_of_run m (take n (c ∷ cs)) marks ≤ room_limit) e sum)
    (subst (λ (ms : Marks). IsWantOfRoom (first_step (state_after m1 (take k cs) (later_marks marks)) d ms).reply) (drop_later k marks) want)

-- a command that only want of room may refuse, and that isn't refused for it
not_full : (m : State) (c : Command) (mark : Option FullMark) → refusal_of m c mark ≡ marked_full mark → (IsWantOfRoom (step m c mark).reply → ⊥) → refusal_of m c mark ≡ None
unfolding step
not_full m c None taken found = taken
not_full m c (Some full) taken found = absurd (found (subst (λ (r : Option Refusal). IsWantOfRoom (by_refusal m c r).reply) (sym taken) tt))

-- all are done, as without marks
record AreDone (m : State) (cs : List Command) (marks : Marks) : Type 0 where
  accepted : (k : ℕ) (c : Command) → slice_get cs k ≡ Some c → outcome_of (first_step (state_after m (take k cs) marks) c (drop k marks)).reply ≡ Accepted
  state : state_after m cs marks ≡ state_after m cs []

one_done : (m : State) (c : Command) (cs : List Command) (marks : Marks) → refusal_of m c (first_mark marks) ≡ None → refusal_of m c None ≡ None → outcome_of (reply_to m c) ≡ Accepted
    → AreDone (first_step m c marks).state cs (later_marks marks) → AreDone m (c ∷ cs) marks
unfolding step state_after
one_done m c cs marks none free reply rest = record {
  accepted = each;
  state = rest.state ∙ ap (λ (x : State). state_after x cs []) (ap (λ (r : Option Refusal). (by_refusal m c r).state) none ∙ sym (ap (λ (r : Option Refusal). (by_refusal m c r).state) free));
}
  where
    each : (k : ℕ) (d : Command) → slice_get (c ∷ cs) k ≡ Some d → outcome_of (first_step (state_after m (take k (c ∷ cs)) marks) d (drop k marks)).reply ≡ Accepted
    each zero d is =
        subst (λ (x : Command). outcome_of (first_step m x marks).reply ≡ Accepted) (same_Some c d is) (ap (λ (r : Option Refusal). outcome_of (by_refusal m c r).reply) none ∙ reply)
    each (suc k) d is =
        subst (λ (ms : Marks). outcome_of (first_step (state_after (first_step m c marks).state (take k cs) (later_marks marks)) d ms).reply ≡ Accepted) (drop_later k marks) (rest.accepted k d is)

-- a fill that finds room
module _ (m : State) (t : Tree) (h : HasTree m t) (e : ℕ) (low : e < 1000000) (cs : List Command) (marks : Marks) (spent : ℕ) (find : FindRoom spent m (fill e ∷ cs) marks) where
  fill_free : spent + cost_of m (fill e) ≤ room_limit → refusal_of m (fill e) (first_mark marks) ≡ None
  unfolding costs_of_run state_after
  fill_free room =
      let sum : spent + (cost_of m (fill e) + 0) ≤ room_limit = omega (arith, room) in
      not_full m (fill e) (first_mark marks) (taken_fill m t h e low (first_mark marks)) (find 0 (fill e) refl sum)

  fill_next : spent + cost_of m (fill e) ≤ room_limit → HasTree (first_step m (fill e) marks).state (tree_filled (generated_row e) t)
  unfolding step
  fill_next room = subst (λ (r : Option Refusal). HasTree (by_refusal m (fill e) r).state (tree_filled (generated_row e) t)) (sym (fill_free room)) (filled m t h e)

  fill_done : spent + cost_of m (fill e) ≤ room_limit → AreDone (first_step m (fill e) marks).state cs (later_marks marks) → AreDone m (fill e ∷ cs) marks
  fill_done room rest = one_done m (fill e) cs marks (fill_free room) (taken_fill m t h e low None) refl rest

fills_done : (first n : ℕ) (m : State) (t : Tree) (marks : Marks) (spent : ℕ) → HasTree m t → (length t.pending == 0) ≡ false → first + n ≤ 1000000 → spent + 260 * n ≤ room_limit
    → FindRoom spent m (fills_from first n) marks → AreDone m (fills_from first n) marks
unfolding numbers_from state_after
fills_done first zero m t marks spent h some most room find = record { accepted = λ k c is. absurd cc; state = refl }
fills_done first (suc n) m t marks spent h some most room find =
    let low : first < 1000000 = omega (arith, most) in
    let rows = fills_from (first + 1) n in
    let cost : cost_of m (fill first) ≡ 260 = fill_cost_is m t h first low ∙ ap (λ (b : Bool). 260 + first_cost b) some in
    let fits : spent + cost_of m (fill first) ≤ room_limit = omega (arith, cost, room) in
    let next_tree = fill_next m t h first low rows marks spent find fits in
    let rest = fills_done (first + 1) n (first_step m (fill first) marks).state (tree_filled (generated_row first) t) (later_marks marks) (spent + cost_of m (fill first)) next_tree
    (some_pending t.pending (generated_row first)) (omega (arith, most)) (omega (arith, cost, room)) (find_later spent m (fill first) rows marks find) in
    fill_done m t h first low rows marks spent find fits rest

all_done : (n : ℕ) → suc n ≤ 1000000 → (marks : Marks) → FindRoom 0 empty_state (gen_script (suc n)) marks → AreDone empty_state (gen_script (suc n)) marks
unfolding numbers_from costs_of_run state_after step
all_done n most marks find =
    let fills = fills_from 0 (suc n) in
    let t = new_tree generated_branches in
    let m1 = (first_step empty_state tree_command marks).state in
    let fits : 0 + (cost_of empty_state tree_command + 0) ≤ room_limit = omega (arith, tree_cost) in
    let free = not_full empty_state tree_command (first_mark marks) (taken_tree (first_mark marks)) (find 0 tree_command refl fits) in
    let h1 : HasTree m1 t = subst (λ (r : Option Refusal). HasTree (by_refusal empty_state tree_command r).state t) (sym free) made in
    let find1 = find_later 0 empty_state tree_command fills marks find in
    let spent = 0 + cost_of empty_state tree_command in
    let cost = fill_cost_is m1 t h1 0 (omega arith) in
    let fits1 : spent + cost_of m1 (fill 0) ≤ room_limit = omega (arith, tree_cost, cost, first_most (length t.pending == 0)) in
    let h2 = fill_next m1 t h1 0 (omega arith) (fills_from 1 n) (later_marks marks) spent find1 fits1 in
    let m2 = (first_step m1 (fill 0) (later_marks marks)).state in
    let find2 = find_later spent m1 (fill 0) (fills_from 1 n) (later_marks marks) find1 in
    let rest = fills_done 1 n m2 (tree_filled (generated_row 0) t) (later_marks (later_marks marks)) (spent + cost_of m1 (fill 0)) h2 (some_pending [] (generated_row 0)) (omega (arith, most))
    (omega (arith, tree_cost, cost, first_most (length t.pending == 0), most)) find2 in
    one_done empty_state tree_command fills marks free (taken_tree None) refl (fill_done m1 t h1 0 (omega arith) (fills_from 1 n) (later_marks marks) spent find1 fits1 rest)

is_done : (n : ℕ) → suc n ≤ 1000000 → (marks : Marks) → AllFindRoom 0 (marked_run (suc n) marks) → IsDone (suc n) marks
is_done n most marks find =
    let done = all_done n most marks (λ k c is room. find k c is room) in
    record { accepted = done.accepted; state = done.state }

-- ---- the close

-- the one tree is saved
tree_is_closed : (m : State) (t : Tree) → HasTree m t → has_pending t ≡ true → get (closed_of m).trees tree_name ≡ Some (tree_saved t)
unfolding closed_of closing_saves
tree_is_closed m t h some =
    let saves : closing_saves m ≡ Save tree_name ∷ [] =
    ap (λ (es : List (List ℕ × Tree)). map (λ e. Save e.0) (filter (λ e. has_pending e.1) es)) h.trees
    ∙ ap (λ (b : Bool). map (λ (e : List ℕ × Tree). Save e.0) (cond b ((tree_name, t) ∷ []) [])) some in
    ap (λ (cs : List Command). get (fold state_behind m cs).trees tree_name) saves
    ∙ ap (λ (o : Option Tree). get (option_map_or (λ u. record m { trees = insert m.trees tree_name (tree_saved u) }) o m).trees tree_name) (tree_there m t h)
    ∙ get-insert names_total m.trees tree_name (tree_saved t) tree_name
    ∙ ap (λ (b : Bool). cond b (Some (tree_saved t)) (get m.trees tree_name)) ((eq_by_cmp_equiv names_total).refl tree_name)

rows_pending : (n : ℕ) → has_pending (with_rows (new_tree generated_branches) (rows_from 0 (suc n))) ≡ true
unfolding numbers_from
rows_pending n = ap not (eqb-suc-zero (length (rows_from 1 n)))

is_saved : (n : ℕ) → suc n ≤ 1000000 → get (closed_of (generated_state (suc n))).trees tree_name ≡ Some (generated_tree (suc n))
unfolding state_after
is_saved n most =
    let m1 = (first_step empty_state tree_command []).state in
    let all = all_filled 0 (suc n) m1 (new_tree generated_branches) first_tree (omega (arith, most)) in
    tree_is_closed (state_after m1 (fills_from 0 (suc n)) []) (with_rows (new_tree generated_branches) (rows_from 0 (suc n))) all (rows_pending n)

pub generated_files_are_whole : GeneratedFilesAreWhole
generated_files_are_whole zero some most = absurd (omega (arith, some))
generated_files_are_whole (suc n) some most = record { taken = all_taken (suc n) most; room = has_room n most; done = is_done n most; saved = is_saved n most }
