-- The states and the texts of a run.
use Rattle.std.proofs.Common.{◌≡◌, ◌≤◌, take, zero, ℕ, suc, ◌+◌, List, [], ◌∷◌, ◌++◌, drop, length, Option, Some, None, refl, sym, ap, ◌∙◌, arith, append_assoc}
use Rattle.std.proofs.lemmas.List.{append-nil, drop-drop}
use Rattle.std.specs.List.{fold, last_or, slice_get}
use Rattle.rio_machine.specs.{State.{State}, declared.command.Command.{Command}}
use Rattle.rio_step.specs.{Laws.{EachSaysItsReply, RepliesSaySomething, RunsBeginAlike, RunsEndClosed, RunsHaveStates, SaidInParts}, ReplyText.{text_of}}
use Rattle.rio_step.specs.Runs.{Marks, closed_of, closing_saves, first_step, later_marks, said_of, state_after, states_behind, states_of_run}
use Rattle.rio_step.specs.Step.{class_declared, object_put, objects_put, item_deleted, tree_made, row_added, rows_saved, object_told, rows_told, items_listed, refused, state_behind}

pub drop_later : (n : ℕ) (marks : Marks) → drop n (later_marks marks) ≡ drop (suc n) marks
drop_later n marks = let e : 1 + n ≡ suc n = omega arith in drop-drop n 1 marks ∙ ap (λ k. drop k marks) e

pub each_says : EachSaysItsReply
unfolding said_of state_after
each_says m [] c marks = append-nil _
each_says m (d ∷ cs) c marks =
    let next = first_step m d marks in
    let before = state_after next.state cs (later_marks marks) in
    ap (λ t. text_of next.reply ++ t) (each_says next.state cs c (later_marks marks))
    ∙ sym (append_assoc (text_of next.reply) _ _)
    ∙ ap (λ left. (text_of next.reply ++ said_of next.state cs (later_marks marks)) ++ text_of (first_step before c left).reply) (drop_later (length cs) marks)

states_behind_length : (m : State) (cs : List Command) → length (states_behind m cs) ≡ length cs
unfolding states_behind
states_behind_length m [] = refl
states_behind_length m (c ∷ cs) = ap suc (states_behind_length (state_behind m c) cs)

pub run_length : RunsHaveStates
unfolding states_of_run state_after
run_length m [] marks = let h = states_behind_length m (closing_saves m) in omega arith
run_length m (c ∷ cs) marks = let h = run_length (first_step m c marks).state cs (later_marks marks) in omega arith

last_behind : (m : State) (cs : List Command) → last_or None (m ∷ states_behind m cs) ≡ Some (fold state_behind m cs)
unfolding states_behind
last_behind m [] = refl
last_behind m (c ∷ cs) = last_behind (state_behind m c) cs

run_end_behind : (before : Option State) (m : State) (cs : List Command) (marks : Marks) → last_or before (states_of_run m cs marks) ≡ Some (closed_of (state_after m cs marks))
unfolding states_of_run state_after closed_of
run_end_behind before m [] marks = last_behind m (closing_saves m)
run_end_behind before m (c ∷ cs) marks = run_end_behind (Some m) (first_step m c marks).state cs (later_marks marks)

pub run_end : RunsEndClosed
run_end m cs marks = run_end_behind None m cs marks

begin_alike : (m : State) (cs : List Command) (marks : Marks) (k : ℕ) → k ≤ length cs → slice_get (states_of_run m cs marks) k ≡ Some (state_after m (take k cs) marks)
unfolding states_of_run state_after
begin_alike m [] marks zero within = refl
begin_alike m [] marks (suc k) within = absurd (omega (arith, within))
begin_alike m (c ∷ cs) marks zero within = refl
begin_alike m (c ∷ cs) marks (suc k) within = begin_alike (first_step m c marks).state cs (later_marks marks) k (omega (arith, within))

pub runs_begin_alike : RunsBeginAlike
runs_begin_alike m cs marks k within = begin_alike m cs marks k within

said_none : (m : State) (marks : Marks) (k : ℕ) → said_of m [] marks ≡ said_of m (take k []) marks ++ said_of (state_after m (take k []) marks) (drop k []) (drop k marks)
unfolding said_of state_after
said_none m marks zero = refl
said_none m marks (suc k) = refl

pub said_in_parts : SaidInParts
unfolding said_of state_after
said_in_parts m [] marks k = said_none m marks k
said_in_parts m (c ∷ cs) marks zero = refl
said_in_parts m (c ∷ cs) marks (suc k) =
    let next = first_step m c marks in
    let later = state_after next.state (take k cs) (later_marks marks) in
    ap (λ t. text_of next.reply ++ t) (said_in_parts next.state cs (later_marks marks) k)
    ∙ sym (append_assoc (text_of next.reply) _ _)
    ∙ ap (λ left. (text_of next.reply ++ said_of next.state (take k cs) (later_marks marks)) ++ said_of later (drop k cs) left) (drop_later k marks)

pub replies_say_something : RepliesSaySomething
unfolding text_of
replies_say_something (class_declared name version) = omega arith
replies_say_something (object_put name cycle) = omega arith
replies_say_something (objects_put items) = omega arith
replies_say_something (item_deleted name cycle) = omega arith
replies_say_something (tree_made name cycle) = omega arith
replies_say_something (row_added name entry) = omega arith
replies_say_something (rows_saved name cycle entries) = omega arith
replies_say_something (object_told name cycle v) = omega arith
replies_say_something (rows_told name rows) = omega arith
replies_say_something (items_listed items) = omega arith
replies_say_something (refused refusal) = omega arith
