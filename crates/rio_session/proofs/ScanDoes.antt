-- What a scan does, in all clauses.
use Rattle.std.proofs.Common.{◌≡◌, ℕ, ◌+◌, false, List, [], ◌∷◌, Option, Some, None, Result, Ok, Err, IfOk, refl, sym, subst, ◌∙◌}
use Rattle.std.specs.{Prelude.{IsSome}, List.{find}}
use Rattle.rio_host.specs.Host.{IsLawful, View}
use Rattle.rio_format.specs.{declared.class.Base.{Base}, declared.class.ClassDef.{ClassDef}}
use Rattle.rio_key.specs.declared.head.KeyHead.{KeyHead}
use Rattle.rio_fill.specs.Fill.{entry_count}
use Rattle.rio_machine.specs.State.{State, Tree}
use Rattle.rio_machine.specs.declared.command.Command.{Command, TheVariants.{Bad, Class, Put, Batch, Delete, Tree as MakeTree, Fill, Save, Get, Scan, Ls}}
use Rattle.rio_machine.specs.declared.command.Outcome.{Outcome, TheVariants.{Accepted}}
use Rattle.rio_model.specs.Mapping.{Mapped}
use Rattle.rio_reply.specs.Scanned.{scan_start}
use Rattle.rio_step.specs.Refusing.{rows_of_tree}
use Rattle.rio_judge.proofs.TreeFacts.{key_named}
use Rattle.rio_judge.specs.Trees.{IsJudgementOfItems, IsVersionKnown, TreeWorkCanBeDone}
use Rattle.rio_judge.specs.declared.work.{AnyWork.TheVariants.{Tree as OfTree}, JudgedWithTrees.TheVariants.{Accepted as Judgement}, TreeWork.TheVariants.{Scan as Telling}}
use Rattle.rio_session.specs.{Behind.{IsOfKeys, IsToldByKeys}, Causes.{IsSaid}, Doable.{IsToDo}, Does.{Does}, Fills.{FilledTree, is_tree_of}, Gets.{IsReplyTo}, Replying.{Replies}, ScanReplies.{TellsRows}, Scans.{FoundRow, lines_behind}, Sound.{IsSoundState}}
use Rattle.rio_session.specs.{Session.{IsReady, SessionState, StandsFor, with_cost}, SessionState.{kept_trees}, declared.fault.SessionFault.{SessionFault}}
use Rattle.rio_session.proofs.{FilledTrees.{IsFilledOf, tree_of_fill}, GetSteps.{some_of}, OnlyReplies.{IsOutcomeOf, does_reply}, ScanLines.{printed}, ScanRows.{rows_told}, ScanSteps.{IsScanSaid, scan_lacks, scan_plain, scan_said, scan_still}, States.{of_keys}}

-- ---- which command it is

record IsScan (classes : List ClassDef) (c : Command) (h : KeyHead) (asked : Option Base) : Type 0 where
  command : c ≡ Scan h.name asked
  known : IsVersionKnown classes asked

is_scan : (classes : List ClassDef) (s : SessionState) (c : Command) (h : KeyHead) (asked : Option Base) → TreeWorkCanBeDone classes s.heads (kept_trees s) c (Telling h asked) → IsScan classes c h asked
is_scan classes s (Bad line place) h asked can = absurd can
is_scan classes s (Class class) h asked can = absurd can
is_scan classes s (Put name v) h asked can = absurd can
is_scan classes s (Batch puts) h asked can = absurd can
is_scan classes s (Delete name cycle) h asked can = absurd can
is_scan classes s (MakeTree name branches) h asked can = absurd can
is_scan classes s (Fill name row) h asked can = absurd can
is_scan classes s (Save name) h asked can = absurd can
is_scan classes s (Get name cycle version) h asked can = absurd can
is_scan classes s (Scan name class) h asked can =
    let named = key_named s.heads name h can.0.key in
    record { command = λ i. Scan (sym named i) (sym can.1 i); known = subst (IsVersionKnown classes) (sym can.1) can.2 }
is_scan classes s Ls h asked can = absurd can

-- ---- without a class each row has a line

plain_lines : (classes : List ClassDef) (n : ℕ) (before : List ℕ) (rows : List FoundRow) → (text : List ℕ) × (lines_behind classes None n before rows ≡ Ok text)
plain_lines classes n before [] = (before, refl)
plain_lines classes n before (Ok row ∷ rows) = plain_lines classes (n + 1) _ rows
plain_lines classes n before (Err fault ∷ rows) = plain_lines classes (n + 1) _ rows

plain_accepts : (classes : List ClassDef) (class : Option Base) (before text : List ℕ) (rows : List FoundRow) (outcome : Outcome) → class ≡ None → IsReplyTo (lines_behind classes class 0 before rows) text outcome → outcome ≡ Accepted
plain_accepts classes class before text rows outcome none reply =
    let all = plain_lines classes 0 before rows in
    (subst (λ (m : Mapped (List ℕ)). IsReplyTo m text outcome) ((λ i. lines_behind classes (none i) 0 before rows) ∙ all.1) reply).1

module _ (replies : Replies) (old new : View) (s s' : SessionState) (law : IsLawful old) (law' : IsLawful new) (ready : IsReady old s) (fresh : s.failed ≡ false) (answer : Result Outcome SessionFault) where
  its_outcome : (c : Command) (became : Outcome) (a : Result Outcome SessionFault) → (IsSaid a → IsOutcomeOf old s c became) → IfOk a (λ outcome. outcome ≡ became) → IfOk a (IsOutcomeOf old s c)
  its_outcome c became (Ok outcome) of is = subst (IsOutcomeOf old s c) (sym is) (of tt)
  its_outcome c became (Err e) of is = tt

  module _ (name : List ℕ) (h : KeyHead) (class : Option Base) (sound : IsSoundState s) (known : IsVersionKnown s.classes class) (t : FilledTree) (found : find (is_tree_of name) s.trees ≡ Some t)
      (judged : IsJudgementOfItems s.classes s.heads (kept_trees s) (Scan name class) (Judgement (OfTree (Telling h class)))) (tells : TellsRows replies name class t old new s s' answer) where
    its_tree : (m : State) → IsOfKeys s m → (x : Tree) × IsFilledOf s m name t x
    its_tree m keys = tree_of_fill s m keys name t found

    said_of : IsSaid answer → (m : State) (said : List ℕ) → StandsFor old s m said → IsScanSaid s m name class tells.prints.text tells.prints.outcome
    said_of spoken m said st =
        let keys = of_keys s m st.file st.state in
        let x = its_tree m keys in
        let all = rows_told s m st.file st.state name t found (sound.kept fresh) x.0 x.1.there in
        let lines = printed s.classes class name (entry_count t.fill) tells.rows (rows_of_tree x.0) (tells.told st.file st.holds st.state.links (rows_of_tree x.0) st.state.chain all) all.count (tells.count spoken) in
        scan_said s m keys (sound.kept fresh) name class known (judged m keys.classes keys.keys).0 x.0 x.1.there tells.prints.text tells.prints.outcome
        (subst (λ (l : Mapped (List ℕ)). IsReplyTo l tells.prints.text tells.prints.outcome) lines (tells.prints.reply spoken))

    becomes : IsSaid answer → IsOutcomeOf old s (Scan name class) tells.prints.outcome
    becomes spoken = record {
      same = λ m said st. (said_of spoken m said st).1;
      told = λ by_keys m keys.
          let x = its_tree m keys in
          by_class class by_keys (λ none. plain_accepts s.classes class (scan_start name (entry_count t.fill)) tells.prints.text tells.rows tells.prints.outcome none (tells.prints.reply spoken))
          ∙ sym (scan_plain s m keys (sound.kept fresh) name class known (judged m keys.classes keys.keys).0 x.0 x.1.there by_keys);
      plain = λ m keys accepted. record { changes = refl; kept = refl };
    }
      where
        by_class : (o : Option Base) → IsToldByKeys (Scan name o) → (o ≡ None → tells.prints.outcome ≡ Accepted) → tells.prints.outcome ≡ Accepted
        by_class None by_keys is = is refl
        by_class (Some asked) by_keys is = absurd by_keys

    pub scan_does : Does replies old new s s' (Scan name class) answer
    scan_does =
        does_reply replies old new s s' tells.prints.text 0 law law' ready (Scan name class) answer fresh tells.prints.says
        (λ spoken m keys. scan_still s m keys (sound.kept fresh) name class)
        (λ spoken m said st. (said_of spoken m said st).0)
        (its_outcome (Scan name class) tells.prints.outcome answer becomes tells.prints.outcome_is)
        (λ spoken m said st. scan_lacks s m (of_keys s m st.file st.state) (sound.kept fresh) name class (with_cost 0 s))

  -- the scan of a tree whose key is the session's
  pub scan_is_done : (c : Command) (h : KeyHead) (class : Option Base) → IsToDo s c (OfTree (Telling h class)) → IsSome (find (is_tree_of h.name) s.trees) → IsSoundState s
      → ((t : FilledTree) → find (is_tree_of h.name) s.trees ≡ Some t → TellsRows replies h.name class t old new s s' answer) → Does replies old new s s' c answer
  scan_is_done c h class todo some sound tells =
      let is = is_scan s.classes s c h class todo.can in
      let t = some_of (find (is_tree_of h.name) s.trees) some in
      let judged : IsJudgementOfItems s.classes s.heads (kept_trees s) (Scan h.name class) (Judgement (OfTree (Telling h class))) =
      subst (λ (x : Command). IsJudgementOfItems s.classes s.heads (kept_trees s) x (Judgement (OfTree (Telling h class)))) is.command todo.judged in
      subst (λ (x : Command). Does replies old new s s' x answer) (sym is.command) (scan_does h.name h class sound is.known t.0 t.1 judged (tells t.0 t.1))
