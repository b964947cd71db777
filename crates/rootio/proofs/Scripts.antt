-- A script's run, and what a stop leaves while its file is opened.
use Rattle.std.proofs.Common.{◌≡◌, ℕ, Bool, true, false, List, [], ◌++◌, Option, Some, None, MatchBool, option_map, subst, sym, refl, ap, ◌∙◌, arith}
use Rattle.std.proofs.lemmas.List.{append-nil}
use Rattle.std.specs.{Prelude.{option_and_then}, FinMap.{get, get-empty}, List.{find}, Str.{bytes_eq}}
use Rattle.rio_num.specs.{Reading.{some_if}, Word.{name_order}}
use Rattle.rio_dir.specs.Unborn.{is_unborn}
use Rattle.rio_machine.proofs.OrderLaws.{same_state}
use Rattle.rio_host.specs.Host.{View}
use Rattle.rio_chain.specs.Segments.{Link}
use Rattle.rio_tree.specs.declared.head.TreeHead.{TreeHead}
use Rattle.rio_machine.specs.{State.{Row, State, empty_state}, declared.command.Command.{Command}}
use Rattle.rio_effect.specs.FileRuns.{file_run}
use Rattle.rio_session.specs.{Opening.{IsBegun}, Session.{SessionState, StandsFor, file_records}}
use Rattle.rio_step.proofs.{ClosedLaws.{saved_keeps_the_rest}, RunLaws.{runs_begin_alike}}
use Rattle.rio_step.specs.Runs.{said_of, saved_of, saved_tree, state_after}
use Rattle.rio_state.specs.{KeyedRecords.{KeyedRecord, record_at}, Left.{ReadsClosedUnlessOpen}, Reads.{ReadsAsMade, ReadsAsState}}
use Rattle.rio_state.specs.Trees.{TreesBeside, all_places_named, are_named_once, basket_places, header_in, records_before, saved_rows, saved_tree as read_tree, tree_by, tree_of, tree_under}
use Rattle.rio_cmd.specs.declared.import_words.ImportWords.{ImportWords}
use Rattle.rio_session.specs.declared.replies.Replies.{Replies}
use Rattle.rootio.specs.{Headline.{HoldsPrefix, IsStopOf, ScriptRun, replies}, Records.{closed_records, without_pending}, Script.{session_closed_records, session_run}, Target.{TargetFile}}
use Rattle.rootio.specs.Writing.{Beginning, BeginsRun, IsListingOf, SaysWhole, commands_of, records_behind, records_of, replies_of, run_of_work, target_of}
use Rattle.rootio.specs.declared.words.Work.{Work, TheVariants.{Run, Import}}
use Rattle.rootio.proofs.{Idle.{records_idle}, RunStops.{behind, printed_none, stop_between}}

-- ---- the state at the start has no pending rows

-- no row of a tree that is read is pending
none_pending : (beside : TreesBeside) (r : KeyedRecord) → option_map saved_tree (tree_of beside r) ≡ tree_of beside r
unfolding tree_of tree_by
none_pending beside r = by_head (header_in beside.classes r)
  where
    before : List ℕ
    before = all_places_named beside.classes (records_before beside.headers r)

    by_rows : (head : TreeHead) (rows : Option (List Row)) (once : Bool)
        → option_map saved_tree (option_and_then (λ rs. some_if once (read_tree r head rs)) rows) ≡ option_and_then (λ rs. some_if once (read_tree r head rs)) rows
    by_rows head None once = refl
    by_rows head (Some rs) true = refl
    by_rows head (Some rs) false = refl

    by_head : (o : Option TreeHead) → option_map saved_tree (option_and_then (tree_by beside.classes.declared (record_at beside.records) before r) o)
        ≡ option_and_then (tree_by beside.classes.declared (record_at beside.records) before r) o
    by_head None = refl
    by_head (Some head) = by_rows head (saved_rows beside.classes.declared (record_at beside.records) head) (are_named_once before (basket_places head))

none_under : (beside : TreesBeside) (name : List ℕ) → option_map saved_tree (tree_under beside name) ≡ tree_under beside name
none_under beside name = by (find (λ r. bytes_eq r.head.name name) beside.headers)
  where
    by : (o : Option KeyedRecord) → option_map saved_tree (option_and_then (tree_of beside) o) ≡ option_and_then (tree_of beside) o
    by None = refl
    by (Some r) = none_pending beside r

trees_by : (file : List ℕ) (m : State) (name : List ℕ) (unborn : Bool) → MatchBool unborn (m ≡ empty_state) (ReadsAsMade file m)
    → option_map saved_tree (get m.trees name) ≡ get m.trees name
trees_by file m name true is =
    let none = ap (λ (n : State). get n.trees name) is ∙ get-empty name_order name in
    ap (option_map saved_tree) none ∙ sym none
trees_by file m name false made =
    let read = made.records.stand.trees name in
    ap (option_map saved_tree) read ∙ none_under _ name ∙ sym read

pub saved_start : (file : List ℕ) (m : State) → ReadsAsState file m → saved_of m ≡ m
unfolding saved_of
saved_start file m reads =
    same_state (saved_of m) m refl (λ item. refl) (λ name. saved_keeps_the_rest m name ∙ trees_by file m name (is_unborn file) reads)

-- ---- while the file is opened

behind_start : (r : ScriptRun) → behind r 0 ≡ r.start
unfolding state_after
behind_start r = refl

pub replies_start : (r : ScriptRun) → replies r 0 ≡ []
unfolding said_of
replies_start r = printed_none r.replies

-- where nothing was said, no reply was begun
abbrev pub says_none : (r : ScriptRun) (text : List ℕ) (v : View) → v.said ≡ Some text → SaysWhole r text v
says_none r text v said = record {
  j = 0;
  commands = omega arith;
  said = said ∙ ap (λ (l : List ℕ). Some l) (sym (append-nil text) ∙ ap (λ (l : List ℕ). text ++ l) (sym (replies_start r)));
}

-- what a stop leaves then: the state at the start, and nothing said
abbrev pub OpensAs : List ℕ → List ℕ → State → List ℕ → List ℕ → Type 0
OpensAs file text m image said = ReadsAsState image m × (ReadsClosedUnlessOpen file m → ReadsClosedUnlessOpen image m) × (said ≡ text)

pub stop_opening : (r : ScriptRun) (file text image said : List ℕ) → ReadsAsState file r.start → OpensAs file text r.start image said → IsStopOf r file text image said
stop_opening r file text image said reads opens =
    let same : saved_of r.start ≡ r.start = saved_start file r.start reads in
    let prefix : HoldsPrefix r file image 0 = record {
      state = r.start;
      state_is = runs_begin_alike r.start r.commands r.marks 0 (omega arith) ∙ ap Some (behind_start r);
      reads = subst (λ m. ReadsAsState image m) (sym same) opens.0;
      closed = λ before. subst (λ m. ReadsClosedUnlessOpen image m) (sym same) (opens.1 before);
    } in
    stop_between r file text image said 0 (omega arith) prefix (opens.2 ∙ sym (append-nil text) ∙ ap (λ l. text ++ l) (sym (replies_start r)))

-- ---- the run of a session

-- the run of these commands from a session on
abbrev pub run_there : Replies → SessionState → List Command → List Link → State → ScriptRun
run_there printing s commands links m = session_run printing s links m commands

-- A verb that prints nothing behind the close, and leaves the records behind its commands.
pub record IsPlain (work : Work) : Type 0 where
  pub listing : (links : List Link) (listing : List ℕ) → IsListingOf work links listing → listing ≡ []
  pub records : (b : Beginning) → records_of work b ≡ records_behind work b

pub run_plain : (target : TargetFile) → IsPlain (Run target)
run_plain target = record { listing = λ links listing is. is; records = λ b. refl }

pub import_plain : (target : TargetFile) (words : ImportWords) → IsPlain (Import target words)
import_plain target words = record { listing = λ links listing is. is; records = λ b. refl }

module _ (work : Work) (plain : IsPlain work) (input : List ℕ) (v0 v1 : View) (s : SessionState) (commands : List Command) (begun : IsBegun (target_of work).datime s)
    (are : commands ≡ commands_of work input)
    (b : Beginning) (begins : BeginsRun work b v0) (is : b.input ≡ input) (st : StandsFor v1 s b.state b.text) (links : st.state.links ≡ b.links) where
  all : commands ≡ commands_of work b.input
  all = are ∙ ap (commands_of work) (sym is)

  -- no row was pending
  idle : file_records s st.state.links ≡ without_pending b.links
  idle = records_idle s b.state st.file st.state (saved_start b.file b.state begins.reads) ∙ ap without_pending links

  -- a session that began with the run's records does the run of the words
  pub its_run : run_there (replies_of work) s commands st.state.links b.state ≡ run_of_work work b
  its_run = λ i. record {
    start = b.state;
    commands = all i;
    marks = (file_run (begun.datime_is i) (idle i) b.state (all i)).marks;
    replies = replies_of work;
    listing = sym (plain.listing b.links b.listing begins.listing) i;
  }

  -- and leaves its records
  pub its_records : session_closed_records s st.state.links b.state commands ≡ records_of work b
  its_records = (λ i. closed_records (begun.datime_is i) (idle i) b.state (all i)) ∙ sym (plain.records b)
