-- A close that is planned is written: the saves that are due, and then the records of the close.
use Rattle.std.proofs.Common.{◌≡◌, ◌∙◌, ◌==◌, ◌||◌, ℕ, ◌+◌, ◌<◌, ◌≤◌, List, [], ◌∷◌, length, Bool, true, false, nat_lt, Option, Some, None, refl, sym, ap, subst, arith}
use Rattle.std.proofs.lemmas.{Bool.{ltb-true, ne_eqb}, Option.{same_Some}}
use Rattle.std.specs.{FinMap.{get}, List.{find, list_all}, Option.{option_map_or}}
use Rattle.rio_key.specs.declared.head.KeyHead.{KeyHead}
use Rattle.rio_dir.specs.Table.{head_of}
use Rattle.rio_host.specs.Host.{Elapses, IsQuiet, Leaves, View}
use Rattle.rio_host.proofs.Moments.{elapses_join}
use Rattle.rio_chain.specs.{Adjoining.{AreSegments}, Placing.{file_end, with_segment}, Releasing.{without_segment}, Segments.{Link}}
use Rattle.rio_chain.specs.declared.segment.Segment.{Segment, TheVariants.{Record, Gap}}
use Rattle.rio_machine.specs.{Limits.{cycle_limit}, State.{State, Tree}}
use Rattle.rio_tree_table.specs.declared.table.KeptTree.{KeptTree}
use Rattle.rio_state.specs.{Left.{HasOpenHead}, Reads.{AreRecordsOf, ReadsAsState, ReadsClosed}, KeyedRecords.{keyed_records}}
use Rattle.rio_state.proofs.Members.{all_at}
use Rattle.rio_step.specs.Runs.{closed_of, closing_saves}
use Rattle.rio_close.specs.{Leaving.{HoldsClosed, HoldsClosedWith, IsReadyToClose, StaysAs}, declared.parts.CloseRecords.{CloseRecords}}
use Rattle.rio_recover.specs.{Closable.{is_owned}, Trees.{places_of}, Whole.{HoldsDirectory}}
use Rattle.rio_effect.specs.HeaderRecords.{HeadersHaveRecords}
use Rattle.rio_session.specs.{Changing.{ChangesInTime, Changing, IsUnderway}, Closes.{AreSavesTold, ClosesFile, IsSaved, open_file}, ClosingPlans.{CanBeWritten, has_cycle}, Fillings.{closing, pending_names}}
use Rattle.rio_session.specs.{Fills.{FilledTree, is_tree_of}, Kept.{all_done}, Session.{ClosesAs, StandsFor}, SessionState.{SessionState, headers_of}}
use Rattle.rio_session.specs.{Steps.{CanRun, all_stepped, changes_of, stepped}, declared.steps.Step.{Step, TheVariants.{Put, Release}}}
use Rattle.rio_session.proofs.{CloseRoom.{directory_low}, CloseStates.{closing_time, leaves_closed}, ClosedStates.{HaveCycles}, ClosedTrees.{closed_last, closed_saved, closing_keeps, places_named}}
use Rattle.rio_session.proofs.{ClosingRecords.{closing_told}, ClosingStages.{EndsOn}, ClosingSteps.{CanBeClosing, closing_step}, ClosingTime.{ends, file_then, front_then, head_then, holds_then, said_then, saves_in_time}}
use Rattle.rio_session.proofs.{FilledTrees.{fill_of_tree, found_among}, SaveStands.{cycle_is, named}, StandsOn.{holds_on}, TreeFirst.{tree_first}}

-- ---- the directory record

-- the first record stays where it is
abbrev pub BeginsAtFirst : List Segment → Type 0
BeginsAtFirst [] = ⊥
BeginsAtFirst (Record place n ∷ segments) = place ≡ 100
BeginsAtFirst (Gap place n ∷ segments) = ⊥

pub record HasDirectory (nbytes_name : ℕ) (segments : List Segment) : Type 0 where
  pub first : BeginsAtFirst segments
  pub within : HoldsDirectory nbytes_name segments

put_keeps : (nbytes_name place n : ℕ) (segments : List Segment) → HasDirectory nbytes_name segments → HasDirectory nbytes_name (with_segment place n segments)
put_keeps nbytes_name place n [] has = absurd has.first
put_keeps nbytes_name place n (Gap p k ∷ segments) has = absurd has.first
put_keeps nbytes_name place n (Record p k ∷ segments) has = record { first = has.first; within = has.within }

release_keeps : (nbytes_name place : ℕ) (segments : List Segment) → 100 < place → HasDirectory nbytes_name segments → HasDirectory nbytes_name (without_segment place segments)
release_keeps nbytes_name place [] later has = absurd has.first
release_keeps nbytes_name place (Gap p k ∷ segments) later has = absurd has.first
release_keeps nbytes_name place (Record p k ∷ segments) later has =
    let other : (p == place) ≡ false = ne_eqb p place (omega (arith, has.first, later)) in rw other (record { first = has.first; within = has.within })

pub directory_kept : (nbytes_name : ℕ) (steps : List Step) (segments : List Segment) → CanRun steps segments → HasDirectory nbytes_name segments → HasDirectory nbytes_name (all_stepped steps segments)
directory_kept nbytes_name [] segments run has = has
directory_kept nbytes_name (Put place body ∷ steps) segments run has =
    directory_kept nbytes_name steps (stepped (Put place body) segments) run.1 (put_keeps nbytes_name place (length body.bytes) segments has)
directory_kept nbytes_name (Release place ∷ steps) segments run has = directory_kept nbytes_name steps (without_segment place segments) run.1 (release_keeps nbytes_name place segments run.0.1 has)

begins_first : (segments : List Segment) → AreSegments segments → BeginsAtFirst segments
begins_first [] form = absurd form.first
begins_first (Gap place n ∷ segments) form = absurd form.first
begins_first (Record place n ∷ segments) form = form.adjacent.0.there

-- so it is before END when the saves are done
pub directory_there : (s : SessionState) (segments then_segments : List Segment) (steps : List Step) (records : CloseRecords) → CanBeWritten s segments steps records → then_segments ≡ all_stepped steps segments
    → records.nbytes_name + 160 ≤ file_end then_segments
directory_there s segments then_segments steps records can are =
    let has = directory_kept s.nbytes_name steps s.segments can.planned.steps_are.run (record { first = begins_first s.segments can.form; within = can.directory }) in
    let low = directory_low s.nbytes_name (all_stepped steps s.segments) has.within in
    let same : all_stepped steps s.segments ≡ then_segments = ap (all_stepped steps) can.same ∙ sym are in
    omega (arith, low, ap file_end same, can.planned.made.nbytes_name, (closing_keeps s).nbytes_is)

-- ---- cycles

or_other : (a b : Bool) → a ≡ false → (a || b) ≡ true → b ≡ true
or_other a b none is = sym (ap (λ (c : Bool). c || b) none) ∙ is

-- each tree with pending rows has another cycle
pub have_cycles : (v : View) (s : SessionState) (m : State) (text : List ℕ) → StandsFor v s m text → list_all (has_cycle s.heads) s.trees ≡ true → HaveCycles m
have_cycles v s m text stands cycles name t is due =
    let are = stands.state.stands in
    let fill = fill_of_tree s m are name t is in
    let u : FilledTree = fill.0 in
    let key = tree_first s m stands.file (holds_on s m stands.file stands.state) name t is in
    let found : find (is_tree_of key.k.name) s.trees ≡ Some u = subst (λ (n : List ℕ). find (is_tree_of n) s.trees ≡ Some u) (sym key.named) fill.1.found in
    let first : head_of key.k.name None s.heads ≡ Some key.k = subst (λ (n : List ℕ). head_of n None s.heads ≡ Some key.k) (sym key.named) key.first in
    let own = named s m key.k are u found first in
    let same : own.tree ≡ t = same_Some own.tree t (sym own.there ∙ ap (get m.trees) key.named ∙ is) in
    let cycle : t.cycle ≡ key.k.cycle = ap (λ (x : Tree). x.cycle) (sym same) ∙ cycle_is s m key.k are u found first in
    let idle : (u.fill.pending == 0) ≡ false = ap (λ (k : KeptTree). k.pending == 0) fill.1.kept ∙ due in
    let u_named : u.name ≡ name = ap (λ (k : KeptTree). k.name) fill.1.kept in
    let passes : has_cycle s.heads u ≡ true = all_at (has_cycle s.heads) u s.trees cycles (found_among name u s.trees fill.1.found) in
    let low : option_map_or (λ (k : KeyHead). nat_lt k.cycle cycle_limit) (head_of u.name None s.heads) false ≡ true =
    or_other (u.fill.pending == 0) (option_map_or (λ (k : KeyHead). nat_lt k.cycle cycle_limit) (head_of u.name None s.heads) false) idle passes in
    let there : head_of u.name None s.heads ≡ Some key.k = ap (λ (n : List ℕ). head_of n None s.heads) u_named ∙ key.first in
    let own_low : nat_lt key.k.cycle cycle_limit ≡ true = ap (λ (o : Option KeyHead). option_map_or (λ (k : KeyHead). nat_lt k.cycle cycle_limit) o false) (sym there) ∙ low in
    subst (λ (n : ℕ). n < cycle_limit) (sym cycle) (ltb-true key.k.cycle cycle_limit own_low)

-- ---- the close

-- what the steps change
abbrev pub planned_saves : SessionState → List Step → Changing
planned_saves s steps = record { changes = changes_of steps; kept = s; text = []; cost = 0 }

module _ (headers : HeadersHaveRecords) (v : View) (s : SessionState) (m : State) (text : List ℕ) (segments : List Segment) (steps : List Step) (records : CloseRecords) (can : CanBeWritten s segments steps records) (stands : StandsFor v s m text) where
  abbrev saves : Changing
  saves = planned_saves s steps

  pub saves_are : changes_of steps ≡ (closing s).changes
  saves_are = can.planned.steps_are.changes

  abbrev low : HaveCycles m
  low = have_cycles v s m text stands can.planned.cycles

  abbrev good : CanBeClosing s m (pending_names s)
  good = record { due = refl; closable = can.planned.before; soon = can.planned.soon; low = have_cycles v s m text stands can.planned.cycles }

  -- while the trees are saved
  pub saving_time : (new : View) → ChangesInTime (planned_saves s steps) v new s → Elapses v new (ClosesAs m text)
  saving_time new time = saves_in_time CanBeClosing (closing_step headers) v s m text stands good saves saves_are refl new time

  module _ (mid : View) (then_segments : List Segment) (u : IsUnderway (planned_saves s steps) (length (changes_of steps)) v mid s then_segments) (are : then_segments ≡ all_stepped steps segments) where
    abbrev kept : SessionState
    kept = (closing s).kept

    abbrev last : State
    last = closed_of m

    abbrev file : List ℕ
    file = file_then CanBeClosing (closing_step headers) v s m text stands good saves saves_are refl mid then_segments u

    abbrev links : List Link
    links = all_done (closing s).changes stands.state.links

    abbrev on : EndsOn (closing s).kept (closed_of m) (file_then CanBeClosing (closing_step headers) v s m text stands good saves saves_are refl mid then_segments u) (all_done (closing s).changes stands.state.links)
    on = ends CanBeClosing (closing_step headers) v s m text stands good saves saves_are refl mid then_segments u

    pub holds : mid.holds ≡ Some file
    holds = holds_then CanBeClosing (closing_step headers) v s m text stands good saves saves_are refl mid then_segments u

    pub head : HasOpenHead file kept.nbytes_name
    head = subst (HasOpenHead file) (sym (closing_keeps s).nbytes_is) (head_then CanBeClosing (closing_step headers) v s m text stands good saves saves_are refl mid then_segments u)

    pub owned : list_all (is_owned kept.info kept.heads (places_of (headers_of kept))) kept.segments ≡ true
    owned =
        ap (λ (places : List ℕ). list_all (is_owned kept.info kept.heads places) kept.segments) (places_named kept.trees can.planned.none_left can.planned.closable.sound)
        ∙ can.planned.closable.closable.owned

    -- nothing is pending in the file then
    pub is_saved : IsSaved kept links file
    is_saved = subst (λ (l : List Link). IsSaved kept l file) on.links_are (record {
      chain = on.stands.chain;
      head = head;
      keys = on.stands.keys;
      trees = on.stands.trees;
      info = on.stands.info;
      named = on.stands.name;
      owned = owned;
    })

    pub closed_records : AreRecordsOf (keyed_records links) last
    closed_records =
        subst (λ (x : List Link × State). AreRecordsOf (keyed_records x.0) x.1) (λ i. (on.links_are i, closed_saved m i)) on.stands.records

    pub same_segments : kept.segments ≡ then_segments
    same_segments = sym (are ∙ ap (all_stepped steps) (sym can.same) ∙ can.planned.steps_are.segments_are)

    -- it is ready to be closed
    abbrev pub ready : IsReadyToClose mid then_segments records (open_file (closing s).kept) (closed_of m)
    ready = record {
      held = record {
        file = file;
        holds = holds;
        links = links;
        chain = is_saved.chain;
        head = is_saved.head;
        records = closed_records;
        keys = is_saved.keys;
        info = is_saved.info;
      };
      same = same_segments;
      made = can.planned.made;
    }

    -- while it is closed
    pub writing_time : (new : View) → Elapses mid new (StaysAs mid (closed_of m)) → Elapses v new (ClosesAs m text)
    writing_time new time =
        elapses_join (ClosesAs m text) (saving_time mid u.time)
        (closing_time mid new m last text (length (closing_saves m)) (closed_last m) (closed_saved m) (said_then CanBeClosing (closing_step headers) v s m text stands good saves saves_are refl mid then_segments u) time)
        (λ i t r. r)

    -- and then
    pub closed_then : (new : View) → IsQuiet new → HoldsClosed new (closed_of m) → (image said : List ℕ) → Leaves new image said → ReadsAsState image (closed_of m) × ReadsClosed image (closed_of m)
    closed_then new quiet held image said left = leaves_closed new m last refl quiet held image said left

    pub written_then : (new : View) → HoldsClosedWith new (open_file (closing s).kept) links records file → ClosesFile v new s
    written_then new written = record {
      records = records;
      made = can.planned.made;
      file = stands.file;
      holds = stands.holds;
      links = stands.state.links;
      chain = stands.state.chain;
      saved = file;
      front = front_then CanBeClosing (closing_step headers) v s m text stands good saves saves_are refl mid then_segments u;
      is_saved = is_saved;
      written = written;
    }

    pub told_then : AreSavesTold s m stands.state.links
    told_then = closing_told headers v s m text stands can.planned.before can.planned.soon low saves saves_are refl mid then_segments u
