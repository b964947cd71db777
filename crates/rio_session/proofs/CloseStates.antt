-- The file of a session whose trees are saved is ready to be closed, and what a stop leaves of it.
use Rattle.std.proofs.{Common.{◌≡◌, ℕ, List, [], ◌∷◌, Some, refl, sym, subst, ◌∙◌, slice_get}, lemmas.Option.{same_Some}}
use Rattle.rio_host.specs.Host.{Elapses, IsQuiet, Leaves, View}
use Rattle.rio_host.proofs.Moments.{elapses_as}
use Rattle.rio_chain.specs.{Segments.{Link}, Stops.{KeepsFront}}
use Rattle.rio_machine.specs.State.{State}
use Rattle.rio_state.specs.{KeyedRecords.{keyed_records}, Left.{IsLeftAs}}
use Rattle.rio_state.specs.Reads.{AreRecordsOf, ReadsAsState, ReadsClosed}
use Rattle.rio_step.specs.Runs.{closed_of, saved_of, states_of_run}
use Rattle.rio_close.specs.{Leaving.{HoldsClosed, HoldsOpen, IsClosedWith, StaysAs}, Written.{OpenFile}}
use Rattle.rio_session.specs.{Closes.{ClosesFile, IsSaved, IsWellClosed, open_file}, Fillings.{closing, pending_names, saving, saving_all}}
use Rattle.rio_session.specs.{Kept.{all_done}, Session.{ClosesAs, SessionState}, SessionState.{headers_of}}
use Rattle.rio_session.proofs.Follows.{saving_file}

-- ---- saves keep name and time

-- what is kept then has the name and the time of before
pub record IsNamedAs (s then : SessionState) : Type 0 where
  pub name_is : then.name ≡ s.name
  pub datime_is : then.datime ≡ s.datime

named_by_all : (s : SessionState) (names : List (List ℕ)) → IsNamedAs s (saving_all s names).kept
named_by_all s [] = record { name_is = refl; datime_is = refl }
named_by_all s (name ∷ names) =
    let one = saving_file s name in
    let rest = named_by_all (saving s name).kept names in
    record { name_is = rest.name_is ∙ one.name; datime_is = rest.datime_is ∙ one.datime }

pub closing_named : (s : SessionState) → IsNamedAs s (closing s).kept
closing_named s = named_by_all s (pending_names s)

-- ---- a file whose trees are saved

module _ (v : View) (s : SessionState) (m : State) (file : List ℕ) (links : List Link) (holds : v.holds ≡ Some file) (is : IsSaved s links file) (records : AreRecordsOf (keyed_records links) m) where
  -- what a close asks of the file
  pub holds_open : HoldsOpen v (open_file s) m
  holds_open = record {
    file = file;
    holds = holds;
    links = links;
    chain = is.chain;
    head = is.head;
    records = records;
    keys = is.keys;
    info = is.info;
  }

-- ---- while it is closed

-- an image of a state of the closing saves, without its pending rows
pub closes_as : (v : View) (m last : State) (text : List ℕ) (k : ℕ) → slice_get (states_of_run m [] []) k ≡ Some last → saved_of last ≡ last → v.said ≡ Some text → (image said : List ℕ) → StaysAs v last image said → ClosesAs m text image said
closes_as v m last text k there saved told image said stays = record {
  k = k;
  state = last;
  state_is = there;
  left = subst (λ (n : State). IsLeftAs n image) (sym saved) stays.left;
  text_is = stays.text text told;
}

pub closing_time : (v new : View) (m last : State) (text : List ℕ) (k : ℕ) → slice_get (states_of_run m [] []) k ≡ Some last → saved_of last ≡ last → v.said ≡ Some text → Elapses v new (StaysAs v last) → Elapses v new (ClosesAs m text)
closing_time v new m last text k there saved told time = elapses_as (ClosesAs m text) (StaysAs v last) time (closes_as v m last text k there saved told)

-- after the close
pub leaves_closed : (new : View) (m last : State) → closed_of m ≡ last → IsQuiet new → HoldsClosed new last → (image said : List ℕ) → Leaves new image said → ReadsAsState image (closed_of m) × ReadsClosed image (closed_of m)
leaves_closed new m last closed quiet held image said left =
    let file_is : image ≡ held.file = quiet image said held.file left held.holds in
    subst (λ (x : State × List ℕ). ReadsAsState x.1 x.0 × ReadsClosed x.1 x.0) (λ i. (sym closed i, sym file_is i)) (held.reads, held.closed)

-- ---- what is written

pub same_file : (f g : OpenFile) → f.segments ≡ g.segments → f.heads ≡ g.heads → f.info ≡ g.info → f.name ≡ g.name → f.nbytes_name ≡ g.nbytes_name → f.datime ≡ g.datime → f ≡ g
same_file f g segments heads info name nbytes_name datime = λ i. record { segments = segments i; heads = heads i; info = info i; name = name i; nbytes_name = nbytes_name i; datime = datime i }

fronts_join : (a b c : List ℕ) → KeepsFront a b → KeepsFront b c → KeepsFront a c
fronts_join a b c first second i x low at = second i x low (first i x low at)

-- the file that is held then
pub holds_closed_file : (old new : View) (s : SessionState) (header file : List ℕ) (is : ClosesFile old new s) → KeepsFront header is.file → new.holds ≡ Some file
    → IsWellClosed s.name s.datime header (all_done (closing s).changes is.links) file
holds_closed_file old new s header file is front told =
    let kept = (closing s).kept in
    let named = closing_named s in
    let saved = is.is_saved in
    record {
      kept = open_file kept;
      name_is = named.name_is;
      datime_is = named.datime_is;
      records = is.records;
      made = is.made;
      before = is.saved;
      front = fronts_join header is.file is.saved front is.front;
      chain = saved.chain;
      head = saved.head;
      keys = saved.keys;
      trees = headers_of kept;
      trees_are = saved.trees;
      info = saved.info;
      named = saved.named;
      owned = saved.owned;
      written = subst (λ (l : List ℕ). IsClosedWith (open_file kept) (all_done (closing s).changes is.links) is.records is.saved l) (same_Some is.written.file file (sym is.written.holds ∙ told)) is.written.written;
    }
