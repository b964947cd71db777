-- While the trees with pending rows are saved for a close each crash image reads as the state after some of the saves, without its pending rows;
-- and the file that is there then is the one that is closed.
use Rattle.std.proofs.Common.{◌≡◌, ◌∙◌, ⊎_elim, ℕ, ◌<◌, ◌≤◌, List, [], ◌∷◌, ◌++◌, length, take, Some, refl, sym, ap, subst, slice_get}
use Rattle.std.proofs.{Math.Seq.{take-length, take-nil}, lemmas.List.{append-nil}}
use Rattle.std.specs.List.{fold}
use Rattle.rio_host.specs.Host.{Elapses, View}
use Rattle.rio_host.proofs.Moments.{elapses_as}
use Rattle.rio_chain.specs.{Chains.{HasChain}, Segments.{IsChain, Link}, Stops.{KeepsFront}, declared.segment.Segment.{Segment}}
use Rattle.rio_machine.specs.{State.{State}, declared.command.Command.{Command}}
use Rattle.rio_state.specs.{KeyedRecords.{keyed_records}, Left.{HasOpenHead}, Reads.{AreRecordsOf}}
use Rattle.rio_step.specs.{Runs.{closed_of, closing_saves, saved_of, states_behind, states_of_run}, Step.{state_behind}}
use Rattle.rio_session.specs.{Changing.{ChangesInTime, Changing, IsBetween, IsUnderway, links_at}, Fillings.{LinksChange, closing, pending_names}, Kept.{all_done}, Session.{ClosesAs, StandsFor}, SessionState.{SessionState}}
use Rattle.rio_session.proofs.{ClosingNames.{closing_names}, ClosingStages.{AreMet, EndsOn, IsSaveDone, all_stand, saves_of, stand_for_one}, Opened.{open_image}, StandsOn.{StandsOn, holds_on}}
use Rattle.rio_session.specs.Kept.{kept_by}
use Rattle.rio_machine.specs.declared.command.Command.TheVariants.{Save}

-- the states of a close are those of a run without commands
run_states : (m : State) (n : ℕ) (state : State) → slice_get (m ∷ states_behind m (closing_saves m)) n ≡ Some state → slice_get (states_of_run m [] []) n ≡ Some state
unfolding states_of_run
run_states m n state e = e

closed_is : (m : State) → fold state_behind m (closing_saves m) ≡ closed_of m
unfolding closed_of
closed_is m = refl

module _ (Good : SessionState → State → List (List ℕ) → Type 0)
    (step : (s : SessionState) (m : State) (file : List ℕ) (name : List ℕ) (names : List (List ℕ)) (h : StandsOn s m file) → Good s m (name ∷ names)
    → IsSaveDone s m name h.links × Good (kept_by s m (Save name)) (state_behind m (Save name)) names)
    (v : View) (s : SessionState) (m : State) (text : List ℕ) (stands : StandsFor v s m text) (good : Good s m (pending_names s)) (p : Changing) (changes : p.changes ≡ (closing s).changes) (silent : p.text ≡ []) where
  abbrev names : List (List ℕ)
  names = pending_names s

  abbrev links : List Link
  links = stands.state.links

  abbrev on : StandsOn s m stands.file
  on = holds_on s m stands.file stands.state

  pub saves_are : saves_of (pending_names s) ≡ closing_saves m
  saves_are = closing_names s m stands.state.stands

  met_by : (k : ℕ) → ((j : ℕ) → j < k → (image : List ℕ) × IsChain (links_at p j links) image) → AreMet (closing s).changes k links
  met_by k reached j low = let r = reached j low in (r.0, subst (λ (cs : List LinksChange). IsChain (all_done (take j cs) links) r.0) changes r.1)

  -- ---- meanwhile

  between : (image spoken : List ℕ) → IsBetween p stands.file text links image spoken → ClosesAs m text image spoken
  between image spoken b =
      let low : b.k ≤ length (closing s).changes = subst (λ (cs : List LinksChange). b.k ≤ length cs) changes b.within in
      let one = stand_for_one Good step (pending_names s) s m stands.file on good b.k low (met_by b.k b.reached) in
      let records = subst (λ (cs : List LinksChange). AreRecordsOf (keyed_records (all_done (take b.k cs) links)) (saved_of one.state)) (sym changes) one.records in
      let image_is = open_image stands.file image s.nbytes_name links (links_at p b.k links) one.state stands.state.head stands.state.chain.chain b.front b.chain records in
      record {
        k = one.number;
        state = one.state;
        state_is = run_states m one.number one.state (subst (λ (cs : List Command). slice_get (m ∷ states_behind m cs) one.number ≡ Some one.state) saves_are one.state_is);
        left = image_is.reads.left;
        text_is = ⊎_elim (λ same. same) (λ more. more.1.1 ∙ ap (λ (l : List ℕ). text ++ l) (ap (take more.1.0) silent ∙ take-nil more.1.0) ∙ append-nil text) b.spoken_is;
      }

  pub saves_in_time : (new : View) → ChangesInTime p v new s → Elapses v new (ClosesAs m text)
  saves_in_time new time =
      elapses_as (ClosesAs m text) (IsBetween p stands.file text links) (time stands.file text links stands.holds stands.said stands.state.chain) between

  -- ---- then

  module _ (mid : View) (segments : List Segment) (u : IsUnderway p (length p.changes) v mid s segments) where
    pub reached_all : AreMet (closing s).changes (length (closing s).changes) links
    reached_all =
        subst (λ (n : ℕ). AreMet (closing s).changes n links) (ap length changes) (met_by (length p.changes) (u.reached stands.file links stands.holds stands.state.chain))

    pub held : (now : List ℕ) × (mid.holds ≡ Some now) × HasChain (links_at p (length p.changes) links) segments now × KeepsFront stands.file now
    held = u.holds stands.file links stands.holds stands.state.chain

    abbrev pub file_then : List ℕ
    file_then = held.0

    pub all_links : links_at p (length p.changes) links ≡ all_done (closing s).changes links
    all_links = ap (λ (cs : List LinksChange). all_done cs links) (take-length p.changes ∙ changes)

    -- what is kept stands on the file, for the state without pending rows
    pub ends : EndsOn (closing s).kept (closed_of m) held.0 (all_done (closing s).changes links)
    ends =
        let state : fold state_behind m (saves_of (pending_names s)) ≡ closed_of m = ap (fold state_behind m) saves_are ∙ closed_is m in
        let image = subst (λ (l : List Link). IsChain l held.0) all_links held.2.chain in
        subst (λ (n : State). EndsOn (closing s).kept n held.0 (all_done (closing s).changes links)) state (all_stand Good step (pending_names s) s m stands.file held.0 on good reached_all image)

    pub holds_then : mid.holds ≡ Some held.0
    holds_then = held.1

    pub front_then : KeepsFront stands.file held.0
    front_then = held.3

    pub head_then : HasOpenHead held.0 s.nbytes_name
    head_then =
        let one = ends in
        (open_image stands.file held.0 s.nbytes_name links one.stands.links (closed_of m) stands.state.head stands.state.chain.chain held.3 one.stands.chain.chain one.stands.records).head

    pub said_then : mid.said ≡ Some text
    said_then = u.said ∙ stands.said
