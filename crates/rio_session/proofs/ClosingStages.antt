-- Several saves, one after the other, as a close makes them: after each of their changes the records stand for the state after some of the saves.
use Rattle.std.proofs.Common.{◌≡◌, inl, inr, ℕ, zero, suc, ◌+◌, ◌-◌, ◌<◌, ◌≤◌, List, [], ◌∷◌, ◌++◌, length, map, take, Some, refl, sym, ap, subst, ◌∙◌, arith, slice_get}
use Rattle.std.proofs.{Math.Seq.{take-append-add}, lemmas.Bool.{cases_lt}, lemmas.List.{length-append, take-append-le, take_all, Sums.{fold-append}}}
use Rattle.std.specs.List.{fold}
use Rattle.rio_chain.specs.Segments.{IsChain, Link, segment_of}
use Rattle.rio_machine.specs.{State.{State}, declared.command.Command.{Command, TheVariants.{Save}}}
use Rattle.rio_state.specs.{KeyedRecords.{keyed_records}, Reads.{AreRecordsOf}}
use Rattle.rio_step.specs.{Runs.{saved_of, states_behind}, Step.{state_behind}}
use Rattle.rio_session.specs.{Effects.{TakesEffect}, Fillings.{LinksChange, saving, saving_all}, Items.{IsOfKeys}, Kept.{all_done, changes_by, kept_by}, SessionState.{SessionState}}
use Rattle.rio_session.proofs.StandsOn.{StandsOn, stands_after}

-- ---- one save

-- A save takes effect, and what is kept then is of the state after it, in the segments that the file has then.
pub record IsSaveDone (s : SessionState) (m : State) (name : List ℕ) (links : List Link) : Type 0 where
  pub takes : TakesEffect s m (Save name) links
  pub stands : IsOfKeys (kept_by s m (Save name)) (state_behind m (Save name))
  pub segments : (kept_by s m (Save name)).segments ≡ map segment_of (all_done (changes_by s m (Save name)) links)
  pub name_is : (kept_by s m (Save name)).name ≡ s.name

-- What is kept stands on a file of these links.
pub record EndsOn (s : SessionState) (m : State) (image : List ℕ) (links : List Link) : Type 0 where
  pub stands : StandsOn s m image
  pub links_are : stands.links ≡ links

-- ---- several

abbrev pub saves_of : List (List ℕ) → List Command
saves_of names = map (λ name. Save name) names

-- before each of the first k changes some file had the links that there were then
abbrev pub AreMet : List LinksChange → ℕ → List Link → Type 0
AreMet changes k links = (j : ℕ) → j < k → (image : List ℕ) × IsChain (all_done (take j changes) links) image

-- the records stand for one of the states
pub record StandForOne (m : State) (names : List (List ℕ)) (links : List Link) : Type 0 where
  pub number : ℕ
  pub state : State
  pub state_is : slice_get (m ∷ states_behind m (saves_of names)) number ≡ Some state
  pub records : AreRecordsOf (keyed_records links) (saved_of state)

first_state : (m : State) (names : List (List ℕ)) (links : List Link) → AreRecordsOf (keyed_records links) (saved_of m) → StandForOne m names links
first_state m names links records = record { number = 0; state = m; state_is = refl; records = records }

next_state : (m : State) (name : List ℕ) (names : List (List ℕ)) (links : List Link) → AreRecordsOf (keyed_records links) (saved_of (state_behind m (Save name))) → StandForOne m (name ∷ names) links
unfolding states_behind
next_state m name names links records = record { number = 1; state = state_behind m (Save name); state_is = refl; records = records }

later_state : (m : State) (name : List ℕ) (names : List (List ℕ)) (links : List Link) → StandForOne (state_behind m (Save name)) names links → StandForOne m (name ∷ names) links
unfolding states_behind
later_state m name names links one = record { number = suc one.number; state = one.state; state_is = one.state_is; records = one.records }

module _ (Good : SessionState → State → List (List ℕ) → Type 0)
    (step : (s : SessionState) (m : State) (file : List ℕ) (name : List ℕ) (names : List (List ℕ)) (h : StandsOn s m file) → Good s m (name ∷ names)
    → IsSaveDone s m name h.links × Good (kept_by s m (Save name)) (state_behind m (Save name)) names) where
  module _ (s : SessionState) (m : State) (file : List ℕ) (name : List ℕ) (names : List (List ℕ)) (h : StandsOn s m file) (good : Good s m (name ∷ names)) where
    abbrev own : List LinksChange
    own = (saving s name).changes

    abbrev others : List LinksChange
    others = (saving_all (saving s name).kept names).changes

    abbrev between : List Link
    between = all_done (saving s name).changes h.links

    pub done : IsSaveDone s m name h.links
    done = (step s m file name names h good).0

    pub next_good : Good (kept_by s m (Save name)) (state_behind m (Save name)) names
    next_good = (step s m file name names h good).1

    pub own_met : (k : ℕ) → k ≤ length own → AreMet (own ++ others) k h.links → AreMet own k h.links
    own_met k within met j low =
        let p = met j low in (p.0, subst (λ (cs : List LinksChange). IsChain (all_done cs h.links) p.0) (take-append-le j own others (omega (arith, low, within))) p.1)

    -- where all of its own changes were done
    at_between : all_done (take (length own) (own ++ others)) h.links ≡ between
    at_between = ap (λ (cs : List LinksChange). all_done cs h.links) (take-append-le (length own) own others (omega arith) ∙ take_all (length own) own (omega arith))

    further : (j : ℕ) → all_done (take (length own + j) (own ++ others)) h.links ≡ all_done (take j others) between
    further j = ap (λ (cs : List LinksChange). all_done cs h.links) (take-append-add own others j) ∙ fold-append (λ l change. change l) h.links own (take j others)

    pub others_met : (k : ℕ) → AreMet (own ++ others) (length own + k) h.links → AreMet others k between
    others_met k met j low = let p = met (length own + j) (omega (arith, low)) in (p.0, subst (λ (l : List Link). IsChain l p.0) (further j) p.1)

    -- what stands on the file with them
    abbrev pub next_stands : (image : List ℕ) → AreMet (own ++ others) (length own) h.links → IsChain between image → StandsOn (kept_by s m (Save name)) (state_behind m (Save name)) image
    next_stands image met chain =
        stands_after s m (Save name) file image h between (done.takes.ends (own_met (length own) (omega arith) met)) done.stands done.segments done.name_is chain

    within : (k : ℕ) → k ≤ length own → AreMet (own ++ others) k h.links → StandForOne m (name ∷ names) (all_done (take k (own ++ others)) h.links)
    within k low met = elim (cases_lt done.takes.turn k) [
      | inl later ↦
          next_state m name names (all_done (take k (own ++ others)) h.links)
          (subst (λ (cs : List LinksChange). AreRecordsOf (keyed_records (all_done cs h.links)) (saved_of (state_behind m (Save name)))) (sym (take-append-le k own others low)) (done.takes.late k later low (own_met k low met)))
      | inr early ↦
          first_state m (name ∷ names) (all_done (take k (own ++ others)) h.links)
          (subst (λ (cs : List LinksChange). AreRecordsOf (keyed_records (all_done cs h.links)) (saved_of m)) (sym (take-append-le k own others low)) (done.takes.early k early (own_met k low met)))
    ]

    -- with some of those of the further saves
    beyond : (k j : ℕ) → length own + j ≡ k → 0 < j → AreMet (own ++ others) k h.links
        → ((image : List ℕ) (stands : StandsOn (kept_by s m (Save name)) (state_behind m (Save name)) image) → stands.links ≡ between → StandForOne (state_behind m (Save name)) names (all_done (take j others) between))
        → StandForOne m (name ∷ names) (all_done (take k (own ++ others)) h.links)
    beyond k j split some met rest =
        let there = met (length own) (omega (arith, split, some)) in
        let chain = subst (λ (l : List Link). IsChain l there.0) at_between there.1 in
        let front : AreMet (own ++ others) (length own) h.links = λ i low. met i (omega (arith, low, split, some)) in
        subst (λ (l : List Link). StandForOne m (name ∷ names) l) (sym (further j) ∙ ap (λ (n : ℕ). all_done (take n (own ++ others)) h.links) split)
        (later_state m name names (all_done (take j others) between) (rest there.0 (next_stands there.0 front chain) refl))

    -- after the last of its changes there is a file: the next one that is met, or the one at the end
    pub middle : (image : List ℕ) → AreMet (own ++ others) (length (own ++ others)) h.links → IsChain (all_done (own ++ others) h.links) image → (file : List ℕ) × IsChain between file
    middle image met chain = by others refl
      where
        by : (cs : List LinksChange) → others ≡ cs → (file : List ℕ) × IsChain between file
        by [] none =
            let whole : all_done (own ++ others) h.links ≡ between = fold-append (λ l change. change l) h.links own others ∙ ap (λ (cs : List LinksChange). all_done cs between) none in
            (image, subst (λ (l : List Link). IsChain l image) whole chain)
        by (c ∷ cs) some =
            let there = met (length own) (omega (arith, length-append own others, ap length some)) in
            (there.0, subst (λ (l : List Link). IsChain l there.0) at_between there.1)

    abbrev EndsThen : List ℕ → Type 0
    EndsThen image = EndsOn (saving_all s (name ∷ names)).kept (fold state_behind m (saves_of (name ∷ names))) image (all_done (own ++ others) h.links)

    ends_by : (image : List ℕ) → AreMet (own ++ others) (length (own ++ others)) h.links → IsChain (all_done (own ++ others) h.links) image
        → ((middle_file : List ℕ) (stands : StandsOn (kept_by s m (Save name)) (state_behind m (Save name)) middle_file) → AreMet others (length others) stands.links → IsChain (all_done others stands.links) image
        → EndsOn (saving_all (saving s name).kept names).kept (fold state_behind (state_behind m (Save name)) (saves_of names)) image (all_done others stands.links)) → EndsThen image
    ends_by image met chain rest =
        let long = length-append own others in
        let mid = middle image met chain in
        let front : AreMet (own ++ others) (length own) h.links = λ i low. met i (omega (arith, low, long)) in
        let stands = next_stands mid.0 front mid.1 in
        let whole : all_done (own ++ others) h.links ≡ all_done others between = fold-append (λ l change. change l) h.links own others in
        let all : AreMet (own ++ others) (length own + length others) h.links = λ i low. met i (omega (arith, low, long)) in
        let ends = rest mid.0 stands (others_met (length others) all) (subst (λ (l : List Link). IsChain l image) whole chain) in
        record { stands = ends.stands; links_are = ends.links_are ∙ sym whole }

  -- after the first k changes of all saves, where each before was met
  pub stand_for_one : (names : List (List ℕ)) (s : SessionState) (m : State) (file : List ℕ) (h : StandsOn s m file) → Good s m names → (k : ℕ) → k ≤ length (saving_all s names).changes
      → AreMet (saving_all s names).changes k h.links → StandForOne m names (all_done (take k (saving_all s names).changes) h.links)
  stand_for_one [] s m file h good zero low met = first_state m [] h.links h.records
  stand_for_one [] s m file h good (suc k) low met = absurd (omega (arith, low))
  stand_for_one (name ∷ names) s m file h good k low met =
      let own = (saving s name).changes in
      let others = (saving_all (saving s name).kept names).changes in
      let long = length-append own others in
      let rest = λ (image : List ℕ) (stands : StandsOn (kept_by s m (Save name)) (state_behind m (Save name)) image) (j : ℕ).
      stand_for_one names (kept_by s m (Save name)) (state_behind m (Save name)) image stands (next_good s m file name names h good) j in
      elim (cases_lt (length own) k) [
        | inl far ↦
            let j : ℕ = k - length own in
            let split : length own + j ≡ k = omega (arith, far) in
            let at : AreMet (own ++ others) (length own + j) h.links = subst (λ (n : ℕ). AreMet (own ++ others) n h.links) (sym split) met in
            beyond s m file name names h good k j split (omega (arith, far)) met (λ image stands same.
            subst (λ (l : List Link). StandForOne (state_behind m (Save name)) names (all_done (take j others) l)) same
            (rest image stands j (omega (arith, low, long, split)) (subst (λ (l : List Link). AreMet others j l) (sym same) (others_met s m file name names h good j at))))
        | inr near ↦ within s m file name names h good k near met
      ]

  -- and after all of them what is kept stands on the file
  pub all_stand : (names : List (List ℕ)) (s : SessionState) (m : State) (file image : List ℕ) (h : StandsOn s m file) → Good s m names → AreMet (saving_all s names).changes (length (saving_all s names).changes) h.links
      → IsChain (all_done (saving_all s names).changes h.links) image → EndsOn (saving_all s names).kept (fold state_behind m (saves_of names)) image (all_done (saving_all s names).changes h.links)
  all_stand [] s m file image h good met chain =
      record {
        stands = record {
          links = h.links;
          chain = record { chain = chain; same = h.chain.same };
          records = h.records;
          stands = h.stands;
          keys = h.keys;
          trees = h.trees;
          items = h.items;
          fillable = h.fillable;
          rows = h.rows;
          opens = h.opens;
          info = h.info;
          name = h.name;
          count = h.count;
        };
        links_are = refl;
      }
  all_stand (name ∷ names) s m file image h good met chain =
      ends_by s m file name names h good image met chain (λ middle_file stands. all_stand names (kept_by s m (Save name)) (state_behind m (Save name)) middle_file image stands (next_good s m file name names h good))
