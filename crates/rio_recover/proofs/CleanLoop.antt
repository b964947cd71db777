-- A loop that releases a file's garbage.
use Rattle.std.proofs.Common.{◌≡◌, ◌∙◌, inl, ⊎_elim, ℕ, zero, suc, ◌+◌, ◌-◌, ◌<◌, ◌≤◌, add-one, false, ◌==◌, List, [], ◌∷◌, ◌++◌, map, length, take, drop, get_or, Option, Some, None, refl, sym, ap, subst, arith}
use Rattle.std.proofs.{lemmas.List.{drop_all, drop_more, length-map, take-append-drop, take_all, Sums.{AllPass-from_list_all, fold_more}}, lemmas.Option.{none-some, same_Some}}
use Rattle.std.specs.List.{list_any}
use Rattle.rio_host.specs.Host.{Any, Becomes, Elapses, IsQuiet, OnlyWrites, View}
use Rattle.rio_host.proofs.Moments.{elapses_join}
use Rattle.rio_chain.specs.{Becoming.{ChainBecomes}, Chains.{ChainState, HasChain, HasRecordSegment, HoldsChain}, Changes.{without_record}, Releasing.{without_segment}}
use Rattle.rio_chain.specs.{Segments.{IsChain, Link}, Stops.{IsEither, KeepsFront}, declared.segment.Segment.{Segment}}
use Rattle.rio_machine.specs.State.{State}
use Rattle.rio_state.specs.{Cleaning.{unreferred}, KeyedRecords.{KeyedRecord, keyed_records}, Reads.{AreRecordsOf}}
use Rattle.rio_recover.specs.{Cleaning.{AreReleasable, AreRising, HoldsCleanedIn, IsCleaning, without_all, without_segments}, Closable.{begins_at}, Recovered.{garbage_of}}
use Rattle.rio_recover.proofs.{CleanSteps.{CleanSoFar, clean_begins, clean_ends, clean_step}, Released.{any_left, record_segment, rising_low}}

-- ---- calls that write

any_same : (o : Option (List ℕ)) → Becomes Any o o
any_same None = refl
any_same (Some bytes) = (bytes, refl, tt)

any_join : (a b c : Option (List ℕ)) → Becomes Any a b → Becomes Any b c → Becomes Any a c
any_join None b c first then = subst (λ (o : Option (List ℕ)). Becomes Any o c) first then
any_join (Some x) b c first then = let last = subst (λ (o : Option (List ℕ)). Becomes Any o c) first.1 then in (last.0, last.1, tt)

writes_none : (v : View) → OnlyWrites v v
writes_none v = record { told = any_same v.holds; said = refl; reads = refl; say_faults = refl }

pub writes_join : (a b c : View) → OnlyWrites a b → OnlyWrites b c → OnlyWrites a c
writes_join a b c first then = record {
  told = any_join a.holds b.holds c.holds first.told then.told;
  said = then.said ∙ first.said;
  reads = then.reads ∙ first.reads;
  say_faults = then.say_faults ∙ first.say_faults;
}

-- ---- the places

-- a place of the garbage is that of a record, the first of those that are left
pub record GarbageAt (records : List KeyedRecord) (k place : ℕ) : Type 0 where
  pub r : KeyedRecord
  pub rest : drop k records ≡ r ∷ drop (suc k) records
  pub place_is : place ≡ r.head.seek

garbage_at : (records : List KeyedRecord) (k : ℕ) → k < length (map (λ r. r.head.seek) records) → GarbageAt records k (get_or (map (λ r. r.head.seek) records) k 0)
garbage_at [] k lt = absurd (omega (arith, lt))
garbage_at (u ∷ records) zero lt = record { r = u; rest = refl; place_is = refl }
garbage_at (u ∷ records) (suc k) lt = let g = garbage_at records k (omega (arith, lt)) in record { r = g.r; rest = g.rest; place_is = g.place_is }

module _ (places : List ℕ) (segments : List Segment) (are : AreReleasable segments places) (k : ℕ) (lt : k < length places) where
  abbrev pub place : ℕ
  place = get_or places k 0

  low : (100 < place) × (list_any (λ p. p == place) (take k places) ≡ false)
  low = rising_low 100 (take k places) place (drop (k + 1) places) (subst (AreRising 100) (sym (take-append-drop k places) ∙ ap (λ (ps : List ℕ). take k places ++ ps) (drop_more places k 0 lt)) are.rising)

  pub later : 100 < place
  later = low.0

  pub record_there : (now : List Segment) → now ≡ without_segments (take k places) segments → HasRecordSegment now place
  record_there now is =
      let there = AllPass-from_list_all (λ p. list_any (begins_at p) segments) places are.there k 0 lt in
      subst (λ (ss : List Segment). HasRecordSegment ss place) (sym is)
      (record_segment place (without_segments (take k places) segments) (any_left place (take k places) low.1 segments ∙ there))

-- ---- the loop

-- the host holds the file without the first of its garbage
pub record Held (v : View) (file : List ℕ) (links : List Link) (segments : List Segment) (places : List ℕ) (k : ℕ) : Type 0 where
  pub now : List ℕ
  pub holds : v.holds ≡ Some now
  pub chain : HasChain (without_all (take k places) links) segments now
  pub front : KeepsFront file now
  pub so : CleanSoFar links (without_all (take k places) links) (drop k (unreferred (keyed_records links)))

pub record Releasing (start now : View) (before : ChainState) (places : List ℕ) (k : ℕ) (chain : ChainState) : Type 0 where
  pub writes : OnlyWrites start now
  pub calm : now.disk_faults ≡ start.disk_faults
  pub quiet : IsQuiet now
  pub segments : chain.segments ≡ without_segments (take k places) before.segments
  pub spare : chain.spare ≡ before.spare - k
  pub spent : chain.spent ≡ before.spent
  pub holds : HoldsChain now chain.segments
  pub time : (file : List ℕ) (links : List Link) (m : State) → start.holds ≡ Some file → HasChain links before.segments file → places ≡ garbage_of (keyed_records links)
      → AreRecordsOf (keyed_records links) m → Elapses start now (IsCleaning start file m)
  pub told : (file : List ℕ) (links : List Link) → start.holds ≡ Some file → HasChain links before.segments file → places ≡ garbage_of (keyed_records links)
      → Held now file links chain.segments places k

pub releasing_begins : (start : View) (before : ChainState) (places : List ℕ) → IsQuiet start → HoldsChain start before.segments → Releasing start start before places 0 before
releasing_begins start before places quiet holds = record {
  writes = writes_none start;
  calm = refl;
  quiet = quiet;
  segments = refl;
  spare = omega arith;
  spent = refl;
  holds = holds;
  time = λ file links m told chain garbage are. record { later = omega arith; nothing_else = λ t i s le left. inl left; keeps = λ t i s le left. left };
  told = λ file links told chain garbage. record { now = file; holds = told; chain = chain; front = λ i x lt was. was; so = clean_begins file links chain.chain };
}

module _ (start now : View) (before : ChainState) (places : List ℕ) (k : ℕ) (chain : ChainState) (sofar : Releasing start now before places k chain) (lt : k < length places) (new : View)
    (moments : (file : List ℕ) (links : List Link) → now.holds ≡ Some file → HasChain links chain.segments file → Elapses now new (IsEither now file links (without_record (get_or places k 0) links))) where
  abbrev at : ℕ
  at = get_or places k 0

  module _ (file : List ℕ) (links : List Link) (told : start.holds ≡ Some file) (has : HasChain links before.segments file) (garbage : places ≡ garbage_of (keyed_records links)) where
    h : Held now file links chain.segments places k
    h = sofar.told file links told has garbage

    abbrev left : List Link
    left = without_all (take k places) links

    -- one record less
    step : CleanSoFar links (without_record at left) (drop (suc k) (unreferred (keyed_records links)))
    step =
        let g = subst (λ (ps : List ℕ). GarbageAt (unreferred (keyed_records links)) k (get_or ps k 0)) (sym garbage)
        (garbage_at (unreferred (keyed_records links)) k (subst (λ (ps : List ℕ). k < length ps) garbage lt)) in
        let so = subst (CleanSoFar links left) g.rest h.so in
        subst (λ (p : ℕ). CleanSoFar links (without_record p left) (drop (suc k) (unreferred (keyed_records links)))) (sym g.place_is)
        (clean_step links left g.r (drop (suc k) (unreferred (keyed_records links))) so)

    cleaning : (m : State) → AreRecordsOf (keyed_records links) m → (image said : List ℕ) → IsEither now h.now left (without_record at left) image said → IsCleaning start file m image said
    cleaning m are image said e = ⊎_elim
        (λ was. made left was (h.so.records m are))
        (λ is. made (without_record at left) is (step.records m are))
        e.links
      where
        made : (some : List Link) → IsChain some image → AreRecordsOf (keyed_records some) m → IsCleaning start file m image said
        made some is records = record {
          links = some;
          chain = is;
          records = records;
          front = λ i x low was. e.front i x low (h.front i x low was);
          text = λ all said_is. e.text all (sofar.writes.said ∙ said_is);
        }

  -- while it is released, whether or not that fails
  pub time_more : (file : List ℕ) (links : List Link) (m : State) → start.holds ≡ Some file → HasChain links before.segments file → places ≡ garbage_of (keyed_records links)
      → AreRecordsOf (keyed_records links) m → Elapses start new (IsCleaning start file m)
  time_more file links m told has garbage are =
      let held = h file links told has garbage in
      let all = without_all (take k places) links in
      elapses_join (IsEither now held.now all (without_record at all)) (sofar.time file links m told has garbage are) (moments held.now all held.holds held.chain) (cleaning file links told has garbage m are)

  module _ (next : ChainState) (becomes : ChainBecomes now new chain.segments next.segments (without_record (get_or places k 0))) (quiet : IsQuiet new) (writes : OnlyWrites now new) (calm : new.disk_faults ≡ now.disk_faults)
      (is : next ≡ record chain { segments = without_segment (get_or places k 0) chain.segments; spare = chain.spare - 1 }) where
    told_before : (o : Option (List ℕ)) → now.holds ≡ o → (now_file : List ℕ) → new.holds ≡ Some now_file → (x : List Link) × HasChain x next.segments now_file
    told_before None none now_file told = absurd (none-some now_file (sym (subst (λ (o : Option (List ℕ)). Becomes Any o new.holds) none writes.told) ∙ told))
    told_before (Some file) was now_file told =
        let c = sofar.holds file was in
        let b = becomes file c.0 was c.1 in
        let same : b.0 ≡ now_file = same_Some b.0 now_file (sym b.1 ∙ told) in
        (without_record at c.0, subst (HasChain (without_record at c.0) next.segments) same b.2)

    pub released_more : Releasing start new before places (k + 1) next
    released_more = record {
      writes = writes_join start now new sofar.writes writes;
      calm = calm ∙ sofar.calm;
      quiet = quiet;
      segments = ap (λ (c : ChainState). c.segments) is ∙ ap (without_segment at) sofar.segments ∙ sym (fold_more (λ ss p. without_segment p ss) before.segments places k 0 lt);
      spare = omega (arith, ap (λ (c : ChainState). c.spare) is, sofar.spare);
      spent = ap (λ (c : ChainState). c.spent) is ∙ sofar.spent;
      holds = told_before now.holds refl;
      time = time_more;
      told = λ file links told has garbage.
          let held = h file links told has garbage in
          let all = without_all (take k places) links in
          let b = becomes held.now all held.holds held.chain in
          let more : without_all (take (k + 1) places) links ≡ without_record at all = fold_more (λ ls p. without_record p ls) links places k 0 lt in
          let so = subst (λ (j : ℕ). CleanSoFar links (without_record at all) (drop j (unreferred (keyed_records links)))) (sym (add-one k)) (step file links told has garbage) in
          record {
            now = b.0;
            holds = b.1;
            chain = subst (λ (ls : List Link). HasChain ls next.segments b.0) (sym more) b.2;
            front = λ i x low was. b.3 i x low (held.front i x low was);
            so = subst (λ (ls : List Link). CleanSoFar links ls (drop (k + 1) (unreferred (keyed_records links)))) (sym more) so;
          };
    }

-- all of them
module _ (start now : View) (before : ChainState) (places : List ℕ) (k : ℕ) (chain : ChainState) (sofar : Releasing start now before places k chain) (le : length places ≤ k) where
  pub all_cleaned : (file : List ℕ) (links : List Link) → start.holds ≡ Some file → HasChain links before.segments file → places ≡ garbage_of (keyed_records links) → HoldsCleanedIn now file links chain.segments
  all_cleaned file links told has garbage =
      let held = sofar.told file links told has garbage in
      let all : without_all (take k places) links ≡ without_all (garbage_of (keyed_records links)) links = ap (λ (ps : List ℕ). without_all ps links) (take_all k places le ∙ garbage) in
      let count : length places ≡ length (unreferred (keyed_records links)) = ap length garbage ∙ length-map (unreferred (keyed_records links)) (λ r. r.head.seek) in
      let none : drop k (unreferred (keyed_records links)) ≡ [] = drop_all k (unreferred (keyed_records links)) (omega (arith, le, count)) in
      let so = subst (λ (ls : List Link). CleanSoFar links ls (drop k (unreferred (keyed_records links)))) all held.so in
      record {
        now = held.now;
        holds = held.holds;
        chain = subst (λ (ls : List Link). HasChain ls chain.segments held.now) all held.chain;
        front = held.front;
        clean = clean_ends links (without_all (garbage_of (keyed_records links)) links) (subst (CleanSoFar links (without_all (garbage_of (keyed_records links)) links)) none so);
      }

  pub all_released : k ≤ length places → chain ≡ record before { segments = without_segments places before.segments; spare = before.spare - length places }
  all_released within =
      let same : k ≡ length places = omega (arith, le, within) in
      let segments = sofar.segments ∙ ap (λ (ps : List ℕ). without_segments ps before.segments) (take_all k places le) in
      let spare : chain.spare ≡ before.spare - length places = sofar.spare ∙ ap (λ (n : ℕ). before.spare - n) same in
      λ i. record { segments = segments i; spare = spare i; spent = sofar.spent i }
