-- The steps of a save, planned at the places of the rule, do it.
use Rattle.std.proofs.Common.{◌≡◌, ◌∙◌, ◌==◌, ℕ, suc, ◌+◌, ◌%◌, ◌<◌, ◌≤◌, ◌^◌, List, [], ◌∷◌, ◌++◌, append_assoc, length, map, drop, slice_get, Bool, true, false, not, Some, refl, sym, ap, subst, arith}
use Rattle.std.proofs.Math.Dec.{eqb-suc-zero}
use Rattle.std.proofs.lemmas.{Bool.{and_from, and_parts}, List.{append-nil, length-append, map-append, Elements.{All-from_recursion}}}
use Rattle.std.specs.{List.{All, AllByRecursion}}
use Rattle.rio_num.specs.Room.{Room}
use Rattle.rio_key.specs.declared.head.KeyHead.{KeyHead}
use Rattle.rio_chain.specs.{Adjoining.{AreSegments}, Chains.{HasRecordSegment}, Changes.{with_record, without_record}, Placing.{FreeSpace, end_after, file_end, laid as laid_by, place_of, places_of, space_of, with_segment}, Releasing.{without_segment}}
use Rattle.rio_chain.specs.{Segments.{IsRecord}, declared.segment.Segment.{Segment}}
use Rattle.rio_chain.proofs.Laying.{laid_put}
use Rattle.rio_close.proofs.Fitting.{place_low}
use Rattle.rio_tree.specs.declared.{basket_at.BasketAt.{BasketAt}, head.Branch.{Branch}, head.TreeHead.{TreeHead}}
use Rattle.rio_fill.specs.{Fill.{BranchFill, branch_put, count_before, entry_count, has_no_entries}, Heads.{are_places, saved_branches, saved_head}}
use Rattle.rio_effect.specs.TreeRecords.{header_key, header_record, length_of_basket}
use Rattle.rio_session.specs.{Fillings.{BasketsPut, open_list, put_open, words_of_open}, Fills.{FilledTree, branch_in_header}, Measures.{flags_for}}
use Rattle.rio_session.specs.Noted.{ArePlanned, PlansBaskets, are_firsts, branches_put, flagged, lengths_of_flagged}
use Rattle.rio_session.specs.{SavePlans.{CanPlanSave, IsSaveMade, head_now, put_now, saving_now}, SessionState.{SessionState}}
use Rattle.rio_session.specs.{Steps.{CanPut, CanRun, all_stepped, change_of, changes_of}, declared.save.SaveMade.{SaveMade}, declared.steps.Step.{Step, TheVariants.{Put, Release}}}
use Rattle.rio_session.proofs.{ClosingPlans.{run_both, stepped_both}, PlanRoom.{as_many_places}, Places.{end_stays}, PutOpen.{put_lengths}, PutsKept.{ArePutsKept, basket_aligned, basket_some, puts_kept}, ReplaceMoments.{record_stays}}
use Rattle.rio_session.proofs.{SaveHeads.{AreReady, early_all}, SaveLengths.{header_long, next_aligned, next_some, ready_now}}

-- ---- places of baskets that are put

pub record ArePlaced (segments : List Segment) (p : BasketsPut) : Type 0 where
  pub places : (more : List ℕ) → places_of (p.lengths ++ more) (space_of segments) ≡ places_of p.lengths (space_of segments) ++ places_of more (space_of p.segments)
  pub low : file_end p.segments ≤ 1999999996 → AllByRecursion (λ (q : ℕ). q < 2 ^ 32) (places_of p.lengths (space_of segments))
  pub grows : file_end segments ≤ file_end p.segments
  pub there : (q : ℕ) → HasRecordSegment segments q → HasRecordSegment p.segments q

none_placed : (segments : List Segment) (branches : List BranchFill) → ArePlaced segments (record { lengths = []; changes = []; segments = segments; branches = branches })
none_placed segments branches = record { places = λ more. refl; low = λ end. tt; grows = omega arith; there = λ q has. has }

pub puts_placed : (datime : ℕ) (tree : List ℕ) (count : ℕ) (segments : List Segment) (bs : List BranchFill) (flags : List Bool) → AreSegments segments → ArePlaced segments (put_open datime tree count segments bs flags)
puts_placed datime tree count segments [] flags shape = none_placed segments []
puts_placed datime tree count segments (b ∷ bs) [] shape = none_placed segments (b ∷ bs)
puts_placed datime tree count segments (b ∷ bs) (true ∷ flags) shape =
    let words = words_of_open tree datime b in
    let n = length_of_basket words in
    let place = place_of segments n in
    let next = with_segment place n segments in
    let p = put_open datime tree count next bs flags in
    let put = laid_put segments n shape (basket_some words) (basket_aligned words) in
    let rest = puts_placed datime tree count next bs flags put.0 in
    let own : file_end next ≡ end_after (n ∷ []) (space_of segments) = ap (λ (sp : FreeSpace). sp.end) put.1 in
    let at = place_low segments place n shape refl in
    let first = end_stays n segments in
    record {
      places = λ more.
          ap (λ (sp : FreeSpace). place ∷ places_of (p.lengths ++ more) sp) (sym put.1)
          ∙ ap (λ (l : List ℕ). place ∷ l) (rest.places more)
          ∙ ap (λ (sp : FreeSpace). place ∷ places_of p.lengths sp ++ places_of more (space_of p.segments)) put.1;
      low = λ end. (omega (arith, at, first, own, rest.grows, end), subst (λ (sp : FreeSpace). AllByRecursion (λ (q : ℕ). q < 2 ^ 32) (places_of p.lengths sp)) put.1 (rest.low end));
      grows = omega (arith, first, own, rest.grows);
      there = λ q has. rest.there q (record_stays place n q segments has);
    }
puts_placed datime tree count segments (b ∷ bs) (false ∷ flags) shape =
    let rest = puts_placed datime tree count segments bs flags shape in
    record { places = rest.places; low = rest.low; grows = rest.grows; there = rest.there }

low_more : (places : List ℕ) (q : ℕ) → AllByRecursion (λ (p : ℕ). p < 2 ^ 32) places → q < 2 ^ 32 → AllByRecursion (λ (p : ℕ). p < 2 ^ 32) (places ++ q ∷ [])
low_more [] q all low = (low, tt)
low_more (p ∷ places) q all low = (all.0, low_more places q all.1 low)

last_at : (xs : List ℕ) (x : ℕ) → slice_get (xs ++ x ∷ []) (length xs) ≡ Some x
last_at [] x = refl
last_at (y ∷ xs) x = last_at xs x

flagged_long : (tree : List ℕ) (bs : List BranchFill) → length (lengths_of_flagged tree bs) ≡ length bs
flagged_long tree [] = refl
flagged_long tree (b ∷ bs) = ap suc (flagged_long tree bs)

-- ---- where the open baskets stand in the header

-- places that name the first entries are places of a save
pub places_fit : (count : ℕ) (bs : List BranchFill) (ats : List BasketAt) → are_firsts count ats (flagged bs (open_list bs)) ≡ true → are_places count bs ats ≡ true
places_fit count [] [] firsts = refl
places_fit count [] (at ∷ ats) firsts = let never = eqb-suc-zero (length ats) in absurd cc
places_fit count (b ∷ bs) ats firsts = by (λ xs f. places_fit count bs xs f) (has_no_entries b) refl ats firsts
  where
    by : ((xs : List BasketAt) → are_firsts count xs (flagged bs (open_list bs)) ≡ true → are_places count bs xs ≡ true)
        → (t : Bool) → has_no_entries b ≡ t → (xs : List BasketAt) → are_firsts count xs (flagged (b ∷ bs) (not t ∷ open_list bs)) ≡ true → are_places count (b ∷ bs) xs ≡ true
    by next true is xs f = rw is (next xs f)
    by next false is [] f = absurd cc
    by next false is (at ∷ xs) f =
        let two = and_parts (at.first == count_before count b) (are_firsts count xs (flagged bs (open_list bs))) f in
        rw is (and_from (at.first == count_before count b) (are_places count bs xs) two.0 (next xs two.1))

abbrev first_of : BranchFill → List BranchFill → BranchFill
first_of b [] = b
first_of b (c ∷ cs) = c

-- the header is that of the branches with them
pub said_by : (saved count : ℕ) (bs cs : List BranchFill) (ats : List BasketAt) → are_firsts count ats (flagged bs (open_list bs)) ≡ true → branches_put ats (open_list bs) bs ≡ cs → AreReady saved count bs cs
    → saved_branches count bs ats ≡ map (branch_in_header count) cs
said_by saved count [] [] ats firsts put are = refl
said_by saved count [] (c ∷ cs) ats firsts put are = absurd are
said_by saved count (b ∷ bs) [] ats firsts put are = absurd are
said_by saved count (b ∷ bs) (c ∷ cs) ats firsts put are = by (λ xs f p. said_by saved count bs cs xs f p are.1) (has_no_entries b) refl ats firsts put
  where
    early : (ds : List BasketAt) → ds ≡ c.baskets → ds ≡ (branch_in_header count c).baskets
    early ds same = same ∙ sym (early_all count c.baskets are.0.early)

    by : ((xs : List BasketAt) → are_firsts count xs (flagged bs (open_list bs)) ≡ true → branches_put xs (open_list bs) bs ≡ cs → saved_branches count bs xs ≡ map (branch_in_header count) cs)
        → (t : Bool) → has_no_entries b ≡ t → (xs : List BasketAt) → are_firsts count xs (flagged (b ∷ bs) (not t ∷ open_list bs)) ≡ true → branches_put xs (not t ∷ open_list bs) (b ∷ bs) ≡ c ∷ cs
        → saved_branches count (b ∷ bs) xs ≡ map (branch_in_header count) (c ∷ cs)
    by next true is xs f put =
        let one : b ≡ c = ap (λ (l : List BranchFill). first_of b l) put in
        let rest : branches_put xs (open_list bs) bs ≡ cs = ap (λ (l : List BranchFill). drop 1 l) put in
        let later = next xs f rest in
        let all = early (b.baskets ++ []) (append-nil b.baskets ∙ ap (λ (d : BranchFill). d.baskets) one) in
        rw is (λ i. record (branch_in_header count (one i)) { baskets = all i } ∷ later i)
    by next false is [] f put = absurd cc
    by next false is (at ∷ xs) f put =
        let two = and_parts (at.first == count_before count b) (are_firsts count xs (flagged bs (open_list bs))) f in
        let one : branch_put at b ≡ c = ap (λ (l : List BranchFill). first_of b l) put in
        let rest : branches_put xs (open_list bs) bs ≡ cs = ap (λ (l : List BranchFill). drop 1 l) put in
        let later = next xs two.1 rest in
        let all = early (b.baskets ++ at ∷ []) (ap (λ (d : BranchFill). d.baskets) one) in
        rw is (λ i. record (branch_in_header count (one i)) { baskets = all i } ∷ later i)

-- ---- the save

module _ (s : SessionState) (t : FilledTree) (h : KeyHead) (places : List ℕ) (can : CanPlanSave s t h places) where
  abbrev bs : List BranchFill
  bs = t.fill.branches

  abbrev fs : List Bool
  fs = open_list t.fill.branches

  abbrev count : ℕ
  count = entry_count t.fill

  abbrev put : BasketsPut
  put = put_now s t

  abbrev head : TreeHead
  head = head_now s t

  abbrev n : ℕ
  n = length (header_record 0 s.datime t.name (h.cycle + 1) (head_now s t))

  abbrev pub place : ℕ
  place = place_of (put_now s t).segments (length (header_record 0 s.datime t.name (h.cycle + 1) (head_now s t)))

  some : 4 ≤ n
  some = next_some s t can.sound h

  aligned : n % 4 ≡ 0
  aligned = next_aligned s t can.sound h

  placed : ArePlaced s.segments put
  placed = puts_placed s.datime t.name count s.segments bs fs can.form

  kept : ArePutsKept s.segments put
  kept = puts_kept s.datime t.name count s.segments bs fs can.form

  laid : AreSegments (with_segment place n put.segments) × (space_of (with_segment place n put.segments) ≡ laid_by n (space_of put.segments))
  laid = laid_put put.segments n kept.shape some aligned

  last_end : file_end (with_segment place n put.segments) ≤ 1999999996
  last_end =
      let own : file_end (with_segment place n put.segments) ≡ end_after (n ∷ []) (space_of put.segments) = ap (λ (sp : FreeSpace). sp.end) laid.1 in
      omega (arith, own, kept.end (n ∷ []), can.low)

  put_end : file_end put.segments ≤ 1999999996
  put_end = omega (arith, end_stays n put.segments, kept.end (n ∷ []), can.low)

  pub place_is_low : place < 2 ^ 32
  place_is_low = omega (arith, place_low put.segments place n kept.shape refl, put_end)

  places_now : places ≡ places_of put.lengths (space_of s.segments) ++ place ∷ []
  places_now = can.places_are ∙ placed.places (n ∷ [])

  pub places_low : All (λ (p : ℕ). p < 2 ^ 32) places
  places_low =
      let all = low_more (places_of put.lengths (space_of s.segments)) place (placed.low put_end) place_is_low in
      subst (All (λ (p : ℕ). p < 2 ^ 32)) (sym places_now) (All-from_recursion (λ (p : ℕ). p < 2 ^ 32) (places_of put.lengths (space_of s.segments) ++ place ∷ []) all)

  pub places_enough : (flags : List Bool) → flags ≡ open_list t.fill.branches → length (flagged t.fill.branches flags) ≤ length places
  places_enough flags is =
      let named = ap (λ (fs : List Bool). length (flagged bs fs)) is in
      let lengths = ap length (put_lengths t.name s.datime count bs fs s.segments) in
      omega (
        arith,
        named,
        lengths,
        flagged_long t.name (flagged bs fs),
        as_many_places put.lengths (space_of s.segments),
        ap length places_now,
        length-append (places_of put.lengths (space_of s.segments)) (place ∷ []),
      )

  -- the place of the header comes last
  pub last_place : (k : ℕ) → k ≡ length (put_now s t).lengths → slice_get places k ≡ Some place
  last_place k is =
      let long : k ≡ length (places_of put.lengths (space_of s.segments)) = is ∙ sym (as_many_places put.lengths (space_of s.segments)) in
      (λ i. slice_get (places_now i) (long i)) ∙ last_at (places_of put.lengths (space_of s.segments)) place

  -- ---- the baskets

  pub planned_now : (datime : ℕ) → s.datime ≡ datime → (flags : ℕ) → flags_for t.fill.branches flags ≡ open_list t.fill.branches → (steps : List Step) (ats : List BasketAt) → PlansBaskets datime t flags places steps ats
      → ArePlanned (entry_count t.fill) (put_now s t) s.segments t.fill.branches (open_list t.fill.branches) steps ats
  planned_now datime time flags is steps ats plans =
      let end : end_after put.lengths (space_of s.segments) ≡ file_end put.segments = ap (λ (l : List ℕ). end_after l (space_of s.segments)) (sym (append-nil put.lengths)) ∙ sym (kept.end []) in
      let asks = plans s.segments (place ∷ []) can.form in
      let own = subst
      (λ (x : ℕ × List Bool). places ≡ places_of (put_open x.0 t.name count s.segments bs x.1).lengths (space_of s.segments) ++ place ∷ []
      → end_after (put_open x.0 t.name count s.segments bs x.1).lengths (space_of s.segments) ≤ 1999999996
      → ArePlanned count (put_open x.0 t.name count s.segments bs x.1) s.segments bs x.1 steps ats) (λ i. (sym time i, is i)) asks in
      own places_now (omega (arith, end, put_end))

  module _ (steps : List Step) (ats : List BasketAt) (planned : ArePlanned (entry_count t.fill) (put_now s t) s.segments t.fill.branches (open_list t.fill.branches) steps ats) where
    pub are_fit : are_places (entry_count t.fill) t.fill.branches ats ≡ true
    are_fit = places_fit count bs ats planned.firsts

    pub said_is : saved_head t.fill ats ≡ head_now s t
    said_is =
        let all = said_by t.fill.saved count bs put.branches ats planned.firsts planned.branches_are (ready_now s t can.sound) in
        λ i. record { entries = count; branches = all i }

    -- ---- all of it

    module _ (q datime : ℕ) (said : TreeHead) (at : q ≡ place) (time : s.datime ≡ datime) (said_are : said ≡ head_now s t) (body : Room) (bytes_are : body.bytes ≡ header_record q datime t.name (h.cycle + 1) said)
        (spare : 4 ≤ body.spare) (whole : IsRecord q body.bytes) where
      bytes_now : body.bytes ≡ header_record place s.datime t.name (h.cycle + 1) head
      bytes_now = bytes_are ∙ (λ i. header_record (at i) (sym time i) t.name (h.cycle + 1) (said_are i))

      long_now : length body.bytes ≡ n
      long_now = ap length bytes_now ∙ header_long place s.datime t.name (h.cycle + 1) head ∙ sym (header_long 0 s.datime t.name (h.cycle + 1) head)

      segments_now : with_segment q (length body.bytes) put.segments ≡ with_segment place n put.segments
      segments_now = λ i. with_segment (at i) (long_now i) put.segments

      can_put : CanPut put.segments q body.bytes body.spare
      can_put = record {
        whole = whole;
        place_is = at ∙ ap (place_of put.segments) (sym long_now);
        low = subst (λ (ss : List Segment). file_end ss ≤ 1999999996) (sym segments_now) last_end;
        room = spare;
      }

      goes : HasRecordSegment (with_segment q (length body.bytes) put.segments) h.seek
      goes = record_stays q (length body.bytes) h.seek put.segments (placed.there h.seek can.there)

      abbrev two : List Step
      two = Put q body ∷ Release h.seek ∷ []

      runs : CanRun (steps ++ Put q body ∷ Release h.seek ∷ []) s.segments
      runs = run_both steps two s.segments planned.run (subst (CanRun two) (sym planned.segments_are) (can_put, ((goes, can.later), tt)))

      changed_now : changes_of (steps ++ Put q body ∷ Release h.seek ∷ []) ≡ (saving_now s t h).changes
      changed_now =
          let first = planned.changes in
          let bytes = bytes_now in
          map-append change_of steps two ∙ (λ i. first i ++ with_record (at i) (bytes i) ∷ without_record h.seek ∷ [])

      stepped_now : all_stepped (steps ++ Put q body ∷ Release h.seek ∷ []) s.segments ≡ (saving_now s t h).kept.segments
      stepped_now = stepped_both steps two s.segments ∙ ap (all_stepped two) planned.segments_are ∙ ap (without_segment h.seek) segments_now

      pub save_made : (made : SaveMade) → flags_for t.fill.branches made.flags ≡ open_list t.fill.branches → made.ats ≡ ats → made.head ≡ header_key q datime t.name (h.cycle + 1) said
          → made.steps.items ≡ (steps ++ Put q body ∷ []) ++ Release h.seek ∷ [] → IsSaveMade s t h made
      save_made made flags ats_are key steps_are =
          let all = steps_are ∙ append_assoc steps (Put q body ∷ []) (Release h.seek ∷ []) in
          record {
            flags = flags;
            steps_are = record {
              run = subst (λ (l : List Step). CanRun l s.segments) (sym all) runs;
              changes = ap changes_of all ∙ changed_now;
              segments_are = ap (λ (l : List Step). all_stepped l s.segments) all ∙ stepped_now;
            };
            branches = ap (λ (l : List BasketAt). branches_put l fs bs) ats_are ∙ planned.branches_are;
            firsts = ap (λ (l : List BasketAt). are_firsts count l (flagged bs fs)) ats_are ∙ planned.firsts;
            head_is = key ∙ (λ i. header_key (at i) (sym time i) t.name (h.cycle + 1) (said_are i));
          }
