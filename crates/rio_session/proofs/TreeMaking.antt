-- The records of a new tree: where they are put, and what putting them makes of the segments.
use Rattle.std.proofs.Common.{◌≡◌, ◌∙◌, ℕ, ◌+◌, ◌%◌, ◌<◌, ◌≤◌, ◌^◌, List, [], ◌∷◌, ◌++◌, length, false, Option, Some, None, refl, sym, ap, subst, arith}
use Rattle.std.proofs.lemmas.List.{length-append, map-append}
use Rattle.std.specs.{Prelude.{slice_get, unwrap_or}, Option.{option_or}}
use Rattle.rio_free.specs.Gaps.{best_place}
use Rattle.rio_leaf.specs.declared.branch.BranchDef.{BranchDef}
use Rattle.rio_key.specs.declared.head.KeyHead.{KeyHead}
use Rattle.rio_num.specs.Room.{Room}
use Rattle.rio_format.specs.{declared.class.ClassDef.{ClassDef}, Descriptions.{description_classes}, TreeClasses.{written_classes}, WrittenBytes.{length_limit, written_list}, WrittenList.{class_list_value}}
use Rattle.rio_chain.specs.{Adjoining.{AreSegments}, Changes.{with_record}, Placing.{FreeSpace, end_after, file_end, laid, place_of, places_of, space_of, with_segment}, Segments.{IsRecord}, declared.record.NewRecord.{NewRecord}, declared.segment.Segment.{Segment}}
use Rattle.rio_chain.proofs.{Laying.{end_grows, laid_put}, Words.{whole_long}}
use Rattle.rio_close.proofs.Fitting.{padded_aligned, place_low}
use Rattle.rio_tree.proofs.WrittenLengths.{written_length}
use Rattle.rio_tree.specs.declared.head.TreeHead.{TreeHead}
use Rattle.rio_tree_table.specs.declared.table.KeptTree.{KeptTree}
use Rattle.rio_model.specs.StateClasses.{StateClasses}
use Rattle.rio_machine.specs.{State.{State, empty_state}}
use Rattle.rio_judge.specs.declared.work.NewTree.{NewTree}
use Rattle.rio_fill.specs.Fill.{fill_of}
use Rattle.rio_state.specs.{Closing.{end_limit, is_full}, Sizes.{close_size}}
use Rattle.rio_step.specs.Costs.{info_size}
use Rattle.rio_effect.specs.{ClassRecord.{list_key, list_key_size, list_record, next_list_cycle}, HeaderRecords.{HeadersHaveRecords}, TreeRecords.{header_key, header_record}}
use Rattle.rio_session.specs.{Doable.{IsNewTree}, Due.{IsClosableWith, need_with}, Fillings.{Done, both_done, heading, listing_if_none}, Fills.{kept_tree_of, places_of_trees}, Lists.{CanBeListedAt, IsListRecord}}
use Rattle.rio_session.specs.{SessionState.{SessionState}, Steps.{CanRun, CanStep, all_stepped, change_of, changes_of, stepped}, TreePlans.{CanListFirst, IsListMade, IsTreeMade, head_now, header_place, listing_now, making_now, need_of_tree}}
use Rattle.rio_session.specs.declared.{steps.Step.{Step, TheVariants.{Put}}, tree.ListMade.{ListMade}, tree.TreeMade.{TreeMade}}
use Rattle.rio_session.proofs.{EmptyList.{state_short}, FillSums.{need_by_due}, PlanRoom.{plan_room_is}, SaveEffects.{header_at}, TreeKept.{segments_are}, TreeLengths.{list_size, new_written}}

-- ---- one step more

pub run_more : (steps : List Step) (step : Step) (segments : List Segment) → CanRun steps segments → CanStep (all_stepped steps segments) step → CanRun (steps ++ step ∷ []) segments
run_more [] step segments run can = (can, tt)
run_more (x ∷ steps) step segments run can = (run.0, run_more steps step (stepped x segments) run.1 can)

pub stepped_more : (steps : List Step) (step : Step) (segments : List Segment) → all_stepped (steps ++ step ∷ []) segments ≡ stepped step (all_stepped steps segments)
stepped_more [] step segments = refl
stepped_more (x ∷ steps) step segments = stepped_more steps step (stepped x segments)

-- ---- the class list

-- a list is as long wherever it begins
pub list_info : (classes : List ClassDef) (start : ℕ) → length (written_list start classes) ≡ info_size classes
list_info classes start = written_length description_classes start 0 (class_list_value (written_classes classes))

pub short_info : (classes : List ClassDef) → StateClasses classes → (start : ℕ) → length (written_list start classes) ≤ length_limit
short_info classes are start =
    let short = state_short classes are in
    omega (arith, list_info classes start, short)

module _ (s : SessionState) (are : StateClasses s.classes) (soon : s.datime < 2 ^ 32) where
  abbrev m : State
  m = record empty_state { classes = s.classes }

  abbrev n1 : ℕ
  n1 = length (list_record 0 s.datime 1 s.classes)

  key_long : list_key_size ≡ 64
  key_long = refl

  list_some : 4 ≤ length (list_record 0 s.datime 1 s.classes)
  list_some = omega (arith, list_size s.datime s.classes soon are, key_long)

  list_aligned : length (list_record 0 s.datime 1 s.classes) % 4 ≡ 0
  list_aligned = ap (λ (n : ℕ). n % 4) (list_size s.datime s.classes soon are) ∙ padded_aligned (list_key_size + info_size s.classes)

  -- ---- where there is none

  pub nothing_listed : (h : KeyHead) → s.info ≡ Some h → (made : ListMade) → made.steps.items ≡ [] → made.list ≡ None → made.count ≡ 0 → IsListMade s made
  nothing_listed h some made none unlisted counted = by s.info some
    where
      by : (o : Option KeyHead) → o ≡ Some h → IsListMade (record s { info = o }) made
      by None is = absurd cc
      by (Some k) is = record {
        run = subst (λ (l : List Step). CanRun l s.segments) (sym none) tt;
        changes = ap changes_of none;
        segments_are = ap (λ (l : List Step). all_stepped l s.segments) none;
        list = ap (λ (x : Option KeyHead). option_or x (Some k)) unlisted;
        many = ap length none;
        count = counted;
      }

  module _ (place : ℕ) (r : NewRecord) (at : CanBeListedAt s place) (is : IsListRecord s place r) where
    place_is : place ≡ place_of s.segments (length (list_record 0 s.datime 1 s.classes))
    place_is = at.place_is ∙ ap (place_of s.segments) (sym (list_size s.datime s.classes soon are))

    long_is : length r.bytes.bytes ≡ length (list_record 0 s.datime 1 s.classes)
    long_is = is.long ∙ sym (list_size s.datime s.classes soon are)

    pub first_listed : s.info ≡ None → (made : ListMade) → made.steps.items ≡ Put place r.bytes ∷ [] → made.list ≡ Some r.head → made.count ≡ 1 → IsListMade s made
    first_listed none made steps listed counted = by s.info none
      where
        first : next_list_cycle s.info ≡ 1
        first = ap next_list_cycle none

        low : file_end (with_segment place (length r.bytes.bytes) s.segments) ≤ 1999999996
        low = subst (λ (n : ℕ). file_end (with_segment place n s.segments) ≤ 1999999996) (sym is.long) (omega (arith, at.room))

        bytes_are : r.bytes.bytes ≡ list_record (place_of s.segments n1) s.datime 1 s.classes
        bytes_are = is.bytes ∙ (λ i. list_record (place_is i) s.datime (first i) s.classes)

        head_is : r.head ≡ list_key (place_of s.segments n1) s.datime 1 s.classes
        head_is = is.head ∙ (λ i. list_key (place_is i) s.datime (first i) s.classes)

        by : (o : Option KeyHead) → o ≡ None → IsListMade (record s { info = o }) made
        by (Some h) none = absurd cc
        by None none = record {
          run = subst (λ (l : List Step). CanRun l s.segments) (sym steps) (record { whole = is.whole; place_is = place_is ∙ ap (place_of s.segments) (sym long_is); low = low; room = is.spare }, tt);
          changes = ap changes_of steps ∙ (λ i. with_record (place_is i) (bytes_are i) ∷ []);
          segments_are = ap (λ (l : List Step). all_stepped l s.segments) steps ∙ (λ i. with_segment (place_is i) (long_is i) s.segments);
          list = ap (λ (x : Option KeyHead). option_or x None) listed ∙ (λ i. Some (head_is i));
          many = ap length steps;
          count = counted;
        }

  -- ---- the header

  module _ (headers : HeadersHaveRecords) (new : NewTree) (own : IsNewTree s new) (form : AreSegments s.segments) where
    abbrev name : List ℕ
    name = new.name

    abbrev branches : List BranchDef
    branches = new.branches

    abbrev head : TreeHead
    head = head_now s new.branches

    abbrev n2 : ℕ
    n2 = length (header_record 0 s.datime new.name 1 (head_now s new.branches))

    header_some : 4 ≤ length (header_record 0 s.datime new.name 1 (head_now s new.branches))
    header_some = whole_long 0 (header_record 0 s.datime new.name 1 head) (new_written headers s are soon new own).whole

    header_aligned : length (header_record 0 s.datime new.name 1 (head_now s new.branches)) % 4 ≡ 0
    header_aligned = (new_written headers s are soon new own).whole.aligned

    abbrev making_by : Option KeyHead → Done
    making_by o = both_done (listing_if_none s m o) (heading (listing_if_none s m o).kept new.name (head_now s new.branches))

    end_by : (o : Option KeyHead) → file_end (making_by o).kept.segments ≡ end_after (making_by o).lengths (space_of s.segments)
    end_by None =
        let one = laid_put s.segments n1 form list_some list_aligned in
        let two = laid_put (with_segment (place_of s.segments n1) n1 s.segments) n2 one.0 header_some header_aligned in
        ap (λ (x : FreeSpace). x.end) (two.1 ∙ ap (laid n2) one.1)
    end_by (Some h) = ap (λ (x : FreeSpace). x.end) (laid_put s.segments n2 form header_some header_aligned).1

    -- END is where the records end that are laid one after the other
    pub making_end : file_end (making_now s new.name new.branches).kept.segments ≡ end_after (making_now s new.name new.branches).lengths (space_of s.segments)
    making_end = end_by s.info

    there_by : (o : Option KeyHead) → slice_get (places_of (making_by o).lengths (space_of s.segments)) (length (listing_if_none s m o).lengths) ≡ Some (place_of (listing_if_none s m o).kept.segments n2)
    there_by None =
        let one = laid_put s.segments n1 form list_some list_aligned in
        ap (λ (x : FreeSpace). let o : Option ℕ = Some (unwrap_or (best_place n2 x.gaps) x.end) in o) (sym one.1)
    there_by (Some h) = refl

    changes_by : (o : Option KeyHead) → (making_by o).changes
        ≡ (listing_if_none s m o).changes ++ with_record (place_of (listing_if_none s m o).kept.segments n2) (header_record (place_of (listing_if_none s m o).kept.segments n2) s.datime new.name 1 (head_now s new.branches)) ∷ []
    changes_by None = refl
    changes_by (Some h) = refl

    below_by : (o : Option KeyHead) → place_of (listing_if_none s m o).kept.segments n2 ≤ end_after (making_by o).lengths (space_of s.segments)
    below_by None =
        let one = laid_put s.segments n1 form list_some list_aligned in
        let first = with_segment (place_of s.segments n1) n1 s.segments in
        let end : file_end first ≡ end_after (n1 ∷ []) (space_of s.segments) = ap (λ (x : FreeSpace). x.end) one.1 in
        omega (arith, place_low first (place_of first n2) n2 one.0 refl, end, end_grows (n2 ∷ []) (laid n1 (space_of s.segments)))
    below_by (Some h) = omega (arith, place_low s.segments (place_of s.segments n2) n2 form refl, end_grows (n2 ∷ []) (space_of s.segments))

    few_by : (o : Option KeyHead) → length (listing_if_none s m o).lengths ≤ 1
    few_by None = omega arith
    few_by (Some h) = omega arith

    -- ---- the places

    module _ (places : List ℕ) (places_are : places ≡ places_of (making_now s new.name new.branches).lengths (space_of s.segments))
        (room : is_full s.segments (making_now s new.name new.branches).lengths (need_of_tree s new.name (length (making_now s new.name new.branches).lengths)) ≡ false) where
      fits : end_after (making_now s new.name new.branches).lengths (space_of s.segments) + need_of_tree s new.name (length (making_now s new.name new.branches).lengths) ≤ end_limit
      fits = plan_room_is s.segments (making_now s new.name new.branches).lengths (need_of_tree s new.name (length (making_now s new.name new.branches).lengths)) room

      pub header_there : slice_get places (length (listing_now s).lengths) ≡ Some (header_place s new.name new.branches)
      header_there = ap (λ (l : List ℕ). slice_get l (length (listing_now s).lengths)) places_are ∙ there_by s.info

      pub header_low : header_place s new.name new.branches < 2 ^ 32
      header_low = omega (arith, below_by s.info, fits)

      -- ---- the class list is put first

      module _ (kept : IsClosableWith s.segments s.heads s.trees s.info s.name) where
        first_there : (o : Option KeyHead) → o ≡ None → slice_get (places_of (making_by o).lengths (space_of s.segments)) 0 ≡ Some (place_of s.segments n1)
        first_there None none = refl
        first_there (Some h) none = absurd cc

        first_end : (o : Option KeyHead) → o ≡ None → end_after (n1 ∷ []) (space_of s.segments) ≤ end_after (making_by o).lengths (space_of s.segments)
        first_end None none = end_grows (n2 ∷ []) (laid n1 (space_of s.segments))
        first_end (Some h) none = absurd cc

        two_lengths : (o : Option KeyHead) → o ≡ None → length (making_by o).lengths ≡ 2
        two_lengths None none = refl
        two_lengths (Some h) none = absurd cc

        need_less : s.info ≡ None → need_with s.name s.heads (2 + length s.heads + length (places_of_trees s.trees)) s.trees ≤ need_of_tree s new.name (length (making_now s new.name new.branches).lengths)
        unfolding close_size
        need_less none =
            let many = two_lengths s.info none in
            omega (arith, need_by_due s.name s.heads (2 + length s.heads + length (places_of_trees s.trees)) s.trees, many, kept.closable.count)

        pub can_list_first : CanListFirst s places
        can_list_first none =
            let at = place_of s.segments n1 in
            let size = list_size s.datime s.classes soon are in
            let one = laid_put s.segments n1 form list_some list_aligned in
            let end : file_end (with_segment at n1 s.segments) ≡ end_after (n1 ∷ []) (space_of s.segments) = ap (λ (x : FreeSpace). x.end) one.1 in
            let first = ap next_list_cycle none in
            let room_left : file_end (with_segment at n1 s.segments) + need_with s.name s.heads (2 + length s.heads + length (places_of_trees s.trees)) s.trees ≤ end_limit =
            omega (arith, end, first_end s.info none, fits, need_less none) in (
              at,
              ap (λ (l : List ℕ). slice_get l 0) places_are ∙ first_there s.info none,
              record {
                place_is = ap (place_of s.segments) size;
                low = omega (arith, place_low s.segments at n1 form refl, kept.closable.room);
                short = short_info s.classes are;
                cycle = omega (arith, first);
                room = subst (λ (n : ℕ). file_end (with_segment at n s.segments) + need_with s.name s.heads (2 + length s.heads + length (places_of_trees s.trees)) s.trees ≤ end_limit) size room_left;
              },
            )

      -- ---- and then the header

      module _ (listed : ListMade) (first : IsListMade s listed) (place : ℕ) (place_is : place ≡ header_place s new.name new.branches) (body : Room) (bytes_are : body.bytes ≡ header_record place s.datime new.name 1 (head_now s new.branches))
          (spare : 4 ≤ body.spare) (whole : IsRecord place body.bytes) where
        long : length body.bytes ≡ n2
        long = ap length bytes_are ∙ header_at place s.datime name 1 head

        segments_then : with_segment place (length body.bytes) (all_stepped listed.steps.items s.segments) ≡ (making_now s new.name new.branches).kept.segments
        segments_then = (λ i. with_segment (place_is i) (long i) (first.segments_are i)) ∙ sym (segments_are s name branches)

        end_then : file_end (with_segment place (length body.bytes) (all_stepped listed.steps.items s.segments)) + need_of_tree s new.name (length (making_now s new.name new.branches).lengths) ≤ end_limit
        end_then = omega (arith, ap file_end segments_then, making_end, fits)

        can_put : CanStep (all_stepped listed.steps.items s.segments) (Put place body)
        can_put = record {
          whole = whole;
          place_is = place_is ∙ (λ i. place_of (sym first.segments_are i) (sym long i));
          low = omega (arith, end_then);
          room = spare;
        }

        pub tree_made : (made : TreeMade) → made.steps.items ≡ listed.steps.items ++ Put place body ∷ [] → made.list ≡ listed.list → made.head ≡ header_key place s.datime new.name 1 (head_now s new.branches)
            → made.tree ≡ record { name = new.name; fill = fill_of (head_now s new.branches) } → made.kept ≡ kept_tree_of made.tree → IsTreeMade s new.name new.branches made
        tree_made made steps list head_is tree kept =
            let change : with_record place body.bytes ≡ with_record (header_place s name branches) (header_record (header_place s name branches) s.datime name 1 head) =
            λ i. with_record (place_is i) ((bytes_are ∙ ap (λ (p : ℕ). header_record p s.datime name 1 head) place_is) i) in
            let stepped_is : all_stepped made.steps.items s.segments ≡ with_segment place (length body.bytes) (all_stepped listed.steps.items s.segments) =
            ap (λ (l : List Step). all_stepped l s.segments) steps ∙ stepped_more listed.steps.items (Put place body) s.segments in
            record {
              run = subst (λ (l : List Step). CanRun l s.segments) (sym steps) (run_more listed.steps.items (Put place body) s.segments first.run can_put);
              few = omega (arith, ap length steps, length-append listed.steps.items (Put place body ∷ []), first.many, few_by s.info);
              changes = ap changes_of steps ∙ map-append change_of listed.steps.items (Put place body ∷ []) ∙ (λ i. first.changes i ++ change i ∷ []) ∙ sym (changes_by s.info);
              segments_are = stepped_is ∙ segments_then;
              list = ap (λ (o : Option KeyHead). option_or o s.info) list ∙ first.list;
              head = head_is ∙ ap (λ (p : ℕ). header_key p s.datime name 1 head) place_is;
              tree = tree;
              kept = kept;
              room = room;
              fits = omega (arith, ap file_end stepped_is, end_then);
            }
