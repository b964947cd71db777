-- Open baskets that are planned at the places of the rule: what their puts make of the records of a file.
use Rattle.std.proofs.Common.{◌≡◌, ℕ, suc, ◌+◌, ◌*◌, ◌%◌, ◌==◌, ◌||◌, ◌≤◌, ◌<◌, ◌^◌, pos, List, [], ◌∷◌, ◌++◌, codes, drop, get_or, length, slice_get, Bool, true, false, cond, Option, Some, None, Result, IfOk, refl, sym, ap, subst, ◌∙◌, arith}
use Rattle.std.proofs.lemmas.{Bool.{and_from, and_parts, eq-eqb, eqb-true}, Option.{none-some, same_Some}, Result.{IfOk-weaker}}
use Rattle.std.specs.{List.{All, AllByRecursion, list_all}, Option.{option_map}}
use Rattle.rio_num.specs.{Room.{Room}, Text.{text_bytes}}
use Rattle.rio_num.proofs.TextLengths.{short_text_bytes}
use Rattle.rio_key.specs.{OpenBasket.{OpenBasket, entries_length, have_one_length}, BasketRecord.{FitsBasketRecord, basket_key_length, basket_record}}
use Rattle.rio_key.proofs.WrittenBaskets.{are_basket_records, size}
use Rattle.rio_leaf.specs.{declared.branch.BranchDef.{BranchDef}, declared.branch.Shape.{Shape}}
use Rattle.rio_tree.specs.{Header.{has_offsets}, declared.basket_at.BasketAt.{BasketAt}}
use Rattle.rio_chain.specs.{Adjoining.{AreSegments}, Changes.{with_record}, Segments.{IsRecord}, declared.segment.Segment.{Segment}}
use Rattle.rio_chain.specs.Placing.{FreeSpace, end_after, file_end, laid, place_of, places_of, space_of, with_segment}
use Rattle.rio_chain.proofs.Laying.{end_grows, laid_put}
use Rattle.rio_state.specs.Closing.{padded_length}
use Rattle.rio_effect.specs.TreeRecords.{BasketWords, basket_at, basket_with_words, key_of_basket, length_of_basket, record_of_basket}
use Rattle.rio_fill.specs.{Fill.{BranchFill, basket_of, branch_put, count_before}, Prepare.{entry_size, is_sized}}
use Rattle.rio_session.specs.{Fillings.{BasketsPut, put_open, words_of_open}, Measures.{IsBoundedBranch, basket_size}}
use Rattle.rio_session.specs.Noted.{AreBasketSteps, ArePlanned, IsBasketStep, ats_of, flagged, lengths_of_flagged, open_length_of}
use Rattle.rio_session.specs.{Steps.{CanRun, all_stepped, changes_of}, declared.steps.Step.{Step, TheVariants.{Put, Release}}}
use Rattle.rio_session.proofs.{Measured.{length_is}, Summed.{all_at}}

-- ---- entries of lengths that they may have

one_length : (n : ℕ) (e : List ℕ) (es : List (List ℕ)) → length e ≡ n → list_all (λ x. length x == n) es ≡ true → list_all (λ x. length x == length e) es ≡ true
one_length n e es is all = ap (λ (m : ℕ). list_all (λ x. length x == m) es) is ∙ all

sized_alone : (shape : Shape) (es : List (List ℕ)) → has_offsets shape ≡ false → list_all (is_sized shape) es ≡ true → list_all (λ x. length x == entry_size shape) es ≡ true
sized_alone shape es none all = sym (ap (λ (t : Bool). list_all (λ x. t || (length x == entry_size shape)) es) none) ∙ all

even_entries : (shape : Shape) (es : List (List ℕ)) → list_all (is_sized shape) es ≡ true → has_offsets shape || have_one_length es ≡ true
even_entries shape es all = by (has_offsets shape) refl
  where
    alone : (xs : List (List ℕ)) → list_all (λ x. length x == entry_size shape) xs ≡ true → have_one_length xs ≡ true
    alone [] e = refl
    alone (x ∷ xs) e =
        let two = and_parts (length x == entry_size shape) (list_all (λ y. length y == entry_size shape) xs) e in
        one_length (entry_size shape) x xs (eqb-true (length x) (entry_size shape) two.0) two.1

    by : (t : Bool) → has_offsets shape ≡ t → has_offsets shape || have_one_length es ≡ true
    by true e = ap (λ (t : Bool). t || have_one_length es) e
    by false e = ap (λ (t : Bool). t || have_one_length es) e ∙ alone es (sized_alone shape es e all)

-- ---- lengths

-- they hang on no place and no time
pub put_lengths : (tree : List ℕ) (datime count : ℕ) (bs : List BranchFill) (fs : List Bool) (segments : List Segment) → (put_open datime tree count segments bs fs).lengths ≡ lengths_of_flagged tree (flagged bs fs)
put_lengths tree datime count [] fs segments = refl
put_lengths tree datime count (b ∷ bs) [] segments = refl
put_lengths tree datime count (b ∷ bs) (true ∷ fs) segments =
    let n = length_of_basket (words_of_open tree datime b) in
    ap (λ (l : List ℕ). n ∷ l) (put_lengths tree datime count bs fs (with_segment (place_of segments n) n segments))
put_lengths tree datime count (b ∷ bs) (false ∷ fs) segments = put_lengths tree datime count bs fs segments

-- ---- the record of an open basket

module _ (tree : List ℕ) (datime : ℕ) (short : length tree ≤ 100) (time : datime < 2 ^ 32) where
  module _ (b : BranchFill) (bounded : IsBoundedBranch b) where
    abbrev words : BasketWords
    words = words_of_open tree datime b

    pub key_low : basket_key_length tree b.def.name ≤ 255
    key_low =
        let class : length (text_bytes (codes "TBasket")) ≡ 8 = refl in
        omega (arith, class, short_text_bytes tree short, short_text_bytes b.def.name bounded.named)

    pub size_low : basket_size tree b.def (length b.entries) (entries_length b.entries) ≤ 16810247
    size_low = by (has_offsets b.def.shape)
      where
        by : (t : Bool) → basket_key_length tree b.def.name + cond t (entries_length b.entries + 4 * length b.entries + 8) (entries_length b.entries) ≤ 16810247
        by true = omega (arith, key_low, bounded.small.count, bounded.small.bytes)
        by false = omega (arith, key_low, bounded.small.count, bounded.small.bytes)

    pub length_low : length_of_basket words ≤ 16810250
    length_low =
        let n = basket_size tree b.def (length b.entries) (entries_length b.entries) in
        let more : padded_length n ≤ n + 3 = omega arith in
        omega (arith, length_is tree datime b, more, size_low)

    pub fits : (place : ℕ) → place < 2 ^ 32 → FitsBasketRecord place tree b.def.name datime (basket_with_words words)
    fits place low = record {
      place_fits = low;
      datime_fits = time;
      key_fits = omega (arith, key_low);
      count_fits = omega (arith, bounded.small.count);
      record_fits = omega (arith, length_low);
    }

    pub basket_long : (place : ℕ) → place < 2 ^ 32 → length (record_of_basket place words) ≡ length_of_basket words
    basket_long place low = size place tree b.def.name datime (basket_with_words words) (fits place low)

    pub basket_whole : (place : ℕ) → place < 2 ^ 32 → IsRecord place (record_of_basket place words)
    basket_whole place low =
        let is = are_basket_records place tree b.def.name datime (basket_with_words words) (fits place low) (even_entries b.def.shape b.entries bounded.sized) in
        record {
          head = key_of_basket place words;
          key = is.key;
          small = omega arith;
          seek = refl;
          nbytes = ap pos (sym is.size);
          parts = sym is.size;
          aligned = is.aligned;
        }

    pub length_aligned : length_of_basket words % 4 ≡ 0
    length_aligned = let n = basket_size tree b.def (length b.entries) (entries_length b.entries) in let e : padded_length n % 4 ≡ 0 = omega arith in ap (λ (k : ℕ). k % 4) (length_is tree datime b) ∙ e

    pub length_some : 4 ≤ length_of_basket words
    length_some = let least : 26 ≤ basket_key_length tree b.def.name = omega arith in omega (arith, least)

  -- ---- all that are planned

  module _ (count : ℕ) where
    -- a basket in front of others
    module _ (b : BranchFill) (bs : List BranchFill) (fs : List Bool) (segments : List Segment) (bounded : IsBoundedBranch b) where
      abbrev n : ℕ
      n = length_of_basket (words_of_open tree datime b)

      abbrev place : ℕ
      place = place_of segments n

      abbrev then : List Segment
      then = with_segment place n segments

      abbrev rest : BasketsPut
      rest = put_open datime tree count then bs fs

      put_first : (q : ℕ) (step : Step) (steps : List Step) (ats : List BasketAt) → q ≡ place → q < 2 ^ 32 → file_end then ≤ 1999999996 → IsBasketStep datime tree b q step → ArePlanned count rest then bs fs steps ats
          → ArePlanned count (put_open datime tree count segments (b ∷ bs) (true ∷ fs)) segments (b ∷ bs) (true ∷ fs) (step ∷ steps) (basket_at q (count_before count b) (words_of_open tree datime b) ∷ ats)
      put_first q (Release at) steps ats here low end is planned = absurd is
      put_first q (Put at body) steps ats here low end is planned =
          let w = words_of_open tree datime b in
          let at_is : at ≡ place = is.0 ∙ here in
          let bytes_are : body.bytes ≡ record_of_basket place w = is.1 ∙ ap (λ (p : ℕ). record_of_basket p w) here in
          let low_place : place < 2 ^ 32 = subst (λ (p : ℕ). p < 2 ^ 32) here low in
          let long : length body.bytes ≡ n = ap length bytes_are ∙ basket_long b bounded place low_place in
          let then_is : with_segment at (length body.bytes) segments ≡ then = λ i. with_segment (at_is i) (long i) segments in
          record {
            run = (
              record {
                whole = subst (λ (x : ℕ × List ℕ). IsRecord x.0 x.1) (λ i. (sym at_is i, sym bytes_are i)) (basket_whole b bounded place low_place);
                place_is = at_is ∙ ap (place_of segments) (sym long);
                low = subst (λ (ss : List Segment). file_end ss ≤ 1999999996) (sym then_is) end;
                room = is.2;
              },
              subst (CanRun steps) (sym then_is) planned.run,
            );
            changes = λ i. with_record (at_is i) (bytes_are i) ∷ planned.changes i;
            segments_are = ap (all_stepped steps) then_is ∙ planned.segments_are;
            branches_are = λ i. branch_put (basket_at (here i) (count_before count b) w) b ∷ planned.branches_are i;
            long = ap suc planned.long;
            firsts = and_from _ _ (eq-eqb (count_before count b) (count_before count b) refl) planned.firsts;
          }

    pub are_planned : (bs : List BranchFill) (fs : List Bool) (segments : List Segment) (places more : List ℕ) (steps : List Step)
        → AllByRecursion IsBoundedBranch bs → AllByRecursion (λ p. p < 2 ^ 32) places → AreSegments segments
        → places ≡ places_of (put_open datime tree count segments bs fs).lengths (space_of segments) ++ more
        → end_after (put_open datime tree count segments bs fs).lengths (space_of segments) ≤ 1999999996
        → AreBasketSteps datime tree (flagged bs fs) places steps
        → ArePlanned count (put_open datime tree count segments bs fs) segments bs fs steps (ats_of datime tree count places (flagged bs fs))
    are_planned [] fs segments places more steps bounded low shape are end is =
        record { run = subst (λ (ss : List Step). CanRun ss segments) (sym is) tt; changes = ap changes_of is; segments_are = ap (λ (ss : List Step). all_stepped ss segments) is; branches_are = refl; long = refl; firsts = refl }
    are_planned (b ∷ bs) [] segments places more steps bounded low shape are end is =
        record { run = subst (λ (ss : List Step). CanRun ss segments) (sym is) tt; changes = ap changes_of is; segments_are = ap (λ (ss : List Step). all_stepped ss segments) is; branches_are = refl; long = refl; firsts = refl }
    are_planned (b ∷ bs) (false ∷ fs) segments places more steps bounded low shape are end is =
        let rest = are_planned bs fs segments places more steps bounded.1 low shape are end is in
        record { run = rest.run; changes = rest.changes; segments_are = rest.segments_are; branches_are = ap (λ (cs : List BranchFill). b ∷ cs) rest.branches_are; long = rest.long; firsts = rest.firsts }
    are_planned (b ∷ bs) (true ∷ fs) segments [] more steps bounded low shape are end is = absurd is
    are_planned (b ∷ bs) (true ∷ fs) segments (q ∷ qs) more [] bounded low shape are end is = absurd is
    are_planned (b ∷ bs) (true ∷ fs) segments (q ∷ qs) more (step ∷ steps) bounded low shape are end is =
        let n = length_of_basket (words_of_open tree datime b) in
        let place = place_of segments n in
        let then = with_segment place n segments in
        let put = laid_put segments n shape (length_some b bounded.0) (length_aligned b bounded.0) in
        let lengths = (put_open datime tree count then bs fs).lengths in
        let q_is : q ≡ place = ap (λ (l : List ℕ). get_or l 0 q) are in
        let rest_are : qs ≡ places_of lengths (laid n (space_of segments)) ++ more = ap (drop 1) are in
        let qs_are : qs ≡ places_of lengths (space_of then) ++ more = rest_are ∙ ap (λ (s : FreeSpace). places_of lengths s ++ more) (sym put.1) in
        let later : end_after lengths (space_of then) ≤ 1999999996 = subst (λ (s : FreeSpace). end_after lengths s ≤ 1999999996) (sym put.1) end in
        let here : file_end then ≤ 1999999996 = omega (arith, end_grows lengths (space_of then), later) in
        put_first b bs fs segments bounded.0 q step steps (ats_of datime tree count qs (flagged bs fs)) q_is low.0 here is.0
        (are_planned bs fs then qs more steps bounded.1 low.1 put.0 qs_are later is.1)

-- what a record that is made for an open basket is
pub record IsOpenRecord (tree : List ℕ) (datime : ℕ) (place : ℕ) (b : BranchFill) (bytes : List ℕ) : Type 0 where
  pub exact : bytes ≡ record_of_basket place (words_of_open tree datime b)
  pub long : length bytes ≡ open_length_of tree b
  pub short_bytes : length bytes < 2 ^ 26

pub open_record_is : (tree : List ℕ) (datime : ℕ) → length tree ≤ 100 → datime < 2 ^ 32 → (b : BranchFill) → IsBoundedBranch b → (place : ℕ) → place < 2 ^ 32 → (bytes : List ℕ) → bytes ≡ record_of_basket place (words_of_open tree datime b) → IsOpenRecord tree datime place b bytes
open_record_is tree datime short time b bounded place low bytes is =
    let long : length bytes ≡ length_of_basket (words_of_open tree datime b) = ap length is ∙ basket_long tree datime short time b bounded place low in
    record { exact = is; long = long; short_bytes = omega (arith, long, length_low tree datime short time b bounded) }

-- the basket as it is kept, with its room, has the same record
pub same_record : (tree : List ℕ) (datime place : ℕ) (b : BranchFill) → basket_record place tree b.def.name datime (basket_of b) ≡ record_of_basket place (words_of_open tree datime b)
unfolding basket_record
same_record tree datime at b = refl

pub kept_fits : (tree : List ℕ) (datime : ℕ) → length tree ≤ 100 → datime < 2 ^ 32 → (b : BranchFill) → IsBoundedBranch b → (place : ℕ) → place < 2 ^ 32 → FitsBasketRecord place tree b.def.name datime (basket_of b)
kept_fits tree datime short time b bounded place low =
    let f = fits tree datime short time b bounded place low in
    record { place_fits = f.place_fits; datime_fits = f.datime_fits; key_fits = f.key_fits; count_fits = f.count_fits; record_fits = f.record_fits }

-- ---- a branch of which definition and open basket are read

read_branch : (bs : List BranchFill) (k : ℕ) (basket : OpenBasket) → Some basket ≡ option_map basket_of (slice_get bs k) → (b : BranchFill) × (slice_get bs k ≡ Some b)
read_branch bs k basket is = by (slice_get bs k) refl
  where
    by : (o : Option BranchFill) → slice_get bs k ≡ o → (b : BranchFill) × (slice_get bs k ≡ Some b)
    by None none = absurd (none-some basket (ap (option_map basket_of) (sym none) ∙ sym is))
    by (Some b) some = (b, some)

module _ (bs : List BranchFill) (k : ℕ) (def : BranchDef) (def_is : Some def ≡ option_map (λ (x : BranchFill). x.def) (slice_get bs k))
    (basket : OpenBasket) (basket_is : Some basket ≡ option_map basket_of (slice_get bs k)) where
  module _ (b : BranchFill) (here : slice_get bs k ≡ Some b) where
    def_read : def ≡ b.def
    def_read = same_Some def b.def (def_is ∙ ap (option_map (λ (x : BranchFill). x.def)) here)

    basket_read : basket ≡ basket_of b
    basket_read = same_Some basket (basket_of b) (basket_is ∙ ap (option_map basket_of) here)

    pub open_length_is : (name : List ℕ) (count bytes size n : ℕ) → count ≡ length basket.entries → bytes ≡ entries_length basket.entries → size ≡ basket_size name def count bytes → n ≡ padded_length size → n ≡ open_length_of name b
    open_length_is name count bytes whole n count_is bytes_is size_is n_is =
        let d = def_read in
        let c : count ≡ length b.entries = count_is ∙ ap (λ (x : OpenBasket). length x.entries) basket_read in
        let e : bytes ≡ entries_length b.entries = bytes_is ∙ ap (λ (x : OpenBasket). entries_length x.entries) basket_read in
        n_is ∙ ap padded_length (size_is ∙ (λ i. basket_size name (d i) (c i) (e i))) ∙ sym (length_is name 0 b)

  module _ (name : List ℕ) (datime place : ℕ) (short : length name ≤ 100) (time : datime < 2 ^ 32) (low : place < 2 ^ 32) (each : All IsBoundedBranch bs)
      (tree branch : List ℕ) (tree_is : tree ≡ name) (branch_is : branch ≡ def.name) where
    branch_read : (b : BranchFill) → slice_get bs k ≡ Some b → branch ≡ b.def.name
    branch_read b here = branch_is ∙ ap (λ (d : BranchDef). d.name) (def_read b here)

    alike : (b : BranchFill) → slice_get bs k ≡ Some b → basket_record place tree branch datime basket ≡ record_of_basket place (words_of_open name datime b)
    alike b here =
        let is = branch_read b here in
        let o = basket_read b here in
        (λ i. basket_record place (tree_is i) (is i) datime (o i)) ∙ same_record name datime place b

    pub record_fits : FitsBasketRecord place tree branch datime basket
    record_fits =
        let b = read_branch bs k basket basket_is in
        let is = sym (branch_read b.0 b.1) in
        let o = sym (basket_read b.0 b.1) in
        let n = sym tree_is in
        subst (λ (x : List ℕ × List ℕ × OpenBasket). FitsBasketRecord place x.0 x.1 datime x.2) (λ i. (n i, is i, o i)) (kept_fits name datime short time b.0 (all_at IsBoundedBranch bs each k b.0 b.1) place low)

    made_open : (b : BranchFill) → slice_get bs k ≡ Some b → (bytes : List ℕ) → bytes ≡ basket_record place tree branch datime basket → IsOpenRecord name datime place b bytes
    made_open b here bytes is = open_record_is name datime short time b (all_at IsBoundedBranch bs each k b here) place low bytes (is ∙ alike b here)

    module _ {E : Type 0} (r : Result Room E) (made_is : IfOk r (λ made. made.bytes ≡ basket_record place tree branch datime basket)) where
      pub record_exact : (b : BranchFill) → slice_get bs k ≡ Some b → IfOk r (λ made. made.bytes ≡ record_of_basket place (words_of_open name datime b))
      record_exact b here = IfOk-weaker r _ _ (λ (m : Room) is. (made_open b here m.bytes is).exact) made_is

      pub record_long : (b : BranchFill) → slice_get bs k ≡ Some b → IfOk r (λ made. length made.bytes ≡ open_length_of name b)
      record_long b here = IfOk-weaker r _ _ (λ (m : Room) is. (made_open b here m.bytes is).long) made_is

      pub record_short : IfOk r (λ made. length made.bytes < 2 ^ 26)
      record_short = let b = read_branch bs k basket basket_is in IfOk-weaker r _ _ (λ (m : Room) is. (made_open b.0 b.1 m.bytes is).short_bytes) made_is
