-- The baskets that a fill and a save put, one after the other.
use Rattle.std.proofs.Common.{◌≡◌, ◌≢◌, ◌⊎◌, inl, inr, ⊎_elim, ℕ, zero, suc, ◌+◌, ◌-◌, ◌≤◌, ◌∙◌, List, [], ◌∷◌, length, map, take, sum, Bool, true, false, not, ◌||◌, ◌==◌, Option, Some, None, refl, sym, ap, subst, arith}
use Rattle.std.proofs.lemmas.{Bool.{and_from, and_left, eq-eqb, eqb-true, ne_eqb, or_from}, List.Sums.{sum_by-cons}}
use Rattle.std.specs.Prelude.{is_some}
use Rattle.rio_leaf.specs.declared.branch.BranchDef.{BranchDef}
use Rattle.rio_key.specs.declared.head.KeyHead.{KeyHead}
use Rattle.rio_chain.specs.{Changes.{with_record}, Placing.{IsPlaceFor, place_of}, Segments.{GapAt, IsChain, Link, RecordAt, segment_of}}
use Rattle.rio_machine.specs.State.{State}
use Rattle.rio_tree.specs.declared.basket_at.BasketAt.{BasketAt}
use Rattle.rio_state.specs.{Closing.{held_with}, Contents.{file_classes}, OneMore.{HasOneMoreIn, keyed_bytes}, Reads.{AreRecordsOf, info_place}, TreeLengths.{PendingRows}}
use Rattle.rio_state.specs.KeyedRecords.{KeyedRecord, begins_at, first_place, info_key, is_internal, is_top_key, is_tree_key, is_tree_record, keyed_records, record_at, top_keys, tree_records}
use Rattle.rio_state.specs.{Referred.{is_item_record, is_named_basket, is_referred}, Trees.{RecordsAt, all_places_named, are_named_once, basket_bytes, is_named_place, places_named}}
use Rattle.rio_state.proofs.{KeysFollow.{in_new, in_still}, LessRecords.{own_record, with_own}, Members.{In, contains_in, in_contained, in_map, map_in, none_at, none_from}}
use Rattle.rio_state.proofs.{MoreRecords.{first_stays, record_more}, Places.{basket_there, flat_map_in, info_among}, Stays.{info_same, internal_stays, keys_stay, need_stays, not_info, not_top, tops_same}, TreeGone.{once_fewer}, TreesSame.{none_there, place_same}}
use Rattle.rio_effect.specs.Changes.{all_changed, basket_added, basket_place, changed, lengths_of}
use Rattle.rio_effect.specs.Garbage.{ArePassed, IsGarbageAt, StandsAlike}
use Rattle.rio_effect.specs.BasketRuns.{AreBasketsPut, ArePlaced, BasketIsPut, BasketsArePut, BasketsKeepAll, CanAllBePut, IsBasketPut, LeavesBaskets, places_put}
use Rattle.rio_effect.specs.{PutBaskets.{CanBePut}, SavedRows.{HoldsEntries}, TreeChanges.{basket_changes, baskets_placed}}
use Rattle.rio_effect.specs.TreeRecords.{BasketWords, basket_at, key_of_basket, length_of_basket, record_of_basket, words_of_basket}
use Rattle.rio_effect.proofs.{AllItems.{items_stay_with}, BasketLength.{record_long}, Garbage.{alike_after, same_links}, Held.{chain_low}, OldLists.{place_apart, place_late}}
use Rattle.rio_effect.proofs.{PutBaskets.{baskets_have_records, put_basket_is_read}, TreeDeletes.{holds}, TreeNeeds.{held_is, weight}}

-- the first record of a file
first_taken : (file : List ℕ) (links : List Link) → IsChain links file → (r : KeyedRecord) × In r (keyed_records links) × (r.head.seek ≡ first_place)
first_taken file [] chain = let late = chain.ends.later in absurd (omega (arith, late))
first_taken file (GapAt p n ∷ links) chain = let late = chain.links_are.0.1.later in absurd (omega (arith, late))
first_taken file (RecordAt p bytes ∷ links) chain =
    let holds = chain.links_are in
    let o = own_record file 100 p bytes holds.0.0 holds.0.1 in
    (o.r, subst (λ (rs : List KeyedRecord). In o.r rs) (sym (with_own p bytes o links)) (inl refl), o.seek ∙ holds.0.0)

-- ---- one basket

module _ (file : List ℕ) (links : List Link) (words : BasketWords) (chain : IsChain links file) (can : CanBePut (basket_place links words) words) where
  abbrev place : ℕ
  place = basket_place links words

  abbrev bytes : List ℕ
  bytes = record_of_basket place words

  abbrev head : KeyHead
  head = key_of_basket place words

  abbrev old : List KeyedRecord
  old = keyed_records links

  abbrev new : List KeyedRecord
  new = keyed_records (with_record place bytes links)

  abbrev x : KeyedRecord
  x = keyed_bytes head bytes

  more : HasOneMoreIn old new x
  more = record_more links place bytes head (baskets_have_records place words can).read

  internal : is_internal head ≡ true
  internal = refl

  at_rule : IsPlaceFor (map segment_of links) (length bytes) place
  at_rule = inl (ap (place_of (map segment_of links)) (sym (record_long place words)))

  apart : (s : KeyedRecord) → In s old → s.head.seek ≢ place
  apart s i = place_apart file place (length bytes) s links chain at_rule i

  free : begins_at old place ≡ false
  free = none_from (λ s. s.head.seek == place) old (λ s i e. apart s i (eqb-true s.head.seek place e))

  info_stays : info_key new ≡ info_key old
  info_stays = info_same old new x more (not_info head internal)

  tops_stay : top_keys new ≡ top_keys old
  tops_stay = tops_same old new x more (not_top head internal)

  alike : StandsAlike links (with_record place bytes links)
  alike = record {
    records = λ m is. internal_stays old new x m more internal free is;
    keys = λ heads are. keys_stay old new x heads more internal are;
    info = info_stays;
    name = first_stays file links place bytes chain;
    kept = λ pending. need_stays pending file links place bytes head chain (baskets_have_records place words can).read internal;
    items = items_stay_with links place bytes head (baskets_have_records place words can).read (inl (and_left (is_top_key head) (is_tree_key head) (not_top head internal)));
  }

  hold_still : (offsets : Bool) (at : BasketAt) (entries : List (List ℕ)) → HoldsEntries (record_at old) offsets at entries → HoldsEntries (record_at new) offsets at entries
  hold_still offsets at entries h = record { bytes = h.bytes; there = by (place == at.seek) refl; read = h.read; some = h.some }
    where
      by : (b : Bool) → (place == at.seek) ≡ b → basket_bytes (record_at new) at ≡ Some h.bytes
      by true e =
          let none = none_there old at (ap (begins_at old) (sym (eqb-true place at.seek e)) ∙ free) in
          let f : true ≡ false = ap is_some (sym h.there) ∙ none in absurd cc
      by false e = sym (place_same old new x more at e) ∙ h.there

  referred_still : (s : KeyedRecord) → is_referred new s ≡ is_referred old s
  referred_still s =
      let info = info_stays in
      let tops = tops_stay in
      λ i. (s.head.seek == first_place) || (s.head.seek == info_place (info i)) || is_item_record (tops i) s || is_named_place (file_classes (info i)) (tree_records (tops i)) s.head.seek

  leaves : LeavesBaskets links (with_record place bytes links)
  leaves = record {
    tops = tops_stay;
    hold = hold_still;
    garbage = λ other g. record { r = g.r; among = contains_in g.r new (in_still old new x more g.r (in_contained g.r old g.among)); seek = g.seek; free = referred_still g.r ∙ g.free };
  }

  -- nothing refers to it
  unreferred : (m : State) → AreRecordsOf old m → is_referred new x ≡ false
  unreferred m is =
      referred_still x
      ∙ or_from _ _ (or_from _ _ (or_from _ _ not_first (not_list (info_key old) refl)) (and_left (is_top_key head) (not (is_tree_key head) || is_tree_record (top_keys old) x) (not_top head internal))) unnamed
    where
      not_first : (place == first_place) ≡ false
      not_first = let f = first_taken file links chain in ne_eqb place first_place (λ same. apart f.0 f.1 (f.2 ∙ sym same))

      not_list : (o : Option KeyedRecord) → info_key old ≡ o → (place == info_place o) ≡ false
      not_list None e = let late = place_late file place (length bytes) links chain at_rule in ne_eqb place 0 (omega (arith, late))
      not_list (Some k) e = ne_eqb place k.head.seek (λ same. apart k (info_among old k e).0 (sym same))

      unnamed : is_named_basket old x ≡ false
      unnamed = none_from (λ p. p == place) (all_places_named (file_classes (info_key old)) (tree_records (top_keys old))) (λ p i e.
          let from = flat_map_in (places_named (file_classes (info_key old))) p (tree_records (top_keys old)) i in
          let b = basket_there (record { classes = file_classes (info_key old); records = old; headers = tree_records (top_keys old) }) from.0 (holds old m from.0 is from.1) p from.2 in
          apart b.b b.among (b.seek ∙ eqb-true p place e))

  held_low : (pending : PendingRows) → held_with pending (with_record place bytes links) ≤ held_with pending links + length_of_basket words
  held_low pending =
      let long = record_long place words in
      let end = chain_low file links place bytes chain (omega (arith, long)) (baskets_have_records place words can).whole.aligned at_rule in
      let same = ap weight (alike.kept pending) in
      omega (arith, end, long, same, held_is pending links, held_is pending (with_record place bytes links))

  pub basket_put : IsBasketPut links words
  basket_put = record {
    alike = alike;
    leaves = leaves;
    there = λ first. put_basket_is_read links place first words free can;
    new = free;
    garbage = λ m is. record { r = x; among = contains_in x new (in_new old new x more); seek = refl; free = unreferred m is };
    held = held_low;
  }

pub basket_is_put : BasketIsPut
basket_is_put file links words chain can = basket_put file links words chain can

-- ---- those of a tree

keep_all : (datime : ℕ) (tree : List ℕ) (links : List Link) (branches : List BranchDef) (entries : List (List (List ℕ))) (k : ℕ) → CanAllBePut datime tree links branches entries
    → k ≤ length (basket_changes datime tree branches entries) → ArePassed links (basket_changes datime tree branches entries) k
    → StandsAlike links (all_changed links (take k (basket_changes datime tree branches entries)))
keep_all datime tree links [] entries zero can within passed = same_links links
keep_all datime tree links [] entries (suc k) can within passed = absurd (omega (arith, within))
keep_all datime tree links (b ∷ bs) [] zero can within passed = same_links links
keep_all datime tree links (b ∷ bs) [] (suc k) can within passed = absurd (omega (arith, within))
keep_all datime tree links (b ∷ bs) ([] ∷ entries) k can within passed = keep_all datime tree links bs entries k can within passed
keep_all datime tree links (b ∷ bs) ((e ∷ es) ∷ entries) zero can within passed = same_links links
keep_all datime tree links (b ∷ bs) ((e ∷ es) ∷ entries) (suc k) can within passed =
    let words = words_of_basket tree b datime (e ∷ es) in
    let now = passed 0 (omega arith) in
    let one = basket_is_put now.0 links words now.1 can.0 in
    let rest = keep_all datime tree (changed links (basket_added words)) bs entries k can.1 (omega (arith, within)) (λ j low. passed (suc j) (omega (arith, low))) in
    alike_after links (changed links (basket_added words)) (all_changed (changed links (basket_added words)) (take k (basket_changes datime tree bs entries))) one.alike rest

pub baskets_keep_all : BasketsKeepAll
baskets_keep_all datime tree links branches entries k can within passed = keep_all datime tree links branches entries k can within passed

same_baskets : (links : List Link) → LeavesBaskets links links
same_baskets links = record { tops = refl; hold = λ offsets at entries h. h; garbage = λ place g. g }

leaves_after : (a b c : List Link) → LeavesBaskets a b → LeavesBaskets b c → LeavesBaskets a c
leaves_after a b c one two =
    record { tops = two.tops ∙ one.tops; hold = λ offsets at entries h. two.hold offsets at entries (one.hold offsets at entries h); garbage = λ place g. two.garbage place (one.garbage place g) }

abbrev seeks : List Link → List ℕ
seeks links = map (λ r. r.head.seek) (keyed_records links)

-- a basket at a new place is named once, and those behind it
module _ (links : List Link) (words : BasketWords) (can : CanBePut (basket_place links words) words) where
  abbrev after : List Link
  after = changed links (basket_added words)

  abbrev basket : KeyedRecord
  basket = keyed_bytes (key_of_basket (basket_place links words) words) (record_of_basket (basket_place links words) words)

  one_more : HasOneMoreIn (keyed_records links) (keyed_records after) basket
  one_more = record_more links (basket_place links words) basket.bytes basket.head (baskets_have_records (basket_place links words) words can).read

  seeks_within : (p : ℕ) → (basket_place links words ≡ p) ⊎ In p (seeks links) → In p (seeks after)
  seeks_within p (inl same) =
      subst (λ (q : ℕ). In q (seeks after)) same (in_map (λ (r : KeyedRecord). r.head.seek) basket (keyed_records after) (in_new (keyed_records links) (keyed_records after) basket one_more))
  seeks_within p (inr i) =
      let from = map_in (λ (r : KeyedRecord). r.head.seek) p (keyed_records links) i in
      subst (λ (q : ℕ). In q (seeks after)) from.2
      (in_map (λ (r : KeyedRecord). r.head.seek) from.0 (keyed_records after) (in_still (keyed_records links) (keyed_records after) basket one_more from.0 from.1))

  once_more : (ps : List ℕ) → begins_at (keyed_records links) (basket_place links words) ≡ false → are_named_once (seeks after) ps ≡ true → are_named_once (seeks links) (basket_place links words ∷ ps) ≡ true
  once_more ps free once =
      let place = basket_place links words in
      let none = none_from (λ o. place == o) (seeks links) (λ p i e.
      let from = map_in (λ (r : KeyedRecord). r.head.seek) p (keyed_records links) i in
      none_at (λ r. r.head.seek == place) from.0 (keyed_records links) free from.1 (eq-eqb from.0.head.seek place (from.2 ∙ sym (eqb-true place p e)))) in
      and_from _ _ (ap not none) (once_fewer (place ∷ seeks links) (seeks after) ps seeks_within once)

-- of branches that have no entries none is put
placed_none : (at_place : RecordsAt) (datime : ℕ) (tree : List ℕ) (count : ℕ) (links : List Link) (branches : List BranchDef)
    → ArePlaced at_place count branches [] (baskets_placed datime tree count links branches [])
placed_none at_place datime tree count links [] = tt
placed_none at_place datime tree count links (b ∷ bs) = (refl, placed_none at_place datime tree count links bs)

no_places : (datime : ℕ) (tree : List ℕ) (count : ℕ) (links : List Link) (branches : List BranchDef) → places_put (baskets_placed datime tree count links branches []) ≡ []
no_places datime tree count links [] = refl
no_places datime tree count links (b ∷ bs) = no_places datime tree count links bs

none_put : (datime : ℕ) (tree : List ℕ) (count : ℕ) (links : List Link) (branches : List BranchDef) → basket_changes datime tree branches [] ≡ []
none_put datime tree count links [] = refl
none_put datime tree count links (b ∷ bs) = refl

-- nothing is put
nothing : (datime : ℕ) (tree : List ℕ) (count : ℕ) (links : List Link) (branches : List BranchDef) (entries : List (List (List ℕ))) → basket_changes datime tree branches entries ≡ []
    → ArePlaced (record_at (keyed_records links)) count branches entries (baskets_placed datime tree count links branches entries) → places_put (baskets_placed datime tree count links branches entries) ≡ []
    → AreBasketsPut datime tree count links branches entries
nothing datime tree count links branches entries none placed places =
    let links_are : links ≡ all_changed links (basket_changes datime tree branches entries) = ap (all_changed links) (sym none) in
    record {
      alike = subst (StandsAlike links) links_are (same_links links);
      leaves = subst (LeavesBaskets links) links_are (same_baskets links);
      placed = subst (λ (l : List Link). ArePlaced (record_at (keyed_records l)) count branches entries (baskets_placed datime tree count links branches entries)) links_are placed;
      new = ap (are_named_once (seeks links)) places;
      garbage = λ m is place c. absurd (subst (λ (ps : List ℕ). In place ps) places (in_contained place (places_put (baskets_placed datime tree count links branches entries)) c));
      held = λ pending.
          let same = ap (held_with pending) (sym links_are) in
          let no_lengths = ap (λ cs. sum (lengths_of cs)) none in
          omega (arith, same, no_lengths);
    }

steps_low : (before between after one others total : ℕ) → between ≤ before + one → after ≤ between + others → total ≡ one + others → after ≤ before + total
steps_low before between after one others total first rest all = omega (arith, first, rest, all)

put_all : (datime : ℕ) (tree : List ℕ) (count : ℕ) (links : List Link) (branches : List BranchDef) (entries : List (List (List ℕ))) → CanAllBePut datime tree links branches entries
    → ArePassed links (basket_changes datime tree branches entries) (length (basket_changes datime tree branches entries)) → AreBasketsPut datime tree count links branches entries
put_all datime tree count links [] entries can passed = nothing datime tree count links [] entries refl tt refl
put_all datime tree count links (b ∷ bs) [] can passed =
    nothing datime tree count links (b ∷ bs) [] refl (placed_none (record_at (keyed_records links)) datime tree count links (b ∷ bs)) (no_places datime tree count links (b ∷ bs))
put_all datime tree count links (b ∷ bs) ([] ∷ entries) can passed =
    let rest = put_all datime tree count links bs entries can passed in
    record { alike = rest.alike; leaves = rest.leaves; placed = (tt, refl, rest.placed); new = rest.new; garbage = rest.garbage; held = rest.held }
put_all datime tree count links (b ∷ bs) ((e ∷ es) ∷ entries) can passed =
    let words = words_of_basket tree b datime (e ∷ es) in
    let now = passed 0 (omega arith) in
    let then = changed links (basket_added words) in
    let one = basket_is_put now.0 links words now.1 can.0 in
    let rest = put_all datime tree count then bs entries can.1 (λ j low. passed (suc j) (omega (arith, low))) in
    let first = count - length (e ∷ es) in
    let at = basket_at (basket_place links words) first words in
    let after = all_changed then (basket_changes datime tree bs entries) in
    record {
      alike = alike_after links then after one.alike rest.alike;
      leaves = leaves_after links then after one.leaves rest.leaves;
      placed = ((rest.leaves.hold words.offsets at (e ∷ es) (one.there first), tt), refl, rest.placed);
      new = once_more links words can.0 (places_put (baskets_placed datime tree count then bs entries)) one.new rest.new;
      garbage = λ m is place c.
          ⊎_elim
          (λ same. subst (IsGarbageAt after) same (rest.leaves.garbage (basket_place links words) (one.garbage m is)))
          (λ i. rest.garbage m (one.alike.records m is) place (contains_in place (places_put (baskets_placed datime tree count then bs entries)) i))
          (in_contained place (basket_place links words ∷ places_put (baskets_placed datime tree count then bs entries)) c);
      held = λ pending.
          let others = lengths_of (basket_changes datime tree bs entries) in
          steps_low (held_with pending links) (held_with pending then) (held_with pending after) (length_of_basket words) (sum others) (sum (length_of_basket words ∷ others)) (one.held pending) (rest.held pending)
          (sum_by-cons (λ n. n) (length_of_basket words) others);
    }

pub baskets_are_put : BasketsArePut
baskets_are_put datime tree count links branches entries can passed = put_all datime tree count links branches entries can passed
