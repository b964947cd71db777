-- What is recovered, without its garbage.
use Rattle.std.proofs.Common.{◌≡◌, ◌∙◌, inl, inr, ℕ, ◌+◌, ◌<◌, ◌≤◌, ◌||◌, ◌&&◌, Bool, true, false, cond, not, ◌==◌, List, [], ◌∷◌, codes, map, length, get_or, Option, Some, None, refl, sym, ap, subst, arith}
use Rattle.std.proofs.lemmas.{Bool.{and_from, eq-eqb, eqb-true, ne_eqb}, List.{Elements.{All-head}, Sorted.{All-permutation, length_permutation}, Sums.{AllPass-from_list_all, list_all-from_AllPass}}}
use Rattle.std.specs.{List.{All, filter, list_all, list_any}, Option.{IfSome}}
use Rattle.rio_key.specs.declared.head.KeyHead.{KeyHead}
use Rattle.rio_chain.specs.{Adjoining.{AreSegments}, Changes.{without_record}, Found.{IsShortKey}, Placing.{file_end, record_count}, Releasing.{without_segment}, declared.segment.Segment.{Segment, TheVariants.{Record, Gap}}}
use Rattle.rio_chain.proofs.{Freed.{map_without}, Freeing.{link_for, links_for}, PutChain.{map_end}}
use Rattle.rio_state.specs.{Closing.{close_need, name_in}, KeyedRecords.{KeyedRecord, has_class, is_top_key, top_keys}}
use Rattle.rio_state.proofs.{LessNeeds.{end_less}, Members.{In, all_at, any_from, in_filter, filter_in, passing}}
use Rattle.rio_recover.specs.{Checks.{is_item_key, is_untitled}, Cleaning.{AreReleasable, AreRising, IsCleaned, without_segments}, Closable.{IsClosable, begins_at, is_fit_key, is_placed, is_sized, kept_with, list_count, name_limit}}
use Rattle.rio_chain.specs.Keyed.{AreKeyed, IsRecordKey}
use Rattle.rio_recover.specs.{Keys.{HeadsRise, keyed_by}, Recovered.{HasRoomBehind, is_left_over, kept_by, other_count, place_in}, Trees.{places_of}, Whole.{BeginsWithFile, HoldsDirectory, IsWhole}, declared.recovery.Recovered.{Recovered}}
use Rattle.rio_recover.proofs.Closables.{IsPlaced, heads_left, keyed_count, keyed_left, keyed_there, places_rise, places_there, rises}
use Rattle.rio_recover.proofs.{BasketKeys.{HasBasketKey, basket_key, baskets_count, same_key}, ItemsRead.{filter_both}, KeySizes.{file_name, fit_key, sized_key}, Keyed.{info_head_keyed}, Owned.{IsListKey, count_either, count_of, is_kept, is_own, is_plain, is_stored, kept_count, kept_parts, list_found, owned_by, owner, stored_apart}, RecordKeys.{keyed_all}, WholeFile.{all_items}}

-- ---- END

end_one : (place : ℕ) (segments : List Segment) → file_end (without_segment place segments) ≤ file_end segments
end_one place segments =
    let links = map link_for segments in
    let same = links_for segments in
    let after : file_end (without_segment place segments) ≡ _ = ap (λ (ss : List Segment). file_end (without_segment place ss)) same ∙ ap file_end (sym (map_without place links)) ∙ map_end 100 (without_record place links) in
    let before : file_end segments ≡ _ = ap file_end same ∙ map_end 100 links in
    omega (arith, after, before, end_less place 100 links)

end_all : (places : List ℕ) (segments : List Segment) → file_end (without_segments places segments) ≤ file_end segments
end_all [] segments = omega arith
end_all (p ∷ places) segments = omega (arith, end_all places (without_segment p segments), end_one p segments)

-- ---- the first record

-- it stays
pub record FirstStays (n : ℕ) (segments : List Segment) : Type 0 where
  pub rest : List Segment
  pub is : segments ≡ Record 100 n ∷ rest

first_stays : (n p : ℕ) (places : List ℕ) (segments : List Segment) → 100 ≤ p → AreRising p places → FirstStays n (without_segments places (Record 100 n ∷ segments))
first_stays n p [] segments low rise = record { rest = segments; is = refl }
first_stays n p (q ∷ places) segments low rise =
    let other : (100 == q) ≡ false = ne_eqb 100 q (omega (arith, rise.0, low)) in
    let rest = first_stays n q places (without_segment q segments) (omega (arith, rise.0, low)) rise.1 in
    record { rest = rest.rest; is = rw other rest.is }

module _ (r : Recovered) (w : IsWhole r) where
  abbrev heads : List KeyHead
  heads = w.heads

  abbrev segments : List Segment
  segments = r.chain.segments

  abbrev info : ℕ
  info = place_in r.info

  abbrev tops : List KeyedRecord
  tops = top_keys (keyed_by w.heads)

  abbrev baskets : List ℕ
  baskets = places_of r.trees

  abbrev dropped : KeyHead → Bool
  dropped = is_left_over (top_keys (keyed_by w.heads)) (place_in r.info) (places_of r.trees)

  abbrev places : List KeyHead → List ℕ
  places hs = map (λ h. h.seek) (filter dropped hs)

  abbrev stays : KeyHead → Bool
  stays = is_kept (top_keys (keyed_by w.heads)) (place_in r.info) (places_of r.trees)

  abbrev left : List Segment
  left = without_segments r.garbage segments

  abbrev kept : List KeyHead
  kept = filter stays heads

  placed : IsPlaced IsRecordKey
  placed place n head key = key.0.1

  rise : HeadsRise 100 heads
  rise = rises IsRecordKey placed 100 segments heads w.shape.adjacent w.keyed

  -- the first key
  record First (hs : List KeyHead) : Type 0 where
    first : KeyHead
    others : List KeyHead
    is : hs ≡ first ∷ others
    at : first.seek ≡ 100
    class : first.class ≡ codes "TFile"
    rise : HeadsRise 101 others

  begins : First heads
  begins = by segments heads w.shape w.keyed w.first rise
    where
      by : (ss : List Segment) (hs : List KeyHead) → AreSegments ss → AreKeyed IsRecordKey ss hs → BeginsWithFile hs → HeadsRise 100 hs → First hs
      by [] hs shape keyed class up = absurd shape.first
      by (Gap p n ∷ ss) hs shape keyed class up = absurd shape.first
      by (Record p n ∷ ss) [] shape keyed class up = absurd keyed
      by (Record p n ∷ ss) (h ∷ hs) shape keyed class up =
          let at : h.seek ≡ 100 = placed p n h keyed.0 ∙ shape.adjacent.0.there in
          record { first = h; others = hs; is = refl; at = at; class = class; rise = subst (λ (q : ℕ). HeadsRise (q + 1) hs) at up.1 }

  pub releasable : AreReleasable segments r.garbage
  releasable = subst (AreReleasable segments) (sym w.garbage) (record {
    there = places_there segments dropped heads (keyed_there IsRecordKey placed segments heads w.keyed);
    rising = rising;
  })
    where
      behind : (h : KeyHead) (hs : List KeyHead) → h.seek ≡ 100 → HeadsRise 101 hs → AreRising 100 (places (h ∷ hs))
      behind h hs at up =
          let other : dropped h ≡ false = ap (λ (q : ℕ). dropped (record h { seek = q })) at in
          subst (λ (b : Bool). AreRising 100 (map (λ k. k.seek) (cond b (h ∷ filter dropped hs) (filter dropped hs)))) (sym other) (places_rise 101 100 dropped hs (omega arith) up)

      rising : AreRising 100 (places heads)
      rising = subst (λ (hs : List KeyHead). AreRising 100 (places hs)) (sym begins.is) (behind begins.first begins.others begins.at begins.rise)

  -- each record that is left has one of the keys that are kept
  kept_keyed : AreKeyed IsRecordKey left kept
  kept_keyed =
      subst (λ (ps : List ℕ). AreKeyed IsRecordKey (without_segments ps segments) kept) (sym w.garbage)
      (subst (AreKeyed IsRecordKey (without_segments (places heads) segments)) (heads_left dropped 100 heads rise)
      (keyed_left IsRecordKey placed (places heads) segments heads w.keyed))

  there : list_all (is_placed left) kept ≡ true
  there = keyed_there IsRecordKey placed left kept kept_keyed

  -- ---- the items' keys

  record IsGoodKey (h : KeyHead) : Type 0 where
    small : h.version ≤ 1000
    short : IsShortKey h

  good : All IsGoodKey r.table.heads
  good = all_items IsGoodKey (is_item_key tops) heads r.table.heads w.items (keyed_all IsRecordKey IsGoodKey (λ place n h key. record { small = key.0.0; short = key.1 }) segments heads w.keyed)

  untitled : (k : ℕ) (d : KeyHead) → k < length r.table.heads → is_untitled (get_or r.table.heads k d) ≡ true
  untitled k d lt = AllPass-from_list_all is_untitled r.table.heads w.untitled k d lt

  sized : list_all is_sized r.table.heads ≡ true
  sized = list_all-from_AllPass is_sized r.table.heads (λ k d lt. sized_key (get_or r.table.heads k d) (good k d lt).small (untitled k d lt))

  fit : list_all is_fit_key r.table.heads ≡ true
  fit = list_all-from_AllPass is_fit_key r.table.heads (λ k d lt. fit_key (get_or r.table.heads k d) (good k d lt).small (good k d lt).short (untitled k d lt))

  kept_if_item : (h : KeyHead) → is_top_key h ≡ true → is_item_key tops h ≡ true → stays h ≡ true
  kept_if_item h top item = kept_parts tops info baskets h ∙ (λ i. is_own_first (h.seek == 100) (h.seek == info) (is_own_is i) (is_stored baskets h)) ∙ by (h.seek == 100) (h.seek == info) (is_stored baskets h)
    where
      is_own_first : Bool → Bool → Bool → Bool → Bool
      is_own_first a b c d = a || b || c || d

      is_own_is : is_own tops h ≡ true
      is_own_is = λ i. top i && item i

      by : (a b d : Bool) → (a || b || true || d) ≡ true
      by true b d = refl
      by false true d = refl
      by false false d = refl

  abbrev items : List KeyHead
  items = filter (is_item_key (top_keys (keyed_by w.heads))) (filter is_top_key w.heads)

  items_there : list_all (is_placed left) items ≡ true
  items_there = by items (λ h i. i)
    where
      by : (hs : List KeyHead) → ((h : KeyHead) → In h hs → In h items) → list_all (is_placed left) hs ≡ true
      by [] within = refl
      by (h ∷ hs) within =
          let f = filter_in (is_item_key tops) h (filter is_top_key heads) (within h (inl refl)) in
          let g = filter_in is_top_key h heads f.0 in
          and_from _ _ (all_at (is_placed left) h kept there (in_filter stays h heads g.0 (kept_if_item h g.1 f.1))) (by hs (λ k i. within k (inr i)))

  table_there : list_all (is_placed left) r.table.heads ≡ true
  table_there = list_all-from_AllPass (is_placed left) r.table.heads
      (All-permutation (λ h. is_placed left h ≡ true) items r.table.heads w.items (AllPass-from_list_all (is_placed left) items items_there))

  -- ---- the baskets

  key_of : (p : ℕ) → In p baskets → HasBasketKey heads p
  key_of p i = basket_key heads r.trees p w.baskets i

  stored_kept : (h : KeyHead) → is_stored baskets h ≡ true → stays h ≡ true
  stored_kept h e = kept_parts tops info baskets h ∙ or_last (is_plain tops info h) e
    where
      or_last : (a : Bool) {b : Bool} → b ≡ true → (a || b) ≡ true
      or_last true e = refl
      or_last false e = e

  baskets_there : list_all (λ p. list_any (begins_at p) left) baskets ≡ true
  baskets_there = by baskets (λ p i. i)
    where
      by : (ps : List ℕ) → ((p : ℕ) → In p ps → In p baskets) → list_all (λ p. list_any (begins_at p) left) ps ≡ true
      by [] within = refl
      by (p ∷ ps) within =
          let i = within p (inl refl) in
          let k = key_of p i in
          let held : is_stored baskets k.key ≡ true = any_from (λ q. q == k.key.seek) p baskets i (eq-eqb p k.key.seek (sym k.at)) in
          let placed_there = all_at (is_placed left) k.key kept there (in_filter stays k.key heads k.among (stored_kept k.key held)) in
          and_from _ _ (ap (λ (q : ℕ). list_any (begins_at q) left) (sym k.at) ∙ placed_there) (by ps (λ q j. within q (inr j)))

  stored_class : (h : KeyHead) → In h heads → is_stored baskets h ≡ true → has_class (codes "TBasket") h ≡ true
  stored_class h i e =
      let s = passing (λ q. q == h.seek) baskets e in
      let k = key_of s.x s.among in
      let one : k.key ≡ h = same_key 100 heads k.key h rise k.among i (k.at ∙ eqb-true s.x h.seek s.passes) in
      ap (λ (x : KeyHead). has_class (codes "TBasket") x) (sym one) ∙ k.class

  -- ---- the class list

  list_key : IfSome r.info (IsListKey heads)
  list_key = subst (λ (o : Option KeyHead). IfSome o (IsListKey heads)) (sym (w.info ∙ info_head_keyed heads)) (list_found heads)

  list_there : IfSome r.info (λ h. is_placed left h ≡ true)
  list_there = by r.info refl list_key
    where
      by : (o : Option KeyHead) → r.info ≡ o → IfSome o (IsListKey heads) → IfSome o (λ h. is_placed left h ≡ true)
      by None same is = tt
      by (Some l) same is =
          let at : info ≡ l.seek = ap place_in same in
          all_at (is_placed left) l kept there (in_filter stays l heads is.among (kept_list l (sym at)))
        where
          kept_list : (l : KeyHead) → l.seek ≡ info → stays l ≡ true
          kept_list l at = kept_parts tops info baskets l ∙ ap (λ (b : Bool). (l.seek == 100) || b || is_own tops l || is_stored baskets l) (eq-eqb l.seek info at) ∙ either (l.seek == 100)
            where
              either : (a : Bool) → (a || true || is_own tops l || is_stored baskets l) ≡ true
              either true = refl
              either false = refl

  -- ---- how many

  first_in : In begins.first heads
  first_in = subst (In begins.first) (sym begins.is) (inl refl)

  count : record_count left ≡ 1 + list_count r.info + length r.table.heads + length baskets
  count =
      let c = subst (λ (hs : List KeyHead). count_of (is_plain tops info) hs ≡ 1 + list_count r.info + count_of (is_own tops) hs) (sym begins.is)
      (kept_count tops begins.first begins.others r.info begins.at begins.class begins.rise (subst (λ (hs : List KeyHead). IfSome r.info (IsListKey hs)) begins.is list_key)) in
      let own : count_of (is_own tops) heads ≡ length r.table.heads =
      ap length (sym (filter_both (is_item_key tops) is_top_key (is_own tops) (λ h. refl) heads)) ∙ sym (length_permutation items r.table.heads w.items) in
      let parts = count_either (is_plain tops info) (is_stored baskets) stays heads (kept_parts tops info baskets)
      (λ h i e. stored_apart tops heads rise begins.first first_in begins.class r.info list_key h i (stored_class h i e) begins.at) in
      let many = baskets_count heads rise baskets w.once key_of in
      omega (arith, keyed_count IsRecordKey placed left kept kept_keyed, c, own, parts, many)

  above : (h : KeyHead) → In h heads → 0 < h.seek
  above h i = by 100 heads (omega arith) rise i
    where
      by : (p : ℕ) (hs : List KeyHead) → 0 < p → HeadsRise p hs → In h hs → 0 < h.seek
      by p [] some up i = absurd i
      by p (k ∷ hs) some up (inl same) = omega (arith, ap (λ (x : KeyHead). x.seek) same, up.0, some)
      by p (k ∷ hs) some up (inr i) = by (k.seek + 1) hs (omega arith) up.1 i

  -- ---- the first record

  named : length r.name ≤ name_limit
  named =
      let name : r.name ≡ begins.first.name = w.name ∙ ap (λ (hs : List KeyHead). name_in (keyed_by hs)) begins.is in
      let all = keyed_all IsRecordKey IsGoodKey (λ place n h key. record { small = key.0.0; short = key.1 }) segments heads w.keyed in
      let g = All-head IsGoodKey begins.first begins.others (subst (All IsGoodKey) begins.is all) in
      subst (λ (xs : List ℕ). length xs ≤ name_limit) (sym name) (file_name begins.first g.small g.short begins.class)

  pub directory : HoldsDirectory r.nbytes_name left
  directory = by segments w.shape w.directory
    where
      by : (ss : List Segment) → AreSegments ss → HoldsDirectory r.nbytes_name ss → HoldsDirectory r.nbytes_name (without_segments r.garbage ss)
      by [] shape holds = absurd holds
      by (Gap p n ∷ ss) shape holds = absurd holds
      by (Record p n ∷ ss) shape holds =
          let f = subst (λ (q : ℕ). FirstStays n (without_segments r.garbage (Record q n ∷ ss))) (sym shape.adjacent.0.there) (first_stays n 100 r.garbage ss (omega arith) releasable.rising) in
          subst (HoldsDirectory r.nbytes_name) (sym f.is) holds

  pub closable : HasRoomBehind r → IsClosable left r.table.heads r.info baskets r.name
  closable room = record {
    sized = sized;
    fit = fit;
    placed = table_there;
    listed = list_there;
    stored = baskets_there;
    owned = owned_by IsRecordKey placed r.info r.table.heads baskets left kept kept_keyed (λ h i. owner tops heads r.info r.table.heads baskets h w.items (above h (filter_in stays h heads i).0) i);
    short = named;
    count = count;
    room =
        let counted : record_count left ≡ other_count r.info r.trees + length r.table.heads = omega (arith, count) in
        let need : close_need (kept_with r.name r.table.heads (record_count left)) ≡ close_need (kept_by r) = ap (λ (n : ℕ). close_need (kept_with r.name r.table.heads n)) counted in
        omega (arith, need, room.close, end_all r.garbage segments);
  }

-- ---- once it is cleaned

pub is_cleaned : (before after : Recovered) → IsWhole before → HasRoomBehind before → after.chain.segments ≡ without_segments before.garbage before.chain.segments → after.chain.spent ≡ false
    → after.registry ≡ before.registry → after.table ≡ before.table → after.trees ≡ before.trees → after.info ≡ before.info → after.name ≡ before.name → after.nbytes_name ≡ before.nbytes_name → IsCleaned before after
is_cleaned before after w room segments fresh registry table trees info name nbytes_name =
    record {
      closable = subst (λ (x : List Segment × List KeyHead × Option KeyHead × List ℕ × List ℕ). IsClosable x.0 x.1 x.2 x.3 x.4) (λ i. (sym segments i, (sym table i).heads, sym info i, places_of (sym trees i), sym name i)) (closable before w room);
      fresh = fresh;
      registry = registry;
      table = table;
      trees = trees;
      info = info;
      name = name;
      nbytes_name = nbytes_name;
      directory = subst (λ (x : ℕ × List Segment). HoldsDirectory x.0 x.1) (λ i. (sym nbytes_name i, sym segments i)) (directory before w);
    }
