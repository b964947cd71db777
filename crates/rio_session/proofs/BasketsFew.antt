-- The baskets of a tree are few: each has 48 bytes or more, no two of them stand at one place, and all are before END.
use Rattle.std.proofs.Common.{◌≡◌, ◌⊎◌, ◌==◌, ◌&&◌, inl, inr, ⊎_elim, ℕ, ◌+◌, ◌*◌, ◌≤◌, codes, List, [], ◌∷◌, ◌++◌, length, map, Bool, true, false, cond, not, nat_lt, nat_le, Option, Some, None, Result, Ok, Err, refl, sym, ap, subst, ◌∙◌, arith}
use Rattle.std.proofs.lemmas.{Bool.{and_parts, eq-eqb, eqb-true, leb-true, le-leb}, List.{length-append, length-map, Sums.{sum_by-cons}}}
use Rattle.std.specs.{Prelude.{if◌then◌else◌, is_none, is_some, option_and_then}, List.{AllByRecursion, find, flat_map}, Option.{option_map}, Result.{result_ok}}
use Rattle.rio_num.specs.Reading.{some_if}
use Rattle.rio_num.proofs.ReadLaws.{if_is}
use Rattle.rio_key.specs.{declared.head.KeyHead.{KeyHead}, Cut.{Cut}, BasketEntries.{entries_in}, declared.basket_fault.BasketFault.{BasketFault}}
use Rattle.rio_format.specs.declared.class.ClassDef.{ClassDef}
use Rattle.rio_dir.specs.Table.{head_of}
use Rattle.rio_chain.specs.{Placing.{file_end}, Segments.{GapAt, HoldsLinks, IsChain, Link, RecordAt, end_from, link_length}}
use Rattle.rio_chain.proofs.PutChain.{map_end}
use Rattle.rio_machine.specs.{RowEntries.{fitting_row}, State.{State}}
use Rattle.rio_tree.specs.{Index.{basket_counts}, SavedEntries.{all_there, branch_entries, counted_entries, entries_of_baskets, rows_by, rows_of}, WrittenLaws.{stated_defs}}
use Rattle.rio_tree.specs.{declared.basket_at.BasketAt.{BasketAt}, declared.head.Branch.{Branch}, declared.head.TreeHead.{TreeHead}}
use Rattle.rio_fill.specs.Fill.{BranchFill}
use Rattle.rio_state.specs.{KeyedRecords.{KeyedRecord, has_class, keyed_records, record_at}, Trees.{basket_bytes, bytes_as_said, saved_rows}}
use Rattle.rio_state.proofs.{Members.{In, any_from, found, in_either, in_filter, in_map, map_in, passing}, SavedRows.{HasBasket, each_there, then_some}}
use Rattle.rio_effect.specs.{PutBaskets.{AreAllPut}, SavedRows.{HoldAllEntries}}
use Rattle.rio_effect.proofs.KeyReads.{placed}
use Rattle.rio_session.specs.{Due.{AreApart, written_count}, Fills.{FilledTree, branch_in_header, header_of, is_tree_of, places_of_fill, places_of_trees, put_baskets, put_of, saved_baskets}}
use Rattle.rio_session.specs.SessionState.{SessionState}
use Rattle.rio_session.proofs.StandsOn.{StandsOn}
use Rattle.rio_session.proofs.{Apart.{no_more}, BasketLengths.{entries_least}, PutsApart.{apart_back, apart_front}, SaveHeads.{AreSound, idle_put}, SaveKeys.{head_is, keeps, put_is, said_is, under}}

-- ---- long records

-- the basket's record begins there, has 48 bytes or more, and is as long as it is said to be
pub record IsLongAt (links : List Link) (at : BasketAt) : Type 0 where
  pub r : KeyedRecord
  pub among : In r (keyed_records links)
  pub here : r.head.seek ≡ at.seek
  pub size : length r.bytes ≡ at.bytes
  pub long : 48 ≤ length r.bytes

abbrev long_places : List Link → List ℕ
long_places [] = []
long_places (RecordAt p bytes ∷ links) = if nat_le 48 (length bytes) then p ∷ long_places links else long_places links
long_places (GapAt p n ∷ links) = long_places links

long_fit : (place : ℕ) (links : List Link) → 48 * length (long_places links) + place ≤ end_from place links
long_fit place [] = omega arith
long_fit place (RecordAt p bytes ∷ links) = by (nat_le 48 (length bytes)) refl (long_fit (place + length bytes) links)
  where
    by : (b : Bool) → nat_le 48 (length bytes) ≡ b → 48 * length (long_places links) + (place + length bytes) ≤ end_from (place + length bytes) links
        → 48 * length (cond b (p ∷ long_places links) (long_places links)) + place ≤ end_from (place + length bytes) links
    by true is rest = omega (arith, rest, leb-true 48 (length bytes) is)
    by false is rest = omega (arith, rest)
long_fit place (GapAt p n ∷ links) = omega (arith, long_fit (place + n) links)

long_among : (p : ℕ) (bytes : List ℕ) (links : List Link) → In (RecordAt p bytes) links → 48 ≤ length bytes → In p (long_places links)
long_among p bytes [] i long = absurd i
long_among p bytes (RecordAt q other ∷ links) (inl same) long =
    let one : RecordAt q other ≡ RecordAt p bytes = same in
    let place : q ≡ p = cc in
    let own : other ≡ bytes = cc in
    let test : nat_le 48 (length other) ≡ true = le-leb 48 (length other) (omega (arith, ap length own, long)) in
    subst (λ (b : Bool). In p (cond b (q ∷ long_places links) (long_places links))) (sym test) (inl place)
long_among p bytes (RecordAt q other ∷ links) (inr i) long = by (nat_le 48 (length other)) (long_among p bytes links i long)
  where
    by : (b : Bool) → In p (long_places links) → In p (cond b (q ∷ long_places links) (long_places links))
    by true rest = inr rest
    by false rest = rest
long_among p bytes (GapAt q n ∷ links) (inl same) long = absurd cc
long_among p bytes (GapAt q n ∷ links) (inr i) long = long_among p bytes links i long

-- as many places that are apart have room before END
few_places : (file : List ℕ) (links : List Link) (ps : List ℕ) → IsChain links file → AreApart ps → ((p : ℕ) → In p ps → (at : BasketAt) × IsLongAt links at × (at.seek ≡ p)) → 48 * length ps + 100 ≤ end_from 100 links
few_places file links ps chain apart long =
    let within = no_more ps (long_places links) apart (λ p e. let one = passing (λ q. q == p) ps e in any_from (λ q. q == p) p (long_places links) (own p (subst (λ (q : ℕ). In q ps) (eqb-true one.x p one.passes) one.among)) (eq-eqb p p refl)) in
    omega (arith, within, long_fit 100 links)
  where
    own : (p : ℕ) → In p ps → In p (long_places links)
    own p i =
        let from = long p i in
        let is = from.1 in
        let stands = placed file 100 links chain.links_are is.r is.among in
        subst (λ (q : ℕ). In q (long_places links)) (is.here ∙ from.2) (long_among is.r.head.seek is.r.bytes links stands.there is.long)

-- a record ends before END
end_rises : (place : ℕ) (links : List Link) → place ≤ end_from place links
end_rises place [] = omega arith
end_rises place (l ∷ links) = omega (arith, end_rises (place + link_length l) links)

link_within : (file : List ℕ) (place q : ℕ) (bytes : List ℕ) (links : List Link) → HoldsLinks file place links → In (RecordAt q bytes) links → q + length bytes ≤ end_from place links
link_within file place q bytes [] holds i = absurd i
link_within file place q bytes (RecordAt p other ∷ links) holds (inl same) =
    let one : RecordAt p other ≡ RecordAt q bytes = same in
    let here : p ≡ q = cc in
    let own : other ≡ bytes = cc in
    omega (arith, here, ap length own, holds.0.0, end_rises (place + length other) links)
link_within file place q bytes (RecordAt p other ∷ links) holds (inr i) = link_within file (place + length other) q bytes links holds.1 i
link_within file place q bytes (GapAt p n ∷ links) holds (inl same) = absurd cc
link_within file place q bytes (GapAt p n ∷ links) holds (inr i) = link_within file (place + n) q bytes links holds.1 i

pub basket_within : (file : List ℕ) (links : List Link) (at : BasketAt) → IsChain links file → IsLongAt links at → at.seek + at.bytes ≤ end_from 100 links
basket_within file links at chain is =
    let stands = placed file 100 links chain.links_are is.r is.among in
    omega (arith, is.here, is.size, link_within file 100 is.r.head.seek is.r.bytes links chain.links_are stands.there)

-- ---- baskets that are read

then_is : {A B : Type 0} (o : Option A) (f : A → Option B) (P : Type 0) → ((x : A) → o ≡ Some x → is_some (f x) ≡ true → P) → is_some (option_and_then f o) ≡ true → P
then_is None f P both e = absurd cc
then_is (Some x) f P both e = both x refl e

map_is : {A B : Type 0} (o : Option A) (f : A → B) → is_some (option_map f o) ≡ true → is_some o ≡ true
map_is None f e = absurd cc
map_is (Some x) f e = refl

counted_read : (offsets : Bool) (count : ℕ) (bytes : List ℕ) (entries : List (List ℕ)) → counted_entries offsets count bytes ≡ Some entries → (es : List (List ℕ)) × (entries_in offsets bytes ≡ Ok es)
counted_read offsets count bytes entries e = by (entries_in offsets bytes) refl e
  where
    by : (r : Result (List (List ℕ)) BasketFault) → entries_in offsets bytes ≡ r → option_and_then (λ es. some_if (not (count == 0) && (length es == count)) es) (result_ok r) ≡ Some entries
        → (es : List (List ℕ)) × (entries_in offsets bytes ≡ Ok es)
    by (Err d) is e = absurd cc
    by (Ok es) is e = (es, is)

module _ (links : List Link) where
  basket_long : (offsets : Bool) (at : BasketAt) (bytes : List ℕ) (entries : List (List ℕ)) → basket_bytes (record_at (keyed_records links)) at ≡ Some bytes → entries_in offsets bytes ≡ Ok entries → IsLongAt links at
  unfolding basket_bytes
  basket_long offsets at bytes entries there read = by (record_at (keyed_records links) at.seek) refl there
    where
      by : (o : Option KeyedRecord) → record_at (keyed_records links) at.seek ≡ o → option_and_then (bytes_as_said at) o ≡ Some bytes → IsLongAt links at
      by None is e = absurd cc
      by (Some r) is e =
          let said = if_is (has_class (codes "TBasket") r.head && (length r.bytes == at.bytes)) r.bytes bytes e in
          let f = found (λ x. x.head.seek == at.seek) r (keyed_records links) is in
          record {
            r = r;
            among = f.among;
            here = eqb-true r.head.seek at.seek f.passes;
            size = eqb-true (length r.bytes) at.bytes (and_parts (has_class (codes "TBasket") r.head) (length r.bytes == at.bytes) said.0).1;
            long = subst (λ (b : List ℕ). 48 ≤ length b) (sym said.1) (entries_least offsets bytes entries read);
          }

  baskets_long : (offsets : Bool) (ats : List BasketAt) (counts : List ℕ) → is_some (entries_of_baskets (basket_bytes (record_at (keyed_records links))) offsets ats counts) ≡ true → (at : BasketAt) → In at ats → IsLongAt links at
  baskets_long offsets [] counts e at i = absurd i
  baskets_long offsets (a ∷ ats) [] e at i = absurd cc
  baskets_long offsets (a ∷ ats) (count ∷ counts) e at i =
      then_is (basket_bytes (record_at (keyed_records links)) a) _ (IsLongAt links at)
      (λ bytes is h. then_is (counted_entries offsets count bytes) _ (IsLongAt links at)
      (λ entries read k. by bytes is entries read (map_is (entries_of_baskets (basket_bytes (record_at (keyed_records links))) offsets ats counts) (λ more. entries ++ more) k) (baskets_long offsets ats counts) i) h) e
    where
      by : (bytes : List ℕ) → basket_bytes (record_at (keyed_records links)) a ≡ Some bytes → (entries : List (List ℕ)) → counted_entries offsets count bytes ≡ Some entries
          → is_some (entries_of_baskets (basket_bytes (record_at (keyed_records links))) offsets ats counts) ≡ true
          → (is_some (entries_of_baskets (basket_bytes (record_at (keyed_records links))) offsets ats counts) ≡ true → (b : BasketAt) → In b ats → IsLongAt links b) → (a ≡ at) ⊎ In at ats → IsLongAt links at
      by bytes is entries read rest later (inl same) = let es = counted_read offsets count bytes entries read in subst (IsLongAt links) same (basket_long offsets a bytes es.0 is es.1)
      by bytes is entries read rest later (inr j) = later rest at j

  -- those that a header names whose rows are read
  rows_long : (classes : List ClassDef) (head : TreeHead) → is_some (saved_rows classes (record_at (keyed_records links)) head) ≡ true → (at : BasketAt) → HasBasket head at → IsLongAt links at
  unfolding saved_rows rows_by
  rows_long classes head e at (b, i, j) =
      let all = then_some (all_there (map (branch_entries (basket_bytes (record_at (keyed_records links)))) head.branches)) (rows_of (fitting_row classes (stated_defs head.branches)) head.entries) e in
      let branch = each_there (branch_entries (basket_bytes (record_at (keyed_records links)))) b head.branches all i in
      baskets_long b.offsets b.baskets (basket_counts b.baskets b.entries) (then_some (entries_of_baskets (basket_bytes (record_at (keyed_records links))) b.offsets b.baskets (basket_counts b.baskets b.entries)) (some_if (is_none b.refused)) branch) at j

  -- and those that were put since
  hold_long : (offsets : Bool) (ats : List BasketAt) (bs : List (List (List ℕ))) → HoldAllEntries (record_at (keyed_records links)) offsets ats bs → (at : BasketAt) → In at ats → IsLongAt links at
  hold_long offsets [] bs holds at i = absurd i
  hold_long offsets (a ∷ ats) [] holds at i = absurd holds
  hold_long offsets (a ∷ ats) (b ∷ bs) holds at (inl same) = subst (IsLongAt links) same (basket_long offsets a holds.0.bytes b holds.0.there holds.0.read)
  hold_long offsets (a ∷ ats) (b ∷ bs) holds at (inr j) = hold_long offsets ats bs holds.1 at j

  put_long : (saved : ℕ) (bs : List Branch) (cuts : List Cut) (put : List (List BasketAt)) → AreAllPut (record_at (keyed_records links)) saved bs cuts put → (ats : List BasketAt) → In ats put → (at : BasketAt) → In at ats → IsLongAt links at
  put_long saved bs cuts [] are ats j at i = absurd j
  put_long saved [] cuts (own ∷ put) are ats j at i = absurd are
  put_long saved (b ∷ bs) [] (own ∷ put) are ats j at i = absurd are
  put_long saved (b ∷ bs) (cut ∷ cuts) (own ∷ put) are ats (inl same) at i = hold_long b.offsets own cut.put are.0.hold at (subst (In at) (sym same) i)
  put_long saved (b ∷ bs) (cut ∷ cuts) (own ∷ put) are ats (inr j) at i = put_long saved bs cuts put are.1 ats j at i

-- ---- those of a tree

-- a place is that of a basket
place_from : (bs : List BranchFill) (p : ℕ) → In p (flat_map (λ b. map (λ at. at.seek) b.baskets) bs) → (b : BranchFill) × In b bs × (at : BasketAt) × In at b.baskets × (at.seek ≡ p)
place_from [] p i = absurd i
place_from (b ∷ bs) p i =
    ⊎_elim (λ j. let from = map_in (λ (at : BasketAt). at.seek) p b.baskets j in (b, inl refl, from.0, from.1, from.2)) (λ j. let rest = place_from bs p j in (rest.0, inr rest.1, rest.2, rest.3, rest.4))
    (in_either p (map (λ (at : BasketAt). at.seek) b.baskets) (flat_map (λ (c : BranchFill). map (λ at. at.seek) c.baskets) bs) i)

none_at_branch : (saved : ℕ) (bs : List BranchFill) → AllByRecursion (λ b. put_baskets saved b ≡ []) bs → (b : BranchFill) → In b bs → put_baskets saved b ≡ []
none_at_branch saved [] none b i = absurd i
none_at_branch saved (c ∷ bs) none b (inl same) = ap (put_baskets saved) (sym same) ∙ none.0
none_at_branch saved (c ∷ bs) none b (inr i) = none_at_branch saved bs none.1 b i

-- as many places as baskets
places_many : (bs : List BranchFill) → length (flat_map (λ b. map (λ at. at.seek) b.baskets) bs) ≡ written_count bs
places_many [] = refl
places_many (b ∷ bs) =
    let own = map (λ (at : BasketAt). at.seek) b.baskets in
    omega (
      arith,
      length-append own (flat_map (λ (c : BranchFill). map (λ at. at.seek) c.baskets) bs),
      length-map b.baskets (λ (at : BasketAt). at.seek),
      places_many bs,
      sum_by-cons (λ (c : BranchFill). length c.baskets) b bs,
    )

own_apart : (name : List ℕ) (t : FilledTree) (ts : List FilledTree) → find (is_tree_of name) ts ≡ Some t → AreApart (places_of_trees ts) → AreApart (places_of_fill t.fill)
own_apart name t [] is apart = absurd cc
own_apart name t (u ∷ us) is apart = by (is_tree_of name u) is (own_apart name t us)
  where
    by : (b : Bool) → cond b (Some u) (find (is_tree_of name) us) ≡ Some t → (find (is_tree_of name) us ≡ Some t → AreApart (places_of_trees us) → AreApart (places_of_fill t.fill)) → AreApart (places_of_fill t.fill)
    by true e rest = let same : u ≡ t = cc in subst (λ (v : FilledTree). AreApart (places_of_fill v.fill)) same (apart_front (places_of_fill u.fill) (places_of_trees us) apart)
    by false e rest = rest e (apart_back (places_of_fill u.fill) (places_of_trees us) apart)

module _ (s : SessionState) (m : State) (file : List ℕ) (h : StandsOn s m file) (k : KeyHead) (t : FilledTree) (found_tree : find (is_tree_of k.name) s.trees ≡ Some t) (first : head_of k.name None s.heads ≡ Some k)
    (sound : AreSound t.fill.saved t.fill.pending t.fill.branches) (apart : AreApart (places_of_trees s.trees)) where
  saved_long : (b : BranchFill) → In b t.fill.branches → (at : BasketAt) → In at (saved_baskets t.fill.saved b) → IsLongAt h.links at
  saved_long b i at j =
      let held = (under s m file h k t found_tree first).under.held in
      let same = said_is s m file h k t found_tree first ∙ head_is s m file h k t found_tree first in
      let own : HasBasket (header_of t.fill) at = (branch_in_header t.fill.saved b, in_map (branch_in_header t.fill.saved) b t.fill.branches i, j) in
      rows_long h.links _ held.head (ap is_some held.rows_are) at (subst (λ (head : TreeHead). HasBasket head at) (sym same) own)

  since_long : (b : BranchFill) → In b t.fill.branches → (at : BasketAt) → In at (put_baskets t.fill.saved b) → IsLongAt h.links at
  since_long b i at j = by (t.fill.pending == 0) refl
    where
      by : (idle : Bool) → (t.fill.pending == 0) ≡ idle → IsLongAt h.links at
      by true is =
          let none = none_at_branch t.fill.saved t.fill.branches (idle_put t.fill.saved t.fill.pending t.fill.branches (eqb-true t.fill.pending 0 is) sound) b i in
          absurd (subst (In at) none j)
      by false is =
          let own : put_of t.fill ≡ map (put_baskets t.fill.saved) t.fill.branches = ap (λ (idle : Bool). if idle then [] else map (put_baskets t.fill.saved) t.fill.branches) is in
          let told = put_is s m file h k t found_tree first ∙ own in
          let since = keeps s m file h k t found_tree first in
          put_long h.links since.head.entries since.head.branches _ _ since.put (put_baskets t.fill.saved b) (subst (In (put_baskets t.fill.saved b)) (sym told) (in_map (put_baskets t.fill.saved) b t.fill.branches i)) at j

  -- each basket is there
  pub basket_there : (b : BranchFill) → In b t.fill.branches → (at : BasketAt) → In at b.baskets → IsLongAt h.links at
  basket_there b i at j = by (nat_lt at.first t.fill.saved) refl
    where
      by : (early : Bool) → nat_lt at.first t.fill.saved ≡ early → IsLongAt h.links at
      by true is = saved_long b i at (in_filter (λ a. nat_lt a.first t.fill.saved) at b.baskets j is)
      by false is = since_long b i at (in_filter (λ a. not (nat_lt a.first t.fill.saved)) at b.baskets j (ap not is))

  place_long : (p : ℕ) → In p (places_of_fill t.fill) → (at : BasketAt) × IsLongAt h.links at × (at.seek ≡ p)
  place_long p i = let from = place_from t.fill.branches p i in (from.2, basket_there from.0 from.1 from.2 from.3, from.4)

  pub baskets_few : 48 * written_count t.fill.branches + 100 ≤ file_end s.segments
  baskets_few =
      let few = few_places file h.links (places_of_fill t.fill) h.chain.chain (own_apart k.name t s.trees found_tree apart) place_long in
      let many = places_many t.fill.branches in
      let end : file_end s.segments ≡ end_from 100 h.links = ap file_end h.chain.same ∙ map_end 100 h.links in
      omega (arith, few, many, end)

  -- and ends before END
  pub basket_ends : (b : BranchFill) → In b t.fill.branches → (at : BasketAt) → In at b.baskets → at.seek + at.bytes ≤ file_end s.segments
  basket_ends b i at j =
      let end : file_end s.segments ≡ end_from 100 h.links = ap file_end h.chain.same ∙ map_end 100 h.links in
      omega (arith, basket_within file h.links at h.chain.chain (basket_there b i at j), end)
