-- All records of a file stand and are someone's once open baskets are put, and once a header is put.
use Rattle.std.proofs.Common.{◌≡◌, ◌∙◌, ◌==◌, ◌||◌, ℕ, ◌+◌, ◌-◌, Bool, true, false, cond, List, [], ◌∷◌, ◌++◌, length, map, Option, Some, refl, sym, ap, subst, arith}
use Rattle.std.proofs.lemmas.{Bool.{and_from, and_parts, eq-eqb, eqb-true, or_left, or_right}, List.{length-append, length-map}, Option.{same_Some}, Slice.Eq.{bytes_eq-Decides}}
use Rattle.std.specs.{Prelude.{IfSome, if◌then◌else◌}, List.{find, flat_map, list_all, list_any}}
use Rattle.rio_key.specs.declared.head.KeyHead.{KeyHead}
use Rattle.rio_dir.specs.Table.{with_head}
use Rattle.rio_chain.specs.{Placing.{place_of, record_count, rest_of_gap, with_segment}, declared.segment.Segment.{Segment, TheVariants.{Record, Gap}}}
use Rattle.rio_close.proofs.Fitting.{count_with}
use Rattle.rio_tree.specs.declared.basket_at.BasketAt.{BasketAt}
use Rattle.rio_fill.specs.Fill.{BranchFill, TreeFill, count_before}
use Rattle.rio_state.proofs.Members.{all_at, passing}
use Rattle.rio_recover.specs.Closable.{begins_at, is_list_at, is_owned, is_placed, list_count}
use Rattle.rio_effect.specs.TreeRecords.{basket_at, length_of_basket}
use Rattle.rio_session.specs.{Fillings.{put_open, words_of_open}, Fills.{AreAfterName, AreNamesOrdered, FilledTree, is_tree_of, places_of_fill, places_of_trees, with_change}}
use Rattle.rio_session.proofs.{Apart.{is_among}, FilledChanges.{none_changed}, Keeps.{all_owned, all_placed, all_with, length_with, listed_still, new_begins, stored_still}, KeepsLess.{any_append}}

-- what IsClosable says of the segments, but for the room
pub record StandRight (segments : List Segment) (heads : List KeyHead) (info : Option KeyHead) (baskets : List ℕ) : Type 0 where
  pub placed : list_all (is_placed segments) heads ≡ true
  pub listed : IfSome info (λ h. is_placed segments h ≡ true)
  pub stored : list_all (λ p. list_any (begins_at p) segments) baskets ≡ true
  pub owned : list_all (is_owned info heads baskets) segments ≡ true
  pub count : record_count segments ≡ 1 + list_count info + length heads + length baskets

same_place : (place : ℕ) → (place == place) ≡ true
same_place place = eq-eqb place place refl

-- ---- a basket more

module _ (info : Option KeyHead) (heads : List KeyHead) (baskets : List ℕ) (place : ℕ) where
  one_more : (a b c : Bool) → (a || c) ≡ true → (a || (b || c)) ≡ true
  one_more true b c e = refl
  one_more false true c e = refl
  one_more false false c e = e

  owned_still : (x : Segment) → is_owned info heads baskets x ≡ true → is_owned info heads (place ∷ baskets) x ≡ true
  owned_still (Record p n) e = one_more (((p == 100) || is_list_at p info) || list_any (λ h. h.seek == p) heads) (place == p) (list_any (λ q. q == p) baskets) e
  owned_still (Gap p n) e = refl

  all_still : (segments : List Segment) → list_all (is_owned info heads baskets) segments ≡ true → list_all (is_owned info heads (place ∷ baskets)) segments ≡ true
  all_still [] all = refl
  all_still (x ∷ xs) all =
      let parts = and_parts (is_owned info heads baskets x) (list_all (is_owned info heads baskets) xs) all in
      and_from (is_owned info heads (place ∷ baskets) x) (list_all (is_owned info heads (place ∷ baskets)) xs) (owned_still x parts.0) (all_still xs parts.1)

  rest_owned : (q n : ℕ) (segments : List Segment) → list_all (is_owned info heads (place ∷ baskets)) segments ≡ true → list_all (is_owned info heads (place ∷ baskets)) (rest_of_gap q n segments) ≡ true
  rest_owned q n segments all = elim (n == 0) as (λ b. list_all (is_owned info heads (place ∷ baskets)) (if b then segments else Gap q n ∷ segments) ≡ true) [ true ↦ all | false ↦ all ]

  new_owned : (n : ℕ) → is_owned info heads (place ∷ baskets) (Record place n) ≡ true
  new_owned n =
      or_right (((place == 100) || is_list_at place info) || list_any (λ h. h.seek == place) heads) (list_any (λ q. q == place) (place ∷ baskets))
      (or_left (place == place) (list_any (λ q. q == place) baskets) (same_place place))

  basket_owned : (n : ℕ) (segments : List Segment) → list_all (is_owned info heads baskets) segments ≡ true → list_all (is_owned info heads (place ∷ baskets)) (with_segment place n segments) ≡ true
  basket_owned n [] all = and_from (is_owned info heads (place ∷ baskets) (Record place n)) true (new_owned n) refl
  basket_owned n (Record p m ∷ segments) all =
      let parts = and_parts (is_owned info heads baskets (Record p m)) (list_all (is_owned info heads baskets) segments) all in
      and_from (is_owned info heads (place ∷ baskets) (Record p m)) (list_all (is_owned info heads (place ∷ baskets)) (with_segment place n segments)) (owned_still (Record p m) parts.0) (basket_owned n segments parts.1)
  basket_owned n (Gap p m ∷ segments) all =
      elim (p == place) as (λ b. list_all (is_owned info heads (place ∷ baskets)) (if b then Record place n ∷ rest_of_gap (place + n) (m - n) segments else Gap p m ∷ with_segment place n segments) ≡ true) [
        | true ↦ and_from (is_owned info heads (place ∷ baskets) (Record place n)) (list_all (is_owned info heads (place ∷ baskets)) (rest_of_gap (place + n) (m - n) segments)) (new_owned n)
            (rest_owned (place + n) (m - n) segments (all_still segments all))
        | false ↦ basket_owned n segments all
      ]

pub one_basket : (place n : ℕ) (segments : List Segment) (heads : List KeyHead) (info : Option KeyHead) (baskets : List ℕ) → StandRight segments heads info baskets → StandRight (with_segment place n segments) heads info (place ∷ baskets)
one_basket place n segments heads info baskets k = record {
  placed = all_placed place n segments heads k.placed;
  listed = listed_still info place n segments k.listed;
  stored = and_from (list_any (begins_at place) (with_segment place n segments)) (list_all (λ p. list_any (begins_at p) (with_segment place n segments)) baskets) (new_begins place n segments) (stored_still place n segments baskets k.stored);
  owned = basket_owned info heads baskets place n segments k.owned;
  count = omega (arith, count_with place n segments, k.count);
}

-- a key more
pub one_header : (h : KeyHead) (n : ℕ) (segments : List Segment) (heads : List KeyHead) (info : Option KeyHead) (baskets : List ℕ) → StandRight segments heads info baskets → StandRight (with_segment h.seek n segments) (with_head h heads) info baskets
one_header h n segments heads info baskets k = record {
  placed = all_with (is_placed (with_segment h.seek n segments)) h heads (new_begins h.seek n segments) (all_placed h.seek n segments heads k.placed);
  listed = listed_still info h.seek n segments k.listed;
  stored = stored_still h.seek n segments baskets k.stored;
  owned = all_owned info h baskets n segments heads k.owned;
  count = omega (arith, count_with h.seek n segments, length_with h heads, k.count);
}

-- ---- the same places in another order

module _ (segments : List Segment) (heads : List KeyHead) (info : Option KeyHead) (baskets others : List ℕ) (same : (p : ℕ) → is_among others p ≡ is_among baskets p) (long : length others ≡ length baskets)
    (k : StandRight segments heads info baskets) where
  begins_by : (p : ℕ) → is_among others p ≡ true → list_any (begins_at p) segments ≡ true
  begins_by p e =
      let one = passing (λ q. q == p) baskets (sym (same p) ∙ e) in
      subst (λ (q : ℕ). list_any (begins_at q) segments ≡ true) (eqb-true one.x p one.passes) (all_at (λ q. list_any (begins_at q) segments) one.x baskets k.stored one.among)

  stored_by : (some : List ℕ) → ((p : ℕ) → is_among some p ≡ true → list_any (begins_at p) segments ≡ true) → list_all (λ p. list_any (begins_at p) segments) some ≡ true
  stored_by [] each = refl
  stored_by (q ∷ some) each =
      and_from (list_any (begins_at q) segments) (list_all (λ p. list_any (begins_at p) segments) some) (each q (or_left (q == q) (is_among some q) (same_place q)))
      (stored_by some (λ p e. each p (or_right (q == p) (is_among some p) e)))

  owned_by_others : (some : List Segment) → list_all (is_owned info heads baskets) some ≡ true → list_all (is_owned info heads others) some ≡ true
  owned_by_others [] all = refl
  owned_by_others (Record p n ∷ some) all =
      let parts = and_parts (is_owned info heads baskets (Record p n)) (list_all (is_owned info heads baskets) some) all in
      and_from (is_owned info heads others (Record p n)) (list_all (is_owned info heads others) some)
      (ap (λ (b : Bool). (((p == 100) || is_list_at p info) || list_any (λ h. h.seek == p) heads) || b) (same p) ∙ parts.0) (owned_by_others some parts.1)
  owned_by_others (Gap p n ∷ some) all =
      let parts = and_parts true (list_all (is_owned info heads baskets) some) all in
      and_from true (list_all (is_owned info heads others) some) refl (owned_by_others some parts.1)

  pub rebased : StandRight segments heads info others
  rebased = record { placed = k.placed; listed = k.listed; stored = stored_by others begins_by; owned = owned_by_others segments k.owned; count = omega (arith, k.count, long) }

-- ---- open baskets that are put

-- where they are put
abbrev pub new_places : ℕ → List ℕ → List Segment → List BranchFill → List Bool → List ℕ
new_places datime tree segments [] flags = []
new_places datime tree segments (b ∷ bs) [] = []
new_places datime tree segments (b ∷ bs) (true ∷ flags) =
    let n = length_of_basket (words_of_open tree datime b) in
    place_of segments n ∷ new_places datime tree (with_segment (place_of segments n) n segments) bs flags
new_places datime tree segments (b ∷ bs) (false ∷ flags) = new_places datime tree segments bs flags

-- the last one first, before the others
abbrev pub stacked : List ℕ → List ℕ → List ℕ
stacked [] base = base
stacked (p ∷ ps) base = stacked ps (p ∷ base)

pub puts_right : (datime : ℕ) (tree : List ℕ) (count : ℕ) (segments : List Segment) (bs : List BranchFill) (flags : List Bool) (heads : List KeyHead) (info : Option KeyHead) (base : List ℕ) → StandRight segments heads info base
    → StandRight (put_open datime tree count segments bs flags).segments heads info (stacked (new_places datime tree segments bs flags) base)
puts_right datime tree count segments [] flags heads info base k = k
puts_right datime tree count segments (b ∷ bs) [] heads info base k = k
puts_right datime tree count segments (b ∷ bs) (true ∷ flags) heads info base k =
    let n = length_of_basket (words_of_open tree datime b) in
    let place = place_of segments n in
    puts_right datime tree count (with_segment place n segments) bs flags heads info (place ∷ base) (one_basket place n segments heads info base k)
puts_right datime tree count segments (b ∷ bs) (false ∷ flags) heads info base k = puts_right datime tree count segments bs flags heads info base k

stack_one : (a b c : Bool) → (b || (a || c)) ≡ ((a || b) || c)
stack_one true true c = refl
stack_one true false c = refl
stack_one false true c = refl
stack_one false false c = refl

pub stacked_among : (ps base : List ℕ) (p : ℕ) → is_among (stacked ps base) p ≡ (is_among ps p || is_among base p)
stacked_among [] base p = refl
stacked_among (q ∷ ps) base p = stacked_among ps (q ∷ base) p ∙ stack_one (q == p) (is_among ps p) (is_among base p)

pub stacked_long : (ps base : List ℕ) → length (stacked ps base) ≡ length ps + length base
stacked_long [] base = omega arith
stacked_long (q ∷ ps) base = omega (arith, stacked_long ps (q ∷ base))

-- so the branches name those places more
abbrev pub branch_places : List BranchFill → List ℕ
branch_places bs = flat_map (λ b. map (λ at. at.seek) b.baskets) bs

abbrev seeks_of : List BasketAt → List ℕ
seeks_of ats = map (λ at. at.seek) ats

or_none : (a : Bool) → (a || false) ≡ a
or_none true = refl
or_none false = refl

or_moved : (a b c : Bool) → (a || (b || c)) ≡ ((a || b) || c)
or_moved true b c = refl
or_moved false b c = refl

seek_more : (ats : List BasketAt) (at : BasketAt) (p : ℕ) → is_among (seeks_of (ats ++ at ∷ [])) p ≡ (is_among (seeks_of ats) p || (at.seek == p))
seek_more [] at p = or_none (at.seek == p)
seek_more (a ∷ ats) at p = ap (λ (b : Bool). (a.seek == p) || b) (seek_more ats at p) ∙ or_moved (a.seek == p) (is_among (seeks_of ats) p) (at.seek == p)

mix : (o q n r : Bool) → ((o || q) || (n || r)) ≡ ((q || n) || (o || r))
mix true true n r = refl
mix true false true r = refl
mix true false false r = refl
mix false true n r = refl
mix false false true r = refl
mix false false false r = refl

swap : (o n r : Bool) → (o || (n || r)) ≡ (n || (o || r))
swap true true r = refl
swap true false r = refl
swap false n r = refl

pub put_among : (datime : ℕ) (tree : List ℕ) (count : ℕ) (segments : List Segment) (bs : List BranchFill) (flags : List Bool) (p : ℕ)
    → is_among (branch_places (put_open datime tree count segments bs flags).branches) p ≡ (is_among (new_places datime tree segments bs flags) p || is_among (branch_places bs) p)
put_among datime tree count segments [] flags p = refl
put_among datime tree count segments (b ∷ bs) [] p = refl
put_among datime tree count segments (b ∷ bs) (true ∷ flags) p =
    let words = words_of_open tree datime b in
    let n = length_of_basket words in
    let place = place_of segments n in
    let at = basket_at place (count_before count b) words in
    let next = with_segment place n segments in
    let cs = (put_open datime tree count next bs flags).branches in
    let rest = put_among datime tree count next bs flags p in
    any_append p (seeks_of (b.baskets ++ at ∷ [])) (branch_places cs)
    ∙ (λ i. seek_more b.baskets at p i || rest i)
    ∙ mix (is_among (seeks_of b.baskets) p) (place == p) (is_among (new_places datime tree next bs flags) p) (is_among (branch_places bs) p)
    ∙ ap (λ (c : Bool). ((place == p) || is_among (new_places datime tree next bs flags) p) || c) (sym (any_append p (seeks_of b.baskets) (branch_places bs)))
put_among datime tree count segments (b ∷ bs) (false ∷ flags) p =
    let cs = (put_open datime tree count segments bs flags).branches in
    let rest = put_among datime tree count segments bs flags p in
    any_append p (seeks_of b.baskets) (branch_places cs)
    ∙ ap (λ (c : Bool). is_among (seeks_of b.baskets) p || c) rest
    ∙ swap (is_among (seeks_of b.baskets) p) (is_among (new_places datime tree segments bs flags) p) (is_among (branch_places bs) p)
    ∙ ap (λ (c : Bool). is_among (new_places datime tree segments bs flags) p || c) (sym (any_append p (seeks_of b.baskets) (branch_places bs)))

pub put_long : (datime : ℕ) (tree : List ℕ) (count : ℕ) (segments : List Segment) (bs : List BranchFill) (flags : List Bool)
    → length (branch_places (put_open datime tree count segments bs flags).branches) ≡ length (new_places datime tree segments bs flags) + length (branch_places bs)
put_long datime tree count segments [] flags = omega arith
put_long datime tree count segments (b ∷ bs) [] = omega arith
put_long datime tree count segments (b ∷ bs) (true ∷ flags) =
    let words = words_of_open tree datime b in
    let n = length_of_basket words in
    let place = place_of segments n in
    let at = basket_at place (count_before count b) words in
    let next = with_segment place n segments in
    let cs = (put_open datime tree count next bs flags).branches in
    omega (
      arith,
      put_long datime tree count next bs flags,
      length-append (seeks_of (b.baskets ++ at ∷ [])) (branch_places cs),
      length-append (seeks_of b.baskets) (branch_places bs),
      length-map (b.baskets ++ at ∷ []) (λ (a : BasketAt). a.seek),
      length-map b.baskets (λ (a : BasketAt). a.seek),
      length-append b.baskets (at ∷ []),
    )
put_long datime tree count segments (b ∷ bs) (false ∷ flags) =
    let cs = (put_open datime tree count segments bs flags).branches in
    omega (arith, put_long datime tree count segments bs flags, length-append (seeks_of b.baskets) (branch_places cs), length-append (seeks_of b.baskets) (branch_places bs))

-- ---- the trees

module _ (name : List ℕ) (change : TreeFill → TreeFill) (new : List ℕ) (t : FilledTree) where
  -- behind the one that is changed all are as they were
  later_same : (u : FilledTree) (us : List FilledTree) → is_tree_of name u ≡ true → AreAfterName u.name us → with_change name change us ≡ us
  later_same u us own after = none_changed name change us (subst (λ (n : List ℕ). AreAfterName n us) ((bytes_eq-Decides u.name name).0 own) after)

  pub trees_among : (p : ℕ) → is_among (places_of_fill (change t.fill)) p ≡ (is_among new p || is_among (places_of_fill t.fill) p) → (trees : List FilledTree) → AreNamesOrdered trees → find (is_tree_of name) trees ≡ Some t
      → is_among (places_of_trees (with_change name change trees)) p ≡ (is_among new p || is_among (places_of_trees trees) p)
  trees_among p own [] ordered found = absurd cc
  trees_among p own (u ∷ us) ordered found = by (is_tree_of name u) refl found (trees_among p own us ordered.1)
    where
      by : (b : Bool) → is_tree_of name u ≡ b → cond b (Some u) (find (is_tree_of name) us) ≡ Some t
          → (find (is_tree_of name) us ≡ Some t → is_among (places_of_trees (with_change name change us)) p ≡ (is_among new p || is_among (places_of_trees us) p))
          → is_among (places_of_trees ((if b then record u { fill = change u.fill } else u) ∷ with_change name change us)) p ≡ (is_among new p || is_among (places_of_trees (u ∷ us)) p)
      by true is found later =
          let same : u ≡ t = same_Some u t found in
          let one : is_among (places_of_fill (change u.fill)) p ≡ (is_among new p || is_among (places_of_fill u.fill) p) =
          subst (λ (v : FilledTree). is_among (places_of_fill (change v.fill)) p ≡ (is_among new p || is_among (places_of_fill v.fill) p)) (sym same) own in
          ap (λ (l : List FilledTree). is_among (places_of_fill (change u.fill) ++ places_of_trees l) p) (later_same u us is ordered.0)
          ∙ any_append p (places_of_fill (change u.fill)) (places_of_trees us)
          ∙ ap (λ (b : Bool). b || is_among (places_of_trees us) p) one
          ∙ sym (or_moved (is_among new p) (is_among (places_of_fill u.fill) p) (is_among (places_of_trees us) p))
          ∙ ap (λ (b : Bool). is_among new p || b) (sym (any_append p (places_of_fill u.fill) (places_of_trees us)))
      by false is found later =
          any_append p (places_of_fill u.fill) (places_of_trees (with_change name change us))
          ∙ ap (λ (b : Bool). is_among (places_of_fill u.fill) p || b) (later found)
          ∙ swap (is_among (places_of_fill u.fill) p) (is_among new p) (is_among (places_of_trees us) p)
          ∙ ap (λ (b : Bool). is_among new p || b) (sym (any_append p (places_of_fill u.fill) (places_of_trees us)))

  pub trees_long : length (places_of_fill (change t.fill)) ≡ length new + length (places_of_fill t.fill) → (trees : List FilledTree) → AreNamesOrdered trees → find (is_tree_of name) trees ≡ Some t
      → length (places_of_trees (with_change name change trees)) ≡ length new + length (places_of_trees trees)
  trees_long own [] ordered found = absurd cc
  trees_long own (u ∷ us) ordered found = by (is_tree_of name u) refl found (trees_long own us ordered.1)
    where
      by : (b : Bool) → is_tree_of name u ≡ b → cond b (Some u) (find (is_tree_of name) us) ≡ Some t → (find (is_tree_of name) us ≡ Some t → length (places_of_trees (with_change name change us)) ≡ length new + length (places_of_trees us))
          → length (places_of_trees ((if b then record u { fill = change u.fill } else u) ∷ with_change name change us)) ≡ length new + length (places_of_trees (u ∷ us))
      by true is found later =
          let same : u ≡ t = same_Some u t found in
          let one : length (places_of_fill (change u.fill)) ≡ length new + length (places_of_fill u.fill) =
          subst (λ (v : FilledTree). length (places_of_fill (change v.fill)) ≡ length new + length (places_of_fill v.fill)) (sym same) own in
          let still = ap (λ (l : List FilledTree). length (places_of_fill (change u.fill) ++ places_of_trees l)) (later_same u us is ordered.0) in
          omega (arith, one, still, length-append (places_of_fill (change u.fill)) (places_of_trees us), length-append (places_of_fill u.fill) (places_of_trees us))
      by false is found later =
          omega (arith, later found, length-append (places_of_fill u.fill) (places_of_trees (with_change name change us)), length-append (places_of_fill u.fill) (places_of_trees us))
