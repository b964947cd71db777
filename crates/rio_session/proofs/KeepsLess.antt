-- What a session keeps is sound with one record less.
use Rattle.std.proofs.Common.{◌≡◌, ◌==◌, ◌||◌, ℕ, ◌+◌, ◌<◌, ◌≤◌, Bool, true, false, cond, List, [], ◌∷◌, ◌++◌, length, map, Option, Some, None, refl, sym, ap, subst, ◌∙◌, arith}
use Rattle.std.proofs.{lemmas.Bool.{and_from, and_parts, eq-eqb, eqb-true, ne_eqb, or_left, or_parts, or_right}, lemmas.Option.{same_Some}}
use Rattle.std.proofs.lemmas.{List.{length-append, length-map}, List.Sums.{sum_by-cons}}
use Rattle.std.specs.{Prelude.{IfSome}, List.{find, list_all, list_any}, Set.{remove_key}}
use Rattle.rio_key.specs.{declared.head.KeyHead.{KeyHead}, Written.{written_key}}
use Rattle.rio_dir.specs.Table.{head_of, heads_size, is_at_cycle, without_head}
use Rattle.rio_chain.specs.{Adjoining.{AreAdjacent, AreSegments}, Chains.{HasRecordSegment}, FewerRecords.{IsLeftWithout}, Placing.{record_count}, Releasing.{with_free, without_segment}}
use Rattle.rio_chain.specs.declared.segment.Segment.{Segment, TheVariants.{Record, Gap}}
use Rattle.rio_chain.proofs.FewerRecords.{left_by_releases}
use Rattle.rio_state.specs.{Closing.{close_need, end_limit}, Sizes.{close_size}}
use Rattle.rio_recover.specs.Closable.{IsClosable, begins_at, is_fit_key, is_list_at, is_owned, is_placed, is_sized, kept_with, list_count}
use Rattle.rio_recover.proofs.Released.{any_without, record_segment}
use Rattle.rio_session.specs.{Kept.{record_places}, Releases.{AreApart}}
use Rattle.rio_session.proofs.{Apart.{IsWithin, is_among, no_more}}

-- ---- the key that is taken out

-- a head that is found is taken out, and the others stay
pub record IsTakenOut (h : KeyHead) (heads left : List KeyHead) : Type 0 where
  pub one : length left + 1 ≡ length heads
  pub bytes : heads_size left + length (written_key h) ≡ heads_size heads
  pub all : (test : KeyHead → Bool) → list_all test heads ≡ true → list_all test left ≡ true
  pub any : (test : KeyHead → Bool) → list_any test heads ≡ true → test h ≡ false → list_any test left ≡ true
  pub own : (test : KeyHead → Bool) → list_all test heads ≡ true → test h ≡ true

later : (a b c : Bool) → (a || b) ≡ true → (b ≡ true → c ≡ true) → (a || c) ≡ true
later true b c e next = refl
later false b c e next = next e

pub taken_out : (t : KeyHead → Bool) (h : KeyHead) (heads : List KeyHead) → find t heads ≡ Some h → IsTakenOut h heads (remove_key t heads)
taken_out t h [] found = absurd cc
taken_out t h (k ∷ ks) found = by (t k) found (taken_out t h ks)
  where
    by : (b : Bool) → cond b (Some k) (find t ks) ≡ Some h → (find t ks ≡ Some h → IsTakenOut h ks (remove_key t ks)) → IsTakenOut h (k ∷ ks) (cond b ks (k ∷ remove_key t ks))
    by true found rest = subst (λ (j : KeyHead). IsTakenOut j (k ∷ ks) ks) (same_Some k h found) (record {
      one = omega arith;
      bytes = omega (arith, sum_by-cons (λ (j : KeyHead). length (written_key j)) k ks);
      all = λ test e. (and_parts (test k) (list_all test ks) e).1;
      any = λ test e none. (elim (test k) as (λ c. (c || list_any test ks) ≡ true → c ≡ false → list_any test ks ≡ true) [ true ↦ λ x y. absurd cc | false ↦ λ x y. x ]) e none;
      own = λ test e. (and_parts (test k) (list_all test ks) e).0;
    })
    by false found rest =
        let r = rest found in
        record {
          one = omega (arith, r.one);
          bytes = omega (arith, r.bytes, sum_by-cons (λ (j : KeyHead). length (written_key j)) k ks, sum_by-cons (λ (j : KeyHead). length (written_key j)) k (remove_key t ks));
          all = λ test e. let parts = and_parts (test k) (list_all test ks) e in and_from (test k) (list_all test (remove_key t ks)) parts.0 (r.all test parts.1);
          any = λ test e none. later (test k) (list_any test ks) (list_any test (remove_key t ks)) e (λ f. r.any test f none);
          own = λ test e. r.own test (and_parts (test k) (list_all test ks) e).1;
        }

-- ---- places of records

places_counted : (segments : List Segment) → length (record_places segments) ≡ record_count segments
places_counted [] = refl
places_counted (Record p n ∷ segments) = omega (arith, places_counted segments)
places_counted (Gap p n ∷ segments) = places_counted segments

-- no record begins before the first
low_among : (from p : ℕ) (segments : List Segment) → AreAdjacent from segments → p < from → is_among (record_places segments) p ≡ false
low_among from p [] are low = refl
low_among from p (Record q n ∷ segments) are low =
    ap (λ (b : Bool). b || is_among (record_places segments) p) (ne_eqb q p (omega (arith, are.0.there, low))) ∙ low_among (from + n) p segments are.1 (omega (arith, low))
low_among from p (Gap q n ∷ segments) are low = low_among (from + n) p segments are.1 (omega (arith, low))

pub places_apart : (from : ℕ) (segments : List Segment) → AreAdjacent from segments → AreApart (record_places segments)
places_apart from [] are = tt
places_apart from (Record p n ∷ segments) are = (low_among (from + n) p segments are.1 (omega (arith, are.0.there, are.0.some)), places_apart (from + n) segments are.1)
places_apart from (Gap p n ∷ segments) are = places_apart (from + n) segments are.1

-- no record begins before the first place
pub low_begins : (from p : ℕ) (segments : List Segment) → AreAdjacent from segments → list_any (begins_at p) segments ≡ true → from ≤ p
low_begins from p [] are e = absurd cc
low_begins from p (Record q n ∷ segments) are e =
    (elim (q == p) as (λ b. (q == p) ≡ b → (b || list_any (begins_at p) segments) ≡ true → from ≤ p) [
      | true ↦ λ is x. omega (arith, are.0.there, eqb-true q p is)
      | false ↦ λ is x. omega (arith, low_begins (from + n) p segments are.1 x)
    ]) refl e
low_begins from p (Gap q n ∷ segments) are e = omega (arith, low_begins (from + n) p segments are.1 e)

-- ---- whose a place is

pub turned : (a b : ℕ) → (a == b) ≡ (b == a)
turned a b = by (a == b) refl
  where
    by : (c : Bool) → (a == b) ≡ c → c ≡ (b == a)
    by true e = sym (eq-eqb b a (sym (eqb-true a b e)))
    by false e = sym (ne_eqb b a (λ same. let f : (a == b) ≡ true = eq-eqb a b (sym same) in cc))

abbrev pub seeks : List KeyHead → List ℕ
seeks heads = map (λ h. h.seek) heads

abbrev pub list_place : Option KeyHead → List ℕ
list_place None = []
list_place (Some l) = l.seek ∷ []

-- where a record may begin: at the first's place, at the list's, where a key says, or where a basket stands
abbrev pub own_places : Option KeyHead → List KeyHead → List ℕ → List ℕ
own_places info heads baskets = 100 ∷ (list_place info ++ (seeks heads ++ baskets))

-- the segment is a gap, or a record at one of these places
abbrev pub owned_by : List ℕ → Segment → Bool
owned_by owners (Record p n) = is_among owners p
owned_by owners (Gap p n) = true

list_counted : (info : Option KeyHead) → length (list_place info) ≡ list_count info
list_counted None = refl
list_counted (Some l) = refl

pub owns_counted : (info : Option KeyHead) (heads : List KeyHead) (baskets : List ℕ) → length (own_places info heads baskets) ≡ 1 + list_count info + length heads + length baskets
owns_counted info heads baskets =
    omega (arith, length-append (list_place info) (seeks heads ++ baskets), length-append (seeks heads) baskets, list_counted info, length-map heads (λ h. h.seek))

pub any_append : (p : ℕ) (xs ys : List ℕ) → is_among (xs ++ ys) p ≡ (is_among xs p || is_among ys p)
any_append p [] ys = refl
any_append p (x ∷ xs) ys = ap (λ (b : Bool). (x == p) || b) (any_append p xs ys) ∙ moved (x == p) (is_among xs p) (is_among ys p)
  where
    moved : (a b c : Bool) → (a || (b || c)) ≡ ((a || b) || c)
    moved true b c = refl
    moved false b c = refl

pub seeks_any : (heads : List KeyHead) (p : ℕ) → is_among (seeks heads) p ≡ list_any (λ h. h.seek == p) heads
seeks_any [] p = refl
seeks_any (h ∷ heads) p = ap (λ (b : Bool). (h.seek == p) || b) (seeks_any heads p)

list_at : (info : Option KeyHead) (p : ℕ) → is_list_at p info ≡ is_among (list_place info) p
list_at None p = refl
list_at (Some l) p = or_none (l.seek == p)
  where
    or_none : (a : Bool) → a ≡ (a || false)
    or_none true = refl
    or_none false = refl

four : (a l k b : Bool) → (((a || l) || k) || b) ≡ (a || (l || (k || b)))
four true l k b = refl
four false true k b = refl
four false false true b = refl
four false false false b = refl

-- the segment is someone's exactly where it is at one of their places
pub owned_is : (info : Option KeyHead) (heads : List KeyHead) (baskets : List ℕ) (x : Segment) → is_owned info heads baskets x ≡ owned_by (own_places info heads baskets) x
owned_is info heads baskets (Gap p n) = refl
owned_is info heads baskets (Record p n) =
    let rest : is_among (list_place info ++ (seeks heads ++ baskets)) p ≡ (is_among (list_place info) p || (is_among (seeks heads) p || is_among baskets p)) =
    any_append p (list_place info) (seeks heads ++ baskets) ∙ ap (λ (b : Bool). is_among (list_place info) p || b) (any_append p (seeks heads) baskets) in
    (λ i. ((turned p 100 i || list_at info p i) || sym (seeks_any heads p) i) || is_among baskets p)
    ∙ four (100 == p) (is_among (list_place info) p) (is_among (seeks heads) p) (is_among baskets p)
    ∙ ap (λ (b : Bool). (100 == p) || b) (sym rest)

pub all_owned : (info : Option KeyHead) (heads : List KeyHead) (baskets : List ℕ) (segments : List Segment) → list_all (is_owned info heads baskets) segments ≡ list_all (owned_by (own_places info heads baskets)) segments
all_owned info heads baskets segments = λ i. list_all (λ x. owned_is info heads baskets x i) segments

-- ---- one owner less

pub record IsOneLess (x : ℕ) (owners left : List ℕ) : Type 0 where
  pub one : length left + 1 ≡ length owners
  pub others : (p : ℕ) → is_among owners p ≡ true → (x ≡ p → ⊥) → is_among left p ≡ true

module _ (x : ℕ) (owners left : List ℕ) (less : IsOneLess x owners left) (segments : List Segment) (shape : AreSegments segments) (owned : list_all (owned_by owners) segments ≡ true)
    (count : record_count segments ≡ length owners) where
  owned_within : (some : List Segment) → list_all (owned_by owners) some ≡ true → IsWithin (record_places some) owners
  owned_within [] all p e = absurd cc
  owned_within (Record q n ∷ some) all p e =
      let parts = and_parts (is_among owners q) (list_all (owned_by owners) some) all in
      (elim (q == p) as (λ b. (q == p) ≡ b → (b || is_among (record_places some) p) ≡ true → is_among owners p ≡ true) [
        | true ↦ λ is y. subst (λ (r : ℕ). is_among owners r ≡ true) (eqb-true q p is) parts.0
        | false ↦ λ is y. owned_within some parts.1 p y
      ]) refl e
  owned_within (Gap q n ∷ some) all p e = owned_within some (and_parts true (list_all (owned_by owners) some) all).1 p e

  -- with a place of its own, which would be another's too, the others own all
  pub alone : is_among left x ≡ false
  alone = by (is_among left x) refl
    where
      within : is_among left x ≡ true → IsWithin (record_places segments) left
      within twice p e = either (x == p) refl
        where
          either : (b : Bool) → (x == p) ≡ b → is_among left p ≡ true
          either true is = subst (λ (r : ℕ). is_among left r ≡ true) (eqb-true x p is) twice
          either false is = less.others p (owned_within segments owned p e) (λ same. let f : (x == p) ≡ true = eq-eqb x p same in let g = is in cc)

      by : (b : Bool) → is_among left x ≡ b → b ≡ false
      by false e = refl
      by true e =
          let few = no_more (record_places segments) left (places_apart 100 segments shape.adjacent) (within e) in
          absurd (omega (arith, few, places_counted segments, count, less.one))

  -- so another one's place isn't its place
  pub other_place : (p : ℕ) → is_among left p ≡ true → (p == x) ≡ false
  other_place p e = by (p == x) refl
    where
      by : (b : Bool) → (p == x) ≡ b → b ≡ false
      by false is = refl
      by true is = let f = subst (λ (r : ℕ). is_among left r ≡ true) (eqb-true p x is) e in let g = alone in cc

  -- records of other places are still someone's
  owned_later : (from : ℕ) (some : List Segment) → x < from → AreAdjacent from some → list_all (owned_by owners) some ≡ true → list_all (owned_by left) some ≡ true
  owned_later from [] low are all = refl
  owned_later from (Record p n ∷ some) low are all =
      let parts = and_parts (is_among owners p) (list_all (owned_by owners) some) all in
      and_from (is_among left p) (list_all (owned_by left) some) (less.others p parts.0 (λ same. omega (arith, are.0.there, low, same)))
      (owned_later (from + n) some (omega (arith, low)) are.1 parts.1)
  owned_later from (Gap p n ∷ some) low are all = owned_later (from + n) some (omega (arith, low)) are.1 all

  free_owned : (p n : ℕ) (some : List Segment) → list_all (owned_by left) some ≡ true → list_all (owned_by left) (with_free p n some) ≡ true
  free_owned p n [] all = refl
  free_owned p n (Record q m ∷ some) all = all
  free_owned p n (Gap q m ∷ some) all = all

  pub owned_less : (from : ℕ) (some : List Segment) → AreAdjacent from some → list_all (owned_by owners) some ≡ true → list_all (owned_by left) (without_segment x some) ≡ true
  owned_less from [] are all = refl
  owned_less from (Record p n ∷ some) are all = by (p == x) refl (owned_less (from + n) some are.1 parts.1)
    where
      parts : (is_among owners p ≡ true) × (list_all (owned_by owners) some ≡ true)
      parts = and_parts (is_among owners p) (list_all (owned_by owners) some) all

      by : (b : Bool) → (p == x) ≡ b → list_all (owned_by left) (without_segment x some) ≡ true → list_all (owned_by left) (cond b (with_free p n some) (Record p n ∷ without_segment x some)) ≡ true
      by true is rest = free_owned p n some (owned_later (from + n) some (omega (arith, are.0.there, are.0.some, eqb-true p x is)) are.1 parts.1)
      by false is rest =
          and_from (is_among left p) (list_all (owned_by left) (without_segment x some)) (less.others p parts.0 (λ same. let f : (p == x) ≡ true = eq-eqb p x (sym same) in let g = is in cc)) rest
  owned_less from (Gap p n ∷ some) are all = free_owned p n (without_segment x some) (owned_less (from + n) some are.1 all)

  -- the others' records are still there
  pub begins_still : (p : ℕ) → is_among left p ≡ true → list_any (begins_at p) segments ≡ true → list_any (begins_at p) (without_segment x segments) ≡ true
  begins_still p e there = any_without p x (turned x p ∙ other_place p e) segments ∙ there

  pub placed_less : (some : List KeyHead) → IsWithin (seeks some) left → list_all (is_placed segments) some ≡ true → list_all (is_placed (without_segment x segments)) some ≡ true
  placed_less [] within all = refl
  placed_less (k ∷ some) within all =
      let parts = and_parts (is_placed segments k) (list_all (is_placed segments) some) all in
      and_from (is_placed (without_segment x segments) k) (list_all (is_placed (without_segment x segments)) some)
      (begins_still k.seek (within k.seek (or_left (k.seek == k.seek) (is_among (seeks some) k.seek) (eq-eqb k.seek k.seek refl))) parts.0)
      (placed_less some (λ p e. within p (or_right (k.seek == p) (is_among (seeks some) p) e)) parts.1)

  pub listed_less : (o : Option KeyHead) → IsWithin (list_place o) left → IfSome o (λ l. is_placed segments l ≡ true) → IfSome o (λ l. is_placed (without_segment x segments) l ≡ true)
  listed_less None within there = tt
  listed_less (Some l) within there = begins_still l.seek (within l.seek (or_left (l.seek == l.seek) false (eq-eqb l.seek l.seek refl))) there

  pub stored_less : (some : List ℕ) → IsWithin some left → list_all (λ p. list_any (begins_at p) segments) some ≡ true → list_all (λ p. list_any (begins_at p) (without_segment x segments)) some ≡ true
  stored_less [] within all = refl
  stored_less (q ∷ some) within all =
      let parts = and_parts (list_any (begins_at q) segments) (list_all (λ p. list_any (begins_at p) segments) some) all in
      and_from (list_any (begins_at q) (without_segment x segments)) (list_all (λ p. list_any (begins_at p) (without_segment x segments)) some)
      (begins_still q (within q (or_left (q == q) (is_among some q) (eq-eqb q q refl))) parts.0)
      (stored_less some (λ p e. within p (or_right (q == p) (is_among some p) e)) parts.1)

  -- it isn't the first, where that is the others'
  module _ (first : is_among left 100 ≡ true) (begins : list_any (begins_at x) segments ≡ true) where
    pub is_later : 100 < x
    is_later = by (x == 100) refl (low_begins 100 x segments shape.adjacent begins)
      where
        by : (b : Bool) → (x == 100) ≡ b → 100 ≤ x → 100 < x
        by true e low = let f = turned 100 x ∙ e in let g = other_place 100 first in absurd (let h : true ≡ false = sym f ∙ g in cc)
        by false e low = let other : x ≡ 100 → ⊥ = λ same. (let f : (x == 100) ≡ true = eq-eqb x 100 same in let g = e in cc) in omega (arith, low, other)

    pub left_without : (n : ℕ) × IsLeftWithout x n segments (without_segment x segments)
    left_without =
        let r = record_segment x segments begins in
        (r.1, subst (λ (ss : List Segment). IsLeftWithout x r.1 ss (without_segment x ss)) (sym r.3) (left_by_releases r.0 r.2 x r.1 (subst AreSegments r.3 shape) is_later))

-- ---- whose places are among all

module _ (info : Option KeyHead) (heads : List KeyHead) (baskets : List ℕ) where
  in_back : (p : ℕ) → is_among (seeks heads ++ baskets) p ≡ true → is_among (own_places info heads baskets) p ≡ true
  in_back p e =
      or_right (100 == p) (is_among (list_place info ++ (seeks heads ++ baskets)) p)
      (any_append p (list_place info) (seeks heads ++ baskets) ∙ or_right (is_among (list_place info) p) (is_among (seeks heads ++ baskets) p) e)

  pub first_in : is_among (own_places info heads baskets) 100 ≡ true
  first_in = refl

  pub list_in : IsWithin (list_place info) (own_places info heads baskets)
  list_in p e =
      or_right (100 == p) (is_among (list_place info ++ (seeks heads ++ baskets)) p)
      (any_append p (list_place info) (seeks heads ++ baskets) ∙ or_left (is_among (list_place info) p) (is_among (seeks heads ++ baskets) p) e)

  pub heads_in : IsWithin (seeks heads) (own_places info heads baskets)
  heads_in p e = in_back p (any_append p (seeks heads) baskets ∙ or_left (is_among (seeks heads) p) (is_among baskets p) e)

  pub baskets_in : IsWithin baskets (own_places info heads baskets)
  baskets_in p e = in_back p (any_append p (seeks heads) baskets ∙ or_right (is_among (seeks heads) p) (is_among baskets p) e)
