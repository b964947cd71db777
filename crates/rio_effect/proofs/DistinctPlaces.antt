-- Places of baskets, of which none stands twice.
use Rattle.std.proofs.Common.{◌≡◌, ◌⊎◌, inl, inr, ⊎_elim, ℕ, List, [], ◌∷◌, ◌++◌, map, true, not, ◌==◌, refl, sym, ap, subst}
use Rattle.std.proofs.{lemmas.Bool.{and_from, eqb-true}, lemmas.List.{map-append}}
use Rattle.std.specs.List.{flat_map}
use Rattle.rio_tree.specs.{declared.basket_at.BasketAt.{BasketAt}, declared.head.Branch.{Branch}}
use Rattle.rio_state.specs.Trees.{are_named_once}
use Rattle.rio_state.proofs.{Members.{In, in_either, in_left, in_right, none_from}, Places.{AreDistinct, distinct_append}}
use Rattle.rio_effect.specs.{BasketRuns.{places_put}, TreeChanges.{all_behind}, TreeRecords.{branches_with}}

-- ---- lists

abbrev pub AreApart : List ℕ → List ℕ → Type 0
AreApart xs ys = (p : ℕ) → In p xs → In p ys → ⊥

pub record DistinctParts (xs ys : List ℕ) : Type 0 where
  pub front : AreDistinct xs
  pub back : AreDistinct ys
  pub apart : AreApart xs ys

pub distinct_parts : (xs ys : List ℕ) → AreDistinct (xs ++ ys) → DistinctParts xs ys
distinct_parts [] ys d = record { front = tt; back = d; apart = λ p i j. i }
distinct_parts (x ∷ xs) ys d =
    let rest = distinct_parts xs ys d.1 in
    record {
      front = ((λ i. d.0 (in_left x xs ys i)), rest.front);
      back = rest.back;
      apart = λ p i j. ⊎_elim (λ same. d.0 (in_right x xs ys (subst (λ (q : ℕ). In q ys) (sym same) j))) (λ k. rest.apart p k j) i;
    }

-- such places are named once, where none is among others
pub once_from : (others ps : List ℕ) → AreDistinct ps → AreApart ps others → are_named_once others ps ≡ true
once_from others [] d apart = refl
once_from others (q ∷ qs) d apart =
    let none = none_from (λ o. q == o) others (λ o i e. apart q (inl refl) (subst (λ (x : ℕ). In x others) (sym (eqb-true q o e)) i)) in
    and_from _ _ (ap not none)
    (once_from (q ∷ others) qs d.1 (λ p i j. ⊎_elim (λ same. d.0 (subst (λ (x : ℕ). In x qs) (sym same) i)) (λ k. apart p (inr i) k) j))

-- four lists, of which the first two are one behind the other in the first list, and the others in the second
distinct_four : (a cs b bs rest : List ℕ) → AreDistinct (a ++ cs) → AreDistinct (b ++ bs) → AreApart (a ++ cs) (b ++ bs) → AreDistinct rest → ((p : ℕ) → In p rest → In p cs ⊎ In p bs)
    → AreDistinct ((a ++ b) ++ rest)
distinct_four a cs b bs rest one two apart d from =
    let first = distinct_parts a cs one in
    let second = distinct_parts b bs two in
    distinct_append (a ++ b) rest (distinct_append a b first.front second.front (λ p i j. apart p (in_left p a cs i) (in_left p b bs j))) d
    (λ p i j.
    ⊎_elim
    (λ k. ⊎_elim (λ l. first.apart p k l) (λ l. apart p (in_left p a cs k) (in_right p b bs l)) (from p j))
    (λ k. ⊎_elim (λ l. apart p (in_right p a cs l) (in_left p b bs k)) (λ l. second.apart p k l) (from p j))
    (in_either p a b i))

-- ---- baskets

abbrev seeks_of : List BasketAt → List ℕ
seeks_of ats = map (λ at. at.seek) ats

abbrev places_in : List Branch → List ℕ
places_in bs = flat_map (λ b. seeks_of b.baskets) bs

seeks_append : (xs ys : List BasketAt) → seeks_of (xs ++ ys) ≡ seeks_of xs ++ seeks_of ys
seeks_append xs ys = map-append (λ (at : BasketAt). at.seek) xs ys

module _ (p : ℕ) where
  -- a place among two lists of places is in front of one of them or of the other
  joined_in : (a cs b bs rest : List ℕ) → (In p rest → In p cs ⊎ In p bs) → In p ((a ++ b) ++ rest) → In p (a ++ cs) ⊎ In p (b ++ bs)
  joined_in a cs b bs rest from i =
      ⊎_elim
      (λ j. ⊎_elim (λ k. inl (in_left p a cs k)) (λ k. inr (in_left p b bs k)) (in_either p a b j))
      (λ j. ⊎_elim (λ k. inl (in_right p a cs k)) (λ k. inr (in_right p b bs k)) (from j))
      (in_either p (a ++ b) rest i)

  pub behind_in : (put more : List (List BasketAt)) → In p (places_put (all_behind put more)) → In p (places_put put) ⊎ In p (places_put more)
  behind_in [] more i = inr i
  behind_in (ats ∷ put) [] i = inl i
  behind_in (ats ∷ put) (x ∷ more) i =
      joined_in (seeks_of ats) (places_put put) (seeks_of x) (places_put more) (places_put (all_behind put more)) (λ j. behind_in put more j)
      (subst (λ (l : List ℕ). In p (l ++ places_put (all_behind put more))) (seeks_append ats x) i)

  pub with_in : (count : ℕ) (bs : List Branch) (more : List (List BasketAt)) → In p (places_in (branches_with count bs more)) → In p (places_in bs) ⊎ In p (places_put more)
  with_in count [] more i = absurd i
  with_in count (b ∷ bs) [] i =
      joined_in (seeks_of b.baskets) (places_in bs) [] [] (places_in (branches_with count bs [])) (λ j. with_in count bs [] j)
      (subst (λ (l : List ℕ). In p (l ++ places_in (branches_with count bs []))) (seeks_append b.baskets []) i)
  with_in count (b ∷ bs) (x ∷ more) i =
      joined_in (seeks_of b.baskets) (places_in bs) (seeks_of x) (places_put more) (places_in (branches_with count bs more)) (λ j. with_in count bs more j)
      (subst (λ (l : List ℕ). In p (l ++ places_in (branches_with count bs more))) (seeks_append b.baskets x) i)

-- baskets put behind others
pub distinct_behind : (put more : List (List BasketAt)) → AreDistinct (places_put put) → AreDistinct (places_put more) → AreApart (places_put put) (places_put more) → AreDistinct (places_put (all_behind put more))
distinct_behind [] more one two apart = two
distinct_behind (ats ∷ put) [] one two apart = one
distinct_behind (ats ∷ put) (x ∷ more) one two apart =
    let first = distinct_parts (seeks_of ats) (places_put put) one in
    let second = distinct_parts (seeks_of x) (places_put more) two in
    let rest = distinct_behind put more first.back second.back (λ p i j. apart p (in_right p (seeks_of ats) (places_put put) i) (in_right p (seeks_of x) (places_put more) j)) in
    subst (λ (l : List ℕ). AreDistinct (l ++ places_put (all_behind put more))) (sym (seeks_append ats x))
    (distinct_four (seeks_of ats) (places_put put) (seeks_of x) (places_put more) (places_put (all_behind put more)) one two apart rest (λ p i. behind_in p put more i))

-- and behind those of branches
pub distinct_with : (count : ℕ) (bs : List Branch) (more : List (List BasketAt)) → AreDistinct (places_in bs) → AreDistinct (places_put more) → AreApart (places_in bs) (places_put more)
    → AreDistinct (places_in (branches_with count bs more))
distinct_with count [] more one two apart = tt
distinct_with count (b ∷ bs) [] one two apart =
    let first = distinct_parts (seeks_of b.baskets) (places_in bs) one in
    let rest = distinct_with count bs [] first.back tt (λ p i j. j) in
    subst (λ (l : List ℕ). AreDistinct (l ++ places_in (branches_with count bs []))) (sym (seeks_append b.baskets []))
    (distinct_four (seeks_of b.baskets) (places_in bs) [] [] (places_in (branches_with count bs [])) one tt (λ p i j. j) rest (λ p i. with_in p count bs [] i))
distinct_with count (b ∷ bs) (x ∷ more) one two apart =
    let first = distinct_parts (seeks_of b.baskets) (places_in bs) one in
    let second = distinct_parts (seeks_of x) (places_put more) two in
    let rest = distinct_with count bs more first.back second.back (λ p i j. apart p (in_right p (seeks_of b.baskets) (places_in bs) i) (in_right p (seeks_of x) (places_put more) j)) in
    subst (λ (l : List ℕ). AreDistinct (l ++ places_in (branches_with count bs more))) (sym (seeks_append b.baskets x))
    (distinct_four (seeks_of b.baskets) (places_in bs) (seeks_of x) (places_put more) (places_in (branches_with count bs more)) one two apart rest (λ p i. with_in p count bs more i))
