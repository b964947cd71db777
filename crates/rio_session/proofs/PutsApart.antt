-- The baskets of two trees that were put since their last saves stand at different places.
use Rattle.std.proofs.Common.{◌≡◌, ◌==◌, inl, inr, ⊎_elim, ℕ, List, [], ◌∷◌, ◌++◌, map, Bool, true, false, cond, not, nat_lt, Some, refl, sym, subst, ◌∙◌}
use Rattle.std.proofs.lemmas.{Bool.{eq-eqb}, Option.{same_Some}, Slice.Eq.{bytes_eq-Decides}}
use Rattle.std.specs.{Prelude.{if◌then◌else◌}, List.{find, flat_map, list_any}, Str.{bytes_eq}}
use Rattle.rio_tree.specs.declared.basket_at.BasketAt.{BasketAt}
use Rattle.rio_fill.specs.Fill.{BranchFill, TreeFill}
use Rattle.rio_state.proofs.Members.{In, filter_in, in_either, in_left, in_map, in_right, map_in, none_at, none_from}
use Rattle.rio_effect.specs.BasketRuns.{places_put}
use Rattle.rio_session.specs.{Due.{AreApart}, Fills.{FilledTree, is_tree_of, places_of_fill, places_of_trees, put_baskets, put_of}}

-- ---- places that are apart

none_among : (p : ℕ) (ps : List ℕ) → list_any (λ q. q == p) ps ≡ false → In p ps → ⊥
none_among p ps none i = none_at (λ q. q == p) p ps none i (eq-eqb p p refl)

pub apart_back : (xs ys : List ℕ) → AreApart (xs ++ ys) → AreApart ys
apart_back [] ys are = are
apart_back (x ∷ xs) ys are = apart_back xs ys are.1

pub apart_front : (xs ys : List ℕ) → AreApart (xs ++ ys) → AreApart xs
apart_front [] ys are = tt
apart_front (x ∷ xs) ys are = (none_from (λ q. q == x) xs (λ p i e. none_at (λ q. q == x) p (xs ++ ys) are.0 (in_left p xs ys i) e), apart_front xs ys are.1)

pub apart_both : (xs ys : List ℕ) → AreApart (xs ++ ys) → (p : ℕ) → In p xs → In p ys → ⊥
apart_both [] ys are p i j = absurd i
apart_both (x ∷ xs) ys are p (inl same) j = none_among x (xs ++ ys) are.0 (in_right x xs ys (subst (λ (q : ℕ). In q ys) (sym same) j))
apart_both (x ∷ xs) ys are p (inr i) j = apart_both xs ys are.1 p i j

-- ---- a tree's places

seek_in : (saved : ℕ) (b : BranchFill) (p : ℕ) → In p (map (λ at. at.seek) (put_baskets saved b)) → In p (map (λ at. at.seek) b.baskets)
seek_in saved b p i =
    let from = map_in (λ (at : BasketAt). at.seek) p (put_baskets saved b) i in
    let among = (filter_in (λ at. not (nat_lt at.first saved)) from.0 b.baskets from.1).0 in
    subst (λ (q : ℕ). In q (map (λ at. at.seek) b.baskets)) from.2 (in_map (λ (at : BasketAt). at.seek) from.0 b.baskets among)

put_in_places : (saved : ℕ) (bs : List BranchFill) (p : ℕ) → In p (places_put (map (put_baskets saved) bs)) → In p (flat_map (λ b. map (λ at. at.seek) b.baskets) bs)
put_in_places saved [] p i = absurd i
put_in_places saved (b ∷ bs) p i =
    let own = map (λ (at : BasketAt). at.seek) b.baskets in
    let rest = flat_map (λ (c : BranchFill). map (λ at. at.seek) c.baskets) bs in
    ⊎_elim (λ j. in_left p own rest (seek_in saved b p j)) (λ j. in_right p own rest (put_in_places saved bs p j))
    (in_either p (map (λ at. at.seek) (put_baskets saved b)) (places_put (map (put_baskets saved) bs)) i)

pub put_places : (t : TreeFill) (p : ℕ) → In p (places_put (put_of t)) → In p (places_of_fill t)
put_places t p i = by (t.pending == 0) i
  where
    by : (b : Bool) → In p (places_put (if b then [] else map (put_baskets t.saved) t.branches)) → In p (places_of_fill t)
    by true i = absurd i
    by false i = put_in_places t.saved t.branches p i

-- ---- two trees

among_trees : (name : List ℕ) (t : FilledTree) (ts : List FilledTree) → find (is_tree_of name) ts ≡ Some t → (p : ℕ) → In p (places_of_fill t.fill) → In p (places_of_trees ts)
among_trees name t [] found p i = absurd cc
among_trees name t (u ∷ us) found p i = by (is_tree_of name u) found (among_trees name t us)
  where
    by : (b : Bool) → cond b (Some u) (find (is_tree_of name) us) ≡ Some t → (find (is_tree_of name) us ≡ Some t → (p : ℕ) → In p (places_of_fill t.fill) → In p (places_of_trees us)) → In p (places_of_trees (u ∷ us))
    by true found later = in_left p (places_of_fill u.fill) (places_of_trees us) (subst (λ (v : FilledTree). In p (places_of_fill v.fill)) (sym (same_Some u t found)) i)
    by false found later = in_right p (places_of_fill u.fill) (places_of_trees us) (later found p i)

pub trees_apart : (a b : List ℕ) (t u : FilledTree) (ts : List FilledTree) → bytes_eq a b ≡ false → find (is_tree_of a) ts ≡ Some t → find (is_tree_of b) ts ≡ Some u → AreApart (places_of_trees ts)
    → (p : ℕ) → In p (places_of_fill t.fill) → In p (places_of_fill u.fill) → ⊥
trees_apart a b t u [] other one two apart p i j = absurd cc
trees_apart a b t u (v ∷ vs) other one two apart p i j =
    by (is_tree_of a v) (is_tree_of b v) refl refl one two (λ x y. trees_apart a b t u vs other x y (apart_back (places_of_fill v.fill) (places_of_trees vs) apart) p i j)
  where
    by : (c d : Bool) → is_tree_of a v ≡ c → is_tree_of b v ≡ d → cond c (Some v) (find (is_tree_of a) vs) ≡ Some t → cond d (Some v) (find (is_tree_of b) vs) ≡ Some u
        → (find (is_tree_of a) vs ≡ Some t → find (is_tree_of b) vs ≡ Some u → ⊥) → ⊥
    by true true e f one two later =
        let same : a ≡ b = sym ((bytes_eq-Decides v.name a).0 e) ∙ (bytes_eq-Decides v.name b).0 f in
        let never : true ≡ false = sym ((bytes_eq-Decides a b).1 same) ∙ other in
        absurd cc
    by true false e f one two later =
        apart_both (places_of_fill v.fill) (places_of_trees vs) apart p (subst (λ (w : FilledTree). In p (places_of_fill w.fill)) (sym (same_Some v t one)) i) (among_trees b u vs two p j)
    by false true e f one two later =
        apart_both (places_of_fill v.fill) (places_of_trees vs) apart p (subst (λ (w : FilledTree). In p (places_of_fill w.fill)) (sym (same_Some v u two)) j) (among_trees a t vs one p i)
    by false false e f one two later = later one two
