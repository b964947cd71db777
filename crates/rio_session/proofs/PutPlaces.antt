-- Where the baskets stand that were put since the last saves: they are among those that a session keeps.
use Rattle.std.proofs.Common.{◌≡◌, ◌==◌, inl, ℕ, List, [], ◌∷◌, map, not, nat_lt, Bool, true, false, cond, Some, inr, refl, subst}
use Rattle.std.proofs.lemmas.Bool.{eq-eqb}
use Rattle.std.specs.{Prelude.{if◌then◌else◌}, List.{filter, find, flat_map}, Option.{option_map_or}}
use Rattle.rio_tree.specs.{declared.basket_at.BasketAt.{BasketAt}, declared.head.Branch.{Branch}}
use Rattle.rio_fill.specs.Fill.{BranchFill}
use Rattle.rio_state.proofs.Members.{In, any_from, filter_in, in_either, in_left, in_map, in_right, map_in}
use Rattle.rio_effect.specs.BasketRuns.{places_put}
use Rattle.rio_session.specs.Fills.{FilledTree, branch_in_header, is_tree_of, places_of_fill, places_of_trees, put_baskets, put_in, put_of, saved_baskets}
use Rattle.rio_session.proofs.Apart.{is_among}

filtered_in : (q : BasketAt → Bool) (p : ℕ) (ats : List BasketAt) → In p (map (λ at. at.seek) (filter q ats)) → In p (map (λ at. at.seek) ats)
filtered_in q p ats i =
    let (at, among, same) = map_in (λ (at : BasketAt). at.seek) p (filter q ats) i in
    let own = filter_in q at ats among in
    by at.seek same (in_map (λ (at : BasketAt). at.seek) at ats own.0)
  where
    by : (k : ℕ) → k ≡ p → In k (map (λ at. at.seek) ats) → In p (map (λ at. at.seek) ats)
    by k same j = subst (λ (n : ℕ). In n (map (λ at. at.seek) ats)) same j

branches_in : (saved p : ℕ) (bs : List BranchFill) → In p (places_put (map (put_baskets saved) bs)) → In p (flat_map (λ (b : BranchFill). map (λ (at : BasketAt). at.seek) b.baskets) bs)
branches_in saved p [] i = absurd i
branches_in saved p (b ∷ bs) i =
    elim (in_either p (map (λ at. at.seek) (put_baskets saved b)) (places_put (map (put_baskets saved) bs)) i) [
      | inl j ↦ in_left p (map (λ at. at.seek) b.baskets) (flat_map (λ (b : BranchFill). map (λ (at : BasketAt). at.seek) b.baskets) bs) (filtered_in (λ at. not (nat_lt at.first saved)) p b.baskets j)
      | inr j ↦ in_right p (map (λ at. at.seek) b.baskets) (flat_map (λ (b : BranchFill). map (λ (at : BasketAt). at.seek) b.baskets) bs) (branches_in saved p bs j)
    ]

pub saved_in : (saved p : ℕ) (bs : List BranchFill) → In p (flat_map (λ (b : Branch). map (λ (at : BasketAt). at.seek) b.baskets) (map (branch_in_header saved) bs))
    → In p (flat_map (λ (b : BranchFill). map (λ (at : BasketAt). at.seek) b.baskets) bs)
saved_in saved p [] i = absurd i
saved_in saved p (b ∷ bs) i =
    elim (in_either p (map (λ at. at.seek) (saved_baskets saved b)) (flat_map (λ (b : Branch). map (λ (at : BasketAt). at.seek) b.baskets) (map (branch_in_header saved) bs)) i) [
      | inl j ↦ in_left p (map (λ at. at.seek) b.baskets) (flat_map (λ (b : BranchFill). map (λ (at : BasketAt). at.seek) b.baskets) bs) (filtered_in (λ at. nat_lt at.first saved) p b.baskets j)
      | inr j ↦ in_right p (map (λ at. at.seek) b.baskets) (flat_map (λ (b : BranchFill). map (λ (at : BasketAt). at.seek) b.baskets) bs) (saved_in saved p bs j)
    ]

-- of one tree
pub put_in_fill : (t : FilledTree) (p : ℕ) → In p (places_put (put_of t.fill)) → In p (places_of_fill t.fill)
put_in_fill t p i = by (t.fill.pending == 0) i
  where
    by : (b : Bool) → In p (places_put (if b then [] else map (put_baskets t.fill.saved) t.fill.branches)) → In p (places_of_fill t.fill)
    by true i = absurd i
    by false i = branches_in t.fill.saved p t.fill.branches i

-- of the tree of a name
pub put_in_places : (name : List ℕ) (trees : List FilledTree) (p : ℕ) → In p (places_put (put_in trees name)) → In p (places_of_trees trees)
put_in_places name [] p i = absurd i
put_in_places name (t ∷ ts) p i = by (is_tree_of name t) i (put_in_places name ts p)
  where
    by : (b : Bool) → In p (places_put (option_map_or (λ (u : FilledTree). put_of u.fill) (cond b (Some t) (find (is_tree_of name) ts)) [])) → (In p (places_put (put_in ts name)) → In p (places_of_trees ts)) → In p (places_of_trees (t ∷ ts))
    by true i rest = in_left p (places_of_fill t.fill) (places_of_trees ts) (put_in_fill t p i)
    by false i rest = in_right p (places_of_fill t.fill) (places_of_trees ts) (rest i)

pub in_among : (p : ℕ) (places : List ℕ) → In p places → is_among places p ≡ true
in_among p places i = any_from (λ q. q == p) p places i (eq-eqb p p refl)
