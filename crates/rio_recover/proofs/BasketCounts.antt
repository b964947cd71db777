-- How many baskets headers name, counted up to a limit.
use Rattle.std.proofs.Common.{◌≡◌, ◌∙◌, ℕ, ◌+◌, ◌-◌, ◌^◌, ◌<◌, ◌≤◌, List, [], ◌∷◌, ◌++◌, append-nil, length, map, min, take, get_or, refl, sym, ap, arith}
use Rattle.std.proofs.lemmas.List.{length-append, length-map, take_more, take_all, Concat.{flat_map-append}}
use Rattle.std.specs.List.{flat_map}
use Rattle.rio_tree.specs.{declared.basket_at.BasketAt.{BasketAt}, declared.head.Branch.{Branch}}
use Rattle.rio_state.specs.Trees.{basket_places}
use Rattle.rio_recover.specs.{Trees.{places_of}, declared.trees.TreeAt.{TreeAt}}
use Rattle.rio_recover.proofs.PlacesNoted.{branch_places}

-- one part more
flat_longer : {A : Type 0} (f : A → List ℕ) (xs : List A) (k : ℕ) (x : A) → k < length xs → x ≡ get_or xs k x → length (flat_map f (take (k + 1) xs)) ≡ length (flat_map f (take k xs)) + length (f x)
flat_longer f xs k x lt is =
    ap (λ (ys : List _). length (flat_map f ys)) (take_more xs k x lt ∙ ap (λ (y : _). take k xs ++ y ∷ []) (sym is))
    ∙ ap length (flat_map-append f (take k xs) (x ∷ []) ∙ ap (λ (ps : List ℕ). flat_map f (take k xs) ++ ps) (append-nil (f x)))
    ∙ length-append (flat_map f (take k xs)) (f x)

pub branch_counted : (branches : List Branch) (k : ℕ) (b : Branch) (old new seen : ℕ) → k < length branches → b ≡ get_or branches k b → old ≡ min (length (branch_places (take k branches))) (2 ^ 64 - 1)
    → seen ≡ length b.baskets → new ≡ min (old + seen) (2 ^ 64 - 1) → new ≡ min (length (branch_places (take (k + 1) branches))) (2 ^ 64 - 1)
branch_counted branches k b old new seen lt is so sees more =
    let longer = flat_longer (λ (c : Branch). map (λ (at : BasketAt). at.seek) c.baskets) branches k b lt is in
    omega (arith, so, sees, more, longer, length-map b.baskets (λ (at : BasketAt). at.seek))

pub tree_counted : (trees : List TreeAt) (k : ℕ) (t : TreeAt) (old new seen : ℕ) → k < length trees → t ≡ get_or trees k t → old ≡ min (length (places_of (take k trees))) (2 ^ 64 - 1)
    → seen ≡ min (length (basket_places t.head)) (2 ^ 64 - 1) → new ≡ min (old + seen) (2 ^ 64 - 1) → new ≡ min (length (places_of (take (k + 1) trees))) (2 ^ 64 - 1)
tree_counted trees k t old new seen lt is so sees more =
    let longer = flat_longer (λ (u : TreeAt). basket_places u.head) trees k t lt is in
    omega (arith, so, sees, more, longer)

pub all_branches : (branches seen : List Branch) (k count : ℕ) → seen ≡ branches → length seen ≤ k → count ≡ min (length (branch_places (take k seen))) (2 ^ 64 - 1) → count ≡ min (length (branch_places branches)) (2 ^ 64 - 1)
all_branches branches seen k count sees le so = so ∙ ap (λ (bs : List Branch). min (length (branch_places bs)) (2 ^ 64 - 1)) (take_all k seen le ∙ sees)

pub all_trees : (trees : List TreeAt) (k count : ℕ) → length trees ≤ k → count ≡ min (length (places_of (take k trees))) (2 ^ 64 - 1) → count ≡ min (length (places_of trees)) (2 ^ 64 - 1)
all_trees trees k count le so = so ∙ ap (λ (ts : List TreeAt). min (length (places_of ts)) (2 ^ 64 - 1)) (take_all k trees le)
