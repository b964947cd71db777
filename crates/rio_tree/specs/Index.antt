-- The baskets of a branch: which lists are an index, how many entries each basket has, and where an entry is looked for.
use Rattle.std.specs.{Prelude.{◌≡◌, ℕ, ◌-◌, ◌<◌, ◌≤◌, List, [], ◌∷◌, drop, nat_le}, List.{prefix_len}}
use Rattle.rio_tree.specs.declared.basket_at.BasketAt.{BasketAt}

-- ---- which lists are an index

-- the first entries rise from this one on, and are no more than the branch's entries
abbrev pub RisesFrom : ℕ → List BasketAt → ℕ → Type 0
RisesFrom first [] entries = first ≤ entries
RisesFrom first (b ∷ bs) entries = (first < b.first) × RisesFrom b.first bs entries

-- The baskets of a branch with so many entries: with entries there is one, the first begins at entry 0, and the first
-- entries rise.
abbrev pub IsIndex : List BasketAt → ℕ → Type 0
IsIndex [] entries = entries ≡ 0
IsIndex (b ∷ bs) entries = (b.first ≡ 0) × RisesFrom b.first bs entries

-- ---- how many entries each basket has

-- how many entries each basket has: up to the first of the next one, and the last one up to the branch's entries
abbrev pub counts_from : ℕ → List BasketAt → ℕ → List ℕ
counts_from first [] entries = (entries - first) ∷ []
counts_from first (b ∷ bs) entries = (b.first - first) ∷ counts_from b.first bs entries

abbrev pub basket_counts : List BasketAt → ℕ → List ℕ
basket_counts [] entries = []
basket_counts (b ∷ bs) entries = counts_from b.first bs entries

-- ---- where an entry is looked for

-- The number of the basket of an entry: how many behind the first one begin at the entry or before it. The first entries of a
-- branch that isn't refused rise from 0 on.
abbrev pub basket_number : ℕ → List BasketAt → ℕ
basket_number e baskets = prefix_len (λ at. nat_le at.first e) (drop 1 baskets)
