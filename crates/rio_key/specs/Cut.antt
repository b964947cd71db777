-- How the entries of a branch are divided into baskets, as they come.
use Rattle.std.specs.Prelude.{ℕ, ◌+◌, List, [], ◌∷◌, ◌++◌, length, if◌then◌else◌}
use Rattle.std.specs.List.{flat_map}
use Rattle.rio_key.specs.OpenBasket.{takes_entry}

-- the baskets that were put, each as its entries, and the entries of the open one
pub record Cut : Type 0 where
  pub put : List (List (List ℕ))
  pub rest : List (List ℕ)

-- One entry more. Where the open basket doesn't take it, that one is put first, and the entry is the first of a new one.
abbrev pub cut_more : Cut → List ℕ → Cut
cut_more cut entry =
    if takes_entry cut.rest (length entry) then record { put = cut.put; rest = cut.rest ++ entry ∷ [] }
    else record { put = cut.put ++ cut.rest ∷ []; rest = entry ∷ [] }

abbrev pub cut_behind : Cut → List (List ℕ) → Cut
cut_behind cut [] = cut
cut_behind cut (entry ∷ entries) = cut_behind (cut_more cut entry) entries

-- these entries, of which none was put before
abbrev pub cut_of : List (List ℕ) → Cut
cut_of entries = cut_behind (record { put = []; rest = [] }) entries

-- a basket of these entries, if there are some
abbrev pub basket_with : List (List ℕ) → List (List (List ℕ))
basket_with [] = []
basket_with (entry ∷ entries) = (entry ∷ entries) ∷ []

abbrev pub baskets_of_cut : Cut → List (List (List ℕ))
baskets_of_cut cut = cut.put ++ basket_with cut.rest

-- The baskets that hold these entries once all are put: the open one is the last. No entries have no basket.
abbrev pub cut_into_baskets : List (List ℕ) → List (List (List ℕ))
cut_into_baskets entries = baskets_of_cut (cut_of entries)

-- the entries of baskets, one behind the other
abbrev pub all_entries : List (List (List ℕ)) → List (List ℕ)
all_entries baskets = flat_map (λ b. b) baskets

-- the number of the first entry of each basket, counted from this one on
abbrev pub firsts_from : ℕ → List (List (List ℕ)) → List ℕ
firsts_from first [] = []
firsts_from first (entries ∷ baskets) = first ∷ firsts_from (first + length entries) baskets
