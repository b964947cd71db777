-- The entries of a branch, one more of them, and all of them.
use Rattle.std.proofs.{Common.{◌≡◌, ℕ, ◌+◌, ◌-◌, List, [], ◌∷◌, ◌++◌, length, true, false, refl, ap, ◌∙◌, arith}, lemmas.List.{length-append}}
use Rattle.rio_key.specs.{OpenBasket.{takes_entry}, Cut.{Cut, all_entries, cut_behind, cut_more, cut_of, firsts_from}}
use Rattle.rio_key.proofs.CutAll.{all_of_cut}

pub cut_behind_more : (cut : Cut) (entries : List (List ℕ)) (entry : List ℕ) → cut_behind cut (entries ++ entry ∷ []) ≡ cut_more (cut_behind cut entries) entry
cut_behind_more cut [] entry = refl
cut_behind_more cut (e ∷ es) entry = cut_behind_more (cut_more cut e) es entry

pub cut_taken : (cut : Cut) (entry : List ℕ) → takes_entry cut.rest (length entry) ≡ true → cut_more cut entry ≡ record { put = cut.put; rest = cut.rest ++ entry ∷ [] }
cut_taken cut entry e = rw e refl

pub cut_full : (cut : Cut) (entry : List ℕ) → takes_entry cut.rest (length entry) ≡ false → cut_more cut entry ≡ record { put = cut.put ++ cut.rest ∷ []; rest = entry ∷ [] }
cut_full cut entry e = rw e refl

-- ---- numbers

pub firsts_more : (first : ℕ) (put : List (List (List ℕ))) (rest : List (List ℕ)) → firsts_from first (put ++ rest ∷ []) ≡ firsts_from first put ++ (first + length (all_entries put)) ∷ []
firsts_more first [] rest = ap (λ (n : ℕ). n ∷ []) (omega arith)
firsts_more first (b ∷ bs) rest =
    let len = length-append b (all_entries bs) in
    let e : first + length b + length (all_entries bs) ≡ first + length (b ++ all_entries bs) = omega (arith, len) in
    ap (λ (l : List ℕ). first ∷ l) (firsts_more (first + length b) bs rest ∙ ap (λ (n : ℕ). firsts_from (first + length b) bs ++ n ∷ []) e)

-- how many entries stand before the open basket
pub count_put : (saved : ℕ) (entries : List (List ℕ)) → saved + length entries - length (cut_of entries).rest ≡ saved + length (all_entries (cut_of entries).put)
count_put saved entries =
    let cut = cut_of entries in
    let len = length-append (all_entries cut.put) cut.rest in
    let all = ap length (all_of_cut entries) in
    omega (arith, len, all)
