-- A branch with one entry more.
use Rattle.std.proofs.Common.{◌≡◌, ◌==◌, ℕ, ◌+◌, ◌-◌, List, [], ◌∷◌, ◌++◌, length, true, false, refl, sym, ap, ◌∙◌, append_assoc}
use Rattle.std.proofs.lemmas.List.{append-nil, map-append}
use Rattle.rio_key.specs.{OpenBasket.{takes_entry}, Cut.{Cut, basket_with, cut_into_baskets, cut_more, cut_of, firsts_from}}
use Rattle.rio_tree.specs.declared.basket_at.BasketAt.{BasketAt}
use Rattle.rio_fill.specs.{Fill.{BranchFill, branch_added, branch_put, count_before, has_no_entries, takes}, Laws.{EntryKeepsCut, FreshIsCut, IsCut, SaveListsBaskets, firsts_of}}
use Rattle.rio_fill.proofs.CutLaws.{count_put, cut_behind_more, cut_full, cut_taken, firsts_more}

module _ (saved : ℕ) (before : List BasketAt) (pending : List (List ℕ)) (b : BranchFill) (entry : List ℕ) (so_far : IsCut saved before pending b) where
  abbrev pub cut : Cut
  cut = cut_of pending

  more : cut_of (pending ++ entry ∷ []) ≡ cut_more cut entry
  more = cut_behind_more (record { put = []; rest = [] }) pending entry

  taken : takes b entry ≡ true → IsCut saved before (pending ++ entry ∷ []) (branch_added b entry)
  taken fits =
      let test : takes_entry cut.rest (length entry) ≡ true = ap (λ (l : List (List ℕ)). takes_entry l (length entry)) (sym so_far.open_entries) ∙ fits in
      let is = more ∙ cut_taken cut entry test in
      record {
        put = so_far.put ∙ ap (λ (c : Cut). firsts_of before ++ firsts_from saved c.put) (sym is);
        open_entries = ap (λ (l : List (List ℕ)). l ++ entry ∷ []) so_far.open_entries ∙ ap (λ (c : Cut). c.rest) (sym is);
      }

  full : (at : BasketAt) → takes b entry ≡ false → at.first ≡ count_before (saved + length pending) b → IsCut saved before (pending ++ entry ∷ []) (branch_added (branch_put at b) entry)
  full at fits first =
      let test : takes_entry cut.rest (length entry) ≡ false = ap (λ (l : List (List ℕ)). takes_entry l (length entry)) (sym so_far.open_entries) ∙ fits in
      let is = more ∙ cut_full cut entry test in
      let there = first ∙ ap (λ (l : List (List ℕ)). saved + length pending - length l) so_far.open_entries ∙ count_put saved pending in
      record {
        put =
            map-append (λ (a : BasketAt). a.first) b.baskets (at ∷ [])
            ∙ ap (λ (l : List ℕ). l ++ at.first ∷ []) so_far.put
            ∙ ap (λ (n : ℕ). (firsts_of before ++ firsts_from saved cut.put) ++ n ∷ []) there
            ∙ append_assoc (firsts_of before) (firsts_from saved cut.put) _
            ∙ ap (λ (l : List ℕ). firsts_of before ++ l) (sym (firsts_more saved cut.put cut.rest))
            ∙ ap (λ (c : Cut). firsts_of before ++ firsts_from saved c.put) (sym is);
        open_entries = ap (λ (c : Cut). c.rest) (sym is);
      }

pub entry_keeps_cut : EntryKeepsCut
entry_keeps_cut saved before pending b entry so_far = (taken saved before pending b entry so_far, full saved before pending b entry so_far)

-- ---- no pending entries

pub fresh_is_cut : FreshIsCut
fresh_is_cut saved b none = record { put = sym (append-nil (firsts_of b.baskets)); open_entries = none }

-- ---- a save

some_basket : (entries : List (List ℕ)) → (length entries == 0) ≡ false → basket_with entries ≡ entries ∷ []
some_basket [] e = absurd cc
some_basket (x ∷ xs) e = refl

module _ (saved : ℕ) (before : List BasketAt) (pending : List (List ℕ)) (b : BranchFill) (so_far : IsCut saved before pending b) where
  abbrev baskets : List (List (List ℕ))
  baskets = (cut_of pending).put

  none_open : b.entries ≡ [] → firsts_of b.baskets ≡ firsts_of before ++ firsts_from saved (cut_into_baskets pending)
  none_open none =
      let rest = sym so_far.open_entries ∙ none in
      so_far.put
      ∙ ap (λ (l : List (List (List ℕ))). firsts_of before ++ firsts_from saved l) (sym (append-nil baskets) ∙ ap (λ (l : List (List ℕ)). baskets ++ basket_with l) (sym rest))

  last_open : (at : BasketAt) → has_no_entries b ≡ false → at.first ≡ count_before (saved + length pending) b → firsts_of (b.baskets ++ at ∷ []) ≡ firsts_of before ++ firsts_from saved (cut_into_baskets pending)
  last_open at some first =
      let rest = (cut_of pending).rest in
      let there = first ∙ ap (λ (l : List (List ℕ)). saved + length pending - length l) so_far.open_entries ∙ count_put saved pending in
      let last = some_basket rest (ap (λ (l : List (List ℕ)). length l == 0) (sym so_far.open_entries) ∙ some) in
      map-append (λ (a : BasketAt). a.first) b.baskets (at ∷ [])
      ∙ ap (λ (l : List ℕ). l ++ at.first ∷ []) so_far.put
      ∙ ap (λ (n : ℕ). (firsts_of before ++ firsts_from saved baskets) ++ n ∷ []) there
      ∙ append_assoc (firsts_of before) (firsts_from saved baskets) _
      ∙ ap (λ (l : List ℕ). firsts_of before ++ l) (sym (firsts_more saved baskets rest))
      ∙ ap (λ (l : List (List (List ℕ))). firsts_of before ++ firsts_from saved (baskets ++ l)) (sym last)

pub save_lists_baskets : SaveListsBaskets
save_lists_baskets saved before pending b so_far = (none_open saved before pending b so_far, last_open saved before pending b so_far)
