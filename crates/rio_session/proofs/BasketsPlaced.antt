-- The branches of a tree once open baskets are put: what its header says stays, and the baskets that were put stand behind those from before.
use Rattle.std.proofs.Common.{◌≡◌, ℕ, zero, suc, ◌+◌, ◌-◌, ◌≤◌, ◌<◌, List, [], ◌∷◌, ◌++◌, length, map, Bool, true, false, cond, not, ◌==◌, nat_lt, refl, sym, ap, subst, ◌∙◌, arith}
use Rattle.std.proofs.lemmas.{Bool.{ltb-false, ltb-true}, List.{append-nil, Elements.{filter-append}}}
use Rattle.std.specs.List.{filter}
use Rattle.rio_leaf.specs.declared.branch.BranchDef.{BranchDef}
use Rattle.rio_chain.specs.{Placing.{place_of, with_segment}, Segments.{Link, segment_of}, declared.segment.Segment.{Segment}}
use Rattle.rio_tree.specs.{declared.basket_at.BasketAt.{BasketAt}, declared.head.Branch.{Branch}}
use Rattle.rio_fill.specs.Fill.{BranchFill, branch_added, branch_put, branches_added, count_before, defs_of}
use Rattle.rio_effect.specs.Changes.{basket_added, basket_place, changed}
use Rattle.rio_effect.specs.TreeChanges.{all_behind, baskets_placed}
use Rattle.rio_effect.specs.TreeRecords.{BasketWords, basket_at, length_of_basket, words_of_basket}
use Rattle.rio_effect.proofs.FileChanges.{segments_follow}
use Rattle.rio_session.specs.Fillings.{put_open, words_of_open}
use Rattle.rio_session.specs.Fills.{branch_in_header, put_baskets, saved_baskets}
use Rattle.rio_session.proofs.ChangesAlike.{HaveEntries, flagged_entries}

-- ---- which branches are put

-- the open basket of a branch is put, at a place that names its first entry
pub record IsPutAt (count : ℕ) (b c : BranchFill) : Type 0 where
  pub at : BasketAt
  pub first : at.first ≡ count_before count b
  pub is : c ≡ branch_put at b

-- so it is of each flagged one, and the others stay
abbrev pub ArePut : ℕ → List BranchFill → List Bool → List BranchFill → Type 0
ArePut count [] flags [] = Unit {0}
ArePut count [] flags (c ∷ cs) = ⊥
ArePut count (b ∷ bs) flags [] = ⊥
ArePut count (b ∷ bs) [] (c ∷ cs) = (c ≡ b) × ArePut count bs [] cs
ArePut count (b ∷ bs) (true ∷ flags) (c ∷ cs) = IsPutAt count b c × ArePut count bs flags cs
ArePut count (b ∷ bs) (false ∷ flags) (c ∷ cs) = (c ≡ b) × ArePut count bs flags cs

none_put : (count : ℕ) (bs : List BranchFill) → ArePut count bs [] bs
none_put count [] = tt
none_put count (b ∷ bs) = (refl, none_put count bs)

pub puts_are : (datime : ℕ) (tree : List ℕ) (count : ℕ) (segments : List Segment) (bs : List BranchFill) (flags : List Bool) → ArePut count bs flags (put_open datime tree count segments bs flags).branches
puts_are datime tree count segments [] flags = tt
puts_are datime tree count segments (b ∷ bs) [] = (refl, none_put count bs)
puts_are datime tree count segments (b ∷ bs) (true ∷ flags) =
    let words = words_of_open tree datime b in
    let n = length_of_basket words in
    let place = place_of segments n in
    (record { at = basket_at place (count_before count b) words; first = refl; is = refl }, puts_are datime tree count (with_segment place n segments) bs flags)
puts_are datime tree count segments (b ∷ bs) (false ∷ flags) = (refl, puts_are datime tree count segments bs flags)

-- the open baskets begin behind the saved entries, in a tree of so many entries
abbrev pub BeginLater : ℕ → ℕ → List BranchFill → Type 0
BeginLater saved count [] = Unit {0}
BeginLater saved count (b ∷ bs) = (saved ≤ count_before count b) × BeginLater saved count bs

-- ---- one branch

module _ (saved : ℕ) (at : BasketAt) (b : BranchFill) (later : saved ≤ at.first) where
  not_saved : nat_lt at.first saved ≡ false
  not_saved = by (nat_lt at.first saved) refl
    where
      by : (t : Bool) → nat_lt at.first saved ≡ t → t ≡ false
      by true e = let low = ltb-true at.first saved e in absurd (omega (arith, low, later))
      by false e = refl

  pub one_saved : saved_baskets saved (branch_put at b) ≡ saved_baskets saved b
  one_saved =
      filter-append (λ (a : BasketAt). nat_lt a.first saved) b.baskets (at ∷ [])
      ∙ ap (λ (t : Bool). saved_baskets saved b ++ cond t (at ∷ []) []) not_saved
      ∙ append-nil (saved_baskets saved b)

  pub one_put : put_baskets saved (branch_put at b) ≡ put_baskets saved b ++ at ∷ []
  one_put =
      filter-append (λ (a : BasketAt). not (nat_lt a.first saved)) b.baskets (at ∷ [])
      ∙ ap (λ (t : Bool). put_baskets saved b ++ cond (not t) (at ∷ []) []) not_saved

  pub one_header : branch_in_header saved (branch_put at b) ≡ branch_in_header saved b
  one_header = λ i. record (branch_in_header saved b) { baskets = one_saved i }

-- ---- all branches

-- the header says the same
pub headers_put : (saved count : ℕ) (bs : List BranchFill) (flags : List Bool) (cs : List BranchFill) → BeginLater saved count bs → ArePut count bs flags cs → map (branch_in_header saved) cs ≡ map (branch_in_header saved) bs
headers_put saved count [] flags [] later are = refl
headers_put saved count [] flags (c ∷ cs) later are = absurd are
headers_put saved count (b ∷ bs) flags [] later are = absurd are
headers_put saved count (b ∷ bs) [] (c ∷ cs) later are =
    let rest = headers_put saved count bs [] cs later.1 are.1 in
    let same = are.0 in
    λ i. branch_in_header saved (same i) ∷ rest i
headers_put saved count (b ∷ bs) (true ∷ flags) (c ∷ cs) later are =
    let rest = headers_put saved count bs flags cs later.1 are.1 in
    let put = are.0 in
    let one : branch_in_header saved c ≡ branch_in_header saved b = ap (branch_in_header saved) put.is ∙ one_header saved put.at b (subst (λ (n : ℕ). saved ≤ n) (sym put.first) later.0) in
    λ i. one i ∷ rest i
headers_put saved count (b ∷ bs) (false ∷ flags) (c ∷ cs) later are =
    let rest = headers_put saved count bs flags cs later.1 are.1 in
    let same = are.0 in
    λ i. branch_in_header saved (same i) ∷ rest i

pub headers_added : (saved : ℕ) (bs : List BranchFill) (row : List (List ℕ)) → map (branch_in_header saved) (branches_added bs row) ≡ map (branch_in_header saved) bs
headers_added saved [] row = refl
headers_added saved (b ∷ bs) [] = refl
headers_added saved (b ∷ bs) (e ∷ row) = ap (λ (hs : List Branch). branch_in_header saved b ∷ hs) (headers_added saved bs row)

pub defs_put : (count : ℕ) (bs : List BranchFill) (flags : List Bool) (cs : List BranchFill) → ArePut count bs flags cs → defs_of cs ≡ defs_of bs
defs_put count [] flags [] are = refl
defs_put count [] flags (c ∷ cs) are = absurd are
defs_put count (b ∷ bs) flags [] are = absurd are
defs_put count (b ∷ bs) [] (c ∷ cs) are = let rest = defs_put count bs [] cs are.1 in let same = are.0 in λ i. (same i).def ∷ rest i
defs_put count (b ∷ bs) (true ∷ flags) (c ∷ cs) are = let rest = defs_put count bs flags cs are.1 in let same = are.0.is in λ i. (same i).def ∷ rest i
defs_put count (b ∷ bs) (false ∷ flags) (c ∷ cs) are = let rest = defs_put count bs flags cs are.1 in let same = are.0 in λ i. (same i).def ∷ rest i

pub puts_added : (saved : ℕ) (bs : List BranchFill) (row : List (List ℕ)) → map (put_baskets saved) (branches_added bs row) ≡ map (put_baskets saved) bs
puts_added saved [] row = refl
puts_added saved (b ∷ bs) [] = refl
puts_added saved (b ∷ bs) (e ∷ row) = ap (λ (l : List (List BasketAt)). put_baskets saved b ∷ l) (puts_added saved bs row)

-- ---- where they stand

-- no baskets behind others
behind_none : (datime : ℕ) (tree : List ℕ) (count : ℕ) (links : List Link) (saved : ℕ) (bs : List BranchFill)
    → all_behind (map (put_baskets saved) bs) (baskets_placed datime tree count links (defs_of bs) (flagged_entries bs [])) ≡ map (put_baskets saved) bs
behind_none datime tree count links saved [] = refl
behind_none datime tree count links saved (b ∷ bs) =
    let one = append-nil (put_baskets saved b) in
    let rest = behind_none datime tree count links saved bs in
    λ i. one i ∷ rest i

-- a basket that has entries is placed first
first_placed : (datime : ℕ) (tree : List ℕ) (count : ℕ) (links : List Link) (def : BranchDef) (defs : List BranchDef) (es : List (List ℕ)) (entries : List (List (List ℕ))) → (length es == 0) ≡ false
    → baskets_placed datime tree count links (def ∷ defs) (es ∷ entries)
    ≡ (basket_at (basket_place links (words_of_basket tree def datime es)) (count - length es) (words_of_basket tree def datime es) ∷ [])
    ∷ baskets_placed datime tree count (changed links (basket_added (words_of_basket tree def datime es))) defs entries
first_placed datime tree count links def defs [] entries some = absurd cc
first_placed datime tree count links def defs (e ∷ es) entries some = refl

pub baskets_behind : (datime : ℕ) (tree : List ℕ) (saved count : ℕ) (links : List Link) (bs : List BranchFill) (flags : List Bool) → HaveEntries bs flags → BeginLater saved count bs
    → map (put_baskets saved) (put_open datime tree count (map segment_of links) bs flags).branches
    ≡ all_behind (map (put_baskets saved) bs) (baskets_placed datime tree count links (defs_of bs) (flagged_entries bs flags))
baskets_behind datime tree saved count links [] flags some later = refl
baskets_behind datime tree saved count links (b ∷ bs) [] some later = sym (behind_none datime tree count links saved (b ∷ bs))
baskets_behind datime tree saved count links (b ∷ bs) (true ∷ flags) some later =
    let words = words_of_open tree datime b in
    let then = changed links (basket_added words) in
    let n = length_of_basket words in
    let place = place_of (map segment_of links) n in
    let at = basket_at place (count_before count b) words in
    let placed = baskets_placed datime tree count then (defs_of bs) (flagged_entries bs flags) in
    let rest : map (put_baskets saved) (put_open datime tree count (with_segment place n (map segment_of links)) bs flags).branches ≡ all_behind (map (put_baskets saved) bs) placed =
    ap (λ (segments : List Segment). map (put_baskets saved) (put_open datime tree count segments bs flags).branches) (sym (segments_follow links (basket_added words)))
    ∙ baskets_behind datime tree saved count then bs flags some.1 later.1 in
    let one = one_put saved at b later.0 in
    let both : map (put_baskets saved) (put_open datime tree count (map segment_of links) (b ∷ bs) (true ∷ flags)).branches ≡ (put_baskets saved b ++ at ∷ []) ∷ all_behind (map (put_baskets saved) bs) placed = λ i. one i ∷ rest i in
    both ∙ ap (all_behind (map (put_baskets saved) (b ∷ bs))) (sym (first_placed datime tree count links b.def (defs_of bs) b.entries (flagged_entries bs flags) (some.0 refl)))
baskets_behind datime tree saved count links (b ∷ bs) (false ∷ flags) some later =
    let one = sym (append-nil (put_baskets saved b)) in
    let rest = baskets_behind datime tree saved count links bs flags some.1 later.1 in
    λ i. one i ∷ rest i
