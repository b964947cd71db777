-- The open baskets that are put make the same changes of a file by what is kept beside it as by its records.
use Rattle.std.proofs.Common.{◌≡◌, ℕ, zero, suc, List, [], ◌∷◌, length, map, take, Bool, true, false, ◌==◌, refl, sym, ap, subst, ◌∙◌, arith}
use Rattle.std.proofs.Math.Seq.{take-nil}
use Rattle.std.proofs.lemmas.List.{take_all}
use Rattle.rio_leaf.specs.declared.branch.BranchDef.{BranchDef}
use Rattle.rio_chain.specs.{Placing.{place_of, with_segment}, Segments.{Link, segment_of}, declared.segment.Segment.{Segment}}
use Rattle.rio_fill.specs.Fill.{BranchFill, branch_put, count_before, defs_of, has_no_entries}
use Rattle.rio_effect.specs.Changes.{Change, all_changed, basket_added, basket_place, changed, lengths_of}
use Rattle.rio_effect.specs.TreeChanges.{basket_changes}
use Rattle.rio_effect.specs.TreeRecords.{BasketWords, basket_at, length_of_basket, words_of_basket}
use Rattle.rio_effect.proofs.FileChanges.{segments_follow}
use Rattle.rio_session.specs.Fillings.{BasketsPut, put_before, put_open, words_of_open}
use Rattle.rio_session.specs.Kept.{all_done}

-- ---- which baskets are put

-- the entries of the open baskets of the flagged branches
abbrev pub flagged_entries : List BranchFill → List Bool → List (List (List ℕ))
flagged_entries [] flags = []
flagged_entries (b ∷ bs) [] = [] ∷ flagged_entries bs []
flagged_entries (b ∷ bs) (true ∷ flags) = b.entries ∷ flagged_entries bs flags
flagged_entries (b ∷ bs) (false ∷ flags) = [] ∷ flagged_entries bs flags

-- each flagged one has entries
abbrev pub HaveEntries : List BranchFill → List Bool → Type 0
HaveEntries [] flags = Unit {0}
HaveEntries (b ∷ bs) [] = Unit {0}
HaveEntries (b ∷ bs) (flag ∷ flags) = (flag ≡ true → has_no_entries b ≡ false) × HaveEntries bs flags

-- ---- the changes

-- These puts make these changes of the links, each the same as far as it goes.
pub record AreAlike (links : List Link) (p : BasketsPut) (cs : List Change) : Type 0 where
  pub lengths : p.lengths ≡ lengths_of cs
  pub many : length p.changes ≡ length cs
  pub done : (k : ℕ) → all_done (take k p.changes) links ≡ all_changed links (take k cs)
  pub segments : p.segments ≡ map segment_of (all_changed links cs)

none_alike : (links : List Link) (branches : List BranchFill) → AreAlike links (record { lengths = []; changes = []; segments = map segment_of links; branches = branches }) []
none_alike links branches = record {
  lengths = refl;
  many = refl;
  done = λ k. ap (λ (l : List (List Link → List Link)). all_done l links) (take-nil k) ∙ sym (ap (all_changed links) (take-nil k));
  segments = refl;
}

first_alike : (links : List Link) (words : BasketWords) (b : BranchFill) (p : BasketsPut) (cs : List Change) → AreAlike (changed links (basket_added words)) p cs
    → AreAlike links (put_before (basket_place links words) words b p) (basket_added words ∷ cs)
first_alike links words b p cs rest = record {
  lengths = ap (λ (l : List ℕ). length_of_basket words ∷ l) rest.lengths;
  many = ap (λ (n : ℕ). suc n) rest.many;
  done = by;
  segments = rest.segments;
}
  where
    by : (k : ℕ) → all_done (take k (put_before (basket_place links words) words b p).changes) links ≡ all_changed links (take k (basket_added words ∷ cs))
    by zero = refl
    by (suc k) = rest.done k

-- a basket that has entries is put first
first_change : (datime : ℕ) (tree : List ℕ) (def : BranchDef) (defs : List BranchDef) (es : List (List ℕ)) (entries : List (List (List ℕ))) → (length es == 0) ≡ false
    → basket_changes datime tree (def ∷ defs) (es ∷ entries) ≡ basket_added (words_of_basket tree def datime es) ∷ basket_changes datime tree defs entries
first_change datime tree def defs [] entries some = absurd cc
first_change datime tree def defs (e ∷ es) entries some = refl

no_changes : (datime : ℕ) (tree : List ℕ) (bs : List BranchFill) → basket_changes datime tree (defs_of bs) (flagged_entries bs []) ≡ []
no_changes datime tree [] = refl
no_changes datime tree (b ∷ bs) = no_changes datime tree bs

other_branches : (links : List Link) (p : BasketsPut) (cs : List Change) (branches : List BranchFill) → AreAlike links p cs → AreAlike links (record p { branches = branches }) cs
other_branches links p cs branches are = record { lengths = are.lengths; many = are.many; done = are.done; segments = are.segments }

pub puts_alike : (datime : ℕ) (tree : List ℕ) (count : ℕ) (links : List Link) (bs : List BranchFill) (flags : List Bool) → HaveEntries bs flags
    → AreAlike links (put_open datime tree count (map segment_of links) bs flags) (basket_changes datime tree (defs_of bs) (flagged_entries bs flags))
puts_alike datime tree count links [] flags some = none_alike links []
puts_alike datime tree count links (b ∷ bs) [] some =
    subst (AreAlike links (record { lengths = []; changes = []; segments = map segment_of links; branches = b ∷ bs })) (sym (no_changes datime tree (b ∷ bs))) (none_alike links (b ∷ bs))
puts_alike datime tree count links (b ∷ bs) (true ∷ flags) some =
    let words = words_of_open tree datime b in
    let then = changed links (basket_added words) in
    let cs = basket_changes datime tree (defs_of bs) (flagged_entries bs flags) in
    let rest = subst (λ (segments : List Segment). AreAlike then (put_open datime tree count segments bs flags) cs) (segments_follow links (basket_added words)) (puts_alike datime tree count then bs flags some.1) in
    let n = length_of_basket words in
    let segments = map segment_of links in
    let place = place_of segments n in
    let after = put_open datime tree count (with_segment place n segments) bs flags in
    let put = branch_put (basket_at place (count_before count b) words) b in
    subst (AreAlike links (put_before place words put after)) (sym (first_change datime tree b.def (defs_of bs) b.entries (flagged_entries bs flags) (some.0 refl))) (first_alike links words put after cs rest)
puts_alike datime tree count links (b ∷ bs) (false ∷ flags) some =
    let rest = put_open datime tree count (map segment_of links) bs flags in
    other_branches links rest (basket_changes datime tree (defs_of bs) (flagged_entries bs flags)) (b ∷ rest.branches) (puts_alike datime tree count links bs flags some.1)

-- all of them together
pub all_alike : (links : List Link) (p : BasketsPut) (cs : List Change) → AreAlike links p cs → all_done p.changes links ≡ all_changed links cs
all_alike links p cs are =
    let n = length p.changes in
    let many = are.many in
    ap (λ (l : List (List Link → List Link)). all_done l links) (sym (take_all n p.changes (omega arith)))
    ∙ are.done n
    ∙ ap (all_changed links) (take_all n cs (omega (arith, many)))
