-- The pending rows of a tree, cut into baskets, against the open baskets that are kept: which one a row finds full, and the cuts with it.
use Rattle.std.proofs.Common.{◌≡◌, ℕ, zero, suc, ◌+◌, ◌-◌, ◌≤◌, List, [], ◌∷◌, ◌++◌, length, map, drop, Bool, true, false, not, ◌==◌, ◌||◌, ◌&&◌, nat_lt, refl, sym, ap, subst, ◌∙◌, arith}
use Rattle.std.proofs.lemmas.List.{map-append}
use Rattle.std.specs.Prelude.{if◌then◌else◌, nat_le, slice_get, unwrap_or}
use Rattle.rio_leaf.specs.declared.branch.BranchDef.{BranchDef}
use Rattle.rio_key.specs.{Cut.{Cut, basket_with, cut_more, cut_of}, OpenBasket.{entries_length, takes_entry}}
use Rattle.rio_state.specs.TreeLengths.{BasketLengths, basket_lengths, entries_by_branch, open_baskets}
use Rattle.rio_fill.proofs.CutLaws.{cut_behind_more, cut_full, cut_taken}
use Rattle.rio_fill.specs.Fill.{BranchFill, branch_added, branch_put, branches_added, defs_of, has_no_entries, takes}
use Rattle.rio_effect.specs.TreeChanges.{full_entries}
use Rattle.rio_session.specs.{Due.{open_lengths}, Fillings.{full_list, open_list}}
use Rattle.rio_session.proofs.{BasketsPlaced.{ArePut, IsPutAt}, ChangesAlike.{HaveEntries, flagged_entries}}

-- the entries of the open baskets, and those that are left of cuts
abbrev pub opened : List BranchFill → List (List (List ℕ))
opened bs = map (λ b. b.entries) bs

abbrev pub rests : List Cut → List (List (List ℕ))
rests cuts = map (λ cut. cut.rest) cuts

-- ---- one row more

-- each branch with its entry of the row
abbrev pub cuts_more : List Cut → List (List ℕ) → List Cut
cuts_more [] row = []
cuts_more (c ∷ cs) [] = cut_more c [] ∷ cuts_more cs []
cuts_more (c ∷ cs) (e ∷ row) = cut_more c e ∷ cuts_more cs row

abbrev firsts : List (List (List ℕ)) → List (List ℕ)
firsts rows = map (λ entries. unwrap_or (slice_get entries 0) []) rows

abbrev others : List (List (List ℕ)) → List (List (List ℕ))
others rows = map (λ entries. drop 1 entries) rows

cut_last : (es : List (List ℕ)) (e : List ℕ) → cut_of (es ++ e ∷ []) ≡ cut_more (cut_of es) e
cut_last es e = cut_behind_more (record { put = []; rest = [] }) es e

pub cuts_behind : (bs : List BranchDef) (rows : List (List (List ℕ))) (row : List (List ℕ))
    → map cut_of (entries_by_branch bs (rows ++ row ∷ [])) ≡ cuts_more (map cut_of (entries_by_branch bs rows)) row
cuts_behind [] rows row = refl
cuts_behind (b ∷ bs) rows [] =
    let front : firsts (rows ++ [] ∷ []) ≡ firsts rows ++ [] ∷ [] = map-append (λ entries. unwrap_or (slice_get entries 0) []) rows ([] ∷ []) in
    let back : others (rows ++ [] ∷ []) ≡ others rows ++ [] ∷ [] = map-append (λ entries. drop 1 entries) rows ([] ∷ []) in
    let one = ap cut_of front ∙ cut_last (firsts rows) [] in
    let rest = ap (λ (l : List (List (List ℕ))). map cut_of (entries_by_branch bs l)) back ∙ cuts_behind bs (others rows) [] in
    λ i. one i ∷ rest i
cuts_behind (b ∷ bs) rows (e ∷ row) =
    let front : firsts (rows ++ (e ∷ row) ∷ []) ≡ firsts rows ++ e ∷ [] = map-append (λ entries. unwrap_or (slice_get entries 0) []) rows ((e ∷ row) ∷ []) in
    let back : others (rows ++ (e ∷ row) ∷ []) ≡ others rows ++ row ∷ [] = map-append (λ entries. drop 1 entries) rows ((e ∷ row) ∷ []) in
    let one = ap cut_of front ∙ cut_last (firsts rows) e in
    let rest = ap (λ (l : List (List (List ℕ))). map cut_of (entries_by_branch bs l)) back ∙ cuts_behind bs (others rows) row in
    λ i. one i ∷ rest i

-- ---- which baskets are full

flag_entries : (t : Bool) (b : BranchFill) (bs : List BranchFill) (flags : List Bool) → flagged_entries (b ∷ bs) (not t ∷ flags) ≡ (if t then [] else b.entries) ∷ flagged_entries bs flags
flag_entries true b bs flags = refl
flag_entries false b bs flags = refl

-- those that are put are those that the cuts say
pub full_agree : (bs : List BranchFill) (cuts : List Cut) (row : List (List ℕ)) → opened bs ≡ rests cuts → flagged_entries bs (full_list bs row) ≡ full_entries cuts row
full_agree [] [] row e = refl
full_agree [] (c ∷ cs) row e = absurd cc
full_agree (b ∷ bs) [] row e = absurd cc
full_agree (b ∷ bs) (c ∷ cs) [] e =
    let rest : opened bs ≡ rests cs = cc in
    ap (λ (l : List (List (List ℕ))). [] ∷ l) (full_agree bs cs [] rest)
full_agree (b ∷ bs) (c ∷ cs) (x ∷ row) e =
    let one : b.entries ≡ c.rest = cc in
    let rest : opened bs ≡ rests cs = cc in
    let later = full_agree bs cs row rest in
    flag_entries (takes b x) b bs (full_list bs row) ∙ (λ i. (if takes_entry (one i) (length x) then [] else one i) ∷ later i)

none_taken : (b : BranchFill) (x : List ℕ) → not (takes b x) ≡ true → has_no_entries b ≡ false
none_taken b x e = by (has_no_entries b) refl
  where
    by : (t : Bool) → has_no_entries b ≡ t → t ≡ false
    by true is =
        let f : false ≡ true = sym (ap (λ (u : Bool). not (u || (nat_le (entries_length b.entries + length x) 32000 && nat_lt (length b.entries) 8192))) is) ∙ e in
        absurd cc
    by false is = refl

-- an empty basket takes each entry
pub full_have : (bs : List BranchFill) (row : List (List ℕ)) → HaveEntries bs (full_list bs row)
full_have [] row = tt
full_have (b ∷ bs) [] = ((λ e. absurd cc), full_have bs [])
full_have (b ∷ bs) (x ∷ row) = ((λ e. none_taken b x e), full_have bs row)

pub open_have : (bs : List BranchFill) → HaveEntries bs (open_list bs)
open_have [] = tt
open_have (b ∷ bs) = (by (has_no_entries b), open_have bs)
  where
    by : (t : Bool) → not t ≡ true → t ≡ false
    by true e = absurd cc
    by false e = refl

-- ---- the open baskets behind it

opened_one : (count : ℕ) (b c : BranchFill) (bs cs : List BranchFill) (flags : List Bool) (cut : Cut) (x : List ℕ) (t : Bool) → b.entries ≡ cut.rest → takes b x ≡ t → ArePut count (b ∷ bs) (not t ∷ flags) (c ∷ cs)
    → (c.entries ++ x ∷ [] ≡ (cut_more cut x).rest) × ArePut count bs flags cs
opened_one count b c bs cs flags cut x true one is are =
    let test : takes_entry cut.rest (length x) ≡ true = ap (λ (es : List (List ℕ)). takes_entry es (length x)) (sym one) ∙ is in
    (ap (λ (d : BranchFill). d.entries ++ x ∷ []) are.0 ∙ ap (λ (es : List (List ℕ)). es ++ x ∷ []) one ∙ sym (ap (λ (d : Cut). d.rest) (cut_taken cut x test)), are.1)
opened_one count b c bs cs flags cut x false one is are =
    let test : takes_entry cut.rest (length x) ≡ false = ap (λ (es : List (List ℕ)). takes_entry es (length x)) (sym one) ∙ is in
    (ap (λ (d : BranchFill). d.entries ++ x ∷ []) are.0.is ∙ sym (ap (λ (d : Cut). d.rest) (cut_full cut x test)), are.1)

pub opened_added : (count : ℕ) (bs : List BranchFill) (cuts : List Cut) (row : List (List ℕ)) (cs : List BranchFill) → length row ≡ length bs → opened bs ≡ rests cuts → ArePut count bs (full_list bs row) cs
    → opened (branches_added cs row) ≡ rests (cuts_more cuts row)
opened_added count [] [] row [] long e are = refl
opened_added count [] [] row (c ∷ cs) long e are = absurd are
opened_added count [] (k ∷ ks) row cs long e are = absurd cc
opened_added count (b ∷ bs) [] row cs long e are = absurd cc
opened_added count (b ∷ bs) (k ∷ ks) [] cs long e are = absurd (omega (arith, long))
opened_added count (b ∷ bs) (k ∷ ks) (x ∷ row) [] long e are = absurd (by (takes b x) are)
  where
    by : (t : Bool) → ArePut count (b ∷ bs) (not t ∷ full_list bs row) [] → ⊥
    by true f = f
    by false f = f
opened_added count (b ∷ bs) (k ∷ ks) (x ∷ row) (c ∷ cs) long e are =
    let one : b.entries ≡ k.rest = cc in
    let rest : opened bs ≡ rests ks = cc in
    let first = opened_one count b c bs cs (full_list bs row) k x (takes b x) one refl are in
    let later = opened_added count bs ks row cs (omega (arith, long)) rest first.1 in
    let same = first.0 in
    λ i. same i ∷ later i

-- ---- lengths

-- the open baskets are as long by what is kept as by the rows
pub opened_long : (tree : List ℕ) (bs : List BranchFill) (cuts : List Cut) → opened bs ≡ rests cuts → open_lengths tree bs ≡ open_baskets tree (defs_of bs) cuts
opened_long tree [] [] e = refl
opened_long tree [] (c ∷ cs) e = absurd cc
opened_long tree (b ∷ bs) [] e = absurd cc
opened_long tree (b ∷ bs) (c ∷ cs) e =
    let one : b.entries ≡ c.rest = cc in
    let rest : opened bs ≡ rests cs = cc in
    let later = opened_long tree bs cs rest in
    λ i. map (basket_lengths tree b.def) (basket_with (one i)) ++ later i
