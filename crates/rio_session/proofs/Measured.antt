-- What the sums over the branches of a tree say of the records of its save.
use Rattle.std.proofs.Common.{◌≡◌, ℕ, zero, suc, ◌+◌, ◌*◌, ◌/◌, ◌%◌, ◌==◌, ◌≤◌, ◌<◌, ◌^◌, min, List, [], ◌∷◌, ◌++◌, codes, length, map, nat_lt, Bool, true, false, cond, not, Some, None, refl, sym, ap, ◌∙◌, arith}
use Rattle.std.proofs.lemmas.{Bool.{eqb-true, lt-ltb, ne_eqb}, List.{append-nil, length-append, map-append}, List.Folds.{concat-append}, List.Sums.{sum_by-append, sum_by-cons, sum_by_push}}
use Rattle.std.specs.List.{concat, sum_by}
use Rattle.rio_leaf.specs.declared.branch.BranchDef.{BranchDef}
use Rattle.rio_key.specs.{Cut.{basket_with}, OpenBasket.{OpenBasket, entries_length}, BasketRecord.{basket_data, basket_key_length}}
use Rattle.rio_key.proofs.HeldLaws.{data_with_offsets, data_without_offsets}
use Rattle.rio_machine.specs.Limits.{head_length}
use Rattle.rio_tree.specs.{Header.{has_offsets}, HeaderLength.{header_size}, declared.basket_at.BasketAt.{BasketAt}}
use Rattle.rio_chain.specs.{Placing.{place_of, with_segment}, declared.segment.Segment.{Segment}}
use Rattle.rio_state.specs.{Closing.{padded_length}, TreeLengths.{BasketLengths, TreeLengths, basket_lengths, save_lengths}}
use Rattle.rio_effect.specs.TreeRecords.{basket_at, length_of_basket}
use Rattle.rio_fill.specs.Fill.{BranchFill, TreeFill, bit_of, branch_added, branch_put, branches_added, count_before, defs_of, entry_count, full_flags, has_flag, has_no_entries, open_flags, row_added, takes}
use Rattle.rio_session.specs.{Due.{due_of_fill, lengths_of_fill, open_lengths, written_count}, Fillings.{branches_become, full_list, open_list, put_open, words_of_open}}
use Rattle.rio_session.specs.Measures.{basket_size, due_by_sums, entry_length, filled_by, filled_of, filled_with, flags_for, flags_in, header_bytes_with, no_sums, sums_from, with_branch}
use Rattle.rio_session.specs.{Fills.{FilledTree}, TreeWorks.{due_behind}, declared.open_tree.Due.{Due}, declared.open_tree.Filled.{Filled}, declared.open_tree.SaveSums.{SaveSums}}

-- ---- flags

pub bit_read : (t : Bool) (n : ℕ) → ((bit_of t + 2 * n) % 2 == 1) ≡ t
bit_read true n = let e : (1 + 2 * n) % 2 ≡ 1 = omega arith in ap (λ (k : ℕ). k == 1) e
bit_read false n = let e : (0 + 2 * n) % 2 ≡ 0 = omega arith in ap (λ (k : ℕ). k == 1) e

pub bits_behind : (t : Bool) (n : ℕ) → (bit_of t + 2 * n) / 2 ≡ n
bits_behind true n = omega arith
bits_behind false n = omega arith

none_flagged : (bs : List BranchFill) → flags_in (length bs) 0 ≡ full_list bs []
none_flagged [] = refl
none_flagged (b ∷ bs) = ap (λ (l : List Bool). false ∷ l) (none_flagged bs)

-- the flags that a row's baskets have are those of the branches that don't take it
pub flags_of_row : (bs : List BranchFill) (row : List (List ℕ)) → flags_for bs (full_flags bs row) ≡ full_list bs row
flags_of_row [] row = refl
flags_of_row (b ∷ bs) [] = none_flagged (b ∷ bs)
flags_of_row (b ∷ bs) (entry ∷ row) =
    let t = not (takes b entry) in
    let first = bit_read t (full_flags bs row) in
    let rest = ap (flags_in (length bs)) (bits_behind t (full_flags bs row)) ∙ flags_of_row bs row in
    λ i. first i ∷ rest i

pub flags_of_save : (bs : List BranchFill) → flags_for bs (open_flags bs) ≡ open_list bs
flags_of_save [] = refl
flags_of_save (b ∷ bs) =
    let t = not (has_no_entries b) in
    let first = bit_read t (open_flags bs) in
    let rest = ap (flags_in (length bs)) (bits_behind t (open_flags bs)) ∙ flags_of_save bs in
    λ i. first i ∷ rest i

-- ---- the open basket

data_long : (k : ℕ) (basket : OpenBasket) → length (basket_data k basket) ≡ cond basket.offsets (entries_length basket.entries + 4 * length basket.entries + 8) (entries_length basket.entries)
data_long k basket = by basket.offsets refl
  where
    by : (t : Bool) → basket.offsets ≡ t → length (basket_data k basket) ≡ cond basket.offsets (entries_length basket.entries + 4 * length basket.entries + 8) (entries_length basket.entries)
    by true e = data_with_offsets k basket e ∙ ap (λ (t : Bool). cond t (entries_length basket.entries + 4 * length basket.entries + 8) (entries_length basket.entries)) (sym e)
    by false e = data_without_offsets k basket e ∙ ap (λ (t : Bool). cond t (entries_length basket.entries + 4 * length basket.entries + 8) (entries_length basket.entries)) (sym e)

pub size_is : (tree : List ℕ) (def : BranchDef) (entries : List (List ℕ)) → (basket_lengths tree def entries).size ≡ basket_size tree def (length entries) (entries_length entries)
size_is tree def entries =
    let keylen = basket_key_length tree def.name in
    ap (λ (n : ℕ). keylen + n) (data_long keylen (record { offsets = has_offsets def.shape; entries = entries; rooms = 0; spare = 0 }))

pub length_is : (tree : List ℕ) (datime : ℕ) (b : BranchFill) → length_of_basket (words_of_open tree datime b) ≡ padded_length (basket_size tree b.def (length b.entries) (entries_length b.entries))
length_is tree datime b =
    let keylen = basket_key_length tree b.def.name in
    let n = length (basket_data keylen (record { offsets = has_offsets b.def.shape; entries = b.entries; rooms = 0; spare = 0 })) in
    let same : length_of_basket (words_of_open tree datime b) ≡ padded_length (keylen + n) = omega arith in
    same ∙ ap padded_length (size_is tree b.def b.entries)

-- ---- sums

abbrev filled_alone : ℕ → BranchFill → Filled
filled_alone k b = filled_of b

-- with baskets of these lengths
abbrev with_open : SaveSums → List BasketLengths → ℕ → SaveSums
with_open s baskets written =
    record { bytes = s.bytes + sum_by padded_length (map (λ l. l.size) baskets); baskets = s.baskets + length baskets; named = s.named + (written + length baskets) }

no_more : (n : ℕ) → n + 0 ≡ n
no_more n = omega arith

one_branch : (s : SaveSums) (tree : List ℕ) (b : BranchFill) → with_branch s tree b.def (filled_of b) ≡ with_open s (map (basket_lengths tree b.def) (basket_with b.entries)) (length b.baskets)
one_branch s tree b = by b.entries refl
  where
    by : (es : List (List ℕ)) → b.entries ≡ es → with_branch s tree b.def (record { written = length b.baskets; count = length es; bytes = entries_length es }) ≡ with_open s (map (basket_lengths tree b.def) (basket_with es)) (length b.baskets)
    by [] is = refl
    by (e ∷ es) is =
        let n = basket_size tree b.def (length (e ∷ es)) (entries_length (e ∷ es)) in
        let size = (basket_lengths tree b.def (e ∷ es)).size in
        let some : (length (e ∷ es) == 0) ≡ false = ne_eqb (length (e ∷ es)) 0 (λ none. omega (arith, none)) in
        let padded : padded_length n ≡ sum_by padded_length (size ∷ []) = ap padded_length (sym (size_is tree b.def (e ∷ es))) ∙ sym (sum_by-cons padded_length size [] ∙ no_more (padded_length size)) in
        let bytes : cond (length (e ∷ es) == 0) 0 (padded_length n) ≡ sum_by padded_length (size ∷ []) = ap (λ (t : Bool). cond t 0 (padded_length n)) some ∙ padded in
        let one : min (length (e ∷ es)) 1 ≡ 1 = omega arith in
        λ i. record { bytes = s.bytes + bytes i; baskets = s.baskets + one i; named = s.named + (length b.baskets + one i) }

joined : (s : SaveSums) (a c : List BasketLengths) (x y : ℕ) → with_open (with_open s a x) c y ≡ with_open s (a ++ c) (x + y)
joined s a c x y =
    let f = λ (l : BasketLengths). l.size in
    let long : length (a ++ c) ≡ length a + length c = length-append a c in
    let sums : sum_by padded_length (map f (a ++ c)) ≡ sum_by padded_length (map f a) + sum_by padded_length (map f c) =
    ap (sum_by padded_length) (map-append f a c) ∙ sum_by-append padded_length (map f a) (map f c) in
    let bytes : (with_open (with_open s a x) c y).bytes ≡ (with_open s (a ++ c) (x + y)).bytes = omega (arith, sums) in
    let baskets : (with_open (with_open s a x) c y).baskets ≡ (with_open s (a ++ c) (x + y)).baskets = omega (arith, long) in
    let named : (with_open (with_open s a x) c y).named ≡ (with_open s (a ++ c) (x + y)).named = omega (arith, long) in
    λ i. record { bytes = bytes i; baskets = baskets i; named = named i }

pub sums_alone : (tree : List ℕ) (bs : List BranchFill) (k : ℕ) (s : SaveSums) → sums_from tree filled_alone k s bs ≡ with_open s (open_lengths tree bs) (written_count bs)
sums_alone tree [] k s =
    let bytes : s.bytes ≡ s.bytes + 0 = omega arith in
    let baskets : s.baskets ≡ s.baskets + 0 = omega arith in
    let named : s.named ≡ s.named + (0 + 0) = omega arith in
    λ i. record { bytes = bytes i; baskets = baskets i; named = named i }
sums_alone tree (b ∷ bs) k s =
    sums_alone tree bs (k + 1) (with_branch s tree b.def (filled_of b))
    ∙ ap (λ (x : SaveSums). with_open x (open_lengths tree bs) (written_count bs)) (one_branch s tree b)
    ∙ joined s (map (basket_lengths tree b.def) (basket_with b.entries)) (open_lengths tree bs) (length b.baskets) (written_count bs)
    ∙ ap (with_open s (open_lengths tree (b ∷ bs))) (sym (sum_by-cons (λ (x : BranchFill). length x.baskets) b bs))

-- what a save writes by the sums is what it writes by the entries
pub due_alone : (name : List ℕ) (t : TreeFill) → due_by_sums name (defs_of t.branches) (not (t.pending == 0)) (sums_from name filled_alone 0 no_sums t.branches) ≡ due_of_fill name t
due_alone name t = ap (due_by_sums name (defs_of t.branches) (not (t.pending == 0))) (sums_alone name t.branches 0 no_sums) ∙ by (not (t.pending == 0))
  where
    lengths : Bool → TreeLengths
    lengths pending = record { pending = pending; header = (lengths_of_fill name t).header; baskets = open_lengths name t.branches }

    by : (pending : Bool) → due_by_sums name (defs_of t.branches) pending (with_open no_sums (open_lengths name t.branches) (written_count t.branches))
        ≡ record { bytes = sum_by padded_length (save_lengths (lengths pending)); baskets = length (open_lengths name t.branches) }
    by false = let count : 0 + length (open_lengths name t.branches) ≡ length (open_lengths name t.branches) = omega arith in λ i. record { bytes = 0; baskets = count i }
    by true =
        let baskets = open_lengths name t.branches in
        let sizes = map (λ (l : BasketLengths). l.size) baskets in
        let header = (lengths_of_fill name t).header in
        let count : 0 + length baskets ≡ length baskets = omega arith in
        let named : 0 + (written_count t.branches + length baskets) ≡ written_count t.branches + length baskets = omega arith in
        let sums : 0 + sum_by padded_length sizes + padded_length header ≡ sum_by padded_length (sizes ++ header ∷ []) = omega (arith, sum_by_push padded_length sizes header) in
        let bytes : 0 + sum_by padded_length sizes + header_bytes_with name (defs_of t.branches) (0 + (written_count t.branches + length baskets)) ≡ sum_by padded_length (sizes ++ header ∷ []) =
        ap (λ (n : ℕ). 0 + sum_by padded_length sizes + header_bytes_with name (defs_of t.branches) n) named ∙ sums in
        λ i. record { bytes = bytes i; baskets = count i }

pub header_alone : (name : List ℕ) (t : TreeFill) → header_bytes_with name (defs_of t.branches) (sums_from name filled_alone 0 no_sums t.branches).named ≡ padded_length (lengths_of_fill name t).header
header_alone name t =
    let baskets = open_lengths name t.branches in
    let named : 0 + (written_count t.branches + length baskets) ≡ written_count t.branches + length baskets = omega arith in
    ap (λ (s : SaveSums). header_bytes_with name (defs_of t.branches) s.named) (sums_alone name t.branches 0 no_sums) ∙ ap (header_bytes_with name (defs_of t.branches)) named

-- as it is counted
pub next_header : (name : List ℕ) (t : TreeFill) (sums : SaveSums) (header n padded : ℕ) (first second : List ℕ) → first ≡ name → second ≡ name
    → sums ≡ sums_from first (filled_by None 0) 0 no_sums t.branches → header ≡ header_size name (defs_of t.branches) → n ≡ head_length (codes "TTree") second + (header + 20 * sums.named) → padded ≡ padded_length n
    → padded ≡ padded_length (lengths_of_fill name t).header
next_header name t sums header n padded first second first_is second_is sums_are header_is n_is padded_is =
    let same : sums ≡ sums_from name filled_alone 0 no_sums t.branches = sums_are ∙ ap (λ (l : List ℕ). sums_from l filled_alone 0 no_sums t.branches) first_is in
    padded_is ∙ ap padded_length (n_is ∙ (λ i. head_length (codes "TTree") (second_is i) + (header_is i + 20 * (same i).named))) ∙ header_alone name t

-- ---- with a row

entry_more : (entries : List (List ℕ)) (entry : List ℕ) → entries_length (entries ++ entry ∷ []) ≡ entries_length entries + length entry
entry_more entries entry =
    ap length (concat-append entries (entry ∷ [])) ∙ length-append (concat entries) (concat (entry ∷ [])) ∙ ap (λ (n : ℕ). length (concat entries) + n) (ap length (append-nil entry))

module _ (b : BranchFill) (entry : List ℕ) where
  filled_more : filled_of (branch_added b entry) ≡ filled_with (filled_of b) false (length entry)
  filled_more =
      let count : length (b.entries ++ entry ∷ []) ≡ length b.entries + 1 = length-append b.entries (entry ∷ []) in
      let bytes = entry_more b.entries entry in
      λ i. record { written = length b.baskets; count = count i; bytes = bytes i }

  filled_anew : (at : BasketAt) → filled_of (branch_added (branch_put at b) entry) ≡ filled_with (filled_of b) true (length entry)
  filled_anew at =
      let written : length (b.baskets ++ at ∷ []) ≡ length b.baskets + 1 = length-append b.baskets (at ∷ []) in
      let bytes : entries_length (entry ∷ []) ≡ length entry = ap length (append-nil entry) in
      λ i. record { written = written i; count = 1; bytes = bytes i }

module _ (tree : List ℕ) (datime count : ℕ) where
  abbrev with_row : List Segment → List BranchFill → List (List ℕ) → List BranchFill
  with_row segments bs row = branches_added (put_open datime tree count segments bs (full_list bs row)).branches row

  pub row_defs : (bs : List BranchFill) (row : List (List ℕ)) (segments : List Segment) → length row ≡ length bs → defs_of (with_row segments bs row) ≡ defs_of bs
  row_defs [] row segments same = refl
  row_defs (b ∷ bs) [] segments same = absurd (omega (arith, same))
  row_defs (b ∷ bs) (entry ∷ row) segments same = by (λ ss. row_defs bs row ss (omega (arith, same))) (takes b entry)
    where
      by : ((ss : List Segment) → defs_of (with_row ss bs row) ≡ defs_of bs) → (t : Bool) → defs_of (branches_added (put_open datime tree count segments (b ∷ bs) (not t ∷ full_list bs row)).branches (entry ∷ row)) ≡ b.def ∷ defs_of bs
      by rest true = ap (λ (ds : List BranchDef). b.def ∷ ds) (rest segments)
      by rest false =
          let n = length_of_basket (words_of_open tree datime b) in
          ap (λ (ds : List BranchDef). b.def ∷ ds) (rest (with_segment (place_of segments n) n segments))

  pub row_sums : (bs : List BranchFill) (row : List (List ℕ)) (segments : List Segment) → length row ≡ length bs → (k j : ℕ) (F : ℕ → BranchFill → Filled)
      → ((i : ℕ) (b : BranchFill) → F (k + i) b ≡ filled_by (Some row) (full_flags bs row) i b)
      → (s : SaveSums) → sums_from tree F k s bs ≡ sums_from tree filled_alone j s (with_row segments bs row)
  row_sums [] row segments same k j F h s = refl
  row_sums (b ∷ bs) [] segments same k j F h s = absurd (omega (arith, same))
  row_sums (b ∷ bs) (entry ∷ row) segments same k j F h s = by (λ ss x. row_sums bs row ss (omega (arith, same)) (k + 1) (j + 1) F next x) (takes b entry) refl
    where
      flags : ℕ
      flags = full_flags (b ∷ bs) (entry ∷ row)

      next : (i : ℕ) (c : BranchFill) → F (k + 1 + i) c ≡ filled_by (Some row) (full_flags bs row) i c
      next i c =
          let at : k + 1 + i ≡ k + suc i = omega arith in
          ap (λ (n : ℕ). F n c) at ∙ h (suc i) c
          ∙ ap (λ (n : ℕ). filled_with (filled_of c) (has_flag n i) (entry_length row i)) (bits_behind (not (takes b entry)) (full_flags bs row))

      here : F k b ≡ filled_with (filled_of b) (not (takes b entry)) (length entry)
      here =
          let at : k ≡ k + 0 = omega arith in
          ap (λ (n : ℕ). F n b) at ∙ h 0 b ∙ ap (λ (t : Bool). filled_with (filled_of b) t (length entry)) (bit_read (not (takes b entry)) (full_flags bs row))

      by : ((ss : List Segment) (x : SaveSums) → sums_from tree F (k + 1) x bs ≡ sums_from tree filled_alone (j + 1) x (with_row ss bs row)) → (t : Bool) → takes b entry ≡ t
          → sums_from tree F (k + 1) (with_branch s tree b.def (F k b)) bs
          ≡ sums_from tree filled_alone j s (branches_added (put_open datime tree count segments (b ∷ bs) (not t ∷ full_list bs row)).branches (entry ∷ row))
      by rest true e =
          let now : F k b ≡ filled_of (branch_added b entry) = here ∙ ap (λ (t : Bool). filled_with (filled_of b) (not t) (length entry)) e ∙ sym (filled_more b entry) in
          ap (λ (f : Filled). sums_from tree F (k + 1) (with_branch s tree b.def f) bs) now
          ∙ rest segments (with_branch s tree b.def (filled_of (branch_added b entry)))
      by rest false e =
          let words = words_of_open tree datime b in
          let n = length_of_basket words in
          let place = place_of segments n in
          let at = basket_at place (count_before count b) words in
          let now : F k b ≡ filled_of (branch_added (branch_put at b) entry) = here ∙ ap (λ (t : Bool). filled_with (filled_of b) (not t) (length entry)) e ∙ sym (filled_anew b entry at) in
          ap (λ (f : Filled). sums_from tree F (k + 1) (with_branch s tree b.def f) bs) now
          ∙ rest (with_segment place n segments) (with_branch s tree b.def (filled_of (branch_added (branch_put at b) entry)))

some_pending : (n : ℕ) → not (n + 1 == 0) ≡ true
some_pending n = by (n + 1 == 0) refl
  where
    by : (t : Bool) → (n + 1 == 0) ≡ t → not t ≡ true
    by true e = absurd (omega (arith, eqb-true (n + 1) 0 e))
    by false e = refl

-- with a row pending, what a save writes then
pub due_with_row : (t : FilledTree) (row : List (List ℕ)) → length row ≡ length t.fill.branches
    → due_by_sums t.name (defs_of t.fill.branches) true (sums_from t.name (filled_by (Some row) (full_flags t.fill.branches row)) 0 no_sums t.fill.branches) ≡ due_behind t row
due_with_row t row same =
    let bs = t.fill.branches in
    let new = with_row t.name 0 (entry_count t.fill) [] bs row in
    let sums = row_sums t.name 0 (entry_count t.fill) bs row [] same 0 0 (filled_by (Some row) (full_flags bs row)) (λ i b. let e : 0 + i ≡ i = omega arith in ap (λ (n : ℕ). filled_by (Some row) (full_flags bs row) n b) e) no_sums in
    let f = row_added (branches_become (put_open 0 t.name (entry_count t.fill) [] bs (full_list bs row)).branches t.fill) row in
    ap (due_by_sums t.name (defs_of bs) true) sums
    ∙ ap (λ (ds : List BranchDef). due_by_sums t.name ds true (sums_from t.name filled_alone 0 no_sums new)) (sym (row_defs t.name 0 (entry_count t.fill) bs row [] same))
    ∙ ap (λ (p : Bool). due_by_sums t.name (defs_of new) p (sums_from t.name filled_alone 0 no_sums new)) (sym (some_pending t.fill.pending))
    ∙ due_alone t.name f

some_there : (n : ℕ) → nat_lt 0 n ≡ not (n == 0)
some_there zero = refl
some_there (suc n) = lt-ltb 0 (suc n) (omega arith) ∙ sym (ap not (ne_eqb (suc n) 0 (λ e. omega (arith, e))))

-- what a close writes, and what it writes with a row
pub due_none : (name : List ℕ) (t : TreeFill) (p : Bool) → p ≡ nat_lt 0 t.pending → due_by_sums name (defs_of t.branches) p (sums_from name (filled_by None 0) 0 no_sums t.branches) ≡ due_of_fill name t
due_none name t p is = ap (λ (q : Bool). due_by_sums name (defs_of t.branches) q (sums_from name filled_alone 0 no_sums t.branches)) (is ∙ some_there t.pending) ∙ due_alone name t

pub due_some : (t : FilledTree) (row : List (List ℕ)) (flags : ℕ) → flags ≡ full_flags t.fill.branches row → length row ≡ length t.fill.branches
    → due_by_sums t.name (defs_of t.fill.branches) true (sums_from t.name (filled_by (Some row) flags) 0 no_sums t.fill.branches) ≡ due_behind t row
due_some t row flags is same = ap (λ (f : ℕ). due_by_sums t.name (defs_of t.fill.branches) true (sums_from t.name (filled_by (Some row) f) 0 no_sums t.fill.branches)) is ∙ due_with_row t row same
