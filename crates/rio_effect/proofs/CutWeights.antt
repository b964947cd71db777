-- What the pending rows of a tree weigh, branch by branch, and one more row.
use Rattle.std.proofs.Common.{◌≡◌, ◌⊎◌, inl, inr, ℕ, ◌+◌, ◌-◌, ◌*◌, ◌%◌, ◌≤◌, ◌∙◌, codes, List, [], ◌∷◌, ◌++◌, length, map, drop, min, Bool, true, false, sum, ◌==◌, ◌&&◌, nat_lt, refl, sym, ap, subst, arith}
use Rattle.std.proofs.lemmas.{Bool.{leb-false, ltb-false, ltb-true, or_parts}, List.{length-append, map-append, Folds.{concat-append}, Sums.{sum_by-cons}}}
use Rattle.std.specs.{Prelude.{if◌then◌else◌, nat_le, slice_get, unwrap_or}, List.{concat, sum_by}}
use Rattle.rio_leaf.specs.declared.branch.BranchDef.{BranchDef}
use Rattle.rio_num.specs.{Text.{text_bytes}}
use Rattle.rio_num.proofs.TextLengths.{short_text_bytes}
use Rattle.rio_key.specs.{Cut.{Cut, basket_with, baskets_of_cut, cut_behind, cut_more, cut_of}, OpenBasket.{OpenBasket, entries_length, takes_entry}, BasketRecord.{basket_data, basket_key_length}}
use Rattle.rio_key.proofs.HeldLaws.{data_with_offsets, data_without_offsets}
use Rattle.rio_tree.specs.Header.{has_offsets}
use Rattle.rio_state.specs.TreeLengths.{BasketLengths, basket_lengths, cut_count, entries_by_branch, open_baskets, put_count}
use Rattle.rio_effect.specs.{Changes.{lengths_of}, TreeChanges.{basket_changes, full_entries}, TreeRecords.{length_of_basket, words_of_basket}}

-- ---- one branch

-- an open basket
abbrev pub open_weight : List ℕ → BranchDef → List (List ℕ) → ℕ
open_weight tree b [] = 0
open_weight tree b (e ∷ es) = let l = basket_lengths tree b (e ∷ es) in l.size + 13 + min 400 l.filling

-- with the baskets that were put, which the next header names, and that one too
abbrev pub cut_weight : List ℕ → BranchDef → Cut → ℕ
cut_weight tree b cut = open_weight tree b cut.rest + 20 * length (baskets_of_cut cut) + 10 * length cut.put

-- how long the record of an open basket is that doesn't take an entry, for then it is put
abbrev pub put_length : List ℕ → BranchDef → ℕ → Cut → List ℕ → ℕ
put_length tree b datime cut entry = if takes_entry cut.rest (length entry) then 0 else length_of_basket (words_of_basket tree b datime cut.rest)

-- what is in a basket that doesn't take an entry is much, or the entry is
much : (bytes count n : ℕ) (a : Bool) → nat_le (bytes + n) 32000 ≡ a → (a && nat_lt count 8192) ≡ false → (400 ≤ bytes + count) ⊎ (700 ≤ n)
much bytes count n false e f = by (nat_lt (bytes + count) 400) refl
  where
    by : (c : Bool) → nat_lt (bytes + count) 400 ≡ c → (400 ≤ bytes + count) ⊎ (700 ≤ n)
    by true low = inr (omega (arith, ltb-true _ _ low, leb-false _ _ e))
    by false high = inl (ltb-false _ _ high)
much bytes count n true e f = inl (omega (arith, ltb-false _ _ f))

sums_low : (filled n p k d w puts both opened pad : ℕ) → w ≤ 280 + n + min 400 (n + 1) → puts ≡ p + 1 → both ≡ puts + 1 → opened ≡ p + 1 → pad ≤ 3 → (400 ≤ filled) ⊎ (700 ≤ n)
    → w + 20 * both + 10 * puts + (k + (d + pad)) ≤ k + d + 13 + min 400 filled + 20 * opened + 10 * p + (2 * n + 5)
sums_low filled n p k d w puts both opened pad one two three four five (inl much) = omega (arith, one, two, three, four, five, much)
sums_low filled n p k d w puts both opened pad one two three four five (inr much) = omega (arith, one, two, three, four, five, much)

-- the names of a tree and of a branch have at most 100 bytes
module _ (tree : List ℕ) (b : BranchDef) (tree_short : length tree ≤ 100) (branch_short : length b.name ≤ 100) where
  abbrev keylen : ℕ
  keylen = basket_key_length tree b.name

  key_low : keylen ≤ 255
  key_low =
      let one = short_text_bytes tree tree_short in
      let two = short_text_bytes b.name branch_short in
      let class : length (text_bytes (codes "TBasket")) ≡ 8 = refl in
      omega (arith, one, two, class)

  abbrev held : List (List ℕ) → OpenBasket
  held entries = record { offsets = has_offsets b.shape; entries = entries; rooms = 0; spare = 0 }

  long_more : (entries : List (List ℕ)) (e : List ℕ) → entries_length (entries ++ e ∷ []) ≡ entries_length entries + length e
  long_more entries e =
      let one = ap length (concat-append entries (e ∷ [])) ∙ length-append (concat entries) (concat (e ∷ [])) in
      let two : length (concat (e ∷ [])) ≡ length e = length-append e [] ∙ omega arith in
      omega (arith, one, two)

  -- one entry more takes its bytes, and four where it has an offset
  data_more : (entries : List (List ℕ)) (e : List ℕ) → length (basket_data keylen (held (entries ++ e ∷ []))) ≤ length (basket_data keylen (held entries)) + length e + 4
  data_more entries e = by (has_offsets b.shape) refl
    where
      count : length (entries ++ e ∷ []) ≡ length entries + 1
      count = length-append entries (e ∷ [])

      by : (t : Bool) → has_offsets b.shape ≡ t → length (basket_data keylen (held (entries ++ e ∷ []))) ≤ length (basket_data keylen (held entries)) + length e + 4
      by true is = omega (arith, data_with_offsets keylen (held (entries ++ e ∷ [])) is, data_with_offsets keylen (held entries) is, long_more entries e, count)
      by false is = omega (arith, data_without_offsets keylen (held (entries ++ e ∷ [])) is, data_without_offsets keylen (held entries) is, long_more entries e)

  -- a basket of one entry
  data_one : (e : List ℕ) → length (basket_data keylen (held (e ∷ []))) ≤ length e + 12
  data_one e = by (has_offsets b.shape) refl
    where
      own : entries_length (e ∷ []) ≡ length e
      own = length-append e [] ∙ omega arith

      by : (t : Bool) → has_offsets b.shape ≡ t → length (basket_data keylen (held (e ∷ []))) ≤ length e + 12
      by true is = omega (arith, data_with_offsets keylen (held (e ∷ [])) is, own)
      by false is = omega (arith, data_without_offsets keylen (held (e ∷ [])) is, own)

  one_low : (e : List ℕ) → open_weight tree b (e ∷ []) ≤ 280 + length e + min 400 (length e + 1)
  one_low e =
      let own : entries_length (e ∷ []) ≡ length e = length-append e [] ∙ omega arith in
      omega (arith, data_one e, key_low, own)

  -- ---- one entry more

  open_count : (put : List (List (List ℕ))) (x : List ℕ) (xs : List (List ℕ)) → length (put ++ basket_with (x ∷ xs)) ≡ length put + 1
  open_count put x xs = length-append put ((x ∷ xs) ∷ [])

  -- the first
  pub first_low : (put : List (List (List ℕ))) (e : List ℕ) → cut_weight tree b (cut_more (record { put = put; rest = [] }) e) ≤ cut_weight tree b (record { put = put; rest = [] }) + (2 * length e + 5) + 330
  first_low put e =
      let none : length (put ++ []) ≡ length put = length-append put [] ∙ omega arith in
      omega (arith, one_low e, none, open_count put e [])

  taken_low : (put : List (List (List ℕ))) (x : List ℕ) (xs : List (List ℕ)) (e : List ℕ)
      → cut_weight tree b (record { put = put; rest = x ∷ (xs ++ e ∷ []) }) ≤ cut_weight tree b (record { put = put; rest = x ∷ xs }) + (2 * length e + 5)
  taken_low put x xs e =
      omega (arith, data_more (x ∷ xs) e, long_more (x ∷ xs) e, length-append (x ∷ xs) (e ∷ []), open_count put x xs, open_count put x (xs ++ e ∷ []))

  -- where the open basket doesn't take it
  put_low : (put : List (List (List ℕ))) (x : List ℕ) (xs : List (List ℕ)) (e : List ℕ) (datime : ℕ) → takes_entry (x ∷ xs) (length e) ≡ false
      → cut_weight tree b (record { put = put ++ (x ∷ xs) ∷ []; rest = e ∷ [] }) + length_of_basket (words_of_basket tree b datime (x ∷ xs)) ≤ cut_weight tree b (record { put = put; rest = x ∷ xs }) + (2 * length e + 5)
  put_low put x xs e datime full =
      let filled = entries_length (x ∷ xs) + length (x ∷ xs) in
      let contents = length (basket_data keylen (held (x ∷ xs))) in
      let none = (or_parts (length (x ∷ xs) == 0) (nat_le (entries_length (x ∷ xs) + length e) 32000 && nat_lt (length (x ∷ xs)) 8192) full).1 in
      let case = much (entries_length (x ∷ xs)) (length (x ∷ xs)) (length e) (nat_le (entries_length (x ∷ xs) + length e) 32000) refl none in
      let sum = sums_low filled (length e) (length put) keylen contents (open_weight tree b (e ∷ [])) (length (put ++ (x ∷ xs) ∷ [])) (length ((put ++ (x ∷ xs) ∷ []) ++ (e ∷ []) ∷ [])) (length (put ++ (x ∷ xs) ∷ []))
      ((4 - (keylen + contents) % 4) % 4) (one_low e) (length-append put ((x ∷ xs) ∷ [])) (open_count (put ++ (x ∷ xs) ∷ []) e []) (open_count put x xs) (omega arith) case in
      omega (arith, sum)

  -- one entry more where there were some
  pub more_low : (put : List (List (List ℕ))) (x : List ℕ) (xs : List (List ℕ)) (e : List ℕ) (datime : ℕ)
      → cut_weight tree b (cut_more (record { put = put; rest = x ∷ xs }) e) + put_length tree b datime (record { put = put; rest = x ∷ xs }) e ≤ cut_weight tree b (record { put = put; rest = x ∷ xs }) + (2 * length e + 5)
  more_low put x xs e datime = by (takes_entry (x ∷ xs) (length e)) refl
    where
      by : (t : Bool) → takes_entry (x ∷ xs) (length e) ≡ t
          → cut_weight tree b (if t then record { put = put; rest = (x ∷ xs) ++ e ∷ [] } else record { put = put ++ (x ∷ xs) ∷ []; rest = e ∷ [] }) + (if t then 0 else length_of_basket (words_of_basket tree b datime (x ∷ xs)))
          ≤ cut_weight tree b (record { put = put; rest = x ∷ xs }) + (2 * length e + 5)
      by true taken = omega (arith, taken_low put x xs e)
      by false full = put_low put x xs e datime full

-- ---- all branches

-- of branches with these entries
abbrev pub cuts_weight : List ℕ → List BranchDef → List (List (List ℕ)) → ℕ
cuts_weight tree [] entries = 0
cuts_weight tree (b ∷ bs) [] = 0
cuts_weight tree (b ∷ bs) (es ∷ entries) = cut_weight tree b (cut_of es) + cuts_weight tree bs entries

-- what the open baskets weigh
abbrev opened_weight : List BasketLengths → ℕ
opened_weight ls = sum_by (λ n. n + 3) (map (λ l. l.size) ls) + 10 * length ls + sum_by (λ l. min 400 l.filling) ls

opened_cons : (l : BasketLengths) (ls : List BasketLengths) → opened_weight (l ∷ ls) ≡ l.size + 13 + min 400 l.filling + opened_weight ls
opened_cons l ls = omega (arith, sum_by-cons (λ n. n + 3) l.size (map (λ l. l.size) ls), sum_by-cons (λ l. min 400 l.filling) l ls)

opened_first : (tree : List ℕ) (b : BranchDef) (rest : List (List ℕ)) (ls : List BasketLengths) → opened_weight (map (basket_lengths tree b) (basket_with rest) ++ ls) ≡ open_weight tree b rest + opened_weight ls
opened_first tree b [] ls = omega arith
opened_first tree b (e ∷ es) ls = opened_cons (basket_lengths tree b (e ∷ es)) ls

-- the weight of all branches is that of their baskets
pub weight_by_cuts : (tree : List ℕ) (bs : List BranchDef) (rows : List (List (List ℕ)))
    → opened_weight (open_baskets tree bs (map cut_of (entries_by_branch bs rows))) + 20 * cut_count (map cut_of (entries_by_branch bs rows)) + 10 * put_count (map cut_of (entries_by_branch bs rows))
    ≡ cuts_weight tree bs (entries_by_branch bs rows)
weight_by_cuts tree [] rows = refl
weight_by_cuts tree (b ∷ bs) rows =
    let es = map (λ entries. unwrap_or (slice_get entries 0) []) rows in
    let others = entries_by_branch bs (map (λ entries. drop 1 entries) rows) in
    let cut = cut_of es in
    let cuts = map cut_of others in
    let rest = weight_by_cuts tree bs (map (λ entries. drop 1 entries) rows) in
    let one = opened_first tree b cut.rest (open_baskets tree bs cuts) in
    let two = sum_by-cons (λ (c : Cut). length (baskets_of_cut c)) cut cuts in
    let three = sum_by-cons (λ (c : Cut). length c.put) cut cuts in
    omega (arith, rest, one, two, three)

-- ---- one row more

-- an open basket has entries
record HasOpen (cut : Cut) : Type 0 where
  first : List ℕ
  others : List (List ℕ)
  rest_is : cut.rest ≡ first ∷ others

opened_more : (cut : Cut) (e : List ℕ) → HasOpen (cut_more cut e)
opened_more cut e = by (takes_entry cut.rest (length e)) cut.rest
  where
    by : (t : Bool) (rest : List (List ℕ)) → HasOpen (if t then record { put = cut.put; rest = rest ++ e ∷ [] } else record { put = cut.put ++ rest ∷ []; rest = e ∷ [] })
    by true [] = record { first = e; others = []; rest_is = refl }
    by true (x ∷ xs) = record { first = x; others = xs ++ e ∷ []; rest_is = refl }
    by false rest = record { first = e; others = []; rest_is = refl }

opened_behind : (cut : Cut) (es : List (List ℕ)) → HasOpen cut → HasOpen (cut_behind cut es)
opened_behind cut [] has = has
opened_behind cut (e ∷ es) has = opened_behind (cut_more cut e) es (opened_more cut e)

some_opened : (e : List ℕ) (es : List (List ℕ)) → HasOpen (cut_of (e ∷ es))
some_opened e es = let none : Cut = record { put = []; rest = [] } in opened_behind (cut_more none e) es (opened_more none e)

cut_last : (cut : Cut) (es : List (List ℕ)) (e : List ℕ) → cut_behind cut (es ++ e ∷ []) ≡ cut_more (cut_behind cut es) e
cut_last cut [] e = refl
cut_last cut (x ∷ xs) e = cut_last (cut_more cut x) xs e

-- branches of short names
abbrev pub AreShort : List BranchDef → Type 0
AreShort [] = Unit {0}
AreShort (b ∷ bs) = (length b.name ≤ 100) × AreShort bs

abbrev firsts : List (List (List ℕ)) → List (List ℕ)
firsts rows = map (λ entries. unwrap_or (slice_get entries 0) []) rows

abbrev rests : List (List (List ℕ)) → List (List (List ℕ))
rests rows = map (λ entries. drop 1 entries) rows

-- how long the records are that are put before a row comes
abbrev pub row_length : ℕ → List ℕ → List BranchDef → List (List (List ℕ)) → List (List ℕ) → ℕ
row_length datime tree bs rows row = sum (lengths_of (basket_changes datime tree bs (full_entries (map cut_of (entries_by_branch bs rows)) row)))

-- that of the first branch, and those of the others
length_first : (datime : ℕ) (tree : List ℕ) (b : BranchDef) (bs : List BranchDef) (rest : List (List ℕ)) (full : Bool) (others : List (List (List ℕ))) (cut : Cut) → cut.rest ≡ rest → HasOpen cut
    → sum (lengths_of (basket_changes datime tree (b ∷ bs) ((if full then [] else rest) ∷ others)))
    ≡ (if full then 0 else length_of_basket (words_of_basket tree b datime rest)) + sum (lengths_of (basket_changes datime tree bs others))
length_first datime tree b bs rest true others cut is has = omega arith
length_first datime tree b bs [] false others cut is has = let f : [] ≡ has.first ∷ has.others = sym is ∙ has.rest_is in absurd cc
length_first datime tree b bs (e ∷ es) false others cut is has = sum_by-cons (λ n. n) (length_of_basket (words_of_basket tree b datime (e ∷ es))) (lengths_of (basket_changes datime tree bs others))

abbrev entry_cost : List ℕ → ℕ
entry_cost e = 2 * length e + 5

module _ (tree : List ℕ) (datime : ℕ) (tree_short : length tree ≤ 100) where
  -- the first row
  pub row_first : (bs : List BranchDef) (es : List (List ℕ)) → AreShort bs → length es ≡ length bs
      → cuts_weight tree bs (entries_by_branch bs (es ∷ [])) + row_length datime tree bs [] es ≤ cuts_weight tree bs (entries_by_branch bs []) + sum_by entry_cost es + 330 * length bs
  row_first [] es short long = omega arith
  row_first (b ∷ bs) [] short long = absurd (omega (arith, long))
  row_first (b ∷ bs) (e ∷ es) short long =
      let rest = row_first bs es short.1 (omega (arith, long)) in
      let one = first_low tree b tree_short short.0 [] e in
      omega (arith, rest, one, sum_by-cons entry_cost e es)

  -- another row
  pub row_more : (bs : List BranchDef) (r : List (List ℕ)) (rs : List (List (List ℕ))) (es : List (List ℕ)) → AreShort bs → length es ≡ length bs
      → cuts_weight tree bs (entries_by_branch bs ((r ∷ rs) ++ es ∷ [])) + row_length datime tree bs (r ∷ rs) es ≤ cuts_weight tree bs (entries_by_branch bs (r ∷ rs)) + sum_by entry_cost es
  row_more [] r rs es short long = omega arith
  row_more (b ∷ bs) r rs [] short long = absurd (omega (arith, long))
  row_more (b ∷ bs) r rs (e ∷ es) short long =
      let first = unwrap_or (slice_get r 0) [] in
      let cut = cut_of (first ∷ firsts rs) in
      let has = some_opened first (firsts rs) in
      let others = full_entries (map cut_of (entries_by_branch bs (rests (r ∷ rs)))) es in
      let front : firsts ((r ∷ rs) ++ (e ∷ es) ∷ []) ≡ (first ∷ firsts rs) ++ e ∷ [] = map-append (λ entries. unwrap_or (slice_get entries 0) []) (r ∷ rs) ((e ∷ es) ∷ []) in
      let back : rests ((r ∷ rs) ++ (e ∷ es) ∷ []) ≡ rests (r ∷ rs) ++ es ∷ [] = map-append (λ entries. drop 1 entries) (r ∷ rs) ((e ∷ es) ∷ []) in
      let last : cut_of ((first ∷ firsts rs) ++ e ∷ []) ≡ cut_more cut e = cut_last (record { put = []; rest = [] }) (first ∷ firsts rs) e in
      let weight : cuts_weight tree (b ∷ bs) (entries_by_branch (b ∷ bs) ((r ∷ rs) ++ (e ∷ es) ∷ [])) ≡ cut_weight tree b (cut_more cut e) + cuts_weight tree bs (entries_by_branch bs (rests (r ∷ rs) ++ es ∷ [])) =
      (λ i. cut_weight tree b (cut_of (front i)) + cuts_weight tree bs (entries_by_branch bs (back i))) ∙ ap (λ (c : Cut). cut_weight tree b c + cuts_weight tree bs (entries_by_branch bs (rests (r ∷ rs) ++ es ∷ []))) last in
      let rest = row_more bs (drop 1 r) (rests rs) es short.1 (omega (arith, long)) in
      let lengths = length_first datime tree b bs cut.rest (takes_entry cut.rest (length e)) others cut refl has in
      let one : cut_weight tree b (cut_more cut e) + put_length tree b datime cut e ≤ cut_weight tree b cut + entry_cost e =
      subst (λ (l : List (List ℕ)). cut_weight tree b (cut_more (record { put = cut.put; rest = l }) e) + put_length tree b datime (record { put = cut.put; rest = l }) e ≤ cut_weight tree b (record { put = cut.put; rest = l }) + entry_cost e)
      (sym has.rest_is) (more_low tree b tree_short short.0 cut.put has.first has.others e datime) in
      rows_low (cut_weight tree b cut) (cuts_weight tree bs (entries_by_branch bs (rests (r ∷ rs)))) (cut_weight tree b (cut_more cut e)) (cuts_weight tree bs (entries_by_branch bs (rests (r ∷ rs) ++ es ∷ [])))
      (put_length tree b datime cut e) (row_length datime tree bs (rests (r ∷ rs)) es) (entry_cost e) (sum_by entry_cost es) _ _ _ one rest weight lengths (sum_by-cons entry_cost e es)
    where
      rows_low : (a b c d p q x y w l s : ℕ) → c + p ≤ a + x → d + q ≤ b + y → w ≡ c + d → l ≡ p + q → s ≡ x + y → w + l ≤ a + b + s
      rows_low a b c d p q x y w l s one two three four five = omega (arith, one, two, three, four, five)

-- ---- how many baskets are put

-- an entry more, which the open basket takes or not
abbrev entry_taken : Bool → List (List (List ℕ)) → List (List ℕ) → List ℕ → Cut
entry_taken t put rest e = if t then record { put = put; rest = rest ++ e ∷ [] } else record { put = put ++ rest ∷ []; rest = e ∷ [] }

full_count : (datime : ℕ) (tree : List ℕ) (b : BranchDef) (bs : List BranchDef) (cut : Cut) (e : List ℕ) (others : List (List (List ℕ)))
    → length (cut_more cut e).put + length (basket_changes datime tree bs others)
    ≡ length cut.put + length (basket_changes datime tree (b ∷ bs) ((if takes_entry cut.rest (length e) then [] else cut.rest) ∷ others))
full_count datime tree b bs cut e others = by cut.rest (takes_entry cut.rest (length e)) refl
  where
    by : (rest : List (List ℕ)) (t : Bool) → takes_entry rest (length e) ≡ t
        → length (entry_taken t cut.put rest e).put + length (basket_changes datime tree bs others)
        ≡ length cut.put + length (basket_changes datime tree (b ∷ bs) ((if t then [] else rest) ∷ others))
    by rest true is = refl
    by [] false is = absurd cc
    by (x ∷ xs) false is = omega (arith, length-append cut.put ((x ∷ xs) ∷ []))

pub put_more : (datime : ℕ) (tree : List ℕ) (bs : List BranchDef) (rows : List (List (List ℕ))) (es : List (List ℕ)) → length es ≡ length bs
    → put_count (map cut_of (entries_by_branch bs (rows ++ es ∷ [])))
    ≡ put_count (map cut_of (entries_by_branch bs rows)) + length (basket_changes datime tree bs (full_entries (map cut_of (entries_by_branch bs rows)) es))
put_more datime tree [] rows es long = refl
put_more datime tree (b ∷ bs) rows [] long = absurd (omega (arith, long))
put_more datime tree (b ∷ bs) rows (e ∷ es) long =
    let cut = cut_of (firsts rows) in
    let cuts = map cut_of (entries_by_branch bs (rests rows)) in
    let front : firsts (rows ++ (e ∷ es) ∷ []) ≡ firsts rows ++ e ∷ [] = map-append (λ entries. unwrap_or (slice_get entries 0) []) rows ((e ∷ es) ∷ []) in
    let back : rests (rows ++ (e ∷ es) ∷ []) ≡ rests rows ++ es ∷ [] = map-append (λ entries. drop 1 entries) rows ((e ∷ es) ∷ []) in
    let last : cut_of (firsts rows ++ e ∷ []) ≡ cut_more cut e = cut_last (record { put = []; rest = [] }) (firsts rows) e in
    let after = map cut_of (entries_by_branch bs (rests rows ++ es ∷ [])) in
    let all : put_count (map cut_of (entries_by_branch (b ∷ bs) (rows ++ (e ∷ es) ∷ []))) ≡ put_count (cut_more cut e ∷ after) =
    (λ i. put_count (cut_of (front i) ∷ map cut_of (entries_by_branch bs (back i)))) ∙ ap (λ (c : Cut). put_count (c ∷ after)) last in
    let rest = put_more datime tree bs (rests rows) es (omega (arith, long)) in
    let one = full_count datime tree b bs cut e (full_entries cuts es) in
    let two = sum_by-cons (λ (c : Cut). length c.put) (cut_more cut e) after in
    let three = sum_by-cons (λ (c : Cut). length c.put) cut cuts in
    omega (arith, all, rest, one, two, three)

-- ---- the open baskets

abbrev opened_of : List BranchDef → List (List (List ℕ)) → List (List (List ℕ))
opened_of bs rows = map (λ c. c.rest) (map cut_of (entries_by_branch bs rows))

-- what is put of the open basket of a branch, behind those of others
open_first : (datime : ℕ) (tree : List ℕ) (b : BranchDef) (bs : List BranchDef) (c : Cut) (others : List (List (List ℕ)))
    → (sum (lengths_of (basket_changes datime tree (b ∷ bs) (c.rest ∷ others))) + 10 * length (basket_changes datime tree (b ∷ bs) (c.rest ∷ others)) + 20 * length (baskets_of_cut c) + 10 * length c.put
    ≤ cut_weight tree b c + (sum (lengths_of (basket_changes datime tree bs others)) + 10 * length (basket_changes datime tree bs others)))
    × (length (basket_changes datime tree (b ∷ bs) (c.rest ∷ others)) + length c.put ≡ length (baskets_of_cut c) + length (basket_changes datime tree bs others))
open_first datime tree b bs c others = by c.rest
  where
    by : (rest : List (List ℕ))
        → (sum (lengths_of (basket_changes datime tree (b ∷ bs) (rest ∷ others))) + 10 * length (basket_changes datime tree (b ∷ bs) (rest ∷ others)) + 20 * length (c.put ++ basket_with rest) + 10 * length c.put
        ≤ open_weight tree b rest + 20 * length (c.put ++ basket_with rest) + 10 * length c.put + (sum (lengths_of (basket_changes datime tree bs others)) + 10 * length (basket_changes datime tree bs others)))
        × (length (basket_changes datime tree (b ∷ bs) (rest ∷ others)) + length c.put ≡ length (c.put ++ basket_with rest) + length (basket_changes datime tree bs others))
    by [] = (omega arith, omega (arith, length-append c.put []))
    by (e ∷ es) =
        let total = sum_by-cons (λ n. n) (length_of_basket (words_of_basket tree b datime (e ∷ es))) (lengths_of (basket_changes datime tree bs others)) in
        (omega (arith, total), omega (arith, length-append c.put ((e ∷ es) ∷ [])))

pub open_low : (datime : ℕ) (tree : List ℕ) (bs : List BranchDef) (rows : List (List (List ℕ)))
    → sum (lengths_of (basket_changes datime tree bs (opened_of bs rows))) + 10 * length (basket_changes datime tree bs (opened_of bs rows))
    + 20 * cut_count (map cut_of (entries_by_branch bs rows)) + 10 * put_count (map cut_of (entries_by_branch bs rows)) ≤ cuts_weight tree bs (entries_by_branch bs rows)
open_low datime tree [] rows = omega arith
open_low datime tree (b ∷ bs) rows =
    let c = cut_of (firsts rows) in
    let cuts = map cut_of (entries_by_branch bs (rests rows)) in
    let rest = open_low datime tree bs (rests rows) in
    let one = (open_first datime tree b bs c (opened_of bs (rests rows))).0 in
    omega (arith, rest, one, sum_by-cons (λ (x : Cut). length (baskets_of_cut x)) c cuts, sum_by-cons (λ (x : Cut). length x.put) c cuts)

pub open_counted : (datime : ℕ) (tree : List ℕ) (bs : List BranchDef) (rows : List (List (List ℕ)))
    → length (basket_changes datime tree bs (opened_of bs rows)) + put_count (map cut_of (entries_by_branch bs rows)) ≡ cut_count (map cut_of (entries_by_branch bs rows))
open_counted datime tree [] rows = refl
open_counted datime tree (b ∷ bs) rows =
    let c = cut_of (firsts rows) in
    let cuts = map cut_of (entries_by_branch bs (rests rows)) in
    let rest = open_counted datime tree bs (rests rows) in
    let one = (open_first datime tree b bs c (opened_of bs (rests rows))).1 in
    omega (arith, rest, one, sum_by-cons (λ (x : Cut). length (baskets_of_cut x)) c cuts, sum_by-cons (λ (x : Cut). length x.put) c cuts)
