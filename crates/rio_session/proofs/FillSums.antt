-- What a close writes of all trees: a sum over them, without one, with one more, and with one changed.
use Rattle.std.proofs.Common.{◌≡◌, ◌∙◌, ℕ, ◌+◌, ◌<◌, ◌≤◌, ◌^◌, Bool, true, false, cond, ltb, List, [], ◌∷◌, codes, length, Some, refl, ap, subst, arith}
use Rattle.byteorder.specs.Endian.{big_bytes}
use Rattle.std.proofs.{lemmas.List.{length-append}, lemmas.List.Sums.{sum_by-append, sum_by-cons}, lemmas.Option.{same_Some}, lemmas.Slice.Eq.{bytes_eq-Decides}}
use Rattle.std.specs.{Prelude.{if◌then◌else◌}, List.{find, flat_map, sum_by}}
use Rattle.rio_num.specs.{Padding.{padded_length}, Text.{long_form, short_form, text_bytes}}
use Rattle.rio_key.specs.declared.head.KeyHead.{KeyHead}
use Rattle.rio_dir.specs.Table.{heads_size}
use Rattle.rio_fill.specs.Fill.{TreeFill}
use Rattle.rio_state.proofs.CloseSizes.{close_size_is_need}
use Rattle.rio_state.specs.{Sizes.{close_size}, TreeLengths.{TreeLengths, save_lengths}}
use Rattle.rio_recover.specs.TreeTable.{is_name_before}
use Rattle.rio_recover.proofs.TreeOrder.{behind_other}
use Rattle.rio_session.specs.{Due.{due_of, due_of_fill, kept_records, lengths_of, lengths_of_fill, need_with}, Fills.{AreAfterName, AreNamesOrdered, FilledTree, is_tree_of, with_change, with_filled, without_filled}}
use Rattle.rio_session.proofs.FillLists.{sum_mapped}

-- ---- any sum over trees

module _ (f : FilledTree → ℕ) where
  pub sum_without : (name : List ℕ) (t : FilledTree) (trees : List FilledTree) → find (is_tree_of name) trees ≡ Some t → sum_by f (without_filled name trees) + f t ≡ sum_by f trees
  sum_without name t [] found = absurd cc
  sum_without name t (u ∷ us) found = by (is_tree_of name u) found (sum_without name t us)
    where
      by : (b : Bool) → cond b (Some u) (find (is_tree_of name) us) ≡ Some t → (find (is_tree_of name) us ≡ Some t → sum_by f (without_filled name us) + f t ≡ sum_by f us)
          → sum_by f (cond b us (u ∷ without_filled name us)) + f t ≡ sum_by f (u ∷ us)
      by true is rest = omega (arith, sum_by-cons f u us, ap f (same_Some u t is))
      by false is rest = omega (arith, sum_by-cons f u us, sum_by-cons f u (without_filled name us), rest is)

  pub sum_with : (t : FilledTree) (trees : List FilledTree) → sum_by f (with_filled t trees) ≡ sum_by f trees + f t
  sum_with t [] = omega (arith, sum_by-cons f t [])
  sum_with t (u ∷ us) = by (is_name_before u.name t.name) (sum_with t us)
    where
      by : (b : Bool) → sum_by f (with_filled t us) ≡ sum_by f us + f t → sum_by f (if b then u ∷ with_filled t us else t ∷ u ∷ us) ≡ sum_by f (u ∷ us) + f t
      by true rest = omega (arith, sum_by-cons f u us, sum_by-cons f u (with_filled t us), rest)
      by false rest = omega (arith, sum_by-cons f t (u ∷ us))

-- behind a name no tree is changed of that name
none_changed : (name : List ℕ) (change : TreeFill → TreeFill) (trees : List FilledTree) → AreAfterName name trees → with_change name change trees ≡ trees
none_changed name change [] are = refl
none_changed name change (t ∷ ts) are =
    let other : is_tree_of name t ≡ false = behind_other name t.name are.0 in
    λ i. ap (λ (b : Bool). if b then record t { fill = change t.fill } else t) other i ∷ none_changed name change ts are.1 i

pub sum_changed : (f : FilledTree → ℕ) (name : List ℕ) (change : TreeFill → TreeFill) (t : FilledTree) (trees : List FilledTree) → AreNamesOrdered trees → find (is_tree_of name) trees ≡ Some t
    → sum_by f (with_change name change trees) + f t ≡ sum_by f trees + f (record t { fill = change t.fill })
sum_changed f name change t [] are found = absurd cc
sum_changed f name change t (u ∷ us) are found = by (is_tree_of name u) refl found (sum_changed f name change t us are.1)
  where
    by : (b : Bool) → is_tree_of name u ≡ b → cond b (Some u) (find (is_tree_of name) us) ≡ Some t
        → (find (is_tree_of name) us ≡ Some t → sum_by f (with_change name change us) + f t ≡ sum_by f us + f (record t { fill = change t.fill }))
        → sum_by f ((if b then record u { fill = change u.fill } else u) ∷ with_change name change us) + f t ≡ sum_by f (u ∷ us) + f (record t { fill = change t.fill })
    by true own is rest =
        let same : u ≡ t = same_Some u t is in
        let still : with_change name change us ≡ us = none_changed name change us (subst (λ (n : List ℕ). AreAfterName n us) ((bytes_eq-Decides u.name name).0 own) are.0) in
        omega (
          arith,
          sum_by-cons f u us,
          sum_by-cons f (record u { fill = change u.fill }) (with_change name change us),
          ap (sum_by f) still,
          ap f same,
          ap (λ (v : FilledTree). f (record v { fill = change v.fill })) same,
        )
    by false own is rest = omega (arith, sum_by-cons f u us, sum_by-cons f u (with_change name change us), rest is)

-- ---- what a close writes

-- the records of the saves that are due
pub due_bytes : (trees : List FilledTree) → sum_by padded_length (flat_map save_lengths (lengths_of trees)) ≡ (due_of trees).bytes
due_bytes [] = refl
due_bytes (t ∷ ts) =
    omega (
      arith,
      sum_by-append padded_length (save_lengths (lengths_of_fill t.name t.fill)) (flat_map save_lengths (lengths_of ts)),
      due_bytes ts,
      sum_by-cons (λ (t : FilledTree). (due_of_fill t.name t.fill).bytes) t ts,
    )

-- and how many open baskets have entries
pub due_baskets : (trees : List FilledTree) → sum_by (λ (l : TreeLengths). length l.baskets) (lengths_of trees) ≡ (due_of trees).baskets
due_baskets trees = sum_mapped (λ (l : TreeLengths). length l.baskets) (λ (t : FilledTree). lengths_of_fill t.name t.fill) trees

pub need_by_due : (name : List ℕ) (heads : List KeyHead) (count : ℕ) (trees : List FilledTree) → need_with name heads count trees ≡ (due_of trees).bytes + close_size name (heads_size heads) (count + (due_of trees).baskets)
need_by_due name heads count trees =
    close_size_is_need (kept_records name heads count trees) ∙ (λ i. due_bytes trees i + close_size name (heads_size heads) (count + due_baskets trees i))

-- ---- bounds

pub size_bounds : (name : List ℕ) (heads live limit : ℕ) → close_size name heads live ≤ limit → (heads ≤ limit) × (live ≤ limit)
unfolding close_size
size_bounds name heads live limit le = (omega (arith, le), omega (arith, le))

-- what is kept within a limit
pub record AreLow (keys : List KeyHead) (records : ℕ) (trees : List FilledTree) (limit : ℕ) : Type 0 where
  pub heads : heads_size keys ≤ limit
  pub count : records + (due_of trees).baskets ≤ limit
  pub due : (due_of trees).bytes ≤ limit

pub need_bounds : (name : List ℕ) (heads : List KeyHead) (count : ℕ) (trees : List FilledTree) (limit : ℕ) → need_with name heads count trees ≤ limit → AreLow heads count trees limit
need_bounds name heads count trees limit le =
    let is = need_by_due name heads count trees in
    let size : close_size name (heads_size heads) (count + (due_of trees).baskets) ≤ limit = omega (arith, is, le) in
    let b = size_bounds name (heads_size heads) (count + (due_of trees).baskets) limit size in
    record { heads = b.0; count = b.1; due = omega (arith, is, le) }

text_most : (text : List ℕ) → length (text_bytes text) ≤ length text + 5
text_most text = by (ltb (length text) 255)
  where
    by : (b : Bool) → length (cond b (short_form text) (long_form text)) ≤ length text + 5
    by true = omega arith
    by false = omega (arith, length-append (big_bytes 4 (length text)) text)

-- the records of a close are short where few bytes are kept
pub size_low : (name : List ℕ) (heads live : ℕ) → length name ≤ 65497 → heads < 2 ^ 40 → live < 2 ^ 40 → close_size name heads live < 2 ^ 50
unfolding close_size
size_low name heads live short few less = omega (arith, short, few, less, text_most name, text_most (codes "TFile"), text_most [])
