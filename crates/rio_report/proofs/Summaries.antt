-- The rows of a tree are summed up one after the other, and a file that breaks no rule is summed up by what it describes.
use Rattle.std.proofs.{Common.{◌≡◌, ℕ, ◌+◌, ◌≤◌, List, [], ◌∷◌, ◌++◌, length, map, true, false, Option, Result, Ok, Err, unwrap_or, IfOk, ℤ, pos, ◌+ℤ◌, refl, sym, ap, ◌∙◌, arith}, lemmas.Int.{int_wrap-add_left, int_wrap_fits, ints}}
use Rattle.std.proofs.lemmas.List.FromFn.{map-range_with_len_more}
use Rattle.std.specs.{Int.{int_wrap, w128}, List.{range_with_len}}
use Rattle.rio_num.specs.Reading.{◌>>=◌}
use Rattle.rio_format.specs.{TreeClasses.{tree_classes}, declared.class.ClassDef.{ClassDef}}
use Rattle.rio_gen.specs.Summary.{sum_of_row, sum_of_rows}
use Rattle.rio_head.specs.declared.fault.HeadFault.{HeadFault}
use Rattle.rio_host.specs.Host.{View}
use Rattle.rio_key.specs.{declared.head.KeyHead.{KeyHead}, Key.{is_compressed}}
use Rattle.rio_machine.specs.State.{Row}
use Rattle.rio_tree.specs.{declared.head.Branch.{Branch}, declared.head.TreeHead.{TreeHead}}
use Rattle.rio_entry.specs.SavedRows.{row_there}
use Rattle.rio_close.specs.{Causes.{IsCallCause}, Opens.{Opens}}
use Rattle.rio_close.specs.declared.fault.ReportFault.{ReportFault, TheVariants.{BadFile, NoMemory, HostFault, SayFault}}
use Rattle.rio_report.specs.{declared.described.Described.{Described}, declared.summary.TreeSummary.{TreeSummary}, Described.{described_file}, Dump.{stored_tree}, Scan.{tree_key}}
use Rattle.rio_report.specs.Summary.{found_summary, key_summary, no_summary, summarized_file, summary_of_head, summary_to}

-- so many classes of trees
pub tree_count : length tree_classes ≡ 12
unfolding tree_classes
tree_count = refl

-- ---- rows

sums_behind : (rows : List Row) (r : Row) → sum_of_rows (rows ++ r ∷ []) ≡ sum_of_rows rows +ℤ sum_of_row r
sums_behind [] r = omega (arith, ints)
sums_behind (row ∷ rows) r = ap (λ (z : ℤ). sum_of_row row +ℤ z) (sums_behind rows r) ∙ omega (arith, ints)

pub zero_wrapped : int_wrap w128 (pos 0) ≡ pos 0
zero_wrapped = int_wrap_fits w128 (pos 0) (record { sfits = omega arith })

-- one row more, modulo 2^128
sum_more : (f : ℕ → Row) (e : ℕ)
    → int_wrap w128 (int_wrap w128 (sum_of_rows (map f (range_with_len 0 e))) +ℤ sum_of_row (f e)) ≡ int_wrap w128 (sum_of_rows (map f (range_with_len 0 (e + 1))))
sum_more f e =
    int_wrap-add_left w128 (sum_of_rows (map f (range_with_len 0 e))) (sum_of_row (f e))
    ∙ ap (int_wrap w128) (sym (sums_behind (map f (range_with_len 0 e)) (f e)))
    ∙ ap (λ (rows : List Row). int_wrap w128 (sum_of_rows rows)) (sym (map-range_with_len_more f 0 e e (omega arith)))

abbrev pub with_row : TreeSummary → Option Row → TreeSummary
with_row s row = record s { sum = int_wrap w128 (s.sum +ℤ sum_of_row (unwrap_or row [])) }

module _ (file : List ℕ) (classes : List ClassDef) (branches : List Branch) (entries baskets : ℕ) where
  abbrev pub summed : ℕ → TreeSummary
  summed e = summary_to file classes branches entries baskets e

  pub none_summed : record { entries = entries; branches = length branches; baskets = baskets; sum = pos 0 } ≡ summed 0
  none_summed = ap (λ (z : ℤ). let s : TreeSummary = record { entries = entries; branches = length branches; baskets = baskets; sum = z } in s) (sym zero_wrapped)

  -- the row of the next entry is added
  pub row_summed : (e : ℕ) (s next : TreeSummary) (row : Option Row) → s ≡ summed e → row ≡ row_there file classes branches e → next ≡ with_row s row → next ≡ summed (e + 1)
  row_summed e s next row is there added =
      added
      ∙ ap (λ (x : TreeSummary). with_row x row) is
      ∙ ap (with_row (summed e)) there
      ∙ ap (λ (z : ℤ). record (summed e) { sum = z }) (sum_more (λ n. unwrap_or (row_there file classes branches n) []) e)

  -- and then none is left
  pub all_summed : (e : ℕ) (s : TreeSummary) → e ≤ entries → entries ≤ e → s ≡ summed e → s ≡ summed entries
  all_summed e s most least is = is ∙ let same : e ≡ entries = omega (arith, most, least) in ap summed same

-- ---- a key

module _ (file : List ℕ) (classes : List ClassDef) (key : KeyHead) where
  pub compressed_summary : is_compressed key ≡ true → no_summary ≡ key_summary file classes key
  compressed_summary is = rw is refl

  pub read_summary : (head : TreeHead) → is_compressed key ≡ false → stored_tree file classes key ≡ Ok head → summary_of_head file classes head ≡ key_summary file classes key
  read_summary head is found = rw (is, found) refl

  pub unread_summary : (text : List ℕ) → is_compressed key ≡ false → stored_tree file classes key ≡ Err text → no_summary ≡ key_summary file classes key
  unread_summary text is found = rw (is, found) refl

-- ---- a file

module _ (name file : List ℕ) where
  abbrev summarized_by : Result Described HeadFault → Result TreeSummary HeadFault
  summarized_by read = read >>= λ described. Ok (found_summary file described.classes (tree_key name described.closed.keys))

  pub summarized_is : (described : Described) → described_file file ≡ Ok described
      → summarized_file name file ≡ Ok (found_summary file described.classes (tree_key name described.closed.keys))
  unfolding summarized_file
  summarized_is described is = ap summarized_by is

  pub summarized_bad : (fault : HeadFault) → described_file file ≡ Err fault → summarized_file name file ≡ Err fault
  unfolding summarized_file
  summarized_bad fault is = ap summarized_by is

-- a call that reads no rule finds what there is
pub opens_read : (a d : View) (summed : Result TreeSummary HeadFault) (s : TreeSummary) → summed ≡ Ok s → (r : Result TreeSummary ReportFault) → IfOk r (λ found. found ≡ s) → IsCallCause a d r
    → Opens r summed
opens_read a d summed s is (Ok found) same cause = is ∙ ap (λ (x : TreeSummary). let r : Result TreeSummary HeadFault = Ok x in r) (sym same)
opens_read a d summed s is (Err (BadFile place kind)) same cause = absurd cause
opens_read a d summed s is (Err NoMemory) same cause = tt
opens_read a d summed s is (Err HostFault) same cause = tt
opens_read a d summed s is (Err SayFault) same cause = tt

-- a fault in reading a file is one in summing it up
pub opens_fault : (read : Result Described HeadFault) (summed : Result TreeSummary HeadFault) → ((fault : HeadFault) → read ≡ Err fault → summed ≡ Err fault) → (e : ReportFault)
    → Opens {X = Described} (Err e) read → Opens {X = TreeSummary} (Err e) summed
opens_fault read summed bad (BadFile place kind) opens = bad _ opens
opens_fault read summed bad NoMemory opens = tt
opens_fault read summed bad HostFault opens = tt
opens_fault read summed bad SayFault opens = tt
