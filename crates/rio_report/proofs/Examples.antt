-- Baskets, refusals and lines, computed.
use Rattle.std.proofs.Common.{◌≡◌, [], ◌∷◌, pos, true, false, Some, None, Ok, Err, codes, refl}
use Rattle.std.specs.Fmt.{digits}
use Rattle.rio_machine.specs.declared.refusal.Refusal.TheVariants.{NoSuchName, NoSuchCycle, NotATree}
use Rattle.rio_leaf.specs.declared.branch.Shape.TheVariants.{Class}
use Rattle.rio_num.specs.Printed.{name_text}
use Rattle.rio_tree.specs.{Index.{basket_number}, declared.basket_at.BasketAt.{BasketAt}, declared.head.Branch.{Branch}}
use Rattle.rio_tree.specs.declared.refusal.BranchRefusal.TheVariants.{BadBasket, BadEntry, Compressed, EntryCount, NoCounter, SubBranches}
use Rattle.rio_entry.specs.{Counters.{counters_are_read}, Refusals.{refused_first}, StoredEntries.{is_filled, refusal_by}}
use Rattle.rio_report.specs.{Dump.{item_line}, RowForms.{row_form}, Scan.{refused_lines, scan_lines, scanned_count}}

-- two baskets: of entries 0 to 4, and from 5 on
abbrev first_basket : BasketAt
first_basket = record { bytes = 72; first = 0; seek = 100 }

abbrev next_basket : BasketAt
next_basket = record { bytes = 72; first = 5; seek = 172 }

entry_of_the_first : basket_number 4 (first_basket ∷ next_basket ∷ []) ≡ 0
entry_of_the_first = refl

entry_of_the_next : basket_number 5 (first_basket ∷ next_basket ∷ []) ≡ 1
entry_of_the_next = refl

-- one entry of three is there
one_of_three : is_filled next_basket 8 (Ok ([] ∷ [])) ≡ false
one_of_three = refl

three_of_three : is_filled next_basket 8 (Ok ([] ∷ [] ∷ [] ∷ [])) ≡ true
three_of_three = refl

-- a last basket that begins behind the branch's entries has no number of entries, not even 0
begins_too_late : is_filled next_basket 3 (Ok []) ≡ false
begins_too_late = refl

-- compressed comes first
compressed_first : refusal_by true false ≡ Some Compressed
compressed_first = refl

-- ---- a branch that is counted by the first two

abbrev counted : Branch
counted = record {
  def = record { name = codes "v"; shape = Class (codes "Hit") };
  class_version = pos 1;
  entries = 3;
  offsets = true;
  baskets = [];
  counted_by = 0 ∷ 1 ∷ [];
  refused = Some EntryCount;
}

counters_read : counters_are_read (None ∷ None ∷ Some BadBasket ∷ []) counted ≡ true
counters_read = refl

-- that a counter isn't read comes before the number of entries, and a branch refused so counts nothing either
counter_refused : counters_are_read (None ∷ Some NoCounter ∷ []) counted ≡ false
counter_refused = refl

told_before_counters : refused_first (Some SubBranches) ≡ Some SubBranches
told_before_counters = refl

told_behind_counters : refused_first (Some EntryCount) ≡ None
told_behind_counters = refl

-- ---- lines

two_lines : refused_lines (counted ∷ counted ∷ counted ∷ []) (Some BadEntry ∷ None ∷ Some NoCounter ∷ []) ≡ codes "branch v refused BadEntry\nbranch v refused NoCounter\n"
unfolding name_text
two_lines = refl

count_line : scanned_count (codes "T") 12 ≡ codes "ok scan T 12\n"
unfolding name_text digits
count_line = refl

no_tree : scan_lines (row_form None false) [] [] (Err NotATree) ≡ codes "no 6 NotATree\n"
unfolding digits
no_tree = refl

no_name : scan_lines (row_form None true) [] [] (Err NoSuchName) ≡ codes "no 3 NoSuchName\n"
unfolding digits
no_name = refl

no_cycle : item_line [] [] (Err NoSuchCycle) ≡ codes "no 4 NoSuchCycle\n"
unfolding digits
no_cycle = refl
