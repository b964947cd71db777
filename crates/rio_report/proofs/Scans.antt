-- What is said of the tree of a file that breaks no rule is its listing.
use Rattle.std.proofs.Common.{◌≡◌, ℕ, List, Result, Ok, Err, ap}
use Rattle.rio_num.specs.Reading.{◌>>=◌}
use Rattle.rio_head.specs.declared.fault.HeadFault.{HeadFault}
use Rattle.rio_report.specs.{declared.described.Described.{Described}, Described.{described_file}}
use Rattle.rio_report.specs.{RowForms.{RowForm}, Scan.{scan_text, scanned_file}}

module _ (form : RowForm) (name file : List ℕ) where
  abbrev scanned_by : Result Described HeadFault → Result (List ℕ) HeadFault
  scanned_by read = read >>= λ described. Ok (scan_text form file name described)

  pub scanned_is : (described : Described) → described_file file ≡ Ok described → scanned_file form name file ≡ Ok (scan_text form file name described)
  unfolding scanned_file
  scanned_is described is = ap scanned_by is

  pub scanned_bad : (fault : HeadFault) → described_file file ≡ Err fault → scanned_file form name file ≡ Err fault
  unfolding scanned_file
  scanned_bad fault is = ap scanned_by is
