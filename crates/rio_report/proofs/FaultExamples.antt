-- First faults, computed.
use Rattle.std.proofs.Common.{◌≡◌, [], ◌∷◌, refl}
use Rattle.std.specs.Prelude.{codes, Some, None}
use Rattle.rio_head.specs.{Head.{fault_at, header_layout}, declared.fault.FileFault.TheVariants.{NotRoot, Short}}
use Rattle.rio_dir.specs.Closed.{closed_file, closed_head}
use Rattle.rio_report.specs.FirstFault.{HeaderAlone, ToKeyList, first_fault}

-- a file that isn't made yet breaks no rule of a verb that tests the header alone
empty_is_unborn : first_fault HeaderAlone [] ≡ None
empty_is_unborn = refl

short_is_unborn : first_fault HeaderAlone (codes "abc") ≡ None
short_is_unborn = refl

zeros_are_unborn : first_fault HeaderAlone (0 ∷ 0 ∷ 0 ∷ 0 ∷ 7 ∷ []) ≡ None
zeros_are_unborn = refl

-- it is no closed file
empty_is_short : first_fault ToKeyList [] ≡ Some (fault_at 0 Short)
unfolding header_layout closed_file closed_head
empty_is_short = refl

other_begin : first_fault HeaderAlone (codes "rooX") ≡ Some (fault_at 0 NotRoot)
unfolding header_layout
other_begin = refl
