-- A file that isn't made yet, and the rules that are tested before anything is written to a file.
use Rattle.std.specs.Prelude.{ℕ, List, length, Option, None, Bool, ◌==◌, ◌||◌, nat_lt, if◌then◌else◌}
use Rattle.byteorder.specs.Endian.{big_number}
use Rattle.rio_head.specs.{declared.fault.HeadFault.{HeadFault}, Head.{head_at}}
use Rattle.rio_dir.specs.Closed.{fault_of}

-- it has fewer than four bytes, or its first word is zero
abbrev pub is_unborn : List ℕ → Bool
is_unborn file = nat_lt (length file) 4 || (big_number 4 file == 0)

-- the first rule that the header breaks, if the file is made
abbrev pub header_fault : List ℕ → Option HeadFault
header_fault file = if is_unborn file then None else fault_of (head_at file)
