-- The rules of a file that a verb tests, and the first of them that the file breaks.
use Rattle.std.specs.Prelude.{ℕ, List, Option}
use Rattle.rio_head.specs.declared.fault.HeadFault.{HeadFault}
use Rattle.rio_dir.specs.{Closed.{closed_file, fault_of}, Unborn.{header_fault}}
use Rattle.rio_report.specs.Described.{described_file}

-- How far a verb tests a file before it does anything: the header alone, where the file is made; or that the file is closed,
-- with its directory record and its key list; or also the class list.
pub data Tests : Type 0 where
  HeaderAlone : Tests
  ToKeyList : Tests
  ToClassList : Tests

-- the first rule that is broken of those that are tested, and the place where
abbrev pub first_fault : Tests → List ℕ → Option HeadFault
first_fault HeaderAlone file = header_fault file
first_fault ToKeyList file = fault_of (closed_file file)
first_fault ToClassList file = fault_of (described_file file)
