-- What is listed of a file that a run or a recovery has closed.
use Rattle.std.specs.Prelude.{◌≡◌, ℕ, List, Ok}
use Rattle.rio_chain.specs.Segments.{Link}
use Rattle.rio_dir.specs.Listing.{listed_file}
use Rattle.rio_session.specs.Closes.{IsWellClosed}
use Rattle.rootio.specs.Writing.{ListsKeys}

-- A closed file lists as the keys of the records that it had before its close. So what a recovery prints is what `ls` prints of the
-- file that it leaves.
abbrev pub ClosedFilesList : Type 0
ClosedFilesList =
    (name : List ℕ) (datime : ℕ) (header : List ℕ) (links : List Link) (image listing : List ℕ)
    → IsWellClosed name datime header links image → ListsKeys links listing → listed_file image ≡ Ok listing
