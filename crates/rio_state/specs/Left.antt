-- What a stop leaves of a file that is written to.
use Rattle.std.specs.Prelude.{◌≡◌, ◌≢◌, ℕ, List, codes, false, Option, option_map, Ok}
use Rattle.rio_key.specs.declared.head.KeyHead.{KeyHead}
use Rattle.rio_head.specs.{Form.{is_large_head}, Head.{head_at}, declared.head.FileHead.{FileHead}}
use Rattle.rio_host.specs.Image.{Has}
use Rattle.rio_chain.specs.Segments.{HasWord}
use Rattle.rio_machine.specs.State.{State}
use Rattle.rio_state.specs.{KeyedRecords.{KeyedRecord}, Reads.{ReadsAsState, ReadsClosed}}

-- where the header says END while the file is open for writing
abbrev pub open_end : ℕ
open_end = 2000000000

abbrev pub IsMarkedOpen : List ℕ → Type 0
IsMarkedOpen file = HasWord file 12 open_end

-- A file that is made and isn't marked as open reads as the state by its key list.
abbrev pub ReadsClosedUnlessOpen : List ℕ → State → Type 0
ReadsClosedUnlessOpen file m = (word : ℕ) → Has file 0 (codes "root") → HasWord file 12 word → word ≢ open_end → ReadsClosed file m

-- The file reads as the state by the walk, and by its key list where it isn't marked as open.
pub record IsLeftAs (m : State) (file : List ℕ) : Type 0 where
  pub reads : ReadsAsState file m
  pub closed : ReadsClosedUnlessOpen file m

-- ---- while it is open

-- the header is of the small form and says that the file is open, and how long key and texts of the first record are
pub record HasOpenHead (file : List ℕ) (nbytes_name : ℕ) : Type 0 where
  pub head : FileHead
  pub head_is : head_at file ≡ Ok head
  pub small : is_large_head head.version ≡ false
  pub end : head.end ≡ open_end
  pub name : head.nbytes_name ≡ nbytes_name

abbrev pub info_head : Option KeyedRecord → Option KeyHead
info_head info = option_map (λ r. r.head) info
