-- A file whose header says another END.
use Rattle.std.specs.Prelude.{◌≡◌, ◌<◌, ◌^◌, ℕ, List, false, Ok}
use Rattle.byteorder.specs.Endian.{big_bytes}
use Rattle.rio_head.specs.{Form.{is_large_head}, Head.{head_at}, declared.head.FileHead.{FileHead}}
use Rattle.rio_host.specs.Image.{Put, PutOrNot}
use Rattle.rio_dir.specs.Unborn.{is_unborn}
use Rattle.rio_chain.specs.Segments.{IsChain, Link}
use Rattle.rio_machine.specs.State.{State}
use Rattle.rio_state.specs.{Left.{HasOpenHead, IsLeftAs, open_end}, Reads.{ReadsAsState}}

-- the word of END is written into the header
abbrev pub SaysEnd : ℕ → List ℕ → List ℕ → Type 0
SaysEnd end old new = Put 12 (big_bytes 4 end) old new

-- a small header is read as before, but for END, in a file that has segments
abbrev pub HeadSaysEnd : Type 0
HeadSaysEnd = (old new : List ℕ) (links : List Link) (head : FileHead) (end : ℕ) → end < 2 ^ 32 → SaysEnd end old new
    → IsChain links old → head_at old ≡ Ok head → is_large_head head.version ≡ false → head_at new ≡ Ok (record head { end = end })

-- the segments are the same
abbrev pub ChainIgnoresEnd : Type 0
ChainIgnoresEnd = (old new : List ℕ) (links : List Link) (end : ℕ) → SaysEnd end old new → IsChain links old → IsChain links new

-- a file that is made reads as the same state
abbrev pub StateIgnoresEnd : Type 0
StateIgnoresEnd = (old new : List ℕ) (m : State) (end : ℕ) → end < 2 ^ 32 → SaysEnd end old new → is_unborn old ≡ false
    → ReadsAsState old m → ReadsAsState new m

-- with the word that marks it as open it has an open file's header
abbrev pub MarkOpensFile : Type 0
MarkOpensFile = (old new : List ℕ) (links : List Link) (head : FileHead) → SaysEnd open_end old new → IsChain links old
    → head_at old ≡ Ok head → is_large_head head.version ≡ false → HasOpenHead new head.nbytes_name

-- with the mark or without it the file reads as the same state, and by its key list where it isn't marked
abbrev pub MarkKeepsState : Type 0
MarkKeepsState = (old new : List ℕ) (m : State) → PutOrNot 12 (big_bytes 4 open_end) old new → is_unborn old ≡ false → IsLeftAs m old → IsLeftAs m new
