-- What a run begins with, of each file that it writes to.
use Rattle.std.specs.Prelude.{◌≡◌, ◌≤◌, ℕ, List, length}
use Rattle.rio_machine.specs.State.{State}
use Rattle.rio_state.specs.Reads.{ReadsAsState}
use Rattle.rio_session.specs.Opening.{OpensWith}
use Rattle.rootio.specs.{Writing.{Beginning, IsListingOf, target_of}, declared.words.Work.{Work}}

-- The file has a beginning with this text, input and state: records with which the verb's run begins, and a listing of their keys.
pub record HasBeginning (work : Work) (file text input : List ℕ) (m : State) : Type 0 where
  pub b : Beginning
  pub file_is : b.file ≡ file
  pub text_is : b.text ≡ text
  pub input_is : b.input ≡ input
  pub state_is : b.state ≡ m
  pub begins : OpensWith (target_of work).name (target_of work).datime b.file b.links
  pub listing : IsListingOf work b.links b.listing

-- Each file that isn't made yet or reads as a state has one, whatever was said before and whatever the input is.
abbrev pub BeginningsExist : Type 0
BeginningsExist = (work : Work) (file text input : List ℕ) (m : State) → length (target_of work).name ≤ 200 → ReadsAsState file m
    → HasBeginning work file text input m
