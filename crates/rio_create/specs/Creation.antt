-- What a stop leaves while a file is made, and why it could not be made.
use Rattle.std.specs.Prelude.{◌≡◌, ◌⊎◌, ℕ, List, true, Result, Ok, Err}
use Rattle.rio_host.specs.{Host.{Leaves, Rose, View}, Image.{Has}}
use Rattle.rio_chain.specs.Stops.{IsSaidText}
use Rattle.rio_dir.specs.Unborn.{is_unborn}
use Rattle.rio_machine.specs.State.{empty_state}
use Rattle.rio_state.specs.Left.{IsLeftAs, IsMarkedOpen}
use Rattle.rio_create.specs.declared.fault.CreateFault.{CreateFault, TheVariants.{NoMemory, HostFault}}

-- an image that no close has come to: it isn't made yet, or it is marked as open
abbrev pub IsUnclosed : List ℕ → Type 0
IsUnclosed image = (is_unborn image ≡ true) ⊎ IsMarkedOpen image

-- each file that a stop leaves now is one
abbrev pub LeavesUnclosed : View → Type 0
LeavesUnclosed v = (image said : List ℕ) → Leaves v image said → IsUnclosed image

-- an image that reads as the empty state and isn't closed, with the text that was said before
pub record IsLeftEmpty (v : View) (image said : List ℕ) : Type 0 where
  pub left : IsLeftAs empty_state image
  pub unclosed : IsUnclosed image
  pub text : IsSaidText v said

-- an image that isn't made yet, or that begins with all of these bytes
pub record IsMadeOrNot (v : View) (bytes image said : List ℕ) : Type 0 where
  pub image_is : (is_unborn image ≡ true) ⊎ Has image 0 bytes
  pub text : IsSaidText v said

-- a count of faults rises where a call of the host failed, and only there
abbrev pub IsCreateCause : {X : Type 0} → View → View → Result X CreateFault → Type 0
IsCreateCause old new (Ok x) = new.disk_faults ≡ old.disk_faults
IsCreateCause old new (Err NoMemory) = new.disk_faults ≡ old.disk_faults
IsCreateCause old new (Err HostFault) = Rose old.disk_faults new.disk_faults
