-- The last writes of a close: fields of the header and of the directory record, and then the word that says END.
use Rattle.std.specs.Prelude.{◌≡◌, ◌⊎◌, ℕ, ◌+◌, ◌<◌, ◌≤◌, List, Some, slice_get}
use Rattle.byteorder.specs.Endian.{big_bytes}
use Rattle.rio_host.specs.{Host.{View}, Image.{Has, Put}}
use Rattle.rio_chain.specs.Stops.{IsSaidText}

-- a place outside the fields: 12 bytes at 16, 8 bytes at 37, and 24 bytes of the directory record from its place on
abbrev pub IsOutsideFields : ℕ → ℕ → Type 0
IsOutsideFields place i = ((i < 16) ⊎ (28 ≤ i)) × ((i < 37) ⊎ (45 ≤ i)) × ((i < place) ⊎ (place + 24 ≤ i))

-- each byte outside the fields stays
abbrev pub KeepsAllButFields : ℕ → List ℕ → List ℕ → Type 0
KeepsAllButFields place old new = (i x : ℕ) → IsOutsideFields place i → slice_get old i ≡ Some x → slice_get new i ≡ Some x

-- the fields stand in the file, and else it is as before
pub record WritesFields (free info : List ℕ) (place : ℕ) (directory old new : List ℕ) : Type 0 where
  pub others : KeepsAllButFields place old new
  pub free_there : Has new 16 free
  pub info_there : Has new 37 info
  pub directory_there : Has new place directory

-- the fields are written, and then, with them on the disk, END
abbrev pub FieldsThenEnd : List ℕ → List ℕ → ℕ → List ℕ → ℕ → List ℕ → List ℕ → Type 0
FieldsThenEnd free info place directory end old new =
    (staged : List ℕ) × WritesFields free info place directory old staged × Put 12 (big_bytes 4 end) staged new

-- an image with the fields written anyhow, or with all of them and then END
pub record IsFieldsThenEnd (v : View) (free info : List ℕ) (place : ℕ) (directory : List ℕ) (end : ℕ) (old image said : List ℕ) : Type 0 where
  pub image_is : KeepsAllButFields place old image ⊎ FieldsThenEnd free info place directory end old image
  pub text : IsSaidText v said

-- an image with the fields written anyhow
pub record IsFieldsOrNot (v : View) (place : ℕ) (old image said : List ℕ) : Type 0 where
  pub others : KeepsAllButFields place old image
  pub text : IsSaidText v said
