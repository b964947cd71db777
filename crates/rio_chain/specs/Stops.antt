-- What a stop leaves while a record is put or released.
use Rattle.std.specs.Prelude.{◌≡◌, ◌⊎◌, ℕ, ◌+◌, ◌<◌, List, length, Some, slice_get}
use Rattle.rio_host.specs.{Image.{Torn, Put, PutOrNot}, Host.{View}}
use Rattle.rio_chain.specs.Segments.{Link, IsChain}

-- bytes 0 to 99 stay
abbrev pub KeepsFront : List ℕ → List ℕ → Type 0
KeepsFront old new = (i x : ℕ) → i < 100 → slice_get old i ≡ Some x → slice_get new i ≡ Some x

-- the text is what was said, where told
abbrev pub IsSaidText : View → List ℕ → Type 0
IsSaidText v said = (all : List ℕ) → v.said ≡ Some all → said ≡ all

-- an image with the links of before or of after, and the front of before
pub record IsEither (v : View) (file : List ℕ) (before after : List Link) (image said : List ℕ) : Type 0 where
  pub links : IsChain before image ⊎ IsChain after image
  pub front : KeepsFront file image
  pub text : IsSaidText v said

-- bytes are written behind a word, and then, with them on the disk, the word
abbrev pub BodyThenWord : List ℕ → ℕ → List ℕ → List ℕ → List ℕ → Type 0
BodyThenWord file place tail word image = (staged : List ℕ) × Put (place + 4) tail file staged × Put place word staged image

-- an image with the bytes behind the word written anyhow, or with all of them and then the word
pub record IsBodyBehind (v : View) (file : List ℕ) (place : ℕ) (tail word : List ℕ) (image said : List ℕ) : Type 0 where
  pub image_is : Torn (place + 4) (length tail) file image ⊎ BodyThenWord file place tail word image
  pub text : IsSaidText v said

-- an image with the word, or without it
pub record IsWordOrNot (v : View) (file : List ℕ) (place : ℕ) (word : List ℕ) (image said : List ℕ) : Type 0 where
  pub image_is : PutOrNot place word file image
  pub text : IsSaidText v said
