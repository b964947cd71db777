-- The identifier of a file.
use Rattle.std.specs.Prelude.{ℕ, List, ◌∷◌, ◌++◌, take}
use Rattle.sha1.specs.Sha1.{sha1}
use Rattle.uuid.specs.{Parts.{with_variant, with_version}, Uuid.{namespace_url}, declared.Variant.TheVariants.{RFC4122}, declared.Version.TheVariants.{Sha1}}

-- the UUID of version 5 of a name in the namespace of URLs
abbrev pub url_uuid : List ℕ → List ℕ
url_uuid name = with_version (with_variant (take 16 (sha1 (namespace_url ++ name))) RFC4122) Sha1

-- the number 1 in two bytes, and the UUID of the file's name
abbrev pub uuid_of_file : List ℕ → List ℕ
uuid_of_file name = 0 ∷ 1 ∷ url_uuid name
