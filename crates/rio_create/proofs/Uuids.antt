-- An identifier has 18 bytes.
use Rattle.std.proofs.Common.{◌≡◌, ℕ, zero, suc, ◌*◌, ◌/◌, List, ◌++◌, length, length-append, length-take, take, set, refl, ◌∙◌, arith}
use Rattle.std.proofs.lemmas.List.{length-set}
use Rattle.std.specs.{Prelude.{slice_index}, Int.{w32, to_be_bytes}}
use Rattle.sha1.specs.Sha1.{digest_bytes, hash_after, padded_message, sha1}
use Rattle.uuid.specs.Uuid.{namespace_url}
use Rattle.rio_head.specs.Uuid.{url_uuid, uuid_of_file}

digest_long : (h : List ℕ) (n : ℕ) → length (digest_bytes h n) ≡ 4 * n
unfolding digest_bytes
digest_long h zero = refl
digest_long h (suc n) = omega (arith, length-append (digest_bytes h n) (to_be_bytes w32 (slice_index h n)), digest_long h n)

hash_long : (m : List ℕ) → length (sha1 m) ≡ 20
unfolding sha1
hash_long m = digest_long (hash_after (padded_message m) (length (padded_message m) / 64)) 5

set_twice : (xs : List ℕ) (i j a b : ℕ) → length (set (set xs i a) j b) ≡ length xs
set_twice xs i j a b = length-set (set xs i a) j b ∙ length-set xs i a

pub length-uuid : (name : List ℕ) → length (uuid_of_file name) ≡ 18
length-uuid name =
    let digest = sha1 (namespace_url ++ name) in
    let front : length (take 16 digest) ≡ 16 = omega (arith, length-take 16 digest, hash_long (namespace_url ++ name)) in
    let whole : length (url_uuid name) ≡ length (take 16 digest) = set_twice (take 16 digest) 8 6 _ _ in
    omega (arith, front, whole)
