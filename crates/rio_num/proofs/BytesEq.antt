-- Bytes that are compared.
use Rattle.std.proofs.{Common.{◌≡◌, ℕ, List, sym}, lemmas.Bool.Decides.{same_from_decides}, lemmas.Slice.Eq.{bytes_eq-Decides}}
use Rattle.std.specs.Str.{bytes_eq}

pub bytes_eq-sym : (a b : List ℕ) → bytes_eq a b ≡ bytes_eq b a
bytes_eq-sym a b =
    let other = bytes_eq-Decides b a in
    same_from_decides (bytes_eq a b) (bytes_eq b a) (bytes_eq-Decides a b) (λ e. sym (other.0 e), λ e. other.1 (sym e))
