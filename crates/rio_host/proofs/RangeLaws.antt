-- Bytes that a file has at a place are a range of it.
use Rattle.std.proofs.Common.{◌≡◌, ℕ, ◌+◌, ◌<◌, ◌≤◌, List, length, length-take, length-drop, take, drop, get_or, min, ap, sym, ◌∙◌, arith}
use Rattle.std.proofs.{lemmas.List.{take_min, ext_get_or, get_or-take, get_or-drop}, lemmas.Option.{slice_get-get_or, get_or_from_slice_get}}
use Rattle.rio_host.specs.Image.{Has}

pub has_range : (file : List ℕ) (place n : ℕ) (bytes : List ℕ) → length bytes ≡ n → place + n ≤ length file → Has file place bytes → bytes ≡ take n (drop place file)
has_range file place n bytes long within has = ext_get_or 0 bytes (take n (drop place file)) (omega (arith, length-take n (drop place file), length-drop place file)) same
  where
    same : (i : ℕ) → i < length bytes → get_or bytes i 0 ≡ get_or (take n (drop place file)) i 0
    same i lt =
        let below : i < n = omega arith in
        let there = has i (get_or bytes i 0) (slice_get-get_or bytes i 0 lt) in
        sym (get_or_from_slice_get file (place + i) (get_or bytes i 0) 0 there) ∙ sym (get_or-drop place file i 0) ∙ sym (get_or-take n (drop place file) i 0 below)

-- as many elements as there are
pub take_within : (n k : ℕ) (xs : List ℕ) → n ≡ min k (length xs) → take n xs ≡ take k xs
take_within n k xs is = ap (λ (m : ℕ). take m xs) is ∙ take_min k xs
