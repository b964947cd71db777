-- Whether a file is made is told by its first four bytes.
use Rattle.std.proofs.Common.{◌≡◌, ◌<◌, ◌≤◌, Bool, true, false, ltb, List, ℕ, length, length-take, take, refl, arith}
use Rattle.std.proofs.lemmas.Bool.{ltb-true, ltb-false, lt-ltb, le-ltb}
use Rattle.byteorder.specs.{Endian.{big_number}, Numbers.{big_from-take}}
use Rattle.rio_dir.specs.Unborn.{is_unborn}

few_same : (n : ℕ) (file : List ℕ) → 4 ≤ n → ltb (length (take n file)) 4 ≡ ltb (length file) 4
few_same n file enough = by (ltb (length file) 4) refl
  where
    by : (b : Bool) → ltb (length file) 4 ≡ b → ltb (length (take n file)) 4 ≡ b
    by true t = let few : length file < 4 = ltb-true _ _ t in lt-ltb _ _ (omega (arith, enough, length-take n file))
    by false t = let all : 4 ≤ length file = ltb-false _ _ t in le-ltb _ _ (omega (arith, enough, length-take n file))

word_same : (n : ℕ) (file : List ℕ) → 4 ≤ n → big_number 4 (take n file) ≡ big_number 4 file
word_same n file enough = big_from-take 0 4 n file (omega (arith, enough))

pub unborn_prefix : (n : ℕ) (file : List ℕ) → 4 ≤ n → is_unborn (take n file) ≡ is_unborn file
unborn_prefix n file enough = rw (few_same n file enough, word_same n file enough) refl
