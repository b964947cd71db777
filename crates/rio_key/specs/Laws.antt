-- What holds of every key and every list of key heads.
use Rattle.std.specs.Prelude.{◌≡◌, ℕ, ◌≤◌, List, take, Ok}
use Rattle.rio_key.specs.{Key.{key_at}, declared.head.KeyHead.{KeyHead}}

-- a key ends within its KeyLen: it is read from so many bytes as from all
abbrev pub KeyInFront : Type 0
KeyInFront = (p n : ℕ) (bytes : List ℕ) (h : KeyHead) → h.keylen ≤ n → key_at (record { place = p; rest = bytes }) ≡ Ok h → key_at (record { place = p; rest = take n bytes }) ≡ Ok h

-- what is read from a front of some bytes is read from all
abbrev pub KeyFromFront : Type 0
KeyFromFront = (p n : ℕ) (bytes : List ℕ) (h : KeyHead) → key_at (record { place = p; rest = take n bytes }) ≡ Ok h → key_at (record { place = p; rest = bytes }) ≡ Ok h
