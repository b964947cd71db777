-- What spells a key is read as it, whatever follows, and what is read as a key spells it.
use Rattle.std.proofs.Common.{◌≡◌, ℕ, ◌+◌, List, ◌++◌, length, Ok}
use Rattle.rio_num.specs.{At.{At, AreBytes}, Plain.{plain}}
use Rattle.rio_key.specs.{Key.{SpellsKey, key_head_at, key_layout}, declared.head.KeyHead.{KeyHead}}
use Rattle.rio_key.proofs.KeyParts.{key_moves}
use Rattle.rio_num.proofs.{Moves.{IsFound, found}, Plain.{spelled_again, standing}}

pub key_again : (h : KeyHead) (bytes : List ℕ) (p : ℕ) (rest : List ℕ) → SpellsKey h bytes → key_head_at (standing p (bytes ++ rest)) ≡ Ok (h, plain (standing (p + length bytes) rest))
unfolding SpellsKey
key_again h bytes p rest c = spelled_again key_layout h bytes p rest c

pub key_found : (s : At) (h : KeyHead) (s' : At) → AreBytes s.rest → key_head_at s ≡ Ok (h, plain s') → IsFound key_layout s h s'
key_found s h s' fits e = found key_layout key_moves s h s' fits e
