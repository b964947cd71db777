-- A record is put together: room for it, its key, its data, and zero bytes.
use Rattle.std.proofs.Common.{◌≡◌, ℕ, ◌+◌, ◌≤◌, max, List, [], ◌++◌, length, length-append, sym, ap, ◌∙◌, arith}
use Rattle.rio_num.specs.Room.{Room, padding, room_of, with_more}
use Rattle.rio_key.specs.{Written.{written_key}, declared.head.KeyHead.{KeyHead}}
use Rattle.rio_chain.specs.{Record.{FitsWords, new_key, record_bytes, unpadded}, declared.key_words.KeyWords.{KeyWords}}
use Rattle.rio_chain.proofs.Records.{is_new_record}

module _ (words : KeyWords) (contents : List ℕ) (head : KeyHead) (is : head ≡ new_key words (length contents)) (n : ℕ) (long : n ≡ head.keylen + head.objlen + 4)
    (none roomy keyed filled padded : Room) (began : none ≡ room_of []) (room : roomy ≡ record none { spare = max none.spare n })
    (key : keyed ≡ with_more roomy (written_key head)) (put : filled ≡ with_more keyed contents) (pad : padded ≡ with_more filled (padding filled.bytes)) where
  keyed_is : keyed.bytes ≡ written_key head
  keyed_is = ap (λ (r : Room). r.bytes) key ∙ ap (λ (r : Room). r.bytes ++ written_key head) room ∙ ap (λ (r : Room). r.bytes ++ written_key head) began

  filled_is : filled.bytes ≡ unpadded words contents
  filled_is = ap (λ (r : Room). r.bytes) put ∙ ap (λ (b : List ℕ). b ++ contents) keyed_is ∙ ap (λ (h : KeyHead). written_key h ++ contents) is

  pub padded_is : padded.bytes ≡ record_bytes words contents
  unfolding record_bytes
  padded_is = ap (λ (r : Room). r.bytes) pad ∙ ap (λ (b : List ℕ). b ++ padding b) filled_is

  -- it has as many bytes as its key says
  total : FitsWords words (length contents) → length padded.bytes ≡ head.keylen + head.objlen
  total fits = ap length padded_is ∙ (is_new_record words contents fits).size ∙ sym (ap (λ (h : KeyHead). h.keylen + h.objlen) is)

  pub four_spare : FitsWords words (length contents) → 4 ≤ padded.spare
  four_spare fits = omega (
    arith,
    long,
    ap (λ (r : Room). r.spare) pad,
    ap (λ (r : Room). r.spare) put,
    ap (λ (r : Room). r.spare) key,
    ap (λ (r : Room). r.spare) room,
    total fits,
    ap (λ (r : Room). length r.bytes) pad,
    length-append filled.bytes (padding filled.bytes),
    ap (λ (r : Room). length r.bytes) put,
    length-append keyed.bytes contents,
    ap length keyed_is,
  )
