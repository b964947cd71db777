-- A basket's record is put together: room for it, its key, its head, its data, and zero bytes.
use Rattle.std.proofs.Common.{◌≡◌, ℕ, ◌+◌, ◌≤◌, max, List, [], ◌++◌, length, append_assoc, length-append, sym, ap, ◌∙◌, arith}
use Rattle.rio_num.specs.Room.{Room, padding, room_of, with_more}
use Rattle.rio_key.specs.{BasketHead.{basket_head_bytes}, Written.{written_key}, declared.basket_head.BasketHead.{BasketHead}, declared.head.KeyHead.{KeyHead}, OpenBasket.{OpenBasket}}
use Rattle.rio_key.specs.BasketRecord.{FitsBasketRecord, basket_data, basket_head, basket_key, basket_key_length, basket_record, unpadded_basket}
use Rattle.rio_key.proofs.WrittenBaskets.{size}

module _ (place : ℕ) (tree branch : List ℕ) (datime : ℕ) (basket : OpenBasket) (key : KeyHead) (is : key ≡ basket_key place tree branch datime (length (basket_data (basket_key_length tree branch) basket)))
    (head : BasketHead) (head_is : head ≡ basket_head key.keylen basket) (n : ℕ) (long : n ≡ key.keylen + key.objlen + 4)
    (none roomy keyed headed filled padded : Room) (began : none ≡ room_of []) (room : roomy ≡ record none { spare = max none.spare n })
    (key_put : keyed ≡ with_more roomy (written_key key)) (head_put : headed ≡ with_more keyed (basket_head_bytes head)) (data_put : filled ≡ with_more headed (basket_data key.keylen basket)) (pad : padded ≡ with_more filled (padding filled.bytes)) where
  keyed_is : keyed.bytes ≡ written_key key
  keyed_is = ap (λ (r : Room). r.bytes) key_put ∙ ap (λ (r : Room). r.bytes ++ written_key key) room ∙ ap (λ (r : Room). r.bytes ++ written_key key) began

  filled_is : filled.bytes ≡ unpadded_basket place tree branch datime basket
  filled_is =
      let whole_key = basket_key place tree branch datime (length (basket_data (basket_key_length tree branch) basket)) in
      ap (λ (r : Room). r.bytes) data_put
      ∙ ap (λ (r : Room). r.bytes ++ basket_data key.keylen basket) head_put
      ∙ ap (λ (b : List ℕ). b ++ basket_head_bytes head ++ basket_data key.keylen basket) keyed_is
      ∙ append_assoc (written_key key) (basket_head_bytes head) (basket_data key.keylen basket)
      ∙ ap (λ (h : BasketHead). written_key key ++ (basket_head_bytes h ++ basket_data key.keylen basket)) head_is
      ∙ ap (λ (h : KeyHead). written_key h ++ (basket_head_bytes (basket_head h.keylen basket) ++ basket_data h.keylen basket)) is

  pub made_is : padded.bytes ≡ basket_record place tree branch datime basket
  unfolding basket_record
  made_is = ap (λ (r : Room). r.bytes) pad ∙ ap (λ (b : List ℕ). b ++ padding b) filled_is

  total : FitsBasketRecord place tree branch datime basket → length padded.bytes ≡ key.keylen + key.objlen
  total fits = ap length made_is ∙ size place tree branch datime basket fits ∙ sym (ap (λ (h : KeyHead). h.keylen + h.objlen) is)

  pub four_spare : FitsBasketRecord place tree branch datime basket → 4 ≤ padded.spare
  four_spare fits = omega (
    arith,
    long,
    ap (λ (r : Room). r.spare) pad,
    ap (λ (r : Room). r.spare) data_put,
    ap (λ (r : Room). r.spare) head_put,
    ap (λ (r : Room). r.spare) key_put,
    ap (λ (r : Room). r.spare) room,
    total fits,
    ap (λ (r : Room). length r.bytes) pad,
    length-append filled.bytes (padding filled.bytes),
    ap (λ (r : Room). length r.bytes) data_put,
    length-append headed.bytes (basket_data key.keylen basket),
    ap (λ (r : Room). length r.bytes) head_put,
    length-append keyed.bytes (basket_head_bytes head),
    ap length keyed_is,
  )
