-- How long a basket's record is, whatever its numbers are.
use Rattle.std.proofs.Common.{◌≡◌, ◌∙◌, ℕ, ◌+◌, ◌-◌, ◌%◌, List, ◌++◌, length, length-append, refl, ap, arith}
use Rattle.std.proofs.lemmas.List.{length-replicate}
use Rattle.std.specs.Int.{w32, cast_unsigned}
use Rattle.rio_num.specs.{Room.{padding}, Text.{text_bytes}}
use Rattle.rio_key.specs.{BasketHead.{basket_head_bytes, integer_bytes, sizes_bytes}, Written.{number_bytes, written_key}, declared.basket_head.BasketHead.{BasketHead}, declared.head.KeyHead.{KeyHead}}
use Rattle.rio_key.specs.{OpenBasket.{OpenBasket}, BasketRecord.{basket_data, basket_head, basket_key, basket_key_length, basket_record, basket_record_length, unpadded_basket}}
use Rattle.rio_effect.specs.TreeRecords.{BasketWords, basket_with_words, length_of_basket, record_of_basket}

head_long : (h : BasketHead) → length (basket_head_bytes h) ≡ 19
unfolding sizes_bytes integer_bytes
head_long h = refl

module _ (place : ℕ) (tree branch : List ℕ) (datime : ℕ) (basket : OpenBasket) where
  abbrev keylen : ℕ
  keylen = basket_key_length tree branch

  abbrev contents : List ℕ
  contents = basket_data keylen basket

  abbrev key : KeyHead
  key = basket_key place tree branch datime (length contents)

  abbrev head : BasketHead
  head = basket_head keylen basket

  abbrev unpadded : List ℕ
  unpadded = unpadded_basket place tree branch datime basket

  key_long : length (written_key key) + 19 ≡ keylen
  key_long =
      let class = text_bytes key.class in
      let name = text_bytes branch in
      let title = text_bytes tree in
      omega (arith, length-append (number_bytes key (cast_unsigned w32 key.nbytes)) (class ++ (name ++ title)), length-append class (name ++ title), length-append name title)

  unpadded_long : length unpadded ≡ keylen + length contents
  unpadded_long = omega (arith, length-append (written_key key) (basket_head_bytes head ++ contents), length-append (basket_head_bytes head) contents, key_long, head_long head)

  basket_long : length (basket_record place tree branch datime basket) ≡ basket_record_length tree branch basket
  unfolding basket_record
  basket_long =
      length-append unpadded (padding unpadded)
      ∙ ap (λ (k : ℕ). length unpadded + k) (length-replicate ((4 - length unpadded % 4) % 4) 0)
      ∙ ap (λ (k : ℕ). k + (4 - k % 4) % 4) unpadded_long
      ∙ (let e : keylen + length contents + (4 - (keylen + length contents) % 4) % 4 ≡ basket_record_length tree branch basket = omega arith in e)

-- the record of a basket is as long at each place
pub record_long : (place : ℕ) (words : BasketWords) → length (record_of_basket place words) ≡ length_of_basket words
record_long place words = basket_long place words.tree words.branch words.datime (basket_with_words words)
