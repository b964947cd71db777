-- The key of a basket, and the basket's head within it.
use Rattle.std.specs.Prelude.{ℕ, ◌+◌, nat_lt}
use Rattle.rio_num.specs.{Layout.{done, broken, number, here, ◌>>=◌, when◌then◌else◌}, Plain.{Plain}}
use Rattle.rio_key.specs.{BasketHead.{basket_head_of}, Key.{key_layout}, declared.basket_head.BasketFront.{BasketFront}, declared.fault.KeyFault.{KeyFault, TheVariants.{Short}}}

-- a number of so many bytes, none of them behind the end
abbrev pub number_within : ℕ → ℕ → Plain KeyFault ℕ
number_within end n = do
  place ← here
  when nat_lt end (place + n) then broken (Short place n) else number Short n

-- the key of a basket, and behind its title, but within its KeyLen, the basket's head
unfoldable pub basket_front : Plain KeyFault BasketFront
basket_front = do
  start ← here
  key ← key_layout
  place ← here
  head ← basket_head_of (number_within (start + key.keylen))
  done (record { key = key; head = head; place = place })
