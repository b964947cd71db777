-- Puts one after the other, where there is room for all of them.
use Rattle.std.proofs.{Common.{◌≡◌, ℕ, ◌-◌, ◌≤◌, List, ◌++◌, length, max, Result, Ok, Err, ap, ◌∙◌, append_assoc, arith, refl, replicate, suc, true, zero, ◌<◌}, lemmas.List.{length-append}}
use Rattle.rio_num.specs.{Room.{Room, Appends, is_padding, with_more}, declared.no_memory.NoMemory.{NoMemory}}

-- where there is room, it stands at the end
abbrev pub Puts : Room → Room → List ℕ → Result (Unit {0}) NoMemory → Type 0
Puts old new more result = length more ≤ old.spare → Appends old new more result

pub puts_then : (old mid new : Room) (a b : List ℕ) (result : Result (Unit {0}) NoMemory) → mid ≡ with_more old a → Puts mid new b result → Puts old new (a ++ b) result
puts_then old mid new a b (Ok x) is puts room =
    let more : length b ≤ mid.spare = omega (arith, room, ap (λ (r : Room). r.spare) is, length-append a b) in
    let spare : old.spare - length a - length b ≡ old.spare - length (a ++ b) = omega (arith, length-append a b) in
    puts more ∙ ap (λ (r : Room). with_more r b) is ∙ (λ i. record { bytes = append_assoc old.bytes a b i; spare = spare i })
puts_then old mid new a b (Err e) is puts room =
    let more : length b ≤ mid.spare = omega (arith, room, ap (λ (r : Room). r.spare) is, length-append a b) in
    absurd (omega (arith, (puts more).1, more))

-- what was reserved is room enough
pub puts_reserved : (old mid new : Room) (n : ℕ) (more : List ℕ) (result : Result (Unit {0}) NoMemory) → mid ≡ record old { spare = max old.spare n } → n ≡ length more → Puts mid new more result → Appends old new more result
puts_reserved old mid new n more (Ok x) is long puts =
    let room : length more ≤ mid.spare = omega (arith, ap (λ (r : Room). r.spare) is, long) in
    let spare : max old.spare n - length more ≡ old.spare - length more = omega (arith, long) in
    puts room ∙ ap (λ (r : Room). with_more r more) is ∙ (λ i. record { bytes = old.bytes ++ more; spare = spare i })
puts_reserved old mid new n more (Err e) is long puts =
    let room : length more ≤ mid.spare = omega (arith, ap (λ (r : Room). r.spare) is, long) in
    absurd (omega (arith, (puts room).1, room))

pub zeros_pad : (n : ℕ) → n < 4 → is_padding (replicate n 0) ≡ true
zeros_pad zero lt = refl
zeros_pad (suc zero) lt = refl
zeros_pad (suc (suc zero)) lt = refl
zeros_pad (suc (suc (suc zero))) lt = refl
zeros_pad (suc (suc (suc (suc n)))) lt = absurd (omega arith)
