-- Integers that are printed are read again.
use Rattle.std.proofs.Common.{◌≡◌, ℕ, zero, suc, ◌+◌, ◌-◌, ◌*◌, ◌/◌, ◌%◌, ◌^◌, ◌<◌, ◌≤◌, pos, negsuc, List, [], ◌∷◌, ◌++◌, Bool, true, false, ◌==◌, nat_le, Option, Some, None, option_and_then, refl, ◌∙◌, arith, get_or, subst}
use Rattle.std.proofs.{lemmas.Bool.{eqb-true, Decides.{nat_tests}}, lemmas.Fmt.{decimal_by_steps, decimal_digit, first_decimal}}
use Rattle.std.specs.Fmt.{decimal}
use Rattle.rio_token.specs.{Laws.{IntegersAreRead, NumsAreRead}, Words.{decimal as decimal_of, digit_in, has_no_leading_zero, number_after, number_of, written}}

digit_back : (d : ℕ) → d < 10 → digit_in 10 (48 + d) ≡ Some d
digit_back d h = grind (arith, nat_tests)

-- digits, and then one more
more_digit : (n : ℕ) (bs more : List ℕ) (m k : ℕ) (o : Option ℕ) → ((i : ℕ) → number_after 10 i bs ≡ Some m → number_after 10 i more ≡ Some k) → option_and_then (λ i. number_after 10 (n * 10 + i) bs) o ≡ Some m → option_and_then (λ i. number_after 10 (n * 10 + i) more) o ≡ Some k
more_digit n bs more m k None ih h = absurd (cc)
more_digit n bs more m k (Some i) ih h = ih (n * 10 + i) h

after_more : (n : ℕ) (ds : List ℕ) (m d : ℕ) → d < 10 → number_after 10 n ds ≡ Some m → number_after 10 n (ds ++ (48 + d) ∷ []) ≡ Some (m * 10 + d)
after_more n [] m d lt h = let e : n ≡ m = cc in rw (digit_back d lt, e) refl
after_more n (b ∷ bs) m d lt h = more_digit n bs (bs ++ (48 + d) ∷ []) m (m * 10 + d) (digit_in 10 b) (λ i q. after_more i bs m d lt q) h

-- a number's digits
abbrev IsRead : ℕ → List ℕ → Type 0
IsRead n ds = number_after 10 0 ds ≡ Some n

one : (n : ℕ) → n < 10 → IsRead n ((48 + n) ∷ [])
one n lt = let e : 0 * 10 + n ≡ n = omega arith in rw (digit_back n lt, e) refl

more : (n : ℕ) (ds : List ℕ) → 10 ≤ n → IsRead (n / 10) ds → IsRead n (ds ++ (48 + n % 10) ∷ [])
more n ds le h = let e : n / 10 * 10 + n % 10 ≡ n = omega arith in let lt : n % 10 < 10 = omega arith in after_more 0 ds (n / 10) (n % 10) lt h ∙ rw e refl

pub decimal_after : (n : ℕ) → n < 2 ^ 64 → number_after 10 0 (decimal n) ≡ Some n
decimal_after = decimal_by_steps IsRead one more

plain_first : (ds : List ℕ) → 48 < get_or ds 0 0 → has_no_leading_zero ds ≡ true
plain_first [] h = absurd (omega arith)
plain_first (b ∷ bs) h = let other : (b == 48) ≡ false = grind (arith, nat_tests) in rw other refl

pub decimal_plain : (n : ℕ) → n < 2 ^ 64 → has_no_leading_zero (decimal n) ≡ true
decimal_plain zero lt = rw (decimal_digit 0 (omega arith)) refl
decimal_plain (suc n) lt = plain_first (decimal (suc n)) (first_decimal (suc n) (omega arith) lt)

pub decimal_is : (most n : ℕ) → n ≤ most → most < 2 ^ 64 → decimal_of most (decimal n) ≡ Some n
unfolding decimal_of written
decimal_is most n le lt =
    let small : nat_le n most ≡ true = grind (arith, nat_tests) in
    rw (decimal_plain n (omega arith), decimal_after n (omega arith), small) refl

pub nums_are_read : NumsAreRead
nums_are_read n lt = decimal_is (2 ^ 32 - 1) n (omega arith) (omega arith)

no_minus : (bs : List ℕ) (n : ℕ) → decimal_of (2 ^ 64 - 1) (45 ∷ bs) ≡ Some n → ⊥
unfolding decimal_of written
no_minus bs n h = cc

first_case : (b : ℕ) (bs : List ℕ) (n : ℕ) (minus : Bool) → (b == 45) ≡ minus → decimal_of (2 ^ 64 - 1) (b ∷ bs) ≡ Some n → number_of (b ∷ bs) ≡ Some (pos n)
unfolding number_of
first_case b bs n true e h =
    let is : b ≡ 45 = eqb-true b 45 e in
    let P : ℕ → Type 0 = λ k. decimal_of (2 ^ 64 - 1) (k ∷ bs) ≡ Some n in
    absurd (no_minus bs n (subst P is h))
first_case b bs n false e h = rw (e, h) refl

positive : (ds : List ℕ) (n : ℕ) → decimal_of (2 ^ 64 - 1) ds ≡ Some n → number_of ds ≡ Some (pos n)
unfolding decimal_of
positive [] n h = absurd (cc)
positive (b ∷ bs) n h = first_case b bs n (b == 45) refl h

pub integers_are_read : IntegersAreRead
unfolding number_of
integers_are_read (pos n) h = positive (decimal n) n (decimal_is (2 ^ 64 - 1) n (omega arith) (omega arith))
integers_are_read (negsuc n) h = rw (decimal_is (2 ^ 63) (suc n) (omega arith) (omega arith)) refl
