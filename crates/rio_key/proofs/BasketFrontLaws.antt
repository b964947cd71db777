-- The key of a basket with its head: the head is read within the key as where no more bytes are left.
use Rattle.std.proofs.Common.{◌≡◌, ℕ, ◌+◌, ◌-◌, ◌≤◌, Bool, true, false, ltb, length, take, drop, Result, Ok, Err, refl, sym, ap, ◌∙◌, arith}
use Rattle.std.proofs.{lemmas.Bool.{lt-ltb, le-ltb, ltb-false, ltb-true}, lemmas.List.{drop-take, length-take}}
use Rattle.byteorder.specs.{Endian.{big_number}, Numbers.{big_from-take}}
use Rattle.rio_num.specs.{At.{At, AreBytes}, Layout.{number, ◌>>=◌}, Meanings.{Reading, Standing, read}, Plain.{Plain, plain, value_of}, Reading.{short, skip}}
use Rattle.rio_num.specs.declared.cursor.Short.{Short as Shortage}
use Rattle.rio_num.proofs.{ReadLaws.{ok_is}, Cut.{cut}}
use Rattle.rio_key.specs.{BasketFront.{basket_front, number_within}, BasketHead.{basket_head_at, basket_head_layout, basket_head_of}}
use Rattle.rio_key.specs.{Key.{key_head_at, key_layout}, declared.basket_head.BasketFront.{BasketFront}, declared.basket_head.BasketHead.{BasketHead}}
use Rattle.rio_key.specs.{declared.head.KeyHead.{KeyHead}, declared.fault.KeyFault.{KeyFault, TheVariants.{Short}}}
use Rattle.rio_key.proofs.{KeyAgain.{key_found}, KeyFront.{IsKept, kept}}

-- ---- a head within some bytes

-- a field that isn't whole is a fault of the key
abbrev pub whole : {A : Type 0} → Result A Shortage → Result A KeyFault
whole (Ok x) = Ok x
whole (Err s) = Err (Short s.place s.wanted)

-- reading l up to the end gives what reading m gives of no more bytes
record IsSame {A : Type 0} (end : ℕ) (l : Plain KeyFault A) (m : Plain Shortage A) : Type 0 where
  same : (k : ℕ) (s : At) → s.place + k ≡ end → value_of (read l (plain s)) ≡ whole (value_of (read m (plain (cut k s))))

same_number : {A : Type 0} (end n : ℕ) (l : ℕ → Plain KeyFault A) (m : ℕ → Plain Shortage A) → ((x : ℕ) → IsSame end (l x) (m x)) → IsSame end (number_within end n >>= l) (number short n >>= m)
same_number end n l m each = record { same = λ k s e. by k s e (ltb k n) (ltb (length s.rest) n) refl refl }
  where
    by : (k : ℕ) (s : At) → s.place + k ≡ end → (past few : Bool) → ltb k n ≡ past → ltb (length s.rest) n ≡ few → value_of (read (number_within end n >>= l) (plain s)) ≡ whole (value_of (read (number short n >>= m) (plain (cut k s))))
    by k s e true few p f =
        let behind : ltb end (s.place + n) ≡ true = lt-ltb _ _ (omega (arith, e, ltb-true _ _ p)) in
        let none : ltb (length (take k s.rest)) n ≡ true = lt-ltb _ _ (omega (arith, ltb-true _ _ p, length-take k s.rest)) in
        rw (behind, none) refl
    by k s e false true p f =
        let there : ltb end (s.place + n) ≡ false = le-ltb _ _ (omega (arith, e, ltb-false _ _ p)) in
        let none : ltb (length (take k s.rest)) n ≡ true = lt-ltb _ _ (omega (arith, ltb-true _ _ f, length-take k s.rest)) in
        rw (there, f, none) refl
    by k s e false false p f =
        let le : n ≤ k = ltb-false _ _ p in
        let there : ltb end (s.place + n) ≡ false = le-ltb _ _ (omega (arith, e, le)) in
        let enough : ltb (length (take k s.rest)) n ≡ false = le-ltb _ _ (omega (arith, le, ltb-false _ _ f, length-take k s.rest)) in
        let own : big_number n (take k s.rest) ≡ big_number n s.rest = big_from-take 0 n k s.rest (omega (arith, le)) in
        let split : k ≡ n + (k - n) = omega (arith, le) in
        let rest : drop n (take k s.rest) ≡ take (k - n) (drop n s.rest) = ap (λ (j : ℕ). drop n (take j s.rest)) split ∙ drop-take n (k - n) s.rest in
        let behind = (each (big_number n s.rest)).same (k - n) (skip n s) (omega (arith, e, le)) in
        rw (there, f, enough, own, rest) behind

head_same : (end : ℕ) → IsSame end (basket_head_of (number_within end)) basket_head_layout
unfolding basket_head_of
head_same end =
    same_number end 2 _ _ (λ version. same_number end 4 _ _ (λ buffer_size. same_number end 4 _ _ (λ nev_size. same_number end 4 _ _ (λ nev. same_number end 4 _ _ (λ last. same_number end 1 _ _ (λ flag. record { same = λ k s e. refl }))))))

pub head_within : (n : ℕ) (s : At) → value_of (read (basket_head_of (number_within (s.place + n))) (plain s)) ≡ whole (value_of (basket_head_at (cut n s)))
head_within n s = (head_same (s.place + n)).same n s refl

-- ---- behind the key

kept_again : (s : At) (h : KeyHead) (k : IsKept s h) → key_head_at s ≡ Ok (h, k.end)
unfolding key_layout
kept_again s h k =
    let title : ltb h.keylen (k.end.at.place - s.place) ≡ false = le-ltb _ _ k.title_held in
    rw (k.read_so, k.key_held, title) refl

-- what is left of KeyLen behind the title
pub front_end : (s : At) (h : KeyHead) (s' : At) → AreBytes s.rest → key_head_at s ≡ Ok (h, plain s') → s'.place + (h.keylen - (s'.place - s.place)) ≡ s.place + h.keylen
front_end s h s' fits e =
    let k = kept s h (ap (λ (r : Reading (Unit {0}) KeyFault KeyHead). value_of r) e) in
    let same = ok_is {E = KeyFault} (h, k.end) (h, plain s') (sym (kept_again s h k) ∙ e) in
    let place : k.end.at.place ≡ s'.place = ap (λ (q : KeyHead × Standing (Unit {0})). q.1.at.place) same in
    let found = key_found s h s' fits e in
    omega (arith, k.title_held, place, found.place)

-- the key and the head of a basket
abbrev pub fronted : KeyHead → ℕ → Result BasketHead KeyFault → Result BasketFront KeyFault
fronted h place (Ok head) = Ok (record { key = h; head = head; place = place })
fronted h place (Err e) = Err e

front_by : (s : At) (h : KeyHead) (s' : At) (q : Reading (Unit {0}) KeyFault BasketHead) → key_head_at s ≡ Ok (h, plain s') → read (basket_head_of (number_within (s.place + h.keylen))) (plain s') ≡ q → value_of (read basket_front (plain s)) ≡ fronted h s'.place (value_of q)
unfolding basket_front
front_by s h s' (Ok x) e t = rw (e, t) refl
front_by s h s' (Err d) e t = rw (e, t) refl

-- the key is read, and the head behind it
pub front_is : (s : At) (h : KeyHead) (s' : At) (r : Result BasketHead KeyFault) → key_head_at s ≡ Ok (h, plain s') → value_of (read (basket_head_of (number_within (s.place + h.keylen))) (plain s')) ≡ r → value_of (read basket_front (plain s)) ≡ fronted h s'.place r
front_is s h s' r e f = front_by s h s' (read (basket_head_of (number_within (s.place + h.keylen))) (plain s')) e refl ∙ ap (fronted h s'.place) f

-- the same, by what is left of the key
pub front_told : (s : At) (h : KeyHead) (s' : At) (n : ℕ) (r : Result BasketHead KeyFault) → AreBytes s.rest → key_head_at s ≡ Ok (h, plain s') → n ≡ h.keylen - (s'.place - s.place) → r ≡ value_of (read (basket_head_of (number_within (s'.place + n))) (plain s'))
    → value_of (read basket_front (plain s)) ≡ fronted h s'.place r
front_told s h s' n r fits e left f =
    let end : s'.place + n ≡ s.place + h.keylen = ap (λ (k : ℕ). s'.place + k) left ∙ front_end s h s' fits e in
    front_is s h s' r e (ap (λ (k : ℕ). value_of (read (basket_head_of (number_within k)) (plain s'))) (sym end) ∙ sym f)
