-- What is read of so many bytes at most is read of a front of them that holds as many.
use Rattle.std.proofs.Common.{◌≡◌, ℕ, ◌+◌, ◌≤◌, ◌<◌, Bool, true, false, cond, ltb, List, length, take, drop, Ok, Err, refl, ap, ◌∙◌, arith}
use Rattle.std.proofs.{lemmas.Bool.{ltb-false, ltb-true, le-ltb, lt-ltb}, lemmas.List.{length-take, drop-take, take-take}}
use Rattle.byteorder.specs.{Endian.{big_number}, Numbers.{big_from-take}}
use Rattle.rio_num.specs.{At.{At}, Reading.{◌>>=◌, short, skip}, Layout.{Layout, done, number, bytes, behind, must}}
use Rattle.rio_num.specs.{Meanings.{Reading, Standing, of_bytes, read}, Plain.{Plain, plain, value_of}}

-- the same place, with so many bytes left at most
abbrev pub cut : ℕ → At → At
cut k s = record { place = s.place; rest = take k s.rest }

abbrev pub cut_to : {W : Type 0} → ℕ → Standing W → Standing W
cut_to k s = record s { at = cut k s.at }

-- where reading goes on is cut, to so many bytes as what was read says
abbrev pub cut_behind : {W F A : Type 0} → (A → ℕ) → Reading W F A → Reading W F A
cut_behind m (Ok x) = Ok (x.0, cut_to (m x.0) x.1)
cut_behind m (Err e) = Err e

-- no more than k bytes are looked at, of which as many are left behind it as what is read says
pub record TakesFew {W F A : Type 0} (k : ℕ) (m : A → ℕ) (l : Layout W F A) : Type 0 where
  pub few : (s : Standing W) → read l (cut_to k s) ≡ cut_behind m (read l s)

long_same : (n m k : ℕ) (rest : List ℕ) → k ≡ n + m → ltb (length (take k rest)) n ≡ ltb (length rest) n
long_same n m k rest is = by (ltb (length rest) n) refl
  where
    by : (b : Bool) → ltb (length rest) n ≡ b → ltb (length (take k rest)) n ≡ b
    by true t = let few : length rest < n = ltb-true _ _ t in lt-ltb _ _ (omega (arith, length-take k rest))
    by false t = let enough : n ≤ length rest = ltb-false _ _ t in le-ltb _ _ (omega (arith, length-take k rest))

behind_same : (n m k : ℕ) (s : At) → k ≡ n + m → skip n (cut k s) ≡ cut m (skip n s)
behind_same n m k s is = ap (λ (b : List ℕ). let t : At = record { place = s.place + n; rest = b } in t) (ap (λ (i : ℕ). drop n (take i s.rest)) is ∙ drop-take n m s.rest)

-- what is read of n bytes, or too few of them
module _ {W F A : Type 0} (f : ℕ → ℕ → F) (n m k : ℕ) (s : Standing W) where
  abbrev or_short : Standing W → Bool → A → At → Reading W F A
  or_short u few x t = of_bytes f u (cond few (Err (short s.at.place n)) (Ok (x, t)))

  tested : (few : Bool) (x : A) → or_short (cut_to k s) few x (cut m (skip n s.at)) ≡ cut_behind (λ y. m) (or_short s few x (skip n s.at))
  tested true x = refl
  tested false x = refl

  so_many_cut : (x y : A) → k ≡ n + m → y ≡ x → or_short (cut_to k s) (ltb (length (take k s.at.rest)) n) y (skip n (cut k s.at)) ≡ cut_behind (λ y. m) (or_short s (ltb (length s.at.rest) n) x (skip n s.at))
  so_many_cut x y is same =
      ap (λ (q : Bool × A × At). or_short (cut_to k s) q.0 q.1 q.2) (λ i. (long_same n m k s.at.rest is i, same i, behind_same n m k s.at is i)) ∙ tested (ltb (length s.at.rest) n) x

-- the next reading goes on from there
then_cut : {W F A B : Type 0} (j : ℕ) (m : A → ℕ) (r q : Reading W F B) (next : B × Standing W → Reading W F A) → q ≡ cut_behind (λ x. j) r → ((x : B) (u : Standing W) → next (x, cut_to j u) ≡ cut_behind m (next (x, u))) → (q >>= next) ≡ cut_behind m (r >>= next)
then_cut {W = W} {F = F} {B = B} j m (Ok x) q next is same = ap (λ (z : Reading W F B). z >>= next) is ∙ same x.0 x.1
then_cut {W = W} {F = F} {B = B} j m (Err e) q next is same = ap (λ (z : Reading W F B). z >>= next) is

module _ {W F A : Type 0} {k : ℕ} {m : A → ℕ} where
  pub few_number : {f : ℕ → ℕ → F} {n : ℕ} {c : ℕ → Layout W F A} (j : ℕ) → k ≡ n + j → ((x : ℕ) → TakesFew j m (c x)) → TakesFew k m (behind (number f n) c)
  few_number {f = f} {n = n} {c = c} j is next = record {
    few = λ s.
        let same : big_number n (take k s.at.rest) ≡ big_number n s.at.rest = big_from-take 0 n k s.at.rest (omega (arith, is)) in
        then_cut j m (read (number f n) s) (read (number f n) (cut_to k s)) (λ x. read (c x.0) x.1) (so_many_cut f n j k s (big_number n s.at.rest) (big_number n (take k s.at.rest)) is same) (λ x u. (next x).few u);
  }

  pub few_bytes : {f : ℕ → ℕ → F} {n : ℕ} {c : List ℕ → Layout W F A} (j : ℕ) → k ≡ n + j → ((x : List ℕ) → TakesFew j m (c x)) → TakesFew k m (behind (bytes f n) c)
  few_bytes {f = f} {n = n} {c = c} j is next = record {
    few = λ s.
        let same : take n (take k s.at.rest) ≡ take n s.at.rest = take-take n k s.at.rest (omega (arith, is)) in
        then_cut j m (read (bytes f n) s) (read (bytes f n) (cut_to k s)) (λ x. read (c x.0) x.1) (so_many_cut f n j k s (take n s.at.rest) (take n (take k s.at.rest)) is same) (λ x u. (next x).few u);
  }

  pub few_must : {f : F} {c : Unit {0} → Layout W F A} (b : Bool) → TakesFew k m (c tt) → TakesFew k m (behind (must b f) c)
  few_must true next = record { few = λ s. next.few s }
  few_must false next = record { few = λ s. refl }

  pub few_done : (a : A) → k ≡ m a → TakesFew {W = W} {F = F} k m (done a)
  few_done a is = record { few = λ s. ap (λ (i : ℕ). let r : Reading W F A = Ok (a, cut_to i s) in r) is }

value_kept : {W F A : Type 0} (m : A → ℕ) (r : Reading W F A) → value_of (cut_behind m r) ≡ value_of r
value_kept m (Ok x) = refl
value_kept m (Err e) = refl

-- A front of so many bytes gives what all give.
pub value_cut : {F A : Type 0} (l : Plain F A) (k : ℕ) (m : A → ℕ) → TakesFew k m l → (s : At) → value_of (read l (plain (cut k s))) ≡ value_of (read l (plain s))
value_cut l k m takes s = ap value_of (takes.few (plain s)) ∙ value_kept m (read l (plain s))
