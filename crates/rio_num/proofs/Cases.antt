-- Cases on tests, on what is there or isn't, and on empty lists.
use Rattle.std.proofs.Common.{◌≡◌, ℕ, ◌+◌, ◌≤◌, List, [], ◌∷◌, length, Bool, true, false, cond, ◌||◌, ◌==◌, T, Option, Some, None, refl, sym, arith}
use Rattle.std.proofs.lemmas.{Bool.{eqb-true, or_left, or_right}, List.{nil_from_length}}
use Rattle.std.specs.{List.{list_any}, Option.{is_some, option_or}, Prelude.{pos}}

pub either : {P : Type 0} (a b : Bool) → (a ≡ true → P) → (b ≡ true → P) → (a || b) ≡ true → P
either true b f g e = f refl
either false b f g e = g e

pub both_or_none : (a b : Bool) → (a ≡ true → b ≡ true) → (b ≡ true → a ≡ true) → a ≡ b
both_or_none true b f g = sym (f refl)
both_or_none false true f g = g refl
both_or_none false false f g = refl

pub or_turned : (a b : Bool) → (a || b) ≡ (b || (a || false))
or_turned true true = refl
or_turned true false = refl
or_turned false true = refl
or_turned false false = refl

pub is_true : (b : Bool) → T b → b ≡ true
is_true true t = refl
is_true false t = absurd t

-- what passes the one test passes the other
pub any_weaker : {X : Type 0} (p q : X → Bool) → ((x : X) → p x ≡ true → q x ≡ true) → (xs : List X) → list_any p xs ≡ true → list_any q xs ≡ true
any_weaker p q f [] e = e
any_weaker p q f (x ∷ xs) e =
    either (p x) (list_any p xs) (λ h. or_left (q x) (list_any q xs) (f x h)) (λ h. or_right (q x) (list_any q xs) (any_weaker p q f xs h)) e

pub some_of : {A : Type 0} (o : Option A) → is_some o ≡ true → (x : A) × (o ≡ Some x)
some_of None e = absurd cc
some_of (Some x) e = (x, refl)

pub none_from : {A : Type 0} (o : Option A) → is_some o ≡ false → o ≡ None
none_from None e = refl
none_from (Some x) e = absurd cc

pub or_none : {A : Type 0} (o : Option A) → option_or o None ≡ o
or_none None = refl
or_none (Some x) = refl

pub if_some : {A : Type 0} (b : Bool) (o : Option A) (x : A) → cond b o None ≡ Some x → o ≡ Some x
if_some true o x e = e
if_some false o x e = absurd cc

pub nothing_left : (xs : List ℕ) → (length xs == 0) ≡ true → xs ≡ []
nothing_left xs e = nil_from_length xs (eqb-true _ _ e)

pub one_more : (b : Bool) (new old : ℕ) → new ≡ cond b (old + 1) old → new ≤ old + 1
one_more true new old is = omega (arith, is)
one_more false new old is = omega (arith, is)

pub pos_same : (m n : ℕ) → pos m ≡ pos n → m ≡ n
pos_same m n e = cc
