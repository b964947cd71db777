-- What is left of a list, and what is passed.
use Rattle.std.specs.Result.{IsErrAnd, MatchResult}
use Rattle.std.proofs.Common.{◌≡◌, ℕ, zero, suc, ◌+◌, ◌<◌, List, [], ◌∷◌, ◌++◌, length, take, drop, get_or, slice_get, Some, Result, Ok, Err, IfOk, OnOk, refl, sym, ap, subst, ◌∙◌, arith}
use Rattle.rio_num.proofs.ReadLaws.{ok_is}
use Rattle.std.proofs.lemmas.List.{drop_more, take-append-le, take_all, take_more}

-- what is left of a list
pub left : {X : Type 0} (xs : List X) (k : ℕ) (x : X) → k < length xs → x ≡ get_or xs k x → drop k xs ≡ x ∷ drop (k + 1) xs
left xs k x lt is = drop_more xs k x lt ∙ ap (λ y. y ∷ drop (k + 1) xs) (sym is)

-- and what is passed
pub passed_one : {X : Type 0} (xs : List X) (k : ℕ) (x : X) → k < length xs → x ≡ get_or xs k x → take k xs ++ x ∷ [] ≡ take (k + 1) xs
passed_one xs k x lt is = ap (λ y. take k xs ++ y ∷ []) is ∙ sym (take_more xs k x lt)

-- the item at a place
pub at_place : {X : Type 0} (xs : List X) (k : ℕ) → k < length xs → (x : X) × (slice_get xs k ≡ Some x) × (x ≡ get_or xs k x)
at_place [] k lt = absurd (omega (arith, lt))
at_place (x ∷ xs) zero lt = (x, refl, refl)
at_place (x ∷ xs) (suc k) lt = at_place xs k (omega (arith, lt))

pub any_default : {X : Type 0} (xs : List X) (k : ℕ) (d e : X) → k < length xs → get_or xs k d ≡ get_or xs k e
any_default [] k d e lt = absurd (omega (arith, lt))
any_default (x ∷ xs) zero d e lt = refl
any_default (x ∷ xs) (suc k) d e lt = any_default xs k d e (omega (arith, lt))

pub if_ok_more : {X E : Type 0} {P Q : X → Type 0} (r : Result X E) → IfOk r P → ((x : X) → P x → Q x) → IfOk r Q
if_ok_more (Ok x) h f = f x h
if_ok_more (Err e) h f = h

pub on_ok : {X E : Type 0} {A : Type 0} (r : Result X E) → A → OnOk r A
on_ok (Ok x) a = a
on_ok (Err e) a = tt

-- a call whose faults were made others, and that went well in the end, went well
pub was_ok : {X E F : Type 0} (Q : E → F → Type 0) (r : Result X E) (made : Result X F) (x : X)
    → MatchResult r (λ y. made ≡ Ok y) (λ e. IsErrAnd made (Q e)) → made ≡ Ok x → r ≡ Ok x
was_ok {X = X} {E = E} {F = F} Q (Ok y) made x made_is is = ap (λ (z : X). let r : Result X E = Ok z in r) (ok_is {E = F} y x (sym made_is ∙ is))
was_ok {X = X} {F = F} Q (Err e) made x made_is is = absurd (subst (λ (m : Result X F). IsErrAnd m (Q e)) is made_is)

-- what was written over all of a list
pub only_new : {X : Type 0} (new rest : List X) (n : ℕ) → n ≡ length new → take n (new ++ rest) ≡ new
only_new new rest n size = ap (λ (k : ℕ). take k (new ++ rest)) size ∙ take-append-le (length new) new rest (omega arith) ∙ take_all (length new) new (omega arith)
