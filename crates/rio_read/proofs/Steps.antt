-- Of what was read no more is kept than what a function says of it.
use Rattle.std.proofs.Common.{◌≡◌, Ok, Err, refl, ap}
use Rattle.rio_num.specs.Reading.{◌>>=◌}
use Rattle.rio_num.proofs.ReadLaws.{ok_is}
use Rattle.rio_format.specs.{Frames.{Step}, ReaderState.{ReaderState}, declared.fault.ObjFault.{ObjFault}}

-- what a function says of what was read
abbrev pub step_as : {A B : Type 0} → (A → B) → Step A → Step B
step_as f r = r >>= λ x. Ok (f x.0, x.1)

-- nothing of it is kept
abbrev pub unkept : {A : Type 0} → Step A → Step (Unit {0})
unkept r = step_as (λ v. tt) r

pub step_as-twice : {A B C : Type 0} (f : A → B) (g : B → C) (r : Step A) → step_as g (step_as f r) ≡ step_as (λ v. g (f v)) r
step_as-twice f g (Ok x) = refl
step_as-twice f g (Err d) = refl

-- what is kept is said of something that was read
pub step_as-ok : {A B : Type 0} (f : A → B) (r : Step A) (y : B) (s : ReaderState) → step_as f r ≡ Ok (y, s) → (v : A) × (r ≡ Ok (v, s)) × (f v ≡ y)
step_as-ok {A = A} {B = B} f (Ok x) y s e =
    let same = ok_is {E = ObjFault} (f x.0, x.1) (y, s) e in
    (x.0, ap (λ (q : B × ReaderState). let r : Step A = Ok (x.0, q.1) in r) same, ap (λ (q : B × ReaderState). q.0) same)
step_as-ok f (Err d) y s e = absurd cc

-- what broke broke before
pub step_as-err : {A B : Type 0} (f : A → B) (r : Step A) (d : ObjFault) → step_as f r ≡ Err d → r ≡ Err d
step_as-err f (Ok x) d e = absurd cc
step_as-err f (Err g) d e = cc
