-- What is known of what was read.
use Rattle.std.proofs.Common.{◌≡◌, Bool, true, false, Ok, Err, refl}
use Rattle.std.specs.Prelude.{if◌then◌else◌}
use Rattle.rio_num.specs.{At.{At}, Reading.{◌>>=◌}}
use Rattle.rio_token.specs.Reading.{Read}

-- if something was read, this holds of it
abbrev pub Given : {A : Type 0} → (A → Type 0) → Read A → Type 0
Given P (Ok x) = P x.0
Given P (Err e) = Unit {0}

pub then_given : {A B : Type 0} (P : A → Type 0) (Q : B → Type 0) (r : Read A) (f : A × At → Read B) → Given P r → ((x : A × At) → P x.0 → Given Q (f x)) → Given Q (r >>= f)
then_given P Q (Ok x) f p g = g x p
then_given P Q (Err e) f p g = tt

-- the same, where nothing need be known
pub then_any : {A B : Type 0} (Q : B → Type 0) (r : Read A) (f : A × At → Read B) → ((x : A × At) → Given Q (f x)) → Given Q (r >>= f)
then_any Q (Ok x) f g = g x
then_any Q (Err e) f g = tt

pub one_given : {A : Type 0} (P : A → Type 0) (b : Bool) (r t : Read A) → (b ≡ true → Given P r) → (b ≡ false → Given P t) → Given P (if b then r else t)
one_given P true r t g h = g refl
one_given P false r t g h = h refl
