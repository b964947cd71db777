-- Tests that passed, and what they tell.
use Rattle.std.proofs.{Common.{◌≡◌, ℕ, Bool, true, false, cond, List, Option, Some, None}, lemmas.Slice.Eq.{bytes_eq-Decides}}
use Rattle.std.specs.Str.{bytes_eq}

-- the name is the one that is wanted, and else there is nothing
pub named_as : {X : Type 0} (name own : List ℕ) (x : X) (b : Bool) (o : Option X) → bytes_eq own name ≡ b → cond b o None ≡ Some x → (own ≡ name) × (o ≡ Some x)
named_as name own x true o t e = ((bytes_eq-Decides own name).0 t, e)
named_as name own x false o t e = absurd cc
