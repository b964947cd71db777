-- What the code that resolves values returns.
use Rattle.std.specs.Prelude.{◌≡◌, ◌≢◌, Option, Some, None, Result, Ok, Err}
use Rattle.rio_valtext.specs.declared.resolving.ResolveFault.{ResolveFault, TheVariants.{NoMemory}}

-- Ok holds the resolved value. With an Err other than NoMemory there is none.
abbrev pub Resolves : {A : Type 0} → Result A ResolveFault → Option A → Type 0
Resolves (Ok x) o = o ≡ Some x
Resolves (Err e) o = e ≢ NoMemory → o ≡ None
