-- Whether values fit, as the code tells it.
use Rattle.std.specs.{Prelude.{◌≡◌, ℕ, ℤ, List, ◌∷◌, Bool, true, false, Option, Some, None, Result, Ok, Err, if◌then◌else◌}, Option.{option_map}}
use Rattle.std.specs.Str.{bytes_eq}
use Rattle.rio_num.specs.declared.no_memory.NoMemory.{NoMemory}
use Rattle.rio_format.specs.{declared.kind.Kind.TheVariants.{Counter as CounterKind}, Bodies.{Counters}, Fits.{Fitting, Labels, counted_slot, counted_so_far}, Slots.{kinded}}
use Rattle.rio_format.specs.Slots as place

-- It tells whether there are labels behind the value, and the new ones are these.
abbrev pub Tells : {L : Type 0} → Result Bool NoMemory → Option L → L → Type 0
Tells (Ok true) fit new = fit ≡ Some new
Tells (Ok false) fit new = fit ≡ None
Tells (Err e) fit new = Unit {0}

-- a part fits in the field, with the labels and the counters behind it
abbrev pub part_fits : place.Field → List ℕ × Fitting → Counters → Labels → Option (Labels × Counters)
part_fits f y counters labels =
    if bytes_eq y.0 f.name then option_map (λ after. (after, counted_so_far f y.1.number counters)) (y.1.fits (counted_slot counters f.slot) labels) else None

-- The counter that a value is, or it is none.
abbrev pub IsCounterValue : Option ℤ → Fitting → Type 0
IsCounterValue (Some said) f = (f.number ≡ said) × ((labels : Labels) → f.fits (kinded CounterKind) labels ≡ Some labels)
IsCounterValue None f = (labels : Labels) → f.fits (kinded CounterKind) labels ≡ None

-- a counter fits, which counts by the name from then on
abbrev pub counter_fits : List ℕ → Fitting → Counters → Labels → Option (Labels × Counters)
counter_fits name f counters labels = option_map (λ after. (after, (name, f.number) ∷ counters)) (f.fits (kinded CounterKind) labels)
