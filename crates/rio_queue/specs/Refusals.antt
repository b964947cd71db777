-- Refusals of steps: their numbers, which go on after those of commands, and their names.
use Rattle.std.specs.Prelude.{ℕ, List, Option, Some, None, codes, ◌==◌, if◌then◌else◌}
use Rattle.rio_queue.specs.declared.refusal.StepRefusal.{StepRefusal, TheVariants.{NoSuchFiller, QueueFull, QueueEmpty, EmptyUnit, UnitTooLong}}

-- of several that hold the lowest is reported
abbrev pub refusal_number : StepRefusal → ℕ
refusal_number NoSuchFiller = 22
refusal_number QueueFull = 23
refusal_number QueueEmpty = 24
refusal_number EmptyUnit = 25
refusal_number UnitTooLong = 26

abbrev pub refusal_name : StepRefusal → List ℕ
refusal_name NoSuchFiller = codes "NoSuchFiller"
refusal_name QueueFull = codes "QueueFull"
refusal_name QueueEmpty = codes "QueueEmpty"
refusal_name EmptyUnit = codes "EmptyUnit"
refusal_name UnitTooLong = codes "UnitTooLong"

-- the refusal of a number
abbrev pub refusal_of_number : ℕ → Option StepRefusal
refusal_of_number number =
    if number == 22 then Some NoSuchFiller
    else if number == 23 then Some QueueFull
    else if number == 24 then Some QueueEmpty
    else if number == 25 then Some EmptyUnit
    else if number == 26 then Some UnitTooLong
    else None
