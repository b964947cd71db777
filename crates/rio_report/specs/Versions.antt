-- A row with the objects of a class in the version that is asked, made value by value.
use Rattle.std.specs.Prelude.{ℤ, ◌++◌, List, Option, Some, None, Ok}
use Rattle.rio_num.specs.Reading.{◌>>=◌}
use Rattle.rio_format.specs.{declared.class.Base.{Base}, declared.class.ClassDef.{ClassDef}, declared.value.Value.{Value}}
use Rattle.rio_model.specs.Mapping.{Mapped, as_version}

-- one of its values
abbrev pub value_seen_in : List ClassDef → Option Base → Value → Mapped Value
value_seen_in classes None v = Ok v
value_seen_in classes (Some asked) v = as_version classes asked.name asked.version v

-- values that are had, behind others
abbrev pub seen_behind : List Value → Mapped (List Value) → Mapped (List Value)
seen_behind row seen = seen >>= λ vs. Ok (row ++ vs)
