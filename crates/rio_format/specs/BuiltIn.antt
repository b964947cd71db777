-- The built-in classes whose objects are small.
use Rattle.std.specs.{Prelude.{List, ℕ, codes, Bool, not, ◌||◌}, Str.{bytes_eq}}
use Rattle.rio_format.specs.{Bodies.{form_of}, Slots.{is_headed}}

-- TObject, the TArrays, TNamed and TObjString
abbrev pub is_small_builtin : List ℕ → Bool
is_small_builtin class = not (is_headed (form_of class)) || bytes_eq class (codes "TNamed") || bytes_eq class (codes "TObjString")
