-- Places of classes in a list of them.
use Rattle.std.specs.{Prelude.{ℕ, suc, Bool, List, [], ◌∷◌, Option, Some, None, if◌then◌else◌}, Option.{option_map}, Str.{bytes_eq}}
use Rattle.rio_format.specs.declared.class.ClassDef.{ClassDef}

-- the place of the first class that passes
abbrev pub place : (ClassDef → Bool) → List ClassDef → Option ℕ
place test [] = None
place test (c ∷ cs) = if test c then Some 0 else option_map suc (place test cs)

abbrev pub is_named : List ℕ → ClassDef → Bool
is_named name c = bytes_eq c.name name
