-- The classes whose bases are looked through.
use Rattle.std.specs.{Prelude.{ℕ, ℤ, List, [], ◌∷◌, ◌++◌, Bool, ◌&&◌, if◌then◌else◌}, List.{list_any}, Ordering.{int_eq}, Str.{bytes_eq}}
use Rattle.rio_format.specs.declared.class.Base.{Base}

abbrev pub base_of : List ℕ → ℤ → Base
base_of class version = record { name = class; version = version }

-- of one class and version
abbrev pub same_base : Base → Base → Bool
same_base b c = bytes_eq b.name c.name && int_eq b.version c.version

abbrev pub is_visited : List Base → Base → Bool
is_visited visits b = list_any (same_base b) visits

-- the visits after one more, which they may have already
abbrev pub with_visit : List Base → Base → List Base
with_visit visits b = if is_visited visits b then visits else visits ++ b ∷ []
