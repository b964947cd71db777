-- Looking classes up in a list of them.
use Rattle.std.specs.{Prelude.{ℕ, ℤ, Bool, List, [], ◌∷◌, Option, Some, None, ◌==◌, ◌&&◌, int_le, find, if◌then◌else◌}, Str.{bytes_eq}, Ordering.{int_eq}}
use Rattle.rio_format.specs.{Members.{can_read_all}, declared.class.ClassDef.{ClassDef}}

-- the first of that name and version
abbrev pub find_in : List ClassDef → List ℕ → ℤ → Option ClassDef
find_in classes name version = find (λ c. bytes_eq c.name name && int_eq c.version version) classes

-- the first of that name that states the checksum
abbrev pub find_sum_in : List ClassDef → List ℕ → ℕ → Option ClassDef
find_sum_in classes name sum = find (λ c. bytes_eq c.name name && (c.sum == sum)) classes

-- the first class, or one of the rest that is newer
abbrev pub newer_of : ClassDef → Option ClassDef → ClassDef
newer_of c None = c
newer_of c (Some d) = if int_le d.version c.version then c else d

-- the first of those of that name than which none is newer
abbrev pub newest_in : List ClassDef → List ℕ → Option ClassDef
newest_in [] name = None
newest_in (c ∷ cs) name = if bytes_eq c.name name then Some (newer_of c (newest_in cs name)) else newest_in cs name

-- its members can be read
abbrev pub is_readable : ClassDef → Bool
is_readable c = can_read_all [] c.members

-- a class, and whether its members can be read
abbrev pub judged : ClassDef → ClassDef × Bool
judged c = (c, is_readable c)
