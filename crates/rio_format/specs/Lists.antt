-- What class lists stand for.
use Rattle.std.specs.Prelude.{List, [], ◌∷◌, ◌++◌, Option, Some, None}
use Rattle.rio_format.specs.{Classes.{newer_of}, declared.class.ClassDef.{ClassDef}, declared.lists.ClassLists.{ClassLists, TheVariants.{One, Two, With}}}

-- the classes in order
abbrev pub listed : ClassLists → List ClassDef
listed (One classes) = classes.now
listed (Two first second) = first.now ++ second.now
listed (With first second class) = (first.now ++ second.now) ++ class.now ∷ []

-- the newest of two lists: of equal versions that of the first
abbrev pub newer_of_two : Option ClassDef → Option ClassDef → Option ClassDef
newer_of_two None second = second
newer_of_two (Some class) second = Some (newer_of class second)
