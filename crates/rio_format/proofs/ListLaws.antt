-- Looking classes up in two lists, one behind the other.
use Rattle.std.proofs.Common.{◌≡◌, ℤ, List, [], ◌∷◌, ◌++◌, Bool, true, false, if◌then◌else◌, ◌&&◌, Option, Some, None, refl, ap, ◌∙◌, arith}
use Rattle.std.proofs.{lemmas.Grind.{common_steps}, lemmas.List.Folds.{find-append}}
use Rattle.std.specs.{Prelude.{ℕ}, Str.{bytes_eq}, Option.{option_or}, Ordering.{int_eq}}
use Rattle.rio_format.specs.{Classes.{find_in, newer_of, newest_in}, declared.class.ClassDef.{ClassDef}, Lists.{newer_of_two}}

newer_of_three : (d e c : ClassDef) → newer_of d (Some (newer_of e (Some c))) ≡ newer_of (newer_of d (Some e)) (Some c)
newer_of_three d e c = grind (arith, common_steps)

newer_behind : (c : ClassDef) (first second : Option ClassDef) → newer_of c (newer_of_two first second) ≡ newer_of (newer_of c first) second
newer_behind c None second = refl
newer_behind c (Some d) None = refl
newer_behind c (Some d) (Some e) = newer_of_three c d e

newest_if : (b : Bool) (c : ClassDef) (first second : Option ClassDef) → (if b then Some (newer_of c (newer_of_two first second)) else newer_of_two first second) ≡ newer_of_two (if b then Some (newer_of c first) else first) second
newest_if true c first second = ap Some (newer_behind c first second)
newest_if false c first second = refl

pub newest_in-append : (first second : List ClassDef) (name : List ℕ) → newest_in (first ++ second) name ≡ newer_of_two (newest_in first name) (newest_in second name)
newest_in-append [] second name = refl
newest_in-append (c ∷ cs) second name =
    ap (λ (o : Option ClassDef). if bytes_eq c.name name then Some (newer_of c o) else o) (newest_in-append cs second name)
    ∙ newest_if (bytes_eq c.name name) c (newest_in cs name) (newest_in second name)

pub find_in-append : (first second : List ClassDef) (name : List ℕ) (version : ℤ) → find_in (first ++ second) name version ≡ option_or (find_in first name version) (find_in second name version)
find_in-append first second name version = find-append (λ c. bytes_eq c.name name && int_eq c.version version) first second
