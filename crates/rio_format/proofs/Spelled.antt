-- The names of classes, with the places of their class words.
use Rattle.std.proofs.Common.{◌≡◌, ◌<◌, ℕ, Bool, true, false, cond, List, [], ◌∷◌, map, All, Option, Some, None, IfSome, nat_eq, refl, ap, arith}
use Rattle.std.proofs.{lemmas.Bool.Decides.{nat_tests}, lemmas.List.Elements.{All-head, All-tail}}
use Rattle.std.specs.{List.{find}, Map.{lookup}, Option.{option_map}, Str.{bytes_eq}, declared.vec.Vec.{Vec}}
use Rattle.indexmap.specs.IndexMap.{insert_entry}
use Rattle.rio_num.proofs.BytesEq.{bytes_eq-sym}
use Rattle.rio_format.proofs.Found.{found_holds}

-- what holds of each place holds of one that is found
pub place_holds : (P : ℕ → Type 0) (test : ℕ × List ℕ → Bool) (names : List (ℕ × List ℕ)) → All (λ e. P e.0) names → IfSome (option_map (λ e. e.0) (find test names)) P
place_holds P test names all = by (find test names) (λ e found. found_holds (λ (e : ℕ × List ℕ). P e.0) test names e found all)
  where
    by : (o : Option (ℕ × List ℕ)) → ((e : ℕ × List ℕ) → Some e ≡ o → P e.0) → IfSome (option_map (λ e. e.0) o) P
    by None holds = tt
    by (Some e) holds = holds e refl

-- a test of the number fails where it is less
apart_below : (a b : ℕ) → a < b → nat_eq b a ≡ false
apart_below a b less = grind (arith, nat_tests)

module _ {A : Type 0} where
  abbrev pub swapped : Vec ℕ A × ℕ → ℕ × List ℕ
  swapped e = (e.1, e.0.items)

  -- a look-up by the name finds the place of the first class word that spells it out
  pub place_found : (name : List ℕ) (es : List (Vec ℕ A × ℕ)) → lookup (λ k. bytes_eq name k.items) es ≡ option_map (λ e. e.0) (find (λ e. bytes_eq e.1 name) (map swapped es))
  place_found name [] = refl
  place_found name (e ∷ es) = by (bytes_eq name e.0.items) (bytes_eq e.0.items name) (bytes_eq-sym name e.0.items) (place_found name es)
    where
      by : (a b : Bool) → a ≡ b → lookup (λ k. bytes_eq name k.items) es ≡ option_map (λ e. e.0) (find (λ e. bytes_eq e.1 name) (map swapped es))
          → cond a (Some e.1) (lookup (λ k. bytes_eq name k.items) es) ≡ option_map (λ e. e.0) (cond b (Some (swapped e)) (find (λ e. bytes_eq e.1 name) (map swapped es)))
      by true true same rest = refl
      by false false same rest = rest
      by true false same rest = absurd cc
      by false true same rest = absurd cc

  -- a new name goes behind the others, whose places are lower
  pub name_added : (es : List (Vec ℕ A × ℕ)) (name : Vec ℕ A) (place : ℕ) → option_map (λ e. e.0) (find (λ e. bytes_eq e.1 name.items) (map swapped es)) ≡ None → All (λ e. e.0 < place) (map swapped es)
      → map swapped (insert_entry (λ x y. bytes_eq x.items y.items) es name place) ≡ insert_entry nat_eq (map swapped es) place name.items
  name_added [] name place new later = refl
  name_added (e ∷ es) name place new later =
      by (bytes_eq name.items e.0.items) (bytes_eq e.0.items name.items) (nat_eq place e.1) (bytes_eq-sym name.items e.0.items) (apart_below e.1 place (All-head (λ (e : ℕ × List ℕ). e.0 < place) (swapped e) (map swapped es) later))
      new (λ rest. name_added es name place rest (All-tail (λ (e : ℕ × List ℕ). e.0 < place) (swapped e) (map swapped es) later))
    where
      by : (a b c : Bool) → a ≡ b → c ≡ false → option_map (λ e. e.0) (cond b (Some (swapped e)) (find (λ e. bytes_eq e.1 name.items) (map swapped es))) ≡ None
          → (option_map (λ e. e.0) (find (λ e. bytes_eq e.1 name.items) (map swapped es)) ≡ None → map swapped (insert_entry (λ x y. bytes_eq x.items y.items) es name place) ≡ insert_entry nat_eq (map swapped es) place name.items)
          → map swapped (cond a ((e.0, place) ∷ es) (e ∷ insert_entry (λ x y. bytes_eq x.items y.items) es name place)) ≡ cond c ((e.1, name.items) ∷ map swapped es) (swapped e ∷ insert_entry nat_eq (map swapped es) place name.items)
      by false false false same apart none rest = ap (λ (es : List (ℕ × List ℕ)). swapped e ∷ es) (rest none)
      by a true c same apart none rest = absurd cc
      by true b c same apart none rest = absurd cc
      by a b true same apart none rest = absurd cc
