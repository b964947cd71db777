-- The names of classes, which lie in the data, seen by themselves.
use Rattle.std.proofs.Common.{◌≡◌, ℕ, Bool, true, false, cond, Bor, List, [], ◌∷◌, Some, nat_eq, refl, ap}
use Rattle.std.specs.{Map.{lookup}, Option.{option_map}}
use Rattle.indexmap.specs.IndexMap.{insert_entry}
use Rattle.rio_format.specs.ReaderState.{plain_names}

-- a look-up finds the same name
pub plain_found : (test : ℕ → Bool) (es : List (ℕ × Bor (List ℕ))) → lookup test (plain_names es) ≡ option_map (λ name. name.now) (lookup test es)
plain_found test [] = refl
plain_found test (e ∷ es) = by (test e.0) (plain_found test es)
  where
    by : (b : Bool) → lookup test (plain_names es) ≡ option_map (λ name. name.now) (lookup test es)
        → cond b (Some e.1.now) (lookup test (plain_names es)) ≡ option_map (λ name. name.now) (cond b (Some e.1) (lookup test es))
    by true rest = refl
    by false rest = rest

-- one more name goes to the same place
pub plain_added : (es : List (ℕ × Bor (List ℕ))) (place : ℕ) (name : Bor (List ℕ)) → plain_names (insert_entry nat_eq es place name) ≡ insert_entry nat_eq (plain_names es) place name.now
plain_added [] place name = refl
plain_added (e ∷ es) place name = by (nat_eq place e.0) (plain_added es place name)
  where
    by : (b : Bool) → plain_names (insert_entry nat_eq es place name) ≡ insert_entry nat_eq (plain_names es) place name.now
        → plain_names (cond b ((e.0, name) ∷ es) (e ∷ insert_entry nat_eq es place name)) ≡ cond b ((e.0, name.now) ∷ plain_names es) ((e.0, e.1.now) ∷ insert_entry nat_eq (plain_names es) place name.now)
    by true rest = refl
    by false rest = ap (λ (more : List (ℕ × List ℕ)). (e.0, e.1.now) ∷ more) rest
