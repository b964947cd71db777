-- Counters as a list, and their numbers by name.
use Rattle.std.proofs.Common.{◌≡◌, ℕ, ℤ, List, [], ◌∷◌, ◌++◌, ◌+◌, ◌<◌, ◌≤◌, length, drop, map, reverse, take, get_or, Bool, true, false, cond, Option, Some, None, refl, sym, ap, ◌∙◌, Bor, arith}
use Rattle.std.proofs.lemmas.List.{map-append, reverse-append, take-append-drop, take_more}
use Rattle.std.specs.{Map.{lookup}, Prelude.{is_some}, Str.{bytes_eq}}
use Rattle.rio_format.specs.Counts.{last_first}

abbrev Met : Type 0
Met = List (Bor (List ℕ) × ℤ)

last_first-append : (a b : Met) → last_first (a ++ b) ≡ last_first b ++ last_first a
last_first-append a b = ap (map (λ c. (c.0.now, c.1))) (reverse-append a b) ∙ map-append _ (reverse b) (reverse a)

pub last_is_first : (met : Met) (c : Bor (List ℕ) × ℤ) → last_first (met ++ c ∷ []) ≡ (c.0.now, c.1) ∷ last_first met
last_is_first met c = last_first-append met (c ∷ [])

-- one counter more
pub said_on : (met : Met) (i : ℕ) (d : Bor (List ℕ) × ℤ) (name : List ℕ) → i < length met → lookup (bytes_eq name) (last_first (take (i + 1) met)) ≡ cond (bytes_eq name (get_or met i d).0.now) (Some (get_or met i d).1) (lookup (bytes_eq name) (last_first (take i met)))
said_on met i d name lt =
    ap (λ (l : Met). lookup (bytes_eq name) (last_first l)) (take_more met i d lt)
    ∙ ap (lookup (bytes_eq name)) (last_is_first (take i met) (get_or met i d))

-- the first four have nothing behind them
pub few_more : (met : Met) (c : Bor (List ℕ) × ℤ) → length met < 4 → drop 4 (met ++ c ∷ []) ≡ drop 4 met
few_more [] c lt = refl
few_more (x ∷ []) c lt = refl
few_more (x ∷ y ∷ []) c lt = refl
few_more (x ∷ y ∷ z ∷ []) c lt = refl
few_more (x ∷ y ∷ z ∷ w ∷ more) c lt = absurd (omega arith)

pub many_more : (met : Met) (c : Bor (List ℕ) × ℤ) → 4 ≤ length met → drop 4 (met ++ c ∷ []) ≡ drop 4 met ++ c ∷ []
many_more [] c le = absurd (omega arith)
many_more (x ∷ []) c le = absurd (omega arith)
many_more (x ∷ y ∷ []) c le = absurd (omega arith)
many_more (x ∷ y ∷ z ∷ []) c le = absurd (omega arith)
many_more (x ∷ y ∷ z ∷ w ∷ more) c le = refl

by_test : (t : Bool) (n : ℤ) (x y z : Option ℤ) → x ≡ cond (is_some y) y z → cond t (Some n) x ≡ cond (is_some (cond t (Some n) y)) (cond t (Some n) y) z
by_test true n x y z e = refl
by_test false n x y z e = e

-- what a test finds in two lists, one behind the other
pub lookup_behind : (test : List ℕ → Bool) (a b : List (List ℕ × ℤ)) → lookup test (a ++ b) ≡ cond (is_some (lookup test a)) (lookup test a) (lookup test b)
lookup_behind test [] b = refl
lookup_behind test (e ∷ a) b = by_test (test e.0) e.1 _ _ _ (lookup_behind test a b)

-- what the last of all says: of those behind the first four, or else of these
pub said_behind : (met : Met) (name : List ℕ) (n : ℤ) → lookup (bytes_eq name) (last_first (drop 4 met)) ≡ Some n → lookup (bytes_eq name) (last_first met) ≡ Some n
said_behind met name n e =
    ap (λ (l : Met). lookup (bytes_eq name) (last_first l)) (sym (take-append-drop 4 met))
    ∙ ap (lookup (bytes_eq name)) (last_first-append (take 4 met) (drop 4 met))
    ∙ lookup_behind (bytes_eq name) (last_first (drop 4 met)) (last_first (take 4 met))
    ∙ ap (λ (o : Option ℤ). cond (is_some o) o (lookup (bytes_eq name) (last_first (take 4 met)))) e

pub said_before : (met : Met) (name : List ℕ) → lookup (bytes_eq name) (last_first (drop 4 met)) ≡ None → lookup (bytes_eq name) (last_first met) ≡ lookup (bytes_eq name) (last_first (take 4 met))
said_before met name e =
    ap (λ (l : Met). lookup (bytes_eq name) (last_first l)) (sym (take-append-drop 4 met))
    ∙ ap (lookup (bytes_eq name)) (last_first-append (take 4 met) (drop 4 met))
    ∙ lookup_behind (bytes_eq name) (last_first (drop 4 met)) (last_first (take 4 met))
    ∙ ap (λ (o : Option ℤ). cond (is_some o) o (lookup (bytes_eq name) (last_first (take 4 met)))) e
