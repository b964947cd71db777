-- Bytes at places of a file, and files that are told: laws of the disk model.
use Rattle.std.proofs.Common.{◌≡◌, ◌⊎◌, inl, inr, ℕ, zero, suc, ◌+◌, ◌<◌, ◌≤◌, List, [], ◌∷◌, ◌++◌, length, get_or, Option, Some, None, subst, sym, refl, ap, ◌∙◌, arith}
use Rattle.std.proofs.lemmas.Option.{slice_get_within, slice_get-get_or, none-some, same_Some}
use Rattle.std.specs.List.{slice_get}
use Rattle.rio_host.specs.{ImageLaws.{slice_get-append_left, slice_get-append_right}, Image.{Has, Torn, Put, Same}, Host.{Becomes}}

-- ---- bytes at places

-- an element stands in one part or the other
pub slice_get-append_cases : (front back : List ℕ) (n x : ℕ) → slice_get (front ++ back) n ≡ Some x → (slice_get front n ≡ Some x) ⊎ ((i : ℕ) × (n ≡ length front + i) × (slice_get back i ≡ Some x))
slice_get-append_cases [] back n x at = inr (n, omega arith, at)
slice_get-append_cases (y ∷ front) back zero x at = inl at
slice_get-append_cases (y ∷ front) back (suc n) x at = elim (slice_get-append_cases front back n x at) [
  | inl here ↦ inl here
  | inr there ↦ inr (there.0, omega (arith, there.1), there.2)
]

pub has_keeps : (old new : List ℕ) (place : ℕ) (bytes : List ℕ) → ((i x : ℕ) → place ≤ i → i < place + length bytes → slice_get old i ≡ Some x → slice_get new i ≡ Some x) → Has old place bytes → Has new place bytes
has_keeps old new place bytes keeps has i x at = keeps (place + i) x (omega arith) (omega (arith, slice_get_within bytes i x at)) (has i x at)

-- a file that has bytes is long enough for them
pub has_length : (file : List ℕ) (place : ℕ) (bytes : List ℕ) (n : ℕ) → length bytes ≡ n + 1 → Has file place bytes → place + length bytes ≤ length file
has_length file place bytes n long has =
    let last = slice_get-get_or bytes n 0 (omega (arith, long)) in
    omega (arith, slice_get_within file (place + n) (get_or bytes n 0) (has n (get_or bytes n 0) last))

-- the parts of bytes that a file has
pub has_front : (file : List ℕ) (place : ℕ) (one two : List ℕ) → Has file place (one ++ two) → Has file place one
has_front file place one two has i x at = has i x (slice_get-append_left one two i x at)

pub has_back : (file : List ℕ) (place n : ℕ) (one two : List ℕ) → n ≡ place + length one → Has file place (one ++ two) → Has file n two
has_back file place n one two is has i x at =
    subst (λ (k : ℕ). slice_get file k ≡ Some x) (let e : place + (length one + i) ≡ n + i = omega (arith, is) in e) (has (length one + i) x (slice_get-append_right one two (length one + i) i refl ∙ at))

-- what is written may also be what a torn write leaves
pub put_torn : (place : ℕ) (bytes old new : List ℕ) → Put place bytes old new → Torn place (length bytes) old new
put_torn place bytes old new put = record { outside = put.outside; no_shorter = omega (arith, put.length_is); no_longer = omega (arith, put.length_is) }

-- ---- what is told

-- what becomes of bytes that are told
pub becomes_some : (change : List ℕ → List ℕ → Type 0) (old after : Option (List ℕ)) (file : List ℕ) → old ≡ Some file → Becomes change old after → (new : List ℕ) × (after ≡ Some new) × change file new
becomes_some change old after file told becomes = subst (λ o. Becomes change o after) told becomes

-- one change after the other
pub becomes_join : (R S T : List ℕ → List ℕ → Type 0) (a b c : Option (List ℕ)) → ((x y z : List ℕ) → R x y → S y z → T x z) → Becomes R a b → Becomes S b c → Becomes T a c
becomes_join R S T (Some x) b c joins one two = let next = becomes_some S b c one.0 one.1 two in (next.0, next.1, joins x one.0 next.0 one.2 next.2)
becomes_join R S T None b c joins one two = subst (λ (o : Option (List ℕ)). Becomes S o c) one two

pub becomes_as : (R S : List ℕ → List ℕ → Type 0) (a b : Option (List ℕ)) → ((x y : List ℕ) → R x y → S x y) → Becomes R a b → Becomes S a b
becomes_as R S (Some x) b has becomes = (becomes.0, becomes.1, has x becomes.0 becomes.2)
becomes_as R S None b has becomes = becomes

-- what stays the same
pub becomes_same : (a b : Option (List ℕ)) → Becomes Same a b → b ≡ a
becomes_same (Some x) b becomes = becomes.1 ∙ ap (λ (l : List ℕ). some l) becomes.2
  where
    some : List ℕ → Option (List ℕ)
    some l = Some l
becomes_same None b becomes = becomes

pub same_becomes : (a b : Option (List ℕ)) → b ≡ a → Becomes Same a b
same_becomes (Some x) b is = (x, is, refl)
same_becomes None b is = is

-- what is told after was told before
pub told_before : (R : List ℕ → List ℕ → Type 0) (a b : Option (List ℕ)) (file : List ℕ) → Becomes R a b → b ≡ Some file → (old : List ℕ) × (a ≡ Some old) × R old file
told_before R (Some x) b file becomes told = (x, refl, subst (λ (l : List ℕ). R x l) (same_Some becomes.0 file (sym becomes.1 ∙ told)) becomes.2)
told_before R None b file becomes told = absurd (none-some file (sym becomes ∙ told))
