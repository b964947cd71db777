-- Elements of lists that are joined and cut, and that a put is one.
use Rattle.std.specs.Prelude.{◌≡◌, ℕ, zero, suc, ◌+◌, ◌-◌, ◌≤◌, ◌<◌, List, [], ◌∷◌, ◌++◌, length, take, drop, Some, slice_get}
use Rattle.std.proofs.{Common.{⊎_elim, refl, ◌∙◌, ap, arith, length-append, length-take, length-drop}, lemmas.Option.{none-some}}
use Rattle.rio_host.specs.{Image.{Put}, Replay.{spliced}}

pub slice_get-append_left : (front back : List ℕ) (i x : ℕ) → slice_get front i ≡ Some x → slice_get (front ++ back) i ≡ Some x
slice_get-append_left [] back i x at = absurd (none-some x at)
slice_get-append_left (y ∷ front) back zero x at = at
slice_get-append_left (y ∷ front) back (suc i) x at = slice_get-append_left front back i x at

pub slice_get-append_right : (front back : List ℕ) (n i : ℕ) → n ≡ length front + i → slice_get (front ++ back) n ≡ slice_get back i
slice_get-append_right [] back n i is = ap (λ k. slice_get back k) (omega (arith, is))
slice_get-append_right (y ∷ front) back zero i is = absurd (omega (arith, is))
slice_get-append_right (y ∷ front) back (suc n) i is = slice_get-append_right front back n i (omega (arith, is))

pub slice_get-take : (n i : ℕ) (l : List ℕ) → i < n → slice_get (take n l) i ≡ slice_get l i
slice_get-take zero i l lt = absurd (omega arith)
slice_get-take (suc n) i [] lt = refl
slice_get-take (suc n) zero (x ∷ l) lt = refl
slice_get-take (suc n) (suc i) (x ∷ l) lt = slice_get-take n i l (omega arith)

pub slice_get-drop : (n i k : ℕ) (l : List ℕ) → k ≡ n + i → slice_get (drop n l) i ≡ slice_get l k
slice_get-drop zero i k l is = ap (λ (m : ℕ). slice_get l m) (let e : i ≡ k = omega arith in e)
slice_get-drop (suc n) i k [] is = refl
slice_get-drop (suc n) i zero (x ∷ l) is = absurd (omega arith)
slice_get-drop (suc n) i (suc k) (x ∷ l) is = slice_get-drop n i k l (omega arith)

pub spliced_put : (file : List ℕ) (place : ℕ) (bytes : List ℕ) → place ≤ length file → Put place bytes file (spliced file place bytes)
spliced_put file place bytes le = record {
  outside = λ i x out at. ⊎_elim
      (λ low. slice_get-append_left front (bytes ++ back) i x (slice_get-take place i file low ∙ at))
      (λ high. slice_get-append_right front (bytes ++ back) i (i - place) (omega (arith, size))
      ∙ slice_get-append_right bytes back (i - place) (i - place - length bytes) (omega arith)
      ∙ slice_get-drop (place + length bytes) (i - place - length bytes) i file (omega arith)
      ∙ at)
      out;
  written = λ i x at. slice_get-append_right front (bytes ++ back) (place + i) i (omega (arith, size)) ∙ slice_get-append_left bytes back i x at;
  length_is = omega (arith, size, length-append front (bytes ++ back), length-append bytes back, length-drop (place + length bytes) file);
}
  where
    front : List ℕ
    front = take place file

    back : List ℕ
    back = drop (place + length bytes) file

    size : length (take place file) ≡ place
    size = omega (arith, length-take place file)
