-- A file that keeps its first 100 bytes keeps its header.
use Rattle.std.proofs.Common.{◌≡◌, ℕ, zero, suc, ◌<◌, ◌≤◌, ◌∙◌, List, [], ◌∷◌, length, take, Bool, true, false, ◌||◌, ◌==◌, MatchBool, Some, Ok, refl, sym, ap, subst, arith}
use Rattle.std.proofs.lemmas.Bool.{eqb-true}
use Rattle.std.specs.Prelude.{nat_lt, slice_get}
use Rattle.byteorder.specs.Endian.{big_number}
use Rattle.rio_chain.proofs.Words.{word_within}
use Rattle.rio_chain.specs.{Segments.{IsChain, Link, chain_end}, Stops.{KeepsFront}}
use Rattle.rio_dir.specs.Unborn.{is_unborn}
use Rattle.rio_head.proofs.HeadCut.{head_in_front}
use Rattle.rio_head.specs.{Head.{head_at, header_layout}, declared.head.FileHead.{FileHead}}
use Rattle.rio_machine.specs.State.{empty_state}
use Rattle.rio_state.specs.Reads.{ReadsAsMade}
use Rattle.rio_effect.specs.Laws.{FrontTells}

same_byte : (x y : ℕ) → Some x ≡ Some y → x ≡ y
same_byte x y e = cc

same_front : (n : ℕ) (xs ys : List ℕ) → n ≤ length xs → ((i x : ℕ) → i < n → slice_get xs i ≡ Some x → slice_get ys i ≡ Some x) → take n ys ≡ take n xs
same_front zero xs ys le same = refl
same_front (suc n) [] ys le same = absurd (omega (arith, le))
same_front (suc n) (x ∷ xs) [] le same = let e = same zero x (omega arith) refl in absurd cc
same_front (suc n) (x ∷ xs) (y ∷ ys) le same =
    let here = same_byte y x (same zero x (omega arith) refl) in
    let rest = same_front n xs ys (omega (arith, le)) (λ i z lt e. same (suc i) z (omega (arith, lt)) e) in
    λ i. here i ∷ rest i

front_long : (file : List ℕ) (links : List Link) → IsChain links file → 100 ≤ length file
front_long file links chain =
    let within = word_within file (chain_end links) 0 chain.ends.zero_word in
    let later = chain.ends.later in
    omega (arith, within, later)

same_head : (old new : List ℕ) (links : List Link) → IsChain links old → KeepsFront old new → head_at new ≡ head_at old
same_head old new links chain keeps =
    sym (head_in_front new) ∙ ap head_at (same_front 100 old new (front_long old links chain) keeps) ∙ head_in_front old

-- a file with a header is made
module _ (file : List ℕ) (head : FileHead) (e : head_at file ≡ Ok head) where
  not_short : nat_lt (length file) 4 ≡ true → ⊥
  unfolding header_layout
  not_short t = let h = rw t at e in cc

  not_zero : nat_lt (length file) 4 ≡ false → (big_number 4 file == 0) ≡ true → ⊥
  unfolding header_layout
  not_zero t z =
      let zero_word = eqb-true (big_number 4 file) 0 z in
      let h = rw (t, zero_word) at e in cc

  pub is_made : is_unborn file ≡ false
  is_made = by (nat_lt (length file) 4) (big_number 4 file == 0) refl refl
    where
      by : (a b : Bool) → nat_lt (length file) 4 ≡ a → (big_number 4 file == 0) ≡ b → (a || b) ≡ false
      by true b s z = absurd (not_short s)
      by false true s z = absurd (not_zero s z)
      by false false s z = refl

pub front_tells : FrontTells
front_tells old new before after head m chain e small keeps links is =
    let there = same_head old new before chain keeps ∙ e in
    let made : ReadsAsMade new m = record { head = head; head_is = there; small = small; links = after; chain = links; records = is } in
    record { head_is = there; made = made; reads = subst (λ (b : Bool). MatchBool b (m ≡ empty_state) (ReadsAsMade new m)) (sym (is_made new head there)) made }
