-- The rows of a generated file fit its tree.
use Rattle.std.proofs.Common.{◌≡◌, ◌<◌, ◌≤◌, ◌+◌, ◌*◌, ◌^◌, ◌∙◌, [], ℕ, zero, suc, pos, List, Bool, true, ◌&&◌, map, refl, ap, arith}
use Rattle.std.proofs.lemmas.Int.{ints}
use Rattle.std.specs.Prelude.{is_some}
use Rattle.rio_format.specs.{Bodies.{Counters}, Fits.{Fitting, fits_signed, fitting_step, pass}, Slots.{kinded}}
use Rattle.rio_format.proofs.ValueCases.{fold_Int}
use Rattle.rio_machine.specs.Rows.{columns_fit, columns_of, stands_in}
use Rattle.rio_format.specs.{declared.class.ClassDef.{ClassDef}, declared.kind.Kind.TheVariants.{Plain}, declared.kind.Primitive.TheVariants.{I32}, declared.value.Value.{Int}}
use Rattle.rio_gen.specs.{Generated.{generated_branch, generated_row, generated_value, numbers_from}, Laws.{GeneratedRowsFit, TreeIsStated}}

pub tree_is_stated : TreeIsStated
unfolding numbers_from
tree_is_stated = record { name = refl; branches = refl; few = refl }

and_both : (a b : Bool) → a ≡ true → b ≡ true → (a && b) ≡ true
and_both a b p q = rw (p, q) refl

within_four_bytes : (n : ℕ) → n < 2 ^ 31 → fits_signed 32 (pos n) ≡ true
within_four_bytes n h = grind (arith, ints)

integer_fits : (classes : List ClassDef) (n : ℕ) → n < 2 ^ 31 → stands_in classes (kinded (Plain I32)) (Int (pos n)) ≡ true
integer_fits classes n h =
    ap (λ (f : Fitting). is_some (f.fits (kinded (Plain I32)) [])) (fold_Int (fitting_step classes) (λ p. (p.name, p.value)) (pos n))
    ∙ ap (λ (b : Bool). is_some (pass b [])) (within_four_bytes n h)

-- the values of some branches one behind the other
branches_fit : (classes : List ClassDef) (e first n : ℕ) (counters : Counters) → e < 1000000 → first + n ≤ 20
    → columns_fit classes (columns_of (map generated_branch (numbers_from first n))) (map (generated_value e) (numbers_from first n)) counters ≡ true
unfolding numbers_from
branches_fit classes e first zero counters few le = refl
branches_fit classes e first (suc n) counters few le =
    and_both _ _ (integer_fits classes (20 * e + first) (omega (arith, few, le))) (branches_fit classes e (first + 1) n _ few (omega (arith, le)))

pub generated_rows_fit : GeneratedRowsFit
generated_rows_fit classes e few = branches_fit classes e 0 20 [] few (omega arith)
