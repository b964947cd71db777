-- The refusal that is told is the one of the lowest number.
use Rattle.std.proofs.Common.{◌≡◌, ◌<◌, ◌≤◌, ℕ, zero, suc, ◌+◌, ◌-◌, List, [], ◌∷◌, length, Bool, true, false, Option, Some, None, Ok, Err, refl, sym, ap, subst, ◌∙◌, arith}
use Rattle.std.proofs.lemmas.Option.{same_Some}
use Rattle.std.specs.{List.{slice_get}, FinMap.{get}, Prelude.{option_and_then}}
use Rattle.rio_machine.specs.{RefusalText.{refusal_number}, State.{State}}
use Rattle.rio_machine.specs.declared.command.Command.{Command, TheVariants.{Bad, Class, Put, Batch, Delete, Tree as MakeTree, Fill, Save, Get, Scan, Ls}}
use Rattle.rio_machine.specs.declared.refusal.Refusal.{Refusal}
use Rattle.rio_step.specs.{Laws.{LowestIsTold}}
use Rattle.rio_model.specs.Mapping.{Mapped}
use Rattle.rio_step.specs.Refusing.{FullMark, bad_line, change_in, first_of, kind_change, marked_full, meant_object, refusal_of, refusals, refused_if, rows_of_tree, rows_seen_in, seen_in}
use Rattle.rio_model.specs.declared.map_fault.MapFault.TheVariants.{KindChanged as Changed, NoVersion, NoMemory}

-- a test gives no refusal of another number
HasNumber : ℕ → Option Refusal → Type 0
HasNumber n x = (r : Refusal) → x ≡ Some r → refusal_number r ≡ n

-- the tests have these numbers, from this one on
AreNumbered : ℕ → List (Option Refusal) → Type 0
unfolding HasNumber
AreNumbered n [] = Unit {0}
AreNumbered n (x ∷ xs) = HasNumber n x × AreNumbered (suc n) xs

Told : ℕ → List (Option Refusal) → Refusal → Type 0
Told n xs r = (n ≤ refusal_number r) × (slice_get xs (refusal_number r - n) ≡ Some (Some r)) × ((k : ℕ) → k + n < refusal_number r → slice_get xs k ≡ Some None)

told_first : (n : ℕ) (x r : Refusal) (xs : List (Option Refusal)) → refusal_number x ≡ n → x ≡ r → Told n (Some x ∷ xs) r
unfolding Told
told_first n x r xs number same =
    let is : refusal_number r ≡ n = ap refusal_number (sym same) ∙ number in
    let none : refusal_number r - n ≡ 0 = omega (arith, is) in
    (omega (arith, is), subst (λ k. slice_get (Some x ∷ xs) k ≡ Some (Some r)) (sym none) (ap (λ y. Some (Some y)) same), λ k below. absurd (omega (arith, is, below)))

told_later : (n : ℕ) (r : Refusal) (xs : List (Option Refusal)) → Told (suc n) xs r → Told n (None ∷ xs) r
unfolding Told
told_later n r xs told =
    let later : refusal_number r - n ≡ suc (refusal_number r - suc n) = omega (arith, told.0) in
    (omega (arith, told.0), subst (λ k. slice_get (None ∷ xs) k ≡ Some (Some r)) (sym later) told.1, before)
  where
    before : (k : ℕ) → k + n < refusal_number r → slice_get (None ∷ xs) k ≡ Some None
    before zero below = refl
    before (suc k) below = told.2 k (omega (arith, below))

told_by_number : (n : ℕ) (xs : List (Option Refusal)) (r : Refusal) → AreNumbered n xs → first_of xs ≡ Some r → Told n xs r
unfolding AreNumbered HasNumber
told_by_number n [] r numbered e = absurd cc
told_by_number n (Some x ∷ xs) r numbered e = told_first n x r xs (numbered.0 x refl) (same_Some x r e)
told_by_number n (None ∷ xs) r numbered e = told_later n r xs (told_by_number (suc n) xs r numbered.1 e)

if_numbered : (b : Bool) (x : Refusal) → HasNumber (refusal_number x) (refused_if b x)
unfolding HasNumber
if_numbered true x r e = ap refusal_number (sym (same_Some x r e))
if_numbered false x r e = absurd cc

line_numbered : (c : Command) → HasNumber 1 (bad_line c)
unfolding HasNumber
line_numbered (Bad line place) r e = ap refusal_number (sym (same_Some _ r e))
line_numbered (Class class) r e = absurd cc
line_numbered (Put name v) r e = absurd cc
line_numbered (Batch puts) r e = absurd cc
line_numbered (Delete name cycle) r e = absurd cc
line_numbered (MakeTree name branches) r e = absurd cc
line_numbered (Fill name row) r e = absurd cc
line_numbered (Save name) r e = absurd cc
line_numbered (Get name cycle version) r e = absurd cc
line_numbered (Scan name class) r e = absurd cc
line_numbered Ls r e = absurd cc

change_numbered : {A : Type 0} (x : Mapped A) → HasNumber 13 (change_in x)
unfolding HasNumber
change_numbered (Ok y) r e = absurd cc
change_numbered (Err (Changed member)) r e = ap refusal_number (sym (same_Some _ r e))
change_numbered (Err NoVersion) r e = absurd cc
change_numbered (Err NoMemory) r e = absurd cc

then_numbered : {A : Type 0} (n : ℕ) (f : A → Option Refusal) (x : Option A) → ((a : A) → HasNumber n (f a)) → HasNumber n (option_and_then f x)
unfolding HasNumber
then_numbered n f None known r e = absurd cc
then_numbered n f (Some x) known r e = known x r e

none_numbered : (n : ℕ) → HasNumber n None
unfolding HasNumber
none_numbered n r e = absurd cc

kind_numbered : (m : State) (c : Command) → HasNumber 13 (kind_change m c)
kind_numbered m (Get name cycle version) = then_numbered 13 (λ v. change_in (seen_in m.classes version v)) (meant_object m name cycle) (λ v. change_numbered (seen_in m.classes version v))
kind_numbered m (Scan name class) = then_numbered 13 (λ t. change_in (rows_seen_in m.classes class (rows_of_tree t))) (get m.trees name) (λ t. change_numbered (rows_seen_in m.classes class (rows_of_tree t)))
kind_numbered m (Bad line place) = none_numbered 13
kind_numbered m (Class class) = none_numbered 13
kind_numbered m (Put name v) = none_numbered 13
kind_numbered m (Batch puts) = none_numbered 13
kind_numbered m (Delete name cycle) = none_numbered 13
kind_numbered m (MakeTree name branches) = none_numbered 13
kind_numbered m (Fill name row) = none_numbered 13
kind_numbered m (Save name) = none_numbered 13
kind_numbered m Ls = none_numbered 13

mark_numbered : (mark : Option FullMark) → HasNumber 19 (marked_full mark)
unfolding HasNumber
mark_numbered None r e = absurd cc
mark_numbered (Some full) r e = ap refusal_number (sym (same_Some _ r e))

all_numbered : (m : State) (c : Command) (mark : Option FullMark) → AreNumbered 1 (refusals m c mark)
unfolding AreNumbered
all_numbered m c mark = (
  line_numbered c,
  (
    if_numbered _ _,
    (
      if_numbered _ _,
      (
        if_numbered _ _,
        (
          if_numbered _ _,
          (
            if_numbered _ _,
            (
              if_numbered _ _,
              (
                if_numbered _ _,
                (
                  if_numbered _ _,
                  (
                    if_numbered _ _,
                    (
                      if_numbered _ _,
                      (
                        if_numbered _ _,
                        (kind_numbered m c, (if_numbered _ _, (if_numbered _ _, (if_numbered _ _, (if_numbered _ _, (if_numbered _ _, (mark_numbered mark, tt))))))),
                      ),
                    ),
                  ),
                ),
              ),
            ),
          ),
        ),
      ),
    ),
  ),
)

none_told : (xs : List (Option Refusal)) (k : ℕ) → first_of xs ≡ None → k < length xs → slice_get xs k ≡ Some None
none_told [] k e below = absurd (omega (arith, below))
none_told (Some x ∷ xs) k e below = absurd cc
none_told (None ∷ xs) zero e below = refl
none_told (None ∷ xs) (suc k) e below = none_told xs k e (omega (arith, below))

pub lowest_is_told : LowestIsTold
unfolding refusal_of Told
lowest_is_told = record {
  some = λ m c mark r e.
      let told = told_by_number 1 (refusals m c mark) r (all_numbered m c mark) e in
      record { told = told.1; none_before = told.2 };
  none = λ m c mark e k below. none_told (refusals m c mark) k e below;
}
