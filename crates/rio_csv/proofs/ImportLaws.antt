-- The commands of an import, one after the other.
use Rattle.std.proofs.Common.{◌≡◌, ◌+◌, ◌%◌, ◌<◌, ◌==◌, ◌&&◌, not, ◌∷◌, ◌++◌, ◌∙◌, [], ℕ, zero, suc, List, Option, Some, None, IsSome, Bool, true, false, refl, sym, ap, arith}
use Rattle.std.proofs.Math.Dec.{eqb-suc-zero}
use Rattle.std.proofs.Math.Nat.{add-mod_left, mod-eq_of_lt, mod_self}
use Rattle.std.specs.Option.{option_map}
use Rattle.rio_csv.specs.Import.{commands_left, is_save_due, next_behind, row_commands, save_if}
use Rattle.rio_csv.specs.Unread.{TakesFirst}
use Rattle.rio_csv.specs.declared.import.NextCommand.{NextCommand, TheVariants.{Tree as TreeNext, Row as RowNext, Save as SaveNext}}
use Rattle.rio_leaf.specs.declared.branch.BranchDef.{BranchDef}
use Rattle.rio_machine.specs.declared.command.Command.{Command, TheVariants.{Tree as MakeTree, Fill, Save}}
use Rattle.rio_format.specs.declared.value.Value.{Value}

-- ---- how many rows there are since the last save

-- the same rows, where each save is due at the same rows
alike : (name : List ℕ) (every m n : ℕ) → ((k : ℕ) → is_save_due every (m + k) ≡ is_save_due every (n + k)) → (rows : List (List Value))
    → row_commands name every m rows ≡ row_commands name every n rows
unfolding row_commands
alike name every m n due [] = refl
alike name every m n due (row ∷ rows) =
    let later : (k : ℕ) → is_save_due every (m + 1 + k) ≡ is_save_due every (n + 1 + k) =
    λ k. ap (is_save_due every) (omega arith) ∙ due (1 + k) ∙ ap (is_save_due every) (omega arith) in
    rw (due 1, alike name every (m + 1) (n + 1) later rows) refl

pub never_saved : (name : List ℕ) (m : ℕ) (rows : List (List Value)) → row_commands name 0 m rows ≡ row_commands name 0 0 rows
never_saved name m rows = alike name 0 m 0 (λ k. refl) rows

pub saved_again : (name : List ℕ) (every : ℕ) (rows : List (List Value)) → row_commands name every every rows ≡ row_commands name every 0 rows
saved_again name every rows =
    alike name every every 0
    (λ k. let none : k ≡ 0 + k = omega arith in ap (λ (r : ℕ). not (every == 0) && (r == 0)) (add-mod_left every k) ∙ ap (is_save_due every) none)
    rows

pub never_due : (count : ℕ) → is_save_due 0 count ≡ false
never_due count = refl

pub due_now : (every : ℕ) → 0 < every → is_save_due every every ≡ true
due_now zero h = absurd (omega (arith, h))
due_now (suc n) h = let none : suc n % suc n ≡ 0 = mod_self (suc n) in rw (none, eqb-suc-zero n) refl

pub due_later : (every count : ℕ) → 0 < count → count < every → is_save_due every count ≡ false
due_later every zero some few = absurd (omega (arith, some))
due_later zero (suc n) some few = absurd (omega (arith, few))
due_later (suc m) (suc n) some few = let left : suc n % suc m ≡ suc n = mod-eq_of_lt few in rw (left, eqb-suc-zero n, eqb-suc-zero m) refl

-- ---- one command

module _ (name : List ℕ) (branches : List BranchDef) (every since : ℕ) where
  pub tree_taken : (rows : Option (List (List Value))) → IsSome rows
      → TakesFirst (commands_left TreeNext name branches every since rows) (Some (MakeTree name branches)) (commands_left RowNext name branches every since rows)
  tree_taken None some = absurd cc
  tree_taken (Some rs) some = (row_commands name every since rs, refl, refl)

  pub save_taken : (rows : Option (List (List Value))) → IsSome rows
      → TakesFirst (commands_left SaveNext name branches every since rows) (Some (Save name)) (commands_left RowNext name branches every since rows)
  save_taken None some = absurd cc
  save_taken (Some rs) some = (row_commands name every since rs, refl, refl)

  pub none_taken : (old new : Option (List (List Value))) → TakesFirst old None new
      → TakesFirst (commands_left RowNext name branches every since old) None (commands_left RowNext name branches every since new)
  unfolding row_commands
  none_taken old new t = (rw t.0 refl, rw t.1 refl)

  pub fill_taken : (old new : Option (List (List Value))) (row : List Value) (next : NextCommand) (count : ℕ) → TakesFirst old (Some row) new
      → next ≡ next_behind (is_save_due every (since + 1))
      → ((name : List ℕ) (rows : List (List Value)) → row_commands name every (since + 1) rows ≡ row_commands name every count rows)
      → TakesFirst (commands_left RowNext name branches every since old) (Some (Fill name row)) (commands_left next name branches every count new)
  unfolding row_commands
  fill_taken old new row next count t is same = by (is_save_due every (since + 1)) refl
    where
      by : (due : Bool) → is_save_due every (since + 1) ≡ due
          → TakesFirst (commands_left RowNext name branches every since old) (Some (Fill name row)) (commands_left next name branches every count new)
      by true d = (save_if true name ++ row_commands name every (since + 1) t.0, rw (t.1, d) refl, rw (is, d, t.2, same name t.0) refl)
      by false d = (row_commands name every (since + 1) t.0, rw (t.1, d) refl, rw (is, d, t.2, same name t.0) refl)
