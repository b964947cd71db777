-- The commands of an import can be stated.
use Rattle.std.proofs.{Common.{◌≡◌, ◌++◌, Bool, true, false, ℕ, ◌+◌, List, [], ◌∷◌, refl}, lemmas.Bool.{and_from}}
use Rattle.std.specs.List.{list_all}
use Rattle.rio_csv.specs.{Import.{is_save_due, row_commands, save_if}, Rows.{rows_in}}
use Rattle.rio_machine.specs.declared.command.Command.{Command}
use Rattle.rio_num.specs.Word.{is_item_text}
use Rattle.rio_step.specs.Statable.{is_statable}
use Rattle.rio_format.specs.declared.value.Value.{Value}
use Rattle.rootio.specs.Imports.{ImportsAreStatable}

module _ (name : List ℕ) (item : is_item_text name ≡ true) (every : ℕ) where
  all_behind : (due : Bool) (others : List Command) → list_all is_statable others ≡ true → list_all is_statable (save_if due name ++ others) ≡ true
  all_behind true others are = and_from (is_item_text name) (list_all is_statable others) item are
  all_behind false others are = are

  rows_statable : (count : ℕ) (rows : List (List Value)) → list_all is_statable (row_commands name every count rows) ≡ true
  unfolding row_commands
  rows_statable count [] = refl
  rows_statable count (row ∷ rows) =
      let saves : List Command = save_if (is_save_due every (count + 1)) name in
      and_from (is_item_text name) (list_all is_statable (saves ++ row_commands name every (count + 1) rows)) item
      (all_behind (is_save_due every (count + 1)) (row_commands name every (count + 1) rows) (rows_statable (count + 1) rows))

pub imports_are_statable : ImportsAreStatable
imports_are_statable words text is =
    and_from _ _ (and_from _ _ is.tree is.branches) (rows_statable words.tree is.tree words.every 0 (rows_in words.branches text))
