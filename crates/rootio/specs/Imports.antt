-- The commands of an import can be stated in a script.
use Rattle.std.specs.{Prelude.{◌≡◌, ℕ, List, true}, List.{list_all}}
use Rattle.rio_cmd.specs.{ImportWords.{IsImport}, declared.import_words.ImportWords.{ImportWords}}
use Rattle.rio_csv.specs.Import.{import_script}
use Rattle.rio_step.specs.Statable.{is_statable}

abbrev pub ImportsAreStatable : Type 0
ImportsAreStatable =
    (words : ImportWords) (text : List ℕ) → IsImport words
    → list_all is_statable (import_script words.tree words.branches words.every text) ≡ true
