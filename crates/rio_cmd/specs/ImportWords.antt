-- The words of the command line behind the file: TREE EVERY SPEC.. of an import, and N of a generated file.
use Rattle.std.specs.Prelude.{◌≡◌, ℕ, List, [], ◌∷◌, ◌++◌, codes, length, Option, Some, None, option_map, option_and_then, Bool, true, false, ◌==◌, ◌&&◌, if◌then◌else◌}
use Rattle.std.specs.List.{flat_map, list_all, list_any}
use Rattle.rio_num.specs.{Reading.{some_if}, Word.{is_blank_byte, is_item_text}}
use Rattle.rio_token.specs.Words.{num_between_of}
use Rattle.rio_leaf.specs.{declared.branch.BranchDef.{BranchDef}, declared.branch.Shape.{Shape, TheVariants.{Leaves, Class}}, Leaves.{is_one}}
use Rattle.rio_leaf.specs.Stated.{are_stated_branches}
use Rattle.rio_machine.specs.declared.command.Command.{Command, TheVariants.{Tree as MakeTree}}
use Rattle.rio_cmd.specs.declared.import_words.ImportWords.{ImportWords}
use Rattle.rio_step.specs.Script.{line_command}

-- ---- SPEC..: the branches of the line `tree TREE SPEC..` of a script

-- leaves without dimensions, and no class
abbrev pub is_plain_shape : Shape → Bool
is_plain_shape (Leaves leaves) = list_all (λ leaf. is_one leaf.dim) leaves
is_plain_shape (Class class) = false

abbrev pub are_plain : List BranchDef → Bool
are_plain branches = list_all (λ b. is_plain_shape b.shape) branches

-- a branch has no blanks in it
abbrev pub has_blank : List ℕ → Bool
has_blank word = list_any is_blank_byte word

-- a SPEC behind a blank
abbrev pub spec_word : List ℕ → List ℕ
spec_word spec = codes " " ++ spec

abbrev pub tree_line : List ℕ → List (List ℕ) → List ℕ
tree_line tree specs = codes "tree " ++ (tree ++ flat_map spec_word specs)

-- the branches of a tree that is made, if it has so many and they are plain
abbrev pub branches_made : ℕ → Command → Option (List BranchDef)
branches_made count (MakeTree name branches) = some_if (length branches == count && are_plain branches) branches
branches_made count other = None

-- a branch for each SPEC
abbrev pub specs_of : List ℕ → List (List ℕ) → Option (List BranchDef)
specs_of tree specs = if list_any has_blank specs then None else branches_made (length specs) (line_command 1 (tree_line tree specs))

-- ---- TREE EVERY SPEC..

abbrev pub import_by : List ℕ → ℕ → Option (List BranchDef) → Option ImportWords
import_by tree every branches = option_map (λ bs. record { tree = tree; every = every; branches = bs }) branches

-- EVERY is at most 1,000,000
abbrev pub import_of : List (List ℕ) → Option ImportWords
import_of (tree ∷ every ∷ specs) =
    if is_item_text tree then option_and_then (λ n. import_by tree n (specs_of tree specs)) (num_between_of 0 1000000 every) else None
import_of _ = None

-- ---- N

-- from 1 to 1,000,000
abbrev pub gen_of : List (List ℕ) → Option ℕ
gen_of (n ∷ []) = num_between_of 1 1000000 n
gen_of _ = None

-- ---- law

-- what a line of the script can state, and leaves of one value each
pub record IsImport (words : ImportWords) : Type 0 where
  pub tree : is_item_text words.tree ≡ true
  pub branches : are_stated_branches words.branches ≡ true
  pub plain : are_plain words.branches ≡ true

abbrev pub ImportsAreStated : Type 0
ImportsAreStated = (args : List (List ℕ)) (words : ImportWords) → import_of args ≡ Some words → IsImport words
