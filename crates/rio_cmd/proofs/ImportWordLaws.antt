-- What an import is asked for can be stated in a script.
use Rattle.std.proofs.Common.{◌≡◌, ◌&&◌, ◌==◌, ℕ, List, [], ◌∷◌, length, Bool, true, false, Option, Some, None, Ok, Err, refl, ap, subst}
use Rattle.std.proofs.lemmas.Bool.{and_parts}
use Rattle.std.specs.{List.{list_any}, Option.{option_and_then}, Prelude.{if◌then◌else◌}}
use Rattle.rio_num.specs.Word.{is_item_text}
use Rattle.rio_token.specs.{declared.fault.TextFault.TheVariants.{BadText, NoMemory}, Reading.{Read, some_if}, Tokens.{standing_in}, Words.{num_between_of}}
use Rattle.rio_leaf.specs.{declared.branch.BranchDef.{BranchDef}, Stated.{are_stated_branches}}
use Rattle.rio_machine.specs.declared.command.Command.{Command, TheVariants.{Tree as MakeTree}}
use Rattle.rio_model.specs.{Lexemes.{Lexeme}, ValueGrammar.{bracket_limit}}
use Rattle.rio_step.proofs.{CommandTells.{read_commands_are_spelled}, TreeLaws.{branches_stated}}
use Rattle.rio_step.specs.{CommandSpelling.{SpellsCommand}, Script.{command_at, line_command, or_bad_line}}
use Rattle.rio_cmd.specs.ImportWords.{ImportsAreStated, IsImport, are_plain, branches_made, has_blank, import_by, specs_of, tree_line}
use Rattle.rio_cmd.specs.declared.import_words.ImportWords.{ImportWords}

spelled_tree : (c : Command) (name : List ℕ) (branches : List BranchDef) (ls : List Lexeme) → c ≡ MakeTree name branches → SpellsCommand bracket_limit c ls
    → are_stated_branches branches ≡ true
spelled_tree c name branches ls is spells =
    let d = subst (λ (k : Command). SpellsCommand bracket_limit k ls) is spells in
    branches_stated branches d.0 d.3

line_tree : (line name : List ℕ) (branches : List BranchDef) → line_command 1 line ≡ MakeTree name branches → are_stated_branches branches ≡ true
unfolding line_command
line_tree line name branches h = by (command_at (standing_in 0 line)) refl h
  where
    by : (r : Read Command) → command_at (standing_in 0 line) ≡ r → or_bad_line 1 r ≡ MakeTree name branches → are_stated_branches branches ≡ true
    by (Ok x) is e = let k = read_commands_are_spelled x.0 (standing_in 0 line) x.1 is in spelled_tree x.0 name branches k.0 e k.1
    by (Err (BadText place)) is e = absurd cc
    by (Err NoMemory) is e = absurd cc

some_if_is : {A : Type 0} (b : Bool) (x y : A) → some_if b x ≡ Some y → (b ≡ true) × (x ≡ y)
some_if_is true x y h = (refl, cc)
some_if_is false x y h = absurd cc

made_is : (count : ℕ) (c : Command) (bs : List BranchDef) → branches_made count c ≡ Some bs → (name : List ℕ) × (c ≡ MakeTree name bs) × (are_plain bs ≡ true)
made_is count (MakeTree name branches) bs h =
    let p = some_if_is (length branches == count && are_plain branches) branches bs h in
    let plain = (and_parts (length branches == count) (are_plain branches) p.0).1 in
    (name, ap (MakeTree name) p.1, subst (λ (k : List BranchDef). are_plain k ≡ true) p.1 plain)
made_is count other bs h = absurd cc

specs_stated : (tree : List ℕ) (specs : List (List ℕ)) (bs : List BranchDef) → specs_of tree specs ≡ Some bs
    → (are_stated_branches bs ≡ true) × (are_plain bs ≡ true)
specs_stated tree specs bs h = by (list_any has_blank specs) h
  where
    by : (b : Bool) → (if b then None else branches_made (length specs) (line_command 1 (tree_line tree specs))) ≡ Some bs
        → (are_stated_branches bs ≡ true) × (are_plain bs ≡ true)
    by true e = absurd cc
    by false e = let m = made_is (length specs) (line_command 1 (tree_line tree specs)) bs e in (line_tree (tree_line tree specs) m.0 bs m.1, m.2)

import_stated : (tree : List ℕ) (every : ℕ) (specs : List (List ℕ)) (words : ImportWords) → is_item_text tree ≡ true
    → import_by tree every (specs_of tree specs) ≡ Some words → IsImport words
import_stated tree every specs words item h = by (specs_of tree specs) refl h
  where
    by : (o : Option (List BranchDef)) → specs_of tree specs ≡ o → import_by tree every o ≡ Some words → IsImport words
    by None is e = absurd cc
    by (Some bs) is e =
        let of : ◌≡◌ {A = ImportWords} (record { tree = tree; every = every; branches = bs }) words = cc in
        let stated = specs_stated tree specs bs is in
        subst IsImport of (record { tree = item; branches = stated.0; plain = stated.1 })

pub imports_are_stated : ImportsAreStated
imports_are_stated [] words h = absurd cc
imports_are_stated (tree ∷ []) words h = absurd cc
imports_are_stated (tree ∷ every ∷ specs) words h = by (is_item_text tree) refl (num_between_of 0 1000000 every) h
  where
    by : (b : Bool) → is_item_text tree ≡ b → (o : Option ℕ)
        → (if b then option_and_then (λ n. import_by tree n (specs_of tree specs)) o else None) ≡ Some words → IsImport words
    by false is o e = absurd cc
    by true is None e = absurd cc
    by true is (Some n) e = import_stated tree n specs words is e
