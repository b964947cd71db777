-- The form of the words of the command line.
use Rattle.std.specs.Prelude.{◌≤◌, ℕ, ◌+◌, ℤ, pos, List, [], ◌∷◌, length, take, drop, codes, Option, Some, None, option_map, option_and_then, Bool, true, false, not, nat_le, position, ◌==◌, ◌&&◌, ◌||◌, if◌then◌else◌}
use Rattle.std.specs.{List.{list_all}, Str.{bytes_eq}}
use Rattle.rio_num.specs.Word.{is_item_text, is_name_text}
use Rattle.rio_cmd.specs.ImportWords.{IsImport, gen_of, import_of}
use Rattle.rio_token.specs.Words.{num_between_of, num_of}
use Rattle.rio_format.specs.declared.class.Base.{Base}
use Rattle.rio_report.specs.declared.item.Item.{Item}
use Rattle.rootio.specs.{declared.words.Form.{Form, TheVariants.{Reads, Writes}}, declared.words.Listing.TheVariants.{Ls, Dump, Scan, Export}}
use Rattle.rootio.specs.{declared.words.Work.{Work, TheVariants.{Run, Recover, Import, Generate}}, Target.{TargetFile}}

-- a word that doesn't begin with -
abbrev pub is_no_flag : List ℕ → Bool
is_no_flag [] = true
is_no_flag (b ∷ bs) = not (b == 45)

-- a word that can name a file: 1 to 200 bytes, none below 0x20
abbrev pub is_file : List ℕ → Bool
is_file word = is_no_flag word && not (length word == 0) && nat_le (length word) 200 && list_all (nat_le 32) word

-- an item of this name, which is the greatest cycle
abbrev pub newest_item : List ℕ → Option Item
newest_item name = if is_item_text name then Some (record { name = name; cycle = None }) else None

-- an item of this name and cycle
abbrev pub cycle_item : List ℕ → List ℕ → Option Item
cycle_item name cycle = if is_item_text name then option_map (λ n. record { name = name; cycle = Some n }) (num_of cycle) else None

-- the name of an item alone, or with a semicolon and its cycle behind it
abbrev pub item_by : List ℕ → Option ℕ → Option Item
item_by word None = newest_item word
item_by word (Some semicolon) = cycle_item (take semicolon word) (drop (semicolon + 1) word)

abbrev pub item_of : List ℕ → Option Item
item_of word = item_by word (position (λ b. b == 59) word)

-- a class version: 1 to 32,767
abbrev pub version_of : List ℕ → Option ℤ
version_of word = option_map pos (num_between_of 1 32767 word)

-- a class of this name in this version
abbrev pub class_in_version : List ℕ → List ℕ → Option Base
class_in_version name version = if is_name_text name then option_map (λ v. record { name = name; version = v }) (version_of version) else None

-- the name of a class, and its version behind a number sign
abbrev pub class_by : List ℕ → Option ℕ → Option Base
class_by word None = None
class_by word (Some sign) = class_in_version (take sign word) (drop (sign + 1) word)

abbrev pub class_of : List ℕ → Option Base
class_of word = class_by word (position (λ b. b == 35) word)

-- ls FILE
abbrev pub ls_of : List (List ℕ) → Option Form
ls_of [] = Some (Reads Ls)
ls_of (word ∷ words) = None

-- dump FILE, dump FILE ITEM
abbrev pub dump_of : List (List ℕ) → Option Form
dump_of [] = Some (Reads (Dump None))
dump_of (item ∷ []) = option_map (λ i. Reads (Dump (Some i))) (item_of item)
dump_of (item ∷ word ∷ words) = None

-- the name of a tree
abbrev pub tree_of : List ℕ → Option (List ℕ)
tree_of name = if is_item_text name then Some name else None

-- scan FILE TREE, scan FILE TREE CLASS#VERSION
abbrev pub scan_of : List ℕ → Option Form
scan_of tree = option_map (λ t. Reads (Scan t None)) (tree_of tree)

abbrev pub scan_in_version : List ℕ → List ℕ → Option Form
scan_in_version tree class = option_and_then (λ t. option_map (λ c. Reads (Scan t (Some c))) (class_of class)) (tree_of tree)

abbrev pub scan_of_words : List (List ℕ) → Option Form
scan_of_words [] = None
scan_of_words (tree ∷ []) = scan_of tree
scan_of_words (tree ∷ class ∷ []) = scan_in_version tree class
scan_of_words (tree ∷ class ∷ word ∷ words) = None

-- export FILE TREE
abbrev pub export_of : List (List ℕ) → Option Form
export_of [] = None
export_of (tree ∷ []) = option_map (λ t. Reads (Export t)) (tree_of tree)
export_of (tree ∷ word ∷ words) = None

-- FILE, FILE DATIME
abbrev pub target_by : List ℕ → List (List ℕ) → Option TargetFile
target_by file [] = Some (record { name = file; datime = 1 })
target_by file (datime ∷ []) = option_map (λ n. record { name = file; datime = n }) (num_of datime)
target_by file (datime ∷ word ∷ words) = None

-- run FILE, run FILE DATIME
abbrev pub run_of : List ℕ → List (List ℕ) → Option Form
run_of file args = option_map (λ target. Writes (Run target)) (target_by file args)

-- recover FILE, recover FILE DATIME
abbrev pub recover_of : List ℕ → List (List ℕ) → Option Form
recover_of file args = option_map (λ target. Writes (Recover target)) (target_by file args)

-- a file without a datime behind it
abbrev pub target_at_1 : List ℕ → TargetFile
target_at_1 file = record { name = file; datime = 1 }

-- import FILE TREE EVERY SPEC...
abbrev pub import_of_words : List ℕ → List (List ℕ) → Option Form
import_of_words file args = option_map (λ words. Writes (Import (target_at_1 file) words)) (import_of args)

-- gen FILE N
abbrev pub gen_of_words : List ℕ → List (List ℕ) → Option Form
gen_of_words file args = option_map (λ entries. Writes (Generate (target_at_1 file) entries)) (gen_of args)

-- what a verb is asked for by the file and the words behind it
abbrev pub asked_by : List ℕ → List ℕ → List (List ℕ) → Option Form
asked_by verb file args =
    if bytes_eq verb (codes "ls") then ls_of args
    else if bytes_eq verb (codes "dump") then dump_of args
    else if bytes_eq verb (codes "scan") then scan_of_words args
    else if bytes_eq verb (codes "export") then export_of args
    else if bytes_eq verb (codes "run") then run_of file args
    else if bytes_eq verb (codes "recover") then recover_of file args
    else if bytes_eq verb (codes "import") then import_of_words file args
    else if bytes_eq verb (codes "gen") then gen_of_words file args
    else None

-- VERB FILE ARG..., where neither FILE nor an ARG begins with -
abbrev pub form_of_words : List (List ℕ) → Option Form
form_of_words (verb ∷ file ∷ args) = if is_file file && list_all is_no_flag args then asked_by verb file args else None
form_of_words _ = None

-- What is asked for by words that have a form: of an import what a line of a script can state, of a generated file 1 to 1,000,000
-- entries.
abbrev pub IsAsked : Work → Type 0
IsAsked (Run target) = Unit {0}
IsAsked (Recover target) = Unit {0}
IsAsked (Import target words) = IsImport words
IsAsked (Generate target entries) = (1 ≤ entries) × (entries ≤ 1000000)

-- ---- by the verb alone

-- the words ask for an import, of whatever form they are
abbrev pub are_of_import : List (List ℕ) → Bool
are_of_import [] = false
are_of_import (verb ∷ words) = bytes_eq verb (codes "import")

-- the verbs that write
abbrev pub is_writing_verb : List ℕ → Bool
is_writing_verb verb =
    bytes_eq verb (codes "run") || bytes_eq verb (codes "recover") || bytes_eq verb (codes "import") || bytes_eq verb (codes "gen")

-- whether the file may be written, by the verb alone
abbrev pub may_write : List (List ℕ) → Bool
may_write [] = false
may_write (verb ∷ words) = is_writing_verb verb
