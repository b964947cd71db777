-- Rows in the forms that are asked, and why they can't be had, computed.
use Rattle.std.proofs.Common.{◌≡◌, ℕ, [], ◌∷◌, pos, true, false, List, Option, Some, None, codes, refl}
use Rattle.std.specs.Fmt.{digits}
use Rattle.rio_format.specs.{declared.class.Base.{Base}, declared.class.ClassDef.{ClassDef}, declared.value.Value.{Value}}
use Rattle.rio_machine.specs.declared.refusal.Refusal.TheVariants.{NoSuchClass, NoVersion}
use Rattle.rio_tree.specs.{declared.head.Branch.{Branch}, declared.refusal.BranchRefusal.{BranchRefusal}}
use Rattle.rio_report.specs.{RowForms.{numbered_row, row_form, rows_refusal}, Scan.{count_line, refused_or, row_line}}
use Rattle.rio_entry.specs.BranchRows.{row_at}

abbrev point : ClassDef
point = record { name = codes "P"; version = pos 1; sum = 0; bases = []; members = [] }

abbrev classes : List ClassDef
classes = point ∷ []

abbrev in_version : ℕ → Base
in_version n = record { name = codes "P"; version = pos n }

-- without a class all rows are had as they are
none_asked : (rows : List (List Value)) → rows_refusal classes None rows ≡ None
unfolding rows_refusal
none_asked rows = refl

plain_line : (file : List ℕ) (branches : List Branch) (refused : List (Option BranchRefusal)) (e : ℕ)
    → row_line (row_form None false) file classes branches refused e ≡ numbered_row e (row_at file classes branches refused e)
plain_line file branches refused e = refl

-- a class that the file doesn't describe, built in or not
unknown_class : rows_refusal [] (Some (in_version 1)) [] ≡ Some NoSuchClass
unfolding rows_refusal
unknown_class = refl

built_in_class : rows_refusal classes (Some (record { name = codes "TNamed"; version = pos 1 })) [] ≡ Some NoSuchClass
unfolding rows_refusal
built_in_class = refl

-- without rows the version is looked at all the same
no_version : rows_refusal classes (Some (in_version 2)) [] ≡ Some NoVersion
unfolding rows_refusal
no_version = refl

known_version : rows_refusal classes (Some (in_version 1)) [] ≡ None
unfolding rows_refusal
known_version = refl

rows_without_values : rows_refusal classes (Some (in_version 2)) ([] ∷ [] ∷ []) ≡ Some NoVersion
unfolding rows_refusal
rows_without_values = refl

-- CSV has no line of the number of entries
no_count : count_line true (codes "T") 12 ≡ []
no_count = refl

-- a refusal stands in place of all rows
refused_instead : refused_or (Some NoVersion) (codes "ok scan T 0\n") ≡ codes "no 14 NoVersion\n"
unfolding digits
refused_instead = refl
