-- Texts of whole lines.
use Rattle.std.proofs.Common.{◌≡◌, ℕ, List, [], ◌∷◌, ◌++◌, map, codes, Bool, true, false, if◌then◌else◌, Option, Some, None, refl, sym, ap, ◌∙◌, append_assoc}
use Rattle.csv.specs.Writing.{default_writer, is_blank, row_body}
use Rattle.std.specs.{List.{flat_map}, Fmt.{decimal}}
use Rattle.rio_num.specs.Printed.{item_text, name_text}
use Rattle.rio_format.specs.{declared.class.ClassDef.{ClassDef}, declared.value.Value.{Value, List as Items}}
use Rattle.rio_key.specs.declared.head.KeyHead.{KeyHead}
use Rattle.rio_model.specs.{ClassText.{text_of_class}, ValueText.{text_of_value}}
use Rattle.rio_tree.specs.{Texts.{branch_refusal_name}, declared.head.Branch.{Branch}, declared.refusal.BranchRefusal.{BranchRefusal}}
use Rattle.rio_report.specs.{Dump.{class_line, content_text, stored_line}, Gathered.{ends_line}}
use Rattle.rio_csv.specs.{Fields.{field_of}, Rows.{line_of}}
use Rattle.rio_report.specs.RowForms.{numbered_row, row_text}
use Rattle.rio_report.specs.Scan.{count_line, refused_line, refused_lines, scanned_count}

pub ends_both : (a b : List ℕ) → ends_line a ≡ true → ends_line b ≡ true → ends_line (a ++ b) ≡ true
ends_both [] b ends others = others
ends_both (x ∷ []) [] ends others = ends
ends_both (x ∷ []) (y ∷ b) ends others = others
ends_both (x ∷ y ∷ a) b ends others = ends_both (y ∷ a) b ends others

-- a line feed behind a text
ends_feed : (a : List ℕ) → ends_line (a ++ 10 ∷ []) ≡ true
ends_feed [] = refl
ends_feed (x ∷ []) = refl
ends_feed (x ∷ y ∷ a) = ends_feed (y ∷ a)

-- ---- lines of listings

pub class_ends : (class : ClassDef) → ends_line (class_line class) ≡ true
class_ends class = ends_feed (text_of_class class)

pub stored_ends : (file : List ℕ) (classes : List ClassDef) (key : KeyHead) → ends_line (stored_line file classes key) ≡ true
stored_ends file classes key = ends_feed (item_text key.name key.cycle ++ codes " " ++ content_text file classes key)

numbered_ends : (n : ℕ) (row : List Value) → ends_line (numbered_row n row) ≡ true
numbered_ends n row = ends_feed (decimal n ++ codes " " ++ text_of_value (Items row))

-- a line of CSV ends with a line feed behind its fields, and behind two quotes where they have no bytes
csv_ends : (row : List Value) → ends_line (line_of row) ≡ true
csv_ends row =
    let body = row_body default_writer (map field_of row) in
    let blank : List ℕ = if is_blank default_writer (map field_of row) then 34 ∷ 34 ∷ [] else [] in
    ap ends_line (sym (append_assoc body blank (10 ∷ []))) ∙ ends_feed (body ++ blank)

pub row_ends : (csv : Bool) (n : ℕ) (row : List Value) → ends_line (row_text csv n row) ≡ true
row_ends true n row = csv_ends row
row_ends false n row = numbered_ends n row

pub count_ends : (csv : Bool) (name : List ℕ) (n : ℕ) → ends_line (count_line csv name n) ≡ true
count_ends true name n = refl
count_ends false name n = ends_feed (codes "ok scan " ++ name_text name ++ codes " " ++ decimal n)

refusal_ends : (b : Branch) (r : Option BranchRefusal) → ends_line (refused_line b r) ≡ true
refusal_ends b None = refl
refusal_ends b (Some r) = ends_feed (codes "branch " ++ name_text b.def.name ++ codes " refused " ++ branch_refusal_name r)

pub refusals_end : (bs : List Branch) (rs : List (Option BranchRefusal)) → ends_line (refused_lines bs rs) ≡ true
refusals_end [] rs = refl
refusals_end (b ∷ bs) [] = refl
refusals_end (b ∷ bs) (r ∷ rs) = ends_both (refused_line b r) (refused_lines bs rs) (refusal_ends b r) (refusals_end bs rs)

-- and of a line for each
pub each_ends : {X : Type 0} (line : X → List ℕ) → ((x : X) → ends_line (line x) ≡ true) → (xs : List X) → ends_line (flat_map line xs) ≡ true
each_ends line ends [] = refl
each_ends line ends (x ∷ xs) = ends_both (line x) (flat_map line xs) (ends x) (each_ends line ends xs)
