-- What is said of a key of a tree.
use Rattle.std.proofs.Common.{◌≡◌, ◌++◌, ℕ, List, codes, true, false, Ok, Err, Option, refl, ap, ◌∙◌}
use Rattle.rio_format.specs.declared.class.ClassDef.{ClassDef}
use Rattle.rio_key.specs.{declared.head.KeyHead.{KeyHead}, Key.{is_compressed}}
use Rattle.rio_tree.specs.{declared.head.TreeHead.{TreeHead}, declared.head.Branch.{Branch}, declared.refusal.BranchRefusal.{BranchRefusal}}
use Rattle.rio_report.specs.Dump.{stored_tree}
use Rattle.rio_machine.specs.declared.refusal.Refusal.{Refusal}
use Rattle.rio_entry.specs.{BranchRows.{rows_of}, Refusals.{refusals_of}}
use Rattle.rio_report.specs.{RowForms.{RowForm, rows_refusal}}
use Rattle.rio_report.specs.{Scan.{count_line, key_scan, lines_refusing, refused_lines, refused_or, row_lines, tree_lines, unread_line}}

module _ (form : RowForm) (file : List ℕ) (classes : List ClassDef) (key : KeyHead) where
  pub key_compressed : is_compressed key ≡ true → key_scan form file classes key ≡ unread_line key (codes "compressed")
  key_compressed is = rw is refl

  pub key_read : (head : TreeHead) → is_compressed key ≡ false → stored_tree file classes key ≡ Ok head → key_scan form file classes key ≡ tree_lines form file classes key.name head
  key_read head is found = rw (is, found) refl

  pub key_unread : (text : List ℕ) → is_compressed key ≡ false → stored_tree file classes key ≡ Err text → key_scan form file classes key ≡ unread_line key text
  key_unread text is found = rw (is, found) refl

-- the lines of a tree, where these are its refusals, and this is why its rows can't be had
pub lines_gathered : (form : RowForm) (file : List ℕ) (classes : List ClassDef) (name : List ℕ) (head : TreeHead) (bs : List Branch) (rs other : List (Option BranchRefusal)) (why : Option Refusal) (text : List ℕ)
    → bs ≡ head.branches → other ≡ rs → rs ≡ refusals_of file classes head.entries bs → why ≡ rows_refusal classes form.class (rows_of file classes bs rs head.entries) → text ≡ refused_lines bs other
    → text ++ refused_or why (count_line form.csv name head.entries ++ row_lines form file classes bs rs head.entries) ≡ tree_lines form file classes name head
unfolding tree_lines
lines_gathered form file classes name head bs rs other why text same copy are refused front =
    let rest : List Branch → List (Option BranchRefusal) → Option Refusal → List ℕ = λ ds ts o. refused_or o (count_line form.csv name head.entries ++ row_lines form file classes ds ts head.entries) in
    let all : List Branch → List (Option BranchRefusal) → Option Refusal = λ ds ts. rows_refusal classes form.class (rows_of file classes ds ts head.entries) in
    ap (λ (l : List ℕ). l ++ rest bs rs why) front
    ∙ ap (λ (ts : List (Option BranchRefusal)). refused_lines bs ts ++ rest bs rs why) copy
    ∙ ap (λ (o : Option Refusal). refused_lines bs rs ++ rest bs rs o) refused
    ∙ ap (λ (ds : List Branch). refused_lines ds rs ++ rest ds rs (all ds rs)) same
    ∙ ap (λ (ts : List (Option BranchRefusal)). lines_refusing form ts file classes name head) (are ∙ ap (refusals_of file classes head.entries) same)
