-- The texts of a row's values, branch after branch.
use Rattle.std.proofs.Common.{◌≡◌, ◌++◌, ◌+◌, ◌<◌, ◌≤◌, ℕ, List, [], ◌∷◌, codes, Bool, true, false, cond, Option, Some, None, length, drop, get_or, refl, sym, ap, ◌∙◌, append_assoc}
use Rattle.std.proofs.lemmas.List.{drop_all}
use Rattle.std.specs.List.{flat_map}
use Rattle.rio_model.specs.{Lists.{separated}, ValueText.{text_of_value}}
use Rattle.rio_tree.specs.{declared.head.Branch.{Branch}, declared.refusal.BranchRefusal.{BranchRefusal}}
use Rattle.rio_format.specs.declared.value.Value.{Value}
use Rattle.rio_entry.specs.BranchRows.{read_values}
use Rattle.rio_report.specs.Scan.{refused_line, refused_lines}
use Rattle.rio_report.specs.RowTexts.{first_after, values_behind, values_unrefused}
use Rattle.rio_entry.proofs.Left.{any_default, left}

abbrev Separated : List Value → List ℕ
Separated vs = flat_map (λ v. codes ", " ++ text_of_value v) vs

behind_is : (vs : List Value) → values_behind false vs ≡ Separated vs
behind_is [] = refl
behind_is (v ∷ vs) = ap (λ (l : List ℕ). codes ", " ++ text_of_value v ++ l) (behind_is vs)

-- the texts of all values of a row
pub first_is : (vs : List Value) → values_behind true vs ≡ separated text_of_value vs
first_is [] = refl
first_is (v ∷ vs) = ap (λ (l : List ℕ). text_of_value v ++ l) (behind_is vs)

again : (vs : List Value) → first_after false vs ≡ false
again [] = refl
again (w ∷ rest) = refl

pub behind_append : (first : Bool) (vs ws : List Value) → values_behind first (vs ++ ws) ≡ values_behind first vs ++ values_behind (first_after first vs) ws
behind_append first [] ws = refl
behind_append first (v ∷ vs) ws =
    let front = cond first [] (codes ", ") ++ text_of_value v in
    ap (λ (l : List ℕ). front ++ l) (behind_append false vs ws ∙ ap (λ (c : Bool). values_behind false vs ++ values_behind c ws) (again vs))
    ∙ sym (append_assoc front (values_behind false vs) (values_behind false ws))

-- ---- the values of one branch more

values_one : (r : Option BranchRefusal) (rs : List (Option BranchRefusal)) (vs : List Value) (row : List (List Value)) → read_values (r ∷ rs) (vs ∷ row) ≡ values_unrefused r vs ++ read_values rs row
values_one None rs vs row = refl
values_one (Some x) rs vs row = refl

pub read_more : (rs : List (Option BranchRefusal)) (row : List (List Value)) (k : ℕ) (d : Option BranchRefusal) (vs : List Value) → k < length rs → k < length row → vs ≡ get_or row k vs
    → read_values (drop k rs) (drop k row) ≡ values_unrefused (get_or rs k d) vs ++ read_values (drop (k + 1) rs) (drop (k + 1) row)
read_more rs row k d vs lt low are =
    rw (left rs k (get_or rs k d) lt (any_default rs k d (get_or rs k d) lt), left row k vs low are)
    (values_one (get_or rs k d) (drop (k + 1) rs) vs (drop (k + 1) row))

pub values_more : (rs : List (Option BranchRefusal)) (row : List (List Value)) (k : ℕ) (r : Option BranchRefusal) (vs : List Value) → k < length rs → r ≡ get_or rs k r → k < length row → vs ≡ get_or row k vs
    → (first : Bool) → values_behind first (read_values (drop k rs) (drop k row)) ≡ values_behind first (values_unrefused r vs) ++ values_behind (first_after first (values_unrefused r vs)) (read_values (drop (k + 1) rs) (drop (k + 1) row))
values_more rs row k r vs lt is low are first =
    rw (left rs k r lt is, left row k vs low are)
    (ap (values_behind first) (values_one r (drop (k + 1) rs) vs (drop (k + 1) row)) ∙ behind_append first (values_unrefused r vs) (read_values (drop (k + 1) rs) (drop (k + 1) row)))

pub values_more_at : (rs : List (Option BranchRefusal)) (row : List (List Value)) (k : ℕ) (d : Option BranchRefusal) (vs : List Value) → k < length rs → k < length row → vs ≡ get_or row k vs
    → (first : Bool) → values_behind first (read_values (drop k rs) (drop k row)) ≡ values_behind first (values_unrefused (get_or rs k d) vs) ++ values_behind (first_after first (values_unrefused (get_or rs k d) vs)) (read_values (drop (k + 1) rs) (drop (k + 1) row))
values_more_at rs row k d vs lt low are first = values_more rs row k (get_or rs k d) vs lt (any_default rs k d (get_or rs k d) lt) low are first

pub values_end : (rs : List (Option BranchRefusal)) (row : List (List Value)) (k : ℕ) → length rs ≤ k → (first : Bool) → values_behind first (read_values (drop k rs) (drop k row)) ≡ []
values_end rs row k le first = rw (drop_all k rs le) refl

-- ---- the line of one branch more

pub lines_more : (bs : List Branch) (rs : List (Option BranchRefusal)) (k : ℕ) (b : Branch) (r : Option BranchRefusal) → k < length bs → b ≡ get_or bs k b → k < length rs → r ≡ get_or rs k r
    → refused_lines (drop k bs) (drop k rs) ≡ refused_line b r ++ refused_lines (drop (k + 1) bs) (drop (k + 1) rs)
lines_more bs rs k b r lt is low are = rw (left bs k b lt is, left rs k r low are) refl
