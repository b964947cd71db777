-- Names that are compared.
use Rattle.std.proofs.{Common.{◌≡◌, ℕ, List, Bool, true, cond, ◌||◌, ap, ◌∙◌, nat_cmp}, lemmas.Map.Text.{is_eq-slice_cmp}}
use Rattle.std.specs.{Cmp.Lexicographic.{slice_cmp}, Ordering.{is_eq}, Str.{bytes_eq}}
use Rattle.rio_num.proofs.{BytesEq.{bytes_eq-sym}, NameSets.{cond_or}}

-- a set of names after one was put into it
pub is_new_or : (name new : List ℕ) (b : Bool) → cond (is_eq (slice_cmp nat_cmp new name)) true b ≡ (bytes_eq name new || b)
is_new_or name new b =
    ap (λ (p : Bool). cond p true b) (is_eq-slice_cmp new name ∙ bytes_eq-sym new name) ∙ cond_or (bytes_eq name new) b
