-- The rows of a filler in its units and in its open one, by a log.
use Rattle.std.proofs.Common.{◌≡◌, ◌∙◌, ℕ, Bool, true, false, cond, List, [], ◌∷◌, ◌++◌, refl, ap, sym}
use Rattle.std.proofs.lemmas.{Bool.{eqb-true}, List.{append-nil, append_assoc}}
use Rattle.std.specs.List.{filter, flat_map}
use Rattle.std.specs.Prelude.{◌==◌}
use Rattle.rio_queue.specs.Steps.{Row}
use Rattle.rio_queue.specs.Logs.{Log, UnitsKeepRows, handed_in, row_in, rows_added, rows_of_units, rows_since, rows_with, unit_handed}
use Rattle.rio_queue.specs.declared.steps.Step.{Step, TheVariants.{Add, Hand, Take}}
use Rattle.rio_queue.specs.declared.steps.StepReply.{StepReply, TheVariants.{Added, Handed, Taken, Refused}}
use Rattle.rio_queue.specs.declared.steps.Unit.{Unit as RowUnit}

-- one unit more
units_more : (filler : ℕ) (units : List RowUnit) (u : RowUnit) → rows_of_units filler (units ++ u ∷ []) ≡ rows_of_units filler units ++ cond (u.filler == filler) u.rows []
units_more filler [] u = by (u.filler == filler)
  where
    by : (b : Bool) → flat_map (λ (v : RowUnit). v.rows) (cond b (u ∷ []) []) ≡ cond b u.rows []
    by true = append-nil u.rows
    by false = refl
units_more filler (v ∷ vs) u = by (v.filler == filler) (units_more filler vs u)
  where
    by : (b : Bool) → rows_of_units filler (vs ++ u ∷ []) ≡ rows_of_units filler vs ++ cond (u.filler == filler) u.rows []
        → flat_map (λ (w : RowUnit). w.rows) (cond b (v ∷ filter (λ (w : RowUnit). w.filler == filler) (vs ++ u ∷ [])) (filter (λ (w : RowUnit). w.filler == filler) (vs ++ u ∷ [])))
        ≡ flat_map (λ (w : RowUnit). w.rows) (cond b (v ∷ filter (λ (w : RowUnit). w.filler == filler) vs) (filter (λ (w : RowUnit). w.filler == filler) vs)) ++ cond (u.filler == filler) u.rows []
    by true ih = ap (λ (l : List Row). v.rows ++ l) ih ∙ sym (append_assoc v.rows (rows_of_units filler vs) (cond (u.filler == filler) u.rows []))
    by false ih = ih

module _ (filler : ℕ) (earlier : Log) (kept : rows_of_units filler (handed_in earlier) ++ rows_since filler earlier ≡ rows_added filler earlier) where
  -- nothing is added or handed over
  nothing_more : rows_of_units filler (handed_in earlier ++ []) ++ rows_since filler earlier ≡ rows_added filler earlier ++ []
  nothing_more =
      ap (λ (l : List RowUnit). rows_of_units filler l ++ rows_since filler earlier) (append-nil (handed_in earlier))
      ∙ kept
      ∙ sym (append-nil (rows_added filler earlier))

  row_more : (row : Row) (b : Bool) → rows_of_units filler (handed_in earlier ++ []) ++ cond b (rows_since filler earlier ++ row ∷ []) (rows_since filler earlier) ≡ rows_added filler earlier ++ cond b (row ∷ []) []
  row_more row true =
      ap (λ (l : List RowUnit). rows_of_units filler l ++ (rows_since filler earlier ++ row ∷ [])) (append-nil (handed_in earlier))
      ∙ sym (append_assoc (rows_of_units filler (handed_in earlier)) (rows_since filler earlier) (row ∷ []))
      ∙ ap (λ (l : List Row). l ++ row ∷ []) kept
  row_more row false = nothing_more

  unit_more : (u : RowUnit) → u.rows ≡ rows_since u.filler earlier → (b : Bool) → (u.filler == filler) ≡ b
      → rows_of_units filler (handed_in earlier ++ u ∷ []) ++ cond b [] (rows_since filler earlier) ≡ rows_added filler earlier ++ []
  unit_more u rows true same =
      append-nil (rows_of_units filler (handed_in earlier ++ u ∷ []))
      ∙ units_more filler (handed_in earlier) u
      ∙ ap (λ (c : Bool). rows_of_units filler (handed_in earlier) ++ cond c u.rows []) same
      ∙ ap (λ (l : List Row). rows_of_units filler (handed_in earlier) ++ l) (rows ∙ ap (λ (k : ℕ). rows_since k earlier) (eqb-true u.filler filler same))
      ∙ kept
      ∙ sym (append-nil (rows_added filler earlier))
  unit_more u rows false differ =
      ap (λ (l : List Row). l ++ rows_since filler earlier) (units_more filler (handed_in earlier) u ∙ ap (λ (c : Bool). rows_of_units filler (handed_in earlier) ++ cond c u.rows []) differ ∙ append-nil (rows_of_units filler (handed_in earlier)))
      ∙ kept
      ∙ sym (append-nil (rows_added filler earlier))

  step_more : (step : Step) (reply : StepReply)
      → rows_of_units filler (handed_in earlier ++ unit_handed step reply earlier) ++ rows_with filler step reply (rows_since filler earlier)
      ≡ rows_added filler earlier ++ row_in filler step reply
  step_more (Add other row) (Added n) = row_more row (other == filler)
  step_more (Add other row) (Handed n) = nothing_more
  step_more (Add other row) (Taken unit) = nothing_more
  step_more (Add other row) (Refused n) = nothing_more
  step_more (Hand other) (Added n) = nothing_more
  step_more (Hand other) (Handed n) = unit_more _ refl (other == filler) refl
  step_more (Hand other) (Taken unit) = nothing_more
  step_more (Hand other) (Refused n) = nothing_more
  step_more Take (Added n) = nothing_more
  step_more Take (Handed n) = nothing_more
  step_more Take (Taken unit) = nothing_more
  step_more Take (Refused n) = nothing_more

pub units_keep_rows : UnitsKeepRows
units_keep_rows filler [] = refl
units_keep_rows filler (l ∷ earlier) = step_more filler earlier (units_keep_rows filler earlier) l.step l.reply
