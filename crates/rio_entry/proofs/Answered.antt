-- What is written, or why nothing is.
use Rattle.std.proofs.Common.{◌≡◌, ℕ, ◌<◌, ◌≤◌, Bool, true, false, cond, ltb, List, length, Result, Ok, Err, refl, ap, ◌∙◌}
use Rattle.std.proofs.lemmas.Bool.{le-ltb, lt-ltb, ltb-false}
use Rattle.rio_num.proofs.ReadLaws.{ok_is}
use Rattle.rio_leaf.specs.declared.branch.Shape.{Shape}
use Rattle.rio_format.specs.{WrittenBytes.{length_limit}, declared.class.ClassDef.{ClassDef}, declared.value.Value.{Value}}
use Rattle.rio_entry.specs.Entries.{branch_entry_bytes, entry_fits, entry_written, within_limit}
use Rattle.rio_machine.specs.declared.entry_fault.EntryFault.{EntryFault, TheVariants.{BadRow, TooLarge}}

abbrev Written : Type 0
Written = Result (List ℕ) EntryFault

module _ (classes : List ClassDef) (shape : Shape) (counts row : List Value) where
  pub unfit : entry_fits classes shape counts row ≡ false → entry_written classes shape counts row ≡ Err BadRow
  unfit e = ap (λ (b : Bool). cond b (within_limit (branch_entry_bytes classes shape counts row)) (Err BadRow)) e

  fitting : entry_fits classes shape counts row ≡ true → (bytes : List ℕ) → branch_entry_bytes classes shape counts row ≡ bytes → entry_written classes shape counts row ≡ within_limit bytes
  fitting e bytes same = ap (λ (b : Bool). cond b (within_limit (branch_entry_bytes classes shape counts row)) (Err BadRow)) e ∙ ap within_limit same

  pub too_long : entry_fits classes shape counts row ≡ true → (bytes : List ℕ) → branch_entry_bytes classes shape counts row ≡ bytes → length_limit < length bytes → entry_written classes shape counts row ≡ Err TooLarge
  too_long e bytes same long = fitting e bytes same ∙ ap (λ (b : Bool). let r : Written = cond b (Err TooLarge) (Ok bytes) in r) (lt-ltb _ _ long)

  pub written : entry_fits classes shape counts row ≡ true → (bytes : List ℕ) → branch_entry_bytes classes shape counts row ≡ bytes → length bytes ≤ length_limit → entry_written classes shape counts row ≡ Ok bytes
  written e bytes same short = fitting e bytes same ∙ ap (λ (b : Bool). let r : Written = cond b (Err TooLarge) (Ok bytes) in r) (le-ltb _ _ short)

  -- what was written fits, isn't too long, and is those bytes
  pub what_is_written : (bytes : List ℕ) → entry_written classes shape counts row ≡ Ok bytes → (entry_fits classes shape counts row ≡ true) × (length (branch_entry_bytes classes shape counts row) ≤ length_limit) × (branch_entry_bytes classes shape counts row ≡ bytes)
  what_is_written bytes e = by (entry_fits classes shape counts row) refl e
    where
      short : (b : Bool) → ltb length_limit (length (branch_entry_bytes classes shape counts row)) ≡ b → (let r : Written = cond b (Err TooLarge) (Ok (branch_entry_bytes classes shape counts row)) in r) ≡ Ok bytes → (length (branch_entry_bytes classes shape counts row) ≤ length_limit) × (branch_entry_bytes classes shape counts row ≡ bytes)
      short true long g = absurd cc
      short false le g = (ltb-false _ _ le, ok_is {E = EntryFault} (branch_entry_bytes classes shape counts row) bytes g)

      by : (b : Bool) → entry_fits classes shape counts row ≡ b → (let r : Written = cond b (within_limit (branch_entry_bytes classes shape counts row)) (Err BadRow) in r) ≡ Ok bytes → (entry_fits classes shape counts row ≡ true) × (length (branch_entry_bytes classes shape counts row) ≤ length_limit) × (branch_entry_bytes classes shape counts row ≡ bytes)
      by false fit g = absurd cc
      by true fit g = let rest = short (ltb length_limit (length (branch_entry_bytes classes shape counts row))) refl g in (fit, rest.0, rest.1)
