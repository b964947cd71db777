-- What reading gives, told by what the bytes spell.
use Rattle.std.proofs.Common.{◌≡◌, ℕ, ◌+◌, ◌≤◌, ◌++◌, List, length, Ok, Err, sym, ap, ◌∙◌, arith}
use Rattle.rio_num.specs.{At.{end_place}, Meanings.{HasTaken, read, stand}, Answers.{FailsUnless}}
use Rattle.rio_num.proofs.Agree as Agree
use Rattle.rio_format.specs.{Frames.{ObjLayout, Step}, Reader.{MayTakeSpelled, TakesSpelled}, ReaderState.{ReaderState}, declared.fault.ObjFault.{ObjFault, TheVariants.{NoMemory}}}

module _ {X : Type 0} (l : ObjLayout X) (old : ReaderState) where
  -- what the bytes spell is read
  taken_is_read : (x : X) (behind : ReaderState) → HasTaken l old x behind → read l old ≡ Ok (x, behind)
  taken_is_read x behind t =
      let le : end_place old.at ≤ old.at.place + length (t.front ++ behind.at.rest) = omega (arith, ap length t.parts) in
      let again = Agree.spelled_is_read l (end_place old.at) old.at.place old.words x t.front behind.at.rest behind.words le t.spelled in
      ap (λ (rest : List ℕ). read l (stand old.at.place rest old.words)) t.parts ∙ again ∙ ap (λ (p : ℕ). let r : Step X = Ok (x, stand p behind.at.rest behind.words) in r) (sym t.place)

  pub is_taken : (y : X) (new : ReaderState) → read l old ≡ Ok (y, new) → TakesSpelled l (Ok y) old new
  is_taken y new e = record { takes = λ x behind t. sym (taken_is_read x behind t) ∙ e }

  pub is_refused : (d : ObjFault) (new : ReaderState) → read l old ≡ Err d → TakesSpelled l (Err d) old new
  is_refused d new e = record { takes = λ x behind t. let same : read l old ≡ Ok (x, behind) = taken_is_read x behind t in absurd cc }

  pub may_be_taken : (y : X) (new : ReaderState) → read l old ≡ Ok (y, new) → MayTakeSpelled l (Ok y) old new
  may_be_taken y new e = record { takes = λ x behind t. sym (taken_is_read x behind t) ∙ e }

  pub may_be_refused : (d : ObjFault) (new : ReaderState) → FailsUnless NoMemory d (read l old) → MayTakeSpelled l (Err d) old new
  may_be_refused d new e = record { takes = λ x behind t. λ ne. sym (taken_is_read x behind t) ∙ e ne }
