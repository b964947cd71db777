-- The line of a summary, put together in parts.
use Rattle.std.proofs.Common.{◌≡◌, ◌++◌, ◌∙◌, [], List, ℕ, Result, Ok, Err, sym, ap, append_assoc}
use Rattle.std.specs.Result.{OnOk}
use Rattle.rio_num.specs.{Room.{Appends, Room, with_more}, declared.no_memory.NoMemory.{NoMemory}}

-- a number between two texts, and another one, a third one and a line end
pub line_joined : (old one two three whole a b c d e f g : List ℕ) → one ≡ old ++ (a ++ (b ++ c)) → two ≡ one ++ ([] ++ (d ++ e)) → three ≡ two ++ f → whole ≡ three ++ g
    → whole ≡ old ++ (a ++ b ++ c ++ d ++ e ++ f ++ g)
line_joined old one two three whole a b c d e f g p q r s =
    let front = a ++ b ++ c in
    let first : one ≡ old ++ front = p ∙ ap (λ (l : List ℕ). old ++ l) (sym (append_assoc a b c)) in
    let second : two ≡ old ++ (front ++ d ++ e) =
    q ∙ ap (λ (l : List ℕ). l ++ (d ++ e)) first ∙ append_assoc old front (d ++ e) ∙ ap (λ (l : List ℕ). old ++ l) (sym (append_assoc front d e)) in
    let third : three ≡ old ++ (front ++ d ++ e ++ f) = r ∙ ap (λ (l : List ℕ). l ++ f) second ∙ append_assoc old (front ++ d ++ e) f in
    s ∙ ap (λ (l : List ℕ). l ++ g) third ∙ append_assoc old (front ++ d ++ e ++ f) g

-- what follows where more stands at the end
pub appended : {P : Type 0} (old new : Room) (more : List ℕ) (r : Result (Unit {0}) NoMemory) → (new ≡ with_more old more → P) → Appends old new more r → OnOk r P
appended old new more (Ok x) f a = f a
appended old new more (Err e) f a = tt
