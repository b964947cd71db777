-- Tests that can refuse a command, one after the other: the first that gives a refusal stops it.
use Rattle.std.proofs.Common.{◌≡◌, List, [], ◌∷◌, ◌++◌, Bool, true, false, ◌||◌, Option, Some, None, refl, sym, ap, subst, ◌∙◌}
use Rattle.std.specs.Option.{option_or}
use Rattle.rio_machine.specs.declared.refusal.Refusal.{Refusal}
use Rattle.rio_step.specs.Refusing.{first_of, refused_if}
use Rattle.rio_judge.specs.{Stops.{StopsAt}, declared.stop.Stop.{Stop, TheVariants.{Refused, NoMemory}}}

pub same_front : (xs ys : List (Option Refusal)) → first_of xs ≡ None → first_of (xs ++ ys) ≡ first_of ys
same_front [] ys e = refl
same_front (None ∷ xs) ys e = same_front xs ys e
same_front (Some x ∷ xs) ys e = absurd cc

pub none_behind : (xs ys : List (Option Refusal)) → first_of xs ≡ None → first_of ys ≡ None → first_of (xs ++ ys) ≡ None
none_behind xs ys e f = same_front xs ys e ∙ f

-- the tests at the front give none, so it stops by the later ones
pub stops_behind : (xs ys : List (Option Refusal)) (stop : Stop) → first_of xs ≡ None → StopsAt (first_of ys) stop → StopsAt (first_of (xs ++ ys)) stop
stops_behind xs ys stop e told = subst (λ (first : Option Refusal). StopsAt first stop) (sym (same_front xs ys e)) told

-- it stops by the tests at the front, whatever is behind them
pub stops_in_front : (xs ys : List (Option Refusal)) (stop : Stop) → StopsAt (first_of xs) stop → StopsAt (first_of (xs ++ ys)) stop
stops_in_front xs ys NoMemory told = tt
stops_in_front [] ys (Refused refusal) told = absurd cc
stops_in_front (None ∷ xs) ys (Refused refusal) told = stops_in_front xs ys (Refused refusal) told
stops_in_front (Some x ∷ xs) ys (Refused refusal) told = told

pub passes_one : (b : Bool) (refusal : Refusal) → first_of (refused_if b refusal ∷ []) ≡ None → b ≡ false
passes_one true refusal e = absurd cc
passes_one false refusal e = refl

pub passes_two : (a b : Bool) (one two : Refusal) → first_of (refused_if a one ∷ refused_if b two ∷ []) ≡ None → (a ≡ false) × (b ≡ false)
passes_two true b one two e = absurd cc
passes_two false b one two e = (refl, passes_one b two e)

pub passes_three : (a b c : Bool) (one two three : Refusal) → first_of (refused_if a one ∷ refused_if b two ∷ refused_if c three ∷ []) ≡ None → (a ≡ false) × (b ≡ false) × (c ≡ false)
passes_three true b c one two three e = absurd cc
passes_three false b c one two three e = let later = passes_two b c two three e in (refl, later.0, later.1)

-- one test of two things is two tests
pub one_by_one : (a b : Bool) (refusal : Refusal) (rest : Option Refusal)
    → option_or (refused_if (a || b) refusal) rest ≡ option_or (refused_if a refusal) (option_or (refused_if b refusal) rest)
one_by_one true b refusal rest = refl
one_by_one false b refusal rest = refl

-- what stops by a test stops where others stand behind it
pub stops_first : (x y : Option Refusal) (stop : Stop) → StopsAt x stop → StopsAt (option_or x y) stop
stops_first x y NoMemory told = tt
stops_first x y (Refused refusal) told = ap (λ (o : Option Refusal). option_or o y) told

-- and by a later one, where the first gives none
pub stops_then : (x y : Option Refusal) (stop : Stop) → x ≡ None → StopsAt y stop → StopsAt (option_or x y) stop
stops_then x y stop none told = subst (λ (o : Option Refusal). StopsAt (option_or o y) stop) (sym none) told
