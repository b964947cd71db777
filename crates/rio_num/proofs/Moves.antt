-- What is spelled in one place is spelled in another, where the description tells no places and no ends.
use Rattle.std.proofs.Common.{◌≡◌, ℕ, ◌+◌, List, [], ◌∷◌, ◌++◌, length, replicate, Ok}
use Rattle.rio_num.specs.{At.{At, AreBytes, end_place}, Layout.{Layout, done, number, each, times, behind}, Meanings.{read, Spells}}
use Rattle.rio_num.specs.Plain.{IsSpelledBy, Plain, plain}
use Rattle.rio_num.proofs.Agree as Agree

pub record Moves {W F A : Type 0} (l : Layout W F A) : Type 0 where
  pub moves : (end end' p q : ℕ) (t : W) (y : A) (b : List ℕ) (t' : W) → Spells l end p t y b t' → Spells l end' q t y b t'

module _ {W F : Type 0} where
  pub moves_number : (f : ℕ → ℕ → F) (n : ℕ) → Moves {W = W} (number f n)
  moves_number f n = record { moves = λ end end' p q t y b t' c. c }

  pub moves_done : {A : Type 0} (a : A) → Moves {W = W} {F = F} (done a)
  moves_done a = record { moves = λ end end' p q t y b t' c. c }

  pub moves_behind : {A B : Type 0} {l : Layout W F B} {k : B → Layout W F A} → Moves l → ((x : B) → Moves (k x)) → Moves (behind l k)
  moves_behind first next = record {
    moves = λ end end' p q t y b t' c. (c.0, c.1, c.2, c.3, c.4, first.moves end end' p q t c.0 c.1 c.3 c.5, (next c.0).moves end end' (p + length c.1) (q + length c.1) c.3 y c.2 t' c.6);
  }

  pub moves_each : {X Y : Type 0} (l : X → Layout W F Y) → ((x : X) → Moves (l x)) → (xs : List X) → Moves (each l xs)
  unfolding each
  moves_each l one [] = moves_done []
  moves_each l one (x ∷ xs) = moves_behind (one x) (λ y. moves_behind (moves_each l one xs) (λ ys. moves_done (y ∷ ys)))

  pub moves_times : {Y : Type 0} (n : ℕ) (l : Layout W F Y) → Moves l → Moves (times n l)
  moves_times n l one = moves_each (λ (x : Unit {0}). l) (λ x. one) (replicate n tt)

-- what was read, and the bytes that spell it
pub record IsFound {F A : Type 0} (l : Plain F A) (s : At) (y : A) (s' : At) : Type 0 where
  pub bytes : List ℕ
  pub parts : s.rest ≡ bytes ++ s'.rest
  pub place : s'.place ≡ s.place + length bytes
  pub spelled : IsSpelledBy l y bytes

pub found : {F A : Type 0} (l : Plain F A) → Moves l → (s : At) (y : A) (s' : At) → AreBytes s.rest → read l (plain s) ≡ Ok (y, plain s') → IsFound l s y s'
found l m s y s' fits e =
    let a = Agree.read_is_spelled l (plain s) y (plain s') fits e in
    record { bytes = a.front; parts = a.parts; place = a.place; spelled = λ q. m.moves (end_place s) (q + length a.front) s.place q tt y a.front tt a.spelled }
