-- What is read and isn't kept.
use Rattle.std.specs.{Prelude.{ℕ, List, ◌∷◌}, Int.{w32, cast_signed}}
use Rattle.rio_format.specs.{declared.class.Member.{Member}, Frames.{ObjLayout, finish}, declared.fault.ObjFault.TheVariants.{Short}, Bodies.{Counters, counters_with}, Objects.{Objects, member_part}}
use Rattle.rio_num.specs.Layout.{done, number, ◌>>=◌}

-- what a description says, of which nothing is kept
abbrev pub pass_of : {A : Type 0} → ObjLayout A → ObjLayout (Unit {0})
pass_of l = l >>= λ v. done tt

-- a member behind these counters, of which no more is kept than the counters from then on
unfoldable pub counted_member : Objects → Counters → Member → ObjLayout Counters
counted_member object counters m = do
  p ← member_part object counters m
  done (counters_with m p.value counters)

-- a counter of this name behind these counters, of which no more is kept than the counters from then on
unfoldable pub counters_with_next : List ℕ → Counters → ObjLayout Counters
counters_with_next name counters = do
  n ← number Short 4
  done ((name, cast_signed w32 n) ∷ counters)

-- the object behind a pointer's word, which ends where its count says
unfoldable pub pass_of_new : Objects → ℕ → ℕ → List ℕ → ObjLayout (Unit {0})
pass_of_new object place end class = do
  _ ← pass_of (object class)
  finish place end
