-- A host that stays as it is, and one that is told again and again.
use Rattle.std.proofs.Common.{inl, ℕ, List, Option, Some, None, refl, arith}
use Rattle.rio_host.specs.Host.{Any, Becomes, Elapses, View}
use Rattle.rio_host.proofs.{Images.{becomes_join}, Moments.{Outcomes}}

pub becomes_same : (o : Option (List ℕ)) → Becomes Any o o
becomes_same None = refl
becomes_same (Some x) = (x, refl, tt)

pub any_join : (a b c : Option (List ℕ)) → Becomes Any a b → Becomes Any b c → Becomes Any a c
any_join a b c one two = becomes_join Any Any Any a b c (λ x y z p q. tt) one two

pub elapses_none : (v : View) (P : Outcomes) → Elapses v v P
elapses_none v P = record { later = omega arith; nothing_else = λ t i s le left. inl left; keeps = λ t i s le left. left }
