use Rattle.std.proofs.Common.{◌≡◌, ◌∙◌, ℕ, List, length, ap, subst, arith}
use Rattle.std.proofs.lemmas.Result.{IfOk-weaker}
use Rattle.rio_num.specs.Room.{Room, room_of}
use Rattle.std.specs.Prelude.{IfOk}
use Rattle.rio_session.proofs.HeaderMade.{same_written, written_long}
use Rattle.rio_session.proofs.header.header_data.Goals as goal

pub write_object-requires : goal.write_object-requires
write_object-requires c = omega (arith, c.requires, written_long _ _ c.args.start c.args.name.now c.args.head.now c.in_ok-classes.ensures c.in_ok-value.ensures)

pub returns-clause-exact : goal.returns-clause-exact
returns-clause-exact c =
    subst (λ (l : List ℕ). IfOk c.write_object.result (λ m. m ≡ room_of l)) (same_written _ _ c.args.start c.args.name.now c.args.head.now c.in_ok-classes.ensures c.in_ok-value.ensures) c.write_object.ensures.exact

pub returns-clause-long : goal.returns-clause-long
returns-clause-long c =
    IfOk-weaker c.write_object.result _ _ (λ (m : Room) is. ap (λ (r : Room). length r.bytes) is ∙ written_long _ _ c.args.start c.args.name.now c.args.head.now c.in_ok-classes.ensures c.in_ok-value.ensures) c.write_object.ensures.exact
