use Rattle.std.proofs.Common.{◌≡◌, ◌∙◌, ◌≤◌, ℕ, List, length, ap, subst, sym, arith}
use Rattle.rio_num.specs.Room.{Room}
use Rattle.rio_format.specs.{declared.class.ClassDef.{ClassDef}, WrittenBytes.{length_limit, written_list}}
use Rattle.rio_model.specs.StateClasses.{StateClasses}
use Rattle.rio_step.specs.Costs.{info_size}
use Rattle.rio_session.specs.Session.{SessionState}
use Rattle.rio_session.proofs.TreeMaking.{list_info, short_info}
use Rattle.rio_session.proofs.session.Session.list_length.Goals as goal

pub write_info-requires-clause-length : goal.write_info-requires-clause-length
write_info-requires-clause-length c =
    let are : StateClasses c.classes.result.now = subst StateClasses (sym c.classes.ensures) c.self.invariant.classes in
    short_info c.classes.result.now are c.list_key_length.result

pub returns-clause-exact : goal.returns-clause-exact
returns-clause-exact c =
    let classes = ap info_size (c.classes.ensures ∙ ap (λ (s : SessionState). s.classes) c.self.view_is) in
    omega (arith, c.len.ensures, ap (λ (r : Room). length r.bytes) c.in_ok-contents.ensures.exact, list_info c.classes.result.now c.list_key_length.result, classes)

pub returns-clause-low : goal.returns-clause-low
returns-clause-low c =
    let are : StateClasses c.classes.result.now = subst StateClasses (sym c.classes.ensures) c.self.invariant.classes in
    omega (arith, c.len.ensures, ap (λ (r : Room). length r.bytes) c.in_ok-contents.ensures.exact, short_info c.classes.result.now are c.list_key_length.result)
