use Rattle.std.proofs.Common.{◌≡◌, ◌∙◌, ◌∷◌, ◌++◌, [], ℕ, List, None, refl, sym, ap, subst, arith}
use Rattle.rio_num.proofs.Cases.{none_from}
use Rattle.rio_model.specs.StateClasses.{StateClasses}
use Rattle.rio_session.specs.{Lists.{CanBeListedAt}, Session.{SessionState}, declared.steps.Step.{Step, TheVariants.{Put}}}
use Rattle.rio_session.proofs.TreeMaking.{first_listed}
use Rattle.rio_session.proofs.session.Session.first_list.Goals as goal

pub returns : goal.returns
returns c =
    let s = c.args.self.now in
    let v = c.self.view_is in
    let are : StateClasses s.classes = subst StateClasses (ap (λ (x : SessionState). x.classes) v) c.self.invariant.classes in
    let none : s.info ≡ None = ap (λ (x : SessionState). x.info) (sym v) ∙ none_from c.self.inside.info (sym c.is_some.ensures ∙ c.if-is_some.false) in
    let can = c.requires none in
    let at : CanBeListedAt s c.place_at-place.result = subst (CanBeListedAt s) (sym (c.place_at-place.ensures can.0 can.1)) can.2 in
    first_listed s are (omega (arith, c.time-datime.ensures)) c.place_at-place.result c.in_ok-made.made at c.in_ok-made.ensures none _
    (c.in_ok-puts.ensures ∙ ap (λ (l : List Step). l ++ Put c.place_at-place.result c.in_ok-made.made.bytes ∷ []) c.new-steps.ensures.items) refl refl
