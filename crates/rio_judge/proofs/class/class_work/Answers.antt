use Rattle.std.proofs.{Common.{◌≡◌, ◌++◌, ◌∷◌, [], ℕ, List, None, length, sym, ap, ◌∙◌, subst}, lemmas.Result.{err_from_is_err_and}}
use Rattle.rio_format.specs.{WrittenBytes.{written_list}, declared.class.ClassDef.{ClassDef}}
use Rattle.rio_step.specs.Refusing.{first_of}
use Rattle.rio_judge.specs.{Stops.{StopsAt}, declared.work.NewClass.{NewClass}}
use Rattle.rio_judge.proofs.ClassTests.{count_tests, length_tests, name_tests, stopped, stops_at_count, stops_at_length, stops_at_name, stops_at_rules}
use Rattle.rio_judge.proofs.{ClassLaws.{Passed, can_be_declared, class_answers}, class.class_work.Goals.{In_ok-check_count}}
use Rattle.rio_judge.proofs.class.class_work.Goals as goal

pub returns-in_err-check_name-clause-answers : goal.returns-in_err-check_name-clause-answers
returns-in_err-check_name-clause-answers c =
    let p = err_from_is_err_and c.from_residual.result c.from_residual.ensures.1 in
    let stop = c.in_err-check_name.field-0.0 in
    let told : StopsAt (first_of (name_tests c.args.class.now.name)) stop = subst (λ (name : List ℕ). StopsAt (first_of (name_tests name)) stop) c.as_slice.ensures c.in_err-check_name.ensures in
    stopped c.args.registry.now c.args.class.now c.from_residual.result p.0 stop p.1 p.2
    (stops_at_name c.args.registry.now c.args.class.now stop told)

pub returns-in_err-class-clause-answers : goal.returns-in_err-class-clause-answers
returns-in_err-class-clause-answers c =
    let p = err_from_is_err_and c.from_residual-in_err-class.result c.from_residual-in_err-class.ensures.1 in
    let stop = c.in_err-class.field-0.0 in
    let named : first_of (name_tests c.args.class.now.name) ≡ None = ap (λ (name : List ℕ). first_of (name_tests name)) (sym c.as_slice.ensures) ∙ c.in_ok-check_name.ensures in
    stopped c.args.registry.now c.args.class.now c.from_residual-in_err-class.result p.0 stop p.1 p.2
    (stops_at_rules c.args.registry.now c.args.class.now stop named c.in_err-class.ensures.told)

pub returns-in_err-length-clause-answers : goal.returns-in_err-length-clause-answers
returns-in_err-length-clause-answers c =
    let p = err_from_is_err_and c.from_residual-in_err-length.result c.from_residual-in_err-length.ensures.1 in
    let stop = c.in_err-length.field-0.0 in
    let named : first_of (name_tests c.args.class.now.name) ≡ None = ap (λ (name : List ℕ). first_of (name_tests name)) (sym c.as_slice.ensures) ∙ c.in_ok-check_name.ensures in
    let told : StopsAt (first_of (length_tests c.args.registry.now c.in_ok-class.class)) stop =
    subst (λ (classes : List ClassDef). StopsAt (first_of (length_tests classes c.in_ok-class.class)) stop) c.classes.ensures c.in_err-length.ensures.told in
    stopped c.args.registry.now c.args.class.now c.from_residual-in_err-length.result p.0 stop p.1 p.2
    (stops_at_length c.args.registry.now c.args.class.now stop named c.in_ok-class.ensures.told c.in_ok-class.class c.in_ok-class.ensures.class told)

pub returns-in_err-check_count-clause-answers : goal.returns-in_err-check_count-clause-answers
returns-in_err-check_count-clause-answers c =
    let p = err_from_is_err_and c.from_residual-in_err-check_count.result c.from_residual-in_err-check_count.ensures.1 in
    let stop = c.in_err-check_count.field-0.0 in
    let named : first_of (name_tests c.args.class.now.name) ≡ None = ap (λ (name : List ℕ). first_of (name_tests name)) (sym c.as_slice.ensures) ∙ c.in_ok-check_name.ensures in
    let short : first_of (length_tests c.args.registry.now c.in_ok-class.class) ≡ None =
    ap (λ (classes : List ClassDef). first_of (length_tests classes c.in_ok-class.class)) (sym c.classes.ensures) ∙ c.in_ok-length.ensures.told in
    let told : StopsAt (first_of (count_tests c.args.registry.now)) stop = subst (λ (classes : List ClassDef). StopsAt (first_of (count_tests classes)) stop) c.classes-2.ensures c.in_err-check_count.ensures in
    stopped c.args.registry.now c.args.class.now c.from_residual-in_err-check_count.result p.0 stop p.1 p.2
    (stops_at_count c.args.registry.now c.args.class.now stop named c.in_ok-class.ensures.told c.in_ok-class.class c.in_ok-class.ensures.class short told)

-- the class that is to be declared
abbrev made : In_ok-check_count → NewClass
made c = record { class = c.in_ok-class.class; length = c.in_ok-length.length }

passed : (c : In_ok-check_count) → Passed c.args.registry.now c.args.class.now (made c)
passed c = record {
  class = c.in_ok-class.ensures.class;
  written = λ start. c.in_ok-length.ensures.length start ∙ ap (λ (classes : List ClassDef). length (written_list start (classes ++ c.in_ok-class.class ∷ []))) c.classes.ensures;
  short = c.in_ok-length.ensures.short;
  by_name = ap (λ (name : List ℕ). first_of (name_tests name)) (sym c.as_slice.ensures) ∙ c.in_ok-check_name.ensures;
  by_rules = c.in_ok-class.ensures.told;
  by_length = ap (λ (classes : List ClassDef). first_of (length_tests classes c.in_ok-class.class)) (sym c.classes.ensures) ∙ c.in_ok-length.ensures.told;
  by_count = ap (λ (classes : List ClassDef). first_of (count_tests classes)) (sym c.classes-2.ensures) ∙ c.in_ok-check_count.ensures;
}

pub returns-clause-answers : goal.returns-clause-answers
returns-clause-answers c = class_answers c.args.registry.now c.args.class.now (made c) (passed c)

pub returns-clause-sound : goal.returns-clause-sound
returns-clause-sound c heads = can_be_declared c.args.registry.now c.args.class.now (made c) (passed c)
