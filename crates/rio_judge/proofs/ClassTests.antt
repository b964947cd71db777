-- The tests that can refuse a declaration, by the classes.
use Rattle.std.proofs.Common.{◌≡◌, ℕ, ◌∙◌, List, [], ◌∷◌, ◌++◌, length, not, Option, None, Result, Err, refl, sym, ap, subst}
use Rattle.std.specs.Prelude.{is_some, nat_le}
use Rattle.rio_format.specs.{Classes.{find_in}, declared.class.ClassDef.{ClassDef}, WrittenBytes.{written_list}}
use Rattle.rio_model.specs.Declaring.{class_limit, declared, holds_itself, is_reserved_name, knows_all}
use Rattle.rio_machine.specs.{Limits.{is_too_long}, State.{State}, declared.command.Command.TheVariants.{Class}}
use Rattle.rio_machine.specs.declared.refusal.Refusal.{Refusal, TheVariants.{BadName, NoSuchClass, SameVersion, HoldsItself, TooLarge, TooMany}}
use Rattle.rio_step.specs.Refusing.{first_of, refusal_of, refused_if}
use Rattle.rio_judge.specs.{Stops.{GoesByState, StopsAt}, declared.stop.Stop.{Stop}, declared.work.Work.{Work}}
use Rattle.rio_judge.proofs.TestsInOrder.{stops_behind, stops_in_front}

abbrev pub name_tests : List ℕ → List (Option Refusal)
name_tests name = refused_if (is_reserved_name name) BadName ∷ []

abbrev pub rule_tests : List ClassDef → ClassDef → List (Option Refusal)
rule_tests classes class =
    refused_if (not (knows_all classes class)) NoSuchClass
    ∷ refused_if (is_some (find_in classes class.name class.version)) SameVersion
    ∷ refused_if (holds_itself classes class) HoldsItself
    ∷ []

-- those of the length, where this class is added
abbrev pub length_tests : List ClassDef → ClassDef → List (Option Refusal)
length_tests classes added = refused_if (is_too_long (length (written_list 0 (classes ++ added ∷ [])))) TooLarge ∷ []

abbrev pub count_tests : List ClassDef → List (Option Refusal)
count_tests classes = refused_if (nat_le class_limit (length classes)) TooMany ∷ []

abbrev after_rules : List ClassDef → ClassDef → List (Option Refusal)
after_rules classes added = length_tests classes added ++ count_tests classes

abbrev after_name : List ClassDef → ClassDef → ClassDef → List (Option Refusal)
after_name classes class added = rule_tests classes class ++ after_rules classes added

abbrev pub class_tests : List ClassDef → ClassDef → ClassDef → List (Option Refusal)
class_tests classes class added = name_tests class.name ++ after_name classes class added

-- they are the state's
pub class_refusal : (m : State) (class : ClassDef) → refusal_of m (Class class) None ≡ first_of (class_tests m.classes class (declared m.classes class))
unfolding refusal_of
class_refusal m class = refl

-- ---- where it stops

-- it stops so for each state that has the classes
abbrev pub ClassStops : List ClassDef → ClassDef → Stop → Type 0
ClassStops classes class stop = (m : State) → m.classes ≡ classes → StopsAt (refusal_of m (Class class) None) stop

module _ (classes : List ClassDef) (class : ClassDef) (stop : Stop) where
  stops : (added : ClassDef) → added ≡ declared classes class → StopsAt (first_of (class_tests classes class added)) stop → ClassStops classes class stop
  stops added is told m same =
      let first = class_refusal m class
      ∙ ap (λ cs. first_of (class_tests cs class (declared cs class))) same
      ∙ ap (λ c. first_of (class_tests classes class c)) (sym is) in
      subst (λ (first : Option Refusal). StopsAt first stop) (sym first) told

  pub stops_at_name : StopsAt (first_of (name_tests class.name)) stop → ClassStops classes class stop
  stops_at_name told =
      let added = declared classes class in
      stops added refl (stops_in_front (name_tests class.name) (after_name classes class added) stop told)

  module _ (named : first_of (name_tests class.name) ≡ None) where
    stops_named : (added : ClassDef) → added ≡ declared classes class → StopsAt (first_of (after_name classes class added)) stop → ClassStops classes class stop
    stops_named added is told = stops added is (stops_behind (name_tests class.name) (after_name classes class added) stop named told)

    pub stops_at_rules : StopsAt (first_of (rule_tests classes class)) stop → ClassStops classes class stop
    stops_at_rules told =
        let added = declared classes class in
        stops_named added refl (stops_in_front (rule_tests classes class) (after_rules classes added) stop told)

    module _ (ruled : first_of (rule_tests classes class) ≡ None) (added : ClassDef) (is : added ≡ declared classes class) where
      stops_ruled : StopsAt (first_of (after_rules classes added)) stop → ClassStops classes class stop
      stops_ruled told = stops_named added is (stops_behind (rule_tests classes class) (after_rules classes added) stop ruled told)

      pub stops_at_length : StopsAt (first_of (length_tests classes added)) stop → ClassStops classes class stop
      stops_at_length told = stops_ruled (stops_in_front (length_tests classes added) (count_tests classes) stop told)

      pub stops_at_count : first_of (length_tests classes added) ≡ None → StopsAt (first_of (count_tests classes)) stop → ClassStops classes class stop
      stops_at_count short told = stops_ruled (stops_behind (length_tests classes added) (count_tests classes) stop short told)

-- what is returned is where it stopped
pub stopped : (classes : List ClassDef) (class : ClassDef) (r : Result Work Stop) (d stop : Stop)
    → r ≡ Err d → d ≡ stop → ClassStops classes class stop
    → (m : State) → m.classes ≡ classes → GoesByState m (Class class) r
stopped classes class r d stop is same goes m classes_are =
    subst (λ (x : Result Work Stop). GoesByState m (Class class) x) (sym (is ∙ ap (λ x. Err x) same)) (goes m classes_are)
