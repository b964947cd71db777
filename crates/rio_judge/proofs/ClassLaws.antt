-- A declaration that passes all tests can be done, and does what the state's step does.
use Rattle.std.proofs.Common.{◌≡◌, ◌≤◌, ℕ, ◌∙◌, List, [], ◌∷◌, ◌++◌, length, not, None, Ok, sym, ap}
use Rattle.std.proofs.lemmas.Bool.{not-false}
use Rattle.std.specs.{Prelude.{is_some, nat_le}}
use Rattle.rio_format.specs.{Classes.{find_in}, declared.class.ClassDef.{ClassDef}, WrittenBytes.{length_limit, written_list}}
use Rattle.rio_model.specs.Declaring.{class_limit, declare_fault, declared, holds_itself, knows_all}
use Rattle.rio_machine.specs.{State.{State}, declared.command.Command.TheVariants.{Class}}
use Rattle.rio_machine.specs.declared.refusal.Refusal.TheVariants.{NoSuchClass, SameVersion, HoldsItself, TooMany}
use Rattle.rio_step.specs.Refusing.{first_of, refusal_of}
use Rattle.rio_judge.specs.{Judging.{CanBeDeclared}, Stops.{GoesByState}, declared.work.{NewClass.{NewClass}, Work.TheVariants.{Class as Declaring}}}
use Rattle.rio_judge.proofs.{ClassTests.{class_refusal, class_tests, count_tests, length_tests, name_tests, rule_tests}, DeclaredAgain.{declared_again, no_fault}, TestsInOrder.{none_behind, passes_one, passes_three}}

module _ (classes : List ClassDef) (c : ClassDef) (d : NewClass) where
  -- what was found on the way, and that no test stopped
  pub record Passed : Type 0 where
    pub class : d.class ≡ declared classes c
    pub written : (start : ℕ) → d.length ≡ length (written_list start (classes ++ d.class ∷ []))
    pub short : d.length ≤ length_limit
    pub by_name : first_of (name_tests c.name) ≡ None
    pub by_rules : first_of (rule_tests classes c) ≡ None
    pub by_length : first_of (length_tests classes d.class) ≡ None
    pub by_count : first_of (count_tests classes) ≡ None

  none_tells : Passed → first_of (class_tests classes c d.class) ≡ None
  none_tells p =
      let by_limits = length_tests classes d.class ++ count_tests classes in
      none_behind (name_tests c.name) (rule_tests classes c ++ by_limits) p.by_name
      (none_behind (rule_tests classes c) by_limits p.by_rules
      (none_behind (length_tests classes d.class) (count_tests classes) p.by_length p.by_count))

  pub none_refuses : Passed → (m : State) → m.classes ≡ classes → refusal_of m (Class c) None ≡ None
  none_refuses p m same =
      class_refusal m c
      ∙ ap (λ cs. first_of (class_tests cs c (declared cs c))) same
      ∙ ap (λ added. first_of (class_tests classes c added)) (sym p.class)
      ∙ none_tells p

  pub can_be_declared : Passed → CanBeDeclared classes c d
  can_be_declared p =
      let rules = passes_three (not (knows_all classes c)) (is_some (find_in classes c.name c.version)) (holds_itself classes c) NoSuchClass SameVersion HoldsItself p.by_rules in
      let few = passes_one (nat_le class_limit (length classes)) TooMany p.by_count in
      record {
        class = p.class;
        stays = ap (declared classes) p.class ∙ declared_again classes c ∙ sym p.class;
        fault = ap (declare_fault classes) p.class ∙ no_fault classes c (not-false _ rules.0) rules.1 rules.2 few;
        written = p.written;
        short = p.short;
        free = none_refuses p;
      }

-- for each state that has the classes
pub class_answers : (classes : List ClassDef) (c : ClassDef) (d : NewClass) → Passed classes c d
    → (m : State) → m.classes ≡ classes → GoesByState m (Class c) (Ok (Declaring d))
class_answers classes c d p m same =
    let added : d.class ≡ declared m.classes c = p.class ∙ ap (λ cs. declared cs c) (sym same) in
    let long : d.length ≡ length (written_list 0 (m.classes ++ declared m.classes c ∷ [])) =
    p.written 0 ∙ ap (λ cs. length (written_list 0 (cs ++ d.class ∷ []))) (sym same) ∙ ap (λ k. length (written_list 0 (m.classes ++ k ∷ []))) added in
    (none_refuses classes c d p m same, (added, long))
