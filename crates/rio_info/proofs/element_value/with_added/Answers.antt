use Rattle.std.proofs.{Common.{◌≡◌, ℕ, ℤ, List, [], ◌++◌, Bor, refl, sym, ap, ◌∙◌}, lemmas.List.{append-nil}}
use Rattle.rio_format.specs.{declared.class.ClassDef.{ClassDef}, declared.value.Part.{Part}}
use Rattle.rio_describe.specs.ElementClasses.{added_parts}
use Rattle.rio_describe.specs.declared.element.ElementClass.{ElementClass, TheVariants.{Base as BaseElement, BasicType, BasicPointer, Text, Object, ObjectAny, ObjectPointer, ObjectAnyPointer}}
use Rattle.rio_info.proofs.element_value.with_added.Goals as goal

-- the other classes add nothing
adds_nothing : (class : ElementClass) → ((version : ℤ) → class ≡ BaseElement version → ⊥) → ((owner : Bor ClassDef) (counter : Bor (List ℕ)) → class ≡ BasicPointer owner counter → ⊥) → added_parts class ≡ []
adds_nothing (BaseElement version) no_base no_array = absurd (no_base version refl)
adds_nothing (BasicPointer owner counter) no_base no_array = absurd (no_array owner counter refl)
adds_nothing BasicType no_base no_array = refl
adds_nothing Text no_base no_array = refl
adds_nothing Object no_base no_array = refl
adds_nothing ObjectAny no_base no_array = refl
adds_nothing ObjectPointer no_base no_array = refl
adds_nothing ObjectAnyPointer no_base no_array = refl

pub returns-in_default : goal.returns-in_default
returns-in_default c =
    let none = adds_nothing c.args.class c.in_default.not-Base c.in_default.not-BasicPointer in
    sym (ap (λ (more : List Part). c.args.parts ++ more) none ∙ append-nil c.args.parts)
