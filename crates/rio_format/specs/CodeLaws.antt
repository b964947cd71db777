-- Values are equal where the trees of numbers that stand for them are.
use Rattle.std.proofs.Common.{◌≡◌, Bool, true, Decides, refl, sym, ap, subst, ◌∙◌}
use Rattle.std.proofs.lemmas.Bool.{and_parts, and_from, Decides.{Decides-eqb, same_from_decides}}
use Rattle.std.specs.{Cmp.{IsPartialEquivalence}, Coded.{Coded}}
use Rattle.rio_format.specs.Codes.{is_same_tree, is_coded_same}
use mathlib.Core.Bool.{true≢false}
use base.Stored.{Gv, gnil, gnum, gcons, num}

abbrev IsNil : Gv → Type 0
IsNil gnil = Unit {0}
IsNil (gnum n) = ⊥
IsNil (gcons a b) = ⊥

abbrev IsNumber : Gv → Type 0
IsNumber gnil = ⊥
IsNumber (gnum n) = Unit {0}
IsNumber (gcons a b) = ⊥

abbrev first : Gv → Gv
first gnil = gnil
first (gnum n) = gnil
first (gcons a b) = a

abbrev second : Gv → Gv
second gnil = gnil
second (gnum n) = gnil
second (gcons a b) = b

tree_decides : (x y : Gv) → Decides (is_same_tree x y) (x ≡ y)
tree_decides gnil gnil = (λ _. refl, λ _. refl)
tree_decides gnil (gnum n) = (λ e. absurd (true≢false (sym e)), λ e. absurd (subst IsNil e tt))
tree_decides gnil (gcons c d) = (λ e. absurd (true≢false (sym e)), λ e. absurd (subst IsNil e tt))
tree_decides (gnum m) gnil = (λ e. absurd (true≢false (sym e)), λ e. absurd (subst IsNumber e tt))
tree_decides (gnum m) (gnum n) =
    let same = Decides-eqb m n in
    (λ e. ap gnum (same.0 e), λ e. same.1 (ap num e))
tree_decides (gnum m) (gcons c d) = (λ e. absurd (true≢false (sym e)), λ e. absurd (subst IsNumber e tt))
tree_decides (gcons a b) gnil = (λ e. absurd (true≢false (sym e)), λ e. absurd (subst IsNil (sym e) tt))
tree_decides (gcons a b) (gnum n) = (λ e. absurd (true≢false (sym e)), λ e. absurd (subst IsNumber (sym e) tt))
tree_decides (gcons a b) (gcons c d) =
    let left = tree_decides a c in
    let right = tree_decides b d in (
      λ e. let both = and_parts (is_same_tree a c) (is_same_tree b d) e in λ i. gcons (left.0 both.0 i) (right.0 both.1 i),
      λ e. and_from (is_same_tree a c) (is_same_tree b d) (left.1 (ap first e)) (right.1 (ap second e)),
    )

pub coded_decides : {A : Type 0} (coded : Coded A) (a b : A) → Decides (is_coded_same coded a b) (a ≡ b)
coded_decides coded a b =
    let same = tree_decides (coded.code a) (coded.code b) in
    (λ e. coded.inj a b (same.0 e), λ e. same.1 (ap coded.code e))

-- what decides whether two values are equal is symmetric and transitive
per_from_decides : {A : Type 0} (E : A → A → Bool) → ((a b : A) → Decides (E a b) (a ≡ b)) → IsPartialEquivalence E
per_from_decides E decides = record {
  symm = λ a b. same_from_decides (E a b) (E b a) (decides a b) (λ e. sym ((decides b a).0 e), λ e. (decides b a).1 (sym e));
  trans = λ a b c p q. (decides a c).1 ((decides a b).0 p ∙ (decides b c).0 q);
}

pub coded_per : {A : Type 0} (coded : Coded A) → IsPartialEquivalence (is_coded_same coded)
coded_per coded = per_from_decides (is_coded_same coded) (coded_decides coded)
