-- The comparisons of classes and of their parts tell whether they are the same.
use Rattle.std.proofs.{Common.{◌≡◌, List, Decides, ap, rules}, lemmas.Bool.Decides.{Decides-and, Decides-int_eq, Decides-eqb, Decides-like}}
use Rattle.std.specs.Cmp.Lexicographic.{pointwise, pointwise_decides, bytes_decides}
use Rattle.rio_format.specs.contracts.class.{BasePartialEq.TheImpl.{eq-value as base_equal}, MemberPartialEq.TheImpl.{eq-value as member_equal}}
use Rattle.rio_format.specs.contracts.{class.ClassDefPartialEq.TheImpl.{eq-value as class_equal}, kind.KindPartialEq.TheImpl.{eq-value as kind_equal}}
use Rattle.rio_format.specs.{declared.class.Base.{Base}, declared.class.ClassDef.{ClassDef}, declared.class.Member.{Member}, declared.kind.Kind.{Kind}}

base_decides : (a b : Base) → Decides (base_equal.it a b) (a ≡ b)
base_decides a b = search rules

pub bases_decide : (a b : List Base) → Decides (pointwise base_equal.it a b) (a ≡ b)
bases_decide = pointwise_decides base_decides

kind_decides : (a b : Kind) → Decides (kind_equal.it a b) (a ≡ b)
kind_decides a b = search rules

member_decides : (a b : Member) → Decides (member_equal.it a b) (a ≡ b)
member_decides a b =
    let fields = Decides-and _ _ (bytes_decides a.name b.name) (Decides-and _ _ (kind_decides a.kind b.kind) (bytes_decides a.title b.title)) in
    Decides-like _ (λ p. λ i. record { name = p.0 i; kind = p.1.0 i; title = p.1.1 i }) (λ e. (ap (λ m. m.name) e, (ap (λ m. m.kind) e, ap (λ m. m.title) e))) fields

pub members_decide : (a b : List Member) → Decides (pointwise member_equal.it a b) (a ≡ b)
members_decide = pointwise_decides member_decides

class_decides : (a b : ClassDef) → Decides (class_equal.it a b) (a ≡ b)
class_decides a b =
    let lists = Decides-and _ _ (bases_decide a.bases b.bases) (members_decide a.members b.members) in
    let numbers = Decides-and _ _ (Decides-int_eq a.version b.version) (Decides-and _ _ (Decides-eqb a.sum b.sum) lists) in
    let fields = Decides-and _ _ (bytes_decides a.name b.name) numbers in
    Decides-like _
    (λ p. λ i. record { name = p.0 i; version = p.1.0 i; sum = p.1.1.0 i; bases = p.1.1.1.0 i; members = p.1.1.1.1 i })
    (λ e. (ap (λ c. c.name) e, (ap (λ c. c.version) e, (ap (λ c. c.sum) e, (ap (λ c. c.bases) e, ap (λ c. c.members) e)))))
    fields

pub classes_decide : (a b : List ClassDef) → Decides (pointwise class_equal.it a b) (a ≡ b)
classes_decide = pointwise_decides class_decides
