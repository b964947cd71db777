-- The comparisons of branches and of their parts tell whether they are the same.
use Rattle.std.proofs.{Common.{◌≡◌, List, Decides, ap, rules}, lemmas.Bool.Decides.{Decides-and, Decides-eqb, Decides-like}}
use Rattle.std.specs.Cmp.Lexicographic.{pointwise, pointwise_decides, bytes_decides}
use Rattle.rio_leaf.specs.contracts.branch.BranchDefPartialEq.TheImpl.{eq-value as branch_equal}
use Rattle.rio_leaf.specs.{contracts.branch.ShapePartialEq.TheImpl.{eq-value as shape_equal}, contracts.leaf.DimPartialEq.TheImpl.{eq-value as dim_equal}}
use Rattle.rio_leaf.specs.{contracts.leaf.LeafPartialEq.TheImpl.{eq-value as leaf_equal}, declared.branch.BranchDef.{BranchDef as Branch}}
use Rattle.rio_leaf.specs.{declared.branch.Shape.{Shape, TheVariants.{Leaves, Class}}, declared.leaf.Dim.{Dim}, declared.leaf.Leaf.{Leaf}}

dim_decides : (a b : Dim) → Decides (dim_equal.it a b) (a ≡ b)
dim_decides a b = search rules

leaf_decides : (a b : Leaf) → Decides (leaf_equal.it a b) (a ≡ b)
leaf_decides a b =
    let fields = Decides-and _ _ (bytes_decides a.name b.name) (Decides-and _ _ (Decides-eqb a.letter b.letter) (dim_decides a.dim b.dim)) in
    Decides-like _ (λ p. λ i. record { name = p.0 i; letter = p.1.0 i; dim = p.1.1 i }) (λ e. (ap (λ l. l.name) e, (ap (λ l. l.letter) e, ap (λ l. l.dim) e))) fields

pub leaves_decide : (a b : List Leaf) → Decides (pointwise leaf_equal.it a b) (a ≡ b)
leaves_decide = pointwise_decides leaf_decides

shape_decides : (a b : Shape) → Decides (shape_equal.it a b) (a ≡ b)
shape_decides (Leaves ls) (Leaves ms) = Decides-like _ (ap Leaves) (λ e. cc) (leaves_decide ls ms)
shape_decides (Leaves ls) (Class c) = (λ e. absurd cc, λ e. absurd cc)
shape_decides (Class c) (Leaves ls) = (λ e. absurd cc, λ e. absurd cc)
shape_decides (Class c) (Class d) = Decides-like _ (ap Class) (λ e. cc) (bytes_decides c d)

branch_decides : (a b : Branch) → Decides (branch_equal.it a b) (a ≡ b)
branch_decides a b =
    Decides-like _ (λ p. λ i. record { name = p.0 i; shape = p.1 i }) (λ e. (ap (λ x. x.name) e, ap (λ x. x.shape) e)) (Decides-and _ _ (bytes_decides a.name b.name) (shape_decides a.shape b.shape))

pub branches_decide : (a b : List Branch) → Decides (pointwise branch_equal.it a b) (a ≡ b)
branches_decide = pointwise_decides branch_decides
