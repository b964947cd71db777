-- What the objects of a header that is written say, member by member.
use Rattle.std.proofs.Common.{◌≡◌, ◌∙◌, ℕ, ◌+◌, ℤ, pos, true, List, [], ◌∷◌, ◌++◌, map, codes, Some, refl, ap, sym, append-nil}
use Rattle.std.specs.List.{flat_map, list_all}
use Rattle.rio_leaf.specs.declared.leaf.Leaf.{Leaf}
use Rattle.rio_format.specs.declared.value.Part.{Part, out-Part, roll-out-Part}
use Rattle.rio_format.specs.declared.value.Value.{Value, Text, Object, TheVariants.{rolls-Object, outs-List, outs-Object, outs-Pointed}, TheFolds.{para-Part, para-roll-Part, para-roll-Value}}
use Rattle.rio_format.specs.{PartsWithBases.{kept_parts, parts_of_base, parts_step, parts_with_bases}, Bodies.{part}, WrittenList.{array_object, plain_object, titled_object}}
use Rattle.rio_format.specs.declared.value.Value.TheOpen as layer
use Rattle.rio_tree.specs.{declared.head.Branch.{Branch}, Header.{branch_leaves}, Members.{is_pointer, pointers_in}}
use Rattle.rio_tree.specs.WrittenTree.{LeafLabels, branch_label_count, branch_object, branch_pointers, labels_behind, leaf_object, leaf_pointers}

-- ---- parts, and those of bases

abbrev beside : Part → Part × List Part
beside p = (p, para-Part (List Part) (List Part) parts_step (λ p. p.value.1) p)

part_beside : (p : Part) → para-Part (List Part) (List Part) parts_step (λ p. p.value.1) p ≡ parts_with_bases p.value
part_beside p =
    ap (para-Part (List Part) (List Part) parts_step (λ p. p.value.1)) (sym (roll-out-Part p)) ∙ para-roll-Part (List Part) (List Part) parts_step (λ p. p.value.1) (out-Part p)

first_of_each : (parts : List Part) → map (λ p. p.0) (map beside parts) ≡ parts
first_of_each [] = refl
first_of_each (p ∷ ps) = ap (λ (qs : List Part). p ∷ qs) (first_of_each ps)

behind_each : (parts : List Part) → flat_map (λ p. kept_parts p.0.name p.1) (map beside parts) ≡ flat_map parts_of_base parts
behind_each [] = refl
behind_each (p ∷ ps) = rw (part_beside p, behind_each ps) refl

pub object_parts : (class : List ℕ) (version : ℤ) (parts : List Part) → parts_with_bases (Object class version parts) ≡ parts ++ flat_map parts_of_base parts
object_parts class version parts =
    ap parts_with_bases (sym (rolls-Object class version parts))
    ∙ para-roll-Value (List Part) (List Part) parts_step (λ p. p.value.1) (layer.Object class version parts)
    ∙ rw (first_of_each parts, behind_each parts) refl

-- ---- a name and a title

pub titled_parts : (name title : List ℕ) → parts_with_bases (titled_object name title)
    ≡ part [] plain_object ∷ part (codes "fName") (Text name) ∷ part (codes "fTitle") (Text title) ∷ parts_with_bases plain_object
unfolding titled_object
titled_parts name title = rw (object_parts (codes "TNamed") (pos 1) _, append-nil (parts_with_bases plain_object)) refl

-- ---- arrays of pointers

pub pointers_written : (items : List Value) → list_all is_pointer items ≡ true → pointers_in (array_object items) ≡ Some items
unfolding array_object
pointers_written items all = rw (outs-Object (codes "TObjArray") (pos 3) _, outs-List items, all) refl

pub leaves_are_pointers : (known : LeafLabels) (label : ℕ) (leaves : List Leaf) → list_all is_pointer (leaf_pointers known label leaves) ≡ true
unfolding leaf_pointers
leaves_are_pointers known label [] = refl
leaves_are_pointers known label (leaf ∷ leaves) =
    rw (outs-Pointed label (leaf_object known leaf)) (leaves_are_pointers ((leaf.name, label) ∷ known) (label + 1) leaves)

pub branches_are_pointers : (known : LeafLabels) (label : ℕ) (bs : List Branch) → list_all is_pointer (branch_pointers known label bs) ≡ true
unfolding branch_pointers
branches_are_pointers known label [] = refl
branches_are_pointers known label (b ∷ bs) =
    rw (outs-Pointed label (branch_object known (label + 1) b)) (branches_are_pointers (labels_behind known (label + 1) (branch_leaves b)) (label + branch_label_count b) bs)
