use Rattle.std.proofs.Common.{◌≡◌, ℕ, List, true, Result, Ok, Err, IfOk, IsTrue, ap, subst, ◌∙◌}
use Rattle.rio_num.specs.Answers.{GivesUnless}
use Rattle.rio_leaf.specs.{declared.fault.LeafFault.{LeafFault, TheVariants.{NoMemory}}, declared.leaf.Leaf.{Leaf}, Spelling.{is_leaf_list, text_of_leaves}}
use Rattle.rio_leaf.specs.Reading.{leaves_in}
use Rattle.rio_leaf.proofs.ListLaws.{list_again, list_found}
use Rattle.rio_leaf.proofs.read.read_leaves.Goals as goal

found : (text : List ℕ) (r : Result (List Leaf) LeafFault) → GivesUnless NoMemory (λ ls. ls) r (leaves_in text) → IfOk r (λ leaves. IsTrue (is_leaf_list leaves) × (text ≡ text_of_leaves leaves))
found text (Ok leaves) h = let f = list_found text leaves h in (f.is, f.parts)
found text (Err e) h = tt

only : (text : List ℕ) (leaves : List Leaf) (r : Result (List Leaf) LeafFault) → GivesUnless NoMemory (λ ls. ls) r (leaves_in text) → is_leaf_list leaves ≡ true → text ≡ text_of_leaves leaves → GivesUnless NoMemory (λ ls. ls) r (Ok leaves)
only text leaves r h is parts = subst (λ (q : Result (List Leaf) LeafFault). GivesUnless NoMemory (λ ls. ls) r q) (ap leaves_in parts ∙ list_again leaves is) h

pub returns-clause-found : goal.returns-clause-found
returns-clause-found c = found c.args.text.now c.take_leaves.result c.take_leaves.ensures

pub returns-clause-only : goal.returns-clause-only
returns-clause-only c = λ leaves is parts. only c.args.text.now leaves c.take_leaves.result c.take_leaves.ensures is parts
