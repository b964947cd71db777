-- What is found of the puts of a batch, one after the other.
use Rattle.std.specs.{Prelude.{◌≡◌, ℕ, List, [], ◌∷◌, ◌++◌, length, Option, Some, None, unwrap_or, Result, Ok, Err}, Borrow.{Bor}, BTreeMap.{BTreeMap, get_by}, Cmp.Lexicographic.{slice_cmp}, Ordering.{nat_cmp}}
use Rattle.rio_key.specs.declared.head.KeyHead.{KeyHead}
use Rattle.rio_format.specs.declared.class.ClassDef.{ClassDef}
use Rattle.rio_tree_table.specs.declared.table.KeptTree.{KeptTree}
use Rattle.rio_machine.specs.{declared.command.PutItem.{PutItem}, declared.refusal.Refusal.{Refusal, TheVariants.{TooMany}}}
use Rattle.rio_step.specs.Refusing.{first_of, refused_if, times_put}
use Rattle.rio_judge.specs.{Judging.{CanEachBePut}, Stops.{has_many_puts, lower, object_tests}}
use Rattle.rio_judge.specs.declared.{batch.Found.{Found}, stop.Stop.{Stop, TheVariants.{Refused, NoMemory}}, work.StoredObject.{StoredObject}}

-- how many puts of a name were counted
abbrev pub times_by_name : BTreeMap (Bor (List ℕ)) ℕ → List ℕ → ℕ
times_by_name counts name = unwrap_or (get_by (λ k. slice_cmp nat_cmp name k.now) counts) 0

-- the lowest refusal of puts behind these, if one of them is refused
abbrev pub lowest_of : List ClassDef → List KeyHead → List KeptTree → List PutItem → List PutItem → Option Refusal
lowest_of classes heads trees before [] = None
lowest_of classes heads trees before (p ∷ ps) =
    lower (first_of (object_tests classes heads trees p.name p.value (times_put p.name before))) (lowest_of classes heads trees (before ++ p ∷ []) ps)

-- what is found with one put more
abbrev pub WithPut : Found → Result StoredObject Stop → Found → Type 0
WithPut old (Ok object) new = (new.lowest ≡ old.lowest) × (new.objects ≡ old.objects ++ object ∷ [])
WithPut old (Err (Refused refusal)) new = new.lowest ≡ lower old.lowest (Some refusal)
WithPut old (Err NoMemory) new = ⊥

-- the lowest refusal of a batch, and the objects of its puts, where none of them is refused
pub record IsFound (classes : List ClassDef) (heads : List KeyHead) (trees : List KeptTree) (puts : List PutItem) (found : Found) : Type 0 where
  pub lowest : found.lowest ≡ lower (refused_if (has_many_puts heads (length puts)) TooMany) (lowest_of classes heads trees [] puts)
  pub objects : found.lowest ≡ None → CanEachBePut classes heads [] puts found.objects
