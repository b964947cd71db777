-- The key of an object names the class of the object.
use Rattle.std.proofs.Common.{◌≡◌, ◌⊎◌, inl, inr, ℕ, List, Option, Some, sym, ap, ◌∙◌}
use Rattle.std.proofs.lemmas.Option.{same_Some}
use Rattle.std.specs.{FinMap.{get}, List.{Contains}}
use Rattle.rio_key.specs.declared.head.KeyHead.{KeyHead}
use Rattle.rio_format.specs.declared.value.Value.{Value}
use Rattle.rio_chain.specs.Segments.{Link}
use Rattle.rio_machine.specs.State.{State}
use Rattle.rio_state.specs.{DirectoryKeys.{AreKeysOf}, KeyedRecords.{item_of_key, keyed_records}, Reads.{AreRecordsOf}}
use Rattle.rio_state.proofs.{KeyRecords.{ObjectOf, TreeOf, holder, item_is, key_record, object_of, tree_apart}, Members.{in_contained}}
use Rattle.rio_step.specs.Refusing.{object_class}
use Rattle.rio_effect.proofs.ReadClasses.{object_is_read}

module _ (links : List Link) (heads : List KeyHead) (m : State) (head : KeyHead) (v : Value) (are : AreKeysOf (keyed_records links) heads) (is : AreRecordsOf (keyed_records links) m)
    (held : get m.objects (head.name, head.cycle) ≡ Some v) where
  of_object : ObjectOf (keyed_records links) m is head → object_class v ≡ Some head.class
  of_object o =
      let x = object_of (keyed_records links) m is o.r o.among in
      let key : item_of_key o.r.head ≡ (head.name, head.cycle) = ap (λ (k : KeyHead). item_of_key k) o.head_is in
      let same : x.v ≡ v = same_Some x.v v (sym x.object ∙ ap (get m.objects) key ∙ held) in
      ap object_class (sym same) ∙ (object_is_read m.classes o.r x.v x.read).class ∙ ap (λ (k : KeyHead). let c : Option (List ℕ) = Some k.class in c) o.head_is

  of_tree : TreeOf (keyed_records links) m is head → object_class v ≡ Some head.class
  of_tree t =
      let x = holder (keyed_records links) m is (head.name, head.cycle) v held in
      let name = (item_is (head.name, head.cycle) x.r x.has).0 in
      absurd (tree_apart (keyed_records links) m is t.r x.r t.among x.among (ap (λ (k : KeyHead). k.name) t.head_is ∙ sym name))

  pub key_class : Contains heads head → object_class v ≡ Some head.class
  key_class among = by (key_record (keyed_records links) m is heads are head (in_contained head heads among))
    where
      by : ObjectOf (keyed_records links) m is head ⊎ TreeOf (keyed_records links) m is head → object_class v ≡ Some head.class
      by (inl o) = of_object o
      by (inr t) = of_tree t
