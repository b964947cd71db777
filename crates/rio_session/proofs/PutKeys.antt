-- The keys and trees of a session stand for the state behind a put.
use Rattle.std.proofs.Common.{◌≡◌, ◌∙◌, ℕ, true, false, List, [], ◌∷◌, Some, None, refl, sym, ap}
use Rattle.std.specs.{Prelude.{if◌then◌else◌, is_some}, List.{find}}
use Rattle.rio_num.proofs.Cases.{none_from}
use Rattle.rio_key.specs.declared.head.KeyHead.{KeyHead}
use Rattle.rio_format.specs.declared.value.Value.{Value}
use Rattle.rio_dir.specs.Table.{head_of, is_at_cycle, is_before, with_head}
use Rattle.rio_model.specs.StateClasses.{StateClasses}
use Rattle.rio_tree_table.specs.{Table.{tree_of}, declared.table.KeptTree.{KeptTree}}
use Rattle.rio_machine.specs.{State.{State, next_cycle}, declared.command.Command.TheVariants.{Put}}
use Rattle.rio_state.specs.KeyedRecords.{is_tree_key}
use Rattle.rio_step.specs.{ItemKeys.{told_by_key}, KeptItems.{AreItemsOfState}, Refusing.{object_class_name, put_value, refusal_of}, Step.{listed_object, state_behind}}
use Rattle.rio_step.specs.KeptItems as items
use Rattle.rio_step.proofs.StepLaws.{next_is_free}
use Rattle.rio_effect.specs.ObjectRecord.{key_of_put, object_key}
use Rattle.rio_effect.proofs.{PutClasses.{object_class_is}, PutObject.{IsAccepted, accepted}}
use Rattle.rio_judge.proofs.ItemsOfState.{names_objects, tree_is}
use Rattle.rio_session.specs.{Items.{AreTreeKeys, IsOfKeys}, SessionState.{SessionState, kept_trees}}
use Rattle.rio_session.proofs.KeysBehind.{keys_behind}

-- with one key more
tree_keys_with : (trees : List KeptTree) (h : KeyHead) (heads : List KeyHead) → items.is_tree_key trees h ≡ is_tree_key h → AreTreeKeys heads trees → AreTreeKeys (with_head h heads) trees
tree_keys_with trees h [] one all = (one, tt)
tree_keys_with trees h (k ∷ ks) one all =
    elim (is_before h.name h.cycle k) as (λ b. AreTreeKeys (if b then k ∷ with_head h ks else h ∷ k ∷ ks) trees) [
      | true ↦ (all.0, tree_keys_with trees h ks one all.1)
      | false ↦ (one, all)
    ]

module _ (s : SessionState) (m : State) (keys : IsOfKeys s m) (name : List ℕ) (v : Value) (free : refusal_of m (Put name v) None ≡ None) where
  is : IsAccepted m name (put_value m v)
  is = accepted m name v None free

  -- no tree has the name, and no key has it with the cycle
  pub put_no_tree : tree_of name (kept_trees s) ≡ None
  put_no_tree = none_from (tree_of name (kept_trees s)) (sym (tree_is s.heads (kept_trees s) m keys.keys name) ∙ is.no_tree)

  pub put_new : head_of name (Some (next_cycle m name)) s.heads ≡ None
  put_new =
      let has = (names_objects s.heads (kept_trees s) m keys.keys name put_no_tree).has (next_cycle m name) in
      none_from (head_of name (Some (next_cycle m name)) s.heads) (sym has ∙ ap is_some (next_is_free m name))

  module _ (place : ℕ) (sound : StateClasses m.classes) where
    abbrev key : KeyHead
    key = key_of_put m place s.datime name v

    key_told : told_by_key (key_of_put m place s.datime name v) ≡ listed_object ((name, next_cycle m name), put_value m v)
    unfolding object_key
    key_told = refl

    key_new : find (is_at_cycle key.name key.cycle) s.heads ≡ None
    unfolding object_key
    key_new = put_new

    key_no_tree : tree_of key.name (kept_trees s) ≡ None
    unfolding object_key
    key_no_tree = put_no_tree

    key_object : is_tree_key (key_of_put m place s.datime name v) ≡ false
    unfolding object_key
    key_object = (object_class_is m.classes (object_class_name (put_value m v)) sound is.taken).tree

    pub put_stands : AreItemsOfState (with_head (key_of_put m place s.datime name v) s.heads) (kept_trees s) (state_behind m (Put name v))
    put_stands = keys_behind s.heads (kept_trees s) m name v key keys.keys key_no_tree key_told key_new

    pub put_tree_keys : AreTreeKeys (with_head (key_of_put m place s.datime name v) s.heads) (kept_trees s)
    put_tree_keys = tree_keys_with (kept_trees s) key s.heads (ap is_some key_no_tree ∙ sym key_object) keys.trees
