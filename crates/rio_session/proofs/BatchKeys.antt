-- The keys and trees of a session stand for the state behind a batch.
use Rattle.std.proofs.Common.{◌≡◌, ℕ, ◌+◌, ◌&&◌, List, [], ◌∷◌, length, None, true, refl, arith}
use Rattle.std.proofs.lemmas.Bool.{eq-eqb}
use Rattle.std.specs.List.{list_all}
use Rattle.rio_key.specs.{Written.{written_key}, declared.head.KeyHead.{KeyHead}}
use Rattle.rio_dir.specs.Table.{with_head, with_heads}
use Rattle.rio_chain.proofs.Records.{key_long}
use Rattle.rio_model.specs.StateClasses.{StateClasses}
use Rattle.rio_machine.specs.{Limits.{head_length}, State.{State}, declared.command.Command.TheVariants.{Batch}, declared.command.PutItem.{PutItem}}
use Rattle.rio_step.proofs.BatchTaken.{batch_taken}
use Rattle.rio_step.specs.{KeptItems.{AreItemsOfState}, Laws.{AreTaken}, Refusing.{refusal_of}, Step.{state_behind, with_object, with_objects}}
use Rattle.rio_effect.specs.ObjectRecord.{data_of_put, key_of_put, keys_of_batch, object_key, size_of_put, words_of_put}
use Rattle.rio_recover.specs.Closable.{is_sized}
use Rattle.rio_session.specs.{Items.{AreTreeKeys, IsOfKeys}, Kept.{kept_by, place_of_batch}, SessionState.{SessionState, kept_trees}}
use Rattle.rio_session.proofs.PutKeys.{put_stands, put_tree_keys}

-- what a session keeps with these keys
abbrev keeps_heads : SessionState → List KeyHead → SessionState
keeps_heads s heads = record s { heads = heads }

-- one put after the other
each_stands : (puts : List PutItem) (s : SessionState) (m : State) (place : ℕ) → IsOfKeys s m → StateClasses m.classes → AreTaken m puts
    → IsOfKeys (keeps_heads s (with_heads (keys_of_batch m place s.datime puts) s.heads)) (with_objects m puts)
each_stands [] s m place keys sound taken = record { classes = keys.classes; keys = keys.keys; trees = keys.trees }
each_stands (p ∷ ps) s m place keys sound taken =
    let key = key_of_put m place s.datime p.name p.value in
    let next = with_object m p.name p.value in
    let more : IsOfKeys (keeps_heads s (with_head key s.heads)) next = record {
      classes = keys.classes;
      keys = put_stands s m keys p.name p.value taken.0 place sound;
      trees = put_tree_keys s m keys p.name p.value taken.0 place sound;
    } in
    each_stands ps (keeps_heads s (with_head key s.heads)) next (place + size_of_put m place s.datime p) more sound taken.1

module _ (s : SessionState) (m : State) (keys : IsOfKeys s m) (puts : List PutItem) (free : refusal_of m (Batch puts) None ≡ None) (place : ℕ) (sound : StateClasses m.classes) where
  stands : IsOfKeys (keeps_heads s (with_heads (keys_of_batch m place s.datime puts) s.heads)) (with_objects m puts)
  stands = each_stands puts s m place keys sound (batch_taken m puts None free)

  pub batch_stands : AreItemsOfState (with_heads (keys_of_batch m place s.datime puts) s.heads) (kept_trees s) (state_behind m (Batch puts))
  batch_stands = stands.keys

  pub batch_tree_keys : AreTreeKeys (with_heads (keys_of_batch m place s.datime puts) s.heads) (kept_trees s)
  batch_tree_keys = stands.trees

-- what is kept behind the batch
pub batch_of_keys : (s : SessionState) (m : State) → IsOfKeys s m → (puts : List PutItem) → refusal_of m (Batch puts) None ≡ None → StateClasses m.classes → IsOfKeys (kept_by s m (Batch puts)) (state_behind m (Batch puts))
batch_of_keys s m keys puts free sound =
    let all = stands s m keys puts free (place_of_batch s m puts) sound in
    record { classes = all.classes; keys = all.keys; trees = all.trees }

-- ---- how long the keys are

put_sized : (m : State) (place datime : ℕ) (p : PutItem) → is_sized (key_of_put m place datime p.name p.value) ≡ true
unfolding object_key
put_sized m place datime p =
    let key = key_of_put m place datime p.name p.value in
    eq-eqb (length (written_key key)) (head_length key.class key.name) (key_long (words_of_put m place datime p.name p.value) (length (data_of_put m place datime p.name p.value)))

pub batch_sized : (puts : List PutItem) (m : State) (place datime : ℕ) → list_all is_sized (keys_of_batch m place datime puts) ≡ true
batch_sized [] m place datime = refl
batch_sized (p ∷ ps) m place datime =
    let first = put_sized m place datime p in
    let rest = batch_sized ps (with_object m p.name p.value) (place + size_of_put m place datime p) datime in
    λ i. first i && rest i

pub keys_many : (puts : List PutItem) (m : State) (place datime : ℕ) → length (keys_of_batch m place datime puts) ≡ length puts
keys_many [] m place datime = refl
keys_many (p ∷ ps) m place datime = let rest = keys_many ps (with_object m p.name p.value) (place + size_of_put m place datime p) datime in omega (arith, rest)
