-- What a delete does, by its judgement and what a session keeps.
use Rattle.std.proofs.Common.{◌≡◌, inl, inr, ℕ, List, Some, None, Result, IfOk, true, false, refl, sym, ap, subst, ◌∙◌}
use Rattle.rio_host.specs.Host.{IsLawful, View}
use Rattle.rio_format.specs.declared.class.ClassDef.{ClassDef}
use Rattle.rio_key.specs.declared.head.KeyHead.{KeyHead}
use Rattle.rio_num.specs.Word.{is_item_text}
use Rattle.rio_step.specs.Statable.{IsStatable}
use Rattle.rio_dir.specs.Table.{head_of}
use Rattle.rio_tree_table.specs.declared.table.KeptTree.{KeptTree}
use Rattle.rio_machine.specs.{State.{State}, declared.command.Command.{Command, TheVariants.{Bad, Class, Put, Batch, Delete, Tree, Fill, Save, Get, Scan, Ls}}}
use Rattle.rio_machine.specs.declared.command.Outcome.{Outcome, TheVariants.{Accepted}}
use Rattle.rio_step.specs.{Refusing.{refusal_of}, ReplyText.{text_of}, Step.{item_deleted}}
use Rattle.rio_judge.proofs.KeysOfState.{first_is_found, found_key}
use Rattle.rio_judge.specs.{Judging.{WorkCanBeDone}, Trees.{IsJudgementOfItems, TreeWorkCanBeDone}, declared.work.JudgedWithTrees.TheVariants.{Accepted as Judgement}}
use Rattle.rio_judge.specs.declared.work.{AnyWork.{AnyWork, TheVariants.{Item, Tree as OfTree}}, TreeWork.TheVariants.{Delete as DeletingTree}, Work.TheVariants.{Delete as Deleting}}
use Rattle.rio_session.specs.{Behind.{IsOfKeys}, Changing.{ChangesFile}, Doable.{IsToDelete}, Does.{Does}, Replying.{Replies, reply_text}, Releases.{deleting}}
use Rattle.rio_session.specs.{Session.{IsReady, SessionState}, SessionState.{kept_trees}, Sound.{IsSoundState}, declared.fault.SessionFault.{SessionFault}}
use Rattle.rio_session.proofs.{Changed.{does_change}, DeleteEffects.{delete_takes_effect_on}, DeleteSteps.{delete_is_change}, States.{of_keys}}

-- ---- which command it is

is_delete : (classes : List ClassDef) (heads : List KeyHead) (c : Command) (h : KeyHead) → WorkCanBeDone classes heads c (Deleting h) → (c ≡ Delete h.name h.cycle) × (head_of h.name (Some h.cycle) heads ≡ Some h)
is_delete classes heads (Bad line place) h can = absurd can
is_delete classes heads (Class class) h can = absurd can
is_delete classes heads (Put name v) h can = absurd can
is_delete classes heads (Batch puts) h can = absurd can
is_delete classes heads (Delete name cycle) h can =
    let own = found_key name cycle heads h can in
    ((λ i. Delete (sym own.0 i) (sym own.1 i)), (λ i. head_of (own.0 i) (Some (own.1 i)) heads) ∙ can)
is_delete classes heads (Tree name branches) h can = absurd can
is_delete classes heads (Fill name row) h can = absurd can
is_delete classes heads (Save name) h can = absurd can
is_delete classes heads (Get name asked version) h can = absurd can
is_delete classes heads (Scan name class) h can = absurd can
is_delete classes heads Ls h can = absurd can

deletes_tree : (classes : List ClassDef) (heads : List KeyHead) (trees : List KeptTree) (name : List ℕ) (cycle : ℕ) (h : KeyHead) → TreeWorkCanBeDone classes heads trees (Delete name cycle) (DeletingTree h)
    → (Delete name cycle ≡ Delete h.name h.cycle) × (head_of h.name (Some h.cycle) heads ≡ Some h)
deletes_tree classes heads trees name cycle h can =
    let first = first_is_found name heads h can.0.key in
    let own = found_key name h.cycle heads h first in
    ((λ i. Delete (sym own.0 i) (sym can.1 i)), ap (λ (n : List ℕ). head_of n (Some h.cycle) heads) own.0 ∙ first)

pub tree_delete : (classes : List ClassDef) (heads : List KeyHead) (trees : List KeptTree) (c : Command) (h : KeyHead) → TreeWorkCanBeDone classes heads trees c (DeletingTree h)
    → (c ≡ Delete h.name h.cycle) × (head_of h.name (Some h.cycle) heads ≡ Some h)
tree_delete classes heads trees (Bad line place) h can = absurd can
tree_delete classes heads trees (Class class) h can = absurd can
tree_delete classes heads trees (Put name v) h can = absurd can
tree_delete classes heads trees (Batch puts) h can = absurd can
tree_delete classes heads trees (Delete name cycle) h can = deletes_tree classes heads trees name cycle h can
tree_delete classes heads trees (Tree name branches) h can = absurd can
tree_delete classes heads trees (Fill name row) h can = absurd can
tree_delete classes heads trees (Save name) h can = absurd can
tree_delete classes heads trees (Get name asked version) h can = absurd can
tree_delete classes heads trees (Scan name class) h can = absurd can
tree_delete classes heads trees Ls h can = absurd can

-- ---- what is to be deleted

-- the command deletes the object or the tree of this key, and the state doesn't refuse it
pub record Deletes (s : SessionState) (c : Command) (h : KeyHead) : Type 0 where
  pub command_is : c ≡ Delete h.name h.cycle
  pub found : head_of h.name (Some h.cycle) s.heads ≡ Some h
  pub free : (m : State) → IsOfKeys s m → refusal_of m (Delete h.name h.cycle) None ≡ None
  pub named : is_item_text h.name ≡ true

free_of : (s : SessionState) (c : Command) (h : KeyHead) (work : AnyWork) → c ≡ Delete h.name h.cycle → IsJudgementOfItems s.classes s.heads (kept_trees s) c (Judgement work) → (m : State) → IsOfKeys s m
    → refusal_of m (Delete h.name h.cycle) None ≡ None
free_of s c h work is judged m keys = (subst (λ (x : Command). IsJudgementOfItems s.classes s.heads (kept_trees s) x (Judgement work)) is judged m keys.classes keys.keys).0

pub to_delete : (s : SessionState) (c : Command) (h : KeyHead) → IsToDelete s c h → Deletes s c h
to_delete s c h (inl todo) =
    let is = is_delete s.classes s.heads c h todo.can.0 in
    record { command_is = is.0; found = is.1; free = free_of s c h (Item (Deleting h)) is.0 todo.judged; named = subst IsStatable is.0 todo.statable }
to_delete s c h (inr todo) =
    let t = tree_delete s.classes s.heads (kept_trees s) c h todo.can in
    record { command_is = t.0; found = t.1; free = free_of s c h (OfTree (DeletingTree h)) t.0 todo.judged; named = subst IsStatable t.0 todo.statable }

-- its key is the session's
pub can_delete : (s : SessionState) (c : Command) (h : KeyHead) → IsToDelete s c h → head_of h.name (Some h.cycle) s.heads ≡ Some h
can_delete s c h todo = (to_delete s c h todo).found

module _ (replies : Replies) (old new : View) (s s' : SessionState) (law : IsLawful old) (law' : IsLawful new) (ready : IsReady old s) (fresh : s.failed ≡ false) (sound : IsSoundState s) (answer : Result Outcome SessionFault) where
  pub delete_is_done : (c : Command) (h : KeyHead) (text : List ℕ) → IsToDelete s c h → text ≡ reply_text replies (item_deleted h.name h.cycle) → ChangesFile (deleting s h text) old new s s' answer
      → IfOk answer (λ outcome. outcome ≡ Accepted) → Does replies old new s s' c answer
  delete_is_done c h text todo text_is changes outcome =
      let d = to_delete s c h todo in
      let kept = sound.kept fresh in
      subst (λ (x : Command). Does replies old new s s' x answer) (sym d.command_is)
      (does_change replies (deleting s h (text_of (item_deleted h.name h.cycle))) old new s s' law ready (Delete h.name h.cycle) answer fresh fresh law'
      (subst (λ (l : List ℕ). ChangesFile (deleting s h l) old new s s' answer) text_is changes) refl
      (λ m keys. delete_is_change s m keys kept h d.found (text_of (item_deleted h.name h.cycle)) (d.free m keys) refl)
      (λ m file holds. let keys = of_keys s m file holds in delete_takes_effect_on s m file holds sound fresh h d.found d.named (d.free m keys))
      outcome)
