-- The facts that storing an object needs, by the command's judgement and what a session keeps.
use Rattle.std.proofs.Common.{◌≡◌, inl, ℕ, ℤ, ◌+◌, ◌^◌, ◌<◌, ◌≤◌, ◌&&◌, List, [], ◌∷◌, map, not, Option, Result, IfOk, Some, None, true, false, sym, ap, subst, ◌∙◌}
use Rattle.std.proofs.lemmas.Bool.{and_parts}
use Rattle.rio_num.specs.Word.{is_item_text}
use Rattle.rio_leaf.specs.Stated.{are_stated_branches}
use Rattle.rio_state.specs.Trees.{can_be_branches}
use Rattle.rio_step.specs.{Refusing.{is_list_name}, Statable.{IsStatable}}
use Rattle.std.specs.{Prelude.{IsSome}, List.{find}, Option.{option_map}}
use Rattle.rio_host.specs.Host.{IsLawful, View}
use Rattle.rio_key.specs.declared.head.KeyHead.{KeyHead}
use Rattle.rio_format.specs.{declared.value.Value.{Value}, declared.class.Base.{Base}}
use Rattle.rio_dir.specs.Table.{head_of, with_head}
use Rattle.rio_chain.specs.Placing.{file_end, place_of, record_count, with_segment}
use Rattle.rio_machine.specs.{Limits.{head_length}, declared.command.Command.{Command, TheVariants.{Bad, Class, Put, Batch, Delete, Tree as MakeTree, Fill, Save, Get, Scan, Ls}}}
use Rattle.rio_machine.specs.{declared.command.Outcome.{Outcome, TheVariants.{Accepted, Refused}}, declared.refusal.Refusal.TheVariants.{Full}}
use Rattle.rio_chain.specs.declared.record.NewRecord.{NewRecord}
use Rattle.rio_state.specs.Closing.{end_limit, is_full, padded_length}
use Rattle.rio_step.specs.{Step.{object_put, refused}}
use Rattle.rio_judge.proofs.KeysOfState.{first_is_found, found_key}
use Rattle.rio_judge.specs.Trees.{IsTreeKeyOf, TreeWorkCanBeDone}
use Rattle.rio_tree_table.specs.Table.{tree_of}
use Rattle.rio_judge.specs.declared.work.{AnyWork.{AnyWork, TheVariants.{Item, Tree}}, TreeWork.{TreeWork, TheVariants.{Make as Making, Fill as Filling, Save as Saving, Delete as DeletingTree, Scan as ScanOf}}}
use Rattle.rio_judge.specs.declared.work.{StoredObject.{StoredObject}, Work.{Work, TheVariants.{Class as Declaring, Put as Storing, Batch as StoringAll, Delete as Deleting, Get as Telling, Ls as Listing}}}
use Rattle.rio_session.specs.{Causes.{NeverReads}, Doable.{AnyCanBeDone, CanBeDone, IsToDo, ReadsNothing}, Does.{Does}, Sound.{IsSoundState}}
use Rattle.rio_recover.specs.Closable.{is_sized}
use Rattle.rio_session.specs.{Changing.{ChangesFile}, Due.{need_with}, Puts.{CanBePut, IsStoredRecord, putting}}
use Rattle.rio_session.specs.{Replying.{Replies, reply_text}, Says.{SaysReply}, Session.{IsReady, SessionState}, declared.fault.SessionFault.{SessionFault}}
use Rattle.rio_session.proofs.{BatchCalls.{can_store_all}, ClassCalls.{can_declare}, CommandDoes.{full_does, is_get, is_put, put_does}, DeleteCalls.{to_delete, tree_delete}, PutFacts.{can_be_put, class_is, name_is, sized_is}, StoredRecords.{is_stored}}
use Rattle.rio_session.specs.{Fills.{FilledTree, is_tree_of, kept_tree_of}, SessionState.{kept_trees}}
use Rattle.rio_session.proofs.FillLists.{kept_found}

-- it can be stored
pub can_store : (s : SessionState) (c : Command) (o : StoredObject) → IsToDo s c (Item (Storing o)) → IsSoundState s → CanBeDone s (Storing o)
can_store s c o todo sound =
    let p = is_put s.classes s.heads c o todo.can.0 in
    let to : IsToDo s (Put o.name p.0) (Item (Storing o)) = subst (λ (x : Command). IsToDo s x (Item (Storing o))) p.1 todo in
    let can = to.can.0.1 in
    (is_stored s.classes o can.class can.object can.written can.last sound.classes to.statable, can.new)

-- it can be printed
pub can_tell : (s : SessionState) (c : Command) (h : KeyHead) (version : Option ℤ) → IsToDo s c (Item (Telling h version)) → CanBeDone s (Telling h version)
can_tell s c h version todo =
    let p = is_get s.classes s.heads c h version todo.can.0 in
    let found : head_of p.0 (Some h.cycle) s.heads ≡ Some h = (subst (λ (x : Command). IsToDo s x (Item (Telling h version))) p.2 todo).can.0.1 in
    subst (λ (n : List ℕ). head_of n (Some h.cycle) s.heads ≡ Some h) (sym (found_key p.0 h.cycle s.heads h found).0) found

pub item_can_be_done : (s : SessionState) (c : Command) (work : Work) → IsToDo s c (Item work) → IsSoundState s → CanBeDone s work
item_can_be_done s c (Storing o) todo sound = can_store s c o todo sound
item_can_be_done s c (StoringAll os) todo sound = can_store_all s c os todo sound
item_can_be_done s c (Deleting h) todo sound = (to_delete s c h (inl todo)).found
item_can_be_done s c (Declaring d) todo sound = can_declare s c d todo sound
item_can_be_done s c (Telling h version) todo sound = can_tell s c h version todo
item_can_be_done s c Listing todo sound = tt

some_mapped : (o : Option FilledTree) → IsSome (option_map kept_tree_of o) → IsSome o
some_mapped None i = i
some_mapped (Some t) i = i

-- a tree that is kept for judgements is there
pub tree_there : (name : List ℕ) (trees : List FilledTree) → IsSome (tree_of name (map kept_tree_of trees)) → IsSome (find (is_tree_of name) trees)
tree_there name trees i = some_mapped (find (is_tree_of name) trees) (subst IsSome (kept_found name trees) i)

-- the key of a tree, under its own name
record IsOwnKey (s : SessionState) (h : KeyHead) : Type 0 where
  key : head_of h.name None s.heads ≡ Some h
  there : IsSome (find (is_tree_of h.name) s.trees)

own_key : (s : SessionState) (name : List ℕ) (h : KeyHead) → IsTreeKeyOf s.heads (kept_trees s) name h → IsOwnKey s h
own_key s name h is =
    let own = (found_key name h.cycle s.heads h (first_is_found name s.heads h is.key)).0 in
    record {
      key = ap (λ (n : List ℕ). head_of n None s.heads) own ∙ is.key;
      there = subst (λ (n : List ℕ). IsSome (find (is_tree_of n) s.trees)) (sym own) (tree_there name s.trees is.tree);
    }

tree_can_be_done : (s : SessionState) (c : Command) (work : TreeWork) → IsStatable c → TreeWorkCanBeDone s.classes s.heads (kept_trees s) c work → AnyCanBeDone s (Tree work)
tree_can_be_done s (MakeTree name branches) (Making t) statable can =
    let parts = and_parts (is_item_text name) (are_stated_branches branches) statable in
    let stated = parts.1 in
    let few = can.few in
    let known = can.known in
    let branches_can : can_be_branches s.classes branches ≡ true = λ i. stated i && not (few i) && not (known i) in
    record {
      new = ap (λ (n : List ℕ). head_of n None s.heads) can.named ∙ can.new;
      room = can.room;
      item = ap is_item_text can.named ∙ parts.0;
      free = ap is_list_name can.named ∙ can.free;
      branches = ap (can_be_branches s.classes) can.stated ∙ branches_can;
    }
tree_can_be_done s (Fill name row) (Filling r) statable can =
    let key = can.2 in (
      subst (λ (n : List ℕ). IsSome (find (is_tree_of n) s.trees)) (sym can.0) (tree_there name s.trees key.1.tree),
      (key.0, ap (λ (n : List ℕ). head_of n None s.heads) can.0 ∙ key.1.key, sym key.2),
    )
tree_can_be_done s (Save name) (Saving h) statable can = let own = own_key s name h can.0 in (own.key, own.there, can.1)
tree_can_be_done s (Delete name cycle) (DeletingTree h) statable can = (tree_delete s.classes s.heads (kept_trees s) (Delete name cycle) h can).1
tree_can_be_done s (Scan name class) (ScanOf h asked) statable can = let own = own_key s name h can.0 in (own.key, own.there)
tree_can_be_done s (Bad line place) work statable can = absurd can
tree_can_be_done s (Class class) work statable can = absurd can
tree_can_be_done s (Put name v) work statable can = absurd can
tree_can_be_done s (Batch puts) work statable can = absurd can
tree_can_be_done s (Get name asked version) work statable can = absurd can
tree_can_be_done s Ls work statable can = absurd can
tree_can_be_done s (MakeTree name branches) other statable can = absurd can
tree_can_be_done s (Fill name row) other statable can = absurd can
tree_can_be_done s (Save name) other statable can = absurd can
tree_can_be_done s (Delete name cycle) other statable can = absurd can
tree_can_be_done s (Scan name class) other statable can = absurd can

pub can_do : (s : SessionState) (c : Command) (work : AnyWork) → IsToDo s c work → IsSoundState s → AnyCanBeDone s work
can_do s c (Item work) todo sound = item_can_be_done s c work todo sound
can_do s c (Tree work) todo sound = tree_can_be_done s c work todo.statable todo.can

-- a scan is a scan's
scans : (s : SessionState) (c : Command) (h : KeyHead) (class : Option Base) → TreeWorkCanBeDone s.classes s.heads (kept_trees s) c (ScanOf h class) → NeverReads c → ⊥
scans s (Scan name asked) h class can never = never
scans s (Bad line place) h class can never = absurd can
scans s (Class d) h class can never = absurd can
scans s (Put name v) h class can never = absurd can
scans s (Batch puts) h class can never = absurd can
scans s (Delete name cycle) h class can never = absurd can
scans s (MakeTree name branches) h class can never = absurd can
scans s (Fill name row) h class can never = absurd can
scans s (Save name) h class can never = absurd can
scans s (Get name asked version) h class can never = absurd can
scans s Ls h class can never = absurd can

-- a command that doesn't read the file has work that doesn't
pub reads_nothing : (s : SessionState) (c : Command) (work : AnyWork) → IsToDo s c work → NeverReads c → ReadsNothing work
reads_nothing s c (Item (Declaring d)) todo never = tt
reads_nothing s c (Item (Storing o)) todo never = tt
reads_nothing s c (Item (StoringAll os)) todo never = tt
reads_nothing s c (Item (Deleting h)) todo never = tt
reads_nothing s c (Item (Telling h version)) todo never = let p = is_get s.classes s.heads c h version todo.can.0 in subst NeverReads p.2 never
reads_nothing s c (Item Listing) todo never = tt
reads_nothing s c (Tree (Making t)) todo never = tt
reads_nothing s c (Tree (Filling r)) todo never = tt
reads_nothing s c (Tree (Saving h)) todo never = tt
reads_nothing s c (Tree (DeletingTree h)) todo never = tt
reads_nothing s c (Tree (ScanOf h class)) todo never = scans s c h class todo.can never

module _ (s : SessionState) (o : StoredObject) (can : CanBeDone s (Storing o)) (sound : IsSoundState s) (n need : ℕ) (n_is : n ≡ padded_length (head_length o.class o.name + o.length))
    (need_is : (h : KeyHead) → is_sized h ≡ true → h.class ≡ o.class → h.name ≡ o.name → need ≡ need_with s.name (with_head h s.heads) (record_count s.segments + 1) s.trees) where
  pub record_can_be_put : (place : ℕ) (made : NewRecord) → place < 2 ^ 32 → IsStoredRecord s place o made → place ≡ place_of s.segments n
      → file_end (with_segment (place_of s.segments n) n s.segments) + need ≤ end_limit → CanBePut s made
  record_can_be_put place made low r at fits =
      can_be_put s place o made r need low can.0.key_short (at ∙ ap (place_of s.segments) n_is) can.1
      (need_is made.head (sized_is s place o made r) (class_is s place o made r) (name_is s place o made r))
      (subst (λ (k : ℕ). file_end (with_segment (place_of s.segments k) k s.segments) + need ≤ end_limit) n_is fits)

  module _ (replies : Replies) (old new : View) (s' : SessionState) (law : IsLawful old) (law' : IsLawful new) (ready : IsReady old s) (fresh : s.failed ≡ false) (soon : s.datime < 2 ^ 32) (answer : Result Outcome SessionFault)
      (cost : ℕ) (cost_is : cost ≡ 500 + o.length) (c : Command) (todo : IsToDo s c (Item (Storing o))) where
    abbrev v : Value
    v = (is_put s.classes s.heads c o todo.can.0).0

    is : c ≡ Put o.name (is_put s.classes s.heads c o todo.can.0).0
    is = (is_put s.classes s.heads c o todo.can.0).1

    to : IsToDo s (Put o.name (is_put s.classes s.heads c o todo.can.0).0) (Item (Storing o))
    to = subst (λ (x : Command). IsToDo s x (Item (Storing o))) is todo

    pub put_is_done : (place : ℕ) (made : NewRecord) (text : List ℕ) → place < 2 ^ 32 → IsStoredRecord s place o made → text ≡ reply_text replies (object_put o.name o.cycle)
        → place ≡ place_of s.segments n → is_full s.segments (n ∷ []) need ≡ false → ChangesFile (putting s made text cost) old new s s' answer → IfOk answer (λ outcome. outcome ≡ Accepted) → Does replies old new s s' c answer
    put_is_done place made text low r text_is at room changes outcome =
        subst (λ (x : Command). Does replies old new s s' x answer) (sym is)
        (put_does replies old new s s' law law' ready fresh answer v o n need cost sound.classes (sound.kept fresh) to.statable soon to.judged can.1 n_is need_is cost_is
        place made text low r text_is at room changes outcome)

    pub full_is_said : (end wanted : ℕ) → end ≡ file_end s.segments → wanted ≡ n → is_full s.segments (n ∷ []) need ≡ true → SaysReply (reply_text replies (refused (Full end wanted))) cost old new s s' answer
        → IfOk answer (λ outcome. outcome ≡ Refused (Full end wanted)) → Does replies old new s s' c answer
    full_is_said end wanted end_is wanted_is room says outcome =
        subst (λ (x : Command). Does replies old new s s' x answer) (sym is)
        (full_does replies old new s s' law law' ready fresh answer v o n need cost sound.classes (sound.kept fresh) to.statable soon to.judged can.1 n_is need_is cost_is
        can.0.key_short room
        (subst (λ (x : ℕ × ℕ). SaysReply (reply_text replies (refused (Full x.0 x.1))) cost old new s s' answer) (λ i. (end_is i, wanted_is i)) says)
        (subst (λ (x : ℕ × ℕ). IfOk answer (λ outcome. outcome ≡ Refused (Full x.0 x.1))) (λ i. (end_is i, wanted_is i)) outcome))
