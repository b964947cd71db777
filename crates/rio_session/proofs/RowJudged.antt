-- A fill whose row was judged: where its entries were made and nothing refuses it, it can be done; else it is refused.
use Rattle.std.proofs.Common.{zero, suc, ◌≡◌, ◌≢◌, ◌∙◌, ℕ, ◌≤◌, List, [], ◌∷◌, length, map, Bool, true, false, Option, Some, None, Result, Ok, Err, IfOk, refl, sym, ap, subst, arith}
use Rattle.std.proofs.lemmas.{Bool.{and_parts, ltb-false, or_parts}, Option.{same_Some}, List.{length-map, Elements.{All-from_recursion}}}
use Rattle.std.specs.{Prelude.{if◌then◌else◌, option_and_then, slice_get}, FinMap.{get}, List.{AllByRecursion, find, list_any}, Option.{option_map}}
use Rattle.rio_num.specs.{Answers.{GivesUnless}, Word.{is_item_text}}
use Rattle.rio_format.specs.declared.class.ClassDef.{ClassDef}
use Rattle.rio_leaf.specs.declared.branch.BranchDef.{BranchDef}
use Rattle.rio_key.specs.declared.head.KeyHead.{KeyHead}
use Rattle.rio_tree_table.specs.{declared.table.KeptTree.{KeptTree}}
use Rattle.rio_machine.specs.{Limits.{has_long_entry, is_too_long}, Rows.{entries_of, row_fits}, State.{Row, State, Tree}, declared.command.Command.{Command, TheVariants.{Bad, Class, Put, Batch, Delete, Tree as MakeTree, Fill, Save, Get, Scan, Ls}}}
use Rattle.rio_machine.specs.{declared.entry_fault.EntryFault.{EntryFault, TheVariants.{BadRow, TooLarge, NoMemory}}, declared.refusal.Refusal.{Refusal}}
use Rattle.rio_fill.specs.{Fill.{BranchFill, defs_of}, Prepare.{are_sized, is_sized, row_prepared}, Room.{without_room}}
use Rattle.rio_step.specs.{KeptItems.{AreItemsOfState, kept_tree}, Refusing.{fill_row, refusal_of}, Statable.{IsStatable}}
use Rattle.rio_judge.proofs.ItemsOfState.{names_one_tree}
use Rattle.rio_judge.specs.{Judging.{refused_by_object}, Trees.{IsJudgementOfItems, IsRowFault, IsRowJudgement, IsTreeWorkOf, TreeWorkCanBeDone, row_fault}, declared.work.NewRow.{NewRow}}
use Rattle.rio_judge.specs.declared.work.{AnyWork.TheVariants.{Tree as OfTree}, JudgedWithTrees.TheVariants.{Refused}, TreeWork.TheVariants.{Fill as Filling}}
use Rattle.rio_session.specs.{Doable.{IsToDo}, Fills.{FilledTree, bare_tree, is_tree_of, kept_tree_of}, RowPlans.{IsFillOf, IsNamedAt, IsPreparedOf, IsRowOf}, SessionState.{SessionState, kept_trees}}
use Rattle.rio_session.proofs.{Bare.{bare_found, defs_bare}, FillLists.{kept_found}}

-- ---- the entries

record IsMade (classes : List ClassDef) (branches : List BranchDef) (row : Row) (entries : List (List ℕ)) : Type 0 where
  fault : row_fault classes branches row ≡ None
  entries_are : entries_of classes branches row ≡ entries
  short : has_long_entry classes branches row ≡ false

made_by : (classes : List ClassDef) (branches : List BranchDef) (row : Row) (entries : List (List ℕ)) → row_prepared classes branches row ≡ Ok entries → IsMade classes branches row entries
made_by classes branches row entries is = by (row_fits classes branches row) refl (has_long_entry classes branches row) refl is
  where
    by : (fits : Bool) → row_fits classes branches row ≡ fits → (long : Bool) → has_long_entry classes branches row ≡ long
        → (if fits then (if long then Err TooLarge else Ok (entries_of classes branches row)) else Err BadRow) ≡ Ok entries → IsMade classes branches row entries
    by true f true l e = absurd cc
    by true f false l e =
        let same : entries_of classes branches row ≡ entries = cc in
        record { fault = λ i. if f i then (if l i then Some TooLarge else None) else Some BadRow; entries_are = same; short = l }
    by false f long l e = absurd cc

-- why there are none
fault_by : (classes : List ClassDef) (branches : List BranchDef) (row : Row) (fault : EntryFault) → row_prepared classes branches row ≡ Err fault → row_fault classes branches row ≡ Some fault
fault_by classes branches row fault is = by (row_fits classes branches row) (has_long_entry classes branches row) (entries_of classes branches row) is
  where
    by : (fits long : Bool) (entries : List (List ℕ)) → (if fits then (if long then Err TooLarge else Ok entries) else Err BadRow) ≡ Err fault → (if fits then (if long then Some TooLarge else None) else Some BadRow) ≡ Some fault
    by true true entries e = let same : TooLarge ≡ fault = cc in λ i. Some (same i)
    by true false entries e = absurd cc
    by false long entries e = let same : BadRow ≡ fault = cc in λ i. Some (same i)

short_each : (entries : List (List ℕ)) → list_any (λ entry. is_too_long (length entry)) entries ≡ false → AllByRecursion (λ (e : List ℕ). length e ≤ 16777216) entries
short_each [] none = tt
short_each (e ∷ es) none =
    let two = or_parts (is_too_long (length e)) (list_any (λ entry. is_too_long (length entry)) es) none in
    (ltb-false 16777216 (length e) two.0, short_each es two.1)

sized_long : (branches : List BranchDef) (entries : List (List ℕ)) → are_sized branches entries ≡ true → length entries ≡ length branches
sized_long [] [] e = refl
sized_long [] (x ∷ entries) e = absurd cc
sized_long (b ∷ branches) [] e = absurd cc
sized_long (b ∷ branches) (x ∷ entries) e = let rest = sized_long branches entries (and_parts (is_sized b.shape x) (are_sized branches entries) e).1 in omega (arith, rest)

-- ---- which command it is

pub is_fill : (classes : List ClassDef) (heads : List KeyHead) (trees : List KeptTree) (c : Command) (r : NewRow) → TreeWorkCanBeDone classes heads trees c (Filling r) → (row : Row) × (c ≡ Fill r.name row)
is_fill classes heads trees (Bad line place) r can = absurd can
is_fill classes heads trees (Class class) r can = absurd can
is_fill classes heads trees (Put name v) r can = absurd can
is_fill classes heads trees (Batch puts) r can = absurd can
is_fill classes heads trees (Delete name cycle) r can = absurd can
is_fill classes heads trees (MakeTree name branches) r can = absurd can
is_fill classes heads trees (Fill name row) r can = (row, ap (λ (n : List ℕ). Fill n row) (sym can.0))
is_fill classes heads trees (Save name) r can = absurd can
is_fill classes heads trees (Get name asked version) r can = absurd can
is_fill classes heads trees (Scan name class) r can = absurd can
is_fill classes heads trees Ls r can = absurd can

-- ---- the judgement of the row

module _ (s : SessionState) (r : NewRow) (t : FilledTree) (found : find (is_tree_of r.name) s.trees ≡ Some t) (c : Command) (todo : IsToDo s c (OfTree (Filling r))) where
  abbrev row : Row
  row = (is_fill s.classes s.heads (kept_trees s) c r todo.can).0

  command_is : c ≡ Fill r.name row
  command_is = (is_fill s.classes s.heads (kept_trees s) c r todo.can).1

  abbrev defs : List BranchDef
  defs = defs_of t.fill.branches

  named : is_item_text r.name ≡ true
  named = subst IsStatable command_is todo.statable

  module _ (m : State) (classes : m.classes ≡ s.classes) (items : AreItemsOfState s.heads (kept_trees s) m) where
    judged : (refusal_of m (Fill r.name row) None ≡ refused_by_object m (Fill r.name row)) × IsTreeWorkOf m (Fill r.name row) (Filling r)
    judged = subst (λ (d : Command). (refusal_of m d None ≡ refused_by_object m d) × IsTreeWorkOf m d (Filling r)) command_is (todo.judged m classes items)

    row_is : fill_row m row ≡ r.row
    row_is = sym judged.1.1

    its_tree : (x : Tree) × (get m.trees r.name ≡ Some x) × (kept_tree (r.name, x) ≡ kept_tree_of t)
    its_tree = let n = names_one_tree s.heads (kept_trees s) m items r.name (kept_tree_of t) (kept_found r.name s.trees ∙ ap (option_map kept_tree_of) found) in (n.tree, n.there, n.kept)

    fault_at : (fault : Option EntryFault) → row_fault s.classes defs r.row ≡ fault → IsRowFault m r.name r.row fault
    fault_at fault is =
        let branches : its_tree.0.branches ≡ defs = ap (λ (k : KeptTree). k.branches) its_tree.2 in
        ap (option_and_then (λ x. row_fault m.classes x.branches r.row)) its_tree.1
        ∙ (λ i. row_fault (classes i) (branches i) r.row)
        ∙ is

    pub row_refusal : (fault : Option EntryFault) (refusal : Option Refusal) → row_fault s.classes defs r.row ≡ fault → IsRowJudgement r fault refusal → refusal ≡ refusal_of m (Fill r.name row) None
    row_refusal fault refusal is judges = judges m r.name row judged.0 judged.1 (fault_at fault is)

  -- ---- it is refused

  refused_so : (fault : Option EntryFault) (refusal : Refusal) → row_fault s.classes defs r.row ≡ fault → IsRowJudgement r fault (Some refusal) → IsJudgementOfItems s.classes s.heads (kept_trees s) c (Refused refusal)
  refused_so fault refusal is judges m classes items =
      ap (λ (d : Command). refusal_of m d None) command_is ∙ sym (row_refusal m classes items fault (Some refusal) is judges)

  pub made_and_refused : (entries : List (List ℕ)) → IsPreparedOf s t r (Ok entries) → (refusal : Refusal) → IsRowJudgement r None (Some refusal) → IsJudgementOfItems s.classes s.heads (kept_trees s) c (Refused refusal)
  made_and_refused entries made refusal judges = refused_so None refusal (made_by s.classes defs r.row entries made.exact).fault judges

  pub not_made : (fault : EntryFault) → fault ≢ NoMemory → IsPreparedOf s t r (Err fault) → (refusal : Refusal) → IsRowJudgement r (Some fault) (Some refusal) → IsJudgementOfItems s.classes s.heads (kept_trees s) c (Refused refusal)
  not_made fault other made refusal judges = refused_so (Some fault) refusal (fault_by s.classes defs r.row fault (made.exact other)) judges

  -- ---- or it can be done

  pub fill_of : (entries : List (List ℕ)) → IsPreparedOf s t r (Ok entries) → IsRowJudgement r None None → IsFillOf s r entries c
  fill_of entries made judges =
      let is = made_by s.classes defs r.row entries made.exact in
      record {
        row = row;
        fill = command_is;
        named = named;
        free = λ m keys. sym (row_refusal m keys.classes keys.keys None None is.fault judges);
        made = λ m u keys there.
            let same : u ≡ t = same_tree u there in
            let classes = keys.classes in
            let its_row = row_is m keys.classes keys.keys in
            (λ i. entries_of (classes i) (defs_of (same i).fill.branches) (its_row i)) ∙ is.entries_are;
      }
    where
      same_tree : (u : FilledTree) → find (is_tree_of r.name) s.trees ≡ Some u → u ≡ t
      same_tree u there = same_Some u t (sym there ∙ found)

-- and its entries are such as a row has
pub row_of : (s : SessionState) (r : NewRow) (t : FilledTree) (entries : List (List ℕ)) → IsPreparedOf s t r (Ok entries) → IsRowOf t entries
row_of s r t entries made =
    let defs = defs_of t.fill.branches in
    let is = made_by s.classes defs r.row entries made.exact in
    let each : length entries ≡ length t.fill.branches = sized_long defs entries made.sized ∙ length-map t.fill.branches (λ (b : BranchFill). b.def) in
    record {
      each = each;
      few = omega (arith, each, made.few);
      small = All-from_recursion (λ (e : List ℕ). length e ≤ 16777216) entries (short_each entries (ap (list_any (λ entry. is_too_long (length entry))) (sym is.entries_are) ∙ is.short));
      sized = made.sized;
    }

-- ---- the tree as it is kept, with rooms

there_seen : (trees : List FilledTree) (at : ℕ) (u : FilledTree) → slice_get trees at ≡ Some u → slice_get (map bare_tree trees) at ≡ Some (bare_tree u)
there_seen [] zero u is = absurd cc
there_seen [] (suc at) u is = absurd cc
there_seen (t ∷ ts) zero u is = ap (λ (v : FilledTree). let o : Option FilledTree = Some (bare_tree v) in o) (same_Some t u is)
there_seen (t ∷ ts) (suc at) u is = there_seen ts at u is

pub named_seen : (other s : SessionState) → s ≡ other → (trees : List FilledTree) → s.trees ≡ map bare_tree trees → (name : List ℕ) (at : ℕ) (u : FilledTree) → find (is_tree_of name) trees ≡ Some u → slice_get trees at ≡ Some u
    → IsNamedAt other name at (bare_tree u)
named_seen other s view_is trees same name at u found there =
    let is : other.trees ≡ map bare_tree trees = ap (λ (x : SessionState). x.trees) (sym view_is) ∙ same in
    record {
      found = ap (find (is_tree_of name)) is ∙ bare_found name trees ∙ ap (option_map bare_tree) found;
      there = ap (λ (l : List FilledTree). slice_get l at) is ∙ there_seen trees at u there;
    }

pub prepared_seen : (s : SessionState) (r : NewRow) (u : FilledTree) (classes : List ClassDef) (defs : List BranchDef) (row : Row) (found : Result (List (List ℕ)) EntryFault) → classes ≡ s.classes → defs ≡ defs_of u.fill.branches → row ≡ r.row
    → GivesUnless NoMemory (λ entries. entries) found (row_prepared classes defs row) → IfOk found (λ entries. are_sized defs entries ≡ true) → length u.fill.branches ≤ 64 → IsPreparedOf s (bare_tree u) r found
prepared_seen s r u classes defs row found classes_are defs_are row_is exact sized few =
    let seen = defs_are ∙ sym (defs_bare u.fill.branches) in
    record {
      exact = subst (GivesUnless NoMemory (λ entries. entries) found) (λ i. row_prepared (classes_are i) (seen i) (row_is i)) exact;
      sized = subst (λ (ds : List BranchDef). IfOk found (λ entries. are_sized ds entries ≡ true)) seen sized;
      few = omega (arith, few, length-map u.fill.branches without_room);
    }
