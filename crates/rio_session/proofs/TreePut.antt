-- A new tree is kept by a session: it may be, and what is kept then is what its records make of it.
use Rattle.std.proofs.Common.{◌≡◌, ◌∙◌, ◌==◌, ◌&&◌, ℕ, ◌+◌, ◌≤◌, Bool, true, false, cond, codes, List, [], ◌∷◌, length, map, Option, Some, None, refl, sym, ap, subst, arith}
use Rattle.std.specs.{Prelude.{if◌then◌else◌}, List.{find}, Option.{option_map, option_or}}
use Rattle.rio_num.specs.Text.{text_bytes}
use Rattle.rio_num.proofs.TextLengths.{short_text_bytes}
use Rattle.rio_leaf.specs.declared.branch.BranchDef.{BranchDef}
use Rattle.rio_format.specs.declared.class.ClassDef.{ClassDef}
use Rattle.rio_key.specs.{Written.{written_key}, declared.head.KeyHead.{KeyHead}}
use Rattle.rio_dir.specs.Table.{head_of, heads_size, is_at_cycle, is_of_name, with_head}
use Rattle.rio_chain.specs.{Adjoining.{AreSegments}, Placing.{file_end}, declared.segment.Segment.{Segment}}
use Rattle.rio_tree.specs.declared.head.Branch.{Branch}
use Rattle.rio_tree_table.specs.{Table.{tree_of, with_tree}, declared.table.KeptTree.{KeptTree}}
use Rattle.rio_judge.specs.declared.work.NewTree.{NewTree}
use Rattle.rio_fill.specs.{Fill.{BranchFill, branch_fill_of}, Room.{without_room}}
use Rattle.rio_state.specs.Closing.{end_limit}
use Rattle.rio_effect.specs.TreeRecords.{header_key}
use Rattle.rio_recover.specs.{Classes.{HasListCycle}, TreeTable.{is_name_before}, Whole.{HoldsDirectory}}
use Rattle.rio_session.specs.{Doable.{IsNewTree}, Due.{IsClosableWith, due_of}, Fills.{FilledTree, bare_tree, is_tree_of, kept_tree_of, with_filled}, SessionState.{SessionState}}
use Rattle.rio_session.specs.{Steps.{CanRun, all_stepped, changes_of}, TreePlans.{IsTreeMade, head_now, header_place, listing_now, making_now, need_of_tree}, declared.tree.TreeMade.{TreeMade}}
use Rattle.rio_session.proofs.{Bare.{bare_found}, FillLists.{kept_found, kept_with}, Keeps.{size_with}, KeepsNew.{due_same}, NewFills.{new_filled, none_mapped}, TreeKept.{directory_then, tree_kept, tree_listed, tree_view}, TreePlanned.{named_short}, TreeRoom.{key_long}}

-- ---- names

-- where no key has a name none has it in a cycle
no_cycle : (name : List ℕ) (cycle : ℕ) (heads : List KeyHead) → head_of name None heads ≡ None → find (is_at_cycle name cycle) heads ≡ None
no_cycle name cycle [] none = refl
no_cycle name cycle (h ∷ heads) none = by (is_of_name name h) refl none (no_cycle name cycle heads)
  where
    by : (b : Bool) → is_of_name name h ≡ b → cond b (Some h) (find (is_of_name name) heads) ≡ None → (find (is_of_name name) heads ≡ None → find (is_at_cycle name cycle) heads ≡ None) → find (is_at_cycle name cycle) (h ∷ heads) ≡ None
    by true is e rest = absurd cc
    by false is e rest = ap (λ (b : Bool). cond (b && (h.cycle == cycle)) (Some h) (find (is_at_cycle name cycle) heads)) is ∙ rest e

header_name : (place datime : ℕ) (name : List ℕ) (s : SessionState) (branches : List BranchDef) → (header_key place datime name 1 (head_now s branches)).name ≡ name
unfolding header_key
header_name place datime name s branches = refl

-- ---- without rooms

empty_bare : (bs : List Branch) → map without_room (map branch_fill_of bs) ≡ map branch_fill_of bs
empty_bare [] = refl
empty_bare (b ∷ bs) = ap (λ (l : List BranchFill). branch_fill_of b ∷ l) (empty_bare bs)

with_bare : (t : FilledTree) (ts : List FilledTree) → map bare_tree (with_filled t ts) ≡ with_filled (bare_tree t) (map bare_tree ts)
with_bare t [] = refl
with_bare t (u ∷ us) = by (is_name_before u.name t.name) (with_bare t us)
  where
    by : (b : Bool) → map bare_tree (with_filled t us) ≡ with_filled (bare_tree t) (map bare_tree us)
        → map bare_tree (if b then u ∷ with_filled t us else t ∷ u ∷ us) ≡ (if b then bare_tree u ∷ with_filled (bare_tree t) (map bare_tree us) else bare_tree t ∷ bare_tree u ∷ map bare_tree us)
    by true later = ap (λ (l : List FilledTree). bare_tree u ∷ l) later
    by false later = refl

new_bare : (name : List ℕ) (s : SessionState) (branches : List BranchDef) → bare_tree (new_filled name s.classes branches) ≡ new_filled name s.classes branches
new_bare name s branches = let same = empty_bare (head_now s branches).branches in λ i. record { name = name; fill = record { saved = 0; pending = 0; branches = same i } }

-- ---- what was made

-- The session is one as which it is seen.
module _ (other s : SessionState) (view_is : s ≡ other) (trees : List FilledTree) (same : s.trees ≡ map bare_tree trees) (name : List ℕ) (branches : List BranchDef) (made : TreeMade) (m : IsTreeMade other name branches made) where
  its : IsTreeMade s name branches made
  its = subst (λ (x : SessionState). IsTreeMade x name branches made) (sym view_is) m

  abbrev key : KeyHead
  key = header_key (header_place s name branches) s.datime name 1 (head_now s branches)

  pub tree_runs : CanRun made.steps.items s.segments
  tree_runs = its.run

  pub tree_changes : (making_now other name branches).changes ≡ changes_of made.steps.items
  tree_changes = sym m.changes

  trees_then : map bare_tree (with_filled made.tree trees) ≡ with_filled (new_filled name s.classes branches) s.trees
  trees_then = with_bare made.tree trees ∙ (λ i. with_filled ((ap bare_tree its.tree ∙ new_bare name s branches) i) (sym same i))

  pub tree_due : due_of (with_filled made.tree trees) ≡ due_of trees
  tree_due = ap (λ (t : FilledTree). due_of (with_filled t trees)) its.tree ∙ due_same name s.classes branches trees

  pub tree_rows : (kept : List KeptTree) → kept ≡ map kept_tree_of trees → with_tree made.kept kept ≡ map kept_tree_of (with_filled made.tree trees)
  tree_rows kept kept_are = (λ i. with_tree (its.kept i) (kept_are i)) ∙ sym (kept_with made.tree trees)

  pub tree_size : heads_size (with_head made.head s.heads) ≡ heads_size s.heads + length (written_key made.head)
  tree_size = size_with made.head s.heads

  module _ (segments : List Segment) (segments_are : segments ≡ all_stepped made.steps.items s.segments) (heads : List KeyHead) (heads_are : heads ≡ with_head made.head s.heads) (now : List FilledTree) (now_are : now ≡ with_filled made.tree trees)
      (info : Option KeyHead) (info_is : info ≡ option_or made.list s.info) where
    segments_so : segments ≡ (making_now s name branches).kept.segments
    segments_so = segments_are ∙ its.segments_are

    heads_so : heads ≡ with_head key s.heads
    heads_so = heads_are ∙ ap (λ (h : KeyHead). with_head h s.heads) its.head

    now_so : map bare_tree now ≡ with_filled (new_filled name s.classes branches) s.trees
    now_so = ap (map bare_tree) now_are ∙ trees_then

    info_so : info ≡ (listing_now s).kept.info
    info_so = info_is ∙ its.list

    pub made_view : record s { segments = segments; heads = heads; trees = map bare_tree now; info = info } ≡ (making_now other name branches).kept
    made_view =
        (λ i. record s { segments = segments_so i; heads = heads_so i; trees = now_so i; info = info_so i })
        ∙ tree_view s name branches
        ∙ ap (λ (x : SessionState). (making_now x name branches).kept) view_is

    pub made_directory : (nbytes_name : ℕ) → HoldsDirectory nbytes_name s.segments → HoldsDirectory nbytes_name segments
    made_directory nbytes_name holds = subst (HoldsDirectory nbytes_name) (sym segments_so) (directory_then s name branches nbytes_name holds)

    pub made_listed : HasListCycle s.info s.classes → HasListCycle info s.classes
    made_listed has = subst (λ (o : Option KeyHead). HasListCycle o s.classes) (sym info_so) (tree_listed s has)

    pub made_closable : length name ≤ 100 → AreSegments segments → IsClosableWith s.segments s.heads s.trees s.info s.name → IsClosableWith segments heads (map bare_tree now) info s.name
    made_closable short shape kept =
        let form : AreSegments (making_now s name branches).kept.segments = subst AreSegments segments_so shape in
        subst (λ (x : List Segment × List KeyHead × List FilledTree × Option KeyHead). IsClosableWith x.0 x.1 x.2 x.3 s.name) (λ i. (sym segments_so i, sym heads_so i, sym now_so i, sym info_so i))
        (tree_kept s name branches kept short form (its_fits its.segments_are))
      where
        its_fits : all_stepped made.steps.items s.segments ≡ (making_now s name branches).kept.segments → file_end (making_now s name branches).kept.segments + need_of_tree s name (length (making_now s name branches).lengths) ≤ end_limit
        its_fits is = subst (λ (x : List Segment). file_end x + need_of_tree s name (length (making_now s name branches).lengths) ≤ end_limit) is its.fits

-- of a tree with a new name
module _ (other s : SessionState) (view_is : s ≡ other) (trees : List FilledTree) (same : s.trees ≡ map bare_tree trees) (made : TreeMade)
    (can : (new : NewTree) × IsNewTree other new × (find (is_tree_of new.name) other.trees ≡ None) × IsTreeMade other new.name new.branches made) where
  abbrev t : NewTree
  t = can.0

  own : IsNewTree s can.0
  own = subst (λ (x : SessionState). IsNewTree x can.0) (sym view_is) can.1

  its_own : IsTreeMade s can.0.name can.0.branches made
  its_own = subst (λ (x : SessionState). IsTreeMade x can.0.name can.0.branches made) (sym view_is) can.3

  pub new_short : length can.0.name ≤ 100
  new_short = named_short s t own

  head_name : made.head.name ≡ can.0.name
  head_name = ap (λ (h : KeyHead). h.name) its_own.head ∙ header_name (header_place s t.name t.branches) s.datime t.name s t.branches

  pub new_key : length (written_key made.head) ≤ 200
  new_key =
      let class : length (text_bytes (codes "TTree")) ≡ 6 = refl in
      let title : length (text_bytes []) ≡ 1 = refl in
      omega (
        arith,
        ap (λ (h : KeyHead). length (written_key h)) its_own.head,
        key_long (header_place s t.name t.branches) s.datime t.name (head_now s t.branches),
        short_text_bytes t.name new_short,
        class,
        title,
      )

  pub new_head_name : find (is_at_cycle made.head.name made.head.cycle) s.heads ≡ None
  new_head_name = no_cycle made.head.name made.head.cycle s.heads (ap (λ (n : List ℕ). head_of n None s.heads) head_name ∙ own.new)

  tree_name : made.tree.name ≡ can.0.name
  tree_name = ap (λ (u : FilledTree). u.name) its_own.tree

  pub new_tree_name : find (is_tree_of made.tree.name) trees ≡ None
  new_tree_name =
      let none : find (is_tree_of t.name) s.trees ≡ None = ap (λ (x : SessionState). find (is_tree_of t.name) x.trees) view_is ∙ can.2 in
      ap (λ (n : List ℕ). find (is_tree_of n) trees) tree_name
      ∙ none_mapped bare_tree (find (is_tree_of t.name) trees) (sym (bare_found t.name trees) ∙ ap (find (is_tree_of t.name)) (sym same) ∙ none)

  pub new_kept_name : (kept : List KeptTree) → kept ≡ map kept_tree_of trees → tree_of made.kept.name kept ≡ None
  new_kept_name kept kept_are =
      (λ i. tree_of (its_own.kept i).name (kept_are i)) ∙ kept_found made.tree.name trees ∙ ap (option_map kept_tree_of) new_tree_name
