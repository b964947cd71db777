-- Commands: what is read, and the first tokens that can't stand.
use Rattle.std.proofs.Common.{◌≡◌, ℕ, suc, ◌-◌, ℤ, List, [], ◌∷◌, ◌++◌, codes, true, if◌then◌else◌, Option, None, Ok, refl, sym, ◌∙◌, ap, subst, arith, Bool, false, Err}
use Rattle.rio_num.specs.{At.{At}, Reading.{◌>>=◌}, Word.{is_item_text}}
use Rattle.rio_format.specs.declared.value.Value as value
use Rattle.rio_leaf.specs.{declared.branch.Shape.TheVariants.{Class as Objects}, declared.branch.BranchDef.{BranchDef}}
use Rattle.rio_token.specs.{declared.fault.TextFault.{TextFault}, Reading.{Read, bad_at, item_at, mark_at, num_at}, Tokens.{behind}, Words.{num_of}}
use Rattle.rio_model.specs.{Lexemes.{Lexeme, glued, mark, word}, ValueGrammar.{bracket_limit, enclosed_at, row_at, value_in_text}}
use Rattle.rio_model.specs.ValueSpelling.{SpellsRow, SpellsValue}
use Rattle.rio_model.proofs.{LexemeLaws.{with_place}, ValueTold.{one_is_number}}
use Rattle.rio_machine.specs.declared.command.Command.{Command, TheVariants.{Put, Batch, Delete, Tree as MakeTree, Fill, Save, Get, Scan, Ls}}
use Rattle.rio_step.specs.CommandLaws.{BeginIfFew, CommandPlacesAreTold, ReadCommandsAreSpelled, IsFirstBadToken}
use Rattle.rio_step.specs.CommandSpelling.{SpellsAskedClass, SpellsAskedVersion, SpellsBranch, SpellsCommand, SpellsCycle, SpellsIfSome, SpellsSome}
use Rattle.rio_step.specs.Script.{asked_class_at, asked_version_at, batch_command_at, class_command_at, command_at, comes_next, cycle_at, delete_command_at, ended_at, fill_command_at, get_command_at, put_command_at, save_command_at, scan_command_at, tree_command_at}
use Rattle.rio_step.specs.TreeGrammar.{branches_at}
use Rattle.rio_step.proofs.AskedTells.{MarkOf, WordOf, asked_class_tells, asked_version_tells, cycle_tells, mark_tells, num_tells, word_test}
use Rattle.rio_step.proofs.BatchTells.{OfBatch, batched, braces_tells, puts_up}
use Rattle.rio_step.proofs.{AlikeLaws.{BeginBehind, Tells, bad_there}, ClassTells.{class_line}, BranchTells.{branches_tells}, NamedTells.{Named, named_tells}}
use Rattle.rio_step.proofs.LineTells.{AfterWord, TellsLine, either_line, first_line, line_tells, no_line}
use Rattle.rio_step.proofs.TurnLaws.{InTurn, Nothing, handed_tells, nothing_tells, tells_as, turn_tells}
use Rattle.rio_step.proofs.ValueTells.{null_spelled, row_tells, row_up, value_tells, value_up}

-- ---- something that is spelled

abbrev L : ℕ
L = bracket_limit

-- what is begun may have one bracket more
abbrev above : ℕ
above = suc bracket_limit

row_spelled : (levels : ℕ) → SpellsRow levels [] (mark 91 ∷ mark 93 ∷ [])
unfolding SpellsRow
row_spelled levels = ([], refl, refl)

one_branch : BranchDef
one_branch = record { name = codes "A"; shape = Objects (codes "A") }

abbrev branch_tokens : List Lexeme
branch_tokens = word (codes "A") ∷ glued (mark 61) ∷ glued (word (codes "class")) ∷ glued (mark 58) ∷ glued (word (codes "A")) ∷ []

branch_spelled : SpellsSome SpellsBranch (one_branch ∷ []) branch_tokens
unfolding one_branch
branch_spelled = (branch_tokens, [], refl, (glued (word (codes "class")) ∷ glued (mark 58) ∷ glued (word (codes "A")) ∷ [], refl, refl, (refl, refl)), refl)

-- one bracket more may be open
command_up : (c : Command) (ls : List Lexeme) → SpellsCommand L c ls → SpellsCommand above c ls
command_up (Put name v) ls d = (d.0, d.1, d.2, value_up L v d.0 d.3)
command_up (Batch puts) ls d = (d.0, d.1, puts_up (L - 1) puts d.0 d.2)
command_up (Fill name row) ls d = (d.0, d.1, d.2, row_up (L - 1) row d.0 d.3)
command_up other ls d = d

-- ---- lines

-- lines of the verbs behind that of trees
after_tree_at : At → Read Command
after_tree_at s =
    if comes_next (codes "fill") s then ended_at (fill_command_at (behind s))
    else if comes_next (codes "save") s then ended_at (save_command_at (behind s))
    else if comes_next (codes "get") s then ended_at (get_command_at (behind s))
    else if comes_next (codes "scan") s then ended_at (scan_command_at (behind s))
    else if comes_next (codes "ls") s then ended_at (Ok (Ls, behind s))
    else bad_at s

-- declarations, puts, batches and deletes, and other lines
abbrev before_tree_at : (At → Read Command) → At → Read Command
before_tree_at other s =
    if comes_next (codes "class") s then class_command_at s
    else if comes_next (codes "put") s then ended_at (put_command_at (behind s))
    else if comes_next (codes "batch") s then ended_at (batch_command_at (behind s))
    else if comes_next (codes "delete") s then ended_at (delete_command_at (behind s))
    else other s

-- all but trees
plain_at : At → Read Command
plain_at s = before_tree_at after_tree_at s

module _ (strict : Bool) where
  -- ---- verbs

  module _ (verb : List ℕ) (rest : List ℕ → At → Read Command) (R R' : List ℕ → Command → List Lexeme → Type 0) (t : (name : List ℕ) → Tells strict (rest name) (R name) (R' name) 0)
      (to : (name : List ℕ) (c : Command) (ls : List Lexeme) → is_item_text name ≡ true → R name c ls → SpellsCommand L c (word verb ∷ word name ∷ ls))
      (begun : (name : List ℕ) (c : Command) (ls : List Lexeme) → is_item_text name ≡ true → R' name c ls → SpellsCommand above c (word verb ∷ word name ∷ ls))
      (some : (name : List ℕ) → (c : Command) × (ls : List Lexeme) × R' name c ls) where
    named : (S : Command → List Lexeme → Type 0) (P : List ℕ → Command → List Lexeme → Type 0) → ((name : List ℕ) (c : Command) (ls : List Lexeme) → is_item_text name ≡ true → P name c ls → S c (word verb ∷ word name ∷ ls))
        → (c : Command) (ls : List Lexeme) → InTurn (Named is_item_text) P c ls → S c (word verb ∷ ls)
    named S P f c ls d = subst (λ (l : List Lexeme). S c (word verb ∷ l)) (sym (d.3 ∙ ap (λ (l : List Lexeme). l ++ d.2) d.4.0)) (f d.0 c d.2 d.4.1 d.5)

    pub verb_tells : Tells strict (λ s. item_at s >>= λ name. rest name.0 name.1) (AfterWord (word verb) (SpellsCommand L)) (AfterWord (word verb) (SpellsCommand above)) 0
    verb_tells =
        tells_as strict (λ s. item_at s >>= λ name. rest name.0 name.1) (InTurn (Named is_item_text) R) (InTurn (Named is_item_text) R') (AfterWord (word verb) (SpellsCommand L)) (AfterWord (word verb) (SpellsCommand above)) 0
        (turn_tells strict item_at rest (Named is_item_text) (Named is_item_text) R R' 0 (λ name. 0) (named_tells strict is_item_text 0 (λ few. (codes "A", refl))) t (λ x own c. omega arith)
        (λ name few. some name))
        (named (SpellsCommand L) R to) (named (SpellsCommand above) R' begun) (λ c ls d. command_up c (word verb ∷ ls) d)

  -- what is made of a thing that stands behind the name
  abbrev Made : {X : Type 0} → (X → Command) → (X → List Lexeme → Type 0) → Command → List Lexeme → Type 0
  Made {X} make G c ls = (x : X) × (c ≡ make x) × G x ls

  made : {X : Type 0} (levels : ℕ) (verb name : List ℕ) (make : X → Command) (G : X → List Lexeme → Type 0)
      → ((x : X) (ls : List Lexeme) → G x ls → SpellsCommand levels (make x) (word verb ∷ word name ∷ ls)) → (c : Command) (ls : List Lexeme) → Made make G c ls → SpellsCommand levels c (word verb ∷ word name ∷ ls)
  made levels verb name make G f c ls d = subst (λ (e : Command). SpellsCommand levels e (word verb ∷ word name ∷ ls)) (sym d.1) (f d.0 ls d.2)

  made_tells : {X : Type 0} (r : At → Read X) (make : X → Command) (G H : X → List Lexeme → Type 0) → Tells strict r G H 0 → Tells strict (λ m. r m >>= with_place make) (Made make G) (Made make H) 0
  made_tells r make G H t =
      handed_tells strict r make G H (Made make G) (Made make H) 0 t (λ x ls c. (x, refl, c)) (λ x ls c. (x, refl, c)) (λ y ls c. (c.0, c.1, t.up c.0 ls c.2))

  put_tells : Tells strict put_command_at (AfterWord (word (codes "put")) (SpellsCommand L)) (AfterWord (word (codes "put")) (SpellsCommand above)) 0
  unfolding put_command_at
  put_tells =
      verb_tells (codes "put") (λ name m. value_in_text (enclosed_at L) m >>= with_place (Put name)) (λ name. Made (Put name) (SpellsValue L)) (λ name. Made (Put name) (SpellsValue above))
      (λ name. made_tells (value_in_text (enclosed_at L)) (Put name) (SpellsValue L) (SpellsValue above) (value_tells strict L 0))
      (λ name c ls item d. made L (codes "put") name (Put name) (SpellsValue L) (λ v own e. (own, refl, item, e)) c ls d)
      (λ name c ls item d. made above (codes "put") name (Put name) (SpellsValue above) (λ v own e. (own, refl, item, e)) c ls d)
      (λ name. (Put name value.Null, word (codes "null") ∷ [], (value.Null, refl, null_spelled above)))

  cycle_of_tells : (name : List ℕ) → Tells strict (λ m. mark_at 59 m >>= λ passed. num_at passed.1 >>= with_place (Delete name)) (Made (Delete name) SpellsCycle) (Made (Delete name) SpellsCycle) 0
  cycle_of_tells name =
      let W = WordOf num_of in
      tells_as strict (λ m. mark_at 59 m >>= λ passed. num_at passed.1 >>= with_place (Delete name)) (InTurn (MarkOf 59) (λ u. Made (Delete name) W)) (InTurn (MarkOf 59) (λ u. Made (Delete name) W)) (Made (Delete name) SpellsCycle) (Made (Delete name) SpellsCycle) 0
      (turn_tells strict (mark_at 59) (λ u m. num_at m >>= with_place (Delete name)) (MarkOf 59) (MarkOf 59) (λ u. Made (Delete name) W) (λ u. Made (Delete name) W) 0 (λ u. 0)
      (mark_tells strict 59 0) (λ u. made_tells num_at (Delete name) W W (num_tells strict 0)) (λ x own c. omega arith) (λ u few. (Delete name 1, word (codes "1") ∷ [], (1, refl, (codes "1", one_is_number, refl)))))
      to to (λ y ls c. c)
    where
      to : (c : Command) (ls : List Lexeme) → InTurn (MarkOf 59) (λ u. Made (Delete name) (WordOf num_of)) c ls → Made (Delete name) SpellsCycle c ls
      to c ls d =
          let w = d.5.2 in
          (d.5.0, d.5.1, (w.0, w.1, d.3 ∙ ap (λ (l : List Lexeme). l ++ d.2) d.4 ∙ ap (λ (l : List Lexeme). mark 59 ∷ l) w.2))

  delete_tells : Tells strict delete_command_at (AfterWord (word (codes "delete")) (SpellsCommand L)) (AfterWord (word (codes "delete")) (SpellsCommand above)) 0
  unfolding delete_command_at
  delete_tells =
      verb_tells (codes "delete") (λ name m. mark_at 59 m >>= λ passed. num_at passed.1 >>= with_place (Delete name)) (λ name. Made (Delete name) SpellsCycle) (λ name. Made (Delete name) SpellsCycle) cycle_of_tells
      (λ name c ls item d. made L (codes "delete") name (Delete name) SpellsCycle (λ v own e. (own, refl, item, e)) c ls d)
      (λ name c ls item d. made above (codes "delete") name (Delete name) SpellsCycle (λ v own e. (own, refl, item, e)) c ls d)
      (λ name. (Delete name 1, mark 59 ∷ word (codes "1") ∷ [], (1, refl, (codes "1", one_is_number, refl))))

  fill_tells : Tells strict fill_command_at (AfterWord (word (codes "fill")) (SpellsCommand L)) (AfterWord (word (codes "fill")) (SpellsCommand above)) 0
  unfolding fill_command_at
  fill_tells =
      let levels = bracket_limit - 1 in
      verb_tells (codes "fill") (λ name m. row_at m >>= with_place (Fill name)) (λ name. Made (Fill name) (SpellsRow levels)) (λ name. Made (Fill name) (SpellsRow (suc levels)))
      (λ name. made_tells row_at (Fill name) (SpellsRow levels) (SpellsRow (suc levels)) (row_tells strict levels 0))
      (λ name c ls item d. made L (codes "fill") name (Fill name) (SpellsRow levels) (λ v own e. (own, refl, item, e)) c ls d)
      (λ name c ls item d. made above (codes "fill") name (Fill name) (SpellsRow (suc levels)) (λ v own e. (own, refl, item, e)) c ls d)
      (λ name. (Fill name [], mark 91 ∷ mark 93 ∷ [], ([], refl, row_spelled (suc levels))))

  save_tells : Tells strict save_command_at (AfterWord (word (codes "save")) (SpellsCommand L)) (AfterWord (word (codes "save")) (SpellsCommand above)) 0
  unfolding save_command_at
  save_tells =
      let N = λ (name : List ℕ). Nothing (Save name) in
      verb_tells (codes "save") (λ name m. Ok (Save name, m)) N N (λ name. nothing_tells strict (Save name) 0) (saved L) (saved above) (λ name. (Save name, [], (refl, refl)))
    where
      saved : (levels : ℕ) (name : List ℕ) (c : Command) (ls : List Lexeme) → is_item_text name ≡ true → Nothing (Save name) c ls → SpellsCommand levels c (word (codes "save") ∷ word name ∷ ls)
      saved levels name c ls item d = subst (λ (e : Command). SpellsCommand levels e (word (codes "save") ∷ word name ∷ ls)) (sym d.0) (ls, refl, item, d.1)

  abbrev GetOf : List ℕ → Option ℕ → Command → List Lexeme → Type 0
  GetOf name cycle c ls = (version : Option ℤ) × (c ≡ Get name cycle version) × SpellsIfSome SpellsAskedVersion version ls

  abbrev Asked : List ℕ → Command → List Lexeme → Type 0
  Asked name = InTurn (SpellsIfSome SpellsCycle) (λ cycle. GetOf name cycle)

  asked_tells : (name : List ℕ) → Tells strict (λ m. cycle_at m >>= λ cycle. asked_version_at cycle.1 >>= with_place (Get name cycle.0)) (Asked name) (Asked name) 0
  asked_tells name =
      let V = SpellsIfSome SpellsAskedVersion in
      turn_tells strict cycle_at (λ cycle m. asked_version_at m >>= with_place (Get name cycle)) (SpellsIfSome SpellsCycle) (SpellsIfSome SpellsCycle) (λ cycle. GetOf name cycle) (λ cycle. GetOf name cycle) 0 (λ cycle. 0)
      (cycle_tells strict 0) (λ cycle. handed_tells strict asked_version_at (Get name cycle) V V (GetOf name cycle) (GetOf name cycle) 0 (asked_version_tells strict 0) (λ x ls c. (x, refl, c)) (λ x ls c. (x, refl, c)) (λ y ls c. c))
      (λ x own c. omega arith) (λ cycle few. (Get name cycle None, [], (None, refl, refl)))

  asked : (levels : ℕ) (name : List ℕ) (c : Command) (ls : List Lexeme) → is_item_text name ≡ true → Asked name c ls → SpellsCommand levels c (word (codes "get") ∷ word name ∷ ls)
  asked levels name c ls item d =
      let q = d.5 in
      subst (λ (e : Command). SpellsCommand levels e (word (codes "get") ∷ word name ∷ ls)) (sym q.1) (ls, refl, item, (d.1, d.2, d.3, d.4, q.2))

  get_tells : Tells strict get_command_at (AfterWord (word (codes "get")) (SpellsCommand L)) (AfterWord (word (codes "get")) (SpellsCommand above)) 0
  unfolding get_command_at
  get_tells =
      verb_tells (codes "get") (λ name m. cycle_at m >>= λ cycle. asked_version_at cycle.1 >>= with_place (Get name cycle.0)) Asked Asked asked_tells (asked L) (asked above)
      (λ name. (Get name None None, [], (None, [], [], refl, refl, (None, refl, refl))))

  scan_tells : Tells strict scan_command_at (AfterWord (word (codes "scan")) (SpellsCommand L)) (AfterWord (word (codes "scan")) (SpellsCommand above)) 0
  unfolding scan_command_at
  scan_tells =
      let C = SpellsIfSome SpellsAskedClass in
      verb_tells (codes "scan") (λ name m. asked_class_at m >>= with_place (Scan name)) (λ name. Made (Scan name) C) (λ name. Made (Scan name) C)
      (λ name. made_tells asked_class_at (Scan name) C C (asked_class_tells strict 0))
      (λ name c ls item d. made L (codes "scan") name (Scan name) C (λ v own e. (own, refl, item, e)) c ls d)
      (λ name c ls item d. made above (codes "scan") name (Scan name) C (λ v own e. (own, refl, item, e)) c ls d)
      (λ name. (Scan name None, [], (None, refl, refl)))

  ls_tells : Tells strict (λ s. Ok (Ls, s)) (AfterWord (word (codes "ls")) (SpellsCommand L)) (AfterWord (word (codes "ls")) (SpellsCommand above)) 0
  ls_tells =
      tells_as strict (λ s. Ok (Ls, s)) (Nothing Ls) (Nothing Ls) (AfterWord (word (codes "ls")) (SpellsCommand L)) (AfterWord (word (codes "ls")) (SpellsCommand above)) 0 (nothing_tells strict Ls 0) (listed L) (listed above) (λ c ls d. command_up c (word (codes "ls") ∷ ls) d)
    where
      listed : (levels : ℕ) (c : Command) (ls : List Lexeme) → Nothing Ls c ls → SpellsCommand levels c (word (codes "ls") ∷ ls)
      listed levels c ls d = subst (λ (e : Command). SpellsCommand levels e (word (codes "ls") ∷ ls)) (sym d.0) (ap (λ (l : List Lexeme). word (codes "ls") ∷ l) d.1)

  abbrev OfVerb : List ℕ → (At → Read Command) → Type 0
  OfVerb verb r = TellsLine strict (λ s. ended_at (r s)) (AfterWord (word verb) (SpellsCommand L)) (AfterWord (word verb) (SpellsCommand above))

  ended_line : (verb : List ℕ) (r : At → Read Command) → Tells strict r (AfterWord (word verb) (SpellsCommand L)) (AfterWord (word verb) (SpellsCommand above)) 0 → OfVerb verb r
  ended_line verb r t = line_tells strict r (AfterWord (word verb) (SpellsCommand L)) (AfterWord (word verb) (SpellsCommand above)) t

  abbrev IsLine : (At → Read Command) → Type 0
  IsLine r = TellsLine strict r (SpellsCommand L) (SpellsCommand above)

  by_verb : (verb : List ℕ) (r other : At → Read Command) → OfVerb verb r → IsLine other → IsLine (λ s. if comes_next verb s then ended_at (r (behind s)) else other s)
  by_verb verb r other t t2 = either_line strict (comes_next verb) (word verb) (word_test strict verb) (λ s. ended_at (r s)) other (SpellsCommand L) (SpellsCommand above) t t2

  no_verb : IsLine (λ s. bad_at s)
  no_verb = no_line strict (SpellsCommand L) (SpellsCommand above) Ls (word (codes "ls") ∷ []) refl

  -- the lines whose verbs stand behind that of trees
  after_tree_line : IsLine after_tree_at
  unfolding after_tree_at
  after_tree_line =
      let ls = by_verb (codes "ls") (λ s. Ok (Ls, s)) (λ s. bad_at s) (ended_line (codes "ls") (λ s. Ok (Ls, s)) ls_tells) no_verb in
      let scan = by_verb (codes "scan") scan_command_at _ (ended_line (codes "scan") scan_command_at scan_tells) ls in
      let get = by_verb (codes "get") get_command_at _ (ended_line (codes "get") get_command_at get_tells) scan in
      let save = by_verb (codes "save") save_command_at _ (ended_line (codes "save") save_command_at save_tells) get in
      by_verb (codes "fill") fill_command_at _ (ended_line (codes "fill") fill_command_at fill_tells) save

  batch_tells : Tells strict batch_command_at (AfterWord (word (codes "batch")) (SpellsCommand L)) (AfterWord (word (codes "batch")) (SpellsCommand above)) 0
  batch_tells =
      let inner = bracket_limit - 1 in
      let W = λ (levels : ℕ). AfterWord (word (codes "batch")) (SpellsCommand levels) in
      tells_as strict batch_command_at (OfBatch strict inner) (OfBatch strict (suc inner)) (W L) (W above) 0 (braces_tells strict)
      (λ c ls d. let b = batched strict inner c ls d in subst (λ (e : Command). SpellsCommand L e (word (codes "batch") ∷ ls)) (sym b.1) (ls, refl, b.2))
      (λ c ls d. let b = batched strict (suc inner) c ls d in subst (λ (e : Command). SpellsCommand above e (word (codes "batch") ∷ ls)) (sym b.1) (ls, refl, b.2))
      (λ c ls d. command_up c (word (codes "batch") ∷ ls) d)

  -- all lines, by those behind the first four
  from_tree : (other : At → Read Command) → IsLine other → IsLine (before_tree_at other)
  from_tree other t =
      let delete = by_verb (codes "delete") delete_command_at other (ended_line (codes "delete") delete_command_at delete_tells) t in
      let batch = by_verb (codes "batch") batch_command_at _ (ended_line (codes "batch") batch_command_at batch_tells) delete in
      let put = by_verb (codes "put") put_command_at _ (ended_line (codes "put") put_command_at put_tells) batch in
      first_line strict (comes_next (codes "class")) (word (codes "class")) (word_test strict (codes "class")) class_command_at _ (SpellsCommand L) (SpellsCommand above) (class_line strict L above command_up) put

tree_tells : Tells true tree_command_at (AfterWord (word (codes "tree")) (SpellsCommand L)) (AfterWord (word (codes "tree")) (SpellsCommand above)) 0
unfolding tree_command_at
tree_tells =
    let B = SpellsSome SpellsBranch in
    verb_tells true (codes "tree") (λ name m. branches_at m >>= with_place (MakeTree name)) (λ name. Made true (MakeTree name) B) (λ name. Made true (MakeTree name) B)
    (λ name. made_tells true branches_at (MakeTree name) B B branches_tells)
    (λ name c ls item d. made true L (codes "tree") name (MakeTree name) B (λ v own e. (own, refl, item, e)) c ls d)
    (λ name c ls item d. made true above (codes "tree") name (MakeTree name) B (λ v own e. (own, refl, item, e)) c ls d)
    (λ name. (MakeTree name (one_branch ∷ []), branch_tokens, (one_branch ∷ [], refl, branch_spelled)))

-- ---- all lines

tree_line : IsLine true (λ s. if comes_next (codes "tree") s then ended_at (tree_command_at (behind s)) else after_tree_at s)
tree_line = by_verb true (codes "tree") tree_command_at after_tree_at (ended_line true (codes "tree") tree_command_at tree_tells) (after_tree_line true)

all_lines : IsLine true command_at
unfolding command_at after_tree_at
all_lines = from_tree true (λ s. if comes_next (codes "tree") s then ended_at (tree_command_at (behind s)) else after_tree_at s) tree_line

plain_line : IsLine false plain_at
unfolding plain_at
plain_line = from_tree false after_tree_at (after_tree_line false)

-- a line that is no tree's
no_tree : (s : At) → comes_next (codes "tree") s ≡ false → command_at s ≡ plain_at s
unfolding command_at plain_at after_tree_at
no_tree s h = rw h refl

pub read_commands_are_spelled : ReadCommandsAreSpelled
read_commands_are_spelled c old new h = all_lines.known old c new h

few_enough : (r : At → Read Command) (strict : Bool) (old : At) (fault : TextFault) → IsFirstBadToken strict r (BeginBehind 0 (SpellsCommand above)) old fault → IsFirstBadToken strict r (BeginIfFew (SpellsCommand above)) old fault
few_enough r strict old fault b = bad_there strict r r (BeginBehind 0 (SpellsCommand above)) (BeginIfFew (SpellsCommand above)) old fault (λ t same g bad. bad) (λ ms c few. c (omega (arith, few))) b

told_by : (b : Bool) (old : At) (fault : TextFault) → comes_next (codes "tree") old ≡ b → command_at old ≡ Err fault → IsFirstBadToken b command_at (BeginIfFew (SpellsCommand above)) old fault
told_by true old fault is h = few_enough command_at true old fault (all_lines.told old fault h)
told_by false old fault is h =
    few_enough command_at false old fault
    (bad_there false command_at plain_at (BeginBehind 0 (SpellsCommand above)) (BeginBehind 0 (SpellsCommand above)) old fault
    (λ t same g bad. no_tree t (sym ((word_test false (codes "tree")).same old t same) ∙ is) ∙ bad) (λ ms c. c) (plain_line.told old fault (sym (no_tree old is) ∙ h)))

pub command_places_are_told : CommandPlacesAreTold
command_places_are_told old fault h = told_by (comes_next (codes "tree") old) old fault refl h
