-- What tokens spell as a command is read as it.
use Rattle.std.proofs.Common.{◌≡◌, ℕ, ◌-◌, ℤ, pos, List, [], ◌∷◌, codes, true, false, Option, Some, None, Ok, refl, sym, ◌∙◌, ap, subst}
use Rattle.rio_num.specs.{At.{At}, Reading.{◌>>=◌}, Word.{is_item_text, is_name_text}}
use Rattle.rio_format.specs.{declared.class.Base.{Base}, declared.class.ClassDef.{ClassDef}, declared.value.Value.{Value, out-Value, TheOpen.{Value-F}}, declared.value.Part.{Part}}
use Rattle.rio_format.specs.declared.value.Value.TheOpen as layer
use Rattle.rio_token.specs.{declared.token.Token.TheVariants.{End}, Reading.{Read, end_at, item_at, marked}, Tokens.{behind, next_at}}
use Rattle.rio_leaf.specs.declared.branch.BranchDef.{BranchDef}
use Rattle.rio_model.specs.{Lexemes.{IsNext, Lexeme, Stand, word}, ValueGrammar.{bracket_limit, enclosed_at, value_in_text}, ValueSpelling.{ends_here}}
use Rattle.rio_model.proofs.ClassAgain.{end_again, spelled_classes_are_read}
use Rattle.rio_model.proofs.LexemeLaws.{bounded_again, mark_again, marked_again, num_again, stand_split, then_ok, word_not_marked, word_that_again, word_that_found}
use Rattle.rio_model.proofs.{ItemLaws.{ItemAgain, some_again}, ValueAgain.{ends_at, spelled_are_read}}
use Rattle.rio_machine.specs.declared.command.Command.{Command, TheVariants.{Bad, Class, Put, Batch, Delete, Tree as MakeTree, Fill, Save, Get, Scan, Ls}}
use Rattle.rio_machine.specs.declared.command.PutItem.{PutItem}
use Rattle.rio_step.specs.CommandLaws.{SpelledCommandsAreRead}
use Rattle.rio_step.specs.CommandSpelling.{SpellsAskedClass, SpellsAskedVersion, SpellsCommand, SpellsCycle, SpellsIfSome, SpellsPut}
use Rattle.rio_step.specs.Script.{asked_class_at, asked_version_at, batch_command_at, batch_put_at, command_at, comes_next, cycle_at, delete_command_at, ended_at, fill_command_at, get_command_at, in_version, put_command_at, save_command_at, scan_command_at, tree_command_at}
use Rattle.rio_step.proofs.{TellsLaws.{next_again}, TreeAgain.{branches_again}}

-- brackets within those of a batch
abbrev inner : ℕ
inner = bracket_limit - 1

-- what follows a value at the end of a line
value_ends : (y : Value-F Value Part) (t : At) → (next_at t).token ≡ End → ends_here y t ≡ true
value_ends (layer.Bool b) t h = rw h refl
value_ends layer.Null t h = rw h refl
value_ends (layer.Back label) t h = rw h refl
value_ends other t h = refl

-- a command that stands behind its verb
ended : (r : Read Command) (c : Command) (here : At) → r ≡ Ok (c, here) → (next_at here).token ≡ End → ended_at r ≡ Ok (c, behind here)
ended r c here h end = let done = end_again here end in rw (h, done) refl

no_mark_at_end : (b : ℕ) (t : At) → (next_at t).token ≡ End → marked b t ≡ false
no_mark_at_end b t h = rw h refl

no_word_at_end : (w : List ℕ) (t : At) → (next_at t).token ≡ End → comes_next w t ≡ false
no_word_at_end w t h = rw h refl

-- ---- what may stand behind a name

cycle_again : (cycle : Option ℕ) (ls : List Lexeme) (s t : At) → SpellsIfSome SpellsCycle cycle ls → Stand ls s t → marked 59 t ≡ false → cycle_at s ≡ Ok (cycle, t)
unfolding cycle_at
cycle_again None ls s t c h not_so =
    let e : t ≡ s = subst (λ (l : List Lexeme). Stand l s t) c h in
    let here : marked 59 s ≡ false = subst (λ (a : At). marked 59 a ≡ false) e not_so in
    rw (here, e) refl
cycle_again (Some cycle) ls s t c h not_so =
    let n = subst (λ (l : List Lexeme). Stand l s t) c.2 h in
    let here : marked 59 s ≡ true = marked_again 59 59 s n.0 in
    let one = num_again c.0 cycle (behind s) n.1.0 c.1 in
    rw (here, one, n.1.1) refl

version_again : (version : Option ℤ) (ls : List Lexeme) (s t : At) → SpellsIfSome SpellsAskedVersion version ls → Stand ls s t → (next_at t).token ≡ End → asked_version_at s ≡ Ok (version, t)
unfolding asked_version_at
version_again None ls s t c h end =
    let e : t ≡ s = subst (λ (l : List Lexeme). Stand l s t) c h in
    let here : comes_next (codes "as") s ≡ false = subst (λ (a : At). comes_next (codes "as") a ≡ false) e (no_word_at_end (codes "as") t end) in
    rw (here, e) refl
version_again (Some version) ls s t c h end =
    let n = subst (λ (l : List Lexeme). Stand l s t) c.2 h in
    let v = c.1 in
    let next = next_again (codes "as") s n.0 in
    let one = bounded_again 1 32767 c.0 v.0 (behind s) n.1.0 v.2 in
    let same : pos v.0 ≡ version = sym v.1 in
    rw (next, one, n.1.1, same) refl

class_is : (class : Base) (v : ℕ) → class.version ≡ pos v → in_version class.name v ≡ class
class_is class v e = ap (λ (z : ℤ). let x : Base = record { name = class.name; version = z } in x) (sym e)

class_again : (class : Option Base) (ls : List Lexeme) (s t : At) → SpellsIfSome SpellsAskedClass class ls → Stand ls s t → (next_at t).token ≡ End → asked_class_at s ≡ Ok (class, t)
unfolding asked_class_at
class_again None ls s t c h end =
    let e : t ≡ s = subst (λ (l : List Lexeme). Stand l s t) c h in
    let here : comes_next (codes "as") s ≡ false = subst (λ (a : At). comes_next (codes "as") a ≡ false) e (no_word_at_end (codes "as") t end) in
    rw (here, e) refl
class_again (Some class) ls s t c h end =
    let n = subst (λ (l : List Lexeme). Stand l s t) c.3 h in
    let v = c.1 in
    let next = next_again (codes "as") s n.0 in
    let name = word_that_again is_name_text class.name (behind s) n.1.0 c.2 in
    let sign = mark_again 35 (behind (behind s)) n.1.1.0 in
    let one = bounded_again 1 32767 c.0 v.0 (behind (behind (behind s))) n.1.1.1.0 v.2 in
    let same = class_is class v.0 v.1 in
    rw (next, name, sign, one, n.1.1.1.1, same) refl

-- ---- verbs

item_again : (name : List ℕ) (s : At) → IsNext (word name) s → is_item_text name ≡ true → item_at s ≡ Ok (name, behind s)
item_again name s h item = word_that_again is_item_text name s h item

put_again : (name : List ℕ) (v : Value) (ls : List Lexeme) (old here : At) → SpellsCommand bracket_limit (Put name v) ls → Stand ls old here → (next_at here).token ≡ End → command_at old ≡ Ok (Put name v, behind here)
unfolding command_at put_command_at
put_again name v ls old here c h end =
    let n = subst (λ (l : List Lexeme). Stand l old here) c.1 h in
    let verb = next_again (codes "put") old n.0 in
    let item = item_again name (behind old) n.1.0 c.2 in
    let one = spelled_are_read.value bracket_limit v c.0 (behind (behind old)) here c.3 n.1.1 (value_ends (out-Value v) here end) in
    let done = end_again here end in
    rw (verb, item, one, done) refl

-- a put of a batch
put_stands : (p : PutItem) (own : List Lexeme) (s t : At) → SpellsPut inner p own → Stand own s t → ends_here (out-Value p.value) t ≡ true → batch_put_at s ≡ Ok (p, t)
unfolding batch_put_at
put_stands p own s t c h ends =
    let n = subst (λ (l : List Lexeme). Stand l s t) c.1 h in
    let name = item_again p.name s n.0 c.2 in
    let one = spelled_are_read.value inner p.value c.0 (behind s) t c.3 n.1 ends in
    rw (name, one) refl

put_begins : (s : At) (x : PutItem × At) → batch_put_at s ≡ Ok x → marked 125 s ≡ false
unfolding batch_put_at
put_begins s x h =
    let a = then_ok (item_at s) (λ name. value_in_text (enclosed_at inner) name.1 >>= λ value. Ok (record { name = name.0; value = value.0 }, value.1)) x.0 x.1 h in
    word_not_marked a.0.0 125 s (word_that_found is_item_text s a.0.0 a.0.1 a.1).0

put_items : ItemAgain {A = PutItem} 125 (λ before. batch_put_at) (λ before. SpellsPut inner) (λ p. ends_here (out-Value p.value))
put_items = record {
  other = refl;
  comma = λ p s h. ends_at 44 (out-Value p.value) s h refl refl;
  last = λ p s h. ends_at 125 (out-Value p.value) s h refl refl;
  begins = λ s x h. put_begins s x h;
  again = λ front p own s t c h ends. put_stands p own s t c h ends;
}

batch_again : (puts : List PutItem) (ls : List Lexeme) (old here : At) → SpellsCommand bracket_limit (Batch puts) ls → Stand ls old here → (next_at here).token ≡ End → command_at old ≡ Ok (Batch puts, behind here)
unfolding command_at batch_command_at
batch_again [] ls old here c h end = absurd c.2
batch_again (p ∷ ps) ls old here c h end =
    let n = subst (λ (l : List Lexeme). Stand l old here) c.1 h in
    let b = c.2 in
    let k = subst (λ (l : List Lexeme). Stand l (behind old) here) b.1 n.1 in
    let verb = next_again (codes "batch") old n.0 in
    let opening = mark_again 123 (behind old) k.0 in
    let one = some_again {A = PutItem} 125 (λ before. batch_put_at) (λ before. SpellsPut inner) (λ p. ends_here (out-Value p.value)) put_items p ps b.0 (behind (behind old)) here b.2 k.1 in
    let done = end_again here end in
    rw (verb, opening, one, done) refl

delete_again : (name : List ℕ) (cycle : ℕ) (ls : List Lexeme) (old here : At) → SpellsCommand bracket_limit (Delete name cycle) ls → Stand ls old here → (next_at here).token ≡ End → command_at old ≡ Ok (Delete name cycle, behind here)
unfolding command_at delete_command_at
delete_again name cycle ls old here c h end =
    let n = subst (λ (l : List Lexeme). Stand l old here) c.1 h in
    let d = c.3 in
    let m = subst (λ (l : List Lexeme). Stand l (behind (behind old)) here) d.2 n.1.1 in
    let verb = next_again (codes "delete") old n.0 in
    let item = item_again name (behind old) n.1.0 c.2 in
    let passed = mark_again 59 (behind (behind old)) m.0 in
    let one = num_again d.0 cycle (behind (behind (behind old))) m.1.0 d.1 in
    let done = subst (λ (a : At). end_at a ≡ Ok (tt, behind here)) m.1.1 (end_again here end) in
    rw (verb, item, passed, one, done) refl

tree_again : (name : List ℕ) (branches : List BranchDef) (ls : List Lexeme) (old here : At) → SpellsCommand bracket_limit (MakeTree name branches) ls → Stand ls old here → (next_at here).token ≡ End → command_at old ≡ Ok (MakeTree name branches, behind here)
unfolding command_at tree_command_at
tree_again name branches ls old here c h end =
    let n = subst (λ (l : List Lexeme). Stand l old here) c.1 h in
    let verb = next_again (codes "tree") old n.0 in
    let item = item_again name (behind old) n.1.0 c.2 in
    let one = branches_again branches c.0 (behind (behind old)) here c.3 n.1.1 end in
    let done = end_again here end in
    rw (verb, item, one, done) refl

fill_again : (name : List ℕ) (row : List Value) (ls : List Lexeme) (old here : At) → SpellsCommand bracket_limit (Fill name row) ls → Stand ls old here → (next_at here).token ≡ End → command_at old ≡ Ok (Fill name row, behind here)
unfolding command_at fill_command_at
fill_again name row ls old here c h end =
    let n = subst (λ (l : List Lexeme). Stand l old here) c.1 h in
    let verb = next_again (codes "fill") old n.0 in
    let item = item_again name (behind old) n.1.0 c.2 in
    let one = spelled_are_read.row (bracket_limit - 1) row c.0 (behind (behind old)) here c.3 n.1.1 in
    let done = end_again here end in
    rw (verb, item, one, done) refl

save_again : (name : List ℕ) (ls : List Lexeme) (old here : At) → SpellsCommand bracket_limit (Save name) ls → Stand ls old here → (next_at here).token ≡ End → command_at old ≡ Ok (Save name, behind here)
unfolding command_at save_command_at
save_again name ls old here c h end =
    let n = subst (λ (l : List Lexeme). Stand l old here) c.1 h in
    let e : here ≡ behind (behind old) = subst (λ (l : List Lexeme). Stand l (behind (behind old)) here) c.3 n.1.1 in
    let verb = next_again (codes "save") old n.0 in
    let item = item_again name (behind old) n.1.0 c.2 in
    let done = subst (λ (a : At). end_at a ≡ Ok (tt, behind here)) e (end_again here end) in
    rw (verb, item, done) refl

get_again : (name : List ℕ) (cycle : Option ℕ) (version : Option ℤ) (ls : List Lexeme) (old here : At) → SpellsCommand bracket_limit (Get name cycle version) ls → Stand ls old here → (next_at here).token ≡ End
    → command_at old ≡ Ok (Get name cycle version, behind here)
unfolding command_at get_command_at
get_again name cycle version ls old here c h end =
    let n = subst (λ (l : List Lexeme). Stand l old here) c.1 h in
    let d = c.3 in
    let r = stand_split d.0 d.1 (behind (behind old)) here (subst (λ (l : List Lexeme). Stand l (behind (behind old)) here) d.2 n.1.1) in
    let verb = next_again (codes "get") old n.0 in
    let item = item_again name (behind old) n.1.0 c.2 in
    let one = cycle_again cycle d.0 (behind (behind old)) r.0 d.3 r.1 (no_cycle version d.1 r.0 here d.4 r.2 end) in
    let two = version_again version d.1 r.0 here d.4 r.2 end in
    let done = end_again here end in
    rw (verb, item, one, two, done) refl
  where
    no_cycle : (version : Option ℤ) (back : List Lexeme) (s t : At) → SpellsIfSome SpellsAskedVersion version back → Stand back s t → (next_at t).token ≡ End → marked 59 s ≡ false
    no_cycle None back s t c h end =
        let e : t ≡ s = subst (λ (l : List Lexeme). Stand l s t) c h in
        subst (λ (a : At). marked 59 a ≡ false) e (no_mark_at_end 59 t end)
    no_cycle (Some version) back s t c h end = word_not_marked (codes "as") 59 s (subst (λ (l : List Lexeme). Stand l s t) c.2 h).0

scan_again : (name : List ℕ) (class : Option Base) (ls : List Lexeme) (old here : At) → SpellsCommand bracket_limit (Scan name class) ls → Stand ls old here → (next_at here).token ≡ End → command_at old ≡ Ok (Scan name class, behind here)
unfolding command_at scan_command_at
scan_again name class ls old here c h end =
    let n = subst (λ (l : List Lexeme). Stand l old here) c.1 h in
    let verb = next_again (codes "scan") old n.0 in
    let item = item_again name (behind old) n.1.0 c.2 in
    let one = class_again class c.0 (behind (behind old)) here c.3 n.1.1 end in
    let done = end_again here end in
    rw (verb, item, one, done) refl

ls_again : (ls : List Lexeme) (old here : At) → SpellsCommand bracket_limit Ls ls → Stand ls old here → (next_at here).token ≡ End → command_at old ≡ Ok (Ls, behind here)
unfolding command_at
ls_again ls old here c h end =
    let n = subst (λ (l : List Lexeme). Stand l old here) c h in
    let verb = next_again (codes "ls") old n.0 in
    let done = subst (λ (a : At). end_at a ≡ Ok (tt, behind here)) n.1 (end_again here end) in
    rw (verb, done) refl

declaration_again : (class : ClassDef) (ls : List Lexeme) (old here : At) → SpellsCommand bracket_limit (Class class) ls → Stand ls old here → (next_at here).token ≡ End → command_at old ≡ Ok (Class class, behind here)
unfolding command_at
declaration_again class ls old here c h end =
    let verb = next_again (codes "class") old (subst (λ (l : List Lexeme). Stand l old here) c.tokens h).0 in
    let one = spelled_classes_are_read class ls old here c h end in
    rw (verb, one) refl

stands_again : (c : Command) (ls : List Lexeme) (old here : At) → SpellsCommand bracket_limit c ls → Stand ls old here → (next_at here).token ≡ End → command_at old ≡ Ok (c, behind here)
stands_again (Bad line place) ls old here c h end = absurd c
stands_again (Class class) ls old here c h end = declaration_again class ls old here c h end
stands_again (Put name v) ls old here c h end = put_again name v ls old here c h end
stands_again (Batch puts) ls old here c h end = batch_again puts ls old here c h end
stands_again (Delete name cycle) ls old here c h end = delete_again name cycle ls old here c h end
stands_again (MakeTree name branches) ls old here c h end = tree_again name branches ls old here c h end
stands_again (Fill name row) ls old here c h end = fill_again name row ls old here c h end
stands_again (Save name) ls old here c h end = save_again name ls old here c h end
stands_again (Get name cycle version) ls old here c h end = get_again name cycle version ls old here c h end
stands_again (Scan name class) ls old here c h end = scan_again name class ls old here c h end
stands_again Ls ls old here c h end = ls_again ls old here c h end

pub spelled_commands_are_read : SpelledCommandsAreRead
spelled_commands_are_read c old new d =
    let e = d.2 in
    stands_again c d.0 old e.0 d.1 e.1 e.2 ∙ ap (λ (a : At). let r : Read Command = Ok (c, a) in r) (sym e.3)
