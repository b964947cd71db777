-- Commands that a script can state.
use Rattle.std.specs.{Prelude.{◌≡◌, ℕ, List, length, Option, Bool, true, nat_lt, ◌&&◌, IsTrue}, List.{list_all}}
use Rattle.rio_num.specs.Word.{is_item_text}
use Rattle.rio_model.specs.{Stated.{is_stated_class}, StateClasses.{StateClasses}}
use Rattle.rio_leaf.specs.Stated.{are_stated_branches}
use Rattle.rio_machine.specs.declared.command.Command.{Command, TheVariants.{Bad, Class, Put, Batch, Delete, Tree as MakeTree, Fill, Save, Get, Scan, Ls}}
use Rattle.rio_machine.specs.State.{State}
use Rattle.rio_step.specs.{Refusing.{FullMark}, Script.{script_of}, Step.{step}}

-- its names are such as objects and trees have, the class that it declares one that a declaration can give, whatever
-- versions its bases have, its branches are such that a line can state them, and a batch has a put
abbrev pub is_statable : Command → Bool
is_statable (Bad line place) = true
is_statable (Class class) = is_stated_class class
is_statable (Put name v) = is_item_text name
is_statable (Batch puts) = nat_lt 0 (length puts) && list_all (λ p. is_item_text p.name) puts
is_statable (Delete name cycle) = is_item_text name
is_statable (MakeTree name branches) = is_item_text name && are_stated_branches branches
is_statable (Fill name row) = is_item_text name
is_statable (Save name) = is_item_text name
is_statable (Get name cycle version) = is_item_text name
is_statable (Scan name class) = is_item_text name
is_statable Ls = true

abbrev pub IsStatable : Command → Type 0
IsStatable c = IsTrue (is_statable c)

-- all commands of a script are such
abbrev pub ScriptsAreStatable : Type 0
ScriptsAreStatable = (bytes : List ℕ) → list_all is_statable (script_of bytes) ≡ true

-- The classes of a state are always such as class commands have declared, one after the other, from no classes on.
abbrev pub ClassesStayDeclared : Type 0
ClassesStayDeclared = (m : State) (c : Command) (mark : Option FullMark)
    → is_statable c ≡ true → StateClasses m.classes → StateClasses (step m c mark).state.classes
