-- Commands as tokens spell them, by cases on the command. What has several spellings has them in the blanks between its
-- tokens, and in its value.
use Rattle.std.specs.Prelude.{◌≡◌, ℕ, ◌-◌, ℤ, pos, List, [], ◌∷◌, ◌++◌, codes, Option, Some, None, true, not, ◌&&◌}
use Rattle.rio_num.specs.Word.{is_item_text, is_name_text}
use Rattle.rio_format.specs.declared.class.Base.{Base}
use Rattle.rio_token.specs.{Marks.{closing_brace, closing_bracket, colon, equals_sign, number_sign, opening_brace, opening_bracket, semicolon, slash}, Words.{num_between_of, num_of}}
use Rattle.rio_leaf.specs.{declared.branch.BranchDef.{BranchDef}, declared.branch.Shape.{Shape, TheVariants.{Leaves, Class as Objects}}}
use Rattle.rio_leaf.specs.{declared.leaf.Dim.{Dim, TheVariants.{One, Fixed, Counted}}, declared.leaf.Leaf.{Leaf}}
use Rattle.rio_leaf.specs.Stated.{all_leaves, has_branch, is_stated_leaf}
use Rattle.rio_model.specs.{ClassSpelling.{SpellsDeclaration}, Lexemes.{Lexeme, SpellsItems, glued, mark, word}, ValueSpelling.{SpellsRow, SpellsValue, in_brackets}}
use Rattle.rio_machine.specs.declared.command.Command.{Command, TheVariants.{Bad, Class, Put, Batch, Delete, Tree as MakeTree, Fill, Save, Get, Scan, Ls}}
use Rattle.rio_machine.specs.declared.command.PutItem.{PutItem}

-- ---- the branches of a tree

-- items one behind the other, each spelled in knowledge of those before it
abbrev pub SpellsEach : {A : Type 0} → (List A → A → List Lexeme → Type 0) → List A → List A → List Lexeme → Type 0
SpellsEach Spells before [] ls = ls ≡ []
SpellsEach Spells before (x ∷ xs) ls =
    (own : List Lexeme) × (others : List Lexeme) × (ls ≡ own ++ others) × Spells before x own × SpellsEach Spells (before ++ x ∷ []) xs others

-- at least one
abbrev pub SpellsSome : {A : Type 0} → (List A → A → List Lexeme → Type 0) → List A → List Lexeme → Type 0
SpellsSome Spells [] ls = ⊥
SpellsSome Spells (x ∷ xs) ls = SpellsEach Spells [] (x ∷ xs) ls

abbrev pub in_square_brackets : List ℕ → List Lexeme
in_square_brackets w = glued (mark opening_bracket) ∷ glued (word w) ∷ glued (mark closing_bracket) ∷ []

-- how many values a leaf has: a number or the name of a leaf that counts, in square brackets, or nothing for one value
abbrev pub SpellsDim : Dim → List Lexeme → Type 0
SpellsDim One ls = ls ≡ []
SpellsDim (Fixed n) ls = (digits : List ℕ) × (num_of digits ≡ Some n) × (ls ≡ in_square_brackets digits)
SpellsDim (Counted counter times) ls = ls ≡ in_square_brackets counter

-- NAME[..]/LETTER, which the tree may have behind the leaves before
abbrev pub SpellsLeaf : List Leaf → Leaf → List Lexeme → Type 0
SpellsLeaf before leaf ls =
    (inside : List Lexeme) × (ls ≡ glued (word leaf.name) ∷ (inside ++ glued (mark slash) ∷ glued (word (leaf.letter ∷ [])) ∷ []))
    × (is_stated_leaf before leaf ≡ true) × SpellsDim leaf.dim inside

-- behind other leaves of its branch with a colon before it
abbrev pub SpellsNextLeaf : List Leaf → List Leaf → Leaf → List Lexeme → Type 0
SpellsNextLeaf before [] leaf ls = SpellsLeaf before leaf ls
SpellsNextLeaf before (l ∷ own) leaf ls =
    (inside : List Lexeme) × (ls ≡ glued (mark colon) ∷ inside) × SpellsLeaf (before ++ l ∷ own) leaf inside

abbrev pub SpellsShape : List Leaf → Shape → List Lexeme → Type 0
SpellsShape before (Leaves leaves) ls = SpellsSome (SpellsNextLeaf before) leaves ls
SpellsShape before (Objects class) ls =
    (is_name_text class ≡ true) × (ls ≡ glued (word (codes "class")) ∷ glued (mark colon) ∷ glued (word class) ∷ [])

-- NAME=..
abbrev pub SpellsBranch : List BranchDef → BranchDef → List Lexeme → Type 0
SpellsBranch before b ls =
    (inside : List Lexeme) × (ls ≡ word b.name ∷ glued (mark equals_sign) ∷ inside) × ((is_name_text b.name && not (has_branch before b.name)) ≡ true)
    × SpellsShape (all_leaves before) b.shape inside

-- ---- commands

-- a verb and a name before something
abbrev pub SpellsBehind : List ℕ → List ℕ → (List Lexeme → Type 0) → List Lexeme → Type 0
SpellsBehind verb name Spells ls = (own : List Lexeme) × (ls ≡ word verb ∷ word name ∷ own) × (is_item_text name ≡ true) × Spells own

-- NAME value, as a put of a batch has them
abbrev pub SpellsPut : ℕ → PutItem → List Lexeme → Type 0
SpellsPut levels p ls = (own : List Lexeme) × (ls ≡ word p.name ∷ own) × (is_item_text p.name ≡ true) × SpellsValue levels p.value own

-- the puts of a batch in braces, at least one
abbrev pub SpellsPuts : ℕ → List PutItem → List Lexeme → Type 0
SpellsPuts levels [] ls = ⊥
SpellsPuts levels (p ∷ ps) ls =
    (inside : List Lexeme) × (ls ≡ in_brackets opening_brace inside closing_brace) × SpellsItems (λ before. SpellsPut levels) (p ∷ ps) inside

abbrev pub SpellsCycle : ℕ → List Lexeme → Type 0
SpellsCycle cycle ls = (digits : List ℕ) × (num_of digits ≡ Some cycle) × (ls ≡ mark semicolon ∷ word digits ∷ [])

-- these digits tell a version of a class
abbrev pub IsVersion : List ℕ → ℤ → Type 0
IsVersion digits version = (n : ℕ) × (version ≡ pos n) × (num_between_of 1 32767 digits ≡ Some n)

abbrev pub SpellsAskedVersion : ℤ → List Lexeme → Type 0
SpellsAskedVersion version ls = (digits : List ℕ) × IsVersion digits version × (ls ≡ word (codes "as") ∷ word digits ∷ [])

abbrev pub SpellsAskedClass : Base → List Lexeme → Type 0
SpellsAskedClass class ls =
    (digits : List ℕ) × IsVersion digits class.version × (is_name_text class.name ≡ true)
    × (ls ≡ word (codes "as") ∷ word class.name ∷ mark number_sign ∷ word digits ∷ [])

-- something, or nothing
abbrev pub SpellsIfSome : {A : Type 0} → (A → List Lexeme → Type 0) → Option A → List Lexeme → Type 0
SpellsIfSome Spells None ls = ls ≡ []
SpellsIfSome Spells (Some x) ls = Spells x ls

-- what may stand behind the name in a `get`
abbrev pub SpellsAsked : Option ℕ → Option ℤ → List Lexeme → Type 0
SpellsAsked cycle version ls =
    (front : List Lexeme) × (back : List Lexeme) × (ls ≡ front ++ back) × SpellsIfSome SpellsCycle cycle front
    × SpellsIfSome SpellsAskedVersion version back

-- these tokens spell the command, with at most so many brackets of a value within one another
abbrev pub SpellsCommand : ℕ → Command → List Lexeme → Type 0
SpellsCommand levels (Bad line place) ls = ⊥
SpellsCommand levels (Class class) ls = SpellsDeclaration class ls
SpellsCommand levels (Put name value) ls = SpellsBehind (codes "put") name (SpellsValue levels value) ls
SpellsCommand levels (Batch puts) ls = (own : List Lexeme) × (ls ≡ word (codes "batch") ∷ own) × SpellsPuts (levels - 1) puts own
SpellsCommand levels (Delete name cycle) ls = SpellsBehind (codes "delete") name (SpellsCycle cycle) ls
SpellsCommand levels (MakeTree name branches) ls = SpellsBehind (codes "tree") name (SpellsSome SpellsBranch branches) ls
SpellsCommand levels (Fill name row) ls = SpellsBehind (codes "fill") name (SpellsRow (levels - 1) row) ls
SpellsCommand levels (Save name) ls = SpellsBehind (codes "save") name (λ own. own ≡ []) ls
SpellsCommand levels (Get name cycle version) ls = SpellsBehind (codes "get") name (SpellsAsked cycle version) ls
SpellsCommand levels (Scan name class) ls = SpellsBehind (codes "scan") name (SpellsIfSome SpellsAskedClass class) ls
SpellsCommand levels Ls ls = ls ≡ word (codes "ls") ∷ []
