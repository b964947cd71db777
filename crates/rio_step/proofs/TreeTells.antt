-- The branches of a tree: what is read, and the first tokens that can't stand.
use Rattle.std.proofs.Common.{◌≡◌, inl, inr, ℕ, ◌+◌, ◌<◌, ◌≤◌, ◌^◌, List, [], ◌∷◌, ◌++◌, length, codes, Bool, true, false, ◌&&◌, Option, Some, None, option_and_then, Ok, refl, sym, ◌∙◌, ap, subst, arith, length-append}
use Rattle.std.specs.Option.{option_map, option_or}
use Rattle.rio_num.specs.{At.{At}, Reading.{◌>>=◌}, Word.{is_name_text}}
use Rattle.rio_num.proofs.ReadLaws.{if_is}
use Rattle.rio_token.specs.{declared.token.Token.TheVariants.{End}, Reading.{Read, marked, some_if}, Tokens.{is_glued, next_at}}
use Rattle.rio_token.specs.Words.{decimal, num_between_of, written}
use Rattle.rio_leaf.specs.{declared.branch.Shape.{Shape, TheVariants.{Leaves, Class as Objects}}, declared.leaf.Dim.{Dim, TheVariants.{One, Fixed, Counted}}, Reading.{letter_in}}
use Rattle.rio_leaf.specs.{declared.leaf.Leaf.{Leaf}, Leaves.{has_counting_leaf}}
use Rattle.rio_leaf.proofs.LeafFound.{leaf_is}
use Rattle.rio_model.specs.Lexemes.{Lexeme, glued, mark, word}
use Rattle.rio_model.proofs.LexemeLaws.{with_place}
use Rattle.rio_step.specs.CommandSpelling.{SpellsLeaf, SpellsNextLeaf, SpellsSome}
use Rattle.rio_step.specs.TreeGrammar.{branch_class_at, branch_leaf_at, branch_leaves_at, glued_at, glued_mark_at, glued_word, is_glued_mark, is_new_leaf, items_at, leaf_dim_at, leaf_dimension, leaf_size_at, tree_leaf_at}
use Rattle.rio_step.proofs.{AlikeLaws.{Tells}, FreshNames.{new_leaf}, FurtherTells.{ItemTells, items_tell}, LeafWords.{ReadsDim, leaf_read_is_spelled}}
use Rattle.rio_step.proofs.TellsLaws.{IsLexeme, SaysGluedWord, SaysOne, glued_mark_test, glued_word_said, one_tells, test_said}
use Rattle.rio_step.proofs.TurnLaws.{Behind, EitherOf, InTurn, Nothing, choice_tells, handed_tells, fewer, nothing_tells, tells_as, turn_tells}

-- ---- single tokens

abbrev pub GluedMark : ℕ → Unit {0} → List Lexeme → Type 0
GluedMark b u ls = ls ≡ glued (mark b) ∷ []

pub glued_mark_tells : (b n : ℕ) → Tells true (glued_mark_at b) (GluedMark b) (GluedMark b) n
unfolding glued_mark_at
glued_mark_tells b n =
    let k = glued (mark b) in
    tells_as true (λ s. glued_mark_at b s) (SaysOne (IsLexeme k)) (SaysOne (IsLexeme k)) (GluedMark b) (GluedMark b) n
    (one_tells true (λ s. some_if (is_glued_mark b s) tt) (IsLexeme k) (test_said true (is_glued_mark b) k (glued_mark_test b)) n (λ few. (tt, k, refl)))
    to to (λ u ls c. c)
  where
    to : (u : Unit {0}) (ls : List Lexeme) → SaysOne (IsLexeme (glued (mark b))) u ls → GluedMark b u ls
    to u ls c = c.1 ∙ ap (λ (l : Lexeme). l ∷ []) c.2

-- a name that passes a test
abbrev pub GluedName : (List ℕ → Bool) → List ℕ → List Lexeme → Type 0
GluedName test name ls = (ls ≡ glued (word name) ∷ []) × (test name ≡ true)

abbrev pub tested : (List ℕ → Bool) → List ℕ → Option (List ℕ)
tested test w = some_if (test w) w

pub glued_name_tells : (test : List ℕ → Bool) (n : ℕ) → (n < 2 ^ 32 → (name : List ℕ) × (test name ≡ true)) → Tells true (glued_at (tested test)) (GluedName test) (GluedName test) n
unfolding glued_at
glued_name_tells test n some =
    tells_as true (λ s. glued_at (tested test) s) (SaysOne (SaysGluedWord (tested test))) (SaysOne (SaysGluedWord (tested test))) (GluedName test) (GluedName test) n
    (one_tells true (λ s. option_and_then (tested test) (glued_word s)) (SaysGluedWord (tested test)) (glued_word_said (tested test)) n
    (λ few. let c = some few in (c.0, glued (word c.0), (c.0, let goes_so = c.1 in rw goes_so refl, refl))))
    to to (λ w ls c. c)
  where
    to : (w : List ℕ) (ls : List Lexeme) → SaysOne (SaysGluedWord (tested test)) w ls → GluedName test w ls
    to w ls c =
        let i = if_is (test c.2.0) c.2.0 w c.2.1 in
        (c.1 ∙ ap (λ (l : Lexeme). l ∷ []) (c.2.2 ∙ ap (λ (v : List ℕ). glued (word v)) i.1), subst (λ (v : List ℕ). test v ≡ true) i.1 i.0)

-- what a glued word says
abbrev pub GluedWord : {A : Type 0} → (List ℕ → Option A) → A → List Lexeme → Type 0
GluedWord f x ls = (w : List ℕ) × (f w ≡ Some x) × (ls ≡ glued (word w) ∷ [])

pub glued_word_tells : {A : Type 0} (f : List ℕ → Option A) (n : ℕ) → (x : A) (w : List ℕ) → f w ≡ Some x → Tells true (glued_at f) (GluedWord f) (GluedWord f) n
unfolding glued_at
glued_word_tells {A} f n x w says =
    tells_as true (λ s. glued_at f s) (SaysOne (SaysGluedWord f)) (SaysOne (SaysGluedWord f)) (GluedWord f) (GluedWord f) n
    (one_tells true (λ s. option_and_then f (glued_word s)) (SaysGluedWord f) (glued_word_said f) n (λ few. (x, glued (word w), (w, says, refl))))
    to to (λ y ls c. c)
  where
    to : (y : A) (ls : List Lexeme) → SaysOne (SaysGluedWord f) y ls → GluedWord f y ls
    to y ls c = (c.2.0, c.2.1, c.1 ∙ ap (λ (l : Lexeme). l ∷ []) c.2.2)

-- ---- dimensions

abbrev Sized : List Leaf → Dim → List Lexeme → Type 0
Sized before dim ls = (w : List ℕ) × (leaf_dimension before w ≡ Some dim) × (ls ≡ glued (word w) ∷ glued (mark 93) ∷ [])

two_says : (before : List Leaf) → leaf_dimension before (codes "2") ≡ Some (Fixed 2)
unfolding leaf_dimension decimal written
two_says before = refl

-- a dimension, and its closing bracket
abbrev Closed : Dim → Dim → List Lexeme → Type 0
Closed dim y ls = (y ≡ dim) × (ls ≡ glued (mark 93) ∷ [])

closed_tells : (dim : Dim) (n : ℕ) → Tells true (λ m. glued_mark_at 93 m >>= with_place (λ u. dim)) (Closed dim) (Closed dim) n
closed_tells dim n =
    handed_tells true (glued_mark_at 93) (λ u. dim) (GluedMark 93) (GluedMark 93) (Closed dim) (Closed dim) n (glued_mark_tells 93 n) (λ u ls c. (refl, c)) (λ u ls c. (refl, c)) (λ y ls c. c)

size_tells : (before : List Leaf) (n : ℕ) → Tells true (leaf_size_at before) (Sized before) (Sized before) n
size_tells before n =
    tells_as true (leaf_size_at before) (InTurn (GluedWord (leaf_dimension before)) Closed) (InTurn (GluedWord (leaf_dimension before)) Closed) (Sized before) (Sized before) n
    (turn_tells true (glued_at (leaf_dimension before)) (λ dim m. glued_mark_at 93 m >>= with_place (λ u. dim)) (GluedWord (leaf_dimension before)) (GluedWord (leaf_dimension before)) Closed Closed n (λ dim. n)
    (glued_word_tells (leaf_dimension before) n (Fixed 2) (codes "2") (two_says before)) (λ dim. closed_tells dim n) (λ x own c. omega arith) (λ x few. (x, glued (mark 93) ∷ [], (refl, refl))))
    to to (λ y ls c. c)
  where
    to : (dim : Dim) (ls : List Lexeme) → InTurn (GluedWord (leaf_dimension before)) Closed dim ls → Sized before dim ls
    to dim ls c =
        let says : leaf_dimension before c.4.0 ≡ Some dim = c.4.1 ∙ ap (λ (d : Dim). let o : Option Dim = Some d in o) (sym c.5.0) in
        (c.4.0, says, c.3 ∙ ap (λ (o : List Lexeme). o ++ c.2) c.4.2 ∙ ap (λ (o : List Lexeme). glued (word c.4.0) ∷ o) c.5.1)

never_one : (before : List Leaf) (w : List ℕ) → leaf_dimension before w ≡ Some One → ⊥
unfolding leaf_dimension
never_one before w h = by (num_between_of 2 100000 w) (is_name_text w && has_counting_leaf before w) h
  where
    by : (o : Option ℕ) (b : Bool) → option_or (option_map Fixed o) (some_if b (Counted w 1)) ≡ Some One → ⊥
    by (Some k) b e = cc
    by None true e = cc
    by None false e = cc

dim_spelled : (before : List Leaf) (dim : Dim) (ls : List Lexeme) → EitherOf (Behind (glued (mark 91)) (Sized before)) (Nothing One) dim ls → ReadsDim before dim ls
dim_spelled before dim ls (inr n) = subst (λ (d : Dim). ReadsDim before d ls) (sym n.0) n.1
dim_spelled before One ls (inl b) = absurd (never_one before b.2.0 b.2.1)
dim_spelled before dim ls (inl b) = (b.2.0, b.2.1, b.1 ∙ ap (λ (o : List Lexeme). glued (mark 91) ∷ o) b.2.2)

dim_tells : (before : List Leaf) (n : ℕ) → Tells true (leaf_dim_at before) (ReadsDim before) (ReadsDim before) n
unfolding leaf_dim_at
dim_tells before n =
    tells_as true (λ s. leaf_dim_at before s) (EitherOf (Behind (glued (mark 91)) (Sized before)) (Nothing One)) (EitherOf (Behind (glued (mark 91)) (Sized before)) (Nothing One)) (ReadsDim before) (ReadsDim before) n
    (choice_tells true (is_glued_mark 91) (glued (mark 91)) (glued_mark_test 91) (leaf_size_at before) (λ s. Ok (One, s)) (Sized before) (Sized before) (Nothing One) (Nothing One) n (size_tells before n) (nothing_tells true One n))
    (dim_spelled before) (dim_spelled before) (λ y ls c. c)

-- ---- leaves

abbrev pub Lettered : List ℕ → Dim → Leaf → List Lexeme → Type 0
Lettered name dim leaf ls = (w : List ℕ) × (letter : ℕ) × (letter_in dim w ≡ Some letter) × (leaf ≡ leaf_is name dim letter) × (ls ≡ glued (word w) ∷ [])

letter_of_all : (dim : Dim) → letter_in dim (codes "I") ≡ Some 73
letter_of_all One = refl
letter_of_all (Fixed n) = refl
letter_of_all (Counted counter times) = refl

lettered_tells : (name : List ℕ) (dim : Dim) (n : ℕ) → Tells true (λ m. glued_at (letter_in dim) m >>= with_place (leaf_is name dim)) (Lettered name dim) (Lettered name dim) n
lettered_tells name dim n =
    handed_tells true (glued_at (letter_in dim)) (leaf_is name dim) (GluedWord (letter_in dim)) (GluedWord (letter_in dim)) (Lettered name dim) (Lettered name dim) n
    (glued_word_tells (letter_in dim) n 73 (codes "I") (letter_of_all dim)) (λ x ls c. (c.0, x, c.1, refl, c.2)) (λ x ls c. (c.0, x, c.1, refl, c.2)) (λ y ls c. c)

-- the slash and the letter
unfoldable pub slashed_at : List ℕ → Dim → At → Read Leaf
slashed_at name dim m = glued_mark_at 47 m >>= λ passed. glued_at (letter_in dim) passed.1 >>= with_place (leaf_is name dim)

abbrev pub Slashed : List ℕ → Dim → Leaf → List Lexeme → Type 0
Slashed name dim = InTurn (GluedMark 47) (λ u. Lettered name dim)

slashed_tells : (name : List ℕ) (dim : Dim) (n : ℕ) → Tells true (slashed_at name dim) (Slashed name dim) (Slashed name dim) n
unfolding slashed_at
slashed_tells name dim n =
    turn_tells true (glued_mark_at 47) (λ u m. glued_at (letter_in dim) m >>= with_place (leaf_is name dim)) (GluedMark 47) (GluedMark 47) (λ u. Lettered name dim) (λ u. Lettered name dim) n (λ u. n)
    (glued_mark_tells 47 n) (λ u. lettered_tells name dim n) (λ x own c. omega arith)
    (λ u few. (leaf_is name dim 73, glued (word (codes "I")) ∷ [], (codes "I", 73, letter_of_all dim, refl, refl)))

-- what stands behind the name
unfoldable pub behind_name_at : List Leaf → List ℕ → At → Read Leaf
behind_name_at before name m = leaf_dim_at before m >>= λ dim. slashed_at name dim.0 dim.1

abbrev pub BehindName : List Leaf → List ℕ → Leaf → List Lexeme → Type 0
BehindName before name = InTurn (ReadsDim before) (Slashed name)

any_leaf : (name : List ℕ) (dim : Dim) → Slashed name dim (leaf_is name dim 73) (glued (mark 47) ∷ glued (word (codes "I")) ∷ [])
any_leaf name dim = (tt, glued (mark 47) ∷ [], glued (word (codes "I")) ∷ [], refl, refl, (codes "I", 73, letter_of_all dim, refl, refl))

pub behind_name_tells : (before : List Leaf) (name : List ℕ) (n : ℕ) → Tells true (behind_name_at before name) (BehindName before name) (BehindName before name) n
unfolding behind_name_at
behind_name_tells before name n =
    turn_tells true (leaf_dim_at before) (λ dim m. slashed_at name dim m) (ReadsDim before) (ReadsDim before) (Slashed name) (Slashed name) n (λ dim. n)
    (dim_tells before n) (λ dim. slashed_tells name dim n) (λ x own c. omega arith)
    (λ dim few. (leaf_is name dim 73, glued (mark 47) ∷ glued (word (codes "I")) ∷ [], any_leaf name dim))

-- a leaf, by its name and what stands behind it
pub leaf_spelled : (before : List Leaf) (name : List ℕ) (leaf : Leaf) (ls : List Lexeme) → is_new_leaf before name ≡ true → BehindName before name leaf ls → SpellsLeaf before leaf (glued (word name) ∷ ls)
leaf_spelled before name leaf ls new c =
    let s = c.5 in
    let e = s.5 in
    let tokens : ls ≡ c.1 ++ glued (mark 47) ∷ glued (word e.0) ∷ [] = c.3 ∙ ap (λ (o : List Lexeme). c.1 ++ o) (s.3 ∙ ap (λ (o : List Lexeme). o ++ s.2) s.4 ∙ ap (λ (o : List Lexeme). glued (mark 47) ∷ o) e.4) in
    subst (λ (l : Leaf). SpellsLeaf before l (glued (word name) ∷ ls)) (sym e.3)
    (leaf_read_is_spelled before (leaf_is name c.0 e.1) (glued (word name) ∷ ls) (c.1, e.0, ap (λ (o : List Lexeme). glued (word name) ∷ o) tokens, new, c.4, e.2))

leaf_tells : (before : List Leaf) (n : ℕ) → length before ≤ n → Tells true (tree_leaf_at before) (SpellsLeaf before) (SpellsLeaf before) n
unfolding tree_leaf_at behind_name_at slashed_at
leaf_tells before n le =
    tells_as true (λ s. tree_leaf_at before s) (InTurn (GluedName (is_new_leaf before)) (BehindName before)) (InTurn (GluedName (is_new_leaf before)) (BehindName before)) (SpellsLeaf before) (SpellsLeaf before) n
    (turn_tells true (glued_at (tested (is_new_leaf before))) (λ name m. behind_name_at before name m) (GluedName (is_new_leaf before)) (GluedName (is_new_leaf before)) (BehindName before) (BehindName before) n (λ name. n)
    (glued_name_tells (is_new_leaf before) n (λ few. new_leaf before (omega (arith, le, few)))) (λ name. behind_name_tells before name n) (λ x own c. omega arith)
    (λ name few. (leaf_is name One 73, glued (mark 47) ∷ glued (word (codes "I")) ∷ [], (One, [], glued (mark 47) ∷ glued (word (codes "I")) ∷ [], refl, refl, any_leaf name One))))
    to to (λ y ls c. c)
  where
    to : (leaf : Leaf) (ls : List Lexeme) → InTurn (GluedName (is_new_leaf before)) (BehindName before) leaf ls → SpellsLeaf before leaf ls
    to leaf ls c = subst (SpellsLeaf before leaf) (sym (c.3 ∙ ap (λ (o : List Lexeme). o ++ c.2) c.4.0)) (leaf_spelled before c.0 leaf c.2 c.4.1 c.5)

-- behind the other leaves of its branch
next_leaf_tells : (before front : List Leaf) (n : ℕ) → length before ≤ n → Tells true (branch_leaf_at before front) (SpellsNextLeaf before front) (SpellsNextLeaf before front) (n + length front)
unfolding branch_leaf_at
next_leaf_tells before [] n le = leaf_tells before (n + length {A = Leaf} []) (omega (arith, le))
next_leaf_tells before (l ∷ own) n le =
    let all = n + length (l ∷ own) in
    let leaves = before ++ l ∷ own in
    tells_as true (λ s. branch_leaf_at before (l ∷ own) s) (InTurn (GluedMark 58) (λ u. SpellsLeaf leaves)) (InTurn (GluedMark 58) (λ u. SpellsLeaf leaves)) (SpellsNextLeaf before (l ∷ own)) (SpellsNextLeaf before (l ∷ own)) all
    (turn_tells true (glued_mark_at 58) (λ u m. tree_leaf_at leaves m) (GluedMark 58) (GluedMark 58) (λ u. SpellsLeaf leaves) (λ u. SpellsLeaf leaves) all (λ u. all)
    (glued_mark_tells 58 all) (λ u. leaf_tells leaves all (omega (arith, le, length-append before (l ∷ own)))) (λ x tokens c. omega arith)
    (λ u few. let c = new_leaf leaves (omega (arith, few, le, length-append before (l ∷ own))) in
    let leaf = leaf_is c.0 One 73 in
    let tokens = glued (word c.0) ∷ glued (mark 47) ∷ glued (word (codes "I")) ∷ [] in
    (leaf, tokens, leaf_read_is_spelled leaves leaf tokens ([], codes "I", refl, c.1, refl, refl))))
    to to (λ y ls c. c)
  where
    to : (leaf : Leaf) (ls : List Lexeme) → InTurn (GluedMark 58) (λ u. SpellsLeaf (before ++ l ∷ own)) leaf ls → SpellsNextLeaf before (l ∷ own) leaf ls
    to leaf ls c = (c.2, c.3 ∙ ap (λ (o : List Lexeme). o ++ c.2) c.4, c.5)

leaf_takes : (before : List Leaf) (leaf : Leaf) (ls : List Lexeme) → SpellsLeaf before leaf ls → 0 < length ls
leaf_takes before leaf ls c = let e = ap (λ (l : List Lexeme). length l) c.1 in omega (arith, e)

pub next_leaf_takes : (before front : List Leaf) (leaf : Leaf) (ls : List Lexeme) → SpellsNextLeaf before front leaf ls → 0 < length ls
next_leaf_takes before [] leaf ls c = leaf_takes before leaf ls c
next_leaf_takes before (l ∷ own) leaf ls c = let e = ap (λ (k : List Lexeme). length k) c.1 in omega (arith, e)

mark_is_no_end : (b : ℕ) (t : At) → (next_at t).token ≡ End → is_glued_mark b t ≡ false
mark_is_no_end b t h = by (is_glued t)
  where
    by : (g : Bool) → (g && marked b t) ≡ false
    by true = rw h refl
    by false = refl

pub leaves_tell : (before : List Leaf) (n : ℕ) → length before ≤ n → ItemTells true (is_glued_mark 58) (branch_leaf_at before) (SpellsNextLeaf before) (SpellsNextLeaf before) (λ own. length own) n
leaves_tell before n le = record {
  one = λ front. next_leaf_tells before front n le;
  same = (glued_mark_test 58).same;
  grows = λ front x own c. let some = next_leaf_takes before front x own c in omega (arith, length-append front (x ∷ []), some);
  takes = next_leaf_takes before;
  stops = λ t h. mark_is_no_end 58 t h;
}

abbrev pub OfLeaves : List Leaf → Shape → List Lexeme → Type 0
OfLeaves before shape ls = (leaves : List Leaf) × (shape ≡ Leaves leaves) × SpellsSome (SpellsNextLeaf before) leaves ls

pub of_leaves_tell : (before : List Leaf) (n : ℕ) → length before ≤ n → Tells true (branch_leaves_at before) (OfLeaves before) (OfLeaves before) n
unfolding branch_leaves_at
of_leaves_tell before n le =
    let S = SpellsNextLeaf before in
    handed_tells true (items_at (is_glued_mark 58) (branch_leaf_at before)) Leaves (SpellsSome S) (SpellsSome S) (OfLeaves before) (OfLeaves before) n
    (fewer true (items_at (is_glued_mark 58) (branch_leaf_at before)) (SpellsSome S) (SpellsSome S) (n + length {A = Leaf} []) n (omega arith) (items_tell true (is_glued_mark 58) (branch_leaf_at before) S S (λ own. length own) n (leaves_tell before n le)))
    (λ x ls c. (x, refl, c)) (λ x ls c. (x, refl, c)) (λ y ls c. c)

-- ---- classes

abbrev pub OfClass : Shape → List Lexeme → Type 0
OfClass shape ls = (class : List ℕ) × (shape ≡ Objects class) × (is_name_text class ≡ true) × (ls ≡ glued (mark 58) ∷ glued (word class) ∷ [])

abbrev ClassName : Shape → List Lexeme → Type 0
ClassName shape ls = (class : List ℕ) × (shape ≡ Objects class) × (is_name_text class ≡ true) × (ls ≡ glued (word class) ∷ [])

class_name_tells : (n : ℕ) → Tells true (λ m. glued_at (tested is_name_text) m >>= with_place Objects) ClassName ClassName n
class_name_tells n =
    handed_tells true (glued_at (tested is_name_text)) Objects (GluedName is_name_text) (GluedName is_name_text) ClassName ClassName n
    (glued_name_tells is_name_text n (λ few. (codes "A", refl))) (λ x ls c. (x, refl, c.1, c.0)) (λ x ls c. (x, refl, c.1, c.0)) (λ y ls c. c)

pub of_class_tells : (n : ℕ) → Tells true branch_class_at OfClass OfClass n
unfolding branch_class_at
of_class_tells n =
    tells_as true (λ s. branch_class_at s) (InTurn (GluedMark 58) (λ u. ClassName)) (InTurn (GluedMark 58) (λ u. ClassName)) OfClass OfClass n
    (turn_tells true (glued_mark_at 58) (λ u m. glued_at (tested is_name_text) m >>= with_place Objects) (GluedMark 58) (GluedMark 58) (λ u. ClassName) (λ u. ClassName) n (λ u. n)
    (glued_mark_tells 58 n) (λ u. class_name_tells n) (λ x own c. omega arith) (λ u few. (Objects (codes "A"), glued (word (codes "A")) ∷ [], (codes "A", refl, refl, refl))))
    to to (λ y ls c. c)
  where
    to : (shape : Shape) (ls : List Lexeme) → InTurn (GluedMark 58) (λ u. ClassName) shape ls → OfClass shape ls
    to shape ls c = (c.5.0, c.5.1, c.5.2, c.3 ∙ ap (λ (o : List Lexeme). o ++ c.2) c.4 ∙ ap (λ (o : List Lexeme). glued (mark 58) ∷ o) c.5.3)
