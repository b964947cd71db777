-- What tokens spell as the branches of a tree is read as them.
use Rattle.std.proofs.Common.{◌≡◌, ℕ, zero, suc, ◌<◌, ◌≤◌, List, [], ◌∷◌, ◌++◌, length, codes, Bool, true, false, ◌&&◌, ◌==◌, not, Option, Some, Ok, refl, sym, ◌∙◌, ap, subst, arith, append_assoc, length-append}
use Rattle.std.proofs.{lemmas.List.{append-nil}, lemmas.Bool.{and_parts, not-true, not_from_false}, lemmas.Slice.Eq.{bytes_eq-Decides}}
use Rattle.std.specs.Str.{bytes_eq}
use Rattle.rio_num.specs.{At.{At}, Word.{is_name_text}}
use Rattle.rio_token.specs.{declared.token.Token.{Token, TheVariants.{Mark, End}}, Reading.{Read, is_end, is_mark, marked, some_if}}
use Rattle.rio_token.specs.Tokens.{behind, is_glued, next_at}
use Rattle.rio_leaf.specs.{declared.branch.BranchDef.{BranchDef}, declared.branch.Shape.{Shape, TheVariants.{Leaves, Class as Objects}}, Reading.{letter_in}}
use Rattle.rio_leaf.specs.{declared.leaf.Dim.{Dim, TheVariants.{One}}, declared.leaf.Leaf.{Leaf}, Leaves.{has_leaf}, Stated.{all_leaves}}
use Rattle.rio_model.specs.Lexemes.{IsNext, Lexeme, Stand, glued, mark, word}
use Rattle.rio_model.proofs.LexemeLaws.{marked_again, stand_split, stand_within, word_not_marked, word_that_again}
use Rattle.rio_step.specs.CommandSpelling.{SpellsBranch, SpellsEach, SpellsNextLeaf, SpellsShape, SpellsSome, in_square_brackets}
use Rattle.rio_step.specs.TreeGrammar.{branch_at, branch_class_at, branch_leaf_at, branch_leaves_at, branches_at, further_at, glued_at, glued_mark_at, goes_on, is_glued_mark, is_new_branch, is_new_leaf, items_at, leaf_dim_at, leaf_dimension, opens_class, shape_at, tree_leaf_at}
use Rattle.rio_step.proofs.{BranchTells.{comes_again}, LeafWords.{ReadsDim, ReadsLeaf, spelled_leaf_is_read}, TellsLaws.{glued_again, glued_mark_test}}
use Rattle.rio_step.proofs.TreeTells.{next_leaf_takes}

-- ---- items one behind the other

module _ {A : Type 0} (begins : At → Bool) (item : List A → At → Read A) (Spells : List A → A → List Lexeme → Type 0) (ends : A → At → Bool) where
  -- what the reader of an item keeps to
  pub record RowAgain : Type 0 where
    pub again : (front : List A) (x : A) (own : List Lexeme) (s t : At) → Spells front x own → Stand own s t → ends x t ≡ true → item front s ≡ Ok (x, t)
    pub takes : (front : List A) (x : A) (own : List Lexeme) → Spells front x own → 0 < length own
    pub begun : (f : A) (fs : List A) (x : A) (own : List Lexeme) (s t : At) → Spells (f ∷ fs) x own → Stand own s t → begins s ≡ true
    pub next : (y f : A) (fs : List A) (x : A) (own : List Lexeme) (s t : At) → Spells (f ∷ fs) x own → Stand own s t → ends y s ≡ true
    pub last : (y : A) (t : At) → begins t ≡ false → ends y t ≡ true

  module _ (i : RowAgain) where
    -- where the one before ends
    before_more : (y f : A) (fs xs : List A) (ls : List Lexeme) (s t : At) → SpellsEach Spells (f ∷ fs) xs ls → Stand ls s t → begins t ≡ false → ends y s ≡ true
    before_more y f fs [] ls s t c h stop = let e : t ≡ s = subst (λ (l : List Lexeme). Stand l s t) c h in subst (λ (a : At). ends y a ≡ true) e (i.last y t stop)
    before_more y f fs (x ∷ xs) ls s t c h stop =
        let r = stand_split c.0 c.1 s t (subst (λ (l : List Lexeme). Stand l s t) c.2 h) in
        i.next y f fs x c.0 s r.0 c.3 r.1

    further_again : (xs : List A) (f : A) (fs : List A) (ls : List Lexeme) (fuel : ℕ) (s t : At) → SpellsEach Spells (f ∷ fs) xs ls → Stand ls s t → begins t ≡ false → length ls ≤ fuel
        → further_at fuel begins item (f ∷ fs) s ≡ Ok ((f ∷ fs) ++ xs, t)
    unfolding further_at
    further_again [] f fs ls zero s t c h stop le = let e : t ≡ s = subst (λ (l : List Lexeme). Stand l s t) c h in rw (append-nil fs, e) refl
    further_again [] f fs ls (suc fuel) s t c h stop le =
        let e : t ≡ s = subst (λ (l : List Lexeme). Stand l s t) c h in
        let not_so : begins s ≡ false = subst (λ (a : At). begins a ≡ false) e stop in
        rw (not_so, append-nil fs, e) refl
    further_again (x ∷ xs) f fs ls zero s t c h stop le =
        let some = i.takes (f ∷ fs) x c.0 c.3 in
        let e = ap (λ (l : List Lexeme). length l) c.2 in
        absurd (omega (arith, le, some, e, length-append c.0 c.1))
    further_again (x ∷ xs) f fs ls (suc fuel) s t c h stop le =
        let some = i.takes (f ∷ fs) x c.0 c.3 in
        let e = ap (λ (l : List Lexeme). length l) c.2 in
        let r = stand_split c.0 c.1 s t (subst (λ (l : List Lexeme). Stand l s t) c.2 h) in
        let goes_so = i.begun f fs x c.0 s r.0 c.3 r.1 in
        let one = i.again (f ∷ fs) x c.0 s r.0 c.3 r.1 (before_more x f (fs ++ x ∷ []) xs c.1 r.0 t c.4 r.2 stop) in
        let rest = further_again xs f (fs ++ x ∷ []) c.1 fuel r.0 t c.4 r.2 stop (omega (arith, le, some, e, length-append c.0 c.1)) in
        let joined : (fs ++ x ∷ []) ++ xs ≡ fs ++ x ∷ xs = append_assoc fs (x ∷ []) xs in
        rw (goes_so, one, rest, joined) refl

    pub row_again : (xs : List A) (ls : List Lexeme) (s t : At) → SpellsSome Spells xs ls → Stand ls s t → begins t ≡ false → items_at begins item s ≡ Ok (xs, t)
    unfolding items_at
    row_again [] ls s t c h stop = absurd c
    row_again (x ∷ xs) ls s t c h stop =
        let r = stand_split c.0 c.1 s t (subst (λ (l : List Lexeme). Stand l s t) c.2 h) in
        let one = i.again [] x c.0 s r.0 c.3 r.1 (before_more x x [] xs c.1 r.0 t c.4 r.2 stop) in
        let within = stand_within c.1 r.0 t r.2 in
        let rest = further_again xs x [] c.1 (length r.0.rest) r.0 t c.4 r.2 stop (omega (arith, within)) in
        rw (one, rest) refl

-- ---- leaves

glued_at_again : {A : Type 0} (f : List ℕ → Option A) (w : List ℕ) (x : A) (s : At) → IsNext (glued (word w)) s → f w ≡ Some x → glued_at f s ≡ Ok (x, behind s)
unfolding glued_at
glued_at_again f w x s h says = let next = glued_again w s h in rw (next, says) refl

glued_mark_again : (b : ℕ) (s : At) → IsNext (glued (mark b)) s → glued_mark_at b s ≡ Ok (tt, behind s)
unfolding glued_mark_at
glued_mark_again b s h = let goes_so = (glued_mark_test b).back s h in rw goes_so refl

other_mark : (b k : ℕ) (s : At) → IsNext (glued (mark b)) s → (b == k) ≡ false → is_glued_mark k s ≡ false
other_mark b k s h apart = let m : marked k s ≡ false = marked_again b k s h.1 ∙ apart in rw (h.0, m) refl

no_mark : (w : List ℕ) (k : ℕ) (s : At) → IsNext (word w) s → is_glued_mark k s ≡ false
no_mark w k s h = by (is_glued s) (word_not_marked w k s h)
  where
    by : (g : Bool) → marked k s ≡ false → (g && marked k s) ≡ false
    by true m = m
    by false m = refl

name_given : (test : List ℕ → Bool) (name : List ℕ) → test name ≡ true → (let o : Option (List ℕ) = some_if (test name) name in o ≡ Some name)
name_given test name h = rw h refl

size_again : (before : List Leaf) (w : List ℕ) (dim : Dim) (inside : List Lexeme) (s t : At) → inside ≡ in_square_brackets w → leaf_dimension before w ≡ Some dim → Stand inside s t → leaf_dim_at before s ≡ Ok (dim, t)
unfolding leaf_dim_at
size_again before w dim inside s t e says h =
    let n = subst (λ (l : List Lexeme). Stand l s t) e h in
    let opens = (glued_mark_test 91).back s n.0 in
    let size = glued_at_again (leaf_dimension before) w dim (behind s) n.1.0 says in
    let closed = glued_mark_again 93 (behind (behind s)) n.1.1.0 in
    rw (opens, size, closed, n.1.1.1) refl

dim_again : (before : List Leaf) (dim : Dim) (inside : List Lexeme) (s t : At) → ReadsDim before dim inside → Stand inside s t → is_glued_mark 91 t ≡ false → leaf_dim_at before s ≡ Ok (dim, t)
unfolding leaf_dim_at
dim_again before One inside s t c h not_so =
    let e : t ≡ s = subst (λ (l : List Lexeme). Stand l s t) c h in
    let here : is_glued_mark 91 s ≡ false = subst (λ (a : At). is_glued_mark 91 a ≡ false) e not_so in
    rw (here, e) refl
dim_again before dim inside s t c h not_so = size_again before c.0 dim inside s t c.2 c.1 h

leaf_again : (before : List Leaf) (leaf : Leaf) (ls : List Lexeme) (s t : At) → ReadsLeaf before leaf ls → Stand ls s t → tree_leaf_at before s ≡ Ok (leaf, t)
unfolding tree_leaf_at
leaf_again before leaf ls s t c h =
    let n = subst (λ (l : List Lexeme). Stand l s t) c.2 h in
    let r = stand_split c.0 (glued (mark 47) ∷ glued (word c.1) ∷ []) (behind s) t n.1 in
    let name = glued_at_again (λ w. some_if (is_new_leaf before w) w) leaf.name leaf.name s n.0 (name_given (is_new_leaf before) leaf.name c.3) in
    let dim = dim_again before leaf.dim c.0 (behind s) r.0 c.4 r.1 (other_mark 47 91 r.0 r.2.0 refl) in
    let slash = glued_mark_again 47 r.0 r.2.0 in
    let letter = glued_at_again (letter_in leaf.dim) c.1 leaf.letter (behind r.0) r.2.1.0 c.5 in
    let parts : tree_leaf_at before s ≡ Ok (leaf, behind (behind r.0)) = rw (name, dim, slash, letter) refl in
    parts ∙ ap (λ (a : At). let x : Read Leaf = Ok (leaf, a) in x) (sym r.2.1.1)

next_leaf_again : (before front : List Leaf) (leaf : Leaf) (ls : List Lexeme) (s t : At) → SpellsNextLeaf before front leaf ls → Stand ls s t → branch_leaf_at before front s ≡ Ok (leaf, t)
unfolding branch_leaf_at
next_leaf_again before [] leaf ls s t c h = leaf_again before leaf ls s t (spelled_leaf_is_read before leaf ls c) h
next_leaf_again before (l ∷ own) leaf ls s t c h =
    let n = subst (λ (k : List Lexeme). Stand k s t) c.1 h in
    let passed = glued_mark_again 58 s n.0 in
    let one = leaf_again (before ++ l ∷ own) leaf c.0 (behind s) t (spelled_leaf_is_read (before ++ l ∷ own) leaf c.0 c.2) n.1 in
    rw (passed, one) refl

leaf_row : (before : List Leaf) → RowAgain (is_glued_mark 58) (branch_leaf_at before) (SpellsNextLeaf before) (λ leaf t. true)
leaf_row before = record {
  again = λ front x own s t c h ends. next_leaf_again before front x own s t c h;
  takes = next_leaf_takes before;
  begun = λ f fs x own s t c h. (glued_mark_test 58).back s (subst (λ (k : List Lexeme). Stand k s t) c.1 h).0;
  next = λ y f fs x own s t c h. refl;
  last = λ y t stop. refl;
}

-- ---- branches

-- behind the name of a leaf no colon comes next
behind_name : (before : List Leaf) (dim : Dim) (inside : List Lexeme) (w : List ℕ) (s t : At) → ReadsDim before dim inside → Stand (inside ++ glued (mark 47) ∷ glued (word w) ∷ []) s t → is_glued_mark 58 s ≡ false
behind_name before One inside w s t c h = other_mark 47 58 s (subst (λ (k : List Lexeme). Stand (k ++ glued (mark 47) ∷ glued (word w) ∷ []) s t) c h).0 refl
behind_name before dim inside w s t c h = other_mark 91 58 s (subst (λ (k : List Lexeme). Stand (k ++ glued (mark 47) ∷ glued (word w) ∷ []) s t) c.2 h).0 refl

leaf_opens_none : (before : List Leaf) (leaf : Leaf) (ls : List Lexeme) (s t : At) → ReadsLeaf before leaf ls → Stand ls s t → opens_class before s ≡ false
leaf_opens_none before leaf ls s t c h = by (bytes_eq leaf.name (codes "class")) refl
  where
    n : IsNext (glued (word leaf.name)) s × Stand (c.0 ++ glued (mark 47) ∷ glued (word c.1) ∷ []) (behind s) t
    n = subst (λ (l : List Lexeme). Stand l s t) c.2 h

    by : (b : Bool) → bytes_eq leaf.name (codes "class") ≡ b → opens_class before s ≡ false
    by false not_so = let next = glued_again leaf.name s n.0 in rw (next, not_so) refl
    by true goes_so =
        let same : leaf.name ≡ codes "class" = (bytes_eq-Decides leaf.name (codes "class")).0 goes_so in
        let new : is_new_leaf before (codes "class") ≡ true = subst (λ (w : List ℕ). is_new_leaf before w ≡ true) same c.3 in
        let free : has_leaf before (codes "class") ≡ false = not-true (has_leaf before (codes "class")) (and_parts (is_name_text (codes "class")) (not (has_leaf before (codes "class"))) new).1 in
        let colon : is_glued_mark 58 (behind s) ≡ false = behind_name before leaf.dim c.0 c.1 (behind s) t c.4 n.1 in
        let next = glued_again leaf.name s n.0 in
        rw (next, goes_so, colon, free) refl

class_again : (class : List ℕ) (s t : At) → is_name_text class ≡ true → Stand (glued (mark 58) ∷ glued (word class) ∷ []) s t → branch_class_at s ≡ Ok (Objects class, t)
unfolding branch_class_at
class_again class s t named n =
    let passed = glued_mark_again 58 s n.0 in
    let one = glued_at_again (λ w. some_if (is_name_text w) w) class class (behind s) n.1.0 (name_given is_name_text class named) in
    rw (passed, one, n.1.1) refl

leaves_again : (before : List Leaf) (leaves : List Leaf) (ls : List Lexeme) (s t : At) → SpellsSome (SpellsNextLeaf before) leaves ls → Stand ls s t → is_glued_mark 58 t ≡ false → branch_leaves_at before s ≡ Ok (Leaves leaves, t)
unfolding branch_leaves_at
leaves_again before leaves ls s t c h stop =
    let all = row_again (is_glued_mark 58) (branch_leaf_at before) (SpellsNextLeaf before) (λ leaf t. true) (leaf_row before) leaves ls s t c h stop in
    rw all refl

shape_again : (before : List Leaf) (shape : Shape) (ls : List Lexeme) (s t : At) → SpellsShape before shape ls → Stand ls s t → is_glued_mark 58 t ≡ false → shape_at before s ≡ Ok (shape, t)
shape_again before (Objects class) ls s t c h stop =
    let n = subst (λ (l : List Lexeme). Stand l s t) c.1 h in
    let comes = comes_again s n.0 in
    let colon = (glued_mark_test 58).back (behind s) n.1.0 in
    let one = class_again class (behind s) t c.0 n.1 in
    rw (comes, colon, one) refl
shape_again before (Leaves []) ls s t c h stop = absurd c
shape_again before (Leaves (l ∷ more)) ls s t c h stop =
    let r = stand_split c.0 c.1 s t (subst (λ (k : List Lexeme). Stand k s t) c.2 h) in
    let not_so = leaf_opens_none before l c.0 s r.0 (spelled_leaf_is_read before l c.0 c.3) r.1 in
    let all = leaves_again before (l ∷ more) ls s t c h stop in
    rw not_so all

branch_again : (before : List BranchDef) (b : BranchDef) (ls : List Lexeme) (s t : At) → SpellsBranch before b ls → Stand ls s t → not (is_glued_mark 58 t) ≡ true → branch_at before s ≡ Ok (b, t)
unfolding branch_at
branch_again before b ls s t c h ends =
    let n = subst (λ (l : List Lexeme). Stand l s t) c.1 h in
    let name = word_that_again (is_new_branch before) b.name s n.0 c.2 in
    let equals = glued_mark_again 61 (behind s) n.1.0 in
    let shape = shape_again (all_leaves before) b.shape c.0 (behind (behind s)) t c.3 n.1.1 (not-true (is_glued_mark 58 t) ends) in
    rw (name, equals, shape) refl

end_no_mark : (token : Token) → not (is_end token) ≡ false → is_mark 58 token ≡ false
end_no_mark (Mark b) e = absurd (cc)
end_no_mark other e = refl

end_is_no_mark : (t : At) → goes_on t ≡ false → is_glued_mark 58 t ≡ false
end_is_no_mark t h = by (is_glued t) (end_no_mark (next_at t).token h)
  where
    by : (g : Bool) → marked 58 t ≡ false → (g && marked 58 t) ≡ false
    by true m = m
    by false m = refl

branch_row : RowAgain goes_on branch_at SpellsBranch (λ b t. not (is_glued_mark 58 t))
branch_row = record {
  again = branch_again;
  takes = λ front x own c. let e = ap (λ (l : List Lexeme). length l) c.1 in omega (arith, e);
  begun = λ f fs x own s t c h. let n = subst (λ (l : List Lexeme). Stand l s t) c.1 h in rw n.0.0 refl;
  next = λ y f fs x own s t c h. let n = subst (λ (l : List Lexeme). Stand l s t) c.1 h in not_from_false (is_glued_mark 58 s) (no_mark x.name 58 s n.0);
  last = λ y t stop. not_from_false (is_glued_mark 58 t) (end_is_no_mark t stop);
}

pub branches_again : (bs : List BranchDef) (ls : List Lexeme) (s t : At) → SpellsSome SpellsBranch bs ls → Stand ls s t → (next_at t).token ≡ End → branches_at s ≡ Ok (bs, t)
branches_again bs ls s t c h end =
    row_again goes_on branch_at SpellsBranch (λ b t. not (is_glued_mark 58 t)) branch_row bs ls s t c h (let not_so : goes_on t ≡ false = rw end refl in not_so)
