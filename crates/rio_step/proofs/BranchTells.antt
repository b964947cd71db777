-- What a branch holds, and branches: what is read, and the first tokens that can't stand.
use Rattle.std.proofs.Common.{◌≡◌, ℕ, ◌+◌, ◌<◌, ◌≤◌, List, [], ◌∷◌, ◌++◌, length, codes, Bool, true, false, ◌&&◌, ◌||◌, not, if◌then◌else◌, Option, Some, None, Ok, Err, refl, sym, ◌∙◌, ap, subst, arith, length-append}
use Rattle.std.proofs.{lemmas.Bool.{and_parts}, lemmas.Slice.Eq.{bytes_eq-Decides}}
use Rattle.std.specs.{Option.{option_map_or}, Str.{bytes_eq}}
use Rattle.rio_num.specs.{At.{At}, Reading.{◌>>=◌}}
use Rattle.rio_token.specs.{declared.fault.TextFault.{TextFault}, declared.token.Token.{Token}, Reading.{Read, is_end, word_that_at}, Tokens.{behind}}
use Rattle.rio_leaf.specs.{declared.branch.BranchDef.{BranchDef}, declared.branch.Shape.{Shape, TheVariants.{Leaves, Class as Objects}}}
use Rattle.rio_leaf.specs.{declared.leaf.Leaf.{Leaf}, Leaves.{has_leaf}, Stated.{all_leaves, leaves_of}}
use Rattle.rio_model.specs.Lexemes.{IsNext, Lexeme, glued, mark, word}
use Rattle.rio_model.proofs.LexemeLaws.{with_place}
use Rattle.rio_step.specs.CommandLaws.{HaveSameToken, IsFirstBadToken, StandAlike}
use Rattle.rio_step.specs.CommandSpelling.{SpellsBranch, SpellsEach, SpellsNextLeaf, SpellsShape, SpellsSome}
use Rattle.rio_step.specs.TreeGrammar.{branch_at, branch_class_at, branch_leaf_at, branch_leaves_at, branches_at, comes_class, further_at, glued_at, glued_mark_at, glued_word, goes_on, is_glued_mark, is_new_branch, is_new_leaf, items_at, opens_class, shape_at, tree_leaf_at}
use Rattle.rio_step.proofs.{AlikeLaws.{BeginBehind, IsKnown, Tells, alike_first, bad_behind, bad_there, begin_as}, FreshNames.{new_branch}}
use Rattle.rio_step.proofs.{FurtherTells.{ItemTells, Rest, items_tell, rest_tells}, NamedTells.{Named, named_tells}}
use Rattle.rio_step.proofs.TellsLaws.{glued_again, glued_mark_test, glued_word_is, glued_word_same}
use Rattle.rio_step.proofs.TreeTells.{BehindName, GluedMark, OfClass, OfLeaves, behind_name_at, behind_name_tells, glued_mark_tells, leaf_spelled, leaves_tell, next_leaf_takes, of_class_tells, of_leaves_tell, slashed_at}
use Rattle.rio_step.proofs.TurnLaws.{InTurn, fewer, handed_tells, tells_as, turn_tells}

-- ---- the word `class`

abbrev class_word : Lexeme
class_word = glued (word (codes "class"))

comes_is : (s : At) → comes_class s ≡ true → IsNext class_word s
comes_is s h = by (glued_word s) refl h
  where
    by : (o : Option (List ℕ)) → glued_word s ≡ o → option_map_or (λ w. bytes_eq w (codes "class")) o false ≡ true → IsNext class_word s
    by None is e = absurd cc
    by (Some w) is e = subst (λ (v : List ℕ). IsNext (glued (word v)) s) ((bytes_eq-Decides w (codes "class")).0 e) (glued_word_is s w is)

pub comes_again : (s : At) → IsNext class_word s → comes_class s ≡ true
comes_again s h = let next = glued_again (codes "class") s h in rw next refl

comes_same : (s t : At) → HaveSameToken true s t → comes_class s ≡ comes_class t
comes_same s t h = ap (λ (o : Option (List ℕ)). option_map_or (λ w. bytes_eq w (codes "class")) o false) (glued_word_same s t h)

module _ (before : List Leaf) where
  abbrev colon_or_taken : At → Bool
  colon_or_taken s = is_glued_mark 58 (behind s) || has_leaf before (codes "class")

  opens_same : (s t : At) → comes_class s ≡ comes_class t → HaveSameToken true (behind s) (behind t) → opens_class before s ≡ opens_class before t
  opens_same s t comes h =
      ap (λ (b : Bool). b && colon_or_taken s) comes
      ∙ ap (λ (b : Bool). comes_class t && (b || has_leaf before (codes "class"))) ((glued_mark_test 58).same (behind s) (behind t) h)

  not_comes : (t : At) → comes_class t ≡ false → opens_class before t ≡ false
  not_comes t h = rw h refl

  abbrev either_at : Bool → At → Read Shape
  either_at b s = if b then branch_class_at (behind s) else branch_leaves_at before s

  class_spelled : (shape : Shape) (ls : List Lexeme) → OfClass shape ls → SpellsShape before shape (class_word ∷ ls)
  class_spelled shape ls c = subst (λ (x : Shape). SpellsShape before x (class_word ∷ ls)) (sym c.1) (c.2, ap (λ (o : List Lexeme). class_word ∷ o) c.3)

  leaves_spelled : (shape : Shape) (ls : List Lexeme) → OfLeaves before shape ls → SpellsShape before shape ls
  leaves_spelled shape ls c = subst (λ (x : Shape). SpellsShape before x ls) (sym c.1) c.2

  -- a class is read where the same stands
  class_known : (n : ℕ) (s : At) (x : Shape) (m : At) → comes_class s ≡ true → opens_class before s ≡ true → branch_class_at (behind s) ≡ Ok (x, m) → IsKnown true (shape_at before) (SpellsShape before) s x m
  class_known n s x m comes opens h =
      let k = (of_class_tells n).known (behind s) x m h in
      record {
        passed = class_word ∷ k.passed;
        spelled = class_spelled x k.passed k.spelled;
        stands = (comes_is s comes, k.stands);
        again = λ u v st.
            let here : opens_class before u ≡ true = sym (opens_same s u (comes_same s u st.1) (alike_first true k.passed (behind s) (behind u) v st.2)) ∙ opens in
            let one = k.again (behind u) v st.2 in
            rw (here, one) refl;
      }

  no_tokens : (x : Shape) → OfLeaves before x [] → ⊥
  no_tokens x c = by c.0 c.2
    where
      by : (leaves : List Leaf) → SpellsSome (SpellsNextLeaf before) leaves [] → ⊥
      by [] d = d
      by (l ∷ ls) d =
          let some = next_leaf_takes before [] l d.0 d.3 in
          let e = ap (λ (o : List Lexeme). length o) d.2 in
          omega (arith, some, e, length-append d.0 d.1)

  leaves_known : (n : ℕ) → length before ≤ n → (s : At) (x : Shape) (m : At) → opens_class before s ≡ false → branch_leaves_at before s ≡ Ok (x, m) → IsKnown true (shape_at before) (SpellsShape before) s x m
  leaves_known n le s x m not_so h =
      let k = (of_leaves_tell before n le).known s x m h in
      record {
        passed = k.passed;
        spelled = leaves_spelled x k.passed k.spelled;
        stands = k.stands;
        again = λ u v st.
            let here : opens_class before u ≡ false = closed k.passed u v k.spelled st in
            let one = k.again u v st in
            rw (here, one) refl;
      }
    where
      closed : (passed : List Lexeme) (u v : At) → OfLeaves before x passed → StandAlike true passed s u v → opens_class before u ≡ false
      closed [] u v c st = absurd (no_tokens x c)
      closed (l ∷ ls) u v c st = sym (opens_same s u (comes_same s u st.1) (alike_first true ls (behind s) (behind u) v st.2)) ∙ not_so

  -- ---- and the first token that can't stand

  class_told : (n : ℕ) (s : At) (e : TextFault) → comes_class s ≡ true → opens_class before s ≡ true → branch_class_at (behind s) ≡ Err e → IsFirstBadToken true (shape_at before) (BeginBehind n (SpellsShape before)) s e
  class_told n s e comes opens h =
      bad_behind true (shape_at before) branch_class_at (BeginBehind n OfClass) (BeginBehind n (SpellsShape before)) (class_word ∷ []) s (behind s) e (comes_is s comes, refl)
      (λ u v st g fault.
      let here : opens_class before u ≡ true = sym (opens_same s u (comes_same s u st.1) st.2.1) ∙ opens in
      let one : branch_class_at (behind u) ≡ Err g = subst (λ (a : At). branch_class_at a ≡ Err g) st.2.0 fault in
      rw (here, one) refl)
      (λ ms b few. let o = b (omega (arith, few)) in (o.0, o.1, class_spelled o.1 (ms ++ o.0) o.2)) ((of_class_tells n).told (behind s) e h)

  -- no leaf is called `class` here
  leaves_told : (n : ℕ) → length before ≤ n → (s : At) (e : TextFault) → comes_class s ≡ false → branch_leaves_at before s ≡ Err e → IsFirstBadToken true (shape_at before) (BeginBehind n (SpellsShape before)) s e
  leaves_told n le s e comes h =
      bad_there true (shape_at before) (branch_leaves_at before) (BeginBehind n (OfLeaves before)) (BeginBehind n (SpellsShape before)) s e
      (λ u same g fault. let here = not_comes u (sym (comes_same s u same) ∙ comes) in rw (here, fault) refl)
      (begin_as n (λ x. x) (OfLeaves before) (SpellsShape before) leaves_spelled) ((of_leaves_tell before n le).told s e h)

  -- ---- a first leaf that is called `class`

  abbrev S : List Leaf → Leaf → List Lexeme → Type 0
  S = SpellsNextLeaf before

  abbrev further_leaves_at : List Leaf → At → Read (List Leaf)
  further_leaves_at front m = further_at (length m.rest) (is_glued_mark 58) (branch_leaf_at before) front m

  after_class_at : At → Read Shape
  after_class_at m = (behind_name_at before (codes "class") m >>= λ x. further_leaves_at (x.0 ∷ []) x.1) >>= with_place Leaves

  abbrev AfterClass : Shape → List Lexeme → Type 0
  AfterClass shape ls = (leaves : List Leaf) × (shape ≡ Leaves leaves) × InTurn (BehindName before (codes "class")) (λ x. Rest S (x ∷ [])) leaves ls

  some_tokens : (x : Leaf) (own : List Lexeme) → BehindName before (codes "class") x own → 0 < length own
  some_tokens x own c =
      let all = ap (λ (o : List Lexeme). length o) c.3 in
      let back = ap (λ (o : List Lexeme). length o) c.5.3 in
      let slash = ap (λ (o : List Lexeme). length o) c.5.4 in
      omega (arith, all, back, slash, length-append c.1 c.2, length-append c.5.1 c.5.2)

  after_class_tells : (n : ℕ) → length before ≤ n → Tells true after_class_at AfterClass AfterClass n
  unfolding after_class_at
  after_class_tells n le =
      let G = BehindName before (codes "class") in
      let more = λ (x : Leaf). rest_tells true (is_glued_mark 58) (branch_leaf_at before) S S (λ own. length own) n (leaves_tell before n le) (x ∷ []) in
      handed_tells true (λ m. behind_name_at before (codes "class") m >>= λ x. further_leaves_at (x.0 ∷ []) x.1) Leaves (InTurn G (λ x. Rest S (x ∷ []))) (InTurn G (λ x. Rest S (x ∷ []))) AfterClass AfterClass n
      (turn_tells true (behind_name_at before (codes "class")) (λ x m. further_leaves_at (x ∷ []) m) G G (λ x. Rest S (x ∷ [])) (λ x. Rest S (x ∷ [])) n (λ x. n + length (x ∷ []))
      (behind_name_tells before (codes "class") n) more (λ x own c. let some = some_tokens x own c in omega (arith, some)) (λ x few. (x ∷ [], [], ([], refl, refl))))
      (λ x ls c. (x, refl, c)) (λ x ls c. (x, refl, c)) (λ y ls c. c)

  after_spelled : (shape : Shape) (ls : List Lexeme) → is_new_leaf before (codes "class") ≡ true → AfterClass shape ls → SpellsShape before shape (class_word ∷ ls)
  after_spelled shape ls new c =
      let t = c.2 in
      let leaf = leaf_spelled before (codes "class") t.0 t.1 new t.4 in
      let all : SpellsSome S (t.0 ∷ t.5.0) (class_word ∷ ls) = (class_word ∷ t.1, t.2, ap (λ (o : List Lexeme). class_word ∷ o) t.3, leaf, t.5.2) in
      subst (λ (x : Shape). SpellsShape before x (class_word ∷ ls)) (sym c.1) (subst (λ (l : List Leaf). SpellsSome S l (class_word ∷ ls)) (sym t.5.1) all)

  goes_after : (t : At) → IsNext class_word t → has_leaf before (codes "class") ≡ false → branch_leaves_at before t ≡ after_class_at (behind t)
  unfolding branch_leaves_at items_at branch_leaf_at tree_leaf_at glued_at behind_name_at slashed_at after_class_at
  goes_after t next free = let here = glued_again (codes "class") t next in rw (here, free) refl

  new_class : has_leaf before (codes "class") ≡ false → is_new_leaf before (codes "class") ≡ true
  new_class free = rw free refl

  after_told : (n : ℕ) → length before ≤ n → (s : At) (e : TextFault) → comes_class s ≡ true → opens_class before s ≡ false → has_leaf before (codes "class") ≡ false
      → branch_leaves_at before s ≡ Err e → IsFirstBadToken true (shape_at before) (BeginBehind n (SpellsShape before)) s e
  after_told n le s e comes not_so free h =
      bad_behind true (shape_at before) after_class_at (BeginBehind n AfterClass) (BeginBehind n (SpellsShape before)) (class_word ∷ []) s (behind s) e (comes_is s comes, refl)
      (λ u v st g fault.
      let here : opens_class before u ≡ false = sym (opens_same s u (comes_same s u st.1) st.2.1) ∙ not_so in
      let one : branch_leaves_at before u ≡ Err g = goes_after u st.0 free ∙ subst (λ (a : At). after_class_at a ≡ Err g) st.2.0 fault in
      rw (here, one) refl)
      (λ ms b few. let o = b (omega (arith, few)) in (o.0, o.1, after_spelled o.1 (ms ++ o.0) (new_class free) o.2))
      ((after_class_tells n le).told (behind s) e (sym (goes_after s (comes_is s comes) free) ∙ h))

  -- ---- what a branch holds

  opens_parts : (s : At) → comes_class s ≡ true → opens_class before s ≡ false → has_leaf before (codes "class") ≡ false
  opens_parts s comes not_so = by (comes_class s) (is_glued_mark 58 (behind s)) (has_leaf before (codes "class")) comes not_so
    where
      by : (a b c : Bool) → a ≡ true → (a && (b || c)) ≡ false → c ≡ false
      by false b c goes_so e = absurd cc
      by true true c goes_so e = absurd cc
      by true false c goes_so e = e

  opens_comes : (s : At) → opens_class before s ≡ true → comes_class s ≡ true
  opens_comes s opens = (and_parts (comes_class s) (colon_or_taken s) opens).0

  shape_known : (n : ℕ) → length before ≤ n → (b : Bool) (s : At) (x : Shape) (m : At) → opens_class before s ≡ b → either_at b s ≡ Ok (x, m) → IsKnown true (shape_at before) (SpellsShape before) s x m
  shape_known n le true s x m opens h = class_known n s x m (opens_comes s opens) opens h
  shape_known n le false s x m not_so h = leaves_known n le s x m not_so h

  shape_told : (n : ℕ) → length before ≤ n → (b c : Bool) (s : At) (e : TextFault) → opens_class before s ≡ b → comes_class s ≡ c → either_at b s ≡ Err e
      → IsFirstBadToken true (shape_at before) (BeginBehind n (SpellsShape before)) s e
  shape_told n le true c s e opens comes h = class_told n s e (opens_comes s opens) opens h
  shape_told n le false true s e not_so comes h = after_told n le s e comes not_so (opens_parts s comes not_so) h
  shape_told n le false false s e not_so comes h = leaves_told n le s e comes h

  pub shape_tells : (n : ℕ) → length before ≤ n → Tells true (shape_at before) (SpellsShape before) (SpellsShape before) n
  shape_tells n le = record {
    known = λ s x m h. shape_known n le (opens_class before s) s x m refl h;
    up = λ x ls c. c;
    told = λ s e h. shape_told n le (opens_class before s) (comes_class s) s e refl refl h;
  }

-- ---- branches

abbrev branch_with : List ℕ → Shape → BranchDef
branch_with name shape = record { name = name; shape = shape }

abbrev Shaped : List Leaf → List ℕ → BranchDef → List Lexeme → Type 0
Shaped before name b ls = (shape : Shape) × (b ≡ branch_with name shape) × SpellsShape before shape ls

-- the equals sign and what the branch holds
equals_at : List Leaf → List ℕ → At → Read BranchDef
equals_at before name m = glued_mark_at 61 m >>= λ passed. shape_at before passed.1 >>= with_place (branch_with name)

abbrev Equals : List Leaf → List ℕ → BranchDef → List Lexeme → Type 0
Equals before name = InTurn (GluedMark 61) (λ u. Shaped before name)

any_class : (before : List Leaf) (name : List ℕ) → Shaped before name (branch_with name (Objects (codes "A"))) (class_word ∷ glued (mark 58) ∷ glued (word (codes "A")) ∷ [])
any_class before name = (Objects (codes "A"), refl, (refl, refl))

equals_tells : (before : List Leaf) (name : List ℕ) (n : ℕ) → length before ≤ n → Tells true (equals_at before name) (Equals before name) (Equals before name) n
unfolding equals_at
equals_tells before name n le =
    turn_tells true (glued_mark_at 61) (λ u m. shape_at before m >>= with_place (branch_with name)) (GluedMark 61) (GluedMark 61) (λ u. Shaped before name) (λ u. Shaped before name) n (λ u. n)
    (glued_mark_tells 61 n)
    (λ u. handed_tells true (shape_at before) (branch_with name) (SpellsShape before) (SpellsShape before) (Shaped before name) (Shaped before name) n (shape_tells before n le) (λ x ls c. (x, refl, c)) (λ x ls c. (x, refl, c)) (λ y ls c. c))
    (λ x own c. omega arith) (λ u few. (branch_with name (Objects (codes "A")), class_word ∷ glued (mark 58) ∷ glued (word (codes "A")) ∷ [], any_class before name))

-- so many names are taken behind some branches: theirs, and those of their leaves
abbrev names_of : List BranchDef → ℕ
names_of bs = length bs + length (all_leaves bs)

branch_tells : (before : List BranchDef) (n : ℕ) → names_of before ≤ n → Tells true (branch_at before) (SpellsBranch before) (SpellsBranch before) n
unfolding branch_at equals_at
branch_tells before n le =
    let leaves = all_leaves before in
    tells_as true (λ s. branch_at before s) (InTurn (Named (is_new_branch before)) (Equals leaves)) (InTurn (Named (is_new_branch before)) (Equals leaves)) (SpellsBranch before) (SpellsBranch before) n
    (turn_tells true (word_that_at (is_new_branch before)) (λ name m. equals_at leaves name m) (Named (is_new_branch before)) (Named (is_new_branch before)) (Equals leaves) (Equals leaves) n (λ name. n)
    (named_tells true (is_new_branch before) n (λ few. new_branch before (omega (arith, le, few)))) (λ name. equals_tells leaves name n (omega (arith, le))) (λ x own c. omega arith)
    (λ name few. (
      branch_with name (Objects (codes "A")),
      glued (mark 61) ∷ class_word ∷ glued (mark 58) ∷ glued (word (codes "A")) ∷ [],
      (tt, glued (mark 61) ∷ [], class_word ∷ glued (mark 58) ∷ glued (word (codes "A")) ∷ [], refl, refl, any_class leaves name),
    )))
    to to (λ y ls c. c)
  where
    to : (b : BranchDef) (ls : List Lexeme) → InTurn (Named (is_new_branch before)) (Equals (all_leaves before)) b ls → SpellsBranch before b ls
    to b ls c =
        let q = c.5 in
        let back : c.2 ≡ glued (mark 61) ∷ q.2 = q.3 ∙ ap (λ (o : List Lexeme). o ++ q.2) q.4 in
        let tokens : ls ≡ word c.0 ∷ glued (mark 61) ∷ q.2 = c.3 ∙ ap (λ (o : List Lexeme). o ++ c.2) c.4.0 ∙ ap (λ (o : List Lexeme). word c.0 ∷ o) back in
        subst (λ (x : BranchDef). SpellsBranch before x ls) (sym q.5.1) (q.2, tokens, c.4.1, q.5.2)

-- ---- all branches of a tree

all_leaves_more : (front : List BranchDef) (b : BranchDef) → length (all_leaves (front ++ b ∷ [])) ≡ length (all_leaves front) + length (leaves_of b.shape)
all_leaves_more [] b = let e = length-append (leaves_of b.shape) [] in omega (arith, e)
all_leaves_more (c ∷ cs) b =
    let rest = all_leaves_more cs b in
    omega (arith, rest, length-append (leaves_of c.shape) (all_leaves (cs ++ b ∷ [])), length-append (leaves_of c.shape) (all_leaves cs))

each_takes : (before front xs : List Leaf) (ls : List Lexeme) → SpellsEach (SpellsNextLeaf before) front xs ls → length xs ≤ length ls
each_takes before front [] ls c = omega arith
each_takes before front (x ∷ xs) ls c =
    let some = next_leaf_takes before front x c.0 c.3 in
    let rest = each_takes before (front ++ x ∷ []) xs c.1 c.4 in
    let e = ap (λ (o : List Lexeme). length o) c.2 in
    omega (arith, some, rest, e, length-append c.0 c.1)

shape_takes : (before : List Leaf) (shape : Shape) (ls : List Lexeme) → SpellsShape before shape ls → length (leaves_of shape) ≤ length ls
shape_takes before (Objects class) ls c = omega arith
shape_takes before (Leaves []) ls c = absurd c
shape_takes before (Leaves (l ∷ more)) ls c = each_takes before [] (l ∷ more) ls c

branch_length : (before : List BranchDef) (b : BranchDef) (ls : List Lexeme) → SpellsBranch before b ls → length (leaves_of b.shape) + 2 ≤ length ls
branch_length before b ls c =
    let all = ap (λ (o : List Lexeme). length o) c.1 in
    let inside = shape_takes (all_leaves before) b.shape c.0 c.3 in
    omega (arith, all, inside)

branches_tell : ItemTells true goes_on branch_at SpellsBranch SpellsBranch (λ front. names_of front) 0
branches_tell = record {
  one = λ front. branch_tells front (0 + names_of front) (omega arith);
  same = λ s t h. ap (λ (k : Token). not (is_end k)) h.next.token;
  grows = λ front x own c.
      let some = branch_length front x own c in
      let more = all_leaves_more front x in
      omega (arith, some, more, length-append front (x ∷ []));
  takes = λ front x own c. let some = branch_length front x own c in omega (arith, some);
  stops = λ t h. rw h refl;
}

pub branches_tells : Tells true branches_at (SpellsSome SpellsBranch) (SpellsSome SpellsBranch) 0
branches_tells =
    fewer true branches_at (SpellsSome SpellsBranch) (SpellsSome SpellsBranch) (0 + names_of []) 0 (omega arith)
    (items_tell true goes_on branch_at SpellsBranch SpellsBranch (λ front. names_of front) 0 branches_tell)
