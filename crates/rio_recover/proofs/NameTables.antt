-- The names of a file's objects and trees, kept in two tables.
use Rattle.std.proofs.Common.{◌≡◌, ◌∙◌, ℕ, ◌+◌, List, [], ◌∷◌, ◌++◌, Bool, true, false, cond, not, ◌&&◌, ◌||◌, ltb, refl, sym, ap, arith}
use Rattle.std.proofs.{lemmas.Bool.Decides.{nat_tests}, Math.Bool.{and-false, and-true, or-false}}
use Rattle.std.specs.{List.{find, list_any}, Option.{is_some}, Str.{bytes_eq}}
use Rattle.rio_num.proofs.Cases.{or_turned}
use Rattle.rio_key.specs.declared.head.KeyHead.{KeyHead}
use Rattle.rio_dir.specs.Table.{TableRoom, greatest_cycle, is_at_cycle, is_of_name, with_head}
use Rattle.rio_machine.specs.State.{NameAndCycle}
use Rattle.rio_state.specs.KeyedRecords.{KeyedRecord, is_mixed_name, is_outdated, is_tree_key, item_of_key}
use Rattle.rio_recover.specs.{Keys.{keyed}, Names.{IndexesNames}, declared.names.NameIndex.{NameIndex}}
use Rattle.rio_recover.proofs.Tables.{any-append, any_put, any_same, greatest_above, some_found}

-- ---- one key more

any_last : (p : KeyedRecord → Bool) (tops : List KeyedRecord) (r : KeyedRecord) → list_any p (tops ++ r ∷ []) ≡ (list_any p tops || (p r || false))
any_last p tops r = any-append p tops (r ∷ [])

-- where the key is of this kind, its name and cycle come to those that are there
noted : (test : NameAndCycle → Bool) (kind : KeyHead → Bool) (tops : List KeyedRecord) (head : KeyHead) (old new : List KeyHead) (put : Bool) → kind head ≡ true
    → put ≡ not (is_some (find (is_at_cycle head.name head.cycle) old)) → new ≡ cond put (with_head head old) old
    → list_any (λ h. test (item_of_key h)) old ≡ list_any (λ r. test (item_of_key r.head) && kind r.head) tops
    → list_any (λ h. test (item_of_key h)) new ≡ list_any (λ r. test (item_of_key r.head) && kind r.head) (tops ++ keyed head ∷ [])
noted test kind tops head old new put is told table before =
    let t = test (item_of_key head) in
    let rest = list_any (λ r. test (item_of_key r.head) && kind r.head) tops in
    let here : (t && kind head) ≡ t = ap (λ (b : Bool). t && b) is ∙ and-true t in
    any_put test head old new put told table
    ∙ ap (λ (b : Bool). t || b) before
    ∙ or_turned t rest
    ∙ ap (λ (b : Bool). rest || (b || false)) (sym here)
    ∙ sym (any_last (λ r. test (item_of_key r.head) && kind r.head) tops (keyed head))

-- and where it is of another, they stay
left : (test : NameAndCycle → Bool) (kind : KeyHead → Bool) (tops : List KeyedRecord) (head : KeyHead) (old : List KeyHead) → kind head ≡ false
    → list_any (λ h. test (item_of_key h)) old ≡ list_any (λ r. test (item_of_key r.head) && kind r.head) tops
    → list_any (λ h. test (item_of_key h)) old ≡ list_any (λ r. test (item_of_key r.head) && kind r.head) (tops ++ keyed head ∷ [])
left test kind tops head old is before =
    let t = test (item_of_key head) in
    let rest = list_any (λ r. test (item_of_key r.head) && kind r.head) tops in
    let here : (t && kind head) ≡ false = ap (λ (b : Bool). t && b) is ∙ and-false t in
    before ∙ sym (or-false rest) ∙ ap (λ (b : Bool). rest || (b || false)) (sym here) ∙ sym (any_last (λ r. test (item_of_key r.head) && kind r.head) tops (keyed head))

pub note_tree : (tops : List KeyedRecord) (names : NameIndex) (head : KeyHead) (new : TableRoom) (put : Bool) → is_tree_key head ≡ true
    → put ≡ not (is_some (find (is_at_cycle head.name head.cycle) names.trees.heads)) → new.heads ≡ cond put (with_head head names.trees.heads) names.trees.heads
    → IndexesNames tops names → IndexesNames (tops ++ keyed head ∷ []) (record { trees = new; objects = names.objects })
note_tree tops names head new put tree told table before = record {
  of_trees = λ test. noted test is_tree_key tops head names.trees.heads new.heads put tree told table (before.of_trees test);
  of_objects = λ test. left test (λ h. not (is_tree_key h)) tops head names.objects.heads (ap not tree) (before.of_objects test);
}

pub note_object : (tops : List KeyedRecord) (names : NameIndex) (head : KeyHead) (new : TableRoom) (put : Bool) → is_tree_key head ≡ false
    → put ≡ not (is_some (find (is_at_cycle head.name head.cycle) names.objects.heads)) → new.heads ≡ cond put (with_head head names.objects.heads) names.objects.heads
    → IndexesNames tops names → IndexesNames (tops ++ keyed head ∷ []) (record { trees = names.trees; objects = new })
note_object tops names head new put tree told table before = record {
  of_trees = λ test. left test is_tree_key tops head names.trees.heads tree (before.of_trees test);
  of_objects = λ test. noted test (λ h. not (is_tree_key h)) tops head names.objects.heads new.heads put (ap not tree) told table (before.of_objects test);
}

-- ---- look-ups

pub mixed_by : (tops : List KeyedRecord) (names : NameIndex) (name : List ℕ) (has_tree has_object : Bool) → IndexesNames tops names
    → has_tree ≡ is_some (find (is_of_name name) names.trees.heads) → has_object ≡ is_some (find (is_of_name name) names.objects.heads) → (has_tree && has_object) ≡ is_mixed_name tops name
mixed_by tops names name has_tree has_object is t o =
    let test : NameAndCycle → Bool = λ item. bytes_eq item.0 name in
    let trees = t ∙ some_found (is_of_name name) names.trees.heads ∙ is.of_trees test in
    let objects = o ∙ some_found (is_of_name name) names.objects.heads ∙ is.of_objects test in
    λ i. trees i && objects i

and_moved : (a b c : Bool) → ((a && b) && c) ≡ ((c && a) && b)
and_moved true true true = refl
and_moved true true false = refl
and_moved true false true = refl
and_moved true false false = refl
and_moved false b true = refl
and_moved false b false = refl

above_both : (c g : ℕ) → ltb (c + 1) (g + 1) ≡ ltb c g
above_both c g = grind (arith, nat_tests)

pub outdated_by : (tops : List KeyedRecord) (names : NameIndex) (head : KeyHead) (name : List ℕ) (c n : ℕ) → IndexesNames tops names → name ≡ head.name → c ≡ head.cycle
    → n ≡ greatest_cycle name names.trees.heads + 1 → ltb (c + 1) n ≡ is_outdated tops (keyed head)
outdated_by tops names head name c n is named cycle next =
    let test : NameAndCycle → Bool = λ item. bytes_eq item.0 head.name && ltb head.cycle item.1 in
    let greatest : n ≡ greatest_cycle head.name names.trees.heads + 1 = next ∙ ap (λ (x : List ℕ). greatest_cycle x names.trees.heads + 1) named in
    (λ i. ltb (cycle i + 1) (greatest i))
    ∙ above_both head.cycle (greatest_cycle head.name names.trees.heads)
    ∙ greatest_above head.name head.cycle names.trees.heads
    ∙ is.of_trees test
    ∙ any_same (λ r. (bytes_eq r.head.name head.name && ltb head.cycle r.head.cycle) && is_tree_key r.head) (λ s. is_tree_key s.head && bytes_eq s.head.name head.name && ltb head.cycle s.head.cycle)
    (λ r. and_moved (bytes_eq r.head.name head.name) (ltb head.cycle r.head.cycle) (is_tree_key r.head)) tops
