-- A run that puts, deletes and lists texts, and what it says.
use Rattle.std.proofs.Common.{◌≡◌, T, ℕ, ◌+◌, ℤ, pos, List, [], ◌∷◌, ◌++◌, length, map, Bool, true, false, cond, Option, Some, None, refl, sym, ap, ◌∙◌}
use Rattle.std.proofs.{lemmas.List.{nil_from_length}, lemmas.Map.Views.{tells_apart}}
use Rattle.std.specs.Prelude.{codes, nat_le, nat_lt, unwrap_or, is_some}
use Rattle.std.specs.FinMap.{empty, entries, entries-from_sorted, entries-insert, find, from_entries, from_sorted, get, get-empty, get-from_sorted, get-remove, insert, is_sorted, len-empty, len-entries, put, remove, same_entries_map, same_map}
use Rattle.std.specs.{Ordering.{eq_by_cmp}, Fmt.{digits}}
use Rattle.rio_format.proofs.ValueCases.{fold_Int, fold_Object, fold_Text}
use Rattle.rio_format.specs.{Bodies.{part}, Fits.{fits, fitting_step}, Slots.{kinded}, Written.{Writing, writing_of, writing_step, written_form}, ReaderState.{no_words}, declared.kind.Kind.TheVariants.{Inline}}
use Rattle.rio_machine.specs.Limits.{cycle_limit, has_all_items, item_limit}
use Rattle.rio_machine.specs.State.{NameAndCycle, State, Tree, empty_state, item_order, names_tree, next_cycle}
use Rattle.rio_machine.specs.declared.command.Command.{Command, TheVariants.{Put, Delete, Ls}}
use Rattle.rio_step.specs.Refusing.{object_class, put_value, refusal_of}
use Rattle.rio_step.specs.Step.{Listed, Stepped, by_refusal, item_deleted, items_listed, items_of, object_listed, object_put, state_behind, step}
use Rattle.rio_step.specs.{ReplyText.{text_of}, Runs.{said_of}}
use Rattle.rio_num.specs.{Printed.{name_text}, Word.{name_order}}
use Rattle.rio_machine.proofs.OrderLaws.{items_tie, items_total, same_state}
use Rattle.rio_model.specs.Resolving.{part_resolved, resolved, resolving_step}
use Rattle.rio_format.specs.{Depth.{depth_of, depth_step}, LongestList.{longest_list_of, longest_step}, declared.value.Part.{Part, Part-F}}
use Rattle.rio_format.specs.declared.value.Value.{Value, Int, Object, Text, out-roll-Value, TheVariants.{rolls-Object}, TheOpen.{Value-F}, TheFolds.{fold-Value, fold_out-Part}}
use Rattle.rio_format.specs.declared.value.Value.TheOpen as layer

-- an object, by what is known of its parts
object_folds : {A A' : Type 0} (step : Value-F A A' → A) (step' : Part-F A A' → A') (class : List ℕ) (version : ℤ) (parts : List Part)
    → fold-Value A A' step step' (Object class version parts) ≡ step (layer.Object class version (map (λ p. step' (record { name = p.name; value = fold-Value A A' step step' p.value })) parts))
object_folds {A} {A'} step step' class version parts =
    fold_Object step step' class version parts ∙ ap (λ (g : Part → A'). step (layer.Object class version (map g parts))) (λ i p. fold_out-Part A A' step step' p i)

-- ---- texts

abbrev bare_parts : List Part
bare_parts = part (codes "fUniqueID") (Int (pos 0)) ∷ part (codes "fBits") (Int (pos 0)) ∷ []

abbrev bare_object : Value
bare_object = Object (codes "TObject") (pos 1) bare_parts

abbrev text_parts : List ℕ → List Part
text_parts text = part [] bare_object ∷ part (codes "fString") (Text text) ∷ []

-- a TObjString
abbrev text_object : List ℕ → Value
text_object text = Object (codes "TObjString") (pos 1) (text_parts text)

text_depth : (text : List ℕ) → depth_of (text_object text) ≡ 2
text_depth text =
    rw (
      object_folds depth_step (λ p. p.value) (codes "TObjString") (pos 1) (text_parts text),
      object_folds depth_step (λ p. p.value) (codes "TObject") (pos 1) bare_parts,
      fold_Int depth_step (λ p. p.value) (pos 0),
      fold_Text depth_step (λ p. p.value) text,
    ) refl

text_longest : (text : List ℕ) → longest_list_of (text_object text) ≡ 0
text_longest text =
    rw (
      object_folds longest_step (λ p. p.value) (codes "TObjString") (pos 1) (text_parts text),
      object_folds longest_step (λ p. p.value) (codes "TObject") (pos 1) bare_parts,
      fold_Int longest_step (λ p. p.value) (pos 0),
      fold_Text longest_step (λ p. p.value) text,
    ) refl

text_fits : (text : List ℕ) → fits [] (codes "TObjString") (text_object text) ≡ true
text_fits text =
    rw (
      object_folds (fitting_step []) (λ p. (p.name, p.value)) (codes "TObjString") (pos 1) (text_parts text),
      object_folds (fitting_step []) (λ p. (p.name, p.value)) (codes "TObject") (pos 1) bare_parts,
      fold_Int (fitting_step []) (λ p. (p.name, p.value)) (pos 0),
      fold_Text (fitting_step []) (λ p. (p.name, p.value)) text,
    ) refl

text_resolved : (text : List ℕ) → resolved [] (text_object text) ≡ Some (text_object text)
text_resolved text =
    rw (
      object_folds (resolving_step []) (λ p. part_resolved p.name p.value) (codes "TObjString") (pos 1) (text_parts text),
      object_folds (resolving_step []) (λ p. part_resolved p.name p.value) (codes "TObject") (pos 1) bare_parts,
      fold_Int (resolving_step []) (λ p. part_resolved p.name p.value) (pos 0),
      fold_Text (resolving_step []) (λ p. part_resolved p.name p.value) text,
    ) refl

-- what is written for it
abbrev zero_written : Writing
zero_written = writing_step [] (layer.Int (pos 0))

abbrev bare_written : Writing
bare_written = writing_step [] (layer.Object (codes "TObject") (pos 1) (zero_written ∷ zero_written ∷ []))

text_writing : (text : List ℕ) → writing_of [] (text_object text) ≡ writing_step [] (layer.Object (codes "TObjString") (pos 1) (bare_written ∷ writing_step [] (layer.Text text) ∷ []))
text_writing text =
    let zero = fold_Int (writing_step []) (λ p. p.value) (pos 0) in
    let chars = fold_Text (writing_step []) (λ p. p.value) text in
    let bare : writing_of [] bare_object ≡ bare_written =
    object_folds (writing_step []) (λ p. p.value) (codes "TObject") (pos 1) bare_parts ∙ (λ i. writing_step [] (layer.Object (codes "TObject") (pos 1) (zero i ∷ zero i ∷ []))) in
    object_folds (writing_step []) (λ p. p.value) (codes "TObjString") (pos 1) (text_parts text) ∙ (λ i. writing_step [] (layer.Object (codes "TObjString") (pos 1) (bare i ∷ chars i ∷ [])))

-- a text of two bytes has 19
text_length : (a b : ℕ) → length (written_form [] 0 (text_object (a ∷ b ∷ []))) ≡ 19
text_length a b = ap (λ (w : Writing). length (w.bytes (kinded (Inline w.class)) 0 no_words).0) (text_writing (a ∷ b ∷ []))

class_told : (text : List ℕ) → object_class (text_object text) ≡ Some (codes "TObjString")
class_told text = ap object_class (sym (rolls-Object (codes "TObjString") (pos 1) (text_parts text))) ∙ ap object_class_of (out-roll-Value (layer.Object (codes "TObjString") (pos 1) (text_parts text)))
  where
    object_class_of : Value-F Value Part → Option (List ℕ)
    object_class_of (layer.Object class version parts) = Some class
    object_class_of other = None

-- ---- a put

-- a state without classes
abbrev with_objects : List (NameAndCycle × Value) → State
with_objects objects = record { classes = []; objects = from_sorted objects; trees = from_sorted [] }

put_accepted : (m : State) (a b : ℕ) → m.classes ≡ [] → names_tree m (codes "s") ≡ false → nat_lt cycle_limit (next_cycle m (codes "s")) ≡ false → has_all_items m ≡ false
    → refusal_of m (Put (codes "s") (text_object (a ∷ b ∷ []))) None ≡ None
unfolding refusal_of
put_accepted m a b none tree cycle items =
    rw (none, tree, cycle, items, text_resolved (a ∷ b ∷ []), class_told (a ∷ b ∷ []), text_fits (a ∷ b ∷ []), text_length a b, text_depth (a ∷ b ∷ []), text_longest (a ∷ b ∷ [])) refl

-- ---- states

empty_is : empty_state ≡ with_objects []
empty_is = same_state empty_state (with_objects []) refl (λ item. get-empty item_order item ∙ sym (get-from_sorted item_order [] item tt)) (λ name. get-empty name_order name ∙ sym (get-from_sorted name_order [] name tt))

inserted : (objects : List (NameAndCycle × Value)) (item : NameAndCycle) (v : Value) → T (is_sorted item_order objects) → T (is_sorted item_order (put item_order item v objects))
    → insert (from_sorted {R = item_order} objects) item v ≡ from_sorted (put item_order item v objects)
inserted objects item v before after =
    same_entries_map _ _ (entries-insert items_total (from_sorted objects) item v ∙ ap (put item_order item v) (entries-from_sorted item_order objects before) ∙ sym (entries-from_sorted item_order (put item_order item v objects) after))

no_tree_there : (objects : List (NameAndCycle × Value)) (name : List ℕ) → names_tree (with_objects objects) name ≡ false
no_tree_there objects name = ap is_some (get-from_sorted name_order [] name tt)

few_items : (objects : List (NameAndCycle × Value)) → T (is_sorted item_order objects) → nat_le item_limit (length objects + 0) ≡ false → has_all_items (with_objects objects) ≡ false
few_items objects sorted few =
    let of_objects = len-entries (with_objects objects).objects ∙ ap length (entries-from_sorted item_order objects sorted) in
    let of_trees = len-entries (with_objects objects).trees ∙ ap length (entries-from_sorted {X = Tree} name_order [] tt) in
    (λ i. nat_le item_limit (of_objects i + of_trees i)) ∙ few

-- ---- steps

text_put : (objects : List (NameAndCycle × Value)) (n a b : ℕ) → T (is_sorted item_order objects) → T (is_sorted item_order (put item_order (codes "s", n) (text_object (a ∷ b ∷ [])) objects))
    → next_cycle (with_objects objects) (codes "s") ≡ n → nat_lt cycle_limit n ≡ false → nat_le item_limit (length objects + 0) ≡ false
    → step (with_objects objects) (Put (codes "s") (text_object (a ∷ b ∷ []))) None ≡ record { state = with_objects (put item_order (codes "s", n) (text_object (a ∷ b ∷ [])) objects); reply = object_put (codes "s") n }
unfolding step
text_put objects n a b before after is limit few =
    let m = with_objects objects in
    let c = Put (codes "s") (text_object (a ∷ b ∷ [])) in
    let accepted = put_accepted m a b refl (no_tree_there objects (codes "s")) (ap (nat_lt cycle_limit) is ∙ limit) (few_items objects before few) in
    let value : put_value m (text_object (a ∷ b ∷ [])) ≡ text_object (a ∷ b ∷ []) = ap (λ o. unwrap_or o (text_object (a ∷ b ∷ []))) (text_resolved (a ∷ b ∷ [])) in
    let stored : insert m.objects (codes "s", next_cycle m (codes "s")) (put_value m (text_object (a ∷ b ∷ []))) ≡ from_sorted (put item_order (codes "s", n) (text_object (a ∷ b ∷ [])) objects) =
    (λ i. insert m.objects (codes "s", is i) (value i)) ∙ inserted objects (codes "s", n) (text_object (a ∷ b ∷ [])) before after in
    ap (by_refusal m c) accepted ∙ (λ i. record { state = record { classes = []; objects = stored i; trees = from_sorted [] }; reply = object_put (codes "s") (is i) })

-- ---- the run

abbrev hi : Value
hi = text_object (104 ∷ 105 ∷ [])

abbrev ho : Value
ho = text_object (104 ∷ 111 ∷ [])

abbrev hu : Value
hu = text_object (104 ∷ 117 ∷ [])

abbrev one : List (NameAndCycle × Value)
one = ((codes "s", 1), hi) ∷ []

abbrev two : Value → List (NameAndCycle × Value)
two v = ((codes "s", 2), v) ∷ one

first_cycle : next_cycle (with_objects []) (codes "s") ≡ 1
first_cycle = rw (entries-from_sorted {X = Value} item_order [] tt) refl

second_cycle : next_cycle (with_objects one) (codes "s") ≡ 2
second_cycle = rw (entries-from_sorted item_order one tt) refl

without_second : (v : Value) (item : NameAndCycle) → get (remove (from_sorted {R = item_order} (two v)) (codes "s", 2)) item ≡ get (from_sorted {R = item_order} one) item
without_second v item =
    get-remove items_total (from_sorted (two v)) (codes "s", 2) item ∙ ap (cond (eq_by_cmp item_order item (codes "s", 2)) None) (get-from_sorted item_order (two v) item tt)
    ∙ by (eq_by_cmp item_order item (codes "s", 2)) refl ∙ sym (get-from_sorted item_order one item tt)
  where
    by : (b : Bool) → eq_by_cmp item_order item (codes "s", 2) ≡ b → cond b None (cond b (Some v) (find item_order item one)) ≡ find item_order item one
    by true is = let same = tells_apart items_tie item (codes "s", 2) is in sym (ap (λ k. find item_order k one) same)
    by false is = refl

delete_accepted : (v : Value) → refusal_of (with_objects (two v)) (Delete (codes "s") 2) None ≡ None
unfolding refusal_of
delete_accepted v = rw (entries-from_sorted item_order (two v) tt, get-from_sorted item_order (two v) (codes "s", 2) tt) refl

deleted : (v : Value) → step (with_objects (two v)) (Delete (codes "s") 2) None ≡ record { state = with_objects one; reply = item_deleted (codes "s") 2 }
unfolding step
deleted v =
    let m = with_objects (two v) in
    let objects = same_map items_total items_tie _ _ (without_second v) in
    let behind : state_behind m (Delete (codes "s") 2) ≡ with_objects one =
    ap (λ b. cond b (record m { trees = remove m.trees (codes "s") }) (record m { objects = remove m.objects (codes "s", 2) })) (no_tree_there (two v) (codes "s"))
    ∙ (λ i. record { classes = []; objects = objects i; trees = from_sorted [] }) in
    ap (by_refusal m (Delete (codes "s") 2)) (delete_accepted v) ∙ (λ i. record { state = behind i; reply = item_deleted (codes "s") 2 })

none_listed : entries (empty {X = Listed} {R = item_order}) ≡ []
none_listed = nil_from_length _ (sym (len-entries empty) ∙ len-empty item_order Listed)

abbrev second_listed : NameAndCycle × Listed
second_listed = ((codes "s", 2), object_listed (codes "TObjString"))

abbrev first_listed : NameAndCycle × Listed
first_listed = ((codes "s", 1), object_listed (codes "TObjString"))

two_listed : items_of (with_objects (two hu)) ≡ second_listed ∷ first_listed ∷ []
two_listed =
    rw (
      entries-from_sorted item_order (two hu) tt,
      entries-from_sorted {X = Tree} name_order [] tt,
      class_told (104 ∷ 117 ∷ []),
      class_told (104 ∷ 105 ∷ []),
      entries-insert items_total (from_entries {R = item_order} (first_listed ∷ [])) (codes "s", 2) (object_listed (codes "TObjString")),
      entries-insert items_total (empty {X = Listed} {R = item_order}) (codes "s", 1) (object_listed (codes "TObjString")),
      none_listed,
    ) refl

listed : step (with_objects (two hu)) Ls None ≡ record { state = with_objects (two hu); reply = items_listed (second_listed ∷ first_listed ∷ []) }
unfolding step refusal_of
listed = λ i. record { state = with_objects (two hu); reply = items_listed (two_listed i) }

goes_on : (m : State) (c : Command) (cs : List Command) (next : Stepped) → step m c None ≡ next → said_of m (c ∷ cs) [] ≡ text_of next.reply ++ said_of next.state cs []
unfolding said_of
goes_on m c cs next e = ap (λ n. text_of n.reply ++ said_of n.state cs []) e

five_said : said_of empty_state (Put (codes "s") hi ∷ Put (codes "s") ho ∷ Delete (codes "s") 2 ∷ Put (codes "s") hu ∷ Ls ∷ []) [] ≡
    codes "ok put s;1\nok put s;2\nok delete s;2\nok put s;2\nok ls 2\ns;2 TObjString\ns;1 TObjString\n"
unfolding said_of text_of name_text digits
five_said =
    let after_1 = Put (codes "s") ho ∷ Delete (codes "s") 2 ∷ Put (codes "s") hu ∷ Ls ∷ [] in
    let after_2 = Delete (codes "s") 2 ∷ Put (codes "s") hu ∷ Ls ∷ [] in
    let after_3 = Put (codes "s") hu ∷ Ls ∷ [] in
    ap (λ m. said_of m (Put (codes "s") hi ∷ after_1) []) empty_is
    ∙ goes_on (with_objects []) (Put (codes "s") hi) after_1 _ (text_put [] 1 104 105 tt tt first_cycle refl refl)
    ∙ ap (λ t. codes "ok put s;1\n" ++ t) (goes_on (with_objects one) (Put (codes "s") ho) after_2 _ (text_put one 2 104 111 tt tt second_cycle refl refl)
    ∙ ap (λ t. codes "ok put s;2\n" ++ t) (goes_on (with_objects (two ho)) (Delete (codes "s") 2) after_3 _ (deleted ho)
    ∙ ap (λ t. codes "ok delete s;2\n" ++ t) (goes_on (with_objects one) (Put (codes "s") hu) (Ls ∷ []) _ (text_put one 2 104 117 tt tt second_cycle refl refl)
    ∙ ap (λ t. codes "ok put s;2\n" ++ t) (goes_on (with_objects (two hu)) Ls [] _ listed))))
