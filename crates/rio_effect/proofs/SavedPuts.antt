-- A put doesn't look at pending rows.
use Rattle.std.proofs.{Common.{◌≡◌, ℕ, ◌∙◌, List, [], ◌∷◌, length, map, Bool, true, ◌&&◌, Option, Some, None, refl, sym, ap, subst}, lemmas.List.{length-map}}
use Rattle.std.specs.Prelude.{T, is_some}
use Rattle.std.specs.FinMap.{entries, entries-from_sorted, entries_sorted, from_entries, from_sorted, get, get-from_entries, get-from_sorted, is_sorted, len, len-entries, same_map}
use Rattle.std.specs.{Option.{option_map}, Ordering.{is_lt}}
use Rattle.rio_num.specs.Word.{name_order}
use Rattle.rio_format.specs.declared.value.Value.{Value}
use Rattle.rio_machine.proofs.OrderLaws.{names_tie, names_total}
use Rattle.rio_machine.specs.{State.{State, Tree, names_tree}, declared.command.Command.TheVariants.{Put}}
use Rattle.rio_step.proofs.ClosedLaws.{Named, saved_keeps_the_rest}
use Rattle.rio_step.specs.{Refusing.{FullMark, refusal_of}, Runs.{saved_of, saved_tree}}
use Rattle.rio_effect.specs.Laws.{PutsIgnorePending}

abbrev changed : List Named → List Named
changed es = map (λ e. (e.0, saved_tree e.1)) es

-- ---- as many trees

abbrev all_behind : List ℕ → List Named → Bool
all_behind name [] = true
all_behind name (e ∷ es) = is_lt (name_order name e.0) && all_behind name es

behind_same : (name : List ℕ) (es : List Named) → all_behind name (changed es) ≡ all_behind name es
behind_same name [] = refl
behind_same name (e ∷ es) = ap (λ b. is_lt (name_order name e.0) && b) (behind_same name es)

sorted_same : (es : List Named) → is_sorted name_order (changed es) ≡ is_sorted name_order es
sorted_same [] = refl
sorted_same (e ∷ es) =
    let here = behind_same e.0 es in
    let rest = sorted_same es in
    λ i. here i && rest i

pub as_many : (m : State) → len (saved_of m).trees ≡ len m.trees
unfolding saved_of
as_many m =
    let es = changed (entries m.trees) in
    let sorted : T (is_sorted name_order es) = subst T (sym (sorted_same (entries m.trees))) (entries_sorted m.trees) in
    let same = same_map names_total names_tie (from_entries {R = name_order} es) (from_sorted {R = name_order} es)
    (λ name. get-from_entries names_total es name ∙ sym (get-from_sorted name_order es name sorted)) in
    len-entries (from_entries {R = name_order} es)
    ∙ ap (λ xs. length (entries xs)) same
    ∙ ap length (entries-from_sorted name_order es sorted)
    ∙ length-map (entries m.trees) (λ (e : Named). (e.0, saved_tree e.1))
    ∙ sym (len-entries m.trees)

-- ---- the put

same_trees : (o : Option Tree) → is_some (option_map saved_tree o) ≡ is_some o
same_trees None = refl
same_trees (Some t) = refl

pub trees_named : (m : State) (name : List ℕ) → names_tree (saved_of m) name ≡ names_tree m name
trees_named m name = ap is_some (saved_keeps_the_rest m name) ∙ same_trees (get m.trees name)

same_classes : (m : State) → (saved_of m).classes ≡ m.classes
unfolding saved_of
same_classes m = refl

pub same_objects : (m : State) → (saved_of m).objects ≡ m.objects
unfolding saved_of
same_objects m = refl

refused_alike : (m : State) (name : List ℕ) (v : Value) (mark : Option FullMark) → refusal_of (saved_of m) (Put name v) mark ≡ refusal_of m (Put name v) mark
unfolding refusal_of
refused_alike m name v mark = rw (trees_named m name, as_many m, same_classes m, same_objects m) refl

pub puts_ignore_pending : PutsIgnorePending
unfolding saved_of
puts_ignore_pending m name v = record {
  refused = refused_alike m name v;
  trees = trees_named m name;
  cycle = refl;
  value = refl;
  behind = refl;
}
