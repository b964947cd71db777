-- What is listed of a state by the keys of its objects.
use Rattle.std.proofs.Common.{◌≡◌, ◌&&◌, ℕ, Bool, List, [], ◌∷◌, ◌++◌, T, codes, map, length, Result, Ok, Err, IfOk, refl, sym, ap, subst, ◌∙◌}
use Rattle.std.proofs.lemmas.List.{append-nil, length-map, nil_from_length}
use Rattle.std.specs.List.{flat_map}
use Rattle.std.specs.FinMap.{FinMap, empty, entries, entries-from_sorted, entries_sorted, from_entries, from_sorted, get-from_entries, get-from_sorted, is_sorted, len-empty, len-entries, same_map, Entries.{below_all}}
use Rattle.std.specs.Ordering.{is_lt}
use Rattle.rio_machine.specs.State.{NameAndCycle, State, Tree, item_order}
use Rattle.rio_num.specs.{Printed.{numbered}, Room.{Room}, Word.{name_order}}
use Rattle.rio_format.specs.{declared.value.Value.{Value}, declared.fault.ObjFault.{ObjFault}}
use Rattle.rio_key.specs.declared.head.KeyHead.{KeyHead}
use Rattle.rio_machine.proofs.OrderLaws.{items_tie, items_total}
use Rattle.rio_step.specs.{ItemKeys.{AreKeysOfState, told_by_key}, ReplyText.{item_lines, text_of}}
use Rattle.rio_step.specs.Step.{Listed, items_listed, items_of, listed_object, listed_tree, object_told}
use Rattle.rio_reply.specs.Told.{listed_line, listing_of, told_of}

-- no trees, no entries
pub entries-empty : entries (empty {X = Tree} {R = name_order}) ≡ []
entries-empty = nil_from_length _ (sym (len-entries (empty {X = Tree} {R = name_order})) ∙ len-empty name_order Tree)

-- what stands in the order of its keys is listed as it stands
entries-from_entries : (es : List (NameAndCycle × Listed)) → T (is_sorted item_order es) → entries (from_entries {R = item_order} es) ≡ es
entries-from_entries es sorted =
    ap entries (same_map items_total items_tie (from_entries {R = item_order} es) (from_sorted {R = item_order} es) (λ q. get-from_entries items_total es q ∙ sym (get-from_sorted item_order es q sorted)))
    ∙ entries-from_sorted item_order es sorted

-- an order of keys doesn't look at what stands by them
below-map : (x : NameAndCycle) (es : List (NameAndCycle × Value)) → below_all item_order x (map listed_object es) ≡ below_all item_order x es
below-map x [] = refl
below-map x (e ∷ es) = ap (λ (b : Bool). is_lt (item_order x e.0) && b) (below-map x es)

sorted-map : (es : List (NameAndCycle × Value)) → is_sorted item_order (map listed_object es) ≡ is_sorted item_order es
sorted-map [] = refl
sorted-map (e ∷ es) =
    ap (λ (b : Bool). b && is_sorted item_order (map listed_object es)) (below-map e.0 es)
    ∙ ap (λ (b : Bool). below_all item_order e.0 es && b) (sorted-map es)

pub items_by_keys : (heads : List KeyHead) (m : State) → AreKeysOfState heads m → items_of m ≡ map told_by_key heads
items_by_keys heads m keys =
    let objects = map listed_object (entries m.objects) in
    let none : map listed_tree (entries m.trees) ≡ [] = ap (λ (t : FinMap name_order Tree). map listed_tree (entries t)) keys.trees ∙ ap (map listed_tree) entries-empty in
    let all : objects ++ map listed_tree (entries m.trees) ≡ objects = ap (λ (l : List (NameAndCycle × Listed)). objects ++ l) none ∙ append-nil objects in
    ap (λ (l : List (NameAndCycle × Listed)). entries (from_entries {R = item_order} l)) all
    ∙ entries-from_entries objects (subst T (sym (sorted-map (entries m.objects))) (entries_sorted m.objects))
    ∙ sym keys.objects

lines_by_keys : (heads : List KeyHead) → item_lines (map told_by_key heads) ≡ flat_map listed_line heads
lines_by_keys [] = refl
lines_by_keys (h ∷ heads) = ap (λ (l : List ℕ). listed_line h ++ l) (lines_by_keys heads)

-- what is said of all objects
pub listing_is : (heads : List KeyHead) (m : State) → AreKeysOfState heads m → listing_of heads ≡ text_of (items_listed (items_of m))
unfolding text_of listing_of
listing_is heads m keys =
    ap (λ (l : List ℕ). codes "ok ls" ++ numbered (length heads) ++ codes "\n" ++ l) (sym (lines_by_keys heads))
    ∙ ap (λ (n : ℕ). codes "ok ls" ++ numbered n ++ codes "\n" ++ item_lines (map told_by_key heads)) (sym (length-map heads told_by_key))
    ∙ ap (λ (l : List (NameAndCycle × Listed)). codes "ok ls" ++ numbered (length l) ++ codes "\n" ++ item_lines l) (sym (items_by_keys heads m keys))

-- ---- what is told of a record

pub told_is : (head : KeyHead) (read : Result Value ObjFault) (v : Value) → read ≡ Ok v → told_of head read ≡ text_of (object_told head.name head.cycle v)
unfolding text_of
told_is head read v is = ap (told_of head) is

-- ---- results

pub listing_told : {E : Type 0} (heads : List KeyHead) (r : Result Room E) → IfOk r (λ text. text.bytes ≡ listing_of heads)
    → IfOk r (λ text. (m : State) → AreKeysOfState heads m → text.bytes ≡ text_of (items_listed (items_of m)))
listing_told heads (Ok text) is = λ m keys. is ∙ listing_is heads m keys
listing_told heads (Err e) is = tt

pub record_told : {E : Type 0} (head : KeyHead) (read : Result Value ObjFault) (r : Result Room E) → IfOk r (λ text. text.bytes ≡ told_of head read)
    → IfOk r (λ text. (v : Value) → read ≡ Ok v → text.bytes ≡ text_of (object_told head.name head.cycle v))
record_told head read (Ok text) is = λ v e. is ∙ told_is head read v e
record_told head read (Err e) is = tt
