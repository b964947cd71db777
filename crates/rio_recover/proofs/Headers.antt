-- The header in a record, by its key and its bytes.
use Rattle.std.proofs.Common.{◌≡◌, ◌∙◌, ℕ, List, drop, length, Bool, true, false, not, ◌&&◌, Option, Some, None, Result, Ok, Err, refl, sym, ap, arith}
use Rattle.std.proofs.lemmas.{Bool.{and_parts, ltb-false, not-true, or_parts}, List.{length-map}}
use Rattle.std.specs.{Prelude.{IfSome, nat_lt, option_and_then}, List.{list_any}, Result.{result_ok}}
use Rattle.rio_num.specs.{Reading.{some_if}, Room.{is_padding}}
use Rattle.rio_format.specs.{declared.class.ClassDef.{ClassDef}, declared.value.Value.{Value}, Frames.{Step}, ReaderState.{ReaderState}, declared.fault.ObjFault.{ObjFault}, Objects.{first_at}}
use Rattle.rio_key.specs.declared.head.KeyHead.{KeyHead}
use Rattle.rio_leaf.specs.Stated.{are_stated_branches}
use Rattle.rio_machine.specs.Limits.{branch_limit, has_many_branches, has_many_leaves}
use Rattle.rio_model.specs.Declaring.{shape_lacks_class}
use Rattle.rio_tree.specs.{Header.{tree_head_in}, WrittenLaws.{stated_defs}, declared.fault.TreeFault.{TreeFault}, declared.head.Branch.{Branch}, declared.head.TreeHead.{TreeHead}}
use Rattle.rio_state.specs.{Contents.{FileClasses}, KeyedRecords.{KeyedRecord, record_data}, Trees.{can_be_branches, header_by, header_in, is_written_header}}
use Rattle.rio_recover.specs.Trees.{IsReadHead, padded_in, written_head}

-- the header of what is read, with zero bytes behind it
pub header_padded : (classes : List ClassDef) (name : List ℕ) (s : Step Value) → option_and_then (written_head classes name) (padded_in s) ≡ header_by classes name s
header_padded classes name (Err e) = refl
header_padded classes name (Ok x) = by (is_padding x.1.at.rest)
  where
    none : (o : Option TreeHead) → None ≡ option_and_then (λ head. some_if false head) o
    none None = refl
    none (Some head) = refl

    by : (b : Bool) → option_and_then (written_head classes name) (some_if b x.0) ≡ option_and_then (λ head. some_if (b && is_written_header classes name x.0 head) head) (result_ok (tree_head_in x.0))
    by true = refl
    by false = none (result_ok (tree_head_in x.0))

pub header_some : (classes : List ClassDef) (name : List ℕ) (s : Step Value) (v : Value) → Some v ≡ padded_in s → written_head classes name v ≡ header_by classes name s
header_some classes name s v is = ap (option_and_then (written_head classes name)) is ∙ header_padded classes name s

pub header_none : (classes : List ClassDef) (name : List ℕ) (s : Step Value) → None ≡ padded_in s → None ≡ header_by classes name s
header_none classes name s is = ap (option_and_then (written_head classes name)) is ∙ header_padded classes name s

-- ---- a header that stands in a record

read_from : (head : TreeHead) (t : Result TreeHead TreeFault) (b : TreeHead → Bool) → option_and_then (λ h. some_if (b h) h) (result_ok t) ≡ Some head → (t ≡ Ok head) × (b head ≡ true)
read_from head (Err e) b some = absurd cc
read_from head (Ok h) b some = by (b h) refl some
  where
    by : (c : Bool) → b h ≡ c → some_if c h ≡ Some head → ◌≡◌ {A = Result TreeHead TreeFault} (Ok h) (Ok head) × (b head ≡ true)
    by true is e = let same : h ≡ head = cc in (ap (λ (x : TreeHead). let r : Result TreeHead TreeFault = Ok x in r) same, ap b (sym same) ∙ is)
    by false is e = absurd cc

can_be : (classes : List ClassDef) (name : List ℕ) (v : Value) (head : TreeHead) → is_written_header classes name v head ≡ true → can_be_branches classes (stated_defs head.branches) ≡ true
unfolding is_written_header
can_be classes name v head is = (and_parts _ _ is).0

read_by : (classes : List ClassDef) (name : List ℕ) (head : TreeHead) (s : Step Value) → header_by classes name s ≡ Some head → IsReadHead head
read_by classes name head (Err e) some = absurd cc
read_by classes name head (Ok x) some =
    let from = read_from head (tree_head_in x.0) (λ h. is_padding x.1.at.rest && is_written_header classes name x.0 h) some in
    let defs = stated_defs head.branches in
    let can = can_be classes name x.0 head (and_parts (is_padding x.1.at.rest) (is_written_header classes name x.0 head) from.1).1 in
    let two = and_parts (are_stated_branches defs && not (has_many_branches defs)) (not (list_any (λ b. shape_lacks_class classes b.shape) defs)) can in
    let stated = and_parts (are_stated_branches defs) (not (has_many_branches defs)) two.0 in
    let few = or_parts (nat_lt branch_limit (length defs)) (list_any (λ b. has_many_leaves b.shape) defs) (not-true (has_many_branches defs) stated.1) in
    record {
      value = x.0;
      reads = from.0;
      few = omega (arith, ltb-false branch_limit (length defs) few.0, length-map head.branches (λ (b : Branch). b.def));
      stated = stated.0;
    }

pub read_header : (classes : FileClasses) (r : KeyedRecord) (head : TreeHead) → Some head ≡ header_in classes r → IsReadHead head
unfolding header_in
read_header classes r head is = read_by classes.declared r.head.name head (first_at classes.described r.head.class r.head.keylen (record_data r)) (sym is)

-- whatever is read
pub read_found : (classes : List ClassDef) (name : List ℕ) (s : Step Value) (found : Option TreeHead) → found ≡ header_by classes name s → IfSome found IsReadHead
read_found classes name s None is = tt
read_found classes name s (Some head) is = read_by classes name head s (sym is)

pub header_same : (classes : FileClasses) (r : KeyedRecord) (head : KeyHead) (bytes : List ℕ) → r.head ≡ head → bytes ≡ r.bytes
    → header_by classes.declared head.name (first_at classes.described head.class head.keylen (drop head.keylen bytes)) ≡ header_in classes r
unfolding header_in
header_same classes r head bytes e b =
    λ i. header_by classes.declared (sym e i).name (first_at classes.described (sym e i).class (sym e i).keylen (drop (sym e i).keylen (b i)))
