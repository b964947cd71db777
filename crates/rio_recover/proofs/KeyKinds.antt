-- What the key of an object or a tree is, and which reasons against its value can be.
use Rattle.std.proofs.Common.{◌≡◌, ◌∙◌, ℕ, List, [], ◌∷◌, ◌++◌, append-nil, Bool, true, false, cond, not, ◌&&◌, ◌||◌, Option, Some, None, refl, sym, ap, subst}
use Rattle.std.proofs.Math.Bool.{and-false}
use Rattle.std.specs.{Option.{is_some}}
use Rattle.rio_key.specs.declared.head.KeyHead.{KeyHead}
use Rattle.rio_head.specs.declared.reason.Reason.TheVariants.{BadObject, BadTree}
use Rattle.rio_state.specs.{Contents.{object_in}, KeyedRecords.{KeyedRecord, is_outdated, is_tree_key, is_tree_record}, Trees.{tree_of}}
use Rattle.rio_state.specs.Reasons.{Beside, ReasonAt, is_bad_object, is_bad_tree, reason_if, beside_trees}
use Rattle.rio_state.proofs.NoReason.{none_if}
use Rattle.rio_recover.specs.{Checks.{is_header_key, is_item_key, is_item_kind, kind_of, value_reasons}, Keys.{keyed}}
use Rattle.rio_recover.specs.declared.judge.KeyKind.{KeyKind, TheVariants.{Object, Tree, Outdated}}

-- ---- the kind of a key

kind_by : (tree out : Bool) → is_item_kind (cond (not tree) Object (cond out Outdated Tree)) ≡ (not tree || not out)
kind_by true true = refl
kind_by true false = refl
kind_by false out = refl

-- keys of objects and of the greatest cycle of a tree are those of items
pub item_kind : (tops : List KeyedRecord) (head : KeyHead) → is_item_kind (kind_of tops head) ≡ is_item_key tops head
item_kind tops head = kind_by (is_tree_key head) (is_outdated tops (keyed head))

pub record IsOfKind (tree out : Bool) (kind : KeyKind) : Type 0 where
  pub object : kind ≡ Object → tree ≡ false
  pub header : kind ≡ Tree → (tree ≡ true) × (out ≡ false)
  pub old : kind ≡ Outdated → (tree ≡ true) × (out ≡ true)

of_kind : (tree out : Bool) → IsOfKind tree out (cond (not tree) Object (cond out Outdated Tree))
of_kind true true = record { object = λ e. absurd cc; header = λ e. absurd cc; old = λ e. (refl, refl) }
of_kind true false = record { object = λ e. absurd cc; header = λ e. (refl, refl); old = λ e. absurd cc }
of_kind false out = record { object = λ e. refl; header = λ e. absurd cc; old = λ e. absurd cc }

pub kind_is : (tops : List KeyedRecord) (head : KeyHead) → IsOfKind (is_tree_key head) (is_outdated tops (keyed head)) (kind_of tops head)
kind_is tops head = of_kind (is_tree_key head) (is_outdated tops (keyed head))

-- ---- its value

module _ (beside : Beside) (r : KeyedRecord) (head : KeyHead) (same : r.head ≡ head) where
  record_is : is_tree_record beside.tops r ≡ is_header_key beside.tops head
  record_is = ap (λ (h : KeyHead). is_header_key beside.tops h) same

  tree_is : is_tree_key r.head ≡ is_tree_key head
  tree_is = ap is_tree_key same

  no_bad_tree : is_header_key beside.tops head ≡ false → is_bad_tree beside r ≡ false
  no_bad_tree e = ap (λ (b : Bool). b && not (is_some (tree_of (beside_trees beside) r))) (record_is ∙ e)

  no_bad_object : is_tree_key head ≡ true → is_bad_object beside r ≡ false
  no_bad_object e = ap (λ (b : Bool). not b && not (is_some (object_in beside.classes.declared r))) (tree_is ∙ e)

  -- an object
  pub object_alone : kind_of beside.tops head ≡ Object → value_reasons beside r ≡ reason_if (is_bad_object beside r) r.head.seek BadObject
  object_alone kind =
      let tree = (kind_is beside.tops head).object kind in
      ap (λ (xs : List ReasonAt). reason_if (is_bad_object beside r) r.head.seek BadObject ++ xs)
      (none_if (is_bad_tree beside r) r.head.seek BadTree (no_bad_tree (ap (λ (b : Bool). b && not (is_outdated beside.tops (keyed head))) tree)))
      ∙ append-nil (reason_if (is_bad_object beside r) r.head.seek BadObject)

  pub object_record : kind_of beside.tops head ≡ Object → (is_tree_key head ≡ false) × (is_tree_record beside.tops r ≡ false)
  object_record kind = let tree = (kind_is beside.tops head).object kind in (tree, record_is ∙ ap (λ (b : Bool). b && not (is_outdated beside.tops (keyed head))) tree)

  -- a header that counts
  pub tree_alone : kind_of beside.tops head ≡ Tree → value_reasons beside r ≡ reason_if (is_bad_tree beside r) r.head.seek BadTree
  tree_alone kind =
      ap (λ (xs : List ReasonAt). xs ++ reason_if (is_bad_tree beside r) r.head.seek BadTree)
      (none_if (is_bad_object beside r) r.head.seek BadObject (no_bad_object ((kind_is beside.tops head).header kind).0))

  pub tree_record : kind_of beside.tops head ≡ Tree → is_tree_record beside.tops r ≡ true
  tree_record kind = let is = (kind_is beside.tops head).header kind in record_is ∙ (λ i. is.0 i && not (is.1 i))

  -- another one
  pub old_alone : kind_of beside.tops head ≡ Outdated → value_reasons beside r ≡ []
  old_alone kind =
      let is = (kind_is beside.tops head).old kind in
      let none : is_header_key beside.tops head ≡ false = (λ i. is.0 i && not (is.1 i)) in
      (λ i. reason_if (no_bad_object is.0 i) r.head.seek BadObject ++ reason_if (no_bad_tree none i) r.head.seek BadTree)

  pub old_record : kind_of beside.tops head ≡ Outdated → is_tree_record beside.tops r ≡ false
  old_record kind = let is = (kind_is beside.tops head).old kind in record_is ∙ (λ i. is.0 i && not (is.1 i))
