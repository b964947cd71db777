-- What is told of a tree's header that counts.
use Rattle.std.proofs.Common.{◌≡◌, ◌∙◌, ℕ, List, [], ◌∷◌, ◌++◌, Bool, true, false, ◌==◌, Option, Some, None, refl, sym, ap, subst, slice_get}
use Rattle.std.specs.{Prelude.{is_some}, List.{Contains, list_any}}
use Rattle.rio_key.specs.declared.head.KeyHead.{KeyHead}
use Rattle.rio_head.specs.declared.reason.Reason.TheVariants.{BadTree}
use Rattle.rio_tree.specs.declared.head.TreeHead.{TreeHead}
use Rattle.rio_state.specs.{KeyedRecords.{KeyedRecord, is_top_key, is_tree_record, top_keys}, Reasons.{Beside, ReasonAt, is_bad_tree, reason_at, reason_if, beside_trees}, Trees.{all_places_named, are_named_once, basket_places, tree_of}}
use Rattle.rio_state.proofs.{Members.{contains_in, filter_in, in_contained}, NoReason.{none_if}}
use Rattle.rio_recover.specs.{Baskets.{HasPlaces, NotesPlaces}, Checks.{AreDataBytes, GivesHeader, HasNamed, IsBesideOf, IsNext, header_records, whole_header}, declared.classes.ListedClasses.{ListedClasses}, declared.named.NamedPlaces.{NamedPlaces}}
use Rattle.rio_recover.proofs.{Checking.{only_reason}, TreeJudged.{bad_by, header_is, named_more, no_tree, tree_if_once}}

-- the record is one of the file's
pub among_records : (file : List ℕ) (classes : ListedClasses) (heads : List KeyHead) (beside : Beside) (r : KeyedRecord) → IsBesideOf file classes heads beside → Contains beside.tops r → Contains beside.records r
among_records file classes heads beside r is top =
    let i = filter_in (λ s. is_top_key s.head) r beside.records (in_contained r (top_keys beside.records) (subst (λ (rs : List KeyedRecord). Contains rs r) is.tops_are top)) in
    contains_in r beside.records i.0

module _ (beside : Beside) (before : List KeyedRecord) (r : KeyedRecord) (head : KeyHead) (same : r.head ≡ head) (counts : is_tree_record beside.tops r ≡ true) where
  bad_first : is_bad_tree beside r ≡ true → slice_get (reason_if (is_bad_tree beside r) r.head.seek BadTree) 0 ≡ Some (reason_at head.seek BadTree)
  bad_first e = only_reason (is_bad_tree beside r) r.head.seek BadTree e ∙ ap (λ (h : KeyHead). some (reason_at h.seek BadTree)) same
    where
      some : ReasonAt → Option ReasonAt
      some x = Some x

  -- a header without its rows
  pub tree_refused : (o : Option TreeHead) → o ≡ whole_header beside r → o ≡ None → slice_get (reason_if (is_bad_tree beside r) r.head.seek BadTree) 0 ≡ Some (reason_at head.seek BadTree)
  tree_refused o told none = bad_first (bad_by beside r true false counts (no_tree beside r (sym told ∙ none)))

  module _ (tree : TreeHead) (old new : NamedPlaces) (once : Bool) (whole : Some tree ≡ whole_header beside r) (next : IsNext beside before r) (named : HasNamed beside before old) (notes : NotesPlaces (basket_places tree) old new once) where
    once_is : is_some (tree_of (beside_trees beside) r) ≡ once
    once_is =
        tree_if_once beside r tree (sym whole)
        ∙ ap (λ (rs : List KeyedRecord). are_named_once (all_places_named beside.classes rs) (basket_places tree)) next.earlier
        ∙ sym (notes (all_places_named beside.classes (header_records beside.tops before)) named).once_is

    pub tree_noted : once ≡ true → AreDataBytes r → (reason_if (is_bad_tree beside r) r.head.seek BadTree ≡ []) × GivesHeader beside before r new tree
    tree_noted e plain = (
      none_if (is_bad_tree beside r) r.head.seek BadTree (bad_by beside r true true counts (once_is ∙ e)),
      record {
        header = header_is beside r tree (sym whole);
        noted = λ p. ap (list_any (λ q. p == q)) (named_more beside before r tree counts (header_is beside r tree (sym whole))) ∙ (notes (all_places_named beside.classes (header_records beside.tops before)) named).noted e p;
        plain = plain;
      },
    )

    pub tree_double : once ≡ false → slice_get (reason_if (is_bad_tree beside r) r.head.seek BadTree) 0 ≡ Some (reason_at head.seek BadTree)
    tree_double e = bad_first (bad_by beside r true false counts (once_is ∙ e))
