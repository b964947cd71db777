-- What a header says whose baskets and rows are looked for.
use Rattle.std.proofs.Common.{◌≡◌, ◌∙◌, ℕ, List, Bool, true, false, Option, Some, None, refl, sym, ap, subst}
use Rattle.std.proofs.lemmas.List.Elements.{All-contains}
use Rattle.std.specs.{Prelude.{is_some, option_and_then}, List.{Contains}}
use Rattle.rio_num.specs.Reading.{some_if}
use Rattle.rio_format.specs.declared.class.ClassDef.{ClassDef}
use Rattle.rio_key.specs.declared.head.KeyHead.{KeyHead}
use Rattle.rio_tree.specs.declared.head.TreeHead.{TreeHead}
use Rattle.rio_state.specs.{Contents.{FileClasses}, KeyedRecords.{KeyedRecord, record_at}, Reasons.{Beside}, Trees.{header_in, saved_rows}}
use Rattle.rio_recover.specs.{Baskets.{AreKeyedIn, has_baskets}, Checks.{IsBesideOf, whole_header}, Classes.{classes_in}, Keys.{StandsIn}, declared.classes.ListedClasses.{ListedClasses}}
use Rattle.rio_recover.proofs.BasketRecords.{no_rows, records_keyed}

module _ (file : List ℕ) (classes : ListedClasses) (heads : List KeyHead) (beside : Beside) (is : IsBesideOf file classes heads beside) (r : KeyedRecord) (among : Contains beside.records r) where
  pub stands : StandsIn file r
  stands = All-contains (StandsIn file) beside.records r is.stand among

  pub keyed : AreKeyedIn heads file (record_at beside.records)
  keyed = records_keyed file heads beside.records is.stand is.heads_are

  header_of : (o : Option TreeHead) → o ≡ header_in (classes_in classes) r → header_in beside.classes r ≡ o
  header_of o told = ap (λ (c : FileClasses). header_in c r) is.classes_are ∙ sym told

  abbrev with_rows : TreeHead → Option TreeHead
  with_rows head = some_if (is_some (saved_rows beside.classes.declared (record_at beside.records) head)) head

  pub no_header : (o : Option TreeHead) → o ≡ header_in (classes_in classes) r → o ≡ None → None ≡ whole_header beside r
  no_header o told none = ap (option_and_then with_rows) (sym (header_of o told ∙ none))

  whole_is : (o : Option TreeHead) (tree : TreeHead) → o ≡ header_in (classes_in classes) r → o ≡ Some tree → whole_header beside r ≡ with_rows tree
  whole_is o tree told some = ap (option_and_then with_rows) (header_of o told ∙ some)

  pub no_baskets : (o : Option TreeHead) (tree : TreeHead) → o ≡ header_in (classes_in classes) r → o ≡ Some tree → has_baskets heads tree ≡ false → None ≡ whole_header beside r
  no_baskets o tree told some lacks =
      sym (whole_is o tree told some ∙ ap (λ (rows : Option _). some_if (is_some rows) tree) (no_rows file heads (record_at beside.records) keyed beside.classes.declared tree lacks))

  pub rows_found : (o : Option TreeHead) (tree : TreeHead) (b : Bool) (seen : List ClassDef) → o ≡ header_in (classes_in classes) r → o ≡ Some tree → seen ≡ classes.registry
      → b ≡ is_some (saved_rows seen (record_at beside.records) tree) → some_if b tree ≡ whole_header beside r
  rows_found o tree b seen told some same rows =
      let declared : seen ≡ beside.classes.declared = same ∙ sym (ap (λ (c : FileClasses). c.declared) is.classes_are) in
      ap (λ (x : Bool). some_if x tree) (rows ∙ ap (λ (cs : List ClassDef). is_some (saved_rows cs (record_at beside.records) tree)) declared) ∙ sym (whole_is o tree told some)
