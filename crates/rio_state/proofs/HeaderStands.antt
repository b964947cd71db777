-- A header, as it stands in a record of a state's file, is no shorter than the one that is written for what it says.
use Rattle.std.proofs.Common.{◌≡◌, ◌∙◌, ℕ, zero, suc, ◌+◌, ◌≤◌, Bool, true, false, codes, ◌&&◌, List, [], ◌++◌, length, Option, Some, None, Ok, Err, Result, refl, ap, subst, arith}
use Rattle.std.proofs.{lemmas.List.{length-append}, lemmas.Slice.Eq.{bytes_eq-Decides}}
use Rattle.std.specs.{Prelude.{option_and_then}, Result.{result_ok, result_unwrap_or}}
use Rattle.rio_num.proofs.Intro.{IsSo}
use Rattle.rio_num.proofs.Apart.{both_of, here_of}
use Rattle.rio_num.specs.{At.{AreBytes}, Layout.{broken}, Reading.{some_if}, Room.{is_padding}}
use Rattle.rio_format.specs.{declared.class.ClassDef.{ClassDef}, CodeLaws.{coded_decides}, declared.value.Value.{Value}, declared.fault.ObjFault.{ObjFault, TheVariants.{TooDeep}}}
use Rattle.rio_format.specs.contracts.value.Value as values
use Rattle.rio_format.specs.{Frames.{Step}, ReaderState.{ReaderState, WordsMet, no_words}, declared.words.Header.{Header}}
use Rattle.rio_format.specs.{Bodies.{body_of}, Growth.{is_all_read}, Objects.{SpellsObject, body, depth_limit, first_at, formed, headed, object_of}, TreeClasses.{written_classes}, Written.{Writing}, Slots.{kinded}}
use Rattle.rio_format.specs.declared.kind.Kind.TheVariants.{Inline}
use Rattle.rio_format.proofs.ObjectLaws.{read_is_spelled}
use Rattle.rio_model.specs.StateClasses.{StateClasses}
use Rattle.rio_tree.specs.{Header.{tree_head_in}, HeaderLength.{basket_count, header_length}, WrittenLaws.{stated_defs}, WrittenTree.{tree_value_of}, declared.head.TreeHead.{TreeHead}, declared.fault.TreeFault.{TreeFault}}
use Rattle.rio_tree.proofs.HeaderLengths.{header_length_is_known}
use Rattle.rio_state.specs.{Contents.{FileClasses, HasStateClasses, file_classes, state_classes}, KeyedRecords.{KeyedRecord, is_tree_key, record_data}}
use Rattle.rio_state.specs.Trees.{can_be_branches, header_by, header_in, is_same_value, is_written_header}
use Rattle.rio_state.proofs.{AheadForms.{shortest_form, unread_never}, KnownHeader.{all_read, header_known, same_writing}, PicksWritten.{state_picks}}

-- ---- what a header's record holds

-- its value is the header that is written for what it says
record IsHeaderRead (described : List ClassDef) (r : KeyedRecord) (head : TreeHead) : Type 0 where
  x : Value × ReaderState
  read : first_at described r.head.class r.head.keylen (record_data r) ≡ Ok x
  value : x.0 ≡ tree_value_of r.head.name head

header_read : (classes : FileClasses) (r : KeyedRecord) (head : TreeHead) → header_in classes r ≡ Some head → IsHeaderRead classes.described r head
unfolding header_in is_written_header
header_read classes r head e = by (first_at classes.described r.head.class r.head.keylen (record_data r)) refl e
  where
    of_test : (x : Value × ReaderState) (h : TreeHead) (padded branches same : Bool) → first_at classes.described r.head.class r.head.keylen (record_data r) ≡ Ok x → is_same_value x.0 (tree_value_of r.head.name h) ≡ same
        → some_if (padded && (branches && same)) h ≡ Some head → IsHeaderRead classes.described r head
    of_test x h true true true is told some =
        let one : h ≡ head = cc in
        record { x = x; read = is; value = (coded_decides values.the_row.coded x.0 (tree_value_of r.head.name h)).0 told ∙ ap (tree_value_of r.head.name) one }
    of_test x h false branches same is told some = absurd cc
    of_test x h true false same is told some = absurd cc
    of_test x h true true false is told some = absurd cc

    of_head : (x : Value × ReaderState) (o : Result TreeHead TreeFault) → first_at classes.described r.head.class r.head.keylen (record_data r) ≡ Ok x
        → option_and_then (λ h. some_if (is_padding x.1.at.rest && (can_be_branches classes.declared (stated_defs h.branches) && is_same_value x.0 (tree_value_of r.head.name h))) h) (result_ok o) ≡ Some head → IsHeaderRead classes.described r head
    of_head x (Err e) is some = absurd cc
    of_head x (Ok h) is some = of_test x h (is_padding x.1.at.rest) (can_be_branches classes.declared (stated_defs h.branches)) (is_same_value x.0 (tree_value_of r.head.name h)) is refl some

    by : (s : Step Value) → first_at classes.described r.head.class r.head.keylen (record_data r) ≡ s → header_by classes.declared r.head.name s ≡ Some head → IsHeaderRead classes.described r head
    by (Err e) is some = absurd cc
    by (Ok x) is some = of_head x (tree_head_in x.0) is some

-- ---- without a class list

-- no header is read: the class isn't described
none_at : (levels end p : ℕ) (t : WordsMet) (y : Value) (b : List ℕ) (t' : WordsMet) → is_all_read y ≡ true → IsSo (object_of levels [] (codes "TTree")) end p t y b t' → ⊥
unfolding object_of formed headed body
none_at zero end p t y b t' read c = let d : IsSo {F = ObjFault} {A = Value} (broken (TooDeep p)) end p t y b t' = here_of c in absurd d.so
none_at (suc levels) end p t y b t' read c = both_of c (λ h f rest u parts first next. by h h.sum (p + length f) u rest next)
  where
    by : (h : Header) (sum : Option ℕ) (q : ℕ) (u : WordsMet) (rest : List ℕ) → IsSo (body (object_of levels []) (codes "TTree") h (body_of [] (codes "TTree") h.version sum)) end q u y rest t' → ⊥
    by h None q u rest next = unread_never (codes "TTree") h end q u y rest t' read next
    by h (Some sum) q u rest next = unread_never (codes "TTree") h end q u y rest t' read next

none_read : (start : ℕ) (v : Value) (bytes : List ℕ) → is_all_read v ≡ true → SpellsObject [] start (codes "TTree") v bytes → ⊥
unfolding SpellsObject
none_read start v bytes read c = none_at depth_limit (start + length bytes) start no_words v bytes c.0 read (record { so = c.1 })

-- ---- with one

-- what is read of a header, and the bytes that spell it
module _ (classes : FileClasses) (r : KeyedRecord) (bytes : AreBytes (record_data r)) (head : TreeHead) (is : header_in classes r ≡ Some head) where
  value : Value
  value = tree_value_of r.head.name head

  whole : is_all_read value ≡ true
  unfolding value
  whole = all_read (tree_value_of r.head.name head) (header_known r.head.name head)

  record IsSpelled : Type 0 where
    front : List ℕ
    rest : List ℕ
    parts : record_data r ≡ front ++ rest
    spelled : SpellsObject classes.described r.head.keylen r.head.class value front

  spelled : IsSpelled
  unfolding value
  spelled =
      let h = header_read classes r head is in
      let s = read_is_spelled classes.described r.head.class r.head.keylen (record_data r) h.x.0 h.x.1 bytes h.read in
      record {
        front = s.0;
        rest = h.x.1.at.rest;
        parts = s.1;
        spelled = subst (λ (v : Value). SpellsObject classes.described r.head.keylen r.head.class v s.0) h.value s.2;
      }

  without_list : classes.described ≡ [] → is_tree_key r.head ≡ true → ⊥
  without_list none tree =
      let s = spelled in
      let class : r.head.class ≡ codes "TTree" = (bytes_eq-Decides r.head.class (codes "TTree")).0 tree in
      none_read r.head.keylen value s.front whole (subst (λ (x : List ClassDef × List ℕ). SpellsObject x.0 r.head.keylen x.1 value s.front) (λ i. (none i, class i)) s.spelled)

  with_list : (declared : List ClassDef) → StateClasses declared → classes.described ≡ written_classes declared → header_length r.head.name (stated_defs head.branches) (basket_count head) ≤ length (record_data r)
  unfolding value
  with_list declared state described =
      let s = spelled in
      let own = subst (λ (cs : List ClassDef). SpellsObject cs r.head.keylen r.head.class value s.front) described s.spelled in
      let short = shortest_form (written_classes declared) (state_picks declared state) r.head.class r.head.keylen value s.front whole own in
      let same = ap (λ (w : Writing). length (w.bytes (kinded (Inline w.class)) r.head.keylen no_words).0) (same_writing declared (tree_value_of r.head.name head) (header_known r.head.name head)) in
      let law = header_length_is_known r.head.keylen r.head.name head in
      omega (arith, short, same, law, ap length s.parts, length-append s.front s.rest)

-- ---- of a file

-- the header that stands in a record is no shorter than the one that is written for what it says
abbrev pub StandsAsLong : FileClasses → KeyedRecord → Type 0
StandsAsLong classes r = (head : TreeHead) → header_in classes r ≡ Some head → header_length r.head.name (stated_defs head.branches) (basket_count head) ≤ length (record_data r)

pub stands_long : (info : Option KeyedRecord) → HasStateClasses info → (r : KeyedRecord) → is_tree_key r.head ≡ true → AreBytes (record_data r) → StandsAsLong (file_classes info) r
stands_long None listed r tree bytes head is = absurd (without_list (file_classes None) r bytes head is refl tree)
stands_long (Some info) listed r tree bytes head is =
    with_list (file_classes (Some info)) r bytes head is (state_classes (Some info)) listed.declared (ap (λ (x : Result (List ClassDef) ObjFault). result_unwrap_or x []) listed.list)
