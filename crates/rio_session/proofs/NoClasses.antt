-- Without a class list no header of a tree is read: its class isn't described, so an object of it is opaque.
use Rattle.std.proofs.Common.{◌≡◌, ◌-◌, ◌&&◌, ℕ, zero, suc, ℤ, codes, List, [], Bool, true, false, Option, Some, None, Result, Ok, Err, refl, sym, ap, subst, ◌∙◌}
use Rattle.std.proofs.lemmas.{Bool.{and_parts}, Slice.Eq.{bytes_eq-Decides}}
use Rattle.std.specs.{Prelude.{not, option_and_then}, Result.{result_ok}}
use Rattle.rio_num.specs.{Layout.{Layout, behind}, Meanings.{Standing, read}, Reading.{some_if}, Room.{is_padding}}
use Rattle.rio_num.proofs.ReadLaws.{bind_ok, ok_is}
use Rattle.rio_format.specs.{CodeLaws.{coded_decides}, declared.value.Value.{Value, Opaque}, Frames.{Step}, ReaderState.{WordsMet, no_words, standing}, declared.fault.ObjFault.{ObjFault}, declared.words.Header.{Header}}
use Rattle.rio_format.specs.contracts.value.Value as values
use Rattle.rio_format.specs.{Bodies.{Body, body_of, opaque}, Growth.{is_all_read}, Objects.{body, depth_limit, first_at, formed, headed, object_of, unread}}
use Rattle.rio_format.proofs.AllRead.{opaque_unread}
use Rattle.rio_tree.specs.{Header.{tree_head_in}, WrittenLaws.{stated_defs}, WrittenTree.{tree_value_of}, declared.fault.TreeFault.{TreeFault}, declared.head.TreeHead.{TreeHead}}
use Rattle.rio_state.specs.{Contents.{file_classes}, KeyedRecords.{KeyedRecord, info_key, is_outdated, is_tree_key, is_tree_record, record_data, tree_records}, Trees.{can_be_branches, header_by, header_in, is_same_value, is_written_header}}
use Rattle.rio_state.proofs.Members.{In, filter_in}
use Rattle.rio_effect.proofs.HeaderRead.{header_all_read}

-- ---- what is read is of this kind

record Gives {W F A : Type 0} (P : A → Type 0) (l : Layout W F A) : Type 0 where
  gives : (s t : Standing W) (x : A) → read l s ≡ Ok (x, t) → P x

behind_gives : {W F A B : Type 0} (P : A → Type 0) (l : Layout W F B) (m : B → Layout W F A) → ((y : B) → Gives P (m y)) → Gives P (behind l m)
behind_gives P l m each = record {
  gives = λ s t x e.
      let parts = bind_ok (read l s) (λ y. read (m y.0) y.1) (x, t) e in
      (each parts.0.0).gives parts.0.1 t x parts.2;
}

-- ---- an object of the class of trees

abbrev IsUnread : Value → Type 0
IsUnread v = is_all_read v ≡ true → ⊥

unread_gives : (class : List ℕ) (h : Header) → Gives IsUnread (unread class h)
unfolding unread
unread_gives class h =
    behind_gives IsUnread _ _ (λ place. behind_gives IsUnread _ _ (λ held. behind_gives IsUnread _ _ (λ passed. record {
      gives = λ s t x e.
          let same = ok_is {E = ObjFault} (Opaque class (h.end - h.place - 4), s) (x, t) e in
          subst IsUnread (ap (λ (q : Value × Standing WordsMet). q.0) same) (opaque_unread class (h.end - h.place - 4));
    })))

body_is : (version : ℤ) (sum : Option ℕ) → body_of [] (codes "TTree") version sum ≡ opaque
body_is version None = refl
body_is version (Some n) = refl

tree_gives : (levels : ℕ) → Gives IsUnread (object_of levels [] (codes "TTree"))
unfolding object_of formed headed body
tree_gives zero = behind_gives IsUnread _ _ (λ place. record { gives = λ s t x e. absurd cc })
tree_gives (suc levels) =
    behind_gives IsUnread _ _ (λ h. subst (λ (b : Body). Gives IsUnread (body (object_of levels []) (codes "TTree") h b)) (sym (body_is h.version h.sum)) (unread_gives (codes "TTree") h))

-- ---- a header

pub no_header : (r : KeyedRecord) (head : TreeHead) → r.head.class ≡ codes "TTree" → header_in (file_classes None) r ≡ Some head → ⊥
unfolding header_in is_written_header
no_header r head class is = by (first_at [] r.head.class r.head.keylen (record_data r)) refl is
  where
    by_test : (x : Value × Standing WordsMet) → first_at [] r.head.class r.head.keylen (record_data r) ≡ Ok x → (found : TreeHead) (b : Bool) → (is_padding x.1.at.rest && is_written_header [] r.head.name x.0 found) ≡ b → some_if b found ≡ Some head → ⊥
    by_test x at found false test h = absurd cc
    by_test x at found true test h =
        let parts = and_parts (is_padding x.1.at.rest) (is_written_header [] r.head.name x.0 found) test in
        let two = and_parts (can_be_branches [] (stated_defs found.branches)) (is_same_value x.0 (tree_value_of r.head.name found)) parts.1 in
        let same = (coded_decides values.the_row.coded x.0 (tree_value_of r.head.name found)).0 two.1 in
        let all = ap is_all_read same ∙ header_all_read r.head.name found in
        let own : first_at [] (codes "TTree") r.head.keylen (record_data r) ≡ Ok (x.0, x.1) = subst (λ (c : List ℕ). first_at [] c r.head.keylen (record_data r) ≡ Ok (x.0, x.1)) class at in
        (tree_gives depth_limit).gives (standing r.head.keylen (record_data r) no_words) x.1 x.0 own all

    by_head : (x : Value × Standing WordsMet) → first_at [] r.head.class r.head.keylen (record_data r) ≡ Ok x → (t : Result TreeHead TreeFault)
        → option_and_then (λ h. some_if (is_padding x.1.at.rest && is_written_header [] r.head.name x.0 h) h) (result_ok t) ≡ Some head → ⊥
    by_head x at (Err e) h = absurd cc
    by_head x at (Ok found) h = by_test x at found (is_padding x.1.at.rest && is_written_header [] r.head.name x.0 found) refl h

    by : (x : Step Value) → first_at [] r.head.class r.head.keylen (record_data r) ≡ x → header_by [] r.head.name x ≡ Some head → ⊥
    by (Err e) at h = absurd cc
    by (Ok x) at h = by_head x at (tree_head_in x.0) h

-- so a file with a tree has a class list
pub record HasList (records : List KeyedRecord) : Type 0 where
  pub info : KeyedRecord
  pub is : info_key records ≡ Some info

pub tree_class : (tops : List KeyedRecord) (r : KeyedRecord) → In r (tree_records tops) → r.head.class ≡ codes "TTree"
tree_class tops r i =
    let test = (filter_in (is_tree_record tops) r tops i).1 in
    let own = and_parts (is_tree_key r.head) (not (is_outdated tops r)) test in
    (bytes_eq-Decides r.head.class (codes "TTree")).0 own.0

pub has_list : (records : List KeyedRecord) (r : KeyedRecord) (head : TreeHead) → r.head.class ≡ codes "TTree" → header_in (file_classes (info_key records)) r ≡ Some head → HasList records
has_list records r head class is = by (info_key records) refl
  where
    by : (o : Option KeyedRecord) → info_key records ≡ o → HasList records
    by None e = absurd (no_header r head class (subst (λ (o : Option KeyedRecord). header_in (file_classes o) r ≡ Some head) e is))
    by (Some info) e = record { info = info; is = e }
