-- The header of a tree has its name alone, and its baskets.
use Rattle.std.proofs.Common.{◌≡◌, ⊎_elim, ℕ, ◌∙◌, List, Bool, true, false, not, ◌&&◌, nat_lt, refl, sym, ap, arith}
use Rattle.std.proofs.{lemmas.Bool.{and_from, ltb-false, ltb-true}, lemmas.Slice.Eq.{bytes_eq-Decides}}
use Rattle.std.specs.Str.{bytes_eq}
use Rattle.rio_chain.specs.Segments.{IsChain, Link}
use Rattle.rio_machine.specs.State.{State}
use Rattle.rio_tree.specs.declared.head.TreeHead.{TreeHead}
use Rattle.rio_state.specs.{Contents.{file_classes}, OneLess.{links_without}, Reads.{AreRecordsOf}, Trees.{places_named}}
use Rattle.rio_state.specs.KeyedRecords.{KeyedRecord, info_key, is_top_key, is_tree_key, keyed_records, top_keys, tree_records}
use Rattle.rio_state.proofs.{KeyRecords.{tree_apart}, KeysFollow.{in_before, in_new}, LessRecords.{record_less}, Members.{In, filter_in, in_filter, none_at}, Places.{later_apart, one_record}}
use Rattle.rio_effect.specs.TreeDeletes.{HasHeader}
use Rattle.rio_effect.proofs.{HeaderLess.{headers_less, none_named, tops_less}, TreeDeletes.{beside_in, holds}}

-- no other key has the name
pub only_key : (file : List ℕ) (links : List Link) (m : State) (r : KeyedRecord) (head : TreeHead) → HasHeader file links r head → AreRecordsOf (keyed_records links) m → (t : KeyedRecord) → In t (top_keys (keyed_records links))
    → bytes_eq t.head.name r.head.name ≡ true → r ≡ t
only_key file links m r head has is t i name =
    let old = keyed_records links in
    let mid = keyed_records (links_without links r) in
    let less = record_less file links r has.record_is in
    ⊎_elim (λ same. same) (λ j. absurd (by (is_tree_key t.head) refl j)) (in_before (top_keys mid) (top_keys old) r (tops_less old mid r less has.items has.tree) t i)
  where
    by : (b : Bool) → is_tree_key t.head ≡ b → In t (top_keys (keyed_records (links_without links r))) → ⊥
    by true key j =
        let old = keyed_records links in
        let mid = keyed_records (links_without links r) in
        let none = none_named old mid r (record_less file links r has.record_is) has.items has.tree is.stand.distinct in
        none_at (λ k. bytes_eq k.head.name r.head.name && is_tree_key k.head) t (top_keys mid) none j (and_from _ _ name key)
    by false key j =
        let old = keyed_records links in
        let mid = keyed_records (links_without links r) in
        let header = in_new (tree_records (top_keys mid)) (tree_records (top_keys old)) r (headers_less old mid r (record_less file links r has.record_is) has.items has.tree) in
        tree_apart old m is r t header (in_filter (λ k. not (is_tree_key k.head)) t (top_keys old) i (ap not key)) (sym ((bytes_eq-Decides t.head.name r.head.name).0 name))

-- two trees name no basket both
pub trees_apart : (file : List ℕ) (links : List Link) (m : State) → IsChain links file → AreRecordsOf (keyed_records links) m → (r s : KeyedRecord) → In r (tree_records (top_keys (keyed_records links)))
    → In s (tree_records (top_keys (keyed_records links))) → bytes_eq s.head.name r.head.name ≡ false → (p : ℕ) → In p (places_named (file_classes (info_key (keyed_records links))) r)
    → In p (places_named (file_classes (info_key (keyed_records links))) s) → ⊥
trees_apart file links m chain is r s i j other p one two = by (nat_lt r.head.seek s.head.seek) refl (nat_lt s.head.seek r.head.seek) refl
  where
    by : (a : Bool) → nat_lt r.head.seek s.head.seek ≡ a → (b : Bool) → nat_lt s.head.seek r.head.seek ≡ b → ⊥
    by true e b f = later_apart (beside_in (keyed_records links)) r s (holds (keyed_records links) m s is j) i (ltb-true _ _ e) p one two
    by false e true f = later_apart (beside_in (keyed_records links)) s r (holds (keyed_records links) m r is i) j (ltb-true _ _ f) p two one
    by false e false f =
        let records = keyed_records links in
        let r_in = (filter_in (λ k. is_top_key k.head) r records (filter_in _ r (top_keys records) i).0).0 in
        let s_in = (filter_in (λ k. is_top_key k.head) s records (filter_in _ s (top_keys records) j).0).0 in
        let same = one_record file links s r chain s_in r_in (omega (arith, ltb-false _ _ e, ltb-false _ _ f)) in
        let g : true ≡ false = sym ((bytes_eq-Decides s.head.name r.head.name).1 (ap (λ (k : KeyedRecord). k.head.name) same)) ∙ other in
        absurd cc
