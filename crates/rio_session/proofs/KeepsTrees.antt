-- What a session keeps with its pending rows is sound with a record more, with a class list in place of the one before, and with records less.
use Rattle.std.proofs.Common.{◌≡◌, ◌∙◌, ◌==◌, ◌||◌, ℕ, ◌+◌, ◌%◌, ◌<◌, ◌≤◌, Bool, true, false, cond, List, [], ◌∷◌, ◌++◌, append_assoc, length, map, Option, Some, None, refl, sym, ap, subst, arith}
use Rattle.std.proofs.lemmas.{Bool.{ne_eqb, or_parts}, List.{length-append}}
use Rattle.std.specs.List.{All, list_all}
use Rattle.rio_key.specs.declared.head.KeyHead.{KeyHead}
use Rattle.rio_dir.specs.Table.{with_head}
use Rattle.rio_chain.specs.{Adjoining.{AreSegments}, Placing.{file_end, place_of, record_count, with_segment}, declared.segment.Segment.{Segment}}
use Rattle.rio_chain.specs.declared.record.NewRecord.{NewRecord}
use Rattle.rio_chain.proofs.{Laying.{laid_put}, Words.{whole_long}}
use Rattle.rio_close.proofs.Fitting.{count_with}
use Rattle.rio_state.specs.Closing.{end_limit}
use Rattle.rio_recover.specs.Closable.{IsClosable}
use Rattle.rio_session.specs.{Due.{AreApart, IsBranchSound, IsClosableWith, key_place, need_with}, Fills.{FilledTree, places_of_trees}}
use Rattle.rio_session.specs.{Puts.{CanBePut}, SessionState.{SessionState}}
use Rattle.rio_session.proofs.{Apart.{is_among}, Keeps.{kept_more}, Needs.{need_least}}
use Rattle.rio_session.proofs.KeepsLess.{IsOneLess, all_owned, alone, any_append, list_place, own_places, owned_by, owns_counted, seeks}

-- ---- places

-- as many owners as there are records, each of which is someone's, stand apart
module _ (owners : List ℕ) (segments : List Segment) (shape : AreSegments segments) (owned : list_all (owned_by owners) segments ≡ true) (count : record_count segments ≡ length owners) where
  or_out : (a b c : Bool) → (a || (b || c)) ≡ true → b ≡ false → (a || c) ≡ true
  or_out true b c e none = refl
  or_out false true c e none = absurd cc
  or_out false false c e none = e

  one_out : (front back : List ℕ) (x : ℕ) → owners ≡ front ++ x ∷ back → IsOneLess x owners (front ++ back)
  one_out front back x is = record {
    one = omega (arith, ap length is, length-append front (x ∷ back), length-append front back);
    others = λ p e other. any_append p front back ∙ or_out (is_among front p) (x == p) (is_among back p) (sym (any_append p front (x ∷ back)) ∙ ap (λ (l : List ℕ). is_among l p) (sym is) ∙ e) (ne_eqb x p other);
  }

  apart_from : (front back : List ℕ) → owners ≡ front ++ back → AreApart back
  apart_from front [] is = tt
  apart_from front (x ∷ back) is =
      let none = alone x owners (front ++ back) (one_out front back x is) segments shape owned count in
      let more : owners ≡ (front ++ x ∷ []) ++ back = is ∙ sym (append_assoc front (x ∷ []) back) in
      ((or_parts (is_among front x) (is_among back x) (sym (any_append x front back) ∙ none)).1, apart_from (front ++ x ∷ []) back more)

  pub owners_apart : AreApart owners
  owners_apart = apart_from [] owners refl

list_stands : (info : Option KeyHead) → list_place info ≡ key_place info
list_stands None = refl
list_stands (Some h) = refl

-- so what can be closed stands apart
pub closable_apart : (segments : List Segment) (heads : List KeyHead) (info : Option KeyHead) (baskets name : List ℕ) → AreSegments segments → IsClosable segments heads info baskets name
    → AreApart (key_place info ++ map (λ h. h.seek) heads ++ baskets)
closable_apart segments heads info baskets name shape kept =
    let all = owners_apart (own_places info heads baskets) segments shape (sym (all_owned info heads baskets segments) ∙ kept.owned) (kept.count ∙ sym (owns_counted info heads baskets)) in
    subst AreApart (sym (append_assoc (key_place info) (seeks heads) baskets)) (subst (λ (l : List ℕ). AreApart (l ++ (seeks heads ++ baskets))) (list_stands info) all.1)

-- what can be closed, with room for the saves that are due
pub with_saves : (segments : List Segment) (heads : List KeyHead) (trees : List FilledTree) (info : Option KeyHead) (name : List ℕ) → AreSegments segments → IsClosable segments heads info (places_of_trees trees) name
    → file_end segments + need_with name heads (record_count segments) trees ≤ end_limit → All (λ t. All (IsBranchSound t.fill.saved t.fill.pending) t.fill.branches) trees → IsClosableWith segments heads trees info name
with_saves segments heads trees info name shape kept room sound =
    record { closable = kept; room = room; sound = sound; apart = closable_apart segments heads info (places_of_trees trees) name shape kept }

-- ---- a record that is put

pub kept_put : (s : SessionState) (made : NewRecord) (segments segments' : List Segment) (heads heads' : List KeyHead) (trees : List FilledTree) (info : Option KeyHead) (name : List ℕ) → CanBePut s made → AreSegments segments
    → IsClosableWith segments heads trees info name → s.segments ≡ segments → s.heads ≡ heads → s.trees ≡ trees → s.name ≡ name
    → segments' ≡ with_segment made.head.seek (length made.bytes.bytes) segments → heads' ≡ with_head made.head heads → IsClosableWith segments' heads' trees info name
kept_put s made segments segments' heads heads' trees info name can shape kept a b t c put more =
    let n = length made.bytes.bytes in
    let long : 4 ≤ n = whole_long made.head.seek made.bytes.bytes can.whole in
    let at : made.head.seek ≡ place_of segments n = can.place ∙ ap (λ (x : List Segment). place_of x n) a in
    let then : AreSegments (with_segment made.head.seek n segments) = subst (λ (p : ℕ). AreSegments (with_segment p n segments)) (sym at) (laid_put segments n shape long can.whole.aligned).0 in
    let room : file_end (with_segment made.head.seek n segments) + need_with name (with_head made.head heads) (record_count segments + 1) trees ≤ end_limit =
    subst (λ (x : List Segment × (List KeyHead × (List ℕ × List FilledTree))). file_end (with_segment made.head.seek n x.0) + need_with x.1.1.0 (with_head made.head x.1.0) (record_count x.0 + 1) x.1.1.1 ≤ end_limit) (λ i. (a i, (b i, (c i, t i)))) can.room in
    let least = need_least name (with_head made.head heads) (record_count segments + 1) trees in
    let one = kept_more segments heads info (places_of_trees trees) name n made.head kept.closable can.sized can.fit (omega (arith, room, least)) in
    let count : record_count (with_segment made.head.seek n segments) ≡ record_count segments + 1 = omega (arith, count_with made.head.seek n segments) in
    let last : file_end (with_segment made.head.seek n segments) + need_with name (with_head made.head heads) (record_count (with_segment made.head.seek n segments)) trees ≤ end_limit =
    subst (λ (k : ℕ). file_end (with_segment made.head.seek n segments) + need_with name (with_head made.head heads) k trees ≤ end_limit) (sym count) room in
    subst (λ (x : List Segment × List KeyHead). IsClosableWith x.0 x.1 trees info name) (λ i. (sym put i, sym more i)) (with_saves (with_segment made.head.seek n segments) (with_head made.head heads) trees info name then one last kept.sound)
