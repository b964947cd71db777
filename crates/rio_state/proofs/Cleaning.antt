-- Without the first record that nothing refers to, the others are left.
use Rattle.std.proofs.Common.{◌≡◌, inl, ⊎_elim, ℕ, ◌+◌, ◌∙◌, List, [], ◌∷◌, ◌++◌, length, Bool, true, false, cond, not, ◌==◌, sym, ap, subst, refl, arith}
use Rattle.std.proofs.{lemmas.Bool.{eq-eqb, eqb-true, not-true}, lemmas.List.Elements.{filter_agree}}
use Rattle.std.specs.List.{filter}
use Rattle.rio_chain.specs.{Changes.{with_gap, without_record}, Segments.{GapAt, HoldsLinks, IsChain, Link, RecordAt}}
use Rattle.rio_chain.proofs.Words.{held_long}
use Rattle.rio_state.specs.{Cleaning.{GarbageIsLeft, unreferred}, KeyedRecords.{KeyedRecord, keyed_records}}
use Rattle.rio_state.specs.{OneLess.{HasRecord, links_without}, OneMore.{HasOneMoreIn}, Referred.{is_referred}}
use Rattle.rio_state.proofs.{Insertion.{filter_more}, LessRecords.{OwnRecord, gap_records, own_record, record_late, record_less, with_own}}
use Rattle.rio_state.proofs.{Members.{In, contains_in, filter_in}, Unreferred.{others_are_referred}}

-- a record that is released is none of those that are left
record_gone : (file : List ℕ) (p : ℕ) (links : List Link) (r : KeyedRecord) → HoldsLinks file p links → In r (keyed_records (links_without links r)) → ⊥
record_gone file p [] r holds i = i
record_gone file p (RecordAt q bytes ∷ links) r holds i =
    by (own_record file p q bytes holds.0.0 holds.0.1) (q == r.head.seek) refl i (record_gone file (p + length bytes) links r holds.1)
  where
    by : (o : OwnRecord q bytes) (b : Bool) → (q == r.head.seek) ≡ b
        → In r (keyed_records (cond b (with_gap q (length bytes) links) (RecordAt q bytes ∷ without_record r.head.seek links)))
        → (In r (keyed_records (without_record r.head.seek links)) → ⊥) → ⊥
    by o true e i rest =
        let late = record_late file (p + length bytes) links r holds.1 (subst (λ (rs : List KeyedRecord). In r rs) (gap_records q (length bytes) links) i) in
        omega (arith, late, held_long file p bytes holds.0.1, eqb-true q r.head.seek e, holds.0.0)
    by o false e i rest =
        ⊎_elim
        (λ same. let f : true ≡ false = sym (eq-eqb q r.head.seek (sym o.seek ∙ ap (λ (k : KeyedRecord). k.head.seek) same)) ∙ e in absurd cc)
        rest
        (subst (λ (rs : List KeyedRecord). In r rs) (with_own q bytes o (without_record r.head.seek links)) i)
record_gone file p (GapAt q n ∷ links) r holds i =
    record_gone file (p + n) links r holds.1 (subst (λ (rs : List KeyedRecord). In r rs) (gap_records q n (without_record r.head.seek links)) i)

-- of a list that begins with an element, and that no longer has it, the rest is left
pub rest_is_left : (r : KeyedRecord) (old new rest : List KeyedRecord) → HasOneMoreIn new old r → old ≡ r ∷ rest → (In r new → ⊥) → new ≡ rest
rest_is_left r old new rest h begins gone = by h.front h.before (sym begins ∙ h.after)
  where
    by : (front : List KeyedRecord) → new ≡ front ++ h.back → r ∷ rest ≡ front ++ r ∷ h.back → new ≡ rest
    by [] before both = let same : rest ≡ h.back = cc in before ∙ sym same
    by (s ∷ front) before both = let same : s ≡ r = cc in absurd (gone (subst (λ (rs : List KeyedRecord). In r rs) (sym before) (inl same)))

module _ (file : List ℕ) (links : List Link) (r : KeyedRecord) (others : List KeyedRecord) (chain : IsChain links file) (begins : unreferred (keyed_records links) ≡ r ∷ others) where
  abbrev old : List KeyedRecord
  old = keyed_records links

  abbrev new : List KeyedRecord
  new = keyed_records (links_without links r)

  among : In r old × (not (is_referred old r) ≡ true)
  among = filter_in (λ s. not (is_referred old s)) r old (subst (λ (rs : List KeyedRecord). In r rs) (sym begins) (inl refl))

  has : HasRecord file links r
  has = record { chain = chain; among = contains_in r old among.0 }

  -- those that nothing refers to, by what was referred to before
  same : unreferred new ≡ filter (λ s. not (is_referred old s)) new
  same = filter_agree (λ s. not (is_referred new s)) (λ s. not (is_referred old s)) (λ s. ap not (others_are_referred file links r s has (not-true _ among.1))) new

  left_over : unreferred new ≡ others
  left_over =
      same
      ∙ rest_is_left r (unreferred old) (filter (λ s. not (is_referred old s)) new) others
      (filter_more (λ s. not (is_referred old s)) r new old (record_less file links r has) among.1) begins
      (λ i. record_gone file 100 links r chain.links_are (filter_in (λ s. not (is_referred old s)) r new i).0)

pub garbage_is_left : GarbageIsLeft
garbage_is_left file links r others chain begins = left_over file links r others chain begins
