-- How the reading, spelling and writing of entries belong together.
use Rattle.std.proofs.Common.{◌≡◌, ◌==◌, ◌&&◌, ◌⊎◌, inl, inr, ℕ, ◌+◌, ◌^◌, ◌<◌, ◌≤◌, ◌-◌, Bool, true, false, cond, List, [], ◌∷◌, ◌++◌, length, Result, Ok, Err, refl, sym, ap, subst, ◌∙◌, arith}
use Rattle.std.proofs.{lemmas.Bool.{and_parts, leb-true, ne_eqb}, lemmas.List.{append-nil, length-append}}
use Rattle.std.specs.{List.{list_all}, Prelude.{IfOk, IsTrue, nat_le}}
use Rattle.rio_num.specs.{At.{AreBytes, end_place}, Meanings.{Breaks, Spells, read}, Answers.{GivesUnless}}
use Rattle.rio_num.proofs.Agree as Agree
use Rattle.rio_num.proofs.{Intro.{IsSo, done_is, ends_with, so_by, still_then}, ReadLaws.{ok_is}, Cases.{nothing_left}}
use Rattle.rio_leaf.specs.declared.branch.Shape.{Shape, TheVariants.{Leaves, Class}}
use Rattle.rio_format.specs.{Frames.{Step}, ReaderState.{ReaderState, WordsMet, no_words, standing}, declared.fault.ObjFault.{ObjFault}}
use Rattle.rio_format.specs.{Fits.{fits}, Laws.{has_versions}, Objects.{SpellsObject, depth_limit, object_of}, Written.{written_form}, WrittenBytes.{length_limit}, declared.class.ClassDef.{ClassDef}}
use Rattle.rio_format.proofs.{ObjectLaws.{not_both}, WrittenValues.{written_is_spelled}}
use Rattle.rio_format.specs.{Depth.{depth_of}, declared.value.Value.{Value}}
use Rattle.rio_entry.specs.Entries.{branch_entry_bytes, entry_fits}
use Rattle.rio_machine.specs.Entries.{entry_fault}
use Rattle.rio_entry.specs.{Laws.{EntriesHaveOneAnswer, WrittenEntriesAreRead, can_be_read_back}, Leaves.{leaves_bytes, leaves_fit}}
use Rattle.rio_entry.specs.Reading.{BreaksEntry, HasMore, SpellsEntry}
use Rattle.rio_machine.specs.Entries.{columns_values, entry_in, entry_values, only_values}
use Rattle.rio_machine.specs.declared.entry_fault.EntryFault.{EntryFault, TheVariants.{NoMemory, BadEntry}}
use Rattle.rio_entry.proofs.{Answered.{what_is_written}, ClassBytes.{object_bytes}, LeafBytes.{bytes_is, fits_is}, LeafSpells.{leaves_spelled}}

module _ (classes : List ClassDef) (shape : Shape) (counts : List Value) (bytes : List ℕ) where
  abbrev reading : Step (List Value)
  reading = read (entry_values classes shape counts) (standing 0 bytes no_words)

  -- what is spelled is read
  pub spelled_is_read : (row : List Value) → SpellsEntry classes shape counts row bytes → entry_in classes shape counts bytes ≡ Ok row
  unfolding SpellsEntry
  spelled_is_read row c =
      let le : length bytes ≤ 0 + length (bytes ++ []) = omega (arith, length-append bytes []) in
      let all = Agree.spelled_is_read (entry_values classes shape counts) (length bytes) 0 no_words row bytes [] c.0 le c.1 in
      let here : reading ≡ Ok (row, standing (0 + length bytes) [] c.0) = ap (λ (b : List ℕ). read (entry_values classes shape counts) (standing 0 b no_words)) (sym (append-nil bytes)) ∙ all in
      ap only_values here

  some_left : (rest : List ℕ) → (length rest == 0) ≡ false → 0 < length rest
  some_left [] e = absurd cc
  some_left (b ∷ rest) e = omega arith

  whole_read : AreBytes bytes → (row : List Value) (x : List Value × ReaderState) → reading ≡ Ok x → (b : Bool) → (length x.1.at.rest == 0) ≡ b → cond b (Ok x.0) (Err (BadEntry x.1.at.place)) ≡ Ok row → (t : WordsMet) × Spells (entry_values classes shape counts) (length bytes) 0 no_words row bytes t
  whole_read fits row x is true none g =
      let taken = Agree.read_is_spelled (entry_values classes shape counts) (standing 0 bytes no_words) x.0 x.1 fits is in
      let whole : bytes ≡ taken.front = taken.parts ∙ ap (λ (rest : List ℕ). taken.front ++ rest) (nothing_left x.1.at.rest none) ∙ append-nil taken.front in
      let same : x.0 ≡ row = ok_is {E = EntryFault} x.0 row g in
      let end : end_place (standing 0 bytes no_words).at ≡ length bytes = omega arith in
      let first = subst (λ (n : ℕ). Spells (entry_values classes shape counts) n 0 no_words x.0 taken.front x.1.words) end taken.spelled in
      let second = subst (λ (b : List ℕ). Spells (entry_values classes shape counts) (length bytes) 0 no_words x.0 b x.1.words) (sym whole) first in
      (x.1.words, subst (λ (r : List Value). Spells (entry_values classes shape counts) (length bytes) 0 no_words r bytes x.1.words) same second)
  whole_read fits row x is false some g = absurd cc

  -- what is read is spelled
  pub read_is_spelled : AreBytes bytes → (row : List Value) → entry_in classes shape counts bytes ≡ Ok row → SpellsEntry classes shape counts row bytes
  unfolding SpellsEntry
  read_is_spelled fits row e = by reading refl e
    where
      by : (r : Step (List Value)) → reading ≡ r → only_values r ≡ Ok row → (t : WordsMet) × Spells (entry_values classes shape counts) (length bytes) 0 no_words row bytes t
      by (Err d) is f = absurd cc
      by (Ok x) is f = whole_read fits row x is (length x.1.at.rest == 0) refl f

  -- where bytes break, reading gives the fault
  pub broken_is_fault : (e : EntryFault) → BreaksEntry classes shape counts bytes e → entry_in classes shape counts bytes ≡ Err e
  unfolding BreaksEntry
  broken_is_fault e (inl c) = ap only_values (Agree.broken_is_fault (entry_values classes shape counts) 0 no_words bytes c.0 c.2) ∙ ap (λ (f : EntryFault). let r : Result (List Value) EntryFault = Err f in r) (sym c.1)
  broken_is_fault e (inr d) =
      let c = d.2 in
      let front = c.1 in
      let more = c.2 in
      let le : length bytes ≤ 0 + length (front ++ more) = omega (arith, ap length c.4) in
      let all = Agree.spelled_is_read (entry_values classes shape counts) (length bytes) 0 no_words c.0 front more c.3 le c.7 in
      let here : reading ≡ Ok (c.0, standing (0 + length front) more c.3) = ap (λ (b : List ℕ). read (entry_values classes shape counts) (standing 0 b no_words)) c.4 ∙ all in
      let some : (length more == 0) ≡ false = left more c.5 in
      let there : 0 + length front ≡ d.0 = omega (arith, c.6) in
      ap only_values here
      ∙ ap (λ (b : Bool). cond b (Ok c.0) (Err (BadEntry (0 + length front)))) some
      ∙ ap (λ (n : ℕ). let r : Result (List Value) EntryFault = Err (BadEntry n) in r) there
      ∙ ap (λ (f : EntryFault). let r : Result (List Value) EntryFault = Err f in r) (sym d.1)
    where
      left : (more : List ℕ) → 0 < length more → (length more == 0) ≡ false
      left [] lt = absurd (omega (arith, lt))
      left (b ∷ more) lt = ne_eqb _ _ (omega (arith, lt))

  abbrev Broken : EntryFault → Type 0
  Broken e = ((fault : ObjFault) × (e ≡ entry_fault fault) × Breaks (entry_values classes shape counts) 0 no_words bytes fault) ⊎ ((place : ℕ) × (e ≡ BadEntry place) × HasMore classes shape counts bytes place)

  pub err_is : (d e : EntryFault) → (let r : Result (List Value) EntryFault = Err d in r) ≡ Err e → d ≡ e
  err_is d e h = cc

  broken_here : AreBytes bytes → (d : ObjFault) → reading ≡ Err d → Breaks (entry_values classes shape counts) 0 no_words bytes d
  broken_here fits d is = Agree.fault_is_broken (entry_values classes shape counts) (standing 0 bytes no_words) d fits is

  more_read : AreBytes bytes → (e : EntryFault) (x : List Value × ReaderState) → reading ≡ Ok x → (b : Bool) → (length x.1.at.rest == 0) ≡ b → cond b (Ok x.0) (Err (BadEntry x.1.at.place)) ≡ Err e → (place : ℕ) × (e ≡ BadEntry place) × HasMore classes shape counts bytes place
  more_read fits e x is true none g = absurd cc
  more_read fits e x is false some g =
      let taken = Agree.read_is_spelled (entry_values classes shape counts) (standing 0 bytes no_words) x.0 x.1 fits is in
      let end : end_place (standing 0 bytes no_words).at ≡ length bytes = omega arith in
      let first = subst (λ (n : ℕ). Spells (entry_values classes shape counts) n 0 no_words x.0 taken.front x.1.words) end taken.spelled in
      (x.1.at.place, sym (err_is (BadEntry x.1.at.place) e g), (x.0, taken.front, x.1.at.rest, x.1.words, taken.parts, some_left x.1.at.rest some, omega (arith, taken.place), first))

  -- where reading gives a fault, bytes break with it
  pub fault_is_broken : AreBytes bytes → (e : EntryFault) → entry_in classes shape counts bytes ≡ Err e → BreaksEntry classes shape counts bytes e
  unfolding BreaksEntry
  fault_is_broken fits e h = by reading refl h
    where
      by : (r : Step (List Value)) → reading ≡ r → only_values r ≡ Err e → Broken e
      by (Err d) is f = inl (d, sym (err_is (entry_fault d) e f), broken_here fits d is)
      by (Ok x) is f = inr (more_read fits e x is (length x.1.at.rest == 0) refl f)

-- ---- what a call that reads returns

module _ (classes : List ClassDef) (shape : Shape) (counts : List Value) (bytes : List ℕ) (result : Result (List Value) EntryFault) (given : GivesUnless NoMemory (λ row. row) result (entry_in classes shape counts bytes)) where
  pub is_found : AreBytes bytes → IfOk result (λ row. SpellsEntry classes shape counts row bytes)
  is_found fits = by result given
    where
      by : (r : Result (List Value) EntryFault) → GivesUnless NoMemory (λ row. row) r (entry_in classes shape counts bytes) → IfOk r (λ row. SpellsEntry classes shape counts row bytes)
      by (Ok row) e = read_is_spelled classes shape counts bytes fits row e
      by (Err fault) e = tt

  pub is_only : (row : List Value) → SpellsEntry classes shape counts row bytes → GivesUnless NoMemory (λ row. row) result (Ok row)
  is_only row spelled = subst (GivesUnless NoMemory (λ row. row) result) (spelled_is_read classes shape counts bytes row spelled) given

  pub is_broken : (e : EntryFault) → BreaksEntry classes shape counts bytes e → GivesUnless NoMemory (λ row. row) result (Err e)
  is_broken e breaks = subst (GivesUnless NoMemory (λ row. row) result) (broken_is_fault classes shape counts bytes e breaks) given

-- ---- one answer

row_is : (x y : List Value) → (let r : Result (List Value) EntryFault = Ok x in r) ≡ Ok y → x ≡ y
row_is x y e = cc

pub one_answer : EntriesHaveOneAnswer
one_answer classes shape counts bytes fits = record {
  some = by (entry_in classes shape counts bytes) refl;
  one_row = λ row other a b. row_is row other (sym (spelled_is_read classes shape counts bytes row a) ∙ spelled_is_read classes shape counts bytes other b);
  one_fault = λ e other a b. err_is classes shape counts bytes e other (sym (broken_is_fault classes shape counts bytes e a) ∙ broken_is_fault classes shape counts bytes other b);
  apart = λ row e a b. not_both (entry_in classes shape counts bytes) e row (broken_is_fault classes shape counts bytes e b) (spelled_is_read classes shape counts bytes row a);
}
  where
    by : (r : Result (List Value) EntryFault) → entry_in classes shape counts bytes ≡ r → ((row : List Value) × SpellsEntry classes shape counts row bytes) ⊎ ((e : EntryFault) × BreaksEntry classes shape counts bytes e)
    by (Ok row) is = inl (row, read_is_spelled classes shape counts bytes fits row is)
    by (Err e) is = inr (e, fault_is_broken classes shape counts bytes fits e is)

-- ---- what is written

module _ (classes : List ClassDef) where
  -- an object of a branch of a class
  object_spelled : (class : List ℕ) (counts : List Value) (v : Value) → IsTrue (fits classes class v) → IsTrue (can_be_read_back v) → length (branch_entry_bytes classes (Class class) counts (v ∷ [])) ≤ length_limit → SpellsEntry classes (Class class) counts (v ∷ []) (branch_entry_bytes classes (Class class) counts (v ∷ []))
  unfolding SpellsEntry columns_values SpellsObject
  object_spelled class counts v fit back room =
      let parts = and_parts (nat_le (depth_of v) depth_limit) (has_versions v) back in
      let le : depth_of v ≤ depth_limit = leb-true _ _ parts.0 in
      let bytes = branch_entry_bytes classes (Class class) counts (v ∷ []) in
      let same : written_form classes 0 v ≡ bytes = object_bytes classes class counts v fit in
      let small : 0 + length (written_form classes 0 v) ≤ 2 ^ 30 - 2 = omega (arith, room, ap length same) in
      let c = written_is_spelled classes class 0 v fit le parts.1 small in
      let whole : IsSo (object_of depth_limit classes class) (0 + length (written_form classes 0 v)) 0 no_words v (written_form classes 0 v) c.0 = record { so = c.1 } in
      let end : 0 + length (written_form classes 0 v) ≡ length bytes = omega (arith, ap length same) in
      let first = subst (λ (n : ℕ). IsSo (object_of depth_limit classes class) n 0 no_words v (written_form classes 0 v) c.0) end whole in
      let inside = subst (λ (b : List ℕ). IsSo (object_of depth_limit classes class) (length bytes) 0 no_words v b c.0) same first in
      let all : IsSo (entry_values classes (Class class) counts) (length bytes) 0 no_words (v ∷ []) bytes c.0 = ends_with v c.0 inside (still_then [] done_is done_is) in
      (c.0, all.so)

pub written_spelled : (classes : List ClassDef) (shape : Shape) (counts row : List Value) → IsTrue (entry_fits classes shape counts row) → IsTrue (list_all can_be_read_back row) → length (branch_entry_bytes classes shape counts row) ≤ length_limit → SpellsEntry classes shape counts row (branch_entry_bytes classes shape counts row)
unfolding SpellsEntry
written_spelled classes (Leaves ls) counts row fit back room =
    let own : leaves_fit ls counts row [] ≡ true = sym (fits_is classes ls counts row []) ∙ fit in
    let same : branch_entry_bytes classes (Leaves ls) counts row ≡ leaves_bytes ls row = bytes_is classes ls counts row [] own in
    let c = leaves_spelled classes ls counts row [] (length (branch_entry_bytes classes (Leaves ls) counts row)) 0 no_words own (omega (arith, room, ap length same)) in
    let all : IsSo (entry_values classes (Leaves ls) counts) (length (branch_entry_bytes classes (Leaves ls) counts row)) 0 no_words row (branch_entry_bytes classes (Leaves ls) counts row) no_words = so_by c refl same refl in
    (no_words, all.so)
written_spelled classes (Class class) counts [] fit back room = absurd cc
written_spelled classes (Class class) counts (v ∷ w ∷ vs) fit back room = absurd (two (fits classes class v) fit)
  where
    two : (b : Bool) → (b && false) ≡ true → ⊥
    two true e = cc
    two false e = cc
written_spelled classes (Class class) counts (v ∷ []) fit back room =
    let first = and_parts (fits classes class v) true fit in
    let one = and_parts (can_be_read_back v) true back in
    object_spelled classes class counts v first.0 one.0 room

pub written_are_read : WrittenEntriesAreRead
written_are_read classes shape counts row bytes e back =
    let all = what_is_written classes shape counts row bytes e in
    let own = written_spelled classes shape counts row all.0 back all.1 in
    let c = subst (SpellsEntry classes shape counts row) all.2 own in
    (c, spelled_is_read classes shape counts bytes row c)
