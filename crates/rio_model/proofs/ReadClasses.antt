-- The declaration of a class is read as the class.
use Rattle.std.proofs.Common.{◌≡◌, ◌⊎◌, inl, inr, ℕ, List, [], ◌∷◌, ◌++◌, map, length, Bool, true, false, ◌==◌, ◌&&◌, ◌||◌, not, if◌then◌else◌, refl, sym, ◌∙◌, ap, subst, append_assoc}
use Rattle.std.proofs.lemmas.Bool.{and_parts, false_from_ne_true, not-true, or_cases, or_left, or_right}
use Rattle.std.proofs.{lemmas.List.{map-append, Folds.{list_any-append}}, lemmas.Slice.Eq.{bytes_eq-Decides}, Math.Bool.{or-false}}
use Rattle.std.specs.{List.{list_any}, Str.{bytes_eq}}
use Rattle.rio_num.specs.Word.{is_name_text}
use Rattle.rio_num.proofs.Cases.{nothing_left}
use Rattle.rio_format.specs.{declared.class.Base.{Base}, declared.class.Member.{Member}, declared.kind.Kind.{Kind, TheVariants.{Plain, Counter, Fixed, Counted, Text, Inline, Pointer, Other}}}
use Rattle.rio_format.specs.{declared.kind.Primitive.TheVariants.{I32}, Members.{is_counter}, Bodies.{member}}
use Rattle.rio_token.proofs.SeparatedLaws.{AllBack}
use Rattle.rio_model.specs.ClassGrammar.{base, base_at, counting, counts_by, has_base_named, has_i32, has_member, is_counted_by, is_i32, is_i32_of, member_at, with_counters}
use Rattle.rio_model.specs.ClassText.{base_text, kind_text, member_text}
use Rattle.rio_model.specs.Stated.{are_stated_bases, are_stated_members, has_counter, is_stated_base, is_stated_kind, is_stated_member}
use Rattle.rio_model.proofs.{ReadKinds.{IsEnd, is_read_kind}, ReadMembers.{base_back, member_back}}

-- ---- members as they are read, before it is known which count

abbrev pub as_read_kind : Kind → Kind
as_read_kind (Plain of) = Plain of
as_read_kind Counter = Plain I32
as_read_kind (Fixed of count) = Fixed of count
as_read_kind (Counted of counter) = Counted of counter
as_read_kind Text = Text
as_read_kind (Inline class) = Inline class
as_read_kind (Pointer class) = Pointer class
as_read_kind (Other code) = Other code

abbrev pub as_read : Member → Member
as_read m = member m.name (as_read_kind m.kind)

pub same_kind_text : (k : Kind) → kind_text (as_read_kind k) ≡ kind_text k
same_kind_text (Plain of) = refl
same_kind_text Counter = refl
same_kind_text (Fixed of count) = refl
same_kind_text (Counted of counter) = refl
same_kind_text Text = refl
same_kind_text (Inline class) = refl
same_kind_text (Pointer class) = refl
same_kind_text (Other code) = refl

same_members : (before : List Member) (name : List ℕ) → has_member (map as_read before) name ≡ has_member before name
same_members [] name = refl
same_members (m ∷ ms) name = rw (same_members ms name) refl

same_bases : (before : List Base) (name : List ℕ) → has_base_named (map (λ b. base b.name) before) name ≡ has_base_named before name
same_bases [] name = refl
same_bases (b ∷ bs) name = rw (same_bases bs name) refl

same_counting : (k : Kind) (name : List ℕ) → counts_by (as_read_kind k) name ≡ counts_by k name
same_counting (Plain of) name = refl
same_counting Counter name = refl
same_counting (Fixed of count) name = refl
same_counting (Counted of counter) name = refl
same_counting Text name = refl
same_counting (Inline class) name = refl
same_counting (Pointer class) name = refl
same_counting (Other code) name = refl

same_counted : (ms : List Member) (name : List ℕ) → is_counted_by (map as_read ms) name ≡ is_counted_by ms name
same_counted [] name = refl
same_counted (m ∷ ms) name = rw (same_counting m.kind name, same_counted ms name) refl

-- ---- tests

-- ---- what the members before are known to keep to

pub record Known (before : List Member) : Type 0 where
  pub counters : (name : List ℕ) → has_counter before name ≡ true → has_i32 (map as_read before) name ≡ true
  pub names : (name : List ℕ) → has_counter before name ≡ true → is_name_text name ≡ true
  pub counted : (name : List ℕ) → is_counted_by before name ≡ true → has_member before name ≡ true

counter_is_i32 : (k : Kind) → is_counter k ≡ true → is_i32 (as_read_kind k) ≡ true
counter_is_i32 (Plain of) h = absurd (cc)
counter_is_i32 Counter h = refl
counter_is_i32 (Fixed of count) h = absurd (cc)
counter_is_i32 (Counted of counter) h = absurd (cc)
counter_is_i32 Text h = absurd (cc)
counter_is_i32 (Inline class) h = absurd (cc)
counter_is_i32 (Pointer class) h = absurd (cc)
counter_is_i32 (Other code) h = absurd (cc)

counter_is_member : (ms : List Member) (name : List ℕ) → has_counter ms name ≡ true → has_member ms name ≡ true
counter_is_member [] name h = absurd (cc)
counter_is_member (m ∷ ms) name h =
    elim (or_cases (bytes_eq m.name name && is_counter m.kind) (has_counter ms name) h) [
      | inl here ↦ or_left (bytes_eq m.name name) (has_member ms name) (and_parts (bytes_eq m.name name) (is_counter m.kind) here).0
      | inr there ↦ or_right (bytes_eq m.name name) (has_member ms name) (counter_is_member ms name there)
    ]

counted_name : (k : Kind) (name : List ℕ) (before : List Member) (m : List ℕ) (after : List Member) → is_stated_kind before m after k ≡ true → counts_by k name ≡ true → has_counter before name ≡ true
counted_name (Plain of) name before m after s h = absurd (cc)
counted_name Counter name before m after s h = absurd (cc)
counted_name (Fixed of count) name before m after s h = absurd (cc)
counted_name (Counted of counter) name before m after s h = subst (λ (n : List ℕ). has_counter before n ≡ true) ((bytes_eq-Decides counter name).0 h) s
counted_name Text name before m after s h = absurd (cc)
counted_name (Inline class) name before m after s h = absurd (cc)
counted_name (Pointer class) name before m after s h = absurd (cc)
counted_name (Other code) name before m after s h = absurd (cc)

pub known_none : Known []
known_none = record { counters = λ name h. absurd (cc); names = λ name h. absurd (cc); counted = λ name h. absurd (cc) }

module _ {X : Type 0} (p : X → Bool) (xs : List X) (x : X) where
  any_last : list_any p (xs ++ x ∷ []) ≡ true → (list_any p xs ≡ true) ⊎ (p x ≡ true)
  any_last h =
      let split : (list_any p xs || (p x || false)) ≡ true = sym (list_any-append p xs (x ∷ [])) ∙ h in
      elim (or_cases (list_any p xs) (p x || false) split) [ inl there ↦ inl there | inr here ↦ inr (sym (or-false (p x)) ∙ here) ]

  any_before : list_any p xs ≡ true → list_any p (xs ++ x ∷ []) ≡ true
  any_before h = list_any-append p xs (x ∷ []) ∙ or_left (list_any p xs) (p x || false) h

  any_here : p x ≡ true → list_any p (xs ++ x ∷ []) ≡ true
  any_here h = list_any-append p xs (x ∷ []) ∙ or_right (list_any p xs) (p x || false) (or-false (p x) ∙ h)

module _ (before : List Member) (m : Member) (after : List Member) (known : Known before) (named : is_name_text m.name ≡ true) (stated : is_stated_kind before m.name after m.kind ≡ true) where
  counters_more : (name : List ℕ) → has_counter (before ++ m ∷ []) name ≡ true → has_i32 (map as_read (before ++ m ∷ [])) name ≡ true
  counters_more name h =
      let test : Member → Bool = λ c. bytes_eq c.name name && is_i32 c.kind in
      let split : map as_read (before ++ m ∷ []) ≡ map as_read before ++ as_read m ∷ [] = map-append as_read before (m ∷ []) in
      rw split (elim (any_last (λ (c : Member). bytes_eq c.name name && is_counter c.kind) before m h) [
        | inl there ↦ any_before test (map as_read before) (as_read m) (known.counters name there)
        | inr here ↦ any_here test (map as_read before) (as_read m) (let parts = and_parts (bytes_eq m.name name) (is_counter m.kind) here in rw (parts.0, counter_is_i32 m.kind parts.1) refl)
      ])

  names_more : (name : List ℕ) → has_counter (before ++ m ∷ []) name ≡ true → is_name_text name ≡ true
  names_more name h =
      elim (any_last (λ (c : Member). bytes_eq c.name name && is_counter c.kind) before m h) [
        | inl there ↦ known.names name there
        | inr here ↦ subst (λ (n : List ℕ). is_name_text n ≡ true) ((bytes_eq-Decides m.name name).0 (and_parts (bytes_eq m.name name) (is_counter m.kind) here).0) named
      ]

  counted_more : (name : List ℕ) → is_counted_by (before ++ m ∷ []) name ≡ true → has_member (before ++ m ∷ []) name ≡ true
  counted_more name h =
      any_before (λ (c : Member). bytes_eq c.name name) before m (elim (any_last (λ (c : Member). counts_by c.kind name) before m h) [
        | inl there ↦ known.counted name there
        | inr here ↦ counter_is_member before name (counted_name m.kind name before m.name after stated here)
      ])

  pub known_more : Known (before ++ m ∷ [])
  known_more = record { counters = counters_more; names = names_more; counted = counted_more }

-- ---- all members are read

readable_kind : (before : List Member) (k : Kind) (name : List ℕ) (after : List Member) → Known before → is_stated_kind before name after k ≡ true → is_read_kind (map as_read before) (as_read_kind k) ≡ true
readable_kind before (Plain of) name after known h = refl
readable_kind before Counter name after known h = refl
readable_kind before (Fixed of count) name after known h = h
readable_kind before (Counted of counter) name after known h = rw (known.counters counter h, known.names counter h) refl
readable_kind before Text name after known h = refl
readable_kind before (Inline class) name after known h = h
readable_kind before (Pointer class) name after known h = h
readable_kind before (Other code) name after known h = absurd (cc)

-- what a stated member keeps to
pub record Stated (before : List Member) (m : Member) (after : List Member) : Type 0 where
  pub named : is_name_text m.name ≡ true
  pub new : has_member before m.name ≡ false
  pub kind : is_stated_kind before m.name after m.kind ≡ true
  pub title : m.title ≡ []

pub stated_parts : (before : List Member) (m : Member) (after : List Member) → is_stated_member before m after ≡ true → Stated before m after
stated_parts before m after h =
    let outer = and_parts (is_name_text m.name && not (has_member before m.name) && is_stated_kind before m.name after m.kind) (length m.title == 0) h in
    let middle = and_parts (is_name_text m.name && not (has_member before m.name)) (is_stated_kind before m.name after m.kind) outer.0 in
    let inner = and_parts (is_name_text m.name) (not (has_member before m.name)) middle.0 in
    record { named = inner.0; new = not-true (has_member before m.name) inner.1; kind = middle.1; title = nothing_left m.title outer.1 }

pub members_back : (before ms : List Member) → Known before → are_stated_members before ms ≡ true → AllBack 125 member_at member_text IsEnd (map as_read before) (map as_read ms)
members_back before [] known h = tt
members_back before (m ∷ ms) known h =
    let parts = and_parts (is_stated_member before m ms) (are_stated_members (before ++ m ∷ []) ms) h in
    let s = stated_parts before m ms parts.0 in
    let more = members_back (before ++ m ∷ []) ms (known_more before m ms known s.named s.kind) parts.1 in
    let split : map as_read (before ++ m ∷ []) ≡ map as_read before ++ as_read m ∷ [] = map-append as_read before (m ∷ []) in
    let P : List Member → Type 0 = λ front. AllBack 125 member_at member_text IsEnd front (map as_read ms) in
    (member_back (map as_read before) m.name (as_read_kind m.kind) s.named (same_members before m.name ∙ s.new) (readable_kind before m.kind m.name ms known s.kind), subst P split more)

-- ---- those that count are counters again

kind_again : (before : List Member) (k : Kind) (name : List ℕ) (after : List Member) (counted : Bool) → counted ≡ (is_counted_by before name || (counts_by k name || is_counted_by after name)) → is_counted_by before name ≡ false → is_stated_kind before name after k ≡ true
    → (if is_i32 (as_read_kind k) && counted then Counter else as_read_kind k) ≡ k
kind_again before (Plain of) name after counted e none h = rw (e, none, not-true (is_i32_of of && is_counted_by after name) h) refl
kind_again before Counter name after counted e none h = rw (e, none, h) refl
kind_again before (Fixed of count) name after counted e none h = refl
kind_again before (Counted of counter) name after counted e none h = refl
kind_again before Text name after counted e none h = refl
kind_again before (Inline class) name after counted e none h = refl
kind_again before (Pointer class) name after counted e none h = refl
kind_again before (Other code) name after counted e none h = refl

all_again : (before ms all : List Member) → Known before → are_stated_members before ms ≡ true → before ++ ms ≡ all → map (counting (map as_read all)) (map as_read ms) ≡ ms
all_again before [] all known h e = refl
all_again before (m ∷ ms) all known h e =
    let parts = and_parts (is_stated_member before m ms) (are_stated_members (before ++ m ∷ []) ms) h in
    let s = stated_parts before m ms parts.0 in
    let counted : is_counted_by (map as_read all) m.name ≡ (is_counted_by before m.name || (counts_by m.kind m.name || is_counted_by ms m.name)) =
    same_counted all m.name ∙ ap (λ (l : List Member). is_counted_by l m.name) (sym e) ∙ list_any-append (λ (c : Member). counts_by c.kind m.name) before (m ∷ ms) in
    let none : is_counted_by before m.name ≡ false = false_from_ne_true (is_counted_by before m.name) (λ t. let clash : true ≡ false = sym (known.counted m.name t) ∙ s.new in cc) in
    let kinds = kind_again before m.kind m.name ms (is_counted_by (map as_read all) m.name) counted none s.kind in
    let one : counting (map as_read all) (as_read m) ≡ m =
    ap (λ (k : Kind). let c : Member = record { name = m.name; kind = k; title = [] } in c) kinds ∙ ap (λ (t : List ℕ). let c : Member = record { name = m.name; kind = m.kind; title = t } in c) (sym s.title) in
    let others = all_again (before ++ m ∷ []) ms all (known_more before m ms known s.named s.kind) parts.1 (append_assoc before (m ∷ []) ms ∙ e) in
    ap (λ (c : Member). c ∷ map (counting (map as_read all)) (map as_read ms)) one ∙ ap (λ (l : List Member). m ∷ l) others

pub counters_again : (ms : List Member) → are_stated_members [] ms ≡ true → with_counters (map as_read ms) ≡ ms
unfolding with_counters
counters_again ms h = all_again [] ms ms known_none h refl

-- ---- bases

pub bases_back : (before bs : List Base) → are_stated_bases before bs ≡ true → AllBack 123 base_at base_text IsEnd (map (λ b. base b.name) before) (map (λ b. base b.name) bs)
bases_back before [] h = tt
bases_back before (b ∷ bs) h =
    let plain : Base → Base = λ c. base c.name in
    let parts = and_parts (is_stated_base before b) (are_stated_bases (before ++ b ∷ []) bs) h in
    let inner = and_parts (is_name_text b.name) (not (has_base_named before b.name)) parts.0 in
    let more = bases_back (before ++ b ∷ []) bs parts.1 in
    let split : map plain (before ++ b ∷ []) ≡ map plain before ++ base b.name ∷ [] = map-append plain before (b ∷ []) in
    let P : List Base → Type 0 = λ front. AllBack 123 base_at base_text IsEnd front (map plain bs) in
    (base_back (map plain before) b.name inner.0 (same_bases before b.name ∙ not-true (has_base_named before b.name) inner.1), subst P split more)
