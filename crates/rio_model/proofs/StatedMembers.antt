-- Members that are read, with those that count as counters, and bases that are read can be declared.
use Rattle.std.proofs.Common.{◌≡◌, inl, inr, ℕ, List, [], ◌∷◌, ◌++◌, map, length, Bool, true, false, ◌==◌, ◌&&◌, ◌||◌, not, if◌then◌else◌, refl, sym, ◌∙◌, ap, subst, append_assoc}
use Rattle.std.proofs.{lemmas.Bool.{and_from, and_parts, false_from_ne_true, or_cases, or_left, or_right}, lemmas.List.{map-append, Folds.{list_any-append}}}
use Rattle.std.proofs.{lemmas.Slice.Eq.{bytes_eq-Decides}, Math.Bool.{or-false}}
use Rattle.std.specs.Str.{bytes_eq}
use Rattle.rio_num.specs.Word.{is_name_text}
use Rattle.rio_format.specs.{declared.class.Base.{Base}, declared.class.Member.{Member}, declared.kind.Kind.{Kind, TheVariants.{Plain, Counter, Fixed, Counted, Text, Inline, Pointer, Other}}}
use Rattle.rio_format.specs.declared.kind.Primitive.{Primitive}
use Rattle.rio_model.specs.ClassGrammar.{base, counting, counts_by, has_base_named, has_i32, has_member, is_counted_by, is_i32, is_i32_of, with_counters}
use Rattle.rio_model.specs.Stated.{are_stated_bases, are_stated_members, has_counter, is_stated_base, is_stated_kind, is_stated_member}
use Rattle.rio_model.proofs.{StatedKinds.{is_raw_kind}, StatedParts.{AllKeep, RawBase, RawMember}}

-- ---- tests

-- ---- what counts among the members that are read

raw_counts : (before : List Member) (k : Kind) (name : List ℕ) → is_raw_kind before k ≡ true → counts_by k name ≡ true → has_i32 before name ≡ true
raw_counts before (Plain of) name r h = absurd (cc)
raw_counts before Counter name r h = absurd (cc)
raw_counts before (Fixed of count) name r h = absurd (cc)
raw_counts before (Counted of counter) name r h = subst (λ (n : List ℕ). has_i32 before n ≡ true) ((bytes_eq-Decides counter name).0 h) r
raw_counts before Text name r h = absurd (cc)
raw_counts before (Inline class) name r h = absurd (cc)
raw_counts before (Pointer class) name r h = absurd (cc)
raw_counts before (Other code) name r h = absurd (cc)

i32_is_member : (ms : List Member) (name : List ℕ) → has_i32 ms name ≡ true → has_member ms name ≡ true
i32_is_member [] name h = absurd (cc)
i32_is_member (m ∷ ms) name h =
    elim (or_cases (bytes_eq m.name name && is_i32 m.kind) (has_i32 ms name) h) [
      | inl here ↦ or_left (bytes_eq m.name name) (has_member ms name) (and_parts (bytes_eq m.name name) (is_i32 m.kind) here).0
      | inr there ↦ or_right (bytes_eq m.name name) (has_member ms name) (i32_is_member ms name there)
    ]

-- what counts some of the members is one of them
abbrev CountersStand : List Member → Type 0
CountersStand before = (name : List ℕ) → is_counted_by before name ≡ true → has_member before name ≡ true

counters_stand_more : (before : List Member) (m : Member) → CountersStand before → is_raw_kind before m.kind ≡ true → CountersStand (before ++ m ∷ [])
counters_stand_more before m stand raw name h =
    let split : (is_counted_by before name || (counts_by m.kind name || false)) ≡ true = sym (list_any-append (λ (c : Member). counts_by c.kind name) before (m ∷ [])) ∙ h in
    let member : has_member before name ≡ true = elim (or_cases (is_counted_by before name) (counts_by m.kind name || false) split) [
      | inl there ↦ stand name there
      | inr here ↦ i32_is_member before name (raw_counts before m.kind name raw (sym (or-false (counts_by m.kind name)) ∙ here))
    ] in
    list_any-append (λ (c : Member). bytes_eq c.name name) before (m ∷ []) ∙ or_left (has_member before name) (bytes_eq m.name name || false) member

-- ---- members among all, with those that count as counters

plain_counts : (of : Primitive) (name : List ℕ) (b : Bool) → counts_by (if b then Counter else Plain of) name ≡ false
plain_counts of name true = refl
plain_counts of name false = refl

same_counts : (k : Kind) (name : List ℕ) (counted : Bool) → counts_by (if is_i32 k && counted then Counter else k) name ≡ counts_by k name
same_counts (Plain of) name counted = plain_counts of name (is_i32_of of && counted)
same_counts Counter name counted = refl
same_counts (Fixed of count) name counted = refl
same_counts (Counted of counter) name counted = refl
same_counts Text name counted = refl
same_counts (Inline class) name counted = refl
same_counts (Pointer class) name counted = refl
same_counts (Other code) name counted = refl

plain_stated : (before : List Member) (name : List ℕ) (after : List Member) (of : Primitive) (b : Bool) → b ≡ (is_i32_of of && is_counted_by after name) → is_stated_kind before name after (if b then Counter else Plain of) ≡ true
plain_stated before name after of true e = (and_parts (is_i32_of of) (is_counted_by after name) (sym e)).1
plain_stated before name after of false e = ap not (sym e)

module _ (all : List Member) where
  same_members : (ms : List Member) (name : List ℕ) → has_member (map (counting all) ms) name ≡ has_member ms name
  same_members [] name = refl
  same_members (m ∷ ms) name = ap (λ (b : Bool). bytes_eq m.name name || b) (same_members ms name)

  same_counted : (ms : List Member) (name : List ℕ) → is_counted_by (map (counting all) ms) name ≡ is_counted_by ms name
  same_counted [] name = refl
  same_counted (m ∷ ms) name =
      ap (λ (b : Bool). b || is_counted_by (map (counting all) ms) name) (same_counts m.kind name (is_counted_by all m.name))
      ∙ ap (λ (b : Bool). counts_by m.kind name || b) (same_counted ms name)

  is_counter_now : (m : Member) (ms : List Member) (name : List ℕ) → bytes_eq m.name name ≡ true → is_i32 m.kind ≡ true → is_counted_by all name ≡ true → has_counter (counting all m ∷ ms) name ≡ true
  is_counter_now m ms name named i32 counted =
      let counts : is_counted_by all m.name ≡ true = ap (is_counted_by all) ((bytes_eq-Decides m.name name).0 named) ∙ counted in
      rw (named, i32, counts) refl

  counter_stands : (ms : List Member) (name : List ℕ) → is_counted_by all name ≡ true → has_i32 ms name ≡ true → has_counter (map (counting all) ms) name ≡ true
  counter_stands [] name counted h = absurd (cc)
  counter_stands (m ∷ ms) name counted h =
      elim (or_cases (bytes_eq m.name name && is_i32 m.kind) (has_i32 ms name) h) [
        | inl here ↦ let parts = and_parts (bytes_eq m.name name) (is_i32 m.kind) here in is_counter_now m (map (counting all) ms) name parts.0 parts.1 counted
        | inr there ↦ or_right _ (has_counter (map (counting all) ms) name) (counter_stands ms name counted there)
      ]

  module _ (before after : List Member) (name : List ℕ) where
    kind_stated : (k : Kind) → is_raw_kind before k ≡ true → is_counted_by all name ≡ (counts_by k name || is_counted_by after name) → ((counter : List ℕ) → counts_by k counter ≡ true → is_counted_by all counter ≡ true)
        → is_stated_kind (map (counting all) before) name (map (counting all) after) (if is_i32 k && is_counted_by all name then Counter else k) ≡ true
    kind_stated (Plain of) raw e counts = plain_stated (map (counting all) before) name (map (counting all) after) of (is_i32_of of && is_counted_by all name) (ap (λ (b : Bool). is_i32_of of && b) (e ∙ sym (same_counted after name)))
    kind_stated Counter raw e counts = absurd (cc)
    kind_stated (Fixed of count) raw e counts = raw
    kind_stated (Counted of counter) raw e counts = counter_stands before counter (counts counter ((bytes_eq-Decides counter counter).1 refl)) raw
    kind_stated Text raw e counts = refl
    kind_stated (Inline class) raw e counts = raw
    kind_stated (Pointer class) raw e counts = raw
    kind_stated (Other code) raw e counts = absurd (cc)

  module _ (before : List Member) (m : Member) (after : List Member) (stand : CountersStand before) (raw : RawMember before m) (parts : before ++ m ∷ after ≡ all) where
    counted_parts : (name : List ℕ) → is_counted_by all name ≡ (is_counted_by before name || (counts_by m.kind name || is_counted_by after name))
    counted_parts name = ap (λ (l : List Member). is_counted_by l name) (sym parts) ∙ list_any-append (λ (c : Member). counts_by c.kind name) before (m ∷ after)

    not_counted_before : is_counted_by before m.name ≡ false
    not_counted_before = false_from_ne_true (is_counted_by before m.name) (λ t. let clash : true ≡ false = sym (stand m.name t) ∙ raw.new in cc)

    counts_all : (counter : List ℕ) → counts_by m.kind counter ≡ true → is_counted_by all counter ≡ true
    counts_all counter h = counted_parts counter ∙ or_right (is_counted_by before counter) (counts_by m.kind counter || is_counted_by after counter) (or_left (counts_by m.kind counter) (is_counted_by after counter) h)

    member_stated : is_stated_member (map (counting all) before) (counting all m) (map (counting all) after) ≡ true
    member_stated =
        let counted : is_counted_by all m.name ≡ (counts_by m.kind m.name || is_counted_by after m.name) = counted_parts m.name ∙ ap (λ (b : Bool). b || (counts_by m.kind m.name || is_counted_by after m.name)) not_counted_before in
        let kind = kind_stated before after m.name m.kind raw.raw counted counts_all in
        let new : not (has_member (map (counting all) before) m.name) ≡ true = ap not (same_members before m.name ∙ raw.new) in
        let title : (length m.title == 0) ≡ true = ap (λ (t : List ℕ). length t == 0) raw.untitled in
        and_from _ (length m.title == 0) (and_from _ _ (and_from (is_name_text m.name) (not (has_member (map (counting all) before) m.name)) raw.named new) kind) title

  all_stated : (before ms : List Member) → CountersStand before → AllKeep RawMember before ms → before ++ ms ≡ all → are_stated_members (map (counting all) before) (map (counting all) ms) ≡ true
  all_stated before [] stand raw e = refl
  all_stated before (m ∷ ms) stand raw e =
      let more = all_stated (before ++ m ∷ []) ms (counters_stand_more before m stand raw.0.raw) raw.1 (append_assoc before (m ∷ []) ms ∙ e) in
      let split : map (counting all) (before ++ m ∷ []) ≡ map (counting all) before ++ counting all m ∷ [] = map-append (counting all) before (m ∷ []) in
      and_from (is_stated_member (map (counting all) before) (counting all m) (map (counting all) ms)) (are_stated_members (map (counting all) before ++ counting all m ∷ []) (map (counting all) ms)) (member_stated before m ms stand raw.0 e) (subst (λ (front : List Member). are_stated_members front (map (counting all) ms) ≡ true) split more)

pub members_stated : (ms : List Member) → AllKeep RawMember [] ms → are_stated_members [] (with_counters ms) ≡ true
unfolding with_counters
members_stated ms raw = all_stated ms [] ms (λ name h. absurd (cc)) raw refl

-- ---- bases

pub bases_stated : (before bs : List Base) → AllKeep RawBase before bs → are_stated_bases before bs ≡ true
bases_stated before [] raw = refl
bases_stated before (b ∷ bs) raw =
    and_from (is_stated_base before b) (are_stated_bases (before ++ b ∷ []) bs) (and_from (is_name_text b.name) (not (has_base_named before b.name)) raw.0.named (ap not raw.0.new)) (bases_stated (before ++ b ∷ []) bs raw.1)

pub bases_plain : (before bs : List Base) → AllKeep RawBase before bs → map (λ b. base b.name) bs ≡ bs
bases_plain before [] raw = refl
bases_plain before (b ∷ bs) raw =
    ap (λ (c : Base). c ∷ map (λ b. base b.name) bs) raw.0.plain ∙ ap (λ (l : List Base). b ∷ l) (bases_plain (before ++ b ∷ []) bs raw.1)
