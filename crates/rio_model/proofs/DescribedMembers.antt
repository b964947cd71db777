-- The elements of members are read as these members.
use Rattle.std.proofs.Common.{◌≡◌, inl, inr, ◌∙◌, ℕ, ◌+◌, pos, List, [], ◌∷◌, ◌++◌, codes, map, Bool, true, false, ◌&&◌, ◌||◌, not, leb, Option, Some, None, refl, sym, ap, arith, if◌then◌else◌}
use Rattle.std.proofs.{lemmas.Bool.{and_parts, or_cases, or_left, or_right, Decides.{nat_tests}}, lemmas.List.Folds.{list_any-append}}
use Rattle.std.specs.{List.{list_any}, Ordering.{int_eq}, Str.{bytes_eq}}
use Rattle.rio_num.specs.Word.{is_name_text}
use Rattle.rio_num.proofs.BytesEq.{bytes_eq-sym}
use Rattle.rio_format.specs.{declared.class.ClassDef.{ClassDef}, declared.class.Member.{Member}, declared.kind.Kind.{Kind, TheVariants.{Plain, Counter, Fixed, Counted, Text, Inline, Pointer, Other}}}
use Rattle.rio_format.specs.{declared.kind.Primitive.{Primitive, TheVariants.{I8, I16, I32, I64, U8, U16, U32, U64, Bool as Boolean, F32, F64}}, Members.{is_counter}, Descriptions.{is_element}}
use Rattle.rio_format.specs.{Elements.{Element, base_of_element, bases_of, counters_behind, element_of, kind_of, member_of, members_of}, Fits.{fits_signed}}
use Rattle.rio_format.specs.WrittenElements.{counted_element, fixed_element, inline_element, kind_element, member_element, plain_element, pointer_element, primitive_code, reaches_object, WrittenElement as Written}
use Rattle.rio_format.specs.WrittenList.{element_object, pointers_from}
use Rattle.rio_model.specs.{Stated.{are_stated_members, has_counter, is_none, is_stated_kind, is_stated_member}, ClassGrammar.{primitive_of}}
use Rattle.rio_model.proofs.DescribedElements.{element_said, said}
use Rattle.rio_model.proofs.DescribedKinds.{counted_kind_back, counter_kind, fixed_kind_back, inline_kind, plain_kind, pointer_kind, text_kind}
use Rattle.rio_model.proofs.ReadClasses.{stated_parts}

-- ---- one element

abbrev pub with_counter : Bool → List ℕ → List (List ℕ) → List (List ℕ)
with_counter counts name counters = if counts then name ∷ counters else counters

-- the element is read as a member of the kind, behind these counters
pub record IsRead (counters : List (List ℕ)) (name : List ℕ) (kind : Kind) (e : Written) : Type 0 where
  pub known : is_element e.class e.version ≡ true
  pub code : fits_signed 32 e.code ≡ true
  pub count : fits_signed 32 (pos e.count) ≡ true
  pub named : e.name ≡ name
  pub no_base : base_of_element (said e) ≡ None
  pub kinds : kind_of counters (said e) ≡ kind
  pub behind : counters_behind (Some (said e)) counters ≡ with_counter (is_counter kind) name counters

-- by the codes of primitives
by_codes : (P : ℕ → Type 0) → P 1 → P 2 → P 3 → P 16 → P 11 → P 12 → P 13 → P 17 → P 18 → P 5 → P 8 → (of : Primitive) → P (primitive_code of)
by_codes P a b c d e f g h i j k I8 = a
by_codes P a b c d e f g h i j k I16 = b
by_codes P a b c d e f g h i j k I32 = c
by_codes P a b c d e f g h i j k I64 = d
by_codes P a b c d e f g h i j k U8 = e
by_codes P a b c d e f g h i j k U16 = f
by_codes P a b c d e f g h i j k U32 = g
by_codes P a b c d e f g h i j k U64 = h
by_codes P a b c d e f g h i j k Boolean = i
by_codes P a b c d e f g h i j k F32 = j
by_codes P a b c d e f g h i j k F64 = k

-- a code that fits, and is no counter's
abbrev IsOther : ℕ → Type 0
IsOther code = (fits_signed 32 (pos code) ≡ true) × (int_eq (pos code) (pos 6) ≡ false)

plain_other : (of : Primitive) → IsOther (primitive_code of)
plain_other = by_codes IsOther (refl, refl) (refl, refl) (refl, refl) (refl, refl) (refl, refl) (refl, refl) (refl, refl) (refl, refl) (refl, refl) (refl, refl) (refl, refl)

fixed_other : (of : Primitive) → IsOther (primitive_code of + 20)
fixed_other = by_codes (λ n. IsOther (n + 20)) (refl, refl) (refl, refl) (refl, refl) (refl, refl) (refl, refl) (refl, refl) (refl, refl) (refl, refl) (refl, refl) (refl, refl) (refl, refl)

counted_other : (of : Primitive) → IsOther (primitive_code of + 40)
counted_other = by_codes (λ n. IsOther (n + 40)) (refl, refl) (refl, refl) (refl, refl) (refl, refl) (refl, refl) (refl, refl) (refl, refl) (refl, refl) (refl, refl) (refl, refl) (refl, refl)

count_fits : (count : ℕ) → (leb 1 count && leb count 100000) ≡ true → fits_signed 32 (pos count) ≡ true
count_fits count h = let less = (and_parts (leb 1 count) (leb count 100000) h).1 in grind (arith, nat_tests)

inline_read : (counters : List (List ℕ)) (reaches : Bool) (name class : List ℕ) → is_name_text class ≡ true → IsRead counters name (Inline class) (inline_element reaches name class)
inline_read counters true name class h = record { known = refl; code = refl; count = refl; named = refl; no_base = refl; kinds = inline_kind counters true name class h; behind = refl }
inline_read counters false name class h = record { known = refl; code = refl; count = refl; named = refl; no_base = refl; kinds = inline_kind counters false name class h; behind = refl }

pointer_read : (counters : List (List ℕ)) (reaches : Bool) (name class : List ℕ) → IsRead counters name (Pointer class) (pointer_element reaches name class)
pointer_read counters true name class = record { known = refl; code = refl; count = refl; named = refl; no_base = refl; kinds = pointer_kind counters true name class; behind = refl }
pointer_read counters false name class = record { known = refl; code = refl; count = refl; named = refl; no_base = refl; kinds = pointer_kind counters false name class; behind = refl }

plain_read : (counters : List (List ℕ)) (name : List ℕ) (of : Primitive) → IsRead counters name (Plain of) (plain_element name of)
plain_read counters name of = record { known = refl; code = (plain_other of).0; count = refl; named = refl; no_base = refl; kinds = plain_kind counters name of; behind = rw ((plain_other of).1) refl }

fixed_read : (counters : List (List ℕ)) (name : List ℕ) (of : Primitive) (count : ℕ) → fits_signed 32 (pos count) ≡ true → IsRead counters name (Fixed of count) (fixed_element name of count)
fixed_read counters name of count h = record { known = refl; code = (fixed_other of).0; count = h; named = refl; no_base = refl; kinds = fixed_kind_back counters name of count; behind = rw ((fixed_other of).1) refl }

counted_read : (counters : List (List ℕ)) (owner : ClassDef) (name : List ℕ) (of : Primitive) (counter : List ℕ) → list_any (bytes_eq counter) counters ≡ true → IsRead counters name (Counted of counter) (counted_element owner name of counter)
counted_read counters owner name of counter h = record { known = refl; code = (counted_other of).0; count = refl; named = refl; no_base = refl; kinds = counted_kind_back counters owner name of counter h; behind = rw ((counted_other of).1) refl }

-- the counters are those among the members before
abbrev pub Counts : List Member → List (List ℕ) → Type 0
Counts before counters = (name : List ℕ) → has_counter before name ≡ true → list_any (bytes_eq name) counters ≡ true

class_word : (class : List ℕ) → (is_name_text class && is_none (primitive_of class) && not (bytes_eq class (codes "text"))) ≡ true → is_name_text class ≡ true
class_word class h = (and_parts (is_name_text class) (is_none (primitive_of class)) (and_parts (is_name_text class && is_none (primitive_of class)) (not (bytes_eq class (codes "text"))) h).0).0

kind_read : (context : List ClassDef) (owner : ClassDef) (before after : List Member) (counters : List (List ℕ)) (name : List ℕ) (kind : Kind) → Counts before counters → is_stated_kind before name after kind ≡ true → IsRead counters name kind (kind_element context owner name kind)
kind_read context owner before after counters name (Plain of) counts h = plain_read counters name of
kind_read context owner before after counters name Counter counts h = record { known = refl; code = refl; count = refl; named = refl; no_base = refl; kinds = counter_kind counters name; behind = refl }
kind_read context owner before after counters name (Fixed of count) counts h = fixed_read counters name of count (count_fits count h)
kind_read context owner before after counters name (Counted of counter) counts h = counted_read counters owner name of counter (counts counter h)
kind_read context owner before after counters name Text counts h = record { known = refl; code = refl; count = refl; named = refl; no_base = refl; kinds = text_kind counters name; behind = refl }
kind_read context owner before after counters name (Inline class) counts h = inline_read counters (reaches_object context class) name class (class_word class h)
kind_read context owner before after counters name (Pointer class) counts h = pointer_read counters (reaches_object context class) name class
kind_read context owner before after counters name (Other code) counts h = absurd (cc)

-- ---- the counters so far

or_none : (a : Bool) → (a || false) ≡ true → a ≡ true
or_none true h = refl
or_none false h = h

still_counts : (counts : Bool) (name new : List ℕ) (counters : List (List ℕ)) → list_any (bytes_eq name) counters ≡ true → list_any (bytes_eq name) (with_counter counts new counters) ≡ true
still_counts true name new counters h = or_right (bytes_eq name new) (list_any (bytes_eq name) counters) h
still_counts false name new counters h = h

newly_counts : (counts : Bool) (name new : List ℕ) (counters : List (List ℕ)) → (bytes_eq new name && counts) ≡ true → list_any (bytes_eq name) (with_counter counts new counters) ≡ true
newly_counts true name new counters h =
    or_left (bytes_eq name new) (list_any (bytes_eq name) counters) (bytes_eq-sym name new ∙ (and_parts (bytes_eq new name) true h).0)
newly_counts false name new counters h = absurd (let bad = (and_parts (bytes_eq new name) false h).1 in cc)

counts_more : (before : List Member) (m : Member) (counters : List (List ℕ)) → Counts before counters → Counts (before ++ m ∷ []) (with_counter (is_counter m.kind) m.name counters)
counts_more before m counters counts name h =
    let test : Member → Bool = λ c. bytes_eq c.name name && is_counter c.kind in
    let split : (has_counter before name || (test m || false)) ≡ true = sym (list_any-append test before (m ∷ [])) ∙ h in
    elim (or_cases (has_counter before name) (test m || false) split) [
      | inl there ↦ still_counts (is_counter m.kind) name m.name counters (counts name there)
      | inr here ↦ newly_counts (is_counter m.kind) name m.name counters (or_none (test m) here)
    ]

-- ---- all members

-- what the elements of members say
abbrev pub members_said : List ClassDef → ClassDef → List Member → List (Option Element)
members_said context owner ms = map (λ m. Some (said (member_element context owner m))) ms

pub member_passes : (counters : List (List ℕ)) (e : Element) (es : List (Option Element)) → base_of_element e ≡ None → members_of counters (Some e ∷ es) ≡ member_of counters (Some e) ∷ members_of (counters_behind (Some e) counters) es
unfolding members_of
member_passes counters e es h = rw h refl

member_again : (counters : List (List ℕ)) (m : Member) (e : Written) → IsRead counters m.name m.kind e → m.title ≡ [] → member_of counters (Some (said e)) ≡ m
member_again counters m e is untitled = λ i. record { name = is.named i; kind = is.kinds i; title = sym untitled i }

module _ (context : List ClassDef) (owner : ClassDef) where
  read_of : (before : List Member) (m : Member) (after : List Member) (counters : List (List ℕ)) → Counts before counters → is_stated_member before m after ≡ true → IsRead counters m.name m.kind (member_element context owner m)
  read_of before m after counters counts h = kind_read context owner before after counters m.name m.kind counts (stated_parts before m after h).kind

  pub members_read : (before ms : List Member) (counters : List (List ℕ)) → Counts before counters → are_stated_members before ms ≡ true → members_of counters (members_said context owner ms) ≡ ms
  unfolding members_of
  members_read before [] counters counts h = refl
  members_read before (m ∷ ms) counters counts h =
      let parts = and_parts (is_stated_member before m ms) (are_stated_members (before ++ m ∷ []) ms) h in
      let is = read_of before m ms counters counts parts.0 in
      let e = said (member_element context owner m) in
      let next = with_counter (is_counter m.kind) m.name counters in
      let others = members_read (before ++ m ∷ []) ms next (counts_more before m counters counts) parts.1 in
      member_passes counters e (members_said context owner ms) is.no_base
      ∙ ap (λ (cs : List (List ℕ)). member_of counters (Some e) ∷ members_of cs (members_said context owner ms)) is.behind
      ∙ ap (λ (l : List Member). member_of counters (Some e) ∷ l) others
      ∙ ap (λ (c : Member). c ∷ ms) (member_again counters m (member_element context owner m) is (stated_parts before m ms parts.0).title)

  -- each pointer to a member's element says it
  pub members_are_said : (before ms : List Member) (counters : List (List ℕ)) (label : ℕ) → Counts before counters → are_stated_members before ms ≡ true → map element_of (pointers_from label (map (λ m. element_object (member_element context owner m)) ms)) ≡ members_said context owner ms
  unfolding pointers_from
  members_are_said before [] counters label counts h = refl
  members_are_said before (m ∷ ms) counters label counts h =
      let parts = and_parts (is_stated_member before m ms) (are_stated_members (before ++ m ∷ []) ms) h in
      let is = read_of before m ms counters counts parts.0 in
      let next = with_counter (is_counter m.kind) m.name counters in
      let others = members_are_said (before ++ m ∷ []) ms next (label + 1) (counts_more before m counters counts) parts.1 in
      ap (λ (o : Option Element). o ∷ map element_of (pointers_from (label + 1) (map (λ m. element_object (member_element context owner m)) ms))) (element_said label (member_element context owner m) is.known is.code is.count)
      ∙ ap (λ (l : List (Option Element)). Some (said (member_element context owner m)) ∷ l) others

  -- none of them says a base
  pub no_member_is_base : (before ms : List Member) (counters : List (List ℕ)) → Counts before counters → are_stated_members before ms ≡ true → bases_of (members_said context owner ms) ≡ []
  no_member_is_base before [] counters counts h = refl
  no_member_is_base before (m ∷ ms) counters counts h =
      let parts = and_parts (is_stated_member before m ms) (are_stated_members (before ++ m ∷ []) ms) h in
      let is = read_of before m ms counters counts parts.0 in
      let next = with_counter (is_counter m.kind) m.name counters in
      rw is.no_base (no_member_is_base (before ++ m ∷ []) ms next (counts_more before m counters counts) parts.1)
