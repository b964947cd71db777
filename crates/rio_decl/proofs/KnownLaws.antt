-- What is known by name of the members before a member, and of what counts, decides whether it can be declared.
use Rattle.std.proofs.Common.{◌≡◌, ℕ, ◌+◌, ◌<◌, List, [], ◌∷◌, ◌++◌, length, get_or, drop, Bool, true, false, ◌==◌, ◌&&◌, ◌||◌, not, refl, sym, ap, ◌∙◌, append_assoc}
use Rattle.std.proofs.{lemmas.Bool.{and_parts, false_from_ne_true, not-true}, lemmas.List.{drop_more, Folds.{list_any-append}}}
use Rattle.std.specs.List.{list_any}
use Rattle.rio_num.specs.Word.{is_among, is_name_text}
use Rattle.rio_num.proofs.Cases.{or_turned}
use Rattle.rio_format.specs.{declared.class.Member.{Member}, declared.kind.Kind.{Kind, TheVariants.{Plain, Counter, Fixed, Counted, Text, Inline, Pointer, Other}}}
use Rattle.rio_model.specs.ClassGrammar.{counts_by, has_member, is_counted_by, is_i32_of}
use Rattle.rio_model.specs.Stated.{are_stated_members, has_counter, is_stated_kind, is_stated_member}
use Rattle.rio_model.proofs.ReadClasses.{Known, known_more}
use Rattle.rio_decl.specs.Known.{KnowsCounters, KnowsPassed, is_known_kind, is_known_member}

same_tests : (a b k j t : Bool) → (b ≡ true → k ≡ j) → (a && b && k && t) ≡ (a && b && j && t)
same_tests a true k j t e = ap (λ (c : Bool). a && true && c && t) (e refl)
same_tests true false k j t e = refl
same_tests false false k j t e = refl

same_kind : (before : List Member) (name : List ℕ) (after : List Member) (k : Kind) (counters : List ℕ → Bool) (counts : Bool) → ((n : List ℕ) → counters n ≡ has_counter before n) → counts ≡ (counts_by k name || is_counted_by after name) → is_known_kind counters counts k ≡ is_stated_kind before name after k
same_kind before name after (Plain of) counters counts has e = ap (λ (b : Bool). not (is_i32_of of && b)) e
same_kind before name after Counter counters counts has e = e
same_kind before name after (Fixed of count) counters counts has e = refl
same_kind before name after (Counted of counter) counters counts has e = has counter
same_kind before name after Text counters counts has e = refl
same_kind before name after (Inline class) counters counts has e = refl
same_kind before name after (Pointer class) counters counts has e = refl
same_kind before name after (Other code) counters counts has e = refl

module _ (before : List Member) (m : Member) (after all : List Member) (parts : before ++ m ∷ after ≡ all) (known : Known before) (passed counters counting : List (List ℕ)) (knows : KnowsPassed before passed counters) (counts : KnowsCounters all counting) where
  counted_behind : not (has_member before m.name) ≡ true → is_among counting m.name ≡ (counts_by m.kind m.name || is_counted_by after m.name)
  counted_behind new =
      let none : is_counted_by before m.name ≡ false = false_from_ne_true (is_counted_by before m.name) (λ t. let clash : true ≡ false = sym (known.counted m.name t) ∙ not-true (has_member before m.name) new in cc) in
      counts m.name
      ∙ ap (λ (l : List Member). is_counted_by l m.name) (sym parts)
      ∙ list_any-append (λ (c : Member). counts_by c.kind m.name) before (m ∷ after)
      ∙ ap (λ (b : Bool). b || (counts_by m.kind m.name || is_counted_by after m.name)) none

  pub same_member : is_known_member (is_among passed) (is_among counters) (is_among counting) m ≡ is_stated_member before m after
  same_member =
      let kind = is_known_kind (is_among counters) (is_among counting m.name) m.kind in
      ap (λ (b : Bool). is_name_text m.name && not b && kind && (length m.title == 0)) (knows.all m.name)
      ∙ same_tests (is_name_text m.name) (not (has_member before m.name)) kind (is_stated_kind before m.name after m.kind) (length m.title == 0) (λ new. same_kind before m.name after m.kind (is_among counters) (is_among counting m.name) knows.count (counted_behind new))

module _ (before : List Member) (m : Member) (after : List Member) where
  pub known_stated : Known before → is_stated_member before m after ≡ true → Known (before ++ m ∷ [])
  known_stated known h =
      let outer = and_parts (is_name_text m.name && not (has_member before m.name) && is_stated_kind before m.name after m.kind) (length m.title == 0) h in
      let middle = and_parts (is_name_text m.name && not (has_member before m.name)) (is_stated_kind before m.name after m.kind) outer.0 in
      let inner = and_parts (is_name_text m.name) (not (has_member before m.name)) middle.0 in
      known_more before m after known inner.0 middle.1

-- ---- one member further

module _ (members : List Member) (k : ℕ) (m : Member) (lt : k < length members) (is : m ≡ get_or members k m) where
  pub member_split : drop k members ≡ m ∷ drop (k + 1) members
  member_split = drop_more members k m lt ∙ ap (λ (x : Member). x ∷ drop (k + 1) members) (sym is)

  pub parts_here : (before : List Member) → before ++ drop k members ≡ members → before ++ m ∷ drop (k + 1) members ≡ members
  parts_here before e = ap (λ (l : List Member). before ++ l) (sym member_split) ∙ e

  pub parts_more : (before : List Member) → before ++ drop k members ≡ members → (before ++ m ∷ []) ++ drop (k + 1) members ≡ members
  parts_more before e = append_assoc before (m ∷ []) (drop (k + 1) members) ∙ parts_here before e

  pub stated_more : (before : List Member) (total : Bool) → is_stated_member before m (drop (k + 1) members) ≡ true → are_stated_members before (drop k members) ≡ total → are_stated_members (before ++ m ∷ []) (drop (k + 1) members) ≡ total
  stated_more before total h so_far =
      ap (λ (b : Bool). b && are_stated_members (before ++ m ∷ []) (drop (k + 1) members)) (sym h) ∙ ap (are_stated_members before) (sym member_split) ∙ so_far

  pub not_stated : (before : List Member) (total : Bool) → is_stated_member before m (drop (k + 1) members) ≡ false → are_stated_members before (drop k members) ≡ total → false ≡ total
  not_stated before total h so_far =
      ap (λ (b : Bool). b && are_stated_members (before ++ m ∷ []) (drop (k + 1) members)) (sym h) ∙ ap (are_stated_members before) (sym member_split) ∙ so_far

-- ---- a test's answer of one item more

pub true_and : (a b : Bool) → b ≡ true → a ≡ (a && b)
true_and true b h = sym h
true_and false b h = refl

pub false_and : (a b : Bool) → b ≡ false → false ≡ (a && b)
false_and true b h = sym h
false_and false b h = refl

module _ {X : Type 0} (p : X → Bool) (xs more : List X) (x : X) where
  pub with_last : (b c : Bool) → more ≡ xs ++ x ∷ [] → b ≡ (p x || c) → c ≡ list_any p xs → b ≡ list_any p more
  with_last b c is told before =
      told ∙ ap (λ (d : Bool). p x || d) before ∙ or_turned (p x) (list_any p xs) ∙ sym (list_any-append p xs (x ∷ [])) ∙ ap (list_any p) (sym is)
