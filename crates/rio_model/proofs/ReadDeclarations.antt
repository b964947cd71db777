-- The declaration of a class is read as the class: the whole line.
use Rattle.std.proofs.Common.{◌≡◌, ℕ, ◌+◌, ◌≤◌, min, ℤ, pos, negsuc, int_le, List, [], ◌∷◌, ◌++◌, codes, map, length, true, false, ◌==◌, ◌&&◌, Ok, refl, sym, ◌∙◌, ap, arith, append_assoc, length-append}
use Rattle.std.proofs.lemmas.Bool.{and_parts, eqb-true}
use Rattle.std.specs.{Fmt.{decimal}, List.{flat_map}, Str.{bytes_eq}}
use Rattle.rio_num.specs.{At.{At}, Word.{is_name_text}}
use Rattle.rio_format.specs.{declared.class.Base.{Base}, declared.class.ClassDef.{ClassDef}, declared.class.Member.{Member}}
use Rattle.rio_token.specs.{Tokens.{behind, scan_of}, Reading.{end_at, list_at, mark_at, marked, name_at, some_at, version_at}}
use Rattle.rio_token.proofs.{DecimalLaws.{nums_are_read}, SeparatedLaws.{list_back, some_back}}
use Rattle.rio_token.proofs.StandLaws.{IsWord, Stops, at, blank_alike, drop_front, name_is_word, num_between_back, word_that_back}
use Rattle.rio_model.specs.ClassGrammar.{base, base_at, bases_at, checksum_of, class_at, class_of, member_at, only_class}
use Rattle.rio_model.specs.{ClassText.{base_text, bases_text, member_text, members_text, text_of_class}, Lists.{separated}}
use Rattle.rio_model.specs.Stated.{ClassesAreRead, are_stated_bases, are_stated_members, has_stated_parts, is_class_version, is_stated_class, with_plain_bases}
use Rattle.rio_model.proofs.ReadAlike.{list_alike, num_between_alike, some_alike, word_that_alike}
use Rattle.rio_model.proofs.{ReadClasses.{as_read, bases_back, counters_again, known_none, members_back, same_kind_text}, ReadKinds.{IsEnd}}
use Rattle.rio_model.proofs.{ReadMembers.{base_behind_blank, base_ends, member_behind_blank, member_ends}, ReadLayers.{at_least, at_most}}
use Rattle.rio_model.proofs.ReadWords.{decimal_word, name_as_it_is}

-- ---- the members, behind the opening brace

abbrev members_tail : List Member → List ℕ
members_tail [] = 32 ∷ 125 ∷ []
members_tail (m ∷ ms) = 32 ∷ (separated member_text (m ∷ ms) ++ (32 ∷ 125 ∷ []))

members_begin : (ms : List Member) → members_text ms ≡ 123 ∷ members_tail ms
members_begin [] = refl
members_begin (m ∷ ms) = simp append_assoc

same_more : (ms : List Member) → flat_map (λ m. codes ", " ++ member_text m) (map as_read ms) ≡ flat_map (λ m. codes ", " ++ member_text m) ms
same_more [] = refl
same_more (m ∷ ms) = rw (same_kind_text m.kind, same_more ms) refl

pub same_texts : (ms : List Member) → separated member_text (map as_read ms) ≡ separated member_text ms
same_texts [] = refl
same_texts (m ∷ ms) = rw (same_kind_text m.kind, same_more ms) refl

members_list : (ms : List Member) (p q : ℕ) → are_stated_members [] ms ≡ true → q ≡ p + length (members_tail ms) → list_at 125 member_at (at p (members_tail ms)) ≡ Ok (map as_read ms, at q [])
members_list [] p q h e = list_back 125 member_at member_text IsEnd (32 ∷ 125 ∷ []) 2 [] (member_ends []) [] p q tt (let place : q ≡ p + 0 + 2 = omega (arith, e) in place)
members_list (m ∷ ms) p q h e =
    let texts = separated member_text (m ∷ ms) in
    let stop : List ℕ = 32 ∷ 125 ∷ [] in
    let same = same_texts (m ∷ ms) in
    let size : length (separated member_text (map as_read (m ∷ ms))) ≡ length texts = ap length same in
    let place : q ≡ p + 1 + length (separated member_text (map as_read (m ∷ ms))) + 2 = omega (arith, e, size, length-append texts stop) in
    let read = list_back 125 member_at member_text IsEnd stop 2 [] (member_ends []) (map as_read (m ∷ ms)) (p + 1) q (members_back [] (m ∷ ms) known_none h) place in
    list_alike (at p (32 ∷ (texts ++ stop))) (at (p + 1) (texts ++ stop)) (blank_alike p (texts ++ stop)) 125 member_at (member_behind_blank [] p (texts ++ stop))
    ∙ ap (λ (t : List ℕ). list_at 125 member_at (at (p + 1) (t ++ stop))) (sym same) ∙ read

-- ---- the bases, and the opening brace

abbrev plain : Base → Base
plain b = base b.name

same_more_bases : (bs : List Base) → flat_map (λ b. codes ", " ++ base_text b) (map plain bs) ≡ flat_map (λ b. codes ", " ++ base_text b) bs
same_more_bases [] = refl
same_more_bases (b ∷ bs) = rw (same_more_bases bs) refl

same_bases_text : (bs : List Base) → bases_text (map plain bs) ≡ bases_text bs
same_bases_text [] = refl
same_bases_text (b ∷ bs) = rw (same_more_bases bs) refl

no_colon : (p : ℕ) (xs : List ℕ) → marked 58 (at p (32 ∷ 123 ∷ xs)) ≡ false
unfolding scan_of
no_colon p xs = refl

brace_back : (p : ℕ) (xs : List ℕ) → mark_at 123 (at p (32 ∷ 123 ∷ xs)) ≡ Ok (tt, at (p + 2) xs)
unfolding mark_at scan_of
brace_back p xs = refl

colon_marked : (p : ℕ) (xs : List ℕ) → marked 58 (at p (32 ∷ 58 ∷ xs)) ≡ true
unfolding scan_of
colon_marked p xs = refl

behind_colon : (p : ℕ) (xs : List ℕ) → behind (at p (32 ∷ 58 ∷ xs)) ≡ at (p + 2) xs
unfolding scan_of
behind_colon p xs = refl

bases_list : (bs : List Base) (p q : ℕ) (xs : List ℕ) → are_stated_bases [] bs ≡ true → q ≡ p + length (bases_text bs) + 2 → bases_at (at p (bases_text bs ++ (32 ∷ 123 ∷ xs))) ≡ Ok (map plain bs, at q xs)
unfolding bases_at
bases_list [] p q xs h e =
    let place : p + 2 ≡ q = omega (arith, e) in
    rw (no_colon p xs, brace_back p xs, place) refl
bases_list (b ∷ bs) p q xs h e =
    let texts = separated base_text (b ∷ bs) in
    let stop : List ℕ = 32 ∷ 123 ∷ xs in
    let same : separated base_text (map plain (b ∷ bs)) ≡ texts = rw (same_more_bases bs) refl in
    let size : length (separated base_text (map plain (b ∷ bs))) ≡ length texts = ap length same in
    let place : q ≡ p + 2 + 1 + length (separated base_text (map plain (b ∷ bs))) + 2 = omega (arith, e, size) in
    let read = some_back 123 base_at base_text IsEnd stop 2 xs (base_ends xs) (plain b) (map plain bs) (p + 2 + 1) q (bases_back [] (b ∷ bs) h) place in
    let whole : some_at 123 base_at (at (p + 2) (32 ∷ (texts ++ stop))) ≡ Ok (map plain (b ∷ bs), at q xs) =
    some_alike (at (p + 2) (32 ∷ (texts ++ stop))) (at (p + 2 + 1) (texts ++ stop)) (blank_alike (p + 2) (texts ++ stop)) 123 base_at (base_behind_blank [] (p + 2) (texts ++ stop))
    ∙ ap (λ (t : List ℕ). some_at 123 base_at (at (p + 2 + 1) (t ++ stop))) (sym same) ∙ read in
    rw (colon_marked p (32 ∷ (texts ++ stop)), behind_colon p (32 ∷ (texts ++ stop)), whole) refl

bases_stop : (bs : List Base) (xs : List ℕ) → Stops (bases_text bs ++ (32 ∷ 123 ∷ xs))
bases_stop [] xs = refl
bases_stop (b ∷ bs) xs = refl

-- ---- the whole line

regroup : (a b c d e f g : List ℕ) → a ++ b ++ c ++ d ++ e ++ f ++ g ≡ a ++ (b ++ (c ++ (d ++ (e ++ (f ++ g)))))
regroup a b c d e f g = simp append_assoc

end_back : (p : ℕ) → end_at (at p []) ≡ Ok (tt, behind (at p []))
unfolding end_at scan_of
end_back p = refl

module _ (name : List ℕ) (v sum : ℕ) (bs : List Base) (ms : List Member) (named : is_name_text name ≡ true) (low : 1 ≤ v) (high : v ≤ 32767) (bases : are_stated_bases [] bs ≡ true) (members : are_stated_members [] ms ≡ true) where
  abbrev whole_class : ClassDef
  whole_class = record { name = name; version = pos v; sum = sum; bases = bs; members = ms }

  abbrev line : List ℕ
  line = codes "class" ++ (32 ∷ (name ++ (32 ∷ (decimal v ++ (bases_text bs ++ (32 ∷ 123 ∷ members_tail ms))))))

  is_line : text_of_class whole_class ≡ line
  unfolding text_of_class
  is_line =
      ap (λ (n : List ℕ). codes "class " ++ n ++ codes " " ++ decimal v ++ bases_text bs ++ codes " " ++ members_text ms) (name_as_it_is name named)
      ∙ ap (λ (m : List ℕ). codes "class " ++ name ++ codes " " ++ decimal v ++ bases_text bs ++ codes " " ++ m) (members_begin ms)
      ∙ regroup (codes "class ") name (codes " ") (decimal v) (bases_text bs) (codes " ") (123 ∷ members_tail ms)

  pub line_back : (p : ℕ) → (s : At) × (class_at (at p line) ≡ Ok (class_of name v (map plain bs) (map as_read ms), s))
  unfolding class_at
  line_back p =
      let behind_version = bases_text bs ++ (32 ∷ 123 ∷ members_tail ms) in
      let behind_name = decimal v ++ behind_version in
      let behind_word = name ++ (32 ∷ behind_name) in
      let name_end = p + 5 + 1 + length name in
      let number_end = name_end + 1 + length (decimal v) in
      let bases_end = number_end + length (bases_text bs) + 2 in
      let text_end = bases_end + length (members_tail ms) in
      let is_class : IsWord (codes "class") = record { first = 99; others = codes "lass"; parts = refl; all = refl } in
      let keyword = word_that_back p (p + 5) (codes "class") (32 ∷ behind_word) is_class refl refl (λ word. bytes_eq word (codes "class")) refl in
      let named_word : name_at (at (p + 5) (32 ∷ behind_word)) ≡ Ok (name, at name_end (32 ∷ behind_name)) =
      word_that_alike (at (p + 5) (32 ∷ behind_word)) (at (p + 5 + 1) behind_word) (blank_alike (p + 5) behind_word) is_name_text
      ∙ word_that_back (p + 5 + 1) name_end name (32 ∷ behind_name) (name_is_word name named) refl refl is_name_text named in
      let version : version_at (at name_end (32 ∷ behind_name)) ≡ Ok (v, at number_end behind_version) =
      num_between_alike (at name_end (32 ∷ behind_name)) (at (name_end + 1) behind_name) (blank_alike name_end behind_name) 1 32767
      ∙ num_between_back (name_end + 1) number_end (decimal v) behind_version (decimal_word v (omega arith)) (bases_stop bs (members_tail ms)) refl 1 32767 v (nums_are_read v (omega arith)) low high in
      let base_list = bases_list bs number_end bases_end (members_tail ms) bases refl in
      let member_list = members_list ms bases_end text_end members refl in
      (behind (at text_end []), rw (keyword, named_word, version, base_list, member_list, end_back text_end) refl)

  same_line : text_of_class (record { name = name; version = pos v; sum = 0; bases = map plain bs; members = ms }) ≡ text_of_class whole_class
  unfolding text_of_class
  same_line = rw (same_bases_text bs) refl

  same_sum : sum ≡ checksum_of whole_class → class_of name v (map plain bs) (map as_read ms) ≡ with_plain_bases whole_class
  unfolding checksum_of
  same_sum e = rw (counters_again ms members, same_line) (ap (λ (n : ℕ). let c : ClassDef = record { name = name; version = pos v; sum = n; bases = map plain bs; members = ms } in c) (sym e))

  pub class_back : sum ≡ checksum_of whole_class → (p : ℕ) → only_class (class_at (at p (text_of_class whole_class))) ≡ Ok (with_plain_bases whole_class)
  class_back e p =
      let read = line_back p in
      let here : class_at (at p (text_of_class whole_class)) ≡ Ok (class_of name v (map plain bs) (map as_read ms), read.0) = rw is_line read.1 in
      ap only_class here ∙ rw (same_sum e) refl

abbrev class_with : List ℕ → ℤ → ℕ → List Base → List Member → ClassDef
class_with name version sum bs ms = record { name = name; version = version; sum = sum; bases = bs; members = ms }

by_version : (name : List ℕ) (version : ℤ) (sum : ℕ) (bs : List Base) (ms : List Member) → is_name_text name ≡ true → is_class_version version ≡ true → are_stated_bases [] bs ≡ true → are_stated_members [] ms ≡ true
    → sum ≡ checksum_of (class_with name version sum bs ms) → (p : ℕ) → only_class (class_at (at p (text_of_class (class_with name version sum bs ms)))) ≡ Ok (with_plain_bases (class_with name version sum bs ms))
by_version name (negsuc n) sum bs ms named is bases members e p = absurd (cc)
by_version name (pos v) sum bs ms named is bases members e p =
    let bounds = and_parts (int_le (pos 1) (pos v)) (int_le (pos v) (pos 32767)) is in
    class_back name v sum bs ms named (at_least v bounds.0) (at_most v bounds.1) bases members e p

pub classes_are_read : ClassesAreRead
unfolding is_stated_class
classes_are_read front class h =
    let parts = and_parts (has_stated_parts class) (class.sum == checksum_of class) h in
    let text = text_of_class class in
    let short : min (length front) (length (front ++ text)) ≡ length front = omega (arith, length-append front text) in
    let outer = and_parts (is_name_text class.name && is_class_version class.version && are_stated_bases [] class.bases) (are_stated_members [] class.members) parts.0 in
    let middle = and_parts (is_name_text class.name && is_class_version class.version) (are_stated_bases [] class.bases) outer.0 in
    let inner = and_parts (is_name_text class.name) (is_class_version class.version) middle.0 in
    rw (short, drop_front front text) (by_version class.name class.version class.sum class.bases class.members inner.0 inner.1 middle.1 outer.1 (eqb-true class.sum (checksum_of class) parts.1) (length front))
