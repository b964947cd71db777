-- The class list that is written gets no shorter with one class more.
use Rattle.std.proofs.Common.{◌≡◌, ◌≤◌, ◌+◌, ℕ, Bool, true, false, ◌||◌, ◌⊎◌, inl, inr, codes, List, [], ◌∷◌, ◌++◌, length, drop, refl, sym, ap, subst, ◌∙◌, append_assoc, arith}
use Rattle.std.proofs.{lemmas.List.{append-nil, Folds.{list_any-append}}, Math.Bool.{or-true}}
use Rattle.std.specs.{Prelude.{if◌then◌else◌}, Str.{bytes_eq}}
use Rattle.rio_num.proofs.FreshNames.{is_one_of}
use Rattle.rio_format.specs.{declared.class.ClassDef.{ClassDef}, ReaderState.{WordsMet, no_words}}
use Rattle.rio_format.specs.TreeClasses.{array_member, branch_class, leaf_class, leaf_members, object_branch_class, object_branch_members, tree_class, tree_classes, tree_members, written_classes}
use Rattle.rio_format.specs.{WrittenBytes.{class_list_bytes, written_list}, WrittenElements.{inline_element, member_element, pointer_element, reaches_object}}
use Rattle.rio_model.specs.StateClasses.{AreAccepted, AreDeclared, HasShortList, LastLengthDecides, WrittenLengthsAreOne, WrittenListsGrow}
use Rattle.rio_info.proofs.ClassAmounts.{class_amount, class_names, least_amount, list_amount, list_names, list_takes, list_writer}
use Rattle.rio_info.proofs.NamedAmounts.{Amount, all_used, bytes_met, is_met, names_met, pointed_classes, total-append}

-- ---- the names that are met at most, and at least

at_most : (b : Bool) (n : ℕ) → (if b then n else 0) ≤ n
at_most true n = omega arith
at_most false n = omega arith

whole : (b : Bool) (n : ℕ) → b ≡ true → (if b then n else 0) ≡ n
whole true n e = refl
whole false n e = absurd cc

most_met : (met : List ℕ → Bool) (ks : List (List ℕ)) → bytes_met met ks ≤ bytes_met (λ k. true) ks
most_met met [] = omega arith
most_met met (k ∷ ks) =
    let here = at_most (met k) (length k + 1) in
    let rest = most_met met ks in
    omega (arith, here, rest)

-- one of the two names is met
abbrev EitherMet : (List ℕ → Bool) → List ℕ → List ℕ → Type 0
EitherMet met a b = (met a ≡ true) ⊎ (met b ≡ true)

either_bytes : (met : List ℕ → Bool) (a b : List ℕ) (n : ℕ) → n ≤ length a + 1 → n ≤ length b + 1 → EitherMet met a b → n ≤ (if met a then length a + 1 else 0) + (if met b then length b + 1 else 0)
either_bytes met a b n le other (inl e) =
    let here = whole (met a) (length a + 1) e in
    omega (arith, here, le)
either_bytes met a b n le other (inr e) =
    let here = whole (met b) (length b + 1) e in
    omega (arith, here, other)

record EnoughMet (met : List ℕ → Bool) : Type 0 where
  info : met (codes "TStreamerInfo") ≡ true
  array : met (codes "TObjArray") ≡ true
  base : met (codes "TStreamerBase") ≡ true
  number : met (codes "TStreamerBasicType") ≡ true
  text : met (codes "TStreamerString") ≡ true
  object : EitherMet met (codes "TStreamerObject") (codes "TStreamerObjectAny")
  pointer : EitherMet met (codes "TStreamerObjectPointer") (codes "TStreamerObjectAnyPointer")

none_met : names_met no_words ≡ 0
unfolding names_met
none_met = refl

least_met : (met : List ℕ → Bool) → EnoughMet met → 112 ≤ bytes_met met pointed_classes
least_met met h =
    let info = whole (met (codes "TStreamerInfo")) 14 h.info in
    let array = whole (met (codes "TObjArray")) 10 h.array in
    let base = whole (met (codes "TStreamerBase")) 14 h.base in
    let number = whole (met (codes "TStreamerBasicType")) 19 h.number in
    let text = whole (met (codes "TStreamerString")) 16 h.text in
    let object = either_bytes met (codes "TStreamerObject") (codes "TStreamerObjectAny") 16 (omega arith) (omega arith) h.object in
    let pointer = either_bytes met (codes "TStreamerObjectPointer") (codes "TStreamerObjectAnyPointer") 23 (omega arith) (omega arith) h.pointer in
    omega (arith, info, array, base, number, text, object, pointer)

names_most : (t : WordsMet) → names_met t ≤ 179
unfolding names_met
names_most t = most_met (is_met t) pointed_classes

names_least : (t : WordsMet) → EnoughMet (is_met t) → 112 ≤ names_met t
unfolding names_met
names_least t h = least_met (is_met t) h

same_bytes : (met more : List ℕ → Bool) → ((k : List ℕ) → met k ≡ more k) → (ks : List (List ℕ)) → bytes_met met ks ≡ bytes_met more ks
same_bytes met more same [] = refl
same_bytes met more same (k ∷ ks) =
    ap (λ (b : Bool). (if b then length k + 1 else 0) + bytes_met met ks) (same k) ∙ ap (λ (n : ℕ). (if more k then length k + 1 else 0) + n) (same_bytes met more same ks)

names_same : (t u : WordsMet) → ((k : List ℕ) → is_met t k ≡ is_met u k) → names_met t ≡ names_met u
unfolding names_met
names_same t u same = same_bytes (is_met t) (is_met u) same pointed_classes

-- the same is written from two places on
equally_long : (n : ℕ) (used : List (List ℕ)) (p q : ℕ) (a b : List ℕ × WordsMet) → Amount n used p no_words a → Amount n used q no_words b → length a.0 ≡ length b.0
equally_long n used p q a b first second =
    let names = names_same a.1 b.1 (λ k. first.met k ∙ sym (second.met k)) in
    let one = first.bytes in
    let other = second.bytes in
    omega (arith, names, one, other)

-- what is written, where nothing was met before
module _ (n : ℕ) (used : List (List ℕ)) (start : ℕ) (a : List ℕ × WordsMet) (amount : Amount n used start no_words a) where
  at_longest : length a.0 ≤ n + 179
  at_longest =
      let bytes = amount.bytes in
      let most = names_most a.1 in
      let none = none_met in
      omega (arith, bytes, most, none)

  at_shortest : EnoughMet (is_met a.1) → n + 112 ≤ length a.0
  at_shortest enough =
      let bytes = amount.bytes in
      let least = names_least a.1 enough in
      let none = none_met in
      omega (arith, bytes, least, none)

-- ---- the names that the classes of trees use

module _ (classes : List ClassDef) where
  abbrev uses : List ClassDef → List ℕ → Bool
  uses cs = is_one_of (all_used (class_names classes) cs)

  first_uses : (class : List ℕ) (c : ClassDef) (more : List ClassDef) → is_one_of (class_names classes c) class ≡ true → uses (c ∷ more) class ≡ true
  first_uses class c more e =
      list_any-append (λ k. bytes_eq k class) (class_names classes c) (all_used (class_names classes) more) ∙ ap (λ (b : Bool). b || uses more class) e

  rest_uses : (class : List ℕ) (c : ClassDef) (more : List ClassDef) → uses more class ≡ true → uses (c ∷ more) class ≡ true
  rest_uses class c more e =
      list_any-append (λ k. bytes_eq k class) (class_names classes c) (all_used (class_names classes) more)
      ∙ ap (λ (b : Bool). is_one_of (class_names classes c) class || b) e ∙ or-true (is_one_of (class_names classes c) class)

  inline_used : (reaches : Bool) (name class : List ℕ) (more : List (List ℕ)) → EitherMet (is_one_of ((inline_element reaches name class).class ∷ more)) (codes "TStreamerObject") (codes "TStreamerObjectAny")
  inline_used true name class more = inl refl
  inline_used false name class more = inr refl

  pointer_used : (reaches : Bool) (name class : List ℕ) (more : List (List ℕ)) → EitherMet (is_one_of ((pointer_element reaches name class).class ∷ more)) (codes "TStreamerObjectPointer") (codes "TStreamerObjectAnyPointer")
  pointer_used true name class more = inl refl
  pointer_used false name class more = inr refl

  abbrev tree_names : List ℕ → Bool
  tree_names = is_one_of (class_names classes tree_class)

  tree_has_info : tree_names (codes "TStreamerInfo") ≡ true
  tree_has_info = refl

  tree_has_array : tree_names (codes "TObjArray") ≡ true
  tree_has_array = refl

  tree_has_base : tree_names (codes "TStreamerBase") ≡ true
  tree_has_base = refl

  tree_has_number : tree_names (codes "TStreamerBasicType") ≡ true
  unfolding tree_members
  tree_has_number = refl

  tree_has_object : EitherMet tree_names (codes "TStreamerObject") (codes "TStreamerObjectAny")
  unfolding tree_members
  tree_has_object =
      inline_used (reaches_object classes (codes "TObjArray")) (codes "fBranches") (codes "TObjArray") ((member_element classes tree_class (array_member (codes "fLeaves"))).class ∷ [])

  branch_has_text : is_one_of (class_names classes object_branch_class) (codes "TStreamerString") ≡ true
  unfolding object_branch_members
  branch_has_text = refl

  leaf_has_pointer : EitherMet (is_one_of (class_names classes leaf_class)) (codes "TStreamerObjectPointer") (codes "TStreamerObjectAnyPointer")
  unfolding leaf_members
  leaf_has_pointer = pointer_used (reaches_object classes (codes "TLeaf")) (codes "fLeafCount") (codes "TLeaf") []

  either_in : (met other : List ℕ → Bool) (a b : List ℕ) → (met a ≡ true → other a ≡ true) → (met b ≡ true → other b ≡ true) → EitherMet met a b → EitherMet other a b
  either_in met other a b f g (inl e) = inl (f e)
  either_in met other a b f g (inr e) = inr (g e)

  module _ (more : List ClassDef) where
    abbrev behind_branch : List ClassDef
    behind_branch = object_branch_class ∷ leaf_class ∷ more

    abbrev all_classes : List ClassDef
    all_classes = tree_class ∷ branch_class ∷ behind_branch

    in_tree : (class : List ℕ) → tree_names class ≡ true → uses all_classes class ≡ true
    in_tree class e = first_uses class tree_class (branch_class ∷ behind_branch) e

    in_third : (class : List ℕ) → uses behind_branch class ≡ true → uses all_classes class ≡ true
    in_third class e = rest_uses class tree_class (branch_class ∷ behind_branch) (rest_uses class branch_class behind_branch e)

    in_leaf : (class : List ℕ) → is_one_of (class_names classes leaf_class) class ≡ true → uses all_classes class ≡ true
    in_leaf class e = in_third class (rest_uses class object_branch_class (leaf_class ∷ more) (first_uses class leaf_class more e))

    enough_used : EnoughMet (uses all_classes)
    enough_used = record {
      info = in_tree (codes "TStreamerInfo") tree_has_info;
      array = in_tree (codes "TObjArray") tree_has_array;
      base = in_tree (codes "TStreamerBase") tree_has_base;
      number = in_tree (codes "TStreamerBasicType") tree_has_number;
      text = in_third (codes "TStreamerString") (first_uses (codes "TStreamerString") object_branch_class (leaf_class ∷ more) branch_has_text);
      object = either_in tree_names (uses all_classes) (codes "TStreamerObject") (codes "TStreamerObjectAny") (in_tree (codes "TStreamerObject")) (in_tree (codes "TStreamerObjectAny")) tree_has_object;
      pointer = either_in (is_one_of (class_names classes leaf_class)) (uses all_classes) (codes "TStreamerObjectPointer") (codes "TStreamerObjectAnyPointer") (in_leaf (codes "TStreamerObjectPointer"))
          (in_leaf (codes "TStreamerObjectAnyPointer")) leaf_has_pointer;
    }

-- ---- lengths

-- what is met is used, where nothing was met before
enough_met : (met used : List ℕ → Bool) → ((class : List ℕ) → met class ≡ (used class || false)) → EnoughMet used → EnoughMet met
enough_met met used same h = record {
  info = one (codes "TStreamerInfo") h.info;
  array = one (codes "TObjArray") h.array;
  base = one (codes "TStreamerBase") h.base;
  number = one (codes "TStreamerBasicType") h.number;
  text = one (codes "TStreamerString") h.text;
  object = two (codes "TStreamerObject") (codes "TStreamerObjectAny") h.object;
  pointer = two (codes "TStreamerObjectPointer") (codes "TStreamerObjectAnyPointer") h.pointer;
}
  where
    one : (class : List ℕ) → used class ≡ true → met class ≡ true
    one class e = same class ∙ ap (λ (b : Bool). b || false) e

    two : (a b : List ℕ) → EitherMet used a b → EitherMet met a b
    two a b (inl e) = inl (one a e)
    two a b (inr e) = inr (one b e)

-- the classes of trees stand in front
trees_first : (declared : List ClassDef) → (more : List ClassDef) × (written_classes declared ≡ tree_class ∷ branch_class ∷ object_branch_class ∷ leaf_class ∷ more)
unfolding tree_classes
trees_first declared = (drop 4 (written_classes declared), refl)

module _ (start : ℕ) where
  list_amounts : (classes : List ClassDef) → Amount (list_amount classes) (list_names classes) start no_words (list_writer classes start no_words)
  list_amounts classes = list_takes classes start no_words tt

  longest : (classes : List ClassDef) → length (class_list_bytes start classes) ≤ list_amount classes + 179
  longest classes = at_longest (list_amount classes) (list_names classes) start (list_writer classes start no_words) (list_amounts classes)

  names_are_met : (declared : List ClassDef) → EnoughMet (is_met (list_writer (written_classes declared) start no_words).1)
  names_are_met declared =
      let classes = written_classes declared in
      let trees = trees_first declared in
      let used = subst (λ (cs : List ClassDef). EnoughMet (uses classes cs)) (sym trees.1) (enough_used classes trees.0) in
      enough_met (is_met (list_writer classes start no_words).1) (is_one_of (list_names classes)) (list_amounts classes).met used

  shortest : (declared : List ClassDef) → list_amount (written_classes declared) + 112 ≤ length (class_list_bytes start (written_classes declared))
  shortest declared =
      let classes = written_classes declared in
      at_shortest (list_amount classes) (list_names classes) start (list_writer classes start no_words) (list_amounts classes) (names_are_met declared)

pub written_lists_grow : WrittenListsGrow
written_lists_grow start declared class =
    let before = longest start (written_classes declared) in
    let after = shortest start (declared ++ class ∷ []) in
    let own = least_amount class in
    let trees = total-append class_amount tree_classes declared in
    let all = total-append class_amount tree_classes (declared ++ class ∷ []) in
    let more = total-append class_amount declared (class ∷ []) in
    omega (arith, before, after, own, trees, all, more)

pub lengths_are_one : WrittenLengthsAreOne
lengths_are_one p q declared =
    let classes = written_classes declared in
    equally_long (list_amount classes) (list_names classes) p q (list_writer classes p no_words) (list_writer classes q no_words) (list_amounts p classes) (list_amounts q classes)

-- ---- the classes of a state

-- more classes behind it
lists_grow : (before after : List ClassDef) → length (written_list 0 before) ≤ length (written_list 0 (before ++ after))
lists_grow before [] =
    let same = ap (λ (cs : List ClassDef). length (written_list 0 cs)) (append-nil before) in
    omega (arith, same)
lists_grow before (c ∷ after) =
    let one = written_lists_grow 0 before c in
    let more = lists_grow (before ++ c ∷ []) after in
    let same = ap (λ (cs : List ClassDef). length (written_list 0 cs)) (append_assoc before (c ∷ []) after) in
    omega (arith, one, more, same)

are_accepted : (before after : List ClassDef) → AreDeclared before after → HasShortList (before ++ after) → AreAccepted before after
are_accepted before [] h short = tt
are_accepted before (c ∷ after) h short =
    let whole : HasShortList ((before ++ c ∷ []) ++ after) = subst HasShortList (sym (append_assoc before (c ∷ []) after)) short in
    let grown = lists_grow (before ++ c ∷ []) after in
    (h.0, omega (arith, grown, whole), are_accepted (before ++ c ∷ []) after h.1 whole)

pub last_length_decides : LastLengthDecides
last_length_decides classes h short = are_accepted [] classes h short
