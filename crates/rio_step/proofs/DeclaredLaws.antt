-- A class with its bases in the newest versions is judged like the class itself, and may be declared where that may.
use Rattle.std.proofs.Common.{if◌then◌else◌, append_assoc, ◌≡◌, ◌≤◌, ℕ, zero, suc, ◌+◌, List, [], ◌∷◌, ◌++◌, length, map, Bool, true, false, not, ◌||◌, ◌&&◌, ◌==◌, Option, Some, None, refl, sym, ap, subst, ◌∙◌, codes}
use Rattle.std.proofs.{lemmas.Bool.{ltb-false, not-false, not_from_false}, lemmas.List.{append-nil}}
use Rattle.std.specs.{Prelude.{nat_lt}, List.{fold, list_all, list_any, flat_map}, FinMap.{get, insert, remove}, Option.{option_map_or, option_or}}
use Rattle.std.specs.{Str.{bytes_eq}, Fmt.{signed_decimal}}
use Rattle.rio_format.specs.{WrittenBytes.{length_limit}, declared.class.Base.{Base}, declared.class.ClassDef.{ClassDef}}
use Rattle.rio_machine.specs.State.{State, Tree, names_tree}
use Rattle.rio_machine.specs.declared.command.Command.{Command, TheVariants.{Bad, Class, Put, Batch, Delete, Tree as MakeTree, Fill, Save, Get, Scan, Ls}}
use Rattle.rio_machine.specs.declared.refusal.Refusal.{Refusal, TheVariants.{BadName, NoSuchClass as Lacks, SameVersion as Same, HoldsItself as Holds, TooLarge as Large, TooMany as Many}}
use Rattle.rio_model.specs.{declared.declare.DeclareFault.TheVariants.{NoSuchClass, SameVersion, HoldsItself, TooMany}, ClassGrammar.{checksum_of, summed}}
use Rattle.rio_model.specs.ClassText.{bases_text, base_text, members_text, text_of_class}
use Rattle.rio_model.specs.Declaring.{any_inline, any_within, base_declared, declared, holds_itself, is_built_in_base, is_reserved_name, is_known, knows_all, knows_kind, reaches}
use Rattle.rio_model.specs.{Lists.{separated}, StateClasses.{AreAccepted, HasShortList, IsDeclared, StateClasses}}
use Rattle.rio_model.specs.Stated.{are_stated_bases, are_stated_members, has_stated_parts, is_class_version, is_stated_base, is_stated_class}
use Rattle.rio_step.proofs.{ApartLaws.{none_at, not_refused}, BatchLaws.{same_classes as batch_classes}}
use Rattle.rio_step.specs.Refusing.{FullMark, fill_row, has_bad_name, has_too_many, is_same_version, is_too_large, lacks_class, refusal_of, refusals, with_class, would_hold_itself}
use Rattle.rio_step.specs.{Statable.{ClassesStayDeclared, is_statable}, Step.{by_refusal, state_behind, step, tree_filled, tree_saved}}
use Rattle.rio_num.specs.{Printed.{name_text}, Word.{is_name_text}}

module _ (classes : List ClassDef) where
  abbrev newest : Base → Base
  newest = base_declared classes

  -- ---- names of bases

  any_named : (p : List ℕ → Bool) (bs : List Base) → list_any (λ b. p b.name) (map newest bs) ≡ list_any (λ b. p b.name) bs
  any_named p [] = refl
  any_named p (b ∷ bs) = ap (λ x. p b.name || x) (any_named p bs)

  all_named : (p : List ℕ → Bool) (bs : List Base) → list_all (λ b. p b.name) (map newest bs) ≡ list_all (λ b. p b.name) bs
  all_named p [] = refl
  all_named p (b ∷ bs) = ap (λ x. p b.name && x) (all_named p bs)

  map_push : (bs : List Base) (b : Base) → map newest (bs ++ b ∷ []) ≡ map newest bs ++ newest b ∷ []
  map_push [] b = refl
  map_push (c ∷ cs) b = ap (λ xs. newest c ∷ xs) (map_push cs b)

  stated_bases : (before bs : List Base) → are_stated_bases (map newest before) (map newest bs) ≡ are_stated_bases before bs
  stated_bases before [] = refl
  stated_bases before (b ∷ bs) =
      let first : is_stated_base (map newest before) (newest b) ≡ is_stated_base before b = ap (λ x. is_name_text b.name && not x) (any_named (λ n. bytes_eq n b.name) before) in
      let later : are_stated_bases (map newest before ++ newest b ∷ []) (map newest bs) ≡ are_stated_bases (before ++ b ∷ []) bs =
      ap (λ xs. are_stated_bases xs (map newest bs)) (sym (map_push before b)) ∙ stated_bases (before ++ b ∷ []) bs in
      λ i. first i && later i

  -- ---- text

  separated_names : (bs : List Base) → separated base_text (map newest bs) ≡ separated base_text bs
  separated_names [] = refl
  separated_names (b ∷ bs) = ap (λ t. base_text b ++ t) (rest bs)
    where
      rest : (bs : List Base) → flat_map (λ b. codes ", " ++ base_text b) (map newest bs) ≡ flat_map (λ b. codes ", " ++ base_text b) bs
      rest [] = refl
      rest (b ∷ bs) = ap (λ t. (codes ", " ++ base_text b) ++ t) (rest bs)

  bases_said : (bs : List Base) → bases_text (map newest bs) ≡ bases_text bs
  bases_said [] = refl
  bases_said (b ∷ bs) = ap (λ t. codes " : " ++ t) (separated_names (b ∷ bs))

  same_text_said : (c : ClassDef) → text_of_class (declared classes c) ≡ text_of_class c
  unfolding text_of_class
  same_text_said c = λ i. codes "class " ++ name_text c.name ++ codes " " ++ signed_decimal c.version ++ bases_said c.bases i ++ codes " " ++ members_text c.members

  same_sum_said : (c : ClassDef) → checksum_of (declared classes c) ≡ checksum_of c
  unfolding checksum_of
  same_sum_said c = ap (fold summed 0) (same_text_said c)

  declared_stated : (c : ClassDef) → is_stated_class (declared classes c) ≡ is_stated_class c
  unfolding is_stated_class
  declared_stated c =
      let parts : has_stated_parts (declared classes c) ≡ has_stated_parts c = λ i. is_name_text c.name && is_class_version c.version && stated_bases [] c.bases i && are_stated_members [] c.members in
      let sum : (c.sum == checksum_of (declared classes c)) ≡ (c.sum == checksum_of c) = ap (λ n. c.sum == n) (same_sum_said c) in
      λ i. parts i && sum i

  newest_again : (bs : List Base) → map newest (map newest bs) ≡ map newest bs
  newest_again [] = refl
  newest_again (b ∷ bs) = ap (λ xs. newest b ∷ xs) (newest_again bs)

  declared_again : (c : ClassDef) → declared classes c ≡ declared classes (declared classes c)
  declared_again c = let again = sym (newest_again c.bases) in λ i. record c { bases = again i }

  -- ---- rules

  any_last : (p : ClassDef → Bool) (xs : List ClassDef) (c d : ClassDef) → p c ≡ p d → list_any p (xs ++ c ∷ []) ≡ list_any p (xs ++ d ∷ [])
  any_last p [] c d e = ap (λ x. x || false) e
  any_last p (x ∷ xs) c d e = ap (λ t. p x || t) (any_last p xs c d e)

  within_same : (test : List ℕ → Bool) (c : ClassDef) → any_within test (declared classes c) ≡ any_within test c
  within_same test c = ap (λ x. x || list_any (λ m. any_inline test m.kind) c.members) (any_named test c.bases)

  reaches_same : (levels : ℕ) (c : ClassDef) (first last : List ℕ) → reaches levels (classes ++ declared classes c ∷ []) first last ≡ reaches levels (classes ++ c ∷ []) first last
  unfolding reaches
  reaches_same zero c first last = refl
  reaches_same (suc levels) c first last =
      any_last (λ k. bytes_eq k.name first && any_within (λ next. bytes_eq last next || reaches levels (classes ++ declared classes c ∷ []) next last) k) classes (declared classes c) c
      (ap (λ x. bytes_eq c.name first && x) (within_same (λ next. bytes_eq last next || reaches levels (classes ++ declared classes c ∷ []) next last) c))
      ∙ (λ i. list_any (λ k. bytes_eq k.name first && any_within (λ next. bytes_eq last next || reaches_same levels c next last i) k) (classes ++ c ∷ []))

  knows_same : (c : ClassDef) → knows_all classes (declared classes c) ≡ knows_all classes c
  knows_same c = ap (λ x. x && list_all (λ m. knows_kind classes c m.kind) c.members) (all_named (λ n. is_known classes c n || is_built_in_base n) c.bases)

  holds_same : (c : ClassDef) → holds_itself classes (declared classes c) ≡ holds_itself classes c
  holds_same c = reaches_same (length classes + 1) c c.name c.name

-- ---- accepted commands

-- no rule is broken, where none of the tests holds
no_rule : (knows same holds limit : Bool) → knows ≡ true → same ≡ false → holds ≡ false → limit ≡ false
    → option_or (if not knows then Some NoSuchClass else if same then Some SameVersion else if holds then Some HoldsItself else None) (if limit then Some TooMany else None) ≡ None
no_rule knows same holds limit a b c d = rw (a, b, c, d) refl

at_most : (n most : ℕ) → nat_lt most n ≡ false → n ≤ most
at_most n most e = ltb-false most n e

-- a class command that isn't refused declares its class
accepted_declares : (m : State) (c : ClassDef) (mark : Option FullMark) → is_stated_class c ≡ true → refusal_of m (Class c) mark ≡ None → IsDeclared m.classes (declared m.classes c)
unfolding refusal_of
accepted_declares m c mark stated e =
    let tests = refusals m (Class c) mark in
    let free = not_refused (has_bad_name (Class c)) BadName (none_at tests 1 e) in
    let knows = not-false (knows_all m.classes c) (not_refused (lacks_class m (Class c)) Lacks (none_at tests 7 e)) in
    let new = not_refused (is_same_version m (Class c)) Same (none_at tests 8 e) in
    let holds = not_refused (would_hold_itself m (Class c)) Holds (none_at tests 9 e) in
    let few = not_refused (has_too_many m (Class c)) Many (none_at tests 17 e) in
    record {
      stated = declared_stated m.classes c ∙ stated;
      free = not_from_false (is_reserved_name c.name) free;
      allowed = no_rule (knows_all m.classes (declared m.classes c)) _ (holds_itself m.classes (declared m.classes c)) _ (knows_same m.classes c ∙ knows) new (holds_same m.classes c ∙ holds) few;
      newest = declared_again m.classes c;
    }

accepted_short : (m : State) (c : ClassDef) (mark : Option FullMark) → refusal_of m (Class c) mark ≡ None → HasShortList (with_class m.classes c)
unfolding refusal_of
accepted_short m c mark e = at_most _ length_limit (not_refused (is_too_large m (Class c)) Large (none_at (refusals m (Class c) mark) 15 e))

one_more_accepted : (before cs : List ClassDef) (c : ClassDef) → AreAccepted before cs → IsDeclared (before ++ cs) c → HasShortList ((before ++ cs) ++ c ∷ []) → AreAccepted before (cs ++ c ∷ [])
one_more_accepted before [] c all is short =
    let same = append-nil before in
    (subst (λ xs. IsDeclared xs c) same is, subst (λ xs. HasShortList (xs ++ c ∷ [])) same short, tt)
one_more_accepted before (d ∷ ds) c all is short =
    let same = sym (append_assoc before (d ∷ []) ds) in
    (all.0, all.1, one_more_accepted (before ++ d ∷ []) ds c all.2 (subst (λ xs. IsDeclared xs c) same is) (subst (λ xs. HasShortList (xs ++ c ∷ [])) same short))

behind_declared : (m : State) (c : Command) (mark : Option FullMark) → is_statable c ≡ true → refusal_of m c mark ≡ None → StateClasses m.classes → StateClasses (state_behind m c).classes
behind_declared m (Bad line place) mark stated e all = all
behind_declared m (Class class) mark stated e all = one_more_accepted [] m.classes (declared m.classes class) all (accepted_declares m class mark stated e) (accepted_short m class mark e)
behind_declared m (Put name v) mark stated e all = all
behind_declared m (Batch puts) mark stated e all = subst (λ (classes : List ClassDef). StateClasses classes) (sym (batch_classes puts m)) all
behind_declared m (Delete name cycle) mark stated e all = same_classes (names_tree m name)
  where
    same_classes : (b : Bool) → StateClasses (if b then record m { trees = remove m.trees name } else record m { objects = remove m.objects (name, cycle) }).classes
    same_classes true = all
    same_classes false = all
behind_declared m (MakeTree name branches) mark stated e all = all
behind_declared m (Fill name row) mark stated e all = same_classes (get m.trees name)
  where
    same_classes : (t : Option Tree) → StateClasses (option_map_or (λ t. record m { trees = insert m.trees name (tree_filled (fill_row m row) t) }) t m).classes
    same_classes None = all
    same_classes (Some t) = all
behind_declared m (Save name) mark stated e all = same_classes (get m.trees name)
  where
    same_classes : (t : Option Tree) → StateClasses (option_map_or (λ t. record m { trees = insert m.trees name (tree_saved t) }) t m).classes
    same_classes None = all
    same_classes (Some t) = all
behind_declared m (Get name cycle version) mark stated e all = all
behind_declared m (Scan name class) mark stated e all = all
behind_declared m Ls mark stated e all = all

pub classes_stay_declared : ClassesStayDeclared
unfolding step
classes_stay_declared m c mark stated all = by (refusal_of m c mark) refl
  where
    by : (r : Option Refusal) → refusal_of m c mark ≡ r → StateClasses (by_refusal m c r).state.classes
    by None e = behind_declared m c mark stated e all
    by (Some refusal) e = all
