-- How the heirs of TObject are found.
use Rattle.std.proofs.Common.{◌≡◌, ◌<◌, ◌+◌, ◌∙◌, ℕ, zero, suc, List, [], ◌∷◌, ◌++◌, length, get_or, take, map, Bool, true, false, cond, ◌||◌, ◌&&◌, if◌then◌else◌, Option, Some, None, refl, sym, ap, subst, append_assoc, length-append, arith}
use Rattle.std.proofs.lemmas.List.{append-nil, map-append, take_more, Elements.{All-append, All-cons, All-head, All-nil, All-tail, All-weaker}, Folds.{list_any-append}}
use Rattle.std.proofs.lemmas.Bool.{and_parts, cond_both, or_left, or_right, Decides.{Decides-int_eq}}
use Rattle.std.specs.{Prelude.{ℤ, codes, is_some}, Cmp.Lexicographic.{same_text}, List.{All, list_any}, Option.{option_map}, Ordering.{int_eq}, Str.{bytes_eq}}
use Rattle.rio_num.proofs.Cases.{any_weaker, both_or_none, either}
use Rattle.rio_format.specs.{Classes.{find_in}, declared.class.Base.{Base}, declared.class.ClassDef.{ClassDef}, Bases.{visit_bases}, Bodies.{Body, described, built_in, form_of, headed_classes}}
use Rattle.rio_format.specs.{Slots.{body_bases, declared_body, has_base, headed_body, is_headed}, Visits.{base_of, is_visited, same_base, with_visit}}
use Rattle.rio_format.proofs.{BaseDepth.{first_of_both, no_base_is_deeper}, BuiltInLaws.{of_body}, BaseLaws.{same_itself, visited_longer}}
use Rattle.rio_describe.specs.Heirs.{AreHeirs, AreTheHeirs, IsTaken, Judged, built_in_bases, candidates_of, class_base, has_reaching, is_heir}

-- what has a TObject among its bases at most so many levels deep is known
abbrev pub AreKnown : List ClassDef → List Base → ℕ → Type 0
AreKnown classes heirs levels = (class : List ℕ) (version : ℤ) → has_base levels classes (codes "TObject") class version ≡ true → is_visited heirs (base_of class version) ≡ true

-- ---- known heirs

-- what holds of each of them holds of one that is known
of_known : (P : Base → Type 0) (bs : List Base) (class : List ℕ) (version : ℤ) → All P bs → is_visited bs (base_of class version) ≡ true → P (base_of class version)
of_known P [] class version all e = absurd cc
of_known P (b ∷ bs) class version all e =
    either (same_base (base_of class version) b) (is_visited bs (base_of class version))
    (λ t.
    let parts = and_parts (bytes_eq class b.name) (int_eq version b.version) t in
    let name : class ≡ b.name = same_text class b.name (sym parts.0) in
    let its : version ≡ b.version = (Decides-int_eq version b.version).0 parts.1 in
    rw (name, its) (All-head P b bs all))
    (λ t. of_known P bs class version (All-tail P b bs all) t)
    e

reaching_longer : (old more bases : List Base) → has_reaching old bases ≡ true → has_reaching (old ++ more) bases ≡ true
reaching_longer old more bases e =
    any_weaker (λ b. bytes_eq b.name (codes "TObject") || is_visited old b) (λ b. bytes_eq b.name (codes "TObject") || is_visited (old ++ more) b)
    (λ b h.
    either (bytes_eq b.name (codes "TObject")) (is_visited old b)
    (λ t. or_left (bytes_eq b.name (codes "TObject")) (is_visited (old ++ more) b) t)
    (λ t. or_right (bytes_eq b.name (codes "TObject")) (is_visited (old ++ more) b) (visited_longer old more b t))
    h)
    bases e

-- ---- what is a candidate

built_is_candidate : (class : List ℕ) (version : ℤ) → is_some (built_in class version) ≡ true → is_visited built_in_bases (base_of class version) ≡ true
built_is_candidate class version =
    of_body (λ o. is_some o ≡ true → is_visited built_in_bases (base_of class version) ≡ true) headed_classes class version
    ((λ c v e. rw (c, v) refl), ((λ c v e. rw (c, v) refl), ((λ c v e. rw (c, v) refl), ((λ c v e. rw (c, v) refl), tt))))
    (λ e. absurd cc)

found_is_candidate : (classes : List ClassDef) (class : List ℕ) (version : ℤ) (c : ClassDef) → find_in classes class version ≡ Some c → is_visited (map class_base classes) (base_of class version) ≡ true
found_is_candidate [] class version c e = absurd cc
found_is_candidate (d ∷ ds) class version c e =
    let rest = found_is_candidate ds class version c in
    let here = same_base (base_of class version) (class_base d) in
    let test = bytes_eq d.name class && int_eq d.version version in
    elim test as (λ b. test ≡ b → cond b (Some d) (find_in ds class version) ≡ Some c → (here || is_visited (map class_base ds) (base_of class version)) ≡ true) [
      | true ↦ λ t h.
          let parts = and_parts (bytes_eq d.name class) (int_eq d.version version) t in
          let name : d.name ≡ class = same_text d.name class (sym parts.0) in
          let its : d.version ≡ version = (Decides-int_eq d.version version).0 parts.1 in
          or_left here (is_visited (map class_base ds) (base_of class version)) (rw (name, its) (same_itself (base_of class version)))
      | false ↦ λ t h. or_right here (is_visited (map class_base ds) (base_of class version)) (rest h)
    ] refl e

module _ (classes : List ClassDef) where
  -- a class that has bases is a candidate
  abbrev IsCandidate : (Base → Bool) → List ℕ → ℤ → Option Body → Type 0
  IsCandidate test class version body = list_any test (body_bases body) ≡ true → is_visited (candidates_of classes) (base_of class version) ≡ true

  built_first : (class : List ℕ) (version : ℤ) → is_visited built_in_bases (base_of class version) ≡ true → is_visited (candidates_of classes) (base_of class version) ≡ true
  built_first class version e = visited_longer built_in_bases (map class_base classes) (base_of class version) e

  described_behind : (class : List ℕ) (version : ℤ) → is_visited (map class_base classes) (base_of class version) ≡ true → is_visited (candidates_of classes) (base_of class version) ≡ true
  described_behind class version e =
      let b : Base = base_of class version in
      list_any-append (same_base b) built_in_bases (map class_base classes)
      ∙ or_right (list_any (same_base b) built_in_bases) (list_any (same_base b) (map class_base classes)) e

  listed_candidate : (test : Base → Bool) (class : List ℕ) (version : ℤ) (found : Option ClassDef) → find_in classes class version ≡ found → IsCandidate test class version (option_map described found)
  listed_candidate test class version None is = λ e. absurd cc
  listed_candidate test class version (Some c) is = λ e. described_behind class version (found_is_candidate classes class version c is)

  first_candidate : (test : Base → Bool) (class : List ℕ) (version : ℤ) (body : Option Body) → built_in class version ≡ body → IsCandidate test class version (first_of_both (option_map described (find_in classes class version)) body)
  first_candidate test class version (Some body) is = λ e. built_first class version (built_is_candidate class version (ap is_some is))
  first_candidate test class version None is = listed_candidate test class version (find_in classes class version) refl

  has_bases : (test : Base → Bool) (class : List ℕ) (version : ℤ) → IsCandidate test class version (headed_body classes class version)
  has_bases test class version =
      cond_both (is_headed (form_of class)) (declared_body classes class version) None (IsCandidate test class version)
      (λ t. first_candidate test class version (built_in class version) refl) (λ t e. absurd cc)

  -- ---- judging

  pub judged_none : (heirs : List Base) → Judged classes [] heirs heirs
  judged_none heirs = record {
    more = [];
    is = sym (append-nil heirs);
    sound = λ h. h;
    taken = All-nil (IsTaken classes heirs heirs);
  }

  pub judged_then : (bs cs a b c : List Base) → Judged classes bs a b → Judged classes cs b c → Judged classes (bs ++ cs) a c
  judged_then bs cs a b c p q = record {
    more = p.more ++ q.more;
    is = rw (q.is, p.is) (append_assoc a p.more q.more);
    sound = λ h. q.sound (p.sound h);
    taken = All-append (IsTaken classes a c) bs cs
        (All-weaker (IsTaken classes a b) (IsTaken classes a c) (λ x t r. subst (λ heirs. is_visited heirs x ≡ true) (sym q.is) (visited_longer b q.more x (t r))) bs p.taken)
        (All-weaker (IsTaken classes b c) (IsTaken classes a c)
        (λ x t r. t (subst (λ heirs. has_reaching heirs (visit_bases classes x) ≡ true) (sym p.is) (reaching_longer a p.more (visit_bases classes x) r))) cs q.taken);
  }

  -- nothing that is an heir by its bases is no heir
  heir_by_bases : (heirs : List Base) (class : List ℕ) (version : ℤ) → AreHeirs classes heirs → has_reaching heirs (visit_bases classes (base_of class version)) ≡ true → is_heir classes class version ≡ true
  unfolding has_base
  heir_by_bases heirs class version sound e =
      let levels = length classes + 1 in
      let deeper : has_base (suc levels) classes (codes "TObject") class version ≡ true =
      any_weaker (λ b. bytes_eq b.name (codes "TObject") || is_visited heirs b) (λ b. bytes_eq b.name (codes "TObject") || has_base levels classes (codes "TObject") b.name b.version)
      (λ b h.
      either (bytes_eq b.name (codes "TObject")) (is_visited heirs b)
      (λ t. or_left (bytes_eq b.name (codes "TObject")) (has_base levels classes (codes "TObject") b.name b.version) t)
      (λ t. or_right (bytes_eq b.name (codes "TObject")) (has_base levels classes (codes "TObject") b.name b.version)
      (of_known (λ b. is_heir classes b.name b.version ≡ true) heirs b.name b.version sound t))
      h)
      (visit_bases classes (base_of class version)) e in
      sym (no_base_is_deeper classes (codes "TObject") class version (suc levels) (omega arith)) ∙ deeper

  pub judged_no_heir : (heirs : List Base) (b : Base) → has_reaching heirs (visit_bases classes b) ≡ false → Judged classes (b ∷ []) heirs heirs
  judged_no_heir heirs b e = record {
    more = [];
    is = sym (append-nil heirs);
    sound = λ h. h;
    taken = All-cons (IsTaken classes heirs heirs) b [] (λ h. absurd (cc (h, e))) (All-nil (IsTaken classes heirs heirs));
  }

  heir_by : (heirs : List Base) (b : Base) (known : Bool) → has_reaching heirs (visit_bases classes b) ≡ true → is_visited heirs b ≡ known → Judged classes (b ∷ []) heirs (if known then heirs else heirs ++ b ∷ [])
  heir_by heirs b true e h = record {
    more = [];
    is = sym (append-nil heirs);
    sound = λ s. s;
    taken = All-cons (IsTaken classes heirs heirs) b [] (λ r. h) (All-nil (IsTaken classes heirs heirs));
  }
  heir_by heirs b false e h =
      let here : is_visited (heirs ++ b ∷ []) b ≡ true = list_any-append (same_base b) heirs (b ∷ []) ∙ or_right (list_any (same_base b) heirs) (list_any (same_base b) (b ∷ [])) (or_left (same_base b b) false (same_itself b)) in
      let IsHeir : Base → Type 0 = λ b. is_heir classes b.name b.version ≡ true in
      record {
        more = b ∷ [];
        is = refl;
        sound = λ s. All-append IsHeir heirs (b ∷ []) s (All-cons IsHeir b [] (heir_by_bases heirs b.name b.version s e) (All-nil IsHeir));
        taken = All-cons (IsTaken classes heirs (heirs ++ b ∷ [])) b [] (λ r. here) (All-nil (IsTaken classes heirs (heirs ++ b ∷ [])));
      }

  pub judged_heir : (heirs : List Base) (b : Base) → has_reaching heirs (visit_bases classes b) ≡ true → Judged classes (b ∷ []) heirs (with_visit heirs b)
  judged_heir heirs b e = heir_by heirs b (is_visited heirs b) e refl

  -- ---- all candidates

  pub none_known : (heirs : List Base) → AreKnown classes heirs 0
  unfolding has_base
  none_known heirs class version e = absurd cc

  -- one level deeper
  pub known_deeper : (levels : ℕ) (old new : List Base) → Judged classes (candidates_of classes) old new → AreKnown classes old levels → AreKnown classes new (suc levels)
  unfolding has_base
  known_deeper levels old new judged known class version e =
      let b : Base = base_of class version in
      let reaches : has_reaching old (visit_bases classes b) ≡ true =
      any_weaker (λ b. bytes_eq b.name (codes "TObject") || has_base levels classes (codes "TObject") b.name b.version) (λ b. bytes_eq b.name (codes "TObject") || is_visited old b)
      (λ b h.
      either (bytes_eq b.name (codes "TObject")) (has_base levels classes (codes "TObject") b.name b.version)
      (λ t. or_left (bytes_eq b.name (codes "TObject")) (is_visited old b) t)
      (λ t. or_right (bytes_eq b.name (codes "TObject")) (is_visited old b) (known b.name b.version t))
      h)
      (visit_bases classes b) e in
      let candidate = has_bases (λ b. bytes_eq b.name (codes "TObject") || is_visited old b) class version reaches in
      of_known (IsTaken classes old new) (candidates_of classes) class version judged.taken candidate reaches

  -- where judging adds nothing, all are known
  pub known_at_any : (heirs : List Base) → Judged classes (candidates_of classes) heirs heirs → (levels : ℕ) → AreKnown classes heirs levels
  known_at_any heirs judged zero = none_known heirs
  known_at_any heirs judged (suc levels) = known_deeper levels heirs heirs judged (known_at_any heirs judged levels)

  nothing_more : (old more : List Base) → length (old ++ more) ≡ length old → more ≡ []
  nothing_more old [] e = refl
  nothing_more old (b ∷ bs) e = absurd (omega (arith, e, length-append old (b ∷ bs)))

  pub the_heirs : (heirs : List Base) → AreHeirs classes heirs → AreKnown classes heirs (length classes + 1) → AreTheHeirs classes heirs
  the_heirs heirs sound known class version =
      both_or_none (is_visited heirs (base_of class version)) (is_heir classes class version)
      (λ e. of_known (λ b. is_heir classes b.name b.version ≡ true) heirs class version sound e)
      (λ e. known class version e)

  pub when_nothing_more : (old new : List Base) → Judged classes (candidates_of classes) old new → AreHeirs classes old → length new ≡ length old → AreTheHeirs classes new
  when_nothing_more old new judged sound e =
      let none : judged.more ≡ [] = nothing_more old judged.more (ap length (sym judged.is) ∙ e) in
      let same : new ≡ old = judged.is ∙ ap (λ (more : List Base). old ++ more) none ∙ append-nil old in
      let again : Judged classes (candidates_of classes) new new = subst (λ (heirs : List Base). Judged classes (candidates_of classes) heirs new) (sym same) judged in
      the_heirs new (judged.sound sound) (known_at_any new again (length classes + 1))

  -- ---- steps of loops

  -- one more of the classes
  pub judged_more : (part : List ClassDef) (i : ℕ) (class : ClassDef) (name : List ℕ) (version : ℤ) (old mid new : List Base) → Judged classes (map class_base (take i part)) old mid → i < length part → class ≡ get_or part i class → name ≡ class.name → version ≡ class.version → Judged classes (base_of name version ∷ []) mid new → Judged classes (map class_base (take (i + 1) part)) old new
  judged_more part i class name version old mid new p lt is named same q =
      let one : Judged classes (class_base class ∷ []) mid new = rw (named, same) at q in
      let upto = take_more part i class lt ∙ ap (λ (c : ClassDef). take i part ++ c ∷ []) (sym is) in
      let mapped = ap (map class_base) upto ∙ map-append class_base (take i part) (class ∷ []) in
      subst (λ (bs : List Base). Judged classes bs old new) (sym mapped) (judged_then (map class_base (take i part)) (class_base class ∷ []) old mid new p one)

  pub judged_both : (first second : List ClassDef) (a b c : List Base) → Judged classes (map class_base first) a b → Judged classes (map class_base second) b c → Judged classes (map class_base (first ++ second)) a c
  judged_both first second a b c p q =
      subst (λ (bs : List Base). Judged classes bs a c) (sym (map-append class_base first second)) (judged_then (map class_base first) (map class_base second) a b c p q)

  -- one class behind the others
  pub judged_last : (front : List ClassDef) (class : ClassDef) (name : List ℕ) (version : ℤ) (a b c : List Base) → name ≡ class.name → version ≡ class.version → Judged classes (map class_base front) a b → Judged classes (base_of name version ∷ []) b c → Judged classes (map class_base (front ++ class ∷ [])) a c
  judged_last front class name version a b c named same p q =
      let one : Judged classes (class_base class ∷ []) b c = rw (named, same) at q in
      judged_both front (class ∷ []) a b c p one

  pub none_are_heirs : (heirs : List Base) → heirs ≡ [] → AreHeirs classes heirs
  none_are_heirs heirs e = subst (λ (bs : List Base). AreHeirs classes bs) (sym e) (All-nil (λ b. is_heir classes b.name b.version ≡ true))

  pub known_at : (heirs : List Base) (levels other : ℕ) → levels ≡ other → AreKnown classes heirs levels → AreKnown classes heirs other
  known_at heirs levels other e known = subst (λ k. AreKnown classes heirs k) e known
