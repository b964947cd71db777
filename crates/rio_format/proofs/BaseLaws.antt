-- Which classes have which among their bases.
use Rattle.std.proofs.Common.{◌≡◌, ◌≤◌, ◌<◌, ◌+◌, ◌∙◌, ℕ, zero, suc, List, [], ◌∷◌, ◌++◌, length, get_or, take, Bool, true, false, ◌||◌, ◌&&◌, if◌then◌else◌, Option, Some, refl, sym, ap, subst, append_assoc, length-append, arith}
use Rattle.std.proofs.{Math.ListN.{get_or-append}, lemmas.Bool.{and_parts, or_left, or_right, Decides.{Decides-int_eq}}}
use Rattle.std.proofs.lemmas.List.{append-nil, take_more, Elements.{All-append, All-cons, All-head, All-nil, All-tail, All-weaker, AllWithin-more, Contains-append_left, Contains-append_right}, Folds.{list_all-append, list_any-append, list_any_at}}
use Rattle.std.proofs.{lemmas.Option.{get_or_from_slice_get}, lemmas.Slice.Eq.{bytes_eq-Decides}}
use Rattle.std.specs.{Prelude.{ℤ, not}, Cmp.Lexicographic.{same_text}, List.{All, Contains, list_all, list_any, slice_get}, Ordering.{int_eq}, Str.{bytes_eq}}
use Rattle.rio_num.proofs.Cases.{any_weaker, both_or_none, either}
use Rattle.rio_format.specs.{declared.class.Base.{Base}, declared.class.ClassDef.{ClassDef}, Bodies.{Body}, Slots.{body_bases, has_base, headed_body}}
use Rattle.rio_format.specs.{Bases.{Expanded, HasVisitedBases, HaveVisitedBases, Pushed, any_below, any_direct, are_targets, are_visited, has_among, visit_bases}, Visits.{base_of, is_visited, same_base, with_visit}}

and_both : (a b : Bool) → a ≡ true → b ≡ true → (a && b) ≡ true
and_both a b e h = rw (e, h) refl

not_twice : {P : Type 0} (a : Bool) → not a ≡ true → a ≡ true → P
not_twice true e h = absurd cc
not_twice false e h = absurd cc

not_where : (a b : Bool) → (a ≡ true → b ≡ true) → b ≡ false → a ≡ false
not_where true b f e = sym (f refl) ∙ e
not_where false b f e = refl

all_weaker : {X : Type 0} (p q : X → Bool) → ((x : X) → p x ≡ true → q x ≡ true) → (xs : List X) → list_all p xs ≡ true → list_all q xs ≡ true
all_weaker p q f [] e = refl
all_weaker p q f (x ∷ xs) e =
    let parts = and_parts (p x) (list_all p xs) e in
    and_both (q x) (list_all q xs) (f x parts.0) (all_weaker p q f xs parts.1)

pub visited_longer : (visits more : List Base) (b : Base) → is_visited visits b ≡ true → is_visited (visits ++ more) b ≡ true
visited_longer visits more b e =
    list_any-append (same_base b) visits more ∙ or_left (list_any (same_base b) visits) (list_any (same_base b) more) e

are_visited_longer : (target : List ℕ) (visits more bases : List Base) → are_visited target visits bases ≡ true → are_visited target (visits ++ more) bases ≡ true
are_visited_longer target visits more bases e =
    all_weaker (λ b. not (bytes_eq b.name target) && is_visited visits b) (λ b. not (bytes_eq b.name target) && is_visited (visits ++ more) b)
    (λ b h.
    let parts = and_parts (not (bytes_eq b.name target)) (is_visited visits b) h in
    and_both (not (bytes_eq b.name target)) (is_visited (visits ++ more) b) parts.0 (visited_longer visits more b parts.1))
    bases e

-- ---- what is pushed

pub same_itself : (b : Base) → same_base b b ≡ true
same_itself b = rw ((bytes_eq-Decides b.name b.name).1 refl, (Decides-int_eq b.version b.version).1 refl) refl

module _ (target : List ℕ) where
  pub pushed_none : (visits : List Base) → Pushed target [] visits visits
  pushed_none visits = record {
    more = [];
    is = sym (append-nil visits);
    of_bases = All-nil (Contains []);
    visited = refl;
  }

  visit_by : (visits : List Base) (b : Base) (known : Bool) → bytes_eq b.name target ≡ false → is_visited visits b ≡ known → Pushed target (b ∷ []) visits (if known then visits else visits ++ b ∷ [])
  visit_by visits b true e h = record {
    more = [];
    is = sym (append-nil visits);
    of_bases = All-nil (Contains (b ∷ []));
    visited = rw (e, h) refl;
  }
  visit_by visits b false e h =
      let here : is_visited (visits ++ b ∷ []) b ≡ true = list_any-append (same_base b) visits (b ∷ []) ∙ or_right (list_any (same_base b) visits) (list_any (same_base b) (b ∷ [])) (or_left (same_base b b) false (same_itself b)) in
      record {
        more = b ∷ [];
        is = refl;
        of_bases = All-cons (Contains (b ∷ [])) b [] (0, omega arith, refl) (All-nil (Contains (b ∷ [])));
        visited = rw (e, here) refl;
      }

  pub pushed_visit : (visits : List Base) (b : Base) → bytes_eq b.name target ≡ false → Pushed target (b ∷ []) visits (with_visit visits b)
  pushed_visit visits b e = visit_by visits b (is_visited visits b) e refl

  pub pushed_then : (bs cs a b c : List Base) → Pushed target bs a b → Pushed target cs b c → Pushed target (bs ++ cs) a c
  pushed_then bs cs a b c p q =
      let test : Base → Bool = λ x. not (bytes_eq x.name target) && is_visited c x in
      let first : are_visited target c bs ≡ true = subst (λ visits. are_visited target visits bs ≡ true) (sym q.is) (are_visited_longer target b q.more bs p.visited) in
      record {
        more = p.more ++ q.more;
        is = rw (q.is, p.is) (append_assoc a p.more q.more);
        of_bases = All-append (Contains (bs ++ cs)) p.more q.more
            (All-weaker (Contains bs) (Contains (bs ++ cs)) (λ v h. Contains-append_left bs cs v h) p.more p.of_bases)
            (All-weaker (Contains cs) (Contains (bs ++ cs)) (λ v h. Contains-append_right bs cs v h) q.more q.of_bases);
        visited = list_all-append test bs cs ∙ and_both (list_all test bs) (list_all test cs) first q.visited;
      }

  -- one more of the bases
  pub pushed_more : (bases : List Base) (i : ℕ) (base : Base) (name : List ℕ) (version : ℤ) (old mid new : List Base) → Pushed target (take i bases) old mid → i < length bases → base ≡ get_or bases i base → name ≡ base.name → version ≡ base.version → Pushed target (base_of name version ∷ []) mid new → Pushed target (take (i + 1) bases) old new
  pushed_more bases i base name version old mid new p lt is named same q =
      let one = rw (named, same) at q in
      let upto = take_more bases i base lt ∙ ap (λ (b : Base). take i bases ++ b ∷ []) (sym is) in
      subst (λ (bs : List Base). Pushed target bs old new) (sym upto) (pushed_then (take i bases) (base ∷ []) old mid new p one)

-- ---- what closed visits say

module _ (classes : List ClassDef) (target : List ℕ) where
  -- what has the target among its bases has it so one level deeper too
  pub one_deeper : (levels : ℕ) (class : List ℕ) (version : ℤ) → has_base levels classes target class version ≡ true → has_base (suc levels) classes target class version ≡ true
  unfolding has_base
  one_deeper zero class version e = absurd cc
  one_deeper (suc k) class version e =
      any_weaker (λ b. bytes_eq b.name target || has_base k classes target b.name b.version) (λ b. bytes_eq b.name target || has_base (suc k) classes target b.name b.version)
      (λ b h.
      either (bytes_eq b.name target) (has_base k classes target b.name b.version)
      (λ t. or_left (bytes_eq b.name target) (has_base (suc k) classes target b.name b.version) t)
      (λ t. or_right (bytes_eq b.name target) (has_base (suc k) classes target b.name b.version) (one_deeper k b.name b.version t))
      h)
      (body_bases (headed_body classes class version)) e

  below_deeper : (levels : ℕ) (visits : List Base) → any_below classes target levels visits ≡ true → any_below classes target (suc levels) visits ≡ true
  below_deeper levels visits e =
      any_weaker (λ v. has_base levels classes target v.name v.version) (λ v. has_base (suc levels) classes target v.name v.version) (λ v h. one_deeper levels v.name v.version h) visits e

  below_visited : (levels : ℕ) (visits : List Base) (b : Base) → is_visited visits b ≡ true → has_base levels classes target b.name b.version ≡ true → any_below classes target levels visits ≡ true
  below_visited levels [] b e h = absurd cc
  below_visited levels (v ∷ vs) b e h =
      either (same_base b v) (is_visited vs b)
      (λ t.
      let parts = and_parts (bytes_eq b.name v.name) (int_eq b.version v.version) t in
      let name : b.name ≡ v.name = same_text b.name v.name (sym parts.0) in
      let version : b.version ≡ v.version = (Decides-int_eq b.version v.version).0 parts.1 in
      let here : has_base levels classes target v.name v.version ≡ true = rw (name, version) at h in
      or_left (has_base levels classes target v.name v.version) (any_below classes target levels vs) here)
      (λ t. or_right (has_base levels classes target v.name v.version) (any_below classes target levels vs) (below_visited levels vs b t h))
      e

  among_visited : (levels : ℕ) (visits bases : List Base) → are_visited target visits bases ≡ true → has_among classes target levels bases ≡ true → any_below classes target levels visits ≡ true
  among_visited levels visits [] all e = absurd cc
  among_visited levels visits (b ∷ bs) all e =
      let parts = and_parts (not (bytes_eq b.name target) && is_visited visits b) (are_visited target visits bs) all in
      let own = and_parts (not (bytes_eq b.name target)) (is_visited visits b) parts.0 in
      either (bytes_eq b.name target || has_base levels classes target b.name b.version) (has_among classes target levels bs)
      (λ h. either (bytes_eq b.name target) (has_base levels classes target b.name b.version) (λ t. not_twice (bytes_eq b.name target) own.0 t) (λ t. below_visited levels visits b own.1 t) h)
      (λ h. among_visited levels visits bs parts.1 h)
      e

  below_closed : (levels : ℕ) (old new : List Base) → All (HasVisitedBases classes target new) old → any_below classes target (suc levels) old ≡ true → any_below classes target levels new ≡ true
  unfolding has_base
  below_closed levels [] new closed e = absurd cc
  below_closed levels (v ∷ vs) new closed e =
      either (has_among classes target levels (visit_bases classes v)) (any_below classes target (suc levels) vs)
      (λ h. among_visited levels new (visit_bases classes v) (All-head (HasVisitedBases classes target new) v vs closed) h)
      (λ h. below_closed levels vs new (All-tail (HasVisitedBases classes target new) v vs closed) h)
      e

  -- the first of the visits, as far as they are closed
  all_closed : (old more new : List Base) → new ≡ old ++ more → HaveVisitedBases classes target new (length old) → All (HasVisitedBases classes target new) old
  all_closed old more new is closed = λ i d lt.
      let there : get_or new i d ≡ get_or old i d = ap (λ (visits : List Base). get_or visits i d) is ∙ get_or-append old more d i lt in
      subst (HasVisitedBases classes target new) there (closed i d (omega arith) lt)

  pub nothing_below : (visits : List Base) → any_below classes target 0 visits ≡ false
  unfolding has_base
  nothing_below [] = refl
  nothing_below (v ∷ vs) = nothing_below vs

  pub none_below : (visits : List Base) → HaveVisitedBases classes target visits (length visits) → (levels : ℕ) → any_below classes target levels visits ≡ false
  none_below visits closed zero = nothing_below visits
  none_below visits closed (suc levels) =
      not_where (any_below classes target (suc levels) visits) (any_below classes target levels visits)
      (λ h. below_closed levels visits visits (all_closed visits [] visits (sym (append-nil visits)) closed) h)
      (none_below visits closed levels)

  -- ---- rounds

  -- a direct base is below the visits whatever the levels
  pub direct_below : (levels : ℕ) (visits : List Base) → any_direct classes target visits ≡ true → any_below classes target (suc levels) visits ≡ true
  unfolding has_base
  direct_below levels visits e =
      any_weaker (λ v. are_targets target (visit_bases classes v)) (λ v. has_base (suc levels) classes target v.name v.version)
      (λ v h.
      any_weaker (λ b. bytes_eq b.name target) (λ b. bytes_eq b.name target || has_base levels classes target b.name b.version)
      (λ b t. or_left (bytes_eq b.name target) (has_base levels classes target b.name b.version) t) (visit_bases classes v) h)
      visits e

  below_bases : (levels : ℕ) (bases more : List Base) → All (Contains bases) more → any_below classes target levels more ≡ true → has_among classes target levels bases ≡ true
  below_bases levels bases [] all e = absurd cc
  below_bases levels bases (v ∷ vs) all e =
      let test : Base → Bool = λ b. bytes_eq b.name target || has_base levels classes target b.name b.version in
      let own = All-head (Contains bases) v vs all in
      either (has_base levels classes target v.name v.version) (any_below classes target levels vs)
      (λ h. list_any_at test bases own.0 v own.1 (ap test own.2 ∙ or_right (bytes_eq v.name target) (has_base levels classes target v.name v.version) h))
      (λ h. below_bases levels bases vs (All-tail (Contains bases) v vs all) h)
      e

  -- a visit that has the target among its bases or theirs
  below_visit : (levels : ℕ) (visits : List Base) (v : Base) (k : ℕ) → k < length visits → get_or visits k v ≡ v → has_among classes target levels (visit_bases classes v) ≡ true → any_below classes target (suc levels) visits ≡ true
  unfolding has_base
  below_visit levels visits v k lt is e =
      let test : Base → Bool = λ v. has_base (suc levels) classes target v.name v.version in
      list_any_at test visits k v lt (ap test is ∙ e)

  pub expanded_none : (visits : List Base) (n : ℕ) → HaveVisitedBases classes target visits n → Expanded classes target visits visits n
  expanded_none visits n closed = record {
    more = [];
    is = sym (append-nil visits);
    closed = closed;
    below = λ levels e. absurd cc;
  }

  -- a visit of the round stands where it stood before
  same_visit : (old mid : List Base) (k : ℕ) (v : Base) → Expanded classes target old mid k → k < length old → Some v ≡ slice_get mid k → get_or old k v ≡ v
  same_visit old mid k v x lt is =
      sym (get_or-append old x.more v k lt) ∙ ap (λ (visits : List Base). get_or visits k v) (sym x.is) ∙ get_or_from_slice_get mid k v v (sym is)

  -- and its body is what is found by its name and version
  pub its_body : (v : Base) (name : List ℕ) (version : ℤ) (body : Option Body) → body ≡ headed_body classes name version → name ≡ v.name → version ≡ v.version → body ≡ headed_body classes v.name v.version
  its_body v name version body is named same = rw (named, same) at is

  pub found_in_round : (old mid : List Base) (k : ℕ) (v : Base) (body : Option Body) → Expanded classes target old mid k → k < length old → Some v ≡ slice_get mid k → body ≡ headed_body classes v.name v.version → are_targets target (body_bases body) ≡ true → any_direct classes target old ≡ true
  found_in_round old mid k v body x lt is bodied e =
      let test : Base → Bool = λ v. are_targets target (visit_bases classes v) in
      list_any_at test old k v lt (ap test (same_visit old mid k v x lt is) ∙ (rw bodied at e))

  closed_longer : (visits more : List Base) (n : ℕ) → n ≤ length visits → HaveVisitedBases classes target visits n → HaveVisitedBases classes target (visits ++ more) n
  closed_longer visits more n le closed = λ i d low high.
      let lt : i < length visits = omega arith in
      let there : HasVisitedBases classes target (visits ++ more) (get_or visits i d) = are_visited_longer target visits more (visit_bases classes (get_or visits i d)) (closed i d low high) in
      subst (HasVisitedBases classes target (visits ++ more)) (sym (get_or-append visits more d i lt)) there

  pub expanded_then : (old mid new : List Base) (k : ℕ) (v : Base) (body : Option Body) → Expanded classes target old mid k → k < length old → Some v ≡ slice_get mid k → body ≡ headed_body classes v.name v.version → Pushed target (body_bases body) mid new → Expanded classes target old new (k + 1)
  expanded_then old mid new k v body x lt is bodied pushed =
      let p : Pushed target (visit_bases classes v) mid new = rw (← bodied) pushed in
      let within : k < length mid = omega (arith, ap length x.is, length-append old x.more) in
      let here = same_visit old mid k v x lt is in
      let C : Base → Type 0 = HasVisitedBases classes target (mid ++ p.more) in
      let v-closed : C v = rw p.is at p.visited in
      let there : (d : Base) → get_or (mid ++ p.more) k d ≡ v = λ d. get_or-append mid p.more d k within ∙ get_or_from_slice_get mid k v d (sym is) in
      record {
        more = x.more ++ p.more;
        is = rw (p.is, x.is) (append_assoc old x.more p.more);
        closed = subst (λ visits. HaveVisitedBases classes target visits (k + 1)) (sym p.is)
            (AllWithin-more C (mid ++ p.more) 0 k (closed_longer mid p.more k (omega arith) x.closed) (λ d. subst C (sym (there d)) v-closed));
        below = λ levels e.
            either (any_below classes target levels x.more) (any_below classes target levels p.more)
            (λ h. x.below levels h)
            (λ h. below_visit levels old v k lt here (below_bases levels (visit_bases classes v) p.more p.of_bases h))
            (sym (list_any-append (λ v. has_base levels classes target v.name v.version) x.more p.more) ∙ e);
      }

  -- a whole round looks one level deeper
  pub whole_round : (levels : ℕ) (old new : List Base) → Expanded classes target old new (length old) → any_below classes target levels new ≡ any_below classes target (suc levels) old
  whole_round levels old new x =
      both_or_none (any_below classes target levels new) (any_below classes target (suc levels) old)
      (λ e.
      either (any_below classes target levels old) (any_below classes target levels x.more)
      (λ h. below_deeper levels old h)
      (λ h. x.below levels h)
      (sym (ap (any_below classes target levels) x.is ∙ list_any-append (λ v. has_base levels classes target v.name v.version) old x.more) ∙ e))
      (λ e. below_closed levels old new (all_closed old x.more new x.is x.closed) e)
