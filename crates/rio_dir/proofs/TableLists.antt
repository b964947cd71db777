-- What a search among ordered heads finds, and what they are once one is put in or taken out.
use Rattle.std.proofs.Common.{◌≡◌, inl, inr, ℕ, zero, suc, ◌+◌, ◌<◌, ◌≤◌, Bool, true, false, cond, max, pos, List, [], ◌∷◌, length, get_or, Option, Some, None, Result, Ok, Err, IsOk, is_ok, rules, refl, ap, subst, sym, ◌∙◌, arith}
use Rattle.std.proofs.{Math.Numerals.{one-add}, lemmas.Bool.{cases_lt}, lemmas.Option.{get_or_from_slice_get}}
use Rattle.std.proofs.lemmas.List.Sums.{prefix_len-le-length, prefix_len_passes, prefix_len_stops}
use Rattle.std.specs.{List.{find, insert, prefix_len, remove, slice_get, Sorted.{IsPartitionedBy, IsPartitionPoint}}, Option.{option_map_or}, Set.{remove_key}}
use Rattle.rio_dir.specs.Table.{AreBehind, AreOrdered, comes_before, greatest_cycle, if_matching, is_at_cycle, is_before, is_name_before, is_of_name, with_head}
use Rattle.rio_key.specs.declared.head.KeyHead.{KeyHead}
use Rattle.rio_dir.proofs.TableOrder.{before_trans, before_not_at, behind_not_at, else_behind, name_before_too, name_not_of, else_name_behind, IsNameBehind, names_behind, name_behind_not_of, same_name_lower}

some_head : KeyHead
some_head = record { nbytes = pos 0; version = 0; objlen = 0; datime = 0; keylen = 0; cycle = 0; seek = 0; pdir = 0; class = []; name = []; title = [] }

-- where the heads that pass a test end
pub point_is : (p : KeyHead → Bool) (heads : List KeyHead) (i : ℕ) → i ≤ length heads → IsPartitionPoint (λ h. p h ≡ true) (λ h. p h ≡ false) heads i → i ≡ prefix_len p heads
point_is p heads i le point =
    elim (cases_lt i (prefix_len p heads)) [
      | inl lt ↦ let yes = prefix_len_passes p heads i some_head lt in let no = point.1 i some_head (omega arith) (omega (arith, prefix_len-le-length p heads)) in absurd cc
      | inr ge ↦ elim (cases_lt (prefix_len p heads) i) [
        | inl lt ↦ let yes = point.0 (prefix_len p heads) some_head (omega arith) lt in let no = prefix_len_stops p heads some_head (omega arith) in absurd cc
        | inr same ↦ omega arith
      ]
    ]

pub behind_at : (name : List ℕ) (cycle : ℕ) (heads : List KeyHead) → AreBehind name cycle heads → (k : ℕ) (d : KeyHead) → k < length heads → comes_before name cycle (get_or heads k d).name (get_or heads k d).cycle ≡ true
behind_at name cycle [] are k d lt = absurd (omega (arith, lt))
behind_at name cycle (h ∷ hs) are zero d lt = are.0
behind_at name cycle (h ∷ hs) are (suc k) d lt = behind_at name cycle hs are.1 k d (omega (arith, lt))

-- those behind one are behind what comes before it
pub behind_too : (name : List ℕ) (cycle : ℕ) (h : KeyHead) (hs : List KeyHead) → comes_before name cycle h.name h.cycle ≡ true → AreBehind h.name h.cycle hs → AreBehind name cycle hs
behind_too name cycle h [] e are = tt
behind_too name cycle h (k ∷ ks) e are = (before_trans name cycle h.name h.cycle k.name k.cycle e are.0, behind_too name cycle h ks e are.1)

-- ---- a test that holds up to some place

-- heads that pass p come first, one that passes t is the first that doesn't pass p, and behind one that passes neither none does
pub record IsSearch (p t : KeyHead → Bool) : Type 0 where
  pub earlier : (h k : KeyHead) → comes_before h.name h.cycle k.name k.cycle ≡ true → p k ≡ true → p h ≡ true
  pub apart : (h : KeyHead) → p h ≡ true → t h ≡ false
  pub none : (h : KeyHead) (hs : List KeyHead) → AreBehind h.name h.cycle hs → p h ≡ false → t h ≡ false → find t hs ≡ None

module _ (p t : KeyHead → Bool) (s : IsSearch p t) where
  pub partitioned : (heads : List KeyHead) → AreOrdered heads → IsPartitionedBy p heads
  partitioned [] are i j d le lt holds = absurd (omega (arith, lt))
  partitioned (h ∷ hs) are zero zero d le lt holds = holds
  partitioned (h ∷ hs) are zero (suc j) d le lt holds = s.earlier h (get_or hs j d) (behind_at h.name h.cycle hs are.0 j d (omega (arith, lt))) holds
  partitioned (h ∷ hs) are (suc i) zero d le lt holds = absurd (omega (arith, le))
  partitioned (h ∷ hs) are (suc i) (suc j) d le lt holds = partitioned hs are.1 i j d (omega (arith, le)) (omega (arith, lt)) holds

  searched : (heads : List KeyHead) → AreOrdered heads → if_matching t (slice_get heads (prefix_len p heads)) ≡ find t heads
  searched [] are = refl
  searched (h ∷ hs) are = by (searched hs are.1) (p h) refl
    where
      by : if_matching t (slice_get hs (prefix_len p hs)) ≡ find t hs → (b : Bool) → p h ≡ b → if_matching t (slice_get (h ∷ hs) (cond b (1 + prefix_len p hs) 0)) ≡ cond (t h) (Some h) (find t hs)
      by ih true e = rw (one-add, s.apart h e) ih
      by ih false e = first (t h) refl
        where
          first : (c : Bool) → t h ≡ c → cond c (Some h) None ≡ cond c (Some h) (find t hs)
          first true f = refl
          first false f = sym (s.none h hs are.0 e f)

  removed : (heads : List KeyHead) → AreOrdered heads → option_map_or t (slice_get heads (prefix_len p heads)) false ≡ true → remove heads (prefix_len p heads) ≡ remove_key t heads
  removed [] are found = absurd cc
  removed (h ∷ hs) are found = by (removed hs are.1) (p h) refl found
    where
      by : (option_map_or t (slice_get hs (prefix_len p hs)) false ≡ true → remove hs (prefix_len p hs) ≡ remove_key t hs) → (b : Bool) → p h ≡ b → option_map_or t (slice_get (h ∷ hs) (cond b (1 + prefix_len p hs) 0)) false ≡ true
          → remove (h ∷ hs) (cond b (1 + prefix_len p hs) 0) ≡ cond (t h) hs (h ∷ remove_key t hs)
      by ih true e found = rw (one-add, s.apart h e) (ap (λ (l : List KeyHead). h ∷ l) (ih (rw one-add at found)))
      by ih false e found = rw found refl

-- ---- by name and cycle, and by name

pub none_behind : (name : List ℕ) (cycle : ℕ) (heads : List KeyHead) → AreBehind name cycle heads → find (is_at_cycle name cycle) heads ≡ None
none_behind name cycle [] are = refl
none_behind name cycle (h ∷ hs) are = rw (behind_not_at name cycle h are.0) (none_behind name cycle hs are.1)

pub by_cycle : (name : List ℕ) (cycle : ℕ) → IsSearch (is_before name cycle) (is_at_cycle name cycle)
by_cycle name cycle = record {
  earlier = λ h k e holds. before_trans h.name h.cycle k.name k.cycle name cycle e holds;
  apart = λ h e. before_not_at name cycle h e;
  none = λ h hs are e f. none_behind name cycle hs (behind_too name cycle h hs (else_behind name cycle h e f) are);
}

none_named : (name : List ℕ) (h : KeyHead) (hs : List KeyHead) → IsNameBehind name h → AreBehind h.name h.cycle hs → find (is_of_name name) hs ≡ None
none_named name h [] less are = refl
none_named name h (k ∷ ks) less are = rw (name_behind_not_of name k (names_behind name h k less are.0)) (none_named name h ks less are.1)

pub by_name : (name : List ℕ) → IsSearch (is_name_before name) (is_of_name name)
by_name name = record {
  earlier = λ h k e holds. name_before_too name h k e holds;
  apart = λ h e. name_not_of name h e;
  none = λ h hs are e f. none_named name h hs (else_name_behind name h e f) are;
}

-- ---- the greatest cycle of a name

lower_cycles : (name : List ℕ) (h : KeyHead) (hs : List KeyHead) → is_of_name name h ≡ true → AreBehind h.name h.cycle hs → greatest_cycle name hs ≤ h.cycle
lower_cycles name h [] named are = omega arith
lower_cycles name h (k ∷ ks) named are = by (is_of_name name k) refl (lower_cycles name h ks named are.1)
  where
    by : (b : Bool) → is_of_name name k ≡ b → greatest_cycle name ks ≤ h.cycle → cond b (max k.cycle (greatest_cycle name ks)) (greatest_cycle name ks) ≤ h.cycle
    by true e le = omega (arith, le, same_name_lower name h k are.0 named e)
    by false e le = le

abbrev pub cycle_of : Option KeyHead → ℕ
cycle_of None = 0
cycle_of (Some h) = h.cycle

pub greatest_is : (name : List ℕ) (heads : List KeyHead) → AreOrdered heads → greatest_cycle name heads ≡ cycle_of (find (is_of_name name) heads)
greatest_is name [] are = refl
greatest_is name (h ∷ hs) are = by (greatest_is name hs are.1) (is_of_name name h) refl
  where
    by : greatest_cycle name hs ≡ cycle_of (find (is_of_name name) hs) → (b : Bool) → is_of_name name h ≡ b → cond b (max h.cycle (greatest_cycle name hs)) (greatest_cycle name hs) ≡ cycle_of (cond b (Some h) (find (is_of_name name) hs))
    by ih true e = omega (arith, lower_cycles name h hs e are.0)
    by ih false e = ih

-- ---- one more

module _ (h : KeyHead) where
  pub inserted_is : (heads : List KeyHead) → insert heads (prefix_len (is_before h.name h.cycle) heads) h ≡ with_head h heads
  inserted_is [] = refl
  inserted_is (k ∷ ks) = by (inserted_is ks) (is_before h.name h.cycle k)
    where
      by : insert ks (prefix_len (is_before h.name h.cycle) ks) h ≡ with_head h ks → (b : Bool) → insert (k ∷ ks) (cond b (1 + prefix_len (is_before h.name h.cycle) ks) 0) h ≡ cond b (k ∷ with_head h ks) (h ∷ k ∷ ks)
      by ih true = rw one-add (ap (λ (l : List KeyHead). k ∷ l) ih)
      by ih false = refl

  behind_with : (k : KeyHead) (ks : List KeyHead) → AreBehind k.name k.cycle ks → is_before h.name h.cycle k ≡ true → AreBehind k.name k.cycle (with_head h ks)
  behind_with k [] are e = (e, tt)
  behind_with k (l ∷ ls) are e = by (behind_with k ls are.1 e) (is_before h.name h.cycle l)
    where
      by : AreBehind k.name k.cycle (with_head h ls) → (b : Bool) → AreBehind k.name k.cycle (cond b (l ∷ with_head h ls) (h ∷ l ∷ ls))
      by ih true = (are.0, ih)
      by ih false = (e, are)

  pub ordered_with : (heads : List KeyHead) → AreOrdered heads → find (is_at_cycle h.name h.cycle) heads ≡ None → AreOrdered (with_head h heads)
  ordered_with [] are new = (tt, tt)
  ordered_with (k ∷ ks) are new = by (ordered_with ks are.1) (is_before h.name h.cycle k) (is_at_cycle h.name h.cycle k) refl refl new
    where
      by : (find (is_at_cycle h.name h.cycle) ks ≡ None → AreOrdered (with_head h ks)) → (b c : Bool) → is_before h.name h.cycle k ≡ b → is_at_cycle h.name h.cycle k ≡ c
          → cond c (Some k) (find (is_at_cycle h.name h.cycle) ks) ≡ None → AreOrdered (cond b (k ∷ with_head h ks) (h ∷ k ∷ ks))
      by ih b true e f new = absurd cc
      by ih true false e f new = (behind_with k ks are.0 e, ih new)
      by ih false false e f new =
          let behind = else_behind h.name h.cycle k e f in
          ((behind, behind_too h.name h.cycle k ks behind are.0), are)

-- ---- one less

behind_without : (name : List ℕ) (cycle : ℕ) (t : KeyHead → Bool) (ks : List KeyHead) → AreBehind name cycle ks → AreBehind name cycle (remove_key t ks)
behind_without name cycle t [] are = tt
behind_without name cycle t (k ∷ ks) are = by (behind_without name cycle t ks are.1) (t k)
  where
    by : AreBehind name cycle (remove_key t ks) → (b : Bool) → AreBehind name cycle (cond b ks (k ∷ remove_key t ks))
    by ih true = are.1
    by ih false = (are.0, ih)

pub ordered_without : (t : KeyHead → Bool) (heads : List KeyHead) → AreOrdered heads → AreOrdered (remove_key t heads)
ordered_without t [] are = tt
ordered_without t (k ∷ ks) are = by (ordered_without t ks are.1) (t k)
  where
    by : AreOrdered (remove_key t ks) → (b : Bool) → AreOrdered (cond b ks (k ∷ remove_key t ks))
    by ih true = are.1
    by ih false = (behind_without k.name k.cycle t ks are.0, ih)

-- ---- what the code reads at the place where its search ends

taken_head : (t : KeyHead → Bool) (heads : List KeyHead) (at : ℕ) (d : KeyHead) → option_map_or t (slice_get heads at) false ≡ true → d ≡ get_or heads at d → if_matching t (slice_get heads at) ≡ Some d
taken_head t heads at d found read = by (slice_get heads at) refl found
  where
    by : (o : Option KeyHead) → slice_get heads at ≡ o → option_map_or t o false ≡ true → if_matching t o ≡ Some d
    by None is found = absurd cc
    by (Some h) is found =
        let same : d ≡ h = read ∙ get_or_from_slice_get heads at h d is in
        rw found (ap (λ (k : KeyHead). let o : Option KeyHead = Some k in o) (sym same))

not_taken : (t : KeyHead → Bool) (o : Option KeyHead) → option_map_or t o false ≡ false → if_matching t o ≡ None
not_taken t None found = refl
not_taken t (Some h) found = rw found refl

-- a search among the items of a table, which are its heads, ends at a place; `seen` are the items that the code looks at
module _ (p t : KeyHead → Bool) (s : IsSearch p t) (items heads seen : List KeyHead) (at : ℕ) (same : items ≡ heads) (seen_is : seen ≡ items) (are : AreOrdered items) (at_is : at ≡ prefix_len p heads) where
  ends : at ≡ prefix_len p items
  ends = at_is ∙ ap (prefix_len p) (sym same)

  pub found_there : if_matching t (slice_get seen at) ≡ find t heads
  found_there = ap (λ (l : List KeyHead). if_matching t (slice_get l at)) seen_is ∙ ap (λ (k : ℕ). if_matching t (slice_get items k)) ends ∙ searched p t s items are ∙ ap (find t) same

  module _ (b : Bool) (test : b ≡ option_map_or t (slice_get seen at) false) where
    tested : option_map_or t (slice_get items at) false ≡ b
    tested = ap (λ (l : List KeyHead). option_map_or t (slice_get l at) false) (sym seen_is) ∙ sym test

    found_in : if_matching t (slice_get items at) ≡ find t heads
    found_in = ap (λ (l : List KeyHead). if_matching t (slice_get l at)) (sym seen_is) ∙ found_there

    pub taken_there : b ≡ true → (d : KeyHead) → d ≡ get_or items at d → find t heads ≡ Some d
    taken_there hit d read = sym found_in ∙ taken_head t items at d (tested ∙ hit) read

    pub removed_there : b ≡ true → remove items at ≡ remove_key t heads
    removed_there hit =
        let here = subst (λ (k : ℕ). option_map_or t (slice_get items k) false ≡ true) ends (tested ∙ hit) in
        ap (remove items) ends ∙ removed p t s items are here ∙ ap (remove_key t) same

    pub none_there : b ≡ false → find t heads ≡ None
    none_there miss = sym found_in ∙ not_taken t (slice_get items at) (tested ∙ miss)

pub greatest_there : (name : List ℕ) (items heads seen : List KeyHead) (at : ℕ) (o : Option KeyHead) → items ≡ heads → seen ≡ items → AreOrdered items → at ≡ prefix_len (is_name_before name) heads
    → o ≡ if_matching (is_of_name name) (slice_get seen at) → greatest_cycle name heads ≡ cycle_of o
greatest_there name items heads seen at o same seen_is are at_is is =
    greatest_is name heads (subst AreOrdered same are)
    ∙ ap cycle_of (sym (is ∙ found_there (is_name_before name) (is_of_name name) (by_name name) items heads seen at same seen_is are at_is))

pub nothing_removed : (t : KeyHead → Bool) (heads : List KeyHead) → find t heads ≡ None → remove_key t heads ≡ heads
nothing_removed t [] none = refl
nothing_removed t (h ∷ hs) none = by (nothing_removed t hs) (t h) none
  where
    by : (find t hs ≡ None → remove_key t hs ≡ hs) → (b : Bool) → cond b (Some h) (find t hs) ≡ None → cond b hs (h ∷ remove_key t hs) ≡ h ∷ hs
    by ih true none = absurd cc
    by ih false none = ap (λ (l : List KeyHead). h ∷ l) (ih none)

-- what an insert leaves that found room
pub found_room : {A E : Type 0} (r : Result A E) (new one other : List KeyHead) → IsOk r → new ≡ cond (is_ok r) one other → new ≡ one
found_room (Ok x) new one other ok is = is
found_room (Err e) new one other ok is = absurd (search rules)
