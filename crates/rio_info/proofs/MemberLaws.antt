-- Members behind counters, as a loop takes them.
use Rattle.std.proofs.Common.{◌≡◌, ℕ, ◌+◌, ◌<◌, ◌≤◌, List, [], ◌∷◌, ◌++◌, map, length, drop, slice_index_or, Bool, true, false, cond, ◌||◌, Option, Some, None, refl, sym, ap, ◌∙◌, append_assoc}
use Rattle.std.proofs.lemmas.List.{append-nil, drop_more, drop_all}
use Rattle.std.specs.{Prelude.{if◌then◌else◌, is_some, option_and_then, option_map, unwrap_or, pos}, List.{list_any}, Option.{option_or}, Ordering.{int_eq}}
use Rattle.std.specs.Str.{bytes_eq}
use Rattle.rio_format.specs.{declared.class.Member.{Member}, declared.kind.Kind.{Kind, TheVariants.{Plain, Counted, Other}}, declared.kind.Primitive.{Primitive}, declared.value.Value.{Value}}
use Rattle.rio_format.specs.Elements.{Element, base_of_element, counted_of, counters_behind, element_of, fixed_kind, kind_of, member_of, members_of, own_kind, primitive_by_code}

-- the same names are among them
abbrev pub HaveSame : List (List ℕ) → List (List ℕ) → Type 0
HaveSame cs ds = (other : List ℕ) → list_any (bytes_eq other) cs ≡ list_any (bytes_eq other) ds

and_then_same : {T U : Type 0} (f g : T → Option U) → ((x : T) → f x ≡ g x) → (o : Option T) → option_and_then f o ≡ option_and_then g o
and_then_same f g same None = refl
and_then_same f g same (Some x) = same x

module _ (cs ds : List (List ℕ)) (same : HaveSame cs ds) where
  counted_same : (counter : Option (List ℕ)) (of : Primitive) → counted_of cs counter of ≡ counted_of ds counter of
  counted_same None of = refl
  counted_same (Some name) of = ap (λ (b : Bool). if b then Some (Counted of name) else None) (same name)

  kind_same : (e : Element) → kind_of cs e ≡ kind_of ds e
  unfolding kind_of
  kind_same e =
      ap (λ (o : Option Kind). unwrap_or (option_or (option_map Plain (primitive_by_code e.code)) (option_or (fixed_kind e) (option_or o (own_kind e)))) (Other e.code))
      (and_then_same (counted_of cs e.counter) (counted_of ds e.counter) (counted_same e.counter) _)

  member_same : (e : Option Element) → member_of cs e ≡ member_of ds e
  member_same None = refl
  member_same (Some e) = ap (λ (kind : Kind). let m : Member = record { name = e.name; kind = kind; title = e.title } in m) (kind_same e)

  noted_same : (b : Bool) (name : List ℕ) → HaveSame (if b then name ∷ cs else cs) (if b then name ∷ ds else ds)
  noted_same true name other = ap (λ (b : Bool). bytes_eq other name || b) (same other)
  noted_same false name other = same other

  behind_same : (e : Option Element) → HaveSame (counters_behind e cs) (counters_behind e ds)
  behind_same None = same
  behind_same (Some e) = noted_same (int_eq e.code (pos 6)) e.name

cond_same : (b : Bool) (xs xs' : List Member) (m m' : Member) (ys ys' : List Member) → xs ≡ xs' → m ≡ m' → ys ≡ ys' → cond b xs (m ∷ ys) ≡ cond b xs' (m' ∷ ys')
cond_same true xs xs' m m' ys ys' p q r = p
cond_same false xs xs' m m' ys ys' p q r = ap (λ (n : Member). n ∷ ys) q ∙ ap (λ (zs : List Member). m' ∷ zs) r

-- which members there are depends on the names of the counters alone
pub members_same : (cs ds : List (List ℕ)) → HaveSame cs ds → (es : List (Option Element)) → members_of cs es ≡ members_of ds es
unfolding members_of
members_same cs ds same [] = refl
members_same cs ds same (e ∷ es) =
    cond_same (is_some (option_and_then base_of_element e)) _ _ _ _ _ _ (members_same cs ds same es) (member_same cs ds same e) (members_same (counters_behind e cs) (counters_behind e ds) (behind_same cs ds same e) es)

module _ (items : List Value) (i : ℕ) (front : List Member) (counters : List (List ℕ)) (total : List Member) (so_far : front ++ members_of counters (map element_of (drop i items)) ≡ total) where
  split : (item : Value) → i < length items → item ≡ slice_index_or items i item → drop i items ≡ item ∷ drop (i + 1) items
  split item lt e = drop_more items i item lt ∙ ap (λ (v : Value). v ∷ drop (i + 1) items) (sym e)

  -- an item that is a base
  pub passes : (item : Value) → i < length items → item ≡ slice_index_or items i item → is_some (option_and_then base_of_element (element_of item)) ≡ true → front ++ members_of counters (map element_of (drop (i + 1) items)) ≡ total
  unfolding members_of
  passes item lt e is =
      let one : members_of counters (map element_of (drop i items)) ≡ members_of counters (map element_of (drop (i + 1) items)) = rw (split item lt e, is) refl in
      ap (λ (ms : List Member). front ++ ms) (sym one) ∙ so_far

  -- an item that is a member, behind which these counters count
  pub goes_on : (item : Value) (next : List (List ℕ)) → i < length items → item ≡ slice_index_or items i item → is_some (option_and_then base_of_element (element_of item)) ≡ false → HaveSame next (counters_behind (element_of item) counters) → (front ++ member_of counters (element_of item) ∷ []) ++ members_of next (map element_of (drop (i + 1) items)) ≡ total
  unfolding members_of
  goes_on item next lt e is same =
      let one : members_of counters (map element_of (drop i items)) ≡ member_of counters (element_of item) ∷ members_of (counters_behind (element_of item) counters) (map element_of (drop (i + 1) items)) = rw (split item lt e, is) refl in
      let more = members_same next (counters_behind (element_of item) counters) same (map element_of (drop (i + 1) items)) in
      simp append_assoc (ap (λ (ms : List Member). front ++ (member_of counters (element_of item) ∷ ms)) more ∙ ap (λ (ms : List Member). front ++ ms) (sym one) ∙ so_far)

  pub done : length items ≤ i → front ≡ total
  unfolding members_of
  done le =
      let none : drop i items ≡ [] = drop_all i items le in
      let one : front ++ members_of counters (map element_of (drop i items)) ≡ front = rw none (append-nil front) in
      sym one ∙ so_far
