-- Reading one thing after the other, as a loop does.
use Rattle.std.proofs.Common.{◌≡◌, ℕ, ◌+◌, ◌<◌, ◌≤◌, List, [], ◌∷◌, ◌++◌, length, drop, slice_index_or, Result, Ok, Err, refl, sym, ap, ◌∙◌, append_assoc}
use Rattle.std.proofs.lemmas.List.{append-nil, drop_more, drop_all}
use Rattle.rio_num.specs.{Reading.{◌>>=◌}, Layout.{each}, Meanings.{read}}
use Rattle.rio_format.specs.{Frames.{ObjLayout, Step}, ReaderState.{ReaderState}, declared.fault.ObjFault.{ObjFault}, declared.class.Member.{Member}, declared.kind.Kind.TheVariants.{Counter}, declared.value.Part.{Part}}
use Rattle.rio_format.specs.{Bodies.{Counters, counters_with}, Objects.{Objects, kind_value, member_part, member_parts}}
use Rattle.rio_read.specs.{Lists.{with_front}, Members.{counter_part}}

module _ {Y S E : Type 0} where
  pub with_front-more : (front : List Y) (y : Y) (given : Result (List Y × S) E) → with_front front (given >>= λ ys. Ok (y ∷ ys.0, ys.1)) ≡ with_front (front ++ y ∷ []) given
  with_front-more front y (Ok ys) = ap (λ (l : List Y). let r : Result (List Y × S) E = Ok (l, ys.1) in r) (simp append_assoc)
  with_front-more front y (Err e) = refl

  pub with_front-none : (given : Result (List Y × S) E) → with_front [] given ≡ given
  with_front-none (Ok ys) = refl
  with_front-none (Err e) = refl

-- a loop over a list
module _ {X Y : Type 0} (f : X → ObjLayout Y) (xs : List X) (i : ℕ) (front : List Y) (s : ReaderState) (total : Step (List Y)) where
  pub each_goes_on : (x : X) (y : Y) (s1 : ReaderState) → i < length xs → x ≡ slice_index_or xs i x → read (f x) s ≡ Ok (y, s1) → with_front front (read (each f (drop i xs)) s) ≡ total → with_front (front ++ y ∷ []) (read (each f (drop (i + 1) xs)) s1) ≡ total
  unfolding each
  each_goes_on x y s1 lt e h so_far =
      let split : drop i xs ≡ x ∷ drop (i + 1) xs = drop_more xs i x lt ∙ ap (λ (z : X). z ∷ drop (i + 1) xs) (sym e) in
      let one : with_front front (read (each f (drop i xs)) s) ≡ with_front (front ++ y ∷ []) (read (each f (drop (i + 1) xs)) s1) = rw (split, h) (with_front-more front y (read (each f (drop (i + 1) xs)) s1)) in
      sym one ∙ so_far

  pub each_fails : (x : X) (d : ObjFault) → i < length xs → x ≡ slice_index_or xs i x → read (f x) s ≡ Err d → with_front front (read (each f (drop i xs)) s) ≡ total → total ≡ Err d
  unfolding each
  each_fails x d lt e h so_far =
      let split : drop i xs ≡ x ∷ drop (i + 1) xs = drop_more xs i x lt ∙ ap (λ (z : X). z ∷ drop (i + 1) xs) (sym e) in
      let one : with_front front (read (each f (drop i xs)) s) ≡ Err d = rw (split, h) refl in
      sym so_far ∙ one

  pub each_done : length xs ≤ i → with_front front (read (each f (drop i xs)) s) ≡ total → total ≡ Ok (front, s)
  unfolding each
  each_done le so_far =
      let none : drop i xs ≡ [] = drop_all i xs le in
      let one : with_front front (read (each f (drop i xs)) s) ≡ Ok (front, s) = rw none (ap (λ (ys : List Y). let r : Step (List Y) = Ok (ys, s) in r) (append-nil front)) in
      sym so_far ∙ one

-- a counter among the members
pub counter_member : (object : Objects) (counters : Counters) (m : Member) (s : ReaderState) → m.kind ≡ Counter → read (member_part object counters m) s ≡ read (counter_part m.name) s
unfolding member_part kind_value counter_part
counter_member object counters m s e = rw e refl

-- a loop over members
module _ (object : Objects) (ms : List Member) (i : ℕ) (front : List Part) (s : ReaderState) (counters : Counters) (total : Step (List Part)) where
  pub members_go_on : (m : Member) (p : Part) (s1 : ReaderState) (met : Counters) → i < length ms → m ≡ slice_index_or ms i m → read (member_part object counters m) s ≡ Ok (p, s1) → met ≡ counters_with m p.value counters → with_front front (read (member_parts object counters (drop i ms)) s) ≡ total
      → with_front (front ++ p ∷ []) (read (member_parts object met (drop (i + 1) ms)) s1) ≡ total
  unfolding member_parts
  members_go_on m p s1 met lt e h is so_far =
      let split : drop i ms ≡ m ∷ drop (i + 1) ms = drop_more ms i m lt ∙ ap (λ (z : Member). z ∷ drop (i + 1) ms) (sym e) in
      let one : with_front front (read (member_parts object counters (drop i ms)) s) ≡ with_front (front ++ p ∷ []) (read (member_parts object met (drop (i + 1) ms)) s1) =
      rw (split, h, is) (with_front-more front p (read (member_parts object (counters_with m p.value counters) (drop (i + 1) ms)) s1)) in
      sym one ∙ so_far

  pub members_fail : (m : Member) (d : ObjFault) → i < length ms → m ≡ slice_index_or ms i m → read (member_part object counters m) s ≡ Err d → with_front front (read (member_parts object counters (drop i ms)) s) ≡ total → total ≡ Err d
  unfolding member_parts
  members_fail m d lt e h so_far =
      let split : drop i ms ≡ m ∷ drop (i + 1) ms = drop_more ms i m lt ∙ ap (λ (z : Member). z ∷ drop (i + 1) ms) (sym e) in
      let one : with_front front (read (member_parts object counters (drop i ms)) s) ≡ Err d = rw (split, h) refl in
      sym so_far ∙ one

  pub members_done : length ms ≤ i → with_front front (read (member_parts object counters (drop i ms)) s) ≡ total → total ≡ Ok (front, s)
  unfolding member_parts
  members_done le so_far =
      let none : drop i ms ≡ [] = drop_all i ms le in
      let one : with_front front (read (member_parts object counters (drop i ms)) s) ≡ Ok (front, s) = rw none (ap (λ (ps : List Part). let r : Step (List Part) = Ok (ps, s) in r) (append-nil front)) in
      sym so_far ∙ one
