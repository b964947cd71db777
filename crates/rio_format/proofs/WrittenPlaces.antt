-- The words of pointers that stand before what is written.
use Rattle.std.proofs.Common.{◌≡◌, ℕ, zero, suc, ◌<◌, ◌≤◌, ℤ, Bool, true, false, cond, ltb, eqb, List, [], ◌∷◌, ◌++◌, length, get_or, Option, Some, nat_eq, position, refl, sym, ap, subst, ◌∙◌, one-add, arith}
use Rattle.std.proofs.{lemmas.Bool.{ne_eqb, eq-eqb, lt-ltb}, lemmas.List.{length-append}, lemmas.Slice.Eq.{bytes_eq-Decides}}
use Rattle.std.specs.{List.{find, list_any, position_or_len}, Map.{lookup}, Str.{bytes_eq}}
use Rattle.indexmap.specs.{IndexMap.{insert_entry}, IndexSet.{insert_key}}
use Rattle.rio_format.specs.{Fits.{Labels}, ReaderState.{WordsMet, no_words, with_label, with_name}}

-- ---- places in order

abbrev AllBelow : ℕ → List ℕ → Type 0
AllBelow p [] = Unit {0}
AllBelow p (x ∷ xs) = (x < p) × AllBelow p xs

abbrev AllAbove : ℕ → List ℕ → Type 0
AllAbove p [] = Unit {0}
AllAbove p (x ∷ xs) = (p < x) × AllAbove p xs

abbrev AreRising : List ℕ → Type 0
AreRising [] = Unit {0}
AreRising (x ∷ xs) = AllAbove x xs × AreRising xs

below_more : (p q : ℕ) (xs : List ℕ) → p ≤ q → AllBelow p xs → AllBelow q xs
below_more p q [] le h = tt
below_more p q (x ∷ xs) le h = (omega (arith, le, h.0), below_more p q xs le h.1)

below_push : (p q : ℕ) (xs : List ℕ) → p < q → AllBelow p xs → AllBelow q (xs ++ p ∷ [])
below_push p q [] lt h = (lt, tt)
below_push p q (x ∷ xs) lt h = (omega (arith, lt, h.0), below_push p q xs lt h.1)

above_push : (x p : ℕ) (xs : List ℕ) → x < p → AllAbove x xs → AllAbove x (xs ++ p ∷ [])
above_push x p [] lt h = (lt, tt)
above_push x p (y ∷ ys) lt h = (h.0, above_push x p ys lt h.1)

rising_push : (p : ℕ) (xs : List ℕ) → AllBelow p xs → AreRising xs → AreRising (xs ++ p ∷ [])
rising_push p [] below h = (tt, tt)
rising_push p (x ∷ xs) below h = (above_push x p xs below.0 h.0, rising_push p xs below.1 h.1)

-- a place behind all is none of them
none_is : (p : ℕ) (xs : List ℕ) → AllBelow p xs → list_any (nat_eq p) xs ≡ false
none_is p [] h = refl
none_is p (x ∷ xs) h =
    let ne : eqb p x ≡ false = ne_eqb _ _ (omega (arith, h.0)) in
    rw ne (none_is p xs h.1)

pub pushed : (p : ℕ) (xs : List ℕ) → AllBelow p xs → insert_key nat_eq xs p ≡ xs ++ p ∷ []
pushed p xs h = rw (none_is p xs h) refl

above_at : (x : ℕ) (xs : List ℕ) (k : ℕ) → k < length xs → AllAbove x xs → x < get_or xs k 0
above_at x [] k lt h = absurd (omega arith)
above_at x (y ∷ ys) zero lt h = h.0
above_at x (y ∷ ys) (suc k) lt h = above_at x ys k (omega arith) h.1

pub below_at : (p : ℕ) (xs : List ℕ) (k : ℕ) → k < length xs → AllBelow p xs → get_or xs k 0 < p
below_at p [] k lt h = absurd (omega arith)
below_at p (y ∷ ys) zero lt h = h.0
below_at p (y ∷ ys) (suc k) lt h = below_at p ys k (omega arith) h.1

place_of : (xs : List ℕ) (k : ℕ) → k < length xs → AreRising xs → position_or_len (nat_eq (get_or xs k 0)) xs ≡ k
place_of [] k lt h = absurd (omega arith)
place_of (x ∷ xs) zero lt h = let same : eqb x x ≡ true = eq-eqb x x refl in rw same refl
place_of (x ∷ xs) (suc k) lt h =
    let above : x < get_or xs k 0 = above_at x xs k (omega arith) h.0 in
    let ne : eqb (get_or xs k 0) x ≡ false = ne_eqb _ _ (omega (arith, above)) in
    rw (ne, one-add) (ap suc (place_of xs k (omega arith) h.1))

-- each place is found where it stands
pub position_of : (xs : List ℕ) (k : ℕ) → k < length xs → AreRising xs → position (nat_eq (get_or xs k 0)) xs ≡ Some k
position_of xs k lt h =
    let there : ltb k (length xs) ≡ true = lt-ltb _ _ lt in
    rw (place_of xs k lt h, there) refl

-- ---- names by places in order

abbrev pub Names : Type 0
Names = List (ℕ × List ℕ)

abbrev pub NamesBelow : ℕ → Names → Type 0
NamesBelow p [] = Unit {0}
NamesBelow p (e ∷ es) = (e.0 < p) × NamesBelow p es

abbrev NamesAbove : ℕ → Names → Type 0
NamesAbove p [] = Unit {0}
NamesAbove p (e ∷ es) = (p < e.0) × NamesAbove p es

abbrev NamesRising : Names → Type 0
NamesRising [] = Unit {0}
NamesRising (e ∷ es) = NamesAbove e.0 es × NamesRising es

pub names_more : (p q : ℕ) (es : Names) → p ≤ q → NamesBelow p es → NamesBelow q es
names_more p q [] le h = tt
names_more p q (e ∷ es) le h = (omega (arith, le, h.0), names_more p q es le h.1)

pub names_push : (p q : ℕ) (name : List ℕ) (es : Names) → p < q → NamesBelow p es → NamesBelow q (insert_entry nat_eq es p name)
names_push p q name [] lt h = (lt, tt)
names_push p q name (e ∷ es) lt h =
    let ne : eqb p e.0 ≡ false = ne_eqb _ _ (omega (arith, h.0)) in
    rw ne (omega (arith, lt, h.0), names_push p q name es lt h.1)

names_above_push : (x p : ℕ) (name : List ℕ) (es : Names) → x < p → NamesBelow p es → NamesAbove x es → NamesAbove x (insert_entry nat_eq es p name)
names_above_push x p name [] lt below h = (lt, tt)
names_above_push x p name (e ∷ es) lt below h =
    let ne : eqb p e.0 ≡ false = ne_eqb _ _ (omega (arith, below.0)) in
    rw ne (h.0, names_above_push x p name es lt below.1 h.1)

names_rising_push : (p : ℕ) (name : List ℕ) (es : Names) → NamesBelow p es → NamesRising es → NamesRising (insert_entry nat_eq es p name)
names_rising_push p name [] below h = (tt, tt)
names_rising_push p name (e ∷ es) below h =
    let ne : eqb p e.0 ≡ false = ne_eqb _ _ (omega (arith, below.0)) in
    rw ne (names_above_push e.0 p name es below.0 below.1 h.0, names_rising_push p name es below.1 h.1)

-- a name that was met stands at its place
pub record IsNamedBefore (p : ℕ) (class : List ℕ) (es : Names) (e : ℕ × List ℕ) : Type 0 where
  pub low : e.0 < p
  pub known : lookup (nat_eq e.0) es ≡ Some class

named_above : (x : ℕ) (class : List ℕ) (es : Names) (e : ℕ × List ℕ) → NamesAbove x es → find (λ e. bytes_eq e.1 class) es ≡ Some e → x < e.0
named_above x class [] e h f = absurd cc
named_above x class (d ∷ es) e h f = by (bytes_eq d.1 class) f (named_above x class es e h.1)
  where
    by : (b : Bool) → cond b (Some d) (find (λ e. bytes_eq e.1 class) es) ≡ Some e → (find (λ e. bytes_eq e.1 class) es ≡ Some e → x < e.0) → x < e.0
    by true f rest = let same : d ≡ e = cc in subst (λ (z : ℕ × List ℕ). x < z.0) same h.0
    by false f rest = rest f

pub named_before : (p : ℕ) (class : List ℕ) (es : Names) (e : ℕ × List ℕ) → NamesBelow p es → NamesRising es → find (λ e. bytes_eq e.1 class) es ≡ Some e → IsNamedBefore p class es e
named_before p class [] e below h f = absurd cc
named_before p class (d ∷ es) e below h f = by (bytes_eq d.1 class) refl f (named_before p class es e below.1 h.1)
  where
    by : (b : Bool) → bytes_eq d.1 class ≡ b → cond b (Some d) (find (λ e. bytes_eq e.1 class) es) ≡ Some e → (find (λ e. bytes_eq e.1 class) es ≡ Some e → IsNamedBefore p class es e) → IsNamedBefore p class (d ∷ es) e
    by true t f rest =
        let same : d ≡ e = cc in
        let found : eqb d.0 d.0 ≡ true = eq-eqb d.0 d.0 refl in
        let name : d.1 ≡ class = (bytes_eq-Decides d.1 class).0 t in
        let made : IsNamedBefore p class (d ∷ es) d = record { low = below.0; known = rw found (ap (λ (n : List ℕ). let o : Option (List ℕ) = Some n in o) name) } in
        subst (λ (z : ℕ × List ℕ). IsNamedBefore p class (d ∷ es) z) same made
    by false t f rest =
        let r = rest f in
        let above : d.0 < e.0 = named_above d.0 class es e h.0 f in
        let ne : eqb e.0 d.0 ≡ false = ne_eqb _ _ (omega (arith, above)) in
        record { low = r.low; known = rw ne r.known }

-- ---- words

-- the words stand before the place, and the labels are those of the objects
pub record Stands (labels : Labels) (p : ℕ) (t : WordsMet) : Type 0 where
  pub count : length t.labels ≡ length labels
  pub below : AllBelow p t.labels
  pub rising : AreRising t.labels
  pub names_below : NamesBelow p t.names
  pub names_rising : NamesRising t.names

pub stands_none : (p : ℕ) → Stands [] p no_words
stands_none p = record { count = refl; below = tt; rising = tt; names_below = tt; names_rising = tt }

pub stands_more : (labels : Labels) (p q : ℕ) (t : WordsMet) → p ≤ q → Stands labels p t → Stands labels q t
stands_more labels p q t le s = record { count = s.count; below = below_more p q t.labels le s.below; rising = s.rising; names_below = names_more p q t.names le s.names_below; names_rising = s.names_rising }

-- a name is met
pub stands_name : (labels : Labels) (p q : ℕ) (name : List ℕ) (t : WordsMet) → p < q → Stands labels p t → Stands labels q (with_name t p name)
stands_name labels p q name t lt s = record {
  count = s.count;
  below = below_more p q t.labels (omega (arith, lt)) s.below;
  rising = s.rising;
  names_below = names_push p q name t.names lt s.names_below;
  names_rising = names_rising_push p name t.names s.names_below s.names_rising;
}

-- an object gets the next label, from its place on, while names may be met behind
pub stands_label : (labels : Labels) (own : List ℕ × ℤ) (p q : ℕ) (t t1 : WordsMet) → p < q → Stands labels p t → t1.labels ≡ t.labels → Stands labels q t1 → Stands (labels ++ own ∷ []) q (with_label t1 p)
stands_label labels own p q t t1 lt before same s =
    let below : AllBelow p t1.labels = subst (AllBelow p) (sym same) before.below in
    let put = pushed p t1.labels below in
    record {
      count = ap length put ∙ omega (arith, s.count, length-append t1.labels (p ∷ []), length-append labels (own ∷ []));
      below = subst (AllBelow q) (sym put) (below_push p q t1.labels lt below);
      rising = subst AreRising (sym put) (rising_push p t1.labels below s.rising);
      names_below = s.names_below;
      names_rising = s.names_rising;
    }
