-- What is written is no longer than what was read, with the same names of classes met behind it: single things, and one behind the other.
use Rattle.std.proofs.Common.{◌≡◌, ℕ, ◌+◌, ◌-◌, ◌^◌, ◌<◌, ◌≤◌, ℤ, Bool, true, false, cond, ◌||◌, List, [], ◌∷◌, ◌++◌, length, Option, Some, None, nat_eq, refl, sym, ap, subst, ◌∙◌, arith}
use Rattle.std.proofs.{lemmas.Bool.{or_right}, lemmas.List.{length-append}, lemmas.Slice.Eq.{bytes_eq-Decides}}
use Rattle.std.specs.{List.{find}, Map.{lookup}, Int.{w16, cast_unsigned}, Str.{bytes_eq}}
use Rattle.byteorder.specs.{Endian.{big_bytes}, Numbers.{length-bytes_high_first}}
use Rattle.rio_format.specs.{ReaderState.{WordsMet, with_label, with_name}, Writer.{Writer, class_by, class_bytes}, declared.kind.Kind.TheVariants.{Inline}}
use Rattle.rio_format.specs.{Slots.{kinded}, Written.{Writing, both, headed_bytes, just, labelled, pointed_bytes}}
use Rattle.rio_format.proofs.WrittenPlaces.{Names, names_more, names_push}
use Rattle.rio_tree.proofs.WrittenLengths.{Alike, alike_later, is_named, named_alike, named_found, named_push, not_named, pushed}

-- Read were these bytes, from a place on and behind these words, with the words behind them; written is at most as much.
pub record IsAhead (p : ℕ) (b : List ℕ) (t' : WordsMet) (q : ℕ) (a : List ℕ × WordsMet) : Type 0 where
  pub short : length a.0 ≤ length b
  pub alike : Alike (p + length b) t' (q + length a.0) a.1

-- so it is wherever the same names are known before
abbrev pub Ahead : Writer → ℕ → WordsMet → List ℕ → WordsMet → Type 0
Ahead f p t b t' = (q : ℕ) (u : WordsMet) → Alike p t q u → IsAhead p b t' q (f q u)

-- ---- one behind the other

-- of the same bytes, put together in another way
pub ahead_as : (f : Writer) (p : ℕ) (t t' : WordsMet) (b c : List ℕ) → b ≡ c → Ahead f p t b t' → Ahead f p t c t'
ahead_as f p t t' b c same one = subst (λ (x : List ℕ). Ahead f p t x t') same one

pub ahead_just : (xs b : List ℕ) (p : ℕ) (t : WordsMet) → length xs ≤ length b → Ahead (just xs) p t b t
ahead_just xs b p t le q u h = record { short = le; alike = alike_later p (p + length b) q (q + length xs) t u (omega arith) (omega arith) h }

pub ahead_both : (f g : Writer) (p : ℕ) (t t1 t2 : WordsMet) (b c : List ℕ) → Ahead f p t b t1 → Ahead g (p + length b) t1 c t2 → Ahead (both f g) p t (b ++ c) t2
ahead_both f g p t t1 t2 b c one two q u h =
    let a = f q u in
    let first = one q u h in
    let x = g (q + length a.0) a.1 in
    let second = two (q + length a.0) a.1 first.alike in
    let lb = length-append b c in
    let la = length-append a.0 x.0 in
    record {
      short = omega (arith, lb, la, first.short, second.short);
      alike = alike_later (p + length b + length c) (p + length (b ++ c)) (q + length a.0 + length x.0) (q + length (a.0 ++ x.0)) t2 x.1 (omega (arith, lb)) (omega (arith, la)) second.alike;
    }

-- bytes before, for which nothing is written
pub ahead_before : (f : Writer) (p : ℕ) (t t' : WordsMet) (c b : List ℕ) → Ahead f (p + length c) t b t' → Ahead f p t (c ++ b) t'
ahead_before f p t t' c b one q u h =
    let first = one q u (alike_later p (p + length c) q q t u (omega arith) (omega arith) h) in
    let a = f q u in
    let l = length-append c b in
    record {
      short = omega (arith, l, first.short);
      alike = alike_later (p + length c + length b) (p + length (c ++ b)) (q + length a.0) (q + length a.0) t' a.1 (omega (arith, l)) (omega arith) first.alike;
    }

-- and behind
pub ahead_behind : (f : Writer) (p : ℕ) (t t' : WordsMet) (b c : List ℕ) → Ahead f p t b t' → Ahead f p t (b ++ c) t'
ahead_behind f p t t' b c one q u h =
    let first = one q u h in
    let a = f q u in
    let l = length-append b c in
    record {
      short = omega (arith, l, first.short);
      alike = alike_later (p + length b) (p + length (b ++ c)) (q + length a.0) (q + length a.0) t' a.1 (omega (arith, l)) (omega arith) first.alike;
    }

-- ---- counts

-- a byte count and a version before what is counted
pub ahead_headed : (version : ℤ) (f : Writer) (p : ℕ) (t t' : WordsMet) (word stated b : List ℕ) → length word ≡ 4 → 2 ≤ length stated
    → Ahead f (p + length word + length stated) t b t' → Ahead (headed_bytes version f) p t (word ++ (stated ++ b)) t'
ahead_headed version f p t t' word stated b four two one q u h =
    let own = big_bytes 2 (cast_unsigned w16 version) in
    let start = q + 4 + length own in
    let a = f start u in
    let inner = one start u (alike_later p (p + length word + length stated) q start t u (omega arith) (omega arith) h) in
    let count = big_bytes 4 (length (own ++ a.0) + 2 ^ 30) in
    let lw = length-bytes_high_first 4 (length (own ++ a.0) + 2 ^ 30) in
    let lo = length-bytes_high_first 2 (cast_unsigned w16 version) in
    let l1 = length-append count (own ++ a.0) in
    let l2 = length-append own a.0 in
    let l3 = length-append word (stated ++ b) in
    let l4 = length-append stated b in
    record {
      short = omega (arith, lw, lo, l1, l2, l3, l4, four, two, inner.short);
      alike = alike_later (p + length word + length stated + length b) (p + length (word ++ (stated ++ b))) (start + length a.0) (q + length (count ++ (own ++ a.0))) t' a.1
          (omega (arith, l3, l4)) (omega (arith, l1, l2, lw)) inner.alike;
    }

-- ---- class words

-- a name that is spelled out
ahead_named : (class b : List ℕ) (p q : ℕ) (t u : WordsMet) → 0 < length b → Alike p t q u → is_named class u.names ≡ true → Alike (p + length b) (with_name t p class) (q + 4) u
ahead_named class b p q t u some h known = record {
  left = names_push p (p + length b) class t.names (omega (arith, some)) h.left;
  right = names_more q (q + 4) u.names (omega arith) h.right;
  same = λ c. ap (is_named c) (pushed p class t.names h.left) ∙ named_push c class p t.names ∙ by c (bytes_eq class c) refl;
}
  where
    or_true : (b : Bool) → (b || true) ≡ true
    or_true true = refl
    or_true false = refl

    or_false : (b : Bool) → (b || false) ≡ b
    or_false true = refl
    or_false false = refl

    by : (c : List ℕ) (b : Bool) → bytes_eq class c ≡ b → (is_named c t.names || b) ≡ is_named c u.names
    by c true e = or_true (is_named c t.names) ∙ sym (subst (λ (k : List ℕ). is_named k u.names ≡ true) ((bytes_eq-Decides class c).0 e) known)
    by c false e = or_false (is_named c t.names) ∙ h.same c

pub ahead_new : (class b : List ℕ) (p : ℕ) (t : WordsMet) → length b ≡ 5 + length class → Ahead (class_bytes class) p t b (with_name t p class)
ahead_new class b p t long q u h = by (find (λ e. bytes_eq e.1 class) u.names) refl
  where
    by : (o : Option (ℕ × List ℕ)) → find (λ e. bytes_eq e.1 class) u.names ≡ o → IsAhead p b (with_name t p class) q (class_by class o q u)
    by None none =
        let word = big_bytes 4 (2 ^ 32 - 1) in
        let l1 = length-append word (class ++ 0 ∷ []) in
        let l2 = length-append class (0 ∷ []) in
        let n = 5 + length class in
        record {
          short = omega (arith, long, l1, l2);
          alike = alike_later (p + n) (p + length b) (q + n) (q + length (word ++ (class ++ 0 ∷ []))) (with_name t p class) (with_name u q class) (omega (arith, long)) (omega (arith, l1, l2))
              (named_alike class p q n t u (omega arith) h);
        }
    by (Some e) some =
        let word = big_bytes 4 (e.0 + (2 ^ 31 + 2)) in
        let l = length-bytes_high_first 4 (e.0 + (2 ^ 31 + 2)) in
        record {
          short = omega (arith, long, l);
          alike = alike_later (p + length b) (p + length b) (q + 4) (q + length word) (with_name t p class) u (omega arith) (omega (arith, l))
              (ahead_named class b p q t u (omega (arith, long)) h (named_found class u.names e some));
        }

-- a name that was met before
pub ahead_known : (class b : List ℕ) (p : ℕ) (t : WordsMet) → 4 ≤ length b → is_named class t.names ≡ true → Ahead (class_bytes class) p t b t
ahead_known class b p t long known q u h = by (find (λ e. bytes_eq e.1 class) u.names) refl
  where
    by : (o : Option (ℕ × List ℕ)) → find (λ e. bytes_eq e.1 class) u.names ≡ o → IsAhead p b t q (class_by class o q u)
    by None none = let a = not_named class u.names none in let c = h.same class in absurd cc
    by (Some e) some =
        let word = big_bytes 4 (e.0 + (2 ^ 31 + 2)) in
        let l = length-bytes_high_first 4 (e.0 + (2 ^ 31 + 2)) in
        record {
          short = omega (arith, long, l);
          alike = alike_later p (p + length b) q (q + length word) t u (omega arith) (omega arith) h;
        }

-- a name that stands at a place among those that were met
pub looked_up : (place : ℕ) (class : List ℕ) (es : Names) → lookup (nat_eq place) es ≡ Some class → is_named class es ≡ true
looked_up place class [] e = absurd cc
looked_up place class (x ∷ es) e = by (nat_eq place x.0) e (looked_up place class es)
  where
    by : (b : Bool) → cond b (Some x.1) (lookup (nat_eq place) es) ≡ Some class → (lookup (nat_eq place) es ≡ Some class → is_named class es ≡ true) → is_named class (x ∷ es) ≡ true
    by true e rest = let same : x.1 ≡ class = cc in ap (λ b. b || is_named class es) ((bytes_eq-Decides x.1 class).1 same)
    by false e rest = or_right (bytes_eq x.1 class) (is_named class es) (rest e)

-- ---- pointers

-- An object that begins there has a label from then on; the labels are no names.
pub ahead_labelled : (f : Writer) (i j p : ℕ) (t t' : WordsMet) (b : List ℕ) → Ahead f p (with_label t i) b t' → Ahead (labelled j f) p t b t'
ahead_labelled f i j p t t' b one q u h = one q (with_label u j) (record { left = h.left; right = h.right; same = h.same })

-- a byte count, a class word and an object
pub ahead_pointed : (w : Writing) (i p : ℕ) (t t1 t' : WordsMet) (word class b : List ℕ) → length word ≡ 4 → Ahead (class_bytes w.class) (p + length word) t class t1
    → Ahead (w.bytes (kinded (Inline w.class))) (p + length word + length class) (with_label t1 i) b t' → Ahead (pointed_bytes w) p t (word ++ (class ++ b)) t'
ahead_pointed w i p t t1 t' word class b four first inner q u h =
    let own = w.bytes (kinded (Inline w.class)) in
    let both_of = ahead_both (class_bytes w.class) (labelled q own) (p + length word) t t1 t' class b first (ahead_labelled own i q (p + length word + length class) t1 t' b inner) in
    let a = both (class_bytes w.class) (labelled q own) (q + 4) u in
    let r = both_of (q + 4) u (alike_later p (p + length word) q (q + 4) t u (omega arith) (omega arith) h) in
    let count = big_bytes 4 (length a.0 + 2 ^ 30) in
    let lc = length-bytes_high_first 4 (length a.0 + 2 ^ 30) in
    let l1 = length-append count a.0 in
    let l2 = length-append word (class ++ b) in
    record {
      short = omega (arith, lc, l1, l2, four, r.short);
      alike = alike_later (p + length word + length (class ++ b)) (p + length (word ++ (class ++ b))) (q + 4 + length a.0) (q + length (count ++ a.0)) t' a.1
          (omega (arith, l2)) (omega (arith, lc, l1)) r.alike;
    }
