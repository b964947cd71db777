-- How long what is written is, apart from the names of classes that it spells out.
use Rattle.std.proofs.Common.{◌≡◌, ◌^◌, ◌-◌, ◌+◌, ℕ, ℤ, Bool, true, false, ◌||◌, codes, is_some, List, [], ◌∷◌, ◌++◌, length, Option, Some, None, refl, sym, ap, ◌∙◌, arith}
use Rattle.std.proofs.{lemmas.List.{length-append, Folds.{list_any-append}}, lemmas.Slice.Eq.{bytes_eq-Decides}, lemmas.Bool.{not-true, or_parts}}
use Rattle.std.specs.{Prelude.{if◌then◌else◌, not}, Int.{w16, cast_unsigned}, List.{find, list_any}, Str.{bytes_eq}}
use Rattle.byteorder.specs.Endian.{big_bytes}
use Rattle.rio_num.proofs.FreshNames.{is_one_of}
use Rattle.rio_format.specs.{ReaderState.{WordsMet, with_label, with_name}, Writer.{Writer, class_by, class_bytes}, Written.{both, counted, headed_bytes, just}}
use Rattle.rio_write.specs.{Measuring.{AreBelow}, Writing.{pointer_to}}
use Rattle.rio_write.proofs.MeasureLaws.{below_more, below_push, named_push}

-- ---- names

-- a class word among these spells out the name
abbrev pub is_met : WordsMet → List ℕ → Bool
is_met t class = is_some (find (λ e. bytes_eq e.1 class) t.names)

-- how many bytes those of the names have that are met, each with a zero byte
abbrev pub bytes_met : (List ℕ → Bool) → List (List ℕ) → ℕ
bytes_met met [] = 0
bytes_met met (k ∷ ks) = (if met k then length k + 1 else 0) + bytes_met met ks

-- the name stands once among these
abbrev pub stands_once : List ℕ → List (List ℕ) → Bool
stands_once class [] = false
stands_once class (k ∷ ks) = if bytes_eq class k then not (list_any (bytes_eq class) ks) else stands_once class ks

module _ (class : List ℕ) (met more : List ℕ → Bool) (one : (k : List ℕ) → more k ≡ (bytes_eq class k || met k)) where
  -- a name other than the one that is met now
  other_met : (k : List ℕ) → bytes_eq class k ≡ false → more k ≡ met k
  other_met k ne = one k ∙ ap (λ (b : Bool). b || met k) ne

  both_met : (k : List ℕ) (m n : ℕ) (b c : Bool) → b ≡ c → m ≡ n → (if b then length k + 1 else 0) + m ≡ (if c then length k + 1 else 0) + n
  both_met k m n b c e f = ap (λ (d : Bool). (if d then length k + 1 else 0) + m) e ∙ ap (λ (l : ℕ). (if c then length k + 1 else 0) + l) f

  others_met : (ks : List (List ℕ)) → list_any (bytes_eq class) ks ≡ false → bytes_met more ks ≡ bytes_met met ks
  others_met [] none = refl
  others_met (k ∷ ks) none =
      let parts = or_parts (bytes_eq class k) (list_any (bytes_eq class) ks) none in
      both_met k (bytes_met more ks) (bytes_met met ks) (more k) (met k) (other_met k parts.0) (others_met ks parts.1)

  module _ (unmet : met class ≡ false) where
    -- the name that is met now
    this_met : (k : List ℕ) (m n : ℕ) → bytes_eq class k ≡ true → m ≡ n → (if more k then length k + 1 else 0) + m ≡ (if met k then length k + 1 else 0) + n + (length class + 1)
    this_met k m n is e =
        let same : class ≡ k = (bytes_eq-Decides class k).0 is in
        let now : more k ≡ true = one k ∙ ap (λ (b : Bool). b || met k) is in
        let before : met k ≡ false = ap met (sym same) ∙ unmet in
        let len : length class ≡ length k = ap (λ (c : List ℕ). length c) same in
        rw (now, before) (omega (arith, len, e))

    once_met : (ks : List (List ℕ)) → stands_once class ks ≡ true → bytes_met more ks ≡ bytes_met met ks + (length class + 1)
    once_met [] once = absurd cc
    once_met (k ∷ ks) once = at (bytes_eq class k) refl once (λ h. once_met ks h)
      where
        at : (b : Bool) → bytes_eq class k ≡ b → (if b then not (list_any (bytes_eq class) ks) else stands_once class ks) ≡ true
            → (stands_once class ks ≡ true → bytes_met more ks ≡ bytes_met met ks + (length class + 1)) → bytes_met more (k ∷ ks) ≡ bytes_met met (k ∷ ks) + (length class + 1)
        at true e h rest = this_met k (bytes_met more ks) (bytes_met met ks) e (others_met ks (not-true (list_any (bytes_eq class) ks) h))
        at false e h rest =
            let here = both_met k (bytes_met more ks) (bytes_met more ks) (more k) (met k) (other_met k e) refl in
            let behind = rest h in
            omega (arith, here, behind)

-- ---- amounts

-- the classes that a class list's pointers are of
abbrev pub pointed_classes : List (List ℕ)
pointed_classes =
    codes "TStreamerInfo" ∷ codes "TObjArray" ∷ codes "TStreamerBase" ∷ codes "TStreamerBasicType" ∷ codes "TStreamerString" ∷ codes "TStreamerBasicPointer"
    ∷ codes "TStreamerObject" ∷ codes "TStreamerObjectAny" ∷ codes "TStreamerObjectPointer" ∷ codes "TStreamerObjectAnyPointer" ∷ []

-- their bytes that are met
unfoldable pub names_met : WordsMet → ℕ
names_met t = bytes_met (is_met t) pointed_classes

-- one of them is met for the first time
names_more : (class : List ℕ) (t u : WordsMet) → ((k : List ℕ) → is_met u k ≡ (bytes_eq class k || is_met t k)) → is_met t class ≡ false → stands_once class pointed_classes ≡ true → names_met u ≡ names_met t + (length class + 1)
unfolding names_met
names_more class t u one unmet once = once_met class (is_met t) (is_met u) one unmet pointed_classes once

-- so many bytes are written apart from the names, and from then on those of the used classes are met
pub record Amount (n : ℕ) (used : List (List ℕ)) (p : ℕ) (t : WordsMet) (a : List ℕ × WordsMet) : Type 0 where
  pub bytes : length a.0 + names_met t ≡ n + names_met a.1
  pub met : (class : List ℕ) → is_met a.1 class ≡ (is_one_of used class || is_met t class)
  pub below : AreBelow (p + length a.0) a.1.names

-- wherever it stands
abbrev pub Amounts : ℕ → List (List ℕ) → Writer → Type 0
Amounts n used write = (p : ℕ) (t : WordsMet) → AreBelow p t.names → Amount n used p t (write p t)

pub just_amounts : (bytes : List ℕ) → Amounts (length bytes) [] (just bytes)
just_amounts bytes p t below = record { bytes = refl; met = λ class. refl; below = below_more p (p + length bytes) t.names (omega arith) below }

or_behind : (a b c : Bool) → (b || (a || c)) ≡ ((a || b) || c)
or_behind true true c = refl
or_behind true false c = refl
or_behind false b c = refl

pub both_amounts : (m n : ℕ) (first second : List (List ℕ)) (f g : Writer) → Amounts m first f → Amounts n second g → Amounts (m + n) (first ++ second) (both f g)
both_amounts m n first second f g one two p t below =
    let a = f p t in
    let b = g (p + length a.0) a.1 in
    let before = one p t below in
    let behind = two (p + length a.0) a.1 before.below in
    let len = length-append a.0 b.0 in
    let total = before.bytes in
    let more = behind.bytes in
    record {
      bytes = omega (arith, len, total, more);
      met = λ class.
          behind.met class ∙ ap (λ (x : Bool). is_one_of second class || x) (before.met class) ∙ or_behind (is_one_of first class) (is_one_of second class) (is_met t class)
          ∙ ap (λ (x : Bool). x || is_met t class) (sym (list_any-append (λ k. bytes_eq k class) first second));
      below = below_more (p + length a.0 + length b.0) (p + length (a.0 ++ b.0)) b.1.names (omega (arith, len)) behind.below;
    }

-- ---- byte counts

-- a byte count stands before it
counted_more : (m n : ℕ) (used : List (List ℕ)) (p : ℕ) (t : WordsMet) (a : List ℕ × WordsMet) → n ≡ m + 4 → Amount m used (p + 4) t a → Amount n used p t (counted a)
counted_more m n used p t a more inside =
    let same = inside.bytes in
    record { bytes = omega (arith, same, more); met = inside.met; below = below_more (p + 4 + length a.0) (p + length (counted a).0) a.1.names (omega arith) inside.below }

-- an object with a header
pub headed_amounts : (version : ℤ) (n : ℕ) (used : List (List ℕ)) (body : Writer) → Amounts n used body → Amounts (6 + n) used (headed_bytes version body)
headed_amounts version n used body inside p t below =
    let front = just (big_bytes 2 (cast_unsigned w16 version)) in
    let a = both_amounts 2 n [] used front body (just_amounts (big_bytes 2 (cast_unsigned w16 version))) inside (p + 4) t (below_more p (p + 4) t.names (omega arith) below) in
    counted_more (2 + n) (6 + n) used p t (both front body (p + 4) t) (omega arith) a

-- ---- class words

named_before : (met b : Bool) → (b ≡ true → met ≡ true) → met ≡ ((b || false) || met)
named_before met true h = h refl
named_before met false h = refl

or_nothing : (a c : Bool) → (a || c) ≡ ((a || false) || c)
or_nothing true c = refl
or_nothing false c = refl

module _ (class : List ℕ) (once : stands_once class pointed_classes ≡ true) where
  word_amount : (p : ℕ) (t : WordsMet) (o : Option (ℕ × List ℕ)) → is_some o ≡ is_met t class → AreBelow p t.names → Amount 4 (class ∷ []) p t (class_by class o p t)
  word_amount p t None e below =
      let more = λ (k : List ℕ). named_push class p k t.names below in
      let met = names_more class t (with_name t p class) more (sym e) once in
      let len = length-append class (0 ∷ []) in
      record {
        bytes = omega (arith, met, len);
        met = λ k. more k ∙ or_nothing (bytes_eq class k) (is_met t k);
        below = below_push p (p + length (big_bytes 4 (2 ^ 32 - 1) ++ (class ++ 0 ∷ []))) class t.names (omega (arith, len)) below;
      }
  word_amount p t (Some x) e below = record {
    bytes = refl;
    met = λ k. named_before (is_met t k) (bytes_eq class k) (λ is. ap (is_met t) (sym ((bytes_eq-Decides class k).0 is)) ∙ sym e);
    below = below_more p (p + 4) t.names (omega arith) below;
  }

  pub class_amounts : Amounts 4 (class ∷ []) (class_bytes class)
  class_amounts p t below = word_amount p t (find (λ e. bytes_eq e.1 class) t.names) refl below

  -- a pointer to an object of the class
  pub pointer_amounts : (n : ℕ) (used : List (List ℕ)) (object : Writer) → Amounts n used object → Amounts (8 + n) (class ∷ used) (pointer_to class object)
  unfolding names_met
  pointer_amounts n used object inside p t below =
      let labelled_amounts : Amounts n used (λ q s. object q (with_label s p)) = λ q s h. let x = inside q (with_label s p) h in record { bytes = x.bytes; met = x.met; below = x.below } in
      let a = both_amounts 4 n (class ∷ []) used (class_bytes class) (λ q s. object q (with_label s p)) class_amounts labelled_amounts (p + 4) t (below_more p (p + 4) t.names (omega arith) below) in
      counted_more (4 + n) (8 + n) (class ∷ used) p t (both (class_bytes class) (λ q s. object q (with_label s p)) (p + 4) t) (omega arith) a

-- ---- lists

-- of all together
abbrev pub total : {X : Type 0} → (X → ℕ) → List X → ℕ
total cost [] = 0
total cost (x ∷ xs) = cost x + total cost xs

abbrev pub all_used : {X : Type 0} → (X → List (List ℕ)) → List X → List (List ℕ)
all_used used [] = []
all_used used (x ∷ xs) = used x ++ all_used used xs

pub total-append : {X : Type 0} (cost : X → ℕ) (xs ys : List X) → total cost (xs ++ ys) ≡ total cost xs + total cost ys
total-append cost [] ys = omega arith
total-append cost (x ∷ xs) ys =
    let rest = total-append cost xs ys in
    omega (arith, rest)
