-- How first tokens that can't stand are found, one reading after the other.
use Rattle.std.proofs.Common.{◌≡◌, ◌⊎◌, inl, inr, ℕ, suc, ◌+◌, ◌-◌, List, [], ◌∷◌, ◌++◌, length, slice_index, Bool, true, false, ◌==◌, Option, Some, None, Result, Ok, Err, refl, sym, ap, subst, ◌∙◌, arith, append_assoc, length-append}
use Rattle.std.proofs.{lemmas.Bool.{and_left, and_right}, lemmas.List.{append-nil}}
use Rattle.std.specs.List.{prefix_len}
use Rattle.rio_num.specs.{At.{At}, Reading.{◌>>=◌, some_if}, Word.{is_blank_byte, is_word_byte}}
use Rattle.rio_leaf.specs.declared.fault.LeafFault.{LeafFault, TheVariants.{BadLeaf}}
use Rattle.rio_leaf.specs.Reading.{ReadLeaf, bad_leaf_at, begins_with, byte_at, found_at, from_place, no_more_at, said_at, word_length}
use Rattle.rio_leaf.specs.ToldPlaces.{NoWordGoesOn, next_token}
use Rattle.rio_leaf.proofs.TokenLaws.{same_begins, same_behind, same_blanks, same_empty, same_word, word_of}

-- ---- what is apart

-- whether the last byte is one of a word
abbrev pub ends_in_word : List ℕ → Bool
ends_in_word [] = false
ends_in_word (b ∷ []) = is_word_byte b
ends_in_word (b ∷ c ∷ bs) = ends_in_word (c ∷ bs)

abbrev pub NoWordRuns : List ℕ → List ℕ → Type 0
NoWordRuns front behind = (ends_in_word front ≡ false) ⊎ (word_length behind ≡ 0)

last_is : (bs : List ℕ) → is_word_byte (slice_index bs (length bs - 1)) ≡ ends_in_word bs
last_is [] = refl
last_is (b ∷ []) = refl
last_is (b ∷ c ∷ bs) =
    let place : length (b ∷ c ∷ bs) - 1 ≡ suc (length (c ∷ bs) - 1) = omega arith in
    ap (λ (k : ℕ). is_word_byte (slice_index (b ∷ c ∷ bs) k)) place ∙ last_is (c ∷ bs)

first_by : (b : ℕ) (bs : List ℕ) (t : Bool) → is_word_byte b ≡ t → word_length (b ∷ bs) ≡ 0 → t ≡ false
first_by b bs true t h = absurd (let some : 1 + word_length bs ≡ 0 = rw t at h in omega arith)
first_by b bs false t h = refl

first_is : (bs : List ℕ) → word_length bs ≡ 0 → is_word_byte (slice_index bs 0) ≡ false
first_is [] h = refl
first_is (b ∷ bs) h = first_by b bs (is_word_byte b) refl h

pub apart_by : (front behind : List ℕ) → NoWordRuns front behind → NoWordGoesOn front behind
apart_by front behind (inl h) = and_left _ _ (last_is front ∙ h)
apart_by front behind (inr h) = and_right _ _ (first_is behind h)

pub ends_behind : (f : List ℕ) (b : ℕ) (bs : List ℕ) → ends_in_word (f ++ b ∷ bs) ≡ ends_in_word (b ∷ bs)
ends_behind [] b bs = refl
ends_behind (c ∷ []) b bs = refl
ends_behind (c ∷ d ∷ f) b bs = ends_behind (d ∷ f) b bs

pub ends_both : (f g : List ℕ) → ends_in_word f ≡ false → ends_in_word g ≡ false → ends_in_word (f ++ g) ≡ false
ends_both f [] h k = ap ends_in_word (append-nil f) ∙ h
ends_both f (b ∷ bs) h k = ends_behind f b bs ∙ k

pub apart_behind : (f g rest : List ℕ) → NoWordRuns f (g ++ rest) → NoWordRuns g rest → NoWordRuns (f ++ g) rest
apart_behind f [] rest here h = subst (λ (xs : List ℕ). NoWordRuns xs rest) (sym (append-nil f)) here
apart_behind f (b ∷ bs) rest here (inl h) = inl (ends_behind f b bs ∙ h)
apart_behind f (b ∷ bs) rest here (inr h) = inr h

-- ---- a token that can't stand

-- so far on, where the front and the blanks behind it are passed
abbrev pub place_behind : ℕ → List ℕ → List ℕ → ℕ
place_behind p front behind = p + (length front + prefix_len is_blank_byte behind)

-- A reader fails at a token behind the front, and does so whatever stands behind that token.
pub record Told {A : Type 0} (r : At → ReadLeaf A) (P : List ℕ → Type 0) (s : At) (e : LeafFault) : Type 0 where
  pub front : List ℕ
  pub behind : List ℕ
  pub parts : s.rest ≡ front ++ behind
  pub told : e ≡ BadLeaf (place_behind s.place front behind)
  pub always : (p : ℕ) (q : List ℕ) → next_token q ≡ next_token behind → r (from_place p (front ++ q)) ≡ Err (BadLeaf (place_behind p front behind))
  pub apart : NoWordRuns front behind
  pub begins : P front

pub err_is : {A : Type 0} (d e : LeafFault) → (let x : Result A LeafFault = Err d in x ≡ Err e) → d ≡ e
err_is d e h = cc

found_bad : {A : Type 0} (o : Option A) (n : ℕ) (s : At) (e : LeafFault) → found_at o n s ≡ Err e → (o ≡ None) × (e ≡ BadLeaf (s.place + prefix_len is_blank_byte s.rest))
found_bad {A} None n s e h = (refl, sym (err_is {A = A × At} (BadLeaf (s.place + prefix_len is_blank_byte s.rest)) e h))
found_bad (Some x) n s e h = absurd cc

none_bad : {A : Type 0} (o : Option A) (n : ℕ) (s : At) → o ≡ None → found_at o n s ≡ bad_leaf_at s
none_bad o n s h = rw h refl

module _ {A : Type 0} (f : List ℕ → Option A) (g : List ℕ → ℕ) (P : List ℕ → Type 0) (s : At) (e : LeafFault) where
  -- the next token, which says nothing
  found_told : ((q r : List ℕ) → next_token q ≡ next_token r → f q ≡ f r) → P [] → found_at (f s.rest) (g s.rest) s ≡ Err e → Told (λ t. found_at (f t.rest) (g t.rest) t) P s e
  found_told alike empty h =
      let bad = found_bad (f s.rest) (g s.rest) s e h in
      let here : s.place + prefix_len is_blank_byte s.rest ≡ place_behind s.place [] s.rest = omega arith in
      record {
        front = [];
        behind = s.rest;
        parts = refl;
        told = bad.1 ∙ ap (λ (n : ℕ). let d : LeafFault = BadLeaf n in d) here;
        always = λ p q same.
            let place : p + prefix_len is_blank_byte q ≡ place_behind p [] s.rest = omega (arith, same_blanks q s.rest same) in
            none_bad (f q) (g q) (from_place p q) (alike q s.rest same ∙ bad.0) ∙ ap (λ (n : ℕ). let d : ReadLeaf A = Err (BadLeaf n) in d) place;
        apart = inl refl;
        begins = empty;
      }

module _ (P : List ℕ → Type 0) (s : At) (e : LeafFault) (empty : P []) where
  pub said_told : {A : Type 0} (says : List ℕ → Option A) → said_at says s ≡ Err e → Told (said_at says) P s e
  unfolding said_at
  said_told says h = found_told (λ q. says (word_of q)) word_length P s e (λ q r same. ap says (same_word q r same)) empty h

  pub byte_told : (b : ℕ) → byte_at b s ≡ Err e → Told (byte_at b) P s e
  unfolding byte_at
  byte_told b h = found_told (λ q. some_if (begins_with b q) tt) (λ q. 1) P s e (λ q r same. ap (λ (t : Bool). some_if t tt) (same_begins q r same b)) empty h

  pub end_told : no_more_at s ≡ Err e → Told no_more_at P s e
  unfolding no_more_at
  end_told h = found_told (λ q. some_if (length q == 0) tt) (λ q. 0) P s e (λ q r same. ap (λ (t : Bool). some_if t tt) (same_empty q r same)) empty h

-- ---- one reading after the other

module _ {A B : Type 0} (r : At → ReadLeaf A) (r2 : At → ReadLeaf B) (P : List ℕ → Type 0) (s : At) (e : LeafFault) where
  -- the first fails
  pub told_first : ((t : At) (g : LeafFault) → r2 t ≡ Err g → r t ≡ Err g) → Told r2 P s e → Told r P s e
  told_first fails b = record {
    front = b.front;
    behind = b.behind;
    parts = b.parts;
    told = b.told;
    always = λ p q same. fails (from_place p (b.front ++ q)) _ (b.always p q same);
    apart = b.apart;
    begins = b.begins;
  }

  -- some was passed, and then it fails
  pub told_behind : (passed : List ℕ) (m : At) → s.rest ≡ passed ++ m.rest → m.place ≡ s.place + length passed → NoWordRuns passed m.rest
      → ((p : ℕ) (q : List ℕ) (g : LeafFault) → next_token q ≡ next_token m.rest → r2 (from_place (p + length passed) q) ≡ Err g → r (from_place p (passed ++ q)) ≡ Err g)
      → Told r2 (λ ms. P (passed ++ ms)) m e → Told r P s e
  told_behind passed m parts place apart pass b = record {
    front = passed ++ b.front;
    behind = b.behind;
    parts = parts ∙ ap (λ (bs : List ℕ). passed ++ bs) b.parts ∙ sym (append_assoc passed b.front b.behind);
    told = b.told ∙ ap (λ (n : ℕ). let d : LeafFault = BadLeaf n in d) (let n : place_behind m.place b.front b.behind ≡ place_behind s.place (passed ++ b.front) b.behind = omega (arith, place, length-append passed b.front) in n);
    always = λ p q same.
        let next : next_token (b.front ++ q) ≡ next_token m.rest = same_behind b.front q b.behind same ∙ ap next_token (sym b.parts) in
        let n : place_behind (p + length passed) b.front b.behind ≡ place_behind p (passed ++ b.front) b.behind = omega (arith, length-append passed b.front) in
        ap (λ (bs : List ℕ). r (from_place p bs)) (append_assoc passed b.front q)
        ∙ pass p (b.front ++ q) _ next (b.always (p + length passed) q same)
        ∙ ap (λ (k : ℕ). let d : ReadLeaf A = Err (BadLeaf k) in d) n;
    apart = apart_behind passed b.front b.behind (subst (NoWordRuns passed) b.parts apart) b.apart;
    begins = b.begins;
  }

pub bind_bad : {A : Type 0} (B : Type 0) (r : Result A LeafFault) (f : A → Result B LeafFault) (e : LeafFault) → (r >>= f) ≡ Err e → (r ≡ Err e) ⊎ ((x : A) × (r ≡ Ok x) × (f x ≡ Err e))
bind_bad B (Ok x) f e h = inr (x, refl, h)
bind_bad {A} B (Err d) f e h = inl (ap (λ (g : LeafFault). let y : Result A LeafFault = Err g in y) (err_is {A = B} d e h))

-- what a reader read, and reads again where the same token comes next
pub record Known {A : Type 0} (Says : A → List ℕ → Type 0) (r : At → ReadLeaf A) (s : At) (x : A) (m : At) : Type 0 where
  pub passed : List ℕ
  pub is : Says x passed
  pub parts : s.rest ≡ passed ++ m.rest
  pub place : m.place ≡ s.place + length passed
  pub apart : NoWordRuns passed m.rest
  pub again : (p : ℕ) (q : List ℕ) → next_token q ≡ next_token m.rest → r (from_place p (passed ++ q)) ≡ Ok (x, from_place (p + length passed) q)

fails_first : {A B : Type 0} (r : ReadLeaf A) (f : A × At → ReadLeaf B) (g : LeafFault) → r ≡ Err g → (r >>= f) ≡ Err g
fails_first r f g h = rw h refl

goes_on : {A B : Type 0} (r : ReadLeaf A) (f : A × At → ReadLeaf B) (x : A × At) (g : LeafFault) → r ≡ Ok x → f x ≡ Err g → (r >>= f) ≡ Err g
goes_on r f x g h k = rw h k

module _ {A : Type 0} (B : Type 0) (Says : A → List ℕ → Type 0) (r : At → ReadLeaf A) (f : A → At → ReadLeaf B) (P : List ℕ → Type 0) (s : At) (e : LeafFault) where
  pub bind_told : (r s ≡ Err e → Told r P s e) → ((x : A) (m : At) → r s ≡ Ok (x, m) → Known Says r s x m)
      → ((x : A) (m : At) (passed : List ℕ) → Says x passed → f x m ≡ Err e → Told (f x) (λ ms. P (passed ++ ms)) m e)
      → (r s >>= λ y. f y.0 y.1) ≡ Err e → Told (λ t. r t >>= λ y. f y.0 y.1) P s e
  bind_told first known rest h = elim (bind_bad (B × At) (r s) (λ y. f y.0 y.1) e h) [
    | inl bad ↦ told_first (λ t. r t >>= λ y. f y.0 y.1) r P s e (λ t g. fails_first (r t) (λ y. f y.0 y.1) g) (first bad)
    | inr w ↦
        let k = known w.0.0 w.0.1 w.1 in
        told_behind (λ t. r t >>= λ y. f y.0 y.1) (f w.0.0) P s e k.passed w.0.1 k.parts k.place k.apart
        (λ p q g next bad. goes_on (r (from_place p (k.passed ++ q))) (λ y. f y.0 y.1) (w.0.0, from_place (p + length k.passed) q) g (k.again p q next) bad)
        (rest w.0.0 w.0.1 k.passed k.is w.2)
  ]

handed_bad : {A B : Type 0} (r : ReadLeaf A) (f : A × At → B × At) (e : LeafFault) → (r >>= λ y. Ok (f y)) ≡ Err e → r ≡ Err e
handed_bad (Ok x) f e h = absurd cc
handed_bad {A} {B} (Err d) f e h = ap (λ (g : LeafFault). let y : ReadLeaf A = Err g in y) (err_is {A = B × At} d e h)

-- what was read is only handed on
pub handed_told : {A B : Type 0} (r : At → ReadLeaf A) (f : A × At → B × At) (P : List ℕ → Type 0) (s : At) (e : LeafFault)
    → (r s ≡ Err e → Told r P s e) → (r s >>= λ y. Ok (f y)) ≡ Err e → Told (λ t. r t >>= λ y. Ok (f y)) P s e
handed_told {A} {B} r f P s e first h =
    told_first (λ t. r t >>= λ y. Ok (f y)) r P s e (λ t g. fails_first {B = B} (r t) (λ y. Ok (f y)) g) (first (handed_bad (r s) f e h))
