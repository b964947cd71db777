-- A key is found in a front of a record that is long enough for it.
use Rattle.std.proofs.Common.{◌≡◌, ◌≢◌, ◌⊎◌, inl, inr, ⊎_elim, ℕ, ◌+◌, ◌-◌, ◌<◌, ◌≤◌, min, false, ltb, cond, List, [], ◌++◌, length, take, drop, Option, Some, None, Result, Ok, Err, sym, ap, subst, ◌∙◌, append_assoc, length-take, arith}
use Rattle.std.proofs.{lemmas.Bool.{le-ltb, cases_lt}, lemmas.List.{take-append-drop, take_all}, Math.Seq.{take-append-add}}
use Rattle.std.specs.Prelude.{IfOk, IfSome}
use Rattle.rio_num.specs.{At.{standing_at}, Plain.{IsSpelledIn}}
use Rattle.rio_host.specs.Image.{Has}
use Rattle.rio_host.proofs.Images.{has_front}
use Rattle.rio_key.specs.{Key.{SpellsKey}, declared.head.KeyHead.{KeyHead}, declared.fault.KeyFault.{KeyFault, TheVariants.{NoMemory}}}
use Rattle.rio_chain.specs.{declared.fault.WalkFault.{WalkFault}, Found.{FindsKey, FindsKeyAt}}
use Rattle.rio_key.proofs.{KeyLaws.{one_key_lem}, KeyParts.{parts_of_key}}

pub standing_rest : (p : ℕ) (bytes : List ℕ) → (standing_at p p bytes).rest ≡ bytes
standing_rest p bytes =
    let no : ltb p p ≡ false = le-ltb p p (omega arith) in
    let none : p - p ≡ 0 = omega arith in
    ap (λ b. cond b [] (drop (p - p) bytes)) no ∙ ap (λ n. drop n bytes) none

-- what a front spells stands in the whole
pub spelled_in_whole : (h : KeyHead) (front more bytes : List ℕ) → bytes ≡ front ++ more → IsSpelledIn (SpellsKey h) front → IsSpelledIn (SpellsKey h) bytes
spelled_in_whole h front more bytes is s = (s.0, s.1 ++ more, is ∙ ap (λ (b : List ℕ). b ++ more) s.2 ∙ append_assoc s.0 s.1 more, s.3)

-- a key stands in a front that is long enough
pub spelled_in_front : (h : KeyHead) (bytes : List ℕ) (n : ℕ) → (65535 ≤ n) ⊎ (length bytes ≤ n) → IsSpelledIn (SpellsKey h) bytes → IsSpelledIn (SpellsKey h) (take n bytes)
spelled_in_front h bytes n long s = ⊎_elim
    (λ le.
    let m = n - length s.0 in
    let k = parts_of_key h s.0 s.3 in
    let fits : length s.0 ≤ n = omega (arith, le, k.title_held, k.fields.numbers.keylen) in
    (s.0, take m s.1, ap (take n) s.2 ∙ taken s.0 s.1 m n (omega (arith, fits)), s.3))
    (λ le. subst (IsSpelledIn (SpellsKey h)) (sym (take_all n bytes le)) s)
    long
  where
    taken : (xs ys : List ℕ) (k j : ℕ) → j ≡ length xs + k → take j (xs ++ ys) ≡ xs ++ take k ys
    taken xs ys k j is = ap (λ (c : ℕ). take c (xs ++ ys)) is ∙ take-append-add xs ys k

-- two heads in the same bytes
pub spelled_one : (a b : KeyHead) (bytes : List ℕ) → IsSpelledIn (SpellsKey a) bytes → IsSpelledIn (SpellsKey b) bytes → a ≡ b
spelled_one a b bytes s t = (one_key_lem a b s.0 t.0 s.1 t.1 (sym s.2 ∙ t.2) s.3 t.3).0

module _ (file : List ℕ) (place n : ℕ) where
  pub finds_some : (k m : ℕ) (head : KeyHead) → k ≡ min n m → FindsKeyAt place k (Some head) file → FindsKeyAt place n (Some head) file
  finds_some k m head is finds bytes long has =
      let f = finds (take k bytes) (omega (arith, is, long, length-take k bytes)) (has_front file place (take k bytes) (drop k bytes) (subst (Has file place) (sym (take-append-drop k bytes)) has)) in
      let whole = spelled_in_whole head (take k bytes) (drop k bytes) bytes (sym (take-append-drop k bytes)) f.found_is in
      record { found_is = whole; only = λ h s. ap some (spelled_one head h bytes whole s) }
    where
      some : KeyHead → Option KeyHead
      some h = Some h

  pub finds_all : (k : ℕ) (found : Option KeyHead) → k ≡ min n 65535 → FindsKeyAt place k found file → FindsKeyAt place n found file
  finds_all k found is finds bytes long has =
      let f = finds (take k bytes) (omega (arith, is, long, length-take k bytes)) (has_front file place (take k bytes) (drop k bytes) (subst (Has file place) (sym (take-append-drop k bytes)) has)) in
      record {
        found_is = lifted found bytes k f.found_is;
        only = λ h s. f.only h (spelled_in_front h bytes k (enough (cases_lt n 65535)) s);
      }
    where
      lifted : (o : Option KeyHead) (bytes : List ℕ) (k : ℕ) → IfSome o (λ head. IsSpelledIn (SpellsKey head) (take k bytes)) → IfSome o (λ head. IsSpelledIn (SpellsKey head) bytes)
      lifted None bytes k s = tt
      lifted (Some head) bytes k s = spelled_in_whole head (take k bytes) (drop k bytes) bytes (sym (take-append-drop k bytes)) s

      enough : (n < 65535) ⊎ (65535 ≤ n) → (65535 ≤ k) ⊎ (length bytes ≤ k)
      enough (inl lt) = inr (omega (arith, lt, is, long))
      enough (inr le) = inl (omega (arith, le, is))

-- bytes that no key begins
pub no_key_found : (bytes : List ℕ) (fault : KeyFault) (r : Result (Option KeyHead) WalkFault) → (fault ≢ NoMemory → (h : KeyHead) → IsSpelledIn (SpellsKey h) bytes → ⊥) → IfOk r (λ found. (found ≡ None) × (fault ≢ NoMemory)) → IfOk r (FindsKey bytes)
no_key_found bytes fault (Ok found) none is = subst (FindsKey bytes) (sym is.0) (record { found_is = tt; only = λ h s. absurd (none is.1 h s) })
no_key_found bytes fault (Err e) none is = tt
