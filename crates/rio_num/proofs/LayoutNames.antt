-- Names with a zero byte behind them: what is spelled is read, and back.
use Rattle.std.proofs.Common.{◌≡◌, ◌==◌, ℕ, ◌+◌, ◌<◌, ◌≤◌, Bool, true, false, cond, ltb, List, [], ◌∷◌, ◌++◌, length, take, drop, Some, None, Ok, Err, refl, sym, ap, subst, ◌∙◌, append_assoc, one-add, add-one, arith}
use Rattle.std.proofs.{lemmas.Bool.{lt-ltb, le-ltb, ltb-false, ltb-true, eqb-true}, lemmas.List.{length-append, length-take, take_at, take_all, drop_at}}
use Rattle.std.specs.List.{position_or_len}
use Rattle.rio_num.specs.{Reading.{skip}, Layout.{name}, Meanings.{Standing, HasNoZero, ended_name, read, stand}}
use Rattle.rio_num.proofs.ReadLaws.{ok_is}

-- how many bytes stand before the first zero byte
abbrev pub before_zero : List ℕ → ℕ
before_zero xs = position_or_len (λ b. b == 0) xs

zero_place : (own more : List ℕ) → HasNoZero own → before_zero (own ++ 0 ∷ more) ≡ length own
zero_place [] more plain = refl
zero_place (b ∷ own) more plain = rw plain.0 (omega (arith, zero_place own more plain.1))

no_zero : (xs : List ℕ) → HasNoZero xs → before_zero xs ≡ length xs
no_zero [] plain = refl
no_zero (x ∷ xs) plain = rw plain.0 (omega (arith, no_zero xs plain.1))

-- bytes with a zero byte, cut behind it
abbrev IsCut : List ℕ → Type 0
IsCut xs = before_zero xs < length xs → xs ≡ (take (before_zero xs) xs ++ 0 ∷ []) ++ drop (before_zero xs + 1) xs

zero_there : (xs : List ℕ) → IsCut xs
zero_there [] lt = absurd (omega arith)
zero_there (x ∷ xs) lt = by (x == 0) refl (zero_there xs) lt
  where
    by : (b : Bool) → (x == 0) ≡ b → IsCut xs → IsCut (x ∷ xs)
    by true e rest lt = rw e (ap (λ (y : ℕ). y ∷ xs) (eqb-true x 0 e))
    by false e rest lt =
        let lt1 : before_zero xs < length xs = omega (arith, rw e at lt) in
        rw (e, one-add, add-one) (ap (λ (ys : List ℕ). x ∷ ys) (rw add-one at rest lt1))

-- what stands before the first zero byte has none
plain_front : (xs : List ℕ) → HasNoZero (take (before_zero xs) xs)
plain_front [] = tt
plain_front (x ∷ xs) = by (x == 0) refl (plain_front xs)
  where
    by : (b : Bool) → (x == 0) ≡ b → HasNoZero (take (before_zero xs) xs) → HasNoZero (take (before_zero (x ∷ xs)) (x ∷ xs))
    by true e plain = rw e tt
    by false e plain = rw (e, one-add) (e, plain)

plain_all : (xs : List ℕ) → length xs ≤ before_zero xs → HasNoZero xs
plain_all xs le = subst HasNoZero (take_all (before_zero xs) xs le) (plain_front xs)

module _ {W F : Type 0} (f : ℕ → ℕ → F) where
  pub name_again : (p : ℕ) (own more : List ℕ) (t : W) → HasNoZero own → read (name f) (stand p (own ++ 0 ∷ more) t) ≡ Ok (own, stand (p + (length own + 1)) more t)
  name_again p own more t plain =
      let z = zero_place own more plain in
      let within : ltb (length own) (length (own ++ 0 ∷ more)) ≡ true = lt-ltb _ _ (omega (arith, length-append own (0 ∷ more))) in
      let after : drop (length own + 1) (own ++ 0 ∷ more) ≡ more = ap (λ (b : List ℕ). drop (length own + 1) b) (sym (append_assoc own (0 ∷ []) more)) ∙ drop_at (own ++ 0 ∷ []) more (length own + 1) (omega (arith, length-append own (0 ∷ []))) in
      rw (z, within, take_at own (0 ∷ more) (length own) refl, after) refl

  pub name_endless : (p : ℕ) (rest : List ℕ) (t : W) → HasNoZero rest → read (name f) (stand p rest t) ≡ Err (f (p + length rest) 1)
  name_endless p rest t plain =
      let past : ltb (length rest) (length rest) ≡ false = le-ltb _ _ (omega arith) in
      rw (no_zero rest plain, past) refl

  pub name_told : (s : Standing W) (e : F) → read (name f) s ≡ Err e → HasNoZero s.at.rest × (e ≡ f (s.at.place + length s.at.rest) 1)
  name_told s e h = by (ltb (before_zero s.at.rest) (length s.at.rest)) refl h
    where
      by : (b : Bool) → ltb (before_zero s.at.rest) (length s.at.rest) ≡ b → ended_name f s (cond b (Some (before_zero s.at.rest)) None) ≡ Err e → HasNoZero s.at.rest × (e ≡ f (s.at.place + length s.at.rest) 1)
      by true t h = absurd cc
      by false t h = (plain_all s.at.rest (ltb-false _ _ t), cc)

-- what was read of a name
pub record IsNamed {W : Type 0} (s : Standing W) (own : List ℕ) (s' : Standing W) : Type 0 where
  pub plain : HasNoZero own
  pub parts : s.at.rest ≡ (own ++ 0 ∷ []) ++ s'.at.rest
  pub place : s'.at.place ≡ s.at.place + length (own ++ 0 ∷ [])
  pub same : s'.words ≡ s.words

pub name_found : {W F : Type 0} (f : ℕ → ℕ → F) (s : Standing W) (own : List ℕ) (s' : Standing W) → read (name f) s ≡ Ok (own, s') → IsNamed s own s'
name_found {W = W} {F = F} f s own s' e = by (ltb (before_zero s.at.rest) (length s.at.rest)) refl e
  where
    by : (b : Bool) → ltb (before_zero s.at.rest) (length s.at.rest) ≡ b → ended_name f s (cond b (Some (before_zero s.at.rest)) None) ≡ Ok (own, s') → IsNamed s own s'
    by true t e =
        let n = before_zero s.at.rest in
        let lt : n < length s.at.rest = ltb-true _ _ t in
        let made : IsNamed s (take n s.at.rest) (record s { at = skip (n + 1) s.at }) = record {
          plain = plain_front s.at.rest;
          parts = zero_there s.at.rest lt;
          place = omega (arith, length-append (take n s.at.rest) (0 ∷ []), length-take n s.at.rest);
          same = refl;
        } in
        subst (λ (q : List ℕ × Standing W). IsNamed s q.0 q.1) (ok_is {E = F} (take n s.at.rest, record s { at = skip (n + 1) s.at }) (own, s') e) made
    by false t e = absurd cc
