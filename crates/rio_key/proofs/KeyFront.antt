-- A key ends within its KeyLen: so many bytes give it as all do.
use Rattle.std.proofs.Common.{◌≡◌, ℕ, ◌+◌, ◌-◌, ◌≤◌, pos, Bool, true, false, cond, int_lt, ltb, nat_lt, List, ◌++◌, length, take, drop, Ok, Err, refl, sym, ap, subst, ◌∙◌, append_assoc, arith}
use Rattle.std.proofs.{lemmas.Bool.{ltb-false, le-ltb}, lemmas.List.{take-append-drop}, Math.Seq.{take-append-add}}
use Rattle.rio_num.specs.{At.{At}, Meanings.{Reading, Standing, read}, Plain.{plain}}
use Rattle.rio_num.proofs.{ReadLaws.{bind_ok, ok_is}, Plain.{standing, value_ok}, LayoutFront.{AreFields, front_again}}
use Rattle.rio_key.specs.{Key.{key_at, key_fields, key_head_at, key_layout}, Laws.{KeyFromFront, KeyInFront}, declared.head.KeyHead.{KeyHead}, declared.fault.KeyFault.{KeyFault, TheVariants.{BadLength, BadKeyLen}}}

abbrev pub Read : Type 0
Read = Reading (Unit {0}) KeyFault KeyHead

abbrev pub Keyed : Type 0
Keyed = KeyHead × Standing (Unit {0})

-- the fields of a key, which breaks no rule
pub record IsKept (s : At) (h : KeyHead) : Type 0 where
  pub end : Standing (Unit {0})
  pub read_so : read key_fields (plain s) ≡ Ok (h, end)
  pub key_held : int_lt h.nbytes (pos h.keylen) ≡ false
  pub title_held : end.at.place - s.place ≤ h.keylen

abbrev kept_or : At → Keyed → Bool → Bool → Read
kept_or s x b c = cond b (Err (BadLength s.place)) (cond c (Err (BadKeyLen s.place)) (Ok x))

abbrev kept_rules : At → Keyed → Read
kept_rules s x = kept_or s x (int_lt x.0.nbytes (pos x.0.keylen)) (nat_lt x.0.keylen (x.1.at.place - s.place))

kept_by : (s : At) (x y : Keyed) (b c : Bool) → read key_fields (plain s) ≡ Ok x → int_lt x.0.nbytes (pos x.0.keylen) ≡ b → nat_lt x.0.keylen (x.1.at.place - s.place) ≡ c → kept_or s x b c ≡ Ok y → IsKept s y.0
kept_by s x y true c is t u e = absurd cc
kept_by s x y false true is t u e = absurd cc
kept_by s x y false false is t u e =
    let made : IsKept s x.0 = record { end = x.1; read_so = is; key_held = t; title_held = ltb-false _ _ u } in
    subst (λ (q : Keyed). IsKept s q.0) (ok_is {E = KeyFault} x y e) made

pub kept : (s : At) (h : KeyHead) → key_at s ≡ Ok h → IsKept s h
unfolding key_layout
kept s h e =
    let v = value_ok (key_head_at s) h e in
    let f = bind_ok (read key_fields (plain s)) (λ x. kept_rules s x) (h, v.0) v.1 in
    kept_by s f.0 (h, v.0) _ _ f.1 refl refl f.2

-- a front that the key takes and holds
record KeyFront (s : At) (h : KeyHead) : Type 0 where
  front : List ℕ
  rest : List ℕ
  parts : s.rest ≡ front ++ rest
  held : length front ≤ h.keylen
  again : (more : List ℕ) → key_at (standing s.place (front ++ more)) ≡ Ok h

fields_are : AreFields key_fields
unfolding key_fields
fields_are = (tt, λ a. (tt, λ b. (tt, λ c. (tt, λ d. (tt, λ e. (tt, λ f. (tt, λ g. (tt, λ h. (tt, λ i. (tt, λ j. (tt, λ k. tt)))))))))))

key_front : (s : At) (h : KeyHead) → key_at s ≡ Ok h → KeyFront s h
unfolding key_layout
key_front s h e =
    let k = kept s h e in
    let t = front_again key_fields fields_are s h k.end k.read_so in
    let held : length t.front ≤ h.keylen = omega (arith, k.title_held, t.place) in
    record {
      front = t.front;
      rest = k.end.at.rest;
      parts = t.parts;
      held = held;
      again = λ more.
          let title : ltb h.keylen (s.place + length t.front - s.place) ≡ false = le-ltb _ _ (omega (arith, held)) in
          rw (t.again more, k.key_held, title) refl;
    }

pub key_in_front_lem : KeyInFront
key_in_front_lem p n bytes h le e =
    let k = key_front (standing p bytes) h e in
    let m = n - length k.front in
    let count : n ≡ length k.front + m = omega (arith, k.held) in
    let short : take n bytes ≡ k.front ++ take m k.rest = ap (take n) k.parts ∙ ap (λ (c : ℕ). take c (k.front ++ k.rest)) count ∙ take-append-add k.front k.rest m in
    ap (λ (b : List ℕ). key_at (standing p b)) short ∙ k.again (take m k.rest)

pub key_from_front_lem : KeyFromFront
key_from_front_lem p n bytes h e =
    let k = key_front (standing p (take n bytes)) h e in
    let whole : bytes ≡ k.front ++ (k.rest ++ drop n bytes) = sym (take-append-drop n bytes) ∙ ap (λ (b : List ℕ). b ++ drop n bytes) k.parts ∙ append_assoc k.front k.rest (drop n bytes) in
    ap (λ (b : List ℕ). key_at (standing p b)) whole ∙ k.again (k.rest ++ drop n bytes)
