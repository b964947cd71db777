-- A key's first number is the length of its record, which holds the key.
use Rattle.std.proofs.Common.{◌≡◌, ℕ, ◌≤◌, ◌<◌, ◌^◌, pos, Bool, true, false, cond, int_lt, ltb, List, length, Ok, Err, refl, sym, ap, ◌∙◌, arith}
use Rattle.std.proofs.{lemmas.Bool.{ltb-false}, lemmas.Int.{ints}}
use Rattle.std.specs.Int.{w32, cast_signed, cast_unsigned}
use Rattle.byteorder.specs.Endian.{big_number}
use Rattle.rio_num.specs.{At.{At}, Meanings.{Standing, of_bytes}, Reading.{short, skip}, Plain.{plain}}
use Rattle.rio_num.proofs.{ReadLaws.{ok_is}, InOrder.{Reads, next_of}}
use Rattle.rio_key.specs.{Key.{key_at, key_fields}, declared.head.KeyHead.{KeyHead}, declared.fault.KeyFault.{KeyFault, TheVariants.{Short}}}
use Rattle.rio_key.proofs.{KeyFront.{kept}, Signed.{at_least, signed_is}}

-- ---- the first number

-- the first four bytes are there, and the number is what they are read as
first_number : (s : At) (n : ℕ) (s' : Standing (Unit {0})) (b : Bool) → ltb (length s.rest) 4 ≡ b → of_bytes {A = ℕ} Short (plain s) (cond b (Err (short s.place 4)) (Ok (big_number 4 s.rest, skip 4 s))) ≡ Ok (n, s') → (4 ≤ length s.rest) × (n ≡ big_number 4 s.rest)
first_number s n s' true t e = absurd cc
first_number s n s' false t e = (ltb-false _ _ t, ap (λ (q : ℕ × Standing (Unit {0})). q.0) (sym (ok_is {E = KeyFault} (big_number 4 s.rest, plain (skip 4 s)) (n, s') e)))

fields_number : (s : At) (h : KeyHead) (s' : Standing (Unit {0})) → Reads key_fields (plain s) h s' → (4 ≤ length s.rest) × (h.nbytes ≡ cast_signed w32 (big_number 4 s.rest))
unfolding key_fields
fields_number s h s' c =
    next_of c (λ nbytes s1 e1 c1.
    next_of c1 (λ version s2 e2 c2.
    next_of c2 (λ objlen s3 e3 c3.
    next_of c3 (λ datime s4 e4 c4.
    next_of c4 (λ keylen s5 e5 c5.
    next_of c5 (λ cycle s6 e6 c6.
    next_of c6 (λ seek s7 e7 c7.
    next_of c7 (λ pdir s8 e8 c8.
    next_of c8 (λ class s9 e9 c9.
    next_of c9 (λ name s10 e10 c10.
    next_of c10 (λ title s11 e11 c11.
    let fields : KeyHead = record { nbytes = cast_signed w32 nbytes; version = version; objlen = objlen; datime = datime; keylen = keylen; cycle = cycle; seek = seek; pdir = pdir; class = class; name = name; title = title } in
    let same = ok_is {E = KeyFault} (fields, s11) (h, s') c11.so in
    let first = first_number s nbytes s1 (ltb (length s.rest) 4) refl e1 in
    (first.0, ap (λ (q : KeyHead × Standing (Unit {0})). q.0.nbytes) (sym same) ∙ ap (cast_signed w32) first.1))))))))))))

-- where the key at a place is read, its first four bytes say how long its record is
pub record HasRecord (bytes : List ℕ) (h : KeyHead) : Type 0 where
  pub whole : 4 ≤ length bytes
  pub small : big_number 4 bytes < 2 ^ 31
  pub length_is : cast_unsigned w32 h.nbytes ≡ big_number 4 bytes
  pub key_held : h.keylen ≤ big_number 4 bytes

pub unsigned_is : (n : ℕ) → n < 2 ^ 31 → cast_unsigned w32 (pos n) ≡ n
unsigned_is n lt = grind (arith, ints)

-- and these four bytes are there
pub key_whole : (p : ℕ) (bytes : List ℕ) (h : KeyHead) → key_at (record { place = p; rest = bytes }) ≡ Ok h → 4 ≤ length bytes
key_whole p bytes h e =
    let s : At = record { place = p; rest = bytes } in
    let k = kept s h e in
    (fields_number s h k.end (record { so = k.read_so })).0

pub key_record : (p : ℕ) (bytes : List ℕ) (h : KeyHead) → big_number 4 bytes < 2 ^ 32 → key_at (record { place = p; rest = bytes }) ≡ Ok h → HasRecord bytes h
key_record p bytes h lt e =
    let s : At = record { place = p; rest = bytes } in
    let k = kept s h e in
    let n = fields_number s h k.end (record { so = k.read_so }) in
    let least = at_least (big_number 4 bytes) h.keylen lt (ap (λ z. int_lt z (pos h.keylen)) (sym n.1) ∙ k.key_held) in
    record {
      whole = n.0;
      small = least.low;
      length_is = ap (cast_unsigned w32) (n.1 ∙ signed_is (big_number 4 bytes) least.low) ∙ unsigned_is (big_number 4 bytes) least.low;
      key_held = least.above;
    }
