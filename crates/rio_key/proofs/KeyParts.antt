-- What spells a key, part by part.
use Rattle.std.proofs.Common.{◌≡◌, ℕ, ◌+◌, ◌-◌, ◌^◌, ◌<◌, ◌≤◌, pos, false, ltb, int_lt, List, ◌++◌, length, refl, sym, ap, subst, ◌∙◌, append_assoc, arith}
use Rattle.std.proofs.{lemmas.Bool.{le-ltb, ltb-false}, lemmas.List.{append-nil}}
use Rattle.std.specs.Int.{w32, cast_signed}
use Rattle.rio_num.specs.{Text.{SpellsText}, Meanings.{Spells}}
use Rattle.rio_num.proofs.Intro.{IsSo, done_is, ends_with, here_then, number_then, second_is, so_by, text_then}
use Rattle.rio_num.proofs.{Apart.{both_of, here_of, number_of, text_of, unbroken}, Moves.{Moves}}
use Rattle.rio_key.specs.{Key.{SpellsKey, key_fields, key_layout}, Written.{AreWithinFields, number_bytes}, declared.head.KeyHead.{KeyHead}}
use Rattle.rio_key.proofs.Signed.{at_least, not_below, signed_is}

-- the fields, and the bytes of each text
pub record HasFields (key : KeyHead) (bytes : List ℕ) : Type 0 where
  pub nbytes : ℕ
  pub class_bytes : List ℕ
  pub name_bytes : List ℕ
  pub title_bytes : List ℕ
  pub number_is : key.nbytes ≡ cast_signed w32 nbytes
  pub number_fits : nbytes < 2 ^ 32
  pub numbers : AreWithinFields key
  pub class_spelled : SpellsText key.class class_bytes
  pub name_spelled : SpellsText key.name name_bytes
  pub title_spelled : SpellsText key.title title_bytes
  pub parts : bytes ≡ number_bytes key nbytes ++ (class_bytes ++ (name_bytes ++ title_bytes))

-- the same of a key, whose record holds it and which holds its title
pub record HasKey (key : KeyHead) (bytes : List ℕ) : Type 0 where
  pub fields : HasFields key bytes
  pub length_is : key.nbytes ≡ pos fields.nbytes
  pub length_fits : fields.nbytes < 2 ^ 31
  pub key_held : key.keylen ≤ fields.nbytes
  pub title_held : length bytes ≤ key.keylen

fields_apart : (end p : ℕ) (key : KeyHead) (bytes : List ℕ) → IsSo key_fields end p tt key bytes tt → HasFields key bytes
unfolding key_fields
fields_apart end p key bytes c =
    number_of c (λ nbytes r1 f1 e1 c1.
    number_of c1 (λ version r2 f2 e2 c2.
    number_of c2 (λ objlen r3 f3 e3 c3.
    number_of c3 (λ datime r4 f4 e4 c4.
    number_of c4 (λ keylen r5 f5 e5 c5.
    number_of c5 (λ cycle r6 f6 e6 c6.
    number_of c6 (λ seek r7 f7 e7 c7.
    number_of c7 (λ pdir r8 f8 e8 c8.
    text_of c8 (λ class class_bytes r9 s9 e9 c9.
    text_of c9 (λ name name_bytes r10 s10 e10 c10.
    text_of c10 (λ title title_bytes r11 s11 e11 c11.
    let fields : KeyHead = record { nbytes = cast_signed w32 nbytes; version = version; objlen = objlen; datime = datime; keylen = keylen; cycle = cycle; seek = seek; pdir = pdir; class = class; name = name; title = title } in
    let made : HasFields fields bytes = record {
      nbytes = nbytes;
      class_bytes = class_bytes;
      name_bytes = name_bytes;
      title_bytes = title_bytes;
      number_is = refl;
      number_fits = f1;
      numbers = record { version = f2; objlen = f3; datime = f4; keylen = f5; cycle = f6; seek = f7; pdir = f8 };
      class_spelled = s9;
      name_spelled = s10;
      title_spelled = s11;
      parts = rw (e1, e2, e3, e4, e5, e6, e7, e8, e9, e10, e11, c11.so.1) (simp (append_assoc, append-nil));
    } in
    subst (λ (k : KeyHead). HasFields k bytes) (sym c11.so.0) made)))))))))))

fields_spelled : (end p : ℕ) (key : KeyHead) (bytes : List ℕ) → HasFields key bytes → IsSo key_fields end p tt key bytes tt
unfolding key_fields
fields_spelled end p key bytes f =
    let n = f.numbers in
    so_by
    (number_then f.nbytes f.number_fits (number_then key.version n.version
    (number_then key.objlen n.objlen (number_then key.datime n.datime
    (number_then key.keylen n.keylen (number_then key.cycle n.cycle
    (number_then key.seek n.seek (number_then key.pdir n.pdir
    (text_then key.class f.class_bytes f.class_spelled (text_then key.name f.name_bytes f.name_spelled (text_then key.title f.title_bytes f.title_spelled done_is)))))))))))
    (λ i. record key { nbytes = f.number_is i })
    (f.parts ∙ simp (append_assoc, append-nil))
    refl

-- ---- keys

within : (p n k : ℕ) → p + n - p ≤ k → n ≤ k
within p n k le = omega arith

pub key_apart : (end p : ℕ) (key : KeyHead) (bytes : List ℕ) → Spells key_layout end p tt key bytes tt → HasKey key bytes
unfolding key_layout
key_apart end p key bytes c =
    let so : IsSo key_layout end p tt key bytes tt = record { so = c } in
    both_of (here_of so) (λ h front rest u parts first next.
    let held = unbroken (int_lt h.nbytes (pos h.keylen)) (here_of next) in
    let title = unbroken (ltb h.keylen (p + length front - p)) held.1 in
    let f = fields_apart end p h front first in
    let own : bytes ≡ front = parts ∙ ap (λ (b : List ℕ). front ++ b) title.1.so.1 ∙ append-nil front in
    let least = at_least f.nbytes h.keylen f.number_fits (ap (λ z. int_lt z (pos h.keylen)) (sym f.number_is) ∙ held.0) in
    let le : p + length front - p ≤ h.keylen = ltb-false _ _ title.0 in
    let made : HasKey h front = record { fields = f; length_is = f.number_is ∙ signed_is f.nbytes least.low; length_fits = least.low; key_held = least.above; title_held = within p (length front) h.keylen le } in
    subst (λ (q : KeyHead × List ℕ). HasKey q.0 q.1) (λ i. (sym title.1.so.0 i, sym own i)) made)

pub key_made : (end p : ℕ) (key : KeyHead) (bytes : List ℕ) → HasKey key bytes → Spells key_layout end p tt key bytes tt
unfolding key_layout
key_made end p key bytes k =
    let held : int_lt key.nbytes (pos key.keylen) ≡ false = ap (λ z. int_lt z (pos key.keylen)) k.length_is ∙ not_below k.fields.nbytes key.keylen k.key_held in
    let title : ltb key.keylen (p + length bytes - p) ≡ false = le-ltb _ _ (omega (arith, k.title_held)) in
    let all : IsSo key_layout end p tt key bytes tt = here_then (ends_with key tt (fields_spelled end p key bytes k.fields) (here_then (second_is _ held (second_is _ title done_is)))) in
    all.so

pub key_moves : Moves key_layout
key_moves = record { moves = λ end end' p q t key bytes t' c. key_made end' q key bytes (key_apart end p key bytes c) }

-- what spells a key, wherever it stands
pub parts_of_key : (key : KeyHead) (bytes : List ℕ) → SpellsKey key bytes → HasKey key bytes
unfolding SpellsKey
parts_of_key key bytes c = key_apart (0 + length bytes) 0 key bytes (c 0)

pub key_of_parts : (key : KeyHead) (bytes : List ℕ) → HasKey key bytes → SpellsKey key bytes
unfolding SpellsKey
key_of_parts key bytes k = λ p. key_made (p + length bytes) p key bytes k
