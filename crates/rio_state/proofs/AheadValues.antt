-- What is written for numbers, texts and pointers that were read is no longer than they were.
use Rattle.std.proofs.Common.{◌≡◌, ℕ, ◌+◌, ◌≤◌, ℤ, pos, List, [], ◌∷◌, ◌++◌, length, map, replicate, refl, sym, ap, subst, ◌∙◌, append-nil, arith}
use Rattle.std.proofs.lemmas.List.{length-append}
use Rattle.std.specs.{Prelude.{◌==◌, not}, Int.{w8, w16, w32, w64, cast_signed, cast_unsigned}}
use Rattle.byteorder.specs.{Endian.{big_bytes}, Numbers.{length-bytes_high_first}}
use Rattle.rio_num.specs.{Layout.{each, times}, Meanings.{Spells}, Text.{text_bytes}}
use Rattle.rio_num.proofs.TextLengths.{shortest_text}
use Rattle.rio_format.specs.{declared.class.ClassDef.{ClassDef}, declared.kind.Kind.TheVariants.{Plain, Counter, Text as Texted}}
use Rattle.rio_format.specs.declared.kind.Primitive.{Primitive, TheVariants.{I8, I16, I32, I64, U8, U16, U32, U64, Bool as Boolean, F32, F64}}
use Rattle.rio_format.specs.{declared.value.Value.{Value, Int, Bits32, Bits64, Bool as Truth, Text, List as Items}, Frames.{ObjLayout}, ReaderState.{WordsMet}, Writer.{Writer}}
use Rattle.rio_format.specs.declared.value.Value.TheOpen as layer
use Rattle.rio_format.specs.{Objects.{number_value, numbers, text_value}, Prims.{value_of_prim, width_of}, Slots.{Slot, kinded}, Written.{Writing, all, int_bytes, just, list_bytes, writing_of, writing_step}}
use Rattle.rio_format.proofs.ValueCases.{fold_Bits32, fold_Bits64, fold_Bool, fold_Int, fold_List, fold_Text}
use Rattle.rio_state.proofs.Ahead.{Ahead, ahead_as, ahead_both, ahead_just}

-- what this writes is no longer than what was read
abbrev pub Covers : {A : Type 0} → ObjLayout A → (A → Writer) → Type 0
Covers {A} l w = (end p : ℕ) (t : WordsMet) (y : A) (b : List ℕ) (t' : WordsMet) → Spells l end p t y b t' → Ahead (w y) p t b t'

module _ (classes : List ClassDef) where
  abbrev pub writing : Value → Writing
  writing v = writing_of classes v

  -- ---- numbers

  -- a value without words, in a slot
  pub plain_ahead : (v : Value) (w : Writing) (xs : List ℕ) (slot : Slot) (p : ℕ) (t t' : WordsMet) (b : List ℕ) → writing v ≡ w → w.bytes slot ≡ just xs → length xs ≤ length b → t' ≡ t → Ahead ((writing v).bytes slot) p t b t'
  plain_ahead v w xs slot p t t' b is bytes le same =
      let f : (writing v).bytes slot ≡ just xs = ap (λ (x : Writing). x.bytes slot) is ∙ bytes in
      subst (λ (g : Writer). Ahead g p t b t') (sym f) (subst (λ (u : WordsMet). Ahead (just xs) p t b u) (sym same) (ahead_just xs b p t le))

  written_int : (z : ℤ) → writing (Int z) ≡ writing_step classes (layer.Int z)
  written_int z = fold_Int (writing_step classes) (λ p. p.value) z

  pub int_ahead : (z : ℤ) (slot : Slot) (p : ℕ) (t t' : WordsMet) (b : List ℕ) → length (int_bytes z slot) ≤ length b → t' ≡ t → Ahead ((writing (Int z)).bytes slot) p t b t'
  int_ahead z slot p t t' b le same = plain_ahead (Int z) (writing_step classes (layer.Int z)) (int_bytes z slot) slot p t t' b (written_int z) refl le same

  big_within : (n x : ℕ) (b : List ℕ) → length b ≡ n → length (big_bytes n x) ≤ length b
  big_within n x b long = omega (arith, long, length-bytes_high_first n x)

  prim_ahead : (of : Primitive) (n p : ℕ) (t t' : WordsMet) (b : List ℕ) → length b ≡ width_of of → t' ≡ t → Ahead ((writing (value_of_prim of n)).bytes (kinded (Plain of))) p t b t'
  prim_ahead I8 n p t t' b long same = int_ahead (cast_signed w8 n) (kinded (Plain I8)) p t t' b (big_within 1 (cast_unsigned w8 (cast_signed w8 n)) b long) same
  prim_ahead I16 n p t t' b long same = int_ahead (cast_signed w16 n) (kinded (Plain I16)) p t t' b (big_within 2 (cast_unsigned w16 (cast_signed w16 n)) b long) same
  prim_ahead I32 n p t t' b long same = int_ahead (cast_signed w32 n) (kinded (Plain I32)) p t t' b (big_within 4 (cast_unsigned w32 (cast_signed w32 n)) b long) same
  prim_ahead I64 n p t t' b long same = int_ahead (cast_signed w64 n) (kinded (Plain I64)) p t t' b (big_within 8 (cast_unsigned w64 (cast_signed w64 n)) b long) same
  prim_ahead U8 n p t t' b long same = int_ahead (pos n) (kinded (Plain U8)) p t t' b (big_within 1 (cast_unsigned w8 (pos n)) b long) same
  prim_ahead U16 n p t t' b long same = int_ahead (pos n) (kinded (Plain U16)) p t t' b (big_within 2 (cast_unsigned w16 (pos n)) b long) same
  prim_ahead U32 n p t t' b long same = int_ahead (pos n) (kinded (Plain U32)) p t t' b (big_within 4 (cast_unsigned w32 (pos n)) b long) same
  prim_ahead U64 n p t t' b long same = int_ahead (pos n) (kinded (Plain U64)) p t t' b (big_within 8 (cast_unsigned w64 (pos n)) b long) same
  prim_ahead Boolean n p t t' b long same =
      plain_ahead (Truth (not (n == 0))) _ _ (kinded (Plain Boolean)) p t t' b (fold_Bool (writing_step classes) (λ p. p.value) (not (n == 0))) refl (omega (arith, long)) same
  prim_ahead F32 n p t t' b long same =
      plain_ahead (Bits32 n) _ (big_bytes 4 n) (kinded (Plain F32)) p t t' b (fold_Bits32 (writing_step classes) (λ p. p.value) n) refl (big_within 4 n b long) same
  prim_ahead F64 n p t t' b long same =
      plain_ahead (Bits64 n) _ (big_bytes 8 n) (kinded (Plain F64)) p t t' b (fold_Bits64 (writing_step classes) (λ p. p.value) n) refl (big_within 8 n b long) same

  -- what was read of a number: its bytes, and no words
  record IsNumberRead (of : Primitive) (t : WordsMet) (y : Value) (b : List ℕ) (t' : WordsMet) : Type 0 where
    n : ℕ
    value : y ≡ value_of_prim of n
    long : length b ≡ width_of of
    words : t' ≡ t

  number_read : (of : Primitive) (end p : ℕ) (t : WordsMet) (y : Value) (b : List ℕ) (t' : WordsMet) → Spells (number_value of) end p t y b t' → IsNumberRead of t y b t'
  unfolding number_value
  number_read of end p t y b t' c =
      let front = c.5 in
      let back = c.6 in
      record {
        n = c.0;
        value = back.0;
        long = omega (arith, ap length c.4, length-append c.1 c.2, ap length front.1, length-bytes_high_first (width_of of) c.0, ap length back.1);
        words = back.2 ∙ front.2;
      }

  pub number_covers : (of : Primitive) → Covers (number_value of) (λ v. (writing v).bytes (kinded (Plain of)))
  number_covers of end p t y b t' c =
      let r = number_read of end p t y b t' c in
      subst (λ (v : Value). Ahead ((writing v).bytes (kinded (Plain of))) p t b t') (sym r.value) (prim_ahead of r.n p t t' b r.long r.words)

  pub counter_covers : Covers (number_value I32) (λ v. (writing v).bytes (kinded Counter))
  counter_covers end p t y b t' c =
      let r = number_read I32 end p t y b t' c in
      subst (λ (v : Value). Ahead ((writing v).bytes (kinded Counter)) p t b t') (sym r.value)
      (int_ahead (cast_signed w32 r.n) (kinded Counter) p t t' b (big_within 4 (cast_unsigned w32 (cast_signed w32 r.n)) b r.long) r.words)

  -- ---- texts

  pub text_ahead : (text : List ℕ) (p : ℕ) (t t' : WordsMet) (b : List ℕ) → length (text_bytes text) ≤ length b → t' ≡ t → Ahead ((writing (Text text)).bytes (kinded Texted)) p t b t'
  text_ahead text p t t' b le same = plain_ahead (Text text) _ (text_bytes text) (kinded Texted) p t t' b (fold_Text (writing_step classes) (λ p. p.value) text) refl le same

  pub text_covers : Covers text_value (λ v. (writing v).bytes (kinded Texted))
  unfolding text_value
  text_covers end p t y b t' c =
      let front = c.5 in
      let back = c.6 in
      let long = shortest_text c.0 c.1 front.0 in
      subst (λ (v : Value). Ahead ((writing v).bytes (kinded Texted)) p t b t') (sym back.0)
      (text_ahead c.0 p t t' b (omega (arith, long, ap length c.4, length-append c.1 c.2)) (back.2 ∙ front.1))

  -- ---- so many values

  pub each_covers : {X : Type 0} (l : X → ObjLayout Value) (slot : Slot) → ((x : X) → Covers (l x) (λ v. (writing v).bytes slot)) → (xs : List X) → Covers (each l xs) (λ vs. all slot (map writing vs))
  unfolding each
  each_covers l slot one [] end p t y b t' c =
      subst (λ (vs : List Value). Ahead (all slot (map writing vs)) p t b t') (sym c.0)
      (subst (λ (u : WordsMet). Ahead (just []) p t b u) (sym c.2) (ahead_just [] b p t (omega arith)))
  each_covers l slot one (x ∷ xs) end p t y b t' c =
      let first = c.5 in
      let rest = c.6 in
      let last = rest.6 in
      let more = ahead_both ((writing c.0).bytes slot) (all slot (map writing rest.0)) p t c.3 rest.3 c.1 rest.1 (one x end p t c.0 c.1 c.3 first) (each_covers l slot one xs end (p + length c.1) c.3 rest.0 rest.1 rest.3 rest.5) in
      let same : c.1 ++ rest.1 ≡ b = ap (λ (bs : List ℕ). c.1 ++ bs) (sym (append-nil rest.1) ∙ ap (λ (bs : List ℕ). rest.1 ++ bs) (sym last.1) ∙ sym rest.4) ∙ sym c.4 in
      subst (λ (vs : List Value). Ahead (all slot (map writing vs)) p t b t') (sym last.0)
      (subst (λ (u : WordsMet). Ahead (all slot (map writing (c.0 ∷ rest.0))) p t b u) (sym last.2) (ahead_as (all slot (map writing (c.0 ∷ rest.0))) p t rest.3 (c.1 ++ rest.1) b same more))

  pub times_covers : (n : ℕ) (l : ObjLayout Value) (slot : Slot) → Covers l (λ v. (writing v).bytes slot) → Covers (times n l) (λ vs. all slot (map writing vs))
  times_covers n l slot one = each_covers (λ (x : Unit {0}). l) slot (λ x. one) (replicate n tt)

  -- a list of what was read, in a slot where its items are written one behind the other
  pub items_ahead : (vs : List Value) (slot : Slot) (w : Writer) (p : ℕ) (t t' : WordsMet) (b : List ℕ) → list_bytes (map writing vs) slot ≡ w → Ahead w p t b t' → Ahead ((writing (Items vs)).bytes slot) p t b t'
  items_ahead vs slot w p t t' b is one =
      let f : (writing (Items vs)).bytes slot ≡ w = ap (λ (x : Writing). x.bytes slot) (fold_List (writing_step classes) (λ p. p.value) vs) ∙ is in
      subst (λ (g : Writer). Ahead g p t b t') (sym f) one

  -- what was read of numbers
  pub record AreRead (of : Primitive) (p : ℕ) (t : WordsMet) (y : Value) (b : List ℕ) (t' : WordsMet) : Type 0 where
    pub vs : List Value
    pub value : y ≡ Items vs
    pub ahead : Ahead (all (kinded (Plain of)) (map writing vs)) p t b t'

  pub numbers_read : (of : Primitive) (count end p : ℕ) (t : WordsMet) (y : Value) (b : List ℕ) (t' : WordsMet) → Spells (numbers of count) end p t y b t' → AreRead of p t y b t'
  unfolding numbers
  numbers_read of count end p t y b t' c =
      let back = c.6 in
      let same : c.1 ≡ b = sym (append-nil c.1) ∙ ap (λ (bs : List ℕ). c.1 ++ bs) (sym back.1) ∙ sym c.4 in
      let ahead = times_covers count (number_value of) (kinded (Plain of)) (number_covers of) end p t c.0 c.1 c.3 c.5 in
      record { vs = c.0; value = back.0; ahead = subst (λ (u : WordsMet). Ahead (all (kinded (Plain of)) (map writing c.0)) p t b u) (sym back.2) (ahead_as (all (kinded (Plain of)) (map writing c.0)) p t c.3 c.1 b same ahead) }

  pub numbers_covers : (of : Primitive) (count : ℕ) (slot : Slot) → ((ws : List Writing) → list_bytes ws slot ≡ all (kinded (Plain of)) ws) → Covers (numbers of count) (λ v. (writing v).bytes slot)
  numbers_covers of count slot plain end p t y b t' c =
      let r = numbers_read of count end p t y b t' c in
      subst (λ (v : Value). Ahead ((writing v).bytes slot) p t b t') (sym r.value) (items_ahead r.vs slot (all (kinded (Plain of)) (map writing r.vs)) p t t' b (plain (map writing r.vs)) r.ahead)
