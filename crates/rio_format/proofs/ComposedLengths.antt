-- How many bytes the parts have at least that are put together.
use Rattle.std.proofs.Common.{◌≡◌, inl, inr, ℕ, ◌+◌, ◌*◌, ◌/◌, ◌<◌, ◌≤◌, List, [], ◌∷◌, ◌++◌, length, replicate, ap, ◌∙◌, arith}
use Rattle.std.proofs.{lemmas.List.{length-append, length-replicate}, Math.Nat.{suc-mul, le-div_iff_mul-le}}
use Rattle.byteorder.specs.Numbers.{length-bytes_high_first}
use Rattle.rio_format.specs.{declared.kind.Primitive.{Primitive, TheVariants.{I8, I16, I32, I64, U8, U16, U32, U64, Bool as Boolean, F32, F64}}, declared.value.Value.{Value}, ReaderState.{WordsMet}, Prims.{width_of}}
use Rattle.rio_format.proofs.Composed.{Spelling, Spellings, SpellsEach, SpellsTimes, SpellsNumber, SpellsPointer, IsLink}

-- each of them has so many bytes at least
abbrev pub IsLong : {S Y : Type 0} → ℕ → (ℕ → S → Y → List ℕ → S → Type 0) → Type 0
IsLong {S = S} {Y = Y} width spells = (p : ℕ) (s : S) (y : Y) (bytes : List ℕ) (s' : S) → spells p s y bytes s' → width ≤ length bytes

each_long : {X S Y : Type 0} (width : ℕ) (spells : X → ℕ → S → Y → List ℕ → S → Type 0) → ((x : X) → IsLong width (spells x)) → (xs : List X) → IsLong (length xs * width) (SpellsEach spells xs)
each_long width spells long [] p s ys bytes s' c = omega arith
each_long width spells long (x ∷ xs) p s ys bytes s' c =
    let one : width ≤ length c.front = long x p s c.y c.front c.s1 c.first in
    let others : length xs * width ≤ length c.back = each_long width spells long xs (p + length c.front) c.s1 c.more c.back s' c.others in
    let len : length bytes ≡ length c.front + length c.back = ap length c.spelled ∙ length-append c.front c.back in
    rw suc-mul (omega (arith, one, others, len))

-- the bytes have room for as many
pub times_room : (n width : ℕ) (spells : Spelling Value) → 0 < width → IsLong width spells → (p : ℕ) (t : WordsMet) (ys : List Value) (bytes : List ℕ) (t' : WordsMet) (more : List ℕ) → SpellsTimes n spells p t ys bytes t' → n ≤ length (bytes ++ more) / width
times_room n width spells some long p t ys bytes t' more c =
    let all : length (replicate n tt) * width ≤ length bytes = each_long width (λ (x : Unit {0}). spells) (λ x. long) (replicate n tt) p t ys bytes t' c in
    let same : n * width ≤ length bytes = rw length-replicate at all in
    (le-div_iff_mul-le some).1 (omega (arith, same, length-append bytes more))

pub number_long : (of : Primitive) → IsLong (width_of of) (SpellsNumber of)
number_long of p t v bytes t' c = omega (arith, ap length c.spelled, length-bytes_high_first (width_of of) c.n)

pub pointer_long : (spells : Spellings) → IsLong 4 (SpellsPointer spells)
pointer_long spells p t v bytes t' (inl c) = omega (arith, ap length c.spelled)
pointer_long spells p t v bytes t' (inr (inl c)) = omega (arith, ap length c.spelled)
pointer_long spells p t v bytes t' (inr (inr c)) = omega (arith, ap length c.spelled)

pub link_long : (spells : Spellings) → IsLong 4 (λ p t v bytes t'. IsLink spells p t v bytes t')
link_long spells p t v bytes t' c =
    let first : 4 ≤ length c.pointer_bytes = pointer_long spells p t c.pointer c.pointer_bytes t' c.first in
    omega (arith, first, ap length c.spelled, length-append c.pointer_bytes c.option_bytes)

pub width_some : (of : Primitive) → 0 < width_of of
width_some I8 = omega arith
width_some I16 = omega arith
width_some I32 = omega arith
width_some I64 = omega arith
width_some U8 = omega arith
width_some U16 = omega arith
width_some U32 = omega arith
width_some U64 = omega arith
width_some Boolean = omega arith
width_some F32 = omega arith
width_some F64 = omega arith
