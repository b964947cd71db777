-- No object is spelled in fewer bytes than are written for it.
use Rattle.std.proofs.Common.{◌≡◌, ℕ, zero, suc, ◌+◌, ◌-◌, ◌*◌, ◌^◌, ◌≤◌, ℤ, pos, Bool, true, false, codes, List, [], ◌∷◌, ◌++◌, length, Option, Some, None, refl, sym, ap, subst, ◌∙◌, append-nil, append_assoc, arith}
use Rattle.std.proofs.lemmas.List.{length-append}
use Rattle.std.specs.{Prelude.{◌==◌, nat_lt, nat_le}, Int.{w16, w32, cast_unsigned}}
use Rattle.byteorder.specs.{Endian.{big_bytes}, Numbers.{length-bytes_high_first}}
use Rattle.rio_num.proofs.Intro.{IsSo}
use Rattle.rio_num.proofs.Apart.{both_of, here_of, must_of, number_of}
use Rattle.rio_num.specs.{Layout.{behind, broken, choice, done, number}}
use Rattle.rio_format.specs.{declared.class.ClassDef.{ClassDef}, declared.kind.Kind.TheVariants.{Plain, Inline}, declared.kind.Primitive.{Primitive, TheVariants.{U16, U32}}}
use Rattle.rio_format.specs.{declared.value.Value.{Value, Int, Object}, declared.value.Part.{Part}}
use Rattle.rio_format.specs.{Frames.{ObjLayout, checksum_behind, end_of, header, header_end, is_count}, ReaderState.{WordsMet, no_words}, Writer.{Writer}, declared.words.Header.{Header}}
use Rattle.rio_format.specs.{declared.fault.ObjFault.{ObjFault, TheVariants.{BadCount, NoCount, Short, TooDeep}}, declared.form.Form.{Form, TheVariants.{Bare as bare, Numbers as numbers, Headed as with_header}}}
use Rattle.rio_format.specs.{Bodies.{Body, described, listed, arrayed, opaque, body_of, form_of, headless_classes, part, row_of}, Growth.{is_all_read}, Prims.{width_of}}
use Rattle.rio_format.specs.Objects.{Objects, SpellsObject, array_parts, bare_layout, body, closed, count_of, depth_limit, formed, has_pid, headed, list_parts, number_array, object_of, parts, pid_of, pid_part, unread, whole_object}
use Rattle.rio_format.specs.Slots.{Slot, declared_body, described_fields, flags, kinded, many}
use Rattle.rio_format.specs.Written.{Writing, arrayed_bytes, bare_bytes, body_bytes, both, fields_bytes, form_bytes, headed_bytes, just, listed_bytes, writing_of, written_form}
use Rattle.rio_format.proofs.{AllRead.{AllRead, PartRead, opaque_unread, parts_read}, BuiltInLaws.{of_each}, ValueCases.{Each}, WrittenLists.{writings}, WrittenValues.{write_object}}
use Rattle.rio_state.proofs.Ahead.{Ahead, ahead_as, ahead_both, ahead_headed, ahead_just}
use Rattle.rio_state.proofs.AheadParts.{IsNothing, ObjectAhead, ObjectOwn, end_keeps, finish_keeps, reaches_of}
use Rattle.rio_state.proofs.{AheadObjects.{array_ahead, list_ahead, parts_ahead}, AheadValues.{int_ahead, numbers_covers}}

-- What a header picks is what is written by: a description of a class in its version, or the body of a built-in class in its own.
pub record PicksAreWritten (classes : List ClassDef) : Type 0 where
  pub described_is : (class : List ℕ) (version : ℤ) (sum : Option ℕ) (c : ClassDef) → body_of classes class version sum ≡ described c → declared_body classes class c.version ≡ Some (described c)
  pub listed_is : (class : List ℕ) (version : ℤ) (sum : Option ℕ) → body_of classes class version sum ≡ listed → declared_body classes class (pos 5) ≡ Some listed
  pub arrayed_is : (class : List ℕ) (version : ℤ) (sum : Option ℕ) → body_of classes class version sum ≡ arrayed → declared_body classes class (pos 3) ≡ Some arrayed

-- ---- headers

-- a byte count, a version, and a checksum, if there is one
record HeaderRead (b : List ℕ) (t t' : WordsMet) : Type 0 where
  word : List ℕ
  stated : List ℕ
  parts : b ≡ word ++ stated
  four : length word ≡ 4
  two : 2 ≤ length stated
  words : t' ≡ t

header_end_keeps : (end p place w : ℕ) (t : WordsMet) (x : ℕ) (b : List ℕ) (t' : WordsMet) → IsSo (header_end place w) end p t x b t' → IsNothing b t t'
header_end_keeps end p place w t x b t' c = by (is_count w) (nat_le (3 * 2 ^ 30) w) c
  where
    by : (count large : Bool) → IsSo (choice count (end_of place w) (choice large (broken (BadCount place)) (broken (NoCount place)))) end p t x b t' → IsNothing b t t'
    by true large c = end_keeps end p place w t x b t' (record { so = c.so })
    by false true c = absurd c.so
    by false false c = absurd c.so

sum_keeps : (version end p : ℕ) (t : WordsMet) (x : Option ℕ) (b : List ℕ) (t' : WordsMet) → IsSo (checksum_behind version) end p t x b t' → t' ≡ t
sum_keeps version end p t x b t' c = by (version == 0) c
  where
    by : (zero : Bool) → IsSo (choice zero (behind (number Short 4) (λ sum. done (Some sum))) (done None)) end p t x b t' → t' ≡ t
    by true c = let d = c.so in let one = d.5 in let two = d.6 in two.2 ∙ one.2
    by false c = let d = c.so in d.2

header_read : (end p : ℕ) (t : WordsMet) (h : Header) (b : List ℕ) (t' : WordsMet) → IsSo header end p t h b t' → HeaderRead b t t'
unfolding header
header_read end p t h b t' c =
    number_of (here_of c) (λ w rest fits parts next.
    both_of next (λ stop f1 rest1 u1 parts1 ends next1.
    let none = header_end_keeps end (p + 4) p w t stop f1 u1 ends in
    number_of next1 (λ version rest2 fits2 parts2 next2.
    both_of next2 (λ sum f3 rest3 u3 parts3 summed last.
    let e = last.so in
    let stated = big_bytes 2 version ++ rest2 in
    let made : HeaderRead b t t' = record {
      word = big_bytes 4 w;
      stated = stated;
      parts = parts ∙ ap (λ (z : List ℕ). big_bytes 4 w ++ z) (parts1 ∙ (λ i. none.bytes i ++ rest1) ∙ parts2);
      four = length-bytes_high_first 4 w;
      two = omega (arith, length-append (big_bytes 2 version) rest2, length-bytes_high_first 2 version);
      words = e.2 ∙ sum_keeps version end (p + 4 + length f1 + 2) u1 sum f3 u3 summed ∙ none.words;
    } in made))))

-- bytes that aren't read are no value that is
pub unread_never : (class : List ℕ) (h : Header) (end p : ℕ) (t : WordsMet) (y : Value) (b : List ℕ) (t' : WordsMet) → AllRead y → IsSo (unread class h) end p t y b t' → ⊥
unfolding unread
unread_never class h end p t y b t' read c =
    must_of (nat_le p h.end) (here_of c) (λ low next.
    both_of next (λ z f rest u parts skipped last.
    let e = last.so in
    opaque_unread class (h.end - h.place - 4) (ap is_all_read (sym e.0) ∙ read)))

-- ---- objects

module _ (classes : List ClassDef) where
  abbrev W : Value → Writing
  W v = writing_of classes v

  abbrev writes : List Part → List Writing
  writes ps = writings classes ps

  abbrev form_writer : List ℕ → ℤ → List Part → Writer
  form_writer class version ps = form_bytes classes class version (form_of class) (writes ps)

  object_bytes : (class : List ℕ) (version : ℤ) (ps : List Part) (slot : Slot) → (W (Object class version ps)).bytes slot ≡ form_writer class version ps
  object_bytes class version ps slot = ap (λ (w : Writing). w.bytes slot) (write_object classes class version ps)

  object_class : (class : List ℕ) (version : ℤ) (ps : List Part) → (W (Object class version ps)).class ≡ class
  object_class class version ps = ap (λ (w : Writing). w.class) (write_object classes class version ps)

  -- an object that was read: what is written by its form is no longer
  record IsObjectRead (class : List ℕ) (p : ℕ) (t : WordsMet) (y : Value) (b : List ℕ) (t' : WordsMet) : Type 0 where
    version : ℤ
    ps : List Part
    value : y ≡ Object class version ps
    ahead : Ahead (form_writer class version ps) p t b t'

  as_form : (class : List ℕ) (version : ℤ) (ps : List Part) (f : Form) (g : Writer) (p : ℕ) (t t' : WordsMet) (b : List ℕ) → form_of class ≡ f → form_bytes classes class version f (writes ps) ≡ g → Ahead g p t b t' → Ahead (form_writer class version ps) p t b t'
  as_form class version ps f g p t t' b is same one = subst (λ (k : Writer). Ahead k p t b t') (sym (ap (λ (x : Form). form_bytes classes class version x (writes ps)) is ∙ same)) one

  -- ---- without a header

  only_object : (class : List ℕ) → form_of class ≡ bare → class ≡ codes "TObject"
  only_object class is =
      of_each (λ (f : Form). f ≡ bare → class ≡ codes "TObject") (λ b. (row_of b).form) with_header headless_classes class
      ((λ e same. e), ((λ e same. absurd cc), ((λ e same. absurd cc), ((λ e same. absurd cc), ((λ e same. absurd cc), ((λ e same. absurd cc), ((λ e same. absurd cc), tt)))))))
      (λ same. absurd cc) is

  big_within : (n x y : ℕ) → length (big_bytes n x) ≤ length (big_bytes n y)
  big_within n x y = omega (arith, length-bytes_high_first n x, length-bytes_high_first n y)

  -- the parts of a TObject
  abbrev numbered : ℕ → ℕ → List Part → List Part
  numbered id bits pid = part (codes "fUniqueID") (Int (pos id)) ∷ part (codes "fBits") (Int (pos bits)) ∷ pid

  module _ (id bits version p : ℕ) (t : WordsMet) where
    abbrev id_writer : Writer
    id_writer = (W (Int (pos id))).bytes (kinded (Plain U32))

    abbrev bits_writer : Writer
    bits_writer = (W (Int (pos bits))).bytes flags

    abbrev first_bytes : List ℕ
    first_bytes = big_bytes 2 version

    id_ahead : (q : ℕ) → Ahead id_writer q t (big_bytes 4 id) t
    id_ahead q = int_ahead classes (pos id) (kinded (Plain U32)) q t t (big_bytes 4 id) (big_within 4 (cast_unsigned w32 (pos id)) id) refl

    bits_ahead : (q : ℕ) → Ahead bits_writer q t (big_bytes 4 bits) t
    bits_ahead q = int_ahead classes (pos bits) flags q t t (big_bytes 4 bits) (big_within 4 (cast_unsigned w32 (pos bits)) bits) refl

    without_pid : Ahead (bare_bytes (writes (numbered id bits []))) p t (first_bytes ++ (big_bytes 4 id ++ big_bytes 4 bits)) t
    without_pid =
        ahead_both (just (big_bytes 2 1)) (both id_writer bits_writer) p t t t first_bytes (big_bytes 4 id ++ big_bytes 4 bits) (ahead_just (big_bytes 2 1) first_bytes p t (big_within 2 1 version))
        (ahead_both id_writer bits_writer (p + length first_bytes) t t t (big_bytes 4 id) (big_bytes 4 bits) (id_ahead (p + length first_bytes)) (bits_ahead (p + length first_bytes + length (big_bytes 4 id))))

    with_pid : (n : ℕ) → Ahead (bare_bytes (writes (numbered id bits (pid_part n ∷ [])))) p t (first_bytes ++ (big_bytes 4 id ++ (big_bytes 4 bits ++ big_bytes 2 n))) t
    with_pid n =
        let pid_writer = (W (Int (pos n))).bytes (kinded (Plain U16)) in
        let at = p + length first_bytes + length (big_bytes 4 id) in
        ahead_both (just (big_bytes 2 1)) (both id_writer (both bits_writer pid_writer)) p t t t first_bytes (big_bytes 4 id ++ (big_bytes 4 bits ++ big_bytes 2 n)) (ahead_just (big_bytes 2 1) first_bytes p t (big_within 2 1 version))
        (ahead_both id_writer (both bits_writer pid_writer) (p + length first_bytes) t t t (big_bytes 4 id) (big_bytes 4 bits ++ big_bytes 2 n) (id_ahead (p + length first_bytes))
        (ahead_both bits_writer pid_writer at t t t (big_bytes 4 bits) (big_bytes 2 n) (bits_ahead at)
        (int_ahead classes (pos n) (kinded (Plain U16)) (at + length (big_bytes 4 bits)) t t (big_bytes 2 n) (big_within 2 (cast_unsigned w16 (pos n)) n) refl)))

    pid_ahead : (end q : ℕ) (pid : List Part) (f : List ℕ) (u : WordsMet) → IsSo (pid_of bits) end q t pid f u → Ahead (bare_bytes (writes (numbered id bits pid))) p t (first_bytes ++ (big_bytes 4 id ++ (big_bytes 4 bits ++ f))) u
    pid_ahead end q pid f u c = by (has_pid bits) c
      where
        by : (some : Bool) → IsSo (choice some (behind (number Short 2) (λ n. done (pid_part n ∷ []))) (done [])) end q t pid f u → Ahead (bare_bytes (writes (numbered id bits pid))) p t (first_bytes ++ (big_bytes 4 id ++ (big_bytes 4 bits ++ f))) u
        by true c =
            let d = c.so in
            let one = d.5 in
            let two = d.6 in
            let same : big_bytes 2 d.0 ≡ f = sym (d.4 ∙ (λ i. one.1 i ++ two.1 i) ∙ append-nil (big_bytes 2 d.0)) in
            subst (λ (x : List Part × List ℕ × WordsMet). Ahead (bare_bytes (writes (numbered id bits x.0))) p t (first_bytes ++ (big_bytes 4 id ++ (big_bytes 4 bits ++ x.1))) x.2)
            (λ i. (sym two.0 i, same i, sym (two.2 ∙ one.2) i)) (with_pid d.0)
        by false c =
            let d = c.so in
            let whole : first_bytes ++ (big_bytes 4 id ++ big_bytes 4 bits) ≡ first_bytes ++ (big_bytes 4 id ++ (big_bytes 4 bits ++ f)) = ap (λ (z : List ℕ). first_bytes ++ (big_bytes 4 id ++ z)) (sym (append-nil (big_bytes 4 bits)) ∙ ap (λ (z : List ℕ). big_bytes 4 bits ++ z) (sym d.1)) in
            subst (λ (x : List Part × List ℕ × WordsMet). Ahead (bare_bytes (writes (numbered id bits x.0))) p t x.1 x.2) (λ i. (sym d.0 i, whole i, sym d.2 i)) without_pid

  bare_read : (class : List ℕ) → form_of class ≡ bare → (end p : ℕ) (t : WordsMet) (y : Value) (b : List ℕ) (t' : WordsMet) → IsSo bare_layout end p t y b t' → IsObjectRead class p t y b t'
  unfolding bare_layout
  bare_read class is end p t y b t' c =
      number_of (here_of c) (λ version rest fits parts n1.
      must_of (version == 1) n1 (λ one n2.
      number_of n2 (λ id rest2 fits2 parts2 n3.
      number_of n3 (λ bits rest3 fits3 parts3 n4.
      both_of n4 (λ pid f r u p4 pids last.
      let e = last.so in
      let made = pid_ahead id bits version p t end (p + 2 + 4 + 4) pid f u pids in
      let g = bare_bytes (writes (numbered id bits pid)) in
      let same : big_bytes 2 version ++ (big_bytes 4 id ++ (big_bytes 4 bits ++ f)) ≡ b =
      ap (λ (z : List ℕ). big_bytes 2 version ++ (big_bytes 4 id ++ (big_bytes 4 bits ++ z))) (sym (append-nil f) ∙ ap (λ (z : List ℕ). f ++ z) (sym e.1) ∙ sym p4)
      ∙ ap (λ (z : List ℕ). big_bytes 2 version ++ (big_bytes 4 id ++ z)) (sym parts3) ∙ ap (λ (z : List ℕ). big_bytes 2 version ++ z) (sym parts2) ∙ sym parts in
      let ahead : Ahead g p t b t' = subst (λ (w : WordsMet). Ahead g p t b w) (sym e.2) (ahead_as g p t u (big_bytes 2 version ++ (big_bytes 4 id ++ (big_bytes 4 bits ++ f))) b same made) in
      let it : IsObjectRead class p t y b t' = record {
        version = pos 1;
        ps = numbered id bits pid;
        value = e.0 ∙ ap (λ (k : List ℕ). Object k (pos 1) (numbered id bits pid)) (sym (only_object class is));
        ahead = as_form class (pos 1) (numbered id bits pid) bare g p t t' b is refl ahead;
      } in it)))))

  -- a count of items: four bytes
  count_is : (count width : ℕ) (f : List ℕ) (u : WordsMet) (end p : ℕ) (t : WordsMet) → IsSo (count_of width) end p t count f u → (length f ≡ 4) × (u ≡ t)
  unfolding count_of
  count_is count width f u end p t c =
      number_of (here_of c) (λ n rest fits parts next.
      must_of (nat_lt n (2 ^ 31)) (here_of next) (λ low more.
      let last : IsSo {F = ObjFault} (done n) end (p + 4) t count rest u = reaches_of more in
      let e = last.so in
      let made : (length f ≡ 4) × (u ≡ t) = (omega (arith, ap length parts, length-append (big_bytes 4 n) rest, length-bytes_high_first 4 n, ap length e.1), e.2) in
      made))

  array_read : (class : List ℕ) (of : Primitive) → form_of class ≡ numbers of → (end p : ℕ) (t : WordsMet) (y : Value) (b : List ℕ) (t' : WordsMet) → IsSo (number_array class of) end p t y b t' → IsObjectRead class p t y b t'
  unfolding number_array
  array_read class of is end p t y b t' c =
      both_of c (λ count f r u p1 counted next.
      both_of next (λ items f2 r2 u2 p2 read_items last.
      let e = last.so in
      let number = count_is count (width_of of) f u end p t counted in
      let ps : List Part = part (codes "items") items ∷ [] in
      let item_writer = (W items).bytes (many (kinded (Plain of))) in
      let count_writer = just (big_bytes 4 (W items).count) in
      let a2 = numbers_covers classes of count (many (kinded (Plain of))) (λ ws. refl) end (p + length f) u items f2 u2 read_items.so in
      let a1 = ahead_both count_writer item_writer p t u u2 f f2
      (subst (λ (w : WordsMet). Ahead count_writer p t f w) (sym number.1) (ahead_just (big_bytes 4 (W items).count) f p t (omega (arith, number.0, length-bytes_high_first 4 (W items).count)))) a2 in
      let same : f ++ f2 ≡ b = ap (λ (z : List ℕ). f ++ z) (sym (append-nil f2) ∙ ap (λ (z : List ℕ). f2 ++ z) (sym e.1) ∙ sym p2) ∙ sym p1 in
      let g = both count_writer item_writer in
      let ahead : Ahead g p t b t' = subst (λ (w : WordsMet). Ahead g p t b w) (sym e.2) (ahead_as g p t u2 (f ++ f2) b same a1) in
      let it : IsObjectRead class p t y b t' = record { version = pos 1; ps = ps; value = e.0; ahead = as_form class (pos 1) ps (numbers of) g p t t' b is refl ahead } in it))

  -- ---- behind a header

  module _ (object : Objects) (inner : ObjectAhead classes object) (own : ObjectOwn classes object) where
    -- parts, and where they end
    record IsWholeRead (class : List ℕ) (version : ℤ) (g : List Part → Writer) (p : ℕ) (t : WordsMet) (y : Value) (b : List ℕ) (t' : WordsMet) : Type 0 where
      ps : List Part
      value : y ≡ Object class version ps
      ahead : Ahead (g ps) p t b t'

    whole_read : (class : List ℕ) (version : ℤ) (h : Header) (inside : ObjLayout (List Part)) (g : List Part → Writer)
        → ((end p : ℕ) (t : WordsMet) (ps : List Part) (b : List ℕ) (t' : WordsMet) → Each PartRead ps → IsSo inside end p t ps b t' → Ahead (g ps) p t b t')
        → (end p : ℕ) (t : WordsMet) (y : Value) (b : List ℕ) (t' : WordsMet) → AllRead y → IsSo (whole_object class version h inside) end p t y b t' → IsWholeRead class version g p t y b t'
    unfolding whole_object closed
    whole_read class version h inside g one end p t y b t' read c =
        both_of c (λ ps f rest u parts first next.
        both_of next (λ z f2 rest2 u2 parts2 fin last.
        let e = last.so in
        let none = finish_keeps end (p + length f) h.place h.end u z f2 u2 fin in
        let whole = parts_read class version ps (ap is_all_read (sym e.0) ∙ read) in
        let same : f ≡ b = sym (append-nil f) ∙ ap (λ (zs : List ℕ). f ++ zs) (sym (parts2 ∙ (λ i. none.bytes i ++ e.1 i))) ∙ sym parts in
        let made : IsWholeRead class version g p t y b t' = record {
          ps = ps;
          value = e.0;
          ahead = subst (λ (w : WordsMet). Ahead (g ps) p t b w) (sym (e.2 ∙ none.words)) (ahead_as (g ps) p t u f b same (one end p t ps f u whole first));
        } in made))

    module _ (picks : PicksAreWritten classes) where
      -- what stands behind a header, and is written behind one
      abbrev headed_writer : List ℕ → ℤ → List Part → Writer
      headed_writer class version ps = body_bytes (declared_body classes class version) (writes ps)

      body_read : (class : List ℕ) (h : Header) (version : ℤ) (sum : Option ℕ) (x : Body) → body_of classes class version sum ≡ x → (end p : ℕ) (t : WordsMet) (y : Value) (b : List ℕ) (t' : WordsMet) → AllRead y
          → IsSo (body object class h x) end p t y b t' → (v : ℤ) × IsWholeRead class v (headed_writer class v) p t y b t'
      unfolding body
      body_read class h version sum (described c) is end p t y b t' read s =
          let w = whole_read class c.version h (parts object c) (λ ps. fields_bytes (described_fields c) (writes ps)) (parts_ahead classes object inner own c) end p t y b t' read s in
          let same = ap (λ (x : Option Body). body_bytes x (writes w.ps)) (picks.described_is class version sum c is) in
          let it : IsWholeRead class c.version (headed_writer class c.version) p t y b t' = record { ps = w.ps; value = w.value; ahead = subst (λ (f : Writer). Ahead f p t b t') (sym same) w.ahead } in
          (c.version, it)
      body_read class h version sum listed is end p t y b t' read s =
          let w = whole_read class (pos 5) h (list_parts object) (λ ps. listed_bytes (writes ps)) (list_ahead classes object inner own) end p t y b t' read s in
          let same = ap (λ (x : Option Body). body_bytes x (writes w.ps)) (picks.listed_is class version sum is) in
          let it : IsWholeRead class (pos 5) (headed_writer class (pos 5)) p t y b t' = record { ps = w.ps; value = w.value; ahead = subst (λ (f : Writer). Ahead f p t b t') (sym same) w.ahead } in
          (pos 5, it)
      body_read class h version sum arrayed is end p t y b t' read s =
          let w = whole_read class (pos 3) h (array_parts object) (λ ps. arrayed_bytes (writes ps)) (array_ahead classes object inner own) end p t y b t' read s in
          let same = ap (λ (x : Option Body). body_bytes x (writes w.ps)) (picks.arrayed_is class version sum is) in
          let it : IsWholeRead class (pos 3) (headed_writer class (pos 3)) p t y b t' = record { ps = w.ps; value = w.value; ahead = subst (λ (f : Writer). Ahead f p t b t') (sym same) w.ahead } in
          (pos 3, it)
      body_read class h version sum opaque is end p t y b t' read s = absurd (unread_never class h end p t y b t' read s)

      headed_read : (class : List ℕ) → form_of class ≡ with_header → (end p : ℕ) (t : WordsMet) (y : Value) (b : List ℕ) (t' : WordsMet) → AllRead y → IsSo (headed object classes class) end p t y b t' → IsObjectRead class p t y b t'
      unfolding headed
      headed_read class is end p t y b t' read c =
          both_of c (λ h f rest u parts first next.
          let r = header_read end p t h f u first in
          let two = body_read class h h.version h.sum (body_of classes class h.version h.sum) refl end (p + length f) u y rest t' read next in
          let w = two.1 in
          let at : p + length f ≡ p + length r.word + length r.stated = omega (arith, ap length r.parts, length-append r.word r.stated) in
          let g = headed_writer class two.0 w.ps in
          let start : Ahead g (p + length r.word + length r.stated) t rest t' = subst (λ (q : ℕ × WordsMet). Ahead g q.0 q.1 rest t') (λ i. (at i, r.words i)) w.ahead in
          let made = ahead_headed two.0 g p t t' r.word r.stated rest r.four r.two start in
          let same : r.word ++ (r.stated ++ rest) ≡ b = sym (append_assoc r.word r.stated rest) ∙ ap (λ (z : List ℕ). z ++ rest) (sym r.parts) ∙ sym parts in
          let ahead = ahead_as (headed_bytes two.0 g) p t t' (r.word ++ (r.stated ++ rest)) b same made in
          let it : IsObjectRead class p t y b t' = record { version = two.0; ps = w.ps; value = w.value; ahead = as_form class two.0 w.ps with_header (headed_bytes two.0 g) p t t' b is refl ahead } in it)

      formed_read : (class : List ℕ) (f : Form) → form_of class ≡ f → (end p : ℕ) (t : WordsMet) (y : Value) (b : List ℕ) (t' : WordsMet) → AllRead y → IsSo (formed object classes class f) end p t y b t' → IsObjectRead class p t y b t'
      unfolding formed
      formed_read class bare is end p t y b t' read c = bare_read class is end p t y b t' c
      formed_read class (numbers of) is end p t y b t' read c = array_read class of is end p t y b t' c
      formed_read class with_header is end p t y b t' read c = headed_read class is end p t y b t' read c

  -- ---- all levels

  module _ (picks : PicksAreWritten classes) where
    of_read : (class : List ℕ) (p : ℕ) (t : WordsMet) (y : Value) (b : List ℕ) (t' : WordsMet) → IsObjectRead class p t y b t' → ((slot : Slot) → Ahead ((W y).bytes slot) p t b t') × ((W y).class ≡ class)
    of_read class p t y b t' r = (
      (λ slot. subst (λ (v : Value). Ahead ((W v).bytes slot) p t b t') (sym r.value) (subst (λ (f : Writer). Ahead f p t b t') (sym (object_bytes class r.version r.ps slot)) r.ahead)),
      ap (λ (v : Value). (W v).class) r.value ∙ object_class class r.version r.ps,
    )

    object_read : (levels : ℕ) (class : List ℕ) (end p : ℕ) (t : WordsMet) (y : Value) (b : List ℕ) (t' : WordsMet) → AllRead y → IsSo (object_of levels classes class) end p t y b t'
        → ((slot : Slot) → Ahead ((W y).bytes slot) p t b t') × ((W y).class ≡ class)
    unfolding object_of
    object_read zero class end p t y b t' read c = let d : IsSo {F = ObjFault} {A = Value} (broken (TooDeep p)) end p t y b t' = here_of c in absurd d.so
    object_read (suc levels) class end p t y b t' read c =
        of_read class p t y b t'
        (formed_read (object_of levels classes) (λ k slot e q u v f w r s. (object_read levels k e q u v f w r s).0 slot) (λ k e q u v f w r s. (object_read levels k e q u v f w r s).1) picks class (form_of class) refl end p t y b t' read c)

    -- no object, all of which is read, is spelled in fewer bytes than are written for it
    pub shortest_form : (class : List ℕ) (start : ℕ) (v : Value) (bytes : List ℕ) → AllRead v → SpellsObject classes start class v bytes → length (written_form classes start v) ≤ length bytes
    unfolding SpellsObject
    shortest_form class start v bytes read c =
        let r = object_read depth_limit class (start + length bytes) start no_words v bytes c.0 read (record { so = c.1 }) in
        (r.0 (kinded (Inline (W v).class)) start no_words (record { left = tt; right = tt; same = λ k. refl })).short
