-- What is written for an object that was read is no longer than it was.
use Rattle.std.proofs.Common.{◌≡◌, ℕ, ◌+◌, ◌^◌, pos, codes, List, [], ◌∷◌, ◌++◌, length, map, replicate, refl, sym, ap, subst, ◌∙◌, append-nil, append_assoc, arith}
use Rattle.std.proofs.lemmas.List.{length-append}
use Rattle.std.specs.{Prelude.{nat_lt}}
use Rattle.byteorder.specs.{Endian.{big_bytes}, Numbers.{length-bytes_high_first}}
use Rattle.rio_num.proofs.Intro.{IsSo}
use Rattle.rio_num.proofs.Apart.{both_of, here_of, must_of, number_of, text_of}
use Rattle.rio_num.specs.{Layout.{behind, done, each}}
use Rattle.rio_num.proofs.TextLengths.{shortest_text}
use Rattle.rio_format.specs.{declared.class.Base.{Base}, declared.class.ClassDef.{ClassDef}, declared.class.Member.{Member}, declared.kind.Kind.TheVariants.{Plain, Text as Texted}, declared.kind.Primitive.TheVariants.{I32}}
use Rattle.rio_format.specs.{declared.value.Value.{Value, Text, List as Items}, declared.value.Part.{Part}, Frames.{ObjLayout}, ReaderState.{WordsMet}, declared.fault.ObjFault.{ObjFault}}
use Rattle.rio_format.specs.{Bodies.{Counters, counters_with, part}, Growth.{is_all_read}, Objects.{Objects, array_parts, base_part, count_of, kind_value, link, list_parts, member_part, member_parts, parts, pointer}}
use Rattle.rio_format.specs.Slots.{Field, Slot, any_pointer, based, base_field, described_fields, kinded, many, member_field, link as link_slot}
use Rattle.rio_format.specs.Written.{Writing, all, arrayed_bytes, both, fields_bytes, just, listed_bytes, writing_of}
use Rattle.rio_format.proofs.{AllRead.{AllRead, PartRead, each_back, each_front, items_read}, ValueCases.{Each}, WrittenLists.{writings}}
use Rattle.rio_state.proofs.Ahead.{Ahead, ahead_as, ahead_both, ahead_just}
use Rattle.rio_state.proofs.AheadParts.{ObjectAhead, ObjectOwn, kind_ahead, pointer_ahead, reaches_of}
use Rattle.rio_state.proofs.AheadValues.{items_ahead, number_covers, text_ahead}

module _ (classes : List ClassDef) (object : Objects) (inner : ObjectAhead classes object) (own : ObjectOwn classes object) where
  abbrev W : Value → Writing
  W v = writing_of classes v

  abbrev writes : List Part → List Writing
  writes ps = writings classes ps

  -- a value, and then a part of it
  part_of : (l : ObjLayout Value) (name : List ℕ) (slot : Slot) (end p : ℕ) (t : WordsMet) (y : Part) (b : List ℕ) (t' : WordsMet)
      → ((v : Value) (f : List ℕ) (u : WordsMet) → AllRead v → IsSo l end p t v f u → Ahead ((W v).bytes slot) p t f u)
      → IsSo (behind l (λ v. done (part name v))) end p t y b t' → PartRead y → Ahead ((W y.value).bytes slot) p t b t'
  part_of l name slot end p t y b t' one c read =
      both_of c (λ v f rest u parts first last.
      let e = last.so in
      let whole : AllRead v = ap (λ (q : Part). is_all_read q.value) (sym e.0) ∙ read in
      let same : f ≡ b = sym (append-nil f) ∙ ap (λ (z : List ℕ). f ++ z) (sym e.1) ∙ sym parts in
      subst (λ (q : Part). Ahead ((W q.value).bytes slot) p t b t') (sym e.0)
      (subst (λ (w : WordsMet). Ahead ((W v).bytes slot) p t b w) (sym e.2) (ahead_as ((W v).bytes slot) p t u f b same (one v f u whole first))))

  -- ---- members and bases

  members_ahead : (counters : Counters) (ms : List Member) (end p : ℕ) (t : WordsMet) (ys : List Part) (b : List ℕ) (t' : WordsMet) → Each PartRead ys → IsSo (member_parts object counters ms) end p t ys b t'
      → Ahead (fields_bytes (map member_field ms) (writes ys)) p t b t'
  unfolding member_parts member_part
  members_ahead counters [] end p t ys b t' read c =
      let e = c.so in
      subst (λ (w : WordsMet). Ahead (just []) p t b w) (sym e.2) (ahead_just [] b p t (omega arith))
  members_ahead counters (m ∷ ms) end p t ys b t' read c =
      both_of c (λ y f rest u parts first next.
      both_of next (λ more f2 rest2 u2 parts2 second last.
      let e = last.so in
      let all = subst (Each PartRead) e.0 read in
      let one = part_of (kind_value object counters m.kind) m.name (kinded m.kind) end p t y f u (λ v g w r s. kind_ahead classes object inner own counters m.kind end p t v g w r s) first all.0 in
      let others = members_ahead (counters_with m y.value counters) ms end (p + length f) u more f2 u2 all.1 second in
      let made = ahead_both ((W y.value).bytes (kinded m.kind)) (fields_bytes (map member_field ms) (writes more)) p t u u2 f f2 one others in
      let same : f ++ f2 ≡ b = ap (λ (z : List ℕ). f ++ z) (sym (append-nil f2) ∙ ap (λ (z : List ℕ). f2 ++ z) (sym e.1) ∙ sym parts2) ∙ sym parts in
      let field : List Field = map member_field (m ∷ ms) in
      subst (λ (qs : List Part). Ahead (fields_bytes field (writes qs)) p t b t') (sym e.0)
      (subst (λ (w : WordsMet). Ahead (fields_bytes field (writes (y ∷ more))) p t b w) (sym e.2) (ahead_as (fields_bytes field (writes (y ∷ more))) p t u2 (f ++ f2) b same made))))

  -- bases before fields
  bases_ahead : (bases : List Base) (fs : List Field) (ms : List Part) (end p : ℕ) (t : WordsMet) (ys : List Part) (b : List ℕ) (t1 : WordsMet) (c : List ℕ) (t2 : WordsMet) → Each PartRead ys
      → IsSo (each (base_part object) bases) end p t ys b t1 → Ahead (fields_bytes fs (writes ms)) (p + length b) t1 c t2 → Ahead (fields_bytes (map base_field bases ++ fs) (writes (ys ++ ms))) p t (b ++ c) t2
  unfolding each base_part
  bases_ahead [] fs ms end p t ys b t1 c t2 read s rest =
      let e = s.so in
      let at : p + length b ≡ p = omega (arith, ap length e.1) in
      let here : Ahead (fields_bytes fs (writes ms)) p t c t2 = subst (λ (q : ℕ × WordsMet). Ahead (fields_bytes fs (writes ms)) q.0 q.1 c t2) (λ i. (at i, e.2 i)) rest in
      subst (λ (q : List Part × List ℕ). Ahead (fields_bytes fs (writes (q.0 ++ ms))) p t (q.1 ++ c) t2) (λ i. (sym e.0 i, sym e.1 i)) here
  bases_ahead (x ∷ xs) fs ms end p t ys b t1 c t2 read s rest =
      both_of s (λ y f r u parts first next.
      both_of next (λ more f2 r2 u2 parts2 second last.
      let e = last.so in
      let all = subst (Each PartRead) e.0 read in
      let one = part_of (object x.name) [] (based x.name x.version) end p t y f u (λ v g w q z. inner x.name (based x.name x.version) end p t v g w q z) first all.0 in
      let whole : b ≡ f ++ f2 = parts ∙ ap (λ (z : List ℕ). f ++ z) (parts2 ∙ ap (λ (z : List ℕ). f2 ++ z) e.1 ∙ append-nil f2) in
      let at : p + length b ≡ p + length f + length f2 = omega (arith, ap length whole, length-append f f2) in
      let tail : Ahead (fields_bytes fs (writes ms)) (p + length f + length f2) u2 c t2 = subst (λ (q : ℕ × WordsMet). Ahead (fields_bytes fs (writes ms)) q.0 q.1 c t2) (λ i. (at i, e.2 i)) rest in
      let others = bases_ahead xs fs ms end (p + length f) u more f2 u2 c t2 all.1 second tail in
      let fields : List Field = map base_field xs ++ fs in
      let made = ahead_both ((W y.value).bytes (based x.name x.version)) (fields_bytes fields (writes (more ++ ms))) p t u t2 f (f2 ++ c) one others in
      let same : f ++ (f2 ++ c) ≡ b ++ c = sym (append_assoc f f2 c) ∙ ap (λ (z : List ℕ). z ++ c) (sym whole) in
      subst (λ (qs : List Part). Ahead (fields_bytes (base_field x ∷ fields) (writes (qs ++ ms))) p t (b ++ c) t2) (sym e.0)
      (ahead_as (fields_bytes (base_field x ∷ fields) (writes (y ∷ (more ++ ms)))) p t t2 (f ++ (f2 ++ c)) (b ++ c) same made)))

  pub parts_ahead : (c : ClassDef) (end p : ℕ) (t : WordsMet) (ys : List Part) (b : List ℕ) (t' : WordsMet) → Each PartRead ys → IsSo (parts object c) end p t ys b t' → Ahead (fields_bytes (described_fields c) (writes ys)) p t b t'
  unfolding parts
  parts_ahead c end p t ys b t' read s =
      both_of s (λ bs f rest u parts first next.
      both_of next (λ ms f2 rest2 u2 parts2 second last.
      let e = last.so in
      let all = subst (Each PartRead) e.0 read in
      let members = members_ahead [] c.members end (p + length f) u ms f2 u2 (each_back PartRead bs ms all) second in
      let made = bases_ahead c.bases (map member_field c.members) ms end p t bs f u f2 u2 (each_front PartRead bs ms all) first members in
      let same : f ++ f2 ≡ b = ap (λ (z : List ℕ). f ++ z) (sym (append-nil f2) ∙ ap (λ (z : List ℕ). f2 ++ z) (sym e.1) ∙ sym parts2) ∙ sym parts in
      subst (λ (qs : List Part). Ahead (fields_bytes (described_fields c) (writes qs)) p t b t') (sym e.0)
      (subst (λ (w : WordsMet). Ahead (fields_bytes (described_fields c) (writes (bs ++ ms))) p t b w) (sym e.2)
      (ahead_as (fields_bytes (described_fields c) (writes (bs ++ ms))) p t u2 (f ++ f2) b same made))))

  -- ---- built-in classes

  -- a count of items: four bytes
  pub record IsCountRead (b : List ℕ) (t t' : WordsMet) : Type 0 where
    pub four : length b ≡ 4
    pub words : t' ≡ t

  pub count_read : (width end p : ℕ) (t : WordsMet) (x : ℕ) (b : List ℕ) (t' : WordsMet) → IsSo (count_of width) end p t x b t' → IsCountRead b t t'
  unfolding count_of
  count_read width end p t x b t' c =
      number_of (here_of c) (λ n rest fits parts next.
      must_of (nat_lt n (2 ^ 31)) (here_of next) (λ low more.
      let last : IsSo {F = ObjFault} (done n) end (p + 4) t x rest t' = reaches_of more in
      let e = last.so in
      let made : IsCountRead b t t' = record {
        four = omega (arith, ap length parts, length-append (big_bytes 4 n) rest, length-bytes_high_first 4 n, ap length e.1);
        words = e.2;
      } in made))

  each_ahead : (l : ObjLayout Value) (slot : Slot) → ((end p : ℕ) (t : WordsMet) (v : Value) (f : List ℕ) (u : WordsMet) → AllRead v → IsSo l end p t v f u → Ahead ((W v).bytes slot) p t f u)
      → (xs : List (Unit {0})) (end p : ℕ) (t : WordsMet) (vs : List Value) (b : List ℕ) (t' : WordsMet) → Each AllRead vs → IsSo (each (λ (x : Unit {0}). l) xs) end p t vs b t' → Ahead (all slot (map W vs)) p t b t'
  unfolding each
  each_ahead l slot one [] end p t vs b t' read c =
      let e = c.so in
      subst (λ (ws : List Value). Ahead (all slot (map W ws)) p t b t') (sym e.0) (subst (λ (u : WordsMet). Ahead (just []) p t b u) (sym e.2) (ahead_just [] b p t (omega arith)))
  each_ahead l slot one (x ∷ xs) end p t vs b t' read c =
      both_of c (λ y f rest u parts first next.
      both_of next (λ more f2 rest2 u2 parts2 second last.
      let e = last.so in
      let whole = subst (Each AllRead) e.0 read in
      let made = ahead_both ((W y).bytes slot) (all slot (map W more)) p t u u2 f f2 (one end p t y f u whole.0 first) (each_ahead l slot one xs end (p + length f) u more f2 u2 whole.1 second) in
      let same : f ++ f2 ≡ b = ap (λ (z : List ℕ). f ++ z) (sym (append-nil f2) ∙ ap (λ (z : List ℕ). f2 ++ z) (sym e.1) ∙ sym parts2) ∙ sym parts in
      subst (λ (ws : List Value). Ahead (all slot (map W ws)) p t b t') (sym e.0)
      (subst (λ (w : WordsMet). Ahead (all slot (map W (y ∷ more))) p t b w) (sym e.2) (ahead_as (all slot (map W (y ∷ more))) p t u2 (f ++ f2) b same made))))

  link_ahead : (end p : ℕ) (t : WordsMet) (v : Value) (b : List ℕ) (t' : WordsMet) → AllRead v → IsSo (link object) end p t v b t' → Ahead ((W v).bytes link_slot) p t b t'
  unfolding link
  link_ahead end p t v b t' read c =
      both_of c (λ q f rest u parts first next.
      text_of next (λ option own_text rest2 spelled parts2 last.
      let e = last.so in
      let items = items_read (q ∷ Text option ∷ []) (ap is_all_read (sym e.0) ∙ read) in
      let pointer_is = pointer_ahead classes object inner own any_pointer end p t q f u items.0 first in
      let text_is = text_ahead classes option (p + length f) u u own_text (shortest_text option own_text spelled) refl in
      let made = ahead_both ((W q).bytes any_pointer) ((W (Text option)).bytes (kinded Texted)) p t u u f own_text pointer_is text_is in
      let same : f ++ own_text ≡ b = ap (λ (z : List ℕ). f ++ z) (sym (append-nil own_text) ∙ ap (λ (z : List ℕ). own_text ++ z) (sym e.1) ∙ sym parts2) ∙ sym parts in
      let made_items = items_ahead classes (q ∷ Text option ∷ []) link_slot (both ((W q).bytes any_pointer) ((W (Text option)).bytes (kinded Texted))) p t u (f ++ own_text) refl made in
      subst (λ (w : Value). Ahead ((W w).bytes link_slot) p t b t') (sym e.0)
      (subst (λ (w : WordsMet). Ahead ((W (Items (q ∷ Text option ∷ []))).bytes link_slot) p t b w) (sym e.2)
      (ahead_as ((W (Items (q ∷ Text option ∷ []))).bytes link_slot) p t u (f ++ own_text) b same made_items))))

  pub list_ahead : (end p : ℕ) (t : WordsMet) (ys : List Part) (b : List ℕ) (t' : WordsMet) → Each PartRead ys → IsSo (list_parts object) end p t ys b t' → Ahead (listed_bytes (writes ys)) p t b t'
  unfolding list_parts
  list_ahead end p t ys b t' read c =
      both_of c (λ base f0 r0 u0 p0 first n0.
      text_of n0 (λ name f1 r1 spelled p1 n1.
      both_of n1 (λ count f2 r2 u2 p2 counted n2.
      both_of n2 (λ items f3 r3 u3 p3 many_is last.
      let e = last.so in
      let number = count_read 4 end (p + length f0 + length f1) u0 count f2 u2 counted in
      let whole = subst (Each PartRead) e.0 read in
      let all_items = items_read items whole.1.1.0 in
      let a3 = items_ahead classes items (many link_slot) (all link_slot (map W items)) (p + length f0 + length f1 + length f2) u2 u3 f3 refl
      (each_ahead (link object) link_slot link_ahead (replicate count tt) end (p + length f0 + length f1 + length f2) u2 items f3 u3 all_items many_is) in
      let item_writer = (W (Items items)).bytes (many link_slot) in
      let count_writer = just (big_bytes 4 (W (Items items)).count) in
      let a2 = ahead_both count_writer item_writer (p + length f0 + length f1) u0 u2 u3 f2 f3
      (subst (λ (w : WordsMet). Ahead count_writer (p + length f0 + length f1) u0 f2 w) (sym number.words)
      (ahead_just (big_bytes 4 (W (Items items)).count) f2 (p + length f0 + length f1) u0 (omega (arith, number.four, length-bytes_high_first 4 (W (Items items)).count)))) a3 in
      let name_writer = (W (Text name)).bytes (kinded Texted) in
      let a1 = ahead_both name_writer (both count_writer item_writer) (p + length f0) u0 u0 u3 f1 (f2 ++ f3) (text_ahead classes name (p + length f0) u0 u0 f1 (shortest_text name f1 spelled) refl) a2 in
      let base_writer = (W base).bytes (based (codes "TObject") (pos 1)) in
      let a0 = ahead_both base_writer (both name_writer (both count_writer item_writer)) p t u0 u3 f0 (f1 ++ (f2 ++ f3)) (inner (codes "TObject") (based (codes "TObject") (pos 1)) end p t base f0 u0 whole.0 first) a1 in
      let same : f0 ++ (f1 ++ (f2 ++ f3)) ≡ b =
      ap (λ (z : List ℕ). f0 ++ (f1 ++ (f2 ++ z))) (sym (append-nil f3) ∙ ap (λ (z : List ℕ). f3 ++ z) (sym e.1) ∙ sym p3)
      ∙ ap (λ (z : List ℕ). f0 ++ (f1 ++ z)) (sym p2) ∙ ap (λ (z : List ℕ). f0 ++ z) (sym p1) ∙ sym p0 in
      let f = both base_writer (both name_writer (both count_writer item_writer)) in
      subst (λ (qs : List Part). Ahead (listed_bytes (writes qs)) p t b t') (sym e.0) (subst (λ (w : WordsMet). Ahead f p t b w) (sym e.2) (ahead_as f p t u3 (f0 ++ (f1 ++ (f2 ++ f3))) b same a0))))))

  pub array_ahead : (end p : ℕ) (t : WordsMet) (ys : List Part) (b : List ℕ) (t' : WordsMet) → Each PartRead ys → IsSo (array_parts object) end p t ys b t' → Ahead (arrayed_bytes (writes ys)) p t b t'
  unfolding array_parts
  array_ahead end p t ys b t' read c =
      both_of c (λ base f0 r0 u0 p0 first n0.
      text_of n0 (λ name f1 r1 spelled p1 n1.
      both_of n1 (λ count f2 r2 u2 p2 counted n2.
      both_of n2 (λ lower f4 r4 u4 p4 bound n4.
      both_of n4 (λ items f3 r3 u3 p3 many_is last.
      let e = last.so in
      let number = count_read 4 end (p + length f0 + length f1) u0 count f2 u2 counted in
      let whole = subst (Each PartRead) e.0 read in
      let all_items = items_read items whole.1.1.1.0 in
      let at = p + length f0 + length f1 + length f2 in
      let a3 = items_ahead classes items (many any_pointer) (all any_pointer (map W items)) (at + length f4) u4 u3 f3 refl
      (each_ahead (pointer object) any_pointer (λ end p t v f u. pointer_ahead classes object inner own any_pointer end p t v f u) (replicate count tt) end (at + length f4) u4 items f3 u3 all_items many_is) in
      let item_writer = (W (Items items)).bytes (many any_pointer) in
      let lower_writer = (W lower).bytes (kinded (Plain I32)) in
      let count_writer = just (big_bytes 4 (W (Items items)).count) in
      let a4 = ahead_both lower_writer item_writer at u2 u4 u3 f4 f3 (number_covers classes I32 end at u2 lower f4 u4 bound.so) a3 in
      let a2 = ahead_both count_writer (both lower_writer item_writer) (p + length f0 + length f1) u0 u2 u3 f2 (f4 ++ f3)
      (subst (λ (w : WordsMet). Ahead count_writer (p + length f0 + length f1) u0 f2 w) (sym number.words)
      (ahead_just (big_bytes 4 (W (Items items)).count) f2 (p + length f0 + length f1) u0 (omega (arith, number.four, length-bytes_high_first 4 (W (Items items)).count)))) a4 in
      let name_writer = (W (Text name)).bytes (kinded Texted) in
      let a1 = ahead_both name_writer (both count_writer (both lower_writer item_writer)) (p + length f0) u0 u0 u3 f1 (f2 ++ (f4 ++ f3)) (text_ahead classes name (p + length f0) u0 u0 f1 (shortest_text name f1 spelled) refl) a2 in
      let base_writer = (W base).bytes (based (codes "TObject") (pos 1)) in
      let f = both base_writer (both name_writer (both count_writer (both lower_writer item_writer))) in
      let a0 = ahead_both base_writer (both name_writer (both count_writer (both lower_writer item_writer))) p t u0 u3 f0 (f1 ++ (f2 ++ (f4 ++ f3)))
      (inner (codes "TObject") (based (codes "TObject") (pos 1)) end p t base f0 u0 whole.0 first) a1 in
      let same : f0 ++ (f1 ++ (f2 ++ (f4 ++ f3))) ≡ b =
      ap (λ (z : List ℕ). f0 ++ (f1 ++ (f2 ++ (f4 ++ z)))) (sym (append-nil f3) ∙ ap (λ (z : List ℕ). f3 ++ z) (sym e.1) ∙ sym p3)
      ∙ ap (λ (z : List ℕ). f0 ++ (f1 ++ (f2 ++ z))) (sym p4) ∙ ap (λ (z : List ℕ). f0 ++ (f1 ++ z)) (sym p2) ∙ ap (λ (z : List ℕ). f0 ++ z) (sym p1) ∙ sym p0 in
      subst (λ (qs : List Part). Ahead (arrayed_bytes (writes qs)) p t b t') (sym e.0) (subst (λ (w : WordsMet). Ahead f p t b w) (sym e.2) (ahead_as f p t u3 (f0 ++ (f1 ++ (f2 ++ (f4 ++ f3)))) b same a0)))))))
