-- A header of the small form is read from its numbers, and they are there where it is read.
use Rattle.std.proofs.Common.{◌≡◌, ◌⊎◌, inl, inr, ◌==◌, ℕ, suc, ◌+◌, ◌<◌, ◌≤◌, false, List, length, take, drop, Result, Ok, Err, Some, refl, sym, ap, subst, ◌∙◌, arith}
use Rattle.std.proofs.lemmas.Bool.{eq-eqb, eqb-true}
use Rattle.std.specs.List.{slice_get}
use Rattle.rio_num.specs.{At.{At}, Layout.{bytes, number}, Meanings.{Reading, Standing, of_bytes, read}, Plain.{plain, value_of}}
use Rattle.rio_num.specs.{Reading.{bytes_at, number_at, skip}, declared.cursor.Short.{Short}}
use Rattle.rio_num.proofs.{Plain.{standing, value_ok}, ReadLaws.{ok_is}, InOrder.{Reads, kept_of, next_of, reads_bytes, reads_done, reads_kept, reads_number}}
use Rattle.rio_head.specs.{Form.{is_large_head, place_len}, Head.{behind_layout, head_at, header_layout, root_number, short_head}}
use Rattle.rio_head.specs.{declared.head.FileHead.{FileHead}, declared.fault.HeadFault.{HeadFault}}
use Rattle.rio_close.proofs.Numbers.{HasNumber, bytes_keep, bytes_read, number_keeps, number_read, number_was_read, within_keeps}
use Rattle.rio_chain.proofs.Chains.{KeepsIn}

-- the header's numbers in the file
pub record SmallHead (b : List ℕ) (h : FileHead) : Type 0 where
  pub root : HasNumber 4 b 0 root_number
  pub version : HasNumber 4 b 4 h.version
  pub begin : HasNumber 4 b 8 100
  pub end : HasNumber 4 b 12 h.end
  pub seek_free : HasNumber 4 b 16 h.seek_free
  pub nbytes_free : HasNumber 4 b 20 h.nbytes_free
  pub nfree : HasNumber 4 b 24 h.nfree
  pub nbytes_name : HasNumber 4 b 28 h.nbytes_name
  pub units : HasNumber 1 b 32 4
  pub compress : HasNumber 4 b 33 h.compress
  pub seek_info : HasNumber 4 b 37 h.seek_info
  pub nbytes_info : HasNumber 4 b 41 h.nbytes_info
  pub long : 63 ≤ length b
  pub uuid : take 18 (drop 45 b) ≡ h.uuid
  pub small : is_large_head h.version ≡ false
  pub begin_is : h.begin ≡ 100
  pub units_is : h.units ≡ 4

-- ---- numbers give the header

abbrev Head : Type 0
Head = Reading (Unit {0}) HeadFault FileHead

module _ (b : List ℕ) (h : FileHead) (s : SmallHead b h) where
  abbrev spot : ℕ → At
  spot k = standing k (drop k b)

  there : (n m k k' w : ℕ) → n ≡ m → k' ≡ k + m → HasNumber m b k w → number_at n (spot k) ≡ Ok (w, spot k')
  there n m k k' w is next a = number_read n m k k' k k' w b is next next a

  pub small_read : head_at b ≡ Ok h
  unfolding header_layout behind_layout
  small_read =
      let n = place_len (is_large_head h.version) in
      let four : n ≡ 4 = ap place_len s.small in
      let own = take 18 (drop 45 b) in
      let all : Reads header_layout (plain (standing 0 b)) (record h { begin = 100; units = 4; uuid = own }) (plain (skip 18 (spot 45))) =
      reads_number root_number (spot 4) (there 4 4 0 4 root_number refl refl s.root) (reads_kept _ refl
      (reads_number h.version (spot 8) (there 4 4 4 8 h.version refl refl s.version)
      (reads_number 100 (spot 12) (there 4 4 8 12 100 refl refl s.begin) (reads_kept _ refl
      (reads_number h.end (spot 16) (there n 4 12 16 h.end four refl s.end)
      (reads_number h.seek_free (spot 20) (there n 4 16 20 h.seek_free four refl s.seek_free)
      (reads_number h.nbytes_free (spot 24) (there 4 4 20 24 h.nbytes_free refl refl s.nbytes_free)
      (reads_number h.nfree (spot 28) (there 4 4 24 28 h.nfree refl refl s.nfree)
      (reads_number h.nbytes_name (spot 32) (there 4 4 28 32 h.nbytes_name refl refl s.nbytes_name)
      (reads_number 4 (spot 33) (there 1 1 32 33 4 refl refl s.units) (reads_kept _ (eq-eqb 4 n (sym four))
      (reads_number h.compress (spot 37) (there 4 4 33 37 h.compress refl refl s.compress)
      (reads_number h.seek_info (spot 41) (there n 4 37 41 h.seek_info four refl s.seek_info)
      (reads_number h.nbytes_info (spot 45) (there 4 4 41 45 h.nbytes_info refl refl s.nbytes_info)
      (reads_bytes own (skip 18 (spot 45)) (bytes_read 18 45 45 b s.long) (reads_done _ _)))))))))))))))) in
      ap (λ (r : Head). value_of r) all.so
      ∙ ap (λ (q : ℕ × ℕ × List ℕ). let r : Result FileHead HeadFault = Ok (record h { begin = q.0; units = q.1; uuid = q.2 }) in r) (λ i. (sym s.begin_is i, sym s.units_is i, s.uuid i))

-- ---- the header gives its numbers

-- a number was read there
record IsThere (n : ℕ) (b : List ℕ) (k x : ℕ) (t : Standing (Unit {0})) : Type 0 where
  found : HasNumber n b k x
  on : t.at ≡ standing (k + n) (drop (k + n) b)

was : (n m k : ℕ) (b : List ℕ) (u : Standing (Unit {0})) (x : ℕ) (t : Standing (Unit {0})) → n ≡ suc m → u.at ≡ standing k (drop k b) → read (number short_head n) u ≡ Ok (x, t) → IsThere (suc m) b k x t
was n m k b u x t is stands e = by (number_at (suc m) (standing k (drop k b))) refl (sym (ap (λ (q : ℕ × At). of_bytes short_head u (number_at q.0 q.1)) (λ i. (is i, stands i))) ∙ e)
  where
    by : (r : Result (ℕ × At) Short) → number_at (suc m) (standing k (drop k b)) ≡ r → of_bytes short_head u r ≡ Ok (x, t) → IsThere (suc m) b k x t
    by (Err d) r e = absurd cc
    by (Ok y) r e =
        let was_read = number_was_read m k k b y.0 y.1 r in
        let made : IsThere (suc m) b k y.0 (record u { at = y.1 }) = record { found = was_read.there; on = was_read.goes_on } in
        subst (λ (q : ℕ × Standing (Unit {0})). IsThere (suc m) b k q.0 q.1) (ok_is {E = HeadFault} (y.0, record u { at = y.1 }) (x, t) e) made

pub small_head : (b : List ℕ) (h : FileHead) → 63 ≤ length b → head_at b ≡ Ok h → is_large_head h.version ≡ false → SmallHead b h
unfolding header_layout behind_layout
small_head b h long e small =
    let v = value_ok (read header_layout (plain (standing 0 b))) h e in
    let all : Reads header_layout (plain (standing 0 b)) h v.0 = record { so = v.1 } in
    next_of all (λ root s0 e0 c0.
    kept_of (root == root_number) c0 (λ root_is c1.
    next_of c1 (λ version s1 e1 c2.
    next_of c2 (λ begin s2 e2 c3.
    kept_of (begin == 100) c3 (λ begin_is c4.
    next_of c4 (λ stop s3 e3 c5.
    next_of c5 (λ seek_free s4 e4 c6.
    next_of c6 (λ nbytes_free s5 e5 c7.
    next_of c7 (λ nfree s6 e6 c8.
    next_of c8 (λ nbytes_name s7 e7 c9.
    next_of c9 (λ units s8 e8 c10.
    kept_of (units == place_len (is_large_head version)) c10 (λ units_is c11.
    next_of c11 (λ compress s9 e9 c12.
    next_of c12 (λ seek_info s10 e10 c13.
    next_of c13 (λ nbytes_info s11 e11 c14.
    next_of c14 (λ uuid s12 e12 c15.
    let built : FileHead = record { version = version; begin = 100; end = stop; seek_free = seek_free; nbytes_free = nbytes_free; nfree = nfree; nbytes_name = nbytes_name; units = units; compress = compress; seek_info = seek_info; nbytes_info = nbytes_info; uuid = uuid } in
    let same : built ≡ h = ap (λ (q : FileHead × Standing (Unit {0})). q.0) (ok_is {E = HeadFault} (built, s12) (h, v.0) c15.so) in
    let is_small : is_large_head version ≡ false = ap (λ (x : FileHead). is_large_head x.version) same ∙ small in
    let four : place_len (is_large_head version) ≡ 4 = ap place_len is_small in
    let n0 = was 4 3 0 b (plain (standing 0 b)) root s0 refl refl e0 in
    let n1 = was 4 3 4 b s0 version s1 refl n0.on e1 in
    let n2 = was 4 3 8 b s1 begin s2 refl n1.on e2 in
    let n3 = was (place_len (is_large_head version)) 3 12 b s2 stop s3 four n2.on e3 in
    let n4 = was (place_len (is_large_head version)) 3 16 b s3 seek_free s4 four n3.on e4 in
    let n5 = was 4 3 20 b s4 nbytes_free s5 refl n4.on e5 in
    let n6 = was 4 3 24 b s5 nfree s6 refl n5.on e6 in
    let n7 = was 4 3 28 b s6 nbytes_name s7 refl n6.on e7 in
    let n8 = was 1 0 32 b s7 units s8 refl n7.on e8 in
    let n9 = was 4 3 33 b s8 compress s9 refl n8.on e9 in
    let n10 = was (place_len (is_large_head version)) 3 37 b s9 seek_info s10 four n9.on e10 in
    let n11 = was 4 3 41 b s10 nbytes_info s11 refl n10.on e11 in
    let own = take 18 (drop 45 b) in
    let end : Standing (Unit {0}) = record s11 { at = skip 18 (standing 45 (drop 45 b)) } in
    let uuid_read : read (bytes short_head 18) s11 ≡ Ok (own, end) = ap (λ (q : At). of_bytes short_head s11 (bytes_at 18 q)) n11.on ∙ ap (of_bytes short_head s11) (bytes_read 18 45 45 b long) in
    let uuid_is : own ≡ uuid = ap (λ (q : List ℕ × Standing (Unit {0})). q.0) (ok_is {E = HeadFault} (own, end) (uuid, s12) (sym uuid_read ∙ e12)) in
    let units_same : units ≡ 4 = eqb-true units (place_len (is_large_head version)) units_is ∙ four in
    let made : SmallHead b built = record {
      root = subst (HasNumber 4 b 0) (eqb-true root root_number root_is) n0.found;
      version = n1.found;
      begin = subst (HasNumber 4 b 8) (eqb-true begin 100 begin_is) n2.found;
      end = n3.found;
      seek_free = n4.found;
      nbytes_free = n5.found;
      nfree = n6.found;
      nbytes_name = n7.found;
      units = subst (HasNumber 1 b 32) units_same n8.found;
      compress = n9.found;
      seek_info = n10.found;
      nbytes_info = n11.found;
      long = long;
      uuid = uuid_is;
      small = is_small;
      begin_is = refl;
      units_is = units_same;
    } in
    subst (SmallHead b) same made))))))))))))))))

-- ---- other images

-- bytes in front of END's word, the name's length, and what stands behind it but for place and length of the class list
abbrev pub IsFixed : ℕ → Type 0
IsFixed i = (i < 12) ⊎ ((28 ≤ i) × (i < 37)) ⊎ ((45 ≤ i) × (i < 63))

-- a header in which the other numbers changed
module _ (old new : List ℕ) (h : FileHead) (s : SmallHead old h) (keeps : (i x : ℕ) → IsFixed i → slice_get old i ≡ Some x → slice_get new i ≡ Some x)
    (end seek_free nbytes_free nfree seek_info nbytes_info : ℕ) (e1 : HasNumber 4 new 12 end) (e2 : HasNumber 4 new 16 seek_free) (e3 : HasNumber 4 new 20 nbytes_free) (e4 : HasNumber 4 new 24 nfree)
    (e5 : HasNumber 4 new 37 seek_info) (e6 : HasNumber 4 new 41 nbytes_info) where
  abbrev pub changed : FileHead
  changed = record h { end = end; seek_free = seek_free; nbytes_free = nbytes_free; nfree = nfree; seek_info = seek_info; nbytes_info = nbytes_info }

  front : (from to : ℕ) → to ≤ 12 → KeepsIn from to old new
  front from to le i x low high was = keeps i x (inl (omega (arith, high, le))) was

  middle : (from to : ℕ) → 28 ≤ from → to ≤ 37 → KeepsIn from to old new
  middle from to ge le i x low high was = keeps i x (inr (inl (omega (arith, low, ge), omega (arith, high, le)))) was

  last : KeepsIn 45 63 old new
  last i x low high was = keeps i x (inr (inr (low, high))) was

  pub head_changes : SmallHead new changed
  head_changes = record {
    root = number_keeps 3 old new 0 root_number (front 0 4 (omega arith)) s.root;
    version = number_keeps 3 old new 4 h.version (front 4 8 (omega arith)) s.version;
    begin = number_keeps 3 old new 8 100 (front 8 12 (omega arith)) s.begin;
    end = e1;
    seek_free = e2;
    nbytes_free = e3;
    nfree = e4;
    nbytes_name = number_keeps 3 old new 28 h.nbytes_name (middle 28 32 (omega arith) (omega arith)) s.nbytes_name;
    units = number_keeps 0 old new 32 4 (middle 32 33 (omega arith) (omega arith)) s.units;
    compress = number_keeps 3 old new 33 h.compress (middle 33 37 (omega arith) (omega arith)) s.compress;
    seek_info = e5;
    nbytes_info = e6;
    long = within_keeps 17 old new 45 s.long last;
    uuid = bytes_keep 17 old new 45 s.long last ∙ s.uuid;
    small = s.small;
    begin_is = s.begin_is;
    units_is = s.units_is;
  }
