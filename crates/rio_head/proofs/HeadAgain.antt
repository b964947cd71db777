-- What spells a header is read as it, and what is read as a header spells it.
use Rattle.std.proofs.Common.{◌≡◌, ◌==◌, ℕ, ◌+◌, ◌^◌, ◌<◌, Bool, true, false, List, ◌++◌, length, Result, Ok, Err, refl, sym, ap, subst, ◌∙◌, arith}
use Rattle.std.proofs.{lemmas.Bool.{eq-eqb, eqb-true}, lemmas.List.{append-nil}}
use Rattle.std.specs.Prelude.{IfErr, IfOk}
use Rattle.rio_num.specs.{At.{At, AreBytes, end_place}, Meanings.{Reading}, Plain.{value_of}}
use Rattle.rio_num.proofs.{Apart.{bytes_of, must_of, number_of}, Intro.{IsSo, bytes_then, done_is, must_then, number_then, so_by}}
use Rattle.rio_num.proofs.Plain.{spelled_again, standing, value_broken, value_found}
use Rattle.rio_head.specs.Form.{place_len, is_large_head}
use Rattle.rio_head.specs.Head.{BeginsAsHead, BreaksHead, IsHead, behind_layout, head_at, head_bytes, header_at, header_layout, root_number}
use Rattle.rio_head.specs.{declared.head.FileHead.{FileHead}, declared.fault.HeadFault.{HeadFault}}

units_small : (is_large : Bool) (units : ℕ) → units ≡ place_len is_large → units < 256 ^ 1
units_small true units is = omega (arith, is)
units_small false units is = omega (arith, is)

head_spelled : (end p : ℕ) (h : FileHead) → IsHead h → IsSo header_layout end p tt h (head_bytes h) tt
unfolding header_layout behind_layout
head_spelled end p h is =
    let begin_fits : h.begin < 256 ^ 4 = omega (arith, is.begin) in
    so_by
    (number_then root_number (omega arith) (must_then _ refl
    (number_then h.version is.version (number_then h.begin begin_fits (must_then _ (eq-eqb _ _ is.begin)
    (number_then h.end is.end (number_then h.seek_free is.seek_free
    (number_then h.nbytes_free is.nbytes_free (number_then h.nfree is.nfree (number_then h.nbytes_name is.nbytes_name
    (number_then h.units (units_small (is_large_head h.version) h.units is.units) (must_then _ (eq-eqb _ _ is.units)
    (number_then h.compress is.compress (number_then h.seek_info is.seek_info (number_then h.nbytes_info is.nbytes_info
    (bytes_then h.uuid is.uuid done_is))))))))))))))))
    (λ i. record h { begin = is.begin i })
    (simp append-nil)
    refl

-- a header, and its bytes
record IsWritten (h : FileHead) (bytes : List ℕ) : Type 0 where
  is_head : IsHead h
  own : bytes ≡ head_bytes h

head_apart : (end p : ℕ) (head : FileHead) (bytes : List ℕ) → IsSo header_layout end p tt head bytes tt → IsWritten head bytes
unfolding header_layout behind_layout
head_apart end p head bytes c =
    number_of c (λ root r0 f0 e0 c0.
    must_of (root == root_number) c0 (λ root_is c1.
    number_of c1 (λ version r1 f1 e1 c2.
    number_of c2 (λ begin r2 f2 e2 c3.
    must_of (begin == 100) c3 (λ begin_is c4.
    number_of c4 (λ stop r3 f3 e3 c5.
    number_of c5 (λ seek_free r4 f4 e4 c6.
    number_of c6 (λ nbytes_free r5 f5 e5 c7.
    number_of c7 (λ nfree r6 f6 e6 c8.
    number_of c8 (λ nbytes_name r7 f7 e7 c9.
    number_of c9 (λ units r8 f8 e8 c10.
    must_of (units == place_len (is_large_head version)) c10 (λ units_is c11.
    number_of c11 (λ compress r9 f9 e9 c12.
    number_of c12 (λ seek_info r10 f10 e10 c13.
    number_of c13 (λ nbytes_info r11 f11 e11 c14.
    bytes_of c14 (λ uuid r12 long e12 c15.
    let made : FileHead = record { version = version; begin = 100; end = stop; seek_free = seek_free; nbytes_free = nbytes_free; nfree = nfree; nbytes_name = nbytes_name; units = units; compress = compress; seek_info = seek_info; nbytes_info = nbytes_info; uuid = uuid } in
    let root_same : root ≡ root_number = eqb-true _ _ root_is in
    let begin_same : begin ≡ 100 = eqb-true _ _ begin_is in
    let written : IsWritten made bytes = record {
      is_head = record { version = f1; begin = refl; end = f3; seek_free = f4; nbytes_free = f5; nfree = f6; nbytes_name = f7; units = eqb-true _ _ units_is; compress = f9; seek_info = f10; nbytes_info = f11; uuid = long };
      own = rw (e0, root_same, e1, e2, begin_same, e3, e4, e5, e6, e7, e8, e9, e10, e11, e12, c15.so.1) (simp append-nil);
    } in
    subst (λ (h : FileHead). IsWritten h bytes) (sym c15.so.0) written))))))))))))))))

pub header_found : (s : At) (y : FileHead) → AreBytes s.rest → header_at s ≡ Ok y → BeginsAsHead y s.rest
header_found s y fits e =
    let f = value_found header_layout s y fits e in
    let a = head_apart (end_place s) s.place y f.front f.spelled in
    record { is_head = a.is_head; rest = f.rest; spelled = f.parts ∙ ap (λ (b : List ℕ). b ++ f.rest) a.own }

pub head_only : (h : FileHead) (p : ℕ) (bytes : List ℕ) → BeginsAsHead h bytes → header_at (standing p bytes) ≡ Ok h
head_only h p bytes c =
    let again = spelled_again header_layout h (head_bytes h) p c.rest (λ q. (head_spelled (q + length (head_bytes h)) q h c.is_head).so) in
    ap (λ (b : List ℕ). header_at (standing p b)) c.spelled ∙ ap (λ (r : Reading (Unit {0}) HeadFault FileHead). value_of r) again

-- ---- what a reader returned

pub head_is_found : (bytes : List ℕ) (r : Result FileHead HeadFault) → AreBytes bytes → r ≡ head_at bytes → IfOk r (λ h. BeginsAsHead h bytes)
head_is_found bytes (Ok h) fits e = header_found (standing 0 bytes) h fits (sym e)
head_is_found bytes (Err d) fits e = tt

pub head_is_broken : (bytes : List ℕ) (r : Result FileHead HeadFault) → AreBytes bytes → r ≡ head_at bytes → IfErr r (λ d. BreaksHead bytes d)
unfolding BreaksHead
head_is_broken bytes (Ok h) fits e = tt
head_is_broken bytes (Err d) fits e = value_broken header_layout (standing 0 bytes) d fits (sym e)
