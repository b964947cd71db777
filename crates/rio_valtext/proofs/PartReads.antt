-- A part of an object, as it is read and put at the end of the others.
use Rattle.std.proofs.Common.{◌≡◌, ℕ, List, [], ◌∷◌, ◌++◌, Bool, true, false, if◌then◌else◌, Result, Ok, Err, OnOk, sym, ap, ◌∙◌, refl}
use Rattle.rio_num.specs.At.{At}
use Rattle.rio_format.specs.{declared.value.Part.{Part}, declared.value.Value.{Value}, Bodies.{part}}
use Rattle.rio_token.specs.{declared.fault.TextFault.{TextFault}, Marks.{colon}, Tokens.{behind}, Reading.{Read, marked, name_at}}
use Rattle.rio_model.specs.ValueGrammar.{Reader, object_at, part_at, value_in_text}

module _ (enclosed : Reader) (s : At) (name : List ℕ) (s1 s2 : At) (named : name_at s ≡ Ok (name, s1)) (v : Value) (s3 : At) where
  member_read : true ≡ marked colon s1 → s2 ≡ behind s1 → value_in_text enclosed s2 ≡ Ok (v, s3) → part_at enclosed s ≡ Ok (part name v, s3)
  unfolding part_at
  member_read mark state read =
      let goes : marked colon s1 ≡ true = sym mark in
      let here : value_in_text enclosed (behind s1) ≡ Ok (v, s3) = ap (value_in_text enclosed) (sym state) ∙ read in
      rw (named, goes, here) refl

  base_read : false ≡ marked colon s1 → s2 ≡ s1 → object_at enclosed name s2 ≡ Ok (v, s3) → part_at enclosed s ≡ Ok (part [] v, s3)
  unfolding part_at
  base_read mark state read =
      let goes : marked colon s1 ≡ false = sym mark in
      let here : object_at enclosed name s1 ≡ Ok (v, s3) = ap (object_at enclosed name) (sym state) ∙ read in
      rw (named, goes, here) refl

  pub part_read : (is_member : Bool) → is_member ≡ marked colon s1 → s2 ≡ (if is_member then behind s1 else s1) → (if is_member then value_in_text enclosed s2 else object_at enclosed name s2) ≡ Ok (v, s3)
      → part_at enclosed s ≡ Ok (part (if is_member then name else []) v, s3)
  part_read true mark state read = member_read mark state read
  part_read false mark state read = base_read mark state read

-- what was read is put, unless putting it fails
pub put_read : {X : Type 0} (r : Result X TextFault) (read : Read Part) (s : At) (old new : List Part) (p : Part) → read ≡ Ok (p, s) → OnOk r (new ≡ old ++ p ∷ []) → OnOk r ((q : Part) × (read ≡ Ok (q, s)) × (new ≡ old ++ q ∷ []))
put_read (Ok x) read s old new p is put = (p, is, put)
put_read (Err e) read s old new p is put = tt
