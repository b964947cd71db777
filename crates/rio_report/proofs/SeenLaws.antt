-- Rows with the objects of a class in a version, value by value and row by row.
use Rattle.std.proofs.Common.{◌≡◌, true≢false, is_some, ℕ, zero, suc, ◌+◌, ◌<◌, ◌≤◌, List, [], ◌∷◌, ◌++◌, length, map, drop, get_or, Bool, true, false, not, Option, Some, None, Result, Ok, Err, refl, sym, ap, subst, ◌∙◌, append_assoc, arith}
use Rattle.std.proofs.{lemmas.List.{append-nil, drop_all, FromFn.{get_or-range_with_len, length-range_with_len}}}
use Rattle.std.specs.{List.{range_with_len}, Option.{option_or}}
use Rattle.rio_num.{specs.Reading.{◌>>=◌}, proofs.Cases.{or_none}}
use Rattle.rio_format.specs.{declared.class.Base.{Base}, declared.class.ClassDef.{ClassDef}, declared.value.Value.{Value}}
use Rattle.rio_machine.specs.declared.refusal.Refusal.{Refusal, TheVariants.{NoSuchClass, NoVersion as Unversioned}}
use Rattle.rio_model.specs.{Declaring.{is_declared}, Resolving.{is_known_version}}
use Rattle.rio_model.specs.{Mapping.{Mapped}, declared.map_fault.MapFault.{MapFault, TheVariants.{KindChanged, NoVersion, NoMemory}}}
use Rattle.rio_step.specs.{Refusing.{refused_if, row_seen_by, row_seen_in, rows_seen_in}, Step.{or_unmapped}}
use Rattle.rio_report.specs.{RowTexts.{had_line}, RowForms.{refusal_in, refused_by, row_text, rows_refusal}, Versions.{seen_behind, value_seen_in}}
use Rattle.rio_entry.proofs.Left.{left}

-- ---- values

module _ (see : Value → Mapped Value) where
  abbrev put_first : List Value → List Value → Mapped Value → Mapped (List Value)
  put_first row rest m = seen_behind row (m >>= λ w. row_seen_by see rest >>= λ ws. Ok (w ∷ ws))

  first_seen : (row : List Value) (w : Value) (m : Mapped (List Value)) → seen_behind row (m >>= λ ws. Ok (w ∷ ws)) ≡ seen_behind (row ++ w ∷ []) m
  first_seen row w (Ok ws) = ap (λ (l : List Value). let all : Mapped (List Value) = Ok l in all) (sym (append_assoc row (w ∷ []) ws))
  first_seen row w (Err e) = refl

  -- a value that is had stands behind the others
  pub seen_goes_on : (row rest : List Value) (v w : Value) → see v ≡ Ok w → seen_behind row (row_seen_by see (v ∷ rest)) ≡ seen_behind (row ++ w ∷ []) (row_seen_by see rest)
  seen_goes_on row rest v w is = ap (put_first row rest) is ∙ first_seen row w (row_seen_by see rest)

  -- and one that can't be had ends it
  pub seen_fails : (row rest : List Value) (v : Value) (e : MapFault) → see v ≡ Err e → seen_behind row (row_seen_by see (v ∷ rest)) ≡ Err e
  seen_fails row rest v e is = ap (put_first row rest) is

  abbrev pub then_seen : List Value → Mapped (List Value) → Mapped (List Value)
  then_seen ws m = m >>= λ done. seen_behind done (row_seen_by see ws)

  one_append : (v : Value) (vs ws row : List Value) (m : Mapped Value) → see v ≡ m
      → ((front : List Value) → seen_behind front (row_seen_by see (vs ++ ws)) ≡ then_seen ws (seen_behind front (row_seen_by see vs)))
      → seen_behind row (row_seen_by see (v ∷ (vs ++ ws))) ≡ then_seen ws (seen_behind row (row_seen_by see (v ∷ vs)))
  one_append v vs ws row (Ok w) is rest =
      seen_goes_on row (vs ++ ws) v w is ∙ rest (row ++ w ∷ []) ∙ ap (then_seen ws) (sym (seen_goes_on row vs v w is))
  one_append v vs ws row (Err e) is rest = seen_fails row (vs ++ ws) v e is ∙ ap (then_seen ws) (sym (seen_fails row vs v e is))

  -- values behind others
  pub seen_append : (vs ws row : List Value) → seen_behind row (row_seen_by see (vs ++ ws)) ≡ then_seen ws (seen_behind row (row_seen_by see vs))
  seen_append [] ws row = ap (λ (l : List Value). seen_behind l (row_seen_by see ws)) (sym (append-nil row))
  seen_append (v ∷ vs) ws row = one_append v vs ws row (see v) refl (seen_append vs ws)

-- with all as it is
seen_plain : (row : List Value) → row_seen_by (value_seen_in [] None) row ≡ Ok row
seen_plain [] = refl
seen_plain (v ∷ vs) = ap (λ (m : Mapped (List Value)). m >>= λ ws. Ok (v ∷ ws)) (seen_plain vs)

pub seen_is : (classes : List ClassDef) (class : Option Base) (row : List Value) → row_seen_by (value_seen_in classes class) row ≡ row_seen_in classes class row
seen_is classes None row = seen_plain row
seen_is classes (Some asked) row = refl

-- ---- the line of a row that is had

pub had_is : (csv : Bool) (e : ℕ) (row : List Value) (m : Mapped (List Value)) → refused_by m ≡ None → had_line csv e m ≡ row_text csv e (or_unmapped row m)
had_is csv e row (Ok x) h = refl
had_is csv e row (Err (KindChanged member)) h = absurd cc
had_is csv e row (Err NoVersion) h = absurd cc
had_is csv e row (Err NoMemory) h = absurd cc

-- ---- rows

module _ (classes : List ClassDef) (class : Option Base) where
  one_row : (m : Mapped (List Value)) (rest : Mapped (List (List Value))) → refused_by (m >>= λ s. rest >>= λ ss. Ok (s ∷ ss)) ≡ option_or (refused_by m) (refused_by rest)
  one_row (Ok s) (Ok ss) = refl
  one_row (Ok s) (Err (KindChanged member)) = refl
  one_row (Ok s) (Err NoVersion) = refl
  one_row (Ok s) (Err NoMemory) = refl
  one_row (Err (KindChanged member)) rest = refl
  one_row (Err NoVersion) rest = refl
  one_row (Err NoMemory) rest = refl

  module _ (f : ℕ → List Value) where
    -- of rows the first that can't be had tells why
    abbrev pub refused_from : List ℕ → Option Refusal
    refused_from xs = refused_by (rows_seen_in classes class (map f xs))

    refused_first_of : (x : ℕ) (xs : List ℕ) → refused_from (x ∷ xs) ≡ option_or (refused_by (row_seen_in classes class (f x))) (refused_from xs)
    refused_first_of x xs = one_row (row_seen_in classes class (f x)) (rows_seen_in classes class (map f xs))

    pub refused_next : (n e : ℕ) → e < n → refused_from (drop e (range_with_len 0 n)) ≡ option_or (refused_by (row_seen_in classes class (f e))) (refused_from (drop (e + 1) (range_with_len 0 n)))
    refused_next n e lt =
        let xs = range_with_len 0 n in
        let low : e < length xs = subst (λ (k : ℕ). e < k) (sym (length-range_with_len 0 n)) lt in
        let is : e ≡ get_or xs e e = sym (get_or-range_with_len 0 n e e lt ∙ omega arith) in
        ap refused_from (left xs e e low is) ∙ refused_first_of e (drop (e + 1) xs)

    pub refused_end : (n e : ℕ) → n ≤ e → refused_from (drop e (range_with_len 0 n)) ≡ None
    refused_end n e le =
        let xs = range_with_len 0 n in
        let all : length xs ≤ e = subst (λ (k : ℕ). k ≤ e) (sym (length-range_with_len 0 n)) le in
        ap refused_from (drop_all e xs all)

    or_both : (a b : Option Refusal) → option_or a b ≡ None → (a ≡ None) × (b ≡ None)
    or_both None b h = (refl, h)
    or_both (Some x) b h = absurd cc

    each_had : (xs : List ℕ) → refused_from xs ≡ None → (k : ℕ) (x : ℕ) → k < length xs → x ≡ get_or xs k x → refused_by (row_seen_in classes class (f x)) ≡ None
    each_had [] none k x lt is = absurd (omega (arith, lt))
    each_had (y ∷ ys) none zero x lt is = ap (λ (z : ℕ). refused_by (row_seen_in classes class (f z))) is ∙ (or_both (refused_by (row_seen_in classes class (f y))) (refused_from ys) (sym (refused_first_of y ys) ∙ none)).0
    each_had (y ∷ ys) none (suc k) x lt is = each_had ys (or_both (refused_by (row_seen_in classes class (f y))) (refused_from ys) (sym (refused_first_of y ys) ∙ none)).1 k x (omega (arith, lt)) is

    all_had : (n : ℕ) → refused_from (range_with_len 0 n) ≡ None → (e : ℕ) → e < n → refused_by (row_seen_in classes class (f e)) ≡ None
    all_had n none e lt =
        let xs = range_with_len 0 n in
        let low : e < length xs = subst (λ (k : ℕ). e < k) (sym (length-range_with_len 0 n)) lt in
        let is : e ≡ get_or xs e e = sym (get_or-range_with_len 0 n e e lt ∙ omega arith) in
        each_had xs none e e low is

-- the first that is told
pub told_first : (o rest : Option Refusal) → is_some o ≡ true → o ≡ option_or o rest
told_first (Some x) rest e = refl
told_first None rest e = absurd (true≢false (sym e))

pub told_none : (o rest : Option Refusal) → is_some o ≡ false → rest ≡ option_or o rest
told_none None rest e = refl
told_none (Some x) rest e = absurd (true≢false e)

-- rows that aren't refused are had
pub rows_had : (classes : List ClassDef) (class : Option Base) (f : ℕ → List Value) (n : ℕ) → rows_refusal classes class (map f (range_with_len 0 n)) ≡ None
    → (e : ℕ) → e < n → refused_by (row_seen_in classes class (f e)) ≡ None
unfolding rows_refusal
rows_had classes None f n none e lt = refl
rows_had classes (Some asked) f n none e lt = all_had classes (Some asked) f n (or_both classes (Some asked) f _ _ (or_both classes (Some asked) f _ _ none).1).0 e lt

-- ---- why rows are refused

module _ (classes : List ClassDef) (class : Option Base) (asked : Base) (is : class ≡ Some asked) (rows : List (List Value)) where
  unfold_refusal : rows_refusal classes class rows ≡ refusal_in classes asked rows
  unfolding rows_refusal
  unfold_refusal = ap (λ (o : Option Base). rows_refusal classes o rows) is

  pub refused_class : is_declared classes asked.name ≡ false → Some NoSuchClass ≡ rows_refusal classes class rows
  refused_class unknown = sym (unfold_refusal ∙ rw unknown refl)

  module _ (declared : is_declared classes asked.name ≡ true) where
    behind_class : refusal_in classes asked rows ≡ option_or (refused_by (rows_seen_in classes class rows)) (refused_if (not (is_known_version classes asked.name asked.version)) Unversioned)
    behind_class = rw (declared, is) (ap (option_or (refused_by (rows_seen_in classes (Some asked) rows))) (or_none _))

    pub refused_behind : option_or (refused_by (rows_seen_in classes class rows)) (refused_if (not (is_known_version classes asked.name asked.version)) Unversioned) ≡ rows_refusal classes class rows
    refused_behind = sym (unfold_refusal ∙ behind_class)

-- where no class is asked
pub refused_none : (classes : List ClassDef) (class : Option Base) (rows : List (List Value)) → class ≡ None → None ≡ rows_refusal classes class rows
unfolding rows_refusal
refused_none classes class rows is = sym (ap (λ (o : Option Base). rows_refusal classes o rows) is)
