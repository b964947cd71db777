-- The lines of a scan, one row after the other.
use Rattle.std.proofs.Common.{◌≡◌, ◌≢◌, ℕ, zero, suc, ◌+◌, ◌-◌, ◌<◌, ◌≤◌, List, [], ◌∷◌, ◌++◌, length, map, take, slice_get, Option, Some, None, Result, Ok, Err, IfOk, refl, sym, ap, subst, ◌∙◌, append_assoc, add-zero, arith}
use Rattle.std.proofs.lemmas.{List.{append-nil, length-append, take_all, take_more}, Option.{get_or_from_slice_get, slice_get_within}}
use Rattle.rio_num.specs.{Answers.{FailsUnless, GivesUnless}, Reading.{◌>>=◌}}
use Rattle.rio_host.specs.Host.{View}
use Rattle.rio_chain.specs.{Chains.{HasChain}, Segments.{Link}, Walks.{Told}, declared.segment.Segment.{Segment}}
use Rattle.rio_fill.specs.Fill.{TreeFill, entry_count}
use Rattle.rio_machine.specs.State.{Row}
use Rattle.rio_model.specs.{Mapping.{Mapped}, declared.map_fault.MapFault.{MapFault, TheVariants.{NoMemory}}}
use Rattle.rio_reply.specs.Scanned.{row_line, scan_start}
use Rattle.rio_reply.proofs.Scans.{scans_are_lines}
use Rattle.rio_step.specs.{Refusing.{row_seen_in, rows_seen_in}, ReplyText.{row_lines, text_of}, Step.{rows_told}}
use Rattle.rio_format.specs.{declared.class.Base.{Base}, declared.class.ClassDef.{ClassDef}}
use Rattle.rio_session.specs.Scans.{AreRowsOf, FoundRow, Scans, line_behind, lines_behind, rows_printed}

-- ---- one row more

abbrev found_ok : Row → FoundRow
found_ok row = Ok row

pub count_more : (rows : List FoundRow) (found : FoundRow) → length (rows ++ found ∷ []) ≡ length rows + 1
count_more rows found = length-append rows (found ∷ [])

take_one : (all : List Row) (n : ℕ) (row : Row) → slice_get all n ≡ Some row → take (n + 1) all ≡ take n all ++ row ∷ []
take_one all n row is = take_more all n row (slice_get_within all n row is) ∙ ap (λ (r : Row). take n all ++ r ∷ []) (get_or_from_slice_get all n row row is)

map_more : (rows : List Row) (row : Row) → map found_ok (rows ++ row ∷ []) ≡ map found_ok rows ++ found_ok row ∷ []
map_more [] row = refl
map_more (r ∷ rows) row = ap (λ (l : List FoundRow). found_ok r ∷ l) (map_more rows row)

-- rows that were read, and the next one
pub rows_more : (all : List Row) (rows : List FoundRow) (found : FoundRow) (row : Row) → rows ≡ map (λ r. Ok r) (take (length rows) all) → slice_get all (length rows) ≡ Some row → found ≡ Ok row
    → rows ++ found ∷ [] ≡ map (λ r. Ok r) (take (length (rows ++ found ∷ [])) all)
rows_more all rows found row are there is =
    (λ i. are i ++ is i ∷ [])
    ∙ sym (map_more (take (length rows) all) row)
    ∙ ap (map found_ok) (sym (take_one all (length rows) row there))
    ∙ ap (λ (n : ℕ). map found_ok (take n all)) (sym (count_more rows found))

module _ (classes : List ClassDef) (class : Option Base) where
  pub lines_more : (n : ℕ) (before : List ℕ) (rows : List FoundRow) (found : FoundRow)
      → lines_behind classes class n before (rows ++ found ∷ []) ≡ (lines_behind classes class n before rows >>= λ text. line_behind classes class (n + length rows) text found)
  lines_more n before [] found = by (line_behind classes class n before found) ∙ ap (λ (k : ℕ). line_behind classes class k before found) (sym (add-zero n))
    where
      by : (m : Mapped (List ℕ)) → (m >>= λ text. Ok text) ≡ m
      by (Ok text) = refl
      by (Err e) = refl
  lines_more n before (r ∷ rows) found = by (line_behind classes class n before r) (λ text. lines_more (n + 1) text rows found)
    where
      by : (m : Mapped (List ℕ)) → ((text : List ℕ) → lines_behind classes class (n + 1) text (rows ++ found ∷ []) ≡ (lines_behind classes class (n + 1) text rows >>= λ t. line_behind classes class (n + 1 + length rows) t found))
          → (m >>= λ text. lines_behind classes class (n + 1) text (rows ++ found ∷ [])) ≡ ((m >>= λ text. lines_behind classes class (n + 1) text rows) >>= λ text. line_behind classes class (n + length (r ∷ rows)) text found)
      by (Ok text) rest =
          let place : n + 1 + length rows ≡ n + length (r ∷ rows) = omega arith in
          rest text ∙ ap (λ (k : ℕ). lines_behind classes class (n + 1) text rows >>= λ t. line_behind classes class k t found) place
      by (Err e) rest = refl

  -- ---- rows that are read

  -- the line of a row, and those behind it
  row_before : (n : ℕ) (s : Row) (ss : List Row) → row_line n s ++ row_lines (n + 1) ss ≡ row_lines n (s ∷ ss)
  row_before n s ss = refl

  seen_lines : (n : ℕ) (before : List ℕ) (rows : List Row) → lines_behind classes class n before (map (λ r. Ok r) rows) ≡ (rows_seen_in classes class rows >>= λ seen. Ok (before ++ row_lines n seen))
  seen_lines n before [] = ap ok (sym (append-nil before))
    where
      ok : List ℕ → Mapped (List ℕ)
      ok l = Ok l
  seen_lines n before (r ∷ rows) = by (row_seen_in classes class r) (λ text. seen_lines (n + 1) text rows)
    where
      rest : (s : Row) (m : Mapped (List Row)) → (m >>= λ seen. Ok ((before ++ row_line n s) ++ row_lines (n + 1) seen)) ≡ ((m >>= λ ss. Ok (s ∷ ss)) >>= λ seen. Ok (before ++ row_lines n seen))
      rest s (Ok ss) = ap (λ (l : List ℕ). let m : Mapped (List ℕ) = Ok l in m) (append_assoc before (row_line n s) (row_lines (n + 1) ss) ∙ ap (λ (l : List ℕ). before ++ l) (row_before n s ss))
      rest s (Err e) = refl

      by : (m : Mapped Row) → ((text : List ℕ) → lines_behind classes class (n + 1) text (map (λ x. Ok x) rows) ≡ (rows_seen_in classes class rows >>= λ seen. Ok (text ++ row_lines (n + 1) seen)))
          → ((m >>= λ seen. Ok (before ++ row_line n seen)) >>= λ text. lines_behind classes class (n + 1) text (map (λ x. Ok x) rows))
          ≡ ((m >>= λ s. rows_seen_in classes class rows >>= λ ss. Ok (s ∷ ss)) >>= λ seen. Ok (before ++ row_lines n seen))
      by (Ok s) later = later (before ++ row_line n s) ∙ rest s (rows_seen_in classes class rows)
      by (Err e) later = refl

  -- what the first rows can't be had for, all can't be
  front_refused : (rows : List Row) (k : ℕ) (e : MapFault) → rows_seen_in classes class (take k rows) ≡ Err e → rows_seen_in classes class rows ≡ Err e
  front_refused [] zero e is = absurd cc
  front_refused [] (suc k) e is = absurd cc
  front_refused (r ∷ rows) zero e is = absurd cc
  front_refused (r ∷ rows) (suc k) e is = by (row_seen_in classes class r) (front_refused rows k e) is
    where
      rest : (s : Row) (m : Mapped (List Row)) (o : Mapped (List Row)) → (m ≡ Err e → o ≡ Err e) → (m >>= λ ss. Ok (s ∷ ss)) ≡ Err e → (o >>= λ ss. Ok (s ∷ ss)) ≡ Err e
      rest s (Ok ss) o more is = absurd cc
      rest s (Err f) o more is = ap (λ (x : Mapped (List Row)). x >>= λ ss. Ok (s ∷ ss)) (more is)

      by : (m : Mapped Row) → (rows_seen_in classes class (take k rows) ≡ Err e → rows_seen_in classes class rows ≡ Err e) → (m >>= λ s. rows_seen_in classes class (take k rows) >>= λ ss. Ok (s ∷ ss)) ≡ Err e
          → (m >>= λ s. rows_seen_in classes class rows >>= λ ss. Ok (s ∷ ss)) ≡ Err e
      by (Ok s) later is = rest s (rows_seen_in classes class (take k rows)) (rows_seen_in classes class rows) later is
      by (Err f) later is = is

  same_ok : (a b : List Row) → ◌≡◌ {A = Mapped (List Row)} (Ok a) (Ok b) → a ≡ b
  same_ok a b e = cc

  count_behind : (s : Row) (xs seen : List Row) (m : Mapped (List Row)) → ((ss : List Row) → m ≡ Ok ss → length ss ≡ length xs) → (m >>= λ ss. Ok (s ∷ ss)) ≡ Ok seen → length seen ≡ length xs + 1
  count_behind s xs seen (Ok ss) rest is = let long = rest ss refl in ap (λ (l : List Row). length l) (sym (same_ok (s ∷ ss) seen is)) ∙ omega (arith, long)
  count_behind s xs seen (Err e) rest is = absurd cc

  -- there are as many
  seen_count : (xs seen : List Row) → rows_seen_in classes class xs ≡ Ok seen → length seen ≡ length xs
  seen_count [] seen is = ap (λ (l : List Row). length l) (sym (same_ok [] seen is))
  seen_count (x ∷ xs) seen is = by_row (row_seen_in classes class x) (λ ss e. seen_count xs ss e) is
    where
      by_row : (m : Mapped Row) → ((ss : List Row) → rows_seen_in classes class xs ≡ Ok ss → length ss ≡ length xs) → (m >>= λ s. rows_seen_in classes class xs >>= λ ss. Ok (s ∷ ss)) ≡ Ok seen → length seen ≡ length (x ∷ xs)
      by_row (Ok s) later is = let long = count_behind s xs seen (rows_seen_in classes class xs) later is in omega (arith, long)
      by_row (Err e) later is = absurd cc

  -- A scan of which all rows are told prints them, or why the first that can't be had is refused.
  pub printed : (name : List ℕ) (count : ℕ) (rows : List FoundRow) (all : List Row) → rows ≡ map (λ r. Ok r) (take (length rows) all) → length all ≡ count
      → IfOk (lines_behind classes class 0 (scan_start name count) rows) (λ text. length rows ≡ count) → lines_behind classes class 0 (scan_start name count) rows ≡ rows_printed classes class name all
  printed name count rows all are long whole =
      by (rows_seen_in classes class (take (length rows) all)) refl
    where
      front : lines_behind classes class 0 (scan_start name count) rows ≡ (rows_seen_in classes class (take (length rows) all) >>= λ seen. Ok (scan_start name count ++ row_lines 0 seen))
      front = ap (lines_behind classes class 0 (scan_start name count)) are ∙ seen_lines 0 (scan_start name count) (take (length rows) all)

      by : (m : Mapped (List Row)) → rows_seen_in classes class (take (length rows) all) ≡ m → lines_behind classes class 0 (scan_start name count) rows ≡ rows_printed classes class name all
      by (Err e) is =
          front ∙ ap (λ (m : Mapped (List Row)). m >>= λ seen. Ok (scan_start name count ++ row_lines 0 seen)) is
          ∙ sym (ap (λ (m : Mapped (List Row)). m >>= λ seen. Ok (text_of (rows_told name seen))) (front_refused all (length rows) e is))
      by (Ok seen) is =
          let text = front ∙ ap (λ (m : Mapped (List Row)). m >>= λ s. Ok (scan_start name count ++ row_lines 0 s)) is in
          let full : length rows ≡ count = subst (λ (m : Mapped (List ℕ)). IfOk m (λ t. length rows ≡ count)) text whole in
          let taken : take (length rows) all ≡ all = take_all (length rows) all (omega (arith, full, long)) in
          let seen_all : rows_seen_in classes class all ≡ Ok seen = ap (rows_seen_in classes class) (sym taken) ∙ is in
          let many : length seen ≡ count = seen_count all seen seen_all ∙ long in
          text
          ∙ ap (λ (l : List ℕ). let m : Mapped (List ℕ) = Ok l in m) (ap (λ (n : ℕ). scan_start name n ++ row_lines 0 seen) (sym many) ∙ sym (scans_are_lines.whole name seen))
          ∙ sym (ap (λ (m : Mapped (List Row)). m >>= λ s. Ok (text_of (rows_told name s))) seen_all)

-- ---- rows, one after the other

some_row : (rows : List Row) (n : ℕ) → n < length rows → (row : Row) × (slice_get rows n ≡ Some row)
some_row [] n lt = absurd (omega (arith, lt))
some_row (r ∷ rows) zero lt = (r, refl)
some_row (r ∷ rows) (suc n) lt = some_row rows n (omega (arith, lt))

module _ (v : View) (segments : List Segment) (classes : List ClassDef) (class : Option Base) (t : TreeFill) (first : List ℕ) where
  -- The lines of so many rows were put behind a text.
  pub record RowsPut (n : ℕ) (text : List ℕ) : Type 0 where
    pub rows : List FoundRow
    pub count : length rows ≡ n
    pub told : Told v (λ file. (links : List Link) (all : List Row) → HasChain links segments file → AreRowsOf classes links t all → rows ≡ map (λ row. Ok row) (take (length rows) all))
    pub lines : lines_behind classes class 0 first rows ≡ Ok text

  pub none_put : RowsPut 0 first
  none_put = record { rows = []; count = refl; told = λ file holds links all chain are. refl; lines = refl }

  -- where the host tells the tree's rows, the one of this number is this
  abbrev pub IsRowTold : ℕ → FoundRow → Type 0
  IsRowTold n found = Told v (λ file. (links : List Link) (all : List Row) → HasChain links segments file → AreRowsOf classes links t all → (row : Row) → slice_get all n ≡ Some row → found ≡ Ok row)

  module _ (n : ℕ) (text : List ℕ) (put : RowsPut n text) (found : FoundRow) (low : n < entry_count t) (is : IsRowTold n found) where
    told_more : Told v (λ file. (links : List Link) (all : List Row) → HasChain links segments file → AreRowsOf classes links t all → put.rows ++ found ∷ [] ≡ map (λ row. Ok row) (take (length (put.rows ++ found ∷ [])) all))
    told_more = λ file holds links all chain are.
        let row = some_row all n (omega (arith, low, are.count)) in
        rows_more all put.rows found row.0 (put.told file holds links all chain are) (ap (slice_get all) put.count ∙ row.1) (is file holds links all chain are row.0 row.1)

    lines_then : lines_behind classes class 0 first (put.rows ++ found ∷ []) ≡ line_behind classes class n text found
    lines_then =
        lines_more classes class 0 first put.rows found
        ∙ ap (λ (k : ℕ). lines_behind classes class 0 first put.rows >>= λ before. line_behind classes class k before found) (let k : 0 + length put.rows ≡ length put.rows = omega arith in k)
        ∙ ap (λ (m : Mapped (List ℕ)). m >>= λ before. line_behind classes class (length put.rows) before found) put.lines
        ∙ ap (λ (k : ℕ). line_behind classes class k text found) put.count

    pub one_put : (next : List ℕ) → line_behind classes class n text found ≡ Ok next → RowsPut (n + 1) next
    one_put next line = record {
      rows = put.rows ++ found ∷ [];
      count = count_more put.rows found ∙ ap (λ (k : ℕ). k + 1) put.count;
      told = told_more;
      lines = lines_then ∙ line;
    }

    -- the row can't be had
    pub one_refused : {X : Type 0} (view : X → List ℕ) (fault : MapFault) → FailsUnless NoMemory fault (line_behind classes class n text found) → Scans v segments classes class t first view (Err fault)
    one_refused view fault line = record {
      rows = put.rows ++ found ∷ [];
      count = tt;
      told = told_more;
      lines = λ other. lines_then ∙ line other;
    }

  pub all_put : {X : Type 0} (n : ℕ) (text : List ℕ) (view : X → List ℕ) (x : X) → RowsPut n text → n ≡ entry_count t → view x ≡ text → Scans v segments classes class t first view (Ok x)
  all_put n text view x put all same = record {
    rows = put.rows;
    count = put.count ∙ all;
    told = put.told;
    lines = put.lines ∙ ap (λ (l : List ℕ). let m : Mapped (List ℕ) = Ok l in m) (sym same);
  }

  -- what a call within it puts is put by the call
  pub scans_as : {X Y : Type 0} (f : X → List ℕ) (g : Y → List ℕ) (x : X) (y : Y) → f x ≡ g y → Scans v segments classes class t first f (Ok x) → Scans v segments classes class t first g (Ok y)
  scans_as f g x y same is = record { rows = is.rows; count = is.count; told = is.told; lines = is.lines ∙ ap (λ (l : List ℕ). let m : Mapped (List ℕ) = Ok l in m) same }

  pub scans_fails : {X Y : Type 0} (f : X → List ℕ) (g : Y → List ℕ) (fault : MapFault) → Scans v segments classes class t first f (Err fault) → Scans v segments classes class t first g (Err fault)
  scans_fails f g fault is = record { rows = is.rows; count = tt; told = is.told; lines = is.lines }
