-- Entries that stand one behind the other in some bytes: where each of them begins, and their offsets in a table.
use Rattle.std.proofs.Common.{◌≡◌, ℕ, zero, suc, ◌+◌, ◌*◌, ◌^◌, ◌<◌, ◌≤◌, List, [], ◌∷◌, ◌++◌, length, take, drop, get_or, true, ◌==◌, refl, sym, ap, ◌∙◌, append_assoc, length-append, arith}
use Rattle.std.proofs.{Math.Nat.{suc-mul}, lemmas.Bool.{and_parts, eqb-true}, lemmas.List.{drop_at, take_at, take_all}}
use Rattle.std.specs.List.{concat, flat_map, list_all}
use Rattle.byteorder.specs.{Endian.{big_bytes, big_number}, Numbers.{big_number-reads_back}}
use Rattle.rio_key.specs.BasketRecord.{offsets_of}

-- how many bytes the first k entries have together
abbrev pub before : ℕ → List (List ℕ) → ℕ
before k entries = length (concat (take k entries))

abbrev pub entry_at : List (List ℕ) → ℕ → List ℕ
entry_at entries k = get_or entries k []

pub before_next : (entries : List (List ℕ)) (k : ℕ) → k < length entries → before (k + 1) entries ≡ before k entries + length (entry_at entries k)
before_next [] k lt = absurd (omega arith)
before_next (e ∷ es) zero lt = length-append e [] ∙ (omega arith)
before_next (e ∷ es) (suc k) lt =
    let more : suc k + 1 ≡ suc (k + 1) = omega arith in
    let ih = before_next es k (omega arith) in
    let left : before (suc k + 1) (e ∷ es) ≡ length e + before (k + 1) es = ap (λ (n : ℕ). before n (e ∷ es)) more ∙ length-append e (concat (take (k + 1) es)) in
    let right : before (suc k) (e ∷ es) ≡ length e + before k es = length-append e (concat (take k es)) in
    omega (arith, left, right, ih)

pub before_within : (entries : List (List ℕ)) (k : ℕ) → before k entries ≤ length (concat entries)
before_within [] zero = omega arith
before_within [] (suc k) = omega arith
before_within (e ∷ es) zero = omega arith
before_within (e ∷ es) (suc k) = omega (arith, length-append e (concat (take k es)), length-append e (concat es), before_within es k)

pub before_all : (entries : List (List ℕ)) (k : ℕ) → length entries ≤ k → before k entries ≡ length (concat entries)
before_all entries k le = ap (λ (l : List (List ℕ)). length (concat l)) (take_all k entries le)

-- the k-th entry, in bytes of which all entries are a part
pub entry_there : (entries : List (List ℕ)) (front tail : List ℕ) (k : ℕ) → k < length entries → take (length (entry_at entries k)) (drop (length front + before k entries) (front ++ (concat entries ++ tail))) ≡ entry_at entries k
entry_there [] front tail k lt = absurd (omega arith)
entry_there (e ∷ es) front tail zero lt =
    let there : drop (length front + 0) (front ++ ((e ++ concat es) ++ tail)) ≡ e ++ (concat es ++ tail) =
    drop_at front ((e ++ concat es) ++ tail) (length front + 0) (omega arith) ∙ append_assoc e (concat es) tail in
    ap (take (length e)) there ∙ take_at e (concat es ++ tail) (length e) refl
entry_there (e ∷ es) front tail (suc k) lt =
    let place : length front + length (e ++ concat (take k es)) ≡ length (front ++ e) + before k es = omega (arith, length-append e (concat (take k es)), length-append front e) in
    let bytes : front ++ ((e ++ concat es) ++ tail) ≡ (front ++ e) ++ (concat es ++ tail) = ap (λ (l : List ℕ). front ++ l) (append_assoc e (concat es) tail) ∙ sym (append_assoc front e (concat es ++ tail)) in
    ap (λ (n : ℕ). take (length (entry_at es k)) (drop n (front ++ ((e ++ concat es) ++ tail)))) place
    ∙ ap (λ (l : List ℕ). take (length (entry_at es k)) (drop (length (front ++ e) + before k es) l)) bytes
    ∙ entry_there es (front ++ e) tail k (omega arith)

-- ---- offsets

pub offset_is : (place : ℕ) (entries : List (List ℕ)) (k : ℕ) → k ≤ length entries → get_or (offsets_of place entries) k 0 ≡ place + before k entries
offset_is place [] zero le = omega arith
offset_is place [] (suc k) le = absurd (omega arith)
offset_is place (e ∷ es) zero le = omega arith
offset_is place (e ∷ es) (suc k) le = omega (arith, offset_is (place + length e) es k (omega arith), length-append e (concat (take k es)))

pub length-offsets_of : (place : ℕ) (entries : List (List ℕ)) → length (offsets_of place entries) ≡ length entries + 1
length-offsets_of place [] = refl
length-offsets_of place (e ∷ es) = omega (arith, length-offsets_of (place + length e) es)

-- the k-th number of a table
pub number_in_table : (xs tail : List ℕ) (k : ℕ) → k < length xs → get_or xs k 0 < 2 ^ 32 → big_number 4 (drop (4 * k) (flat_map (big_bytes 4) xs ++ tail)) ≡ get_or xs k 0
number_in_table [] tail k lt small = absurd (omega arith)
number_in_table (x ∷ xs) tail zero lt small = big_number-reads_back 4 x (flat_map (big_bytes 4) xs ++ tail) (omega arith)
number_in_table (x ∷ xs) tail (suc k) lt small =
    let more : 4 * suc k ≡ suc (suc (suc (suc (4 * k)))) = omega arith in
    ap (λ (n : ℕ). big_number 4 (drop n (flat_map (big_bytes 4) (x ∷ xs) ++ tail))) more ∙ number_in_table xs tail k (omega arith) small

-- ---- entries of one length

pub before_equal : (each : ℕ) (entries : List (List ℕ)) → list_all (λ e. length e == each) entries ≡ true → (k : ℕ) → k ≤ length entries → before k entries ≡ k * each
before_equal each entries h zero le = omega arith
before_equal each [] h (suc k) le = absurd (omega arith)
before_equal each (e ∷ es) h (suc k) le =
    let parts = and_parts (length e == each) (list_all (λ x. length x == each) es) h in
    let own : length e ≡ each = eqb-true (length e) each parts.0 in
    let ih = before_equal each es parts.1 k (omega arith) in
    let product : suc k * each ≡ k * each + each = suc-mul k each in
    omega (arith, length-append e (concat (take k es)), own, ih, product)
