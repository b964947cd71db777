-- What a stop leaves of an open file: an image that reads as before and is marked as open.
use Rattle.std.proofs.Common.{◌≡◌, ◌⊎◌, inl, inr, ⊎_elim, ℕ, ◌+◌, ◌<◌, ◌≤◌, ◌==◌, ◌||◌, Bool, false, ltb, List, ◌∷◌, length, Some, sym, ap, subst, ◌∙◌, arith}
use Rattle.std.proofs.lemmas.Bool.{le-ltb}
use Rattle.std.specs.{Prelude.{MatchBool}, List.{slice_get}}
use Rattle.byteorder.specs.Endian.{big_number}
use Rattle.rio_head.specs.declared.head.FileHead.{FileHead}
use Rattle.rio_key.specs.declared.head.KeyHead.{KeyHead}
use Rattle.rio_dir.specs.Unborn.{is_unborn}
use Rattle.rio_chain.specs.{Segments.{HasWord, IsChain, Link, RecordAt, chain_end}, Stops.{KeepsFront}}
use Rattle.rio_chain.proofs.Words.{word_one, word_within}
use Rattle.rio_machine.specs.State.{State, empty_state}
use Rattle.rio_state.specs.{KeyedRecords.{KeyedRecord, keyed_records}, Left.{HasOpenHead, IsLeftAs, open_end}, Reads.{AreRecordsOf, ReadsAsMade, ReadsAsState}}
use Rattle.rio_state.specs.OneMore.{keyed_bytes}
use Rattle.rio_close.specs.Fields.{IsOutsideFields, KeepsAllButFields}
use Rattle.rio_close.proofs.{FieldsChain.{first_link, other_fields}, FirstBytes.{first_class, first_keyed, records_change}}
use Rattle.rio_close.proofs.Numbers.{HasNumber, any_number, number_keeps, word_of_number}
use Rattle.rio_close.proofs.SmallHead.{IsFixed, SmallHead, head_changes, small_head, small_read}

-- ---- made files

chain_long : (links : List Link) (file : List ℕ) → IsChain links file → 104 < length file
chain_long links file chain = let within = word_within file (chain_end links) 0 chain.ends.zero_word in let late = chain.ends.later in omega (arith, within, late)

pub open_head : (links : List Link) (file : List ℕ) (n : ℕ) → IsChain links file → (h : HasOpenHead file n) → SmallHead file h.head
open_head links file n chain h = let long = chain_long links file chain in small_head file h.head (omega (arith, long)) h.head_is h.small

not_unborn : (b : List ℕ) (h : FileHead) → SmallHead b h → is_unborn b ≡ false
not_unborn b h s =
    let long : ltb (length b) 4 ≡ false = le-ltb _ _ (let l = s.long in omega (arith, l)) in
    ap (λ (t : Bool). t || (big_number 4 b == 0)) long ∙ ap (λ (w : ℕ). w == 0) s.root.number

-- a file that is made reads as the state
pub reads_made : (image : List ℕ) (h : FileHead) (links : List Link) (m : State) → SmallHead image h → IsChain links image → AreRecordsOf (keyed_records links) m → ReadsAsState image m
reads_made image h links m s chain records =
    let made : ReadsAsMade image m = record { head = h; head_is = small_read image h s; small = s.small; links = links; chain = chain; records = records } in
    subst (λ (b : Bool). MatchBool b (m ≡ empty_state) (ReadsAsMade image m)) (sym (not_unborn image h s)) made

-- ---- images with the front of before

-- bytes of the header that tell what it is, and where it says END
abbrev pub KeepsHead : List ℕ → List ℕ → Type 0
KeepsHead old new = (i x : ℕ) → ((i < 16) ⊎ ((28 ≤ i) × (i < 37)) ⊎ ((45 ≤ i) × (i < 63))) → slice_get old i ≡ Some x → slice_get new i ≡ Some x

pub left_open : (file image : List ℕ) (h : FileHead) (links : List Link) (m : State) → SmallHead file h → h.end ≡ open_end → KeepsHead file image → IsChain links image → AreRecordsOf (keyed_records links) m → IsLeftAs m image
left_open file image h links m s is keeps chain records =
    let long = chain_long links image chain in
    let end : HasNumber 4 image 12 open_end = subst (HasNumber 4 image 12) is (number_keeps 3 file image 12 h.end (λ i x low high was. keeps i x (inl (omega (arith, high))) was) s.end) in
    let fixed : (i x : ℕ) → IsFixed i → slice_get file i ≡ Some x → slice_get image i ≡ Some x = λ i x at was. keeps i x (⊎_elim (λ low. inl (omega (arith, low))) (λ other. inr other) at) was in
    let head = head_changes file image h s fixed open_end _ _ _ _ _ end (any_number 4 image 16 (omega (arith, long))) (any_number 4 image 20 (omega (arith, long))) (any_number 4 image 24 (omega (arith, long)))
    (any_number 4 image 37 (omega (arith, long))) (any_number 4 image 41 (omega (arith, long))) in
    record {
      reads = reads_made image _ links m head chain records;
      closed = λ word root has ne. absurd (ne (word_one image 12 word open_end has (word_of_number image 12 open_end end)));
    }

pub keeps_head : (file image : List ℕ) → KeepsFront file image → KeepsHead file image
keeps_head file image keeps i x at was = keeps i x (⊎_elim (λ low. omega (arith, low)) (λ other. ⊎_elim (λ mid. omega (arith, mid.1)) (λ high. omega (arith, high.1)) other) at) was

-- ---- images with other fields

-- bytes of the chain, without the fields
pub chain_keeps : (place : ℕ) (file image : List ℕ) → KeepsAllButFields place file image → (i x : ℕ) → 28 ≤ i → IsOutsideFields place i → slice_get file i ≡ Some x → slice_get image i ≡ Some x
chain_keeps place file image keeps i x le out was = keeps i x out was

pub left_fields : (file image : List ℕ) (h : FileHead) (links : List Link) (m : State) (n place : ℕ) → SmallHead file h → h.end ≡ open_end → h.nbytes_name ≡ n → place ≡ n + 106 → KeepsAllButFields place file image
    → IsChain links file → AreRecordsOf (keyed_records links) m → IsLeftAs m image
left_fields file image h links m n place s is name at keeps chain records =
    let f = first_link links file chain in
    let whole = subst (λ (l : List Link). IsChain l file) f.links_are chain in
    let word : HasWord file 28 n = subst (HasWord file 28) name (word_of_number file 28 h.nbytes_name s.nbytes_name) in
    let o = other_fields file image f.bytes f.others whole n place word at (chain_keeps place file image keeps) in
    let own = whole.links_are.0.1.whole in
    let class = first_class file f.bytes own f.first in
    let before : AreRecordsOf (keyed_records (RecordAt 100 f.bytes ∷ f.others)) m = subst (λ (l : List Link). AreRecordsOf (keyed_records l) m) f.links_are records in
    let one = subst (λ (rs : List KeyedRecord). AreRecordsOf rs m) (first_keyed 100 f.bytes f.others own) before in
    let two = records_change own.head class f.bytes o.new (keyed_records f.others) m one in
    let after = subst (λ (rs : List KeyedRecord). AreRecordsOf rs m) (sym (first_keyed 100 o.new f.others o.whole ∙ ap (λ (k : KeyHead). keyed_bytes k o.new ∷ keyed_records f.others) o.head_is)) two in
    left_open file image h (RecordAt 100 o.new ∷ f.others) m s is (λ i x fixed was. keeps i x (outside i fixed) was) o.chain after
  where
    outside : (i : ℕ) → ((i < 16) ⊎ ((28 ≤ i) × (i < 37)) ⊎ ((45 ≤ i) × (i < 63))) → IsOutsideFields place i
    outside i (inl low) = (inl low, inl (omega (arith, low)), inl (omega (arith, low, at)))
    outside i (inr (inl mid)) = (inr mid.0, inl mid.1, inl (omega (arith, mid.1, at)))
    outside i (inr (inr high)) = (inr (omega (arith, high.0)), inr high.0, inl (omega (arith, high.1, at)))
