-- First faults, computed: of a file with the one object `s;1` that is cut off, and of other bytes.
use Rattle.std.proofs.Common.{◌≡◌, ◌++◌, ℕ, List, [], ◌∷◌, take, Err, refl}
use Rattle.std.specs.Prelude.{codes, replicate}
use Rattle.byteorder.specs.Endian.{big_bytes}
use Rattle.rio_head.specs.{Head.{behind_layout, fault_at, header_layout}, declared.fault.FileFault.TheVariants.{NotRoot, Short, BadBegin, NotClosed}}
use Rattle.rio_dir.specs.{Closed.{closed_file, closed_head}, Listing.{listed_file}}

uuid : List ℕ
uuid = big_bytes 2 1 ++ big_bytes 16 0x9793EE8C819451089DD8D6014DF945E7

-- a text in its short form
short_text : ℕ → List ℕ → List ℕ
short_text length bytes = length ∷ bytes

-- the header: the version, fBEGIN, fEND, the free record and its length, how many gaps, the length of the first record's key with
-- its name and title, the bytes of a place, and no class list
header : List ℕ
header =
    codes "root" ++ big_bytes 4 60000 ++ big_bytes 4 100 ++ big_bytes 4 404
    ++ big_bytes 4 352 ++ big_bytes 4 52 ++ big_bytes 4 1
    ++ big_bytes 4 48 ++ (4 ∷ []) ++ big_bytes 4 0
    ++ big_bytes 4 0 ++ big_bytes 4 0 ++ uuid ++ replicate 37 0

-- a key in its small form: the lengths of the record, of its data and of the key, the cycle and the place
small_key_of : ℕ → ℕ → ℕ → ℕ → ℕ → ℕ → List ℕ → List ℕ → List ℕ
small_key_of nbytes objlen keylen cycle seek pdir class name =
    big_bytes 4 nbytes ++ big_bytes 2 4 ++ big_bytes 4 objlen ++ big_bytes 4 1
    ++ big_bytes 2 keylen ++ big_bytes 2 cycle ++ big_bytes 4 seek ++ big_bytes 4 pdir
    ++ class ++ name ++ (0 ∷ [])

-- the first record: its name and title, and the directory record with the key list's length and place
first_record : List ℕ
first_record =
    small_key_of 108 68 40 1 100 0 (short_text 5 (codes "TFile")) (short_text 6 (codes "a.root"))
    ++ short_text 6 (codes "a.root") ++ (0 ∷ [])
    ++ big_bytes 2 5 ++ big_bytes 4 1 ++ big_bytes 4 1 ++ big_bytes 4 84 ++ big_bytes 4 48
    ++ big_bytes 4 100 ++ big_bytes 4 0 ++ big_bytes 4 268 ++ uuid ++ replicate 12 0

object_key : List ℕ
object_key = small_key_of 60 20 40 1 208 100 (short_text 10 (codes "TObjString")) (short_text 1 (codes "s"))

object_record : List ℕ
object_record = object_key ++ big_bytes 4 0x4000000F ++ big_bytes 2 1 ++ big_bytes 2 1 ++ big_bytes 8 0 ++ short_text 2 (codes "hi") ++ (0 ∷ [])

-- the key list, of the one key
list_record : List ℕ
list_record = small_key_of 84 44 40 1 268 100 (short_text 5 (codes "TFile")) (short_text 6 (codes "a.root")) ++ big_bytes 4 1 ++ object_key

-- the free record, with the gap from the end to 2,000,000,000, and a word of zeros
free_record : List ℕ
free_record =
    small_key_of 52 12 40 1 352 100 (short_text 5 (codes "TFile")) (short_text 6 (codes "a.root"))
    ++ big_bytes 2 1 ++ big_bytes 4 404 ++ big_bytes 4 2000000000 ++ replicate 6 0

one_object : List ℕ
one_object = header ++ first_record ++ object_record ++ list_record ++ free_record

few_bytes_are_short : listed_file (codes "roo") ≡ Err (fault_at 0 Short)
unfolding listed_file closed_file closed_head header_layout behind_layout
few_bytes_are_short = refl

another_beginning : listed_file (codes "boot") ≡ Err (fault_at 0 NotRoot)
unfolding listed_file closed_file closed_head header_layout behind_layout
another_beginning = refl

-- fSeekInfo isn't whole
header_cut_off : listed_file (take 39 one_object) ≡ Err (fault_at 37 Short)
unfolding one_object header first_record object_record object_key list_record free_record small_key_of short_text uuid listed_file closed_file closed_head header_layout behind_layout
header_cut_off = refl

-- fBEGIN is tested before the Short behind it
another_first_place : listed_file (codes "root" ++ big_bytes 4 60000 ++ big_bytes 4 64) ≡ Err (fault_at 8 BadBegin)
unfolding listed_file closed_file closed_head header_layout behind_layout
another_first_place = refl

end_past_the_file : listed_file (take 403 one_object) ≡ Err (fault_at 12 NotClosed)
unfolding one_object header first_record object_record object_key list_record free_record small_key_of short_text uuid listed_file closed_file closed_head header_layout behind_layout
end_past_the_file = refl
