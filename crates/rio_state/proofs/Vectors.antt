-- The image of a.root without objects, 308 bytes: it reads as the empty state by the walk and by its key list.
use Rattle.std.proofs.Common.{◌≡◌, ◌≤◌, ◌<◌, ℕ, ◌+◌, pos, List, [], ◌∷◌, ◌++◌, length, Some, Ok, refl, arith, subst, slice_get}
use Rattle.std.specs.Prelude.{codes, replicate}
use Rattle.byteorder.specs.Endian.{big_bytes}
use Rattle.rio_num.specs.{Layout.{each, retold}, Reading.{text_at}}
use Rattle.rio_host.proofs.Images.{has_back, has_front}
use Rattle.rio_host.specs.Image.{Has}
use Rattle.rio_key.proofs.KeyWritten.{key_spelled}
use Rattle.rio_key.specs.{Key.{SpellsKey, key_fields, key_layout}, KeyList.{key_list_layout, listed_key}, Written.{AreWithinFields, FitsKey, HoldsItself, written_key}, declared.head.KeyHead.{KeyHead}}
use Rattle.rio_head.specs.{Dir.{dir_layout}, Head.{behind_layout, head_at, header_layout}, declared.dir.DirRecord.{DirRecord}}
use Rattle.rio_head.specs.declared.head.FileHead.{FileHead}
use Rattle.rio_dir.specs.{Closed.{closed_file, closed_head, listed_at}, declared.closed.Closed.{Closed}}
use Rattle.rio_chain.specs.Segments.{HasWord, HoldsRecord, IsChain, IsFirst, IsRecord, Link, RecordAt, texts_end_at}
use Rattle.rio_machine.specs.State.{empty_state}
use Rattle.rio_state.specs.{KeyedRecords.{KeyedRecord, keyed_records}, Reads.{AreRecordsOf, ReadsAsState, ReadsAsMade, ReadsClosed}}
use Rattle.rio_state.proofs.EmptyState.{none_counts}

-- ---- the bytes

abbrev uuid : List ℕ
uuid = big_bytes 2 1 ++ big_bytes 16 0x9793EE8C819451089DD8D6014DF945E7

-- the key of a record of the file itself
abbrev file_key : ℕ → ℕ → ℕ → ℕ → KeyHead
file_key nbytes objlen seek pdir = record {
  nbytes = pos nbytes;
  version = 4;
  objlen = objlen;
  datime = 1;
  keylen = 40;
  cycle = 1;
  seek = seek;
  pdir = pdir;
  class = codes "TFile";
  name = codes "a.root";
  title = [];
}

-- the header up to the place of the length of the first record's key with its name and title
abbrev header_front : List ℕ
header_front =
    codes "root" ++ (big_bytes 4 60000 ++ (big_bytes 4 100 ++ (big_bytes 4 304 ++ (big_bytes 4 252 ++ (big_bytes 4 52 ++ big_bytes 4 1)))))

abbrev header_back : List ℕ
header_back = (4 ∷ []) ++ (big_bytes 4 0 ++ (big_bytes 4 0 ++ (big_bytes 4 0 ++ (uuid ++ replicate 37 0))))

abbrev directory : List ℕ
directory =
    big_bytes 2 5 ++ (big_bytes 4 1 ++ (big_bytes 4 1 ++ (big_bytes 4 44 ++ (big_bytes 4 48 ++ (big_bytes 4 100 ++ (big_bytes 4 0 ++ (big_bytes 4 208 ++ (uuid ++ replicate 12 0))))))))

abbrev first_data : List ℕ
first_data = (6 ∷ codes "a.root") ++ ((0 ∷ []) ++ directory)

abbrev free_data : List ℕ
free_data = big_bytes 2 1 ++ (big_bytes 4 304 ++ (big_bytes 4 2000000000 ++ replicate 2 0))

abbrev first_head : KeyHead
first_head = file_key 108 68 100 0

abbrev list_head : KeyHead
list_head = file_key 44 4 208 100

abbrev free_head : KeyHead
free_head = file_key 52 12 252 100

abbrev first_bytes : List ℕ
first_bytes = written_key first_head ++ first_data

abbrev list_bytes : List ℕ
list_bytes = written_key list_head ++ big_bytes 4 0

abbrev free_bytes : List ℕ
free_bytes = written_key free_head ++ free_data

-- the image from each of its places on
abbrev from_free : List ℕ
from_free = free_bytes ++ big_bytes 4 0

abbrev from_list : List ℕ
from_list = list_bytes ++ from_free

abbrev from_first : List ℕ
from_first = first_bytes ++ from_list

abbrev from_units : List ℕ
from_units = header_back ++ from_first

abbrev from_nbytes_name : List ℕ
from_nbytes_name = big_bytes 4 48 ++ from_units

abbrev image : List ℕ
image = header_front ++ from_nbytes_name

has_308_bytes : length image ≡ 308
has_308_bytes = refl

-- ---- the segments

links : List Link
links = RecordAt 100 first_bytes ∷ RecordAt 208 list_bytes ∷ RecordAt 252 free_bytes ∷ []

at_0 : Has image 0 image
at_0 i x at = subst (λ (k : ℕ). slice_get image k ≡ Some x) (let e : i ≡ 0 + i = omega arith in e) at

at_28 : Has image 28 from_nbytes_name
at_28 = has_back image 0 28 header_front from_nbytes_name refl at_0

at_100 : Has image 100 from_first
at_100 =
    has_back image 32 100 header_back from_first refl (has_back image 28 32 (big_bytes 4 48) from_units refl at_28)

at_208 : Has image 208 from_list
at_208 = has_back image 100 208 first_bytes from_list refl at_100

at_252 : Has image 252 from_free
at_252 = has_back image 208 252 list_bytes from_free refl at_208

at_304 : Has image 304 (big_bytes 4 0)
at_304 = has_back image 252 304 free_bytes (big_bytes 4 0) refl at_252

file_key_spelled : (nbytes objlen seek pdir : ℕ) → nbytes < 1000 → objlen < 1000 → seek < 1000 → pdir < 1000 → 40 ≤ nbytes
    → SpellsKey (file_key nbytes objlen seek pdir) (written_key (file_key nbytes objlen seek pdir))
file_key_spelled nbytes objlen seek pdir n o s d long =
    let numbers : AreWithinFields (file_key nbytes objlen seek pdir) = record {
      version = omega arith;
      objlen = omega (arith, o);
      datime = omega arith;
      keylen = omega arith;
      cycle = omega arith;
      seek = omega (arith, s);
      pdir = omega (arith, d);
    } in
    let fits : FitsKey (file_key nbytes objlen seek pdir) = record { seek = omega (arith, s); pdir = omega (arith, d); class = omega arith; name = omega arith; title = omega arith } in
    let holds : HoldsItself (file_key nbytes objlen seek pdir) = record {
      numbers = numbers;
      nbytes = nbytes;
      length_is = refl;
      length_fits = omega (arith, n);
      key_held = long;
      title_held = omega arith;
    } in
    key_spelled (file_key nbytes objlen seek pdir) fits holds

first_spelled : SpellsKey first_head (written_key first_head)
first_spelled = file_key_spelled 108 68 100 0 (omega arith) (omega arith) (omega arith) (omega arith) (omega arith)

list_spelled : SpellsKey list_head (written_key list_head)
list_spelled = file_key_spelled 44 4 208 100 (omega arith) (omega arith) (omega arith) (omega arith) (omega arith)

free_spelled : SpellsKey free_head (written_key free_head)
free_spelled = file_key_spelled 52 12 252 100 (omega arith) (omega arith) (omega arith) (omega arith) (omega arith)

first_whole : IsRecord 100 first_bytes
first_whole = record {
  head = first_head;
  key = (written_key first_head, first_data, refl, first_spelled);
  small = omega arith;
  seek = refl;
  nbytes = refl;
  parts = refl;
  aligned = refl;
}

list_whole : IsRecord 208 list_bytes
list_whole = record {
  head = list_head;
  key = (written_key list_head, big_bytes 4 0, refl, list_spelled);
  small = omega arith;
  seek = refl;
  nbytes = refl;
  parts = refl;
  aligned = refl;
}

free_whole : IsRecord 252 free_bytes
free_whole = record {
  head = free_head;
  key = (written_key free_head, free_data, refl, free_spelled);
  small = omega arith;
  seek = refl;
  nbytes = refl;
  parts = refl;
  aligned = refl;
}

nbytes_name : HasWord image 28 48
nbytes_name = record { bytes = big_bytes 4 48; four = refl; there = has_front image 28 (big_bytes 4 48) from_units at_28; number = refl }

first_is : IsFirst image first_bytes
unfolding texts_end_at text_at
first_is = record {
  head = first_head;
  key = (written_key first_head, first_data, refl, first_spelled);
  class = refl;
  directory = record { place = 48; rest = directory };
  texts = refl;
  room = omega arith;
  small = omega arith;
  nbytes_name = nbytes_name;
}

first_holds : HoldsRecord image 100 first_bytes
first_holds = record { there = has_front image 100 first_bytes from_list at_100; whole = first_whole; first = λ is. first_is }

list_holds : HoldsRecord image 208 list_bytes
list_holds = record { there = has_front image 208 list_bytes from_free at_208; whole = list_whole; first = λ is. absurd (omega (arith, is)) }

free_holds : HoldsRecord image 252 free_bytes
free_holds = record { there = has_front image 252 free_bytes (big_bytes 4 0) at_252; whole = free_whole; first = λ is. absurd (omega (arith, is)) }

chain : IsChain links image
unfolding links
chain = record {
  links_are = ((refl, first_holds), ((refl, list_holds), ((refl, free_holds), tt)));
  ends = record { later = omega arith; zero_word = record { bytes = big_bytes 4 0; four = refl; there = at_304; number = refl } };
}

-- ---- the readings

head : FileHead
head = record {
  version = 60000;
  begin = 100;
  end = 304;
  seek_free = 252;
  nbytes_free = 52;
  nfree = 1;
  nbytes_name = 48;
  units = 4;
  compress = 0;
  seek_info = 0;
  nbytes_info = 0;
  uuid = uuid;
}

records : AreRecordsOf (keyed_records links) empty_state
unfolding links key_layout key_fields text_at
records = none_counts (keyed_records links) refl refl refl

head_read : head_at image ≡ Ok head
unfolding head header_layout behind_layout
head_read = refl

read_as_made : ReadsAsMade image empty_state
unfolding head
read_as_made = record { head = head; head_is = head_read; small = refl; links = links; chain = chain; records = records }

pub image_reads : ReadsAsState image empty_state
image_reads = read_as_made

dir : DirRecord
dir = record { version = 5; created = 1; changed = 1; nbytes_keys = 44; nbytes_name = 48; seek_dir = 100; seek_parent = 0; seek_keys = 208; uuid = uuid }

closed : Closed
closed = record { head = head; dir = dir; keys = [] }

closed_read : closed_file image ≡ Ok closed
unfolding closed head dir closed_file closed_head listed_at header_layout behind_layout dir_layout key_layout key_fields text_at key_list_layout listed_key each retold
closed_read = refl

free_record : KeyedRecord
free_record = record { head = free_head; bytes = free_bytes }

pub image_reads_closed : ReadsClosed image empty_state
unfolding links head dir closed free_record key_layout key_fields text_at
image_reads_closed = record {
  closed = closed;
  closed_is = closed_read;
  small = refl;
  links = links;
  chain = chain;
  here = refl;
  info = refl;
  listed = [];
  heads = refl;
  there = λ k d lt. absurd (omega (arith, lt));
  tops = refl;
  stand = records.stand;
  end = refl;
  free = record {
    r = free_record;
    there = (2, omega arith, refl);
    seek = refl;
    zeros = replicate 2 0;
    padding = refl;
    written = refl;
  };
}
