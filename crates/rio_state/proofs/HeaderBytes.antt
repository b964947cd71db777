-- In a file of bytes the data of its records are bytes.
use Rattle.std.proofs.Common.{⊎_elim, ℕ, ◌+◌, ◌<◌, ◌≤◌, List, [], ◌∷◌, length, get_or, sym, subst, arith}
use Rattle.std.proofs.lemmas.{Bool.{cases_lt}, List.{get_or_past}, List.Elements.{All-cons, All-filter, All-nil, All-same}, Option.{get_or_from_slice_get, slice_get-get_or}}
use Rattle.std.specs.List.{All}
use Rattle.rio_num.specs.At.{AreBytes}
use Rattle.rio_num.proofs.ReadLaws.{IsBytes-drop}
use Rattle.rio_host.specs.Image.{Has}
use Rattle.rio_chain.specs.Segments.{GapAt, HoldsLinks, Link, RecordAt}
use Rattle.rio_state.specs.{Holding.{HeadersAreBytes}, KeyedRecords.{KeyedRecord, is_top_key, is_tree_record, keyed_records, record_data, top_keys}}
use Rattle.rio_state.proofs.LessRecords.{own_record, with_own}

held_bytes : (file : List ℕ) (place : ℕ) (bytes : List ℕ) → Has file place bytes → AreBytes file → AreBytes bytes
held_bytes file place bytes there fits i = ⊎_elim within past (cases_lt i (length bytes))
  where
    within : i < length bytes → get_or bytes i 0 < 256
    within lt =
        let same = get_or_from_slice_get file (place + i) (get_or bytes i 0) 0 (there i (get_or bytes i 0) (slice_get-get_or bytes i 0 lt)) in
        subst (λ (b : ℕ). b < 256) same (fits (place + i))

    past : length bytes ≤ i → get_or bytes i 0 < 256
    past le = omega (arith, get_or_past bytes i 0 le)

abbrev HasBytes : KeyedRecord → Type 0
HasBytes r = AreBytes (record_data r)

data_are_bytes : (file : List ℕ) (p : ℕ) (links : List Link) → HoldsLinks file p links → AreBytes file → All HasBytes (keyed_records links)
data_are_bytes file p [] holds fits = All-nil HasBytes
data_are_bytes file p (RecordAt q bytes ∷ links) holds fits =
    let o = own_record file p q bytes holds.0.0 holds.0.1 in
    let here = IsBytes-drop o.r.head.keylen o.r.bytes (subst AreBytes (sym o.bytes_are) (held_bytes file p bytes holds.0.1.there fits)) in
    All-same HasBytes (keyed_records (RecordAt q bytes ∷ links)) (o.r ∷ keyed_records links) (with_own q bytes o links)
    (All-cons HasBytes o.r (keyed_records links) here (data_are_bytes file (p + length bytes) links holds.1 fits))
data_are_bytes file p (GapAt q n ∷ links) holds fits = data_are_bytes file (p + n) links holds.1 fits

pub headers_are_bytes : HeadersAreBytes
headers_are_bytes file links chain fits =
    let tops = top_keys (keyed_records links) in
    All-filter (is_tree_record tops) HasBytes tops
    (All-filter (λ s. is_top_key s.head) HasBytes (keyed_records links) (data_are_bytes file 100 links chain.links_are fits))
