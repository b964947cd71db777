-- How long the entries are.
use Rattle.std.proofs.{Common.{◌≡◌, ℕ, ◌+◌, ◌*◌, ◌≤◌, List, [], ◌∷◌, ◌++◌, length, drop, refl, arith}, lemmas.List.{append-nil, drop_all, length-append}}
use Rattle.rio_free.specs.{Record.{end_entry, entry_bytes, entry_of, free_bytes, gaps_bytes}, declared.gap.Gap.{Gap}, declared.entry.FreeEntry.{FreeEntry}}

pub length-entry : (e : FreeEntry) → length (entry_bytes 1 e) ≡ 10
length-entry e = refl

pub length-gaps : (gaps : List Gap) → length (gaps_bytes gaps) ≡ 10 * length gaps
length-gaps [] = refl
length-gaps (g ∷ gaps) = omega (arith, length-append (entry_bytes 1 (entry_of g)) (gaps_bytes gaps), length-entry (entry_of g), length-gaps gaps)

pub length-free : (gaps : List Gap) (end : ℕ) → length (free_bytes gaps end) ≡ 10 * (length gaps + 1)
length-free gaps end = omega (arith, length-append (gaps_bytes gaps) (entry_bytes 1 (end_entry end)), length-entry (end_entry end), length-gaps gaps)

pub all_put : (gaps : List Gap) (i : ℕ) (now was : List ℕ) → length gaps ≤ i → now ++ gaps_bytes (drop i gaps) ≡ was ++ gaps_bytes gaps → now ≡ was ++ gaps_bytes gaps
all_put gaps i now was le e = rw (drop_all i gaps le, append-nil) at e
