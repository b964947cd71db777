-- What is written of gaps and an end is read as they are.
use Rattle.std.proofs.Common.{◌≡◌, ℕ, suc, ◌+◌, ◌-◌, ◌<◌, ◌≤◌, true, false, eqb, List, [], ◌∷◌, ◌++◌, length, map, replicate, Option, None, Some, refl, ap, ◌∙◌, append_assoc, arith}
use Rattle.std.proofs.{lemmas.Bool.{lt-ltb, ne_eqb}, lemmas.List.{length-append, take_at}}
use Rattle.std.specs.List.{All}
use Rattle.rio_num.proofs.Puts.{zeros_pad}
use Rattle.rio_free.specs.{declared.entry.FreeEntry.{FreeEntry}, declared.gap.Gap.{Gap}, Entry.{is_above}}
use Rattle.rio_free.specs.{EntryList.{free_gaps_in, gap_of_entry, gaps_of, inner_entries}, Gaps.{AreGapsFrom, gap_end, gap_of, joined}}
use Rattle.rio_free.specs.{Laws.{WrittenIsEntries, WrittenIsGaps}, Record.{end_entry, entry_bytes, entry_of, free_bytes, gaps_bytes}}
use Rattle.rio_free.specs.Spelling.{HasEntry, SpellsEntries}
use Rattle.rio_free.proofs.EntryLaws.{spelled_again}

-- the places from one on are above an entry
abbrev IsAboveFrom : Option ℕ → ℕ → Type 0
IsAboveFrom before low = (place : ℕ) → low ≤ place → is_above before place ≡ true

abbrev entries_written : List Gap → ℕ → List FreeEntry
entries_written gaps end = map entry_of gaps ++ end_entry end ∷ []

module _ (end zeros : ℕ) (end_within : end ≤ 2000000000) (few : zeros < 4) where
  written_spells : (before : Option ℕ) (low from : ℕ) (gaps : List Gap) → IsAboveFrom before low → low ≤ from → low ≤ end → AreGapsFrom from gaps → All (λ g. gap_end g ≤ end) gaps → SpellsEntries before (entries_written gaps end) (free_bytes gaps end ++ replicate zeros 0)
  written_spells before low from [] above le low_end are within =
      let has : HasEntry before (end_entry end) (free_bytes [] end ++ replicate zeros 0) (replicate zeros 0) = record {
        version = 1;
        version_fits = omega arith;
        first_fits = omega (arith, end_within);
        last_fits = omega arith;
        parts = refl;
        above = above end low_end;
        in_order = end_within;
      } in
      (replicate zeros 0, has, zeros_pad zeros few)
  written_spells before low from (g ∷ gaps) above le low_end are within =
      let first : gap_end g ≤ end = within 0 g (omega arith) in
      let own = entry_bytes 1 (entry_of g) in
      let rest = free_bytes gaps end ++ replicate zeros 0 in
      let parts : free_bytes (g ∷ gaps) end ++ replicate zeros 0 ≡ own ++ rest = ap (λ (b : List ℕ). b ++ replicate zeros 0) (append_assoc own (gaps_bytes gaps) (entry_bytes 1 (end_entry end))) ∙ append_assoc own (free_bytes gaps end) (replicate zeros 0) in
      let has : HasEntry before (entry_of g) (free_bytes (g ∷ gaps) end ++ replicate zeros 0) rest = record {
        version = 1;
        version_fits = omega arith;
        first_fits = omega (arith, first, end_within);
        last_fits = omega (arith, first, end_within);
        parts = parts;
        above = above g.place (omega (arith, le, are.0.behind));
        in_order = omega (arith, are.0.some);
      } in
      let next : IsAboveFrom (Some (gap_end g - 1)) (gap_end g) = λ place low. lt-ltb _ _ (omega (arith, low, are.0.some)) in
      (rest, has, written_spells (Some (gap_end g - 1)) (gap_end g) (gap_end g + 1) gaps next (omega arith) first are.1 (λ k d lt. within (suc k) d (omega arith)))

pub written_is_entries : WrittenIsEntries
written_is_entries gaps end zeros w =
    let bytes = free_bytes gaps end ++ replicate zeros 0 in
    spelled_again (length bytes) 0 None (entries_written gaps end) bytes (omega arith) (written_spells end zeros w.end_within w.few None 0 0 gaps (λ place low. refl) (omega arith) (omega arith) w.sorted w.within)

-- ---- their gaps

apart_joined : (from : ℕ) (g : Gap) (gaps : List Gap) → AreGapsFrom from (g ∷ gaps) → joined g gaps ≡ g ∷ gaps
apart_joined from g [] are = refl
apart_joined from g (h ∷ gaps) are =
    let behind : gap_end g + 1 ≤ h.place = are.1.0.behind in
    let other : eqb (gap_end g) h.place ≡ false = ne_eqb _ _ (λ e. omega (arith, e, behind)) in
    rw other refl

gap_again : (g : Gap) → 0 < g.length → gap_of_entry (entry_of g) ≡ g
gap_again g some =
    let same : gap_end g - 1 - g.place + 1 ≡ g.length = omega (arith, some) in
    ap (λ (n : ℕ). gap_of g.place n) same

gaps_again : (from : ℕ) (gaps : List Gap) → AreGapsFrom from gaps → gaps_of (map entry_of gaps) ≡ gaps
gaps_again from [] are = refl
gaps_again from (g ∷ gaps) are =
    ap (λ (h : Gap). joined h (gaps_of (map entry_of gaps))) (gap_again g are.0.some)
    ∙ ap (joined g) (gaps_again (gap_end g + 1) gaps are.1)
    ∙ apart_joined from g gaps are

inner_again : (gaps : List Gap) (end : ℕ) → inner_entries (entries_written gaps end) ≡ map entry_of gaps
inner_again gaps end =
    take_at (map entry_of gaps) (end_entry end ∷ []) (length (entries_written gaps end) - 1) (omega (arith, length-append (map entry_of gaps) (end_entry end ∷ [])))

pub written_is_gaps : WrittenIsGaps
unfolding free_gaps_in
written_is_gaps gaps end zeros w =
    let read = written_is_entries gaps end zeros w in
    rw (read, inner_again gaps end, gaps_again 0 gaps w.sorted) refl
