-- There are files of the links that puts leave: those of one record, and of the open baskets of a tree.
use Rattle.std.proofs.Common.{◌≡◌, ◌∙◌, ◌⊎◌, inl, inr, ℕ, zero, suc, ◌+◌, ◌-◌, ◌≤◌, List, [], ◌∷◌, ◌++◌, drop, length, map, take, Option, Some, None, refl, sym, ap, subst, arith}
use Rattle.std.proofs.lemmas.List.{append-nil}
use Rattle.byteorder.specs.Endian.{big_bytes}
use Rattle.rio_leaf.specs.declared.branch.BranchDef.{BranchDef}
use Rattle.rio_free.specs.Gaps.{HasGapFor}
use Rattle.rio_host.proofs.StopLaws.{patched_put}
use Rattle.rio_host.specs.Stops.{patched}
use Rattle.rio_chain.specs.{Adjoining.{AreSegments}, Chains.{HasChain}, Changes.{with_record}, Placing.{HasRest, file_end, gaps_in, place_of, word_behind}, Segments.{IsChain, IsRecord, Link, segment_of}, declared.segment.Segment.{Segment}}
use Rattle.rio_chain.proofs.{Placed.{has_rest, place_free, split}, PutChain.{Putting, putting}, Puts.{joined}}
use Rattle.rio_effect.specs.{BasketRuns.{CanAllBePut}, Changes.{all_changed, basket_added, basket_place, changed}, TreeChanges.{basket_changes}, TreeRecords.{length_of_basket, record_of_basket, words_of_basket}}
use Rattle.rio_effect.proofs.{BasketLength.{record_long}, Held.{chain_segments}, PutBaskets.{baskets_have_records}}

-- ---- one record

-- as records that are one
one_long : (bytes : List ℕ) → length bytes ≡ length (joined (bytes ∷ []))
unfolding joined
one_long bytes = ap length (sym (append-nil bytes))

put_in_file : (file : List ℕ) (links : List Link) (place : ℕ) (bytes tail : List ℕ) → Putting file links place (length bytes) (bytes ∷ []) tail → (image : List ℕ) × IsChain (with_record place bytes links) image
put_in_file file links place bytes tail p =
    let word = big_bytes 4 (length bytes) in
    let staged = patched file (place + 4) tail in
    let image = patched staged place word in
    (image, (p.put image (staged, patched_put file (place + 4) tail, patched_put staged place word)).0)

-- at the place of the rule
pub put_file : (file : List ℕ) (links : List Link) (place : ℕ) (bytes : List ℕ) → IsChain links file → IsRecord place bytes → place ≡ place_of (map segment_of links) (length bytes)
    → (image : List ℕ) × IsChain (with_record place bytes links) image
put_file file links place bytes chain whole is = by (place_free (map segment_of links) (length bytes) place (inl is))
  where
    has : HasChain links (map segment_of links) file
    has = record { chain = chain; same = refl }

    by : HasGapFor (gaps_in (map segment_of links)) place (length bytes) ⊎ (place ≡ file_end (map segment_of links)) → (image : List ℕ) × IsChain (with_record place bytes links) image
    by (inl gap) =
        let segments = map segment_of links in
        let c = split 100 segments place (length bytes) (chain_segments file links chain).adjacent gap in
        let rest : Option ℕ = Some (c.m - length bytes) in
        let tail = drop 4 (joined (bytes ∷ []) ++ word_behind rest) in
        let fits = subst (λ (n : ℕ). HasRest segments place n (c.m - length bytes)) (one_long bytes) (has_rest segments place (length bytes) c) in
        put_in_file file links place bytes tail (putting file links segments place bytes [] tail rest has (whole, tt) fits refl)
    by (inr end) =
        let rest : Option ℕ = None in
        let tail = drop 4 (joined (bytes ∷ []) ++ word_behind rest) in
        put_in_file file links place bytes tail (putting file links (map segment_of links) place bytes [] tail rest has (whole, tt) end refl)

-- ---- the open baskets of a tree

pub files_put : (datime : ℕ) (tree : List ℕ) (file : List ℕ) (links : List Link) (bs : List BranchDef) (entries : List (List (List ℕ))) (k : ℕ) → IsChain links file → CanAllBePut datime tree links bs entries
    → k ≤ length (basket_changes datime tree bs entries) → (image : List ℕ) × IsChain (all_changed links (take k (basket_changes datime tree bs entries))) image
files_put datime tree file links [] entries zero chain can within = (file, chain)
files_put datime tree file links [] entries (suc k) chain can within = absurd (omega (arith, within))
files_put datime tree file links (b ∷ bs) [] zero chain can within = (file, chain)
files_put datime tree file links (b ∷ bs) [] (suc k) chain can within = absurd (omega (arith, within))
files_put datime tree file links (b ∷ bs) ([] ∷ entries) k chain can within = files_put datime tree file links bs entries k chain can within
files_put datime tree file links (b ∷ bs) ((e ∷ es) ∷ entries) zero chain can within = (file, chain)
files_put datime tree file links (b ∷ bs) ((e ∷ es) ∷ entries) (suc k) chain can within =
    let words = words_of_basket tree b datime (e ∷ es) in
    let place = basket_place links words in
    let whole = (baskets_have_records place words can.0).whole in
    let next = put_file file links place (record_of_basket place words) chain whole (ap (place_of (map segment_of links)) (sym (record_long place words))) in
    files_put datime tree next.0 (changed links (basket_added words)) bs entries k next.1 can.1 (omega (arith, within))
