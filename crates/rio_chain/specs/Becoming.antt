-- What a change makes of a file and of its chain.
use Rattle.std.specs.Prelude.{◌≡◌, ℕ, List, Some}
use Rattle.rio_host.specs.Host.{View}
use Rattle.rio_chain.specs.{Chains.{HasChain}, Segments.{Link}, Stops.{KeepsFront}, declared.segment.Segment.{Segment}}

-- where the host tells its bytes, it tells them after the change, which is of this kind
abbrev pub FileBecomes : View → View → (List ℕ → List ℕ → Type 0) → Type 0
FileBecomes old new change = (file : List ℕ) → old.holds ≡ Some file → (now : List ℕ) × (new.holds ≡ Some now) × change file now

-- Where the host tells its bytes and they have the links of some segments, they have after the change what it makes of those links, in
-- these segments, and the bytes in front of the chain are as before.
abbrev pub ChainBecomes : View → View → List Segment → List Segment → (List Link → List Link) → Type 0
ChainBecomes old new before after change = (file : List ℕ) (links : List Link) → old.holds ≡ Some file → HasChain links before file
    → (now : List ℕ) × (new.holds ≡ Some now) × HasChain (change links) after now × KeepsFront file now
