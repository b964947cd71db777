-- What it is to delete an object, or a tree with its baskets.
use Rattle.std.specs.{Prelude.{◌≡◌, ℕ, ◌==◌, List, [], ◌∷◌, map, nat_lt, true, false}, List.{list_all, list_any}}
use Rattle.rio_key.specs.declared.head.KeyHead.{KeyHead}
use Rattle.rio_dir.specs.Table.{without_head}
use Rattle.rio_chain.specs.{Changes.{without_record}, declared.segment.Segment.{Segment}}
use Rattle.rio_recover.specs.{Cleaning.{without_segments}, Closable.{begins_at}}
pub use Rattle.rio_session.specs.Due.{AreApart}
use Rattle.rio_session.specs.{Changing.{Changing}, Fills.{without_filled}, Kept.{released_by}, SessionState.{SessionState}}

-- A record begins at each of these places, none is the first, and none stands twice. They needn't be in order.
pub record AreReleasable (segments : List Segment) (places : List ℕ) : Type 0 where
  pub there : list_all (λ p. list_any (begins_at p) segments) places ≡ true
  pub later : list_all (nat_lt 100) places ≡ true
  pub apart : AreApart places

-- the releases of the record of this key, and of the baskets of a tree, and what is printed then
abbrev pub deleting : SessionState → KeyHead → List ℕ → Changing
deleting s head text = record {
  changes = map without_record (released_by s head.name head.cycle);
  kept = record s {
    segments = without_segments (released_by s head.name head.cycle) s.segments;
    heads = without_head head.name head.cycle s.heads;
    trees = without_filled head.name s.trees;
  };
  text = text;
  cost = 0;
}
