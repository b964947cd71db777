-- What of a session stands on a file, but for what the file's header says and how much the file holds: so it is after each of the saves of a
-- close too, on each file that is left meanwhile.
use Rattle.std.proofs.Common.{◌≡◌, ◌∙◌, ℕ, List, map, sym}
use Rattle.rio_chain.specs.{Chains.{HasChain}, Placing.{record_count}, Segments.{IsChain, Link, segment_of}}
use Rattle.rio_machine.specs.{State.{State}, declared.command.Command.{Command}}
use Rattle.rio_state.specs.{Closing.{kept_in, kept_with}, DirectoryKeys.{AreKeysOf}, KeyedRecords.{info_key, keyed_records}, Left.{info_head}, Reads.{AreRecordsOf}, TreeLengths.{pending_in}}
use Rattle.rio_step.specs.{Runs.{saved_of}, Step.{state_behind}, Storable.{IsFillable}}
use Rattle.rio_effect.specs.AllItems.{AreAllItems}
use Rattle.rio_recover.specs.Trees.{AreTreesOf}
use Rattle.rio_session.specs.{Effects.{IsKeptAfter}, Items.{IsOfKeys}, Kept.{kept_by}, Session.{HoldsPutRows, HoldsState, OpensRows}, SessionState.{SessionState, headers_of}}

pub record StandsOn (s : SessionState) (m : State) (file : List ℕ) : Type 0 where
  pub links : List Link
  pub chain : HasChain links s.segments file
  pub records : AreRecordsOf (keyed_records links) (saved_of m)
  pub stands : IsOfKeys s m
  pub keys : AreKeysOf (keyed_records links) s.heads
  pub trees : AreTreesOf (keyed_records links) (headers_of s)
  pub items : AreAllItems links
  pub fillable : IsFillable m
  pub rows : HoldsPutRows s m links
  pub opens : OpensRows s m
  pub info : s.info ≡ info_head (info_key (keyed_records links))
  pub name : (kept_in links).name ≡ s.name
  pub count : (kept_with (pending_in m) links).count ≡ record_count s.segments

abbrev pub holds_on : (s : SessionState) (m : State) (file : List ℕ) → HoldsState s m file → StandsOn s m file
holds_on s m file h = record {
  links = h.links;
  chain = h.chain;
  records = h.records;
  stands = h.stands;
  keys = h.keys;
  trees = h.trees;
  items = h.items;
  fillable = h.fillable;
  rows = h.rows;
  opens = h.opens;
  info = h.info;
  name = h.name;
  count = h.count;
}

-- so it is after a command, on a file of the links that there are then
abbrev pub stands_after : (s : SessionState) (m : State) (c : Command) (file image : List ℕ) (h : StandsOn s m file) (after : List Link) → IsKeptAfter s m c h.links after → IsOfKeys (kept_by s m c) (state_behind m c)
    → (kept_by s m c).segments ≡ map segment_of after → (kept_by s m c).name ≡ s.name → IsChain after image → StandsOn (kept_by s m c) (state_behind m c) image
stands_after s m c file image h after kept stands segments name chain = record {
  links = after;
  chain = record { chain = chain; same = segments };
  records = kept.records;
  stands = stands;
  keys = kept.keys;
  trees = kept.trees;
  items = kept.items;
  fillable = kept.fillable;
  rows = kept.rows;
  opens = kept.opens;
  info = kept.info;
  name = kept.name ∙ h.name ∙ sym name;
  count = kept.count;
}
