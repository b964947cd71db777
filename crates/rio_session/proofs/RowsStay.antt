-- What is kept of pending rows stays where the headers of a file say the same.
use Rattle.std.proofs.Common.{◌≡◌, ◌∙◌, ℕ, List, Option, Some, sym, ap}
use Rattle.std.specs.{FinMap.{get}, List.{find}, Str.{bytes_eq}}
use Rattle.rio_chain.specs.Segments.{Link}
use Rattle.rio_machine.specs.State.{State, Tree}
use Rattle.rio_state.specs.{Contents.{file_classes}, KeyedRecords.{KeyedRecord, info_key, keyed_records, record_at, top_keys, tree_records}, TreeLengths.{cuts_of}}
use Rattle.rio_state.specs.Trees.{all_places_named, are_named_once, header_in}
use Rattle.rio_state.proofs.Members.{In, found}
use Rattle.rio_effect.specs.{BasketRuns.{places_put}, TreeCommands.{KeepsTree}}
use Rattle.rio_session.specs.{Fills.{FilledTree, put_in}, Session.{HoldsPutRows, file_records}, SessionState.{SessionState}}
use Rattle.rio_session.proofs.RowsKept.{HoldStill, named_in, rows_still}

-- ---- headers that say the same

pub record SayAlike (links after : List Link) : Type 0 where
  pub headers : tree_records (top_keys (keyed_records after)) ≡ tree_records (top_keys (keyed_records links))
  pub said : (r : KeyedRecord) → In r (tree_records (top_keys (keyed_records links)))
      → header_in (file_classes (info_key (keyed_records after))) r ≡ header_in (file_classes (info_key (keyed_records links))) r
  pub named : named_in after ≡ named_in links

-- as they do with the same class list
pub say_alike : (links after : List Link) → info_key (keyed_records after) ≡ info_key (keyed_records links) → tree_records (top_keys (keyed_records after)) ≡ tree_records (top_keys (keyed_records links)) → SayAlike links after
say_alike links after info headers = record {
  headers = headers;
  said = λ r i. ap (λ (o : Option KeyedRecord). header_in (file_classes o) r) info;
  named = λ i. all_places_named (file_classes (info i)) (headers i);
}

module _ (s t : SessionState) (m n : State) (links after : List Link) (alike : SayAlike links after) where
  -- of one tree, with the same baskets and the same cuts
  pub tree_rows_stay : (name : List ℕ) (x y : Tree) → KeepsTree (file_records s links) m name x → put_in t.trees name ≡ put_in s.trees name → cuts_of n.classes y.branches y.pending ≡ cuts_of m.classes x.branches x.pending
      → HoldStill (record_at (keyed_records links)) (record_at (keyed_records after)) (places_put (put_in s.trees name)) → KeepsTree (file_records t after) n name y
  tree_rows_stay name x y k put cuts still =
      let f = found (λ (r : KeyedRecord). bytes_eq r.head.name name) k.r (tree_records (top_keys (keyed_records links))) k.record_is in
      rows_still (file_records s links) (file_records t after) m n name x y k
      (ap (find (λ r. bytes_eq r.head.name name)) alike.headers ∙ k.record_is)
      (alike.said k.r f.among ∙ k.head_is)
      put cuts still
      (ap (λ (ps : List ℕ). are_named_once ps (places_put (put_in s.trees name))) alike.named ∙ k.fresh)

  -- and of all trees, where none is changed
  pub rows_stay : t.trees ≡ s.trees → n.trees ≡ m.trees → ((name : List ℕ) (x : Tree) → get m.trees name ≡ Some x → cuts_of n.classes x.branches x.pending ≡ cuts_of m.classes x.branches x.pending)
      → ((name : List ℕ) → HoldStill (record_at (keyed_records links)) (record_at (keyed_records after)) (places_put (put_in s.trees name)))
      → HoldsPutRows s m links → HoldsPutRows t n after
  rows_stay kept trees cuts still rows name x there =
      let own : get m.trees name ≡ Some x = ap (λ ts. get ts name) (sym trees) ∙ there in
      tree_rows_stay name x x (rows name x own) (ap (λ (ts : List FilledTree). put_in ts name) kept) (cuts name x own) (still name)
