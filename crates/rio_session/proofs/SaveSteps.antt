-- A save is the step of its command.
use Rattle.std.proofs.Common.{◌≡◌, ◌∙◌, ℕ, ◌+◌, ◌*◌, List, length, sum, Bool, true, false, Option, Some, None, refl, sym, ap, subst}
use Rattle.std.proofs.lemmas.List.{length-append}
use Rattle.std.specs.{Prelude.{if◌then◌else◌, is_some, unwrap_or}, List.{find}, Option.{option_map_or}}
use Rattle.rio_key.specs.declared.head.KeyHead.{KeyHead}
use Rattle.rio_dir.specs.Table.{head_of}
use Rattle.rio_chain.specs.{Placing.{file_end, place_of, with_segment}, Releasing.{without_segment}}
use Rattle.rio_machine.specs.{State.{State, Tree}, declared.command.Command.TheVariants.{Save}, declared.refusal.Refusal.{Refusal}}
use Rattle.rio_state.specs.{Closing.{is_full}, KeyedRecords.{is_tree_key}}
use Rattle.rio_tree.specs.{HeaderLength.{header_size}, declared.head.TreeHead.{TreeHead}}
use Rattle.rio_fill.specs.Fill.{all_saved, defs_of, entry_count}
use Rattle.rio_step.specs.{Costs.{accepted_cost, cost_of, save_cost}, Refusing.{FullMark, refusal_of, rows_of_tree}, ReplyText.{text_of}, Step.{no_tree, reply_to, rows_saved, save_reply, state_behind}}
use Rattle.rio_effect.specs.TreeRecords.{header_key, header_record}
use Rattle.rio_recover.specs.Closable.{list_count}
use Rattle.rio_session.specs.{Effects.{IsChangeOf}, Fillings.{BasketsPut, Done, branches_become, nothing_done, open_list, put_open, saving, saving_tree, saving_with}, Fills.{FilledTree, header_of, is_tree_of}}
use Rattle.rio_session.specs.{Items.{IsOfKeys}, Kept.{kept_by}, Marks.{command_lengths, mark_of_command, state_need}, SessionState.{SessionState}, TreeWorks.{doing}}
use Rattle.rio_session.proofs.{BasketsPlaced.{defs_put, puts_are}, SaveStands.{cycle_is, named, save_stands}}

-- ---- the key of a header

key_named : (place datime : ℕ) (name : List ℕ) (cycle : ℕ) (head : TreeHead) → (header_key place datime name cycle head).name ≡ name
unfolding header_key
key_named place datime name cycle head = refl

key_numbered : (place datime : ℕ) (name : List ℕ) (cycle : ℕ) (head : TreeHead) → (header_key place datime name cycle head).cycle ≡ cycle
unfolding header_key
key_numbered place datime name cycle head = refl

key_of_class : (place datime : ℕ) (name : List ℕ) (cycle : ℕ) (head : TreeHead) → is_tree_key (header_key place datime name cycle head) ≡ true
unfolding header_key
key_of_class place datime name cycle head = refl

-- ---- by what is kept

module _ (s : SessionState) (m : State) (k : KeyHead) (keys : IsOfKeys s m) (t : FilledTree) (found : find (is_tree_of k.name) s.trees ≡ Some t) (first : head_of k.name None s.heads ≡ Some k) where
  abbrev own : Tree
  own = (named s m k keys t found first).tree

  pub saving_one : saving s k.name ≡ saving_with s k.name t.fill k
  saving_one = ap (λ (o : Option FilledTree). option_map_or (saving_tree s k.name) o (nothing_done s)) found ∙ ap (λ (o : Option KeyHead). option_map_or (saving_with s k.name t.fill) o (nothing_done s)) first

  abbrev put : BasketsPut
  put = put_open s.datime k.name (entry_count t.fill) s.segments t.fill.branches (open_list t.fill.branches)

  pub save_stands_by : IsOfKeys (kept_by s m (Save k.name)) (state_behind m (Save k.name))
  save_stands_by =
      let head = header_of (all_saved (branches_become put.branches t.fill)) in
      let n = length (header_record 0 s.datime k.name (k.cycle + 1) head) in
      let place = place_of put.segments n in
      let defs = defs_put (entry_count t.fill) t.fill.branches (open_list t.fill.branches) put.branches (puts_are s.datime k.name (entry_count t.fill) s.segments t.fill.branches (open_list t.fill.branches)) in
      subst (λ (d : Done). IsOfKeys d.kept (state_behind m (Save k.name))) (sym saving_one)
      (save_stands s m k keys t found first put.branches defs (header_key place s.datime k.name (k.cycle + 1) head) (key_named place s.datime k.name (k.cycle + 1) head)
      (key_numbered place s.datime k.name (k.cycle + 1) head) (key_of_class place s.datime k.name (k.cycle + 1) head) (without_segment k.seek (with_segment place n put.segments)))

  pub rows_are : t.fill.saved + t.fill.pending ≡ length (rows_of_tree (named s m k keys t found first).tree)
  rows_are =
      let kept = (named s m k keys t found first).kept in
      (λ i. (sym kept i).saved + (sym kept i).pending) ∙ sym (length-append own.saved own.pending)

  -- what is printed
  reply_is : reply_to m (Save k.name) ≡ rows_saved k.name (k.cycle + 1) (t.fill.saved + t.fill.pending)
  reply_is =
      let cycle = cycle_is s m k keys t found first in
      let rows = sym rows_are in
      ap (λ (o : Option Tree). save_reply k.name (unwrap_or o no_tree)) (named s m k keys t found first).there
      ∙ (λ i. rows_saved k.name (cycle i + 1) (rows i))

  -- what it costs
  pub cost_is : refusal_of m (Save k.name) None ≡ None → 240 + header_size k.name (defs_of t.fill.branches) + 20 * length (defs_of t.fill.branches) * (t.fill.saved + t.fill.pending) ≡ cost_of m (Save k.name)
  unfolding cost_of
  cost_is free =
      let kept = (named s m k keys t found first).kept in
      let rows = rows_are in
      (λ i. 240 + header_size k.name (sym kept i).branches + 20 * length (sym kept i).branches * rows i)
      ∙ sym (ap (λ (o : Option Refusal). if is_some o then 0 else accepted_cost m (Save k.name)) free ∙ ap (λ (o : Option Tree). option_map_or (save_cost k.name) o 0) (named s m k keys t found first).there)

  abbrev mark_from : Bool → Option FullMark
  mark_from b = if b then Some (record { end = file_end s.segments; wanted = sum (saving s k.name).lengths }) else None

  unmarked : is_full s.segments (saving s k.name).lengths (state_need s.name (list_count s.info) (saving s k.name).kept.trees (state_behind m (Save k.name))) ≡ false → mark_of_command s m (Save k.name) ≡ None
  unfolding mark_of_command command_lengths
  unmarked room = ap mark_from room

  pub save_is_change : (text : List ℕ) (cost : ℕ) → refusal_of m (Save k.name) None ≡ None
      → is_full s.segments (saving s k.name).lengths (state_need s.name (list_count s.info) (saving s k.name).kept.trees (state_behind m (Save k.name))) ≡ false
      → text ≡ text_of (rows_saved k.name (k.cycle + 1) (t.fill.saved + t.fill.pending)) → cost ≡ 240 + header_size k.name (defs_of t.fill.branches) + 20 * length (defs_of t.fill.branches) * (t.fill.saved + t.fill.pending)
      → IsChangeOf (doing (saving s k.name) text cost) s m (Save k.name)
  save_is_change text cost free room text_is cost_of_rows = record {
    free = ap (refusal_of m (Save k.name)) (unmarked room) ∙ free;
    changes = refl;
    kept = refl;
    text = text_is ∙ ap text_of (sym reply_is);
    cost = cost_of_rows ∙ cost_is free;
    stands = save_stands_by;
  }
