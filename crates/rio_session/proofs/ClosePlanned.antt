-- The records of a close behind the saves that are planned.
use Rattle.std.proofs.Common.{◌≡◌, ◌∙◌, ℕ, ◌+◌, ◌<◌, ◌≤◌, ◌^◌, ◌&&◌, Bool, true, List, [], ◌∷◌, length, map, Bor, Option, refl, sym, ap, subst, arith}
use Rattle.std.specs.{Prelude.{IfSome}, List.{All, list_all}, Option.{option_copied}}
use Rattle.rio_key.specs.{Written.{FitsKey}, declared.head.KeyHead.{KeyHead}}
use Rattle.rio_dir.specs.Table.{heads_size}
use Rattle.rio_chain.specs.{Adjoining.{AreSegments}, Placing.{file_end, record_count}, declared.segment.Segment.{Segment}}
use Rattle.rio_state.specs.Sizes.{close_size}
use Rattle.rio_close.specs.{Written.{AreCloseRecords, OpenFile}, declared.parts.CloseRecords.{CloseRecords}}
use Rattle.rio_recover.specs.{Closable.{is_fit_key}, Whole.{HoldsDirectory}}
use Rattle.rio_session.specs.{Closes.{open_file}, ClosingPlans.{ArePlannedSaves, CanBeWritten, CanPlanClose, IsPlannedClose, has_cycle}, Due.{IsClosableWith}, Fillings.{closing}, Fills.{AreNamesOrdered, FilledTree, bare_tree, places_of_trees}}
use Rattle.rio_session.specs.{SessionState.{SessionState}, declared.steps.Step.{Step}}
use Rattle.rio_session.proofs.{CloseRoom.{fits_all, list_low, need_low}, CloseStates.{same_file}, ClosedTrees.{closing_keeps}, TreesChanged.{ordered_bare}}

-- cycles hang on no room
cycles_bare : (heads : List KeyHead) (trees : List FilledTree) → list_all (has_cycle heads) (map bare_tree trees) ≡ list_all (has_cycle heads) trees
cycles_bare heads [] = refl
cycles_bare heads (t ∷ ts) = ap (λ (b : Bool). has_cycle heads t && b) (cycles_bare heads ts)

module _ (s : SessionState) (segments : List Segment) (heads : List KeyHead) (trees : List FilledTree) (info : Option KeyHead) (name : List ℕ) (nbytes_name datime : ℕ) (can : CanPlanClose s segments heads trees info name nbytes_name datime) where
  -- the place of the class list fits its word
  pub info_low : (own : Option (Bor KeyHead)) → option_copied own ≡ info → AreSegments segments → IfSome own (λ h. h.now.seek < 2 ^ 32)
  info_low own is form =
      list_low s.segments s.heads s.info (places_of_trees s.trees) s.name own (subst AreSegments (sym can.saves.segments_are) form) can.saves.closable.closable (is ∙ sym can.info_is)

  pub name_short : length name ≤ 65497
  name_short = omega (arith, can.saves.closable.closable.short, ap length can.name_is)

  module _ (segments_then : List Segment) (heads_then : List KeyHead) (steps : List Step) (planned : ArePlannedSaves s segments_then heads_then steps) where
    abbrev kept : SessionState
    kept = (closing s).kept

    -- the keys can be written, and there is room
    pub keys_fit : All FitsKey heads_then
    keys_fit = fits_all heads_then (ap (list_all is_fit_key) planned.heads_are ∙ planned.closable.closable.fit)

    pub room_left : file_end segments_then + close_size name (heads_size heads_then) (record_count segments_then) ≤ 1999999996
    room_left =
        subst (λ (hs : List KeyHead). file_end segments_then + close_size name (heads_size hs) (record_count segments_then) ≤ 1999999996) (sym planned.heads_are)
        (need_low kept.segments segments_then kept.heads kept.info (places_of_trees kept.trees) kept.name name planned.closable.closable planned.segments_are (sym can.name_is ∙ sym (closing_keeps s).name_is))

    pub close_planned : datime < 2 ^ 32 → list_all (has_cycle heads) trees ≡ true → (records : CloseRecords)
        → AreCloseRecords (record { segments = segments_then; heads = heads_then; info = info; name = name; nbytes_name = nbytes_name; datime = datime }) records → IsPlannedClose s steps records
    close_planned soon cycles records made =
        let keeps = closing_keeps s in
        let f : OpenFile = record { segments = segments_then; heads = heads_then; info = info; name = name; nbytes_name = nbytes_name; datime = datime } in
        let same : f ≡ open_file kept =
        same_file f (open_file kept) planned.segments_are planned.heads_are (sym can.info_is ∙ sym keeps.info_is) (sym can.name_is ∙ sym keeps.name_is) (sym can.nbytes_is ∙ sym keeps.nbytes_is)
        (sym can.saves.datime_is ∙ sym keeps.datime_is) in
        record {
          cycles = (λ i. list_all (has_cycle (can.saves.heads_are i)) (can.saves.trees_are i)) ∙ cycles_bare heads trees ∙ cycles;
          soon = omega (arith, soon, can.saves.datime_is);
          before = can.saves.closable;
          steps_are = planned.steps_are;
          made = subst (λ (g : OpenFile). AreCloseRecords g records) same made;
          none_left = planned.none_left;
          closable = planned.closable;
        }

-- ---- a session's parts

-- what a session keeps, told by its parts
module _ (s x : SessionState) (is : x ≡ s) where
  pub can_close : (filled trees : List FilledTree) → x.trees ≡ map bare_tree filled → trees ≡ filled → AreNamesOrdered filled → (info : Option KeyHead) → info ≡ x.info → (name : List ℕ) → name ≡ x.name
      → IsClosableWith x.segments x.heads x.trees x.info x.name → CanPlanClose s x.segments x.heads trees info name x.nbytes_name x.datime
  can_close filled trees parts all ordered info info_is name name_is kept =
      let bared : s.trees ≡ map bare_tree filled = ap (λ (y : SessionState). y.trees) (sym is) ∙ parts in
      record {
        saves = record {
          segments_are = ap (λ (y : SessionState). y.segments) (sym is);
          heads_are = ap (λ (y : SessionState). y.heads) (sym is);
          trees_are = bared ∙ ap (map bare_tree) (sym all);
          datime_is = ap (λ (y : SessionState). y.datime) (sym is);
          ordered = subst AreNamesOrdered (sym bared) (ordered_bare filled ordered);
          closable = subst (λ (y : SessionState). IsClosableWith y.segments y.heads y.trees y.info y.name) is kept;
        };
        info_is = ap (λ (y : SessionState). y.info) (sym is) ∙ sym info_is;
        name_is = ap (λ (y : SessionState). y.name) (sym is) ∙ sym name_is;
        nbytes_is = ap (λ (y : SessionState). y.nbytes_name) (sym is);
      }

  pub can_write : (segments : List Segment) (steps : List Step) (records : CloseRecords) → segments ≡ x.segments → AreSegments x.segments → IsPlannedClose s steps records → HoldsDirectory x.nbytes_name x.segments → CanBeWritten s segments steps records
  can_write segments steps records same form planned directory = record {
    same = ap (λ (y : SessionState). y.segments) (sym is) ∙ sym same;
    form = subst (λ (y : SessionState). AreSegments y.segments) is form;
    planned = planned;
    directory = subst (λ (y : SessionState). HoldsDirectory y.nbytes_name y.segments) is directory;
  }
