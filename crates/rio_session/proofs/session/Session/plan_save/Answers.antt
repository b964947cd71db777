use Rattle.std.proofs.{Common.{◌≡◌, ◌∙◌, ◌+◌, ◌-◌, ◌<◌, ◌≤◌, ◌^◌, ℕ, List, Some, None, length, map, refl, sym, ap, subst, codes, arith}, lemmas.Result.{err_from_is_err_and}}
use Rattle.std.specs.List.{find}
use Rattle.rio_key.specs.Written.{written_key}
use Rattle.rio_chain.specs.{Adjoining.{AreSegments}, Placing.{end_after, places_of, record_count, space_of}, Plans.{IsFull}}
use Rattle.rio_dir.specs.Table.{heads_size}
use Rattle.rio_machine.specs.Limits.{head_length}
use Rattle.rio_state.specs.Sizes.{close_size}
use Rattle.rio_session.specs.{Due.{IsClosableWith, due_of}, Fills.{FilledTree, is_tree_of}, RowPlans.{due_changed}, Session.{SessionState}, declared.open_tree.Due.{Due}}
use Rattle.rio_session.proofs.{CostOfSave.{never_none}, FilledTrees.{found_name}, Needs.{kept_bounds}, PlanSave.{save_can_be_planned, save_is_planned, save_lacks_room, sound_rooms}, RowPlanned.{own_baskets, own_bytes}}
use Rattle.rio_session.proofs.session.Session.plan_save.Goals as goal

pub unreachable-requires : goal.unreachable-requires
unreachable-requires c =
    let k = c.args.before.now in
    let trees = c.self.inside.filled.trees in
    never_none c.args.self.now _ c.self.view_is trees refl k.name c.requires.can.1 (ap (λ (n : List ℕ). find (is_tree_of n) trees) (sym c.as_slice.ensures) ∙ sym c.in_default.ensures)

pub due_with-due-requires-clause-bytes : goal.due_with-due-requires-clause-bytes
due_with-due-requires-clause-bytes c =
    let s = c.args.self.now in
    let k = c.args.before.now in
    let v = c.self.view_is in
    let trees = c.self.inside.filled.trees in
    let same = ap (λ (x : SessionState). x.trees) (sym v) in
    let u : FilledTree = c.in-Some.tree.now in
    let here : find (is_tree_of k.name) trees ≡ Some u = ap (λ (n : List ℕ). find (is_tree_of n) trees) (sym c.as_slice.ensures) ∙ sym c.in-Some.ensures in
    omega (arith, own_bytes s trees same k.name u here, ap (λ (d : Due). d.bytes) c.due.ensures.exact)

pub due_with-due-requires-clause-baskets : goal.due_with-due-requires-clause-baskets
due_with-due-requires-clause-baskets c =
    let s = c.args.self.now in
    let k = c.args.before.now in
    let v = c.self.view_is in
    let trees = c.self.inside.filled.trees in
    let same = ap (λ (x : SessionState). x.trees) (sym v) in
    let u : FilledTree = c.in-Some.tree.now in
    let here : find (is_tree_of k.name) trees ≡ Some u = ap (λ (n : List ℕ). find (is_tree_of n) trees) (sym c.as_slice.ensures) ∙ sym c.in-Some.ensures in
    omega (arith, own_baskets s trees same k.name u here, ap (λ (d : Due). d.baskets) c.due.ensures.exact)

pub need_behind_save-need-requires-clause-name : goal.need_behind_save-need-requires-clause-name
need_behind_save-need-requires-clause-name c =
    let s = c.args.self.now in
    let k = c.args.before.now in
    let v = c.self.view_is in
    let trees = c.self.inside.filled.trees in
    let same = ap (λ (x : SessionState). x.trees) (sym v) in
    let u : FilledTree = c.in-Some.tree.now in
    let here : find (is_tree_of k.name) trees ≡ Some u = ap (λ (n : List ℕ). find (is_tree_of n) trees) (sym c.as_slice.ensures) ∙ sym c.in-Some.ensures in
    omega (arith, ap length (found_name k.name u trees here), c.stays_bounded.ensures.named)

pub need_behind_save-need-requires-clause-low : goal.need_behind_save-need-requires-clause-low
need_behind_save-need-requires-clause-low c =
    let v = c.self.view_is in
    let fresh = ap (λ (x : SessionState). x.failed) v ∙ c.requires.fresh in
    let b = kept_bounds _ _ _ _ _ (c.self.invariant.kept fresh) in
    let bytes = ap (λ (x : SessionState). (due_of x.trees).bytes) v in
    let baskets = ap (λ (x : SessionState). (due_of x.trees).baskets) v in (
      omega (arith, b.due, bytes, ap (λ (d : Due). d.bytes) c.due_with-due.ensures),
      omega (arith, b.count, baskets, ap (λ (d : Due). d.baskets) c.due_with-due.ensures),
      omega (arith, c.len.ensures, c.in_ok-lengths.ensures.few.1),
    )

pub make_save-requires : goal.make_save-requires
make_save-requires c =
    let s = c.args.self.now in
    let k = c.args.before.now in
    let v = c.self.view_is in
    let trees = c.self.inside.filled.trees in
    let same = ap (λ (x : SessionState). x.trees) (sym v) in
    let u : FilledTree = c.in-Some.tree.now in
    let here : find (is_tree_of k.name) trees ≡ Some u = ap (λ (n : List ℕ). find (is_tree_of n) trees) (sym c.as_slice.ensures) ∙ sym c.in-Some.ensures in
    let fresh = ap (λ (x : SessionState). x.failed) v ∙ c.requires.fresh in
    let kept = subst (λ (x : SessionState). IsClosableWith x.segments x.heads x.trees x.info x.name) v (c.self.invariant.kept fresh) in
    let form : AreSegments s.segments = subst (λ (x : SessionState). AreSegments x.segments) v c.end-end.ensures.shape in
    let sound = sound_rooms s trees same k u here c.requires.can.0 kept form in
    let lengths = c.in_ok-lengths.lengths in
    let lengths_are = c.in_ok-lengths.ensures.exact s k sound in
    let due = c.due_with-due.ensures ∙ ap (λ (d : Due). due_changed (due_of s.trees) d (record { bytes = 0; baskets = 0 })) c.due.ensures.exact in
    let need = c.need_behind_save-need.ensures ∙ ap (λ (n : ℕ). c.due_with-due.result.bytes + close_size s.name (heads_size s.heads - length (written_key k) + head_length (codes "TTree") k.name) (record_count s.segments + (n - 1) + c.due_with-due.result.baskets)) c.len.ensures in
    let places = c.in_ok-places.ensures.places ∙ ap (λ (x : SessionState). places_of lengths (space_of x.segments)) v in
    let end = subst (λ (x : SessionState). end_after lengths (space_of x.segments) ≤ c.saturating_sub.result) v c.in_ok-places.ensures.fits in (
      s,
      ap (λ (x : SessionState). x.datime) (sym v),
      save_can_be_planned s trees same k u here c.requires.can.0 kept form lengths lengths_are c.due_with-due.result due c.need_behind_save-need.result need c.saturating_sub.result c.saturating_sub.ensures
          c.in_ok-places.places places end c.requires.can.2,
    )

pub returns-in_err-places-clause-full : goal.returns-in_err-places-clause-full
returns-in_err-places-clause-full c t found =
    let s = c.args.self.now in
    let k = c.args.before.now in
    let v = c.self.view_is in
    let trees = c.self.inside.filled.trees in
    let same = ap (λ (x : SessionState). x.trees) (sym v) in
    let u : FilledTree = c.in-Some.tree.now in
    let here : find (is_tree_of k.name) trees ≡ Some u = ap (λ (n : List ℕ). find (is_tree_of n) trees) (sym c.as_slice.ensures) ∙ sym c.in-Some.ensures in
    let fresh = ap (λ (x : SessionState). x.failed) v ∙ c.requires.fresh in
    let kept = subst (λ (x : SessionState). IsClosableWith x.segments x.heads x.trees x.info x.name) v (c.self.invariant.kept fresh) in
    let form : AreSegments s.segments = subst (λ (x : SessionState). AreSegments x.segments) v c.end-end.ensures.shape in
    let sound = sound_rooms s trees same k u here c.requires.can.0 kept form in
    let lengths = c.in_ok-lengths.lengths in
    let lengths_are = c.in_ok-lengths.ensures.exact s k sound in
    let due = c.due_with-due.ensures ∙ ap (λ (d : Due). due_changed (due_of s.trees) d (record { bytes = 0; baskets = 0 })) c.due.ensures.exact in
    let need = c.need_behind_save-need.ensures ∙ ap (λ (n : ℕ). c.due_with-due.result.bytes + close_size s.name (heads_size s.heads - length (written_key k) + head_length (codes "TTree") k.name) (record_count s.segments + (n - 1) + c.due_with-due.result.baskets)) c.len.ensures in
    let q = err_from_is_err_and c.from_residual-in_err-places.result c.from_residual-in_err-places.ensures.1 in
    let full = subst (λ (x : SessionState). IsFull x.segments lengths c.saturating_sub.result c.in_err-places.field-0.0) v c.in_err-places.ensures.full in
    rw (q.1, q.2) (save_lacks_room s trees same k u here c.requires.can.0 kept form lengths lengths_are c.due_with-due.result due c.need_behind_save-need.result need c.saturating_sub.result c.saturating_sub.ensures c.in_err-places.field-0.0 full t found)

pub returns-clause-plan : goal.returns-clause-plan
returns-clause-plan c t found =
    let s = c.args.self.now in
    let k = c.args.before.now in
    let v = c.self.view_is in
    let trees = c.self.inside.filled.trees in
    let same = ap (λ (x : SessionState). x.trees) (sym v) in
    let u : FilledTree = c.in-Some.tree.now in
    let here : find (is_tree_of k.name) trees ≡ Some u = ap (λ (n : List ℕ). find (is_tree_of n) trees) (sym c.as_slice.ensures) ∙ sym c.in-Some.ensures in
    let fresh = ap (λ (x : SessionState). x.failed) v ∙ c.requires.fresh in
    let kept = subst (λ (x : SessionState). IsClosableWith x.segments x.heads x.trees x.info x.name) v (c.self.invariant.kept fresh) in
    let form : AreSegments s.segments = subst (λ (x : SessionState). AreSegments x.segments) v c.end-end.ensures.shape in
    let sound = sound_rooms s trees same k u here c.requires.can.0 kept form in
    let lengths = c.in_ok-lengths.lengths in
    let lengths_are = c.in_ok-lengths.ensures.exact s k sound in
    let due = c.due_with-due.ensures ∙ ap (λ (d : Due). due_changed (due_of s.trees) d (record { bytes = 0; baskets = 0 })) c.due.ensures.exact in
    let need = c.need_behind_save-need.ensures ∙ ap (λ (n : ℕ). c.due_with-due.result.bytes + close_size s.name (heads_size s.heads - length (written_key k) + head_length (codes "TTree") k.name) (record_count s.segments + (n - 1) + c.due_with-due.result.baskets)) c.len.ensures in
    let places = c.in_ok-places.ensures.places ∙ ap (λ (x : SessionState). places_of lengths (space_of x.segments)) v in
    let end = subst (λ (x : SessionState). end_after lengths (space_of x.segments) ≤ c.saturating_sub.result) v c.in_ok-places.ensures.fits in
    let can = save_can_be_planned s trees same k u here c.requires.can.0 kept form lengths lengths_are c.due_with-due.result due c.need_behind_save-need.result need c.saturating_sub.result c.saturating_sub.ensures
    c.in_ok-places.places places end c.requires.can.2 in
    let made = c.in_ok-made.ensures s (ap (λ (x : SessionState). x.datime) (sym v)) can in
    save_is_planned s trees same k u here c.requires.can.0 kept form lengths lengths_are c.due_with-due.result due c.need_behind_save-need.result need c.saturating_sub.result c.saturating_sub.ensures
    c.stays_bounded.ensures.named end c.in_ok-made.made made t found
