-- What a scan prints, by what is read of the tree.
use Rattle.std.proofs.Common.{◌≡◌, inl, inr, ℕ, zero, suc, true, false, List, [], ◌∷◌, length, map, slice_get, Option, Some, None, Result, Ok, Err, IfOk, refl, sym, ap, subst, ◌∙◌}
use Rattle.std.proofs.lemmas.Option.{same_Some}
use Rattle.std.specs.{Prelude.{IsErrOf, IsSome, is_some}, List.{find, list_all, list_any}, Option.{option_map}}
use Rattle.rio_num.specs.{Answers.{GivesUnless}, Room.{Room}}
use Rattle.rio_host.specs.{Host.{IsLawful, View}, OnlyReads.{OnlyReads}}
use Rattle.rio_chain.specs.{Segments.{Link}, declared.segment.Segment.{Segment}}
use Rattle.rio_fill.specs.{Fill.{BranchFill, TreeFill, entry_count}, Room.{without_room}}
use Rattle.rio_leaf.specs.declared.branch.BranchDef.{BranchDef}
use Rattle.rio_machine.specs.{RowEntries.{row_in}, State.{Row}, declared.command.Outcome.{Outcome, TheVariants.{Accepted}}}
use Rattle.rio_model.specs.{Mapping.{Mapped}, declared.map_fault.MapFault.{MapFault, TheVariants.{KindChanged, NoVersion, NoMemory as OutOfMemory}}}
use Rattle.rio_reply.specs.Scanned.{scan_start}
use Rattle.rio_recover.specs.Closable.{begins_at}
use Rattle.rio_state.proofs.{Members.{In, all_at, in_map}, TreesSame.{in_flat_map}}
use Rattle.rio_tree.specs.{SavedEntries.{entries_at}, declared.basket_at.BasketAt.{BasketAt}}
use Rattle.rio_format.specs.{declared.class.Base.{Base}, declared.class.ClassDef.{ClassDef}}
use Rattle.rio_session.specs.{Causes.{IsSaid}, Fills.{FilledTree, bare, bare_tree, is_tree_of, places_of_fill, places_of_trees}, HeldBaskets.{IsTreeStored}, Gets.{PrintsTold}, Replying.{Replies, printed_of}, Says.{SaysReply}, ScanReplies.{TellsRows}, Scans.{AllPairs, AreEntriesOf, AreRowsOf, Scans, lines_behind}}
use Rattle.rio_session.specs.{SessionState.{SessionState}, declared.fault.SessionFault.{SessionFault, TheVariants.{HostFault, SayFault, NoMemory}}}
use Rattle.rio_session.proofs.{Bare.{all_places, bare_found, defs_bare}, FilledTrees.{found_among, found_name}, OtherSteps.{begins_record}, OnlyReplies.{reads_then_says}}

-- ---- without the rooms

entries_bare : (links : List Link) (count : ℕ) (b : BranchFill) (entries : List (List ℕ)) → AreEntriesOf links count (without_room b) entries → AreEntriesOf links count b entries
entries_bare links count b entries are = record { baskets = are.baskets; hold = are.hold; firsts = are.firsts; all = are.all; many = are.many; short = are.short }

pairs_bare : (links : List Link) (count : ℕ) (bs : List BranchFill) (entries : List (List (List ℕ))) → AllPairs (AreEntriesOf links count) (map without_room bs) entries → AllPairs (AreEntriesOf links count) bs entries
pairs_bare links count [] [] are = tt
pairs_bare links count [] (es ∷ entries) are = absurd are
pairs_bare links count (b ∷ bs) [] are = absurd are
pairs_bare links count (b ∷ bs) (es ∷ entries) are = (entries_bare links count b es are.0, pairs_bare links count bs entries are.1)

rows_bare : (classes : List ClassDef) (links : List Link) (t : TreeFill) (rows : List Row) → AreRowsOf classes links (bare t) rows → AreRowsOf classes links t rows
rows_bare classes links t rows are = record {
  entries = are.entries;
  each = pairs_bare links (entry_count t) t.branches are.entries are.each;
  count = are.count;
  read = λ e row is. ap (λ (defs : List BranchDef). row_in classes defs (entries_at are.entries e)) (sym (defs_bare t.branches)) ∙ are.read e row is;
}

pub scans_bare : {X : Type 0} (v : View) (segments : List Segment) (classes : List ClassDef) (class : Option Base) (t : TreeFill) (before : List ℕ) (view : X → List ℕ) (answer : Result X MapFault)
    → Scans v segments classes class t before view answer → Scans v segments classes class (bare t) before view answer
scans_bare v segments classes class t before view answer is = record {
  rows = is.rows;
  count = is.count;
  told = λ file holds links all chain are. is.told file holds links all chain (rows_bare classes links t all are);
  lines = is.lines;
}

-- what is read of the tree of a name, of the trees without rooms
pub scans_named : {X F : Type 0} (v : View) (segments : List Segment) (classes : List ClassDef) (class : Option Base) (name : List ℕ) (trees : List FilledTree) (u : FilledTree) (view : X → List ℕ) (answer : Result (Result X MapFault) F)
    → Some u ≡ find (is_tree_of name) trees → IfOk answer (λ told. Scans v segments classes class u.fill (scan_start u.name (entry_count u.fill)) view told)
    → IfOk answer (λ told. (t : FilledTree) → find (is_tree_of name) (map bare_tree trees) ≡ Some t → Scans v segments classes class t.fill (scan_start name (entry_count t.fill)) view told)
scans_named v segments classes class name trees u view (Err fault) found scans = tt
scans_named v segments classes class name trees u view (Ok told) found scans = λ t there.
    let same : bare_tree u ≡ t = same_Some (bare_tree u) t (ap (option_map bare_tree) found ∙ sym (bare_found name trees) ∙ there) in
    let named : u.name ≡ name = found_name name u trees (sym found) in
    subst (λ (x : FilledTree). Scans v segments classes class x.fill (scan_start name (entry_count x.fill)) view told) same
    (scans_bare v segments classes class u.fill (scan_start name (entry_count u.fill)) view told
    (subst (λ (n : List ℕ). Scans v segments classes class u.fill (scan_start n (entry_count u.fill)) view told) named scans))

-- the tree of the name is there, if it is there without rooms
pub not_missing : (name : List ℕ) (trees : List FilledTree) → None ≡ find (is_tree_of name) trees → IsSome (find (is_tree_of name) (map bare_tree trees)) → ⊥
not_missing name trees none some =
    let never : false ≡ true = sym (ap is_some (bare_found name trees ∙ ap (option_map bare_tree) (sym none))) ∙ some in absurd cc

-- ---- where the baskets stand

in_slice : {A : Type 0} (xs : List A) (k : ℕ) (x : A) → slice_get xs k ≡ Some x → In x xs
in_slice [] k x is = absurd cc
in_slice (y ∷ ys) zero x is = inl (same_Some y x is)
in_slice (y ∷ ys) (suc k) x is = inr (in_slice ys k x is)

-- a record begins where each basket of a tree stands that is kept
pub tree_stored : (segments : List Segment) (trees : List FilledTree) (name : List ℕ) (t : FilledTree) → list_all (λ p. list_any (begins_at p) segments) (places_of_trees (map bare_tree trees)) ≡ true → Some t ≡ find (is_tree_of name) trees
    → IsTreeStored segments t.fill
tree_stored segments trees name t all found = λ k b is j a stands.
    let own = in_map (λ (x : BasketAt). x.seek) a b.baskets (in_slice b.baskets j a stands) in
    let branch = in_flat_map (λ (c : BranchFill). map (λ (x : BasketAt). x.seek) c.baskets) a.seek b t.fill.branches (in_slice t.fill.branches k b is) own in
    let place = in_flat_map (λ (u : FilledTree). places_of_fill u.fill) a.seek t trees (found_among name t trees (sym found)) branch in
    let kept = subst (λ (ps : List ℕ). list_all (λ p. list_any (begins_at p) segments) ps ≡ true) (all_places trees) all in
    begins_record a.seek segments (all_at (λ p. list_any (begins_at p) segments) a.seek (places_of_trees trees) kept place)

-- ---- what is printed

not_said : {X : Type 0} (answer : Result X SessionFault) → IsErrOf answer NoMemory → IsSaid answer → ⊥
not_said (Ok x) is spoken = absurd cc
not_said (Err HostFault) is spoken = spoken
not_said (Err SayFault) is spoken = absurd cc
not_said (Err NoMemory) is spoken = spoken

-- all rows are printed, unless one can't be had
all_printed : (n count : ℕ) (lines : Mapped (List ℕ)) (told : Result Room MapFault) → (told ≡ Err OutOfMemory → ⊥) → IfOk told (λ text. n ≡ count) → GivesUnless OutOfMemory (λ text. text.bytes) told lines → IfOk lines (λ text. n ≡ count)
all_printed n count lines (Ok text) had all is = subst (λ (m : Mapped (List ℕ)). IfOk m (λ t. n ≡ count)) (sym is) all
all_printed n count lines (Err (KindChanged member)) had all is = subst (λ (m : Mapped (List ℕ)). IfOk m (λ t. n ≡ count)) (sym (is (λ e. cc))) tt
all_printed n count lines (Err NoVersion) had all is = subst (λ (m : Mapped (List ℕ)). IfOk m (λ t. n ≡ count)) (sym (is (λ e. cc))) tt
all_printed n count lines (Err OutOfMemory) had all is = absurd (had refl)

module _ (replies : Replies) (name : List ℕ) (class : Option Base) (t : FilledTree) (old : View) (s after : SessionState) where
  -- what was read is printed
  pub tells_scan : (mid new : View) (answer : Result Outcome SessionFault) (told : Result Room MapFault) → IsLawful mid → OnlyReads old mid → mid.disk_faults ≡ old.disk_faults
      → Scans old s.segments s.classes class t.fill (scan_start name (entry_count t.fill)) (λ text. text.bytes) told
      → ((meant : Mapped (List ℕ)) → GivesUnless OutOfMemory (λ text. text.bytes) told meant → PrintsTold replies meant mid new s after answer) → (told ≡ Err OutOfMemory → IsErrOf answer NoMemory) → TellsRows replies name class t old new s after answer
  tells_scan mid new answer told law calls disk scans prints lacks =
      let lines = lines_behind s.classes class 0 (scan_start name (entry_count t.fill)) scans.rows in
      let p = prints lines scans.lines in
      record {
        rows = scans.rows;
        count = λ spoken. all_printed (length scans.rows) (entry_count t.fill) lines told (λ none. not_said answer (lacks none) spoken) scans.count scans.lines;
        told = scans.told;
        prints = record {
          text = p.text;
          outcome = p.outcome;
          reply = p.reply;
          says = reads_then_says (printed_of replies p.text) old mid new law calls disk 0 s after answer p.says;
          outcome_is = p.outcome_is;
        };
      }

  -- nothing was printed
  pub tells_nothing : (new : View) (fault : SessionFault) → (IsSaid {X = Outcome} (Err fault) → ⊥) → SaysReply {X = Outcome} (printed_of replies []) 0 old new s after (Err fault) → TellsRows replies name class t old new s after (Err fault)
  tells_nothing new fault silent says = record {
    rows = [];
    count = λ spoken. absurd (silent spoken);
    told = λ file holds links all chain are. refl;
    prints = record { text = []; outcome = Accepted; reply = λ spoken. absurd (silent spoken); says = says; outcome_is = tt };
  }
