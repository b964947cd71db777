-- Records that nothing refers to are released, one after the other.
use Rattle.std.proofs.Common.{◌≡◌, ◌≢◌, inl, inr, ⊎_elim, ℕ, zero, suc, ◌≤◌, ◌∙◌, List, [], ◌∷◌, length, take, false, refl, sym, ap, subst, arith}
use Rattle.std.specs.List.{Contains, sum_by}
use Rattle.rio_key.specs.Written.{written_key}
use Rattle.rio_chain.specs.{Changes.{without_record}, Segments.{IsChain, Link}}
use Rattle.rio_state.specs.Closing.{KeptRecords}
use Rattle.rio_state.specs.KeyedRecords.{KeyedRecord, keyed_records}
use Rattle.rio_state.specs.{OneLess.{HasRecord, IsSameWithout, NeedsNoMore, links_without}, OneMore.{HasOneMoreIn}, Referred.{is_referred}, TreeLengths.{PendingRows}}
use Rattle.rio_state.proofs.{KeysFollow.{in_before}, LessNeeds.{needs_no_more}, LessRecords.{record_less}, Members.{In, contains_in, in_contained}}
use Rattle.rio_state.proofs.{Places.{AreDistinct, once_distinct}, Unreferred.{garbage_goes, others_are_referred}}
use Rattle.rio_effect.specs.Changes.{all_changed}
use Rattle.rio_effect.specs.Garbage.{ArePassed, GarbageIsReleased, IsGarbageAt, IsGarbageReleased, ReleasesKeepAll, StandsAlike, StandsForSame, releases}
use Rattle.rio_effect.proofs.AllItems.{items_stay_without}

-- ---- one record

module _ (file : List ℕ) (links : List Link) (chain : IsChain links file) (r : KeyedRecord) (among : Contains (keyed_records links) r) (free : is_referred (keyed_records links) r ≡ false) where
  abbrev old : List KeyedRecord
  old = keyed_records links

  abbrev new : List KeyedRecord
  new = keyed_records (links_without links r)

  has : HasRecord file links r
  has = record { chain = chain; among = among }

  less : HasOneMoreIn new old r
  less = record_less file links r has

  goes : IsSameWithout links r
  goes = garbage_goes file links r has free

  need_falls : (pending : PendingRows) → NeedsNoMore pending links (links_without links r)
  need_falls pending =
      let same = goes.kept pending in
      needs_no_more pending r.head.seek links (record {
        name = ap (λ (k : KeptRecords). k.name) same;
        heads = omega (arith, ap (λ (k : KeptRecords). sum_by (λ h. length (written_key h)) k.heads) same);
        count = omega (arith, ap (λ (k : KeptRecords). k.count) same);
        trees = ap (λ (k : KeptRecords). k.trees) same;
      })

  others_stay : (other : ℕ) → other ≢ r.head.seek → IsGarbageAt links other → IsGarbageAt (links_without links r) other
  others_stay other apart g = record {
    r = g.r;
    among = contains_in g.r new (⊎_elim (λ same. absurd (apart (sym g.seek ∙ ap (λ (k : KeyedRecord). k.head.seek) (sym same)))) (λ i. i) (in_before new old r less g.r (in_contained g.r old g.among)));
    seek = g.seek;
    free = others_are_referred file links r g.r has free ∙ g.free;
  }

  pub one_released : IsGarbageReleased links r.head.seek
  one_released = record {
    same = record {
      alike = record { records = goes.records; keys = goes.keys; info = goes.info; name = goes.name; kept = goes.kept; items = items_stay_without file links r has };
      need = need_falls;
    };
    others = others_stay;
  }

pub garbage_is_released : GarbageIsReleased
garbage_is_released file links place chain g = subst (λ (p : ℕ). IsGarbageReleased links p) g.seek (one_released file links chain g.r g.among g.free)

-- ---- several

pub same_links : (links : List Link) → StandsAlike links links
same_links links = record { records = λ m is. is; keys = λ heads are. are; info = refl; name = refl; kept = λ pending. refl; items = λ items. items }

pub alike_after : (before between after : List Link) → StandsAlike before between → StandsAlike between after → StandsAlike before after
alike_after before between after a b = record {
  records = λ m is. b.records m (a.records m is);
  keys = λ heads are. b.keys heads (a.keys heads are);
  info = b.info ∙ a.info;
  name = b.name ∙ a.name;
  kept = λ pending. b.kept pending ∙ a.kept pending;
  items = λ items. b.items (a.items items);
}

no_change : (links : List Link) → StandsForSame links links
no_change links = record { alike = same_links links; need = λ pending. record { need = omega arith; end = omega arith; held = omega arith } }

same_after : (before between after : List Link) → StandsForSame before between → StandsForSame between after → StandsForSame before after
same_after before between after a b = record {
  alike = alike_after before between after a.alike b.alike;
  need = λ pending.
      let one = a.need pending in
      let two = b.need pending in
      record { need = omega (arith, one.need, two.need); end = omega (arith, one.end, two.end); held = omega (arith, one.held, two.held) };
}

keep_all : (links : List Link) (places : List ℕ) (k : ℕ) → ((p : ℕ) → In p places → IsGarbageAt links p) → AreDistinct places → k ≤ length places → ArePassed links (releases places) k
    → StandsForSame links (all_changed links (take k (releases places)))
keep_all links [] zero each apart within passed = no_change links
keep_all links [] (suc k) each apart within passed = absurd (omega (arith, within))
keep_all links (p ∷ ps) zero each apart within passed = no_change links
keep_all links (p ∷ ps) (suc k) each apart within passed =
    let now = passed 0 (omega arith) in
    let one = garbage_is_released now.0 links p now.1 (each p (inl refl)) in
    let rest = keep_all (without_record p links) ps k (λ q i. one.others q (λ same. apart.0 (subst (λ (x : ℕ). In x ps) same i)) (each q (inr i))) apart.1 (omega (arith, within))
    (λ j low. passed (suc j) (omega (arith, low))) in
    same_after links (without_record p links) (all_changed (without_record p links) (take k (releases ps))) one.same rest

pub releases_keep_all : ReleasesKeepAll
releases_keep_all links places k are within passed =
    keep_all links places k (λ p i. are.each p (contains_in p places i)) (once_distinct [] places are.once) within passed
