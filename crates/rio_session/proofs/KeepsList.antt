-- What a session keeps is sound with a class list in place of the one before.
use Rattle.std.proofs.Common.{◌≡◌, ◌==◌, ◌||◌, ℕ, ◌+◌, ◌-◌, ◌%◌, ◌<◌, ◌≤◌, Bool, true, false, List, [], ◌∷◌, ◌++◌, length, Option, Some, None, refl, sym, ap, subst, ◌∙◌, arith}
use Rattle.std.proofs.lemmas.Bool.{and_from, and_parts, eq-eqb, ne_eqb, or_left, or_right}
use Rattle.std.specs.{Prelude.{IfSome, if◌then◌else◌}, List.{list_all, list_any}}
use Rattle.rio_key.specs.declared.head.KeyHead.{KeyHead}
use Rattle.rio_chain.specs.{Adjoining.{AreSegments}, Chains.{HasRecordSegment}, FewerRecords.{IsLeftWithout}, Placing.{file_end, place_of, record_count, rest_of_gap, with_segment}}
use Rattle.rio_chain.specs.{Releasing.{without_segment}, declared.record.NewRecord.{NewRecord}, declared.segment.Segment.{Segment, TheVariants.{Record, Gap}}}
use Rattle.rio_chain.proofs.{Laying.{laid_put}, Words.{whole_long}}
use Rattle.rio_state.specs.Closing.{close_need, end_limit}
use Rattle.rio_close.proofs.Fitting.{count_with}
use Rattle.rio_recover.specs.{Closable.{IsClosable, begins_at, is_owned, kept_with}, Whole.{HoldsDirectory}}
use Rattle.rio_recover.proofs.Released.{record_segment}
use Rattle.rio_session.specs.{Due.{IsClosableWith, need_with}, Kept.{released_segment}, Lists.{CanReplace}, SessionState.{SessionState, baskets_of}}
use Rattle.rio_session.proofs.{Apart.{is_among}, CloseRoom.{directory_left, directory_stays}, Keeps.{all_placed, begins_still, new_begins, stored_still}, KeepsTrees.{with_saves}, Needs.{need_least}}
use Rattle.rio_session.proofs.KeepsLess.{IsOneLess, all_owned, baskets_in, first_in, heads_in, is_later, left_without, list_in, listed_less, owned_by, owned_less, own_places, owns_counted, placed_less, seeks, stored_less}

-- ---- segments with a record more

module _ (test test' : Segment → Bool) (weaker : (x : Segment) → test x ≡ true → test' x ≡ true) (free : (p m : ℕ) → test' (Gap p m) ≡ true) where
  all_weaker : (segments : List Segment) → list_all test segments ≡ true → list_all test' segments ≡ true
  all_weaker [] all = refl
  all_weaker (x ∷ xs) all =
      let parts = and_parts (test x) (list_all test xs) all in
      and_from (test' x) (list_all test' xs) (weaker x parts.0) (all_weaker xs parts.1)

  rest_all : (p m : ℕ) (segments : List Segment) → list_all test' segments ≡ true → list_all test' (rest_of_gap p m segments) ≡ true
  rest_all p m segments all = elim (m == 0) as (λ b. list_all test' (if b then segments else Gap p m ∷ segments) ≡ true) [ true ↦ all | false ↦ and_from (test' (Gap p m)) (list_all test' segments) (free p m) all ]

  pub all_with_new : (place n : ℕ) → test' (Record place n) ≡ true → (segments : List Segment) → list_all test segments ≡ true → list_all test' (with_segment place n segments) ≡ true
  all_with_new place n new [] all = and_from (test' (Record place n)) true new refl
  all_with_new place n new (Record p m ∷ segments) all =
      let parts = and_parts (test (Record p m)) (list_all test segments) all in
      and_from (test' (Record p m)) (list_all test' (with_segment place n segments)) (weaker (Record p m) parts.0) (all_with_new place n new segments parts.1)
  all_with_new place n new (Gap p m ∷ segments) all =
      let parts = and_parts (test (Gap p m)) (list_all test segments) all in
      elim (p == place) as (λ b. list_all test' (if b then Record place n ∷ rest_of_gap (place + n) (m - n) segments else Gap p m ∷ with_segment place n segments) ≡ true) [
        | true ↦ and_from (test' (Record place n)) (list_all test' (rest_of_gap (place + n) (m - n) segments)) new (rest_all (place + n) (m - n) segments (all_weaker segments parts.1))
        | false ↦ and_from (test' (Gap p m)) (list_all test' (with_segment place n segments)) (free p m) (all_with_new place n new segments parts.1)
      ]

-- ---- whose a record is

or_more : (a b c d : Bool) → (((a || false) || c) || d) ≡ true → (((a || b) || c) || d) ≡ true
or_more true b c d e = refl
or_more false true c d e = refl
or_more false false c d e = e

or_moved : (a b c d x : Bool) → (((a || b) || c) || d) ≡ true → (((a || x) || (b || c)) || d) ≡ true
or_moved true b c d x e = refl
or_moved false b c d true e = refl
or_moved false b c d false e = e

or_skipped : (a b c d : Bool) → (a || (b || (c || d))) ≡ true → c ≡ false → (a || (b || d)) ≡ true
or_skipped true b c d e none = refl
or_skipped false true c d e none = refl
or_skipped false false true d e none = absurd cc
or_skipped false false false d e none = e

module _ (heads : List KeyHead) (baskets : List ℕ) (made : KeyHead) where
  pub first_owns : (x : Segment) → is_owned None heads baskets x ≡ true → is_owned (Some made) heads baskets x ≡ true
  first_owns (Record p n) e = or_more (p == 100) (made.seek == p) (list_any (λ k. k.seek == p) heads) (list_any (λ q. q == p) baskets) e
  first_owns (Gap p n) e = refl

  -- the list before as one of the keys
  next_owns : (h : KeyHead) (x : Segment) → is_owned (Some h) heads baskets x ≡ true → is_owned (Some made) (h ∷ heads) baskets x ≡ true
  next_owns h (Record p n) e = or_moved (p == 100) (h.seek == p) (list_any (λ k. k.seek == p) heads) (list_any (λ q. q == p) baskets) (made.seek == p) e
  next_owns h (Gap p n) e = refl

  pub own_list : (n : ℕ) → is_owned (Some made) heads baskets (Record made.seek n) ≡ true
  own_list n =
      or_left (((made.seek == 100) || (made.seek == made.seek)) || list_any (λ k. k.seek == made.seek) heads) (list_any (λ q. q == made.seek) baskets)
      (or_left ((made.seek == 100) || (made.seek == made.seek)) (list_any (λ k. k.seek == made.seek) heads)
      (or_right (made.seek == 100) (made.seek == made.seek) (eq-eqb made.seek made.seek refl)))

-- ---- all of it

module _ (segments : List Segment) (heads : List KeyHead) (baskets name : List ℕ) (n : ℕ) (made : KeyHead) (shape : AreSegments segments) (long : 4 ≤ n) (aligned : n % 4 ≡ 0) (at : made.seek ≡ place_of segments n)
    (room : file_end (with_segment made.seek n segments) + close_need (kept_with name heads (2 + length heads + length baskets)) ≤ end_limit) where
  abbrev more : List Segment
  more = with_segment made.seek n segments

  more_shape : AreSegments (with_segment made.seek n segments)
  more_shape = subst (λ (p : ℕ). AreSegments (with_segment p n segments)) (sym at) (laid_put segments n shape long aligned).0

  -- where there was no list
  first_kept : IsClosable segments heads None baskets name → IsClosable (with_segment made.seek n segments) heads (Some made) baskets name
  first_kept kept =
      let count : record_count (with_segment made.seek n segments) ≡ 2 + length heads + length baskets = omega (arith, count_with made.seek n segments, kept.count) in
      record {
        sized = kept.sized;
        fit = kept.fit;
        placed = all_placed made.seek n segments heads kept.placed;
        listed = new_begins made.seek n segments;
        stored = stored_still made.seek n segments baskets kept.stored;
        owned = all_with_new (is_owned None heads baskets) (is_owned (Some made) heads baskets) (first_owns heads baskets made) (λ p m. refl) made.seek n (own_list heads baskets made n) segments kept.owned;
        short = kept.short;
        count = count;
        room = subst (λ (k : ℕ). file_end (with_segment made.seek n segments) + close_need (kept_with name heads k) ≤ end_limit) (sym count) room;
      }

  -- where there was one
  module _ (h : KeyHead) (kept : IsClosable segments heads (Some h) baskets name) where
    abbrev owners : List ℕ
    owners = own_places (Some made) (h ∷ heads) baskets

    abbrev left : List ℕ
    left = own_places (Some made) heads baskets

    less : IsOneLess h.seek (own_places (Some made) (h ∷ heads) baskets) (own_places (Some made) heads baskets)
    less = record {
      one = omega arith;
      others = λ p e other. or_skipped (100 == p) (made.seek == p) (h.seek == p) (is_among (seeks heads ++ baskets) p) e (ne_eqb h.seek p other);
    }

    owned : list_all (owned_by (own_places (Some made) (h ∷ heads) baskets)) (with_segment made.seek n segments) ≡ true
    owned =
        sym (all_owned (Some made) (h ∷ heads) baskets more)
        ∙ all_with_new (is_owned (Some h) heads baskets) (is_owned (Some made) (h ∷ heads) baskets) (next_owns heads baskets made h) (λ p m. refl) made.seek n (own_list (h ∷ heads) baskets made n) segments kept.owned

    count : record_count (with_segment made.seek n segments) ≡ length (own_places (Some made) (h ∷ heads) baskets)
    count = omega (arith, count_with made.seek n segments, kept.count, owns_counted (Some made) (h ∷ heads) baskets)

    begins : list_any (begins_at h.seek) (with_segment made.seek n segments) ≡ true
    begins = begins_still h.seek made.seek n segments kept.listed

    later : 100 < h.seek
    later = is_later h.seek owners left less more more_shape owned count (first_in (Some made) heads baskets) begins

    gone_list : IsLeftWithout h.seek (left_without h.seek owners left less more more_shape owned count (first_in (Some made) heads baskets) begins).0 more (without_segment h.seek more)
    gone_list = (left_without h.seek owners left less more more_shape owned count (first_in (Some made) heads baskets) begins).1

    next_kept : IsClosable (without_segment h.seek (with_segment made.seek n segments)) heads (Some made) baskets name
    next_kept =
        let gone = (left_without h.seek owners left less more more_shape owned count (first_in (Some made) heads baskets) begins).1 in
        let few : record_count (without_segment h.seek (with_segment made.seek n segments)) ≡ 2 + length heads + length baskets = omega (arith, gone.count, count_with made.seek n segments, kept.count) in
        record {
          sized = kept.sized;
          fit = kept.fit;
          placed = placed_less h.seek owners left less more more_shape owned count heads (heads_in (Some made) heads baskets) (all_placed made.seek n segments heads kept.placed);
          listed = listed_less h.seek owners left less more more_shape owned count (Some made) (list_in (Some made) heads baskets) (new_begins made.seek n segments);
          stored = stored_less h.seek owners left less more more_shape owned count baskets (baskets_in (Some made) heads baskets) (stored_still made.seek n segments baskets kept.stored);
          owned = all_owned (Some made) heads baskets (without_segment h.seek more) ∙ owned_less h.seek owners left less more more_shape owned count 100 more more_shape.adjacent owned;
          short = kept.short;
          count = few;
          room =
              let need : close_need (kept_with name heads (record_count (without_segment h.seek (with_segment made.seek n segments)))) ≡ close_need (kept_with name heads (2 + length heads + length baskets)) = ap (λ (k : ℕ). close_need (kept_with name heads k)) few in
              omega (arith, need, gone.end, room);
        }

  pub kept_list : (info : Option KeyHead) → IsClosable segments heads info baskets name → IsClosable (released_segment info (with_segment made.seek n segments)) heads (Some made) baskets name
  kept_list None kept = first_kept kept
  kept_list (Some h) kept = next_kept h kept

  -- its segments have their form, and end no later
  pub list_shape : (info : Option KeyHead) → IsClosable segments heads info baskets name → AreSegments (released_segment info (with_segment made.seek n segments))
  list_shape None kept = more_shape
  list_shape (Some h) kept = (gone_list h kept).shape

  pub list_end : (info : Option KeyHead) → IsClosable segments heads info baskets name → file_end (released_segment info (with_segment made.seek n segments)) ≤ file_end (with_segment made.seek n segments)
  list_end None kept = omega arith
  list_end (Some h) kept = omega (arith, (gone_list h kept).end)

  -- the record of the list before can be released
  pub list_there : (info : Option KeyHead) → IsClosable segments heads info baskets name → IfSome info (λ h. HasRecordSegment segments h.seek)
  list_there None kept = tt
  list_there (Some h) kept = record_segment h.seek segments kept.listed

  pub list_later : (info : Option KeyHead) → IsClosable segments heads info baskets name → IfSome info (λ h. 100 < h.seek)
  list_later None kept = tt
  list_later (Some h) kept = later h kept

  pub directory_kept : (nbytes_name : ℕ) (info : Option KeyHead) → IsClosable segments heads info baskets name → HoldsDirectory nbytes_name segments
      → HoldsDirectory nbytes_name (released_segment info (with_segment made.seek n segments))
  directory_kept nbytes_name None kept within = directory_stays nbytes_name made.seek n segments more refl within
  directory_kept nbytes_name (Some h) kept within =
      directory_left nbytes_name h.seek more (without_segment h.seek more) refl (later h kept) more_shape.adjacent (directory_stays nbytes_name made.seek n segments more refl within)

-- ---- with the record that was made

module _ (v : SessionState) (made : NewRecord) (can : CanReplace v made) (shape : AreSegments v.segments) (kept : IsClosableWith v.segments v.heads v.trees v.info v.name) where
  abbrev n : ℕ
  n = length made.bytes.bytes

  long : 4 ≤ length made.bytes.bytes
  long = whole_long made.head.seek made.bytes.bytes can.whole

  room : file_end (with_segment made.head.seek (length made.bytes.bytes) v.segments) + close_need (kept_with v.name v.heads (2 + length v.heads + length (baskets_of v))) ≤ end_limit
  room = omega (arith, can.room, need_least v.name v.heads (2 + length v.heads + length (baskets_of v)) v.trees)

  pub replaced_kept : (segments : List Segment) → segments ≡ released_segment v.info (with_segment made.head.seek (length made.bytes.bytes) v.segments) → IsClosableWith segments v.heads v.trees (Some made.head) v.name
  replaced_kept segments is =
      let later = released_segment v.info (with_segment made.head.seek n v.segments) in
      let one = kept_list v.segments v.heads (baskets_of v) v.name n made.head shape long can.whole.aligned can.place room v.info kept.closable in
      let formed = list_shape v.segments v.heads (baskets_of v) v.name n made.head shape long can.whole.aligned can.place room v.info kept.closable in
      let end = list_end v.segments v.heads (baskets_of v) v.name n made.head shape long can.whole.aligned can.place room v.info kept.closable in
      let few : record_count later ≡ 2 + length v.heads + length (baskets_of v) = omega (arith, one.count) in
      let need : need_with v.name v.heads (record_count later) v.trees ≡ need_with v.name v.heads (2 + length v.heads + length (baskets_of v)) v.trees = ap (λ (k : ℕ). need_with v.name v.heads k v.trees) few in
      subst (λ (ss : List Segment). IsClosableWith ss v.heads v.trees (Some made.head) v.name) (sym is)
      (with_saves later v.heads v.trees (Some made.head) v.name formed one (omega (arith, end, need, can.room)) kept.sound)

  pub replaced_there : (segments : List Segment) → segments ≡ v.segments → IfSome v.info (λ h. HasRecordSegment segments h.seek)
  replaced_there segments is =
      subst (λ (ss : List Segment). IfSome v.info (λ h. HasRecordSegment ss h.seek)) (sym is)
      (list_there v.segments v.heads (baskets_of v) v.name n made.head shape long can.whole.aligned can.place room v.info kept.closable)

  pub replaced_later : IfSome v.info (λ h. 100 < h.seek)
  replaced_later = list_later v.segments v.heads (baskets_of v) v.name n made.head shape long can.whole.aligned can.place room v.info kept.closable

  pub replaced_directory : (segments : List Segment) → segments ≡ released_segment v.info (with_segment made.head.seek (length made.bytes.bytes) v.segments) → HoldsDirectory v.nbytes_name v.segments
      → HoldsDirectory v.nbytes_name segments
  replaced_directory segments is within =
      subst (HoldsDirectory v.nbytes_name) (sym is)
      (directory_kept v.segments v.heads (baskets_of v) v.name n made.head shape long can.whole.aligned can.place room v.nbytes_name v.info kept.closable within)

-- ---- what a session keeps then

pub listed_is : (before v : SessionState) (segments : List Segment) (place n : ℕ) (h : KeyHead) → v ≡ before → segments ≡ released_segment v.info (with_segment place n v.segments)
    → ◌≡◌ {A = SessionState} (record v { segments = segments; info = Some h }) (record before { segments = released_segment before.info (with_segment place n before.segments); info = Some h })
listed_is before v segments place n h is a =
    let one : ◌≡◌ {A = SessionState} (record v { segments = segments; info = Some h }) (record v { segments = released_segment v.info (with_segment place n v.segments); info = Some h }) = λ i. record v { segments = a i; info = Some h } in
    one ∙ ap (λ (s : SessionState). let t : SessionState = record s { segments = released_segment s.info (with_segment place n s.segments); info = Some h } in t) is
