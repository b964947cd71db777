-- Ways through classes that hold one another, and the names that are met on them.
use Rattle.std.proofs.Common.{◌≡◌, ◌≤◌, ◌<◌, ℕ, ◌+◌, List, [], ◌∷◌, ◌++◌, length, take, get_or, map, Bool, true, false, ◌||◌, ◌&&◌, ◌⊎◌, inl, inr, refl, sym, ap, subst, ◌∙◌, arith, length-append}
use Rattle.std.proofs.{Math.Bool.{or-false}, lemmas.Bool.{and_from, and_parts, or_from, or_left, or_right}, lemmas.Cmp.{nat_list_eq_equiv}}
use Rattle.std.proofs.{lemmas.List.{take-append-le, take_all, Folds.{list_any-append, list_any_at, list_any_more}}, lemmas.Map.Made.{length-le_from_is_member}}
use Rattle.std.proofs.{lemmas.Option.{get_or_from_slice_get, slice_get_cases, slice_get_within}, lemmas.Slice.Eq.{bytes_eq-Decides}}
use Rattle.std.specs.{Prelude.{Some, None, slice_get}, List.{IsDistinct, list_any}, Str.{bytes_eq}}
use Rattle.rio_num.proofs.Cases.{either}
use Rattle.rio_num.specs.Word.{is_among}
use Rattle.rio_format.specs.{declared.class.Base.{Base}, declared.class.ClassDef.{ClassDef}, declared.class.Member.{Member}}
use Rattle.rio_format.specs.declared.kind.Kind.{Kind, TheVariants.{Plain, Counter, Fixed, Counted, Text, Inline, Pointer, Other}}
use Rattle.rio_model.specs.Declaring.{IsWay, Reaches, has_within, holds, is_inline}
use Rattle.rio_registry.specs.Reaching.{ComesTo, IsGrown}

-- ---- tests

past : {X : Type 0} (xs : List X) (i : ℕ) → None ≡ slice_get xs i → length xs ≤ i
past xs i e = elim (slice_get_cases xs i).1 [ inl w ↦ absurd (cc (e, w.2)) | inr w ↦ w.0 ]

-- ---- all names that classes hold

inline_of : Kind → List (List ℕ)
inline_of (Plain of) = []
inline_of Counter = []
inline_of (Fixed of count) = []
inline_of (Counted of counter) = []
inline_of Text = []
inline_of (Inline class) = class ∷ []
inline_of (Pointer class) = []
inline_of (Other code) = []

inlines : List Member → List (List ℕ)
inlines [] = []
inlines (m ∷ ms) = inline_of m.kind ++ inlines ms

pub all_held : List ClassDef → List (List ℕ)
all_held [] = []
all_held (c ∷ cs) = map (λ b. b.name) c.bases ++ inlines c.members ++ all_held cs

among-append : (xs ys : List (List ℕ)) (n : List ℕ) → is_among (xs ++ ys) n ≡ (is_among xs n || is_among ys n)
among-append xs ys n = list_any-append (bytes_eq n) xs ys

among_bases : (bases : List Base) (n : List ℕ) → list_any (λ b. bytes_eq n b.name) bases ≡ is_among (map (λ b. b.name) bases) n
among_bases [] n = refl
among_bases (b ∷ bs) n = ap (λ t. bytes_eq n b.name || t) (among_bases bs n)

among_inline : (kind : Kind) (n : List ℕ) → is_inline n kind ≡ is_among (inline_of kind) n
unfolding inline_of
among_inline (Plain of) n = refl
among_inline Counter n = refl
among_inline (Fixed of count) n = refl
among_inline (Counted of counter) n = refl
among_inline Text n = refl
among_inline (Inline class) n = sym (or-false (bytes_eq n class))
among_inline (Pointer class) n = refl
among_inline (Other code) n = refl

among_inlines : (members : List Member) (n : List ℕ) → list_any (λ m. is_inline n m.kind) members ≡ is_among (inlines members) n
unfolding inlines
among_inlines [] n = refl
among_inlines (m ∷ ms) n =
    ap (λ t. t || list_any (λ m. is_inline n m.kind) ms) (among_inline m.kind n) ∙ ap (λ t. is_among (inline_of m.kind) n || t) (among_inlines ms n) ∙ sym (among-append (inline_of m.kind) (inlines ms) n)

within_held : (c : ClassDef) (cs : List ClassDef) (n : List ℕ) → has_within c n ≡ true → is_among (all_held (c ∷ cs)) n ≡ true
unfolding all_held
within_held c cs n h =
    let own : is_among (map (λ b. b.name) c.bases ++ inlines c.members) n ≡ true =
    among-append (map (λ b. b.name) c.bases) (inlines c.members) n ∙ ap (λ t. t || is_among (inlines c.members) n) (sym (among_bases c.bases n)) ∙ ap (λ t. list_any (λ b. bytes_eq n b.name) c.bases || t) (sym (among_inlines c.members n)) ∙ h in
    among-append (map (λ b. b.name) c.bases ++ inlines c.members) (all_held cs) n ∙ or_left _ _ own

held : (classes : List ClassDef) (a b : List ℕ) → holds classes a b ≡ true → is_among (all_held classes) b ≡ true
unfolding all_held
held [] a b h = absurd cc
held (c ∷ cs) a b h =
    either (bytes_eq c.name a && has_within c b) (holds cs a b)
    (λ e. within_held c cs b (and_parts (bytes_eq c.name a) (has_within c b) e).1)
    (λ e. among-append (map (λ b. b.name) c.bases ++ inlines c.members) (all_held cs) b ∙ or_right _ _ (held cs a b e))
    h

-- ---- ways

module _ (classes : List ClassDef) where
  further : (a b c : List ℕ) (between : List (List ℕ)) → IsWay classes a between b → holds classes b c ≡ true → IsWay classes a (between ++ b ∷ []) c
  further a b c [] way h = (way, h)
  further a b c (n ∷ ns) way h = (way.0, further n b c ns way.1 h)

  reached_held : (a b : List ℕ) (between : List (List ℕ)) → IsWay classes a between b → is_among (all_held classes) b ≡ true
  reached_held a b [] way = held classes a b way
  reached_held a b (n ∷ ns) way = reached_held n b ns way.1

  -- from where one of the names leads, they lead one step further
  comes_further : (start : List (List ℕ)) (b c : List ℕ) → ComesTo classes start b → holds classes b c ≡ true → ComesTo classes start c
  comes_further start b c (name, among, inl is) h = (name, among, inr ([], subst (λ (n : List ℕ). holds classes n c ≡ true) (sym is) h))
  comes_further start b c (name, among, inr way) h = (name, among, inr (way.0 ++ b ∷ [], further name b c way.0 way.1 h))

  come_held : (start : List (List ℕ)) (b : List ℕ) → ComesTo classes start b → is_among (start ++ all_held classes) b ≡ true
  come_held start b (name, among, inl is) = among-append start (all_held classes) b ∙ or_left _ _ (subst (λ (n : List ℕ). is_among start n ≡ true) is among)
  come_held start b (name, among, inr way) = among-append start (all_held classes) b ∙ or_right _ _ (reached_held name b way.0 way.1)

  -- ---- names that are followed one after the other

  -- the names before the index are followed, and the last name is none of them
  pub record IsFollowed (start names : List (List ℕ)) (last : List ℕ) (index : ℕ) : Type 0 where
    pub within : index ≤ length names
    pub distinct : IsDistinct bytes_eq names
    pub starts : (name : List ℕ) → is_among start name ≡ true → is_among names name ≡ true
    pub come : (name : List ℕ) → is_among names name ≡ true → ComesTo classes start name
    pub closed : (outer inner : List ℕ) → is_among (take index names) outer ≡ true → holds classes outer inner ≡ true → is_among names inner ≡ true
    pub apart : is_among (take index names) last ≡ false

  pub followed_start : (start : List (List ℕ)) (last : List ℕ) → IsDistinct bytes_eq start → IsFollowed start start last 0
  followed_start start last d = record {
    within = omega arith;
    distinct = d;
    starts = λ name h. h;
    come = λ name h. (name, h, inl refl);
    closed = λ outer inner h e. absurd cc;
    apart = refl;
  }

  -- one name more is followed
  pub followed_more : (start names new : List (List ℕ)) (last : List ℕ) (index : ℕ) (name : List ℕ) → IsFollowed start names last index → Some name ≡ slice_get names index → bytes_eq last name ≡ false → IsGrown names new (holds classes name) → IsFollowed start new last (index + 1)
  followed_more start names new last index name f at other grown =
      let lt : index < length names = slice_get_within names index name (sym at) in
      let is : name ≡ get_or names index name = sym (get_or_from_slice_get names index name name (sym at)) in
      let there : is_among names name ≡ true = list_any_at (bytes_eq name) names index name lt (rw (sym is) ((bytes_eq-Decides name name).1 refl)) in
      let stays : (n : List ℕ) → is_among names n ≡ true → is_among new n ≡ true = λ n h. grown.names n ∙ or_left _ _ h in
      let front : take (index + 1) new ≡ take (index + 1) names =
      ap (take (index + 1)) grown.kept.1 ∙ take-append-le (index + 1) names grown.kept.0 (omega arith) in
      let more : (n : List ℕ) → is_among (take (index + 1) new) n ≡ (is_among (take index names) n || bytes_eq n name) =
      λ n. ap (λ t. is_among t n) front ∙ list_any_more (bytes_eq n) names index name lt ∙ ap (λ t. is_among (take index names) n || bytes_eq n t) (sym is) in
      record {
        within = omega (arith, f.within, length-append names grown.kept.0, ap length grown.kept.1);
        distinct = grown.distinct f.distinct;
        starts = λ n h. stays n (f.starts n h);
        come = λ n h. either (is_among names n) (holds classes name n) (f.come n) (λ e. comes_further start name n (f.come name there) e) (sym (grown.names n) ∙ h);
        closed = λ outer inner h e.
            either (is_among (take index names) outer) (bytes_eq outer name)
            (λ among. stays inner (f.closed outer inner among e))
            (λ alike. grown.names inner ∙ or_right _ _ (subst (λ (n : List ℕ). holds classes n inner ≡ true) ((bytes_eq-Decides outer name).0 alike) e))
            (sym (more outer) ∙ h);
        apart = more last ∙ or_from _ _ f.apart other;
      }

  -- they are as many at most as the names at the start and those that the classes hold
  pub followed_bound : (start names : List (List ℕ)) (last : List ℕ) (index : ℕ) → IsFollowed start names last index → length names ≤ length start + length (all_held classes)
  followed_bound start names last index f =
      let bound : length names ≤ length (start ++ all_held classes) =
      length-le_from_is_member nat_list_eq_equiv names (start ++ all_held classes) f.distinct (λ q h. come_held start q (f.come q h)) in
      omega (arith, length-append start (all_held classes))

  -- the measure falls when one more is followed
  pub followed_falls : (start names : List (List ℕ)) (last : List ℕ) (index : ℕ) (name : List ℕ) → IsFollowed start names last index → Some name ≡ slice_get names index → index < length start + length (all_held classes)
  followed_falls start names last index name f at =
      omega (arith, followed_bound start names last index f, slice_get_within names index name (sym at))

  -- the last is met
  pub followed_met : (start names : List (List ℕ)) (last : List ℕ) (index : ℕ) (name : List ℕ) → IsFollowed start names last index → Some name ≡ slice_get names index → bytes_eq last name ≡ true → ComesTo classes start last
  followed_met start names last index name f at alike =
      let lt : index < length names = slice_get_within names index name (sym at) in
      let is : get_or names index name ≡ name = get_or_from_slice_get names index name name (sym at) in
      f.come last (list_any_at (bytes_eq last) names index name lt (rw is alike))

  -- no way leads out of the names when all are followed
  stays_within : (names : List (List ℕ)) → ((outer inner : List ℕ) → is_among names outer ≡ true → holds classes outer inner ≡ true → is_among names inner ≡ true) → (a b : List ℕ) (between : List (List ℕ)) → is_among names a ≡ true → IsWay classes a between b → is_among names b ≡ true
  stays_within names closed a b [] h way = closed a b h way
  stays_within names closed a b (n ∷ ns) h way = stays_within names closed n b ns (closed a n h way.0) way.1

  not_both : (b : Bool) → b ≡ true → b ≡ false → ⊥
  not_both true e h = absurd cc
  not_both false e h = absurd cc

  -- when all are followed none leads to the last
  pub followed_all : (start names : List (List ℕ)) (last : List ℕ) (index : ℕ) → IsFollowed start names last index → None ≡ slice_get names index → ¬ ComesTo classes start last
  followed_all start names last index f end comes =
      let le : length names ≤ index = past names index end in
      let all : take index names ≡ names = take_all index names le in
      let closed : (outer inner : List ℕ) → is_among names outer ≡ true → holds classes outer inner ≡ true → is_among names inner ≡ true =
      λ outer inner h e. f.closed outer inner (ap (λ t. is_among t outer) all ∙ h) e in
      let apart : is_among names last ≡ false = sym (ap (λ t. is_among t last) all) ∙ f.apart in
      not_both (is_among names last) (ends closed comes) apart
    where
      ends : ((outer inner : List ℕ) → is_among names outer ≡ true → holds classes outer inner ≡ true → is_among names inner ≡ true) → ComesTo classes start last → is_among names last ≡ true
      ends closed (name, among, inl is) = subst (λ (n : List ℕ). is_among names n ≡ true) is (f.starts name among)
      ends closed (name, among, inr way) = stays_within names closed name last way.0 (f.starts name among) way.1

-- ---- the classes with one more

module _ (classes : List ClassDef) (class : ClassDef) where
  holds-more : (a b : List ℕ) → holds (classes ++ class ∷ []) a b ≡ (holds classes a b || bytes_eq class.name a && has_within class b)
  holds-more a b =
      list_any-append (λ c. bytes_eq c.name a && has_within c b) classes (class ∷ []) ∙ ap (λ t. holds classes a b || t) (or-false (bytes_eq class.name a && has_within class b))

  holds_still : (a b : List ℕ) → holds classes a b ≡ true → holds (classes ++ class ∷ []) a b ≡ true
  holds_still a b h = holds-more a b ∙ or_left _ _ h

  holds_own : (b : List ℕ) → has_within class b ≡ true → holds (classes ++ class ∷ []) class.name b ≡ true
  holds_own b h = holds-more class.name b ∙ or_right _ _ (and_from _ _ ((bytes_eq-Decides class.name class.name).1 refl) h)

  way_still : (a b : List ℕ) (between : List (List ℕ)) → IsWay classes a between b → IsWay (classes ++ class ∷ []) a between b
  way_still a b [] way = holds_still a b way
  way_still a b (n ∷ ns) way = (holds_still a n way.0, way_still n b ns way.1)

  module _ (names : List (List ℕ)) (first : (name : List ℕ) → is_among names name ≡ (has_within class name || holds classes class.name name)) where
    first_held : (name : List ℕ) → is_among names name ≡ true → holds (classes ++ class ∷ []) class.name name ≡ true
    first_held name h =
        either (has_within class name) (holds classes class.name name) (holds_own name) (holds_still class.name name) (sym (first name) ∙ h)

    -- what the class's own names lead to, it reaches
    pub comes_back : ComesTo classes names class.name → Reaches (classes ++ class ∷ []) class.name class.name
    comes_back (name, among, inl is) = ([], subst (λ (n : List ℕ). holds (classes ++ class ∷ []) class.name n ≡ true) is (first_held name among))
    comes_back (name, among, inr way) = (name ∷ way.0, (first_held name among, way_still name class.name way.0 way.1))

    -- a way to the class's own name leads through the declared classes alone, or it has a last step from the class
    last_part : (a : List ℕ) (between : List (List ℕ)) → IsWay (classes ++ class ∷ []) a between class.name → Reaches classes a class.name ⊎ ComesTo classes names class.name
    last_part a [] way =
        either (holds classes a class.name) (bytes_eq class.name a && has_within class class.name)
        (λ e. inl ([], e))
        (λ e. inr (class.name, first class.name ∙ or_left _ _ (and_parts (bytes_eq class.name a) (has_within class class.name) e).1, inl refl))
        (sym (holds-more a class.name) ∙ way)
    last_part a (n ∷ ns) way = step (last_part n ns way.1)
      where
        step : Reaches classes n class.name ⊎ ComesTo classes names class.name → Reaches classes a class.name ⊎ ComesTo classes names class.name
        step (inr comes) = inr comes
        step (inl rest) =
            either (holds classes a n) (bytes_eq class.name a && has_within class n)
            (λ e. inl (n ∷ rest.0, (e, rest.1)))
            (λ e. inr (n, first n ∙ or_left _ _ (and_parts (bytes_eq class.name a) (has_within class n) e).1, inr rest))
            (sym (holds-more a n) ∙ way.0)

    -- and where it reaches itself, they lead to it
    pub goes_out : Reaches (classes ++ class ∷ []) class.name class.name → ComesTo classes names class.name
    goes_out (between, way) = whole (last_part class.name between way)
      where
        begun : (ns : List (List ℕ)) → IsWay classes class.name ns class.name → ComesTo classes names class.name
        begun [] w = (class.name, first class.name ∙ or_right _ _ w, inl refl)
        begun (n ∷ ns) w = (n, first n ∙ or_right _ _ w.0, inr (ns, w.1))

        whole : Reaches classes class.name class.name ⊎ ComesTo classes names class.name → ComesTo classes names class.name
        whole (inl reached) = begun reached.0 reached.1
        whole (inr comes) = comes
