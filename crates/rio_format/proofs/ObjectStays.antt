-- What is read of an object, if all of it is, is read of it too where the same classes are picked.
use Rattle.std.proofs.Common.{◌≡◌, ◌⊎◌, inl, inr, ℕ, zero, suc, ℤ, pos, List, [], ◌∷◌, ◌++◌, codes, sym, subst}
use Rattle.rio_format.specs.{declared.class.Base.{Base}, declared.class.ClassDef.{ClassDef}, declared.class.Member.{Member}}
use Rattle.rio_format.specs.declared.kind.Kind.{Kind, TheVariants.{Plain, Counter, Fixed, Counted, Text as Texted, Inline, Pointer, Other}}
use Rattle.rio_format.specs.{declared.value.Value.{Text, List as Items, Object, Pointed}, declared.value.Part.{Part}, Frames.{ObjLayout, header, pointer_word}, declared.words.Header.{Header}}
use Rattle.rio_format.specs.{declared.words.PointerWord.{PointerWord, TheVariants.{Null, New, Back}}, declared.form.Form.{Form, TheVariants.{Bare as bare, Numbers as numbered, Headed as with_header}}}
use Rattle.rio_format.specs.Bodies.{part, form_of, Body, described, listed, arrayed, opaque, Counters, counters_with}
use Rattle.rio_format.specs.Objects.{Objects, array_parts, base_part, body, closed, formed, headed, kind_value, link, list_parts, member_part, member_parts, object_of, parts, pointed, pointer, unread, whole_object}
use Rattle.rio_format.proofs.{ValueCases.{Each}, AllRead.{AllRead, PartRead, each_back, each_front, items_read, opaque_unread, parts_read, pointed_read}, Picks.{body_stays}}
use Rattle.rio_format.specs.Growth.{PicksStay}
use Rattle.rio_format.proofs.Stays.{Stays, Gives, behind_gives, behind_stays, done_gives, each_stays, made_stays, never_stays, next_stays, same_stays, times_stays}

-- nothing that isn't read passes
unread_gives : (class : List ℕ) (h : Header) → Gives (λ v. AllRead v → ⊥) (unread class h)
unfolding unread
unread_gives class h =
    behind_gives (λ v. AllRead v → ⊥) _ _ (λ place. behind_gives (λ v. AllRead v → ⊥) _ _ (λ u. behind_gives (λ v. AllRead v → ⊥) _ _ (λ w. done_gives (λ v. AllRead v → ⊥) _ (opaque_unread class _))))

module _ (object fresh : Objects) (inner : (class : List ℕ) → Stays AllRead (object class) (fresh class)) where
  pointed_stays : (w : PointerWord) → Stays AllRead (pointed object w) (pointed fresh w)
  unfolding pointed
  pointed_stays Null = same_stays AllRead _
  pointed_stays (Back label) = same_stays AllRead _
  pointed_stays (New label place end class) =
      behind_stays AllRead AllRead (object class) (fresh class) _ _ (inner class) (λ o. same_stays AllRead _)
      (λ o. behind_gives (λ v. AllRead v → AllRead o) _ _ (λ u. done_gives (λ v. AllRead v → AllRead o) (Pointed label o) (pointed_read label o)))

  pointer_stays : Stays AllRead (pointer object) (pointer fresh)
  unfolding pointer
  pointer_stays = next_stays AllRead pointer_word _ _ pointed_stays

  -- ---- members

  pub kind_stays : (counters : Counters) (k : Kind) → Stays AllRead (kind_value object counters k) (kind_value fresh counters k)
  unfolding kind_value
  kind_stays counters (Plain of) = same_stays AllRead _
  kind_stays counters Counter = same_stays AllRead _
  kind_stays counters (Fixed of count) = same_stays AllRead _
  kind_stays counters (Counted of counter) = same_stays AllRead _
  kind_stays counters Texted = same_stays AllRead _
  kind_stays counters (Inline class) = inner class
  kind_stays counters (Pointer class) = pointer_stays
  kind_stays counters (Other code) = same_stays AllRead _

  member_stays : (counters : Counters) (m : Member) → Stays PartRead (member_part object counters m) (member_part fresh counters m)
  unfolding member_part
  member_stays counters m = made_stays AllRead PartRead _ _ (λ v. part m.name v) (kind_stays counters m.kind) (λ v h. h)

  members_stay : (counters : Counters) (ms : List Member) → Stays (Each PartRead) (member_parts object counters ms) (member_parts fresh counters ms)
  unfolding member_parts
  members_stay counters [] = same_stays (Each PartRead) _
  members_stay counters (m ∷ ms) =
      behind_stays PartRead (Each PartRead) _ _ _ _ (member_stays counters m)
      (λ p. made_stays (Each PartRead) (Each PartRead) _ _ (λ ps. p ∷ ps) (members_stay (counters_with m p.value counters) ms) (λ ps h. h.1))
      (λ p. behind_gives (λ ps. Each PartRead ps → PartRead p) _ _ (λ ps. done_gives (λ qs. Each PartRead qs → PartRead p) (p ∷ ps) (λ h. h.0)))

  base_stays : (b : Base) → Stays PartRead (base_part object b) (base_part fresh b)
  unfolding base_part
  base_stays b = made_stays AllRead PartRead _ _ (λ v. part [] v) (inner b.name) (λ v h. h)

  parts_stay : (c : ClassDef) → Stays (Each PartRead) (parts object c) (parts fresh c)
  unfolding parts
  parts_stay c =
      behind_stays (Each PartRead) (Each PartRead) _ _ _ _ (each_stays PartRead (base_part object) (base_part fresh) base_stays c.bases)
      (λ bs. made_stays (Each PartRead) (Each PartRead) _ _ (λ ms. bs ++ ms) (members_stay [] c.members) (λ ms h. each_back PartRead bs ms h))
      (λ bs. behind_gives (λ ps. Each PartRead ps → Each PartRead bs) _ _ (λ ms. done_gives (λ ps. Each PartRead ps → Each PartRead bs) (bs ++ ms) (each_front PartRead bs ms)))

  -- ---- built-in classes

  link_stays : Stays AllRead (link object) (link fresh)
  unfolding link
  link_stays =
      behind_stays AllRead AllRead _ _ _ _ pointer_stays (λ p. same_stays AllRead _)
      (λ p. behind_gives (λ v. AllRead v → AllRead p) _ _ (λ option. done_gives (λ v. AllRead v → AllRead p) _ (λ h. (items_read (p ∷ Text option ∷ []) h).0)))

  list_stays : Stays (Each PartRead) (list_parts object) (list_parts fresh)
  unfolding list_parts
  list_stays =
      behind_stays AllRead (Each PartRead) _ _ _ _ (inner (codes "TObject"))
      (λ b. next_stays (Each PartRead) _ _ _ (λ n. next_stays (Each PartRead) _ _ _ (λ count. made_stays (Each AllRead) (Each PartRead) _ _
      (λ items. part [] b ∷ part (codes "fName") (Text n) ∷ part (codes "items") (Items items) ∷ [])
      (times_stays AllRead count _ _ link_stays) (λ items h. items_read items h.1.1.0))))
      (λ b. behind_gives (λ ps. Each PartRead ps → AllRead b) _ _ (λ n. behind_gives (λ ps. Each PartRead ps → AllRead b) _ _ (λ count. behind_gives (λ ps. Each PartRead ps → AllRead b) _ _ (λ items.
      done_gives (λ ps. Each PartRead ps → AllRead b) (part [] b ∷ part (codes "fName") (Text n) ∷ part (codes "items") (Items items) ∷ []) (λ h. h.0)))))

  array_stays : Stays (Each PartRead) (array_parts object) (array_parts fresh)
  unfolding array_parts
  array_stays =
      behind_stays AllRead (Each PartRead) _ _ _ _ (inner (codes "TObject"))
      (λ b. next_stays (Each PartRead) _ _ _ (λ n. next_stays (Each PartRead) _ _ _ (λ count. next_stays (Each PartRead) _ _ _ (λ lower. made_stays (Each AllRead) (Each PartRead) _ _
      (λ items. part [] b ∷ part (codes "fName") (Text n) ∷ part (codes "fLowerBound") lower ∷ part (codes "items") (Items items) ∷ [])
      (times_stays AllRead count _ _ pointer_stays) (λ items h. items_read items h.1.1.1.0)))))
      (λ b. behind_gives (λ ps. Each PartRead ps → AllRead b) _ _ (λ n. behind_gives (λ ps. Each PartRead ps → AllRead b) _ _ (λ count. behind_gives (λ ps. Each PartRead ps → AllRead b) _ _ (λ lower. behind_gives (λ ps. Each PartRead ps → AllRead b) _ _ (λ items.
      done_gives (λ ps. Each PartRead ps → AllRead b) (part [] b ∷ part (codes "fName") (Text n) ∷ part (codes "fLowerBound") lower ∷ part (codes "items") (Items items) ∷ []) (λ h. h.0))))))

  -- ---- objects

  whole_stays : (class : List ℕ) (version : ℤ) (h : Header) (old new : ObjLayout (List Part)) → Stays (Each PartRead) old new → Stays AllRead (whole_object class version h old) (whole_object class version h new)
  unfolding whole_object closed
  whole_stays class version h old new inside =
      behind_stays (Each PartRead) AllRead old new _ _ inside (λ ps. same_stays AllRead _)
      (λ ps. behind_gives (λ v. AllRead v → Each PartRead ps) _ _ (λ u. done_gives (λ v. AllRead v → Each PartRead ps) (Object class version ps) (parts_read class version ps)))

  body_reads : (class : List ℕ) (h : Header) (b : Body) → Stays AllRead (body object class h b) (body fresh class h b)
  unfolding body
  body_reads class h (described c) = whole_stays class c.version h _ _ (parts_stay c)
  body_reads class h listed = whole_stays class (pos 5) h _ _ list_stays
  body_reads class h arrayed = whole_stays class (pos 3) h _ _ array_stays
  body_reads class h opaque = same_stays AllRead _

  opaque_gives : (class : List ℕ) (h : Header) → Gives (λ v. AllRead v → ⊥) (body object class h opaque)
  unfolding body
  opaque_gives class h = unread_gives class h

  -- another body, if the first one isn't read
  either_reads : (class : List ℕ) (h : Header) (b d : Body) → (b ≡ opaque) ⊎ (d ≡ b) → Stays AllRead (body object class h b) (body fresh class h d)
  either_reads class h b d (inl e) = never_stays AllRead (body object class h b) (body fresh class h d) (subst (λ (x : Body). Gives (λ v. AllRead v → ⊥) (body object class h x)) (sym e) (opaque_gives class h))
  either_reads class h b d (inr e) = subst (λ (x : Body). Stays AllRead (body object class h b) (body fresh class h x)) (sym e) (body_reads class h b)

  module _ (old new : List ClassDef) (stay : PicksStay old new) where
    headed_stays : (class : List ℕ) → Stays AllRead (headed object old class) (headed fresh new class)
    unfolding headed
    headed_stays class = next_stays AllRead header _ _ (λ h. either_reads class h _ _ (body_stays old new stay class h.version h.sum))

    pub formed_stays : (class : List ℕ) (f : Form) → Stays AllRead (formed object old class f) (formed fresh new class f)
    unfolding formed
    formed_stays class bare = same_stays AllRead _
    formed_stays class (numbered of) = same_stays AllRead _
    formed_stays class with_header = headed_stays class

pub object_stays : (old new : List ClassDef) → PicksStay old new → (levels : ℕ) (class : List ℕ) → Stays AllRead (object_of levels old class) (object_of levels new class)
unfolding object_of
object_stays old new stay zero class = same_stays AllRead _
object_stays old new stay (suc levels) class = formed_stays (object_of levels old) (object_of levels new) (λ name. object_stays old new stay levels name) old new stay class (form_of class)
