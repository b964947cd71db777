-- An object that is read is no integer: it says no number.
use Rattle.std.proofs.Common.{◌≡◌, ℕ, zero, suc, List, Ok, sym, ap, ◌∙◌}
use Rattle.std.specs.Prelude.{ℤ, pos}
use Rattle.rio_num.specs.{Layout.{behind, broken, done}, Meanings.{read}}
use Rattle.rio_num.proofs.ReadLaws.{bind_ok, ok_is}
use Rattle.rio_format.specs.{Frames.{ObjLayout}, ReaderState.{ReaderState}, declared.words.Header.{Header}, declared.fault.ObjFault.{ObjFault}, Bodies.{Body, described, listed, arrayed, opaque, form_of}}
use Rattle.rio_format.specs.{Objects.{Objects, number_array, bare_layout, body, closed, depth_limit, formed, headed, object_of, unread, whole_object}, declared.form.Form.{Form, TheVariants.{Bare, Numbers, Headed}}}
use Rattle.rio_format.specs.{declared.class.ClassDef.{ClassDef}, declared.kind.Primitive.{Primitive}, Accessors.{number_in}, declared.value.Part.{Part}}
use Rattle.rio_format.specs.declared.value.Value.{Value, Object, Opaque, out-Value, out-roll-Value, TheVariants.{rolls-Object, rolls-Opaque}}
use Rattle.rio_format.specs.declared.value.Value.TheOpen as layer
use Rattle.rio_entry.specs.Leaves.{said_by}

object_says : (class : List ℕ) (version : ℤ) (ps : List Part) → said_by (Object class version ps) ≡ pos 0
object_says class version ps = ap number_in (ap out-Value (sym (rolls-Object class version ps)) ∙ out-roll-Value (layer.Object class version ps))

opaque_says : (class : List ℕ) (n : ℕ) → said_by (Opaque class n) ≡ pos 0
opaque_says class n = ap number_in (ap out-Value (sym (rolls-Opaque class n)) ∙ out-roll-Value (layer.Opaque class n))

-- what is read by the description says no number
record SaysNone (l : ObjLayout Value) : Type 0 where
  none : (s : ReaderState) (v : Value) (s1 : ReaderState) → read l s ≡ Ok (v, s1) → said_by v ≡ pos 0

at_end : (v : Value) → said_by v ≡ pos 0 → SaysNone (done v)
at_end v says = record { none = λ s w s1 e. ap (λ (q : Value × ReaderState). said_by q.0) (sym (ok_is {E = ObjFault} (v, s) (w, s1) e)) ∙ says }

nowhere : (d : ObjFault) → SaysNone (broken d)
nowhere d = record { none = λ s v s1 e. absurd cc }

then : {B : Type 0} (l : ObjLayout B) (k : B → ObjLayout Value) → ((x : B) → SaysNone (k x)) → SaysNone (behind l k)
then l k after = record {
  none = λ s v s1 e.
      let first = bind_ok (read l s) (λ x. read (k x.0) x.1) (v, s1) e in
      (after first.0.0).none first.0.1 v s1 first.2;
}

whole_says : (class : List ℕ) (version : ℤ) (h : Header) (inside : ObjLayout (List Part)) → SaysNone (whole_object class version h inside)
unfolding whole_object closed
whole_says class version h inside = then _ _ (λ ps. then _ _ (λ x. at_end _ (object_says class version ps)))

bare_says : SaysNone bare_layout
unfolding bare_layout
bare_says = then _ _ (λ place. then _ _ (λ version. then _ _ (λ x. then _ _ (λ id. then _ _ (λ bits. then _ _ (λ pid. at_end _ (object_says _ _ _)))))))

array_says : (class : List ℕ) (of : Primitive) → SaysNone (number_array class of)
unfolding number_array
array_says class of = then _ _ (λ count. then _ _ (λ items. at_end _ (object_says _ _ _)))

unread_says : (class : List ℕ) (h : Header) → SaysNone (unread class h)
unfolding unread
unread_says class h = then _ _ (λ place. then _ _ (λ x. then _ _ (λ y. at_end _ (opaque_says _ _))))

body_says : (object : Objects) (class : List ℕ) (h : Header) (b : Body) → SaysNone (body object class h b)
unfolding body
body_says object class h (described c) = whole_says class _ h _
body_says object class h listed = whole_says class _ h _
body_says object class h arrayed = whole_says class _ h _
body_says object class h opaque = unread_says class h

formed_says : (object : Objects) (classes : List ClassDef) (class : List ℕ) (form : Form) → SaysNone (formed object classes class form)
unfolding formed headed
formed_says object classes class Bare = bare_says
formed_says object classes class (Numbers of) = array_says class of
formed_says object classes class Headed = then _ _ (λ h. body_says object class h _)

object_says_none : (levels : ℕ) (classes : List ClassDef) (class : List ℕ) → SaysNone (object_of levels classes class)
unfolding object_of
object_says_none zero classes class = then _ _ (λ place. nowhere _)
object_says_none (suc levels) classes class = formed_says (object_of levels classes) classes class (form_of class)

-- an object that is read says no number
pub object_is_no_number : (classes : List ClassDef) (class : List ℕ) (s : ReaderState) (v : Value) (s1 : ReaderState) → read (object_of depth_limit classes class) s ≡ Ok (v, s1) → said_by v ≡ pos 0
object_is_no_number classes class s v s1 e = (object_says_none depth_limit classes class).none s v s1 e
