-- The object of a record, by its key and its bytes.
use Rattle.std.proofs.Common.{◌≡◌, ◌∙◌, ℕ, List, drop, ◌&&◌, Some, None, Ok, Err, refl, sym, ap, cond}
use Rattle.rio_num.specs.Room.{is_padding}
use Rattle.rio_format.specs.{declared.class.ClassDef.{ClassDef}, declared.value.Value.{Value}, Frames.{Step}, Objects.{first_at}}
use Rattle.rio_key.specs.declared.head.KeyHead.{KeyHead}
use Rattle.rio_state.specs.{Contents.{can_be_stored, object_in, stored_in}, KeyedRecords.{KeyedRecord}}
use Rattle.rio_recover.specs.Keys.{keyed}

-- what can be stored in a record depends on its key alone
stored_same : (classes : List ClassDef) (r s : KeyedRecord) (x : Step Value) → r.head ≡ s.head → stored_in classes r x ≡ stored_in classes s x
stored_same classes r s (Ok x) e =
    ap (λ (h : KeyHead). cond (is_padding x.1.at.rest && can_be_stored classes (keyed h) x.0) (Some x.0) None) e
stored_same classes r s (Err f) e = refl

pub object_same : (classes : List ClassDef) (r : KeyedRecord) (head : KeyHead) (bytes : List ℕ) → r.head ≡ head → bytes ≡ r.bytes
    → stored_in classes (keyed head) (first_at classes head.class head.keylen (drop head.keylen bytes)) ≡ object_in classes r
unfolding object_in
object_same classes r head bytes e b =
    (λ i. stored_in classes (keyed head) (first_at classes (sym e i).class (sym e i).keylen (drop (sym e i).keylen (b i))))
    ∙ stored_same classes (keyed head) r (first_at classes r.head.class r.head.keylen (drop r.head.keylen r.bytes)) (sym e)
