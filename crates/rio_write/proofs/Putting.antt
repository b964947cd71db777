-- What is put at the end for a small built-in object is what is written for it there.
use Rattle.std.proofs.Common.{◌≡◌, ℕ, List, [], ◌++◌, Result, Ok, Err, sym, ap, subst, ◌∙◌}
use Rattle.rio_num.specs.{Room.{Room, room_of}, declared.no_memory.NoMemory.{NoMemory}}
use Rattle.rio_format.specs.{declared.class.ClassDef.{ClassDef}, declared.value.Value.{Value}, ReaderState.{WordsMet}, Writer.{Puts, WriterState, next_place}, Written.{written_form}}
use Rattle.rio_write.specs.{Small.{IsSmallObject, own_writing}, Writing.{Writes, with_written}}
use Rattle.rio_write.proofs.SmallLaws.{stand_anywhere}

module _ (v : Value) (small : IsSmallObject v) (classes : List ClassDef) (s s' : WriterState) where
  abbrev grown : List ℕ × WordsMet → WriterState
  grown a = record s { bytes = s.bytes ++ a.0; words = a.1 }

  pub put_is_written : (r : Result (Unit {0}) NoMemory) → Puts (written_form [] 0 v) r s s' → Writes (own_writing classes v) r s s'
  unfolding with_written
  put_is_written (Ok x) e = e ∙ ap grown (sym (stand_anywhere classes (next_place s) s.words v small))
  put_is_written (Err x) e = tt

-- the bytes that were written over no classes are the written form
pub form_is_put : (v : Value) (classes : List ClassDef) (room : Room) (more : List ℕ) (s s' : WriterState) (r : Result (Unit {0}) NoMemory) → classes ≡ [] → room ≡ room_of (written_form classes 0 v) → more ≡ room.bytes → Puts more r s s'
    → Puts (written_form [] 0 v) r s s'
form_is_put v classes room more s s' r none is own put =
    subst (λ (bytes : List ℕ). Puts bytes r s s') (own ∙ ap (λ (b : Room). b.bytes) is ∙ ap (λ (cs : List ClassDef). written_form cs 0 v) none) put
