-- A basket that is read has 48 bytes or more: those of the fields of its key and of its head.
use Rattle.std.proofs.Common.{◌≡◌, ℕ, ◌+◌, ◌≤◌, Bool, true, false, cond, List, [], ◌∷◌, length, take, drop, Result, Ok, Err, refl, ap, arith}
use Rattle.std.proofs.lemmas.{Bool.{ltb-false}, List.{length-drop}}
use Rattle.std.specs.Prelude.{◌==◌, nat_lt}
use Rattle.byteorder.specs.Endian.{big_number}
use Rattle.rio_num.specs.{At.{place_len_of}, Layout.{behind, broken, choice, done, here, number, text}, Meanings.{Standing, of_bytes, read}, Plain.{Plain, plain, value_of}, Reading.{◌>>=◌, short, skip, text_at, text_head}}
use Rattle.rio_num.proofs.{Plain.{value_ok}, ReadLaws.{bind_ok, ok_is}}
use Rattle.rio_key.specs.{BasketFront.{basket_front, number_within}, BasketHead.{basket_head_of}, Key.{key_fields, key_layout}}
use Rattle.rio_key.specs.{declared.basket_head.BasketFront.{BasketFront}, declared.fault.KeyFault.{KeyFault, TheVariants.{Short}}}
use Rattle.rio_key.specs.{BasketEntries.{entries_in, laid_entries, offsets_in, sound_layout_in}, StoredLayout.{layout_by, layout_in}, declared.basket_layout.Layout.{Layout}}

-- ---- what reading takes

-- so many bytes at least
pub record TakesSo {F A : Type 0} (n : ℕ) (l : Plain F A) : Type 0 where
  pub least : (s t : Standing (Unit {0})) (x : A) → read l s ≡ Ok (x, t) → n + length t.at.rest ≤ length s.at.rest

abbrev Place : Type 0
Place = Standing (Unit {0})

done_takes : {F A : Type 0} (a : A) → TakesSo {F = F} {A = A} 0 (done a)
done_takes {F} {A} a = record { least = λ s t x e. let same = ok_is {E = F} (a, s) (x, t) e in let left : length s.at.rest ≡ length t.at.rest = ap (λ (q : A × Place). length q.1.at.rest) same in omega (arith, left) }

here_takes : {F : Type 0} → TakesSo {F = F} {A = ℕ} 0 here
here_takes {F} = record { least = λ s t x e. let same = ok_is {E = F} (s.at.place, s) (x, t) e in let left : length s.at.rest ≡ length t.at.rest = ap (λ (q : ℕ × Place). length q.1.at.rest) same in omega (arith, left) }

broken_takes : {F A : Type 0} (n : ℕ) (f : F) → TakesSo {F = F} {A = A} n (broken f)
broken_takes n f = record { least = λ s t x e. absurd cc }

choice_takes : {F A : Type 0} (n : ℕ) (b : Bool) (l m : Plain F A) → TakesSo n l → TakesSo n m → TakesSo n (choice b l m)
choice_takes n true l m one two = record { least = λ s t x e. one.least s t x e }
choice_takes n false l m one two = record { least = λ s t x e. two.least s t x e }

both_take : {F A B : Type 0} (n k : ℕ) (l : Plain F B) (m : B → Plain F A) → TakesSo n l → ((y : B) → TakesSo k (m y)) → TakesSo (n + k) (behind l m)
both_take n k l m one two = record {
  least = λ s t x e.
      let parts = bind_ok (read l s) (λ y. read (m y.0) y.1) (x, t) e in
      omega (arith, one.least s parts.0.1 parts.0.0 parts.1, (two parts.0.0).least parts.0.1 t x parts.2);
}

fewer_taken : {F A : Type 0} (n k : ℕ) (l : Plain F A) → k ≤ n → TakesSo n l → TakesSo k l
fewer_taken n k l few takes = record { least = λ s t x e. omega (arith, few, takes.least s t x e) }

module _ {F : Type 0} (f : ℕ → ℕ → F) where
  number_takes : (n : ℕ) → TakesSo n (number f n)
  number_takes n = record { least = λ s t x e. by s t x (nat_lt (length s.at.rest) n) refl e }
    where
      by : (s t : Place) (x : ℕ) (b : Bool) → nat_lt (length s.at.rest) n ≡ b → of_bytes f s (cond b (Err (short s.at.place n)) (Ok (big_number n s.at.rest, skip n s.at))) ≡ Ok (x, t) → n + length t.at.rest ≤ length s.at.rest
      by s t x true is e = absurd cc
      by s t x false is e =
          let same = ok_is {E = F} (big_number n s.at.rest, record s { at = skip n s.at }) (x, t) e in
          let left : length (drop n s.at.rest) ≡ length t.at.rest = ap (λ (q : ℕ × Place). length q.1.at.rest) same in
          omega (arith, left, length-drop n s.at.rest, ltb-false (length s.at.rest) n is)

  head_some : (rest : List ℕ) → 1 ≤ (text_head rest).0
  head_some [] = omega arith
  head_some (b ∷ bs) = by (b == 255)
    where
      by : (t : Bool) → 1 ≤ (cond {A = ℕ × ℕ} t (5, (cond (nat_lt (length bs) 4) 0 (big_number 4 bs))) (1, b)).0
      by true = omega arith
      by false = omega arith

  text_takes : TakesSo 1 (text f)
  unfolding text_at
  text_takes = record { least = λ s t x e. by s t x (text_head s.at.rest) (head_some s.at.rest) (nat_lt (length s.at.rest) ((text_head s.at.rest).0 + (text_head s.at.rest).1)) refl e }
    where
      by : (s t : Place) (x : List ℕ) (h : ℕ × ℕ) → 1 ≤ h.0 → (b : Bool) → nat_lt (length s.at.rest) (h.0 + h.1) ≡ b
          → of_bytes f s (cond b (Err (short s.at.place (h.0 + h.1))) (Ok (take h.1 (drop h.0 s.at.rest), skip (h.0 + h.1) s.at))) ≡ Ok (x, t) → 1 + length t.at.rest ≤ length s.at.rest
      by s t x h some true is e = absurd cc
      by s t x h some false is e =
          let same = ok_is {E = F} (take h.1 (drop h.0 s.at.rest), record s { at = skip (h.0 + h.1) s.at }) (x, t) e in
          let left : length (drop (h.0 + h.1) s.at.rest) ≡ length t.at.rest = ap (λ (q : List ℕ × Place). length q.1.at.rest) same in
          omega (arith, left, length-drop (h.0 + h.1) s.at.rest, ltb-false (length s.at.rest) (h.0 + h.1) is, some)

-- ---- a key, and the head of a basket

place_takes : (version : ℕ) → TakesSo 4 (number Short (place_len_of version))
place_takes version = fewer_taken (place_len_of version) 4 _ (by (nat_lt 1000 version)) (number_takes Short (place_len_of version))
  where
    by : (b : Bool) → 4 ≤ cond b 8 4
    by true = omega arith
    by false = omega arith

fields_take : TakesSo 29 key_fields
unfolding key_fields
fields_take =
    both_take 4 25 _ _ (number_takes Short 4) (λ nbytes. both_take 2 23 _ _ (number_takes Short 2) (λ version. both_take 4 19 _ _ (number_takes Short 4) (λ objlen. both_take 4 15 _ _ (number_takes Short 4) (λ datime.
    both_take 2 13 _ _ (number_takes Short 2) (λ keylen. both_take 2 11 _ _ (number_takes Short 2) (λ cycle. both_take 4 7 _ _ (place_takes version) (λ seek. both_take 4 3 _ _ (place_takes version) (λ pdir.
    both_take 1 2 _ _ (text_takes Short) (λ class. both_take 1 1 _ _ (text_takes Short) (λ name. both_take 1 0 _ _ (text_takes Short) (λ title. done_takes _)))))))))))

key_takes : TakesSo 29 key_layout
unfolding key_layout
key_takes =
    both_take 0 29 _ _ here_takes (λ place. both_take 29 0 _ _ fields_take (λ key. both_take 0 0 _ _ here_takes (λ end. choice_takes 0 _ _ _ (broken_takes 0 _) (choice_takes 0 _ _ _ (broken_takes 0 _) (done_takes key)))))

within_takes : (end n : ℕ) → TakesSo n (number_within end n)
within_takes end n = fewer_taken (0 + n) n _ (omega arith) (both_take 0 n _ _ here_takes (λ place. choice_takes n _ _ _ (broken_takes n _) (number_takes Short n)))

head_takes : (end : ℕ) → TakesSo 19 (basket_head_of (number_within end))
unfolding basket_head_of
head_takes end =
    both_take 2 17 _ _ (within_takes end 2) (λ version. both_take 4 13 _ _ (within_takes end 4) (λ buffer_size. both_take 4 9 _ _ (within_takes end 4) (λ nev_size. both_take 4 5 _ _ (within_takes end 4) (λ nev.
    both_take 4 1 _ _ (within_takes end 4) (λ last. both_take 1 0 _ _ (within_takes end 1) (λ flag. done_takes _))))))

front_takes : TakesSo 48 basket_front
unfolding basket_front
front_takes = both_take 0 48 _ _ here_takes (λ start. both_take 29 19 _ _ key_takes (λ key. both_take 0 19 _ _ here_takes (λ place. both_take 19 0 _ _ (head_takes (start + key.keylen)) (λ head. done_takes _))))

-- ---- a basket

layout_least : (offsets : Bool) (bytes : List ℕ) (layout : Layout) → layout_in offsets bytes ≡ Ok layout → 48 ≤ length bytes
layout_least offsets bytes layout e = by (value_of (read basket_front (plain (record { place = 0; rest = bytes })))) refl e
  where
    by : (r : Result BasketFront KeyFault) → value_of (read basket_front (plain (record { place = 0; rest = bytes }))) ≡ r → layout_by offsets (length bytes) r ≡ Ok layout → 48 ≤ length bytes
    by (Err d) is e = absurd cc
    by (Ok front) is e =
        let v = value_ok (read basket_front (plain (record { place = 0; rest = bytes }))) front is in
        omega (arith, front_takes.least (plain (record { place = 0; rest = bytes })) v.0 front v.1)

pub entries_least : (offsets : Bool) (bytes : List ℕ) (entries : List (List ℕ)) → entries_in offsets bytes ≡ Ok entries → 48 ≤ length bytes
unfolding entries_in sound_layout_in
entries_least offsets bytes entries e =
    let one = bind_ok (sound_layout_in offsets bytes) (λ layout. Ok (laid_entries offsets layout bytes)) entries e in
    let two = bind_ok (layout_in offsets bytes) (λ layout. cond offsets (offsets_in layout bytes) (Ok tt) >>= λ all. Ok layout) one.0 one.1 in
    layout_least offsets bytes two.0 two.1
