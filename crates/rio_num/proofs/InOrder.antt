-- What is read by one part behind the other, put together and taken apart.
use Rattle.std.proofs.Common.{◌≡◌, ℕ, Bool, true, false, List, Ok, refl, ap, ◌∙◌}
use Rattle.rio_num.specs.{At.{At}, Reading.{bytes_at, number_at}, Layout.{Layout, done, number, bytes, behind, must}, Meanings.{Standing, of_bytes, read}}
use Rattle.rio_num.proofs.ReadLaws.{bind_is, bind_ok}

-- `read`, as a type that tells its description
pub record Reads {W F A : Type 0} (l : Layout W F A) (s : Standing W) (y : A) (s' : Standing W) : Type 0 where
  pub so : read l s ≡ Ok (y, s')

module _ {W F A : Type 0} {s : Standing W} {y : A} {s' : Standing W} where
  pub next_of : {B : Type 0} {l : Layout W F B} {k : B → Layout W F A} {P : Type 0} → Reads (behind l k) s y s' → ((x : B) (u : Standing W) → read l s ≡ Ok (x, u) → Reads (k x) u y s' → P) → P
  next_of {l = l} {k = k} c next =
      let w = bind_ok (read l s) (λ x. read (k x.0) x.1) (y, s') c.so in
      next w.0.0 w.0.1 w.1 (record { so = w.2 })

  pub kept_of : {f : F} {k : Unit {0} → Layout W F A} {P : Type 0} (c : Bool) → Reads (behind (must c f) k) s y s' → (c ≡ true → Reads (k tt) s y s' → P) → P
  kept_of true r next = next refl (record { so = r.so })
  kept_of false r next = absurd (let no = r.so in cc)

  pub reads_number : {f : ℕ → ℕ → F} {n : ℕ} {k : ℕ → Layout W F A} (x : ℕ) (t : At) → number_at n s.at ≡ Ok (x, t) → Reads (k x) (record s { at = t }) y s' → Reads (behind (number f n) k) s y s'
  reads_number {f = f} {n = n} {k = k} x t e c = record { so = bind_is (of_bytes f s (number_at n s.at)) (x, record s { at = t }) (λ z. read (k z.0) z.1) (ap (of_bytes f s) e) ∙ c.so }

  pub reads_bytes : {f : ℕ → ℕ → F} {n : ℕ} {k : List ℕ → Layout W F A} (x : List ℕ) (t : At) → bytes_at n s.at ≡ Ok (x, t) → Reads (k x) (record s { at = t }) y s' → Reads (behind (bytes f n) k) s y s'
  reads_bytes {f = f} {n = n} {k = k} x t e c = record { so = bind_is (of_bytes f s (bytes_at n s.at)) (x, record s { at = t }) (λ z. read (k z.0) z.1) (ap (of_bytes f s) e) ∙ c.so }

  pub reads_kept : {f : F} {k : Unit {0} → Layout W F A} (c : Bool) → c ≡ true → Reads (k tt) s y s' → Reads (behind (must c f) k) s y s'
  reads_kept true e c = record { so = c.so }
  reads_kept false e c = absurd cc

pub reads_done : {W F A : Type 0} (a : A) (s : Standing W) → Reads {F = F} (done a) s a s
reads_done a s = record { so = refl }
