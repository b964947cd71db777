-- What a sink takes of lists and parts, one after the other.
use Rattle.std.proofs.Common.{◌≡◌, ◌<◌, ◌≤◌, ◌⊎◌, inl, inr, ℕ, List, [], ◌∷◌, length, map, slice_index_or, Bool, Result, refl, arith}
use Rattle.std.specs.Prelude.{pos, codes}
use Rattle.byteorder.specs.Endian.{big_bytes}
use Rattle.rio_num.specs.declared.no_memory.NoMemory.{NoMemory}
use Rattle.rio_format.specs.{declared.kind.Kind.TheVariants.{Plain, Text as Texted}, declared.kind.Primitive.{Primitive, TheVariants.{I32, U16, U32}}, Slots.{any_pointer, based, flags, kinded, link, many}}
use Rattle.rio_format.specs.{Written.{Writing, all, number_array_bytes, arrayed_bytes, bare_bytes, both, counted_bytes, just, link_bytes, listed_bytes}, Writer.{Writer, WriterState}}
use Rattle.rio_write.specs.Sinks.{Accepted, Accepts, RoomFor}
use Rattle.rio_write.proofs.{Few.{one_is, two_are, three_are, four_are}, SinkLaws.{behind_room, both_accept, front_room, nothing_accepted}}

module _ {K : Type 0} (stands : K → WriterState → Type 0) (bounded : Bool) where
  -- ---- a pointer and a text

  module _ {X : Type 0} (h : X → Writing) (xs : List X) (k : K) where
    module _ (a b : X) (le : 2 ≤ length xs) (lt : length xs < 3) (e : a ≡ slice_index_or xs 0 a) (f : b ≡ slice_index_or xs 1 b) where
      link_is : link_bytes (map h xs) ≡ both ((h a).bytes any_pointer) ((h b).bytes (kinded Texted))
      link_is = rw (two_are xs a b le lt e f) refl

      pub link_room : RoomFor stands bounded (link_bytes (map h xs)) k → RoomFor stands bounded ((h a).bytes any_pointer) k
      link_room room = front_room stands bounded ((h a).bytes any_pointer) ((h b).bytes (kinded Texted)) k (rw link_is at room)

      pub link_text_room : (k1 : K) → Accepted stands ((h a).bytes any_pointer) k k1 → RoomFor stands bounded (link_bytes (map h xs)) k → RoomFor stands bounded ((h b).bytes (kinded Texted)) k1
      link_text_room k1 w room = behind_room stands bounded ((h a).bytes any_pointer) ((h b).bytes (kinded Texted)) k k1 w (rw link_is at room)

      pub link_writes : (k1 k2 : K) (r : Result (Unit {0}) NoMemory) → Accepted stands ((h a).bytes any_pointer) k k1 → Accepts stands ((h b).bytes (kinded Texted)) r k1 k2 → Accepts stands (link_bytes (map h xs)) r k k2
      link_writes k1 k2 r w done = rw link_is (both_accept stands ((h a).bytes any_pointer) ((h b).bytes (kinded Texted)) k k1 k2 r w done)

  pub no_link : {X : Type 0} (h : X → Writing) (xs : List X) (k : K) → (length xs < 2) ⊎ (3 ≤ length xs) → Accepted stands (link_bytes (map h xs)) k k
  no_link h [] k n = nothing_accepted stands k
  no_link h (x ∷ []) k n = nothing_accepted stands k
  no_link h (x ∷ y ∷ []) k (inl n) = absurd (omega arith)
  no_link h (x ∷ y ∷ []) k (inr n) = absurd (omega arith)
  no_link h (x ∷ y ∷ z ∷ xs) k n = nothing_accepted stands k

  -- ---- a counted list

  module _ {X : Type 0} (h : X → Writing) (of : Primitive) (xs : List X) (k : K) where
    counted_is : 0 < length xs → counted_bytes of (map h xs) ≡ both (just (1 ∷ [])) (all (kinded (Plain of)) (map h xs))
    counted_is lt = by xs lt
      where
        by : (xs : List X) → 0 < length xs → counted_bytes of (map h xs) ≡ both (just (1 ∷ [])) (all (kinded (Plain of)) (map h xs))
        by [] lt = absurd (omega arith)
        by (x ∷ xs) lt = refl

    pub none_counted : length xs ≡ 0 → (k1 : K) (r : Result (Unit {0}) NoMemory) → Accepts stands (just (0 ∷ [])) r k k1 → Accepts stands (counted_bytes of (map h xs)) r k k1
    none_counted none k1 r done = by xs none
      where
        by : (xs : List X) → length xs ≡ 0 → Accepts stands (counted_bytes of (map h xs)) r k k1
        by [] none = done
        by (x ∷ xs) none = absurd (omega (arith, none))

    pub counted_room : 0 < length xs → (k1 : K) → Accepted stands (just (1 ∷ [])) k k1 → RoomFor stands bounded (counted_bytes of (map h xs)) k → RoomFor stands bounded (all (kinded (Plain of)) (map h xs)) k1
    counted_room lt k1 w room = behind_room stands bounded (just (1 ∷ [])) (all (kinded (Plain of)) (map h xs)) k k1 w (rw (counted_is lt) at room)

    pub counted_writes : 0 < length xs → (k1 k2 : K) (r : Result (Unit {0}) NoMemory) → Accepted stands (just (1 ∷ [])) k k1 → Accepts stands (all (kinded (Plain of)) (map h xs)) r k1 k2 → Accepts stands (counted_bytes of (map h xs)) r k k2
    counted_writes lt k1 k2 r w done = rw (counted_is lt) (both_accept stands (just (1 ∷ [])) (all (kinded (Plain of)) (map h xs)) k k1 k2 r w done)

  -- ---- a TArray

  module _ {X : Type 0} (h : X → Writing) (of : Primitive) (xs : List X) (k : K) where
    module _ (a : X) (count : ℕ) (c : count ≡ (h a).count) (le : 1 ≤ length xs) (lt : length xs < 2) (e : a ≡ slice_index_or xs 0 a) where
      abbrev items : Writer
      items = (h a).bytes (many (kinded (Plain of)))

      array_is : number_array_bytes of (map h xs) ≡ both (just (big_bytes 4 count)) items
      array_is = rw (one_is xs a le lt e, c) refl

      pub array_room : (k1 : K) → Accepted stands (just (big_bytes 4 count)) k k1 → RoomFor stands bounded (number_array_bytes of (map h xs)) k → RoomFor stands bounded items k1
      array_room k1 w room = behind_room stands bounded (just (big_bytes 4 count)) items k k1 w (rw array_is at room)

      pub array_writes : (k1 k2 : K) (r : Result (Unit {0}) NoMemory) → Accepted stands (just (big_bytes 4 count)) k k1 → Accepts stands items r k1 k2 → Accepts stands (number_array_bytes of (map h xs)) r k k2
      array_writes k1 k2 r w done = rw array_is (both_accept stands (just (big_bytes 4 count)) items k k1 k2 r w done)

  pub no_array : {X : Type 0} (h : X → Writing) (of : Primitive) (xs : List X) (k : K) → (length xs < 1) ⊎ (2 ≤ length xs) → Accepted stands (number_array_bytes of (map h xs)) k k
  no_array h of [] k n = nothing_accepted stands k
  no_array h of (x ∷ []) k (inl n) = absurd (omega arith)
  no_array h of (x ∷ []) k (inr n) = absurd (omega arith)
  no_array h of (x ∷ y ∷ xs) k n = nothing_accepted stands k

  -- ---- a TObject

  module _ {X : Type 0} (h : X → Writing) (xs : List X) (k : K) where
    module _ (a b : X) (le : 2 ≤ length xs) (lt : length xs < 3) (e : a ≡ slice_index_or xs 0 a) (f : b ≡ slice_index_or xs 1 b) where
      abbrev id : Writer
      id = (h a).bytes (kinded (Plain U32))

      abbrev bits : Writer
      bits = (h b).bytes flags

      abbrev version : Writer
      version = just (big_bytes 2 1)

      bare_is : bare_bytes (map h xs) ≡ both version (both id bits)
      bare_is = rw (two_are xs a b le lt e f) refl

      module _ (k1 : K) (w1 : Accepted stands version k k1) where
        rest_room : RoomFor stands bounded (bare_bytes (map h xs)) k → RoomFor stands bounded (both id bits) k1
        rest_room room = behind_room stands bounded version (both id bits) k k1 w1 (rw bare_is at room)

        pub id_room : RoomFor stands bounded (bare_bytes (map h xs)) k → RoomFor stands bounded id k1
        id_room room = front_room stands bounded id bits k1 (rest_room room)

        module _ (k2 : K) (w2 : Accepted stands id k1 k2) where
          pub bits_room : RoomFor stands bounded (bare_bytes (map h xs)) k → RoomFor stands bounded bits k2
          bits_room room = behind_room stands bounded id bits k1 k2 w2 (rest_room room)

          pub bare_writes : (k3 : K) (r : Result (Unit {0}) NoMemory) → Accepts stands bits r k2 k3 → Accepts stands (bare_bytes (map h xs)) r k k3
          bare_writes k3 r done = rw bare_is (both_accept stands version (both id bits) k k1 k3 r w1 (both_accept stands id bits k1 k2 k3 r w2 done))

  module _ {X : Type 0} (h : X → Writing) (xs : List X) (k : K) where
    module _ (a b d : X) (le : 3 ≤ length xs) (lt : length xs < 4) (e : a ≡ slice_index_or xs 0 a) (f : b ≡ slice_index_or xs 1 b) (g : d ≡ slice_index_or xs 2 d) where
      abbrev pid : Writer
      pid = (h d).bytes (kinded (Plain U16))

      abbrev own_version : Writer
      own_version = just (big_bytes 2 1)

      abbrev own_id : Writer
      own_id = (h a).bytes (kinded (Plain U32))

      abbrev own_bits : Writer
      own_bits = (h b).bytes flags

      with_pid_is : bare_bytes (map h xs) ≡ both own_version (both own_id (both own_bits pid))
      with_pid_is = rw (three_are xs a b d le lt e f g) refl

      module _ (k1 : K) (w1 : Accepted stands own_version k k1) where
        behind_version : RoomFor stands bounded (bare_bytes (map h xs)) k → RoomFor stands bounded (both own_id (both own_bits pid)) k1
        behind_version room = behind_room stands bounded own_version (both own_id (both own_bits pid)) k k1 w1 (rw with_pid_is at room)

        pub pid_id_room : RoomFor stands bounded (bare_bytes (map h xs)) k → RoomFor stands bounded own_id k1
        pid_id_room room = front_room stands bounded own_id (both own_bits pid) k1 (behind_version room)

        module _ (k2 : K) (w2 : Accepted stands own_id k1 k2) where
          behind_id : RoomFor stands bounded (bare_bytes (map h xs)) k → RoomFor stands bounded (both own_bits pid) k2
          behind_id room = behind_room stands bounded own_id (both own_bits pid) k1 k2 w2 (behind_version room)

          pub pid_bits_room : RoomFor stands bounded (bare_bytes (map h xs)) k → RoomFor stands bounded own_bits k2
          pid_bits_room room = front_room stands bounded own_bits pid k2 (behind_id room)

          module _ (k3 : K) (w3 : Accepted stands own_bits k2 k3) where
            pub pid_room : RoomFor stands bounded (bare_bytes (map h xs)) k → RoomFor stands bounded pid k3
            pid_room room = behind_room stands bounded own_bits pid k2 k3 w3 (behind_id room)

            pub pid_writes : (k4 : K) (r : Result (Unit {0}) NoMemory) → Accepts stands pid r k3 k4 → Accepts stands (bare_bytes (map h xs)) r k k4
            pid_writes k4 r done =
                rw with_pid_is (both_accept stands own_version (both own_id (both own_bits pid)) k k1 k4 r w1
                (both_accept stands own_id (both own_bits pid) k1 k2 k4 r w2 (both_accept stands own_bits pid k2 k3 k4 r w3 done)))

  pub no_bare : {X : Type 0} (h : X → Writing) (xs : List X) (k : K) → (length xs < 2) ⊎ (4 ≤ length xs) → Accepted stands (bare_bytes (map h xs)) k k
  no_bare h [] k n = nothing_accepted stands k
  no_bare h (x ∷ []) k n = nothing_accepted stands k
  no_bare h (x ∷ y ∷ []) k (inl n) = absurd (omega arith)
  no_bare h (x ∷ y ∷ []) k (inr n) = absurd (omega arith)
  no_bare h (x ∷ y ∷ z ∷ []) k (inl n) = absurd (omega arith)
  no_bare h (x ∷ y ∷ z ∷ []) k (inr n) = absurd (omega arith)
  no_bare h (x ∷ y ∷ z ∷ w ∷ xs) k n = nothing_accepted stands k

  -- ---- a TList

  module _ {X : Type 0} (h : X → Writing) (xs : List X) (k : K) where
    module _ (a b c : X) (n : ℕ) (same : n ≡ (h c).count) (le : 3 ≤ length xs) (lt : length xs < 4) (e : a ≡ slice_index_or xs 0 a) (f : b ≡ slice_index_or xs 1 b) (g : c ≡ slice_index_or xs 2 c) where
      abbrev base : Writer
      base = (h a).bytes (based (codes "TObject") (pos 1))

      abbrev name : Writer
      name = (h b).bytes (kinded Texted)

      abbrev count : Writer
      count = just (big_bytes 4 n)

      abbrev links : Writer
      links = (h c).bytes (many link)

      listed_is : listed_bytes (map h xs) ≡ both base (both name (both count links))
      listed_is = rw (three_are xs a b c le lt e f g, same) refl

      pub list_base_room : RoomFor stands bounded (listed_bytes (map h xs)) k → RoomFor stands bounded base k
      list_base_room room = front_room stands bounded base (both name (both count links)) k (rw listed_is at room)

      module _ (k1 : K) (w1 : Accepted stands base k k1) where
        named_room : RoomFor stands bounded (listed_bytes (map h xs)) k → RoomFor stands bounded (both name (both count links)) k1
        named_room room = behind_room stands bounded base (both name (both count links)) k k1 w1 (rw listed_is at room)

        pub list_name_room : RoomFor stands bounded (listed_bytes (map h xs)) k → RoomFor stands bounded name k1
        list_name_room room = front_room stands bounded name (both count links) k1 (named_room room)

        module _ (k2 k3 : K) (w2 : Accepted stands name k1 k2) (w3 : Accepted stands count k2 k3) where
          pub links_room : RoomFor stands bounded (listed_bytes (map h xs)) k → RoomFor stands bounded links k3
          links_room room = behind_room stands bounded count links k2 k3 w3 (behind_room stands bounded name (both count links) k1 k2 w2 (named_room room))

          pub listed_writes : (k4 : K) (r : Result (Unit {0}) NoMemory) → Accepts stands links r k3 k4 → Accepts stands (listed_bytes (map h xs)) r k k4
          listed_writes k4 r done =
              rw listed_is (both_accept stands base (both name (both count links)) k k1 k4 r w1 (both_accept stands name (both count links) k1 k2 k4 r w2 (both_accept stands count links k2 k3 k4 r w3 done)))

  pub no_listed : {X : Type 0} (h : X → Writing) (xs : List X) (k : K) → (length xs < 3) ⊎ (4 ≤ length xs) → Accepted stands (listed_bytes (map h xs)) k k
  no_listed h [] k n = nothing_accepted stands k
  no_listed h (x ∷ []) k n = nothing_accepted stands k
  no_listed h (x ∷ y ∷ []) k n = nothing_accepted stands k
  no_listed h (x ∷ y ∷ z ∷ []) k (inl n) = absurd (omega arith)
  no_listed h (x ∷ y ∷ z ∷ []) k (inr n) = absurd (omega arith)
  no_listed h (x ∷ y ∷ z ∷ w ∷ xs) k n = nothing_accepted stands k

  -- ---- a TObjArray

  module _ {X : Type 0} (h : X → Writing) (xs : List X) (k : K) where
    module _ (a b c d : X) (n : ℕ) (same : n ≡ (h d).count) (le : 4 ≤ length xs) (lt : length xs < 5) (e : a ≡ slice_index_or xs 0 a) (f : b ≡ slice_index_or xs 1 b) (g : c ≡ slice_index_or xs 2 c) (j : d ≡ slice_index_or xs 3 d) where
      abbrev array_base : Writer
      array_base = (h a).bytes (based (codes "TObject") (pos 1))

      abbrev array_name : Writer
      array_name = (h b).bytes (kinded Texted)

      abbrev array_count : Writer
      array_count = just (big_bytes 4 n)

      abbrev lower : Writer
      lower = (h c).bytes (kinded (Plain I32))

      abbrev pointers : Writer
      pointers = (h d).bytes (many any_pointer)

      arrayed_is : arrayed_bytes (map h xs) ≡ both array_base (both array_name (both array_count (both lower pointers)))
      arrayed_is = rw (four_are xs a b c d le lt e f g j, same) refl

      pub array_base_room : RoomFor stands bounded (arrayed_bytes (map h xs)) k → RoomFor stands bounded array_base k
      array_base_room room = front_room stands bounded array_base (both array_name (both array_count (both lower pointers))) k (rw arrayed_is at room)

      module _ (k1 : K) (w1 : Accepted stands array_base k k1) where
        array_named_room : RoomFor stands bounded (arrayed_bytes (map h xs)) k → RoomFor stands bounded (both array_name (both array_count (both lower pointers))) k1
        array_named_room room = behind_room stands bounded array_base (both array_name (both array_count (both lower pointers))) k k1 w1 (rw arrayed_is at room)

        pub array_name_room : RoomFor stands bounded (arrayed_bytes (map h xs)) k → RoomFor stands bounded array_name k1
        array_name_room room = front_room stands bounded array_name (both array_count (both lower pointers)) k1 (array_named_room room)

        module _ (k2 k3 : K) (w2 : Accepted stands array_name k1 k2) (w3 : Accepted stands array_count k2 k3) where
          last_room : RoomFor stands bounded (arrayed_bytes (map h xs)) k → RoomFor stands bounded (both lower pointers) k3
          last_room room = behind_room stands bounded array_count (both lower pointers) k2 k3 w3 (behind_room stands bounded array_name (both array_count (both lower pointers)) k1 k2 w2 (array_named_room room))

          pub lower_room : RoomFor stands bounded (arrayed_bytes (map h xs)) k → RoomFor stands bounded lower k3
          lower_room room = front_room stands bounded lower pointers k3 (last_room room)

          module _ (k4 : K) (w4 : Accepted stands lower k3 k4) where
            pub pointers_room : RoomFor stands bounded (arrayed_bytes (map h xs)) k → RoomFor stands bounded pointers k4
            pointers_room room = behind_room stands bounded lower pointers k3 k4 w4 (last_room room)

            pub arrayed_writes : (k5 : K) (r : Result (Unit {0}) NoMemory) → Accepts stands pointers r k4 k5 → Accepts stands (arrayed_bytes (map h xs)) r k k5
            arrayed_writes k5 r done =
                rw arrayed_is (both_accept stands array_base (both array_name (both array_count (both lower pointers))) k k1 k5 r w1 (both_accept stands array_name (both array_count (both lower pointers)) k1 k2 k5 r w2
                (both_accept stands array_count (both lower pointers) k2 k3 k5 r w3 (both_accept stands lower pointers k3 k4 k5 r w4 done))))

  pub no_arrayed : {X : Type 0} (h : X → Writing) (xs : List X) (k : K) → (length xs < 4) ⊎ (5 ≤ length xs) → Accepted stands (arrayed_bytes (map h xs)) k k
  no_arrayed h [] k n = nothing_accepted stands k
  no_arrayed h (x ∷ []) k n = nothing_accepted stands k
  no_arrayed h (x ∷ y ∷ []) k n = nothing_accepted stands k
  no_arrayed h (x ∷ y ∷ z ∷ []) k n = nothing_accepted stands k
  no_arrayed h (x ∷ y ∷ z ∷ w ∷ []) k (inl n) = absurd (omega arith)
  no_arrayed h (x ∷ y ∷ z ∷ w ∷ []) k (inr n) = absurd (omega arith)
  no_arrayed h (x ∷ y ∷ z ∷ w ∷ v ∷ xs) k n = nothing_accepted stands k
