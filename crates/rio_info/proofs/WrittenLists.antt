-- What is written for declared classes is read as the classes of trees and these.
use Rattle.std.proofs.Common.{◌≡◌, ◌≤◌, ◌+◌, ◌-◌, ◌^◌, ◌++◌, ℕ, List, length, true, Result, Ok, Err, IfOk, sym, subst, arith}
use Rattle.std.specs.List.{list_all}
use Rattle.rio_num.specs.{Room.{Room, room_of}, declared.no_memory.NoMemory.{NoMemory}}
use Rattle.rio_format.specs.{declared.class.ClassDef.{ClassDef}, ClassList.{class_list_at}, TreeClasses.{written_classes}, WrittenBytes.{length_limit, written_list}}
use Rattle.rio_model.specs.Described.{is_described}
use Rattle.rio_model.proofs.{ListNumbers.{written_are_described}, ListSpelled.{written_classes_are_read}}

module _ (start : ℕ) (declared : List ClassDef) (length_fits : length (written_list start declared) ≤ length_limit) (start_fits : start ≤ 65535) (described : list_all is_described declared ≡ true) where
  list_read : (more : List ℕ) → class_list_at start (written_list start declared ++ more) ≡ Ok (written_classes declared)
  list_read more =
      let room : start + length (written_list start declared) ≤ 2 ^ 30 - 2 = omega (arith, length_fits, start_fits) in
      written_classes_are_read (written_classes declared) start more (written_are_described declared described) room

  pub is_read : (written : Result Room NoMemory) → IfOk written (λ b. b ≡ room_of (written_list start declared)) → IfOk written (λ b. (more : List ℕ) → class_list_at start (b.bytes ++ more) ≡ Ok (written_classes declared))
  is_read (Ok b) e = λ more. subst (λ (r : Room). class_list_at start (r.bytes ++ more) ≡ Ok (written_classes declared)) (sym e) (list_read more)
  is_read (Err e) none = none
