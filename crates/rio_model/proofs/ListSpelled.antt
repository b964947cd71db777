-- The bytes of the class list spell it, and are read as it.
use Rattle.std.proofs.Common.{codes, Result, refl, ap}
use Rattle.rio_format.specs.{declared.value.Value.{Value}, Descriptions.{description_classes}, Objects.{only_value}, WrittenBytes.{class_list_bytes}, WrittenList.{class_list_value}}
use Rattle.rio_format.specs.{ReaderState.{ReaderState}, declared.fault.ObjFault.{ObjFault}}
use Rattle.rio_format.proofs.{ObjectLaws.{spelled_is_read}, WrittenValues.{written_is_spelled}}
use Rattle.rio_model.specs.Described.{WrittenBytesAreRead, WrittenClassesAreRead, WrittenListIsSpelled}
use Rattle.rio_model.proofs.{DescribedClasses.{written_list_read}, ListDepth.{written_list_has_versions, written_list_is_shallow}, ListFits.{written_list_fits}}
use Rattle.rio_model.proofs.ListNumbers.{described_have_numbers}

pub written_list_is_spelled : WrittenListIsSpelled
written_list_is_spelled classes start numbers room =
    written_is_spelled description_classes (codes "TList") start (class_list_value classes) (written_list_fits classes numbers) (written_list_is_shallow classes) (written_list_has_versions classes) room

pub written_bytes_are_read : WrittenBytesAreRead
written_bytes_are_read classes start more numbers room =
    let spelled = written_list_is_spelled classes start numbers room in
    let read = spelled_is_read description_classes (codes "TList") start (class_list_value classes) (class_list_bytes start classes) more spelled in
    ap (λ (r : Result (Value × ReaderState) ObjFault). only_value r) read.1

pub written_classes_are_read : WrittenClassesAreRead
written_classes_are_read classes start more described room =
    rw (written_bytes_are_read classes start more (described_have_numbers classes described) room, written_list_read classes described) refl
