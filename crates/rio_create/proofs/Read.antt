-- A file that begins with the bytes of a new one is read as it.
use Rattle.std.proofs.Common.{refl, ap}
use Rattle.rio_head.specs.Uuid.{uuid_of_file}
use Rattle.rio_state.specs.Closing.{KeptRecords}
use Rattle.rio_create.specs.NewFile.{NewFilesAreRead, new_file}
use Rattle.rio_create.proofs.Images.{end_word, has_directory, new_chain, new_left, open_head}
use Rattle.rio_create.proofs.{NewFiles.{links, new_held, new_info, new_kept, new_keys, new_records}, Uuids.{length-uuid}}

pub new_files : NewFilesAreRead
unfolding new_file
new_files name datime file short low has =
    let uuid = uuid_of_file name in
    let long = length-uuid name in
    record {
      bytes = has;
      links = links name uuid datime short long low;
      links_are = refl;
      chain = new_chain name uuid datime short long low file has;
      head = open_head name uuid datime short long low file has;
      marked = end_word name uuid datime short long low file has;
      directory = has_directory name uuid datime short long low file has;
      records = new_records name uuid datime short long low;
      keys = new_keys name uuid datime short long low;
      info = new_info name uuid datime short long low;
      name_is = ap (λ (k : KeptRecords). k.name) (new_kept name uuid datime short long low);
      count = ap (λ (k : KeptRecords). k.count) (new_kept name uuid datime short long low);
      held = new_held name uuid datime short long low;
      left = new_left name uuid datime short long low file has;
    }
