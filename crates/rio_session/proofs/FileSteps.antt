-- The steps by the records of a file are those by what is kept beside it.
use Rattle.std.proofs.Common.{refl}
use Rattle.rio_machine.specs.declared.command.Command.{TheVariants.{Bad, Class, Put, Batch, Delete, Tree, Fill, Save, Get, Scan, Ls}}
use Rattle.rio_effect.specs.HeaderRecords.{HeadersHaveRecords}
use Rattle.rio_session.specs.{FileSteps.{StepsFollowFiles}, Marks.{command_lengths}}
use Rattle.rio_session.proofs.{BatchAgrees.{batch_agrees}, ClassAgrees.{class_agrees}, DeleteAgrees.{delete_agrees}, FileMarks.{follows_file, prints_agree}, FillAgrees.{fill_agrees}, PutAgrees.{put_agrees}, SaveFollows.{save_agrees}, TreeAgrees.{tree_agrees}}

pub steps_follow_files : HeadersHaveRecords → StepsFollowFiles
unfolding command_lengths
steps_follow_files headers s m file (Bad line place) h sound fresh soon statable =
    follows_file s m file h (Bad line place) (prints_agree s m file h (Bad line place) sound fresh refl refl refl refl refl refl refl (λ name. refl))
steps_follow_files headers s m file (Class class) h sound fresh soon statable =
    follows_file s m file h (Class class) (class_agrees s m file h sound fresh soon class statable)
steps_follow_files headers s m file (Put name v) h sound fresh soon statable =
    follows_file s m file h (Put name v) (put_agrees s m file h sound fresh soon name v statable)
steps_follow_files headers s m file (Batch puts) h sound fresh soon statable =
    follows_file s m file h (Batch puts) (batch_agrees s m file h sound fresh soon puts statable)
steps_follow_files headers s m file (Delete name cycle) h sound fresh soon statable =
    follows_file s m file h (Delete name cycle) (delete_agrees s m file h sound fresh name cycle)
steps_follow_files headers s m file (Save name) h sound fresh soon statable =
    follows_file s m file h (Save name) (save_agrees headers s m file h sound fresh soon name)
steps_follow_files headers s m file (Tree name branches) h sound fresh soon statable =
    follows_file s m file h (Tree name branches) (tree_agrees headers s m file h sound fresh soon name branches statable)
steps_follow_files headers s m file (Fill name row) h sound fresh soon statable =
    follows_file s m file h (Fill name row) (fill_agrees s m file h sound fresh soon name row statable)
steps_follow_files headers s m file (Get name asked version) h sound fresh soon statable =
    follows_file s m file h (Get name asked version) (prints_agree s m file h (Get name asked version) sound fresh refl refl refl refl refl refl refl (λ name. refl))
steps_follow_files headers s m file Ls h sound fresh soon statable =
    follows_file s m file h Ls (prints_agree s m file h Ls sound fresh refl refl refl refl refl refl refl (λ name. refl))
steps_follow_files headers s m file (Scan name class) h sound fresh soon statable =
    follows_file s m file h (Scan name class) (prints_agree s m file h (Scan name class) sound fresh refl refl refl refl refl refl refl (λ name. refl))
