use Rattle.nv_recover.proofs.FileLaws.{readable_stands}
use Rattle.nv_recover.proofs.laws.images_stand_for_files.Goals as goal

pub returns-clause-files : goal.returns-clause-files
returns-clause-files c = readable_stands

pub returns-clause-good : goal.returns-clause-good
returns-clause-good c = λ layout image number fits bad.
    c.a_group_has_one_answer.ensures.whole layout image bad.leader number (fits bad.leader bad.commits) bad.breaks
