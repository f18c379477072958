-- What the core takes of the laws of parts, of the header's tail and of groups.
use Rattle.nv_pmem.specs.Laws.{LoadsAreAnImage, QuietPartHasOneImage, BlankIsQuiet, StepsKeepLines}
use Rattle.nv_header.specs.Laws.{TailIsOldOrNew, TailIsMoved, TailEndsQuiet}
use Rattle.nv_entry.specs.Commits.{GroupsAreAtomic, GroupsBecomeWhole, GroupsEndQuiet, GroupsEndReady, GroupsStayOpen, GroupsStoreNothingElse}

pub record LogLaws : Type 0 where
  pub now : LoadsAreAnImage
  pub one_image : QuietPartHasOneImage
  pub blank : BlankIsQuiet
  pub lines : StepsKeepLines
  pub tail_moments : TailIsOldOrNew
  pub tail_moved : TailIsMoved
  pub tail_quiet : TailEndsQuiet
  pub group_atomic : GroupsAreAtomic
  pub group_only : GroupsStoreNothingElse
  pub group_whole : GroupsBecomeWhole
  pub group_quiet : GroupsEndQuiet
  pub group_ready : GroupsEndReady
  pub group_open : GroupsStayOpen
