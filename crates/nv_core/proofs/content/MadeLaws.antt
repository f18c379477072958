-- What a sound core's passes make, on the files after the history.
use Rattle.std.proofs.Common.{◌≡◌, ℕ, ap, ◌∙◌}
use Rattle.nv_plain.specs.Files.{Files, empty_files}
use Rattle.nv_plain.specs.Calls.{reply_of}
use Rattle.nv_plain.specs.Made.{as_made, reply_from}
use Rattle.nv_plain.specs.declared.call.Reply.{Reply}
use Rattle.nv_core.specs.state.Words.{Sizes}
use Rattle.nv_core.specs.steps.Order.{Values}
use Rattle.nv_core.specs.state.Core.{Core}
use Rattle.nv_core.specs.invariant.Sound.{Sound}
use Rattle.nv_core.specs.content.PagesAfter.{files_now}
use Rattle.nv_core.specs.content.PlainLaws.{PlainLaws}

module _ {sizes : Sizes} {first : Values} (plain : PlainLaws) (opening : Files) (by : ℕ) (core : Core) where
  -- a pass's call is what is made of what it was asked, on the files of the moment
  pub made_now : Sound sizes first core → (core.passes by).call ≡ as_made (files_now opening core) (core.passes by).asked
  made_now sound = sound.made.each by ∙ plain.alike (core.passes by).asked (empty_files 0) (files_now opening core)

  -- so what was asked is answered right where the call as made is
  pub reply_asked : (reply : Reply) → Sound sizes first core → reply ≡ reply_of (core.passes by).call (files_now opening core)
      → reply_from (core.passes by).asked reply ≡ reply_of (core.passes by).asked (files_now opening core)
  reply_asked reply sound is =
      ap (reply_from (core.passes by).asked) (is ∙ ap (λ call. reply_of call (files_now opening core)) (made_now sound))
      ∙ (plain.made (core.passes by).asked (files_now opening core)).replies
