use Rattle.std.proofs.Common.{sym, subst}
use Rattle.std.specs.Str.{IsUtf8}
use Rattle.nv_plain.specs.Layouts.{mount_layout}
use Rattle.nv_open.proofs.Texts.{name_is_text}
use Rattle.nv_open.proofs.stores.text_of.Goals as goal

pub returns-in_default : goal.returns-in_default
returns-in_default c =
    absurd (c.in_default.ensures.cases.0 (subst IsUtf8 (sym c.as_slice.ensures) (name_is_text mount_layout.name_limit c.args.name.now c.requires)))
