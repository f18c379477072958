use Rattle.std.proofs.Common.{◌≡◌, Err, inl, inr, refl, rules}
use Rattle.nv_top.specs.Endings.{bad_line, memory_line}
use Rattle.nv_top.specs.declared.ending.Stop.TheVariants.{BadLine}
use Rattle.nv_top.specs.declared.ending.TheConstants.{BAD_INPUT, NO_MEMORY}
use Rattle.nv_top.proofs.SaidLemmas.{said_by}
use Rattle.nv_top.proofs.ending.say_bad_line.Goals as goal

pub returns-in-Ok : goal.returns-in-Ok
returns-in-Ok g c =
    let line : c.as_bytes.result.now ≡ bad_line c.args.bad = search rules in
    said_by (Err (BadLine c.args.bad)) _ _ _ _ c.say.result BAD_INPUT c.as_bytes.result.now (λ is. cc) (inl (refl, line)) c.say.ensures.front c.say.ensures.said c.say.ensures.fault c.say.ensures.sound

pub returns-in-Err : goal.returns-in-Err
returns-in-Err g c =
    said_by (Err (BadLine c.args.bad)) _ _ _ _ c.say-in-Err.result NO_MEMORY memory_line (λ is. cc) (inr (tt, refl, refl))
    c.say-in-Err.ensures.front c.say-in-Err.ensures.said c.say-in-Err.ensures.fault c.say-in-Err.ensures.sound
