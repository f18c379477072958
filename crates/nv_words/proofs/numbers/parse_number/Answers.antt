use Rattle.std.proofs.Common.{◌∙◌, sym}
use Rattle.nv_words.proofs.NumberLemmas.{read_number, read_none}
use Rattle.nv_words.proofs.numbers.parse_number.Goals as goal

pub returns-in-Ok : goal.returns-in-Ok
returns-in-Ok c =
    c.within.ensures ∙ sym (read_number c.args.least c.args.most c.args.text.now c.parse.result c.parse.ensures.value.0 c.in-Ok.number c.in-Ok.is)

pub returns-in-Err : goal.returns-in-Err
returns-in-Err c = sym (read_none c.args.least c.args.most c.args.text.now c.parse.result c.parse.ensures.value.0 c.in-Err.field-0 c.in-Err.is)
