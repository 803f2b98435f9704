use Rattle.std.proofs.Common.{sym}
use Rattle.sap_names.proofs.Parts.{sound_first}
use Rattle.sap_names.proofs.expression.+all_sound.Goals as goal

pub returns-in-len1-up : goal.returns-in-len1-up
returns-in-len1-up t c =
    let e = sound_first _ c.args.parts.now c.first-item.result c.in-len1-up.len_at_least c.first-item.is in
    rw (c.and_sound.ensures, c.own-width.ensures, c.all_sound-others.ensures) (sym e)
