use Rattle.std.proofs.Common.{refl}
use Rattle.sap_stim.proofs.Fronts.{word_first}
use Rattle.sap_stim.proofs.ahead.is_first.Goals as goal

pub returns-clause-end : goal.returns-clause-end
returns-clause-end c = λ t. (word_first c.args.word.now c.args.text.now c.requires (c.if-not-begins_with.ensures refl) (c.ends_at.ensures.within t) (c.ends_at.ensures.end t)).0

pub returns-clause-word : goal.returns-clause-word
returns-clause-word c = λ t. (word_first c.args.word.now c.args.text.now c.requires (c.if-not-begins_with.ensures refl) (c.ends_at.ensures.within t) (c.ends_at.ensures.end t)).1
