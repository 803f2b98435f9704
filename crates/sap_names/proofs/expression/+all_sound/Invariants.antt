use Rattle.std.proofs.Common.{length}
use Rattle.sap_names.proofs.expression.+all_sound.Given as goal

abbrev pub decreases-all_sound : goal.decreases-all_sound
decreases-all_sound l = length l.parts.now
