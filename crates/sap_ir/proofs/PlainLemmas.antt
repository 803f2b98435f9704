-- On what stands in Plain: what several crates cite.
use Rattle.std.proofs.Common.{ap, refl, true, ◌≡◌}
use Rattle.sap_ir.specs.Plain.IsPlain.{ends_in_transfers, is_stop}
use Rattle.sap_ir.specs.Plain.Nested.{Body, Forest, act, cases, fall, goto, none, state, stop}
use Rattle.sap_ir.specs.Plain.Views.{follow, planted}

pub ends_stop : (b : Body) → is_stop b ≡ true → ends_in_transfers b ≡ true
ends_stop stop k = refl
ends_stop (act a b) k = absurd (cc)
ends_stop (cases t y n b) k = absurd (cc)
ends_stop (goto z b) k = absurd (cc)
ends_stop (fall b) k = absurd (cc)

pub follow_stop : (a : Body) → follow a stop ≡ a
follow_stop stop = refl
follow_stop (act d rest) = ap (act d) (follow_stop rest)
follow_stop (cases t y n rest) = ap (cases t y n) (follow_stop rest)
follow_stop (goto x rest) = ap (goto x) (follow_stop rest)
follow_stop (fall rest) = ap fall (follow_stop rest)

pub planted_end : (f : Forest) → planted f none ≡ f
planted_end none = refl
planted_end (state x b kids rest) = ap (state x b kids) (planted_end rest)
