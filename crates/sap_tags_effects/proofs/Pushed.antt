-- What stands behind a body, after each part of a step.
use Rattle.std.proofs.Common.{◌≡◌, ℕ, ◌+◌, ◌++◌, List, [], ◌∷◌, Bool, true, false, refl, sym, ap, ◌∙◌, if◌then◌else◌}
use Rattle.sap_ir.proofs.PlainLemmas.{follow_stop}
use Rattle.sap_ir.specs.Prelude.{Body, stop, goto, body_of, command_before, follow}
use Rattle.sap_ir.specs.declared.plain.nested.PlainCmd.{PlainCmd}
use Rattle.sap_ir.proofs.plain.Views.{body_of-none, body_of-more, follow-before, follow-more}
use Rattle.sap_maps.specs.Prelude.{Name, Term}
use Rattle.sap_tagged.specs.Prelude.{Key, tag_key, wire_key, Setting, var, bits, gives, for_each, resets, effect_of}
use Rattle.sap_tags_effects.proofs.Raised.{sweep_follow}
use Rattle.sap_meaning.specs.Prelude.{root, is_dynamic, Home}
use Rattle.sap_program.specs.Views.{step_of}
use Rattle.sap_program.specs.declared.program.Step.{Step}
use Rattle.sap_program.specs.declared.program.Step.TheVariants as step

-- one list of commands behind another
pub body_of-behind : (cs ds : List PlainCmd) → body_of (cs ++ ds) ≡ follow (body_of cs) (body_of ds)
body_of-behind [] ds = ap (λ (b : Body). follow b (body_of ds)) (sym body_of-none)
body_of-behind (c ∷ cs) ds =
    body_of-more c (cs ++ ds)
    ∙ ap (command_before c) (body_of-behind cs ds)
    ∙ sym (follow-before c (body_of cs) (body_of ds))
    ∙ ap (λ (b : Body). follow b (body_of ds)) (sym (body_of-more c cs))

-- a part that is there in one case, in front of others
pub follow_if : (t : Bool) (a b : Body) → follow (if t then a else stop) b ≡ (if t then follow a b else b)
follow_if true a b = refl
follow_if false a b = refl

pub for_each_follow : (d : Setting) (key : ℕ → Key) (picks : ℕ → Bool) (term : ℕ → Term Name) (b : Body) → follow (for_each d key picks term stop) b ≡ for_each d key picks term b
for_each_follow d key picks term b = sym (sweep_follow d key term picks 0 (root d.world) b)

-- a goto behind the resets
pub goto_effect : (d : Setting) (sp : Home) (n k : ℕ) (st : Step) (site target : ℕ) (b0 b1 b2 : Body) → st ≡ step.Goto site target
    → b1 ≡ follow b0 (for_each d tag_key (resets d.world target) (λ x. bits d d.world.order.bottom) stop)
    → b2 ≡ follow b1 (if is_dynamic d.world target then gives d (tag_key target) (var d (wire_key (k + 3))) stop else stop)
    → follow b2 (goto (d.state_name target) stop) ≡ follow b0 (effect_of d sp k (step_of n st))
goto_effect d sp n k st site target b0 b1 b2 i e f =
    let go : Body = goto (d.state_name target) stop in
    let own : Body = gives d (tag_key target) (var d (wire_key (k + 3))) stop in
    let sweeps : Body = for_each d tag_key (resets d.world target) (λ x. bits d d.world.order.bottom) stop in
    let tagged : Body = if is_dynamic d.world target then own else stop in
    ap (λ (b : Body). follow b go) (f ∙ ap (λ (b : Body). follow b tagged) e)
    ∙ follow-more (follow b0 sweeps) tagged go
    ∙ follow-more b0 sweeps (follow tagged go)
    ∙ ap (λ (b : Body). follow b0 (follow sweeps b)) (follow_if (is_dynamic d.world target) own go)
    ∙ ap (follow b0) (for_each_follow d tag_key (resets d.world target) (λ x. bits d d.world.order.bottom) (if is_dynamic d.world target then follow own go else go))
    ∙ ap (λ (s : Step). follow b0 (effect_of d sp k (step_of n s))) (sym i)

pub empty : (cs : List PlainCmd) → cs ≡ [] → body_of cs ≡ stop
empty cs e = ap body_of e ∙ body_of-none

-- behind nothing
pub fresh : (cs : List PlainCmd) (b x : Body) → cs ≡ [] → b ≡ follow (body_of cs) x → b ≡ x
fresh cs b x e h = h ∙ ap (λ (l : List PlainCmd). follow (body_of l) x) e ∙ ap (λ (y : Body). follow y x) body_of-none

pub ruleset behind = (follow_stop, follow-more)

pub ruleset accepted = (body_of-behind, follow-more)

pub ruleset effects = (follow_stop, follow-more, follow_if, for_each_follow)
