-- What stands behind a body after a command, and after each of a list.
use Rattle.std.proofs.Common.{◌≡◌, ℕ, zero, suc, ◌+◌, ◌<◌, ◌≤◌, Bool, List, [], ◌∷◌, ◌++◌, map, if◌then◌else◌, length, get_or, drop, refl, sym, ap, ap₂, ◌∙◌, arith, add-one, append_assoc, append-nil}
use Rattle.std.specs.declared.vec.Vec.{Vec}
use Rattle.std.specs.declared.alloc.Global.{Global}
use Rattle.sap_ir.proofs.PlainLemmas.{follow_stop}
use Rattle.sap_meaning.specs.Prelude.{listed, Arms, last_arm, end_block, width_of, listed_alone}
use Rattle.sap_meaning.specs.Program as program
use Rattle.sap_ir.specs.Prelude.{Body, stop, cases, seat_width, body_of, follow}
use Rattle.sap_ir.specs.declared.plain.nested.PlainCmd.{PlainCmd}
use Rattle.sap_ir.proofs.plain.Views.{follow-more}
use Rattle.sap_program.specs.Prelude.{flags, term_of, step_of, constants_of, commands_in, arm_block, arms_before, command_of, block_of}
use Rattle.sap_program.specs.declared.program.Number.{Number}
use Rattle.sap_program.specs.declared.program.Step.{Step}
use Rattle.sap_program.specs.declared.program.Arm.{Arm}
use Rattle.sap_program.specs.declared.program.Command.{Command}
use Rattle.sap_program.specs.declared.home.Home.{Home}
use Rattle.sap_program.specs.declared.program.Command.TheVariants as command
use Rattle.sap_program.specs.declared.program.Command.TheViews as shown
use Rattle.sap_tags_terms.specs.Parts.{arm_wires, command_wires, commands_wires}
use Rattle.sap_tags.specs.Built.{arm_bodies, command_body, commands_body, decided}
use Rattle.sap_tags_terms.specs.Code.{entities_in, setting_in, home_in, world_in}
use Rattle.sap_tagged.specs.Prelude.{gives, looks, raises, effect_of, refusal, attempt_of, attempt_then_of, arm_count, pick_width, picks_arm, picks, decides, pick_of, select_of, wires_block, command_plain, arms_plain, block_plain, wire_key, var, lub, expr, tag_of, always}
use Rattle.sap_tagged.specs.Setting as pass
use Rattle.sap_tags_terms.specs.declared.setting.Setting.{Setting}
use Rattle.sap_program.proofs.Shown.{command_of-do, command_of-try, command_of-if, command_of-then, command_of-case, block_of-none}
use Rattle.sap_tags_terms.proofs.Listed.{block_of-more, wires_are, wires_block_are, wires_drop, arms_drop}
use Rattle.sap_tags_effects.proofs.Raised.{raises_follow}
use Rattle.sap_tags_terms.proofs.Alone.{alone}

-- behind no blocks
pub fresh_blocks : (old new : List (Vec PlainCmd Global)) (x : List Body) → old ≡ []
    → map (λ b. body_of b.items) new ≡ map (λ b. body_of b.items) old ++ x → map (λ b. body_of b.items) new ≡ x
fresh_blocks old new x e h = h ∙ ap (λ (l : List (Vec PlainCmd Global)). map (λ b. body_of b.items) l ++ x) e

map_push : (made : List (Vec PlainCmd Global)) (block : Vec PlainCmd Global)
    → map (λ b. body_of b.items) (made ++ block ∷ []) ≡ map (λ b. body_of b.items) made ++ body_of block.items ∷ []
map_push [] block = refl
map_push (b ∷ made) block = ap (λ (l : List Body). body_of b.items ∷ l) (map_push made block)

-- whatever is behind arms

counts_same : (n : ℕ) (arms : List Arm) (b : program.Block) → arm_count (arms_before n arms (last_arm end_block)) ≡ arm_count (arms_before n arms (last_arm b))
unfolding arms_before
counts_same n [] b = refl
counts_same n (a ∷ arms) b = ap (λ (m : ℕ). suc m) (counts_same n arms b)

picks_same : (d : pass.Setting) (u j w k i n : ℕ) (arms : List Arm) (b : program.Block) (rest : Body)
    → picks d u j w k i (arms_before n arms (last_arm end_block)) rest ≡ picks d u j w k i (arms_before n arms (last_arm b)) rest
unfolding arms_before
picks_same d u j w k i n [] b rest = refl
picks_same d u j w k i n (a ∷ arms) b rest = picks_same d u j w k (suc i) n arms b (picks_arm d u j w k i (constants_of a) rest)

module _ (s : Setting) where
  -- arms, and the block behind them

  arms_are : (at : Home) (p k : ℕ) (arms : List Arm) (b : program.Block)
      → arms_plain (setting_in s) (home_in s at) p k (arms_before (entities_in s) arms (last_arm b)) ≡ arm_bodies s at p k arms
      ++ block_plain (setting_in s) (home_in s at) p (k + arm_wires arms) b ∷ []
  unfolding arm_bodies arms_plain arms_before arm_wires
  arms_are at p k [] b = let z : k ≡ k + 0 = omega arith in ap (λ (w : ℕ). block_plain (setting_in s) (home_in s at) p w b ∷ []) z
  arms_are at p k (a ∷ arms) b =
      let d = setting_in s in
      let n = entities_in s in
      let here = home_in s at in
      let first : Body = block_plain d here p k (arm_block n a) in
      let same : wires_block (arm_block n a) ≡ wires_block (arm_block 0 a) = wires_block_are n a.block.items ∙ sym (wires_block_are 0 a.block.items) in
      let next : k + wires_block (arm_block 0 a) + arm_wires arms ≡ k + arm_wires (a ∷ arms) = omega arith in
      ap (λ (w : ℕ). first ∷ arms_plain d here p (k + w) (arms_before n arms (last_arm b))) same
      ∙ ap (λ (l : List Body). first ∷ l) (arms_are at p (k + wires_block (arm_block 0 a)) arms b)
      ∙ ap (λ (w : ℕ). first ∷ (arm_bodies s at p (k + wires_block (arm_block 0 a)) arms ++ block_plain d here p w b ∷ [])) next

  -- commands

  module _ (at : Home) (p : ℕ) where
    -- behind an effect nothing
    decided_alone : (k : ℕ) (j : program.Step) (r : Body) → decided (setting_in s) (home_in s at) k j stop r
        ≡ (let d = setting_in s in
        let e = effect_of d (home_in s at) k j in
        if always d.world (home_in s at) j then e else cases (var d (wire_key k)) e r stop)
    unfolding decided
    decided_alone k j r =
        let d = setting_in s in
        ap (λ (x : Body). if always d.world (home_in s at) j then x else cases (var d (wire_key k)) x r stop) (follow_stop (effect_of d (home_in s at) k j))

    -- what is looked at, the raises, and what is behind them
    step_made : (k : ℕ) (j : program.Step) (hangs : ℕ → Bool) (b0 b1 end : Body)
        → b1 ≡ follow b0 (looks (setting_in s) (home_in s at) p k j (raises (setting_in s) hangs (k + 1) stop))
        → follow b1 end ≡ follow b0 (looks (setting_in s) (home_in s at) p k j (raises (setting_in s) hangs (k + 1) end))
    step_made k j hangs b0 b1 end e =
        let d = setting_in s in
        let here = home_in s at in
        let raise : Body = raises d hangs (k + 1) stop in
        ap (λ (b : Body). follow b end) e
        ∙ follow-more b0 (looks d here p k j raise) end
        ∙ ap (λ (b : Body). follow b0 (looks d here p k j b)) (sym (raises_follow d hangs (k + 1) end))

    looked : (k : ℕ) (j : program.Step) (hangs : ℕ → Bool) (b0 b1 b2 : Body) → b1 ≡ follow b0 (looks (setting_in s) (home_in s at) p k j stop)
        → b2 ≡ follow b1 (raises (setting_in s) hangs (k + 1) stop) → b2 ≡ follow b0 (looks (setting_in s) (home_in s at) p k j (raises (setting_in s) hangs (k + 1) stop))
    looked k j hangs b0 b1 b2 e f =
        let d = setting_in s in
        let raise : Body = raises d hangs (k + 1) stop in
        f ∙ ap (λ (b : Body). follow b raise) e ∙ follow-more b0 (looks d (home_in s at) p k j stop) raise

    pub attempt_made : (k : ℕ) (st : Step) (b0 b1 b2 x r : Body) → x ≡ stop → r ≡ refusal (setting_in s) k (step_of (entities_in s) st) stop
        → b1 ≡ follow b0 (looks (setting_in s) (home_in s at) p k (step_of (entities_in s) st) stop)
        → b2 ≡ follow b1 (raises (setting_in s) (listed_alone (world_in s) (home_in s at) (step_of (entities_in s) st)) (k + 1) stop)
        → follow b2 (decided (setting_in s) (home_in s at) k (step_of (entities_in s) st) x r)
        ≡ follow b0 (attempt_of (setting_in s) (home_in s at) p k (step_of (entities_in s) st) (listed_alone (world_in s) (home_in s at) (step_of (entities_in s) st)) stop)
    unfolding attempt_of
    attempt_made k st b0 b1 b2 x r xe re e f =
        let d = setting_in s in
        let here = home_in s at in
        let j = step_of (entities_in s) st in
        let hangs = listed_alone (world_in s) here j in
        step_made k j hangs b0 b2 (decided d here k j x r) (looked k j hangs b0 b1 b2 e f)
        ∙ ap₂ (λ (a q : Body). follow b0 (looks d here p k j (raises d hangs (k + 1) (decided d here k j a q)))) xe re
        ∙ ap (λ (q : Body). follow b0 (looks d here p k j (raises d hangs (k + 1) q))) (decided_alone k j (refusal d k j stop))

    pub do_made : (k : ℕ) (c : Command) (st : Step) (b0 : Body) → c ≡ command.Do st
        → follow b0 (attempt_of (setting_in s) (home_in s at) p k (step_of (entities_in s) st)
        (listed_alone (world_in s) (home_in s at) (step_of (entities_in s) st)) stop) ≡ follow b0 (command_body s at p k c)
    unfolding command_body command_plain
    do_made k c st b0 i =
        ap (λ (y : program.Command). follow b0 (command_plain (setting_in s) (home_in s at) p k y)) (sym (ap (command_of (entities_in s)) i ∙ command_of-do (entities_in s) st))

    pub try_made : (k : ℕ) (c : Command) (st : Step) (hang : List ℕ) (hs : Vec Command Global) (handler : List Command) (b0 b1 x r1 r2 : Body)
        → c ≡ shown.Try st hang hs → handler ≡ hs.items
        → x ≡ stop → r1 ≡ refusal (setting_in s) k (step_of (entities_in s) st) stop
        → r2 ≡ follow r1 (commands_body s at (k + 2) (k + 5) handler)
        → b1 ≡ follow b0 (looks (setting_in s) (home_in s at) p k (step_of (entities_in s) st) (raises (setting_in s) (listed (flags (entities_in s) hang)) (k + 1) stop))
        → follow b1 (decided (setting_in s) (home_in s at) k (step_of (entities_in s) st) x r2) ≡ follow b0 (command_body s at p k c)
    unfolding command_body commands_body command_plain attempt_of
    try_made k c st hang hs handler b0 b1 x r1 r2 i le xe re1 re2 e =
        let d = setting_in s in
        let n = entities_in s in
        let here = home_in s at in
        let j = step_of n st in
        let inner : Body = block_plain d here (k + 2) (k + 5) (block_of n hs.items) in
        let re : r2 ≡ refusal d k j inner =
        re2 ∙ ap₂ (λ (q : Body) (l : List Command). follow q (block_plain d here (k + 2) (k + 5) (block_of n l))) re1 le in
        step_made k j (listed (flags n hang)) b0 b1 (decided d here k j x r2) e
        ∙ ap₂ (λ (a q : Body). follow b0 (looks d here p k j (raises d (listed (flags n hang)) (k + 1) (decided d here k j a q)))) xe re
        ∙ ap (λ (q : Body). follow b0 (looks d here p k j (raises d (listed (flags n hang)) (k + 1) q))) (decided_alone k j (refusal d k j inner))
        ∙ ap (λ (y : program.Command). follow b0 (command_plain d here p k y)) (sym (ap (command_of n) i ∙ command_of-try n st hang hs))

    pub then_made : (k : ℕ) (c : Command) (st : Step) (hang : List ℕ) (ys ns : Vec Command Global) (yl nl : List Command)
        (b0 b1 x r1 r2 : Body) (m : ℕ) → c ≡ shown.TryThen st hang ys ns
        → yl ≡ ys.items → nl ≡ ns.items → x ≡ commands_body s at (k + 2) (k + 5) yl → m ≡ k + 5 + commands_wires yl
        → r1 ≡ refusal (setting_in s) k (step_of (entities_in s) st) stop → r2 ≡ follow r1 (commands_body s at (k + 2) m nl)
        → b1 ≡ follow b0 (looks (setting_in s) (home_in s at) p k (step_of (entities_in s) st) (raises (setting_in s) (listed (flags (entities_in s) hang)) (k + 1) stop))
        → follow b1 (decided (setting_in s) (home_in s at) k (step_of (entities_in s) st) x r2) ≡ follow b0 (command_body s at p k c)
    unfolding command_body commands_body command_plain attempt_then_of decided
    then_made k c st hang ys ns yl nl b0 b1 x r1 r2 m i ye ne xe me re1 re2 e =
        let d = setting_in s in
        let n = entities_in s in
        let here = home_in s at in
        let j = step_of n st in
        let first : Body = block_plain d here (k + 2) (k + 5) (block_of n ys.items) in
        let second : Body = block_plain d here (k + 2) (k + 5 + wires_block (block_of n ys.items)) (block_of n ns.items) in
        let ex : x ≡ first = xe ∙ ap (λ (l : List Command). block_plain d here (k + 2) (k + 5) (block_of n l)) ye in
        let em : m ≡ k + 5 + wires_block (block_of n ys.items) = me ∙ ap (λ (l : List Command). k + 5 + commands_wires l) ye
        ∙ ap (λ (w : ℕ). k + 5 + w) (sym (wires_block_are n ys.items)) in
        let er : r2 ≡ refusal d k j second =
        re2 ∙ ap (λ (q : Body). follow q (commands_body s at (k + 2) m nl)) re1
        ∙ ap₂ (λ (w : ℕ) (l : List Command). refusal d k j (block_plain d here (k + 2) w (block_of n l))) em ne in
        step_made k j (listed (flags n hang)) b0 b1 (decided d here k j x r2) e
        ∙ ap₂ (λ (a q : Body). follow b0 (looks d here p k j (raises d (listed (flags n hang)) (k + 1) (decided d here k j a q)))) ex er
        ∙ ap (λ (y : program.Command). follow b0 (command_plain d here p k y)) (sym (ap (command_of n) i ∙ command_of-then n st hang ys ns))

    pub if_made : (k : ℕ) (c : Command) (hang : List ℕ) (t : Number) (ys ns : Vec Command Global) (yl nl : List Command)
        (b0 b1 y1 n1 : Body) (m : ℕ) → c ≡ shown.If hang t ys ns → yl ≡ ys.items → nl ≡ ns.items
        → b1 ≡ follow b0 (gives (setting_in s) (wire_key k) (tag_of (setting_in s) (term_of t))
        (gives (setting_in s) (wire_key (k + 1)) (lub (var (setting_in s) (wire_key p)) (var (setting_in s) (wire_key k)))
        (raises (setting_in s) (listed (flags (entities_in s) hang)) k stop)))
        → y1 ≡ commands_body s at (k + 1) (k + 2) yl → m ≡ k + 2 + commands_wires yl → n1 ≡ commands_body s at (k + 1) m nl
        → follow b1 (cases (expr (setting_in s) (term_of t)) y1 n1 stop) ≡ follow b0 (command_body s at p k c)
    unfolding command_body commands_body command_plain select_of
    if_made k c hang t ys ns yl nl b0 b1 y1 n1 m i ye ne e yb me nb =
        let d = setting_in s in
        let n = entities_in s in
        let here = home_in s at in
        let raise : Body = raises d (listed (flags n hang)) k stop in
        let front : Body → Body = λ b. gives d (wire_key k) (tag_of d (term_of t)) (gives d (wire_key (k + 1)) (lub (var d (wire_key p)) (var d (wire_key k))) b) in
        let end : Body = cases (expr d (term_of t)) y1 n1 stop in
        let first : Body = block_plain d here (k + 1) (k + 2) (block_of n ys.items) in
        let second : Body = block_plain d here (k + 1) (k + 2 + wires_block (block_of n ys.items)) (block_of n ns.items) in
        let ey : y1 ≡ first = yb ∙ ap (λ (l : List Command). block_plain d here (k + 1) (k + 2) (block_of n l)) ye in
        let em : m ≡ k + 2 + wires_block (block_of n ys.items) = me ∙ ap (λ (l : List Command). k + 2 + commands_wires l) ye
        ∙ ap (λ (w : ℕ). k + 2 + w) (sym (wires_block_are n ys.items)) in
        let en : n1 ≡ second = nb ∙ ap₂ (λ (w : ℕ) (l : List Command). block_plain d here (k + 1) w (block_of n l)) em ne in
        ap (λ (b : Body). follow b end) e
        ∙ follow-more b0 (front raise) end
        ∙ ap (λ (b : Body). follow b0 (front b)) (sym (raises_follow d (listed (flags n hang)) k end))
        ∙ ap₂ (λ (a b : Body). follow b0 (front (raises d (listed (flags n hang)) k (cases (expr d (term_of t)) a b stop)))) ey en
        ∙ ap (λ (y : program.Command). follow b0 (command_plain d here p k y)) (sym (ap (command_of n) i ∙ command_of-if n hang t ys ns))

    pub case_made : (k : ℕ) (c : Command) (hang : List ℕ) (t : Number) (arms : Vec Arm Global) (cs : Vec Command Global) (al : List Arm) (cl : List Command) (b0 b1 : Body) (m : ℕ)
        (made blocks : List (Vec PlainCmd Global)) (block : Vec PlainCmd Global) → c ≡ shown.Case hang t arms cs → al ≡ arms.items → cl ≡ cs.items
        → map (λ b. body_of b.items) made ≡ arm_bodies s at (k + 1) (k + 4) al → m ≡ k + 4 + arm_wires al
        → body_of block.items ≡ commands_body s at (k + 1) m cl → blocks ≡ made ++ block ∷ []
        → b1 ≡ follow b0 (gives (setting_in s) (wire_key k) (tag_of (setting_in s) (term_of t))
        (gives (setting_in s) (wire_key (k + 1)) (lub (var (setting_in s) (wire_key p)) (var (setting_in s) (wire_key k)))
        (gives (setting_in s) (wire_key (k + 2)) (expr (setting_in s) (term_of t)) (raises (setting_in s) (listed (flags (entities_in s) hang)) k stop))))
        → (let d = setting_in s in
        let all = alone (entities_in s) al in
        follow b1 (picks d (width_of (world_in s) (term_of t)) (k + 2) (pick_width all) (k + 3) 0 all (decides d (k + 3) (pick_width all) (map (λ b. body_of b.items) blocks))))
        ≡ follow b0 (command_body s at p k c)
    unfolding command_body commands_body command_plain pick_of
    case_made k c hang t arms cs al cl b0 b1 m made blocks block i ae ce me we be ke e =
        let d = setting_in s in
        let n = entities_in s in
        let here = home_in s at in
        let u = width_of (world_in s) (term_of t) in
        let last : program.Block = block_of n cs.items in
        let all : Arms = arms_before n arms.items (last_arm last) in
        let w : ℕ = pick_width all in
        let bodies : List Body = arms_plain d here (k + 1) (k + 4) all in
        let look : Body → Body = λ b. gives d (wire_key k) (tag_of d (term_of t)) (gives d (wire_key (k + 1)) (lub (var d (wire_key p)) (var d (wire_key k))) b) in
        let own : Body → Body = λ b. gives d (wire_key (k + 2)) (expr d (term_of t)) b in
        let raise : Body = raises d (listed (flags n hang)) k stop in
        let width : pick_width (alone n al) ≡ w = ap (λ (l : List Arm). pick_width (alone n l)) ae ∙ ap (λ (q : ℕ). seat_width (suc q)) (counts_same n arms.items last) in
        let each : map (λ b. body_of b.items) blocks ≡ bodies =
        ap (λ (l : List (Vec PlainCmd Global)). map (λ b. body_of b.items) l) ke ∙ map_push made block
        ∙ ap₂ (λ (l : List Body) (b : Body). l ++ b ∷ []) me be
        ∙ ap₂ (λ (j : ℕ) (l : List Command). arm_bodies s at (k + 1) (k + 4) al ++ block_plain d here (k + 1) j (block_of n l) ∷ []) we ce
        ∙ ap (λ (l : List Arm). arm_bodies s at (k + 1) (k + 4) l ++ block_plain d here (k + 1) (k + 4 + arm_wires l) last ∷ []) ae
        ∙ sym (arms_are at (k + 1) (k + 4) arms.items last) in
        let choice : Body = decides d (k + 3) w bodies in
        let end : Body = picks d u (k + 2) w (k + 3) 0 all choice in
        let fixed : picks d u (k + 2) (pick_width (alone n al)) (k + 3) 0 (alone n al) (decides d (k + 3) (pick_width (alone n al)) (map (λ b. body_of b.items) blocks)) ≡ end =
        ap₂ (λ (q : ℕ) (l : List Body). picks d u (k + 2) q (k + 3) 0 (alone n al) (decides d (k + 3) q l)) width each
        ∙ ap (λ (l : List Arm). picks d u (k + 2) w (k + 3) 0 (alone n l) choice) ae
        ∙ picks_same d u (k + 2) w (k + 3) 0 n arms.items last choice in
        ap (follow b1) fixed
        ∙ ap (λ (b : Body). follow b end) e
        ∙ follow-more b0 (look (own raise)) end
        ∙ ap (λ (b : Body). follow b0 (look (own b))) (sym (raises_follow d (listed (flags n hang)) k end))
        ∙ ap (λ (y : program.Command). follow b0 (command_plain d here p k y)) (sym (ap (command_of n) i ∙ command_of-case n hang t arms cs))

    -- lists

    body_none : (k : ℕ) → commands_body s at p k [] ≡ stop
    unfolding commands_body block_plain
    body_none k = ap (block_plain (setting_in s) (home_in s at) p k) (block_of-none (entities_in s))

    body_more : (k : ℕ) (c : Command) (cs : List Command) → commands_body s at p k (c ∷ cs) ≡ follow (command_body s at p k c) (commands_body s at p (k + command_wires c) cs)
    unfolding commands_body command_body block_plain
    body_more k c cs =
        let d = setting_in s in
        let n = entities_in s in
        ap (block_plain d (home_in s at) p k) (block_of-more n c cs)
        ∙ ap (λ (w : ℕ). follow (command_plain d (home_in s at) p k (command_of n c)) (block_plain d (home_in s at) p (k + w) (block_of n cs))) (wires_are n c)

    body_drop : (k : ℕ) (cs : List Command) (i : ℕ) (e : Command) → i < length cs
        → commands_body s at p k (drop i cs) ≡ follow (command_body s at p k (get_or cs i e)) (commands_body s at p (k + command_wires (get_or cs i e)) (drop (i + 1) cs))
    body_drop k [] i e l = absurd (omega arith)
    body_drop k (c ∷ cs) zero e l = body_more k c cs
    body_drop k (c ∷ cs) (suc i) e l = let r = body_drop k cs i e (omega arith) in simp (add-one) (simp (add-one) at r)

    pub body_past : (k : ℕ) (cs : List Command) (i : ℕ) → length cs ≤ i → commands_body s at p k (drop i cs) ≡ stop
    body_past k [] zero l = body_none k
    body_past k [] (suc i) l = body_none k
    body_past k (c ∷ cs) zero l = absurd (omega arith)
    body_past k (c ∷ cs) (suc i) l = body_past k cs i (omega arith)

    pub commands_step : (cs : List Command) (i : ℕ) (c : Command) (k m : ℕ) (now new all : Body) → i < length cs → c ≡ get_or cs i c
        → new ≡ follow now (command_body s at p k c) → m ≡ k + command_wires c
        → follow now (commands_body s at p k (drop i cs)) ≡ all → follow new (commands_body s at p m (drop (i + 1) cs)) ≡ all
    commands_step cs i c k m now new all l e f w h =
        ap₂ (λ (b : Body) (j : ℕ). follow b (commands_body s at p j (drop (i + 1) cs))) f w
        ∙ follow-more now (command_body s at p k c) (commands_body s at p (k + command_wires c) (drop (i + 1) cs))
        ∙ ap (λ (y : Command). follow now (follow (command_body s at p k y) (commands_body s at p (k + command_wires y) (drop (i + 1) cs)))) e
        ∙ ap (follow now) (sym (body_drop k cs i c l)) ∙ h

    pub commands_rest : (cs : List Command) (i k : ℕ) (now all : Body) → length cs ≤ i → follow now (commands_body s at p k (drop i cs)) ≡ all → now ≡ all
    commands_rest cs i k now all l h = sym (follow_stop now) ∙ ap (follow now) (sym (body_past k cs i l)) ∙ h

pub wires_step : (cs : List Command) (i : ℕ) (c : Command) (k m all : ℕ) → i < length cs → c ≡ get_or cs i c → m ≡ k + command_wires c
    → k + commands_wires (drop i cs) ≡ all → m + commands_wires (drop (i + 1) cs) ≡ all
wires_step cs i c k m all l e f h =
    let q = wires_drop cs i c l ∙ ap (λ (y : Command). command_wires y + commands_wires (drop (i + 1) cs)) (sym e) in
    omega (arith, q, f, h)

-- one arm more

module _ (s : Setting) (at : Home) (p : ℕ) where
  arms_next : (k : ℕ) (arms : List Arm) (i : ℕ) (a : Arm) → i < length arms → a ≡ get_or arms i a
      → arm_bodies s at p k (drop i arms) ≡ commands_body s at p k (commands_in a) ∷ arm_bodies s at p (k + commands_wires (commands_in a)) (drop (i + 1) arms)
  unfolding arm_bodies commands_body commands_wires
  arms_next k [] i a l e = absurd (omega arith)
  arms_next k (x ∷ arms) zero a l e = ap (λ (y : Arm). commands_body s at p k (commands_in y) ∷ arm_bodies s at p (k + commands_wires (commands_in y)) arms) (sym e)
  arms_next k (x ∷ arms) (suc i) a l e = let r = arms_next k arms i a (omega arith) e in simp (add-one) (simp (add-one) at r)

  arms_none : (k : ℕ) (arms : List Arm) (i : ℕ) → length arms ≤ i → arm_bodies s at p k (drop i arms) ≡ []
  unfolding arm_bodies
  arms_none k [] zero l = refl
  arms_none k [] (suc i) l = refl
  arms_none k (a ∷ arms) zero l = absurd (omega arith)
  arms_none k (a ∷ arms) (suc i) l = arms_none k arms i (omega arith)

  pub arms_step : (arms : List Arm) (i : ℕ) (a : Arm) (cl : List Command) (k m : ℕ) (old new : List (Vec PlainCmd Global))
      (block : Vec PlainCmd Global) (all : List Body) → i < length arms → a ≡ get_or arms i a
      → cl ≡ commands_in a → new ≡ old ++ block ∷ [] → body_of block.items ≡ commands_body s at p k cl → m ≡ k + commands_wires cl
      → map (λ b. body_of b.items) old ++ arm_bodies s at p k (drop i arms) ≡ all → map (λ b. body_of b.items) new ++ arm_bodies s at p m (drop (i + 1) arms) ≡ all
  arms_step arms i a cl k m old new block all l e c f b w h =
      let bodies : List (Vec PlainCmd Global) → List Body = λ bs. map (λ b. body_of b.items) bs in
      let rest : ℕ → List Body = λ j. arm_bodies s at p j (drop (i + 1) arms) in
      ap (λ (bs : List (Vec PlainCmd Global)). bodies bs ++ rest m) f
      ∙ ap₂ (λ (bs : List Body) (j : ℕ). bs ++ rest j) (map_push old block) w
      ∙ ap (λ (x : Body). (bodies old ++ x ∷ []) ++ rest (k + commands_wires cl)) b
      ∙ append_assoc (bodies old) (commands_body s at p k cl ∷ []) (rest (k + commands_wires cl))
      ∙ ap (λ (cs : List Command). bodies old ++ commands_body s at p k cs ∷ rest (k + commands_wires cs)) c
      ∙ ap (λ (bs : List Body). bodies old ++ bs) (sym (arms_next k arms i a l e)) ∙ h

  pub arms_rest : (arms : List Arm) (i k : ℕ) (now all : List Body) → length arms ≤ i → now ++ arm_bodies s at p k (drop i arms) ≡ all → now ≡ all
  arms_rest arms i k now all l h = sym (append-nil now) ∙ ap (λ (bs : List Body). now ++ bs) (sym (arms_none k arms i l)) ∙ h

pub arm_wires_step : (arms : List Arm) (i : ℕ) (a : Arm) (cl : List Command) (k m all : ℕ) → i < length arms → a ≡ get_or arms i a → cl ≡ commands_in a → m ≡ k + commands_wires cl
    → k + arm_wires (drop i arms) ≡ all → m + arm_wires (drop (i + 1) arms) ≡ all
arm_wires_step arms i a cl k m all l e c f h =
    let q = arms_drop arms i a l ∙ ap (λ (y : Arm). commands_wires (commands_in y) + arm_wires (drop (i + 1) arms)) (sym e) in
    let r : commands_wires cl ≡ commands_wires (commands_in a) = ap commands_wires c in
    omega (arith, q, r, f, h)
