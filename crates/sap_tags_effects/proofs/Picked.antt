-- Which block of a `case` runs: assignments to the wire of its number, and choices by the bits of that number.
use Rattle.sap_lemmas.proofs.Common.{◌≡◌, ℕ, zero, suc, ◌+◌, ◌^◌, ◌<◌, ◌≤◌, List, [], ◌∷◌, ◌++◌, length, get_or, take, drop, map, refl, sym, ap, ap₂, ◌∙◌, arith, add-one, le-leb, lt-leb, length-map, Vec, Global}
use Rattle.std.proofs.lemmas.List.{take-map, drop-map}
use Rattle.sap_ir.proofs.PlainLemmas.{follow_stop}
use Rattle.sap_bits.specs.declared.Op2.TheVariants.{Eq}
use Rattle.sap_maps.specs.Prelude.{Name, Term, constant, two, choose, part}
use Rattle.sap_meaning.specs.Program.{Arms, last_arm, end_block}
use Rattle.sap_meaning.specs.Program as program
use Rattle.sap_ir.specs.Prelude.{Body, stop, cases, seat_width, term_of, body_of, follow}
use Rattle.sap_ir.specs.declared.guarded.Calc.{Calc}
use Rattle.sap_ir.specs.declared.plain.nested.PlainCmd.{PlainCmd}
use Rattle.sap_ir.specs.declared.plain.nested.PlainCmd.TheViews as shown
use Rattle.sap_ir.proofs.plain.Views.{body_of-push, before-if, follow-more}
use Rattle.sap_program.specs.Views.{constants_of}
use Rattle.sap_program.specs.declared.program.Arm.{Arm}
use Rattle.sap_tagged.specs.Prelude.{wire_key, Setting, var, gives, pick_width, picks_arm, picks, decides}
use Rattle.sap_tags_terms.proofs.Alone.{alone, alone_next, alone_past, counted}

module _ (d : Setting) where
  -- in front of others

  picks_arm_follow : (u n w j i : ℕ) (cs : List ℕ) (b : Body) → picks_arm d u n w j i cs b ≡ follow (picks_arm d u n w j i cs stop) b
  picks_arm_follow u n w j i [] b = refl
  picks_arm_follow u n w j i (c ∷ cs) b =
      ap (gives d (wire_key j) (choose (two Eq (var d (wire_key n)) (constant u c)) (constant w i) (var d (wire_key j)))) (picks_arm_follow u n w j i cs b)

  pub picks_follow : (u n w j i : ℕ) (arms : Arms) (b : Body) → picks d u n w j i arms b ≡ follow (picks d u n w j i arms stop) b
  picks_follow u n w j i (last_arm x) b = refl
  picks_follow u n w j i (program.and_arm cs x arms) b =
      let later = picks d u n w j (suc i) arms stop in
      let own = picks_arm d u n w j i cs stop in
      picks_follow u n w j (suc i) arms (picks_arm d u n w j i cs b)
      ∙ ap (follow later) (picks_arm_follow u n w j i cs b)
      ∙ sym (follow-more later own b)
      ∙ ap (λ (x : Body). follow x b) (sym (picks_follow u n w j (suc i) arms own))

  -- one constant more

  module _ (u n w j i : ℕ) where
    abbrev pub chosen : ℕ → Term Name
    chosen c = choose (two Eq (var d (wire_key n)) (constant u c)) (constant w i) (var d (wire_key j))

    constants_next : (cs : List ℕ) (k e : ℕ) → k < length cs
        → picks_arm d u n w j i (drop k cs) stop ≡ follow (gives d (wire_key j) (chosen (get_or cs k e)) stop) (picks_arm d u n w j i (drop (k + 1) cs) stop)
    constants_next [] k e l = absurd (omega arith)
    constants_next (x ∷ cs) zero e l = refl
    constants_next (x ∷ cs) (suc k) e l = let r = constants_next cs k e (omega arith) in simp (add-one) (simp (add-one) at r)

    pub constants_step : (cs : List ℕ) (k e : ℕ) (now new all : Body) (t : Term Name) → k < length cs → new ≡ follow now (gives d (wire_key j) t stop) → t ≡ chosen (get_or cs k e)
        → follow now (picks_arm d u n w j i (drop k cs) stop) ≡ all → follow new (picks_arm d u n w j i (drop (k + 1) cs) stop) ≡ all
    constants_step cs k e now new all t l f g h =
        let c = get_or cs k e in
        let rest = picks_arm d u n w j i (drop (k + 1) cs) stop in
        ap (λ (b : Body). follow b rest) (f ∙ ap (λ (x : Term Name). follow now (gives d (wire_key j) x stop)) g)
        ∙ follow-more now (gives d (wire_key j) (chosen c) stop) rest
        ∙ ap (follow now) (sym (constants_next cs k e l)) ∙ h

    constants_past : (cs : List ℕ) (k : ℕ) → length cs ≤ k → picks_arm d u n w j i (drop k cs) stop ≡ stop
    constants_past [] zero l = refl
    constants_past [] (suc k) l = refl
    constants_past (c ∷ cs) zero l = absurd (omega arith)
    constants_past (c ∷ cs) (suc k) l = constants_past cs k (omega arith)

    pub constants_rest : (cs : List ℕ) (k : ℕ) (now all : Body) → length cs ≤ k → follow now (picks_arm d u n w j i (drop k cs) stop) ≡ all → now ≡ all
    constants_rest cs k now all l h = sym (follow_stop now) ∙ ap (follow now) (sym (constants_past cs k l)) ∙ h

  -- one arm more, later arms first

  module _ (m u n w j : ℕ) where
    -- the number of the last block, as many as there are arms
    pub arms_begin : (arms : List Arm) (now new : Body) (v i : ℕ) → v ≡ length arms → i ≡ length arms → new ≡ follow now (gives d (wire_key j) (constant w v) stop)
        → new ≡ follow now (picks d u n w j i (alone m (drop i arms)) stop)
    arms_begin arms now new v i e f h =
        let none : alone m (drop i arms) ≡ last_arm end_block = alone_past m arms i (omega (arith, f)) in
        let same : v ≡ i = e ∙ sym f in
        h ∙ ap (λ (x : ℕ). follow now (gives d (wire_key j) (constant w x) stop)) same ∙ ap (λ (x : Arms). follow now (picks d u n w j i x stop)) (sym none)

    pub arms_end : (arms : List Arm) (now new : Body) (i : ℕ) → i ≡ 0 → new ≡ follow now (picks d u n w j i (alone m (drop i arms)) stop)
        → new ≡ follow now (picks d u n w j 0 (alone m arms) stop)
    arms_end arms now new i e h = h ∙ ap (λ (x : ℕ). follow now (picks d u n w j x (alone m (drop x arms)) stop)) e

    -- the arm i, where the later ones from k on are told
    pub arms_step : (arms : List Arm) (i k : ℕ) (a : Arm) (cs : List ℕ) (start now new : Body) → i < length arms → k ≡ i + 1 → a ≡ get_or arms i a → cs ≡ constants_of a
        → new ≡ follow now (picks_arm d u n w j i cs stop) → now ≡ follow start (picks d u n w j k (alone m (drop k arms)) stop)
        → new ≡ follow start (picks d u n w j i (alone m (drop i arms)) stop)
    arms_step arms i k a cs start now new l q e c f h =
        let later : ℕ → Body = λ x. picks d u n w j x (alone m (drop (i + 1) arms)) stop in
        let own = picks_arm d u n w j i (constants_of a) stop in
        let here : now ≡ follow start (later (i + 1)) = h ∙ ap (λ (x : ℕ). follow start (picks d u n w j x (alone m (drop x arms)) stop)) q in
        f ∙ ap₂ (λ (b : Body) (xs : List ℕ). follow b (picks_arm d u n w j i xs stop)) here c
        ∙ ap (λ (x : ℕ). follow (follow start (later x)) own) (add-one i)
        ∙ follow-more start (later (suc i)) own
        ∙ ap (follow start) (sym (picks_follow u n w j (suc i) (alone m (drop (i + 1) arms)) own))
        ∙ ap (λ (x : Arms). follow start (picks d u n w j i x stop)) (sym (alone_next m arms i a l e))

  -- the number of a block, and then the block
  pub block_picked : (u v w m k : ℕ) (arms : List Arm) (bodies : List Body) (b0 b1 : Body) → u ≡ v → w ≡ seat_width (length arms + 1)
      → b1 ≡ follow b0 (picks d u (k + 2) w (k + 3) 0 (alone m arms) stop)
      → follow b1 (decides d (k + 3) w bodies)
      ≡ follow b0 (picks d v (k + 2) (pick_width (alone m arms)) (k + 3) 0 (alone m arms) (decides d (k + 3) (pick_width (alone m arms)) bodies))
  block_picked u v w m k arms bodies b0 b1 e f h =
      let all : Arms = alone m arms in
      let choice : ℕ → Body = λ x. decides d (k + 3) x bodies in
      let width : w ≡ pick_width all = f ∙ ap seat_width (add-one (length arms)) ∙ ap (λ (x : ℕ). seat_width (suc x)) (sym (counted m arms end_block)) in
      ap (λ (b : Body). follow b (choice w)) h
      ∙ follow-more b0 (picks d u (k + 2) w (k + 3) 0 all stop) (choice w)
      ∙ ap (follow b0) (sym (picks_follow u (k + 2) w (k + 3) 0 all (choice w)))
      ∙ ap₂ (λ (x y : ℕ). follow b0 (picks d x (k + 2) y (k + 3) 0 all (choice y))) e width

  -- the bits of a number

  decides_few : (j bits m : ℕ) (bs : List Body) → bits ≡ suc m → length bs ≤ 2 ^ m → decides d j bits bs ≡ decides d j m bs
  decides_few j bits m bs e l = rw (e, le-leb (length bs) (2 ^ m) l) refl

  decides_many : (j bits m : ℕ) (bs : List Body) → bits ≡ suc m → 2 ^ m < length bs
      → decides d j bits bs ≡ cases (part (var d (wire_key j)) m m) (decides d j m (drop (2 ^ m) bs)) (decides d j m (take (2 ^ m) bs)) stop
  decides_many j bits m bs e l = rw (e, lt-leb (length bs) (2 ^ m) l) refl

  -- as the code has it

  abbrev bodies_of : List (Vec PlainCmd Global) → List Body
  bodies_of bs = map (λ b. body_of b.items) bs

  pub code_none : (j bits : ℕ) (bs : List (Vec PlainCmd Global)) (now : Body) → bits ≡ 0 → length bs ≡ 0 → now ≡ follow now (decides d j bits (bodies_of bs))
  code_none j bits [] now e f = sym (ap (λ (x : ℕ). follow now (decides d j x [])) e ∙ follow_stop now)
  code_none j bits (b ∷ bs) now e f = absurd (omega (arith, f))

  pub code_first : (j bits : ℕ) (bs rest : List (Vec PlainCmd Global)) (b : Vec PlainCmd Global) (now new : Body) → bits ≡ 0 → bs ≡ b ∷ rest
      → new ≡ follow now (body_of b.items) → new ≡ follow now (decides d j bits (bodies_of bs))
  code_first j bits bs rest b now new e f h = h ∙ sym (ap₂ (λ (x : ℕ) (l : List (Vec PlainCmd Global)). follow now (decides d j x (bodies_of l))) e f)

  pub code_few : (j bits m : ℕ) (bs : List (Vec PlainCmd Global)) → bits ≡ suc m → length bs ≤ 2 ^ m → decides d j m (bodies_of bs) ≡ decides d j bits (bodies_of bs)
  code_few j bits m bs e l = let n = length-map bs (λ (b : Vec PlainCmd Global). body_of b.items) in sym (decides_few j bits m (bodies_of bs) e (omega (arith, l, n)))

  pub code_many : (j bits m : ℕ) (bs low high : List (Vec PlainCmd Global)) → bits ≡ suc m → 2 ^ m < length bs → low ≡ take (2 ^ m) bs → high ≡ drop (2 ^ m) bs
      → cases (part (var d (wire_key j)) m m) (decides d j m (bodies_of high)) (decides d j m (bodies_of low)) stop ≡ decides d j bits (bodies_of bs)
  code_many j bits m bs low high e l f g =
      let n = length-map bs (λ (b : Vec PlainCmd Global). body_of b.items) in
      let test : Term Name = part (var d (wire_key j)) m m in
      ap₂ (λ (x y : List Body). cases test (decides d j m x) (decides d j m y) stop)
      (ap bodies_of g ∙ sym (drop-map (λ (b : Vec PlainCmd Global). body_of b.items) (2 ^ m) bs)) (ap bodies_of f
      ∙ sym (take-map (λ (b : Vec PlainCmd Global). body_of b.items) (2 ^ m) bs))
      ∙ sym (decides_many j bits m (bodies_of bs) e (omega (arith, l, n)))

  -- the choice by a bit, in front of which stand others
  pub code_choice : (j m : ℕ) (bs low high : List (Vec PlainCmd Global)) (t number : Calc) (ys ns : Vec PlainCmd Global)
      (now new : List PlainCmd) → new ≡ now ++ shown.If t ys ns ∷ []
      → term_of number ≡ var d (wire_key j) → term_of t ≡ part (term_of number) m m → body_of ys.items ≡ decides d j m (bodies_of high)
      → body_of ns.items ≡ decides d j m (bodies_of low)
      → body_of new ≡ follow (body_of now) (cases (part (var d (wire_key j)) m m) (decides d j m (bodies_of high)) (decides d j m (bodies_of low)) stop)
  code_choice j m bs low high t number ys ns now new f e q y n =
      ap body_of f ∙ body_of-push now (shown.If t ys ns) ∙ ap (follow (body_of now)) (before-if t ys ns stop)
      ∙ ap (λ (x : Term Name). follow (body_of now) (cases x (body_of ys.items) (body_of ns.items) stop)) (q ∙ ap (λ (x : Term Name). part x m m) e)
      ∙ ap₂ (λ (a b : Body). follow (body_of now) (cases (part (var d (wire_key j)) m m) a b stop)) y n
