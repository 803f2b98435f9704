-- A body, under a gate that is not 0: its commands do what it does until it falls, and then its other gate is 1.
use Rattle.sap_lemmas.proofs.Common.{◌≡◌, ℕ, ◌+◌, ◌<◌, ◌≤◌, ◌==◌, List, [], ◌∷◌, ◌++◌, Bool, true, false, ap, ◌∙◌, refl, arith, if◌then◌else◌, ne_eqb, zero_of_test}
use Rattle.sap_ir.proofs.PlainLemmas.{ends_stop}
use Rattle.sap_maps.specs.Prelude.{Name, Term, constant, read}
use Rattle.sap_net.specs.Names.{is_among}
use Rattle.sap_ir.specs.Prelude.{Action, set, Command, Source, readable, shapes, TermFine, ActionFine, Going, value_in, after_action, Body, stop, act, cases, goto, fall, Forest, group_names, put_value, enter, BodyFine, is_stop, ends_in_transfers, SeatFine, ForestFine}
use Rattle.sap_flat.specs.Gates.{gate_name}
use Rattle.sap_flat.specs.Flat.{under, is_number, flat_goto, flat_body}
use Rattle.sap_flat.proofs.Runs.{Runs, runs_none, runs_on, runs_append, runs_end, runs_last}
use Rattle.sap_flat.proofs.Alike.{World, Alike, Zero, term_alike, act_alike, gate_alike, at_gate, past_gate, past_action}
use Rattle.sap_flat.proofs.Reached.{Reached, behind_if, reached, Ending, ending, last_of_branch}
use Rattle.sap_flat.proofs.Off.{body_off}
use Rattle.sap_flat.proofs.Moved.{goto_moved}

-- What a body's commands lead to: where it was reached, with the gate `fell` telling of the fall; gates below k are kept, and those from `next` on are 0.
pub record Ran (s : Source) (vf : Name → ℕ) (fell k next : ℕ) (g : Going) (cs : List Command) (e : Reached) : Type 0 where
  pub end : Going
  pub runs : Runs vf g cs end e.written
  pub alike : Alike s end e.going
  pub fallen : end.now.value (gate_name fell) ≡ (if e.fell then 1 else 0)
  pub kept : (i : ℕ) → i < k → (i == fell) ≡ false → end.now.value (gate_name i) ≡ g.now.value (gate_name i)
  pub free : Zero next end
  pub grows : k ≤ next

abbrev pub On : Source → (vf vp : Name → ℕ) → (goes : Name → Going → Going) → (seat : Name) → (group : Forest) → (fell : ℕ) → Body → Type 0
On s vf vp goes seat group fell b =
    (j k : ℕ) (g h : Going) → j < k → (j == fell) ≡ false → fell < k → (g.now.value (gate_name j) == 0) ≡ false → g.now.value (gate_name fell) ≡ 0
    → Zero k g → Alike s g h
    → Ran s vf fell k (flat_body seat group fell b j k).next g (flat_body seat group fell b j k).commands (reached vp goes b h)

-- nothing stands behind a fall
ran_stop : (s : Source) (vf : Name → ℕ) (seat : Name) (group : Forest) (fell : ℕ) (rest : Body) (j k m : ℕ) (g : Going) (cs : List Command)
    (e : Reached) → is_stop rest ≡ true → Ran s vf fell k m g cs e
    → Ran s vf fell k (flat_body seat group fell rest j m).next g (cs ++ (flat_body seat group fell rest j m).commands) e
ran_stop s vf seat group fell stop j k m g cs e h r =
    record {
      end = r.end;
      runs = runs_end vf g r.end cs e.written r.runs;
      alike = r.alike;
      fallen = r.fallen;
      kept = r.kept;
      free = r.free;
      grows = r.grows;
    }
ran_stop s vf seat group fell (act a rest) j k m g cs e h r = absurd (cc)
ran_stop s vf seat group fell (cases t y n rest) j k m g cs e h r = absurd (cc)
ran_stop s vf seat group fell (goto x rest) j k m g cs e h r = absurd (cc)
ran_stop s vf seat group fell (fall rest) j k m g cs e h r = absurd (cc)

-- what stands behind a choice
ran_behind : (s : Source) (vf vp : Name → ℕ) (goes : Name → Going → Going) (seat : Name) (group : Forest) (fell : ℕ) (rest : Body)
    (j k m : ℕ) (g : Going) (cs : List Command) (e : Reached) (b : Bool) → e.fell ≡ b → (b ≡ true → is_stop rest ≡ true)
    → (r : Ran s vf fell k m g cs e) → (b ≡ false
    → Ran s vf fell m (flat_body seat group fell rest j m).next r.end (flat_body seat group fell rest j m).commands (reached vp goes rest e.going))
    → Ran s vf fell k (flat_body seat group fell rest j m).next g (cs ++ (flat_body seat group fell rest j m).commands) (behind_if b e (reached vp goes rest))
ran_behind s vf vp goes seat group fell rest j k m g cs e true q l r o = ran_stop s vf seat group fell rest j k m g cs e (l refl) r
ran_behind s vf vp goes seat group fell rest j k m g cs e false q l r o =
    let f = flat_body seat group fell rest j m in
    let t = o refl in
    record {
      end = t.end;
      runs = runs_append vf g r.end t.end cs f.commands e.written (reached vp goes rest e.going).written r.runs t.runs;
      alike = t.alike;
      fallen = t.fallen;
      kept = λ i d n. t.kept i (omega (arith, r.grows)) n ∙ r.kept i d n;
      free = t.free;
      grows = omega (arith, r.grows, t.grows);
    }

-- after the two gates of a choice are set
record Chosen (s : Source) (vf : Name → ℕ) (k v : ℕ) (g g2 h : Going) : Type 0 where
  alike : Alike s g2 h
  first : g2.now.value (gate_name k) ≡ v
  second : g2.now.value (gate_name (k + 1)) ≡ (if v == 0 then 1 else 0)
  free : Zero (k + 2) g2
  kept : (i : ℕ) → i < k → g2.now.value (gate_name i) ≡ g.now.value (gate_name i)

chosen : (s : Source) (vf vp : Name → ℕ) → World s vf vp → (k v : ℕ) (g h : Going) → Zero k g → Alike s g h → let g1 : Going =
    put_value g (gate_name k) v in Chosen s vf k v g (put_value g1 (gate_name (k + 1)) (if g1.now.value (gate_name k) == 0 then 1 else 0)) h
chosen s vf vp w k v g h ze a =
    let g1 = put_value g (gate_name k) v in
    let v2 : ℕ = if g1.now.value (gate_name k) == 0 then 1 else 0 in
    let here = at_gate g k v in
    record {
      alike = gate_alike s vf vp w g1 h (gate_alike s vf vp w g h a k v) (k + 1) v2;
      first = past_gate g1 (k + 1) k v2 (ne_eqb k (k + 1) (λ e. omega (arith, e))) ∙ here;
      second = at_gate g1 (k + 1) v2 ∙ ap (λ (n : ℕ). if n == 0 then 1 else 0) here;
      free = λ i l. past_gate g1 (k + 1) i v2 (ne_eqb i (k + 1) (λ e. omega (arith, e, l))) ∙ past_gate g k i v (ne_eqb i k (λ e. omega (arith, e, l))) ∙ ze i (omega arith);
      kept = λ i l. past_gate g1 (k + 1) i v2 (ne_eqb i (k + 1) (λ e. omega (arith, e, l))) ∙ past_gate g k i v (ne_eqb i k (λ e. omega (arith, e, l)));
    }

-- the branch that is taken does its part, and the other nothing
branches : (s : Source) (vf vp : Name → ℕ) (goes : Name → Going → Going) (seat : Name) (group : Forest) (fell : ℕ) (y n : Body)
    → On s vf vp goes seat group fell y → On s vf vp goes seat group fell n → (k v : ℕ) (g g2 h : Going) → Chosen s vf k v g g2 h → fell < k
    → g.now.value (gate_name fell) ≡ 0 → (b : Bool) → (v == 0) ≡ b → let fy = flat_body seat group fell y k (k + 2) in
    let fn = flat_body seat group fell n (k + 1) fy.next in Ran s vf fell k fn.next g2 (fy.commands ++ fn.commands) (if b then reached vp goes n h else reached vp goes y h)
branches s vf vp goes seat group fell y n ony onn k v g g2 h c lf zf true q =
    let fy = flat_body seat group fell y k (k + 2) in
    let fn = flat_body seat group fell n (k + 1) fy.next in
    let oy = body_off vf seat group fell y k (k + 2) g2 (c.first ∙ zero_of_test v q) c.free in
    let rn = onn (k + 1) fy.next g2 h (omega (arith, oy.grows)) (ne_eqb (k + 1) fell (λ e. omega (arith, e, lf)))
    (omega (arith, oy.grows, lf)) (ap (λ (i : ℕ). i == 0) (c.second ∙ ap (λ (p : Bool). if p then 1 else 0) q)) (c.kept fell lf
    ∙ zf) (λ i l. c.free i (omega (arith, oy.grows, l))) c.alike in
    record {
      end = rn.end;
      runs = runs_append vf g2 g2 rn.end fy.commands fn.commands [] (reached vp goes n h).written oy.runs rn.runs;
      alike = rn.alike;
      fallen = rn.fallen;
      kept = λ i l d. rn.kept i (omega (arith, oy.grows, l)) d;
      free = rn.free;
      grows = omega (arith, oy.grows, rn.grows);
    }
branches s vf vp goes seat group fell y n ony onn k v g g2 h c lf zf false q =
    let fy = flat_body seat group fell y k (k + 2) in
    let fn = flat_body seat group fell n (k + 1) fy.next in
    let ry = ony k (k + 2) g2 h (omega arith) (ne_eqb k fell (λ e. omega (arith, e, lf))) (omega (arith, lf))
    (ap (λ (i : ℕ). i == 0) c.first ∙ q) (c.kept fell lf ∙ zf) c.free c.alike in
    let on = body_off vf seat group fell n (k + 1) fy.next ry.end
    (ry.kept (k + 1) (omega arith) (ne_eqb (k + 1) fell (λ e. omega (arith, e, lf))) ∙ c.second ∙ ap (λ (p : Bool). if p then 1 else 0) q) ry.free in
    record {
      end = ry.end;
      runs = runs_last vf g2 ry.end (fy.commands ++ fn.commands) (reached vp goes y h).written
          (runs_append vf g2 ry.end ry.end fy.commands fn.commands (reached vp goes y h).written [] ry.runs on.runs);
      alike = ry.alike;
      fallen = ry.fallen;
      kept = λ i l d. ry.kept i (omega (arith, l)) d;
      free = λ i l. ry.free i (omega (arith, on.grows, l));
      grows = omega (arith, ry.grows, on.grows);
    }

-- a choice: its two gates, its branches and what stands behind
on_cases : (s : Source) (vf vp : Name → ℕ) → World s vf vp
    → (goes : Name → Going → Going) (seat : Name) (group : Forest) (fell : ℕ) (t : Term Name) (y n rest : Body)
    → TermFine (shapes s) (readable s) 1 t → Ending y n rest → On s vf vp goes seat group fell y → On s vf vp goes seat group fell n
    → On s vf vp goes seat group fell rest → On s vf vp goes seat group fell (cases t y n rest)
on_cases s vf vp w goes seat group fell t y n rest tf en ony onn onr j k g h lj jf lf q zf ze a =
    let v = value_in vf g t in
    let g1 = put_value g (gate_name k) v in
    let second : Command = under j (set (gate_name (k + 1)) (is_number (read (gate_name k)) 1 0)) in
    let g2 = after_action vf g1 second.act in
    let c : Chosen s vf k v g g2 h = chosen s vf vp w k v g h ze a in
    let e = term_alike s vf vp w g h a 1 t tf in
    let b = value_in vp h t == 0 in
    let fy = flat_body seat group fell y k (k + 2) in
    let fn = flat_body seat group fell n (k + 1) fy.next in
    let fr = flat_body seat group fell rest j fn.next in
    let taken : Reached = if b then reached vp goes n h else reached vp goes y h in
    let r = branches s vf vp goes seat group fell y n ony onn k v g g2 h c lf zf b (ap (λ (i : ℕ). i == 0) e) in
    let all = ran_behind s vf vp goes seat group fell rest j k fn.next g2 (fy.commands ++ fn.commands) taken taken.fell refl
    (last_of_branch vp goes y n rest h b en) r
    (λ nf. onr j fn.next r.end taken.going (omega (arith, r.grows, lj)) jf (omega (arith, r.grows, lf))
    (ap (λ (i : ℕ). i == 0) (r.kept j lj jf ∙ c.kept j lj) ∙ q) (r.fallen ∙ ap (λ (p : Bool). if p then 1 else 0) nf) r.free r.alike) in
    let cs : List Command = (fy.commands ++ fn.commands) ++ fr.commands in
    let q1 : (g1.now.value (gate_name j) == 0) ≡ false = ap (λ (i : ℕ). i == 0) (past_gate g k j v (ne_eqb j k (λ x. omega (arith, x, lj)))) ∙ q in
    record {
      end = all.end;
      runs = runs_on vf g all.end (under j (set (gate_name k) t)) (second ∷ cs) _ q (runs_on vf g1 all.end second cs _ q1 all.runs);
      alike = all.alike;
      fallen = all.fallen;
      kept = λ i l d. all.kept i l d ∙ c.kept i l;
      free = all.free;
      grows = all.grows;
    }

-- an assignment or a write
on_act : (s : Source) (vf vp : Name → ℕ) → World s vf vp
    → (goes : Name → Going → Going) (seat : Name) (group : Forest) (fell : ℕ) (d : Action) (rest : Body) → ActionFine s d
    → On s vf vp goes seat group fell rest → On s vf vp goes seat group fell (act d rest)
on_act s vf vp w goes seat group fell d rest df onr j k g h lj jf lf q zf ze a =
    let g1 = after_action vf g d in
    let h1 = after_action vp h d in
    let keeps = past_action s vf vp w g d df in
    let r = onr j k g1 h1 lj jf lf (ap (λ (i : ℕ). i == 0) (keeps j) ∙ q) (keeps fell ∙ zf) (λ i l. keeps i ∙ ze i l) (act_alike s vf vp w g h a d df) in
    record {
      end = r.end;
      runs = runs_on vf g r.end (under j d) (flat_body seat group fell rest j k).commands (reached vp goes rest h1).written q r.runs;
      alike = r.alike;
      fallen = r.fallen;
      kept = λ i l n. r.kept i l n ∙ keeps i;
      free = r.free;
      grows = r.grows;
    }

-- a fall sets its gate
on_fall : (s : Source) (vf vp : Name → ℕ) → World s vf vp
    → (goes : Name → Going → Going) (seat : Name) (group : Forest) (fell : ℕ) (rest : Body) → is_stop rest ≡ true → On s vf vp goes seat group fell (fall rest)
on_fall s vf vp w goes seat group fell stop is j k g h lj jf lf q zf ze a =
    let g1 = put_value g (gate_name fell) 1 in
    let c : Command = under j (set (gate_name fell) (constant 1 1)) in
    record {
      end = g1;
      runs = runs_on vf g g1 c [] [] q (runs_none vf g1);
      alike = gate_alike s vf vp w g h a fell 1;
      fallen = at_gate g fell 1;
      kept = λ i l d. past_gate g fell i 1 d;
      free = λ i l. past_gate g fell i 1 (ne_eqb i fell (λ e. omega (arith, e, l, lf))) ∙ ze i l;
      grows = omega arith;
    }
on_fall s vf vp w goes seat group fell (act d rest) is j k g h lj jf lf q zf ze a = absurd (cc)
on_fall s vf vp w goes seat group fell (cases t y n rest) is j k g h lj jf lf q zf ze a = absurd (cc)
on_fall s vf vp w goes seat group fell (goto x rest) is j k g h lj jf lf q zf ze a = absurd (cc)
on_fall s vf vp w goes seat group fell (fall rest) is j k g h lj jf lf q zf ze a = absurd (cc)

on_goto : (s : Source) (vf vp : Name → ℕ) → World s vf vp → (ss gs : List Name) (seat : Name) (group : Forest) → SeatFine s seat group
    → ForestFine s ss gs group → (fell : ℕ) (x : Name) (rest : Body) → is_among x (group_names group) ≡ true
    → On s vf vp (enter seat group) seat group fell rest → On s vf vp (enter seat group) seat group fell (goto x rest)
on_goto s vf vp w ss gs seat group sf fine fell x rest there onr j k g h lj jf lf q zf ze a =
    let m = goto_moved s vf vp w ss gs seat group sf fine x there j g h q a in
    let h1 = enter seat group x h in
    let r = onr j k m.end h1 lj jf lf (ap (λ (i : ℕ). i == 0) (m.kept j) ∙ q) (m.kept fell ∙ zf) (λ i l. m.kept i ∙ ze i l) m.alike in
    record {
      end = r.end;
      runs = runs_append vf g m.end r.end (flat_goto seat group j x) (flat_body seat group fell rest j k).commands [] (reached vp (enter seat group) rest h1).written m.runs r.runs;
      alike = r.alike;
      fallen = r.fallen;
      kept = λ i l n. r.kept i l n ∙ m.kept i;
      free = r.free;
      grows = r.grows;
    }

on_stop : (s : Source) (vf vp : Name → ℕ) (goes : Name → Going → Going) (seat : Name) (group : Forest) (fell : ℕ) → On s vf vp goes seat group fell stop
on_stop s vf vp goes seat group fell j k g h lj jf lf q zf ze a =
    record {
      end = g;
      runs = runs_none vf g;
      alike = a;
      fallen = zf;
      kept = λ i l n. refl;
      free = ze;
      grows = omega arith;
    }

pub on_body : (s : Source) (vf vp : Name → ℕ) → World s vf vp → (ss : List Name) (seat : Name) (group : Forest) → SeatFine s seat group
    → ForestFine s ss (group_names group) group → (fell : ℕ) (nested : Bool) (b : Body) → BodyFine s ss (group_names group) nested b
    → ends_in_transfers b ≡ true → On s vf vp (enter seat group) seat group fell b
on_body s vf vp w ss seat group sf fine fell nested stop bf en = on_stop s vf vp (enter seat group) seat group fell
on_body s vf vp w ss seat group sf fine fell nested (act d rest) bf en =
    on_act s vf vp w (enter seat group) seat group fell d rest bf.0 (on_body s vf vp w ss seat group sf fine fell nested rest bf.2 en)
on_body s vf vp w ss seat group sf fine fell nested (cases t y n rest) bf en =
    let e = ending t y n rest en in
    on_cases s vf vp w (enter seat group) seat group fell t y n rest bf.0 e
    (on_body s vf vp w ss seat group sf fine fell nested y bf.1 e.yes_ends)
    (on_body s vf vp w ss seat group sf fine fell nested n bf.2 e.no_ends) (on_body s vf vp w ss seat group sf fine fell nested rest bf.3 e.rest_ends)
on_body s vf vp w ss seat group sf fine fell nested (goto x rest) bf en =
    on_goto s vf vp w ss (group_names group) seat group sf fine fell x rest bf.0 (on_body s vf vp w ss seat group sf fine fell nested rest bf.1 (ends_stop rest en))
on_body s vf vp w ss seat group sf fine fell nested (fall rest) bf en =
    on_fall s vf vp w (enter seat group) seat group fell rest en
