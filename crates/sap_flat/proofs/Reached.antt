-- A body up to its fall: what stands behind one does nothing.
use Rattle.sap_lemmas.proofs.Common.{◌≡◌, ℕ, ◌&&◌, ◌||◌, ◌==◌, List, [], ◌++◌, Bool, true, false, not, sym, ap, ap₂, ◌∙◌, refl, append_assoc, if◌then◌else◌, and_parts, or_left, or_right, append-nil}
use Rattle.sap_ir.proofs.PlainLemmas.{ends_stop}
use Rattle.sap_maps.specs.Prelude.{Name, Term}
use Rattle.sap_ir.specs.Prelude.{Action, set, put, Going, value_in, after_action, with_memory, Body, stop, act, cases, goto, fall, body_does, body_writes, is_stop, transfers, ends_in_transfers}

-- Where a body ends, or where it falls, and which memories it has written until then.
pub record Reached : Type 0 where
  pub going : Going
  pub fell : Bool
  pub written : List Name

abbrev pub behind_if : (fell : Bool) → Reached → (Going → Reached) → Reached
behind_if true e f = e
behind_if false e f = let r = f e.going in record { going = r.going; fell = r.fell; written = e.written ++ r.written }

-- what comes behind, where there was no fall
abbrev pub behind : Reached → (Going → Reached) → Reached
behind e f = behind_if e.fell e f

abbrev pub reached : (widths : Name → ℕ) → (goes : Name → Going → Going) → Body → Going → Reached
reached widths goes stop g = record { going = g; fell = false; written = [] }
reached widths goes (act a rest) g =
    let r = reached widths goes rest (after_action widths g a) in
    record { going = r.going; fell = r.fell; written = with_memory a r.written }
reached widths goes (cases t then_part else_part rest) g =
    behind (if value_in widths g t == 0 then reached widths goes else_part g else reached widths goes then_part g) (reached widths goes rest)
reached widths goes (goto x rest) g = reached widths goes rest (goes x g)
reached widths goes (fall rest) g = record { going = g; fell = true; written = [] }

abbrev pub finish : (fell : Bool) → (falls : Going → Going) → Going → Going
finish true falls g = falls g
finish false falls g = g

abbrev pub finish_writes : (fell : Bool) → (below : Going → List Name) → Going → List Name
finish_writes true below g = below g
finish_writes false below g = []

stop_if : (t s : Bool) → t ≡ true → (not t || s) ≡ true → s ≡ true
stop_if true s h k = k
stop_if false s h k = absurd (cc)

fell_behind : (f : Bool) (e : Reached) (r : Going → Reached) (p q : Bool) → (e.fell ≡ true → p ≡ true)
    → ((k : Going) → (r k).fell ≡ true → q ≡ true) → (behind_if f e r).fell ≡ true → (p || q) ≡ true
fell_behind true e r p q k l h = or_left p q (k h)
fell_behind false e r p q k l h = or_right p q (l e.going h)

fell_somewhere : (y n r : Bool) (b : Bool) (ey en : Reached) (f : Going → Reached) → (ey.fell ≡ true → y ≡ true)
    → (en.fell ≡ true → n ≡ true) → ((k : Going) → (f k).fell ≡ true → r ≡ true) → (behind (if b then en else ey) f).fell ≡ true → (y || n || r) ≡ true
fell_somewhere y n r true ey en f a c d h = fell_behind en.fell en f (y || n) r (λ q. or_right y n (c q)) d h
fell_somewhere y n r false ey en f a c d h = fell_behind ey.fell ey f (y || n) r (λ q. or_left y n (a q)) d h

-- a fall is in the body
pub fell_transfers : (vw : Name → ℕ) (goes : Name → Going → Going) (b : Body) (g : Going) → (reached vw goes b g).fell ≡ true → transfers b ≡ true
fell_transfers vw goes stop g h = absurd (cc)
fell_transfers vw goes (act a rest) g h = fell_transfers vw goes rest (after_action vw g a) h
fell_transfers vw goes (cases t y n rest) g h =
    fell_somewhere (transfers y) (transfers n) (transfers rest) (value_in vw g t == 0) (reached vw goes y g) (reached vw goes n g)
    (reached vw goes rest) (fell_transfers vw goes y g) (fell_transfers vw goes n g) (fell_transfers vw goes rest) h
fell_transfers vw goes (goto x rest) g h = refl
fell_transfers vw goes (fall rest) g h = refl

stop_does : (vw : Name → ℕ) (falls : Going → Going) (goes : Name → Going → Going) (b : Body) (g : Going) → is_stop b ≡ true → body_does vw falls goes b g ≡ g
stop_does vw falls goes stop g h = refl
stop_does vw falls goes (act a rest) g h = absurd (cc)
stop_does vw falls goes (cases t y n rest) g h = absurd (cc)
stop_does vw falls goes (goto x rest) g h = absurd (cc)
stop_does vw falls goes (fall rest) g h = absurd (cc)

stop_writes : (vw : Name → ℕ) (falls : Going → Going) (below : Going → List Name) (goes : Name → Going → Going) (b : Body) (g : Going)
    → is_stop b ≡ true → body_writes vw falls below goes b g ≡ []
stop_writes vw falls below goes stop g h = refl
stop_writes vw falls below goes (act a rest) g h = absurd (cc)
stop_writes vw falls below goes (cases t y n rest) g h = absurd (cc)
stop_writes vw falls below goes (goto x rest) g h = absurd (cc)
stop_writes vw falls below goes (fall rest) g h = absurd (cc)

-- the parts of a choice whose body ends in transfers
pub record Ending (y n rest : Body) : Type 0 where
  pub yes_ends : ends_in_transfers y ≡ true
  pub no_ends : ends_in_transfers n ≡ true
  pub rest_ends : ends_in_transfers rest ≡ true
  pub last : (transfers y || transfers n) ≡ true → is_stop rest ≡ true

pub ending : (t : Term Name) (y n rest : Body) → ends_in_transfers (cases t y n rest) ≡ true → Ending y n rest
ending t y n rest h =
    let p = and_parts (ends_in_transfers y && ends_in_transfers n && ends_in_transfers rest) (not (transfers y || transfers n) || is_stop rest) h in
    let q = and_parts (ends_in_transfers y && ends_in_transfers n) (ends_in_transfers rest) p.0 in
    let r = and_parts (ends_in_transfers y) (ends_in_transfers n) q.0 in
    record {
      yes_ends = r.0;
      no_ends = r.1;
      rest_ends = q.1;
      last = λ k. stop_if (transfers y || transfers n) (is_stop rest) k p.1;
    }

-- where a branch of the choice falls, nothing stands behind
pub last_of_branch : (vw : Name → ℕ) (goes : Name → Going → Going) (y n rest : Body) (g : Going) (b : Bool) → Ending y n rest
    → (if b then reached vw goes n g else reached vw goes y g).fell ≡ true → is_stop rest ≡ true
last_of_branch vw goes y n rest g true e h =
    e.last (or_right (transfers y) (transfers n) (fell_transfers vw goes n g h))
last_of_branch vw goes y n rest g false e h =
    e.last (or_left (transfers y) (transfers n) (fell_transfers vw goes y g h))

-- what a body does is what it does until it falls, and then its fall

behind_does : (vw : Name → ℕ) (falls : Going → Going) (goes : Name → Going → Going) (rest : Body) (f : Bool) (e : Reached)
    → (f ≡ true → is_stop rest ≡ true) → ((k : Going)
    → body_does vw falls goes rest k ≡ finish (reached vw goes rest k).fell falls (reached vw goes rest k).going) → e.fell ≡ f
    → body_does vw falls goes rest (finish f falls e.going) ≡ finish (behind_if f e (reached vw goes rest)).fell falls (behind_if f e (reached vw goes rest)).going
behind_does vw falls goes rest true e l r q = stop_does vw falls goes rest (falls e.going) (l refl) ∙ sym (ap (λ b. finish b falls e.going) q)
behind_does vw falls goes rest false e l r q = r e.going

does_choice : (vw : Name → ℕ) (falls : Going → Going) (goes : Name → Going → Going) (y n rest : Body) (g : Going) (b : Bool)
    → ((if b then reached vw goes n g else reached vw goes y g).fell ≡ true → is_stop rest ≡ true)
    → body_does vw falls goes y g ≡ finish (reached vw goes y g).fell falls (reached vw goes y g).going
    → body_does vw falls goes n g ≡ finish (reached vw goes n g).fell falls (reached vw goes n g).going
    → ((k : Going) → body_does vw falls goes rest k ≡ finish (reached vw goes rest k).fell falls (reached vw goes rest k).going)
    → body_does vw falls goes rest (if b then body_does vw falls goes n g else body_does vw falls goes y g) ≡ (let r : Reached =
    behind (if b then reached vw goes n g else reached vw goes y g) (reached vw goes rest) in finish r.fell falls r.going)
does_choice vw falls goes y n rest g true l dy dn dr =
    let e = reached vw goes n g in
    ap (λ x. body_does vw falls goes rest x) dn ∙ behind_does vw falls goes rest e.fell e l dr refl
does_choice vw falls goes y n rest g false l dy dn dr =
    let e = reached vw goes y g in
    ap (λ x. body_does vw falls goes rest x) dy ∙ behind_does vw falls goes rest e.fell e l dr refl

pub reached_does : (vw : Name → ℕ) (falls : Going → Going) (goes : Name → Going → Going) (b : Body) → ends_in_transfers b ≡ true
    → (g : Going) → body_does vw falls goes b g ≡ finish (reached vw goes b g).fell falls (reached vw goes b g).going
reached_does vw falls goes stop h g = refl
reached_does vw falls goes (act a rest) h g = reached_does vw falls goes rest h (after_action vw g a)
reached_does vw falls goes (cases t y n rest) h g =
    let e = ending t y n rest h in
    does_choice vw falls goes y n rest g (value_in vw g t == 0) (last_of_branch vw goes y n rest g (value_in vw g t == 0) e)
    (reached_does vw falls goes y e.yes_ends g) (reached_does vw falls goes n e.no_ends g) (reached_does vw falls goes rest e.rest_ends)
reached_does vw falls goes (goto x rest) h g = reached_does vw falls goes rest (ends_stop rest h) (goes x g)
reached_does vw falls goes (fall rest) h g = stop_does vw falls goes rest (falls g) h

written_assoc : (ms ns ks : List Name) → (ms ++ ns) ++ ks ≡ ms ++ (ns ++ ks)
written_assoc ms ns ks = append_assoc ms ns ks

with_behind : (a : Action) (ms ns : List Name) → with_memory a (ms ++ ns) ≡ with_memory a ms ++ ns
with_behind (set x t) ms ns = refl
with_behind (put m i t) ms ns = refl

-- and what it writes is what it writes until then, and what is written below

behind_writes : (vw : Name → ℕ) (falls : Going → Going) (below : Going → List Name) (goes : Name → Going
    → Going) (rest : Body) (f : Bool) (e : Reached) → (f ≡ true → is_stop rest ≡ true)
    → ((k : Going) → body_writes vw falls below goes rest k ≡ (reached vw goes rest k).written
    ++ finish_writes (reached vw goes rest k).fell below (reached vw goes rest k).going) → e.fell ≡ f
    → (e.written ++ finish_writes f below e.going) ++ body_writes vw falls below goes rest (finish f falls e.going)
    ≡ (behind_if f e (reached vw goes rest)).written ++ finish_writes (behind_if f e (reached vw goes rest)).fell below (behind_if f e (reached vw goes rest)).going
behind_writes vw falls below goes rest true e l r q =
    ap (λ (ms : List Name). (e.written ++ below e.going) ++ ms) (stop_writes vw falls below goes rest (falls e.going) (l refl))
    ∙ append-nil (e.written ++ below e.going) ∙ sym (ap (λ b. e.written ++ finish_writes b below e.going) q)
behind_writes vw falls below goes rest false e l r q =
    let t = reached vw goes rest e.going in
    ap (λ (ms : List Name). ms ++ body_writes vw falls below goes rest e.going) (append-nil e.written)
    ∙ ap (λ (ms : List Name). e.written ++ ms) (r e.going) ∙ sym (written_assoc e.written t.written (finish_writes t.fell below t.going))

written_choice : (vw : Name → ℕ) (falls : Going → Going) (below : Going → List Name) (goes : Name → Going
    → Going) (y n rest : Body) (g : Going) (b : Bool)
    → ((if b then reached vw goes n g else reached vw goes y g).fell ≡ true → is_stop rest ≡ true) → Ending y n rest
    → body_writes vw falls below goes y g ≡ (reached vw goes y g).written
    ++ finish_writes (reached vw goes y g).fell below (reached vw goes y g).going
    → body_writes vw falls below goes n g ≡ (reached vw goes n g).written
    ++ finish_writes (reached vw goes n g).fell below (reached vw goes n g).going
    → ((k : Going) → body_writes vw falls below goes rest k ≡ (reached vw goes rest k).written
    ++ finish_writes (reached vw goes rest k).fell below (reached vw goes rest k).going)
    → (if b then body_writes vw falls below goes n g ++ body_writes vw falls below goes rest (body_does vw falls goes n g) else body_writes
    vw falls below goes y g ++ body_writes vw falls below goes rest (body_does vw falls goes y g)) ≡ (let r : Reached =
    behind (if b then reached vw goes n g else reached vw goes y g) (reached vw goes rest) in r.written ++ finish_writes r.fell below r.going)
written_choice vw falls below goes y n rest g true l en wy wn wr =
    let e = reached vw goes n g in
    ap₂ (λ (ms : List Name) (k : Going). ms ++ body_writes vw falls below goes rest k) wn (reached_does vw falls goes n en.no_ends g)
    ∙ behind_writes vw falls below goes rest e.fell e l wr refl
written_choice vw falls below goes y n rest g false l en wy wn wr =
    let e = reached vw goes y g in
    ap₂ (λ (ms : List Name) (k : Going). ms ++ body_writes vw falls below goes rest k) wy (reached_does vw falls goes y en.yes_ends g)
    ∙ behind_writes vw falls below goes rest e.fell e l wr refl

pub reached_writes : (vw : Name → ℕ) (falls : Going → Going) (below : Going → List Name) (goes : Name → Going → Going) (b : Body)
    → ends_in_transfers b ≡ true → (g : Going)
    → body_writes vw falls below goes b g ≡ (reached vw goes b g).written ++ finish_writes (reached vw goes b g).fell below (reached vw goes b g).going
reached_writes vw falls below goes stop h g = refl
reached_writes vw falls below goes (act a rest) h g =
    let r = reached vw goes rest (after_action vw g a) in
    ap (with_memory a) (reached_writes vw falls below goes rest h (after_action vw g a))
    ∙ with_behind a r.written (finish_writes r.fell below r.going)
reached_writes vw falls below goes (cases t y n rest) h g =
    let e = ending t y n rest h in
    let b = value_in vw g t == 0 in
    written_choice vw falls below goes y n rest g b (last_of_branch vw goes y n rest g b e) e
    (reached_writes vw falls below goes y e.yes_ends g) (reached_writes vw falls below goes n e.no_ends g) (reached_writes vw falls below goes rest e.rest_ends)
reached_writes vw falls below goes (goto x rest) h g = reached_writes vw falls below goes rest (ends_stop rest h) (goes x g)
reached_writes vw falls below goes (fall rest) h g =
    ap (λ (ms : List Name). below g ++ ms) (stop_writes vw falls below goes rest (falls g) h) ∙ append-nil (below g)
