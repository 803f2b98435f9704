-- Two streams that are walked side by side, many cycles at a time.
use Rattle.std.proofs.Common.{◌≡◌, ℕ, ◌+◌, ◌-◌, ◌<◌, ◌≤◌, List, [], length, get_or, drop, replicate, inl, inr, sym, ap, subst, ◌∙◌, arith}
use Rattle.std.proofs.lemmas.Bool.{cases_lt}
use Rattle.std.proofs.lemmas.List.{length-append, length-replicate, length-drop, drop-drop}
use Rattle.std.proofs.lemmas.List.Elements.{All-get_or}
use Rattle.sap_lattice.specs.Order.{Order}
use Rattle.sap_meaning.specs.Prelude.{InputsAgree, Tagged}
use Rattle.sap_stream.specs.declared.apart.Ahead.{Ahead}
use Rattle.sap_stream.specs.Ahead.{cycles_ahead}
use Rattle.sap_stream.specs.Apart.{IsFirst, IsApartAt, AreOfOneLength}
use Rattle.sap_stream.specs.Spans.{cycles_of}
use Rattle.sap_stream.proofs.Agreeing.{first_cycle}
use Rattle.sap_stream.proofs.Spans.{at_ahead}

-- The stream goes on from the place `cycle` as a says, and there is a cycle of a's first inputs.
pub record IsAt (stream : List (List Tagged)) (cycle : ℕ) (a : Ahead) : Type 0 where
  pub ahead : cycles_ahead a ≡ drop cycle stream
  pub some : 0 < a.left

pub reached : (stream : List (List Tagged)) (cycle : ℕ) (a b : Ahead) → cycle < length stream → cycles_ahead a ≡ drop cycle stream → cycles_ahead b ≡ cycles_ahead a
    → (0 < length (cycles_ahead a) → 0 < b.left) → IsAt stream cycle b
reached stream cycle a b below e same some = record {
  ahead = same ∙ e;
  some = some (omega (arith, ap length e, length-drop cycle stream));
}

-- the inputs of each of the next cycles
at_place : (stream : List (List Tagged)) (cycle : ℕ) (a : Ahead) → IsAt stream cycle a → (k : ℕ) → cycle ≤ k → k < cycle + a.left → get_or stream k [] ≡ a.inputs.now
at_place stream cycle a h k from below =
    let place : k ≡ cycle + (k - cycle) = omega arith in
    ap (λ (n : ℕ). get_or stream n []) place ∙ at_ahead stream (cycles_of a.behind.now) cycle a.left (k - cycle) a.inputs.now h.ahead (omega arith)

at_once : (stream : List (List Tagged)) (cycle : ℕ) (a : Ahead) → IsAt stream cycle a → get_or stream cycle [] ≡ a.inputs.now
at_once stream cycle a h = let some = h.some in at_place stream cycle a h cycle (omega arith) (omega arith)

pub within : (stream : List (List Tagged)) (cycle n : ℕ) (a : Ahead) → IsAt stream cycle a → n ≤ a.left → cycle ≤ length stream → cycle + n ≤ length stream
within stream cycle n a h few below =
    omega (arith, ap length h.ahead, length-drop cycle stream, length-append (replicate a.left a.inputs.now) (cycles_of a.behind.now), length-replicate a.left a.inputs.now)

pub passed : (stream : List (List Tagged)) (cycle n : ℕ) (a b : Ahead) → IsAt stream cycle a → cycles_ahead b ≡ drop n (cycles_ahead a) → cycles_ahead b ≡ drop (cycle + n) stream
passed stream cycle n a b h e = e ∙ ap (λ (xs : List (List Tagged)). drop n xs) h.ahead ∙ drop-drop n cycle stream

pub as_many : (xs ys : List (List Tagged)) (cycle : ℕ) (a b : Ahead) → AreOfOneLength xs ys → length xs ≡ length ys → cycle < length xs → IsAt xs cycle a → IsAt ys cycle b
    → length a.inputs.now ≡ length b.inputs.now
as_many xs ys cycle a b h n below at_a at_b =
    let HasAll : List Tagged → Type 0 = λ inputs. length inputs ≡ h.0 in
    ap length (sym (at_once xs cycle a at_a)) ∙ All-get_or HasAll xs cycle [] below h.1
    ∙ sym (All-get_or HasAll ys cycle [] (omega arith) h.2) ∙ ap length (at_once ys cycle b at_b)

module _ (o : Order) (l : ℕ) where
  pub apart_next : (xs ys : List (List Tagged)) (cycle input : ℕ) (a b : Ahead) → length xs ≡ length ys → cycle < length xs
      → ((k : ℕ) → k < cycle → InputsAgree o l (get_or xs k []) (get_or ys k [])) → IsAt xs cycle a → IsAt ys cycle b
      → IsFirst o l a.inputs.now b.inputs.now input → IsApartAt o l xs ys (cycle + 1) input
  apart_next xs ys cycle input a b n below before at_a at_b here =
      first_cycle o l xs ys cycle input n below before
      (subst (λ (z : List Tagged). IsFirst o l z (get_or ys cycle []) input) (sym (at_once xs cycle a at_a))
      (subst (λ (z : List Tagged). IsFirst o l a.inputs.now z input) (sym (at_once ys cycle b at_b)) here))

  agree_at : (xs ys : List (List Tagged)) (cycle : ℕ) (a b : Ahead) → IsAt xs cycle a → IsAt ys cycle b → InputsAgree o l a.inputs.now b.inputs.now
      → (k : ℕ) → cycle ≤ k → k < cycle + a.left → k < cycle + b.left → InputsAgree o l (get_or xs k []) (get_or ys k [])
  agree_at xs ys cycle a b at_a at_b agree k from in_a in_b =
      subst (λ (z : List Tagged). InputsAgree o l z (get_or ys k [])) (sym (at_place xs cycle a at_a k from in_a))
      (subst (λ (z : List Tagged). InputsAgree o l a.inputs.now z) (sym (at_place ys cycle b at_b k from in_b)) agree)

  pub agree_next : (xs ys : List (List Tagged)) (cycle n : ℕ) (a b : Ahead) → ((k : ℕ) → k < cycle → InputsAgree o l (get_or xs k []) (get_or ys k []))
      → IsAt xs cycle a → IsAt ys cycle b → n ≤ a.left → n ≤ b.left → InputsAgree o l a.inputs.now b.inputs.now
      → (k : ℕ) → k < cycle + n → InputsAgree o l (get_or xs k []) (get_or ys k [])
  agree_next xs ys cycle n a b before at_a at_b few_a few_b agree k below =
      elim (cases_lt k cycle) [
        | inl under ↦ before k under
        | inr from ↦ agree_at xs ys cycle a b at_a at_b agree k from (omega arith) (omega arith)
      ]
