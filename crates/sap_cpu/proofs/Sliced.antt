-- A slice of both users.
use Rattle.std.proofs.Common.{◌≡◌, ℕ, suc, ◌+◌, ap, sym, ◌∙◌, arith}
use Rattle.sap_machine.specs.declared.user.User.TheVariants.{A, B}
use Rattle.sap_machine.specs.Table.{steps}
use Rattle.sap_machine.specs.Slices.{other, holder, sliced}
use Rattle.sap_machine.proofs.InTurn.{slices_in_turn}
use Rattle.sap_cpu.specs.Views.{CpuSeen, IsAfter, Seen, state_of, user_state}

next_after : (a b : ℕ → ℕ) (n : ℕ) (s t : CpuSeen) → state_of t A ≡ sliced s.holder A (state_of s A) → state_of t B ≡ sliced s.holder B (state_of s B) → t.holder ≡ other s.holder
    → IsAfter a b n s → IsAfter a b (n + 1) t
next_after a b n s t first second next is = record {
  first = first ∙ ap (λ h. sliced h A (state_of s A)) is.next ∙ ap (sliced (holder n) A) is.first ∙ sym ((slices_in_turn A a).1 n);
  second = second ∙ ap (λ h. sliced h B (state_of s B)) is.next ∙ ap (sliced (holder n) B) is.second ∙ sym ((slices_in_turn B b).1 n);
  next = next ∙ ap other is.next ∙ ap holder (let e : suc n ≡ n + 1 = omega arith in e);
}

pub slice_of_a : (a b : ℕ → ℕ) (n : ℕ) (s : CpuSeen) (later : Seen) → s.holder ≡ A → user_state later ≡ steps 3 (user_state s.a) → IsAfter a b n s
    → IsAfter a b (n + 1) (record { a = later; b = s.b; holder = B })
slice_of_a a b n s later mine does is =
    next_after a b n s (record { a = later; b = s.b; holder = B })
    (does ∙ sym (ap (λ h. sliced h A (user_state s.a)) mine)) (sym (ap (λ h. sliced h B (user_state s.b)) mine)) (sym (ap other mine)) is

pub slice_of_b : (a b : ℕ → ℕ) (n : ℕ) (s : CpuSeen) (later : Seen) → s.holder ≡ B → user_state later ≡ steps 3 (user_state s.b) → IsAfter a b n s
    → IsAfter a b (n + 1) (record { a = s.a; b = later; holder = A })
slice_of_b a b n s later mine does is =
    next_after a b n s (record { a = s.a; b = later; holder = A })
    (sym (ap (λ h. sliced h A (user_state s.a)) mine)) (does ∙ sym (ap (λ h. sliced h B (user_state s.b)) mine)) (sym (ap other mine)) is
