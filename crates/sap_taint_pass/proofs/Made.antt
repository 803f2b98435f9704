-- What a tainted netlist comes to.
use Rattle.sap_lemmas.proofs.Common.{◌≡◌, ◌<◌, ◌^◌, ◌+◌, ℕ, zero, suc, List, [], ◌++◌, length, ap, ap₂, sym, subst, ◌∙◌, refl, arith, append-nil, length-append, length-map}
use Rattle.sap_maps.specs.Maps.{Name}
use Rattle.sap_net.specs.Net.{Net}
use Rattle.sap_net.specs.declared.parts.Wire.{Wire}
use Rattle.sap_net.specs.declared.parts.Register.{Register}
use Rattle.sap_net.specs.declared.parts.Memory.{Memory}
use Rattle.sap_build.specs.Writing.{grown}
use Rattle.sap_build.proofs.Grown.{with_lists}
use Rattle.sap_taint.specs.TagNames.{with_tags}
use Rattle.sap_taint_pass.specs.Tainted.{tag_wires, help_for_wires, write_wires, memory_tags, help_for_writes, help_count, numbers_from, helping_names, in_order}
use Rattle.sap_taint_pass.specs.Helping.{helping_name, tainted, IsSmall}
use Rattle.sap_taint_pass.specs.Helped.{help_from, Helped, Adds, begun, driven}
use Rattle.sap_taint_pass.proofs.Helped.{helped_more, adds_more}

pub all_driven : (w : ℕ) (n m0 m1 m2 : Net) (given : List Wire) (memories : List Memory) → m0 ≡ begun w n → given ≡ n.wires → memories ≡ n.memories
    → ((k : ℕ) → Helped n k m0 → Adds n k (help_for_wires given) (tag_wires (helping_name n) w k given) [] m0 m1)
    → ((k : ℕ) → Helped n k m1 → Adds n k (help_for_writes memories) (write_wires (helping_name n) w k memories) (memory_tags (helping_name n) w k memories) m1 m2)
    → m2 ≡ driven w n
all_driven w n m0 m1 m2 given memories start wires_are memories_are tags writes =
    let helping = helping_name n in
    let c = help_for_wires n.wires in
    let d = help_for_writes n.memories in
    let first : Helped n 0 m0 =
    record { module_named = ap (λ (x : Net). x.module_name) start; names = ap (λ (x : Net). x.names) start ∙ sym (append-nil (with_tags n.names)) } in
    let tagged : Adds n 0 c (tag_wires helping w 0 n.wires) [] m0 m1 =
    subst (λ (xs : List Wire). Adds n 0 (help_for_wires xs) (tag_wires helping w 0 xs) [] m0 m1) wires_are (tags 0 first) in
    let z : 0 + c ≡ c = omega arith in
    let later : Helped n c m1 = subst (λ (j : ℕ). Helped n j m1) z (helped_more n 0 c (tag_wires helping w 0 n.wires) [] m0 m1 first tagged) in
    let written : Adds n c d (write_wires helping w c n.memories) (memory_tags helping w c n.memories) m1 m2 =
    subst (λ (ms : List Memory). Adds n c (help_for_writes ms) (write_wires helping w c ms) (memory_tags helping w c ms) m1 m2) memories_are (writes c later) in
    written
    ∙ ap (λ (j : ℕ). grown (help_from n j d) (write_wires helping w c n.memories) (memory_tags helping w c n.memories) m1) (sym z)
    ∙ adds_more n 0 c d (tag_wires helping w 0 n.wires) (write_wires helping w c n.memories) [] (memory_tags helping w c n.memories) m0 m1 tagged
    ∙ ap (grown (help_from n 0 (c + d)) (tag_wires helping w 0 n.wires ++ write_wires helping w c n.memories) (memory_tags helping w c n.memories)) start

pub all_ordered : (w : ℕ) (n m : Net) (names : List Name) (registers : List Register) → m ≡ driven w n → names ≡ with_tags n.names → registers ≡ in_order names m.registers
    → with_lists m m.names m.wires registers ≡ tainted w n
all_ordered w n m names registers e f g =
    ap₂ (λ (x : Net) (rs : List Register). with_lists x x.names x.wires rs) e (g ∙ ap₂ in_order f (ap (λ (x : Net). x.registers) e))

numbers_count : (k count : ℕ) → length (numbers_from k count) ≡ count
numbers_count k zero = refl
numbers_count k (suc count) = ap suc (numbers_count (k + 1) count)

-- A list holds all its names but the module's.
pub is_small : (w : ℕ) (n : Net) (names : List Name) → length names < 2 ^ 63 → names ≡ (tainted w n).names → IsSmall n
is_small w n names few same =
    let count : length (helping_names (helping_name n) n) ≡ help_count n = length-map (numbers_from 0 (help_count n)) (helping_name n) ∙ numbers_count 0 (help_count n) in
    let both : length (tainted w n).names ≡ length (with_tags n.names) + length (helping_names (helping_name n) n) =
    length-append (with_tags n.names) (helping_names (helping_name n) n) in
    let all : length names ≡ length (tainted w n).names = ap length same in
    omega (arith, few, count, both, all)
