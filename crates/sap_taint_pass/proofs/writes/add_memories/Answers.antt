use Rattle.std.proofs.Common.{◌≡◌, ◌+◌, ◌∷◌, [], List, drop, ap, sym, ◌∙◌, refl, arith}
use Rattle.sap_net.specs.declared.parts.Memory.{Memory}
use Rattle.sap_build.specs.Writing.{grown}
use Rattle.sap_build.proofs.Grown.{grown_none}
use Rattle.sap_taint_pass.specs.Tainted.{write_at, write_wires, memory_tag, memory_tags, help_for_writes}
use Rattle.sap_taint_pass.specs.Helping.{helping_name}
use Rattle.sap_taint_pass.specs.Helped.{help_from}
use Rattle.sap_taint_pass.proofs.Helped.{helped_more, adds_more, tail_of, nothing_left}
use Rattle.sap_taint_pass.proofs.writes.add_memories.Goals as goal

pub loop-memory-init : goal.loop-memory-init
loop-memory-init c = λ n k h. (k, h, refl)

pub loop-memory-preserved : goal.loop-memory-preserved
loop-memory-preserved c = λ n k h.
    let i = c.loop-memory.invariant n k h in
    let j = i.0 in
    let w = c.args.width in
    let memories = c.args.memories.now in
    let at = c.loop-memory.memory-index in
    let x = c.memory-item.result in
    let m = c.loop-memory.writer in
    let m' = c.add_memory.new.writer in
    let helping = helping_name n in
    let parts : drop at memories ≡ x ∷ drop (at + 1) memories = tail_of memories at x (omega arith) c.memory-item.is in
    let rest = drop (at + 1) memories in
    let adds = c.in_ok-add_memory.ensures {u = tt} n j i.1 in (
      j + 4,
      helped_more n j 4 (write_at helping w j x) (memory_tag w x (helping (j + 3)) ∷ []) m m' i.1 adds,
      adds_more n j 4 (help_for_writes rest) (write_at helping w j x) (write_wires helping w (j + 4) rest)
          (memory_tag w x (helping (j + 3)) ∷ []) (memory_tags helping w (j + 4) rest) m m' adds
          ∙ ap (λ (xs : List Memory). grown (help_from n j (help_for_writes xs)) (write_wires helping w j xs) (memory_tags helping w j xs) m) (sym parts)
          ∙ i.2,
    )

pub returns : goal.returns
returns c = λ n k h.
    let i = c.loop-memory.invariant n k h in
    let memories = c.args.memories.now in
    let none : drop c.loop-memory.memory-index memories ≡ [] = nothing_left memories c.loop-memory.memory-index (omega arith) in
    sym (grown_none c.loop-memory.writer)
    ∙ ap (λ (xs : List Memory). grown (help_from n i.0 (help_for_writes xs)) (write_wires (helping_name n) c.args.width i.0 xs)
    (memory_tags (helping_name n) c.args.width i.0 xs) c.loop-memory.writer)
    (sym none)
    ∙ i.2
