use Rattle.sap_lemmas.proofs.Common.{◌≡◌, ◌+◌, length, ap, ◌∙◌, arith, vec_capacity}
use Rattle.sap_wave.specs.Prelude.{text_of, block_of}
use Rattle.sap_wave.proofs.Rooms.{block_fits, ok_with_room}
use Rattle.sap_wave.proofs.dumper.fill_block.Goals as goal

pub unwrap-requires : goal.unwrap-requires
unwrap-requires c =
    let fits = block_fits c.args.number c.args.variables.now c.args.before.now c.args.after.now c.ranges.number.fits in
    let none : length c.take-bytes.result.items ≡ 0 = ap length c.take-bytes.ensures.bytes ∙ ap (λ b. length b.bytes) c.clear.ensures in
    let room : vec_capacity c.take-bytes.result ≡ c.args.block.now.room = c.take-bytes.ensures.room ∙ ap (λ b. b.room) c.clear.ensures in
    ok_with_room c.push_numbered.result (vec_capacity c.take-bytes.result)
    (length c.take-bytes.result.items + length (text_of (block_of c.args.number c.args.variables.now c.args.before.now c.args.after.now))) c.push_numbered.ensures.full
    (omega (arith, fits, none, room, c.requires.room))

pub returns-clause-room : goal.returns-clause-room
returns-clause-room c =
    let room : vec_capacity c.take-bytes.result ≡ c.args.block.now.room = c.take-bytes.ensures.room ∙ ap (λ b. b.room) c.clear.ensures in
    let put : c.put.new.self.room ≡ vec_capacity c.push_numbered.new.out = ap (λ b. b.room) c.put.ensures in
    omega (arith, room, put, c.push_numbered.ensures.room)
