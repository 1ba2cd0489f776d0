use Rattle.std.proofs.Common.{refl, sym}
use Rattle.rv_machine.proofs.Flows.{flows_as, lands, stored_row}
use Rattle.rv_machine.proofs.machine.contents.Contents.carry_out.Goals as goal

pub returns-in-Lw : goal.returns-in-Lw
returns-in-Lw c =
    flows_as _ _ _ _ _ _ (rw (c.in-Lw.is, c.word_at-found.ensures, c.reached.ensures c.args.place, c.arena.ensures.exact) refl)
    (c.loads.ensures c.args.place)

pub returns-in-Lbu : goal.returns-in-Lbu
returns-in-Lbu c =
    flows_as _ _ _ _ _ _ (rw (c.in-Lbu.is, c.byte_at-found.ensures.exact, c.reached-in-Lbu.ensures c.args.place, c.arena-in-Lbu.ensures.exact) refl)
    (c.loads-in-Lbu.ensures c.args.place)

pub returns-then-store_word : goal.returns-then-store_word
returns-then-store_word c =
    let here = stored_row 4 c.reached-address.result c.read-value.result c.args.place _ _ _ c.if-store_word.true c.store_word.ensures in
    (rw (c.in-Sw.is, sym (c.reached-address.ensures c.args.place), sym c.read-value.ensures) here.0, here.1)

pub returns-then-store_byte : goal.returns-then-store_byte
returns-then-store_byte c =
    let here = stored_row 1 c.reached-address-in-Sb.result c.read-value-in-Sb.result c.args.place _ _ _ c.if-store_byte.true c.store_byte.ensures in
    (rw (c.in-Sb.is, sym (c.reached-address-in-Sb.ensures c.args.place), sym c.read-value-in-Sb.ensures) here.0, here.1)

pub returns-in-JumpTo : goal.returns-in-JumpTo
returns-in-JumpTo c =
    flows_as _ _ _ _ _ _ (rw (c.in-JumpTo.is, c.reached-address-in-JumpTo.ensures c.args.place) refl) (c.jump.ensures c.args.place)

pub returns-then-address-lt2 : goal.returns-then-address-lt2
returns-then-address-lt2 c =
    let landing = lands c.reached-address-in-JumpToAndLink.result c.reached-address-in-JumpToAndLink.type_inv c.if-address-lt2.true in
    flows_as _ _ _ _ _ _ (rw (c.in-JumpToAndLink.is, landing, c.reached-address-in-JumpToAndLink.ensures c.args.place) refl)
    c.links-then-address-lt2.ensures
