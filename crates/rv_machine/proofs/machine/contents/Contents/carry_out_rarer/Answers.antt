use Rattle.std.proofs.Common.{refl, sym}
use Rattle.rv_machine.proofs.Flows.{flows_as, stored_row}
use Rattle.rv_machine.proofs.machine.contents.Contents.carry_out_rarer.Goals as goal

pub returns-in-Lb : goal.returns-in-Lb
returns-in-Lb c =
    flows_as _ _ _ _ _ _ (rw (c.in-Lb.is, c.signed_byte_at-found.ensures, c.reached.ensures c.args.place, c.arena.ensures.exact) refl)
    (c.loads.ensures c.args.place)

pub returns-in-Lh : goal.returns-in-Lh
returns-in-Lh c =
    flows_as _ _ _ _ _ _ (rw (c.in-Lh.is, c.signed_half_at-found.ensures, c.reached-in-Lh.ensures c.args.place, c.arena-in-Lh.ensures.exact) refl)
    (c.loads-in-Lh.ensures c.args.place)

pub returns-in-Lhu : goal.returns-in-Lhu
returns-in-Lhu c =
    flows_as _ _ _ _ _ _ (rw (c.in-Lhu.is, c.half_at-found.ensures.exact, c.reached-in-Lhu.ensures c.args.place, c.arena-in-Lhu.ensures.exact) refl)
    (c.loads-in-Lhu.ensures c.args.place)

pub returns-then-store_half : goal.returns-then-store_half
returns-then-store_half c =
    let here = stored_row 2 c.reached-address.result c.read-value.result c.args.place _ _ _ c.if-store_half.true c.store_half.ensures in
    (rw (c.in-Sh.is, sym (c.reached-address.ensures c.args.place), sym c.read-value.ensures) here.0, here.1)
