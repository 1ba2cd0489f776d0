use Rattle.std.proofs.Common.{◌/◌, length, ap, arith}
use Rattle.rv_machine.proofs.Rows.{stored-kept}
use Rattle.rv_machine.proofs.machine.contents.Contents.store_half.Goals as goal

pub invariant_of-self : goal.invariant_of-self
invariant_of-self c =
    let there = ap length c.deref_mut.ensures.value in
    let rows_there = ap length c.deref_mut-then-store_half.ensures.value in
    stored-kept _ c.self.inside.arena.items c.deref_mut.result.now c.store_half.new.arena c.self.inside.rows.items c.deref_mut-then-store_half.result.now
    c.give_up.new.rows c.self.inside.arena.len c.self.inside.rows.len (c.args.address / 4) c.deref_mut.ensures.value
    (omega (arith, c.deref_mut.ensures.len)) c.store_half.ensures.others c.deref_mut-then-store_half.ensures.value
    (omega (arith, c.deref_mut-then-store_half.ensures.len)) c.give_up.ensures c.self.invariant.0 c.self.invariant.1 c.self.invariant.2
    c.self.invariant.3
