use Rattle.std.proofs.Common.{arith, sym, subst, ◌∙◌, refl, length-take}
use Rattle.top_exec.proofs.Loaded.{Loading, loading_none, ended_here, went_on, loaded_full}
use Rattle.top_exec.proofs.loading.load.Goals as goal

pub loop-piece-init : goal.loop-piece-init
loop-piece-init g c = (subst (Loading c.args.limit (g.F.Shelf.holds c.args.shelf.now c.args.name.now)) (sym c.new-text.ensures) (loading_none _ _), λ other. refl, omega arith)

pub returns-in-Ok-eq0-clause-taken : goal.returns-in-Ok-eq0-clause-taken
returns-in-Ok-eq0-clause-taken g c =
    ended_here _ _ _ _ _ _ c.len-in-loop-piece-2.result c.in-Ok-eq0.field-0 (c.loop-piece.invariant.1 c.args.name.now) c.len-in-loop-piece-2.ensures c.in-Ok-eq0.field-0-test c.loop-piece.invariant.0 c.in-Ok-eq0.ensures.told (grind (arith, length-take, c.min-room.ensures, c.len-in-loop-piece.ensures, c.len-in-loop-piece-2.array_long))

pub loop-piece-preserved : goal.loop-piece-preserved
loop-piece-preserved g c = (
  went_on _ _ _ _ _ _ _ _ c.len-in-loop-piece-2.result c.in-Ok.n (c.loop-piece.invariant.1 c.args.name.now) c.len-in-loop-piece-2.ensures c.in_ok-append-in-Ok.ensures.ok (omega (arith, c.in-Ok.ensures.bound, c.read.auto.buf)) (grind (arith, length-take, c.in-Ok.ensures.bound, c.min-room.ensures, c.len-in-loop-piece.ensures)) c.loop-piece.invariant.0 c.in-Ok.ensures.told,
  λ other. c.read.ensures.held other ∙ c.loop-piece.invariant.1 other,
  omega (arith, c.read.ensures.count, c.loop-piece.invariant.2),
)

pub returns-clause-taken : goal.returns-clause-taken
returns-clause-taken g c = loaded_full _ _ _ c.loop-piece.invariant.0 (omega (arith, c.loop-piece-test.false))
