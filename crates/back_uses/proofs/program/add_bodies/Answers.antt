-- What one body more uses is added.
use Rattle.std.proofs.Common.{List, refl}
use Rattle.std.specs.Prelude.{flat_map}
use Rattle.flat_language.specs.declared.program.FlatProcedure.{FlatProcedure}
use Rattle.back_words.specs.Uses.{uses}
use Rattle.back_uses.proofs.Adding.{one_more}
use Rattle.back_uses.proofs.program.add_bodies.Goals as goal

pub loop-at-preserved : goal.loop-at-preserved
loop-at-preserved c =
    let one = λ (q : FlatProcedure). uses c.args.lookups.now.names.now c.args.lookups.now.program.now q.body in
    one_more (λ (qs : List FlatProcedure). flat_map one qs) one refl (λ q qs. refl)
    c.args.procedures.now c.loop-at.at c.in-Some.procedure.now c.in-Some.ensures c.loop-at.invariant c.in_ok-add_uses.ensures
