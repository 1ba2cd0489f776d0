-- The cons is built.
use Rattle.eval_store.specs.declared.object.Object.TheVariants.{Cons}
use Rattle.eval_state.proofs.Doing.{built_ok}
use Rattle.eval_application.proofs.making.make_cons.Goals as goal

pub returns : goal.returns
returns c = built_ok c.args.machine.now c.build.new.self 2 0 (Cons c.args.car c.args.cdr) c.build.result c.build.ensures
