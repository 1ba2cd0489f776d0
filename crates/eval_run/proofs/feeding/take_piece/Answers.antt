-- A piece is put behind what was read, or the end was met.
use Rattle.std.proofs.lemmas.Result.{err_from_is_err_and}
use Rattle.eval_run.proofs.Putting.{put, put_broken, not_ended, met_end, all_taken, fed_by, none_where, some_where}
use Rattle.eval_run.proofs.feeding.take_piece.Goals as goal

pub returns-then-is_empty-clause-under_way : goal.returns-then-is_empty-clause-under_way
returns-then-is_empty-clause-under_way c = λ e left left' left'' given given' forms p u.
    met_end e left left' left'' given given' forms c.args.evaluator.now c.all_read.new.self c.args.bytes.now (none_where c.args.bytes.now c.is_empty.result c.is_empty.ensures c.if-is_empty.true) c.all_read.ensures p u

pub give_bytes-requires : goal.give_bytes-requires
give_bytes-requires c = all_taken c.args.evaluator.now c.requires.hungry

pub returns-in_err-give_bytes-clause-stops : goal.returns-in_err-give_bytes-clause-stops
returns-in_err-give_bytes-clause-stops c =
    let p = err_from_is_err_and c.from_residual.result c.from_residual.ensures.1 in rw (p.1, p.2) (λ e left left' left'' given given' forms q u.
    put_broken e left left' left'' given given' forms c.args.evaluator.now c.args.bytes.now (not_ended c.args.evaluator.now c.requires.hungry) q u)

pub returns-clause-under_way : goal.returns-clause-under_way
returns-clause-under_way c = λ e left left' left'' given given' forms p u.
    put e left left' left'' given given' forms c.args.evaluator.now c.give_bytes.new.self c.args.bytes.now (not_ended c.args.evaluator.now c.requires.hungry) c.in_ok-give_bytes.ensures p u

pub returns-clause-there : goal.returns-clause-there
returns-clause-there c = fed_by c.args.evaluator.now c.give_bytes.new.self c.args.bytes.now (some_where c.args.bytes.now c.is_empty.result c.is_empty.ensures c.if-is_empty.false) c.in_ok-give_bytes.ensures
