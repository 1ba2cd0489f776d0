-- What begins it, its levels, and nil.
use Rattle.back_calls.proofs.Blocks.{tagbody_appended}
use Rattle.back_calls.proofs.records.tagbody_code.Goals as goal

pub returns : goal.returns
returns c =
    tagbody_appended c.push-2.result c.push-2.new.self c.push.new.self c.tagbody_begun.new.code c.args.code.now _ c.levels.result _ c.args.d
    c.args.segments _
    c.in_ok-tagbody_begun.ensures c.in_ok-level.ensures c.levels.ensures c.in_ok-push.ensures.ok c.constant.ensures c.push-2.ensures.ok
