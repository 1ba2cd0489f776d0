-- What is inside and the landing are those that are said.
use Rattle.back_calls.proofs.Blocks.{block_appended}
use Rattle.back_calls.proofs.records.unwind_block.Goals as goal

pub returns : goal.returns
returns c =
    block_appended c.push.result c.push.new.self c.args.code.now c.with_block.result _ _ _ _ _ _ _
    c.with_block.ensures c.in_ok-inside.ensures c.in_ok-landing.ensures c.push.ensures.ok
