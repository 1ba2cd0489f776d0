-- The block, the cleanup, and what is behind it.
use Rattle.std.proofs.Common.{refl}
use Rattle.back_calls.proofs.Blocks.{three_appended}
use Rattle.back_calls.proofs.records.unwind_code.Goals as goal

pub returns : goal.returns
returns c =
    three_appended c.unwind_end.result c.unwind_end.new.code c.append_list.new.self c.unwind_block.new.code c.args.code.now _ _ _ _
    c.in_ok-unwind_block.ensures c.in_ok-append_list.ensures.ok refl c.unwind_end.ensures
