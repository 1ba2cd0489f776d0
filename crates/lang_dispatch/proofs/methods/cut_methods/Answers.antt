-- The row is put back with its first methods.
use Rattle.lang_dispatch.proofs.Cutting.{cut_put}
use Rattle.lang_dispatch.proofs.methods.cut_methods.Goals as goal

pub returns : goal.returns
returns c =
    cut_put _ _ _ _ c.replace-row.result _ _ c.args.len c.replace-row.ensures.was c.replace-row.ensures.now c.cut.ensures c.replace.ensures.now
