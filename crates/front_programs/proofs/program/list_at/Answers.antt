-- The list of data of which there are some.
use Rattle.std.proofs.Common.{◌∙◌, ap, sym}
use Rattle.base.specs.Data.{item, items_of, list, no_tail}
use Rattle.front_programs.proofs.Programs.{list_there}
use Rattle.front_programs.proofs.program.list_at.Goals as goal

pub returns : goal.returns
returns c =
    c.new-2.ensures
    ∙ ap (λ ds. item c.args.place (list (items_of ds) no_tail)) c.in_ok-items.ensures
    ∙ ap (λ k. item c.args.place k) (sym (list_there c.args.items.now (sym c.is_empty.ensures ∙ c.if-is_empty.false)))
