use Rattle.lang_derived.specs.Table.{loop_rows}
use Rattle.lang_derived.proofs.Views.{pattern_views, template_views}
use Rattle.lang_derived.proofs.table.repeated.loop_rows.Goals as goal

pub returns : goal.returns
unfolding loop_rows
returns c = simp (pattern_views, template_views)
