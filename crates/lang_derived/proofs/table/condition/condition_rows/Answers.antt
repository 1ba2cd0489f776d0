use Rattle.lang_derived.specs.Table.{condition_rows}
use Rattle.lang_derived.proofs.Views.{pattern_views, template_views}
use Rattle.lang_derived.proofs.table.condition.condition_rows.Goals as goal

pub returns : goal.returns
unfolding condition_rows
returns c = simp (pattern_views, template_views)
