use Rattle.lang_derived.specs.Table.{conditional_rows}
use Rattle.lang_derived.proofs.Views.{pattern_views, template_views}
use Rattle.lang_derived.proofs.table.simple.conditional_rows.Goals as goal

pub returns : goal.returns
unfolding conditional_rows
returns c = simp (pattern_views, template_views)
