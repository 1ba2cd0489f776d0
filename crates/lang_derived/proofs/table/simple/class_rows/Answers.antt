use Rattle.lang_derived.specs.Table.{class_rows}
use Rattle.lang_derived.proofs.Views.{pattern_views, template_views}
use Rattle.lang_derived.proofs.table.simple.class_rows.Goals as goal

pub returns : goal.returns
unfolding class_rows
returns c = simp (pattern_views, template_views)
