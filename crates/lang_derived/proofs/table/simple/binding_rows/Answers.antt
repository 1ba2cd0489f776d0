use Rattle.lang_derived.specs.Table.{binding_rows}
use Rattle.lang_derived.proofs.Views.{pattern_views, template_views}
use Rattle.lang_derived.proofs.table.simple.binding_rows.Goals as goal

pub returns : goal.returns
unfolding binding_rows
returns c = simp (pattern_views, template_views)
