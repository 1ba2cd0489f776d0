use Rattle.lang_derived.specs.Table.{quotation_rows}
use Rattle.lang_derived.proofs.Views.{pattern_views, template_views}
use Rattle.lang_derived.proofs.table.simple.quotation_rows.Goals as goal

pub returns : goal.returns
unfolding quotation_rows
returns c = simp (pattern_views, template_views)
