use Rattle.lang_derived.specs.Table.{case_rows}
use Rattle.lang_derived.proofs.Views.{pattern_views, template_views}
use Rattle.lang_derived.proofs.table.case.case_rows.Goals as goal

pub returns : goal.returns
unfolding case_rows
returns c = simp (pattern_views, template_views)
