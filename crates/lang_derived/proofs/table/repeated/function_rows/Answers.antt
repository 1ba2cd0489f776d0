use Rattle.lang_derived.specs.Table.{function_rows}
use Rattle.lang_derived.proofs.Views.{pattern_views, template_views}
use Rattle.lang_derived.proofs.table.repeated.function_rows.Goals as goal

pub returns : goal.returns
unfolding function_rows
returns c = simp (pattern_views, template_views)
