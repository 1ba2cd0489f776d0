use Rattle.lang_derived.specs.Table.{place_rows}
use Rattle.lang_derived.proofs.Views.{pattern_views, template_views}
use Rattle.lang_derived.proofs.table.repeated.place_rows.Goals as goal

pub returns : goal.returns
unfolding place_rows
returns c = simp (pattern_views, template_views)
