-- Rows of the table as the code has them, and as the definition does.
use Rattle.std.specs.Prelude.{List, [], ◌∷◌}
use Rattle.std.specs.Borrow.{Bor}
use Rattle.lang_derived.specs.model.PatternView.{view_patterns}
use Rattle.lang_derived.specs.model.TemplateView.{view_templates}
use Rattle.lang_derived.specs.Table.{Row}
use Rattle.lang_derived.specs.declared.table.Row.{Row as Written}

abbrev pub view_row : Written → Row
view_row r = record {
  name = r.name.now;
  parts = view_patterns r.parts.now;
  right = view_templates r.right.now;
  new = view_templates r.new.now;
}

abbrev pub view_rows : List Written → List Row
view_rows [] = []
view_rows (r ∷ rs) = view_row r ∷ view_rows rs

abbrev pub view_groups : List (Bor (List Written)) → List (List Row)
view_groups [] = []
view_groups (g ∷ gs) = view_rows g.now ∷ view_groups gs
