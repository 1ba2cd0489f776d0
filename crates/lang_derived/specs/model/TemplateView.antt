-- Right sides of rows as the code has them, and as the table does.
use Rattle.std.specs.Prelude.{List, [], ◌∷◌}
use Rattle.lang_derived.specs.model.PatternView.{view_patterns}
use Rattle.lang_derived.specs.RightSides.{Template, datum, all_of, the_setter, the_quotation, the_symbol, new_symbol, new_behind, own_symbol, group, for_each, Templates, templates, no_template, template_and}
use Rattle.lang_derived.specs.declared.template.Template.{Template as Written, fold-Template}
use Rattle.lang_derived.specs.declared.template.Template.TheOpen.{Template-F}

-- one level, with each template inside already seen as the table has it
abbrev pub view_level : Template-F Template → Template
view_level (Template-F.One i) = datum i
view_level (Template-F.All i) = all_of i
view_level (Template-F.Setter i) = the_setter i
view_level (Template-F.Quotation i) = the_quotation i
view_level (Template-F.Word text) = the_symbol text.now
view_level (Template-F.New n) = new_symbol n
view_level (Template-F.NewBehind i) = new_behind i
view_level Template-F.Own = own_symbol
view_level (Template-F.Group xs) = group (templates xs.now)
view_level (Template-F.ForEach i ps xs) = for_each i (view_patterns ps.now) (templates xs.now)

abbrev pub view_template : Written → Template
view_template = fold-Template Template view_level

abbrev pub view_templates : List Written → Templates
view_templates [] = no_template
view_templates (x ∷ xs) = template_and (view_template x) (view_templates xs)
