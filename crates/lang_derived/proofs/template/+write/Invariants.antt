-- The sizes of templates fall; a loop over data has written what it has passed.
use Rattle.std.proofs.Common.{◌≡◌, ◌+◌, ◌++◌, length}
use Rattle.lang_derived.specs.model.PatternView.{view_patterns}
use Rattle.lang_derived.specs.RightSides.{repeated, write_all, template_size, templates_size}
use Rattle.lang_derived.specs.model.TemplateView.{view_template, view_templates}
use Rattle.lang_derived.proofs.template.+write.Given as goal

abbrev pub decreases-write : goal.decreases-write
decreases-write l = template_size (view_template l.template.now)

abbrev pub decreases-write_each : goal.decreases-write_each
decreases-write_each l = templates_size (view_templates l.templates.now) + 1

abbrev pub decreases-write_all : goal.decreases-write_all
decreases-write_all l = templates_size (view_templates l.templates.now)

abbrev pub invariant-write_each-loop-rest : goal.invariant-write_each-loop-rest
invariant-write_each-loop-rest l =
    l.list ++ repeated l.start.names.now (view_patterns l.patterns)
    (λ n found. write_all l.start.names.now l.start.serial (view_templates l.templates) n found) l.rest l.own
    ≡ l.initial.list ++ repeated l.start.names.now (view_patterns l.patterns)
    (λ n found. write_all l.start.names.now l.start.serial (view_templates l.templates) n found) l.items l.start.serial

abbrev pub decreases-write_each-loop-rest : goal.decreases-write_each-loop-rest
decreases-write_each-loop-rest l = length l.rest
