-- Each turn takes a class.
use Rattle.std.proofs.Common.{◌≡◌, ◌==◌, not, length, ◌∙◌, ap, arith}
use Rattle.std.specs.List.{list_any}
use Rattle.lang_meaning.specs.Cells.{group_of}
use Rattle.lang_dispatch.specs.OfClasses.{with_classes}
use Rattle.lang_dispatch.proofs.GroupTurns.{progress_none, progress_taken, progress_all}
use Rattle.lang_dispatch.proofs.groups.argument_groups.Goals as goal

pub loop-class-init : goal.loop-class-init
loop-class-init c = rw (c.new.ensures, c.new-2.ensures, c.new-3.ensures) (progress_none _ (length c.args.classes.now))

pub loop-class-preserved : goal.loop-class-preserved
loop-class-preserved c =
    progress_taken _ _ c.loop-class.grouping c.take.new.self c.loop-class.class c.in_ok-group.group c.loop-class.invariant c.in_ok-take.ensures
    (c.in_ok-group.ensures ∙ ap (λ column. group_of (with_classes c.args.classes.now) column c.loop-class.class) c.in_ok-column.ensures)

pub returns : goal.returns
returns c =
    let all : c.loop-class.class ≡ length c.args.classes.now = omega (arith, c.len-class-end.ensures) in
    record {
      firsts = progress_all _ _ _ _ _ _ c.loop-class.invariant all;
      count = c.loop-class.invariant.count ∙ all;
      numbers = c.loop-class.invariant.numbered;
      specialised = c.is_specialised-specialised.ensures ∙ ap (λ column. list_any (λ d. not (d == 0)) column) c.in_ok-column.ensures;
    }
