-- The new parts stand at the form's place.
use Rattle.std.proofs.Common.{ap, sym}
use Rattle.std.specs.Prelude.{codes}
use Rattle.base.specs.Names.{text_stays, Extends-then}
use Rattle.base.specs.Data.{place_of}
use Rattle.base.specs.WellFormedData.{good_stays}
use Rattle.front_files.proofs.Printing.{interned, put_together, good_printing}
use Rattle.front_files.proofs.shown.printing.Goals as goal

pub returns-clause-printing : goal.returns-clause-printing
returns-clause-printing c =
    let second = interned c.intern.new.self c.intern-2.new.self (codes "standard-output") c.in-Ok-intern.ensures.after in
    record {
      format = c.in-Ok.format;
      standard_output = c.in-Ok-intern.standard_output;
      is_format = text_stays c.intern.new.self c.intern-2.new.self _ _ second c.in-Ok.ensures.name;
      is_standard_output = c.in-Ok-intern.ensures.name;
      is = put_together c.args.form c.list_at.result c.form.inside.place c.in-Ok.format c.in-Ok-intern.standard_output c.in-Ok-front_at.items _
          (sym (ap place_of c.form.view_is)) c.in-Ok-front_at.ensures c.in_ok-push.ensures.ok c.list_at.ensures;
    }

pub returns-clause-good : goal.returns-clause-good
returns-clause-good c =
    let first = interned c.args.names.now c.intern.new.self (codes "format") c.in-Ok.ensures.after in
    let second = interned c.intern.new.self c.intern-2.new.self (codes "standard-output") c.in-Ok-intern.ensures.after in
    good_printing c.intern-2.new.self c.args.form c.list_at.result
    (good_stays c.args.names.now c.intern-2.new.self c.args.form (Extends-then c.args.names.now c.intern.new.self c.intern-2.new.self first second) c.requires.good)
    (returns-clause-printing c)
