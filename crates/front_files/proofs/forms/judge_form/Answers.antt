-- The form that is judged for a datum is so under a later table of names.
use Rattle.front_files.proofs.Going.{was_taken, was_stopped}
use Rattle.front_files.proofs.forms.judge_form.Goals as goal

pub returns-clause-taken : goal.returns-clause-taken
returns-clause-taken g c =
    was_taken c.form-judged.result c.args.names.now c.form_of.new.names c.form-judged.new.names c.args.origin c.args.mode c.args.scope.now c.args.datum c.args.reader.now.rest
    c.in_ok-form.form c.form-judged.new.self c.in_ok-form.ensures.names c.form-judged.ensures.names c.requires.good c.in_ok-form.ensures.form c.form-judged.ensures.taken

pub returns-clause-stops : goal.returns-clause-stops
returns-clause-stops g c =
    was_stopped c.form-judged.result c.args.names.now c.form_of.new.names c.form-judged.new.names c.args.origin c.args.mode c.args.scope.now c.args.datum c.args.reader.now.rest
    c.in_ok-form.form c.in_ok-form.ensures.names c.form-judged.ensures.names c.requires.good c.in_ok-form.ensures.form c.form-judged.ensures.stop
