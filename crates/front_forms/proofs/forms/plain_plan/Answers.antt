-- The names that the form asks for were added; where nothing was taken yet, the tables are as they were.
use Rattle.std.proofs.Common.{ap, ◌∙◌}
use Rattle.base.specs.Names.{Extends-same}
use Rattle.front_profile.specs.bridge.Growing.{tables_grow_reflexive}
use Rattle.front_drafts.specs.Drafts.{is_unnamed}
use Rattle.front_drafts.specs.Views.{at}
use Rattle.front_forms.proofs.NamedRows.{form_said}
use Rattle.front_forms.proofs.forms.plain_plan.Goals as goal

pub returns-in_err-add_setters-clause-grows : goal.returns-in_err-add_setters-clause-grows
returns-in_err-add_setters-clause-grows c = tables_grow_reflexive _

pub returns-in_err-draft-clause-grows : goal.returns-in_err-draft-clause-grows
returns-in_err-draft-clause-grows c = tables_grow_reflexive _

pub take-requires : goal.take-requires
take-requires c =
    ap is_unnamed c.in_ok-draft.ensures
    ∙ form_said c.add_setters.new.names (at c.args.here.bound.now c.args.here.spot) c.args.tables.now c.args.datum.now
    (c.in_ok-add_setters.ensures.given.under c.add_setters.new.names (Extends-same _))
