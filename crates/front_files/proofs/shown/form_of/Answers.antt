-- One case a rule of the definition.
use Rattle.std.proofs.Common.{◌≡◌, true, subst, sym, ◌∙◌}
use Rattle.front_files.specs.Shown.{IsPrinting, IsForm, runs, not_last, last_stays, last_shown}
use Rattle.front_files.specs.bridge.Later.{stays_later}
use Rattle.front_files.proofs.Printing.{ok_map}
use Rattle.front_files.proofs.shown.form_of.Goals as goal
use Rattle.front_files.proofs.shown.form_of.Goals.{then-not-last-via-then-not-last, then-not-last-via-else-not-last+then-stays}

pub returns-then-not-last-clause-form : goal.returns-then-not-last-clause-form
returns-then-not-last-clause-form c =
    elim c.then-not-last.branch [
      | then-not-last-via-then-not-last w ↦
          subst (λ m. IsForm c.args.names.now m c.args.datum c.args.reader.now.rest c.args.datum) (sym c.in-Show.is)
          (not_last c.args.datum c.args.reader.now.rest (λ g. let last : c.last.result ≡ true = c.last.ensures.1 g in cc w.if-not-last.true))
      | then-not-last-via-else-not-last+then-stays w ↦
          subst (λ m. IsForm c.args.names.now m c.args.datum c.args.reader.now.rest c.args.datum) (sym c.in-Show.is)
          (last_stays c.args.datum c.args.reader.now.rest (sym w.stays.ensures ∙ w.if-stays.true))
    ]

pub returns-in-Run-clause-form : goal.returns-in-Run-clause-form
returns-in-Run-clause-form c =
    subst (λ m. IsForm c.args.names.now m c.args.datum c.args.reader.now.rest c.args.datum) (sym c.in-Run.is) (runs c.args.datum c.args.reader.now.rest)

pub returns-else-stays-clause-form : goal.returns-else-stays-clause-form
returns-else-stays-clause-form c =
    ok_map c.printing.result (IsPrinting c.printing.new.names c.args.datum) (IsForm c.printing.new.names c.args.mode c.args.datum c.args.reader.now.rest)
    (λ e p. subst (λ m. IsForm c.printing.new.names m c.args.datum c.args.reader.now.rest e) (sym c.in-Show.is)
    (last_shown c.args.datum c.args.reader.now.rest e (c.last.ensures.0 c.if-not-last.false)
    (sym (stays_later c.args.names.now c.printing.new.names c.args.datum c.printing.ensures.names c.requires.good) ∙ sym c.stays.ensures ∙ c.if-stays.false) p))
    c.printing.ensures.printing
