-- A form fits by itself, and the forms right inside it do.
use Rattle.std.proofs.Common.{◌≡◌, ◌∙◌, true, false, ap}
use Rattle.std.specs.List.{list_all}
use Rattle.lang_meaning.specs.Fits.{fits_itself, fits}
use Rattle.lang_meaning.specs.Subforms.{outer}
use Rattle.lang_meaning.specs.bridge.Judged.{fits_folded}
use Rattle.test_checker.proofs.Walks.{past_two, first_of_three, second_of_three}
use Rattle.test_checker.proofs.fits.+fits.Goals as goal
use Rattle.test_checker.proofs.fits.+fits.Goals.{fits-then-fits_itself, fits-else-fits_itself}

pub fits-returns-then-all_fit : goal.fits-returns-then-all_fit
fits-returns-then-all_fit t c =
    elim c.if-fits_itself.branch [
      | fits-then-fits_itself w ↦
          (let itself : fits_itself c.args.rows.now c.args.form.now ≡ true = cc in
          let around : list_all (fits c.args.rows.now) (outer c.args.form.now) ≡ true = cc in
          c.all_fit-then-all_fit.ensures ∙ ap (list_all (fits c.args.rows.now)) c.inner.ensures
          ∙ past_two _ _ _ _ (fits_folded c.args.rows.now c.args.form.now) itself around)
      | fits-else-fits_itself w ↦ absurd (cc)
    ]

pub fits-returns-else-all_fit : goal.fits-returns-else-all_fit
fits-returns-else-all_fit t c =
    c.if-all_fit.false
    ∙ elim c.if-fits_itself.branch [
      | fits-then-fits_itself w ↦
          (let itself : fits_itself c.args.rows.now c.args.form.now ≡ true = cc in
          let around : list_all (fits c.args.rows.now) (outer c.args.form.now) ≡ false = cc in
          second_of_three _ _ _ _ (fits_folded c.args.rows.now c.args.form.now) itself around)
      | fits-else-fits_itself w ↦
          (let itself : fits_itself c.args.rows.now c.args.form.now ≡ false = cc in
          first_of_three _ _ _ _ (fits_folded c.args.rows.now c.args.form.now) itself)
    ]
