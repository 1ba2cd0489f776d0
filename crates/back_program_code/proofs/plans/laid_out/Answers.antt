use Rattle.std.proofs.Common.{◌≡◌, [], rules, length, sym, ap, subst, ◌∙◌}
use Rattle.std.specs.Prelude.{slice_get, slice_index}
use Rattle.back_program_code.specs.Shapes.{AreLow, chosen_in, front_of, listed, shape_nears, all_lefts, all_entries, all_nears, near_jumps, near_lefts, near_entries}
use Rattle.back_program_code.proofs.Joined.{joined_length}
use Rattle.back_program_code.proofs.Positions.{are_low}
use Rattle.back_program_code.proofs.TooLarge.{far_long, near_long}
use Rattle.back_program_code.proofs.plans.laid_out.Goals as goal

pub returns-clause-ok : goal.returns-clause-ok
returns-clause-ok c =
    let f = c.args.front in
    let s = c.args.shapes in
    let far : c.in_ok-far.far ≡ all_lefts f [] s = c.in_ok-far.ensures.is ∙ ap (λ n. all_lefts f n s) c.new-none.ensures in
    let far_entries : c.in_ok-far_entries.far_entries ≡ all_entries f (all_lefts f [] s) s =
    c.in_ok-far_entries.ensures.is ∙ ap (λ l. all_entries f l s) far in
    let nears : c.in_ok-nears.nears ≡ near_jumps f s =
    c.in_ok-nears.ensures ∙ ap (λ l. all_nears f l c.in_ok-far_entries.far_entries s) far ∙ ap (λ e. all_nears f (all_lefts f [] s) e s) far_entries in
    let lefts : c.in_ok-lefts.lefts ≡ near_lefts f s = c.in_ok-lefts.ensures.is ∙ ap (λ n. all_lefts f n s) nears in
    let entries : c.in_ok-entries.entries ≡ near_entries f s = c.in_ok-entries.ensures.is ∙ ap (λ l. all_entries f l s) lefts in
    let shapes_are = c.requires.2 in
    let front_is = c.requires.3 in
    record {
      places = c.requires.1;
      shapes = shapes_are;
      front = front_is;
      nears = nears ∙ ap (λ k. near_jumps k s) front_is ∙ ap (near_jumps (front_of c.args.program.now)) shapes_are;
      lefts = lefts ∙ ap (λ k. near_lefts k s) front_is ∙ ap (near_lefts (front_of c.args.program.now)) shapes_are;
      entries = entries ∙ ap (λ k. near_entries k s) front_is ∙ ap (near_entries (front_of c.args.program.now)) shapes_are;
      nears_long =
          ap length c.in_ok-nears.ensures
          ∙ joined_length (λ number t. shape_nears f c.in_ok-far_entries.far_entries (slice_index c.in_ok-far_entries.far_entries number) (listed (slice_get c.in_ok-far.far number)) t) 0 s;
      lefts_long = c.in_ok-lefts.ensures.long;
      fit = c.requires.5;
      low = c.requires.4;
      entries_low = subst AreLow (sym c.in_ok-entries.ensures.is) (are_low f c.in_ok-lefts.lefts s c.in_ok-entries.ensures.low);
      entries_listed = c.in_ok-entries.ensures.is;
      ends_low = c.in_ok-entries.ensures.low;
    }

pub returns-in_err-far-clause-err : goal.returns-in_err-far-clause-err
returns-in_err-far-clause-err c =
    let f = c.args.front in
    let s = c.args.shapes in
    search (
      rules,
      far_long c.args.program.now (chosen_in s) c.requires.0 c.requires.1 f s c.requires.3 c.requires.2 (all_lefts f c.new-none.result s) (ap (λ n. all_lefts f n s) c.new-none.ensures),
    )

pub returns-in_err-far_entries-clause-err : goal.returns-in_err-far_entries-clause-err
returns-in_err-far_entries-clause-err c =
    let f = c.args.front in
    let s = c.args.shapes in
    let far : c.in_ok-far.far ≡ all_lefts f [] s = c.in_ok-far.ensures.is ∙ ap (λ n. all_lefts f n s) c.new-none.ensures in
    search (rules, far_long c.args.program.now (chosen_in s) c.requires.0 c.requires.1 f s c.requires.3 c.requires.2 c.in_ok-far.far far)

pub returns-in_err-lefts-clause-err : goal.returns-in_err-lefts-clause-err
returns-in_err-lefts-clause-err c =
    let f = c.args.front in
    let s = c.args.shapes in
    let far : c.in_ok-far.far ≡ all_lefts f [] s = c.in_ok-far.ensures.is ∙ ap (λ n. all_lefts f n s) c.new-none.ensures in
    let far_entries : c.in_ok-far_entries.far_entries ≡ all_entries f (all_lefts f [] s) s = c.in_ok-far_entries.ensures.is ∙ ap (λ l. all_entries f l s) far in
    let nears : c.in_ok-nears.nears ≡ near_jumps f s =
    c.in_ok-nears.ensures ∙ ap (λ l. all_nears f l c.in_ok-far_entries.far_entries s) far ∙ ap (λ e. all_nears f (all_lefts f [] s) e s) far_entries in
    search (
      rules,
      near_long c.args.program.now (chosen_in s) c.requires.0 c.requires.1 f s c.requires.3 c.requires.2 (all_lefts f c.in_ok-nears.nears s) (ap (λ n. all_lefts f n s) nears),
    )

pub returns-in_err-entries-clause-err : goal.returns-in_err-entries-clause-err
returns-in_err-entries-clause-err c =
    let f = c.args.front in
    let s = c.args.shapes in
    let far : c.in_ok-far.far ≡ all_lefts f [] s = c.in_ok-far.ensures.is ∙ ap (λ n. all_lefts f n s) c.new-none.ensures in
    let far_entries : c.in_ok-far_entries.far_entries ≡ all_entries f (all_lefts f [] s) s = c.in_ok-far_entries.ensures.is ∙ ap (λ l. all_entries f l s) far in
    let nears : c.in_ok-nears.nears ≡ near_jumps f s =
    c.in_ok-nears.ensures ∙ ap (λ l. all_nears f l c.in_ok-far_entries.far_entries s) far ∙ ap (λ e. all_nears f (all_lefts f [] s) e s) far_entries in
    let lefts : c.in_ok-lefts.lefts ≡ near_lefts f s = c.in_ok-lefts.ensures.is ∙ ap (λ n. all_lefts f n s) nears in
    search (rules, near_long c.args.program.now (chosen_in s) c.requires.0 c.requires.1 f s c.requires.3 c.requires.2 c.in_ok-lefts.lefts lefts)
