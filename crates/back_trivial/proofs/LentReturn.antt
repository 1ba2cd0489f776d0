-- Behind a line that lends a block, the frame is not found from the stack pointer.
use Rattle.std.proofs.Common.{◌≡◌, true, refl, sym, ap, ◌∙◌}
use Rattle.mid_lines.specs.declared.line.Line.TheVariants.{Lend, Return}
use Rattle.back_places.specs.Places.{Way, from_stack, past_lent, no_way, way_of, past_block, is_from_stack}
use Rattle.back_trivial.specs.LentReturn.{LentReturnIsNotGood}

never_from_stack : (w : Way) → is_from_stack (past_block w) ≡ true → ⊥
never_from_stack (from_stack depth) h = absurd (cc h)
never_from_stack (past_lent depth) h = absurd (cc h)
never_from_stack no_way h = absurd (cc h)

pub lent_return_is_not_good : LentReturnIsNotGood
lent_return_is_not_good = record {
  in_form = refl;
  not_good = λ l known good.
      let lays = good 0 0 (Lend 1 0) refl in
      let returns = good 0 1 (Return 0) refl in
      never_from_stack (way_of (l.records 0 0)) (sym (ap (λ rs. is_from_stack (way_of rs)) lays.records) ∙ returns.way);
}
