-- Ends of lines and of the machine.
use Rattle.std.proofs.Common.{◌≡◌, ℕ, suc, ◌+◌, refl, sym, ap, subst, ◌∙◌}
use Rattle.std.specs.Prelude.{◌≢◌, List, slice_index}
use Rattle.rv_machine.specs.declared.ending.Ending.TheVariants.{Halt, Unhandled, Full, Budget}
use Rattle.rv_machine.specs.Run.{Moment, Ended, act, run_from}
use Rattle.rv_machine.proofs.Runs.{run_from-more}
use Rattle.mid_code.specs.Arena.{Block}
use Rattle.mid_code.specs.State.{MidState, End, falls, returns, cuts, no_room, no_level, no_turn, halts, unhandled, exhausted, stuck}
use Rattle.mid_lines.specs.declared.line.LineProgram.{LineProgram}
use Rattle.back_places.specs.declared.place.Place.{Place}
use Rattle.back_places.specs.Places.{Located}
use Rattle.back_places.specs.Relation.{Calls, EndsAt}
use Rattle.back_runs.specs.Ends.{IsSaid, Leaves, EndsAs, LawOfGoingOn}

-- what has ended so goes on no more
pub not_budget : (e : End) (z : MidState) (x : Ended) → e ≢ exhausted → EndsAs e z x → x.ending ≡ Budget → ⊥
not_budget (returns w) z x goes h k = cc (h.0, k)
not_budget (halts w) z x goes h k = cc (h.0, k)
not_budget (unhandled class site condition) z x goes h k = cc (h.0, k)
not_budget (no_room asked left) z x goes h k = cc (h.0, k)
not_budget falls z x goes h k = h
not_budget (cuts n w) z x goes h k = h
not_budget no_level z x goes h k = h
not_budget no_turn z x goes h k = h
not_budget exhausted z x goes h k = goes refl
not_budget stuck z x goes h k = h

-- what was printed by then
pub printed_at_end : (e : End) (z : MidState) (x : Ended) → EndsAs e z x → x.at.printed ≡ z.printed
printed_at_end (returns w) z x h = h.1.printed
printed_at_end (halts w) z x h = h.1.printed
printed_at_end (unhandled class site condition) z x h = h.1.printed
printed_at_end (no_room asked left) z x h = h.1.printed
printed_at_end falls z x h = absurd h
printed_at_end (cuts n w) z x h = absurd h
printed_at_end no_level z x h = absurd h
printed_at_end no_turn z x h = absurd h
printed_at_end exhausted z x h = h.1
printed_at_end stuck z x h = absurd h

pub law_of_going_on : LawOfGoingOn
law_of_going_on e z m n more le goes h =
    let same = run_from-more n more m le (not_budget e z (run_from n m) goes h) in
    (same, subst (λ x. EndsAs e z x) (sym same) h)

module _ (program : LineProgram) (l : Located) (Fact : (number line register : ℕ) → Place → Type 0) (first : List Block) where
  -- what is there at an environment call is left behind it
  leaving : (which : ℕ) (z : MidState) (m : Moment) → Calls program l Fact first which z m → Leaves z (record m { executed = m.executed + 1 })
  leaving which z m c = record { words = c.words; memory = c.memory; arena = c.arena; printed = c.printed; input = c.input }

  -- One instruction more, and the machine has ended, or waits as before.
  pub at_end : (e : End) (z : MidState) (m : Moment) (q : ℕ) → IsSaid e → EndsAt program l Fact first e z m → EndsAs e z (run_from (suc q) m)
  unfolding run_from
  at_end (returns w) z m q h c =
      subst (λ x. EndsAs (returns w) z x) (sym (ap (λ r. act (run_from q) r m) c.0.is_call)) (ap (λ x. Halt x) c.1, leaving 0 z m c.0)
  at_end (halts w) z m q h c =
      subst (λ x. EndsAs (halts w) z x) (sym (ap (λ r. act (run_from q) r m) c.0.is_call)) (ap (λ x. Halt x) c.1, leaving 0 z m c.0)
  at_end (unhandled class site condition) z m q h c =
      subst (λ x. EndsAs (unhandled class site condition) z x) (sym (ap (λ r. act (run_from q) r m) c.0.is_call))
      (ap (λ x. Unhandled x) c.1, leaving 3 z m c.0, c.2, c.3)
  at_end (no_room asked left) z m q h c =
      subst (λ x. EndsAs (no_room asked left) z x) (sym (ap (λ r. act (run_from q) r m) c.0.is_call))
      (ap (λ x. Full x (slice_index m.state.registers 11)) c.1 ∙ ap (λ x. Full asked x) c.2, leaving 4 z m c.0)
  at_end falls z m q h c = absurd h
  at_end (cuts n w) z m q h c = absurd h
  at_end no_level z m q h c = absurd h
  at_end no_turn z m q h c = absurd h
  at_end exhausted z m q h c = (c.goes_on (suc q), c.printed (suc q))
  at_end stuck z m q h c = absurd h
