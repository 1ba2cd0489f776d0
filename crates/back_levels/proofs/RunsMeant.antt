-- From what the run comes to, in the relation's words, to what it does, in words of the meaning of programs.
use Rattle.std.proofs.Common.{◌≡◌, ◌⊎◌, inl, inr, ℕ, ◌^◌, ◌<◌, ◌≤◌, List, refl, sym, ap, ◌∙◌, subst, arith}
use Rattle.lang_meaning.specs.Counts.{bound}
use Rattle.lang_meaning.specs.Meaning.{Meant, ended_full, end_of}
use Rattle.lang_meaning.specs.Meaning as meaning
use Rattle.lang_meaning.specs.Prefixes.{IsPrefix}
use Rattle.lang_meaning.specs.State.{Outcome, value, exit, full, more, Limit, words, unlimited}
use Rattle.flat_language.specs.FlatMeaning.{flat_meaning}
use Rattle.flat_language.specs.FlatState.{FlatState, FlatEvaluated}
use Rattle.flat_unlimited.proofs.Runs.{law_of_unlimited_runs}
use Rattle.mid_code.specs.State.{End, falls, returns, cuts, no_room, no_level, no_turn, halts, unhandled, exhausted, stuck, MidState, MidOutcome}
use Rattle.back_relation.specs.Ends.{PaidFrom, FullThere, IsFull, RoomEnded, Because, Stopped, done, left_by, full_there, stopped, few_turns}
use Rattle.back_relation.specs.Setting.{Setting}
use Rattle.back_relation.specs.Things.{Things}
use Rattle.back_relation.specs.Worlds.{World}
use Rattle.back_claims.specs.Mains.{Unhandled}
use Rattle.back_claims.specs.Program.{start_credit, at_start, meant_by, run, Halted, the_meaning, RunsOutFor, EndsAs, IsFullEnd, IsReached, RunDoes}
use Rattle.back_relation.proofs.Growth.{same_prefix}
use Rattle.back_levels.specs.Runs.{LawOfRunsMeant}

module _ (setting : Setting) (input : List ℕ) (k : ℕ) (y : MidState) where
  abbrev z : FlatState
  z = at_start setting input

  abbrev r : FlatEvaluated
  r = meant_by setting input k

  abbrev q : MidOutcome
  q = run setting k y

  abbrev m : Meant
  m = the_meaning setting input k y

  -- what the meaning of the program says of how it ended
  ended : m.end ≡ end_of r.outcome
  unfolding flat_meaning
  ended = refl

  printed_is : m.printed ≡ r.state.state.printed
  unfolding flat_meaning
  printed_is = refl

  units_are : m.units ≡ r.state.state.units
  unfolding flat_meaning
  units_are = refl

  store_is : m.store ≡ r.state.state.store
  unfolding flat_meaning
  store_is = refl

  -- ---- where it ended as the program did

  same_printed : {w : World} → Things setting w r.state q.state → m.printed ≡ q.state.printed
  same_printed t = printed_is ∙ sym t.represents.printed

  few_serials : {w : World} → Things setting w r.state q.state → r.state.state.exits ≤ 2 ^ 32
  few_serials t = let drawn = t.serials.2 in let low = t.serials.3 in omega (arith, drawn, low)

  cost_within : y.cost ≡ 0 → PaidFrom start_credit z y r.state q.state → q.state.cost ≤ bound m.units
  cost_within none paid = let units = units_are in omega (arith, none, paid, units)

  -- reached, with the same printed, and its end is that of the meaning
  reached :
      {w : World} → y.cost ≡ 0 → Things setting w r.state q.state → PaidFrom start_credit z y r.state q.state → IsReached setting input k y q.end
      → EndsAs setting input k y q.end m.end → RunDoes setting input k y
  reached none t paid is_reached ends_as = record {
    ends = inl ends_as;
    printed = λ not_full. subst (λ ps. IsPrefix q.state.printed ps) (sym (same_printed t)) (same_prefix q.state.printed);
    printed_all = λ here. subst (λ ps. IsPrefix ps q.state.printed) (sym (same_printed t)) (same_prefix q.state.printed);
    room = λ some asked left_then limit e. absurd (subst (λ l. IsReached setting input k y l) e is_reached);
    cost = λ here not_full. cost_within none paid;
    paid = λ not_more not_full. cost_within none paid;
    serials = λ here not_full. few_serials t;
    never_stuck = λ limit e. subst (λ l. IsReached setting input k y l) e is_reached;
  }

  halted_does : y.cost ≡ 0 → Halted setting z y r q → RunDoes setting input k y
  halted_does none x =
      reached none x.things x.paid (subst (λ l. IsReached setting input k y l) (sym x.end) tt)
      (subst (λ l. EndsAs setting input k y l m.end) (sym x.end)
      (subst (λ e. EndsAs setting input k y (halts x.word) e) (sym (ended ∙ ap end_of x.outcome)) (x.w', x.things, x.of_value)))

  unhandled_does : y.cost ≡ 0 → Unhandled setting start_credit z y r q → RunDoes setting input k y
  unhandled_does none x =
      reached none x.things x.paid (subst (λ l. IsReached setting input k y l) (sym x.end) tt)
      (subst (λ l. EndsAs setting input k y l m.end) (sym x.end)
      (subst (λ e. EndsAs setting input k y (unhandled (meaning.class_in r.state.state.store x.condition) x.site x.word) e) (sym (ended ∙ ap end_of x.outcome))
      (ap (λ s. meaning.class_in s x.condition) (sym store_is), x.site_is, (x.w', x.things, x.of_value))))

  -- ---- where the meaning had no words left

  any_as : (e : End) (asked left_then : ℕ) → EndsAs setting input k y e (ended_full asked left_then)
  any_as falls asked left_then = tt
  any_as (returns word) asked left_then = tt
  any_as (cuts n word) asked left_then = tt
  any_as (no_room a l) asked left_then = tt
  any_as no_level asked left_then = tt
  any_as no_turn asked left_then = tt
  any_as (halts word) asked left_then = tt
  any_as (unhandled class site condition) asked left_then = tt
  any_as exhausted asked left_then = tt
  any_as stuck asked left_then = tt

  full_does : FullThere setting r q → RunDoes setting input k y
  full_does x =
      let is : m.end ≡ ended_full x.asked x.left_then = ended ∙ ap end_of x.outcome in record {
        ends = inl (subst (λ e. EndsAs setting input k y q.end e) (sym is) (any_as q.end x.asked x.left_then));
        printed = λ not_full. absurd (not_full x.asked x.left_then is);
        printed_all = λ here. subst (λ ps. IsPrefix ps q.state.printed) (sym printed_is) x.printed;
        room = λ some asked left_then limit e. subst (λ n. IsFullEnd setting input k y n) (sym is) tt;
        cost = λ here not_full. absurd (not_full x.asked x.left_then is);
        paid = λ not_more not_full. absurd (not_full x.asked x.left_then is);
        serials = λ here not_full. absurd (not_full x.asked x.left_then is);
        never_stuck = λ limit e.
            law_of_unlimited_runs setting.names setting.program input k x.asked x.left_then
            (ap (λ (l : Limit). (flat_meaning setting.names setting.program input k l).end) (sym limit) ∙ is);
      }

  -- ---- where the code stopped

  full_end : (o : Outcome) → IsFull setting o → IsFullEnd setting input k y (end_of o)
  full_end (value v) h = absurd h
  full_end (exit e v landing) h = absurd h
  full_end (full asked left_then) h = tt
  full_end more h = absurd h

  -- without room, in the meaning or the code
  no_room_as : (asked left_then : ℕ) (o : Outcome) → IsFull setting o → EndsAs setting input k y (no_room asked left_then) (end_of o)
  no_room_as asked left_then (value v) h = absurd h
  no_room_as asked left_then (exit e v landing) h = absurd h
  no_room_as asked left_then (full a l) h = tt
  no_room_as asked left_then more h = absurd h

  -- why it stopped, with a limit given
  abbrev BecauseWith : Limit → End → Type 0
  BecauseWith l (no_room asked left_then) = RoomEnded setting l r.outcome × (left_then < asked)
  BecauseWith l e = Because setting r e

  because_with : (e : End) → Because setting r e → BecauseWith setting.limit e
  because_with (no_room asked left_then) h = h
  because_with falls h = absurd h
  because_with (returns word) h = absurd h
  because_with (cuts n word) h = absurd h
  because_with no_level h = h
  because_with no_turn h = absurd h
  because_with (halts word) h = absurd h
  because_with (unhandled class site condition) h = absurd h
  because_with exhausted h = h
  because_with stuck h = absurd h

  -- with a limit the meaning has no room, or has more serial numbers; without one the code has no room
  stopped_as : (l : Limit) (e : End) → BecauseWith l e → EndsAs setting input k y e m.end ⊎ RunsOutFor setting input k y l e
  stopped_as unlimited (no_room asked left_then) h = inr tt
  stopped_as (words n) (no_room asked left_then) h =
      inl (subst (λ e. EndsAs setting input k y (no_room asked left_then) e) (sym ended) (no_room_as asked left_then r.outcome h.0))
  stopped_as l no_level h = inl (subst (λ e. EndsAs setting input k y no_level e) (sym (ended ∙ ap end_of h)) tt)
  stopped_as unlimited exhausted h = inr h
  stopped_as (words n) exhausted h = inr h
  stopped_as l falls h = absurd h
  stopped_as l (returns word) h = absurd h
  stopped_as l (cuts n word) h = absurd h
  stopped_as l no_turn h = absurd h
  stopped_as l (halts word) h = absurd h
  stopped_as l (unhandled class site condition) h = absurd h
  stopped_as l stuck h = absurd h

  not_reached : (e : End) → Because setting r e → IsReached setting input k y e → ⊥
  not_reached (halts word) h here = h
  not_reached (unhandled class site condition) h here = h
  not_reached e h here = here

  stopped_does : y.cost ≡ 0 → Stopped setting start_credit z y r q → RunDoes setting input k y
  stopped_does none x = record {
    ends = stopped_as setting.limit q.end (because_with q.end x.because);
    printed = λ not_full. subst (λ ps. IsPrefix q.state.printed ps) (sym printed_is) x.printed;
    printed_all = λ here. absurd (not_reached q.end x.because here);
    room = λ some asked left_then limit e. room_ended limit (subst (λ l. Because setting r l) e x.because).0;
    cost = λ here not_full. absurd (not_reached q.end x.because here);
    paid = λ not_more not_full. cost_within none (x.paid (λ more_there. not_more (ended ∙ ap end_of more_there)));
    serials = λ here not_full. absurd (not_reached q.end x.because here);
    never_stuck = λ limit e. subst (λ l. Because setting r l) e x.because;
  }
    where
      room_ended : {n : ℕ} → setting.limit ≡ words n → RoomEnded setting setting.limit r.outcome → IsFullEnd setting input k y m.end
      room_ended limit h =
          subst (λ e. IsFullEnd setting input k y e) (sym ended) (full_end r.outcome (subst (λ l. RoomEnded setting l r.outcome) limit h))

-- **the run in words of the meaning**, where there are turns enough
pub runs_meant_law : LawOfRunsMeant
runs_meant_law setting input k w y b enough (done x) = halted_does setting input k y b.no_cost x
runs_meant_law setting input k w y b enough (left_by x) = unhandled_does setting input k y b.no_cost x
runs_meant_law setting input k w y b enough (full_there x) = full_does setting input k y x
runs_meant_law setting input k w y b enough (stopped x) = stopped_does setting input k y b.no_cost x
runs_meant_law setting input k w y b enough (few_turns x) = let units = units_are setting input k y in absurd (omega (arith, enough, x, units))
