-- Images of lowered programs, where lowering is right.
use Rattle.std.proofs.Common.{inl, inr, ◌≡◌, ◌⊎◌, ℕ, ◌+◌, ◌-◌, ◌*◌, ◌^◌, ◌<◌, ◌≤◌, List, [], ◌∷◌, ◌++◌, length, refl, sym, ap, subst, ◌∙◌, arith, append_assoc, Some}
use Rattle.std.specs.Prelude.{Bool, true, slice_get}
use Rattle.std.proofs.lemmas.Bool.{cases_lt}
use Rattle.base.specs.declared.place.Place.{Place}
use Rattle.lang_meaning.specs.Counts.{bound}
use Rattle.lang_meaning.specs.Meaning.{Meant, End, ended_value, ended_unhandled, ended_full, ended_more}
use Rattle.lang_meaning.specs.Prefixes.{IsPrefix}
use Rattle.lang_meaning.specs.State.{Limit, words, unlimited}
use Rattle.lang_meaning.specs.Values.{Value}
use Rattle.flat_language.specs.FlatMeaning.{flat_meaning}
use Rattle.flat_exits.proofs.Runs.{law_of_exits_of_runs}
use Rattle.flat_unlimited.proofs.Runs.{law_of_unlimited_runs}
use Rattle.rv_machine.specs.declared.ending.Ending.TheVariants.{Budget, Halt, Unhandled, Full}
use Rattle.rv_machine.specs.Run.{Ended, run_from, run_of}
use Rattle.mid_code.specs.declared.program.MidProgram.{MidProgram}
use Rattle.mid_code.specs.Checked.{is_checked_program}
use Rattle.mid_code.specs.Meaning.{runs}
use Rattle.mid_code.specs.State as mid
use Rattle.mid_code.specs.State.{MidState, MidOutcome}
use Rattle.mid_lines.specs.declared.line.LineProcedure.{LineProcedure}
use Rattle.mid_lines.specs.declared.line.LineProgram.{LineProgram}
use Rattle.mid_lines.specs.Flattened.{program_lines}
use Rattle.mid_lines.specs.LineMeaning.{Stage, ended, begin, after}
use Rattle.mid_lines.specs.Weights.{weights}
use Rattle.back_relation.specs.Setting.{Setting}
use Rattle.back_relation.specs.Worlds.{World}
use Rattle.back_relation.specs.Right.{ProgramIsRight}
use Rattle.back_claims.specs.Program.{ProgramBegins, meant_by, the_meaning, run, code_end, EndsAs as MeansEnd, RunsOutFor, IsReached, IsFullEnd, RunDoes, LoweringIsRight}
use Rattle.back_places.specs.declared.place.Place.{Place as WordPlace}
use Rattle.back_places.specs.Places.{Located}
use Rattle.back_places.specs.Good.{IsGood}
use Rattle.back_places.specs.StepLaw.{Known}
use Rattle.back_runs.specs.Ends.{IsSaid, EndsAs}
use Rattle.back_runs.specs.ProgramRuns.{DoesAs}
use Rattle.back_runs.proofs.Doing.{law_of_known_steps}
use Rattle.back_runs.proofs.Programs.{end_is}
use Rattle.back_runs.specs.Images.{HasStart, IsFirst}
use Rattle.back_runs.specs.Laws.{loaded, ImageRuns}
use Rattle.back_runs.proofs.Images.{law_of_image_runs}
use Rattle.back_meant.specs.Laws.{with_limits, code_of_setting, entry_of, HaltsAs, UnhandledAs, EndsWell, IsOwnEnd, HasTurns, LawOfMeantRuns}
use Rattle.back_meant.proofs.Steps.{steps_are_known}
use Rattle.back_meant.proofs.Verdicts.{halt_as, unhandled_as, verdict}

-- what stands in front of something empty is empty
none_in_front : (xs rest : List ℕ) → xs ++ rest ≡ [] → xs ≡ []
none_in_front [] rest e = refl
none_in_front (x ∷ xs) rest e = absurd (cc e)

module _ (lowering : LoweringIsRight) (base : Setting) (laid : List ℕ) (l : Located) (known : (number line register : ℕ) → WordPlace → Bool)
    (right : (limit : Limit) (turns : ℕ) → ProgramIsRight (with_limits base limit turns))
    (checked : is_checked_program (code_of_setting base laid) ≡ true) (good : IsGood (program_lines (code_of_setting base laid)) l (Known known))
    (at : ℕ) (image : List ℕ) (arena : ℕ) (input : List ℕ) (w : World) (y : MidState) (p : LineProcedure)
    (starts : HasStart (program_lines (code_of_setting base laid)) l at (entry_of base) image) (first : IsFirst l image arena input y)
    (there : slice_get (program_lines (code_of_setting base laid)).procedures (entry_of base) ≡ Some p)
    (begins : (turns : ℕ) → ProgramBegins (with_limits base unlimited turns) input w y) where
  abbrev program : MidProgram
  program = code_of_setting base laid

  abbrev entry : ℕ
  entry = entry_of base

  abbrev lines : LineProgram
  lines = program_lines program

  abbrev at_first : Stage
  at_first = begin entry [] y

  -- the run of the code, whatever words are laid beside it
  same_run : (limit : Limit) (turns k : ℕ) → runs program k turns entry [] y ≡ run (with_limits base limit turns) k y
  unfolding runs
  same_run limit turns k = refl

  image_runs : ImageRuns program l (Known known) at entry image arena input y
  image_runs = law_of_image_runs program l known checked good at entry image arena input y p starts first there

  -- turns enough for n levels without a limit, and at least n
  abbrev turns_for : ℕ → ℕ
  turns_for n = n + (16 * (flat_meaning base.names base.program input n unlimited).units + length y.arena.memory + 1)

  abbrev free : ℕ → Setting
  free n = with_limits base unlimited (turns_for n)

  does_free : (n : ℕ) → RunDoes (free n) input n y
  does_free n = lowering (free n) (right unlimited (turns_for n)) input n w y (begins (turns_for n)) (omega arith)

  had_room : (n asked left_then : ℕ) → (the_meaning (free n) input n y).end ≡ ended_full asked left_then → ⊥
  had_room n = law_of_unlimited_runs base.names base.program input n

  -- lines are not stuck in steps that weigh at most n
  not_stuck : (n steps : ℕ) (z : MidState) → after lines steps at_first ≡ ended mid.stuck z → weights lines steps at_first ≤ n → ⊥
  not_stuck n steps z e light =
      let x = end_is program entry [] y n n (turns_for n) (omega arith) (omega arith) steps mid.stuck z e light in
      (does_free n).never_stuck refl (ap (λ r. r.end) (sym (same_run unlimited (turns_for n) n)) ∙ x.0)

  -- 2 and q instructions do what the code does with at least as many levels and turns
  behind_start : (n q k turns : ℕ) → n ≡ 2 + q → n ≤ k → n ≤ turns → DoesAs (runs program k turns entry [] y) (loaded image at arena input) n
  behind_start n q k turns e le lt =
      let stays = law_of_known_steps lines l known y.arena.blocks at_first image_runs.started.moment q
      (steps_are_known lines at_first q (λ steps z h light. not_stuck n steps z h (omega (arith, light, e)))) in
      subst (λ i. DoesAs (runs program k turns entry [] y) (loaded image at arena input) i) (sym e)
      (image_runs.does q k turns (omega (arith, e, le)) (omega (arith, e, lt)) stays)

  -- in the start nothing is printed
  in_start : (n k turns : ℕ) → n ≤ 2 → DoesAs (runs program k turns entry [] y) (loaded image at arena input) n
  in_start n k turns few =
      let s = image_runs.started in
      let c = s.comes.within n few in
      let none : s.moment.printed ≡ [] = s.begins.enters.machine.printed ∙ first.printed in
      let nothing = none_in_front (run_from n (loaded image at arena input)).at.printed c.0 (c.1 ∙ none) in
      record {
        prints = ((runs program k turns entry [] y).state.printed, ap (λ x. x ++ (runs program k turns entry [] y).state.printed) nothing);
        ends = inl (s.comes.goes_on n few);
      }

  does_with : (n k turns : ℕ) → n ≤ k → n ≤ turns → DoesAs (runs program k turns entry [] y) (loaded image at arena input) n
  does_with n k turns le lt = elim (cases_lt n 2) [
    | inl start ↦ in_start n k turns (omega (arith, start))
    | inr on ↦ behind_start n (n - 2) k turns (omega (arith, on)) le lt
  ]

  does : (n : ℕ) → DoesAs (run (free n) n y) (loaded image at arena input) n
  does n =
      subst (λ r. DoesAs r (loaded image at arena input) n) (same_run unlimited (turns_for n) n) (does_with n n (turns_for n) (omega arith) (omega arith))

  -- an end of code with which the machine has no room
  no_room_is : (e : mid.End) (z : MidState) (x : Ended) (asked left_then : ℕ) → EndsAs e z x → x.ending ≡ Full asked left_then
      → (a : ℕ) × (b : ℕ) × (e ≡ mid.no_room a b)
  no_room_is (mid.no_room a b) z x asked left_then h f = (a, b, refl)
  no_room_is (mid.halts word) z x asked left_then h f = absurd (cc (h.0, f))
  no_room_is (mid.returns word) z x asked left_then h f = absurd (cc (h.0, f))
  no_room_is (mid.unhandled class site word) z x asked left_then h f = absurd (cc (h.0, f))
  no_room_is mid.falls z x asked left_then h f = absurd h
  no_room_is (mid.cuts n word) z x asked left_then h f = absurd h
  no_room_is mid.no_level z x asked left_then h f = absurd h
  no_room_is mid.no_turn z x asked left_then h f = absurd h
  no_room_is mid.exhausted z x asked left_then h f = absurd (cc (h.0, f))
  no_room_is mid.stuck z x asked left_then h f = absurd h

  full : (n asked left_then : ℕ) → (run_of image (4 * at) arena input n).ending ≡ Full asked left_then
      → (m k turns : ℕ) → ProgramBegins (with_limits base (words m) turns) input w y → HasTurns (with_limits base (words m) turns) input k y → n ≤ k → n ≤ turns
      → IsFullEnd (with_limits base (words m) turns) input k y (the_meaning (with_limits base (words m) turns) input k y).end
  full n asked left_then f m k turns starts_so enough le lt = by (does_with n k turns le lt).ends
    where
      d : RunDoes (with_limits base (words m) turns) input k y
      d = lowering (with_limits base (words m) turns) (right (words m) turns) input k w y starts_so enough

      by : ((run_of image (4 * at) arena input n).ending ≡ Budget)
          ⊎ EndsAs (runs program k turns entry [] y).end (runs program k turns entry [] y).state (run_of image (4 * at) arena input n)
          → IsFullEnd (with_limits base (words m) turns) input k y (the_meaning (with_limits base (words m) turns) input k y).end
      by (inl b) = absurd (cc (b, f))
      by (inr e) =
          let x = no_room_is (runs program k turns entry [] y).end (runs program k turns entry [] y).state (run_of image (4 * at) arena input n) asked left_then e f in
          d.room m x.0 x.1 refl (ap (λ r. r.end) (sym (same_run (words m) turns k)) ∙ x.2)

  prefix : (n : ℕ) → IsPrefix (run_of image (4 * at) arena input n).at.printed (flat_meaning base.names base.program input n unlimited).printed
  prefix n =
      let d = does n in
      let m = (does_free n).printed (had_room n) in
      record {
        rest = d.prints.0 ++ m.rest;
        is = sym (append_assoc (run_of image (4 * at) arena input n).at.printed d.prints.0 m.rest) ∙ ap (λ x. x ++ m.rest) d.prints.1 ∙ m.is;
      }

  ends : (n : ℕ)
      → ((run_of image (4 * at) arena input n).ending ≡ Budget) ⊎ ((turns : ℕ) × EndsWell (with_limits base unlimited turns) input n y (run_of image (4 * at) arena input n))
  ends n = elim (does n).ends [
    | inl b ↦ inl b
    | inr e ↦
        elim (verdict (free n) input n y (does_free n) (had_room n) (run_of image (4 * at) arena input n) (code_end (free n) input n y) refl e (does_free n).ends) [
          | inl b ↦ inl b
          | inr x ↦ inr (turns_for n, x)
        ]
  ]

  -- instructions that go on, with no limit of words
  module _ (n : ℕ) (low : n < 2 ^ 32) (goes_on : (run_of image (4 * at) arena input n).ending ≡ Budget) where
    abbrev m : Meant
    m = the_meaning (free n) input n y

    few_exits : bound m.units ≤ n → (meant_by (free n) input n).state.state.exits ≤ 2 ^ 32
    unfolding flat_meaning
    few_exits paid = let g = law_of_exits_of_runs base.names base.program input n unlimited in omega (arith, g, low, paid)

    -- code whose program has an end of its own, within so many instructions
    said_value : bound m.units ≤ n → (v : Value) (e : mid.End) → MeansEnd (free n) input n y e (ended_value v) ⊎ RunsOutFor (free n) input n y unlimited e → IsSaid e
    said_value paid v (mid.halts word) h = tt
    said_value paid v (mid.no_room asked left_then) h = tt
    said_value paid v (mid.returns word) h = tt
    said_value paid v (mid.unhandled class site word) h = tt
    said_value paid v mid.exhausted (inl h) = absurd h
    said_value paid v mid.exhausted (inr h) = absurd (omega (arith, few_exits paid, h))
    said_value paid v mid.falls (inl h) = absurd h
    said_value paid v mid.falls (inr h) = absurd h
    said_value paid v (mid.cuts i word) (inl h) = absurd h
    said_value paid v (mid.cuts i word) (inr h) = absurd h
    said_value paid v mid.no_level (inl h) = absurd h
    said_value paid v mid.no_level (inr h) = absurd h
    said_value paid v mid.no_turn (inl h) = absurd h
    said_value paid v mid.no_turn (inr h) = absurd h
    said_value paid v mid.stuck (inl h) = absurd h
    said_value paid v mid.stuck (inr h) = absurd h

    said_unhandled :
        bound m.units ≤ n → (c : Value) (place : Place) (e : mid.End)
        → MeansEnd (free n) input n y e (ended_unhandled c place) ⊎ RunsOutFor (free n) input n y unlimited e → IsSaid e
    said_unhandled paid c place (mid.halts word) h = tt
    said_unhandled paid c place (mid.no_room asked left_then) h = tt
    said_unhandled paid c place (mid.returns word) h = tt
    said_unhandled paid c place (mid.unhandled class site word) h = tt
    said_unhandled paid c place mid.exhausted (inl h) = absurd h
    said_unhandled paid c place mid.exhausted (inr h) = absurd (omega (arith, few_exits paid, h))
    said_unhandled paid c place mid.falls (inl h) = absurd h
    said_unhandled paid c place mid.falls (inr h) = absurd h
    said_unhandled paid c place (mid.cuts i word) (inl h) = absurd h
    said_unhandled paid c place (mid.cuts i word) (inr h) = absurd h
    said_unhandled paid c place mid.no_level (inl h) = absurd h
    said_unhandled paid c place mid.no_level (inr h) = absurd h
    said_unhandled paid c place mid.no_turn (inl h) = absurd h
    said_unhandled paid c place mid.no_turn (inr h) = absurd h
    said_unhandled paid c place mid.stuck (inl h) = absurd h
    said_unhandled paid c place mid.stuck (inr h) = absurd h

    -- the machine has not ended
    not_ended : (e : mid.End) (z : MidState) → EndsAs e z (run_of image (4 * at) arena input n) → (e ≡ mid.exhausted → ⊥) → ⊥
    not_ended (mid.halts word) z h other = cc (goes_on, h.0)
    not_ended (mid.returns word) z h other = cc (goes_on, h.0)
    not_ended (mid.unhandled class site word) z h other = cc (goes_on, h.0)
    not_ended (mid.no_room asked left_then) z h other = cc (goes_on, h.0)
    not_ended mid.exhausted z h other = other refl
    not_ended mid.falls z h other = h
    not_ended (mid.cuts i word) z h other = h
    not_ended mid.no_level z h other = h
    not_ended mid.no_turn z h other = h
    not_ended mid.stuck z h other = h

    -- the code has ended within what its units pay
    said_in_cost : bound m.units ≤ n → (m.end ≡ ended_more → ⊥) → IsSaid (code_end (free n) input n y)
        → EndsAs (code_end (free n) input n y) (run (free n) n y).state (run_of image (4 * at) arena input n)
    said_in_cost paid not_more said =
        let cost = (does_free n).paid not_more (had_room n) in
        let free_start = (begins (turns_for n)).no_cost in
        let same = same_run unlimited (turns_for n) n in
        subst (λ r. EndsAs r.end r.state (run_of image (4 * at) arena input n)) same
        (image_runs.in_time n n (turns_for n) (subst (λ r. IsSaid r.end) (sym same) said)
        (subst (λ r. r.state.cost ≤ y.cost + n) (sym same) (omega (arith, cost, paid, free_start))))

    -- where serial numbers are exhausted, there were more exits than units
    not_exhausted : bound m.units ≤ n → code_end (free n) input n y ≡ mid.exhausted → (g : End) → m.end ≡ g → IsOwnEnd g → ⊥
    not_exhausted paid e (ended_value v) is own =
        said_more (does_free n).ends
      where
        said_more : MeansEnd (free n) input n y (code_end (free n) input n y) m.end ⊎ RunsOutFor (free n) input n y unlimited (code_end (free n) input n y) → ⊥
        said_more (inl h) = subst (λ g. MeansEnd (free n) input n y mid.exhausted g) is (subst (λ l. MeansEnd (free n) input n y l m.end) e h)
        said_more (inr h) = omega (arith, few_exits paid, subst (λ l. RunsOutFor (free n) input n y unlimited l) e h)
    not_exhausted paid e (ended_unhandled c place) is own =
        said_more (does_free n).ends
      where
        said_more : MeansEnd (free n) input n y (code_end (free n) input n y) m.end ⊎ RunsOutFor (free n) input n y unlimited (code_end (free n) input n y) → ⊥
        said_more (inl h) = subst (λ g. MeansEnd (free n) input n y mid.exhausted g) is (subst (λ l. MeansEnd (free n) input n y l m.end) e h)
        said_more (inr h) = omega (arith, few_exits paid, subst (λ l. RunsOutFor (free n) input n y unlimited l) e h)
    not_exhausted paid e (ended_full asked left_then) is own = own
    not_exhausted paid e ended_more is own = own

    not_paid : bound m.units ≤ n → (g : End) → m.end ≡ g → IsOwnEnd g → IsSaid (code_end (free n) input n y) → ⊥
    not_paid paid (ended_value v) is own said =
        not_ended (code_end (free n) input n y) (run (free n) n y).state (said_in_cost paid (λ none. cc (is, none)) said)
        (λ e. not_exhausted paid e (ended_value v) is own)
    not_paid paid (ended_unhandled c place) is own said =
        not_ended (code_end (free n) input n y) (run (free n) n y).state (said_in_cost paid (λ none. cc (is, none)) said)
        (λ e. not_exhausted paid e (ended_unhandled c place) is own)
    not_paid paid (ended_full asked left_then) is own said = own
    not_paid paid ended_more is own said = own

    charged_more : (g : End) → m.end ≡ g → IsOwnEnd g → (bound m.units ≤ n → IsSaid (code_end (free n) input n y)) → n < bound m.units
    charged_more g is own said = elim (cases_lt n (bound m.units)) [
      | inl more ↦ more
      | inr paid ↦ absurd (not_paid paid g is own (said paid))
    ]

    goes : (g : End) → m.end ≡ g → (g ≡ ended_more) ⊎ (IsOwnEnd g × (n < bound m.units))
    goes (ended_value v) is =
        inr (
          tt,
          charged_more (ended_value v) is tt (λ paid.
              said_value paid v (code_end (free n) input n y)
              (subst (λ g. MeansEnd (free n) input n y (code_end (free n) input n y) g ⊎ RunsOutFor (free n) input n y unlimited (code_end (free n) input n y)) is (does_free n).ends)),
        )
    goes (ended_unhandled c place) is =
        inr (
          tt,
          charged_more (ended_unhandled c place) is tt (λ paid.
              said_unhandled paid c place (code_end (free n) input n y)
              (subst (λ g. MeansEnd (free n) input n y (code_end (free n) input n y) g ⊎ RunsOutFor (free n) input n y unlimited (code_end (free n) input n y)) is (does_free n).ends)),
        )
    goes (ended_full asked left_then) is = absurd (had_room n asked left_then is)
    goes ended_more is = inl refl

  -- within so many words
  module _ (m k turns n : ℕ) (starts_so : ProgramBegins (with_limits base (words m) turns) input w y) (enough : HasTurns (with_limits base (words m) turns) input k y)
      (low : bound (the_meaning (with_limits base (words m) turns) input k y).units < 2 ^ 32) (paid : bound (the_meaning (with_limits base (words m) turns) input k y).units ≤ n) where
    abbrev within : Setting
    within = with_limits base (words m) turns

    few : (meant_by within input k).state.state.exits ≤ 2 ^ 32
    unfolding flat_meaning
    few = let g = law_of_exits_of_runs base.names base.program input k (words m) in omega (arith, g, low)

    d : RunDoes within input k y
    d = lowering within (right (words m) turns) input k w y starts_so enough

    -- code that was said to end so has ended so on the machine
    in_cost : ((asked left_then : ℕ) → (the_meaning within input k y).end ≡ ended_full asked left_then → ⊥) → IsSaid (code_end within input k y)
        → IsReached within input k y (code_end within input k y) → EndsAs (code_end within input k y) (run within k y).state (run_of image (4 * at) arena input n)
    in_cost room said reached =
        let cost = d.cost reached room in
        let free_start = starts_so.no_cost in
        let same = same_run (words m) turns k in
        subst (λ r. EndsAs r.end r.state (run_of image (4 * at) arena input n)) same
        (image_runs.in_time n k turns (subst (λ r. IsSaid r.end) (sym same) said)
        (subst (λ r. r.state.cost ≤ y.cost + n) (sym same) (omega (arith, cost, paid, free_start))))

    -- how code has ended where the program has a value, or a condition that is not handled

    pub record HasHalted (v : Value) : Type 0 where
      pub word : ℕ
      pub end : code_end within input k y ≡ mid.halts word
      pub means : MeansEnd within input k y (mid.halts word) (ended_value v)

    value_ends :
        (v : Value) (e : mid.End) → code_end within input k y ≡ e
        → MeansEnd within input k y e (ended_value v) ⊎ RunsOutFor within input k y (words m) e → HasHalted v
    value_ends v (mid.halts word) c (inl r) = record { word = word; end = c; means = r }
    value_ends v (mid.halts word) c (inr r) = absurd r
    value_ends v (mid.unhandled class site word) c (inl r) = absurd r
    value_ends v (mid.unhandled class site word) c (inr r) = absurd r
    value_ends v (mid.returns word) c (inl r) = absurd r
    value_ends v (mid.returns word) c (inr r) = absurd r
    value_ends v (mid.no_room asked left_then) c (inl r) = absurd r
    value_ends v (mid.no_room asked left_then) c (inr r) = absurd r
    value_ends v mid.falls c (inl r) = absurd r
    value_ends v mid.falls c (inr r) = absurd r
    value_ends v (mid.cuts i word) c (inl r) = absurd r
    value_ends v (mid.cuts i word) c (inr r) = absurd r
    value_ends v mid.no_level c (inl r) = absurd r
    value_ends v mid.no_level c (inr r) = absurd r
    value_ends v mid.no_turn c (inl r) = absurd r
    value_ends v mid.no_turn c (inr r) = absurd r
    value_ends v mid.exhausted c (inl r) = absurd r
    value_ends v mid.exhausted c (inr r) = absurd (omega (arith, few, r))
    value_ends v mid.stuck c (inl r) = absurd r
    value_ends v mid.stuck c (inr r) = absurd r

    pub record HasNotHandled (v : Value) (place : Place) : Type 0 where
      pub class : ℕ
      pub site : ℕ
      pub word : ℕ
      pub end : code_end within input k y ≡ mid.unhandled class site word
      pub means : MeansEnd within input k y (mid.unhandled class site word) (ended_unhandled v place)

    unhandled_ends :
        (v : Value) (place : Place) (e : mid.End) → code_end within input k y ≡ e
        → MeansEnd within input k y e (ended_unhandled v place) ⊎ RunsOutFor within input k y (words m) e → HasNotHandled v place
    unhandled_ends v place (mid.halts word) c (inl r) = absurd r
    unhandled_ends v place (mid.halts word) c (inr r) = absurd r
    unhandled_ends v place (mid.unhandled class site word) c (inl r) = record { class = class; site = site; word = word; end = c; means = r }
    unhandled_ends v place (mid.unhandled class site word) c (inr r) = absurd r
    unhandled_ends v place (mid.returns word) c (inl r) = absurd r
    unhandled_ends v place (mid.returns word) c (inr r) = absurd r
    unhandled_ends v place (mid.no_room asked left_then) c (inl r) = absurd r
    unhandled_ends v place (mid.no_room asked left_then) c (inr r) = absurd r
    unhandled_ends v place mid.falls c (inl r) = absurd r
    unhandled_ends v place mid.falls c (inr r) = absurd r
    unhandled_ends v place (mid.cuts i word) c (inl r) = absurd r
    unhandled_ends v place (mid.cuts i word) c (inr r) = absurd r
    unhandled_ends v place mid.no_level c (inl r) = absurd r
    unhandled_ends v place mid.no_level c (inr r) = absurd r
    unhandled_ends v place mid.no_turn c (inl r) = absurd r
    unhandled_ends v place mid.no_turn c (inr r) = absurd r
    unhandled_ends v place mid.exhausted c (inl r) = absurd r
    unhandled_ends v place mid.exhausted c (inr r) = absurd (omega (arith, few, r))
    unhandled_ends v place mid.stuck c (inl r) = absurd r
    unhandled_ends v place mid.stuck c (inr r) = absurd r

    of_value :
        (v : Value) → (the_meaning within input k y).end ≡ ended_value v
        → (word : ℕ) × ((run_of image (4 * at) arena input n).ending ≡ Halt word) × HaltsAs within input k y (run_of image (4 * at) arena input n) word
    of_value v h =
        let x = value_ends v (code_end within input k y) refl
        (subst (λ g. MeansEnd within input k y (code_end within input k y) g ⊎ RunsOutFor within input k y (words m) (code_end within input k y)) h d.ends) in
        let room : (asked left_then : ℕ) → (the_meaning within input k y).end ≡ ended_full asked left_then → ⊥ = λ asked left_then e. cc (h, e) in
        let ended_so = subst (λ e. EndsAs e (run within k y).state (run_of image (4 * at) arena input n)) x.end
        (in_cost room (subst (λ e. IsSaid e) (sym x.end) tt) (subst (λ e. IsReached within input k y e) (sym x.end) tt)) in
        (x.word, ended_so.0, halt_as within input k y d room (run_of image (4 * at) arena input n) x.word v h x.end ended_so x.means)

    of_condition :
        (v : Value) (place : Place) → (the_meaning within input k y).end ≡ ended_unhandled v place
        → (class : ℕ) × ((run_of image (4 * at) arena input n).ending ≡ Unhandled class) × UnhandledAs within input k y (run_of image (4 * at) arena input n) class
    of_condition v place h =
        let x = unhandled_ends v place (code_end within input k y) refl
        (subst (λ g. MeansEnd within input k y (code_end within input k y) g ⊎ RunsOutFor within input k y (words m) (code_end within input k y)) h d.ends) in
        let room : (asked left_then : ℕ) → (the_meaning within input k y).end ≡ ended_full asked left_then → ⊥ = λ asked left_then e. cc (h, e) in
        let ended_so = subst (λ e. EndsAs e (run within k y).state (run_of image (4 * at) arena input n)) x.end
        (in_cost room (subst (λ e. IsSaid e) (sym x.end) tt) (subst (λ e. IsReached within input k y e) (sym x.end) tt)) in
        (x.class, ended_so.0, unhandled_as within input k y d room (run_of image (4 * at) arena input n) x.class x.site x.word v place h x.end ended_so x.means)

pub law_of_meant_runs : LawOfMeantRuns
law_of_meant_runs lowering base laid l known right checked good at image arena input w y p starts first there begins = record {
  prefix = prefix lowering base laid l known right checked good at image arena input w y p starts first there begins;
  ends = ends lowering base laid l known right checked good at image arena input w y p starts first there begins;
  paid = λ n low goes_on. goes lowering base laid l known right checked good at image arena input w y p starts first there begins n low goes_on _ refl;
  full = full lowering base laid l known right checked good at image arena input w y p starts first there begins;
  in_time = λ m k turns n starts_so enough low paid. (
    of_value lowering base laid l known right checked good at image arena input w y p starts first there begins m k turns n starts_so enough low paid,
    of_condition lowering base laid l known right checked good at image arena input w y p starts first there begins m k turns n starts_so enough low paid,
  );
}
