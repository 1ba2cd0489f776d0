-- The start is entered: its frame is laid, its code runs, and no end of it is changed where the run ends.
use Rattle.std.proofs.Common.{◌≡◌, ◌⊎◌, inl, inr, ℕ, suc, ◌+◌, ◌-◌, ◌<◌, ◌≤◌, List, [], ◌∷◌, length, Option, Some, None, refl, sym, ap, ◌∙◌, subst, arith}
use Rattle.std.specs.Prelude.{slice_get}
use Rattle.std.proofs.lemmas.Bool.{cases_lt}
use Rattle.std.proofs.lemmas.List.{length-replicate}
use Rattle.lang_meaning.specs.Prefixes.{IsPrefix}
use Rattle.lang_meaning.specs.State.{Limit, words, unlimited}
use Rattle.lang_meaning.specs.Values.{nil}
use Rattle.flat_language.specs.FlatState.{FlatState, FlatEvaluated}
use Rattle.mid_code.specs.declared.program.MidProcedure.{MidProcedure}
use Rattle.mid_code.specs.Arena.{Block, left}
use Rattle.mid_code.specs.Law.{Grown}
use Rattle.mid_code.specs.Meaning.{Context, enter, left_from, leaves, at_top_from, at_top, exec, run_procedure, turns, levels, runs}
use Rattle.mid_code.specs.MidCode.{code_of}
use Rattle.mid_code.specs.State.{Registers, first_registers, End, falls, returns, cuts, no_room, no_level, no_turn, halts, unhandled, exhausted, stuck, MidState, MidOutcome, ends}
use Rattle.mid_code.specs.State.{charged as mid_charged}
use Rattle.mid_code.proofs.Growth.{leaves_grown, at_top_grown, same_grown}
use Rattle.mid_arena.specs.Growing.{Grows}
use Rattle.mid_arena.specs.Tags.{nil_word}
use Rattle.mid_arena.proofs.Memory.{grows_with_new_block, left_with_new_block}
use Rattle.mid_arena.proofs.Running.{frame_of, entered, some_found}
use Rattle.back_lowering.specs.Program.{mains_from, start_number}
use Rattle.back_relation.specs.Around.{RoomFor}
use Rattle.back_relation.specs.Ends.{RoomEnded, Because, done, left_by, full_there, stopped, few_turns}
use Rattle.back_relation.specs.Forms.{code_at}
use Rattle.back_relation.specs.Placed.{IsPlaced}
use Rattle.back_relation.specs.Room.{main_reserve}
use Rattle.back_relation.specs.Setting.{Setting}
use Rattle.back_relation.specs.Worlds.{World}
use Rattle.back_claims.specs.Mains.{MainBegins}
use Rattle.back_claims.specs.Program.{start_words, at_start, meant_by, ProgramBegins, run, RunEnds}
use Rattle.back_relation.specs.Starts.{FlatGrown}
use Rattle.back_relation.proofs.Growth.{both_prefix}
use Rattle.back_calling.proofs.Entered.{framed, UsedAt, used_at, words_inside, with_room, without_room}
use Rattle.back_levels.proofs.Numbers.{main_numbers_law}
use Rattle.back_levels.specs.MainsLeft.{MainsDo, AreFrom, CameFrom, RunFrom}
use Rattle.back_levels.specs.Runs.{LawOfRuns}
use Rattle.back_levels.specs.StartSteps.{start_of, mains_code, mains_steps}
use Rattle.back_levels.proofs.MainsLeft.{begins_again, begins_paid, mains_grown, mains_left_law}
use Rattle.back_levels.proofs.StartSteps.{start_steps_law}

-- ---- an end at which all is over

abbrev IsOver : End → Type 0
IsOver falls = ⊥
IsOver (returns word) = ⊥
IsOver (cuts n word) = ⊥
IsOver e = Unit {0}

over_from : (e : End) (bs : List Block) (q : MidOutcome) → IsOver e → left_from e bs q ≡ q
over_from (no_room asked left_then) bs q h = refl
over_from no_level bs q h = refl
over_from no_turn bs q h = refl
over_from (halts word) bs q h = refl
over_from (unhandled class site condition) bs q h = refl
over_from exhausted bs q h = refl
over_from stuck bs q h = refl
over_from falls bs q h = absurd h
over_from (returns word) bs q h = absurd h
over_from (cuts n word) bs q h = absurd h

over_at_top : (e : End) (q : MidOutcome) → IsOver e → at_top_from e q ≡ q
over_at_top (no_room asked left_then) q h = refl
over_at_top no_level q h = refl
over_at_top no_turn q h = refl
over_at_top (halts word) q h = refl
over_at_top (unhandled class site condition) q h = refl
over_at_top exhausted q h = refl
over_at_top stuck q h = refl
over_at_top falls q h = absurd h
over_at_top (returns word) q h = absurd h
over_at_top (cuts n word) q h = absurd h

over_top : (q : MidOutcome) → IsOver q.end → at_top q ≡ q
unfolding at_top
over_top q h = over_at_top q.end q h

-- what the code of the start comes to, where the run ends
abbrev outermost : List Block → MidOutcome → MidOutcome
outermost bs q = at_top (leaves bs q)

over : (bs : List Block) (q : MidOutcome) (e : End) → q.end ≡ e → IsOver e → outermost bs q ≡ q
unfolding leaves
over bs q e same h =
    let here : IsOver q.end = subst (λ l. IsOver l) (sym same) h in
    let left_as : leaves bs q ≡ q = over_from q.end bs q here in
    ap (λ o. at_top o) left_as ∙ over_top q here

because_over : (setting : Setting) (r : FlatEvaluated) (e : End) → Because setting r e → IsOver e
because_over setting r falls h = absurd h
because_over setting r (returns word) h = absurd h
because_over setting r (cuts n word) h = absurd h
because_over setting r e h = tt

outermost_prefix : (bs : List Block) (q : MidOutcome) → IsPrefix q.state.printed (outermost bs q).state.printed
outermost_prefix bs q =
    let g : Grown q.state (outermost bs q).state = at_top_grown (leaves bs q) q.state (leaves_grown bs q q.state (same_grown q.state)) in
    record { rest = g.printed.0; is = sym g.printed.1 }

outermost_ends :
    (setting : Setting) (turns : ℕ) (z : FlatState) (y : MidState) (r : FlatEvaluated) (bs : List Block) (q : MidOutcome) → RunFrom setting turns z y r q
    → RunFrom setting turns z y r (outermost bs q)
outermost_ends setting turns z y r bs q (done x) = subst (λ o. RunFrom setting turns z y r o) (sym (over bs q _ x.end tt)) (done x)
outermost_ends setting turns z y r bs q (left_by x) = subst (λ o. RunFrom setting turns z y r o) (sym (over bs q _ x.end tt)) (left_by x)
outermost_ends setting turns z y r bs q (full_there x) =
    full_there (record { asked = x.asked; left_then = x.left_then; outcome = x.outcome; printed = both_prefix x.printed (outermost_prefix bs q) })
outermost_ends setting turns z y r bs q (stopped x) =
    subst (λ o. RunFrom setting turns z y r o) (sym (over bs q q.end refl (because_over setting r q.end x.because))) (stopped x)
outermost_ends setting turns z y r bs q (few_turns x) = few_turns x

-- ---- the start

-- one register and more, written out
record One (regs : Registers) : Type 0 where
  r0 : Option ℕ
  tail : Registers
  parts : regs ≡ r0 ∷ tail

one : (regs : Registers) → 1 ≤ length regs → One regs
one [] h = absurd (omega arith)
one (r0 ∷ tail) h = record { r0 = r0; tail = tail; parts = refl }

none_given : (count : ℕ) → length (first_registers count []) ≡ count
none_given count = length-replicate (count - 0) None ∙ omega arith

module _ (setting : Setting) (placed : IsPlaced setting) (input : List ℕ) (k : ℕ) (w : World) (y : MidState) (does : MainsDo setting k setting.turns_each)
    (b : ProgramBegins setting input w y) where
  abbrev z : FlatState
  z = at_start setting input

  abbrev r : FlatEvaluated
  r = meant_by setting input k

  abbrev p : MidProcedure
  p = start_of setting

  abbrev c : Context
  c = code_at setting k setting.turns_each

  grown : FlatGrown z r.state
  grown = mains_grown setting k setting.program.main nil z

  used : UsedAt setting.procedures (start_number setting.names setting.at setting.program) p
  used = used_at _ setting.procedures (start_number setting.names setting.at setting.program) p setting.frames ((main_numbers_law setting).start placed)

  abbrev pf : MidProcedure
  pf = framed p used.frame

  small : used.frame ≤ 2
  small = let within = used.within in let few = (start_steps_law setting).frame in omega (arith, within, few)

  -- ---- inside its frame

  module _ (some : used.frame ≤ left y.arena) where
    abbrev yi : MidState
    yi = entered pf y

    grows : Grows y.arena yi.arena
    grows = grows_with_new_block (frame_of pf) b.main.things.represents.arena some

    room_inside : (l : Limit) → RoomFor l start_words z.state y → RoomFor l main_reserve z.state yi
    room_inside unlimited h = tt
    room_inside (words m) h =
        let fewer = left_with_new_block (frame_of pf) b.main.things.represents.arena some in
        let low = small in
        omega (arith, h, fewer, low)

    begins : MainBegins setting main_reserve w z yi
    begins =
        begins_again setting start_words main_reserve b.main (words_inside setting pf b.main.things some) grows refl refl (room_inside setting.limit b.main.room)

    regs : One (first_registers p.registers [])
    regs = one (first_registers p.registers []) (let many = none_given p.registers in let first = (start_steps_law setting).registers in omega (arith, many, first))

    came : CameFrom setting z y z (mid_charged 6 yi)
    came = record { paid = omega arith; units = omega arith; same_size = grows.heap.size }

    body_ends : RunFrom setting setting.turns_each z y r (exec c (code_of p.body) (first_registers p.registers []) yi)
    body_ends =
        subst (λ g. RunFrom setting setting.turns_each z y r (exec c (code_of p.body) g yi)) (sym regs.parts)
        (subst (λ o. RunFrom setting setting.turns_each z y r o)
        (sym ((start_steps_law setting).begins c regs.r0 regs.tail (mains_steps setting (mains_from setting.names setting.at setting.program) setting.program.main) yi))
        (subst (λ n. RunFrom setting setting.turns_each z y r (exec c (mains_code setting n setting.program.main) (Some nil_word ∷ regs.tail) (mid_charged 6 yi))) first
        (mains_left_law setting k setting.turns_each 0 setting.program.main nil nil_word regs.tail w z z y (mid_charged 6 yi) does all came
        (begins_paid setting main_reserve 6 begins) refl)))
      where
        first : mains_from setting.names setting.at setting.program + 0 ≡ mains_from setting.names setting.at setting.program
        first = omega arith

        all : AreFrom setting 0 setting.program.main
        all i f e = let here : 0 + i ≡ i = omega arith in ap (λ j. slice_get setting.program.main j) here ∙ e

  -- ---- it is entered

  wanting : (l : Limit) → RoomFor l start_words z.state y → left y.arena < used.frame → RoomEnded setting l r.outcome
  wanting unlimited room few = tt
  wanting (words m) room few = let low = small in absurd (omega (arith, room, few, low))

  entered_ends : RunFrom setting setting.turns_each z y r (at_top (run_procedure c pf [] y))
  entered_ends = by (cases_lt (left y.arena) used.frame)
    where
      by : (left y.arena < used.frame) ⊎ (used.frame ≤ left y.arena) → RunFrom setting setting.turns_each z y r (at_top (run_procedure c pf [] y))
      by (inl few) =
          let q : MidOutcome = ends (no_room used.frame (left y.arena)) (first_registers p.registers []) (mid_charged 20 y) in
          let is : run_procedure c pf [] y ≡ q = without_room c pf [] y refl few in
          let top : at_top q ≡ q = over_top q tt in
          subst (λ o. RunFrom setting setting.turns_each z y r o) (sym (ap (λ o. at_top o) is ∙ top))
          (stopped (record {
            because = (wanting setting.limit b.main.room few, few);
            printed = subst (λ ps. IsPrefix ps r.state.state.printed) (sym b.main.things.represents.printed) grown.printed;
            paid = λ ended. omega (arith, grown.units);
          }))
      by (inr some) =
          subst (λ o. RunFrom setting setting.turns_each z y r (at_top o)) (sym (with_room c pf [] y refl some))
          (outermost_ends setting setting.turns_each z y r y.arena.blocks _ (body_ends some))

  run_is : run setting k y ≡ at_top (run_procedure c pf [] y)
  unfolding runs levels turns
  run_is = ap (λ o. at_top o) (some_found (λ (q : MidProcedure) rs x. levels setting.procedures setting.turns_each (suc k) (enter q []) x) [] y used.there)

  pub run_ends : RunEnds setting input k y
  run_ends = subst (λ q. RunFrom setting setting.turns_each z y r q) (sym run_is) entered_ends

-- **the run of the code**
pub runs_law : LawOfRuns
runs_law setting right input k w y does b = run_ends setting right.placed.placed input k w y does b
