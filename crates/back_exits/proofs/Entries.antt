-- How a routine is entered: its procedure by its number, with the frame that is used, and its body.
use Rattle.std.proofs.Common.{◌≡◌, ℕ, zero, suc, ◌+◌, ◌<◌, ◌≤◌, Bool, true, false, List, [], ◌∷◌, ◌++◌, length, map, Some, refl, sym, ap, ◌∙◌, subst, arith}
use Rattle.std.specs.Prelude.{slice_get, nat_le, max}
use Rattle.std.proofs.lemmas.Bool.Decides.{nat_tests}
use Rattle.std.proofs.lemmas.List.{length-map}
use Rattle.base.specs.Names.{slice_get-front}
use Rattle.lang_meaning.specs.State.{DynamicContext, Outcome, Limit, words, unlimited}
use Rattle.lang_meaning.specs.Prefixes.{IsPrefix}
use Rattle.lang_meaning.specs.model.ShapeCode.{primitive_at}
use Rattle.mid_arena.specs.Codes.{procedure_of}
use Rattle.flat_language.specs.declared.program.FlatProcedure.{FlatProcedure}
use Rattle.flat_language.specs.declared.program.FlatProgram.{FlatProgram}
use Rattle.flat_language.specs.FlatState.{FlatState, FlatEvaluated}
use Rattle.mid_code.specs.declared.operation.Counted.TheVariants.{Turn}
use Rattle.mid_code.specs.declared.program.MidProcedure.{MidProcedure}
use Rattle.mid_code.specs.Arena.{activation_frame, left, with_new_block}
use Rattle.mid_code.specs.Costs.{entry_cost}
use Rattle.mid_code.specs.Meaning.{levels, exec, leaves}
use Rattle.mid_code.specs.Meaning.{turns as mid_turns}
use Rattle.mid_code.specs.MidCode.{code_of}
use Rattle.mid_code.specs.State.{Registers, first_registers, no_room, no_turn, ends, with_arena, MidState, MidOutcome}
use Rattle.mid_code.specs.State.{charged as mid_charged}
use Rattle.mid_arena.proofs.Running.{some_found, enters, enters_wanting}
use Rattle.back_lowering.specs.Placement.{routines_from, primitive_count}
use Rattle.back_lowering.specs.declared.placement.Placement.{Placement}
use Rattle.back_lowering.specs.Program.{procedure_with, entries_from, lambda_entries_from, bodies_from, lambda_bodies, primitives, routines, main_form, start, lowered, body_of, itself, numbers_below, framed}
use Rattle.back_lowering.specs.Registers.{of_code, enough_for, frame_for}
use Rattle.back_lowering.specs.Steps.{Steps}
use Rattle.back_relation.specs.Setting.{Setting, FramesWithin}
use Rattle.back_relation.specs.Placed.{IsPlaced}
use Rattle.back_relation.specs.Worlds.{World, Standing}
use Rattle.back_relation.specs.Things.{WithinLimit}
use Rattle.back_relation.specs.Around.{RoomFor}
use Rattle.back_relation.specs.Ends.{RoomEnded, CallEnds, stopped, few_turns}
use Rattle.back_relation.specs.Forms.{code_at}
use Rattle.back_relation.specs.Procedures.{called}
use Rattle.back_relation.specs.Starts.{FlatGrown}

get_behind : {X : Type 0} (xs ys : List X) (i j : ℕ) → j ≡ length xs + i → slice_get (xs ++ ys) j ≡ slice_get ys i
get_behind [] ys i j e = let same : j ≡ i = omega (arith, e) in ap (slice_get ys) same
get_behind (x ∷ xs) ys i zero e = absurd (omega (arith, e))
get_behind (x ∷ xs) ys i (suc j) e = get_behind xs ys i j (omega (arith, e))

-- a procedure that is given is used with a frame that is no larger
pub record UsedAt (procedures : List MidProcedure) (number : ℕ) (given : MidProcedure) : Type 0 where
  pub frame : ℕ
  pub there : slice_get procedures number ≡ Some (framed frame given)
  pub fewer : frame ≤ given.frame

used_in : (gs ps : List MidProcedure) → FramesWithin gs ps → (i : ℕ) (g : MidProcedure) → slice_get gs i ≡ Some g → UsedAt ps i g
used_in [] ps h i g e = absurd (cc e)
used_in (x ∷ gs) [] h i g e = absurd h
used_in (x ∷ gs) (p ∷ ps) h zero g e =
    let same : x ≡ g = cc e in
    subst (λ q. UsedAt (p ∷ ps) 0 q) same (record { frame = p.frame; there = ap (λ q. Some q) h.0.same; fewer = h.0.frame })
used_in (x ∷ gs) (p ∷ ps) h (suc i) g e =
    let u = used_in gs ps h.1 i g e in record { frame = u.frame; there = u.there; fewer = u.fewer }

module _ (names : List (List ℕ)) (at : Placement) (program : FlatProgram) where
  entry_count : (p : ℕ) (qs : List FlatProcedure) → length (entries_from names at program p qs) ≡ length qs
  entry_count p [] = refl
  entry_count p (q ∷ qs) = let rest = entry_count (p + 1) qs in omega (arith, rest)

  lambda_count : (p : ℕ) (qs : List FlatProcedure) → length (lambda_entries_from names at program p qs) ≡ length qs
  lambda_count p [] = refl
  lambda_count p (q ∷ qs) = let rest = lambda_count (p + 1) qs in omega (arith, rest)

  body_count : (p : ℕ) (qs : List FlatProcedure) → length (bodies_from names at program p qs) ≡ length qs
  body_count p [] = refl
  body_count p (q ∷ qs) = let rest = body_count (p + 1) qs in omega (arith, rest)

  lambda_body_count : (qs : List FlatProcedure) → length (lambda_bodies names at program qs) ≡ length qs
  lambda_body_count qs = length-map qs (body_of names at program itself)

  primitives_counted : length (primitives names at program) ≡ primitive_count
  primitives_counted = length-map (numbers_below names at program primitive_count) (λ n. procedure_of (primitive_at n))

  -- a routine by its number
  routine_in : at.procedures ≡ length program.procedures → at.lambdas ≡ length program.lambdas → (i : ℕ) (p : MidProcedure) → slice_get (routines names at program) i ≡ Some p
      → slice_get (lowered names at program) (routines_from at + i) ≡ Some p
  unfolding lowered
  routine_in e f i p h =
      let a = entry_count 0 program.procedures in
      let b = lambda_count (length program.procedures) program.lambdas in
      let c = body_count 0 program.procedures in
      let d = lambda_body_count program.lambdas in
      let all = primitives_counted in
      get_behind (entries_from names at program 0 program.procedures) _ (length program.lambdas + (length program.procedures + (length program.lambdas + (primitive_count + i)))) (routines_from at + i) (omega (arith, a, e, f))
      ∙ get_behind (lambda_entries_from names at program (length program.procedures) program.lambdas) _ (length program.procedures + (length program.lambdas + (primitive_count + i))) (length program.lambdas + (length program.procedures + (length program.lambdas + (primitive_count + i)))) (omega (arith, b))
      ∙ get_behind (bodies_from names at program 0 program.procedures) _ (length program.lambdas + (primitive_count + i)) (length program.procedures + (length program.lambdas + (primitive_count + i))) (omega (arith, c))
      ∙ get_behind (lambda_bodies names at program program.lambdas) _ (primitive_count + i) (length program.lambdas + (primitive_count + i)) (omega (arith, d))
      ∙ get_behind (primitives names at program) (routines names at program ++ (map (main_form names at program) program.main ++ (start names at program ∷ []))) i (primitive_count + i) (omega (arith, all))
      ∙ slice_get-front (routines names at program) (map (main_form names at program) program.main ++ (start names at program ∷ [])) i p h

module _ (setting : Setting) where
  pub routine_used : IsPlaced setting → (i : ℕ) (p : MidProcedure) → slice_get (routines setting.names setting.at setting.program) i ≡ Some p
      → UsedAt setting.procedures (routines_from setting.at + i) p
  routine_used placed i p h =
      used_in (lowered setting.names setting.at setting.program) setting.procedures setting.frames (routines_from setting.at + i) p
      (routine_in setting.names setting.at setting.program placed.procedures placed.lambdas i p h)

  -- the registers of a routine, and the state where its frame was laid
  abbrev pub routine_registers : (parameters : ℕ) → Steps → List ℕ → Registers
  routine_registers m code ws = first_registers (max m (enough_for (of_code (code_of code)))) ws

  abbrev pub routine_frame : Steps → ℕ
  routine_frame code = frame_for (of_code (code_of code))

  abbrev pub laid_frame : (frame parameters : ℕ) → MidState → MidState
  laid_frame f m y = with_arena (with_new_block (record { words = f; kind = activation_frame }) y.arena) (mid_charged (entry_cost m) y)

  module _ (k number f m : ℕ) (code : Steps) (used : UsedAt setting.procedures number (framed f (procedure_with Turn m code))) (ws : List ℕ) (many : length ws ≡ m) (y : MidState) where
    abbrev run_of : ℕ → MidOutcome
    run_of t = called (code_at setting k t) number ws y

    no_turns : run_of 0 ≡ ends no_turn [] y
    unfolding mid_turns
    no_turns = some_found _ [] y used.there

    wanting : (n : ℕ) → left y.arena < used.frame
        → run_of (suc n) ≡ ends (no_room used.frame (left y.arena)) (routine_registers m code ws) (mid_charged (entry_cost m) y)
    wanting n h =
        some_found _ [] y used.there
        ∙ (enters_wanting {procedures = setting.procedures} {below = levels setting.procedures setting.turns_each k} {n = n} {p = framed used.frame (procedure_with Turn m code)} {ws = ws} {z = y} many h).same

    body : (n : ℕ) → used.frame ≤ left y.arena
        → run_of (suc n) ≡ leaves y.arena.blocks (exec (code_at setting k n) (code_of code) (routine_registers m code ws) (laid_frame used.frame m y))
    body n h =
        some_found _ [] y used.there
        ∙ (enters {procedures = setting.procedures} {below = levels setting.procedures setting.turns_each k} {n = n} {p = framed used.frame (procedure_with Turn m code)} {ws = ws} {z = y} many h (record { same = refl })).same

    -- there is room, or the code has less than the meaning
    room_ended : (l : Limit) (z : FlatState) (n : ℕ) (o : Outcome) → RoomFor l n z.state y → WithinLimit l z.state → used.frame ≤ n → left y.arena < used.frame → RoomEnded setting l o
    room_ended unlimited z n o room within few h = tt
    room_ended (words limit) z n o room within few h = absurd (omega (arith, room, within, few, h))

    -- **a routine is entered**: its body runs with the turn taken, in a frame of its own
    pub routine_enters :
        (turns : ℕ) {credit spare n : ℕ} {rs valid : List Standing} {w : World} {around : DynamicContext} {z : FlatState} {r : FlatEvaluated}
        → y.printed ≡ z.state.printed → FlatGrown z r.state → spare ≤ length y.arena.memory → RoomFor setting.limit n z.state y → WithinLimit setting.limit z.state
        → f ≤ n → entry_cost m ≤ credit
        → ((t : ℕ) → turns ≡ suc t → used.frame ≤ left y.arena
        → CallEnds setting credit (turns + spare) rs valid w around z y r
        (leaves y.arena.blocks (exec (code_at setting k t) (code_of code) (routine_registers m code ws) (laid_frame used.frame m y))))
        → CallEnds setting credit (turns + spare) rs valid w around z y r (run_of turns)
    routine_enters zero {z = z} {r = r} printed grown few room within fits cheap h =
        few_turns (omega (arith, few, grown.units))
    routine_enters (suc t) {credit = credit} {spare = spare} {n = n} {rs = rs} {valid = valid} {w = w} {around = around} {z = z} {r = r} printed grown few room within fits cheap h =
        by (nat_le used.frame (left y.arena)) refl
      where
        by : (b : Bool) → nat_le used.frame (left y.arena) ≡ b → CallEnds setting credit (suc t + spare) rs valid w around z y r (run_of (suc t))
        by true e =
            let there : used.frame ≤ left y.arena = grind (arith, nat_tests) in
            subst (λ q. CallEnds setting credit (suc t + spare) rs valid w around z y r q) (sym (body t there)) (h t refl there)
        by false e =
            let wants : left y.arena < used.frame = grind (arith, nat_tests) in
            subst (λ q. CallEnds setting credit (suc t + spare) rs valid w around z y r q) (sym (wanting t wants))
            (stopped (record {
              because = (room_ended setting.limit z n r.outcome room within (omega (arith, used.fewer, fits)) wants, wants);
              printed = subst (λ (p : List ℕ). IsPrefix p r.state.state.printed) (sym printed) grown.printed;
              paid = λ ended. omega (arith, cheap, grown.units);
            }))
