-- The procedure of a primitive does what its code does.
use Rattle.std.proofs.Common.{◌≡◌, ℕ, suc, ◌+◌, ◌*◌, ◌<◌, ◌≤◌, List, length, refl, ◌∙◌, ⊎_elim, arith}
use Rattle.std.proofs.lemmas.Bool.{cases_lt}
use Rattle.lang_meaning.specs.declared.program.ProgramRows.{ProgramRows}
use Rattle.lang_meaning.specs.declared.primitive.Primitive.{Primitive}
use Rattle.lang_meaning.specs.Arity.{arity}
use Rattle.lang_meaning.specs.Values.{Value}
use Rattle.lang_meaning.specs.State as meaning
use Rattle.lang_meaning.specs.Primitives.{Answer, primitive}
use Rattle.mid_code.specs.declared.program.MidProcedure.{MidProcedure}
use Rattle.mid_code.specs.Arena.{left}
use Rattle.mid_code.specs.MidCode.{code_of}
use Rattle.mid_code.specs.State.{MidState, MidOutcome, first_registers}
use Rattle.mid_code.specs.Meaning.{Task, enter, turns}
use Rattle.mid_arena.specs.Places.{Places, WordsOf}
use Rattle.mid_arena.specs.Represents.{Represents}
use Rattle.mid_arena.specs.Answers.{units_after, DoesPrimitive, IsPrimitive}
use Rattle.mid_arena.specs.Codes.{code_of_primitive, registers, procedure_in}
use Rattle.mid_arena.proofs.Running.{entered, frame_of, enters, enters_wanting}
use Rattle.mid_arena.proofs.Growing.{grows_same}
use Rattle.mid_arena.proofs.Representing.{represents_grown}
use Rattle.mid_arena.proofs.Doing.{paid, Run}
use Rattle.mid_arena.proofs.Leaving.{leaves_cost, represents_frame, comes_with_frame, comes_without_frame}
use Rattle.mid_arena.proofs.Keeping.{as_many_words}

-- whatever the frame is with which a procedure is used, it does what the primitive does
abbrev pub InEveryFrame : Primitive → Type 0
InEveryFrame which = (frame : ℕ) → IsPrimitive which (procedure_in which frame)

-- In a represented state where the frame of a primitive is laid and its entry is paid, its code comes to the primitive's answer, within what
-- is left of 150 and 250 for each argument.
pub does_by_code :
    (names : List (List ℕ)) (program : ProgramRows) (places : Places) (z : meaning.State) (y : MidState) (procedures : List MidProcedure)
    (below : Task → MidState → MidOutcome) (n : ℕ) (which : Primitive) (frame : ℕ) (vs : List Value) (ws : List ℕ)
    → Represents names program places z y → WordsOf places vs ws → length vs ≡ arity which
    → ((y' : MidState) → Represents names program places z y'
    → Run names program places z y' procedures below n (y'.cost + 130 + 244 * arity which) (primitive names program which vs z)
    (code_of (code_of_primitive which)) (first_registers registers ws) y'.cost)
    → DoesPrimitive names program which (procedure_in which frame) places z y vs (turns procedures below (suc n) (enter (procedure_in which frame) ws) y)
does_by_code names program places z y procedures below n which frame vs ws r are count code =
    ⊎_elim without (λ some. with_room some (code (entered (procedure_in which frame) y) (represents_frame names program places z y r (frame_of (procedure_in which frame)) _ some)))
    (cases_lt (left y.arena) frame)
  where
    many : length ws ≡ arity which
    many = as_many_words places vs ws are ∙ count

    answer : Answer
    answer = primitive names program which vs z

    -- the units behind the answer, as the code says that begins where nothing was paid
    units : 250 * z.units ≤ 130 + 244 * arity which + 250 * units_after names program answer
    units =
        let run = code (paid y 0) (represents_grown names program places z y r (paid y 0) (grows_same y.arena r.arena).heap refl refl) in
        omega (arith, run.answers.cost)

    without : left y.arena < frame → DoesPrimitive names program which (procedure_in which frame) places z y vs (turns procedures below (suc n) (enter (procedure_in which frame) ws) y)
    without few =
        rw (enters_wanting {procedures = procedures} {below = below} {n = n} {p = procedure_in which frame} {ws = ws} {z = y} many few).same (record {
          comes = comes_without_frame names program places z y _ frame answer _ r few;
          cost = omega (arith, units);
        })

    with_room :
        frame ≤ left y.arena
        → Run names program places z (entered (procedure_in which frame) y) procedures below n ((entered (procedure_in which frame) y).cost + 130 + 244 * arity which) answer
        (code_of (code_of_primitive which)) (first_registers registers ws) (entered (procedure_in which frame) y).cost
        → DoesPrimitive names program which (procedure_in which frame) places z y vs (turns procedures below (suc n) (enter (procedure_in which frame) ws) y)
    with_room some run =
        rw (enters {p = procedure_in which frame} {z = y} many some run.runs).same (record {
          comes = comes_with_frame names program places z y r (frame_of (procedure_in which frame)) _ some run.outcome answer run.answers.comes;
          cost = omega (arith, leaves_cost y.arena.blocks run.outcome, run.answers.cost);
        })
