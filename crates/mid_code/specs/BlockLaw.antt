-- The law of blocks: which blocks of the stack stand where code and procedures end, in any run. A control record and a procedure give
-- back all that was laid inside them, and nothing else.
use Rattle.std.specs.Prelude.{◌≡◌, ℕ, ◌+◌, Bool, true, false, List, [], ◌∷◌, ◌++◌, length}
use Rattle.mid_code.specs.declared.program.MidProcedure.{MidProcedure}
use Rattle.mid_code.specs.declared.program.MidProgram.{MidProgram}
use Rattle.mid_code.specs.MidCode.{MidStep, MidCode}
use Rattle.mid_code.specs.Arena.{Block, is_open}
use Rattle.mid_code.specs.State.{Registers, MidState, End, falls, returns, cuts, no_room, no_level, no_turn, halts, unhandled, exhausted, stuck, MidOutcome}
use Rattle.mid_code.specs.Meaning.{Task, enter, again, Context, context_of, exec, exec_step, turns, levels, runs}

-- an outer part of blocks: those that are left without some inner ones
pub record OuterPart (outer blocks : List Block) : Type 0 where
  pub inner : List Block
  pub parts : blocks ≡ inner ++ outer

-- whether the innermost block is an open control record
abbrev pub is_innermost_open : List Block → Bool
is_innermost_open [] = false
is_innermost_open (b ∷ bs) = is_open b.kind

-- The blocks after a cut to the block that has so many outside: that block, which is an open control record, and those outside it, as
-- they were before.
pub record CutBlocks (outside : ℕ) (before after : List Block) : Type 0 where
  pub part : OuterPart after before
  pub count : length after ≡ outside + 1
  pub innermost : is_innermost_open after ≡ true

-- The blocks where code ended, beside those at its start. Where it falls out they are the same, and where it returns, those at its start stand
-- outside. Where all ends, nothing is said.
abbrev pub CodeBlocks : End → (before after : List Block) → Type 0
CodeBlocks falls before after = after ≡ before
CodeBlocks (returns w) before after = OuterPart before after
CodeBlocks (cuts n w) before after = CutBlocks n before after
CodeBlocks (no_room asked left) before after = Unit {0}
CodeBlocks no_level before after = Unit {0}
CodeBlocks no_turn before after = Unit {0}
CodeBlocks (halts w) before after = Unit {0}
CodeBlocks (unhandled class site condition) before after = Unit {0}
CodeBlocks exhausted before after = Unit {0}
CodeBlocks stuck before after = Unit {0}

-- The blocks where a procedure ended, beside those at its entry. Where it returns they are the same; it does not fall out.
abbrev pub ProcedureBlocks : End → (before after : List Block) → Type 0
ProcedureBlocks falls before after = ⊥
ProcedureBlocks (returns w) before after = after ≡ before
ProcedureBlocks (cuts n w) before after = CutBlocks n before after
ProcedureBlocks (no_room asked left) before after = Unit {0}
ProcedureBlocks no_level before after = Unit {0}
ProcedureBlocks no_turn before after = Unit {0}
ProcedureBlocks (halts w) before after = Unit {0}
ProcedureBlocks (unhandled class site condition) before after = Unit {0}
ProcedureBlocks exhausted before after = Unit {0}
ProcedureBlocks stuck before after = Unit {0}

-- an outcome of code that started with these blocks
pub record CodeEnded (before : List Block) (r : MidOutcome) : Type 0 where
  pub blocks : CodeBlocks r.end before r.state.arena.blocks

-- an outcome of a procedure that was entered with these blocks
pub record ProcedureEnded (before : List Block) (r : MidOutcome) : Type 0 where
  pub blocks : ProcedureBlocks r.end before r.state.arena.blocks

-- an outcome of a task, which enters a procedure or goes on with a loop
abbrev pub TaskEnded : Task → (before : List Block) → MidOutcome → Type 0
TaskEnded (enter p arguments) before r = ProcedureEnded before r
TaskEnded (again s rs) before r = CodeEnded before r

-- the context in a run: so many levels below, with so many turns at each, and so many turns left at this one
abbrev pub context_in : List MidProcedure → (k turns_each n : ℕ) → Context
context_in procedures k turns_each n =
    context_of procedures (levels procedures turns_each k) (turns procedures (levels procedures turns_each k) n)

-- so it is for code, steps and tasks in any run, and for a run itself
pub record LawOfBlocks : Type 0 where
  pub of_code :
      (procedures : List MidProcedure) (k turns_each n : ℕ) (code : MidCode) (rs : Registers) (z : MidState)
      → CodeEnded z.arena.blocks (exec (context_in procedures k turns_each n) code rs z)
  pub of_steps :
      (procedures : List MidProcedure) (k turns_each n : ℕ) (s : MidStep) (rs : Registers) (z : MidState)
      → CodeEnded z.arena.blocks (exec_step (context_in procedures k turns_each n) s rs z)
  pub of_turns :
      (procedures : List MidProcedure) (k turns_each n : ℕ) (task : Task) (z : MidState)
      → TaskEnded task z.arena.blocks (turns procedures (levels procedures turns_each k) n task z)
  pub of_levels :
      (procedures : List MidProcedure) (k turns_each : ℕ) (task : Task) (z : MidState)
      → TaskEnded task z.arena.blocks (levels procedures turns_each k task z)
  pub of_runs :
      (program : MidProgram) (k turns_each entry : ℕ) (arguments : List ℕ) (z : MidState)
      → ProcedureEnded z.arena.blocks (runs program k turns_each entry arguments z)
