-- The turns of a tagbody: its segments run one after another inside a record, and a transfer to its exit begins another turn, one level below.
use Rattle.std.specs.Prelude.{◌≡◌, ⊤, ℕ, ◌+◌, ◌<◌, ◌≤◌, List, [], ◌∷◌, ◌++◌, Some, slice_get}
use Rattle.lang_meaning.specs.declared.scope.ExitForm.TheVariants.{Tagbody}
use Rattle.lang_meaning.specs.Meaning.{with_turns}
use Rattle.lang_meaning.specs.State.{DynamicContext, Exit}
use Rattle.lang_meaning.specs.Values.{nil}
use Rattle.flat_language.specs.FlatForm.{FlatForms, tagbody}
use Rattle.flat_language.specs.FlatMeaning.{from_segment, turned, mean_sequence}
use Rattle.flat_language.specs.FlatNodes.{count_forms}
use Rattle.flat_language.specs.FlatState.{FlatEnvironment, FlatState, FlatEvaluated}
use Rattle.mid_code.specs.declared.operation.Arithmetic.TheVariants as which
use Rattle.mid_code.specs.declared.operation.Comparison.TheVariants.{Different}
use Rattle.mid_code.specs.declared.operation.Counted.TheVariants.{Level, Turn}
use Rattle.mid_code.specs.Meaning.{exec_step}
use Rattle.mid_code.specs.MidCode.{MidStep, MidCodes, repeat, switch, with_block, code_of}
use Rattle.mid_code.specs.State.{Registers, register, MidState}
use Rattle.back_lowering.specs.Codes.{lower_segments}
use Rattle.back_lowering.specs.ControlWords.{link_address, landing_address, record_serial, record_link, record_words, exit_kind}
use Rattle.back_lowering.specs.Records.{record_laid, record_left, record_landed}
use Rattle.back_lowering.specs.Steps.{Steps, constant, compute, load, store, test_of}
use Rattle.back_relation.specs.Setting.{Setting}
use Rattle.back_relation.specs.Worlds.{World, Standing}
use Rattle.back_relation.specs.Activation.{FormScope, with_exit}
use Rattle.back_relation.specs.Room.{words_for}
use Rattle.back_relation.specs.Forms.{Begins, FormStands, HasRegisters, value_code, context_at, code_at}
use Rattle.back_relation.specs.Points.{Point, start_at}
use Rattle.back_relation.specs.Starts.{LoopEnds}

-- ---- the code

-- the segments from the one on whose number is in d + 6, until there is none
abbrev pub segments_loop : (d segments : ℕ) → (bodies : MidCodes) → MidStep
segments_loop d segments bodies =
    repeat Turn
    (code_of (switch (d + 6) bodies
    ∷ constant (d + 7) 1 ∷ compute (d + 6) which.Add (d + 6) (d + 7) ∷ constant (d + 7) segments ∷ []))
    (test_of Different (d + 6) (d + 7)) (code_of [])

-- the record of a turn, with the serial number that is in d
abbrev pub turn_laid : (d : ℕ) → Steps
turn_laid d =
    record_laid (d + 1) (d + 7) exit_kind
    ++ (store d (d + 1) record_serial ∷ store (d + 3) (d + 1) record_link ∷ store (d + 1) (d + 7) link_address ∷ [])

abbrev pub turn_landed : (d : ℕ) → Steps
turn_landed d = record_landed (d + 1) (d + 8) ++ (load (d + 6) (d + 8) landing_address ∷ [])

abbrev pub turn_step : (d segments : ℕ) → (bodies : MidCodes) → MidStep
turn_step d segments bodies =
    with_block (d + 1) record_words (d + 7)
    (code_of (turn_laid d ++ (segments_loop d segments bodies ∷ record_left (d + 1) (d + 7))))
    (code_of (turn_landed d))

-- the loop of turns, each of which begins one level below the one before
abbrev pub turns_loop : (d segments : ℕ) → (bodies : MidCodes) → MidStep
turns_loop d segments bodies =
    repeat Level (code_of (turn_step d segments bodies ∷ constant (d + 7) segments ∷ [])) (test_of Different (d + 6) (d + 7)) (code_of [])

-- ---- what is shown of it

-- an exit is newer than those around
abbrev pub IsNewest : ℕ → List Exit → Type 0
IsNewest e [] = ⊤
IsNewest e (x ∷ xs) = x.number < e

-- A turn begins: the tagbody's exit was made, and its number is in d; that of the segment is in d + 6.
pub record TurnBegins (d segments e i : ℕ) (w : World) (env : FlatEnvironment) (around : DynamicContext) (z : FlatState) (regs : Registers) : Type 0 where
  pub serial : register d regs ≡ Some e
  pub segment : register (d + 6) regs ≡ Some i
  pub there : i < segments
  pub some : 1 ≤ e
  pub made : e < z.state.exits
  pub form : slice_get w.exit_forms e ≡ Some (Some (Tagbody segments))
  pub newest : IsNewest e around.exits
  pub elder : (n x : ℕ) → slice_get env.exits n ≡ Some x → e ≡ x → ⊥

-- the environment inside
abbrev pub with_own : ℕ → FlatEnvironment → FlatEnvironment
with_own e env = record env { exits = env.exits ++ e ∷ [] }

-- what a turn may cost beside its units: it is within what the transfer put aside that began it
abbrev pub turn_credit : ℕ
turn_credit = 186

module _ (setting : Setting) where
  -- the scope of the segments, and their code
  abbrev pub inside_scope : (s : FormScope) (d : ℕ) → FlatForms → FormScope
  inside_scope s d all = with_exit (Tagbody (count_forms all)) d (d + 1) s

  abbrev pub segment_codes : (s : FormScope) (d : ℕ) → FlatForms → MidCodes
  segment_codes s d all = lower_segments setting.names setting.at setting.program (inside_scope s d all).code (d + 7) all

  -- what a turn means, from a segment on
  abbrev pub turn_meant : (k : ℕ) → FlatForms → (e i : ℕ) → FlatEnvironment → DynamicContext → FlatState → FlatEvaluated
  turn_meant k all e i env around z =
      turned (context_at setting k) e all (with_own e env) around
      (mean_sequence (context_at setting k) nil (from_segment i all) (with_own e env) (with_turns e around) z)

  -- at all points of a scope, the code of turns does what they mean
  abbrev pub TurnsHere : (s : FormScope) (d m size k turns : ℕ) → FlatForms → Type 0
  TurnsHere s d m size k turns all =
      (p : Point setting s d m size) (e i : ℕ) → TurnBegins d (count_forms all) e i p.w p.env p.around p.z p.regs
      → LoopEnds setting turn_credit (start_at setting s d m size turns p) (turn_meant k all e i p.env p.around p.z)
      (exec_step (code_at setting k turns) (turns_loop d (count_forms all) (segment_codes s d all)) p.regs p.y)

  -- **the turns of a tagbody**, wherever it stands
  abbrev pub TurnsDo : (k turns : ℕ) → FlatForms → Type 0
  TurnsDo k turns all =
      (rs valid : List Standing) (s : FormScope) (d n first : ℕ) (w : World) (env : FlatEnvironment) (around : DynamicContext) (z : FlatState) (regs : Registers) (y : MidState)
      → FormStands setting s first (tagbody all) → (begins : Begins setting rs valid s d n w env around z regs y)
      → HasRegisters (value_code setting s d (tagbody all)) regs → words_for setting.names setting.program (tagbody all) ≤ n
      → (e i : ℕ) → TurnBegins d (count_forms all) e i w env around z regs
      → LoopEnds setting turn_credit
      (record { turns = turns; rs = rs; valid = valid; s = s; d = d; n = n; w = w; env = env; around = around; z = z; regs = regs; y = y; begins = begins })
      (turn_meant k all e i env around z)
      (exec_step (code_at setting k turns) (turns_loop d (count_forms all) (segment_codes s d all)) regs y)
