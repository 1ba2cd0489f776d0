-- What lines do with registers, and where they go.
use Rattle.std.specs.Prelude.{ℕ, ◌+◌, Bool, true, false, List, [], ◌∷◌, ◌++◌, slice_index_or, Option, Some, None}
use Rattle.mid_code.specs.declared.operation.Operation.{Operation}
use Rattle.mid_code.specs.declared.operation.Operation.TheVariants as operation
use Rattle.mid_lines.specs.declared.line.Line.{Line}
use Rattle.mid_lines.specs.declared.line.Line.TheVariants.{Do, Branch, Switch, Jump, Lay, Landed, GiveBack, Lend, GiveBackLent, Return, Cut, Halt, Unhandled}
use Rattle.back_places.specs.Places.{StaticRecord, with_landing, only_lent}
use Rattle.back_places.specs.Facts.{callee_registers}
use Rattle.back_liveness.specs.declared.step.Step.{Step}

-- the landings of records
abbrev pub landings_of : List StaticRecord → List ℕ
landings_of [] = []
landings_of (with_landing words landing ∷ records) = landing ∷ landings_of records
landings_of (only_lent ∷ records) = landings_of records

-- the registers that an operation, and a line, reads
abbrev pub operation_reads : Operation → List ℕ
operation_reads (operation.Move to from) = from ∷ []
operation_reads (operation.Constant to word) = []
operation_reads (operation.Compute to which first second) = first ∷ second ∷ []
operation_reads (operation.Load to base offset) = base ∷ []
operation_reads (operation.Store from base offset) = from ∷ base ∷ []
operation_reads (operation.Request to words) = words ∷ []
operation_reads (operation.Draw to base offset) = base ∷ []
operation_reads (operation.Put from) = from ∷ []
operation_reads (operation.Get to) = []
operation_reads (operation.Call to callee arguments) = arguments ++ callee_registers callee

abbrev pub line_reads : Line → List ℕ
line_reads (Do o) = operation_reads o
line_reads (Branch t otherwise) = t.first ∷ t.second ∷ []
line_reads (Switch r targets) = r ∷ []
line_reads (Jump to) = []
line_reads (Lay block words landing) = []
line_reads (Landed r) = []
line_reads (GiveBack words) = []
line_reads (Lend block words) = words ∷ []
line_reads GiveBackLent = []
line_reads (Return r) = r ∷ []
line_reads (Cut block word) = block ∷ word ∷ []
line_reads (Halt r) = r ∷ []
line_reads (Unhandled class site condition) = class ∷ site ∷ condition ∷ []

-- the register to which it gives a word
abbrev pub operation_gives : Operation → Option ℕ
operation_gives (operation.Move to from) = Some to
operation_gives (operation.Constant to word) = Some to
operation_gives (operation.Compute to which first second) = Some to
operation_gives (operation.Load to base offset) = Some to
operation_gives (operation.Store from base offset) = None
operation_gives (operation.Request to words) = Some to
operation_gives (operation.Draw to base offset) = Some to
operation_gives (operation.Put from) = None
operation_gives (operation.Get to) = Some to
operation_gives (operation.Call to callee arguments) = Some to

abbrev pub line_gives : Line → Option ℕ
line_gives (Do o) = operation_gives o
line_gives (Lay block words landing) = Some block
line_gives (Landed r) = Some r
line_gives (Lend block words) = Some block
line_gives x = None

-- whether it goes on to the next line
abbrev pub line_falls : Line → Bool
line_falls (Switch r targets) = false
line_falls (Jump to) = false
line_falls (Return r) = false
line_falls (Cut block word) = false
line_falls (Halt r) = false
line_falls (Unhandled class site condition) = false
line_falls x = true

-- The other lines to which it goes, where the records that stand at it have these landings: a call may end in a cut to any of them, as a
-- cut may.
abbrev pub operation_aside : (landings : List ℕ) → Operation → List ℕ
operation_aside landings (operation.Call to callee arguments) = landings
operation_aside landings o = []

abbrev pub line_aside : (landings : List ℕ) → Line → List ℕ
line_aside landings (Do o) = operation_aside landings o
line_aside landings (Branch t otherwise) = otherwise ∷ []
line_aside landings (Switch r targets) = targets
line_aside landings (Jump to) = to ∷ []
line_aside landings (Cut block word) = landings
line_aside landings x = []

abbrev pub step_of : (landings : List ℕ) → Line → Step
step_of landings x = record { reads = line_reads x; written = line_gives x; falls = line_falls x; aside = line_aside landings x }

-- the last lines, from one on
abbrev pub steps_from : (landings : ℕ → List ℕ) → (line : ℕ) → List Line → List Step
steps_from landings line [] = []
steps_from landings line (x ∷ lines) = step_of (landings line) x ∷ steps_from landings (line + 1) lines

-- the landings that a list gives for a line; none where it is shorter
abbrev pub landings_in : List (List ℕ) → (line : ℕ) → List ℕ
landings_in table line = slice_index_or table line []
