-- What is shown of forms whose parts do what they mean.
use Rattle.std.specs.Prelude.{◌≡◌, ⊤, ℕ, suc, ◌+◌, ◌<◌, ◌≤◌, Bool, true, false, Option, Some, None, slice_get}
use Rattle.lang_meaning.specs.declared.program.FunctionRow.{FunctionRow}
use Rattle.lang_meaning.specs.declared.program.LiteralRow.{LiteralRow}
use Rattle.lang_meaning.specs.declared.program.LiteralRow.TheVariants as row
use Rattle.lang_meaning.specs.Literals.{function_row}
use Rattle.lang_meaning.specs.Lookup.{text}
use Rattle.flat_language.specs.declared.place.Home.TheVariants as home
use Rattle.flat_language.specs.declared.place.VariablePlace.TheVariants.{Slot}
use Rattle.flat_language.specs.FlatForm.{FlatForm, literal, local, while_form, clauses, sequence, FlatForms, no_form, form_and, FlatClauses, no_clause, clause_and, FlatBody, no_body, with_body}
use Rattle.back_lowering.specs.Codes.{lower, by_value, known_truth}
use Rattle.back_lowering.specs.Steps.{Steps}
use Rattle.back_relation.specs.Setting.{Setting}
use Rattle.back_relation.specs.Activation.{FormScope}
use Rattle.back_relation.specs.Forms.{DoesForm, JudgesForm, context_at, code_at}
use Rattle.back_relation.specs.Points.{Here, AllHere, JudgedHere, LoopHere}

-- a literal that is data, a class, or the function of a name that has one
abbrev pub IsKnown : Setting → LiteralRow → Type 0
IsKnown setting (row.Function name) = (f : FunctionRow) × (function_row setting.names setting.program.functions (text setting.names name.0) ≡ Some f)
IsKnown setting l = ⊤

abbrev pub LawOfLiterals : Type 0
LawOfLiterals =
    (setting : Setting) (s : FormScope) (d m size k turns i : ℕ) (l : LiteralRow) → slice_get setting.program.literals i ≡ Some l → IsKnown setting l
    → Here setting s d m size k turns (literal i)

-- a variable in a slot
abbrev pub LawOfSlots : Type 0
LawOfSlots =
    (setting : Setting) (s : FormScope) (d m size k turns i : ℕ) → slice_get s.flat.homes i ≡ Some home.Slot
    → Here setting s d m size k turns (local (Slot i))

-- forms in order
abbrev pub LawOfSequences : Type 0
LawOfSequences =
    (setting : Setting) (s : FormScope) (d m size k turns : ℕ) (fs : FlatForms) → AllHere setting s d m size k turns fs
    → Here setting s d m size k turns (sequence fs)

-- a loop, where it does what it means one level below
abbrev pub LawOfLoops : Type 0
LawOfLoops =
    (setting : Setting) (s : FormScope) (d m size k turns : ℕ) (t body : FlatForm) → turns ≤ setting.turns_each
    → JudgedHere setting s d m size k turns t → Here setting s d m size k turns body
    → ((j : ℕ) → k ≡ suc j → LoopHere setting s d m size j setting.turns_each t body)
    → LoopHere setting s d m size k turns t body

-- each of these forms does what it means, wherever it stands
abbrev pub AllDo : Setting → (k turns : ℕ) → FlatForms → Type 0
AllDo setting k turns no_form = ⊤
AllDo setting k turns (form_and f fs) = DoesForm setting turns (context_at setting k) (code_at setting k turns) f × AllDo setting k turns fs

-- then they do in order
abbrev pub LawOfWholeSequences : Type 0
LawOfWholeSequences =
    (setting : Setting) (k turns : ℕ) (fs : FlatForms) → AllDo setting k turns fs
    → DoesForm setting turns (context_at setting k) (code_at setting k turns) (sequence fs)

-- a form that is judged by its value is judged so
abbrev pub LawOfJudging : Type 0
LawOfJudging =
    (setting : Setting) (s : FormScope) (d m size k turns : ℕ) (f : FlatForm) (steps : Steps) → d + 1 < size
    → lower setting.names setting.at setting.program s.code d f ≡ by_value d steps → Here setting s d m size k turns f
    → JudgedHere setting s d m size k turns f

-- A clause's test is judged, or its value is there where the clause has no body, with a register more; its body does what it means, and so
-- do the others behind it. Where the test is known, only what is not left out does.
abbrev pub ClauseHere :
    (setting : Setting) (s : FormScope) (d m size k turns : ℕ) → (known : Option Bool) → (test : FlatForm) → FlatBody → (Others : Type 0) → Type 0
ClauseHere setting s d m size k turns (Some true) test no_body Others = Here setting s d m size k turns test
ClauseHere setting s d m size k turns (Some true) test (with_body f) Others = Here setting s d m size k turns f
ClauseHere setting s d m size k turns (Some false) test body Others = Others
ClauseHere setting s d m size k turns None test no_body Others = (d + 1 < size) × Here setting s d m size k turns test × Others
ClauseHere setting s d m size k turns None test (with_body f) Others =
    JudgedHere setting s d m size k turns test × Here setting s d m size k turns f × Others

abbrev pub ClausesHere : (setting : Setting) (s : FormScope) (d m size k turns : ℕ) → FlatClauses → Type 0
ClausesHere setting s d m size k turns no_clause = ⊤
ClausesHere setting s d m size k turns (clause_and test body cs) =
    ClauseHere setting s d m size k turns (known_truth setting.at setting.program.literals test) test body (ClausesHere setting s d m size k turns cs)

-- the first clause whose test is true
abbrev pub LawOfClauses : Type 0
LawOfClauses =
    (setting : Setting) (s : FormScope) (d m size k turns : ℕ) (cs : FlatClauses) → ClausesHere setting s d m size k turns cs
    → Here setting s d m size k turns (clauses cs)

-- and so does the form of the loop
abbrev pub LawOfWhiles : Type 0
LawOfWhiles =
    (setting : Setting) (s : FormScope) (d m size k turns : ℕ) (t body : FlatForm) → turns ≤ setting.turns_each
    → JudgedHere setting s d m size k turns t → Here setting s d m size k turns body
    → ((j : ℕ) → k ≡ suc j → LoopHere setting s d m size j setting.turns_each t body)
    → Here setting s d m size k turns (while_form t body)

-- the test of each clause is judged, or does what it means where the clause has no body, and so does each body, wherever they stand
abbrev pub ClausesDo : Setting → (k turns : ℕ) → FlatClauses → Type 0
ClausesDo setting k turns no_clause = ⊤
ClausesDo setting k turns (clause_and test no_body cs) = DoesForm setting turns (context_at setting k) (code_at setting k turns) test × ClausesDo setting k turns cs
ClausesDo setting k turns (clause_and test (with_body f) cs) =
    JudgesForm setting turns (context_at setting k) (code_at setting k turns) test
    × DoesForm setting turns (context_at setting k) (code_at setting k turns) f × ClausesDo setting k turns cs

-- then so do the clauses
abbrev pub LawOfWholeClauses : Type 0
LawOfWholeClauses =
    (setting : Setting) (k turns : ℕ) (cs : FlatClauses) → ClausesDo setting k turns cs
    → DoesForm setting turns (context_at setting k) (code_at setting k turns) (clauses cs)

-- and a loop, whose test is judged and whose body does what it means at all levels down to the last one
abbrev pub LawOfWholeWhiles : Type 0
LawOfWholeWhiles =
    (setting : Setting) (k turns : ℕ) (t body : FlatForm) → turns ≤ setting.turns_each
    → ((j n : ℕ) → j ≤ k → n ≤ setting.turns_each
    → JudgesForm setting n (context_at setting j) (code_at setting j n) t × DoesForm setting n (context_at setting j) (code_at setting j n) body)
    → DoesForm setting turns (context_at setting k) (code_at setting k turns) (while_form t body)
