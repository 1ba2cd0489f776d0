-- The lines that statuses write to the error sink, and those that `check` and `make` write to the output.
use Rattle.std.specs.Prelude.{ℕ, Bool, true, false, ◌==◌, ◌&&◌, if◌then◌else◌, List, [], ◌∷◌, ◌++◌, Option, Some, None, flat_map, codes}
use Rattle.std.specs.Fmt.{decimal}
use Rattle.base.specs.Reason.{number_of as number_of_reason, text_of as name_of_reason}
use Rattle.base.specs.declared.place.Place.{Place}
use Rattle.base.specs.declared.reason.Reason.{Reason}
use Rattle.base.specs.declared.reason.Refusal.{Refusal}
use Rattle.base.specs.declared.reason.Stop.{Stop}
use Rattle.base.specs.declared.reason.Stop.TheVariants as stop
use Rattle.rv_machine.specs.Ends.{trap_number}
use Rattle.rv_machine.specs.declared.ending.TrapKind.{TrapKind}
use Rattle.rv_image_file.specs.Reasons.{number_of as number_of_bad_image, text_of as name_of_bad_image}
use Rattle.rv_image_file.specs.declared.faults.BadImage.{BadImage as ImageFault}
use Rattle.top_lines.specs.Sentences.{sentence_of}
use Rattle.top_lines.specs.Excerpts.{excerpt}
use Rattle.top_lines.specs.Warned.{warned}
use Rattle.top_lines.specs.declared.status.WarningLine.{WarningLine}
use Rattle.top_lines.specs.declared.status.Status.{Status}
use Rattle.top_lines.specs.declared.status.Status.TheVariants.{Done, Unhandled, Usage, Refused, ArenaFull, Budget, FileFault, ReadFault, WriteFault, NoMemory, BadImage, Trap}
use Rattle.top_lines.specs.declared.status.CommandAnswer.{CommandAnswer}
use Rattle.top_lines.specs.declared.status.CommandAnswer.TheVariants as answer

abbrev pub line : List ℕ → List ℕ
line text = text ++ 10 ∷ []

-- a number behind its label
unfoldable pub labelled : (label : List ℕ) (number : ℕ) → List ℕ
labelled label number = label ++ decimal number

-- `LINE:COLUMN`
abbrev pub place_text : Place → List ℕ
place_text p = (decimal p.line ++ codes ":") ++ decimal p.column

-- `FILE:LINE:COLUMN`, where FILE is what the text is called
abbrev pub place_in : (file : List ℕ) → Place → List ℕ
place_in file p = (file ++ codes ":") ++ place_text p

-- the same of the site of a condition; FILE alone where it has no place, 0:0
abbrev pub site_in : (file : List ℕ) → Place → List ℕ
site_in file p = if p.line == 0 && p.column == 0 then file else place_in file p

-- `FILE:LINE:COLUMN: unhandled CLASS`, or `FILE: unhandled CLASS`, with what is told of the condition
abbrev pub unhandled_line : (file class : List ℕ) → Place → (told : List ℕ) → List ℕ
unhandled_line file class site told = line (((site_in file site ++ codes ": unhandled ") ++ class) ++ told)

-- `FILE:LINE:COLUMN: warning: TEXT`, and such lines one after another
abbrev pub warning_line : (file : List ℕ) → WarningLine → List ℕ
warning_line file w = line ((place_in file w.place ++ codes ": warning: ") ++ warned w.name w.fault)

abbrev pub warning_lines : (file : List ℕ) → List WarningLine → List ℕ
warning_lines file ws = flat_map (warning_line file) ws

-- ` at LINE:COLUMN` of the place of a site, where there is one
abbrev pub site_text : Option Place → List ℕ
site_text None = []
site_text (Some p) = codes " at " ++ place_text p

-- `unhandled class N at LINE:COLUMN`, or `unhandled class N`
abbrev pub unhandled_class_line : ℕ → Option Place → List ℕ
unhandled_class_line class site = line (labelled (codes "unhandled class ") class ++ site_text site)

-- `NUMBER NAME`
abbrev pub reason_text : Reason → List ℕ
reason_text r = (decimal (number_of_reason r) ++ codes " ") ++ name_of_reason r

-- `FILE:LINE:COLUMN: refused NUMBER NAME`
abbrev pub refused_line : (file : List ℕ) → Refusal → List ℕ
refused_line file r = line ((place_in file r.place ++ codes ": refused ") ++ reason_text r.reason)

-- and behind it the place in the text, and the line that says why
abbrev pub refusal_lines : (file text : List ℕ) → Refusal → List ℕ
refusal_lines file text r = (refused_line file r ++ excerpt text r.place) ++ line (sentence_of r.reason)

-- `arena full ASKED LEFT`
abbrev pub arena_full_line : (asked left : ℕ) → List ℕ
arena_full_line asked left = line (((codes "arena full " ++ decimal asked) ++ codes " ") ++ decimal left)

-- `budget N`
abbrev pub budget_line : ℕ → List ℕ
budget_line n = line (codes "budget " ++ decimal n)

-- `bad image NUMBER NAME`
abbrev pub bad_image_line : ImageFault → List ℕ
bad_image_line r = line ((labelled (codes "bad image ") (number_of_bad_image r) ++ codes " ") ++ name_of_bad_image r)

-- `trap KIND ADDRESS`
abbrev pub trap_line : TrapKind → ℕ → List ℕ
trap_line kind address = line (labelled (codes "trap ") (trap_number kind) ++ labelled (codes " ") address)

-- so many forms of an evaluation may begin
abbrev pub spent_line : List ℕ
spent_line = line (codes "spent 9223372036854775808")

unfoldable pub usage_text : List ℕ
usage_text = codes "usage: isl [--steps N] [--arena W] run|show|check|build|exec|plain FILE, or make N; isl --help tells more"

-- with the word that is wrong, where one is
abbrev pub usage_line : Option (List ℕ) → List ℕ
usage_line None = line usage_text
usage_line (Some word) = line ((usage_text ++ codes "; wrong: ") ++ word)

-- what `check` writes to the output of a file that is a program
abbrev pub ok_line : List ℕ
ok_line = line (codes "ok")

-- what `make` writes to the output behind what its program printed: `nodes A words B instructions C`
abbrev pub counts_line : (nodes words executed : ℕ) → List ℕ
counts_line nodes words executed =
    line ((labelled (codes "nodes ") nodes ++ labelled (codes " words ") words) ++ labelled (codes " instructions ") executed)

abbrev pub file_fault_line : List ℕ
file_fault_line = line (codes "file fault")

abbrev pub read_fault_line : List ℕ
read_fault_line = line (codes "read fault")

abbrev pub no_memory_line : List ℕ
no_memory_line = line (codes "no memory")

-- the line of an answer about a text that is called so; a refusal has four, and a file that is a program one for each warning
abbrev pub line_of : (file : List ℕ) → CommandAnswer → List ℕ
line_of file answer.Done = []
line_of file (answer.Checked warnings) = warning_lines file warnings
line_of file (answer.Unhandled class site told) = unhandled_line file class site told
line_of file (answer.Usage word) = usage_line word
line_of file (answer.Refused r text) = refusal_lines file text r
line_of file (answer.ArenaFull asked left) = arena_full_line asked left
line_of file (answer.Budget n) = budget_line n
line_of file answer.Spent = spent_line
line_of file answer.FileFault = file_fault_line
line_of file answer.ReadFault = read_fault_line
line_of file answer.WriteFault = []
line_of file answer.NoMemory = no_memory_line
line_of file (answer.UnhandledClass class site) = unhandled_class_line class site
line_of file (answer.BadImage fault) = bad_image_line fault
line_of file (answer.Trap kind address) = trap_line kind address

abbrev pub status_of : CommandAnswer → Status
status_of answer.Done = Done
status_of (answer.Checked warnings) = Done
status_of (answer.Unhandled class site told) = Unhandled
status_of (answer.Usage word) = Usage
status_of (answer.Refused r text) = Refused
status_of (answer.ArenaFull asked left) = ArenaFull
status_of (answer.Budget n) = Budget
status_of answer.Spent = Budget
status_of answer.FileFault = FileFault
status_of answer.ReadFault = ReadFault
status_of answer.WriteFault = WriteFault
status_of answer.NoMemory = NoMemory
status_of (answer.UnhandledClass class site) = Unhandled
status_of (answer.BadImage fault) = BadImage
status_of (answer.Trap kind address) = Trap

abbrev pub number_of : Status → ℕ
number_of Done = 0
number_of Unhandled = 1
number_of Usage = 2
number_of Refused = 3
number_of ArenaFull = 4
number_of Budget = 5
number_of FileFault = 6
number_of ReadFault = 7
number_of WriteFault = 8
number_of NoMemory = 9
number_of BadImage = 10
number_of Trap = 11

-- the answer of a file that is a program
abbrev pub is_checked : CommandAnswer → Bool
is_checked (answer.Checked warnings) = true
is_checked a = false

-- the answer of a text that is no program
abbrev pub answer_of_stop : (text : List ℕ) → Stop → CommandAnswer
answer_of_stop text (stop.Refused r) = answer.Refused r text
answer_of_stop text stop.NoMemory = answer.NoMemory
