-- The words of the image.
use Rattle.std.specs.Prelude.{ℕ, ◌+◌, ◌*◌, List, [], ◌∷◌, ◌++◌, map, replicate}
use Rattle.rv_encode.specs.declared.instruction.Instr.{Instr}
use Rattle.rv_encode.specs.Encodes.{word_of}
use Rattle.mid_lines.specs.declared.line.Line.{Line}
use Rattle.mid_lines.specs.declared.line.LineProcedure.{LineProcedure}
use Rattle.mid_lines.specs.declared.line.LineProgram.{LineProgram}
use Rattle.back_places.specs.Places.{Located}
use Rattle.back_places.specs.Selection.{far_jump_code}
use Rattle.back_places.specs.LineCode.{line_code, behind_code, entry_code}
use Rattle.back_places.specs.Blocks.{end_code, full_code}
use Rattle.back_layout.specs.Sizes.{all_targets}
use Rattle.back_layout.specs.Layout.{start_at}

-- the code of lines from a number on, each with what stands behind it
abbrev pub lines_code : Located → (number frame line : ℕ) → List Line → List Instr
lines_code l number frame line [] = []
lines_code l number frame line (x ∷ more) =
    line_code l number frame line x ++ (behind_code l number line x ++ lines_code l number frame (line + 1) more)

-- a procedure: its entry, its lines, and the tables of its switches, whose words are the addresses of lines
abbrev pub procedure_words : Located → (number : ℕ) → LineProcedure → List ℕ
procedure_words l number p =
    map word_of (entry_code l number p.frame)
    ++ (map word_of (lines_code l number p.frame 0 p.lines) ++ map (λ line. 4 * l.line_at number line) (all_targets p.lines))

abbrev pub procedures_words : Located → (number : ℕ) → List LineProcedure → List ℕ
procedures_words l number [] = []
procedures_words l number (p ∷ more) = procedure_words l number p ++ procedures_words l (number + 1) more

-- the table of procedures: the addresses of their entries
abbrev pub entries_table : Located → (number : ℕ) → List LineProcedure → List ℕ
entries_table l number [] = []
entries_table l number (p ∷ more) = 4 * l.entry_at number ∷ entries_table l (number + 1) more

-- the jump to the procedure in which a run begins, with the address of the code that ends the run in register 1
abbrev pub start_code : LineProgram → Located → (entry : ℕ) → List Instr
start_code program l entry = far_jump_code 1 (start_at program l) (l.entry_at entry)

-- all words: those laid beside the code, those of arguments, the table of procedures, the code
abbrev pub image : LineProgram → Located → (entry : ℕ) → List ℕ
image program l entry =
    program.laid
    ++ (replicate l.argument_words 0
    ++ (entries_table l 0 program.procedures
    ++ (map word_of (start_code program l entry)
    ++ (map word_of end_code
    ++ (map word_of full_code
    ++ procedures_words l 0 program.procedures)))))
