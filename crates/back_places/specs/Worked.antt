-- Worked code: lines that are written out, with where their words are, and their instructions.
use Rattle.std.specs.Prelude.{◌≡◌, ℕ, ◌+◌, ◌==◌, true, false, List, [], ◌∷◌, slice_index, if◌then◌else◌}
use Rattle.rv_encode.specs.declared.instruction.Instr.{Instr}
use Rattle.rv_encode.specs.declared.instruction.Instr.TheVariants.{Lui, Auipc, Jal, Jalr, Bge, Lw, Sw, Addi, Add}
use Rattle.mid_code.specs.declared.operation.Arithmetic.TheVariants as which
use Rattle.mid_code.specs.declared.operation.Comparison.TheVariants as comparison
use Rattle.mid_code.specs.declared.operation.Callee.TheVariants.{Procedure}
use Rattle.mid_code.specs.declared.operation.Operation.TheVariants.{Compute, Call, Constant}
use Rattle.mid_lines.specs.declared.line.Line.{Line}
use Rattle.mid_lines.specs.declared.line.Line.TheVariants.{Do, Branch, Return, Lay, Landed, GiveBack, Cut}
use Rattle.back_places.specs.declared.place.Place.{Place}
use Rattle.back_places.specs.declared.place.Place.TheVariants.{InRegister, InSlot, AsConstant}
use Rattle.back_places.specs.Places.{StaticRecord, with_landing, Located}
use Rattle.back_places.specs.LineCode.{line_code, behind_code, entry_code}

-- the code of lines, and what stands behind each, from a line on
abbrev pub codes : Located → (number frame line : ℕ) → List Line → List (List Instr)
codes l number frame line [] = []
codes l number frame line (x ∷ more) =
    line_code l number frame line x ∷ behind_code l number line x ∷ codes l number frame (line + 1) more

-- Numbers of Fibonacci. Register 0 is n: it is passed in register 12, and goes to slot 1. The first of the two sums goes to slot 2.
abbrev pub fib_lines : List Line
fib_lines =
    Do (Constant 1 2)
    ∷ Branch (record { comparison = comparison.Less; first = 0; second = 1 }) 3
    ∷ Return 0
    ∷ Do (Constant 2 1)
    ∷ Do (Compute 3 which.Subtract 0 2)
    ∷ Do (Call 4 (Procedure 0) (3 ∷ []))
    ∷ Do (Compute 5 which.Subtract 0 1)
    ∷ Do (Call 6 (Procedure 0) (5 ∷ []))
    ∷ Do (Compute 7 which.Add 4 6)
    ∷ Return 7 ∷ []

abbrev pub fib_source : (line register : ℕ) → Place
fib_source line r =
    if r == 0 then (if line == 6 then InSlot 1 else InRegister 12)
    else if r == 1 then AsConstant 2
    else if r == 2 then AsConstant 1
    else if r == 4 then InSlot 2
    else InRegister 12

abbrev pub fib_target : (line : ℕ) → Place
fib_target line = if line == 0 then AsConstant 2 else if line == 3 then AsConstant 1 else if line == 5 then InSlot 2 else InRegister 12

abbrev pub fib : Located
fib = record {
  source = λ number. fib_source;
  target = λ number. fib_target;
  parameters = λ number. InSlot 1 ∷ [];
  records = λ number line. [];
  linked = λ number line. line == 2;
  saves = λ number. true;
  near = λ number line. true;
  entry_at = λ number. 100;
  line_at = λ number line. slice_index (108 ∷ 108 ∷ 110 ∷ 112 ∷ 112 ∷ 113 ∷ 115 ∷ 117 ∷ 118 ∷ 120 ∷ 123 ∷ []) line;
  back_at = λ number line. slice_index (108 ∷ 110 ∷ 112 ∷ 112 ∷ 113 ∷ 114 ∷ 117 ∷ 118 ∷ 120 ∷ 123 ∷ []) line;
  table_at = λ number line. 0;
  arguments_at = 30;
  argument_words = 14;
  procedures_at = 44;
  end_at = 50;
  full_at = 60;
  code_from = 44;
  code_to = 123;
}

abbrev pub FibonacciCode : Type 0
FibonacciCode =
    (entry_code fib 0 3
    ≡ Addi 2 2 4084 ∷ Bge 2 3 20 ∷ Lui 10 0 ∷ Addi 10 10 3 ∷ Auipc 7 0 ∷ Jalr 0 7 3920 ∷ Sw 1 2 0 ∷ Sw 12 2 4 ∷ [])
    × (codes fib 0 3 0 fib_lines
    ≡ [] ∷ []
    ∷ (Addi 6 0 2 ∷ Bge 12 6 12 ∷ []) ∷ []
    ∷ (Addi 2 2 12 ∷ Jalr 0 1 0 ∷ []) ∷ []
    ∷ [] ∷ []
    ∷ (Addi 12 12 4095 ∷ []) ∷ []
    ∷ (Jal 1 2097100 ∷ []) ∷ (Sw 12 2 8 ∷ [])
    ∷ (Lw 5 2 4 ∷ Addi 12 5 4094 ∷ []) ∷ []
    ∷ (Jal 1 2097084 ∷ []) ∷ []
    ∷ (Lw 5 2 8 ∷ Add 12 5 12 ∷ []) ∷ []
    ∷ (Lw 1 2 0 ∷ Addi 2 2 12 ∷ Jalr 0 1 0 ∷ []) ∷ []
    ∷ [])

-- A control record of one lent word, whose address is passed to a procedure that cuts to it.
abbrev pub record_lines : List Line
record_lines =
    Lay 0 1 4
    ∷ Do (Call 1 (Procedure 1) (0 ∷ []))
    ∷ GiveBack 1
    ∷ Return 1
    ∷ Landed 2
    ∷ GiveBack 1
    ∷ Return 2 ∷ []

abbrev pub one_record : List StaticRecord
one_record = with_landing 1 4 ∷ []

abbrev pub recorded : Located
recorded = record {
  source = λ number line r. if number == 0 then InRegister 12 else if r == 0 then InRegister 12 else AsConstant 7;
  target = λ number line. InRegister 12;
  parameters = λ number. InRegister 12 ∷ [];
  records = λ number line. if line == 0 then [] else if line == 3 then [] else if line == 6 then [] else one_record;
  linked = λ number line. false;
  saves = λ number. number == 0;
  near = λ number line. true;
  entry_at = λ number. if number == 0 then 15 else 50;
  line_at = λ number line. slice_index (20 ∷ 30 ∷ 31 ∷ 32 ∷ 35 ∷ 35 ∷ 36 ∷ 39 ∷ []) line;
  back_at = λ number line. slice_index (30 ∷ 31 ∷ 32 ∷ 35 ∷ 35 ∷ 36 ∷ 39 ∷ []) line;
  table_at = λ number line. 0;
  arguments_at = 2;
  argument_words = 2;
  procedures_at = 4;
  end_at = 6;
  full_at = 10;
  code_from = 4;
  code_to = 60;
}

abbrev pub RecordCode : Type 0
RecordCode =
    (codes recorded 0 2 0 record_lines
    ≡ (Addi 2 2 4084 ∷ Bge 2 3 20 ∷ Lui 10 0 ∷ Addi 10 10 3 ∷ Auipc 7 0 ∷ Jalr 0 7 4040 ∷ Lui 5 0 ∷ Addi 5 5 140 ∷ Sw 5 2 0 ∷ Addi 12 2 8 ∷ []) ∷ []
    ∷ (Jal 1 80 ∷ []) ∷ []
    ∷ (Addi 2 2 12 ∷ []) ∷ []
    ∷ (Lw 1 2 0 ∷ Addi 2 2 8 ∷ Jalr 0 1 0 ∷ []) ∷ []
    ∷ [] ∷ []
    ∷ (Addi 2 2 12 ∷ []) ∷ []
    ∷ (Lw 1 2 0 ∷ Addi 2 2 8 ∷ Jalr 0 1 0 ∷ []) ∷ []
    ∷ [])
    × (line_code recorded 1 0 0 (Cut 0 1) ≡ Addi 5 12 0 ∷ Addi 12 0 7 ∷ Addi 2 5 4088 ∷ Lw 5 2 0 ∷ Jalr 0 5 0 ∷ [])
