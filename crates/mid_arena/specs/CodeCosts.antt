-- What code costs: the sum of what its operations, its other steps and the entry of its procedure cost. Instructions are to take no more words than that. And
-- what the code of each primitive costs.
use Rattle.std.specs.Prelude.{ℕ, ◌+◌}
use Rattle.lang_meaning.specs.declared.primitive.Primitive.{Primitive}
use Rattle.lang_meaning.specs.declared.primitive.Primitive.TheVariants.{Add, Subtract, Multiply, Divide, Modulo, NumberEqual, NumberNotEqual, NumberLess, NumberAtMost, NumberGreater, NumberAtLeast, Same, IsNull, IsCons, IsInteger, IsSymbol, IsCharacter, IsString, IsVector, IsFunction, IsGeneric, Cons, Car, Cdr, SetCar, SetCdr, MakeString, MakeVector, StringLength, VectorLength, CharAt, VectorRef, SetCharAt, SetVectorRef, CharCode, CodeChar, SymbolName, SymbolSerial, Gensym, ClassOf, ClassName, IsSubclass, IsInstance, Allocate, SlotCount, SlotPlace, SlotRef, SlotSet, SlotBound, SlotInitargs, SlotInitform, Continuable, StandardInput, StandardOutput, PutChar, IsFreshLine, GetByte, PeekByte}
use Rattle.mid_code.specs.declared.program.MidProcedure.{MidProcedure}
use Rattle.mid_code.specs.MidCode.{MidStep, perform, choose, switch, repeat, with_block, lend, return_word, cut_to, halt_with, end_unhandled, MidCode, no_step, step_and, MidCodes, no_code, code_and, code_of}
use Rattle.mid_code.specs.Costs.{operation_cost, test_cost, table_cost, jump_cost, record_cost, give_back_cost, return_cost, cut_cost, halt_cost, unhandled_cost, entry_cost}

abbrev mutual
  pub step_cost : MidStep → ℕ
  step_cost (perform o) = operation_cost o
  step_cost (choose t first second) = test_cost + code_cost first + jump_cost + code_cost second + jump_cost
  step_cost (switch r codes) = test_cost + codes_cost codes
  step_cost (repeat c head t body) = code_cost head + test_cost + code_cost body + jump_cost
  step_cost (with_block b n w inside landing) = record_cost + code_cost inside + give_back_cost + jump_cost + code_cost landing + give_back_cost
  step_cost (lend b n inside) = record_cost + code_cost inside + give_back_cost
  step_cost (return_word r) = return_cost
  step_cost (cut_to b w) = cut_cost
  step_cost (halt_with r) = halt_cost
  step_cost (end_unhandled class site condition) = unhandled_cost

  pub code_cost : MidCode → ℕ
  code_cost no_step = 0
  code_cost (step_and s c) = step_cost s + code_cost c

  pub codes_cost : MidCodes → ℕ
  codes_cost no_code = 0
  codes_cost (code_and c codes) = table_cost + code_cost c + jump_cost + codes_cost codes

abbrev pub procedure_cost : MidProcedure → ℕ
procedure_cost p = entry_cost p.parameters + code_cost (code_of p.body)

abbrev pub cost_of : Primitive → ℕ
cost_of Add = 582
cost_of Subtract = 582
cost_of Multiply = 598
cost_of Divide = 760
cost_of Modulo = 602
cost_of NumberEqual = 460
cost_of NumberNotEqual = 460
cost_of NumberLess = 460
cost_of NumberAtMost = 460
cost_of NumberGreater = 460
cost_of NumberAtLeast = 460
cost_of Same = 96
cost_of IsNull = 96
cost_of IsCons = 112
cost_of IsInteger = 112
cost_of IsSymbol = 222
cost_of IsCharacter = 112
cost_of IsString = 172
cost_of IsVector = 172
cost_of IsFunction = 172
cost_of IsGeneric = 172
cost_of Cons = 104
cost_of Car = 230
cost_of Cdr = 230
cost_of SetCar = 236
cost_of SetCdr = 236
cost_of MakeString = 850
cost_of MakeVector = 544
cost_of StringLength = 420
cost_of VectorLength = 420
cost_of CharAt = 884
cost_of VectorRef = 762
cost_of SetCharAt = 1120
cost_of SetVectorRef = 768
cost_of CharCode = 254
cost_of CodeChar = 420
cost_of SymbolName = 712
cost_of SymbolSerial = 522
cost_of Gensym = 174
cost_of ClassOf = 462
cost_of ClassName = 420
cost_of IsSubclass = 920
cost_of IsInstance = 970
cost_of Allocate = 846
cost_of SlotCount = 452
cost_of SlotPlace = 1084
cost_of SlotRef = 936
cost_of SlotSet = 800
cost_of SlotBound = 850
cost_of SlotInitargs = 836
cost_of SlotInitform = 836
cost_of Continuable = 652
cost_of StandardInput = 48
cost_of StandardOutput = 48
cost_of PutChar = 906
cost_of IsFreshLine = 48
cost_of GetByte = 122
cost_of PeekByte = 158
