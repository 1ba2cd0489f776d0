-- Each primitive does what it has to.
use Rattle.std.proofs.Common.{◌≡◌, true, refl}
use Rattle.lang_meaning.specs.declared.primitive.Primitive.{Primitive}
use Rattle.lang_meaning.specs.declared.primitive.Primitive.TheVariants.{Add, Subtract, Multiply, Divide, Modulo, NumberEqual, NumberNotEqual, NumberLess, NumberAtMost, NumberGreater}
use Rattle.lang_meaning.specs.declared.primitive.Primitive.TheVariants.{NumberAtLeast, Same, IsNull, IsCons, IsInteger, IsSymbol, IsCharacter, IsString, IsVector, IsFunction, IsGeneric, Cons, Car}
use Rattle.lang_meaning.specs.declared.primitive.Primitive.TheVariants.{Cdr, SetCar, SetCdr, MakeString, MakeVector, StringLength, VectorLength, CharAt, VectorRef, SetCharAt, SetVectorRef}
use Rattle.lang_meaning.specs.declared.primitive.Primitive.TheVariants.{CharCode, CodeChar, SymbolName, SymbolSerial, Gensym, ClassOf, ClassName, IsSubclass, IsInstance, Allocate, SlotCount}
use Rattle.lang_meaning.specs.declared.primitive.Primitive.TheVariants.{SlotPlace, SlotRef, SlotSet, SlotBound, SlotInitargs, SlotInitform, Continuable, StandardInput, StandardOutput, PutChar}
use Rattle.lang_meaning.specs.declared.primitive.Primitive.TheVariants.{IsFreshLine, GetByte, PeekByte}
use Rattle.mid_code.specs.Checked.{is_checked}
use Rattle.mid_arena.specs.Answers.{IsPrimitive}
use Rattle.mid_arena.specs.Codes.{frame_words, procedure_of}
use Rattle.mid_arena.specs.CodeCosts.{procedure_cost, cost_of}
use Rattle.mid_arena.specs.Steps.{hand_over, signal, domain_error, need_header, class_by_header, class_of_object, class_word}
use Rattle.mid_arena.proofs.Allocating.{allocate_does}
use Rattle.mid_arena.proofs.CharacterCodes.{char_code_does, code_char_does}
use Rattle.mid_arena.proofs.ClassWords.{class_of_does}
use Rattle.mid_arena.proofs.Conses.{cons_does, car_does, cdr_does, set_car_does, set_cdr_does}
use Rattle.mid_arena.proofs.Division.{divide_does, modulo_does}
use Rattle.mid_arena.proofs.FreshSymbols.{gensym_does}
use Rattle.mid_arena.proofs.Integers.{add_does, subtract_does, multiply_does, number_equal_does, number_not_equal_does}
use Rattle.mid_arena.proofs.Integers.{number_less_does, number_at_most_does, number_greater_does, number_at_least_does}
use Rattle.mid_arena.proofs.MakeStrings.{make_string_does}
use Rattle.mid_arena.proofs.MakeVectors.{make_vector_does}
use Rattle.mid_arena.proofs.Predicates.{same_does, is_null_does, is_cons_does, is_integer_does, is_symbol_does, is_character_does, is_string_does, is_vector_does, is_function_does, is_generic_does}
use Rattle.mid_arena.proofs.Entering.{InEveryFrame}
use Rattle.mid_arena.proofs.Printing.{put_char_does}
use Rattle.mid_arena.proofs.SlotPlaces.{slot_place_does}
use Rattle.mid_arena.proofs.SlotRows.{slot_initargs_does, slot_initform_does, continuable_does}
use Rattle.mid_arena.proofs.SlotSetting.{slot_set_does}
use Rattle.mid_arena.proofs.Slots.{slot_count_does, slot_ref_does, slot_bound_does}
use Rattle.mid_arena.proofs.Streams.{standard_input_does, standard_output_does, is_fresh_line_does, get_byte_does, peek_byte_does}
use Rattle.mid_arena.proofs.StringBytes.{string_length_does, char_at_does, set_char_at_does}
use Rattle.mid_arena.proofs.Subclasses.{class_name_does, is_subclass_does, is_instance_does}
use Rattle.mid_arena.proofs.SymbolNames.{symbol_name_does}
use Rattle.mid_arena.proofs.SymbolSerials.{symbol_serial_does}
use Rattle.mid_arena.proofs.VectorElements.{vector_length_does, vector_ref_does, set_vector_ref_does}

pub each_in_frames : (which : Primitive) → InEveryFrame which
each_in_frames Add = add_does
each_in_frames Subtract = subtract_does
each_in_frames Multiply = multiply_does
each_in_frames Divide = divide_does
each_in_frames Modulo = modulo_does
each_in_frames NumberEqual = number_equal_does
each_in_frames NumberNotEqual = number_not_equal_does
each_in_frames NumberLess = number_less_does
each_in_frames NumberAtMost = number_at_most_does
each_in_frames NumberGreater = number_greater_does
each_in_frames NumberAtLeast = number_at_least_does
each_in_frames Same = same_does
each_in_frames IsNull = is_null_does
each_in_frames IsCons = is_cons_does
each_in_frames IsInteger = is_integer_does
each_in_frames IsSymbol = is_symbol_does
each_in_frames IsCharacter = is_character_does
each_in_frames IsString = is_string_does
each_in_frames IsVector = is_vector_does
each_in_frames IsFunction = is_function_does
each_in_frames IsGeneric = is_generic_does
each_in_frames Cons = cons_does
each_in_frames Car = car_does
each_in_frames Cdr = cdr_does
each_in_frames SetCar = set_car_does
each_in_frames SetCdr = set_cdr_does
each_in_frames MakeString = make_string_does
each_in_frames MakeVector = make_vector_does
each_in_frames StringLength = string_length_does
each_in_frames VectorLength = vector_length_does
each_in_frames CharAt = char_at_does
each_in_frames VectorRef = vector_ref_does
each_in_frames SetCharAt = set_char_at_does
each_in_frames SetVectorRef = set_vector_ref_does
each_in_frames CharCode = char_code_does
each_in_frames CodeChar = code_char_does
each_in_frames SymbolName = symbol_name_does
each_in_frames SymbolSerial = symbol_serial_does
each_in_frames Gensym = gensym_does
each_in_frames ClassOf = class_of_does
each_in_frames ClassName = class_name_does
each_in_frames IsSubclass = is_subclass_does
each_in_frames IsInstance = is_instance_does
each_in_frames Allocate = allocate_does
each_in_frames SlotCount = slot_count_does
each_in_frames SlotPlace = slot_place_does
each_in_frames SlotRef = slot_ref_does
each_in_frames SlotSet = slot_set_does
each_in_frames SlotBound = slot_bound_does
each_in_frames SlotInitargs = slot_initargs_does
each_in_frames SlotInitform = slot_initform_does
each_in_frames Continuable = continuable_does
each_in_frames StandardInput = standard_input_does
each_in_frames StandardOutput = standard_output_does
each_in_frames PutChar = put_char_does
each_in_frames IsFreshLine = is_fresh_line_does
each_in_frames GetByte = get_byte_does
each_in_frames PeekByte = peek_byte_does

-- so does the one that is given
pub each_does : (which : Primitive) → IsPrimitive which (procedure_of which)
each_does which = each_in_frames which frame_words

-- the code of each is in form
pub each_checked : (which : Primitive) → is_checked (procedure_of which) ≡ true
unfolding hand_over signal domain_error need_header class_by_header class_of_object class_word
each_checked Add = refl
each_checked which = refl

-- and costs what the table says
pub each_costs : (which : Primitive) → procedure_cost (procedure_of which) ≡ cost_of which
unfolding hand_over signal domain_error need_header class_by_header class_of_object class_word
each_costs Add = refl
each_costs which = refl
