-- The number of the class of a value, four times: the word of the class is found, and there its number.
use Rattle.std.proofs.Common.{◌≡◌, inl, ℕ, ◌+◌, ◌*◌, ◌^◌, ◌<◌, ◌≤◌, Bool, true, false, List, [], ◌∷◌, length, Option, Some, refl, arith}
use Rattle.std.specs.Prelude.{nat_le, slice_get, if◌then◌else◌}
use Rattle.lang_meaning.specs.declared.program.ProgramRows.{ProgramRows}
use Rattle.lang_meaning.specs.BuiltIn.{built_in_precedence, built_in_slots}
use Rattle.lang_meaning.specs.Classes.{class_of, class_of_object}
use Rattle.lang_meaning.specs.Facts.{begins_with_built_in}
use Rattle.lang_meaning.specs.InitialHeap.{class_value}
use Rattle.lang_meaning.specs.Objects.{Object, instance, class_object, character_class, symbol_class, null_class, integer_class, built_in_class_class, standard_class_class}
use Rattle.lang_meaning.specs.State as meaning
use Rattle.lang_meaning.specs.Values.{Value, integer, character, symbol, nil, object}
use Rattle.flat_language.specs.FlatNodes.{tables}
use Rattle.flat_language.specs.FlatState.{FlatState}
use Rattle.mid_code.specs.declared.operation.Counted.TheVariants.{Turn}
use Rattle.mid_code.specs.declared.program.MidProcedure.{MidProcedure}
use Rattle.mid_code.specs.Arena.{left}
use Rattle.mid_code.specs.Meaning.{levels}
use Rattle.mid_code.specs.MidCode.{return_word}
use Rattle.mid_code.specs.State.{MidState, first_registers}
use Rattle.mid_arena.specs.ClassesThere.{ClassesThere}
use Rattle.mid_arena.specs.Places.{word_of}
use Rattle.mid_arena.specs.Steps.{class_word, class_by_header}
use Rattle.mid_arena.specs.Steps.{class_of_object as object_code}
use Rattle.mid_arena.proofs.Arguments.{object_found}
use Rattle.mid_arena.proofs.BuiltInFacts.{built_in_known}
use Rattle.mid_arena.proofs.ClassHeaders.{Seeking}
use Rattle.mid_arena.proofs.ClassWords.{class_of_found}
use Rattle.mid_arena.proofs.Leaving.{represents_frame}
use Rattle.mid_arena.proofs.Memory.{spot_low}
use Rattle.mid_arena.proofs.Running.{frame_of, entered, and_then, and_ends, costing, parts_then, load_falls, return_ends, address_above}
use Rattle.mid_arena.proofs.Registers.{register_here}
use Rattle.back_lowering.specs.Program.{procedure_with}
use Rattle.back_lowering.specs.RoutineCodes.{class_code}
use Rattle.back_lowering.specs.Routines.{class_routine}
use Rattle.back_lowering.specs.Steps.{load}
use Rattle.back_relation.specs.Setting.{Setting}
use Rattle.back_relation.specs.Things.{Things}
use Rattle.back_relation.specs.Worlds.{World}
use Rattle.back_relation.specs.RoutineClaims.{class_cost}
use Rattle.back_relation.specs.Room.{looking_words}
use Rattle.back_conditions.specs.Looking.{LawOfClassNumbers, LawOfClassClaims}
use Rattle.back_conditions.proofs.Entering.{with_frame_of, BodyLooks, looks_up}
use Rattle.back_conditions.proofs.Finding.{routine_used}

-- the class of each value is one of the program
pub class_known :
    (names : List (List ℕ)) (program : ProgramRows) (z : meaning.State) → begins_with_built_in program.classes built_in_precedence built_in_slots ≡ true
    → ClassesThere names program z → (v : Value) → class_of z v < length program.classes
class_known names program z built_in there v = by v
  where
    of_stored : (i : ℕ) (o : Option Object) → slice_get z.store i ≡ o → class_of_object o < length program.classes
    of_stored i (Some (instance c values mark)) e = there.instances i c values mark e
    of_stored i (Some (class_object c)) e = of_class (nat_le c 16)
      where
        of_class : (b : Bool) → (if b then built_in_class_class else standard_class_class) < length program.classes
        of_class true = built_in_known program built_in built_in_class_class (omega arith)
        of_class false = built_in_known program built_in standard_class_class (omega arith)
    of_stored i o e = built_in_known program built_in (class_of_object o) (omega arith)

    by : (v : Value) → class_of z v < length program.classes
    by (integer n) = built_in_known program built_in integer_class (omega arith)
    by (character c) = built_in_known program built_in character_class (omega arith)
    by (symbol s) = built_in_known program built_in symbol_class (omega arith)
    by nil = built_in_known program built_in null_class (omega arith)
    by (object i) = of_stored i (slice_get z.store i) refl

abbrev pub given : Setting → MidProcedure
given setting = procedure_with Turn 1 (class_code setting.at)

pub given_small : (setting : Setting) → (given setting).frame ≤ 8
unfolding class_code class_word object_code class_by_header
given_small setting = omega arith

-- the body, where its frame is laid
pub body_finds :
    (setting : Setting) (k n frame : ℕ) (w : World) (z : FlatState) (y : MidState) (v : Value) (word : ℕ) → Things setting w z y → word_of w.places v ≡ Some word
    → frame ≤ left y.arena → BodyLooks setting k n (with_frame_of frame (given setting)) (word ∷ []) (4 * class_of z.state v) class_cost y
unfolding class_code class_word object_code class_by_header
body_finds setting k n frame w z y v word t e some =
    let names = setting.names in
    let rows = tables setting.program in
    let p = with_frame_of frame (given setting) in
    let r = represents_frame names rows w.places z.state y t.represents (frame_of p) 26 some in
    let here : Seeking names rows w.places z.state (entered p y) = record {
      represents = r;
      procedures = setting.procedures;
      below = levels setting.procedures setting.turns_each k;
      turns = n;
      to = 1;
      to_low = omega arith;
      of = 0;
      of_low = omega arith;
      word = word;
      start = first_registers 8 (word ∷ []);
      held = refl;
    } in
    let f = class_of_found here {k = y.cost + 26} v e refl in
    let c = class_of z.state v in
    let it =
    object_found names rows w.places z.state (entered p y) r (class_value names rows c) f.word (class_object c) f.of_class
    (r.classes.objects c (class_known names rows z.state r.built_in r.classes v))
    in
    let low : it.spot.address + 4 < 2 ^ 32 = omega (arith, it.stands.size.words, spot_low r.arena it.spot_stands) in
    record {
      registers = _;
      cost = f.cost + 22;
      runs =
          costing {n = f.cost + 22}
          (parts_then (class_word 1 0) (load 1 1 2 ∷ return_word 1 ∷ []) f.runs
          (and_then (load_falls f.there (address_above f.word 2 (it.spot.address + 4) (omega (arith, it.word)) low) it.stands.number)
          (and_ends tt (return_ends (register_here f.registers 1 (4 * c) (omega (arith, f.size)))))))
          (omega arith);
      within = omega (arith, f.within);
    }

-- **the number of a value's class**
pub class_numbers_law : LawOfClassNumbers
class_numbers_law setting k turns rs valid w around z y room placed v word e =
    looks_up setting k turns rs valid w around z y room class_cost (class_routine setting.at) (word ∷ []) (4 * class_of z.state v) (given setting)
    (routine_used setting 20 (given setting) placed refl) refl refl (given_small setting) (omega arith)
    (λ n frame few begins some. inl (body_finds setting k n frame w z y v word begins.things e some))

pub class_claims_law : LawOfClassClaims
class_claims_law setting k turns rs valid w around z y placed v word e begins =
    class_numbers_law setting k turns rs valid w around z y looking_words placed v word e (omega arith) begins
