-- A start for worked programs: the words that stand before the first form, as far as code looks at them. Classes stand with what says whether
-- instances of them are conditions and how many slots they have; literals are numbers, characters, symbols, nil and classes.
use Rattle.std.specs.Prelude.{◌≡◌, ⊤, ℕ, zero, suc, ◌+◌, ◌*◌, ◌-◌, Bool, true, false, nat_le, List, [], ◌∷◌, ◌++◌, Option, Some, None, length, map, take, replicate, slice_get, slice_index_or, is_some, if◌then◌else◌}
use Rattle.base.specs.declared.place.Place.{Place}
use Rattle.base.specs.declared.datum.Symbol.{Symbol}
use Rattle.base.specs.declared.datum.Symbol.TheVariants.{Named, Fresh}
use Rattle.base.specs.Data as datum
use Rattle.lang_meaning.specs.declared.program.ClassRow.{ClassRow}
use Rattle.lang_meaning.specs.declared.program.LiteralRow.{LiteralRow}
use Rattle.lang_meaning.specs.declared.program.LiteralRow.TheVariants as row
use Rattle.lang_meaning.specs.declared.program.ProgramRows.{ProgramRows}
use Rattle.lang_meaning.specs.Values.{Value, integer, character, symbol, nil, object}
use Rattle.lang_meaning.specs.Objects.{serious_condition_class}
use Rattle.lang_meaning.specs.State.{Limit, unlimited}
use Rattle.lang_meaning.specs.Lookup.{is_in}
use Rattle.lang_meaning.specs.Counts.{bound}
use Rattle.lang_meaning.specs.Meaning.{Ending, with_value, by_class, for_words, for_levels, meaning, place_of_site}
use Rattle.flat_language.specs.declared.program.FlatProcedure.{FlatProcedure}
use Rattle.flat_language.specs.declared.program.FlatProgram.{FlatProgram}
use Rattle.flat_language.specs.Flatten.{flat_program}
use Rattle.mid_code.specs.State.{MidState, End, falls, returns, cuts, no_room, no_level, no_turn, halts, unhandled, exhausted, stuck, MidOutcome}
use Rattle.mid_code.specs.Meaning.{runs}
use Rattle.mid_arena.specs.Tags.{integer_word, character_word, nil_word, unbound_word, class_header, input_header, output_header, symbol_header}
use Rattle.back_lowering.specs.ControlWords.{control_words, variables_address}
use Rattle.back_lowering.specs.declared.placement.Placement.{Placement}
use Rattle.back_lowering.specs.Program.{lowered, start_number}

-- ---- addresses, in this order: variables, arities, generic functions, t and the streams, symbols, classes, and what is given besides

module _ (names : List (List ℕ)) (program : FlatProgram) where
  abbrev pub dynamics_from : ℕ
  dynamics_from = variables_address + 4 * length names

  abbrev pub arities_from : ℕ
  arities_from = dynamics_from + 4 * length names

  abbrev pub generics_from : ℕ
  generics_from = arities_from + 4 * (length program.procedures + length program.lambdas)

  abbrev pub objects_from : ℕ
  objects_from = generics_from + 4 * length program.generics

  abbrev pub true_word : ℕ
  true_word = objects_from + 2

  abbrev pub input_word : ℕ
  input_word = objects_from + 10

  abbrev pub output_word : ℕ
  output_word = objects_from + 14

  abbrev pub symbols_from : ℕ
  symbols_from = objects_from + 16

  abbrev pub symbol_word : ℕ → ℕ
  symbol_word n = symbols_from + 8 * n + 2

  abbrev pub classes_from : ℕ
  classes_from = symbols_from + 8 * length names

  abbrev pub class_word : ℕ → ℕ
  class_word c = classes_from + 28 * c + 2

  abbrev pub rest_from : ℕ
  rest_from = classes_from + 28 * length program.classes

  -- ---- words

  abbrev pub literal_word : LiteralRow → ℕ
  literal_word (row.Class c) = class_word c
  literal_word (row.Function name) = nil_word
  literal_word (row.Datum d) = by (datum.content_of d)
    where
      by : datum.Content → ℕ
      by (datum.integer n) = integer_word n
      by (datum.character c) = character_word c
      by (datum.symbol (Named name)) = symbol_word name.0
      by other = nil_word

  abbrev pub truth_word : Bool → ℕ
  truth_word b = if b then true_word else nil_word

  abbrev pub class_words : ℕ → List ClassRow → List ℕ
  class_words c [] = []
  class_words c (r ∷ rs) =
      class_header ∷ 4 * c ∷ nil_word ∷ true_word ∷ truth_word (is_in serious_condition_class r.precedence) ∷ 0 ∷ 4 * length r.slots
      ∷ class_words (c + 1) rs

  abbrev pub each_class : ℕ → ℕ → List ℕ
  each_class c zero = []
  each_class c (suc n) = class_word c ∷ each_class (c + 1) n

  abbrev pub arity_words : List FlatProcedure → List ℕ
  arity_words [] = []
  arity_words (q ∷ qs) = (2 * length q.required + (if is_some q.rest then 1 else 0)) ∷ arity_words qs

  abbrev pub each_symbol : ℕ → List ℕ
  each_symbol zero = []
  each_symbol (suc n) = symbol_header ∷ 0 ∷ each_symbol n

  abbrev pub fixed_contents : List ℕ
  fixed_contents =
      each_class 0 34
      ++ (input_word ∷ output_word ∷ true_word ∷ 0 ∷ true_word ∷ nil_word ∷ nil_word ∷ symbol_header ∷ 12 ∷ 0 ∷ symbol_header ∷ 0 ∷ [])

  -- the addresses of the words of generic functions, and words behind all others
  abbrev pub words_with : (generics more : List ℕ) → List ℕ
  words_with generics more =
      fixed_contents ++ (replicate control_words 0 ++ (replicate (length names + length names) unbound_word
      ++ (arity_words program.procedures ++ (arity_words program.lambdas ++ (generics
      ++ (symbol_header ∷ 0 ∷ input_header ∷ output_header ∷ (each_symbol (length names) ++ (class_words 0 program.classes ++ more))))))))

  abbrev pub addresses_from : ℕ → ℕ → List ℕ
  addresses_from address zero = []
  addresses_from address (suc n) = address ∷ addresses_from (address + 4) n

  abbrev pub symbol_words_from : ℕ → ℕ → List ℕ
  symbol_words_from s zero = []
  symbol_words_from s (suc n) = symbol_word s ∷ symbol_words_from (s + 1) n

  abbrev pub placement : Placement
  placement = record {
    literals = map literal_word program.literals;
    symbols = symbol_words_from 0 (length names);
    globals = addresses_from variables_address (length names);
    dynamics = addresses_from dynamics_from (length names);
    procedures = length program.procedures;
    lambdas = length program.lambdas;
    arities = arities_from;
    generics = generics_from;
  }

abbrev pub state_with : List ℕ → MidState
state_with words = record {
  arena = record {
    memory = map (λ w. Some w) words ++ replicate {A = Option ℕ} 4000 None;
    laid_from = 0;
    laid_to = 4 * length words;
    heap_from = 4 * length words;
    heap_to = 4 * length words;
    blocks = [];
  };
  printed = [];
  input = [];
  cost = 0;
}

-- a program, made flat, is lowered and run, with so many levels, and with words for its generic functions
abbrev pub run_with : List (List ℕ) → FlatProgram → (generics more : List ℕ) → (k : ℕ) → MidOutcome
run_with names program generics more k =
    runs (record { procedures = lowered names (placement names program) program; laid = [] }) k 500
    (start_number names (placement names program) program) [] (state_with (words_with names program generics more))

-- ---- ends

-- the word of a value that is no object
abbrev pub word_of : Value → ℕ
word_of (integer n) = integer_word n
word_of (character c) = character_word c
word_of v = nil_word

-- an end of code says what an ending of the meaning says
abbrev pub EndsAs : List Place → End → Ending → Type 0
EndsAs sites (halts w) (with_value v) = w ≡ word_of v
EndsAs sites (unhandled class site condition) (by_class c place) = (class ≡ c) × (place_of_site sites site ≡ place)
EndsAs sites no_level for_levels = ⊤
EndsAs sites e ending = ⊥

-- what is said of a program holds of its code: it ends so, prints that, and costs no more than the bound
pub record DoesWith (generics more : List ℕ) (names : List (List ℕ)) (program : ProgramRows) (k : ℕ) (limit : Limit) (ending : Ending) (printed : List ℕ) : Type 0 where
  pub ends : EndsAs program.sites (run_with names (flat_program program) generics more k).end ending
  pub prints : (run_with names (flat_program program) generics more k).state.printed ≡ printed
  pub cost : nat_le (run_with names (flat_program program) generics more k).state.cost (bound (meaning names program [] k limit).units) ≡ true

abbrev pub DoesLowered : List (List ℕ) → ProgramRows → ℕ → Limit → Ending → List ℕ → Type 0
DoesLowered = DoesWith [] []
