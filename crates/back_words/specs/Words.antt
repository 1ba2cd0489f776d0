-- **The words of a lowered program**: behind all objects, how many arguments each procedure and function takes, for each generic function an
-- address, and the words of each.
use Rattle.std.specs.Prelude.{◌≡◌, ℕ, ◌+◌, ◌*◌, List, ◌++◌, length, map, slice_index_or, is_some}
use Rattle.flat_language.specs.declared.program.FlatProcedure.{FlatProcedure}
use Rattle.flat_language.specs.declared.program.FlatProgram.{FlatProgram}
use Rattle.flat_language.specs.FlatNodes.{tables}
use Rattle.mid_arena.specs.Tags.{nil_word}
use Rattle.back_lowering.specs.declared.placement.Placement.{Placement}
use Rattle.back_relation.specs.Setting.{Setting}
use Rattle.back_relation.specs.Chains.{arity_word}
use Rattle.back_words.specs.Variables.{global_addresses, dynamic_addresses, variable_count}
use Rattle.back_words.specs.Blocks.{blocks, block_addresses}
use Rattle.back_words.specs.Generics.{generic_words}

-- how many arguments a procedure, or a function of a form, takes
abbrev pub arity_of : FlatProcedure → ℕ
arity_of q = arity_word (length q.required) (is_some q.rest)

abbrev pub arity_words : FlatProgram → List ℕ
arity_words program = map arity_of program.procedures ++ map arity_of program.lambdas

-- the words that begin at an address: where the addresses of generic functions stand, and where the words of these begin
abbrev pub generics_at : FlatProgram → (address : ℕ) → ℕ
generics_at program address = address + 4 * length (arity_words program)

abbrev pub generic_words_from : FlatProgram → (address : ℕ) → ℕ
generic_words_from program address = generics_at program address + 4 * length program.generics

-- the words of symbols by their names; other names have nil's word
abbrev pub symbol_among : List ℕ → ℕ → ℕ
symbol_among symbols n = slice_index_or symbols n nil_word

abbrev pub further_words : FlatProgram → (symbols : List ℕ) → (address : ℕ) → List ℕ
further_words program symbols address =
    arity_words program
    ++ (block_addresses (generic_words (tables program) (symbol_among symbols)) program.generics (generic_words_from program address)
    ++ blocks (generic_words (tables program) (symbol_among symbols)) program.generics (generic_words_from program address))

-- where all is laid, where literals and symbols have these words
abbrev pub placement_of : List (List ℕ) → FlatProgram → (literals symbols : List ℕ) → (address : ℕ) → Placement
placement_of names program literals symbols address = record {
  literals = literals;
  symbols = symbols;
  globals = global_addresses names program;
  dynamics = dynamic_addresses names program;
  procedures = length program.procedures;
  lambdas = length program.lambdas;
  arities = address;
  generics = generics_at program address;
}

-- a setting with these words
pub record HasWords (setting : Setting) (literals symbols : List ℕ) : Type 0 where
  pub placement : setting.at ≡ placement_of setting.names setting.program literals symbols setting.further_at
  pub variables : setting.variable_words ≡ variable_count setting.names setting.program
  pub further : setting.further ≡ further_words setting.program symbols setting.further_at
