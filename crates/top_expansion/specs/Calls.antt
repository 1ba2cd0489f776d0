-- A call of a macro whose program was compiled and run.
use Rattle.std.specs.Prelude.{◌≡◌, ◌≤◌, ℕ, List, []}
use Rattle.lang_meaning.specs.Meaning.{Meant}
use Rattle.lang_meaning.specs.ProgramCounts.{program_nodes}
use Rattle.lang_meaning.specs.State.{unlimited}
use Rattle.front_profile.specs.Expanders.{program_of}
use Rattle.front_profile.specs.Expansions.{expander_instructions, expander_means, most_expander_nodes}
use Rattle.front_programs.specs.declared.expanding.MacroCall.{MacroCall}
use Rattle.rv_machine.specs.State as machine
use Rattle.back_build.specs.declared.building.Built.{Built}
use Rattle.back_build.specs.Values.{LeavesValue}
use Rattle.top_expansion.specs.Compiles.{IsCompiled}

-- its program was compiled, and has few nodes
pub record IsCompiledCall (names : List (List ℕ)) (call : MacroCall) (built : Built) : Type 0 where
  pub is_compiled : IsCompiled names (program_of call.tables.now call.macro_number call.datum.now) built
  pub small : program_nodes (program_of call.tables.now call.macro_number call.datum.now) ≤ most_expander_nodes

-- what its expander means, with as many levels as it may take instructions
abbrev pub call_means : List (List ℕ) → MacroCall → Meant
call_means names call = expander_means names call.tables.now call.macro_number call.datum.now expander_instructions unlimited

-- it prints nothing, and a word in the memory stands for its value
pub record ShowsValue
    (names : List (List ℕ)) (call : MacroCall) (built : Built) (s : machine.State) (word : ℕ) : Type 0 where
  pub leaves : LeavesValue names built.symbols (call_means names call) s word
  pub silent : (call_means names call).printed ≡ []
