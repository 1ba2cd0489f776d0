-- **What a macro's call expands to, or why it is refused** (ISO/IEC 13816:2007, 16). Its expander runs as a program of its own, which has no
-- input, and the value stands for a datum. How many words and instructions it has are this profile's own: its code may do with fewer words and
-- instructions than those by which its meaning bounds it, so what is said of them here says when a call may be refused for them.
use Rattle.std.specs.Prelude.{◌≡◌, ◌<◌, ◌≤◌, ℕ, ◌+◌, List, [], length}
use Rattle.base.specs.declared.place.Place.{Place}
use Rattle.base.specs.declared.reason.Reason.{Reason}
use Rattle.base.specs.declared.reason.Reason.TheVariants.{ExpanderUnhandled, ExpanderPrinted, ExpanderArena, ExpanderBudget}
use Rattle.base.specs.Data.{Item, place_of}
use Rattle.base.specs.Names.{Extends}
use Rattle.lang_meaning.specs.declared.program.ProgramRows.{ProgramRows}
use Rattle.lang_meaning.specs.Counts.{bound}
use Rattle.lang_meaning.specs.Meaning.{Meant, meaning, End, ended_value, ended_unhandled, ended_full, ended_more}
use Rattle.lang_meaning.specs.ProgramCounts.{program_nodes}
use Rattle.lang_meaning.specs.State.{Limit, words, unlimited}
use Rattle.lang_meaning.specs.Values.{Value}
use Rattle.lang_reached.specs.Remaining.{KeepsReached}
use Rattle.lang_reached.specs.Sizes.{most_words}
use Rattle.lang_taken.specs.Taken.{DatumOf}
use Rattle.lang_taken.specs.Failing.{DatumFails}
use Rattle.front_profile.specs.declared.tables.Tables.{Tables}
use Rattle.front_profile.specs.Expanders.{program_of}
use Rattle.front_profile.specs.ProgramNames.{NamesIn}

-- how many nodes its program may have, the words of its arena, and its instructions

abbrev pub most_expander_nodes : ℕ
most_expander_nodes = 100000

abbrev pub expander_words : ℕ
expander_words = 262144

abbrev pub expander_instructions : ℕ
expander_instructions = 20000000

-- and what the start of a run takes: its frame of two words, and the reserve of a main form
abbrev pub run_start_words : ℕ
run_start_words = 57

-- the words that the image of a program, of which nothing is left out, and the start of its run take at most
abbrev pub most_image_words : ProgramRows → ℕ
most_image_words program = most_words program + run_start_words

-- what the expander of a call means, with so many levels and within that limit of words
abbrev pub expander_means : List (List ℕ) → Tables → (macro : ℕ) → Item → (levels : ℕ) → Limit → Meant
expander_means names s m d levels limit = meaning names (program_of s m d) [] levels limit

-- the program of a call, under a table with all its names, with which the one begins in which symbols are numbered
pub record HasExpander (names : List (List ℕ)) (s : Tables) (m : ℕ) (d : Item) : Type 0 where
  pub table : List (List ℕ)
  pub begins : Extends table names
  pub named : NamesIn (length table) (program_of s m d)
  pub small : program_nodes (program_of s m d) ≤ most_expander_nodes

-- a value, or a condition that no handler took
abbrev pub IsHalt : End → Type 0
IsHalt (ended_value v) = Unit {0}
IsHalt (ended_unhandled c p) = Unit {0}
IsHalt (ended_full asked left) = ⊥
IsHalt ended_more = ⊥

-- the expander ends with that value and prints nothing
pub record GivesSilently (m : Meant) (v : Value) : Type 0 where
  pub ends : m.end ≡ ended_value v
  pub silent : m.printed ≡ []

-- **the call stands for that datum**, by the expansion with that number
pub record Expands (names : List (List ℕ)) (s : Tables) (m : ℕ) (d : Item) (expansion : ℕ) (e : Item) : Type 0 where
  pub expander : HasExpander names s m d
  pub levels : ℕ
  pub value : Value
  pub gives : GivesSilently (expander_means expander.table s m d levels unlimited) value
  pub datum : DatumOf expander.table (expander_means expander.table s m d levels unlimited).store (place_of d) expansion value e

-- **the call is refused**
pub data ExpansionStops (names : List (List ℕ)) (s : Tables) (m : ℕ) (d : Item) (expansion : ℕ) : Reason → Type 0 where
  is_unhandled :
      (x : HasExpander names s m d) (levels : ℕ) (c : Value) (p : Place) → (expander_means x.table s m d levels unlimited).end ≡ ended_unhandled c p
      → ExpansionStops names s m d expansion ExpanderUnhandled
  has_printed :
      (x : HasExpander names s m d) (levels : ℕ) (v : Value) → (expander_means x.table s m d levels unlimited).end ≡ ended_value v
      → ((expander_means x.table s m d levels unlimited).printed ≡ [] → ⊥) → ExpansionStops names s m d expansion ExpanderPrinted
  is_no_datum :
      (x : HasExpander names s m d) (levels : ℕ) (v : Value) (r : Reason) → GivesSilently (expander_means x.table s m d levels unlimited) v
      → DatumFails x.table (expander_means x.table s m d levels unlimited).store (place_of d) expansion v r
      → ExpansionStops names s m d expansion r
  too_many_nodes : most_expander_nodes < program_nodes (program_of s m d) → ExpansionStops names s m d expansion ExpanderArena
  -- where the image of what the form reaches may have no room in the arena
  large_image :
      (x : HasExpander names s m d) (left : ProgramRows) → KeepsReached x.table (program_of s m d) left → expander_words < most_image_words left
      → ExpansionStops names s m d expansion ExpanderArena
  -- where the words are too few that the arena has at least beside the image
  full :
      (x : HasExpander names s m d) (left : ProgramRows) (room levels asked over : ℕ) → KeepsReached x.table (program_of s m d) left
      → expander_words ≤ room + most_image_words left → (expander_means x.table s m d levels (words room)).end ≡ ended_full asked over
      → ExpansionStops names s m d expansion ExpanderArena
  -- where the instructions by which the run is bounded are too many
  long :
      (x : HasExpander names s m d) (levels : ℕ) → IsHalt (expander_means x.table s m d levels unlimited).end
      → expander_instructions < bound (expander_means x.table s m d levels unlimited).units → ExpansionStops names s m d expansion ExpanderBudget
  -- and where the run has no end within as many levels as it may take instructions
  endless :
      (x : HasExpander names s m d) → (expander_means x.table s m d expander_instructions unlimited).end ≡ ended_more
      → ExpansionStops names s m d expansion ExpanderBudget
