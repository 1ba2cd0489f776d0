-- Flags of procedures, of which some are marked.
use Rattle.std.specs.Prelude.{◌≡◌, ℕ, ◌<◌, Bool, false, ◌||◌, List, length, map, slice_index_or}
use Rattle.std.specs.List.{flat_map}
use Rattle.lang_meaning.specs.Lookup.{is_in}
use Rattle.lang_meaning.specs.declared.program.GenericRow.{GenericRow}
use Rattle.lang_meaning.specs.declared.program.MethodRow.{MethodRow}

-- the procedures of the methods of generic functions
abbrev pub methods_of : List GenericRow → List ℕ
methods_of generics = flat_map (λ (g : GenericRow). map (λ (m : MethodRow). m.procedure) g.methods) generics

-- so many flags, of which those of the list are set
pub record AreFlags (count : ℕ) (marked : List ℕ) (flags : List Bool) : Type 0 where
  pub size : length flags ≡ count
  pub each : (p : ℕ) → p < count → slice_index_or flags p false ≡ is_in p marked

-- after those of the list were set besides
pub record AreMarked (old : List Bool) (marked : List ℕ) (new : List Bool) : Type 0 where
  pub size : length new ≡ length old
  pub each : (p : ℕ) → p < length old → slice_index_or new p false ≡ (is_in p marked || slice_index_or old p false)
