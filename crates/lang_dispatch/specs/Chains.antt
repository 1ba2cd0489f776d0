-- The chain of a call (ISO/IEC 13816:2007, 15.3.4), as the tables keep it.
use Rattle.std.specs.Prelude.{◌≡◌, ℕ, Bool, List, map, drop, Option, Some, None, slice_get}
use Rattle.lang_meaning.specs.declared.program.MethodRow.{MethodRow}
use Rattle.lang_meaning.specs.Objects.{Chain}
use Rattle.lang_meaning.specs.declared.program.ClassRow.{ClassRow}
use Rattle.lang_meaning.specs.Classes.{more_specific}
use Rattle.lang_dispatch.specs.OfClasses.{with_classes}
use Rattle.lang_dispatch.specs.declared.chain.Chain.{Chain as Kept}

-- the chain that is kept, as the meaning has it
abbrev pub seen : Kept → Chain
seen c = record { around = c.around; before = c.before; primary = c.primary; after = c.after }

abbrev pub maybe_seen : Option Kept → Option Chain
maybe_seen (Some c) = Some (seen c)
maybe_seen None = None

-- more specific by the arguments from one on
abbrev pub more_specific_from : List ClassRow → ℕ → List ℕ → List ℕ → List ℕ → Bool
more_specific_from rows at cs ms ns = more_specific (with_classes rows) (drop at cs) (drop at ms) (drop at ns)

-- the methods at these numbers are these
abbrev pub ArePicked : List MethodRow → List ℕ → List MethodRow → Type 0
ArePicked methods numbers picked = map (slice_get methods) numbers ≡ map Some picked
