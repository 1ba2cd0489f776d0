-- What code knows of a form's surroundings when it is written: the registers of slots and exits, of the function itself and of the
-- method's call, and what the site is.
use Rattle.std.specs.Prelude.{ℕ, zero, suc, ◌+◌, List, [], ◌∷◌, ◌++◌, map}
use Rattle.back_lowering.specs.declared.scope.SitePlace.{SitePlace}
use Rattle.back_lowering.specs.declared.scope.SitePlace.TheVariants.{Known}
use Rattle.back_lowering.specs.declared.scope.Reach.{Reach}
use Rattle.back_lowering.specs.declared.scope.Reach.TheVariants.{AtOnce, ByTransfer, BySearch}
use Rattle.back_lowering.specs.declared.scope.OwnExit.{OwnExit}
use Rattle.back_lowering.specs.declared.scope.Scope.{Scope}

abbrev pub with_slots : List ℕ → Scope → Scope
with_slots rs s = record s { slots = s.slots ++ rs }

abbrev pub with_exit : (serial record_register : ℕ) → Scope → Scope
with_exit e r s = record s { exits = s.exits ++ record { serial = e; record_register = r; reach = AtOnce } ∷ [] }

-- the form whose cleanup stands: a cut would pass it
abbrev pub behind_cleanup : Reach → Reach
behind_cleanup AtOnce = ByTransfer
behind_cleanup ByTransfer = ByTransfer
behind_cleanup BySearch = BySearch

abbrev pub inside_cleanup : Scope → Scope
inside_cleanup s = record s { exits = map (λ (x : OwnExit). record x { reach = behind_cleanup x.reach }) s.exits }

-- the cleanup itself, which may run because of a transfer
abbrev pub in_cleanup : Scope → Scope
in_cleanup s = record s { exits = map (λ (x : OwnExit). record x { reach = BySearch }) s.exits }

abbrev pub at_site : ℕ → Scope → Scope
at_site n s = record s { site = Known n }

-- registers one after another
abbrev pub registers_from : ℕ → ℕ → List ℕ
registers_from d zero = []
registers_from d (suc n) = d ∷ registers_from (d + 1) n
