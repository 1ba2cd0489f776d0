-- What fits into words.
use Rattle.std.specs.Prelude.{ℕ, ◌+◌, ◌^◌, ◌<◌, length}
use Rattle.base.specs.AllOf.{AllOf}
use Rattle.lang_dispatch.specs.declared.chain.Chain.{Chain}

abbrev pub IsSmall : ℕ → Type 0
IsSmall p = p < 2 ^ 28

-- the procedures of a chain have small numbers, and few of its methods run before or after the first primary one
pub record ChainFits (c : Chain) : Type 0 where
  pub around : AllOf IsSmall c.around
  pub before : AllOf IsSmall c.before
  pub primary : AllOf IsSmall c.primary
  pub after : AllOf IsSmall c.after
  pub few : length c.before + length c.after < 2 ^ 26
