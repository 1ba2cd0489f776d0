-- Bytes at the front of others, and behind them.
use Rattle.std.specs.Prelude.{◌≡◌, ℕ, List, ◌++◌}

-- some bytes are a prefix of others
pub record IsPrefix (few many : List ℕ) : Type 0 where
  pub rest : List ℕ
  pub is : few ++ rest ≡ many

-- some bytes are the last ones of others
pub record IsLastOf (few many : List ℕ) : Type 0 where
  pub front : List ℕ
  pub is : front ++ few ≡ many
