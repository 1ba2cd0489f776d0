-- Tables of names that were added to.
use Rattle.std.specs.Prelude.{ℕ, List}
use Rattle.base.specs.Names.{Extends, Extends-same, Extends-then, Extends-with_text, with_text}

pub nothing_named : (names : List (List ℕ)) → Extends names names
nothing_named names = Extends-same names

pub one_named : (names : List (List ℕ)) (text : List ℕ) → Extends names (with_text names text)
one_named names text = Extends-with_text names text

pub more_named : (a b c : List (List ℕ)) → Extends a b → Extends b c → Extends a c
more_named a b c x y = Extends-then a b c x y
