-- Links into the stack of frames. A link is a number of frames, counted from the outermost one: the innermost frame that links, among
-- the first so many, is meant. Frames are listed here with the innermost one first.
use Rattle.std.specs.Prelude.{ℕ, ◌++◌, nat_lt, List, [], ◌∷◌, Option, Some, None, length, if◌then◌else◌}

-- what a frame adds to a chain, and its link to what comes behind
pub record Linking (X : Type 0) : Type 0 where
  pub items : List X
  pub next : ℕ

abbrev pub links : {X : Type 0} → List X → ℕ → Option (Linking X)
links xs n = Some (record { items = xs; next = n })

-- what a frame adds to what is found behind it
abbrev pub following : {X : Type 0} → Option (Linking X) → (behind : ℕ → List X) → ℕ → List X
following None behind n = behind n
following (Some l) behind n = l.items ++ behind l.next

-- what is found from a link on, for frames that link so
unfoldable pub chained : {F X : Type 0} → (F → Option (Linking X)) → List F → ℕ → List X
chained of [] n = []
chained of (w ∷ ws) n = if nat_lt (length ws) n then following (of w) (λ m. chained of ws m) n else chained of ws n
