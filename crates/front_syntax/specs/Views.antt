-- What contracts see of data that borrow: texts, data, bindings, clauses.
use Rattle.std.specs.Prelude.{ℕ, List, map, Option, Some, None}
use Rattle.std.specs.Borrow.{Bor}
use Rattle.base.specs.Data.{Item}
use Rattle.front_syntax.specs.declared.shapes.Pair.{Pair as Written}
use Rattle.front_syntax.specs.declared.shapes.ClauseParts.{ClauseParts as WrittenClause}
use Rattle.front_profile.specs.Shapes.{Pair, ClauseParts}

abbrev pub texts : List (Bor (List ℕ)) → List (List ℕ)
texts ts = map (λ t. t.now) ts

abbrev pub data_of : List (Bor Item) → List Item
data_of ds = map (λ d. d.now) ds

abbrev pub view_pair : Written → Pair
view_pair p = record { name = p.name; datum = p.datum.now }

abbrev pub maybe_pair : Option Written → Option Pair
maybe_pair None = None
maybe_pair (Some p) = Some (view_pair p)

abbrev pub view_pairs : List Written → List Pair
view_pairs ps = map view_pair ps

abbrev pub maybe_pairs : Option (List Written) → Option (List Pair)
maybe_pairs None = None
maybe_pairs (Some ps) = Some (view_pairs ps)

abbrev pub view_clause : WrittenClause → ClauseParts
view_clause c = record { test = c.test.now; body = c.body.now }

abbrev pub maybe_clause : Option WrittenClause → Option ClauseParts
maybe_clause None = None
maybe_clause (Some c) = Some (view_clause c)

abbrev pub view_clauses : List WrittenClause → List ClauseParts
view_clauses cs = map view_clause cs

abbrev pub maybe_clauses : Option (List WrittenClause) → Option (List ClauseParts)
maybe_clauses None = None
maybe_clauses (Some cs) = Some (view_clauses cs)
