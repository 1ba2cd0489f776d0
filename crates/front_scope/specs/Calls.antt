-- Calls of macros in the walk (ISO/IEC 13816:2007, 16): what a form leads to by its steps and by expansions.
use Rattle.std.specs.Prelude.{◌≡◌, ◌<◌, ℕ, List, Option, Some, None, length}
use Rattle.base.specs.declared.reason.Stop.{Stop}
use Rattle.base.specs.declared.reason.Stop.TheVariants.{Refused, NoMemory}
use Rattle.base.specs.Data.{Item}
use Rattle.base.specs.Names.{Extends}
use Rattle.base.specs.WellFormedData.{WellFormed}
use Rattle.front_profile.specs.declared.tables.Tables.{Tables}
use Rattle.front_profile.specs.Known.{KnownTables}
use Rattle.front_profile.specs.Nodes.{StaticContext, Node, refused, Verdict, ended}
use Rattle.front_profile.specs.Judged.{again, Elaborates}
use Rattle.front_profile.specs.Promises.{settled_datum}
use Rattle.front_profile.specs.Rows.{node, plain_node, settled_node, most_in_row, macro_called}
use Rattle.front_scope.specs.declared.calls.Turn.{Turn}
use Rattle.front_scope.specs.declared.calls.Turn.TheVariants.{Stands, Expanded}

-- a node leads to another: whatever that comes to, under a table of names or a later one, it does
pub record Leads (names : List (List ℕ)) (x y : List (List ℕ) → Node) : Type 0 where
  pub under : (later : List (List ℕ)) → Extends names later → (v : Verdict) → Elaborates later (y later) v → Elaborates later (x later) v

-- it is refused, or memory was wanting
pub record Ends (names : List (List ℕ)) (x : List (List ℕ) → Node) (v : Verdict) : Type 0 where
  pub under : (later : List (List ℕ)) → Extends names later → Elaborates later (x later) v

abbrev pub NodeEnds : List (List ℕ) → (List (List ℕ) → Node) → Stop → Type 0
NodeEnds names x (Refused r) = Ends names x (ended (refused r.place r.reason))
NodeEnds names x NoMemory = Unit {0}

-- a datum that is no derived form is no call of a macro, or it expands to that

pub record Calls (names : List (List ℕ)) (a : StaticContext) (s : Tables) (d : Item) (t : Tables) (e : Item) : Type 0 where
  pub leads : Leads names (λ later. settled_node later a s d) (λ later. node later (again a) t e)
  pub good : WellFormed (length names) e
  pub known : KnownTables s → KnownTables t
  pub room : a.spot.in_row < most_in_row

abbrev pub CallGives : List (List ℕ) → StaticContext → Tables → Item → Tables → Option Item → Type 0
CallGives names a s d t None = (macro_called names a s d ≡ None) × (t ≡ s)
CallGives names a s d t (Some e) = Calls names a s d t e

-- steps and then a call, if it is one: the form is settled, or there is an expansion to go on with

pub record Settled (names : List (List ℕ)) (a : StaticContext) (s : Tables) (d : Item) (b : StaticContext) (t : Tables) (e : Item) : Type 0 where
  pub leads : Leads names (λ later. node later a s d) (λ later. plain_node later b t e)
  pub good : WellFormed (length names) e
  pub known : KnownTables s → KnownTables t

pub record Expansion (names : List (List ℕ)) (a : StaticContext) (s : Tables) (d : Item) (t : Tables) (e : Item) : Type 0 where
  pub leads : Leads names (λ later. node later a s d) (λ later. node later (again a) t e)
  pub good : WellFormed (length names) e
  pub known : KnownTables s → KnownTables t
  pub room : a.spot.in_row < most_in_row

abbrev pub TurnGives : List (List ℕ) → StaticContext → Tables → Item → Tables → Turn → Type 0
TurnGives names a s d t (Stands found) = Settled names a s d a t (settled_datum found d)
TurnGives names a s d t (Expanded e) = Expansion names a s d t e
