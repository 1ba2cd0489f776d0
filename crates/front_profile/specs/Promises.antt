-- What a form stands for under a table of names, and stays so under every later one, since names are added while a form is
-- judged.
use Rattle.std.specs.Prelude.{ℕ, List, Option, Some, None}
use Rattle.base.specs.declared.reason.Stop.{Stop}
use Rattle.base.specs.declared.reason.Stop.TheVariants.{Refused, NoMemory}
use Rattle.base.specs.Names.{Extends}
use Rattle.base.specs.Data.{Item}
use Rattle.front_profile.specs.declared.tables.Tables.{Tables}
use Rattle.front_profile.specs.Nodes.{StaticContext, refused, Verdict, ended}
use Rattle.front_profile.specs.Rows.{node, plain_node, settled_node}
use Rattle.front_profile.specs.Judged.{Elaborates}

-- the datum comes to the verdict
pub record FormComes (names : List (List ℕ)) (a : StaticContext) (s : Tables) (d : Item) (v : Verdict) : Type 0 where
  pub under : (later : List (List ℕ)) → Extends names later → Elaborates later (node later a s d) v

-- the same of a datum that is taken for no derived form and no call of a macro
pub record PlainComes (names : List (List ℕ)) (a : StaticContext) (s : Tables) (d : Item) (v : Verdict) : Type 0 where
  pub under : (later : List (List ℕ)) → Extends names later → Elaborates later (plain_node later a s d) v

-- the steps of a datum lead to another, with these tables: whatever that one comes to, which is no derived form, the first does
pub record Settles (names : List (List ℕ)) (s : Tables) (d : Item) (t : Tables) (e : Item) : Type 0 where
  pub under : (later : List (List ℕ)) → Extends names later → (a : StaticContext) (v : Verdict) →
      Elaborates later (settled_node later a t e) v → Elaborates later (node later a s d) v

-- a stop of a form is its first offence, or want of memory
abbrev pub FormStops : List (List ℕ) → StaticContext → Tables → Item → Stop → Type 0
FormStops names a s d (Refused r) = FormComes names a s d (ended (refused r.place r.reason))
FormStops names a s d NoMemory = Unit {0}

abbrev pub PlainStops : List (List ℕ) → StaticContext → Tables → Item → Stop → Type 0
PlainStops names a s d (Refused r) = PlainComes names a s d (ended (refused r.place r.reason))
PlainStops names a s d NoMemory = Unit {0}

-- a stop of the steps, wherever the form stands
abbrev pub StepsStop : List (List ℕ) → Tables → Item → Stop → Type 0
StepsStop names s d stop = (a : StaticContext) → FormStops names a s d stop

-- the datum that the steps led to, or the datum itself
abbrev pub settled_datum : Option Item → Item → Item
settled_datum None d = d
settled_datum (Some e) d = e
