-- Parts that were judged one after another, under a table of names and every later one.
use Rattle.std.specs.Prelude.{◌≡◌, ℕ, List, [], ◌∷◌, ◌++◌}
use Rattle.base.specs.declared.reason.Stop.{Stop}
use Rattle.base.specs.declared.reason.Stop.TheVariants.{Refused, NoMemory}
use Rattle.base.specs.Names.{Extends}
use Rattle.lang_meaning.specs.Form.{Form}
use Rattle.front_profile.specs.declared.elaboration.ElaboratedPart.{ElaboratedPart}
use Rattle.front_profile.specs.declared.elaboration.Made.{Made}
use Rattle.front_profile.specs.declared.tables.Tables.{Tables}
use Rattle.front_profile.specs.Nodes.{StaticContext, Part, whole, EarlyEnd, refused, Standing, Verdict, stands, ended, behind, recorded}
use Rattle.front_profile.specs.Judged.{subject, Verdicts, one_ended, in_front, Elaborates, ElaboratesAll}

-- a part comes to that form
pub record PartStands (names : List (List ℕ)) (o i : StaticContext) (s : Tables) (x : Part) (m : Standing) : Type 0 where
  pub under : (later : List (List ℕ)) → Extends names later → Elaborates later (subject later o i s x) (stands m)

-- what was found of it is appended, and its variable is bound for the parts behind it
pub record PartTaken (names : List (List ℕ)) (o i : StaticContext) (s : Tables) (x : Part) (rs : List ElaboratedPart) (i2 : StaticContext) (t : Tables) (rs2 : List ElaboratedPart) : Type 0 where
  pub form : Form
  pub part : PartStands names o i s x (record { form = form; tables = t })
  pub found : rs2 ≡ rs ++ recorded s x form ∷ []
  pub around : i2 ≡ behind i s x

pub record PartEnds (names : List (List ℕ)) (o i : StaticContext) (s : Tables) (x : Part) (e : EarlyEnd) : Type 0 where
  pub under : (later : List (List ℕ)) → Extends names later → Elaborates later (subject later o i s x) (ended e)

abbrev pub PartStops : List (List ℕ) → StaticContext → StaticContext → Tables → Part → Stop → Type 0
PartStops names o i s x (Refused r) = PartEnds names o i s x (refused r.place r.reason)
PartStops names o i s x NoMemory = Unit {0}

-- these in front
abbrev pub all_in_front : List ElaboratedPart → Verdicts → Verdicts
all_in_front [] w = w
all_in_front (r ∷ rs) w = in_front r (all_in_front rs w)

-- whatever the parts behind come to, with these in front is what all come to
pub record Through (names : List (List ℕ)) (o i : StaticContext) (s : Tables) (xs : List Part) (rs : List ElaboratedPart) (i2 : StaticContext) (t : Tables) (ys : List Part) : Type 0 where
  pub under : (later : List (List ℕ)) → Extends names later → (w : Verdicts) → ElaboratesAll later o i2 t ys w → ElaboratesAll later o i s xs (all_in_front rs w)

-- a stop among the parts
pub record PartsEnd (names : List (List ℕ)) (o i : StaticContext) (s : Tables) (xs : List Part) (e : EarlyEnd) : Type 0 where
  pub under : (later : List (List ℕ)) → Extends names later → ElaboratesAll later o i s xs (one_ended e)

abbrev pub PartsStop : List (List ℕ) → StaticContext → StaticContext → Tables → List Part → Stop → Type 0
PartsStop names o i s xs (Refused r) = PartsEnd names o i s xs (refused r.place r.reason)
PartsStop names o i s xs NoMemory = Unit {0}

-- what a form with parts comes to
pub record WholeComes (names : List (List ℕ)) (o i : StaticContext) (s : Tables) (xs : List Part) (m : Made) (v : Verdict) : Type 0 where
  pub under : (later : List (List ℕ)) → Extends names later → Elaborates later (whole o i s xs m) v

abbrev pub WholeStops : List (List ℕ) → StaticContext → StaticContext → Tables → List Part → Made → Stop → Type 0
WholeStops names o i s xs m (Refused r) = WholeComes names o i s xs m (ended (refused r.place r.reason))
WholeStops names o i s xs m NoMemory = Unit {0}
