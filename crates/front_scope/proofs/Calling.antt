-- Steps and expansions lead on: from a form to what is judged in its place.
use Rattle.std.proofs.Common.{◌≡◌, ◌<◌, ◌+◌, ◌∙◌, ℕ, nat_le, true, false, List, Some, None, length, refl, sym, ap, subst, arith}
use Rattle.std.proofs.lemmas.Bool.{lt-leb}
use Rattle.base.specs.declared.reason.Reason.TheVariants.{TooManyExpansions, ExpansionDepth}
use Rattle.base.specs.declared.reason.Refusal.{Refusal}
use Rattle.base.specs.declared.reason.Stop.{Stop}
use Rattle.base.specs.declared.reason.Stop.TheVariants.{Refused, NoMemory}
use Rattle.base.specs.Data.{Item, place_of}
use Rattle.base.specs.Names.{Extends, Extends-same, Extends-then}
use Rattle.base.specs.WellFormedData.{WellFormed, good_stays}
use Rattle.front_profile.specs.declared.tables.Tables.{Tables}
use Rattle.front_profile.specs.Cuts.{opened}
use Rattle.lang_meaning.specs.State.{unlimited}
use Rattle.lang_taken.specs.Laws.{LawOfForm}
use Rattle.lang_taken.specs.Taken.{greatest_depth, greatest_size}
use Rattle.front_profile.specs.Expansions.{expander_means, Expands, ExpansionStops}
use Rattle.front_profile.specs.Known.{KnownTables}
use Rattle.front_profile.specs.Marks.{TablesGrow}
use Rattle.front_profile.specs.Nodes.{StaticContext, Node, offends, calls, refused, ended}
use Rattle.front_profile.specs.Judged.{with_expansion, again, Elaborates, offence, expanded, expansion_stops}
use Rattle.front_profile.specs.Promises.{FormStops, Settles}
use Rattle.front_profile.specs.Rows.{node, plain_node, macro_called, most_expansions, most_in_row, called_as, called_or, settled_node}
use Rattle.front_profile.specs.bridge.Growing.{tables_grow_reflexive, tables_grow_transitive}
use Rattle.front_profile.specs.bridge.Later.{macro_later}
use Rattle.front_profile.specs.bridge.LaterExpansions.{expands_later, stops_later}
use Rattle.front_forms.specs.Settled.{with_symbols}
use Rattle.front_scope.proofs.Judging.{symbols_known}
use Rattle.front_programs.specs.Calls.{Begun}
use Rattle.front_scope.specs.Calls.{Leads, NodeEnds, Calls, Settled, Expansion}

pub begun_grows : (s t : Tables) → TablesGrow s t → Begun s → Begun t
begun_grows s t g b = record {
  first = b.first;
  whole = b.whole;
  small = b.small;
  few = b.few;
  grown = tables_grow_transitive (opened b.first) s t b.grown g;
}

-- an expansion is counted
pub expansion_grows : (s : Tables) (n : ℕ) → n ≡ s.expansions + 1 → TablesGrow s (record s { expansions = n })
expansion_grows s n same = let g = tables_grow_reflexive s in record {
  words = g.words;
  classes = g.classes;
  slots = g.slots;
  generics = g.generics;
  literals = g.literals;
  procedures = g.procedures;
  functions = g.functions;
  macros = g.macros;
  prelude = g.prelude;
  globals = g.globals;
  set = g.set;
  dynamics = g.dynamics;
  sites = g.sites;
  fresh = g.fresh;
  main = g.main;
  variables = g.variables;
  exits = g.exits;
  expansions = omega (arith, same);
  before = g.before;
}

-- one after another

pub leads_then : (names more : List (List ℕ)) (x y z : List (List ℕ) → Node) → Extends names more → Leads names x y → Leads more y z → Leads more x z
leads_then names more x y z e g h = record { under = λ later k v c. g.under later (Extends-then names more later e k) v (h.under later k v c) }

pub ends_then : (names more : List (List ℕ)) (x y : List (List ℕ) → Node) (stop : Stop) → Extends names more → Leads names x y → NodeEnds more y stop → NodeEnds more x stop
ends_then names more x y (Refused r) e g h = record { under = λ later k. g.under later (Extends-then names more later e k) _ (h.under later k) }
ends_then names more x y NoMemory e g h = tt

pub leads_later : (names more : List (List ℕ)) (x y : List (List ℕ) → Node) → Extends names more → Leads names x y → Leads more x y
leads_later names more x y e g = record { under = λ later k v c. g.under later (Extends-then names more later e k) v c }

pub as_form_stops : (names : List (List ℕ)) (a : StaticContext) (s : Tables) (d : Item) (stop : Stop) → NodeEnds names (λ later. node later a s d) stop → FormStops names a s d stop
as_form_stops names a s d (Refused r) h = record { under = h.under }
as_form_stops names a s d NoMemory h = tt

pub form_stops_so : (names : List (List ℕ)) (a : StaticContext) (s : Tables) (d : Item) (stop : Stop) → FormStops names a s d stop → NodeEnds names (λ later. node later a s d) stop
form_stops_so names a s d (Refused r) h = record { under = h.under }
form_stops_so names a s d NoMemory h = tt

-- steps
pub steps_lead : (names : List (List ℕ)) (a : StaticContext) (s : Tables) (d : Item) (t : Tables) (e : Item) → Settles names s d t e
    → Leads names (λ later. node later a s d) (λ later. settled_node later a t e)
steps_lead names a s d t e h = record { under = λ later k v c. h.under later k a v c }

-- what is no call
pub no_call_leads : (names : List (List ℕ)) (a : StaticContext) (s : Tables) (d : Item) → WellFormed (length names) d → macro_called names a s d ≡ None
    → Leads names (λ later. settled_node later a s d) (λ later. plain_node later a s d)
no_call_leads names a s d g none = record {
  under = λ later k v c.
      let same : settled_node later a s d ≡ plain_node later a s d =
      ap (λ o. called_or o a s d (plain_node later a s d)) (sym (macro_later names later a s d k g) ∙ none) in
      subst (λ (x : Node). Elaborates later x v) (sym same) c;
}

-- a call

is_called : (names later : List (List ℕ)) (a : StaticContext) (s : Tables) (d : Item) (m : ℕ) → Extends names later → WellFormed (length names) d
    → macro_called names a s d ≡ Some m → settled_node later a s d ≡ called_as m a s d
is_called names later a s d m k g e = ap (λ o. called_or o a s d (plain_node later a s d)) (sym (macro_later names later a s d k g) ∙ e)

-- within the limits
may_expand : (a : StaticContext) (s : Tables) (d : Item) (m : ℕ) → nat_le most_expansions s.expansions ≡ false → nat_le most_in_row a.spot.in_row ≡ false
    → called_as m a s d ≡ calls a s m d
may_expand a s d m few short = rw (few, short) refl

pub call_leads : (names : List (List ℕ)) (a : StaticContext) (s : Tables) (d : Item) (m : ℕ) (e : Item) → WellFormed (length names) d → macro_called names a s d ≡ Some m
    → nat_le most_expansions s.expansions ≡ false → nat_le most_in_row a.spot.in_row ≡ false → Expands names s m d (s.expansions + 1) e
    → Leads names (λ later. settled_node later a s d) (λ later. node later (again a) (with_expansion s) e)
call_leads names a s d m e g is few short h = record {
  under = λ later k v c.
      subst (λ (x : Node). Elaborates later x v) (sym (is_called names later a s d m k g is ∙ may_expand a s d m few short))
      (expanded a s m d e v (expands_later names later s m d (s.expansions + 1) e k h) c);
}

pub call_ends : (names : List (List ℕ)) (a : StaticContext) (s : Tables) (d : Item) (m : ℕ) (r : Refusal) → WellFormed (length names) d → macro_called names a s d ≡ Some m
    → nat_le most_expansions s.expansions ≡ false → nat_le most_in_row a.spot.in_row ≡ false → r.place ≡ place_of d
    → ExpansionStops names s m d (s.expansions + 1) r.reason → NodeEnds names (λ later. settled_node later a s d) (Refused r)
call_ends names a s d m r g is few short place h = record {
  under = λ later k.
      subst (λ (x : Node). Elaborates later x (ended (refused r.place r.reason))) (sym (is_called names later a s d m k g is ∙ may_expand a s d m few short))
      (subst (λ p. Elaborates later (calls a s m d) (ended (refused p r.reason))) (sym place)
      (expansion_stops a s m d r.reason (stops_later names later s m d (s.expansions + 1) r.reason k h)));
}

-- past them
pub too_many_ends : (names : List (List ℕ)) (a : StaticContext) (s : Tables) (d : Item) (m : ℕ) → WellFormed (length names) d → macro_called names a s d ≡ Some m
    → nat_le most_expansions s.expansions ≡ true
    → NodeEnds names (λ later. settled_node later a s d) (Refused (record { place = place_of d; reason = TooManyExpansions }))
too_many_ends names a s d m g is many = record {
  under = λ later k.
      let offends_so : called_as m a s d ≡ offends (place_of d) TooManyExpansions = rw many refl in
      subst (λ (x : Node). Elaborates later x (ended (refused (place_of d) TooManyExpansions))) (sym (is_called names later a s d m k g is ∙ offends_so))
      (offence (place_of d) TooManyExpansions);
}

pub too_deep_ends : (names : List (List ℕ)) (a : StaticContext) (s : Tables) (d : Item) (m : ℕ) → WellFormed (length names) d → macro_called names a s d ≡ Some m
    → nat_le most_expansions s.expansions ≡ false → nat_le most_in_row a.spot.in_row ≡ true
    → NodeEnds names (λ later. settled_node later a s d) (Refused (record { place = place_of d; reason = ExpansionDepth }))
too_deep_ends names a s d m g is few long = record {
  under = λ later k.
      let offends_so : called_as m a s d ≡ offends (place_of d) ExpansionDepth = rw (few, long) refl in
      subst (λ (x : Node). Elaborates later x (ended (refused (place_of d) ExpansionDepth))) (sym (is_called names later a s d m k g is ∙ offends_so))
      (offence (place_of d) ExpansionDepth);
}

-- what is answered of a call

pub expansion_good : LawOfForm → (names : List (List ℕ)) (s : Tables) (m : ℕ) (d : Item) (n : ℕ) (e : Item) → Expands names s m d n e → WellFormed (length names) e
expansion_good law names s m d n e h =
    good_stays h.expander.table names e h.expander.begins
    (law h.expander.table (expander_means h.expander.table s m d h.levels unlimited).store (place_of d) n greatest_depth greatest_size h.value e h.datum.rest h.datum.taken).0

pub call_gives : LawOfForm → (names : List (List ℕ)) (a : StaticContext) (s : Tables) (d : Item) (m n : ℕ) (e : Item) → WellFormed (length names) d
    → macro_called names a s d ≡ Some m → s.expansions < most_expansions → a.spot.in_row < most_in_row → n ≡ s.expansions + 1
    → Expands names s m d n e → Calls names a s d (record s { expansions = n }) e
call_gives law names a s d m n e g is few short same h =
    let there : Expands names s m d (s.expansions + 1) e = subst (λ k. Expands names s m d k e) same h in
    subst (λ k. Calls names a s d (record s { expansions = k }) e) (sym same)
    (
    record {
      leads = call_leads names a s d m e g is (lt-leb most_expansions s.expansions few) (lt-leb most_in_row a.spot.in_row short) there;
      good = expansion_good law names s m d (s.expansions + 1) e there;
      known = λ k. k;
      room = short;
    }
    )

-- as a call is refused, by its parts
abbrev pub StopsCall : List (List ℕ) → Tables → (macro : ℕ) → Item → (expansion : ℕ) → Stop → Type 0
StopsCall names s m d n (Refused r) = (r.place ≡ place_of d) × ExpansionStops names s m d n r.reason
StopsCall names s m d n NoMemory = Unit {0}

pub call_stops : (names : List (List ℕ)) (a : StaticContext) (s : Tables) (d : Item) (m n : ℕ) (stop : Stop) → WellFormed (length names) d
    → macro_called names a s d ≡ Some m → s.expansions < most_expansions → a.spot.in_row < most_in_row → n ≡ s.expansions + 1
    → StopsCall names s m d n stop → NodeEnds names (λ later. settled_node later a s d) stop
call_stops names a s d m n (Refused r) g is few short same h =
    call_ends names a s d m r g is (lt-leb most_expansions s.expansions few) (lt-leb most_in_row a.spot.in_row short) h.0
    (subst (λ k. ExpansionStops names s m d k r.reason) same h.1)
call_stops names a s d m n NoMemory g is few short same h = tt

-- turns

pub settled_same : (names : List (List ℕ)) (a : StaticContext) (s : Tables) (d : Item) (t u : Tables) (e : Item) → Settles names s d t e → WellFormed (length names) e
    → t ≡ with_symbols t.fresh s → macro_called names a t e ≡ None → u ≡ t → Settled names a s d a u e
settled_same names a s d t u e h g kept none same = record {
  leads = subst (λ (w : Tables). Leads names (λ later. node later a s d) (λ later. plain_node later a w e)) (sym same)
      (leads_then names names _ _ _ (Extends-same names) (steps_lead names a s d t e h) (no_call_leads names a t e g none));
  good = g;
  known = λ k. subst (λ (w : Tables). KnownTables w) (sym same) (symbols_known s t kept k);
}

pub expanded_then : (names : List (List ℕ)) (a : StaticContext) (s : Tables) (d : Item) (t : Tables) (e : Item) (u : Tables) (f : Item) → Settles names s d t e
    → t ≡ with_symbols t.fresh s → Calls names a t e u f → Expansion names a s d u f
expanded_then names a s d t e u f h kept c = record {
  leads = leads_then names names _ _ _ (Extends-same names) (steps_lead names a s d t e h) c.leads;
  good = c.good;
  known = λ k. c.known (symbols_known s t kept k);
  room = c.room;
}

pub stops_then : (names : List (List ℕ)) (a : StaticContext) (s : Tables) (d : Item) (t : Tables) (e : Item) (stop : Stop) → Settles names s d t e
    → NodeEnds names (λ later. settled_node later a t e) stop → FormStops names a s d stop
stops_then names a s d t e stop h k =
    as_form_stops names a s d stop (ends_then names names _ _ stop (Extends-same names) (steps_lead names a s d t e h) k)

-- the loop: where the walk stands

pub record Going (old names : List (List ℕ)) (a : StaticContext) (s : Tables) (d : Item) (b : StaticContext) (t : Tables) (e : Item) : Type 0 where
  pub later : Extends old names
  pub leads : Leads names (λ later. node later a s d) (λ later. node later b t e)
  pub good : WellFormed (length names) e
  pub known : KnownTables s → KnownTables t
  pub begun : Begun t
  pub grown : TablesGrow s t

pub going_none : (names : List (List ℕ)) (a : StaticContext) (s : Tables) (d : Item) → WellFormed (length names) d → Begun s → Going names names a s d a s d
going_none names a s d g b = record {
  later = Extends-same names;
  leads = record { under = λ later k v c. c };
  good = g;
  known = λ k. k;
  begun = b;
  grown = tables_grow_reflexive s;
}

pub going_more : (old names more : List (List ℕ)) (a : StaticContext) (s : Tables) (d : Item) (b : StaticContext) (t : Tables) (e : Item) (u : Tables) (f : Item)
    → Going old names a s d b t e → Extends names more → TablesGrow t u → Expansion more b t e u f → Going old more a s d (again b) u f
going_more old names more a s d b t e u f h x g c = record {
  later = Extends-then old names more h.later x;
  leads = leads_then names more _ _ _ x h.leads c.leads;
  good = c.good;
  known = λ k. c.known (h.known k);
  begun = begun_grows t u g h.begun;
  grown = tables_grow_transitive s t u h.grown g;
}

pub going_ends : (old names more : List (List ℕ)) (a : StaticContext) (s : Tables) (d : Item) (b : StaticContext) (t : Tables) (e : Item) (u : Tables) (f : Item)
    → Going old names a s d b t e → Extends names more → Settled more b t e b u f → Settled more a s d b u f
going_ends old names more a s d b t e u f h x c = record {
  leads = leads_then names more _ _ _ x h.leads c.leads;
  good = c.good;
  known = λ k. c.known (h.known k);
}

pub going_stops : (old names more : List (List ℕ)) (a : StaticContext) (s : Tables) (d : Item) (b : StaticContext) (t : Tables) (e : Item) (stop : Stop)
    → Going old names a s d b t e → Extends names more → FormStops more b t e stop → FormStops more a s d stop
going_stops old names more a s d b t e stop h x k =
    as_form_stops more a s d stop (ends_then names more _ _ stop x h.leads (form_stops_so more b t e stop k))
