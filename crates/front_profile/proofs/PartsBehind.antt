-- What a part leaves, with what those behind it leave.
use Rattle.std.proofs.Common.{◌≡◌, ◌+◌, ◌==◌, ◌≤◌, ⊎_elim, ℕ, Bool, true, false, ◌||◌, List, [], ◌∷◌, ◌++◌, length, refl, sym, ap, subst, ◌∙◌, slice_get, length-append, arith}
use Rattle.std.specs.List.{list_any}
use Rattle.std.proofs.lemmas.Bool.{or_left, or_right, and_from}
use Rattle.base.specs.declared.datum.Symbol.{Symbol}
use Rattle.lang_meaning.specs.declared.scope.LexicalScope.{LexicalScope}
use Rattle.lang_meaning.specs.declared.capture.Capture.{Capture as Captured}
use Rattle.lang_meaning.specs.declared.capture.Capture.TheVariants as part
use Rattle.lang_meaning.specs.Standing.{with_bound, exit_around}
use Rattle.lang_meaning.specs.Counts.{all_nodes}
use Rattle.front_profile.specs.declared.tables.Tables.{Tables}
use Rattle.front_profile.specs.declared.bound.Bound.TheVariants.{Variable}
use Rattle.front_profile.specs.Nodes.{StaticContext, with_bound as bind_in, Part, form, below, inner, bind, parameter, wrong, function, Standing, behind, recorded}
use Rattle.front_profile.specs.declared.spot.Spot.{Spot}
use Rattle.front_profile.specs.Judged.{with_variable, AllFound, Verdicts, all_stand, one_ended, in_front}
use Rattle.front_profile.specs.Scopes.{Provides, ScopeWithin}
use Rattle.front_profile.specs.Definitions.{Definitions, defined, Later, Undefined, SoundDefinitions, EachStands}
use Rattle.front_profile.specs.Places.{variables_around, scope_of, WellFormedContext}
use Rattle.front_profile.specs.Right.{NodesCounted}
use Rattle.front_profile.proofs.Forms.{right_later, right_within}
use Rattle.front_profile.proofs.Definitions.{later_same, later_then, undefined_then, each_stands_same, Entered, counted_then, counted_more}
use Rattle.front_profile.specs.Numbers.{Numbered}
use Rattle.front_profile.proofs.Numbers.{AllNumbered, numbered_wider, all_numbered_wider, next_number}
use Rattle.front_profile.proofs.Good.{good_later, good_variable}
use Rattle.front_profile.proofs.Places.{any_front, any_behind, variables_append, exits_append}
use Rattle.front_profile.proofs.Captured.{any_cases}
use Rattle.front_profile.proofs.Matches.{AllMatch, new_variables, all_match_within}
use Rattle.front_profile.proofs.Wanted.{spots, AllCame, AptPart, AllApt, part_nodes, counted_nodes, Want, nothing, never, right_at, one_procedure, wanted_nodes, LeavesAs}
use Rattle.base.specs.Names.{slice_get-behind}
use Rattle.base.specs.AllOf.{AllOf, all_map}
use Rattle.front_profile.specs.Nodes.{Written}
use Rattle.front_profile.proofs.Procedures.{MadeFrom, Same, IsProcedureOf, OneProcedureMore}
use Rattle.front_profile.proofs.Parts.{CameAs, AllCameTo, part_place, part_spot, part_tables, variable_entered}

-- a variable of a part is one of the variables that were found

variable_moved : (w v : ℕ) (vs us ks : List ℕ) → ks ≡ us ++ v ∷ [] → list_any (λ k. w == k) (vs ++ ks) ≡ true → list_any (λ k. w == k) ((v ∷ vs) ++ us) ≡ true
variable_moved w v vs us ks e h =
    let p : ℕ → Bool = λ k. w == k in
    ⊎_elim (λ k. or_right (w == v) _ (any_front p vs us k))
    (λ k. ⊎_elim (λ l. or_right (w == v) _ (any_behind p vs us l)) (λ l. or_left (w == v) _ (alone (w == v) l))
    (any_cases p us (v ∷ []) (ap (list_any p) (sym e) ∙ k)))
    (any_cases p vs ks h)
  where
    alone : (b : Bool) → (b || false) ≡ true → b ≡ true
    alone true k = refl
    alone false k = k

variable_within : (x : Symbol) (v : ℕ) (vs : List ℕ) (i : StaticContext)
    → ScopeWithin (with_bound vs (scope_of (bind_in (Variable x v) i))) (with_bound (v ∷ vs) (scope_of i))
variable_within x v vs i = record { provides = provides }
  where
    provides : (p : Captured) → Provides (with_bound vs (scope_of (bind_in (Variable x v) i))) (with_bound (v ∷ vs) (scope_of i)) p
    provides (part.Variable w) =
        variable_moved w v vs (variables_around i.bound) (variables_around (i.bound ++ Variable x v ∷ [])) (variables_append i.bound (Variable x v ∷ []))
    provides (part.Exit e) = λ a h. ap (exit_around e) (sym (exits_append i.bound (Variable x v ∷ []))) ∙ h
    provides part.Method = λ h. h

wider : (vs : List ℕ) (s : LexicalScope) → ScopeWithin s (with_bound vs s)
wider vs s = record { provides = provides }
  where
    provides : (p : Captured) → Provides s (with_bound vs s) p
    provides (part.Variable w) = any_behind (λ k. w == k) vs s.variables
    provides (part.Exit e) = λ a h. h
    provides part.Method = λ h. h

-- a part more

newer_from : (m n : ℕ) (vs : List ℕ) → m ≤ n → AllOf (λ v. n ≤ v) vs → AllOf (λ v. m ≤ v) vs
newer_from m n vs l e = all_map (λ v. n ≤ v) (λ v. m ≤ v) (λ v k. omega (arith, k, l)) vs e

-- those behind a variable that is bound match beside it too
bound_match : (o i : StaticContext) (s : Tables) (x : Symbol) (xs : List Part) (m : Standing) (r : AllFound)
    → AllCame o (bind_in (Variable x s.variables) i) (defined m.tables) xs r.found (defined r.tables)
    → AllMatch (record (spots (defined r.tables) o (bind_in (Variable x s.variables) i) r.found) { inside = with_bound (s.variables ∷ new_variables r.found) (scope_of i) }) xs r.found
bound_match o i s x xs m r a =
    all_match_within (spots (defined r.tables) o (bind_in (Variable x s.variables) i) r.found) (with_bound (s.variables ∷ new_variables r.found) (scope_of i)) xs r.found
    (variable_within x s.variables (new_variables r.found) i) a.match

-- the procedures of the parts behind one that left none
made_behind : (n : ℕ) (g h k : Definitions) (xs : List Part) → Undefined g h → MadeFrom (length h.procedures) xs k.procedures → MadeFrom (length g.procedures) xs k.procedures
made_behind n g h k xs u m = subst (λ (m : ℕ). MadeFrom m xs k.procedures) (ap length u.procedures) m

same_behind : (g h k : Definitions) → Undefined g h → Same h k → Same g k
same_behind g h k u s = record { classes = s.classes ∙ u.classes; generics = s.generics ∙ u.generics; functions = s.functions ∙ u.functions }

same_then : (g h k : Definitions) → Same g h → Same h k → Same g k
same_then g h k u s = record { classes = s.classes ∙ u.classes; generics = s.generics ∙ u.generics; functions = s.functions ∙ u.functions }

-- the tables with a variable more define the same
undefined_variable : (s : Tables) (h : Definitions) → Undefined (defined (with_variable s)) h → Undefined (defined s) h
undefined_variable s h u = record { procedures = u.procedures; classes = u.classes; generics = u.generics; functions = u.functions; macros = u.macros }

stand_variable : (s : Tables) → EachStands (defined s) → EachStands (defined (with_variable s))
stand_variable s e = each_stands_same (defined s) (defined (with_variable s)) (record { procedures = refl; classes = refl; generics = refl; functions = refl; macros = refl }) e

function_at : (w : Written) (g h k : Definitions) → OneProcedureMore w g h → Later h k → IsProcedureOf w k.procedures (length g.procedures)
function_at w g h k o l = record {
  procedure = o.procedure;
  at = l.kept (length g.procedures) o.procedure (ap (λ ps. slice_get ps (length g.procedures)) o.procedures ∙ slice_get-behind g.procedures o.procedure);
  is = o.is;
}

part_more : (o i : StaticContext) (s : Tables) (x : Part) (xs : List Part) (m : Standing) (r : AllFound) (n : ℕ) → SoundDefinitions (defined s) → AptPart n i x
    → CameAs (part_place o i x) (part_spot o i x) (defined (part_tables s x)) m → AllCame o (behind i s x) (defined m.tables) xs r.found (defined r.tables)
    → AllCame o i (defined s) (x ∷ xs) (recorded s x m.form ∷ r.found) (defined r.tables)
part_more o i s (form d) xs m r n w x c a = record {
  whole = a.whole;
  later = later_then (defined s) (defined m.tables) (defined r.tables) c.leaves.later a.later;
  main = a.main ∙ c.leaves.main;
  same = λ l. same_behind (defined s) (defined m.tables) (defined r.tables) (c.leaves.inside l.0) (a.same l.1);
  made = λ l. made_behind n (defined s) (defined m.tables) (defined r.tables) xs (c.leaves.inside l.0) (a.made l.1);
  undefined = λ p l. undefined_then (defined s) (defined m.tables) (defined r.tables) (c.leaves.inside l.0) (a.undefined p.1 l.1);
  stand = λ p e. a.stand p.1 (c.leaves.stand e);
  newer = newer_from s.variables m.tables.variables (new_variables r.found) c.leaves.later.variables a.newer;
  match = (right_later (defined m.tables) (defined r.tables) (scope_of o) o.spot.depth m.form a.later c.right, a.match);
}
part_more o i s (below d) xs m r n w x c a = record {
  whole = a.whole;
  later = later_then (defined s) (defined m.tables) (defined r.tables) c.leaves.later a.later;
  main = a.main ∙ c.leaves.main;
  same = λ l. same_behind (defined s) (defined m.tables) (defined r.tables) (c.leaves.inside refl) (a.same l.1);
  made = λ l. made_behind n (defined s) (defined m.tables) (defined r.tables) xs (c.leaves.inside refl) (a.made l.1);
  undefined = λ p l. undefined_then (defined s) (defined m.tables) (defined r.tables) (c.leaves.inside refl) (a.undefined p.1 l.1);
  stand = λ p e. a.stand p.1 (c.leaves.stand e);
  newer = newer_from s.variables m.tables.variables (new_variables r.found) c.leaves.later.variables a.newer;
  match = (right_later (defined m.tables) (defined r.tables) (scope_of o) (o.spot.depth + 1) m.form a.later c.right, a.match);
}
part_more o i s (inner d) xs m r n w x c a = record {
  whole = a.whole;
  later = later_then (defined s) (defined m.tables) (defined r.tables) c.leaves.later a.later;
  main = a.main ∙ c.leaves.main;
  same = λ l. same_behind (defined s) (defined m.tables) (defined r.tables) (c.leaves.inside l.0) (a.same l.1);
  made = λ l. made_behind n (defined s) (defined m.tables) (defined r.tables) xs (c.leaves.inside l.0) (a.made l.1);
  undefined = λ p l. undefined_then (defined s) (defined m.tables) (defined r.tables) (c.leaves.inside l.0) (a.undefined p.1 l.1);
  stand = λ p e. a.stand p.1 (c.leaves.stand e);
  newer = newer_from s.variables m.tables.variables (new_variables r.found) c.leaves.later.variables a.newer;
  match = (
    right_within (defined r.tables) (scope_of i) (with_bound (new_variables r.found) (scope_of i)) i.spot.depth m.form (wider (new_variables r.found) (scope_of i))
        (right_later (defined m.tables) (defined r.tables) (scope_of i) i.spot.depth m.form a.later c.right),
    a.match,
  );
}
part_more o i s (bind x d) xs m r n w k c a =
    let e : Entered (defined s) (defined (with_variable s)) = variable_entered s w in
    record {
      whole = a.whole;
      later = later_then (defined s) (defined m.tables) (defined r.tables) (later_then (defined s) (defined (with_variable s)) (defined m.tables) e.later c.leaves.later) a.later;
      main = a.main ∙ c.leaves.main;
      same = λ l. same_behind (defined s) (defined m.tables) (defined r.tables) (undefined_variable s (defined m.tables) (c.leaves.inside l.0)) (a.same l.1);
      made = λ l. made_behind n (defined s) (defined m.tables) (defined r.tables) xs (undefined_variable s (defined m.tables) (c.leaves.inside l.0)) (a.made l.1);
      undefined = λ p l.
          undefined_then (defined s) (defined m.tables) (defined r.tables) (undefined_variable s (defined m.tables) (c.leaves.inside l.0)) (a.undefined p.1 l.1);
      stand = λ p e. a.stand p.1 (c.leaves.stand (stand_variable s e));
      newer = (omega arith, newer_from s.variables m.tables.variables (new_variables r.found) (omega (arith, c.leaves.later.variables)) a.newer);
      match = (right_later (defined m.tables) (defined r.tables) (scope_of o) o.spot.depth m.form a.later c.right, bound_match o i s x xs m r a);
    }
part_more o i s (parameter x) xs m r n w k c a =
    let e : Entered (defined s) (defined (with_variable s)) = variable_entered s w in
    record {
      whole = a.whole;
      later = later_then (defined s) (defined m.tables) (defined r.tables) (later_then (defined s) (defined (with_variable s)) (defined m.tables) e.later c.leaves.later) a.later;
      main = a.main ∙ c.leaves.main;
      same = λ l. same_behind (defined s) (defined m.tables) (defined r.tables) (undefined_variable s (defined m.tables) (c.leaves.inside l.0)) (a.same l.1);
      made = λ l. made_behind n (defined s) (defined m.tables) (defined r.tables) xs (undefined_variable s (defined m.tables) (c.leaves.inside l.0)) (a.made l.1);
      undefined = λ p l.
          undefined_then (defined s) (defined m.tables) (defined r.tables) (undefined_variable s (defined m.tables) (c.leaves.inside l.0)) (a.undefined p.1 l.1);
      stand = λ p e. a.stand p.1 (c.leaves.stand (stand_variable s e));
      newer = (omega arith, newer_from s.variables m.tables.variables (new_variables r.found) (omega (arith, c.leaves.later.variables)) a.newer);
      match = (tt, bound_match o i s x xs m r a);
    }
part_more o i s (wrong p q) xs m r n w k c a = absurd c.right
part_more o i s (function f) xs m r n w k c a = record {
  whole = a.whole;
  later = later_then (defined s) (defined m.tables) (defined r.tables) c.leaves.later a.later;
  main = a.main ∙ c.leaves.main;
  same = λ l. same_then (defined s) (defined m.tables) (defined r.tables) c.leaves.same (a.same l.1);
  made = λ l. (
    function_at f (defined s) (defined m.tables) (defined r.tables) c.leaves a.later,
    subst (λ (n : ℕ). MadeFrom n xs r.tables.procedures) (ap length c.leaves.procedures ∙ length-append s.procedures (c.leaves.procedure ∷ [])) (a.made l.1),
  );
  undefined = λ p l. absurd p.0;
  stand = λ p e. absurd p.0;
  newer = newer_from s.variables m.tables.variables (new_variables r.found) c.leaves.later.variables a.newer;
  match = (tt, a.match);
}

-- the sites of a part, and of those behind it
part_counted : (o i : StaticContext) (s : Tables) (x : Part) (m : Standing) (k : Definitions) (n : ℕ) → i.spot.sited ≡ o.spot.sited
    → NodesCounted (part_spot o i x).sited (defined (part_tables s x)) (defined m.tables) (wanted_nodes (part_place o i x) m.form)
    → NodesCounted o.spot.sited (defined m.tables) k n → NodesCounted o.spot.sited (defined s) k (part_nodes x (recorded s x m.form) + n)
part_counted o i s (form d) m k n e c t = counted_then o.spot.sited (defined s) (defined m.tables) k (all_nodes m.form) n c t
part_counted o i s (below d) m k n e c t = counted_then o.spot.sited (defined s) (defined m.tables) k (all_nodes m.form) n c t
part_counted o i s (inner d) m k n e c t =
    counted_then o.spot.sited (defined s) (defined m.tables) k (all_nodes m.form) n
    (subst (λ (b : Bool). NodesCounted b (defined s) (defined m.tables) (all_nodes m.form)) e c) t
part_counted o i s (bind x d) m k n e c t =
    let here : NodesCounted o.spot.sited (defined s) (defined m.tables) (all_nodes m.form) = record { sites = c.sites } in
    counted_then o.spot.sited (defined s) (defined m.tables) k (all_nodes m.form) n here t
part_counted o i s (parameter x) m k n e c t =
    let here : NodesCounted o.spot.sited (defined s) (defined m.tables) 0 = record { sites = c.sites } in
    counted_then o.spot.sited (defined s) (defined m.tables) k 0 n here t
part_counted o i s (wrong p q) m k n e c t =
    counted_more o.spot.sited (defined s) k (0 + n) _ (omega arith) (counted_then o.spot.sited (defined s) (defined m.tables) k 0 n c t)
part_counted o i s (function w) m k n e c t = counted_then o.spot.sited (defined s) (defined m.tables) k 0 n c t

pub later_part : (s : Tables) (x : Part) (h : Definitions) → SoundDefinitions (defined s) → Later (defined (part_tables s x)) h → Later (defined s) h
later_part s (bind x d) h w l = later_then (defined s) (defined (with_variable s)) h (variable_entered s w).later l
later_part s (parameter x) h w l = later_then (defined s) (defined (with_variable s)) h (variable_entered s w).later l
later_part s other h w l = l

later_tables : (s : Tables) (x : Part) → SoundDefinitions (defined s) → Later (defined s) (defined (part_tables s x))
later_tables s (bind x d) w = (variable_entered s w).later
later_tables s (parameter x) w = (variable_entered s w).later
later_tables s other w = later_same (defined s)

-- what a part leaves is later
pub leaves_later : (Q : Want) (top : Bool) (g h : Definitions) → LeavesAs Q top g h → Later g h
leaves_later nothing top g h l = l.later
leaves_later never top g h l = l.later
leaves_later (right_at a) top g h l = l.later
leaves_later (one_procedure w) top g h l = l.later

pub leaves_sound : (Q : Want) (top : Bool) (g h : Definitions) → LeavesAs Q top g h → SoundDefinitions h
leaves_sound nothing top g h l = l.sound
leaves_sound never top g h l = l.sound
leaves_sound (right_at a) top g h l = l.sound
leaves_sound (one_procedure w) top g h l = l.whole

-- the numbers of a part, and of those behind it
part_numbered : (s : Tables) (x : Part) (m : Standing) (r : AllFound) → Later (defined s) (defined m.tables) → Later (defined (part_tables s x)) (defined m.tables)
    → Later (defined m.tables) (defined r.tables) → Numbered (defined s) (defined r.tables) m.form → AllNumbered (defined s) (defined r.tables) r.found
    → AllNumbered (defined s) (defined r.tables) (recorded s x m.form ∷ r.found)
part_numbered s (form d) m r l k e n a = record { forms = (n, a.forms); values = a.values; variables = a.variables }
part_numbered s (below d) m r l k e n a = record { forms = (n, a.forms); values = a.values; variables = a.variables }
part_numbered s (inner d) m r l k e n a = record { forms = (n, a.forms); values = a.values; variables = a.variables }
part_numbered s (bind x d) m r l k e n a = record {
  forms = a.forms;
  values = (n, a.values);
  variables = and_from _ _ (next_number s.variables r.tables.variables s.variables (omega arith) (omega (arith, k.variables, e.variables))) a.variables;
}
part_numbered s (parameter x) m r l k e n a = record {
  forms = a.forms;
  values = a.values;
  variables = and_from _ _ (next_number s.variables r.tables.variables s.variables (omega arith) (omega (arith, k.variables, e.variables))) a.variables;
}
part_numbered s (wrong p q) m r l k e n a = record { forms = (n, a.forms); values = a.values; variables = a.variables }
part_numbered s (function w) m r l k e n a = record { forms = (n, a.forms); values = a.values; variables = a.variables }

pub one_more_came : (o i : StaticContext) (s : Tables) (x : Part) (xs : List Part) (m : Standing) (w : Verdicts) (n : ℕ) → SoundDefinitions (defined s) → i.spot.sited ≡ o.spot.sited
    → AptPart n i x → CameAs (part_place o i x) (part_spot o i x) (defined (part_tables s x)) m → AllCameTo o (behind i s x) (defined m.tables) xs w
    → AllCameTo o i (defined s) (x ∷ xs) (in_front (recorded s x m.form) w)
one_more_came o i s x xs m (all_stand r) n w e a c b =
    let here : Later (defined (part_tables s x)) (defined m.tables) =
    leaves_later (part_place o i x) (part_spot o i x).top (defined (part_tables s x)) (defined m.tables) c.leaves in
    let part : Later (defined s) (defined m.tables) = later_part s x (defined m.tables) w here in
    let all : Later (defined m.tables) (defined r.tables) = b.0.later in (
      part_more o i s x xs m r n w a c b.0,
      part_counted o i s x m (defined r.tables) (counted_nodes xs r.found) e c.counted b.1,
      part_numbered s x m r part here all
          (numbered_wider (defined (part_tables s x)) (defined s) (defined m.tables) (defined r.tables) m.form (later_tables s x w) all c.numbered)
          (all_numbered_wider (defined m.tables) (defined s) (defined r.tables) (defined r.tables) r.found part (later_same (defined r.tables)) b.2),
    )
one_more_came o i s x xs m (one_ended y) n w e a c b = tt

pub good_behind : (i : StaticContext) (s : Tables) (x : Part) (n : ℕ) (h : Definitions) → AptPart n i x → WellFormedContext (defined s) i → Later (defined (part_tables s x)) h
    → WellFormedContext h (behind i s x)
good_behind i s (bind x d) n h a g l =
    good_later (defined (with_variable s)) h (bind_in (Variable x s.variables) i) l (good_variable (defined s) x i a.1 g)
good_behind i s (parameter x) n h a g l =
    good_later (defined (with_variable s)) h (bind_in (Variable x s.variables) i) l (good_variable (defined s) x i a g)
good_behind i s other n h a g l = good_later (defined s) h i l g

part_elsewhere : (n : ℕ) (i j : StaticContext) (x : Part) → i.spot ≡ j.spot → AptPart n i x → AptPart n j x
part_elsewhere n i j (bind x d) e a = (a.0, ap (λ (t : Spot). t.top) (sym e) ∙ a.1)
part_elsewhere n i j (parameter x) e a = ap (λ (t : Spot). t.top) (sym e) ∙ a
part_elsewhere n i j (function w) e a = (a.0, ap (λ (t : Spot). t.top) (sym e) ∙ a.1)
part_elsewhere n i j other e a = a

pub elsewhere : (n : ℕ) (i j : StaticContext) (xs : List Part) → i.spot ≡ j.spot → AllApt n i xs → AllApt n j xs
elsewhere n i j [] e a = tt
elsewhere n i j (x ∷ xs) e a = (part_elsewhere n i j x e a.0, elsewhere n i j xs e a.1)

pub same_spot : (i : StaticContext) (s : Tables) (x : Part) → i.spot ≡ (behind i s x).spot
same_spot i s (form d) = refl
same_spot i s other = refl
