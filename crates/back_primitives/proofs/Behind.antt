-- What stands where a primitive gave a value, and where an object was made.
use Rattle.std.proofs.Common.{◌≡◌, ℕ, suc, ◌+◌, ◌<◌, ◌≤◌, true, false, List, [], ◌∷◌, ◌++◌, length, Option, Some, None, refl, sym, ap, ◌∙◌, subst, ⊎_elim, arith}
use Rattle.std.specs.Prelude.{slice_get, if◌then◌else◌}
use Rattle.std.proofs.lemmas.Bool.Decides.{nat_tests}
use Rattle.std.proofs.lemmas.Option.{slice_get_within}
use Rattle.base.specs.Names.{slice_get-front, slice_get-push}
use Rattle.lang_meaning.specs.Objects.{Object, function, generic_function, fresh_symbol}
use Rattle.lang_meaning.specs.Values.{Value}
use Rattle.lang_meaning.specs.State.{Limit, words, unlimited, Outcome, full, has_room, room_left}
use Rattle.lang_meaning.specs.State as meaning
use Rattle.flat_language.specs.FlatNodes.{tables}
use Rattle.flat_language.specs.FlatState.{FlatState, FlatEvaluated, on_state, request}
use Rattle.flat_laws.specs.Blanks.{blank}
use Rattle.flat_laws.specs.PrimitiveKeeps.{PrimitiveKeeps}
use Rattle.mid_code.specs.Arena.{Arena}
use Rattle.mid_code.specs.State.{MidState}
use Rattle.mid_arena.specs.Answers.{KeepsWords}
use Rattle.mid_arena.specs.Places.{Spot, Places, of_object, spot_in, spot_of, with_object}
use Rattle.mid_arena.specs.Represents.{Represents}
use Rattle.mid_arena.proofs.Keeping.{old_spot, spot_in_tells}
use Rattle.back_relation.specs.Setting.{Setting, control_spot}
use Rattle.back_relation.specs.Worlds.{World}
use Rattle.back_relation.specs.Things.{FreshCounted, Things, WithinLimit}
use Rattle.back_relation.proofs.Fresh.{fresh_from}
use Rattle.back_relation.proofs.Standing.{KeepsMost, StandsBehind}
use Rattle.back_primitives.proofs.Answers.{IsNoFunction}

-- ---- objects

pub blank_function : (o : Option Object) (p : ℕ) → blank o ≡ Some (function p) → o ≡ Some (function p)
blank_function (Some (function q)) p e = e
blank_function (Some o) p e = absurd (cc e)
blank_function None p e = absurd (cc e)

pub blank_generic : (o : Option Object) (g : ℕ) → blank o ≡ Some (generic_function g) → o ≡ Some (generic_function g)
blank_generic (Some (generic_function h)) g e = e
blank_generic (Some o) g e = absurd (cc e)
blank_generic None g e = absurd (cc e)

pub blank_fresh : (o : Option Object) (serial : ℕ) → blank o ≡ Some (fresh_symbol serial) → o ≡ Some (fresh_symbol serial)
blank_fresh (Some (fresh_symbol n)) serial e = e
blank_fresh (Some o) serial e = absurd (cc e)
blank_fresh None serial e = absurd (cc e)

-- an object among those with one more, which is no function, was there
function_was :
    (objects : List Object) (o : Object) (i p : ℕ) → IsNoFunction o → slice_get (objects ++ o ∷ []) i ≡ Some (function p) → slice_get objects i ≡ Some (function p)
function_was objects o i p other e = ⊎_elim (λ old. old) (λ new. absurd (subst IsNoFunction new.1 other)) (slice_get-push objects o i (function p) e)

generic_was :
    (objects : List Object) (o : Object) (i g : ℕ) → IsNoFunction o → slice_get (objects ++ o ∷ []) i ≡ Some (generic_function g)
    → slice_get objects i ≡ Some (generic_function g)
generic_was objects o i g other e = ⊎_elim (λ old. old) (λ new. absurd (subst IsNoFunction new.1 other)) (slice_get-push objects o i (generic_function g) e)

-- and so was its spot
spot_was :
    (places : Places) (s r : Spot) (i : ℕ) → i < length places.objects → spot_of (with_object s places) (of_object i) ≡ Some r → spot_of places (of_object i) ≡ Some r
spot_was places s r i low e =
    let found = spot_in_tells (slice_get (places.objects ++ Some s ∷ []) i) r e in
    ⊎_elim (λ old. ap spot_in old) (λ new. absurd (omega (arith, low, new.0))) (slice_get-push places.objects (Some s) i (Some r) found)

-- ---- words

pub most_kept :
    (setting : Setting) {w : World} {z : FlatState} {y : MidState} → Things setting w z y → (b : Arena) → KeepsWords w.places z.state y.arena b
    → KeepsMost setting w.places z.state y.arena b
most_kept setting t b k = record {
  functions = k.functions;
  others = λ n s e. k.others (suc n) s e;
  control = λ x low high other. k.others 0 (control_spot setting) t.control x low high;
  stack = k.stack;
}

-- ---- a value

pub value_stands :
    (setting : Setting) {w : World} {z : FlatState} {y : MidState} (t : Things setting w z y) (set : Value) (z2 : meaning.State) (y2 : MidState)
    → PrimitiveKeeps set z.state z2 → Represents setting.names (tables setting.program) w.places z2 y2 → KeepsWords w.places z.state y.arena y2.arena
    → length y2.arena.memory ≡ length y.arena.memory → y2.arena.blocks ≡ y.arena.blocks → y.arena.heap_to ≤ y2.arena.heap_to
    → StandsBehind setting w z y w.places z2 y2
value_stands setting {w} {z} {y} t set z2 y2 keeps represents kept size blocks grows = record {
  represents = represents;
  spots = λ p s e. e;
  kept = most_kept setting t y2.arena kept;
  within = within setting.limit t.within_limit;
  variables = keeps.variables;
  globals = keeps.globals;
  dynamics = keeps.dynamics;
  exits = keeps.exits;
  laid_symbols = refl;
  fresh_symbols =
      fresh_from (λ i serial e. blank_fresh (slice_get z.state.store i) serial (sym (keeps.objects i) ∙ ap blank e)) keeps.symbols grows
      t.fresh_symbols;
  functions = λ i p s e f. (blank_function (slice_get z.state.store i) p (sym (keeps.objects i) ∙ ap blank e), f);
  still = λ i p e. blank_function (slice_get z2.store i) p (keeps.objects i ∙ ap blank e);
  generics = λ i g e. blank_generic (slice_get z.state.store i) g (sym (keeps.objects i) ∙ ap blank e);
  size = size;
  blocks = blocks;
}
  where
    within : (l : Limit) → WithinLimit l z.state → WithinLimit l z2
    within unlimited h = tt
    within (words m) h = omega (arith, h, keeps.heap, keeps.stack)

-- ---- an object more

-- a state with one object more, for which so many words were charged
pub record OneMore (size : ℕ) (o : Object) (z z3 : meaning.State) : Type 0 where
  pub store : z3.store ≡ z.store ++ o ∷ []
  pub variables : z3.variables ≡ z.variables
  pub globals : z3.globals ≡ z.globals
  pub dynamics : z3.dynamics ≡ z.dynamics
  pub exits : z3.exits ≡ z.exits
  pub heap : z3.heap ≡ z.heap + size
  pub stack : z3.stack ≡ z.stack + 0

pub object_stands :
    (setting : Setting) {w : World} {z : FlatState} {y : MidState} (t : Things setting w z y) (size : ℕ) (o : Object) (s : Spot) (z3 : meaning.State) (y2 : MidState)
    → OneMore size o z.state z3 → IsNoFunction o → has_room setting.limit (z.state.heap + z.state.stack + size + 0) ≡ true
    → Represents setting.names (tables setting.program) (with_object s w.places) z3 y2
    → KeepsWords w.places z.state y.arena y2.arena → length y2.arena.memory ≡ length y.arena.memory → y2.arena.blocks ≡ y.arena.blocks
    → FreshCounted z3.store z3.symbols y2.arena.heap_to → StandsBehind setting w z y (with_object s w.places) z3 y2
object_stands setting {w} {z} {y} t size o s z3 y2 one other room represents kept same_size blocks fresh = record {
  represents = represents;
  spots = λ p r e. old_spot s w.places p r e;
  kept = most_kept setting t y2.arena kept;
  within = within setting.limit room;
  variables = one.variables;
  globals = one.globals;
  dynamics = one.dynamics;
  exits = one.exits;
  laid_symbols = refl;
  fresh_symbols = fresh;
  functions = λ i p r e f.
      let old = function_was z.state.store o i p other (ap (λ os. slice_get os i) (sym one.store) ∙ e) in
      let low : i < length z.state.store = slice_get_within z.state.store i (function p) old in
      (old, spot_was w.places s r i (omega (arith, low, t.represents.count)) f);
  still = λ i p e. ap (λ os. slice_get os i) one.store ∙ slice_get-front z.state.store (o ∷ []) i (function p) e;
  generics = λ i g e. generic_was z.state.store o i g other (ap (λ os. slice_get os i) (sym one.store) ∙ e);
  size = same_size;
  blocks = blocks;
}
  where
    within : (l : Limit) → has_room l (z.state.heap + z.state.stack + size + 0) ≡ true → WithinLimit l z3
    within unlimited h = tt
    within (words m) h =
        let low : z.state.heap + z.state.stack + size + 0 ≤ m = grind (arith, nat_tests) in omega (arith, low, one.heap, one.stack)

-- ---- requests of the meaning

pub request_granted :
    (l : Limit) (size : ℕ) (z : FlatState) (following : FlatState → FlatEvaluated) → has_room l (z.state.heap + z.state.stack + size + 0) ≡ true
    → request l size 0 z following ≡ following (on_state (λ y. meaning.with_words size 0 y) z)
request_granted l size z following e =
    ap (λ b. if b then following (on_state (λ y. meaning.with_words size 0 y) z)
    else record { outcome = full (size + 0) (room_left l (z.state.heap + z.state.stack)); state = z }) e

pub request_refused :
    (l : Limit) (size : ℕ) (z : FlatState) (following : FlatState → FlatEvaluated) → has_room l (z.state.heap + z.state.stack + size + 0) ≡ false
    → request l size 0 z following ≡ record { outcome = full (size + 0) (room_left l (z.state.heap + z.state.stack)); state = z }
request_refused l size z following e =
    ap (λ b. if b then following (on_state (λ y. meaning.with_words size 0 y) z)
    else record { outcome = full (size + 0) (room_left l (z.state.heap + z.state.stack)); state = z }) e
