-- Where the value of a dynamic variable is: the walk along the cells of bindings, with a turn for each that it passes.
use Rattle.std.proofs.Common.{◌≡◌, inl, inr, ℕ, zero, suc, ◌+◌, ◌*◌, ◌/◌, ◌%◌, ◌^◌, ◌<◌, ◌≤◌, Bool, true, false, List, [], ◌∷◌, length, Option, Some, None, refl, sym, ap, ◌∙◌, subst, ⊎_elim, arith}
use Rattle.std.specs.Prelude.{⊤, ◌==◌, slice_get, if◌then◌else◌}
use Rattle.std.specs.Str.{bytes_eq}
use Rattle.std.proofs.lemmas.Bool.{cases_lt, eq-eqb, ne_eqb}
use Rattle.std.proofs.lemmas.Slice.Eq.{bytes_eq-Decides}
use Rattle.lang_meaning.specs.Lookup.{text, passed}
use Rattle.lang_meaning.specs.Values.{nil}
use Rattle.flat_language.specs.FlatState.{FlatState, gives}
use Rattle.mid_code.specs.declared.operation.Counted.TheVariants.{Turn}
use Rattle.mid_code.specs.declared.program.MidProcedure.{MidProcedure}
use Rattle.mid_code.specs.Arena.{left, word_at}
use Rattle.mid_code.specs.Meaning.{Task, levels}
use Rattle.mid_code.specs.MidCode.{MidStep}
use Rattle.mid_code.specs.State.{Registers, MidState, MidOutcome, falls, ends}
use Rattle.mid_arena.specs.Places.{of_other}
use Rattle.mid_arena.specs.Standing.{ArenaStands}
use Rattle.mid_arena.proofs.Doing.{paid}
use Rattle.mid_arena.proofs.Growing.{spot_below}
use Rattle.mid_arena.proofs.Running.{StepsTo, turning, frame_of, entered, and_then, and_ends, none_left, costing, constant_falls, compute_known, load_falls, return_ends, choose_first_ends, choose_first_falls, choose_second_falls, choose_second_ends, repeat_falls, repeat_turn, address_up, address_above}
use Rattle.mid_arena.proofs.WordFacts.{sum_fits}
use Rattle.back_lowering.specs.ControlWords.{bindings_address, binding_variable, binding_value, binding_outer}
use Rattle.back_lowering.specs.Placement.{dynamic_address}
use Rattle.back_lowering.specs.Program.{procedure_with}
use Rattle.back_lowering.specs.RoutineCodes.{turns_while, binding_code}
use Rattle.back_lowering.specs.Routines.{binding_routine}
use Rattle.back_lowering.specs.Steps.{constant, load, if_equal}
use Rattle.back_relation.specs.Setting.{Setting, control_spot}
use Rattle.back_relation.specs.Ends.{Ends, done, left_by, full_there, stopped, few_turns}
use Rattle.back_relation.specs.Placed.{IsPlaced, HasDynamic}
use Rattle.back_relation.specs.Worlds.{World, on_stack}
use Rattle.back_relation.specs.StackWords.{BindingsAt}
use Rattle.back_relation.specs.Things.{Things}
use Rattle.back_relation.specs.RoutineClaims.{PlaceOfDynamic, Looks}
use Rattle.back_relation.specs.Room.{looking_words}
use Rattle.back_relation.proofs.Stops.{stopped_less}
use Rattle.back_conditions.specs.Looking.{LooksAnywhere, binding_under, PlaceOf, binding_most, LawOfBindings, LawOfBindingClaims}
use Rattle.back_conditions.proofs.Counting.{IsNone, Differ, Below, few_below}
use Rattle.back_conditions.proofs.Entering.{with_frame_of, BodyLooks, looks_up}
use Rattle.back_conditions.proofs.Finding.{routine_used}
use Rattle.back_conditions.proofs.Frames.{word_there, laid_word}

-- the loop, where the variable's address is in 0, the cell in 2, and 1 has 0
abbrev seeks : MidStep
seeks = turns_while (constant 4 0 ∷ if_equal 2 1 [] (load 3 2 binding_variable ∷ if_equal 3 0 [] (constant 4 1 ∷ []) ∷ []) ∷ []) 4 1 (load 2 2 binding_outer ∷ [])

abbrev at_cell : (x a : ℕ) → (r3 r4 : Option ℕ) → Registers
at_cell x a r3 r4 = Some x ∷ Some 0 ∷ Some a ∷ r3 ∷ r4 ∷ []

-- how many bindings are passed before the one of the name
abbrev turns_for : List ℕ → List (List ℕ × ℕ) → ℕ
turns_for name [] = 0
turns_for name (b ∷ bs) = if bytes_eq name b.0 then 0 else suc (turns_for name bs)

turns_few : (name : List ℕ) (bs : List (List ℕ × ℕ)) → turns_for name bs ≤ length bs
turns_few name [] = omega arith
turns_few name (b ∷ bs) = by (bytes_eq name b.0) (turns_few name bs)
  where
    by : (t : Bool) → turns_for name bs ≤ length bs → (if t then 0 else suc (turns_for name bs)) ≤ suc (length bs)
    by true h = omega arith
    by false h = omega (arith, h)

abbrev is_named : List ℕ → (List ℕ × ℕ) → Bool
is_named name b = bytes_eq name b.0

module _ (setting : Setting) (placed : IsPlaced setting) (w : World) (y : MidState) (arena : ArenaStands y.arena) where
  abbrev At : ℕ → List (List ℕ × ℕ) → Type 0
  At a bs = BindingsAt setting w y a bs

  -- ---- how many cells there are

  -- a chain from an address has one length
  same_length : (bs cs : List (List ℕ × ℕ)) (a : ℕ) → At a bs → At a cs → length bs ≡ length cs
  same_length [] [] a t u = refl
  same_length [] (c ∷ cs) a t u = absurd (omega (arith, t, u.5))
  same_length (b ∷ bs) [] a t u = absurd (omega (arith, u, t.5))
  same_length (b ∷ bs) (c ∷ cs) a t u =
      let same : t.6.0 ≡ u.6.0 = cc (t.6.1, u.6.1) in ap suc (same_length bs cs u.6.0 (subst (λ o. At o bs) same t.6.2) u.6.2)

  abbrev cells : (bs : List (List ℕ × ℕ)) (a : ℕ) → At a bs → List ℕ
  cells [] a t = []
  cells (b ∷ bs) a t = a / 4 ∷ cells bs t.6.0 t.6.2

  cell_count : (bs : List (List ℕ × ℕ)) (a : ℕ) (t : At a bs) → length (cells bs a t) ≡ length bs
  cell_count [] a t = refl
  cell_count (b ∷ bs) a t = ap suc (cell_count bs t.6.0 t.6.2)

  -- it is at the address of a word
  record AtWord (a : ℕ) : Type 0 where
    aligned : a % 4 ≡ 0
    below : a / 4 < length y.arena.memory
    low : a + 8 < 2 ^ 32

  cell_there : (b : List ℕ × ℕ) (bs : List (List ℕ × ℕ)) (a : ℕ) → At a (b ∷ bs) → AtWord a
  cell_there b bs a t =
      let there = word_there y.arena (a + binding_variable) _ arena t.0.3 in
      let size = arena.size in
      record { aligned = omega (arith, there.aligned); below = omega (arith, there.below); low = omega (arith, there.below, size) }

  cells_below : (bs : List (List ℕ × ℕ)) (a : ℕ) (t : At a bs) → Below (length y.arena.memory) (cells bs a t)
  cells_below [] a t = tt
  cells_below (b ∷ bs) a t = ((cell_there b bs a t).below, cells_below bs t.6.0 t.6.2)

  not_inside :
      (d : List ℕ × ℕ) (ds : List (List ℕ × ℕ)) (a : ℕ) → At a (d ∷ ds) → (cs : List (List ℕ × ℕ)) (c : ℕ) (u : At c cs) → length cs < length (d ∷ ds)
      → IsNone (a / 4) (cells cs c u)
  not_inside d ds a t [] c u few = tt
  not_inside d ds a t (e ∷ cs) c u few = (
    λ same.
        let here = cell_there d ds a t in
        let there = cell_there e cs c u in
        let one : a ≡ c = omega (arith, same, here.aligned, there.aligned) in
        let as_long = same_length (d ∷ ds) (e ∷ cs) c (subst (λ x. At x (d ∷ ds)) one t) u in
        omega (arith, as_long, few),
    not_inside d ds a t cs u.6.0 u.6.2 (omega (arith, few)),
  )

  cells_differ : (bs : List (List ℕ × ℕ)) (a : ℕ) (t : At a bs) → Differ (cells bs a t)
  cells_differ [] a t = tt
  cells_differ (b ∷ bs) a t = (not_inside b bs a t bs t.6.0 t.6.2 (omega arith), cells_differ bs t.6.0 t.6.2)

  -- no more than words of the memory
  few_cells : (bs : List (List ℕ × ℕ)) (a : ℕ) → At a bs → length bs ≤ length y.arena.memory
  few_cells bs a t =
      let few = few_below (length y.arena.memory) (cells bs a t) (cells_differ bs a t) (cells_below bs a t) in omega (arith, few, cell_count bs a t)

  -- ---- the walk

  module _ (n : ℕ) (has : HasDynamic setting n) where
    abbrev x : ℕ
    x = dynamic_address setting.at n

    abbrev name : List ℕ
    name = text setting.names n

    -- the cell of the variable's binding, or 0
    abbrev CellIs : ℕ → Option ℕ → Type 0
    CellIs to None = to ≡ 0
    CellIs to (Some i) = (1 ≤ to) × (to + 8 < 2 ^ 32) × (slice_get w.boxes i ≡ Some (on_stack (to + binding_value)))

    -- where all words that are there are there too
    abbrev HasAll : MidState → Type 0
    HasAll x = (p word : ℕ) → word_at y.arena p ≡ Some word → word_at x.arena p ≡ Some word

    record Walked (procedures : List MidProcedure) (below : Task → MidState → MidOutcome) (turns_left : ℕ) (v : MidState) (a : ℕ) (r3 r4 : Option ℕ) (cost to count saved : ℕ) : Type 0 where
      third : Option ℕ
      fourth : Option ℕ
      total : ℕ
      runs : StepsTo (turning procedures below turns_left) seeks (at_cell x a r3 r4) (paid v cost) (ends falls (at_cell x to third fourth) (paid v total))
      within : total + saved ≤ cost + 70 * count + 32

    -- where the binding is found, the last turn is none
    abbrev Saves : ℕ → Option ℕ → Type 0
    Saves saved None = ⊤
    Saves saved (Some i) = 48 ≤ saved

    record Found (a : ℕ) (bs : List (List ℕ × ℕ)) : Type 0 where
      to : ℕ
      saved : ℕ
      place : CellIs to (binding_under name bs)
      saves : Saves saved (binding_under name bs)
      walk :
          (procedures : List MidProcedure) (below : Task → MidState → MidOutcome) (turns_left : ℕ) (v : MidState) (r3 r4 : Option ℕ) (cost : ℕ) → HasAll v
          → turns_for name bs ≤ turns_left → Walked procedures below turns_left v a r3 r4 cost to (passed (is_named name) bs) saved

    found_none : (a : ℕ) → At a [] → Found a []
    found_none a t = record {
      to = a;
      saved = 0;
      place = t;
      saves = tt;
      walk = λ procedures below turns_left v r3 r4 cost all enough. record {
        third = r3;
        fourth = Some 0;
        total = cost + 6 + 12 + 2 + 12;
        runs = repeat_falls (and_then constant_falls (and_then (choose_first_falls refl refl (eq-eqb a 0 t) none_left) none_left)) refl refl refl;
        within = omega arith;
      };
    }

    -- the cell's variable is that one, or another
    here_same : (b : List ℕ × ℕ) (bs : List (List ℕ × ℕ)) (a : ℕ) (t : At a (b ∷ bs)) → bytes_eq name b.0 ≡ true → (dynamic_address setting.at t.0.0 == x) ≡ true
    here_same b bs a t e =
        let same : name ≡ b.0 = (bytes_eq-Decides name b.0).0 e in eq-eqb _ _ (placed.dynamics.same t.0.0 n t.0.2 has (t.0.1 ∙ sym same))

    here_other : (b : List ℕ × ℕ) (bs : List (List ℕ × ℕ)) (a : ℕ) (t : At a (b ∷ bs)) → bytes_eq name b.0 ≡ false → (dynamic_address setting.at t.0.0 == x) ≡ false
    here_other b bs a t e =
        ne_eqb _ _ (λ same. let one : name ≡ b.0 = sym (placed.dynamics.apart t.0.0 n t.0.2 has same) ∙ t.0.1 in absurd (cc (e, (bytes_eq-Decides name b.0).1 one)))

    -- **the binding is found**
    find : (bs : List (List ℕ × ℕ)) (a : ℕ) → At a bs → Found a bs
    find [] a t = found_none a t
    find (b ∷ bs) a t = by (bytes_eq name b.0) refl (find bs t.6.0 t.6.2)
      where
        some : (a == 0) ≡ false
        some = ne_eqb a 0 (λ e. omega (arith, e, t.5))

        low : a + 8 < 2 ^ 32
        low = (cell_there b bs a t).low

        variable_here : (v : MidState) → HasAll v → word_at v.arena (a + binding_variable) ≡ Some (dynamic_address setting.at t.0.0)
        variable_here v all = all (a + binding_variable) _ t.0.3

        by : (q : Bool) → bytes_eq name b.0 ≡ q → Found t.6.0 bs → Found a (b ∷ bs)
        by true e inner = record {
          to = a;
          saved = 48;
          place = rw e (t.5, low, t.1);
          saves = rw e (omega arith);
          walk = λ procedures below turns_left v r3 r4 cost all enough. record {
            third = Some (dynamic_address setting.at t.0.0);
            fourth = Some 0;
            total = cost + 6 + 12 + 8 + 12 + 2 + 2 + 12;
            runs =
                repeat_falls
                (and_then constant_falls
                (and_then
                (choose_second_falls refl refl some
                (and_then (load_falls refl (address_up a binding_variable (omega (arith, low))) (variable_here v all))
                (and_then (choose_first_falls refl refl (here_same b bs a t e) none_left) none_left)))
                none_left))
                refl refl refl;
            within = rw e (omega arith);
          };
        }
        by false e inner = record {
          to = inner.to;
          saved = inner.saved;
          place = rw e inner.place;
          saves = rw e inner.saves;
          walk = λ procedures below turns_left v r3 r4 cost all enough. further procedures below turns_left v r3 r4 cost all (rw e at enough);
        }
          where
            further :
                (procedures : List MidProcedure) (below : Task → MidState → MidOutcome) (turns_left : ℕ) (v : MidState) (r3 r4 : Option ℕ) (cost : ℕ) → HasAll v
                → suc (turns_for name bs) ≤ turns_left → Walked procedures below turns_left v a r3 r4 cost inner.to (passed (is_named name) (b ∷ bs)) inner.saved
            further procedures below zero v r3 r4 cost all enough = absurd (omega (arith, enough))
            further procedures below (suc m) v r3 r4 cost all enough =
                let rest = inner.walk procedures below m v (Some (dynamic_address setting.at t.0.0)) (Some 1) (cost + 6 + 12 + 8 + 12 + 6 + 2 + 2 + 12 + 8 + 2) all (omega (arith, enough)) in
                record {
                  third = rest.third;
                  fourth = rest.fourth;
                  total = rest.total;
                  runs =
                      repeat_turn procedures below m
                      (and_then constant_falls
                      (and_then
                      (choose_second_falls refl refl some
                      (and_then (load_falls refl (address_up a binding_variable (omega (arith, low))) (variable_here v all))
                      (and_then (choose_second_falls refl refl (here_other b bs a t e) (and_then constant_falls none_left)) none_left)))
                      none_left))
                      refl refl refl (and_then (load_falls refl (address_up a binding_outer low) (all (a + binding_outer) _ t.6.1)) none_left) rest.runs;
                  within = rw e (omega (arith, rest.within));
                }

-- ---- the routine

abbrev given : Setting → MidProcedure
given setting = procedure_with Turn 1 (binding_code setting.at)

given_small : (setting : Setting) → (given setting).frame ≤ 8
unfolding binding_code
given_small setting = omega arith

-- the address of the value
abbrev value_address : (x to : ℕ) → Option ℕ → ℕ
value_address x to None = x
value_address x to (Some i) = to + binding_value

module _ (setting : Setting) (placed : IsPlaced setting) (w : World) (z : FlatState) (y : MidState) (n : ℕ) (has : HasDynamic setting n) where
  body_walks :
      (k m frame a : ℕ) (bs : List (List ℕ × ℕ)) (t : Things setting w z y) → word_at y.arena bindings_address ≡ Some a
      → (f : Found setting placed w y t.represents.arena n has a bs) → frame ≤ left y.arena → turns_for (text setting.names n) bs ≤ m
      → BodyLooks setting k m (with_frame_of frame (given setting)) (dynamic_address setting.at n ∷ [])
      (value_address (dynamic_address setting.at n) f.to (binding_under (text setting.names n) bs)) (binding_most (text setting.names n) bs) y
  unfolding binding_code
  body_walks k m frame a bs t cell f some enough = by (binding_under (text setting.names n) bs) f.place f.saves
    where
      p : MidProcedure
      p = with_frame_of frame (given setting)

      all : HasAll setting placed w y t.represents.arena n has (entered p y)
      all q word e = laid_word y.arena (frame_of p) q word t.represents.arena some e

      walked : Walked setting placed w y t.represents.arena n has setting.procedures (levels setting.procedures setting.turns_each k) m (entered p y) a None None (y.cost + 26 + 6 + 8) f.to (passed (is_named (text setting.names n)) bs) f.saved
      walked = f.walk setting.procedures (levels setting.procedures setting.turns_each k) m (entered p y) None None (y.cost + 26 + 6 + 8) all enough

      by :
          (o : Option ℕ) → CellIs setting placed w y t.represents.arena n has f.to o → Saves setting placed w y t.represents.arena n has f.saved o
          → BodyLooks setting k m p (dynamic_address setting.at n ∷ []) (value_address (dynamic_address setting.at n) f.to o) (binding_most (text setting.names n) bs) y
      by None place saves = record {
        registers = at_cell (dynamic_address setting.at n) f.to walked.third walked.fourth;
        cost = walked.total + 26;
        runs =
            costing {n = walked.total + 26}
            (and_then constant_falls
            (and_then (load_falls refl (address_above 0 bindings_address bindings_address (omega arith) (omega arith)) (all bindings_address a cell))
            (and_then walked.runs
            (and_ends tt (choose_first_ends tt refl refl (eq-eqb f.to 0 place) (and_ends tt (return_ends refl)))))))
            (omega arith);
        within = omega (arith, walked.within);
      }
      by (Some i) place saves = record {
        registers = at_cell (dynamic_address setting.at n) (f.to + binding_value) (Some binding_value) walked.fourth;
        cost = walked.total + 42;
        runs =
            costing {n = walked.total + 42}
            (and_then constant_falls
            (and_then (load_falls refl (address_above 0 bindings_address bindings_address (omega arith) (omega arith)) (all bindings_address a cell))
            (and_then walked.runs
            (and_ends tt
            (choose_second_ends tt refl refl (ne_eqb f.to 0 (λ e. omega (arith, e, place.0)))
            (and_then constant_falls
            (and_then (compute_known refl refl (sum_fits f.to binding_value (let low : f.to + 8 < 2 ^ 32 = place.1 in omega (arith, low))))
            (and_ends tt (return_ends refl)))))))))
            (omega arith);
        within = omega (arith, walked.within, saves);
      }

-- **where the value of a dynamic variable is**
pub bindings_law : LawOfBindings
bindings_law setting k turns rs valid w around z y room placed t around_stands n has = (
  value_address (dynamic_address setting.at n) f.to (binding_under (text setting.names n) around.bindings),
  low (binding_under (text setting.names n) around.bindings) f.place,
  place (binding_under (text setting.names n) around.bindings) f.place,
  looks,
)
  where
    f : Found setting placed w y t.represents.arena n has around_stands.bindings_cell around.bindings
    f = find setting placed w y t.represents.arena n has around.bindings around_stands.bindings_cell around_stands.bindings

    low : (o : Option ℕ) → CellIs setting placed w y t.represents.arena n has f.to o → value_address (dynamic_address setting.at n) f.to o + 4 ≤ 2 ^ 32
    low None h =
        let stands = t.represents.arena in
        let spot = spot_below stands (t.represents.spots (of_other 1) (control_spot setting) t.control) in
        let word = placed.dynamics.there n has in
        omega (arith, word.below, spot, stands.room, stands.size)
    low (Some i) h = let few : f.to + 8 < 2 ^ 32 = h.1 in omega (arith, few)

    place : (o : Option ℕ) → CellIs setting placed w y t.represents.arena n has f.to o → PlaceOf setting w n (value_address (dynamic_address setting.at n) f.to o) o
    place None h = refl
    place (Some i) h = h.2

    few : length around.bindings ≤ length y.arena.memory
    few = few_cells setting placed w y t.represents.arena around.bindings around_stands.bindings_cell around_stands.bindings

    looks : LooksAnywhere setting k turns rs valid w around z y room (binding_most (text setting.names n) around.bindings) (binding_routine setting.at) (dynamic_address setting.at n ∷ []) (value_address (dynamic_address setting.at n) f.to (binding_under (text setting.names n) around.bindings))
    looks =
        looks_up setting k turns rs valid w around z y room (binding_most (text setting.names n) around.bindings) (binding_routine setting.at)
        (dynamic_address setting.at n ∷ []) _ (given setting) (routine_used setting 18 (given setting) placed refl) refl refl (given_small setting) (omega arith)
        (λ m frame left_turns begins some.
        ⊎_elim (λ less. let most = turns_few (text setting.names n) around.bindings in inr (omega (arith, less, most, few, left_turns)))
        (λ enough. inl (body_walks setting placed w z y n has k m frame around_stands.bindings_cell around.bindings t around_stands.bindings_word f some enough))
        (cases_lt m (turns_for (text setting.names n) around.bindings)))

-- the same as it is claimed
pub binding_claims_law : LawOfBindingClaims
binding_claims_law setting k turns rs valid w around z y placed t around_stands n has =
    let found = bindings_law setting k turns rs valid w around z y looking_words placed t around_stands n has in
    (found.0, place found.0 (binding_under (text setting.names n) around.bindings) found.2, λ begins. more found.0 (found.3 (omega arith) begins))
  where
    place : (address : ℕ) (o : Option ℕ) → PlaceOf setting w n address o → PlaceOfDynamic setting k turns rs valid w around z y n address o
    place address None h = h
    place address (Some i) h = h

    more :
        (address : ℕ) {q : MidOutcome}
        → Ends setting (binding_most (text setting.names n) around.bindings)
        (Looks setting k turns rs valid w around z y (binding_most (text setting.names n) around.bindings) address q) ⊥ turns z y (gives nil z) q
        → Ends setting (150 + 100 * passed (is_named (text setting.names n)) around.bindings)
        (Looks setting k turns rs valid w around z y (150 + 100 * passed (is_named (text setting.names n)) around.bindings) address q) ⊥ turns z y (gives nil z) q
    more address (done l) =
        done (record {
          end = l.end;
          world = l.world;
          back = record { control = l.back.control; blocks = l.back.blocks; charged = l.back.charged; paid = omega (arith, l.back.paid) };
        })
    more address (left_by l) = left_by l
    more address (full_there l) = full_there l
    more address (stopped l) = stopped (stopped_less setting (omega arith) l)
    more address (few_turns l) = few_turns l
