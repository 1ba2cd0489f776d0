-- In front of the turns of a tagbody: a serial number is drawn for its exit, and the first segment is next; or there is no number.
use Rattle.std.proofs.Common.{◌≡◌, inl, ℕ, ◌+◌, ◌<◌, ◌≤◌, true, false, List, [], ◌∷◌, ◌++◌, length, Option, Some, refl, sym, ap, ◌∙◌, arith, length-append}
use Rattle.std.specs.Prelude.{◌^◌, ◌-◌, ◌==◌, pos, slice_get, slice_set}
use Rattle.std.proofs.lemmas.Bool.{eqb-false}
use Rattle.std.proofs.lemmas.Option.{slice_get_within}
use Rattle.std.proofs.Math.ListN.{length-set}
use Rattle.base.specs.Names.{slice_get-front, slice_get-behind}
use Rattle.lang_meaning.specs.declared.scope.ExitForm.{ExitForm}
use Rattle.lang_meaning.specs.declared.scope.ExitForm.TheVariants.{Tagbody}
use Rattle.lang_meaning.specs.State.{Exit}
use Rattle.flat_language.specs.FlatState.{FlatState, exit_made}
use Rattle.mid_code.specs.declared.operation.Operation.TheVariants.{Draw}
use Rattle.mid_code.specs.Arena.{word_in, is_lent, stack_from}
use Rattle.mid_code.specs.Meaning.{Context}
use Rattle.mid_code.specs.MidCode.{perform, code_of}
use Rattle.mid_code.specs.State.{Registers, register, falls, exhausted, ends, MidState}
use Rattle.mid_code.specs.State.{charged as mid_charged}
use Rattle.mid_arena.specs.Standing.{ArenaStands, SpotStands}
use Rattle.mid_arena.proofs.Growing.{grows_same}
use Rattle.mid_arena.proofs.Lists.{set_elsewhere}
use Rattle.mid_arena.proofs.Memory.{word_here}
use Rattle.mid_arena.proofs.Registers.{register_here, register_beside}
use Rattle.mid_arena.proofs.Running.{RunsTo, and_then, and_ends, none_left, constant_falls}
use Rattle.back_lowering.specs.ControlWords.{control_address, serials_address}
use Rattle.back_lowering.specs.Steps.{Steps, constant}
use Rattle.back_relation.specs.Setting.{Setting, control_spot}
use Rattle.back_relation.specs.Placed.{IsPlaced}
use Rattle.back_relation.specs.Worlds.{World, Standing, Links}
use Rattle.back_relation.specs.StackWords.{HasWordAt}
use Rattle.back_relation.specs.Ends.{ChargedFrom, WorldKept}
use Rattle.back_relation.specs.Cuts.{boxes_cut}
use Rattle.back_relation.specs.Starts.{Start, ReachedFrom}
use Rattle.back_relation.specs.Stores.{stores}
use Rattle.back_relation.proofs.Activations.{activation_later}
use Rattle.back_relation.proofs.Windows.{draw_in, stored_elsewhere}
use Rattle.back_relation.proofs.Worlds.{Same}
use Rattle.back_exits.specs.Going.{world_with}
use Rattle.back_exits.specs.Inside.{around_at}
use Rattle.back_exits.specs.Touching.{Touched, touched, ExitsMade}
use Rattle.back_exits.proofs.Steps.{draw_ends}
use Rattle.back_exits.proofs.Touching.{world_touched, stored_from, stored_heap}
use Rattle.back_exits.proofs.Words.{control_lent, control_there, control_of}
use Rattle.back_exits.specs.Turns.{IsNewest, TurnBegins}

-- the steps in front of the loop
abbrev pub drawing : ℕ → Steps
drawing d = constant (d + 6) 0 ∷ constant (d + 7) 0 ∷ perform (Draw d (d + 7) (pos serials_address)) ∷ []

links_newest : (rs : List Standing) (a m : ℕ) (xs : List Exit) (vs : List Standing) → Links rs a m xs vs → IsNewest m xs
links_newest rs a m [] vs t = tt
links_newest rs a m (x ∷ xs) [] t = absurd t
links_newest rs a m (x ∷ xs) (v ∷ vs) t = t.3

module _ (setting : Setting) (placed : IsPlaced setting) (c : Context) (a : Start setting) (segments : ℕ) (some : 1 ≤ segments) (wide : a.d + 9 ≤ length a.regs) where
  abbrev pub drawn : ℕ
  drawn = a.begins.call.things.serials.0

  abbrev g1 : Registers
  g1 = slice_set a.regs (a.d + 6) (Some 0)

  abbrev pub counted_registers : Registers
  counted_registers = slice_set g1 (a.d + 7) (Some 0)

  abbrev pub drawn_registers : Registers
  drawn_registers = slice_set counted_registers a.d (Some (drawn + 1))

  abbrev stored : List (ℕ × ℕ)
  stored = (serials_address, drawn + 1) ∷ []

  abbrev pub counted_state : MidState
  counted_state = mid_charged 6 (mid_charged 6 a.y)

  abbrev pub drawn_state : MidState
  drawn_state = touched stored a.y.arena (a.y.cost + 6 + 6 + 26) a.y

  size1 : length g1 ≡ length a.regs
  size1 = length-set a.regs (a.d + 6) (Some 0)

  size2 : length counted_registers ≡ length a.regs
  size2 = length-set g1 (a.d + 7) (Some 0) ∙ size1

  size3 : length drawn_registers ≡ length a.regs
  size3 = length-set counted_registers a.d (Some (drawn + 1)) ∙ size2

  seven : register (a.d + 7) counted_registers ≡ Some 0
  seven = register_here g1 (a.d + 7) 0 (let same = size1 in omega (arith, same, wide))

  stands : ArenaStands a.y.arena
  stands = a.begins.call.things.represents.arena

  spot : SpotStands a.y.arena (control_spot setting)
  spot = control_of setting a.begins.call.things

  lent : is_lent a.y.arena serials_address ≡ true
  lent = control_lent setting spot 8 (omega arith) refl

  -- ---- the steps

  pub draws : (drawn == 2 ^ 32 - 1) ≡ false → RunsTo c (code_of (drawing a.d)) a.regs a.y (ends falls drawn_registers drawn_state)
  draws fewer =
      and_then constant_falls
      (and_then constant_falls
      (and_then
      (draw_in c [] 0 refl counted_registers counted_state a.d a.d (a.d + 7) (a.d + 7) 0 serials_address drawn (omega arith) (omega arith) seven (omega arith) a.begins.call.things.serials.1 fewer lent)
      none_left))

  pub draws_none : (drawn == 2 ^ 32 - 1) ≡ true → RunsTo c (code_of (drawing a.d)) a.regs a.y (ends exhausted counted_registers (mid_charged 26 counted_state))
  draws_none last =
      and_then constant_falls
      (and_then constant_falls
      (and_ends tt
      (draw_ends c [] 0 refl counted_registers counted_state a.d (a.d + 7) (a.d + 7) 0 serials_address drawn (omega arith) seven (omega arith) a.begins.call.things.serials.1 last)))

  -- ---- the exit was made

  module _ (fewer : (drawn == 2 ^ 32 - 1) ≡ false) where
    abbrev forms : List (Option ExitForm)
    forms = a.w.exit_forms ++ Some (Tagbody segments) ∷ []

    made : ExitsMade a.w a.z forms (a.z.state.exits + 1) (stores stored a.y.arena)
    made =
        let s = a.begins.call.things.serials in
        let count = s.2 in
        let low = s.3 in
        let not_last : s.0 ≡ 2 ^ 32 - 1 → ⊥ = eqb-false s.0 (2 ^ 32 - 1) fewer in
        record {
          drawn = s.0 + 1;
          word = word_here a.y.arena serials_address (s.0 + 1) lent (control_there setting spot stands 8 (omega arith));
          count = omega (arith, count);
          low = omega (arith, low, not_last);
          more = omega arith;
          form_count = length-append a.w.exit_forms (Some (Tagbody segments) ∷ []) ∙ ap (λ n. n + 1) a.begins.call.things.exit_forms;
          forms_kept = λ e o g. slice_get-front a.w.exit_forms (Some (Tagbody segments) ∷ []) e o g;
        }

    touching : Touched a.y.arena a.y.arena stored (stack_from a.y.arena)
    touching = record {
      grows = grows_same a.y.arena stands;
      from = a.y.arena.heap_to;
      to = a.y.arena.heap_to;
      touches = (refl, inl (omega arith, omega arith), tt);
      low = omega arith;
      high = stands.room;
      before = omega arith;
      after = omega arith;
      least = λ x low high. low;
    }

    abbrev pub world_drawn : World
    world_drawn = world_with (boxes_cut (stack_from a.y.arena) a.w.boxes) forms a.w

    abbrev pub flat_drawn : FlatState
    flat_drawn = exit_made a.z

    world : WorldKept setting a.w world_drawn a.z flat_drawn a.y drawn_state
    world = world_touched setting (a.y.cost + 6 + 6 + 26) (a.z.state.exits ∷ a.z.state.made) placed a.begins.call.things touching made

    same : (i : ℕ) → i < a.d → slice_get drawn_registers i ≡ slice_get a.regs i
    same i few =
        set_elsewhere counted_registers a.d i (Some (drawn + 1)) (λ e. omega (arith, e, few)) ∙ set_elsewhere g1 (a.d + 7) i (Some 0) (λ e. omega (arith, e, few))
        ∙ set_elsewhere a.regs (a.d + 6) i (Some 0) (λ e. omega (arith, e, few))

    same_words : Same a.w world_drawn a.y drawn_state
    same_words = record { blocks = refl; size = world.same_size; stack = world.stack }

    -- the other control words are as they were
    word_kept : (x n : ℕ) → (serials_address ≡ x → ⊥) → HasWordAt a.y x n → HasWordAt drawn_state x n
    word_kept x n other e = stored_elsewhere stored a.y.arena x (refl, tt) (other, tt) ∙ e

    taken : ChargedFrom a.z a.y flat_drawn drawn_state
    taken =
        let from = stored_from stored a.y.arena in
        let heap = stored_heap stored a.y.arena in
        omega (arith, from, heap)

    -- **a serial number was drawn**
    pub reached_drawn : ReachedFrom setting 38 a a.d world_drawn flat_drawn drawn_registers drawn_state
    reached_drawn = record {
      kept = record {
        world = world;
        activation = activation_later setting {d = a.d} world.later same_words refl (λ n cs k. k) (λ r few. ap word_in (same r few)) a.begins.scope a.begins.activation;
        registers = record { count = size3; same = λ i few n. same i few };
      };
      back = record {
        control = record {
          current = λ n e. word_kept control_address n (λ o. omega (arith, o)) e;
          link = λ n e. word_kept (control_address + 4) n (λ o. omega (arith, o)) e;
          handlers = λ n e. word_kept (control_address + 20) n (λ o. omega (arith, o)) e;
          bindings = λ n e. word_kept (control_address + 24) n (λ o. omega (arith, o)) e;
        };
        blocks = refl;
        charged = taken;
        paid = omega arith;
      };
    }

    number : drawn + 1 ≡ a.z.state.exits
    number = a.begins.call.things.serials.2

    -- **the first turn begins**
    pub first_turn : TurnBegins a.d segments a.z.state.exits 0 world_drawn a.env a.around flat_drawn drawn_registers
    first_turn = record {
      serial = register_here counted_registers a.d (drawn + 1) (let count = size2 in omega (arith, count, wide)) ∙ ap Some number;
      segment =
          register_beside counted_registers a.d (a.d + 6) (Some (drawn + 1)) (λ e. omega (arith, e)) ∙ register_beside g1 (a.d + 7) (a.d + 6) (Some 0) (λ e. omega (arith, e))
          ∙ register_here a.regs (a.d + 6) 0 (omega (arith, wide));
      there = omega (arith, some);
      some = let n = number in omega (arith, n);
      made = omega arith;
      form = ap (slice_get forms) (sym a.begins.call.things.exit_forms) ∙ slice_get-behind a.w.exit_forms (Some (Tagbody segments));
      newest = links_newest a.rs (around_at setting a).link a.z.state.exits a.around.exits a.valid (around_at setting a).links;
      elder = λ n x f same.
          let within = slice_get_within a.w.exit_forms x _ (a.begins.activation.exit_forms n x f) in
          let count = a.begins.call.things.exit_forms in
          omega (arith, same, within, count);
    }
