-- The word in the first register goes to an exit whose number is brought behind it: the site is stored, and the routine that seeks the number is
-- called.
use Rattle.std.proofs.Common.{◌≡◌, ℕ, zero, suc, ◌+◌, ◌≤◌, List, [], ◌∷◌, ◌++◌, length, Option, Some, None, refl, sym, ap, ◌∙◌, subst, arith}
use Rattle.std.specs.Prelude.{slice_get, slice_set}
use Rattle.std.proofs.Math.ListN.{length-set}
use Rattle.lang_meaning.specs.declared.scope.ExitForm.{ExitForm}
use Rattle.lang_meaning.specs.State.{at_segment}
use Rattle.lang_meaning.specs.Values.{Value}
use Rattle.flat_language.specs.declared.place.CapturedKind.TheVariants as kind
use Rattle.flat_language.specs.declared.place.ExitPlace.{ExitPlace}
use Rattle.flat_language.specs.declared.place.ExitPlace.TheVariants as place
use Rattle.flat_language.specs.FlatExits.{some_exit, made_by}
use Rattle.flat_language.specs.FlatSignals.{transfer}
use Rattle.flat_language.specs.FlatState.{Captured, of_exit, exit_in, exit_of, FlatEvaluated}
use Rattle.flat_laws.specs.FlatLater.{FlatLater}
use Rattle.flat_laws.proofs.Applied.{transfers}
use Rattle.flat_laws.proofs.Later.{later_kept}
use Rattle.mid_code.specs.Arena.{word_in}
use Rattle.mid_code.specs.Meaning.{Context, exec}
use Rattle.mid_code.specs.MidCode.{code_of}
use Rattle.mid_code.specs.State.{Registers, register, falls, ends, MidState}
use Rattle.mid_code.specs.State.{charged as mid_charged}
use Rattle.mid_arena.specs.Places.{word_of}
use Rattle.mid_arena.proofs.Lists.{set_elsewhere}
use Rattle.mid_arena.proofs.Registers.{register_here, register_beside}
use Rattle.mid_arena.proofs.Running.{RunsTo, and_then, none_left, constant_falls, move_falls, parts_then}
use Rattle.back_lowering.specs.Codes.{exit_code}
use Rattle.back_lowering.specs.ControlWords.{site_address}
use Rattle.back_lowering.specs.declared.scope.OwnExit.{OwnExit}
use Rattle.back_lowering.specs.declared.scope.Reach.TheVariants.{BySearch}
use Rattle.back_lowering.specs.declared.scope.Scope.{Scope}
use Rattle.back_lowering.specs.Leaves.{site_stored, captured_offset, captured_into}
use Rattle.back_lowering.specs.Records.{by_serial}
use Rattle.back_lowering.specs.Routines.{leave_routine}
use Rattle.back_lowering.specs.Steps.{Steps, constant, move, call}
use Rattle.back_relation.specs.Setting.{Setting}
use Rattle.back_relation.specs.Room.{routine_words}
use Rattle.back_relation.specs.Worlds.{World, LandsIn}
use Rattle.back_relation.specs.Things.{MadeBy, AreMadeBy}
use Rattle.back_relation.specs.Forms.{context_at, code_at}
use Rattle.back_relation.specs.RoutineClaims.{routine_credit}
use Rattle.back_relation.specs.Starts.{Start, ReachedFrom, EndsAt}
use Rattle.back_relation.proofs.Starts.{reached_set}
use Rattle.back_calling.specs.Calling.{Between, AllButTwo}
use Rattle.back_calling.specs.Storing.{stored_at, standing_world}
use Rattle.back_calling.proofs.Growing.{tasks_below}
use Rattle.back_calling.proofs.Sited.{sited_calls_law}
use Rattle.back_exits.proofs.Charging.{next_start, whole_then}
use Rattle.back_values.proofs.CapturedWords.{of_kind, is_exit, by_functions, part_there}
use Rattle.back_values.proofs.Far.{load_far_runs}
use Rattle.back_sought_exits.specs.Sought.{LeavingDoes}

-- what the code of such a way costs itself, at most, where the word that goes to the exit is there: a number that was captured may be far
abbrev pub seeking_cost : ExitPlace → ℕ
seeking_cost (place.Own n) = 90
seeking_cost (place.Captured n) = 108

-- the code of an own exit that is sought
pub search_code :
    (setting : Setting) (s : Scope) (d landing i : ℕ) (x : OwnExit) → slice_get s.exits i ≡ Some x → x.reach ≡ BySearch
    → exit_code setting.names setting.at setting.program s d landing (place.Own i) ≡ by_serial setting.at s.site (move (d + 1) x.serial ∷ []) d (d + 1) landing
search_code setting s d landing i x e f = rw e (rw f refl)

-- an exit that was captured was made by the form that is known
made_at :
    (w : World) (cs : List Captured) (fs : List (Option ExitForm)) (i e : ℕ) → AreMadeBy w cs fs → slice_get cs i ≡ Some (of_exit (Some e))
    → slice_get w.exit_forms e ≡ Some (some_exit (slice_get fs i))
made_at w [] fs i e h g = absurd (cc g)
made_at w (c ∷ cs) [] i e h g = absurd h
made_at w (c ∷ cs) (f ∷ fs) zero e h g = let same : c ≡ of_exit (Some e) = cc g in subst (λ x. MadeBy w x f) same h.0
made_at w (c ∷ cs) (f ∷ fs) (suc i) e h g = made_at w cs fs i e h.1 g

module _ (setting : Setting) (k : ℕ) (a : Start setting) (there : a.d + 4 ≤ length a.regs) (enough_words : routine_words ≤ a.n) (does : LeavingDoes setting k a.turns)
    (landing : ℕ) (v : Value) (word : ℕ) (in_register : register a.d a.regs ≡ Some word) (of_value : word_of a.w.places v ≡ Some word) where
  abbrev c : Context
  c = code_at setting k a.turns

  abbrev goes : Option ℕ → FlatEvaluated
  goes o = transfer (context_at setting k) o v (at_segment landing) a.around a.z

  -- the registers with the number, and the state where it is there
  abbrev g : ℕ → Registers
  g e = slice_set a.regs (a.d + 1) (Some e)

  between :
      (e : ℕ) (regs : Registers) (y : MidState) → AllButTwo (a.d + 1 + 1) (a.d + 1 + 2) (g e) regs
      → Between c (constant (a.d + 1 + 1) landing ∷ []) regs y a.d 6 ((a.d + 1) ∷ a.d ∷ (a.d + 1 + 1) ∷ []) (e ∷ word ∷ landing ∷ [])
  between e regs y others =
      let first : length (g e) ≡ length a.regs = length-set a.regs (a.d + 1) (Some e) in
      let size = others.count in
      record {
        regs' = slice_set regs (a.d + 1 + 1) (Some landing);
        runs = (and_then constant_falls none_left).same;
        arguments_there = (
          register_beside regs (a.d + 1 + 1) (a.d + 1) (Some landing) (λ f. omega (arith, f))
              ∙ ap word_in (others.same (a.d + 1) (λ f. omega (arith, f)) (λ f. omega (arith, f)))
              ∙ register_here a.regs (a.d + 1) e (omega (arith, there)),
          (
            register_beside regs (a.d + 1 + 1) a.d (Some landing) (λ f. omega (arith, f))
                ∙ ap word_in (others.same a.d (λ f. omega (arith, f)) (λ f. omega (arith, f)))
                ∙ register_beside a.regs (a.d + 1) a.d (Some e) (λ f. omega (arith, f))
                ∙ in_register,
            (register_here regs (a.d + 1 + 1) landing (omega (arith, size, first, there)), tt),
          ),
        );
        below = λ i h. set_elsewhere regs (a.d + 1 + 1) i (Some landing) (λ f. omega (arith, f, h));
        count = length-set regs (a.d + 1 + 1) (Some landing);
      }

  -- **the number came into the register behind the word**
  pub sought :
      (total spent e : ℕ) (serial : Steps) → routine_credit + spent + 84 ≤ total → RunsTo c (code_of serial) a.regs a.y (ends falls (g e) (mid_charged spent a.y))
      → LandsIn (slice_get a.w.exit_forms e) (at_segment landing)
      → EndsAt setting total a (goes (Some e)) (exec c (code_of (by_serial setting.at a.s.code.site serial a.d (a.d + 1) landing)) a.regs a.y)
  sought total spent e serial enough runs lands =
      let first : length (g e) ≡ length a.regs = length-set a.regs (a.d + 1) (Some e) in
      let x : ReachedFrom setting spent a a.d a.w a.z (g e) (mid_charged spent a.y) = reached_set setting a a.d (a.d + 1) e spent (omega arith) (omega arith) (omega arith) in
      let b : Start setting = next_start setting (routine_credit + 84) total a a.d a.d a.n (omega arith) (omega arith) (omega arith) a.begins.first x (omega (arith, enough)) in
      let rest : Steps =
      site_stored a.s.code.site (a.d + 1 + 1) (a.d + 1 + 2)
      ++ (constant (a.d + 1 + 1) landing ∷ call a.d (leave_routine setting.at) ((a.d + 1) ∷ a.d ∷ (a.d + 1 + 1) ∷ []) ∷ []) in
      subst (λ q. EndsAt setting total a (goes (Some e)) q) (sym (parts_then serial rest runs (record { same = refl })).same)
      (whole_then setting {c1 = spent} (routine_credit + 84) total a a.d a.d a.n (omega arith) (omega arith) (omega arith) a.begins.first x (omega (arith, enough)) {r = goes (Some e)} {q = exec c (code_of rest) (g e) b.y} (omega arith)
      (sited_calls_law setting k b (routine_credit + 84) routine_words routine_credit 6 a.d (a.d + 1 + 1) (a.d + 1 + 2) (leave_routine setting.at) (constant (a.d + 1 + 1) landing ∷ []) ((a.d + 1) ∷ a.d ∷ (a.d + 1 + 1) ∷ [])
      (e ∷ word ∷ landing ∷ []) (goes (Some e)) (omega arith) (omega arith) (omega arith) (omega arith) (omega (arith, first, there)) enough_words
      (transfers {R = FlatLater} {k = later_kept} (context_at setting k) (tasks_below setting k) (Some e) v (at_segment landing) a.around a.z).grows
      (λ regs number paid others. between e regs (stored_at site_address number paid b.y) others)
      (λ number paid. does a.rs a.valid (standing_world b.w b.y) a.around a.z (stored_at site_address number paid b.y) e v (at_segment landing) word landing of_value refl lands)))

  abbrev pub Comes : (total : ℕ) → ExitPlace → Type 0
  Comes total p = EndsAt setting total a (goes (exit_of p a.env)) (exec c (code_of (exit_code setting.names setting.at setting.program a.s.code a.d landing p)) a.regs a.y)

  abbrev pub Lands : ExitPlace → Type 0
  Lands p = (e : ℕ) → slice_get a.w.exit_forms e ≡ Some (made_by a.s.exits p) → LandsIn (slice_get a.w.exit_forms e) (at_segment landing)

  -- **an own exit is sought**
  pub own_sought :
      (total i : ℕ) (x : OwnExit) → routine_credit + seeking_cost (place.Own i) ≤ total → slice_get a.s.code.exits i ≡ Some x → x.reach ≡ BySearch → Lands (place.Own i) → Comes total (place.Own i)
  own_sought total i x enough found by_search lands =
      let own = a.begins.activation.exits i x found in
      let e : ℕ = own.0 in
      subst (λ o. EndsAt setting total a (goes o) (exec c (code_of (exit_code setting.names setting.at setting.program a.s.code a.d landing (place.Own i))) a.regs a.y)) (sym own.1)
      (subst (λ ss. EndsAt setting total a (goes (Some e)) (exec c (code_of ss) a.regs a.y)) (sym (search_code setting a.s.code a.d landing i x found by_search))
      (sought total 6 e (move (a.d + 1) x.serial ∷ []) (omega (arith, enough)) (and_then (move_falls own.2) none_left) (lands e (a.begins.activation.exit_forms i e own.1))))

  -- **an exit that was captured is sought**
  pub captured_sought : (total i : ℕ) → routine_credit + seeking_cost (place.Captured i) ≤ total → slice_get a.s.flat.captured i ≡ Some kind.Exit → Lands (place.Captured i) → Comes total (place.Captured i)
  captured_sought total i enough stands lands =
      let part = of_kind a.s.flat.captured a.env.captured i kind.Exit a.begins.activation.kinds stands in
      let o = is_exit part.0 part.2 in by o.0 (part.1 ∙ ap (λ x. Some x) o.1)
    where
      by : (o : Option ℕ) → slice_get a.env.captured i ≡ Some (of_exit o) → Comes total (place.Captured i)
      by None found =
          absurd
          (part_there setting a.begins.call.things (by_functions setting a.begins.call.things) (register a.s.code.function a.regs) a.env.captured a.begins.activation.self i (of_exit None) found).at.is
      by (Some e) found =
          let part =
          part_there setting a.begins.call.things (by_functions setting a.begins.call.things) (register a.s.code.function a.regs) a.env.captured a.begins.activation.self i (of_exit (Some e)) found in
          let own = a.begins.scope.self.0 in
          let loaded =
          load_far_runs c a.regs a.y (a.d + 1) a.s.code.function (captured_offset i) part.pointer part.at.word (omega (arith, there)) (λ f. omega (arith, own, f)) part.held part.low part.at.stands in
          let few = loaded.within in
          subst (λ o. EndsAt setting total a (goes o) (exec c (code_of (exit_code setting.names setting.at setting.program a.s.code a.d landing (place.Captured i))) a.regs a.y)) (sym (ap exit_in found))
          (sought total loaded.cost e (captured_into a.s.code (a.d + 1) i) (omega (arith, enough, few))
          (subst (λ u. RunsTo c (code_of (captured_into a.s.code (a.d + 1) i)) a.regs a.y (ends falls (g u) (mid_charged loaded.cost a.y))) part.at.is loaded.run)
          (lands e (made_at a.w a.env.captured a.s.exits.captured i e a.begins.activation.made_by found)))
